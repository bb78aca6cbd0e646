use Rattle.std.proofs.Common.{◌≡◌, [], ◌∷◌, Err, arith}
use Rattle.std.proofs.lemmas.Result.{err_from_is_err_and}
use Rattle.market_words.specs.Words.{pieces, both, number_id, number_up_to, id_of}
use Rattle.market_texts.specs.Reading.{quantity}
use Rattle.market_events.specs.WellFormed.{total_max}
use Rattle.market_texts.specs.Cutting.{open_status_of}
use Rattle.market_texts.proofs.forms.row.Goals as goal

pub returns-in_err-checkout-2 : goal.returns-in_err-checkout-2
returns-in_err-checkout-2 c =
    let exit = err_from_is_err_and c.from_residual-in_err-checkout-2.result c.from_residual-in_err-checkout-2.ensures.1 in
    let whole : pieces 58 c.args.text.now ≡ c.in_ok-checkout.checkout.now ∷ c.in_ok-product.product.now ∷ c.in_ok-number.number.now ∷ c.in_ok-amount.amount.now ∷ c.in_ok-status.status.now ∷ [] = grind arith in
    let bad : both (id_of c.in_ok-checkout.checkout.now) (both (number_id c.in_ok-product.product.now) (both (quantity c.in_ok-number.number.now) (both (number_up_to total_max c.in_ok-amount.amount.now) (open_status_of c.in_ok-status.status.now)))) ≡ Err c.in_err-checkout-2.field-0.0 =
    rw (← c.id.ensures, ← c.id_number.ensures, ← c.quantity.ensures, ← c.number_within.ensures, ← c.open_status.ensures, ← c.both-state.ensures, ← c.both-pieces.ensures, ← c.both.ensures, ← c.both-2.ensures) c.in_err-checkout-2.was in
    rw (exit.1, exit.2, whole, bad)
