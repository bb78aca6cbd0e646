use Rattle.std.proofs.Common.{◌≡◌, [], ◌∷◌, Err, arith}
use Rattle.std.proofs.lemmas.Result.{err_from_is_err_and}
use Rattle.market_words.specs.Words.{pieces, both, key_in}
use Rattle.market_texts.specs.Reading.{quantity, cents}
use Rattle.market_texts.proofs.forms.line.Goals as goal

pub returns-in_err-key : goal.returns-in_err-key
returns-in_err-key c =
    let exit = err_from_is_err_and c.from_residual-in_err-key.result c.from_residual-in_err-key.ensures.1 in
    let whole : pieces 58 c.args.text.now ≡ c.in_ok-seller.seller.now ∷ c.in_ok-product.product.now ∷ c.in_ok-number.number.now ∷ c.in_ok-price.price.now ∷ c.in_ok-freight.freight.now ∷ c.in_ok-voucher.voucher.now ∷ [] = grind (arith) in
    let bad : both (key_in c.in_ok-seller.seller.now c.in_ok-product.product.now) (both (quantity c.in_ok-number.number.now) (both (cents c.in_ok-price.price.now) (both (cents c.in_ok-freight.freight.now) (cents c.in_ok-voucher.voucher.now)))) ≡ Err c.in_err-key.field-0.0 =
    rw (← c.key_of_two.ensures, ← c.quantity.ensures, ← c.cents.ensures, ← c.cents-2.ensures, ← c.cents-3.ensures, ← c.both.ensures, ← c.both-costs.ensures, ← c.both-2.ensures, ← c.both-3.ensures) c.in_err-key.was in
    rw (exit.1, exit.2, whole, bad)
