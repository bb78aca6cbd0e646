-- Packages that are of lines of their checkouts.
use Rattle.std.proofs.Common.{◌≡◌, Bool, true, false, ◌&&◌, cond, List, [], ◌∷◌, map, filter, refl, ◌∙◌}
use Rattle.std.specs.List.{list_any, list_all}
use Rattle.std.proofs.lemmas.List.Folds.{list_all-append}
use Rattle.market_amounts.specs.declared.keys.ProductKey.{ProductKey}
use Rattle.market_events.specs.declared.bodies.Item.{Item}
use Rattle.market_events.specs.declared.bodies.PricedLine.{PricedLine}
use Rattle.market_events.specs.Orders.{is_of}
use Rattle.market_events.specs.Requests.{same_id, same_key}
use Rattle.market_events.specs.Services.{is_line_of}
use Rattle.market_events.specs.Stocks.{Reservation}
use Rattle.market_events.proofs.Values.Lists.{and_both, and_from, or_left, or_right}
use Rattle.market_events.proofs.Values.Same.{same_id-self, same_key-self}
use Rattle.market_history.specs.Acts.{packages_for, packages_of_checkouts}
use Rattle.market.proofs.Agreeing.Checkouts.{is_line_in, all_weaker}

-- of elements that all pass, those that a filter keeps pass
pub all-filter : {A : Type 0} (test keep : A → Bool) (xs : List A) → list_all test xs ≡ true → list_all test (filter keep xs) ≡ true
all-filter test keep [] all = refl
all-filter test keep (x ∷ xs) all =
    let both = and_both (test x) (list_all test xs) all in
    either (keep x) both.0 (all-filter test keep xs both.1)
  where
    either : (b : Bool) → test x ≡ true → list_all test (filter keep xs) ≡ true → list_all test (cond b (x ∷ filter keep xs) (filter keep xs)) ≡ true
    either true passes rest = rw passes rest
    either false passes rest = rest

-- each package is of a line of its checkout
own-lines : (r : Reservation) (rs : List Reservation) (lines : List PricedLine) → ((key : ProductKey) → list_any (λ (line : PricedLine). same_key line.key key) lines ≡ true → list_any (λ (line : PricedLine). same_key line.key key) r.lines ≡ true)
    → list_all (is_line_in (r ∷ rs)) (map (λ (line : PricedLine). record { checkout = r.checkout; customer = r.customer; key = line.key }) lines) ≡ true
own-lines r rs [] within = refl
own-lines r rs (line ∷ lines) within =
    let p : Item = record { checkout = r.checkout; customer = r.customer; key = line.key } in
    and_from (is_line_in (r ∷ rs) p) (list_all (is_line_in (r ∷ rs)) (map (λ (line : PricedLine). record { checkout = r.checkout; customer = r.customer; key = line.key }) lines))
    (or_left (same_id r.checkout r.checkout && is_line_of r.lines p) (is_line_in rs p)
    (and_from (same_id r.checkout r.checkout) (is_line_of r.lines p) (same_id-self r.checkout)
    (within line.key (or_left (same_key line.key line.key) (list_any (λ (l : PricedLine). same_key l.key line.key) lines) (same_key-self line.key)))))
    (own-lines r rs lines (λ key any. within key (or_right (same_key line.key key) any)))

pub packages-lines : (whole : List Reservation) → list_all (is_line_in whole) (packages_of_checkouts whole) ≡ true
packages-lines [] = refl
packages-lines (r ∷ rs) =
    list_all-append (is_line_in (r ∷ rs)) (packages_for r) (packages_of_checkouts rs)
    ∙ and_from (list_all (is_line_in (r ∷ rs)) (packages_for r)) (list_all (is_line_in (r ∷ rs)) (packages_of_checkouts rs)) (own-lines r rs r.lines (λ key any. any))
    (all_weaker (is_line_in rs) (is_line_in (r ∷ rs)) (λ p among. or_right (is_of p.checkout r && is_line_of r.lines p) among) (packages_of_checkouts rs) (packages-lines rs))
