-- What holds of shipments after a run, and their open packages after one more step.
use Rattle.std.proofs.Common.{◌≡◌, true, false, ◌||◌, List, [], ◌∷◌, ◌++◌, length, filter_map, refl, ap, sym, ◌∙◌}
use Rattle.std.specs.List.{list_any, flat_map}
use Rattle.std.proofs.lemmas.List.Folds.{list_any-append}
use Rattle.market_amounts.specs.declared.keys.RequestId.{RequestId}
use Rattle.market_events.specs.declared.bodies.Body.{Body}
use Rattle.market_events.specs.declared.bodies.Body.TheVariants as body
use Rattle.market_events.specs.declared.bodies.PricedLine.{PricedLine}
use Rattle.market_events.specs.declared.links.TheConstants.{SHIPMENT_TO_CUSTOMER}
use Rattle.market_events.specs.declared.requests.Ask.{Ask}
use Rattle.market_events.specs.declared.requests.Ask.TheVariants as ask
use Rattle.market_events.specs.Orders.{items_in, is_taken}
use Rattle.market_events.specs.Requests.{same_id}
use Rattle.market_events.specs.Services.{Role, Follows, IsRunOf, shipment_fits}
use Rattle.market_events.specs.Shipments.{packages_in, packages, items_made, is_open, open_packages, oldest_of, delivered_of, deliver_rows, shipment_asked, shipment_rows, shipment_sums}
use Rattle.market_events.specs.Steps.{Step, Sending, body_on}
use Rattle.market_events.specs.Stocks.{confirms}
use Rattle.market_events.proofs.Values.Lists.{or_parts, any_filter-none}
use Rattle.market_events.proofs.Runs.Orders.{is_item_for}
use Rattle.market_events.proofs.Steps.Shipments.{packages-push, packages-same, items_of, items_made-push, items_made-same, answers-shipment, deliver_rows-items, goes_with}
use Rattle.market_events.proofs.Steps.Taken.{is_taken-push, fits-parts, run_has}

-- what holds of shipments after a run: a checkout that was not paid has no package, and none of it was delivered
pub record ShipmentRun (steps : List Step) : Type 0 where
  pub unpacked : (id : RequestId) → is_taken confirms steps id ≡ false → list_any (is_item_for id) (packages steps) ≡ false
  pub undelivered : (id : RequestId) → is_taken confirms steps id ≡ false → list_any (is_item_for id) (items_made steps) ≡ false

-- a step that brings no package, and delivers only what is open
delivering : (steps : List Step) (s : Step) → ((id : RequestId) → confirms id s.body ≡ false) → packages_in s.body ≡ [] → ((id : RequestId) → is_taken confirms steps id ≡ false → list_any (is_item_for id) (items_of s) ≡ false) → ShipmentRun steps → ShipmentRun (steps ++ s ∷ [])
delivering steps s quiet none few run = record {
  unpacked = λ id unpaid. rw (packages-same steps s none) (run.unpacked id (before id unpaid));
  undelivered = λ id unpaid. rw (items_made-push steps s, list_any-append (is_item_for id) (items_made steps) (items_of s), run.undelivered id (before id unpaid)) (few id (before id unpaid));
}
  where
    before : (id : RequestId) → is_taken confirms (steps ++ s ∷ []) id ≡ false → is_taken confirms steps id ≡ false
    before id unpaid = (or_parts (is_taken confirms steps id) (confirms id s.body) (sym (is_taken-push confirms steps s id) ∙ unpaid)).0

-- the items that a step with these sendings made
items_by : (s : Step) (made : List Sending) → s.made ≡ made → items_of s ≡ flat_map items_in (filter_map (body_on SHIPMENT_TO_CUSTOMER) made)
items_by s made is = ap (λ m. flat_map items_in (filter_map (body_on SHIPMENT_TO_CUSTOMER) m)) is

-- what a request makes
asked : (steps : List Step) (s : Step) (id : RequestId) (what : Ask) → s.body ≡ body.Asked (record { id = id; ask = what }) → s.made ≡ shipment_asked (shipment_sums steps) id what → ShipmentRun steps → ShipmentRun (steps ++ s ∷ [])
asked steps s id ask.Deliver is made run =
    delivering steps s (λ other. ap (confirms other) is) (ap packages_in is) (λ other unpaid.
    ap (list_any (is_item_for other)) (items_by s (deliver_rows id (delivered_of (open_packages steps)) (length (oldest_of (open_packages steps)))) made ∙ deliver_rows-items id (delivered_of (open_packages steps)) (length (oldest_of (open_packages steps))))
    ∙ any_filter-none (is_item_for other) (goes_with (oldest_of (open_packages steps))) (open_packages steps) (any_filter-none (is_item_for other) (is_open steps) (packages steps) (run.unpacked other unpaid))) run
asked steps s id other is made run = delivering steps s (λ another. ap (confirms another) is) (ap packages_in is) (λ another unpaid. ap (list_any (is_item_for another)) (items_by s [] made)) run

-- each body that fits keeps it
by_body : (steps : List Step) (s : Step) (b : Body) → s.body ≡ b → s.made ≡ shipment_rows (shipment_sums steps) b → shipment_fits steps b ≡ true → ShipmentRun steps → ShipmentRun (steps ++ s ∷ [])
by_body steps s (body.Asked request) is made fit run = asked steps s request.id request.ask is made run
by_body steps s (body.Confirmed checkout customer lines total) is made fit run = record {
  unpacked = λ id unpaid. let parts = before id unpaid in
      rw (packages-push steps s, list_any-append (is_item_for id) (packages steps) (packages_in s.body), run.unpacked id parts.0) (ap (λ b. list_any (is_item_for id) (packages_in b)) is ∙ other_packages id parts.1 lines);
  undelivered = λ id unpaid. rw (items_made-same steps s (items_by s (shipment_rows (shipment_sums steps) (body.Confirmed checkout customer lines total)) made)) (run.undelivered id (before id unpaid).0);
}
  where
    before : (id : RequestId) → is_taken confirms (steps ++ s ∷ []) id ≡ false → (is_taken confirms steps id ≡ false) × (same_id checkout id ≡ false)
    before id unpaid = or_parts (is_taken confirms steps id) (same_id checkout id) (ap (λ b. is_taken confirms steps id || confirms id b) (sym is) ∙ sym (is_taken-push confirms steps s id) ∙ unpaid)

    other_packages : (id : RequestId) → same_id checkout id ≡ false → (lines : List PricedLine) → list_any (is_item_for id) (packages_in (body.Confirmed checkout customer lines total)) ≡ false
    other_packages id other [] = refl
    other_packages id other (line ∷ lines) = rw other (other_packages id other lines)
by_body steps s other is made fit run = cc

-- a step that follows keeps it
pub ShipmentRun-keeps : (steps : List Step) (s : Step) → Follows Role.Shipment steps s → ShipmentRun steps → ShipmentRun (steps ++ s ∷ [])
ShipmentRun-keeps steps s follows run =
    by_body steps s s.body refl (follows.made ∙ answers-shipment steps s.from s.body) (fits-parts Role.Shipment steps s.from s.body follows.fit).due run

-- a run of shipments has it
pub ShipmentRun-of : (steps : List Step) → IsRunOf Role.Shipment steps → ShipmentRun steps
ShipmentRun-of steps run = run_has Role.Shipment ShipmentRun ShipmentRun-keeps (record { unpacked = λ id unpaid. refl; undelivered = λ id unpaid. refl }) steps run
