-- What holds of shipments after a run: a checkout is shipped once, where it was paid, and what is delivered was shipped before.
use Rattle.std.proofs.Common.{◌≡◌, ℕ, ◌≤◌, true, false, cond, List, [], ◌∷◌, ◌++◌, length, filter, count_by, ◌⊎◌, inl, inr, refl, ap, sym, subst, ◌∙◌, arith}
use Rattle.std.specs.List.{list_any, flat_map}
use Rattle.market_amounts.specs.declared.keys.RequestId.{RequestId}
use Rattle.market_events.specs.declared.bodies.Body.{Body}
use Rattle.market_events.specs.declared.bodies.Body.TheVariants as body
use Rattle.market_events.specs.declared.bodies.Item.{Item}
use Rattle.market_events.specs.declared.bodies.PricedLine.{PricedLine}
use Rattle.market_events.specs.declared.links.TheConstants.{SHIPMENT_TO_ORDER, SHIPMENT_TO_SELLER}
use Rattle.market_events.specs.declared.links.TheConstants.{SHIPMENT_TO_CUSTOMER}
use Rattle.market_events.specs.declared.replies.Reply.{Reply}
use Rattle.market_events.specs.declared.replies.Reply.TheVariants as reply
use Rattle.market_events.specs.declared.requests.Ask.{Ask}
use Rattle.market_events.specs.declared.requests.Ask.TheVariants as ask
use Rattle.market_events.specs.Links.{shipment_node, service_by_ask}
use Rattle.market_events.specs.Orders.{ships}
use Rattle.market_events.specs.Requests.{same_id, same_key}
use Rattle.market_events.specs.declared.roles.Role.{Role}
use Rattle.market_events.specs.Services.{Follows, IsRunOf, role_fits, asks, is_line_of}
use Rattle.market_events.specs.Shipments.{ShipmentSums, packages_in, packages, is_open, open_packages, oldest_of, delivered_of, deliver_rows, shipment_asked, shipment_rows, shipment_sums}
use Rattle.market_events.specs.Steps.{Step, Sending, taken_bodies, made_on, told}
use Rattle.market_events.specs.Stocks.{confirms}
use Rattle.market_events.proofs.Values.Lists.{not_true, or_left, or_right}
use Rattle.market_events.proofs.Values.Same.{same_id-true, same_key-self}
use Rattle.market_events.proofs.Steps.Shipments.{answers-shipment, goes_with}
use Rattle.market_events.proofs.Steps.Taken.{taken_bodies-push, made_on-push, run_has}
use Rattle.market_laws.specs.Runs.{Member, IsPaidFor, bodies_made, tells, is_delivery}
use Rattle.market_laws.proofs.Runs.Counts.{on, count_on, count_all, joining-on, joining-kind, adding-on, made-is-taken, IsHere, told-is-asked, same_made, taken_once, member-taken, member-taken-before, member-left, member-right, member-either, member-filter, one}
use Rattle.market_laws.proofs.Runs.Causes.{MadeOn, made_split, made_by}

-- what holds of the answers holds of what a step makes
shipment_makes : (P : List Sending → Body → Type 0) → ((s : ShipmentSums) (b : Body) → P (shipment_rows s b) b) → (before : List Step) (s : Step) → Follows Role.Shipment before s → P s.made s.body
shipment_makes P holds before s follows = subst (λ made. P made s.body) (sym (follows.made ∙ answers-shipment before s.from s.body)) (holds (shipment_sums before) s.body)

-- what a delivery makes
abbrev delivery : RequestId → List Item → ℕ → List Sending
delivery id items sellers =
    (SHIPMENT_TO_CUSTOMER, body.Delivered items) ∷ (SHIPMENT_TO_SELLER, body.Delivered items) ∷ (SHIPMENT_TO_ORDER, body.Delivered items) ∷ told shipment_node id (reply.Delivered sellers (length items)) ∷ []

-- what holds of nothing, where the request is not for shipments, of a reply and of a delivery of what is due, holds of what a request makes
asked_cases : (P : List Sending → Type 0) (s : ShipmentSums) (id : RequestId) (a : Ask) → ((service_by_ask a ≡ shipment_node → ⊥) → P []) → ((r : Reply) → P (told shipment_node id r ∷ [])) → ((items : List Item) (sellers : ℕ) → items ≡ delivered_of s.waiting → P (delivery id items sellers)) → P (shipment_asked s id a)
asked_cases P s id ask.Deliver nothing tell deliver = by_items (delivered_of s.waiting) refl
  where
    by_items : (items : List Item) → items ≡ delivered_of s.waiting → P (deliver_rows id items (length (oldest_of s.waiting)))
    by_items [] is = tell (reply.Delivered 0 0)
    by_items (i ∷ more) is = deliver (i ∷ more) (length (oldest_of s.waiting)) is
asked_cases P s id other nothing tell deliver = nothing (λ here. absurd (omega arith))

-- shipments tell as much as they were asked
pub shipment_told-is : (steps : List Step) → IsRunOf Role.Shipment steps → (id : RequestId) → count_by (tells id) (bodies_made steps) ≡ count_by (asks id) (taken_bodies steps)
shipment_told-is steps run id = told-is-asked Role.Shipment id (shipment_makes (λ made b. IsHere Role.Shipment b → count_all (tells id) made ≡ cond (asks id b) 1 0) each) steps run
  where
    each : (s : ShipmentSums) (b : Body) → IsHere Role.Shipment b → count_all (tells id) (shipment_rows s b) ≡ cond (asks id b) 1 0
    each s (body.Asked request) here = asked_cases (λ made. count_all (tells id) made ≡ cond (same_id request.id id) 1 0) s request.id request.ask (λ elsewhere. absurd (elsewhere here)) (λ r. omega arith) (λ items sellers due. omega arith)
    each s other here = refl

-- the same goes to orders and to sellers
pub shipments-to-seller : (steps : List Step) → IsRunOf Role.Shipment steps → made_on SHIPMENT_TO_ORDER steps ≡ made_on SHIPMENT_TO_SELLER steps
shipments-to-seller steps run = same_made Role.Shipment (on SHIPMENT_TO_ORDER) (on SHIPMENT_TO_SELLER) (joining-on SHIPMENT_TO_ORDER) (joining-on SHIPMENT_TO_SELLER) (shipment_makes (λ made b. on SHIPMENT_TO_ORDER made ≡ on SHIPMENT_TO_SELLER made) each) steps run
  where
    each : (s : ShipmentSums) (b : Body) → on SHIPMENT_TO_ORDER (shipment_rows s b) ≡ on SHIPMENT_TO_SELLER (shipment_rows s b)
    each s (body.Asked request) = asked_cases (λ made. on SHIPMENT_TO_ORDER made ≡ on SHIPMENT_TO_SELLER made) s request.id request.ask (λ elsewhere. refl) (λ r. refl) (λ items sellers due. refl)
    each s other = refl

-- the deliveries go to customers
pub deliveries-to-customer : (steps : List Step) → IsRunOf Role.Shipment steps → made_on SHIPMENT_TO_CUSTOMER steps ≡ filter is_delivery (made_on SHIPMENT_TO_ORDER steps)
deliveries-to-customer steps run = same_made Role.Shipment (on SHIPMENT_TO_CUSTOMER) (λ made. filter is_delivery (on SHIPMENT_TO_ORDER made)) (joining-on SHIPMENT_TO_CUSTOMER) (joining-kind SHIPMENT_TO_ORDER is_delivery) (shipment_makes (λ made b. on SHIPMENT_TO_CUSTOMER made ≡ filter is_delivery (on SHIPMENT_TO_ORDER made)) each) steps run
  where
    each : (s : ShipmentSums) (b : Body) → on SHIPMENT_TO_CUSTOMER (shipment_rows s b) ≡ filter is_delivery (on SHIPMENT_TO_ORDER (shipment_rows s b))
    each s (body.Asked request) = asked_cases (λ made. on SHIPMENT_TO_CUSTOMER made ≡ filter is_delivery (on SHIPMENT_TO_ORDER made)) s request.id request.ask (λ elsewhere. refl) (λ r. refl) (λ items sellers due. refl)
    each s other = refl

-- as much is shipped as is paid
pub shipped-is : (steps : List Step) → IsRunOf Role.Shipment steps → (id : RequestId) → count_by (ships id) (made_on SHIPMENT_TO_ORDER steps) ≡ count_by (confirms id) (taken_bodies steps)
shipped-is steps run id = made-is-taken Role.Shipment (count_on SHIPMENT_TO_ORDER (ships id)) (λ b. cond (confirms id b) 1 0) (adding-on SHIPMENT_TO_ORDER (ships id)) (shipment_makes (λ made b. count_on SHIPMENT_TO_ORDER (ships id) made ≡ cond (confirms id b) 1 0) each) steps run
  where
    each : (s : ShipmentSums) (b : Body) → count_on SHIPMENT_TO_ORDER (ships id) (shipment_rows s b) ≡ cond (confirms id b) 1 0
    each s (body.Asked request) = asked_cases (λ made. count_on SHIPMENT_TO_ORDER (ships id) made ≡ 0) s request.id request.ask (λ elsewhere. refl) (λ r. refl) (λ items sellers due. refl)
    each s (body.Confirmed checkout customer lines total) = omega arith
    each s other = refl

-- a checkout is paid once at most
pub confirms-once : (steps : List Step) → IsRunOf Role.Shipment steps → (id : RequestId) → count_by (confirms id) (taken_bodies steps) ≤ 1
confirms-once steps run id = taken_once Role.Shipment (confirms id) new steps run
  where
    new : (before : List Step) (b : Body) → role_fits Role.Shipment before b ≡ true → confirms id b ≡ true → list_any (confirms id) (taken_bodies before) ≡ false
    new before (body.Confirmed checkout customer lines total) fit same = ap (λ id. list_any (confirms id) (taken_bodies before)) (sym (same_id-true checkout id same)) ∙ not_true (list_any (confirms checkout) (taken_bodies before)) fit
    new before other fit same = cc

-- what shipments make to orders, by what they took, where these packages are open
abbrev IsShipping : List Item → Body → Body → Type 0
IsShipping waiting (body.Shipped checkout) b = (customer : ℕ) × (lines : List PricedLine) × (total : ℕ) × (b ≡ body.Confirmed checkout customer lines total)
IsShipping waiting (body.Delivered items) b = items ≡ delivered_of waiting
IsShipping waiting other b = ⊥

shipping : (s : ShipmentSums) (b made : Body) → on SHIPMENT_TO_ORDER (shipment_rows s b) ≡ made ∷ [] → IsShipping s.waiting made b
shipping s (body.Asked request) made is =
    asked_cases (λ rows. on SHIPMENT_TO_ORDER rows ≡ made ∷ [] → IsShipping s.waiting made (body.Asked request)) s request.id request.ask (λ elsewhere none. cc) (λ r none. cc) (λ items sellers due is. subst (λ m. IsShipping s.waiting m (body.Asked request)) (one is) due) is
shipping s (body.Confirmed checkout customer lines total) made is = subst (λ m. IsShipping s.waiting m (body.Confirmed checkout customer lines total)) (one is) (customer, lines, total, refl)
shipping s other made is = cc

-- at the step that made it
shipping-at : (steps : List Step) (xs : List Body) (made : Body) (m : MadeOn Role.Shipment SHIPMENT_TO_ORDER steps xs made) → IsShipping (open_packages m.before) made m.step.body
shipping-at steps xs made m = shipping (shipment_sums m.before) m.step.body made (sym (ap (on SHIPMENT_TO_ORDER) (m.follows.made ∙ answers-shipment m.before m.step.from m.step.body)) ∙ m.here)

-- a checkout that is shipped was paid
pub shipped-paid : (steps : List Step) → IsRunOf Role.Shipment steps → (checkout : RequestId) → Member (body.Shipped checkout) (made_on SHIPMENT_TO_ORDER steps) → (customer : ℕ) × (lines : List PricedLine) × (total : ℕ) × Member (body.Confirmed checkout customer lines total) (taken_bodies steps)
shipped-paid steps run checkout here =
    let found = made_by Role.Shipment SHIPMENT_TO_ORDER steps (body.Shipped checkout) run here in
    let m = found.1 in
    let is = shipping-at steps found.0 (body.Shipped checkout) m in
    (is.0, is.1, is.2, subst (λ b. Member b (taken_bodies steps)) is.3 (member-taken steps m.before m.step m.after m.is))

-- a checkout that was paid is shipped
pub paid-shipped : (steps : List Step) → IsRunOf Role.Shipment steps → (checkout : RequestId) (customer : ℕ) (lines : List PricedLine) (total : ℕ) → Member (body.Confirmed checkout customer lines total) (taken_bodies steps) → Member (body.Shipped checkout) (made_on SHIPMENT_TO_ORDER steps)
paid-shipped steps run checkout customer lines total = run_has Role.Shipment (λ steps. Member (body.Confirmed checkout customer lines total) (taken_bodies steps) → Member (body.Shipped checkout) (made_on SHIPMENT_TO_ORDER steps)) keeps (λ here. absurd here) steps run
  where
    last : (before : List Step) (s : Step) → Follows Role.Shipment before s → body.Confirmed checkout customer lines total ≡ s.body → on SHIPMENT_TO_ORDER s.made ≡ body.Shipped checkout ∷ []
    last before s follows is = ap (on SHIPMENT_TO_ORDER) (follows.made ∙ answers-shipment before s.from s.body) ∙ ap (λ b. on SHIPMENT_TO_ORDER (shipment_rows (shipment_sums before) b)) (sym is)

    keeps : (before : List Step) (s : Step) → Follows Role.Shipment before s → (Member (body.Confirmed checkout customer lines total) (taken_bodies before) → Member (body.Shipped checkout) (made_on SHIPMENT_TO_ORDER before))
        → Member (body.Confirmed checkout customer lines total) (taken_bodies (before ++ s ∷ [])) → Member (body.Shipped checkout) (made_on SHIPMENT_TO_ORDER (before ++ s ∷ []))
    keeps before s follows rest here =
        subst (λ bs. Member (body.Shipped checkout) bs) (sym (made_on-push SHIPMENT_TO_ORDER before s))
        (either (member-either (body.Confirmed checkout customer lines total) (taken_bodies before) (s.body ∷ []) (subst (λ bs. Member (body.Confirmed checkout customer lines total) bs) (taken_bodies-push before s) here)))
      where
        either : Member (body.Confirmed checkout customer lines total) (taken_bodies before) ⊎ Member (body.Confirmed checkout customer lines total) (s.body ∷ []) → Member (body.Shipped checkout) (made_on SHIPMENT_TO_ORDER before ++ on SHIPMENT_TO_ORDER s.made)
        either (inl earlier) = member-left (body.Shipped checkout) (made_on SHIPMENT_TO_ORDER before) (on SHIPMENT_TO_ORDER s.made) (rest earlier)
        either (inr (inl now)) = member-right (body.Shipped checkout) (made_on SHIPMENT_TO_ORDER before) (on SHIPMENT_TO_ORDER s.made) (subst (λ bs. Member (body.Shipped checkout) bs) (sym (last before s follows now)) (inl refl))
        either (inr (inr none)) = absurd none

-- a package of a payment has its checkout and customer, and a line of it
package_of : (checkout : RequestId) (customer total : ℕ) (item : Item) (lines : List PricedLine) → Member item (packages_in (body.Confirmed checkout customer lines total)) → (item.checkout ≡ checkout) × (item.customer ≡ customer) × (is_line_of lines item ≡ true)
package_of checkout customer total item [] here = absurd here
package_of checkout customer total item (line ∷ more) (inl same) = (
  ap (λ (i : Item). i.checkout) same,
  ap (λ (i : Item). i.customer) same,
  or_left (same_key line.key item.key) (is_line_of more item) (ap (λ (i : Item). same_key line.key i.key) same ∙ same_key-self line.key),
)
package_of checkout customer total item (line ∷ more) (inr later) =
    let rest = package_of checkout customer total item more later in
    (rest.0, rest.1, or_right (same_key line.key item.key) rest.2)

-- a payment that a package is of
record IsOfPayment (bs : List Body) (item : Item) : Type 0 where
  lines : List PricedLine
  total : ℕ
  taken : Member (body.Confirmed item.checkout item.customer lines total) bs
  line : is_line_of lines item ≡ true

-- each package is of a payment
package_paid : (bs : List Body) (item : Item) → Member item (flat_map packages_in bs) → IsOfPayment bs item
package_paid [] item here = absurd here
package_paid (b ∷ bs) item here = either b (member-either item (packages_in b) (flat_map packages_in bs) here) (λ later. package_paid bs item later)
  where
    further : (b : Body) → IsOfPayment bs item → IsOfPayment (b ∷ bs) item
    further b paid = record { lines = paid.lines; total = paid.total; taken = inr paid.taken; line = paid.line }

    either : (b : Body) → Member item (packages_in b) ⊎ Member item (flat_map packages_in bs) → (Member item (flat_map packages_in bs) → IsOfPayment bs item) → IsOfPayment (b ∷ bs) item
    either b (inr later) rest = further b (rest later)
    either (body.Confirmed checkout customer lines total) (inl now) rest =
        let parts = package_of checkout customer total item lines now in
        record { lines = lines; total = total; taken = inl (λ i. body.Confirmed (parts.0 i) (parts.1 i) lines total); line = parts.2 }
    either other (inl none) rest = absurd none

-- an item that is delivered is a package
delivered_package : (before : List Step) (item : Item) → Member item (delivered_of (open_packages before)) → IsOfPayment (taken_bodies before) item
delivered_package before item here =
    package_paid (taken_bodies before) item (member-filter (is_open before) item (packages before) (member-filter (goes_with (oldest_of (open_packages before))) item (open_packages before) here))

-- an item of a delivery, at the step that made it
delivered-at : (steps : List Step) (xs : List Body) (items : List Item) (m : MadeOn Role.Shipment SHIPMENT_TO_ORDER steps xs (body.Delivered items)) (item : Item) → Member item items → IsOfPayment (taken_bodies m.before) item
delivered-at steps xs items m item here = delivered_package m.before item (subst (λ items. Member item items) (shipping-at steps xs (body.Delivered items) m) here)

-- what is delivered was shipped before
pub delivered-shipped : (steps : List Step) → IsRunOf Role.Shipment steps → (xs ys : List Body) (items : List Item) → made_on SHIPMENT_TO_ORDER steps ≡ xs ++ body.Delivered items ∷ ys → (item : Item) → Member item items → Member (body.Shipped item.checkout) xs
delivered-shipped steps run xs ys items is item here =
    let m = made_split Role.Shipment SHIPMENT_TO_ORDER steps xs ys (body.Delivered items) run is in
    let paid = delivered-at steps xs items m item here in
    subst (λ bs. Member (body.Shipped item.checkout) bs) m.earlier (paid-shipped m.before m.run item.checkout item.customer paid.lines paid.total paid.taken)

-- what is delivered was paid for
pub delivered-paid : (steps : List Step) → IsRunOf Role.Shipment steps → (items : List Item) → Member (body.Delivered items) (made_on SHIPMENT_TO_ORDER steps) → (item : Item) → Member item items → IsPaidFor steps item
delivered-paid steps run items made item here =
    let found = made_by Role.Shipment SHIPMENT_TO_ORDER steps (body.Delivered items) run made in
    let m = found.1 in
    let paid = delivered-at steps found.0 items m item here in
    record { lines = paid.lines; total = paid.total; taken = member-taken-before steps m.before (m.step ∷ m.after) (body.Confirmed item.checkout item.customer paid.lines paid.total) m.is paid.taken; line = paid.line }
