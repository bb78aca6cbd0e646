-- What the cart takes fits: an end of a checkout is of one that it sent on, and no other end of it came before.
use Rattle.std.proofs.Common.{◌≡◌, ℕ, ◌<◌, ◌≤◌, true, false, not, List, count_by, refl, ap, sym, ◌∙◌, subst, arith}
use Rattle.std.specs.List.{list_any}
use Rattle.market_amounts.specs.declared.keys.ProductKey.{ProductKey}
use Rattle.market_amounts.specs.declared.keys.RequestId.{RequestId}
use Rattle.market_events.specs.declared.bodies.Body.{Body}
use Rattle.market_events.specs.declared.bodies.Body.TheVariants as body
use Rattle.market_events.specs.declared.bodies.Ending.{Ending}
use Rattle.market_events.specs.declared.bodies.PricedLine.{PricedLine}
use Rattle.market_events.specs.declared.bodies.StockRule.{StockRule}
use Rattle.market_events.specs.declared.events.Event.{Event}
use Rattle.market_events.specs.declared.roles.Role.{Role}
use Rattle.market_events.specs.Links.{cart_node, stock_node, order_node}
use Rattle.market_events.specs.Services.{IsRunOf, role_fits, ends, reserves}
use Rattle.market_events.specs.Steps.{Step, taken_bodies, made_on}
use Rattle.market_events.specs.declared.links.TheConstants.{CART_TO_STOCK, STOCK_TO_CART, ORDER_TO_CART}
use Rattle.market_events.proofs.Values.Lists.{and_from, false_from}
use Rattle.market_events.proofs.Values.Same.{same_id-self}
use Rattle.market_history.specs.Histories.{Histories, journal_at}
use Rattle.market_history.specs.Lawful.{IsLawful}
use Rattle.market_laws.specs.Cuts.{steps_at, TookAt, FitsBelow}
use Rattle.market_laws.proofs.Origins.Cuts.{any_of_member}
use Rattle.market_laws.proofs.Origins.Made.{steps-run, made-before}
use Rattle.market_laws.proofs.Origins.Once.{TookBefore, taken-before-any, few-service, once-link}
use Rattle.market_laws.proofs.Fits.Changes.{cart-changed}
use Rattle.market_laws.proofs.Fits.KindsOnLinks.{IsNoRequest, came, never-came}
use Rattle.market_laws.proofs.Fits.BackToHeld.{MadeBefore, HeldBefore, taken-sent, sent-origin-some, sent-of-stock, sent-of-held, held-of-ended, held-or-failed}
use Rattle.market_laws.proofs.Runs.Orders.{ends-once}
use Rattle.market_laws.proofs.Runs.Stock.{answered-is, reserves-once, failed-reserve}

-- stock refuses a checkout once at most
failed_once : (steps : List Step) → IsRunOf Role.Stock steps → (id : RequestId) → count_by (ends id) (made_on STOCK_TO_CART steps) ≤ 1
failed_once steps run id = omega (arith, answered-is steps run id, reserves-once steps run id)

-- a checkout of this id that stock took
abbrev IsSentFor : RequestId → Body → Type 0
IsSentFor id b = (customer : ℕ) × (lines : List PricedLine) × (b ≡ body.Reserve id customer lines)

module _ (h : Histories) (lawful : IsLawful h) (event : Event) (t : TookAt h cart_node event) where
  -- what the cart sent on before it made before
  was_sent : (id : RequestId) (customer : ℕ) (lines : List PricedLine) → MadeBefore h cart_node CART_TO_STOCK (body.Reserve id customer lines) t.clock → list_any (reserves id) (made_on CART_TO_STOCK (steps_at cart_node t.before)) ≡ true
  was_sent id customer lines m =
      any_of_member (reserves id) m.event.body (made_on CART_TO_STOCK (steps_at cart_node t.before)) (made-before h lawful cart_node (omega arith) event t m.event CART_TO_STOCK m.made m.clock m.on)
      (ap (reserves id) m.body_is ∙ same_id-self id)

  -- where one end comes at most on its link, and none can have come on the other, none came before
  none_ended : (id : RequestId) → ((other : Event) → (u : TookAt h cart_node other) → u.clock < t.clock → ends id other.body ≡ true → ⊥) → list_any (ends id) (taken_bodies (steps_at cart_node t.before)) ≡ false
  none_ended id refuted = false_from (list_any (ends id) (taken_bodies (steps_at cart_node t.before))) none
    where
      none : list_any (ends id) (taken_bodies (steps_at cart_node t.before)) ≡ true → false ≡ true
      none any =
          let found = taken-before-any h cart_node event lawful t (ends id) any in
          let u = found.1 in
          absurd (refuted u.event u.took u.clock_is (ap (ends id) u.body_is ∙ found.2))

  module _ (checkout : RequestId) (key : ProductKey) (rule : StockRule) (is : event.body ≡ body.ReserveFailed checkout key rule) where
    failed_on : event.link ≡ STOCK_TO_CART
    failed_on = came h cart_node event t (body.ReserveFailed checkout key rule) is (omega arith) tt STOCK_TO_CART refl

    failed_made : MadeBefore h stock_node STOCK_TO_CART (body.ReserveFailed checkout key rule) t.clock
    failed_made = taken-sent h lawful cart_node STOCK_TO_CART stock_node event t failed_on refl (body.ReserveFailed checkout key rule) is t.clock (omega arith)

    failed_sent : list_any (reserves checkout) (made_on CART_TO_STOCK (steps_at cart_node t.before)) ≡ true
    failed_sent =
        let found = sent-origin-some h lawful stock_node STOCK_TO_CART (body.ReserveFailed checkout key rule) t.clock (omega arith) failed_made (IsSentFor checkout)
        (λ steps run here. let f = failed-reserve steps run checkout key rule here in (body.Reserve checkout f.0 f.1, f.2, (f.0, f.1, refl))) in
        let for = found.2 in
        was_sent checkout for.0 for.1 (sent-of-stock h lawful checkout for.0 for.1 t.clock (subst (λ c. TookBefore h stock_node t.clock c) for.2 found.1))

    failed_new : list_any (ends checkout) (taken_bodies (steps_at cart_node t.before)) ≡ false
    failed_new = none_ended checkout (λ other u less ended. by other u less other.body refl ended)
      where
        few : count_by (ends checkout) (made_on STOCK_TO_CART (steps_at stock_node (journal_at h stock_node))) ≤ 1
        few = failed_once (steps_at stock_node (journal_at h stock_node)) (steps-run stock_node (journal_at h stock_node)) checkout

        by : (other : Event) → (u : TookAt h cart_node other) → u.clock < t.clock → (b : Body) → other.body ≡ b → ends checkout b ≡ true → ⊥
        by other u less (body.ReserveFailed id k r) same ended =
            once-link h cart_node event lawful t (ends checkout) (few-service h cart_node event lawful t STOCK_TO_CART stock_node failed_on refl (omega arith) (ends checkout) few)
            (ap (ends checkout) is ∙ same_id-self checkout) other u less
            (came h cart_node other u (body.ReserveFailed id k r) same (omega arith) tt STOCK_TO_CART refl ∙ sym failed_on) (ap (ends checkout) same ∙ ended)
        by other u less (body.Ended id ending) same ended =
            let on : other.link ≡ ORDER_TO_CART = came h cart_node other u (body.Ended id ending) same (omega arith) tt ORDER_TO_CART refl in
            let m = taken-sent h lawful cart_node ORDER_TO_CART order_node other u on refl (body.Ended id ending) same u.clock (omega arith) in
            let held = held-of-ended h lawful checkout (body.Ended id ending) u.clock m ended in
            held-or-failed h lawful checkout held.customer held.lines u.clock (body.ReserveFailed checkout key rule) t.clock held.made failed_made (same_id-self checkout)
        by other u less b same ended = cc

    -- the end of a checkout that stock refused fits
    cart_failed : role_fits Role.Cart (steps_at cart_node t.before) (body.ReserveFailed checkout key rule) ≡ true
    cart_failed =
        and_from (list_any (reserves checkout) (made_on CART_TO_STOCK (steps_at cart_node t.before))) (not (list_any (ends checkout) (taken_bodies (steps_at cart_node t.before)))) failed_sent (ap not failed_new)

  module _ (checkout : RequestId) (ending : Ending) (is : event.body ≡ body.Ended checkout ending) where
    ended_on : event.link ≡ ORDER_TO_CART
    ended_on = came h cart_node event t (body.Ended checkout ending) is (omega arith) tt ORDER_TO_CART refl

    ended_held : HeldBefore h checkout t.clock
    ended_held =
        held-of-ended h lawful checkout (body.Ended checkout ending) t.clock
        (taken-sent h lawful cart_node ORDER_TO_CART order_node event t ended_on refl (body.Ended checkout ending) is t.clock (omega arith)) (same_id-self checkout)

    ended_sent : list_any (reserves checkout) (made_on CART_TO_STOCK (steps_at cart_node t.before)) ≡ true
    ended_sent =
        let held = ended_held in
        was_sent checkout held.customer held.lines (sent-of-held h lawful checkout held.customer held.lines t.clock held.made)

    ended_new : list_any (ends checkout) (taken_bodies (steps_at cart_node t.before)) ≡ false
    ended_new = none_ended checkout (λ other u less ended. by other u less other.body refl ended)
      where
        few : count_by (ends checkout) (made_on ORDER_TO_CART (steps_at order_node (journal_at h order_node))) ≤ 1
        few = ends-once (steps_at order_node (journal_at h order_node)) (steps-run order_node (journal_at h order_node)) checkout

        by : (other : Event) → (u : TookAt h cart_node other) → u.clock < t.clock → (b : Body) → other.body ≡ b → ends checkout b ≡ true → ⊥
        by other u less (body.ReserveFailed id k r) same ended =
            let on : other.link ≡ STOCK_TO_CART = came h cart_node other u (body.ReserveFailed id k r) same (omega arith) tt STOCK_TO_CART refl in
            let m = taken-sent h lawful cart_node STOCK_TO_CART stock_node other u on refl (body.ReserveFailed id k r) same u.clock (omega arith) in
            let held = ended_held in
            held-or-failed h lawful checkout held.customer held.lines t.clock (body.ReserveFailed id k r) u.clock held.made m ended
        by other u less (body.Ended id e) same ended =
            once-link h cart_node event lawful t (ends checkout) (few-service h cart_node event lawful t ORDER_TO_CART order_node ended_on refl (omega arith) (ends checkout) few)
            (ap (ends checkout) is ∙ same_id-self checkout) other u less
            (came h cart_node other u (body.Ended id e) same (omega arith) tt ORDER_TO_CART refl ∙ sym ended_on) (ap (ends checkout) same ∙ ended)
        by other u less b same ended = cc

    -- the end of a checkout that order ended fits
    cart_ended : role_fits Role.Cart (steps_at cart_node t.before) (body.Ended checkout ending) ≡ true
    cart_ended =
        and_from (list_any (reserves checkout) (made_on CART_TO_STOCK (steps_at cart_node t.before))) (not (list_any (ends checkout) (taken_bodies (steps_at cart_node t.before)))) ended_sent (ap not ended_new)

-- what the cart takes fits, but for requests
pub cart_fits_all : (h : Histories) → IsLawful h → (event : Event) → (t : TookAt h cart_node event) → FitsBelow h t.clock → IsNoRequest event.body → role_fits Role.Cart (steps_at cart_node t.before) event.body ≡ true
cart_fits_all h lawful event t below quiet = by event.body refl quiet
  where
    by : (b : Body) → event.body ≡ b → IsNoRequest b → role_fits Role.Cart (steps_at cart_node t.before) b ≡ true
    by (body.Asked request) is quiet = absurd quiet
    by (body.Changed key version c) is quiet = cart-changed h lawful event t below key version c is
    by (body.ReserveFailed checkout key rule) is quiet = cart_failed h lawful event t checkout key rule is
    by (body.Ended checkout ending) is quiet = cart_ended h lawful event t checkout ending is
    by other is quiet = absurd (never-came h cart_node event t other is (omega arith) tt refl)
