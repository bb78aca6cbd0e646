-- How endings are made: from orders to the cart, once, in the block of the Failed or of the Shipped.
use Rattle.std.proofs.Common.{◌≡◌, ℕ, [], ◌∷◌, refl, ap, sym, ◌∙◌, subst, arith}
use Rattle.market_amounts.specs.declared.keys.RequestId.{RequestId}
use Rattle.market_events.specs.declared.bodies.Body.{Body}
use Rattle.market_events.specs.declared.bodies.Body.TheVariants as body
use Rattle.market_events.specs.declared.bodies.Ending.{Ending}
use Rattle.market_events.specs.declared.bodies.Ending.TheVariants as ending
use Rattle.market_events.specs.declared.bodies.PayRule.{PayRule}
use Rattle.market_events.specs.declared.events.Event.{Event}
use Rattle.market_events.specs.declared.links.Link.{Link}
use Rattle.market_events.specs.Links.{receiver_of, order_node}
use Rattle.market_events.specs.Orders.{OrderSums, order_sums, order_rows, order_asked, order_total}
use Rattle.market_events.specs.Services.{ends}
use Rattle.market_events.specs.WellFormed.{total_of}
use Rattle.market_events.specs.declared.links.TheConstants.{ORDER_TO_CART, PAYMENT_TO_ORDER, SHIPMENT_TO_ORDER}
use Rattle.market_events.proofs.Runs.Orders.{answers-order}
use Rattle.market_history.specs.Histories.{Histories}
use Rattle.market_history.specs.Lawful.{IsLawful}
use Rattle.market_laws.specs.Causes.{MakesJust, EndingIsCaused, EndingsHaveCauses, invoice_links}
use Rattle.market_laws.specs.Cuts.{steps_at, TookAt, MadeAt}
use Rattle.market_laws.specs.Runs.{Member}
use Rattle.market_laws.proofs.Causes.Blocks.{made-few, same-body, makes-these, among-answers, caused-by, made-by, only-link, made-at, took-at}
use Rattle.market_laws.proofs.Causes.Invoices.{order-tells}
use Rattle.market_laws.proofs.Causes.Replies.{told-member}
use Rattle.market_laws.proofs.Origins.Causes.{Cause, cause}
use Rattle.market_laws.proofs.Fits.KindsOnLinks.{came}
use Rattle.market_laws.proofs.Runs.Orders.{ends-once}

-- what an ending is for
abbrev IsEndedBy : RequestId → Ending → Body → Type 0
IsEndedBy c (ending.Undone rule) b = (customer : ℕ) × (b ≡ body.Failed c customer rule)
IsEndedBy c (ending.Whole total) b = b ≡ body.Shipped c

-- an ending of the same checkout, with its cause
ended_undone : (c id : RequestId) (end : Ending) (buyer : ℕ) (rule : PayRule) → body.Ended c end ≡ body.Ended id (ending.Undone rule) → IsEndedBy c end (body.Failed id buyer rule)
ended_undone c id (ending.Undone why) buyer rule same = (buyer, cc)
ended_undone c id (ending.Whole total) buyer rule same = let no : ⊥ = cc in absurd no

ended_whole : (c id : RequestId) (end : Ending) (sum : ℕ) → body.Ended c end ≡ body.Ended id (ending.Whole sum) → IsEndedBy c end (body.Shipped id)
ended_whole c id (ending.Undone why) sum same = let no : ⊥ = cc in absurd no
ended_whole c id (ending.Whole total) sum same = cc

-- orders end a checkout for a failure or a shipment alone
ended_for : (s : OrderSums) (b : Body) (link : Link) (c : RequestId) (end : Ending) → Member (link, body.Ended c end) (order_rows s b) → IsEndedBy c end b
ended_for s (body.Asked request) link c end here =
    absurd (told-member (order_asked s request.id request.ask) (link, body.Ended c end) (order-tells s request.id request.ask) here)
ended_for s (body.StockConfirmed id buyer ls) link c end here =
    let same : body.Ended c end ≡ body.Invoice id buyer ls (total_of ls) = same-body invoice_links (body.Invoice id buyer ls (total_of ls)) (link, body.Ended c end) here in
    let no : ⊥ = cc in absurd no
ended_for s (body.Failed id buyer rule) link c end here =
    ended_undone c id end buyer rule (same-body (ORDER_TO_CART ∷ []) (body.Ended id (ending.Undone rule)) (link, body.Ended c end) here)
ended_for s (body.Shipped id) link c end here = ended_whole c id end (s.total id) (same-body (ORDER_TO_CART ∷ []) (body.Ended id (ending.Whole (s.total id))) (link, body.Ended c end) here)
ended_for s other link c end here = absurd here

module _ (h : Histories) (lawful : IsLawful h) (c : RequestId) where
  ended_by : (made : Event) (m : MadeAt h order_node made) (o : Cause h order_node made m) (end : Ending) → IsEndedBy c end o.event.body → EndingIsCaused h order_node made m c end
  ended_by made m o (ending.Undone rule) (customer, is) =
      let b = body.Failed c customer rule in (customer, caused-by h order_node made m o PAYMENT_TO_ORDER b (came h order_node o.event o.took b is (omega arith) tt PAYMENT_TO_ORDER refl) is)
  ended_by made m o (ending.Whole total) is = caused-by h order_node made m o SHIPMENT_TO_ORDER (body.Shipped c) (came h order_node o.event o.took (body.Shipped c) is (omega arith) tt SHIPMENT_TO_ORDER refl) is

  ended : (made : Event) (m : MadeAt h order_node made) (end : Ending) → made.body ≡ body.Ended c end → EndingIsCaused h order_node made m c end
  ended made m end is =
      let o = cause h order_node made lawful (omega arith) m in
      let steps = steps_at order_node o.took.before in
      let here = subst (λ l. Member (made.link, body.Ended c end) l) (answers-order steps o.event.link o.event.body) (among-answers h order_node made m o (body.Ended c end) is) in
      ended_by made m o end (ended_for (order_sums steps) o.event.body made.link c end here)

  makes_undone : (event : Event) (customer : ℕ) (rule : PayRule) → event.body ≡ body.Failed c customer rule → (t : TookAt h order_node event)
      → MakesJust h order_node event t ((ORDER_TO_CART, body.Ended c (ending.Undone rule)) ∷ [])
  makes_undone event customer rule is t =
      let steps = steps_at order_node t.before in
      makes-these h lawful order_node (omega arith) event t ((ORDER_TO_CART, body.Ended c (ending.Undone rule)) ∷ []) (answers-order steps event.link event.body ∙ ap (order_rows (order_sums steps)) is)

  makes_whole : (event : Event) → event.body ≡ body.Shipped c → (t : TookAt h order_node event) → (total : ℕ) × MakesJust h order_node event t ((ORDER_TO_CART, body.Ended c (ending.Whole total)) ∷ [])
  makes_whole event is t =
      let steps = steps_at order_node t.before in (
        order_total steps c,
        makes-these h lawful order_node (omega arith) event t ((ORDER_TO_CART, body.Ended c (ending.Whole (order_total steps c))) ∷ [])
            (answers-order steps event.link event.body ∙ ap (order_rows (order_sums steps)) is),
      )

  -- how endings are made
  pub endings-caused : EndingsHaveCauses h c
  endings-caused = record {
    cause = λ n made m end is.
        let by = made-by h lawful n made m (body.Ended c end) is tt order_node (ORDER_TO_CART ∷ []) refl in
        (only-link ORDER_TO_CART made.link by.0, made-at h made (λ n m. EndingIsCaused h n made m c end) order_node n by.1 (λ m. ended made m end is) m);
    failed_makes = λ n event t customer rule on is.
        took-at h event (λ n t. MakesJust h n event t ((ORDER_TO_CART, body.Ended c (ending.Undone rule)) ∷ [])) order_node n (sym (ap receiver_of on) ∙ t.ready.1) (makes_undone event customer rule is) t;
    shipped_makes = λ n event t on is.
        took-at h event (λ n t. (total : ℕ) × MakesJust h n event t ((ORDER_TO_CART, body.Ended c (ending.Whole total)) ∷ [])) order_node n (sym (ap receiver_of on) ∙ t.ready.1) (makes_whole event is) t;
    once = made-few h lawful order_node (omega arith) ORDER_TO_CART (ends c) (λ steps run. ends-once steps run c);
  }
