-- Of a checkout that is whole, each line's seller has one entry of it, which is shipped, and delivered where its package is closed
-- (entries-whole).
use Rattle.std.proofs.Common.{◌≡◌, ◌==◌, Bool, true, false, not, List, [], ◌∷◌, Some, filter, if◌then◌else◌, count_by, inl, inr, refl, ap, sym, ◌∙◌, subst, append-nil, arith}
use Rattle.std.specs.List.{AllByRecursion, flat_map, list_any}
use Rattle.market_amounts.specs.declared.keys.RequestId.{RequestId}
use Rattle.market_events.specs.declared.bodies.Body.{Body}
use Rattle.market_events.specs.declared.bodies.Body.TheVariants as body
use Rattle.market_events.specs.declared.bodies.PricedLine.{PricedLine}
use Rattle.market_events.specs.declared.links.TheConstants.{ORDER_TO_PAYMENT}
use Rattle.market_events.specs.declared.replies.OrderStatus.{OrderStatus}
use Rattle.market_events.specs.declared.replies.OrderStatus.TheVariants as status
use Rattle.market_events.specs.Formed.{body_formed, checkout_formed}
use Rattle.market_events.specs.Links.{order_node, shipment_node, seller_node}
use Rattle.market_events.specs.Orders.{is_item_of, ships}
use Rattle.market_events.specs.Sellers.{entries_at, marked, same_entry, status_at}
use Rattle.market_events.specs.declared.roles.Role.{Role}
use Rattle.market_events.specs.Services.{invoices}
use Rattle.market_events.specs.Shipments.{items_made}
use Rattle.market_events.specs.Steps.{taken_bodies, made_on}
use Rattle.market_events.specs.Stocks.{confirms, fails}
use Rattle.market_events.specs.WellFormed.{keys_rise, total_of}
use Rattle.market_events.proofs.Values.Lists.{and_both, any-none}
use Rattle.market_events.proofs.Values.Same.{same_id-self, same_id-swap}
use Rattle.market_events.proofs.Steps.Taken.{taken_formed}
use Rattle.market_events.proofs.Runs.Stock.{checkout_formed-lines, lines_formed-rise}
use Rattle.market_history.specs.Checkouts.{HasEntry, changes_of, entry_for, is_under_way, lines_reserved}
use Rattle.market_history.specs.Histories.{Histories, journal_at}
use Rattle.market_history.specs.Lawful.{IsLawful}
use Rattle.market_history.specs.Outstanding.{IsSettled}
use Rattle.market_laws.specs.Runs.{Member}
use Rattle.market_laws.proofs.Origins.Made.{steps-run}
use Rattle.market_laws.proofs.Settled.Passing.{single}
use Rattle.market_laws.proofs.Fits.CopyMembers.{member_of_all}
use Rattle.market_laws.proofs.Fits.RepliesOnce.{any-counted}
use Rattle.market_laws.proofs.Runs.Counts.{member-filter}
use Rattle.market_laws.proofs.Runs.SellerEntries.{entries_in, entries-invoiced, entry-due, count-marked, joined-member, keys-once, marked-member}
use Rattle.market_laws.proofs.Runs.SellerStatuses.{due-is}
use Rattle.market_laws.proofs.Settled.Counts.{steps_now, held-invoiced}
use Rattle.market_laws.proofs.Settled.Sellers.{count-entries, seller-failed, seller-invoices, seller-items, seller-paid, seller-shipped}
use Rattle.market_laws.proofs.Settled.Ways.{Counts}
use Rattle.market_laws.proofs.Settled.WholePackages.{Payment, lines-reserved}
use Rattle.market_laws.proofs.Settled.WholePayments.{payment-traced}

-- what holds of each member
all_members : {A : Type 0} (P : A → Type 0) (xs : List A) → ((x : A) → Member x xs → P x) → AllByRecursion P xs
all_members P [] each = tt
all_members P (x ∷ xs) each = (each x (inl refl), all_members P xs (λ y here. each y (inr here)))

module _ (h : Histories) (lawful : IsLawful h) (settled : IsSettled h) (c : RequestId) (n : Counts h lawful c 1 1 0) (p : Payment h lawful settled c) where
  -- the invoice of the payment
  abbrev invoice : Body
  invoice = body.Invoice c p.customer p.lines p.total

  -- sellers took it, and no other invoice of the checkout
  invoice_taken : filter (invoices c) (taken_bodies (steps_now h lawful seller_node)) ≡ invoice ∷ []
  invoice_taken =
      let made = made_on ORDER_TO_PAYMENT (steps_now h lawful order_node) in
      let traced = payment-traced h lawful settled c p.customer p.lines p.total p.made in
      seller-invoices h lawful settled c ∙ single (invoices c) invoice made (held-invoiced h lawful settled c ∙ n.held_is) traced.invoiced (same_id-self c)

  invoice_member : Member invoice (taken_bodies (steps_now h lawful seller_node))
  invoice_member =
      member-filter (invoices c) invoice (taken_bodies (steps_now h lawful seller_node)) (subst (λ l. Member invoice l) (sym invoice_taken) (inl refl))

  -- the keys of its lines rise
  lines_rise : keys_rise p.lines ≡ true
  lines_rise =
      let formed = member_of_all body_formed invoice (taken_bodies (steps_now h lawful seller_node)) (taken_formed Role.Seller (steps_now h lawful seller_node) (steps-run seller_node (journal_at h seller_node))) invoice_member in
      lines_formed-rise p.lines (checkout_formed-lines c p.customer p.lines (and_both (checkout_formed c p.customer p.lines) (p.total == total_of p.lines) formed).0)

  module _ (line : PricedLine) (here : Member line p.lines) where
    -- there is one entry of the line
    entry_one : count_by (same_entry (entry_for c line)) (entries_at (changes_of h line.key.seller)) ≡ 1
    entry_one =
        let seller = line.key.seller in
        let test = same_entry (entry_for c line) in
        count-entries h lawful settled c test (λ e other. rw (same_id-swap c e.checkout ∙ other) refl) seller
        ∙ ap (λ bs. count_by test (flat_map (entries_in seller) bs)) invoice_taken ∙ ap (count_by test) (append-nil (marked seller c status.Invoiced p.lines))
        ∙ count-marked c line seller refl p.lines ∙ keys-once line p.lines lines_rise here

    entry_there : Member (entry_for c line) (entries_at (changes_of h line.key.seller))
    entry_there =
        subst (λ l. Member (entry_for c line) l) (sym (entries-invoiced line.key.seller [] (taken_bodies (steps_now h lawful seller_node))))
        (joined-member (entries_in line.key.seller) invoice (entry_for c line) (taken_bodies (steps_now h lawful seller_node)) invoice_member (marked-member c line p.lines here))

    -- it is shipped, and delivered where its package is closed
    entry_status : status_at (changes_of h line.key.seller) (entry_for c line) ≡ Some (if is_under_way h c line then status.Shipped else status.Delivered)
    entry_status =
        let steps = steps_now h lawful seller_node in
        let unfailed = any-none (fails c) (taken_bodies steps) (omega (arith, seller-failed h lawful settled c, n.failed_is)) in
        let shipped = any-counted (ships c) (taken_bodies steps) (omega (arith, seller-shipped h lawful settled c, n.paid_is)) in
        let paid = any-counted (confirms c) (taken_bodies steps) (omega (arith, seller-paid h lawful settled c, n.paid_is)) in
        let delivered = list_any (is_item_of c line.key) (items_made (steps_now h lawful shipment_node)) in
        entry-due steps (steps-run seller_node (journal_at h seller_node)) line.key.seller (entry_for c line) entry_there
        ∙ ap Some (due-is steps c line.key false delivered true true unfailed (ap (list_any (is_item_of c line.key)) (seller-items h lawful settled)) shipped paid ∙ by delivered)
      where
        by : (d : Bool) → ◌≡◌ {A = OrderStatus} (if d then status.Delivered else status.Shipped) (if not d then status.Shipped else status.Delivered)
        by true = refl
        by false = refl

    entry_whole : HasEntry h c line
    entry_whole = record { one = entry_one; status = entry_status }

  pub entries-whole : AllByRecursion (HasEntry h c) (lines_reserved h c)
  entries-whole = subst (AllByRecursion (HasEntry h c)) (sym (lines-reserved h lawful settled c n p)) (all_members (HasEntry h c) p.lines entry_whole)
