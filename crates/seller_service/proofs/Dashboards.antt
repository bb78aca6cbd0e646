-- Which entries a dashboard shows, by the last status of each.
use Rattle.std.proofs.Common.{◌≡◌, ℕ, ◌+◌, ◌<◌, Bool, true, false, cond, ◌&&◌, List, [], ◌∷◌, ◌++◌, Option, Some, None, filter_map, length, take, get_or, if◌then◌else◌, refl, ap, ap₂, sym, ◌∙◌}
use Rattle.std.specs.Cmp.{tied_then}
use Rattle.std.specs.List.{cons_option}
use Rattle.std.specs.Ordering.{is_eq}
use Rattle.std.proofs.lemmas.List.{take_more}
use Rattle.market_events.specs.declared.replies.EntryRow.{EntryRow}
use Rattle.market_events.specs.declared.replies.OrderStatus.{OrderStatus}
use Rattle.market_events.specs.Sellers.{SellerChange, is_invoiced, entries_at, same_entry, status_at, row_by, in_progress_at}
use Rattle.market_events.specs.Steps.{id_cmp, key_cmp}
use Rattle.market_events.proofs.Values.Keys.{eq_by_id_cmp, eq_by_key_cmp}
use Rattle.market_events.proofs.Steps.SellerChanges.{status_at-push}
use Rattle.seller_service.specs.declared.change.EntryId.{EntryId}
use Rattle.seller_service.specs.Dashboards.{id_at, entry_cmp, shown_at}

-- entries are compared as the definitions do
pub same_entry-is : (a b : SellerChange) → is_eq (entry_cmp (id_at a) (id_at b)) ≡ same_entry a b
same_entry-is a b =
    sym (tied_then (id_cmp a.checkout b.checkout) (key_cmp a.line.key b.line.key))
    ∙ ap₂ (λ x y. x && y) (eq_by_id_cmp a.checkout b.checkout) (eq_by_key_cmp a.line.key b.line.key)

-- the last status with that of the next change
pub status_at-next : (changes : List SellerChange) (i : ℕ) (c : SellerChange) → i < length changes → c ≡ get_or changes i c → (entry : SellerChange) (was now : Option OrderStatus)
    → was ≡ status_at (take i changes) entry → now ≡ cond (is_eq (entry_cmp (id_at c) (id_at entry))) (Some c.status) was → now ≡ status_at (take (i + 1) changes) entry
status_at-next changes i c below is entry was now before e =
    e ∙ ap₂ (λ (b : Bool) (o : Option OrderStatus). cond b (Some c.status) o) (same_entry-is c entry) before
    ∙ sym (ap (λ cs. status_at cs entry) (take_more changes i c below ∙ ap (λ x. take i changes ++ x ∷ []) (sym is)) ∙ status_at-push (take i changes) c entry)

-- what is shown of the changes is what is in progress
shown_each : (statuses : EntryId → Option OrderStatus) (last : SellerChange → Option OrderStatus) → ((entry : SellerChange) → statuses (id_at entry) ≡ last entry) → (cs : List SellerChange)
    → filter_map (shown_at statuses) cs ≡ filter_map (λ entry. row_by entry (last entry)) (entries_at cs)
shown_each statuses last same [] = refl
shown_each statuses last same (c ∷ cs) = by (is_invoiced c) (shown_each statuses last same cs)
  where
    by : (b : Bool) → filter_map (shown_at statuses) cs ≡ filter_map (λ entry. row_by entry (last entry)) (entries_at cs)
        → cons_option (if b then row_by c (statuses (id_at c)) else None) (filter_map (shown_at statuses) cs) ≡ filter_map (λ entry. row_by entry (last entry)) (cond b (c ∷ entries_at cs) (entries_at cs))
    by true rest = ap₂ (λ (o : Option EntryRow) rows. cons_option o rows) (ap (row_by c) (same c)) rest
    by false rest = rest

pub shown_all : (statuses : EntryId → Option OrderStatus) (changes : List SellerChange) → ((entry : SellerChange) → statuses (id_at entry) ≡ status_at changes entry)
    → filter_map (shown_at statuses) changes ≡ in_progress_at changes
shown_all statuses changes same = shown_each statuses (status_at changes) same changes
