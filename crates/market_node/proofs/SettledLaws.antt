-- The events taken whose entries are committed, as the journal grows and is committed.
use Rattle.std.proofs.Common.{◌≡◌, ℕ, ◌≤◌, List, [], ◌∷◌, ◌++◌, length, replicate, ap, ◌∙◌, sym, arith}
use Rattle.std.specs.List.{slice_index}
use Rattle.std.proofs.lemmas.List.{get_or-replicate, length-replicate, take_all, take-append-le}
use Rattle.market_events.specs.declared.events.Entry.{Entry}
use Rattle.market_events.specs.declared.links.Link.{Link}
use Rattle.market_events.specs.Links.{IsLink, receiver_of}
use Rattle.market_events.specs.Offers.{taken_on}
use Rattle.market_history.specs.Causality.{events_taken}
use Rattle.market_links.specs.Slots.{slot_into}
use Rattle.market_links.specs.declared.slots.TheConstants.{SLOTS}
use Rattle.market_links.proofs.SlotLaws.{into_below}
use Rattle.market_node.specs.Settled.{AreSettled}

-- nothing was taken
pub settled_first : (node : ℕ) (counts : List ℕ) → counts ≡ replicate SLOTS 0 → AreSettled node [] 0 counts
settled_first node counts none = record {
  many = ap (λ (ns : List ℕ). length ns) none ∙ length-replicate {A = ℕ} SLOTS 0;
  each = λ link is into. ap (λ ns. slice_index ns (slot_into link)) none ∙ get_or-replicate SLOTS (slot_into link) 0 0 (into_below link is);
}

-- an entry more is not committed
pub settled_push : (node : ℕ) (xs : List Entry) (x : Entry) (committed : ℕ) (counts : List ℕ) → committed ≤ length xs → AreSettled node xs committed counts → AreSettled node (xs ++ x ∷ []) committed counts
settled_push node xs x committed counts most are = record {
  many = are.many;
  each = λ link is into. are.each link is into ∙ ap (λ es. taken_on (events_taken es) link) (sym (take-append-le committed xs (x ∷ []) most));
}

-- all are committed
pub settled_all : (node : ℕ) (xs : List Entry) (counts : List ℕ) → length counts ≡ SLOTS
    → ((link : Link) → IsLink link → receiver_of link ≡ node → slice_index counts (slot_into link) ≡ taken_on (events_taken xs) link)
    → AreSettled node xs (length xs) counts
settled_all node xs counts many each = record {
  many = many;
  each = λ link is into. each link is into ∙ ap (λ es. taken_on (events_taken es) link) (sym (take_all (length xs) xs (omega arith)));
}
