-- New nodes whose rings are new stand between two rounds, with nothing in their journals.
use Rattle.std.proofs.Common.{rules, ◌≡◌, ℕ, zero, suc, ◌≤◌, List, [], ◌∷◌, ◌++◌, Some, length, replicate, refl, ap, subst, sym, ◌∙◌, arith}
use Rattle.std.specs.List.{AllByRecursion, slice_index, slice_index_or}
use Rattle.std.proofs.lemmas.List.{get_or-replicate, length-replicate}
use Rattle.market_events.specs.declared.events.Entry.{Entry}
use Rattle.market_events.specs.declared.links.Link.{Link}
use Rattle.market_events.specs.Links.{IsLink}
use Rattle.market_history.specs.Histories.{Histories, journal_at, no_histories}
use Rattle.market_laws.proofs.Growth.Played.{nothing_lawful}
use Rattle.market_links.specs.Slots.{slot_from}
use Rattle.market_links.specs.declared.slots.TheConstants.{SLOTS}
use Rattle.market_links.proofs.SlotLaws.{from_below}
use Rattle.market_rings.specs.declared.link_ends.LinkIn.{LinkIn}
use Rattle.market_rings.specs.declared.link_ends.LinkOut.{LinkOut}
use Rattle.market_rings.specs.LinkEnds.{IsNewLink}
use Rattle.market_rings.specs.NodeEnds.{NodeEnds, in_at}
use Rattle.market_rings.specs.RingEnds.{Pushing, Popping, AreNew}
use Rattle.market_rings.specs.Wiring.{IsWired, HasLinkIn, ends_of}
use Rattle.market_rounds.specs.Rounds.{fresh_node}
use Rattle.market_rounds.specs.Between.{IsRing, IsOfLink, IsCarried, AreBetween, taken_at}

-- no entries anywhere
empty_at : (h : Histories) → AllByRecursion (λ (j : List Entry). j ≡ []) h → (n : ℕ) → slice_index_or h n [] ≡ []
empty_at [] each n = refl
empty_at (j ∷ js) each zero = each.0
empty_at (j ∷ js) each (suc n) = empty_at js each.1 n

pub none_at : (n : ℕ) → journal_at no_histories n ≡ []
unfolding journal_at
none_at n = empty_at no_histories (search rules) n

none_all : {A : Type 0} (P : A → Type 0) (xs : List A) → xs ≡ [] → AllByRecursion P xs
none_all P xs none = subst (AllByRecursion P) (sym none) tt

module _ {T : Type 0} where
  ring_new : (most most_held : ℕ) (outlet : Pushing T) (inlet : Popping T) → AreNew outlet inlet → IsRing most most_held outlet inlet
  ring_new most most_held outlet inlet new =
      let none : length inlet.waiting ≡ 0 = ap (λ (xs : List T). length xs) new.2 in
      let free : outlet.free ≡ 64 = ap (λ (p : Pushing T). p.free) new.0 in
      let idle : length outlet.held ≡ 0 = ap (λ (p : Pushing T). length p.held) new.0 in
      record {
        joined = ap (λ (p : Pushing T). p.ring) new.0;
        whole = ap (λ xs. xs ++ inlet.waiting) new.1 ∙ new.2 ∙ sym (ap (λ (p : Pushing T). p.pushed) new.0);
        free = omega arith;
        few = omega arith;
        few_held = omega arith;
      }

-- nothing is carried on a new link
carried_new : (h : Histories) (link : Link) (acknowledged : ℕ) (out : LinkOut) (into : LinkIn) → IsNewLink out into → acknowledged ≡ 0 → IsCarried h link acknowledged out into
carried_new h link acknowledged out into new none = record {
  events = ring_new 21 7 out.events into.events new.0;
  counts = ring_new 3 1 into.counts out.counts new.1;
  waiting_made = none_all (IsOfLink h link) into.events.waiting new.0.2;
  held_made = none_all (IsOfLink h link) out.events.held (ap (λ (p : Pushing _). p.held) new.0.0);
  waiting_taken = none_all (λ n. n ≤ taken_at h link) out.counts.waiting new.1.2;
  held_taken = none_all (λ n. n ≤ taken_at h link) into.counts.held (ap (λ (p : Pushing _). p.held) new.1.0);
  acknowledged_taken = omega arith;
}

pub fresh_between : (all : List NodeEnds) → ((link : Link) → IsLink link → IsWired all link) → ((node slot : ℕ) (into : LinkIn) → in_at (ends_of all node) slot ≡ Some into → HasLinkIn node slot)
    → AreBetween no_histories (fresh_node all)
fresh_between all wired only = record {
  lawful = nothing_lawful;
  each = λ n low. record {
    node_is = refl;
    entries = sym (none_at n);
    committed = sym (ap (λ (es : List Entry). length es) (none_at n));
    slots = length-replicate {A = ℕ} SLOTS 0;
  };
  links = λ link on.
      let there = wired link on in
      record {
        out = there.out;
        into = there.into;
        at_sender = there.at_sender;
        at_receiver = there.at_receiver;
        carried = carried_new no_histories link (slice_index (replicate SLOTS 0) (slot_from link)) there.out there.into there.fresh (get_or-replicate SLOTS (slot_from link) 0 0 (from_below link on));
      };
  only = λ n slot into low there. only n slot into there;
}
