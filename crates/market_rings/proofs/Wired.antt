-- The ends of one link more.
use Rattle.std.proofs.Common.{◌≡◌, ℕ, ◌+◌, ◌<◌, Bool, true, false, ◌==◌, ◌≤◌, ◌≢◌, nat_lt, List, Option, Some, None, length, replicate, slice_index_or, slice_set, if◌then◌else◌, refl, ap, subst, sym, ◌∙◌, arith}
use Rattle.std.proofs.lemmas.List.{length-set, length-replicate, get_or-set_same, get_or-set_other, get_or_past, get_or-replicate}
use Rattle.std.proofs.lemmas.Bool.Decides.{nat_tests}
use Rattle.market_events.specs.declared.links.Link.{Link}
use Rattle.market_events.specs.Links.{IsLink, index_of, sender_of, receiver_of}
use Rattle.market_events.specs.declared.nodes.TheConstants.{NODES}
use Rattle.market_links.specs.Slots.{slot_into, slot_from}
use Rattle.market_links.specs.declared.slots.TheConstants.{SLOTS}
use Rattle.market_rings.specs.LinkEnds.{IsNewLink}
use Rattle.market_rings.specs.NodeEnds.{NodeEnds, no_ends, out_at, in_at, with_in, with_link_out}
use Rattle.market_rings.specs.Wiring.{ends_of, IsWired, HasLinkOut, HasLinkIn, AreWired, with_sender, with_receiver}
use Rattle.market_rings.specs.declared.link_ends.LinkOut.{LinkOut}
use Rattle.market_rings.specs.declared.link_ends.LinkIn.{LinkIn}
use Rattle.market_rings.proofs.Linking.{one_index, one_sender, one_receiver, slot_from_small, slot_into_small}

-- an item of a list that was set
at_set : {A : Type 0} (xs : List A) (i j : ℕ) (x d : A) (b : Bool) → (i == j) ≡ b → i < length xs → slice_index_or (slice_set xs i x) j d ≡ (if b then x else slice_index_or xs j d)
at_set xs i j x d true test within =
    let e : i ≡ j = grind (arith, nat_tests) in
    subst (λ k. slice_index_or (slice_set xs i x) k d ≡ x) e (get_or-set_same xs i x d within)
at_set xs i j x d false test within =
    let differs : j ≢ i = grind (arith, nat_tests) in get_or-set_other xs i j x d differs

out_at_set : (ends : NodeEnds) (t slot : ℕ) (out : LinkOut) (b : Bool) → (t == slot) ≡ b → length ends.outs ≡ SLOTS → t < SLOTS → out_at (with_link_out ends t out) slot ≡ (if b then Some out else out_at ends slot)
out_at_set ends t slot out b test long within = at_set ends.outs t slot (Some out) None b test (omega arith)

in_at_set : (ends : NodeEnds) (t slot : ℕ) (into : LinkIn) (b : Bool) → (t == slot) ≡ b → length ends.ins ≡ SLOTS → t < SLOTS → in_at (with_in ends t into) slot ≡ (if b then Some into else in_at ends slot)
in_at_set ends t slot into b test long within = at_set ends.ins t slot (Some into) None b test (omega arith)

abbrev no_out_end : Option LinkOut
no_out_end = None

abbrev no_in_end : Option LinkIn
no_in_end = None

-- an end is put at the sender
module _ (all : List NodeEnds) (link : Link) (is_link : IsLink link) (out : LinkOut) (within : sender_of link < length all) where
  at_sender_node : (node : ℕ) (b : Bool) → (sender_of link == node) ≡ b → ends_of (with_sender all link out) node ≡ (if b then with_link_out (ends_of all (sender_of link)) (slot_from link) out else ends_of all node)
  at_sender_node node b test = at_set all (sender_of link) node (with_link_out (ends_of all (sender_of link)) (slot_from link) out) no_ends b test within

  pub sender_keeps_ins : (node : ℕ) → (ends_of (with_sender all link out) node).ins ≡ (ends_of all node).ins
  sender_keeps_ins node = by_case (sender_of link == node) refl
    where
      by_case : (b : Bool) → (sender_of link == node) ≡ b → (ends_of (with_sender all link out) node).ins ≡ (ends_of all node).ins
      by_case true test =
          let e : sender_of link ≡ node = grind (arith, nat_tests) in
          ap (λ (x : NodeEnds). x.ins) (at_sender_node node true test) ∙ ap (λ n. (ends_of all n).ins) e
      by_case false test = ap (λ (x : NodeEnds). x.ins) (at_sender_node node false test)

  pub sender_keeps_long : (node : ℕ) → length (ends_of (with_sender all link out) node).outs ≡ length (ends_of all node).outs
  sender_keeps_long node = by_case (sender_of link == node) refl
    where
      by_case : (b : Bool) → (sender_of link == node) ≡ b → length (ends_of (with_sender all link out) node).outs ≡ length (ends_of all node).outs
      by_case true test =
          let e : sender_of link ≡ node = grind (arith, nat_tests) in
          ap (λ (x : NodeEnds). length x.outs) (at_sender_node node true test)
          ∙ length-set (ends_of all (sender_of link)).outs (slot_from link) (Some out) ∙ ap (λ n. length (ends_of all n).outs) e
      by_case false test = ap (λ (x : NodeEnds). length x.outs) (at_sender_node node false test)

  pub out_here : length (ends_of all (sender_of link)).outs ≡ SLOTS → out_at (ends_of (with_sender all link out) (sender_of link)) (slot_from link) ≡ Some out
  out_here long =
      ap (λ (x : NodeEnds). out_at x (slot_from link)) (at_sender_node (sender_of link) true (grind (arith, nat_tests)))
      ∙ out_at_set (ends_of all (sender_of link)) (slot_from link) (slot_from link) out true (grind (arith, nat_tests)) long (slot_from_small link is_link)

  -- elsewhere all is as before
  pub out_elsewhere : (node slot : ℕ) → length (ends_of all (sender_of link)).outs ≡ SLOTS → (sender_of link ≡ node → slot_from link ≢ slot) → out_at (ends_of (with_sender all link out) node) slot ≡ out_at (ends_of all node) slot
  out_elsewhere node slot long other = by_case (sender_of link == node) refl
    where
      by_case : (b : Bool) → (sender_of link == node) ≡ b → out_at (ends_of (with_sender all link out) node) slot ≡ out_at (ends_of all node) slot
      by_case true test =
          let e : sender_of link ≡ node = grind (arith, nat_tests) in
          let differs : slot_from link ≢ slot = other e in
          let apart : (slot_from link == slot) ≡ false = grind (arith, nat_tests) in
          ap (λ (x : NodeEnds). out_at x slot) (at_sender_node node true test)
          ∙ out_at_set (ends_of all (sender_of link)) (slot_from link) slot out false apart long (slot_from_small link is_link)
          ∙ ap (λ n. out_at (ends_of all n) slot) e
      by_case false test = ap (λ (x : NodeEnds). out_at x slot) (at_sender_node node false test)

-- an end is put at the receiver
module _ (all : List NodeEnds) (link : Link) (is_link : IsLink link) (into : LinkIn) (within : receiver_of link < length all) where
  at_receiver_node : (node : ℕ) (b : Bool) → (receiver_of link == node) ≡ b → ends_of (with_receiver all link into) node ≡ (if b then with_in (ends_of all (receiver_of link)) (slot_into link) into else ends_of all node)
  at_receiver_node node b test = at_set all (receiver_of link) node (with_in (ends_of all (receiver_of link)) (slot_into link) into) no_ends b test within

  pub receiver_keeps_outs : (node : ℕ) → (ends_of (with_receiver all link into) node).outs ≡ (ends_of all node).outs
  receiver_keeps_outs node = by_case (receiver_of link == node) refl
    where
      by_case : (b : Bool) → (receiver_of link == node) ≡ b → (ends_of (with_receiver all link into) node).outs ≡ (ends_of all node).outs
      by_case true test =
          let e : receiver_of link ≡ node = grind (arith, nat_tests) in
          ap (λ (x : NodeEnds). x.outs) (at_receiver_node node true test) ∙ ap (λ n. (ends_of all n).outs) e
      by_case false test = ap (λ (x : NodeEnds). x.outs) (at_receiver_node node false test)

  pub receiver_keeps_long : (node : ℕ) → length (ends_of (with_receiver all link into) node).ins ≡ length (ends_of all node).ins
  receiver_keeps_long node = by_case (receiver_of link == node) refl
    where
      by_case : (b : Bool) → (receiver_of link == node) ≡ b → length (ends_of (with_receiver all link into) node).ins ≡ length (ends_of all node).ins
      by_case true test =
          let e : receiver_of link ≡ node = grind (arith, nat_tests) in
          ap (λ (x : NodeEnds). length x.ins) (at_receiver_node node true test)
          ∙ length-set (ends_of all (receiver_of link)).ins (slot_into link) (Some into) ∙ ap (λ n. length (ends_of all n).ins) e
      by_case false test = ap (λ (x : NodeEnds). length x.ins) (at_receiver_node node false test)

  pub in_here : length (ends_of all (receiver_of link)).ins ≡ SLOTS → in_at (ends_of (with_receiver all link into) (receiver_of link)) (slot_into link) ≡ Some into
  in_here long =
      ap (λ (x : NodeEnds). in_at x (slot_into link)) (at_receiver_node (receiver_of link) true (grind (arith, nat_tests)))
      ∙ in_at_set (ends_of all (receiver_of link)) (slot_into link) (slot_into link) into true (grind (arith, nat_tests)) long (slot_into_small link is_link)

  -- elsewhere all is as before
  pub in_elsewhere : (node slot : ℕ) → length (ends_of all (receiver_of link)).ins ≡ SLOTS → (receiver_of link ≡ node → slot_into link ≢ slot) → in_at (ends_of (with_receiver all link into) node) slot ≡ in_at (ends_of all node) slot
  in_elsewhere node slot long other = by_case (receiver_of link == node) refl
    where
      by_case : (b : Bool) → (receiver_of link == node) ≡ b → in_at (ends_of (with_receiver all link into) node) slot ≡ in_at (ends_of all node) slot
      by_case true test =
          let e : receiver_of link ≡ node = grind (arith, nat_tests) in
          let differs : slot_into link ≢ slot = other e in
          let apart : (slot_into link == slot) ≡ false = grind (arith, nat_tests) in
          ap (λ (x : NodeEnds). in_at x slot) (at_receiver_node node true test)
          ∙ in_at_set (ends_of all (receiver_of link)) (slot_into link) slot into false apart long (slot_into_small link is_link)
          ∙ ap (λ n. in_at (ends_of all n) slot) e
      by_case false test = ap (λ (x : NodeEnds). in_at x slot) (at_receiver_node node false test)

-- no ends anywhere
pub none_wired : (all : List NodeEnds) → all ≡ replicate NODES no_ends → AreWired all 0
none_wired all is = record {
  many = ap length is ∙ length-replicate NODES no_ends;
  outs_long = λ node. ap (λ (x : NodeEnds). length x.outs) (empty node) ∙ length-replicate SLOTS no_out_end;
  ins_long = λ node. ap (λ (x : NodeEnds). length x.ins) (empty node) ∙ length-replicate SLOTS no_in_end;
  wired = λ link is_link below. absurd (omega (arith, below));
  outs = λ node slot out there. absurd (no_out slot out (sym (ap (λ (x : NodeEnds). out_at x slot) (empty node)) ∙ there));
  ins = λ node slot into there. absurd (no_in slot into (sym (ap (λ (x : NodeEnds). in_at x slot) (empty node)) ∙ there));
}
  where
    same : {A : Type 0} (n i : ℕ) (a : A) (b : Bool) → nat_lt i n ≡ b → slice_index_or (replicate n a) i a ≡ a
    same n i a true test = let below : i < n = grind (arith, nat_tests) in get_or-replicate n i a a below
    same n i a false test =
        let past : n ≤ i = grind (arith, nat_tests) in
        get_or_past (replicate n a) i a (omega (arith, length-replicate n a))

    empty : (node : ℕ) → ends_of all node ≡ no_ends
    empty node = ap (λ (xs : List NodeEnds). slice_index_or xs node no_ends) is ∙ same NODES node no_ends (nat_lt node NODES) refl

    no_out : (slot : ℕ) (out : LinkOut) → out_at no_ends slot ≡ Some out → ⊥
    no_out slot out there = let none = same SLOTS slot no_out_end (nat_lt slot SLOTS) refl in cc

    no_in : (slot : ℕ) (into : LinkIn) → in_at no_ends slot ≡ Some into → ⊥
    no_in slot into there = let none = same SLOTS slot no_in_end (nat_lt slot SLOTS) refl in cc

-- one link more is wired
pub one_more : (all : List NodeEnds) (link : Link) (out : LinkOut) (into : LinkIn) → IsLink link → sender_of link < NODES → receiver_of link < NODES → IsNewLink out into → AreWired all (index_of link) → AreWired (with_receiver (with_sender all link out) link into) (index_of link + 1)
one_more all link out into is_link sender receiver fresh before = record {
  many = length-set (with_sender all link out) (receiver_of link) (with_in (ends_of (with_sender all link out) (receiver_of link)) (slot_into link) into)
      ∙ length-set all (sender_of link) (with_link_out (ends_of all (sender_of link)) (slot_from link) out) ∙ before.many;
  outs_long = λ node. ap length (kept_outs node) ∙ sender_keeps_long all link is_link out from node ∙ before.outs_long node;
  ins_long = λ node. receiver_keeps_long half link is_link into to node ∙ long_ins node;
  wired = λ other is_other below. by_index other is_other below (index_of other == index_of link) refl;
  outs = λ node slot x there. by_out node slot x there (sender_of link == node) (slot_from link == slot) refl refl;
  ins = λ node slot x there. by_in node slot x there (receiver_of link == node) (slot_into link == slot) refl refl;
}
  where
    half : List NodeEnds
    half = with_sender all link out

    from : sender_of link < length all
    from = omega (arith, before.many)

    to : receiver_of link < length half
    to = omega (arith, length-set all (sender_of link) (with_link_out (ends_of all (sender_of link)) (slot_from link) out), before.many)

    long_ins : (node : ℕ) → length (ends_of half node).ins ≡ SLOTS
    long_ins node = ap length (sender_keeps_ins all link is_link out from node) ∙ before.ins_long node

    kept_outs : (node : ℕ) → (ends_of (with_receiver half link into) node).outs ≡ (ends_of half node).outs
    kept_outs node = receiver_keeps_outs half link is_link into to node

    out_now : (node slot : ℕ) → out_at (ends_of (with_receiver half link into) node) slot ≡ out_at (ends_of half node) slot
    out_now node slot = ap (λ (xs : List (Option LinkOut)). slice_index_or xs slot None) (kept_outs node)

    in_then : (node slot : ℕ) → in_at (ends_of half node) slot ≡ in_at (ends_of all node) slot
    in_then node slot = ap (λ (xs : List (Option LinkIn)). slice_index_or xs slot None) (sender_keeps_ins all link is_link out from node)

    out_other : (node slot : ℕ) → (sender_of link ≡ node → slot_from link ≢ slot) → out_at (ends_of (with_receiver half link into) node) slot ≡ out_at (ends_of all node) slot
    out_other node slot apart = out_now node slot ∙ out_elsewhere all link is_link out from node slot (before.outs_long (sender_of link)) apart

    in_other : (node slot : ℕ) → (receiver_of link ≡ node → slot_into link ≢ slot) → in_at (ends_of (with_receiver half link into) node) slot ≡ in_at (ends_of all node) slot
    in_other node slot apart = in_elsewhere half link is_link into to node slot (long_ins (receiver_of link)) apart ∙ in_then node slot

    wired_here : IsWired (with_receiver half link into) link
    wired_here = record {
      out = out;
      into = into;
      at_sender = out_now (sender_of link) (slot_from link) ∙ out_here all link is_link out from (before.outs_long (sender_of link));
      at_receiver = in_here half link is_link into to (long_ins (receiver_of link));
      fresh = fresh;
    }

    by_index : (other : Link) → IsLink other → index_of other < index_of link + 1 → (b : Bool) → (index_of other == index_of link) ≡ b → IsWired (with_receiver half link into) other
    by_index other is_other below true test =
        let e : index_of link ≡ index_of other = grind (arith, nat_tests) in
        subst (λ l. IsWired (with_receiver half link into) l) (one_index link other is_link is_other e) wired_here
    by_index other is_other below false test =
        let differs : index_of link ≢ index_of other = grind (arith, nat_tests) in
        let earlier : index_of other < index_of link = grind (arith, nat_tests) in
        let w : IsWired all other = before.wired other is_other earlier in
        record {
          out = w.out;
          into = w.into;
          at_sender = out_other (sender_of other) (slot_from other) (λ one two. differs (one_sender link other is_link is_other one two)) ∙ w.at_sender;
          at_receiver = in_other (receiver_of other) (slot_into other) (λ one two. differs (one_receiver link other is_link is_other one two)) ∙ w.at_receiver;
          fresh = w.fresh;
        }

    by_out : (node slot : ℕ) (x : LinkOut) → out_at (ends_of (with_receiver half link into) node) slot ≡ Some x → (a b : Bool) → (sender_of link == node) ≡ a → (slot_from link == slot) ≡ b → HasLinkOut node slot
    by_out node slot x there true true one two = record { link = link; is_link = is_link; sender = grind (arith, nat_tests); at_slot = grind (arith, nat_tests) }
    by_out node slot x there true false one two =
        let differs : slot_from link ≢ slot = grind (arith, nat_tests) in before.outs node slot x (sym (out_other node slot (λ _. differs)) ∙ there)
    by_out node slot x there false b one two =
        let differs : sender_of link ≢ node = grind (arith, nat_tests) in before.outs node slot x (sym (out_other node slot (λ e. absurd (differs e))) ∙ there)

    by_in : (node slot : ℕ) (x : LinkIn) → in_at (ends_of (with_receiver half link into) node) slot ≡ Some x → (a b : Bool) → (receiver_of link == node) ≡ a → (slot_into link == slot) ≡ b → HasLinkIn node slot
    by_in node slot x there true true one two = record { link = link; is_link = is_link; receiver = grind (arith, nat_tests); at_slot = grind (arith, nat_tests) }
    by_in node slot x there true false one two =
        let differs : slot_into link ≢ slot = grind (arith, nat_tests) in before.ins node slot x (sym (in_other node slot (λ _. differs)) ∙ there)
    by_in node slot x there false b one two =
        let differs : receiver_of link ≢ node = grind (arith, nat_tests) in before.ins node slot x (sym (in_other node slot (λ e. absurd (differs e))) ∙ there)
