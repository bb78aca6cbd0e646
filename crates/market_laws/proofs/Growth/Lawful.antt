-- A journal is lawful exactly where it is grown.
use Rattle.std.proofs.Common.{◌≡◌, ℕ, List, [], ◌∷◌, ◌++◌, refl, ap, sym, ◌∙◌, subst, append-nil, append_assoc}
use Rattle.std.specs.Prelude.{map, fold}
use Rattle.market_events.specs.declared.events.Entry.{Entry}
use Rattle.market_history.specs.Blocks.{Input, Out, Part, part_of, parts_of, inputs_of, node_outs, block, blocks_after, what_of, input_of, with_what, with_out, grow}
use Rattle.market_history.specs.Causality.{RestsOn}
use Rattle.market_history.specs.Lawful.{IsReadyAfter, IsLawfulAt}
use Rattle.market_history.specs.Stamps.{EachAfter, IsStampedAfter}
use Rattle.market_history.proofs.GrowLaws.{entry_of, what_left, with_out-is, outs_after, grow-is, grow_keeps, inputs_of-grow, parts_of-grow, blocks_after-push}
use Rattle.market_history.proofs.StampLaws.{EachAfter-push}
use Rattle.market_laws.specs.Grown.{Grown, nothing, more}
use Rattle.market_laws.proofs.Growth.Due.{IsDue, due-left, due-arrival, left-is, CameBy, came-is, sent_numbered, got_numbered, all_due}
use Rattle.market_laws.proofs.Growth.Each.{EachAfter-weaker}

-- each entry of a grown journal is due
pub grown-due : (n : ℕ) {j : List Entry} → Grown n j → EachAfter (IsDue n) [] j
grown-due n nothing = tt
grown-due n (more j a grown ready) =
    grow_keeps (EachAfter (IsDue n) []) left n j a
    (EachAfter-push (IsDue n) [] j (entry_of j (what_of a)) (grown-due n grown) (due-arrival n j a ready))
  where
    left : (entries : List Entry) (out : Out) → EachAfter (IsDue n) [] entries → EachAfter (IsDue n) [] (with_out entries out)
    left entries out each =
        subst (EachAfter (IsDue n) []) (sym (with_out-is entries out))
        (EachAfter-push (IsDue n) [] entries (entry_of entries (what_left entries out)) each (due-left n entries out))

-- a grown journal is a list of blocks
pub grown-blocks : (n : ℕ) {j : List Entry} → Grown n j → parts_of j ≡ blocks_after n [] (inputs_of j)
grown-blocks n nothing = refl
grown-blocks n (more j a grown ready) =
    parts_of-grow n j a ∙ ap (λ parts. parts ++ block n (inputs_of j) (input_of a)) (grown-blocks n grown)
    ∙ sym (blocks_after-push n [] (inputs_of j) (input_of a)) ∙ ap (blocks_after n []) (sym (inputs_of-grow n j a))

pub lawful_of_grown : (n : ℕ) (j : List Entry) → Grown n j → IsLawfulAt n j
lawful_of_grown n j grown =
    let due = grown-due n grown in
    record {
      sent_numbered = sent_numbered n j due;
      got_numbered = got_numbered n j due;
      stamped = EachAfter-weaker (IsDue n) IsStampedAfter (λ before x d. d.stamp) [] j due;
      pasts = EachAfter-weaker (IsDue n) (λ before (x : Entry). RestsOn before x.what) (λ before x d. d.rests) [] j due;
      ready = EachAfter-weaker (IsDue n) (λ before (x : Entry). IsReadyAfter n before x.what) (λ before x d. d.ready) [] j due;
      blocks = grown-blocks n grown;
    }

-- the journal with the block that an entry began
came-grow : (n : ℕ) (k : List Entry) (x : Entry) (before : List Input) (i : Input) (by : CameBy n k x i) → inputs_of k ≡ before → grow n k by.arrival ≡ fold with_out (k ++ x ∷ []) (node_outs n before i)
came-grow n k x before i by e =
    let next : with_what k (what_of by.arrival) ≡ k ++ x ∷ [] = ap (λ y. k ++ y ∷ []) (sym by.entry) in
    let outs : outs_after n k by.arrival ≡ node_outs n before i = ap (λ b. node_outs n b (input_of by.arrival)) e ∙ ap (node_outs n before) by.input_is in
    grow-is n k by.arrival ∙ ap (fold with_out (with_what k (what_of by.arrival))) outs ∙ ap (λ j. fold with_out j (node_outs n before i)) next

came-inputs : (n : ℕ) (k : List Entry) (x : Entry) (before : List Input) (i : Input) (by : CameBy n k x i) → inputs_of k ≡ before → inputs_of (fold with_out (k ++ x ∷ []) (node_outs n before i)) ≡ before ++ i ∷ []
came-inputs n k x before i by e =
    ap inputs_of (sym (came-grow n k x before i by e)) ∙ inputs_of-grow n k by.arrival ∙ ap (λ b. b ++ input_of by.arrival ∷ []) e ∙ ap (λ input. before ++ input ∷ []) by.input_is

-- entries that are due after a journal that is grown once these outs are made, and that are these outs and then blocks
grown_from : (n : ℕ) (xs k : List Entry) (outs : List Out) (before inputs : List Input) → Grown n (fold with_out k outs) → inputs_of (fold with_out k outs) ≡ before → EachAfter (IsDue n) k xs
    → parts_of xs ≡ map (λ out. Part.Left out) outs ++ blocks_after n before inputs → Grown n (k ++ xs)
grown_from n [] k [] before [] grown e each parts = subst (Grown n) (sym (append-nil k)) grown
grown_from n [] k [] before (i ∷ is) grown e each parts = let no : ⊥ = cc in absurd no
grown_from n [] k (out ∷ outs) before inputs grown e each parts = let no : ⊥ = cc in absurd no
grown_from n (x ∷ xs) k [] before [] grown e each parts = let no : ⊥ = cc in absurd no
grown_from n (x ∷ xs) k [] before (i ∷ is) grown e each parts =
    let came : part_of x.what ≡ Part.Came i = cc in
    let rest : parts_of xs ≡ map (λ out. Part.Left out) (node_outs n before i) ++ blocks_after n (before ++ i ∷ []) is = cc in
    let by = came-is n k x i each.0 came in
    let same = came-grow n k x before i by e in
    subst (Grown n) (append_assoc k (x ∷ []) xs)
    (grown_from n xs (k ++ x ∷ []) (node_outs n before i) (before ++ i ∷ []) is (subst (Grown n) same (more k by.arrival grown by.ready)) (came-inputs n k x before i by e) each.1 rest)
grown_from n (x ∷ xs) k (out ∷ outs) before inputs grown e each parts =
    let left : part_of x.what ≡ Part.Left out = cc in
    let rest : parts_of xs ≡ map (λ o. Part.Left o) outs ++ blocks_after n before inputs = cc in
    let next : with_out k out ≡ k ++ x ∷ [] = with_out-is k out ∙ ap (λ y. k ++ y ∷ []) (sym (left-is n k x out each.0 left)) in
    subst (Grown n) (append_assoc k (x ∷ []) xs)
    (grown_from n xs (k ++ x ∷ []) outs before inputs (subst (λ j. Grown n (fold with_out j outs)) next grown) (ap (λ j. inputs_of (fold with_out j outs)) (sym next) ∙ e) each.1 rest)

pub grown_of_lawful : (n : ℕ) (j : List Entry) → IsLawfulAt n j → Grown n j
grown_of_lawful n j lawful =
    grown_from n j [] [] [] (inputs_of j) nothing refl
    (all_due n [] j lawful.sent_numbered lawful.got_numbered lawful.stamped lawful.pasts lawful.ready) lawful.blocks
