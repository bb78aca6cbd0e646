-- Journals whose entries so far are blocks, the last of which may owe something.
use Rattle.std.proofs.Common.{◌≡◌, ℕ, List, [], ◌∷◌, ◌++◌, length, drop, refl, ap, sym, ◌∙◌, subst, append-nil, append_assoc}
use Rattle.std.proofs.lemmas.List.{length-map, map-append}
use Rattle.std.proofs.lemmas.List.Elements.{filter_map-append}
use Rattle.market_events.specs.declared.events.Entry.{Entry}
use Rattle.market_events.specs.declared.events.What.{What}
use Rattle.market_events.specs.declared.events.What.TheVariants.{Given, Taken, Made, Answered}
use Rattle.market_events.specs.declared.requests.Request.{Request}
use Rattle.market_history.specs.declared.schedule.Give.TheVariants as give
use Rattle.market_history.specs.Blocks.{Input, Out, Part, part_of, parts_of, input_in, inputs_of, node_outs, block, blocks_after}
use Rattle.market_history.specs.Once.{give_of}
use Rattle.market_history.specs.Stamps.{EachAfter}
use Rattle.market_history.proofs.CoreEntries.{inputs_of-push-came, inputs_of-push-left}
use Rattle.market_history.proofs.GrowLaws.{blocks_after-push}
use Rattle.market_auditor.specs.Criteria.{owed_after, MayBegin, IsNextOf, GoesOn}
use Rattle.market_auditor.specs.Owing.{Owes, lefts}

drop_front : {A : Type 0} (k : ℕ) (xs ys : List A) → length xs ≡ k → drop k (xs ++ ys) ≡ ys
drop_front k [] ys e = ap (λ j. drop j ys) (sym e)
drop_front k (x ∷ xs) ys e = ap (λ j. drop j (x ∷ (xs ++ ys))) (sym e) ∙ drop_front (length xs) xs ys refl

length-parts_of : (entries : List Entry) → length (parts_of entries) ≡ length entries
length-parts_of entries = length-map entries (λ (x : Entry). part_of x.what)

-- so these outs are what is owed
pub owed-is : (n : ℕ) (before : List Entry) (outs : List Out) → Owes n before outs → owed_after n before ≡ lefts outs
owed-is n before outs owes =
    ap (λ parts. drop (length before) parts) (sym owes.blocks)
    ∙ drop_front (length before) (parts_of before) (lefts outs) (length-parts_of before)

pub owes_nothing : (n : ℕ) → Owes n [] []
owes_nothing n = record { blocks = refl }

parts_of-push : (before : List Entry) (x : Entry) → parts_of (before ++ x ∷ []) ≡ parts_of before ++ part_of x.what ∷ []
parts_of-push before x = map-append (λ (y : Entry). part_of y.what) before (x ∷ [])

-- something came, where nothing was owed
pub owes-came : (n : ℕ) (before : List Entry) (x : Entry) (input : Input) → Owes n before [] → part_of x.what ≡ Part.Came input
    → Owes n (before ++ x ∷ []) (node_outs n (inputs_of before) input)
owes-came n before x input owes came = record {
  blocks =
      ap (λ parts. parts ++ lefts (node_outs n (inputs_of before) input)) (parts_of-push before x ∙ ap (λ part. parts_of before ++ part ∷ []) came)
      ∙ append_assoc (parts_of before) (Part.Came input ∷ []) (lefts (node_outs n (inputs_of before) input))
      ∙ ap (λ parts. parts ++ block n (inputs_of before) input) (sym (append-nil (parts_of before)) ∙ owes.blocks)
      ∙ sym (blocks_after-push n [] (inputs_of before) input)
      ∙ ap (blocks_after n []) (sym (inputs_of-push-came before x input (ap input_in came)));
}

-- the first of what was owed was made
pub owes-left : (n : ℕ) (before : List Entry) (x : Entry) (out : Out) (outs : List Out) → Owes n before (out ∷ outs) → part_of x.what ≡ Part.Left out
    → Owes n (before ++ x ∷ []) outs
owes-left n before x out outs owes left = record {
  blocks =
      ap (λ parts. parts ++ lefts outs) (parts_of-push before x ∙ ap (λ part. parts_of before ++ part ∷ []) left)
      ∙ append_assoc (parts_of before) (Part.Left out ∷ []) (lefts outs)
      ∙ owes.blocks
      ∙ ap (blocks_after n []) (sym (inputs_of-push-left before x (ap input_in left)));
}

-- what may come next, by what is owed
pub next_of : (n : ℕ) (before : List Entry) (outs : List Out) (what : What) → Owes n before outs → GoesOn n before what → IsNextOf (lefts outs) before what
next_of n before outs what owes goes = subst (λ parts. IsNextOf parts before what) (owed-is n before outs owes) goes

pub goes_by : (n : ℕ) (before : List Entry) (outs : List Out) (what : What) → Owes n before outs → IsNextOf (lefts outs) before what → GoesOn n before what
goes_by n before outs what owes next = subst (λ parts. IsNextOf parts before what) (sym (owed-is n before outs owes)) next

-- some outs are owed
pub record OwesSome (n : ℕ) (before : List Entry) : Type 0 where
  pub outs : List Out
  pub owes : Owes n before outs

pub owes-next : (n : ℕ) (before : List Entry) (x : Entry) (outs : List Out) → Owes n before outs → GoesOn n before x.what → OwesSome n (before ++ x ∷ [])
owes-next n before x [] owes goes = by x.what refl (next_of n before [] x.what owes goes)
  where
    by : (what : What) → x.what ≡ what → MayBegin before what → OwesSome n (before ++ x ∷ [])
    by (Given request) is may = record { outs = node_outs n (inputs_of before) (Input.Gives request); owes = owes-came n before x (Input.Gives request) owes (ap part_of is) }
    by (Taken event) is may = record { outs = node_outs n (inputs_of before) (Input.Takes event.link event.body); owes = owes-came n before x (Input.Takes event.link event.body) owes (ap part_of is) }
    by (Made event) is may = absurd may
    by (Answered id reply) is may = absurd may
owes-next n before x (out ∷ outs) owes goes = record { outs = outs; owes = owes-left n before x out outs owes (next_of n before (out ∷ outs) x.what owes goes) }

-- where each entry goes on from those before it
pub owes-all : (n : ℕ) (before xs : List Entry) → OwesSome n before → EachAfter (λ b (x : Entry). GoesOn n b x.what) before xs → OwesSome n (before ++ xs)
owes-all n before [] some each = subst (OwesSome n) (sym (append-nil before)) some
owes-all n before (x ∷ xs) some each =
    subst (OwesSome n) (append_assoc before (x ∷ []) xs) (owes-all n (before ++ x ∷ []) xs (owes-next n before x some.outs some.owes each.0) each.1)

pub nothing_left : (outs : List Out) → lefts outs ≡ [] → outs ≡ []
nothing_left [] e = refl
nothing_left (out ∷ outs) e = let no : ⊥ = cc in absurd no

-- and nothing is owed at the end, they are blocks
pub blocks-of : (n : ℕ) (entries : List Entry) → EachAfter (λ b (x : Entry). GoesOn n b x.what) [] entries → owed_after n entries ≡ [] → parts_of entries ≡ blocks_after n [] (inputs_of entries)
blocks-of n entries each none =
    let some = owes-all n [] entries (record { outs = []; owes = owes_nothing n }) each in
    let empty : some.outs ≡ [] = nothing_left some.outs (sym (owed-is n entries some.outs some.owes) ∙ none) in
    sym (append-nil (parts_of entries)) ∙ ap (λ outs. parts_of entries ++ lefts outs) (sym empty) ∙ some.owes.blocks

-- the blocks of inputs and of those after them
blocks_after-append : (n : ℕ) (before inputs more : List Input) → blocks_after n before (inputs ++ more) ≡ blocks_after n before inputs ++ blocks_after n (before ++ inputs) more
blocks_after-append n before [] more = ap (λ b. blocks_after n b more) (sym (append-nil before))
blocks_after-append n before (i ∷ is) more =
    ap (λ parts. block n before i ++ parts) (blocks_after-append n (before ++ i ∷ []) is more ∙ ap (λ b. blocks_after n (before ++ i ∷ []) is ++ blocks_after n b more) (append_assoc before (i ∷ []) is))
    ∙ sym (append_assoc (block n before i) (blocks_after n (before ++ i ∷ []) is) (blocks_after n (before ++ i ∷ is) more))

cancel_front : {A : Type 0} (xs ys zs : List A) → xs ++ ys ≡ xs ++ zs → ys ≡ zs
cancel_front [] ys zs e = e
cancel_front (x ∷ xs) ys zs e = let rest : xs ++ ys ≡ xs ++ zs = cc in cancel_front xs ys zs rest

inputs_of-append : (xs ys : List Entry) → inputs_of (xs ++ ys) ≡ inputs_of xs ++ inputs_of ys
inputs_of-append xs ys = filter_map-append (λ (x : Entry). input_in (part_of x.what)) xs ys

module _ (n : ℕ) (journal : List Entry) (blocks : parts_of journal ≡ blocks_after n [] (inputs_of journal)) where
  -- what is after a front is what the front owes, and then blocks
  after_front : (before rest : List Entry) (outs : List Out) → journal ≡ before ++ rest → Owes n before outs → parts_of rest ≡ lefts outs ++ blocks_after n (inputs_of before) (inputs_of rest)
  after_front before rest outs is owes =
      cancel_front (parts_of before) (parts_of rest) (lefts outs ++ blocks_after n (inputs_of before) (inputs_of rest))
      (sym (map-append (λ (x : Entry). part_of x.what) before rest) ∙ ap parts_of (sym is) ∙ blocks ∙ ap (λ l. blocks_after n [] (inputs_of l)) is
      ∙ ap (blocks_after n []) (inputs_of-append before rest) ∙ blocks_after-append n [] (inputs_of before) (inputs_of rest)
      ∙ ap (λ parts. parts ++ blocks_after n (inputs_of before) (inputs_of rest)) (sym owes.blocks)
      ∙ append_assoc (parts_of before) (lefts outs) (blocks_after n (inputs_of before) (inputs_of rest)))

  -- nothing that is made begins a block
  no_left : (before : List Input) (out : Out) (rest : List Part) (inputs : List Input) → Part.Left out ∷ rest ≡ blocks_after n before inputs → ⊥
  no_left before out rest [] e = let no : ⊥ = cc in no
  no_left before out rest (i ∷ is) e = let no : ⊥ = cc in no

  next : (before : List Entry) (x : Entry) (rest : List Entry) (outs : List Out) → journal ≡ before ++ x ∷ rest → Owes n before outs
      → ((request : Request) → x.what ≡ Given request → give_of before request ≡ give.Asked) → IsNextOf (lefts outs) before x.what
  next before x rest (out ∷ outs) is owes ready = let after = after_front before (x ∷ rest) (out ∷ outs) is owes in let here : part_of x.what ≡ Part.Left out = cc in here
  next before x rest [] is owes ready = by x.what refl
    where
      by : (what : What) → x.what ≡ what → MayBegin before what
      by (Given request) at = ready request at
      by (Taken event) at = tt
      by (Made event) at =
          no_left (inputs_of before) (Out.Makes event.link event.body) (parts_of rest) (inputs_of (x ∷ rest)) (ap (λ w. part_of w ∷ parts_of rest) (sym at) ∙ after_front before (x ∷ rest) [] is owes)
      by (Answered id reply) at =
          no_left (inputs_of before) (Out.Answers id reply) (parts_of rest) (inputs_of (x ∷ rest)) (ap (λ w. part_of w ∷ parts_of rest) (sym at) ∙ after_front before (x ∷ rest) [] is owes)

  -- in blocks each entry goes on from those before it
  goes_from : (before xs : List Entry) → journal ≡ before ++ xs → OwesSome n before
      → EachAfter (λ b (x : Entry). (request : Request) → x.what ≡ Given request → give_of b request ≡ give.Asked) before xs → EachAfter (λ b (x : Entry). GoesOn n b x.what) before xs
  goes_from before [] is some ready = tt
  goes_from before (x ∷ xs) is some ready =
      let here = goes_by n before some.outs x.what some.owes (next before x xs some.outs is some.owes ready.0) in
      (here, goes_from (before ++ x ∷ []) xs (is ∙ sym (append_assoc before (x ∷ []) xs)) (owes-next n before x some.outs some.owes here) ready.1)

  pub goes_all : EachAfter (λ b (x : Entry). (request : Request) → x.what ≡ Given request → give_of b request ≡ give.Asked) [] journal → EachAfter (λ b (x : Entry). GoesOn n b x.what) [] journal
  goes_all ready = goes_from [] journal refl (record { outs = []; owes = owes_nothing n }) ready

  -- and nothing is owed at the end
  pub nothing_owed : owed_after n journal ≡ []
  nothing_owed =
      ap (λ parts. drop (length journal) parts) (sym blocks ∙ sym (append-nil (parts_of journal)))
      ∙ drop_front (length journal) (parts_of journal) [] (length-parts_of journal)
