-- What is pushed where no fate is used, and what counts that come back acknowledge.
use Rattle.std.proofs.Common.{◌≡◌, ℕ, ◌≤◌, ◌<◌, Bool, true, false, ◌&&◌, nat_lt, nat_le, if◌then◌else◌, List, [], ◌∷◌, length, take, inl, inr, refl, ap, subst, sym, ◌∙◌, arith}
use Rattle.std.proofs.lemmas.Bool.Decides.{nat_tests}
use Rattle.market_events.specs.declared.events.Entry.{Entry}
use Rattle.market_events.specs.declared.links.Link.{Link}
use Rattle.market_history.specs.Sent.{sent}
use Rattle.market_laws.specs.Runs.{Member}
use Rattle.market_laws.proofs.Runs.Counts.{member-left}
use Rattle.market_node.specs.Sending.{with_count}
use Rattle.market_rings.specs.declared.fates.Fate.{Fate}
use Rattle.market_rings.specs.Pushes.{fates_after_one, fates_left, pushed_of, pushed_by}
use Rattle.market_turns.specs.Turns.{with_counts}

after_one_few : (fates : List Fate) → length (fates_after_one fates) ≤ length fates
after_one_few [] = omega arith
after_one_few (f ∷ fs) = omega arith

module _ {T : Type 0} where
  -- there are no more fates afterwards
  pub fates_few : (packets : List T) (fates : List Fate) → length (fates_left packets fates) ≤ length fates
  fates_few [] fates = omega arith
  fates_few (x ∷ xs) fates = omega (arith, fates_few xs (fates_after_one fates), after_one_few fates)

  -- where one packet at least uses none, there was none
  none_there : (x : T) (packets : List T) (fates : List Fate) → Member x packets → length fates ≤ length (fates_left packets fates) → fates ≡ []
  none_there x [] fates never same = absurd never
  none_there x (y ∷ ys) [] here same = refl
  none_there x (y ∷ ys) (f ∷ fs) here same = absurd (omega (arith, same, fates_few ys fs))

  -- and then all is pushed once
  all_pushed : (packets : List T) → pushed_of packets [] ≡ packets
  all_pushed [] = refl
  all_pushed (x ∷ xs) = ap (λ l. x ∷ l) (all_pushed xs)

  pub pushed_still : (x : T) (packets : List T) (fates : List Fate) (held : List T) → Member x packets → length fates ≤ length (fates_left packets fates) → Member x (pushed_by packets fates held)
  pushed_still x packets fates held here same =
      let none : fates ≡ [] = none_there x packets fates here same in
      let all : pushed_of packets fates ≡ packets = ap (pushed_of packets) none ∙ all_pushed packets in
      member-left x (pushed_of packets fates) held (subst (Member x) (sym all) here)

-- counts that come back acknowledge no less than was
one_up : (link : Link) (entries : List Entry) (committed acknowledged count : ℕ) → acknowledged ≤ with_count link entries committed acknowledged count
one_up link entries committed acknowledged count = by_test (nat_lt acknowledged count) refl (nat_le count (length (sent link (take committed entries))))
  where
    by_test : (b : Bool) → nat_lt acknowledged count ≡ b → (c : Bool) → acknowledged ≤ (if b && c then count else acknowledged)
    by_test true is true = let low : acknowledged < count = grind (arith, nat_tests) in omega (arith, low)
    by_test true is false = omega arith
    by_test false is c = omega arith

all_up : (link : Link) (entries : List Entry) (committed acknowledged : ℕ) (counts : List ℕ) → acknowledged ≤ with_counts link entries committed acknowledged counts
all_up link entries committed acknowledged [] = omega arith
all_up link entries committed acknowledged (n ∷ ns) =
    omega (arith, one_up link entries committed acknowledged n, all_up link entries committed (with_count link entries committed acknowledged n) ns)

one_reaches : (link : Link) (entries : List Entry) (committed acknowledged count : ℕ) → count ≤ length (sent link (take committed entries)) → count ≤ with_count link entries committed acknowledged count
one_reaches link entries committed acknowledged count made = by_test (nat_lt acknowledged count) refl (nat_le count (length (sent link (take committed entries)))) refl
  where
    by_test : (b : Bool) → nat_lt acknowledged count ≡ b → (c : Bool) → nat_le count (length (sent link (take committed entries))) ≡ c → count ≤ (if b && c then count else acknowledged)
    by_test true is true fits = omega arith
    by_test true is false past = let above : length (sent link (take committed entries)) < count = grind (arith, nat_tests) in absurd (omega (arith, above, made))
    by_test false is c fits = let low : count ≤ acknowledged = grind (arith, nat_tests) in omega (arith, low)

-- and no less than each of them, of what was made
pub counts_reach : (link : Link) (entries : List Entry) (committed acknowledged : ℕ) (counts : List ℕ) (count : ℕ) → Member count counts → count ≤ length (sent link (take committed entries)) → count ≤ with_counts link entries committed acknowledged counts
counts_reach link entries committed acknowledged [] count never made = absurd never
counts_reach link entries committed acknowledged (n ∷ ns) count (inl is) made =
    let here : count ≤ with_count link entries committed acknowledged n = subst (λ k. count ≤ with_count link entries committed acknowledged k) is (one_reaches link entries committed acknowledged count made) in
    omega (arith, here, all_up link entries committed (with_count link entries committed acknowledged n) ns)
counts_reach link entries committed acknowledged (n ∷ ns) count (inr there) made =
    counts_reach link entries committed (with_count link entries committed acknowledged n) ns count there made
