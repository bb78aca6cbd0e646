-- The walk of a watcher: one entry more, and the end.
use Rattle.std.proofs.Common.{◌≡◌, ℕ, ◌+◌, ◌<◌, ◌≤◌, Bool, true, false, List, [], ◌∷◌, ◌++◌, length, take, drop, suc, ap, sym, ◌∙◌, subst, append-nil, drop-cons, arith}
use Rattle.std.specs.Prelude.{slice_index_or, ◌↔◌}
use Rattle.std.proofs.lemmas.Grind.{take_at_read}
use Rattle.std.proofs.lemmas.List.{take-append-drop, length-take-le}
use Rattle.market_events.specs.declared.events.Entry.{Entry}
use Rattle.market_history.specs.Histories.{Histories, journal_at}
use Rattle.market_history.specs.Journals.{AreEntriesFrom, IsJournal}
use Rattle.market_history.specs.Stamps.{EachAfter}
use Rattle.market_history.proofs.EntryLaws.{IsJournal-at}
use Rattle.market_history.proofs.StampLaws.{EachAfter-push}
use Rattle.market_auditor.specs.declared.verdicts.Criterion.{Criterion}
use Rattle.market_auditor.specs.Criteria.{Asks, MayEnd, HoldsAt, IsFirstAt}
use Rattle.market_auditor.specs.Watching.{StandsSomewhere, IsWatched, IsLookedAt, Judges}

-- a list, cut at a place
pub record CutAt {A : Type 0} (xs : List A) (i : ℕ) (x : A) : Type 0 where
  pub rest : List A
  pub is : xs ≡ take i xs ++ x ∷ rest
  pub next : take (i + 1) xs ≡ take i xs ++ x ∷ []
  pub there : length (take i xs) ≡ i

pub cut_at : {A : Type 0} (xs : List A) (i : ℕ) (x : A) → i < length xs → x ≡ slice_index_or xs i x → CutAt xs i x
cut_at xs i x lt is = record {
  rest = drop (suc i) xs;
  is = sym (take-append-drop i xs) ∙ ap (λ l. take i xs ++ l) (drop-cons xs i x lt ∙ ap (λ y. y ∷ drop (suc i) xs) (sym is));
  next = (take_at_read xs i x lt).1 ∙ ap (λ y. take i xs ++ y ∷ []) (sym is);
  there = length-take-le i xs (omega arith);
}

-- a journal is no longer than its places
few_from : (n place : ℕ) (xs : List Entry) → place ≤ 4_294_967_295 → AreEntriesFrom n place xs → place + length xs ≤ 4_294_967_295
few_from n place [] low each = omega arith
few_from n place (x ∷ xs) low each =
    let high = each.0.place_high in
    let more = few_from n (place + 1) xs (omega arith) each.1 in
    omega arith

pub few_places : (xs : List Entry) → (n : ℕ) × IsJournal n xs → length xs ≤ 4_294_967_295
few_places xs (n, journal) = let most = few_from n 0 xs (omega arith) journal in omega arith

-- each entry of a journal may stand somewhere
pub stands_at : (xs : List Entry) (i : ℕ) (x : Entry) → i < length xs → x ≡ slice_index_or xs i x → (n : ℕ) × IsJournal n xs → StandsSomewhere x
stands_at xs i x lt is (n, journal) =
    let cut = cut_at xs i x lt is in
    (n, length (take i xs), IsJournal-at n (take i xs) x cut.rest (subst (IsJournal n) cut.is journal))

-- what the watcher stands for after the first entries
pub record HasSeen {Kept : Type 0} (criterion : Criterion) (saw : Kept → Histories → ℕ → List Entry → Type 0) (first kept : Kept) (entries : List Entry) (i : ℕ) : Type 0 where
  pub seen : (h : Histories) (n : ℕ) → IsWatched criterion h n → entries ≡ journal_at h n → saw first h n [] → saw kept h n (take i entries) × EachAfter (Asks criterion h n) [] (take i entries)

module _ {Kept : Type 0} (criterion : Criterion) (saw : Kept → Histories → ℕ → List Entry → Type 0) (first kept : Kept) (entries : List Entry) where
  pub seen_nothing : HasSeen criterion saw first first entries 0
  seen_nothing = record { seen = λ h n watched is start. (start, tt) }

  module _ (i : ℕ) (x : Entry) (lt : i < length entries) (is : x ≡ slice_index_or entries i x) (has : HasSeen criterion saw first kept entries i) where
    looked : (h : Histories) (n : ℕ) → IsWatched criterion h n → entries ≡ journal_at h n → saw first h n [] → IsLookedAt criterion h n (take i entries) x
    looked h n watched same start =
        let cut = cut_at entries i x lt is in
        record { watched = watched; holds = (has.seen h n watched same start).1; after = cut.rest; there = sym same ∙ cut.is }

    -- the entry is right
    pub seen_next : (later : Kept) → ((h : Histories) (n : ℕ) (before : List Entry) → saw kept h n before → IsLookedAt criterion h n before x → Judges criterion h n before x (saw later h n) true) → HasSeen criterion saw first later entries (i + 1)
    seen_next later judged = record {
      seen = λ h n watched same start.
          let had = has.seen h n watched same start in
          let both = judged h n (take i entries) had.0 (looked h n watched same start) in
          let cut = cut_at entries i x lt is in (
            subst (saw later h n) (sym cut.next) both.1,
            subst (EachAfter (Asks criterion h n) []) (sym cut.next) (EachAfter-push (Asks criterion h n) [] (take i entries) x had.1 both.0),
          );
    }

    -- the entry is not right
    pub first_here : (later : Kept) → ((h : Histories) (n : ℕ) (before : List Entry) → saw kept h n before → IsLookedAt criterion h n before x → Judges criterion h n before x (saw later h n) false)
        → (h : Histories) (n : ℕ) → IsWatched criterion h n → entries ≡ journal_at h n → saw first h n [] → IsFirstAt criterion h n i
    first_here later judged h n watched same start =
        let had = has.seen h n watched same start in
        let cut = cut_at entries i x lt is in
        record {
          before = take i entries;
          rest = x ∷ cut.rest;
          is = sym same ∙ cut.is;
          there = cut.there;
          holds = had.1;
          differs = judged h n (take i entries) had.0 (looked h n watched same start);
        }

  module _ (i : ℕ) (all : take i entries ≡ entries) (has : HasSeen criterion saw first kept entries i) (ends : Bool)
      (judged : (h : Histories) (n : ℕ) (before : List Entry) → saw kept h n before → ((ends ≡ true) ↔ MayEnd criterion n before)) where
    -- the journal may end
    pub holds_all : ends ≡ true → (h : Histories) (n : ℕ) → IsWatched criterion h n → entries ≡ journal_at h n → saw first h n [] → HoldsAt criterion h n
    holds_all may h n watched same start =
        let had = has.seen h n watched same start in
        let whole : take i entries ≡ journal_at h n = all ∙ same in
        record {
          each = subst (EachAfter (Asks criterion h n) []) whole had.1;
          ends = subst (MayEnd criterion n) whole ((judged h n (take i entries) had.0).0 may);
        }

    -- it may not
    pub first_end : ends ≡ false → (h : Histories) (n : ℕ) → IsWatched criterion h n → entries ≡ journal_at h n → saw first h n [] → IsFirstAt criterion h n (length entries)
    first_end never h n watched same start =
        let had = has.seen h n watched same start in
        record {
          before = take i entries;
          rest = [];
          is = sym same ∙ sym all ∙ sym (append-nil (take i entries));
          there = ap (λ (l : List Entry). length l) all;
          holds = had.1;
          differs = λ may. let wrong : false ≡ true = sym never ∙ (judged h n (take i entries) had.0).1 may in let no : ⊥ = cc in no;
        }
