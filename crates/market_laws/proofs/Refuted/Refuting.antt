-- What refutes an equation, an order and a membership that are computed; and links on which nothing is outstanding.
use Rattle.std.proofs.Common.{◌≡◌, ℕ, zero, suc, ◌≤◌, ◌==◌, true, false, nat_le, List, [], ◌∷◌, ◌++◌, length, drop, inl, inr, refl, ap, ◌∙◌, arith}
use Rattle.std.specs.Prelude.{slice_index_or}
use Rattle.std.specs.List.{AllByRecursion}
use Rattle.std.proofs.lemmas.Bool.{eqb-false}
use Rattle.std.proofs.lemmas.Bool.Decides.{nat_tests}
use Rattle.market_events.specs.declared.events.Entry.{Entry}
use Rattle.market_events.specs.declared.links.Link.{Link}
use Rattle.market_events.specs.Links.{sender_of, receiver_of}
use Rattle.market_history.specs.Histories.{Histories, journal_at}
use Rattle.market_history.specs.Outstanding.{outstanding}
use Rattle.market_history.specs.Sent.{sent, got}
use Rattle.market_laws.specs.Runs.{Member}

pub not_true : false ≡ true → ⊥
not_true e = cc

pub apart : (a b : ℕ) → a ≡ b → (a == b) ≡ false → ⊥
apart a b e is = eqb-false a b is e

pub above : (a b : ℕ) → a ≤ b → nat_le a b ≡ false → ⊥
above a b le is = grind (arith, nat_tests)

pub not_only : {A : Type 0} (x y : A) → (x ≡ y → ⊥) → Member x (y ∷ []) → ⊥
not_only x y never (inl same) = never same
not_only x y never (inr none) = none

-- an empty list neither begins with an element nor goes on to one
pub nil_cons : {A : Type 0} (x : A) (xs : List A) → [] ≡ x ∷ xs → ⊥
nil_cons x xs e = cc

pub nil_append : {A : Type 0} (xs : List A) (y : A) (ys : List A) → [] ≡ xs ++ y ∷ ys → ⊥
nil_append [] y ys e = nil_cons y ys e
nil_append (x ∷ xs) y ys e = nil_cons x (xs ++ y ∷ ys) e

sent_at : (link : Link) (h : Histories) → AllByRecursion (λ (j : List Entry). sent link j ≡ []) h → (n : ℕ) → sent link (slice_index_or h n []) ≡ []
sent_at link [] each n = refl
sent_at link (j ∷ js) each zero = each.0
sent_at link (j ∷ js) each (suc n) = sent_at link js each.1 n

drop_none : {A : Type 0} (n : ℕ) → drop {A = A} n [] ≡ []
drop_none zero = refl
drop_none (suc n) = refl

-- where no journal made an event on the link, none is outstanding on it
pub unmade-link : (h : Histories) (link : Link) → AllByRecursion (λ (j : List Entry). sent link j ≡ []) h → outstanding h link ≡ []
unfolding journal_at
unmade-link h link none =
    ap (drop (length (got link (journal_at h (receiver_of link))))) (sent_at link h none (sender_of link))
    ∙ drop_none (length (got link (journal_at h (receiver_of link))))
