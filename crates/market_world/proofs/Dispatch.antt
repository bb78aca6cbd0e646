-- What is known of the core at a place is known of the node, and what is left there is left of the node.
use Rattle.std.proofs.Common.{◌≡◌, ℕ, Bool, true, List, [], if◌then◌else◌, ap, sym, ◌∙◌, subst}
use Rattle.std.specs.Prelude.{nat_lt}
use Rattle.market_events.specs.declared.events.Entry.{Entry}
use Rattle.market_events.specs.Cells.{cells_of}
use Rattle.market_events.specs.declared.roles.Role.{Role}
use Rattle.market_events.specs.Services.{node_of}
use Rattle.market_history.specs.Blocks.{inputs_of, role_at, services, service_steps, steps_of}
use Rattle.market_history.specs.Histories.{Histories, journal_at, with_journal}
use Rattle.market_world.specs.Cells.{cells_at}

-- the core of node n, which stands at place k of the view v, has node m and entries es
module _ (v h : Histories) (view : v ≡ h) (k n : ℕ) (place : k ≡ n) (m : ℕ) (es : List Entry) (node : m ≡ k) (there : journal_at v k ≡ es) where
  here : es ≡ journal_at h n
  here = sym there ∙ ap (λ (g : Histories). journal_at g k) view ∙ ap (journal_at h) place

  pub of_node : (P : ℕ → List Entry → Type 0) → P m es → P n (journal_at h n)
  of_node P known = subst (P n) here (subst (λ i. P i es) (node ∙ place) known)

  pub at_node : (P : ℕ → List Entry → Type 0) → P n (journal_at h n) → P m es
  at_node P known = subst (λ i. P i es) (sym (node ∙ place)) (subst (P n) (sym here) known)

  pub left_at : (new : List Entry) (w : Histories) (left : ℕ → List Entry → List Entry) → with_journal v k new ≡ w → new ≡ left m es → w ≡ with_journal h n (left n (journal_at h n))
  left_at new w left is changed =
      sym is ∙ ap (λ (g : Histories). with_journal g k new) view ∙ ap (λ i. with_journal h i new) place
      ∙ ap (with_journal h n) (of_node (λ i j. new ≡ left i j) changed)

-- the cells of a service's core
pub cells_there : (v h : Histories) → v ≡ h → (k n : ℕ) → k ≡ n → (role : Role) → node_of role ≡ k → role_at k ≡ role → nat_lt k services ≡ true → (es : List Entry) → journal_at v k ≡ es
    → cells_of role (steps_of role (inputs_of es)) ≡ cells_at h n
cells_there v h view k n place role of_role at_place service es there =
    ap (λ j. cells_of role (steps_of role (inputs_of j))) (sym there ∙ ap (λ (g : Histories). journal_at g k) view)
    ∙ ap (λ i. cells_of role (steps_of role (inputs_of (journal_at h i)))) (sym of_role)
    ∙ ap (λ (r : Role). cells_of r (service_steps h r)) (sym at_place)
    ∙ sym (ap (λ (b : Bool). if b then cells_of (role_at k) (service_steps h (role_at k)) else []) service)
    ∙ ap (cells_at h) place
