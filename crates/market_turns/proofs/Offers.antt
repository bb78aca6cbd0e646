-- Events that are offered to a core one after the other.
use Rattle.std.proofs.Common.{◌≡◌, ℕ, ◌+◌, List, [], ◌∷◌, ◌++◌, refl, ap, subst, sym, ◌∙◌}
use Rattle.market_events.specs.declared.events.Entry.{Entry}
use Rattle.market_events.specs.declared.events.Event.{Event}
use Rattle.market_node.specs.Cores.{CoreState, with_entries}
use Rattle.market_node.specs.Offered.{CanTakeAll, with_offered, with_all_offered}

module _ (can : ℕ → List Entry → Event → Type 0) where
  -- of all events that a core is offered, these are left
  pub record AreOffered (start : CoreState) (all : List Event) (now : CoreState) (left : List Event) : Type 0 where
    pub same : now ≡ with_entries start now.entries
    pub can_all : CanTakeAll can start.node now.entries left
    pub ends : with_all_offered start.node now.entries left ≡ with_all_offered start.node start.entries all

  -- the next one may be offered
  pub offered_head : (start : CoreState) (all : List Event) (now : CoreState) (left rest : List Event) (event : Event) → AreOffered start all now left → left ≡ event ∷ rest → can now.node now.entries event
  offered_head start all now left rest event are is =
      subst (λ n. can n now.entries event) (sym (ap (λ (s : CoreState). s.node) are.same))
      (subst (λ (es : List Event). CanTakeAll can start.node now.entries es) is are.can_all).0

  -- and was offered
  pub offered_next : (start : CoreState) (all : List Event) (now next : CoreState) (left rest : List Event) (event : Event) → AreOffered start all now left → left ≡ event ∷ rest
      → next ≡ with_entries now (with_offered now.node now.entries event) → AreOffered start all next rest
  offered_next start all now next left rest event are is offered =
      subst (λ s. AreOffered start all s rest) (sym moved) (record {
        same = refl;
        can_all = (subst (λ (es : List Event). CanTakeAll can start.node now.entries es) is are.can_all).1;
        ends = ap (λ (es : List Event). with_all_offered start.node now.entries es) (sym is) ∙ are.ends;
      })
    where
      moved : next ≡ with_entries start (with_offered start.node now.entries event)
      moved =
          offered
          ∙ ap (λ (s : CoreState). with_entries s (with_offered s.node now.entries event)) are.same

  -- a front of what is left was offered
  pub offered_front : (start : CoreState) (all : List Event) (now next : CoreState) (left front rest : List Event) → AreOffered start all now left → left ≡ front ++ rest
      → next ≡ with_entries now (with_all_offered now.node now.entries front) → AreOffered start all next rest
  offered_front start all now next left [] rest are is offered =
      subst (λ s. AreOffered start all s rest) (sym offered) (record {
        same = are.same;
        can_all = subst (λ (es : List Event). CanTakeAll can start.node now.entries es) is are.can_all;
        ends = ap (λ (es : List Event). with_all_offered start.node now.entries es) (sym is) ∙ are.ends;
      })
  offered_front start all now next left (event ∷ front) rest are is offered =
      offered_front start all (with_entries now (with_offered now.node now.entries event)) next (front ++ rest) front rest
      (offered_next start all now (with_entries now (with_offered now.node now.entries event)) left (front ++ rest) event are is refl) refl offered

  -- the events of a front may be offered
  pub can_front : (node : ℕ) (entries : List Entry) (front rest : List Event) → CanTakeAll can node entries (front ++ rest) → CanTakeAll can node entries front
  can_front node entries [] rest can_all = tt
  can_front node entries (event ∷ front) rest can_all = (can_all.0, can_front node (with_offered node entries event) front rest can_all.1)

  pub offered_can : (start : CoreState) (all : List Event) (now : CoreState) (left front rest : List Event) → AreOffered start all now left → left ≡ front ++ rest → CanTakeAll can now.node now.entries front
  offered_can start all now left front rest are is =
      subst (λ n. CanTakeAll can n now.entries front) (sym (ap (λ (s : CoreState). s.node) are.same))
      (can_front start.node now.entries front rest (subst (λ (es : List Event). CanTakeAll can start.node now.entries es) is are.can_all))

  -- all were offered
  pub offered_last : (start : CoreState) (all : List Event) (now : CoreState) (left : List Event) → AreOffered start all now left → left ≡ [] → now ≡ with_entries start (with_all_offered start.node start.entries all)
  offered_last start all now left are none =
      are.same ∙ ap (with_entries start) (ap (λ (es : List Event). with_all_offered start.node now.entries es) (sym none) ∙ are.ends)
