-- The core of a lane at its place, among the cores of all lanes in order.
use Rattle.std.proofs.Common.{◌≡◌, ℕ, ◌<◌, List, [], length, get_or, map, ap, sym, ◌∙◌, subst}
use Rattle.std.specs.Prelude.{slice_index_or, slice_set}
use Rattle.std.specs.List.{range_with_len}
use Rattle.std.proofs.lemmas.List.{length-map, get_or-map, map-set, set-get_or}
use Rattle.std.proofs.lemmas.List.FromFn.{length-range_with_len, get_or-range_with_len}
use Rattle.market_events.specs.declared.events.Entry.{Entry}
use Rattle.market_events.specs.Links.{lane_node}
use Rattle.market_events.specs.declared.lanes.TheConstants.{LANES}
use Rattle.market_node.specs.Cores.{CoreState}

abbrev nodes_in : List CoreState → List ℕ
nodes_in cores = map (λ (core : CoreState). core.node) cores

abbrev entries_in : List CoreState → List (List Entry)
entries_in cores = map (λ (core : CoreState). core.entries) cores

module _ (cores : List CoreState) (order : nodes_in cores ≡ range_with_len (lane_node 0) LANES) where
  many : length cores ≡ LANES
  many = sym (length-map cores (λ (core : CoreState). core.node)) ∙ ap length order ∙ length-range_with_len (lane_node 0) LANES

  module _ (lane : ℕ) (lt : lane < LANES) where
    within : lane < length cores
    within = subst (λ n. lane < n) (sym many) lt

    pub node_there : (core : CoreState) → core ≡ get_or cores lane core → core.node ≡ lane_node lane
    node_there core is =
        ap (λ (c : CoreState). c.node) is ∙ sym (get_or-map (λ (c : CoreState). c.node) cores lane core 0 within)
        ∙ ap (λ ns. get_or ns lane 0) order ∙ get_or-range_with_len (lane_node 0) LANES lane 0 lt

    -- a core of the lane at its place keeps the order
    pub order_kept : (core : CoreState) → core.node ≡ lane_node lane → nodes_in (slice_set cores lane core) ≡ range_with_len (lane_node 0) LANES
    order_kept core is =
        map-set (λ (c : CoreState). c.node) cores lane core
        ∙ ap (λ n. slice_set (nodes_in cores) lane n) (is ∙ sym (get_or-range_with_len (lane_node 0) LANES lane 0 lt) ∙ ap (λ ns. get_or ns lane 0) (sym order))
        ∙ set-get_or (nodes_in cores) lane 0 ∙ order

    module _ (h : List (List Entry)) (view : entries_in cores ≡ h) (core : CoreState) (is : core ≡ get_or cores lane core) where
      pub entries_there : core.entries ≡ slice_index_or h lane []
      entries_there =
          ap (λ (c : CoreState). c.entries) is ∙ sym (get_or-map (λ (c : CoreState). c.entries) cores lane core [] within) ∙ ap (λ js. get_or js lane []) view

      -- what is known of the node and its entries is known of the lane
      pub of_lane : (P : ℕ → List Entry → Type 0) → P core.node core.entries → P (lane_node lane) (slice_index_or h lane [])
      of_lane P known = subst (P (lane_node lane)) entries_there (subst (λ n. P n core.entries) (node_there core is) known)

      pub of_core : (P : ℕ → List Entry → Type 0) → P (lane_node lane) (slice_index_or h lane []) → P core.node core.entries
      of_core P known = subst (P core.node) (sym entries_there) (subst (λ n. P n (slice_index_or h lane [])) (sym (node_there core is)) known)

      -- the entries of the lanes where those of this one are changed
      pub left_there : (new : CoreState) (left : ℕ → List Entry → List Entry) → new.entries ≡ left core.node core.entries
          → entries_in (slice_set cores lane new) ≡ slice_set h lane (left (lane_node lane) (slice_index_or h lane []))
      left_there new left is_new =
          map-set (λ (c : CoreState). c.entries) cores lane new ∙ ap (λ js. slice_set js lane new.entries) view
          ∙ ap (slice_set h lane) (of_lane (λ n es. new.entries ≡ left n es) is_new)
