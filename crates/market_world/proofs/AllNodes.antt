-- The journals of the lanes among those of all nodes, after those of the eight services.
use Rattle.std.proofs.Common.{◌≡◌, ℕ, suc, List, [], ◌∷◌, ap, arith}
use Rattle.std.specs.Prelude.{slice_index_or, slice_set}
use Rattle.market_events.specs.declared.events.Entry.{Entry}
use Rattle.market_events.specs.Links.{lane_node}
use Rattle.market_history.specs.Histories.{Histories, journal_at, with_journal}

after_services : (lane : ℕ) → lane_node lane ≡ suc (suc (suc (suc (suc (suc (suc (suc lane)))))))
after_services lane = omega arith

module _ (cart product stock order payment shipment customer seller : List Entry) (lanes : List (List Entry)) (lane : ℕ) where
  abbrev all : Histories
  all = cart ∷ product ∷ stock ∷ order ∷ payment ∷ shipment ∷ customer ∷ seller ∷ lanes

  pub at_lane : journal_at all (lane_node lane) ≡ slice_index_or lanes lane []
  unfolding journal_at
  at_lane = ap (λ n. slice_index_or all n []) (after_services lane)

  pub set_lane : (entries : List Entry) → with_journal all (lane_node lane) entries
      ≡ cart ∷ product ∷ stock ∷ order ∷ payment ∷ shipment ∷ customer ∷ seller ∷ slice_set lanes lane entries
  unfolding with_journal
  set_lane entries = ap (λ n. slice_set all n entries) (after_services lane)
