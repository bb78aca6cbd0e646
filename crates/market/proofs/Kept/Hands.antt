-- What a hand stands for, with one request more.
use Rattle.std.proofs.Common.{◌≡◌, Bool, true, false, not, cond, ◌&&◌, ◌||◌, nat_lt, List, [], ◌∷◌, ◌++◌, is_some, refl, ap, ap₂, ◌∙◌, sym, subst}
use Rattle.market.specs.Hand.{HandStands}
use Rattle.market_events.specs.declared.requests.Request.{Request}
use Rattle.market_events.specs.declared.replies.Reply.{Reply}
use Rattle.market.specs.declared.lanes.Kept.{Kept}
use Rattle.market.specs.declared.hand.Hand.{Hand}
use Rattle.market.specs.Lanes.{kept_at, count_in_lane}
use Rattle.market.specs.Once.{has_id_of, count_in_lane_of, kept_of}
use Rattle.market_history.specs.Acts.{no_acts}
use Rattle.market_history.specs.Once.{most_kept}
use Rattle.market_history.specs.Sequential.{acts_after, sequential_reply}
use Rattle.market.specs.Replies.{sequential_replies}
use Rattle.market.specs.Services.{Serves, IsNext}
use Rattle.market.proofs.Kept.LaneByLane.{kept_of-push}
use Rattle.market.proofs.Kept.Answers.{replies_after-push, is_some-kept_at, count_in_lane-replies, kept_few}

-- the test of a new id and of room, as the lanes make it
abbrev pub can_keep : List Kept → Request → Bool
can_keep kept r = not (is_some (kept_at kept r.id)) && nat_lt (count_in_lane kept r.id) most_kept

over : (found room : Bool) → (not found && room) ≡ false → (found || not room) ≡ true
over true room e = refl
over false true e = cc
over false false e = refl

under : (found room : Bool) → (not found && room) ≡ true → (found || not room) ≡ false
under true room e = cc
under false true e = refl
under false false e = cc

found_not : (found room : Bool) → (not found && room) ≡ true → found ≡ false
found_not true room e = cc
found_not false room e = refl

module _ (hand : Hand) (given : List Request) (r : Request) (stands : HandStands hand given) where
  keeps_as : can_keep hand.lanes r ≡ (not (has_id_of (kept_of most_kept given) r) && nat_lt (count_in_lane_of (kept_of most_kept given) r) most_kept)
  keeps_as =
      ap (λ kept. can_keep kept r) stands.kept
      ∙ ap₂ (λ found count. not found && nat_lt count most_kept) (is_some-kept_at no_acts (kept_of most_kept given) r) (count_in_lane-replies no_acts (kept_of most_kept given) r)

  -- a request whose id is kept or whose lane has no room leaves all as it is
  pub passes_over : can_keep hand.lanes r ≡ false → HandStands hand (given ++ r ∷ [])
  passes_over e =
      let full = over (has_id_of (kept_of most_kept given) r) (nat_lt (count_in_lane_of (kept_of most_kept given) r) most_kept) (sym keeps_as ∙ e) in
      let same : kept_of most_kept (given ++ r ∷ []) ≡ kept_of most_kept given = kept_of-push most_kept given r ∙ ap (λ b. cond b (kept_of most_kept given) (kept_of most_kept given ++ r ∷ [])) full in
      record {
        kept = stands.kept ∙ ap sequential_replies (sym same);
        serves = subst (λ kept. Serves hand.services kept) (sym same) stands.serves;
      }

  -- one with a new id and room may come next
  pub is_next : can_keep hand.lanes r ≡ true → IsNext (kept_of most_kept given) r
  is_next e = record {
    new = found_not (has_id_of (kept_of most_kept given) r) (nat_lt (count_in_lane_of (kept_of most_kept given) r) most_kept) (sym keeps_as ∙ e);
    few = kept_few given;
  }

  -- and it is answered by the sequential market
  pub takes_in : (after : Hand) (reply : Reply) → can_keep hand.lanes r ≡ true
      → after.lanes ≡ hand.lanes ++ record { request = r; reply = reply } ∷ []
      → reply ≡ sequential_reply (acts_after no_acts (kept_of most_kept given)) r
      → Serves after.services (kept_of most_kept given ++ r ∷ [])
      → HandStands after (given ++ r ∷ [])
  takes_in after reply e lanes replied serves =
      let kept = kept_of most_kept given in
      let room = under (has_id_of kept r) (nat_lt (count_in_lane_of kept r) most_kept) (sym keeps_as ∙ e) in
      let more : kept_of most_kept (given ++ r ∷ []) ≡ kept ++ r ∷ [] = kept_of-push most_kept given r ∙ ap (λ b. cond b kept (kept ++ r ∷ [])) room in
      record {
        kept = lanes ∙ ap₂ (λ front (last : Reply). front ++ record { request = r; reply = last } ∷ []) stands.kept replied
            ∙ sym (replies_after-push no_acts kept r) ∙ ap sequential_replies (sym more);
        serves = subst (λ kept. Serves after.services kept) (sym more) serves;
      }
