-- A request that is carried until nothing is left, with its reply and what was accepted after it.
use Rattle.std.proofs.Common.{◌≡◌, ℕ, ◌≤◌, true, false, List, [], ◌∷◌, length, filter_map, refl, ap, sym, subst, arith}
use Rattle.market_amounts.specs.declared.keys.RequestId.{RequestId}
use Rattle.market_events.specs.declared.bodies.Body.TheVariants as body
use Rattle.market_events.specs.declared.replies.Reply.{Reply}
use Rattle.market_events.specs.declared.requests.Request.{Request}
use Rattle.market_events.specs.Requests.{same_id}
use Rattle.market_events.specs.declared.roles.Role.{Role}
use Rattle.market_events.specs.Steps.{Sending, told}
use Rattle.market_history.specs.Acts.{Acts}
use Rattle.market.specs.Agreeing.{HasTables, IsAnswered}
use Rattle.market.specs.Carrying.{Taken, link_asked, role_asked, with_request, request_fits, request_answers, IsTrace, all_passed, IsFresh, most_made, steps_taken}
use Rattle.market_history.specs.Sequential.{reply_told, sequential_reply, sequential_step, reply_among}
use Rattle.market.proofs.Carrying.Traces.{then_told, fresh_with, any_concerns, fresh_after}

pub record Ends (taken : Taken) (r : Request) (reply : Reply) (after : Acts) : Type 0 where
  pub fit : request_fits taken r ≡ true
  pub trace : List Sending
  pub carried : IsTrace (with_request taken r) (request_answers taken r) trace
  pub replied : filter_map reply_told trace ≡ reply ∷ []
  pub tables : HasTables (all_passed (with_request taken r) trace) after
  pub few : length trace ≤ most_made
  pub apart : (id : RequestId) → same_id r.id id ≡ false → ((role : Role) → IsFresh (steps_taken taken role) id) → any_concerns id trace ≡ false

pub answered : (taken : Taken) (acts : Acts) (r : Request) → Ends taken r (sequential_reply acts r) (sequential_step acts r) → IsAnswered taken acts r
answered taken acts r ends = record {
  fit = ends.fit;
  trace = ends.trace;
  carried = ends.carried;
  replied = ends.replied;
  tables = ends.tables;
  few = ends.few;
  fresh = λ id other fresh. fresh_after id (with_request taken r) ends.trace (ends.apart id other fresh) (fresh_with taken (link_asked r) (body.Asked r) id other (role_asked r) fresh);
}

-- a service answers with one reply, and nothing else is made
module _ (taken : Taken) (r : Request) (service : ℕ) (reply : Reply) (after : Acts) where
  pub ends_told : request_fits taken r ≡ true → request_answers taken r ≡ told service r.id reply ∷ [] → HasTables (with_request taken r) after → Ends taken r reply after
  ends_told fit made tables = record {
    fit = fit;
    trace = told service r.id reply ∷ [];
    carried = subst (λ made. IsTrace (with_request taken r) made (told service r.id reply ∷ [])) (sym made) (then_told (with_request taken r) service r.id reply).is;
    replied = refl;
    tables = tables;
    few = few_one;
    apart = λ id other fresh. rw other;
  }
    where
      few_one : 1 ≤ most_made
      few_one = omega arith

-- the reply among the rows of a service
pub reply_in-told : (rows : List Sending) (service : ℕ) (id : RequestId) (reply : Reply) → rows ≡ told service id reply ∷ [] → reply ≡ reply_among rows
reply_in-told rows service id reply e = sym (ap reply_among e)
