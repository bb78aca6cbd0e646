-- A request that comes next is answered by the sequential market, and the services stand for one request more.
use Rattle.std.proofs.Common.{◌≡◌, ◌+◌, ◌*◌, ◌≤◌, Bool, true, false, List, [], ◌∷◌, ◌++◌, Option, Some, None, length, filter_map, refl, ap, sym, subst, ◌∙◌, length-append, arith}
use Rattle.std.specs.List.{cons_option}
use Rattle.std.specs.Option.{option_or}
use Rattle.std.proofs.lemmas.List.Folds.{list_all-append}
use Rattle.market_events.specs.declared.bodies.Body.{Body}
use Rattle.market_events.specs.declared.bodies.Body.TheVariants as body
use Rattle.market_events.specs.declared.links.Link.TheVariants.{Service, Asked, Told}
use Rattle.market_events.specs.declared.replies.Reply.{Reply}
use Rattle.market_events.specs.declared.requests.Request.{Request}
use Rattle.market_events.specs.Copies.{last_some}
use Rattle.market_events.specs.Formed.{body_formed, reply_formed}
use Rattle.market_events.specs.Requests.{same_id}
use Rattle.market_events.specs.declared.roles.Role.{Role}
use Rattle.market_events.specs.Steps.{Sending}
use Rattle.market_events.specs.WellFormed.{IsRequest, IsReply}
use Rattle.market_events.proofs.Values.Formed.{body_formed-IsBody, reply_decides}
use Rattle.market_events.proofs.Values.Lists.{and_both, and_from, or_parts}
use Rattle.market_events.proofs.Shapes.WellFormed.{are_formed, answers-formed}
use Rattle.market.specs.declared.services.Services.{Services}
use Rattle.market_history.specs.Acts.{Acts, no_acts}
use Rattle.market.specs.Agreeing.{HasTables, IsAnswered}
use Rattle.market.specs.Carrying.{Taken, role_told, role_asked, link_asked, CanPass, made_of, passed, IsTrace, all_passed, AreRuns, IsNew, most_made, with_request, request_answers, steps_taken}
use Rattle.market.specs.Once.{has_id_of}
use Rattle.market_history.specs.Sequential.{acts_after, reply_told, sequential_reply}
use Rattle.market.specs.Services.{StandFor, Serves, IsNext}
use Rattle.market.proofs.Kept.Answers.{acts_after-push}
use Rattle.market.proofs.Carrying.Kinds.{is_answered}
use Rattle.market.proofs.Kept.LaneByLane.{has_id_of-push}
use Rattle.market.proofs.Carrying.Traces.{runs_with, few_with, few_after}

-- where f gives nothing, there is no last
none_of : {A B : Type 0} (f : A → Option B) (xs : List A) → filter_map f xs ≡ [] → last_some f xs ≡ None
none_of f [] none = refl
none_of {B = B} f (x ∷ xs) none = by (f x) refl none (λ rest. none_of f xs rest)
  where
    by : (o : Option B) → f x ≡ o → cons_option o (filter_map f xs) ≡ [] → (filter_map f xs ≡ [] → last_some f xs ≡ None) → option_or (last_some f xs) (f x) ≡ None
    by None is none rest = rw is (ap (λ o. option_or o None) (rest none))
    by (Some z) is none rest = cc

-- the last of what f gives, where it gives one thing
last_of_one : {A B : Type 0} (f : A → Option B) (xs : List A) (y : B) → filter_map f xs ≡ y ∷ [] → last_some f xs ≡ Some y
last_of_one f [] y one = cc
last_of_one {B = B} f (x ∷ xs) y one = by (f x) refl one (λ rest. last_of_one f xs y rest)
  where
    head : {z : B} {zs : List B} → z ∷ zs ≡ y ∷ [] → Some z ≡ Some y
    head e = cc

    tail : {z : B} {zs : List B} → z ∷ zs ≡ y ∷ [] → zs ≡ []
    tail e = cc

    by : (o : Option B) → f x ≡ o → cons_option o (filter_map f xs) ≡ y ∷ [] → (filter_map f xs ≡ y ∷ [] → last_some f xs ≡ Some y) → option_or (last_some f xs) (f x) ≡ Some y
    by None is one rest = rw is (ap (λ o. option_or o None) (rest one))
    by (Some z) is one rest = rw is (ap (λ o. option_or o (Some z)) (none_of f xs (tail one)) ∙ head one)

-- what is carried is well formed
formed_trace : (taken : Taken) (waiting trace : List Sending) → AreRuns taken → IsTrace taken waiting trace → are_formed waiting ≡ true → are_formed trace ≡ true
formed_trace taken [] [] runs carried formed = refl
formed_trace taken [] (t ∷ trace) runs carried formed = absurd carried
formed_trace taken (s ∷ more) [] runs carried formed = absurd carried
formed_trace taken (s ∷ more) (t ∷ trace) runs carried formed =
    let both = and_both (body_formed s.1) (are_formed more) formed in
    and_from (body_formed t.1) (are_formed trace) (ap (λ (s : Sending). body_formed s.1) (sym carried.0) ∙ both.0)
    (formed_trace (passed taken s) (more ++ made_of taken s) trace (runs_on s carried.1) carried.2
    (list_all-append (λ (s : Sending). body_formed s.1) more (made_of taken s) ∙ and_from (are_formed more) (are_formed (made_of taken s)) both.1 (made_formed s carried.1)))
  where
    runs_on : (s : Sending) → CanPass taken s → AreRuns (passed taken s)
    runs_on (Service n, b) can = runs_with taken (Service n) b (role_told n) can runs
    runs_on (Asked lane service, b) can = runs
    runs_on (Told service lane, b) can = runs

    made_formed : (s : Sending) → CanPass taken s → are_formed (made_of taken s) ≡ true
    made_formed (Service n, b) can = answers-formed (role_told n) (steps_taken taken (role_told n)) (Service n) b (runs (role_told n)) can
    made_formed (Asked lane service, b) can = refl
    made_formed (Told service lane, b) can = refl

-- so is the last reply that is told
told_formed : (rows : List Sending) (reply : Reply) → are_formed rows ≡ true → last_some reply_told rows ≡ Some reply → IsReply reply
told_formed [] reply formed e = cc
told_formed ((link, b) ∷ more) reply formed e =
    let parts = and_both (body_formed b) (are_formed more) formed in
    by (last_some reply_told more) refl (λ later. told_formed more reply parts.1 later) b parts.0 e
  where
    by : (o : Option Reply) → last_some reply_told more ≡ o → (last_some reply_told more ≡ Some reply → IsReply reply) → (b : Body) → body_formed b ≡ true
        → option_or (last_some reply_told more) (reply_told (link, b)) ≡ Some reply → IsReply reply
    by (Some r) is rest b formed e = rest (is ∙ sym (ap (λ (o : Option Reply). option_or o (reply_told (link, b))) is) ∙ e)
    by None is rest (body.Told id r) formed e =
        let same : r ≡ reply = some (sym (ap (λ (o : Option Reply). option_or o (Some r)) is) ∙ e) in
        subst (λ r. IsReply r) same (body_formed-IsBody (body.Told id r) formed).1
      where
        some : Some r ≡ Some reply → r ≡ reply
        some e = cc
    by None is rest other formed e = cc (sym (ap (λ (o : Option Reply). option_or o (reply_told (link, other))) is) ∙ e)

-- a reply is well formed by a test of its form
pub formed_is : (reply : Reply) → IsReply reply → reply_formed reply ≡ true
formed_is reply is = (reply_decides reply).1 is

pub formed_reply : (reply : Reply) → (reply_formed reply ≡ false → ⊥) → IsReply reply
formed_reply reply not_false = by (reply_formed reply) refl
  where
    by : (b : Bool) → reply_formed reply ≡ b → IsReply reply
    by true e = (reply_decides reply).0 e
    by false e = absurd (not_false e)

module _ (services : Services) (requests : List Request) (r : Request) (serves : Serves services requests) (next : IsNext requests r) (formed : IsRequest r) where
  abbrev acts : Acts
  acts = acts_after no_acts requests

  runs : AreRuns serves.taken
  runs Role.Cart = serves.stand.carts.run
  runs Role.Product = serves.stand.products.run
  runs Role.Stock = serves.stand.stocks.run
  runs Role.Order = serves.stand.orders.run
  runs Role.Payment = serves.stand.payments.run
  runs Role.Shipment = serves.stand.shipments.run
  runs Role.Customer = serves.stand.customers.run
  runs Role.Seller = serves.stand.sellers.run

  is_new : IsNew serves.taken r
  is_new = record {
    fresh = serves.fresh r next.new;
    few = λ role. omega (arith, serves.few role, next.few);
  }

  pub next_answered : IsAnswered serves.taken acts r
  next_answered = is_answered serves.taken acts r runs serves.tables is_new formed

  -- its reply is told last
  pub next_told : last_some reply_told next_answered.trace ≡ Some (sequential_reply acts r)
  next_told = last_of_one reply_told next_answered.trace (sequential_reply acts r) next_answered.replied

  pub next_reply_formed : IsReply (sequential_reply acts r)
  next_reply_formed =
      told_formed next_answered.trace (sequential_reply acts r)
      (formed_trace (with_request serves.taken r) (request_answers serves.taken r) next_answered.trace (runs_with serves.taken (link_asked r) (body.Asked r) (role_asked r) next_answered.fit runs) next_answered.carried
      (answers-formed (role_asked r) (steps_taken serves.taken (role_asked r)) (link_asked r) (body.Asked r) (runs (role_asked r)) next_answered.fit)) next_told

  -- one request more
  pub serves_more : (after : Services) → StandFor after (all_passed (with_request serves.taken r) next_answered.trace) → Serves after (requests ++ r ∷ [])
  serves_more after stand = record {
    taken = all_passed (with_request serves.taken r) next_answered.trace;
    stand = stand;
    tables = subst (λ acts. HasTables (all_passed (with_request serves.taken r) next_answered.trace) acts) (sym (acts_after-push no_acts requests r)) next_answered.tables;
    few = λ role. few_more role;
    fresh = λ q absent.
        let parts = or_parts (has_id_of requests q) (same_id r.id q.id) (sym (has_id_of-push requests r q) ∙ absent) in
        next_answered.fresh q.id parts.1 (serves.fresh q parts.0);
  }
    where
      few_more : (role : Role) → length (steps_taken (all_passed (with_request serves.taken r) next_answered.trace) role) ≤ (most_made + 1) * length (requests ++ r ∷ [])
      few_more role = omega (
        arith,
        few_after (with_request serves.taken r) next_answered.trace role,
        few_with serves.taken (link_asked r) (body.Asked r) (role_asked r) role,
        serves.few role,
        next_answered.few,
        length-append requests (r ∷ []),
      )
