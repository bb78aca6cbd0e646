-- What may happen passes the tests, and what passes them may happen.
use Rattle.std.proofs.Common.{◌≡◌, ◌≤◌, ◌<◌, ℕ, ◌==◌, ◌&&◌, nat_le, true, refl, arith, eq-eqb}
use Rattle.std.proofs.lemmas.Bool.Decides.{nat_tests}
use Rattle.market_events.specs.declared.bodies.Body.{Body}
use Rattle.market_events.specs.declared.bodies.Body.TheVariants as body
use Rattle.market_events.specs.declared.events.Event.{Event}
use Rattle.market_events.specs.declared.events.What.{What}
use Rattle.market_events.specs.declared.events.What.TheVariants.{Given, Taken, Made, Answered}
use Rattle.market_events.specs.declared.links.Link.{Link}
use Rattle.market_events.specs.declared.links.Link.TheVariants as link
use Rattle.market_events.specs.declared.nodes.TheConstants.{NODES}
use Rattle.market_events.specs.declared.replies.Reply.{Reply}
use Rattle.market_events.specs.declared.replies.Reply.TheVariants as reply
use Rattle.market_events.specs.declared.replies.Rule.{Rule}
use Rattle.market_events.specs.declared.replies.Rule.TheVariants as rule
use Rattle.market_events.specs.declared.roles.TheConstants.{SERVICES}
use Rattle.market_events.specs.Carried.{carries}
use Rattle.market_events.specs.Links.{lane_node, sender_of, receiver_of}
use Rattle.market_events.specs.Requests.{lane_of}
use Rattle.market_events.specs.WellFormed.{IsWellFormedEvent, IsWellFormedWhat}
use Rattle.market_history.specs.Journals.{IsEvent, IsAskedBy, AsksOwn, IsOfService, CanBeKept, CanHappen}
use Rattle.market_rows.specs.Happening.{is_asked_by, asks_own, is_of_service, can_be_kept, is_sent_right, happens}
use Rattle.market_rows.proofs.Events.{IsSpelledEvent}
use Rattle.market_rows.proofs.Readings.{both_passed, both_apart, one_number}
use Rattle.market_rows.proofs.Whats.{IsSpelledWhat}

-- a lane asks its own requests
is_asked_by-true : (lane : ℕ) (b : Body) → IsAskedBy lane b → is_asked_by lane b ≡ true
is_asked_by-true lane (body.Asked request) is = eq-eqb (lane_of request.id) lane is
is_asked_by-true lane other is = refl

IsAskedBy-tested : (lane : ℕ) (b : Body) → is_asked_by lane b ≡ true → IsAskedBy lane b
IsAskedBy-tested lane (body.Asked request) e = one_number (lane_of request.id) lane e
IsAskedBy-tested lane other e = tt

asks_own-true : (l : Link) (b : Body) → AsksOwn l b → asks_own l b ≡ true
asks_own-true (link.Asked lane service) b is = is_asked_by-true lane b is
asks_own-true other b is = refl

AsksOwn-tested : (l : Link) (b : Body) → asks_own l b ≡ true → AsksOwn l b
AsksOwn-tested (link.Asked lane service) b e = IsAskedBy-tested lane b e
AsksOwn-tested other b e = tt

-- a lane can keep the reply
is_of_service-true : (r : Rule) → IsOfService r → is_of_service r ≡ true
is_of_service-true rule.LaneFull is = absurd is
is_of_service-true rule.RequestDiffers is = absurd is
is_of_service-true other is = refl

IsOfService-tested : (r : Rule) → is_of_service r ≡ true → IsOfService r
IsOfService-tested rule.LaneFull e = absurd (cc)
IsOfService-tested rule.RequestDiffers e = absurd (cc)
IsOfService-tested other e = tt

can_be_kept-true : (r : Reply) → CanBeKept r → can_be_kept r ≡ true
can_be_kept-true (reply.Refused why) can = is_of_service-true why can
can_be_kept-true other can = refl

CanBeKept-tested : (r : Reply) → can_be_kept r ≡ true → CanBeKept r
CanBeKept-tested (reply.Refused why) e = IsOfService-tested why e
CanBeKept-tested other e = tt

-- an event that may be made or taken is sent right
is_sent_right-true : (e : Event) → IsEvent e → is_sent_right e ≡ true
is_sent_right-true e is = both_passed is.body (asks_own-true e.link e.body is.own)

-- and an event that is spelled and sent right may be made or taken
IsEvent-tested : (e : Event) → IsSpelledEvent e → is_sent_right e ≡ true → IsEvent e
IsEvent-tested e is right =
    let tests = both_apart (carries e.link e.body) (asks_own e.link e.body) right in
    record {
      link = is.link;
      number_low = is.number.0;
      number_high = omega (arith, is.number.1);
      clock_high = omega (arith, is.clock);
      past = is.past;
      body = tests.0;
      own = AsksOwn-tested e.link e.body tests.1;
    }

-- the parts of a well-formed event that may be made or taken are in their ranges
spelled_event : (e : Event) → IsWellFormedEvent e → IsEvent e → IsSpelledEvent e
spelled_event e formed is = record {
  link = is.link;
  number = (is.number_low, omega (arith, is.number_high));
  clock = omega (arith, is.clock_high);
  past = is.past;
  body = formed.body;
}

pub spelled_what : (node clock : ℕ) (w : What) → IsWellFormedWhat w → CanHappen node clock w → IsSpelledWhat w
spelled_what node clock (Given request) formed can = formed
spelled_what node clock (Taken event) formed can = spelled_event event formed can.0
spelled_what node clock (Made event) formed can = spelled_event event formed can.0
spelled_what node clock (Answered id reply) formed can = formed

pub formed_what : (w : What) → IsSpelledWhat w → IsWellFormedWhat w
formed_what (Given request) is = is
formed_what (Taken event) is = record { body = is.body }
formed_what (Made event) is = record { body = is.body }
formed_what (Answered id reply) is = is

-- what may happen passes the test
pub happens-true : (node clock : ℕ) (w : What) → CanHappen node clock w → happens node clock w ≡ true
happens-true node clock (Given request) can = eq-eqb (lane_node (lane_of request.id)) node can.1
happens-true node clock (Taken event) can = both_passed (is_sent_right-true event can.0) (eq-eqb (receiver_of event.link) node can.1)
happens-true node clock (Made event) can =
    both_passed (both_passed (is_sent_right-true event can.0) (eq-eqb (sender_of event.link) node can.1)) (eq-eqb event.clock clock can.2)
happens-true node clock (Answered id reply) can =
    let lane : SERVICES ≤ node = can.0.0 in
    let test : nat_le SERVICES node ≡ true = grind (arith, nat_tests, lane) in both_passed test (can_be_kept-true reply can.1)

-- and what passes it may happen
pub CanHappen-tested : (node clock : ℕ) (w : What) → node < NODES → IsSpelledWhat w → happens node clock w ≡ true → CanHappen node clock w
CanHappen-tested node clock (Given request) high is e =
    let at = one_number (lane_node (lane_of request.id)) node e in
    ((omega (arith, at), high), at)
CanHappen-tested node clock (Taken event) high is e =
    let tests = both_apart (is_sent_right event) (receiver_of event.link == node) e in
    (IsEvent-tested event is tests.0, one_number (receiver_of event.link) node tests.1)
CanHappen-tested node clock (Made event) high is e =
    let tests = both_apart (is_sent_right event && (sender_of event.link == node)) (event.clock == clock) e in
    let first = both_apart (is_sent_right event) (sender_of event.link == node) tests.0 in
    (IsEvent-tested event is first.0, one_number (sender_of event.link) node first.1, one_number event.clock clock tests.1)
CanHappen-tested node clock (Answered id reply) high is e =
    let tests = both_apart (nat_le SERVICES node) (can_be_kept reply) e in
    let lane : SERVICES ≤ node = grind (arith, nat_tests, tests.0) in
    ((lane, high), CanBeKept-tested reply tests.1)
