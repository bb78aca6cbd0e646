-- The events of a step, made one after the other.
use Rattle.std.proofs.Common.{◌≡◌, ◌+◌, ◌-◌, ◌^◌, ◌<◌, ◌≤◌, List, [], ◌∷◌, length, refl, ap, subst, sym, ◌∙◌, arith}
use Rattle.std.specs.Prelude.{map, fold}
use Rattle.std.specs.List.{AllByRecursion}
use Rattle.market_events.specs.declared.bodies.Body.{Body}
use Rattle.market_events.specs.declared.events.What.TheVariants.{Made}
use Rattle.market_events.specs.declared.links.Link.{Link}
use Rattle.market_events.specs.Steps.{Sending}
use Rattle.market_history.specs.Blocks.{Out, made_out, with_out, next_event}
use Rattle.market_history.specs.Stamps.{clock_before}
use Rattle.market_history.proofs.CoreGrow.{length-with_what, clock-with_what}
use Rattle.market_node.specs.Records.{RecordState}
use Rattle.market_node.specs.ServiceCores.{CanMake}
use Rattle.market_node.proofs.RecordLaws.{same_record}

-- what is made so far, and what is left to make
pub record IsMaking (start : RecordState) (all : List Sending) (now : RecordState) (left : List Sending) : Type 0 where
  pub same_node : now.node ≡ start.node
  pub same_committed : now.committed ≡ start.committed
  pub same_acknowledged : now.acknowledged ≡ start.acknowledged
  pub ends : fold with_out now.entries (map made_out left) ≡ fold with_out start.entries (map made_out all)
  pub room_left : now.room + length all ≡ start.room + length left
  pub each : AllByRecursion (CanMake start.node) left
  pub enough : length left ≤ now.room
  pub few : length now.entries + length left < 4_294_967_295
  pub clocks : clock_before now.entries + length left ≤ 2 ^ 62

pub making_first : (start : RecordState) (all : List Sending) → AllByRecursion (CanMake start.node) all → length all ≤ start.room → length start.entries + length all < 4_294_967_295 → clock_before start.entries + length all ≤ 2 ^ 62 → IsMaking start all start all
making_first start all each room few clock = record {
  same_node = refl;
  same_committed = refl;
  same_acknowledged = refl;
  ends = refl;
  room_left = refl;
  each = each;
  enough = room;
  few = few;
  clocks = clock;
}

-- the first of those that are left can be made
pub making_head : (start : RecordState) (all : List Sending) (now : RecordState) (left rest : List Sending) (m : Sending) → IsMaking start all now left → left ≡ m ∷ rest → CanMake now.node m
making_head start all now left rest m making is =
    subst (λ n. CanMake n m) (sym making.same_node) (subst (λ (ms : List Sending). AllByRecursion (CanMake start.node) ms) is making.each).0

-- one more is made
pub making_next : (start : RecordState) (all : List Sending) (now next : RecordState) (left rest : List Sending) (to : Link) (b : Body) → IsMaking start all now left → left ≡ (to, b) ∷ rest
    → next ≡ record now { entries = with_out now.entries (Out.Makes to b); room = now.room - 1 } → IsMaking start all next rest
making_next start all now next left rest to b making is made =
    subst (λ r. IsMaking start all r rest) (sym made) (record {
      same_node = making.same_node;
      same_committed = making.same_committed;
      same_acknowledged = making.same_acknowledged;
      ends = ap (λ (ms : List Sending). fold with_out now.entries (map made_out ms)) (sym is) ∙ making.ends;
      room_left = let shorter = long in let room = making.room_left in let enough = making.enough in omega arith;
      each = (subst (λ (ms : List Sending). AllByRecursion (CanMake start.node) ms) is making.each).1;
      enough = let shorter = long in let enough = making.enough in omega arith;
      few = let shorter = long in let few = making.few in let longer = length-with_what now.entries (Made (next_event now.entries to b)) in omega arith;
      clocks = let shorter = long in let clocks = making.clocks in let later = clock-with_what now.entries (Made (next_event now.entries to b)) in omega arith;
    })
  where
    long : length left ≡ length rest + 1
    long = ap (λ (ms : List Sending). length ms) is ∙ omega arith

-- all are made
pub making_last : (start : RecordState) (all : List Sending) (now : RecordState) (left : List Sending) → IsMaking start all now left → left ≡ []
    → now ≡ record start { entries = fold with_out start.entries (map made_out all); room = start.room - length all }
making_last start all now left making none =
    same_record now start.node start.committed start.acknowledged (start.room - length all) (fold with_out start.entries (map made_out all)) making.same_node
    (ap (λ (ms : List Sending). fold with_out now.entries (map made_out ms)) (sym none) ∙ making.ends) making.same_committed making.same_acknowledged
    (let room = making.room_left in let nothing : length left ≡ 0 = ap (λ (ms : List Sending). length ms) none in omega arith)
