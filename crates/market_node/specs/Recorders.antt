-- What a recorder's fields are seen as, and what they keep.
use Rattle.std.specs.Prelude.{◌<◌, ◌≤◌, length}
use Rattle.market_events.specs.declared.nodes.TheConstants.{NODES}
use Rattle.market_node.specs.declared.recorder.Recorder.TheInside.{Inside}
use Rattle.market_node.specs.Notes.{AreNotes, HaveRoom}
use Rattle.market_node.specs.Records.{RecordState}
use Rattle.market_node.specs.Sending.{AreSenders, acknowledged_of}
use Rattle.market_node.specs.Settled.{AreSettled}

abbrev pub record_of : Inside → RecordState
record_of a = record {
  node = a.journal.node;
  entries = a.journal.entries;
  committed = a.committed;
  acknowledged = acknowledged_of a.senders;
  room = a.room;
}

pub record IsRecorder (a : Inside) : Type 0 where
  pub node_high : a.journal.node < NODES
  pub notes : AreNotes a.journal.node a.journal.entries a.clock a.known a.received.services
      a.received.receivers a.lists
  pub committed : a.committed ≤ length a.journal.entries
  -- there is room in the journal, and for one place of each link for each entry
  pub spared : a.room ≤ a.journal.spare
  pub rooms : HaveRoom a.lists a.room
  -- what is to be sent on each link out of the node
  pub senders : AreSenders a.journal.node a.journal.entries a.committed a.room a.senders
  -- how many events of each link into the node were taken and are committed
  pub settled : AreSettled a.journal.node a.journal.entries a.committed a.settled
