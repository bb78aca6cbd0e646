use Rattle.std.proofs.Common.{◌+◌, ◌≤◌, length, vec_len, subst, sym, arith}
use Rattle.std.specs.Vec.{vec_capacity}
use Rattle.market_history.specs.Journals.{JournalState, IsEntry}
use Rattle.market_history.proofs.EntryLaws.{IsJournal-push}
use Rattle.market_history.proofs.journals.Journal.push.Goals as goal

pub invariant_of-self : goal.invariant_of-self
invariant_of-self c =
    let room : vec_len c.push.new.self + c.saturating_sub-self-inside.result ≤ vec_capacity c.push.new.self = omega (arith, c.push.new.self.ok.1, c.in-Ok.ensures.len) in
    let last = subst (λ (s : JournalState). IsEntry s.node (length s.entries) c.args.entry) (sym c.self.view_is) c.requires in
    (room, rw c.in-Ok.ensures.items (IsJournal-push c.self.inside.node c.self.inside.entries.items c.args.entry c.self.invariant.1 last))
