use Rattle.mv_chain.specs.Stores.{marks_of}
use Rattle.mv_shards.specs.Writing.{versions_for}
use Rattle.mv_core.proofs.Events.{consistent_world}
use Rattle.mv_core.proofs.store.Store.holds.Goals as goal

pub returns-clause-serial : goal.returns-clause-serial
returns-clause-serial c =
    rw (← c.self.view_is)
    (c.every_consistent_world_of_calls_is_serial.ensures _ _ _ c.self.invariant.kept.orderly (marks_of (versions_for c.self.inside.held)) _ c.self.invariant.kept.store.consistent c.self.invariant.kept.are_calls)

pub returns-clause-consistent : goal.returns-clause-consistent
returns-clause-consistent c = rw (← c.self.view_is) (consistent_world c.self.inside.journal.base c.self.inside.journal.header c.self.inside.journal.calls c.self.inside.journal.world c.self.inside.held c.self.inside.attempts.items c.self.invariant.kept)

pub returns-clause-versions : goal.returns-clause-versions
returns-clause-versions c = rw (← c.self.view_is) c.self.invariant.kept.store.holds
