use Rattle.mv_core.proofs.Calls.{store_pruned}
use Rattle.mv_core.proofs.store.Store.prune.Goals as goal

pub invariant_of-self : goal.invariant_of-self
invariant_of-self c =
    (store_pruned c.self.inside.journal c.self.inside.held c.self.inside.attempts.items c.prune.new.self c.prune.new.held c.args.timestamp c.prune.ensures.event c.prune.ensures.held c.self.invariant).0

pub returns : goal.returns
returns c =
    rw (← c.self.view_is)
    (store_pruned c.self.inside.journal c.self.inside.held c.self.inside.attempts.items c.prune.new.self c.prune.new.held c.args.timestamp c.prune.ensures.event c.prune.ensures.held c.self.invariant).1
