use Rattle.avm_pool.proofs.Noted.{read_keeps}
use Rattle.avm_pool.proofs.logged_shard.LoggedShard.read_at.Goals as goal

pub invariant_of-self : goal.invariant_of-self
invariant_of-self g c =
    read_keeps g.J.Naming.base g.J.Naming.header g.J.Naming.calls c.self.inside.seen _ _ c.args.timestamp c.args.item.now c.read_at.result c.every_call_keeps_agreement.ensures.read c.read_at.ensures.ok c.read_at.ensures.unchanged c.self.invariant
