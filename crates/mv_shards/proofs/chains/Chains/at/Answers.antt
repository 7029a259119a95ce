use Rattle.std.proofs.Common.{sym}
use Rattle.mv_shards.proofs.Numbers.{lent_found}
use Rattle.mv_shards.proofs.chains.Chains.at.Goals as goal

pub returns : goal.returns
returns c = rw (← c.self.view_is) (λ item number. sym (lent_found c.self.inside.list.items item c.args.number c.index.result.now (sym number) c.index.ensures))
