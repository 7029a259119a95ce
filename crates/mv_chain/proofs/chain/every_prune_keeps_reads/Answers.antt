use Rattle.mv_chain.proofs.Found.{every_prune_keeps_reads_lem}
use Rattle.mv_chain.proofs.chain.every_prune_keeps_reads.Goals as goal

pub returns : goal.returns
returns g c = every_prune_keeps_reads_lem g.row.V.Denot
