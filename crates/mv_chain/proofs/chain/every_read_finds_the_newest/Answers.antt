use Rattle.mv_chain.proofs.Found.{every_read_finds_the_newest_lem}
use Rattle.mv_chain.proofs.chain.every_read_finds_the_newest.Goals as goal

pub returns : goal.returns
returns g c = every_read_finds_the_newest_lem g.row.V.Denot
