use Rattle.mv_chain.proofs.Found.{every_read_marks_its_version_alone_lem}
use Rattle.mv_chain.proofs.chain.every_read_marks_its_version_alone.Goals as goal

pub returns : goal.returns
returns g c = every_read_marks_its_version_alone_lem g.row.V.Denot
