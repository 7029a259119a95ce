use Rattle.mv_chain.proofs.Found.{every_install_is_found_lem}
use Rattle.mv_chain.proofs.chain.every_install_is_found.Goals as goal

pub returns : goal.returns
returns g c = every_install_is_found_lem g.row.V.Denot
