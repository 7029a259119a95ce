use Rattle.mv_chain.proofs.Marks.{every_mark_is_of_its_version_lem, every_read_raises_one_mark_lem, every_install_keeps_marks_lem, every_prune_keeps_marks_lem}
use Rattle.mv_chain.proofs.chain.every_call_keeps_marks.Goals as goal

pub returns-clause-found : goal.returns-clause-found
returns-clause-found g c = every_mark_is_of_its_version_lem g.row.V.Denot

pub returns-clause-read : goal.returns-clause-read
returns-clause-read g c = every_read_raises_one_mark_lem g.row.V.Denot

pub returns-clause-install : goal.returns-clause-install
returns-clause-install g c = every_install_keeps_marks_lem g.row.V.Denot

pub returns-clause-prune : goal.returns-clause-prune
returns-clause-prune g c = every_prune_keeps_marks_lem g.row.V.Denot
