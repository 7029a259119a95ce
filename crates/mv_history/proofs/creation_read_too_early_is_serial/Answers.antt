use Rattle.mv_history.proofs.Computed.{early_read_apply}
use Rattle.mv_history.proofs.creation_read_too_early_is_serial.Goals as goal

pub returns-clause-apply : goal.returns-clause-apply
returns-clause-apply c = early_read_apply
