use Rattle.mv_history.proofs.Computed.{write_skew_late, write_skew_apply}
use Rattle.mv_history.proofs.write_skew_is_serial.Goals as goal

pub returns-clause-late : goal.returns-clause-late
returns-clause-late c = write_skew_late

pub returns-clause-apply : goal.returns-clause-apply
returns-clause-apply c = write_skew_apply
