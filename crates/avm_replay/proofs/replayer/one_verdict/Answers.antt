use Rattle.avm_replay.proofs.Verdicts.{one_verdict}
use Rattle.avm_replay.proofs.replayer.one_verdict.Goals as goal

pub returns : goal.returns
returns c = one_verdict
