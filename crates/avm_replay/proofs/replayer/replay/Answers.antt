use Rattle.std.proofs.Common.{◌∙◌, subst}
use Rattle.std.specs.Prelude.{IfOk}
use Rattle.avm_replay.specs.Verdicts.{Judges}
use Rattle.avm_replay.proofs.replayer.replay.Goals as goal

pub returns : goal.returns
returns g c =
    subst (λ l. IfOk c.replay_owned.result (λ verdict. Judges l c.args.block.now verdict)) (c.in_ok-base.ensures ∙ c.in_ok-copy.ensures) c.replay_owned.ensures
