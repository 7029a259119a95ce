use Rattle.std.proofs.Common.{sym, subst}
use Rattle.avm_run.specs.KeptRuns.{IsSoundState}
use Rattle.avm_run.proofs.LiveRuns.{starts_alive}
use Rattle.avm_run.proofs.call_run.CallRun.start.Goals as goal

pub invariant_of-result : goal.invariant_of-result
invariant_of-result c =
    subst IsSoundState (sym c.going.ensures) (record { alive = starts_alive c.in_ok-call.call c.args.header.now c.new.result c.new.ensures c.fields-fields.ensures.checked; asked = tt })
