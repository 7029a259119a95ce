use Rattle.mv_core.proofs.SameRuns.{every_same_run_goes_on, tests_are_in_time}
use Rattle.mv_core.proofs.running.every_same_run_goes_on.Goals as goal

pub returns-clause-same : goal.returns-clause-same
returns-clause-same c = every_same_run_goes_on

pub returns-clause-in_time : goal.returns-clause-in_time
returns-clause-in_time c = tests_are_in_time
