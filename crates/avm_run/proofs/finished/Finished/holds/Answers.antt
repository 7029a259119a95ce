use Rattle.std.proofs.Common.{subst}
use Rattle.avm_call.specs.AskedFor.{AreAskedFor}
use Rattle.avm_run.specs.Results.{CallRecord, ResultOverMore, ResultOnLedgers}
use Rattle.avm_run.proofs.Outcomes.{over_more, on_ledgers}
use Rattle.avm_run.proofs.finished.Finished.holds.Goals as goal

pub returns-clause-over_more : goal.returns-clause-over_more
returns-clause-over_more c = subst ResultOverMore c.self.view_is (over_more _ c.self.invariant.result)

pub returns-clause-on_ledgers : goal.returns-clause-on_ledgers
returns-clause-on_ledgers c = subst ResultOnLedgers c.self.view_is (on_ledgers _ c.self.invariant.result)

pub returns-clause-asked : goal.returns-clause-asked
returns-clause-asked c = subst (λ (f : CallRecord). AreAskedFor f.reads f.call f.header) c.self.view_is c.self.invariant.asked
