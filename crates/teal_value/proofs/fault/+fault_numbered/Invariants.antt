use Rattle.std.proofs.Common.{length}
use Rattle.teal_value.proofs.fault.+fault_numbered.Given as goal

abbrev pub decreases-fault_numbered : goal.decreases-fault_numbered
decreases-fault_numbered l = length l.faults.now
