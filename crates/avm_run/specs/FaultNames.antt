-- The names of faults, which errors show.
use Rattle.std.specs.Prelude.{ℕ, List, codes}
use Rattle.avm_run.specs.declared.call_run.RunFault.{RunFault}
use Rattle.avm_run.specs.declared.call_run.RunFault.TheVariants as fault

abbrev pub run_fault_name : RunFault → List ℕ
run_fault_name fault.NotAsked = codes "NotAsked"
run_fault_name fault.Spent = codes "Spent"
run_fault_name fault.Memory = codes "Memory"
