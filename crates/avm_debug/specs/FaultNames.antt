-- The names of faults, which errors show.
use Rattle.std.specs.Prelude.{ℕ, List, codes}
use Rattle.avm_debug.specs.declared.faults.PastFault.{PastFault}
use Rattle.avm_debug.specs.declared.faults.PastFault.TheVariants as past

abbrev pub past_fault_name : PastFault → List ℕ
past_fault_name past.WrongBase = codes "WrongBase"
past_fault_name past.Pruned = codes "Pruned"
