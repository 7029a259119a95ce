-- The names of faults, which errors show.
use Rattle.std.specs.Prelude.{ℕ, List, codes}
use Rattle.avm_ops.specs.declared.set.PushFault.{PushFault}
use Rattle.avm_ops.specs.declared.set.PushFault.TheVariants as fault

abbrev pub push_fault_name : PushFault → List ℕ
push_fault_name fault.Twice = codes "Twice"
