-- The names of faults, which commands print and errors show.
use Rattle.std.specs.Prelude.{ℕ, List, codes}
use Rattle.teal_code.specs.declared.decode.CodeFault.{CodeFault}
use Rattle.teal_code.specs.declared.decode.CodeFault.TheVariants as code

abbrev pub code_fault_name : CodeFault → List ℕ
code_fault_name code.UnknownOp = codes "UnknownOp"
code_fault_name code.Truncated = codes "Truncated"
code_fault_name code.BadVaruint = codes "BadVaruint"
