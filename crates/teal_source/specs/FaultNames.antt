-- The names of faults, which commands print and errors show.
use Rattle.std.specs.Prelude.{ℕ, List, codes}
use Rattle.teal_source.specs.declared.fault.AsmFaultKind.{AsmFaultKind}
use Rattle.teal_source.specs.declared.fault.AsmFaultKind.TheVariants as kind

abbrev pub asm_fault_name : AsmFaultKind → List ℕ
asm_fault_name kind.Text = codes "Text"
asm_fault_name kind.NoPragma = codes "NoPragma"
asm_fault_name kind.Version = codes "Version"
asm_fault_name kind.UnknownName = codes "UnknownName"
asm_fault_name kind.Operands = codes "Operands"
asm_fault_name kind.BadNumber = codes "BadNumber"
asm_fault_name kind.BadBytes = codes "BadBytes"
asm_fault_name kind.LabelTwice = codes "LabelTwice"
asm_fault_name kind.LabelMissing = codes "LabelMissing"
asm_fault_name kind.LabelBehind = codes "LabelBehind"
asm_fault_name kind.TooManyConstants = codes "TooManyConstants"
asm_fault_name kind.MixedBlock = codes "MixedBlock"
asm_fault_name kind.TooLong = codes "TooLong"
