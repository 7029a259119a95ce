-- The names of faults, which errors show.
use Rattle.std.specs.Prelude.{ℕ, List, codes}
use Rattle.teal_text.specs.declared.fault.TextFaultKind.{TextFaultKind}
use Rattle.teal_text.specs.declared.fault.TextFaultKind.TheVariants as text

abbrev pub text_fault_name : TextFaultKind → List ℕ
text_fault_name text.Unclosed = codes "Unclosed"
text_fault_name text.BadEscape = codes "BadEscape"
text_fault_name text.Glued = codes "Glued"
