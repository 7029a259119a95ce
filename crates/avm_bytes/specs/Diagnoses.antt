-- What is wrong with bytes that a function refused, in numbers.
use Rattle.std.specs.Prelude.{◌≡◌, ◌==◌, ◌⊎◌, ℕ, if◌then◌else◌, List, Option, Some, None}
use Rattle.std.specs.Str.{is_utf8}
use Rattle.teal_code.specs.declared.decode.CodeFault.{CodeFault}
use Rattle.teal_code.specs.declared.decode.CodeFault.TheVariants as code_fault
use Rattle.teal_check.specs.declared.fault.CheckFault.{CheckFault}
use Rattle.teal_check.specs.declared.fault.CheckFault.TheVariants as rule
use Rattle.teal_check.specs.WellFormed.{checked}
use Rattle.teal_source.specs.declared.fault.AsmFault.{AsmFault}
use Rattle.teal_source.specs.declared.fault.AsmFaultKind.{AsmFaultKind}
use Rattle.teal_source.specs.declared.fault.AsmFaultKind.TheVariants as asm
use Rattle.teal_asm.specs.Program.{assembled}
use Rattle.avm_ledger.specs.declared.ledger_fault.LedgerFault.{LedgerFault}
use Rattle.avm_ledger.specs.declared.ledger_fault.LedgerFault.TheVariants as ledger
use Rattle.avm_ledger.specs.LedgerReader.{ledger_at}
use Rattle.avm_item_codec.specs.ItemReader.{items_at}
use Rattle.avm_block.specs.declared.block_fault.BlockFault.{BlockFault}
use Rattle.avm_block.specs.declared.block_fault.BlockFault.TheVariants as block
use Rattle.avm_block.specs.AcceptedCalls.{is_accepted}
use Rattle.avm_block.specs.BlockReader.{block_at}
use Rattle.avm_bytes.specs.declared.diagnoses.Kind.{Kind}
use Rattle.avm_bytes.specs.declared.diagnoses.Kind.TheVariants as kind
use Rattle.avm_bytes.specs.declared.statuses.Status.TheVariants as status
use Rattle.avm_bytes.specs.declared.troubles.Refused.{Refused}
use Rattle.avm_bytes.specs.declared.troubles.Trouble.{Trouble}
use Rattle.avm_bytes.specs.Attempts.{call_of, header_of}
use Rattle.avm_bytes.specs.Statuses.{status_number}
use Rattle.avm_bytes.specs.Troubles.{IsToldTrouble, refusal_of, refused_for, trouble_at}

-- ---- numbers

abbrev pub code_number : CodeFault → ℕ
code_number code_fault.UnknownOp = 1
code_number code_fault.Truncated = 2
code_number code_fault.BadVaruint = 3

abbrev pub asm_number : AsmFaultKind → ℕ
asm_number asm.Text = 1
asm_number asm.NoPragma = 2
asm_number asm.Version = 3
asm_number asm.UnknownName = 4
asm_number asm.Operands = 5
asm_number asm.BadNumber = 6
asm_number asm.BadBytes = 7
asm_number asm.LabelTwice = 8
asm_number asm.LabelMissing = 9
asm_number asm.LabelBehind = 10
asm_number asm.TooManyConstants = 11
asm_number asm.MixedBlock = 12
asm_number asm.TooLong = 13

abbrev pub ledger_number : LedgerFault → ℕ
ledger_number ledger.Malformed = 1
ledger_number ledger.Truncated = 2
ledger_number ledger.Rest = 3

abbrev pub block_number : BlockFault → ℕ
block_number block.Magic = 1
block_number block.Format = 2
block_number block.Truncated = 3
block_number block.Rest = 4
block_number block.Order = 5
block_number block.Field = 6
block_number block.Digest = 7

-- ---- what is wrong

-- the line of a text
abbrev pub of_asm_fault : AsmFault → Refused
of_asm_fault fault = record { status = status.NotAssembled; trouble = trouble_at fault.line (asm_number fault.kind) }

-- the rule of programs, the place of the instruction that breaks it, and why that is not read
abbrev pub broken : ℕ → ℕ → ℕ → Refused
broken number place code = record { status = status.NoProgram; trouble = record { place = place; number = number; code = code } }

abbrev pub of_check_fault : CheckFault → Refused
of_check_fault rule.Version = broken 1 0 0
of_check_fault rule.Length = broken 2 0 0
of_check_fault (rule.Code place fault) = broken 3 place (code_number fault)
of_check_fault (rule.OutOfProfile place) = broken 4 place 0
of_check_fault (rule.Backward place) = broken 5 place 0
of_check_fault (rule.NotAligned place) = broken 6 place 0
of_check_fault (rule.PastEnd place) = broken 7 place 0
of_check_fault rule.Cost = broken 8 0 0
of_check_fault (rule.UnknownField place) = broken 9 place 0

abbrev pub of_source : List ℕ → Option Refused
of_source text = refusal_of of_asm_fault (assembled text)

abbrev pub of_text : List ℕ → Option Refused
of_text bytes = if is_utf8 bytes then of_source bytes else Some (refused_for status.NoText 0)

abbrev pub of_program : List ℕ → Option Refused
of_program bytes = refusal_of of_check_fault (checked bytes)

abbrev pub of_ledger : List ℕ → Option Refused
of_ledger bytes = refusal_of (λ fault. refused_for status.NoLedger (ledger_number fault)) (ledger_at bytes)

abbrev pub of_block : List ℕ → Option Refused
of_block bytes = refusal_of (λ fault. refused_for status.NoBlock (block_number fault)) (block_at is_accepted bytes)

abbrev pub of_header : List ℕ → Option Refused
of_header bytes = refusal_of (λ r. r) (header_of bytes)

abbrev pub of_call : List ℕ → Option Refused
of_call bytes = refusal_of (λ r. r) (call_of bytes)

abbrev pub of_items : List ℕ → Option Refused
of_items bytes = refusal_of (λ fault. refused_for status.NoItems (ledger_number fault)) (items_at bytes)

abbrev pub wrong_with : Kind → List ℕ → Option Refused
wrong_with kind.Text bytes = of_text bytes
wrong_with kind.Program bytes = of_program bytes
wrong_with kind.Ledger bytes = of_ledger bytes
wrong_with kind.Block bytes = of_block bytes
wrong_with kind.Header bytes = of_header bytes
wrong_with kind.Call bytes = of_call bytes
wrong_with kind.Items bytes = of_items bytes

-- what the bytes are not that a function refuses with this status
abbrev pub kind_of : ℕ → Option Kind
kind_of n =
    if n == status_number status.NoText then Some kind.Text
    else if n == status_number status.NotAssembled then Some kind.Text
    else if n == status_number status.NoProgram then Some kind.Program
    else if n == status_number status.NoLedger then Some kind.Ledger
    else if n == status_number status.NoBlock then Some kind.Block
    else if n == status_number status.NoHeader then Some kind.Header
    else if n == status_number status.NoCall then Some kind.Call
    else if n == status_number status.NoItems then Some kind.Items
    else None

-- ---- what C is told

-- Memory was refused, and nothing was told but that; or what is wrong was told, where something is.
abbrev pub IsToldWrong : Option Refused → Trouble → Trouble → ℕ → Type 0
IsToldWrong found old new result = ((result ≡ status_number status.Memory) × (new ≡ old)) ⊎ IsToldTrouble found old new result

-- A status that says nothing of bytes is no question.
abbrev pub IsDiagnosed : Option Kind → List ℕ → Trouble → Trouble → ℕ → Type 0
IsDiagnosed None bytes old new result = (result ≡ status_number status.Usage) × (new ≡ old)
IsDiagnosed (Some k) bytes old new result = IsToldWrong (wrong_with k bytes) old new result
