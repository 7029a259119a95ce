-- A stepper on its way through the program of an entry's call.
use Rattle.std.specs.Prelude.{◌≡◌, ℕ, List, Option, Some, None, Err}
use Rattle.teal_value.specs.declared.failure.Failure.{Failure}
use Rattle.teal_value.specs.declared.failure.Failure.TheVariants as failure
use Rattle.avm_ledger.specs.Ledgers.{Ledger}
use Rattle.avm_ledger.specs.Encodings.{ledger_digest}
use Rattle.avm_call.specs.Views.{View}
use Rattle.avm_block.specs.declared.entry.Entry.{Entry}
use Rattle.avm_block.specs.Blocks.{Block}
use Rattle.avm_stepper.specs.Debugging.{Debugged, debug_view}
use Rattle.avm_stepper.specs.Opening.{HasProgram, entry_numbered, ledger_before}
use Rattle.avm_stepper.specs.StepsMade.{HasMade}
use Rattle.avm_input.specs.declared.refusals.Refusal.{Refusal}
use Rattle.avm_commands.specs.DebugCommands.{Finds}
use Rattle.avm_commands.specs.ViewTexts.{view_text}

-- So many steps of the program of an entry's call were made.
pub record HasCome (base : Ledger) (b : Block) (number steps : ℕ) (now : Option Debugged) : Type 0 where
  pub entry : Entry
  pub there : entry_numbered b.entries number ≡ Some entry
  pub same_base : b.base ≡ ledger_digest base
  pub program : HasProgram (ledger_before base b entry) entry.call
  pub made : HasMade (ledger_before base b entry) entry.call b.header steps now

-- a refusal is what is found
abbrev pub IsDebugRefused : Ledger → Block → ℕ → ℕ → Failure Refusal → Type 0
IsDebugRefused base b number steps failure.Memory = Unit {0}
IsDebugRefused base b number steps (failure.Fault why) = Finds (base, b) number steps (Err why)

-- the text of what a stepper shows
abbrev pub ShowsText : Option Debugged → List ℕ → Type 0
ShowsText None text = ⊥
ShowsText (Some d) text = (v : View) × (debug_view d ≡ Some v) × (text ≡ view_text v)
