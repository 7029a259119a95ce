-- What `debug` answers to its input: a line of digits for the ledger before a block, and one for the block.
use Rattle.std.specs.Prelude.{◌≡◌, ℕ, List, Some, Result, Ok, Err}
use Rattle.teal_value.specs.declared.failure.Failure.TheVariants as failure
use Rattle.avm_ledger.specs.Ledgers.{Ledger}
use Rattle.avm_ledger.specs.Encodings.{ledger_digest}
use Rattle.avm_call.specs.Views.{View, view_after}
use Rattle.avm_block.specs.declared.entry.Entry.{Entry}
use Rattle.avm_block.specs.Blocks.{Block}
use Rattle.avm_stepper.specs.Opening.{HasProgram, IsDebugRefusal, entry_numbered, ledger_before}
use Rattle.avm_stepper.specs.StepsMade.{CanGo, EndsBefore}
use Rattle.avm_input.specs.declared.refusals.Refusal.{Refusal}
use Rattle.avm_input.specs.declared.refusals.Refusal.TheVariants as refusal
use Rattle.avm_input.specs.BlockLines.{ledger_and_block}
use Rattle.avm_input.specs.DigitLines.{digit_lines}
use Rattle.avm_input.specs.Refusals.{refusal_reply}
use Rattle.avm_input.specs.Replies.{Reply, succeeded}
use Rattle.avm_commands.specs.ViewTexts.{view_text}

-- ---- what is found in an entry of a block over the ledger before it

-- the view after so many steps
pub record IsFound (base : Ledger) (b : Block) (number steps : ℕ) (v : View) : Type 0 where
  pub entry : Entry
  pub there : entry_numbered b.entries number ≡ Some entry
  pub same_base : b.base ≡ ledger_digest base
  pub can_go : CanGo (ledger_before base b entry) entry.call b.header steps
  pub shown : view_after (ledger_before base b entry) entry.call b.header steps ≡ Some v

-- the program ends before so many steps
pub record IsEnded (base : Ledger) (b : Block) (number steps : ℕ) : Type 0 where
  pub entry : Entry
  pub there : entry_numbered b.entries number ≡ Some entry
  pub same_base : b.base ≡ ledger_digest base
  pub program : HasProgram (ledger_before base b entry) entry.call
  pub ends : EndsBefore (ledger_before base b entry) entry.call b.header steps

abbrev pub Finds : Ledger × Block → ℕ → ℕ → Result View Refusal → Type 0
Finds input number steps (Ok v) = IsFound input.0 input.1 number steps v
Finds input number steps (Err (refusal.Opening fault)) = IsDebugRefusal input.0 input.1 number (failure.Fault fault)
Finds input number steps (Err refusal.Ended) = IsEnded input.0 input.1 number steps
Finds input number steps (Err _) = ⊥

abbrev pub OneFinding : Type 0
OneFinding = (input : Ledger × Block) (number steps : ℕ) (r s : Result View Refusal) → Finds input number steps r → Finds input number steps s → r ≡ s

-- the text of the view that is found
abbrev pub FindsText : Ledger × Block → ℕ → ℕ → List ℕ → Type 0
FindsText input number steps text = (v : View) × IsFound input.0 input.1 number steps v × (text ≡ view_text v)

-- ---- the answer

abbrev pub view_reply : Result View Refusal → Reply
view_reply (Ok v) = record { text = view_text v; status = succeeded }
view_reply (Err why) = refusal_reply why

-- what is found, or the refusal of the input
abbrev pub IsFoundReply : ℕ → ℕ → Result (Ledger × Block) Refusal → Reply → Type 0
IsFoundReply number steps (Ok input) reply = (found : Result View Refusal) × Finds input number steps found × (reply ≡ view_reply found)
IsFoundReply number steps (Err why) reply = reply ≡ refusal_reply why

-- what `debug --entry N --steps K` answers to an input
abbrev pub IsDebugReply : ℕ → ℕ → List ℕ → Reply → Type 0
IsDebugReply number steps input reply = IsFoundReply number steps (ledger_and_block (digit_lines input)) reply
