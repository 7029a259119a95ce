-- The view of the call of a block's entry after so many steps.
use Rattle.std.specs.Prelude.{◌≡◌, ℕ, Result, Ok, Err}
use Rattle.avm_ledger.specs.Ledgers.{Ledger}
use Rattle.avm_call.specs.Views.{View}
use Rattle.avm_block.specs.Blocks.{Block}
use Rattle.avm_block.specs.declared.past_faults.OpenFault.TheVariants as fault
use Rattle.avm_input.specs.declared.refusals.Refusal.{Refusal}
use Rattle.avm_input.specs.declared.refusals.Refusal.TheVariants as refused
use Rattle.avm_commands.specs.DebugCommands.{Finds}
use Rattle.avm_commands.specs.ViewTexts.{view_text}
use Rattle.avm_bytes.specs.declared.statuses.Status.{Status}
use Rattle.avm_bytes.specs.declared.statuses.Status.TheVariants as status
use Rattle.avm_bytes.specs.Answers.{Answer, done, refusal}

-- the status of what is found in place of a view, which by `Finds` is one of the first four
abbrev pub view_status : Refusal → Status
view_status (refused.Opening fault.NoEntry) = status.NoEntry
view_status (refused.Opening fault.WrongBase) = status.WrongBase
view_status (refused.Opening fault.NoProgram) = status.NoRun
view_status refused.Ended = status.Ended
view_status _ = status.NoRun

abbrev pub view_answer : Result View Refusal → Answer
view_answer (Ok v) = done (view_text v)
view_answer (Err why) = refusal (view_status why)

-- what is found in the block over the ledger; or which of the two the bytes are not
abbrev pub IsViewAnswer : ℕ → ℕ → Result (Ledger × Block) Status → Answer → Type 0
IsViewAnswer entry steps (Ok input) answer = (found : Result View Refusal) × Finds input entry steps found × (answer ≡ view_answer found)
IsViewAnswer entry steps (Err why) answer = answer ≡ refusal why
