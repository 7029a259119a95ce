-- What is found in a block, as an answer.
use Rattle.std.proofs.Common.{◌≡◌, ℕ, List, Ok, Err, ap, ◌∙◌}
use Rattle.teal_value.specs.declared.failure.Failure.TheVariants as failure
use Rattle.avm_ledger.specs.Ledgers.{Ledger}
use Rattle.avm_block.specs.Blocks.{Block}
use Rattle.avm_input.specs.declared.refusals.Refusal.{Refusal}
use Rattle.avm_commands.specs.DebugCommands.{FindsText}
use Rattle.avm_commands.specs.DebugRuns.{IsDebugRefused}
use Rattle.avm_bytes.specs.Answers.{Answer, done, refusal}
use Rattle.avm_bytes.specs.ViewAnswers.{IsViewAnswer, view_status}

-- where a view is found, its text makes the right answer
pub view_shown : (l : Ledger) (b : Block) (entry steps : ℕ) (text : List ℕ) (answer : Answer)
    → FindsText (l, b) entry steps text → answer ≡ done text → IsViewAnswer entry steps (Ok (l, b)) answer
view_shown l b entry steps text answer (v, found, shows) is = (Ok v, found, is ∙ ap done shows)

-- where a refusal is found in place of a view, its status makes the right answer
pub view_refused : (l : Ledger) (b : Block) (entry steps : ℕ) (why : Refusal) (answer : Answer)
    → IsDebugRefused l b entry steps (failure.Fault why) → answer ≡ refusal (view_status why) → IsViewAnswer entry steps (Ok (l, b)) answer
view_refused l b entry steps why answer refused is = (Err why, refused, is)
