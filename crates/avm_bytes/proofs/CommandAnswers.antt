-- A command's reply, written to no bytes, is its answer.
use Rattle.std.proofs.Common.{◌≡◌, ℕ, List, [], Option, Some, None, IsSome, refl}
use Rattle.avm_input.specs.declared.command_line.NodeCommand.{NodeCommand}
use Rattle.avm_input.specs.declared.command_line.NodeCommand.TheVariants.{Asm, Check, Debug, Dis, Propose, Replay, State}
use Rattle.avm_input.specs.declared.json_command_line.JsonCommand.{JsonCommand}
use Rattle.avm_input.specs.Answers.{CommandAnswers, IsReply, IsWritten}
use Rattle.avm_input.specs.CommandLine.{workers_of}
use Rattle.avm_input.specs.Replies.{Reply, failed, usage_reply}
use Rattle.avm_commands.specs.Answers.{IsCommandReply}
use Rattle.json_commands.specs.Commands as json
use Rattle.avm_bytes.specs.Answers.{Answer}
use Rattle.avm_bytes.specs.WordAnswers.{IsCommandAnswer, IsJsonAnswer, reply_answer}

-- a status and bytes
abbrev told : ℕ → List ℕ → Answer
told status text = record { status = status; bytes = text }

abbrev IsTold : (List ℕ → Reply → Type 0) → List ℕ → ℕ → List ℕ → Type 0
IsTold Replies input status text = (reply : Reply) × IsReply Replies (Some input) reply × IsWritten reply (Some []) (Some text) status

abbrev HasAnswer : (List ℕ → Reply → Type 0) → List ℕ → Answer → Type 0
HasAnswer Replies input answer = (reply : Reply) × IsReply Replies (Some input) reply × (answer ≡ reply_answer reply)

written_is : (reply : Reply) (status : ℕ) (text : List ℕ) → IsWritten reply (Some []) (Some text) status → told status text ≡ reply_answer reply
written_is reply status text written = rw (written.0, written.1) refl

told_answer : (Replies : List ℕ → Reply → Type 0) (input : List ℕ) (status : ℕ) (text : List ℕ) → IsTold Replies input status text → HasAnswer Replies input (told status text)
told_answer Replies input status text (reply, replies, written) = (reply, replies, written_is reply status text written)

pub command_answered : (command : Option NodeCommand) (input : List ℕ) (status : ℕ) (text : List ℕ) → (status ≡ failed → ⊥)
    → (IsSome (workers_of command) → status ≡ failed)
    → CommandAnswers usage_reply IsCommandReply command (Some input) (Some []) (Some text) status
    → IsCommandAnswer command input (told status text)
command_answered None input status text ends other answers = written_is usage_reply status text (answers ends)
command_answered (Some Asm) input status text ends other answers = told_answer (IsCommandReply Asm) input status text (answers ends)
command_answered (Some Dis) input status text ends other answers = told_answer (IsCommandReply Dis) input status text (answers ends)
command_answered (Some Check) input status text ends other answers = told_answer (IsCommandReply Check) input status text (answers ends)
command_answered (Some Replay) input status text ends other answers = told_answer (IsCommandReply Replay) input status text (answers ends)
command_answered (Some (Debug entry steps)) input status text ends other answers = told_answer (IsCommandReply (Debug entry steps)) input status text (answers ends)
command_answered (Some (State timestamp)) input status text ends other answers = told_answer (IsCommandReply (State timestamp)) input status text (answers ends)
command_answered (Some (Propose workers)) input status text ends other answers = absurd (ends (other refl))

pub json_answered : (command : Option JsonCommand) (input : List ℕ) (status : ℕ) (text : List ℕ) → (status ≡ failed → ⊥)
    → CommandAnswers json.usage_reply json.IsJsonReply command (Some input) (Some []) (Some text) status
    → IsJsonAnswer command input (told status text)
json_answered None input status text ends answers = written_is json.usage_reply status text (answers ends)
json_answered (Some command) input status text ends answers = told_answer (json.IsJsonReply command) input status text (answers ends)
