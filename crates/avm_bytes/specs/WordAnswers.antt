-- What is answered to words of the command lines, with an input.
use Rattle.std.specs.Prelude.{◌≡◌, ◌==◌, ℕ, List, [], Option, Some, None, if◌then◌else◌}
use Rattle.std.specs.List.{slice_split}
use Rattle.std.specs.Str.{is_utf8}
use Rattle.avm_input.specs.declared.command_line.NodeCommand.{NodeCommand}
use Rattle.avm_input.specs.declared.command_line.NodeCommand.TheVariants.{Propose}
use Rattle.avm_input.specs.Answers.{IsReply}
use Rattle.avm_input.specs.declared.json_command_line.JsonCommand.{JsonCommand}
use Rattle.avm_input.specs.CommandLine.{command_in}
use Rattle.avm_input.specs.JsonCommandLine.{json_command_in}
use Rattle.avm_input.specs.Replies.{Reply, usage_reply}
use Rattle.avm_commands.specs.Answers.{IsCommandReply}
use Rattle.json_commands.specs.Commands as json
use Rattle.avm_bytes.specs.declared.statuses.Status.TheVariants as status
use Rattle.avm_bytes.specs.Answers.{Answer, refusal}

-- the words between zero bytes
abbrev pub words_in : List ℕ → List (List ℕ)
words_in bytes = slice_split (λ b. b == 0) bytes

-- the words of a caller; bytes that are no UTF-8 are none
abbrev pub words_of : List ℕ → List (List ℕ)
words_of bytes = if is_utf8 bytes then words_in bytes else []

-- the command of `avm` that the words are
abbrev pub command_of : List ℕ → Option NodeCommand
command_of bytes = command_in (words_of bytes)

-- the command of `avm_json`
abbrev pub json_command_of : List ℕ → Option JsonCommand
json_command_of bytes = json_command_in (words_of bytes)

-- the reply's text, with its exit status
abbrev pub reply_answer : Reply → Answer
reply_answer reply = record { status = reply.status; bytes = reply.text }

-- what `avm_json` writes
abbrev pub IsJsonAnswer : Option JsonCommand → List ℕ → Answer → Type 0
IsJsonAnswer None input answer = answer ≡ reply_answer json.usage_reply
IsJsonAnswer (Some command) input answer = (reply : Reply) × IsReply (json.IsJsonReply command) (Some input) reply × (answer ≡ reply_answer reply)

-- what `avm` writes, unless the command is `propose`
abbrev pub IsCommandAnswer : Option NodeCommand → List ℕ → Answer → Type 0
IsCommandAnswer None input answer = answer ≡ reply_answer usage_reply
IsCommandAnswer (Some (Propose workers)) input answer = answer ≡ refusal status.Propose
IsCommandAnswer (Some command) input answer = (reply : Reply) × IsReply (IsCommandReply command) (Some input) reply × (answer ≡ reply_answer reply)
