-- A command that is not `propose` answers here what it answers by itself, and `propose` what it replies. A reply without a block is its text.
use Rattle.std.proofs.Common.{◌≡◌, ◌≢◌, ℕ, List, [], ◌++◌, Option, Some, None, ap, subst, sym}
use Rattle.std.proofs.lemmas.Option.{same_Some}
use Rattle.hex.specs.Hex.{encode_lower, encode_with}
use Rattle.avm_input.specs.declared.command_line.NodeCommand.{NodeCommand}
use Rattle.avm_input.specs.declared.command_line.NodeCommand.TheVariants.{Asm, Check, Debug, Dis, Propose, Replay, State}
use Rattle.avm_input.specs.Answers.{CommandAnswers, CommandFails, IsReply, IsWritten}
use Rattle.avm_input.specs.CommandLine.{workers_of}
use Rattle.avm_input.specs.Replies.{Reply, failed, usage_reply}
use Rattle.avm_commands.specs.Answers.{IsCommandReply}
use Rattle.avm_node.specs.Answers.{IsNodeReply}

pub other_answers : (command : Option NodeCommand) (had held holds : Option (List ℕ)) (status : ℕ) → workers_of command ≡ None
    → CommandAnswers usage_reply IsCommandReply command had held holds status → CommandAnswers usage_reply IsNodeReply command had held holds status
other_answers None had held holds status other answers = answers
other_answers (Some Asm) had held holds status other answers = answers
other_answers (Some Dis) had held holds status other answers = answers
other_answers (Some Check) had held holds status other answers = answers
other_answers (Some Replay) had held holds status other answers = answers
other_answers (Some (Debug entry steps)) had held holds status other answers = answers
other_answers (Some (State timestamp)) had held holds status other answers = answers
other_answers (Some (Propose workers)) had held holds status other answers = absurd cc

pub other_fails : {W : Type 0} (command : Option NodeCommand) (had held holds : Option (List ℕ)) (writer after : W) → workers_of command ≡ None
    → CommandFails usage_reply IsCommandReply command had held holds writer after → CommandFails usage_reply IsNodeReply command had held holds writer after
other_fails None had held holds writer after other fails = fails
other_fails (Some Asm) had held holds writer after other fails = fails
other_fails (Some Dis) had held holds writer after other fails = fails
other_fails (Some Check) had held holds writer after other fails = fails
other_fails (Some Replay) had held holds writer after other fails = fails
other_fails (Some (Debug entry steps)) had held holds writer after other fails = fails
other_fails (Some (State timestamp)) had held holds writer after other fails = fails
other_fails (Some (Propose workers)) had held holds writer after other fails = absurd cc

pub no_digits : (block text : List ℕ) → block ≡ [] → encode_lower block ++ text ≡ text
unfolding encode_with
no_digits block text none = ap (λ l. encode_lower l ++ text) none

pub propose_answers : (command : Option NodeCommand) (workers : ℕ) (had held holds : Option (List ℕ)) (reply : Reply) (status : ℕ) → workers_of command ≡ Some workers → IsReply (IsNodeReply (Propose workers)) had reply
    → (status ≢ failed → IsWritten reply held holds status) → CommandAnswers usage_reply IsNodeReply command had held holds status
propose_answers None workers had held holds reply status e is written = absurd cc
propose_answers (Some (Propose n)) workers had held holds reply status e is written = λ well. (reply, subst (λ k. IsReply (IsNodeReply (Propose k)) had reply) (sym (same_Some _ _ e)) is, written well)
propose_answers (Some Asm) workers had held holds reply status e is written = absurd cc
propose_answers (Some Check) workers had held holds reply status e is written = absurd cc
propose_answers (Some Dis) workers had held holds reply status e is written = absurd cc
propose_answers (Some Replay) workers had held holds reply status e is written = absurd cc
propose_answers (Some (Debug entry steps)) workers had held holds reply status e is written = absurd cc
propose_answers (Some (State timestamp)) workers had held holds reply status e is written = absurd cc
