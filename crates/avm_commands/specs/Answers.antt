-- What a command answers to its input: the text that is written, and the exit status.
use Rattle.std.specs.Prelude.{◌≡◌, ℕ, ◌++◌, List, Result, Ok, Err, codes, decimal, if◌then◌else◌}
use Rattle.std.specs.Str.{is_utf8}
use Rattle.hex.specs.Hex.{encode_lower}
use Rattle.teal_source.specs.declared.fault.AsmFault.{AsmFault}
use Rattle.teal_source.specs.FaultNames.{asm_fault_name}
use Rattle.teal_asm.specs.Program.{assembled}
use Rattle.avm_input.specs.declared.command_line.NodeCommand.{NodeCommand}
use Rattle.avm_input.specs.declared.command_line.NodeCommand.TheVariants.{Asm, Check, Debug, Dis, Propose, Replay, State}
use Rattle.avm_input.specs.Replies.{Reply, succeeded, input_refusal, refused}
use Rattle.avm_commands.specs.Programs.{check_reply, dis_reply}
use Rattle.avm_commands.specs.BlockCommands.{IsReplayReply, state_reply}
use Rattle.avm_commands.specs.DebugCommands.{IsDebugReply}

-- the program in lower-case digits, or the line and the name of the fault
abbrev pub assembly_reply : Result (List ℕ) AsmFault → Reply
assembly_reply (Ok program) = record { text = encode_lower program ++ codes "\n"; status = succeeded }
assembly_reply (Err fault) = record {
  text = codes "refused asm " ++ (decimal fault.line ++ (codes " " ++ (asm_fault_name fault.kind ++ codes "\n")));
  status = refused;
}

-- what `asm` answers to an input
abbrev pub asm_reply : List ℕ → Reply
asm_reply input = if is_utf8 input then assembly_reply (assembled input) else input_refusal

-- What a command that starts no thread answers to an input that is not too long. `propose` is none of them.
abbrev pub IsCommandReply : NodeCommand → List ℕ → Reply → Type 0
IsCommandReply Asm input reply = reply ≡ asm_reply input
IsCommandReply Dis input reply = reply ≡ dis_reply input
IsCommandReply Check input reply = reply ≡ check_reply input
IsCommandReply Replay input reply = IsReplayReply input reply
IsCommandReply (Debug entry steps) input reply = IsDebugReply entry steps input reply
IsCommandReply (State timestamp) input reply = reply ≡ state_reply timestamp input
IsCommandReply (Propose workers) input reply = ⊥
