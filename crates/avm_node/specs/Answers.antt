-- What the program `avm` answers: each command what it answers by itself, and `propose` a block.
use Rattle.std.specs.Prelude.{ℕ, List}
use Rattle.avm_input.specs.declared.command_line.NodeCommand.{NodeCommand}
use Rattle.avm_input.specs.declared.command_line.NodeCommand.TheVariants.{Asm, Check, Debug, Dis, Propose, Replay, State}
use Rattle.avm_input.specs.Replies.{Reply}
use Rattle.avm_commands.specs.Answers.{IsCommandReply}
use Rattle.avm_node.specs.ProposeCommands.{IsProposeReply}

-- what a command answers to an input that is not too long
abbrev pub IsNodeReply : NodeCommand → List ℕ → Reply → Type 0
IsNodeReply Asm input reply = IsCommandReply Asm input reply
IsNodeReply Dis input reply = IsCommandReply Dis input reply
IsNodeReply Check input reply = IsCommandReply Check input reply
IsNodeReply Replay input reply = IsCommandReply Replay input reply
IsNodeReply (Debug entry steps) input reply = IsCommandReply (Debug entry steps) input reply
IsNodeReply (State timestamp) input reply = IsCommandReply (State timestamp) input reply
IsNodeReply (Propose workers) input reply = IsProposeReply input reply
