use Rattle.std.proofs.Common.{◌≡◌, ◌++◌, drop, string_bytes}
use Rattle.std.specs.List.{flat_map}
use Rattle.avm_node.specs.ProposeCommands.{left_line}
use Rattle.avm_node.proofs.propose_command.add_left.Given as goal

-- what is written, and the lines that are left, are all of them
abbrev pub invariant-loop-number : goal.invariant-loop-number
invariant-loop-number l = string_bytes l.text ++ flat_map left_line (drop l.number-index l.left) ≡ string_bytes l.fn.text ++ flat_map left_line l.left
