use Rattle.std.proofs.Common.{◌≡◌, ◌++◌, map, drop}
use Rattle.hex.specs.Hex.{encode_lower}
use Rattle.avm_input.specs.Shown.{texts}
use Rattle.avm_commands.proofs.view_text.digit_lines.Given as goal

abbrev pub invariant-loop-bytes : goal.invariant-loop-bytes
invariant-loop-bytes l = texts l.lines.items ++ map encode_lower (drop l.bytes-index l.strings) ≡ map encode_lower l.strings
