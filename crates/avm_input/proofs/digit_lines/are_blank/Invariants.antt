use Rattle.std.proofs.Common.{◌≡◌, true, take}
use Rattle.std.specs.List.{list_all}
use Rattle.teal_text.specs.Tokens.{is_blank}
use Rattle.avm_input.proofs.digit_lines.are_blank.Given as goal

abbrev pub invariant-loop-byte : goal.invariant-loop-byte
invariant-loop-byte l = list_all is_blank (take l.byte-index l.text) ≡ true
