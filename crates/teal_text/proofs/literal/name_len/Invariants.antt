use Rattle.std.proofs.Common.{◌≡◌, ◌+◌, drop}
use Rattle.std.specs.List.{position_or_len}
use Rattle.teal_text.specs.Literals.{is_parenthesis}
use Rattle.teal_text.proofs.literal.name_len.Given as goal

abbrev pub invariant-loop-i : goal.invariant-loop-i
invariant-loop-i l = l.i + position_or_len is_parenthesis (drop l.i l.word) ≡ position_or_len is_parenthesis l.word
