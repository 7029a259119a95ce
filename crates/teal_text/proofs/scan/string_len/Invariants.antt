use Rattle.std.proofs.Common.{◌≡◌, drop}
use Rattle.teal_text.specs.Tokens.{string_len}
use Rattle.teal_text.specs.declared.string.StringState.TheVariants.{Plain}
use Rattle.teal_text.proofs.Reading.{more}
use Rattle.teal_text.proofs.scan.string_len.Given as goal

abbrev pub invariant-loop-i : goal.invariant-loop-i
invariant-loop-i l = more l.i (string_len l.state (drop l.i l.bytes)) ≡ string_len Plain l.bytes
