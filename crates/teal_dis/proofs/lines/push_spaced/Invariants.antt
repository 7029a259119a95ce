use Rattle.std.proofs.Common.{◌≡◌, ◌++◌, drop}
use Rattle.std.specs.String.{string_bytes}
use Rattle.teal_text.specs.PlainWords.{spaced}
use Rattle.teal_dis.specs.Shown.{texts}
use Rattle.teal_dis.proofs.lines.push_spaced.Given as goal

abbrev pub invariant-loop-word : goal.invariant-loop-word
invariant-loop-word l = string_bytes l.text ++ spaced (texts (drop l.word-index l.words)) ≡ string_bytes l.initial.text ++ spaced (texts l.words)
