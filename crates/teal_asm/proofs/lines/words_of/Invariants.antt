use Rattle.std.proofs.Common.{◌≡◌, ◌++◌, map, drop}
use Rattle.teal_source.specs.Statements.{word_at}
use Rattle.teal_source.specs.Shown.{words}
use Rattle.teal_asm.proofs.lines.words_of.Given as goal

abbrev pub invariant-loop-token : goal.invariant-loop-token
invariant-loop-token l = words l.words.items ++ map (word_at l.text) (drop l.token-index l.tokens) ≡ map (word_at l.text) l.tokens
