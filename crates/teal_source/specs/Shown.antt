-- Words and literals of the program, without where they lie in memory.
use Rattle.std.specs.Prelude.{ℕ, List, map}
use Rattle.std.specs.Option.{option_map}
use Rattle.teal_source.specs.declared.operand.EncodedLiteral.{EncodedLiteral}
use Rattle.teal_source.specs.declared.operand.NamedConstant.{NamedConstant}
use Rattle.teal_source.specs.Operands.{Word, Literal}
use Rattle.std.specs.Borrow.{Bor}

abbrev pub words : List (Bor (List ℕ)) → List Word
words ws = map (λ (w : Bor (List ℕ)). w.now) ws

abbrev pub literal : EncodedLiteral → Literal
literal l = (l.first.now, option_map (λ (t : Bor (List ℕ)). t.now) l.text)

abbrev pub named_values : List NamedConstant → List (Word × ℕ)
named_values constants = map (λ (c : NamedConstant). (c.name.now, c.value)) constants
