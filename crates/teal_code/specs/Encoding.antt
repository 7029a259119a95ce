-- The encoding of an instruction with each varuint as short as it can be.
use Rattle.std.specs.Prelude.{◌≡◌, ℕ, List, [], ◌∷◌, ◌++◌, length}
use Rattle.std.specs.List.{flat_map}
use Rattle.std.specs.Int.{w16, to_be_bytes}
use Rattle.teal_table.specs.Table.{code_of}
use Rattle.teal_code.specs.declared.instr.Immediates.{Immediates}
use Rattle.teal_code.specs.declared.instr.Immediates.TheVariants as is
use Rattle.teal_code.specs.declared.instr.Instr.{Instr}
use Rattle.teal_code.specs.Varuint.{varuint}

-- a byte string behind its length
abbrev pub prefixed : List ℕ → List ℕ
prefixed bytes = varuint (length bytes) ++ bytes

abbrev pub immediates_encoding : Immediates → List ℕ
immediates_encoding is.Nothing = []
immediates_encoding (is.Index i) = i ∷ []
immediates_encoding (is.Field f) = f ∷ []
immediates_encoding (is.GroupField t f) = t ∷ f ∷ []
immediates_encoding (is.ArrayField f i) = f ∷ i ∷ []
immediates_encoding (is.GroupArrayField t f i) = t ∷ f ∷ i ∷ []
immediates_encoding (is.Bounds s e) = s ∷ e ∷ []
immediates_encoding (is.Offset n) = to_be_bytes w16 n
immediates_encoding (is.UintBlock ns) = varuint (length ns) ++ flat_map varuint ns
immediates_encoding (is.ByteBlock ss) = varuint (length ss) ++ flat_map prefixed ss
immediates_encoding (is.Uint n) = varuint n
immediates_encoding (is.Bytes s) = prefixed s

abbrev pub instr_encoding : Instr → List ℕ
instr_encoding i = code_of i.opcode ∷ immediates_encoding i.immediates

-- the second list begins with the first
abbrev pub Continues : List ℕ → List ℕ → Type 0
Continues old new = (rest : List ℕ) × (new ≡ old ++ rest)
