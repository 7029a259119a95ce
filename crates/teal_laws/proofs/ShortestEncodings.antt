-- An instruction that some bytes encode has its shortest encoding: the one that the encoder writes.
use Rattle.std.proofs.Common.{◌≡◌, refl, ap, subst, ℕ, ◌+◌, ◌/◌, ◌%◌, ◌^◌, ◌<◌, ◌≤◌, true, List, [], ◌∷◌, ◌++◌, length, length-append, Some, Ok, arith}
use Rattle.std.specs.List.{flat_map}
use Rattle.std.proofs.Math.Seq.{drop-append_seam}
use Rattle.base64.specs.GeneralPurpose.{IsBytes}
use Rattle.teal_table.specs.declared.shape.Shape.{Shape}
use Rattle.teal_table.specs.declared.shape.Shape.TheVariants as shape
use Rattle.teal_table.specs.declared.shape.Version.{Version}
use Rattle.teal_table.specs.Table.{row_of, code_of, opcode_at, opcode_in, has}
use Rattle.teal_table.proofs.Codes.{opcode_at-code_of}
use Rattle.teal_code.specs.declared.instr.Immediates.{Immediates}
use Rattle.teal_code.specs.declared.instr.Immediates.TheVariants as is
use Rattle.teal_code.specs.declared.instr.Instr.{Instr}
use Rattle.teal_code.specs.Varuint.{IsVaruint, varuint}
use Rattle.teal_code.specs.Grammar.{IsString, Each, AreImmediates, Encodes}
use Rattle.teal_code.specs.Encoding.{prefixed, immediates_encoding, instr_encoding}
use Rattle.teal_code.specs.Reader.{read_at}
use Rattle.teal_code.proofs.Reading.{is_read}
use Rattle.teal_code.proofs.Prefixes.{read_anywhere}
use Rattle.teal_laws.specs.Listed.{AreUints, IsOfVersion}
use Rattle.teal_laws.specs.ShortestEncoding.{IsShortOffset, IsShortest}
use Rattle.teal_laws.proofs.Bytes.{AreBytes, are_each, bytes_behind}
use Rattle.teal_laws.proofs.PlacedInstructions.{brought}
use Rattle.teal_laws.proofs.Encodings.{front_bytes, is_encoded, varuint_encoded, varuint_shortest, uints_encoded, string_encoded, uints_shortest, string_shortest, strings_shortest}

-- ---- immediates

-- an encoding of these immediates that is no longer than the bytes
abbrev IsLeast : Shape → Immediates → List ℕ → Type 0
IsLeast s m bytes = AreImmediates s m (immediates_encoding m) × (length (immediates_encoding m) ≤ length bytes)

encoded_uints : (ns bytes : List ℕ) → Each IsVaruint ns bytes → AreUints ns
encoded_uints [] bytes e = tt
encoded_uints (n ∷ ns) bytes (front, rest, parts, first, more) = (first.fits, encoded_uints ns rest more)

each_string : (ss : List (List ℕ)) (bytes : List ℕ) → Each IsString ss bytes → Each IsString ss (flat_map prefixed ss)
each_string [] bytes e = refl
each_string (s ∷ ss) bytes (front, rest, parts, (size, split, count), more) =
    (prefixed s, flat_map prefixed ss, refl, string_encoded s count.fits, each_string ss rest more)

least_uints : (ns bytes : List ℕ) → AreBytes bytes → AreImmediates shape.UintBlock (is.UintBlock ns) bytes → IsLeast shape.UintBlock (is.UintBlock ns) bytes
least_uints ns bytes are (front, rest, parts, count, each) =
    let both = front_bytes front rest (subst AreBytes parts are) in (
      (varuint (length ns), flat_map varuint ns, refl, varuint_encoded (length ns) count.fits, uints_encoded ns (encoded_uints ns rest each)),
      omega (arith, length-append (varuint (length ns)) (flat_map varuint ns), ap length parts, length-append front rest, varuint_shortest front (length ns) both.0 count, uints_shortest ns rest both.1 each),
    )

least_strings : (ss : List (List ℕ)) (bytes : List ℕ) → AreBytes bytes → AreImmediates shape.ByteBlock (is.ByteBlock ss) bytes → IsLeast shape.ByteBlock (is.ByteBlock ss) bytes
least_strings ss bytes are (front, rest, parts, count, each) =
    let both = front_bytes front rest (subst AreBytes parts are) in (
      (varuint (length ss), flat_map prefixed ss, refl, varuint_encoded (length ss) count.fits, each_string ss rest each),
      omega (arith, length-append (varuint (length ss)) (flat_map prefixed ss), ap length parts, length-append front rest, varuint_shortest front (length ss) both.0 count, strings_shortest ss rest both.1 each),
    )

least_offset : (n : ℕ) (bytes : List ℕ) → AreBytes bytes → AreImmediates shape.Offset (is.Offset n) bytes → IsLeast shape.Offset (is.Offset n) bytes
least_offset n bytes are (high, low, number, e) =
    let both : AreBytes (high ∷ low ∷ []) = subst AreBytes e are in
    ((n / 256 ^ 1 % 256, n % 256, omega (arith, both.0, both.1.0, number), refl), omega (arith, ap length e))

least : (s : Shape) (m : Immediates) (bytes : List ℕ) → AreBytes bytes → AreImmediates s m bytes → IsLeast s m bytes
least shape.Nothing is.Nothing bytes are e = (refl, omega arith)
least shape.Index (is.Index i) bytes are e = (refl, omega (arith, ap length e))
least shape.TxnField (is.Field f) bytes are e = (refl, omega (arith, ap length e))
least shape.GlobalField (is.Field f) bytes are e = (refl, omega (arith, ap length e))
least shape.StackField (is.Field f) bytes are e = (refl, omega (arith, ap length e))
least shape.GroupField (is.GroupField t f) bytes are e = (refl, omega (arith, ap length e))
least shape.ArrayField (is.ArrayField f i) bytes are e = (refl, omega (arith, ap length e))
least shape.StackArrayField (is.ArrayField f i) bytes are e = (refl, omega (arith, ap length e))
least shape.GroupArrayField (is.GroupArrayField t f i) bytes are e = (refl, omega (arith, ap length e))
least shape.Bounds (is.Bounds s t) bytes are e = (refl, omega (arith, ap length e))
least shape.Offset (is.Offset n) bytes are e = least_offset n bytes are e
least shape.UintBlock (is.UintBlock ns) bytes are e = least_uints ns bytes are e
least shape.ByteBlock (is.ByteBlock ss) bytes are e = least_strings ss bytes are e
least shape.Uint (is.Uint n) bytes are e = (varuint_encoded n e.fits, varuint_shortest bytes n are e)
least shape.Bytes (is.Bytes s) bytes are e = (string_encoded s e.2.fits, string_shortest s bytes are e)
least _ _ bytes are e = absurd e

-- ---- instructions

code_stands : (version : Version) (code : ℕ) (i : Instr) → opcode_in version code ≡ Some i.opcode → opcode_in version (code_of i.opcode) ≡ Some i.opcode
code_stands version code i there =
    let known : has version (row_of i.opcode).version ≡ true = brought version (opcode_at code) i.opcode there in
    rw (opcode_at-code_of i.opcode, known) refl

least_encoding : (version : Version) (text : List ℕ) (i : Instr) → AreBytes text → Encodes version text i → Encodes version (instr_encoding i) i × (length (instr_encoding i) ≤ length text)
least_encoding version [] i are h = absurd h
least_encoding version (code ∷ bytes) i are h =
    let l = least (row_of i.opcode).immediates i.immediates bytes are.1 h.1 in
    ((code_stands version code i h.0, l.0), omega (arith, l.1))

shortest_is : (version : Version) (i : Instr) → Encodes version (instr_encoding i) i → IsShortest version i (instr_encoding i)
shortest_is version i encodes = record {
  encodes = encodes;
  reads = λ before behind. is_read version (before ++ (instr_encoding i ++ behind)) (length before) i (length before + length (instr_encoding i)) (instr_encoding i, behind, drop-append_seam before (instr_encoding i ++ behind), encodes, refl);
  least = λ other are h. (least_encoding version other i (are_each other are) h).1;
}

-- ---- the laws

-- the encoding that is written for an instruction is its shortest
pub shortest_of_encoded : (version : Version) (text : List ℕ) (i : Instr) → IsBytes text → Encodes version text i → IsShortest version i (instr_encoding i)
shortest_of_encoded version text i are h = shortest_is version i (least_encoding version text i (are_each text are) h).0

pub shortest_of_read : (version : Version) (bytes : List ℕ) (place : ℕ) (i : Instr) (next : ℕ) → IsBytes bytes → read_at version bytes place ≡ Ok (i, next) → IsShortest version i (instr_encoding i)
shortest_of_read version bytes place i next are e =
    let (text, rest, parts, encodes, reach) = read_anywhere version bytes place i next e in
    let front = front_bytes text rest (subst AreBytes parts (bytes_behind place bytes (are_each bytes are))) in
    shortest_is version i (least_encoding version text i front.0 encodes).0

pub shortest_of_version : (version : Version) (i : Instr) → IsOfVersion version i → IsShortOffset i.immediates → length (instr_encoding i) < 2 ^ 64 → IsShortest version i (instr_encoding i)
shortest_of_version version i of small lt = shortest_is version i (is_encoded version i of small lt)
