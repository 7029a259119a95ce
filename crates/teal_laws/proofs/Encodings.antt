-- The shortest encoding of an instruction is one of its encodings, and no other is shorter.
use Rattle.std.proofs.Common.{◌≡◌, ◌∙◌, refl, ap, subst, ℕ, zero, suc, ◌+◌, ◌*◌, ◌/◌, ◌%◌, ◌^◌, ◌<◌, ◌≤◌, true, false, ltb, cond, List, [], ◌∷◌, ◌++◌, length, length-append, Some, inl, inr, arith}
use Rattle.std.specs.List.{flat_map}
use Rattle.std.proofs.Math.Nat.{pow-suc}
use Rattle.std.proofs.lemmas.Bool.{le-ltb, lt-ltb, cases_lt}
use Rattle.teal_table.specs.declared.shape.Shape.{Shape}
use Rattle.teal_table.specs.declared.shape.Version.{Version}
use Rattle.teal_table.specs.Table.{code_of, opcode_in}
use Rattle.teal_table.proofs.Codes.{opcode_at-code_of}
use Rattle.teal_code.specs.declared.instr.Immediates.{Immediates}
use Rattle.teal_code.specs.declared.instr.Instr.{Instr}
use Rattle.teal_code.specs.Varuint.{IsBase128, IsVaruint, varuint, varuint_in}
use Rattle.teal_code.specs.Grammar.{IsString, Each, AreImmediates, Encodes}
use Rattle.teal_code.specs.Encoding.{prefixed, immediates_encoding, instr_encoding}
use Rattle.teal_check.specs.WellFormed.{has_field}
use Rattle.teal_laws.specs.Listed.{AreUints, HasShape, nothing, index, txn, stack, global, group, array, stack_array, group_array, bounds, offset, uints, strings, uint, string, IsOfVersion}
use Rattle.teal_laws.specs.ShortestEncoding.{IsShortOffset}
use Rattle.teal_laws.proofs.Bytes.{AreBytes}

-- ---- varuints

more_digits : (b : ℕ) (front : List ℕ) (high n : ℕ) → 128 ≤ b → n + 128 ≡ b + 128 * high → IsBase128 front high → IsBase128 (b ∷ front) n
more_digits b [] high n le e h = absurd h
more_digits b (c ∷ front) high n le e h = (le, high, e, h)

in_base128 : (digits n : ℕ) → n < 128 ^ suc digits → IsBase128 (varuint_in (suc digits) n) n × (length (varuint_in (suc digits) n) ≤ suc digits) × (0 < length (varuint_in (suc digits) n))
unfolding varuint_in
in_base128 zero n small =
    let test : ltb n 128 ≡ true = lt-ltb n 128 (omega (arith, small)) in
    rw test ((omega (arith, small), refl), omega arith, omega arith)
in_base128 (suc d) n small =
    elim (cases_lt n 128) [
      | inl lt ↦
          let test : ltb n 128 ≡ true = lt-ltb n 128 lt in
          rw test ((lt, refl), omega arith, omega arith)
      | inr le ↦
          let test : ltb n 128 ≡ false = le-ltb n 128 le in
          let more = in_base128 d (n / 128) (omega (arith, small, pow-suc 128 (suc d))) in
          rw test (more_digits (n % 128 + 128) (varuint_in (suc d) (n / 128)) (n / 128) n (omega arith) (omega arith) more.0, omega (arith, more.1), omega arith)
    ]

-- a number below 2^64 is encoded by the varuint that is written for it
pub varuint_encoded : (n : ℕ) → n < 2 ^ 64 → IsVaruint (varuint n) n
unfolding varuint
varuint_encoded n lt = let h = in_base128 9 n (omega (arith, lt)) in record { digits = h.0; short = h.1; fits = lt }

varuint_some : (n : ℕ) → 0 < length (varuint n)
unfolding varuint varuint_in
varuint_some n = elim (ltb n 128) as (λ b. 0 < length (cond b (n ∷ []) ((n % 128 + 128) ∷ varuint_in 9 (n / 128)))) [ true ↦ omega arith | false ↦ omega arith ]

shortest : (bytes : List ℕ) (digits n : ℕ) → AreBytes bytes → IsBase128 bytes n → length (varuint_in digits n) ≤ length bytes
unfolding varuint_in
shortest [] digits n are h = absurd h
shortest (b ∷ []) zero n are h = omega arith
shortest (b ∷ []) (suc d) n are h =
    let test : ltb n 128 ≡ true = lt-ltb n 128 (omega (arith, h.0, h.1)) in
    rw test (omega arith)
shortest (b ∷ c ∷ bytes) zero n are h = omega arith
shortest (b ∷ c ∷ bytes) (suc d) n are h =
    let (le, high, e, more) = h in
    let up : n / 128 ≡ high = omega (arith, e, le, are.0) in
    let later = shortest (c ∷ bytes) d high are.1 more in
    elim (cases_lt n 128) [
      | inl lt ↦ let test : ltb n 128 ≡ true = lt-ltb n 128 lt in rw test (omega arith)
      | inr ge ↦ let test : ltb n 128 ≡ false = le-ltb n 128 ge in rw (test, up) (omega (arith, later))
    ]

-- no varuint of a number is shorter than the one that is written
pub varuint_shortest : (bytes : List ℕ) (n : ℕ) → AreBytes bytes → IsVaruint bytes n → length (varuint n) ≤ length bytes
unfolding varuint
varuint_shortest bytes n are h = shortest bytes 10 n are h.digits

-- ---- immediates

-- numbers below 2^64 are encoded by their varuints, one after another
pub uints_encoded : (ns : List ℕ) → AreUints ns → Each IsVaruint ns (flat_map varuint ns)
uints_encoded [] h = refl
uints_encoded (n ∷ ns) h = (varuint n, flat_map varuint ns, refl, varuint_encoded n h.0, uints_encoded ns h.1)

few_uints : (ns : List ℕ) → length ns ≤ length (flat_map varuint ns)
few_uints [] = omega arith
few_uints (n ∷ ns) = omega (arith, length-append (varuint n) (flat_map varuint ns), varuint_some n, few_uints ns)

-- a string behind its length is an encoding of it
pub string_encoded : (s : List ℕ) → length s < 2 ^ 64 → IsString (prefixed s) s
string_encoded s lt = (varuint (length s), refl, varuint_encoded (length s) lt)

long_string : (s : List ℕ) → length s < length (prefixed s)
long_string s = omega (arith, length-append (varuint (length s)) s, varuint_some (length s))

strings_encoded : (ss : List (List ℕ)) → length (flat_map prefixed ss) < 2 ^ 64 → Each IsString ss (flat_map prefixed ss)
strings_encoded [] lt = refl
strings_encoded (s ∷ ss) lt =
    let both = length-append (prefixed s) (flat_map prefixed ss) in
    (prefixed s, flat_map prefixed ss, refl, string_encoded s (omega (arith, lt, both, long_string s)), strings_encoded ss (omega (arith, lt, both)))

few_strings : (ss : List (List ℕ)) → length ss ≤ length (flat_map prefixed ss)
few_strings [] = omega arith
few_strings (s ∷ ss) = omega (arith, length-append (prefixed s) (flat_map prefixed ss), long_string s, few_strings ss)

immediates_encoded : (version : Version) {s : Shape} {m : Immediates} → HasShape version s m → IsShortOffset m → length (immediates_encoding m) < 2 ^ 64 → AreImmediates s m (immediates_encoding m)
immediates_encoded version nothing o lt = refl
immediates_encoded version (index h) o lt = refl
immediates_encoded version (txn h) o lt = refl
immediates_encoded version (stack h) o lt = refl
immediates_encoded version (global h) o lt = refl
immediates_encoded version (group h k) o lt = refl
immediates_encoded version (array h k) o lt = refl
immediates_encoded version (stack_array h k) o lt = refl
immediates_encoded version (group_array h k l) o lt = refl
immediates_encoded version (bounds h k) o lt = refl
immediates_encoded version (offset {n}) o lt = (n / 256 ^ 1 % 256, n % 256, omega (arith, o), refl)
immediates_encoded version (uints {ns} h) o lt =
    let count : length ns < 2 ^ 64 = omega (arith, lt, length-append (varuint (length ns)) (flat_map varuint ns), few_uints ns) in
    (varuint (length ns), flat_map varuint ns, refl, varuint_encoded (length ns) count, uints_encoded ns h)
immediates_encoded version (strings {ss} h) o lt =
    let both = length-append (varuint (length ss)) (flat_map prefixed ss) in
    let count : length ss < 2 ^ 64 = omega (arith, lt, both, few_strings ss) in
    (varuint (length ss), flat_map prefixed ss, refl, varuint_encoded (length ss) count, strings_encoded ss (omega (arith, lt, both)))
immediates_encoded version (uint {n} h) o lt = varuint_encoded n h
immediates_encoded version (string {s} h) o lt = string_encoded s (omega (arith, lt, long_string s))

-- the bytes that are written for an instruction encode it by the grammar
pub is_encoded : (version : Version) (i : Instr) → IsOfVersion version i → IsShortOffset i.immediates → length (instr_encoding i) < 2 ^ 64 → Encodes version (instr_encoding i) i
is_encoded version i of o lt =
    let there : opcode_in version (code_of i.opcode) ≡ Some i.opcode = rw (opcode_at-code_of i.opcode, of.opcode) refl in
    (there, immediates_encoded version of.immediates o (omega (arith, lt)))

-- immediates in their range have a field that the opcode reads
pub field_is_known : (version : Version) {s : Shape} {m : Immediates} → HasShape version s m → has_field version s m ≡ true
field_is_known version nothing = refl
field_is_known version (index h) = refl
field_is_known version (txn h) = h
field_is_known version (stack h) = h
field_is_known version (global h) = h
field_is_known version (group h k) = k
field_is_known version (array h k) = h
field_is_known version (stack_array h k) = h
field_is_known version (group_array h k l) = k
field_is_known version (bounds h k) = refl
field_is_known version offset = refl
field_is_known version (uints h) = refl
field_is_known version (strings h) = refl
field_is_known version (uint h) = refl
field_is_known version (string h) = refl

-- ---- no encoding is shorter

-- both parts of a list of bytes are lists of bytes
pub front_bytes : (a b : List ℕ) → AreBytes (a ++ b) → AreBytes a × AreBytes b
front_bytes [] b h = (tt, h)
front_bytes (x ∷ a) b h = let more = front_bytes a b h.1 in ((h.0, more.0), more.1)

-- no encoding of numbers is shorter than the one that is written
pub uints_shortest : (ns bytes : List ℕ) → AreBytes bytes → Each IsVaruint ns bytes → length (flat_map varuint ns) ≤ length bytes
uints_shortest [] bytes are e = omega arith
uints_shortest (n ∷ ns) bytes are (front, rest, parts, first, more) =
    let each = front_bytes front rest (subst AreBytes parts are) in
    omega (arith, length-append (varuint n) (flat_map varuint ns), ap length parts ∙ length-append front rest, varuint_shortest front n each.0 first, uints_shortest ns rest each.1 more)

pub string_shortest : (s bytes : List ℕ) → AreBytes bytes → IsString bytes s → length (prefixed s) ≤ length bytes
string_shortest s bytes are (front, parts, count) =
    let each = front_bytes front s (subst AreBytes parts are) in
    omega (arith, length-append (varuint (length s)) s, ap length parts ∙ length-append front s, varuint_shortest front (length s) each.0 count)

pub strings_shortest : (ss : List (List ℕ)) (bytes : List ℕ) → AreBytes bytes → Each IsString ss bytes → length (flat_map prefixed ss) ≤ length bytes
strings_shortest [] bytes are e = omega arith
strings_shortest (s ∷ ss) bytes are (front, rest, parts, first, more) =
    let each = front_bytes front rest (subst AreBytes parts are) in
    omega (arith, length-append (prefixed s) (flat_map prefixed ss), ap length parts ∙ length-append front rest, string_shortest s front each.0 first, strings_shortest ss rest each.1 more)

immediates_shortest : (version : Version) {s : Shape} {m : Immediates} (bytes : List ℕ) → HasShape version s m → AreBytes bytes → AreImmediates s m bytes → length (immediates_encoding m) ≤ length bytes
immediates_shortest version bytes nothing are e = omega arith
immediates_shortest version bytes (index h) are e = omega (arith, ap length e)
immediates_shortest version bytes (txn h) are e = omega (arith, ap length e)
immediates_shortest version bytes (stack h) are e = omega (arith, ap length e)
immediates_shortest version bytes (global h) are e = omega (arith, ap length e)
immediates_shortest version bytes (group h k) are e = omega (arith, ap length e)
immediates_shortest version bytes (array h k) are e = omega (arith, ap length e)
immediates_shortest version bytes (stack_array h k) are e = omega (arith, ap length e)
immediates_shortest version bytes (group_array h k l) are e = omega (arith, ap length e)
immediates_shortest version bytes (bounds h k) are e = omega (arith, ap length e)
immediates_shortest version bytes offset are (high, low, number, e) = omega (arith, ap length e)
immediates_shortest version bytes (uints {ns} h) are (front, rest, parts, count, each) =
    let both = front_bytes front rest (subst AreBytes parts are) in
    omega (arith, length-append (varuint (length ns)) (flat_map varuint ns), ap length parts ∙ length-append front rest, varuint_shortest front (length ns) both.0 count, uints_shortest ns rest both.1 each)
immediates_shortest version bytes (strings {ss} h) are (front, rest, parts, count, each) =
    let both = front_bytes front rest (subst AreBytes parts are) in
    omega (arith, length-append (varuint (length ss)) (flat_map prefixed ss), ap length parts ∙ length-append front rest, varuint_shortest front (length ss) both.0 count, strings_shortest ss rest both.1 each)
immediates_shortest version bytes (uint {n} h) are e = varuint_shortest bytes n are e
immediates_shortest version bytes (string {s} h) are e = string_shortest s bytes are e

-- no bytes that encode an instruction are fewer than those that are written for it
pub encoded_shortest : (version : Version) (text : List ℕ) (i : Instr) → IsOfVersion version i → AreBytes text → Encodes version text i → length (instr_encoding i) ≤ length text
encoded_shortest version [] i of are h = absurd h
encoded_shortest version (code ∷ bytes) i of are h = omega (arith, immediates_shortest version bytes of.immediates are.1 h.1)
