-- The words of a listing are plain.
use Rattle.std.proofs.Common.{◌≡◌, refl, ℕ, zero, suc, ◌+◌, ◌/◌, ◌%◌, ◌^◌, ◌<◌, ◌≤◌, Bool, true, false, not, ◌&&◌, eqb, ltb, List, [], ◌∷◌, ◌++◌, length, length-append, map, get_or, codes, Option, Some, None, arith}
use Rattle.std.specs.Prelude.{decimal, if◌then◌else◌}
use Rattle.std.specs.List.{list_all}
use Rattle.std.proofs.lemmas.Fmt.{decimal_by_steps}
use Rattle.std.proofs.lemmas.List.Folds.{list_all-append}
use Rattle.std.proofs.lemmas.Bool.Decides.{nat_tests}
use Rattle.std.proofs.lemmas.Bool.{and_parts, not-true}
use Rattle.hex.specs.Hex.{encode_lower, encode_with, lower_digits}
use Rattle.teal_table.specs.declared.shape.Shape.{Shape}
use Rattle.teal_table.specs.declared.shape.Version.{Version}
use Rattle.teal_table.specs.declared.shape.Version.TheVariants.{Two, Three}
use Rattle.teal_code.specs.declared.instr.Immediates.{Immediates}
use Rattle.teal_code.specs.declared.instr.Immediates.TheVariants as is
use Rattle.teal_code.specs.declared.instr.Instr.{Instr}
use Rattle.teal_code.specs.Limits.{most_program_bytes}
use Rattle.teal_check.specs.declared.program.PlacedInstr.{PlacedInstr}
use Rattle.teal_check.specs.WellFormed.{WellFormed}
use Rattle.teal_text.specs.PlainWords.{is_plain_byte, is_plain_word, is_plain_line, has_comment}
use Rattle.teal_dis.specs.Listing.{constant, operands, words_of, targets_before, is_target, label_of, label_line, target_word, instruction_line, listing_from, pragma_line, listing_lines}
use Rattle.teal_laws.specs.Listed.{AreUints, HasShape, nothing, index, txn, stack, global, group, array, stack_array, group_array, bounds, offset, uints, strings, uint, string, IsOfVersion, AreOf, IsAimed, AreAimed, IsListed}
use Rattle.teal_laws.proofs.Names.{name_is_plain}
use Rattle.teal_laws.proofs.FieldNames.{scalar_is_plain, array_is_plain, global_word_is_plain}

-- a plain byte with which no comment begins
abbrev pub is_word_byte : ℕ → Bool
is_word_byte b = is_plain_byte b && not (eqb b 47)

all_plain : (w : List ℕ) → list_all is_word_byte w ≡ true → list_all is_plain_byte w ≡ true
all_plain [] h = refl
all_plain (b ∷ bs) h =
    let parts = and_parts (is_word_byte b) (list_all is_word_byte bs) h in
    rw ((and_parts (is_plain_byte b) (not (eqb b 47)) parts.0).0) (all_plain bs parts.1)

no_comment : (w : List ℕ) → list_all is_word_byte w ≡ true → has_comment w ≡ false
no_comment [] h = refl
no_comment (b ∷ bs) h =
    let parts = and_parts (is_word_byte b) (list_all is_word_byte bs) h in
    let other = not-true (eqb b 47) (and_parts (is_plain_byte b) (not (eqb b 47)) parts.0).1 in
    let first : eqb 47 b ≡ false = grind (arith, nat_tests) in
    rw first (no_comment bs parts.1)

-- a word that is not empty, of bytes that pass is_word_byte, is a plain word
pub word_is_plain : (w : List ℕ) → 0 < length w → list_all is_word_byte w ≡ true → is_plain_word w ≡ true
word_is_plain w some h =
    let positive : ltb 0 (length w) ≡ true = grind (arith, nat_tests) in
    rw (positive, all_plain w h, no_comment w h) refl

digit_byte : (d : ℕ) → d < 10 → is_word_byte (48 + d) ≡ true
digit_byte zero lt = refl
digit_byte (suc zero) lt = refl
digit_byte (suc (suc zero)) lt = refl
digit_byte (suc (suc (suc zero))) lt = refl
digit_byte (suc (suc (suc (suc zero)))) lt = refl
digit_byte (suc (suc (suc (suc (suc zero))))) lt = refl
digit_byte (suc (suc (suc (suc (suc (suc zero)))))) lt = refl
digit_byte (suc (suc (suc (suc (suc (suc (suc zero))))))) lt = refl
digit_byte (suc (suc (suc (suc (suc (suc (suc (suc zero)))))))) lt = refl
digit_byte (suc (suc (suc (suc (suc (suc (suc (suc (suc zero))))))))) lt = refl
digit_byte (suc (suc (suc (suc (suc (suc (suc (suc (suc (suc d)))))))))) lt = absurd (omega arith)

abbrev IsDigits : ℕ → List ℕ → Type 0
IsDigits n ds = (0 < length ds) × (list_all is_word_byte ds ≡ true)

pub decimal_bytes : (n : ℕ) → n < 2 ^ 64 → IsDigits n (decimal n)
decimal_bytes n lt = decimal_by_steps IsDigits (λ k small. (omega arith, rw (digit_byte k small) refl)) (λ k ds large h. (
  omega (arith, length-append ds ((48 + k % 10) ∷ [])),
  rw (list_all-append is_word_byte ds ((48 + k % 10) ∷ []), h.1, digit_byte (k % 10) (omega arith)) refl,
)) n lt

decimal_is_plain : (n : ℕ) → n < 2 ^ 64 → is_plain_word (decimal n) ≡ true
decimal_is_plain n lt = let d = decimal_bytes n lt in word_is_plain (decimal n) d.0 d.1

element : (p : ℕ → Bool) (xs : List ℕ) (i : ℕ) → list_all p xs ≡ true → p 0 ≡ true → p (get_or xs i 0) ≡ true
element p [] i h none = none
element p (x ∷ xs) zero h none = (and_parts (p x) (list_all p xs) h).0
element p (x ∷ xs) (suc i) h none = element p xs i (and_parts (p x) (list_all p xs) h).1 none

hex_bytes : (bytes : List ℕ) → list_all is_word_byte (encode_lower bytes) ≡ true
unfolding encode_with
hex_bytes [] = refl
hex_bytes (b ∷ bs) =
    let high = element is_word_byte lower_digits (b / 16) refl refl in
    let low = element is_word_byte lower_digits (b % 16) refl refl in
    rw (high, low) (hex_bytes bs)

constant_is_plain : (bytes : List ℕ) → is_plain_word (constant bytes) ≡ true
constant_is_plain bytes = word_is_plain (constant bytes) (omega arith) (hex_bytes bytes)

-- ---- a line

-- the target of a branch is a plain word
abbrev IsTargetWord : Immediates → List ℕ → Type 0
IsTargetWord (is.Offset n) w = is_plain_word w ≡ true
IsTargetWord _ w = Unit {0}

byte_is_plain : (n : ℕ) → n ≤ 255 → is_plain_word (decimal n) ≡ true
byte_is_plain n le = decimal_is_plain n (omega (arith, le))

uints_are_plain : (ns : List ℕ) → AreUints ns → is_plain_line (map decimal ns) ≡ true
uints_are_plain [] h = refl
uints_are_plain (n ∷ ns) h = rw (decimal_is_plain n h.0) (uints_are_plain ns h.1)

strings_are_plain : (ss : List (List ℕ)) → is_plain_line (map constant ss) ≡ true
strings_are_plain [] = refl
strings_are_plain (s ∷ ss) = rw (constant_is_plain s) (strings_are_plain ss)

operands_are_plain : (version : Version) (target : List ℕ) {s : Shape} {m : Immediates} → HasShape version s m → IsTargetWord m target → is_plain_line (operands s target m) ≡ true
operands_are_plain version target nothing t = refl
operands_are_plain version target (index {i} h) t = rw (byte_is_plain i h) refl
operands_are_plain version target (txn {f} h) t = rw (scalar_is_plain f h) refl
operands_are_plain version target (stack {f} h) t = rw (scalar_is_plain f h) refl
operands_are_plain version target (global {f} h) t = rw (global_word_is_plain version f h) refl
operands_are_plain version target (group {t = g} {f = f} h k) w = rw (byte_is_plain g h, scalar_is_plain f k) refl
operands_are_plain version target (array {f} {i} h k) t = rw (array_is_plain f h, byte_is_plain i k) refl
operands_are_plain version target (stack_array {f} {i} h k) t = rw (array_is_plain f h, byte_is_plain i k) refl
operands_are_plain version target (group_array {t = g} {f = f} {i = i} h k l) w = rw (byte_is_plain g h, array_is_plain f k, byte_is_plain i l) refl
operands_are_plain version target (bounds {s} {e} h k) t = rw (byte_is_plain s h, byte_is_plain e k) refl
operands_are_plain version target offset t = rw t refl
operands_are_plain version target (uints {ns} h) t = uints_are_plain ns h
operands_are_plain version target (strings {ss} h) t = strings_are_plain ss
operands_are_plain version target (uint {n} h) t = rw (decimal_is_plain n h) refl
operands_are_plain version target (string {s} h) t = rw (constant_is_plain s) refl

line_is_plain : (version : Version) (target : List ℕ) (i : Instr) → IsOfVersion version i → IsTargetWord i.immediates target → is_plain_line (words_of target i) ≡ true
line_is_plain version target i is-of t = rw ((name_is_plain i.opcode).0) (operands_are_plain version target is-of.immediates t)

-- ---- labels

-- at most n of the first n instructions are targets
pub few_targets : (placed : List PlacedInstr) (n : ℕ) → targets_before placed n ≤ n
unfolding targets_before
few_targets placed zero = omega arith
few_targets placed (suc n) = elim (is_target placed n) as (λ b. targets_before placed n + (if b then 1 else 0) ≤ suc n) [
  | true ↦ omega (arith, few_targets placed n)
  | false ↦ omega (arith, few_targets placed n)
]

label_bytes : (placed : List PlacedInstr) (n : ℕ) → n ≤ most_program_bytes → list_all is_word_byte (label_of placed n) ≡ true
label_bytes placed n le = (decimal_bytes (targets_before placed n + 1) (omega (arith, le, few_targets placed n))).1

label_is_plain : (placed : List PlacedInstr) (n : ℕ) → n ≤ most_program_bytes → is_plain_word (label_of placed n) ≡ true
label_is_plain placed n le = word_is_plain (label_of placed n) (omega arith) (label_bytes placed n le)

label_word_is_plain : (placed : List PlacedInstr) (n : ℕ) → n ≤ most_program_bytes → is_plain_word (label_of placed n ++ codes ":") ≡ true
label_word_is_plain placed n le =
    word_is_plain (label_of placed n ++ codes ":") (omega arith) (rw (list_all-append is_word_byte (label_of placed n) (codes ":"), label_bytes placed n le) refl)

label_line_is_plain : (placed : List PlacedInstr) (n : ℕ) → n ≤ most_program_bytes → list_all is_plain_line (label_line placed n) ≡ true
label_line_is_plain placed n le = elim (is_target placed n) as (λ b. list_all is_plain_line (if b then ((label_of placed n ++ codes ":") ∷ []) ∷ [] else []) ≡ true) [
  | true ↦ rw (label_word_is_plain placed n le) refl
  | false ↦ refl
]

-- ---- all lines

target_is_plain : (placed : List PlacedInstr) (count number : ℕ) (m : Immediates) (t : Option ℕ) → count ≤ most_program_bytes → IsAimed count number m t → IsTargetWord m (target_word placed t)
target_is_plain placed count number (is.Offset n) None few a = absurd a
target_is_plain placed count number (is.Offset n) (Some t) few a = label_is_plain placed t (omega (arith, a.1, few))
target_is_plain placed count number is.Nothing t few a = tt
target_is_plain placed count number (is.Index i) t few a = tt
target_is_plain placed count number (is.Field f) t few a = tt
target_is_plain placed count number (is.GroupField g f) t few a = tt
target_is_plain placed count number (is.ArrayField f i) t few a = tt
target_is_plain placed count number (is.GroupArrayField g f i) t few a = tt
target_is_plain placed count number (is.Bounds s e) t few a = tt
target_is_plain placed count number (is.UintBlock ns) t few a = tt
target_is_plain placed count number (is.ByteBlock ss) t few a = tt
target_is_plain placed count number (is.Uint n) t few a = tt
target_is_plain placed count number (is.Bytes s) t few a = tt

lines_are_plain : (version : Version) (placed : List PlacedInstr) (count n : ℕ) (ps : List PlacedInstr) → count ≤ most_program_bytes → n + length ps ≤ most_program_bytes → AreOf version ps → AreAimed count n ps → list_all is_plain_line (listing_from placed n ps) ≡ true
lines_are_plain version placed count n [] few within of aim = label_line_is_plain placed n (omega (arith, within))
lines_are_plain version placed count n (p ∷ ps) few within of aim =
    let line = line_is_plain version (target_word placed p.target) p.instr of.0 (target_is_plain placed count n p.instr.immediates p.target few aim.0) in
    let later : list_all is_plain_line (listing_from placed (n + 1) ps) ≡ true = lines_are_plain version placed count (n + 1) ps few (omega (arith, within)) of.1 aim.1 in
    rw (list_all-append is_plain_line (label_line placed n) (instruction_line placed p ∷ listing_from placed (n + 1) ps), label_line_is_plain placed n (omega (arith, within)), line) later

pragma_is_plain : (version : Version) → is_plain_line (pragma_line version) ≡ true
pragma_is_plain Two = refl
pragma_is_plain Three = refl

-- a listing is made of plain words
pub listing_is_plain : (w : WellFormed) → IsListed w → list_all is_plain_line (listing_lines w) ≡ true
listing_is_plain w l = rw (pragma_is_plain w.version) (lines_are_plain w.version w.placed (length w.placed) 0 w.placed l.few (omega (arith, l.few)) l.instructions l.targets)
