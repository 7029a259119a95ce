-- The program that instructions encode is checked, and has these instructions.
use Rattle.std.proofs.Common.{◌≡◌, ◌∙◌, refl, sym, ap, ℕ, zero, suc, ◌+◌, ◌-◌, ◌<◌, ◌≤◌, true, false, eqb, ltb, List, [], ◌∷◌, ◌++◌, length, length-append, take, drop, map, get_or, Option, Some, None, Ok, inl, inr, arith}
use Rattle.std.proofs.Math.Seq.{drop-append_seam}
use Rattle.std.proofs.lemmas.List.{drop-drop}
use Rattle.std.proofs.lemmas.Bool.{cases_lt}
use Rattle.std.proofs.lemmas.Bool.Decides.{nat_tests}
use Rattle.teal_table.specs.declared.shape.Version.{Version}
use Rattle.teal_table.specs.declared.shape.Version.TheVariants.{Two, Three}
use Rattle.teal_table.specs.Table.{code_of}
use Rattle.teal_code.specs.declared.instr.Immediates.{Immediates}
use Rattle.teal_code.specs.declared.instr.Immediates.TheVariants as is
use Rattle.teal_code.specs.declared.instr.Instr.{Instr}
use Rattle.teal_code.specs.Encoding.{immediates_encoding, instr_encoding}
use Rattle.teal_code.specs.Reader.{read_at}
use Rattle.teal_code.proofs.Reading.{is_read}
use Rattle.teal_code.specs.Limits.{most_program_bytes, most_cost}
use Rattle.teal_check.specs.declared.program.PlacedInstr.{PlacedInstr}
use Rattle.teal_check.specs.WellFormed.{WellFormed, placed_at, placed_from, places, number_of_place, RisesFrom, resolved_target, immediates_target, with_targets, version_at, cost_of, checked, affordable}
use Rattle.teal_check.proofs.CheckedPrograms.{length-places, placed_rises, weaken}
use Rattle.teal_check.proofs.Starts.{index_of-there}
use Rattle.teal_asm.specs.Meaning.{Meant, Straight, Branch, Meaning}
use Rattle.teal_asm.specs.Program.{size, total_size, instruction_encoding, encoding, version_byte, program}
use Rattle.teal_laws.specs.Listed.{IsOfVersion}
use Rattle.teal_laws.specs.ListedMeaning.{meant_of, AreMeant, IsMeant, IsNoOffset}
use Rattle.teal_laws.proofs.Names.{not_left_out}
use Rattle.teal_laws.specs.ShortestEncoding.{IsShortOffset}
use Rattle.teal_laws.proofs.Encodings.{is_encoded, field_is_known}

-- ---- where the instructions stand

-- an instruction with a number, before others
abbrev instr_of : ℕ → Meant → List Meant → Instr
instr_of number (Straight o m) rest = record { opcode = o; immediates = m }
instr_of number (Branch o target) rest = record { opcode = o; immediates = is.Offset (total_size (take (target - (number + 1)) rest)) }

abbrev target_in : Meant → Option ℕ
target_in (Straight o m) = None
target_in (Branch o target) = Some target

-- the instructions from a place and a number on, without their targets, and with them
abbrev laid : ℕ → ℕ → List Meant → List PlacedInstr
laid place number [] = []
laid place number (m ∷ ms) = record { place = place; next = place + size m; instr = instr_of number m ms; target = None } ∷ laid (place + size m) (number + 1) ms

-- the instructions from a place and a number on, with their targets
abbrev pub aimed_at : ℕ → ℕ → List Meant → List PlacedInstr
aimed_at place number [] = []
aimed_at place number (m ∷ ms) = record { place = place; next = place + size m; instr = instr_of number m ms; target = target_in m } ∷ aimed_at (place + size m) (number + 1) ms

same_encoding : (number : ℕ) (m : Meant) (rest : List Meant) → instruction_encoding number m rest ≡ instr_encoding (instr_of number m rest)
same_encoding number (Straight o m) rest = refl
same_encoding number (Branch o target) rest = refl

encoding_size : (number : ℕ) (m : Meant) (rest : List Meant) → length (instr_encoding (instr_of number m rest)) ≡ size m
encoding_size number (Straight o m) rest = refl
encoding_size number (Branch o target) rest = refl

-- instructions take as many bytes as their sizes add up to
pub encoding_length : (number : ℕ) (ms : List Meant) → length (encoding number ms) ≡ total_size ms
unfolding encoding
encoding_length number [] = refl
encoding_length number (m ∷ ms) =
    length-append (instruction_encoding number m ms) (encoding (number + 1) ms)
    ∙ omega (arith, ap length (same_encoding number m ms), encoding_size number m ms, encoding_length (number + 1) ms)

size_some : (m : Meant) → 0 < size m
size_some (Straight o m) = omega arith
size_some (Branch o target) = omega arith

-- there are no more instructions than the bytes that they take
pub few_meant : (ms : List Meant) → length ms ≤ total_size ms
few_meant [] = omega arith
few_meant (m ∷ ms) = omega (arith, size_some m, few_meant ms)

size_front : (k : ℕ) (ms : List Meant) → total_size (take k ms) ≤ total_size ms
size_front zero ms = omega arith
size_front (suc k) [] = omega arith
size_front (suc k) (m ∷ ms) = omega (arith, size_front k ms)

-- ---- reading them

-- an instruction of the version, whose offset has two bytes
instr_is_of : (version : Version) (count number : ℕ) (m : Meant) (rest : List Meant) → total_size rest ≤ most_program_bytes → IsMeant version count number m → IsOfVersion version (instr_of number m rest) × IsShortOffset (instr_of number m rest).immediates
instr_is_of version count number (Straight o (is.Offset n)) rest few h = absurd h.1
instr_is_of version count number (Straight o is.Nothing) rest few h = (h.0, tt)
instr_is_of version count number (Straight o (is.Index i)) rest few h = (h.0, tt)
instr_is_of version count number (Straight o (is.Field f)) rest few h = (h.0, tt)
instr_is_of version count number (Straight o (is.GroupField g f)) rest few h = (h.0, tt)
instr_is_of version count number (Straight o (is.ArrayField f i)) rest few h = (h.0, tt)
instr_is_of version count number (Straight o (is.GroupArrayField g f i)) rest few h = (h.0, tt)
instr_is_of version count number (Straight o (is.Bounds s e)) rest few h = (h.0, tt)
instr_is_of version count number (Straight o (is.UintBlock ns)) rest few h = (h.0, tt)
instr_is_of version count number (Straight o (is.ByteBlock ss)) rest few h = (h.0, tt)
instr_is_of version count number (Straight o (is.Uint n)) rest few h = (h.0, tt)
instr_is_of version count number (Straight o (is.Bytes s)) rest few h = (h.0, tt)
instr_is_of version count number (Branch o target) rest few h = (h.0 (total_size (take (target - (number + 1)) rest)), omega (arith, few, size_front (target - (number + 1)) rest))

-- the byte at a place is the first of the bytes from there on
pub first_of : (place : ℕ) (bytes : List ℕ) (b : ℕ) (rest : List ℕ) → drop place bytes ≡ b ∷ rest → get_or bytes place 0 ≡ b
first_of zero [] b rest e = absurd cc
first_of zero (c ∷ bytes) b rest e = cc
first_of (suc place) [] b rest e = absurd cc
first_of (suc place) (c ∷ bytes) b rest e = first_of place bytes b rest e

behind_first : (place : ℕ) (bytes text rest : List ℕ) → drop place bytes ≡ text ++ rest → drop (place + length text) bytes ≡ rest
behind_first place bytes text rest e = sym (drop-drop (length text) place bytes) ∙ ap (drop (length text)) e ∙ drop-append_seam text rest

placed_is : (version : Version) (bytes : List ℕ) (place number count : ℕ) (m : Meant) (ms : List Meant) → total_size (m ∷ ms) ≤ most_program_bytes → IsMeant version count number m → drop place bytes ≡ instr_encoding (instr_of number m ms) ++ encoding (number + 1) ms
    → placed_at version bytes place ≡ Ok (record { place = place; next = place + size m; instr = instr_of number m ms; target = None })
unfolding placed_at
placed_is version bytes place number count m ms few h at =
    let i = instr_of number m ms in
    let of = instr_is_of version count number m ms (omega (arith, few)) h in
    let text = instr_encoding i in
    let encoded = is_encoded version i of.0 of.1 (omega (arith, encoding_size number m ms, few)) in
    let code : get_or bytes place 0 ≡ code_of i.opcode = first_of place bytes (code_of i.opcode) (immediates_encoding i.immediates ++ encoding (number + 1) ms) at in
    let next : place + size m ≡ place + length text = omega (arith, encoding_size number m ms) in
    let read : read_at version bytes place ≡ Ok (i, place + size m) = is_read version bytes place i (place + size m) (text, encoding (number + 1) ms, at, encoded, next) in
    rw (code, not_left_out i.opcode, read, field_is_known version of.0.immediates) refl

placed_are : (fuel : ℕ) (version : Version) (bytes : List ℕ) (place number count : ℕ) (ms : List Meant) → length ms ≤ fuel → total_size ms ≤ most_program_bytes → place + total_size ms ≡ length bytes → AreMeant version count number ms → drop place bytes ≡ encoding number ms
    → placed_from fuel version bytes place ≡ Ok (laid place number ms)
unfolding placed_from encoding
placed_are zero version bytes place number count [] enough few end h at = refl
placed_are (suc fuel) version bytes place number count [] enough few end h at =
    let test : eqb place (length bytes) ≡ true = grind (arith, nat_tests) in
    rw test refl
placed_are zero version bytes place number count (m ∷ ms) enough few end h at = absurd (omega (arith, enough))
placed_are (suc fuel) version bytes place number count (m ∷ ms) enough few end h at =
    let short : place < length bytes = omega (arith, end, size_some m) in
    let test : eqb place (length bytes) ≡ false = grind (arith, nat_tests) in
    let here : drop place bytes ≡ instr_encoding (instr_of number m ms) ++ encoding (number + 1) ms = at ∙ ap (λ t. t ++ encoding (number + 1) ms) (same_encoding number m ms) in
    let first = placed_is version bytes place number count m ms few h.0 here in
    let behind : drop (place + size m) bytes ≡ encoding (number + 1) ms = ap (λ n. drop (place + n) bytes) (sym (encoding_size number m ms)) ∙ behind_first place bytes (instr_encoding (instr_of number m ms)) (encoding (number + 1) ms) here in
    let more = placed_are fuel version bytes (place + size m) (number + 1) count ms (omega (arith, enough)) (omega (arith, few)) (omega (arith, end)) h.1 behind in
    rw (test, first, more) refl

-- ---- targets

laid_count : (place number : ℕ) (ms : List Meant) → length (laid place number ms) ≡ length ms
laid_count place number [] = refl
laid_count place number (m ∷ ms) = ap suc (laid_count (place + size m) (number + 1) ms)

laid_place : (place number k : ℕ) (ms : List Meant) → k < length ms → get_or (places (laid place number ms)) k 0 ≡ place + total_size (take k ms)
laid_place place number k [] lt = absurd (omega arith)
laid_place place number zero (m ∷ ms) lt = omega arith
laid_place place number (suc k) (m ∷ ms) lt = laid_place (place + size m) (number + 1) k ms (omega (arith, lt)) ∙ omega arith

whole_size : (ms : List Meant) → total_size (take (length ms) ms) ≡ total_size ms
whole_size [] = refl
whole_size (m ∷ ms) = ap (λ n. size m + n) (whole_size ms)

part_size : (k : ℕ) (ms : List Meant) → k < length ms → total_size (take k ms) < total_size ms
part_size k [] lt = absurd (omega arith)
part_size zero (m ∷ ms) lt = omega (arith, size_some m)
part_size (suc k) (m ∷ ms) lt = omega (arith, part_size k ms (omega (arith, lt)))

-- where the k-th instruction behind one stands is its place
abbrev Stand : List ℕ → ℕ → ℕ → ℕ → List Meant → Type 0
Stand starts end number place ms = (k : ℕ) → k ≤ length ms → number_of_place starts end (place + total_size (take k ms)) ≡ Some (number + k)

all_stand : (end : ℕ) (ms : List Meant) → RisesFrom 0 (places (laid 1 0 ms)) → 1 + total_size ms ≡ end → Stand (places (laid 1 0 ms)) end 0 1 ms
all_stand end ms rising e k le =
    let starts = places (laid 1 0 ms) in
    let count : length starts ≡ length ms = length-places (laid 1 0 ms) ∙ laid_count 1 0 ms in
    elim (cases_lt k (length ms)) [
      | inl lt ↦
          let before : 1 + total_size (take k ms) < end = omega (arith, part_size k ms lt, e) in
          let test : eqb (1 + total_size (take k ms)) end ≡ false = grind (arith, nat_tests) in
          let within : k < length starts = omega (arith, lt, count) in
          let number : k ≡ 0 + k = omega arith in
          rw test (index_of-there 0 starts k (1 + total_size (take k ms)) rising within (laid_place 1 0 k ms lt) ∙ ap (λ n. Some n) number)
      | inr ge ↦
          let last : k ≡ length ms = omega (arith, le, ge) in
          let here : 1 + total_size (take k ms) ≡ end = ap (λ n. 1 + total_size (take n ms)) last ∙ ap (λ n. 1 + n) (whole_size ms) ∙ e in
          let test : eqb (1 + total_size (take k ms)) end ≡ true = grind (arith, nat_tests) in
          let number : length starts ≡ 0 + k = omega (arith, count, last) in
          rw test (ap (λ n. Some n) number)
    ]

next_stand : (starts : List ℕ) (end number place : ℕ) (m : Meant) (ms : List Meant) → Stand starts end number place (m ∷ ms) → Stand starts end (number + 1) (place + size m) ms
next_stand starts end number place m ms stand k le =
    let there : place + size m + total_size (take k ms) ≡ place + (size m + total_size (take k ms)) = omega arith in
    let which : number + suc k ≡ number + 1 + k = omega arith in
    ap (number_of_place starts end) there ∙ stand (suc k) (omega (arith, le)) ∙ ap (λ n. Some n) which

no_branch : (starts : List ℕ) (end place next : ℕ) (m : Immediates) → IsNoOffset m → immediates_target starts end place next m ≡ Ok None
no_branch starts end place next (is.Offset n) h = absurd h
no_branch starts end place next is.Nothing h = refl
no_branch starts end place next (is.Index i) h = refl
no_branch starts end place next (is.Field f) h = refl
no_branch starts end place next (is.GroupField g f) h = refl
no_branch starts end place next (is.ArrayField f i) h = refl
no_branch starts end place next (is.GroupArrayField g f i) h = refl
no_branch starts end place next (is.Bounds s e) h = refl
no_branch starts end place next (is.UintBlock ns) h = refl
no_branch starts end place next (is.ByteBlock ss) h = refl
no_branch starts end place next (is.Uint n) h = refl
no_branch starts end place next (is.Bytes s) h = refl

branch_is : (starts : List ℕ) (end place next offset target : ℕ) → offset ≤ most_program_bytes → next + offset ≤ end → number_of_place starts end (next + offset) ≡ Some target → resolved_target starts end place next offset ≡ Ok (Some target)
branch_is starts end place next offset target few within at =
    let fits : ltb 32767 offset ≡ false = grind (arith, nat_tests) in
    let inside : ltb end (next + offset) ≡ false = grind (arith, nat_tests) in
    rw (fits, inside, at) refl

target_is : (version : Version) (starts : List ℕ) (end number place count : ℕ) (m : Meant) (ms : List Meant) → total_size ms ≤ most_program_bytes → place + total_size (m ∷ ms) ≡ end → number + length (m ∷ ms) ≡ count → IsMeant version count number m → Stand starts end number place (m ∷ ms)
    → immediates_target starts end place (place + size m) (instr_of number m ms).immediates ≡ Ok (target_in m)
target_is version starts end number place count (Straight o m) ms few close all h stand = no_branch starts end place (place + size (Straight o m)) m h.1
target_is version starts end number place count (Branch o t) ms few close all h stand =
    let offset = total_size (take (t - (number + 1)) ms) in
    let over = size_front (t - (number + 1)) ms in
    let there : place + 3 + offset ≡ place + (3 + offset) = omega arith in
    let which : number + suc (t - (number + 1)) ≡ t = omega (arith, h.1) in
    let at : number_of_place starts end (place + 3 + offset) ≡ Some t = ap (number_of_place starts end) there ∙ stand (suc (t - (number + 1))) (omega (arith, h.1, h.2, all)) ∙ ap (λ n. Some n) which in
    branch_is starts end place (place + 3) offset t (omega (arith, over, few)) (omega (arith, over, close)) at

targets_are : (version : Version) (starts : List ℕ) (end number place count : ℕ) (ms : List Meant) → total_size ms ≤ most_program_bytes → place + total_size ms ≡ end → number + length ms ≡ count → AreMeant version count number ms → Stand starts end number place ms
    → with_targets starts end (laid place number ms) ≡ Ok (aimed_at place number ms)
unfolding with_targets
targets_are version starts end number place count [] few close all h stand = refl
targets_are version starts end number place count (m ∷ ms) few close all h stand =
    let first = target_is version starts end number place count m ms (omega (arith, few)) close all h.0 stand in
    let more = targets_are version starts end (number + 1) (place + size m) count ms (omega (arith, few)) (omega (arith, close)) (omega (arith, all)) h.1 (next_stand starts end number place m ms stand) in
    rw (first, more) refl

-- ---- the program

version_read : (version : Version) (rest : List ℕ) → version_at (version_byte version ∷ rest) ≡ Ok (version, 1)
version_read Two rest = let one : length (2 ∷ rest) - length rest ≡ 1 = omega arith in ap (λ n. Ok (Two, n)) one
version_read Three rest = let one : length (3 ∷ rest) - length rest ≡ 1 = omega arith in ap (λ n. Ok (Three, n)) one

-- the program that instructions are
abbrev pub encoded_program : Meaning → WellFormed
encoded_program m = record { version = m.version; bytes = program m; placed = aimed_at 1 0 m.instructions; cost = cost_of (aimed_at 1 0 m.instructions) }

-- where the instructions are of the version and short enough, only their cost is left to check
pub program_checks : (m : Meaning) → AreMeant m.version (length m.instructions) 0 m.instructions → 1 + total_size m.instructions ≤ most_program_bytes → checked (program m) ≡ affordable m.version (program m) (aimed_at 1 0 m.instructions)
unfolding checked program
program_checks m are short =
    let ms = m.instructions in
    let bytes = version_byte m.version ∷ encoding 0 ms in
    let long : length bytes ≡ 1 + total_size ms = ap suc (encoding_length 0 ms) ∙ omega arith in
    let some : eqb (length bytes) 0 ≡ false = grind (arith, nat_tests) in
    let few : ltb most_program_bytes (length bytes) ≡ false = grind (arith, nat_tests) in
    let placed = placed_are (length bytes) m.version bytes 1 0 (length ms) ms (omega (arith, long, few_meant ms)) (omega (arith, short)) (sym long) are refl in
    let rising = (placed_rises (length bytes) m.version bytes 1 (laid 1 0 ms) (omega (arith, long)) placed).0 in
    let stand = all_stand (length bytes) ms (weaken 0 1 (places (laid 1 0 ms)) (omega arith) rising) (sym long) in
    let resolved = targets_are m.version (places (laid 1 0 ms)) (length bytes) 0 1 (length ms) ms (omega (arith, short)) (sym long) (omega arith) are stand in
    rw (some, few, version_read m.version (encoding 0 ms), placed, resolved) refl

-- where they also cost no more than a program may, the program is accepted
pub program_is_checked : (m : Meaning) → AreMeant m.version (length m.instructions) 0 m.instructions → 1 + total_size m.instructions ≤ most_program_bytes → cost_of (aimed_at 1 0 m.instructions) ≤ most_cost → checked (program m) ≡ Ok (encoded_program m)
program_is_checked m are short cheap =
    let paid : ltb most_cost (cost_of (aimed_at 1 0 m.instructions)) ≡ false = grind (arith, nat_tests) in
    program_checks m are short ∙ rw paid refl

-- the instructions of a program, with their targets, mean those that it was written from
pub meant_back : (place number : ℕ) (ms : List Meant) → map meant_of (aimed_at place number ms) ≡ ms
meant_back place number [] = refl
meant_back place number (Straight o m ∷ ms) = ap (λ rest. Straight o m ∷ rest) (meant_back (place + size (Straight o m)) (number + 1) ms)
meant_back place number (Branch o t ∷ ms) = ap (λ rest. Branch o t ∷ rest) (meant_back (place + 3) (number + 1) ms)
