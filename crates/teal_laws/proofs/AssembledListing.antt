-- The listing of a checked program assembles to a program of the same instructions, which lists so again.
use Rattle.std.proofs.Common.{◌≡◌, ◌∙◌, refl, sym, ap, subst, ℕ, zero, suc, ◌+◌, ◌-◌, ◌<◌, ◌≤◌, false, eqb, ltb, List, [], ◌∷◌, ◌++◌, length, length-append, map, codes, Option, Some, None, Ok, inl, inr, arith}
use Rattle.std.specs.Prelude.{if◌then◌else◌}
use Rattle.std.specs.Option.{option_map_or}
use Rattle.std.proofs.lemmas.Bool.Decides.{nat_tests}
use Rattle.base64.specs.GeneralPurpose.{IsBytes}
use Rattle.teal_value.proofs.Binding.{bind_ok, chosen}
use Rattle.teal_table.specs.declared.shape.Shape.{Shape}
use Rattle.teal_table.specs.declared.shape.Version.{Version}
use Rattle.teal_table.specs.declared.opcode.Opcode.{Opcode}
use Rattle.teal_table.specs.Table.{row_of, name_of}
use Rattle.teal_code.specs.declared.instr.Immediates.{Immediates}
use Rattle.teal_code.specs.declared.instr.Immediates.TheVariants as is
use Rattle.teal_code.specs.Encoding.{instr_encoding}
use Rattle.teal_code.specs.Grammar.{Reads}
use Rattle.teal_code.specs.Reader.{varuint_at}
use Rattle.teal_code.specs.Varuint.{IsBase128}
use Rattle.teal_code.proofs.Reading.{varuint_sound, read_is}
use Rattle.teal_code.specs.Limits.{most_program_bytes, most_cost}
use Rattle.teal_check.specs.declared.program.PlacedInstr.{PlacedInstr}
use Rattle.teal_check.specs.WellFormed.{WellFormed, on_code, placed_at, placed_from, places, target_of, with_targets, version_at, version_of, cost_of, checked}
use Rattle.teal_check.proofs.CheckedPrograms.{coded_ok, is_checked, is_placed, placed_forward}
use Rattle.teal_dis.specs.Listing.{Word, operands, words_of, leads_to, is_target, targets_before, label_of, label_line, target_word, instruction_line, listing_from, pragma_line, listing}
use Rattle.teal_text.specs.PlainWords.{text_of_lines}
use Rattle.teal_asm.specs.Meaning.{Meant, Straight, Branch, Meaning, meaning}
use Rattle.teal_asm.specs.Program.{size, total_size, program, short_program, line_count, assembled}
use Rattle.teal_laws.specs.Listed.{HasShape, offset, IsOfVersion, AreOf, IsAimed, AreAimed}
use Rattle.teal_laws.specs.ListedMeaning.{IsNoOffset, meant_with, meant_of, program_meaning, IsMeant, AreMeant}
use Rattle.teal_laws.specs.AssembledListing.{AssemblesBack}
use Rattle.teal_laws.specs.TextCost.{meant_cost}
use Rattle.teal_laws.proofs.Bytes.{AreBytes, are_each, bytes_behind}
use Rattle.teal_laws.proofs.PlacedInstructions.{is_listed, placed_is_of}
use Rattle.teal_laws.proofs.Encodings.{front_bytes, encoded_shortest}
use Rattle.teal_laws.proofs.EncodedPrograms.{aimed_at, encoded_program, program_is_checked, encoding_length, meant_back}
use Rattle.teal_laws.proofs.ListingMeaning.{listing_means}

-- ---- a checked program's instructions, as a text means them

any_offset : (version : Version) {s : Shape} {n : ℕ} (k : ℕ) → HasShape version s (is.Offset n) → HasShape version s (is.Offset k)
any_offset version k offset = offset

instr_meant : (version : Version) (count number : ℕ) (o : Opcode) (m : Immediates) (t : Option ℕ) → IsOfVersion version (record { opcode = o; immediates = m }) → IsAimed count number m t → IsMeant version count number (meant_with t o m)
instr_meant version count number o (is.Offset n) None of aim = absurd aim
instr_meant version count number o (is.Offset n) (Some t) of aim = (λ k. record { opcode = of.opcode; immediates = any_offset version k of.immediates }, aim.0, aim.1)
instr_meant version count number o is.Nothing t of aim = rw aim (of, tt)
instr_meant version count number o (is.Index i) t of aim = rw aim (of, tt)
instr_meant version count number o (is.Field f) t of aim = rw aim (of, tt)
instr_meant version count number o (is.GroupField g f) t of aim = rw aim (of, tt)
instr_meant version count number o (is.ArrayField f i) t of aim = rw aim (of, tt)
instr_meant version count number o (is.GroupArrayField g f i) t of aim = rw aim (of, tt)
instr_meant version count number o (is.Bounds s e) t of aim = rw aim (of, tt)
instr_meant version count number o (is.UintBlock ns) t of aim = rw aim (of, tt)
instr_meant version count number o (is.ByteBlock ss) t of aim = rw aim (of, tt)
instr_meant version count number o (is.Uint n) t of aim = rw aim (of, tt)
instr_meant version count number o (is.Bytes s) t of aim = rw aim (of, tt)

placed_meant : (version : Version) (count number : ℕ) (ps : List PlacedInstr) → AreOf version ps → AreAimed count number ps → AreMeant version count number (map meant_of ps)
placed_meant version count number [] of aim = tt
placed_meant version count number (p ∷ ps) of aim = (instr_meant version count number p.instr.opcode p.instr.immediates p.target of.0 aim.0, placed_meant version count (number + 1) ps of.1 aim.1)

length-map : {A B : Type 0} (f : A → B) (xs : List A) → length (map f xs) ≡ length xs
length-map f [] = refl
length-map f (x ∷ xs) = ap suc (length-map f xs)

-- ---- it is no longer than the program

abbrev encoded_size : List PlacedInstr → ℕ
encoded_size [] = 0
encoded_size (p ∷ ps) = length (instr_encoding p.instr) + encoded_size ps

instr_size : (count number : ℕ) (o : Opcode) (m : Immediates) (t : Option ℕ) → IsAimed count number m t → size (meant_with t o m) ≤ length (instr_encoding (record { opcode = o; immediates = m }))
instr_size count number o (is.Offset n) None aim = absurd aim
instr_size count number o (is.Offset n) (Some t) aim = omega arith
instr_size count number o is.Nothing t aim = rw aim (omega arith)
instr_size count number o (is.Index i) t aim = rw aim (omega arith)
instr_size count number o (is.Field f) t aim = rw aim (omega arith)
instr_size count number o (is.GroupField g f) t aim = rw aim (omega arith)
instr_size count number o (is.ArrayField f i) t aim = rw aim (omega arith)
instr_size count number o (is.GroupArrayField g f i) t aim = rw aim (omega arith)
instr_size count number o (is.Bounds s e) t aim = rw aim (omega arith)
instr_size count number o (is.UintBlock ns) t aim = rw aim (omega arith)
instr_size count number o (is.ByteBlock ss) t aim = rw aim (omega arith)
instr_size count number o (is.Uint n) t aim = rw aim (omega arith)
instr_size count number o (is.Bytes s) t aim = rw aim (omega arith)

meant_size : (count number : ℕ) (ps : List PlacedInstr) → AreAimed count number ps → total_size (map meant_of ps) ≤ encoded_size ps
meant_size count number [] aim = omega arith
meant_size count number (p ∷ ps) aim = omega (arith, instr_size count number p.instr.opcode p.instr.immediates p.target aim.0, meant_size count (number + 1) ps aim.1)

-- an instruction that the checker places stands there by the grammar
pub placed_reads : (version : Version) (bytes : List ℕ) (place : ℕ) (p : PlacedInstr) → place ≤ length bytes → placed_at version bytes place ≡ Ok p → Reads version bytes place p.instr p.next
placed_reads version bytes place p within e = read_is version bytes place p.instr p.next within (is_placed version bytes place p e).read

placed_size : (version : Version) (bytes : List ℕ) (place : ℕ) (p : PlacedInstr) → AreBytes bytes → place ≤ length bytes → placed_at version bytes place ≡ Ok p → place + length (instr_encoding p.instr) ≤ p.next
placed_size version bytes place p are within e =
    let (text, rest, parts, encodes, reach) = placed_reads version bytes place p within e in
    let of = placed_is_of version bytes place p are e in
    let front = front_bytes text rest (subst AreBytes parts (bytes_behind place bytes are)) in
    omega (arith, reach, encoded_shortest version text p.instr of front.0 encodes)

all_sizes : (n : ℕ) (version : Version) (bytes : List ℕ) (place : ℕ) (ps : List PlacedInstr) → AreBytes bytes → place ≤ length bytes → placed_from n version bytes place ≡ Ok ps → place + encoded_size ps ≤ length bytes
unfolding placed_from
all_sizes zero version bytes place ps are within e = let none : [] ≡ ps = cc in subst (λ qs. place + encoded_size qs ≤ length bytes) none (omega (arith, within))
all_sizes (suc n) version bytes place ps are within e =
    elim (chosen (eqb place (length bytes)) _ _ _ e) [
      | inl (end, done) ↦ let none : [] ≡ ps = cc in subst (λ qs. place + encoded_size qs ≤ length bytes) none (omega (arith, within))
      | inr (before, more) ↦
          let (p, first, others) = bind_ok (placed_at version bytes place) _ _ more in
          let (qs, rest, last) = bind_ok (placed_from n version bytes p.next) _ _ others in
          let forward = placed_forward version bytes place p within first in
          let same : p ∷ qs ≡ ps = cc in
          subst (λ rs. place + encoded_size rs ≤ length bytes) same (omega (arith, placed_size version bytes place p are within first, all_sizes n version bytes p.next qs are forward.2 rest))
    ]

same_size : (starts : List ℕ) (end : ℕ) (ps qs : List PlacedInstr) → with_targets starts end ps ≡ Ok qs → encoded_size ps ≡ encoded_size qs
unfolding with_targets
same_size starts end [] qs e = let none : [] ≡ qs = cc in ap encoded_size none
same_size starts end (p ∷ ps) qs e =
    let (t, first, others) = bind_ok (target_of starts end p) _ _ e in
    let (rs, rest, last) = bind_ok (with_targets starts end ps) _ _ others in
    let same : record p { target = t } ∷ rs ≡ qs = cc in
    ap (λ n. length (instr_encoding p.instr) + n) (same_size starts end ps rs rest) ∙ ap encoded_size same

-- the instructions begin behind the version
version_some : (bytes : List ℕ) (v : Version × ℕ) → version_at bytes ≡ Ok v → 0 < v.1
version_some bytes v e =
    let (n, first, others) = bind_ok (on_code 0 (varuint_at bytes)) _ _ e in
    let (version, numbered, last) = bind_ok (version_of n.0) _ _ others in
    let same : ◌≡◌ {A = Version × ℕ} (version, length bytes - length n.1) v = cc in
    let t = varuint_sound bytes n.0 n.1 (coded_ok 0 _ _ first) in
    omega (arith, ap (λ p. p.1) same, ap length t.parts ∙ length-append t.front n.1, some_digits t.front n.0 t.encoded.digits) where
      some_digits : (front : List ℕ) (k : ℕ) → IsBase128 front k → 0 < length front
      some_digits [] k h = absurd h
      some_digits (b ∷ front) k h = omega arith

-- the instructions take no more bytes than the program has, which costs at most 700
abbrev Fits : List ℕ → WellFormed → Type 0
Fits bytes w = (1 + encoded_size w.placed ≤ length bytes) × (length bytes ≤ most_program_bytes) × (cost_of w.placed ≤ most_cost) × (w.cost ≡ cost_of w.placed)

it_fits : (bytes : List ℕ) (w : WellFormed) → IsBytes bytes → checked bytes ≡ Ok w → Fits bytes w
it_fits bytes w are e =
    let c = is_checked bytes w e in
    let sizes = all_sizes (length bytes) w.version bytes c.start c.bare (are_each bytes are) c.within c.placed in
    let size = same_size (places c.bare) (length bytes) c.bare w.placed c.targets in
    (omega (arith, sizes, size, version_some bytes (w.version, c.start) c.version), c.short, omega (arith, c.cost, c.cheap), c.cost)

-- ---- costs

one_cost : (t : Option ℕ) (o : Opcode) (m : Immediates) (ms : List Meant) → meant_cost (meant_with t o m ∷ ms) ≡ (row_of o).cost + meant_cost ms
one_cost None o m ms = refl
one_cost (Some t) o m ms = refl

-- what placed instructions mean costs as much as they do
pub placed_cost : (ps : List PlacedInstr) → meant_cost (map meant_of ps) ≡ cost_of ps
placed_cost [] = refl
placed_cost (p ∷ ps) = one_cost p.target p.instr.opcode p.instr.immediates (map meant_of ps) ∙ ap (λ n. (row_of p.instr.opcode).cost + n) (placed_cost ps)

-- ---- listings by what they mean

target_named : Meant → Option ℕ
target_named (Straight o m) = None
target_named (Branch o t) = Some t

target_back : (t : Option ℕ) (o : Opcode) (m : Immediates) → target_named (meant_with t o m) ≡ t
unfolding target_named
target_back None o m = refl
target_back (Some t) o m = refl

-- the words of an instruction's line; the label of its target is given
abbrev line_of_meant : Word → Meant → List Word
line_of_meant w (Straight o m) = name_of o ∷ operands (row_of o).immediates w m
line_of_meant w (Branch o t) = name_of o ∷ w ∷ []

line_is : (w : Word) (count number : ℕ) (o : Opcode) (m : Immediates) (t : Option ℕ) → IsAimed count number m t → words_of w (record { opcode = o; immediates = m }) ≡ line_of_meant w (meant_with t o m)
line_is w count number o (is.Offset n) None aim = absurd aim
line_is w count number o (is.Offset n) (Some t) aim = refl
line_is w count number o is.Nothing t aim = rw aim refl
line_is w count number o (is.Index i) t aim = rw aim refl
line_is w count number o (is.Field f) t aim = rw aim refl
line_is w count number o (is.GroupField g f) t aim = rw aim refl
line_is w count number o (is.ArrayField f i) t aim = rw aim refl
line_is w count number o (is.GroupArrayField g f i) t aim = rw aim refl
line_is w count number o (is.Bounds s e) t aim = rw aim refl
line_is w count number o (is.UintBlock ns) t aim = rw aim refl
line_is w count number o (is.ByteBlock ss) t aim = rw aim refl
line_is w count number o (is.Uint n) t aim = rw aim refl
line_is w count number o (is.Bytes s) t aim = rw aim refl

same_meant : (p q : PlacedInstr) (ps qs : List PlacedInstr) → map meant_of (p ∷ ps) ≡ map meant_of (q ∷ qs) → (meant_of p ≡ meant_of q) × (map meant_of ps ≡ map meant_of qs)
same_meant p q ps qs e = (cc, cc)

same_target : (p q : PlacedInstr) → meant_of p ≡ meant_of q → p.target ≡ q.target
same_target p q e = sym (target_back p.target p.instr.opcode p.instr.immediates) ∙ ap target_named e ∙ target_back q.target q.instr.opcode q.instr.immediates

same_marks : (ps qs : List PlacedInstr) (n : ℕ) → map meant_of ps ≡ map meant_of qs → is_target ps n ≡ is_target qs n
same_marks [] [] n e = refl
same_marks [] (q ∷ qs) n e = absurd cc
same_marks (p ∷ ps) [] n e = absurd cc
same_marks (p ∷ ps) (q ∷ qs) n e =
    let both = same_meant p q ps qs e in
    let first : leads_to n p ≡ leads_to n q = ap (λ t. option_map_or (λ target. eqb target n) t false) (same_target p q both.0) in
    rw (first, same_marks ps qs n both.1) refl

same_before : (ps qs : List PlacedInstr) (n : ℕ) → map meant_of ps ≡ map meant_of qs → targets_before ps n ≡ targets_before qs n
unfolding targets_before
same_before ps qs zero e = refl
same_before ps qs (suc n) e = rw (same_before ps qs n e, same_marks ps qs n e) refl

same_label : (ps qs : List PlacedInstr) (n : ℕ) → map meant_of ps ≡ map meant_of qs → label_of ps n ≡ label_of qs n
same_label ps qs n e = rw (same_before ps qs n e) refl

same_label_line : (ps qs : List PlacedInstr) (n : ℕ) → map meant_of ps ≡ map meant_of qs → label_line ps n ≡ label_line qs n
same_label_line ps qs n e =
    ap (λ b. if b then ((label_of ps n ++ codes ":") ∷ []) ∷ [] else []) (same_marks ps qs n e)
    ∙ ap (λ (w : Word). if is_target qs n then ((w ++ codes ":") ∷ []) ∷ [] else []) (same_label ps qs n e)

same_target_word : (ps qs : List PlacedInstr) (t : Option ℕ) → map meant_of ps ≡ map meant_of qs → target_word ps t ≡ target_word qs t
same_target_word ps qs None e = refl
same_target_word ps qs (Some t) e = same_label ps qs t e

same_line : (ps qs : List PlacedInstr) (count number : ℕ) (p q : PlacedInstr) → map meant_of ps ≡ map meant_of qs → IsAimed count number p.instr.immediates p.target → IsAimed count number q.instr.immediates q.target → meant_of p ≡ meant_of q
    → instruction_line ps p ≡ instruction_line qs q
same_line ps qs count number p q e a b same =
    line_is (target_word ps p.target) count number p.instr.opcode p.instr.immediates p.target a
    ∙ ap (λ w. line_of_meant w (meant_of p)) (same_target_word ps qs p.target e ∙ ap (target_word qs) (same_target p q same))
    ∙ ap (line_of_meant (target_word qs q.target)) same
    ∙ sym (line_is (target_word qs q.target) count number q.instr.opcode q.instr.immediates q.target b)

same_lines : (all ball : List PlacedInstr) (count n : ℕ) (ps qs : List PlacedInstr) → map meant_of all ≡ map meant_of ball → AreAimed count n ps → AreAimed count n qs → map meant_of ps ≡ map meant_of qs → listing_from all n ps ≡ listing_from ball n qs
same_lines all ball count n [] [] e a b same = same_label_line all ball n e
same_lines all ball count n [] (q ∷ qs) e a b same = absurd cc
same_lines all ball count n (p ∷ ps) [] e a b same = absurd cc
same_lines all ball count n (p ∷ ps) (q ∷ qs) e a b same =
    let both = same_meant p q ps qs same in
    let labels = same_label_line all ball n e in
    let line = same_line all ball count n p q e a.0 b.0 both.0 in
    let more = same_lines all ball count (n + 1) ps qs e a.1 b.1 both.1 in
    ap (λ ls. ls ++ instruction_line all p ∷ listing_from all (n + 1) ps) labels
    ∙ ap (λ l. label_line ball n ++ l ∷ listing_from all (n + 1) ps) line
    ∙ ap (λ ls. label_line ball n ++ instruction_line ball q ∷ ls) more

no_offset_aim : (count number : ℕ) (m : Immediates) → IsNoOffset m → IsAimed count number m None
no_offset_aim count number (is.Offset n) h = absurd h
no_offset_aim count number is.Nothing h = refl
no_offset_aim count number (is.Index i) h = refl
no_offset_aim count number (is.Field f) h = refl
no_offset_aim count number (is.GroupField g f) h = refl
no_offset_aim count number (is.ArrayField f i) h = refl
no_offset_aim count number (is.GroupArrayField g f i) h = refl
no_offset_aim count number (is.Bounds s e) h = refl
no_offset_aim count number (is.UintBlock ns) h = refl
no_offset_aim count number (is.ByteBlock ss) h = refl
no_offset_aim count number (is.Uint n) h = refl
no_offset_aim count number (is.Bytes s) h = refl

encoded_aimed : (version : Version) (count place number : ℕ) (ms : List Meant) → AreMeant version count number ms → AreAimed count number (aimed_at place number ms)
encoded_aimed version count place number [] h = tt
encoded_aimed version count place number (Straight o m ∷ ms) h = (no_offset_aim count number m h.0.1, encoded_aimed version count (place + size (Straight o m)) (number + 1) ms h.1)
encoded_aimed version count place number (Branch o t ∷ ms) h = ((h.0.1, h.0.2), encoded_aimed version count (place + 3) (number + 1) ms h.1)

-- ---- the law

short_enough : (line : ℕ) (bytes : List ℕ) → length bytes ≤ most_program_bytes → short_program line bytes ≡ Ok bytes
short_enough line bytes le =
    let test : ltb most_program_bytes (length bytes) ≡ false = grind (arith, nat_tests) in
    rw test refl

assembled_as : (text : List ℕ) (m : Meaning) → meaning text ≡ Ok m → length (program m) ≤ most_program_bytes → assembled text ≡ Ok (program m)
unfolding assembled
assembled_as text m e short = rw e (short_enough (line_count text) (program m) short)

-- a program has one byte for its version, and the bytes of its instructions
pub program_length : (m : Meaning) → length (program m) ≡ 1 + total_size m.instructions
unfolding program
program_length m = ap suc (encoding_length 0 m.instructions) ∙ omega arith

-- the listing of a checked program assembles to a program with the same instructions
pub assembles_back : (bytes : List ℕ) (w : WellFormed) → IsBytes bytes → checked bytes ≡ Ok w → AssemblesBack w
assembles_back bytes w are e =
    let l = is_listed bytes w are e in
    let f = it_fits bytes w are e in
    let m = program_meaning w in
    let ms = map meant_of w.placed in
    let q = encoded_program m in
    let count : length w.placed ≡ length ms = sym (length-map meant_of w.placed) in
    let meant : AreMeant w.version (length ms) 0 ms = subst (λ n. AreMeant w.version n 0 ms) count (placed_meant w.version (length w.placed) 0 w.placed l.instructions l.targets) in
    let short : 1 + total_size ms ≤ most_program_bytes = omega (arith, f.0, f.1, meant_size (length w.placed) 0 w.placed l.targets) in
    let same : map meant_of (aimed_at 1 0 ms) ≡ ms = meant_back 1 0 ms in
    let cost : cost_of (aimed_at 1 0 ms) ≡ cost_of w.placed = sym (placed_cost (aimed_at 1 0 ms)) ∙ ap meant_cost same ∙ placed_cost w.placed in
    let aim : AreAimed (length ms) 0 w.placed = subst (λ n. AreAimed n 0 w.placed) count l.targets in
    let lines = same_lines (aimed_at 1 0 ms) w.placed (length ms) 0 (aimed_at 1 0 ms) w.placed same (encoded_aimed w.version (length ms) 1 0 ms meant) aim same in (
      q,
      record {
        assembles = assembled_as (listing w) m (listing_means w l) (omega (arith, program_length m, short));
        is_program = program_is_checked m meant short (omega (arith, cost, f.2));
        version = refl;
        instructions = same;
        cost = cost ∙ sym f.3;
        lists = ap (λ ls. text_of_lines (pragma_line w.version ∷ ls)) lines;
      },
    )
