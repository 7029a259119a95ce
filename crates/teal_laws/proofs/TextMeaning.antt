-- What a text means is instructions of its version, and a program that it encodes means the same.
use Rattle.std.proofs.Common.{◌≡◌, ◌∙◌, refl, sym, ap, subst, ℕ, suc, ◌+◌, ◌<◌, ◌≤◌, ◌^◌, Bool, true, false, cond, eqb, ltb, List, [], ◌∷◌, ◌++◌, length, length-append, Option, Some, None, Result, Ok, Err, inl, inr, arith}
use Rattle.std.specs.Prelude.{◌↔◌, IfErr, nat_le, nat_eq}
use Rattle.std.specs.List.{list_any, flat_map, position_or_len}
use Rattle.std.specs.Map.{lookup}
use Rattle.std.specs.Str.{bytes_eq}
use Rattle.std.proofs.lemmas.Bool.{ltb-true, ltb-false, lt-ltb}
use Rattle.std.proofs.lemmas.Bool.Decides.{nat_tests}
use Rattle.base64.specs.GeneralPurpose.{IsBytes}
use Rattle.teal_value.proofs.Binding.{bind_ok, chosen}
use Rattle.teal_table.specs.declared.shape.Shape.TheVariants as shape
use Rattle.teal_table.specs.declared.shape.Version.{Version}
use Rattle.teal_table.specs.declared.opcode.Opcode.{Opcode}
use Rattle.teal_table.specs.declared.opcode.Opcode.TheVariants as op
use Rattle.teal_table.specs.Table.{row_of, has}
use Rattle.teal_code.specs.declared.instr.Immediates.TheVariants as is
use Rattle.teal_code.specs.Limits.{most_program_bytes, most_cost}
use Rattle.teal_check.specs.declared.fault.CheckFault.{CheckFault}
use Rattle.teal_check.specs.declared.fault.CheckFault.TheVariants as fault
use Rattle.teal_check.specs.declared.program.PlacedInstr.{PlacedInstr}
use Rattle.teal_check.specs.WellFormed.{WellFormed, cost_of, affordable, checked}
use Rattle.teal_dis.specs.Listing.{listing}
use Rattle.teal_text.specs.Lines.{lines_of}
use Rattle.teal_source.specs.declared.statement.Statement.{Statement}
use Rattle.teal_source.specs.declared.command.Command.{Command}
use Rattle.teal_source.specs.declared.command.Command.TheVariants.{Int, Byte, Jump, Plain}
use Rattle.teal_source.specs.declared.fault.AsmFaultKind.{AsmFaultKind}
use Rattle.teal_source.specs.Operands.{Word}
use Rattle.teal_source.specs.Commands.{command}
use Rattle.teal_source.specs.Statements.{Words, on_line, on_text, words_of_lines, pragma_version, is_pragma, gathered_uint, gathered_uints, gathered_strings, with_new, distinct, mixes_blocks, gathers_too_many, behind, has_label, label_name, optional_command, labelled, statement, statements}
use Rattle.teal_asm.specs.Thinned.{command_count}
use Rattle.teal_asm.specs.Meaning.{Meant, Straight, Branch, Meaning, commands_in, label_entry, labels_from, label_number, uint_block_in_front, byte_block_in_front, gathered_blocks, read_uint_constant, read_byte_constant, branch, instruction, optional_instruction, instructions, all_instructions, meaning_of_lines, meaning}
use Rattle.teal_asm.specs.Program.{total_size, instruction_encoding, encoding, program, short_program, line_count, assembled}
use Rattle.teal_laws.specs.Listed.{AreUints, HasShape}
use Rattle.teal_laws.specs.Listed as listed
use Rattle.teal_laws.specs.ListedMeaning.{IsNoOffset, program_meaning, IsMeant, AreMeant}
use Rattle.teal_laws.specs.TextCost.{meant_cost}
use Rattle.teal_laws.proofs.Bytes.{AreBytes, are_each}
use Rattle.teal_laws.proofs.Forms.{HasForm}
use Rattle.teal_laws.proofs.Forms as form
use Rattle.teal_laws.proofs.TextCommands.{IsAsked, command_asked, ok_same, shape_of, two_has}
use Rattle.teal_laws.proofs.PlacedInstructions.{is_listed}
use Rattle.teal_laws.proofs.Encodings.{front_bytes}
use Rattle.teal_laws.proofs.EncodedPrograms.{aimed_at, program_checks, meant_back}
use Rattle.teal_laws.proofs.AssembledListing.{placed_cost, program_length}
use Rattle.teal_laws.proofs.ListingMeaning.{listing_means}

-- ---- statements

abbrev IsAskedOf : Version → Option Command → Type 0
IsAskedOf version None = Unit {0}
IsAskedOf version (Some c) = IsAsked version c

abbrev AreAsked : Version → List Statement → Type 0
AreAsked version [] = Unit {0}
AreAsked version (s ∷ ss) = IsAskedOf version s.command × AreAsked version ss

one_more_asked : (version : Version) (ss : List Statement) (s : Statement) → AreAsked version ss → IsAskedOf version s.command → AreAsked version (ss ++ s ∷ [])
one_more_asked version [] s h k = (k, tt)
one_more_asked version (t ∷ ss) s h k = (h.0, one_more_asked version ss s h.1 k)

behind_same : (before : List Statement) (s t : Statement) → behind before s ≡ Ok t → s ≡ t
behind_same before s t e =
    elim (chosen (mixes_blocks (before ++ s ∷ [])) _ _ _ e) [
      | inl (mixed, bad) ↦ absurd cc
      | inr (pure, more) ↦ elim (chosen (gathers_too_many (before ++ s ∷ [])) _ _ _ more) [
        | inl (many, bad) ↦ absurd cc
        | inr (few, one) ↦ ok_same one
      ]
    ]

optional_asked : (version : Version) (ws : List Word) (c : Option Command) → optional_command version ws ≡ Ok c → IsAskedOf version c
optional_asked version [] c e = subst (IsAskedOf version) (ok_same e) tt
optional_asked version (name ∷ ws) c e =
    let (d, first, last) = bind_ok (command version name ws) _ _ e in
    subst (IsAskedOf version) (ok_same last) (command_asked version name ws d first)

labelled_asked : (version : Version) (before : List Statement) (line : ℕ) (label : Option Word) (w : Word) (ws : List Word) (s : Statement) → labelled version before line label w ws ≡ Ok s → IsAskedOf version s.command
labelled_asked version before line None w ws s e =
    let (c, first, last) = bind_ok (command version w ws) _ _ e in
    subst (λ (x : Statement). IsAskedOf version x.command) (behind_same before _ s last) (command_asked version w ws c first)
labelled_asked version before line (Some name) w ws s e =
    elim (chosen (list_any (has_label name) before) _ _ _ e) [
      | inl (twice, bad) ↦ absurd cc
      | inr (once, more) ↦
          let (c, first, last) = bind_ok (optional_command version ws) _ _ more in
          subst (λ (x : Statement). IsAskedOf version x.command) (behind_same before _ s last) (optional_asked version ws c first)
    ]

statement_asked : (version : Version) (before : List Statement) (l : Words) (s : Statement) → statement version before l ≡ Ok s → IsAskedOf version s.command
unfolding statement
statement_asked version before l s e =
    elim (chosen (is_pragma l.first) _ _ _ e) [
      | inl (pragma, bad) ↦ absurd cc
      | inr (other, more) ↦ labelled_asked version before l.line (label_name l.first) l.first l.more s more
    ]

on_line_ok : {A : Type 0} (line : ℕ) (r : Result A AsmFaultKind) (x : A) → on_line line r ≡ Ok x → r ≡ Ok x
on_line_ok line (Ok y) x e = let same : y ≡ x = cc in ap (λ z. Ok z) same
on_line_ok line (Err k) x e = absurd cc

statements_asked : (version : Version) (before : List Statement) (ls : List Words) (ss : List Statement) → statements version before ls ≡ Ok ss → AreAsked version before → AreAsked version ss
unfolding statements
statements_asked version before [] ss e h = subst (AreAsked version) (ok_same e) h
statements_asked version before (l ∷ ls) ss e h =
    let (s, first, more) = bind_ok (on_line l.line (statement version before l)) _ _ e in
    statements_asked version (before ++ s ∷ []) ls ss more (one_more_asked version before s h (statement_asked version before l s (on_line_ok l.line _ s first)))

-- ---- gathered constants

uints_both : (a b : List ℕ) → AreUints a → AreUints b → AreUints (a ++ b)
uints_both [] b h k = k
uints_both (n ∷ a) b h k = (h.0, uints_both a b h.1 k)

one_uint : (version : Version) (c : Option Command) → IsAskedOf version c → AreUints (gathered_uint c)
one_uint version None h = tt
one_uint version (Some (Int n)) h = (h, tt)
one_uint version (Some (Byte s)) h = tt
one_uint version (Some (Jump o name)) h = tt
one_uint version (Some (Plain o m)) h = tt

all_uints : (version : Version) (ss : List Statement) → AreAsked version ss → AreUints (flat_map (λ (s : Statement). gathered_uint s.command) ss)
all_uints version [] h = tt
all_uints version (s ∷ ss) h = uints_both (gathered_uint s.command) _ (one_uint version s.command h.0) (all_uints version ss h.1)

new_uint : (seen : List ℕ) (n : ℕ) → AreUints seen → n < 2 ^ 64 → AreUints (with_new nat_eq seen n)
new_uint seen n h lt = elim (list_any (nat_eq n) seen) as (λ b. AreUints (cond b seen (seen ++ n ∷ []))) [ true ↦ h | false ↦ uints_both seen (n ∷ []) h (lt, tt) ]

distinct_uints : (seen xs : List ℕ) → AreUints seen → AreUints xs → AreUints (distinct nat_eq seen xs)
distinct_uints seen [] h k = h
distinct_uints seen (x ∷ xs) h k = distinct_uints (with_new nat_eq seen x) xs (new_uint seen x h k.0) k.1

-- ---- instructions

-- an instruction as a text means it, but for the sizes of bytes
abbrev IsLoose : Version → ℕ → ℕ → Meant → Type 0
IsLoose version count number (Straight o m) = (has version (row_of o).version ≡ true) × HasForm version (row_of o).immediates m × IsNoOffset m
IsLoose version count number (Branch o target) = (has version (row_of o).version ≡ true) × ((row_of o).immediates ≡ shape.Offset) × (number < target) × (target ≤ count)

abbrev AreLoose : Version → ℕ → ℕ → List Meant → Type 0
AreLoose version count number [] = Unit {0}
AreLoose version count number (m ∷ ms) = IsLoose version count number m × AreLoose version count (number + 1) ms

loose-append : (version : Version) (count number : ℕ) (a b : List Meant) → AreLoose version count number a → AreLoose version count (number + length a) b → AreLoose version count number (a ++ b)
loose-append version count number [] b h k = let same : number + 0 ≡ number = omega arith in subst (λ n. AreLoose version count n b) same k
loose-append version count number (m ∷ a) b h k =
    let same : number + suc (length a) ≡ number + 1 + length a = omega arith in
    (h.0, loose-append version count (number + 1) a b h.1 (subst (λ n. AreLoose version count n b) same k))

choice : (version : Version) (count number : ℕ) (b : Bool) (x y : Meant) → IsLoose version count number x → IsLoose version count number y → IsLoose version count number (cond b x y)
choice version count number true x y h k = h
choice version count number false x y h k = k

read_uint : (version : Version) (count number i : ℕ) → IsLoose version count number (read_uint_constant i)
unfolding row_of
read_uint version count number i =
    let there = two_has version in
    choice version count number (eqb i 0) _ _ (there, form.nothing, tt) (choice version count number (eqb i 1) _ _ (there, form.nothing, tt)
    (choice version count number (eqb i 2) _ _ (there, form.nothing, tt) (choice version count number (eqb i 3) _ _ (there, form.nothing, tt) (there, form.index, tt))))

read_byte : (version : Version) (count number i : ℕ) → IsLoose version count number (read_byte_constant i)
unfolding row_of
read_byte version count number i =
    let there = two_has version in
    choice version count number (eqb i 0) _ _ (there, form.nothing, tt) (choice version count number (eqb i 1) _ _ (there, form.nothing, tt)
    (choice version count number (eqb i 2) _ _ (there, form.nothing, tt) (choice version count number (eqb i 3) _ _ (there, form.nothing, tt) (there, form.index, tt))))

uint_block_loose : (version : Version) (count number : ℕ) (ns : List ℕ) → AreUints ns → AreLoose version count number (uint_block_in_front ns)
unfolding row_of
uint_block_loose version count number ns h = elim (eqb (length ns) 0) as (λ b. AreLoose version count number (cond b [] (Straight op.Intcblock (is.UintBlock ns) ∷ []))) [
  | true ↦ tt
  | false ↦ ((two_has version, form.uints h, tt), tt)
]

byte_block_loose : (version : Version) (count number : ℕ) (ss : List (List ℕ)) → AreLoose version count number (byte_block_in_front ss)
unfolding row_of
byte_block_loose version count number ss = elim (eqb (length ss) 0) as (λ b. AreLoose version count number (cond b [] (Straight op.Bytecblock (is.ByteBlock ss) ∷ []))) [
  | true ↦ tt
  | false ↦ ((two_has version, form.strings, tt), tt)
]

blocks_loose : (version : Version) (count : ℕ) (ss : List Statement) → AreAsked version ss → AreLoose version count 0 (gathered_blocks ss)
blocks_loose version count ss h =
    loose-append version count 0 (uint_block_in_front (gathered_uints ss)) (byte_block_in_front (gathered_strings ss))
    (uint_block_loose version count 0 (gathered_uints ss) (distinct_uints [] (flat_map (λ (s : Statement). gathered_uint s.command) ss) tt (all_uints version ss h)))
    (byte_block_loose version count (0 + length (uint_block_in_front (gathered_uints ss))) (gathered_strings ss))

-- a label stands before an instruction, or before the end
label_within : (p : Word → Bool) (n : ℕ) (ss : List Statement) (t : ℕ) → lookup p (labels_from n ss) ≡ Some t → t ≤ n + command_count ss
unfolding labels_from
label_within p n [] t e = absurd cc
label_within p n (s ∷ ss) t e = first s.label (label_within p (n + commands_in s.command) ss t) e where
  first : (label : Option Word) → (lookup p (labels_from (n + commands_in s.command) ss) ≡ Some t → t ≤ n + commands_in s.command + command_count ss)
      → lookup p (label_entry label n ++ labels_from (n + commands_in s.command) ss) ≡ Some t → t ≤ n + (commands_in s.command + command_count ss)
  first None later f = omega (arith, later f)
  first (Some name) later f =
      elim (chosen (p name) _ _ _ f) [
        | inl (here, one) ↦ let same : n ≡ t = cc in omega (arith, same)
        | inr (other, more) ↦ omega (arith, later more)
      ]

branch_loose : (version : Version) (count number line : ℕ) (o : Opcode) (found : Option ℕ) (i : Meant) → (has version (row_of o).version ≡ true) → ((row_of o).immediates ≡ shape.Offset) → ((t : ℕ) → found ≡ Some t → t ≤ count) → branch line o number found ≡ Ok i → IsLoose version count number i
branch_loose version count number line o None i there shaped within e = absurd cc
branch_loose version count number line o (Some t) i there shaped within e =
    elim (chosen (nat_le t number) _ _ _ e) [
      | inl (back, bad) ↦ absurd cc
      | inr (onward, one) ↦
          let ahead : number < t = grind (arith, nat_tests) in
          subst (IsLoose version count number) (ok_same one) (there, shaped, ahead, within t refl)
    ]

instruction_loose : (version : Version) (all : List Statement) (count number line : ℕ) (c : Command) (i : Meant) → ((name : Word) (t : ℕ) → label_number (length (gathered_blocks all)) all name ≡ Some t → t ≤ count) → IsAsked version c → instruction all number line c ≡ Ok i → IsLoose version count number i
instruction_loose version all count number line (Int n) i within h e = subst (IsLoose version count number) (ok_same e) (read_uint version count number (position_or_len (nat_eq n) (gathered_uints all)))
instruction_loose version all count number line (Byte s) i within h e = subst (IsLoose version count number) (ok_same e) (read_byte version count number (position_or_len (bytes_eq s) (gathered_strings all)))
instruction_loose version all count number line (Jump o name) i within h e = branch_loose version count number line o (label_number (length (gathered_blocks all)) all name) i h.0 h.1 (within name) e
instruction_loose version all count number line (Plain o m) i within h e = subst (IsLoose version count number) (ok_same e) h

optional_loose : (version : Version) (all : List Statement) (count number line : ℕ) (c : Option Command) (is : List Meant) → ((name : Word) (t : ℕ) → label_number (length (gathered_blocks all)) all name ≡ Some t → t ≤ count) → IsAskedOf version c → optional_instruction all number line c ≡ Ok is
    → AreLoose version count number is × (length is ≡ commands_in c)
optional_loose version all count number line None is within h e = subst (λ js. AreLoose version count number js × (length js ≡ 0)) (ok_same e) (tt, refl)
optional_loose version all count number line (Some c) is within h e =
    let (i, first, last) = bind_ok (instruction all number line c) _ _ e in
    subst (λ js. AreLoose version count number js × (length js ≡ 1)) (ok_same last) ((instruction_loose version all count number line c i within h first, tt), refl)

instructions_loose : (version : Version) (all : List Statement) (count number : ℕ) (ss : List Statement) (is : List Meant) → ((name : Word) (t : ℕ) → label_number (length (gathered_blocks all)) all name ≡ Some t → t ≤ count) → AreAsked version ss → instructions all number ss ≡ Ok is
    → AreLoose version count number is × (length is ≡ command_count ss)
unfolding instructions
instructions_loose version all count number [] is within h e = subst (λ js. AreLoose version count number js × (length js ≡ 0)) (ok_same e) (tt, refl)
instructions_loose version all count number (s ∷ ss) is within h e =
    let (i, first, others) = bind_ok (optional_instruction all number s.line s.command) _ _ e in
    let (js, more, last) = bind_ok (instructions all (number + commands_in s.command) ss) _ _ others in
    let one = optional_loose version all count number s.line s.command i within h.0 first in
    let rest = instructions_loose version all count (number + commands_in s.command) ss js within h.1 more in
    let onward : AreLoose version count (number + length i) js = subst (λ n. AreLoose version count (number + n) js) (sym one.1) rest.0 in
    let long : length (i ++ js) ≡ commands_in s.command + command_count ss = length-append i js ∙ omega (arith, one.1, rest.1) in
    subst (λ ks. AreLoose version count number ks × (length ks ≡ command_count (s ∷ ss))) (ok_same last) (loose-append version count number i js one.0 onward, long)

all_loose : (version : Version) (ss : List Statement) (is : List Meant) → AreAsked version ss → all_instructions ss ≡ Ok is → AreLoose version (length is) 0 is
all_loose version ss is h e =
    let blocks = gathered_blocks ss in
    let (js, first, last) = bind_ok (instructions ss (length blocks) ss) _ _ e in
    let count = length blocks + command_count ss in
    let rest = instructions_loose version ss count (length blocks) ss js (λ name t found. label_within (bytes_eq name) (length blocks) ss t found) h first in
    let start : length blocks ≡ 0 + length blocks = omega arith in
    let whole = loose-append version count 0 blocks js (blocks_loose version count ss h) (subst (λ n. AreLoose version count n js) start rest.0) in
    let long : count ≡ length (blocks ++ js) = omega (arith, length-append blocks js, rest.1) in
    subst (λ ks. AreLoose version (length ks) 0 ks) (ok_same last) (subst (λ n. AreLoose version n 0 (blocks ++ js)) long whole)

meaning_loose : (text : List ℕ) (m : Meaning) → meaning text ≡ Ok m → AreLoose m.version (length m.instructions) 0 m.instructions
unfolding meaning
meaning_loose text m e =
    let (ls, read, more) = bind_ok (on_text (lines_of text)) _ _ e in
    lines_loose (words_of_lines text ls) more where
      lines_loose : (ws : List Words) → meaning_of_lines ws ≡ Ok m → AreLoose m.version (length m.instructions) 0 m.instructions
      lines_loose [] f = absurd cc
      lines_loose (l ∷ ls) f =
          let (version, named, others) = bind_ok (pragma_version l) _ _ f in
          let (ss, said, rest) = bind_ok (statements version [] ls) _ _ others in
          let (is, all, last) = bind_ok (all_instructions ss) _ _ rest in
          let loose = all_loose version ss is (statements_asked version [] ls ss said tt) all in
          subst (λ (x : Meaning). AreLoose x.version (length x.instructions) 0 x.instructions) (ok_same last) loose

-- ---- with bytes

one_meant : (version : Version) (count number : ℕ) (m : Meant) (rest : List Meant) → IsLoose version count number m → AreBytes (instruction_encoding number m rest) → IsMeant version count number m
one_meant version count number (Straight o m) rest h bytes = (record { opcode = h.0; immediates = shape_of version h.1 bytes.1 }, h.2)
one_meant version count number (Branch o t) rest h bytes = (λ n. record { opcode = h.0; immediates = subst (λ s. HasShape version s (is.Offset n)) (sym h.1) listed.offset }, h.2, h.3)

all_meant : (version : Version) (count number : ℕ) (ms : List Meant) → AreLoose version count number ms → AreBytes (encoding number ms) → AreMeant version count number ms
unfolding encoding
all_meant version count number [] h bytes = tt
all_meant version count number (m ∷ ms) h bytes =
    let both = front_bytes (instruction_encoding number m ms) (encoding (number + 1) ms) bytes in
    (one_meant version count number m ms h.0 both.0, all_meant version count (number + 1) ms h.1 both.1)

encoded_bytes : (m : Meaning) → AreBytes (program m) → AreBytes (encoding 0 m.instructions)
unfolding program
encoded_bytes m h = h.1

-- ---- the law

short_is : (line : ℕ) (bytes program : List ℕ) → short_program line bytes ≡ Ok program → (bytes ≡ program) × (length bytes ≤ most_program_bytes)
short_is line bytes program e =
    elim (chosen (ltb most_program_bytes (length bytes)) _ _ _ e) [
      | inl (long, bad) ↦ absurd cc
      | inr (short, one) ↦ (ok_same one, ltb-false most_program_bytes (length bytes) short)
    ]

afforded_meaning : (m : Meaning) (w : WellFormed) → affordable m.version (program m) (aimed_at 1 0 m.instructions) ≡ Ok w → program_meaning w ≡ m
afforded_meaning m w e =
    elim (chosen (ltb most_cost (cost_of (aimed_at 1 0 m.instructions))) _ _ _ e) [
      | inl (dear, bad) ↦ absurd cc
      | inr (cheap, one) ↦ ap program_meaning (sym (ok_same one)) ∙ ap (λ is. record { version = m.version; instructions = is }) (meant_back 1 0 m.instructions)
    ]

-- what the assembler gives is checked as the program that the text means
assembled_checks : (text bytes : List ℕ) → IsBytes bytes → assembled text ≡ Ok bytes → (m : Meaning) × (meaning text ≡ Ok m) × (checked bytes ≡ affordable m.version (program m) (aimed_at 1 0 m.instructions))
unfolding assembled
assembled_checks text bytes are e =
    let (m, means, last) = bind_ok (meaning text) _ _ e in
    let s = short_is (line_count text) (program m) bytes last in
    let in_bytes : AreBytes (program m) = subst AreBytes (sym s.0) (are_each bytes are) in
    let meant = all_meant m.version (length m.instructions) 0 m.instructions (meaning_loose text m means) (encoded_bytes m in_bytes) in
    let short : 1 + total_size m.instructions ≤ most_program_bytes = omega (arith, program_length m, s.1) in
    (m, means, ap checked (sym s.0) ∙ program_checks m meant short)

-- a text means what its program means, where the checker accepts that
pub text_means : (text bytes : List ℕ) (w : WellFormed) → IsBytes bytes → assembled text ≡ Ok bytes → checked bytes ≡ Ok w → meaning text ≡ Ok (program_meaning w)
text_means text bytes w are e c =
    let (m, means, checks) = assembled_checks text bytes are e in
    means ∙ ap (λ x. Ok x) (sym (afforded_meaning m w (sym checks ∙ c)))

-- the listing of the program that a text assembles to means the same as the text
pub same_meaning : (text bytes : List ℕ) (w : WellFormed) → IsBytes bytes → assembled text ≡ Ok bytes → checked bytes ≡ Ok w → meaning (listing w) ≡ meaning text
same_meaning text bytes w are e c = listing_means w (is_listed bytes w are c) ∙ sym (text_means text bytes w are e c)

-- ---- its cost

aimed_cost : (m : Meaning) → cost_of (aimed_at 1 0 m.instructions) ≡ meant_cost m.instructions
aimed_cost m = sym (placed_cost (aimed_at 1 0 m.instructions)) ∙ ap meant_cost (meant_back 1 0 m.instructions)

only_dear : (version : Version) (bytes : List ℕ) (ps : List PlacedInstr) → IfErr (affordable version bytes ps) (λ f. f ≡ fault.Cost)
only_dear version bytes ps = elim (ltb most_cost (cost_of ps)) as (λ b. IfErr {T = WellFormed} {E = CheckFault} (cond b (Err fault.Cost) (Ok (record { version = version; bytes = bytes; placed = ps; cost = cost_of ps }))) (λ f. f ≡ fault.Cost)) [ true ↦ refl | false ↦ tt ]

-- the checker refuses the program of a text only for its cost
pub only_cost : (text bytes : List ℕ) → IsBytes bytes → assembled text ≡ Ok bytes → IfErr (checked bytes) (λ f. f ≡ fault.Cost)
only_cost text bytes are e =
    let (m, means, checks) = assembled_checks text bytes are e in
    subst (λ (r : Result WellFormed CheckFault). IfErr r (λ f. f ≡ fault.Cost)) (sym checks) (only_dear m.version (program m) (aimed_at 1 0 m.instructions))

dear_is : (version : Version) (bytes : List ℕ) (ps : List PlacedInstr) → (affordable version bytes ps ≡ Err fault.Cost) ↔ (most_cost < cost_of ps)
dear_is version bytes ps = (
  λ e. elim (chosen (ltb most_cost (cost_of ps)) _ _ _ e) [ inl (more, bad) ↦ ltb-true most_cost (cost_of ps) more | inr (fits, one) ↦ absurd cc ],
  λ more. let test : ltb most_cost (cost_of ps) ≡ true = lt-ltb most_cost (cost_of ps) more in rw test refl,
)

-- the program of a text is refused for its cost exactly where its instructions cost too much
pub dear : (text bytes : List ℕ) (m : Meaning) → IsBytes bytes → assembled text ≡ Ok bytes → meaning text ≡ Ok m → (checked bytes ≡ Err fault.Cost) ↔ (most_cost < meant_cost m.instructions)
dear text bytes m are e means =
    let (n, meant, checks) = assembled_checks text bytes are e in
    let same : n ≡ m = ok_same (sym meant ∙ means) in
    let is = dear_is n.version (program n) (aimed_at 1 0 n.instructions) in
    let cost : cost_of (aimed_at 1 0 n.instructions) ≡ meant_cost m.instructions = aimed_cost n ∙ ap (λ (x : Meaning). meant_cost x.instructions) same in
    (λ fault. subst (λ k. most_cost < k) cost (is.0 (sym checks ∙ fault)), λ more. checks ∙ is.1 (subst (λ k. most_cost < k) (sym cost) more))
