-- The statements of a listing mean the program's instructions.
use Rattle.std.proofs.Common.{◌≡◌, ◌∙◌, refl, sym, ap, subst, ℕ, ◌+◌, ◌<◌, ◌≤◌, Bool, true, false, eqb, List, [], ◌∷◌, ◌++◌, length, map, Option, Some, None, Result, Ok, Err, inl, inr, arith}
use Rattle.std.specs.Prelude.{if◌then◌else◌, nat_le}
use Rattle.std.specs.Map.{lookup}
use Rattle.std.specs.Str.{bytes_eq}
use Rattle.std.proofs.lemmas.List.{append-nil}
use Rattle.std.proofs.lemmas.Bool.{cases_lt, or_right}
use Rattle.std.proofs.lemmas.Bool.Decides.{nat_tests}
use Rattle.teal_value.specs.Answer.{◌>>=◌}
use Rattle.teal_table.specs.declared.opcode.Opcode.{Opcode}
use Rattle.teal_code.specs.declared.instr.Immediates.{Immediates}
use Rattle.teal_code.specs.declared.instr.Immediates.TheVariants as is
use Rattle.teal_code.specs.Limits.{most_program_bytes}
use Rattle.teal_check.specs.declared.program.PlacedInstr.{PlacedInstr}
use Rattle.teal_dis.specs.Listing.{Word, leads_to, is_target, label_of, target_word}
use Rattle.teal_source.specs.declared.statement.Statement.{Statement}
use Rattle.teal_source.specs.declared.fault.AsmFault.{AsmFault}
use Rattle.teal_asm.specs.Meaning.{Meant, Straight, labels_from, gathered_blocks, instruction, instructions, all_instructions}
use Rattle.teal_laws.specs.Listed.{IsAimed, AreAimed, command_of}
use Rattle.teal_laws.specs.ListedMeaning.{meant_with, meant_of}
use Rattle.teal_laws.proofs.Labels.{bytes_same, labels_differ}
use Rattle.teal_laws.proofs.ListedStatements.{statements_if, line_behind, instruction_statement, listed, AreQuiet, quiet_gathers, listed_is_quiet}

-- ---- a label is found

abbrev entries_if : Bool → List PlacedInstr → ℕ → List (Word × ℕ)
entries_if b placed n = if b then (label_of placed n, n) ∷ [] else []

labels_behind : (b : Bool) (placed : List PlacedInstr) (line n : ℕ) (rest : List Statement) → labels_from n (statements_if b placed line n ++ rest) ≡ entries_if b placed n ++ labels_from n rest
unfolding labels_from
labels_behind true placed line n rest = let same : n + 0 ≡ n = omega arith in rw same refl
labels_behind false placed line n rest = refl

labels_next : (placed : List PlacedInstr) (line n : ℕ) (p : PlacedInstr) (rest : List Statement) → labels_from n (instruction_statement placed line p ∷ rest) ≡ labels_from (n + 1) rest
unfolding labels_from
labels_next placed line n p rest = refl

no_labels : (n : ℕ) → labels_from n [] ≡ []
unfolding labels_from
no_labels n = refl

here : (b : Bool) (placed : List PlacedInstr) (n : ℕ) (rest : List (Word × ℕ)) → b ≡ true → lookup (bytes_eq (label_of placed n)) (entries_if b placed n ++ rest) ≡ Some n
here true placed n rest e = rw (bytes_same (label_of placed n)) refl
here false placed n rest e = absurd cc

not_here : (b : Bool) (placed : List PlacedInstr) (n t : ℕ) (rest : List (Word × ℕ)) → is_target placed n ≡ b → n < t → t ≤ most_program_bytes → lookup (bytes_eq (label_of placed t)) (entries_if b placed n ++ rest) ≡ lookup (bytes_eq (label_of placed t)) rest
not_here true placed n t rest e lt le = rw (labels_differ placed n t lt le e) refl
not_here false placed n t rest e lt le = refl

label_found : (placed : List PlacedInstr) (t line n : ℕ) (ps : List PlacedInstr) → t ≤ most_program_bytes → is_target placed t ≡ true → n ≤ t → t ≤ n + length ps → lookup (bytes_eq (label_of placed t)) (labels_from n (listed placed line n ps)) ≡ Some t
label_found placed t line n [] le target low high =
    let same : n ≡ t = omega (arith, low, high) in
    let last : labels_from n (statements_if (is_target placed n) placed line n) ≡ entries_if (is_target placed n) placed n ++ [] =
    ap (labels_from n) (sym (append-nil (statements_if (is_target placed n) placed line n))) ∙ labels_behind (is_target placed n) placed line n [] ∙ ap (λ es. entries_if (is_target placed n) placed n ++ es) (no_labels n) in
    ap (lookup (bytes_eq (label_of placed t))) last
    ∙ subst (λ k. lookup (bytes_eq (label_of placed k)) (entries_if (is_target placed n) placed n ++ []) ≡ Some k) same (here (is_target placed n) placed n [] (ap (is_target placed) same ∙ target))
label_found placed t line n (p ∷ ps) le target low high =
    let b = is_target placed n in
    let at = line_behind placed line n in
    let more = listed placed (at + 1) (n + 1) ps in
    let split : labels_from n (listed placed line n (p ∷ ps)) ≡ entries_if b placed n ++ labels_from (n + 1) more =
    labels_behind b placed line n (instruction_statement placed at p ∷ more) ∙ ap (λ es. entries_if b placed n ++ es) (labels_next placed at n p more) in
    elim (cases_lt n t) [
      | inl lt ↦
          ap (lookup (bytes_eq (label_of placed t))) split
          ∙ not_here b placed n t (labels_from (n + 1) more) refl lt le
          ∙ label_found placed t (at + 1) (n + 1) ps le target (omega (arith, lt)) (omega (arith, high))
      | inr ge ↦
          let same : n ≡ t = omega (arith, low, ge) in
          ap (lookup (bytes_eq (label_of placed t))) split
          ∙ subst (λ k. lookup (bytes_eq (label_of placed k)) (entries_if b placed n ++ labels_from (n + 1) more) ≡ Some k) same (here b placed n (labels_from (n + 1) more) (ap (is_target placed) same ∙ target))
    ]

-- ---- instructions

-- all targets of the instructions have labels
abbrev HasLabel : List PlacedInstr → Option ℕ → Type 0
HasLabel placed None = Unit {0}
HasLabel placed (Some t) = is_target placed t ≡ true

-- the target of each branch among the instructions has a label
abbrev pub HaveLabels : List PlacedInstr → List PlacedInstr → Type 0
HaveLabels placed [] = Unit {0}
HaveLabels placed (p ∷ ps) = HasLabel placed p.target × HaveLabels placed ps

one_more_label : (q : PlacedInstr) (placed : List PlacedInstr) (t : Option ℕ) → HasLabel placed t → HasLabel (q ∷ placed) t
one_more_label q placed None h = tt
one_more_label q placed (Some t) h = rw h (or_right (leads_to t q) true refl)

more_labels : (q : PlacedInstr) (placed ps : List PlacedInstr) → HaveLabels placed ps → HaveLabels (q ∷ placed) ps
more_labels q placed [] h = tt
more_labels q placed (p ∷ ps) h = (one_more_label q placed p.target h.0, more_labels q placed ps h.1)

own_label : (p : PlacedInstr) (placed : List PlacedInstr) (t : Option ℕ) → p.target ≡ t → HasLabel (p ∷ placed) t
own_label p placed None e = tt
own_label p placed (Some t) e =
    let same : eqb t t ≡ true = grind (arith, nat_tests) in
    let leads : leads_to t p ≡ true = rw (e, same) refl in
    rw leads refl

pub have_labels : (placed : List PlacedInstr) → HaveLabels placed placed
have_labels [] = tt
have_labels (p ∷ ps) = (own_label p ps p.target refl, more_labels p ps ps (have_labels ps))

bind_same : (r : Result (List Meant) AsmFault) → (r >>= λ is. Ok ([] ++ is)) ≡ r
bind_same (Ok is) = refl
bind_same (Err f) = refl

behind_label : (b : Bool) (all : List Statement) (placed : List PlacedInstr) (line n : ℕ) (rest : List Statement) → instructions all n (statements_if b placed line n ++ rest) ≡ instructions all n rest
unfolding instructions
behind_label true all placed line n rest = let same : n + 0 ≡ n = omega arith in rw same (bind_same (instructions all n rest))
behind_label false all placed line n rest = refl

behind_instruction : (all : List Statement) (placed : List PlacedInstr) (line n : ℕ) (p : PlacedInstr) (rest : List Statement) (i : Meant) (is : List Meant)
    → instruction all n line (command_of p.instr.opcode (target_word placed p.target) p.instr.immediates) ≡ Ok i → instructions all (n + 1) rest ≡ Ok is → instructions all n (instruction_statement placed line p ∷ rest) ≡ Ok (i ∷ is)
unfolding instructions
behind_instruction all placed line n p rest i is e more = rw (e, more) refl

no_instructions : (all : List Statement) (n : ℕ) → instructions all n [] ≡ Ok []
unfolding instructions
no_instructions all n = refl

-- what the statements of a listing are looked up in
record AreFound (all : List Statement) (placed : List PlacedInstr) (count : ℕ) : Type 0 where
  blocks : gathered_blocks all ≡ []
  labels : (t : ℕ) → t ≤ count → is_target placed t ≡ true → lookup (bytes_eq (label_of placed t)) (labels_from 0 all) ≡ Some t

straight : (all : List Statement) (number line : ℕ) (o : Opcode) (m : Immediates) (t : Option ℕ) → t ≡ None → ◌≡◌ {A = Result Meant AsmFault} (Ok (Straight o m)) (Ok (meant_with t o m))
straight all number line o m t e = rw e refl

instruction_is : (all : List Statement) (placed : List PlacedInstr) (count number line : ℕ) (o : Opcode) (m : Immediates) (t : Option ℕ) → AreFound all placed count → IsAimed count number m t → HasLabel placed t
    → instruction all number line (command_of o (target_word placed t) m) ≡ Ok (meant_with t o m)
instruction_is all placed count number line o (is.Offset n) None found aim label = absurd aim
instruction_is all placed count number line o (is.Offset n) (Some t) found aim label =
    let behind : nat_le t number ≡ false = grind (arith, nat_tests, aim.0) in
    rw (found.blocks, found.labels t aim.1 label, behind) refl
instruction_is all placed count number line o is.Nothing t found aim label = straight all number line o is.Nothing t aim
instruction_is all placed count number line o (is.Index i) t found aim label = straight all number line o (is.Index i) t aim
instruction_is all placed count number line o (is.Field f) t found aim label = straight all number line o (is.Field f) t aim
instruction_is all placed count number line o (is.GroupField g f) t found aim label = straight all number line o (is.GroupField g f) t aim
instruction_is all placed count number line o (is.ArrayField f i) t found aim label = straight all number line o (is.ArrayField f i) t aim
instruction_is all placed count number line o (is.GroupArrayField g f i) t found aim label = straight all number line o (is.GroupArrayField g f i) t aim
instruction_is all placed count number line o (is.Bounds s e) t found aim label = straight all number line o (is.Bounds s e) t aim
instruction_is all placed count number line o (is.UintBlock ns) t found aim label = straight all number line o (is.UintBlock ns) t aim
instruction_is all placed count number line o (is.ByteBlock ss) t found aim label = straight all number line o (is.ByteBlock ss) t aim
instruction_is all placed count number line o (is.Uint n) t found aim label = straight all number line o (is.Uint n) t aim
instruction_is all placed count number line o (is.Bytes s) t found aim label = straight all number line o (is.Bytes s) t aim

instructions_are : (all : List Statement) (placed : List PlacedInstr) (count line n : ℕ) (ps : List PlacedInstr) → AreFound all placed count → AreAimed count n ps → HaveLabels placed ps → instructions all n (listed placed line n ps) ≡ Ok (map meant_of ps)
instructions_are all placed count line n [] found aim labels =
    ap (instructions all n) (sym (append-nil (statements_if (is_target placed n) placed line n))) ∙ behind_label (is_target placed n) all placed line n [] ∙ no_instructions all n
instructions_are all placed count line n (p ∷ ps) found aim labels =
    let at = line_behind placed line n in
    let more = listed placed (at + 1) (n + 1) ps in
    behind_label (is_target placed n) all placed line n (instruction_statement placed at p ∷ more)
    ∙ behind_instruction all placed at n p more (meant_of p) (map meant_of ps)
    (instruction_is all placed count n at p.instr.opcode p.instr.immediates p.target found aim.0 labels.0)
    (instructions_are all placed count (at + 1) (n + 1) ps found aim.1 labels.1)

no_blocks : (ss : List Statement) → AreQuiet ss → gathered_blocks ss ≡ []
no_blocks ss quiet = let gathers = quiet_gathers ss quiet in rw (gathers.0, gathers.1) refl

-- the statements of a listing mean the instructions of the program
pub all_instructions_are : (placed : List PlacedInstr) (line : ℕ) → length placed ≤ most_program_bytes → AreAimed (length placed) 0 placed → all_instructions (listed placed line 0 placed) ≡ Ok (map meant_of placed)
all_instructions_are placed line few aim =
    let all = listed placed line 0 placed in
    let none = no_blocks all (listed_is_quiet placed line 0 placed) in
    let found : AreFound all placed (length placed) = record {
      blocks = none;
      labels = λ t le target. label_found placed t line 0 placed (omega (arith, le, few)) target (omega arith) (omega (arith, le));
    } in
    let is = instructions_are all placed (length placed) line 0 placed found aim (have_labels placed) in
    rw (none, is) refl
