-- The program that a text means is of bytes, where the text is.
use Rattle.std.proofs.Common.{◌≡◌, ℕ, suc, ◌+◌, ◌-◌, ◌<◌, ◌≤◌, Bool, true, false, not, cond, eqb, ltb, List, [], ◌∷◌, ◌++◌, length, take, drop, map, Option, Some, None, Result, Ok, Err, refl, ap, subst, arith, inl, inr, ◌⊎◌}
use Rattle.std.specs.Prelude.{All, ◌||◌, nat_eq, nat_le}
use Rattle.std.specs.Int.{to_be_bytes, w16}
use Rattle.std.specs.List.{flat_map, list_any, position_or_len}
use Rattle.std.specs.Str.{bytes_eq}
use Rattle.std.proofs.lemmas.Bool.{eq-eqb, ltb-false, or_parts}
use Rattle.std.proofs.lemmas.List.Elements.{All-nil, All-cons, All-append, All-drop, All-head, All-push, All-tail, All-take}
use Rattle.std.proofs.lemmas.Slice.Eq.{bytes_eq-Decides}
use Rattle.teal_value.proofs.Binding.{chosen}
use Rattle.teal_table.specs.declared.opcode.Opcode.{Opcode}
use Rattle.teal_table.specs.declared.opcode.Opcode.TheVariants as op
use Rattle.teal_table.specs.declared.shape.Version.{Version}
use Rattle.teal_table.specs.declared.shape.Version.TheVariants.{Two, Three}
use Rattle.teal_table.specs.Table.{code_of}
use Rattle.teal_code.specs.declared.instr.Immediates.TheVariants as is
use Rattle.teal_code.specs.Encoding.{immediates_encoding}
use Rattle.teal_text.specs.declared.token.Token.{Token}
use Rattle.teal_text.specs.Lines.{LineTokens, lines_of}
use Rattle.teal_source.specs.declared.command.Command.{Command}
use Rattle.teal_source.specs.declared.command.Command.TheVariants.{Int, Byte, Jump, Plain}
use Rattle.teal_source.specs.declared.fault.AsmFaultKind.{AsmFaultKind}
use Rattle.teal_source.specs.declared.statement.Statement.{Statement}
use Rattle.teal_source.specs.Operands.{Word}
use Rattle.teal_source.specs.Commands.{command}
use Rattle.teal_source.specs.Statements.{Words, behind, distinct, gathered_string, gathered_strings, gathered_uint, gathered_uints, gathers_too_many, has_label, is_pragma, label_name, labelled, mixes_blocks, on_line, on_text, optional_command, pragma_version, statement, statements, with_new, word_at, words_of_line, words_of_lines, words_on}
use Rattle.teal_asm.specs.Meaning.{Meaning, Meant, Straight, Branch, all_instructions, branch, byte_block_in_front, gathered_blocks, instruction, instructions, label_number, meaning, meaning_of_lines, optional_instruction, read_byte_constant, read_uint_constant, uint_block_in_front, commands_in}
use Rattle.teal_asm.specs.Program.{assembled, instruction_encoding, program, encoding, total_size, version_byte}
use Rattle.avm_rule_laws.specs.Rules.{AreBytes}
use Rattle.json_laws.proofs.AcceptedSteps.{from, same_value}
use Rattle.json_laws.proofs.AssembledCommands.{AreFit, IsFitCommand, code_is_byte, command_fits, immediates_are}
use Rattle.json_laws.proofs.EncodedBytes.{number}

-- ---- the words of a text

-- the words of a line, of bytes
record AreWords (l : Words) : Type 0 where
  first : AreBytes l.first
  more : All AreBytes l.more

each_word : (text : List ℕ) (ts : List Token) → AreBytes text → All AreBytes (map (word_at text) ts)
each_word text [] all = All-nil AreBytes
each_word text (t ∷ ts) all =
    All-cons AreBytes (word_at text t) (map (word_at text) ts) (All-take (λ x. x < 256) (t.end - t.start) (drop t.start text) (All-drop (λ x. x < 256) t.start text all)) (each_word text ts all)

on_one : (line : ℕ) (ws : List Word) → All AreBytes ws → All AreWords (words_on line ws)
on_one line [] all = All-nil AreWords
on_one line (w ∷ ws) all = All-cons AreWords (record { line = line; first = w; more = ws }) [] (record { first = All-head AreBytes w ws all; more = All-tail AreBytes w ws all }) (All-nil AreWords)

words_are : (text : List ℕ) (ls : List LineTokens) → AreBytes text → All AreWords (words_of_lines text ls)
words_are text [] all = All-nil AreWords
words_are text (l ∷ ls) all = All-append AreWords (words_of_line text l) (words_of_lines text ls) (on_one l.number (map (word_at text) l.tokens) (each_word text l.tokens all)) (words_are text ls all)

-- ---- statements

-- a command, if there is one, whose immediates are of bytes
abbrev IsFitIfThere : Option Command → Type 0
IsFitIfThere None = Unit {0}
IsFitIfThere (Some c) = IsFitCommand c

-- a statement whose command is such
abbrev IsFitStatement : Statement → Type 0
IsFitStatement s = IsFitIfThere s.command

-- a statement, and that there are not too many constants with it
record IsBehind (before : List Statement) (s : Statement) : Type 0 where
  fits : IsFitStatement s
  few : gathers_too_many (before ++ s ∷ []) ≡ false

behind_is : (before : List Statement) (s t : Statement) → IsFitStatement s → behind before s ≡ Ok t → IsBehind before t
behind_is before s t fits e =
    elim (chosen (mixes_blocks (before ++ s ∷ [])) _ _ _ e) [
      | inl (mixed, bad) ↦ absurd cc
      | inr (pure, more) ↦ elim (chosen (gathers_too_many (before ++ s ∷ [])) _ _ _ more) [
        | inl (many, bad) ↦ absurd cc
        | inr (few, one) ↦ subst (IsBehind before) (same_value s t one) (record { fits = fits; few = few })
      ]
    ]

optional_fits : (version : Version) (ws : List Word) (c : Option Command) → All AreBytes ws → optional_command version ws ≡ Ok c → IsFitIfThere c
optional_fits version [] c all e = subst IsFitIfThere (same_value {A = Option Command} {F = AsmFaultKind} None c e) tt
optional_fits version (name ∷ ws) c all e =
    from (command version name ws) _ c e (λ d ed e1. subst IsFitIfThere (same_value (Some d) c e1) (command_fits version name ws d (All-tail AreBytes name ws all) ed))

labelled_is : (version : Version) (before : List Statement) (line : ℕ) (label : Option Word) (w : Word) (ws : List Word) (s : Statement) → All AreBytes ws → labelled version before line label w ws ≡ Ok s → IsBehind before s
labelled_is version before line None w ws s all e =
    from (command version w ws) _ s e (λ c ec e1. behind_is before (record { line = line; label = None; command = Some c }) s (command_fits version w ws c all ec) e1)
labelled_is version before line (Some name) w ws s all e =
    elim (chosen (list_any (has_label name) before) _ _ _ e) [
      | inl (twice, bad) ↦ absurd cc
      | inr (once, more) ↦
          from (optional_command version ws) _ s more (λ c ec e1. behind_is before (record { line = line; label = Some name; command = c }) s (optional_fits version ws c all ec) e1)
    ]

statement_is : (version : Version) (before : List Statement) (l : Words) (s : Statement) → AreWords l → statement version before l ≡ Ok s → IsBehind before s
unfolding statement
statement_is version before l s are e =
    elim (chosen (is_pragma l.first) _ _ _ e) [
      | inl (pragma, bad) ↦ absurd cc
      | inr (other, more) ↦ labelled_is version before l.line (label_name l.first) l.first l.more s are.more more
    ]

on_line_ok : {A : Type 0} (line : ℕ) (r : Result A AsmFaultKind) (x : A) → on_line line r ≡ Ok x → r ≡ Ok x
on_line_ok line (Ok y) x e = let same : y ≡ x = same_value y x e in ap (λ z. Ok z) same
on_line_ok line (Err k) x e = absurd cc

-- such statements, and not too many constants among them
record AreStatements (ss : List Statement) : Type 0 where
  fit : All IsFitStatement ss
  few : gathers_too_many ss ≡ false

statements_are : (version : Version) (before : List Statement) (ls : List Words) (ss : List Statement) → AreStatements before → All AreWords ls → statements version before ls ≡ Ok ss → AreStatements ss
unfolding statements
statements_are version before [] ss are all e = subst AreStatements (same_value before ss e) are
statements_are version before (l ∷ ls) ss are all e =
    from (on_line l.line (statement version before l)) _ ss e (λ s es e1.
    let one = statement_is version before l s (All-head AreWords l ls all) (on_line_ok l.line _ s es) in
    statements_are version (before ++ s ∷ []) ls ss (record { fit = All-push IsFitStatement before s are.fit one.fits; few = one.few }) (All-tail AreWords l ls all) e1)

-- ---- gathered constants

-- one of the elements
abbrev Occurs : {A : Type 0} → A → List A → Type 0
Occurs x [] = ⊥
Occurs x (y ∷ ys) = (x ≡ y) ⊎ Occurs x ys

occurs_left : {A : Type 0} (x : A) (xs ys : List A) → Occurs x xs → Occurs x (xs ++ ys)
occurs_left x [] ys o = absurd o
occurs_left x (y ∷ xs) ys (inl same) = inl same
occurs_left x (y ∷ xs) ys (inr more) = inr (occurs_left x xs ys more)

occurs_right : {A : Type 0} (x : A) (xs ys : List A) → Occurs x ys → Occurs x (xs ++ ys)
occurs_right x [] ys o = o
occurs_right x (y ∷ xs) ys o = inr (occurs_right x xs ys o)

any_pushed : {A : Type 0} (p : A → Bool) (xs : List A) (y : A) → list_any p xs ≡ true → list_any p (xs ++ y ∷ []) ≡ true
any_pushed p [] y e = absurd cc
any_pushed p (x ∷ xs) y e = by (p x) (any_pushed p xs y) e
  where
    by : (b : Bool) → (list_any p xs ≡ true → list_any p (xs ++ y ∷ []) ≡ true) → (b || list_any p xs) ≡ true → (b || list_any p (xs ++ y ∷ [])) ≡ true
    by true more e = refl
    by false more e = more e

any_last : {A : Type 0} (p : A → Bool) (xs : List A) (y : A) → p y ≡ true → list_any p (xs ++ y ∷ []) ≡ true
any_last p [] y e = rw e refl
any_last p (x ∷ xs) y e = by (p x) (any_last p xs y e)
  where
    by : (b : Bool) → list_any p (xs ++ y ∷ []) ≡ true → (b || list_any p (xs ++ y ∷ [])) ≡ true
    by true more = refl
    by false more = more

module _ {A : Type 0} (eq : A → A → Bool) (itself : (x : A) → eq x x ≡ true) where
  still_there : (x y : A) (seen : List A) → list_any (eq x) seen ≡ true → list_any (eq x) (with_new eq seen y) ≡ true
  still_there x y seen e = by (list_any (eq y) seen)
    where
      by : (b : Bool) → list_any (eq x) (cond b seen (seen ++ y ∷ [])) ≡ true
      by true = e
      by false = any_pushed (eq x) seen y e

  now_there : (x : A) (seen : List A) → list_any (eq x) (with_new eq seen x) ≡ true
  now_there x seen = by (list_any (eq x) seen) refl
    where
      by : (b : Bool) → list_any (eq x) seen ≡ b → list_any (eq x) (cond b seen (seen ++ x ∷ [])) ≡ true
      by true e = e
      by false e = any_last (eq x) seen x (itself x)

  distinct_has : (x : A) (seen xs : List A) → (list_any (eq x) seen ≡ true) ⊎ Occurs x xs → list_any (eq x) (distinct eq seen xs) ≡ true
  distinct_has x seen [] (inl e) = e
  distinct_has x seen [] (inr o) = absurd o
  distinct_has x seen (y ∷ ys) (inl e) = distinct_has x (with_new eq seen y) ys (inl (still_there x y seen e))
  distinct_has x seen (y ∷ ys) (inr (inl same)) = distinct_has x (with_new eq seen y) ys (inl (subst (λ z. list_any (eq x) (with_new eq seen z) ≡ true) same (now_there x seen)))
  distinct_has x seen (y ∷ ys) (inr (inr more)) = distinct_has x (with_new eq seen y) ys (inr more)

place_within : {A : Type 0} (p : A → Bool) (xs : List A) → list_any p xs ≡ true → position_or_len p xs < length xs
place_within p [] e = absurd cc
place_within p (x ∷ xs) e = by (p x) (place_within p xs) e
  where
    by : (b : Bool) → (list_any p xs ≡ true → position_or_len p xs < length xs) → (b || list_any p xs) ≡ true → cond (not b) (1 + position_or_len p xs) 0 < suc (length xs)
    by true more e = omega arith
    by false more e = let m = more e in omega (arith, m)

-- a constant is among those that are gathered
abbrev IsKnown : List ℕ → List (List ℕ) → Option Command → Type 0
IsKnown uints strings (Some (Int n)) = list_any (nat_eq n) uints ≡ true
IsKnown uints strings (Some (Byte s)) = list_any (bytes_eq s) strings ≡ true
IsKnown uints strings _ = Unit {0}

uints_in : List Statement → List ℕ
uints_in ss = flat_map (λ (s : Statement). gathered_uint s.command) ss

strings_in : List Statement → List (List ℕ)
strings_in ss = flat_map (λ (s : Statement). gathered_string s.command) ss

one_known : (uints : List ℕ) (strings : List (List ℕ)) (c : Option Command) → ((n : ℕ) → Occurs n (gathered_uint c) → list_any (nat_eq n) uints ≡ true) → ((t : List ℕ) → Occurs t (gathered_string c) → list_any (bytes_eq t) strings ≡ true)
    → IsKnown uints strings c
one_known uints strings None u t = tt
one_known uints strings (Some (Int n)) u t = u n (inl refl)
one_known uints strings (Some (Byte s)) u t = t s (inl refl)
one_known uints strings (Some (Jump o name)) u t = tt
one_known uints strings (Some (Plain o m)) u t = tt

all_known : (uints : List ℕ) (strings : List (List ℕ)) (ss : List Statement) → ((n : ℕ) → Occurs n (uints_in ss) → list_any (nat_eq n) uints ≡ true) → ((t : List ℕ) → Occurs t (strings_in ss) → list_any (bytes_eq t) strings ≡ true)
    → All (λ (s : Statement). IsKnown uints strings s.command) ss
unfolding uints_in strings_in
all_known uints strings [] u t = All-nil (λ (s : Statement). IsKnown uints strings s.command)
all_known uints strings (s ∷ ss) u t =
    All-cons (λ (s : Statement). IsKnown uints strings s.command) s ss
    (one_known uints strings s.command (λ n o. u n (occurs_left n (gathered_uint s.command) (uints_in ss) o)) (λ x o. t x (occurs_left x (gathered_string s.command) (strings_in ss) o)))
    (all_known uints strings ss (λ n o. u n (occurs_right n (gathered_uint s.command) (uints_in ss) o)) (λ x o. t x (occurs_right x (gathered_string s.command) (strings_in ss) o)))

themselves_known : (ss : List Statement) → All (λ (s : Statement). IsKnown (gathered_uints ss) (gathered_strings ss) s.command) ss
unfolding uints_in strings_in
themselves_known ss =
    all_known (gathered_uints ss) (gathered_strings ss) ss (λ n o. distinct_has nat_eq (λ x. eq-eqb x x refl) n [] (uints_in ss) (inr o))
    (λ t o. distinct_has bytes_eq (λ x. (bytes_eq-Decides x x).1 refl) t [] (strings_in ss) (inr o))

-- ---- instructions

-- an instruction that is meant, whose immediates are of bytes
abbrev IsFitMeant : Meant → Type 0
IsFitMeant (Straight o m) = AreFit m
IsFitMeant (Branch o target) = Unit {0}

either : (b : Bool) (x y : Meant) → IsFitMeant x → IsFitMeant y → IsFitMeant (cond b x y)
either true x y h k = h
either false x y h k = k

uint_constant_fits : (i : ℕ) → i < 256 → IsFitMeant (read_uint_constant i)
uint_constant_fits i small = either (eqb i 0) _ _ tt (either (eqb i 1) _ _ tt (either (eqb i 2) _ _ tt (either (eqb i 3) _ _ tt small)))

byte_constant_fits : (i : ℕ) → i < 256 → IsFitMeant (read_byte_constant i)
byte_constant_fits i small = either (eqb i 0) _ _ tt (either (eqb i 1) _ _ tt (either (eqb i 2) _ _ tt (either (eqb i 3) _ _ tt small)))

branch_fits : (line : ℕ) (o : Opcode) (n : ℕ) (t : Option ℕ) (i : Meant) → branch line o n t ≡ Ok i → IsFitMeant i
branch_fits line o n None i e = absurd cc
branch_fits line o n (Some t) i e =
    elim (chosen (nat_le t n) _ _ _ e) [
      | inl (back, bad) ↦ absurd cc
      | inr (onward, one) ↦ subst IsFitMeant (same_value (Branch o t) i one) tt
    ]

-- at most 256 constants of a kind
record AreFew (all : List Statement) : Type 0 where
  uints : length (gathered_uints all) ≤ 256
  strings : length (gathered_strings all) ≤ 256

few_are : (all : List Statement) → gathers_too_many all ≡ false → AreFew all
few_are all e =
    let parts = or_parts (ltb 256 (length (gathered_uints all))) (ltb 256 (length (gathered_strings all))) e in
    record { uints = ltb-false 256 (length (gathered_uints all)) parts.0; strings = ltb-false 256 (length (gathered_strings all)) parts.1 }

instruction_fits : (all : List Statement) (n line : ℕ) (c : Command) (i : Meant) → AreFew all → IsKnown (gathered_uints all) (gathered_strings all) (Some c) → IsFitCommand c → instruction all n line c ≡ Ok i → IsFitMeant i
instruction_fits all n line (Int v) i few reject_unknown fits e =
    let within = place_within (nat_eq v) (gathered_uints all) reject_unknown in
    subst IsFitMeant (same_value (read_uint_constant (position_or_len (nat_eq v) (gathered_uints all))) i e) (uint_constant_fits (position_or_len (nat_eq v) (gathered_uints all)) (omega (arith, within, few.uints)))
instruction_fits all n line (Byte s) i few reject_unknown fits e =
    let within = place_within (bytes_eq s) (gathered_strings all) reject_unknown in
    subst IsFitMeant (same_value (read_byte_constant (position_or_len (bytes_eq s) (gathered_strings all))) i e) (byte_constant_fits (position_or_len (bytes_eq s) (gathered_strings all)) (omega (arith, within, few.strings)))
instruction_fits all n line (Jump o name) i few reject_unknown fits e = branch_fits line o n (label_number (length (gathered_blocks all)) all name) i e
instruction_fits all n line (Plain o m) i few reject_unknown fits e = subst IsFitMeant (same_value (Straight o m) i e) fits

optional_instruction_fits : (all : List Statement) (n line : ℕ) (c : Option Command) (is : List Meant) → AreFew all → IsKnown (gathered_uints all) (gathered_strings all) c → IsFitIfThere c → optional_instruction all n line c ≡ Ok is → All IsFitMeant is
optional_instruction_fits all n line None is few reject_unknown fits e = subst (All IsFitMeant) (same_value [] is e) (All-nil IsFitMeant)
optional_instruction_fits all n line (Some c) is few reject_unknown fits e =
    from (instruction all n line c) _ is e (λ i ei e1.
    subst (All IsFitMeant) (same_value (i ∷ []) is e1) (All-cons IsFitMeant i [] (instruction_fits all n line c i few reject_unknown fits ei) (All-nil IsFitMeant)))

instructions_fit : (all : List Statement) (n : ℕ) (ss : List Statement) (is : List Meant) → AreFew all → All (λ (s : Statement). IsKnown (gathered_uints all) (gathered_strings all) s.command) ss → All IsFitStatement ss → instructions all n ss ≡ Ok is → All IsFitMeant is
unfolding instructions
instructions_fit all n [] is few reject_unknown fit e = subst (All IsFitMeant) (same_value [] is e) (All-nil IsFitMeant)
instructions_fit all n (s ∷ ss) is few reject_unknown fit e =
    from (optional_instruction all n s.line s.command) _ is e (λ i ei e1.
    from (instructions all (n + commands_in s.command) ss) _ is e1 (λ js ej e2.
    let one = optional_instruction_fits all n s.line s.command i few (All-head (λ (s : Statement). IsKnown (gathered_uints all) (gathered_strings all) s.command) s ss reject_unknown) (All-head IsFitStatement s ss fit) ei in
    let more = instructions_fit all (n + commands_in s.command) ss js few (All-tail (λ (s : Statement). IsKnown (gathered_uints all) (gathered_strings all) s.command) s ss reject_unknown) (All-tail IsFitStatement s ss fit) ej in
    subst (All IsFitMeant) (same_value (i ++ js) is e2) (All-append IsFitMeant i js one more)))

-- ---- blocks

new_is : (seen : List (List ℕ)) (s : List ℕ) → All AreBytes seen → AreBytes s → All AreBytes (with_new bytes_eq seen s)
new_is seen s all h = by (list_any (bytes_eq s) seen)
  where
    by : (b : Bool) → All AreBytes (cond b seen (seen ++ s ∷ []))
    by true = all
    by false = All-push AreBytes seen s all h

distinct_are : (seen xs : List (List ℕ)) → All AreBytes seen → All AreBytes xs → All AreBytes (distinct bytes_eq seen xs)
distinct_are seen [] all more = all
distinct_are seen (x ∷ xs) all more = distinct_are (with_new bytes_eq seen x) xs (new_is seen x all (All-head AreBytes x xs more)) (All-tail AreBytes x xs more)

one_string : (c : Option Command) → IsFitIfThere c → All AreBytes (gathered_string c)
one_string None h = All-nil AreBytes
one_string (Some (Int n)) h = All-nil AreBytes
one_string (Some (Byte s)) h = All-cons AreBytes s [] h (All-nil AreBytes)
one_string (Some (Jump o name)) h = All-nil AreBytes
one_string (Some (Plain o m)) h = All-nil AreBytes

strings_are : (ss : List Statement) → All IsFitStatement ss → All AreBytes (strings_in ss)
unfolding strings_in
strings_are [] all = All-nil AreBytes
strings_are (s ∷ ss) all = All-append AreBytes (gathered_string s.command) (strings_in ss) (one_string s.command (All-head IsFitStatement s ss all)) (strings_are ss (All-tail IsFitStatement s ss all))

gathered_are : (ss : List Statement) → All IsFitStatement ss → All AreBytes (gathered_strings ss)
unfolding strings_in
gathered_are ss all = distinct_are [] (strings_in ss) (All-nil AreBytes) (strings_are ss all)

block_or_none : (b : Bool) (m : Meant) → IsFitMeant m → All IsFitMeant (cond b [] (m ∷ []))
block_or_none true m h = All-nil IsFitMeant
block_or_none false m h = All-cons IsFitMeant m [] h (All-nil IsFitMeant)

blocks_fit : (ss : List Statement) → All IsFitStatement ss → All IsFitMeant (gathered_blocks ss)
blocks_fit ss all =
    All-append IsFitMeant (uint_block_in_front (gathered_uints ss)) (byte_block_in_front (gathered_strings ss))
    (block_or_none (eqb (length (gathered_uints ss)) 0) (Straight op.Intcblock (is.UintBlock (gathered_uints ss))) tt)
    (block_or_none (eqb (length (gathered_strings ss)) 0) (Straight op.Bytecblock (is.ByteBlock (gathered_strings ss))) (gathered_are ss all))

all_instructions_fit : (ss : List Statement) (is : List Meant) → AreStatements ss → all_instructions ss ≡ Ok is → All IsFitMeant is
all_instructions_fit ss is are e =
    from (instructions ss (length (gathered_blocks ss)) ss) _ is e (λ js ej e1.
    subst (All IsFitMeant) (same_value (gathered_blocks ss ++ js) is e1)
    (All-append IsFitMeant (gathered_blocks ss) js (blocks_fit ss are.fit) (instructions_fit ss (length (gathered_blocks ss)) ss js (few_are ss are.few) (themselves_known ss) are.fit ej)))

-- ---- programs

one_encoded : (n : ℕ) (m : Meant) (rest : List Meant) → IsFitMeant m → AreBytes (instruction_encoding n m rest)
one_encoded n (Straight o m) rest h = All-cons (λ x. x < 256) (code_of o) (immediates_encoding m) (code_is_byte o) (immediates_are m h)
one_encoded n (Branch o target) rest h = All-cons (λ x. x < 256) (code_of o) (to_be_bytes w16 (total_size (take (target - (n + 1)) rest))) (code_is_byte o) (number w16 (total_size (take (target - (n + 1)) rest)))

all_encoded : (n : ℕ) (ms : List Meant) → All IsFitMeant ms → AreBytes (encoding n ms)
unfolding encoding
all_encoded n [] all = All-nil (λ x. x < 256)
all_encoded n (m ∷ ms) all = All-append (λ x. x < 256) (instruction_encoding n m ms) (encoding (n + 1) ms) (one_encoded n m ms (All-head IsFitMeant m ms all)) (all_encoded (n + 1) ms (All-tail IsFitMeant m ms all))

version_small : (v : Version) → version_byte v < 256
version_small Two = omega arith
version_small Three = omega arith

program_is : (m : Meaning) → All IsFitMeant m.instructions → AreBytes (program m)
unfolding program
program_is m all = All-cons (λ x. x < 256) (version_byte m.version) (encoding 0 m.instructions) (version_small m.version) (all_encoded 0 m.instructions all)

lines_mean : (ls : List Words) (m : Meaning) → All AreWords ls → meaning_of_lines ls ≡ Ok m → All IsFitMeant m.instructions
lines_mean [] m all e = absurd cc
lines_mean (l ∷ ls) m all e =
    from (pragma_version l) _ m e (λ version ev e1.
    from (statements version [] ls) _ m e1 (λ ss es e2.
    from (all_instructions ss) _ m e2 (λ is ei e3.
    let are = statements_are version [] ls ss (record { fit = All-nil IsFitStatement; few = refl }) (All-tail AreWords l ls all) es in
    subst (λ (x : Meaning). All IsFitMeant x.instructions) (same_value (record { version = version; instructions = is }) m e3) (all_instructions_fit ss is are ei))))

meaning_fits : (text : List ℕ) (m : Meaning) → AreBytes text → meaning text ≡ Ok m → All IsFitMeant m.instructions
unfolding meaning
meaning_fits text m all e = from (on_text (lines_of text)) _ m e (λ ls el e1. lines_mean (words_of_lines text ls) m (words_are text ls all) e1)

-- source text of bytes assembles to a program of bytes
pub assembled_is_bytes : (text code : List ℕ) → AreBytes text → assembled text ≡ Ok code → AreBytes code
unfolding assembled
assembled_is_bytes text code all e =
    from (meaning text) _ code e (λ m em e1.
    elim (chosen (ltb 1024 (length (program m))) _ _ _ e1) [
      | inl (long, bad) ↦ absurd cc
      | inr (short, one) ↦ subst AreBytes (same_value (program m) code one) (program_is m (meaning_fits text m all em))
    ])
