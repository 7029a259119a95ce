-- The rules of statements are what the assembler tests, line by line.
use Rattle.std.proofs.Common.{◌≡◌, ℕ, ◌≤◌, ◌⊎◌, inl, inr, Bool, true, false, cond, ◌&&◌, ◌||◌, nat_eq, List, [], ◌∷◌, ◌++◌, length, Contains, Option, Some, None, Result, Ok, Err, refl, sym, ap, subst, ◌∙◌, arith}
use Rattle.std.specs.Prelude.{nat_lt, codes}
use Rattle.std.specs.Bool.{Decides}
use Rattle.std.specs.Cmp.{IsEquivalence}
use Rattle.std.specs.List.{IsDistinct, flat_map, list_any}
use Rattle.std.specs.Option.{option_map_or}
use Rattle.std.specs.Str.{bytes_eq}
use Rattle.std.proofs.lemmas.Bool.{lt-ltb, ltb-true, ltb-false, and_parts, or_parts, or_left}
use Rattle.std.proofs.lemmas.Bool.Decides.{Decides-eqb}
use Rattle.std.proofs.lemmas.List.Elements.{Contains-append_left, Contains-append_right, Contains-append_cases, Contains-push, Contains-push_cases}
use Rattle.std.proofs.lemmas.List.Folds.{list_any-append, list_any_at}
use Rattle.std.proofs.lemmas.Map.Keys.{IsDistinct-push}
use Rattle.std.proofs.lemmas.Map.Made.{is_member-Decides, length-le_from_is_member}
use Rattle.std.proofs.lemmas.Slice.Eq.{bytes_eq-Decides}
use Rattle.teal_value.specs.Answer.{◌>>=◌}
use Rattle.teal_table.specs.declared.shape.Version.{Version}
use Rattle.teal_table.specs.declared.opcode.Opcode.{Opcode}
use Rattle.teal_code.specs.declared.instr.Immediates.TheVariants as is
use Rattle.teal_source.specs.declared.command.Command.{Command}
use Rattle.teal_source.specs.declared.command.Command.TheVariants.{Int, Byte, Jump, Plain}
use Rattle.teal_source.specs.declared.fault.AsmFaultKind.{AsmFaultKind}
use Rattle.teal_source.specs.declared.fault.AsmFaultKind.TheVariants as kind
use Rattle.teal_source.specs.declared.statement.Statement.{Statement}
use Rattle.teal_source.specs.Commands.{command}
use Rattle.teal_source.specs.Operands.{Word}
use Rattle.teal_source.specs.Statements.{Words, behind, distinct, gathered_uint, gathered_string, gathered_uints, gathered_strings, gathers_too_many, has_label, is_byte_block, is_pragma, is_uint_block, label_name, labelled, mixes_blocks, optional_command, statement, with_new}
use Rattle.teal_laws.specs.TextRelation.{AreGathered, named_strings, named_uints}
use Rattle.teal_laws.specs.TextRules.{Defines, DefinesOnce, HasNewLabel, HasStringBlock, HasUintBlock, IsWrong, KeepLineRules, KeepsBlocksApart, NamesFew, NamesString, NamesUint, mixed, said, said_behind, too_many, twice, unread}
use Rattle.teal_laws.proofs.TextRelation.{strings_gathered, uints_gathered}

-- ---- lists

pub no_part : {A : Type 0} (above : List A) (x : A) (below : List A) → [] ≡ above ++ x ∷ below → ⊥
no_part [] x below e = cc
no_part (a ∷ above) x below e = cc

-- where a list that ends with an element is parted at an element, this is the last, or it stands before that
pub parted : {A : Type 0} (xs : List A) (x : A) (above : List A) (y : A) (below : List A) → xs ++ x ∷ [] ≡ above ++ y ∷ below → ((above ≡ xs) × (y ≡ x)) ⊎ ((rest : List A) × (xs ≡ above ++ y ∷ rest))
parted [] x [] y below e = let head : x ≡ y = cc in inl (refl, sym head)
parted [] x (a ∷ above) y below e = let tail : [] ≡ above ++ y ∷ below = cc in absurd (no_part above y below tail)
parted (z ∷ xs) x [] y below e = let head : z ≡ y = cc in inr (xs, ap (λ w. w ∷ xs) head)
parted (z ∷ xs) x (a ∷ above) y below e =
    let head : z ≡ a = cc in
    let tail : xs ++ x ∷ [] ≡ above ++ y ∷ below = cc in
    elim (parted xs x above y below tail) [
      | inl p ↦ inl (ap (λ w. w ∷ above) (sym head) ∙ ap (λ ys. z ∷ ys) p.0, p.1)
      | inr p ↦ inr (p.0, ap (λ w. w ∷ xs) head ∙ ap (λ ys. a ∷ ys) p.1)
    ]

in_front : {A : Type 0} (x : A) (xs : List A) → Contains (x ∷ xs) x
in_front x xs = Contains-append_left (x ∷ []) xs x (Contains-push [] x)

behind_it : {A : Type 0} (x : A) (xs : List A) (y : A) → Contains xs y → Contains (x ∷ xs) y
behind_it x xs y c = Contains-append_right (x ∷ []) xs y c

pub empty : {A : Type 0} (x : A) → Contains [] x → ⊥
empty x c = omega (arith, c.1)

-- a list is parted at each of its elements
pub part_of : {A : Type 0} (xs : List A) (x : A) → Contains xs x → (above : List A) × (below : List A) × (xs ≡ above ++ x ∷ below)
part_of [] x c = absurd (empty x c)
part_of (y ∷ ys) x c = elim (Contains-append_cases (y ∷ []) ys x c) [
  | inl here ↦ elim (Contains-push_cases [] y x here) [ inl none ↦ absurd (empty x none) | inr same ↦ ([], ys, ap (λ z. z ∷ ys) same) ]
  | inr later ↦ let p = part_of ys x later in (y ∷ p.0, p.1, ap (λ zs. y ∷ zs) p.2)
]

any_of : {A : Type 0} (p : A → Bool) (xs : List A) → list_any p xs ≡ true → (x : A) × Contains xs x × (p x ≡ true)
any_of p [] e = absurd cc
any_of {A = A} p (x ∷ xs) e = at_test (p x) refl e (any_of p xs)
  where
    at_test : (b : Bool) → p x ≡ b → (b || list_any p xs) ≡ true → (list_any p xs ≡ true → (y : A) × Contains xs y × (p y ≡ true)) → (y : A) × Contains (x ∷ xs) y × (p y ≡ true)
    at_test true t h later = (x, in_front x xs, t)
    at_test false t h later = let r = later h in (r.0, behind_it x xs r.0 r.1, r.2)

any_from : {A : Type 0} (p : A → Bool) (xs : List A) (x : A) → Contains xs x → p x ≡ true → list_any p xs ≡ true
any_from p xs x c h = list_any_at p xs c.0 x c.1 (ap p c.2 ∙ h)

flat_any : {A B : Type 0} (p : B → Bool) (f : A → List B) (xs : List A) → list_any p (flat_map f xs) ≡ list_any (λ x. list_any p (f x)) xs
flat_any p f [] = refl
flat_any p f (x ∷ xs) = list_any-append p (f x) (flat_map f xs) ∙ ap (λ b. list_any p (f x) || b) (flat_any p f xs)

both_not : (b : Bool) → b ≡ true → b ≡ false → ⊥
both_not b t f = let no : true ≡ false = sym t ∙ f in cc

-- ---- labels

label_is : (name : Word) (s : Statement) → has_label name s ≡ true → s.label ≡ Some name
label_is name s e = at_label s.label refl e
  where
    at_label : (o : Option Word) → s.label ≡ o → option_map_or (λ label. bytes_eq name label) o false ≡ true → s.label ≡ Some name
    at_label None at h = absurd cc
    at_label (Some l) at h = at ∙ ap (λ w. Some w) (sym ((bytes_eq-Decides name l).0 h))

is_label : (name : Word) (s : Statement) → s.label ≡ Some name → has_label name s ≡ true
is_label name s e = ap (λ o. option_map_or (λ label. bytes_eq name label) o false) e ∙ (bytes_eq-Decides name name).1 refl

pub defined : (ss : List Statement) (name : Word) → list_any (has_label name) ss ≡ true → Defines ss name
defined ss name e = let r = any_of (has_label name) ss e in (r.0, r.1, label_is name r.0 r.2)

pub not_defined : (ss : List Statement) (name : Word) → list_any (has_label name) ss ≡ false → Defines ss name → ⊥
not_defined ss name e d = both_not (list_any (has_label name) ss) (any_from (has_label name) ss d.0 d.1 (is_label name d.0 d.2)) e

none_twice : DefinesOnce []
none_twice above s below label at has d = no_part above s below at

-- one more statement, whose label is new
one_more_label : (ss : List Statement) (s : Statement) → DefinesOnce ss → ((label : Word) → s.label ≡ Some label → Defines ss label → ⊥) → DefinesOnce (ss ++ s ∷ [])
one_more_label ss s once new = λ above t below label at has d. elim (parted ss s above t below at) [
  | inl p ↦ new label (ap (λ (x : Statement). x.label) (sym p.1) ∙ has) (subst (λ xs. Defines xs label) p.0 d)
  | inr p ↦ once above t p.0 label p.1 has d
]

-- ---- constants

module _ {A : Type 0} (eq : A → A → Bool) (same : (a b : A) → Decides (eq a b) (a ≡ b)) where
  same_both : (x y : A) (t u : Bool) → eq x y ≡ t → eq y x ≡ u → t ≡ u
  same_both x y true true e f = refl
  same_both x y false false e f = refl
  same_both x y true false e f = sym ((same x x).1 refl) ∙ ap (λ z. eq z x) ((same x y).0 e) ∙ f
  same_both x y false true e f = sym e ∙ ap (eq x) ((same y x).0 f) ∙ (same x x).1 refl

  equal : IsEquivalence eq
  equal = record { refl = λ x. (same x x).1 refl; symm = λ x y. same_both x y (eq x y) (eq y x) refl refl; congr = λ x y z e. ap (λ w. eq w z) ((same x y).0 e) }

  one_more_new : (seen : List A) (x : A) → IsDistinct eq seen → IsDistinct eq (with_new eq seen x)
  one_more_new seen x d = at_test (list_any (eq x) seen) refl
    where
      at_test : (b : Bool) → list_any (eq x) seen ≡ b → IsDistinct eq (cond b seen (seen ++ x ∷ []))
      at_test true e = d
      at_test false e = IsDistinct-push equal seen x d e

  stays_distinct : (seen xs : List A) → IsDistinct eq seen → IsDistinct eq (distinct eq seen xs)
  stays_distinct seen [] d = d
  stays_distinct seen (x ∷ xs) d = stays_distinct (with_new eq seen x) xs (one_more_new seen x d)

  are_distinct : (named : List A) → IsDistinct eq (distinct eq [] named)
  unfolding IsDistinct
  are_distinct named = stays_distinct [] named tt

  -- different values that are named are at most as many as the gathered ones
  at_most : (named constants xs : List A) → AreGathered eq named constants → IsDistinct eq xs → ((x : A) → Contains xs x → Contains named x) → length xs ≤ length constants
  at_most named constants xs g d each = length-le_from_is_member equal xs constants d (λ q m. (is_member-Decides same constants q).1 ((g.same q).1 (each q ((is_member-Decides same xs q).0 m))))

  some_named : (named constants : List A) → AreGathered eq named constants → nat_lt 0 (length constants) ≡ true → (x : A) × Contains named x
  some_named named [] g e = absurd cc
  some_named named (x ∷ xs) g e = (x, (g.same x).0 (in_front x xs))

  named_some : (named constants : List A) (x : A) → AreGathered eq named constants → Contains named x → nat_lt 0 (length constants) ≡ true
  named_some named [] x g c = absurd (empty x ((g.same x).1 c))
  named_some named (y ∷ ys) x g c = lt-ltb 0 (length (y ∷ ys)) (omega arith)

nat_same : (a b : ℕ) → Decides (nat_eq a b) (a ≡ b)
nat_same = Decides-eqb

is_int : (c : Option Command) (n : ℕ) → list_any (nat_eq n) (gathered_uint c) ≡ true → c ≡ Some (Int n)
is_int None n e = absurd cc
is_int (Some (Int m)) n e = at_test (nat_eq n m) refl e
  where
    at_test : (b : Bool) → nat_eq n m ≡ b → (b || false) ≡ true → Some (Int m) ≡ Some (Int n)
    at_test true t h = ap (λ k. Some (Int k)) (sym ((nat_same n m).0 t))
    at_test false t h = absurd cc
is_int (Some (Byte s)) n e = absurd cc
is_int (Some (Jump o l)) n e = absurd cc
is_int (Some (Plain o i)) n e = absurd cc

is_string : (c : Option Command) (bytes : List ℕ) → list_any (bytes_eq bytes) (gathered_string c) ≡ true → c ≡ Some (Byte bytes)
is_string None bytes e = absurd cc
is_string (Some (Int m)) bytes e = absurd cc
is_string (Some (Byte s)) bytes e = at_test (bytes_eq bytes s) refl e
  where
    at_test : (b : Bool) → bytes_eq bytes s ≡ b → (b || false) ≡ true → Some (Byte s) ≡ Some (Byte bytes)
    at_test true t h = ap (λ k. Some (Byte k)) (sym ((bytes_eq-Decides bytes s).0 t))
    at_test false t h = absurd cc
is_string (Some (Jump o l)) bytes e = absurd cc
is_string (Some (Plain o i)) bytes e = absurd cc

uint_named : (ss : List Statement) (n : ℕ) → Contains (named_uints ss) n → NamesUint ss n
uint_named ss n c =
    let test : list_any (nat_eq n) (named_uints ss) ≡ true = (is_member-Decides nat_same (named_uints ss) n).1 c in
    let r = any_of (λ (s : Statement). list_any (nat_eq n) (gathered_uint s.command)) ss (sym (flat_any (nat_eq n) (λ (s : Statement). gathered_uint s.command) ss) ∙ test) in
    (r.0, r.1, is_int r.0.command n r.2)

named_uint : (ss : List Statement) (n : ℕ) → NamesUint ss n → Contains (named_uints ss) n
named_uint ss n d =
    let one : list_any (nat_eq n) (gathered_uint d.0.command) ≡ true = ap (λ c. list_any (nat_eq n) (gathered_uint c)) d.2 ∙ or_left (nat_eq n n) false ((nat_same n n).1 refl) in
    let test : list_any (nat_eq n) (named_uints ss) ≡ true = flat_any (nat_eq n) (λ (s : Statement). gathered_uint s.command) ss ∙ any_from (λ (s : Statement). list_any (nat_eq n) (gathered_uint s.command)) ss d.0 d.1 one in
    (is_member-Decides nat_same (named_uints ss) n).0 test

string_named : (ss : List Statement) (bytes : List ℕ) → Contains (named_strings ss) bytes → NamesString ss bytes
string_named ss bytes c =
    let test : list_any (bytes_eq bytes) (named_strings ss) ≡ true = (is_member-Decides bytes_eq-Decides (named_strings ss) bytes).1 c in
    let r = any_of (λ (s : Statement). list_any (bytes_eq bytes) (gathered_string s.command)) ss (sym (flat_any (bytes_eq bytes) (λ (s : Statement). gathered_string s.command) ss) ∙ test) in
    (r.0, r.1, is_string r.0.command bytes r.2)

named_string : (ss : List Statement) (bytes : List ℕ) → NamesString ss bytes → Contains (named_strings ss) bytes
named_string ss bytes d =
    let one : list_any (bytes_eq bytes) (gathered_string d.0.command) ≡ true = ap (λ c. list_any (bytes_eq bytes) (gathered_string c)) d.2 ∙ or_left (bytes_eq bytes bytes) false ((bytes_eq-Decides bytes bytes).1 refl) in
    let test : list_any (bytes_eq bytes) (named_strings ss) ≡ true = flat_any (bytes_eq bytes) (λ (s : Statement). gathered_string s.command) ss ∙ any_from (λ (s : Statement). list_any (bytes_eq bytes) (gathered_string s.command)) ss d.0 d.1 one in
    (is_member-Decides bytes_eq-Decides (named_strings ss) bytes).0 test

-- ---- few constants

few : (ss : List Statement) → gathers_too_many ss ≡ false → NamesFew ss
few ss e =
    let both = or_parts (nat_lt 256 (length (gathered_uints ss))) (nat_lt 256 (length (gathered_strings ss))) e in
    let uints = ltb-false 256 (length (gathered_uints ss)) both.0 in
    let strings = ltb-false 256 (length (gathered_strings ss)) both.1 in
    record {
      uints = λ ns d each. omega (arith, uints, at_most nat_eq nat_same (named_uints ss) (gathered_uints ss) ns (uints_gathered (named_uints ss)) d (λ n c. named_uint ss n (each n c)));
      strings = λ all d each. omega (arith, strings, at_most bytes_eq bytes_eq-Decides (named_strings ss) (gathered_strings ss) all (strings_gathered (named_strings ss)) d (λ bytes c. named_string ss bytes (each bytes c)));
    }

not_few : (ss : List Statement) → gathers_too_many ss ≡ true → NamesFew ss → ⊥
not_few ss e f =
    let uints : length (gathered_uints ss) ≤ 256 = f.uints (gathered_uints ss) (are_distinct nat_eq nat_same (named_uints ss)) (λ n c. uint_named ss n (((uints_gathered (named_uints ss)).same n).0 c)) in
    let strings : length (gathered_strings ss) ≤ 256 = f.strings (gathered_strings ss) (are_distinct bytes_eq bytes_eq-Decides (named_strings ss)) (λ bytes c. string_named ss bytes (((strings_gathered (named_strings ss)).same bytes).0 c)) in
    at_tests (nat_lt 256 (length (gathered_uints ss))) (nat_lt 256 (length (gathered_strings ss))) refl refl e uints strings
  where
    at_tests : (a b : Bool) → nat_lt 256 (length (gathered_uints ss)) ≡ a → nat_lt 256 (length (gathered_strings ss)) ≡ b → (a || b) ≡ true → length (gathered_uints ss) ≤ 256 → length (gathered_strings ss) ≤ 256 → ⊥
    at_tests true b s t h uints strings = omega (arith, uints, ltb-true 256 (length (gathered_uints ss)) s)
    at_tests false true s t h uints strings = omega (arith, strings, ltb-true 256 (length (gathered_strings ss)) t)
    at_tests false false s t h uints strings = cc

-- ---- blocks

is_uints : (c : Option Command) → is_uint_block c ≡ true → (o : Opcode) × (ns : List ℕ) × (c ≡ Some (Plain o (is.UintBlock ns)))
is_uints (Some (Plain o (is.UintBlock ns))) e = (o, ns, refl)
is_uints c e = absurd cc

is_strings : (c : Option Command) → is_byte_block c ≡ true → (o : Opcode) × (all : List (List ℕ)) × (c ≡ Some (Plain o (is.ByteBlock all)))
is_strings (Some (Plain o (is.ByteBlock all))) e = (o, all, refl)
is_strings c e = absurd cc

has_uints : (ss : List Statement) → list_any (λ (s : Statement). is_uint_block s.command) ss ≡ true → HasUintBlock ss
has_uints ss e =
    let r = any_of (λ (s : Statement). is_uint_block s.command) ss e in
    let b = is_uints r.0.command r.2 in
    (r.0, b.0, b.1, r.1, b.2)

uints_there : (ss : List Statement) → HasUintBlock ss → list_any (λ (s : Statement). is_uint_block s.command) ss ≡ true
uints_there ss h = any_from (λ (s : Statement). is_uint_block s.command) ss h.0 h.3 (ap is_uint_block h.4)

has_strings : (ss : List Statement) → list_any (λ (s : Statement). is_byte_block s.command) ss ≡ true → HasStringBlock ss
has_strings ss e =
    let r = any_of (λ (s : Statement). is_byte_block s.command) ss e in
    let b = is_strings r.0.command r.2 in
    (r.0, b.0, b.1, r.1, b.2)

strings_there : (ss : List Statement) → HasStringBlock ss → list_any (λ (s : Statement). is_byte_block s.command) ss ≡ true
strings_there ss h = any_from (λ (s : Statement). is_byte_block s.command) ss h.0 h.3 (ap is_byte_block h.4)

both_true : (a b : Bool) → a ≡ true → b ≡ true → (a && b) ≡ false → ⊥
both_true a b s t e = let no : (true && true) ≡ false = ap (λ x. x && true) (sym s) ∙ ap (λ x. a && x) (sym t) ∙ e in cc

apart : (ss : List Statement) → mixes_blocks ss ≡ false → KeepsBlocksApart ss
apart ss e =
    let parts = or_parts (list_any (λ (s : Statement). is_uint_block s.command) ss && nat_lt 0 (length (gathered_uints ss))) (list_any (λ (s : Statement). is_byte_block s.command) ss && nat_lt 0 (length (gathered_strings ss))) e in
    record {
      uints = λ block n d. both_true _ _ (uints_there ss block) (named_some nat_eq nat_same (named_uints ss) (gathered_uints ss) n (uints_gathered (named_uints ss)) (named_uint ss n d)) parts.0;
      strings = λ block bytes d. both_true _ _ (strings_there ss block) (named_some bytes_eq bytes_eq-Decides (named_strings ss) (gathered_strings ss) bytes (strings_gathered (named_strings ss)) (named_string ss bytes d)) parts.1;
    }

not_apart : (ss : List Statement) → mixes_blocks ss ≡ true → KeepsBlocksApart ss → ⊥
not_apart ss e k = at_tests (list_any (λ (s : Statement). is_uint_block s.command) ss && nat_lt 0 (length (gathered_uints ss))) (list_any (λ (s : Statement). is_byte_block s.command) ss && nat_lt 0 (length (gathered_strings ss))) refl refl e
  where
    at_tests : (a b : Bool) → (list_any (λ (s : Statement). is_uint_block s.command) ss && nat_lt 0 (length (gathered_uints ss))) ≡ a → (list_any (λ (s : Statement). is_byte_block s.command) ss && nat_lt 0 (length (gathered_strings ss))) ≡ b → (a || b) ≡ true → ⊥
    at_tests true b s t h =
        let p = and_parts (list_any (λ (s : Statement). is_uint_block s.command) ss) (nat_lt 0 (length (gathered_uints ss))) s in
        let n = some_named nat_eq nat_same (named_uints ss) (gathered_uints ss) (uints_gathered (named_uints ss)) p.1 in
        k.uints (has_uints ss p.0) n.0 (uint_named ss n.0 n.1)
    at_tests false true s t h =
        let p = and_parts (list_any (λ (s : Statement). is_byte_block s.command) ss) (nat_lt 0 (length (gathered_strings ss))) t in
        let n = some_named bytes_eq bytes_eq-Decides (named_strings ss) (gathered_strings ss) (strings_gathered (named_strings ss)) p.1 in
        k.strings (has_strings ss p.0) n.0 (string_named ss n.0 n.1)
    at_tests false false s t h = cc

pub none_keep : KeepLineRules []
none_keep = record { labels = none_twice; blocks = apart [] refl; few = few [] refl }

-- ---- a line

-- what comes of a line below statements that keep the rules
abbrev pub Step : Version → List Statement → Words → Result Statement AsmFaultKind → Type 0
Step version above l (Ok s) = (said version l ≡ Ok s) × KeepLineRules (above ++ s ∷ [])
Step version above l (Err k) = IsWrong version above l k

-- a pragma is no label
pragma_unlabelled : (w : Word) → is_pragma w ≡ true → label_name w ≡ None
pragma_unlabelled w e = ap label_name ((bytes_eq-Decides w (codes "#pragma")).0 e)

no_label : (o : Option Word) (label : Word) → o ≡ None → o ≡ Some label → ⊥
no_label o label e f = let no : None ≡ Some label = sym e ∙ f in cc

-- a statement behind those above
stands_behind : (version : Version) (above : List Statement) (l : Words) (s : Statement) → KeepLineRules above → HasNewLabel above l → said version l ≡ Ok s → ((label : Word) → s.label ≡ Some label → Defines above label → ⊥) → Step version above l (behind above s)
stands_behind version above l s keep new says own = at_mixed (mixes_blocks (above ++ s ∷ [])) refl
  where
    at_many : mixes_blocks (above ++ s ∷ []) ≡ false → (b : Bool) → gathers_too_many (above ++ s ∷ []) ≡ b → Step version above l (cond b (Err kind.TooManyConstants) (Ok s))
    at_many m true e = too_many s new says (apart (above ++ s ∷ []) m) (not_few (above ++ s ∷ []) e)
    at_many m false e = (says, record { labels = one_more_label above s keep.labels own; blocks = apart (above ++ s ∷ []) m; few = few (above ++ s ∷ []) e })

    at_mixed : (b : Bool) → mixes_blocks (above ++ s ∷ []) ≡ b → Step version above l (cond b (Err kind.MixedBlock) (cond (gathers_too_many (above ++ s ∷ [])) (Err kind.TooManyConstants) (Ok s)))
    at_mixed true e = mixed s new says (not_apart (above ++ s ∷ []) e)
    at_mixed false e = at_many e (gathers_too_many (above ++ s ∷ [])) refl

pub step : (version : Version) (above : List Statement) (l : Words) → KeepLineRules above → Step version above l (statement version above l)
unfolding statement
step version above l keep = at_pragma (is_pragma l.first) refl
  where
    -- a line without a label
    at_plain : said version l ≡ said_behind version l None → label_name l.first ≡ None → (q : Result Command AsmFaultKind) → command version l.first l.more ≡ q → Step version above l (q >>= λ c. behind above (record { line = l.line; label = None; command = Some c }))
    at_plain says none (Err k) e = unread k (λ label h. absurd (no_label (label_name l.first) label none h)) (says ∙ ap (λ q. q >>= λ c. Ok (record { line = l.line; label = None; command = Some c })) e)
    at_plain says none (Ok c) e = stands_behind version above l (record { line = l.line; label = None; command = Some c }) keep (λ label h. absurd (no_label (label_name l.first) label none h)) (says ∙ ap (λ q. q >>= λ c. Ok (record { line = l.line; label = None; command = Some c })) e) (λ label h. absurd cc)

    -- a line with a new label
    at_new : (name : Word) → said version l ≡ said_behind version l (Some name) → HasNewLabel above l → (Defines above name → ⊥) → (q : Result (Option Command) AsmFaultKind) → optional_command version l.more ≡ q → Step version above l (q >>= λ c. behind above (record { line = l.line; label = Some name; command = c }))
    at_new name says new own (Err k) e = unread k new (says ∙ ap (λ q. q >>= λ c. Ok (record { line = l.line; label = Some name; command = c })) e)
    at_new name says new own (Ok c) e = stands_behind version above l (record { line = l.line; label = Some name; command = c }) keep new (says ∙ ap (λ q. q >>= λ c. Ok (record { line = l.line; label = Some name; command = c })) e) (λ label h. let same : name ≡ label = cc in subst (λ w. Defines above w → ⊥) same own)

    at_label : (name : Word) → said version l ≡ said_behind version l (Some name) → label_name l.first ≡ Some name → (b : Bool) → list_any (has_label name) above ≡ b → Step version above l (cond b (Err kind.LabelTwice) (optional_command version l.more >>= λ c. behind above (record { line = l.line; label = Some name; command = c })))
    at_label name says is_named true e = twice name is_named (defined above name e)
    at_label name says is_named false e =
        at_new name says (λ label h. let same : name ≡ label = let both : Some name ≡ Some label = sym is_named ∙ h in cc in subst (λ w. Defines above w → ⊥) same (not_defined above name e)) (not_defined above name e) (optional_command version l.more) refl

    at_name : (o : Option Word) → label_name l.first ≡ o → said version l ≡ said_behind version l o → Step version above l (labelled version above l.line o l.first l.more)
    at_name None e says = at_plain says e (command version l.first l.more) refl
    at_name (Some name) e says = at_label name says e (list_any (has_label name) above) refl

    at_pragma : (b : Bool) → is_pragma l.first ≡ b → Step version above l (cond b (Err kind.Version) (labelled version above l.line (label_name l.first) l.first l.more))
    at_pragma true e = unread kind.Version (λ label h. absurd (no_label (label_name l.first) label (pragma_unlabelled l.first e) h)) (ap (λ b. cond b (Err kind.Version) (said_behind version l (label_name l.first))) e)
    at_pragma false e = at_name (label_name l.first) refl (ap (λ b. cond b (Err kind.Version) (said_behind version l (label_name l.first))) e)
