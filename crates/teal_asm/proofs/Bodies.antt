-- What is kept of the statements when one more comes.
use Rattle.std.proofs.Common.{◌≡◌, ℕ, ◌+◌, ◌≤◌, Bool, true, false, cond, ltb, ◌&&◌, ◌||◌, nat_eq, List, [], ◌∷◌, ◌++◌, length, Option, Some, None, Ok, Err, refl, sym, ap, ◌∙◌, append_assoc, arith}
use Rattle.std.specs.List.{flat_map, list_any}
use Rattle.std.specs.Str.{bytes_eq}
use Rattle.std.specs.Map.{lookup}
use Rattle.std.specs.Prelude.{is_some}
use Rattle.std.specs.Option.{option_map_or, ForSome}
use Rattle.std.proofs.lemmas.List.{append-nil}
use Rattle.std.proofs.lemmas.Bool.{ltb-false, or_parts}
use Rattle.teal_source.specs.declared.statement.Statement.{Statement}
use Rattle.teal_source.specs.declared.command.Command.{Command}
use Rattle.teal_source.specs.declared.fault.AsmFaultKind.TheVariants as kind
use Rattle.teal_source.specs.Statements.{gathered_uint, gathered_string, is_uint_block, is_byte_block, distinct, gathered_uints, gathered_strings, mixes_blocks, gathers_too_many, behind, appended, has_label}
use Rattle.teal_asm.specs.Meaning.{commands_in, label_entry, labels_from}
use Rattle.teal_asm.specs.declared.body.Body.{Body}
use Rattle.teal_asm.specs.Bodies.{IsBody}
use Rattle.teal_asm.specs.Thinned.{command_count, front_fault, jumps_to}
use Rattle.teal_source.specs.Operands.{Word}

pub flat_map-push : {A B : Type 0} (f : A → List B) (xs : List A) (x : A) → flat_map f (xs ++ x ∷ []) ≡ flat_map f xs ++ f x
flat_map-push f [] x = append-nil (f x)
flat_map-push f (y ∷ ys) x = ap (λ r. f y ++ r) (flat_map-push f ys x) ∙ sym (append_assoc (f y) (flat_map f ys) (f x))

pub distinct-append : {A : Type 0} (eq : A → A → Bool) (seen xs ys : List A) → distinct eq seen (xs ++ ys) ≡ distinct eq (distinct eq seen xs) ys
distinct-append eq seen [] ys = refl
distinct-append eq seen (x ∷ xs) ys = distinct-append eq _ xs ys

pub or_assoc : (a b c : Bool) → (a || (b || c)) ≡ ((a || b) || c)
or_assoc true b c = refl
or_assoc false b c = refl

pub or_false : (a : Bool) → (a || false) ≡ a
or_false true = refl
or_false false = refl

pub list_any-push : {A : Type 0} (p : A → Bool) (xs : List A) (x : A) → list_any p (xs ++ x ∷ []) ≡ (list_any p xs || p x)
list_any-push p [] x = or_false (p x)
list_any-push p (y ∷ ys) x = ap (λ b. p y || b) (list_any-push p ys x) ∙ or_assoc (p y) (list_any p ys) (p x)

-- what one more statement adds to the gathered numbers
pub uints-push : (ss : List Statement) (s : Statement) → gathered_uints (ss ++ s ∷ []) ≡ distinct nat_eq (gathered_uints ss) (gathered_uint s.command)
uints-push ss s =
    ap (distinct nat_eq []) (flat_map-push (λ (t : Statement). gathered_uint t.command) ss s)
    ∙ distinct-append nat_eq [] (flat_map (λ (t : Statement). gathered_uint t.command) ss) (gathered_uint s.command)

pub strings-push : (ss : List Statement) (s : Statement) → gathered_strings (ss ++ s ∷ []) ≡ distinct bytes_eq (gathered_strings ss) (gathered_string s.command)
strings-push ss s =
    ap (distinct bytes_eq []) (flat_map-push (λ (t : Statement). gathered_string t.command) ss s)
    ∙ distinct-append bytes_eq [] (flat_map (λ (t : Statement). gathered_string t.command) ss) (gathered_string s.command)

pub labels-push : (n : ℕ) (ss : List Statement) (s : Statement) → labels_from n (ss ++ s ∷ []) ≡ labels_from n ss ++ label_entry s.label (n + command_count ss)
unfolding labels_from
labels-push n [] s = append-nil (label_entry s.label n) ∙ ap (label_entry s.label) (sum_zero n)
  where
    sum_zero : (n : ℕ) → n ≡ n + 0
    sum_zero n = omega arith
labels-push n (t ∷ ss) s =
    ap (λ r. label_entry t.label n ++ r) (labels-push (n + commands_in t.command) ss s ∙ ap (λ k. labels_from (n + commands_in t.command) ss ++ label_entry s.label k) (regroup n (commands_in t.command) (command_count ss)))
    ∙ sym (append_assoc (label_entry t.label n) _ _)
  where
    regroup : (a b c : ℕ) → a + b + c ≡ a + (b + c)
    regroup a b c = omega arith

pub command_count-push : (ss : List Statement) (s : Statement) → command_count (ss ++ s ∷ []) ≡ command_count ss + commands_in s.command
command_count-push [] s = omega arith
command_count-push (t ∷ ss) s = omega (arith, command_count-push ss s)

at_most_one : (c : Option Command) → commands_in c ≤ 1
at_most_one None = omega arith
at_most_one (Some c) = omega arith

-- there are at most as many commands as statements
pub command_count-le : (ss : List Statement) → command_count ss ≤ length ss
command_count-le [] = omega arith
command_count-le (s ∷ ss) = omega (arith, at_most_one s.command, command_count-le ss)

-- what is found of a statement behind others, in the order of the tests
pub record Behind (ss : List Statement) (s : Statement) (uints : List ℕ) (strings : List (List ℕ)) (uint_block byte_block : Bool) : Type 0 where
  pub uints_are : uints ≡ gathered_uints (ss ++ s ∷ [])
  pub strings_are : strings ≡ gathered_strings (ss ++ s ∷ [])
  pub uint_block_is : uint_block ≡ list_any (λ (t : Statement). is_uint_block t.command) (ss ++ s ∷ [])
  pub byte_block_is : byte_block ≡ list_any (λ (t : Statement). is_byte_block t.command) (ss ++ s ∷ [])

mixed : (ss : List Statement) (s : Statement) (uints : List ℕ) (strings : List (List ℕ)) (ub bb : Bool) → Behind ss s uints strings ub bb → ((ub && ltb 0 (length uints)) || (bb && ltb 0 (length strings))) ≡ mixes_blocks (ss ++ s ∷ [])
mixed ss s uints strings ub bb b = rw (b.uints_are, b.strings_are, b.uint_block_is, b.byte_block_is) refl

many : (ss : List Statement) (s : Statement) (uints : List ℕ) (strings : List (List ℕ)) (ub bb : Bool) → Behind ss s uints strings ub bb → (ltb 256 (length uints) || ltb 256 (length strings)) ≡ gathers_too_many (ss ++ s ∷ [])
many ss s uints strings ub bb b = rw (b.uints_are, b.strings_are) refl

-- an explicit block beside gathered constants of its kind is refused
pub is_mixed : (ss : List Statement) (s : Statement) (uints : List ℕ) (strings : List (List ℕ)) (ub bb : Bool) → Behind ss s uints strings ub bb → ((ub && ltb 0 (length uints)) || (bb && ltb 0 (length strings))) ≡ true → appended ss (behind ss s) ≡ Err kind.MixedBlock
is_mixed ss s uints strings ub bb b e =
    let test : mixes_blocks (ss ++ s ∷ []) ≡ true = sym (mixed ss s uints strings ub bb b) ∙ e in
    rw test refl

-- more than 256 gathered constants of a kind are refused
pub is_too_many : (ss : List Statement) (s : Statement) (uints : List ℕ) (strings : List (List ℕ)) (ub bb : Bool) → Behind ss s uints strings ub bb → ((ub && ltb 0 (length uints)) || (bb && ltb 0 (length strings))) ≡ false
    → (ltb 256 (length uints) || ltb 256 (length strings)) ≡ true → appended ss (behind ss s) ≡ Err kind.TooManyConstants
is_too_many ss s uints strings ub bb b e f =
    let test : mixes_blocks (ss ++ s ∷ []) ≡ false = sym (mixed ss s uints strings ub bb b) ∙ e in
    let more : gathers_too_many (ss ++ s ∷ []) ≡ true = sym (many ss s uints strings ub bb b) ∙ f in
    rw (test, more) refl

-- where neither is so, the statement is added
pub is_behind : (ss now : List Statement) (s : Statement) (uints : List ℕ) (strings : List (List ℕ)) (ub bb : Bool) → Behind ss s uints strings ub bb → ((ub && ltb 0 (length uints)) || (bb && ltb 0 (length strings))) ≡ false
    → (ltb 256 (length uints) || ltb 256 (length strings)) ≡ false → now ≡ ss ++ s ∷ [] → appended ss (behind ss s) ≡ Ok now
is_behind ss now s uints strings ub bb b e f pushed =
    let test : mixes_blocks (ss ++ s ∷ []) ≡ false = sym (mixed ss s uints strings ub bb b) ∙ e in
    let more : gathers_too_many (ss ++ s ∷ []) ≡ false = sym (many ss s uints strings ub bb b) ∙ f in
    rw (test, more) (ap (λ ts. Ok ts) (sym pushed))

pub few : (a b : ℕ) → (ltb 256 a || ltb 256 b) ≡ false → (a ≤ 256) × (b ≤ 256)
few a b e = let parts = or_parts _ _ e in (ltb-false 256 a parts.0, ltb-false 256 b parts.1)

-- the kept facts of a body whose statements are these
pub body_is : (b : Body) (ss : List Statement) → b.statements.items ≡ ss → b.uints.keys ≡ gathered_uints ss → b.strings ≡ gathered_strings ss → b.labels ≡ labels_from 0 ss → b.commands ≡ command_count ss
    → b.has_uint_block ≡ list_any (λ (t : Statement). is_uint_block t.command) ss → b.has_byte_block ≡ list_any (λ (t : Statement). is_byte_block t.command) ss → length b.uints.keys ≤ 256 → length b.strings ≤ 256
    → ((name : Word) → is_some (lookup (bytes_eq name) b.targets) ≡ true → list_any (jumps_to name) ss ≡ true) → (b.leads_back ≡ true → (later : List Statement) → is_some (front_fault [] ss later) ≡ true) → IsBody b
body_is b ss are uints strings labels commands uint_block byte_block few_uints few_strings targets back = record {
  uints = uints ∙ ap gathered_uints (sym are);
  strings = strings ∙ ap gathered_strings (sym are);
  labels = labels ∙ ap (labels_from 0) (sym are);
  commands = commands ∙ ap command_count (sym are);
  uint_block = uint_block ∙ ap (list_any (λ (t : Statement). is_uint_block t.command)) (sym are);
  byte_block = byte_block ∙ ap (list_any (λ (t : Statement). is_byte_block t.command)) (sym are);
  few_uints = few_uints;
  few_strings = few_strings;
  targets = λ name there. ap (list_any (jumps_to name)) are ∙ targets name there;
  leads_back = λ does later. ap (λ xs. is_some (front_fault [] xs later)) are ∙ back does later;
}

-- a label that is there has a number
pub label_there : (n : ℕ) (ss : List Statement) (name : List ℕ) → is_some (lookup (bytes_eq name) (labels_from n ss)) ≡ list_any (has_label name) ss
unfolding labels_from
label_there n [] name = refl
label_there n (s ∷ ss) name = at_label s.label (label_there (n + commands_in s.command) ss name)
  where
    at_test : (b : Bool) (k : ℕ) (o : Option ℕ) {r : Bool} → is_some o ≡ r → is_some (cond b (Some k) o) ≡ (b || r)
    at_test true k o e = refl
    at_test false k o e = e

    at_label : (label : Option (List ℕ)) → is_some (lookup (bytes_eq name) (labels_from (n + commands_in s.command) ss)) ≡ list_any (has_label name) ss
        → is_some (lookup (bytes_eq name) (label_entry label n ++ labels_from (n + commands_in s.command) ss)) ≡ (option_map_or (λ l. bytes_eq name l) label false || list_any (has_label name) ss)
    at_label None e = e
    at_label (Some l) e = at_test (bytes_eq name l) n _ e

pub no_value : {A : Type 0} (o : Option A) → is_some o ≡ false → o ≡ None
no_value None e = refl
no_value (Some x) e = absurd cc

-- a label that no statement has is new
pub is_fresh : (b : Body) → IsBody b → (label : Option (List ℕ)) → ForSome label (λ name. list_any (has_label name) b.statements.items ≡ false) → ForSome label (λ name. lookup (bytes_eq name) b.labels ≡ None)
is_fresh b is label fresh = λ name e. no_value _ (ap (λ ls. is_some (lookup (bytes_eq name) ls)) is.labels ∙ label_there 0 b.statements.items name ∙ fresh name e)
