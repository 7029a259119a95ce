-- What is kept by a value that is read: of a member, and of an array's elements one after another.
use Rattle.std.proofs.Common.{◌≡◌, ℕ, ◌+◌, Bool, true, false, cond, Option, Some, None, Result, Ok, Err, List, refl, subst}
pub use Rattle.avm_ledger.proofs.FieldsEncoded.{from, same_value}
use Rattle.json.specs.Json.{Json, Items, no_items, item}
use Rattle.json.specs.Find.{get, is_null, as_array}
use Rattle.json_documents.specs.declared.document_fault.DocumentFault.{DocumentFault}
use Rattle.json_documents.specs.Steps.{Step, at_index}
use Rattle.json_documents.specs.Faults.{Fault, in_step, or_else_fault}
use Rattle.json_documents.specs.Members.{unless_null, member, needed_in, optional_in, required, optional}
use Rattle.json_documents.specs.Arrays.{gathered, elements, each}
use Rattle.json_documents.specs.Placeholders.{is_placeholder, unless_placeholder}

-- The type of the values that a reader gives: a name for a type that its crate does not export by name.
abbrev pub TypeIn : {A F : Type 0} → Result A F → Type 0
TypeIn {A = A} r = A

-- a test that a value passed
pub passed : {A F : Type 0} (b : Bool) (x y : A) (d : F) → cond b (Ok x) (Err d) ≡ Ok y → (b ≡ true) × (x ≡ y)
passed true x y d e = (refl, same_value x y e)
passed false x y d e = absurd cc

-- a value that is read behind a step is the same without the step
pub without_step : {A : Type 0} (s : Step) (r : Result A Fault) (x : A) → in_step s r ≡ Ok x → r ≡ Ok x
without_step s (Ok y) x e = e
without_step s (Err f) x e = absurd cc

-- what was read without a fault is there
pub there : {A : Type 0} (o : Option A) (w : DocumentFault) (x : A) → or_else_fault o w ≡ Ok x → o ≡ Some x
there (Some y) w x e = let same : y ≡ x = same_value y x e in cc
there None w x e = absurd cc

-- ---- members

-- elements of which each holds Q
abbrev pub EachItem : (Json → Type 0) → Items → Type 0
EachItem Q no_items = Unit {0}
EachItem Q (item j js) = Q j × EachItem Q js

-- what holds of a value and so of each in it
pub record IsInherited (Q : Json → Type 0) : Type 0 where
  pub members : (name : List ℕ) (j k : Json) → Q j → get name j ≡ Some k → Q k
  pub elements : (j : Json) (js : Items) → Q j → as_array j ≡ Some js → EachItem Q js

every_item : (js : Items) → EachItem (λ j. Unit {0}) js
every_item no_items = tt
every_item (item j js) = (tt, every_item js)

-- a property that every value has is inherited by the values in it
pub nothing_asked : IsInherited (λ j. Unit {0})
nothing_asked = record { members = λ name j k q e. tt; elements = λ j js q e. every_item js }

-- a reader whose values keep P
abbrev pub Gives : {A : Type 0} → (Json → Type 0) → (A → Type 0) → (Json → Result A Fault) → Type 0
Gives {A = A} Q P meaning = (j : Json) (x : A) → Q j → meaning j ≡ Ok x → P x

-- a reader that keeps P from one value to the next
abbrev pub Keeps : {A : Type 0} → (Json → Type 0) → (A → Type 0) → (A → Json → Result A Fault) → Type 0
Keeps {A = A} Q P one = (so_far : A) (j : Json) (x : A) → Q j → P so_far → one so_far j ≡ Ok x → P x

-- a value that is not taken as missing is the value that was found
pub not_null : (o : Option Json) (k : Json) → unless_null o ≡ Some k → o ≡ Some k
not_null None k e = absurd cc
not_null (Some j) k e = by (is_null j) e
  where
    by : (b : Bool) → cond b None (Some j) ≡ Some k → Some j ≡ Some k
    by true e = absurd cc
    by false e = e

needed_by : {A : Type 0} (Q : Json → Type 0) (P : A → Type 0) (name : List ℕ) (meaning : Json → Result A Fault) (o : Option Json) (x : A) → Gives Q P meaning → ((k : Json) → o ≡ Some k → Q k) → needed_in name meaning o ≡ Ok x → P x
needed_by Q P name meaning None x gives q e = absurd cc
needed_by Q P name meaning (Some j) x gives q e = gives j x (q j refl) (without_step _ (meaning j) x e)

optional_by : {A : Type 0} (Q : Json → Type 0) (P : A → Type 0) (name : List ℕ) (meaning : Json → Result A Fault) (default : A) (o : Option Json) (x : A) → P default → Gives Q P meaning → ((k : Json) → o ≡ Some k → Q k) → optional_in name meaning default o ≡ Ok x → P x
optional_by Q P name meaning default None x p gives q e = subst P (same_value default x e) p
optional_by Q P name meaning default (Some j) x p gives q e = gives j x (q j refl) (without_step _ (meaning j) x e)

gathered_keeps : {A : Type 0} (Q : Json → Type 0) (P : A → Type 0) (one : A → Json → Result A Fault) (i : ℕ) (start : A) (js : Items) (x : A) → Keeps Q P one → P start → EachItem Q js → gathered one i start js ≡ Ok x → P x
unfolding gathered
gathered_keeps Q P one i start no_items x keeps p q e = subst P (same_value start x e) p
gathered_keeps Q P one i start (item j js) x keeps p q e =
    from (in_step (at_index i) (one start j)) _ x e (λ next en e1. gathered_keeps Q P one (i + 1) next js x keeps (keeps start j next q.0 p (without_step _ (one start j) next en)) q.1 e1)

module _ {Q : Json → Type 0} (inherited : IsInherited Q) where
  -- a needed member keeps what the values of its reader keep
  pub needed_gives : {A : Type 0} (P : A → Type 0) (name : List ℕ) (meaning : Json → Result A Fault) → Gives Q P meaning → Gives Q P (required name meaning)
  needed_gives P name meaning gives j x q e = needed_by Q P name meaning (member name j) x gives (λ k is. inherited.members name j k q (not_null (get name j) k is)) e

  pub optional_gives : {A : Type 0} (P : A → Type 0) (name : List ℕ) (meaning : Json → Result A Fault) (default : A) → P default → Gives Q P meaning → Gives Q P (optional name meaning default)
  optional_gives P name meaning default p gives j x q e = optional_by Q P name meaning default (member name j) x p gives (λ k is. inherited.members name j k q (not_null (get name j) k is)) e

  -- what holds at the start and is kept by each element holds once an array is read
  pub each_keeps : {A : Type 0} (P : A → Type 0) (one : A → Json → Result A Fault) (start : A) → Keeps Q P one → P start → Gives Q P (each one start)
  each_keeps P one start keeps p j x q e = from (elements j) _ x e (λ js ej e1. gathered_keeps Q P one 0 start js x keeps p (inherited.elements j js q (there (as_array j) _ js ej)) e1)

-- ---- placeholders

-- what holds of what was gathered, where an element is passed over, and else where it is read
pub passed_or_read : {A : Type 0} (P : A → Type 0) (there : Bool) (one : A → Json → Result A Fault) (so_far : A) (j : Json) (x : A) → P so_far → (one so_far j ≡ Ok x → P x) → unless_placeholder there one so_far j ≡ Ok x → P x
passed_or_read P there one so_far j x p read e = by (is_placeholder there j) e
  where
    by : (b : Bool) → cond b (Ok so_far) (one so_far j) ≡ Ok x → P x
    by true e = subst P (same_value so_far x e) p
    by false e = read e

-- what each element keeps that is read is kept
pub passing_keeps : {A : Type 0} (Q : Json → Type 0) (P : A → Type 0) (there : Bool) (one : A → Json → Result A Fault) → Keeps Q P one → Keeps Q P (unless_placeholder there one)
passing_keeps Q P there one keeps so_far j x q p e = passed_or_read P there one so_far j x p (keeps so_far j x q p) e
