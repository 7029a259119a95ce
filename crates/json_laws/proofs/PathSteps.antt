-- Reading functions whose faults lead to where they say, put together.
use Rattle.std.proofs.Common.{◌≡◌, ℕ, zero, suc, ◌+◌, Bool, true, false, cond, List, [], ◌∷◌, ◌++◌, Option, Some, None, Result, Ok, Err, refl, sym, ap, subst, append_assoc, ◌∙◌, ◌⊎◌, inl, inr, arith}
use Rattle.std.specs.Prelude.{option_and_then}
use Rattle.std.specs.List.{list_all}
use Rattle.teal_value.specs.Answer.{◌>>=◌}
use Rattle.json.specs.Json.{Json, null, boolean, number, string, array, object, Items, no_items, item, Members}
use Rattle.json.specs.Find.{as_array, as_object, at, get_item}
use Rattle.json_documents.specs.declared.document_fault.DocumentFault.{DocumentFault}
use Rattle.json_documents.specs.declared.document_fault.DocumentFault.TheVariants as what
use Rattle.json_documents.specs.Steps.{Step, at_name, at_index}
use Rattle.json_documents.specs.Faults.{Fault, here, in_step, or_else_fault}
use Rattle.json_documents.specs.Members.{member, required, needed_in, optional, optional_in, reject_unknown, known_in, least_unknown, unless_unknown}
use Rattle.json_documents.specs.Arrays.{gathered, each}
use Rattle.json_documents.specs.Placeholders.{is_placeholder, unless_placeholder}
use Rattle.json_laws.specs.Paths.{behind, value_at, is_plain, first_items, table, Before, IsObject, NamesMissing, IsWrong}

-- a value of a document, and the steps that lead to it
pub record Spot : Type 0 where
  pub document : Json
  pub path : List Step
  pub value : Json
  pub leads : value_at path document ≡ Some value

-- the value behind one step more
abbrev pub into : (p : Spot) (s : Step) (v : Json) → behind s p.value ≡ Some v → Spot
into p s v e = record { document = p.document; path = s ∷ p.path; value = v; leads = ap (option_and_then (behind s)) p.leads ∙ e }

-- the steps lead to a value of which this holds
abbrev pub LeadTo : List Step → Json → (Json → Type 0) → Type 0
LeadTo path j P = (v : Json) × (value_at path j ≡ Some v) × P v

-- the path leads to a value that is wrong, or to a member that is missing
abbrev pub Locates : DocumentFault → List Step → Json → Type 0
Locates what.Missing path j = NamesMissing path j
Locates w path j = LeadTo path j (IsWrong j w path)

-- a step whose text needs no escape
abbrev pub IsPlain : Step → Type 0
IsPlain (at_name name) = list_all is_plain name ≡ true
IsPlain (at_index i) = Unit {0}

-- steps of which no text needs an escape
abbrev pub ArePlain : List Step → Type 0
ArePlain [] = Unit {0}
ArePlain (s ∷ ss) = IsPlain s × ArePlain ss

-- a fault of an answer about a value leads from the document to where it says
abbrev pub IsLocated : Spot → Fault → Type 0
IsLocated p f = Locates f.what (f.path ++ p.path) p.document × ArePlain f.path

-- what is said of the fault, where there is one
abbrev pub OnFault : {A : Type 0} → (Fault → Type 0) → Result A Fault → Type 0
OnFault P (Ok x) = Unit {0}
OnFault P (Err f) = P f

-- where there is a fault, its path leads to where it says
pub record Located {A : Type 0} (p : Spot) (r : Result A Fault) : Type 0 where
  pub located : OnFault (IsLocated p) r

-- the value itself is at fault
pub located_here : {A : Type 0} (p : Spot) (w : DocumentFault) → IsWrong p.document w p.path p.value → Located {A = A} p (Err (here w))
located_here p what.Syntax h = absurd h
located_here p what.Missing h = absurd h
located_here p w h = record { located = ((p.value, p.leads, h), tt) }

-- where the faults of two readings lead to where they say, so do those of both in a row
pub located_bind : {A B : Type 0} (p : Spot) (r : Result A Fault) (k : A → Result B Fault) → Located p r → ((x : A) → r ≡ Ok x → Located p (k x)) → Located p (r >>= k)
located_bind p (Ok x) k one rest = rest x refl
located_bind p (Err f) k one rest = record { located = one.located }

-- ---- one step

plain_on : (path : List Step) (s : Step) → IsPlain s → ArePlain path → ArePlain (path ++ s ∷ [])
plain_on [] s p h = (p, tt)
plain_on (t ∷ ts) s p h = (h.0, plain_on ts s p h.1)

-- a fault in the value behind a step leads there also from the value before it
pub located_step : {A : Type 0} (s : Step) → IsPlain s → (p : Spot) (v : Json) (r : Result A Fault) (e : behind s p.value ≡ Some v) → Located (into p s v e) r → Located p (in_step s r)
located_step s plain p v (Ok x) e h = record { located = tt }
located_step s plain p v (Err f) e h = record { located = (subst (λ path. Locates f.what path p.document) (sym (append_assoc f.path (s ∷ []) p.path)) h.located.0, plain_on f.path s plain h.located.1) }

-- ---- members

-- how the member of a name is read
abbrev pub ReadsMember : {A : Type 0} → Spot → List ℕ → (Json → Result A Fault) → Type 0
ReadsMember p name meaning = (v : Json) (e : member name p.value ≡ Some v) → Located (into p (at_name name) v e) (meaning v)

needed_located : {A : Type 0} (name : List ℕ) → list_all is_plain name ≡ true → (meaning : Json → Result A Fault) (p : Spot) (o : Option Json) → IsObject p.value → member name p.value ≡ o → ReadsMember p name meaning → Located p (needed_in name meaning o)
needed_located name plain meaning p None is e h = record { located = ((p.value, p.leads, (is, e)), (plain, tt)) }
needed_located name plain meaning p (Some v) is e h = located_step (at_name name) plain p v (meaning v) e (h v e)

-- a fault of a needed member leads to where it says, also where the member is missing
pub located_needed : {A : Type 0} (name : List ℕ) → list_all is_plain name ≡ true → (meaning : Json → Result A Fault) (p : Spot) → IsObject p.value → ReadsMember p name meaning → Located p (required name meaning p.value)
located_needed name plain meaning p is h = needed_located name plain meaning p (member name p.value) is refl h

optional_located : {A : Type 0} (name : List ℕ) → list_all is_plain name ≡ true → (meaning : Json → Result A Fault) (default : A) (p : Spot) (o : Option Json) → member name p.value ≡ o → ReadsMember p name meaning → Located p (optional_in name meaning default o)
optional_located name plain meaning default p None e h = record { located = tt }
optional_located name plain meaning default p (Some v) e h = located_step (at_name name) plain p v (meaning v) e (h v e)

pub located_optional : {A : Type 0} (name : List ℕ) → list_all is_plain name ≡ true → (meaning : Json → Result A Fault) (default : A) (p : Spot) → ReadsMember p name meaning → Located p (optional name meaning default p.value)
located_optional name plain meaning default p h = optional_located name plain meaning default p (member name p.value) refl h

-- ---- what was read

-- a reading that succeeds gives its value to what follows
pub then : {A B : Type 0} (r : Result A Fault) (x : A) (k : A → Result B Fault) (z : Result B Fault) → r ≡ Ok x → k x ≡ z → (r >>= k) ≡ z
then r x k z e h = ap (λ r. r >>= k) e ∙ h

-- where two readings in a row succeed, each of them does
pub bind_ok : {A B : Type 0} (r : Result A Fault) (k : A → Result B Fault) (y : B) → (r >>= k) ≡ Ok y → (x : A) × (r ≡ Ok x) × (k x ≡ Ok y)
bind_ok (Ok x) k y e = (x, refl, e)
bind_ok (Err f) k y e = absurd cc

-- a value that is read behind a step is the same without the step
pub in_step_ok : {A : Type 0} (s : Step) (r : Result A Fault) (x : A) → in_step s r ≡ Ok x → r ≡ Ok x
in_step_ok s (Ok y) x e = e
in_step_ok s (Err f) x e = absurd cc

optional_is : {A : Type 0} (name : List ℕ) (meaning : Json → Result A Fault) (default : A) (o : Option Json) (x : A) → optional_in name meaning default o ≡ Ok x → (x ≡ default) ⊎ ((v : Json) × (o ≡ Some v) × (meaning v ≡ Ok x))
optional_is name meaning default None x e = inl (cc)
optional_is name meaning default (Some v) x e = inr (v, refl, in_step_ok (at_name name) (meaning v) x e)

-- a member that was read, or the default
pub optional_read : {A : Type 0} (name : List ℕ) (meaning : Json → Result A Fault) (default : A) (j : Json) (x : A) → optional name meaning default j ≡ Ok x → (x ≡ default) ⊎ ((v : Json) × (member name j ≡ Some v) × (meaning v ≡ Ok x))
optional_read name meaning default j x e = optional_is name meaning default (member name j) x e

needed_is : {A : Type 0} (name : List ℕ) (meaning : Json → Result A Fault) (o : Option Json) (x : A) → needed_in name meaning o ≡ Ok x → (v : Json) × (o ≡ Some v) × (meaning v ≡ Ok x)
needed_is name meaning None x e = absurd cc
needed_is name meaning (Some v) x e = (v, refl, in_step_ok (at_name name) (meaning v) x e)

-- a needed member that was read is there
pub needed_read : {A : Type 0} (name : List ℕ) (meaning : Json → Result A Fault) (j : Json) (x : A) → required name meaning j ≡ Ok x → (v : Json) × (member name j ≡ Some v) × (meaning v ≡ Ok x)
needed_read name meaning j x e = needed_is name meaning (member name j) x e

-- ---- names

unknown_located : (names : List (List ℕ)) (p : Spot) (o : Option (List ℕ)) → (unless_unknown o ≡ reject_unknown (table p.path) p.value) → Located p (unless_unknown o)
unknown_located names p None e = record { located = tt }
unknown_located names p (Some name) e = located_here p _ (sym e)

known_located : (names : List (List ℕ)) (p : Spot) (o : Option Members) → as_object p.value ≡ o → known_in names o ≡ reject_unknown (table p.path) p.value → Located p (known_in names o)
known_located names p None is e = located_here p _ is
known_located names p (Some ms) is e = unknown_located names p (least_unknown names ms) e

-- a fault of the names of an object leads to where it says
pub located_known : (names : List (List ℕ)) (p : Spot) → names ≡ table p.path → Located p (reject_unknown names p.value)
located_known names p e = known_located names p (as_object p.value) refl (ap (λ names. reject_unknown names p.value) e)

-- a value whose names are known is an object
pub known_object : (names : List (List ℕ)) (j : Json) (u : Unit {0}) → reject_unknown names j ≡ Ok u → IsObject j
known_object names null u e = absurd cc
known_object names (boolean b) u e = absurd cc
known_object names (number s) u e = absurd cc
known_object names (string s) u e = absurd cc
known_object names (array js) u e = absurd cc
known_object names (object ms) u e = refl

-- ---- arrays

-- what is taken as an array is the array of its elements
pub array_is : (j : Json) (js : Items) → as_array j ≡ Some js → j ≡ array js
array_is null js e = absurd cc
array_is (boolean b) js e = absurd cc
array_is (number s) js e = absurd cc
array_is (string s) js e = absurd cc
array_is (object ms) js e = absurd cc
array_is (array ks) js e = cc

-- one element more
gathered_more : {A : Type 0} (one : A → Json → Result A Fault) (k i : ℕ) (start : A) (js : Items) (x y : A) (v : Json) → gathered one k start (first_items i js) ≡ Ok x → get_item i js ≡ Some v → one x v ≡ Ok y
    → gathered one k start (first_items (suc i) js) ≡ Ok y
unfolding gathered
gathered_more one k i start no_items x y v e at h = absurd cc
gathered_more one k zero start (item j js) x y v e at h =
    let start_is : x ≡ start = cc in
    let j_is : v ≡ j = cc in
    then (in_step (at_index k) (one start j)) y (λ next. Ok next) (Ok y) (ap (in_step (at_index k)) (subst (λ z. one start z ≡ Ok y) j_is (subst (λ z. one z v ≡ Ok y) start_is h))) refl
gathered_more one k (suc i) start (item j js) x y v e at h =
    let first = bind_ok (in_step (at_index k) (one start j)) (λ next. gathered one (k + 1) next (first_items i js)) x e in
    then (in_step (at_index k) (one start j)) first.0 (λ next. gathered one (k + 1) next (first_items (suc i) js)) (Ok y) first.1 (gathered_more one (k + 1) i first.0 js x y v first.2 at h)

-- how the elements of an array are read, each behind what those before it gave; P says what this keeps
pub record ReadsEach {A : Type 0} (P : ℕ → A → Type 0) (one : A → Json → Result A Fault) (start : A) (p : Spot) : Type 0 where
  pub begins : P 0 start
  pub goes_on : (i : ℕ) (x y : A) (v : Json) → at i p.value ≡ Some v → P i x → one x v ≡ Ok y → P (i + 1) y
  pub reads : (i : ℕ) (x : A) (v : Json) (e : at i p.value ≡ Some v) → Before one start (at_index i ∷ p.path) p.document x → P i x → Located (into p (at_index i) v e) (one x v)

-- what is gathered from the items that stand in an array from an index on
gathered_located : {A : Type 0} (P : ℕ → A → Type 0) (one : A → Json → Result A Fault) (start : A) (p : Spot) (all : Items) → p.value ≡ array all → ReadsEach P one start p
    → (i : ℕ) (so_far : A) (js : Items) → ((k : ℕ) → get_item k js ≡ get_item (i + k) all) → P i so_far → gathered one 0 start (first_items i all) ≡ Ok so_far → Located p (gathered one i so_far js)
unfolding gathered
gathered_located P one start p all is h i so_far no_items there kept before = record { located = tt }
gathered_located P one start p all is h i so_far (item v js) there kept before =
    let here_is : get_item i all ≡ Some v = ap (λ n. get_item n all) (omega arith) ∙ sym (there 0) in
    let e : at i p.value ≡ Some v = ap (at i) is ∙ here_is in
    let one_on : suc i ≡ i + 1 = omega arith in
    let leads : value_at p.path p.document ≡ Some (array all) = p.leads ∙ ap Some is in
    located_bind p (in_step (at_index i) (one so_far v)) (λ next. gathered one (i + 1) next js)
    (located_step (at_index i) tt p v (one so_far v) e (h.reads i so_far v e (all, leads, before) kept))
    (λ next read. gathered_located P one start p all is h (i + 1) next js (λ k. there (suc k) ∙ ap (λ n. get_item n all) (omega arith))
    (h.goes_on i so_far next v e kept (in_step_ok (at_index i) (one so_far v) next read))
    (subst (λ n. gathered one 0 start (first_items n all) ≡ Ok next) one_on (gathered_more one 0 i start all so_far next v before here_is (in_step_ok (at_index i) (one so_far v) next read))))

each_located : {A : Type 0} (P : ℕ → A → Type 0) (one : A → Json → Result A Fault) (start : A) (p : Spot) (o : Option Items) → as_array p.value ≡ o → ReadsEach P one start p
    → Located p (or_else_fault o what.NotArray >>= λ js. gathered one 0 start js)
unfolding gathered
each_located P one start p None is h = located_here p _ is
each_located P one start p (Some js) is h = gathered_located P one start p js (array_is p.value js is) h 0 start js (λ k. ap (λ n. get_item n js) (omega arith)) h.begins refl

-- a fault in an element of an array leads to where it says
pub located_each : {A : Type 0} (P : ℕ → A → Type 0) (one : A → Json → Result A Fault) (start : A) (p : Spot) → ReadsEach P one start p → Located p (each one start p.value)
located_each P one start p h = each_located P one start p (as_array p.value) refl h

-- the same where nothing is kept
pub located_all : {A : Type 0} (one : A → Json → Result A Fault) (start : A) (p : Spot) → ((i : ℕ) (x : A) (v : Json) (e : at i p.value ≡ Some v) → Before one start (at_index i ∷ p.path) p.document x → Located (into p (at_index i) v e) (one x v)) → Located p (each one start p.value)
located_all {A = A} one start p h = located_each (λ (i : ℕ) (x : A). Unit {0}) one start p (record { begins = tt; goes_on = λ i x y v at u e. tt; reads = λ i x v e before u. h i x v e before })

-- a fault of an element that is not passed over leads to where it says
pub located_unless_placeholder : {A : Type 0} (there : Bool) (one : A → Json → Result A Fault) (so_far : A) (p : Spot) → Located p (one so_far p.value) → Located p (unless_placeholder there one so_far p.value)
located_unless_placeholder {A = A} there one so_far p h = by (is_placeholder there p.value)
  where
    by : (b : Bool) → Located {A = A} p (cond b (Ok so_far) (one so_far p.value))
    by true = record { located = tt }
    by false = h
