-- Statements as instructions, one behind another.
use Rattle.std.proofs.Common.{◌≡◌, ℕ, suc, ◌+◌, ◌<◌, ◌≤◌, Bool, true, false, cond, not, eqb, ◌||◌, nat_eq, List, [], ◌∷◌, ◌++◌, length, map, Option, Some, None, Result, Ok, Err, refl, sym, ap, subst, ◌∙◌, append_assoc, length-append, arith}
use Rattle.std.specs.List.{flat_map, list_any, position_or_len, position}
use Rattle.std.specs.Map.{lookup}
use Rattle.std.specs.Option.{option_map}
use Rattle.std.specs.Str.{bytes_eq}
use Rattle.std.proofs.lemmas.Bool.{ltb-false, eq-eqb, eqb-true, or_right}
use Rattle.std.proofs.lemmas.Slice.Eq.{bytes_eq-Decides}
use Rattle.std.proofs.lemmas.List.{append-nil}
use Rattle.std.proofs.lemmas.List.Sums.{prefix_len-le-length}
use Rattle.std.proofs.lemmas.List.Folds.{list_any-append}
use Rattle.teal_value.specs.declared.failure.Failure.{Failure}
use Rattle.teal_value.specs.declared.failure.Failure.TheVariants as failure
use Rattle.teal_value.specs.Answer.{◌>>=◌, Fails}
use Rattle.teal_source.specs.declared.command.Command.{Command}
use Rattle.teal_source.specs.declared.command.Command.TheVariants.{Int, Byte, Jump, Plain}
use Rattle.teal_source.specs.declared.statement.Statement.{Statement}
use Rattle.teal_source.specs.declared.fault.AsmFault.{AsmFault}
use Rattle.teal_source.specs.Statements.{gathered_uint, gathered_string, distinct, with_new, gathered_uints, gathered_strings}
use Rattle.teal_asm.specs.Meaning.{Meant, commands_in, label_entry, labels_from, gathered_blocks, instruction, optional_instruction, instructions, all_instructions}
use Rattle.teal_asm.specs.Instructions.{with_instruction}
use Rattle.teal_asm.specs.Constants.{HasItsConstant, HasConstants}
use Rattle.teal_asm.proofs.Gathering.{not_from_test}

-- ---- where a constant stands

-- where no element passes, the place that is found is the length
pub absent_place : {A : Type 0} (p : A → Bool) (ks : List A) (n : ℕ) → position p ks ≡ None → n ≡ length ks → n ≡ position_or_len p ks
absent_place p ks n e is =
    let beyond = ltb-false (position_or_len p ks) (length ks) (not_from_test _ _ e) in
    let inside = prefix_len-le-length (λ y. not (p y)) ks in
    omega (arith, beyond, inside)

-- where an element passes, a place within the list is found
pub place_within : {A : Type 0} (p : A → Bool) (ks : List A) → list_any p ks ≡ true → position_or_len p ks < length ks
place_within p [] e = absurd cc
place_within p (k ∷ ks) e = at_test (p k) (place_within p ks) e
  where
    at_test : (b : Bool) → (list_any p ks ≡ true → position_or_len p ks < length ks) → (b || list_any p ks) ≡ true → cond (not b) (1 + position_or_len p ks) 0 < suc (length ks)
    at_test true later e = omega arith
    at_test false later e = let lt : position_or_len p ks < length ks = later e in omega arith

-- ---- labels behind blocks

lookup-append : (p : List ℕ → Bool) (xs ys : List (List ℕ × ℕ)) (f : ℕ → ℕ) (xs' ys' : List (List ℕ × ℕ)) → xs' ≡ map (λ e. (e.0, f e.1)) xs → lookup p ys' ≡ option_map f (lookup p ys) → lookup p (xs' ++ ys') ≡ option_map f (lookup p (xs ++ ys))
lookup-append p [] ys f xs' ys' e r = rw e r
lookup-append p (x ∷ xs) ys f xs' ys' e r = rw e (at_test (p x.0) _ (lookup-append p xs ys f (map (λ e. (e.0, f e.1)) xs) ys' refl r))
  where
    at_test : (b : Bool) {o : Option ℕ} (q : Option ℕ) → o ≡ option_map f q → cond b (Some (f x.1)) o ≡ option_map f (cond b (Some x.1) q)
    at_test true q e = refl
    at_test false q e = e

entry_shift : (b n : ℕ) (label : Option (List ℕ)) → label_entry label (b + n) ≡ map (λ e. (e.0, b + e.1)) (label_entry label n)
entry_shift b n None = refl
entry_shift b n (Some l) = refl

-- counted from a number that is b higher, each label has a number that is b higher
pub labels_shift : (p : List ℕ → Bool) (b n : ℕ) (ss : List Statement) → lookup p (labels_from (b + n) ss) ≡ option_map (λ k. b + k) (lookup p (labels_from n ss))
unfolding labels_from
labels_shift p b n [] = refl
labels_shift p b n (s ∷ ss) =
    lookup-append p (label_entry s.label n) (labels_from (n + commands_in s.command) ss) (λ k. b + k) _ _ (entry_shift b n s.label)
    (ap (λ k. lookup p (labels_from k ss)) (regroup b n (commands_in s.command)) ∙ labels_shift p b (n + commands_in s.command) ss)
  where
    regroup : (b n c : ℕ) → b + n + c ≡ b + (n + c)
    regroup b n c = omega arith

-- the number of a label counted from b is b more than counted from 0
pub label_target : (p : List ℕ → Bool) (b k : ℕ) (labels : List (List ℕ × ℕ)) (ss : List Statement) → b ≡ k → labels ≡ labels_from 0 ss → option_map (λ n. b + n) (lookup p labels) ≡ lookup p (labels_from k ss)
label_target p b k labels ss e are =
    let zero_sum : b + 0 ≡ k = omega (arith, e) in
    ap (λ ls. option_map (λ n. b + n) (lookup p ls)) are ∙ sym (labels_shift p b 0 ss) ∙ ap (λ n. lookup p (labels_from n ss)) zero_sum

-- ---- each command's constant is gathered

later_true : (a b : Bool) → b ≡ true → (a || b) ≡ true
later_true a b e = rw e (or_right a true refl)

kept : {A : Type 0} (eq : A → A → Bool) (p : A → Bool) (seen xs : List A) → list_any p seen ≡ true → list_any p (distinct eq seen xs) ≡ true
kept eq p seen [] e = e
kept eq p seen (x ∷ xs) e = kept eq p (with_new eq seen x) xs (at_test (list_any (eq x) seen))
  where
    at_test : (b : Bool) → list_any p (cond b seen (seen ++ x ∷ [])) ≡ true
    at_test true = e
    at_test false = list_any-append p seen (x ∷ []) ∙ ap (λ b. b || list_any p (x ∷ [])) e

now_there : {A : Type 0} (eq : A → A → Bool) (x : A) (seen : List A) → eq x x ≡ true → list_any (eq x) (with_new eq seen x) ≡ true
now_there eq x seen self = at_test (list_any (eq x) seen) refl
  where
    at_test : (b : Bool) → list_any (eq x) seen ≡ b → list_any (eq x) (cond b seen (seen ++ x ∷ [])) ≡ true
    at_test true e = e
    at_test false e = list_any-append (eq x) seen (x ∷ []) ∙ later_true (list_any (eq x) seen) _ (ap (λ b. b || false) self)

-- where equal values are one, what is among the values is among the distinct ones
gathered : {A : Type 0} (eq : A → A → Bool) (x : A) → ((y : A) → eq x y ≡ true → x ≡ y) → eq x x ≡ true → (seen xs : List A) → list_any (eq x) xs ≡ true → list_any (eq x) (distinct eq seen xs) ≡ true
gathered eq x one self seen [] e = absurd cc
gathered eq x one self seen (y ∷ ys) e = at_test (eq x y) refl (gathered eq x one self (with_new eq seen y) ys) e
  where
    at_test : (b : Bool) → eq x y ≡ b → (list_any (eq x) ys ≡ true → list_any (eq x) (distinct eq (with_new eq seen y) ys) ≡ true) → (b || list_any (eq x) ys) ≡ true → list_any (eq x) (distinct eq (with_new eq seen y) ys) ≡ true
    at_test true same later e = kept eq (eq x) (with_new eq seen y) ys (ap (λ z. list_any (eq x) (with_new eq seen z)) (sym (one y same)) ∙ now_there eq x seen self)
    at_test false other later e = later e

uint_gathered : (n : ℕ) (xs : List ℕ) → list_any (nat_eq n) xs ≡ true → list_any (nat_eq n) (distinct nat_eq [] xs) ≡ true
uint_gathered n xs e = gathered nat_eq n (λ y same. eqb-true n y same) (eq-eqb n n refl) [] xs e

string_gathered : (s : List ℕ) (xs : List (List ℕ)) → list_any (bytes_eq s) xs ≡ true → list_any (bytes_eq s) (distinct bytes_eq [] xs) ≡ true
string_gathered s xs e = gathered bytes_eq s (λ y same. (bytes_eq-Decides s y).0 same) ((bytes_eq-Decides s s).1 refl) [] xs e

-- more constants have what fewer have
more_constants : (us vs : List ℕ) (ss ts : List (List ℕ)) → ((n : ℕ) → list_any (nat_eq n) us ≡ true → list_any (nat_eq n) vs ≡ true) → ((s : List ℕ) → list_any (bytes_eq s) ss ≡ true → list_any (bytes_eq s) ts ≡ true)
    → (all : List Statement) → HasConstants us ss all → HasConstants vs ts all
more_constants us vs ss ts more_uints more_strings [] h = tt
more_constants us vs ss ts more_uints more_strings (x ∷ xs) h = (at_command x.command h.0, more_constants us vs ss ts more_uints more_strings xs h.1)
  where
    at_command : (c : Option Command) → HasItsConstant us ss c → HasItsConstant vs ts c
    at_command None h = tt
    at_command (Some (Int n)) h = more_uints n h
    at_command (Some (Byte s)) h = more_strings s h
    at_command (Some (Jump o l)) h = tt
    at_command (Some (Plain o i)) h = tt

all_uints : List Statement → List ℕ
all_uints ss = flat_map (λ (t : Statement). gathered_uint t.command) ss

all_strings : List Statement → List (List ℕ)
all_strings ss = flat_map (λ (t : Statement). gathered_string t.command) ss

own : (ss : List Statement) → HasConstants (all_uints ss) (all_strings ss) ss
unfolding all_uints all_strings
own [] = tt
own (s ∷ ss) = (at_command s.command, more_constants _ _ _ _ (λ n e. behind_uints n e) (λ t e. behind_strings t e) ss (own ss))
  where
    at_command : (c : Option Command) → HasItsConstant (gathered_uint c ++ all_uints ss) (gathered_string c ++ all_strings ss) c
    at_command None = tt
    at_command (Some (Int n)) = ap (λ b. b || list_any (nat_eq n) (all_uints ss)) (eq-eqb n n refl)
    at_command (Some (Byte t)) = ap (λ b. b || list_any (bytes_eq t) (all_strings ss)) ((bytes_eq-Decides t t).1 refl)
    at_command (Some (Jump o l)) = tt
    at_command (Some (Plain o i)) = tt

    behind_uints : (n : ℕ) → list_any (nat_eq n) (all_uints ss) ≡ true → list_any (nat_eq n) (gathered_uint s.command ++ all_uints ss) ≡ true
    behind_uints n e = list_any-append (nat_eq n) (gathered_uint s.command) (all_uints ss) ∙ later_true _ _ e

    behind_strings : (t : List ℕ) → list_any (bytes_eq t) (all_strings ss) ≡ true → list_any (bytes_eq t) (gathered_string s.command ++ all_strings ss) ≡ true
    behind_strings t e = list_any-append (bytes_eq t) (gathered_string s.command) (all_strings ss) ∙ later_true _ _ e

pub each_has_its_constant : (all : List Statement) → HasConstants (gathered_uints all) (gathered_strings all) all
unfolding all_uints all_strings
each_has_its_constant all = more_constants _ _ _ _ (λ n e. uint_gathered n (all_uints all) e) (λ t e. string_gathered t (all_strings all) e) all (own all)

-- ---- how large the numbers of labels are

-- the number of a label is at most the first number and the count of the statements
pub label_small : (p : List ℕ → Bool) (n : ℕ) (ss : List Statement) (k : ℕ) → lookup p (labels_from n ss) ≡ Some k → k ≤ n + length ss
unfolding labels_from
label_small p n [] k e = absurd cc
label_small p n (s ∷ ss) k e = at_label s.label (label_small p (n + commands_in s.command) ss k) e
  where
    one : (c : Option Command) → commands_in c ≤ 1
    one None = omega arith
    one (Some c) = omega arith

    rest : k ≤ n + commands_in s.command + length ss → k ≤ n + suc (length ss)
    rest le = omega (arith, one s.command)

    at_test : (b : Bool) (o : Option ℕ) → (o ≡ Some k → k ≤ n + commands_in s.command + length ss) → cond b (Some n) o ≡ Some k → k ≤ n + suc (length ss)
    at_test true o later e = let same : n ≡ k = cc in omega arith
    at_test false o later e = rest (later e)

    at_label : (label : Option (List ℕ)) → (lookup p (labels_from (n + commands_in s.command) ss) ≡ Some k → k ≤ n + commands_in s.command + length ss)
        → lookup p (label_entry label n ++ labels_from (n + commands_in s.command) ss) ≡ Some k → k ≤ n + suc (length ss)
    at_label None later e = rest (later e)
    at_label (Some l) later e = at_test (p l) _ later e

-- ---- one behind another

-- the instructions so far and those of the rest are those that are meant
pub record ResolvesOn (all : List Statement) (so_far : List Meant) (rest : List Statement) (goal : Result (List Meant) AsmFault) : Type 0 where
  pub same : (instructions all (length so_far) rest >>= λ is. Ok (so_far ++ is)) ≡ goal

-- at first the blocks of gathered constants are there, and all statements are left
pub begins : (all : List Statement) (now : List Meant) (rest : List Statement) → now ≡ gathered_blocks all → rest ≡ all → ResolvesOn all now rest (all_instructions all)
begins all now rest e is = record { same = ap (λ xs. instructions all (length xs) rest >>= λ is. Ok (xs ++ is)) e ∙ ap (λ ss. instructions all (length (gathered_blocks all)) ss >>= λ is. Ok (gathered_blocks all ++ is)) is }

step : (all : List Statement) (n : ℕ) (s : Statement) (rest : List Statement) (r : Result (List Meant) AsmFault) → optional_instruction all n s.line s.command ≡ r
    → instructions all n (s ∷ rest) ≡ (r >>= λ i. instructions all (n + commands_in s.command) rest >>= λ is. Ok (i ++ is))
unfolding instructions
step all n s rest r e = ap (λ q. q >>= λ i. instructions all (n + commands_in s.command) rest >>= λ is. Ok (i ++ is)) e

regroup_empty : (so_far : List Meant) (r : Result (List Meant) AsmFault) → ((r >>= λ is. Ok ([] ++ is)) >>= λ is. Ok (so_far ++ is)) ≡ (r >>= λ is. Ok (so_far ++ is))
regroup_empty so_far (Ok is) = refl
regroup_empty so_far (Err e) = refl

regroup_one : (so_far : List Meant) (i : Meant) (r : Result (List Meant) AsmFault) → ((r >>= λ is. Ok ((i ∷ []) ++ is)) >>= λ is. Ok (so_far ++ is)) ≡ (r >>= λ is. Ok ((so_far ++ i ∷ []) ++ is))
regroup_one so_far i (Ok is) = ap (λ xs. Ok xs) (sym (append_assoc so_far (i ∷ []) is))
regroup_one so_far i (Err e) = refl

passes : (all : List Statement) (so_far : List Meant) (rest next : List Statement) (s : Statement) (goal : Result (List Meant) AsmFault) → ResolvesOn all so_far rest goal → rest ≡ s ∷ next → s.command ≡ None → ResolvesOn all so_far next goal
passes all so_far rest next s goal r is none =
    let one : instructions all (length so_far) (s ∷ next) ≡ (instructions all (length so_far + commands_in s.command) next >>= λ is. Ok ([] ++ is)) =
    step all (length so_far) s next (Ok []) (ap (optional_instruction all (length so_far) s.line) none) in
    let here : length so_far + commands_in s.command ≡ length so_far = ap (λ c. length so_far + commands_in c) none ∙ omega arith in
    record {
      same =
          ap (λ n. instructions all n next >>= λ is. Ok (so_far ++ is)) (sym here) ∙ sym (regroup_empty so_far _)
          ∙ ap (λ q. q >>= λ is. Ok (so_far ++ is)) (sym one) ∙ ap (λ ss. instructions all (length so_far) ss >>= λ is. Ok (so_far ++ is)) (sym is) ∙ r.same;
    }

some_instruction : (all : List Statement) (n line : ℕ) (c : Command) (i : Meant) → instruction all n line c ≡ Ok i → optional_instruction all n line (Some c) ≡ Ok (i ∷ [])
some_instruction all n line c i e = rw e refl

no_instruction : (all : List Statement) (n line : ℕ) (c : Command) (f : AsmFault) → instruction all n line c ≡ Err f → optional_instruction all n line (Some c) ≡ Err f
no_instruction all n line c f e = rw e refl

goes_on : (all : List Statement) (so_far now : List Meant) (rest next : List Statement) (s : Statement) (c : Command) (i : Meant) (goal : Result (List Meant) AsmFault) → ResolvesOn all so_far rest goal → rest ≡ s ∷ next → s.command ≡ Some c
    → instruction all (length so_far) s.line c ≡ Ok i → now ≡ so_far ++ i ∷ [] → ResolvesOn all now next goal
goes_on all so_far now rest next s c i goal r is some e pushed =
    let one : instructions all (length so_far) (s ∷ next) ≡ (instructions all (length so_far + commands_in s.command) next >>= λ is. Ok ((i ∷ []) ++ is)) =
    step all (length so_far) s next (Ok (i ∷ [])) (ap (optional_instruction all (length so_far) s.line) some ∙ some_instruction all (length so_far) s.line c i e) in
    let count : length (so_far ++ i ∷ []) ≡ length so_far + commands_in s.command = length-append so_far (i ∷ []) ∙ ap (λ d. length so_far + commands_in d) (sym some) in
    record {
      same =
          ap (λ xs. instructions all (length xs) next >>= λ is. Ok (xs ++ is)) pushed ∙ ap (λ n. instructions all n next >>= λ is. Ok ((so_far ++ i ∷ []) ++ is)) count ∙ sym (regroup_one so_far i _)
          ∙ ap (λ q. q >>= λ is. Ok (so_far ++ is)) (sym one) ∙ ap (λ ss. instructions all (length so_far) ss >>= λ is. Ok (so_far ++ is)) (sym is) ∙ r.same;
    }

stops : (all : List Statement) (so_far : List Meant) (rest next : List Statement) (s : Statement) (c : Command) (d : Failure AsmFault) (goal : Result (List Meant) AsmFault) → ResolvesOn all so_far rest goal → rest ≡ s ∷ next → s.command ≡ Some c
    → Fails d (instruction all (length so_far) s.line c) → Fails d goal
stops all so_far rest next s c failure.Memory goal r is some e = tt
stops all so_far rest next s c (failure.Fault f) goal r is some e =
    let one : instructions all (length so_far) (s ∷ next) ≡ Err f = step all (length so_far) s next (Err f) (ap (optional_instruction all (length so_far) s.line) some ∙ no_instruction all (length so_far) s.line c f e) in
    sym r.same ∙ ap (λ ss. instructions all (length so_far) ss >>= λ is. Ok (so_far ++ is)) is ∙ ap (λ q. q >>= λ is. Ok (so_far ++ is)) one

-- a statement whose instruction is added
pub adds : (all : List Statement) (so_far now : List Meant) (rest next : List Statement) (s : Statement) (goal : Result (List Meant) AsmFault) → ResolvesOn all so_far rest goal → rest ≡ s ∷ next
    → with_instruction all so_far s ≡ Ok now → ResolvesOn all now next goal
adds all so_far now rest next s goal r is e = at_command s.command refl e
  where
    at_instruction : (c : Command) → s.command ≡ Some c → (q : Result Meant AsmFault) → instruction all (length so_far) s.line c ≡ q → ((q >>= λ i. Ok (i ∷ [])) >>= λ i. Ok (so_far ++ i)) ≡ Ok now → ResolvesOn all now next goal
    at_instruction c some (Ok i) meant e = let same : now ≡ so_far ++ i ∷ [] = cc in goes_on all so_far now rest next s c i goal r is some meant same
    at_instruction c some (Err f) meant e = absurd cc

    at_command : (c : Option Command) → s.command ≡ c → (optional_instruction all (length so_far) s.line c >>= λ i. Ok (so_far ++ i)) ≡ Ok now → ResolvesOn all now next goal
    at_command None none e =
        let same : so_far ++ [] ≡ now = cc in
        subst (λ xs. ResolvesOn all xs next goal) (sym (append-nil so_far) ∙ same) (passes all so_far rest next s goal r is none)
    at_command (Some c) some e = at_instruction c some (instruction all (length so_far) s.line c) refl e

-- a statement whose instruction is refused
pub refuses : (all : List Statement) (so_far : List Meant) (rest next : List Statement) (s : Statement) (d : Failure AsmFault) (goal : Result (List Meant) AsmFault) → ResolvesOn all so_far rest goal → rest ≡ s ∷ next
    → Fails d (with_instruction all so_far s) → Fails d goal
refuses all so_far rest next s failure.Memory goal r is e = tt
refuses all so_far rest next s (failure.Fault f) goal r is e = at_command s.command refl e
  where
    at_instruction : (c : Command) → s.command ≡ Some c → (q : Result Meant AsmFault) → instruction all (length so_far) s.line c ≡ q → ((q >>= λ i. Ok (i ∷ [])) >>= λ i. Ok (so_far ++ i)) ≡ Err f → goal ≡ Err f
    at_instruction c some (Ok i) meant e = absurd cc
    at_instruction c some (Err g) meant e = let same : g ≡ f = cc in stops all so_far rest next s c (failure.Fault f) goal r is some (meant ∙ ap (λ h. Err h) same)

    at_command : (c : Option Command) → s.command ≡ c → (optional_instruction all (length so_far) s.line c >>= λ i. Ok (so_far ++ i)) ≡ Err f → goal ≡ Err f
    at_command None none e = absurd cc
    at_command (Some c) some e = at_instruction c some (instruction all (length so_far) s.line c) refl e

at_end : (all : List Statement) (n : ℕ) → instructions all n [] ≡ Ok []
unfolding instructions
at_end all n = refl

-- where no statement is left, the instructions so far are those that are meant
pub is_done : (all : List Statement) (so_far : List Meant) (rest : List Statement) (goal : Result (List Meant) AsmFault) → ResolvesOn all so_far rest goal → rest ≡ [] → goal ≡ Ok so_far
is_done all so_far rest goal r e =
    sym r.same ∙ ap (λ ss. instructions all (length so_far) ss >>= λ is. Ok (so_far ++ is)) e ∙ ap (λ q. q >>= λ is. Ok (so_far ++ is)) (at_end all (length so_far)) ∙ ap (λ xs. Ok xs) (append-nil so_far)

-- at most two blocks of gathered constants stand in front
pub blocks_few : (all : List Statement) → length (gathered_blocks all) ≤ 2
blocks_few all = at_tests (eqb (length (gathered_uints all)) 0) (eqb (length (gathered_strings all)) 0) _ _
  where
    at_tests : (a b : Bool) (x y : Meant) → length (cond a [] (x ∷ []) ++ cond b [] (y ∷ [])) ≤ 2
    at_tests true true x y = omega arith
    at_tests true false x y = omega arith
    at_tests false true x y = omega arith
    at_tests false false x y = omega arith
