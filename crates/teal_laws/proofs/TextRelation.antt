-- What a text means is what its commands mean, each by itself.
use Rattle.std.proofs.Common.{◌≡◌, ℕ, zero, suc, ◌+◌, ◌<◌, Bool, true, false, cond, not, eqb, ltb, ◌||◌, nat_eq, nat_le, List, [], ◌∷◌, ◌++◌, length, map, slice_get, Option, Some, None, Result, Ok, Err, refl, sym, ap, subst, ◌∙◌, append_assoc, length-append, arith}
use Rattle.std.specs.declared.cmp.Ordering.TheVariants.{Less}
use Rattle.std.specs.Cmp.{IsEquivalence}
use Rattle.std.specs.List.{AllByRecursion, list_any, position_or_len}
use Rattle.std.specs.List.Sorted.{IsStrictlySortedBy}
use Rattle.std.specs.Map.{lookup}
use Rattle.std.specs.Option.{option_to_list}
use Rattle.std.specs.Ordering.{nat_cmp}
use Rattle.std.specs.Str.{bytes_eq}
use Rattle.std.proofs.lemmas.Bool.Decides.{nat_tests}
use Rattle.std.proofs.lemmas.Bool.{eq-eqb, eqb-true, lt-ltb}
use Rattle.std.proofs.lemmas.List.{append-nil}
use Rattle.std.proofs.lemmas.List.Folds.{list_any-append, position_or_len_push}
use Rattle.std.proofs.lemmas.Map.Views.{Contains-from_any, list_any-from_Contains}
use Rattle.std.proofs.lemmas.Slice.Eq.{bytes_eq-Decides}
use Rattle.teal_value.specs.Answer.{◌>>=◌}
use Rattle.teal_table.specs.declared.shape.Version.{Version}
use Rattle.teal_table.specs.declared.opcode.Opcode.{Opcode}
use Rattle.teal_source.specs.declared.command.Command.{Command}
use Rattle.teal_source.specs.declared.command.Command.TheVariants.{Int, Byte, Jump, Plain}
use Rattle.teal_source.specs.declared.fault.AsmFault.{AsmFault}
use Rattle.teal_source.specs.declared.fault.AsmFaultKind.TheVariants as kind
use Rattle.teal_source.specs.declared.statement.Statement.{Statement}
use Rattle.teal_source.specs.Operands.{Word}
use Rattle.teal_source.specs.Statements.{Words, distinct, with_new, fault_at, gathered_uints, gathered_strings, on_text, pragma_version, statements, words_of_lines}
use Rattle.teal_text.specs.Lines.{LineTokens, lines_of}
use Rattle.teal_asm.specs.Constants.{HasConstant, HasConstants, HasItsConstant}
use Rattle.teal_asm.specs.Meaning.{Meant, Branch, Meaning, branch, commands_in, label_entry, labels_from, label_number, gathered_blocks, instruction, optional_instruction, instructions, all_instructions, meaning, meaning_of_lines, meaning_with}
use Rattle.teal_asm.proofs.Resolving.{each_has_its_constant}
use Rattle.teal_laws.specs.TextRelation.{commands_of, named_uints, named_strings, AreGathered, StandsBefore, IsMeantBy, AreMeantBy, IsWhatItSays}

-- ---- constants

lower : (a b : ℕ) → a < b → nat_cmp a b ≡ Less
lower a b lt = let test : ltb a b ≡ true = lt-ltb a b lt in rw test refl

sorted_end : (xs : List ℕ) (k : ℕ) → IsStrictlySortedBy nat_cmp xs → AllByRecursion (λ y. y < k) xs → IsStrictlySortedBy nat_cmp (xs ++ k ∷ [])
unfolding IsStrictlySortedBy
sorted_end [] k s below = (tt, tt)
sorted_end (x ∷ xs) k s below = (all_end xs s.0, sorted_end xs k s.1 below.1)
  where
    all_end : (ys : List ℕ) → AllByRecursion (λ y. nat_cmp x y ≡ Less) ys → AllByRecursion (λ y. nat_cmp x y ≡ Less) (ys ++ k ∷ [])
    all_end [] h = (lower x k below.0, tt)
    all_end (y ∷ ys) h = (h.0, all_end ys h.1)

module _ {A : Type 0} (eq : A → A → Bool) (self : (x : A) → eq x x ≡ true) (one : (x y : A) → eq x y ≡ true → x ≡ y) where
  -- how many of the values stand before the first of this value
  abbrev before : List A → A → ℕ
  before named c = position_or_len (eq c) named

  -- the constants of the values so far, as the walk has them
  record SoFar (named constants : List A) : Type 0 where
    same : (x : A) → list_any (eq x) constants ≡ list_any (eq x) named
    within : AllByRecursion (λ c. before named c < length named) constants
    order : IsStrictlySortedBy nat_cmp (map (before named) constants)

  stays : (named : List A) (x c : A) → before named c < length named → before (named ++ x ∷ []) c ≡ before named c
  stays named x c lt = position_or_len_push (eq c) named x ∙ at_test (eqb (before named c) (length named)) refl
    where
      at_test : (b : Bool) → eqb (before named c) (length named) ≡ b → cond b (length named + cond (eq c x) 0 1) (before named c) ≡ before named c
      at_test true e = let is = eqb-true (before named c) (length named) e in absurd (omega (arith, is, lt))
      at_test false e = refl

  absent : (named : List A) (c : A) → list_any (eq c) named ≡ false → before named c ≡ length named
  absent [] c e = refl
  absent (x ∷ xs) c e = at_test (eq c x) (absent xs c) e
    where
      at_test : (b : Bool) → (list_any (eq c) xs ≡ false → position_or_len (eq c) xs ≡ length xs) → (b || list_any (eq c) xs) ≡ false → cond (not b) (1 + position_or_len (eq c) xs) 0 ≡ suc (length xs)
      at_test true later e = absurd cc
      at_test false later e = let rest : position_or_len (eq c) xs ≡ length xs = later e in omega (arith, rest)

  is_new : (named : List A) (x : A) → list_any (eq x) named ≡ false → before (named ++ x ∷ []) x ≡ length named
  is_new named x e =
      position_or_len_push (eq x) named x
      ∙ ap (λ n. cond (eqb n (length named)) (length named + cond (eq x x) 0 1) n) (absent named x e)
      ∙ ap (λ b. cond b (length named + cond (eq x x) 0 1) (length named)) (eq-eqb (length named) (length named) refl)
      ∙ ap (λ b. length named + cond b 0 1) (self x) ∙ omega arith

  still_within : (named constants : List A) (x : A) → AllByRecursion (λ c. before named c < length named) constants → AllByRecursion (λ c. before (named ++ x ∷ []) c < length (named ++ x ∷ [])) constants
  still_within named [] x h = tt
  still_within named (c ∷ cs) x h = (omega (arith, stays named x c h.0, h.0, length-append named (x ∷ [])), still_within named cs x h.1)

  map_stays : (named constants : List A) (x : A) → AllByRecursion (λ c. before named c < length named) constants → map (before (named ++ x ∷ [])) constants ≡ map (before named) constants
  map_stays named [] x h = refl
  map_stays named (c ∷ cs) x h = ap (λ n. n ∷ map (before (named ++ x ∷ [])) cs) (stays named x c h.0) ∙ ap (λ ns. before named c ∷ ns) (map_stays named cs x h.1)

  map_within : (named constants : List A) → AllByRecursion (λ c. before named c < length named) constants → AllByRecursion (λ n. n < length named) (map (before named) constants)
  map_within named [] h = tt
  map_within named (c ∷ cs) h = (h.0, map_within named cs h.1)

  map-end : (f : A → ℕ) (cs : List A) (x : A) → map f (cs ++ x ∷ []) ≡ map f cs ++ f x ∷ []
  map-end f [] x = refl
  map-end f (c ∷ cs) x = ap (λ ns. f c ∷ ns) (map-end f cs x)

  all_end : (P : A → Type 0) (cs : List A) (x : A) → AllByRecursion P cs → P x → AllByRecursion P (cs ++ x ∷ [])
  all_end P [] x h p = (p, tt)
  all_end P (c ∷ cs) x h p = (h.0, all_end P cs x h.1 p)

  or_same : (y x : A) (b : Bool) → (y ≡ x → b ≡ true) → (t : Bool) → eq y x ≡ t → b ≡ (b || (t || false))
  or_same y x true h t e = refl
  or_same y x false h true e = h (one y x e)
  or_same y x false h false e = refl

  one_more : (named constants : List A) (x : A) → SoFar named constants → SoFar (named ++ x ∷ []) (with_new eq constants x)
  one_more named constants x s = at_test (list_any (eq x) constants) refl
    where
      again : (y : A) → list_any (eq x) constants ≡ true → list_any (eq y) constants ≡ list_any (eq y) (named ++ x ∷ [])
      again y e = s.same y ∙ or_same y x (list_any (eq y) named) (λ is. ap (λ z. list_any (eq z) named) is ∙ sym (s.same x) ∙ e) (eq y x) refl ∙ sym (list_any-append (eq y) named (x ∷ []))

      first : (y : A) → list_any (eq y) (constants ++ x ∷ []) ≡ list_any (eq y) (named ++ x ∷ [])
      first y = list_any-append (eq y) constants (x ∷ []) ∙ ap (λ b. b || list_any (eq y) (x ∷ [])) (s.same y) ∙ sym (list_any-append (eq y) named (x ∷ []))

      at_test : (b : Bool) → list_any (eq x) constants ≡ b → SoFar (named ++ x ∷ []) (cond b constants (constants ++ x ∷ []))
      at_test true e = record {
        same = λ y. again y e;
        within = still_within named constants x s.within;
        order = subst (IsStrictlySortedBy nat_cmp) (sym (map_stays named constants x s.within)) s.order;
      }
      at_test false e =
          let place : before (named ++ x ∷ []) x ≡ length named = is_new named x (sym (s.same x) ∙ e) in
          let all = map_stays named constants x s.within in
          let places : map (before (named ++ x ∷ [])) (constants ++ x ∷ []) ≡ map (before named) constants ++ length named ∷ [] =
          map-end (before (named ++ x ∷ [])) constants x ∙ ap (λ ns. ns ++ before (named ++ x ∷ []) x ∷ []) all ∙ ap (λ n. map (before named) constants ++ n ∷ []) place in
          record {
            same = first;
            within = all_end (λ c. before (named ++ x ∷ []) c < length (named ++ x ∷ [])) constants x (still_within named constants x s.within) (omega (arith, place, length-append named (x ∷ [])));
            order = subst (IsStrictlySortedBy nat_cmp) (sym places) (sorted_end (map (before named) constants) (length named) s.order (map_within named constants s.within));
          }

  goes_on : (named constants rest : List A) → SoFar named constants → SoFar (named ++ rest) (distinct eq constants rest)
  goes_on named constants [] s = subst (λ xs. SoFar xs constants) (sym (append-nil named)) s
  goes_on named constants (x ∷ xs) s =
      subst (λ ys. SoFar ys (distinct eq (with_new eq constants x) xs)) (append_assoc named (x ∷ []) xs) (goes_on (named ++ x ∷ []) (with_new eq constants x) xs (one_more named constants x s))

  nothing : SoFar [] []
  unfolding IsStrictlySortedBy
  nothing = record { same = λ x. refl; within = tt; order = tt }

  same_both : (x y : A) (t u : Bool) → eq x y ≡ t → eq y x ≡ u → t ≡ u
  same_both x y true true e f = refl
  same_both x y false false e f = refl
  same_both x y true false e f = sym (self x) ∙ ap (λ z. eq z x) (one x y e) ∙ f
  same_both x y false true e f = sym e ∙ ap (eq x) (one y x f) ∙ self x

  equal : IsEquivalence eq
  equal = record { refl = self; symm = λ x y. same_both x y (eq x y) (eq y x) refl refl; congr = λ x y z e. ap (λ w. eq w z) (one x y e) }

  are_gathered : (named : List A) → AreGathered eq named (distinct eq [] named)
  are_gathered named =
      let s = goes_on [] [] named nothing in
      record {
        same = λ x. (
          (λ c. Contains-from_any one x named (sym (s.same x) ∙ list_any-from_Contains equal x _ c)),
          (λ c. Contains-from_any one x _ (s.same x ∙ list_any-from_Contains equal x named c)),
        );
        order = s.order;
      }

  -- a constant stands where it is found
  found : (x : A) (ks : List A) → list_any (eq x) ks ≡ true → slice_get ks (position_or_len (eq x) ks) ≡ Some x
  found x [] e = absurd cc
  found x (k ∷ ks) e = at_test (eq x k) refl (found x ks) e
    where
      one_on : (n : ℕ) → slice_get (k ∷ ks) (1 + n) ≡ slice_get ks n
      one_on n = let e : 1 + n ≡ suc n = omega arith in ap (slice_get (k ∷ ks)) e

      at_test : (b : Bool) → eq x k ≡ b → (list_any (eq x) ks ≡ true → slice_get ks (position_or_len (eq x) ks) ≡ Some x) → (b || list_any (eq x) ks) ≡ true → slice_get (k ∷ ks) (cond (not b) (1 + position_or_len (eq x) ks) 0) ≡ Some x
      at_test true is later e = ap (λ z. Some z) (sym (one x k is))
      at_test false is later e = one_on (position_or_len (eq x) ks) ∙ later e

pub uints_gathered : (named : List ℕ) → AreGathered nat_eq named (distinct nat_eq [] named)
uints_gathered = are_gathered nat_eq (λ n. eq-eqb n n refl) (λ n m e. eqb-true n m e)

pub strings_gathered : (named : List (List ℕ)) → AreGathered bytes_eq named (distinct bytes_eq [] named)
strings_gathered = are_gathered bytes_eq (λ s. (bytes_eq-Decides s s).1 refl) (λ s t e. (bytes_eq-Decides s t).0 e)

uint_found : (n : ℕ) (ks : List ℕ) → list_any (nat_eq n) ks ≡ true → slice_get ks (position_or_len (nat_eq n) ks) ≡ Some n
uint_found = found nat_eq (λ n. eq-eqb n n refl) (λ n m e. eqb-true n m e)

string_found : (s : List ℕ) (ks : List (List ℕ)) → list_any (bytes_eq s) ks ≡ true → slice_get ks (position_or_len (bytes_eq s) ks) ≡ Some s
string_found = found bytes_eq (λ s. (bytes_eq-Decides s s).1 refl) (λ s t e. (bytes_eq-Decides s t).0 e)

-- the constant of each command is among those of all
its_constant : (uints : List ℕ) (strings : List (List ℕ)) (ss : List Statement) (k : ℕ) (c : Command) → HasConstants uints strings ss → slice_get (commands_of ss) k ≡ Some c → HasConstant uints strings c
its_constant uints strings [] k c h e = absurd cc
its_constant uints strings (s ∷ ss) k c h e = at_command s.command k h.0 (λ n. its_constant uints strings ss n c h.1) e
  where
    at_command : (d : Option Command) (k : ℕ) → HasItsConstant uints strings d → ((n : ℕ) → slice_get (commands_of ss) n ≡ Some c → HasConstant uints strings c) → slice_get (option_to_list d ++ commands_of ss) k ≡ Some c → HasConstant uints strings c
    at_command None k own later e = later k e
    at_command (Some d) zero own later e = let same : d ≡ c = cc in subst (HasConstant uints strings) same own
    at_command (Some d) (suc k) own later e = later k e

-- ---- labels

commands_counted : (c : Option Command) → length (option_to_list c) ≡ commands_in c
commands_counted None = refl
commands_counted (Some c) = refl

below_another : (n : ℕ) (s : Statement) (ss : List Statement) (label : Word) (t : ℕ) → StandsBefore (n + commands_in s.command) ss label t → StandsBefore n (s ∷ ss) label t
below_another n s ss label t b = record {
  above = s ∷ b.above;
  labelled = b.labelled;
  below = b.below;
  text = ap (λ ls. s ∷ ls) b.text;
  label_is = b.label_is;
  number_is = omega (arith, b.number_is, length-append (option_to_list s.command) (commands_of b.above), commands_counted s.command);
}

label_stands : (label : Word) (n : ℕ) (ss : List Statement) (t : ℕ) → lookup (bytes_eq label) (labels_from n ss) ≡ Some t → StandsBefore n ss label t
unfolding labels_from
label_stands label n [] t e = absurd cc
label_stands label n (s ∷ ss) t e = at_label s.label refl (λ below. below_another n s ss label t (label_stands label (n + commands_in s.command) ss t below)) e
  where
    at_test : (l : Word) → s.label ≡ Some l → (b : Bool) → bytes_eq label l ≡ b → (lookup (bytes_eq label) (labels_from (n + commands_in s.command) ss) ≡ Some t → StandsBefore n (s ∷ ss) label t) → cond b (Some n) (lookup (bytes_eq label) (labels_from (n + commands_in s.command) ss)) ≡ Some t → StandsBefore n (s ∷ ss) label t
    at_test l is true same later e =
        let here : n ≡ t = cc in
        record { above = []; labelled = s; below = ss; text = refl; label_is = is ∙ ap (λ w. Some w) (sym ((bytes_eq-Decides label l).0 same)); number_is = omega (arith, here) }
    at_test l is false other later e = later e

    at_label : (o : Option Word) → s.label ≡ o → (lookup (bytes_eq label) (labels_from (n + commands_in s.command) ss) ≡ Some t → StandsBefore n (s ∷ ss) label t) → lookup (bytes_eq label) (label_entry o n ++ labels_from (n + commands_in s.command) ss) ≡ Some t → StandsBefore n (s ∷ ss) label t
    at_label None is later e = later e
    at_label (Some l) is later e = at_test l is (bytes_eq label l) refl later e

-- ---- one instruction a command

record AtEach (all : List Statement) (number : ℕ) (cs : List Command) (is : List Meant) : Type 0 where
  as_many : length is ≡ length cs
  each : (k : ℕ) (c : Command) → slice_get cs k ≡ Some c → (i : Meant) × (line : ℕ) × (slice_get is k ≡ Some i) × (instruction all (number + k) line c ≡ Ok i)

one_in_front : (all : List Statement) (n line : ℕ) (c : Command) (i : Meant) (cs : List Command) (is : List Meant) → instruction all n line c ≡ Ok i → AtEach all (n + 1) cs is → AtEach all n (c ∷ cs) (i ∷ is)
one_in_front all n line c i cs is e rest = record { as_many = ap suc rest.as_many; each = each }
  where
    each : (k : ℕ) (d : Command) → slice_get (c ∷ cs) k ≡ Some d → (j : Meant) × (at : ℕ) × (slice_get (i ∷ is) k ≡ Some j) × (instruction all (n + k) at d ≡ Ok j)
    each zero d at =
        let same : c ≡ d = cc in
        let here : n + 0 ≡ n = omega arith in
        (i, line, refl, ap (λ m. instruction all m line d) here ∙ ap (instruction all n line) (sym same) ∙ e)
    each (suc k) d at =
        let r = rest.each k d at in
        let there : n + suc k ≡ n + 1 + k = omega arith in
        (r.0, r.1, r.2, ap (λ m. instruction all m r.1 d) there ∙ r.3)

abbrev WalksOn : List Statement → List Statement → Type 0
WalksOn all ss = (m : ℕ) (more : List Meant) → instructions all m ss ≡ Ok more → AtEach all m (commands_of ss) more

in_order : (all : List Statement) (n : ℕ) (ss : List Statement) (is : List Meant) → instructions all n ss ≡ Ok is → AtEach all n (commands_of ss) is
unfolding instructions
in_order all n [] is e =
    let none : [] ≡ is = cc in
    subst (AtEach all n []) none (record { as_many = refl; each = λ k c at. absurd cc })
in_order all n (s ∷ ss) is e = at_command s.command (λ m. in_order all m ss) e
  where
    at_none : (m : ℕ) → m ≡ n → WalksOn all ss → (q : Result (List Meant) AsmFault) → instructions all m ss ≡ q → (q >>= λ more. Ok more) ≡ Ok is → AtEach all n (commands_of ss) is
    at_none m here rest (Ok more) meant e = let same : more ≡ is = cc in subst (λ k. AtEach all k (commands_of ss) is) here (rest m is (meant ∙ ap (λ xs. Ok xs) same))
    at_none m here rest (Err f) meant e = absurd cc

    at_rest : (c : Command) (i : Meant) → WalksOn all ss → instruction all n s.line c ≡ Ok i → (q : Result (List Meant) AsmFault) → instructions all (n + 1) ss ≡ q → (q >>= λ more. Ok (i ∷ more)) ≡ Ok is → AtEach all n (c ∷ commands_of ss) is
    at_rest c i rest first (Ok more) meant e =
        let same : i ∷ more ≡ is = cc in
        subst (AtEach all n (c ∷ commands_of ss)) same (one_in_front all n s.line c i (commands_of ss) more first (rest (n + 1) more meant))
    at_rest c i rest first (Err f) meant e = absurd cc

    at_first : (c : Command) → WalksOn all ss → (q : Result Meant AsmFault) → instruction all n s.line c ≡ q → ((q >>= λ i. Ok (i ∷ [])) >>= λ i. instructions all (n + 1) ss >>= λ more. Ok (i ++ more)) ≡ Ok is → AtEach all n (c ∷ commands_of ss) is
    at_first c rest (Ok i) first e = at_rest c i rest first (instructions all (n + 1) ss) refl e
    at_first c rest (Err f) first e = absurd cc

    at_command : (c : Option Command) → WalksOn all ss → (optional_instruction all n s.line c >>= λ i. instructions all (n + commands_in c) ss >>= λ more. Ok (i ++ more)) ≡ Ok is → AtEach all n (option_to_list c ++ commands_of ss) is
    at_command None rest e = at_none (n + 0) (omega arith) rest (instructions all (n + 0) ss) refl e
    at_command (Some c) rest e = at_first c rest (instruction all n s.line c) refl e

-- ---- what each is

ok_is : {A F : Type 0} {x y : A} → ◌≡◌ {A = Result A F} (Ok x) (Ok y) → y ≡ x
ok_is e = cc

branch_is : (first : ℕ) (ss : List Statement) (number line : ℕ) (o : Opcode) (label : Word) (i : Meant) (t : Option ℕ) → label_number first ss label ≡ t → branch line o number t ≡ Ok i
    → (target : ℕ) × (i ≡ Branch o target) × (number < target) × StandsBefore first ss label target
branch_is first ss number line o label i None at e = absurd cc
branch_is first ss number line o label i (Some t) at e = at_test (nat_le t number) refl e
  where
    at_test : (b : Bool) → nat_le t number ≡ b → cond b (fault_at line kind.LabelBehind) (Ok (Branch o t)) ≡ Ok i → (target : ℕ) × (i ≡ Branch o target) × (number < target) × StandsBefore first ss label target
    at_test true le e = absurd cc
    at_test false le e = (t, ok_is e, grind (arith, nat_tests, le), label_stands label first ss t at)

what_it_is : (ss : List Statement) (first number line : ℕ) (c : Command) (i : Meant) → first ≡ length (gathered_blocks ss) → HasConstant (gathered_uints ss) (gathered_strings ss) c → instruction ss number line c ≡ Ok i
    → IsMeantBy (gathered_uints ss) (gathered_strings ss) first ss number c i
what_it_is ss first number line (Int n) i is h e = (position_or_len (nat_eq n) (gathered_uints ss), uint_found n (gathered_uints ss) h, ok_is e)
what_it_is ss first number line (Byte s) i is h e = (position_or_len (bytes_eq s) (gathered_strings ss), string_found s (gathered_strings ss) h, ok_is e)
what_it_is ss first number line (Jump o label) i is h e = subst (λ f. IsMeantBy (gathered_uints ss) (gathered_strings ss) f ss number (Jump o label) i) (sym is) (branch_is (length (gathered_blocks ss)) ss number line o label i (label_number (length (gathered_blocks ss)) ss label) refl e)
what_it_is ss first number line (Plain o immediates) i is h e = ok_is e

are_meant : (ss : List Statement) (is : List Meant) → all_instructions ss ≡ Ok is → AreMeantBy ss is
are_meant ss is e = at_body (instructions ss (length (gathered_blocks ss)) ss) refl e
  where
    at_body : (q : Result (List Meant) AsmFault) → instructions ss (length (gathered_blocks ss)) ss ≡ q → (q >>= λ body. Ok (gathered_blocks ss ++ body)) ≡ Ok is → AreMeantBy ss is
    at_body (Err f) meant e = absurd cc
    at_body (Ok body) meant e =
        let walk = in_order ss (length (gathered_blocks ss)) ss body meant in
        record {
          uints = gathered_uints ss;
          strings = gathered_strings ss;
          blocks = gathered_blocks ss;
          body = body;
          uints_are = uints_gathered (named_uints ss);
          strings_are = strings_gathered (named_strings ss);
          blocks_are = refl;
          in_front = ok_is e;
          as_many = walk.as_many;
          each = λ k c at.
              let r = walk.each k c at in
              (r.0, r.2, what_it_is ss (length (gathered_blocks ss)) (length (gathered_blocks ss) + k) r.1 c r.0 refl (its_constant (gathered_uints ss) (gathered_strings ss) ss k c (each_has_its_constant ss) at) r.3);
        }

-- ---- the text

-- where a text has a meaning, its instructions are what its statements mean
pub what_it_says : (text : List ℕ) (m : Meaning) → meaning text ≡ Ok m → IsWhatItSays text m.version m.instructions
unfolding meaning
what_it_says text m e = at_lines (on_text (lines_of text)) refl e
  where
    at_instructions : (l : Words) (ls : List Words) (version : Version) (ss : List Statement) → (on_text (lines_of text) >>= λ ts. Ok (words_of_lines text ts)) ≡ Ok (l ∷ ls) → pragma_version l ≡ Ok version → statements version [] ls ≡ Ok ss
        → (q : Result (List Meant) AsmFault) → all_instructions ss ≡ q → (q >>= λ is. Ok (record { version = version; instructions = is })) ≡ Ok m → IsWhatItSays text m.version m.instructions
    at_instructions l ls version ss words named read (Err f) meant e = absurd cc
    at_instructions l ls version ss words named read (Ok is) meant e =
        subst (λ (x : Meaning). IsWhatItSays text x.version x.instructions) (sym (ok_is e))
        (record { statements = ss; of_text = record { pragma = l; lines = ls; words = words; names = named; statements_are = read }; meant = are_meant ss is meant })

    at_statements : (l : Words) (ls : List Words) (version : Version) → (on_text (lines_of text) >>= λ ts. Ok (words_of_lines text ts)) ≡ Ok (l ∷ ls) → pragma_version l ≡ Ok version → (q : Result (List Statement) AsmFault) → statements version [] ls ≡ q
        → (q >>= λ ss. all_instructions ss >>= λ is. Ok (record { version = version; instructions = is })) ≡ Ok m → IsWhatItSays text m.version m.instructions
    at_statements l ls version words named (Err f) read e = absurd cc
    at_statements l ls version words named (Ok ss) read e = at_instructions l ls version ss words named read (all_instructions ss) refl e

    at_pragma : (l : Words) (ls : List Words) → (on_text (lines_of text) >>= λ ts. Ok (words_of_lines text ts)) ≡ Ok (l ∷ ls) → (q : Result Version AsmFault) → pragma_version l ≡ q → meaning_with q ls ≡ Ok m → IsWhatItSays text m.version m.instructions
    at_pragma l ls words (Err f) named e = absurd cc
    at_pragma l ls words (Ok version) named e = at_statements l ls version words named (statements version [] ls) refl e

    at_words : (ws : List Words) → (on_text (lines_of text) >>= λ ts. Ok (words_of_lines text ts)) ≡ Ok ws → meaning_of_lines ws ≡ Ok m → IsWhatItSays text m.version m.instructions
    at_words [] words e = absurd cc
    at_words (l ∷ ls) words e = at_pragma l ls words (pragma_version l) refl e

    at_lines : (q : Result (List LineTokens) AsmFault) → on_text (lines_of text) ≡ q → (q >>= λ ls. meaning_of_lines (words_of_lines text ls)) ≡ Ok m → IsWhatItSays text m.version m.instructions
    at_lines (Err f) read e = absurd cc
    at_lines (Ok ls) read e = at_words (words_of_lines text ls) (ap (λ q. q >>= λ ts. Ok (words_of_lines text ts)) read) e
