-- The instructions of a checked program stand one behind another, and its branches lead to one of them or the end.
use Rattle.std.proofs.Common.{◌≡◌, ◌<◌, ◌≤◌, ◌+◌, ◌-◌, ◌*◌, ℕ, zero, suc, Bool, true, false, eqb, ltb, if◌then◌else◌, List, [], ◌∷◌, length, drop, Option, None, Some, Result, Ok, Err, refl, sym, ap, ◌∙◌, subst, arith, inl, inr, eq-eqb, length-drop}
use Rattle.std.specs.Prelude.{◌==◌, ◌||◌, is_ok}
use Rattle.std.specs.Option.{ok_or, option_map}
use Rattle.std.proofs.lemmas.Bool.{eqb-true, ltb-false}
use Rattle.teal_value.specs.Answer.{◌>>=◌}
use Rattle.teal_value.proofs.Binding.{bind_ok, chosen}
use Rattle.teal_table.specs.declared.shape.Shape.TheVariants as shape
use Rattle.teal_table.specs.declared.shape.Version.{Version}
use Rattle.teal_table.specs.declared.shape.Version.TheVariants.{Two, Three}
use Rattle.teal_table.specs.declared.opcode.Opcode.{Opcode}
use Rattle.teal_table.specs.declared.opcode.Opcode.TheVariants as op
use Rattle.teal_table.specs.Table.{row_of, opcode_in}
use Rattle.teal_code.specs.declared.decode.CodeFault.{CodeFault}
use Rattle.teal_code.specs.declared.instr.Immediates.{Immediates}
use Rattle.teal_code.specs.declared.instr.Immediates.TheVariants as is
use Rattle.teal_code.specs.declared.instr.Instr.{Instr}
use Rattle.teal_code.specs.Reader.{Read, varuint_at, instr_at, with_opcode, immediates_at, read_at}
use Rattle.teal_code.specs.Limits.{most_cost}
use Rattle.teal_check.specs.declared.fault.CheckFault.{CheckFault}
use Rattle.teal_check.specs.declared.fault.CheckFault.TheVariants as fault
use Rattle.teal_check.specs.declared.program.PlacedInstr.{PlacedInstr}
use Rattle.teal_check.specs.WellFormed.{WellFormed, on_code, version_of, placed_at, placed_from, places, first_index, number_of_place, target_of, with_targets, checked}
use Rattle.teal_check.specs.WellFormed as check
use Rattle.teal_check.proofs.CheckedPrograms.{is_checked, is_placed, placed_forward, placed_rises, length-places}
use Rattle.avm_ops.specs.Immediates.{offset_of}
use Rattle.avm_ops.specs.Steps.{branch_target}
use Rattle.avm_items.specs.Items.{ItemMap}
use Rattle.avm_items.specs.Counting.{AsksAtMost, Any}
use Rattle.avm_items.proofs.Counting.{at_most-more}
use Rattle.avm_call.specs.Runs.{Execution, version_of_number, version_in_front, path, whole_path}
use Rattle.avm_call.specs.Ends.{HasEnded, is_start, is_start_or_end, IsLaidOut}
use Rattle.avm_call.proofs.Steps.{steps_are_instructions, whole_path_steps}

-- ---- the version

numbered_by : (n m : ℕ) (v : Version × ℕ) (a b : Bool) → (n == 2) ≡ a → (n == 3) ≡ b
    → ◌≡◌ {A = Result (Version × ℕ) CheckFault} ((if a then Ok Two else if b then Ok Three else Err fault.Version) >>= λ w. Ok (w, m)) (Ok v) → ◌≡◌ {A = Version × ℕ} ((if b then Three else Two), m) v
numbered_by n m v true true p q e =
    let x = eqb-true n 2 p in
    let y = eqb-true n 3 q in
    absurd (omega arith)
numbered_by n m v true false p q e = cc
numbered_by n m v false true p q e = cc
numbered_by n m v false false p q e = absurd cc

version_by : (bytes : List ℕ) (v : Version × ℕ) (r : Read ℕ) → (on_code 0 r >>= λ n. version_of n.0 >>= λ w. Ok (w, length bytes - length n.1)) ≡ Ok v
    → elim r as (λ _. Version × ℕ) [ Ok n ↦ (version_of_number n.0, length bytes - length n.1) | Err e ↦ (Two, 0) ] ≡ v
version_by bytes v (Err f) e = absurd cc
version_by bytes v (Ok (n, rest)) e = numbered_by n (length bytes - length rest) v (n == 2) (n == 3) refl refl e

version_same : (bytes : List ℕ) (v : Version × ℕ) → check.version_at bytes ≡ Ok v → version_in_front bytes ≡ v
version_same bytes v e = version_by bytes v (varuint_at bytes) e

-- ---- starts

or_later : (a b c : Bool) → (a || c) ≡ true → (a || (b || c)) ≡ true
or_later true b c h = refl
or_later false true c h = refl
or_later false false c h = h

later : (s : ℕ) (ss : List ℕ) (end x : ℕ) → is_start_or_end ss end x ≡ true → is_start_or_end (s ∷ ss) end x ≡ true
later s ss end x h = or_later (x == end) (x == s) (is_start ss x) h

or_here : (a b c : Bool) → b ≡ true → (a || (b || c)) ≡ true
or_here true b c h = refl
or_here false true c h = refl
or_here false false c h = absurd cc

is_the_end : (ss : List ℕ) (end x : ℕ) → x ≡ end → is_start_or_end ss end x ≡ true
is_the_end ss end x e = ap (λ b. b || is_start ss x) (eq-eqb x end e)

first_start : (n : ℕ) (version : Version) (bytes : List ℕ) (place : ℕ) (ps : List PlacedInstr) → place ≤ length bytes → length bytes ≤ place + n → placed_from n version bytes place ≡ Ok ps
    → is_start_or_end (places ps) (length bytes) place ≡ true
unfolding placed_from
first_start zero version bytes place ps low high e = is_the_end (places ps) (length bytes) place (omega arith)
first_start (suc n) version bytes place ps low high e =
    elim (chosen (eqb place (length bytes)) _ _ _ e) [
      | inl (end, done) ↦ is_the_end (places ps) (length bytes) place (eqb-true place (length bytes) end)
      | inr (before, more) ↦
          let (p, first, others) = bind_ok (placed_at version bytes place) _ _ more in
          let (qs, rest, last) = bind_ok (placed_from n version bytes p.next) _ _ others in
          let same : p ∷ qs ≡ ps = cc in
          let read = is_placed version bytes place p first in
          subst (λ rs. is_start_or_end (places rs) (length bytes) place ≡ true) same
          (or_here (place == length bytes) (place == p.place) (is_start (places qs) place) (eq-eqb place p.place (sym (read.here))))
    ]

-- ---- behind each instruction stands another or the end

same_next : {i j : Instr} {n m : ℕ} → ◌≡◌ {A = Result (Instr × ℕ) CodeFault} (Ok (i, n)) (Ok (j, m)) → (i ≡ j) × (n ≡ m)
same_next {i} {j} {n} {m} e = let both : (i, n) ≡ (j, m) = cc in (ap (λ (p : Instr × ℕ). p.0) both, ap (λ (p : Instr × ℕ). p.1) both)

next_by : (version : Version) (bytes : List ℕ) (p : PlacedInstr) (qs : List PlacedInstr) (x : ℕ) (i : Instr) (next : ℕ) → read_at version bytes p.place ≡ Ok (p.instr, p.next)
    → is_start_or_end (places qs) (length bytes) p.next ≡ true → (is_start (places qs) x ≡ true → is_start_or_end (places qs) (length bytes) next ≡ true)
    → read_at version bytes x ≡ Ok (i, next) → (b : Bool) → (x == p.place) ≡ b → (b || is_start (places qs) x) ≡ true → is_start_or_end (places qs) (length bytes) next ≡ true
next_by version bytes p qs x i next here first others read true e h =
    let place : x ≡ p.place = eqb-true x p.place e in
    let same = same_next (sym here ∙ ap (read_at version bytes) (sym place) ∙ read) in
    subst (λ n. is_start_or_end (places qs) (length bytes) n ≡ true) same.1 first
next_by version bytes p qs x i next here first others read false e h = others h

nexts : (n : ℕ) (version : Version) (bytes : List ℕ) (place : ℕ) (ps : List PlacedInstr) → place ≤ length bytes → length bytes ≤ place + n → placed_from n version bytes place ≡ Ok ps
    → (x : ℕ) (i : Instr) (next : ℕ) → is_start (places ps) x ≡ true → read_at version bytes x ≡ Ok (i, next) → is_start_or_end (places ps) (length bytes) next ≡ true
unfolding placed_from
nexts zero version bytes place ps low high e x i next there read = let none : [] ≡ ps = cc in let no = ap (λ qs. is_start (places qs) x) none ∙ there in absurd cc
nexts (suc n) version bytes place ps low high e x i next there read =
    elim (chosen (eqb place (length bytes)) _ _ _ e) [
      | inl (end, done) ↦ let none : [] ≡ ps = cc in let no = ap (λ qs. is_start (places qs) x) none ∙ there in absurd cc
      | inr (before, more) ↦
          let (p, first, others) = bind_ok (placed_at version bytes place) _ _ more in
          let (qs, rest, last) = bind_ok (placed_from n version bytes p.next) _ _ others in
          let same : p ∷ qs ≡ ps = cc in
          let is = is_placed version bytes place p first in
          let on = placed_forward version bytes place p low first in
          let high' : length bytes ≤ p.next + n = omega (arith, on.1) in
          let here : read_at version bytes p.place ≡ Ok (p.instr, p.next) = ap (read_at version bytes) is.here ∙ is.read in
          let there' : is_start (places (p ∷ qs)) x ≡ true = ap (λ rs. is_start (places rs) x) same ∙ there in
          let behind = first_start n version bytes p.next qs on.2 high' rest in
          subst (λ rs. is_start_or_end (places rs) (length bytes) next ≡ true) same
          (later p.place (places qs) (length bytes) next
          (next_by version bytes p qs x i next here behind (λ h. nexts n version bytes p.next qs on.2 high' rest x i next h read) read (x == p.place) refl there'))
    ]

-- ---- a branch has three bytes, and its target is another instruction or the end

-- an instruction at x with an offset, and the next one three bytes behind
pub record IsOffset (x : ℕ) (i : Instr) (next : ℕ) : Type 0 where
  pub offset : ℕ
  pub is_offset : i.immediates ≡ is.Offset offset
  pub behind : next ≡ x + 3

index_is_start : (x : ℕ) (ss : List ℕ) (k : ℕ) → first_index x ss ≡ Some k → is_start ss x ≡ true
index_is_start x [] k e = absurd cc
index_is_start x (s ∷ ss) k e = by (x == s) (first_index x ss) (index_is_start x ss) e
  where
    by : (b : Bool) (o : Option ℕ) → ((j : ℕ) → o ≡ Some j → is_start ss x ≡ true) → (if b then Some 0 else option_map suc o) ≡ Some k → (b || is_start ss x) ≡ true
    by true o h d = refl
    by false (Some j) h d = h j refl
    by false None h d = absurd cc

number_is_start : (ss : List ℕ) (end t k : ℕ) (b : Bool) → (if b then Some (length ss) else first_index t ss) ≡ Some k → (b || is_start ss t) ≡ true
number_is_start ss end t k true e = refl
number_is_start ss end t k false e = index_is_start t ss k e

ok_or_is : {A E : Type 0} (o : Option A) (f : E) (a : A) → ok_or o f ≡ Ok a → o ≡ Some a
ok_or_is None f a e = absurd cc
ok_or_is (Some b) f a e = let same : b ≡ a = cc in ap (λ z. Some z) same

-- a branch that passed its tests has the number of its target
pub record HasTarget (starts : List ℕ) (end target : ℕ) (t : Option ℕ) : Type 0 where
  pub number : ℕ
  pub is : t ≡ Some number
  pub numbered : number_of_place starts end target ≡ Some number
  pub inside : target ≤ end

-- a branch that passed its tests has a target within the program
pub branch_found : (starts : List ℕ) (end place next offset : ℕ) (t : Option ℕ) → check.resolved_target starts end place next offset ≡ Ok t → HasTarget starts end (next + offset) t
branch_found starts end place next offset t e =
    elim (chosen (ltb 32767 offset) _ _ _ e) [
      | inl (far, bad) ↦ absurd cc
      | inr (near, more) ↦ elim (chosen (ltb end (next + offset)) _ _ _ more) [
        | inl (past, bad) ↦ absurd cc
        | inr (inside, found) ↦
            let (k, numbered, last) = bind_ok (ok_or (number_of_place starts end (next + offset)) (fault.NotAligned place)) _ _ found in
            let same : Some k ≡ t = cc in
            record {
              number = k;
              is = sym same;
              numbered = ok_or_is (number_of_place starts end (next + offset)) (fault.NotAligned place) k numbered;
              inside = ltb-false end (next + offset) inside;
            }
      ]
    ]

branch_is_start : (starts : List ℕ) (end place next offset : ℕ) (t : Option ℕ) → check.resolved_target starts end place next offset ≡ Ok t → is_start_or_end starts end (next + offset) ≡ true
branch_is_start starts end place next offset t e =
    let found = branch_found starts end place next offset t e in
    number_is_start starts end (next + offset) found.number (next + offset == end) found.numbered

offset_at : (bytes : List ℕ) (m : Immediates × List ℕ) → immediates_at shape.Offset bytes ≡ Ok m → (n : ℕ) × (m.0 ≡ is.Offset n) × (length bytes ≡ 2 + length m.1)
offset_at [] m e = absurd cc
offset_at (a ∷ []) m e = absurd cc
offset_at (a ∷ b ∷ rest) m e =
    let same : ◌≡◌ {A = Immediates × List ℕ} (is.Offset (256 * a + b), rest) m = cc in
    let tail : rest ≡ m.1 = ap (λ (p : Immediates × List ℕ). p.1) same in
    (256 * a + b, sym (ap (λ (p : Immediates × List ℕ). p.0) same), omega (arith, ap length tail))

opcode_offset : (o : Option Opcode) (bytes : List ℕ) (y : Instr × List ℕ) → with_opcode o bytes ≡ Ok y → (row_of y.0.opcode).immediates ≡ shape.Offset
    → (n : ℕ) × (y.0.immediates ≡ is.Offset n) × (length bytes ≡ 2 + length y.1)
opcode_offset None bytes y e s = absurd cc
opcode_offset (Some o) bytes y e s =
    let (m, first, last) = bind_ok (immediates_at (row_of o).immediates bytes) _ _ e in
    let same : ◌≡◌ {A = Instr × List ℕ} (record { opcode = o; immediates = m.0 }, m.1) y = cc in
    let opcode : o ≡ y.0.opcode = ap (λ (p : Instr × List ℕ). p.0.opcode) same in
    let shaped : (row_of o).immediates ≡ shape.Offset = ap (λ q. (row_of q).immediates) opcode ∙ s in
    let (n, one, two) = offset_at bytes m (ap (λ h. immediates_at h bytes) (sym shaped) ∙ first) in
    let immediates : m.0 ≡ y.0.immediates = ap (λ (p : Instr × List ℕ). p.0.immediates) same in
    let tail : m.1 ≡ y.1 = ap (λ (p : Instr × List ℕ). p.1) same in
    (n, sym immediates ∙ one, omega (arith, two, ap length tail))

instr_offset : (version : Version) (bytes : List ℕ) (y : Instr × List ℕ) → instr_at version bytes ≡ Ok y → (row_of y.0.opcode).immediates ≡ shape.Offset
    → (n : ℕ) × (y.0.immediates ≡ is.Offset n) × (length bytes ≡ 3 + length y.1)
instr_offset version [] y e s = absurd cc
instr_offset version (code ∷ bytes) y e s =
    let (n, one, two) = opcode_offset (opcode_in version code) bytes y e s in
    (n, one, omega arith)

-- an instruction whose row has an offset is read with one, and has three bytes
pub read_offset : (version : Version) (bytes : List ℕ) (x : ℕ) (i : Instr) (next : ℕ) → read_at version bytes x ≡ Ok (i, next) → (row_of i.opcode).immediates ≡ shape.Offset → IsOffset x i next
read_offset version bytes x i next e s =
    let (y, first, last) = bind_ok (instr_at version (drop x bytes)) _ _ e in
    let same = same_next last in
    let (n, one, two) = instr_offset version (drop x bytes) y first (ap (λ (j : Instr). (row_of j.opcode).immediates) same.0 ∙ s) in
    let left = length-drop x bytes in
    let behind = same.1 in
    record { offset = n; is_offset = sym (ap (λ (j : Instr). j.immediates) same.0) ∙ one; behind = omega arith }

-- an instruction with a target has an offset, which counts from three bytes behind its place
pub is_branch : (x : ℕ) (o : Opcode) (m : Immediates) (target : ℕ) → branch_target x o m ≡ Some target → ((row_of o).immediates ≡ shape.Offset) × (x + 3 + offset_of m ≡ target)
unfolding row_of
is_branch x op.Bnz m target e = (refl, cc)
is_branch x op.Bz m target e = (refl, cc)
is_branch x op.B m target e = (refl, cc)
is_branch x o m target e = absurd cc

head_target : (version : Version) (bytes : List ℕ) (starts : List ℕ) (p : PlacedInstr) (t : Option ℕ) → target_of starts (length bytes) p ≡ Ok t → read_at version bytes p.place ≡ Ok (p.instr, p.next)
    → (target : ℕ) → branch_target p.place p.instr.opcode p.instr.immediates ≡ Some target → is_start_or_end starts (length bytes) target ≡ true
head_target version bytes starts p t e read target b =
    let branch = is_branch p.place p.instr.opcode p.instr.immediates target b in
    let o = read_offset version bytes p.place p.instr p.next read branch.0 in
    let inside = branch_is_start starts (length bytes) p.place p.next o.offset t (ap (check.immediates_target starts (length bytes) p.place p.next) (sym o.is_offset) ∙ e) in
    let offset : offset_of p.instr.immediates ≡ o.offset = ap offset_of o.is_offset in
    let there : p.next + o.offset ≡ target = omega (arith, o.behind, branch.1) in
    subst (λ q. is_start_or_end starts (length bytes) q ≡ true) there inside

target_by : (version : Version) (bytes : List ℕ) (starts : List ℕ) (p : PlacedInstr) (qs : List PlacedInstr) (t : Option ℕ) → target_of starts (length bytes) p ≡ Ok t → read_at version bytes p.place ≡ Ok (p.instr, p.next)
    → (x : ℕ) (i : Instr) (next target : ℕ) → read_at version bytes x ≡ Ok (i, next) → branch_target x i.opcode i.immediates ≡ Some target
    → (is_start (places qs) x ≡ true → is_start_or_end starts (length bytes) target ≡ true)
    → (b : Bool) → (x == p.place) ≡ b → (b || is_start (places qs) x) ≡ true → is_start_or_end starts (length bytes) target ≡ true
target_by version bytes starts p qs t first here x i next target read b others true e h =
    let place : x ≡ p.place = eqb-true x p.place e in
    let same = same_next (sym here ∙ ap (read_at version bytes) (sym place) ∙ read) in
    let b' : branch_target p.place p.instr.opcode p.instr.immediates ≡ Some target =
    ap (λ (j : Instr). branch_target p.place j.opcode j.immediates) same.0 ∙ ap (λ q. branch_target q i.opcode i.immediates) (sym place) ∙ b in
    head_target version bytes starts p t first here target b'
target_by version bytes starts p qs t first here x i next target read b others false e h = others h

targets : (n : ℕ) (version : Version) (bytes : List ℕ) (place : ℕ) (ps : List PlacedInstr) → place ≤ length bytes → placed_from n version bytes place ≡ Ok ps
    → (starts : List ℕ) (rs : List PlacedInstr) → with_targets starts (length bytes) ps ≡ Ok rs
    → (x : ℕ) (i : Instr) (next target : ℕ) → is_start (places ps) x ≡ true → read_at version bytes x ≡ Ok (i, next) → branch_target x i.opcode i.immediates ≡ Some target
    → is_start_or_end starts (length bytes) target ≡ true
unfolding placed_from with_targets
targets zero version bytes place ps low e starts rs w x i next target there read b = let none : [] ≡ ps = cc in let no = ap (λ qs. is_start (places qs) x) none ∙ there in absurd cc
targets (suc n) version bytes place ps low e starts rs w x i next target there read b =
    elim (chosen (eqb place (length bytes)) _ _ _ e) [
      | inl (end, done) ↦ let none : [] ≡ ps = cc in let no = ap (λ qs. is_start (places qs) x) none ∙ there in absurd cc
      | inr (before, more) ↦
          let (p, first, others) = bind_ok (placed_at version bytes place) _ _ more in
          let (qs, rest, last) = bind_ok (placed_from n version bytes p.next) _ _ others in
          let same : p ∷ qs ≡ ps = cc in
          let is = is_placed version bytes place p first in
          let on = placed_forward version bytes place p low first in
          let here : read_at version bytes p.place ≡ Ok (p.instr, p.next) = ap (read_at version bytes) is.here ∙ is.read in
          let w' : with_targets starts (length bytes) (p ∷ qs) ≡ Ok rs = ap (with_targets starts (length bytes)) same ∙ w in
          let (t, one, more_targets) = bind_ok (target_of starts (length bytes) p) _ _ w' in
          let (us, two, whole) = bind_ok (with_targets starts (length bytes) qs) _ _ more_targets in
          let there' : is_start (places (p ∷ qs)) x ≡ true = ap (λ zs. is_start (places zs) x) same ∙ there in
          target_by version bytes starts p qs t one here x i next target read b
          (λ h. targets n version bytes p.next qs on.2 rest starts us two x i next target h read b) (x == p.place) refl there'
    ]

-- ---- a checked program

-- a checked program is laid out: version and instructions lead to an instruction or to the end
pub laid_out : (bytes : List ℕ) (w : WellFormed) → checked bytes ≡ Ok w → IsLaidOut bytes (places w.placed)
laid_out bytes w e =
    let c = is_checked bytes w e in
    let version = version_same bytes (w.version, c.start) c.version in
    let high : length bytes ≤ c.start + length bytes = omega arith in
    let ps = c.bare in
    let laid : IsLaidOut bytes (places ps) = record {
      first = ap (λ (q : Version × ℕ). is_start_or_end (places ps) (length bytes) q.1) version ∙ first_start (length bytes) w.version bytes c.start ps c.within high c.placed;
      next = λ place i next there read. nexts (length bytes) w.version bytes c.start ps c.within high c.placed place i next there (ap (λ (q : Version × ℕ). read_at q.0 bytes place) (sym version) ∙ read);
      target = λ place i next target there read b.
          targets (length bytes) w.version bytes c.start ps c.within c.placed (places ps) w.placed c.targets place i next target there (ap (λ (q : Version × ℕ). read_at q.0 bytes place) (sym version) ∙ read) b;
    } in
    subst (IsLaidOut bytes) (sym c.same_places) laid

-- the path of a checked program ends, and asks for at most three items for each instruction
pub checked_steps : (e : Execution) (writes : ItemMap) (w : WellFormed) → checked e.program ≡ Ok w → AsksAtMost Any (3 * length w.placed) HasEnded (path e writes (length w.placed + 1))
checked_steps e writes w h =
    subst (λ n. AsksAtMost Any (3 * n) HasEnded (path e writes (n + 1))) (length-places w.placed) (steps_are_instructions e writes (places w.placed) (laid_out e.program w h))

-- ---- at most 700 instructions, each of which costs something

costs_something : (o : Opcode) → 0 < (row_of o).cost
unfolding row_of
costs_something op.Err = omega arith
costs_something _ = omega arith

count_below_cost : (ps : List PlacedInstr) → length ps ≤ check.cost_of ps
count_below_cost [] = omega arith
count_below_cost (p ∷ ps) =
    let one = costs_something p.instr.opcode in
    let rest = count_below_cost ps in
    omega arith

-- how long a checked program is, in instructions and in bytes
record IsFew (bytes : List ℕ) (w : WellFormed) : Type 0 where
  instructions : length w.placed ≤ most_cost
  in_bytes : length w.placed ≤ length bytes

few : (bytes : List ℕ) (w : WellFormed) → checked bytes ≡ Ok w → IsFew bytes w
few bytes w e =
    let c = is_checked bytes w e in
    let rises = placed_rises (length bytes) w.version bytes c.start c.bare c.within c.placed in
    record { instructions = omega (arith, count_below_cost w.placed, c.cost, c.cheap); in_bytes = omega (arith, c.same_count, rises.1) }

-- the whole path of a checked program ends, and asks for at most 3 * most_cost items
pub program_asks : (e : Execution) (writes : ItemMap) (r : Result WellFormed CheckFault) → checked e.program ≡ r → is_ok r ≡ true → AsksAtMost Any (3 * most_cost) HasEnded (whole_path e writes)
program_asks e writes (Err f) is h = absurd cc
program_asks e writes (Ok w) is h =
    let short = few e.program w is in
    let count = length-places w.placed in
    at_most-more Any (3 * length (places w.placed)) (3 * most_cost) HasEnded (whole_path e writes) (omega (arith, short.instructions, count))
    (whole_path_steps e writes (places w.placed) (laid_out e.program w is) (omega (arith, short.in_bytes, count)))
