-- The instructions of a checked program are of its version, and its branches lead forward.
use Rattle.std.proofs.Common.{◌≡◌, ◌∙◌, refl, sym, ap, subst, ℕ, zero, suc, ◌+◌, ◌-◌, ◌<◌, ◌≤◌, true, eqb, ltb, List, [], ◌∷◌, length, drop, get_or, Option, Some, None, Result, Ok, inl, inr, arith}
use Rattle.std.specs.Option.{ok_or, option_map}
use Rattle.std.proofs.lemmas.Bool.{eqb-true, cases_lt}
use Rattle.base64.specs.GeneralPurpose.{IsBytes}
use Rattle.teal_value.specs.Answer.{◌>>=◌}
use Rattle.teal_value.proofs.Binding.{bind_ok, chosen}
use Rattle.teal_table.specs.declared.shape.Shape.{Shape}
use Rattle.teal_table.specs.declared.shape.Shape.TheVariants as shape
use Rattle.teal_table.specs.declared.shape.Version.{Version}
use Rattle.teal_table.specs.declared.opcode.Opcode.{Opcode}
use Rattle.teal_table.specs.Table.{row_of, opcode_in, opcode_at, only_in, has}
use Rattle.teal_code.specs.declared.instr.Immediates.{Immediates}
use Rattle.teal_code.specs.declared.instr.Immediates.TheVariants as is
use Rattle.teal_code.specs.declared.instr.Instr.{Instr}
use Rattle.teal_code.specs.Reader.{byte_at, varuint_at, string_at, counted_at, immediates_at, with_opcode, instr_at}
use Rattle.teal_code.proofs.Reading.{same_value}
use Rattle.teal_check.specs.declared.fault.CheckFault.{CheckFault}
use Rattle.teal_check.specs.declared.fault.CheckFault.TheVariants as fault
use Rattle.teal_check.specs.declared.program.PlacedInstr.{PlacedInstr}
use Rattle.teal_check.specs.WellFormed.{WellFormed, has_field, placed_at, placed_from, places, first_index, number_of_place, RisesFrom, resolved_target, immediates_target, target_of, with_targets, checked}
use Rattle.teal_check.proofs.CheckedPrograms.{is_checked, is_kept, is_placed, length-places, placed_forward}
use Rattle.teal_check.proofs.Starts.{rises}
use Rattle.teal_laws.specs.Listed.{HasShape, nothing, index, txn, stack, global, group, array, stack_array, group_array, bounds, offset, uints, strings, uint, string, IsOfVersion, AreOf, IsAimed, AreAimed, IsListed}
use Rattle.teal_laws.proofs.Bytes.{AreBytes, are_each, bytes_behind, byte_read, varuint_read, string_read, counted_uints, counted_strings}

-- ---- one instruction

immediates_read : (version : Version) (s : Shape) (bytes : List ℕ) (m : Immediates) (rest : List ℕ) → immediates_at s bytes ≡ Ok (m, rest) → AreBytes bytes → has_field version s m ≡ true → HasShape version s m
immediates_read version shape.Nothing bytes m rest e h known = subst (HasShape version shape.Nothing) (same_value e).0 nothing
immediates_read version shape.Index bytes m rest e h known =
    let (i, first, last) = bind_ok (byte_at bytes) _ _ e in
    subst (HasShape version shape.Index) (same_value last).0 (index (byte_read bytes i.0 i.1 first h).0)
immediates_read version shape.TxnField bytes m rest e h known =
    let (f, first, last) = bind_ok (byte_at bytes) _ _ e in
    let one = (same_value last).0 in
    subst (HasShape version shape.TxnField) one (txn (subst (λ x. has_field version shape.TxnField x ≡ true) (sym one) known))
immediates_read version shape.GlobalField bytes m rest e h known =
    let (f, first, last) = bind_ok (byte_at bytes) _ _ e in
    let one = (same_value last).0 in
    subst (HasShape version shape.GlobalField) one (global (subst (λ x. has_field version shape.GlobalField x ≡ true) (sym one) known))
immediates_read version shape.StackField bytes m rest e h known =
    let (f, first, last) = bind_ok (byte_at bytes) _ _ e in
    let one = (same_value last).0 in
    subst (HasShape version shape.StackField) one (stack (subst (λ x. has_field version shape.StackField x ≡ true) (sym one) known))
immediates_read version shape.GroupField bytes m rest e h known =
    let (t, first, others) = bind_ok (byte_at bytes) _ _ e in
    let (f, second, last) = bind_ok (byte_at t.1) _ _ others in
    let one = (same_value last).0 in
    subst (HasShape version shape.GroupField) one (group (byte_read bytes t.0 t.1 first h).0 (subst (λ x. has_field version shape.GroupField x ≡ true) (sym one) known))
immediates_read version shape.ArrayField bytes m rest e h known =
    let (f, first, others) = bind_ok (byte_at bytes) _ _ e in
    let (i, second, last) = bind_ok (byte_at f.1) _ _ others in
    let one = (same_value last).0 in
    subst (HasShape version shape.ArrayField) one (array (subst (λ x. has_field version shape.ArrayField x ≡ true) (sym one) known) (byte_read f.1 i.0 i.1 second (byte_read bytes f.0 f.1 first h).1).0)
immediates_read version shape.StackArrayField bytes m rest e h known =
    let (f, first, others) = bind_ok (byte_at bytes) _ _ e in
    let (i, second, last) = bind_ok (byte_at f.1) _ _ others in
    let one = (same_value last).0 in
    subst (HasShape version shape.StackArrayField) one (stack_array (subst (λ x. has_field version shape.StackArrayField x ≡ true) (sym one) known) (byte_read f.1 i.0 i.1 second (byte_read bytes f.0 f.1 first h).1).0)
immediates_read version shape.GroupArrayField bytes m rest e h known =
    let (t, first, others) = bind_ok (byte_at bytes) _ _ e in
    let (f, second, more) = bind_ok (byte_at t.1) _ _ others in
    let (i, third, last) = bind_ok (byte_at f.1) _ _ more in
    let one = (same_value last).0 in
    let read = byte_read bytes t.0 t.1 first h in
    subst (HasShape version shape.GroupArrayField) one (group_array read.0 (subst (λ x. has_field version shape.GroupArrayField x ≡ true) (sym one) known) (byte_read f.1 i.0 i.1 third (byte_read t.1 f.0 f.1 second read.1).1).0)
immediates_read version shape.Bounds bytes m rest e h known =
    let (s, first, others) = bind_ok (byte_at bytes) _ _ e in
    let (t, second, last) = bind_ok (byte_at s.1) _ _ others in
    let read = byte_read bytes s.0 s.1 first h in
    subst (HasShape version shape.Bounds) (same_value last).0 (bounds read.0 (byte_read s.1 t.0 t.1 second read.1).0)
immediates_read version shape.Offset bytes m rest e h known =
    let (high, first, others) = bind_ok (byte_at bytes) _ _ e in
    let (low, second, last) = bind_ok (byte_at high.1) _ _ others in
    subst (HasShape version shape.Offset) (same_value last).0 offset
immediates_read version shape.UintBlock bytes m rest e h known =
    let (ns, first, last) = bind_ok (counted_at varuint_at bytes) _ _ e in
    subst (HasShape version shape.UintBlock) (same_value last).0 (uints (counted_uints bytes ns.0 ns.1 first h))
immediates_read version shape.ByteBlock bytes m rest e h known =
    let (ss, first, last) = bind_ok (counted_at string_at bytes) _ _ e in
    subst (HasShape version shape.ByteBlock) (same_value last).0 (strings (counted_strings bytes ss.0 ss.1 first h))
immediates_read version shape.Uint bytes m rest e h known =
    let (n, first, last) = bind_ok (varuint_at bytes) _ _ e in
    subst (HasShape version shape.Uint) (same_value last).0 (uint (varuint_read bytes n.0 n.1 first h).0)
immediates_read version shape.Bytes bytes m rest e h known =
    let (s, first, last) = bind_ok (string_at bytes) _ _ e in
    subst (HasShape version shape.Bytes) (same_value last).0 (string (string_read bytes s.0 s.1 first h).0)

-- an opcode that is found for a version is one of that version
pub brought : (version : Version) (found : Option Opcode) (o : Opcode) → only_in version found ≡ Some o → has version (row_of o).version ≡ true
brought version None o e = absurd cc
brought version (Some q) o e =
    elim (chosen (has version (row_of q).version) _ _ _ e) [
      | inl (there, one) ↦ let same : q ≡ o = cc in subst (λ x. has version (row_of x).version ≡ true) same there
      | inr (later, bad) ↦ absurd cc
    ]

behind_code : (version : Version) (found : Option Opcode) (bytes : List ℕ) (i : Instr) (rest : List ℕ) → ((o : Opcode) → found ≡ Some o → has version (row_of o).version ≡ true) → with_opcode found bytes ≡ Ok (i, rest) → AreBytes bytes
    → has_field version (row_of i.opcode).immediates i.immediates ≡ true → IsOfVersion version i
behind_code version None bytes i rest there e h known = absurd cc
behind_code version (Some o) bytes i rest there e h known =
    let (m, first, last) = bind_ok (immediates_at (row_of o).immediates bytes) _ _ e in
    let one : record { opcode = o; immediates = m.0 } ≡ i = (same_value last).0 in
    let field = subst (λ (x : Instr). has_field version (row_of x.opcode).immediates x.immediates ≡ true) (sym one) known in
    subst (IsOfVersion version) one (record { opcode = there o refl; immediates = immediates_read version (row_of o).immediates bytes m.0 m.1 first h field })

instr_read : (version : Version) (bytes : List ℕ) (i : Instr) (rest : List ℕ) → instr_at version bytes ≡ Ok (i, rest) → AreBytes bytes → has_field version (row_of i.opcode).immediates i.immediates ≡ true → IsOfVersion version i
instr_read version [] i rest e h known = absurd cc
instr_read version (code ∷ bytes) i rest e h known = behind_code version (opcode_in version code) bytes i rest (λ o found. brought version (opcode_at code) o found) e h.1 known

-- an instruction that the checker places is one of the version
pub placed_is_of : (version : Version) (bytes : List ℕ) (place : ℕ) (p : PlacedInstr) → AreBytes bytes → placed_at version bytes place ≡ Ok p → IsOfVersion version p.instr
placed_is_of version bytes place p h e =
    let is = is_placed version bytes place p e in
    let (i, instr, next) = bind_ok (instr_at version (drop place bytes)) _ _ is.read in
    let same : i.0 ≡ p.instr = ap (λ (y : Instr × ℕ). y.0) (let z : ◌≡◌ {A = Instr × ℕ} (i.0, length bytes - length i.1) (p.instr, p.next) = cc in z) in
    subst (IsOfVersion version) same (instr_read version (drop place bytes) i.0 i.1 instr (bytes_behind place bytes h) (subst (λ (y : Instr). has_field version (row_of y.opcode).immediates y.immediates ≡ true) (sym same) is.field))

-- ---- instructions one behind another

-- each ends behind its place
abbrev AreForward : List PlacedInstr → Type 0
AreForward [] = Unit {0}
AreForward (p ∷ ps) = (p.place < p.next) × AreForward ps

placed_are_of : (n : ℕ) (version : Version) (bytes : List ℕ) (place : ℕ) (ps : List PlacedInstr) → AreBytes bytes → place ≤ length bytes → placed_from n version bytes place ≡ Ok ps → AreOf version ps × AreForward ps
unfolding placed_from
placed_are_of zero version bytes place ps h within e = let none : [] ≡ ps = cc in subst (λ qs. AreOf version qs × AreForward qs) none (tt, tt)
placed_are_of (suc n) version bytes place ps h within e =
    elim (chosen (eqb place (length bytes)) _ _ _ e) [
      | inl (end, done) ↦ let none : [] ≡ ps = cc in subst (λ qs. AreOf version qs × AreForward qs) none (tt, tt)
      | inr (before, more) ↦
          let (p, first, others) = bind_ok (placed_at version bytes place) _ _ more in
          let (qs, rest, last) = bind_ok (placed_from n version bytes p.next) _ _ others in
          let forward = placed_forward version bytes place p within first in
          let later = placed_are_of n version bytes p.next qs h forward.2 rest in
          let same : p ∷ qs ≡ ps = cc in
          subst (λ rs. AreOf version rs × AreForward rs) same ((placed_is_of version bytes place p h first, later.0), (omega (arith, forward.0, forward.1), later.1))
    ]

-- ---- targets

index_later : (x y : ℕ) (ys : List ℕ) (n : ℕ) (o : Option ℕ) → ((k : ℕ) → o ≡ Some k → (k < length ys) × (get_or ys k 0 ≡ x)) → option_map suc o ≡ Some n → (n < length (y ∷ ys)) × (get_or (y ∷ ys) n 0 ≡ x)
index_later x y ys n None found e = absurd cc
index_later x y ys n (Some k) found e =
    let next : suc k ≡ n = cc in
    let i = found k refl in
    subst (λ j. (j < length (y ∷ ys)) × (get_or (y ∷ ys) j 0 ≡ x)) next (omega (arith, i.0), i.1)

-- the first index of a number is one where it stands
pub index_is : (x : ℕ) (xs : List ℕ) (n : ℕ) → first_index x xs ≡ Some n → (n < length xs) × (get_or xs n 0 ≡ x)
index_is x [] n e = absurd cc
index_is x (y ∷ ys) n e =
    elim (chosen (eqb x y) _ _ _ e) [
      | inl (here, one) ↦ let zeroth : 0 ≡ n = cc in subst (λ k. (k < length (y ∷ ys)) × (get_or (y ∷ ys) k 0 ≡ x)) zeroth (omega arith, sym (eqb-true x y here))
      | inr (other, more) ↦ index_later x y ys n (first_index x ys) (λ k found. index_is x ys k found) more
    ]

-- a target behind an instruction has a greater number
number_is : (starts : List ℕ) (end number place target n : ℕ) → RisesFrom 0 starts → number < length starts → get_or starts number 0 ≡ place → place < target → number_of_place starts end target ≡ Some n → (number < n) × (n ≤ length starts)
number_is starts end number place target n r within stands behind e =
    elim (chosen (eqb target end) _ _ _ e) [
      | inl (last, one) ↦ let same : length starts ≡ n = cc in (omega (arith, within, same), omega (arith, same))
      | inr (inner, found) ↦
          let i = index_is target starts n found in
          elim (cases_lt number n) [
            | inl lt ↦ (lt, omega (arith, i.0))
            | inr le ↦ absurd (omega (arith, rises 0 starts n number r le within, i.1, stands, behind))
          ]
    ]

no_target : {t : Option ℕ} → ◌≡◌ {A = Result (Option ℕ) CheckFault} (Ok None) (Ok t) → t ≡ None
no_target {t} e = let same : None ≡ t = cc in sym same

-- a target that is resolved is a number that was found
pub some_number : (r : Option ℕ) (place : ℕ) (t : Option ℕ) → (ok_or r (fault.NotAligned place) >>= λ n. Ok (Some n)) ≡ Ok t → (n : ℕ) × (r ≡ Some n) × (t ≡ Some n)
some_number None place t e = absurd cc
some_number (Some n) place t e = let same : Some n ≡ t = cc in (n, refl, sym same)

branch_aimed : (starts : List ℕ) (end number place next offset : ℕ) (t : Option ℕ) → RisesFrom 0 starts → number < length starts → get_or starts number 0 ≡ place → place < next → resolved_target starts end place next offset ≡ Ok t → IsAimed (length starts) number (is.Offset offset) t
branch_aimed starts end number place next n t r within stands forward e =
    elim (chosen (ltb 32767 n) _ _ _ e) [
      | inl (back, bad) ↦ absurd cc
      | inr (fits, more) ↦ elim (chosen (ltb end (next + n)) _ _ _ more) [
        | inl (past, bad) ↦ absurd cc
        | inr (inside, found) ↦
            let s = some_number (number_of_place starts end (next + n)) place t found in
            subst (IsAimed (length starts) number (is.Offset n)) (sym s.2) (number_is starts end number place (next + n) s.0 r within stands (omega (arith, forward)) s.1)
      ]
    ]

aimed : (starts : List ℕ) (end number place next : ℕ) (m : Immediates) (t : Option ℕ) → RisesFrom 0 starts → number < length starts → get_or starts number 0 ≡ place → place < next → immediates_target starts end place next m ≡ Ok t → IsAimed (length starts) number m t
aimed starts end number place next (is.Offset n) t r within stands forward e = branch_aimed starts end number place next n t r within stands forward e
aimed starts end number place next is.Nothing t r within stands forward e = no_target e
aimed starts end number place next (is.Index i) t r within stands forward e = no_target e
aimed starts end number place next (is.Field f) t r within stands forward e = no_target e
aimed starts end number place next (is.GroupField g f) t r within stands forward e = no_target e
aimed starts end number place next (is.ArrayField f i) t r within stands forward e = no_target e
aimed starts end number place next (is.GroupArrayField g f i) t r within stands forward e = no_target e
aimed starts end number place next (is.Bounds s b) t r within stands forward e = no_target e
aimed starts end number place next (is.UintBlock ns) t r within stands forward e = no_target e
aimed starts end number place next (is.ByteBlock ss) t r within stands forward e = no_target e
aimed starts end number place next (is.Uint n) t r within stands forward e = no_target e
aimed starts end number place next (is.Bytes s) t r within stands forward e = no_target e

-- the instructions from one with a number on stand at these places
abbrev StandAt : List ℕ → ℕ → List PlacedInstr → Type 0
StandAt starts number [] = Unit {0}
StandAt starts number (p ∷ ps) = (number < length starts) × (get_or starts number 0 ≡ p.place) × (p.place < p.next) × StandAt starts (suc number) ps

one_later : (place : ℕ) (starts : List ℕ) (number : ℕ) (ps : List PlacedInstr) → StandAt starts number ps → StandAt (place ∷ starts) (suc number) ps
one_later place starts number [] h = tt
one_later place starts number (p ∷ ps) h = (omega (arith, h.0), h.1, h.2, one_later place starts (suc number) ps h.3)

stand_at : (ps : List PlacedInstr) → AreForward ps → StandAt (places ps) 0 ps
stand_at [] h = tt
stand_at (p ∷ ps) h = (omega arith, refl, h.0, one_later p.place (places ps) 0 ps (stand_at ps h.1))

all_aimed : (starts : List ℕ) (end number : ℕ) (version : Version) (ps qs : List PlacedInstr) → RisesFrom 0 starts → StandAt starts number ps → AreOf version ps → with_targets starts end ps ≡ Ok qs → AreAimed (length starts) number qs × AreOf version qs
unfolding with_targets
all_aimed starts end number version [] qs r h are e = let none : [] ≡ qs = cc in subst (λ rs. AreAimed (length starts) number rs × AreOf version rs) none (tt, tt)
all_aimed starts end number version (p ∷ ps) qs r h are e =
    let (t, first, others) = bind_ok (target_of starts end p) _ _ e in
    let (rs, rest, last) = bind_ok (with_targets starts end ps) _ _ others in
    let same : record p { target = t } ∷ rs ≡ qs = cc in
    let here = aimed starts end number p.place p.next p.instr.immediates t r h.0 h.1 h.2 first in
    let later = all_aimed starts end (suc number) version ps rs r h.3 are.1 rest in
    let next : suc number ≡ number + 1 = omega arith in
    subst (λ ss. AreAimed (length starts) number ss × AreOf version ss) same ((here, subst (λ k. AreAimed (length starts) k rs) next later.0), (are.0, later.1))

-- ---- the program

-- a checked program has all that its listing rests on
pub is_listed : (bytes : List ℕ) (w : WellFormed) → IsBytes bytes → checked bytes ≡ Ok w → IsListed w
is_listed bytes w are e =
    let c = is_checked bytes w e in
    let kept = is_kept bytes w e in
    let of = placed_are_of (length bytes) w.version bytes c.start c.bare (are_each bytes are) c.within c.placed in
    let rising : RisesFrom 0 (places c.bare) = subst (RisesFrom 0) c.same_places kept.rising in
    let aims = all_aimed (places c.bare) (length bytes) 0 w.version c.bare w.placed rising (stand_at c.bare of.1) of.0 c.targets in
    let count : length (places c.bare) ≡ length w.placed = length-places c.bare ∙ sym c.same_count in
    record { instructions = aims.1; targets = subst (λ n. AreAimed n 0 w.placed) count aims.0; few = kept.few }
