-- The checker accepts bytes exactly where the rules of programs hold, and gives the program of which they do.
use Rattle.std.proofs.Common.{◌≡◌, ◌∙◌, refl, sym, ap, subst, ℕ, zero, suc, ◌+◌, ◌-◌, ◌<◌, ◌≤◌, true, false, eqb, ltb, List, [], ◌∷◌, ◌++◌, length, length-append, length-drop, map, get_or, Option, Some, None, Result, Ok, Err, inl, inr, arith}
use Rattle.std.specs.Prelude.{◌↔◌, is_some, IsOk}
use Rattle.std.proofs.lemmas.Bool.{ltb-false, eqb-true, cases_lt}
use Rattle.std.proofs.lemmas.Bool.Decides.{nat_tests}
use Rattle.teal_value.proofs.Binding.{bind_ok, chosen}
use Rattle.teal_table.specs.declared.shape.Version.{Version}
use Rattle.teal_table.specs.declared.shape.Version.TheVariants.{Two, Three}
use Rattle.teal_table.specs.declared.opcode.Opcode.{Opcode}
use Rattle.teal_table.specs.Table.{row_of, has, opcode_at, only_in}
use Rattle.teal_table.specs.LeftOut.{left_out_at}
use Rattle.teal_table.proofs.Codes.{code_of-opcode_at}
use Rattle.teal_code.specs.declared.instr.Immediates.{Immediates}
use Rattle.teal_code.specs.declared.instr.Immediates.TheVariants as is
use Rattle.teal_code.specs.declared.instr.Instr.{Instr}
use Rattle.teal_code.specs.Varuint.{IsBase128, IsVaruint}
use Rattle.teal_code.specs.Grammar.{Reads, Encodes}
use Rattle.teal_code.specs.Reader.{varuint_at}
use Rattle.teal_code.proofs.Reading.{is_read, varuint_sound, varuint_complete}
use Rattle.teal_code.specs.Limits.{most_program_bytes, most_cost}
use Rattle.teal_check.specs.declared.fault.CheckFault.{CheckFault}
use Rattle.teal_check.specs.declared.program.PlacedInstr.{PlacedInstr}
use Rattle.teal_check.specs.WellFormed.{WellFormed, on_code, version_of, version_at, placed_at, placed_from, places, number_of_place, RisesFrom, resolved_target, immediates_target, target_of, with_targets, cost_of, checked}
use Rattle.teal_check.proofs.CheckedPrograms.{coded_ok, is_checked, is_placed, placed_forward, weaken}
use Rattle.teal_check.proofs.Starts.{index_of-there}
use Rattle.teal_laws.specs.ProgramRules.{version_number, BeginsWithVersion, StandsAt, StandFrom, Leads, AllLead, IsProgram}
use Rattle.teal_laws.proofs.Names.{not_left_out}
use Rattle.teal_laws.proofs.PlacedInstructions.{index_is, some_number}
use Rattle.teal_laws.proofs.EncodedPrograms.{first_of}
use Rattle.teal_laws.proofs.AssembledListing.{placed_reads}
use Rattle.teal_laws.proofs.TextCommands.{ok_same}

-- ---- the version

version_is : (n : ℕ) (v : Version) → version_of n ≡ Ok v → n ≡ version_number v
version_is n v e =
    elim (chosen (eqb n 2) _ _ _ e) [
      | inl (two, one) ↦ let same : Two ≡ v = cc in subst (λ u. n ≡ version_number u) same (eqb-true n 2 two)
      | inr (not_two, more) ↦ elim (chosen (eqb n 3) _ _ _ more) [
        | inl (three, one) ↦ let same : Three ≡ v = cc in subst (λ u. n ≡ version_number u) same (eqb-true n 3 three)
        | inr (other, bad) ↦ absurd cc
      ]
    ]

version_back : (v : Version) → version_of (version_number v) ≡ Ok v
version_back Two = refl
version_back Three = refl

begins : (bytes : List ℕ) (v : Version × ℕ) → version_at bytes ≡ Ok v → BeginsWithVersion bytes v.0 v.1
begins bytes v e =
    let (n, first, others) = bind_ok (on_code 0 (varuint_at bytes)) _ _ e in
    let (version, numbered, last) = bind_ok (version_of n.0) _ _ others in
    let same : ◌≡◌ {A = Version × ℕ} (version, length bytes - length n.1) v = cc in
    let t = varuint_sound bytes n.0 n.1 (coded_ok 0 _ _ first) in
    record {
      front = t.front;
      rest = n.1;
      parts = t.parts;
      encoded = subst (IsVaruint t.front) (version_is n.0 version numbered ∙ ap (λ (p : Version × ℕ). version_number p.0) same) t.encoded;
      starts = omega (arith, ap (λ (p : Version × ℕ). p.1) same, ap length t.parts, length-append t.front n.1);
    }

version_there : (bytes : List ℕ) (v : Version) (start : ℕ) → BeginsWithVersion bytes v start → version_at bytes ≡ Ok (v, start)
version_there bytes v start b =
    let read : varuint_at bytes ≡ Ok (version_number v, b.rest) = ap varuint_at b.parts ∙ varuint_complete b.front (version_number v) b.rest b.encoded in
    let reach : length bytes - length b.rest ≡ start = omega (arith, ap length b.parts, length-append b.front b.rest, b.starts) in
    rw (read, version_back v) (ap (λ n. Ok (v, n)) reach)

some_digits : (front : List ℕ) (n : ℕ) → IsBase128 front n → 0 < length front
some_digits [] n h = absurd h
some_digits (b ∷ front) n h = omega arith

starts_within : (bytes : List ℕ) (v : Version) (start : ℕ) → BeginsWithVersion bytes v start → (0 < length bytes) × (start ≤ length bytes)
starts_within bytes v start b =
    let some = some_digits b.front (version_number v) b.encoded.digits in
    (omega (arith, some, ap length b.parts, length-append b.front b.rest), omega (arith, ap length b.parts, length-append b.front b.rest, b.starts))

-- ---- instructions

stands_at : (version : Version) (bytes : List ℕ) (place : ℕ) (p : PlacedInstr) → place ≤ length bytes → placed_at version bytes place ≡ Ok p → StandsAt version bytes place p
stands_at version bytes place p within e =
    let is = is_placed version bytes place p e in
    record { here = is.here; reads = placed_reads version bytes place p within e; field = is.field }

stand_from : (n : ℕ) (version : Version) (bytes : List ℕ) (place : ℕ) (ps : List PlacedInstr) → place ≤ length bytes → length bytes ≤ place + n → placed_from n version bytes place ≡ Ok ps → StandFrom version bytes place ps
unfolding placed_from
stand_from zero version bytes place ps within enough e =
    let none : [] ≡ ps = cc in
    let end : place ≡ length bytes = omega (arith, within, enough) in
    subst (StandFrom version bytes place) none end
stand_from (suc n) version bytes place ps within enough e =
    elim (chosen (eqb place (length bytes)) _ _ _ e) [
      | inl (end, done) ↦ let none : [] ≡ ps = cc in subst (StandFrom version bytes place) none (eqb-true place (length bytes) end)
      | inr (before, more) ↦
          let (p, first, others) = bind_ok (placed_at version bytes place) _ _ more in
          let (qs, rest, last) = bind_ok (placed_from n version bytes p.next) _ _ others in
          let forward = placed_forward version bytes place p within first in
          let later = stand_from n version bytes p.next qs forward.2 (omega (arith, enough, forward.1)) rest in
          let same : p ∷ qs ≡ ps = cc in
          subst (StandFrom version bytes place) same (stands_at version bytes place p within first, later)
    ]

encoded_some : (version : Version) (text : List ℕ) (i : Instr) → Encodes version text i → 0 < length text
encoded_some version [] i h = absurd h
encoded_some version (code ∷ text) i h = omega arith

reads_forward : (version : Version) (bytes : List ℕ) (place : ℕ) (i : Instr) (next : ℕ) → Reads version bytes place i next → (place < next) × (next ≤ length bytes)
reads_forward version bytes place i next (text, rest, parts, encodes, reach) =
    let some = encoded_some version text i encodes in
    (omega (arith, some, reach), omega (arith, some, reach, ap length parts, length-append text rest, length-drop place bytes))

found_at : (version : Version) (found : Option Opcode) (o : Opcode) → only_in version found ≡ Some o → found ≡ Some o
found_at version None o e = absurd cc
found_at version (Some q) o e =
    elim (chosen (has version (row_of q).version) _ _ _ e) [
      | inl (there, one) ↦ one
      | inr (later, bad) ↦ absurd cc
    ]

in_profile : (version : Version) (bytes : List ℕ) (place : ℕ) (i : Instr) (next : ℕ) → Reads version bytes place i next → is_some (left_out_at (get_or bytes place 0)) ≡ false
in_profile version bytes place i next ([], rest, parts, encodes, reach) = absurd encodes
in_profile version bytes place i next (code ∷ text, rest, parts, encodes, reach) =
    let code_is = code_of-opcode_at code i.opcode (found_at version (opcode_at code) i.opcode encodes.0) in
    ap (λ c. is_some (left_out_at c)) (first_of place bytes code (text ++ rest) parts ∙ sym code_is) ∙ not_left_out i.opcode

-- an instruction before its target is found
abbrev bare : PlacedInstr → PlacedInstr
bare p = record p { target = None }

placed_there : (version : Version) (bytes : List ℕ) (place : ℕ) (p : PlacedInstr) → StandsAt version bytes place p → placed_at version bytes place ≡ Ok (bare p)
unfolding placed_at
placed_there version bytes place p s =
    let inside = in_profile version bytes place p.instr p.next s.reads in
    let read = is_read version bytes place p.instr p.next s.reads in
    let field = s.field in
    rw (inside, read, field) (ap (λ n. Ok (record { place = n; next = p.next; instr = p.instr; target = None })) (sym s.here))

placed_from_there : (n : ℕ) (version : Version) (bytes : List ℕ) (place : ℕ) (ps : List PlacedInstr) → length bytes ≤ place + n → StandFrom version bytes place ps → placed_from n version bytes place ≡ Ok (map bare ps)
unfolding placed_from
placed_from_there zero version bytes place [] enough h = refl
placed_from_there (suc n) version bytes place [] enough h =
    let test : eqb place (length bytes) ≡ true = grind (arith, nat_tests) in
    rw test refl
placed_from_there zero version bytes place (p ∷ ps) enough h =
    let forward = reads_forward version bytes place p.instr p.next h.0.reads in
    absurd (omega (arith, forward.0, forward.1, enough))
placed_from_there (suc n) version bytes place (p ∷ ps) enough h =
    let forward = reads_forward version bytes place p.instr p.next h.0.reads in
    let before : place < length bytes = omega (arith, forward.0, forward.1) in
    let test : eqb place (length bytes) ≡ false = grind (arith, nat_tests) in
    let first = placed_there version bytes place p h.0 in
    let more = placed_from_there n version bytes p.next ps (omega (arith, enough, forward.0)) h.1 in
    rw (test, first, more) refl

places_bare : (ps : List PlacedInstr) → places (map bare ps) ≡ places ps
places_bare [] = refl
places_bare (p ∷ ps) = ap (λ xs. p.place ∷ xs) (places_bare ps)

-- the places rise, and all are before the end
rising : (version : Version) (bytes : List ℕ) (place : ℕ) (ps : List PlacedInstr) → StandFrom version bytes place ps → RisesFrom place (places ps)
rising version bytes place [] h = tt
rising version bytes place (p ∷ ps) h =
    let forward = reads_forward version bytes place p.instr p.next h.0.reads in
    (omega (arith, h.0.here), weaken (p.place + 1) p.next (places ps) (omega (arith, forward.0, h.0.here)) (rising version bytes p.next ps h.1))

before_end : (version : Version) (bytes : List ℕ) (place : ℕ) (ps : List PlacedInstr) (k : ℕ) → StandFrom version bytes place ps → k < length (places ps) → get_or (places ps) k 0 < length bytes
before_end version bytes place [] k h lt = absurd (omega (arith, lt))
before_end version bytes place (p ∷ ps) zero h lt =
    let forward = reads_forward version bytes place p.instr p.next h.0.reads in
    omega (arith, forward.0, forward.1, h.0.here)
before_end version bytes place (p ∷ ps) (suc k) h lt = before_end version bytes p.next ps k h.1 (omega (arith, lt))

-- ---- targets

get_behind : (xs : List ℕ) (d : ℕ) → get_or xs (length xs) d ≡ d
get_behind [] d = refl
get_behind (x ∷ xs) d = get_behind xs d

get_within : (xs : List ℕ) (k d e : ℕ) → k < length xs → get_or xs k d ≡ get_or xs k e
get_within [] k d e lt = absurd (omega (arith, lt))
get_within (x ∷ xs) zero d e lt = refl
get_within (x ∷ xs) (suc k) d e lt = get_within xs k d e (omega (arith, lt))

number_is : (starts : List ℕ) (end target k : ℕ) → number_of_place starts end target ≡ Some k → (k ≤ length starts) × (get_or starts k end ≡ target)
number_is starts end target k e =
    elim (chosen (eqb target end) _ _ _ e) [
      | inl (last, one) ↦
          let same : length starts ≡ k = cc in
          subst (λ n. (n ≤ length starts) × (get_or starts n end ≡ target)) same (omega arith, get_behind starts end ∙ sym (eqb-true target end last))
      | inr (inner, found) ↦
          let i = index_is target starts k found in
          (omega (arith, i.0), get_within starts k end 0 i.0 ∙ i.1)
    ]

no_target : {t : Option ℕ} → ◌≡◌ {A = Result (Option ℕ) CheckFault} (Ok None) (Ok t) → t ≡ None
no_target {t} e = sym (ok_same e)

branch_leads : (starts : List ℕ) (end place next n : ℕ) (t : Option ℕ) → resolved_target starts end place next n ≡ Ok t → Leads starts end next (is.Offset n) t
branch_leads starts end place next n t e =
    elim (chosen (ltb 32767 n) _ _ _ e) [
      | inl (back, bad) ↦ absurd cc
      | inr (fits, more) ↦ elim (chosen (ltb end (next + n)) _ _ _ more) [
        | inl (past, bad) ↦ absurd cc
        | inr (inside, found) ↦
            let s = some_number (number_of_place starts end (next + n)) place t found in
            let k = number_is starts end (next + n) s.0 s.1 in
            subst (Leads starts end next (is.Offset n)) (sym s.2) (ltb-false 32767 n fits, k.0, k.1)
      ]
    ]

leads : (starts : List ℕ) (end place next : ℕ) (m : Immediates) (t : Option ℕ) → immediates_target starts end place next m ≡ Ok t → Leads starts end next m t
leads starts end place next (is.Offset n) t e = branch_leads starts end place next n t e
leads starts end place next is.Nothing t e = no_target e
leads starts end place next (is.Index i) t e = no_target e
leads starts end place next (is.Field f) t e = no_target e
leads starts end place next (is.GroupField g f) t e = no_target e
leads starts end place next (is.ArrayField f i) t e = no_target e
leads starts end place next (is.GroupArrayField g f i) t e = no_target e
leads starts end place next (is.Bounds s b) t e = no_target e
leads starts end place next (is.UintBlock ns) t e = no_target e
leads starts end place next (is.ByteBlock ss) t e = no_target e
leads starts end place next (is.Uint n) t e = no_target e
leads starts end place next (is.Bytes s) t e = no_target e

-- with their targets, instructions stand where they stood
all_lead : (starts : List ℕ) (end : ℕ) (version : Version) (bytes : List ℕ) (place : ℕ) (ps qs : List PlacedInstr) → with_targets starts end ps ≡ Ok qs → StandFrom version bytes place ps → AllLead starts end qs × StandFrom version bytes place qs
unfolding with_targets
all_lead starts end version bytes place [] qs e h = let none : [] ≡ qs = cc in subst (λ rs. AllLead starts end rs × StandFrom version bytes place rs) none (tt, h)
all_lead starts end version bytes place (p ∷ ps) qs e h =
    let (t, first, others) = bind_ok (target_of starts end p) _ _ e in
    let (rs, rest, last) = bind_ok (with_targets starts end ps) _ _ others in
    let same : record p { target = t } ∷ rs ≡ qs = cc in
    let later = all_lead starts end version bytes p.next ps rs rest h.1 in
    let stands : StandsAt version bytes place (record p { target = t }) = record { here = h.0.here; reads = h.0.reads; field = h.0.field } in
    subst (λ ss. AllLead starts end ss × StandFrom version bytes place ss) same ((leads starts end p.place p.next p.instr.immediates t first, later.0), (stands, later.1))

-- where all places are before the end
abbrev AreBefore : List ℕ → ℕ → Type 0
AreBefore starts end = (k : ℕ) → k < length starts → get_or starts k 0 < end

branch_there : (starts : List ℕ) (end place next n target : ℕ) → RisesFrom 0 starts → AreBefore starts end → Leads starts end next (is.Offset n) (Some target) → resolved_target starts end place next n ≡ Ok (Some target)
branch_there starts end place next n target rises before h =
    let fits : ltb 32767 n ≡ false = let small = h.0 in grind (arith, nat_tests) in
    elim (cases_lt target (length starts)) [
      | inl lt ↦
          let at : get_or starts target 0 ≡ next + n = get_within starts target 0 end lt ∙ h.2 in
          let short : next + n < end = subst (λ x. x < end) at (before target lt) in
          let inside : ltb end (next + n) ≡ false = grind (arith, nat_tests) in
          let inner : eqb (next + n) end ≡ false = grind (arith, nat_tests) in
          rw (fits, inside, inner, index_of-there 0 starts target (next + n) rises lt at) refl
      | inr ge ↦
          let last : target ≡ length starts = omega (arith, ge, h.1) in
          let at : next + n ≡ end = sym h.2 ∙ ap (λ k. get_or starts k end) last ∙ get_behind starts end in
          let inside : ltb end (next + n) ≡ false = grind (arith, nat_tests) in
          let outer : eqb (next + n) end ≡ true = grind (arith, nat_tests) in
          rw (fits, inside, outer) (ap (λ k. Ok (Some k)) (sym last))
    ]

some_target : {t : Option ℕ} → t ≡ None → ◌≡◌ {A = Result (Option ℕ) CheckFault} (Ok None) (Ok t)
some_target {t} e = ap (λ x. Ok x) (sym e)

target_there : (starts : List ℕ) (end place next : ℕ) (m : Immediates) (t : Option ℕ) → RisesFrom 0 starts → AreBefore starts end → Leads starts end next m t → immediates_target starts end place next m ≡ Ok t
target_there starts end place next (is.Offset n) None rises before h = absurd h
target_there starts end place next (is.Offset n) (Some target) rises before h = branch_there starts end place next n target rises before h
target_there starts end place next is.Nothing t rises before h = some_target h
target_there starts end place next (is.Index i) t rises before h = some_target h
target_there starts end place next (is.Field f) t rises before h = some_target h
target_there starts end place next (is.GroupField g f) t rises before h = some_target h
target_there starts end place next (is.ArrayField f i) t rises before h = some_target h
target_there starts end place next (is.GroupArrayField g f i) t rises before h = some_target h
target_there starts end place next (is.Bounds s b) t rises before h = some_target h
target_there starts end place next (is.UintBlock ns) t rises before h = some_target h
target_there starts end place next (is.ByteBlock ss) t rises before h = some_target h
target_there starts end place next (is.Uint n) t rises before h = some_target h
target_there starts end place next (is.Bytes s) t rises before h = some_target h

targets_there : (starts : List ℕ) (end : ℕ) (ps : List PlacedInstr) → RisesFrom 0 starts → AreBefore starts end → AllLead starts end ps → with_targets starts end (map bare ps) ≡ Ok ps
unfolding with_targets
targets_there starts end [] rises before h = refl
targets_there starts end (p ∷ ps) rises before h =
    let first = target_there starts end p.place p.next p.instr.immediates p.target rises before h.0 in
    let more = targets_there starts end ps rises before h.1 in
    rw (first, more) refl

-- ---- programs

is_program : (bytes : List ℕ) (w : WellFormed) → checked bytes ≡ Ok w → IsProgram bytes w
is_program bytes w e =
    let c = is_checked bytes w e in
    let stand = stand_from (length bytes) w.version bytes c.start c.bare c.within (omega arith) c.placed in
    let lead = all_lead (places c.bare) (length bytes) w.version bytes c.start c.bare w.placed c.targets stand in
    record {
      same = c.same;
      short = c.short;
      start = c.start;
      version = begins bytes (w.version, c.start) c.version;
      instructions = lead.1;
      targets = subst (λ ss. AllLead ss (length bytes) w.placed) (sym c.same_places) lead.0;
      cost = c.cost;
      cheap = c.cheap;
    }

same_program : (bytes : List ℕ) (w : WellFormed) → w.bytes ≡ bytes → w.cost ≡ cost_of w.placed → ◌≡◌ {A = Result WellFormed CheckFault} (Ok (record { version = w.version; bytes = bytes; placed = w.placed; cost = cost_of w.placed })) (Ok w)
same_program bytes w same cost =
    ap (λ b. Ok (record { version = w.version; bytes = b; placed = w.placed; cost = cost_of w.placed })) (sym same)
    ∙ ap (λ n. Ok (record { version = w.version; bytes = w.bytes; placed = w.placed; cost = n })) (sym cost)

passes : (bytes : List ℕ) (w : WellFormed) → IsProgram bytes w → checked bytes ≡ Ok w
unfolding checked
passes bytes w h =
    let within = starts_within bytes w.version h.start h.version in
    let starts = places w.placed in
    let some : eqb (length bytes) 0 ≡ false = let more = within.0 in grind (arith, nat_tests) in
    let few : ltb most_program_bytes (length bytes) ≡ false = let short = h.short in grind (arith, nat_tests) in
    let version = version_there bytes w.version h.start h.version in
    let placed = placed_from_there (length bytes) w.version bytes h.start w.placed (omega arith) h.instructions in
    let up : RisesFrom 0 starts = weaken 0 h.start starts (omega arith) (rising w.version bytes h.start w.placed h.instructions) in
    let before : AreBefore starts (length bytes) = λ k lt. before_end w.version bytes h.start w.placed k h.instructions lt in
    let resolved = targets_there starts (length bytes) w.placed up before h.targets in
    let price : cost_of w.placed ≤ most_cost = omega (arith, h.cost, h.cheap) in
    let cheap : ltb most_cost (cost_of w.placed) ≡ false = grind (arith, nat_tests) in
    rw (some, few, version, placed, places_bare w.placed, resolved, cheap) (same_program bytes w h.same h.cost)

-- ---- the laws

-- the checker accepts bytes as a program exactly where the rules of programs hold
pub program_rules : (bytes : List ℕ) (w : WellFormed) → (checked bytes ≡ Ok w) ↔ IsProgram bytes w
program_rules bytes w = (is_program bytes w, passes bytes w)

-- bytes are accepted exactly where they are some program by the rules
pub accepted : (bytes : List ℕ) → IsOk (checked bytes) ↔ ((w : WellFormed) × IsProgram bytes w)
accepted bytes = (λ ok. at_answer (checked bytes) refl ok, λ h. subst (λ (r : Result WellFormed CheckFault). IsOk r) (sym (passes bytes h.0 h.1)) refl)
  where
    at_answer : (r : Result WellFormed CheckFault) → checked bytes ≡ r → IsOk r → (w : WellFormed) × IsProgram bytes w
    at_answer (Ok w) e ok = (w, is_program bytes w e)
    at_answer (Err f) e ok = absurd cc

-- bytes are at most one program
pub one_program : (bytes : List ℕ) (v w : WellFormed) → IsProgram bytes v → IsProgram bytes w → v ≡ w
one_program bytes v w h k = ok_same (sym (passes bytes v h) ∙ passes bytes w k)
