-- That the faults of calls are at places of programs, or at their ends.
use Rattle.std.proofs.Common.{◌≡◌, ◌≤◌, ◌+◌, ◌-◌, ◌*◌, ℕ, zero, suc, Bool, true, false, eqb, List, [], ◌∷◌, length, Option, None, Some, Result, Ok, Err, refl, sym, subst, inl, inr, arith}
use Rattle.std.specs.Prelude.{◌==◌, ◌||◌, ◌^◌, if◌then◌else◌, not, is_ok, is_some, IsTrue}
use Rattle.std.proofs.lemmas.Bool.{eqb-true}
use Rattle.teal_value.specs.declared.value.Value.{Value}
use Rattle.teal_value.specs.declared.value.Value.TheVariants.{Uint, Bytes}
use Rattle.teal_value.proofs.Binding.{bind_ok, chosen}
use Rattle.teal_table.specs.declared.shape.Version.{Version}
use Rattle.teal_code.specs.Limits.{most_program_bytes}
use Rattle.teal_check.specs.declared.fault.CheckFault.{CheckFault}
use Rattle.teal_check.specs.declared.program.PlacedInstr.{PlacedInstr}
use Rattle.teal_check.specs.WellFormed.{WellFormed, placed_at, placed_from, places, checked}
use Rattle.teal_check.proofs.CheckedPrograms.{is_checked, placed_forward}
use Rattle.avm_ledger.specs.declared.application.Application.{Application}
use Rattle.avm_ledger.specs.declared.header.Header.{Header}
use Rattle.avm_ledger.specs.Ledgers.{Ledger}
use Rattle.avm_items.specs.declared.call_data.CallData.{CallData}
use Rattle.avm_items.specs.declared.item.Item.TheVariants as item
use Rattle.avm_items.specs.declared.item_value.ItemValue.{ItemValue}
use Rattle.avm_items.specs.CallFields.{creates, clears}
use Rattle.avm_items.specs.Items.{Look, ItemMap, next_id_in, application_in}
use Rattle.avm_items.specs.LedgerItems.{at}
use Rattle.avm_items.specs.Acts.{done, on_ok, test}
use Rattle.avm_items.proofs.Questions.{result_over-and_then}
use Rattle.avm_items.specs.Asks.{Ask, Gives, Asks, and_then, result_over}
use Rattle.avm_items.specs.Counting.{AsksAtMost, Any}
use Rattle.avm_items.proofs.Counting.{at_most-more, at_most-then}
use Rattle.avm_call.specs.declared.outcome.Ended.{Ended}
use Rattle.avm_call.specs.declared.outcome.Ended.TheVariants as ended
use Rattle.avm_call.specs.declared.outcome.Why.{Why}
use Rattle.avm_call.specs.declared.outcome.Why.TheVariants as why
use Rattle.avm_call.specs.Runs.{Execution, Position, instruction_at, result_at_end, executed, step, start, run_from, whole_path, program_result, ended_at}
use Rattle.avm_call.specs.Calls.{CallResult, Target, created, new_target, called_target, target, opt_in_test, admitted, prepared, execution, ending, runs, runs_on, goes_on}
use Rattle.avm_call.specs.Ends.{is_start, is_start_or_end, IsLaidOut, is_program, has_programs}
use Rattle.avm_call.specs.Places.{HasPlace}
use Rattle.avm_call.specs.Replay.{outcome_on}
use Rattle.avm_call.proofs.Paths as paths
use Rattle.avm_call.proofs.Steps.{LaidOn, executed_laid}
use Rattle.avm_call.proofs.LaidOut.{laid_out}
use Rattle.avm_call.proofs.Asked.{BothFit, TargetFits, programs_fit, program_fits}

-- ---- the instructions of a checked program stand before its end

one_within : (x y end : ℕ) (c there : Bool) → (x == y) ≡ c → y ≤ end → (there ≡ true → x ≤ end) → (c || there) ≡ true → x ≤ end
one_within x y end true there e within later h = let same : x ≡ y = eqb-true x y e in omega arith
one_within x y end false there e within later h = later h

placed_within : (n : ℕ) (version : Version) (bytes : List ℕ) (place : ℕ) (ps : List PlacedInstr) → place ≤ length bytes → placed_from n version bytes place ≡ Ok ps → (x : ℕ) → is_start (places ps) x ≡ true → x ≤ length bytes
unfolding placed_from
placed_within zero version bytes place ps within e x there =
    let none : [] ≡ ps = cc in
    let nowhere : false ≡ true = subst (λ qs. is_start (places qs) x ≡ true) (sym none) there in
    absurd cc
placed_within (suc n) version bytes place ps within e x there =
    elim (chosen (eqb place (length bytes)) _ _ _ e) [
      | inl (end, done) ↦
          let none : [] ≡ ps = cc in
          let nowhere : false ≡ true = subst (λ qs. is_start (places qs) x ≡ true) (sym none) there in
          absurd cc
      | inr (before, more) ↦
          let (p, first, others) = bind_ok (placed_at version bytes place) _ _ more in
          let (qs, rest, last) = bind_ok (placed_from n version bytes p.next) _ _ others in
          let forward = placed_forward version bytes place p within first in
          let same : p ∷ qs ≡ ps = cc in
          let here = subst (λ rs. is_start (places rs) x ≡ true) (sym same) there in
          one_within x p.place (length bytes) (x == p.place) (is_start (places qs) x) refl (omega (arith, forward.0)) (placed_within n version bytes p.next qs forward.2 rest x) here
    ]

-- the places of a program are few
record IsShort (bytes : List ℕ) (w : WellFormed) : Type 0 where
  short : length bytes ≤ most_program_bytes
  within : (x : ℕ) → is_start_or_end (places w.placed) (length bytes) x ≡ true → x ≤ most_program_bytes

is_short : (bytes : List ℕ) (w : WellFormed) → checked bytes ≡ Ok w → IsShort bytes w
is_short bytes w e =
    let c = is_checked bytes w e in
    let low : (x : ℕ) → is_start (places w.placed) x ≡ true → x ≤ length bytes =
    λ x there. placed_within (length bytes) w.version bytes c.start c.bare c.within c.placed x (subst (λ ss. is_start ss x ≡ true) c.same_places there) in
    record {
      short = c.short;
      within = λ x h. one_within x (length bytes) most_program_bytes (x == length bytes) (is_start (places w.placed) x) refl c.short (λ there. omega (arith, low x there, c.short)) h;
    }

-- a program has few bytes
pub program_is_short : (bytes : List ℕ) → is_program bytes ≡ true → length bytes ≤ most_program_bytes
program_is_short bytes passes = by (checked bytes) refl passes
  where
    by : (r : Result WellFormed CheckFault) → checked bytes ≡ r → is_ok r ≡ true → length bytes ≤ most_program_bytes
    by (Ok w) is pass = (is_short bytes w is).short
    by (Err f) is pass = absurd cc

-- ---- the path of a program

abbrev EndHasPlace : Ended → Type 0
EndHasPlace (ended.Faulted f place) = place ≤ most_program_bytes
EndHasPlace ended.Approved = Unit {0}
EndHasPlace ended.Rejected = Unit {0}

abbrev StandsOn : List ℕ → Execution → Result Position Ended → Type 0
StandsOn starts e (Ok q) = is_start_or_end starts (length e.program) q.place ≡ true
StandsOn starts e (Err end) = EndHasPlace end

abbrev PathHasPlace : Position × Option Ended → Type 0
PathHasPlace (p, Some end) = EndHasPlace end
PathHasPlace (p, None) = Unit {0}

weaker : {A : Type 0} (F : ItemValue → Type 0) (n : ℕ) (P Q : A → Type 0) (t : Ask A) → ((a : A) → P a → Q a) → AsksAtMost F n P t → AsksAtMost F n Q t
weaker F n P Q (Gives a) f h = f a h
weaker F n P Q (Asks x k) f h = (h.0, λ v comes. weaker F (n - 1) P Q (k v) f (h.1 v comes))

result_at_end_within : (n : ℕ) (stack : List Value) → n ≤ most_program_bytes → EndHasPlace (result_at_end n stack)
result_at_end_within n [] short = short
result_at_end_within n (Uint zero ∷ []) short = tt
result_at_end_within n (Uint (suc m) ∷ []) short = tt
result_at_end_within n (Bytes s ∷ []) short = short
result_at_end_within n (Uint zero ∷ w ∷ vs) short = short
result_at_end_within n (Uint (suc m) ∷ w ∷ vs) short = short
result_at_end_within n (Bytes s ∷ w ∷ vs) short = short

laid_stands : (starts : List ℕ) (e : Execution) (p : Position) → p.place ≤ most_program_bytes → (r : Result Position Ended) → LaidOn starts e p r → StandsOn starts e r
laid_stands starts e p within (Ok q) h = h.1
laid_stands starts e p within (Err (ended.Faulted f place)) h = omega (arith, h)
laid_stands starts e p within (Err ended.Approved) h = tt
laid_stands starts e p within (Err ended.Rejected) h = tt

step_by : (e : Execution) (starts : List ℕ) → IsLaidOut e.program starts → length e.program ≤ most_program_bytes → (p : Position) → p.place ≤ most_program_bytes → (b : Bool) → (b || is_start starts p.place) ≡ true
    → AsksAtMost Any 3 (StandsOn starts e) (if b then Gives (Err (result_at_end (length e.program) p.stack)) else executed e p (instruction_at e.program p.place))
step_by e starts laid short p within true h = result_at_end_within (length e.program) p.stack short
step_by e starts laid short p within false h =
    weaker Any 3 (LaidOn starts e p) (StandsOn starts e) (executed e p (instruction_at e.program p.place)) (laid_stands starts e p within) (executed_laid e starts laid p h (instruction_at e.program p.place) refl)

run_placed : (e : Execution) (starts : List ℕ) → IsLaidOut e.program starts → length e.program ≤ most_program_bytes → ((x : ℕ) → is_start_or_end starts (length e.program) x ≡ true → x ≤ most_program_bytes)
    → (n : ℕ) (p : Position) → is_start_or_end starts (length e.program) p.place ≡ true → AsksAtMost Any (3 * n) PathHasPlace (run_from e n p)
run_placed e starts laid short within zero p here = tt
run_placed e starts laid short within (suc n) p here =
    at_most-more Any (3 + 3 * n) (3 * suc n) PathHasPlace (run_from e (suc n) p) (omega arith)
    (at_most-then Any 3 (3 * n) (StandsOn starts e) PathHasPlace (step e p) (paths.goes_on e n p)
    (step_by e starts laid short p (within p.place here) (p.place == length e.program) here) (rest_placed e starts n p (run_placed e starts laid short within n)))
  where
    rest_placed : (e : Execution) (starts : List ℕ) (n : ℕ) (p : Position) → ((q : Position) → is_start_or_end starts (length e.program) q.place ≡ true → AsksAtMost Any (3 * n) PathHasPlace (run_from e n q))
        → (r : Result Position Ended) → StandsOn starts e r → AsksAtMost Any (3 * n) PathHasPlace (paths.goes_on e n p r)
    rest_placed e starts n p next (Ok q) h = next q h
    rest_placed e starts n p next (Err end) h = h

path_placed : (e : Execution) (writes : ItemMap) (r : Result WellFormed CheckFault) → checked e.program ≡ r → is_ok r ≡ true → AsksAtMost Any 3075 PathHasPlace (whole_path e writes)
path_placed e writes (Err f) is pass = absurd cc
path_placed e writes (Ok w) is pass =
    let few = is_short e.program w is in
    let laid = laid_out e.program w is in
    let short = few.short in
    at_most-more Any (3 * (length e.program + 1)) 3075 PathHasPlace (whole_path e writes) (omega arith)
    (run_placed e (places w.placed) laid short few.within (length e.program + 1) (start e.program writes) laid.first)

-- ---- a whole call

ended_placed : (end : Position × Option Ended) → PathHasPlace end → EndHasPlace (ended_at end).1
ended_placed (p, Some end) h = h
ended_placed (p, None) h = tt

abbrev ResultHasPlace : CallResult → Type 0
ResultHasPlace r = HasPlace r.0

either_placed : (b : Bool) (x y : CallResult) → ResultHasPlace x → ResultHasPlace y → ResultHasPlace (if b then x else y)
either_placed true x y h g = h
either_placed false x y h g = g

ending_placed : (call : CallData) (id : ℕ) (row : Application) (end : ItemMap × Ended) → EndHasPlace end.1 → ResultHasPlace (ending call id row end)
ending_placed call id row (writes, ended.Approved) h = tt
ending_placed call id row (writes, ended.Rejected) h = either_placed (clears call.completion) _ _ tt tt
ending_placed call id row (writes, ended.Faulted f place) h = either_placed (clears call.completion) _ _ h h

runs_placed : (call : CallData) (header : Header) (id : ℕ) (row : Application) → (is_program row.approval ≡ true) × (is_program row.clear ≡ true) → AsksAtMost Any 3075 ResultHasPlace (runs call header id row)
runs_placed call header id row h =
    let e = execution call header id row in
    let writes = prepared call id in
    let few = path_placed e writes (checked e.program) refl (program_fits is_program row h call.completion) in
    let result = at_most-then Any 3075 0 PathHasPlace (λ end. EndHasPlace end.1) (whole_path e writes) (λ end. Gives (ended_at end)) few ended_placed in
    at_most-then Any 3075 0 (λ end. EndHasPlace end.1) ResultHasPlace (program_result e writes) (λ end. Gives (ending call id row end)) result (ending_placed call id row)

runs_on_placed : (call : CallData) (header : Header) (t : Target) (row : Option Application) → BothFit is_program row → AsksAtMost Any 3075 ResultHasPlace (runs_on call header t row)
runs_on_placed call header t None h = tt
runs_on_placed call header t (Some row) h = runs_placed call header t.id row h

goes_on_placed : (call : CallData) (header : Header) (r : Result Target Why) → TargetFits is_program r → AsksAtMost Any 3075 ResultHasPlace (goes_on call header r)
goes_on_placed call header (Ok t) h = runs_on_placed call header t t.row h
goes_on_placed call header (Err w) h = tt

-- ---- over a ledger

result_has : {A : Type 0} (n : ℕ) (P : A → Type 0) (look : Look) (t : Ask A) → AsksAtMost Any n P t → P (result_over look t)
result_has n P look (Gives a) h = h
result_has n P look (Asks x k) h = result_has (n - 1) P look (k (look x)) (h.1 (look x) tt)

tested_fits : (look : Look) (b : Bool) (w : Why) (t : Target) → BothFit is_program t.row → TargetFits is_program (result_over look (and_then (test b w) (on_ok (λ _. done t))))
tested_fits look true w t h = h
tested_fits look false w t h = tt

target_fits : (look : Look) (call : CallData) (b : Bool) → IsTrue (has_programs (look (item.App call.application))) → (b ≡ true → (is_program call.approval ≡ true) × (is_program call.clear ≡ true))
    → TargetFits is_program (result_over look (elim b [ true ↦ new_target call | false ↦ called_target call ]))
target_fits look call true there new =
    let id = next_id_in (look item.NextApp) in
    tested_fits look (not (id == 2 ^ 64 - 1)) why.IdsEnd (record { id = id; row = Some (created call) }) (new refl)
target_fits look call false there new =
    let row = application_in (look (item.App call.application)) in
    tested_fits look (is_some row || clears call.completion) why.NoApp (record { id = call.application; row = row }) (programs_fit is_program (look (item.App call.application)) there)

kept_target : (look : Look) (t : Target) → BothFit is_program t.row → (r : Result (Unit {0}) Why) → TargetFits is_program (result_over look (on_ok (λ _. done t) r))
kept_target look t h (Ok u) = h
kept_target look t h (Err w) = tt

admitted_target : (look : Look) (call : CallData) (r : Result Target Why) → TargetFits is_program r → TargetFits is_program (result_over look (on_ok (λ t. and_then (opt_in_test call t.id) (on_ok (λ _. done t))) r))
admitted_target look call (Ok t) h =
    subst (TargetFits is_program) (sym (result_over-and_then look (opt_in_test call t.id) (on_ok (λ _. done t)))) (kept_target look t h (result_over look (opt_in_test call t.id)))
admitted_target look call (Err w) h = tt

admitted_fits : (look : Look) (call : CallData) → IsTrue (has_programs (look (item.App call.application))) → (creates call ≡ true → (is_program call.approval ≡ true) × (is_program call.clear ≡ true))
    → TargetFits is_program (result_over look (admitted call))
admitted_fits look call there new =
    subst (TargetFits is_program) (sym (result_over-and_then look (target call) _)) (admitted_target look call (result_over look (target call)) (target_fits look call (creates call) there new))

-- where the programs pass the checks, a fault's place is at most most_program_bytes
pub outcomes_have_places : (l : Ledger) (call : CallData) (header : Header) → IsTrue (has_programs (at l (item.App call.application))) → (creates call ≡ true → (is_program call.approval ≡ true) × (is_program call.clear ≡ true))
    → HasPlace (outcome_on l call header)
outcomes_have_places l call header there new =
    let t = result_over (at l) (admitted call) in
    subst ResultHasPlace (sym (result_over-and_then (at l) (admitted call) (goes_on call header)))
    (result_has 3075 ResultHasPlace (at l) (goes_on call header t) (goes_on_placed call header t (admitted_fits (at l) call there new)))
