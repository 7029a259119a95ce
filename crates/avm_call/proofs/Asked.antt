-- A call asks for at most two items before its program, and three a step.
use Rattle.std.proofs.Common.{◌≡◌, ◌+◌, ◌-◌, ◌*◌, ◌^◌, ℕ, Bool, true, false, Option, None, Some, Result, Ok, Err, refl, arith, List}
use Rattle.std.specs.Prelude.{◌==◌, ◌||◌, ◌&&◌, not, IsTrue, is_some}
use Rattle.teal_code.specs.Limits.{most_cost}
use Rattle.avm_ledger.specs.declared.application.Application.{Application}
use Rattle.avm_ledger.specs.declared.header.Header.{Header}
use Rattle.avm_items.specs.declared.call_data.Completion.{Completion}
use Rattle.avm_items.specs.declared.call_data.Completion.TheVariants as completion
use Rattle.avm_items.specs.declared.call_data.CallData.{CallData}
use Rattle.avm_items.specs.declared.item_value.ItemValue.{ItemValue}
use Rattle.avm_items.specs.declared.item_value.ItemValue.TheVariants as value
use Rattle.avm_items.specs.CallFields.{creates, clears}
use Rattle.avm_items.specs.Items.{next_id_in, application_in, local_state_in}
use Rattle.avm_items.specs.Asks.{Gives, and_then}
use Rattle.avm_items.specs.Acts.{Act, done, on_ok, test, ◌>>=◌}
use Rattle.avm_items.specs.Counting.{AsksAtMost, Any}
use Rattle.avm_items.proofs.Counting.{at_most-more, at_most-then, at_most-fewer}
use Rattle.avm_call.specs.declared.outcome.Why.{Why}
use Rattle.avm_call.specs.declared.outcome.Why.TheVariants as why
use Rattle.avm_call.specs.Runs.{Execution, whole_path, program_result, ended_at}
use Rattle.avm_call.specs.Calls.{Target, created, new_target, called_target, target, is_opted_in, opt_in_test, admitted, prepared, program_of, execution, ending, runs, runs_on, goes_on, call_result}
use Rattle.avm_call.specs.Ends.{HasEnded, is_program, has_programs, most_items}
use Rattle.teal_check.specs.WellFormed.{checked}
use Rattle.avm_items.specs.Items.{ItemMap}
use Rattle.avm_call.proofs.LaidOut.{program_asks}

-- a test that both programs of an application pass, where the value is one
abbrev pub passes : (List ℕ → Bool) → ItemValue → Bool
passes fits (value.App row) = fits row.approval && fits row.clear
passes fits _ = true

-- both programs of the value pass the test, where it is an application
abbrev pub Comes : (List ℕ → Bool) → ItemValue → Type 0
Comes fits v = IsTrue (passes fits v)

-- both programs of an application pass it, if there is an application
abbrev pub BothFit : (List ℕ → Bool) → Option Application → Type 0
BothFit fits None = Unit {0}
BothFit fits (Some row) = (fits row.approval ≡ true) × (fits row.clear ≡ true)

-- both programs of the application that a call is admitted to pass it, if it is there
abbrev pub TargetFits : (List ℕ → Bool) → Result Target Why → Type 0
TargetFits fits (Ok t) = BothFit fits t.row
TargetFits fits (Err w) = Unit {0}

both_tests : (a b : Bool) → (a && b) ≡ true → (a ≡ true) × (b ≡ true)
both_tests true b e = (refl, e)
both_tests false b e = absurd cc

-- where a value passes the test, so do both programs of the application that it is, if any
pub programs_fit : (fits : List ℕ → Bool) (v : ItemValue) → Comes fits v → BothFit fits (application_in v)
programs_fit fits (value.App row) h = both_tests (fits row.approval) (fits row.clear) h
programs_fit fits value.Absent h = tt
programs_fit fits (value.NextApp id) h = tt
programs_fit fits (value.Counts n) h = tt
programs_fit fits (value.Key v) h = tt
programs_fit fits (value.Local s) h = tt

-- ---- before the program

then_test : {A : Type 0} (F : ItemValue → Type 0) (n : ℕ) (P : Result A Why → Type 0) (b : Bool) (w : Why) (f : Unit {0} → Act Why A) → AsksAtMost F n P (f tt) → P (Err w) → AsksAtMost F n P (and_then (test b w) (on_ok f))
then_test F n P true w f h g = h
then_test F n P false w f h g = g

test_asks : (F : ItemValue → Type 0) (b : Bool) (w : Why) → AsksAtMost F 0 Any (test b w)
test_asks F true w = tt
test_asks F false w = tt

target_by : (fits : List ℕ → Bool) (call : CallData) (b : Bool) → (b ≡ true → (fits call.approval ≡ true) × (fits call.clear ≡ true))
    → AsksAtMost (Comes fits) 1 (TargetFits fits) (elim b [ true ↦ new_target call | false ↦ called_target call ])
target_by fits call true new =
    (omega arith, λ v h. then_test (Comes fits) 0 (TargetFits fits) (not (next_id_in v == 2 ^ 64 - 1)) why.IdsEnd (λ _. done (record { id = next_id_in v; row = Some (created call) })) (new refl) tt)
target_by fits call false new = (
  omega arith,
  λ v h. then_test (Comes fits) 0 (TargetFits fits) (is_some (application_in v) || clears call.completion) why.NoApp
      (λ _. done (record { id = call.application; row = application_in v })) (programs_fit fits v h) tt,
)

opt_in_by : (F : ItemValue → Type 0) (call : CallData) (id : ℕ) (c : Completion) → AsksAtMost F 1 Any (elim c as (λ _. Act Why (Unit {0})) [
  | completion.OptIn ↦ is_opted_in call id >>= λ in_already. test (not in_already) why.AlreadyIn
  | completion.CloseOut ↦ is_opted_in call id >>= λ is_in. test is_in why.NotIn
  | completion.ClearState ↦ is_opted_in call id >>= λ is_in. test is_in why.NotIn
  | _ ↦ done tt
])
opt_in_by F call id completion.NoOp = tt
opt_in_by F call id completion.OptIn = (omega arith, λ v h. test_asks F (not (is_some (local_state_in v))) why.AlreadyIn)
opt_in_by F call id completion.CloseOut = (omega arith, λ v h. test_asks F (is_some (local_state_in v)) why.NotIn)
opt_in_by F call id completion.ClearState = (omega arith, λ v h. test_asks F (is_some (local_state_in v)) why.NotIn)
opt_in_by F call id completion.UpdateApplication = tt
opt_in_by F call id completion.DeleteApplication = tt

tested : (fits : List ℕ → Bool) (t : Target) → BothFit fits t.row → (r : Result (Unit {0}) Why) → AsksAtMost (Comes fits) 0 (TargetFits fits) (on_ok (λ _. done t) r)
tested fits t h (Ok u) = h
tested fits t h (Err w) = tt

admits : (fits : List ℕ → Bool) (call : CallData) (r : Result Target Why) → TargetFits fits r
    → AsksAtMost (Comes fits) 1 (TargetFits fits) (on_ok (λ t. opt_in_test call t.id >>= λ _. done t) r)
admits fits call (Ok t) h =
    at_most-then (Comes fits) 1 0 Any (TargetFits fits) (opt_in_test call t.id) (on_ok (λ _. done t)) (opt_in_by (Comes fits) call t.id call.completion) (λ r _. tested fits t h r)
admits fits call (Err w) h = tt

admitted_asks : (fits : List ℕ → Bool) (call : CallData) → (creates call ≡ true → (fits call.approval ≡ true) × (fits call.clear ≡ true)) → AsksAtMost (Comes fits) 2 (TargetFits fits) (admitted call)
admitted_asks fits call new =
    at_most-then (Comes fits) 1 1 (TargetFits fits) (TargetFits fits) (target call) _ (target_by fits call (creates call) new) (admits fits call)

-- ---- the program, and the whole call

-- where both programs pass, so does the one that the call runs
pub program_fits : (fits : List ℕ → Bool) (row : Application) → (fits row.approval ≡ true) × (fits row.clear ≡ true) → (c : Completion) → fits (program_of c row) ≡ true
program_fits fits row h completion.NoOp = h.0
program_fits fits row h completion.OptIn = h.0
program_fits fits row h completion.CloseOut = h.0
program_fits fits row h completion.ClearState = h.1
program_fits fits row h completion.UpdateApplication = h.0
program_fits fits row h completion.DeleteApplication = h.0

-- the paths of programs that pass the test ask for at most n items
abbrev PathsAskFor : (List ℕ → Bool) → ℕ → Type 0
PathsAskFor fits n = (e : Execution) (writes : ItemMap) → fits e.program ≡ true → AsksAtMost Any n HasEnded (whole_path e writes)

runs_ask : (fits : List ℕ → Bool) (n : ℕ) → PathsAskFor fits n → (call : CallData) (header : Header) (id : ℕ) (row : Application) → (fits row.approval ≡ true) × (fits row.clear ≡ true) → AsksAtMost (Comes fits) n Any (runs call header id row)
runs_ask fits n paths call header id row h =
    let e = execution call header id row in
    let few = at_most-fewer (Comes fits) n HasEnded (whole_path e (prepared call id)) (paths e (prepared call id) (program_fits fits row h call.completion)) in
    let result = at_most-then (Comes fits) n 0 HasEnded Any (whole_path e (prepared call id)) (λ end. Gives (ended_at end)) few (λ end _. tt) in
    at_most-more (Comes fits) (n + 0 + 0) n Any (runs call header id row) (omega arith)
    (at_most-then (Comes fits) (n + 0) 0 Any Any (program_result e (prepared call id)) (λ end. Gives (ending call id row end)) result (λ end _. tt))

runs_on_asks : (fits : List ℕ → Bool) (n : ℕ) → PathsAskFor fits n → (call : CallData) (header : Header) (t : Target) (row : Option Application) → BothFit fits row → AsksAtMost (Comes fits) n Any (runs_on call header t row)
runs_on_asks fits n paths call header t None h = tt
runs_on_asks fits n paths call header t (Some row) h = runs_ask fits n paths call header t.id row h

goes_on_asks : (fits : List ℕ → Bool) (n : ℕ) → PathsAskFor fits n → (call : CallData) (header : Header) (r : Result Target Why) → TargetFits fits r → AsksAtMost (Comes fits) n Any (goes_on call header r)
goes_on_asks fits n paths call header (Ok t) h = runs_on_asks fits n paths call header t t.row h
goes_on_asks fits n paths call header (Err w) h = tt

call_asks : (fits : List ℕ → Bool) (n : ℕ) → PathsAskFor fits n → (call : CallData) (header : Header) → (creates call ≡ true → (fits call.approval ≡ true) × (fits call.clear ≡ true))
    → AsksAtMost (Comes fits) (2 + n) Any (call_result call header)
call_asks fits n paths call header new =
    at_most-then (Comes fits) 2 n (TargetFits fits) Any (admitted call) (goes_on call header) (admitted_asks fits call new) (goes_on_asks fits n paths call header)

-- ---- checked programs

-- where applications have programs, and a creation brings them, a call asks for few items
pub calls_ask_little : (call : CallData) (header : Header) → (creates call ≡ true → (is_program call.approval ≡ true) × (is_program call.clear ≡ true))
    → AsksAtMost (λ v. IsTrue (has_programs v)) most_items Any (call_result call header)
calls_ask_little call header new = call_asks is_program (3 * most_cost) (λ e writes h. program_asks e writes (checked e.program) refl h) call header new
