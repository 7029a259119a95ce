-- The path of a program over a look-up, step by step.
use Rattle.std.proofs.Common.{◌≡◌, ℕ, zero, suc, Option, None, Some, Result, Ok, Err, refl, sym, ap, subst, ◌∙◌}
use Rattle.avm_ledger.specs.declared.application.Application.{Application}
use Rattle.avm_ledger.specs.declared.header.Header.{Header}
use Rattle.avm_items.specs.declared.call_data.CallData.{CallData}
use Rattle.avm_items.specs.Items.{Look}
use Rattle.avm_items.specs.Asks.{Ask, Gives, result_over}
use Rattle.avm_items.proofs.Questions.{result_over-and_then}
use Rattle.avm_call.specs.declared.outcome.Ended.{Ended}
use Rattle.avm_call.specs.declared.outcome.Why.{Why}
use Rattle.avm_call.specs.Ends.{HasEnded}
use Rattle.avm_call.specs.Runs.{Execution, Position, path, run_from, step}
use Rattle.avm_call.specs.Calls.{Target, admitted, execution, prepared}
use Rattle.avm_call.specs.CallPaths.{Reached, call_path, path_of_target}

abbrev after_step : Execution → ℕ → Position → Result Position Ended → Ask (Position × Option Ended)
after_step e n p (Ok next) = run_from e n next
after_step e n p (Err end) = Gives (p, Some end)

-- the first step, and the rest of the path behind it
pub run_parts : (look : Look) (e : Execution) (n : ℕ) (p : Position) (r : Result Position Ended) → result_over look (step e p) ≡ r → result_over look (run_from e (suc n) p) ≡ result_over look (after_step e n p r)
run_parts look e n p r is = result_over-and_then look (step e p) (after_step e n p) ∙ ap (λ s. result_over look (after_step e n p s)) is

-- where a step leads from a position
abbrev pub led_to : Position → Result Position Ended → Position × Option Ended
led_to p (Ok next) = (next, None)
led_to p (Err end) = (p, Some end)

first_step : (look : Look) (e : Execution) (p : Position) (r : Result Position Ended) → result_over look (step e p) ≡ r → result_over look (run_from e (suc zero) p) ≡ led_to p r
first_step look e p (Ok q) is = run_parts look e zero p (Ok q) is
first_step look e p (Err end) is = run_parts look e zero p (Err end) is

same_position : {p q : Position} → ◌≡◌ {A = Position × Option Ended} (p, None) (q, None) → p ≡ q
same_position e = ap (λ (r : Position × Option Ended). r.0) e

never_both : {P : Type 0} {p q : Position} {end : Ended} → ◌≡◌ {A = Position × Option Ended} (p, Some end) (q, None) → P
never_both e = absurd (subst HasEnded e tt)

step_by : (look : Look) (e : Execution) (n : ℕ) (first p : Position) → ((q : Position) → result_over look (run_from e n q) ≡ (p, None) → result_over look (run_from e (suc n) q) ≡ led_to p (result_over look (step e p)))
    → (r : Result Position Ended) → result_over look (step e first) ≡ r → result_over look (run_from e (suc n) first) ≡ (p, None) → result_over look (run_from e (suc (suc n)) first) ≡ led_to p (result_over look (step e p))
step_by look e n first p rest (Ok q) is here = run_parts look e (suc n) first (Ok q) is ∙ rest q (sym (run_parts look e n first (Ok q) is) ∙ here)
step_by look e n first p rest (Err end) is here = never_both (sym (run_parts look e n first (Err end) is) ∙ here)

-- A path that has come to a position goes on as the step from there.
pub goes_on_there : (look : Look) (e : Execution) (n : ℕ) (first p : Position) → result_over look (run_from e n first) ≡ (p, None) → result_over look (run_from e (suc n) first) ≡ led_to p (result_over look (step e p))
goes_on_there look e zero first p here =
    ap (λ q. result_over look (run_from e (suc zero) q)) (same_position here) ∙ first_step look e p (result_over look (step e p)) refl
goes_on_there look e (suc n) first p here = step_by look e n first p (λ q. goes_on_there look e n q p) (result_over look (step e first)) refl here

-- ---- the path of a call

some_same : {r s : Position × Option Ended} → ◌≡◌ {A = Reached} (Some r) (Some s) → r ≡ s
some_same e = cc

-- it is the path of the program that the call runs
pub call_path_is : (look : Look) (call : CallData) (header : Header) (id : ℕ) (row : Application) (steps : ℕ) → result_over look (admitted call) ≡ Ok (record { id = id; row = Some row })
    → result_over look (call_path call header steps) ≡ Some (result_over look (path (execution call header id row) (prepared call id) steps))
call_path_is look call header id row steps admits =
    result_over-and_then look (admitted call) (path_of_target call header steps)
    ∙ ap (λ (t : Result Target Why). result_over look (path_of_target call header steps t)) admits
    ∙ result_over-and_then look (path (execution call header id row) (prepared call id) steps) (λ end. Gives (Some end))

-- the path of a call's program has come to where the path of the call has
pub path_there : (look : Look) (call : CallData) (header : Header) (id : ℕ) (row : Application) (steps : ℕ) (r : Position × Option Ended) → result_over look (admitted call) ≡ Ok (record { id = id; row = Some row })
    → result_over look (call_path call header steps) ≡ Some r → result_over look (path (execution call header id row) (prepared call id) steps) ≡ r
path_there look call header id row steps r admits is = some_same (sym (call_path_is look call header id row steps admits) ∙ is)
