-- Steps of a call's program, as a stepper makes them.
use Rattle.std.proofs.Common.{◌≡◌, ◌<◌, ◌+◌, ℕ, Bool, true, false, cond, length, eqb, Option, Some, None, Result, Ok, Err, inl, inr, ap, subst, sym, ◌∙◌, refl, arith}
use Rattle.std.specs.Prelude.{option_map}
use Rattle.std.proofs.lemmas.Bool.{cases_lt}
use Rattle.teal_value.specs.declared.failure.Failure.TheVariants as failure
use Rattle.teal_value.specs.declared.fault.Fault.{Fault}
use Rattle.teal_code.specs.declared.instr.Instr.{Instr}
use Rattle.avm_ledger.specs.declared.application.Application.{Application}
use Rattle.avm_ledger.specs.declared.header.Header.{Header}
use Rattle.avm_ledger.specs.Ledgers.{Ledger}
use Rattle.avm_items.specs.declared.call_data.CallData.{CallData}
use Rattle.avm_items.specs.Asks.{result_over}
use Rattle.avm_items.specs.LedgerItems.{at}
use Rattle.avm_call.specs.declared.outcome.Ended.TheVariants as ended
use Rattle.avm_call.specs.declared.outcome.Why.{Why}
use Rattle.avm_call.specs.Runs.{Position}
use Rattle.avm_call.specs.Calls.{Target, admitted, program_of}
use Rattle.avm_call.specs.CallPaths.{call_path}
use Rattle.avm_call.specs.Views.{AtEnd, Faults, NextStep, Runs, View, view_after}
use Rattle.avm_stepper.specs.declared.step_fault.StepFault.TheVariants as fault
use Rattle.avm_stepper.specs.Debugging.{Debugged, steps_shown}
use Rattle.avm_stepper.specs.DebugSteps.{StepsTo}
use Rattle.avm_stepper.specs.StepsMade.{CanGo, HasMade, HasNext, IsDebugOver, next_after}
use Rattle.avm_stepper.proofs.ViewsThere.{view_there}

-- ---- after a fault no instruction comes next

abbrev next_in : View → NextStep
next_in v = v.next

fault_or_end : (b : Bool) (f : Fault) (i : Instr) → Some (cond b AtEnd (Faults f)) ≡ Some (Runs i) → ⊥
fault_or_end true f i e = absurd cc
fault_or_end false f i e = absurd cc

module _ (l : Ledger) (call : CallData) (header : Header) where
  no_next_in : (id : ℕ) (o : Option Application) (n : ℕ) (p : Position) (f : Fault) (place : ℕ) → result_over (at l) (admitted call) ≡ Ok (record { id = id; row = o })
      → result_over (at l) (call_path call header n) ≡ Some (p, Some (ended.Faulted f place)) → HasNext l call header n → ⊥
  no_next_in id None n p f place admits comes next =
      let none : next_after l call header n ≡ None = rw admits refl in
      let never : None ≡ Some (Runs next.0) = sym none ∙ next.1 in absurd cc
  no_next_in id (Some row) n p f place admits comes next =
      fault_or_end (eqb p.place (length (program_of call.completion row))) f next.0
      (sym (ap (option_map next_in) (view_there l call header id row n (p, Some (ended.Faulted f place)) admits comes)) ∙ next.1)

  no_next_by : (r : Result Target Why) (n : ℕ) (p : Position) (f : Fault) (place : ℕ) → result_over (at l) (admitted call) ≡ r
      → result_over (at l) (call_path call header n) ≡ Some (p, Some (ended.Faulted f place)) → HasNext l call header n → ⊥
  no_next_by (Ok t) n p f place admits comes next = no_next_in t.id t.row n p f place admits comes next
  no_next_by (Err w) n p f place admits comes next =
      let none : next_after l call header n ≡ None = rw admits refl in
      let never : None ≡ Some (Runs next.0) = sym none ∙ next.1 in absurd cc

  no_next : (n : ℕ) (p : Position) (f : Fault) (place : ℕ) → result_over (at l) (call_path call header n) ≡ Some (p, Some (ended.Faulted f place)) → HasNext l call header n → ⊥
  no_next n p f place comes next = no_next_by (result_over (at l) (admitted call)) n p f place refl comes next

  -- ---- one step more

  -- where an instruction comes next, one step more can be made
  pub go_on : (n : ℕ) → CanGo l call header n → HasNext l call header n → CanGo l call header (n + 1)
  go_on n can next m lt =
      elim (cases_lt m n) [
        | inl below ↦ can m below
        | inr above ↦ let same : n ≡ m = omega (arith, above, lt) in subst (HasNext l call header) same next
      ]

  abbrev there : ℕ → Option Fault → Option Debugged
  there steps fault = Some (record { ledger = l; call = call; header = header; steps = steps; fault = fault })

  made_by : (steps : ℕ) (fault : Option Fault) (n : ℕ) (after : Option Debugged) → steps_shown steps fault ≡ n → CanGo l call header n → IsDebugOver l call header n fault
      → StepsTo (there steps fault) after (Ok tt) → HasMade l call header (n + 1) after
  made_by steps None n after counted can over (inl moved) = record {
    steps = steps + 1;
    fault = None;
    is = moved.now;
    counted = ap (λ m. m + 1) counted;
    can_go = go_on n can (subst (HasNext l call header) counted moved.instruction);
    over = tt;
  }
  made_by steps None n after counted can over (inr faulted) = record {
    steps = steps;
    fault = Some faulted.fault;
    is = faulted.now;
    counted = ap (λ m. m + 1) counted;
    can_go = go_on n can (subst (HasNext l call header) counted faulted.instruction);
    over = subst (λ m. HasNext l call header (m + 1) → ⊥) counted (no_next (steps + 1) faulted.position faulted.fault faulted.place faulted.path);
  }
  made_by steps (Some f) n after counted can over (inl moved) = absurd (over (subst (HasNext l call header) counted moved.instruction))
  made_by steps (Some f) n after counted can over (inr faulted) = absurd (over (subst (HasNext l call header) counted faulted.instruction))

  -- a step that is made, also one that faults, counts as one more
  pub made_more : (n : ℕ) (now after : Option Debugged) → HasMade l call header n now → StepsTo now after (Ok tt) → HasMade l call header (n + 1) after
  made_more n now after h steps = made_by h.steps h.fault n after h.counted h.can_go h.over (subst (λ m. StepsTo m after (Ok tt)) h.is steps)

  -- no step is made where no instruction comes next
  pub ended_there : (n : ℕ) (now after : Option Debugged) → HasMade l call header n now → StepsTo now after (Err (failure.Fault fault.Ended)) → HasNext l call header n → ⊥
  ended_there n now after h steps =
      let refused = subst (λ m. StepsTo m after (Err (failure.Fault fault.Ended))) h.is steps in
      subst (λ m. HasNext l call header m → ⊥) h.counted refused.0
