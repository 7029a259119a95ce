-- The states of a call's program, written one after another.
use Rattle.std.proofs.Common.{◌≡◌, ◌∙◌, ℕ, zero, suc, ◌+◌, ◌*◌, ◌-◌, ◌<◌, ◌≤◌, Bool, true, false, not, List, [], ◌∷◌, ◌++◌, Option, Some, None, Ok, Err, refl, sym, ap, subst, inl, inr, append_assoc, append-nil, arith}
use Rattle.std.specs.Prelude.{option_map}
use Rattle.std.proofs.lemmas.Bool.{cases_lt}
use Rattle.std.proofs.lemmas.List.Sums.{sum_by_push}
use Rattle.json.specs.Token.{Token, begin_array, end_array}
use Rattle.json.specs.Tree.{json_tokens}
use Rattle.teal_value.specs.declared.failure.Failure.TheVariants as failure
use Rattle.teal_code.specs.declared.instr.Instr.{Instr}
use Rattle.teal_check.specs.WellFormed.{WellFormed}
use Rattle.avm_ledger.specs.declared.header.Header.{Header}
use Rattle.avm_ledger.specs.Ledgers.{Ledger}
use Rattle.avm_items.specs.declared.call_data.CallData.{CallData}
use Rattle.avm_call.specs.Views.{NextStep, Runs, Faults, AtEnd, View, view_after}
use Rattle.avm_stepper.specs.declared.step_fault.StepFault.{StepFault}
use Rattle.avm_stepper.specs.declared.step_fault.StepFault.TheVariants as fault
use Rattle.avm_stepper.specs.Debugging.{Debugged}
use Rattle.avm_stepper.specs.DebugSteps.{StepsTo}
use Rattle.avm_stepper.specs.Shown.{MachineState, machine_of}
use Rattle.avm_stepper.specs.StepsMade.{CanGo, HasMade, HasNext}
use Rattle.avm_stepper.proofs.StepsMade.{ended_there, made_more}
use Rattle.json_views.specs.Documents.{array_of}
use Rattle.json_views.specs.Writing.{Adds}
use Rattle.json_views.specs.declared.refusal.TraceRefusal.TheVariants as refusal
use Rattle.json_views.specs.MachineStates.{shown_state}
use Rattle.json_views.specs.StateRuns.{AddsStates, IsAtStart, IsHeavy, IsStatesFailure, WritesState, is_instruction, state_tokens}
use Rattle.json_views.specs.Traces.{HasStates, first_states, next_cost, state_in, states_cost}
use Rattle.json_views.specs.Weights.{most_text, tokens_weight}
use Rattle.json_views.proofs.TokenRuns.{closed, run, run_more}
use Rattle.json_views.proofs.Weights.{weight-append}

-- ---- over one call

module _ (l : Ledger) (call : CallData) (header : Header) where
  view_of_next : (n : ℕ) (o : Option View) (i : Instr) → option_map (λ (v : View). v.next) o ≡ Some (Runs i) → o ≡ None → ⊥
  view_of_next n (Some v) i e none = absurd cc
  view_of_next n None i e none = absurd cc

  -- a state more
  one_more : (n : ℕ) (v : View) → view_after l call header n ≡ Some v → first_states l call header (n + 1) ≡ first_states l call header n ++ machine_of v ∷ []
  one_more n v there =
      let next : n + 1 ≡ suc n = omega arith in
      ap (first_states l call header) next ∙ ap (λ o. first_states l call header n ++ state_in o) there

  next_in : (n : ℕ) (v : View) (i : Instr) → view_after l call header n ≡ Some v → v.next ≡ Runs i → HasNext l call header n
  next_in n v i there is = (i, ap (option_map (λ (w : View). w.next)) there ∙ ap (λ x. Some x) is)

  runs_on : (n : ℕ) (v : View) → view_after l call header n ≡ Some v → (next : NextStep) → v.next ≡ next → is_instruction next ≡ true → HasNext l call header n
  runs_on n v there (Runs i) is true' = next_in n v i there is
  runs_on n v there (Faults f) is true' = absurd cc
  runs_on n v there AtEnd is true' = absurd cc

  told : (x y : NextStep) → Some x ≡ Some y → x ≡ y
  told x y e = cc

  stops : (n : ℕ) (v : View) → view_after l call header n ≡ Some v → is_instruction v.next ≡ false → HasNext l call header n → ⊥
  stops n v there false' next =
      let is : v.next ≡ Runs next.0 = told v.next (Runs next.0) (sym (ap (option_map (λ (w : View). w.next)) there) ∙ next.1) in
      let both : false ≡ true = sym false' ∙ ap is_instruction is in absurd cc

  has_view : (n : ℕ) → HasNext l call header n → (o : Option View) → view_after l call header n ≡ o → (v : View) × (view_after l call header n ≡ Some v)
  has_view n next (Some v) is = (v, is)
  has_view n next None is = absurd (view_of_next n (view_after l call header n) next.0 next.1 is)

  -- ---- the run

  module _ (p : WellFormed) where
    -- how much of the text the first n states take
    abbrev taken : ℕ → ℕ
    taken n = tokens_weight (state_tokens p (first_states l call header n))

    state_takes : (m : MachineState) → 1 ≤ tokens_weight (json_tokens (shown_state p m))
    state_takes m = omega arith

    taken_with : (n : ℕ) (v : View) → view_after l call header n ≡ Some v → taken (n + 1) ≡ taken n + tokens_weight (json_tokens (shown_state p (machine_of v)))
    taken_with n v there =
        let states = one_more n v there in
        let tokens = run_more (shown_state p) (first_states l call header n) (machine_of v) in
        ap (λ ms. tokens_weight (state_tokens p ms)) states ∙ ap tokens_weight tokens ∙ weight-append (state_tokens p (first_states l call header n)) (json_tokens (shown_state p (machine_of v)))

    -- the first n states take at least n, where an instruction comes next in each
    pub states_count : (n : ℕ) → CanGo l call header n → n ≤ taken n
    states_count zero can = omega arith
    states_count (suc n) can =
        let (v, there) = has_view n (can n (omega arith)) (view_after l call header n) refl in
        let next : n + 1 ≡ suc n = omega arith in
        omega (arith, ap taken next, taken_with n v there, state_takes (machine_of v), states_count n (λ m lt. can m (omega (arith, lt))))

    step_more : (n : ℕ) → (o : Option View) → view_after l call header n ≡ o → taken n ≤ taken (suc n)
    step_more n (Some v) there = let next : n + 1 ≡ suc n = omega arith in omega (arith, ap taken next, taken_with n v there)
    step_more n None there =
        let same : first_states l call header (suc n) ≡ first_states l call header n = ap (λ o. first_states l call header n ++ state_in o) there ∙ append-nil (first_states l call header n) in
        omega (arith, ap (λ ms. tokens_weight (state_tokens p ms)) same)

    -- more of the first states take no less
    pub states_grow : (n m : ℕ) → n ≤ m → taken n ≤ taken m
    states_grow n zero le = let same : n ≡ zero = omega arith in rw same (omega arith)
    states_grow n (suc m) le = elim (cases_lt m n) [
      | inl below ↦ let same : n ≡ suc m = omega (arith, below, le) in rw same (omega arith)
      | inr above ↦ omega (arith, states_grow n m above, step_more m (view_after l call header m) refl)
    ]

    -- so many states were written, and the stepper stands in the next one
    pub record StatesRun (now : Option Debugged) (begun out : List Token) (n cost : ℕ) : Type 0 where
      pub made : HasMade l call header n now
      pub written : out ≡ begun ++ run (shown_state p) (first_states l call header n)
      pub costs : cost ≡ states_cost (first_states l call header n)
      pub bound : cost ≤ n * 255

    -- the next one was written too
    pub record WrittenState (begun out : List Token) (n cost : ℕ) (goes_on : Bool) : Type 0 where
      pub view : View
      pub there : view_after l call header n ≡ Some view
      pub written : out ≡ begun ++ run (shown_state p) (first_states l call header (n + 1))
      pub costs : cost ≡ states_cost (first_states l call header (n + 1))
      pub bound : cost ≤ (n + 1) * 255
      pub told : goes_on ≡ is_instruction view.next

    -- where n states were written and the next state is, the first n + 1 were written
    pub state_written : (now : Option Debugged) (begun old new : List Token) (n cost one more : ℕ) (goes_on : Bool) → StatesRun now begun old n cost → WritesState p now old new one goes_on → one ≤ 255 → more ≡ cost + one
        → WrittenState begun new n more goes_on
    state_written now begun old new n cost one more goes_on s w small sum =
        let made = s.made in
        let (v, view, wrote, costs, told) = subst (λ m. WritesState p m old new one goes_on) made.is w in
        let there : view_after l call header n ≡ Some v = subst (λ m. view_after l call header m ≡ Some v) made.counted view in
        let states = one_more n v there in
        record {
          view = v;
          there = there;
          written = wrote ∙ ap (λ ts. ts ++ json_tokens (shown_state p (machine_of v))) s.written
              ∙ append_assoc begun (run (shown_state p) (first_states l call header n)) (json_tokens (shown_state p (machine_of v)))
              ∙ ap (λ ts. begun ++ ts) (sym (run_more (shown_state p) (first_states l call header n) (machine_of v)) ∙ ap (run (shown_state p)) (sym states));
          costs = sum ∙ (λ i. s.costs i + costs i) ∙ sym (sum_by_push (λ (m : MachineState). next_cost m.next) (first_states l call header n) (machine_of v)) ∙ ap states_cost (sym states);
          bound = omega (arith, sum, small, s.bound);
          told = told;
        }

    -- a step from the state that was written leads to the state after it
    pub goes_on : (now after : Option Debugged) (begun old out : List Token) (n cost more : ℕ) → StatesRun now begun old n cost → WrittenState begun out n more true → StepsTo now after (Ok tt)
        → StatesRun after begun out (n + 1) more
    goes_on now after begun old out n cost more s w steps = record { made = made_more l call header n now after s.made steps; written = w.written; costs = w.costs; bound = w.bound }

    -- where an instruction comes next, only a lack of memory can refuse the step
    pub never_ended : (now after : Option Debugged) (begun old out : List Token) (n cost more : ℕ) (f : StepFault) → StatesRun now begun old n cost → WrittenState begun out n more true → StepsTo now after (Err (failure.Fault f)) → ⊥
    never_ended now after begun old out n cost more fault.Ended s w steps = ended_there l call header n now after s.made steps (runs_on n w.view w.there w.view.next refl (sym w.told))
    never_ended now after begun old out n cost more fault.Spent s w steps = subst (λ m. StepsTo m after (Err (failure.Fault fault.Spent))) s.made.is steps

    -- with the states that were written the text is too long
    pub heavy_now : (now : Option Debugged) (start begun old out : List Token) (n cost more : ℕ) (goes_on : Bool) → StatesRun now begun old n cost → WrittenState begun out n more goes_on → begun ≡ start ++ begin_array ∷ [] → most_text < tokens_weight out
        → IsHeavy l call header p start
    heavy_now now start begun old out n cost more goes_on s w begins lt =
        let next : n + 1 ≡ suc n = omega arith in
        let states = first_states l call header (suc n) in
        let tokens : out ≡ start ++ begin_array ∷ state_tokens p states =
        w.written ∙ (λ i. begins i ++ run (shown_state p) (first_states l call header (next i))) ∙ append_assoc start (begin_array ∷ []) (state_tokens p states) in
        (n, s.made.can_go, subst (λ ts. most_text < tokens_weight ts) tokens lt)

    -- more states than a text may have bytes
    pub heavy_after : (n : ℕ) (start : List Token) → CanGo l call header n → most_text < n → IsHeavy l call header p start
    heavy_after zero start can lt = absurd (omega (arith, lt))
    heavy_after (suc n) start can lt = (
      n,
      (λ m below. can m (omega (arith, below))),
      omega (arith, lt, states_count (suc n) can, weight-append start (begin_array ∷ state_tokens p (first_states l call header (suc n)))),
    )

    -- where no instruction comes next and the array is closed, all states were written
    pub all_states : (now : Option Debugged) (start begun old out new : List Token) (n cost more : ℕ) → StatesRun now begun old n cost → WrittenState begun out n more false → begun ≡ start ++ begin_array ∷ []
        → new ≡ out ++ end_array ∷ []
        → (count : ℕ) × HasStates l call header count × HasMade l call header (count - 1) now × (new ≡ start ++ json_tokens (array_of (shown_state p) (first_states l call header count)))
        × (more ≡ states_cost (first_states l call header count))
    all_states now start begun old out new n cost more s w begins ends =
        let last : (n + 1) - 1 ≡ n = omega arith in
        let states = first_states l call header (n + 1) in (
          n + 1,
          record {
            some = omega arith;
            go_on = subst (CanGo l call header) (sym last) s.made.can_go;
            ends = λ next. stops n w.view w.there (sym w.told) (subst (HasNext l call header) last next);
          },
          subst (λ m. HasMade l call header m now) (sym last) s.made,
          ends ∙ ap (λ ts. ts ++ end_array ∷ []) (w.written ∙ ap (λ ts. ts ++ run (shown_state p) states) begins)
              ∙ append_assoc (start ++ begin_array ∷ []) (run (shown_state p) states) (end_array ∷ [])
              ∙ append_assoc start (begin_array ∷ []) (run (shown_state p) states ++ end_array ∷ [])
              ∙ ap (λ ts. start ++ begin_array ∷ ts) (closed (shown_state p) states),
          w.costs,
        )

-- ---- from a stepper at the start

-- n states were written from the start of an array on, and the stepper stands in the next one
abbrev pub StatesOn : WellFormed → Option Debugged → Option Debugged → List Token → List Token → ℕ → ℕ → Type 0
StatesOn p None now start out n cost = ⊥
StatesOn p (Some d) now start out n cost = StatesRun d.ledger d.call d.header p now (start ++ begin_array ∷ []) out n cost

-- behind the opening bracket, none is written yet
pub first_on : (p : WellFormed) (d : Option Debugged) (start out : List Token) → IsAtStart d → Adds start out (begin_array ∷ []) → StatesOn p d d start out 0 0
first_on p None start out at adds = absurd at
first_on p (Some d) start out at adds = record {
  made = record { steps = 0; fault = None; is = ap (λ e. Some e) at; counted = refl; can_go = λ n lt. absurd (omega (arith, lt)); over = tt };
  written = adds.is ∙ sym (append-nil (start ++ begin_array ∷ []));
  costs = refl;
  bound = omega arith;
}

-- the cost of a small number of states is a small number
pub bound_on : (p : WellFormed) (d now : Option Debugged) (start out : List Token) (n cost : ℕ) → StatesOn p d now start out n cost → cost ≤ n * 255
bound_on p None now start out n cost s = absurd s
bound_on p (Some d) now start out n cost s = s.bound

-- the state in which the stepper stands was written too, and it is told whether it goes on
abbrev pub WrittenOn : WellFormed → Option Debugged → List Token → List Token → ℕ → ℕ → Bool → Type 0
WrittenOn p None start out n cost goes_on = ⊥
WrittenOn p (Some d) start out n cost goes_on = WrittenState d.ledger d.call d.header p (start ++ begin_array ∷ []) out n cost goes_on

-- where n states were written and the stepper's state is, the first n + 1 were written
pub written_on : (p : WellFormed) (d now : Option Debugged) (start old new : List Token) (n cost one more : ℕ) (goes_on : Bool) → StatesOn p d now start old n cost → WritesState p now old new one goes_on → one ≤ 255 → more ≡ cost + one
    → WrittenOn p d start new n more goes_on
written_on p None now start old new n cost one more goes_on s w small sum = absurd s
written_on p (Some d) now start old new n cost one more goes_on s w small sum = state_written d.ledger d.call d.header p now (start ++ begin_array ∷ []) old new n cost one more goes_on s w small sum

-- a step leads to the next state, which is not written yet
pub next_on : (p : WellFormed) (d now after : Option Debugged) (start old out : List Token) (n cost more : ℕ) → StatesOn p d now start old n cost → WrittenOn p d start out n more true → StepsTo now after (Ok tt) → StatesOn p d after start out (n + 1) more
next_on p None now after start old out n cost more s w steps = absurd s
next_on p (Some d) now after start old out n cost more s w steps = goes_on d.ledger d.call d.header p now after (start ++ begin_array ∷ []) old out n cost more s w steps

-- where an instruction comes next, only a lack of memory can refuse the step
pub never_on : (p : WellFormed) (d now after : Option Debugged) (start old out : List Token) (n cost more : ℕ) (f : StepFault) → StatesOn p d now start old n cost → WrittenOn p d start out n more true → StepsTo now after (Err (failure.Fault f)) → ⊥
never_on p None now after start old out n cost more f s w steps = s
never_on p (Some d) now after start old out n cost more f s w steps = never_ended d.ledger d.call d.header p now after (start ++ begin_array ∷ []) old out n cost more f s w steps

-- the text is too long with the states that were written
pub heavy_on : (p : WellFormed) (d now : Option Debugged) (start old out : List Token) (n cost more : ℕ) (goes_on : Bool) → StatesOn p d now start old n cost → WrittenOn p d start out n more goes_on → most_text < tokens_weight out
    → IsStatesFailure p d start (failure.Fault refusal.TooLong)
heavy_on p None now start old out n cost more goes_on s w lt = s
heavy_on p (Some d) now start old out n cost more goes_on s w lt = heavy_now d.ledger d.call d.header p now start (start ++ begin_array ∷ []) old out n cost more goes_on s w refl lt

-- it is where more states were written than the text of a trace may have bytes
pub heavy_end : (p : WellFormed) (d now : Option Debugged) (start old : List Token) (n cost : ℕ) → StatesOn p d now start old n cost → most_text < n → IsStatesFailure p d start (failure.Fault refusal.TooLong)
heavy_end p None now start old n cost s lt = s
heavy_end p (Some d) now start old n cost s lt = heavy_after d.ledger d.call d.header p n start s.made.can_go lt

-- where no instruction comes next and the array is closed, all states were written
pub all_on : (p : WellFormed) (d now : Option Debugged) (start old out new : List Token) (n cost more : ℕ) → StatesOn p d now start old n cost → WrittenOn p d start out n more false → new ≡ out ++ end_array ∷ [] → AddsStates p d now start new more
all_on p None now start old out new n cost more s w ends = absurd s
all_on p (Some d) now start old out new n cost more s w ends = all_states d.ledger d.call d.header p now start (start ++ begin_array ∷ []) old out new n cost more s w refl ends

-- ---- whether it goes on

pub stops_if : (b : Bool) → not b ≡ true → b ≡ false
stops_if true e = absurd cc
stops_if false e = refl

pub goes_if : (b : Bool) → not b ≡ false → b ≡ true
goes_if true e = refl
goes_if false e = absurd cc
