-- What a step makes of a debugger.
use Rattle.std.proofs.Common.{◌≡◌, inl, inr, ℕ, ◌+◌, eqb, Bool, true, false, List, length, Option, None, Some, Ok, Err, refl, sym, ap, subst, ◌∙◌}
use Rattle.std.specs.Prelude.{is_some, option_map}
use Rattle.teal_value.specs.declared.failure.Failure.TheVariants as failure
use Rattle.teal_value.specs.declared.fault.Fault.{Fault}
use Rattle.teal_code.specs.declared.instr.Instr.{Instr}
use Rattle.avm_ledger.specs.declared.header.Header.{Header}
use Rattle.avm_ledger.specs.Ledgers.{Ledger}
use Rattle.avm_items.specs.declared.call_data.CallData.{CallData}
use Rattle.avm_items.specs.declared.item.Item.{Item}
use Rattle.avm_items.specs.Items.{ItemMap, value_in}
use Rattle.avm_items.specs.Asks.{result_over}
use Rattle.avm_items.specs.LedgerItems.{at}
use Rattle.avm_items.specs.Locality.{LookAgrees}
use Rattle.avm_items.proofs.Questions.{result_on_ledger}
use Rattle.avm_call.specs.declared.outcome.Ended.TheVariants as ended
use Rattle.avm_call.specs.Runs.{Position}
use Rattle.avm_call.specs.Calls.{program_of}
use Rattle.avm_call.specs.CallPaths.{Reached, call_path}
use Rattle.avm_call.specs.Views.{AtEnd, Faults, NextStep, Runs, View}
use Rattle.avm_run.specs.Progress.{EndsPath, HasStep, next_step_number}
use Rattle.avm_run.specs.RunState.{Progress}
use Rattle.avm_run.specs.Showing.{ComesNext, ShowsPath, Sight}
use Rattle.avm_stepper.specs.declared.step_fault.StepFault.TheVariants as stop
use Rattle.avm_stepper.specs.Debugging.{Debugged, next_shown}
use Rattle.avm_stepper.specs.DebugRuns.{HasFaulted, IsDebugged, IsKeptDebug, seen}
use Rattle.avm_stepper.specs.DebugSteps.{IsBeforeInstruction, StepsTo}
use Rattle.avm_stepper.specs.Stepping.{ComesNextBy, GoesOnOver, IsLeft, LeadsBy, LeadsTo, ShowsNext, StandsBefore}
use Rattle.avm_stepper.proofs.OnlyFaults.{inside_there}
use Rattle.avm_stepper.proofs.ViewsThere.{ShowsOver, next_faulted, next_of, next_over, position_of, shows_over, view_there}

-- ---- whether an instruction comes next

abbrev debugged : Ledger → CallData → Header → ℕ → Option Fault → Debugged
debugged l call header steps fault = record { ledger = l; call = call; header = header; steps = steps; fault = fault }

instruction_by : (n : Option NextStep) (o : Option Instr) → is_some o ≡ true → n ≡ Some (next_of o) → (i : Instr) × (n ≡ Some (Runs i))
instruction_by n (Some i) left is = (i, is)
instruction_by n None left is = absurd cc

before_instruction : (l : Ledger) (call : CallData) (header : Header) (steps : ℕ) (s : Sight) → ShowsOver l call header steps s → is_some s.instruction ≡ true → IsBeforeInstruction (debugged l call header steps None)
before_instruction l call header steps s o left = instruction_by (next_shown (debugged l call header steps None)) s.instruction left (next_over l call header steps s o)

no_instruction : (n : Option NextStep) (m : NextStep) → n ≡ Some m → ((i : Instr) → m ≡ Runs i → ⊥) → (i : Instr) × (n ≡ Some (Runs i)) → ⊥
no_instruction n m is other (i, e) = let both : Some m ≡ Some (Runs i) = sym is ∙ e in let same : m ≡ Runs i = cc in other i same

abbrev IsRun : NextStep → Type 0
IsRun (Runs i) = Unit {0}
IsRun (Faults f) = ⊥
IsRun AtEnd = ⊥

end_only : (n : Option NextStep) (o : Option Instr) → is_some o ≡ false → n ≡ Some (next_of o) → (i : Instr) × (n ≡ Some (Runs i)) → ⊥
end_only n (Some i) left is = absurd cc
end_only n None left is = no_instruction n AtEnd is (λ i e. subst IsRun (sym e) tt)

shown_fault : (l : Ledger) (call : CallData) (header : Header) (steps : ℕ) (f : Fault) → HasFaulted l call header steps f → next_shown (debugged l call header steps (Some f)) ≡ Some (Faults f)
shown_fault l call header steps f h =
    ap (option_map (λ (v : View). v.next)) (view_there l call header h.id h.row (steps + 1) (h.position, Some (ended.Faulted f h.place)) h.admits h.next)
    ∙ ap (λ n. Some n) (next_faulted (program_of call.completion h.row) h.position f h.place h.inside)

fault_only : (l : Ledger) (call : CallData) (header : Header) (steps : ℕ) (f : Fault) → HasFaulted l call header steps f → IsBeforeInstruction (debugged l call header steps (Some f)) → ⊥
fault_only l call header steps f h = no_instruction (next_shown (debugged l call header steps (Some f))) (Faults f) (shown_fault l call header steps f h) (λ i e. subst IsRun (sym e) tt)

-- ---- a step that is made

record Stepped (l : Ledger) (old now : Option Progress) (fault : Option Fault) : Type 0 where
  pub kept : IsKeptDebug l fault (Some now)
  pub steps : StepsTo (seen l None (Some old)) (seen l fault (Some now)) (Ok tt)

abbrev run_at : CallData → Header → ItemMap → Option Item → ℕ → Progress
run_at call header reads asked steps = record { call = call; header = header; reads = reads; asked = asked; steps = Some steps }

moved : (l : Ledger) (call : CallData) (header : Header) (reads more : ItemMap) (asked asks : Option Item) (steps : ℕ) (s : Sight) → ShowsOver l call header steps s → is_some s.instruction ≡ true → LookAgrees (value_in more) (at l)
    → HasStep call header more (steps + 1) → Stepped l (Some (run_at call header reads asked steps)) (Some (run_at call header more asks (steps + 1))) None
moved l call header reads more asked asks steps s o left agrees there = record {
  kept = record { steps = steps + 1; counted = refl; agrees = agrees; faulted = tt };
  steps = inl (record {
    instruction = before_instruction l call header steps s o left;
    position = there.position;
    path = result_on_ledger (value_in more) (at l) (call_path call header (steps + 1)) _ agrees there.comes;
    now = refl;
  });
}

abbrev position_in : Position → Reached → Position
position_in d (Some r) = r.0
position_in d None = d

inside_by : (program : List ℕ) (place : ℕ) (o : Option Instr) → is_some o ≡ true → ComesNext program place o → eqb place (length program) ≡ false
inside_by program place (Some i) left (next, there) = inside_there program place i next there
inside_by program place None left next = absurd cc

faulted : (l : Ledger) (call : CallData) (header : Header) (reads more : ItemMap) (asked asks : Option Item) (steps : ℕ) (s : Sight) (f : Fault) (place : ℕ) → ShowsOver l call header steps s → is_some s.instruction ≡ true → LookAgrees (value_in more) (at l)
    → EndsPath call header more (Some steps) (ended.Faulted f place) → Stepped l (Some (run_at call header reads asked steps)) (Some (run_at call header more asks steps)) (Some f)
faulted l call header reads more asked asks steps s f place o left agrees ends =
    let p = position_of s o.passed in
    let number : ends.number ≡ steps = let both = ends.counted in cc in
    let there = result_on_ledger (value_in more) (at l) (call_path call header ends.number) _ agrees ends.there in
    let next = result_on_ledger (value_in more) (at l) (call_path call header (ends.number + 1)) _ agrees ends.next in
    let same : ends.position ≡ p = ap (position_in p) (sym there ∙ ap (λ n. result_over (at l) (call_path call header n)) number ∙ o.comes) in
    let ended_there : result_over (at l) (call_path call header (steps + 1)) ≡ Some (p, Some (ended.Faulted f place)) =
    ap (λ n. result_over (at l) (call_path call header (n + 1))) (sym number) ∙ next ∙ ap (λ q. Some (q, Some (ended.Faulted f place))) same in
    record {
      kept = record {
        steps = steps;
        counted = refl;
        agrees = agrees;
        faulted = record {
          id = s.application;
          row = o.row;
          admits = o.admits;
          position = p;
          place = place;
          inside = inside_by (program_of call.completion o.row) s.place s.instruction left o.next;
          here = o.comes;
          next = ended_there;
        };
      };
      steps = inr (record {
        instruction = before_instruction l call header steps s o left;
        position = p;
        fault = f;
        place = place;
        stays = o.comes;
        path = ended_there;
        now = refl;
      });
    }

same_run : {p q : Progress} → Some p ≡ Some q → p ≡ q
same_run e = cc

same_number : {n m : ℕ} → Some n ≡ Some m → n ≡ m
same_number e = cc

-- the parts of a run, with its steps counted
parts : (p : Progress) (call : CallData) (header : Header) (steps : ℕ) → p.call ≡ call → p.header ≡ header → p.steps ≡ Some steps → p ≡ run_at call header p.reads p.asked steps
parts p call header steps c h n = λ i. record { call = c i; header = h i; reads = p.reads; asked = p.asked; steps = n i }

led : (l : Ledger) (p here : Progress) (steps : ℕ) (s : Sight) (fault : Option Fault) → p.steps ≡ Some steps → ShowsOver l p.call p.header steps s → is_some s.instruction ≡ true
    → here.call ≡ p.call → here.header ≡ p.header → LookAgrees (value_in here.reads) (at l) → LeadsBy p here fault → Stepped l (Some p) (Some here) fault
led l p here steps s None counted o left call header agrees (next, there) =
    let is_next : here.steps ≡ Some (steps + 1) = next ∙ ap (λ n. Some (next_step_number n)) counted in
    let has : HasStep p.call p.header here.reads (steps + 1) = subst (λ (n : ℕ). HasStep p.call p.header here.reads n) (ap next_step_number counted) (subst (λ (h : Header). HasStep p.call h here.reads (next_step_number p.steps)) header (subst (λ (c : CallData). HasStep c here.header here.reads (next_step_number p.steps)) call there)) in
    subst (λ q. Stepped l (Some q) (Some here) None) (sym (parts p p.call p.header steps refl refl counted))
    (subst (λ q. Stepped l (Some (run_at p.call p.header p.reads p.asked steps)) (Some q) None) (sym (parts here p.call p.header (steps + 1) call header is_next))
    (moved l p.call p.header p.reads here.reads p.asked here.asked steps s o left agrees has))
led l p here steps s (Some f) counted o left call header agrees (same, faults) =
    let place = faults.0 in
    let ends = faults.1 in
    let is_here : here.steps ≡ Some steps = same ∙ counted in
    let ends_here : EndsPath p.call p.header here.reads (Some steps) (ended.Faulted f place) = subst (λ n. EndsPath p.call p.header here.reads n (ended.Faulted f place)) is_here (subst (λ (h : Header). EndsPath p.call h here.reads here.steps (ended.Faulted f place)) header (subst (λ (c : CallData). EndsPath c here.header here.reads here.steps (ended.Faulted f place)) call ends)) in
    subst (λ q. Stepped l (Some q) (Some here) (Some f)) (sym (parts p p.call p.header steps refl refl counted))
    (subst (λ q. Stepped l (Some (run_at p.call p.header p.reads p.asked steps)) (Some q) (Some f)) (sym (parts here p.call p.header steps call header is_here))
    (faulted l p.call p.header p.reads here.reads p.asked here.asked steps s f place o left agrees ends_here))

-- ---- from what a debugger keeps

sight_in : (p : Progress) (steps : ℕ) (left : Bool) → p.steps ≡ Some steps → IsLeft (Some p) left → (s : Sight) × ShowsPath p.call p.header p.reads steps s × (is_some s.instruction ≡ left)
sight_in p steps left counted shows = subst (λ n. ShowsNext p.call p.header p.reads n left) counted shows

stands : (p : Progress) (steps : ℕ) → p.steps ≡ Some steps → IsLeft (Some p) true → StandsBefore p
stands p steps counted shows = let s = sight_in p steps true counted shows in record { steps = steps; counted = counted; sight = s.0; shows = s.1; left = s.2 }

seen_run : (l : Ledger) (fault : Option Fault) (p : Progress) (steps : ℕ) → p.steps ≡ Some steps → seen l fault (Some (Some p)) ≡ Some (debugged l p.call p.header steps fault)
seen_run l fault p steps counted = ap (λ q. seen l fault (Some (Some q))) (parts p p.call p.header steps refl refl counted)

-- an instruction comes next
pub record ComesNextOver (l : Ledger) (fault : Option Fault) (run : Option Progress) : Type 0 where
  pub goes_on : GoesOnOver l run run
  pub refused : StepsTo (seen l fault (Some run)) None (Err failure.Memory)
  pub made : (now : Option Progress) (f : Option Fault) → LeadsTo l run now f → IsKeptDebug l f (Some now) × StepsTo (seen l fault (Some run)) (seen l f (Some now)) (Ok tt)

comes_by : (l : Ledger) (p : Progress) → IsDebugged l None p → IsLeft (Some p) true → ComesNextOver l None (Some p)
comes_by l p d left =
    let s = sight_in p d.steps true d.counted left in
    let o = shows_over l p.call p.header p.reads d.steps s.0 d.agrees s.1 in
    record {
      goes_on = record { first = p; was = refl; here = p; is = refl; same_call = refl; same_header = refl; agrees = d.agrees; holds = (refl, stands p d.steps d.counted left) };
      refused = subst (λ m. StepsTo m None (Err failure.Memory)) (sym (seen_run l None p d.steps d.counted)) (before_instruction l p.call p.header d.steps s.0 o s.2, refl);
      made = λ now f t.
          let first : t.first ≡ p = same_run (sym t.was) in
          let leads : LeadsBy p t.here f = subst (λ q. LeadsBy q t.here f) first t.holds in
          let one = led l p t.here d.steps s.0 f d.counted o s.2 (t.same_call ∙ ap (λ (q : Progress). q.call) first) (t.same_header ∙ ap (λ (q : Progress). q.header) first) t.agrees leads in (
            subst (λ m. IsKeptDebug l f (Some m)) (sym t.is) one.kept,
            subst (λ m. StepsTo (seen l None (Some (Some p))) (seen l f (Some m)) (Ok tt)) (sym t.is) one.steps,
          );
    }

-- where a run shows an instruction that comes next, one comes next over the ledger
pub comes_over : (l : Ledger) (fault : Option Fault) (run : Option Progress) → IsKeptDebug l fault (Some run) → ComesNextBy fault run true → ComesNextOver l fault run
comes_over l fault None kept comes = absurd kept
comes_over l (Some f) (Some p) kept comes = absurd cc
comes_over l None (Some p) kept comes = comes_by l p kept comes

-- none does
ends_by : (l : Ledger) (fault : Option Fault) (p : Progress) → (d : IsDebugged l fault p) → ComesNextBy fault (Some p) false → IsBeforeInstruction (debugged l p.call p.header d.steps fault) → ⊥
ends_by l (Some f) p d comes = fault_only l p.call p.header d.steps f d.faulted
ends_by l None p d comes =
    let s = sight_in p d.steps false d.counted comes in
    end_only (next_shown (debugged l p.call p.header d.steps None)) s.0.instruction s.2
    (next_over l p.call p.header d.steps s.0 (shows_over l p.call p.header p.reads d.steps s.0 d.agrees s.1))

-- where no instruction comes next, a step that changes nothing and answers `Ended` is right
pub ends_over : (l : Ledger) (fault : Option Fault) (run : Option Progress) → IsKeptDebug l fault (Some run) → ComesNextBy fault run false → StepsTo (seen l fault (Some run)) (seen l fault (Some run)) (Err (failure.Fault stop.Ended))
ends_over l fault None kept comes = absurd kept
ends_over l fault (Some p) kept comes =
    subst (λ m. StepsTo m m (Err (failure.Fault stop.Ended))) (sym (seen_run l fault p kept.steps kept.counted)) (ends_by l fault p kept comes, refl)
