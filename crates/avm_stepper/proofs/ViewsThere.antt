-- What the definition of views shows, from where a run stands.
use Rattle.std.proofs.Common.{◌≡◌, sym, ℕ, eqb, true, false, List, length, Option, None, Some, Ok, refl, ap, ◌∙◌, arith}
use Rattle.std.specs.Prelude.{option_map}
use Rattle.std.proofs.lemmas.Bool.Decides.{nat_tests}
use Rattle.teal_value.specs.declared.fault.Fault.{Fault}
use Rattle.teal_code.specs.declared.instr.Instr.{Instr}
use Rattle.teal_check.specs.WellFormed.{checked}
use Rattle.avm_ledger.specs.declared.application.Application.{Application}
use Rattle.avm_ledger.specs.declared.header.Header.{Header}
use Rattle.avm_ledger.specs.Ledgers.{Ledger}
use Rattle.avm_items.specs.declared.call_data.CallData.{CallData}
use Rattle.avm_items.specs.Items.{ItemMap, value_in}
use Rattle.avm_items.specs.Asks.{result_over}
use Rattle.avm_items.specs.LedgerItems.{at, put}
use Rattle.avm_items.specs.Locality.{LookAgrees}
use Rattle.avm_items.proofs.Questions.{result_on_ledger}
use Rattle.avm_call.specs.declared.outcome.Ended.{Ended}
use Rattle.avm_call.specs.declared.outcome.Ended.TheVariants as ended
use Rattle.avm_call.specs.Runs.{Position, byte_constants_at, instruction_at, path, start, uint_constants_at}
use Rattle.avm_call.specs.Calls.{admitted, execution, prepared, program_of}
use Rattle.avm_call.specs.CallPaths.{call_path}
use Rattle.avm_call.specs.Views.{AtEnd, Faults, NextStep, Runs, View, next_step, view_after, view_of}
use Rattle.avm_run.specs.Showing.{ComesNext, ShowsPath, Sight}
use Rattle.avm_stepper.proofs.OnlyFaults.{inside_there}
use Rattle.avm_stepper.proofs.PathSteps.{path_there}
use Rattle.avm_stepper.proofs.PathsAlike.{run_alike}
use Rattle.avm_stepper.proofs.PreparedItems.{prepared_alike}
use Rattle.avm_stepper.proofs.ScratchSpace.{run_space}

-- over the ledger that is prepared for the program
prepared_path : (l : Ledger) (call : CallData) (header : Header) (id : ℕ) (row : Application) (steps : ℕ)
    → result_over (at (put l (prepared call id))) (path (execution call header id row) (prepared call id) steps) ≡ result_over (at l) (path (execution call header id row) (prepared call id) steps)
prepared_path l call header id row steps =
    let e = execution call header id row in
    run_alike e steps (start e.program (prepared call id)) (at (put l (prepared call id))) (at l) (prepared_alike l call id)

abbrev shown_at : Ledger → CallData → Header → ℕ → Application → Position × Option Ended → View
shown_at l call header id row r = view_of (execution call header id row) (put l (prepared call id)) r

-- the view after so many steps is that of where the path has come to
pub view_there : (l : Ledger) (call : CallData) (header : Header) (id : ℕ) (row : Application) (steps : ℕ) (r : Position × Option Ended) → result_over (at l) (admitted call) ≡ Ok (record { id = id; row = Some row })
    → result_over (at l) (call_path call header steps) ≡ Some r → view_after l call header steps ≡ Some (shown_at l call header id row r)
view_there l call header id row steps r admits comes =
    rw admits (ap (λ q. Some (shown_at l call header id row q)) (prepared_path l call header id row steps ∙ path_there (at l) call header id row steps r admits comes))

-- ---- what comes next

next_inside : (program : List ℕ) (p : Position) (i : Instr) (next : ℕ) → instruction_at program p.place ≡ Ok (i, next) → next_step program p None ≡ Runs i
next_inside program p i next there = rw (inside_there program p.place i next there, there) refl

ends_there : (place end : ℕ) → place ≡ end → eqb place end ≡ true
ends_there place end e = grind (arith, nat_tests)

next_end : (program : List ℕ) (p : Position) → p.place ≡ length program → next_step program p None ≡ AtEnd
next_end program p is = rw (ends_there p.place (length program) is) refl

-- where the step from a place before the end faults, its fault is shown to come next
pub next_faulted : (program : List ℕ) (p : Position) (f : Fault) (place : ℕ) → eqb p.place (length program) ≡ false → next_step program p (Some (ended.Faulted f place)) ≡ Faults f
next_faulted program p f place inside = rw inside refl

-- an instruction, or the end
abbrev pub next_of : Option Instr → NextStep
next_of (Some i) = Runs i
next_of None = AtEnd

-- where nothing has ended the path, the instruction at the place comes next, or the end
pub next_is : (program : List ℕ) (p : Position) (o : Option Instr) → ComesNext program p.place o → next_step program p None ≡ next_of o
next_is program p (Some i) (next, there) = next_inside program p i next there
next_is program p None is = next_end program p is

-- ---- from what a run shows over items of the ledger

-- the position that a run shows, with the places passed
abbrev pub position_of : Sight → List ℕ → Position
position_of s passed = record { place = s.place; passed = passed; stack = s.machine.stack; scratch = s.machine.scratch; writes = s.writes }

-- what a run shows holds over the ledger after so many steps
pub record ShowsOver (l : Ledger) (call : CallData) (header : Header) (steps : ℕ) (s : Sight) : Type 0 where
  pub row : Application
  pub passed : List ℕ
  pub admits : result_over (at l) (admitted call) ≡ Ok (record { id = s.application; row = Some row })
  pub kept : checked (program_of call.completion row) ≡ Ok s.program
  pub comes : result_over (at l) (call_path call header steps) ≡ Some (position_of s passed, None)
  pub uints : s.machine.uint_constants ≡ uint_constants_at (program_of call.completion row) passed
  pub strings : s.machine.byte_constants ≡ byte_constants_at (program_of call.completion row) passed
  pub next : ComesNext (program_of call.completion row) s.place s.instruction

-- what a run shows over items that agree with the ledger holds over the ledger
pub shows_over : (l : Ledger) (call : CallData) (header : Header) (reads : ItemMap) (steps : ℕ) (s : Sight) → LookAgrees (value_in reads) (at l) → ShowsPath call header reads steps s → ShowsOver l call header steps s
shows_over l call header reads steps s agrees shows = record {
  row = shows.row;
  passed = shows.passed;
  admits = result_on_ledger (value_in reads) (at l) (admitted call) _ agrees shows.admits;
  kept = shows.kept;
  comes = result_on_ledger (value_in reads) (at l) (call_path call header steps) _ agrees shows.comes;
  uints = shows.uints;
  strings = shows.strings;
  next = shows.next;
}

-- what a run shows to come next is what its view has
pub next_over : (l : Ledger) (call : CallData) (header : Header) (steps : ℕ) (s : Sight) → ShowsOver l call header steps s → option_map (λ (v : View). v.next) (view_after l call header steps) ≡ Some (next_of s.instruction)
next_over l call header steps s o =
    ap (option_map (λ (v : View). v.next)) (view_there l call header s.application o.row steps (position_of s o.passed, None) o.admits o.comes)
    ∙ ap (λ n. Some n) (next_is (program_of call.completion o.row) (position_of s o.passed) s.instruction o.next)

-- the scratch space has 256 places
pub space_over : (l : Ledger) (call : CallData) (header : Header) (steps : ℕ) (s : Sight) → ShowsOver l call header steps s → length s.machine.scratch ≡ 256
space_over l call header steps s o =
    let e = execution call header s.application o.row in
    ap (λ (r : Position × Option Ended). length r.0.scratch) (sym (path_there (at l) call header s.application o.row steps (position_of s o.passed, None) o.admits o.comes))
    ∙ run_space e steps (start e.program (prepared call s.application)) (at l)
