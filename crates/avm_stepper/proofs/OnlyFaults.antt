-- Where an instruction comes next, a step ends a program by a fault alone.
use Rattle.std.proofs.Common.{◌≡◌, ℕ, suc, ◌+◌, ◌<◌, add-one, eqb, true, false, List, length, Option, None, Some, Result, Ok, Err, sym, ap, subst, ◌∙◌, arith}
use Rattle.std.specs.Prelude.{is_some, unwrap_or}
use Rattle.std.proofs.lemmas.Bool.Decides.{nat_tests}
use Rattle.teal_code.specs.declared.instr.Instr.{Instr}
use Rattle.avm_items.specs.declared.item_value.ItemValue.TheVariants as value
use Rattle.avm_items.specs.Items.{ItemMap, Known, Look, value_in}
use Rattle.avm_items.specs.LedgerItems.{value_before}
use Rattle.avm_items.specs.Asks.{Gives, remaining_questions, result_over}
use Rattle.avm_items.specs.Locality.{LookAgrees}
use Rattle.avm_items.proofs.Questions.{result_on_ledger, result_over-and_then}
use Rattle.avm_ops.specs.Frame.{Stepped}
use Rattle.avm_ops.specs.Effect.{effect}
use Rattle.avm_call.specs.declared.outcome.Ended.{Ended}
use Rattle.avm_call.specs.declared.outcome.Ended.TheVariants as ended
use Rattle.avm_call.specs.Ends.{HasEnded}
use Rattle.avm_call.specs.Runs.{Execution, Position, context_at, instruction_at, known_itself, path, start, step, stepped, version_in_front}
use Rattle.avm_call.specs.Calls.{admitted, execution, prepared}
use Rattle.avm_call.specs.CallPaths.{call_path}
use Rattle.avm_call.proofs.Paths.{read_on}
use Rattle.avm_run.specs.declared.call_run.Step.{Step}
use Rattle.avm_run.specs.declared.call_run.Step.TheVariants as step_to
use Rattle.avm_run.specs.Advances.{Steps}
use Rattle.avm_run.specs.Progress.{EndsPath}
use Rattle.avm_run.specs.RunState.{Progress}
use Rattle.avm_run.specs.Showing.{ComesNext}
use Rattle.avm_stepper.specs.Stepping.{IsBefore, StandsBefore}
use Rattle.avm_stepper.proofs.PathSteps.{goes_on_there, led_to, path_there}

pub before_end : (place end : ℕ) → place < end → eqb place end ≡ false
before_end place end lt = grind (arith, nat_tests)

-- an instruction stands there, and not the end
pub inside_there : (program : List ℕ) (place : ℕ) (i : Instr) (next : ℕ) → instruction_at program place ≡ Ok (i, next) → eqb place (length program) ≡ false
inside_there program place i next there = before_end place (length program) (read_on (version_in_front program).0 program place i next there).0

-- the end is a fault
abbrev pub IsFault : Ended → Type 0
IsFault (ended.Faulted f place) = Unit {0}
IsFault _ = ⊥

-- ---- a step from there

abbrev FaultsAlone : Result Position Ended → Type 0
FaultsAlone (Ok p) = Unit {0}
FaultsAlone (Err end) = IsFault end

stepped_faults : (e : Execution) (p : Position) (next : ℕ) (s : Stepped) → FaultsAlone (stepped e p next s)
stepped_faults e p next (Ok after) = tt
stepped_faults e p next (Err f) = tt

step_faults : (look : Look) (e : Execution) (p : Position) (i : Instr) (next : ℕ) → instruction_at e.program p.place ≡ Ok (i, next) → FaultsAlone (result_over look (step e p))
step_faults look e p i next there =
    let questions = remaining_questions (known_itself e p.writes) (effect (context_at e p) i.opcode i.immediates) in
    rw (inside_there e.program p.place i next there, there)
    (subst FaultsAlone (sym (result_over-and_then look questions (λ r. Gives (stepped e p next r)))) (stepped_faults e p next (result_over look questions)))

led_by : (p q : Position) (end : Ended) (r : Result Position Ended) → FaultsAlone r → led_to p r ≡ (q, Some end) → IsFault end
led_by p q end (Ok next) h e = absurd (subst HasEnded (sym e) tt)
led_by p q end (Err other) h e = let ends : Some other ≡ Some end = ap (λ (r : Position × Option Ended). r.1) e in let same : other ≡ end = cc in subst IsFault same h

path_faults : (look : Look) (e : Execution) (writes : ItemMap) (n : ℕ) (p q : Position) (o : Option Instr) (end : Ended) → is_some o ≡ true → ComesNext e.program p.place o
    → result_over look (path e writes n) ≡ (p, None) → result_over look (path e writes (suc n)) ≡ (q, Some end) → IsFault end
path_faults look e writes n p q None end left next here ends = absurd cc
path_faults look e writes n p q (Some i) end left next here ends =
    led_by p q end (result_over look (step e p)) (step_faults look e p i next.0 next.1) (sym (goes_on_there look e n (start e.program writes) p here) ∙ ends)

-- ---- over the items supplied

-- what was not supplied counts as absent
has_reads : (known : Known) → LookAgrees known (value_before known)
has_reads known = record { at = λ x v is. ap (λ o. unwrap_or o value.Absent) is }

same_number : {n m : ℕ} → Some n ≡ Some m → n ≡ m
same_number e = cc

-- where an instruction comes next, only a fault can end the path with the next step
pub only_faults : (p : Progress) (end : Ended) → StandsBefore p → EndsPath p.call p.header p.reads p.steps end → IsFault end
only_faults p end before ends =
    let known = value_in p.reads in
    let look = value_before known in
    let s = before.sight in
    let shows = before.shows in
    let e = execution p.call p.header s.application shows.row in
    let number : ends.number ≡ before.steps = same_number (sym ends.counted ∙ before.counted) in
    let admits = result_on_ledger known look (admitted p.call) _ (has_reads known) shows.admits in
    let here = result_on_ledger known look (call_path p.call p.header before.steps) _ (has_reads known) shows.comes in
    let next = result_on_ledger known look (call_path p.call p.header (ends.number + 1)) _ (has_reads known) ends.next in
    path_faults look e (prepared p.call s.application) before.steps _ ends.position s.instruction end before.left shows.next
    (path_there look p.call p.header s.application shows.row before.steps _ admits here)
    (path_there look p.call p.header s.application shows.row (suc before.steps) _ admits
    (ap (λ n. result_over look (call_path p.call p.header n)) (sym (add-one ends.number ∙ ap suc number)) ∙ next))

-- a run that stands before an instruction and ends with the next step ends by a fault
pub ended_by_fault : (before after : Option Progress) (s : Step) (end : Ended) → IsBefore before → Steps before after (Ok s) → s ≡ step_to.Ended end → IsFault end
ended_by_fault None after s end before steps is = absurd before
ended_by_fault (Some p) after s end before steps is =
    only_faults p end before (subst (λ (t : Step). Steps (Some p) after (Ok t)) is steps).path
