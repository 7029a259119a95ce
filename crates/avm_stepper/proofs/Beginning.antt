-- The tests before a program, over a ledger.
use Rattle.std.proofs.Common.{◌≡◌, ℕ, ◌+◌, ◌<◌, [], length, Option, None, Some, Result, Ok, Err, refl, sym, ap, subst, ◌∙◌}
use Rattle.std.specs.Prelude.{IsSome}
use Rattle.avm_ledger.specs.declared.application.Application.{Application}
use Rattle.avm_ledger.specs.declared.header.Header.{Header}
use Rattle.avm_ledger.specs.Ledgers.{Ledger}
use Rattle.avm_items.specs.declared.call_data.CallData.{CallData}
use Rattle.avm_items.specs.declared.item.Item.{Item}
use Rattle.avm_items.specs.Items.{Look, value_in, with_item}
use Rattle.avm_items.specs.Asks.{result_over}
use Rattle.avm_items.specs.LedgerItems.{at}
use Rattle.avm_items.specs.Locality.{LookAgrees}
use Rattle.avm_items.proofs.Questions.{result_on_ledger, result_over-and_then}
use Rattle.avm_call.specs.declared.outcome.Ended.{Ended}
use Rattle.avm_call.specs.declared.outcome.Outcome.{Outcome}
use Rattle.avm_call.specs.declared.outcome.Why.{Why}
use Rattle.avm_call.specs.Runs.{Position}
use Rattle.avm_call.specs.Calls.{Target, admitted}
use Rattle.avm_call.specs.CallPaths.{call_path, path_of_row, path_of_target}
use Rattle.avm_call.specs.Ends.{most_items}
use Rattle.avm_run.specs.declared.call_run.Step.TheVariants as step
use Rattle.avm_run.specs.Advances.{AsksFor, MakesStep, Steps}
use Rattle.avm_run.specs.Progress.{HasNoStep, HasStep, IsOutcomeAt, next_step_number}
use Rattle.avm_run.specs.Results.{CallRecord}
use Rattle.avm_run.specs.RunState.{Progress}
use Rattle.avm_stepper.specs.declared.opening.StartOutcome.{StartOutcome}
use Rattle.avm_stepper.specs.declared.opening.StartOutcome.TheVariants as begun
use Rattle.avm_stepper.specs.DebugRuns.{IsKeptDebug, seen}
use Rattle.avm_stepper.specs.Opening.{HasNoProgram, HasProgram, row_of_target}
use Rattle.avm_stepper.specs.Starting.{Begins, HasBegun, HasNothing, IsAtTests, StartsOver}
use Rattle.avm_stepper.specs.Stepping.{reads_in, supplied}
use Rattle.avm_items.proofs.OneMore.{agrees_after, one_longer}

same_run : {p q : Progress} → Some p ≡ Some q → p ≡ q
same_run e = cc

-- ---- the items that they ask for

-- the program has still not begun, and one more item was read
pub record StartsNext (l : Ledger) (old here now : Option Progress) : Type 0 where
  pub starts : StartsOver l old now
  pub few : length (reads_in here) < most_items
  pub longer : length (reads_in now) ≡ length (reads_in here) + 1

next_by : (l : Ledger) (old asking now : Option Progress) (p : Progress) (x : Item) → StartsOver l old (Some p) → AsksFor p p.steps asking x → now ≡ supplied l x asking → StartsNext l old (Some p) now
next_by l old asking now p x s asks is =
    let same : s.here ≡ p = same_run (sym s.is) in
    let now_is = is ∙ ap (supplied l x) asks.now in
    record {
      starts = record {
        first = s.first;
        was = s.was;
        here = record { call = p.call; header = p.header; reads = with_item p.reads x (at l x); asked = None; steps = p.steps };
        is = now_is;
        same_call = ap (λ (q : Progress). q.call) (sym same) ∙ s.same_call;
        same_header = ap (λ (q : Progress). q.header) (sym same) ∙ s.same_header;
        holds = ap (λ (q : Progress). q.steps) (sym same) ∙ s.holds;
        agrees = agrees_after p.reads x (at l x) (at l) refl (subst (λ (q : Progress). LookAgrees (value_in q.reads) (at l)) same s.agrees);
      };
      few = asks.few;
      longer = ap (λ r. length (reads_in r)) now_is ∙ one_longer p.reads x (at l x) asks.not_supplied;
    }

-- once an item that the tests asked for is supplied, the program has still not begun
pub starts_next : (l : Ledger) (old here asking now : Option Progress) (b : StartOutcome) (x : Item) → StartsOver l old here → Begins here asking b → b ≡ begun.Need x → now ≡ supplied l x asking → StartsNext l old here now
starts_next l old None asking now b x s begins need is = absurd (subst (Begins None asking) need begins)
starts_next l old (Some p) asking now b x s begins need is = next_by l old asking now p x s (subst (Begins (Some p) asking) need begins) is

-- ---- the program begins

begun_by : (l : Ledger) (old now : Option Progress) (p : Progress) → StartsOver l old (Some p) → MakesStep p now → HasBegun l old now
begun_by l old now p s step =
    let same : s.here ≡ p = same_run (sym s.is) in
    let none : p.steps ≡ None = ap (λ (q : Progress). q.steps) (sym same) ∙ s.holds in
    record {
      first = s.first;
      was = s.was;
      here = record { call = p.call; header = p.header; reads = p.reads; asked = None; steps = Some (next_step_number p.steps) };
      is = step.now;
      same_call = ap (λ (q : Progress). q.call) (sym same) ∙ s.same_call;
      same_header = ap (λ (q : Progress). q.header) (sym same) ∙ s.same_header;
      agrees = subst (λ (q : Progress). LookAgrees (value_in q.reads) (at l)) same s.agrees;
      holds = (ap (λ n. Some (next_step_number n)) none, subst (λ n. HasStep p.call p.header p.reads (next_step_number n)) none step.there);
    }

-- a run whose tests lead to a program stands before its first instruction
pub program_begun : (l : Ledger) (old here now : Option Progress) (b : StartOutcome) → StartsOver l old here → Begins here now b → b ≡ begun.Program → HasBegun l old now
program_begun l old None now b s begins is = absurd (subst (Begins None now) is begins)
program_begun l old (Some p) now b s begins is = begun_by l old now p s (subst (Begins (Some p) now) is begins)

-- ---- no program runs

path_begins : (look : Look) (call : CallData) (header : Header) → result_over look (call_path call header 0) ≡ result_over look (path_of_target call header 0 (result_over look (admitted call)))
path_begins look call header = result_over-and_then look (admitted call) (path_of_target call header 0)

none_by_row : (look : Look) (call : CallData) (header : Header) (id : ℕ) (o : Outcome) (row : Option Application) → IsOutcomeAt call.completion o (result_over look (path_of_row call header 0 id row)) → row ≡ None
none_by_row look call header id o (Some row) at_end = absurd at_end
none_by_row look call header id o None at_end = refl

none_by : (look : Look) (call : CallData) (header : Header) (o : Outcome) (t : Result Target Why) → IsOutcomeAt call.completion o (result_over look (path_of_target call header 0 t)) → row_of_target t ≡ None
none_by look call header o (Ok t) at_end = none_by_row look call header t.id o t.row at_end
none_by look call header o (Err w) at_end = refl

nothing_by : (l : Ledger) (old : Option Progress) (p : Progress) (o : Outcome) → StartsOver l old (Some p) → HasNoStep p.call p.header p.reads 0 o → HasNothing l old
nothing_by l old p o s none =
    let same : s.here ≡ p = same_run (sym s.is) in
    let agrees = subst (λ (q : Progress). LookAgrees (value_in q.reads) (at l)) same s.agrees in
    let call : p.call ≡ s.first.call = ap (λ (q : Progress). q.call) (sym same) ∙ s.same_call in
    let reached = result_on_ledger (value_in p.reads) (at l) (call_path p.call p.header 0) none.reached agrees none.last in
    record {
      first = s.first;
      was = s.was;
      none = subst (λ c. HasNoProgram l c) call
          (none_by (at l) p.call p.header o (result_over (at l) (admitted p.call)) (subst (IsOutcomeAt p.call.completion o) (sym reached ∙ path_begins (at l) p.call p.header) none.outcome));
    }

-- where the tests lead to no program, the call has none over the ledger
pub nothing_begun : (l : Ledger) (old here now : Option Progress) (b : StartOutcome) → StartsOver l old here → Begins here now b → b ≡ begun.Nothing → HasNothing l old
nothing_begun l old None now b s begins is = absurd (subst (Begins None now) is begins)
nothing_begun l old (Some p) now b s begins is = let none = subst (Begins (Some p) now) is begins in nothing_by l old p none.0 s none.1

-- ---- what is opened

runs_by_row : (look : Look) (call : CallData) (header : Header) (id : ℕ) (r : Position × Option Ended) (row : Option Application) → result_over look (path_of_row call header 0 id row) ≡ Some r → IsSome row
runs_by_row look call header id r (Some row) is = refl
runs_by_row look call header id r None is = absurd cc

runs_by : (look : Look) (call : CallData) (header : Header) (r : Position × Option Ended) (t : Result Target Why) → result_over look (path_of_target call header 0 t) ≡ Some r → IsSome (row_of_target t)
runs_by look call header r (Ok t) is = runs_by_row look call header t.id r t.row is
runs_by look call header r (Err w) is = absurd cc

-- the run of a call that has a program is kept, and seen with no step made
pub record Opened (l : Ledger) (call : CallData) (header : Header) (now : Option Progress) : Type 0 where
  pub kept : IsKeptDebug l None (Some now)
  pub is : seen l None (Some now) ≡ Some (record { ledger = l; call = call; header = header; steps = 0; fault = None })
  pub program : HasProgram l call

opened_by : (l : Ledger) (call : CallData) (header : Header) (p : Progress) → p.call ≡ call → p.header ≡ header → p.steps ≡ Some 0 → LookAgrees (value_in p.reads) (at l) → HasStep p.call p.header p.reads 0 → Opened l call header (Some p)
opened_by l call header p same_call same_header counted agrees there =
    let reached = result_on_ledger (value_in p.reads) (at l) (call_path p.call p.header 0) _ agrees there.comes in
    record {
      kept = record { steps = 0; counted = counted; agrees = agrees; faulted = tt };
      is = λ i. seen l None (Some (Some (record { call = same_call i; header = same_header i; reads = p.reads; asked = p.asked; steps = counted i })));
      program = subst (λ c. HasProgram l c) same_call (runs_by (at l) p.call p.header (there.position, None) (result_over (at l) (admitted p.call)) (sym (path_begins (at l) p.call p.header) ∙ reached));
    }

-- the run of a call before its tests, with nothing read
abbrev pub first_run : CallData → Header → Progress
first_run call header = record { call = call; header = header; reads = []; asked = None; steps = None }

-- a run whose program has begun is opened
pub opened : (l : Ledger) (call : CallData) (header : Header) (old now : Option Progress) → old ≡ Some (first_run call header) → HasBegun l old now → Opened l call header now
opened l call header old now start b =
    let first : b.first ≡ first_run call header = same_run (sym b.was ∙ start) in
    subst (Opened l call header) (sym b.is)
    (opened_by l call header b.here (b.same_call ∙ ap (λ (q : Progress). q.call) first) (b.same_header ∙ ap (λ (q : Progress). q.header) first) b.holds.0 b.agrees b.holds.1)

-- ---- the run of a call before its tests

none_agrees : (l : Ledger) → LookAgrees (value_in []) (at l)
none_agrees l = record { at = λ x v e. absurd cc }

pub starts_at_first : (l : Ledger) (call : CallData) (header : Header) (run : Option Progress) → run ≡ Some (first_run call header) → StartsOver l run run
starts_at_first l call header run is = record {
  first = first_run call header;
  was = is;
  here = first_run call header;
  is = is;
  same_call = refl;
  same_header = refl;
  agrees = none_agrees l;
  holds = refl;
}

-- a call whose tests lead to no program has none
pub nothing_opened : (l : Ledger) (call : CallData) (header : Header) (old : Option Progress) → old ≡ Some (first_run call header) → HasNothing l old → HasNoProgram l call
nothing_opened l call header old start n = subst (λ c. HasNoProgram l c) (ap (λ (q : Progress). q.call) (same_run (sym n.was ∙ start))) n.none

-- a run at its tests whose call ends with the next step has no program
pub ends_at_tests : (old after : Option Progress) (f : CallRecord) → IsAtTests old → Steps old after (Ok (step.Done f)) → Begins old after begun.Nothing
ends_at_tests (Some p) after f tests done = (f.outcome, subst (λ s. HasNoStep p.call p.header p.reads (next_step_number s) f.outcome) done.2 done.1)
ends_at_tests None after f tests done = absurd tests
