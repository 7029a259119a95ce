use Rattle.std.proofs.Common.{◌≡◌, ◌-◌, Some, refl, sym, ap, ◌∙◌, subst}
use Rattle.teal_code.specs.Limits.{most_program_bytes}
use Rattle.avm_items.specs.Environments.{Environment}
use Rattle.avm_run.specs.declared.running.Running.{Running}
use Rattle.avm_run.specs.Executions.{Executes, ExecutesAtMost}
use Rattle.avm_run.specs.ExecutedSteps.{stops_ending}
use Rattle.avm_run.specs.Standing.{AsksThere, BeginsRun, EndsThere, StopsWithin}
use Rattle.avm_run.proofs.Leading.{too_many_steps, stops_there, asks_behind, closes, ends_after, ends_after_there, ends_run}
use Rattle.avm_run.proofs.Executing.{at_most, few_steps, if_err, stops_once}
use Rattle.avm_run.proofs.phase.run_program.Goals as goal
use Rattle.avm_run.proofs.phase.run_program.Goals.{After-deref_mut}

-- the call that runs is the one that the run began with
begun_there : (g : _) (c : After-deref_mut g) → BeginsRun c.args.call.now c.args.context.now.header.now c.args.running.value.env.reads c.deref_mut.result.now
begun_there g c = subst (BeginsRun _ _ _) (sym c.deref_mut.ensures.value) c.requires.begun

pub unreachable-requires : goal.unreachable-requires
unreachable-requires g c = too_many_steps _ _ (rw c.in-Ok-Made.field-0-is at c.in-Ok-Made.ensures.stops)

pub returns-in-Ok-Need-clause-runs : goal.returns-in-Ok-Need-clause-runs
returns-in-Ok-Need-clause-runs g c =
    let old = c.deref_mut.result.now in
    let new = c.make_steps.new.running in
    let begun = begun_there g (goal.at.returns-in-Ok-Need-clause-runs g c).After-deref_mut in
    let stops = subst (λ x. StopsWithin 65535 old (λ before. AsksThere before new x)) (sym c.into_inner.ensures) (rw c.in-Ok-Need.field-0-is at c.in-Ok-Need.ensures.stops) in
    let asks = asks_behind _ _ _ 65535 old new c.into_inner.result begun stops in
    record {
      same_reads = asks.runs.same_items;
      follows = record { same_call = asks.runs.same_call; same_header = asks.runs.same_header; same_items = refl; stands = asks.runs.stands };
      definition = asks.definition;
      next = asks.next;
    }

pub close-requires-clause-ends : goal.close-requires-clause-ends
close-requires-clause-ends g c κs within =
    let old = c.deref_mut.result.now in
    let new = c.make_steps.new.running in
    let begun = begun_there g (goal.at.close-requires-clause-ends g c).After-deref_mut in
    let stops = rw c.in-Ok-Ended.field-0-is at c.in-Ok-Ended.ensures.stops in
    let there = stops_there _ _ _ 65535 old (λ before. EndsThere before new c.in-Ok-Ended.ended) begun stops in
    closes _ _ _ stops.before new c.in-Ok-Ended.ended there stops.stops.same stops.stops.ends

pub returns-in_ok-close-in-Ok-Ended-clause-runs : goal.returns-in_ok-close-in-Ok-Ended-clause-runs
returns-in_ok-close-in-Ok-Ended-clause-runs g c =
    let old = c.deref_mut.result.now in
    let new = c.make_steps.new.running in
    let begun = begun_there g (goal.at.returns-in_ok-close-in-Ok-Ended-clause-runs g c).After-deref_mut in
    let stops = rw c.in-Ok-Ended.field-0-is at c.in-Ok-Ended.ensures.stops in
    let end = stops.stops in
    let there = stops_there _ _ _ 65535 old (λ before. EndsThere before new c.in-Ok-Ended.ended) begun stops in
    let reads = ap (λ (e : Environment). e.reads) end.same.env ∙ there.same_items in
    record {
      run = ends_run _ _ _ _ c.in_ok-close-in-Ok-Ended.field-0 reads c.in_ok-close-in-Ok-Ended.ensures.ends;
      steps = Some stops.before.steps;
      at = ends_after _ _ _ stops.before end.position c.in-Ok-Ended.ended _ there end.there end.next c.in_ok-close-in-Ok-Ended.ensures.outcome;
    }

pub returns-in-Ok-Need-clause-executes : goal.returns-in-Ok-Need-clause-executes
returns-in-Ok-Need-clause-executes g c =
    let new = c.make_steps.new.running in
    let executes = rw c.in-Ok-Need.field-0-is at c.in-Ok-Need.ensures.executes in
    record { begun = refl; executes = subst (λ (r : Running). Executes r.steps new.steps 1 c.args.executions.now c.make_steps.new.executions) c.deref_mut.ensures.value executes }

pub returns-in_ok-close-in-Ok-Ended-clause-executes : goal.returns-in_ok-close-in-Ok-Ended-clause-executes
returns-in_ok-close-in-Ok-Ended-clause-executes g c =
    let old = c.deref_mut.result.now in
    let new = c.make_steps.new.running in
    let before = c.args.executions.now in
    let after = c.make_steps.new.executions in
    let ended = c.in-Ok-Ended.ended in
    let begun = begun_there g (goal.at.returns-in_ok-close-in-Ok-Ended-clause-executes g c).After-deref_mut in
    let stops = rw c.in-Ok-Ended.field-0-is at c.in-Ok-Ended.ensures.stops in
    let executes = rw c.in-Ok-Ended.field-0-is at c.in-Ok-Ended.ensures.executes in
    let end = stops.stops in
    let there = stops_there _ _ _ 65535 old (λ before. EndsThere before new ended) begun stops in
    let outcome = c.in_ok-close-in-Ok-Ended.ensures.outcome in
    let at_end = ends_after _ _ _ stops.before end.position ended _ there end.there end.next outcome in
    let program_end = ends_after_there _ _ _ stops.before end.position ended _ there end.there end.next outcome in
    let stopped : stops_ending at_end.program at_end.end ≡ stops_ending old.program ended = (λ i. stops_ending (program_end.0 i) (program_end.1 i)) ∙ ap (λ w. stops_ending w ended) stops.made.same.program in
    record {
      steps = Some stops.before.steps;
      ended = at_end;
      begun = refl;
      executes = subst (λ n. Executes c.args.running.value.steps stops.before.steps n before after) (sym stopped)
          (subst (λ n. Executes c.args.running.value.steps n (stops_ending old.program ended) before after) end.counted
          (subst (λ (r : Running). Executes r.steps new.steps (stops_ending old.program ended) before after) c.deref_mut.ensures.value executes));
    }

pub returns-in_err-close-in-Ok-Ended-clause-few : goal.returns-in_err-close-in-Ok-Ended-clause-few
returns-in_err-close-in-Ok-Ended-clause-few g c =
    let old = c.deref_mut.result.now in
    let new = c.make_steps.new.running in
    let before = c.args.executions.now in
    let after = c.make_steps.new.executions in
    let stops = rw c.in-Ok-Ended.field-0-is at c.in-Ok-Ended.ensures.stops in
    let executes = rw c.in-Ok-Ended.field-0-is at c.in-Ok-Ended.ensures.executes in
    let few = few_steps new stops.stops.stands in
    if_err _ _ (subst (λ (r : Running). ExecutesAtMost (most_program_bytes - r.steps) 1 before after) c.deref_mut.ensures.value
    (at_most old.steps new.steps most_program_bytes _ before after executes few (stops_once old.program c.in-Ok-Ended.ended)))

pub returns-in-Err-clause-few : goal.returns-in-Err-clause-few
returns-in-Err-clause-few g c =
    subst (λ (r : Running). ExecutesAtMost (most_program_bytes - r.steps) 1 c.args.executions.now c.make_steps.new.executions) c.deref_mut.ensures.value c.in-Err.ensures.few
