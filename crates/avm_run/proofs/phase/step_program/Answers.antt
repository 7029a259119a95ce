use Rattle.std.proofs.Common.{◌≡◌, ◌+◌, None, Some, Ok, refl, sym, ap, ◌∙◌, subst}
use Rattle.avm_run.specs.declared.running.Running.{Running}
use Rattle.avm_run.specs.Executions.{Executes}
use Rattle.avm_run.specs.Standing.{AsksThere, BeginsRun, EndsThere, StopsWithin}
use Rattle.avm_run.specs.Progress.{HasStep}
use Rattle.avm_run.proofs.Leading.{asks_behind, begins_there, path_over_items, still_runs, still_there, stops_there}
use Rattle.avm_run.proofs.Executing.{runs_program, stays}
use Rattle.avm_run.proofs.phase.step_program.Goals as goal
use Rattle.avm_run.proofs.phase.step_program.Goals.{After-deref_mut}

-- the call that runs is the one that the run began with
begun_there : (g : _) (c : After-deref_mut g) → BeginsRun c.args.call.now c.args.context.now.header.now c.args.running.value.env.reads c.deref_mut.result.now
begun_there g c = subst (BeginsRun _ _ _) (sym c.deref_mut.ensures.value) c.requires.begun

pub returns-in-Made-clause-goes : goal.returns-in-Made-clause-goes
returns-in-Made-clause-goes g c =
    let old = c.deref_mut.result.now in
    let new = c.make_steps.new.running in
    let begun = begun_there g (goal.at.returns-in-Made-clause-goes g c).After-deref_mut in
    let made = rw c.in-Made.is at c.in_ok-make_steps.ensures.stops in
    let runs = still_runs _ _ _ old new begun made.same made.stands in
    let counted : new.steps ≡ c.args.running.value.steps + 1 = made.counted ∙ ap (λ (r : Running). r.steps + 1) c.deref_mut.ensures.value in
    record {
      same_reads = runs.same_items;
      follows = record { same_call = runs.same_call; same_header = runs.same_header; same_items = refl; stands = made.stands };
      counted = ap Some counted;
      there = subst (HasStep _ _ _) counted (begins_there _ _ _ new runs);
    }

pub returns-in-Need-clause-goes : goal.returns-in-Need-clause-goes
returns-in-Need-clause-goes g c =
    let old = c.deref_mut.result.now in
    let new = c.make_steps.new.running in
    let begun = begun_there g (goal.at.returns-in-Need-clause-goes g c).After-deref_mut in
    let stops = subst (λ x. StopsWithin 1 old (λ before. AsksThere before new x)) (sym c.into_inner.ensures) (rw c.in-Need.is at c.in_ok-make_steps.ensures.stops) in
    let asks = asks_behind _ _ _ 1 old new c.into_inner.result begun stops in (
      record {
        same_reads = asks.runs.same_items;
        follows = record { same_call = asks.runs.same_call; same_header = asks.runs.same_header; same_items = refl; stands = asks.runs.stands };
        definition = asks.definition;
        next = asks.next;
      },
      ap Some (stops.stops.counted ∙ still_there old _ stops ∙ ap (λ (r : Running). r.steps) c.deref_mut.ensures.value),
    )

pub returns-in-Ended-clause-goes : goal.returns-in-Ended-clause-goes
returns-in-Ended-clause-goes g c =
    let old = c.deref_mut.result.now in
    let new = c.make_steps.new.running in
    let begun = begun_there g (goal.at.returns-in-Ended-clause-goes g c).After-deref_mut in
    let stops = rw c.in-Ended.is at c.in_ok-make_steps.ensures.stops in
    let end = stops.stops in
    let there = stops_there _ _ _ 1 old (λ before. EndsThere before new c.in-Ended.ended) begun stops in
    let runs = still_runs _ _ _ stops.before new there end.same end.stands in
    let counted = still_there old (λ before. EndsThere before new c.in-Ended.ended) stops ∙ ap (λ (r : Running). r.steps) c.deref_mut.ensures.value in
    record {
      same_reads = runs.same_items;
      follows = record { same_call = runs.same_call; same_header = runs.same_header; same_items = refl; stands = end.stands };
      counted = ap Some (end.counted ∙ counted);
      path = record {
        number = stops.before.steps;
        counted = ap Some (sym counted);
        position = end.position;
        there = path_over_items _ _ _ stops.before stops.before.steps (Ok (Some (end.position, None))) there end.there;
        next = path_over_items _ _ _ stops.before (stops.before.steps + 1) (Ok (Some (end.position, Some c.in-Ended.ended))) there end.next;
      };
    }

pub returns-in-Made-clause-executes : goal.returns-in-Made-clause-executes
returns-in-Made-clause-executes g c =
    let made = rw c.in-Made.is at c.in_ok-make_steps.ensures.stops in
    let executes = rw c.in-Made.is at c.in_ok-make_steps.ensures.executes in
    let counted : c.make_steps.new.running.steps ≡ c.args.running.value.steps + 1 = made.counted ∙ ap (λ (r : Running). r.steps + 1) c.deref_mut.ensures.value in
    subst (λ n. Executes c.args.running.value.steps n 0 c.args.executions.now c.make_steps.new.executions) counted
    (subst (λ (r : Running). Executes r.steps c.make_steps.new.running.steps 0 c.args.executions.now c.make_steps.new.executions) c.deref_mut.ensures.value executes)

pub returns-in-Need-clause-executes : goal.returns-in-Need-clause-executes
returns-in-Need-clause-executes g c =
    let old = c.deref_mut.result.now in
    let new = c.make_steps.new.running in
    let stops = rw c.in-Need.is at c.in_ok-make_steps.ensures.stops in
    let executes = rw c.in-Need.is at c.in_ok-make_steps.ensures.executes in
    stays old.steps new.steps 1 c.args.executions.now c.make_steps.new.executions (stops.stops.counted ∙ still_there old _ stops) executes

pub returns-in-Ended-clause-executes : goal.returns-in-Ended-clause-executes
returns-in-Ended-clause-executes g c =
    let old = c.deref_mut.result.now in
    let new = c.make_steps.new.running in
    let begun = begun_there g (goal.at.returns-in-Ended-clause-executes g c).After-deref_mut in
    let stops = rw c.in-Ended.is at c.in_ok-make_steps.ensures.stops in
    let executes = rw c.in-Ended.is at c.in_ok-make_steps.ensures.executes in
    let counted = stops.stops.counted ∙ still_there old (λ before. EndsThere before new c.in-Ended.ended) stops in
    record { program = old.program; runs = runs_program _ _ _ old begun; executes = stays old.steps new.steps _ c.args.executions.now c.make_steps.new.executions counted executes }
