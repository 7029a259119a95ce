use Rattle.std.proofs.Common.{Option, Some, Ok, sym, ap, ◌∙◌, subst}
use Rattle.avm_run.specs.declared.call_run.Step.TheVariants as step
use Rattle.avm_run.specs.Advances.{AsksFor, Steps}
use Rattle.avm_run.specs.Progress.{reads_of, steps_of}
use Rattle.avm_run.specs.RunState.{Progress}
use Rattle.avm_run.specs.KeptRuns.{IsKeptRun, IsSoundState, progress, progress_of}
use Rattle.avm_run.proofs.LiveRuns.{asks_kept, asked_by_end, ends_kept, ends_over_reads, goes_kept}
use Rattle.avm_run.proofs.Answering.{asks_for, ends_there, makes_step}
use Rattle.avm_run.proofs.call_run.CallRun.step_one.Goals as goal

pub step_on-requires-clause-follows : goal.step_on-requires-clause-follows
step_on-requires-clause-follows g c κs within =
    let kept : IsKeptRun c.in-Live.live = subst IsSoundState (sym c.in-Live.ensures.value) c.self.invariant in
    kept.alive.follows

pub invariant_of-self-in-Ok-On : goal.invariant_of-self-in-Ok-On
invariant_of-self-in-Ok-On g c =
    let live = c.in-Live.live in
    let kept : IsKeptRun live = subst IsSoundState (sym c.in-Live.ensures.value) c.self.invariant in
    subst IsSoundState (sym c.going.ensures) (goes_kept live.call live.header (reads_of live.phase) (steps_of live.phase) c.in-Ok-On.phase kept.alive.few (rw c.in-Ok-On.field-0-is at c.in-Ok-On.ensures.goes))

pub returns-in-Ok-On-clause-steps : goal.returns-in-Ok-On-clause-steps
returns-in-Ok-On-clause-steps g c =
    let live = c.in-Live.live in
    subst (λ (p : Option Progress). Steps p (progress c.going.result) (Ok step.Moved)) (ap progress c.in-Live.ensures.value ∙ c.self.view_is)
    (subst (λ s. Steps (Some (progress_of live)) (progress s) (Ok step.Moved)) (sym c.going.ensures)
    (makes_step live c.in-Ok-On.phase (rw c.in-Ok-On.field-0-is at c.in-Ok-On.ensures.goes)))

pub invariant_of-self-in-Ok-Ends : goal.invariant_of-self-in-Ok-Ends
invariant_of-self-in-Ok-Ends g c =
    let live = c.in-Live.live in
    let kept : IsKeptRun live = subst IsSoundState (sym c.in-Live.ensures.value) c.self.invariant in
    let ends = rw c.in-Ok-Ends.field-0-is at c.in-Ok-Ends.ensures.goes in
    subst IsSoundState (sym c.going-in-Ok-Ends.ensures) (ends_kept live.call live.header (reads_of live.phase) (steps_of live.phase) c.in-Ok-Ends.phase c.in-Ok-Ends.ended kept.alive.few ends)

pub returns-in-Ok-Ends-clause-steps : goal.returns-in-Ok-Ends-clause-steps
returns-in-Ok-Ends-clause-steps g c =
    let live = c.in-Live.live in
    let ends = rw c.in-Ok-Ends.field-0-is at c.in-Ok-Ends.ensures.goes in
    subst (λ (p : Option Progress). Steps p (progress c.going-in-Ok-Ends.result) (Ok (step.Ended c.in-Ok-Ends.ended))) (ap progress c.in-Live.ensures.value ∙ c.self.view_is)
    (subst (λ s. Steps (Some (progress_of live)) (progress s) (Ok (step.Ended c.in-Ok-Ends.ended))) (sym c.going-in-Ok-Ends.ensures)
    (ends_there live c.in-Ok-Ends.phase c.in-Ok-Ends.ended ends))

pub invariant_of-self-in-Need : goal.invariant_of-self-in-Need
invariant_of-self-in-Need g c =
    let live = c.in-Live.live in
    let kept : IsKeptRun live = subst IsSoundState (sym c.in-Live.ensures.value) c.self.invariant in
    let stops = rw c.in-Ok-Stops.field-0-is at c.in-Ok-Stops.ensures.goes in
    let asks = rw c.in-Need.is at stops in
    subst IsSoundState (sym c.asking.ensures) (asks_kept live.call live.header (reads_of live.phase) c.in-Need.phase c.in-Need.item kept.alive.few asks.0)

pub returns-in-Need-clause-steps : goal.returns-in-Need-clause-steps
returns-in-Need-clause-steps g c =
    let live = c.in-Live.live in
    let kept : IsKeptRun live = subst IsSoundState (sym c.in-Live.ensures.value) c.self.invariant in
    let stops = rw c.in-Ok-Stops.field-0-is at c.in-Ok-Stops.ensures.goes in
    let asks = rw c.in-Need.is at stops in
    subst (λ (p : Option Progress). Steps p (progress c.asking.result) (Ok (step.Need c.in-Need.item))) (ap progress c.in-Live.ensures.value ∙ c.self.view_is)
    (subst (λ s. Steps (Some (progress_of live)) (progress s) (Ok (step.Need c.in-Need.item))) (sym c.asking.ensures)
    (subst (λ n. AsksFor (progress_of live) n (Some (progress_of (record { call = live.call; header = live.header; phase = c.in-Need.phase; asked = Some c.in-Need.item }))) c.in-Need.item) asks.1
    (asks_for live c.in-Need.phase c.in-Need.item kept.alive.few asks.0)))

pub finished-requires-clause-result : goal.finished-requires-clause-result
finished-requires-clause-result g c =
    let live = c.in-Live.live in
    let stops = rw c.in-Ok-Stops.field-0-is at c.in-Ok-Stops.ensures.goes in
    ends_over_reads live.call live.header (reads_of live.phase) c.in-Done.closed (rw c.in-Done.is at stops).0

pub finished-requires-clause-asked : goal.finished-requires-clause-asked
finished-requires-clause-asked g c =
    let live = c.in-Live.live in
    let stops = rw c.in-Ok-Stops.field-0-is at c.in-Ok-Stops.ensures.goes in
    let kept : IsKeptRun live = subst IsSoundState (sym c.in-Live.ensures.value) c.self.invariant in
    asked_by_end live.call live.header (reads_of live.phase) c.in-Done.closed kept.alive.few (rw c.in-Done.is at stops).0
