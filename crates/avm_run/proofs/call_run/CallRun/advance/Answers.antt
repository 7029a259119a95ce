use Rattle.std.proofs.Common.{Option, Some, Ok, sym, ap, ◌∙◌, subst}
use Rattle.avm_run.specs.declared.call_run.Advance.TheVariants.{Need}
use Rattle.avm_run.specs.Advances.{Advances}
use Rattle.avm_run.specs.Progress.{reads_of, steps_of}
use Rattle.avm_run.specs.RunState.{Progress}
use Rattle.avm_run.specs.KeptRuns.{IsKeptRun, IsSoundState, progress, progress_of}
use Rattle.avm_run.proofs.LiveRuns.{asks_kept, asked_by_end, ends_over_reads}
use Rattle.avm_run.proofs.Answering.{asks_for}
use Rattle.avm_run.proofs.call_run.CallRun.advance.Goals as goal

pub run_on-requires-clause-follows : goal.run_on-requires-clause-follows
run_on-requires-clause-follows g c κs within =
    let kept : IsKeptRun c.in-Live.live = subst IsSoundState (sym c.in-Live.ensures.value) c.self.invariant in
    kept.alive.follows

pub invariant_of-self-in-Ok-Need : goal.invariant_of-self-in-Ok-Need
invariant_of-self-in-Ok-Need g c =
    let live = c.in-Live.live in
    let kept : IsKeptRun live = subst IsSoundState (sym c.in-Live.ensures.value) c.self.invariant in
    subst IsSoundState (sym c.asking.ensures) (asks_kept live.call live.header (reads_of live.phase) c.in-Ok-Need.phase c.in-Ok-Need.item kept.alive.few (rw c.in-Ok-Need.field-0-is at c.in-Ok-Need.ensures.runs))

pub returns-in-Ok-Need-clause-advances : goal.returns-in-Ok-Need-clause-advances
returns-in-Ok-Need-clause-advances g c =
    let live = c.in-Live.live in
    let asks = rw c.in-Ok-Need.field-0-is at c.in-Ok-Need.ensures.runs in
    let kept : IsKeptRun live = subst IsSoundState (sym c.in-Live.ensures.value) c.self.invariant in
    subst (λ (p : Option Progress). Advances p (progress c.asking.result) (Ok (Need c.in-Ok-Need.item))) (ap progress c.in-Live.ensures.value ∙ c.self.view_is)
    (subst (λ s. Advances (Some (progress_of live)) (progress s) (Ok (Need c.in-Ok-Need.item))) (sym c.asking.ensures)
    (steps_of c.in-Ok-Need.phase, asks_for live c.in-Ok-Need.phase c.in-Ok-Need.item kept.alive.few asks))

pub finished-requires-clause-result : goal.finished-requires-clause-result
finished-requires-clause-result g c =
    let live = c.in-Live.live in
    ends_over_reads live.call live.header (reads_of live.phase) c.in-Ok-Done.closed (rw c.in-Ok-Done.field-0-is at c.in-Ok-Done.ensures.runs).run

pub finished-requires-clause-asked : goal.finished-requires-clause-asked
finished-requires-clause-asked g c =
    let live = c.in-Live.live in
    let kept : IsKeptRun live = subst IsSoundState (sym c.in-Live.ensures.value) c.self.invariant in
    asked_by_end live.call live.header (reads_of live.phase) c.in-Ok-Done.closed kept.alive.few (rw c.in-Ok-Done.field-0-is at c.in-Ok-Done.ensures.runs).run
