use Rattle.std.proofs.Common.{Ok, Option, Some, sym, ap, subst, ◌∙◌}
use Rattle.avm_run.specs.Showing.{sight_of}
use Rattle.avm_stepper.specs.Debugging.{Debugged}
use Rattle.avm_stepper.specs.DebugRuns.{IsKeptDebug, IsPreparedFor, seen}
use Rattle.avm_stepper.specs.Shown.{IsShown, view_by}
use Rattle.avm_stepper.proofs.Shows.{KeptShows, kept_shows, kept_view, shown_view}
use Rattle.avm_stepper.proofs.ViewsThere.{space_over}
use Rattle.avm_stepper.proofs.stepper.Stepper.view.Goals as goal

pub view_at-requires : goal.view_at-requires
view_at-requires c =
    let l = c.self.inside.ledger in
    let fault = c.self.inside.fault in
    let s = sight_of c.in-Some-shown.shown in
    let k : KeptShows l fault c.in-Some.run' s = kept_shows l fault c.in-Some.run' c.shown.result c.in-Some-shown.shown (subst (IsKeptDebug l fault) c.in-Some.is c.self.invariant.0) c.shown.ensures c.in-Some-shown.is in
    space_over l k.progress.call k.progress.header k.kept.steps s k.over

pub returns-in-Ok : goal.returns-in-Ok
returns-in-Ok c =
    let l = c.self.inside.ledger in
    let fault = c.self.inside.fault in
    let s = sight_of c.in-Some-shown.shown in
    let k : KeptShows l fault c.in-Some.run' s = kept_shows l fault c.in-Some.run' c.shown.result c.in-Some-shown.shown (subst (IsKeptDebug l fault) c.in-Some.is c.self.invariant.0) c.shown.ensures c.in-Some-shown.is in
    let prepared = subst (IsPreparedFor l c.self.inside.prepared) c.in-Some.is c.self.invariant.1 in
    subst (λ (m : Option Debugged). IsShown m (Ok c.in-Ok.view)) (sym (ap (seen l fault) c.in-Some.is) ∙ c.self.view_is) (shown_view (seen l fault (Some c.in-Some.run')) (view_by l c.self.inside.prepared fault s) c.in-Ok.view (kept_view l c.self.inside.prepared fault c.in-Some.run' s k prepared) c.in-Ok.ensures)
