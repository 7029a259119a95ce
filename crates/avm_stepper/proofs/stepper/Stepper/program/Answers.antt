use Rattle.std.proofs.Common.{Option, Some, refl, sym, ap, subst, ◌∙◌}
use Rattle.avm_run.specs.Showing.{sight_of}
use Rattle.avm_stepper.specs.Debugging.{Debugged}
use Rattle.avm_stepper.specs.DebugRuns.{IsKeptDebug, seen}
use Rattle.avm_stepper.specs.Shown.{IsProgramShown}
use Rattle.avm_stepper.proofs.Shows.{KeptShows, kept_shows, shown_program}
use Rattle.avm_stepper.proofs.stepper.Stepper.program.Goals as goal

pub returns-in-Some-shown : goal.returns-in-Some-shown
returns-in-Some-shown c =
    let l = c.self.inside.ledger in
    let fault = c.self.inside.fault in
    let s = sight_of c.in-Some-shown.shown in
    let k : KeptShows l fault c.in-Some.run' s = kept_shows l fault c.in-Some.run' c.shown.result c.in-Some-shown.shown (subst (IsKeptDebug l fault) c.in-Some.is c.self.invariant.0) c.shown.ensures c.in-Some-shown.is in
    subst (λ (m : Option Debugged). IsProgramShown m (Some s.program)) (sym (ap (seen l fault) c.in-Some.is) ∙ c.self.view_is) (shown_program l fault c.in-Some.run' s s.program k refl)
