use Rattle.std.proofs.Common.{◌≡◌, Option, Some, None, true, false, refl, sym, ap, ◌∙◌, subst, arith}
use Rattle.std.specs.Prelude.{Err}
use Rattle.std.specs.Option.{IfSome}
use Rattle.avm_items.specs.Items.{value_in}
use Rattle.avm_items.specs.Asks.{answer_from}
use Rattle.avm_call.specs.Calls.{call_result}
use Rattle.avm_run.specs.declared.call_run.RunFault.TheVariants as fault
use Rattle.avm_run.specs.Advances.{Supplies}
use Rattle.avm_run.specs.Progress.{reads_of}
use Rattle.avm_run.specs.RunState.{Progress, is_asked}
use Rattle.avm_run.specs.KeptRuns.{IsKeptRun, IsSoundState, progress, progress_of}
use Rattle.avm_run.proofs.LiveRuns.{supplied, was_asked, was_not_asked}
use Rattle.avm_run.proofs.call_run.CallRun.supply.Goals.{in-Some-2, in-None-2}
use Rattle.avm_run.proofs.call_run.CallRun.supply.Goals as goal

pub returns-then-not-asks_for : goal.returns-then-not-asks_for
returns-then-not-asks_for c =
    let live = c.in-Live.live in
    let off : is_asked live.asked c.args.item ≡ false = grind (arith, c.asks_for.ensures, c.if-not-asks_for.true) in
    let P : Option Progress → Type 0 = λ p. Supplies p (Some (progress_of live)) c.args.item c.args.value (Some fault.NotAsked) in
    subst P (ap progress c.in-Live.ensures.value ∙ c.self.view_is) (was_not_asked live.asked c.args.item off, refl)

pub invariant_of-self-in-Ok : goal.invariant_of-self-in-Ok
invariant_of-self-in-Ok c =
    let live = c.in-Live.live in
    let on : is_asked live.asked c.args.item ≡ true = grind (arith, c.asks_for.ensures, c.if-not-asks_for.false) in
    let kept : IsKeptRun live = subst IsSoundState (sym c.in-Live.ensures.value) c.self.invariant in
    let asks = subst (λ o. IfSome o (λ x. answer_from (value_in (reads_of live.phase)) (call_result live.call live.header) ≡ Err x)) (was_asked live.asked c.args.item on) kept.asked in
    let given = supplied live.call live.header live.phase c.in-Ok.phase c.args.item c.args.value kept.alive asks c.supplied.ensures.programs c.in-Ok.ensures.supplied in
    subst IsSoundState (sym c.going.ensures) (record { alive = given.alive; asked = tt })

pub returns-in-Ok : goal.returns-in-Ok
returns-in-Ok c =
    let live = c.in-Live.live in
    let on : is_asked live.asked c.args.item ≡ true = grind (arith, c.asks_for.ensures, c.if-not-asks_for.false) in
    let kept : IsKeptRun live = subst IsSoundState (sym c.in-Live.ensures.value) c.self.invariant in
    let asks = subst (λ o. IfSome o (λ x. answer_from (value_in (reads_of live.phase)) (call_result live.call live.header) ≡ Err x)) (was_asked live.asked c.args.item on) kept.asked in
    let given = supplied live.call live.header live.phase c.in-Ok.phase c.args.item c.args.value kept.alive asks c.supplied.ensures.programs c.in-Ok.ensures.supplied in
    let supplied-now = subst (λ (p : Option Progress). Supplies p (progress c.going.result) c.args.item c.args.value None) (ap progress c.in-Live.ensures.value ∙ c.self.view_is)
    (subst (λ s. Supplies (Some (progress_of live)) (progress s) c.args.item c.args.value None) (sym c.going.ensures)
    (was_asked live.asked c.args.item on, λ i. Some (record { call = live.call; header = live.header; reads = given.reads i; asked = None; steps = given.steps i }))) in
    elim c.match-asked.branch [
      | in-Some-2 w ↦ subst (λ q. Supplies c.args.self.now q c.args.item c.args.value None) (sym w.self-is) supplied-now
      | in-None-2 w ↦ subst (λ q. Supplies c.args.self.now q c.args.item c.args.value None) (sym w.self-is) supplied-now
    ]

pub returns-in-Err : goal.returns-in-Err
returns-in-Err c =
    let live = c.in-Live.live in
    let on : is_asked live.asked c.args.item ≡ true = grind (arith, c.asks_for.ensures, c.if-not-asks_for.false) in
    let P : Option Progress → Type 0 = λ p. Supplies p (progress c.replace.new.dest) c.args.item c.args.value (Some fault.Memory) in
    subst P (ap progress c.in-Live.ensures.value ∙ c.self.view_is) (was_asked live.asked c.args.item on, ap progress c.in-Live.ensures.after)
