use Rattle.std.proofs.Common.{◌≡◌, ◌∙◌, Some, ap, sym}
use Rattle.std.proofs.lemmas.Result.{IfErr-weaker, err_from_is_err_and, on_ok_weaker}
use Rattle.avm_stepper.specs.Opening.{entry_numbered}
use Rattle.json_views.proofs.FoundTraces.{entry_failed, entry_written}
use Rattle.json_views.proofs.trace.put_entry_trace.Goals as goal

pub returns-in_err-stepper-clause-refused : goal.returns-in_err-stepper-clause-refused
returns-in_err-stepper-clause-refused g c =
    let p = err_from_is_err_and c.from_residual.result c.from_residual.ensures.1 in
    rw (p.1, p.2) (c.in_err-stepper.ensures.refused c.args.out.now)

pub returns-clause-written : goal.returns-clause-written
returns-clause-written g c =
    let there : entry_numbered c.args.block.now.entries c.args.number ≡ Some c.in-Some.entry.now = ap (λ es. entry_numbered es c.args.number) (sym c.entries.ensures.entries) ∙ sym c.in-Some.ensures in
    on_ok_weaker c.put_opened_trace.result
    (entry_written c.args.base.now c.args.block.now c.args.number c.in_ok-stepper.stepper c.in-Some.entry.now c.in_ok-stepper.ensures.opened there c.args.out.now c.put_opened_trace.new.out)
    c.put_opened_trace.ensures.written

pub returns-clause-refused : goal.returns-clause-refused
returns-clause-refused g c =
    let there : entry_numbered c.args.block.now.entries c.args.number ≡ Some c.in-Some.entry.now = ap (λ es. entry_numbered es c.args.number) (sym c.entries.ensures.entries) ∙ sym c.in-Some.ensures in
    IfErr-weaker c.put_opened_trace.result _ _
    (λ why failed. entry_failed c.args.base.now c.args.block.now c.args.number c.in_ok-stepper.stepper c.in-Some.entry.now c.in_ok-stepper.ensures.opened there c.args.out.now why failed)
    c.put_opened_trace.ensures.refused
