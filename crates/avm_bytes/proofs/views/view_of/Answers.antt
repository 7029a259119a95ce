use Rattle.avm_bytes.proofs.ViewsFound.{view_refused, view_shown}
use Rattle.avm_bytes.proofs.views.view_of.Goals as goal

pub returns-in-Ok : goal.returns-in-Ok
returns-in-Ok g c =
    view_shown c.args.base.now c.args.block.now c.args.point.number c.args.point.steps _ _ c.in-Ok.ensures.found (rw c.into_bytes.ensures.value at c.done.ensures)

pub returns-in-Err-Fault : goal.returns-in-Err-Fault
returns-in-Err-Fault g c =
    view_refused c.args.base.now c.args.block.now c.args.point.number c.args.point.steps c.in-Err-Fault.why _
    (rw c.in-Err-Fault.field-0-is at c.in-Err-Fault.ensures.refused) (rw c.view_status.ensures at c.refusal.ensures)
