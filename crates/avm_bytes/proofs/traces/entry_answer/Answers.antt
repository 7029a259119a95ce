use Rattle.json_views.specs.Traces.{FindsEntry}
use Rattle.avm_bytes.proofs.TracesFound.{trace_refused, trace_shown}
use Rattle.avm_bytes.proofs.traces.entry_answer.Goals as goal

pub returns-in-Ok : goal.returns-in-Ok
returns-in-Ok g c = trace_shown (FindsEntry (c.args.base.now, c.args.block.now) c.args.number) _ _ c.in-Ok.ensures.found (rw c.into_bytes.ensures.value at c.done.ensures)

pub returns-in-Err-Fault : goal.returns-in-Err-Fault
returns-in-Err-Fault g c = trace_refused (FindsEntry (c.args.base.now, c.args.block.now) c.args.number) c.in-Err-Fault.why _ (rw c.in-Err-Fault.field-0-is at c.in-Err-Fault.ensures.refused) (rw c.trace_status.ensures at c.refusal.ensures)
