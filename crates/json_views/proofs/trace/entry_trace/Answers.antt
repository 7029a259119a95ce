use Rattle.std.proofs.Common.{string_bytes}
use Rattle.std.proofs.lemmas.Result.{IfErr-weaker, IfOk-weaker, err_from_is_err_and}
use Rattle.json_views.proofs.FoundTraces.{entry_found, entry_long, entry_refused}
use Rattle.json_views.proofs.trace.entry_trace.Goals as goal

pub returns-in_err-put_entry_trace-clause-refused : goal.returns-in_err-put_entry_trace-clause-refused
returns-in_err-put_entry_trace-clause-refused g c =
    let p = err_from_is_err_and c.from_residual.result c.from_residual.ensures.1 in
    rw (p.1, p.2) (entry_refused c.args.base.now c.args.block.now c.args.number c.new-out.result c.new-out.ensures _ c.in_err-put_entry_trace.ensures.refused)

pub returns-clause-found : goal.returns-clause-found
returns-clause-found g c =
    IfOk-weaker c.text_within.result _ _
    (λ text within. entry_found c.args.base.now c.args.block.now c.args.number c.new-out.result c.new-out.ensures c.put_entry_trace.new.out (string_bytes text) c.in_ok-put_entry_trace.ensures.written within)
    c.text_within.ensures.text

pub returns-clause-refused : goal.returns-clause-refused
returns-clause-refused g c =
    IfErr-weaker c.text_within.result _ _
    (λ why long. entry_long c.args.base.now c.args.block.now c.args.number c.new-out.result c.new-out.ensures c.put_entry_trace.new.out why c.in_ok-put_entry_trace.ensures.written long)
    c.text_within.ensures.refused
