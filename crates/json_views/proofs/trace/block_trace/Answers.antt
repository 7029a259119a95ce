use Rattle.std.proofs.Common.{string_bytes, subst}
use Rattle.std.proofs.lemmas.Result.{IfErr-weaker, IfOk-weaker, err_from_is_err_and}
use Rattle.json_views.specs.CallTraces.{AddsDocument, IsDocumentFailure}
use Rattle.json_views.specs.Traces.{IsBlockTrace}
use Rattle.json_views.proofs.FoundTraces.{block_found, block_long, block_refused}
use Rattle.json_views.proofs.trace.block_trace.Goals as goal

pub put_block_trace-requires-clause-base : goal.put_block_trace-requires-clause-base
put_block_trace-requires-clause-base g c κs within = rw c.in_ok-ledger.ensures.ledger c.in_ok-ledger.ensures.same

pub returns-in_err-put_block_trace-clause-refused : goal.returns-in_err-put_block_trace-clause-refused
returns-in_err-put_block_trace-clause-refused g c =
    let b = c.args.block.now in
    let p = err_from_is_err_and c.from_residual-in_err-put_block_trace.result c.from_residual-in_err-put_block_trace.ensures.1 in
    let failed = subst (λ l. IsDocumentFailure (IsBlockTrace l b) c.new-out.result c.in_err-put_block_trace.field-0.0) c.in_ok-ledger.ensures.ledger c.in_err-put_block_trace.ensures.refused in
    rw (p.1, p.2) (block_refused c.args.base b c.in_ok-ledger.ensures.same c.new-out.result c.new-out.ensures _ failed)

pub returns-clause-found : goal.returns-clause-found
returns-clause-found g c =
    let b = c.args.block.now in
    let all = c.put_block_trace.new.out in
    let written = subst (λ l. AddsDocument (IsBlockTrace l b) c.new-out.result all) c.in_ok-ledger.ensures.ledger c.in_ok-put_block_trace.ensures.written in
    IfOk-weaker c.text_within.result _ _ (λ text within. block_found c.args.base b c.in_ok-ledger.ensures.same c.new-out.result c.new-out.ensures all (string_bytes text) written within) c.text_within.ensures.text

pub returns-clause-refused : goal.returns-clause-refused
returns-clause-refused g c =
    let b = c.args.block.now in
    let all = c.put_block_trace.new.out in
    let written = subst (λ l. AddsDocument (IsBlockTrace l b) c.new-out.result all) c.in_ok-ledger.ensures.ledger c.in_ok-put_block_trace.ensures.written in
    IfErr-weaker c.text_within.result _ _ (λ why long. block_long c.args.base b c.in_ok-ledger.ensures.same c.new-out.result c.new-out.ensures all why written long) c.text_within.ensures.refused
