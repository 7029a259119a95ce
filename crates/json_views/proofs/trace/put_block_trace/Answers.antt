use Rattle.std.proofs.Common.{map, refl}
use Rattle.std.proofs.lemmas.Result.{IfErr-weaker, on_ok_weaker}
use Rattle.json_views.specs.CallTraces.{AddsTraces, IsTracesFailure, response_tokens}
use Rattle.json_views.specs.Traces.{recorded_call}
use Rattle.json_views.proofs.FoundTraces.{block_failed, block_written, of_parts}
use Rattle.json_views.proofs.trace.put_block_trace.Goals as goal

pub returns-clause-written : goal.returns-clause-written
returns-clause-written g c =
    let b = c.args.block.now in
    let opened = c.begin_object.new.out in
    let new = c.put_response.new.out in
    on_ok_weaker c.put_response.result
    (λ adds. block_written c.args.ledger b c.requires.base c.args.out.now opened c.in_ok-begin_object.ensures new
    (of_parts (λ l h entries. AddsTraces response_tokens l h (map recorded_call entries) opened new) c.args.ledger c.args.ledger c.header.result.now b.header c.entries.result.now b.entries refl c.header.ensures c.entries.ensures.entries adds))
    c.put_response.ensures.written

pub returns-clause-refused : goal.returns-clause-refused
returns-clause-refused g c =
    let b = c.args.block.now in
    let opened = c.begin_object.new.out in
    IfErr-weaker c.put_response.result _ _
    (λ why failed. block_failed c.args.ledger b c.requires.base c.args.out.now opened c.in_ok-begin_object.ensures why
    (of_parts (λ l h entries. IsTracesFailure response_tokens l h (map recorded_call entries) opened why) c.args.ledger c.args.ledger c.header.result.now b.header c.entries.result.now b.entries refl c.header.ensures c.entries.ensures.entries failed))
    c.put_response.ensures.refused
