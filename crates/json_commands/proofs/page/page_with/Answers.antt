use Rattle.std.proofs.Common.{string_bytes}
use Rattle.std.proofs.lemmas.Result.{IfErr-weaker, IfOk-weaker, err_from_is_err_and}
use Rattle.json_commands.proofs.Pages.{page_failed, page_found, page_long}
use Rattle.json_commands.proofs.page.page_with.Goals as goal

pub returns-in_err-put_traces-clause-refused : goal.returns-in_err-put_traces-clause-refused
returns-in_err-put_traces-clause-refused g c =
    let front = rw c.number_of.ensures at c.in_ok-put_front.ensures in
    let p = err_from_is_err_and c.from_residual-in_err-put_traces.result c.from_residual-in_err-put_traces.ensures.1 in
    rw (p.1, p.2) (page_failed c.args.traces c.args.base.now c.args.block.now c.new-out.result c.put_front.new.out c.new-out.ensures front _ c.in_err-put_traces.ensures.refused)

pub returns-clause-page : goal.returns-clause-page
returns-clause-page g c =
    let front = rw c.number_of.ensures at c.in_ok-put_front.ensures in
    IfOk-weaker c.finished.result _ _
    (λ page is. page_found c.args.traces c.args.base.now c.args.block.now c.new-out.result c.put_front.new.out c.new-out.ensures front c.put_traces.new.out c.end_object.new.out (string_bytes page) c.in_ok-put_traces.ensures.written
    c.in_ok-end_object.ensures is)
    c.finished.ensures.page

pub returns-clause-refused : goal.returns-clause-refused
returns-clause-refused g c =
    let front = rw c.number_of.ensures at c.in_ok-put_front.ensures in
    IfErr-weaker c.finished.result _ _
    (λ why f. page_long c.args.traces c.args.base.now c.args.block.now c.new-out.result c.put_front.new.out c.new-out.ensures front c.put_traces.new.out c.end_object.new.out why c.in_ok-put_traces.ensures.written c.in_ok-end_object.ensures f)
    c.finished.ensures.refused
