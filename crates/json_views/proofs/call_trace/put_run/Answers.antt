use Rattle.std.proofs.lemmas.Result.{err_from_is_err_and}
use Rattle.json_views.proofs.RunTraces.{run_failure, run_written}
use Rattle.json_views.proofs.call_trace.put_run.Goals as goal

pub returns-in_err-cost-clause-refused : goal.returns-in_err-cost-clause-refused
returns-in_err-cost-clause-refused g c =
    let p = err_from_is_err_and c.from_residual-in_err-cost.result c.from_residual-in_err-cost.ensures.1 in
    rw (p.1, p.2) (run_failure c.args.stepper.now c.in_ok-program.program c.args.out.now c.put_name.new.out _ c.in_ok-program.ensures c.in_ok-put_name.ensures c.in_err-cost.ensures.refused)

pub returns-clause-written : goal.returns-clause-written
returns-clause-written g c =
    run_written c.args.stepper.now c.put_states.new.stepper c.in_ok-program.program c.in_ok-cost.cost c.args.out.now c.put_name.new.out c.put_states.new.out c.put_budget.new.out c.put_name-2.new.out c.put_disassembly.new.out c.in_ok-program.ensures c.in_ok-put_name.ensures
    c.in_ok-cost.ensures.written c.in_ok-put_budget.ensures c.in_ok-put_name-2.ensures c.in_ok-put_disassembly.ensures
