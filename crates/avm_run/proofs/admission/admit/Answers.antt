use Rattle.std.proofs.Common.{subst}
use Rattle.avm_items.specs.Items.{value_in}
use Rattle.avm_items.specs.Asks.{answer_from}
use Rattle.avm_items.specs.Acts.{done, ◌>>=◌}
use Rattle.avm_call.specs.Calls.{Target, opt_in_test, target}
use Rattle.avm_run.specs.Tests.{Halts}
use Rattle.avm_run.proofs.AdmissionTests.{halts, halts_behind}
use Rattle.avm_run.proofs.admission.admit.Goals as goal

pub returns-in-Err-clause-tests : goal.returns-in-Err-clause-tests
returns-in-Err-clause-tests c =
    let known = value_in c.args.items.now in
    let call = c.args.call.now in
    let t : Target = record { id = c.in_ok-admitted.admitted.id; row = c.in_ok-admitted.admitted.row } in
    let stops : Halts c.in-Err.halt (answer_from known (opt_in_test call t.id)) = subst (λ f. Halts c.in-Err.halt (answer_from known (opt_in_test f t.id))) c.fields.ensures.fields c.in-Err.ensures in
    halts_behind c.in-Err.halt known (target call) (λ u. opt_in_test call u.id >>= λ _. done u) t c.in_ok-admitted.ensures.tests
    (halts c.in-Err.halt known (opt_in_test call t.id) (λ _. done t) stops)
