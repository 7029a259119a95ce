use Rattle.std.proofs.Common.{◌+◌, ◌-◌, ◌∙◌, ap, arith}
use Rattle.std.proofs.lemmas.Result.{err_from_is_err_and}
use Rattle.avm_ledger.specs.LedgerReader.{local_room}
use Rattle.avm_ledger.proofs.LocalStatesReading.{goes_on, no_account, no_id, no_state}
use Rattle.avm_ledger.proofs.ledger_reading.local_states_of.Goals as goal

pub returns-in_err-who : goal.returns-in_err-who
returns-in_err-who c =
    let p = err_from_is_err_and c.from_residual.result c.from_residual.ensures.1 in
    rw (p.1, p.2) (no_account c.loop.local_states.items c.loop.before c.args.next_id c.args.applications.now.entries (c.args.count - c.loop.counter) c.loop.rest c.in_err-who.field-0.0 _ c.loop.invariant c.in_err-who.ensures (omega arith))

pub returns-in_err-id : goal.returns-in_err-id
returns-in_err-id c =
    let p = err_from_is_err_and c.from_residual-in_err-id.result c.from_residual-in_err-id.ensures.1 in
    rw (p.1, p.2) (no_id c.loop.local_states.items c.loop.before c.args.next_id c.args.applications.now.entries (c.args.count - c.loop.counter) c.loop.rest c.in_ok-who.who c.in_ok-who.next c.in_err-id.field-0.0 _ c.loop.invariant c.in_ok-who.ensures c.in_err-id.ensures (omega arith))

pub returns-in_err-state : goal.returns-in_err-state
returns-in_err-state c =
    let p = err_from_is_err_and c.from_residual-in_err-state.result c.from_residual-in_err-state.ensures.1 in
    let room = c.room_of-most.ensures ∙ ap local_room c.get.ensures.value in
    rw (p.1, p.2) (no_state c.loop.local_states.items c.loop.before c.args.next_id c.args.applications.now.entries (c.args.count - c.loop.counter) c.loop.rest c.in_ok-who.who c.in_ok-who.next c.in_ok-id.id c.in_ok-id.next _ c.in_err-state.field-0.0 _ c.loop.invariant c.in_ok-who.ensures c.in_ok-id.ensures room c.in_err-state.ensures (omega arith))

pub loop-preserved : goal.loop-preserved
loop-preserved c =
    let room = c.room_of-most.ensures ∙ ap local_room c.get.ensures.value in
    goes_on c.loop.local_states.items _ c.loop.before c.args.next_id c.args.applications.now.entries (c.args.count - c.loop.counter) (c.args.count - (c.loop.counter + 1)) c.loop.rest c.in_ok-who.who c.in_ok-who.next c.in_ok-id.id c.in_ok-id.next _ c.in_ok-state.state c.in_ok-state.next _
    c.loop.invariant c.in_ok-who.ensures c.in_ok-id.ensures room c.in_ok-state.ensures c.in_ok-push.ensures.items (omega arith)
