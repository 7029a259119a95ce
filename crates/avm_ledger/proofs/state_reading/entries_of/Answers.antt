use Rattle.std.proofs.Common.{◌+◌, ◌-◌, ◌∙◌, ap, arith}
use Rattle.std.proofs.lemmas.Result.{err_from_is_err_and}
use Rattle.avm_states.specs.Entries.{with_entry}
use Rattle.avm_ledger.proofs.EntriesReading.{goes_on, no_key, no_value, short_key}
use Rattle.avm_ledger.proofs.state_reading.entries_of.Goals as goal

pub returns-in_err-bytes : goal.returns-in_err-bytes
returns-in_err-bytes c =
    let p = err_from_is_err_and c.from_residual-in_err-bytes.result c.from_residual-in_err-bytes.ensures.1 in
    rw (p.1, p.2) (no_key c.loop.state _ c.loop.left (c.args.count - c.loop.counter) c.loop.rest c.in_err-bytes.field-0.0 _ c.loop.invariant c.in_err-bytes.ensures (omega arith))

pub returns-in_err-value : goal.returns-in_err-value
returns-in_err-value c =
    let p = err_from_is_err_and c.from_residual-in_err-value.result c.from_residual-in_err-value.ensures.1 in
    rw (p.1, p.2) (no_value c.loop.state _ c.loop.left (c.args.count - c.loop.counter) c.loop.rest c.in_ok-bytes.bytes.now c.in_ok-bytes.next c.in_err-value.field-0.0 _ c.loop.invariant c.in_ok-bytes.ensures c.in_err-value.ensures (omega arith))

pub returns-in_default : goal.returns-in_default
returns-in_default c = absurd (omega (arith, short_key _ c.loop.rest c.in_ok-bytes.bytes.now c.in_ok-bytes.next c.in_ok-bytes.ensures, c.in_default.ensures.none))

pub loop-preserved : goal.loop-preserved
loop-preserved c =
    goes_on c.loop.state _ _ c.loop.left _ (c.args.count - c.loop.counter) (c.args.count - (c.loop.counter + 1)) c.loop.rest c.in_ok-bytes.bytes.now c.in_ok-bytes.next c.in_ok-value.value c.in_ok-value.next _ c.loop.invariant
    c.in_ok-bytes.ensures c.in_ok-value.ensures (c.in_ok-insert.ensures.set ∙ ap (λ key. with_entry c.loop.state key c.in_ok-value.value) c.in-Some.ensures.key) c.without-left.ensures (omega arith)
