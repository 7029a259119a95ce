use Rattle.std.proofs.Common.{◌+◌, ◌-◌, arith}
use Rattle.std.proofs.lemmas.Result.{err_from_is_err_and}
use Rattle.teal_code.specs.Reader.{varuint_at}
use Rattle.teal_code.proofs.ManyReading.{begins, goes_on, stops, is_done}
use Rattle.teal_code.proofs.decode.uints_of.Goals as goal

pub loop-init : goal.loop-init
loop-init c = begins varuint_at _ _ _ _ c.new-numbers.ensures.items (omega arith)

pub loop-preserved : goal.loop-preserved
loop-preserved c = goes_on varuint_at c.loop.numbers.items _ (c.args.count - c.loop.counter) (c.args.count - (c.loop.counter + 1)) c.loop.rest.now _ _ _ c.loop.invariant c.in_ok-number.ensures c.in_ok-push.ensures.items (omega arith)

pub returns-in_err-number : goal.returns-in_err-number
returns-in_err-number c =
    let p = err_from_is_err_and c.from_residual.result c.from_residual.ensures.1 in
    rw (p.1, p.2) (stops varuint_at _ (c.args.count - c.loop.counter) c.loop.rest.now c.in_err-number.field-0.0 _ c.loop.invariant c.in_err-number.ensures (omega arith))

pub returns : goal.returns
returns c = is_done varuint_at _ (c.args.count - c.loop.counter) _ _ c.loop.invariant (omega arith)
