use Rattle.std.proofs.Common.{◌+◌, ◌-◌, arith}
use Rattle.std.proofs.lemmas.Result.{err_from_is_err_and}
use Rattle.teal_code.specs.Reader.{string_at}
use Rattle.teal_code.proofs.ManyReading.{begins, goes_on, stops, is_done}
use Rattle.teal_code.proofs.decode.strings_of.Goals as goal

pub loop-init : goal.loop-init
loop-init c = begins string_at _ _ _ _ c.new-strings.ensures.items (omega arith)

pub loop-preserved : goal.loop-preserved
loop-preserved c = goes_on string_at c.loop.strings.items _ (c.args.count - c.loop.counter) (c.args.count - (c.loop.counter + 1)) c.loop.rest.now _ _ _ c.loop.invariant c.in_ok-string.ensures c.in_ok-push.ensures.items (omega arith)

pub returns-in_err-string : goal.returns-in_err-string
returns-in_err-string c =
    let p = err_from_is_err_and c.from_residual.result c.from_residual.ensures.1 in
    rw (p.1, p.2) (stops string_at _ (c.args.count - c.loop.counter) c.loop.rest.now c.in_err-string.field-0.0 _ c.loop.invariant c.in_err-string.ensures (omega arith))

pub returns : goal.returns
returns c = is_done string_at _ (c.args.count - c.loop.counter) _ _ c.loop.invariant (omega arith)
