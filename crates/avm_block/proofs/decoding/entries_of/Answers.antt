use Rattle.std.proofs.Common.{◌+◌, ◌-◌, arith}
use Rattle.std.proofs.lemmas.Result.{err_from_is_err_and}
use Rattle.avm_block.specs.AcceptedCalls.{is_accepted}
use Rattle.avm_block.proofs.EntriesReading.{goes_on, no_more}
use Rattle.avm_block.proofs.decoding.entries_of.Goals as goal

pub returns-in_err-entry : goal.returns-in_err-entry
returns-in_err-entry c =
    let p = err_from_is_err_and c.from_residual-in_err-entry.result c.from_residual-in_err-entry.ensures.1 in
    rw (p.1, p.2) (no_more (is_accepted c.args.profile) c.loop.entries.items c.loop.before (c.args.count - c.loop.counter) c.loop.rest c.in_err-entry.field-0.0 _ c.loop.invariant c.in_err-entry.ensures (omega arith))

pub loop-preserved : goal.loop-preserved
loop-preserved c =
    goes_on (is_accepted c.args.profile) c.loop.entries.items _ c.loop.before (c.args.count - c.loop.counter) (c.args.count - (c.loop.counter + 1)) c.loop.rest _ c.in_ok-entry.entry _ c.loop.invariant c.in_ok-entry.ensures c.in_ok-push.ensures.items (omega arith)
