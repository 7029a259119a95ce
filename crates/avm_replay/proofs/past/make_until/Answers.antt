use Rattle.std.proofs.Common.{◌∙◌, ap, sym, arith}
use Rattle.avm_call.specs.Replay.{replayed}
use Rattle.avm_block.specs.Blocks.{calls_in}
use Rattle.avm_replay.proofs.Entries.{none_further, one_further}
use Rattle.avm_replay.proofs.past.make_until.Goals as goal

pub returns-then-entry-timestamp : goal.returns-then-entry-timestamp
returns-then-entry-timestamp g c =
    let none = none_further c.args.timestamp c.loop-entry.invariant.before c.args.entries.now c.loop-entry.entry-index c.entry-item.result c.loop-entry-test.true c.entry-item.is
    c.loop-entry.invariant.rises c.if-entry-timestamp.true in
    sym (ap (λ es. replayed c.loop-entry.ledger c.args.context.now.header.now (calls_in es)) none) ∙ c.loop-entry.invariant.rest

pub loop-entry-preserved : goal.loop-entry-preserved
loop-entry-preserved g c =
    let one = one_further c.args.timestamp c.loop-entry.invariant.before c.args.entries.now c.loop-entry.entry-index c.entry-item.result c.loop-entry-test.true c.entry-item.is
    c.loop-entry.invariant.rises (omega (arith, c.if-entry-timestamp.false)) in
    record {
      before = c.entry-item.result.timestamp;
      rises = one.1;
      rest = rw c.in_ok-call_on.ensures.after (sym (ap (λ es. replayed c.loop-entry.ledger c.args.context.now.header.now (calls_in es)) one.0) ∙ c.loop-entry.invariant.rest);
    }
