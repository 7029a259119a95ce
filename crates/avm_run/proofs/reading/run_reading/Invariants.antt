use Rattle.std.proofs.Common.{◌≡◌, ◌-◌, length}
use Rattle.avm_call.specs.Ends.{most_items}
use Rattle.avm_run.specs.Progress.{reads_of}
use Rattle.avm_run.proofs.ItemByItem.{UnderWay}
use Rattle.avm_run.proofs.reading.run_reading.Given as goal

abbrev pub invariant-loop-asking : goal.invariant-loop-asking
invariant-loop-asking g l = record {
  under_way : UnderWay l.call l.context.header.now l.phase l.fn.executions l.executions;
  kept : g.R.Reader.kept l.reader ≡ g.R.Reader.kept l.fn.reader;
}

abbrev pub decreases-loop-asking : goal.decreases-loop-asking
decreases-loop-asking g l = most_items - length (reads_of l.phase)
