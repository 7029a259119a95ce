use Rattle.std.proofs.Common.{◌∙◌, ◌∷◌, [], length, arith}
use Rattle.std.proofs.lemmas.List.{length-append, take-append-le}
use Rattle.mv_parts.proofs.Seals.{entries_further}
use Rattle.mv_parts.proofs.sealing.entries_from.Goals as goal

pub loop-index-preserved : goal.loop-index-preserved
loop-index-preserved c =
    let xs = c.loop-index.made.items in
    let first = c.args.first.items in
    let pushed = c.in_ok-push.ensures.items in
    record {
      made = rw pushed (entries_further c.args.calls.now c.args.entries.now c.loop-index.index xs c.index-entries-index.result _ c.loop-index-test.true c.index-entries-index.is c.loop-index.invariant.made c.in_ok-entry_of.ensures);
      first = rw pushed (take-append-le (length first) xs _ c.loop-index.invariant.few ∙ c.loop-index.invariant.first);
      few = rw pushed (omega (arith, c.loop-index.invariant.few, length-append xs (c.in_ok-entry_of.field-0 ∷ [])));
    }
