use Rattle.std.proofs.Common.{arith, ap, length}
use Rattle.mv_parts.proofs.EntryIndexes.{count_within}
use Rattle.mv_parts.proofs.journal.Journal.settled.Goals as goal

pub returns-clause-few : goal.returns-clause-few
returns-clause-few c =
    let n = count_within c.low_after.result c.deref.result.now in
    let same = ap length c.deref.ensures.value in
    rw (← c.self.view_is) (omega (arith, n, same, c.index_of.ensures))
