use Rattle.std.proofs.Common.{IsTrue, arith}
use Rattle.avm_pool.proofs.logged_journal.LoggedJournal.commit.Goals as goal

pub commit_current-requires : goal.commit_current-requires
commit_current-requires g c =
    let yes : IsTrue c.agrees.result = search c.if-agrees.true in
    (omega arith, (c.requires.covers, (c.requires.own, c.agrees.ensures.agree yes)))
