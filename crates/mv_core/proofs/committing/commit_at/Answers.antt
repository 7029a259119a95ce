use Rattle.std.proofs.Common.{◌≡◌, None, Some, get_or, set, ap, subst, sym}
use Rattle.mv_core.specs.Commits.{IsRefusedFor}
use Rattle.mv_core.proofs.CommitCalls.{put_back, stood}
use Rattle.mv_core.proofs.committing.commit_at.Goals as goal
use Rattle.mv_core.proofs.committing.commit_at.Goals.{In-Some}

found : (c : In-Some) → get_or c.args.attempts.now.items c.args.index None ≡ Some c.in-Some.attempt
found c = stood c.args.attempts.now.items c.args.index c.take.result c.index_mut.result.now c.in-Some.attempt c.take.ensures.value c.index_mut.ensures.value c.in-Some.is c.requires.there

pub returns-in-Ok-clause-ok : goal.returns-in-Ok-clause-ok
returns-in-Ok-clause-ok c = record {
  attempt = c.in-Some.attempt;
  found = found (goal.at.returns-in-Ok-clause-ok c).In-Some;
  time = c.in-Ok.ensures.committed.0;
  may = c.in-Ok.ensures.committed.1;
  committed = c.in-Ok.ensures.committed.2;
  others = ap (λ o. set c.args.attempts.now.items c.args.index o) c.take.ensures.after;
}

pub returns-in-Err-clause-refused : goal.returns-in-Err-clause-refused
returns-in-Err-clause-refused c =
    subst (λ o. IsRefusedFor c.args.journal.now c.args.held.now o c.args.finished c.in-Err.refused.error) (sym (found (goal.at.returns-in-Err-clause-refused c).In-Some)) c.in-Err.ensures.refused

pub returns-in-Err-clause-unchanged : goal.returns-in-Err-clause-unchanged
returns-in-Err-clause-unchanged c = (
  c.in-Err.ensures.unchanged.0,
  c.in-Err.ensures.unchanged.1,
  put_back c.args.attempts.now.items c.args.index c.take.result c.take.new.self c.index_mut.result.now c.in-Some.attempt c.in-Err.refused.attempt c.take.ensures.value c.index_mut.ensures.value c.in-Some.is c.in-Err.ensures.back.0,
)
