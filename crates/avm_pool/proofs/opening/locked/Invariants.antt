use Rattle.mv_parts.specs.Journals.{first_journal}
use Rattle.mv_parts.specs.Agreeing.{AllAgree}
use Rattle.avm_pool.proofs.opening.locked.Given as goal

-- the shards that are left agree with the journal of which no call has begun
abbrev pub invariant-loop : goal.invariant-loop
invariant-loop g l = AllAgree (first_journal g.J.Naming.base g.J.Naming.header g.J.Naming.calls) l.held
