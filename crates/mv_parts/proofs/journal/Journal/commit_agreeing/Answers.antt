use Rattle.mv_parts.proofs.journal.Journal.commit_agreeing.Goals as goal

pub returns-in-Some-clause-refused : goal.returns-in-Some-clause-refused
returns-in-Some-clause-refused c = c.in-Some.ensures.some c.args.held.now
