use Rattle.json_commands.proofs.traces.put_traces.Goals as goal

pub returns-in-All-clause-written : goal.returns-in-All-clause-written
returns-in-All-clause-written g c = rw c.in-All.is c.put_all.ensures.written

pub returns-in-All-clause-refused : goal.returns-in-All-clause-refused
returns-in-All-clause-refused g c = rw c.in-All.is c.put_all.ensures.refused

pub returns-in-LeftOut-clause-written : goal.returns-in-LeftOut-clause-written
returns-in-LeftOut-clause-written g c = rw c.in-LeftOut.is c.put_none.ensures.written

pub returns-in-LeftOut-clause-refused : goal.returns-in-LeftOut-clause-refused
returns-in-LeftOut-clause-refused g c = rw c.in-LeftOut.is c.put_none.ensures.refused

pub returns-in-Entry-clause-written : goal.returns-in-Entry-clause-written
returns-in-Entry-clause-written g c = rw c.in-Entry.is c.put_one.ensures.written

pub returns-in-Entry-clause-refused : goal.returns-in-Entry-clause-refused
returns-in-Entry-clause-refused g c = rw c.in-Entry.is c.put_one.ensures.refused
