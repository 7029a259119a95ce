use Rattle.json_commands.proofs.traces.put_one.Goals as goal

pub returns-clause-written : goal.returns-clause-written
returns-clause-written g c = rw c.block.ensures at c.put_entry_trace.ensures.written

pub returns-clause-refused : goal.returns-clause-refused
returns-clause-refused g c = rw c.block.ensures at c.put_entry_trace.ensures.refused
