use Rattle.teal_asm.proofs.lines.add_statements.Goals as goal

pub returns-in-Ok-clause-adds : goal.returns-in-Ok-clause-adds
returns-in-Ok-clause-adds c = rw c.text.ensures at c.in-Ok.ensures.leaves

pub returns-in-Err-clause-adds : goal.returns-in-Err-clause-adds
returns-in-Err-clause-adds c = (c.in-Err.error, rw c.text.ensures at c.in-Err.ensures.leaves, c.later_fault.ensures)
