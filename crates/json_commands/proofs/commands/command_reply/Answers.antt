use Rattle.json_commands.proofs.commands.command_reply.Goals as goal

pub returns-in-Lines : goal.returns-in-Lines
returns-in-Lines g c = rw c.in-Lines.is (rw c.as_slice.ensures.value at c.lines_reply.ensures)

pub returns-in-Page : goal.returns-in-Page
returns-in-Page g c = rw c.in-Page.is c.page_reply.ensures
