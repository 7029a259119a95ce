use Rattle.json_views.proofs.trace.put_block_trace.Given as goal

abbrev pub ghosts-put_response : goal.ghosts-put_response
ghosts-put_response g a = record { name = a.blank.name; parts = a.blank.parts }
