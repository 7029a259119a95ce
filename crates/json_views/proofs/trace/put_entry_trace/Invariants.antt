use Rattle.json_views.proofs.trace.put_entry_trace.Given as goal

abbrev pub ghosts-put_opened_trace : goal.ghosts-put_opened_trace
ghosts-put_opened_trace g a = record { name = a.blank.name; parts = a.blank.parts }
