use Rattle.json_views.proofs.run.run_text.Given as goal

abbrev pub ghosts-ledger_after_calls : goal.ghosts-ledger_after_calls
ghosts-ledger_after_calls g a = record { name = a.blank.name; parts = a.blank.parts }

abbrev pub ghosts-put_response : goal.ghosts-put_response
ghosts-put_response g a = record { name = a.blank.name; parts = a.blank.parts }
