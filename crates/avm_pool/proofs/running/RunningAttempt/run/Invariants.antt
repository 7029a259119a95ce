use Rattle.avm_pool.proofs.running.RunningAttempt.run.Given as goal

abbrev pub ghosts-run_call : goal.ghosts-run_call
ghosts-run_call g a = record { name = a.blank.name; parts = a.blank.parts }
