use Rattle.avm_attempt.proofs.over_known.attempt.Given as goal

abbrev pub ghosts-attempt_over : goal.ghosts-attempt_over
ghosts-attempt_over g a = record { name = a.blank.name; parts = a.blank.parts }
