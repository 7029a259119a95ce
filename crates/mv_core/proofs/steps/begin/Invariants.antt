use Rattle.mv_core.proofs.steps.begin.Given as goal

abbrev pub ghosts-advance : goal.ghosts-advance
ghosts-advance g a = record { name = a.blank.name; parts = a.blank.parts }
