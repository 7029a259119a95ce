use Rattle.rows.proofs.journals.run.Given as goal

abbrev pub ghosts-finished : goal.ghosts-finished
ghosts-finished g a = record { name = a.blank.name; parts = a.blank.parts }
