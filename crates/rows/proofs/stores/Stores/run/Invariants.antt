use Rattle.rows.proofs.stores.Stores.run.Given as goal

abbrev pub ghosts-finished : goal.ghosts-finished
ghosts-finished g a = record { name = a.blank.name; parts = a.blank.parts }
