use Rattle.rows.proofs.blocks.steps.Given as goal

abbrev pub ghosts-turned : goal.ghosts-turned
ghosts-turned g a = record { name = a.blank.name; parts = a.blank.parts }
