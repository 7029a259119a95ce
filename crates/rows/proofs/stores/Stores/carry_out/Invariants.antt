use Rattle.rows.proofs.stores.Stores.carry_out.Given as goal

abbrev pub ghosts-plain : goal.ghosts-plain
ghosts-plain g a = record { name = a.blank.name; parts = a.blank.parts }
