use Rattle.direct_tests.proofs.runs.a_run_knows_what_it_wrote.Given as goal

abbrev pub ghosts-knows_its_write : goal.ghosts-knows_its_write
ghosts-knows_its_write g a = record { name = a.blank.name; parts = a.blank.parts }
