use Rattle.direct_tests.proofs.runs.a_run_asks_once.Given as goal

abbrev pub ghosts-asks_once : goal.ghosts-asks_once
ghosts-asks_once g a = record { name = a.blank.name; parts = a.blank.parts }
