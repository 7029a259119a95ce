use Rattle.rows.proofs.ledgers.called.Given as goal

abbrev pub ghosts-outcome_text : goal.ghosts-outcome_text
ghosts-outcome_text g a = record { name = a.blank.name; parts = a.blank.parts }
