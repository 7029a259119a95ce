use Rattle.avm_replay.proofs.past.state_at_owned.Given as goal

abbrev pub ghosts-make_until : goal.ghosts-make_until
ghosts-make_until g a = record { name = a.blank.name; parts = a.blank.parts }
