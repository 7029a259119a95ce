use Rattle.avm_replay.proofs.plain.plain_block.Given as goal

abbrev pub ghosts-entries_of : goal.ghosts-entries_of
ghosts-entries_of g a = record { name = a.blank.name; parts = a.blank.parts }
