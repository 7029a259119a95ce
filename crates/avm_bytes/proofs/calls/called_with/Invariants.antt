use Rattle.avm_bytes.proofs.calls.called_with.Given as goal

abbrev pub ghosts-called_on : goal.ghosts-called_on
ghosts-called_on g a = record { name = a.blank.name; parts = a.blank.parts }
