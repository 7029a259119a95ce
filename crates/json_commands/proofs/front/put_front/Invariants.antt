use Rattle.json_commands.proofs.front.put_front.Given as goal

abbrev pub ghosts-calls_made : goal.ghosts-calls_made
ghosts-calls_made g a = record { name = a.blank.name; parts = a.blank.parts }
