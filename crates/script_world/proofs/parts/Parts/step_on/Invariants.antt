use Rattle.script_world.proofs.parts.Parts.step_on.Given as goal

abbrev pub ghosts-count_steps : goal.ghosts-count_steps
ghosts-count_steps a = record { name = a.blank.name; parts = a.blank.parts }
