use Rattle.script_world.proofs.parts.Parts.run_out.Given as goal

abbrev pub ghosts-count_all_steps : goal.ghosts-count_all_steps
ghosts-count_all_steps a = record { name = a.blank.name; parts = a.blank.parts }
