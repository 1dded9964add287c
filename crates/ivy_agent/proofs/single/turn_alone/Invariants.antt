use Rattle.ivy_agent.proofs.single.turn_alone.Given as goal

abbrev pub ghosts-turn_in : goal.ghosts-turn_in
ghosts-turn_in g a = record { name = a.blank.name; parts = a.blank.parts }
