use Rattle.server_trials.proofs.world.serve_link.Given as goal

-- the mesh is made with the nodes that are handed over
abbrev pub ghosts-serve_over : goal.ghosts-serve_over
ghosts-serve_over g a = record { nodes = a.nodes }
