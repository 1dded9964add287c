use Rattle.std.proofs.Common.{List, ℕ, take}
use Rattle.world_model.specs.Steps.{met_by}
use Rattle.session_steps.specs.MetState.{AreMet}
use Rattle.session_steps.proofs.met.MetBlocks.meet_all.Given as goal

abbrev pub invariant-posts : goal.invariant-posts
invariant-posts l = (met : List (List ℕ)) → AreMet met l.initial.self → AreMet (met_by met (take l.post-index l.posts)) l.self
