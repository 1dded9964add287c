use Rattle.version_vectors.specs.Ranks.{rank_of}
use Rattle.tree_trials.proofs.NewRecords.{first_goes_last}
use Rattle.tree_trials.proofs.engine.taking.are_behind.Goals as goal

pub returns : goal.returns
returns c = λ last. first_goes_last c.args.held.now c.args.more.now c.in-Some.record.now c.merge_place.result (rank_of c.rank.result) c.requires.held c.requires.more c.in-Some.ensures.value c.rank.ensures c.merge_place.ensures.place last
