use Rattle.version_vectors.specs.Entries.{vector_of}
use Rattle.version_vectors.proofs.Whole.{taken_more, still_whole}
use Rattle.version_vectors.proofs.place.take_all_in.Goals as goal

pub others-preserved : goal.others-preserved
others-preserved c =
    let others = c.args.others.now in
    let i = c.others.other-index in
    let now = vector_of c.take_in.new.entries.items in
    let before = vector_of c.others.entries.items in
    record {
      so_far = taken_more others i _ c.others-test.true (vector_of c.args.entries.now.items) before now c.others.invariant.so_far c.in_ok-take_in.ensures.ok;
      whole = still_whole others i _ c.others-test.true before now c.others.invariant.whole c.requires.others c.in_ok-take_in.ensures.ok;
    }
