use Rattle.std.proofs.Common.{rules}
use Rattle.std.proofs.lemmas.List.Sorted.{answers_always}
use Rattle.version_vectors.proofs.Places.{searched}
use Rattle.version_vectors.proofs.place.place_of.Goals as goal

pub returns : goal.returns
returns c =
    let facts = c.binary_search_by_key.ensures in
    let by_key = facts.position (λ e. e.log) (answers_always _ _ _ (λ f a r g called. search rules)) in
    searched c.args.entries.now c.args.log.now c.binary_search_by_key.result c.requires facts.bound by_key
