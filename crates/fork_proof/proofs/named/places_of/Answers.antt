use Rattle.std.proofs.Common.{◌≡◌, List, ℕ, ap, ◌∙◌}
use Rattle.std.specs.Map.{lookup}
use Rattle.ivy_base.specs.declared.key.Key.{Key}
use Rattle.ivy_base.specs.Naming.{name}
use Rattle.tree_model.specs.Tree.{same_key}
use Rattle.fork_proof.specs.Places.{had_first}
use Rattle.fork_proof.proofs.PlaceLemmas.{placed_next}
use Rattle.fork_proof.proofs.named.places_of.Goals as goal

pub blocks-2-preserved : goal.blocks-2-preserved
blocks-2-preserved c =
    placed_next c.args.blocks.now c.blocks-2.place c.index-blocks-place.result c.blocks-2.places.entries c.note.new.places.entries c.blocks-2-test.true c.blocks-2.invariant
    (λ k. c.in_ok-note.ensures k ∙ ap (λ (n : Key). had_first (lookup (same_key k) c.blocks-2.places.entries) (same_key n k) c.blocks-2.place) (c.name_of.ensures ∙ ap name (c.as_slice.ensures ∙ c.index-blocks-place.is)))
