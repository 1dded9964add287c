use Rattle.std.proofs.Common.{◌≡◌, refl, sym, ◌∙◌}
use Rattle.std.specs.Map.{lookup}
use Rattle.ivy_base.specs.declared.key.Key.{Key}
use Rattle.tree_model.specs.Tree.{same_key}
use Rattle.fork_proof.proofs.PlaceLemmas.{noted_new, noted_old}
use Rattle.fork_proof.proofs.named.note.Goals as goal

pub returns-in_ok-insert : goal.returns-in_ok-insert
returns-in_ok-insert c = λ k.
    c.in_ok-insert.ensures.updates.0 k
    ∙ noted_new (λ (q : Key). lookup (same_key q) c.args.places.now.entries) c.args.name k c.args.place (same_key c.args.name k) refl (sym c.contains_key.ensures ∙ c.if-not-contains_key.true)

pub returns-else-not-contains_key : goal.returns-else-not-contains_key
returns-else-not-contains_key c = λ k.
    noted_old (λ (q : Key). lookup (same_key q) c.args.places.now.entries) c.args.name k c.args.place (same_key c.args.name k) refl (sym c.contains_key.ensures ∙ c.if-not-contains_key.false)
