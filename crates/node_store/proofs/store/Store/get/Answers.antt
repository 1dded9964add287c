use Rattle.std.proofs.Common.{option_map, sym, ap, ◌∙◌}
use Rattle.dhash_model.specs.Stores.{Block}
use Rattle.node_store.proofs.Maps.{find-lookup}
use Rattle.node_store.proofs.store.Store.get.Goals as goal

pub returns-in_err-block : goal.returns-in_err-block
returns-in_err-block c = rw (c.from_residual.ensures, ← c.self.view_is) (ap (option_map (λ (b : Block). b.bytes)) (c.in_err-block.ensures.value ∙ sym (find-lookup c.args.key.now _)))

pub returns : goal.returns
returns c = rw (c.as_slice.ensures, ← c.self.view_is) (ap (option_map (λ (b : Block). b.bytes)) (c.in_ok-block.ensures.value ∙ sym (find-lookup c.args.key.now _)))
