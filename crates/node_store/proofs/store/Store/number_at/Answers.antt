use Rattle.std.proofs.Common.{option_and_then, sym, ap, ◌∙◌}
use Rattle.dhash_model.specs.Stores.{number_of}
use Rattle.node_store.proofs.Maps.{find-lookup}
use Rattle.node_store.proofs.store.Store.number_at.Goals as goal

pub returns-in_err-get : goal.returns-in_err-get
returns-in_err-get g c = rw (c.from_residual.ensures, ← c.self.view_is) (ap (option_and_then (number_of (g.J.Judge.judges c.args.judge.now c.args.key.now))) (c.in_err-get.ensures.value ∙ sym (find-lookup c.args.key.now _)))

pub returns : goal.returns
returns g c = rw (c.number.ensures, ← c.self.view_is) (ap (option_and_then (number_of (g.J.Judge.judges c.args.judge.now c.args.key.now))) (c.in_ok-get.ensures.value ∙ sym (find-lookup c.args.key.now _)))
