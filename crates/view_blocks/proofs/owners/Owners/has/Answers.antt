use Rattle.std.proofs.Common.{◌∙◌, ap}
use Rattle.ivy_base.specs.declared.key.PubKey.{PubKey}
use Rattle.std.proofs.Common.{List}
use Rattle.log_model.specs.View.{is_log_of}
use Rattle.view_blocks.proofs.Heads.{log_of_heads}
use Rattle.view_blocks.proofs.owners.Owners.has.Goals as goal

pub returns : goal.returns
returns c =
    let log = c.args.log.now in
    c.contains.ensures.value
    ∙ log_of_heads log c.deref.result.now c.self.inside.keys.items (c.deref.ensures.value ∙ c.self.invariant.heads_are)
    ∙ ap (λ (keys : List PubKey). is_log_of keys log) c.self.view_is
