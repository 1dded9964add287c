use Rattle.std.proofs.Common.{not, ap, ◌∙◌}
use Rattle.ivy_base.specs.Naming.{name}
use Rattle.dhash_model.specs.Stores.{content, full}
use Rattle.node_store.proofs.Puts.{compared, rightly_named, wrongly_named}
use Rattle.node_store.proofs.store.Store.put_block.Goals as goal

pub returns-then-ne-clause-told : goal.returns-then-ne-clause-told
returns-then-ne-clause-told c = wrongly_named _ (full c.args.key.now (content c.args.bytes.now) c.args.self.now) (compared c.args.key.now c.name_of.result (name c.args.bytes.now) c.ne.result c.ne.ensures c.name_of.ensures ∙ ap not c.if-ne.true)

pub returns-clause-told : goal.returns-clause-told
returns-clause-told c = rightly_named _ (full c.args.key.now (content c.args.bytes.now) c.args.self.now) c.hold.result (compared c.args.key.now c.name_of.result (name c.args.bytes.now) c.ne.result c.ne.ensures c.name_of.ensures ∙ ap not c.if-ne.false) c.hold.ensures.told
