use Rattle.ivy_base.specs.Naming.{name}
use Rattle.dhash_model.specs.Stores.{content, full}
use Rattle.node_store.proofs.Puts.{named_so, rightly_named}
use Rattle.node_store.proofs.store.Store.put_known.Goals as goal

pub returns-then-is_named-clause-told : goal.returns-then-is_named-clause-told
returns-then-is_named-clause-told c = rightly_named _ (full c.args.key.now (content c.args.bytes.now) c.args.self.now) c.hold.result (named_so c.args.key.now (name c.args.bytes.now) (c.requires c.if-is_named.true)) c.hold.ensures.told
