use Rattle.std.proofs.Common.{sym, ◌∙◌}
use Rattle.std.proofs.lemmas.List.{nil_from_length}
use Rattle.fs_tree.proofs.Numbered.{none_numbered, one_numbered, all_numbered}
use Rattle.fs_tree.proofs.contents.Contents.numbers.Goals as goal

pub inodes-init : goal.inodes-init
inodes-init c = none_numbered c.args.self.now c.in_ok-numbers.numbers.items c.into_iter-ino-iterator.result.rest.items c.in_ok-inodes.inodes.items c.in_ok-numbers.ensures.items c.into_iter-ino-iterator.ensures.into_iter_gives.0 _ c.in_ok-inodes.ensures c.self.view_is

pub inodes-preserved : goal.inodes-preserved
inodes-preserved c = one_numbered c.args.self.now c.inodes.numbers.items c.push.new.self.items c.inodes.ino-iterator.rest.items c.next.new.self.rest.items c.in-Some.ino c.in-Some.field-0-1 c.inodes.invariant c.in-Some.ensures.steps.0 c.in_ok-push.ensures.items

pub returns : goal.returns
returns c = all_numbered c.args.self.now c.inodes.numbers.items c.inodes.ino-iterator.rest.items c.inodes.invariant (nil_from_length _ (sym c.inodes.ino-iterator.rest.ok.0 ∙ c.in-None.ensures.steps.0))
