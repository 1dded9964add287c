use Rattle.std.proofs.Common.{refl}
use Rattle.snapshot_store.proofs.Waiting.{item_waits, list_waits, upper_waits}
use Rattle.snapshot_store.proofs.levels.Levels.push.Goals as goal

pub returns-in_default : goal.returns-in_default
returns-in_default c before between items one over put named =
    item_waits before between c.args.blocks.now items one c.args.item c.args.self.now over put named c.append.new.blocks _ (rw c.in_default.is at c.in_ok-first.ensures) refl refl

pub returns-in_default-2 : goal.returns-in_default-2
returns-in_default-2 c before between items one over put named =
    list_waits before between c.args.blocks.now items one c.args.item c.args.self.now over put named _ c.in-Some.first c.append.new.blocks (rw c.in-Some.is at c.in_ok-first.ensures) c.append-2.new.blocks (rw c.in_default-2.is at c.in_ok-second.ensures) refl

pub returns : goal.returns
returns c before between items one over put named =
    upper_waits before between c.args.blocks.now items one c.args.item c.args.self.now over put named _ c.in-Some.first c.append.new.blocks (rw c.in-Some.is at c.in_ok-first.ensures) c.append-2.new.blocks c.in-Some-2.second (rw c.in-Some-2.is at c.in_ok-second.ensures) c.in_ok-push.ensures.items
