use Rattle.std.proofs.Common.{rules, sym, ◌∙◌}
use Rattle.snapshot_store.proofs.Rests.{closes_rest}
use Rattle.snapshot_store.proofs.levels.close_rest.Goals as goal

pub returns : goal.returns
returns c = let some = sym c.is_empty.ensures ∙ c.if-is_empty.false in
    closes_rest c.args.level c.args.names.now.items c.args.above.now.items c.push.new.self.items c.args.blocks.now c.close.new.blocks _ (search rules) c.in_ok-close.ensures.closed c.in_ok-push.ensures.items
