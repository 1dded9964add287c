use Rattle.snapshot_model.specs.Reading.{part_below}
use Rattle.snapshot_blocks.specs.Parsed.{keys_of}
use Rattle.snapshot_loading.specs.Roles.{item_part}
use Rattle.snapshot_loading.proofs.NamesInLists.{parts_are}
use Rattle.snapshot_loading.proofs.names.in_list.Goals as goal

pub returns-in-Some-clause-ok : goal.returns-in-Some-clause-ok
returns-in-Some-clause-ok c =
    (keys_of c.in-Some.keys.now, c.in-Some.ensures.some, parts_are c.below.result (part_below c.args.level (item_part c.args.item)) c.below.ensures c.in-Some.keys.now)
