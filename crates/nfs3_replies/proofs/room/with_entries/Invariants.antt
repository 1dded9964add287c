use Rattle.std.proofs.Common.{◌≡◌, ◌+◌, take}
use Rattle.std.specs.List.{All, sum_by}
use Rattle.nfs3_replies.specs.Room.{listed_room}
use Rattle.nfs3_replies.specs.Writable.{IsWritableListed}
use Rattle.nfs3_replies.proofs.room.with_entries.Given as goal

abbrev pub invariant-loop-entry : goal.invariant-loop-entry
invariant-loop-entry l = record {
  sum : l.sum ≡ 240 + sum_by (listed_room l.plus) (take l.entry-index l.entries);
  counted : All (IsWritableListed l.plus) (take l.entry-index l.entries);
}
