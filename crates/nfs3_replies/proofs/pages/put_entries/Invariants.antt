use Rattle.std.proofs.Common.{◌≡◌, ◌+◌, ◌≤◌, ◌++◌, take}
use Rattle.std.specs.List.{flat_map, sum_by}
use Rattle.nfs_model.specs.Results.{listed_entry}
use Rattle.nfs3_replies.specs.Room.{entry_room}
use Rattle.nfs3_replies.proofs.pages.put_entries.Given as goal

abbrev pub invariant-loop-entry : goal.invariant-loop-entry
invariant-loop-entry l = record {
  written : l.out.written ≡ l.initial.out.written ++ flat_map listed_entry (take l.entry-index l.entries);
  spare : l.initial.out.spare ≤ l.out.spare + sum_by entry_room (take l.entry-index l.entries);
}
