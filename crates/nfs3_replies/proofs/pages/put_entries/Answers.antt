use Rattle.nfs_model.specs.Results.{listed_entry}
use Rattle.nfs3_replies.specs.Room.{entry_room}
use Rattle.nfs3_replies.proofs.Entries.{pieces_more, room_more}
use Rattle.nfs3_replies.proofs.pages.put_entries.Goals as goal

pub loop-entry-preserved : goal.loop-entry-preserved
loop-entry-preserved c =
    let entries = c.args.entries.now in
    let i = c.loop-entry.entry-index in
    let entry = c.entry-item.result in
    let inside = c.loop-entry-test.true in
    record {
      written =
          pieces_more entries i entry inside c.entry-item.is listed_entry c.args.out.now.written c.loop-entry.invariant.written c.put_entry.ensures.written;
      spare = room_more entries i entry inside c.entry-item.is entry_room c.loop-entry.out.spare c.put_entry.new.out.spare c.loop-entry.invariant.spare c.put_entry.ensures.spare;
    }
