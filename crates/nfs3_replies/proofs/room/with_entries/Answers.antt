use Rattle.std.proofs.Common.{◌≡◌, ℕ, ◌+◌, ap, ◌∙◌}
use Rattle.nfs3_replies.specs.Room.{listed_room}
use Rattle.nfs3_replies.specs.Writable.{IsWritableListed}
use Rattle.nfs3_replies.proofs.Entries.{sum_more, all_more}
use Rattle.nfs3_replies.proofs.room.with_entries.Goals as goal

pub loop-entry-preserved : goal.loop-entry-preserved
loop-entry-preserved c =
    let entries = c.args.entries.now in
    let i = c.loop-entry.entry-index in
    let entry = c.entry-item.result in
    let inside = c.loop-entry-test.true in
    let room = c.in_ok-room_of_entry.ensures in
    let sum : c.in_ok-sum.sum ≡ c.loop-entry.sum + listed_room c.args.plus entry = c.in_ok-sum.ensures.1 ∙ ap (λ (n : ℕ). c.loop-entry.sum + n) room.some in
    record {
      sum = sum_more entries i entry inside c.entry-item.is (listed_room c.args.plus) 240 c.loop-entry.sum c.in_ok-sum.sum c.loop-entry.invariant.sum sum;
      counted = all_more entries i entry inside c.entry-item.is (IsWritableListed c.args.plus) c.loop-entry.invariant.counted room.counted;
    }
