use Rattle.std.proofs.Common.{map, ap, ◌∙◌, arith}
use Rattle.std.specs.Slice.Iter.{chunks_rest, chunks_size}
use Rattle.snapshot_model.specs.Spelling.{in_pieces, entries_made}
use Rattle.snapshot_model.specs.Blocks.{most_entries}
use Rattle.snapshot_store.proofs.Listings.{none_done, one_done, all_done, chunk_cut, none_left}
use Rattle.snapshot_store.proofs.items.put_entries.Goals as goal

pub entries-init : goal.entries-init
entries-init c = record {
  listed =
      rw (c.into_iter-some-iterator.ensures.into_iter_gives, c.chunks-some-items.ensures.rest)
      (none_done most_entries entries_made c.args.blocks.now c.args.entries.now c.new-levels.result (c.new-levels.ensures c.args.blocks.now));
  size = ap chunks_size c.into_iter-some-iterator.ensures.into_iter_gives ∙ c.chunks-some-items.ensures.size;
}

pub entries-preserved : goal.entries-preserved
entries-preserved c =
    let steps = c.in-Some.ensures.steps in
    let listing = c.entries.invariant.listed in
    record {
      listed =
          one_done most_entries entries_made c.args.blocks.now c.args.entries.now (chunks_rest c.entries.some-iterator) (chunks_rest c.next.new.self) c.in-Some.some.now c.entries.blocks c.push.new.blocks c.entries.levels c.push.new.self listing
          (chunk_cut most_entries (chunks_rest c.entries.some-iterator) c.in-Some.some.now (chunks_rest c.next.new.self) (omega arith) steps.1.0 (rw c.entries.invariant.size at steps.1.1) steps.1.2)
          (c.in_ok-push.ensures c.args.blocks.now c.entries.blocks (map entries_made listing.done) (entries_made c.in-Some.some.now) listing.over
          (rw c.in_ok-block_of.ensures at c.in_ok-name.ensures.blocks) (rw c.in_ok-block_of.ensures at c.in_ok-name.ensures.named));
      size = steps.0 ∙ c.entries.invariant.size;
    }

pub returns : goal.returns
returns c =
    c.in_ok-list.ensures c.args.blocks.now (map entries_made (in_pieces most_entries c.args.entries.now))
    (all_done most_entries entries_made c.args.blocks.now c.args.entries.now (chunks_rest c.entries.some-iterator) c.entries.blocks c.entries.levels c.entries.invariant.listed (none_left (chunks_rest c.entries.some-iterator) c.in-None.ensures.steps.1.0))
