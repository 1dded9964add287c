-- What blocks as they are read stand for.
use Rattle.std.specs.Prelude.{ℕ, List, map, Option, option_map}
use Rattle.ivy_base.specs.declared.key.Key.{Key}
use Rattle.log_model.specs.Rank as log
use Rattle.version_vectors.specs.declared.rank.Rank.{Rank}
use Rattle.version_vectors.specs.Ranks.{rank_of}
use Rattle.inode_replay.specs.Attributes.{attributes_of}
use Rattle.snapshot_model.specs.Blocks as said
use Rattle.snapshot_blocks.specs.declared.listed.Listed.{Listed}
use Rattle.snapshot_blocks.specs.declared.entries.Entry.{Entry}
use Rattle.snapshot_blocks.specs.declared.inode.InodeBlock.{InodeBlock}
use Rattle.snapshot_blocks.specs.declared.root.RootBlock.{RootBlock}

-- names, of which each has these bytes
abbrev pub keys_of : List (List ℕ) → List Key
keys_of each = map (λ bytes. record { 0 = bytes }) each

abbrev pub listed_of : Listed → said.NamedList
listed_of l = record { level = l.level; top = l.top }

abbrev pub entry_of : Entry → List ℕ × Key
entry_of e = (e.name.now, e.number)

abbrev pub entries_of : List Entry → List (List ℕ × Key)
entries_of es = map entry_of es

abbrev pub inode_of : InodeBlock → said.InodeBlock
inode_of b = record {
  number = b.number;
  kind = b.kind;
  attributes = attributes_of b.attributes;
  size = b.size;
  target = b.target.now;
  items = listed_of b.items;
}

abbrev pub tide_of : Option Rank → Option log.Rank
tide_of tide = option_map rank_of tide

abbrev pub root_of : RootBlock → said.RootBlock
root_of b = record { view = b.view; front = b.front; tide = tide_of b.tide; inodes = listed_of b.inodes }
