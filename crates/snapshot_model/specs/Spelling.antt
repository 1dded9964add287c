-- The blocks of a snapshot as a whole: a basis spelled as a tree of content blocks.
use Rattle.std.specs.Prelude.{ℕ, zero, suc, ◌+◌, nat_le, List, [], ◌∷◌, ◌++◌, length, map, flat_map, take, drop, fold, if◌then◌else◌}
use Rattle.std.specs.List.{list_any}
use Rattle.std.specs.Str.{bytes_eq}
use Rattle.ivy_base.specs.declared.key.Key.{Key}
use Rattle.ivy_base.specs.declared.operation.Kind.{Kind}
use Rattle.ivy_base.specs.declared.operation.Kind.TheVariants.{Reg, Dir, Lnk}
use Rattle.ivy_base.specs.Naming.{name}
use Rattle.tree_model.specs.Tree.{Tree, Inode, listing}
use Rattle.log_model.specs.Spelling.{no_name}
use Rattle.log_model.specs.View.{View, view_name}
use Rattle.turn_model.specs.Basis.{Basis}
use Rattle.snapshot_model.specs.Blocks.{NamedList, list_block, entries_block, inode_block, root_block, most_entries}

-- ---- blocks over blocks

-- A block, all blocks below it in the order in which they are read, itself first, and in the order in which they are put, itself last.
pub record Made : Type 0 where
  pub bytes : List ℕ
  pub reading : List (List ℕ)
  pub putting : List (List ℕ)

-- a block that names these, in this order
abbrev pub over : List ℕ → List Made → Made
over bytes below = record {
  bytes = bytes;
  reading = bytes ∷ flat_map (λ m. m.reading) below;
  putting = flat_map (λ m. m.putting) below
      ++ bytes ∷ [];
}

abbrev pub made_name : Made → Key
made_name m = name m.bytes

-- ---- lists

-- pieces of that size, the last one shorter; the first number bounds how many
abbrev pub pieces : {A : Type 0} → ℕ → ℕ → List A → List (List A)
pieces zero size xs = []
pieces (suc n) size [] = []
pieces (suc n) size (x ∷ xs) = take size (x ∷ xs) ∷ pieces n size (drop size (x ∷ xs))

abbrev pub in_pieces : {A : Type 0} → ℕ → List A → List (List A)
in_pieces size xs = pieces (length xs) size xs

abbrev pub list_made : ℕ → List Made → Made
list_made level items = over (list_block level (map made_name items)) items

-- list blocks of that level, and upwards until one is left; there are at most so many levels
abbrev pub list_blocks_over : ℕ → ℕ → List Made → ℕ × List Made
list_blocks_over levels level [] = (0, [])
list_blocks_over zero level (item ∷ items) = (level, [])
list_blocks_over (suc levels) level (item ∷ items) =
    if nat_le (length (item ∷ items)) 512 then (level, list_made level (item ∷ items) ∷ [])
    else list_blocks_over levels (level + 1) (map (list_made level) (in_pieces 512 (item ∷ items)))

-- the least level that suffices, and its block; of no items level 0 and no block
abbrev pub list_of : List Made → ℕ × List Made
list_of items = list_blocks_over 3 1 items

abbrev pub named_by : ℕ × List Made → NamedList
named_by (level, []) = record { level = 0; top = no_name }
named_by (level, top ∷ tops) = record { level = level; top = made_name top }

-- ---- inodes

abbrev pub piece_made : List ℕ → Made
piece_made bytes = over bytes []

abbrev pub entries_made : List (List ℕ × Key) → Made
entries_made entries = over (entries_block entries) []

-- an inode's body and a directory's entries, in pieces
abbrev pub items_of : List (List ℕ × Key) → List ℕ → Kind → List Made
items_of entries body Reg = map piece_made (in_pieces 8192 body)
items_of entries body Dir = map entries_made (in_pieces most_entries entries)
items_of entries body Lnk = []

abbrev pub content_size : List ℕ → Kind → ℕ
content_size body Reg = length body
content_size body Dir = 0
content_size body Lnk = 0

abbrev pub symbolic_link_text : List ℕ → Kind → List ℕ
symbolic_link_text body Lnk = body
symbolic_link_text body Reg = []
symbolic_link_text body Dir = []

abbrev pub inode_over : Key → Inode → ℕ × List Made → Made
inode_over number inode items = over (inode_block (record {
  number = number;
  kind = inode.kind;
  attributes = inode.attributes;
  size = content_size inode.body inode.kind;
  target = symbolic_link_text inode.body inode.kind;
  items = named_by items;
})) items.1

abbrev pub inode_made : Tree → Key × Inode → Made
inode_made t (number, inode) = inode_over number inode (list_of (items_of (listing t number) inode.body inode.kind))

-- ---- the whole

abbrev pub root_over : Key → Basis → ℕ × List Made → Made
root_over view b inodes = over (root_block (record { view = view; front = b.front; tide = b.tide; inodes = named_by inodes })) inodes.1

abbrev pub snapshot_named : Key → Basis → Made
snapshot_named view b = root_over view b (list_of (map (inode_made b.tree) b.tree.inodes))

abbrev pub snapshot_of : View → Basis → Made
snapshot_of view b = snapshot_named (view_name view) b

-- the name of the root block
abbrev pub root_name : View → Basis → Key
root_name view b = name (snapshot_of view b).bytes

-- the blocks as they are read, and as they are put, each once
abbrev pub reading_order : View → Basis → List Key
reading_order view b = map name (snapshot_of view b).reading

abbrev pub with_block : List (List ℕ) → List ℕ → List (List ℕ)
with_block blocks b = if list_any (bytes_eq b) blocks then blocks else blocks ++ b ∷ []

abbrev pub snapshot_blocks : View → Basis → List (List ℕ)
snapshot_blocks view b = fold with_block [] (snapshot_of view b).putting
