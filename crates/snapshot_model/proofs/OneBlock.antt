-- Each part of a snapshot's block is of one reading, and so is the block.
use Rattle.std.proofs.Common.{ℕ, ◌^◌, ◌<◌, ◌≤◌, List, length, Option, refl, ap, arith}
use Rattle.std.specs.Prelude.{IfSome}
use Rattle.std.specs.List.{AllByRecursion}
use Rattle.ivy_base.specs.declared.key.Key.{Key}
use Rattle.ivy_base.specs.declared.operation.Kind.{Kind}
use Rattle.ivy_base.specs.declared.operation.Kind.TheVariants.{Reg, Dir, Lnk}
use Rattle.ivy_base.specs.declared.operation.Moment.{Moment}
use Rattle.tree_model.specs.Tree.{Attributes, longest_file}
use Rattle.wire_model.specs.Xdr.{optional, array}
use Rattle.wire_model.specs.OneReading.{ReadsOne}
use Rattle.wire_model.proofs.OneReading.{◌▷◌, always, of_fewer, of_parts, one_word, one_double_word, one_short_opaque, one_optional, one_array}
use Rattle.log_model.specs.Rank.{Rank}
use Rattle.log_model.specs.Vector.{Entry, Vector}
use Rattle.log_model.specs.Spelling.{IsKey, IsTarget, vector_entry}
use Rattle.snapshot_model.specs.Blocks.{NamedList, InodeBlock, RootBlock, listed_bytes, attributes_bytes, rank_bytes, entry_bytes, list_block, entries_block, inode_block, root_block, IsListed, AreAttributes, IsEntry, IsStamped, IsVectorSpelled, IsRankSpelled, AreNamed, AreEntries, IsInodeBlock, IsRootBlock, most_content_bytes, most_levels, entries_tag, inode_tag, root_tag}
use Rattle.block_parts.specs.Parts.{key_bytes}
use Rattle.block_parts.proofs.OneParts.{one_block, one_key, one_at_most, one_time, one_kind, one_name, one_size}
use Rattle.snapshot_model.specs.Parts.{list_tag, HasInodeParts, FitsKind}
use Rattle.snapshot_model.specs.Laws.{BlocksAreUnambiguous}

-- ---- attributes

abbrev pub AttributeParts : Type 0
AttributeParts = ((((ℕ × ℕ) × ℕ) × Moment) × Moment) × Moment

abbrev pub attribute_parts : Attributes → AttributeParts
attribute_parts a = (((((a.mode, a.uid), a.gid), a.atime), a.mtime), a.ctime)

abbrev pub of_attribute_parts : AttributeParts → Attributes
of_attribute_parts p = record { mode = p.0.0.0.0.0; uid = p.0.0.0.0.1; gid = p.0.0.0.1; atime = p.0.0.1; mtime = p.0.1; ctime = p.1 }

pub one_attributes : ReadsOne AreAttributes attributes_bytes
one_attributes = of_parts attribute_parts (λ a f. (((((f.mode, f.uid), f.gid), f.atime), f.mtime), f.ctime)) (λ a. refl) (λ a b e. ap of_attribute_parts e)
    (one_at_most 4095 (omega arith) ▷ one_word ▷ one_word ▷ one_time ▷ one_time ▷ one_time)

-- ---- lists

pub one_listed : (most : ℕ) → most < 2 ^ 32 → ReadsOne (IsListed most) listed_bytes
one_listed most h = of_parts (λ (l : NamedList). (l.level, l.top)) (λ l f. (f.few, f.top)) (λ l. refl) (λ l m e. ap (λ (p : ℕ × Key). record { level = p.0; top = p.1 }) e)
    (one_at_most most h ▷ one_key)

pub one_keys : ReadsOne (λ keys. (length keys < 2 ^ 32) × AllByRecursion IsKey keys) (array key_bytes)
one_keys = one_array one_key

pub one_list : (level : ℕ) → ReadsOne AreNamed (list_block level)
one_list level = of_parts (λ (keys : List Key). (tt, keys)) (λ keys f. (tt, (omega (arith, f.few), f.each))) (λ keys. refl) (λ k l e. ap (λ (p : Unit {0} × List Key). p.1) e)
    (always (list_tag level) ▷ one_keys)

-- ---- entries

pub one_entry : ReadsOne IsEntry entry_bytes
one_entry = one_name ▷ one_key

-- in any order, and so many
pub one_of_entries : ReadsOne (λ entries. (length entries < 2 ^ 32) × AllByRecursion IsEntry entries) entries_block
one_of_entries = of_parts (λ (entries : List (List ℕ × Key)). (tt, entries)) (λ entries f. (tt, f)) (λ entries. refl)
    (λ d e same. ap (λ (p : Unit {0} × List (List ℕ × Key)). p.1) same)
    (always entries_tag ▷ one_array one_entry)

pub one_entries : ReadsOne AreEntries entries_block
one_entries = of_fewer (λ entries f. (omega (arith, f.few), f.each)) one_of_entries

-- ---- inodes

abbrev pub InodeParts : Type 0
InodeParts = (((((Unit {0} × Key) × Kind) × Attributes) × ℕ) × List ℕ) × NamedList

abbrev pub inode_parts : InodeBlock → InodeParts
inode_parts b = ((((((tt, b.number), b.kind), b.attributes), b.size), b.target), b.items)

abbrev pub of_inode_parts : InodeParts → InodeBlock
of_inode_parts p = record { number = p.0.0.0.0.0.1; kind = p.0.0.0.0.1; attributes = p.0.0.0.1; size = p.0.0.1; target = p.0.1; items = p.1 }

size_fits : (kind : Kind) (n : ℕ) → n ≤ most_content_bytes kind → n ≤ longest_file
size_fits Reg n h = h
size_fits Dir n h = omega (arith, h)
size_fits Lnk n h = omega (arith, h)

target_fits : (kind : Kind) (bytes : List ℕ) → IsTarget kind bytes → length bytes ≤ 1024
target_fits Reg bytes f = rw f (omega arith)
target_fits Dir bytes f = rw f (omega arith)
target_fits Lnk bytes f = f.1

levels_fit : (kind : Kind) (n : ℕ) → n ≤ most_levels kind → n ≤ 3
levels_fit Reg n h = h
levels_fit Dir n h = h
levels_fit Lnk n h = omega (arith, h)

pub inode_parts_fit : (b : InodeBlock) → IsInodeBlock b → HasInodeParts b
inode_parts_fit b f = (
  (((((tt, f.number), tt), f.attributes), size_fits b.kind b.size f.size), target_fits b.kind b.target f.target),
  record { few = levels_fit b.kind b.items.level f.items.few; top = f.items.top; none = f.items.none },
)

pub one_of_inode_parts : ReadsOne HasInodeParts inode_block
one_of_inode_parts = of_parts inode_parts (λ b f. f) (λ b. refl) (λ b c e. ap of_inode_parts e)
    (always inode_tag ▷ one_key ▷ one_kind ▷ one_attributes ▷ one_size ▷ one_short_opaque 1024 (omega arith) ▷ one_listed 3 (omega arith))

pub of_its_kind : (b : InodeBlock) → IsInodeBlock b → FitsKind b.kind b.size b.target b.items.level
of_its_kind b f = (f.size, f.target, f.items.few)

pub with_kind : (b : InodeBlock) → HasInodeParts b → FitsKind b.kind b.size b.target b.items.level → IsInodeBlock b
with_kind b f g = record {
  number = f.0.0.0.0.0.1;
  attributes = f.0.0.0.1;
  size = g.0;
  target = g.1;
  items = record { few = g.2; top = f.1.top; none = f.1.none };
}

pub one_inode : ReadsOne IsInodeBlock inode_block
one_inode = of_fewer inode_parts_fit one_of_inode_parts

-- ---- the root

pub one_stamped : ReadsOne IsStamped vector_entry
one_stamped = of_parts (λ (e : Entry). ((e.0, e.1.seq), e.1.name)) (λ e f. ((f.0, f.2), f.3)) (λ e. refl)
    (λ d e same. ap (λ (p : (Key × ℕ) × Key). (p.0.0, record { seq = p.0.1; name = p.1 })) same)
    (one_key ▷ one_word ▷ one_key)

pub one_front : ReadsOne IsVectorSpelled (array vector_entry)
one_front = of_fewer (λ v f. (f.short, f.each)) (one_array one_stamped)

pub one_rank : ReadsOne IsRankSpelled rank_bytes
one_rank = of_parts (λ (r : Rank). ((r.weight, r.owner.0), r.seq)) (λ r f. ((f.weight, f.owner), f.seq)) (λ r. refl)
    (λ q r e. ap (λ (p : (ℕ × List ℕ) × ℕ). record { weight = p.0.0; owner = record { 0 = p.0.1 }; seq = p.1 }) e)
    (one_double_word ▷ one_block 60 ▷ one_word)

pub one_tide : ReadsOne (λ o. IfSome o IsRankSpelled) (optional rank_bytes)
one_tide = one_optional one_rank

abbrev pub RootParts : Type 0
RootParts = (((Unit {0} × Key) × Vector) × Option Rank) × NamedList

abbrev pub root_parts : RootBlock → RootParts
root_parts b = ((((tt, b.view), b.front), b.tide), b.inodes)

abbrev pub of_root_parts : RootParts → RootBlock
of_root_parts p = record { view = p.0.0.0.1; front = p.0.0.1; tide = p.0.1; inodes = p.1 }

pub one_root : ReadsOne IsRootBlock root_block
one_root = of_parts root_parts (λ b f. ((((tt, f.view), f.front), f.tide), f.inodes)) (λ b. refl) (λ b c e. ap of_root_parts e)
    (always root_tag ▷ one_key ▷ one_front ▷ one_tide ▷ one_listed 3 (omega arith))

pub blocks_are_unambiguous : BlocksAreUnambiguous
blocks_are_unambiguous = record { lists = one_list; entries = one_entries; inodes = one_inode; roots = one_root }
