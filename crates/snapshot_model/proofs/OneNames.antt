-- A block names one list of blocks.
use Rattle.std.proofs.Common.{◌≡◌, ℕ, List, map, sym, ap, ◌∙◌}
use Rattle.ivy_base.specs.declared.key.Key.{Key}
use Rattle.wire_model.specs.OneReading.{ReadsOne}
use Rattle.wire_model.proofs.OneReading.{whole}
use Rattle.snapshot_model.specs.Blocks.{InodeBlock, RootBlock, Says}
use Rattle.snapshot_model.specs.Reading.{Root, Listing, AnInode, Piece, Entries, item_of, part_below, top_of}
use Rattle.snapshot_model.specs.Laws.{NamesAreUnique}
use Rattle.snapshot_model.proofs.OneBlock.{one_inode, one_list, one_root}

-- a block says one thing
pub one_said : {A : Type 0} {Fits : A → Type 0} {spell : A → List ℕ} {block : List ℕ} {x y : A} → ReadsOne Fits spell → Says Fits spell block x → Says Fits spell block y → x ≡ y
one_said {x = x} {y = y} reads f g = whole reads x y f.fits g.fits (sym f.spelled ∙ g.spelled)

pub names_are_unique : NamesAreUnique
names_are_unique Root block named others f g = f.2 ∙ ap (λ (root : RootBlock). top_of AnInode root.inodes.level root.inodes.top) (one_said one_root f.1 g.1) ∙ sym g.2
names_are_unique (Listing level item) block named others f g = f.2 ∙ ap (λ (keys : List Key). map (λ k. (part_below level item, k)) keys) (one_said (one_list level) f.1 g.1) ∙ sym g.2
names_are_unique AnInode block named others f g =
    f.2 ∙ ap (λ (inode : InodeBlock). top_of (item_of inode.kind) inode.items.level inode.items.top) (one_said one_inode f.1 g.1) ∙ sym g.2
names_are_unique Piece block named others f g = f.1 ∙ sym g.1
names_are_unique Entries block named others f g = f.2 ∙ sym g.2
