-- Of any bytes it is known whether they are a part of a snapshot, and which blocks that part names.
use Rattle.std.proofs.Common.{◌≡◌, ℕ, ◌<◌, ◌≤◌, List, [], ◌∷◌, ◌++◌, length, map, refl, subst}
use Rattle.std.specs.List.{flat_map}
use Rattle.std.proofs.Math.Decide.{map_dec, dec_le}
use Rattle.ivy_base.specs.declared.key.Key.{Key}
use Rattle.wire_model.specs.Xdr.{word, double_word, opaque, fixed, padding}
use Rattle.log_model.specs.Spelling.{kind_number}
use Rattle.log_model.proofs.Lists.{each_left, each_right}
use Rattle.snapshot_model.specs.Blocks.{InodeBlock, RootBlock, attributes_bytes, listed_bytes, entry_bytes, list_block, entries_block, inode_block, root_block, AreNamed, AreEntries, IsInodeBlock, IsRootBlock, Says}
use Rattle.snapshot_model.specs.Reading.{SnapshotPart, Root, Listing, AnInode, Piece, Entries, NamesParts, item_of, part_below, top_of}
use Rattle.snapshot_model.proofs.Decided.{Searches, AreBelow, bound_of, dec_both, dec_bytes}
use Rattle.snapshot_model.proofs.DecidedForms.{AreNamesBelow, named, entries, inode_blocks, root_blocks}

-- ---- the bytes of names and texts stand in their blocks

abbrev Under : ℕ → ℕ → Type 0
Under m b = b < m

opaque_in : (m : ℕ) (bytes : List ℕ) → AreBelow m (opaque bytes) → AreBelow m bytes
opaque_in m bytes h = each_left (Under m) bytes (padding (length bytes)) (each_right (Under m) (word (length bytes)) (fixed bytes) h)

names_in : (m : ℕ) (es : List (List ℕ × Key)) → AreBelow m (flat_map entry_bytes es) → AreNamesBelow m es
names_in m [] h = tt
names_in m (e ∷ es) h =
    let first = each_left (Under m) (entry_bytes e) (flat_map entry_bytes es) h in
    (opaque_in m e.0 (each_left (Under m) (opaque e.0) e.1.0 first), names_in m es (each_right (Under m) (entry_bytes e) (flat_map entry_bytes es) h))

pub entries_in : (m : ℕ) (es : List (List ℕ × Key)) → AreBelow m (entries_block es) → AreNamesBelow m es
entries_in m es h = names_in m es (each_right (Under m) (word (length es)) (flat_map entry_bytes es) h.1.1.1.1)

pub target_in : (m : ℕ) (b : InodeBlock) → AreBelow m (inode_block b) → AreBelow m b.target
target_in m b h =
    let before = b.number.0 ++ word (kind_number b.kind) ++ attributes_bytes b.attributes ++ double_word b.size in
    opaque_in m b.target (each_right (Under m) before (opaque b.target) (each_left (Under m) (before ++ opaque b.target) (listed_bytes b.items) h.1.1.1.1))

-- ---- what a block says

-- of a form that is searched through, beyond what follows of the spelling
said : {A : Type 0} (Fits More : A → Type 0) (spell : A → List ℕ) (block : List ℕ) → Searches (λ x. Fits x × More x) → ((x : A) → block ≡ spell x → More x) → Dec ((x : A) × Says Fits spell block x)
said {A} Fits More spell block s more = map_dec to from (s.search_for (λ x. block ≡ spell x) (λ x. dec_bytes block (spell x)))
  where
    to : ((x : A) × (Fits x × More x) × (block ≡ spell x)) → (x : A) × Says Fits spell block x
    to w = (w.0, record { fits = w.1.0; spelled = w.2 })

    from : ((x : A) × Says Fits spell block x) → (x : A) × (Fits x × More x) × (block ≡ spell x)
    from w = (w.0, (w.1.fits, more w.0 w.1.spelled), w.1.spelled)

said_alone : {A : Type 0} (Fits : A → Type 0) (spell : A → List ℕ) (block : List ℕ) → Searches Fits → Dec ((x : A) × Says Fits spell block x)
said_alone {A} Fits spell block s = map_dec to from (s.search_for (λ x. block ≡ spell x) (λ x. dec_bytes block (spell x)))
  where
    to : ((x : A) × Fits x × (block ≡ spell x)) → (x : A) × Says Fits spell block x
    to w = (w.0, record { fits = w.1; spelled = w.2 })

    from : ((x : A) × Says Fits spell block x) → (x : A) × Fits x × (block ≡ spell x)
    from w = (w.0, w.1.fits, w.1.spelled)

dec_entries_said : (block : List ℕ) → Dec ((es : List (List ℕ × Key)) × Says AreEntries entries_block block es)
dec_entries_said block =
    let m = bound_of block in
    said AreEntries (AreNamesBelow m.0) entries_block block (entries m.0) (λ es e. entries_in m.0 es (subst (λ bytes. AreBelow m.0 bytes) e m.1))

dec_inode_said : (block : List ℕ) → Dec ((b : InodeBlock) × Says IsInodeBlock inode_block block b)
dec_inode_said block =
    let m = bound_of block in
    said IsInodeBlock (λ b. AreBelow m.0 b.target) inode_block block (inode_blocks m.0) (λ b e. target_in m.0 b (subst (λ bytes. AreBelow m.0 bytes) e m.1))

-- ---- parts

abbrev HasNamed : SnapshotPart → List ℕ → Type 0
HasNamed part block = (others : List (SnapshotPart × Key)) × NamesParts part block others

-- whether the bytes are such a part
pub dec_part : (part : SnapshotPart) (block : List ℕ) → Dec ((others : List (SnapshotPart × Key)) × NamesParts part block others)
dec_part Root block = map_dec to from (said_alone IsRootBlock root_block block root_blocks)
  where
    to : ((root : RootBlock) × Says IsRootBlock root_block block root) → HasNamed Root block
    to w = (top_of AnInode w.0.inodes.level w.0.inodes.top, (w.0, w.1, refl))

    from : HasNamed Root block → (root : RootBlock) × Says IsRootBlock root_block block root
    from w = (w.1.0, w.1.1)
dec_part (Listing level item) block = map_dec to from (said_alone AreNamed (list_block level) block named)
  where
    to : ((keys : List Key) × Says AreNamed (list_block level) block keys) → HasNamed (Listing level item) block
    to w = (map (λ k. (part_below level item, k)) w.0, (w.0, w.1, refl))

    from : HasNamed (Listing level item) block → (keys : List Key) × Says AreNamed (list_block level) block keys
    from w = (w.1.0, w.1.1)
dec_part AnInode block = map_dec to from (dec_inode_said block)
  where
    to : ((b : InodeBlock) × Says IsInodeBlock inode_block block b) → HasNamed AnInode block
    to w = (top_of (item_of w.0.kind) w.0.items.level w.0.items.top, (w.0, w.1, refl))

    from : HasNamed AnInode block → (b : InodeBlock) × Says IsInodeBlock inode_block block b
    from w = (w.1.0, w.1.1)
dec_part Piece block = map_dec {A = (1 ≤ length block) × (length block ≤ 8192)} {B = HasNamed Piece block} (λ p. ([], (p, refl))) (λ w. w.1.0) (dec_both (dec_le 1 (length block)) (dec_le (length block) 8192))
dec_part Entries block = map_dec to from (dec_entries_said block)
  where
    to : ((es : List (List ℕ × Key)) × Says AreEntries entries_block block es) → HasNamed Entries block
    to w = ([], (w.0, w.1, refl))

    from : HasNamed Entries block → (es : List (List ℕ × Key)) × Says AreEntries entries_block block es
    from w = (w.1.0, w.1.1)
