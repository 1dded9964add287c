-- Loading a snapshot ends, whatever comes: a list is over lists of lower levels, and inodes over lists, so only finitely many blocks are wanted.
use Rattle.std.proofs.Common.{◌≡◌, inl, inr, ℕ, zero, suc, List, [], ◌∷◌, ◌++◌, map, Some, None, Result, Ok, Err, sym, subst}
use Rattle.ivy_base.specs.declared.key.Key.{Key}
use Rattle.ivy_base.specs.declared.operation.Kind.{Kind}
use Rattle.ivy_base.specs.declared.operation.Kind.TheVariants.{Reg, Dir, Lnk}
use Rattle.dhash_model.specs.declared.miss.Miss.{Miss}
use Rattle.snapshot_model.specs.Reading.{AnInode, Entries, Listing, NamesParts, SnapshotPart, Piece, Root, item_of, part_below, top_of}
use Rattle.session_model.specs.Brought.{BlockOf, Brought}
use Rattle.session_model.specs.Refreshing.{LoadEnd, LoadWants, Loaded, Loads}
use Rattle.session_model.specs.Refreshing.Loads.{loaded, no_whole, wants, misses, garbled, goes_on}
use Rattle.session_laws.proofs.DecidedSnapshots.{snapshots_are_decided}

-- However it goes on, loading comes to its end.
pub data LoadEnds (todo : List (SnapshotPart × Key)) (read : List (List ℕ)) : List Brought → Type 0 where
  load_comes_to : {brought : List Brought} (end : LoadEnd) → Loads todo read brought end → ((key : Key) (came : Result (List ℕ) Miss) → end ≡ LoadWants key → LoadEnds todo read (brought ++ BlockOf key came ∷ [])) → LoadEnds todo read brought

-- what wants nothing has ended
load_is_over : {todo : List (SnapshotPart × Key)} {read : List (List ℕ)} {brought : List Brought} (end : LoadEnd) → Loads todo read brought end → ((key : Key) → end ≡ LoadWants key → ⊥) → LoadEnds todo read brought
load_is_over end loads over = load_comes_to end loads (λ key came is. absurd (over key is))

-- after a block that was read
load_behind : (part : SnapshotPart) (key : Key) (todo : List (SnapshotPart × Key)) (read : List (List ℕ)) (bytes : List ℕ) (named : List (SnapshotPart × Key)) → NamesParts part bytes named → {more : List Brought} → LoadEnds (named ++ todo) (read ++ bytes ∷ []) more
    → LoadEnds ((part, key) ∷ todo) read (BlockOf key (Ok bytes) ∷ more)
load_behind part key todo read bytes named names (load_comes_to end loads next) = load_comes_to end (goes_on bytes named names loads) (λ wanted came is. load_behind part key todo read bytes named names (next wanted came is))

-- these blocks can be loaded to the end
abbrev Can : List (SnapshotPart × Key) → Type 0
Can todo = (read : List (List ℕ)) → LoadEnds todo read []

-- such a part can be, before what can be
abbrev CanBefore : SnapshotPart → Type 0
CanBefore part = (key : Key) (todo : List (SnapshotPart × Key)) → Can todo → Can ((part, key) ∷ todo)

can_nothing : Can []
can_nothing read = elim (snapshots_are_decided.wholes read) [
  | inl b ↦ load_is_over (Loaded (Some b.0)) (loaded b.0 b.1) (λ key e. cc e)
  | inr none ↦ load_is_over (Loaded None) (no_whole none) (λ key e. cc e)
]

same_key : (a b : Key) → LoadWants a ≡ LoadWants b → a ≡ b
same_key a b e = cc e

-- where what such a block names can be loaded before what is still to be read
by_names : (part : SnapshotPart) → ((bytes : List ℕ) (named : List (SnapshotPart × Key)) → NamesParts part bytes named → (todo : List (SnapshotPart × Key)) → Can todo → Can (named ++ todo)) → CanBefore part
by_names part names_can key todo can read = load_comes_to (LoadWants key) wants (λ wanted came is. subst (λ (k : Key). LoadEnds ((part, key) ∷ todo) read (BlockOf k came ∷ [])) (same_key key wanted is) (by came))
  where
    by : (came : Result (List ℕ) Miss) → LoadEnds ((part, key) ∷ todo) read (BlockOf key came ∷ [])
    by (Err miss) = load_is_over (Loaded None) (misses miss) (λ k e. cc e)
    by (Ok bytes) = elim (snapshots_are_decided.parts part bytes) [
      | inl n ↦ load_behind part key todo read bytes n.0 n.1 (names_can bytes n.0 n.1 todo can (read ++ bytes ∷ []))
      | inr none ↦ load_is_over (Loaded None) (garbled bytes none) (λ k e. cc e)
    ]

nothing_named : (named : List (SnapshotPart × Key)) → named ≡ [] → (todo : List (SnapshotPart × Key)) → Can todo → Can (named ++ todo)
nothing_named named is todo can = subst (λ (l : List (SnapshotPart × Key)). Can (l ++ todo)) (sym is) can

all_named : (item : SnapshotPart) → CanBefore item → (keys : List Key) (todo : List (SnapshotPart × Key)) → Can todo → Can (map (λ (k : Key). (item, k)) keys ++ todo)
all_named item before [] todo can = can
all_named item before (k ∷ keys) todo can = before k (map (λ (q : Key). (item, q)) keys ++ todo) (all_named item before keys todo can)

listing_over : (item : SnapshotPart) (level : ℕ) → CanBefore (part_below level item) → CanBefore (Listing level item)
listing_over item level below = by_names (Listing level item)
    (λ bytes named names todo can. subst (λ (l : List (SnapshotPart × Key)). Can (l ++ todo)) (sym names.2) (all_named (part_below level item) below names.0 todo can))

listing_can : (item : SnapshotPart) → CanBefore item → (level : ℕ) → CanBefore (Listing level item)
listing_can item before zero = listing_over item zero before
listing_can item before (suc zero) = listing_over item (suc zero) before
listing_can item before (suc (suc level)) = listing_over item (suc (suc level)) (listing_can item before (suc level))

top_can : (item : SnapshotPart) → CanBefore item → (level : ℕ) (top : Key) (todo : List (SnapshotPart × Key)) → Can todo → Can (top_of item level top ++ todo)
top_can item before zero top todo can = can
top_can item before (suc level) top todo can = listing_can item before (suc level) top todo can

piece_can : CanBefore Piece
piece_can = by_names Piece (λ bytes named names. nothing_named named names.1)

entries_can : CanBefore Entries
entries_can = by_names Entries (λ bytes named names. nothing_named named names.2)

item_can : (kind : Kind) → CanBefore (item_of kind)
item_can Reg = piece_can
item_can Dir = entries_can
item_can Lnk = entries_can

inode_can : CanBefore AnInode
inode_can = by_names AnInode (λ bytes named names todo can.
    subst (λ (l : List (SnapshotPart × Key)). Can (l ++ todo)) (sym names.2) (top_can (item_of names.0.kind) (item_can names.0.kind) names.0.items.level names.0.items.top todo can))

part_can : (part : SnapshotPart) → CanBefore part
part_can Root = by_names Root (λ bytes named names todo can. subst (λ (l : List (SnapshotPart × Key)). Can (l ++ todo)) (sym names.2) (top_can AnInode inode_can names.0.inodes.level names.0.inodes.top todo can))
part_can (Listing level item) = listing_can item (part_can item) level
part_can AnInode = inode_can
part_can Piece = piece_can
part_can Entries = entries_can

all_can : (todo : List (SnapshotPart × Key)) → Can todo
all_can [] = can_nothing
all_can ((part, key) ∷ todo) = part_can part key todo (all_can todo)

-- from wherever it has come to
pub load_ends : {todo : List (SnapshotPart × Key)} {read : List (List ℕ)} {brought : List Brought} {end : LoadEnd} → Loads todo read brought end → LoadEnds todo read brought
load_ends (loaded b are) = load_is_over (Loaded (Some b)) (loaded b are) (λ k e. cc e)
load_ends (no_whole none) = load_is_over (Loaded None) (no_whole none) (λ k e. cc e)
load_ends (wants {part = part} {key = key} {todo = todo} {read = read}) = all_can ((part, key) ∷ todo) read
load_ends (misses miss) = load_is_over (Loaded None) (misses miss) (λ k e. cc e)
load_ends (garbled bytes none) = load_is_over (Loaded None) (garbled bytes none) (λ k e. cc e)
load_ends (goes_on {part = part} {key = key} {todo = todo} {read = read} bytes named names rest) = load_behind part key todo read bytes named names (load_ends rest)
