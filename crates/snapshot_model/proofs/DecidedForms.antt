-- What the blocks of a snapshot say is searched through, within the bounds that each has.
use Rattle.std.proofs.Common.{◌≡◌, ℕ, true, ◌^◌, ◌<◌, ◌≤◌, List, [], ◌∷◌, length, refl, ap, arith, Contains}
use Rattle.std.specs.Prelude.{IsTrue, nat_lt}
use Rattle.std.specs.List.{AllByRecursion, list_all}
use Rattle.std.specs.Cmp.Lexicographic.{slice_cmp}
use Rattle.std.specs.Ordering.{nat_cmp}
use Rattle.std.specs.FinMap.Entries.{is_sorted}
use Rattle.std.proofs.Math.Decide.{map_dec, ℕ_discrete, dec_le, dec_lt}
use Rattle.std.proofs.lemmas.Bool.{ltb-true}
use Rattle.ivy_base.specs.declared.key.Key.{Key}
use Rattle.ivy_base.specs.declared.operation.Kind.{Kind}
use Rattle.ivy_base.specs.declared.operation.Kind.TheVariants.{Reg, Dir, Lnk}
use Rattle.ivy_base.specs.declared.operation.Moment.{Moment}
use Rattle.ivy_base.specs.Naming.{IsFileName, key_cmp}
use Rattle.tree_model.specs.Tree.{Attributes, longest_file}
use Rattle.tree_model.proofs.Sound.{both_true}
use Rattle.wire_model.specs.Xdr.{IsAny}
use Rattle.log_model.specs.Rank.{Rank}
use Rattle.log_model.specs.Vector.{Entry, Vector}
use Rattle.log_model.specs.Spelling.{IsBlock, IsKey, IsMoment, IsTarget, no_name}
use Rattle.snapshot_model.specs.Blocks.{NamedList, InodeBlock, IsListed, AreAttributes, IsEntry, IsStamped, IsVectorSpelled, IsRankSpelled, AreNamed, AreEntries, IsInodeBlock, IsRootBlock, most_content_bytes, most_levels, most_entries}
use Rattle.snapshot_model.proofs.OneBlock.{AttributeParts, attribute_parts, of_attribute_parts, InodeParts, inode_parts, of_inode_parts, inode_parts_fit, root_parts, of_root_parts}
use Rattle.snapshot_model.proofs.Decided.{Searches, ◌▸◌, among, by_parts, optionally, numbers_below, numbers_to, lists_up_to, bytes_up_to, AreUpTo, AreBelow, dec_both, dec_if, dec_not, dec_true, dec_each, dec_bytes, dec_contains, dec_below}

-- ---- keys

each_byte : (bytes : List ℕ) → list_all (λ b. nat_lt b 256) bytes ≡ true → AreBelow 256 bytes
each_byte [] h = tt
each_byte (b ∷ bytes) h = let p = both_true (nat_lt b 256) (list_all (λ c. nat_lt c 256) bytes) h in (ltb-true b 256 p.0, each_byte bytes p.1)

pub dec_block : (count : ℕ) (bytes : List ℕ) → Dec (IsBlock count bytes)
dec_block count bytes = map_dec {A = (length bytes ≡ count) × IsTrue (list_all (λ b. nat_lt b 256) bytes)} (λ p. record { size = p.0; each = p.1 }) (λ f. (f.size, f.each))
    (dec_both (ℕ_discrete (length bytes) count) (dec_true (list_all (λ b. nat_lt b 256) bytes)))

blocks : (count : ℕ) → Searches (IsBlock count)
blocks count = among (bytes_up_to 256 count) (dec_block count) (λ bytes f. let size = f.size in (omega arith, each_byte bytes f.each))

pub dec_key : (k : Key) → Dec (IsKey k)
dec_key k = dec_block 20 k.0

pub keys : Searches IsKey
keys = by_parts (λ (k : Key). k.0) (λ bytes. record { 0 = bytes }) (λ k f. f) (λ bytes f. f) (λ k. refl) (blocks 20)

pub dec_same_key : (k l : Key) → Dec (k ≡ l)
dec_same_key k l = map_dec (λ e. ap (λ (bytes : List ℕ). record { 0 = bytes }) e) (λ e. ap (λ (m : Key). m.0) e) (dec_bytes k.0 l.0)

-- ---- attributes

dec_moment : (m : Moment) → Dec (IsMoment m)
dec_moment m = map_dec {A = (m.sec < 2 ^ 32) × (m.nsec < 1000000000)} (λ p. record { sec = p.0; nsec = p.1 }) (λ f. (f.sec, f.nsec)) (dec_both (dec_lt m.sec (2 ^ 32)) (dec_lt m.nsec 1000000000))

moments : Searches IsMoment
moments = by_parts (λ (m : Moment). (m.sec, m.nsec)) (λ p. record { sec = p.0; nsec = p.1 }) (λ m f. (f.sec, f.nsec)) (λ p f. record { sec = f.0; nsec = f.1 }) (λ m. refl)
    (numbers_below (2 ^ 32) ▸ numbers_below 1000000000)

abbrev HasAttributes : AttributeParts → Type 0
HasAttributes p = (((((p.0.0.0.0.0 ≤ 4095) × (p.0.0.0.0.1 < 4294967296)) × (p.0.0.0.1 < 4294967296)) × IsMoment p.0.0.1) × IsMoment p.0.1) × IsMoment p.1

has_attributes : (a : Attributes) → AreAttributes a → HasAttributes (attribute_parts a)
has_attributes a f = (((((f.mode, f.uid), f.gid), f.atime), f.mtime), f.ctime)

of_attributes : (p : AttributeParts) → HasAttributes p → AreAttributes (of_attribute_parts p)
of_attributes p f = record { mode = f.0.0.0.0.0; uid = f.0.0.0.0.1; gid = f.0.0.0.1; atime = f.0.0.1; mtime = f.0.1; ctime = f.1 }

pub dec_attributes : (a : Attributes) → Dec (AreAttributes a)
dec_attributes a = map_dec (of_attributes (attribute_parts a)) (has_attributes a)
    (dec_both (dec_both (dec_both (dec_both (dec_both (dec_le a.mode 4095) (dec_lt a.uid 4294967296)) (dec_lt a.gid 4294967296)) (dec_moment a.atime)) (dec_moment a.mtime)) (dec_moment a.ctime))

pub attributes : Searches AreAttributes
attributes = by_parts attribute_parts of_attribute_parts has_attributes of_attributes (λ a. refl)
    (numbers_to 4095 ▸ numbers_below 4294967296 ▸ numbers_below 4294967296 ▸ moments ▸ moments ▸ moments)

-- ---- lists and kinds

dec_listed : (most : ℕ) (l : NamedList) → Dec (IsListed most l)
dec_listed most l = map_dec {A = ((l.level ≤ most) × IsKey l.top) × (l.level ≡ 0 → l.top ≡ no_name)} (λ p. record { few = p.0.0; top = p.0.1; none = p.1 }) (λ f. ((f.few, f.top), f.none))
    (dec_both (dec_both (dec_le l.level most) (dec_key l.top)) (dec_if (ℕ_discrete l.level 0) (dec_same_key l.top no_name)))

levels : (most : ℕ) → Searches (λ (l : NamedList). (l.level ≤ most) × IsKey l.top)
levels most = by_parts (λ (l : NamedList). (l.level, l.top)) (λ p. record { level = p.0; top = p.1 }) (λ l f. f) (λ p f. f) (λ l. refl) (numbers_to most ▸ keys)

pub lists : (most : ℕ) → Searches (IsListed most)
lists most = among (levels most) (dec_listed most) (λ l f. (f.few, f.top))

pub kinds : Searches {A = Kind} IsAny
kinds = record { search_for = find }
  where
    find : (Q : Kind → Type 0) → ((k : Kind) → Dec (Q k)) → Dec ((k : Kind) × IsAny k × Q k)
    find Q d = by (d Reg) (d Dir) (d Lnk)
      where
        none : (Q Reg → ⊥) → (Q Dir → ⊥) → (Q Lnk → ⊥) → (k : Kind) → Q k → ⊥
        none f g h Reg q = f q
        none f g h Dir q = g q
        none f g h Lnk q = h q

        by : Dec (Q Reg) → Dec (Q Dir) → Dec (Q Lnk) → Dec ((k : Kind) × IsAny k × Q k)
        by (yes q) d e = yes (Reg, tt, q)
        by (no f) (yes q) e = yes (Dir, tt, q)
        by (no f) (no g) (yes q) = yes (Lnk, tt, q)
        by (no f) (no g) (no h) = no (λ w. none f g h w.0 w.2)

pub named : Searches AreNamed
named = among (lists_up_to 512 keys) told (λ names f. (f.few, f.each))
  where
    told : (names : List Key) → Dec (AreNamed names)
    told names = map_dec {A = ((1 ≤ length names) × (length names ≤ 512)) × AllByRecursion IsKey names} (λ p. record { some = p.0.0; few = p.0.1; each = p.1 }) (λ f. ((f.some, f.few), f.each))
        (dec_both (dec_both (dec_le 1 (length names)) (dec_le (length names) 512)) (dec_each IsKey dec_key names))

-- ---- names

abbrev NameParts : List ℕ → Type 0
NameParts bytes = (((((1 ≤ length bytes) × (length bytes ≤ 255)) × (Contains bytes 47 → ⊥)) × (Contains bytes 0 → ⊥)) × (bytes ≡ 46 ∷ [] → ⊥)) × (bytes ≡ 46 ∷ 46 ∷ [] → ⊥)

pub dec_file_name : (bytes : List ℕ) → Dec (IsFileName bytes)
dec_file_name bytes = map_dec {A = NameParts bytes}
    (λ p. record { some = p.0.0.0.0.0; short = p.0.0.0.0.1; no_slash = p.0.0.0.1; no_zero = p.0.0.1; not_itself = p.0.1; not_parent = p.1 })
    (λ f. (((((f.some, f.short), f.no_slash), f.no_zero), f.not_itself), f.not_parent))
    (dec_both (dec_both (dec_both (dec_both (dec_both (dec_le 1 (length bytes)) (dec_le (length bytes) 255)) (dec_not (dec_contains bytes 47))) (dec_not (dec_contains bytes 0)))
    (dec_not (dec_bytes bytes (46 ∷ [])))) (dec_not (dec_bytes bytes (46 ∷ 46 ∷ []))))

-- ---- entries

abbrev pub AreNamesBelow : ℕ → List (List ℕ × Key) → Type 0
AreNamesBelow m es = AllByRecursion (λ e. AreBelow m e.0) es

dec_entry : (e : List ℕ × Key) → Dec (IsEntry e)
dec_entry e = dec_both (dec_file_name e.0) (dec_key e.1)

entry_within : (m : ℕ) (es : List (List ℕ × Key)) → AllByRecursion IsEntry es → AreNamesBelow m es → AllByRecursion (λ e. AreUpTo 255 (λ b. b < m) e.0 × IsKey e.1) es
entry_within m [] h g = tt
entry_within m (e ∷ es) h g = (((h.0.0.short, g.0), h.0.1), entry_within m es h.1 g.1)

-- the entries of a block, each name's bytes below a bound
pub entries : (m : ℕ) → Searches (λ es. AreEntries es × AreNamesBelow m es)
entries m = among (lists_up_to most_entries (bytes_up_to m 255 ▸ keys)) told (λ es f. (f.0.few, entry_within m es f.0.each f.1))
  where
    dec_entries : (es : List (List ℕ × Key)) → Dec (AreEntries es)
    dec_entries es = map_dec {A = (((1 ≤ length es) × (length es ≤ most_entries)) × AllByRecursion IsEntry es) × IsTrue (is_sorted (slice_cmp nat_cmp) es)}
        (λ p. record { some = p.0.0.0; few = p.0.0.1; each = p.0.1; in_order = p.1 }) (λ f. (((f.some, f.few), f.each), f.in_order))
        (dec_both (dec_both (dec_both (dec_le 1 (length es)) (dec_le (length es) most_entries)) (dec_each IsEntry dec_entry es)) (dec_true (is_sorted (slice_cmp nat_cmp) es)))

    told : (es : List (List ℕ × Key)) → Dec (AreEntries es × AreNamesBelow m es)
    told es = dec_both (dec_entries es) (dec_each (λ e. AreBelow m e.0) (λ e. dec_below m e.0) es)

-- ---- inodes

pub dec_target : (kind : Kind) (bytes : List ℕ) → Dec (IsTarget kind bytes)
dec_target Reg bytes = dec_bytes bytes []
dec_target Dir bytes = dec_bytes bytes []
dec_target Lnk bytes = dec_both (dec_le 1 (length bytes)) (dec_le (length bytes) 1024)

abbrev IsInodeOf : InodeBlock → Type 0
IsInodeOf b = (((IsKey b.number × AreAttributes b.attributes) × (b.size ≤ most_content_bytes b.kind)) × IsTarget b.kind b.target) × IsListed (most_levels b.kind) b.items

dec_inode : (b : InodeBlock) → Dec (IsInodeBlock b)
dec_inode b = map_dec {A = IsInodeOf b} (λ p. record { number = p.0.0.0.0; attributes = p.0.0.0.1; size = p.0.0.1; target = p.0.1; items = p.1 }) (λ f. ((((f.number, f.attributes), f.size), f.target), f.items))
    (dec_both (dec_both (dec_both (dec_both (dec_key b.number) (dec_attributes b.attributes)) (dec_le b.size (most_content_bytes b.kind))) (dec_target b.kind b.target)) (dec_listed (most_levels b.kind) b.items))

-- whatever the kind is
abbrev FitsAnyKind : ℕ → InodeParts → Type 0
FitsAnyKind m p = (((((IsAny p.0.0.0.0.0.0 × IsKey p.0.0.0.0.0.1) × IsAny p.0.0.0.0.1) × AreAttributes p.0.0.0.1) × (p.0.0.1 ≤ longest_file)) × AreUpTo 1024 (λ b. b < m) p.0.1) × IsListed 3 p.1

anything : Searches {A = Unit {0}} IsAny
anything = record { search_for = find }
  where
    find : (Q : Unit {0} → Type 0) → ((u : Unit {0}) → Dec (Q u)) → Dec ((u : Unit {0}) × IsAny u × Q u)
    find Q d = map_dec {A = Q tt} (λ q. (tt, tt, q)) (λ w. w.2) (d tt)

any_kind : (m : ℕ) → Searches (λ (b : InodeBlock). FitsAnyKind m (inode_parts b))
any_kind m = by_parts inode_parts of_inode_parts (λ b f. f) (λ p f. f) (λ b. refl) (anything ▸ keys ▸ kinds ▸ attributes ▸ numbers_to longest_file ▸ bytes_up_to m 1024 ▸ lists 3)

-- what an inode's block says, its text's bytes below a bound
pub inode_blocks : (m : ℕ) → Searches (λ b. IsInodeBlock b × AreBelow m b.target)
inode_blocks m = among (any_kind m) (λ b. dec_both (dec_inode b) (dec_below m b.target)) within
  where
    within : (b : InodeBlock) → IsInodeBlock b × AreBelow m b.target → FitsAnyKind m (inode_parts b)
    within b f = let p = inode_parts_fit b f.0 in ((((((tt, p.0.0.0.0.0.1), tt), p.0.0.0.1), p.0.0.1), (p.0.1, f.1)), p.1)

-- ---- the root

abbrev StampParts : Type 0
StampParts = (Key × ℕ) × Key

dec_stamped : (e : Entry) → Dec (IsStamped e)
dec_stamped e = map_dec {A = ((IsKey e.0 × (1 ≤ e.1.seq)) × (e.1.seq < 4294967296)) × IsKey e.1.name} (λ p. (p.0.0.0, p.0.0.1, p.0.1, p.1)) (λ f. (((f.0, f.1), f.2), f.3))
    (dec_both (dec_both (dec_both (dec_key e.0) (dec_le 1 e.1.seq)) (dec_lt e.1.seq 4294967296)) (dec_key e.1.name))

any_stamp : Searches (λ (e : Entry). (IsKey e.0 × (e.1.seq < 4294967296)) × IsKey e.1.name)
any_stamp = by_parts {A = StampParts} (λ (e : Entry). ((e.0, e.1.seq), e.1.name)) (λ p. (p.0.0, record { seq = p.0.1; name = p.1 })) (λ e f. f) (λ p f. f) (λ e. refl) (keys ▸ numbers_below 4294967296 ▸ keys)

stamped : Searches IsStamped
stamped = among any_stamp dec_stamped (λ e f. ((f.0, f.2), f.3))

pub dec_vector : (v : Vector) → Dec (IsVectorSpelled v)
dec_vector v = map_dec {A = (AllByRecursion IsStamped v × IsTrue (is_sorted key_cmp v)) × (length v < 4294967296)} (λ p. record { each = p.0.0; in_order = p.0.1; short = p.1 }) (λ f. ((f.each, f.in_order), f.short))
    (dec_both (dec_both (dec_each IsStamped dec_stamped v) (dec_true (is_sorted key_cmp v))) (dec_lt (length v) 4294967296))

pub vectors : Searches IsVectorSpelled
vectors = among (lists_up_to 4294967295 stamped) dec_vector (λ v f. let short = f.short in (omega arith, f.each))

pub dec_rank : (r : Rank) → Dec (IsRankSpelled r)
dec_rank r = map_dec {A = ((r.weight < 18446744073709551616) × IsBlock 60 r.owner.0) × (r.seq < 4294967296)} (λ p. record { weight = p.0.0; owner = p.0.1; seq = p.1 }) (λ f. ((f.weight, f.owner), f.seq))
    (dec_both (dec_both (dec_lt r.weight 18446744073709551616) (dec_block 60 r.owner.0)) (dec_lt r.seq 4294967296))

pub ranks : Searches IsRankSpelled
ranks = by_parts {A = (ℕ × List ℕ) × ℕ} (λ (r : Rank). ((r.weight, r.owner.0), r.seq)) (λ p. record { weight = p.0.0; owner = record { 0 = p.0.1 }; seq = p.1 })
    (λ r f. ((f.weight, f.owner), f.seq)) (λ p f. record { weight = f.0.0; owner = f.0.1; seq = f.1 }) (λ r. refl)
    (numbers_below 18446744073709551616 ▸ blocks 60 ▸ numbers_below 4294967296)

-- what a root's block says
pub root_blocks : Searches IsRootBlock
root_blocks = by_parts root_parts of_root_parts (λ b f. ((((tt, f.view), f.front), f.tide), f.inodes)) (λ p f. record { view = f.0.0.0.1; front = f.0.0.1; tide = f.0.1; inodes = f.1 }) (λ b. refl)
    (anything ▸ keys ▸ vectors ▸ optionally ranks ▸ lists 3)
