-- What would be saved of a snapshot has fewer posts than a word counts, where no names collide and no more was met than a line may go on
-- with: a snapshot has so many blocks for each record of what it stands for, and each record has so many bytes.
use Rattle.std.proofs.Common.{◌≡◌, ℕ, zero, suc, ◌+◌, ◌*◌, ◌/◌, ◌<◌, ◌≤◌, ◌^◌, Bool, true, false, cond, not, List, [], ◌∷◌, ◌++◌, length, map, fold, filter, take, drop, Option, Some, None, refl, sym, ap, ◌∙◌, subst, arith, Contains, append_assoc}
use Rattle.std.specs.Prelude.{IfSome, IsTrue, if◌then◌else◌, nat_le, sum_by}
use Rattle.std.specs.List.{AllByRecursion, cons_option, filter_map, flat_map, list_any}
use Rattle.std.specs.Ordering.{is_lt}
use Rattle.std.specs.FinMap.Entries.{below_all, is_sorted}
use Rattle.std.specs.Str.{bytes_eq}
use Rattle.std.proofs.lemmas.List.{drop-append-le, length-append, length-map}
use Rattle.std.proofs.lemmas.List.Sums.{sum_by-append, sum_by-cons}
use Rattle.std.proofs.Math.Seq.{drop-append_seam, take-append_seam}
use Rattle.ivy_base.specs.declared.key.Key.{Key}
use Rattle.ivy_base.specs.declared.key.PubKey.{PubKey}
use Rattle.ivy_base.specs.declared.operation.Kind.{Kind}
use Rattle.ivy_base.specs.declared.operation.Kind.TheVariants.{Reg, Dir, Lnk}
use Rattle.ivy_base.specs.Naming.{IsCollisionFree, head_key_of, key_cmp}
use Rattle.ivy_base.proofs.NameLemmas.{length-digest}
use Rattle.tree_model.specs.Tree.{Inode, Place, Tree, listing, longest_file, same_key}
use Rattle.tree_model.proofs.Applied.{records_make_sound_trees}
use Rattle.tree_model.proofs.Keys.{keys_total, same_key_is}
use Rattle.tree_model.proofs.Sound.{both_true}
use Rattle.wire_model.specs.Xdr.{array, moment, word}
use Rattle.wire_model.proofs.OneReading.{whole}
use Rattle.log_model.specs.Closed.{IsAscending, IsClosed}
use Rattle.log_model.specs.Rank.{record_cmp}
use Rattle.log_model.specs.Record.{Record}
use Rattle.log_model.specs.Replay.{effect, in_order, replay}
use Rattle.log_model.specs.Spelling.{HasSpelling, IsKey, body, record_block, record_kind, record_tag, vector_entry}
use Rattle.log_model.specs.Standing.{Stand, StandsAmong}
use Rattle.log_model.specs.View.{View, IsView, is_named}
use Rattle.log_model.specs.ViewKeys.{HasKeys}
use Rattle.log_model.proofs.Later.{good_of}
use Rattle.log_model.proofs.Lists.{each, each_from, here, there}
use Rattle.log_model.proofs.Owners.{records_total}
use Rattle.std.specs.Cmp.{tied_itself}
use Rattle.log_records.proofs.OneRecord.{one_record}
use Rattle.turn_model.specs.Basis.{Basis}
use Rattle.turn_laws.proofs.Heads.{one_member}
use Rattle.ring_model.proofs.Lists.{all_weaker}
use Rattle.dht_ids.specs.declared.post.Post.{Post}
use Rattle.snapshot_model.specs.Blocks.{most_entries}
use Rattle.snapshot_model.specs.Reading.{HasBounds, IsBodyOf}
use Rattle.snapshot_model.specs.Spelling.{Made, entries_made, in_pieces, inode_made, items_of, list_made, list_of, list_blocks_over, over, piece_made, snapshot_blocks, snapshot_of, with_block}
use Rattle.snapshot_model.proofs.Pieces.{few_pieces, join-in_pieces, joined}
use Rattle.snapshot_model.proofs.SortedEntries.{all_behind, not_below_itself}
use Rattle.agent_model.specs.Others.{basis_of, block_post, is_pending_block}
use Rattle.world_model.specs.Agents.{own_hss_key}
use Rattle.world_model.specs.Logs.{Played}
use Rattle.world_model.specs.GhostState.{knowing_of, known_of}
use Rattle.world_model.specs.World.{Participant, named_bytes}
use Rattle.world_laws.specs.Effects.{snapped_in}
use Rattle.world_laws.specs.FullRuns.{SnapshotsAreFew}
use Rattle.world_laws.specs.Invariant.{AreApart, IsKeptSo, IsSavedWell, IsSound, IsSoundIn, Invariant}
use Rattle.world_laws.proofs.Publishing.{short_filter}
use Rattle.world_laws.proofs.Rooms.{few_pending, no_more_bytes}
use Rattle.world_laws.proofs.SignedHeads.{from_map}
use Rattle.world_laws.proofs.SnapBounds.{inodes_most, names_most, set_is_bounded}
use Rattle.world_laws.proofs.SnapSpelled.{holding_stands}

abbrev total : List (List ℕ) → ℕ
total bs = sum_by (λ b. length b) bs

total_cons : (b : List ℕ) (bs : List (List ℕ)) → total (b ∷ bs) ≡ length b + total bs
total_cons b bs = sum_by-cons (λ (x : List ℕ). length x) b bs

-- ---- how many blocks are put

abbrev size : Made → ℕ
size m = length m.putting

abbrev sizes : List Made → ℕ
sizes ms = sum_by (λ m. length m.putting) ms

sizes_cons : (m : Made) (ms : List Made) → sizes (m ∷ ms) ≡ size m + sizes ms
sizes_cons m ms = sum_by-cons (λ (x : Made). length x.putting) m ms

sizes_both : (ms ns : List Made) → sizes (ms ++ ns) ≡ sizes ms + sizes ns
sizes_both ms ns = sum_by-append (λ (x : Made). length x.putting) ms ns

put_below : (ms : List Made) → length (flat_map (λ m. m.putting) ms) ≡ sizes ms
put_below [] = refl
put_below (m ∷ ms) = let both = length-append m.putting (flat_map (λ (x : Made). x.putting) ms) in let rest = put_below ms in let first = sizes_cons m ms in omega (arith, both, rest, first)

over_size : (bytes : List ℕ) (below : List Made) → size (over bytes below) ≡ sizes below + 1
over_size bytes below = let both = length-append (flat_map (λ (x : Made). x.putting) below) (bytes ∷ []) in let rest = put_below below in omega (arith, both, rest)

-- ---- lists

all_lists : (level : ℕ) (parts : List (List Made)) → sizes (map (list_made level) parts) ≡ sizes (joined parts) + length parts
all_lists level [] = refl
all_lists level (p ∷ ps) =
    let first = sizes_cons (list_made level p) (map (list_made level) ps) in
    let one : size (list_made level p) ≡ sizes p + 1 = over_size _ p in
    let rest = all_lists level ps in
    let both = sizes_both p (joined ps) in omega (arith, first, one, rest, both)

half : (n count : ℕ) → 512 < n → (n ≤ 512 * (n / 2) → count ≤ n / 2) → count + count ≤ n
half n count many few = let le = few (omega (arith, many)) in omega (arith, le)

not_few : (n : ℕ) → nat_le n 512 ≡ false → 512 < n
not_few n e = grind (arith, e)

listed_sizes : (levels level : ℕ) (items : List Made) → sizes (list_blocks_over levels level items).1 ≤ sizes items + length items
listed_sizes zero level [] = omega arith
listed_sizes zero level (m ∷ ms) = omega arith
listed_sizes (suc n) level [] = omega arith
listed_sizes (suc n) level (m ∷ ms) = by (nat_le (length (m ∷ ms)) 512) refl (listed_sizes n (level + 1) (map (list_made level) (in_pieces 512 (m ∷ ms))))
  where
    by : (b : Bool) → nat_le (length (m ∷ ms)) 512 ≡ b
        → sizes (list_blocks_over n (level + 1) (map (list_made level) (in_pieces 512 (m ∷ ms)))).1 ≤ sizes (map (list_made level) (in_pieces 512 (m ∷ ms))) + length (map (list_made level) (in_pieces 512 (m ∷ ms)))
        → sizes (if b then (level, list_made level (m ∷ ms) ∷ []) else list_blocks_over n (level + 1) (map (list_made level) (in_pieces 512 (m ∷ ms)))).1 ≤ sizes (m ∷ ms) + length (m ∷ ms)
    by true e rest = let one = sizes_cons (list_made level (m ∷ ms)) [] in let whole : size (list_made level (m ∷ ms)) ≡ sizes (m ∷ ms) + 1 = over_size _ (m ∷ ms) in omega (arith, one, whole)
    by false e rest =
        let lists = all_lists level (in_pieces 512 (m ∷ ms)) in
        let back : sizes (joined (in_pieces 512 (m ∷ ms))) ≡ sizes (m ∷ ms) = ap sizes (join-in_pieces 512 (m ∷ ms) (omega arith)) in
        let as_many = length-map (in_pieces 512 (m ∷ ms)) (list_made level) in
        let few = half (length (m ∷ ms)) (length (in_pieces 512 (m ∷ ms))) (not_few (length (m ∷ ms)) e) (λ wide. few_pieces (length (m ∷ ms)) 512 (m ∷ ms) (length (m ∷ ms) / 2) wide) in
        omega (arith, rest, lists, back, as_many, few)

-- ---- inodes

pieces_sizes : (xs : List (List ℕ)) → sizes (map piece_made xs) ≡ length xs
pieces_sizes [] = refl
pieces_sizes (x ∷ xs) = let first = sizes_cons (piece_made x) (map piece_made xs) in let rest = pieces_sizes xs in omega (arith, first, rest)

entries_sizes : (xs : List (List (List ℕ × Key))) → sizes (map entries_made xs) ≡ length xs
entries_sizes [] = refl
entries_sizes (x ∷ xs) = let first = sizes_cons (entries_made x) (map entries_made xs) in let rest = entries_sizes xs in omega (arith, first, rest)

-- the parts of an inode are so many, and as many blocks
items_few : (entries : List (List ℕ × Key)) (body : List ℕ) (kind : Kind) → IsBodyOf kind body → (length (items_of entries body kind) ≤ 2048 + length entries) × (sizes (items_of entries body kind) ≡ length (items_of entries body kind))
items_few entries body Reg f =
    let most = few_pieces (length body) 8192 body 2048 (omega (arith, f)) in
    let as_many = length-map (in_pieces 8192 body) piece_made in
    (omega (arith, most, as_many), pieces_sizes (in_pieces 8192 body) ∙ sym as_many)
items_few entries body Dir f =
    let most = few_pieces (length entries) most_entries entries (length entries) (omega arith) in
    let as_many = length-map (in_pieces most_entries entries) entries_made in
    (omega (arith, most, as_many), entries_sizes (in_pieces most_entries entries) ∙ sym as_many)
items_few entries body Lnk f = (omega arith, refl)

inode_size : (t : Tree) (i : Key × Inode) → HasBounds i.1 → size (inode_made t i) ≤ 4097 + 2 * length (listing t i.0)
inode_size t i bounds =
    let items = items_of (listing t i.0) i.1.body i.1.kind in
    let few = items_few (listing t i.0) i.1.body i.1.kind bounds.body in
    let most = few.0 in
    let same = few.1 in
    let lists = listed_sizes 3 1 items in
    let whole : size (inode_made t i) ≡ sizes (list_of items).1 + 1 = over_size _ (list_of items).1 in
    omega (arith, most, same, lists, whole)

abbrev names_under : Tree → List (Key × Inode) → ℕ
names_under t inodes = sum_by (λ i. length (listing t i.0)) inodes

inodes_sizes : (t : Tree) (inodes : List (Key × Inode)) → AllByRecursion (λ i. HasBounds i.1) inodes → sizes (map (inode_made t) inodes) ≤ 4097 * length inodes + 2 * names_under t inodes
inodes_sizes t [] h = omega arith
inodes_sizes t (i ∷ inodes) h =
    let first = sizes_cons (inode_made t i) (map (inode_made t) inodes) in
    let one = inode_size t i h.0 in
    let rest = inodes_sizes t inodes h.1 in
    let sum = sum_by-cons (λ (x : Key × Inode). length (listing t x.0)) i inodes in
    omega (arith, first, one, rest, sum)

-- ---- each name is in one directory

abbrev listed_in : List (Place × Key) → Key → List (List ℕ × Key)
listed_in names dir = filter_map (λ e. if same_key dir e.0.0 then Some (e.0.1, e.1) else None) names

abbrev hits : Key → List (Key × Inode) → ℕ
hits k inodes = sum_by (λ i. cond (same_key i.0 k) 1 0) inodes

-- a key that an inode after has isn't that of the first
hits_none : (k : Key) (inodes : List (Key × Inode)) → AllByRecursion (λ i. same_key i.0 k ≡ false) inodes → hits k inodes ≡ 0
hits_none k [] h = refl
hits_none k (i ∷ inodes) h = let first = sum_by-cons (λ (x : Key × Inode). cond (same_key x.0 k) 1 0) i inodes in let none : cond {A = ℕ} (same_key i.0 k) 1 0 ≡ 0 = ap (λ (b : Bool). cond {A = ℕ} b 1 0) h.0 in let rest = hits_none k inodes h.1 in omega (arith, first, none, rest)

hits_once : (k : Key) (inodes : List (Key × Inode)) → is_sorted key_cmp inodes ≡ true → hits k inodes ≤ 1
hits_once k [] sorted = omega arith
hits_once k (i ∷ inodes) sorted = by (same_key i.0 k) refl (hits_once k inodes parts.1)
  where
    parts : (below_all key_cmp i.0 inodes ≡ true) × (is_sorted key_cmp inodes ≡ true)
    parts = both_true (below_all key_cmp i.0 inodes) (is_sorted key_cmp inodes) sorted

    another : (j : Key × Inode) → is_lt (key_cmp i.0 j.0) ≡ true → i.0 ≡ k → (b : Bool) → same_key j.0 k ≡ b → same_key j.0 k ≡ false
    another j less is true e = absurd (not_below_itself key_cmp keys_total i.0 j.0 less (is ∙ sym (same_key_is j.0 k e)))
    another j less is false e = e

    others : i.0 ≡ k → AllByRecursion (λ (j : Key × Inode). same_key j.0 k ≡ false) inodes
    others is = all_weaker (λ (j : Key × Inode). is_lt (key_cmp i.0 j.0) ≡ true) (λ (j : Key × Inode). same_key j.0 k ≡ false) inodes
        (λ j less. another j less is (same_key j.0 k) refl) (all_behind key_cmp i.0 inodes parts.0)

    by : (b : Bool) → same_key i.0 k ≡ b → hits k inodes ≤ 1 → hits k (i ∷ inodes) ≤ 1
    by true e rest = let first = sum_by-cons (λ (x : Key × Inode). cond (same_key x.0 k) 1 0) i inodes in let one : cond {A = ℕ} (same_key i.0 k) 1 0 ≡ 1 = ap (λ (b : Bool). cond {A = ℕ} b 1 0) e in let none = hits_none k inodes (others (same_key_is i.0 k e)) in omega (arith, first, one, none)
    by false e rest = let first = sum_by-cons (λ (x : Key × Inode). cond (same_key x.0 k) 1 0) i inodes in let none : cond {A = ℕ} (same_key i.0 k) 1 0 ≡ 0 = ap (λ (b : Bool). cond {A = ℕ} b 1 0) e in omega (arith, first, none, rest)

abbrev under : List (Place × Key) → List (Key × Inode) → ℕ
under names inodes = sum_by (λ i. length (listed_in names i.0)) inodes

under_none : (inodes : List (Key × Inode)) → under [] inodes ≡ 0
under_none [] = refl
under_none (i ∷ inodes) = let first = sum_by-cons (λ (x : Key × Inode). length (listed_in [] x.0)) i inodes in let rest = under_none inodes in omega (arith, first, rest)

one_name : (e : Place × Key) (names : List (Place × Key)) (k : Key) → length (listed_in (e ∷ names) k) ≡ cond (same_key k e.0.0) 1 0 + length (listed_in names k)
one_name e names k = by (same_key k e.0.0)
  where
    by : (b : Bool) → length (cons_option (if b then Some (e.0.1, e.1) else None) (listed_in names k)) ≡ cond b 1 0 + length (listed_in names k)
    by true = omega arith
    by false = omega arith

under_cons : (e : Place × Key) (names : List (Place × Key)) (inodes : List (Key × Inode)) → under (e ∷ names) inodes ≡ hits e.0.0 inodes + under names inodes
under_cons e names [] = refl
under_cons e names (i ∷ inodes) =
    let all = sum_by-cons (λ (x : Key × Inode). length (listed_in (e ∷ names) x.0)) i inodes in
    let hit = sum_by-cons (λ (x : Key × Inode). cond (same_key x.0 e.0.0) 1 0) i inodes in
    let old = sum_by-cons (λ (x : Key × Inode). length (listed_in names x.0)) i inodes in
    let one = one_name e names i.0 in
    let rest = under_cons e names inodes in omega (arith, all, hit, old, one, rest)

under_all : (names : List (Place × Key)) (inodes : List (Key × Inode)) → is_sorted key_cmp inodes ≡ true → under names inodes ≤ length names
under_all [] inodes sorted = let none = under_none inodes in omega (arith, none)
under_all (e ∷ names) inodes sorted =
    let first = under_cons e names inodes in
    let once = hits_once e.0.0 inodes sorted in
    let rest = under_all names inodes sorted in omega (arith, first, once, rest)

-- ---- the whole

-- no more blocks come of those that are put than each once
once_fewer : (blocks more : List (List ℕ)) → length (fold with_block blocks more) ≤ length blocks + length more
once_fewer blocks [] = omega arith
once_fewer blocks (b ∷ more) = let rest = once_fewer (with_block blocks b) more in let one = by (list_any (bytes_eq b) blocks) in omega (arith, rest, one)
  where
    by : (t : Bool) → length (cond t blocks (blocks ++ b ∷ [])) ≤ length blocks + 1
    by true = omega arith
    by false = let both = length-append blocks (b ∷ []) in omega (arith, both)

pub snapshot_size : (view : View) (b : Basis) → AllByRecursion (λ i. HasBounds i.1) b.tree.inodes → is_sorted key_cmp b.tree.inodes ≡ true → length (snapshot_blocks view b) ≤ 4098 * length b.tree.inodes + 2 * length b.tree.names + 1
snapshot_size view b bounds sorted =
    let made : List Made = map (inode_made b.tree) b.tree.inodes in
    let once = once_fewer [] (snapshot_of view b).putting in
    let whole : size (snapshot_of view b) ≡ sizes (list_of made).1 + 1 = over_size _ (list_of made).1 in
    let lists = listed_sizes 3 1 made in
    let as_many = length-map b.tree.inodes (inode_made b.tree) in
    let inodes = inodes_sizes b.tree b.tree.inodes bounds in
    let names = under_all b.tree.names b.tree.inodes sorted in
    omega (arith, once, whole, lists, as_many, inodes, names)

-- ---- records have so many bytes

-- the third of the parts, where the first two have four bytes each
third_is : (a b c d e f g h : List ℕ) → length a ≡ 4 → length b ≡ 4 → length c ≡ 20 → take 20 (drop 8 (a ++ b ++ c ++ d ++ e ++ f ++ g ++ h)) ≡ c
third_is a b c d e f g h one two three =
    let front : length (a ++ b) ≡ 8 = let both = length-append a b in omega (arith, both, one, two) in
    let head : length (a ++ b ++ c) ≡ 28 = let both = length-append (a ++ b) c in omega (arith, both, front, three) in
    let four = length-append (a ++ b ++ c) d in
    let five = length-append (a ++ b ++ c ++ d) e in
    let six = length-append (a ++ b ++ c ++ d ++ e) f in
    let seven = length-append (a ++ b ++ c ++ d ++ e ++ f) g in
    let eight = length-append (a ++ b ++ c ++ d ++ e ++ f ++ g) h in
    ap (take 20)
    (drop-append-le 8 (a ++ b ++ c ++ d ++ e ++ f ++ g) h (omega (arith, head, four, five, six, seven))
    ∙ ap (λ x. x ++ h) (drop-append-le 8 (a ++ b ++ c ++ d ++ e ++ f) g (omega (arith, head, four, five, six))
    ∙ ap (λ x. x ++ g) (drop-append-le 8 (a ++ b ++ c ++ d ++ e) f (omega (arith, head, four, five))
    ∙ ap (λ x. x ++ f) (drop-append-le 8 (a ++ b ++ c ++ d) e (omega (arith, head, four))
    ∙ ap (λ x. x ++ e) (drop-append-le 8 (a ++ b ++ c) d (omega (arith, head))
    ∙ ap (λ x. x ++ d) (subst (λ n. drop n (a ++ b ++ c) ≡ c) front (drop-append_seam (a ++ b) c)))))))
    ∙ (ap (take 20) (sym_assoc c d e f g h) ∙ subst (λ n. take n (c ++ (d ++ e ++ f ++ g ++ h)) ≡ c) three (take-append_seam c (d ++ e ++ f ++ g ++ h)))
  where
    sym_assoc : (c d e f g h : List ℕ) → c ++ d ++ e ++ f ++ g ++ h ≡ c ++ (d ++ e ++ f ++ g ++ h)
    sym_assoc c d e f g h =
        ap (λ x. x ++ e ++ f ++ g ++ h) refl
        ∙ (ap (λ x. x ++ f ++ g ++ h) (append_assoc c d e)
        ∙ (ap (λ x. x ++ g ++ h) (append_assoc c (d ++ e) f)
        ∙ (ap (λ x. x ++ h) (append_assoc c (d ++ e ++ f) g) ∙ append_assoc c (d ++ e ++ f ++ g) h)))

-- a block of a record names its log
log_in_block : (r : Record) → take 20 (drop 8 (record_block r)) ≡ (head_key_of r.owner).0
log_in_block r = third_is (record_tag r.format) (word (record_kind r.op)) (head_key_of r.owner).0 r.prev.0 (word r.seq) (moment r.moment) (array vector_entry r.vector) (body r.op) refl refl (length-digest r.owner.0)

eight_long : (a b c d e f g h : List ℕ) → length c ≡ 20 → length d ≡ 20 → 40 ≤ length (a ++ b ++ c ++ d ++ e ++ f ++ g ++ h)
eight_long a b c d e f g h third fourth =
    let two = length-append a b in
    let three = length-append (a ++ b) c in
    let four = length-append (a ++ b ++ c) d in
    let five = length-append (a ++ b ++ c ++ d) e in
    let six = length-append (a ++ b ++ c ++ d ++ e) f in
    let seven = length-append (a ++ b ++ c ++ d ++ e ++ f) g in
    let eight = length-append (a ++ b ++ c ++ d ++ e ++ f ++ g) h in omega (arith, two, three, four, five, six, seven, eight, third, fourth)

record_bytes : (r : Record) → HasSpelling r → 40 ≤ length (record_block r)
record_bytes r fits = eight_long (record_tag r.format) (word (record_kind r.op)) (head_key_of r.owner).0 r.prev.0 (word r.seq) (moment r.moment) (array vector_entry r.vector) (body r.op) (length-digest r.owner.0) fits.prev.size

records_bytes : (s : List Record) → AllByRecursion HasSpelling s → 40 * length s ≤ total (map record_block s)
records_bytes [] h = omega arith
records_bytes (r ∷ s) h = let first = total_cons (record_block r) (map record_block s) in let one = record_bytes r h.0 in let rest = records_bytes s h.1 in omega (arith, first, one, rest)

-- ---- the records of a closed set have blocks of their own

module _ (view : View) (well : IsView view) (s : List Record) (closed : IsClosed view s) where
  same_record : (p q : Record) → Contains s p → Contains s q → record_block p ≡ record_block q → p ≡ q
  same_record p q c d same =
      let member : Contains view.members p.owner = each (λ (r : Record). Contains view.members r.owner) s p closed.members c in
      let also : Contains view.members q.owner = each (λ (r : Record). Contains view.members r.owner) s q closed.members d in
      let log : head_key_of p.owner ≡ head_key_of q.owner = ap (λ (bytes : List ℕ). record { 0 = bytes }) (sym (log_in_block p) ∙ (ap (λ (b : List ℕ). take 20 (drop 8 b)) same ∙ log_in_block q)) in
      let owned = one_member view p.owner q.owner well member also log in
      whole (one_record q.owner) p q (owned, (good_of view s p closed c).spelled) (refl, (good_of view s q closed d).spelled) same

  -- no two of them are equal
  itself : (r : Record) → IsTrue (is_lt (record_cmp r r)) → ⊥
  itself r less = let tied : is_lt (record_cmp r r) ≡ false = ap is_lt (tied_itself records_total r) in cc (sym less ∙ tied)

  blocks_apart : (rs : List Record) → IsAscending rs → ((r : Record) → Contains rs r → Contains s r) → AreApart (map record_block rs)
  blocks_apart [] ascending within = tt
  blocks_apart (r ∷ rs) ascending within = (
    λ twice.
        let found = from_map record_block rs (record_block r) twice in
        let is : r ≡ found.0 = same_record r found.0 (within r (here r rs)) (within found.0 (there r rs found.0 found.1)) found.2 in
        let later : IsTrue (is_lt (record_cmp r found.0)) = each (λ (q : Record). IsTrue (is_lt (record_cmp r q))) rs found.0 ascending.0 found.1 in
        itself r (subst (λ (q : Record). IsTrue (is_lt (record_cmp r q))) (sym is) later),
    blocks_apart rs ascending.1 (λ q c. within q (there r rs q c)),
  )

  pub few_records : (met : List (List ℕ)) → Stand met s → 40 * length s ≤ total met
  few_records met stands =
      let bytes = records_bytes s (each_from HasSpelling s (λ r c. (good_of view s r closed c).spelled)) in
      let all = no_more_bytes (map record_block s) met (blocks_apart s closed.ascending (λ r c. c)) (λ b c.
      let found = from_map record_block s b c in subst (Contains met) (sym found.2) (each (StandsAmong met) s found.0 stands found.1)) in
      omega (arith, bytes, all)

-- ---- what would be saved of a snapshot

pub snapshots_are_few : SnapshotsAreFew
snapshots_are_few w p view keeps few little apart among in_view =
    let a = p.agent in
    let saved = each (IsKeptSo IsSavedWell) w.0.participants p keeps.saved among in
    let its_view = subst (λ (o : Option View). IfSome o (λ v. IsView v × HasKeys v × Contains v.members (own_hss_key a) × AllByRecursion (λ e. IsTrue (is_named v e.0)) a.floor)) in_view saved.3.agent.view in
    let sound : IsSound w.0.met p (knowing_of w.1 p.name) view =
    subst (IsSoundIn w.0.met p (knowing_of w.1 p.name)) in_view (each (λ (x : Participant). IsSoundIn w.0.met x (knowing_of w.1 x.name) x.agent.view) w.0.participants p (keeps.sound apart).agents among) in
    let held = holding_stands view a.floor a.holding (known_of w.1 p.name) sound.knows in
    let below = held.0 in
    let stands = held.1 in
    let records = few_records view its_view.0 below stands.closed w.0.met (each_from (StandsAmong w.0.met) below (λ r c. each (StandsAmong w.0.met) (known_of w.1 p.name) r sound.stand (held.2 r c))) in
    let bounded = set_is_bounded view below its_view.0 stands.closed in
    let b = basis_of a.holding in
    let tree : b.tree ≡ replay below = stands.tree in
    let bounds = subst (λ (t : Tree). AllByRecursion (λ (i : Key × Inode). HasBounds i.1) t.inodes) (sym tree) (all_weaker (λ (i : Key × Inode). IsKey i.0 × HasBounds i.1) (λ (i : Key × Inode). HasBounds i.1) (replay below).inodes (λ i h. h.1) bounded.inodes) in
    let sorted = subst (λ (t : Tree). is_sorted key_cmp t.inodes ≡ true) (sym tree) (records_make_sound_trees (map effect (in_order below))).order.inodes in
    let blocks = snapshot_size view b bounds sorted in
    let inodes = subst (λ (t : Tree). length t.inodes ≤ 1 + 2 * length below) (sym tree) (inodes_most view below stands.closed) in
    let names = subst (λ (t : Tree). length t.names ≤ length below) (sym tree) (names_most view below stands.closed) in
    let pending = few_pending w keeps few little p among in
    let new = short_filter (λ bytes. not (is_pending_block a.pending bytes)) (snapshot_blocks view b) in
    let posts = length-append a.pending (map block_post (filter (λ bytes. not (is_pending_block a.pending bytes)) (snapshot_blocks view b))) in
    let as_many = length-map (filter (λ bytes. not (is_pending_block a.pending bytes)) (snapshot_blocks view b)) block_post in
    omega (arith, records, blocks, inodes, names, pending, new, posts, as_many, little)
