-- Each block of a snapshot is bytes, so many that a word counts them: where what the snapshot is of is within its bounds and has bytes.
use Rattle.std.proofs.Common.{◌≡◌, ℕ, zero, suc, ◌+◌, ◌-◌, ◌*◌, ◌%◌, ◌<◌, ◌≤◌, ◌^◌, Bool, true, false, cond, List, [], ◌∷◌, ◌++◌, length, map, fold, take, drop, Option, Some, None, refl, arith, length-append, length-take, mul-suc}
use Rattle.std.specs.Prelude.{IfSome, flat_map, if◌then◌else◌, nat_le}
use Rattle.std.specs.List.{AllByRecursion, cons_option, filter_map, list_any}
use Rattle.std.specs.Str.{bytes_eq}
use Rattle.std.proofs.lemmas.List.{length-map, length-replicate}
use Rattle.std.proofs.lemmas.Bool.{leb-true}
use Rattle.ivy_base.specs.declared.key.Key.{Key}
use Rattle.ivy_base.specs.declared.operation.Kind.{Kind}
use Rattle.ivy_base.specs.declared.operation.Kind.TheVariants.{Reg, Dir, Lnk}
use Rattle.ivy_base.specs.declared.operation.Moment.{Moment}
use Rattle.ivy_base.specs.Naming.{IsFileName}
use Rattle.tree_model.specs.Tree.{Attributes, Inode, Place, Tree, listing, same_key}
use Rattle.wire_model.specs.Xdr.{array, double_word, moment, opaque, optional, padding, word}
use Rattle.log_model.specs.Rank.{Rank}
use Rattle.log_model.specs.Spelling.{IsKey, kind_number, vector_entry}
use Rattle.log_model.specs.Vector.{Entry}
use Rattle.log_model.specs.View.{View, view_block, view_name}
use Rattle.log_model.proofs.Lists.{each_append}
use Rattle.turn_model.specs.Basis.{Basis}
use Rattle.turn_laws.proofs.Octets as octets
use Rattle.turn_laws.proofs.Octets.{AreOctets, joined, no_octets, take_each, zeros}
use Rattle.agent_model.specs.SavedBytes.{AreOpaque}
use Rattle.snapshot_model.specs.Blocks.{IsRankSpelled, IsStamped, NamedList, attributes_bytes, entries_block, entries_tag, entry_bytes, inode_block, inode_tag, list_block, listed_bytes, most_entries, names_tag, rank_bytes, root_block, root_tag}
use Rattle.snapshot_model.specs.Reading.{HasBounds, IsBodyOf}
use Rattle.snapshot_model.specs.Spelling.{Made, content_size, entries_made, in_pieces, inode_made, items_of, list_blocks_over, list_made, list_of, made_name, named_by, over, piece_made, pieces, snapshot_blocks, snapshot_of, symbolic_link_text, with_block}
use Rattle.snapshot_model.proofs.MadeLists.{is_key, named_key}
use Rattle.snapshot_model.proofs.Pieces.{each_joined, short_pieces}
use Rattle.world_laws.proofs.TreeBytes.{AreNamed, dropped_octets}

-- bytes, and so many at most
record IsWithin (most : ℕ) (bytes : List ℕ) : Type 0 where
  few : length bytes ≤ most
  octets : AreOctets bytes

to_opaque : (most : ℕ) (bytes : List ℕ) → most < 2 ^ 32 → IsWithin most bytes → AreOpaque bytes
to_opaque most bytes fits h = let few = h.few in (omega (arith, fits, few), h.octets.each)

-- ---- parts

after : (m n : ℕ) (a b : List ℕ) → IsWithin m a → IsWithin n b → IsWithin (m + n) (a ++ b)
after m n a b f g = record { few = let size = length-append a b in let one = f.few in let other = g.few in omega (arith, size, one, other); octets = joined {a = a} {b = b} f.octets g.octets }

a_word : (n : ℕ) → IsWithin 4 (word n)
a_word n = record { few = let size : length (word n) ≡ 4 = refl in omega (arith, size); octets = octets.a_word n }

a_double_word : (n : ℕ) → IsWithin 8 (double_word n)
a_double_word n = record { few = let size : length (double_word n) ≡ 8 = refl in omega (arith, size); octets = octets.a_double_word n }

a_moment : (m : Moment) → IsWithin 8 (moment m)
a_moment m = after 4 4 (word m.sec) (word m.nsec) (a_word m.sec) (a_word m.nsec)

a_key : (k : Key) → IsKey k → IsWithin 20 k.0
a_key k h = record { few = let size = h.size in omega (arith, size); octets = record { each = h.each } }

few_zeros : (n : ℕ) → length (padding n) ≤ 4
few_zeros n = let size = length-replicate {A = ℕ} ((4 - n % 4) % 4) 0 in omega (arith, size)

an_opaque : (n : ℕ) (bytes : List ℕ) → IsWithin n bytes → IsWithin (4 + (n + 4)) (opaque bytes)
an_opaque n bytes h =
    after 4 (n + 4) (word (length bytes)) (bytes ++ padding (length bytes)) (a_word (length bytes))
    (after n 4 bytes (padding (length bytes)) h (record { few = few_zeros (length bytes); octets = record { each = zeros ((4 - length bytes % 4) % 4) } }))

flat_few : {A : Type 0} (n : ℕ) (item : A → List ℕ) (xs : List A) → AllByRecursion (λ x. IsWithin n (item x)) xs → length (flat_map item xs) ≤ n * length xs
flat_few n item [] h = omega arith
flat_few n item (x ∷ xs) h =
    let size = length-append (item x) (flat_map item xs) in
    let one = h.0.few in
    let rest = flat_few n item xs h.1 in
    let times = mul-suc n (length xs) in omega (arith, size, one, rest, times)

flat_octets : {A : Type 0} (n : ℕ) (item : A → List ℕ) (xs : List A) → AllByRecursion (λ x. IsWithin n (item x)) xs → AreOctets (flat_map item xs)
flat_octets n item [] h = no_octets
flat_octets n item (x ∷ xs) h = joined {a = item x} {b = flat_map item xs} h.0.octets (flat_octets n item xs h.1)

an_array : {A : Type 0} (n most : ℕ) (item : A → List ℕ) (xs : List A) → AllByRecursion (λ x. IsWithin n (item x)) xs → n * length xs ≤ most → IsWithin (4 + most) (array item xs)
an_array n most item xs h few =
    after 4 most (word (length xs)) (flat_map item xs) (a_word (length xs)) (record { few = let size = flat_few n item xs h in omega (arith, size, few); octets = flat_octets n item xs h })

each_so : {A : Type 0} (P Q : A → Type 0) (xs : List A) → ((x : A) → P x → Q x) → AllByRecursion P xs → AllByRecursion Q xs
each_so P Q [] so h = tt
each_so P Q (x ∷ xs) so h = (so x h.0, each_so P Q xs so h.1)

-- ---- blocks of lists

abbrev Puts : Made → Type 0
Puts m = AllByRecursion AreOpaque m.putting

abbrev AllPut : List Made → Type 0
AllPut ms = AllByRecursion Puts ms

below_put : (ms : List Made) → AllPut ms → AllByRecursion AreOpaque (flat_map (λ m. m.putting) ms)
below_put [] h = tt
below_put (m ∷ ms) h = each_append AreOpaque m.putting (flat_map (λ (x : Made). x.putting) ms) h.0 (below_put ms h.1)

over_puts : (bytes : List ℕ) (below : List Made) → AreOpaque bytes → AllPut below → Puts (over bytes below)
over_puts bytes below h all = each_append AreOpaque (flat_map (λ (x : Made). x.putting) below) (bytes ∷ []) (below_put below all) (h, tt)

names_within : (ms : List Made) → AllByRecursion (λ (k : Key). IsWithin 20 k.0) (map made_name ms)
names_within [] = tt
names_within (m ∷ ms) = (a_key (made_name m) (is_key m.bytes), names_within ms)

list_opaque : (level : ℕ) (items : List Made) → length items ≤ 512 → AreOpaque (list_block level (map made_name items))
list_opaque level items few =
    let size = length-map items made_name in
    to_opaque 10252 (list_block level (map made_name items)) (omega arith)
    (after 8 10244 (names_tag ++ word level) (array (λ (k : Key). k.0) (map made_name items)) (after 4 4 names_tag (word level) (record { few = omega arith; octets = record { each = refl } }) (a_word level))
    (an_array 20 10240 (λ (k : Key). k.0) (map made_name items) (names_within items) (omega (arith, few, size))))

each_list : (level : ℕ) (parts : List (List Made)) → AllByRecursion (λ p. length p ≤ 512) parts → AllByRecursion AllPut parts → AllPut (map (list_made level) parts)
each_list level [] few all = tt
each_list level (p ∷ parts) few all = (over_puts (list_block level (map made_name p)) p (list_opaque level p few.0) all.0, each_list level parts few.1 all.1)

lists_put : (levels level : ℕ) (items : List Made) → AllPut items → AllPut (list_blocks_over levels level items).1
lists_put zero level [] all = tt
lists_put zero level (m ∷ ms) all = tt
lists_put (suc n) level [] all = tt
lists_put (suc n) level (m ∷ ms) all =
    by (nat_le (length (m ∷ ms)) 512) refl
    (lists_put n (level + 1) (map (list_made level) (in_pieces 512 (m ∷ ms))) (each_list level (in_pieces 512 (m ∷ ms)) (short_pieces (length (m ∷ ms)) 512 (m ∷ ms)) (each_joined Puts (length (m ∷ ms)) 512 (m ∷ ms) all)))
  where
    by : (b : Bool) → nat_le (length (m ∷ ms)) 512 ≡ b → AllPut (list_blocks_over n (level + 1) (map (list_made level) (in_pieces 512 (m ∷ ms)))).1
        → AllPut (if b then (level, list_made level (m ∷ ms) ∷ []) else list_blocks_over n (level + 1) (map (list_made level) (in_pieces 512 (m ∷ ms)))).1
    by true e rest = (over_puts (list_block level (map made_name (m ∷ ms))) (m ∷ ms) (list_opaque level (m ∷ ms) (leb-true (length (m ∷ ms)) 512 e)) all, tt)
    by false e rest = rest

-- ---- inodes

-- an entry of a directory: its name is bytes, and short
abbrev pub IsWell : List ℕ × Key → Type 0
IsWell e = AreOctets e.0 × (length e.0 ≤ 255) × IsKey e.1

pieces_put : (n : ℕ) (bytes : List ℕ) → AreOctets bytes → AllPut (map piece_made (pieces n 8192 bytes))
pieces_put zero bytes h = tt
pieces_put (suc n) [] h = tt
pieces_put (suc n) (b ∷ bytes) h = (
  over_puts (take 8192 (b ∷ bytes)) [] (let size = length-take 8192 (b ∷ bytes) in (omega (arith, size), take_each 8192 (b ∷ bytes) h.each)) tt,
  pieces_put n (drop 8192 (b ∷ bytes)) (dropped_octets 8192 (b ∷ bytes) h),
)

entry_within : (e : List ℕ × Key) → IsWell e → IsWithin 283 (entry_bytes e)
entry_within e h = after 263 20 (opaque e.0) e.1.0 (an_opaque 255 e.0 (record { few = h.1; octets = h.0 })) (a_key e.1 h.2)

entries_opaque : (entries : List (List ℕ × Key)) → length entries ≤ most_entries → AllByRecursion IsWell entries → AreOpaque (entries_block entries)
entries_opaque entries few all =
    to_opaque 9064 (entries_block entries) (omega arith)
    (after 4 9060 entries_tag (array entry_bytes entries) (record { few = omega arith; octets = record { each = refl } })
    (an_array 283 9056 entry_bytes entries (each_so IsWell (λ (e : List ℕ × Key). IsWithin 283 (entry_bytes e)) entries entry_within all) (omega (arith, few))))

entries_put : (parts : List (List (List ℕ × Key))) → AllByRecursion (λ p. length p ≤ most_entries) parts → AllByRecursion (AllByRecursion IsWell) parts → AllPut (map entries_made parts)
entries_put [] few all = tt
entries_put (p ∷ parts) few all = (over_puts (entries_block p) [] (entries_opaque p few.0 all.0) tt, entries_put parts few.1 all.1)

items_put : (entries : List (List ℕ × Key)) (body : List ℕ) (kind : Kind) → AreOctets body → AllByRecursion IsWell entries → AllPut (items_of entries body kind)
items_put entries body Reg h all = pieces_put (length body) body h
items_put entries body Dir h all = entries_put (in_pieces most_entries entries) (short_pieces (length entries) most_entries entries) (each_joined IsWell (length entries) most_entries entries all)
items_put entries body Lnk h all = tt

target_within : (body : List ℕ) (kind : Kind) → IsBodyOf kind body → AreOctets body → IsWithin 1024 (symbolic_link_text body kind)
target_within body Reg fits h = record { few = omega arith; octets = no_octets }
target_within body Dir fits h = record { few = omega arith; octets = no_octets }
target_within body Lnk fits h = record { few = fits.1; octets = h }

attributes_within : (a : Attributes) → IsWithin 36 (attributes_bytes a)
attributes_within a =
    after 28 8 (word a.mode ++ word a.uid ++ word a.gid ++ moment a.atime ++ moment a.mtime) (moment a.ctime)
    (after 20 8 (word a.mode ++ word a.uid ++ word a.gid ++ moment a.atime) (moment a.mtime)
    (after 12 8 (word a.mode ++ word a.uid ++ word a.gid) (moment a.atime)
    (after 8 4 (word a.mode ++ word a.uid) (word a.gid) (after 4 4 (word a.mode) (word a.uid) (a_word a.mode) (a_word a.uid)) (a_word a.gid)) (a_moment a.atime)) (a_moment a.mtime)) (a_moment a.ctime)

listed_within : (l : NamedList) → IsKey l.top → IsWithin 24 (listed_bytes l)
listed_within l key = after 4 20 (word l.level) l.top.0 (a_word l.level) (a_key l.top key)

module _ (number : Key) (i : Inode) (items : ℕ × List Made) (key : IsKey number) (bounds : HasBounds i) (h : AreOctets i.body) where
  abbrev target : List ℕ
  target = symbolic_link_text i.body i.kind

  abbrev size : ℕ
  size = content_size i.body i.kind

  inode_opaque : AreOpaque (inode_block (record { number = number; kind = i.kind; attributes = i.attributes; size = size; target = target; items = named_by items }))
  inode_opaque =
      to_opaque 1128 (inode_tag ++ number.0 ++ word (kind_number i.kind) ++ attributes_bytes i.attributes ++ double_word size ++ opaque target ++ listed_bytes (named_by items)) (omega arith)
      (after 1104 24 (inode_tag ++ number.0 ++ word (kind_number i.kind) ++ attributes_bytes i.attributes ++ double_word size ++ opaque target) (listed_bytes (named_by items))
      (after 72 1032 (inode_tag ++ number.0 ++ word (kind_number i.kind) ++ attributes_bytes i.attributes ++ double_word size) (opaque target)
      (after 64 8 (inode_tag ++ number.0 ++ word (kind_number i.kind) ++ attributes_bytes i.attributes) (double_word size)
      (after 28 36 (inode_tag ++ number.0 ++ word (kind_number i.kind)) (attributes_bytes i.attributes)
      (after 24 4 (inode_tag ++ number.0) (word (kind_number i.kind)) (after 4 20 inode_tag number.0 (record { few = omega arith; octets = record { each = refl } }) (a_key number key)) (a_word (kind_number i.kind))) (attributes_within i.attributes)) (a_double_word size))
      (an_opaque 1024 target (target_within i.body i.kind bounds.body h))) (listed_within (named_by items) (named_key items)))

-- the inode's parts are bytes, within their bounds
abbrev pub IsWellIn : Tree → Key × Inode → Type 0
IsWellIn t i = IsKey i.0 × HasBounds i.1 × AreOctets i.1.body × AllByRecursion IsWell (listing t i.0)

inode_puts : (t : Tree) (i : Key × Inode) → IsWellIn t i → Puts (inode_made t i)
inode_puts t i h =
    let items = list_of (items_of (listing t i.0) i.1.body i.1.kind) in
    over_puts _ items.1 (inode_opaque i.0 i.1 items h.0 h.1 h.2) (lists_put 3 1 (items_of (listing t i.0) i.1.body i.1.kind) (items_put (listing t i.0) i.1.body i.1.kind h.2 h.3))

inodes_put : (t : Tree) (inodes : List (Key × Inode)) → AllByRecursion (IsWellIn t) inodes → AllPut (map (inode_made t) inodes)
inodes_put t [] h = tt
inodes_put t (i ∷ inodes) h = (inode_puts t i h.0, inodes_put t inodes h.1)

-- ---- the root

entry_of_vector : (e : Entry) → IsStamped e → IsWithin 44 (vector_entry e)
entry_of_vector e h = after 24 20 (e.0.0 ++ word e.1.seq) e.1.name.0 (after 20 4 e.0.0 (word e.1.seq) (a_key e.0 h.0) (a_word e.1.seq)) (a_key e.1.name h.3)

a_rank : (r : Rank) → IsRankSpelled r → IsWithin 72 (rank_bytes r)
a_rank r h = after 68 4 (double_word r.weight ++ r.owner.0) (word r.seq) (after 8 60 (double_word r.weight) r.owner.0 (a_double_word r.weight) (record { few = let size = h.owner.size in omega (arith, size); octets = record { each = h.owner.each } })) (a_word r.seq)

a_tide : (o : Option Rank) → IfSome o IsRankSpelled → IsWithin 76 (optional rank_bytes o)
a_tide None h = let first = a_word 0 in record { few = let few = first.few in omega (arith, few); octets = first.octets }
a_tide (Some r) h = after 4 72 (word 1) (rank_bytes r) (a_word 1) (a_rank r h)

-- what a snapshot is of: within its bounds, and bytes
pub record IsWellMade (b : Basis) : Type 0 where
  pub front : AllByRecursion IsStamped b.front
  pub few : length b.front ≤ 32
  pub tide : IfSome b.tide IsRankSpelled
  pub inodes : AllByRecursion (IsWellIn b.tree) b.tree.inodes

root_opaque : (view : Key) (b : Basis) (inodes : ℕ × List Made) → IsKey view → IsWellMade b → AreOpaque (root_block (record { view = view; front = b.front; tide = b.tide; inodes = named_by inodes }))
root_opaque view b inodes key h =
    let few = h.few in
    to_opaque 1536 (root_tag ++ view.0 ++ array vector_entry b.front ++ optional rank_bytes b.tide ++ listed_bytes (named_by inodes)) (omega arith)
    (after 1512 24 (root_tag ++ view.0 ++ array vector_entry b.front ++ optional rank_bytes b.tide) (listed_bytes (named_by inodes))
    (after 1436 76 (root_tag ++ view.0 ++ array vector_entry b.front) (optional rank_bytes b.tide)
    (after 24 1412 (root_tag ++ view.0) (array vector_entry b.front) (after 4 20 root_tag view.0 (record { few = omega arith; octets = record { each = refl } }) (a_key view key))
    (an_array 44 1408 vector_entry b.front (each_so IsStamped (λ (e : Entry). IsWithin 44 (vector_entry e)) b.front entry_of_vector h.front) (omega (arith, few)))) (a_tide b.tide h.tide)) (listed_within (named_by inodes) (named_key inodes)))

-- ---- the whole

each_once : (blocks more : List (List ℕ)) → AllByRecursion AreOpaque blocks → AllByRecursion AreOpaque more → AllByRecursion AreOpaque (fold with_block blocks more)
each_once blocks [] h g = h
each_once blocks (b ∷ more) h g = each_once (with_block blocks b) more (by (list_any (bytes_eq b) blocks)) g.1
  where
    by : (t : Bool) → AllByRecursion AreOpaque (cond t blocks (blocks ++ b ∷ []))
    by true = h
    by false = each_append AreOpaque blocks (b ∷ []) h (g.0, tt)

pub snapshots_are_opaque : (view : View) (b : Basis) → IsWellMade b → AllByRecursion AreOpaque (snapshot_blocks view b)
snapshots_are_opaque view b h =
    let inodes = list_of (map (inode_made b.tree) b.tree.inodes) in
    each_once [] (snapshot_of view b).putting tt
    (over_puts _ inodes.1 (root_opaque (view_name view) b inodes (is_key (view_block view)) h) (lists_put 3 1 (map (inode_made b.tree) b.tree.inodes) (inodes_put b.tree b.tree.inodes h.inodes)))

-- ---- what directories list

pub listed_well : (names : List (Place × Key)) (dir : Key) → AreNamed names → AllByRecursion (λ e. IsKey e.0.0 × IsFileName e.0.1 × IsKey e.1) names
    → AllByRecursion IsWell (filter_map (λ e. if same_key dir e.0.0 then Some (e.0.1, e.1) else None) names)
listed_well [] dir named h = tt
listed_well (e ∷ names) dir named h = by (same_key dir e.0.0) (listed_well names dir named.1 h.1)
  where
    rest : List (List ℕ × Key)
    rest = filter_map (λ (x : Place × Key). if same_key dir x.0.0 then Some (x.0.1, x.1) else None) names

    by : (b : Bool) → AllByRecursion IsWell rest → AllByRecursion IsWell (cons_option (if b then Some (e.0.1, e.1) else None) rest)
    by true again = ((named.0, h.0.1.short, h.0.2), again)
    by false again = again
