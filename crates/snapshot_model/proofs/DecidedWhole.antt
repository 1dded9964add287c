-- Of any blocks it is known whether they are the snapshot of a basis: all bases are searched through whose parts have their bounds, and whose bytes are below a
-- bound of those of the blocks.
use Rattle.std.proofs.Common.{◌≡◌, ℕ, zero, suc, ◌+◌, ◌*◌, ◌<◌, ◌≤◌, inl, inr, Bool, true, false, List, [], ◌∷◌, length, map, Option, refl, sym, subst, arith}
use Rattle.std.specs.Prelude.{IfSome, IsTrue, Some, None, nat_le, if◌then◌else◌}
use Rattle.std.specs.List.{AllByRecursion, flat_map, filter_map, cons_option}
use Rattle.std.specs.FinMap.Entries.{is_sorted}
use Rattle.std.proofs.Math.Decide.{map_dec, dec_le}
use Rattle.std.proofs.lemmas.List.{length-map}
use Rattle.ivy_base.specs.declared.key.Key.{Key}
use Rattle.ivy_base.specs.declared.operation.Kind.{Kind}
use Rattle.ivy_base.specs.declared.operation.Kind.TheVariants.{Reg, Dir, Lnk}
use Rattle.ivy_base.specs.Naming.{IsFileName, key_cmp, root_number}
use Rattle.tree_model.specs.Tree.{Tree, Inode, Place, IsInOrder, place_cmp, same_key, inode_at, has_name, is_directory, is_inside, name_count, listing, longest_file}
use Rattle.tree_model.proofs.Keys.{same_key_itself}
use Rattle.log_model.specs.Rank.{Rank}
use Rattle.log_model.specs.Vector.{Vector}
use Rattle.log_model.specs.Spelling.{IsKey}
use Rattle.log_model.proofs.Lists.{each_left, each_right, each_append}
use Rattle.turn_model.specs.Basis.{Basis}
use Rattle.wire_model.specs.Xdr.{IsAny}
use Rattle.snapshot_model.specs.Blocks.{AreAttributes, IsVectorSpelled, IsRankSpelled, most_entries}
use Rattle.snapshot_model.specs.Spelling.{Made, list_made, list_blocks_over, list_of, named_by, in_pieces, piece_made, entries_made, items_of, content_size, symbolic_link_text, inode_made, snapshot_named}
use Rattle.snapshot_model.specs.Reading.{IsWholeTree, IsBodyOf, HasBounds, IsBasisSpelled, AreOf}
use Rattle.snapshot_model.proofs.Pieces.{joined, join-in_pieces, few_pieces}
use Rattle.snapshot_model.proofs.MadeLists.{readings, most_under, few_below}
use Rattle.snapshot_model.proofs.SameNames.{Has, has_each, has_listed, directory_of}
use Rattle.snapshot_model.proofs.Decided.{Searches, ◌▸◌, among, by_parts, optionally, lists_up_to, bytes_up_to, AreUpTo, AreBelow, bound_of_all, each_weaker, dec_both, dec_if, dec_not, dec_true, dec_each, dec_bytes, dec_lists, dec_option, dec_below}
use Rattle.snapshot_model.proofs.DecidedForms.{AreNamesBelow, dec_key, keys, kinds, attributes, dec_attributes, dec_file_name, dec_target, dec_vector, vectors, dec_rank, ranks}
use Rattle.snapshot_model.proofs.DecidedParts.{entries_in, target_in}

-- ---- what holds of all blocks of a list holds of those of its items

each_flat : {A B : Type 0} (P : B → Type 0) (f : A → List B) (xs : List A) → AllByRecursion P (flat_map f xs) → AllByRecursion (λ x. AllByRecursion P (f x)) xs
each_flat P f [] h = tt
each_flat P f (x ∷ xs) h = (each_left P (f x) (flat_map f xs) h, each_flat P f xs (each_right P (f x) (flat_map f xs) h))

each_mapped : {A B : Type 0} (P : B → Type 0) (f : A → B) (xs : List A) → AllByRecursion P (map f xs) → AllByRecursion (λ x. P (f x)) xs
each_mapped P f [] h = tt
each_mapped P f (x ∷ xs) h = (h.0, each_mapped P f xs h.1)

each_joined : {A : Type 0} (P : A → Type 0) (xss : List (List A)) → AllByRecursion (AllByRecursion P) xss → AllByRecursion P (joined xss)
each_joined P [] h = tt
each_joined P (xs ∷ xss) h = each_append P xs (joined xss) h.0 (each_joined P xss h.1)

of_pieces : {A : Type 0} (P : A → Type 0) (size : ℕ) (xs : List A) → 1 ≤ size → AllByRecursion (AllByRecursion P) (in_pieces size xs) → AllByRecursion P xs
of_pieces P size xs some h = subst (λ ys. AllByRecursion P ys) (join-in_pieces size xs some) (each_joined P (in_pieces size xs) h)

abbrev by_size : ℕ → ℕ → List Made → Bool → ℕ × List Made
by_size n level items b = if b then (level, list_made level items ∷ []) else list_blocks_over n (level + 1) (map (list_made level) (in_pieces 512 items))

not_few : (len : ℕ) → false ≡ nat_le len 512 → 512 < len
not_few len e = grind (arith, e)

module _ (P : List ℕ → Type 0) where
  abbrev EachOf : Made → Type 0
  EachOf m = AllByRecursion P m.reading

  of_list : (level : ℕ) (items : List Made) → EachOf (list_made level items) → AllByRecursion EachOf items
  of_list level items h = each_flat P (λ (m : Made). m.reading) items h.1

  of_listed : (n level : ℕ) (items : List Made) → length items ≤ most_under n → AllByRecursion P (readings (list_blocks_over n level items).1) → AllByRecursion EachOf items
  of_listed zero level [] few h = tt
  of_listed zero level (m ∷ ms) few h = absurd (omega (arith, few))
  of_listed (suc n) level [] few h = tt
  of_listed (suc n) level (m ∷ ms) few h =
      by (nat_le (length (m ∷ ms)) 512) refl (of_listed n (level + 1) (map (list_made level) (in_pieces 512 (m ∷ ms)))) h
    where
      by : (b : Bool) → b ≡ nat_le (length (m ∷ ms)) 512
          → (length (map (list_made level) (in_pieces 512 (m ∷ ms))) ≤ most_under n → AllByRecursion P (readings (list_blocks_over n (level + 1) (map (list_made level) (in_pieces 512 (m ∷ ms)))).1)
          → AllByRecursion EachOf (map (list_made level) (in_pieces 512 (m ∷ ms))))
          → AllByRecursion P (readings (by_size n level (m ∷ ms) b).1) → AllByRecursion EachOf (m ∷ ms)
      by true e more g = of_list level (m ∷ ms) (each_left P (list_made level (m ∷ ms)).reading [] g)
      by false e more g =
          let fewer = few_below n (m ∷ ms) few (not_few (length (m ∷ ms)) e) in
          let above = more (omega (arith, length-map (in_pieces 512 (m ∷ ms)) (list_made level), fewer)) g in
          of_pieces EachOf 512 (m ∷ ms) (omega arith)
          (each_weaker (λ items. EachOf (list_made level items)) (λ items. AllByRecursion EachOf items) (of_list level) (in_pieces 512 (m ∷ ms)) (each_mapped EachOf (list_made level) (in_pieces 512 (m ∷ ms)) above))

-- ---- inodes

abbrev Entries : Type 0
Entries = List (List ℕ × Key)

-- the bytes of an inode's body, and those of a directory's names, are below the bound
abbrev ShowsBelow : ℕ → Kind → Entries → List ℕ → Type 0
ShowsBelow m kind es body = AreBelow m body × (kind ≡ Dir → AreNamesBelow m es)

shows : (m : ℕ) (kind : Kind) (es : Entries) (body : List ℕ) → IsBodyOf kind body → length es ≤ 4294967296
    → AllByRecursion (AreBelow m) (readings (list_of (items_of es body kind)).1) → AreBelow m (symbolic_link_text body kind) → ShowsBelow m kind es body
shows m Reg es body f few h t =
    let long = few_pieces (length body) 8192 body 2048 (omega (arith, f)) in
    let each = of_listed (AreBelow m) 3 1 (map piece_made (in_pieces 8192 body)) (omega (arith, length-map (in_pieces 8192 body) piece_made, long)) h in
    let bytes = each_weaker (λ piece. EachOf (AreBelow m) (piece_made piece)) (AreBelow m) (λ piece g. g.0) (in_pieces 8192 body) (each_mapped (EachOf (AreBelow m)) piece_made (in_pieces 8192 body) each) in
    (of_pieces (λ b. b < m) 8192 body (omega arith) bytes, λ e. cc)
shows m Dir es body f few h t =
    let long = few_pieces (length es) most_entries es 134217728 (omega (arith, few)) in
    let each = of_listed (AreBelow m) 3 1 (map entries_made (in_pieces most_entries es)) (omega (arith, length-map (in_pieces most_entries es) entries_made, long)) h in
    let names = each_weaker (λ part. EachOf (AreBelow m) (entries_made part)) (AreNamesBelow m) (λ part g. entries_in m part g.0) (in_pieces most_entries es) (each_mapped (EachOf (AreBelow m)) entries_made (in_pieces most_entries es) each) in
    (subst (λ bytes. AreBelow m bytes) (sym f) tt, λ e. of_pieces (λ e. AreBelow m e.0) most_entries es (omega arith) names)
shows m Lnk es body f few h t = (t, λ e. cc)

inode_shows : (m : ℕ) (t : Tree) (i : Key × Inode) → HasBounds i.1 → length (listing t i.0) ≤ 4294967296 → AllByRecursion (AreBelow m) (inode_made t i).reading
    → ShowsBelow m i.1.kind (listing t i.0) i.1.body
inode_shows m t i f few h =
    shows m i.1.kind (listing t i.0) i.1.body f.body few h.1
    (target_in m (record {
      number = i.0;
      kind = i.1.kind;
      attributes = i.1.attributes;
      size = content_size i.1.body i.1.kind;
      target = symbolic_link_text i.1.body i.1.kind;
      items = named_by (list_of (items_of (listing t i.0) i.1.body i.1.kind));
    }) h.0)

inodes_show : (m : ℕ) (t : Tree) (inodes : List (Key × Inode)) → AllByRecursion (λ i. IsKey i.0 × HasBounds i.1) inodes → AllByRecursion (λ i. length (listing t i.0) ≤ 4294967296) inodes
    → AllByRecursion (EachOf (AreBelow m)) (map (inode_made t) inodes) → AllByRecursion (λ i. ShowsBelow m i.1.kind (listing t i.0) i.1.body) inodes
inodes_show m t [] f few h = tt
inodes_show m t (i ∷ inodes) f few h = (inode_shows m t i f.0.1 few.0 h.0, inodes_show m t inodes f.1 few.1 h.1)

-- ---- names

each_had : {A : Type 0} (P : A → Type 0) (xs : List A) → ((x : A) → Has xs x → P x) → AllByRecursion P xs
each_had P [] h = tt
each_had P (x ∷ xs) h = (h x (inl refl), each_had P xs (λ y c. h y (inr c)))

names_show : (m : ℕ) (t : Tree) → AllByRecursion (λ e. IsTrue (is_directory (inode_at t e.0.0))) t.names → AllByRecursion (λ i. ShowsBelow m i.1.kind (listing t i.0) i.1.body) t.inodes
    → AllByRecursion (λ e. AreBelow m e.0.1) t.names
names_show m t parents each = each_had (λ (e : Place × Key). AreBelow m e.0.1) t.names below
  where
    below : (e : Place × Key) → Has t.names e → AreBelow m e.0.1
    below e h =
        let dir = directory_of t.inodes e.0.0 (has_each (λ (e : Place × Key). IsTrue (is_directory (inode_at t e.0.0))) t.names e parents h) in
        let show = has_each (λ (i : Key × Inode). ShowsBelow m i.1.kind (listing t i.0) i.1.body) t.inodes (e.0.0, dir.inode) each dir.has in
        has_each (λ (x : List ℕ × Key). AreBelow m x.0) (listing t e.0.0) (e.0.1, e.1) (show.1 dir.kind) (has_listed t.names e.0.0 e.0.1 e.1 h)

-- ---- how many names there are

abbrev Listing : List (Place × Key) → Key → Entries
Listing names d = filter_map (λ e. if same_key d e.0.0 then Some (e.0.1, e.1) else None) names

abbrev total : List (Place × Key) → List (Key × Inode) → ℕ
total names [] = 0
total names (i ∷ inodes) = length (Listing names i.0) + total names inodes

one_more : (e : Place × Key) (names : List (Place × Key)) (d : Key) → length (Listing names d) ≤ length (Listing (e ∷ names) d)
one_more e names d = by (same_key d e.0.0)
  where
    by : (b : Bool) → length (Listing names d) ≤ length (cons_option (if b then Some (e.0.1, e.1) else None) (Listing names d))
    by true = omega arith
    by false = omega arith

in_its_own : (e : Place × Key) (names : List (Place × Key)) (d : Key) → same_key d e.0.0 ≡ true → suc (length (Listing names d)) ≤ length (Listing (e ∷ names) d)
in_its_own e names d same = by (same_key d e.0.0) same
  where
    by : (b : Bool) → b ≡ true → suc (length (Listing names d)) ≤ length (cons_option (if b then Some (e.0.1, e.1) else None) (Listing names d))
    by true h = omega arith
    by false h = cc

total_more : (e : Place × Key) (names : List (Place × Key)) (inodes : List (Key × Inode)) → total names inodes ≤ total (e ∷ names) inodes
total_more e names [] = omega arith
total_more e names (i ∷ inodes) = let first = one_more e names i.0 in let rest = total_more e names inodes in omega (arith, first, rest)

total_one : (e : Place × Key) (names : List (Place × Key)) (inodes : List (Key × Inode)) (inode : Inode) → Has inodes (e.0.0, inode) → suc (total names inodes) ≤ total (e ∷ names) inodes
total_one e names [] inode h = absurd h
total_one e names (i ∷ inodes) inode (inl q) =
    let same : same_key i.0 e.0.0 ≡ true = subst (λ (j : Key × Inode). same_key j.0 e.0.0 ≡ true) q (same_key_itself e.0.0) in
    let first = in_its_own e names i.0 same in
    let rest = total_more e names inodes in
    omega (arith, first, rest)
total_one e names (i ∷ inodes) inode (inr r) = let first = one_more e names i.0 in let rest = total_one e names inodes inode r in omega (arith, first, rest)

within_total : (names : List (Place × Key)) (inodes : List (Key × Inode)) → AllByRecursion (λ e. (inode : Inode) × Has inodes (e.0.0, inode)) names → length names ≤ total names inodes
within_total [] inodes h = omega arith
within_total (e ∷ names) inodes h = let rest = within_total names inodes h.1 in let more = total_one e names inodes h.0.0 h.0.1 in omega (arith, rest, more)

total_few : (names : List (Place × Key)) (inodes : List (Key × Inode)) → AllByRecursion (λ i. length (Listing names i.0) ≤ 4294967296) inodes → total names inodes ≤ length inodes * 4294967296
total_few names [] h = omega arith
total_few names (i ∷ inodes) h = let rest = total_few names inodes h.1 in let first = h.0 in omega (arith, first, rest)

most_names : (t : Tree) → AllByRecursion (λ e. IsTrue (is_directory (inode_at t e.0.0))) t.names → AllByRecursion (λ i. length (listing t i.0) ≤ 4294967296) t.inodes → length t.inodes ≤ 134217728
    → length t.names ≤ 576460752303423488
most_names t parents few inodes =
    let in_one = within_total t.names t.inodes (each_weaker (λ (e : Place × Key). IsTrue (is_directory (inode_at t e.0.0))) (λ (e : Place × Key). (inode : Inode) × Has t.inodes (e.0.0, inode))
    (λ e h. let dir = directory_of t.inodes e.0.0 h in (dir.inode, dir.has)) t.names parents) in
    let all = total_few t.names t.inodes few in
    omega (arith, in_one, all, inodes)

-- ---- decisions

dec_value : (o : Option Inode) → Dec ((i : Inode) × (o ≡ Some i))
dec_value None = no (λ w. let e = w.1 in cc)
dec_value (Some i) = yes (i, refl)

abbrev TreeParts : Tree → Type 0
TreeParts t = (((((IsInOrder t × IsTrue (is_directory (inode_at t root_number))) × (IsTrue (has_name t root_number) → ⊥))
    × AllByRecursion (λ e. IsTrue (is_directory (inode_at t e.0.0))) t.names)
    × AllByRecursion (λ e. (i : Inode) × (inode_at t e.1 ≡ Some i)) t.names)
    × AllByRecursion (λ i. IsTrue (is_directory (Some i.1)) → name_count t i.0 ≤ 1) t.inodes)
    × AllByRecursion (λ e. IsTrue (is_directory (inode_at t e.1)) → IsTrue (is_inside t e.0.0 e.1) → ⊥) t.names

dec_order : (t : Tree) → Dec (IsInOrder t)
dec_order t = map_dec {A = IsTrue (is_sorted place_cmp t.names) × IsTrue (is_sorted key_cmp t.inodes)} (λ p. record { names = p.0; inodes = p.1 }) (λ f. (f.names, f.inodes))
    (dec_both (dec_true (is_sorted place_cmp t.names)) (dec_true (is_sorted key_cmp t.inodes)))

dec_tree : (t : Tree) → Dec (IsWholeTree t)
dec_tree t = map_dec {A = TreeParts t}
    (λ p. record { in_order = p.0.0.0.0.0.0; root = p.0.0.0.0.0.1; no_name = p.0.0.0.0.1; parents = p.0.0.0.1; known = p.0.0.1; once = p.0.1; no_loop = p.1 })
    (λ f. ((((((f.in_order, f.root), f.no_name), f.parents), f.known), f.once), f.no_loop))
    (dec_both (dec_both (dec_both (dec_both (dec_both (dec_both (dec_order t) (dec_true (is_directory (inode_at t root_number)))) (dec_not (dec_true (has_name t root_number))))
    (dec_each (λ (e : Place × Key). IsTrue (is_directory (inode_at t e.0.0))) (λ e. dec_true (is_directory (inode_at t e.0.0))) t.names))
    (dec_each (λ (e : Place × Key). (i : Inode) × (inode_at t e.1 ≡ Some i)) (λ e. dec_value (inode_at t e.1)) t.names))
    (dec_each (λ (i : Key × Inode). IsTrue (is_directory (Some i.1)) → name_count t i.0 ≤ 1) (λ i. dec_if (dec_true (is_directory (Some i.1))) (dec_le (name_count t i.0) 1)) t.inodes))
    (dec_each (λ (e : Place × Key). IsTrue (is_directory (inode_at t e.1)) → IsTrue (is_inside t e.0.0 e.1) → ⊥)
    (λ e. dec_if (dec_true (is_directory (inode_at t e.1))) (dec_not (dec_true (is_inside t e.0.0 e.1)))) t.names))

dec_body : (kind : Kind) (body : List ℕ) → Dec (IsBodyOf kind body)
dec_body Reg body = dec_le (length body) longest_file
dec_body Dir body = dec_bytes body []
dec_body Lnk body = dec_target Lnk body

dec_bounds : (i : Inode) → Dec (HasBounds i)
dec_bounds i = map_dec {A = AreAttributes i.attributes × IsBodyOf i.kind i.body} (λ p. record { attributes = p.0; body = p.1 }) (λ f. (f.attributes, f.body)) (dec_both (dec_attributes i.attributes) (dec_body i.kind i.body))

abbrev IsNameFit : Place × Key → Type 0
IsNameFit e = IsKey e.0.0 × IsFileName e.0.1 × IsKey e.1

dec_name_fit : (e : Place × Key) → Dec (IsNameFit e)
dec_name_fit e = map_dec {A = (IsKey e.0.0 × IsFileName e.0.1) × IsKey e.1} (λ p. (p.0.0, p.0.1, p.1)) (λ f. ((f.0, f.1), f.2)) (dec_both (dec_both (dec_key e.0.0) (dec_file_name e.0.1)) (dec_key e.1))

abbrev BoundParts : Basis → Type 0
BoundParts b = ((((IsVectorSpelled b.front × IfSome b.tide IsRankSpelled) × AllByRecursion (λ i. IsKey i.0 × HasBounds i.1) b.tree.inodes) × AllByRecursion IsNameFit b.tree.names)
    × (length b.tree.inodes ≤ 134217728)) × AllByRecursion (λ i. length (listing b.tree i.0) ≤ 4294967296) b.tree.inodes

dec_spelled : (b : Basis) → Dec (IsBasisSpelled b)
dec_spelled b = map_dec {A = BoundParts b}
    (λ p. record { front = p.0.0.0.0.0; tide = p.0.0.0.0.1; inodes = p.0.0.0.1; names = p.0.0.1; few = p.0.1; few_names = p.1 })
    (λ f. (((((f.front, f.tide), f.inodes), f.names), f.few), f.few_names))
    (dec_both (dec_both (dec_both (dec_both (dec_both (dec_vector b.front) (dec_option IsRankSpelled dec_rank b.tide))
    (dec_each (λ (i : Key × Inode). IsKey i.0 × HasBounds i.1) (λ i. dec_both (dec_key i.0) (dec_bounds i.1)) b.tree.inodes))
    (dec_each IsNameFit dec_name_fit b.tree.names))
    (dec_le (length b.tree.inodes) 134217728))
    (dec_each (λ (i : Key × Inode). length (listing b.tree i.0) ≤ 4294967296) (λ i. dec_le (length (listing b.tree i.0)) 4294967296) b.tree.inodes))

-- ---- bases

abbrev IsNameBelow : ℕ → Place × Key → Type 0
IsNameBelow m e = (IsKey e.0.0 × AreUpTo 255 (λ b. b < m) e.0.1) × IsKey e.1

abbrev IsInodeBelow : ℕ → Key × Inode → Type 0
IsInodeBelow m i = IsKey i.0 × ((IsAny i.1.kind × AreAttributes i.1.attributes) × AreUpTo longest_file (λ b. b < m) i.1.body)

names_below : (m : ℕ) → Searches (IsNameBelow m)
names_below m = keys ▸ bytes_up_to m 255 ▸ keys

inodes_below : (m : ℕ) → Searches (IsInodeBelow m)
inodes_below m = keys ▸ by_parts (λ (i : Inode). ((i.kind, i.attributes), i.body)) (λ p. record { kind = p.0.0; attributes = p.0.1; body = p.1 }) (λ i f. f) (λ p f. f) (λ i. refl)
    (kinds ▸ attributes ▸ bytes_up_to m longest_file)

abbrev BasisParts : Type 0
BasisParts = ((Vector × Option Rank) × List (Place × Key)) × List (Key × Inode)

abbrev HasPartsBelow : ℕ → Basis → Type 0
HasPartsBelow m b = ((IsVectorSpelled b.front × IfSome b.tide IsRankSpelled) × AreUpTo 576460752303423488 (IsNameBelow m) b.tree.names) × AreUpTo 134217728 (IsInodeBelow m) b.tree.inodes

parts_below : (m : ℕ) → Searches (HasPartsBelow m)
parts_below m =
    by_parts {A = BasisParts} (λ (b : Basis). (((b.front, b.tide), b.tree.names), b.tree.inodes)) (λ p. record { front = p.0.0.0; tide = p.0.0.1; tree = record { names = p.0.1; inodes = p.1 } })
    (λ b f. f) (λ p f. f) (λ b. refl)
    (vectors ▸ optionally ranks ▸ lists_up_to 576460752303423488 (names_below m) ▸ lists_up_to 134217728 (inodes_below m))

abbrev IsBelow : ℕ → Basis → Type 0
IsBelow m b = ((IsBasisSpelled b × (length b.tree.names ≤ 576460752303423488)) × AllByRecursion (λ e. AreBelow m e.0.1) b.tree.names) × AllByRecursion (λ i. AreBelow m i.1.body) b.tree.inodes

dec_is_below : (m : ℕ) (b : Basis) → Dec (IsBelow m b)
dec_is_below m b = dec_both (dec_both (dec_both (dec_spelled b) (dec_le (length b.tree.names) 576460752303423488))
    (dec_each (λ (e : Place × Key). AreBelow m e.0.1) (λ e. dec_below m e.0.1) b.tree.names)) (dec_each (λ (i : Key × Inode). AreBelow m i.1.body) (λ i. dec_below m i.1.body) b.tree.inodes)

short_body : (kind : Kind) (body : List ℕ) → IsBodyOf kind body → length body ≤ longest_file
short_body Reg body f = f
short_body Dir body f = rw f (omega arith)
short_body Lnk body f = let short = f.1 in omega arith

fit_names : (m : ℕ) (names : List (Place × Key)) → AllByRecursion IsNameFit names → AllByRecursion (λ e. AreBelow m e.0.1) names → AllByRecursion (IsNameBelow m) names
fit_names m [] f g = tt
fit_names m (e ∷ names) f g = (((f.0.0, (f.0.1.short, g.0)), f.0.2), fit_names m names f.1 g.1)

fit_inodes : (m : ℕ) (inodes : List (Key × Inode)) → AllByRecursion (λ i. IsKey i.0 × HasBounds i.1) inodes → AllByRecursion (λ i. AreBelow m i.1.body) inodes → AllByRecursion (IsInodeBelow m) inodes
fit_inodes m [] f g = tt
fit_inodes m (i ∷ inodes) f g = ((f.0.0, ((tt, f.0.1.attributes), (short_body i.1.kind i.1.body f.0.1.body, g.0))), fit_inodes m inodes f.1 g.1)

bases_below : (m : ℕ) → Searches (IsBelow m)
bases_below m = among (parts_below m) (dec_is_below m) within
  where
    within : (b : Basis) → IsBelow m b → HasPartsBelow m b
    within b f = (((f.0.0.0.front, f.0.0.0.tide), (f.0.0.1, fit_names m b.tree.names f.0.0.0.names f.0.1)), (f.0.0.0.few, fit_inodes m b.tree.inodes f.0.0.0.inodes f.1))

-- ---- the whole

-- what is a snapshot's is below a bound of its blocks
is_below : (m : ℕ) (blocks : List (List ℕ)) (b : Basis) → AllByRecursion (AreBelow m) blocks → AreOf blocks b → IsBelow m b
is_below m blocks b h f =
    let met : AllByRecursion (AreBelow m) (snapshot_named f.view b).reading = subst (λ read. AllByRecursion (AreBelow m) read) (sym f.spelled) h in
    let each = of_listed (AreBelow m) 3 1 (map (inode_made b.tree) b.tree.inodes) (omega (arith, length-map b.tree.inodes (inode_made b.tree), f.bounds.few)) met.1 in
    let show = inodes_show m b.tree b.tree.inodes f.bounds.inodes f.bounds.few_names each in (
      ((f.bounds, most_names b.tree f.whole.parents f.bounds.few_names f.bounds.few), names_show m b.tree f.whole.parents show),
      each_weaker (λ (i : Key × Inode). ShowsBelow m i.1.kind (listing b.tree i.0) i.1.body) (λ (i : Key × Inode). AreBelow m i.1.body) (λ i g. g.0) b.tree.inodes show,
    )

abbrev IsViewed : List (List ℕ) → Basis → Type 0
IsViewed blocks b = IsWholeTree b.tree × ((view : Key) × IsKey view × ((snapshot_named view b).reading ≡ blocks))

dec_viewed : (blocks : List (List ℕ)) (b : Basis) → Dec (IsViewed blocks b)
dec_viewed blocks b = dec_both (dec_tree b.tree) (keys.search_for (λ view. (snapshot_named view b).reading ≡ blocks) (λ view. dec_lists dec_bytes (snapshot_named view b).reading blocks))

-- whether the blocks are the snapshot of a basis
pub dec_whole : (blocks : List (List ℕ)) → Dec ((b : Basis) × AreOf blocks b)
dec_whole blocks = by (bound_of_all blocks)
  where
    to : (m : ℕ) → ((b : Basis) × IsBelow m b × IsViewed blocks b) → (b : Basis) × AreOf blocks b
    to m w = (w.0, record { whole = w.2.0; bounds = w.1.0.0.0; view = w.2.1.0; is_key = w.2.1.1; spelled = w.2.1.2 })

    from : (m : ℕ) → AllByRecursion (AreBelow m) blocks → ((b : Basis) × AreOf blocks b) → (b : Basis) × IsBelow m b × IsViewed blocks b
    from m h w = (w.0, is_below m blocks w.0 h w.1, (w.1.whole, (w.1.view, w.1.is_key, w.1.spelled)))

    by : ((m : ℕ) × AllByRecursion (AreBelow m) blocks) → Dec ((b : Basis) × AreOf blocks b)
    by bound = map_dec (to bound.0) (from bound.0 bound.1) ((bases_below bound.0).search_for (IsViewed blocks) (dec_viewed blocks))
