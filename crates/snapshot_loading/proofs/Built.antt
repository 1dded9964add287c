-- The tree that is built of inodes.
use Rattle.std.proofs.Common.{◌≡◌, ℕ, ◌≤◌, Bool, true, false, List, [], ◌∷◌, ◌++◌, map, flat_map, Some, None, refl, sym, ap, ◌∙◌, subst, arith, append-nil}
use Rattle.std.specs.Prelude.{IsTrue, if◌then◌else◌}
use Rattle.std.specs.List.{AllByRecursion, filter_map, cons_option}
use Rattle.std.specs.Cmp.Lexicographic.{slice_cmp}
use Rattle.std.specs.Ordering.{is_lt, nat_cmp}
use Rattle.std.specs.FinMap.Entries.{find as value_at, is_sorted, below_all}
use Rattle.ivy_base.specs.declared.key.Key.{Key}
use Rattle.ivy_base.specs.declared.operation.Kind.{Kind}
use Rattle.ivy_base.specs.declared.operation.Kind.TheVariants.{Reg, Dir, Lnk}
use Rattle.ivy_base.specs.Naming.{key_cmp}
use Rattle.tree_model.specs.Tree.{Tree, Inode, Place, directory_kind, same_key, is_directory, listing}
use Rattle.tree_model.specs.Sound.{IsSound}
use Rattle.tree_model.proofs.Keys.{same_key_itself}
use Rattle.tree_model.proofs.Sound.{both_true}
use Rattle.dir_replay.specs.View.{names_in}
use Rattle.snapshot_model.specs.Blocks.{InodeBlock, most_content_bytes}
use Rattle.snapshot_model.specs.Reading.{IsWholeTree}
use Rattle.snapshot_model.proofs.SameNames.{names_there, shown, sorted_same}
use Rattle.snapshot_loading.proofs.PiecesInOrder.{listed_ascend}
use Rattle.snapshot_loading.specs.declared.parts.InodeParts.{InodeParts}
use Rattle.snapshot_loading.specs.Parts.{HasBody, IsBody, names_of, numbered, tree_of}
use Rattle.snapshot_loading.specs.Steps.{NamesAscend}
use Rattle.snapshot_loading.proofs.Ordered.{sorted_names}
use Rattle.snapshot_loading.specs.Picks.{Blocks}
use Rattle.snapshot_loading.specs.Contents.{HasContents}
use Rattle.snapshot_loading.specs.Inodes.{Item, contained, item_in, items_in, AreInodes}
use Rattle.snapshot_loading.specs.Answers.{item_of}
use Rattle.snapshot_loading.proofs.Trees.{all_have, each_has, found_inode, not_above, not_below}

-- what a directory contains
abbrev Directory : Type 0
Directory = List (List ℕ × Key)

abbrev listed : List (Place × Key) → Key → Directory
listed names d = filter_map (λ e. if same_key d e.0.0 then Some (e.0.1, e.1) else None) names

-- ---- the listings of all inodes' names

abbrev step : Bool → Place × Key → Directory → Directory
step b e rest = cons_option (if b then Some (e.0.1, e.1) else None) rest

listed_append : (xs ys : List (Place × Key)) (d : Key) → listed (xs ++ ys) d ≡ listed xs d ++ listed ys d
listed_append [] ys d = refl
listed_append (x ∷ xs) ys d = by (same_key d x.0.0) (listed_append xs ys d)
  where
    by : (b : Bool) → listed (xs ++ ys) d ≡ listed xs d ++ listed ys d → step b x (listed (xs ++ ys) d) ≡ step b x (listed xs d) ++ listed ys d
    by true e = ap (λ (l : Directory). (x.0.1, x.1) ∷ l) e
    by false e = e

listed_here : (d : Key) (es : Directory) → listed (names_in d es) d ≡ es
listed_here d [] = refl
listed_here d (e ∷ es) = ap (λ (b : Bool). step b ((d, e.0), e.1) (listed (names_in d es) d)) (same_key_itself d) ∙ ap (λ (l : Directory). e ∷ l) (listed_here d es)

listed_elsewhere : (d other : Key) (es : Directory) → same_key d other ≡ false → listed (names_in other es) d ≡ []
listed_elsewhere d other [] h = refl
listed_elsewhere d other (e ∷ es) h = ap (λ (b : Bool). step b ((other, e.0), e.1) (listed (names_in other es) d)) h ∙ listed_elsewhere d other es h

-- after a lower number
listed_behind : (d : Key) (ps : List InodeParts) → below_all key_cmp d (map numbered ps) ≡ true → listed (flat_map names_of ps) d ≡ []
listed_behind d [] h = refl
listed_behind d (p ∷ ps) h =
    let parts = both_true (is_lt (key_cmp d p.number)) (below_all key_cmp d (map numbered ps)) h in
    listed_append (names_of p) (flat_map names_of ps) d ∙ (λ i. listed_elsewhere d p.number p.entries.items (not_below d p.number parts.0) i ++ listed_behind d ps parts.1 i)

pub each_listed : (ps : List InodeParts) → is_sorted key_cmp (map numbered ps) ≡ true → AllByRecursion (λ p. listed (flat_map names_of ps) p.number ≡ p.entries.items) ps
each_listed [] h = tt
each_listed (p ∷ ps) h =
    let parts = both_true (below_all key_cmp p.number (map numbered ps)) (is_sorted key_cmp (map numbered ps)) h in (
      listed_append (names_of p) (flat_map names_of ps) p.number ∙ (λ i. listed_here p.number p.entries.items i ++ listed_behind p.number ps parts.0 i) ∙ append-nil p.entries.items,
      later ps parts.0 (each_listed ps parts.1),
    )
  where
    later : (qs : List InodeParts) → below_all key_cmp p.number (map numbered qs) ≡ true → AllByRecursion (λ q. listed (flat_map names_of ps) q.number ≡ q.entries.items) qs
        → AllByRecursion (λ q. listed (flat_map names_of (p ∷ ps)) q.number ≡ q.entries.items) qs
    later [] below own = tt
    later (q ∷ qs) below own =
        let b = both_true (is_lt (key_cmp p.number q.number)) (below_all key_cmp p.number (map numbered qs)) below in (
          listed_append (names_of p) (flat_map names_of ps) q.number ∙ ap (λ (l : Directory). l ++ listed (flat_map names_of ps) q.number) (listed_elsewhere q.number p.number p.entries.items (not_above p.number q.number b.0)) ∙ own.0,
          later qs b.1 own.1,
        )

-- ---- what was read, and the tree that is built of it

none_else : (kind : Kind) (said : InodeBlock) (blocks : List (List ℕ)) (body : List ℕ) (es : Directory) → HasContents kind said blocks body es → contained kind es ≡ es
none_else Reg said blocks body es h = sym h.0
none_else Dir said blocks body es h = refl
none_else Lnk said blocks body es h = sym h.0

pub all_contained : (blocks : List (List ℕ × Blocks)) (ps : List InodeParts) → AreInodes blocks (map item_of ps) → AllByRecursion (λ p. contained p.kind p.entries.items ≡ p.entries.items) ps
all_contained [] [] h = tt
all_contained [] (p ∷ ps) h = absurd h
all_contained (b ∷ blocks) [] h = absurd h
all_contained (b ∷ blocks) (p ∷ ps) h = (none_else p.kind h.0.said _ p.body p.entries.items h.0.contents, all_contained blocks ps h.1)

same_items : (t : Tree) (ps : List InodeParts) → AllByRecursion (λ p. listing t p.number ≡ p.entries.items) ps → AllByRecursion (λ p. contained p.kind p.entries.items ≡ p.entries.items) ps → map (item_in t) (map numbered ps) ≡ map item_of ps
same_items t [] h g = refl
same_items t (p ∷ ps) h g =
    let es : contained p.kind (listing t p.number) ≡ p.entries.items = ap (contained p.kind) h.0 ∙ g.0 in
    let rest = same_items t ps h.1 g.1 in
    (λ i. (numbered p, es i) ∷ rest i)

-- the tree has the inodes of which it is built
pub built_has : (blocks : List (List ℕ × Blocks)) (ps : List InodeParts) → IsSound (tree_of ps) → AreInodes blocks (map item_of ps) → AreInodes blocks (items_in (tree_of ps))
built_has blocks ps sound h = subst (λ (l : List Item). AreInodes blocks l) (sym (same_items (tree_of ps) ps (each_listed ps sound.order.inodes) (all_contained blocks ps h))) h

-- ---- no other tree has these inodes

each_back : {A B : Type 0} (P : B → Type 0) (f : A → B) (xs : List A) → AllByRecursion P (map f xs) → AllByRecursion (λ x. P (f x)) xs
each_back P f [] h = tt
each_back P f (x ∷ xs) h = (h.0, each_back P f xs h.1)

each_map : {A B : Type 0} (P : B → Type 0) (f : A → B) (xs : List A) → AllByRecursion (λ x. P (f x)) xs → AllByRecursion P (map f xs)
each_map P f [] h = tt
each_map P f (x ∷ xs) h = (h.0, each_map P f xs h.1)

shown_contained : (kind : Kind) (es : Directory) → shown kind (contained kind es) ≡ shown kind es
shown_contained Reg es = refl
shown_contained Dir es = refl
shown_contained Lnk es = refl

record AreAlike (t : Tree) (ps : List InodeParts) (inodes : List (Key × Inode)) : Type 0 where
  same : map numbered ps ≡ inodes
  each : AllByRecursion (λ p. p.entries.items ≡ contained p.kind (listing t p.number)) ps

alike : (t : Tree) (ps : List InodeParts) (inodes : List (Key × Inode)) → map item_of ps ≡ map (item_in t) inodes → AreAlike t ps inodes
alike t [] [] e = record { same = refl; each = tt }
alike t [] (i ∷ inodes) e = cc
alike t (p ∷ ps) [] e = cc
alike t (p ∷ ps) (i ∷ inodes) e =
    let first : ◌≡◌ {A = Item} (item_of p) (item_in t i) = cc in
    let tail : map item_of ps ≡ map (item_in t) inodes = cc in
    let head : numbered p ≡ i = ap (λ (x : Item). x.0) first in
    let own : p.entries.items ≡ contained i.1.kind (listing t i.0) = ap (λ (x : Item). x.1) first in
    let rest = alike t ps inodes tail in
    record {
      same = (λ k. head k ∷ rest.same k);
      each = (subst (λ (j : Key × Inode). p.entries.items ≡ contained j.1.kind (listing t j.0)) (sym head) own, rest.each);
    }

names_fit : (inodes : List (Key × Inode)) (d : Key) (es : Directory) → is_directory (value_at key_cmp d inodes) ≡ true → AllByRecursion (λ e. IsTrue (is_directory (value_at key_cmp e.0.0 inodes))) (names_in d es)
names_fit inodes d [] h = tt
names_fit inodes d (e ∷ es) h = (h, names_fit inodes d es h)

both_fit : {A : Type 0} (P : A → Type 0) (xs ys : List A) → AllByRecursion P xs → AllByRecursion P ys → AllByRecursion P (xs ++ ys)
both_fit P [] ys h g = g
both_fit P (x ∷ xs) ys h g = (h.0, both_fit P xs ys h.1 g)

module _ (t : Tree) (whole : IsWholeTree t) (inodes : List (Key × Inode)) where
  parent : (p : InodeParts) (kind : Kind) → p.kind ≡ kind → value_at key_cmp p.number inodes ≡ Some (numbered p).1 → p.entries.items ≡ contained kind (listing t p.number)
      → AllByRecursion (λ e. IsTrue (is_directory (value_at key_cmp e.0.0 inodes))) (names_of p)
  parent p Reg is found own = subst (λ (es : Directory). AllByRecursion (λ e. IsTrue (is_directory (value_at key_cmp e.0.0 inodes))) (names_in p.number es)) (sym own) tt
  parent p Dir is found own = names_fit inodes p.number p.entries.items (ap is_directory found ∙ ap directory_kind is)
  parent p Lnk is found own = subst (λ (es : Directory). AllByRecursion (λ e. IsTrue (is_directory (value_at key_cmp e.0.0 inodes))) (names_in p.number es)) (sym own) tt

  parents : (ps : List InodeParts) → AllByRecursion (λ p. value_at key_cmp p.number inodes ≡ Some (numbered p).1) ps → AllByRecursion (λ p. p.entries.items ≡ contained p.kind (listing t p.number)) ps
      → AllByRecursion (λ e. IsTrue (is_directory (value_at key_cmp e.0.0 inodes))) (flat_map names_of ps)
  parents [] found own = tt
  parents (p ∷ ps) found own =
      both_fit (λ e. IsTrue (is_directory (value_at key_cmp e.0.0 inodes))) (names_of p) (flat_map names_of ps) (parent p p.kind refl found.0 own.0) (parents ps found.1 own.1)

ascends : (t : Tree) → IsWholeTree t → (kind : Kind) (k : Key) (es : Directory) → es ≡ contained kind (listing t k) → is_sorted (slice_cmp nat_cmp) es ≡ true
ascends t w Reg k es own = ap (λ (l : Directory). is_sorted (slice_cmp nat_cmp) l) own
ascends t w Dir k es own = ap (λ (l : Directory). is_sorted (slice_cmp nat_cmp) l) own ∙ listed_ascend t.names k w.in_order.names
ascends t w Lnk k es own = ap (λ (l : Directory). is_sorted (slice_cmp nat_cmp) l) own

shown_alike : (t : Tree) (ps : List InodeParts) → AllByRecursion (λ p. listing (tree_of ps) p.number ≡ p.entries.items) ps → AllByRecursion (λ p. p.entries.items ≡ contained p.kind (listing t p.number)) ps
    → AllByRecursion (λ i. shown i.1.kind (listing t i.0) ≡ shown i.1.kind (listing (tree_of ps) i.0)) (map numbered ps)
shown_alike t ps h g = each_map (λ i. shown i.1.kind (listing t i.0) ≡ shown i.1.kind (listing (tree_of ps) i.0)) numbered ps (by ps h g)
  where
    by : (qs : List InodeParts) → AllByRecursion (λ p. listing (tree_of ps) p.number ≡ p.entries.items) qs → AllByRecursion (λ p. p.entries.items ≡ contained p.kind (listing t p.number)) qs
        → AllByRecursion (λ p. shown p.kind (listing t p.number) ≡ shown p.kind (listing (tree_of ps) p.number)) qs
    by [] h g = tt
    by (q ∷ qs) h g = (sym (ap (shown q.kind) (h.0 ∙ g.0) ∙ shown_contained q.kind (listing t q.number)), by qs h.1 g.1)

pub one_tree : (t : Tree) → IsWholeTree t → (ps : List InodeParts) → map item_of ps ≡ items_in t → t ≡ tree_of ps
one_tree t w ps e =
    let u = tree_of ps in
    let a = alike t ps t.inodes e in
    let sorted : is_sorted key_cmp (map numbered ps) ≡ true = ap (λ (l : List (Key × Inode)). is_sorted key_cmp l) a.same ∙ w.in_order.inodes in
    let own = each_listed ps sorted in
    let ascend : NamesAscend ps = all_have (λ (p : InodeParts). p.entries.items ≡ contained p.kind (listing t p.number)) (λ (p : InodeParts). is_sorted (slice_cmp nat_cmp) p.entries.items ≡ true) ps (λ p h. ascends t w p.kind p.number p.entries.items h) a.each in
    let found = each_back (λ (i : Key × Inode). value_at key_cmp i.0 (map numbered ps) ≡ Some i.1) numbered ps
    (each_has (λ (i : Key × Inode). value_at key_cmp i.0 (map numbered ps) ≡ Some i.1) (map numbered ps) (λ i h. found_inode (map numbered ps) i sorted h)) in
    let there = shown_alike t ps own a.each in
    let here : AllByRecursion (λ i. shown i.1.kind (listing u i.0) ≡ shown i.1.kind (listing t i.0)) (map numbered ps) =
    all_have (λ (i : Key × Inode). shown i.1.kind (listing t i.0) ≡ shown i.1.kind (listing u i.0)) (λ (i : Key × Inode). shown i.1.kind (listing u i.0) ≡ shown i.1.kind (listing t i.0)) (map numbered ps) (λ i h. sym h) there in
    let names : t.names ≡ u.names =
    sorted_same t.names u.names w.in_order.names (sorted_names ps sorted ascend)
    (names_there t u w.parents (subst (λ (l : List (Key × Inode)). AllByRecursion (λ i. shown i.1.kind (listing t i.0) ≡ shown i.1.kind (listing u i.0)) l) a.same there))
    (names_there u t (parents t w (map numbered ps) ps found a.each) here) in
    (λ k. record { names = names k; inodes = sym a.same k })

-- ---- what the building of the tree wants

body_fits : (kind : Kind) (said : InodeBlock) (blocks : List (List ℕ)) (body : List ℕ) (es : Directory) → said.size ≤ most_content_bytes kind → HasContents kind said blocks body es → IsBody kind body
body_fits Reg said blocks body es few h = omega (arith, few, h.3)
body_fits Dir said blocks body es few h = h.0
body_fits Lnk said blocks body es few h = tt

pub bodies_fit : (blocks : List (List ℕ × Blocks)) (ps : List InodeParts) → AreInodes blocks (map item_of ps) → AllByRecursion HasBody ps
bodies_fit [] [] h = tt
bodies_fit [] (p ∷ ps) h = absurd h
bodies_fit (b ∷ blocks) [] h = absurd h
bodies_fit (b ∷ blocks) (p ∷ ps) h =
    (body_fits p.kind h.0.said _ p.body p.entries.items (subst (λ (k : Kind). h.0.said.size ≤ most_content_bytes k) h.0.kind h.0.says.fits.size) h.0.contents, bodies_fit blocks ps h.1)
