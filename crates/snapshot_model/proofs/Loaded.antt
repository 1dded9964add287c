-- What is loaded is what was made.
use Rattle.std.proofs.Common.{◌≡◌, ℕ, ◌≤◌, List, [], ◌∷◌, ◌++◌, length, map, take, Option, refl, sym, ap, ◌∙◌, subst, arith}
use Rattle.std.specs.Prelude.{Contains}
use Rattle.std.specs.List.{AllByRecursion}
use Rattle.std.proofs.lemmas.List.Elements.{Contains-append_left, Contains-append_right}
use Rattle.std.proofs.lemmas.List.{length-map}
use Rattle.ivy_base.specs.declared.key.Key.{Key}
use Rattle.ivy_base.specs.declared.operation.Kind.{Kind}
use Rattle.ivy_base.specs.declared.operation.Kind.TheVariants.{Reg, Dir, Lnk}
use Rattle.ivy_base.specs.Naming.{IsFileName, name, IsCollisionFree}
use Rattle.tree_model.specs.Tree.{Tree, Inode, Place, listing}
use Rattle.wire_model.proofs.OneReading.{whole}
use Rattle.log_model.specs.Rank.{Rank}
use Rattle.log_model.specs.Vector.{Vector}
use Rattle.log_model.specs.Spelling.{IsKey}
use Rattle.log_model.proofs.Lists.{each_from}
use Rattle.turn_model.specs.Basis.{Basis}
use Rattle.snapshot_model.specs.Blocks.{RootBlock, IsRootBlock}
use Rattle.snapshot_model.specs.Spelling.{items_of, inode_made, list_of, named_by, snapshot_named}
use Rattle.snapshot_model.specs.Reading.{HasBounds, IsWholeTree, IsBasisSpelled}
use Rattle.snapshot_model.specs.Laws.{LoadedIsMade}
use Rattle.snapshot_model.proofs.OneBlock.{one_root}
use Rattle.snapshot_model.proofs.MadeLists.{readings, is_listed, AllMet, one_listed_made}
use Rattle.snapshot_model.proofs.MadeInodes.{Item, inode_by, FitsInode, FitEntries, one_inode_made}
use Rattle.snapshot_model.proofs.SameNames.{shown, listed_fit, names_there, sorted_same}

-- an inode, and what it shows as a directory of the tree
abbrev with_entries : Tree → Key × Inode → Item
with_entries t i = (i, shown i.1.kind (listing t i.0))

items_shown : (kind : Kind) (es : List (List ℕ × Key)) (body : List ℕ) → items_of es body kind ≡ items_of (shown kind es) body kind
items_shown Reg es body = refl
items_shown Dir es body = refl
items_shown Lnk es body = refl

made_by : (t : Tree) (inodes : List (Key × Inode)) → map (inode_made t) inodes ≡ map inode_by (map (with_entries t) inodes)
made_by t [] = refl
made_by t (i ∷ inodes) = rw (items_shown i.1.kind (listing t i.0) i.1.body, made_by t inodes) refl

entries_fit : (kind : Kind) (es : List (List ℕ × Key)) → FitEntries Dir es → FitEntries kind (shown kind es)
entries_fit Reg es h = refl
entries_fit Dir es h = h
entries_fit Lnk es h = refl

items_fit : (t : Tree) (inodes : List (Key × Inode)) → AllByRecursion (λ e. IsKey e.0.0 × IsFileName e.0.1 × IsKey e.1) t.names → AllByRecursion (λ i. IsKey i.0 × HasBounds i.1) inodes
    → AllByRecursion (λ i. length (listing t i.0) ≤ 4294967296) inodes → AllByRecursion FitsInode (map (with_entries t) inodes)
items_fit t [] names h few = tt
items_fit t (i ∷ inodes) names h few = ((h.0.0, h.0.1, entries_fit i.1.kind (listing t i.0) (listed_fit t.names i.0 names, few.0)), items_fit t inodes names h.1 few.1)

-- ---- equal items

record AreAlike {A B : Type 0} (g k : A → B) (xs ys : List A) : Type 0 where
  same : xs ≡ ys
  each : AllByRecursion (λ x. g x ≡ k x) xs
  other : AllByRecursion (λ y. k y ≡ g y) ys

alike : {A B : Type 0} (g k : A → B) (xs ys : List A) → map {B = A × B} (λ x. (x, g x)) xs ≡ map {B = A × B} (λ y. (y, k y)) ys → AreAlike g k xs ys
alike {A} {B} g k [] [] e = record { same = refl; each = tt; other = tt }
alike {A} {B} g k [] (y ∷ ys) e = cc
alike {A} {B} g k (x ∷ xs) [] e = cc
alike {A} {B} g k (x ∷ xs) (y ∷ ys) e =
    let pair : ◌≡◌ {A = A × B} (x, g x) (y, k y) = cc in
    let head : x ≡ y = ap (λ (p : A × B). p.0) pair in
    let value : g x ≡ k y = ap (λ (p : A × B). p.1) pair in
    let tails : map {B = A × B} (λ x. (x, g x)) xs ≡ map {B = A × B} (λ y. (y, k y)) ys = cc in
    let rest = alike g k xs ys tails in
    record {
      same = rw (head, rest.same) refl;
      each = (value ∙ ap k (sym head), rest.each);
      other = (sym value ∙ ap g head, rest.other);
    }

-- ---- the whole

abbrev root_of : Key → Basis → RootBlock
root_of view b = record { view = view; front = b.front; tide = b.tide; inodes = named_by (list_of (map (inode_made b.tree) b.tree.inodes)) }

root_fits : (view : Key) (b : Basis) → IsKey view → IsBasisSpelled b → IsRootBlock (root_of view b)
root_fits view b is_key f = record { view = is_key; front = f.front; tide = f.tide; inodes = is_listed (map (inode_made b.tree) b.tree.inodes) }

abbrev BasisParts : Type 0
BasisParts = ((Vector × Option Rank) × List (Place × Key)) × List (Key × Inode)

abbrev basis_parts : Basis → BasisParts
basis_parts b = (((b.front, b.tide), b.tree.names), b.tree.inodes)

same_parts : (b c : Basis) → basis_parts b ≡ basis_parts c → b ≡ c
same_parts b c e = ap (λ (p : BasisParts). record { front = p.0.0.0; tide = p.0.0.1; tree = record { names = p.0.1; inodes = p.1 } }) e

same_basis : (b c : Basis) → b.front ≡ c.front → b.tide ≡ c.tide → b.tree.names ≡ c.tree.names → b.tree.inodes ≡ c.tree.inodes → b ≡ c
same_basis b c front tide names inodes = same_parts b c (rw (front, tide, names, inodes) refl)

head_of : (k l : Key) → k ∷ [] ≡ l ∷ [] → k ≡ l
head_of k l q = cc

module _ (met : List (List ℕ)) (apart : IsCollisionFree met) where
  same_tree : (t u : Tree) → IsWholeTree t → IsWholeTree u → map (with_entries t) t.inodes ≡ map (with_entries u) u.inodes → (t.names ≡ u.names) × (t.inodes ≡ u.inodes)
  same_tree t u f g e =
      let a = alike (λ (i : Key × Inode). shown i.1.kind (listing t i.0)) (λ (i : Key × Inode). shown i.1.kind (listing u i.0)) t.inodes u.inodes e in
      (sorted_same t.names u.names f.in_order.names g.in_order.names (names_there t u f.parents a.each) (names_there u t g.parents a.other), a.same)

  loaded : (view other : Key) (b c : Basis) → IsKey view → IsKey other → IsWholeTree b.tree → IsWholeTree c.tree → IsBasisSpelled b → IsBasisSpelled c
      → AllMet met apart (snapshot_named view b).reading → AllMet met apart (snapshot_named other c).reading → name (snapshot_named view b).bytes ≡ name (snapshot_named other c).bytes → b ≡ c
  loaded view other b c v o f g h k m n e =
      let roots : root_of view b ≡ root_of other c = whole one_root (root_of view b) (root_of other c) (root_fits view b v h) (root_fits other c o k) (apart (snapshot_named view b).bytes (snapshot_named other c).bytes m.0 n.0 e) in
      let xs = map (with_entries b.tree) b.tree.inodes in
      let ys = map (with_entries c.tree) c.tree.inodes in
      let top : named_by (list_of (map inode_by xs)) ≡ named_by (list_of (map inode_by ys)) =
      ap (λ ms. named_by (list_of ms)) (sym (made_by b.tree b.tree.inodes)) ∙ ap (λ (r : RootBlock). r.inodes) roots ∙ ap (λ ms. named_by (list_of ms)) (made_by c.tree c.tree.inodes) in
      let items : xs ≡ ys = one_listed_made met apart 3 1 FitsInode inode_by (omega arith) (one_inode_made met apart) xs ys
      (items_fit b.tree b.tree.inodes h.names h.inodes h.few_names) (items_fit c.tree c.tree.inodes k.names k.inodes k.few_names)
      (omega (arith, length-map b.tree.inodes (with_entries b.tree), h.few)) (omega (arith, length-map c.tree.inodes (with_entries c.tree), k.few))
      (subst (λ ms. AllMet met apart (readings (list_of ms).1)) (made_by b.tree b.tree.inodes) m.1) (subst (λ ms. AllMet met apart (readings (list_of ms).1)) (made_by c.tree c.tree.inodes) n.1) top in
      let tree = same_tree b.tree c.tree f g items in
      same_basis b c (ap (λ (r : RootBlock). r.front) roots) (ap (λ (r : RootBlock). r.tide) roots) tree.0 tree.1

pub loaded_is_made : LoadedIsMade
loaded_is_made blocks others b c f g apart e =
    let first : name (snapshot_named f.view b).bytes ≡ name (snapshot_named g.view c).bytes = head_of _ _ (ap (λ bs. map name (take 1 bs)) f.spelled ∙ e ∙ ap (λ bs. map name (take 1 bs)) (sym g.spelled)) in
    loaded (blocks ++ others) apart f.view g.view b c f.is_key g.is_key f.whole g.whole f.bounds g.bounds
    (subst (λ bs. AllMet (blocks ++ others) apart bs) (sym f.spelled) (each_from (Contains (blocks ++ others)) blocks (λ x h. Contains-append_left blocks others x h)))
    (subst (λ bs. AllMet (blocks ++ others) apart bs) (sym g.spelled) (each_from (Contains (blocks ++ others)) others (λ x h. Contains-append_right blocks others x h)))
    first
