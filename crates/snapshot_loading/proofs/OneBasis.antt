-- Blocks are the snapshot of one basis at most, whatever names tell: they are one root with all below it, and that shows one basis.
use Rattle.std.proofs.Common.{◌≡◌, ℕ, ◌^◌, ◌<◌, List, [], ◌∷◌, length, map, refl, sym, ap, ◌∙◌, subst, arith}
use Rattle.std.specs.List.{AllByRecursion}
use Rattle.ivy_base.specs.declared.key.Key.{Key}
use Rattle.ivy_base.specs.declared.operation.Kind.{Kind}
use Rattle.ivy_base.specs.declared.operation.Kind.TheVariants.{Reg, Dir, Lnk}
use Rattle.tree_model.specs.Tree.{Tree, Inode, listing}
use Rattle.log_model.proofs.Lists.{each_left, each_right}
use Rattle.turn_model.specs.Basis.{Basis}
use Rattle.snapshot_model.specs.Blocks.{InodeBlock, IsEntry, RootBlock, entries_block, most_entries}
use Rattle.snapshot_model.specs.Reading.{AreOf, IsBasisSpelled, IsWholeTree}
use Rattle.snapshot_model.proofs.OneBlock.{one_inode, one_of_entries, one_root}
use Rattle.snapshot_model.proofs.OneNames.{one_said}
use Rattle.snapshot_model.proofs.SameNames.{listed_fit, names_there, shown, sorted_same}
use Rattle.snapshot_loading.specs.Forests.{Forest, nothing, block, below_by, AreFull}
use Rattle.snapshot_loading.specs.ShownInodes.{AreContents, ShowsInode, run_of}
use Rattle.snapshot_loading.specs.Wholes.{ShowInodes, ShowsBasis}
use Rattle.snapshot_loading.specs.WholeLaws.{SnapshotIsUnique}
use Rattle.snapshot_loading.proofs.Canon.{are_forest, loaded_is_shown}

-- what a directory contains
abbrev Directory : Type 0
Directory = List (List ℕ × Key)

-- ---- entries, block by block

-- where each spelling is of one thing, equal spellings are of equal things
one_each : {A : Type 0} (Fits : A → Type 0) (spell : A → List ℕ) → ((x y : A) → Fits x → Fits y → spell x ≡ spell y → x ≡ y) → (xs ys : List A) → AllByRecursion Fits xs → AllByRecursion Fits ys
    → map spell xs ≡ map spell ys → xs ≡ ys
one_each Fits spell one [] [] f g e = refl
one_each Fits spell one [] (y ∷ ys) f g e = cc
one_each Fits spell one (x ∷ xs) [] f g e = cc
one_each Fits spell one (x ∷ xs) (y ∷ ys) f g e =
    let head : spell x ≡ spell y = cc in
    let tail : map spell xs ≡ map spell ys = cc in
    let first = one x y f.0 g.0 head in
    let rest = one_each Fits spell one xs ys f.1 g.1 tail in
    (λ n. first n ∷ rest n)

abbrev AreFew : Directory → Type 0
AreFew es = (length es < 2 ^ 32) × AllByRecursion IsEntry es

one_block : (es os : Directory) → AreFew es → AreFew os → entries_block es ≡ entries_block os → es ≡ os
one_block es os f g e = one_said {block = entries_block es} {x = es} {y = os} one_of_entries (record { fits = f; spelled = refl }) (record { fits = g; spelled = e })

few_each : (each : List Directory) → AreFull most_entries each → AllByRecursion IsEntry (run_of each) → AllByRecursion AreFew each
few_each [] full fit = tt
few_each (es ∷ []) full fit = ((omega (arith, full.1), each_left IsEntry es [] fit), tt)
few_each (es ∷ os ∷ each) full fit =
    ((omega (arith, full.0), each_left IsEntry es (run_of (os ∷ each)) fit), few_each (os ∷ each) full.1 (each_right IsEntry es (run_of (os ∷ each)) fit))

-- ---- one inode

-- blocks contain one thing: of what isn't a directory there are no entries that show
one_contents : (kind : Kind) (said : InodeBlock) (items : Forest) (body other : List ℕ) (es os : Directory) → AllByRecursion IsEntry es → AllByRecursion IsEntry os
    → AreContents kind said items body es → AreContents kind said items other os → (body ≡ other) × (shown kind es ≡ shown kind os)
one_contents Reg said items body other es os f g h k = (sym h.1 ∙ k.1, refl)
one_contents Dir said items body other es os f g h k =
    let each : h.1 ≡ k.1 = one_each AreFew entries_block one_block h.1 k.1 (few_each h.1 h.3 (subst (λ (l : Directory). AllByRecursion IsEntry l) (sym h.4) f))
    (few_each k.1 k.3 (subst (λ (l : Directory). AllByRecursion IsEntry l) (sym k.4) g)) (sym h.2 ∙ k.2) in
    (h.0 ∙ sym k.0, sym h.4 ∙ ap (λ (l : List Directory). run_of l) each ∙ k.4)
one_contents Lnk said items body other es os f g h k = (sym h ∙ k, refl)

one_inode_shown : (bytes : List ℕ) (below : Forest) (i j : Key × Inode) (es os : Directory) → AllByRecursion IsEntry es → AllByRecursion IsEntry os
    → ShowsInode bytes below i.0 i.1 es → ShowsInode bytes below j.0 j.1 os → (i ≡ j) × (shown i.1.kind es ≡ shown i.1.kind os)
one_inode_shown bytes below i j es os f g h k =
    let one : h.said ≡ k.said = one_said one_inode h.says k.says in
    let number : i.0 ≡ j.0 = sym h.number_is ∙ ap (λ (b : InodeBlock). b.number) one ∙ k.number_is in
    let kind : i.1.kind ≡ j.1.kind = sym h.kind ∙ ap (λ (b : InodeBlock). b.kind) one ∙ k.kind in
    let attributes : i.1.attributes ≡ j.1.attributes = sym h.attributes ∙ ap (λ (b : InodeBlock). b.attributes) one ∙ k.attributes in
    let its : AreContents i.1.kind k.said (below_by k.said.items.level below) j.1.body os =
    subst (λ (d : Kind). AreContents d k.said (below_by k.said.items.level below) j.1.body os) (sym kind) k.contents in
    let same : AreContents i.1.kind h.said (below_by h.said.items.level below) j.1.body os =
    subst (λ (b : InodeBlock). AreContents i.1.kind b (below_by b.items.level below) j.1.body os) (sym one) its in
    let rest = one_contents i.1.kind h.said (below_by h.said.items.level below) i.1.body j.1.body es os f g h.contents same in
    let inode : i.1 ≡ j.1 = (λ n. record { kind = kind n; attributes = attributes n; body = rest.0 n }) in
    ((λ n. (number n, inode n)), rest.1)

-- ---- the tree

record AreSame (t u : Tree) (xs ys : List (Key × Inode)) : Type 0 where
  same : xs ≡ ys
  each : AllByRecursion (λ i. shown i.1.kind (listing t i.0) ≡ shown i.1.kind (listing u i.0)) xs

abbrev HasEntries : Tree → Type 0
HasEntries t = (d : Key) → AllByRecursion IsEntry (listing t d)

are_same : (t u : Tree) → HasEntries t → HasEntries u → (f : Forest) (xs ys : List (Key × Inode)) → ShowInodes t f xs → ShowInodes u f ys → AreSame t u xs ys
are_same t u fit also nothing [] [] h k = record { same = refl; each = tt }
are_same t u fit also nothing [] (y ∷ ys) h k = absurd k
are_same t u fit also nothing (x ∷ xs) ys h k = absurd h
are_same t u fit also (block part bytes below beside) [] ys h k = absurd h
are_same t u fit also (block part bytes below beside) (x ∷ xs) [] h k = absurd k
are_same t u fit also (block part bytes below beside) (x ∷ xs) (y ∷ ys) h k =
    let one = one_inode_shown bytes below x y (listing t x.0) (listing u y.0) (fit x.0) (also y.0) h.0 k.0 in
    let rest = are_same t u fit also beside xs ys h.1 k.1 in
    record {
      same = (λ n. one.0 n ∷ rest.same n);
      each = (one.1 ∙ ap (λ (i : Key × Inode). shown x.1.kind (listing u i.0)) (sym one.0), rest.each);
    }

-- trees that are shown by the same blocks are one: their directories show the same, and all their names are in directories
one_tree : (t u : Tree) → IsWholeTree t → IsWholeTree u → AreSame t u t.inodes u.inodes → AreSame u t u.inodes t.inodes → t ≡ u
one_tree t u w v a b =
    let names = sorted_same t.names u.names w.in_order.names v.in_order.names (names_there t u w.parents a.each) (names_there u t v.parents b.each) in
    (λ n. record { names = names n; inodes = a.same n })

-- ---- the whole

-- a root shows one basis
pub one_basis_shown : (bytes : List ℕ) (below : Forest) (b c : Basis) → IsWholeTree b.tree → IsWholeTree c.tree → IsBasisSpelled b → IsBasisSpelled c → ShowsBasis bytes below b → ShowsBasis bytes below c → b ≡ c
one_basis_shown bytes below b c w v f g h k =
    let one : h.said ≡ k.said = one_said one_root h.says k.says in
    let front : b.front ≡ c.front = sym h.front ∙ ap (λ (r : RootBlock). r.front) one ∙ k.front in
    let tide : b.tide ≡ c.tide = sym h.tide ∙ ap (λ (r : RootBlock). r.tide) one ∙ k.tide in
    let items = below_by h.said.inodes.level below in
    let also : ShowInodes c.tree (below_by h.said.inodes.level below) c.tree.inodes = subst (λ (r : RootBlock). ShowInodes c.tree (below_by r.inodes.level below) c.tree.inodes) (sym one) k.inodes in
    let to = are_same b.tree c.tree (λ d. listed_fit b.tree.names d f.names) (λ d. listed_fit c.tree.names d g.names) items b.tree.inodes c.tree.inodes h.inodes also in
    let from = are_same c.tree b.tree (λ d. listed_fit c.tree.names d g.names) (λ d. listed_fit b.tree.names d f.names) items c.tree.inodes b.tree.inodes also h.inodes in
    let tree : b.tree ≡ c.tree = one_tree b.tree c.tree w v to from in
    (λ n. record { front = front n; tide = tide n; tree = tree n })

pub snapshot_is_unique : SnapshotIsUnique
snapshot_is_unique blocks b other are also =
    let g = are_forest blocks b are in
    let its = (loaded_is_shown g.bytes g.below other g.fits).0 (subst (λ (bs : List (List ℕ)). AreOf bs other) (sym g.order) also) in
    one_basis_shown g.bytes g.below other b its.0 are.whole its.1 are.bounds its.2 g.shows
