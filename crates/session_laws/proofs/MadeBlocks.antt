-- The blocks of a snapshot as they are read are among those that are put.
use Rattle.std.proofs.Common.{◌≡◌, inl, inr, ℕ, zero, suc, ◌+◌, Bool, true, false, cond, List, [], ◌∷◌, ◌++◌, length, map, take, drop, flat_map, refl, sym, subst, Contains}
use Rattle.std.specs.Prelude.{fold, nat_le}
use Rattle.std.specs.List.{AllByRecursion, list_any}
use Rattle.std.specs.Str.{bytes_eq}
use Rattle.std.proofs.lemmas.List.Elements.{Contains-append_left, Contains-append_right, Contains-append_cases, Contains-push}
use Rattle.ivy_base.specs.declared.key.Key.{Key}
use Rattle.ivy_base.specs.declared.operation.Kind.{Kind}
use Rattle.ivy_base.specs.declared.operation.Kind.TheVariants.{Reg, Dir, Lnk}
use Rattle.log_model.specs.View.{View}
use Rattle.std.proofs.lemmas.Slice.Eq.{bytes_eq-Decides}
use Rattle.log_model.proofs.Lists.{in_cons, in_nothing, each_from, each, who_passes}
use Rattle.tree_model.specs.Tree.{Tree, Inode, listing}
use Rattle.turn_model.specs.Basis.{Basis}
use Rattle.snapshot_model.specs.Spelling.{Made, over, list_made, list_blocks_over, list_of, pieces, in_pieces, entries_made, items_of, inode_made, snapshot_of, snapshot_blocks, with_block}

-- what is read of it is put
abbrev IsPut : Made → Type 0
IsPut m = (block : List ℕ) → Contains m.reading block → Contains m.putting block

abbrev ArePut : List Made → Type 0
ArePut ms = AllByRecursion IsPut ms

all_put : (ms : List Made) → ArePut ms → (block : List ℕ) → Contains (flat_map (λ m. m.reading) ms) block → Contains (flat_map (λ m. m.putting) ms) block
all_put [] h block c = c
all_put (m ∷ ms) h block c = elim (Contains-append_cases m.reading (flat_map (λ x. x.reading) ms) block c) [
  | inl first ↦ Contains-append_left m.putting (flat_map (λ x. x.putting) ms) block (h.0 block first)
  | inr more ↦ Contains-append_right m.putting (flat_map (λ x. x.putting) ms) block (all_put ms h.1 block more)
]

over_put : (bytes : List ℕ) (below : List Made) → ArePut below → IsPut (over bytes below)
over_put bytes below h block c = elim (in_cons bytes (flat_map (λ m. m.reading) below) block c) [
  | inl e ↦ subst (λ (b : List ℕ). Contains (flat_map (λ m. m.putting) below ++ bytes ∷ []) b) e (Contains-push (flat_map (λ m. m.putting) below) bytes)
  | inr more ↦ Contains-append_left (flat_map (λ m. m.putting) below) (bytes ∷ []) block (all_put below h block more)
]

-- ---- lists over them

module _ {X : Type 0} (P : X → Type 0) where
  each_take : (n : ℕ) (xs : List X) → AllByRecursion P xs → AllByRecursion P (take n xs)
  each_take zero xs h = tt
  each_take (suc n) [] h = tt
  each_take (suc n) (x ∷ xs) h = (h.0, each_take n xs h.1)

  each_drop : (n : ℕ) (xs : List X) → AllByRecursion P xs → AllByRecursion P (drop n xs)
  each_drop zero xs h = h
  each_drop (suc n) [] h = tt
  each_drop (suc n) (x ∷ xs) h = each_drop n xs h.1

  each_piece : (n size : ℕ) (xs : List X) → AllByRecursion P xs → AllByRecursion (AllByRecursion P) (pieces n size xs)
  each_piece zero size xs h = tt
  each_piece (suc n) size [] h = tt
  each_piece (suc n) size (x ∷ xs) h = (each_take size (x ∷ xs) h, each_piece n size (drop size (x ∷ xs)) (each_drop size (x ∷ xs) h))

lists_put : (level : ℕ) (lists : List (List Made)) → AllByRecursion ArePut lists → ArePut (map (list_made level) lists)
lists_put level [] h = tt
lists_put level (items ∷ lists) h = (over_put _ items h.0, lists_put level lists h.1)

listed_put : (levels level : ℕ) (items : List Made) → ArePut items → ArePut (list_blocks_over levels level items).1
listed_put zero level [] h = tt
listed_put zero level (item ∷ items) h = tt
listed_put (suc levels) level [] h = tt
listed_put (suc levels) level (item ∷ items) h = by (nat_le (length (item ∷ items)) 512)
    (listed_put levels (level + 1) (map (list_made level) (in_pieces 512 (item ∷ items))) (lists_put level (in_pieces 512 (item ∷ items)) (each_piece IsPut (length (item ∷ items)) 512 (item ∷ items) h)))
  where
    by : (b : Bool) → ArePut (list_blocks_over levels (level + 1) (map (list_made level) (in_pieces 512 (item ∷ items)))).1
        → ArePut (cond b (level, list_made level (item ∷ items) ∷ []) (list_blocks_over levels (level + 1) (map (list_made level) (in_pieces 512 (item ∷ items))))).1
    by true rest = (over_put _ (item ∷ items) h, tt)
    by false rest = rest

-- ---- inodes, and the whole

alone_put : {X : Type 0} (f : X → List ℕ) (xs : List X) → ArePut (map (λ x. over (f x) []) xs)
alone_put f [] = tt
alone_put f (x ∷ xs) = (over_put (f x) [] tt, alone_put f xs)

items_put : (entries : List (List ℕ × Key)) (body : List ℕ) (kind : Kind) → ArePut (items_of entries body kind)
items_put entries body Reg = alone_put (λ bytes. bytes) (in_pieces 8192 body)
items_put entries body Dir = alone_put (λ part. (entries_made part).bytes) (in_pieces 32 entries)
items_put entries body Lnk = tt

inode_put : (t : Tree) (i : Key × Inode) → IsPut (inode_made t i)
inode_put t i = over_put _ (list_of (items_of (listing t i.0) i.1.body i.1.kind)).1 (listed_put 3 1 (items_of (listing t i.0) i.1.body i.1.kind) (items_put (listing t i.0) i.1.body i.1.kind))

inodes_put : (t : Tree) (inodes : List (Key × Inode)) → ArePut (map (inode_made t) inodes)
inodes_put t [] = tt
inodes_put t (i ∷ inodes) = (inode_put t i, inodes_put t inodes)

whole_put : (view : View) (b : Basis) → IsPut (snapshot_of view b)
whole_put view b = over_put _ (list_of (map (inode_made b.tree) b.tree.inodes)).1 (listed_put 3 1 (map (inode_made b.tree) b.tree.inodes) (inodes_put b.tree b.tree.inodes))

-- ---- each once

kept : (blocks : List (List ℕ)) (b x : List ℕ) → Contains blocks x → Contains (with_block blocks b) x
kept blocks b x c = by (list_any (bytes_eq b) blocks)
  where
    by : (test : Bool) → Contains (cond test blocks (blocks ++ b ∷ [])) x
    by true = c
    by false = Contains-append_left blocks (b ∷ []) x c

taken_in : (blocks : List (List ℕ)) (b : List ℕ) → Contains (with_block blocks b) b
taken_in blocks b = by (list_any (bytes_eq b) blocks) refl
  where
    by : (test : Bool) → list_any (bytes_eq b) blocks ≡ test → Contains (cond test blocks (blocks ++ b ∷ [])) b
    by true e = let w = who_passes (bytes_eq b) blocks e in subst (λ (x : List ℕ). Contains blocks x) (sym ((bytes_eq-Decides b w.0).0 w.2)) w.1
    by false e = Contains-push blocks b

all_kept : (blocks more : List (List ℕ)) (x : List ℕ) → Contains blocks x → Contains (fold with_block blocks more) x
all_kept blocks [] x c = c
all_kept blocks (b ∷ more) x c = all_kept (with_block blocks b) more x (kept blocks b x c)

each_once : (blocks more : List (List ℕ)) (x : List ℕ) → Contains more x → Contains (fold with_block blocks more) x
each_once blocks [] x c = absurd (in_nothing x c)
each_once blocks (b ∷ more) x c = elim (in_cons b more x c) [
  | inl e ↦ all_kept (with_block blocks b) more x (subst (λ (y : List ℕ). Contains (with_block blocks b) y) e (taken_in blocks b))
  | inr later ↦ each_once (with_block blocks b) more x later
]

-- where all that are put were met, all that are read were
pub read_met : (met : List (List ℕ)) (view : View) (b : Basis) → AllByRecursion (Contains met) (snapshot_blocks view b) → AllByRecursion (Contains met) (snapshot_of view b).reading
read_met met view b all = each_from (Contains met) (snapshot_of view b).reading
    (λ x c. each (Contains met) (snapshot_blocks view b) x all (each_once [] (snapshot_of view b).putting x (whole_put view b x c)))
