-- Inodes are added one by one.
use Rattle.std.proofs.Common.{◌≡◌, ℕ, Bool, true, false, cond, List, [], ◌∷◌, ◌++◌, map, Option, Some, None, option_map, is_some, refl, sym, ap, ◌∙◌, subst}
use Rattle.std.specs.FinMap.Entries.{find as value_at, is_sorted, find-append}
use Rattle.std.proofs.lemmas.List.{map-append}
use Rattle.ivy_base.specs.declared.key.Key.{Key}
use Rattle.ivy_base.specs.declared.operation.Kind.{Kind}
use Rattle.ivy_base.specs.declared.operation.Kind.TheVariants.{Dir}
use Rattle.ivy_base.specs.declared.operation.Op.TheVariants as op
use Rattle.ivy_base.specs.Naming.{key_cmp, root_number}
use Rattle.tree_model.specs.Tree.{Tree, Inode, inode_at, same_key}
use Rattle.tree_model.specs.Apply.{empty_tree, add_inode, with_inode}
use Rattle.tree_model.proofs.Keys.{keys_total, same_key_is}
use Rattle.tree_model.proofs.Names.{inode_at-with_inode}
use Rattle.inode_replay.specs.Contents.{new_inode}
use Rattle.snapshot_loading.specs.declared.parts.InodeParts.{InodeParts}
use Rattle.snapshot_loading.specs.Parts.{inode_of, numbered, tree_of}
use Rattle.snapshot_loading.specs.Steps.{AreAdded, beginning, first_body, first_sort, sort, sort_at}
use Rattle.snapshot_loading.proofs.Sorted.{absent_last, sorted_front}
use Rattle.snapshot_loading.proofs.Made.{made_more}

abbrev Sort : Type 0
Sort = Kind × List ℕ

abbrev root_sort : Sort
root_sort = (Dir, [])

pub added_start : AreAdded [] empty_tree
added_start = record { made = ([], refl); no_names = refl; each = λ k. by (same_key k root_number) }
  where
    by : (b : Bool) → option_map sort (cond b (inode_at empty_tree root_number) None) ≡ cond b (Some root_sort) None
    by true = refl
    by false = refl

-- the numbers of the first of them are in order
pub sorted_part : (done : List InodeParts) (p : InodeParts) (rest parts : List InodeParts) → parts ≡ (done ++ p ∷ []) ++ rest → is_sorted key_cmp (map numbered parts) ≡ true → is_sorted key_cmp (map numbered (done ++ p ∷ [])) ≡ true
sorted_part done p rest parts is sorted =
    sorted_front key_cmp (map numbered (done ++ p ∷ [])) (map numbered rest)
    (subst (λ (es : List (Key × Inode)). is_sorted key_cmp es ≡ true) (ap (λ (ps : List InodeParts). map numbered ps) is ∙ map-append numbered (done ++ p ∷ []) rest) sorted)

-- where a number is found, if it is the last, and none of the others is
pub found_last : (parts : List InodeParts) (p : InodeParts) → is_sorted key_cmp (map numbered (parts ++ p ∷ [])) ≡ true → (k : Key)
    → inode_at (tree_of (parts ++ p ∷ [])) k ≡ cond (same_key k p.number) (Some (inode_of p)) (inode_at (tree_of parts) k)
found_last parts p sorted k =
    let after : map numbered (parts ++ p ∷ []) ≡ map numbered parts ++ numbered p ∷ [] = map-append numbered parts (p ∷ []) in
    ap (λ (es : List (Key × Inode)). value_at key_cmp k es) after
    ∙ find-append key_cmp keys_total (map numbered parts) p.number (inode_of p) k (absent_last key_cmp keys_total p.number (inode_of p) (map numbered parts) (subst (λ (es : List (Key × Inode)). is_sorted key_cmp es ≡ true) after sorted))

pub absent : (parts : List InodeParts) (p : InodeParts) → is_sorted key_cmp (map numbered (parts ++ p ∷ [])) ≡ true → inode_at (tree_of parts) p.number ≡ None
absent parts p sorted = absent_last key_cmp keys_total p.number (inode_of p) (map numbered parts) (subst (λ (es : List (Key × Inode)). is_sorted key_cmp es ≡ true) (map-append numbered parts (p ∷ [])) sorted)

module _ (parts : List InodeParts) (t : Tree) (added : AreAdded parts t) (p : InodeParts) (sorted : is_sorted key_cmp (map numbered (parts ++ p ∷ [])) ≡ true) where
  abbrev new : Inode
  new = new_inode beginning p.kind 0 0 0 (first_body p.kind p.body)

  abbrev Target : Key → Option Inode → Type 0
  Target k now = option_map sort now ≡ cond (same_key k root_number) (Some root_sort) (option_map first_sort (inode_at (tree_of (parts ++ p ∷ [])) k))

  -- the number is there: then it is the root's
  is_root : is_some (inode_at t p.number) ≡ true → same_key p.number root_number ≡ true
  is_root there = by (same_key p.number root_number) refl (added.each p.number)
    where
      by : (b : Bool) → same_key p.number root_number ≡ b → sort_at t p.number ≡ cond b (Some root_sort) (option_map first_sort (inode_at (tree_of parts) p.number)) → b ≡ true
      by true e is = refl
      by false e is = absurd (none (inode_at t p.number) there (is ∙ ap (λ (o : Option Inode). option_map first_sort o) (absent parts p sorted)))
        where
          none : (o : Option Inode) → is_some o ≡ true → option_map sort o ≡ None → ⊥
          none None h g = cc
          none (Some i) h g = cc

  not_root : is_some (inode_at t p.number) ≡ false → same_key p.number root_number ≡ false
  not_root missing = by (same_key p.number root_number) refl (added.each p.number)
    where
      by : (b : Bool) → same_key p.number root_number ≡ b → sort_at t p.number ≡ cond b (Some root_sort) (option_map first_sort (inode_at (tree_of parts) p.number)) → b ≡ false
      by false e is = refl
      by true e is = absurd (some (inode_at t p.number) missing is)
        where
          some : (o : Option Inode) → is_some o ≡ false → option_map sort o ≡ Some root_sort → ⊥
          some None h g = cc
          some (Some i) h g = cc

  same_cases : (b : Bool) (o : Option Inode) → cond b (Some root_sort) (option_map first_sort (cond b (Some (inode_of p)) o)) ≡ cond b (Some root_sort) (option_map first_sort o)
  same_cases true o = refl
  same_cases false o = refl

  kept : is_some (inode_at t p.number) ≡ true → (k : Key) → Target k (inode_at t k)
  kept there k =
      let root : p.number ≡ root_number = same_key_is p.number root_number (is_root there) in
      added.each k ∙ sym (
      ap (λ (o : Option Inode). cond (same_key k root_number) (Some root_sort) (option_map first_sort o)) (found_last parts p sorted k ∙ ap (λ (n : Key). cond (same_key k n) (Some (inode_of p)) (inode_at (tree_of parts) k)) root)
      ∙ same_cases (same_key k root_number) (inode_at (tree_of parts) k)
      )

  new_cases : (here root : Bool) → (here ≡ true → root ≡ false) → (now o : Option Inode) → option_map sort now ≡ cond root (Some root_sort) (option_map first_sort o)
      → option_map sort (cond here (Some new) now) ≡ cond root (Some root_sort) (option_map first_sort (cond here (Some (inode_of p)) o))
  new_cases true true h now o e = let f = h refl in cc
  new_cases true false h now o e = refl
  new_cases false root h now o e = e

  given : is_some (inode_at t p.number) ≡ false → (k : Key) → Target k (inode_at (with_inode t p.number new) k)
  given missing k =
      ap (λ (o : Option Inode). option_map sort o) (inode_at-with_inode t p.number new k)
      ∙ new_cases (same_key k p.number) (same_key k root_number) (λ here. ap (λ (n : Key). same_key n root_number) (same_key_is k p.number here) ∙ not_root missing) (inode_at t k) (inode_at (tree_of parts) k) (added.each k)
      ∙ ap (λ (o : Option Inode). cond (same_key k root_number) (Some root_sort) (option_map first_sort o)) (sym (found_last parts p sorted k))

  each_by : (b : Bool) → is_some (inode_at t p.number) ≡ b → (k : Key) → Target k (inode_at (cond b t (with_inode t p.number new)) k)
  each_by true e k = kept e k
  each_by false e k = given e k

  names_by : (b : Bool) → (cond b t (with_inode t p.number new)).names ≡ []
  names_by true = added.no_names
  names_by false = added.no_names

  pub added_next : (t' : Tree) → t' ≡ add_inode t beginning p.number p.kind 0 0 0 (first_body p.kind p.body) → AreAdded (parts ++ p ∷ []) t'
  added_next t' is = subst (λ (u : Tree). AreAdded (parts ++ p ∷ []) u) (sym is) (record {
    made = made_more t added.made beginning (op.Inode p.number p.kind 0 0 0 (first_body p.kind p.body));
    no_names = names_by (is_some (inode_at t p.number));
    each = each_by (is_some (inode_at t p.number)) refl;
  })
