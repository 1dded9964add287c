-- Inodes get their contents one by one.
use Rattle.std.proofs.Common.{◌≡◌, ℕ, Bool, true, false, cond, List, [], ◌∷◌, ◌++◌, map, Option, Some, None, option_map, refl, sym, ap, ◌∙◌, subst}
use Rattle.std.specs.FinMap.Entries.{find as value_at, is_sorted}
use Rattle.std.proofs.lemmas.List.{map-append}
use Rattle.ivy_base.specs.declared.key.Key.{Key}
use Rattle.ivy_base.specs.declared.operation.Kind.{Kind}
use Rattle.ivy_base.specs.Naming.{key_cmp}
use Rattle.tree_model.specs.Tree.{Tree, Inode, inode_at, same_key}
use Rattle.tree_model.specs.Apply.{with_inode}
use Rattle.tree_model.specs.Sound.{IsSound}
use Rattle.tree_model.proofs.Keys.{same_key_itself}
use Rattle.tree_model.proofs.Names.{inode_at-with_inode}
use Rattle.inode_replay.specs.Kept.{Kept}
use Rattle.snapshot_loading.specs.declared.parts.InodeParts.{InodeParts}
use Rattle.snapshot_loading.specs.Parts.{inode_of, kept_of, numbered, tree_of}
use Rattle.snapshot_loading.specs.Steps.{AreSettled, Awaits, AwaitsAll, Settles, first_sort, sort}
use Rattle.snapshot_loading.proofs.Sorted.{found_front}
use Rattle.snapshot_loading.proofs.Added.{absent, found_last, sorted_part}

-- ---- one inode

-- an inode of that kind is there
pub kind_awaits : (p : InodeParts) (t : Tree) → Awaits p t → option_map (λ i. i.kind) (inode_at t p.number) ≡ Some p.kind
kind_awaits p t awaits = by (inode_at t p.number) awaits
  where
    by : (o : Option Inode) → option_map sort o ≡ Some (first_sort (inode_of p)) → option_map (λ i. i.kind) o ≡ Some p.kind
    by None is = cc
    by (Some i) is = let same : sort i ≡ first_sort (inode_of p) = cc in ap (λ (s : Kind × List ℕ). Some s.0) same

pub settled : (p : InodeParts) (old new : Tree) (k : Kept) → k ≡ kept_of p → new ≡ with_inode old p.number k.inode → IsSound new → Settles p old new
settled p old new k same is sound = record {
  sound = λ before. sound;
  names = ap (λ (u : Tree). u.names) is;
  each = λ n. ap (λ (u : Tree). inode_at u n) is ∙ inode_at-with_inode old p.number k.inode n ∙ ap (λ (j : Kept). cond (same_key n p.number) (Some j.inode) (inode_at old n)) same;
}

-- ---- all of them

-- what is settled is as it is to be, and the others are as they were added
abbrev Stage : Option Inode → Option Inode → Option Inode → Type 0
Stage (Some i) target now = now ≡ Some i
Stage None target now = option_map sort now ≡ option_map first_sort target

pub record AreSettledTo (done parts : List InodeParts) (old new : Tree) : Type 0 where
  pub sound : IsSound old → IsSound new
  pub names : new.names ≡ old.names
  pub each : (k : Key) → Stage (inode_at (tree_of done) k) (inode_at (tree_of parts) k) (inode_at new k)

pub settled_none : (parts : List InodeParts) (t : Tree) → AwaitsAll parts t → AreSettledTo [] parts t t
settled_none parts t awaits = record { sound = λ s. s; names = refl; each = awaits }

module _ (done parts : List InodeParts) (p : InodeParts) (rest : List InodeParts) (is : parts ≡ (done ++ p ∷ []) ++ rest) (sorted : is_sorted key_cmp (map numbered parts) ≡ true) where
  sorted_here : is_sorted key_cmp (map numbered (done ++ p ∷ [])) ≡ true
  sorted_here = sorted_part done p rest parts is sorted

  found_in : inode_at (tree_of parts) p.number ≡ Some (inode_of p)
  found_in =
      ap (λ (ps : List InodeParts). inode_at (tree_of ps) p.number) is ∙ ap (λ (es : List (Key × Inode)). value_at key_cmp p.number es) (map-append numbered (done ++ p ∷ []) rest)
      ∙ found_front key_cmp p.number (map numbered (done ++ p ∷ [])) (map numbered rest) (inode_of p)
      (found_last done p sorted_here p.number ∙ ap (λ (b : Bool). cond b (Some (inode_of p)) (inode_at (tree_of done) p.number)) (same_key_itself p.number))

  module _ (old mid : Tree) (so_far : AreSettledTo done parts old mid) where
    pub awaits_next : Awaits p mid
    awaits_next = by (inode_at (tree_of done) p.number) (absent done p sorted_here) (so_far.each p.number)
      where
        by : (o : Option Inode) → o ≡ None → Stage o (inode_at (tree_of parts) p.number) (inode_at mid p.number) → Awaits p mid
        by None e h = h ∙ ap (λ (t : Option Inode). option_map first_sort t) found_in
        by (Some i) e h = cc

    stage_next : (k : Key) (b : Bool) (now : Option Inode) → now ≡ cond b (Some (inode_of p)) (inode_at mid k) → Stage (cond b (Some (inode_of p)) (inode_at (tree_of done) k)) (inode_at (tree_of parts) k) now
    stage_next k true now e = e
    stage_next k false now e = subst (λ (o : Option Inode). Stage (inode_at (tree_of done) k) (inode_at (tree_of parts) k) o) (sym e) (so_far.each k)

    pub settled_next : (new : Tree) → Settles p mid new → AreSettledTo (done ++ p ∷ []) parts old new
    settled_next new s = record {
      sound = λ m. s.sound (so_far.sound m);
      names = s.names ∙ so_far.names;
      each = λ k. subst (λ (o : Option Inode). Stage o (inode_at (tree_of parts) k) (inode_at new k)) (sym (found_last done p sorted_here k)) (stage_next k (same_key k p.number) (inode_at new k) (s.each k));
    }

pub all_settled : (parts : List InodeParts) (old new : Tree) → AreSettledTo parts parts old new → AreSettled parts old new
all_settled parts old new h = record { sound = h.sound; names = h.names; each = λ k. by (inode_at (tree_of parts) k) (inode_at new k) (h.each k) }
  where
    by : (o now : Option Inode) → Stage o o now → now ≡ o
    by (Some i) now e = e
    by None None e = refl
    by None (Some i) e = cc
