-- Trees that operations make.
use Rattle.std.proofs.Common.{◌≡◌, ℕ, Bool, true, false, cond, List, [], ◌∷◌, ◌++◌, Option, Some, None, option_map, refl, sym, ap, ◌∙◌, subst}
use Rattle.ivy_base.specs.declared.key.Key.{Key}
use Rattle.ivy_base.specs.declared.operation.Kind.{Kind}
use Rattle.ivy_base.specs.declared.operation.Moment.{Moment}
use Rattle.ivy_base.specs.declared.operation.Op.{Op}
use Rattle.tree_model.specs.Tree.{Tree, Inode, inode_at, same_key}
use Rattle.tree_model.specs.Apply.{empty_tree, apply, apply_all, at_inode, changed_inode}
use Rattle.tree_model.specs.Sound.{IsSound}
use Rattle.tree_model.proofs.Applied.{records_make_sound_trees}
use Rattle.tree_model.proofs.Keys.{same_key_is}
use Rattle.tree_model.proofs.Names.{inode_at-with_inode, names-changed_inode}
use Rattle.snapshot_loading.specs.Steps.{IsMade, sort, sort_at}

apply_more : (t : Tree) (ops others : List (Moment × Op)) → apply_all t (ops ++ others) ≡ apply_all (apply_all t ops) others
apply_more t [] others = refl
apply_more t (o ∷ ops) others = apply_more (apply t o.0 o.1) ops others

pub made_more : (t : Tree) → IsMade t → (now : Moment) (o : Op) → IsMade (apply t now o)
made_more t made now o = (made.0 ++ (now, o) ∷ [], ap (λ (u : Tree). apply u now o) made.1 ∙ sym (apply_more empty_tree made.0 ((now, o) ∷ [])))

pub sound_made : (t : Tree) → IsMade t → IsSound t
sound_made t made = subst IsSound (sym made.1) (records_make_sound_trees made.0)

-- one inode is changed
pub inode_changed : (t : Tree) (n : Key) (f : Inode → Inode) (a : Inode) → inode_at t n ≡ Some a → (k : Key) → inode_at (at_inode t n f) k ≡ cond (same_key k n) (Some (f a)) (inode_at t k)
inode_changed t n f a found k = ap (λ (o : Option Inode). inode_at (changed_inode t n o f) k) found ∙ inode_at-with_inode t n (f a) k

pub names_kept : (t : Tree) (n : Key) (f : Inode → Inode) → (at_inode t n f).names ≡ t.names
names_kept t n f = names-changed_inode t n (inode_at t n) f

-- or none: one that keeps kind and bytes
pub sort_kept : (t : Tree) (n : Key) (f : Inode → Inode) → ((i : Inode) → sort (f i) ≡ sort i) → (k : Key) → sort_at (at_inode t n f) k ≡ sort_at t k
sort_kept t n f same k = by (inode_at t n) refl
  where
    at : (a : Inode) → inode_at t n ≡ Some a → (b : Bool) → same_key k n ≡ b → option_map sort (cond b (Some (f a)) (inode_at t k)) ≡ sort_at t k
    at a found true is = ap (λ (s : Kind × List ℕ). Some s) (same a) ∙ ap (λ (o : Option Inode). option_map sort o) (sym (ap (inode_at t) (same_key_is k n is) ∙ found))
    at a found false is = refl

    by : (o : Option Inode) → inode_at t n ≡ o → sort_at (changed_inode t n o f) k ≡ sort_at t k
    by None found = refl
    by (Some a) found = ap (λ (o : Option Inode). option_map sort o) (inode_at-with_inode t n (f a) k) ∙ at a found (same_key k n) refl
