use Rattle.std.proofs.Common.{◌≡◌, ℕ, Bool, true, cond, List, [], ◌∷◌, Option, None, refl, ap, ◌∙◌}
use Rattle.std.specs.Prelude.{unwrap_or}
use Rattle.ivy_base.specs.declared.key.Key.{Key}
use Rattle.tree_model.specs.Tree.{Tree, inode_at, is_directory, listing, parent}
use Rattle.dir_replay.specs.Bare.{bare}
use Rattle.dir_replay.proofs.Bare.{is_directory-bare}
use Rattle.nfs_model.specs.Pages.{all_entries}
use Rattle.nfs3_reads.proofs.listing.whole_of.Goals as goal

where_directory : (b : Bool) (above : Option Key) → b ≡ true → cond b above None ≡ above
where_directory b above h = rw h refl

-- the parent of a directory, as the names show it
parent_is : (t names : Tree) (dir : Key) → names ≡ bare t → is_directory (inode_at t dir) ≡ true → cond (is_directory (inode_at names dir)) (parent names dir) None ≡ parent t dir
parent_is t names dir seen there =
    where_directory (is_directory (inode_at names dir)) (parent names dir) (ap (λ (x : Tree). is_directory (inode_at x dir)) seen ∙ is_directory-bare t dir ∙ there)
    ∙ ap (λ (x : Tree). parent x dir) seen

all_are : (t : Tree) (dir p : Key) (pairs : List (List ℕ × Key)) → p ≡ unwrap_or (parent t dir) dir → pairs ≡ listing t dir → (46 ∷ [], dir) ∷ (46 ∷ 46 ∷ [], p) ∷ pairs ≡ all_entries t dir
all_are t dir p pairs e f = λ i. (46 ∷ [], dir) ∷ (46 ∷ 46 ∷ [], e i) ∷ f i

pub returns-clause-entries : goal.returns-clause-entries
returns-clause-entries c =
    let t = c.args.tree.now in
    let dir = c.args.number.now in
    c.in_ok-with_parents.ensures
    ∙ all_are t dir c.unwrap_or-parent.result c.in_ok-listing.listing
    (c.unwrap_or-parent.ensures ∙ ap (λ (above : Option Key). unwrap_or above dir) (c.parent.ensures.parent ∙ parent_is t c.names-2.result.now dir c.names-2.ensures c.requires))
    (c.in_ok-listing.ensures ∙ ap (λ (x : Tree). listing x dir) c.names.ensures)
