use Rattle.std.proofs.Common.{◌≡◌, Bool, true, false, subst}
use Rattle.std.specs.Prelude.{MatchBool}
use Rattle.ivy_base.specs.Naming.{root_number}
use Rattle.tree_model.specs.Tree.{IsInOrder, inode_at, is_directory}
use Rattle.snapshot_loading.specs.Parts.{tree_of}
use Rattle.snapshot_loading.specs.Steps.{Links}
use Rattle.snapshot_loading.proofs.Whole.{awaits_all, no_tree, whole_tree}
use Rattle.snapshot_loading.proofs.building.build.Goals as goal

pub returns-then-not-branch : goal.returns-then-not-branch
returns-then-not-branch c =
    let ps = c.args.parts.now in
    let root : is_directory (inode_at (tree_of ps) root_number) ≡ true = cc in
    let no : c.in_ok-link_all.field-0 ≡ false = cc in
    no_tree ps c.add_all.new.tree c.in_ok-add_all.ensures root c.link_all.new.tree (subst (λ (b : Bool). Links (tree_of ps).names c.add_all.new.tree c.link_all.new.tree b) no c.in_ok-link_all.ensures)

pub settle_all-requires-clause-awaits : goal.settle_all-requires-clause-awaits
settle_all-requires-clause-awaits c =
    let ps = c.args.parts.now in
    let root : is_directory (inode_at (tree_of ps) root_number) ≡ true = cc in
    let all_named : c.in_ok-link_all.field-0 ≡ true = cc in
    awaits_all ps c.add_all.new.tree c.in_ok-add_all.ensures root c.link_all.new.tree (subst (λ (b : Bool). Links (tree_of ps).names c.add_all.new.tree c.link_all.new.tree b) all_named c.in_ok-link_all.ensures)

pub returns : goal.returns
returns c =
    let ps = c.args.parts.now in
    let root : is_directory (inode_at (tree_of ps) root_number) ≡ true = cc in
    let ordered : c.in_order.result ≡ true = cc in
    let all_named : c.in_ok-link_all.field-0 ≡ true = cc in
    whole_tree ps c.add_all.new.tree c.in_ok-add_all.ensures root c.link_all.new.tree c.settle_all.new.tree
    (subst (λ (b : Bool). Links (tree_of ps).names c.add_all.new.tree c.link_all.new.tree b) all_named c.in_ok-link_all.ensures) c.in_ok-settle_all.ensures
    (subst (λ (b : Bool). MatchBool b (IsInOrder (tree_of ps)) (IsInOrder (tree_of ps) → ⊥)) ordered c.in_order.ensures)
