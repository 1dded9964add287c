-- An inode that was found, and one that wasn't.
use Rattle.std.proofs.Common.{◌≡◌, List, Option, Some, None, Bor, is_some, nat_lt, option_map, refl, sym, ap, ◌∙◌, subst}
use Rattle.std.specs.Prelude.{IfSome}
use Rattle.std.specs.Option.{option_copied}
use Rattle.std.specs.FinMap.Entries.{find as value_at}
use Rattle.ivy_base.specs.declared.key.Key.{Key}
use Rattle.ivy_base.specs.Naming.{key_cmp}
use Rattle.tree_model.specs.Tree.{Tree, inode_at, is_directory}
use Rattle.dir_replay.specs.declared.nodes.Node.{Node}
use Rattle.dir_replay.specs.Bare.{bare_inode}
use Rattle.dir_replay.specs.Found.{IsKept}
use Rattle.dir_replay.specs.View.{tree_of}
use Rattle.dir_replay.specs.Tied.{IsTied}
use Rattle.dir_replay.proofs.Above.{has_name-counted}
use Rattle.dir_replay.proofs.Views.{entry-found, inode_at-found}

module _ (nodes : List (Key × Node)) (tied : IsTied nodes) (t : Tree) (seen : tree_of nodes ≡ t) (k : Key) where
  there_by : (r : Option (Bor Node)) → is_some r ≡ is_some (option_map (λ n. bare_inode n.kind) (option_copied r))
  there_by None = refl
  there_by (Some n) = refl

  pub there : (r : Option (Bor Node)) → option_copied r ≡ value_at key_cmp k nodes → is_some r ≡ is_some (inode_at t k)
  there r is = there_by r ∙ ap is_some (inode_at-found nodes k (option_copied r) is) ∙ ap (λ (u : Tree). is_some (inode_at u k)) seen

  pub kept : (r : Option (Bor Node)) → option_copied r ≡ value_at key_cmp k nodes → IfSome r (λ n. IsKept t k n.now)
  kept None is = tt
  kept (Some n) is = subst (λ (u : Tree). IsKept u k n.now) seen (record {
    directory = ap is_directory (inode_at-found nodes k (Some n.now) is);
    names = tied.names k n.now (sym is);
    named = ap (nat_lt 0) (tied.names k n.now (sym is)) ∙ has_name-counted (tree_of nodes) k;
    subdirs = tied.subdirs k n.now (sym is);
    entries = λ name. entry-found nodes tied k name (Some n.now) is;
  })
