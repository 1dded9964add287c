use Rattle.std.proofs.Common.{◌≡◌, Some, option_map, sym, subst}
use Rattle.tree_model.specs.Tree.{Tree as Seen, inode_at}
use Rattle.fs_tree.proofs.Joined.{content_put, content_sound}
use Rattle.fs_tree.proofs.tree.Tree.put_content.Goals as goal

pub invariant_of-self : goal.invariant_of-self
invariant_of-self c =
    (content_put c.self.inside.names c.self.inside.contents c.self.invariant c.args.ino c.args.content.inode
    (subst (λ (t : Seen). option_map (λ i. i.kind) (inode_at t c.args.ino) ≡ Some c.args.content.inode.kind) (sym c.self.view_is) c.requires) c.insert.new.self c.insert.result c.insert.ensures.ok c.insert.ensures.err).1

pub returns-clause-sound : goal.returns-clause-sound
returns-clause-sound c =
    content_sound c.self.inside.names c.self.inside.contents c.self.invariant c.args.ino c.args.content.inode
    (subst (λ (t : Seen). option_map (λ i. i.kind) (inode_at t c.args.ino) ≡ Some c.args.content.inode.kind) (sym c.self.view_is) c.requires) c.insert.new.self c.insert.result c.insert.ensures.ok c.insert.ensures.err
