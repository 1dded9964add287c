use Rattle.std.proofs.Common.{◌∷◌, [], List, get_or, length, map, option_map, take, sym, ap, ◌∙◌, subst, arith}
use Rattle.std.specs.Option.{option_copied}
use Rattle.std.proofs.lemmas.List.{length-map, take_all}
use Rattle.ivy_base.specs.declared.key.Key.{Key}
use Rattle.tree_model.specs.Tree.{Inode, Tree}
use Rattle.snapshot_model.specs.Spelling.{Made, inode_made, made_name}
use Rattle.snapshot_store.specs.Levels.{IsOver}
use Rattle.snapshot_store.specs.Puts.{put_all}
use Rattle.snapshot_store.proofs.InOrder.{not_missing, made_next}
use Rattle.snapshot_store.proofs.inodes.put_inodes.Goals as goal

pub unreachable-requires : goal.unreachable-requires
unreachable-requires c =
    not_missing c.args.tree.now c.in_ok-numbers.ensures.order c.deref-number-items.result.now (c.deref-number-items.ensures.value ∙ c.in_ok-numbers.ensures.numbers) c.inodes.number-index c.inodes-test.true _
    (sym (ap (λ found. option_map (λ k. k.inode) (option_copied found)) c.in_default.is) ∙ c.content.ensures)

pub inodes-preserved : goal.inodes-preserved
inodes-preserved c =
    let t = c.args.tree.now in
    let entry : Key × Inode = (get_or c.deref-number-items.result.now c.inodes.number-index (record { 0 = [] }), c.in-Some.content.now.inode) in
    subst (λ (items : List Made). IsOver c.args.blocks.now items c.push.new.blocks c.push.new.self)
    (sym (made_next t c.in_ok-numbers.ensures.order c.deref-number-items.result.now (c.deref-number-items.ensures.value ∙ c.in_ok-numbers.ensures.numbers) c.inodes.number-index c.inodes-test.true _ c.in-Some.content.now.inode c.in-Some.ensures))
    (c.in_ok-push.ensures c.args.blocks.now c.inodes.blocks (map (inode_made t) (take c.inodes.number-index t.inodes)) (inode_made t entry) c.inodes.invariant
    (c.in_ok-name.ensures.blocks ∙ ap (λ (u : Tree). put_all c.inodes.blocks (inode_made u entry ∷ [])) c.names.ensures)
    (c.in_ok-name.ensures.named ∙ ap (λ (u : Tree). made_name (inode_made u entry)) c.names.ensures))

pub returns : goal.returns
returns c =
    let t = c.args.tree.now in
    c.in_ok-list.ensures c.args.blocks.now (map (inode_made t) t.inodes)
    (subst (λ es. IsOver c.args.blocks.now (map (inode_made t) es) c.inodes.blocks c.inodes.levels)
    (take_all c.inodes.number-index t.inodes (omega (arith, c.inodes-test.false, ap length (c.deref-number-items.ensures.value ∙ c.in_ok-numbers.ensures.numbers), length-map t.inodes (λ e. e.0)))) c.inodes.invariant)
