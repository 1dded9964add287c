use Rattle.std.proofs.Common.{◌≡◌, ◌+◌, ◌++◌, Bool, true, false, ℕ, List, take, drop, sym, subst}
use Rattle.std.specs.FinMap.Entries.{is_sorted}
use Rattle.ivy_base.specs.declared.key.Key.{Key}
use Rattle.tree_model.specs.Tree.{place_cmp}
use Rattle.dir_replay.specs.View.{names_in}
use Rattle.snapshot_loading.specs.Parts.{names_of, tree_of}
use Rattle.snapshot_loading.specs.Steps.{Links}
use Rattle.snapshot_loading.proofs.Sorted.{split_at}
use Rattle.snapshot_loading.proofs.Linked.{order_part, parts_cut, stops_all}
use Rattle.snapshot_loading.proofs.linking.link_all.Goals as goal

pub link_each-requires-clause-order : goal.link_each-requires-clause-order
link_each-requires-clause-order c =
    let ps = c.args.parts.now in
    let i = c.parts.part-index in
    let p = c.part-item.result in
    subst (λ (es : List (List ℕ × Key)). is_sorted place_cmp (c.parts.tree.names ++ names_in p.number es) ≡ true) (sym c.as_slice.ensures.value)
    (order_part c.args.tree.now.names (tree_of (take i ps)).names (names_of p) (tree_of (drop (i + 1) ps)).names (tree_of ps).names c.parts.tree.names
    (parts_cut ps (take i ps) (drop (i + 1) ps) p (split_at ps i p c.parts-test.true c.part-item.is)) c.requires.order c.parts.invariant.1)

pub returns-then-not-branch : goal.returns-then-not-branch
returns-then-not-branch c =
    let ps = c.args.parts.now in
    let i = c.parts.part-index in
    let p = c.part-item.result in
    let no : c.in_ok-link_each.field-0 ≡ false = cc in
    stops_all (tree_of (take i ps)).names (names_of p) (tree_of (drop (i + 1) ps)).names (tree_of ps).names c.args.tree.now c.parts.tree c.link_each.new.tree
    (parts_cut ps (take i ps) (drop (i + 1) ps) p (split_at ps i p c.parts-test.true c.part-item.is)) c.parts.invariant
    (subst (λ (es : List (List ℕ × Key)). Links (names_in p.number es) c.parts.tree c.link_each.new.tree false) c.as_slice.ensures.value
    (subst (λ (b : Bool). Links (names_in p.number c.as_slice.result.now) c.parts.tree c.link_each.new.tree b) no c.in_ok-link_each.ensures))
