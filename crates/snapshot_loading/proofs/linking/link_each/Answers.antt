use Rattle.std.proofs.Common.{◌≡◌, ◌+◌, Bool, false, [], ◌∷◌, take, drop, subst}
use Rattle.dir_replay.specs.View.{names_in}
use Rattle.snapshot_loading.specs.Steps.{Links}
use Rattle.snapshot_loading.proofs.Sorted.{split_at}
use Rattle.snapshot_loading.proofs.Linked.{names_cut, order_part, stops_all}
use Rattle.snapshot_loading.proofs.linking.link_each.Goals as goal

pub link-requires-clause-order : goal.link-requires-clause-order
link-requires-clause-order c =
    let d = c.args.dir.now in
    let es = c.args.entries.now in
    let i = c.entries.entry-index in
    let e = c.entry-item.result in
    order_part c.args.tree.now.names (names_in d (take i es)) (((d, e.0), e.1) ∷ []) (names_in d (drop (i + 1) es)) (names_in d es) c.entries.tree.names
    (names_cut d es (take i es) (drop (i + 1) es) e (split_at es i e c.entries-test.true c.entry-item.is)) c.requires.order c.entries.invariant.1

pub returns-then-not-branch : goal.returns-then-not-branch
returns-then-not-branch c =
    let d = c.args.dir.now in
    let es = c.args.entries.now in
    let i = c.entries.entry-index in
    let e = c.entry-item.result in
    let no : c.in_ok-link.field-0 ≡ false = cc in
    stops_all (names_in d (take i es)) (((d, e.0), e.1) ∷ []) (names_in d (drop (i + 1) es)) (names_in d es) c.args.tree.now c.entries.tree c.link.new.tree
    (names_cut d es (take i es) (drop (i + 1) es) e (split_at es i e c.entries-test.true c.entry-item.is)) c.entries.invariant
    (subst (λ (b : Bool). Links (((d, e.0), e.1) ∷ []) c.entries.tree c.link.new.tree b) no c.in_ok-link.ensures)
