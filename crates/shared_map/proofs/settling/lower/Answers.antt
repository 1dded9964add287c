use Rattle.std.proofs.Common.{◌≡◌, Some, ap, ◌∙◌}
use Rattle.shared_map.specs.Trees.{seen, side_on, IsBalanced}
use Rattle.shared_map.proofs.Turned.{when_true, when_false, put_back, still_level, still_high, few_in, side_tree, straight_on, straight_fits, turned_entries, turned_level, turned_height}
use Rattle.shared_map.proofs.settling.lower.Goals as goal

pub straighten-requires : goal.straighten-requires
straighten-requires g c =
    let is : seen (Some c.in-Some-get_mut.below.now) ≡ side_on c.args.on c.args.at.now = ap (λ x. seen (Some x)) c.in-Some-get_mut.ensures.value ∙ c.in-Some.ensures.top ∙ c.take.ensures.side in
    let balanced : IsBalanced (Some c.in-Some-get_mut.below.now) = rw c.in-Some-get_mut.ensures.value c.in-Some.ensures.balanced in
    record {
      tree = side_tree c.in-Some-get_mut.below.now _ is balanced (rw (← c.take.ensures.side) c.in-Some.ensures.low);
      few = few_in c.args.at.now c.args.on c.in-Some-get_mut.below.now is c.requires.few;
    }

pub turn_away-requires : goal.turn_away-requires
turn_away-requires g c =
    let yes = when_true _ _ c.straighten.result c.if-straighten.true c.straighten.ensures in
    let is : seen (Some c.in-Some-get_mut.below.now) ≡ side_on c.args.on c.args.at.now = ap (λ x. seen (Some x)) c.in-Some-get_mut.ensures.value ∙ c.in-Some.ensures.top ∙ c.take.ensures.side in
    let straight = straight_on c.args.on c.other-other.result c.straighten.new.at c.in-Some-get_mut.below.now.height (side_on c.args.on c.args.at.now).1 c.other-other.ensures (ap (λ x. x.1) is) yes.1 in
    let fits = straight_fits c.args.at.now c.args.on c.take.new.self c.straighten.new.at c.take.ensures.rest c.requires.few (yes.0 ∙ ap (λ x. x.0) is) straight c.requires.higher in
    record { level = fits.0; few = fits.1 }

pub over-requires-then-straighten : goal.over-requires-then-straighten
over-requires-then-straighten g c = record { balanced = c.turn_away.ensures.tree.0; low = c.turn_away.ensures.tree.1 }

pub returns-then-straighten-clause-entries : goal.returns-then-straighten-clause-entries
returns-then-straighten-clause-entries g c =
    let yes = when_true _ _ c.straighten.result c.if-straighten.true c.straighten.ensures in
    let is : seen (Some c.in-Some-get_mut.below.now) ≡ side_on c.args.on c.args.at.now = ap (λ x. seen (Some x)) c.in-Some-get_mut.ensures.value ∙ c.in-Some.ensures.top ∙ c.take.ensures.side in
    turned_entries c.args.on c.other-other.result c.other-other.ensures c.args.at.now c.take.new.self c.turn_away.new.at c.set-then-straighten.new.self c.straighten.new.at c.turn_away.new.below c.over-then-straighten.result c.take.ensures.rest c.turn_away.ensures.upper c.turn_away.ensures.lower c.over-then-straighten.ensures c.set-then-straighten.ensures (yes.0 ∙ ap (λ x. x.0) is)

pub returns-then-straighten-clause-level : goal.returns-then-straighten-clause-level
returns-then-straighten-clause-level g c =
    let yes = when_true _ _ c.straighten.result c.if-straighten.true c.straighten.ensures in
    let is : seen (Some c.in-Some-get_mut.below.now) ≡ side_on c.args.on c.args.at.now = ap (λ x. seen (Some x)) c.in-Some-get_mut.ensures.value ∙ c.in-Some.ensures.top ∙ c.take.ensures.side in
    let straight = straight_on c.args.on c.other-other.result c.straighten.new.at c.in-Some-get_mut.below.now.height (side_on c.args.on c.args.at.now).1 c.other-other.ensures (ap (λ x. x.1) is) yes.1 in
    turned_level c.args.on c.other-other.result c.other-other.ensures c.args.at.now c.take.new.self c.turn_away.new.at c.set-then-straighten.new.self c.straighten.new.at c.turn_away.new.below c.over-then-straighten.result c.take.ensures.rest c.turn_away.ensures.upper c.turn_away.ensures.lower c.over-then-straighten.ensures c.set-then-straighten.ensures straight c.requires.higher

pub returns-then-straighten-clause-height : goal.returns-then-straighten-clause-height
returns-then-straighten-clause-height g c =
    let yes = when_true _ _ c.straighten.result c.if-straighten.true c.straighten.ensures in
    let is : seen (Some c.in-Some-get_mut.below.now) ≡ side_on c.args.on c.args.at.now = ap (λ x. seen (Some x)) c.in-Some-get_mut.ensures.value ∙ c.in-Some.ensures.top ∙ c.take.ensures.side in
    let straight = straight_on c.args.on c.other-other.result c.straighten.new.at c.in-Some-get_mut.below.now.height (side_on c.args.on c.args.at.now).1 c.other-other.ensures (ap (λ x. x.1) is) yes.1 in
    turned_height c.args.on c.other-other.result c.other-other.ensures c.args.at.now c.take.new.self c.turn_away.new.at c.set-then-straighten.new.self c.straighten.new.at c.turn_away.new.below c.over-then-straighten.result c.take.ensures.rest c.turn_away.ensures.upper c.turn_away.ensures.lower c.over-then-straighten.ensures c.set-then-straighten.ensures straight c.requires.higher

pub returns-else-straighten-clause-entries : goal.returns-else-straighten-clause-entries
returns-else-straighten-clause-entries g c =
    let is : seen (Some c.in-Some-get_mut.below.now) ≡ side_on c.args.on c.args.at.now = ap (λ x. seen (Some x)) c.in-Some-get_mut.ensures.value ∙ c.in-Some.ensures.top ∙ c.take.ensures.side in
    let no = when_false _ _ c.straighten.result c.if-straighten.false c.straighten.ensures in
    let same = put_back c.args.at.now c.args.on c.over-else-straighten.result c.take.new.self c.set-else-straighten.new.self c.take.ensures.rest c.set-else-straighten.ensures (c.over-else-straighten.ensures ∙ ap (λ x. seen (Some x)) no ∙ is) in
    ap (λ x. (seen (Some x)).0) same

pub returns-else-straighten-clause-level : goal.returns-else-straighten-clause-level
returns-else-straighten-clause-level g c =
    let is : seen (Some c.in-Some-get_mut.below.now) ≡ side_on c.args.on c.args.at.now = ap (λ x. seen (Some x)) c.in-Some-get_mut.ensures.value ∙ c.in-Some.ensures.top ∙ c.take.ensures.side in
    let no = when_false _ _ c.straighten.result c.if-straighten.false c.straighten.ensures in
    let same = put_back c.args.at.now c.args.on c.over-else-straighten.result c.take.new.self c.set-else-straighten.new.self c.take.ensures.rest c.set-else-straighten.ensures (c.over-else-straighten.ensures ∙ ap (λ x. seen (Some x)) no ∙ is) in
    still_level c.args.at.now c.set-else-straighten.new.self same c.args.on c.requires.higher

pub returns-else-straighten-clause-height : goal.returns-else-straighten-clause-height
returns-else-straighten-clause-height g c =
    let is : seen (Some c.in-Some-get_mut.below.now) ≡ side_on c.args.on c.args.at.now = ap (λ x. seen (Some x)) c.in-Some-get_mut.ensures.value ∙ c.in-Some.ensures.top ∙ c.take.ensures.side in
    let no = when_false _ _ c.straighten.result c.if-straighten.false c.straighten.ensures in
    let same = put_back c.args.at.now c.args.on c.over-else-straighten.result c.take.new.self c.set-else-straighten.new.self c.take.ensures.rest c.set-else-straighten.ensures (c.over-else-straighten.ensures ∙ ap (λ x. seen (Some x)) no ∙ is) in
    still_high c.args.at.now c.set-else-straighten.new.self same c.args.on c.requires.higher

pub returns-in_default-get_mut-clause-entries : goal.returns-in_default-get_mut-clause-entries
returns-in_default-get_mut-clause-entries g c =
    let is : seen (Some c.in-Some.top.value) ≡ side_on c.args.on c.args.at.now = c.in-Some.ensures.top ∙ c.take.ensures.side in
    let same = put_back c.args.at.now c.args.on c.over.result c.take.new.self c.set.new.self c.take.ensures.rest c.set.ensures (c.over.ensures ∙ is) in
    ap (λ x. (seen (Some x)).0) same

pub returns-in_default-get_mut-clause-level : goal.returns-in_default-get_mut-clause-level
returns-in_default-get_mut-clause-level g c =
    let is : seen (Some c.in-Some.top.value) ≡ side_on c.args.on c.args.at.now = c.in-Some.ensures.top ∙ c.take.ensures.side in
    let same = put_back c.args.at.now c.args.on c.over.result c.take.new.self c.set.new.self c.take.ensures.rest c.set.ensures (c.over.ensures ∙ is) in
    still_level c.args.at.now c.set.new.self same c.args.on c.requires.higher

pub returns-in_default-get_mut-clause-height : goal.returns-in_default-get_mut-clause-height
returns-in_default-get_mut-clause-height g c =
    let is : seen (Some c.in-Some.top.value) ≡ side_on c.args.on c.args.at.now = c.in-Some.ensures.top ∙ c.take.ensures.side in
    let same = put_back c.args.at.now c.args.on c.over.result c.take.new.self c.set.new.self c.take.ensures.rest c.set.ensures (c.over.ensures ∙ is) in
    still_high c.args.at.now c.set.new.self same c.args.on c.requires.higher
