use Rattle.std.proofs.Common.{◌≡◌, ◌∙◌, ◌++◌, ◌*◌, ap, refl, subst, take, IsPermutation, None, rules}
use Rattle.std.specs.List.{last_or}
use Rattle.dht_ids.specs.Peers.{place}
use Rattle.ring_model.specs.Members.{following}
use Rattle.dhash_model.specs.Settled.{AreFingers}
use Rattle.chord_core.proofs.Settling.{some_member, sorted_is, member_lives, following_is}
use Rattle.chord_core.proofs.node.Node.settled.Goals as goal

pub fingers-requires-clause-some : goal.fingers-requires-clause-some
fingers-requires-clause-some c = rw c.deref-2.ensures.value (some_member c.args.members.now c.in_ok-live.live.items c.args.me (search rules) c.requires.member)

pub returns : goal.returns
returns c = λ live ascends moved.
    let same : IsPermutation c.args.members.now c.in_ok-live.live.items = search rules in
    let e : c.in_ok-live.live.items ≡ live = sorted_is place c.args.members.now c.in_ok-live.live.items live same c.in_ok-live.ensures.rising ascends moved in
    let links : c.around.result.0.now ++ c.around.result.1.now ≡ following place live c.args.me = following_is place c.in_ok-live.live.items live c.args.me c.around.result.0.now c.around.result.1.now e ascends (member_lives place c.args.members.now live c.args.me moved c.requires.member) (search rules) (search rules) in
    let listed : c.of.result ≡ take (2 * c.args.replicas) (c.around.result.0.now ++ c.around.result.1.now) = search rules in
    let right : AreFingers c.in_ok-live.live.items c.args.me 160 c.in_ok-fingers.field-0.items = search rules in
    record {
      itself = refl;
      replicas = refl;
      list = listed ∙ ap (take (2 * c.args.replicas)) links;
      before = c.last.ensures ∙ ap (last_or None) links;
      fingers = subst (λ l. AreFingers l c.args.me 160 c.in_ok-fingers.field-0.items) e right;
    }
