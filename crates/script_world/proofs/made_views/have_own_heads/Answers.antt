use Rattle.std.proofs.Common.{◌++◌, length, map, sym, ap, ◌∙◌, rules}
use Rattle.std.specs.BTreeSet.{contains}
use Rattle.std.proofs.lemmas.List.{map_push}
use Rattle.std.proofs.lemmas.Iterator.{YieldsList-from_slice}
use Rattle.std.proofs.lemmas.Iterator.Consumers.{YieldsList-from_chain, YieldsList-so_far, YieldsList-turn}
use Rattle.ivy_base.specs.Naming.{key_cmp}
use Rattle.log_model.specs.View.{have_own_head_keys, is_log_of}
use Rattle.script_world.proofs.Apart.{held_more, stands_twice, still_own, was_new, was_there}
use Rattle.script_world.proofs.made_views.have_own_heads.Goals as goal

pub returns-then-not-branch : goal.returns-then-not-branch
returns-then-not-branch c =
    let road = YieldsList-from_chain {s = c.into_iter-key-iterator.result} (YieldsList-from_slice c.args.members.now (search rules)) (YieldsList-from_slice c.args.former.now (search rules)) (search rules) (search rules) in
    let so_far = YieldsList-so_far road c.loop-key.yielded c.loop-key.key-iterator c.loop-key.yielded_by in
    let turn = YieldsList-turn road c.loop-key.yielded c.loop-key.key-iterator c.loop-key.yielded_by c.next.result c.next.new.self c.in-Some.key c.in-Some.is c.next.ensures.steps in
    let seen = map (λ k. k.now) c.loop-key.yielded in
    sym (stands_twice (c.args.members.now ++ c.args.former.now) seen (length c.loop-key.yielded) c.in-Some.key.now so_far turn.0 turn.1
    (was_there seen c.in-Some.key.now c.head_key.result c.in_ok-insert.field-0 (contains key_cmp c.loop-key.heads c.head_key.result) c.in_ok-insert.ensures.added (c.loop-key.invariant.held c.head_key.result) c.head_key.ensures (search rules)))

pub loop-key-preserved : goal.loop-key-preserved
loop-key-preserved c =
    let seen = map (λ k. k.now) c.loop-key.yielded in
    let more = map_push (λ k. k.now) c.loop-key.yielded c.in-Some.key in
    record {
      own = ap have_own_head_keys more ∙ still_own seen c.in-Some.key.now c.loop-key.invariant.own
          (was_new seen c.in-Some.key.now c.head_key.result c.in_ok-insert.field-0 (contains key_cmp c.loop-key.heads c.head_key.result) c.in_ok-insert.ensures.added (c.loop-key.invariant.held c.head_key.result) c.head_key.ensures (search rules));
      held = λ q. held_more seen c.in-Some.key.now c.head_key.result q (contains key_cmp c.insert.new.self q) (contains key_cmp c.loop-key.heads q) c.head_key.ensures (c.in_ok-insert.ensures.updates.0 q) (c.loop-key.invariant.held q)
          ∙ ap (λ ks. is_log_of ks q) (sym more);
    }
