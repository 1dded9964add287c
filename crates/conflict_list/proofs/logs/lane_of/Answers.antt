use Rattle.std.proofs.Common.{◌≡◌, ◌+◌, length, refl, ap, ◌∙◌, arith}
use Rattle.std.proofs.lemmas.List.{length_push}
use Rattle.conflict_list.specs.declared.logs.Log.{Log}
use Rattle.conflict_list.proofs.LogLemmas.{key_added, keys_added, keys_stay}
use Rattle.conflict_list.proofs.logs.lane_of.Goals as goal

pub returns : goal.returns
returns c =
    let log : Log = record { owner = c.args.owner.now; key = c.head_key.result } in
    let old = c.args.list.now.items in
    let new = c.push.new.self.items in
    record {
      is = key_added c.args.list.now.items c.push.new.self.items c.args.owner.now log c.len-lane.result refl c.head_key.ensures c.in_ok-push.ensures.items (c.len-lane.ensures ∙ c.args.list.now.ok.0);
      keys = keys_added c.args.list.now.items c.push.new.self.items c.args.owner.now log refl c.head_key.ensures c.in_ok-push.ensures.items c.requires.keys;
      few = (let e : length c.push.new.self.items ≡ length c.args.list.now.items + 1 = ap length c.in_ok-push.ensures.items ∙ length_push c.args.list.now.items log in omega (arith, e));
      kept = keys_stay c.args.list.now.items c.push.new.self.items log c.in_ok-push.ensures.items;
    }
