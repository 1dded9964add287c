use Rattle.std.proofs.Common.{◌≡◌, true, map}
use Rattle.std.specs.BTreeSet.{contains}
use Rattle.ivy_base.specs.declared.key.Key.{Key}
use Rattle.ivy_base.specs.Naming.{key_cmp}
use Rattle.log_model.specs.View.{have_own_head_keys, is_log_of}
use Rattle.script_world.proofs.made_views.have_own_heads.Given as goal

abbrev pub invariant-loop-key : goal.invariant-loop-key
invariant-loop-key l = record {
  own : have_own_head_keys (map (λ k. k.now) l.yielded) ≡ true;
  held : (q : Key) → contains key_cmp l.heads q ≡ is_log_of (map (λ k. k.now) l.yielded) q;
}
