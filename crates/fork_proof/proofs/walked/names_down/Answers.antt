use Rattle.std.proofs.Common.{◌≡◌, ◌+◌, ◌-◌, List, [], ◌∷◌, ◌++◌, length, take, drop, Some, sym, ap, ◌∙◌, subst, arith, length-append}
use Rattle.std.specs.List.{slice_get}
use Rattle.ivy_base.specs.declared.key.Key.{Key}
use Rattle.fork_model.specs.Bytes.{most_blocks}
use Rattle.fork_proof.specs.Found.{tip_seen, step_seen, walk_seen, AreNames}
use Rattle.fork_proof.proofs.Names.{AreNamesTo, at_new, names_more, names_stop, names_joined}
use Rattle.fork_proof.proofs.walked.names_down.Goals as goal

pub returns-in-None : goal.returns-in-None
returns-in-None c =
    names_stop c.args.blocks.now (tip_seen c.args.tip.now) c.records.names.items c.records.last c.records.above c.saturating_sub-seq.result c.records.invariant.size c.records.invariant.at c.records.invariant.known
    c.saturating_sub-seq.ensures (rw c.in-None.is at c.in_ok-step.ensures)

pub records-preserved : goal.records-preserved
records-preserved c =
    let more : c.push-in-Some-2.new.self.items ≡ c.records.names.items ++ c.in-Some-2.step.prev ∷ [] = c.in_ok-push-in-Some-2.ensures.items in
    let long : length c.push-in-Some-2.new.self.items ≡ length (c.records.names.items ++ c.in-Some-2.step.prev ∷ []) = ap (λ (ks : List Key). length ks) more in
    record {
      size = omega (arith, long, length-append c.records.names.items (c.in-Some-2.step.prev ∷ []), c.records.invariant.size);
      at = ap (λ (ks : List Key). slice_get ks (c.records.above + 1)) more ∙ at_new c.records.names.items c.in-Some-2.step.prev (c.records.above + 1) c.records.invariant.size;
      known = subst (λ (ks : List Key). AreNamesTo c.args.blocks.now (tip_seen c.args.tip.now) ks (c.records.above + 1)) (sym more)
          (names_more c.args.blocks.now (tip_seen c.args.tip.now) c.records.names.items c.records.last c.records.above c.saturating_sub-seq.result c.records.invariant.size c.records.invariant.at c.records.invariant.known
          c.saturating_sub-seq.ensures (step_seen c.in-Some-2.step) (rw c.in-Some-2.is at c.in_ok-step.ensures));
    }

pub returns-in-Some : goal.returns-in-Some
returns-in-Some c =
    let joined : c.extend_from_slice.new.self.items ≡ c.records.names.items ++ take (most_blocks - c.records.above) (drop 1 c.in-Some.walk.now.names.items) =
    c.in_ok-extend_from_slice.ensures.items ∙ ap (λ (ks : List Key). c.records.names.items ++ ks) (c.below_first.ensures ∙ ap (λ (ks : List Key). take (most_blocks - c.records.above) (drop 1 ks)) c.as_slice.ensures.value) in
    subst (λ (ks : List Key). AreNames c.args.blocks.now (tip_seen c.args.tip.now) ks) (sym joined)
    (names_joined c.args.blocks.now (tip_seen c.args.tip.now) c.records.names.items c.records.last c.records.above c.saturating_sub-seq.result c.records.invariant.size c.records.invariant.at c.records.invariant.known
    c.saturating_sub-seq.ensures (walk_seen c.in-Some.walk.now) c.in-Some.walk.now.names.items (omega (arith, c.records-test.true)) c.in-Some.ensures.begins.owner_is c.in-Some.ensures.begins.seq_is c.in-Some.ensures.begins.name_is
    (c.in-Some.ensures.names c.args.blocks.now c.requires))
