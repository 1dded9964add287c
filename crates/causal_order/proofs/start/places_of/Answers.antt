use Rattle.std.proofs.Common.{◌≡◌, ◌+◌, ℕ, List, take, take_all, sym, ap, ◌∙◌, subst}
use Rattle.log_records.specs.declared.record.Record as kept
use Rattle.log_model.specs.Closed.{log_of}
use Rattle.log_records.specs.Records.{records_of}
use Rattle.causal_order.specs.Kept.{AreAt}
use Rattle.causal_order.proofs.Starts.{places_taken, places_passed}
use Rattle.causal_order.proofs.start.places_of.Goals as goal
use Rattle.causal_order.proofs.start.places_of.Goals.{then-is_owner+in_ok-push, else-is_owner}

pub held-preserved : goal.held-preserved
held-preserved c =
    let held = c.args.held.now in
    elim c.if-is_owner.branch [
      | then-is_owner+in_ok-push w ↦ subst (λ (ps : List ℕ). AreAt (records_of held) ps (log_of c.args.owner.now (records_of (take (c.held.i + 1) held)))) (sym w.in_ok-push.ensures.items ∙ sym (ap (λ v. v.items) w.places-is))
          (places_taken held c.held.places.items c.args.owner.now c.held.i c.index-held-i.result c.held-test.true c.held.invariant (ap (λ (x : kept.Record). x.owner) (sym c.index-held-i.is) ∙ c.is_owner.ensures.0 w.if-is_owner.true))
      | else-is_owner w ↦ subst (λ (ps : List ℕ). AreAt (records_of held) ps (log_of c.args.owner.now (records_of (take (c.held.i + 1) held)))) (sym (ap (λ v. v.items) w.places-is))
          (places_passed held c.held.places.items c.args.owner.now c.held.i c.index-held-i.result c.held-test.true c.held.invariant (λ e. let yes = c.is_owner.ensures.1 (ap (λ (x : kept.Record). x.owner) c.index-held-i.is ∙ e) in absurd (let no = sym w.if-is_owner.false ∙ yes in cc)))
    ]

pub returns : goal.returns
returns c =
    let held = c.args.held.now in
    let whole : take c.held.i held ≡ held = take_all c.held.i held c.held-test.false in
    subst (λ (hs : List kept.Record). AreAt (records_of held) c.held.places.items (log_of c.args.owner.now (records_of hs))) whole c.held.invariant
