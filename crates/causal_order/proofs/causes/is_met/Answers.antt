use Rattle.std.proofs.Common.{◌≡◌, refl, subst, Contains}
use Rattle.log_model.specs.Rank.{own_entry}
use Rattle.log_model.specs.Record.{Record}
use Rattle.log_model.specs.Closed.{log_of}
use Rattle.version_vectors.specs.Entries.{stamped}
use Rattle.log_records.specs.Records.{record_of}
use Rattle.causal_order.specs.Kept.{known_of}
use Rattle.causal_order.proofs.Places.{one_at}
use Rattle.causal_order.proofs.Meeting.{no_member, met_under, met_by, not_met, cause_key, cause_spelled}
use Rattle.causal_order.proofs.causes.is_met.Goals as goal

pub returns-in_default : goal.returns-in_default
returns-in_default c = (
  λ holds member. absurd (no_member c.args.base.now.view.now c.args.base.now.front.now (known_of c.args.base.now c.args.taken.now) c.args.logs.now c.requires.view c.requires.kept (stamped c.args.entry.now) c.in_default.ensures.none member),
  λ met. refl,
)

pub returns-then-entry-log : goal.returns-then-entry-log
returns-then-entry-log c =
    met_under c.args.base.now.view.now c.args.base.now.front.now (known_of c.args.base.now c.args.taken.now) c.args.logs.now c.requires.view c.requires.kept c.in-Some.log.now c.in-Some.ensures.some.0 (stamped c.args.entry.now) c.in-Some.ensures.some.1
    c.is_under.result (record_of c.args.record.now) c.if-entry-log.true c.is_under.ensures

pub outweighs-requires-clause-cause_key : goal.outweighs-requires-clause-cause_key
outweighs-requires-clause-cause_key c =
    let known = known_of c.args.base.now c.args.taken.now in
    let w = c.in-Some-place_of.ensures.some in
    cause_key c.args.base.now.view.now c.args.base.now.front.now known c.args.logs.now c.requires.view c.requires.kept c.in-Some.log.now c.in-Some.ensures.some.0 (stamped c.args.entry.now) c.in-Some.ensures.some.1
    w.0 (record_of c.record_at.result.now) (one_at known c.in-Some-place_of.place (record_of c.record_at.result.now) w.0 c.record_at.ensures w.1) w.2

pub outweighs-requires-clause-cause_spelled : goal.outweighs-requires-clause-cause_spelled
outweighs-requires-clause-cause_spelled c =
    let known = known_of c.args.base.now c.args.taken.now in
    let w = c.in-Some-place_of.ensures.some in
    cause_spelled c.args.base.now.view.now c.args.base.now.front.now known c.args.logs.now c.requires.view c.requires.kept c.in-Some.log.now c.in-Some.ensures.some.0 (stamped c.args.entry.now) c.in-Some.ensures.some.1
    w.0 (record_of c.record_at.result.now) (one_at known c.in-Some-place_of.place (record_of c.record_at.result.now) w.0 c.record_at.ensures w.1) w.2

pub returns-in-Some-place_of : goal.returns-in-Some-place_of
returns-in-Some-place_of c =
    let known = known_of c.args.base.now c.args.taken.now in
    let w = c.in-Some-place_of.ensures.some in
    let same : w.0 ≡ record_of c.record_at.result.now = one_at known c.in-Some-place_of.place w.0 (record_of c.record_at.result.now) w.1 c.record_at.ensures in
    met_by c.args.base.now.view.now c.args.base.now.front.now known c.args.logs.now c.requires.view c.requires.kept c.in-Some.log.now c.in-Some.ensures.some.0 (stamped c.args.entry.now) c.in-Some.ensures.some.1
    c.outweighs.result (record_of c.args.record.now) (record_of c.record_at.result.now) c.if-entry-log.false
    (subst (λ (x : Record). Contains (log_of c.in-Some.log.now.owner known) x) same w.2)
    (subst (λ (x : Record). (own_entry x).1 ≡ (stamped c.args.entry.now).1) same w.3)
    c.outweighs.ensures

pub returns-in-None : goal.returns-in-None
returns-in-None c = (
  λ holds. cc,
  λ met. absurd (not_met c.args.base.now.view.now c.args.base.now.front.now (known_of c.args.base.now c.args.taken.now) c.args.logs.now c.requires.view c.requires.kept c.in-Some.log.now c.in-Some.ensures.some.0 (stamped c.args.entry.now) c.in-Some.ensures.some.1
      (record_of c.args.record.now) c.if-entry-log.false c.in-None.ensures.none met),
)
