use Rattle.std.proofs.Common.{◌≡◌, true, List, take, take_all, refl, sym, ◌∙◌, subst}
use Rattle.std.proofs.lemmas.List.Elements.{All-more}
use Rattle.log_model.specs.Vector.{Vector}
use Rattle.std.specs.List.{All, AllByRecursion}
use Rattle.version_vectors.specs.declared.entry.Entry.{Entry}
use Rattle.version_vectors.specs.Entries.{stamped}
use Rattle.log_records.specs.Records.{record_of}
use Rattle.causal_order.specs.Over.{IsMet}
use Rattle.causal_order.specs.Kept.{known_of}
use Rattle.causal_order.proofs.Meeting.{all_entries, each_entry}
use Rattle.causal_order.proofs.causes.has_causes.Goals as goal

pub returns-then-not-is_met : goal.returns-then-not-is_met
returns-then-not-is_met c =
    let view = c.args.base.now.view.now in
    let front = c.args.base.now.front.now in
    let known = known_of c.args.base.now c.args.taken.now in
    let r = record_of c.args.record.now in (
      λ holds. cc,
      λ met.
          let each = each_entry (IsMet view front known r) c.entries-entry-items.result.now (subst (λ (v : Vector). AllByRecursion (IsMet view front known r) v) (sym c.entries-entry-items.ensures.entries) met) in
          let yes : c.is_met.result ≡ true = c.is_met.ensures.1 (each c.entries.i _ c.entries-test.true) in
          absurd (let e = sym yes ∙ c.if-not-is_met.true in cc),
    )

pub entries-preserved : goal.entries-preserved
entries-preserved c = All-more (λ (e : Entry). IsMet c.args.base.now.view.now c.args.base.now.front.now (known_of c.args.base.now c.args.taken.now) (record_of c.args.record.now) (stamped e)) c.entries-entry-items.result.now c.entries.i _ c.entries-test.true c.entries.invariant (c.is_met.ensures.0 c.if-not-is_met.false)

pub returns : goal.returns
returns c =
    let view = c.args.base.now.view.now in
    let front = c.args.base.now.front.now in
    let known = known_of c.args.base.now c.args.taken.now in
    let r = record_of c.args.record.now in
    let whole : take c.entries.i c.entries-entry-items.result.now ≡ c.entries-entry-items.result.now = take_all c.entries.i c.entries-entry-items.result.now c.entries-test.false in (
      λ holds. subst (λ (v : Vector). AllByRecursion (IsMet view front known r) v) c.entries-entry-items.ensures.entries
          (all_entries (IsMet view front known r) c.entries-entry-items.result.now (subst (λ (es : List Entry). All (λ (e : Entry). IsMet view front known r (stamped e)) es) whole c.entries.invariant)),
      λ met. refl,
    )
