use Rattle.std.proofs.Common.{◌≡◌, sym, ap, ◌∙◌}
use Rattle.log_records.specs.Records.{record_of}
use Rattle.turn_taking.specs.declared.names.Names.{Names}
use Rattle.turn_taking.proofs.NameLemmas.{has_name}
use Rattle.turn_taking.proofs.fronts.own_entry.Goals as goal

pub unreachable-requires-in_default-name_of : goal.unreachable-requires-in_default-name_of
unreachable-requires-in_default-name_of c =
    let some = c.in-Some.ensures.some in
    let owned = ap (λ (n : Names). n.owner) c.index-names-at.is ∙ some.1 c.index-names-at.result in
    let w = has_name c.args.names.now c.index-names-at.result (record_of c.args.record.now) c.name_of.result c.in-Some.at c.requires c.index-names-at.is some.0 owned c.name_of.ensures in
    absurd (let e = sym c.in_default-name_of.is ∙ w.0 in cc)

pub returns : goal.returns
returns c =
    let r = record_of c.args.record.now in
    let some = c.in-Some.ensures.some in
    let owned = ap (λ (n : Names). n.owner) c.index-names-at.is ∙ some.1 c.index-names-at.result in
    let w = has_name c.args.names.now c.index-names-at.result r c.name_of.result c.in-Some.at c.requires c.index-names-at.is some.0 owned c.name_of.ensures in
    let e = sym c.in-Some-name_of.is ∙ w.0 in
    let name : c.in-Some-name_of.name ≡ r.name = cc in
    λ i. (w.1 i, record { seq = r.seq; name = name i })
