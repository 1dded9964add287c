use Rattle.std.proofs.Common.{refl, sym, ◌∙◌}
use Rattle.log_model.specs.Vector.{stamp_at}
use Rattle.log_model.specs.Closed.{log_of}
use Rattle.log_records.specs.Records.{record_of}
use Rattle.log_records.specs.Records.{records_of}
use Rattle.causal_order.proofs.Places.{key_is, key_itself}
use Rattle.causal_order.proofs.Starts.{names_some, joins_none}
use Rattle.causal_order.proofs.start.joins.Goals as goal

pub returns-then-eq : goal.returns-then-eq
returns-then-eq c =
    let log = log_of c.args.log.now.owner (records_of c.args.base.now.held.now) in
    let named = names_some (stamp_at c.args.base.now.front.now c.args.log.now.key) log c.in-Some.tip (record_of c.args.next.now) (sym c.in-Some.is ∙ c.requires.kept.tip) in
    let same = key_is c.args.next.now.prev c.in-Some.tip (sym c.eq.ensures ∙ c.if-eq.true) in
    (λ h. (named.0 same, c.knows_newest.ensures.0 h), λ j. c.knows_newest.ensures.1 j.1)

pub returns-else-eq : goal.returns-else-eq
returns-else-eq c =
    let log = log_of c.args.log.now.owner (records_of c.args.base.now.held.now) in
    let named = names_some (stamp_at c.args.base.now.front.now c.args.log.now.key) log c.in-Some.tip (record_of c.args.next.now) (sym c.in-Some.is ∙ c.requires.kept.tip) in
    (λ h. absurd (let e = sym c.if-eq.false ∙ h in cc), λ j. c.eq.ensures ∙ key_itself c.args.next.now.prev c.in-Some.tip (named.1 j.0))

pub returns-in-None : goal.returns-in-None
returns-in-None c =
    let log = log_of c.args.log.now.owner (records_of c.args.base.now.held.now) in
    (λ h. joins_none (stamp_at c.args.base.now.front.now c.args.log.now.key) log (record_of c.args.next.now) (sym c.in-None.is ∙ c.requires.kept.tip), λ j. refl)
