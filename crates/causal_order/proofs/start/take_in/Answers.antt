use Rattle.std.proofs.Common.{◌≡◌, List, refl, ap, ◌∙◌}
use Rattle.log_records.specs.declared.record.Record as kept
use Rattle.log_records.specs.Records.{records_of}
use Rattle.log_model.specs.Fetched.{owner_of}
use Rattle.causal_order.proofs.StartLogs.{owner_is, no_log}
use Rattle.causal_order.proofs.start.take_in.Goals as goal

pub returns-in_default-log_of_owner : goal.returns-in_default-log_of_owner
returns-in_default-log_of_owner c =
    let own = owner_is c.as_slice.result.now c.in-Some.first.now c.in-Some.ensures.item.3.0 c.in-Some.ensures.item.1 in
    let same : c.in-Some.first.now.owner ≡ owner_of (records_of c.args.chain.records) = own ∙ ap (λ (xs : List kept.Record). owner_of (records_of xs)) c.as_slice.ensures in
    absurd (no_log c.args.logs.now c.in-Some.first.now.owner (owner_of (records_of c.args.chain.records)) same c.requires.member c.in_default-log_of_owner.ensures.none)

pub returns : goal.returns
returns c =
    let own = owner_is c.as_slice.result.now c.in-Some.first.now c.in-Some.ensures.item.3.0 c.in-Some.ensures.item.1 in
    let same : c.in-Some.first.now.owner ≡ owner_of (records_of c.args.chain.records) = own ∙ ap (λ (xs : List kept.Record). owner_of (records_of xs)) c.as_slice.ensures in
    record {
      place = c.in-Some-log_of_owner.i;
      log = c.take_chain.new.log;
      within = c.in-Some-log_of_owner.ensures.some.0;
      owned = c.take_chain.ensures.owner ∙ c.in-Some-log_of_owner.ensures.some.1 c.index-logs-i.result ∙ same;
      was = c.in-Some-log_of_owner.ensures.some.1 c.take_chain.new.log ∙ same;
      queued = c.take_chain.ensures.queued;
      set = refl;
    }
