use Rattle.std.proofs.Common.{List, ap, sym, ◌∙◌}
use Rattle.ivy_base.specs.declared.key.PubKey.{PubKey}
use Rattle.ivy_base.specs.Naming.{head_key_of}
use Rattle.log_records.specs.Records.{records_of}
use Rattle.log_records.specs.declared.record.Record.{Record}
use Rattle.version_vectors.specs.Entries.{stamped}
use Rattle.agent_model.specs.Standing.{beyond}
use Rattle.turn_taking.specs.Chains.{as_chain}
use Rattle.turn_taking.proofs.Slices.{owner_is}
use Rattle.turn_taking.proofs.There.{all_of_log, is_some, of_chain, of_other}
use Rattle.turn_taking.proofs.lacking.is_new.Goals as goal

pub returns-then-not-is_owner : goal.returns-then-not-is_owner
returns-then-not-is_owner c =
    let chain = c.args.chain.now in
    let mine = owner_is c.as_slice-records.result.now chain.records c.index-records-0.result chain.head.name c.as_slice-records.ensures c.requires.whole.row.named in
    of_other c.args.entry.now.log (stamped c.args.entry.now).1 c.args.held.now.view.now c.args.held.now.front.now (records_of chain.records) c.args.owner.now
    c.requires.view c.requires.whole.linked c.requires.whole.member c.requires.member c.requires.log
    (λ e. let yes = c.is_owner.ensures.1 (sym mine ∙ e) in absurd (let no = sym yes ∙ c.if-not-is_owner.true in cc))

pub has_record-requires-clause-log : goal.has_record-requires-clause-log
has_record-requires-clause-log c =
    let chain = c.args.chain.now in
    let mine = owner_is c.as_slice-records.result.now chain.records c.index-records-0.result chain.head.name c.as_slice-records.ensures c.requires.whole.row.named ∙ c.is_owner.ensures.0 c.if-not-is_owner.false in
    all_of_log c.args.entry.now.log (stamped c.args.entry.now).1 c.args.held.now.view.now (records_of chain.records) c.requires.whole.linked (c.requires.log ∙ ap (λ (o : PubKey). head_key_of o) (sym mine))

pub returns-then-not-is_empty : goal.returns-then-not-is_empty
returns-then-not-is_empty c =
    let chain = c.args.chain.now in
    let mine = owner_is c.as_slice-records.result.now chain.records c.index-records-0.result chain.head.name c.as_slice-records.ensures c.requires.whole.row.named ∙ c.is_owner.ensures.0 c.if-not-is_owner.false in
    let new = c.beyond.ensures ∙ ap (λ (xs : List Record). beyond c.args.held.now.front.now (as_chain (records_of xs))) c.as_slice-records.ensures in
    of_chain c.args.entry.now.log (stamped c.args.entry.now).1 c.args.held.now.front.now (records_of chain.records) c.has_record.result (c.requires.log ∙ ap (λ (o : PubKey). head_key_of o) (sym mine)) c.requires.ahead
    (is_some c.args.entry.now.log (stamped c.args.entry.now).1 c.beyond.result.now _ c.is_empty.result new c.is_empty.ensures c.if-not-is_empty.true)
    c.has_record.ensures
