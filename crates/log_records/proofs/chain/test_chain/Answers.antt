use Rattle.std.proofs.Common.{◌≡◌, true, false, sym, ap, ◌∙◌}
use Rattle.ivy_base.specs.Naming.{head_key_of}
use Rattle.log_records.specs.declared.record.Record as kept
use Rattle.log_records.specs.Records.{record_of, records_of}
use Rattle.log_records.proofs.KeptChains.{kept_at}
use Rattle.log_records.proofs.ChainTests.{oldest_log}
use Rattle.log_records.proofs.chain.test_chain.Goals as goal

pub is_sound-requires-clause-log : goal.is_sound-requires-clause-log
is_sound-requires-clause-log c =
    let chain = c.args.chain.now in
    let x = c.index-chain-0.result in
    oldest_log (records_of chain) (record_of x) c.requires.owner (kept_at chain 0 x c.index-chain-0.is) (c.head_key-log.ensures ∙ ap (λ (r : kept.Record). head_key_of r.owner) (sym c.index-chain-0.is))

pub is_onward-requires-clause-log : goal.is_onward-requires-clause-log
is_onward-requires-clause-log c =
    let chain = c.args.chain.now in
    let x = c.index-chain-0.result in
    oldest_log (records_of chain) (record_of x) c.requires.owner (kept_at chain 0 x c.index-chain-0.is) (c.head_key-log.ensures ∙ ap (λ (r : kept.Record). head_key_of r.owner) (sym c.index-chain-0.is))

pub returns-then-not-is_sound-clause-fault : goal.returns-then-not-is_sound-clause-fault
returns-then-not-is_sound-clause-fault c = λ s. let no : false ≡ true = c.if-not-is_sound.ensures.1 s in absurd (cc no)

pub returns-then-not-is_onward-clause-fault : goal.returns-then-not-is_onward-clause-fault
returns-then-not-is_onward-clause-fault c = (c.is_sound.ensures.0 c.if-not-is_sound.false, λ o. let no : false ≡ true = c.if-not-is_onward.ensures.1 o in absurd (cc no))

pub returns-clause-sound : goal.returns-clause-sound
returns-clause-sound c = c.is_sound.ensures.0 c.if-not-is_sound.false

pub returns-clause-onward : goal.returns-clause-onward
returns-clause-onward c = c.is_onward.ensures.0 c.if-not-is_onward.false
