use Rattle.std.proofs.Common.{◌≡◌, true, false}
use Rattle.std.proofs.lemmas.Result.{err_from_is_err_and}
use Rattle.log_records.proofs.OneRecord.{no_record, unspelled, spelled_record, record_with}
use Rattle.log_records.proofs.record.Record.read.Goals as goal

pub returns-in_err-frame-clause-err : goal.returns-in_err-frame-clause-err
returns-in_err-frame-clause-err c =
    let p = err_from_is_err_and c.from_residual.result c.from_residual.ensures.1 in
    rw (p.1, p.2) (no_record c.args.owner.now c.args.bytes.now c.head_key-log.result c.head_key-log.ensures c.if-bytes-gt-LONGEST_RECORD.false _ c.in_err-frame.ensures.err)

pub returns-then-not-is_spelled-clause-err : goal.returns-then-not-is_spelled-clause-err
returns-then-not-is_spelled-clause-err c = (
  c.if-bytes-gt-LONGEST_RECORD.false,
  unspelled c.args.owner.now c.args.bytes.now c.head_key-log.result (c.in_ok-frame.frame, c.in_ok-frame.op) c.head_key-log.ensures c.in_ok-frame.ensures.ok
      (λ f. let no : false ≡ true = c.if-not-is_spelled.ensures.1 f in absurd (cc no)),
)

pub returns-then-not-has_made_number-clause-err : goal.returns-then-not-has_made_number-clause-err
returns-then-not-has_made_number-clause-err c = (
  c.if-bytes-gt-LONGEST_RECORD.false,
  record_with c.args.owner.now (c.in_ok-frame.frame, c.in_ok-frame.op),
  spelled_record c.args.owner.now c.args.bytes.now c.head_key-log.result (c.in_ok-frame.frame, c.in_ok-frame.op) c.head_key-log.ensures c.in_ok-frame.ensures.ok
      (c.is_spelled.ensures.0 c.if-not-is_spelled.false),
  λ n. let no : false ≡ true = c.if-not-has_made_number.ensures.1 n in absurd (cc no),
)

pub returns-clause-ok : goal.returns-clause-ok
returns-clause-ok c = record {
  spelled = spelled_record c.args.owner.now c.args.bytes.now c.head_key-log.result (c.in_ok-frame.frame, c.in_ok-frame.op) c.head_key-log.ensures c.in_ok-frame.ensures.ok
      (c.is_spelled.ensures.0 c.if-not-is_spelled.false);
  number = c.has_made_number.ensures.0 c.if-not-has_made_number.false;
}
