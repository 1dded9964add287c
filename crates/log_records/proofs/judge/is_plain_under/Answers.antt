use Rattle.std.proofs.Common.{sym, ◌∙◌, length}
use Rattle.std.proofs.lemmas.Bool.{eqb-true}
use Rattle.ivy_base.specs.Naming.{head_key_of}
use Rattle.log_records.proofs.Tested.{is_empty}
use Rattle.log_records.proofs.PlainHeads.{keys_decide}
use Rattle.log_records.proofs.judge.is_plain_under.Goals as goal

pub returns-then-is_empty : goal.returns-then-is_empty
returns-then-is_empty c =
    let signature = c.args.head.now.signature.now in
    let d = keys_decide c.args.key.now c.head_key.result (head_key_of c.args.head.now.owner) c.eq.result c.eq.ensures c.head_key.ensures in
    (λ t. (is_empty signature (eqb-true (length signature) 0 (sym c.is_empty.ensures ∙ c.if-is_empty.true)), d.0 t), λ p. d.1 p.1)
