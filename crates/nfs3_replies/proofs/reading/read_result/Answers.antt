use Rattle.nfs3_replies.specs.ReadParts.{tail_form_at, result_form_at}
use Rattle.wire_model.proofs.Made.{if_ok_by}
use Rattle.nfs3_replies.proofs.ReadAnswers.{bounded, done_read, refusal_read}
use Rattle.nfs3_replies.proofs.reading.read_result.Goals as goal

pub returns-in-None : goal.returns-in-None
returns-in-None c =
    let b = bounded c.args.procedure c.requires.first c.requires.last in
    if_ok_by c.read_done.result (λ r f. done_read (tail_form_at c.args.procedure) (result_form_at c.args.procedure) b.0 b.1 c.read_status.ensures c.in-None.is f) c.read_done.ensures

pub returns-in-Some : goal.returns-in-Some
returns-in-Some c =
    let b = bounded c.args.procedure c.requires.first c.requires.last in
    refusal_read (tail_form_at c.args.procedure) (result_form_at c.args.procedure) b.0 b.1 c.read_status.ensures c.in-Some.is c.read_tail-tail.ensures
