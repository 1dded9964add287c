use Rattle.std.proofs.Common.{◌≡◌, arith}
use Rattle.nfs3_replies.specs.ReadParts.{tail_form_at}
use Rattle.nfs3_replies.proofs.ReadAnswers.{cache_read, cache_form_2, cache_form_7, cache_form_21}
use Rattle.nfs3_replies.proofs.reading.read_tail.Goals.{in_default-via-then-procedure-lt3, in_default-via-else-procedure-lt3+else-procedure-lt7+then-procedure-lt14, in_default-via-else-procedure-lt3+else-procedure-lt7+else-procedure-lt14+else-procedure-lt21}
use Rattle.nfs3_replies.proofs.reading.read_tail.Goals as goal

pub returns-in_default : goal.returns-in_default
returns-in_default c =
    let e : tail_form_at c.args.procedure ≡ 2 = elim c.in_default.branch [
      | in_default-via-then-procedure-lt3 w ↦ cache_form_2 c.args.procedure (omega arith)
      | in_default-via-else-procedure-lt3+else-procedure-lt7+then-procedure-lt14 w ↦ cache_form_7 c.args.procedure (omega arith) (omega arith)
      | in_default-via-else-procedure-lt3+else-procedure-lt7+else-procedure-lt14+else-procedure-lt21 w ↦ cache_form_21 c.args.procedure (omega arith)
    ] in
    cache_read c.args.procedure e c.read_wcc.ensures
