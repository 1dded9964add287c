use Rattle.std.proofs.Common.{sym, ◌∙◌}
use Rattle.session_model.specs.Replies.{alone_answer}
use Rattle.ivy_session.proofs.Readings.{is_alone, is_asked}
use Rattle.ivy_session.proofs.reading.read_asked.Goals as goal

pub returns-in-Some : goal.returns-in-Some
returns-in-Some c =
    is_alone c.args.xid c.args.asked (alone_answer c.args.view.now c.args.asked.args) c.in-Some.reply (sym c.in-Some.is ∙ c.in_ok-reply.ensures)

pub returns-in-None : goal.returns-in-None
returns-in-None c =
    is_asked c.args.xid c.args.asked (alone_answer c.args.view.now c.args.asked.args) (sym c.in-None.is ∙ c.in_ok-reply.ensures)
