use Rattle.std.proofs.Common.{sym, subst}
use Rattle.ivy_session.specs.Reading.{IsReading}
use Rattle.log_fetch.specs.Standings.{standing_of}
use Rattle.ivy_session.specs.declared.served.Served.{Served}
use Rattle.ivy_session.specs.declared.session.Stage.TheVariants as stage
use Rattle.ivy_session.specs.States.{BeginsAs, begun}
use Rattle.ivy_session.proofs.Begins.{alone_begins, asks_well, call_begins}
use Rattle.ivy_session.proofs.refreshing.first_stage.Goals as goal

pub returns-in-Ok-Alone-clause-begun : goal.returns-in-Ok-Alone-clause-begun
returns-in-Ok-Alone-clause-begun g c =
    let s = c.args.standing in
    let said = subst (IsReading s.view c.args.message.now) c.in-Ok-Alone.field-0-is c.in-Ok-Alone.ensures in
    subst (λ (told : Served). BeginsAs g.J.Judge.judges c.args.message.now (standing_of s) (begun c.args.judge c.args.replicas c.args.entries.now (stage.Over told))) (sym c.told.ensures)
    (alone_begins g.J.Judge.judges c.args.judge c.args.replicas c.args.entries.now c.args.message.now (standing_of s) c.in-Ok-Alone.reply said)

pub returns-in_ok-refresh-in-Ok-Asks-clause-begun : goal.returns-in_ok-refresh-in-Ok-Asks-clause-begun
returns-in_ok-refresh-in-Ok-Asks-clause-begun g c =
    let s = c.args.standing in
    let read = subst (IsReading s.view c.args.message.now) c.in-Ok-Asks.field-0-is c.in-Ok-Asks.ensures in
    let call = c.in_ok-call-in-Ok-Asks.call in
    let begun_by = c.in_ok-refresh-in-Ok-Asks.ensures in
    call_begins g.J.Judge.judges c.args.judge c.args.replicas c.args.entries.now c.args.message.now s call c.in_ok-refresh-in-Ok-Asks.field-0
    (asks_well s.view c.args.message.now c.in-Ok-Asks.xid call.xid c.in-Ok-Asks.asked call.asked c.in_ok-call-in-Ok-Asks.ensures.xid c.in_ok-call-in-Ok-Asks.ensures.asked read)
    begun_by.by begun_by.started begun_by.unfailed
