use Rattle.std.proofs.Common.{Option, map, subst, ◌<◌, ◌^◌}
use Rattle.session_model.specs.Brought.{stamp_of}
use Rattle.log_fetch.specs.Trying.{Trying}
use Rattle.log_fetch.specs.Gathering.{BeginsLog, waits_left}
use Rattle.log_fetch.proofs.Taking.{heads_next, heads_waiting, heads_passed}
use Rattle.log_fetch.proofs.gather.after_heads.Goals as goal

pub begin_log-requires-clause-next : goal.begin_log-requires-clause-next
begin_log-requires-clause-next c = heads_next c.args.known.now c.args.passed.now c.args.owner.now c.requires

pub returns-in-Some-clause-taken : goal.returns-in-Some-clause-taken
returns-in-Some-clause-taken c =
    heads_waiting c.args.known.now c.args.passed.now c.args.owner.now c.requires c.args.heads.now c.begin_log.new.passed c.in-Some.trial (subst (λ (w : Option Trying). waits_left w < 2 ^ 96) c.in-Some.is c.in_ok-trial.ensures.left)
    (subst (BeginsLog c.args.known.now c.args.passed.now c.begin_log.new.passed c.args.owner.now (map stamp_of c.args.heads.now)) c.in-Some.is c.in_ok-trial.ensures.begun)

pub returns-in-None-clause-taken : goal.returns-in-None-clause-taken
returns-in-None-clause-taken c =
    heads_passed c.args.known.now c.args.passed.now c.args.owner.now c.requires c.args.heads.now c.begin_log.new.passed
    (subst (BeginsLog c.args.known.now c.args.passed.now c.begin_log.new.passed c.args.owner.now (map stamp_of c.args.heads.now)) c.in-None.is c.in_ok-trial.ensures.begun) c.advance.new.passed c.advance.result c.advance.ensures.advances
