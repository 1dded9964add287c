use Rattle.std.proofs.Common.{refl}
use Rattle.ivy_cli.proofs.RunLemmas.{does_crowd, does_fork, does_lack, does_load, does_play, does_serve, does_usage, ends_well, none_asked}
use Rattle.ivy_cli.proofs.running.run.Goals as goal

pub returns-in-Ok-Some-Play-clause-does : goal.returns-in-Ok-Some-Play-clause-does
returns-in-Ok-Some-Play-clause-does g c = does_play _ _ _ _ _ _ c.in-Ok-Some-Play.ensures.is _ c.in-Ok-Some-Play.field-0-is c.in-Ok-Some-Play.field-0-0-is
    c.play_script.ensures refl refl refl

pub returns-in-Ok-Some-Load-clause-does : goal.returns-in-Ok-Some-Load-clause-does
returns-in-Ok-Some-Load-clause-does g c = does_load _ _ _ _ _ _ c.in-Ok-Some-Load.ensures.is _ c.in-Ok-Some-Load.field-0-is _ _ c.in-Ok-Some-Load.field-0-0-is
    c.load.ensures refl refl refl refl refl

pub returns-in-Ok-Some-Crowd-clause-does : goal.returns-in-Ok-Some-Crowd-clause-does
returns-in-Ok-Some-Crowd-clause-does g c = does_crowd _ _ _ _ _ _ c.in-Ok-Some-Crowd.ensures.is _ c.in-Ok-Some-Crowd.field-0-is _ _ c.in-Ok-Some-Crowd.field-0-0-is
    c.tell_crowd.ensures refl refl refl refl

pub returns-in-Ok-Some-Serve-clause-does : goal.returns-in-Ok-Some-Serve-clause-does
returns-in-Ok-Some-Serve-clause-does g c = does_serve _ _ _ _ _ _ c.in-Ok-Some-Serve.ensures.is _ c.in-Ok-Some-Serve.field-0-is _ _ c.in-Ok-Some-Serve.field-0-0-is
    c.serve_participant.ensures refl refl

pub returns-in-Ok-Some-Serve-clause-usage : goal.returns-in-Ok-Some-Serve-clause-usage
returns-in-Ok-Some-Serve-clause-usage g c = none_asked _ _ _ _ _ (returns-in-Ok-Some-Serve-clause-does g c)

pub returns-in-Ok-Some-Serve-clause-complete : goal.returns-in-Ok-Some-Serve-clause-complete
returns-in-Ok-Some-Serve-clause-complete g c = ends_well _ _ _ _ _ (returns-in-Ok-Some-Serve-clause-does g c)

pub returns-in-Ok-Some-Fork-clause-does : goal.returns-in-Ok-Some-Fork-clause-does
returns-in-Ok-Some-Fork-clause-does g c = does_fork _ _ _ _ _ _ c.in-Ok-Some-Fork.ensures.is _ c.in-Ok-Some-Fork.field-0-is c.in-Ok-Some-Fork.field-0-0-is
    c.fork.ensures refl refl refl

pub returns-in-Ok-Some-Fork-clause-usage : goal.returns-in-Ok-Some-Fork-clause-usage
returns-in-Ok-Some-Fork-clause-usage g c = none_asked _ _ _ _ _ (returns-in-Ok-Some-Fork-clause-does g c)

pub returns-in-Ok-Some-Fork-clause-complete : goal.returns-in-Ok-Some-Fork-clause-complete
returns-in-Ok-Some-Fork-clause-complete g c = ends_well _ _ _ _ _ (returns-in-Ok-Some-Fork-clause-does g c)

pub returns-in-Ok-None-clause-does : goal.returns-in-Ok-None-clause-does
returns-in-Ok-None-clause-does g c = does_usage _ _ _ _ _ _ c.in-Ok-None.ensures.is c.in-Ok-None.field-0-is
    (record { ends = c.tell_usage.ensures.ends; told = c.tell_usage.ensures.told; front = c.tell_usage.ensures.front; writes = c.tell_usage.ensures.later })
    refl refl refl refl refl

pub returns-in-Err-clause-does : goal.returns-in-Err-clause-does
returns-in-Err-clause-does g c = does_lack _ _ _ c.in-Err.ensures.lacks
