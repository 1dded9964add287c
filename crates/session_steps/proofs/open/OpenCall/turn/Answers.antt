use Rattle.std.proofs.Common.{Result, Err, ap, ◌∙◌, subst}
use Rattle.log_fetch.specs.declared.turned.Turned.{Turned}
use Rattle.log_fetch.specs.declared.turned.TurnFault.{TurnFault}
use Rattle.log_fetch.specs.declared.turned.TurnFault.TheVariants as fault
use Rattle.session_steps.specs.Within.{TookTurn}
use Rattle.session_steps.proofs.open.OpenCall.turn.Goals as goal

pub returns-in-Err-Memory : goal.returns-in-Err-Memory
returns-in-Err-Memory g c = record {
  turned = Err fault.Memory;
  mid = c.take_turn.new.who;
  took = subst (λ (turned : Result Turned TurnFault). TookTurn c.args.self.now c.args.refresh c.args.now turned c.args.who.now c.take_turn.new.who)
      (c.in-Err-Memory.is ∙ ap (λ (why : TurnFault). Err why) c.in-Err-Memory.field-0-is) c.take_turn.ensures.took;
  is_told = c.lack.ensures c.take_turn.new.who c.args.met.now;
}
