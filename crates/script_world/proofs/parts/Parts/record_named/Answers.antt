use Rattle.std.proofs.Common.{sym, ap, ◌∙◌}
use Rattle.world_model.specs.World.{participant}
use Rattle.script_world.specs.PartsState.{PartsState}
use Rattle.script_world.proofs.NamedIn.{record_in}
use Rattle.script_world.proofs.parts.Parts.record_named.Goals as goal

pub returns : goal.returns
returns c = λ w has.
    record_in c.args.seq (participant w c.args.log.now) c.in_ok-one.one.now c.record_made.result (c.in_ok-one.ensures.named w (has.participants ∙ ap (λ (s : PartsState). s.participants) (sym c.self.view_is))) c.record_made.ensures
