use Rattle.std.proofs.Common.{refl, sym, subst, lt-ltb}
use Rattle.script_world.specs.PartsState.{HasParts}
use Rattle.script_world.proofs.Setting.{sets}
use Rattle.script_world.proofs.parts.Parts.at.Goals as goal

pub returns : goal.returns
returns c = λ w has.
    sets w _ (subst (HasParts w) (sym c.self.view_is) has) c.args.sec c.args.nsec (record { sec = c.in-Ok.sec; nsec = c.args.nsec }) c.new.result.items (lt-ltb c.args.sec 4294967296 c.in-Ok.ensures.0)
    (lt-ltb c.args.nsec 1000000000 c.if-nsec-ge-SECOND.false) c.in-Ok.ensures.1 refl c.new.ensures.items
