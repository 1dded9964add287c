use Rattle.std.proofs.Common.{sym, subst}
use Rattle.world_model.specs.World.{participant}
use Rattle.script_world.specs.PartsState.{HasParts}
use Rattle.script_world.proofs.Telling.{shows_found}
use Rattle.script_world.proofs.parts.Parts.proof.Goals as goal

pub returns : goal.returns
returns c = λ before tells w has.
    let parts : HasParts w _ = subst (HasParts w) (sym c.self.view_is) has in
    let blocks = c.in_ok-blocks.ensures w.met parts.met in
    let heads = rw c.as_slice.ensures.value at c.in_ok-heads.ensures in
    let found = rw (c.as_slice-2.ensures.value, c.as_slice-3.ensures.value) at c.in_ok-found.ensures before tells in
    shows_found before w c.args.self.now has (participant w c.args.log.now) c.in-Some.one.now (c.in-Some.ensures.named w parts.participants) c.owner.result c.owner.ensures
    _ blocks c.in_ok-heads.heads.items heads c.in_ok-found.found found
    c.in_ok-found_text.field-0.items c.in_ok-found_text.ensures
