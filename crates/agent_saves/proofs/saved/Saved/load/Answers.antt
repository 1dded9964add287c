use Rattle.std.proofs.Common.{refl}
use Rattle.std.proofs.lemmas.Result.{err_from_is_err_and}
use Rattle.agent_saves.specs.Parts.{told}
use Rattle.agent_saves.proofs.Agents.{are_saved, not_own, refused_parts, refused_signer}
use Rattle.agent_saves.proofs.saved.Saved.load.Goals as goal

pub returns-in_err-parts-clause-err : goal.returns-in_err-parts-clause-err
returns-in_err-parts-clause-err g c =
    let p = err_from_is_err_and c.from_residual.result c.from_residual.ensures.1 in
    rw (p.1, p.2) (refused_parts g.S.Signs.signing g.S.Signs.is_whole c.args.bytes.now _ c.in_err-parts.ensures.err)

pub returns-in-Err-clause-err : goal.returns-in-Err-clause-err
returns-in-Err-clause-err g c =
    rw c.fault_of_load.ensures (refused_signer g.S.Signs.signing g.S.Signs.is_whole c.args.bytes.now (told c.in_ok-parts.parts)
    c.in_ok-parts.ensures.fits c.in_ok-parts.ensures.bytes c.in-Err.fault c.in-Err.ensures.malformed.0)

pub returns-then-not-are_of-clause-err : goal.returns-then-not-are_of-clause-err
returns-then-not-are_of-clause-err g c =
    not_own g.S.Signs.signing g.S.Signs.is_whole c.args.bytes.now (told c.in_ok-parts.parts)
    c.in_ok-parts.ensures.fits c.in_ok-parts.ensures.bytes c.in-Ok.signer c.in-Ok.ensures.loaded.0 c.in-Ok.ensures.loaded.1 c.owner.result c.owner.ensures g.met.S.Signs.told_apart
    (λ h. let t = c.are_of.ensures.1 h in absurd (cc (t, c.if-not-are_of.true)))

pub returns-clause-ok : goal.returns-clause-ok
returns-clause-ok g c =
    are_saved g.S.Signs.signing g.S.Signs.is_whole c.args.bytes.now (told c.in_ok-parts.parts)
    c.in_ok-parts.ensures.fits c.in_ok-parts.ensures.bytes c.in-Ok.signer c.in-Ok.ensures.loaded.0 c.in-Ok.ensures.loaded.1 c.owner.result c.owner.ensures (c.if-not-are_of.ensures.0 refl)
