use Rattle.std.proofs.Common.{inl}
use Rattle.ivy_agent.proofs.Snapped.{snaps_lost, snaps_made, sound_snapped}
use Rattle.ivy_agent.proofs.agent.Agent.snap.Goals as goal

pub invariant_of-self : goal.invariant_of-self
invariant_of-self g c = sound_snapped
    g.S.Signs.signing c.self.inside.kept c.self.inside.engine c.self.inside.to_load c.self.inside.front c.in-Ok.snapshot c.in-Some.view c.in-Ok.ensures
    c.self.inside.has_failed c.save_snapshot.new.kept c.in-Ok-save_snapshot.ensures.ok c.self.invariant

pub returns-in-Ok-save_snapshot-clause-snaps : goal.returns-in-Ok-save_snapshot-clause-snaps
returns-in-Ok-save_snapshot-clause-snaps g c = snaps_made
    g.S.Signs.signing g.S.Signs.is_whole g.K.Keeper.saves c.args.self.now c.self.inside.kept c.self.inside.engine c.self.inside.to_load c.self.inside.has_failed
    c.self.inside.keeper c.self.view_is c.self.invariant.kept c.if-self.false c.in-Some.view c.in-Some.is c.in-Ok.snapshot c.in-Ok.ensures c.in-Ok-save_snapshot.ensures.whole c.save_snapshot.new.kept c.save_snapshot.new.keeper
    c.in-Ok-save_snapshot.ensures.ok c.in-Ok-save_snapshot.ensures.saved

pub returns-in-Err-Keeper-clause-snaps : goal.returns-in-Err-Keeper-clause-snaps
returns-in-Err-Keeper-clause-snaps g c = snaps_lost
    g.S.Signs.signing g.S.Signs.is_whole g.K.Keeper.saves c.args.self.now c.self.inside.kept c.self.inside.engine c.self.inside.to_load c.self.inside.has_failed
    c.self.inside.keeper c.self.view_is c.self.invariant.kept c.if-self.false c.in-Some.view c.in-Some.is c.in-Ok.snapshot c.in-Ok.ensures (rw c.in-Err-Keeper.field-0-is at c.in-Err-Keeper.ensures.whole) c.save_snapshot.new.kept
    c.save_snapshot.new.keeper c.in-Err-Keeper.ensures.err (rw c.in-Err-Keeper.field-0-is at c.in-Err-Keeper.ensures.saved)

pub returns-in-Err-Keeper-clause-cause : goal.returns-in-Err-Keeper-clause-cause
returns-in-Err-Keeper-clause-cause g c = rw (← c.self.view_is) (inl (rw c.in-Err-Keeper.field-0-is at c.in-Err-Keeper.ensures.cause))
