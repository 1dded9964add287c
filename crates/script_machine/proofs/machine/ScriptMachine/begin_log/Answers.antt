use Rattle.std.proofs.Common.{ℕ, List, true, sym, subst, arith}
use Rattle.hash_signature_model.specs.Saved.{IsSigner}
use Rattle.block_parts.proofs.Bytes.{block}
use Rattle.dhash_model.specs.Signed.{hss_judged}
use Rattle.script_driver.specs.Run.{Goes}
use Rattle.world_model.specs.Logs.{LogLine, Played, fresh_signer}
use Rattle.script_world.specs.NewParticipants.{BeginsIn}
use Rattle.script_world.specs.Running.{HasPublisher, PublishesIn}
use Rattle.script_machine.specs.contracts.machine.ScriptMachine.{the_view}
use Rattle.script_machine.specs.WorldState.{HasWorld, RepresentsWorld, WorldState}
use Rattle.script_machine.proofs.Joined.{has_publisher, log_goes}
use Rattle.script_machine.proofs.machine.ScriptMachine.begin_log.Goals as goal

pub publish-requires : goal.publish-requires
publish-requires c =
    let whole : IsSigner (fresh_signer c.args.id.now c.args.seed.now c.args.sets.now) = record {
      id = block 16 c.args.id.now c.told-id c.fits-id;
      seed = block 32 c.args.seed.now c.told-seed c.fits-seed;
      sets = c.requires.levels;
      made = omega arith;
    } in
    let begun : BeginsIn c.args.name.now c.args.id.now c.args.seed.now c.args.sets.now c.self.inside.parts true c.begin_log.new.self = rw (c.if-not-branch.false, c.in_ok-new_participant.ensures) at c.in_ok-begin_log.ensures in
    subst (λ (n : List ℕ). HasPublisher c.begin_log.new.self n) (sym c.as_slice.ensures)
    (has_publisher (the_view c.self.inside) c.args.name.now c.args.id.now c.args.seed.now c.args.sets.now whole c.begin_log.new.self (subst HasWorld (sym c.self.view_is) c.requires.world) begun)

pub returns : goal.returns
returns c = λ w shows keeps.
    let whole : IsSigner (fresh_signer c.args.id.now c.args.seed.now c.args.sets.now) = record {
      id = block 16 c.args.id.now c.told-id c.fits-id;
      seed = block 32 c.args.seed.now c.told-seed c.fits-seed;
      sets = c.requires.levels;
      made = omega arith;
    } in
    let begun : BeginsIn c.args.name.now c.args.id.now c.args.seed.now c.args.sets.now c.self.inside.parts true c.begin_log.new.self = rw (c.if-not-branch.false, c.in_ok-new_participant.ensures) at c.in_ok-begin_log.ensures in
    let from : RepresentsWorld (the_view c.self.inside) w = subst (λ (s : WorldState). RepresentsWorld s w) (sym c.self.view_is) shows in
    let published : PublishesIn c.args.name.now c.begin_log.new.self c.publish.new.self =
    subst (λ (n : List ℕ). PublishesIn n c.begin_log.new.self c.publish.new.self) c.as_slice.ensures c.in_ok-publish.ensures in
    subst (λ (text : List ℕ). (next : Played) × LogLine hss_judged w c.args.name.now c.args.id.now c.args.seed.now c.args.sets.now (Goes next text) × RepresentsWorld (record { parts = c.publish.new.self; sessions = c.self.inside.sessions.items }) next) (sym c.new.ensures.items)
    (log_goes (the_view c.self.inside) c.args.name.now c.args.id.now c.args.seed.now c.args.sets.now whole c.begin_log.new.self c.publish.new.self begun published w from keeps)
