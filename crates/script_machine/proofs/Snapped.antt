-- The line that makes a snapshot, in a world that the code's may be.
use Rattle.std.proofs.Common.{◌≡◌, ℕ, List, refl, sym, subst, Option, Some, None}
use Rattle.std.specs.Prelude.{codes, find}
use Rattle.std.specs.Str.{bytes_eq}
use Rattle.ivy_base.specs.declared.key.Key.{Key}
use Rattle.dhash_model.specs.Signed.{hss_judged}
use Rattle.script_driver.specs.Run.{Goes}
use Rattle.script_world.specs.declared.snapping.SnapEnd.TheVariants as end
use Rattle.world_model.specs.Logs.{Played, SnapLine, failed_text, having_snapped, snap_text}
use Rattle.world_model.specs.Logs.SnapLine.{makes}
use Rattle.world_model.specs.Steps.{met_by}
use Rattle.world_model.specs.World.{Participant, participant, with_participant}
use Rattle.world_laws.specs.Invariant.{HasRing, Invariant}
use Rattle.world_laws.proofs.Bringing.{found_named}
use Rattle.world_laws.proofs.Frames.{found_placed}
use Rattle.world_laws.proofs.SnapLines.{snapshots_keep}
use Rattle.script_world.specs.PartsState.{PartsState}
use Rattle.script_world.specs.Running.{CanPublish, HasPublisher, PublishesIn}
use Rattle.script_world.specs.Snapping.{HasSnapshot, SnapsIn}
use Rattle.script_machine.specs.WorldState.{HasWorld, KeepsAll, RepresentsWorld, WorldState}
use Rattle.script_machine.proofs.Opened.{moved}

module _ (w : Played) (keeps : Invariant w) (log : List ℕ) (root : Key) (mid : PartsState) (has : HasSnapshot w log root mid) where
  abbrev there : Participant
  there = having_snapped has.one has.view

  -- the world before it publishes
  abbrev then_met : Played
  then_met = (record (with_participant w.0 there) { met = met_by w.0.met there.agent.pending }, w.1)

  named : has.one.name ≡ log
  named = (found_named w.0.participants log has.one has.is_there).1

  -- it may publish
  can_publish : CanPublish mid log then_met there
  can_publish = record {
    parts = has.goes_on.0;
    keeps = snapshots_keep log w has.one has.view keeps has.is_there has.in_view has.made has.spelled;
    named = found_placed w.0 keeps.apart log has.one has.is_there there refl;
  }

  -- there is a ring
  ringed : (r : ℕ) × (w.0.replicas ≡ Some r)
  ringed = by w.0.replicas keeps.ring
    where
      by : (o : Option ℕ) → HasRing w.0 o → (r : ℕ) × (o ≡ Some r)
      by None ring = absurd (cc (subst (λ (ps : List Participant). find (λ (q : Participant). bytes_eq q.name log) ps ≡ Some has.one) ring.1 has.is_there))
      by (Some r) ring = (r, refl)

  line_is : (next : Played) → SnapLine hss_judged w (Some has.one) (Goes next (snap_text has.one.name root)) → SnapLine hss_judged w (participant w.0 log) (Goes next (snap_text log root))
  line_is next line =
      subst (λ (n : List ℕ). SnapLine hss_judged w (participant w.0 log) (Goes next (snap_text n root))) named
      (subst (λ (o : Option Participant). SnapLine hss_judged w o (Goes next (snap_text has.one.name root))) (sym has.is_there) line)

pub has_publisher : (s : WorldState) (log : List ℕ) (root : Key) (mid : PartsState) → HasWorld s → SnapsIn log s.parts (end.Made root) mid → HasPublisher mid log
has_publisher s log root mid (w, shows, keeps) snaps = let has = snaps w shows.parts in (then_met w keeps.0 log root mid has, there w keeps.0 log root mid has, can_publish w keeps.0 log root mid has)

pub snap_goes : (s : WorldState) (log : List ℕ) (root : Key) (mid after : PartsState) → SnapsIn log s.parts (end.Made root) mid → PublishesIn log mid after → (w : Played) → RepresentsWorld s w → KeepsAll w
    → (next : Played) × SnapLine hss_judged w (participant w.0 log) (Goes next (snap_text log root)) × RepresentsWorld (record s { parts = after }) next
snap_goes s log root mid after snaps publishes w shows keeps =
    let has = snaps w shows.parts in
    let ring = ringed w keeps.0 log root mid has in
    let to = publishes (then_met w keeps.0 log root mid has) ring.0 (there w keeps.0 log root mid has) (can_publish w keeps.0 log root mid has) ring.1 in (
      to.0,
      line_is w keeps.0 log root mid has to.0
          (subst (λ (key : Key). SnapLine hss_judged w (Some has.one) (Goes to.0 (snap_text has.one.name key))) (sym has.root_is) (makes has.one (there w keeps.0 log root mid has) has.view ring.0 to.0 has.in_view has.made ring.1 refl has.spelled to.1)),
      record { parts = to.2.0; sessions = moved to.0.0.replicas w.0.replicas to.0.0.sessions w.0.sessions s.sessions to.3 to.2.1 shows.sessions },
    )

-- the keeper failed
pub snap_fails : (s : WorldState) (log : List ℕ) (after : PartsState) → SnapsIn log s.parts end.Failed after → (w : Played) → RepresentsWorld s w → KeepsAll w
    → (next : Played) × SnapLine hss_judged w (participant w.0 log) (Goes next (failed_text (codes "snap") log)) × RepresentsWorld (record s { parts = after }) next
snap_fails s log after snaps w shows keeps =
    let to = snaps w shows.parts hss_judged in
    (to.0, to.1, record { parts = to.2.0; sessions = moved to.0.0.replicas w.0.replicas to.0.0.sessions w.0.sessions s.sessions to.3 to.2.1 shows.sessions })
