-- Memory runs out after what was taken without asking.
use Rattle.std.proofs.Common.{◌≡◌, ⊎_elim, ℕ, List, [], ◌++◌, Option, Some, None, refl, subst, arith}
use Rattle.ivy_base.specs.Naming.{IsCollisionFree}
use Rattle.log_model.proofs.Lists.{each}
use Rattle.log_model.specs.Record.{Record}
use Rattle.turn_model.specs.Basis.{Holding}
use Rattle.dht_ids.specs.declared.ask.Heard.{Heard}
use Rattle.dhash_model.specs.declared.miss.Miss.{Miss}
use Rattle.session_model.specs.Brought.{Part}
use Rattle.session_model.specs.Executions.{LacksMemory}
use Rattle.session_model.specs.Executions.LacksMemory.{lacks}
use Rattle.session_model.specs.Refreshing.{Note}
use Rattle.session_model.specs.Replies.{said_no_memory}
use Rattle.session_model.specs.Sessions.{Cache, Over, Session, Stage}
use Rattle.world_model.specs.Agents.{HssAgent}
use Rattle.world_model.specs.World.{World, Participant, named_bytes, participant, with_participant}
use Rattle.world_model.specs.GhostState.{Began, GhostState}
use Rattle.world_model.specs.Steps.{Configuration}
use Rattle.world_laws.specs.Causes.HasCause.{no_memory}
use Rattle.world_laws.specs.Invariant.{GoesOn, IsInHand, IsSoundSession, Invariant, KeepsUp}
use Rattle.world_laws.specs.Invariant.KeepsUp.{still, grown, dropped}
use Rattle.world_laws.specs.Frames.{Change, IsChangeWithinFrame, changed, unchanged}
use Rattle.world_laws.specs.Laws.{LackingStepsKeep}
use Rattle.world_laws.proofs.Bringing.{found_named}
use Rattle.world_laws.proofs.Frames.{participant_keeps, same_keys}
use Rattle.world_laws.proofs.InHand.{goes_on_then, sound_then}
use Rattle.world_laws.proofs.Taking.{AreTaken, HasTaken, IsMetCache, takes_some_so}

-- with other parts
abbrev pub with_others : Session → List Part → List Heard → Stage → List Note → Option Miss → Session
with_others s parts current stage notes missed_by = record s { parts = parts; current = current; stage = stage; notes = notes; missed = missed_by }

keeps_up_taken : (s : Session) (of : Holding) (a : HssAgent) (known : List Record) (parts : List Part) (current : List Heard) (stage : Stage) (notes : List Note) (missed_by : Option Miss) → KeepsUp s of a known
    → KeepsUp (with_others s parts current stage notes missed_by) of a known
keeps_up_taken s of a known parts current stage notes missed_by (still load held floor) = still load held floor
keeps_up_taken s of a known parts current stage notes missed_by (grown load all far) = grown load all far
keeps_up_taken s of a known parts current stage notes missed_by (dropped other first load basis) = dropped other first load basis

-- what was taken leaves the session sound
pub sound_taken : (w : World) (st : GhostState) (s : Session) (b : Began) (parts : List Part) (current : List Heard) (stage : Stage) (notes : List Note) (missed_by : Option Miss) → AreTaken w.met s.parts parts → IsSoundSession w st s b
    → IsSoundSession w st (with_others s parts current stage notes missed_by) b
sound_taken w st s b parts current stage notes missed_by taken h = record {
  by = h.by;
  is_by = h.is_by;
  of = h.of;
  knows = h.knows;
  held = h.held;
  edges = h.edges;
  to_load = h.to_load;
  known = h.known;
  floor = h.floor;
  keeps_up = keeps_up_taken s h.of h.by.agent _ parts current stage notes missed_by h.keeps_up;
  anew = h.anew;
  stays_fresh = h.stays_fresh;
  received = λ e c. h.received e (taken.heads e c);
  blocks = λ key bytes c. ⊎_elim (λ old. h.blocks key bytes old) (λ new. new) (taken.blocks key bytes c);
}

module _ (c : Configuration) (r : ℕ) (p : Participant) (cache : Cache) (keeps : Invariant (c.world, c.ghost_state)) (hand : IsInHand c r) (is_p : participant c.world c.session.by ≡ Some p) where
  abbrev d : Change
  d = record (unchanged p) { cache = cache }

  abbrev then_world : World
  then_world = with_participant c.world (record p { cache = cache })

  within_frame : IsMetCache c.world.met cache → IsChangeWithinFrame c.world.met p d
  within_frame cached = record { kept = refl; pending = λ post h. h; fewer = omega arith; cached = cached }

  apart_before : IsCollisionFree (named_bytes then_world) → IsCollisionFree (named_bytes c.world)
  apart_before apart = subst (λ keys. IsCollisionFree (c.world.met ++ keys)) (same_keys c.world keeps.apart c.session.by p is_p (changed p d) refl refl) apart

  on : GoesOn then_world r c.session
  on = goes_on_then c r p keeps hand is_p d

  -- the session that lacks memory, whatever it took
  ended_so : (parts : List Part) (current : List Heard) (t : Session) → AreTaken c.world.met c.session.parts parts → LacksMemory (record c.session { parts = parts; current = current }) t → IsInHand (record c { world = then_world; session = t }) r
  ended_so parts current _ taken (lacks notes shown given end xid asked at refreshed asks rest front) = record {
    number = hand.number;
    goes_on = record {
      by = on.by;
      is_by = on.is_by;
      in_view = on.in_view;
      own_key = on.own_key;
      some_entry = on.some_entry;
      entries = on.entries;
      heard = tt;
      pending = on.pending;
      stage = refl;
    };
    said = no_memory xid asked asks;
    sound = λ apart. sound_taken then_world c.ghost_state c.session c.began parts [] (Over (Some (said_no_memory xid))) shown None taken (sound_then c r p keeps hand is_p d (hand.sound (apart_before apart)));
  }

pub lacking_steps_keep : LackingStepsKeep
lacking_steps_keep c r p taken t cache keeps hand is_p takes lacking = (
  participant_keeps (c.world, c.ghost_state) c.session.by p (d c r p cache keeps hand is_p) keeps is_p (within_frame c r p cache keeps hand is_p has.cache),
  ended_so c r p cache keeps hand is_p has.parts has.current t has.taken (subst (λ (u : Session). LacksMemory u t) has.is lacking),
)
  where
    has : HasTaken c.world.met c.session taken cache
    has = takes_some_so c.world.met takes hand.goes_on.pending (each _ c.world.participants p keeps.met.cached (found_named c.world.participants c.session.by p is_p).0)
