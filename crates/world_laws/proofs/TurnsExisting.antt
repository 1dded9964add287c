-- Where a refresh is done there is a turn of it.
use Rattle.std.proofs.Common.{◌≡◌, ℕ, List, ◌++◌, Option, Some, refl, sym, subst, Contains}
use Rattle.std.specs.Prelude.{IfSome, IsTrue}
use Rattle.std.specs.List.{AllByRecursion}
use Rattle.ivy_base.specs.Naming.{IsCollisionFree}
use Rattle.wire_model.specs.Rpc.{auth, call}
use Rattle.wire_model.specs.Xdr.{word}
use Rattle.dhash_model.specs.Signed.{hss_judged}
use Rattle.log_model.proofs.Lists.{each}
use Rattle.log_model.specs.View.{View, IsView, is_named}
use Rattle.log_model.specs.ViewKeys.{HasKeys}
use Rattle.nfs_model.specs.Arguments.{arguments}
use Rattle.turn_model.specs.Turn.{Asked}
use Rattle.agent_model.specs.Standing.{Refresh}
use Rattle.agent_model.specs.Turning.{TurnEnd}
use Rattle.turn_laws.specs.Laws.{HasRoom}
use Rattle.turn_laws.proofs.Existing.{MayAnswer, there_is_a_turn}
use Rattle.turn_laws.proofs.Octets.{AreOctets, right_octets}
use Rattle.session_model.specs.Executions.{grounds_of, HasRefreshed}
use Rattle.session_model.specs.Refreshing.{Note}
use Rattle.session_model.specs.Replies.{Asks}
use Rattle.session_model.specs.Sessions.{Cache, Session, TakesAll}
use Rattle.world_model.specs.Agents.{hss_signing, own_hss_key, HssAgent, HssKept}
use Rattle.world_model.specs.Keepers.{fails_next}
use Rattle.world_model.specs.Steps.{Configuration, with_cache}
use Rattle.world_model.specs.GhostState.{known_of}
use Rattle.world_model.specs.World.{Participant, named_bytes, participant}
use Rattle.world_laws.specs.FullTurns.{AreBytes, TurnsExist}
use Rattle.world_laws.specs.Invariant.{IsInHand, IsKeptSo, IsSavedWell, Invariant}
use Rattle.world_laws.specs.Laws.{TurnAt}
use Rattle.world_laws.proofs.Bringing.{found_named, its_view, refresh_may_turn}
use Rattle.world_laws.proofs.EachStep.{all_some}
use Rattle.world_laws.proofs.Frames.{found_placed, same_keys}
use Rattle.world_laws.proofs.OneAsked.{caller_is_identity}
use Rattle.world_laws.proofs.SignatureBytes.{sealed_opaque}
use Rattle.world_laws.proofs.Taking.{HasTaken, takes_some_so}
use Rattle.world_laws.proofs.TakingOn.{taking_keeps}

-- the arguments of a call that is bytes are bytes
args_octets : (view : View) (message : List ℕ) (xid : ℕ) (asked : Asked) → AreBytes message → Asks view message xid asked → AreOctets (arguments asked.args)
args_octets view message xid asked bytes asks =
    let c = asks.call in
    let whole : AreOctets (call c) = subst AreOctets asks.is_call.1 (record { each = bytes }) in
    subst AreOctets asks.arguments.spelled
    (right_octets (word c.xid ++ word 0 ++ word 2 ++ word c.program ++ word c.version ++ word c.procedure ++ auth c.credential ++ auth c.verifier) c.arguments whole)

module _ (c : Configuration) (r : ℕ) (p : Participant) (taken : Session) (cache : Cache) (notes : List Note) (given : Refresh) (xid : ℕ) (asked : Asked) (keeps : Invariant (c.world, c.ghost_state)) (hand : IsInHand c r)
    (apart : IsCollisionFree (named_bytes c.world)) (is_p : participant c.world c.session.by ≡ Some p) (all : TakesAll hss_judged r c.session p.cache taken cache) (done : HasRefreshed taken notes given)
    (asks : Asks taken.standing.view taken.message xid asked) (bytes : AreBytes c.session.message) (room : HasRoom p.agent) where
  abbrev then_p : Participant
  then_p = record p { cache = cache }

  abbrev then_c : Configuration
  then_c = with_cache hss_judged r c p taken cache

  named : Contains c.world.participants p × (p.name ≡ c.session.by)
  named = found_named c.world.participants c.session.by p is_p

  then_so : Invariant (then_c.world, then_c.ghost_state) × IsInHand then_c r
  then_so = taking_keeps c r p taken cache keeps hand is_p (all_some all)

  has : HasTaken c.world.met c.session taken cache
  has = takes_some_so c.world.met (all_some all) hand.goes_on.pending (each _ c.world.participants p keeps.met.cached named.0)

  found : participant then_c.world taken.by ≡ Some then_p
  found = subst (λ (u : Session). participant then_c.world u.by ≡ Some then_p) (sym has.is) (found_placed c.world keeps.apart c.session.by p is_p then_p refl)

  then_apart : IsCollisionFree (named_bytes then_c.world)
  then_apart = subst (λ (keys : List (List ℕ)). IsCollisionFree (c.world.met ++ keys)) (sym (same_keys c.world keeps.apart c.session.by p is_p then_p refl refl)) apart

  in_view : p.agent.view ≡ Some taken.standing.view
  in_view = its_view then_c r then_so.1 then_p found

  saved : IsKeptSo IsSavedWell p
  saved = each (IsKeptSo IsSavedWell) c.world.participants p keeps.saved named.0

  abbrev OfView : View → Type 0
  OfView v = IsView v × HasKeys v × Contains v.members (own_hss_key p.agent) × AllByRecursion (λ e. IsTrue (is_named v e.0)) p.agent.floor

  of_view : OfView taken.standing.view
  of_view = subst (λ (o : Option View). IfSome o OfView) in_view saved.3.agent.view

  may_answer : MayAnswer hss_signing taken.standing.view p.agent asked c.world.now
  may_answer = record {
    well = of_view.0;
    member = of_view.2;
    begun = saved.3.agent.some;
    posts = saved.3.agent.posts;
    room = room;
    heads = λ newest is_key. sealed_opaque p.agent.signer saved.3.agent.signer newest is_key;
    caller = caller_is_identity asks.caller;
    fits = asks.arguments.fit;
    octets = args_octets taken.standing.view taken.message xid asked (subst (λ (u : Session). AreBytes u.message) (sym has.is) bytes) asks;
    moment = keeps.moment;
  }

  pub its_turn : (end : TurnEnd) × (after : HssAgent) × (saving : Option HssKept) × TurnAt c p taken given asked end after saving
  its_turn =
      let may = refresh_may_turn then_c then_p r notes given then_so.0 then_apart then_so.1 found done in
      there_is_a_turn hss_signing p.agent taken.standing.view given (fails_next p.keeper) asked c.world.now may_answer (grounds_of (named_bytes then_c.world) taken c.began.knew) (known_of c.ghost_state p.name) then_apart may.0 may.1

pub turns_exist : TurnsExist
turns_exist = its_turn
