-- A refresh that is done brings what its heads name, and its turn may be held to the definition.
use Rattle.std.proofs.Common.{◌≡◌, ℕ, Bool, true, false, cond, List, [], ◌∷◌, map, Option, Some, None, refl, sym, ap, ◌∙◌, subst, Contains}
use Rattle.std.specs.Prelude.{IfSome, IsTrue}
use Rattle.std.specs.List.{AllByRecursion, find}
use Rattle.std.specs.Str.{bytes_eq}
use Rattle.std.proofs.lemmas.List.Elements.{Contains-append_left}
use Rattle.std.proofs.lemmas.Slice.Eq.{bytes_eq-Decides}
use Rattle.ivy_base.specs.declared.key.Key.{Key}
use Rattle.ivy_base.specs.Naming.{IsCollisionFree}
use Rattle.log_model.specs.View.{View, IsView, is_named as is_of_view}
use Rattle.log_model.specs.Record.{Record}
use Rattle.log_model.specs.Spelling.{record_block}
use Rattle.log_model.specs.Standing.{Stand, StandsAmong}
use Rattle.log_records.proofs.Standing.{block_is_met}
use Rattle.log_model.proofs.Lists.{here, there, each, each_from}
use Rattle.turn_model.specs.Basis.{Basis, nothing_held}
use Rattle.log_model.specs.ViewKeys.{HasKeys}
use Rattle.agent_model.specs.Standing.{Refresh}
use Rattle.agent_model.specs.Candidates.{Brings, MayTurn, StandsWithin}
use Rattle.session_model.specs.Brought.{brought_in}
use Rattle.session_model.specs.Refreshing.{Note, Done}
use Rattle.session_model.specs.Executions.{grounds_of, HasRefreshed}
use Rattle.session_laws.specs.Bringing.{AreMet, StartsFrom}
use Rattle.session_laws.specs.Loading.{IsSnapshotOf}
use Rattle.session_laws.proofs.Loading.{basis_is_known}
use Rattle.session_laws.proofs.Starting.{start_is_known}
use Rattle.session_laws.proofs.Refreshed.{refreshed_is_brought}
use Rattle.world_model.specs.Agents.{own_hss_key}
use Rattle.world_model.specs.World.{Participant, named_bytes, participant}
use Rattle.world_model.specs.GhostState.{knowing_of, known_of}
use Rattle.world_model.specs.Steps.{Configuration}
use Rattle.world_laws.specs.Invariant.{IsInHand, IsKeptSo, IsSavedWell, IsSound, IsSoundIn, IsSoundSession, Invariant}
use Rattle.world_laws.specs.Laws.{RefreshBrings, RefreshMayTurn}

pub some_same : (p q : Participant) → Some p ≡ Some q → p ≡ q
some_same p q e = cc e

-- the participant that is found by a name stands in the world, and has that name
pub found_named : (ps : List Participant) (name : List ℕ) (p : Participant) → find (λ q. bytes_eq q.name name) ps ≡ Some p → Contains ps p × (p.name ≡ name)
found_named [] name p is = cc is
found_named (q ∷ ps) name p is = by (bytes_eq q.name name) refl is (λ h. found_named ps name p h)
  where
    by : (b : Bool) → bytes_eq q.name name ≡ b → cond b (Some q) (find (λ o. bytes_eq o.name name) ps) ≡ Some p → (find (λ o. bytes_eq o.name name) ps ≡ Some p → Contains ps p × (p.name ≡ name))
        → Contains (q ∷ ps) p × (p.name ≡ name)
    by true same h later = (subst (Contains (q ∷ ps)) (some_same q p h) (here q ps), ap (λ (o : Participant). o.name) (sym (some_same q p h)) ∙ (bytes_eq-Decides q.name name).0 same)
    by false other h later = (there q ps p (later h).0, (later h).1)

-- what stands for a part of less stands for a part of more
within_more : (view : View) (less more : List Record) → ((r : Record) → Contains less r → Contains more r) → (o : Option Basis) → IfSome o (StandsWithin view less) → IfSome o (StandsWithin view more)
within_more view less more all None h = tt
within_more view less more all (Some b) h = (h.0, h.1, λ r c. all r (h.2 r c))

-- of what is to be loaded
module _ (P : Type 0) (Q : Key → Type 0) where
  only_held : (o : Option Key) → IfSome o (λ root. P × Q root) → IfSome o (λ root. P)
  only_held None h = tt
  only_held (Some root) h = h.0

  only_made : (o : Option Key) → IfSome o (λ root. P × Q root) → IfSome o Q
  only_made None h = tt
  only_made (Some root) h = h.1

-- the view that an agent may be saved with is one
saved_view : (p : Participant) (view : View) → p.agent.view ≡ Some view → IsKeptSo IsSavedWell p → IsView view
saved_view p view e saved = by p.agent.view e saved.3.agent.view
  where
    by : (o : Option View) → o ≡ Some view → IfSome o (λ v. IsView v × HasKeys v × Contains v.members (own_hss_key p.agent) × AllByRecursion (λ x. IsTrue (is_of_view v x.0)) p.agent.floor) → IsView view
    by None none h = cc none
    by (Some v) is h = subst IsView (cc is) h.0

module _ (c : Configuration) (keeps : Invariant (c.world, c.ghost_state)) (apart : IsCollisionFree (named_bytes c.world)) (sound : IsSoundSession c.world c.ghost_state c.session c.began)
    (p : Participant) (is_p : participant c.world c.session.by ≡ Some p) (in_view : p.agent.view ≡ Some c.session.standing.view) where
  is_named : Contains c.world.participants p × (p.name ≡ c.session.by)
  is_named = found_named c.world.participants c.session.by p is_p

  met_named : (b : List ℕ) → Contains c.world.met b → Contains (named_bytes c.world) b
  met_named b h = Contains-append_left c.world.met (map (λ q. (own_hss_key q.agent).0) c.world.participants) b h

  pub met_apart : IsCollisionFree c.world.met
  met_apart a b in_a in_b same = apart a b (met_named a in_a) (met_named b in_b) same

  pub in_a_view : IsView c.session.standing.view
  in_a_view = saved_view p c.session.standing.view in_view (each (IsKeptSo IsSavedWell) c.world.participants p keeps.saved is_named.0)

  pub agent_sound : IsSound c.world.met p (knowing_of c.ghost_state p.name) c.session.standing.view
  agent_sound = subst (IsSoundIn c.world.met p (knowing_of c.ghost_state p.name)) in_view
      (each (λ (q : Participant). IsSoundIn c.world.met q (knowing_of c.ghost_state q.name) q.agent.view) c.world.participants p (keeps.sound apart).agents is_named.0)

  pub knew_before : (q : Record) → Contains c.began.knew q → Contains (known_of c.ghost_state p.name) q
  knew_before q h = subst (λ (name : List ℕ). Contains (known_of c.ghost_state name) q) (sym is_named.1) (sound.known q h)

  pub known_stand : Stand (named_bytes c.world) (known_of c.ghost_state p.name)
  known_stand = each_from (StandsAmong (named_bytes c.world)) (known_of c.ghost_state p.name)
      (λ q h. met_named (record_block q) (block_is_met c.world.met q (each (StandsAmong c.world.met) (known_of c.ghost_state p.name) q agent_sound.stand h)))

  pub knew_stand : Stand (named_bytes c.world) c.began.knew
  knew_stand = each_from (StandsAmong (named_bytes c.world)) c.began.knew (λ q h. each (StandsAmong (named_bytes c.world)) (known_of c.ghost_state p.name) q known_stand (knew_before q h))

  pub are_met : AreMet c.world.met (brought_in c.session.parts)
  are_met key bytes h = ((sound.blocks key bytes h).1, (sound.blocks key bytes h).0)

  pub are_named : AreMet (named_bytes c.world) (brought_in c.session.parts)
  are_named key bytes h = (met_named bytes (are_met key bytes h).0, (are_met key bytes h).1)

  module _ (notes : List Note) (given : Refresh) (done : HasRefreshed c.session notes given) where
    pub basis_known : IfSome given.basis (StandsWithin c.session.standing.view c.began.knew)
    basis_known = basis_is_known c.world.met c.session.standing c.began.knew (brought_in c.session.parts) notes given Done met_apart are_met
        (only_made (sound.of ≡ nothing_held) (IsSnapshotOf c.world.met c.session.standing.view c.began.knew) c.session.standing.to_load sound.to_load) done.1

    pub starts : StartsFrom c.session.standing given.started c.began.knew
    starts = start_is_known c.session.standing sound.of c.began.knew (brought_in c.session.parts) notes given Done in_a_view sound.knows sound.held sound.edges
        (only_held (sound.of ≡ nothing_held) (IsSnapshotOf c.world.met c.session.standing.view c.began.knew) c.session.standing.to_load sound.to_load) basis_known done.1

    brings : Brings (grounds_of (named_bytes c.world) c.session c.began.knew) c.session.standing.view given
    brings = refreshed_is_brought (named_bytes c.world) c.session.standing c.began.knew (brought_in c.session.parts) notes given apart in_a_view sound.knows.by_floor knew_stand starts are_named done.1

    may_turn : c.session.standing.own ≡ own_hss_key p.agent
        → MayTurn (grounds_of (named_bytes c.world) c.session c.began.knew) c.session.standing.view (own_hss_key p.agent) (known_of c.ghost_state p.name) given
    may_turn same = record {
      same_own = same;
      by_floor = sound.knows.by_floor;
      stand = known_stand;
      knew_before = knew_before;
      brings = brings;
      loaded = within_more c.session.standing.view c.began.knew (known_of c.ghost_state p.name) knew_before given.basis basis_known;
    }

-- the session's participant is that one, in its view
module _ (c : Configuration) (r : ℕ) (hand : IsInHand c r) (p : Participant) (is_p : participant c.world c.session.by ≡ Some p) where
  same_participant : hand.goes_on.by ≡ p
  same_participant = some_same hand.goes_on.by p (sym hand.goes_on.is_by ∙ is_p)

  pub its_view : p.agent.view ≡ Some c.session.standing.view
  its_view = subst (λ (q : Participant). q.agent.view ≡ Some c.session.standing.view) same_participant hand.goes_on.in_view

  pub its_key : c.session.standing.own ≡ own_hss_key p.agent
  its_key = subst (λ (q : Participant). c.session.standing.own ≡ own_hss_key q.agent) same_participant hand.goes_on.own_key

pub refresh_brings : RefreshBrings
refresh_brings c r notes given keeps apart hand done = brings c keeps apart (hand.sound apart) hand.goes_on.by hand.goes_on.is_by hand.goes_on.in_view notes given done

pub refresh_may_turn : RefreshMayTurn
refresh_may_turn c p r notes given keeps apart hand is_p done = (
  (agent_sound c keeps apart (hand.sound apart) p is_p (its_view c r hand p is_p)).knows,
  may_turn c keeps apart (hand.sound apart) p is_p (its_view c r hand p is_p) notes given done (its_key c r hand p is_p),
)
