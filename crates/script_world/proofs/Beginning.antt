-- A log that begins.
use Rattle.std.proofs.Common.{◌≡◌, ◌≢◌, ℕ, ◌<◌, true, false, List, [], ◌∷◌, ◌++◌, refl, sym, ap, ◌∙◌, subst, arith, Option, Some, None}
use Rattle.std.specs.Prelude.{is_some, option_map}
use Rattle.std.proofs.lemmas.List.{map_push}
use Rattle.ivy_base.specs.declared.key.Key.{Key}
use Rattle.hash_signature_model.specs.declared.set.Set.{Set}
use Rattle.hash_signature_model.specs.Signer.{Signer, left_of}
use Rattle.hss_keys.proofs.Signing.{capacity_some}
use Rattle.dht_ids.specs.declared.judge.Judged.{Judged}
use Rattle.dht_ids.specs.declared.post.Post.{Post}
use Rattle.script_driver.specs.Run.{Refuses}
use Rattle.world_model.specs.Agents.{hss_opened}
use Rattle.world_model.specs.Logs.{LogLine, Played, fresh_signer, new_participant}
use Rattle.world_model.specs.Logs.LogLine.{before_ring, known}
use Rattle.world_model.specs.Steps.{met_by}
use Rattle.world_model.specs.World.{Participant, World, participant}
use Rattle.session_steps.specs.MetState.{AreMet, MetState}
use Rattle.script_participants.specs.ParticipantState.{HasParticipants, ParticipantState, state_of}
use Rattle.script_world.specs.NewParticipants.{HasNewParticipant}
use Rattle.script_world.specs.PartsState.{HasParts, PartsState}
use Rattle.script_world.proofs.Keeping.{find_named}

-- a key that has signed nothing signs
pub signs_first : (signer : Signer) (id seed : List ℕ) (sets : List Set) → signer ≡ fresh_signer id seed sets → left_of signer ≢ 0
signs_first signer id seed sets is =
    let some = capacity_some sets in
    let first : 0 < left_of (fresh_signer id seed sets) = omega (arith, some) in
    let still : 0 < left_of signer = subst (λ (s : Signer). 0 < left_of s) (sym is) first in
    λ none. absurd (omega (arith, still, none))

ring_there : (o : Option ℕ) → is_some o ≡ true → (r : ℕ) × (o ≡ Some r)
ring_there None e = absurd cc
ring_there (Some r) e = (r, refl)

some_mapped : {A B : Type 0} (f : A → B) (o : Option A) → is_some (option_map f o) ≡ is_some o
some_mapped f None = refl
some_mapped f (Some x) = refl

-- nobody has the name
pub name_free : {B : Type 0} (f : B → ParticipantState) (o : Option B) (ps : List ParticipantState) (said name : List ℕ) → said ≡ name → option_map f o ≡ find_named said ps → false ≡ is_some o → find_named name ps ≡ None
name_free f None ps said name same found none = ap (λ (l : List ℕ). find_named l ps) (sym same) ∙ sym found
name_free f (Some b) ps said name same found none = absurd cc

module _ (w : Played) (s : PartsState) (has : HasParts w.0 s) (name id seed : List ℕ) (sets : List Set) where
  pub no_ring_yet : (judged : Key → List ℕ → Option Judged) → is_some s.replicas ≡ false → LogLine judged w name id seed sets Refuses
  no_ring_yet judged none = before_ring (ap is_some has.replicas ∙ none)

  -- the participant of that name, as a walk finds it
  module _ {B : Type 0} (f : B → ParticipantState) (o : Option B) (said : List ℕ) (same : said ≡ name) (named : (v : World) → HasParticipants v s.participants → option_map f o ≡ option_map state_of (participant v said)) where
    known_so : is_some (participant w.0 name) ≡ is_some o
    known_so = ap (λ (l : List ℕ). is_some (participant w.0 l)) (sym same) ∙ sym (some_mapped state_of (participant w.0 said)) ∙ ap is_some (sym (named w.0 has.participants)) ∙ some_mapped f o

    pub name_taken : (judged : Key → List ℕ → Option Judged) → true ≡ is_some o → LogLine judged w name id seed sets Refuses
    name_taken judged some = known (known_so ∙ sym some)

    pub comes : (signer : Signer) (one : ParticipantState) (ps : List ParticipantState) (posts : List Post) (met : MetState) → is_some s.replicas ≡ true → false ≡ is_some o → signer ≡ fresh_signer id seed sets
        → one ≡ state_of (new_participant name (hss_opened signer s.moment)) → ps ≡ s.participants ++ one ∷ [] → posts ≡ one.agent.pending → ((blocks : List (List ℕ)) → AreMet blocks s.met → AreMet (met_by blocks posts) met)
        → HasNewParticipant w name id seed sets (record s { participants = ps; met = met })
    comes signer one ps posts met ring none signer_is one_is are posts_are meets_them =
        let there = ring_there s.replicas ring in
        let p : Participant = new_participant name (hss_opened (fresh_signer id seed sets) w.0.now) in
        let state : one ≡ state_of p = one_is ∙ (λ i. state_of (new_participant name (hss_opened (signer_is i) (sym has.moment i)))) in
        record {
          replicas = there.0;
          one = p;
          ring = has.replicas ∙ there.1;
          unknown = known_so ∙ sym none;
          is_new = refl;
          goes_on = (
            record {
              replicas = has.replicas;
              nodes = has.nodes;
              participants = map_push state_of w.0.participants p ∙ (λ i. has.participants i ++ sym state i ∷ []) ∙ sym are;
              views = has.views;
              replies = has.replies;
              moment = has.moment;
              met = subst (λ (l : List Post). AreMet (met_by w.0.met l) met) (posts_are ∙ ap (λ (q : ParticipantState). q.agent.pending) state) (meets_them w.0.met has.met);
            },
            refl,
          );
        }
