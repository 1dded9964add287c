-- The head key of a participant's log is the name of its public key, since no tag of format 2 begins a public key: so where names tell blocks and keys
-- apart, nothing else has that name.
use Rattle.std.proofs.Common.{◌≡◌, ℕ, List, map, sym, ◌∙◌, Contains}
use Rattle.std.proofs.lemmas.List.Elements.{Contains-append_left, Contains-append_right}
use Rattle.ivy_base.specs.Naming.{IsCollisionFree, head_key_of, name}
use Rattle.ivy_base.proofs.NameLemmas.{name_is_digest}
use Rattle.log_model.proofs.Lists.{each}
use Rattle.hss_keys.proofs.PlainKeys.{plain_owner}
use Rattle.world_model.specs.Agents.{own_hss_key}
use Rattle.world_model.specs.World.{Participant, named_bytes}
use Rattle.world_model.specs.Logs.{Played}
use Rattle.world_laws.specs.Invariant.{IsKeptSo, IsSavedWell, Invariant}
use Rattle.world_laws.proofs.Frames.{into_map}

module _ (w : Played) (keeps : Invariant w) where
  head_key_is_name : (p : Participant) → Contains w.0.participants p → name (own_hss_key p.agent).0 ≡ head_key_of (own_hss_key p.agent)
  head_key_is_name p p_in = name_is_digest (own_hss_key p.agent).0 (plain_owner p.agent.signer (each (IsKeptSo IsSavedWell) w.0.participants p keeps.saved p_in).3.agent.signer)

  module _ (apart : IsCollisionFree (named_bytes w.0)) where
    abbrev keys : List (List ℕ)
    keys = map (λ (p : Participant). (own_hss_key p.agent).0) w.0.participants

    key_in : (p : Participant) → Contains w.0.participants p → Contains (named_bytes w.0) (own_hss_key p.agent).0
    key_in p p_in = Contains-append_right w.0.met keys (own_hss_key p.agent).0 (into_map (λ (o : Participant). (own_hss_key o.agent).0) w.0.participants p p_in)

    -- a block of that name is the key
    pub block_is_key : (b : List ℕ) (p : Participant) → Contains w.0.met b → Contains w.0.participants p → name b ≡ head_key_of (own_hss_key p.agent) → b ≡ (own_hss_key p.agent).0
    block_is_key b p b_in p_in same = apart b (own_hss_key p.agent).0 (Contains-append_left w.0.met keys b b_in) (key_in p p_in) (same ∙ sym (head_key_is_name p p_in))

    -- and logs of one head key are of one key
    pub one_own_key : (p q : Participant) → Contains w.0.participants p → Contains w.0.participants q → head_key_of (own_hss_key p.agent) ≡ head_key_of (own_hss_key q.agent) → own_hss_key p.agent ≡ own_hss_key q.agent
    one_own_key p q p_in q_in same =
        let bytes = apart (own_hss_key p.agent).0 (own_hss_key q.agent).0 (key_in p p_in) (key_in q q_in) (head_key_is_name p p_in ∙ same ∙ sym (head_key_is_name q q_in)) in
        λ i. record { 0 = bytes i }
