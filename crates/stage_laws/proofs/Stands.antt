-- What stands in each world that satisfies the invariant.
use Rattle.std.proofs.Common.{◌≡◌, inl, ℕ, ◌<◌, ◌≤◌, Bool, true, false, cond, List, [], ◌∷◌, ◌++◌, map, Option, Some, None, refl, sym, ap, ◌∙◌, subst, arith, Contains}
use Rattle.std.specs.Prelude.{IfSome, IsTrue}
use Rattle.std.specs.List.{AllByRecursion}
use Rattle.std.specs.Ordering.{eq_by_cmp}
use Rattle.std.proofs.lemmas.List.{append-nil}
use Rattle.std.proofs.lemmas.List.Elements.{Contains-append_left}
use Rattle.ivy_base.specs.declared.key.Key.{Key}
use Rattle.ivy_base.specs.declared.key.PubKey.{PubKey}
use Rattle.ivy_base.specs.Naming.{IsCollisionFree, head_key_of, owner_cmp}
use Rattle.log_model.specs.Closed.{log_of}
use Rattle.log_model.specs.Rank.{own_entry}
use Rattle.log_model.specs.Record.{Record}
use Rattle.log_model.specs.Spelling.{head_message}
use Rattle.log_model.specs.Vector.{Entry, Stamp, Vector, stamp_at}
use Rattle.log_model.specs.View.{View, IsView, is_named}
use Rattle.log_model.specs.ViewKeys.{HasKeys}
use Rattle.log_model.proofs.Lists.{each, each_from}
use Rattle.log_model.proofs.Opening.{same_owner}
use Rattle.log_model.proofs.Owners.{owner_itself}
use Rattle.log_model.proofs.Standing.{stands_among_more}
use Rattle.turn_model.specs.Known.{EndsAt}
use Rattle.turn_model.specs.Turn.{IsPrefixOf}
use Rattle.turn_laws.proofs.LinkedLogs.{chain_linked, one_linked}
use Rattle.hash_signature_model.specs.Signer.{capacity, hss_key_of}
use Rattle.hss_keys.specs.Signer.{leaves_used}
use Rattle.hss_keys.proofs.Signing.{no_leaf_twice}
use Rattle.agent_model.specs.Agent.{own_key}
use Rattle.round_laws.proofs.Nodes.{ties}
use Rattle.world_model.specs.Agents.{IsHssKept, HssKept, hss_signing, hss_kept_bytes, own_hss_key, own_reach}
use Rattle.world_model.specs.Logs.{Played}
use Rattle.world_model.specs.GhostState.{Knowing, knowing_of, known_of}
use Rattle.world_model.specs.World.{Participant, named_bytes}
use Rattle.world_laws.specs.Invariant.{IsKeptSo, IsSoundIn, IsSoundKeptIn, Invariant, SignsOnce}
use Rattle.world_laws.specs.Laws.{IsHonest, IsKeptLog}
use Rattle.calm_laws.proofs.Durable.{ring_stays}
use Rattle.world_laws.proofs.KeptBytes.{kept_once}
use Rattle.world_laws.proofs.MoreMet.{grows_before}
use Rattle.world_laws.proofs.OneKnown.{stand_in_log}
use Rattle.world_laws.proofs.OneTruth.{one_truth}
use Rattle.world_laws.proofs.SignedHeads.{so_of}
use Rattle.stage_laws.specs.Stands.{HasOneTruth, HeadsAreSafe, IsNamedChain, NoLeafSignsTwo, ParticipantStands, Sealing, Stands, signed_in}
use Rattle.stage_laws.proofs.Signing.{down_to}

-- ---- heads

module _ (p : Participant) (k : HssKept) (whole : IsHssKept k) (signs : SignsOnce p k) where
  numbered : (h : Sealing) → Contains signs.left.signed h → h.0 < k.signer.made
  numbered h among =
      let below = each (λ (g : Sealing). (g.0 < p.agent.signer.made) × (g.1.seq ≤ own_reach p.agent)) signs.left.signed h signs.left.below among in
      omega (arith, below.0, signs.saved)

  in_capacity : (h : Sealing) → Contains signs.left.signed h → h.0 < capacity k.signer.sets
  in_capacity h among = (let below = numbered h among in omega (arith, below, whole.signer.made))

  no_two : NoLeafSignsTwo k.signer signs.left.signed
  no_two g h level g_in h_in same = down_to k.signer.id k.signer.seed k.signer.sets level g.0 h.0 (head_message (own_key hss_signing k.signer) g.1) (head_message (own_key hss_signing k.signer) h.1) of_all same
    where
      of_all : leaves_used k.signer.sets g.0 ≡ leaves_used k.signer.sets h.0 → signed_in k.signer g ≡ signed_in k.signer h
      of_all leaves = ap (signed_in k.signer) (signs.left.one_each g h g_in h_in (inl (no_leaf_twice k.signer.sets g.0 h.0 (in_capacity g g_in) (in_capacity h h_in) leaves)))

  safe : HeadsAreSafe p k
  safe = record {
    heads = signs.left.signed;
    left = signs.left.spelled;
    pending = signs.pending;
    saved_first = each_from (λ (h : Sealing). h.0 < k.signer.made) signs.left.signed numbered;
    one_each = signs.left.one_each;
    leaves = no_two;
  }

-- ---- the chain that is named

first_stamp : (log : Key) (e : Entry) → e.0 ≡ log → stamp_at (e ∷ []) log ≡ Some e.1
first_stamp log e same = ap (λ b. cond b (Some e.1) None) (ties log e.0 (sym same))

abbrev posted : HssKept → List (List ℕ)
posted k = map (λ post. post.bytes) k.pending

-- that chain, of which what its own agent knows of the log is a beginning
record IsNamedFor (w : Played) (q : Participant) (k : HssKept) (now : Knowing) (chain : List Record) : Type 0 where
  pub named : IsNamedChain w.0 q k chain
  pub begun : IsPrefixOf (log_of (own_hss_key q.agent) now.known) chain

of_one : (owner : PubKey) (r : Record) → r.owner ≡ owner → log_of owner (r ∷ []) ≡ r ∷ []
of_one owner r is = ap (λ b. cond b (r ∷ []) []) (subst (λ (o : PubKey). eq_by_cmp owner_cmp owner o ≡ true) (sym is) (owner_itself owner))

module _ (w : Played) (q : Participant) (k : HssKept) (whole : IsHssKept k) (owned : own_hss_key q.agent ≡ own_key hss_signing k.signer) (now : Knowing) where
  named_chain : (o : Option View) → k.view ≡ o → IsSoundKeptIn w.0.met q now k o → (chain : List Record) × IsNamedFor w q k now chain
  named_chain None is h = (
    h.0 ∷ [],
    record {
      named = record {
        linked = chain_linked (record { members = own_hss_key q.agent ∷ []; former = [] }) (own_hss_key q.agent) (h.0 ∷ []) h.3;
        ends = subst (λ (v : Vector). EndsAt (stamp_at v (head_key_of (own_hss_key q.agent))) (h.0 ∷ [])) (sym h.1)
            (subst (λ (s : Option Stamp). EndsAt s (h.0 ∷ [])) (sym (first_stamp (head_key_of (own_hss_key q.agent)) (own_entry h.0) (ap head_key_of h.3.0.owned))) ([], h.0, refl, refl));
        stand = (stands_among_more w.0.met (w.0.met ++ posted k) h.0 (λ b c. Contains-append_left w.0.met (posted k) b c) h.2, tt);
      };
      begun = ([], append-nil (log_of (own_hss_key q.agent) now.known) ∙ ap (log_of (own_hss_key q.agent)) h.5 ∙ of_one (own_hss_key q.agent) h.0 h.3.0.owned);
    },
  )
  named_chain (Some v) is h = (
    log_of (own_hss_key q.agent) h.known,
    record {
      named = record {
        linked = chain_linked v (own_hss_key q.agent) (log_of (own_hss_key q.agent) h.known) (h.by_floor.chains (own_hss_key q.agent));
        ends = h.by_floor.ends (own_hss_key q.agent) member;
        stand = stand_in_log (w.0.met ++ posted k) (own_hss_key q.agent) h.known h.stand;
      };
      begun = (h.goes_on.0, sym h.goes_on.1);
    },
  )
    where
      member : Contains v.members (own_hss_key q.agent)
      member = subst (Contains v.members) (sym owned)
          (subst (λ (s : Option View). IfSome s (λ x. IsView x × HasKeys x × Contains x.members (own_key hss_signing k.signer) × AllByRecursion (λ e. IsTrue (is_named x e.0)) k.floor)) is whole.view).2

-- ---- one truth

module _ (w : Played) (keeps : Invariant w) (q : Participant) (q_in : Contains w.0.participants q) (k : HssKept) (whole : IsHssKept k) (held : q.keeper.kept ≡ Some (hss_kept_bytes k)) (signs : SignsOnce q k)
    (honest : IsHonest w.0) (apart : IsCollisionFree (named_bytes w.0 ++ posted k)) where
  owned : own_hss_key q.agent ≡ own_key hss_signing k.signer
  owned = λ i. record { 0 = hss_key_of (sym signs.same.0 i) (sym signs.same.1 i) (sym signs.same.2 i) }

  world_apart : IsCollisionFree (named_bytes w.0)
  world_apart a b in_a in_b same = apart a b (Contains-append_left (named_bytes w.0) (posted k) a in_a) (Contains-append_left (named_bytes w.0) (posted k) b in_b) same

  blocks_apart : IsCollisionFree (w.0.met ++ posted k)
  blocks_apart a b in_a in_b same = apart a b (more a in_a) (more b in_b) same
    where
      more : (b : List ℕ) → Contains (w.0.met ++ posted k) b → Contains (named_bytes w.0 ++ posted k) b
      more b h = grows_before w.0.met (named_bytes w.0) (λ c g. Contains-append_left w.0.met (map (λ (p : Participant). (own_hss_key p.agent).0) w.0.participants) c g) (posted k) b h

  found : (chain : List Record) × IsNamedFor w q k (knowing_of w.1 q.name) chain
  found = named_chain w q k whole owned (knowing_of w.1 q.name) k.view refl
      (so_of (λ p l. IsSoundKeptIn w.0.met p (knowing_of w.1 p.name) l l.view) q k (each (IsKeptSo (λ p l. IsSoundKeptIn w.0.met p (knowing_of w.1 p.name) l l.view)) w.0.participants q (keeps.sound world_apart).keepers q_in) whole held)

  abbrev named : IsNamedChain w.0 q k found.0
  named = found.1.named

  abbrev kept_log : IsKeptLog w.0 q found.0
  kept_log = record { kept = k; whole = whole; holds = held; linked = named.linked; ends = named.ends; stand = named.stand }

  only : (other : List Record) → IsNamedChain w.0 q k other → other ≡ found.0
  only other its = one_linked (w.0.met ++ posted k) blocks_apart (own_hss_key q.agent) (stamp_at k.floor (head_key_of (own_hss_key q.agent))) other found.0 its.linked named.linked its.stand named.stand its.ends named.ends

  -- who is in no view yet knows its own log's opening alone
  beginning_of : (p : Participant) → Contains w.0.participants p → (o : Option View) → p.agent.view ≡ o → IsPrefixOf (log_of (own_hss_key q.agent) (known_of w.1 p.name)) found.0
  unfolding kept_log
  beginning_of p p_in (Some view) in_view = one_truth w p q view found.0 keeps honest p_in q_in in_view kept_log apart
  beginning_of p p_in None in_none = subst (λ (known : List Record). IsPrefixOf (log_of (own_hss_key q.agent) known) found.0) (sym knows.1) (of_opening (eq_by_cmp owner_cmp (own_hss_key q.agent) knows.0.owner) refl)
    where
      knows : (r : Record) × (known_of w.1 p.name ≡ r ∷ []) × (r.owner ≡ own_hss_key p.agent)
      knows =
          let sound : IsSoundIn w.0.met p (knowing_of w.1 p.name) None = subst (IsSoundIn w.0.met p (knowing_of w.1 p.name)) in_none
          (each (λ (o : Participant). IsSoundIn w.0.met o (knowing_of w.1 o.name) o.agent.view) w.0.participants p (keeps.sound world_apart).agents p_in) in
          (sound.0, sound.1, sound.4.0.owned)

      itself : own_hss_key q.agent ≡ own_hss_key p.agent → IsPrefixOf (log_of (own_hss_key q.agent) (known_of w.1 p.name)) found.0
      itself same = subst (λ (o : Participant). IsPrefixOf (log_of (own_hss_key q.agent) (known_of w.1 o.name)) found.0) (sym (honest.own_keys p q p_in q_in (ap head_key_of (sym same)))) found.1.begun

      of_opening : (b : Bool) → eq_by_cmp owner_cmp (own_hss_key q.agent) knows.0.owner ≡ b → IsPrefixOf (cond b (knows.0 ∷ []) []) found.0
      of_opening true is =
          let whole_log = itself (sym (same_owner (own_hss_key q.agent) knows.0.owner is) ∙ knows.2) in
          subst (λ (l : List Record). IsPrefixOf l found.0) (ap (log_of (own_hss_key q.agent)) knows.1 ∙ ap (λ b. cond b (knows.0 ∷ []) []) is) whole_log
      of_opening false is = (found.0, refl)

  truth : HasOneTruth w q k
  truth = record { chain = found.0; named = named; one = only; beginnings = λ p p_in. beginning_of p p_in p.agent.view refl }

-- ---- the whole

participant_stands : (w : Played) → Invariant w → (p : Participant) → Contains w.0.participants p → ParticipantStands w p
participant_stands w keeps p p_in =
    let so : IsKeptSo SignsOnce p = each (IsKeptSo SignsOnce) w.0.participants p keeps.signs p_in in
    record {
      kept = so.0;
      saved = record { whole = so.1; bytes = so.2; one = λ other also same. kept_once other so.0 also so.1 same };
      heads = safe p so.0 so.1 so.3;
      truth = λ honest apart. truth w keeps p p_in so.0 so.1 so.2 so.3 honest apart;
    }

pub all_stands : (w : Played) → Invariant w → Stands w
all_stands w keeps = record { ring = ring_stays w; participants = participant_stands w keeps }
