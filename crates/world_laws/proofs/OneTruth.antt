-- What an agent knows of a log is the beginning of the chain that the log's own keeper names.
use Rattle.std.proofs.Common.{◌≡◌, ◌⊎◌, inl, inr, ⊎_elim, ℕ, ◌<◌, ◌^◌, cond, List, [], ◌∷◌, ◌++◌, length, map, Option, Some, None, refl, sym, ap, ◌∙◌, subst, arith, Contains}
use Rattle.std.specs.Prelude.{IfSome, IsTrue, is_some}
use Rattle.std.specs.List.{AllByRecursion, find}
use Rattle.std.specs.Option.{option_map_or}
use Rattle.std.specs.Ordering.{eq_by_cmp}
use Rattle.std.specs.Str.{bytes_eq}
use Rattle.std.proofs.lemmas.List.Elements.{Contains-append_left, Contains-append_right}
use Rattle.ivy_base.specs.declared.key.Key.{Key}
use Rattle.ivy_base.specs.declared.key.PubKey.{PubKey}
use Rattle.ivy_base.specs.Naming.{IsCollisionFree, head_key_of, name, owner_cmp}
use Rattle.wire_model.specs.Xdr.{opaque}
use Rattle.wire_model.proofs.OneReading.{◌▷◌, always, one_raw, one_word}
use Rattle.log_model.specs.Chain.{LinkedFrom}
use Rattle.log_model.specs.Closed.{log_of}
use Rattle.log_model.specs.Rank.{own_entry}
use Rattle.log_model.specs.Record.{Record}
use Rattle.log_model.specs.Spelling.{HasSpelling, head_block, no_name, head_tag}
use Rattle.log_model.specs.Standing.{Stand}
use Rattle.log_model.proofs.Standing.{stands_among_more}
use Rattle.log_model.specs.Vector.{Entry, Stamp, Vector, stamp_at}
use Rattle.log_model.specs.View.{View, IsView, is_named}
use Rattle.log_model.proofs.Later.{name_is_key}
use Rattle.log_model.proofs.Lists.{each, each_left, from_filter, here, in_nothing}
use Rattle.dht_ids.specs.declared.judge.Judged.{Judged}
use Rattle.dht_ids.specs.declared.post.Post.{Post}
use Rattle.dhash_model.specs.Signed.{hss_judged}
use Rattle.log_heads.specs.Signed.{IsSignedHead}
use Rattle.log_heads.proofs.SignedHeads.{signed_heads}
use Rattle.round_laws.proofs.Nodes.{ties}
use Rattle.hash_signature_model.specs.Signer.{hss_key_of}
use Rattle.log_model.specs.ViewKeys.{HasKeys}
use Rattle.turn_model.specs.Known.{EndsAt, IsBacked, IsUnderHead}
use Rattle.turn_model.specs.Turn.{IsPrefixOf}
use Rattle.turn_laws.proofs.LinkedLogs.{chain_linked, each_linked, ends_some, one_linked, prefix_linked}
use Rattle.session_model.specs.Brought.{stamp_of}
use Rattle.agent_model.specs.Agent.{own_key}
use Rattle.world_model.specs.Agents.{HssKept, IsHssKept, hss_signing, own_hss_key}
use Rattle.world_model.specs.World.{Participant, named_bytes}
use Rattle.world_model.specs.GhostState.{Knowing, knowing_nothing, knowing_of, known_of}
use Rattle.world_model.specs.Steps.{heads_by}
use Rattle.world_model.specs.Logs.{Played}
use Rattle.world_laws.specs.Invariant.{IsKeptSo, IsMetHead, IsSavedWell, IsSound, IsSoundIn, IsSoundKeptIn, Invariant, NamesOneOf, SignsOnce}
use Rattle.world_laws.specs.Laws.{IsHonest, IsKeptLog, OneTruth}
use Rattle.world_laws.proofs.MoreMet.{grows_before, more_stand}
use Rattle.world_laws.proofs.OneKnown.{stand_in_log}
use Rattle.world_laws.proofs.PublicKeys.{owner_is_key}
use Rattle.world_laws.proofs.Publishing.{found_knowing}
use Rattle.world_laws.proofs.SignedHeads.{so_of}

-- ---- heads

-- a head says the stamp that it is over, whoever sealed it
head_tells : (log : Key) (bytes : List ℕ) (j : Judged) (owner : PubKey) (t : Stamp) (signature : List ℕ) → hss_judged log bytes ≡ Some j → bytes ≡ head_block owner t signature → length owner.0 ≡ 60 → t.seq < 2 ^ 32 → length t.name.0 ≡ 20
    → stamp_of j ≡ t
head_tells log bytes j owner t signature judged spelled owned numbered named = λ i. record { seq = (read.0 i).0.1; name = record { 0 = (read.0 i).1 } }
  where
    f : IsSignedHead log bytes j
    f = (signed_heads log bytes j).0 judged

    read : ◌≡◌ {A = ((Unit {0} × List ℕ) × ℕ) × List ℕ} (((tt, f.owner.0), j.seq), j.name.0) (((tt, owner.0), t.seq), t.name.0) × (opaque f.signature ≡ opaque signature)
    read = (always head_tag ▷ one_raw 60 ▷ one_word ▷ one_raw 20).one (((tt, f.owner.0), j.seq), j.name.0) (((tt, owner.0), t.seq), t.name.0) (opaque f.signature) (opaque signature)
        (((tt, f.head.owner_is_key.size), omega (arith, f.head.few)), f.head.name.size) (((tt, owned), numbered), named) (sym f.head.spelled ∙ spelled)

-- ---- what a keeper names

-- the chain of the participant's log that its keeper names, its heads, and what its agent knows of it
record KeptChain (blocks : List (List ℕ)) (q : Participant) (k : HssKept) (now : Knowing) (chain : List Record) : Type 0 where
  linked : LinkedFrom (own_hss_key q.agent) 1 no_name chain
  stand : Stand blocks chain
  ends : EndsAt (stamp_at k.floor (head_key_of (own_hss_key q.agent))) chain
  heads : AllByRecursion (NamesOneOf k.signer chain) q.left
  goes_on : (k.view ≡ None) ⊎ IsPrefixOf (log_of (own_hss_key q.agent) now.known) chain

first_stamp : (log : Key) (e : Entry) → e.0 ≡ log → stamp_at (e ∷ []) log ≡ Some e.1
first_stamp log e same = ap (λ b. cond b (Some e.1) None) (ties log e.0 (sym same))

abbrev posted : HssKept → List (List ℕ)
posted k = map (λ (post : Post). post.bytes) k.pending

module _ (met : List (List ℕ)) (q : Participant) (k : HssKept) (whole : IsHssKept k) (owned : own_hss_key q.agent ≡ own_key hss_signing k.signer) (now : Knowing) where
  kept_chain : (o : Option View) → k.view ≡ o → IsSoundKeptIn met q now k o → (chain : List Record) × KeptChain (met ++ posted k) q k now chain
  kept_chain None is h = (
    h.0 ∷ [],
    record {
      linked = chain_linked (record { members = own_hss_key q.agent ∷ []; former = [] }) (own_hss_key q.agent) (h.0 ∷ []) h.3;
      stand = (stands_among_more met (met ++ posted k) h.0 (λ b c. Contains-append_left met (posted k) b c) h.2, tt);
      ends = subst (λ (v : Vector). EndsAt (stamp_at v (head_key_of (own_hss_key q.agent))) (h.0 ∷ [])) (sym h.1)
          (subst (λ (o : Option Stamp). EndsAt o (h.0 ∷ [])) (sym (first_stamp (head_key_of (own_hss_key q.agent)) (own_entry h.0) (ap head_key_of h.3.0.owned))) ([], h.0, refl, refl));
      heads = each_left (NamesOneOf k.signer (h.0 ∷ [])) q.left (heads_by k.pending) h.4;
      goes_on = inl is;
    },
  )
  kept_chain (Some v) is h = (
    log_of (own_hss_key q.agent) h.known,
    record {
      linked = chain_linked v (own_hss_key q.agent) (log_of (own_hss_key q.agent) h.known) (h.by_floor.chains (own_hss_key q.agent));
      stand = stand_in_log (met ++ posted k) (own_hss_key q.agent) h.known h.stand;
      ends = h.by_floor.ends (own_hss_key q.agent) member;
      heads = each_left (NamesOneOf k.signer (log_of (own_hss_key q.agent) h.known)) q.left (heads_by k.pending) h.heads;
      goes_on = inr (h.goes_on.0, sym h.goes_on.1);
    },
  )
    where
      member : Contains v.members (own_hss_key q.agent)
      member = subst (Contains v.members) (sym owned)
          (subst (λ (o : Option View). IfSome o (λ x. IsView x × HasKeys x × Contains x.members (own_key hss_signing k.signer) × AllByRecursion (λ e. IsTrue (is_named x e.0)) k.floor)) is whole.view).2

-- ---- the whole

-- a verified head that was received was met
received_met : (w : Played) → Invariant w → (name : List ℕ) (e : Entry) → Contains (knowing_of w.1 name).received e → IsMetHead w.0.met e
received_met w keeps name e h = by (find (λ k. bytes_eq k.name name) w.1.participants) refl
  where
    by : (o : Option Knowing) → find (λ k. bytes_eq k.name name) w.1.participants ≡ o → IsMetHead w.0.met e
    by None is = absurd (in_nothing e (subst (λ (x : Option Knowing). Contains (option_map_or (λ k. k) x (knowing_nothing name)).received e) is h))
    by (Some k) is = each (IsMetHead w.0.met) k.received e (each _ w.1.participants k keeps.received (found_knowing w.1.participants name k is).0)
        (subst (λ (x : Option Knowing). Contains (option_map_or (λ k. k) x (knowing_nothing name)).received e) is h)

module _ (w : Played) (keeps : Invariant w) (honest : IsHonest w.0) (q : Participant) (q_in : Contains w.0.participants q) (log : List Record) (kept : IsKeptLog w.0 q log)
    (apart : IsCollisionFree (named_bytes w.0 ++ posted kept.kept)) where
  abbrev blocks : List (List ℕ)
  blocks = w.0.met ++ posted kept.kept

  blocks_apart : IsCollisionFree blocks
  blocks_apart a b in_a in_b same = apart a b (more a in_a) (more b in_b) same
    where
      more : (b : List ℕ) → Contains blocks b → Contains (named_bytes w.0 ++ posted kept.kept) b
      more b h = grows_before w.0.met (named_bytes w.0) (λ c g. Contains-append_left w.0.met (map (λ (p : Participant). (own_hss_key p.agent).0) w.0.participants) c g) (posted kept.kept) b h

  world_apart : IsCollisionFree (named_bytes w.0)
  world_apart a b in_a in_b same = apart a b (Contains-append_left (named_bytes w.0) (posted kept.kept) a in_a) (Contains-append_left (named_bytes w.0) (posted kept.kept) b in_b) same

  signs : SignsOnce q kept.kept
  signs = so_of SignsOnce q kept.kept (each (IsKeptSo SignsOnce) w.0.participants q keeps.signs q_in) kept.whole kept.holds

  owned : own_hss_key q.agent ≡ own_key hss_signing kept.kept.signer
  owned = λ i. record { 0 = hss_key_of (sym signs.same.0 i) (sym signs.same.1 i) (sym signs.same.2 i) }

  chain : (chain : List Record) × KeptChain blocks q kept.kept (knowing_of w.1 q.name) chain
  chain = kept_chain w.0.met q kept.kept kept.whole owned (knowing_of w.1 q.name) kept.kept.view refl
      (so_of (λ p k. IsSoundKeptIn w.0.met p (knowing_of w.1 p.name) k k.view) q kept.kept (each (IsKeptSo (λ p k. IsSoundKeptIn w.0.met p (knowing_of w.1 p.name) k k.view)) w.0.participants q (keeps.sound world_apart).keepers q_in) kept.whole kept.holds)

  same_chain : chain.0 ≡ log
  same_chain = one_linked blocks blocks_apart (own_hss_key q.agent) (stamp_at kept.kept.floor (head_key_of (own_hss_key q.agent))) chain.0 log chain.1.linked kept.linked chain.1.stand kept.stand chain.1.ends kept.ends

  -- a head of the log that was met is over a record of the chain
  head_in_chain : (e : Entry) → e.0 ≡ head_key_of (own_hss_key q.agent) → IsMetHead w.0.met e → (r : Record) × Contains chain.0 r × ((own_entry r).1 ≡ e.1)
  head_in_chain e of_log is_met = (named.1, named.2, sym tells ∙ sym is_met.4)
    where
      made : (p : Participant) × Contains w.0.participants p × (e.0 ≡ head_key_of (own_hss_key p.agent)) × Contains p.left is_met.0
      made = honest.own_heads is_met.0 e.0 is_met.1 is_met.2 is_met.3

      same : made.0 ≡ q
      same = honest.own_keys made.0 q made.1 q_in (sym made.2 ∙ of_log)

      named : NamesOneOf kept.kept.signer chain.0 is_met.0
      named = each (NamesOneOf kept.kept.signer chain.0) q.left is_met.0 chain.1.heads (subst (λ (p : Participant). Contains p.left is_met.0) same made.3)

      spelled : HasSpelling named.1
      spelled = (each_linked (own_hss_key q.agent) 1 no_name chain.0 named.1 chain.1.linked named.2).1

      tells : stamp_of is_met.1 ≡ (own_entry named.1).1
      tells = head_tells e.0 is_met.0 is_met.1 (own_key hss_signing kept.kept.signer) (own_entry named.1).1 _ is_met.3 named.3 (owner_is_key kept.kept.signer kept.whole.signer).size (omega (arith, spelled.few)) (name_is_key named.1 spelled).size

  module _ (p : Participant) (p_in : Contains w.0.participants p) (view : View) (in_view : p.agent.view ≡ Some view) where
    agent_sound : IsSound w.0.met p (knowing_of w.1 p.name) view
    agent_sound = subst (IsSoundIn w.0.met p (knowing_of w.1 p.name)) in_view (each (λ (o : Participant). IsSoundIn w.0.met o (knowing_of w.1 o.name) o.agent.view) w.0.participants p (keeps.sound world_apart).agents p_in)

    abbrev its : List Record
    its = log_of (own_hss_key q.agent) (known_of w.1 p.name)

    its_linked : LinkedFrom (own_hss_key q.agent) 1 no_name its
    its_linked = chain_linked view (own_hss_key q.agent) its (agent_sound.knows.closed.chains (own_hss_key q.agent))

    met_in_blocks : (b : List ℕ) → Contains w.0.met b → Contains blocks b
    met_in_blocks b h = Contains-append_left w.0.met (posted kept.kept) b h

    its_stand : Stand blocks its
    its_stand = more_stand w.0.met blocks met_in_blocks its (stand_in_log w.0.met (own_hss_key q.agent) (known_of w.1 p.name) agent_sound.stand)

    -- its own log goes as far as the keeper's
    own_prefix : p ≡ q → IsPrefixOf its chain.0
    own_prefix same = ⊎_elim (λ none. absurd (entered none)) (λ prefix. subst (λ (o : Participant). IsPrefixOf (log_of (own_hss_key q.agent) (known_of w.1 o.name)) chain.0) (sym same) prefix) chain.1.goes_on
      where
        well : IsSavedWell q kept.kept
        well = so_of IsSavedWell q kept.kept (each (IsKeptSo IsSavedWell) w.0.participants q keeps.saved q_in) kept.whole kept.holds

        entered : kept.kept.view ≡ None → ⊥
        entered none =
            let has : IsTrue (is_some kept.kept.view) = well.entered (ap is_some (subst (λ (o : Participant). o.agent.view ≡ Some view) same in_view)) in
            cc (sym has ∙ ap is_some none)

    -- another's goes as far as a head that was received
    under_prefix : (a : List Record) (l : Record) → its ≡ a ++ l ∷ [] → l.owner ≡ own_hss_key q.agent → IsUnderHead w.0.met (knowing_of w.1 p.name).received l → IsPrefixOf its chain.0
    under_prefix a l is owned_by under = prefix_linked blocks blocks_apart (own_hss_key q.agent) its chain.0 a l l its_linked chain.1.linked its_stand chain.1.stand is in_chain refl
      where
        over : (r : Record) × Contains chain.0 r × ((own_entry r).1 ≡ under.head.1)
        over = head_in_chain under.head (under.of_log ∙ ap head_key_of owned_by) (received_met w keeps p.name under.head under.received)

        longer : IsPrefixOf under.log chain.0
        longer = prefix_linked blocks blocks_apart (own_hss_key q.agent) under.log chain.0 under.ends.0 under.ends.1 over.0 (subst (λ (o : PubKey). LinkedFrom o 1 no_name under.log) owned_by under.linked) chain.1.linked
            (more_stand w.0.met blocks met_in_blocks under.log under.stand) chain.1.stand under.ends.2 over.1 (ap (λ (t : Stamp). t.name) (over.2 ∙ sym under.ends.3))

        in_chain : Contains chain.0 l
        in_chain = subst (λ (s : List Record). Contains s l) longer.1 (Contains-append_left under.log longer.0 l under.below)

    prefix : IsPrefixOf its chain.0
    prefix = ⊎_elim (λ none. (chain.0, ap (λ (s : List Record). s ++ chain.0) none)) (λ e. by e.0 e.1 e.2) (ends_some its)
      where
        by : (a : List Record) (l : Record) → its ≡ a ++ l ∷ [] → IsPrefixOf its chain.0
        by a l is = ⊎_elim
            (λ by_floor. own_prefix (honest.own_keys p q p_in q_in (ap head_key_of (sym by_floor.0 ∙ of_q))))
            (λ by_head. under_prefix a l is of_q by_head.1)
            (each (IsBacked w.0.met (own_hss_key p.agent) p.agent.floor (knowing_of w.1 p.name).received) (known_of w.1 p.name) l agent_sound.verified.backed (from_filter (λ (r : Record). eq_by_cmp owner_cmp (own_hss_key q.agent) r.owner) (known_of w.1 p.name) l among).0)
          where
            among : Contains its l
            among = subst (λ (s : List Record). Contains s l) (sym is) (Contains-append_right a (l ∷ []) l (here l []))

            of_q : l.owner ≡ own_hss_key q.agent
            of_q = (each_linked (own_hss_key q.agent) 1 no_name its l its_linked among).0

    pub is_beginning : IsPrefixOf its log
    is_beginning = subst (IsPrefixOf its) same_chain prefix

pub one_truth : OneTruth
one_truth w p q view log keeps honest p_in q_in in_view kept apart = is_beginning w keeps honest q q_in log kept apart p p_in view in_view
