-- The line that begins a log leaves it so.
use Rattle.std.proofs.Common.{◌≡◌, ◌⊎◌, inl, inr, ⊎_elim, ℕ, Bool, true, false, cond, List, [], ◌∷◌, ◌++◌, map, find, Option, Some, None, refl, sym, ap, ◌∙◌, subst, arith, Contains}
use Rattle.std.specs.Prelude.{is_some}
use Rattle.std.specs.List.{AllByRecursion}
use Rattle.std.specs.Option.{option_map_or}
use Rattle.std.specs.Str.{bytes_eq}
use Rattle.std.proofs.lemmas.Slice.Eq.{bytes_eq-Decides}
use Rattle.ivy_base.specs.Naming.{IsCollisionFree}
use Rattle.hash_signature_model.specs.declared.set.Set.{Set}
use Rattle.hash_signature_model.specs.Saved.{IsSigner}
use Rattle.hash_signature_model.specs.Signer.{Signer}
use Rattle.dhash_model.specs.Signed.{hss_judged}
use Rattle.log_model.specs.Chain.{opening}
use Rattle.log_model.specs.Rank.{own_entry}
use Rattle.log_model.specs.Record.{Record}
use Rattle.log_model.proofs.Later.{name_is_key}
use Rattle.log_model.proofs.Lists.{here, in_cons, in_nothing}
use Rattle.log_model.proofs.Opening.{opening_has_spelling}
use Rattle.ring_model.proofs.Lists.{all_weaker}
use Rattle.dht_ids.specs.declared.post.Post.{Post}
use Rattle.agent_model.specs.Agent.{head_post, is_head, kept_of, own_key, record_post}
use Rattle.script_driver.specs.Run.{Goes}
use Rattle.session_model.specs.Brought.{stamp_of}
use Rattle.world_model.specs.Agents.{HssAgent, hss_signing, hss_opened as opened, own_hss_key}
use Rattle.world_model.specs.Keepers.{fresh_keeper}
use Rattle.world_model.specs.Logs.{LogLine, Played, Publishes, fresh_signer, new_participant, with_new_participant}
use Rattle.world_model.specs.Logs.LogLine.{begins}
use Rattle.world_model.specs.Steps.{met_by}
use Rattle.world_model.specs.GhostState.{Knowing, knowing_nothing, knowing_of, known_of}
use Rattle.world_model.specs.World.{Participant, participant}
use Rattle.world_laws.specs.Invariant.{Invariant}
use Rattle.world_laws.proofs.Bringing.{found_named}
use Rattle.world_laws.proofs.Frames.{into_map}
use Rattle.world_laws.proofs.LogLines.{kept_whole}
use Rattle.world_laws.proofs.NewParticipant.{found_after, found_before}
use Rattle.world_laws.proofs.Placed.{found_some}
use Rattle.world_laws.proofs.PublicKeys.{owner_is_key}
use Rattle.world_laws.proofs.SignedAmong.{met_stays}
use Rattle.calm_laws.proofs.Finding.{found_last}
use Rattle.calm_laws.specs.Put.{IsPutOr}
use Rattle.calm_laws.proofs.UpTo.{head_tells}
use Rattle.calm_laws.proofs.HeldHeads.{more_hold}
use Rattle.calm_laws.proofs.Stages.{IsEntryPut, IsHeadPutOr, more_entry}
use Rattle.calm_laws.proofs.Backed.{IsBackedBy, IsBackedIn, in_more}
use Rattle.calm_laws.proofs.Publishes.{publishes_so}
use Rattle.calm_laws.proofs.Turns.{all_posts_met, kept_now}
use Rattle.calm_laws.proofs.BackedWorlds.{AgentsBacked, AllReceived, IsBackedWorld, sessions_later}

-- ---- lists

old_or_last : {A : Type 0} (test : A → Bool) (xs : List A) (x y : A) → find test (xs ++ x ∷ []) ≡ Some y → (find test xs ≡ Some y) ⊎ ((x ≡ y) × (test x ≡ true))
old_or_last test [] x y is = by (test x) refl is
  where
    by : (b : Bool) → test x ≡ b → cond b (Some x) None ≡ Some y → (find test [] ≡ Some y) ⊎ ((x ≡ y) × (test x ≡ true))
    by true t h = inr (cc h, t)
    by false t h = cc h
old_or_last test (z ∷ xs) x y is = by (test z) is (old_or_last test xs x y)
  where
    by : (b : Bool) → cond b (Some z) (find test (xs ++ x ∷ [])) ≡ Some y → (find test (xs ++ x ∷ []) ≡ Some y → (find test xs ≡ Some y) ⊎ ((x ≡ y) × (test x ≡ true))) → (cond b (Some z) (find test xs) ≡ Some y) ⊎ ((x ≡ y) × (test x ≡ true))
    by true h later = inl h
    by false h later = later h

abbrev by_name : Participant → List ℕ
by_name p = p.name

abbrev told_name : Knowing → List ℕ
told_name k = k.name

-- of two lists with the same names both have one of that name, or neither
same_found : (ps : List Participant) (ks : List Knowing) (n : List ℕ) → map (λ k. k.name) ks ≡ map (λ p. p.name) ps → is_some (find (λ k. bytes_eq k.name n) ks) ≡ is_some (find (λ p. bytes_eq p.name n) ps)
same_found [] [] n e = refl
same_found [] (k ∷ ks) n e = cc e
same_found (p ∷ ps) [] n e = cc e
same_found (p ∷ ps) (k ∷ ks) n e = by (cc e) (same_found ps ks n (cc e))
  where
    by : k.name ≡ p.name → is_some (find (λ k. bytes_eq k.name n) ks) ≡ is_some (find (λ p. bytes_eq p.name n) ps)
        → is_some (cond (bytes_eq k.name n) (Some k) (find (λ k. bytes_eq k.name n) ks)) ≡ is_some (cond (bytes_eq p.name n) (Some p) (find (λ p. bytes_eq p.name n) ps))
    by same rest = ap (λ m. is_some (cond (bytes_eq m n) (Some k) (find (λ k. bytes_eq k.name n) ks))) same ∙ cases (bytes_eq p.name n)
      where
        cases : (b : Bool) → is_some (cond b (Some k) (find (λ k. bytes_eq k.name n) ks)) ≡ is_some (cond b (Some p) (find (λ p. bytes_eq p.name n) ps))
        cases true = refl
        cases false = rest

-- ---- the participant that comes

module _ (s : Signer) (whole : IsSigner s) (unused : s.made ≡ 0) (w : Played) (keeps : Invariant w) (name : List ℕ) where
  abbrev a : HssAgent
  a = opened s w.0.now

  abbrev one : Record
  one = opening (own_key hss_signing s) w.0.now

  abbrev p : Participant
  p = new_participant name (opened s w.0.now)

  among : IsPutOr w.1.acked (opened s w.0.now).pending (opening (own_key hss_signing s) w.0.now)
  among = inr (here (record_post (opening (own_key hss_signing s) w.0.now)) (head_post hss_signing s (own_entry (opening (own_key hss_signing s) w.0.now)).1 ∷ []))

  head_so : IsHeadPutOr w.1.acked (opened s w.0.now).pending (head_post hss_signing s (own_entry (opening (own_key hss_signing s) w.0.now)).1)
  head_so j judged = (
    own_key hss_signing s,
    refl,
    record {
      log = opening (own_key hss_signing s) w.0.now ∷ [];
      linked = (refl, opening_has_spelling (own_key hss_signing s) w.0.now keeps.moment, refl, refl, tt);
      ends = ([], opening (own_key hss_signing s) w.0.now, refl, sym told);
      each = (among, tt);
    },
  )
    where
      told : stamp_of j ≡ (own_entry (opening (own_key hss_signing s) w.0.now)).1
      told = head_tells _ _ j (own_key hss_signing s) (own_entry (opening (own_key hss_signing s) w.0.now)).1 _ judged refl (owner_is_key s whole).size (omega arith)
          (name_is_key (opening (own_key hss_signing s) w.0.now) (opening_has_spelling (own_key hss_signing s) w.0.now keeps.moment)).size

  backed : IsBackedBy w.1.acked (own_hss_key (opened s w.0.now)) (opening (own_key hss_signing s) w.0.now ∷ []) (opened s w.0.now).pending
  backed = record {
    records = λ x c mine. ⊎_elim (λ e. subst (IsPutOr w.1.acked (opened s w.0.now).pending) e among) (λ none. absurd (in_nothing x none)) (in_cons (opening (own_key hss_signing s) w.0.now) [] x c);
    heads = λ x c is. ⊎_elim
        (λ e. absurd (no_head (ap (λ (o : Post). is_head o.kind) e ∙ is)))
        (λ later. ⊎_elim (λ e. subst (IsHeadPutOr w.1.acked (opened s w.0.now).pending) e head_so) (λ none. absurd (in_nothing x none)) (in_cons (head_post hss_signing s (own_entry (opening (own_key hss_signing s) w.0.now)).1) [] x later))
        (in_cons (record_post (opening (own_key hss_signing s) w.0.now)) (head_post hss_signing s (own_entry (opening (own_key hss_signing s) w.0.now)).1 ∷ []) x c);
  }
    where
      no_head : false ≡ true → ⊥
      no_head e = cc e

  new_in : IsBackedIn (met_by w.0.met (opened s w.0.now).pending) w.1.acked (new_participant name (opened s w.0.now)) (opening (own_key hss_signing s) w.0.now ∷ [])
  new_in = record {
    agent = backed;
    pending = all_posts_met w.0.met (opened s w.0.now).pending;
    fine = refl;
    keeper = (kept_of (opened s w.0.now), kept_whole s whole unused w.0.now keeps.moment, kept_now fresh_keeper (kept_of (opened s w.0.now)) refl, record { same_reach = refl; backed = backed });
  }

  module _ (new : is_some (participant w.0 name) ≡ false) (h : IsBackedWorld w.0 w.1) where
    abbrev v : Played
    v = with_new_participant w (new_participant name (opened s w.0.now))

    abbrev told : Knowing
    told = record { name = name; known = opening (own_key hss_signing s) w.0.now ∷ []; received = [] }

    grows : (b : List ℕ) → Contains w.0.met b → Contains (met_by w.0.met (opened s w.0.now).pending) b
    grows b c = met_stays w.0.met (map (λ (o : Post). o.bytes) (opened s w.0.now).pending) b c

    -- what is known of those who were there
    old_known : (n : List ℕ) (q : Participant) → participant w.0 n ≡ Some q → known_of (with_new_participant w (new_participant name (opened s w.0.now))).1 n ≡ known_of w.1 n
    old_known n q is =
        let named = found_named w.0.participants n q is in
        let at = found_some told_name w.1.participants n (subst (λ ns. Contains ns n) (sym keeps.fits.participants) (subst (Contains (map by_name w.0.participants)) named.1 (into_map by_name w.0.participants q named.0))) in
        ap (λ o. (option_map_or (λ (k : Knowing). k) o (knowing_nothing n)).known) (found_before (λ (k : Knowing). bytes_eq k.name n) w.1.participants (told ∷ []) at.0 at.1)
        ∙ sym (ap (λ o. (option_map_or (λ (k : Knowing). k) o (knowing_nothing n)).known) at.1)

    its_known : known_of (with_new_participant w (new_participant name (opened s w.0.now))).1 name ≡ opening (own_key hss_signing s) w.0.now ∷ []
    its_known = ap (λ o. (option_map_or (λ (k : Knowing). k) o (knowing_nothing name)).known)
        (found_last (λ (k : Knowing). bytes_eq k.name name) w.1.participants told (same_found w.0.participants w.1.participants name keeps.fits.participants ∙ new) ((bytes_eq-Decides name name).1 refl))

    agents_so : AgentsBacked (with_new_participant w (new_participant name (opened s w.0.now))).0 (with_new_participant w (new_participant name (opened s w.0.now))).1
    agents_so n q is = ⊎_elim
        (λ old. subst (IsBackedIn (met_by w.0.met (opened s w.0.now).pending) w.1.acked q) (sym (old_known n q old))
        (in_more w.0.met (met_by w.0.met (opened s w.0.now).pending) w.1.acked w.1.acked q (known_of w.1 n) (known_of w.1 n) grows (λ x c. c) (λ x c mine. c) (h.agents n q old)))
        (λ last.
        let n_is : name ≡ n = (bytes_eq-Decides name n).0 last.1 in
        subst (λ (x : Participant). IsBackedIn (met_by w.0.met (opened s w.0.now).pending) w.1.acked x (known_of (with_new_participant w (new_participant name (opened s w.0.now))).1 n)) last.0
        (subst (λ m. IsBackedIn (met_by w.0.met (opened s w.0.now).pending) w.1.acked (new_participant name (opened s w.0.now)) (known_of (with_new_participant w (new_participant name (opened s w.0.now))).1 m)) n_is
        (subst (IsBackedIn (met_by w.0.met (opened s w.0.now).pending) w.1.acked (new_participant name (opened s w.0.now))) (sym its_known) new_in)))
        (old_or_last (λ (x : Participant). bytes_eq x.name n) w.0.participants (new_participant name (opened s w.0.now)) q is)

    received_so : AllReceived (met_by w.0.met (opened s w.0.now).pending) w.1.acked (with_new_participant w (new_participant name (opened s w.0.now))).1
    received_so n = by (find (λ (k : Knowing). bytes_eq k.name n) w.1.participants) refl
      where
        before : AllByRecursion (IsEntryPut (met_by w.0.met (opened s w.0.now).pending) w.1.acked) (knowing_of w.1 n).received
        before = all_weaker (IsEntryPut w.0.met w.1.acked) (IsEntryPut (met_by w.0.met (opened s w.0.now).pending) w.1.acked) (knowing_of w.1 n).received (λ e g. more_entry w.0.met (met_by w.0.met (opened s w.0.now).pending) w.1.acked w.1.acked grows (λ x c. c) e g) (h.received n)

        by : (o : Option Knowing) → find (λ (k : Knowing). bytes_eq k.name n) w.1.participants ≡ o → AllByRecursion (IsEntryPut (met_by w.0.met (opened s w.0.now).pending) w.1.acked) (knowing_of (with_new_participant w (new_participant name (opened s w.0.now))).1 n).received
        by (Some k) is =
            let now : (knowing_of (with_new_participant w (new_participant name (opened s w.0.now))).1 n).received ≡ k.received =
            ap (λ o. (option_map_or (λ (x : Knowing). x) o (knowing_nothing n)).received) (found_before (λ (x : Knowing). bytes_eq x.name n) w.1.participants (told ∷ []) k is) in
            let was : (knowing_of w.1 n).received ≡ k.received = ap (λ o. (option_map_or (λ (x : Knowing). x) o (knowing_nothing n)).received) is in
            subst (AllByRecursion (IsEntryPut (met_by w.0.met (opened s w.0.now).pending) w.1.acked)) (was ∙ sym now) before
        by None is =
            let now : (knowing_of (with_new_participant w (new_participant name (opened s w.0.now))).1 n).received ≡ [] =
            ap (λ o. (option_map_or (λ (x : Knowing). x) o (knowing_nothing n)).received) (found_after (λ (x : Knowing). bytes_eq x.name n) w.1.participants (told ∷ []) is) ∙ last (bytes_eq name n) in
            subst (AllByRecursion (IsEntryPut (met_by w.0.met (opened s w.0.now).pending) w.1.acked)) (sym now) tt
          where
            last : (b : Bool) → (option_map_or (λ (x : Knowing). x) (cond b (Some told) None) (knowing_nothing n)).received ≡ []
            last true = refl
            last false = refl

    comes_so : IsBackedWorld (with_new_participant w (new_participant name (opened s w.0.now))).0 (with_new_participant w (new_participant name (opened s w.0.now))).1
    comes_so = record {
      nodes = more_hold w.0.met (met_by w.0.met (opened s w.0.now).pending) w.1.acked w.1.acked grows (λ x c. c) w.0.nodes h.nodes;
      agents = agents_so;
      sessions = sessions_later w.0 (with_new_participant w (new_participant name (opened s w.0.now))).0 w.1 (with_new_participant w (new_participant name (opened s w.0.now))).1 w.0.sessions grows (λ x c. c) h.sessions;
      put_met = λ x c. grows x.bytes (h.put_met x c);
      received = received_so;
    }

    pub begins_so : (r : ℕ) (next : Played) → Publishes hss_judged r (with_new_participant w (new_participant name (opened s w.0.now))) (new_participant name (opened s w.0.now)) next → IsCollisionFree next.0.met → IsBackedWorld next.0 next.1
    begins_so r next published apart = publishes_so r (with_new_participant w (new_participant name (opened s w.0.now))) (new_participant name (opened s w.0.now)) next (found_last (λ (x : Participant). bytes_eq x.name name) w.0.participants (new_participant name (opened s w.0.now)) new ((bytes_eq-Decides name name).1 refl)) published apart comes_so

pub log_so : (w : Played) → Invariant w → (name id seed : List ℕ) (sets : List Set) → IsSigner (fresh_signer id seed sets) → (next : Played) (output : List ℕ) → LogLine hss_judged w name id seed sets (Goes next output) → IsCollisionFree next.0.met → IsBackedWorld w.0 w.1 → IsBackedWorld next.0 next.1
log_so w keeps name id seed sets whole next _ (begins r p _ ringed new is published) apart h =
    begins_so (fresh_signer id seed sets) whole refl w keeps name new h r next (subst (λ x. Publishes hss_judged r (with_new_participant w x) x next) is published) apart
