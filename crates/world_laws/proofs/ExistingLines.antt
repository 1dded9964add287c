-- Lines of participants do something: a log begins, a view is made, a participant enters one or starts again; and so do lines that are functions of the world.
use Rattle.std.proofs.Common.{◌≡◌, ◌⊎◌, inl, inr, ⊎_elim, ℕ, Bool, true, false, cond, List, [], ◌∷◌, ◌++◌, map, Option, Some, None, refl, sym, ap, ◌∙◌, subst, Contains}
use Rattle.std.specs.Prelude.{is_some}
use Rattle.std.specs.List.{AllByRecursion}
use Rattle.std.specs.Str.{bytes_eq}
use Rattle.std.proofs.lemmas.List.{map-append}
use Rattle.std.proofs.lemmas.List.Elements.{Contains-append_cases}
use Rattle.std.proofs.lemmas.Slice.Eq.{bytes_eq-Decides}
use Rattle.ivy_base.specs.declared.key.PubKey.{PubKey}
use Rattle.ivy_base.specs.Naming.{HasClash, IsCollisionFree}
use Rattle.hash_signature_model.specs.declared.set.Set.{Set}
use Rattle.hash_signature_model.specs.Signer.{hss_key_of}
use Rattle.dhash_model.specs.Signed.{hss_judged}
use Rattle.log_model.proofs.Lists.{each, here, there}
use Rattle.log_model.specs.Chain.{opening}
use Rattle.log_model.specs.Rank.{own_entry}
use Rattle.log_model.specs.Record.{Record}
use Rattle.log_model.specs.View.{View, have_own_head_keys, view_block, view_name}
use Rattle.turn_model.specs.Known.{IsKnown}
use Rattle.dht_ids.specs.declared.post.Post.{Post}
use Rattle.agent_model.specs.Agent.{head_post, own_key, record_post, restored}
use Rattle.agent_model.specs.Views.{Entered, NotMember, NotNamed, KeeperFailed}
use Rattle.script_driver.specs.Run.{Outcome, Goes, Ends, Refuses, Exceeds}
use Rattle.script_driver.specs.Seen.{seen}
use Rattle.script_model.specs.Words.{◌>>=◌}
use Rattle.world_model.specs.Agents.{HssEntering, IsHssKept, HssKept, hss_entering, hss_signing, hss_kept_bytes, hss_opened, own_hss_key}
use Rattle.world_model.specs.Keepers.{fails_next}
use Rattle.world_model.specs.Logs.{IsKnownAgain, LogLine, RestartLine, ViewLine, acked_view, after_entering, afresh_told, beside, fresh_signer, in_key_order, is_too_large, keys_of, new_participant, restarted, to_publish, use_by, with_new_participant, with_view}
use Rattle.world_model.specs.Logs.LogLine.{before_ring as log_before_ring, known as log_known, begins as log_begins}
use Rattle.world_model.specs.Logs.RestartLine.{nobody as restart_nobody, outside as restart_outside, starts as restart_starts}
use Rattle.world_model.specs.Logs.ViewLine.{known as view_known, no_members as view_no_members, no_former as view_no_former, one_head_key as view_one_head_key, exceeds as view_exceeds, makes as view_makes}
use Rattle.world_model.specs.Step.{Untold}
use Rattle.world_model.specs.Steps.{having_made, met_by}
use Rattle.world_model.specs.GhostState.{GhostState, began_nothing, knowing_of}
use Rattle.world_model.specs.World.{World, NamedView, Participant, meets, named_bytes, participant, peer_of, view_named}
use Rattle.world_laws.specs.Invariant.{AreApart, IsKeptSo, IsMetPost, IsSavedWell, IsSoundKeptIn, Invariant, SignsOnce}
use Rattle.world_laws.proofs.Afresh.{apart_before}
use Rattle.world_laws.proofs.Apart.{clash_is_decided}
use Rattle.world_laws.proofs.Bringing.{found_named}
use Rattle.world_laws.proofs.ExistingAsks.{HasPut, put_whole}
use Rattle.world_laws.proofs.ExistingCalls.{IsSeen, some_participant}
use Rattle.world_laws.proofs.ExistingFates.{Serves}
use Rattle.world_laws.proofs.ExistingPuts.{Ended, runs_out, configuration}
use Rattle.world_laws.proofs.ExistingSessions.{publishes_all}
use Rattle.world_laws.proofs.Frames.{held_more, into_map, nodes_of_ring, ring_of}
use Rattle.world_laws.proofs.Lines.{meets_it, meets_more}
use Rattle.world_laws.proofs.MoreMet.{more_stand}
use Rattle.world_laws.proofs.NewParticipant.{apart_more, found_after, none_named}
use Rattle.world_laws.proofs.Placed.{found_some}
use Rattle.world_laws.proofs.SignedAmong.{met_stays, met_then}
use Rattle.world_laws.proofs.SignedHeads.{so_of}

-- ---- what is a function of the world

beside_seen : (st : GhostState) (o : Outcome World) → o ≡ seen (beside st o)
beside_seen st (Goes next output) = refl
beside_seen st Ends = refl
beside_seen st Refuses = refl
beside_seen st Exceeds = refl

pub by_function : (w : World) (o : Outcome World) → IsSeen w (λ st out. out ≡ beside st o)
by_function w o = (o, λ st fits. (beside st o, refl, beside_seen st o))

pub untold : (w : World) (Line : Outcome World → Type 0) → (o : Outcome World) × Line o → IsSeen w (λ st out. Untold (w, st) Line out)
untold w Line some = (some.0, λ st fits. (beside st some.0, (some.0, some.1, refl), beside_seen st some.0))

-- ---- use

entering_seen : (w : World) (st su : GhostState) (p : Participant) (view : View) (came : HssEntering) (saving : Option HssKept) → seen (after_entering (w, st) p view came saving) ≡ seen (after_entering (w, su) p view came saving)
entering_seen w st su p view (Entered after) saving = refl
entering_seen w st su p view NotMember saving = refl
entering_seen w st su p view (NotNamed log) saving = refl
entering_seen w st su p view (KeeperFailed after) saving = refl

use_seen : (w : World) (st su : GhostState) (p : Option Participant) (view : Option View) → seen (use_by (w, st) p view) ≡ seen (use_by (w, su) p view)
use_seen w st su None view = refl
use_seen w st su (Some p) None = refl
use_seen w st su (Some p) (Some view) = (let came = hss_entering p.agent view (fails_next p.keeper) in entering_seen w st su p view came.0 came.1)

pub use_line_seen : (w : World) (st : GhostState) (p : Option Participant) (view : Option View) → IsSeen w (λ su out. out ≡ use_by (w, su) p view)
use_line_seen w st p view = (seen (use_by (w, st) p view), λ su fits. (use_by (w, su) p view, refl, use_seen w st su p view))

-- ---- log

pub serves_more : (w : World) (st : GhostState) (r : ℕ) → Invariant (w, st) → w.replicas ≡ Some r → (participants : List Participant) (views : List NamedView) (met : List (List ℕ)) → ((b : List ℕ) → Contains w.met b → Contains met b)
    → Serves r (map peer_of w.nodes) met (record w { participants = participants; views = views; met = met })
serves_more w st r keeps ringed participants views met grows = (let ring = nodes_of_ring (w, st) r keeps ringed in record {
  ring = record { apart = ring.apart; replicas = ring.replicas; known = ring.known };
  held = held_more (w, st) keeps met grows;
  same_peers = refl;
  same_met = refl;
})

module _ (w : World) (st : GhostState) (keeps : Invariant (w, st)) where
  module _ (name id seed : List ℕ) (sets : List Set) where
    abbrev p : Participant
    p = new_participant name (hss_opened (fresh_signer id seed sets) w.now)

    abbrev v : World
    v = record w { participants = w.participants ++ p ∷ []; met = met_by w.met p.agent.pending }

    -- what it has to publish: its opening record, and the head over it
    abbrev its : Post
    its = record_post (opening (own_key hss_signing (fresh_signer id seed sets)) w.now)

    abbrev head : Post
    head = head_post hss_signing (fresh_signer id seed sets) (own_entry (opening (own_key hss_signing (fresh_signer id seed sets)) w.now)).1

    grows : (b : List ℕ) → Contains w.met b → Contains v.met b
    grows b h = met_stays w.met (map (λ (o : Post). o.bytes) p.agent.pending) b h

    is_met : (post : Post) → Contains p.agent.pending post → Contains v.met post.bytes
    is_met post c = met_then w.met (map (λ (o : Post). o.bytes) p.agent.pending) post.bytes (into_map (λ (o : Post). o.bytes) p.agent.pending post c)

    posts_met : AllByRecursion (IsMetPost v.met) p.agent.pending
    posts_met = ((is_met its (here its (head ∷ [])), inr refl), ((is_met head (there its (head ∷ []) head (here head [])), inl refl), tt))

    module _ (r : ℕ) (ringed : w.replicas ≡ Some r) (new : is_some (participant w name) ≡ false) where
      is_new : participant w name ≡ None
      is_new = none_named (participant w name) new

      not_among : Contains (map (λ (o : Participant). o.name) w.participants) name → ⊥
      not_among c = let found = found_some (λ (o : Participant). o.name) w.participants name c in cc (sym is_new ∙ found.1)

      found_new : participant v name ≡ Some p
      found_new = found_after (λ (x : Participant). bytes_eq x.name name) w.participants (p ∷ []) is_new ∙ ap (λ b. cond b (Some p) None) ((bytes_eq-Decides name name).1 refl)

      names_apart : AreApart (map (λ (o : Participant). o.name) v.participants)
      names_apart = subst AreApart (sym (map-append (λ (o : Participant). o.name) w.participants (p ∷ []))) (apart_more (map (λ (o : Participant). o.name) w.participants) name keeps.apart not_among)

      published : Ended r name v (to_publish v p) None
      published = publishes_all v r p (serves_more w st r keeps ringed v.participants w.views v.met grows) names_apart found_new (ring_of (w, st) keeps ringed).1 posts_met

      begins : IsSeen w (λ su out. LogLine hss_judged (w, su) name id seed sets out)
      begins = (
        Goes published.world [],
        λ su fits. let runs = runs_out published.execution (with_new_participant (w, su) p).1 began_nothing in
            (Goes (published.world, runs.0) [], log_begins r p (published.world, runs.0) ringed new refl (configuration published.world runs.0 published.session began_nothing, runs.1, refl), refl),
      )

    pub log_line : IsSeen w (λ su out. LogLine hss_judged (w, su) name id seed sets out)
    log_line = by_test w.replicas refl (is_some (participant w name)) refl
      where
        by_test : (o : Option ℕ) → w.replicas ≡ o → (b : Bool) → is_some (participant w name) ≡ b → IsSeen w (λ su out. LogLine hss_judged (w, su) name id seed sets out)
        by_test None is b there = (Refuses, λ su fits. (Refuses, log_before_ring (ap is_some is), refl))
        by_test (Some r) is true there = (Refuses, λ su fits. (Refuses, log_known there, refl))
        by_test (Some r) is false new = begins r is new

  -- ---- view

  some_of_keys : (n : List ℕ) (names : List (List ℕ)) (keys : List PubKey) → keys_of w (n ∷ names) ≡ Some keys → (p : Participant) × Contains w.participants p
  some_of_keys n names keys is = by_test (participant w n) refl is
    where
      by_test : (o : Option Participant) → participant w n ≡ o → (o >>= λ p. keys_of w names >>= λ rest. Some (own_hss_key p.agent ∷ rest)) ≡ Some keys → (p : Participant) × Contains w.participants p
      by_test None e h = cc h
      by_test (Some p) e h = (p, (found_named w.participants n p e).0)

  module _ (name : List ℕ) where
    abbrev Viewed : Option (List PubKey) → Option (List PubKey) → Type 0
    Viewed members former = IsSeen w (λ su out. ViewLine hss_judged (w, su) name members former out)

    makes_view : (r : ℕ) → w.replicas ≡ Some r → (members former : List PubKey) → is_some (view_named w name) ≡ false → have_own_head_keys (members ++ former) ≡ true → is_too_large members former ≡ false → Viewed (Some members) (Some former)
    makes_view r ringed members former new own_keys few = (
      Goes put.next [],
      λ su fits. (
        Goes (put.next, record su { acked = su.acked ++ acked_view view put.puts.came }) [],
        view_makes members former r view put.next new own_keys few ringed refl put.puts,
        refl,
      ),
    )
      where
        view : View
        view = record { members = in_key_order members; former = in_key_order former }

        put : HasPut r (with_view w name view) (view_name view) (view_block view)
        put = put_whole (view_name view) (view_block view) r (with_view w name view) (serves_more w st r keeps ringed w.participants (with_view w name view).views (meets w.met (view_block view)) (meets_more w.met (view_block view))) (meets_it w.met (view_block view))

    new_view : (n : List ℕ) (names : List (List ℕ)) (members former : Option (List PubKey)) → keys_of w (n ∷ names) ≡ members → is_some (view_named w name) ≡ false → Viewed members former
    new_view n names None former is new = (Refuses, λ su fits. (Refuses, view_no_members, refl))
    new_view n names (Some members) None is new = (Refuses, λ su fits. (Refuses, view_no_former, refl))
    new_view n names (Some members) (Some former) is new = by_test (have_own_head_keys (members ++ former)) refl (is_too_large members former) refl
      where
        by_test : (a : Bool) → have_own_head_keys (members ++ former) ≡ a → (b : Bool) → is_too_large members former ≡ b → Viewed (Some members) (Some former)
        by_test false one b large = (Refuses, λ su fits. (Refuses, view_one_head_key members former one, refl))
        by_test true own_keys true large = (Exceeds, λ su fits. (Exceeds, view_exceeds members former new own_keys large, refl))
        by_test true own_keys false few = (let p = some_of_keys n names members is in let ring = some_participant w st keeps p.0 p.1 in makes_view ring.0 ring.1 members former new own_keys few)

    pub view_line : (n : List ℕ) (names : List (List ℕ)) (members former : Option (List PubKey)) → keys_of w (n ∷ names) ≡ members → Viewed members former
    view_line n names members former is = by_test (is_some (view_named w name)) refl
      where
        by_test : (b : Bool) → is_some (view_named w name) ≡ b → Viewed members former
        by_test true already = (Refuses, λ su fits. (Refuses, view_known already, refl))
        by_test false new = new_view n names members former is new

  -- ---- restart

  module _ (p : Participant) (is_p : participant w p.name ≡ Some p) (k : HssKept) (whole : IsHssKept k) (held : p.keeper.kept ≡ Some (hss_kept_bytes k)) where
    among : Contains w.participants p
    among = (found_named w.participants p.name p is_p).0

    signs : SignsOnce p k
    signs = so_of SignsOnce p k (each (IsKeptSo SignsOnce) w.participants p keeps.signs among) whole held

    abbrev q : Participant
    q = record (having_made (record p { agent = restored k }) k.pending) { cache = [] }

    owned : own_hss_key q.agent ≡ own_hss_key p.agent
    owned = λ i. record { 0 = hss_key_of (signs.same.0 i) (signs.same.1 i) (signs.same.2 i) }

    module _ (su : GhostState) (fits : Invariant (w, su)) where
      apart_then : IsCollisionFree (named_bytes (restarted w p k)) → IsCollisionFree (named_bytes w)
      apart_then apart =
          apart_before (w, su) fits p is_p q refl owned (met_by w.met k.pending) (λ b h. met_stays w.met (map (λ (o : Post). o.bytes) k.pending) b h) [] apart

      all_met : (b : List ℕ) → Contains (w.met ++ map (λ (o : Post). o.bytes) k.pending) b → Contains (met_by w.met k.pending) b
      all_met b h = ⊎_elim (λ c. met_stays w.met (map (λ (o : Post). o.bytes) k.pending) b c) (λ c. met_then w.met (map (λ (o : Post). o.bytes) k.pending) b c) (Contains-append_cases w.met (map (λ (o : Post). o.bytes) k.pending) b h)

      -- what the floor that was saved names
      known_again : (set : List Record) × IsKnownAgain (restarted w p k) k set
      known_again = by_names (clash_is_decided (named_bytes (restarted w p k)))
        where
          sound : IsCollisionFree (named_bytes (restarted w p k)) → IsSoundKeptIn w.met p (knowing_of su p.name) k k.view
          sound apart = so_of (λ o l. IsSoundKeptIn w.met o (knowing_of su o.name) l l.view) p k
              (each (IsKeptSo (λ o l. IsSoundKeptIn w.met o (knowing_of su o.name) l l.view)) w.participants p (fits.sound (apart_then apart)).keepers among) whole held

          some_is : (x y : View) → Some x ≡ Some y → x ≡ y
          some_is x y h = cc h

          by_view : (o : Option View) → k.view ≡ o → IsSoundKeptIn w.met p (knowing_of su p.name) k o → (set : List Record) × IsKnownAgain (restarted w p k) k set
          by_view None is h = ([], λ view e apart. cc (sym is ∙ e))
          by_view (Some kept_view) is h = (
            h.known,
            λ view e apart. (
              subst (λ (x : View). IsKnown x k.floor h.known) (some_is kept_view view (sym is ∙ e)) h.by_floor,
              more_stand (w.met ++ map (λ (o : Post). o.bytes) k.pending) (met_by w.met k.pending) all_met h.known h.stand,
            ),
          )

          by_names : IsCollisionFree (named_bytes (restarted w p k)) ⊎ HasClash (named_bytes (restarted w p k)) → (set : List Record) × IsKnownAgain (restarted w p k) k set
          by_names (inl apart) = by_view k.view refl (sound apart)
          by_names (inr clash) = ([], λ view is apart. absurd (clash.4 (apart clash.0 clash.1 clash.2 clash.3 clash.5)))

  pub restart_line : (name : List ℕ) (o : Option Participant) → participant w name ≡ o → IsSeen w (λ su out. RestartLine (w, su) o out)
  restart_line name None is = (Refuses, λ su fits. (Refuses, restart_nobody, refl))
  restart_line name (Some p) is = by_view p.agent.view refl
    where
      by_view : (o : Option View) → p.agent.view ≡ o → IsSeen w (λ su out. RestartLine (w, su) (Some p) out)
      by_view None outside = (Refuses, λ su fits. (Refuses, restart_outside p outside, refl))
      by_view (Some view) in_view =
          let found = found_named w.participants name p is in
          let kept = each (IsKeptSo IsSavedWell) w.participants p keeps.saved found.0 in
          let is_p : participant w p.name ≡ Some p = ap (participant w) found.1 ∙ is in (
            Goes (restarted w p kept.0) [],
            λ su fits. let set = known_again p is_p kept.0 kept.1 kept.2 su fits in
                (Goes (restarted w p kept.0, afresh_told (w, su) p.name set.0) [], restart_starts p view kept.0 set.0 in_view kept.1 kept.2 set.1, refl),
          )
