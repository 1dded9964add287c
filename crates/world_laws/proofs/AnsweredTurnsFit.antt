-- The participant after a turn that was answered: the invariant holds of it, by what was written and what became of the save.
use Rattle.std.proofs.Common.{◌≡◌, inr, ℕ, ◌+◌, ◌≤◌, ◌<◌, Bool, true, List, [], ◌∷◌, ◌++◌, length, map, fold, Some, None, refl, sym, ap, ◌∙◌, subst, arith, Contains}
use Rattle.std.specs.Prelude.{IfSome, IsTrue, is_some}
use Rattle.std.specs.List.{AllByRecursion}
use Rattle.std.proofs.lemmas.List.{append-nil, map-append}
use Rattle.std.proofs.lemmas.List.Sums.{fold-append}
use Rattle.std.proofs.lemmas.List.Elements.{Contains-append_left, Contains-append_right}
use Rattle.ring_model.proofs.Lists.{all_weaker}
use Rattle.ivy_base.specs.declared.key.Key.{Key}
use Rattle.ivy_base.specs.Naming.{IsCollisionFree, head_key_of}
use Rattle.log_model.specs.Chain.{IsGood}
use Rattle.log_model.specs.Closed.{log_of}
use Rattle.log_model.specs.Rank.{full_vector, own_entry}
use Rattle.log_model.specs.Record.{Record}
use Rattle.log_model.specs.Spelling.{most_records, record_block}
use Rattle.log_model.specs.Standing.{StandsAmong}
use Rattle.log_records.proofs.Standing.{stands_where_met}
use Rattle.log_model.specs.Vector.{Vector, join, seq_of}
use Rattle.log_model.specs.View.{View}
use Rattle.log_model.proofs.Lists.{each, each_from, here}
use Rattle.nfs_model.specs.declared.replies.Reply.{Reply}
use Rattle.turn_model.specs.Basis.{Holding}
use Rattle.turn_model.specs.Turn.{Asked, Turned}
use Rattle.dht_ids.specs.declared.post.Post.{Post}
use Rattle.agent_model.specs.Agent.{head_post, joined, kept_of, record_post, with_posts}
use Rattle.agent_model.specs.Standing.{Refresh, going_on}
use Rattle.agent_model.specs.Turning.{IsByDefinition, MayTake, MayWrite, with_held}
use Rattle.session_laws.specs.Loading.{IsSnapshotOf}
use Rattle.session_model.specs.Executions.{HasRefreshed}
use Rattle.session_model.specs.Refreshing.{Note}
use Rattle.session_model.specs.Replies.{Asks}
use Rattle.world_model.specs.Agents.{HssAgent, IsHssKept, IsHssTurnIn, HssKept, hss_signing, hss_kept_bytes, own_hss_key, own_reach}
use Rattle.world_model.specs.Keepers.{Keeper}
use Rattle.world_model.specs.World.{Participant, named_bytes, participant}
use Rattle.world_model.specs.GhostState.{Knowing, knowing_of, known_of}
use Rattle.world_model.specs.Steps.{Configuration, met_by, turning_of}
use Rattle.world_laws.specs.Invariant.{AreParticipants, IsInHand, IsKeptSo, IsMetPost, IsSoundIn, IsSoundKeptIn, Invariant, SignsOnce}
use Rattle.world_laws.proofs.Frames.{into_map}
use Rattle.world_laws.proofs.MoreMet.{more_posts, more_snapshot, some_weaker}
use Rattle.agent_laws.proofs.Floors.{IsSpelledIn, joined_first, joined_no_more, joined_second, records_no_more, records_reach, records_spelled}
use Rattle.world_laws.proofs.TurnsKept.{after_of, log_with_own, new_kept_sound, stays_sound, still_kept_in}
use Rattle.world_laws.proofs.TurnsKnown.{KnowsThen, knows_more, same_own_log, taken, taken_known, written_known}
use Rattle.world_laws.proofs.TurnsConfiguration.{agent_owned, anyway, heads_now, in_view, is_found, kept_sound, kept_viewed_now, keeper_owned, met_grows, of_view, pending_met, post_met, saved, snapshot_now, snapshots_now, so}
use Rattle.world_laws.proofs.TurnsSigning.{kept_still, kept_then, left_before, lost_kept, lost_signs, new_kept, next_each, next_last, still_signs, turned_to, wrote_signs}
use Rattle.world_laws.proofs.TurnsWorld.{FitsTurn, knowing_then}

-- what is held goes as far as it did, with the records that it has more
joined_more : (h : Holding) (written : List Record) → joined (with_held h written) ≡ fold join (joined h) (map full_vector written)
joined_more h written = ap (fold join h.basis.front) (map-append full_vector h.held written) ∙ fold-append join h.basis.front (map full_vector h.held) (map full_vector written)

module _ (c : Configuration) (r : ℕ) (p : Participant) (keeps : Invariant (c.world, c.ghost_state)) (hand : IsInHand c r) (is_p : participant c.world c.session.by ≡ Some p) where
  abbrev a : HssAgent
  a = p.agent

  abbrev its_view : View
  its_view = c.session.standing.view

  abbrev its : Knowing
  its = knowing_of c.ghost_state p.name

  -- ---- in any case

  module _ (made : ℕ) (h : Holding) (posts : List Post) (failed : Bool) (keeper : Keeper) (work : ℕ) (set : List Record) where
    abbrev pub after : HssAgent
    after = after_of p.agent made (join p.agent.floor (joined h)) h None posts failed

    abbrev pub q : Participant
    q = turned_to p (after_of p.agent made (join p.agent.floor (joined h)) h None posts failed) keeper work

    abbrev pub met : List (List ℕ)
    met = met_by c.world.met posts

    abbrev pub Knows : Type 0
    Knows = KnowsThen c.session.standing.view (own_hss_key p.agent) p.agent.floor (knowing_of c.ghost_state p.name).received (knowing_of c.ghost_state p.name).known (met_by c.world.met posts) h set

    module _ (basis : Refresh) (basis_is : h.basis ≡ (going_on p.agent basis.basis).basis) (knows : IsCollisionFree (named_bytes c.world) → Knows) (l : HssKept) (whole : IsHssKept l) (held : keeper.kept ≡ Some (hss_kept_bytes l))
        (viewed : IsTrue (is_some l.view)) (owned : IfSome l.view (AreParticipants c.world)) (signs : SignsOnce q l) (may_be : IsHssKept (kept_of after)) (pending : AllByRecursion (IsMetPost met) posts)
        (keeps_so : IsCollisionFree (named_bytes c.world) → IsSoundKeptIn met q (knowing_then (c.world, c.ghost_state) p set) l l.view) where
      pub fits : FitsTurn (c.world, c.ghost_state) p q met set
      fits = record {
        named = refl;
        owned = refl;
        in_view = refl;
        pending = pending;
        cached = refl;
        signs = (l, whole, held, signs);
        saved = (l, whole, held, record { agent = may_be; entered = λ some. viewed });
        entered = record { agent = agent_owned c r p keeps hand is_p; keeper = (l, whole, held, owned) };
        agent = λ apart. let n = knows apart in subst (IsSoundIn met q (knowing_then (c.world, c.ghost_state) p set)) (sym (in_view c r p keeps hand is_p)) (record {
          knows = record { by_floor = n.by_floor; closed = n.closed; holds = inr n.holds };
          stand = n.stand;
          verified = n.verified;
          covers = n.covers;
        });
        keeper = λ apart. (l, whole, held, keeps_so apart);
        to_load = λ apart. anyway p.agent.view;
        snapshots = λ apart. some_weaker _ _ p.agent.view (λ v g. some_weaker _ _ p.agent.snapshot (λ root i. within v (knows apart) (more_snapshot c.world.met met (met_grows c.world.met posts) v its.known root i)) g) (snapshots_now c r p keeps hand is_p apart);
        sessions = λ apart s b sound by_is viewed_so.
            stays_sound c.world c.ghost_state p (is_found c r p keeps hand is_p) its_view (in_view c r p keeps hand is_p) basis.basis met h set (knows apart) basis_is made posts failed s b sound by_is viewed_so;
      }
        where
          within : (v : View) {root : Key} → Knows → IsSnapshotOf met v its.known root → IsSnapshotOf met v set root
          within v n i = record { made = i.made; spelled = i.spelled; named = i.named; blocks = i.blocks; below = i.below; stands = i.stands; within = λ x among. n.more x (i.within x among) }

  -- ---- a turn that was answered

  module _ (notes : List Note) (given : Refresh) (xid : ℕ) (asked : Asked) (reply : Reply) (done : HasRefreshed c.session notes given) (asks : Asks c.session.standing.view c.session.message xid asked) (work : ℕ)
      (h : Holding) (basis_is : h.basis ≡ (going_on p.agent given.basis).basis) (may : MayTake hss_signing c.session.standing.view p.agent h) (turned : Turned)
      (is_turn : IsCollisionFree (named_bytes c.world) → IsHssTurnIn (named_bytes c.world) (turning_of c.world p c.session.standing.view) c.session c.began.knew (known_of c.ghost_state p.name) turned) where
    spelled : IsSpelledIn its_view (joined h)
    spelled = record { spelled = may.spelled; named = may.named }

    few : seq_of (joined h) (head_key_of (own_hss_key a)) ≤ most_records
    few = let low = may.own_log in let high = (saved c r p keeps hand is_p).agent.few in omega (arith, low, high)

    same_reach : seq_of (join a.floor (joined h)) (head_key_of (own_hss_key a)) ≡ own_reach a
    same_reach =
        let first = joined_first (head_key_of (own_hss_key a)) a.floor (joined h) may.spelled.in_order in
        let no_more = joined_no_more (head_key_of (own_hss_key a)) a.floor (joined h) may.spelled.in_order (own_reach a) (omega arith) may.own_log in
        omega (arith, first, no_more)

    still_whole : IsHssKept (kept_of (after a.signer.made h a.pending a.has_failed p.keeper work turned.set))
    still_whole = kept_still a its_view (in_view c r p keeps hand is_p) (saved c r p keeps hand is_p).agent (joined h) spelled few

    still_pending : AllByRecursion (IsMetPost (met_by c.world.met a.pending)) a.pending
    still_pending = more_posts c.world.met (met_by c.world.met a.pending) (met_grows c.world.met a.pending) a.pending (pending_met c r p keeps hand is_p)

    -- nothing new is saved
    module _ (written : List Record) (by_definition : IsByDefinition hss_signing given (turning_of c.world p c.session.standing.view) asked h written reply)
        (set_is : (apart : IsCollisionFree (named_bytes c.world)) → turned.set ≡ taken c r p keeps hand is_p notes given xid asked reply done asks h written by_definition turned apart (is_turn apart)) where
      pub still_knows : IsCollisionFree (named_bytes c.world) → Knows a.signer.made h a.pending a.has_failed p.keeper work turned.set
      still_knows apart = subst (λ set. KnowsThen its_view (own_hss_key a) a.floor its.received its.known (met_by c.world.met a.pending) h set) (sym (set_is apart))
          (knows_more (met_by c.world.met a.pending) (met_grows c.world.met a.pending) (taken_known c r p keeps hand is_p notes given xid asked reply done asks h written by_definition turned apart (is_turn apart)))

      still_log : (apart : IsCollisionFree (named_bytes c.world)) → log_of (own_hss_key a) turned.set ≡ log_of (own_hss_key a) its.known
      still_log apart = ap (log_of (own_hss_key a)) (set_is apart) ∙ same_own_log c r p keeps hand is_p notes given xid asked reply done asks h written by_definition turned apart (is_turn apart)

      pub still_fits : (failed : Bool) (keeper : Keeper) → keeper.kept ≡ p.keeper.kept
          → FitsTurn (c.world, c.ghost_state) p (q a.signer.made h a.pending failed keeper work turned.set) (met_by c.world.met a.pending) turned.set
      still_fits failed keeper held =
          let kept_so = so c r p keeps hand is_p in
          fits a.signer.made h a.pending failed keeper work turned.set given basis_is still_knows kept_so.0 kept_so.1 (held ∙ kept_so.2) (kept_viewed_now c r p keeps hand is_p) (keeper_owned c r p keeps hand is_p)
          (still_signs p kept_so.0 kept_so.3 (join a.floor (joined h)) h None failed keeper work same_reach) still_whole still_pending
          (λ apart. still_kept_in p kept_so.0 (saved c r p keeps hand is_p) its_view (in_view c r p keeps hand is_p) its c.world.met (met_by c.world.met a.pending) (met_grows c.world.met a.pending) a.signer.made
          (join a.floor (joined h)) h None a.pending failed keeper work turned.set (still_log apart) (left_before p kept_so.0 kept_so.3) (kept_sound c r p keeps hand is_p apart))

    -- records were written
    module _ (before : List Record) (last : Record) (may_write : MayWrite hss_signing c.session.standing.view p.agent before last)
        (by_definition : IsByDefinition hss_signing given (turning_of c.world p c.session.standing.view) asked h (before ++ last ∷ []) reply) where
      abbrev written : List Record
      written = before ++ last ∷ []

      abbrev pub more : Holding
      more = with_held h (before ++ last ∷ [])

      abbrev pub posts : List Post
      posts = with_posts p.agent.pending (before ++ last ∷ []) (head_post hss_signing p.agent.signer (own_entry last).1)

      abbrev pub saving : HssKept
      saving = kept_of (after (p.agent.signer.made + 1) more posts p.agent.has_failed p.keeper work turned.set)

      last_at : last.seq ≡ own_reach a + length written
      last_at = next_last (own_reach a) before last may_write.next

      some : 1 ≤ length written
      some = one_at_least before
        where
          one_at_least : (rs : List Record) → 1 ≤ length (rs ++ last ∷ [])
          one_at_least [] = omega arith
          one_at_least (x ∷ rs) = omega arith

      ahead : own_reach a < last.seq
      ahead = omega (arith, last_at, some)

      no_more : AllByRecursion (λ x. x.seq ≤ last.seq) written
      no_more = all_weaker (λ (x : Record). x.seq ≤ own_reach a + length written) (λ (x : Record). x.seq ≤ last.seq) written (λ x le. omega (arith, le, last_at)) (next_each (own_reach a) written may_write.next)

      is_last : Contains written last
      is_last = Contains-append_right before (last ∷ []) last (here last [])

      pub all_owned : AllByRecursion (λ x. x.owner ≡ own_hss_key a) written
      all_owned = all_weaker (IsGood its_view (own_hss_key a)) (λ (x : Record). x.owner ≡ own_hss_key a) written (λ x good. good.owned) may_write.good

      more_is : joined more ≡ fold join (joined h) (map full_vector written)
      more_is = joined_more h written

      more_spelled : IsSpelledIn its_view (joined more)
      more_spelled = subst (IsSpelledIn its_view) (sym more_is) (records_spelled its_view (of_view c r p keeps hand is_p).0 (own_hss_key a) (of_view c r p keeps hand is_p).2 (joined h) written spelled may_write.good)

      more_few : seq_of (joined more) (head_key_of (own_hss_key a)) ≤ last.seq
      more_few = subst (λ (v : Vector). seq_of v (head_key_of (own_hss_key a)) ≤ last.seq) (sym more_is)
          (records_no_more its_view (of_view c r p keeps hand is_p).0 (own_hss_key a) (of_view c r p keeps hand is_p).2 last.seq (joined h) written (let low = may.own_log in omega (arith, low, ahead)) may_write.good no_more)

      more_far : last.seq ≤ seq_of (joined more) (head_key_of (own_hss_key a))
      more_far = subst (λ (v : Vector). last.seq ≤ seq_of v (head_key_of (own_hss_key a))) (sym more_is)
          (records_reach its_view (of_view c r p keeps hand is_p).0 (own_hss_key a) (of_view c r p keeps hand is_p).2 (joined h) written last is_last (each (IsGood its_view (own_hss_key a)) written last may_write.good is_last))

      reached : seq_of (join a.floor (joined more)) (head_key_of (own_hss_key a)) ≡ last.seq
      reached =
          let second = joined_second (head_key_of (own_hss_key a)) a.floor (joined more) more_spelled.spelled.in_order in
          let bounded = joined_no_more (head_key_of (own_hss_key a)) a.floor (joined more) more_spelled.spelled.in_order last.seq (omega (arith, ahead)) more_few in
          omega (arith, second, bounded, more_far)

      whole : IsHssKept saving
      whole = kept_then a its_view (in_view c r p keeps hand is_p) (saved c r p keeps hand is_p).agent (joined more) more_spelled
          (let bound = may_write.few in omega (arith, more_few, last_at, bound)) (a.signer.made + 1) (let left = may_write.is_left in omega (arith, left)) posts may_write.posts

      met_posts : AllByRecursion (IsMetPost (met_by c.world.met posts)) posts
      met_posts = each_from (IsMetPost (met_by c.world.met posts)) posts (λ post among. (post_met c.world.met posts post among, (each _ posts post may_write.posts.each among).1))

      is_post : (x : Record) → Contains written x → Contains posts (record_post x)
      is_post x among = Contains-append_left _ (head_post hss_signing a.signer (own_entry last).1 ∷ []) (record_post x) (Contains-append_right _ (map record_post written) (record_post x) (into_map record_post written x among))

      viewed : IsTrue (is_some saving.view)
      viewed = ap is_some (in_view c r p keeps hand is_p)

      abbrev pub all_of : (apart : IsCollisionFree (named_bytes c.world)) → List Record
      all_of apart = taken c r p keeps hand is_p notes given xid asked reply done asks h written by_definition turned apart (is_turn apart) ++ written

      -- and saved
      module _ (set_is : (apart : IsCollisionFree (named_bytes c.world)) → turned.set ≡ all_of apart) where
        pub saved_knows : IsCollisionFree (named_bytes c.world) → Knows (p.agent.signer.made + 1) more posts a.has_failed p.keeper work turned.set
        saved_knows apart = subst (λ set. KnowsThen its_view (own_hss_key a) a.floor its.received its.known (met_by c.world.met posts) more set) (sym (set_is apart))
            (written_known c r p keeps hand is_p notes given xid asked reply done asks h written by_definition turned apart (is_turn apart) all_owned (met_by c.world.met posts) (met_grows c.world.met posts)
            (each_from (StandsAmong (met_by c.world.met posts)) written (λ x among. post_met c.world.met posts (record_post x) (is_post x among))))

        pub saved_fits : (keeper : Keeper) → keeper.kept ≡ Some (hss_kept_bytes saving)
            → FitsTurn (c.world, c.ghost_state) p (q (p.agent.signer.made + 1) more posts a.has_failed keeper work turned.set) (met_by c.world.met posts) turned.set
        saved_fits keeper held =
            fits (a.signer.made + 1) more posts a.has_failed keeper work turned.set given basis_is saved_knows saving whole held viewed (agent_owned c r p keeps hand is_p)
            (wrote_signs p kept_so.0 kept_so.3 (join a.floor (joined more)) more before last ahead reached keeper work) whole met_posts
            (λ apart. subst (λ o. IsSoundKeptIn (met_by c.world.met posts) then_it (knowing_then (c.world, c.ghost_state) p turned.set) saving o) (sym (in_view c r p keeps hand is_p))
            (new_kept_sound p its_view its c.world.met (met_by c.world.met posts) (met_grows c.world.met posts) (snapshot_now c r p keeps hand is_p apart) (heads_now c r p keeps hand is_p apart) (a.signer.made + 1) more posts
            turned.set written last is_last (each (λ (x : Record). x.owner ≡ own_hss_key a) written last all_owned is_last)
            (λ x among. subst (λ set. Contains set x) (sym (set_is apart)) (Contains-append_right _ written x among)) then_it refl
            (knows_more _ (λ b among. Contains-append_left (met_by c.world.met posts) (map (λ (post : Post). post.bytes) posts) b among) (saved_knows apart))
            (new_kept p kept_so.0 kept_so.3 (join a.floor (joined more)) more before last ahead reached) turned.set [] (sym (append-nil (log_of (own_hss_key a) turned.set)))))
          where
            kept_so : IsKeptSo SignsOnce p
            kept_so = so c r p keeps hand is_p

            then_it : Participant
            then_it = q (a.signer.made + 1) more posts a.has_failed keeper work turned.set

      -- or lost, and the keeper has the new bytes
      module _ (set_is : (apart : IsCollisionFree (named_bytes c.world)) → turned.set ≡ taken c r p keeps hand is_p notes given xid asked reply done asks h written by_definition turned apart (is_turn apart)) where
        pub lost_fits : (keeper : Keeper) → keeper.kept ≡ Some (hss_kept_bytes saving)
            → FitsTurn (c.world, c.ghost_state) p (q a.signer.made h a.pending true keeper work turned.set) (met_by c.world.met a.pending) turned.set
        lost_fits keeper held =
            fits a.signer.made h a.pending true keeper work turned.set given basis_is (still_knows written by_definition set_is) saving whole held viewed (agent_owned c r p keeps hand is_p)
            (lost_signs p kept_so.0 kept_so.3 (join a.floor (joined more)) more before last ahead reached (join a.floor (joined h)) h keeper work same_reach) still_whole still_pending
            (λ apart. subst (λ o. IsSoundKeptIn (met_by c.world.met a.pending) then_it (knowing_then (c.world, c.ghost_state) p turned.set) saving o) (sym (in_view c r p keeps hand is_p))
            (new_kept_sound p its_view its c.world.met (met_by c.world.met a.pending) (met_grows c.world.met a.pending) (snapshot_now c r p keeps hand is_p apart) (heads_now c r p keeps hand is_p apart) (a.signer.made + 1) more posts
            (all_of apart) written last is_last (each (λ (x : Record). x.owner ≡ own_hss_key a) written last all_owned is_last) (λ x among. Contains-append_right _ written x among) then_it refl
            (written_known c r p keeps hand is_p notes given xid asked reply done asks h written by_definition turned apart (is_turn apart) all_owned (met_by c.world.met a.pending ++ map (λ (post : Post). post.bytes) posts)
            (λ b among. Contains-append_left (met_by c.world.met a.pending) _ b (met_grows c.world.met a.pending b among))
            (each_from (StandsAmong (met_by c.world.met a.pending ++ map (λ (post : Post). post.bytes) posts)) written
            (λ x among. stands_where_met (met_by c.world.met a.pending ++ map (λ (post : Post). post.bytes) posts) x
            (Contains-append_right (met_by c.world.met a.pending) _ (record_block x) (into_map (λ (post : Post). post.bytes) posts (record_post x) (is_post x among))))))
            (lost_kept p kept_so.0 kept_so.3 (join a.floor (joined more)) more before last ahead reached) turned.set written
            (log_with_own (own_hss_key a) _ written all_owned ∙ ap (λ l. l ++ written) (ap (log_of (own_hss_key a)) (sym (set_is apart))))))
          where
            kept_so : IsKeptSo SignsOnce p
            kept_so = so c r p keeps hand is_p

            then_it : Participant
            then_it = q a.signer.made h a.pending true keeper work turned.set
