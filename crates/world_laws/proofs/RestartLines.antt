-- An agent that starts again from what its keeper's bytes say leaves a world in which the invariant holds.
use Rattle.std.proofs.Common.{◌≡◌, inl, ⊎_elim, ℕ, List, [], ◌++◌, map, Option, Some, None, refl, sym, ap, ◌∙◌, subst, arith, Contains}
use Rattle.std.specs.Prelude.{IfSome, IsTrue, is_some}
use Rattle.std.specs.List.{AllByRecursion}
use Rattle.std.proofs.lemmas.List.{append-nil}
use Rattle.std.proofs.lemmas.List.Elements.{Contains-append_left, Contains-append_right, Contains-append_cases}
use Rattle.ivy_base.specs.Naming.{IsCollisionFree, head_key_of}
use Rattle.block_cache.proofs.Pairs.{empty_valid}
use Rattle.log_model.proofs.Lists.{each, each_from}
use Rattle.log_model.specs.Closed.{IsClosed, log_of}
use Rattle.log_model.specs.Rank.{front}
use Rattle.log_model.specs.Record.{Record}
use Rattle.log_model.specs.Standing.{Stand}
use Rattle.log_model.specs.Vector.{Dominates, seq_of}
use Rattle.log_model.specs.View.{View}
use Rattle.hash_signature_model.specs.Signer.{hss_key_of}
use Rattle.turn_model.specs.Known.{IsKnown, IsVerified}
use Rattle.dht_ids.specs.declared.post.Post.{Post}
use Rattle.agent_model.specs.Agent.{restored}
use Rattle.session_laws.specs.Loading.{IsSnapshotOf}
use Rattle.script_driver.specs.Run.{Outcome, Goes}
use Rattle.world_model.specs.Agents.{IsHssKept, HssKept, hss_kept_bytes, own_hss_key}
use Rattle.world_model.specs.World.{Participant, named_bytes, participant}
use Rattle.world_model.specs.GhostState.{knowing_of}
use Rattle.world_model.specs.Steps.{having_made, heads_by, met_by}
use Rattle.world_model.specs.Logs.{IsKnownAgain, Played, RestartLine, afresh_told, restarted}
use Rattle.world_model.specs.Logs.RestartLine.{nobody as restart_nobody, outside as restart_outside, starts as restart_starts}
use Rattle.world_laws.specs.Invariant.{AreSignedOnce, AreSound, IsKeptSo, IsMetPost, IsSavedWell, AreParticipants, EntersOwned, IsSoundIn, IsSoundKept, IsSoundKeptIn, Invariant, NamesOneOf, SignsOnce}
use Rattle.world_laws.specs.Frames.{RestartLinesKeep}
use Rattle.world_laws.proofs.Afresh.{IsFit, afresh_world, apart_before, keeps_afresh, knowing_afresh}
use Rattle.world_laws.proofs.Bringing.{found_named}
use Rattle.world_laws.proofs.Frames.{into_map}
use Rattle.world_laws.proofs.Lines.{ToSuch}
use Rattle.world_laws.proofs.MoreMet.{more_snapshot, more_stand, more_verified, some_weaker}
use Rattle.world_laws.proofs.OneKnown.{known_is_unique}
use Rattle.world_laws.proofs.SignedAmong.{fewer_signed_once, from_met, met_stays, met_then}
use Rattle.world_laws.proofs.SignedHeads.{so_of}

some_view : (a b : View) → Some a ≡ Some b → a ≡ b
some_view a b e = cc e

-- what holds of the first and of the others among them
module _ (w : Played) (keeps : Invariant w) (p : Participant) (is_p : participant w.0 p.name ≡ Some p) (view : View) (k : HssKept) (set : List Record) (in_view : p.agent.view ≡ Some view) (whole : IsHssKept k)
    (held : p.keeper.kept ≡ Some (hss_kept_bytes k)) (again : IsKnownAgain (restarted w.0 p k) k set) where
  abbrev q : Participant
  q = record (having_made (record p { agent = restored k }) k.pending) { cache = [] }

  abbrev met : List (List ℕ)
  met = met_by w.0.met k.pending

  abbrev posts : List (List ℕ)
  posts = map (λ (post : Post). post.bytes) k.pending

  among : Contains w.0.participants p
  among = (found_named w.0.participants p.name p is_p).0

  grows : (b : List ℕ) → Contains w.0.met b → Contains met b
  grows b h = met_stays w.0.met posts b h

  -- what was met, and what is to be published
  all_met : (b : List ℕ) → Contains (w.0.met ++ posts) b → Contains met b
  all_met b h = ⊎_elim (λ c. grows b c) (λ c. met_then w.0.met posts b c) (Contains-append_cases w.0.met posts b h)

  pending : AllByRecursion (IsMetPost met) k.pending
  pending = each_from (IsMetPost met) k.pending (λ post c. (
    met_then w.0.met posts post.bytes (into_map (λ (o : Post). o.bytes) k.pending post c),
    (each _ k.pending post whole.posts.each c).1,
  ))

  -- ---- heads

  signs : SignsOnce p k
  signs = so_of SignsOnce p k (each (IsKeptSo SignsOnce) w.0.participants p keeps.signs among) whole held

  owned : own_hss_key q.agent ≡ own_hss_key p.agent
  owned = λ i. record { 0 = hss_key_of (signs.same.0 i) (signs.same.1 i) (signs.same.2 i) }

  left_before : (b : List ℕ) → Contains q.left b → Contains (p.left ++ heads_by k.pending) b
  left_before b h = ⊎_elim (λ c. Contains-append_left p.left (heads_by k.pending) b c) (λ c. Contains-append_right p.left (heads_by k.pending) b c) (from_met p.left (heads_by k.pending) b h)

  both_before : (b : List ℕ) → Contains (q.left ++ heads_by k.pending) b → Contains (p.left ++ heads_by k.pending) b
  both_before b h = ⊎_elim (λ c. left_before b c) (λ c. Contains-append_right p.left (heads_by k.pending) b c) (Contains-append_cases q.left (heads_by k.pending) b h)

  reach : ℕ
  reach = seq_of k.floor (head_key_of (own_hss_key p.agent))

  signed : (less : List (List ℕ)) → ((b : List ℕ) → Contains less b → Contains (p.left ++ heads_by k.pending) b) → AreSignedOnce k.signer k.signer.made (seq_of k.floor (head_key_of (own_hss_key q.agent))) less
  signed less all = subst (λ o. AreSignedOnce k.signer k.signer.made (seq_of k.floor (head_key_of o)) less) (sym owned)
      (fewer_signed_once k.signer k.signer.made (seq_of k.floor (head_key_of (own_hss_key p.agent))) (p.left ++ heads_by k.pending) signs.kept less all)

  signs_then : SignsOnce q k
  signs_then = record {
    same = (refl, refl, refl);
    saved = omega arith;
    reaches = omega arith;
    left = signed q.left left_before;
    kept = signed (q.left ++ heads_by k.pending) both_before;
    pending = each_from (Contains q.left) (heads_by k.pending) (λ b c. met_then p.left (heads_by k.pending) b c);
  }

  -- ---- what is known again

  saved : IsSavedWell p k
  saved = so_of IsSavedWell p k (each (IsKeptSo IsSavedWell) w.0.participants p keeps.saved among) whole held

  kept_view_owned : IfSome k.view (AreParticipants w.0)
  kept_view_owned = so_of (λ o l. IfSome l.view (AreParticipants w.0)) p k (each (EntersOwned w.0) w.0.participants p keeps.entered among).keeper whole held

  module _ (apart : IsCollisionFree (named_bytes (restarted w.0 p k))) where
    old : AreSound w.0 w.1
    old = keeps.sound (apart_before w keeps p is_p q refl owned met grows set apart)

    kept_sound : IsSoundKeptIn w.0.met p (knowing_of w.1 p.name) k k.view
    kept_sound = so_of (λ o l. IsSoundKeptIn w.0.met o (knowing_of w.1 o.name) l l.view) p k (each (IsKeptSo (λ o l. IsSoundKeptIn w.0.met o (knowing_of w.1 o.name) l l.view)) w.0.participants p old.keepers among) whole held

    met_apart : IsCollisionFree met
    met_apart a b in_a in_b same = apart a b (Contains-append_left met _ a in_a) (Contains-append_left met _ b in_b) same

    module _ (kept_view : View) (viewed : k.view ≡ Some kept_view) (h : IsSoundKept w.0.met p (knowing_of w.1 p.name) k kept_view) where
      known_again : IsKnown kept_view k.floor set × Stand met set
      known_again = again kept_view viewed apart

      stands : Stand met h.known
      stands = more_stand (w.0.met ++ posts) met all_met h.known h.stand

      one : h.known ≡ set
      one = known_is_unique met kept_view k.floor h.known set met_apart h.by_floor known_again.0 stands known_again.1

      heads_so : (less : List (List ℕ)) → ((b : List ℕ) → Contains less b → Contains (p.left ++ heads_by k.pending) b) → AllByRecursion (NamesOneOf k.signer (log_of (own_hss_key q.agent) set)) less
      heads_so less all = each_from _ less (λ b c. subst (λ o. NamesOneOf k.signer (log_of o set) b) (sym owned) (subst (λ l. NamesOneOf k.signer (log_of (own_hss_key p.agent) l) b) one
          (each (NamesOneOf k.signer (log_of (own_hss_key p.agent) h.known)) (p.left ++ heads_by k.pending) b h.heads (all b c))))

      snapshot_then : IfSome k.snapshot (IsSnapshotOf met kept_view set)
      snapshot_then = subst (λ l. IfSome k.snapshot (IsSnapshotOf met kept_view l)) one (some_weaker _ _ k.snapshot (λ root s. more_snapshot (w.0.met ++ posts) met all_met kept_view h.known root s) h.snapshot)

      verified_then : IsVerified met kept_view (own_hss_key q.agent) k.floor (knowing_of w.1 p.name).received set
      verified_then = subst (λ o. IsVerified met kept_view o k.floor (knowing_of w.1 p.name).received set) (sym owned)
          (subst (λ l. IsVerified met kept_view (own_hss_key p.agent) k.floor (knowing_of w.1 p.name).received l) one (more_verified (w.0.met ++ posts) met all_met kept_view (own_hss_key p.agent) k.floor (knowing_of w.1 p.name).received h.known h.verified))

      agent_in : IsSoundIn met q (knowing_afresh w p set) (Some kept_view)
      agent_in = record {
        knows = record { by_floor = known_again.0; closed = subst (IsClosed kept_view) one h.closed; holds = inl refl };
        stand = known_again.1;
        verified = verified_then;
        covers = subst (λ l. Dominates k.floor (front l)) one h.covers;
      }

      keeper_in : IsSoundKeptIn met q (knowing_afresh w p set) k (Some kept_view)
      keeper_in = record {
        known = set;
        by_floor = known_again.0;
        closed = agent_in.knows.closed;
        stand = more_stand met (met ++ posts) (λ b c. Contains-append_left met posts b c) set known_again.1;
        verified = more_verified met (met ++ posts) (λ b c. Contains-append_left met posts b c) kept_view (own_hss_key q.agent) k.floor (knowing_of w.1 p.name).received set verified_then;
        covers = agent_in.covers;
        snapshot = some_weaker _ _ k.snapshot (λ root s. more_snapshot met (met ++ posts) (λ b c. Contains-append_left met posts b c) kept_view set root s) snapshot_then;
        goes_on = ([], sym (append-nil (log_of (own_hss_key q.agent) set)));
        heads = heads_so (q.left ++ heads_by k.pending) both_before;
      }

    -- a keeper whose agent entered a view has one
    by_view : (P : Option View → Type 0) → ((kept_view : View) → k.view ≡ Some kept_view → IsSoundKept w.0.met p (knowing_of w.1 p.name) k kept_view → P (Some kept_view)) → P k.view
    by_view P each_view = by k.view refl kept_sound (saved.entered (ap is_some in_view))
      where
        by : (o : Option View) → k.view ≡ o → IsSoundKeptIn w.0.met p (knowing_of w.1 p.name) k o → IsTrue (is_some o) → P o
        by None is h some = cc some
        by (Some kept_view) is h some = each_view kept_view is h

    agent : IsSoundIn met q (knowing_afresh w p set) q.agent.view
    agent = by_view (λ o. IsSoundIn met q (knowing_afresh w p set) o) agent_in

    keeper : IsSoundKeptIn met q (knowing_afresh w p set) k k.view
    keeper = by_view (λ o. IsSoundKeptIn met q (knowing_afresh w p set) k o) keeper_in

    snapshots : IfSome k.view (λ v. IfSome k.snapshot (IsSnapshotOf met v set))
    snapshots = by_view (λ o. IfSome o (λ v. IfSome k.snapshot (IsSnapshotOf met v set))) snapshot_then

  fit : IsFit w p q met set
  fit = record {
    named = refl;
    owned = owned;
    pending = pending;
    cached = (empty_valid, tt);
    signs = (k, whole, held, signs_then);
    saved = (k, whole, held, record { agent = whole; entered = λ h. h });
    entered = record { agent = kept_view_owned; keeper = (k, whole, held, kept_view_owned) };
    agent = agent;
    keeper = λ apart. (k, whole, held, keeper apart);
    to_load = λ apart. some_weaker _ _ k.view (λ v h. some_weaker _ _ k.snapshot (λ root s. (refl, s)) h) (snapshots apart);
    snapshots = snapshots;
  }

  restarts : Invariant (afresh_world w.0 p q met, afresh_told w p.name set)
  restarts = keeps_afresh w keeps p is_p q refl owned met grows set fit

restart_keeps : (w : Played) → Invariant w → (name : List ℕ) (o : Option Participant) → participant w.0 name ≡ o → (out : Outcome Played) → RestartLine w o out → ToSuch Invariant out
restart_keeps w keeps name _ is _ restart_nobody = tt
restart_keeps w keeps name _ is _ (restart_outside p out_of) = tt
restart_keeps w keeps name _ is _ (restart_starts p view k set in_view whole held again) =
    restarts w keeps p (ap (participant w.0) (found_named w.0.participants name p is).1 ∙ is) view k set in_view whole held again

pub restart_lines_keep : RestartLinesKeep
restart_lines_keep log w next output keeps does = restart_keeps w keeps log (participant w.0 log) refl (Goes next output) does
