-- What holds over the blocks that were met holds over more of them, also of an agent that signs, knows and holds the same.
use Rattle.std.proofs.Common.{◌≡◌, inl, inr, ⊎_elim, ℕ, List, ◌++◌, map, Option, Some, None, Contains}
use Rattle.std.specs.Prelude.{IfSome}
use Rattle.std.specs.List.{AllByRecursion}
use Rattle.std.proofs.lemmas.List.Elements.{Contains-append_left, Contains-append_right, Contains-append_cases}
use Rattle.ring_model.proofs.Lists.{all_weaker}
use Rattle.ivy_base.specs.declared.key.Key.{Key}
use Rattle.ivy_base.specs.declared.key.PubKey.{PubKey}
use Rattle.log_model.specs.Record.{Record}
use Rattle.log_model.specs.Standing.{Stand, StandsAmong}
use Rattle.log_model.proofs.Standing.{stands_among_more}
use Rattle.log_model.specs.Vector.{Entry, Vector}
use Rattle.log_model.specs.View.{View}
use Rattle.snapshot_model.specs.Spelling.{snapshot_blocks}
use Rattle.turn_model.specs.Basis.{nothing_held}
use Rattle.turn_model.specs.Known.{IsBacked, IsUnderHead, IsVerified}
use Rattle.dht_ids.specs.declared.post.Post.{Post}
use Rattle.session_laws.specs.Loading.{IsSnapshotOf}
use Rattle.world_model.specs.Agents.{HssKept}
use Rattle.world_model.specs.World.{Participant}
use Rattle.world_model.specs.GhostState.{Knowing}
use Rattle.world_laws.specs.Invariant.{IsMetHead, IsMetPost, IsSoundIn, IsSoundKept, IsSoundKeptIn}
use Rattle.world_laws.specs.Frames.{Change, changed}

-- what is optional
pub some_weaker : {X : Type 0} (P Q : X → Type 0) (o : Option X) → ((x : X) → P x → Q x) → IfSome o P → IfSome o Q
some_weaker P Q None f h = tt
some_weaker P Q (Some x) f h = f x h

-- with others after them
pub grows_before : (met more : List (List ℕ)) → ((b : List ℕ) → Contains met b → Contains more b) → (others : List (List ℕ)) (b : List ℕ) → Contains (met ++ others) b → Contains (more ++ others) b
grows_before met more grows others b h =
    ⊎_elim (λ c. Contains-append_left more others b (grows b c)) (λ c. Contains-append_right more others b c) (Contains-append_cases met others b h)

module _ (met more : List (List ℕ)) (grows : (b : List ℕ) → Contains met b → Contains more b) where
  pub more_stand : (records : List Record) → Stand met records → Stand more records
  more_stand records h = all_weaker (StandsAmong met) (StandsAmong more) records (λ r s. stands_among_more met more r grows s) h

  more_under : (heads : List Entry) (r : Record) → IsUnderHead met heads r → IsUnderHead more heads r
  more_under heads r h = record {
    head = h.head;
    received = h.received;
    log = h.log;
    linked = h.linked;
    stand = more_stand h.log h.stand;
    of_log = h.of_log;
    ends = h.ends;
    below = h.below;
  }

  more_backed : (own : PubKey) (floor : Vector) (heads : List Entry) (r : Record) → IsBacked met own floor heads r → IsBacked more own floor heads r
  more_backed own floor heads r (inl by_floor) = inl by_floor
  more_backed own floor heads r (inr by_head) = inr (by_head.0, more_under heads r by_head.1)

  pub more_verified : (view : View) (own : PubKey) (floor : Vector) (heads : List Entry) (s : List Record) → IsVerified met view own floor heads s → IsVerified more view own floor heads s
  more_verified view own floor heads s h = record {
    chains = h.chains;
    backed = all_weaker (IsBacked met own floor heads) (IsBacked more own floor heads) s (more_backed own floor heads) h.backed;
  }

  pub more_snapshot : (view : View) (knew : List Record) (root : Key) → IsSnapshotOf met view knew root → IsSnapshotOf more view knew root
  more_snapshot view knew root h = record {
    made = h.made;
    spelled = h.spelled;
    named = h.named;
    blocks = all_weaker (Contains met) (Contains more) (snapshot_blocks view h.made) grows h.blocks;
    below = h.below;
    stands = h.stands;
    within = h.within;
  }

  pub more_posts : (posts : List Post) → AllByRecursion (IsMetPost met) posts → AllByRecursion (IsMetPost more) posts
  more_posts posts h = all_weaker (IsMetPost met) (IsMetPost more) posts (λ p m. (grows p.bytes m.0, m.1)) h

  pub more_heads : (heads : List Entry) → AllByRecursion (IsMetHead met) heads → AllByRecursion (IsMetHead more) heads
  more_heads heads h = all_weaker (IsMetHead met) (IsMetHead more) heads (λ e m. (m.0, m.1, grows m.0 m.2, m.3, m.4)) h

  -- ---- agents and keepers

  pub more_sound : (p : Participant) (d : Change) (k : Knowing) (o : Option View) → IsSoundIn met p k o → IsSoundIn more (changed p d) k o
  more_sound p d k None h = (h.0, h.1, h.2, stands_among_more met more h.0 grows h.3, h.4)
  more_sound p d k (Some view) h = record {
    knows = h.knows;
    stand = more_stand k.known h.stand;
    verified = more_verified view _ p.agent.floor k.received k.known h.verified;
    covers = h.covers;
  }

  pub more_to_load : (p : Participant) (known : List Record) (o : Option View) → IfSome o (λ view. IfSome p.agent.to_load (λ root. (p.agent.holding ≡ nothing_held) × IsSnapshotOf met view known root))
      → IfSome o (λ view. IfSome p.agent.to_load (λ root. (p.agent.holding ≡ nothing_held) × IsSnapshotOf more view known root))
  more_to_load p known o h = some_weaker _ _ o (λ view g. some_weaker _ _ p.agent.to_load (λ root i. (i.0, more_snapshot view known root i.1)) g) h

  pub more_snapshots : (p : Participant) (known : List Record) (o : Option View) → IfSome o (λ view. IfSome p.agent.snapshot (IsSnapshotOf met view known)) → IfSome o (λ view. IfSome p.agent.snapshot (IsSnapshotOf more view known))
  more_snapshots p known o h = some_weaker _ _ o (λ view g. some_weaker _ _ p.agent.snapshot (λ root i. more_snapshot view known root i) g) h

module _ (met more : List (List ℕ)) (grows : (b : List ℕ) → Contains met b → Contains more b) where
  more_kept : (p : Participant) (d : Change) (now : Knowing) (k : HssKept) (view : View) → IsSoundKept met p now k view → IsSoundKept more (changed p d) now k view
  more_kept p d now k view h = record {
    known = h.known;
    by_floor = h.by_floor;
    closed = h.closed;
    stand = more_stand (met ++ posts) (more ++ posts) both h.known h.stand;
    verified = more_verified (met ++ posts) (more ++ posts) both view _ k.floor now.received h.known h.verified;
    covers = h.covers;
    snapshot = some_weaker _ _ k.snapshot (λ root i. more_snapshot (met ++ posts) (more ++ posts) both view h.known root i) h.snapshot;
    goes_on = h.goes_on;
    heads = h.heads;
  }
    where
      posts : List (List ℕ)
      posts = map (λ (q : Post). q.bytes) k.pending

      both : (b : List ℕ) → Contains (met ++ posts) b → Contains (more ++ posts) b
      both = grows_before met more grows posts

  pub more_kept_in : (p : Participant) (d : Change) (now : Knowing) (k : HssKept) (o : Option View) → IsSoundKeptIn met p now k o → IsSoundKeptIn more (changed p d) now k o
  more_kept_in p d now k None h = (h.0, h.1, stands_among_more met more h.0 grows h.2, h.3, h.4, h.5)
  more_kept_in p d now k (Some view) h = more_kept p d now k view h
