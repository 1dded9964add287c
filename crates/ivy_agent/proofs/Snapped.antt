-- A snapshot that is made and saved.
use Rattle.std.proofs.Common.{◌≡◌, ◌-◌, arith, ◌<◌, ◌^◌, ℕ, Bool, true, false, cond, not, inr, List, [], ◌∷◌, ◌++◌, length, map, filter, Option, Some, None, Result, Ok, Err, refl, sym, ap, ◌∙◌, subst}
use Rattle.std.specs.Prelude.{IfSome, option_map, slice_get}
use Rattle.std.specs.List.{All, AllByRecursion, last_or}
use Rattle.std.proofs.lemmas.List.Elements.{All-contains}
use Rattle.ivy_base.specs.declared.key.Key.{Key}
use Rattle.wire_model.specs.Xdr.{IsAny}
use Rattle.tree_model.specs.Tree.{Tree}
use Rattle.log_model.specs.Rank.{Rank, rank}
use Rattle.log_model.specs.Spelling.{IsKey}
use Rattle.log_model.specs.Vector.{Vector}
use Rattle.log_model.specs.View.{View}
use Rattle.log_records.specs.Records.{record_of, records_of}
use Rattle.log_records.specs.declared.record.Record.{Record}
use Rattle.log_model.proofs.Lists.{each_append, each_from}
use Rattle.turn_model.specs.Basis.{Basis, Holding, kept_tree}
use Rattle.version_vectors.specs.Ranks.{rank_of}
use Rattle.version_vectors.specs.declared.rank.Rank as seen
use Rattle.dht_ids.specs.declared.post.Post.{Post}
use Rattle.replay_engine.specs.Engines.{Engine, holding}
use Rattle.snapshot_model.specs.Spelling.{root_name, snapshot_blocks}
use Rattle.snapshot_model.proofs.MadeLists.{is_key}
use Rattle.snapshot_store.specs.Puts.{basis_with}
use Rattle.agent_model.specs.Agent as model
use Rattle.log_model.specs.Signing.{Signing}
use Rattle.agent_model.specs.Agent.{Agent, failed, joined, kept_of}
use Rattle.agent_model.specs.Others.{basis_of, block_post, is_pending_block, snapped}
use Rattle.agent_model.specs.SavedBytes.{AreOpaque, ArePostsSpelled, HasItsName, IsKept, kept_bytes}
use Rattle.ivy_agent.specs.Holders.{Holder, IsSound, Stands, agent_of}
use Rattle.ivy_agent.specs.Saves.{Saves, saved_of}
use Rattle.ivy_agent.specs.Snapping.{IsSnapshot, SnapsAs, Snaps, kept_snapped, posts_of_new}
use Rattle.ivy_agent.specs.declared.saving.Kept.{Kept}
use Rattle.ivy_agent.specs.declared.snapping.Snapshot.{Snapshot}
use Rattle.ivy_agent.specs.declared.fault.SnapFault.{SnapFault}
use Rattle.ivy_agent.specs.declared.fault.SnapFault.TheVariants as fault

-- ---- what a snapshot is made of

last_rank : (o : Option Rank) (x : Record) (xs : List Record) (item : Record) → Some item ≡ slice_get (x ∷ xs) (length xs) → last_or o (map rank (records_of (x ∷ xs))) ≡ Some (rank (record_of item))
last_rank o x [] item is = ap (option_map (λ (r : Record). rank (record_of r))) (sym is)
last_rank o x (y ∷ ys) item is = last_rank (Some (rank (record_of x))) y ys item is

-- the rank of the newest record, where there is one
pub newest_rank : (o : Option Rank) (items : List Record) (item : Record) → Some item ≡ slice_get items (length items - 1) → last_or o (map rank (records_of items)) ≡ Some (rank (record_of item))
newest_rank o [] item is = let none : Some item ≡ None = is in cc none
newest_rank o (x ∷ xs) item is =
    let e : length (x ∷ xs) - 1 ≡ length xs = omega arith in
    last_rank o x xs item (is ∙ ap (slice_get (x ∷ xs)) e)

module _ (h : Holding) (front : Vector) (tide : Option seen.Rank) (tree : Tree) (front_is : front ≡ joined h) (tide_is : option_map rank_of tide ≡ last_or h.basis.tide (map rank h.held)) (tree_is : tree ≡ kept_tree h) where
  pub basis_is : basis_with front tide tree ≡ basis_of h
  basis_is = λ i. record { front = front_is i; tide = tide_is i; tree = tree_is i }

-- ---- its posts

abbrev IsPost : Post → Type 0
IsPost p = IsKey p.key × HasItsName p × AreOpaque p.bytes

each_block : (blocks : List (List ℕ)) → AllByRecursion (λ (p : Post). AreOpaque p.bytes) (map block_post blocks) → AllByRecursion IsPost (map block_post blocks)
each_block [] h = tt
each_block (b ∷ blocks) h = ((is_key b, inr refl, h.0), each_block blocks h.1)

module _ (pending : List Post) (blocks : List (List ℕ)) where
  abbrev new : List Post
  new = posts_of_new pending blocks

  posts_spelled : All (λ (p : Post). AreOpaque p.bytes) new → length (pending ++ new) < 2 ^ 32 → ArePostsSpelled pending → ArePostsSpelled (pending ++ new)
  posts_spelled counted few h = record {
    few = few;
    each = each_append IsPost pending new h.each
        (each_block (filter (λ b. not (is_pending_block pending b)) blocks) (each_from (λ (p : Post). AreOpaque p.bytes) new (λ p c. All-contains (λ (q : Post). AreOpaque q.bytes) new p counted c)));
  }

  pub is_snapshot : (view : View) (b basis : Basis) → b ≡ basis → (root : Key) (posts : List Post) → root ≡ root_name view b → blocks ≡ snapshot_blocks view b → posts ≡ pending ++ new → length posts < 2 ^ 32 → All (λ (p : Post). AreOpaque p.bytes) new
      → IsSnapshot view basis pending (record { root = root; posts = posts })
  is_snapshot view b basis is root posts root_is blocks_are posts_are few counted = subst (λ (x : Basis). IsSnapshot view x pending (record { root = root; posts = posts })) is (record {
    root = root_is;
    posts = posts_are ∙ ap (λ (l : List (List ℕ)). pending ++ posts_of_new pending l) blocks_are;
    spelled = λ h. subst ArePostsSpelled (sym posts_are) (posts_spelled counted (subst (λ (l : List Post). length l < 2 ^ 32) posts_are few) h);
  })

-- ---- how it ends

module _ {K S : Type 0} (signs : Signing S) (IsWhole : S → Type 0) (saves : K → List ℕ → Bool → K → Type 0) (view : View) (before : Holder K S) where
  abbrev then_snapped : Agent S
  then_snapped = snapped before.agent (root_name view (basis_of before.agent.holding)) (snapshot_blocks view (basis_of before.agent.holding))

  abbrev by_test : Bool → Bool → (Agent S × Bool) × Option (model.Kept S)
  by_test has_failed fails = cond has_failed ((before.agent, false), None) (cond fails (failed before.agent, false) (then_snapped, true), Some (kept_of then_snapped))

  as_told : (has_failed fails told : Bool) (a : Agent S) (saving : Option (model.Kept S)) (after : Holder K S) → before.agent.has_failed ≡ has_failed → by_test has_failed fails ≡ ((a, told), saving) → after.agent ≡ a
      → Saves saves before.keeper (option_map (kept_bytes signs) saving) fails after.keeper → IfSome saving (IsKept signs IsWhole) → SnapsAs signs IsWhole saves view before fails told after
  as_told has_failed fails told a saving after has by agent keeper kept =
      let is : by_test before.agent.has_failed fails ≡ ((a, told), saving) = ap (λ (b : Bool). by_test b fails) has ∙ by in
      record {
        told = sym (ap (λ (x : (Agent S × Bool) × Option (model.Kept S)). x.0.1) is);
        agent = agent ∙ sym (ap (λ (x : (Agent S × Bool) × Option (model.Kept S)). x.0.0) is);
        keeper = subst (λ (x : (Agent S × Bool) × Option (model.Kept S)). Saves saves before.keeper (option_map (kept_bytes signs) x.1) fails after.keeper) (sym is) keeper;
        kept = subst (λ (x : (Agent S × Bool) × Option (model.Kept S)). IfSome x.1 (IsKept signs IsWhole)) (sym is) kept;
      }

module _ {K S : Type 0} (signs : Signing S) (IsWhole : S → Type 0) (saves : K → List ℕ → Bool → K → Type 0) (before : Holder K S) where
  module _ (k : Kept S) (engine : Engine) (to_load : Option Key) (has_failed : Bool) (keeper : K) (is : record { agent = agent_of k engine to_load has_failed; keeper = keeper } ≡ before)
      (kept : IsKept signs IsAny (saved_of k)) (unfailed : has_failed ≡ false) (view : View) (in_view : k.view ≡ Some view) (s : Snapshot) (snap : IsSnapshot view (basis_of (holding engine)) k.pending s)
      (whole : IsWhole k.signer) where
    abbrev here : Holder K S
    here = record { agent = agent_of k engine to_load has_failed; keeper = keeper }

    then_is : agent_of (kept_snapped s k) engine to_load has_failed ≡ then_snapped signs IsWhole saves view here
    then_is = λ i. record {
      signer = k.signer;
      view = k.view;
      floor = k.floor;
      holding = holding engine;
      to_load = to_load;
      snapshot = Some (snap.root i);
      pending = snap.posts i;
      has_failed = has_failed;
    }

    may_be_saved : IsKept signs IsWhole (saved_of (kept_snapped s k))
    may_be_saved = record {
      signer = whole;
      some = kept.some;
      few = kept.few;
      floor = kept.floor;
      view = kept.view;
      posts = snap.spelled kept.posts;
      snapshot = subst IsKey (sym snap.root) (is_key _);
    }

    saving_is : IsKept signs IsWhole (kept_of (then_snapped signs IsWhole saves view here))
    saving_is = subst (λ (a : Agent S). IsKept signs IsWhole (kept_of a)) then_is may_be_saved

    save_is : (fails : Bool) (left : K) → saves keeper (kept_bytes signs (saved_of (kept_snapped s k))) fails left → saves keeper (kept_bytes signs (kept_of (then_snapped signs IsWhole saves view here))) fails left
    save_is fails left told = subst (λ (a : Agent S). saves keeper (kept_bytes signs (kept_of a)) fails left) then_is told

    -- in the view that the agent is in
    there : (result : Result Key SnapFault) (after : Holder K S) → Snaps signs IsWhole saves view here result after → IfSome before.agent.view (λ v. Snaps signs IsWhole saves v before result after)
    there result after h = subst (λ (x : Holder K S). IfSome x.agent.view (λ v. Snaps signs IsWhole saves v x result after)) is (subst (λ (o : Option View). IfSome o (λ v. Snaps signs IsWhole saves v here result after)) (sym in_view) h)

    pub snaps_made : (now : Kept S) (left : K) → now ≡ kept_snapped s k → saves keeper (kept_bytes signs (saved_of (kept_snapped s k))) false left
        → IfSome before.agent.view (λ v. Snaps signs IsWhole saves v before (Ok s.root) (record { agent = agent_of now engine to_load has_failed; keeper = left }))
    snaps_made now left now_is told = there (Ok s.root) (record { agent = agent_of now engine to_load has_failed; keeper = left }) (
      snap.root,
      false,
      as_told signs IsWhole saves view here false false true (then_snapped signs IsWhole saves view here) (Some (kept_of (then_snapped signs IsWhole saves view here)))
          (record { agent = agent_of now engine to_load has_failed; keeper = left }) unfailed refl (ap (λ (x : Kept S). agent_of x engine to_load has_failed) now_is ∙ then_is) (save_is false left told) saving_is,
    )

    pub snaps_lost : (now : Kept S) (left : K) → now ≡ k → saves keeper (kept_bytes signs (saved_of (kept_snapped s k))) true left
        → IfSome before.agent.view (λ v. Snaps signs IsWhole saves v before (Err fault.Keeper) (record { agent = agent_of now engine to_load true; keeper = left }))
    snaps_lost now left now_is told = there (Err fault.Keeper) (record { agent = agent_of now engine to_load true; keeper = left }) (
      true,
      as_told signs IsWhole saves view here false true false (failed here.agent) (Some (kept_of (then_snapped signs IsWhole saves view here)))
          (record { agent = agent_of now engine to_load true; keeper = left }) unfailed refl (ap (λ (x : Kept S). agent_of x engine to_load true) now_is) (save_is true left told) saving_is,
    )

-- what holds of it still
module _ {S : Type 0} (signs : Signing S) (k : Kept S) (engine : Engine) (to_load : Option Key) (front : Vector) (s : Snapshot) (view : View) (snap : IsSnapshot view (basis_of (holding engine)) k.pending s) where
  stands : (has_failed : Bool) (o : Option View) → Stands signs (agent_of k engine to_load has_failed) o → Stands signs (agent_of (kept_snapped s k) engine to_load has_failed) o
  stands has_failed None h = record { nothing = h.nothing }
  stands has_failed (Some v) h = record { closed = h.closed; bounds = h.bounds; base = h.base; front = h.front }

  pub sound_snapped : (has_failed : Bool) (now : Kept S) → now ≡ kept_snapped s k → IsSound signs (agent_of k engine to_load has_failed) k.log front → IsSound signs (agent_of now engine to_load has_failed) now.log front
  sound_snapped has_failed now now_is h = subst (λ (x : Kept S). IsSound signs (agent_of x engine to_load has_failed) x.log front) (sym now_is) (record {
    its_log = h.its_log;
    its_front = h.its_front;
    kept = record {
      signer = tt;
      some = h.kept.some;
      few = h.kept.few;
      floor = h.kept.floor;
      view = h.kept.view;
      posts = snap.spelled h.kept.posts;
      snapshot = subst IsKey (sym snap.root) (is_key _);
    };
    stands = stands has_failed k.view h.stands;
  })
