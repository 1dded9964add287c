-- The line that makes a snapshot leaves a world in which the invariant holds.
use Rattle.std.proofs.Common.{◌≡◌, ⊎_elim, inr, ℕ, Bool, true, false, not, ◌&&◌, List, [], ◌++◌, map, filter, Option, Some, None, refl, sym, ap, ◌∙◌, subst, arith, Contains}
use Rattle.std.specs.Prelude.{IfSome, IsTrue, is_some, if◌then◌else◌}
use Rattle.std.specs.List.{AllByRecursion}
use Rattle.std.specs.Str.{bytes_eq}
use Rattle.std.proofs.lemmas.Slice.Eq.{bytes_eq-Decides}
use Rattle.tree_model.proofs.Sound.{both_true}
use Rattle.std.proofs.lemmas.List.{append-nil}
use Rattle.std.proofs.lemmas.List.Elements.{Contains-append_cases, Contains-append_left, Contains-append_right}
use Rattle.ivy_base.specs.declared.key.Key.{Key}
use Rattle.ivy_base.specs.Naming.{IsCollisionFree}
use Rattle.ivy_io.specs.Keepers as memory
use Rattle.dhash_model.specs.Signed.{hss_judged}
use Rattle.log_model.specs.Closed.{log_of}
use Rattle.log_model.specs.Record.{Record}
use Rattle.log_model.specs.View.{View, IsView, is_named}
use Rattle.log_model.specs.Vector.{Dominates}
use Rattle.log_model.proofs.Lists.{each, each_from, from_filter, in_filter, in_nothing, who_passes}
use Rattle.log_model.specs.ViewKeys.{HasKeys}
use Rattle.turn_model.specs.Basis.{Holding, fresh_basis, nothing_held}
use Rattle.dht_ids.specs.declared.post.Post.{Post}
use Rattle.snapshot_model.specs.Spelling.{root_name, snapshot_blocks, snapshot_of}
use Rattle.snapshot_model.proofs.MadeLists.{is_key}
use Rattle.agent_model.specs.Agent.{failed, is_head, kept_of}
use Rattle.agent_model.specs.Others.{basis_of, block_post, is_block, is_pending_block, snapped}
use Rattle.agent_model.specs.SavedBytes.{ArePostsSpelled, HasItsName}
use Rattle.session_model.specs.Sessions.{Session}
use Rattle.session_laws.specs.Loading.{IsSnapshotOf}
use Rattle.script_driver.specs.Run.{Goes, Outcome}
use Rattle.world_model.specs.Agents.{HssAgent, IsHssKept, HssKept, hss_kept_bytes, own_hss_key, own_reach}
use Rattle.world_model.specs.Keepers.{Keeper, asked_to_save}
use Rattle.world_model.specs.World.{World, Participant, named_bytes, participant, with_participant}
use Rattle.world_model.specs.GhostState.{Began, Knowing, knowing_of, known_of}
use Rattle.world_model.specs.Steps.{heads_by, met_by}
use Rattle.world_model.specs.Logs.{Played, Publishes, SnapLine}
use Rattle.world_model.specs.Logs.SnapLine.{cannot as snap_cannot, fails as snap_fails, makes as snap_makes, nobody as snap_nobody, outside as snap_outside}
use Rattle.world_laws.specs.Invariant.{AreParticipants, AreSignedOnce, AreSound, EntersOwned, IsKeptSo, IsMetPost, IsSavedWell, IsSound, IsSoundIn, IsSoundKept, IsSoundKeptIn, IsSoundSession, Invariant, KeepsUp, NamesOneOf, SignsOnce}
use Rattle.world_laws.specs.Invariant.KeepsUp.{dropped, grown, still}
use Rattle.world_laws.specs.Frames.{unchanged}
use Rattle.world_laws.specs.Laws.{SnapLinesKeep, SnapshotsKeep}
use Rattle.world_laws.proofs.Bringing.{found_named, some_same}
use Rattle.world_laws.proofs.Frames.{found_placed, into_map, participant_keeps, placed_itself}
use Rattle.world_laws.proofs.Lines.{ToSuch}
use Rattle.world_laws.proofs.MoreMet.{more_stand, more_to_load, more_verified}
use Rattle.world_laws.proofs.OtherBytes.{other_bytes_keep}
use Rattle.world_laws.proofs.SignedAmong.{fewer_signed_once, met_stays, met_then}
use Rattle.world_laws.proofs.SignedHeads.{from_map, so_of}
use Rattle.world_laws.proofs.SnapSpelled.{held_is_spelled, holding_stands}
use Rattle.world_laws.proofs.TurnsKept.{heads_known}
use Rattle.world_laws.proofs.TurnsSigning.{left_once}
use Rattle.world_laws.proofs.TurnsWorld.{FitsTurn, StaysSound, ToldThen, keeps_then, knowing_then}
use Rattle.world_laws.proofs.WholePublishing.{whole_publishing_keeps}

-- ---- posts of blocks

-- a post of a block is no head
no_head : (post : Post) (b : List ℕ) → post ≡ block_post b → is_head post.kind ≡ true → ⊥
no_head post b e is = let other : is_head post.kind ≡ false = ap (λ (x : Post). is_head x.kind) e in cc (sym other ∙ is)

same_heads : (pending : List Post) (blocks : List (List ℕ)) (b : List ℕ) → Contains (heads_by (pending ++ map block_post blocks)) b → Contains (heads_by pending) b
same_heads pending blocks b c =
    let found = from_map (λ (p : Post). p.bytes) (filter (λ (p : Post). is_head p.kind) (pending ++ map block_post blocks)) b c in
    let its = from_filter (λ (p : Post). is_head p.kind) (pending ++ map block_post blocks) found.0 found.1 in
    subst (Contains (heads_by pending)) (sym found.2) (into_map (λ (p : Post). p.bytes) (filter (λ (p : Post). is_head p.kind) pending) found.0 (in_filter (λ (p : Post). is_head p.kind) pending found.0
    (⊎_elim (λ old. old) (λ new. let made = from_map block_post blocks found.0 new in absurd (no_head found.0 made.0 made.2 its.1)) (Contains-append_cases pending (map block_post blocks) found.0 its.0)) its.1))

-- a block that is pending already
pending_block : (pending : List Post) (b : List ℕ) → is_pending_block pending b ≡ true → (post : Post) × Contains pending post × (post.bytes ≡ b)
pending_block pending b there =
    let found = who_passes (λ (post : Post). bytes_eq post.bytes b && is_block post.kind) pending there in
    (found.0, found.1, (bytes_eq-Decides found.0.bytes b).0 (both_true (bytes_eq found.0.bytes b) (is_block found.0.kind) found.2).0)

-- a session goes on as it did, whatever its agent has to publish
still_up : (s : Session) (of : Holding) (a : HssAgent) (snapshot : Option Key) (posts : List Post) (known : List Record) → KeepsUp s of a known → KeepsUp s of (record a { snapshot = snapshot; pending = posts }) known
still_up s of a snapshot posts known (still load held floor) = still load held floor
still_up s of a snapshot posts known (grown load all far) = grown load all far
still_up s of a snapshot posts known (dropped other first load basis) = dropped other first load basis

module _ (w : Played) (keeps : Invariant w) (p : Participant) (is_p : participant w.0 p.name ≡ Some p) (view : View) (in_view : p.agent.view ≡ Some view) where
  abbrev a : HssAgent
  a = p.agent

  abbrev root : Key
  root = root_name view (basis_of a.holding)

  abbrev blocks : List (List ℕ)
  blocks = snapshot_blocks view (basis_of a.holding)

  abbrev new_blocks : List (List ℕ)
  new_blocks = filter (λ b. not (is_pending_block a.pending b)) blocks

  abbrev posts : List Post
  posts = a.pending ++ map block_post new_blocks

  abbrev after : HssAgent
  after = snapped a root blocks

  -- what is saved
  abbrev k : HssKept
  k = kept_of after

  abbrev now : Knowing
  now = knowing_of w.1 p.name

  -- with other posts, whose keeper holds these bytes
  abbrev q : Option Key → List Post → Bool → Keeper → Option Key → Participant
  q snapshot pending fails keeper printed = record p { agent = record a { snapshot = snapshot; pending = pending; has_failed = fails }; keeper = keeper; printed = printed }

  among : Contains w.0.participants p
  among = (found_named w.0.participants p.name p is_p).0

  so : IsKeptSo SignsOnce p
  so = each (IsKeptSo SignsOnce) w.0.participants p keeps.signs among

  saved : IsSavedWell p so.0
  saved = so_of IsSavedWell p so.0 (each (IsKeptSo IsSavedWell) w.0.participants p keeps.saved among) so.1 so.2

  its_view : IsView view × HasKeys view × Contains view.members (own_hss_key a) × AllByRecursion (λ e. IsTrue (is_named view e.0)) a.floor
  its_view = subst (λ (o : Option View). IfSome o (λ v. IsView v × HasKeys v × Contains v.members (own_hss_key a) × AllByRecursion (λ e. IsTrue (is_named v e.0)) a.floor)) in_view saved.agent.view

  ours : IfSome a.view (AreParticipants w.0)
  ours = (each (EntersOwned w.0) w.0.participants p keeps.entered among).agent

  -- ---- blocks

  -- each block of the snapshot is to be published
  all_posted : (b : List ℕ) → Contains blocks b → Contains (map (λ (post : Post). post.bytes) posts) b
  all_posted b c = by (is_pending_block a.pending b) refl
    where
      by : (t : Bool) → is_pending_block a.pending b ≡ t → Contains (map (λ (post : Post). post.bytes) posts) b
      by true there =
          let found = pending_block a.pending b there in
          subst (Contains (map (λ (post : Post). post.bytes) posts)) found.2 (into_map (λ (post : Post). post.bytes) posts found.0 (Contains-append_left a.pending (map block_post new_blocks) found.0 found.1))
      by false new = into_map (λ (post : Post). post.bytes) posts (block_post b) (Contains-append_right a.pending (map block_post new_blocks) (block_post b)
          (into_map block_post new_blocks b (in_filter (λ x. not (is_pending_block a.pending x)) blocks b c (ap not new))))

  -- ---- signing

  heads_left : (b : List ℕ) → Contains (heads_by posts) b → Contains p.left b
  heads_left b c = each (Contains p.left) (heads_by a.pending) b so.3.pending (same_heads a.pending new_blocks b c)

  once : AreSignedOnce a.signer a.signer.made (own_reach a) p.left
  once = left_once p so.0 so.3

  signs_then : (snapshot : Option Key) (pending : List Post) (fails : Bool) (keeper : Keeper) (printed : Option Key) → AllByRecursion (Contains p.left) (heads_by pending) → SignsOnce (q snapshot pending fails keeper printed) k
  signs_then snapshot pending fails keeper printed left = record {
    same = (refl, refl, refl);
    saved = omega arith;
    reaches = omega arith;
    left = once;
    kept = fewer_signed_once a.signer a.signer.made (own_reach a) p.left once (p.left ++ heads_by posts) (λ b c. ⊎_elim (λ old. old) (heads_left b) (Contains-append_cases p.left (heads_by posts) b c));
    pending = left;
  }

  -- ---- where no names collide

  module _ (apart : IsCollisionFree (named_bytes w.0)) where
    old : AreSound w.0 w.1
    old = keeps.sound apart

    s : IsSound w.0.met p now view
    s = subst (IsSoundIn w.0.met p now) in_view (each (λ (x : Participant). IsSoundIn w.0.met x (knowing_of w.1 x.name) x.agent.view) w.0.participants p old.agents among)

    -- the snapshot, where its blocks are met
    snapshot_in : (met : List (List ℕ)) → ((b : List ℕ) → Contains blocks b → Contains met b) → IsSnapshotOf met view now.known root
    snapshot_in met are = (let stands = holding_stands view a.floor a.holding now.known s.knows in record {
      made = basis_of a.holding;
      spelled = held_is_spelled view a.floor a.holding now.known its_view.0 its_view.1 s.knows;
      named = refl;
      blocks = each_from (Contains met) blocks are;
      below = stands.0;
      stands = stands.1;
      within = stands.2;
    })

    its_heads : AllByRecursion (NamesOneOf a.signer (log_of (own_hss_key a) now.known)) p.left
    its_heads = heads_known p so.0 saved view in_view now w.0.met so.3 so.1 (s.knows.by_floor.ends (own_hss_key a) its_view.2)
        (so_of (λ x y. IsSoundKeptIn w.0.met x (knowing_of w.1 x.name) y y.view) p so.0 (each (IsKeptSo (λ x y. IsSoundKeptIn w.0.met x (knowing_of w.1 x.name) y y.view)) w.0.participants p old.keepers among) so.1 so.2)

    -- what the saved bytes say
    kept_sound : (met : List (List ℕ)) → ((b : List ℕ) → Contains w.0.met b → Contains met b) → (snapshot : Option Key) (pending : List Post) (fails : Bool) (keeper : Keeper) (printed : Option Key)
        → IsSoundKept met (q snapshot pending fails keeper printed) now k view
    kept_sound met grows snapshot pending fails keeper printed = record {
      known = now.known;
      by_floor = s.knows.by_floor;
      closed = s.knows.closed;
      stand = more_stand w.0.met more grows_on now.known s.stand;
      verified = more_verified w.0.met more grows_on view (own_hss_key a) a.floor now.received now.known s.verified;
      covers = s.covers;
      snapshot = snapshot_in more (λ b c. Contains-append_right met (map (λ (post : Post). post.bytes) posts) b (all_posted b c));
      goes_on = ([], sym (append-nil (log_of (own_hss_key a) now.known)));
      heads = each_from (NamesOneOf a.signer (log_of (own_hss_key a) now.known)) (p.left ++ heads_by posts) (λ b c.
          each (NamesOneOf a.signer (log_of (own_hss_key a) now.known)) p.left b its_heads (⊎_elim (λ left. left) (heads_left b) (Contains-append_cases p.left (heads_by posts) b c)));
    }
      where
        more : List (List ℕ)
        more = met ++ map (λ (post : Post). post.bytes) posts

        grows_on : (b : List ℕ) → Contains w.0.met b → Contains (met ++ map (λ (post : Post). post.bytes) posts) b
        grows_on b c = Contains-append_left met (map (λ (post : Post). post.bytes) posts) b (grows b c)

    -- an open session of the participant
    session_stays : (t : Session) (b : Began) (h : IsSoundSession w.0 w.1 t b) → t.by ≡ p.name → StaysSound t b h.of after now.known
    session_stays t b h by_is = record {
      known = λ r c. subst (λ (n : List ℕ). Contains (known_of w.1 n) r) by_is (h.known r c);
      floor = subst (λ (o : Participant). Dominates o.agent.floor t.standing.floor) one h.floor;
      keeps_up = still_up t h.of a (Some root) posts now.known (subst (λ (o : Participant). KeepsUp t h.of o.agent now.known) one (subst (λ (n : List ℕ). KeepsUp t h.of h.by.agent (known_of w.1 n)) by_is h.keeps_up));
      anew = λ some. subst (λ (o : Participant). (o.agent.to_load ≡ None) × (o.agent.holding.basis ≡ fresh_basis)) one (h.anew some);
      stays_fresh = λ fresh. subst (λ (o : Participant). (o.agent.to_load ≡ None) × (o.agent.holding.basis ≡ fresh_basis)) one (h.stays_fresh fresh);
    }
      where
        one : h.by ≡ p
        one = some_same h.by p (sym h.is_by ∙ ap (participant w.0) by_is ∙ is_p)

  module _ (spelled : ArePostsSpelled posts) where
    whole : IsHssKept k
    whole = record {
      signer = saved.agent.signer;
      some = saved.agent.some;
      few = saved.agent.few;
      floor = saved.agent.floor;
      view = saved.agent.view;
      posts = spelled;
      snapshot = is_key (snapshot_of view (basis_of a.holding)).bytes;
    }

    -- ---- the snapshot is made

    module _ (keeper : Keeper) (held : keeper.kept ≡ Some (hss_kept_bytes k)) where
      abbrev made : Participant
      made = q (Some root) posts a.has_failed keeper (Some root)

      abbrev met : List (List ℕ)
      met = met_by w.0.met posts

      grows : (b : List ℕ) → Contains w.0.met b → Contains met b
      grows b c = met_stays w.0.met (map (λ (post : Post). post.bytes) posts) b c

      is_met : (post : Post) → Contains posts post → Contains met post.bytes
      is_met post c = met_then w.0.met (map (λ (o : Post). o.bytes) posts) post.bytes (into_map (λ (o : Post). o.bytes) posts post c)

      has_name : (post : Post) → Contains posts post → HasItsName post
      has_name post c = ⊎_elim
          (λ before. (each (IsMetPost w.0.met) a.pending post (each (λ (x : Participant). AllByRecursion (IsMetPost w.0.met) x.agent.pending) w.0.participants p keeps.met.pending among) before).1)
          (λ new. let found = from_map block_post new_blocks post new in subst HasItsName (sym found.2) (inr refl))
          (Contains-append_cases a.pending (map block_post new_blocks) post c)

      block_met : (b : List ℕ) → Contains blocks b → Contains met b
      block_met b c = met_then w.0.met (map (λ (o : Post). o.bytes) posts) b (all_posted b c)

      fit : FitsTurn w p made met now.known
      fit = record {
        named = refl;
        owned = refl;
        in_view = refl;
        pending = each_from (IsMetPost met) posts (λ post c. (is_met post c, has_name post c));
        cached = refl;
        signs = (k, whole, held, signs_then (Some root) posts a.has_failed keeper (Some root) (each_from (Contains p.left) (heads_by posts) heads_left));
        saved = (k, whole, held, record { agent = whole; entered = λ h. h });
        entered = record { agent = ours; keeper = (k, whole, held, ours) };
        agent = λ apart. subst (IsSoundIn met made (knowing_then w p now.known)) (sym in_view) (let sound = s apart in record {
          knows = sound.knows;
          stand = more_stand w.0.met met grows now.known sound.stand;
          verified = more_verified w.0.met met grows view (own_hss_key a) a.floor now.received now.known sound.verified;
          covers = sound.covers;
        });
        keeper = λ apart. (k, whole, held, subst (IsSoundKeptIn met made (knowing_then w p now.known) k) (sym in_view) (kept_sound apart met grows (Some root) posts a.has_failed keeper (Some root)));
        to_load = λ apart. more_to_load w.0.met met grows p now.known a.view
            (each (λ (x : Participant). IfSome x.agent.view (λ v. IfSome x.agent.to_load (λ name. (x.agent.holding ≡ nothing_held) × IsSnapshotOf w.0.met v (known_of w.1 x.name) name))) w.0.participants p (old apart).to_load among);
        snapshots = λ apart. subst (λ (o : Option View). IfSome o (λ v. IsSnapshotOf met v now.known root)) (sym in_view) (snapshot_in apart met block_met);
        sessions = λ apart t b h by_is viewed. session_stays apart t b h by_is;
      }

      told : ToldThen w p now.known [] w.1
      told = record { names = refl; its = refl; others = λ name other. refl; received = keeps.received; sessions = refl; begun = refl; turns = sym (append-nil w.1.turns) }

      made_keeps : Invariant (record (with_participant w.0 made) { met = met }, w.1)
      made_keeps = keeps_then w keeps p is_p made met grows now.known fit [] (λ h c. absurd (in_nothing h c)) w.1 told

      published_keeps : (r : ℕ) (next : Played) → w.0.replicas ≡ Some r → Publishes hss_judged r (record (with_participant w.0 made) { met = met }, w.1) made next → Invariant next
      published_keeps r next ringed published =
          (whole_publishing_keeps (record (with_participant w.0 made) { met = met }, w.1) r made next made_keeps ringed (found_placed w.0 keeps.apart p.name p is_p made refl) published).0

    -- ---- its save fails

    abbrev failing_it : Keeper → Participant
    failing_it keeper = q a.snapshot a.pending true keeper p.printed

    -- and the old bytes are kept
    old_bytes_keep : (keeper : Keeper) → keeper.kept ≡ p.keeper.kept → Invariant (with_participant w.0 (failing_it keeper), w.1)
    old_bytes_keep keeper held = participant_keeps w p.name p (record (unchanged p) { has_failed = true; keeper = keeper }) keeps is_p (record {
      kept = held;
      pending = λ post c. c;
      fewer = omega arith;
      cached = each _ w.0.participants p keeps.met.cached among;
    })

    -- or the new bytes are
    new_bytes_keep : (keeper : Keeper) → keeper.kept ≡ Some (hss_kept_bytes k) → Invariant (with_participant w.0 (failing_it keeper), w.1)
    new_bytes_keep keeper held = other_bytes_keep w keeps p is_p (record (unchanged p) { has_failed = true; keeper = keeper }) refl (record {
      cached = each _ w.0.participants p keeps.met.cached among;
      signs = (k, whole, held, signs_then a.snapshot a.pending true keeper p.printed so.3.pending);
      saved = (k, whole, held, record { agent = saved.agent; entered = λ h. h });
      entered = (k, whole, held, ours);
      sound = λ apart. (k, whole, held, subst (IsSoundKeptIn w.0.met (failing_it keeper) now k) (sym in_view) (kept_sound apart w.0.met (λ b c. c) a.snapshot a.pending true keeper p.printed));
    })

  -- ---- what comes of it

  abbrev tried : Bool → Bool → (HssAgent × Bool) × Option HssKept
  tried has_failed fails = if has_failed then ((a, false), None) else (if fails then (failed a, false) else (after, true), Some k)

  abbrev having : Bool → Bool → Participant
  having has_failed fails = record p { agent = (tried has_failed fails).0.0; keeper = asked_to_save p.keeper (tried has_failed fails).1 }

  saved_now : (o : Option Bool) → memory.planned_next p.keeper ≡ o → (asked_to_save p.keeper (Some k)).kept ≡ (memory.after_planned o p.keeper (hss_kept_bytes k)).kept
  saved_now o planned = ap (λ x. (memory.after_planned x p.keeper (hss_kept_bytes k)).kept) planned

  failing : (has_failed : Bool) (o : Option Bool) → memory.planned_next p.keeper ≡ o → (tried has_failed (is_some o)).0.1 ≡ false → IfSome (tried has_failed (is_some o)).1 (λ l. ArePostsSpelled l.pending)
      → Invariant (with_participant w.0 (having has_failed (is_some o)), w.1)
  failing true o planned none spelled = subst (λ (v : World). Invariant (v, w.1)) (sym (placed_itself w.0 keeps.apart p.name p is_p)) keeps
  failing false None planned none spelled = cc none
  failing false (Some true) planned none spelled = new_bytes_keep spelled (asked_to_save p.keeper (Some k)) (saved_now (Some true) planned)
  failing false (Some false) planned none spelled = old_bytes_keep spelled (asked_to_save p.keeper (Some k)) (saved_now (Some false) planned)

  abbrev printing : Bool → Bool → Participant
  printing has_failed fails = record (having has_failed fails) { printed = Some root }

  -- before what it has is published
  coming : (has_failed : Bool) (o : Option Bool) → memory.planned_next p.keeper ≡ o → (tried has_failed (is_some o)).0.1 ≡ true → ArePostsSpelled (printing has_failed (is_some o)).agent.pending
      → Invariant (record (with_participant w.0 (printing has_failed (is_some o))) { met = met_by w.0.met (printing has_failed (is_some o)).agent.pending }, w.1)
  coming true o planned some spelled = cc some
  coming false (Some new) planned some spelled = cc some
  coming false None planned some spelled = made_keeps spelled (asked_to_save p.keeper (Some k)) (saved_now None planned)

  making : (has_failed : Bool) → a.has_failed ≡ has_failed → (o : Option Bool) → memory.planned_next p.keeper ≡ o → (r : ℕ) (next : Played) → (tried has_failed (is_some o)).0.1 ≡ true → w.0.replicas ≡ Some r
      → ArePostsSpelled (printing has_failed (is_some o)).agent.pending
      → Publishes hss_judged r (record (with_participant w.0 (printing has_failed (is_some o))) { met = met_by w.0.met (printing has_failed (is_some o)).agent.pending }, w.1) (printing has_failed (is_some o)) next → Invariant next
  making true failed_before o planned r next some ringed spelled published = cc some
  making false unfailed (Some new) planned r next some ringed spelled published = cc some
  making false unfailed None planned r next some ringed spelled published = published_keeps spelled (asked_to_save p.keeper (Some k)) (saved_now None planned) r next ringed published

-- ---- the line

snap_so : (w : Played) → Invariant w → (log : List ℕ) (o : Option Participant) → participant w.0 log ≡ o
    → (out : Outcome Played) → SnapLine hss_judged w o out → ToSuch Invariant out
snap_so w keeps log _ is _ snap_nobody = tt
snap_so w keeps log _ is _ (snap_outside p out) = tt
snap_so w keeps log _ is _ (snap_cannot p view in_view unspelled) = keeps
snap_so w keeps log _ is _ (snap_fails p view in_view none spelled) =
    failing w keeps p (ap (participant w.0) (found_named w.0.participants log p is).1 ∙ is) view in_view p.agent.has_failed (memory.planned_next p.keeper) refl none spelled
snap_so w keeps log _ is _ (snap_makes p q view r next in_view some ringed made spelled published) =
    making w keeps p (ap (participant w.0) (found_named w.0.participants log p is).1 ∙ is) view in_view p.agent.has_failed refl (memory.planned_next p.keeper) refl r next some ringed
    (subst (λ (x : Participant). ArePostsSpelled x.agent.pending) made spelled)
    (subst (λ (x : Participant). Publishes hss_judged r (record (with_participant w.0 x) { met = met_by w.0.met x.agent.pending }, w.1) x next) made published)

pub snapshots_keep : SnapshotsKeep
snapshots_keep log w p view keeps is in_view some spelled =
    coming w keeps p (ap (participant w.0) (found_named w.0.participants log p is).1 ∙ is) view in_view p.agent.has_failed (memory.planned_next p.keeper) refl some spelled

pub snap_lines_keep : SnapLinesKeep
snap_lines_keep log w next output keeps does = snap_so w keeps log (participant w.0 log) refl (Goes next output) does
