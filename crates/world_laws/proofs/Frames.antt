-- Changes that touch no more than they may leave a world in which the invariant holds.
use Rattle.std.proofs.Common.{◌≡◌, ◌≢◌, ⊎_elim, ℕ, ◌≤◌, Bool, true, false, cond, List, [], ◌∷◌, ◌++◌, length, map, filter, Option, Some, None, refl, sym, ap, ◌∙◌, subst, arith, Contains}
use Rattle.std.specs.List.{AllByRecursion, find}
use Rattle.std.specs.Str.{bytes_eq}
use Rattle.std.proofs.lemmas.List.{length-map}
use Rattle.std.proofs.lemmas.Slice.Eq.{bytes_eq-Decides}
use Rattle.ring_model.proofs.Lists.{all_weaker}
use Rattle.ivy_base.specs.declared.key.PubKey.{PubKey}
use Rattle.ivy_base.specs.Naming.{IsCollisionFree}
use Rattle.log_model.proofs.Lists.{each, each_from, from_filter, here, in_cons, in_filter, in_nothing, there}
use Rattle.log_model.specs.Record.{Record}
use Rattle.log_model.specs.View.{View}
use Rattle.turn_model.specs.Basis.{Holding}
use Rattle.dht_ids.specs.declared.ask.Answer.{Answer}
use Rattle.dht_ids.specs.declared.ask.Answer.TheVariants as answer
use Rattle.dht_ids.specs.declared.peer.Peer.{Peer}
use Rattle.dht_ids.specs.declared.post.Post.{Post}
use Rattle.node_store.specs.Stores.{IsStore}
use Rattle.block_cache.specs.Blocks.{IsCache}
use Rattle.round_laws.specs.RingOf.{AreNamed, AreNodes, KnowsOnly}
use Rattle.round_laws.specs.RingOf.{AreApart as StandApart}
use Rattle.agent_model.specs.Agent.{is_head, kept_of}
use Rattle.agent_model.specs.SavedBytes.{ArePostsSpelled}
use Rattle.session_model.specs.Sessions.{Said, Session, Stage, Refreshing, Publishing, Over}
use Rattle.world_model.specs.Agents.{HssAgent, IsHssKept, own_hss_key}
use Rattle.world_model.specs.Nodes.{Node}
use Rattle.world_model.specs.World.{World, NamedSession, Participant, named_bytes, participant, peer_of, with_participant}
use Rattle.world_model.specs.GhostState.{Began, GhostState, began_of, knowing_of, known_of}
use Rattle.world_model.specs.Logs.{Played}
use Rattle.world_model.specs.Steps.{heads_by}
use Rattle.world_laws.specs.Causes.{HasCause, said_at}
use Rattle.world_laws.specs.Causes.HasCause.{alone, missed, turned, no_memory}
use Rattle.world_laws.specs.Invariant.{AreApart, AreSound, BlocksAreMet, GoesOn, HasRing, HasSaid, IsAnswerIn, IsAtStage, IsKeptSo, IsMetPost, IsSavedWell, AreParticipants, EntersOwned, IsSoundKeptIn, IsSoundSession, Invariant, KeepsUp, PeersAreMade, SignsOnce}
use Rattle.world_laws.specs.Invariant.KeepsUp.{still, grown, dropped}
use Rattle.world_laws.specs.Frames.{AreOfRing, Change, Changes, IsWithinFrame, IsChangeWithinFrame, FrameRule, MoreBlocksKeep, changed, changed_by, unchanged}
use Rattle.world_laws.proofs.MoreMet.{grows_before, more_heads, more_kept_in, more_posts, more_snapshot, more_snapshots, more_sound, more_to_load, some_weaker}
use Rattle.world_laws.proofs.SignedHeads.{from_map}
use Rattle.world_laws.proofs.Bringing.{found_named}

-- ---- lists

pub into_map : {A B : Type 0} (f : A → B) (xs : List A) (a : A) → Contains xs a → Contains (map f xs) (f a)
into_map f [] a h = absurd (in_nothing a h)
into_map f (x ∷ xs) a h = ⊎_elim (λ e. subst (λ y. Contains (f x ∷ map f xs) (f y)) e (here (f x) (map f xs))) (λ later. there (f x) (map f xs) (f a) (into_map f xs a later)) (in_cons x xs a h)

-- each element that f makes of one of them
pub all_mapped : {A B : Type 0} (P : B → Type 0) (f : A → B) (xs : List A) → ((x : A) → Contains xs x → P (f x)) → AllByRecursion P (map f xs)
all_mapped P f [] h = tt
all_mapped P f (x ∷ xs) h = (h x (here x xs), all_mapped P f xs (λ y c. h y (there x xs y c)))

-- what f leaves as it is, is the same of all
pub same_map : {A B : Type 0} (g : A → B) (f : A → A) (xs : List A) → ((x : A) → Contains xs x → g (f x) ≡ g x) → map g (map f xs) ≡ map g xs
same_map g f [] h = refl
same_map g f (x ∷ xs) h = λ i. h x (here x xs) i ∷ same_map g f xs (λ y c. h y (there x xs y c)) i

pub same_elements : {A : Type 0} (f : A → A) (xs : List A) → ((x : A) → Contains xs x → f x ≡ x) → map f xs ≡ xs
same_elements f [] h = refl
same_elements f (x ∷ xs) h = λ i. h x (here x xs) i ∷ same_elements f xs (λ y c. h y (there x xs y c)) i

-- ---- participants

-- who is found by a name, where each keeps its name
pub found_mapped : (f : Participant → Participant) → ((p : Participant) → (f p).name ≡ p.name) → (ps : List Participant) (name : List ℕ) (p : Participant)
    → find (λ q. bytes_eq q.name name) ps ≡ Some p → find (λ q. bytes_eq q.name name) (map f ps) ≡ Some (f p)
found_mapped f same [] name p is = cc is
found_mapped f same (q ∷ ps) name p is =
    subst (λ n. cond (bytes_eq n name) (Some (f q)) (find (λ o. bytes_eq o.name name) (map f ps)) ≡ Some (f p)) (sym (same q)) (by (bytes_eq q.name name) is (λ h. found_mapped f same ps name p h))
  where
    by : (b : Bool) → cond b (Some q) (find (λ o. bytes_eq o.name name) ps) ≡ Some p → (find (λ o. bytes_eq o.name name) ps ≡ Some p → find (λ o. bytes_eq o.name name) (map f ps) ≡ Some (f p))
        → cond b (Some (f q)) (find (λ o. bytes_eq o.name name) (map f ps)) ≡ Some (f p)
    by true h later = let same : q ≡ p = cc h in ap (λ o. Some (f o)) same
    by false h later = later h

-- ---- posts

-- heads of fewer posts
pub fewer_heads : (less more : List Post) → ((post : Post) → Contains less post → Contains more post) → (b : List ℕ) → Contains (heads_by less) b → Contains (heads_by more) b
fewer_heads less more fewer b h =
    let found = from_map (λ (p : Post). p.bytes) (filter (λ (p : Post). is_head p.kind) less) b h in
    let among = from_filter (λ (p : Post). is_head p.kind) less found.0 found.1 in
    subst (Contains (heads_by more)) (sym found.2) (into_map (λ (p : Post). p.bytes) (filter (λ (p : Post). is_head p.kind) more) found.0 (in_filter (λ (p : Post). is_head p.kind) more found.0 (fewer found.0 among.0) among.1))

fewer_spelled : (less more : List Post) → ((post : Post) → Contains less post → Contains more post) → length less ≤ length more → ArePostsSpelled more → ArePostsSpelled less
fewer_spelled less more fewer short h = record {
  few = omega (arith, short, h.few);
  each = each_from _ less (λ post c. each _ more post h.each (fewer post c));
}

-- ---- sessions

-- What the answer gives is met, and whom it names was made.
pub answer_stays : (w v : World) → ((b : List ℕ) → Contains w.met b → Contains v.met b) → ((p : Peer) → Contains (map peer_of w.nodes) p → Contains (map peer_of v.nodes) p) → (given : Answer) → IsAnswerIn w given → IsAnswerIn v given
answer_stays w v grows peers (answer.Found bytes) h = grows bytes h
answer_stays w v grows peers (answer.Route nearer owners) h = all_weaker _ _ (nearer ++ owners) peers h
answer_stays w v grows peers (answer.Near before list) h = tt
answer_stays w v grows peers answer.Nothing h = tt
answer_stays w v grows peers answer.Stored h = tt
answer_stays w v grows peers (answer.Refused fault) h = tt
answer_stays w v grows peers answer.Noted h = tt
answer_stays w v grows peers answer.Silent h = tt

pub stage_stays : (w v : World) → ((b : List ℕ) → Contains w.met b → Contains v.met b) → (r : ℕ) (s : Session) (stage : Stage) → IsAtStage w r s stage → IsAtStage v r s stage
stage_stays w v grows r s Refreshing h = h
stage_stays w v grows r s (Publishing said posts acks) h = (h.0, more_posts w.met v.met grows posts h.1, h.2)
stage_stays w v grows r s (Over said) h = h

pub goes_on_still : (w v : World) → ((b : List ℕ) → Contains w.met b → Contains v.met b) → ((p : Peer) → Contains (map peer_of w.nodes) p → Contains (map peer_of v.nodes) p) → (r : ℕ) (s : Session) (h : GoesOn w r s) (d : Change)
    → participant v s.by ≡ Some (changed h.by d) → GoesOn v r s
goes_on_still w v grows peers r s h d is = record {
  by = changed h.by d;
  is_by = is;
  in_view = h.in_view;
  own_key = h.own_key;
  some_entry = h.some_entry;
  entries = all_weaker _ _ s.entries peers h.entries;
  heard = all_weaker _ _ s.current (λ a g. answer_stays w v grows peers a.got g) h.heard;
  pending = more_posts w.met v.met grows s.standing.pending h.pending;
  stage = stage_stays w v grows r s s.stage h.stage;
}

keeps_up_still : (s : Session) (of : Holding) (a : HssAgent) (posts : List Post) (fails : Bool) (known : List Record) → KeepsUp s of a known → KeepsUp s of (record a { pending = posts; has_failed = fails }) known
keeps_up_still s of a posts fails known (still load held floor) = still load held floor
keeps_up_still s of a posts fails known (grown load all far) = grown load all far
keeps_up_still s of a posts fails known (dropped other first load basis) = dropped other first load basis

pub sound_still : (w v : World) (st : GhostState) → ((b : List ℕ) → Contains w.met b → Contains v.met b) → (s : Session) (b : Began) (h : IsSoundSession w st s b) (d : Change) (acked : List Post)
    → participant v s.by ≡ Some (changed h.by d) → IsSoundSession v (record st { acked = acked }) s b
sound_still w v st grows s b h d acked is = record {
  by = changed h.by d;
  is_by = is;
  of = h.of;
  knows = h.knows;
  held = h.held;
  edges = h.edges;
  to_load = some_weaker _ _ s.standing.to_load (λ root i. (i.0, more_snapshot w.met v.met grows s.standing.view b.knew root i.1)) h.to_load;
  known = h.known;
  floor = h.floor;
  keeps_up = keeps_up_still s h.of h.by.agent d.pending d.has_failed (known_of st s.by) h.keeps_up;
  anew = h.anew;
  stays_fresh = h.stays_fresh;
  received = h.received;
  blocks = λ key bytes c. ((h.blocks key bytes c).0, grows bytes (h.blocks key bytes c).1);
}

-- ---- what sessions say

cause_still : (st : GhostState) (acked : List Post) (n : ℕ) (s : Session) (said : Said) → HasCause st n s said → HasCause (record st { acked = acked }) n s said
cause_still st acked n s _ (alone given by) = alone given by
cause_still st acked n s _ (missed xid asked given miss asks refreshed is) = missed xid asked given miss asks refreshed is
cause_still st acked n s _ (turned h xid asked given among of asks refreshed) = turned h xid asked given among of asks refreshed
cause_still st acked n s _ (no_memory xid asked asks) = no_memory xid asked asks

pub said_still : (st : GhostState) (acked : List Post) (n : ℕ) (s : Session) (o : Option Said) → HasSaid st n s o → HasSaid (record st { acked = acked }) n s o
said_still st acked n s None h = tt
said_still st acked n s (Some said) h = cause_still st acked n s said h

-- ---- views

-- whose members were participants has members that are, where the keys are the same
pub still_participants : (w v : World) → map (λ (p : Participant). own_hss_key p.agent) v.participants ≡ map (λ (p : Participant). own_hss_key p.agent) w.participants → (view : View) → AreParticipants w view → AreParticipants v view
still_participants w v same view h = all_weaker _ _ view.members (λ k c. subst (λ ks. Contains ks k) (sym same) c) h

-- ---- the whole

module _ (w : Played) (c : Changes) (keeps : Invariant w) (within_frame : IsWithinFrame w.0 c) where
  abbrev v : World
  v = (changed_by c w).0

  abbrev now : Participant → Participant
  now p = changed p (c.change p)

  names : map (λ (p : Participant). p.name) v.participants ≡ map (λ (p : Participant). p.name) w.0.participants
  names = same_map (λ (p : Participant). p.name) now w.0.participants (λ p among. refl)

  found : (name : List ℕ) (p : Participant) → participant w.0 name ≡ Some p → participant v name ≡ Some (now p)
  found name p is = found_mapped now (λ q. refl) w.0.participants name p is

  ring : (o : Option ℕ) → AreOfRing o v.nodes → HasRing w.0 o → HasRing v o
  ring None nodes h = (nodes, ap (map now) h.1, h.2)
  ring (Some r) nodes h = (
    h.0,
    nodes.0,
    nodes.1,
    all_weaker (λ (s : NamedSession). GoesOn w.0 r s.session) (λ (s : NamedSession). GoesOn v r s.session) w.0.sessions
        (λ s g. goes_on_still w.0 v within_frame.grows within_frame.peers r s.session g (c.change g.by) (found s.session.by g.by g.is_by)) h.3,
  )

  owners : map (λ (p : Participant). own_hss_key p.agent) v.participants ≡ map (λ (p : Participant). own_hss_key p.agent) w.0.participants
  owners = same_map (λ (p : Participant). own_hss_key p.agent) now w.0.participants (λ p among. refl)

  owned_then : (view : View) → AreParticipants w.0 view → AreParticipants v view
  owned_then view h = still_participants w.0 v owners view h

  entered : (p : Participant) → Contains w.0.participants p → EntersOwned w.0 p → EntersOwned v (now p)
  entered p among h = record {
    agent = some_weaker _ _ p.agent.view owned_then h.agent;
    keeper = (h.keeper.0, h.keeper.1, (within_frame.each p among).kept ∙ h.keeper.2, some_weaker _ _ h.keeper.0.view owned_then h.keeper.3);
  }

  blocks : BlocksAreMet v
  blocks = record {
    held = within_frame.held;
    pending = all_mapped _ now w.0.participants (λ p among. each_from (IsMetPost v.met) (c.change p).pending (λ post is.
        let old = each (IsMetPost w.0.met) p.agent.pending post (each _ w.0.participants p keeps.met.pending among) ((within_frame.each p among).pending post is) in
        (within_frame.grows post.bytes old.0, old.1)));
    cached = all_mapped _ now w.0.participants (λ p among. (within_frame.each p among).cached);
    views = all_weaker _ _ c.views (λ v h. (h.0, h.1, owned_then v.view h.2)) within_frame.views;
  }

  peers : PeersAreMade v
  peers = record { named = within_frame.made.named; apart = within_frame.made.apart; few = within_frame.made.few; known = within_frame.made.known }

  signs : (p : Participant) → Contains w.0.participants p → IsKeptSo SignsOnce p → IsKeptSo SignsOnce (now p)
  signs p among so = (
    so.0,
    so.1,
    (within_frame.each p among).kept ∙ so.2,
    record {
      same = so.3.same;
      saved = so.3.saved;
      reaches = so.3.reaches;
      left = so.3.left;
      kept = so.3.kept;
      pending = each_from (Contains p.left) (heads_by (c.change p).pending) (λ b is. each (Contains p.left) (heads_by p.agent.pending) b so.3.pending (fewer_heads (c.change p).pending p.agent.pending (within_frame.each p among).pending b is));
    },
  )

  may_be_saved : (p : Participant) → Contains w.0.participants p → IsHssKept (kept_of p.agent) → IsHssKept (kept_of (now p).agent)
  may_be_saved p among h = record {
    signer = h.signer;
    some = h.some;
    few = h.few;
    floor = h.floor;
    view = h.view;
    posts = fewer_spelled (c.change p).pending p.agent.pending (within_frame.each p among).pending (within_frame.each p among).fewer h.posts;
    snapshot = h.snapshot;
  }

  saved : (p : Participant) → Contains w.0.participants p → IsKeptSo IsSavedWell p → IsKeptSo IsSavedWell (now p)
  saved p among so = (so.0, so.1, (within_frame.each p among).kept ∙ so.2, record { agent = may_be_saved p among so.3.agent; entered = so.3.entered })

  keys : map (λ (p : Participant). (own_hss_key p.agent).0) v.participants ≡ map (λ (p : Participant). (own_hss_key p.agent).0) w.0.participants
  keys = same_map (λ (p : Participant). (own_hss_key p.agent).0) now w.0.participants (λ p among. refl)

  apart_before : IsCollisionFree (named_bytes v) → IsCollisionFree (named_bytes w.0)
  apart_before apart a b in_a in_b same = apart a b (more a in_a) (more b in_b) same
    where
      more : (b : List ℕ) → Contains (named_bytes w.0) b → Contains (named_bytes v) b
      more b h = subst (λ ks. Contains (v.met ++ ks) b) (sym keys) (grows_before w.0.met v.met within_frame.grows (map (λ (p : Participant). (own_hss_key p.agent).0) w.0.participants) b h)

  kept_sound : (p : Participant) → Contains w.0.participants p → IsKeptSo (λ q k. IsSoundKeptIn w.0.met q (knowing_of w.1 q.name) k k.view) p → IsKeptSo (λ q k. IsSoundKeptIn v.met q (knowing_of w.1 q.name) k k.view) (now p)
  kept_sound p among so = (so.0, so.1, (within_frame.each p among).kept ∙ so.2, more_kept_in w.0.met v.met within_frame.grows p (c.change p) (knowing_of w.1 p.name) so.0 so.0.view so.3)

  sound : AreSound w.0 w.1 → AreSound v (record w.1 { acked = c.acked })
  sound h = record {
    agents = all_mapped _ now w.0.participants (λ p among. more_sound w.0.met v.met within_frame.grows p (c.change p) (knowing_of w.1 p.name) p.agent.view (each _ w.0.participants p h.agents among));
    keepers = all_mapped _ now w.0.participants (λ p among. kept_sound p among (each _ w.0.participants p h.keepers among));
    to_load = all_mapped _ now w.0.participants (λ p among. more_to_load w.0.met v.met within_frame.grows p (known_of w.1 p.name) p.agent.view (each _ w.0.participants p h.to_load among));
    snapshots = all_mapped _ now w.0.participants (λ p among. more_snapshots w.0.met v.met within_frame.grows p (known_of w.1 p.name) p.agent.view (each _ w.0.participants p h.snapshots among));
    sessions = all_weaker _ _ w.0.sessions (λ s g. sound_still w.0 v w.1 within_frame.grows s.session (began_of w.1 s.name) g (c.change g.by) c.acked (found s.session.by g.by g.is_by)) h.sessions;
  }

  changes_within_frame : Invariant (changed_by c w)
  changes_within_frame = record {
    fits = record { participants = keeps.fits.participants ∙ sym names; sessions = keeps.fits.sessions };
    ring = ring w.0.replicas within_frame.ring keeps.ring;
    met = blocks;
    peers = peers;
    signs = all_mapped _ now w.0.participants (λ p among. signs p among (each _ w.0.participants p keeps.signs among));
    saved = all_mapped _ now w.0.participants (λ p among. saved p among (each _ w.0.participants p keeps.saved among));
    entered = all_mapped _ now w.0.participants (λ p among. entered p among (each _ w.0.participants p keeps.entered among));
    apart = subst AreApart (sym names) keeps.apart;
    named_once = keeps.named_once;
    moment = within_frame.moment;
    received = all_weaker _ _ w.1.participants (λ k g. more_heads w.0.met v.met within_frame.grows k.received g) keeps.received;
    numbers = record { apart = keeps.numbers.apart; sessions = keeps.numbers.sessions; turns = keeps.numbers.turns };
    said = all_weaker _ _ w.0.sessions (λ s g. said_still w.1 c.acked (began_of w.1 s.name).number s.session (said_at s.session.stage) g) keeps.said;
    sound = λ apart. sound (keeps.sound (apart_before apart));
  }

pub frame_rule : FrameRule
frame_rule = changes_within_frame

-- ---- worlds alone

abbrev pub no_changes : Played → Changes
no_changes w = record {
  nodes = w.0.nodes;
  change = unchanged;
  views = w.0.views;
  replies = w.0.replies;
  now = w.0.now;
  asked = w.0.asked;
  lost = w.0.lost;
  met = w.0.met;
  acked = w.1.acked;
}

module _ (w : Played) (keeps : Invariant w) (met : List (List ℕ)) (grows : (b : List ℕ) → Contains w.0.met b → Contains met b) where
  pub unchanged_within_frame : (p : Participant) → Contains w.0.participants p → IsChangeWithinFrame met p (unchanged p)
  unchanged_within_frame p among = record {
    kept = refl;
    pending = λ post is. is;
    fewer = omega arith;
    cached = (cached.0, all_weaker _ _ p.cache (λ e h. grows e.1 h) cached.1);
  }
    where
      cached : IsCache p.cache × AllByRecursion (λ e. Contains w.0.met e.1) p.cache
      cached = each _ w.0.participants p keeps.met.cached among

  pub held_more : AllByRecursion (λ n. IsStore n.blocks × AllByRecursion (λ e. Contains met e.1.bytes) n.blocks) w.0.nodes
  held_more = all_weaker _ _ w.0.nodes (λ n h. (h.0, all_weaker _ _ n.blocks (λ e g. grows e.1.bytes g) h.1)) keeps.met.held

-- the ring's nodes as they are
pub of_ring : (w : World) (o : Option ℕ) → HasRing w o → AreOfRing o w.nodes
of_ring w None h = h.0
of_ring w (Some r) h = (h.1, h.2)

-- other nodes in their places
pub made_still : (w : World) (nodes : List Node) → PeersAreMade w → map peer_of nodes ≡ map peer_of w.nodes → AllByRecursion (KnowsOnly (map peer_of nodes)) nodes → PeersAreMade (record w { nodes = nodes })
made_still w nodes h same known = record {
  named = subst AreNamed (sym same) h.named;
  apart = subst StandApart (sym same) h.apart;
  few = omega (arith, ap length same, length-map nodes peer_of, length-map w.nodes peer_of, h.few);
  known = known;
}

pub still_some : (old new : List Node) → map peer_of new ≡ map peer_of old → old ≢ [] → new ≢ []
still_some [] new same some e = some refl
still_some (n ∷ old) new same some e = let none : [] ≡ map peer_of (n ∷ old) = sym (ap (map peer_of) e) ∙ same in cc none

pub ring_of : (w : Played) → Invariant w → {r : ℕ} → w.0.replicas ≡ Some r → HasRing w.0 (Some r)
ring_of w keeps ringed = subst (HasRing w.0) ringed keeps.ring

pub nodes_of_ring : (w : Played) (r : ℕ) → Invariant w → w.0.replicas ≡ Some r → AreNodes r w.0
nodes_of_ring w r keeps ringed = record { apart = keeps.peers.apart; replicas = (ring_of w keeps ringed).2; known = keeps.peers.known }

-- where no participant changes
pub world_changes : (w : Played) (c : Changes) → Invariant w → IsWithinFrame w.0 (record c { change = unchanged })
    → Invariant (record w.0 { nodes = c.nodes; views = c.views; replies = c.replies; now = c.now; asked = c.asked; lost = c.lost; met = c.met }, record w.1 { acked = c.acked })
world_changes w c keeps within_frame =
    subst (λ ps. Invariant (record w.0 { nodes = c.nodes; participants = ps; views = c.views; replies = c.replies; now = c.now; asked = c.asked; lost = c.lost; met = c.met }, record w.1 { acked = c.acked }))
    (same_elements (λ p. changed p (unchanged p)) w.0.participants (λ p among. refl)) (frame_rule w (record c { change = unchanged }) keeps within_frame)

pub more_blocks_keep : MoreBlocksKeep
more_blocks_keep w st met keeps grows = world_changes (w, st) (record (no_changes (w, st)) { met = met }) keeps (record {
  peers = λ p h. h;
  made = keeps.peers;
  ring = of_ring w w.replicas keeps.ring;
  held = held_more (w, st) keeps met grows;
  views = keeps.met.views;
  moment = keeps.moment;
  grows = grows;
  each = unchanged_within_frame (w, st) keeps met grows;
})

-- Other nodes of the same peers, and other acknowledgements.
pub ring_keeps : (w : Played) (r : ℕ) (next : World) (acked : List Post) → Invariant w → w.0.replicas ≡ Some r → next ≡ record w.0 { nodes = next.nodes; asked = next.asked } → AreNodes r next
    → map peer_of next.nodes ≡ map peer_of w.0.nodes → AllByRecursion (λ n. IsStore n.blocks × AllByRecursion (λ e. Contains w.0.met e.1.bytes) n.blocks) next.nodes → Invariant (next, record w.1 { acked = acked })
ring_keeps w r next acked keeps ringed rest ring same held =
    subst (λ (v : World). Invariant (v, record w.1 { acked = acked })) (sym rest)
    (world_changes w (record (no_changes w) { nodes = next.nodes; asked = next.asked; acked = acked }) keeps (record {
      peers = λ p h. subst (λ made. Contains made p) (sym same) h;
      made = made_still w.0 next.nodes keeps.peers same ring.known;
      ring = subst (λ o. AreOfRing o next.nodes) (sym ringed) (still_some w.0.nodes next.nodes same (ring_of w keeps ringed).1, ring.replicas);
      held = held;
      views = keeps.met.views;
      moment = keeps.moment;
      grows = λ b h. h;
      each = unchanged_within_frame w keeps w.0.met (λ b h. h);
    }))

-- ---- one participant

-- of those whose names stand once each, two of one name are one
pub one_named : {A : Type 0} (name : A → List ℕ) (xs : List A) (x y : A) → AreApart (map name xs) → Contains xs x → Contains xs y → name x ≡ name y → x ≡ y
one_named name [] x y apart x_in y_in same = absurd (in_nothing x x_in)
one_named name (z ∷ zs) x y apart x_in y_in same = ⊎_elim
    (λ x_is. ⊎_elim (λ y_is. sym x_is ∙ y_is) (λ y_later. absurd (apart.0 (subst (Contains (map name zs)) (sym same ∙ ap name (sym x_is)) (into_map name zs y y_later)))) (in_cons z zs y y_in))
    (λ x_later. ⊎_elim (λ y_is. absurd (apart.0 (subst (Contains (map name zs)) (same ∙ ap name (sym y_is)) (into_map name zs x x_later)))) (λ y_later. one_named name zs x y apart.1 x_later y_later same) (in_cons z zs y y_in))
    (in_cons z zs x x_in)

pub same_maps : {A B : Type 0} (f g : A → B) (xs : List A) → ((x : A) → Contains xs x → f x ≡ g x) → map f xs ≡ map g xs
same_maps f g [] h = refl
same_maps f g (x ∷ xs) h = λ i. h x (here x xs) i ∷ same_maps f g xs (λ y c. h y (there x xs y c)) i

module _ (w : World) (apart : AreApart (map (λ p. p.name) w.participants)) (name : List ℕ) (p : Participant) (is : participant w name ≡ Some p) where
  -- the participant in its own place
  pub placed_itself : with_participant w p ≡ w
  placed_itself = ap (λ ps. record w { participants = ps }) (same_elements (λ q. cond (bytes_eq q.name p.name) p q) w.participants (λ q among. by q among (bytes_eq q.name p.name) refl))
    where
      by : (q : Participant) → Contains w.participants q → (b : Bool) → bytes_eq q.name p.name ≡ b → cond b p q ≡ q
      by q among true same = one_named (λ (o : Participant). o.name) w.participants p q apart (found_named w.participants name p is).0 among (sym ((bytes_eq-Decides q.name p.name).0 same))
      by q among false other = refl

  -- who is found by the name then
  pub found_placed : (q : Participant) → q.name ≡ p.name → participant (with_participant w q) name ≡ Some q
  found_placed q named = found_mapped put keeps_name w.participants name p is ∙ ap (λ b. Some (cond b q p)) ((bytes_eq-Decides p.name q.name).1 (sym named))
    where
      put : Participant → Participant
      put o = cond (bytes_eq o.name q.name) q o

      keeps_name : (o : Participant) → (put o).name ≡ o.name
      keeps_name o = by (bytes_eq o.name q.name) refl
        where
          by : (b : Bool) → bytes_eq o.name q.name ≡ b → (cond b q o).name ≡ o.name
          by true same = sym ((bytes_eq-Decides o.name q.name).0 same)
          by false other = refl

-- A change of one participant within the frame condition.
pub participant_keeps : (w : Played) (name : List ℕ) (p : Participant) (d : Change) → Invariant w → participant w.0 name ≡ Some p → IsChangeWithinFrame w.0.met p d → Invariant (with_participant w.0 (changed p d), w.1)
participant_keeps w name p d keeps is within_frame =
    subst (λ ps. Invariant (record w.0 { participants = ps }, w.1)) (sym (same_maps (λ q. cond (bytes_eq q.name p.name) (changed p d) q) (λ q. changed q (pick q)) w.0.participants same))
    (frame_rule w (record (no_changes w) { change = pick }) keeps (record {
      peers = λ q h. h;
      made = keeps.peers;
      ring = of_ring w.0 w.0.replicas keeps.ring;
      held = keeps.met.held;
      views = keeps.met.views;
      moment = keeps.moment;
      grows = λ b h. h;
      each = λ q among. pick_within_frame q among (bytes_eq q.name p.name) refl;
    }))
  where
    pick : Participant → Change
    pick q = cond (bytes_eq q.name p.name) d (unchanged q)

    one : (q : Participant) → Contains w.0.participants q → bytes_eq q.name p.name ≡ true → p ≡ q
    one q among same = one_named (λ (o : Participant). o.name) w.0.participants p q keeps.apart (found_named w.0.participants name p is).0 among (sym ((bytes_eq-Decides q.name p.name).0 same))

    same : (q : Participant) → Contains w.0.participants q → cond (bytes_eq q.name p.name) (changed p d) q ≡ changed q (pick q)
    same q among = by (bytes_eq q.name p.name) refl
      where
        by : (b : Bool) → bytes_eq q.name p.name ≡ b → cond b (changed p d) q ≡ changed q (cond b d (unchanged q))
        by true e = ap (λ o. changed o d) (one q among e)
        by false e = refl

    pick_within_frame : (q : Participant) → Contains w.0.participants q → (b : Bool) → bytes_eq q.name p.name ≡ b → IsChangeWithinFrame w.0.met q (cond b d (unchanged q))
    pick_within_frame q among true e = subst (λ o. IsChangeWithinFrame w.0.met o d) (one q among e) within_frame
    pick_within_frame q among false e = unchanged_within_frame w keeps w.0.met (λ b h. h) q among

-- the keys of participants, with one in its place that has the same
pub same_keys : (w : World) → AreApart (map (λ p. p.name) w.participants) → (name : List ℕ) (p : Participant) → participant w name ≡ Some p → (q : Participant) → q.name ≡ p.name → own_hss_key q.agent ≡ own_hss_key p.agent
    → map (λ (o : Participant). (own_hss_key o.agent).0) (with_participant w q).participants ≡ map (λ (o : Participant). (own_hss_key o.agent).0) w.participants
same_keys w apart name p is q named owned = same_map (λ (o : Participant). (own_hss_key o.agent).0) (λ o. cond (bytes_eq o.name q.name) q o) w.participants (λ o among. by o among (bytes_eq o.name q.name) refl)
  where
    by : (o : Participant) → Contains w.participants o → (b : Bool) → bytes_eq o.name q.name ≡ b → (own_hss_key (cond b q o).agent).0 ≡ (own_hss_key o.agent).0
    by o among true same =
        let one : p ≡ o = one_named (λ (x : Participant). x.name) w.participants p o apart (found_named w.participants name p is).0 among (sym ((bytes_eq-Decides o.name q.name).0 same ∙ named)) in
        ap (λ (k : PubKey). k.0) owned ∙ ap (λ (x : Participant). (own_hss_key x.agent).0) one
    by o among false other = refl
