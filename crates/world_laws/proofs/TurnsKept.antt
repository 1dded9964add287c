-- What a keeper's bytes say after a turn, and what holds of the open sessions of the turn's participant.
use Rattle.std.proofs.Common.{◌≡◌, ⊎_elim, ◌⊎◌, inl, inr, ℕ, ◌≤◌, ◌<◌, ◌^◌, Bool, true, false, cond, List, [], ◌∷◌, ◌++◌, map, Option, Some, None, refl, sym, ap, ◌∙◌, subst, arith, Contains}
use Rattle.std.specs.Prelude.{IfSome, IsTrue, is_some}
use Rattle.std.specs.List.{AllByRecursion}
use Rattle.std.specs.Ordering.{eq_by_cmp}
use Rattle.std.proofs.lemmas.List.Elements.{Contains-append_left, Contains-append_cases, filter-append}
use Rattle.ivy_base.specs.declared.key.Key.{Key}
use Rattle.ivy_base.specs.declared.key.PubKey.{PubKey}
use Rattle.ivy_base.specs.Naming.{head_key_of, owner_cmp}
use Rattle.log_model.specs.Chain.{IsChain}
use Rattle.log_model.specs.Closed.{log_of}
use Rattle.log_model.specs.Rank.{front, own_entry}
use Rattle.log_model.specs.Record.{Record}
use Rattle.log_model.specs.Vector.{Dominates, Entry, Vector, join, reach, seq_of, stamp_at}
use Rattle.log_model.specs.View.{View}
use Rattle.log_model.proofs.Later.{good_of}
use Rattle.log_model.proofs.Lists.{each, each_from, each_left, from_filter, in_cons, in_filter, in_nothing}
use Rattle.log_model.proofs.Owners.{owner_itself}
use Rattle.log_model.proofs.Part.{found_stamp}
use Rattle.log_model.proofs.Weights.{Sorted, sorted_front}
use Rattle.turn_model.specs.Basis.{Basis, Holding, HoldsAll, fresh_basis, nothing_held}
use Rattle.turn_model.specs.Known.{EndsAt, IsVerified}
use Rattle.dht_ids.specs.declared.post.Post.{Post}
use Rattle.agent_model.specs.Agent.{joined, kept_of}
use Rattle.agent_model.specs.Standing.{going_on}
use Rattle.session_model.specs.Sessions.{Session}
use Rattle.session_laws.specs.Loading.{IsSnapshotOf}
use Rattle.session_laws.proofs.Starting.{joined_front}
use Rattle.world_model.specs.Agents.{HssAgent, IsHssKept, HssKept, own_hss_key, own_reach, hss_sealed}
use Rattle.world_model.specs.Keepers.{Keeper}
use Rattle.world_model.specs.World.{World, Participant, participant}
use Rattle.world_model.specs.GhostState.{Began, Knowing, GhostState, knowing_of, known_of}
use Rattle.world_model.specs.Steps.{heads_by}
use Rattle.world_laws.specs.Invariant.{IsSavedWell, IsSoundKept, IsSoundKeptIn, IsSoundSession, NamesOneOf, SignsOnce, sealed_with}
use Rattle.world_laws.specs.Invariant.KeepsUp.{grown}
use Rattle.world_laws.proofs.Bringing.{some_same}
use Rattle.world_laws.proofs.KnownHeads.{heads_low}
use Rattle.world_laws.proofs.MoreMet.{grows_before, more_snapshot, more_stand, more_verified, some_weaker}
use Rattle.world_laws.proofs.NotRefused.{HasEach, has_part}
use Rattle.world_laws.proofs.PublicKeys.{owner_is_key}
use Rattle.world_laws.proofs.SecondTurns.{goes_on_held, one_view}
use Rattle.agent_laws.proofs.Floors.{joined_first}
use Rattle.world_laws.proofs.TurnsKnown.{KnowsThen}
use Rattle.world_laws.proofs.TurnsSigning.{turned_to}
use Rattle.world_laws.proofs.TurnsWorld.{StaysSound}

-- the agent with so many signatures made, that floor, and what it holds and has to publish
abbrev pub after_of : HssAgent → ℕ → Vector → Holding → Option Key → List Post → Bool → HssAgent
after_of a made floor h to_load posts failed = record a { signer = record a.signer { made = made }; floor = floor; holding = h; to_load = to_load; pending = posts; has_failed = failed }

-- ---- the owner's records

abbrev is_of_log : PubKey → Record → Bool
is_of_log owner r = eq_by_cmp owner_cmp owner r.owner

pub in_more_log : (owner : PubKey) (less more : List Record) → ((r : Record) → Contains less r → Contains more r) → (r : Record) → Contains (log_of owner less) r → Contains (log_of owner more) r
in_more_log owner less more grows r c = let w = from_filter (is_of_log owner) less r c in in_filter (is_of_log owner) more r (grows r w.0) w.1

in_own_log : (owner : PubKey) (rs : List Record) (r : Record) → Contains rs r → r.owner ≡ owner → Contains (log_of owner rs) r
in_own_log owner rs r c mine = in_filter (is_of_log owner) rs r c (subst (λ (o : PubKey). eq_by_cmp owner_cmp owner o ≡ true) (sym mine) (owner_itself owner))

all_own : (owner : PubKey) (rs : List Record) → AllByRecursion (λ r. r.owner ≡ owner) rs → log_of owner rs ≡ rs
all_own owner [] h = refl
all_own owner (r ∷ rs) h = by (eq_by_cmp owner_cmp owner r.owner) (subst (λ (o : PubKey). eq_by_cmp owner_cmp owner o ≡ true) (sym h.0) (owner_itself owner)) (all_own owner rs h.1)
  where
    by : (b : Bool) → b ≡ true → log_of owner rs ≡ rs → cond b (r ∷ log_of owner rs) (log_of owner rs) ≡ r ∷ rs
    by true is rest = ap (λ (l : List Record). r ∷ l) rest
    by false is rest = cc is

pub log_with_own : (owner : PubKey) (s rs : List Record) → AllByRecursion (λ r. r.owner ≡ owner) rs → log_of owner (s ++ rs) ≡ log_of owner s ++ rs
log_with_own owner s rs h = filter-append (is_of_log owner) s rs ∙ ap (λ (l : List Record). log_of owner s ++ l) (all_own owner rs h)

-- ---- the bytes that were there

module _ (p : Participant) (k : HssKept) (saved : IsSavedWell p k) (view : View) (in_view : p.agent.view ≡ Some view) (now : Knowing) (met : List (List ℕ)) where
  -- a keeper whose agent is in a view has one
  pub kept_viewed : (P : Option View → Type 0) → IsSoundKeptIn met p now k k.view → ((v : View) → IsSoundKept met p now k v → P (Some v)) → P k.view
  kept_viewed P sound of_view = by k.view sound (saved.entered (ap is_some in_view))
    where
      by : (o : Option View) → IsSoundKeptIn met p now k o → IsTrue (is_some o) → P o
      by None h some = cc some
      by (Some v) h some = of_view v h

  -- they say what they said, of an agent that knows no more of its own log
  module _ (more : List (List ℕ)) (grows : (b : List ℕ) → Contains met b → Contains more b) (made : ℕ) (floor : Vector) (h : Holding) (to_load : Option Key) (posts : List Post) (failed : Bool) (keeper : Keeper) (work : ℕ)
      (set : List Record) (same_log : log_of (own_hss_key p.agent) set ≡ log_of (own_hss_key p.agent) now.known) where
    abbrev turned : Participant
    turned = turned_to p (after_of p.agent made floor h to_load posts failed) keeper work

    module _ (left : (b : List ℕ) → Contains (turned.left ++ heads_by k.pending) b → Contains (p.left ++ heads_by k.pending) b) where
      abbrev blocks : List (List ℕ)
      blocks = map (λ (post : Post). post.bytes) k.pending

      both : (b : List ℕ) → Contains (met ++ blocks) b → Contains (more ++ blocks) b
      both = grows_before met more grows blocks

      still_kept : (v : View) → IsSoundKept met p now k v → IsSoundKept more turned (record now { known = set }) k v
      still_kept v s = record {
        known = s.known;
        by_floor = s.by_floor;
        closed = s.closed;
        stand = more_stand (met ++ blocks) (more ++ blocks) both s.known s.stand;
        verified = more_verified (met ++ blocks) (more ++ blocks) both v (own_hss_key p.agent) k.floor now.received s.known s.verified;
        covers = s.covers;
        snapshot = some_weaker _ _ k.snapshot (λ root i. more_snapshot (met ++ blocks) (more ++ blocks) both v s.known root i) s.snapshot;
        goes_on = (s.goes_on.0, s.goes_on.1 ∙ ap (λ (l : List Record). l ++ s.goes_on.0) (sym same_log));
        heads = each_from (NamesOneOf k.signer (log_of (own_hss_key p.agent) s.known)) (turned.left ++ heads_by k.pending) (λ b c. each (NamesOneOf k.signer (log_of (own_hss_key p.agent) s.known)) (p.left ++ heads_by k.pending) b s.heads (left b c));
      }

      pub still_kept_in : IsSoundKeptIn met p now k k.view → IsSoundKeptIn more turned (record now { known = set }) k k.view
      still_kept_in sound = kept_viewed (λ (o : Option View). IsSoundKeptIn more turned (record now { known = set }) k o) sound still_kept

  -- the heads that left are over what is known
  pub heads_known : SignsOnce p k → IsHssKept k → EndsAt (stamp_at p.agent.floor (head_key_of (own_hss_key p.agent))) (log_of (own_hss_key p.agent) now.known) → IsSoundKeptIn met p now k k.view → AllByRecursion (NamesOneOf p.agent.signer (log_of (own_hss_key p.agent) now.known)) p.left
  heads_known so whole ends sound = kept_viewed (λ (o : Option View). AllByRecursion (NamesOneOf p.agent.signer (log_of (own_hss_key p.agent) now.known)) p.left) sound (λ v s.
      each_from (NamesOneOf p.agent.signer (log_of (own_hss_key p.agent) now.known)) p.left (λ b c. by_agent b (each (NamesOneOf k.signer (log_of (own_hss_key p.agent) now.known)) p.left b (low v s) c)))
    where
      by_agent : (b : List ℕ) → NamesOneOf k.signer (log_of (own_hss_key p.agent) now.known) b → NamesOneOf p.agent.signer (log_of (own_hss_key p.agent) now.known) b
      by_agent b n = (n.0, n.1, n.2, n.3 ∙ (λ i. hss_sealed (record { id = so.same.0 i; seed = so.same.1 i; sets = so.same.2 i; made = n.0 }) (own_entry n.1).1))

      low : (v : View) → IsSoundKept met p now k v → AllByRecursion (NamesOneOf k.signer (log_of (own_hss_key p.agent) now.known)) p.left
      low v s = heads_low k.signer p.agent.signer.made (own_reach p.agent) p.left v (own_hss_key p.agent) (stamp_at p.agent.floor (head_key_of (own_hss_key p.agent))) (log_of (own_hss_key p.agent) now.known) s.goes_on.0
          (owner_is_key k.signer whole.signer).size (let few = saved.agent.few in omega (arith, few)) so.left
          (subst (IsChain v (own_hss_key p.agent)) s.goes_on.1 (s.closed.chains (own_hss_key p.agent)))
          (subst (AllByRecursion (λ (r : Record). r.seq < 2 ^ 32)) s.goes_on.1 (each_from (λ (r : Record). r.seq < 2 ^ 32) (log_of (own_hss_key p.agent) s.known) (λ r c.
          let few = (good_of v s.known r s.closed (from_filter (is_of_log (own_hss_key p.agent)) s.known r c).0).spelled.few in omega (arith, few))))
          ends (omega arith)
          (subst (λ l. AllByRecursion (NamesOneOf k.signer l) p.left) s.goes_on.1 (each_left (NamesOneOf k.signer (log_of (own_hss_key p.agent) s.known)) p.left (heads_by k.pending) s.heads))

-- ---- bytes that are saved

-- what was written is known by these
module _ (p : Participant) (view : View) (now : Knowing) (met more : List (List ℕ)) (grows : (b : List ℕ) → Contains met b → Contains more b)
    (snapshot : IfSome p.agent.snapshot (IsSnapshotOf met view now.known)) (heads : AllByRecursion (NamesOneOf p.agent.signer (log_of (own_hss_key p.agent) now.known)) p.left)
    (made : ℕ) (h : Holding) (posts : List Post) (set written : List Record) (last : Record)
    (is_last : Contains written last) (owned : last.owner ≡ own_hss_key p.agent) (in_set : (r : Record) → Contains written r → Contains set r) where
  abbrev posted : List (List ℕ)
  posted = map (λ (post : Post). post.bytes) posts

  abbrev k : HssKept
  k = kept_of (after_of p.agent made (join p.agent.floor (joined h)) h None posts p.agent.has_failed)

  named : KnowsThen view (own_hss_key p.agent) p.agent.floor now.received now.known (more ++ posted) h set → (b : List ℕ) → Contains (p.left ++ sealed_with p.agent.signer (p.agent.signer.made, (own_entry last).1) ∷ []) b
      → NamesOneOf k.signer (log_of (own_hss_key p.agent) set) b
  named knows b c = ⊎_elim
      (λ old. let n = each (NamesOneOf p.agent.signer (log_of (own_hss_key p.agent) now.known)) p.left b heads old in (n.0, n.1, in_more_log (own_hss_key p.agent) now.known set knows.more n.1 n.2, n.3))
      (λ new. ⊎_elim
      (λ e. (p.agent.signer.made, last, in_own_log (own_hss_key p.agent) set last (in_set last is_last) owned, sym e))
      (λ none. absurd (in_nothing b none))
      (in_cons (sealed_with p.agent.signer (p.agent.signer.made, (own_entry last).1)) [] b new))
      (Contains-append_cases p.left (sealed_with p.agent.signer (p.agent.signer.made, (own_entry last).1) ∷ []) b c)

  pub new_kept_sound : (q : Participant) → own_hss_key q.agent ≡ own_hss_key p.agent → KnowsThen view (own_hss_key p.agent) p.agent.floor now.received now.known (more ++ posted) h set
      → ((b : List ℕ) → Contains (q.left ++ heads_by posts) b → Contains (p.left ++ sealed_with p.agent.signer (p.agent.signer.made, (own_entry last).1) ∷ []) b)
      → (known rest : List Record) → log_of (own_hss_key p.agent) set ≡ log_of (own_hss_key p.agent) known ++ rest → IsSoundKept more q (record now { known = known }) k view
  new_kept_sound q same_own knows left known rest goes_on = record {
    known = set;
    by_floor = knows.by_floor;
    closed = knows.closed;
    stand = knows.stand;
    verified = subst (λ (o : PubKey). IsVerified (more ++ posted) view o (join p.agent.floor (joined h)) now.received set) (sym same_own) knows.verified;
    covers = knows.covers;
    snapshot = some_weaker _ _ p.agent.snapshot (λ root i. within (more_snapshot met (more ++ posted) (λ b c. Contains-append_left more posted b (grows b c)) view now.known root i)) snapshot;
    goes_on = (rest, subst (λ (o : PubKey). log_of o set ≡ log_of o known ++ rest) (sym same_own) goes_on);
    heads = each_from (NamesOneOf k.signer (log_of (own_hss_key q.agent) set)) (q.left ++ heads_by posts) (λ b c. subst (λ (o : PubKey). NamesOneOf k.signer (log_of o set) b) (sym same_own) (named knows b (left b c)));
  }
    where
      within : {root : Key} → IsSnapshotOf (more ++ posted) view now.known root → IsSnapshotOf (more ++ posted) view set root
      within i = record { made = i.made; spelled = i.spelled; named = i.named; blocks = i.blocks; below = i.below; stands = i.stands; within = λ r c. knows.more r (i.within r c) }

-- ---- open sessions

each_dominates : (v w : Vector) → HasEach v w → Dominates v w
each_dominates v w has log = ⊎_elim
    (λ none. let zero : seq_of w log ≡ 0 = ap reach none in omega (arith, zero))
    (λ f.
    let le : f.0.1.seq ≤ seq_of v f.0.0 = each (λ (e : Entry). e.1.seq ≤ seq_of v e.0) w f.0 has f.1 in
    let at : seq_of w log ≡ f.0.1.seq = ap reach f.3 in
    let same : seq_of v f.0.0 ≡ seq_of v log = ap (λ (k : Key). seq_of v k) f.2 in
    omega (arith, le, at, same))
    (found_stamp w log)

module _ (w : World) (st : GhostState) (p : Participant) (is_p : participant w p.name ≡ Some p) (view : View) (in_view : p.agent.view ≡ Some view) (basis : Option Basis)
    (met : List (List ℕ)) (h : Holding) (set : List Record) (knows : KnowsThen view (own_hss_key p.agent) p.agent.floor (knowing_of st p.name).received (knowing_of st p.name).known met h set)
    (basis_is : h.basis ≡ (going_on p.agent basis).basis) (made : ℕ) (posts : List Post) (failed : Bool) (s : Session) (b : Began) (its : IsSoundSession w st s b)
    (by_is : s.by ≡ p.name) (viewed : p.agent.view ≡ Some s.standing.view) where
  abbrev now : HssAgent
  now = after_of p.agent made (join p.agent.floor (joined h)) h None posts failed

  one : its.by ≡ p
  one = some_same its.by p (sym its.is_by ∙ ap (participant w) by_is ∙ is_p)

  view_is : view ≡ s.standing.view
  view_is = one_view view s.standing.view (sym in_view ∙ viewed)

  front_is : joined h ≡ front set
  front_is = joined_front view set h knows.holds

  still_fresh : (its.by.agent.to_load ≡ None) × (its.by.agent.holding.basis ≡ fresh_basis) → (now.to_load ≡ None) × (now.holding.basis ≡ fresh_basis)
  still_fresh f =
      let its_now : (p.agent.to_load ≡ None) × (p.agent.holding.basis ≡ fresh_basis) = subst (λ (o : Participant). (o.agent.to_load ≡ None) × (o.agent.holding.basis ≡ fresh_basis)) one f in
      (refl, basis_is ∙ ap (λ (x : Holding). x.basis) (goes_on_held p.agent basis its_now.0) ∙ its_now.1)

  known_then : (r : Record) → Contains b.knew r → Contains set r
  known_then r c = knows.more r (subst (λ (n : List ℕ). Contains (known_of st n) r) by_is (its.known r c))

  goes_as_far : Dominates (joined h) s.standing.held
  goes_as_far log = by its.knows.holds
    where
      held_is : seq_of s.standing.held log ≡ seq_of (joined its.of) log
      held_is = ap (λ (v : Vector). seq_of v log) its.held

      by : (its.of ≡ nothing_held) ⊎ HoldsAll s.standing.view b.knew its.of → seq_of s.standing.held log ≤ seq_of (joined h) log
      by (inl nothing) = let none : seq_of (joined its.of) log ≡ 0 = ap (λ (x : Holding). seq_of (joined x) log) nothing in omega (arith, held_is, none)
      by (inr all) =
          let its_front : seq_of (joined its.of) log ≡ seq_of (front b.knew) log = ap (λ (v : Vector). seq_of v log) (joined_front s.standing.view b.knew its.of all) in
          let far = each_dominates (front set) (front b.knew) (has_part view set knows.closed b.knew known_then) log in
          let same : seq_of (joined h) log ≡ seq_of (front set) log = ap (λ (v : Vector). seq_of v log) front_is in
          omega (arith, held_is, its_front, far, same)

  pub stays_sound : StaysSound s b its.of now set
  stays_sound = record {
    known = known_then;
    floor = λ log.
        let old : seq_of s.standing.floor log ≤ seq_of p.agent.floor log = subst (λ (o : Participant). seq_of s.standing.floor log ≤ seq_of o.agent.floor log) one (its.floor log) in
        let first = joined_first log p.agent.floor (joined h) (subst Sorted (sym front_is) (sorted_front set)) in
        omega (arith, old, first);
    keeps_up = grown refl (subst (λ (v : View). HoldsAll v set h) view_is knows.holds) goes_as_far;
    anew = λ some. still_fresh (its.anew some);
    stays_fresh = λ fresh. still_fresh (its.stays_fresh fresh);
  }
