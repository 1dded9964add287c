-- A refresh is given the block that it wants.
use Rattle.std.proofs.Common.{◌≡◌, ℕ, ◌+◌, ◌-◌, ◌*◌, ◌<◌, not, ◌&&◌, cond, Bool, true, false, List, [], ◌∷◌, ◌++◌, find, Option, Some, None, Result, Ok, Err, IfOk, refl, sym, ap, ◌∙◌, subst, ⊎_elim}
use Rattle.std.specs.List.{AllByRecursion}
use Rattle.std.specs.Option.{option_map_or}
use Rattle.ivy_base.specs.declared.key.Key.{Key}
use Rattle.ivy_base.specs.declared.memory.Memory.{Memory}
use Rattle.ivy_base.specs.Naming.{name}
use Rattle.tree_model.specs.Tree.{same_key}
use Rattle.tree_model.proofs.Keys.{same_key_is}
use Rattle.tree_model.proofs.Sound.{both_true}
use Rattle.dht_ids.specs.declared.post.Post.{Post}
use Rattle.dhash_client.specs.GetHead.{Judges}
use Rattle.fs_tree.specs.declared.basis.Basis.{Basis as Kept}
use Rattle.agent_model.specs.Agent.{is_head}
use Rattle.agent_model.specs.SavedBytes.{HasItsName}
use Rattle.session_model.specs.Brought.{BlockOf, Part, Content}
use Rattle.session_model.specs.Refreshing.{Needs, counting, start_of}
use Rattle.session_model.specs.Sessions.{pending_block}
use Rattle.snapshot_loading.specs.Loading.{load_left, wanted_of}
use Rattle.log_fetch.specs.Fetching.{Fetching, FetchWasGiven, fetch_awaited, fetch_left, is_failed, most_asks, most_left}
use Rattle.view_refresh.specs.declared.refresh.Loading.{Loading}
use Rattle.view_refresh.specs.declared.refresh.State.{State}
use Rattle.view_refresh.specs.declared.refresh.State.TheVariants as state
use Rattle.view_refresh.specs.States.{IsSound, IsInProgress, Refreshing, left_in, loads_in, wanted_in}
use Rattle.view_refresh.specs.Behind.{IsFetchingOver}
use Rattle.view_refresh.specs.Parts.{AreNamed, AreOfOneMore, FetchGivesNext, GivesNext, IsFree, LoadTakesNext}
use Rattle.view_refresh.proofs.Falling.{is_given, some_to_load}
use Rattle.view_refresh.proofs.Standing.{fetch_stands, load_stands, one_more}

same_some : {T : Type 0} (x y : T) → Some x ≡ Some y → x ≡ y
same_some x y e = cc e

-- ---- the snapshot

module _ {J : Type 0} (judges : Judges J) (r : Refreshing J) where
  pub load_gives : (l : Loading) → IsInProgress l → (bytes : List ℕ) → (new : State J) → IsFree judges r.judge r.replicas r.entries (most_left + most_asks * (load_left l.load - 1)) (AreOfOneMore l (Ok bytes)) new
      → GivesNext judges r (state.Loading l) bytes new
  load_gives l wants bytes new free = (
    (
      (refl, refl, refl, refl),
      free.free,
      free.unfailed,
      λ s parts current key want h. (
        h.at.1,
        load_stands s parts l h.at.0 wants key want,
        record { pending = h.pending; at = free.at s (parts ++ record { brought = BlockOf key (Ok bytes); asks = [] } ∷ []) (parts, [], key, want, h.at.0, refl); sound = free.sound },
      ),
    ),
    (free.sound, λ loads. refl),
    is_given most_left (left_in new) (load_left l.load) free.left (some_to_load l.load wants.key wants.wanted),
  )

  module _ (l : Loading) (bytes copy : List ℕ) (same : copy ≡ bytes) where
    abbrev IsFreeBehind : List ℕ → State J → Type 0
    IsFreeBehind block = IsFree judges r.judge r.replicas r.entries (most_left + most_asks * (load_left l.load - 1)) (AreOfOneMore l (Ok block))

    -- of which a copy was given
    pub load_gives_copy : IsInProgress l → (given : Result (State J) Memory) → IfOk given (IsFreeBehind copy) → IfOk given (GivesNext judges r (state.Loading l) bytes)
    load_gives_copy wants (Ok new) free = load_gives l wants bytes new (subst (λ (b : List ℕ). IsFreeBehind b new) same free)
    load_gives_copy wants (Err lacks) free = tt

    -- that a get brought, and is handed out
    pub load_takes_copy : (key : Key) → wanted_of l.load ≡ Some key → (new : State J) → IsFreeBehind copy new → LoadTakesNext judges r l (Ok bytes) (new, Some (key, bytes))
    load_takes_copy key want new free = (
      subst (λ (b : List ℕ). IsFreeBehind b new) same free,
      λ other also. ap (λ (k : Key). Some (k, bytes)) (same_some key other (sym want ∙ also)),
    )

  -- ---- the logs

  module _ (basis : Option Kept) (old new : Fetching J) (bytes : List ℕ) (given : FetchWasGiven judges old new bytes) (free : (fetch_awaited new ≡ None) × (is_failed new ≡ false)) (less : fetch_left new < fetch_left old) where
    pub fetch_gives : IsSound r.judge r.replicas r.entries (state.Fetching basis old) → GivesNext judges r (state.Fetching basis old) bytes (state.Fetching basis new)
    fetch_gives sound =
        let still : IsSound r.judge r.replicas r.entries (state.Fetching basis new) = (given.0.0 ∙ sound.0, given.0.1 ∙ sound.1, given.0.2 ∙ sound.2) in (
          (
            (refl, refl, refl, refl),
            free.0,
            free.1,
            λ s parts current key want h.
                let over : IsFetchingOver judges s parts current basis old = h.at in
                let w = given.1 s (start_of s (counting s.floor over.whole)) over.fetched current key want over.fetch in
                let p : Part = record { brought = BlockOf key (Ok bytes); asks = [] } in (
                  w.0,
                  fetch_stands judges s parts current basis old over (Needs (Content key)) w.1,
                  record {
                    pending = h.pending;
                    at =
                        record {
                          loaded = over.loaded;
                          fetched = over.fetched ++ p ∷ [];
                          parts_are = one_more parts over.loaded over.fetched p over.parts_are;
                          whole = over.whole;
                          loads = over.loads;
                          counts = over.counts;
                          fetch = w.2;
                        };
                    sound = still;
                  },
                ),
          ),
          (still, λ loads. loads),
          less,
        )

pub fetch_gives_next : {J : Type 0} (judges : Judges J) (basis : Option Kept) (old new : Fetching J) (bytes : List ℕ) → FetchWasGiven judges old new bytes → (fetch_awaited new ≡ None) × (is_failed new ≡ false) → fetch_left new < fetch_left old
    → FetchGivesNext judges basis old bytes (state.Fetching basis new)
fetch_gives_next judges basis old new bytes given free less = λ r sound. fetch_gives judges r basis old new bytes given free less sound

-- ---- a block among the posts

abbrev found_in : Key → List Post → Option Post
found_in key posts = find (λ p. not (is_head p.kind) && same_key p.key key) posts

pub none_posted : (key : Key) (posts : List Post) → None ≡ found_in key posts → None ≡ pending_block key posts
none_posted key posts e = ap (λ (o : Option Post). option_map_or (λ p. Some p.bytes) o None) e

pub is_posted : (key : Key) (posts : List Post) (post : Post) (bytes : List ℕ) → Some post ≡ found_in key posts → bytes ≡ post.bytes → Some bytes ≡ pending_block key posts
is_posted key posts post bytes e is = ap (λ (b : List ℕ). Some b) is ∙ ap (λ (o : Option Post). option_map_or (λ p. Some p.bytes) o None) e

head_or_not : (b : Bool) → not b ≡ true → b ≡ true → ⊥
head_or_not true e is = cc e
head_or_not false e is = cc is

-- each has its name
pub posted_is_named : (key : Key) (bytes : List ℕ) (posts : List Post) → AllByRecursion HasItsName posts → pending_block key posts ≡ Some bytes → key ≡ name bytes
posted_is_named key bytes [] named e = cc e
posted_is_named key bytes (p ∷ posts) named e = by (posted_is_named key bytes posts named.1) (not (is_head p.kind) && same_key p.key key) refl e
  where
    of_it : (not (is_head p.kind) && same_key p.key key) ≡ true → p.bytes ≡ bytes → key ≡ name bytes
    of_it is same =
        let both = both_true (not (is_head p.kind)) (same_key p.key key) is in
        ⊎_elim (λ head. absurd (head_or_not (is_head p.kind) both.0 head)) (λ its. sym (same_key_is p.key key both.1) ∙ its ∙ ap name same) named.0

    by : (pending_block key posts ≡ Some bytes → key ≡ name bytes) → (b : Bool) → (not (is_head p.kind) && same_key p.key key) ≡ b → option_map_or (λ (q : Post). Some q.bytes) (cond b (Some p) (found_in key posts)) None ≡ Some bytes → key ≡ name bytes
    by again true is found = of_it is (same_some p.bytes bytes found)
    by again false is found = again found

-- so the snapshot may be given it
pub may_be_given : {J : Type 0} (st : State J) (posts : List Post) (key : Key) (bytes : List ℕ) → AreNamed st posts → wanted_in st ≡ Some key → pending_block key posts ≡ Some bytes → loads_in st ≡ true → wanted_in st ≡ Some (name bytes)
may_be_given st posts key bytes named want found loads = want ∙ ap (λ (k : Key). Some k) (posted_is_named key bytes posts (named loads) found)
