-- What a session takes without asking was met, and has its name; so memory may run out after it.
use Rattle.std.proofs.Common.{◌≡◌, ◌⊎◌, inl, inr, ⊎_elim, ℕ, Bool, true, false, cond, ◌&&◌, not, List, [], ◌∷◌, ◌++◌, Option, Some, None, Ok, refl, sym, ap, ◌∙◌, subst, Contains}
use Rattle.std.specs.List.{AllByRecursion, find}
use Rattle.std.specs.Map.{lookup}
use Rattle.std.specs.Option.{option_map_or}
use Rattle.std.proofs.lemmas.List.Elements.{Contains-append_left, Contains-append_right, Contains-append_cases}
use Rattle.ring_model.proofs.Lists.{filter_gives, all_weaker}
use Rattle.ivy_base.specs.declared.key.Key.{Key}
use Rattle.ivy_base.specs.Naming.{name}
use Rattle.tree_model.specs.Tree.{same_key}
use Rattle.tree_model.proofs.Keys.{same_key_is}
use Rattle.tree_model.proofs.Sound.{both_true}
use Rattle.dhash_model.specs.Cache.{block_of, moved_to_front, others, keys_equal as same_cached}
use Rattle.block_cache.specs.Blocks.{IsCache}
use Rattle.block_cache.proofs.Pairs.{found_named as named_in_cache, moved_valid}
use Rattle.dhash_model.specs.Signed.{hss_judged}
use Rattle.log_model.proofs.Lists.{in_cons, in_nothing}
use Rattle.log_model.specs.Vector.{Entry}
use Rattle.dht_ids.specs.declared.ask.Heard.{Heard}
use Rattle.dht_ids.specs.declared.post.Post.{Post}
use Rattle.agent_model.specs.Agent.{is_head}
use Rattle.session_model.specs.Brought.{BlockOf, Brought, Part, all_heads, brought_in, heads_of}
use Rattle.session_model.specs.Sessions.{Cache, Session, Takes, TakesSome, pending_block}
use Rattle.session_model.specs.Sessions.Takes.{posted, cached}
use Rattle.session_model.specs.Sessions.TakesSome.{none as some_none, more as some_more}
use Rattle.world_laws.specs.Invariant.{IsMetPost}

-- the bytes were met, and that is their name
abbrev pub IsMetBlock : List (List ℕ) → Key → List ℕ → Type 0
IsMetBlock met key bytes = (name bytes ≡ key) × Contains met bytes

module _ (met : List (List ℕ)) where
  -- ---- what is pending, and what is cached

  pending_met : (posts : List Post) (key : Key) (bytes : List ℕ) → AllByRecursion (IsMetPost met) posts → pending_block key posts ≡ Some bytes → IsMetBlock met key bytes
  pending_met [] key bytes h is = cc is
  pending_met (p ∷ posts) key bytes h is = by (not (is_head p.kind) && same_key p.key key) refl is (pending_met posts key bytes h.1)
    where
      head_or_not : (b : Bool) → not b ≡ true → b ≡ true → ⊥
      head_or_not true f g = cc f
      head_or_not false f g = cc g

      by : (b : Bool) → (not (is_head p.kind) && same_key p.key key) ≡ b → option_map_or (λ (q : Post). Some q.bytes) (cond b (Some p) (find (λ q. not (is_head q.kind) && same_key q.key key) posts)) None ≡ Some bytes
          → (pending_block key posts ≡ Some bytes → IsMetBlock met key bytes) → IsMetBlock met key bytes
      by true e found later =
          let tests = both_true (not (is_head p.kind)) (same_key p.key key) e in
          let same : p.bytes ≡ bytes = cc found in
          let named : p.key ≡ name p.bytes = ⊎_elim (λ head. absurd (head_or_not (is_head p.kind) tests.0 head)) (λ n. n) h.0.1 in
          subst (IsMetBlock met key) same (sym named ∙ same_key_is p.key key tests.1, h.0.0)
      by false e found later = later found

  abbrev pub IsMetCache : Cache → Type 0
  IsMetCache cache = IsCache cache × AllByRecursion (λ e. Contains met e.1) cache

  cached_in : (cache : Cache) (key : Key) (bytes : List ℕ) → AllByRecursion (λ e. Contains met e.1) cache → lookup (same_cached key) cache ≡ Some bytes → Contains met bytes
  cached_in [] key bytes h is = cc is
  cached_in (e ∷ es) key bytes h is = by (same_cached key e.0) is (cached_in es key bytes h.1)
    where
      by : (b : Bool) → cond b (Some e.1) (lookup (same_cached key) es) ≡ Some bytes → (lookup (same_cached key) es ≡ Some bytes → Contains met bytes) → Contains met bytes
      by true found later = let same : e.1 ≡ bytes = cc found in subst (Contains met) same h.0
      by false found later = later found

  cached_met : (cache : Cache) (key : Key) (bytes : List ℕ) → IsMetCache cache → block_of key cache ≡ Some bytes → IsMetBlock met key bytes
  cached_met cache key bytes h is = (sym (named_in_cache key bytes cache h.0 is), cached_in cache key bytes h.1 is)

  moved_met : (cache : Cache) (key : Key) → IsMetCache cache → IsMetCache (moved_to_front key cache)
  moved_met cache key h = (moved_valid key cache h.0, by (block_of key cache) refl)
    where
      by : (o : Option (List ℕ)) → block_of key cache ≡ o → AllByRecursion (λ (e : Key × List ℕ). Contains met e.1) (option_map_or (λ block. (key, block) ∷ others key cache) o cache)
      by None is = h.1
      by (Some block) is = (cached_in cache key block h.1 is, filter_gives (λ e. not (same_cached key e.0)) (λ e. Contains met e.1) cache (all_weaker _ _ cache (λ e m pass. m) h.1))

  -- ---- parts

  -- it has no head more, and each block more was met
  pub record AreTaken (before after : List Part) : Type 0 where
    pub heads : (e : Entry) → Contains (all_heads (brought_in after)) e → Contains (all_heads (brought_in before)) e
    pub blocks : (key : Key) (bytes : List ℕ) → Contains (brought_in after) (BlockOf key (Ok bytes)) → Contains (brought_in before) (BlockOf key (Ok bytes)) ⊎ IsMetBlock met key bytes

  brought_more : (parts : List Part) (p : Part) → brought_in (parts ++ p ∷ []) ≡ brought_in parts ++ p.brought ∷ []
  brought_more [] p = refl
  brought_more (q ∷ parts) p = ap (λ (l : List Brought). q.brought ∷ l) (brought_more parts p)

  heads_more : (brought : List Brought) (b : Brought) (e : Entry) → heads_of b ≡ [] → Contains (all_heads (brought ++ b ∷ [])) e → Contains (all_heads brought) e
  heads_more [] b e none h = subst (λ l. Contains l e) (ap (λ l. l ++ []) none) h
  heads_more (c ∷ brought) b e none h = ⊎_elim
      (λ f. Contains-append_left (heads_of c) (all_heads brought) e f)
      (λ f. Contains-append_right (heads_of c) (all_heads brought) e (heads_more brought b e none f))
      (Contains-append_cases (heads_of c) (all_heads (brought ++ b ∷ [])) e h)

  same_block : (a b : Key) (x y : List ℕ) → BlockOf a (Ok x) ≡ BlockOf b (Ok y) → (a ≡ b) × (x ≡ y)
  same_block a b x y e = (cc e, cc e)

  one_taken : (parts : List Part) (key : Key) (bytes : List ℕ) (asks : List Heard) → IsMetBlock met key bytes → AreTaken parts (parts ++ record { brought = BlockOf key (Ok bytes); asks = asks } ∷ [])
  one_taken parts key bytes asks is_met = record {
    heads = λ e h. heads_more (brought_in parts) (BlockOf key (Ok bytes)) e refl (subst (λ l. Contains (all_heads l) e) (brought_more parts _) h);
    blocks = λ k x h. by k x (Contains-append_cases (brought_in parts) (BlockOf key (Ok bytes) ∷ []) (BlockOf k (Ok x)) (subst (λ l. Contains l (BlockOf k (Ok x))) (brought_more parts _) h));
  }
    where
      by : (k : Key) (x : List ℕ) → Contains (brought_in parts) (BlockOf k (Ok x)) ⊎ Contains (BlockOf key (Ok bytes) ∷ []) (BlockOf k (Ok x)) → Contains (brought_in parts) (BlockOf k (Ok x)) ⊎ IsMetBlock met k x
      by k x (inl old) = inl old
      by k x (inr new) = ⊎_elim
          (λ e. let same = same_block key k bytes x e in inr (subst (λ (a : Key). IsMetBlock met a x) same.0 (subst (IsMetBlock met key) same.1 is_met)))
          (λ more. absurd (in_nothing (BlockOf k (Ok x)) more))
          (in_cons (BlockOf key (Ok bytes)) [] (BlockOf k (Ok x)) new)

  taken_on : (a b c : List Part) → AreTaken a b → AreTaken b c → AreTaken a c
  taken_on a b c f g = record { heads = λ e h. f.heads e (g.heads e h); blocks = λ key bytes h. ⊎_elim (λ old. f.blocks key bytes old) (λ new. inr new) (g.blocks key bytes h) }

  -- ---- what is taken

  -- the session with other parts, and the cache then
  pub record HasTaken (s t : Session) (after : Cache) : Type 0 where
    pub parts : List Part
    pub current : List Heard
    pub is : t ≡ record s { parts = parts; current = current }
    pub taken : AreTaken s.parts parts
    pub cache : IsMetCache after

  takes_so : (r : ℕ) (s t : Session) (cache after : Cache) → AllByRecursion (IsMetPost met) s.standing.pending → IsMetCache cache → Takes hss_judged r s cache t after → HasTaken s t after
  takes_so r s _ cache _ pending h (posted key bytes wants none is) =
      record { parts = _; current = []; is = refl; taken = one_taken s.parts key bytes [] (pending_met s.standing.pending key bytes pending is); cache = h }
  takes_so r s _ cache _ pending h (cached key bytes wants none missing is) =
      record { parts = _; current = []; is = refl; taken = one_taken s.parts key bytes [] (cached_met cache key bytes h is); cache = moved_met cache key h }

  pub takes_some_so : {r : ℕ} {s t : Session} {cache after : Cache} → TakesSome hss_judged r s cache t after → AllByRecursion (IsMetPost met) s.standing.pending → IsMetCache cache → HasTaken s t after
  takes_some_so (some_none {s} {cache}) pending h = record { parts = s.parts; current = s.current; is = refl; taken = record { heads = λ e c. c; blocks = λ key bytes c. inl c }; cache = h }
  takes_some_so {r = r} (some_more {s} {mid} {t} {cache} {between} {after} first rest) pending h =
      let one = takes_so r s mid cache between pending h first in
      let others = takes_some_so rest (subst (λ (u : Session). AllByRecursion (IsMetPost met) u.standing.pending) (sym one.is) pending) one.cache in
      record {
        parts = others.parts;
        current = others.current;
        is = others.is ∙ ap (λ (u : Session). record u { parts = others.parts; current = others.current }) one.is;
        taken = taken_on s.parts one.parts others.parts one.taken (subst (λ (u : Session). AreTaken u.parts others.parts) one.is others.taken);
        cache = others.cache;
      }
