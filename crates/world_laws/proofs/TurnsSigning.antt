-- What an agent has signed and what its keeper holds after a turn, whether or not names collide.
use Rattle.std.proofs.Common.{◌≡◌, ◌⊎◌, inl, inr, ⊎_elim, ℕ, ◌+◌, ◌≤◌, ◌<◌, Bool, true, false, not, List, [], ◌∷◌, ◌++◌, length, map, filter, fold, Option, Some, None, refl, sym, ap, ◌∙◌, subst, arith, Contains}
use Rattle.std.specs.Prelude.{IfSome, IsTrue}
use Rattle.std.specs.List.{AllByRecursion}
use Rattle.std.proofs.lemmas.List.{map-append}
use Rattle.std.proofs.lemmas.List.Elements.{Contains-append_left, Contains-append_right, Contains-append_cases}
use Rattle.ring_model.proofs.Lists.{all_weaker}
use Rattle.ivy_base.specs.declared.key.Key.{Key}
use Rattle.ivy_base.specs.Naming.{head_key_of}
use Rattle.log_model.specs.Rank.{own_entry}
use Rattle.log_model.specs.Record.{Record}
use Rattle.log_model.specs.Spelling.{most_records}
use Rattle.log_model.specs.Vector.{Stamp, Vector, join, seq_of}
use Rattle.log_model.specs.View.{View, IsView, is_named}
use Rattle.log_model.proofs.Lists.{each, each_append, each_from, from_filter, here, in_cons, in_nothing}
use Rattle.log_model.specs.ViewKeys.{HasKeys}
use Rattle.hash_signature_model.specs.Signer.{Signer, capacity}
use Rattle.dht_ids.specs.declared.post.Post.{Post}
use Rattle.turn_model.specs.Basis.{Holding}
use Rattle.agent_model.specs.Agent.{head_post, is_head, kept_of, record_post, with_posts}
use Rattle.agent_model.specs.SavedBytes.{ArePostsSpelled}
use Rattle.agent_model.specs.Turning.{AreNext}
use Rattle.world_model.specs.Agents.{HssAgent, IsHssKept, HssKept, hss_signing, own_hss_key, own_reach, hss_sealed}
use Rattle.world_model.specs.Keepers.{Keeper}
use Rattle.world_model.specs.World.{Participant, meets}
use Rattle.world_model.specs.Steps.{having_made, heads_by}
use Rattle.world_laws.specs.Invariant.{AreSignedOnce, SignsOnce, sealed_with}
use Rattle.world_laws.proofs.SignedAmong.{fewer_signed_once, from_met, met_then}
use Rattle.world_laws.proofs.SignedHeads.{from_map}
use Rattle.agent_laws.proofs.Floors.{IsSpelledIn, joined_first, joined_no_more, joined_spelled}

-- ---- numbers that follow one another

pub next_last : (n : ℕ) (before : List Record) (last : Record) → AreNext n (before ++ last ∷ []) → last.seq ≡ n + length (before ++ last ∷ [])
next_last n [] last h = h.0
next_last n (r ∷ before) last h = let rest = next_last (n + 1) before last h.1 in omega (arith, rest)

pub next_each : (n : ℕ) (rs : List Record) → AreNext n rs → AllByRecursion (λ r. r.seq ≤ n + length rs) rs
next_each n [] h = tt
next_each n (r ∷ rs) h = (
  let at = h.0 in omega (arith, at),
  all_weaker (λ (x : Record). x.seq ≤ n + 1 + length rs) (λ (x : Record). x.seq ≤ n + length (r ∷ rs)) rs (λ x le. omega (arith, le)) (next_each (n + 1) rs h.1),
)

-- ---- signed heads

pub other_signer : (s t : Signer) (made far : ℕ) (heads : List (List ℕ)) → s.id ≡ t.id → s.seed ≡ t.seed → s.sets ≡ t.sets → AreSignedOnce s made far heads → AreSignedOnce t made far heads
other_signer s t made far heads id seed sets h = record {
  signed = h.signed;
  spelled = h.spelled ∙ (λ i. map (λ (x : ℕ × Stamp). hss_sealed (record { id = id i; seed = seed i; sets = sets i; made = x.0 }) x.1) h.signed);
  below = h.below;
  one_each = h.one_each;
}

-- one head more, under the next number, over a record after all those
pub one_more_signed : (signer : Signer) (made far : ℕ) (heads : List (List ℕ)) → AreSignedOnce signer made far heads → (t : Stamp) → far < t.seq → AreSignedOnce signer (made + 1) t.seq (heads ++ sealed_with signer (made, t) ∷ [])
one_more_signed signer made far heads h t ahead = record {
  signed = h.signed ++ (made, t) ∷ [];
  spelled = ap (λ (l : List (List ℕ)). l ++ sealed_with signer (made, t) ∷ []) h.spelled ∙ sym (map-append (sealed_with signer) h.signed ((made, t) ∷ []));
  below = each_append (λ (x : ℕ × Stamp). (x.0 < made + 1) × (x.1.seq ≤ t.seq)) h.signed ((made, t) ∷ [])
      (all_weaker (λ (x : ℕ × Stamp). (x.0 < made) × (x.1.seq ≤ far)) (λ (x : ℕ × Stamp). (x.0 < made + 1) × (x.1.seq ≤ t.seq)) h.signed (λ x b. (let low = b.0 in omega (arith, low), let low = b.1 in omega (arith, low, ahead))) h.below)
      ((omega arith, omega arith), tt);
  one_each = one_each;
}
  where
    new : ℕ × Stamp
    new = (made, t)

    cases : (x : ℕ × Stamp) → Contains (h.signed ++ (made, t) ∷ []) x → Contains h.signed x ⊎ (new ≡ x)
    cases x c = ⊎_elim (λ old. inl old) (λ at. ⊎_elim (λ e. inr e) (λ none. absurd (in_nothing x none)) (in_cons (made, t) [] x at)) (Contains-append_cases h.signed ((made, t) ∷ []) x c)

    apart : (x : ℕ × Stamp) → Contains h.signed x → (x.0 ≡ made) ⊎ (x.1.seq ≡ t.seq) → ⊥
    apart x c same =
        let low = each (λ (y : ℕ × Stamp). (y.0 < made) × (y.1.seq ≤ far)) h.signed x h.below c in
        ⊎_elim (λ e. let less = low.0 in absurd (omega (arith, less, e))) (λ e. let less = low.1 in absurd (omega (arith, less, e, ahead))) same

    one_each : (x y : ℕ × Stamp) → Contains (h.signed ++ (made, t) ∷ []) x → Contains (h.signed ++ (made, t) ∷ []) y → (x.0 ≡ y.0) ⊎ (x.1.seq ≡ y.1.seq) → x ≡ y
    one_each x y x_in y_in same = ⊎_elim
        (λ x_old. ⊎_elim (λ y_old. h.one_each x y x_old y_old same) (λ y_is. absurd (apart x x_old (subst (λ (z : ℕ × Stamp). (x.0 ≡ z.0) ⊎ (x.1.seq ≡ z.1.seq)) (sym y_is) same))) (cases y y_in))
        (λ x_is. ⊎_elim
        (λ y_old. absurd (apart y y_old (⊎_elim (λ e. inl (sym e)) (λ e. inr (sym e)) (subst (λ (z : ℕ × Stamp). (z.0 ≡ y.0) ⊎ (z.1.seq ≡ y.1.seq)) (sym x_is) same))))
        (λ y_is. sym x_is ∙ y_is)
        (cases y y_in))
        (cases x x_in)

-- ---- posts

-- the only head among the posts of records and a new head is that
pub only_head : (pending : List Post) (written : List Record) (head : Post) (b : List ℕ) → Contains (heads_by (with_posts pending written head)) b → b ≡ head.bytes
only_head pending written head b c =
    let found = from_map (λ (post : Post). post.bytes) (filter (λ (post : Post). is_head post.kind) (with_posts pending written head)) b c in
    let its = from_filter (λ (post : Post). is_head post.kind) (with_posts pending written head) found.0 found.1 in
    found.2 ∙ ap (λ (post : Post). post.bytes) (by found.0 its.1 (Contains-append_cases (others ++ map record_post written) (head ∷ []) found.0 its.0))
  where
    others : List Post
    others = filter (λ (post : Post). not (is_head post.kind)) pending

    differ : (t : Bool) → t ≡ true → not t ≡ true → ⊥
    differ true e f = cc f
    differ false e f = cc e

    no_record : (post : Post) (r : Record) → post ≡ record_post r → is_head post.kind ≡ true → ⊥
    no_record post r e h = let no : is_head post.kind ≡ false = ap (λ (x : Post). is_head x.kind) e in cc (sym no ∙ h)

    by : (post : Post) → is_head post.kind ≡ true → Contains (others ++ map record_post written) post ⊎ Contains (head ∷ []) post → post ≡ head
    by post is (inl c) = ⊎_elim
        (λ old. absurd (differ (is_head post.kind) is (from_filter (λ (x : Post). not (is_head x.kind)) pending post old).1))
        (λ new. let r = from_map record_post written post new in absurd (no_record post r.0 r.2 is))
        (Contains-append_cases others (map record_post written) post c)
    by post is (inr c) = ⊎_elim (λ e. sym e) (λ none. absurd (in_nothing post none)) (in_cons head [] post c)

-- ---- the participant then

-- with another agent and keeper, and what its agent has to publish counted as made
abbrev pub turned_to : Participant → HssAgent → Keeper → ℕ → Participant
turned_to p after keeper work = record (having_made (record p { agent = after; keeper = keeper }) after.pending) { work = work }

module _ (p : Participant) (k : HssKept) (so : SignsOnce p k) where
  abbrev a : HssAgent
  a = p.agent

  -- the heads that left it then were among those that left it, where nothing new is to be published
  pub same_left : (b : List ℕ) → Contains (fold meets p.left (heads_by a.pending)) b → Contains p.left b
  same_left b h = ⊎_elim (λ c. c) (λ c. each (Contains p.left) (heads_by a.pending) b so.pending c) (from_met p.left (heads_by a.pending) b h)

  pub left_before : (b : List ℕ) → Contains (fold meets p.left (heads_by a.pending) ++ heads_by k.pending) b → Contains (p.left ++ heads_by k.pending) b
  left_before b h = ⊎_elim (λ c. Contains-append_left p.left (heads_by k.pending) b (same_left b c)) (λ c. Contains-append_right p.left (heads_by k.pending) b c)
      (Contains-append_cases (fold meets p.left (heads_by a.pending)) (heads_by k.pending) b h)

  pub left_once : AreSignedOnce a.signer a.signer.made (own_reach a) p.left
  left_once = other_signer k.signer a.signer a.signer.made (own_reach a) p.left so.same.0 so.same.1 so.same.2 so.left

  -- nothing was written
  module _ (floor : Vector) (h : Holding) (to_load : Option Key) (failed : Bool) (keeper : Keeper) (work : ℕ) (same_reach : seq_of floor (head_key_of (own_hss_key a)) ≡ own_reach a) where
    abbrev pub still_agent : HssAgent
    still_agent = record a { floor = floor; holding = h; to_load = to_load; has_failed = failed }

    abbrev q : Participant
    q = turned_to p still_agent keeper work

    at_reach : (s : Signer) (made : ℕ) (heads : List (List ℕ)) → AreSignedOnce s made (own_reach a) heads → AreSignedOnce s made (own_reach q.agent) heads
    at_reach s made heads h = subst (λ n. AreSignedOnce s made n heads) (sym same_reach) h

    pub still_signs : SignsOnce q k
    still_signs = record {
      same = so.same;
      saved = so.saved;
      reaches = let le = so.reaches in omega (arith, le, same_reach);
      left = at_reach k.signer a.signer.made q.left (fewer_signed_once k.signer a.signer.made (own_reach a) p.left so.left q.left same_left);
      kept = fewer_signed_once k.signer k.signer.made (seq_of k.floor (head_key_of (own_hss_key a))) (p.left ++ heads_by k.pending) so.kept (q.left ++ heads_by k.pending) left_before;
      pending = each_from (Contains q.left) (heads_by a.pending) (λ b c. met_then p.left (heads_by a.pending) b c);
    }

  -- records were written, and are saved so
  module _ (floor : Vector) (h : Holding) (before : List Record) (last : Record) (ahead : own_reach a < last.seq) (reached : seq_of floor (head_key_of (own_hss_key a)) ≡ last.seq) where
    abbrev head : Post
    head = head_post hss_signing a.signer (own_entry last).1

    abbrev posts : List Post
    posts = with_posts a.pending (before ++ last ∷ []) head

    abbrev pub next_signer : Signer
    next_signer = record a.signer { made = a.signer.made + 1 }

    abbrev pub wrote_agent : HssAgent
    wrote_agent = record a { signer = next_signer; floor = floor; holding = h; to_load = None; pending = posts }

    all_once : AreSignedOnce next_signer (a.signer.made + 1) last.seq (p.left ++ head.bytes ∷ [])
    all_once = other_signer a.signer next_signer (a.signer.made + 1) last.seq (p.left ++ head.bytes ∷ []) refl refl refl
        (one_more_signed a.signer a.signer.made (own_reach a) p.left left_once (own_entry last).1 ahead)

    once : (less : List (List ℕ)) → ((b : List ℕ) → Contains less b → Contains (p.left ++ head.bytes ∷ []) b) → AreSignedOnce next_signer (a.signer.made + 1) (seq_of floor (head_key_of (own_hss_key a))) less
    once less all = subst (λ n. AreSignedOnce next_signer (a.signer.made + 1) n less) (sym reached)
        (fewer_signed_once next_signer (a.signer.made + 1) last.seq (p.left ++ head.bytes ∷ []) all_once less all)

    is_new : (b : List ℕ) → Contains (heads_by posts) b → Contains (p.left ++ head.bytes ∷ []) b
    is_new b c = Contains-append_right p.left (head.bytes ∷ []) b (subst (Contains (head.bytes ∷ [])) (sym (only_head a.pending (before ++ last ∷ []) head b c)) (here head.bytes []))

    is_old : (b : List ℕ) → Contains p.left b → Contains (p.left ++ head.bytes ∷ []) b
    is_old b c = Contains-append_left p.left (head.bytes ∷ []) b c

    pub new_left : (b : List ℕ) → Contains (fold meets p.left (heads_by posts)) b → Contains (p.left ++ head.bytes ∷ []) b
    new_left b c = ⊎_elim (is_old b) (is_new b) (from_met p.left (heads_by posts) b c)

    pub new_kept : (b : List ℕ) → Contains (fold meets p.left (heads_by posts) ++ heads_by posts) b → Contains (p.left ++ head.bytes ∷ []) b
    new_kept b c = ⊎_elim (new_left b) (is_new b) (Contains-append_cases (fold meets p.left (heads_by posts)) (heads_by posts) b c)

    pub lost_kept : (b : List ℕ) → Contains (fold meets p.left (heads_by a.pending) ++ heads_by posts) b → Contains (p.left ++ head.bytes ∷ []) b
    lost_kept b c = ⊎_elim (λ old. is_old b (same_left b old)) (is_new b) (Contains-append_cases (fold meets p.left (heads_by a.pending)) (heads_by posts) b c)

    pub wrote_signs : (keeper : Keeper) (work : ℕ) → SignsOnce (turned_to p wrote_agent keeper work) (kept_of wrote_agent)
    wrote_signs keeper work = record {
      same = (refl, refl, refl);
      saved = omega arith;
      reaches = omega arith;
      left = once (fold meets p.left (heads_by posts)) new_left;
      kept = once (fold meets p.left (heads_by posts) ++ heads_by posts) new_kept;
      pending = each_from (Contains (fold meets p.left (heads_by posts))) (heads_by posts) (λ b c. met_then p.left (heads_by posts) b c);
    }

    -- or were lost, and the keeper has them
    pub lost_signs : (floor_then : Vector) (h_then : Holding) (keeper : Keeper) (work : ℕ) → seq_of floor_then (head_key_of (own_hss_key a)) ≡ own_reach a
        → SignsOnce (turned_to p (record a { floor = floor_then; holding = h_then; to_load = None; has_failed = true }) keeper work) (kept_of wrote_agent)
    lost_signs floor_then h_then keeper work same_reach = record {
      same = (refl, refl, refl);
      saved = omega arith;
      reaches = omega (arith, same_reach, reached, ahead);
      left = subst (λ n. AreSignedOnce next_signer a.signer.made n (fold meets p.left (heads_by a.pending))) (sym same_reach)
          (fewer_signed_once next_signer a.signer.made (own_reach a) p.left (other_signer a.signer next_signer a.signer.made (own_reach a) p.left refl refl refl left_once) (fold meets p.left (heads_by a.pending)) same_left);
      kept = once (fold meets p.left (heads_by a.pending) ++ heads_by posts) lost_kept;
      pending = each_from (Contains (fold meets p.left (heads_by a.pending))) (heads_by a.pending) (λ b c. met_then p.left (heads_by a.pending) b c);
    }

-- ---- what may be saved

-- with that joined into its floor, and so many signatures made
module _ (a : HssAgent) (view : View) (in_view : a.view ≡ Some view) (kept : IsHssKept (kept_of a)) (f : Vector) (spelled : IsSpelledIn view f) (few : seq_of f (head_key_of (own_hss_key a)) ≤ most_records) where
  its_view : IsView view × HasKeys view × Contains view.members (own_hss_key a) × AllByRecursion (λ e. IsTrue (is_named view e.0)) a.floor
  its_view = subst (λ (o : Option View). IfSome o (λ v. IsView v × HasKeys v × Contains v.members (own_hss_key a) × AllByRecursion (λ e. IsTrue (is_named v e.0)) a.floor)) in_view kept.view

  both : IsSpelledIn view (join a.floor f)
  both = joined_spelled view its_view.0 a.floor f (record { spelled = kept.floor; named = its_view.3 }) spelled

  pub kept_then : (made : ℕ) → made ≤ capacity a.signer.sets → (posts : List Post) → ArePostsSpelled posts → IsHssKept (record { signer = record a.signer { made = made }; view = a.view; floor = join a.floor f; pending = posts; snapshot = a.snapshot })
  kept_then made fits posts posts_spelled = record {
    signer = record { id = kept.signer.id; seed = kept.signer.seed; sets = kept.signer.sets; made = fits };
    some = let first = joined_first (head_key_of (own_hss_key a)) a.floor f spelled.spelled.in_order in let some = kept.some in omega (arith, first, some);
    few = joined_no_more (head_key_of (own_hss_key a)) a.floor f spelled.spelled.in_order most_records kept.few few;
    floor = both.spelled;
    view = subst (λ (o : Option View). IfSome o (λ v. IsView v × HasKeys v × Contains v.members (own_hss_key a) × AllByRecursion (λ e. IsTrue (is_named v e.0)) (join a.floor f))) (sym in_view)
        (its_view.0, its_view.1, its_view.2, both.named);
    posts = posts_spelled;
    snapshot = kept.snapshot;
  }

  -- and without a signature more
  pub kept_still : IsHssKept (record { signer = a.signer; view = a.view; floor = join a.floor f; pending = a.pending; snapshot = a.snapshot })
  kept_still = kept_then a.signer.made kept.signer.made a.pending kept.posts
