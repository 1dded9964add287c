-- What an agent has to publish is a record of each number at most, a head, and blocks of snapshots, of which no two are equal. So it has room for more, unless too much
-- was met.
use Rattle.std.proofs.Common.{◌≡◌, inl, inr, ⊎_elim, ℕ, suc, ◌+◌, ◌≤◌, Bool, true, false, cond, not, ◌&&◌, List, [], ◌∷◌, ◌++◌, length, map, filter, fold, Option, Some, None, refl, sym, ap, ◌∙◌, subst, arith, Contains}
use Rattle.std.specs.Prelude.{IfSome, sum_by}
use Rattle.std.specs.List.{AllByRecursion, list_any}
use Rattle.std.specs.Str.{bytes_eq}
use Rattle.std.proofs.lemmas.List.{append-nil, length-map, map-append, map-id}
use Rattle.std.proofs.lemmas.List.Elements.{Contains-append_cases, filter-append}
use Rattle.std.proofs.lemmas.List.Sums.{sum_by-cons}
use Rattle.std.proofs.lemmas.Slice.Eq.{bytes_eq-Decides}
use Rattle.ivy_base.specs.declared.operation.Moment.{Moment}
use Rattle.ivy_base.specs.Naming.{head_key_of}
use Rattle.ivy_io.specs.Keepers as memory
use Rattle.hash_signature_model.specs.Signer.{Signer}
use Rattle.round_laws.proofs.Nodes.{ties}
use Rattle.log_model.proofs.Lists.{both, each, each_from, from_filter, here, in_cons, in_nothing, some_passes, there}
use Rattle.log_model.specs.Record.{Record}
use Rattle.log_model.specs.View.{View}
use Rattle.log_model.specs.Chain.{opening}
use Rattle.log_model.specs.Vector.{reach}
use Rattle.ivy_base.specs.declared.key.Key.{Key}
use Rattle.turn_model.specs.Turn.{Asked}
use Rattle.dht_ids.specs.declared.post.Post.{Post}
use Rattle.dht_ids.specs.declared.post.PostKind.{PostKind}
use Rattle.dht_ids.specs.declared.post.PostKind.TheVariants as kind
use Rattle.snapshot_model.specs.Spelling.{root_name, snapshot_blocks, snapshot_of, with_block}
use Rattle.snapshot_model.proofs.MadeLists.{is_key}
use Rattle.agent_model.specs.Agent.{entered, is_head, joined, kept_of, record_post, with_posts, head_post, own_key}
use Rattle.log_model.specs.Rank.{own_entry}
use Rattle.agent_model.specs.Others.{basis_of, block_post, is_block, is_of, is_pending_block, snapped}
use Rattle.agent_model.specs.Standing.{Refresh}
use Rattle.agent_model.specs.Turning.{Becomes, MayTake, MayWrite, TurnEnd, Turns, taking, written_by}
use Rattle.agent_model.specs.Turning.Becomes.{loses, reads, saves}
use Rattle.agent_model.specs.Turning.Turns.{answers, behind, below}
use Rattle.turn_model.specs.Basis.{Holding}
use Rattle.session_model.specs.Executions.{Settles}
use Rattle.session_model.specs.Executions.Settles.{settles as settles_all}
use Rattle.session_model.specs.Executions.TakesTurn.{answers as turn_answers, begins_again, gives_up}
use Rattle.session_model.specs.Sessions.{Session}
use Rattle.world_model.specs.Agents.{HssAgent, IsHssKept, HssKept, TakesHssTurn, hss_signing, hss_kept_bytes, hss_opened as opened, own_hss_key, own_reach}
use Rattle.world_model.specs.Keepers.{Keeper, asked_to_save}
use Rattle.world_model.specs.Logs.{Played}
use Rattle.world_model.specs.World.{Participant}
use Rattle.turn_laws.specs.Laws.{HasRoom}
use Rattle.world_laws.specs.FullRuns.{EmptyPublishesFew, FewPostsCome, HasFewPosts, MetLittle, PublishFew, ThereIsRoom, is_record}
use Rattle.world_laws.specs.Invariant.{AreApart, IsKeptSo, IsMetPost, IsSavedWell, Invariant}
use Rattle.world_laws.proofs.KeptBytes.{kept_once}
use Rattle.world_laws.proofs.LastingLines.{AllLast, IsLasting, LastsSnaps, lines_last}
use Rattle.world_laws.proofs.NoSnapshotLines.{fewer_spelled}
use Rattle.world_laws.proofs.NoSnapshotSaved.{reached, turns_are_saved}
use Rattle.agent_laws.proofs.Floors.{joined_first}
use Rattle.world_laws.proofs.Frames.{into_map}
use Rattle.world_laws.proofs.NewParticipant.{apart_more}
use Rattle.world_laws.proofs.Placed.{apart_left}
use Rattle.world_laws.proofs.SignedHeads.{from_map}

-- ---- counting

abbrev count : {X : Type 0} → (X → Bool) → List X → ℕ
count test xs = length (filter test xs)

count_append : {X : Type 0} (test : X → Bool) (xs ys : List X) → count test (xs ++ ys) ≡ count test xs + count test ys
count_append test [] ys = omega arith
count_append test (x ∷ xs) ys = by (test x) (count_append test xs ys)
  where
    by : (b : Bool) → count test (xs ++ ys) ≡ count test xs + count test ys → length (cond b (x ∷ filter test (xs ++ ys)) (filter test (xs ++ ys))) ≡ length (cond b (x ∷ filter test xs) (filter test xs)) + count test ys
    by true same = omega (arith, same)
    by false same = same

count_fewer : {X : Type 0} (test also : X → Bool) (xs : List X) → count test (filter also xs) ≤ count test xs
count_fewer test also [] = omega arith
count_fewer {X = X} test also (x ∷ xs) = by (also x) (count_fewer test also xs)
  where
    more : (b : Bool) → length (filter test xs) ≤ length (cond b (x ∷ filter test xs) (filter test xs))
    more true = omega arith
    more false = omega arith

    both : (b : Bool) → count test (filter also xs) ≤ count test xs → length (cond b (x ∷ filter test (filter also xs)) (filter test (filter also xs))) ≤ length (cond b (x ∷ filter test xs) (filter test xs))
    both true le = omega (arith, le)
    both false le = le

    by : (b : Bool) → count test (filter also xs) ≤ count test xs → count test (cond b (x ∷ filter also xs) (filter also xs)) ≤ length (cond (test x) (x ∷ filter test xs) (filter test xs))
    by true le = both (test x) le
    by false le = let wide = more (test x) in omega (arith, le, wide)

-- what fails a test and what meets it are all
count_both : {X : Type 0} (test : X → Bool) (xs : List X) → length xs ≡ count (λ x. not (test x)) xs + count test xs
count_both test [] = refl
count_both test (x ∷ xs) = by (test x) (count_both test xs)
  where
    by : (b : Bool) → length xs ≡ count (λ y. not (test y)) xs + count test xs
        → suc (length xs) ≡ length (cond (not b) (x ∷ filter (λ y. not (test y)) xs) (filter (λ y. not (test y)) xs)) + length (cond b (x ∷ filter test xs) (filter test xs))
    by true same = omega (arith, same)
    by false same = omega (arith, same)

-- none of those that failed it meets it
none_left : {X : Type 0} (test : X → Bool) (xs : List X) → count test (filter (λ x. not (test x)) xs) ≡ 0
none_left test [] = refl
none_left test (x ∷ xs) = by (test x) refl (none_left test xs)
  where
    keeps : (b : Bool) → b ≡ false → length (cond b (x ∷ filter test (filter (λ y. not (test y)) xs)) (filter test (filter (λ y. not (test y)) xs))) ≡ count test (filter (λ y. not (test y)) xs)
    keeps true e = cc e
    keeps false e = refl

    by : (b : Bool) → test x ≡ b → count test (filter (λ y. not (test y)) xs) ≡ 0 → count test (cond (not b) (x ∷ filter (λ y. not (test y)) xs) (filter (λ y. not (test y)) xs)) ≡ 0
    by true e none = none
    by false e none = keeps (test x) e ∙ none

-- two tests in either order
filters_swap : {X : Type 0} (one other : X → Bool) (xs : List X) → filter one (filter other xs) ≡ filter other (filter one xs)
filters_swap one other [] = refl
filters_swap {X = X} one other (x ∷ xs) = by (one x) refl (other x) refl (filters_swap one other xs)
  where
    there_is : (test : X → Bool) (ys : List X) → test x ≡ true → x ∷ filter test ys ≡ filter test (x ∷ ys)
    there_is test ys is = ap (λ (b : Bool). cond b (x ∷ filter test ys) (filter test ys)) (sym is)

    none_is : (test : X → Bool) (ys : List X) → test x ≡ false → filter test ys ≡ filter test (x ∷ ys)
    none_is test ys is = ap (λ (b : Bool). cond b (x ∷ filter test ys) (filter test ys)) (sym is)

    by : (b : Bool) → one x ≡ b → (c : Bool) → other x ≡ c → filter one (filter other xs) ≡ filter other (filter one xs)
        → filter one (cond c (x ∷ filter other xs) (filter other xs)) ≡ filter other (cond b (x ∷ filter one xs) (filter one xs))
    by true p true q rest = sym (there_is one (filter other xs) p) ∙ (ap (λ (ys : List X). x ∷ ys) rest ∙ there_is other (filter one xs) q)
    by true p false q rest = rest ∙ none_is other (filter one xs) q
    by false p true q rest = sym (none_is one (filter other xs) p) ∙ rest
    by false p false q rest = rest

-- ---- posts of records and a head

abbrev not_head : Post → Bool
not_head p = not (is_head p.kind)

abbrev a_record : Post → Bool
a_record p = is_record p.kind

abbrev a_block : Post → Bool
a_block p = is_block p.kind

abbrev a_head : Post → Bool
a_head p = is_head p.kind

no_heads : (rs : List Record) → count a_head (map record_post rs) ≡ 0
no_heads [] = refl
no_heads (r ∷ rs) = no_heads rs

all_records : (rs : List Record) → count a_record (map record_post rs) ≡ length rs
all_records [] = refl
all_records (r ∷ rs) = let rest = all_records rs in omega (arith, rest)

no_blocks : (rs : List Record) → filter a_block (map record_post rs) ≡ []
no_blocks [] = refl
no_blocks (r ∷ rs) = no_blocks rs

-- heads are no blocks
blocks_without : (ps : List Post) → filter a_block (filter not_head ps) ≡ filter a_block ps
blocks_without [] = refl
blocks_without (p ∷ ps) = by p.kind (blocks_without ps)
  where
    by : (k : PostKind) → filter a_block (filter not_head ps) ≡ filter a_block ps
        → filter a_block (cond (not (is_head k)) (record { key = p.key; bytes = p.bytes; kind = k } ∷ filter not_head ps) (filter not_head ps)) ≡ cond (is_block k) (record { key = p.key; bytes = p.bytes; kind = k } ∷ filter a_block ps) (filter a_block ps)
    by kind.Block rest = ap (λ (qs : List Post). record { key = p.key; bytes = p.bytes; kind = kind.Block } ∷ qs) rest
    by kind.Log rest = rest
    by kind.Head rest = rest

-- one of the three it is
count_kinds : (ps : List Post) → length ps ≡ count a_record ps + count a_head ps + length (filter a_block ps)
count_kinds [] = refl
count_kinds (p ∷ ps) = by p.kind (count_kinds ps)
  where
    by : (k : PostKind) → length ps ≡ count a_record ps + count a_head ps + length (filter a_block ps)
        → suc (length ps) ≡ length (cond (is_record k) (p ∷ filter a_record ps) (filter a_record ps)) + length (cond (is_head k) (p ∷ filter a_head ps) (filter a_head ps)) + length (cond (is_block k) (p ∷ filter a_block ps) (filter a_block ps))
    by kind.Block rest = omega (arith, rest)
    by kind.Log rest = omega (arith, rest)
    by kind.Head rest = omega (arith, rest)

module _ (pending : List Post) (written : List Record) (head : Post) (is : is_head head.kind ≡ true) (other : is_record head.kind ≡ false) (also : is_block head.kind ≡ false) where
  one_head : (b : Bool) → b ≡ true → length (cond b (head ∷ []) []) ≡ 1
  one_head true e = refl
  one_head false e = cc e

  no_post : (b : Bool) → b ≡ false → cond b (head ∷ []) [] ≡ []
  no_post true e = cc e
  no_post false e = refl

  heads_then : count a_head (with_posts pending written head) ≡ 1
  heads_then =
      let all : count a_head (with_posts pending written head) ≡ count a_head (filter not_head pending ++ map record_post written) + count a_head (head ∷ []) = count_append a_head (filter not_head pending ++ map record_post written) (head ∷ []) in
      let new = count_append a_head (filter not_head pending) (map record_post written) in
      let none : count a_head (filter not_head pending) ≡ 0 = none_left a_head pending in
      let no = no_heads written in
      let one : count a_head (head ∷ []) ≡ 1 = one_head (is_head head.kind) is in omega (arith, all, new, none, no, one)

  records_then : count a_record (with_posts pending written head) ≤ count a_record pending + length written
  records_then =
      let all : count a_record (with_posts pending written head) ≡ count a_record (filter not_head pending ++ map record_post written) + count a_record (head ∷ []) = count_append a_record (filter not_head pending ++ map record_post written) (head ∷ []) in
      let new = count_append a_record (filter not_head pending) (map record_post written) in
      let old : count a_record (filter not_head pending) ≤ count a_record pending = count_fewer a_record not_head pending in
      let rs = all_records written in
      let none : count a_record (head ∷ []) ≡ 0 = ap (λ (ps : List Post). length ps) (no_post (is_record head.kind) other) in omega (arith, all, new, old, rs, none)

  blocks_then : filter a_block (with_posts pending written head) ≡ filter a_block pending
  blocks_then =
      filter-append a_block (filter not_head pending ++ map record_post written) (head ∷ [])
      ∙ (ap (λ (ps : List Post). ps ++ filter a_block (head ∷ [])) (filter-append a_block (filter not_head pending) (map record_post written))
      ∙ ((λ i. (blocks_without pending i ++ no_blocks written i) ++ no_post (is_block head.kind) also i)
      ∙ (append-nil (filter a_block pending ++ []) ∙ append-nil (filter a_block pending))))

-- ---- turns

module _ (view : View) (a : HssAgent) (h : Holding) (in_view : a.view ≡ Some view) (whole : IsHssKept (kept_of a)) (few : HasFewPosts (kept_of a)) (take : MayTake hss_signing view a h) where
  taken_few : HasFewPosts (kept_of (taking hss_signing a h))
  taken_few = record { records = let few = few.records in let more = joined_first (head_key_of (own_hss_key a)) a.floor (joined h) take.spelled.in_order in omega (arith, few, more); heads = few.heads; blocks = few.blocks }

  wrote_few : (before : List Record) (last : Record) → MayWrite hss_signing view a before last → HasFewPosts (kept_of (written_by hss_signing a h before last))
  wrote_few before last may =
      let head : Post = head_post hss_signing a.signer (own_entry last).1 in record {
        records = let few = few.records in let then_so = records_then a.pending (before ++ last ∷ []) head refl refl refl in let far = reached view a h in_view whole take before last may in omega (arith, few, then_so, far);
        heads = let one = heads_then a.pending (before ++ last ∷ []) head refl refl refl in omega (arith, one);
        blocks = subst (λ (ps : List Post). AreApart (map (λ (p : Post). p.bytes) ps)) (sym (blocks_then a.pending (before ++ last ∷ []) head refl refl refl)) few.blocks;
      }

becomes_few : (view : View) (a : HssAgent) (h : Holding) (fails : Bool) (written : List Record) (after : HssAgent) (saving : Option HssKept) → a.view ≡ Some view → IsHssKept (kept_of a) → HasFewPosts (kept_of a) → MayTake hss_signing view a h
    → Becomes hss_signing view a h fails written after saving → HasFewPosts (kept_of after) × IfSome saving HasFewPosts
becomes_few view a h fails _ _ _ in_view whole few take reads = (taken_few view a h in_view whole few take, tt)
becomes_few view a h fails _ _ _ in_view whole few take (saves before last may succeeds) = let its = wrote_few view a h in_view whole few take before last may in (its, its)
becomes_few view a h fails _ _ _ in_view whole few take (loses before last may failing) = (taken_few view a h in_view whole few take, wrote_few view a h in_view whole few take before last may)

-- the agent may be saved, and neither it nor what its keeper holds has much to publish
pub record HasSpace (a : HssAgent) (y : Keeper) : Type 0 where
  pub whole : IsHssKept (kept_of a)
  pub few : HasFewPosts (kept_of a)
  pub kept : (k : HssKept) × IsHssKept k × (y.kept ≡ Some (hss_kept_bytes k)) × HasFewPosts k

abbrev KeepsFew : Keeper → Type 0
KeepsFew y = (k : HssKept) × IsHssKept k × (y.kept ≡ Some (hss_kept_bytes k)) × HasFewPosts k

saved_few : (y : Keeper) (saving : Option HssKept) → KeepsFew y → IfSome saving IsHssKept → IfSome saving HasFewPosts → KeepsFew (asked_to_save y saving)
saved_few y None h whole few = h
saved_few y (Some k) h whole few = by (memory.planned_next y)
  where
    by : (o : Option Bool) → KeepsFew (memory.after_planned o y (hss_kept_bytes k))
    by None = (k, whole, refl, few)
    by (Some true) = (k, whole, refl, few)
    by (Some false) = h

turn_few : (given : Refresh) (a : HssAgent) (y : Keeper) (view : View) (fails : Bool) (asked : Asked) (now : Moment) (end : TurnEnd) (after : HssAgent) (saving : Option HssKept) → a.view ≡ Some view → HasSpace a y
    → Turns hss_signing given (record { agent = a; view = view; now = now; fails = fails }) asked end after saving → HasSpace after (asked_to_save y saving)
turn_few given a y view fails asked now _ _ _ in_view space (behind late) = space
turn_few given a y view fails asked now _ _ _ in_view space (below timely under) = record { whole = space.whole; few = space.few; kept = space.kept }
turn_few given a y view fails asked now _ _ _ in_view space (answers h written reply after saving timely above same take becomes by_definition) =
    let whole = turns_are_saved view a after h fails written saving in_view space.whole take becomes in
    let few = becomes_few view a h fails written after saving in_view space.whole space.few take becomes in
    record { whole = whole.0; few = few.0; kept = saved_few y saving space.kept whole.1 few.1 }

taking_few : (now : Moment) (a : HssAgent) (y : Keeper) (view : View) (fails : Bool) (s : Session) (end : TurnEnd) (after : HssAgent) (saving : Option HssKept) (t : Session) → a.view ≡ Some view → HasSpace a y
    → TakesHssTurn (record { agent = a; view = view; now = now; fails = fails }) s end after saving t → HasSpace after (asked_to_save y saving)
taking_few now a y view fails s _ _ _ _ in_view space (turn_answers notes given xid asked reply applied after saving refreshed asks turns) = turn_few given a y view fails asked now _ after saving in_view space turns
taking_few now a y view fails s _ _ _ _ in_view space (begins_again notes given xid asked end after saving refreshed asks turns refusal few) = turn_few given a y view fails asked now end after saving in_view space turns
taking_few now a y view fails s _ _ _ _ in_view space (gives_up notes given xid asked end after saving refreshed asks turns refusal many) = turn_few given a y view fails asked now end after saving in_view space turns

-- ---- settling, entering, and starting again

settled_few : (a after : HssAgent) (y : Keeper) (s t : Session) → HasSpace a y → Settles a s after t → HasSpace after y
settled_few a _ y s _ space (settles_all said acks at) = record {
  whole = record {
    signer = space.whole.signer;
    some = space.whole.some;
    few = space.whole.few;
    floor = space.whole.floor;
    view = space.whole.view;
    posts = fewer_spelled left a.pending space.whole.posts;
    snapshot = space.whole.snapshot;
  };
  few = record {
    records = let few = space.few.records in let fewer = count_fewer a_record left a.pending in omega (arith, few, fewer);
    heads = let few = space.few.heads in let fewer = count_fewer a_head left a.pending in omega (arith, few, fewer);
    blocks = subst (λ (ps : List Post). AreApart (map (λ (p : Post). p.bytes) ps)) (sym (filters_swap a_block left a.pending)) (apart_left (λ (p : Post). p.bytes) left (filter a_block a.pending) space.few.blocks);
  };
  kept = space.kept;
}
  where
    left : Post → Bool
    left p = not (list_any (λ ack. is_of ack p) acks)

some_bytes : (a b : List ℕ) → Some a ≡ Some b → a ≡ b
some_bytes a b e = cc e

its_own_record : (signer : Signer) (now : Moment) → own_reach (opened signer now) ≡ 1
its_own_record signer now = (let key : Key = head_key_of (own_hss_key (opened signer now)) in ap (λ (b : Bool). reach (cond b (Some (own_entry (opening (own_key hss_signing signer) now)).1) None)) (ties key key refl))

pub space_lasts : IsLasting HasSpace
space_lasts = record {
  turns = taking_few;
  settles = settled_few;
  keeper = λ a y z same space. record { whole = space.whole; few = space.few; kept = (space.kept.0, space.kept.1, same ∙ space.kept.2, space.kept.3) };
  restarts = λ a y k space whole held.
      let same : space.kept.0 ≡ k = kept_once space.kept.0 k space.kept.1 whole (some_bytes (hss_kept_bytes space.kept.0) (hss_kept_bytes k) (sym space.kept.2 ∙ held)) in
      record { whole = whole; few = subst HasFewPosts same space.kept.3; kept = space.kept };
  enters = λ a y view space may.
      let few : HasFewPosts (kept_of (entered a view)) = record { records = space.few.records; heads = space.few.heads; blocks = space.few.blocks } in
      let saved = saved_few y (Some (kept_of (entered a view))) space.kept may few in (
        record { whole = may; few = few; kept = saved },
        record { whole = space.whole; few = space.few; kept = saved },
      );
  opens = λ signer now may.
      let few : HasFewPosts (kept_of (opened signer now)) = record { records = let one = its_own_record signer now in omega (arith, one); heads = omega arith; blocks = tt } in
      record { whole = may; few = few; kept = (kept_of (opened signer now), may, refl, few) };
}

-- ---- snapshots

-- the posts of these blocks are blocks, and nothing else
all_blocks : (bs : List (List ℕ)) → filter a_block (map block_post bs) ≡ map block_post bs
all_blocks [] = refl
all_blocks (b ∷ bs) = ap (λ (ps : List Post). block_post b ∷ ps) (all_blocks bs)

none_else : (bs : List (List ℕ)) → (count a_record (map block_post bs) ≡ 0) × (count a_head (map block_post bs) ≡ 0)
none_else [] = (refl, refl)
none_else (b ∷ bs) = none_else bs

their_bytes : (bs : List (List ℕ)) → map (λ (p : Post). p.bytes) (map block_post bs) ≡ bs
their_bytes [] = refl
their_bytes (b ∷ bs) = ap (λ (cs : List (List ℕ)). b ∷ cs) (their_bytes bs)

-- each block of a snapshot stands there once
not_there : (bs : List (List ℕ)) (b : List ℕ) → list_any (bytes_eq b) bs ≡ false → Contains bs b → ⊥
not_there bs b none c = (let there = some_passes (bytes_eq b) bs b c ((bytes_eq-Decides b b).1 refl) in cc (sym there ∙ none))

one_more : (bs : List (List ℕ)) (b : List ℕ) → AreApart bs → AreApart (with_block bs b)
one_more bs b apart = by (list_any (bytes_eq b) bs) refl
  where
    by : (t : Bool) → list_any (bytes_eq b) bs ≡ t → AreApart (cond t bs (bs ++ b ∷ []))
    by true there = apart
    by false new = apart_more bs b apart (not_there bs b new)

each_once : (bs more : List (List ℕ)) → AreApart bs → AreApart (fold with_block bs more)
each_once bs [] apart = apart
each_once bs (b ∷ more) apart = each_once (with_block bs b) more (one_more bs b apart)

apart_both : (xs ys : List (List ℕ)) → AreApart xs → AreApart ys → ((x : List ℕ) → Contains xs x → Contains ys x → ⊥) → AreApart (xs ++ ys)
apart_both [] ys a b other = b
apart_both (x ∷ xs) ys a b other = (
  λ c. ⊎_elim a.0 (other x (here x xs)) (Contains-append_cases xs ys x c),
  apart_both xs ys a.1 b (λ z c. other z (there x xs z c)),
)

module _ (a : HssAgent) (root : Key) (blocks : List (List ℕ)) (apart : AreApart blocks) where
  abbrev after : HssAgent
  after = snapped a root blocks

  abbrev new : List (List ℕ)
  new = filter (λ b. not (is_pending_block a.pending b)) blocks

  abbrev old : List (List ℕ)
  old = map (λ (p : Post). p.bytes) (filter a_block a.pending)

  new_apart : AreApart new
  new_apart = subst AreApart (map-id new) (apart_left (λ (b : List ℕ). b) (λ b. not (is_pending_block a.pending b)) blocks (subst AreApart (sym (map-id blocks)) apart))

  -- what is pending isn't new
  none_pending : (b : List ℕ) → Contains old b → Contains new b → ⊥
  none_pending b was is =
      let post = from_map (λ (p : Post). p.bytes) (filter a_block a.pending) b was in
      let among = from_filter a_block a.pending post.0 post.1 in
      let fresh = (from_filter (λ x. not (is_pending_block a.pending x)) blocks b is).1 in
      let there : is_pending_block a.pending b ≡ true = some_passes (λ (p : Post). bytes_eq p.bytes b && is_block p.kind) a.pending post.0 among.0
      (both (bytes_eq post.0.bytes b) (is_block post.0.kind) ((bytes_eq-Decides post.0.bytes b).1 (sym post.2)) among.1) in
      cc (sym fresh ∙ ap not there)

  their_blocks : map (λ (p : Post). p.bytes) (filter a_block after.pending) ≡ old ++ new
  their_blocks =
      ap (map (λ (p : Post). p.bytes)) (filter-append a_block a.pending (map block_post new) ∙ ap (λ (ps : List Post). filter a_block a.pending ++ ps) (all_blocks new))
      ∙ (map-append (λ (p : Post). p.bytes) (filter a_block a.pending) (map block_post new) ∙ ap (λ (bs : List (List ℕ)). old ++ bs) (their_bytes new))

  snapped_few : HasFewPosts (kept_of a) → HasFewPosts (kept_of after)
  snapped_few few = record {
    records = let more = count_append a_record a.pending (map block_post new) in let none = (none_else new).0 in let most = few.records in omega (arith, more, none, most);
    heads = let more = count_append a_head a.pending (map block_post new) in let none = (none_else new).1 in let most = few.heads in omega (arith, more, none, most);
    blocks = subst AreApart (sym their_blocks) (apart_both old new few.blocks new_apart none_pending);
  }

pub space_snaps : LastsSnaps HasSpace
space_snaps a y view space spelled =
    let root : Key = root_name view (basis_of a.holding) in
    let blocks : List (List ℕ) = snapshot_blocks view (basis_of a.holding) in
    let whole : IsHssKept (kept_of (snapped a root blocks)) = record {
      signer = space.whole.signer;
      some = space.whole.some;
      few = space.whole.few;
      floor = space.whole.floor;
      view = space.whole.view;
      posts = spelled;
      snapshot = is_key (snapshot_of view (basis_of a.holding)).bytes;
    } in
    let few = snapped_few a root blocks (each_once [] (snapshot_of view (basis_of a.holding)).putting tt) space.few in
    let saved = saved_few y (Some (kept_of (snapped a root blocks))) space.kept whole few in (
      record { whole = whole; few = few; kept = saved },
      record { whole = space.whole; few = space.few; kept = saved },
    )

-- ---- how many blocks there are

abbrev total : List (List ℕ) → ℕ
total bs = sum_by (λ b. length b) bs

total_cons : (b : List ℕ) (bs : List (List ℕ)) → total (b ∷ bs) ≡ length b + total bs
total_cons b bs = sum_by-cons (λ (x : List ℕ). length x) b bs

-- one of these blocks, and the others
takes_out : (x : List ℕ) (ys : List (List ℕ)) → Contains ys x → (zs : List (List ℕ)) × (total ys ≡ length x + total zs) × ((z : List ℕ) → (x ≡ z → ⊥) → Contains ys z → Contains zs z)
takes_out x [] c = absurd (in_nothing x c)
takes_out x (y ∷ ys) c = elim (in_cons y ys x c) [
  | inl e ↦ (
    ys,
    (let first = total_cons y ys in let same : length y ≡ length x = ap (λ (b : List ℕ). length b) e in omega (arith, first, same)),
    λ z other d. ⊎_elim (λ f. absurd (other (sym e ∙ f))) (λ later. later) (in_cons y ys z d),
  )
  | inr later ↦ (let rest = takes_out x ys later in (
    y ∷ rest.0,
    (let sums = rest.1 in let first = total_cons y ys in let then_so = total_cons y rest.0 in omega (arith, sums, first, then_so)),
    λ z other d. ⊎_elim (λ f. subst (Contains (y ∷ rest.0)) f (here y rest.0)) (λ g. there y rest.0 z (rest.2 z other g)) (in_cons y ys z d),
  ))
]

-- blocks that are among others, no two of them equal, have no more bytes
pub no_more_bytes : (xs ys : List (List ℕ)) → AreApart xs → ((x : List ℕ) → Contains xs x → Contains ys x) → total xs ≤ total ys
no_more_bytes [] ys apart among = omega arith
no_more_bytes (x ∷ xs) ys apart among =
    let out = takes_out x ys (among x (here x xs)) in
    let rest = no_more_bytes xs out.0 apart.1 (λ z c. out.2 z (λ e. apart.0 (subst (Contains xs) (sym e) c)) (among z (there x xs z c))) in
    let sums = out.1 in
    let first = total_cons x xs in omega (arith, rest, sums, first)

-- only one of them is empty
some_each : (xs : List (List ℕ)) → (Contains xs [] → ⊥) → length xs ≤ total xs
some_each [] none = omega arith
some_each (x ∷ xs) none = by x refl (some_each xs (λ c. none (there x xs [] c)))
  where
    by : (y : List ℕ) → x ≡ y → length xs ≤ total xs → suc (length xs) ≤ total (x ∷ xs)
    by [] e rest = absurd (none (subst (Contains (x ∷ xs)) e (here x xs)))
    by (b ∷ y) e rest = let first = total_cons x xs in let size : length x ≡ suc (length y) = ap (λ (z : List ℕ). length z) e in omega (arith, first, size, rest)

pub no_more_blocks : (xs : List (List ℕ)) → AreApart xs → length xs ≤ total xs + 1
no_more_blocks [] apart = omega arith
no_more_blocks (x ∷ xs) apart = by x refl (no_more_blocks xs apart.1)
  where
    by : (y : List ℕ) → x ≡ y → length xs ≤ total xs + 1 → suc (length xs) ≤ total (x ∷ xs) + 1
    by [] e rest = let others = some_each xs (λ c. apart.0 (subst (Contains xs) (sym e) c)) in let first = total_cons x xs in omega (arith, others, first)
    by (b ∷ y) e rest = let first = total_cons x xs in let size : length x ≡ suc (length y) = ap (λ (z : List ℕ). length z) e in omega (arith, first, size, rest)

-- ---- worlds

pub empty_publishes_few : EmptyPublishesFew
empty_publishes_few = record { agents = tt; kept = tt }

few_after : (ps : List Participant) → AllLast HasSpace space_lasts ps → AllByRecursion (λ p. HasFewPosts (kept_of p.agent)) ps × AllByRecursion (IsKeptSo (λ p k. HasFewPosts k)) ps
few_after [] all = (tt, tt)
few_after (p ∷ ps) all = let rest = few_after ps all.1 in ((all.0.few, rest.0), (all.0.kept, rest.1))

pub few_posts_come : FewPostsCome
few_posts_come w next line output keeps few step =
    let before = each_from (λ (p : Participant). HasSpace p.agent p.keeper) w.0.participants (λ p among.
    let saved = each (IsKeptSo IsSavedWell) w.0.participants p keeps.saved among in
    record {
      whole = saved.3.agent;
      few = each (λ (q : Participant). HasFewPosts (kept_of q.agent)) w.0.participants p few.agents among;
      kept = each (IsKeptSo (λ q k. HasFewPosts k)) w.0.participants p few.kept among;
    }) in
    let after = few_after next.0.participants (lines_last HasSpace space_lasts w next line output keeps before (inl space_snaps) step) in
    record { agents = after.0; kept = after.1 }

-- so many posts are to be published, where no more was met than a line may go on with
pub few_pending : (w : Played) → Invariant w → PublishFew w.0 → MetLittle w.0 → (p : Participant) → Contains w.0.participants p → length p.agent.pending ≤ 17825795
few_pending w keeps few little p among =
    let saved = each (IsKeptSo IsSavedWell) w.0.participants p keeps.saved among in
    let posts = each (λ (q : Participant). HasFewPosts (kept_of q.agent)) w.0.participants p few.agents among in
    let met = each (λ (q : Participant). AllByRecursion (IsMetPost w.0.met) q.agent.pending) w.0.participants p keeps.met.pending among in
    let all = count_kinds p.agent.pending in
    let records = posts.records in
    let heads = posts.heads in
    let reach = saved.3.agent.few in
    let blocks : List (List ℕ) = map (λ (q : Post). q.bytes) (filter a_block p.agent.pending) in
    let size : length blocks ≡ length (filter a_block p.agent.pending) = length-map (filter a_block p.agent.pending) (λ (q : Post). q.bytes) in
    let count = no_more_blocks blocks posts.blocks in
    let bytes = no_more_bytes blocks w.0.met posts.blocks (λ b c.
    let post = from_map (λ (q : Post). q.bytes) (filter a_block p.agent.pending) b c in
    subst (Contains w.0.met) (sym post.2) (each (IsMetPost w.0.met) p.agent.pending post.0 met (from_filter a_block p.agent.pending post.0 post.1).0).0) in
    omega (arith, all, records, heads, reach, size, count, bytes, little)

pub there_is_room : ThereIsRoom
there_is_room w keeps few little = each_from (λ (p : Participant). HasRoom p.agent) w.0.participants (λ p among. let most = few_pending w keeps few little p among in omega (arith, most))
