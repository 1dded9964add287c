-- What becomes of an agent that answers on what it took.
use Rattle.std.proofs.Common.{◌≡◌, ℕ, ◌+◌, ◌≤◌, ◌<◌, ◌^◌, Bool, true, false, cond, List, [], ◌∷◌, ◌++◌, length, Option, Some, None, refl, sym, ap, ◌∙◌, subst, arith, Contains}
use Rattle.std.specs.Prelude.{IfSome, IsTrue, option_map}
use Rattle.std.specs.List.{AllByRecursion}
use Rattle.std.specs.FinMap.Entries.{find-put}
use Rattle.ivy_base.specs.declared.key.Key.{Key}
use Rattle.ivy_base.specs.declared.key.PubKey.{PubKey}
use Rattle.ivy_base.specs.declared.operation.Moment.{Moment}
use Rattle.ivy_base.specs.declared.operation.Op.{Op}
use Rattle.ivy_base.specs.Naming.{head_key_of, key_cmp}
use Rattle.tree_model.proofs.Keys.{keys_total, same_key_itself}
use Rattle.log_model.specs.Chain.{IsGood}
use Rattle.log_model.specs.Rank.{own_entry}
use Rattle.log_model.specs.Record.{Record}
use Rattle.log_model.specs.Spelling.{HasSpelling, most_records}
use Rattle.log_model.specs.Vector.{Stamp, Vector, join, reach, seq_of, stamp_at}
use Rattle.log_model.specs.View.{View, IsView, is_named}
use Rattle.log_model.proofs.Lists.{each, each_from}
use Rattle.log_records.specs.Batches.{Batch}
use Rattle.log_records.specs.Records.{records_of}
use Rattle.version_vectors.specs.Vectors.{IsVector}
use Rattle.log_model.specs.ViewKeys.{HasKeys}
use Rattle.wire_model.specs.Xdr.{IsAny}
use Rattle.causal_order.specs.Over.{IsClosed}
use Rattle.nfs_model.specs.declared.replies.Reply.{Reply}
use Rattle.nfs_model.specs.Results.{result as bytes_of}
use Rattle.dht_ids.specs.declared.post.Post.{Post}
use Rattle.turn_model.specs.Basis.{Basis, Holding, kept_tree}
use Rattle.turn_model.specs.Turn.{Asked}
use Rattle.turn_model.specs.Work.{applied_between}
use Rattle.ivy_agent.specs.Appended.{MayBeCited, written_over}
use Rattle.ivy_agent.specs.Newest.{newest_stamp, with_newest}
use Rattle.ivy_agent.specs.Serving.{Replies, Writes, serve_on}
use Rattle.ivy_agent.proofs.Cited.{with_newest_may_be_cited}
use Rattle.ivy_agent.proofs.Closing.{written_is_closed}
use Rattle.ivy_agent.proofs.Fronts.{held_front, newest_is_reached}
use Rattle.ivy_agent.proofs.Records.{written_are_next}
use Rattle.turn_taking.specs.Taking.{IsWithin}
use Rattle.replay_engine.specs.Engines.{Engine, holding}
use Rattle.log_model.specs.Signing.{Signing}
use Rattle.agent_model.specs.Agent.{Agent, Kept as Saved, failed, joined, kept_of, own_key, own_reach}
use Rattle.agent_model.specs.SavedBytes.{ArePostsSpelled, IsKept, kept_bytes}
use Rattle.agent_model.specs.Standing.{going_on}
use Rattle.turn_laws.specs.Taking.{TakesNew, refresh_with, with_new}
use Rattle.agent_model.specs.Turning.{Answered, AreNext, Becomes, IsByDefinition, MayTake, MayWrite, Turns, loses, reads, taking, with_held, written_by}
use Rattle.agent_model.specs.Turning as turning
use Rattle.ivy_agent.specs.Answering.{Answers, IsCall, MayGoOn, goes_by, replies, served_on, writes}
use Rattle.ivy_agent.specs.Drafts.{IsDraft, kept_with}
use Rattle.ivy_agent.specs.Holders.{IsSound, Stands, StandsIn, agent_of}
use Rattle.ivy_agent.specs.Outcomes.{Gives, kept_to}
use Rattle.ivy_agent.specs.Saves.{Saves, saved_of}
use Rattle.ivy_agent.specs.Taking.{MayTakeFrom}
use Rattle.ivy_agent.specs.Turns.{IsAnswered}
use Rattle.ivy_agent.specs.Writing.{HasWritten, lost_reply, written_reply}
use Rattle.log_fetch.specs.declared.turned.Turned.{Turned}
use Rattle.ivy_agent.specs.declared.drafts.Draft.{Draft}
use Rattle.ivy_agent.specs.declared.saving.Kept.{Kept}
use Rattle.ivy_agent.specs.declared.writing.Done.{Done}
use Rattle.ivy_agent.proofs.Citing.{join_from_first, join_from_second, join_may_be_cited, join_up_to, may_be_cited, spelled}
use Rattle.ivy_agent.proofs.Defined.{lost_by_definition, replies_by_definition, saved_by_definition}
use Rattle.ivy_agent.proofs.News.{may_go_on}
use Rattle.ivy_agent.proofs.Planned.{begun, goods, may_stand, planned}
use Rattle.ivy_agent.proofs.Published.{posts_spelled}

-- ---- numbers

through : (a b c : ℕ) → a ≤ b → b ≤ c → a ≤ c
through a b c h g = omega (arith, h, g)

with_none : (m n : ℕ) → m ≡ n → m ≡ n + 0
with_none m n h = omega (arith, h)

moved : (a b n m : ℕ) → a + n ≤ m → a ≡ b → b + n ≤ m
moved a b n m h e = omega (arith, h, e)

counted : (a b n l m : ℕ) → a + n ≤ m → l ≡ n → a ≡ b → b + l ≤ m
counted a b n l m h c e = omega (arith, h, c, e)

up_to : (t s m : ℕ) → t ≡ s → s ≤ m → t ≤ m
up_to t s m e h = omega (arith, e, h)

-- with the newest stamp of the own log it goes no further than that
newest_up_to : (own : PubKey) (o : Option Stamp) (f : Vector) (n : ℕ) → seq_of f (head_key_of own) ≤ n → ((t : Stamp) → o ≡ Some t → t.seq ≤ n) → seq_of (with_newest own o f) (head_key_of own) ≤ n
newest_up_to own None f n far newest = far
newest_up_to own (Some t) f n far newest =
    let at : seq_of (with_newest own (Some t) f) (head_key_of own) ≡ t.seq =
    ap reach (find-put key_cmp keys_total (head_key_of own) (head_key_of own) t f ∙ ap (λ (b : Bool). cond b (Some t) (stamp_at f (head_key_of own))) (same_key_itself (head_key_of own))) in
    up_to (seq_of (with_newest own (Some t) f) (head_key_of own)) t.seq n at (newest t refl)

module _ {S : Type 0} (signs : Signing S) (view : View) where
  pub sound_in : (x : Agent S) (log : Key) (front : Vector) → x.view ≡ Some view → log ≡ head_key_of (own_key signs x.signer) → front ≡ joined x.holding → IsKept signs IsAny (kept_of x) → StandsIn signs x view → IsSound signs x log front
  sound_in x log front in_view its_log its_front kept stands = record {
    its_log = its_log;
    its_front = its_front;
    kept = kept;
    stands = subst (Stands signs x) (sym in_view) stands;
  }

  -- what is kept, with a front joined into its floor
  module _ (k : Saved S) (kept : IsKept signs IsAny k) (in_view : k.view ≡ Some view) (f : Vector) (cited : MayBeCited view f) (f_few : seq_of f (head_key_of (own_key signs k.signer)) ≤ most_records) where
    abbrev its_log : Key
    its_log = head_key_of (own_key signs k.signer)

    abbrev floor_then : Vector
    floor_then = join k.floor f

    pub of_view : IsView view × HasKeys view × Contains view.members (own_key signs k.signer) × AllByRecursion (λ e. IsTrue (is_named view e.0)) k.floor
    of_view = subst (λ (o : Option View). IfSome o (λ v. IsView v × HasKeys v × Contains v.members (own_key signs k.signer) × AllByRecursion (λ e. IsTrue (is_named v e.0)) k.floor)) in_view kept.view

    floor_cited : MayBeCited view k.floor
    floor_cited = may_be_cited view k.floor kept.floor of_view.3

    both : MayBeCited view floor_then
    both = join_may_be_cited view k.floor f floor_cited cited

    pub kept_then : (IsWhole : S → Type 0) (signer : S) (pending : List Post) → signs.key signer ≡ signs.key k.signer → IsWhole signer → ArePostsSpelled pending
        → IsKept signs IsWhole (record { signer = signer; view = k.view; floor = floor_then; pending = pending; snapshot = k.snapshot })
    kept_then IsWhole signer pending same whole posts =
        let own_is : own_key signs k.signer ≡ own_key signs signer = (λ i. record { 0 = sym same i }) in
        let far : seq_of k.floor its_log ≤ seq_of floor_then its_log = join_from_first its_log k.floor f in
        let reached : 1 ≤ seq_of floor_then its_log = through 1 (seq_of k.floor its_log) (seq_of floor_then its_log) kept.some far in
        let few : seq_of floor_then its_log ≤ most_records = join_up_to its_log most_records k.floor f floor_cited.whole.in_order cited.whole.in_order kept.few f_few in
        record {
          signer = whole;
          some = subst (λ (o : PubKey). 1 ≤ seq_of floor_then (head_key_of o)) own_is reached;
          few = subst (λ (o : PubKey). seq_of floor_then (head_key_of o) ≤ most_records) own_is few;
          floor = spelled view floor_then of_view.0 both;
          view = subst (λ (o : Option View). IfSome o (λ v. IsView v × HasKeys v × Contains v.members (own_key signs signer) × AllByRecursion (λ e. IsTrue (is_named v e.0)) floor_then)) (sym in_view)
              (of_view.0, of_view.1, subst (λ (o : PubKey). Contains view.members o) own_is of_view.2, both.named);
          posts = posts;
          snapshot = kept.snapshot;
        }

    pub within_then : (v : Vector) → IsWithin view (own_key signs k.signer) k.floor v → IsWithin view (own_key signs k.signer) floor_then v
    within_then v h =
        let far : seq_of k.floor its_log ≤ seq_of floor_then its_log = join_from_first its_log k.floor f in
        record { named = h.named; own_log = through (seq_of v its_log) (seq_of k.floor its_log) (seq_of floor_then its_log) h.own_log far }

    pub front_within : IsWithin view (own_key signs k.signer) floor_then f
    front_within = record { named = cited.named; own_log = join_from_second its_log k.floor f }

module _ {K S : Type 0} (signs : Signing S) (IsWhole : S → Type 0) (saves : K → List ℕ → Bool → K → Type 0) (asked : Asked) (now : Moment) (k : Kept S) (e : Engine) (to_load : Option Key) (has_failed : Bool)
    (log : k.log ≡ head_key_of (own_key signs k.signer)) (kept : IsKept signs IsAny (saved_of k)) (view : View) (in_view : k.view ≡ Some view) (batch : Batch) (basis : Option Basis) (call : IsCall asked now) (well : IsView view)
    (new : List Record) (from : MayTakeFrom view (own_key signs k.signer) k.floor (going_on (agent_of k e to_load has_failed) basis) batch)
    (takes : TakesNew view (own_key signs k.signer) k.floor (going_on (agent_of k e to_load has_failed) basis) (refresh_with batch None) new)
    (inside : IsWithin view (own_key signs k.signer) k.floor (joined (with_new (going_on (agent_of k e to_load has_failed) basis) new)))
    (base : IsVector (going_on (agent_of k e to_load has_failed) basis).basis.front) (whole : IsVector (joined (with_new (going_on (agent_of k e to_load has_failed) basis) new))) where
  abbrev a : Agent S
  a = agent_of k e to_load has_failed

  abbrev own : PubKey
  own = own_key signs k.signer

  abbrev gone : Holding
  gone = going_on a basis

  abbrev h : Holding
  h = with_new gone new

  abbrev f : Vector
  f = joined h

  cited : MayBeCited view f
  cited = record { whole = whole; named = inside.named }

  may_take : MayTake signs view a h
  may_take = record { spelled = spelled view f well cited; named = inside.named; own_log = inside.own_log }

  taken : TakesNew view own k.floor gone (refresh_with batch basis) new
  taken = record { caught_up = takes.caught_up; above = takes.above; part = takes.part }

  -- the definition's turn, where this becomes of the agent
  as_answered : (x : Agent S) (written : List Record) (saving : Option (Saved S)) (fails : Bool) (reply : Reply) → Becomes signs view a h fails written x saving
      → IsByDefinition signs (refresh_with batch basis) (record { agent = a; view = view; now = now; fails = fails }) asked h written reply
      → (saving ≡ None → (other : Bool) → Becomes signs view a h other written x saving × IsByDefinition signs (refresh_with batch basis) (record { agent = a; view = view; now = now; fails = other }) asked h written reply)
      → IfSome saving (IsKept signs IsWhole) → (keeper keeper_after : K) → Saves saves keeper (option_map (kept_bytes signs) saving) fails keeper_after
      → (y : Agent S) → y ≡ x → (t : Turned) → t.applied ≡ applied_between gone.held h.held + length written → t.reply ≡ bytes_of reply → t.posts ≡ x.pending → t.front ≡ joined x.holding
      → IsAnswered signs IsWhole saves view (refresh_with batch basis) asked now (record { agent = a; keeper = keeper }) t (record { agent = y; keeper = keeper_after })
  as_answered x written saving fails reply becomes by_definition either may_be keeper keeper_after left y y_is t count bytes posts front =
      let turns_so : (f : Bool) → Becomes signs view a h f written x saving → IsByDefinition signs (refresh_with batch basis) (record { agent = a; view = view; now = now; fails = f }) asked h written reply
      → Turns signs (refresh_with batch basis) (record { agent = a; view = view; now = now; fails = f }) asked (Answered reply t.applied) y saving =
      (λ f becomes by_definition. subst (λ (p : ℕ × Agent S). Turns signs (refresh_with batch basis) (record { agent = a; view = view; now = now; fails = f }) asked (Answered reply p.0) p.1 saving) (λ i. (sym count i, sym y_is i))
      (turning.answers h written reply x saving takes.caught_up takes.above refl may_take becomes by_definition)) in
      record {
        fails = fails;
        reply = reply;
        turns = record {
          saving = saving;
          turns = turns_so fails becomes by_definition;
          either = λ none other. turns_so other (either none other).0 (either none other).1;
          keeper = left;
          kept = may_be;
        };
        gives = record {
          bytes = bytes;
          posts = posts ∙ ap (λ (z : Agent S). z.pending) (sym y_is);
          front = front ∙ ap (λ (z : Agent S). joined z.holding) (sym y_is);
        };
      }

  -- what is held then stands, with that front joined into the floor
  few_held : seq_of f (head_key_of own) ≤ most_records
  few_held = through (seq_of f (head_key_of own)) (seq_of k.floor (head_key_of own)) most_records inside.own_log from.few

  stands_taking : StandsIn signs (taking signs a h) view
  stands_taking = record {
    closed = takes.part.largest.closed;
    bounds = from.bounds;
    base = within_then signs view (saved_of k) kept in_view f cited few_held gone.basis.front from.base;
    front = front_within signs view (saved_of k) kept in_view f cited few_held;
  }

  sound_taking : (failed : Bool) → IsSound signs (record (taking signs a h) { has_failed = failed }) k.log f
  sound_taking failed = sound_in signs view (record (taking signs a h) { has_failed = failed }) k.log f in_view log refl
      (kept_then signs view (saved_of k) kept in_view f cited few_held IsAny k.signer k.pending refl tt kept.posts)
      (record { closed = stands_taking.closed; bounds = stands_taking.bounds; base = stands_taking.base; front = stands_taking.front })

  module _ (keeper : K) (k_after : Kept S) (e_after : Engine) (keeper_after : K) (done : Done) where
    abbrev y : Agent S
    y = agent_of k_after e_after None done.has_failed

    abbrev Ends : Type 0
    Ends = IsAnswered signs IsWhole saves view (refresh_with batch basis) asked now (record { agent = a; keeper = keeper }) done.turned (record { agent = y; keeper = keeper_after }) × IsSound signs y k_after.log done.front

    -- ---- a reply

    ends_replied : (reply : Reply) → served_on signs view k has_failed h f asked now ≡ Replies reply → k_after ≡ kept_to k f → holding e_after ≡ h → keeper_after ≡ keeper → done.front ≡ f → done.has_failed ≡ has_failed
        → Gives reply k_after f (applied_between gone.held h.held) done.turned → Ends
    ends_replied reply served kept_is held_is keeper_is front_is failed_is given =
        let y_is : y ≡ taking signs a h = (λ i. record {
          signer = (kept_is i).signer;
          view = (kept_is i).view;
          floor = (kept_is i).floor;
          holding = held_is i;
          to_load = None;
          snapshot = (kept_is i).snapshot;
          pending = (kept_is i).pending;
          has_failed = failed_is i;
        }) in (
          as_answered (taking signs a h) [] None false reply reads
              (replies_by_definition signs a view batch basis from.under.0 new asked now well from.under.1 taken false reply (ap (λ (l : Key). serve_on (goes_by signs view k has_failed) (kept_tree h) (seq_of f l) asked now) (sym log) ∙ served))
              (λ none other. (reads, replies_by_definition signs a view batch basis from.under.0 new asked now well from.under.1 taken other reply (ap (λ (l : Key). serve_on (goes_by signs view k has_failed) (kept_tree h) (seq_of f l) asked now) (sym log) ∙ served)))
              tt keeper keeper_after keeper_is y y_is done.turned (with_none done.turned.applied (applied_between gone.held h.held) given.count) given.bytes (given.posts ∙ ap (λ (q : Kept S). q.pending) kept_is) given.its_front,
          subst (λ (p : Agent S × Key × Vector). IsSound signs p.0 p.1 p.2) (λ i. (sym y_is i, (sym kept_is i).log, sym front_is i)) (sound_taking has_failed),
        )

    -- ---- records are written

    module _ (ops : List Op) (served : served_on signs view k has_failed h f asked now ≡ Writes ops) (at : seq_of f k.log ≡ seq_of k.floor k.log) (d : Draft S) (drafted : IsDraft signs k f now ops d) where
      abbrev written : List Record
      written = drafted.start ++ drafted.last ∷ []

      may_go : MayGoOn view own k.floor f h
      may_go = may_go_on view own k.floor gone (refresh_with batch None) new takes f well inside from.begun from.bounds

      good_over : AllByRecursion (IsGood view own) (written_over own now f ops)
      good_over = goods signs view asked now ops k has_failed h f log served call may_go whole at

      good : AllByRecursion (IsGood view own) written
      good = subst (λ (l : List Record). AllByRecursion (IsGood view own) l) drafted.written good_over

      same_log : (v : Vector) → seq_of v k.log ≡ seq_of v (head_key_of own)
      same_log v = ap (λ (l : Key). seq_of v l) log

      few_over : seq_of f (head_key_of own) + length ops ≤ most_records
      few_over = moved (seq_of f k.log) (seq_of f (head_key_of own)) (length ops) most_records (planned signs view asked now ops k has_failed h f log served).few (same_log f)

      count_written : length written ≡ length ops
      count_written = ap length (sym drafted.written) ∙ (written_are_next own now f ops).1

      reach_is : seq_of f (head_key_of own) ≡ own_reach signs a
      reach_is = sym (same_log f) ∙ at ∙ same_log k.floor

      may_write : MayWrite signs view a drafted.start drafted.last
      may_write = record {
        unfailed = (planned signs view asked now ops k has_failed h f log served).unfailed;
        is_left = (planned signs view asked now ops k has_failed h f log served).is_left;
        good = good;
        next = subst (λ (p : ℕ × List Record). AreNext p.0 p.1) (λ i. (reach_is i, drafted.written i)) (written_are_next own now f ops).0;
        few = counted (seq_of f (head_key_of own)) (own_reach signs a) (length ops) (length written) most_records few_over count_written reach_is;
        posts = posts_spelled signs k.signer (own_entry drafted.last).1 k.pending written kept.posts
            (each_from HasSpelling written (λ r c. (each (IsGood view own) written r good c).spelled))
            drafted.signed.each drafted.signed.head (subst (λ (ps : List Post). length ps < 2 ^ 32) drafted.signed.posts drafted.signed.few);
      }

      served_is : serve_on (goes_by signs view k has_failed) (kept_tree h) (seq_of f (head_key_of own)) asked now ≡ Writes ops
      served_is = ap (λ (l : Key). serve_on (goes_by signs view k has_failed) (kept_tree h) (seq_of f l) asked now) (sym log) ∙ served

      -- ---- how far all goes then

      abbrev front_with : Vector
      front_with = joined (with_held h written)

      with_is : with_newest own (newest_stamp (written_over own now f ops)) f ≡ front_with
      with_is = sym (held_front own now h ops whole.in_order) ∙ ap (λ (l : List Record). joined (with_held h l)) drafted.written

      front_is : d.front ≡ front_with
      front_is = drafted.its_front ∙ with_is

      member : Contains view.members own
      member = from.member

      cited_with : MayBeCited view front_with
      cited_with = subst (MayBeCited view) with_is (with_newest_may_be_cited view own (written_over own now f ops) f member good_over cited)

      few_with : seq_of front_with (head_key_of own) ≤ most_records
      few_with = subst (λ (v : Vector). seq_of v (head_key_of own) ≤ most_records) with_is
          (newest_up_to own (newest_stamp (written_over own now f ops)) f most_records few_held
          (λ t is. up_to t.seq (seq_of f (head_key_of own) + length ops) most_records (newest_is_reached own now f ops t is).0 few_over))

      closed_with : IsClosed view h.basis.front (h.held ++ written)
      closed_with = subst (λ (l : List Record). IsClosed view h.basis.front (h.held ++ l)) drafted.written
          (written_is_closed view own now h ops well member base.in_order cited takes.part.largest.closed call.moment
          (begun signs view asked now ops k has_failed h f log served call may_go whole at)
          (may_stand signs view asked now ops k has_failed h f log served call may_go whole at))

      -- ---- what is to be saved

      abbrev x : Agent S
      x = written_by signs a h drafted.start drafted.last

      next_is : signs.key (signs.next k.signer) ≡ signs.key k.signer
      next_is = ap signs.key (sym drafted.signed.next) ∙ drafted.signed.same_key

      floor_is : d.next.floor ≡ join k.floor front_with
      floor_is = drafted.floor ∙ ap (join k.floor) front_is

      saved_is : saved_of (kept_with k d.next) ≡ kept_of x
      saved_is = (λ i. record {
        signer = drafted.signed.next i;
        view = k.view;
        floor = floor_is i;
        pending = drafted.signed.posts i;
        snapshot = k.snapshot;
      })

      kept_with_them : (IsWhole : S → Type 0) → IsWhole (signs.next k.signer) → IsKept signs IsWhole (kept_of x)
      kept_with_them IsWhole whole = kept_then signs view (saved_of k) kept in_view front_with cited_with few_with IsWhole (signs.next k.signer) x.pending next_is whole may_write.posts

      own_is : own ≡ own_key signs (signs.next k.signer)
      own_is = (λ i. record { 0 = sym next_is i })

      sound_with : IsSound signs x k.log front_with
      sound_with = sound_in signs view x k.log front_with in_view (log ∙ ap head_key_of own_is) refl (kept_with_them IsAny tt) (record {
        closed = closed_with;
        bounds = from.bounds;
        base = subst (λ (o : PubKey). IsWithin view o (join k.floor front_with) gone.basis.front) own_is (within_then signs view (saved_of k) kept in_view front_with cited_with few_with gone.basis.front from.base);
        front = subst (λ (o : PubKey). IsWithin view o (join k.floor front_with) front_with) own_is (front_within signs view (saved_of k) kept in_view front_with cited_with few_with);
      })

      -- ---- by whether the save fails

      module _ (w : HasWritten signs IsWhole saves view asked ops k h f keeper (applied_between gone.held h.held + length (records_of d.records.items)) d k_after (holding e_after) keeper_after done) where
        whole_next : IsWhole (signs.next k.signer)
        whole_next = subst IsWhole drafted.signed.next w.whole

        asked_to : saves keeper (kept_bytes signs (kept_of x)) done.has_failed keeper_after
        asked_to = subst (λ (q : Saved S). saves keeper (kept_bytes signs q) done.has_failed keeper_after) saved_is w.saved

        count_is : done.turned.applied ≡ applied_between gone.held h.held + length written
        count_is = w.given.count ∙ ap (λ (l : List Record). applied_between gone.held h.held + length l) drafted.records

        saved : done.has_failed ≡ false → Ends
        saved is =
            let kept_is : k_after ≡ kept_with k d.next = subst (λ (b : Bool). k_after ≡ cond b (kept_to k f) (kept_with k d.next)) is w.kept in
            let held_is : holding e_after ≡ with_held h written =
            subst (λ (b : Bool). holding e_after ≡ cond b h (with_held h (records_of d.records.items))) is w.held ∙ ap (λ (l : List Record). with_held h l) drafted.records in
            let done_front : done.front ≡ front_with = subst (λ (b : Bool). done.front ≡ cond b f d.front) is w.its_front ∙ front_is in
            let bytes : done.turned.reply ≡ bytes_of (written_reply view asked ops h written) =
            subst (λ (b : Bool). done.turned.reply ≡ bytes_of (cond b (lost_reply asked) (written_reply view asked ops h (records_of d.records.items)))) is w.given.bytes
            ∙ ap (λ (l : List Record). bytes_of (written_reply view asked ops h l)) drafted.records in
            let y_is : y ≡ x = ap (λ (q : Kept S). agent_of q e_after None done.has_failed) kept_is ∙ (λ i. record {
              signer = drafted.signed.next i;
              view = k.view;
              floor = floor_is i;
              holding = held_is i;
              to_load = None;
              snapshot = k.snapshot;
              pending = drafted.signed.posts i;
              has_failed = (is ∙ sym may_write.unfailed) i;
            }) in (
              as_answered x written (Some (kept_of x)) false (written_reply view asked ops h written) (turning.saves drafted.start drafted.last may_write refl)
                  (subst (λ (l : List Record). IsByDefinition signs (refresh_with batch basis) (record { agent = a; view = view; now = now; fails = false }) asked h l (written_reply view asked ops h l)) drafted.written
                  (saved_by_definition signs a view batch basis from.under.0 new asked now well from.under.1 taken ops served_is))
                  (λ none. absurd cc) (kept_with_them IsWhole whole_next) keeper keeper_after (subst (λ (b : Bool). saves keeper (kept_bytes signs (kept_of x)) b keeper_after) is asked_to)
                  y y_is done.turned count_is bytes (w.given.posts ∙ ap (λ (q : Kept S). q.pending) kept_is ∙ drafted.signed.posts) (w.given.its_front ∙ done_front),
              subst (λ (p : Agent S × Key × Vector). IsSound signs p.0 p.1 p.2) (λ i. (sym y_is i, (sym kept_is i).log, sym done_front i)) sound_with,
            )

        lost : done.has_failed ≡ true → Ends
        lost is =
            let kept_is : k_after ≡ kept_to k f = subst (λ (b : Bool). k_after ≡ cond b (kept_to k f) (kept_with k d.next)) is w.kept in
            let held_is : holding e_after ≡ h = subst (λ (b : Bool). holding e_after ≡ cond b h (with_held h (records_of d.records.items))) is w.held in
            let done_front : done.front ≡ f = subst (λ (b : Bool). done.front ≡ cond b f d.front) is w.its_front in
            let bytes : done.turned.reply ≡ bytes_of (lost_reply asked) =
            subst (λ (b : Bool). done.turned.reply ≡ bytes_of (cond b (lost_reply asked) (written_reply view asked ops h (records_of d.records.items)))) is w.given.bytes in
            let y_is : y ≡ failed (taking signs a h) = (λ i. record {
              signer = (kept_is i).signer;
              view = (kept_is i).view;
              floor = (kept_is i).floor;
              holding = held_is i;
              to_load = None;
              snapshot = (kept_is i).snapshot;
              pending = (kept_is i).pending;
              has_failed = is i;
            }) in (
              as_answered (failed (taking signs a h)) written (Some (kept_of x)) true (lost_reply asked) (loses drafted.start drafted.last may_write refl)
                  (subst (λ (l : List Record). IsByDefinition signs (refresh_with batch basis) (record { agent = a; view = view; now = now; fails = true }) asked h l (lost_reply asked)) drafted.written
                  (lost_by_definition signs a view batch basis from.under.0 new asked now well from.under.1 taken ops served_is))
                  (λ none. absurd cc) (kept_with_them IsWhole whole_next) keeper keeper_after (subst (λ (b : Bool). saves keeper (kept_bytes signs (kept_of x)) b keeper_after) is asked_to)
                  y y_is done.turned count_is bytes (w.given.posts ∙ ap (λ (q : Kept S). q.pending) kept_is) (w.given.its_front ∙ done_front),
              subst (λ (p : Agent S × Key × Vector). IsSound signs p.0 p.1 p.2) (λ i. (sym y_is i, (sym kept_is i).log, sym done_front i)) (sound_taking true),
            )

        ends_written : (b : Bool) → done.has_failed ≡ b → Ends
        ends_written true is = lost is
        ends_written false is = saved is

    pub ends_answered : (h_after : Holding) → holding e_after ≡ h_after → Answers signs IsWhole saves view asked now k has_failed h f keeper (applied_between gone.held h.held) k_after h_after keeper_after done → Ends
    ends_answered h_after after_is (replies reply served kept_is held_is keeper_is front_is failed_is given) = ends_replied reply served kept_is (after_is ∙ held_is) keeper_is front_is failed_is given
    ends_answered h_after after_is (writes ops served at w) = ends_written ops served at w.draft w.is_draft
        (subst (λ (g : Holding). HasWritten signs IsWhole saves view asked ops k h f keeper (applied_between gone.held h.held + length (records_of w.draft.records.items)) w.draft k_after g keeper_after done) (sym after_is) w.written)
        done.has_failed refl
