-- Turns leave it so: what an agent writes of its log it has to publish.
use Rattle.std.proofs.Common.{◌≡◌, inl, inr, ⊎_elim, ℕ, Bool, true, false, cond, not, List, [], ◌∷◌, ◌++◌, length, map, filter, Option, Some, None, refl, sym, ap, ◌∙◌, subst, arith, Contains, append_assoc}
use Rattle.std.specs.Prelude.{is_some}
use Rattle.std.specs.List.{AllByRecursion}
use Rattle.std.specs.Ordering.{eq_by_cmp}
use Rattle.std.proofs.lemmas.List.Elements.{Contains-append_left, Contains-append_right, Contains-append_cases, filter-append}
use Rattle.ivy_base.specs.declared.key.PubKey.{PubKey}
use Rattle.ivy_base.specs.Naming.{IsCollisionFree, head_key_of, owner_cmp}
use Rattle.log_model.specs.Chain.{IsGood}
use Rattle.log_model.specs.Closed.{IsClosed, log_of}
use Rattle.log_model.specs.Rank.{own_entry}
use Rattle.log_model.specs.Record.{Record}
use Rattle.log_model.specs.Vector.{join, seq_of}
use Rattle.log_model.specs.View.{View}
use Rattle.log_model.proofs.Later.{name_is_key}
use Rattle.log_model.proofs.Lists.{each, each_from, from_filter, here, in_cons, in_filter, in_nothing}
use Rattle.log_model.proofs.Opening.{same_owner}
use Rattle.log_model.proofs.Owners.{owner_itself}
use Rattle.ring_model.proofs.Lists.{all_weaker, cons_tail}
use Rattle.nfs_model.specs.declared.replies.Reply.{Reply}
use Rattle.dht_ids.specs.declared.post.Post.{Post}
use Rattle.turn_model.specs.Basis.{Holding}
use Rattle.turn_model.specs.Turn.{Asked, Turned}
use Rattle.agent_model.specs.Agent.{head_post, is_head, joined, kept_of, record_post, with_posts}
use Rattle.agent_model.specs.Standing.{Refresh}
use Rattle.agent_model.specs.Turning.{Answered, Becomes, IsByDefinition, MayTake, MayWrite, TurnEnd, Turns, taking, written_by}
use Rattle.agent_model.specs.Turning.Becomes.{loses, reads, saves}
use Rattle.agent_model.specs.Turning.Turns.{answers as turn_answers, behind, below}
use Rattle.session_model.specs.Brought.{stamp_of}
use Rattle.session_model.specs.Executions.{HasRefreshed, IsRefusal}
use Rattle.session_model.specs.Executions.TakesTurn.{answers, begins_again, gives_up}
use Rattle.session_model.specs.Refreshing.{Note}
use Rattle.session_model.specs.Replies.{Asks}
use Rattle.session_model.specs.Sessions.{Session}
use Rattle.ivy_io.specs.Causes.{counted}
use Rattle.ivy_io.specs.Keepers as memory
use Rattle.world_model.specs.Agents.{HssAgent, IsHssKept, IsHssTurnIn, HssKept, TakesHssTurn, hss_signing, hss_kept_bytes, own_hss_key, own_reach}
use Rattle.world_model.specs.Keepers.{Keeper, asked_to_save, fails_next}
use Rattle.world_model.specs.World.{Participant, named_bytes, participant}
use Rattle.world_model.specs.GhostState.{HadTurn, known_of, knowing_of}
use Rattle.world_model.specs.Steps.{Configuration, after_turn, met_by, turn_told, turning_of, world_after}
use Rattle.world_laws.specs.Invariant.{IsInHand, IsKeptSo, IsSavedWell, Invariant}
use Rattle.world_laws.specs.Laws.{StepLeaves}
use Rattle.world_laws.proofs.AnsweredTurns.{answered_turns_keep}
use Rattle.world_laws.proofs.Bringing.{found_named, its_view}
use Rattle.world_laws.proofs.Frames.{found_placed, into_map}
use Rattle.turn_laws.proofs.LinkedLogs.{chain_linked}
use Rattle.world_laws.proofs.PublicKeys.{owner_is_key}
use Rattle.world_laws.proofs.SignedAmong.{met_stays, met_then}
use Rattle.world_laws.proofs.SignedHeads.{from_map}
use Rattle.agent_laws.proofs.Floors.{joined_first, joined_no_more}
use Rattle.world_laws.proofs.TurnsKnown.{same_own_log, taken, turned_is, writes}
use Rattle.agent_laws.proofs.Sets.{read_set, saved_set}
use Rattle.calm_laws.specs.Put.{IsPutOr}
use Rattle.calm_laws.proofs.UpTo.{head_tells}
use Rattle.calm_laws.proofs.Stages.{IsHeadPutOr, IsMet}
use Rattle.calm_laws.proofs.Backed.{IsBackedBy, IsBackedIn, in_more}

-- ---- keepers of which no save is to fail

planned_none : (y : Keeper) → y.failing ≡ [] → memory.planned_next y ≡ None
planned_none y e = ap (λ fs. memory.planned (counted y.saves) fs) e

pub never_fails : (y : Keeper) → y.failing ≡ [] → fails_next y ≡ false
never_fails y e = ap is_some (planned_none y e)

pub kept_now : (y : Keeper) (l : HssKept) → y.failing ≡ [] → (asked_to_save y (Some l)).kept ≡ Some (hss_kept_bytes l)
kept_now y l e = ap (λ x. (memory.after_planned x y (hss_kept_bytes l)).kept) (planned_none y e)

pub fine_now : (y : Keeper) (l : HssKept) → y.failing ≡ [] → (asked_to_save y (Some l)).failing ≡ []
fine_now y l e = ap (λ x. (memory.after_planned x y (hss_kept_bytes l)).failing) (planned_none y e) ∙ e

-- ---- logs

pub in_own_log : (owner : PubKey) (rs : List Record) (one : Record) → Contains rs one → one.owner ≡ owner → Contains (log_of owner rs) one
in_own_log owner rs one c mine = in_filter (λ (r : Record). eq_by_cmp owner_cmp owner r.owner) rs one c (subst (λ (o : PubKey). eq_by_cmp owner_cmp owner o ≡ true) (sym mine) (owner_itself owner))

pub from_log : (owner : PubKey) (rs : List Record) (one : Record) → Contains (log_of owner rs) one → Contains rs one
from_log owner rs one c = (from_filter (λ (r : Record). eq_by_cmp owner_cmp owner r.owner) rs one c).0

all_own : (owner : PubKey) (rs : List Record) → AllByRecursion (λ r. r.owner ≡ owner) rs → log_of owner rs ≡ rs
all_own owner [] h = refl
all_own owner (r ∷ rs) h = by (eq_by_cmp owner_cmp owner r.owner) (subst (λ (o : PubKey). eq_by_cmp owner_cmp owner o ≡ true) (sym h.0) (owner_itself owner)) (all_own owner rs h.1)
  where
    by : (b : Bool) → b ≡ true → log_of owner rs ≡ rs → cond b (r ∷ log_of owner rs) (log_of owner rs) ≡ r ∷ rs
    by true is rest = ap (λ (l : List Record). r ∷ l) rest
    by false is rest = cc is

log_with_own : (owner : PubKey) (s rs : List Record) → AllByRecursion (λ r. r.owner ≡ owner) rs → log_of owner (s ++ rs) ≡ log_of owner s ++ rs
log_with_own owner s rs h = filter-append (λ (r : Record). eq_by_cmp owner_cmp owner r.owner) s rs ∙ ap (λ (l : List Record). log_of owner s ++ l) (all_own owner rs h)

in_last : (before : List Record) (last : Record) → Contains (before ++ last ∷ []) last
in_last before last = Contains-append_right before (last ∷ []) last (here last [])

pub all_posts_met : (met : List (List ℕ)) (posts : List Post) → AllByRecursion (IsMet (met_by met posts)) posts
all_posts_met met posts = each_from (IsMet (met_by met posts)) posts (λ p c. met_then met (map (λ (o : Post). o.bytes) posts) p.bytes (into_map (λ (o : Post). o.bytes) posts p c))

-- ---- a turn that was answered

module _ (c : Configuration) (r : ℕ) (p : Participant) (keeps : Invariant (c.world, c.ghost_state)) (hand : IsInHand c r) (is_p : participant c.world c.session.by ≡ Some p) (apart : IsCollisionFree (named_bytes c.world))
    (old : IsBackedIn c.world.met c.ghost_state.acked p (known_of c.ghost_state p.name)) where
  abbrev a : HssAgent
  a = p.agent

  abbrev acked : List Post
  acked = c.ghost_state.acked

  -- nothing is written
  still_in : (h : Holding) → MayTake hss_signing c.session.standing.view p.agent h → (set : List Record) → ((one : Record) → Contains set one → one.owner ≡ own_hss_key p.agent → Contains (known_of c.ghost_state p.name) one) → (q : Participant)
      → q.agent ≡ taking hss_signing p.agent h → q.keeper ≡ p.keeper → IsBackedIn (met_by c.world.met p.agent.pending) c.ghost_state.acked q set
  still_in h may set less q is same = subst (λ x. IsBackedIn (met_by c.world.met p.agent.pending) c.ghost_state.acked (record q { agent = x }) set) (sym is)
      (subst (λ y. IsBackedIn (met_by c.world.met p.agent.pending) c.ghost_state.acked (record q { agent = taking hss_signing p.agent h; keeper = y }) set) (sym same) (record {
        agent = record { records = λ one among mine. old.agent.records one (less one among mine) mine; heads = old.agent.heads };
        pending = all_weaker (IsMet c.world.met) (IsMet (met_by c.world.met p.agent.pending)) p.agent.pending (λ x m. met_stays c.world.met (map (λ (o : Post). o.bytes) p.agent.pending) x.bytes m) old.pending;
        fine = old.fine;
        keeper = (
          old.keeper.0,
          old.keeper.1,
          old.keeper.2,
          record {
            same_reach = old.keeper.3.same_reach ∙ sym same_reach;
            backed = record { records = λ one among mine. old.keeper.3.backed.records one (less one among mine) mine; heads = old.keeper.3.backed.heads };
          },
        );
      }))
    where
      same_reach : seq_of (join p.agent.floor (joined h)) (head_key_of (own_hss_key p.agent)) ≡ own_reach p.agent
      same_reach =
          let first = joined_first (head_key_of (own_hss_key p.agent)) p.agent.floor (joined h) may.spelled.in_order in
          let no_more = joined_no_more (head_key_of (own_hss_key p.agent)) p.agent.floor (joined h) may.spelled.in_order (own_reach p.agent) (omega arith) may.own_log in
          omega (arith, first, no_more)

  -- records are written
  module _ (h : Holding) (before : List Record) (last : Record) (may : MayWrite hss_signing c.session.standing.view p.agent before last) (taken_set : List Record) (less : (one : Record) → Contains taken_set one → one.owner ≡ own_hss_key p.agent → Contains (known_of c.ghost_state p.name) one)
      (closed : IsClosed c.session.standing.view (taken_set ++ (before ++ last ∷ []))) (whole : IsHssKept (kept_of (written_by hss_signing p.agent h before last))) where
    abbrev wrote : List Record
    wrote = before ++ last ∷ []

    abbrev posts : List Post
    posts = with_posts p.agent.pending (before ++ last ∷ []) (head_post hss_signing p.agent.signer (own_entry last).1)

    good_last : IsGood c.session.standing.view (own_hss_key p.agent) last
    good_last = each (IsGood c.session.standing.view (own_hss_key p.agent)) (before ++ last ∷ []) last may.good (in_last before last)

    owned : AllByRecursion (λ x. x.owner ≡ own_hss_key p.agent) (before ++ last ∷ [])
    owned = all_weaker (IsGood c.session.standing.view (own_hss_key p.agent)) (λ (x : Record). x.owner ≡ own_hss_key p.agent) (before ++ last ∷ []) (λ x good. good.owned) may.good

    -- those that stay, and the new records'
    abbrev stay : List Post
    stay = filter (λ (x : Post). not (is_head x.kind)) p.agent.pending

    abbrev both : List Post
    both = filter (λ (x : Post). not (is_head x.kind)) p.agent.pending ++ map record_post (before ++ last ∷ [])

    abbrev the_head : List Post
    the_head = head_post hss_signing p.agent.signer (own_entry last).1 ∷ []

    kept_post : (one : Record) → Contains p.agent.pending (record_post one) → Contains posts (record_post one)
    kept_post one among = Contains-append_left both the_head (record_post one) (Contains-append_left stay (map record_post (before ++ last ∷ [])) (record_post one) (in_filter (λ (x : Post). not (is_head x.kind)) p.agent.pending (record_post one) among refl))

    new_post : (one : Record) → Contains (before ++ last ∷ []) one → Contains posts (record_post one)
    new_post one among = Contains-append_left both the_head (record_post one) (Contains-append_right stay (map record_post (before ++ last ∷ [])) (record_post one) (into_map record_post (before ++ last ∷ []) one among))

    still_or : (one : Record) → IsPutOr c.ghost_state.acked p.agent.pending one → IsPutOr c.ghost_state.acked posts one
    still_or one (inl put) = inl put
    still_or one (inr among) = inr (kept_post one among)

    records_so : (one : Record) → Contains (taken_set ++ (before ++ last ∷ [])) one → one.owner ≡ own_hss_key p.agent → IsPutOr c.ghost_state.acked posts one
    records_so one among mine = ⊎_elim (λ was. still_or one (old.agent.records one (less one was mine) mine)) (λ new. inr (new_post one new)) (Contains-append_cases taken_set (before ++ last ∷ []) one among)

    -- the head is over the last of them
    ends_so : log_of (own_hss_key p.agent) (taken_set ++ (before ++ last ∷ [])) ≡ (log_of (own_hss_key p.agent) taken_set ++ before) ++ last ∷ []
    ends_so = log_with_own (own_hss_key p.agent) taken_set (before ++ last ∷ []) owned ∙ sym (append_assoc (log_of (own_hss_key p.agent) taken_set) before (last ∷ []))

    signer_whole : length (own_hss_key p.agent).0 ≡ 60
    signer_whole = (owner_is_key p.agent.signer (each (IsKeptSo IsSavedWell) c.world.participants p keeps.saved (found_named c.world.participants c.session.by p is_p).0).3.agent.signer).size

    head_so : IsHeadPutOr c.ghost_state.acked posts (head_post hss_signing p.agent.signer (own_entry last).1)
    head_so j judged = (
      own_hss_key p.agent,
      refl,
      record {
        log = log_of (own_hss_key p.agent) (taken_set ++ (before ++ last ∷ []));
        linked = chain_linked c.session.standing.view (own_hss_key p.agent) (log_of (own_hss_key p.agent) (taken_set ++ (before ++ last ∷ []))) (closed.chains (own_hss_key p.agent));
        ends = (log_of (own_hss_key p.agent) taken_set ++ before, last, ends_so, sym told);
        each = each_from (IsPutOr c.ghost_state.acked posts) (log_of (own_hss_key p.agent) (taken_set ++ (before ++ last ∷ [])))
            (λ one among. records_so one (from_log (own_hss_key p.agent) (taken_set ++ (before ++ last ∷ [])) one among) (owner_of_log one among));
      },
    )
      where
        told : stamp_of j ≡ (own_entry last).1
        told = head_tells (head_key_of (own_hss_key p.agent)) _ j (own_hss_key p.agent) (own_entry last).1 _ judged refl signer_whole (let few = good_last.spelled.few in omega (arith, few)) (name_is_key last good_last.spelled).size

        all_good : (one : Record) → Contains (log_of (own_hss_key p.agent) (taken_set ++ (before ++ last ∷ []))) one → eq_by_cmp owner_cmp (own_hss_key p.agent) one.owner ≡ true
        all_good one among = (from_filter (λ (x : Record). eq_by_cmp owner_cmp (own_hss_key p.agent) x.owner) (taken_set ++ (before ++ last ∷ [])) one among).1

        owner_of_log : (one : Record) → Contains (log_of (own_hss_key p.agent) (taken_set ++ (before ++ last ∷ []))) one → one.owner ≡ own_hss_key p.agent
        owner_of_log one among = same_owner (own_hss_key p.agent) one.owner (all_good one among)

    heads_so : (x : Post) → Contains posts x → is_head x.kind ≡ true → IsHeadPutOr c.ghost_state.acked posts x
    heads_so x among is = ⊎_elim
        (λ old. ⊎_elim
        (λ was. absurd (not_both x.kind is (from_filter (λ (o : Post). not (is_head o.kind)) p.agent.pending x was).1))
        (λ rec. absurd (let from = from_map record_post (before ++ last ∷ []) x rec in no_head_kind (sym (ap (λ (o : Post). is_head o.kind) from.2) ∙ is)))
        (Contains-append_cases stay (map record_post (before ++ last ∷ [])) x old))
        (λ one. ⊎_elim (λ e. subst (IsHeadPutOr c.ghost_state.acked posts) e head_so) (λ none. absurd (in_nothing x none)) (in_cons (head_post hss_signing p.agent.signer (own_entry last).1) [] x one))
        (Contains-append_cases both the_head x among)
      where
        not_both : (k : _) → is_head k ≡ true → not (is_head k) ≡ true → ⊥
        not_both k e f = by (is_head k) e f
          where
            by : (b : Bool) → b ≡ true → not b ≡ true → ⊥
            by true e f = cc f
            by false e f = cc e

        no_head_kind : false ≡ true → ⊥
        no_head_kind e = cc e

    backed : IsBackedBy c.ghost_state.acked (own_hss_key p.agent) (taken_set ++ (before ++ last ∷ [])) posts
    backed = record { records = records_so; heads = heads_so }

    written_in : (q : Participant) → q.agent ≡ written_by hss_signing p.agent h before last → q.keeper ≡ asked_to_save p.keeper (Some (kept_of (written_by hss_signing p.agent h before last)))
        → IsBackedIn (met_by c.world.met posts) c.ghost_state.acked q (taken_set ++ (before ++ last ∷ []))
    written_in q is same =
        subst (λ x. IsBackedIn (met_by c.world.met posts) c.ghost_state.acked (record q { agent = x }) (taken_set ++ (before ++ last ∷ []))) (sym is)
        (subst (λ y. IsBackedIn (met_by c.world.met posts) c.ghost_state.acked (record q { agent = written_by hss_signing p.agent h before last; keeper = y }) (taken_set ++ (before ++ last ∷ []))) (sym same) (record {
          agent = backed;
          pending = all_posts_met c.world.met posts;
          fine = fine_now p.keeper (kept_of (written_by hss_signing p.agent h before last)) old.fine;
          keeper = (kept_of (written_by hss_signing p.agent h before last), whole, kept_now p.keeper (kept_of (written_by hss_signing p.agent h before last)) old.fine, record { same_reach = refl; backed = backed });
        }))

-- ---- by what became of it

same_behind : {X : Type 0} (xs ys zs : List X) → xs ++ ys ≡ xs ++ zs → ys ≡ zs
same_behind [] ys zs e = e
same_behind {X} (x ∷ xs) ys zs e = same_behind xs ys zs (cons_tail x (xs ++ ys) x (xs ++ zs) e)

one_view : (a b : View) → Some a ≡ Some b → a ≡ b
one_view a b e = cc e

module _ (c : Configuration) (r : ℕ) (p : Participant) (keeps : Invariant (c.world, c.ghost_state)) (hand : IsInHand c r) (ringed : c.world.replicas ≡ Some r) (is_p : participant c.world c.session.by ≡ Some p) (apart : IsCollisionFree (named_bytes c.world))
    (old : IsBackedIn c.world.met c.ghost_state.acked p (known_of c.ghost_state p.name)) (reply : Reply) (turned : Turned) where
  abbrev IsIts : View → Type 0
  IsIts view = IsCollisionFree (named_bytes c.world) → IsHssTurnIn (named_bytes c.world) (turning_of c.world p view) c.session c.began.knew (known_of c.ghost_state p.name) turned

  abbrev Then : ℕ → HssAgent → Option HssKept → Type 0
  Then applied after saving = IsBackedIn (met_by c.world.met after.pending) c.ghost_state.acked (record (after_turn p after saving) { work = applied }) turned.set

  -- what is known of the world then
  record IsFine (after : HssAgent) : Type 0 where
    whole : IsHssKept (kept_of after)
    closed : IsClosed c.session.standing.view turned.set

  by_becoming : (notes : List Note) (given : Refresh) (xid : ℕ) (asked : Asked) (applied : ℕ) (after : HssAgent) (save : Option HssKept) (h : Holding) (written : List Record) → HasRefreshed c.session notes given → Asks c.session.standing.view c.session.message xid asked
      → MayTake hss_signing c.session.standing.view p.agent h → Becomes hss_signing c.session.standing.view p.agent h (fails_next p.keeper) written after save
      → IsByDefinition hss_signing given (turning_of c.world p c.session.standing.view) asked h written reply → IsIts c.session.standing.view → IsFine after → Then applied after save
  by_becoming notes given xid asked applied _ _ h _ done asks may reads by_definition is_turn fine =
      still_in c r p keeps hand is_p apart old h may turned.set less _ refl refl
    where
      set_is : turned.set ≡ taken c r p keeps hand is_p notes given xid asked reply done asks h [] by_definition turned apart (is_turn apart)
      set_is =
          ap (λ (x : Turned). x.set) (turned_is c r p keeps hand is_p notes given xid asked reply done asks h [] by_definition turned apart (is_turn apart))
          ∙ read_set hss_signing p.agent c.session.standing.view (is_turn apart).taken asked c.world.now (fails_next p.keeper) (writes c r p keeps hand is_p notes given xid asked reply done asks h [] by_definition turned apart (is_turn apart))

      less : (one : Record) → Contains turned.set one → one.owner ≡ own_hss_key p.agent → Contains (known_of c.ghost_state p.name) one
      less one among mine = from_log (own_hss_key p.agent) (known_of c.ghost_state p.name) one
          (subst (λ l. Contains l one) (same_own_log c r p keeps hand is_p notes given xid asked reply done asks h [] by_definition turned apart (is_turn apart))
          (in_own_log (own_hss_key p.agent) (is_turn apart).taken one (subst (λ s. Contains s one) set_is among) mine))
  by_becoming notes given xid asked applied _ _ h _ done asks may (saves before last may_write well) by_definition is_turn fine =
      subst (IsBackedIn (met_by c.world.met (written_by hss_signing p.agent h before last).pending) c.ghost_state.acked _) (sym set_is)
      (written_in c r p keeps hand is_p apart old h before last may_write (is_turn apart).taken less (subst (IsClosed c.session.standing.view) set_is fine.closed) fine.whole _ refl refl)
    where
      set_is : turned.set ≡ (is_turn apart).taken ++ (before ++ last ∷ [])
      set_is =
          ap (λ (x : Turned). x.set) (turned_is c r p keeps hand is_p notes given xid asked reply done asks h (before ++ last ∷ []) by_definition turned apart (is_turn apart))
          ∙ saved_set hss_signing p.agent c.session.standing.view (is_turn apart).taken asked c.world.now (fails_next p.keeper) well
          ∙ sym (writes c r p keeps hand is_p notes given xid asked reply done asks h (before ++ last ∷ []) by_definition turned apart (is_turn apart))

      less : (one : Record) → Contains (is_turn apart).taken one → one.owner ≡ own_hss_key p.agent → Contains (known_of c.ghost_state p.name) one
      less one among mine = from_log (own_hss_key p.agent) (known_of c.ghost_state p.name) one
          (subst (λ l. Contains l one) (same_own_log c r p keeps hand is_p notes given xid asked reply done asks h (before ++ last ∷ []) by_definition turned apart (is_turn apart))
          (in_own_log (own_hss_key p.agent) (is_turn apart).taken one among mine))
  by_becoming notes given xid asked applied _ _ h _ done asks may (loses before last may_write gone) by_definition is_turn fine = absurd (lost (sym gone ∙ never_fails p.keeper old.fine))
    where
      lost : true ≡ false → ⊥
      lost e = cc e

  by_turns : (notes : List Note) (given : Refresh) (xid : ℕ) (asked : Asked) (applied : ℕ) (after : HssAgent) (save : Option HssKept) → HasRefreshed c.session notes given → Asks c.session.standing.view c.session.message xid asked
      → Turns hss_signing given (turning_of c.world p c.session.standing.view) asked (Answered reply applied) after save → IsIts c.session.standing.view → IsFine after → Then applied after save
  by_turns notes given xid asked _ _ _ done asks (turn_answers h written _ after save near over basis_is may becomes by_definition) is_turn fine =
      by_becoming notes given xid asked _ after save h written done asks may becomes by_definition is_turn fine

  takes_so : (applied : ℕ) (after : HssAgent) (save : Option HssKept) (t : Session) → TakesHssTurn (turning_of c.world p c.session.standing.view) c.session (Answered reply applied) after save t → IsIts c.session.standing.view → IsFine after → Then applied after save
  takes_so _ _ _ _ (answers notes given xid asked _ applied then_it save done asks turns) is_turn fine = by_turns notes given xid asked applied then_it save done asks turns is_turn fine
  takes_so _ _ _ _ (begins_again notes given xid asked _ then_it save done asks turns refusal few) is_turn fine = absurd refusal
  takes_so _ _ _ _ (gives_up notes given xid asked _ then_it save done asks turns refusal many) is_turn fine = absurd refusal

  pub turned_in : (view : View) (applied : ℕ) (after : HssAgent) (saving : Option HssKept) (t : Session) → p.agent.view ≡ Some view → TakesHssTurn (turning_of c.world p view) c.session (Answered reply applied) after saving t
      → turned.reply ≡ reply → IsIts view → Then applied after saving
  turned_in view applied after saving t in_view takes replies is_turn =
      let same : c.session.standing.view ≡ view = one_view c.session.standing.view view (sym (its_view c r hand p is_p) ∙ in_view) in
      takes_so applied after saving t (subst (λ v. TakesHssTurn (turning_of c.world p v) c.session (Answered reply applied) after saving t) (sym same) takes) (subst IsIts (sym same) is_turn)
      (record { whole = whole; closed = subst (λ v. IsClosed v turned.set) (sym same) closed })
    where
      q : Participant
      q = record (after_turn p after saving) { work = applied }

      next : Configuration
      next = record { world = world_after c.world q; ghost_state = turn_told c p view after turned; session = t; began = c.began }

      leaves : StepLeaves c next r
      leaves = answered_turns_keep c r p view reply applied after saving t turned keeps hand ringed is_p in_view takes replies is_turn

      had : HadTurn
      had = record { session = c.session; began = c.began; by = p; knowing = knowing_of c.ghost_state p.name; view = view; met = named_bytes c.world; now = c.world.now; after = after; turned = turned }

      among : Contains leaves.2 had
      among = subst (λ l. Contains l had) (same_behind c.ghost_state.turns (had ∷ []) leaves.2 leaves.3) (here had [])

      closed : IsClosed view turned.set
      closed = (leaves.4 had among apart).set_is_closed

      whole : IsHssKept (kept_of after)
      whole = (each (IsKeptSo IsSavedWell) next.world.participants q leaves.0.saved (found_named next.world.participants c.session.by q (found_placed c.world keeps.apart c.session.by p is_p q refl)).0).3.agent

-- ---- a turn that was refused

pub refused_same : (now : _) (a : HssAgent) (view : View) (fails : Bool) (s : Session) (end : TurnEnd) (after : HssAgent) (saving : Option HssKept) (t : Session) → TakesHssTurn (record { agent = a; view = view; now = now; fails = fails }) s end after saving t → IsRefusal end
    → (after.pending ≡ a.pending) × (after.signer ≡ a.signer) × (after.floor ≡ a.floor) × (saving ≡ None)
refused_same now a view fails s _ _ _ _ (answers notes given xid asked reply applied after saving done asks turns) refusal = absurd refusal
refused_same now a view fails s _ _ _ _ (begins_again notes given xid asked _ _ _ done asks turns refused few) refusal = of_turn turns refusal
  where
    of_turn : {given : Refresh} {asked : Asked} {end : TurnEnd} {after : HssAgent} {saving : Option HssKept} → Turns hss_signing given (record { agent = a; view = view; now = now; fails = fails }) asked end after saving → IsRefusal end → (after.pending ≡ a.pending) × (after.signer ≡ a.signer) × (after.floor ≡ a.floor) × (saving ≡ None)
    of_turn (behind far) refusal = (refl, refl, refl, refl)
    of_turn (below near low) refusal = (refl, refl, refl, refl)
    of_turn (turn_answers h written reply after saving near over basis may becomes defined) refusal = absurd refusal
refused_same now a view fails s _ _ _ _ (gives_up notes given xid asked _ _ _ done asks turns refused many) refusal = of_turn turns refusal
  where
    of_turn : {given : Refresh} {asked : Asked} {end : TurnEnd} {after : HssAgent} {saving : Option HssKept} → Turns hss_signing given (record { agent = a; view = view; now = now; fails = fails }) asked end after saving → IsRefusal end → (after.pending ≡ a.pending) × (after.signer ≡ a.signer) × (after.floor ≡ a.floor) × (saving ≡ None)
    of_turn (behind far) refusal = (refl, refl, refl, refl)
    of_turn (below near low) refusal = (refl, refl, refl, refl)
    of_turn (turn_answers h written reply after saving near over basis may becomes defined) refusal = absurd refusal

-- what is to be published, the key and the floor are the same
pub same_in : (met : List (List ℕ)) (acked : List Post) (p q : Participant) (known : List Record) → q.agent.pending ≡ p.agent.pending → q.agent.signer ≡ p.agent.signer → q.agent.floor ≡ p.agent.floor → q.keeper ≡ p.keeper
    → IsBackedIn met acked p known → IsBackedIn met acked q known
same_in met acked p q known pending signer floor keeper h =
    subst (λ x. IsBackedIn met acked (record q { agent = record q.agent { pending = x } }) known) (sym pending)
    (subst (λ x. IsBackedIn met acked (record q { agent = record q.agent { pending = p.agent.pending; signer = x } }) known) (sym signer)
    (subst (λ x. IsBackedIn met acked (record q { agent = record q.agent { pending = p.agent.pending; signer = p.agent.signer; floor = x } }) known) (sym floor)
    (subst (λ x. IsBackedIn met acked (record q { agent = record q.agent { pending = p.agent.pending; signer = p.agent.signer; floor = p.agent.floor }; keeper = x }) known) (sym keeper)
    (record { agent = record { records = h.agent.records; heads = h.agent.heads }; pending = h.pending; fine = h.fine; keeper = (h.keeper.0, h.keeper.1, h.keeper.2, record { same_reach = h.keeper.3.same_reach; backed = h.keeper.3.backed }) }))))

pub refused_in : (c : Configuration) (p : Participant) (view : View) (end : TurnEnd) (after : HssAgent) (saving : Option HssKept) (t : Session) → TakesHssTurn (turning_of c.world p view) c.session end after saving t → IsRefusal end
    → IsBackedIn c.world.met c.ghost_state.acked p (known_of c.ghost_state p.name) → IsBackedIn (met_by c.world.met after.pending) c.ghost_state.acked (after_turn p after saving) (known_of c.ghost_state p.name)
refused_in c p view end after saving t takes refusal old =
    let same = refused_same c.world.now p.agent view (fails_next p.keeper) c.session end after saving t takes refusal in
    in_more c.world.met (met_by c.world.met after.pending) c.ghost_state.acked c.ghost_state.acked (after_turn p after saving) (known_of c.ghost_state p.name) (known_of c.ghost_state p.name) (λ b m. met_stays c.world.met (map (λ (o : Post). o.bytes) after.pending) b m) (λ q m. m) (λ one m mine. m)
    (same_in c.world.met c.ghost_state.acked p (after_turn p after saving) (known_of c.ghost_state p.name) same.0 same.1 same.2 (ap (λ o. asked_to_save p.keeper o) same.3) old)
