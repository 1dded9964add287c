-- An agent that may turn has a turn.
use Rattle.std.proofs.Common.{◌≡◌, ◌⊎◌, inl, inr, ⊎_elim, ℕ, ◌+◌, ◌≤◌, Bool, true, false, List, [], ◌∷◌, ◌++◌, length, Option, Some, None, refl, sym, ap, subst, arith, Contains}
use Rattle.std.specs.Prelude.{IsTrue}
use Rattle.std.specs.List.{AllByRecursion}
use Rattle.std.proofs.lemmas.List.Elements.{Contains-append_right}
use Rattle.ivy_base.specs.declared.operation.Moment.{Moment}
use Rattle.ivy_base.specs.declared.operation.Op.{Op}
use Rattle.ivy_base.specs.Naming.{IsCollisionFree, head_key_of}
use Rattle.wire_model.specs.Rpc.{IsIdentity}
use Rattle.log_model.specs.Chain.{IsGood}
use Rattle.log_model.specs.Rank.{own_entry}
use Rattle.log_model.specs.Record.{Record}
use Rattle.log_model.specs.Spelling.{HasSpelling, IsKey, IsMoment, most_records}
use Rattle.log_model.specs.Vector.{Stamp, Vector, seq_of}
use Rattle.log_model.specs.View.{View, IsView, is_named}
use Rattle.log_model.proofs.Later.{name_is_key}
use Rattle.log_model.proofs.Lists.{each, each_from, here}
use Rattle.nfs_model.specs.Arguments.{ArgumentsFit, arguments}
use Rattle.nfs_model.specs.declared.replies.Reply.{Reply}
use Rattle.turn_model.specs.Basis.{Holding, Knows, kept_tree}
use Rattle.turn_model.specs.Turn.{Asked}
use Rattle.turn_model.specs.Work.{applied_between}
use Rattle.snapshot_model.specs.Blocks.{IsVectorSpelled}
use Rattle.log_model.specs.Signing.{Signing}
use Rattle.agent_model.specs.Agent.{Agent, Kept, failed, joined, kept_of, own, own_reach, sealed}
use Rattle.agent_model.specs.Candidates.{Grounds, MayTurn}
use Rattle.agent_model.specs.SavedBytes.{AreOpaque, ArePostsSpelled}
use Rattle.agent_model.specs.Standing.{Refresh, going_on}
use Rattle.turn_laws.specs.Taking.{TakesNew}
use Rattle.agent_model.specs.Turning.{Answered, AreNext, Becomes, Behind, BelowTide, IsByDefinition, MayTake, MayWrite, TurnEnd, Turns, having_written, is_behind, is_below_tide, loses, reads, saves, taking, written_by}
use Rattle.agent_model.specs.Turning as turning
use Rattle.turn_laws.specs.Laws.{HasRoom}
use Rattle.turn_laws.proofs.Answering.{closed, count_written, far_is, front_is, good_written, held, its, lost_reply, lost_so, next_written, octets_written, replies_so, saved_so, written, written_reply}
use Rattle.turn_laws.proofs.Octets.{AreOctets, planned_octets, HasOctets}
use Rattle.turn_laws.proofs.Saving.{front_named, front_spelled, posts_spelled}
use Rattle.turn_laws.proofs.Served.{Comes, MayAppend, comes, replies, writes}
use Rattle.turn_laws.proofs.Taken.{going_is_gone_on}
use Rattle.turn_laws.proofs.There.{there_is_a_taking}

-- The agent is a member of the view, whose log has begun; what it has to publish can be saved, and more of it; its heads are bytes; and it is asked by a call in bytes, at a moment.
pub record MayAnswer {S : Type 0} (signs : Signing S) (view : View) (a : Agent S) (asked : Asked) (now : Moment) : Type 0 where
  pub well : IsView view
  pub member : Contains view.members (own signs a)
  pub begun : 1 ≤ own_reach signs a
  pub posts : ArePostsSpelled a.pending
  pub room : HasRoom a
  pub heads : (newest : Stamp) → IsKey newest.name → AreOpaque (sealed signs a.signer newest)
  pub caller : IsIdentity asked.caller
  pub fits : ArgumentsFit asked.args
  pub octets : AreOctets (arguments asked.args)
  pub moment : IsMoment now

-- some records are none, or end with one
ends_so : (xs : List Record) → (xs ≡ []) ⊎ ((before : List Record) × (last : Record) × (xs ≡ before ++ last ∷ []))
ends_so [] = inl refl
ends_so (x ∷ xs) = ⊎_elim
    (λ none. inr ([], x, ap (λ (l : List Record). x ∷ l) none))
    (λ w. inr (x ∷ w.0, w.1, ap (λ (l : List Record). x ∷ l) w.2))
    (ends_so xs)

module _ {S : Type 0} (signs : Signing S) (a : Agent S) (view : View) (brought : Refresh) (fails : Bool) (asked : Asked) (now : Moment) (m : MayAnswer signs view a asked now)
    (grounds : Grounds) (known : List Record) (apart : IsCollisionFree grounds.met) (knows : Knows view a.floor a.holding known) (may : MayTurn grounds view (own signs a) known brought) where
  -- how it ends, the agent then, and what is to be saved
  abbrev pub HasTurn : Type 0
  HasTurn = (end : TurnEnd) × (after : Agent S) × (saving : Option (Kept S)) × Turns signs brought (record { agent = a; view = view; now = now; fails = fails }) asked end after saving

  module _ (near : is_behind view (own signs a) a.floor (going_on a brought.basis) brought ≡ false) (over : is_below_tide (own signs a) a.floor (going_on a brought.basis) brought ≡ false)
      (new : List Record) (takes : TakesNew view (own signs a) a.floor (going_on a brought.basis) brought new) where
    abbrev h : Holding
    h = held signs a view brought new asked now m.well m.member takes

    abbrev records : List Op → List Record
    records ops = written signs a view brought new asked now m.well m.member takes ops

    reaches : seq_of (joined h) (head_key_of (own signs a)) ≡ own_reach signs a
    reaches = far_is signs a view brought new asked now m.well m.member takes grounds known apart knows may

    may_take : MayTake signs view a h
    may_take =
        let set = (its signs a view brought new asked now m.well m.member takes grounds known apart knows may).0 in
        let set_closed = closed signs a view brought new asked now m.well m.member takes grounds known apart knows may in
        let same = front_is signs a view brought new asked now m.well m.member takes grounds known apart knows may in
        record {
          spelled = subst IsVectorSpelled same (front_spelled view set m.well set_closed);
          named = subst (λ (v : Vector). AllByRecursion (λ e. IsTrue (is_named view e.0)) v) same (front_named view set m.well set_closed);
          own_log = omega (arith, reaches);
        }

    answered : (records : List Record) (reply : Reply) (after : Agent S) (saving : Option (Kept S)) → Becomes signs view a h fails records after saving → IsByDefinition signs brought (record { agent = a; view = view; now = now; fails = fails }) asked h records reply → HasTurn
    answered records reply after saving becomes defined = (
      Answered reply (applied_between (going_on a brought.basis).held h.held + length records),
      after,
      saving,
      turning.answers h records reply after saving near over refl may_take becomes defined,
    )

    -- ---- records are written

    module _ (ops : List Op) (appends : MayAppend view (own signs a) (signs.remaining a.signer) a.has_failed (kept_tree h) (seq_of (joined h) (head_key_of (own signs a))) asked now ops) where
      good : AllByRecursion (IsGood view (own signs a)) (records ops)
      good = good_written signs a view brought new asked now m.well m.member takes grounds known apart knows may m.begun m.caller m.fits m.moment ops appends

      spelled : AllByRecursion HasSpelling (records ops)
      spelled = each_from HasSpelling (records ops) (λ r c. (each (IsGood view (own signs a)) (records ops) r good c).spelled)

      count : length (records ops) ≡ length ops
      count = count_written signs a view brought new asked now m.well m.member takes ops

      few : own_reach signs a + length (records ops) ≤ most_records
      few = let most = appends.few in omega (arith, most, count, reaches)

      module _ (before : List Record) (last : Record) (are : records ops ≡ before ++ last ∷ []) where
        last_spelled : HasSpelling last
        last_spelled = each HasSpelling (before ++ last ∷ []) last (subst (AllByRecursion HasSpelling) are spelled) (Contains-append_right before (last ∷ []) last (here last []))

        posts : ArePostsSpelled (having_written signs a before last).pending
        posts = posts_spelled signs a.signer (own_entry last).1 a.pending (before ++ last ∷ []) m.posts
            (subst (AllByRecursion HasSpelling) are spelled)
            (subst (AllByRecursion (λ r. HasOctets r.op)) are (octets_written signs a view brought new asked now m.well m.member takes ops
            (planned_octets (kept_tree h) view asked.caller now (own signs a) (seq_of (joined h) (head_key_of (own signs a)) + 1) asked.args ops m.octets appends.planned)))
            (m.heads (own_entry last).1 (name_is_key last last_spelled))
            (let room = m.room in let begun = m.begun in let same : length (records ops) ≡ length (before ++ last ∷ []) = ap length are in omega (arith, room, few, begun, same))

        may_write : MayWrite signs view a before last
        may_write = record {
          unfailed = appends.unfailed;
          is_left = appends.is_left;
          good = subst (AllByRecursion (IsGood view (own signs a))) are good;
          next = subst (λ (p : ℕ × List Record). AreNext p.0 p.1) (λ i. (reaches i, are i)) (next_written signs a view brought new asked now m.well m.member takes ops);
          few = subst (λ (l : List Record). own_reach signs a + length l ≤ most_records) are few;
          posts = posts;
        }

        saved : fails ≡ false → IsByDefinition signs brought (record { agent = a; view = view; now = now; fails = false }) asked h (records ops) (written_reply signs a view brought new asked now m.well m.member takes ops) → HasTurn
        saved is defined = answered (before ++ last ∷ []) (written_reply signs a view brought new asked now m.well m.member takes ops) (written_by signs a h before last) (Some (kept_of (written_by signs a h before last)))
            (saves before last may_write is)
            (subst (λ (p : Bool × List Record). IsByDefinition signs brought (record { agent = a; view = view; now = now; fails = p.0 }) asked h p.1 (written_reply signs a view brought new asked now m.well m.member takes ops)) (λ i. (sym is i, are i)) defined)

        lost : fails ≡ true → IsByDefinition signs brought (record { agent = a; view = view; now = now; fails = true }) asked h (records ops) (lost_reply signs a view brought new asked now m.well m.member takes) → HasTurn
        lost is defined = answered (before ++ last ∷ []) (lost_reply signs a view brought new asked now m.well m.member takes) (failed (taking signs a h)) (Some (kept_of (written_by signs a h before last)))
            (loses before last may_write is)
            (subst (λ (p : Bool × List Record). IsByDefinition signs brought (record { agent = a; view = view; now = now; fails = p.0 }) asked h p.1 (lost_reply signs a view brought new asked now m.well m.member takes)) (λ i. (sym is i, are i)) defined)

      -- where there are no operations the agent only takes
      no_records : (reply : Reply) (b : Bool) → fails ≡ b → records ops ≡ [] → IsByDefinition signs brought (record { agent = a; view = view; now = now; fails = b }) asked h (records ops) reply → HasTurn
      no_records reply b is none defined = answered [] reply (taking signs a h) None reads (subst (λ (p : Bool × List Record). IsByDefinition signs brought (record { agent = a; view = view; now = now; fails = p.0 }) asked h p.1 reply) (λ i. (sym is i, none i)) defined)

      has_turn : (b : Bool) → fails ≡ b → IsByDefinition signs brought (record { agent = a; view = view; now = now; fails = false }) asked h (records ops) (written_reply signs a view brought new asked now m.well m.member takes ops)
          → IsByDefinition signs brought (record { agent = a; view = view; now = now; fails = true }) asked h (records ops) (lost_reply signs a view brought new asked now m.well m.member takes) → HasTurn
      has_turn false is kept gone = elim (ends_so (records ops)) [
        | inl none ↦ no_records _ false is none kept
        | inr w ↦ saved w.0 w.1 w.2 is kept
      ]
      has_turn true is kept gone = elim (ends_so (records ops)) [
        | inl none ↦ no_records _ true is none gone
        | inr w ↦ lost w.0 w.1 w.2 is gone
      ]

    -- ---- whatever it comes to

    of_what_comes : Comes view (own signs a) (signs.remaining a.signer) a.has_failed (kept_tree h) (seq_of (joined h) (head_key_of (own signs a))) asked now → HasTurn
    of_what_comes (replies reply law) = answered [] reply (taking signs a h) None reads (replies_so signs a view brought new asked now m.well m.member takes reply law fails)
    of_what_comes (writes ops appends kept gone) = has_turn ops appends fails refl
        (saved_so signs a view brought new asked now m.well m.member takes m.begun m.caller m.fits m.moment ops appends kept gone)
        (lost_so signs a view brought new asked now m.well m.member takes m.begun m.caller m.fits m.moment ops appends kept gone)

    pub turn_taking : HasTurn
    turn_taking = of_what_comes (comes view (own signs a) (signs.remaining a.signer) a.has_failed (kept_tree h) (seq_of (joined h) (head_key_of (own signs a))) asked now)

  -- ---- by the tests that it makes

  by_tests : (far low : Bool) → is_behind view (own signs a) a.floor (going_on a brought.basis) brought ≡ far → is_below_tide (own signs a) a.floor (going_on a brought.basis) brought ≡ low → HasTurn
  by_tests true low is_far is_low = (Behind, a, None, turning.behind is_far)
  by_tests false true near is_low = (BelowTide, _, None, turning.below near is_low)
  by_tests false false near over =
      let taken = there_is_a_taking grounds view (own signs a) a.floor a.holding (going_on a brought.basis) known brought apart m.well knows (going_is_gone_on a brought.basis) may near over in
      turn_taking near over taken.0 taken.1

  pub there_is_a_turn : HasTurn
  there_is_a_turn = by_tests (is_behind view (own signs a) a.floor (going_on a brought.basis) brought) (is_below_tide (own signs a) a.floor (going_on a brought.basis) brought) refl refl
