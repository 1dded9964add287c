-- What is to be written for a call may be written over the front of what is held.
use Rattle.std.proofs.Common.{◌≡◌, ◌≢◌, ℕ, ◌+◌, ◌≤◌, Bool, List, length, Option, Some, None, Result, Ok, Err, refl, sym, ap, subst, arith}
use Rattle.std.specs.Prelude.{IfOk, OnOk, IfSome, IsSomeAnd, IsTrue}
use Rattle.std.specs.List.{AllByRecursion}
use Rattle.ivy_base.specs.declared.key.Key.{Key}
use Rattle.ivy_base.specs.declared.key.PubKey.{PubKey}
use Rattle.ivy_base.specs.declared.operation.Moment.{Moment}
use Rattle.ivy_base.specs.declared.operation.Op.{Op}
use Rattle.ivy_base.specs.Naming.{head_key_of, key_cmp}
use Rattle.std.specs.FinMap.Entries.{is_sorted}
use Rattle.log_model.specs.Chain.{IsGood, AllMayBeWritten}
use Rattle.log_model.specs.Closed.{IsAscending}
use Rattle.log_model.specs.Spelling.{HasSpelling, most_records}
use Rattle.log_model.specs.Vector.{Vector, seq_of}
use Rattle.log_model.specs.View.{View}
use Rattle.log_model.proofs.Lists.{each, each_from}
use Rattle.replay_engine.specs.Rows.{IsRow}
use Rattle.version_vectors.specs.Vectors.{IsVector}
use Rattle.turn_model.specs.Basis.{Holding, kept_tree}
use Rattle.turn_model.specs.Turn.{Asked}
use Rattle.replay_engine.specs.Places.{AreBehind}
use Rattle.ivy_agent.specs.Appended.{written_over}
use Rattle.ivy_agent.specs.Laws.{IsPlanned}
use Rattle.ivy_agent.specs.Serving.{Replies, Writes}
use Rattle.ivy_agent.proofs.Records.{writes_may_stand, written_are_good, written_go_behind}
use Rattle.ivy_agent.proofs.ServedTurns.{writes_are_planned}
use Rattle.log_model.specs.Signing.{Signing}
use Rattle.agent_model.specs.Agent.{joined, own_key}
use Rattle.ivy_agent.specs.Answering.{Answers, IsCall, MayGoOn, goes_by, served_on, replies, writes}
use Rattle.nfs_model.specs.declared.replies.Reply.{Reply}
use Rattle.ivy_agent.specs.Outcomes.{Gives, kept_to}
use Rattle.ivy_agent.specs.Writing.{WritesDraft}
use Rattle.ivy_agent.specs.declared.writing.Done.{Done}
use Rattle.ivy_agent.specs.declared.saving.Kept.{Kept}

module _ {S : Type 0} (signs : Signing S) (view : View) (asked : Asked) (now : Moment) (ops : List Op) (k : Kept S) (has_failed : Bool) (h : Holding) (front : Vector)
    (log : k.log ≡ head_key_of (own_key signs k.signer)) (served : served_on signs view k has_failed h front asked now ≡ Writes ops) where
  abbrev own : PubKey
  own = own_key signs k.signer

  pub planned : IsPlanned (goes_by signs view k has_failed) (kept_tree h) (seq_of front k.log) asked now ops
  planned = writes_are_planned (goes_by signs view k has_failed) (kept_tree h) (seq_of front k.log) asked now ops served

  pub is_left : signs.remaining k.signer ≢ 0
  is_left none = let some = planned.is_left in omega (arith, some, none)

  module _ (call : IsCall asked now) (may : MayGoOn view (own_key signs k.signer) k.floor front h) (whole : IsVector front) (at : seq_of front k.log ≡ seq_of k.floor k.log) where
    same_log : seq_of front k.log ≡ seq_of front (head_key_of (own_key signs k.signer))
    same_log = ap (λ (l : Key). seq_of front l) log

    pub begun : 1 ≤ seq_of front (head_key_of (own_key signs k.signer))
    begun =
        let of_floor = may.begun in
        let same : seq_of k.floor k.log ≡ seq_of k.floor (head_key_of (own_key signs k.signer)) = ap (λ (l : Key). seq_of k.floor l) log in
        omega (arith, of_floor, same, at, same_log)

    pub may_stand : AllMayBeWritten (own_key signs k.signer) (seq_of front (head_key_of (own_key signs k.signer)) + 1) ops
    may_stand = subst (λ (n : ℕ). AllMayBeWritten (own_key signs k.signer) (n + 1) ops) same_log
        (writes_may_stand (goes_by signs view k has_failed) (kept_tree h) (seq_of front k.log) asked now ops may.bounds.numbers call.caller call.args call.moment served)

    pub goods : AllByRecursion (IsGood view (own_key signs k.signer)) (written_over (own_key signs k.signer) now front ops)
    goods = written_are_good view (own_key signs k.signer) now front ops may.well (record { whole = whole; named = may.named }) call.moment begun may_stand

    module _ (row : IsRow h.held) (is_front : front ≡ joined h) where
      both : IsAscending (written_over (own_key signs k.signer) now front ops) × AreBehind h.held (written_over (own_key signs k.signer) now front ops)
      both = subst (λ (f : Vector). IsAscending (written_over (own_key signs k.signer) now f ops) × AreBehind h.held (written_over (own_key signs k.signer) now f ops)) (sym is_front)
          (written_go_behind (own_key signs k.signer) now h ops (subst (λ (f : Vector). IsTrue (is_sorted key_cmp f)) is_front whole.in_order) row.spelled)

      pub new_row : IsRow (written_over (own_key signs k.signer) now front ops)
      new_row = record {
        ascending = both.0;
        spelled = each_from HasSpelling (written_over (own_key signs k.signer) now front ops)
            (λ r c. (each (IsGood view (own_key signs k.signer)) (written_over (own_key signs k.signer) now front ops) r goods c).spelled);
      }

      pub are_behind : AreBehind h.held (written_over (own_key signs k.signer) now front ops)
      are_behind = both.1

-- ---- of an agent in a view

module _ {S : Type 0} (signs : Signing S) (asked : Asked) (now : Moment) (k : Kept S) (has_failed : Bool) (h : Holding) (front : Vector) where
  module _ (ops : List Op) (log : k.log ≡ head_key_of (own_key signs k.signer)) where
    abbrev AreServed : Option View → Type 0
    AreServed o = IsSomeAnd o (λ view. served_on signs view k has_failed h front asked now ≡ Writes ops)

    abbrev MayGo : Option View → Type 0
    MayGo o = IsSomeAnd o (λ view. MayGoOn view (own_key signs k.signer) k.floor front h)

    pub few_written : (o : Option View) → AreServed o → seq_of front k.log + length ops ≤ most_records
    few_written None served = absurd served
    few_written (Some view) served = (planned signs view asked now ops k has_failed h front log served).few

    pub left_to_write : (o : Option View) → AreServed o → signs.remaining k.signer ≢ 0
    left_to_write None served = absurd served
    left_to_write (Some view) served = is_left signs view asked now ops k has_failed h front log served

    pub row_written : (o : Option View) → AreServed o → IsCall asked now → MayGo o → IsVector front → seq_of front k.log ≡ seq_of k.floor k.log → IsRow h.held → front ≡ joined h → IsRow (written_over (own_key signs k.signer) now front ops)
    row_written None served call may whole at row is_front = absurd served
    row_written (Some view) served call may whole at row is_front = new_row signs view asked now ops k has_failed h front log served call may whole at row is_front

    pub behind_written : (o : Option View) → AreServed o → IsCall asked now → MayGo o → IsVector front → seq_of front k.log ≡ seq_of k.floor k.log → IsRow h.held → front ≡ joined h → AreBehind h.held (written_over (own_key signs k.signer) now front ops)
    behind_written None served call may whole at row is_front = absurd served
    behind_written (Some view) served call may whole at row is_front = are_behind signs view asked now ops k has_failed h front log served call may whole at row is_front

    module _ {K : Type 0} (IsWhole : S → Type 0) (saves : K → List ℕ → Bool → K → Type 0) (k_after : Kept S) (h_after : Holding) (keeper keeper_after : K) (applied : ℕ) (at : seq_of front k.log ≡ seq_of k.floor k.log) where
      answered_in : (o : Option View) → AreServed o → (done : Done) → IfSome o (λ view. WritesDraft signs IsWhole saves view asked now ops k h front keeper applied k_after h_after keeper_after done)
          → IfSome o (λ view. Answers signs IsWhole saves view asked now k has_failed h front keeper applied k_after h_after keeper_after done)
      answered_in None served done w = tt
      answered_in (Some view) served done w = writes ops served at w

      pub answered : {E : Type 0} (o : Option View) → AreServed o → (r : Result Done E) → IfOk r (λ done. IfSome o (λ view. WritesDraft signs IsWhole saves view asked now ops k h front keeper applied k_after h_after keeper_after done))
          → IfOk r (λ done. IfSome o (λ view. Answers signs IsWhole saves view asked now k has_failed h front keeper applied k_after h_after keeper_after done))
      answered o served (Ok done) w = answered_in o served done w
      answered o served (Err e) w = tt

  module _ {K : Type 0} (IsWhole : S → Type 0) (saves : K → List ℕ → Bool → K → Type 0) (k_after : Kept S) (keeper : K) (applied : ℕ) (reply : Reply) where
    replied_in : (o : Option View) → IfSome o (λ view. Replies reply ≡ served_on signs view k has_failed h front asked now) → (done : Done) → k_after ≡ kept_to k front → done.front ≡ front → done.has_failed ≡ has_failed → Gives reply k_after front applied done.turned
        → IfSome o (λ view. Answers signs IsWhole saves view asked now k has_failed h front keeper applied k_after h keeper done)
    replied_in None served done kept front_is failed given = tt
    replied_in (Some view) served done kept front_is failed given = replies reply (sym served) kept refl refl front_is failed given

    pub replied : {E : Type 0} (o : Option View) → IfSome o (λ view. Replies reply ≡ served_on signs view k has_failed h front asked now) → (r : Result Done E) → OnOk r (k_after ≡ kept_to k front) → IfOk r (λ done. done.front ≡ front)
        → IfOk r (λ done. done.has_failed ≡ has_failed) → IfOk r (λ done. Gives reply k_after front applied done.turned)
        → IfOk r (λ done. IfSome o (λ view. Answers signs IsWhole saves view asked now k has_failed h front keeper applied k_after h keeper done))
    replied o served (Ok done) kept front_is failed given = replied_in o served done kept front_is failed given
    replied o served (Err e) kept front_is failed given = tt
