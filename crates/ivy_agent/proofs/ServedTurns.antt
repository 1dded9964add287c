-- A turn, by what is served on its set's tree.
use Rattle.std.proofs.Common.{◌≡◌, ℕ, ◌+◌, ◌<◌, ◌≤◌, Bool, true, false, cond, zero, suc, List, length, refl, ap, ◌∙◌, arith}
use Rattle.std.specs.Prelude.{nat_lt, ◌==◌, ◌||◌}
use Rattle.std.proofs.lemmas.Bool.{ltb-false}
use Rattle.ivy_base.specs.declared.operation.Moment.{Moment}
use Rattle.ivy_base.specs.declared.operation.Op.{Op}
use Rattle.tree_model.specs.Tree.{Tree}
use Rattle.log_model.specs.Record.{Record}
use Rattle.log_model.specs.Replay.{replay}
use Rattle.log_model.specs.Spelling.{most_records}
use Rattle.nfs_model.specs.declared.arguments.Args.{Args}
use Rattle.nfs_model.specs.declared.replies.NfsStatus.TheVariants.{RoFs, ServerFault}
use Rattle.nfs_model.specs.declared.replies.Reply.{Reply}
use Rattle.nfs_model.specs.declared.replies.Reply.TheVariants.{Refused}
use Rattle.nfs_model.specs.Reading.{answer}
use Rattle.nfs_model.specs.Changing.{is_changing, Plan, Refuse, Nothing, Operations, plan}
use Rattle.turn_model.specs.Turn.{Inputs, Asked, Turned, bare_tail, by_plan, own_seq, turn_on}
use Rattle.log_model.specs.View.{View}
use Rattle.log_model.specs.Signing.{Signing}
use Rattle.agent_model.specs.Agent.{Agent}
use Rattle.agent_model.specs.Turning.{inputs, inputs_before}
use Rattle.ivy_agent.specs.Serving.{Served, Replies, Writes, is_full, serve_on, serve_plan, turned_by}
use Rattle.ivy_agent.specs.Laws.{IsPlanned, with_save}

-- ---- the turn

pub turn_is_served : (a : Inputs) (s : List Record) (asked : Asked) (now : Moment) → turn_on a s asked now ≡ turned_by a s asked now (serve_on a (replay s) (own_seq a.own s) asked now)
turn_is_served a s asked now =
    by (is_changing asked.args) (plan (replay s) a.view asked.caller asked.args now a.own (own_seq a.own s + 1)) (answer (replay s) a.view asked.caller asked.args)
  where
    left : Reply → Turned
    left reply = record { reply = reply; set = s }

    by_tests : (ops : List Op) (full failed : Bool)
        → cond full (left (Refused RoFs (bare_tail asked.args))) (cond failed (left (Refused ServerFault (bare_tail asked.args))) (turned_by a s asked now (Writes ops)))
        ≡ turned_by a s asked now (cond full (Replies (Refused RoFs (bare_tail asked.args))) (cond failed (Replies (Refused ServerFault (bare_tail asked.args))) (Writes ops)))
    by_tests ops true failed = refl
    by_tests ops false true = refl
    by_tests ops false false = refl

    by : (changes : Bool) (p : Plan) (reply : Reply)
        → cond changes (by_plan a s asked now p) (left reply) ≡ turned_by a s asked now (cond changes (serve_plan a (own_seq a.own s) asked.args p) (Replies reply))
    by true (Refuse r) reply = refl
    by true (Nothing r) reply = refl
    by true (Operations ops) reply = by_tests ops (is_full a.leaves (own_seq a.own s) ops) a.has_failed
    by false p reply = refl

-- ---- saves

-- what a turn of an agent goes by, with what becomes of its save
pub inputs_with_save : {S : Type 0} (signs : Signing S) (a : Agent S) (view : View) (fails : Bool) → with_save (inputs_before signs a view) fails ≡ inputs signs a view fails
inputs_with_save signs a view fails = refl

-- what is served by each of the tests
abbrev by_tests : Bool → Bool → Args → List Op → Served
by_tests full failed args ops = cond full (Replies (Refused RoFs (bare_tail args))) (cond failed (Replies (Refused ServerFault (bare_tail args))) (Writes ops))

tests_reply : (full failed fails : Bool) (args : Args) (ops : List Op) (reply : Reply) → by_tests full failed args ops ≡ Replies reply → by_tests full (failed || fails) args ops ≡ Replies reply
tests_reply true failed fails args ops reply e = e
tests_reply false true fails args ops reply e = e
tests_reply false false fails args ops reply e = absurd (cc e)

plan_replies : (a : Inputs) (seq : ℕ) (args : Args) (fails : Bool) (p : Plan) (reply : Reply) → serve_plan a seq args p ≡ Replies reply → serve_plan (with_save a fails) seq args p ≡ Replies reply
plan_replies a seq args fails (Refuse r) reply e = e
plan_replies a seq args fails (Nothing r) reply e = e
plan_replies a seq args fails (Operations ops) reply e = tests_reply (is_full a.leaves seq ops) a.has_failed fails args ops reply e

-- where nothing is written, nothing depends on the save
pub replies_with_save : (a : Inputs) (t : Tree) (seq : ℕ) (asked : Asked) (now : Moment) (fails : Bool) (reply : Reply)
    → serve_on a t seq asked now ≡ Replies reply → serve_on (with_save a fails) t seq asked now ≡ Replies reply
replies_with_save a t seq asked now fails reply = by (is_changing asked.args) (plan t a.view asked.caller asked.args now a.own (seq + 1)) (answer t a.view asked.caller asked.args)
  where
    by : (changes : Bool) (p : Plan) (r : Reply) → cond changes (serve_plan a seq asked.args p) (Replies r) ≡ Replies reply → cond changes (serve_plan (with_save a fails) seq asked.args p) (Replies r) ≡ Replies reply
    by true p r e = plan_replies a seq asked.args fails p reply e
    by false p r e = e

-- ---- what is written

-- the tests let these operations be written
record Written (full failed : Bool) (ops said : List Op) : Type 0 where
  room : full ≡ false
  unfailed : failed ≡ false
  same : ops ≡ said

tests_write : (full failed : Bool) (args : Args) (ops said : List Op) → by_tests full failed args ops ≡ Writes said → Written full failed ops said
tests_write true failed args ops said e = absurd (cc e)
tests_write false true args ops said e = absurd (cc e)
tests_write false false args ops said e = record { room = refl; unfailed = refl; same = cc e }

some_left : (n : ℕ) (b : Bool) → (n == 0) || b ≡ false → 0 < n
some_left zero b e = absurd (cc e)
some_left (suc n) b e = omega arith

room_left : (b : Bool) (n : ℕ) → b || nat_lt most_records n ≡ false → n ≤ most_records
room_left true n e = absurd (cc e)
room_left false n e = ltb-false most_records n e

-- the plan is these operations, and they may be written
record PlansWritten (a : Inputs) (seq : ℕ) (p : Plan) (ops : List Op) : Type 0 where
  unfailed : a.has_failed ≡ false
  is_left : 0 < a.leaves
  few : seq + length ops ≤ most_records
  planned : p ≡ Operations ops

plan_written : (a : Inputs) (seq : ℕ) (args : Args) (p : Plan) (ops : List Op) → serve_plan a seq args p ≡ Writes ops → PlansWritten a seq p ops
plan_written a seq args (Refuse r) ops e = absurd (cc e)
plan_written a seq args (Nothing r) ops e = absurd (cc e)
plan_written a seq args (Operations said) ops e =
    let w : Written (is_full a.leaves seq said) a.has_failed said ops = tests_write (is_full a.leaves seq said) a.has_failed args said ops e in
    record {
      unfailed = w.unfailed;
      is_left = some_left a.leaves (nat_lt most_records (seq + length said)) w.room;
      few = rw (← w.same) (room_left (a.leaves == 0) (seq + length said) w.room);
      planned = ap (λ (l : List Op). Operations l) w.same;
    }

pub writes_are_planned : (a : Inputs) (t : Tree) (seq : ℕ) (asked : Asked) (now : Moment) (ops : List Op) → serve_on a t seq asked now ≡ Writes ops → IsPlanned a t seq asked now ops
writes_are_planned a t seq asked now ops = by (is_changing asked.args) refl
  where
    by : (changes : Bool) → is_changing asked.args ≡ changes
        → cond changes (serve_plan a seq asked.args (plan t a.view asked.caller asked.args now a.own (seq + 1))) (Replies (answer t a.view asked.caller asked.args)) ≡ Writes ops → IsPlanned a t seq asked now ops
    by true is e =
        let p : PlansWritten a seq (plan t a.view asked.caller asked.args now a.own (seq + 1)) ops = plan_written a seq asked.args (plan t a.view asked.caller asked.args now a.own (seq + 1)) ops e in
        record { unfailed = p.unfailed; is_left = p.is_left; few = p.few; changing = is; planned = p.planned }
    by false is e = absurd (cc e)

-- ---- the turn, by what was served

turn_by : (a : Inputs) (s : List Record) (asked : Asked) (now : Moment) (served : Served) → serve_on a (replay s) (own_seq a.own s) asked now ≡ served → turn_on a s asked now ≡ turned_by a s asked now served
turn_by a s asked now served e = turn_is_served a s asked now ∙ ap (λ (x : Served). turned_by a s asked now x) e

pub replies_whatever_is_saved : (a : Inputs) (s : List Record) (asked : Asked) (now : Moment) (reply : Reply) → serve_on a (replay s) (own_seq a.own s) asked now ≡ Replies reply
    → (turn_on a s asked now ≡ record { reply = reply; set = s }) × ((fails : Bool) → turn_on (with_save a fails) s asked now ≡ record { reply = reply; set = s })
replies_whatever_is_saved a s asked now reply e = (
  turn_by a s asked now (Replies reply) e,
  λ fails. turn_by (with_save a fails) s asked now (Replies reply) (replies_with_save a (replay s) (own_seq a.own s) asked now fails reply e),
)

-- with a save that doesn't fail the turn goes by the same
saved : (a : Inputs) → with_save a false ≡ a
saved a = ap (λ (b : Bool). record a { has_failed = b }) (by a.has_failed)
  where
    by : (b : Bool) → b || false ≡ b
    by true = refl
    by false = refl

-- with one that fails, a fault is answered
lost : (a : Inputs) (t : Tree) (seq : ℕ) (asked : Asked) (now : Moment) (ops : List Op) → serve_on a t seq asked now ≡ Writes ops → serve_on (with_save a true) t seq asked now ≡ Replies (Refused ServerFault (bare_tail asked.args))
lost a t seq asked now ops = by (is_changing asked.args) (plan t a.view asked.caller asked.args now a.own (seq + 1)) (answer t a.view asked.caller asked.args)
  where
    by_two : (full failed : Bool) (said : List Op) → by_tests full failed asked.args said ≡ Writes ops → by_tests full (failed || true) asked.args said ≡ Replies (Refused ServerFault (bare_tail asked.args))
    by_two true failed said e = absurd (cc e)
    by_two false true said e = absurd (cc e)
    by_two false false said e = refl

    by : (changes : Bool) (p : Plan) (r : Reply) → cond changes (serve_plan a seq asked.args p) (Replies r) ≡ Writes ops
        → cond changes (serve_plan (with_save a true) seq asked.args p) (Replies r) ≡ Replies (Refused ServerFault (bare_tail asked.args))
    by true (Refuse q) r e = absurd (cc e)
    by true (Nothing q) r e = absurd (cc e)
    by true (Operations said) r e = by_two (is_full a.leaves seq said) a.has_failed said e
    by false p r e = absurd (cc e)

pub writes_are_saved : (a : Inputs) (s : List Record) (asked : Asked) (now : Moment) (ops : List Op) → serve_on a (replay s) (own_seq a.own s) asked now ≡ Writes ops
    → (turn_on a s asked now ≡ turned_by a s asked now (Writes ops))
    × (turn_on (with_save a false) s asked now ≡ turned_by a s asked now (Writes ops))
    × (turn_on (with_save a true) s asked now ≡ record { reply = Refused ServerFault (bare_tail asked.args); set = s })
writes_are_saved a s asked now ops e =
    let written = turn_by a s asked now (Writes ops) e in (
      written,
      ap (λ (b : Inputs). turn_on b s asked now) (saved a) ∙ written,
      turn_by (with_save a true) s asked now (Replies (Refused ServerFault (bare_tail asked.args))) (lost a (replay s) (own_seq a.own s) asked now ops e),
    )
