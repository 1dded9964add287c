-- What a turn comes to on a set, by the tree that the set stands for and by where the own log ends in it.
use Rattle.std.proofs.Common.{◌≡◌, ℕ, ◌+◌, ◌<◌, ◌≤◌, Bool, true, false, cond, ◌||◌, List, length, refl, ap, ◌∙◌, arith}
use Rattle.std.specs.Prelude.{nat_lt, ◌==◌}
use Rattle.std.proofs.lemmas.Bool.{eqb-false, ltb-false}
use Rattle.ivy_base.specs.declared.format.Format.TheVariants.{One}
use Rattle.ivy_base.specs.declared.key.PubKey.{PubKey}
use Rattle.ivy_base.specs.declared.operation.Moment.{Moment}
use Rattle.ivy_base.specs.declared.operation.Op.{Op}
use Rattle.tree_model.specs.Tree.{Tree}
use Rattle.tree_model.proofs.Sound.{both_false}
use Rattle.log_model.specs.Record.{Record}
use Rattle.log_model.specs.Replay.{replay}
use Rattle.log_model.specs.Spelling.{most_records}
use Rattle.log_model.specs.View.{View}
use Rattle.nfs_model.specs.declared.replies.NfsStatus.TheVariants.{RoFs, ServerFault}
use Rattle.nfs_model.specs.declared.replies.Reply.{Reply}
use Rattle.nfs_model.specs.declared.replies.Reply.TheVariants.{Refused}
use Rattle.nfs_model.specs.Changing.{Nothing, Operations, Plan, Refuse, finish, is_changing, plan}
use Rattle.nfs_model.specs.Reading.{answer}
use Rattle.turn_model.specs.Turn.{Inputs, Asked, Turned, appended, bare_tail, by_plan, own_seq, turn_on}

some_left : (n : ℕ) → (n ≡ 0 → ⊥) → 0 < n
some_left n h = not_zero n h
  where
    not_zero : (n : ℕ) → (n ≡ 0 → ⊥) → 0 < n
    not_zero n h = omega (arith, h)

module _ (view : View) (own : PubKey) (leaves : ℕ) (has_failed : Bool) (t : Tree) (n : ℕ) (asked : Asked) (now : Moment) where
  -- a turn, by whether the keeper has failed
  abbrev pub by_failing : Bool → Inputs
  by_failing failing = record { view = view; own = own; leaves = leaves; has_failed = failing }

  -- the set stands for that tree, and in it the own log ends so
  abbrev pub IsOn : List Record → Type 0
  IsOn s = (replay s ≡ t) × (own_seq own s ≡ n)

  -- these operations are planned, and a signature and numbers are left for them
  pub record MayAppend (ops : List Op) : Type 0 where
    pub unfailed : has_failed ≡ false
    pub is_left : 0 < leaves
    pub few : n + length ops ≤ most_records
    pub planned : plan t view asked.caller asked.args now own (n + 1) ≡ Operations ops

  abbrev pub kept : Reply → List Record → Turned
  kept reply s = record { reply = reply; set = s }

  abbrev pub more : List Op → List Record → Turned
  more ops s = record { reply = finish (replay s) (replay (appended own One now s ops)) view asked.caller asked.args ops; set = appended own One now s ops }

  -- A reply, whatever would become of a save; or operations are appended, unless their save fails.
  pub data Comes : Type 0 where
    replies : (reply : Reply) → ((failing : Bool) → (has_failed ≡ true → failing ≡ true) → (s : List Record) → IsOn s → turn_on (by_failing failing) s asked now ≡ kept reply s) → Comes
    writes : (ops : List Op) → MayAppend ops → ((s : List Record) → IsOn s → turn_on (by_failing false) s asked now ≡ more ops s)
        → ((s : List Record) → IsOn s → turn_on (by_failing true) s asked now ≡ kept (Refused ServerFault (bare_tail asked.args)) s) → Comes

  -- ---- the turn by its plan

  module _ (s : List Record) (on : IsOn s) (failing : Bool) where
    reads : is_changing asked.args ≡ false → turn_on (by_failing failing) s asked now ≡ kept (answer t view asked.caller asked.args) s
    reads is =
        ap (λ (b : Bool). cond b (by_plan (by_failing failing) s asked now (plan (replay s) view asked.caller asked.args now own (own_seq own s + 1))) (kept (answer (replay s) view asked.caller asked.args) s)) is
        ∙ ap (λ (u : Tree). kept (answer u view asked.caller asked.args) s) on.0

    changes : (p : Plan) → is_changing asked.args ≡ true → plan t view asked.caller asked.args now own (n + 1) ≡ p → turn_on (by_failing failing) s asked now ≡ by_plan (by_failing failing) s asked now p
    changes p is planned =
        ap (λ (b : Bool). cond b (by_plan (by_failing failing) s asked now (plan (replay s) view asked.caller asked.args now own (own_seq own s + 1))) (kept (answer (replay s) view asked.caller asked.args) s)) is
        ∙ (λ i. by_plan (by_failing failing) s asked now (plan (on.0 i) view asked.caller asked.args now own (on.1 i + 1)))
        ∙ ap (λ (q : Plan). by_plan (by_failing failing) s asked now q) planned

    abbrev is_full : List Op → Bool
    is_full ops = leaves == 0 || nat_lt most_records (n + length ops)

    operations : (ops : List Op) → by_plan (by_failing failing) s asked now (Operations ops)
        ≡ cond (is_full ops) (kept (Refused RoFs (bare_tail asked.args)) s) (cond failing (kept (Refused ServerFault (bare_tail asked.args)) s) (more ops s))
    operations ops = ap (λ (k : ℕ). cond (leaves == 0 || nat_lt most_records (k + length ops)) (kept (Refused RoFs (bare_tail asked.args)) s) (cond failing (kept (Refused ServerFault (bare_tail asked.args)) s) (more ops s))) on.1

  -- ---- what it comes to

  of_operations : (ops : List Op) → is_changing asked.args ≡ true → plan t view asked.caller asked.args now own (n + 1) ≡ Operations ops
      → (full : Bool) → (leaves == 0 || nat_lt most_records (n + length ops)) ≡ full → (failed : Bool) → has_failed ≡ failed → Comes
  of_operations ops is planned true full failed is_failed = replies (Refused RoFs (bare_tail asked.args)) (λ failing h s on.
      changes s on failing (Operations ops) is planned ∙ operations s on failing ops
      ∙ ap (λ (b : Bool). cond b (kept (Refused RoFs (bare_tail asked.args)) s) (cond failing (kept (Refused ServerFault (bare_tail asked.args)) s) (more ops s))) full)
  of_operations ops is planned false room true is_failed = replies (Refused ServerFault (bare_tail asked.args)) (λ failing h s on.
      changes s on failing (Operations ops) is planned ∙ operations s on failing ops
      ∙ ap (λ (b : Bool). cond b (kept (Refused RoFs (bare_tail asked.args)) s) (cond failing (kept (Refused ServerFault (bare_tail asked.args)) s) (more ops s))) room
      ∙ ap (λ (b : Bool). cond b (kept (Refused ServerFault (bare_tail asked.args)) s) (more ops s)) (h is_failed))
  of_operations ops is planned false room false unfailed =
      let parts = both_false (leaves == 0) (nat_lt most_records (n + length ops)) room in
      writes ops
      (record { unfailed = unfailed; is_left = some_left leaves (eqb-false leaves 0 parts.0); few = ltb-false most_records (n + length ops) parts.1; planned = planned })
      (λ s on. changes s on false (Operations ops) is planned ∙ operations s on false ops ∙ ap (λ (b : Bool). cond b (kept (Refused RoFs (bare_tail asked.args)) s) (more ops s)) room)
      (λ s on. changes s on true (Operations ops) is planned ∙ operations s on true ops
      ∙ ap (λ (b : Bool). cond b (kept (Refused RoFs (bare_tail asked.args)) s) (kept (Refused ServerFault (bare_tail asked.args)) s)) room)

  of_plan : (p : Plan) → is_changing asked.args ≡ true → plan t view asked.caller asked.args now own (n + 1) ≡ p → Comes
  of_plan (Refuse reply) is planned = replies reply (λ failing h s on. changes s on failing (Refuse reply) is planned)
  of_plan (Nothing reply) is planned = replies reply (λ failing h s on. changes s on failing (Nothing reply) is planned)
  of_plan (Operations ops) is planned = of_operations ops is planned (leaves == 0 || nat_lt most_records (n + length ops)) refl has_failed refl

  of_call : (b : Bool) → is_changing asked.args ≡ b → Comes
  of_call true is = of_plan (plan t view asked.caller asked.args now own (n + 1)) is refl
  of_call false is = replies (answer t view asked.caller asked.args) (λ failing h s on. reads s on failing is)

  pub comes : Comes
  comes = of_call (is_changing asked.args) refl
