-- What a turn answers is short.
use Rattle.std.proofs.Common.{◌≡◌, ℕ, ◌+◌, ◌≤◌, Bool, true, false, cond, List, length, Option, Some, None, sym, subst, arith, length-append}
use Rattle.ivy_base.specs.declared.operation.Moment.{Moment}
use Rattle.ivy_base.specs.declared.operation.Op.{Op}
use Rattle.tree_model.specs.Tree.{Tree}
use Rattle.log_model.specs.Vector.{Vector, seq_of}
use Rattle.log_model.specs.View.{View}
use Rattle.log_records.specs.Records.{records_of}
use Rattle.wire_model.specs.Xdr.{word, optional}
use Rattle.nfs_model.specs.declared.arguments.Args.{Args}
use Rattle.nfs_model.specs.declared.replies.Fattr.{Fattr}
use Rattle.nfs_model.specs.declared.replies.NfsStatus.{NfsStatus}
use Rattle.nfs_model.specs.declared.replies.NfsStatus.TheVariants.{RoFs, ServerFault}
use Rattle.nfs_model.specs.declared.replies.Reply.{Reply}
use Rattle.nfs_model.specs.declared.replies.Reply.TheVariants as reply
use Rattle.nfs_model.specs.declared.replies.Tail.{Tail}
use Rattle.nfs_model.specs.declared.replies.Tail.TheVariants as tails
use Rattle.nfs_model.specs.declared.replies.Wcc.{Wcc}
use Rattle.nfs_model.specs.declared.replies.WccBefore.{WccBefore}
use Rattle.nfs_model.specs.Changing.{Plan, Refuse, Nothing, Operations, is_changing, plan}
use Rattle.nfs_model.specs.Reading.{answer}
use Rattle.nfs_model.specs.Results.{before, fattr, result, status_number, tail, wcc, longest_result}
use Rattle.nfs_laws.specs.Lengths.{AnswersFit, FinishesFit, IsShortPlan, PlansFit}
use Rattle.turn_model.specs.Basis.{Holding, kept_tree}
use Rattle.turn_model.specs.Turn.{Inputs, Asked, bare_tail}
use Rattle.ivy_agent.specs.Serving.{Replies, Writes, is_full, serve_on, serve_plan}
use Rattle.ivy_agent.proofs.ServedTurns.{writes_are_planned}
use Rattle.log_model.specs.Signing.{Signing}
use Rattle.agent_model.specs.Turning.{with_held}
use Rattle.ivy_agent.specs.Answering.{Answers, goes_by, replies, writes}
use Rattle.ivy_agent.specs.Bounds.{HasBounds}
use Rattle.ivy_agent.specs.Writing.{lost_reply, written_reply}
use Rattle.ivy_agent.specs.declared.saving.Kept.{Kept}
use Rattle.ivy_agent.specs.declared.writing.Done.{Done}

abbrev pub IsShort : Reply → Type 0
IsShort r = length (result r) ≤ longest_result

-- ---- refusals

few_attributes : (o : Option Fattr) → length (optional fattr o) ≤ 88
few_attributes None = omega arith
few_attributes (Some a) = omega arith

few_before : (o : Option WccBefore) → length (optional before o) ≤ 28
few_before None = omega arith
few_before (Some b) = omega arith

few_cached : (w : Wcc) → length (wcc w) ≤ 116
few_cached w = omega (arith, few_before w.before, few_attributes w.after, length-append (optional before w.before) (optional fattr w.after))

few_in_tail : (t : Tail) → length (tail t) ≤ 232
few_in_tail tails.Empty = omega arith
few_in_tail (tails.Attributes a) = omega (arith, few_attributes a)
few_in_tail (tails.Cache w) = omega (arith, few_cached w)
few_in_tail (tails.TwoCaches v w) = omega (arith, few_cached v, few_cached w, length-append (wcc v) (wcc w))
few_in_tail (tails.AttributesAndCache a w) = omega (arith, few_attributes a, few_cached w, length-append (optional fattr a) (wcc w))

refused_short : (s : NfsStatus) (t : Tail) → IsShort (reply.Refused s t)
refused_short s t = omega (arith, few_in_tail t, length-append (word (status_number s)) (tail t))

-- ---- what is served

same_reply : (r s : Reply) → Replies r ≡ Replies s → r ≡ s
same_reply r s e = cc e

served_as : (r s : Reply) → IsShort r → Replies r ≡ Replies s → IsShort s
served_as r s short e = subst (λ (x : Reply). IsShort x) (same_reply r s e) short

no_reply : (ops : List Op) (s : Reply) → Writes ops ≡ Replies s → IsShort s
no_reply ops s e = absurd (cc e)

module _ (a : Inputs) (seq : ℕ) (args : Args) (s : Reply) where
  of_full : (full failed : Bool) (ops : List Op) → cond full (Replies (reply.Refused RoFs (bare_tail args))) (cond failed (Replies (reply.Refused ServerFault (bare_tail args))) (Writes ops)) ≡ Replies s → IsShort s
  of_full true failed ops e = served_as (reply.Refused RoFs (bare_tail args)) s (refused_short RoFs (bare_tail args)) e
  of_full false true ops e = served_as (reply.Refused ServerFault (bare_tail args)) s (refused_short ServerFault (bare_tail args)) e
  of_full false false ops e = no_reply ops s e

  of_plan : (p : Plan) → IsShortPlan p → serve_plan a seq args p ≡ Replies s → IsShort s
  of_plan (Refuse r) short e = served_as r s short e
  of_plan (Nothing r) short e = served_as r s short e
  of_plan (Operations ops) short e = of_full (is_full a.leaves seq ops) a.has_failed ops e

module _ (answers : AnswersFit) (plans : PlansFit) (finishes : FinishesFit) where
  of_call : (a : Inputs) (t : Tree) (seq : ℕ) (asked : Asked) (now : Moment) (s : Reply) → HasBounds t → (b : Bool)
      → cond b (serve_plan a seq asked.args (plan t a.view asked.caller asked.args now a.own (seq + 1))) (Replies (answer t a.view asked.caller asked.args)) ≡ Replies s → IsShort s
  of_call a t seq asked now s bounds true e = of_plan a seq asked.args s (plan t a.view asked.caller asked.args now a.own (seq + 1)) (plans t a.view asked.caller asked.args now a.own (seq + 1) bounds.numbers) e
  of_call a t seq asked now s bounds false e = served_as (answer t a.view asked.caller asked.args) s (answers t a.view asked.caller asked.args bounds.names bounds.links) e

  served_short : (a : Inputs) (t : Tree) (seq : ℕ) (asked : Asked) (now : Moment) (s : Reply) → HasBounds t → serve_on a t seq asked now ≡ Replies s → IsShort s
  served_short a t seq asked now s bounds e = of_call a t seq asked now s bounds (is_changing asked.args) e

  -- what is answered on what is held
  module _ {K S : Type 0} (signs : Signing S) (IsWhole : S → Type 0) (saves : K → List ℕ → Bool → K → Type 0) (view : View) (asked : Asked) (now : Moment) (k : Kept S) (has_failed : Bool) (h : Holding) (front : Vector) (keeper : K) (applied : ℕ)
      (k_after : Kept S) (h_after : Holding) (keeper_after : K) (done : Done) (bounds : HasBounds (kept_tree h)) where
    pub answered_short : Answers signs IsWhole saves view asked now k has_failed h front keeper applied k_after h_after keeper_after done → length done.turned.reply ≤ longest_result
    answered_short (replies reply served kept held keeper_is front_is failed given) =
        subst (λ (bytes : List ℕ). length bytes ≤ longest_result) (sym given.bytes) (served_short (goes_by signs view k has_failed) (kept_tree h) (seq_of front k.log) asked now reply bounds served)
    answered_short (writes ops served at w) = by done.has_failed w.written.given.bytes
      where
        planned : plan (kept_tree h) view asked.caller asked.args now (goes_by signs view k has_failed).own (seq_of front k.log + 1) ≡ Operations ops
        planned = (writes_are_planned (goes_by signs view k has_failed) (kept_tree h) (seq_of front k.log) asked now ops served).planned

        written_short : (b : Bool) → IsShort (cond b (lost_reply asked) (written_reply view asked ops h (records_of w.draft.records.items)))
        written_short true = refused_short ServerFault (bare_tail asked.args)
        written_short false = finishes (kept_tree h) (kept_tree (with_held h (records_of w.draft.records.items))) view asked.caller asked.args now (goes_by signs view k has_failed).own (seq_of front k.log + 1) ops bounds.numbers planned

        by : (b : Bool) → done.turned.reply ≡ result (cond b (lost_reply asked) (written_reply view asked ops h (records_of w.draft.records.items))) → length done.turned.reply ≤ longest_result
        by b is = subst (λ (bytes : List ℕ). length bytes ≤ longest_result) (sym is) (written_short b)
