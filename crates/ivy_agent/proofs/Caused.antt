-- The keeper is blamed only where its count rose, or where it had failed before.
use Rattle.std.proofs.Common.{◌≡◌, ℕ, ◌+◌, Bool, true, false, cond, List, Option, Some, None, Result, Ok, Err, inl, inr, refl, sym, subst, ◌∙◌, arith}
use Rattle.std.specs.Prelude.{IfSome, IsSomeAnd}
use Rattle.ivy_base.specs.declared.operation.Moment.{Moment}
use Rattle.ivy_base.specs.declared.operation.Op.{Op}
use Rattle.ivy_io.specs.Causes.{Rose, counted}
use Rattle.ivy_io.specs.Keepers.{after_try}
use Rattle.tree_model.specs.Tree.{Tree}
use Rattle.log_model.specs.Signing.{Signing}
use Rattle.log_model.specs.Vector.{Vector, seq_of}
use Rattle.log_model.specs.View.{View}
use Rattle.log_records.specs.Records.{records_of}
use Rattle.nfs_model.specs.declared.arguments.Args.{Args}
use Rattle.nfs_model.specs.declared.replies.NfsStatus.TheVariants.{RoFs, ServerFault}
use Rattle.nfs_model.specs.declared.replies.Reply.{Reply}
use Rattle.nfs_model.specs.declared.replies.Reply.TheVariants as reply
use Rattle.nfs_model.specs.declared.replies.Tail.{Tail}
use Rattle.nfs_model.specs.Changing.{Plan, Refuse, Nothing, Operations, is_changing, plan}
use Rattle.nfs_model.specs.Reading.{answer}
use Rattle.nfs_model.specs.Results.{result}
use Rattle.turn_model.specs.Basis.{Holding, kept_tree}
use Rattle.turn_model.specs.Turn.{Inputs, Asked, bare_tail}
use Rattle.agent_model.specs.SavedBytes.{kept_bytes}
use Rattle.agent_model.specs.Turning.{with_held}
use Rattle.ivy_agent.specs.Answering.{Answers, goes_by, replies, writes}
use Rattle.ivy_agent.specs.Causes.{EnterHasCause, MayEnterHasCause, ReplyHasCause, RestartHasCause, RoseOrHadFailed}
use Rattle.ivy_agent.specs.Drafts.{kept_with}
use Rattle.ivy_agent.specs.Holders.{Holder}
use Rattle.ivy_agent.specs.Saves.{saved_of}
use Rattle.ivy_agent.specs.Restarting.{Restores}
use Rattle.ivy_agent.specs.Serving.{Replies, Writes, is_full, serve_on, serve_plan}
use Rattle.ivy_agent.specs.Writing.{lost_reply, written_reply}
use Rattle.ivy_agent.specs.declared.fault.EnterFault.{EnterFault}
use Rattle.ivy_agent.specs.declared.fault.EnterFault.TheVariants as enter
use Rattle.ivy_agent.specs.declared.fault.RestartFault.{RestartFault}
use Rattle.ivy_agent.specs.declared.fault.RestartFault.TheVariants as restart
use Rattle.ivy_agent.specs.declared.saving.Kept.{Kept}
use Rattle.ivy_agent.specs.declared.writing.Done.{Done}
use Rattle.nfs_laws.proofs.Faultless.{IsPlainPlan, answer_is_plain, finish_is_plain, is_plain, is_plain_plan, plain_differs, plan_is_plain, told_plain, told_planned}

-- a count that was counted on has risen
pub rose_by_one : (before now : ℕ) → now ≡ counted before → Rose before now
rose_by_one before now is = omega (arith, is)

-- ---- entering, and starting again

pub entered_caused : {K S : Type 0} (faults : K → ℕ) (before : Holder K S) (why : EnterFault) → MayEnterHasCause before.agent.has_failed (Err why) → EnterHasCause faults before (Err why) before
entered_caused faults before enter.NotMember h = tt
entered_caused faults before (enter.NotNamed log) h = tt
entered_caused faults before enter.Keeper h = inr h
entered_caused faults before enter.Memory h = tt

pub restored_caused : {K S : Type 0} (signs : Signing S) (IsWhole : S → Type 0) (faults : K → ℕ) (first before : K) (bytes : List ℕ) (result : Result (Holder K S) (K × RestartFault))
    → Restores signs IsWhole before bytes result → RestartHasCause faults first result
restored_caused signs IsWhole faults first before bytes (Ok h) r = tt
restored_caused signs IsWhole faults first before bytes (Err (after, restart.Nothing)) r = tt
restored_caused signs IsWhole faults first before bytes (Err (after, restart.Malformed)) r = tt
restored_caused signs IsWhole faults first before bytes (Err (after, restart.Keeper)) r = absurd r
restored_caused signs IsWhole faults first before bytes (Err (after, restart.Memory)) r = tt

-- ---- what is served

same_reply : (r s : Reply) → Replies r ≡ Replies s → r ≡ s
same_reply r s e = cc e

module _ (a : Inputs) (seq : ℕ) (args : Args) (s : Reply) (t : Tail) (blames : result s ≡ result (reply.Refused ServerFault t)) where
  -- no such reply is plain
  not_plain : (r : Reply) → is_plain r ≡ true → Replies r ≡ Replies s → ⊥
  not_plain r plain e = plain_differs r t plain (subst (λ (x : Reply). result x ≡ result (reply.Refused ServerFault t)) (sym (same_reply r s e)) blames)

  of_full : (full failed : Bool) (ops : List Op) → cond full (Replies (reply.Refused RoFs (bare_tail args))) (cond failed (Replies (reply.Refused ServerFault (bare_tail args))) (Writes ops)) ≡ Replies s → failed ≡ true
  of_full true failed ops e = absurd (not_plain (reply.Refused RoFs (bare_tail args)) refl e)
  of_full false true ops e = refl
  of_full false false ops e = absurd (cc e)

  of_plan : (p : Plan) → is_plain_plan p ≡ true → serve_plan a seq args p ≡ Replies s → a.has_failed ≡ true
  of_plan (Refuse r) plain e = absurd (not_plain r plain e)
  of_plan (Nothing r) plain e = absurd (not_plain r plain e)
  of_plan (Operations ops) plain e = of_full (is_full a.leaves seq ops) a.has_failed ops e

of_call : (a : Inputs) (tree : Tree) (seq : ℕ) (asked : Asked) (now : Moment) (s : Reply) (t : Tail) → result s ≡ result (reply.Refused ServerFault t) → (b : Bool)
    → cond b (serve_plan a seq asked.args (plan tree a.view asked.caller asked.args now a.own (seq + 1))) (Replies (answer tree a.view asked.caller asked.args)) ≡ Replies s → a.has_failed ≡ true
of_call a tree seq asked now s t blames true e =
    of_plan a seq asked.args s t blames (plan tree a.view asked.caller asked.args now a.own (seq + 1))
    (told_planned (plan tree a.view asked.caller asked.args now a.own (seq + 1)) (plan_is_plain tree a.view asked.caller now a.own (seq + 1) asked.args)) e
of_call a tree seq asked now s t blames false e =
    absurd (not_plain a seq asked.args s t blames (answer tree a.view asked.caller asked.args)
    (told_plain (answer tree a.view asked.caller asked.args) (answer_is_plain tree a.view asked.caller asked.args)) e)

-- a reply of SERVERFAULT is served only where the keeper had failed before
served_caused : (a : Inputs) (tree : Tree) (seq : ℕ) (asked : Asked) (now : Moment) (s : Reply) (t : Tail) → serve_on a tree seq asked now ≡ Replies s → result s ≡ result (reply.Refused ServerFault t) → a.has_failed ≡ true
served_caused a tree seq asked now s t served blames = of_call a tree seq asked now s t blames (is_changing asked.args) served

-- ---- what is answered on what is held

module _ {K S : Type 0} (signs : Signing S) (IsWhole : S → Type 0) (saves : K → List ℕ → Bool → K → Type 0) (faults : K → ℕ)
    (counts : (before after : K) (bytes : List ℕ) (fails : Bool) → saves before bytes fails after → faults after ≡ after_try fails (faults before))
    (asked : Asked) (now : Moment) (k : Kept S) (has_failed : Bool) (h : Holding) (front : Vector) (keeper : K) (applied : ℕ)
    (k_after : Kept S) (h_after : Holding) (keeper_after : K) (done : Done) where
  answered_caused : (view : View) → Answers signs IsWhole saves view asked now k has_failed h front keeper applied k_after h_after keeper_after done
      → ReplyHasCause (faults keeper) (faults keeper_after) has_failed done.turned
  answered_caused view (replies reply served kept held keeper_is front_is failed given) t e =
      inr (served_caused (goes_by signs view k has_failed) (kept_tree h) (seq_of front k.log) asked now reply t served (sym given.bytes ∙ e))
  answered_caused view (writes ops served at w) t e = by done.has_failed w.written.given.bytes w.written.saved
    where
      written : Reply
      written = written_reply view asked ops h (records_of w.draft.records.items)

      bytes : List ℕ
      bytes = kept_bytes signs (saved_of (kept_with k w.draft.next))

      by : (b : Bool) → done.turned.reply ≡ result (cond b (lost_reply asked) written) → saves keeper bytes b keeper_after → RoseOrHadFailed (faults keeper) (faults keeper_after) has_failed
      by true is saved = inl (rose_by_one (faults keeper) (faults keeper_after) (counts keeper keeper_after bytes true saved))
      by false is saved = absurd (plain_differs written t
          (told_plain written (finish_is_plain (kept_tree h) (kept_tree (with_held h (records_of w.draft.records.items))) view asked.caller ops asked.args)) (sym is ∙ e))

  pub caused : (P : View → Type 0) (o : Option View) → IsSomeAnd o P → IfSome o (λ view. Answers signs IsWhole saves view asked now k has_failed h front keeper applied k_after h_after keeper_after done)
      → ReplyHasCause (faults keeper) (faults keeper_after) has_failed done.turned
  caused P None some answers = absurd some
  caused P (Some view) some answers = answered_caused view answers
