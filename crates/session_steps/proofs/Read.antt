-- The reply of a turn is the one that is read from its bytes: what a call is answered is a reply of its procedure, and of these one alone has those bytes.
use Rattle.std.proofs.Common.{◌≡◌, ◌≢◌, ℕ, ◌≤◌, Bool, true, false, cond, ◌||◌, List, [], ◌∷◌, ◌++◌, length, Option, Some, None, refl, sym, ap, ◌∙◌, subst, arith, Contains}
use Rattle.std.specs.Prelude.{nat_lt, ◌==◌, ◌+◌}
use Rattle.ivy_base.specs.declared.format.Format.TheVariants.{One}
use Rattle.ivy_base.specs.declared.operation.Moment.{Moment}
use Rattle.ivy_base.specs.declared.operation.Op.{Op}
use Rattle.ivy_base.specs.Naming.{head_key_of}
use Rattle.log_model.specs.Closed.{log_of}
use Rattle.log_model.specs.Record.{Record}
use Rattle.log_model.specs.Replay.{replay}
use Rattle.log_model.specs.Spelling.{IsMoment, most_records}
use Rattle.log_model.specs.Vector.{Stamp, reach, stamp_at}
use Rattle.log_model.specs.View.{View, IsView}
use Rattle.wire_model.specs.Rpc.{IsIdentity}
use Rattle.nfs_model.specs.declared.arguments.Args.{Args}
use Rattle.nfs_model.specs.declared.arguments.Args.TheVariants as call
use Rattle.nfs_model.specs.declared.replies.NfsStatus.{NfsStatus}
use Rattle.nfs_model.specs.declared.replies.NfsStatus.TheVariants.{RoFs, ServerFault}
use Rattle.nfs_model.specs.declared.replies.Reply.{Reply}
use Rattle.nfs_model.specs.declared.replies.Reply.TheVariants.{Refused}
use Rattle.nfs_model.specs.Arguments.{ArgumentsFit, nfs_program, program_of}
use Rattle.nfs_model.specs.Changing.{Nothing, Operations, Plan, Refuse, finish, is_changing, plan}
use Rattle.nfs_model.specs.Objects.{no_cache_data}
use Rattle.nfs_model.specs.Reading.{answer}
use Rattle.nfs_model.specs.Replies.{IsFittingReply, IsWcc}
use Rattle.nfs_model.specs.Results.{result as bytes_of}
use Rattle.nfs_model.proofs.OneReplies.{one_reply}
use Rattle.nfs_laws.specs.Replies.{AnswersAreReplies, FinishesAreReplies, HasReplyTo, PlansAreReplies, SetsMakeTrees, TreeFits}
use Rattle.turn_model.specs.Basis.{Holding}
use Rattle.turn_model.specs.Known.{EndsAt}
use Rattle.turn_model.specs.Turn.{Inputs, Asked, Turned, appended, bare_tail, by_plan, own_seq, turn_on}
use Rattle.turn_laws.proofs.Turns.{turn_set_is_closed}
use Rattle.log_model.specs.Signing.{Signing}
use Rattle.agent_model.specs.Agent.{Agent, Kept, kept_of, own}
use Rattle.agent_model.specs.SavedBytes.{IsKept}
use Rattle.agent_model.specs.Standing.{Refresh}
use Rattle.agent_model.specs.Turning.{Answered, Behind, BelowTide, IsByDefinition, TurnEnd, Turns, inputs}
use Rattle.agent_model.specs.Turning.Turns.{behind, below, answers}
use Rattle.session_model.specs.Replies.{alone_answer}

-- ---- what a call is answered

true_or_false : true ≡ false → ⊥
true_or_false e = cc e

false_or_true : false ≡ true → ⊥
false_or_true e = cc e

no_cache_fits : IsWcc no_cache_data
no_cache_fits = record { before = tt; after = tt }

-- a refusal without attributes
bare_fits : (args : Args) (s : NfsStatus) → is_changing args ≡ true → IsFittingReply args (Refused s (bare_tail args))
bare_fits (call.SetAttr object what guard) s changes = record { form = refl; fits = no_cache_fits }
bare_fits (call.Write file offset count stable bytes) s changes = record { form = refl; fits = no_cache_fits }
bare_fits (call.Create dir name how) s changes = record { form = refl; fits = no_cache_fits }
bare_fits (call.MkDir dir name what) s changes = record { form = refl; fits = no_cache_fits }
bare_fits (call.SymLink dir name what text) s changes = record { form = refl; fits = no_cache_fits }
bare_fits (call.Remove dir name) s changes = record { form = refl; fits = no_cache_fits }
bare_fits (call.RmDir dir name) s changes = record { form = refl; fits = no_cache_fits }
bare_fits (call.Rename dir name to_dir to_name) s changes = record { form = refl; fits = (no_cache_fits, no_cache_fits) }
bare_fits (call.Link file dir name) s changes = record { form = refl; fits = (tt, no_cache_fits) }
bare_fits args s changes = absurd (false_or_true changes)

-- where nothing is answered alone, the call is one of NFS
some_or_none : (r : Reply) → Some r ≡ None → ⊥
some_or_none r e = cc e

nfs_alone : (view : View) (args : Args) → alone_answer view args ≡ None → program_of args ≡ nfs_program
nfs_alone view call.MountNull alone = absurd (some_or_none _ alone)
nfs_alone view (call.Mnt path) alone = absurd (some_or_none _ alone)
nfs_alone view call.Dump alone = absurd (some_or_none _ alone)
nfs_alone view (call.Umnt path) alone = absurd (some_or_none _ alone)
nfs_alone view call.UmntAll alone = absurd (some_or_none _ alone)
nfs_alone view call.Export alone = absurd (some_or_none _ alone)
nfs_alone view args alone = refl

-- ---- a turn on a set

module _ (answers_are : AnswersAreReplies) (plans_are : PlansAreReplies) (finishes_are : FinishesAreReplies) (a : Inputs) (s : List Record) (asked : Asked) (now : Moment) (is_nfs : program_of asked.args ≡ nfs_program) (tree : TreeFits (replay s)) where
  abbrev left : NfsStatus → Turned
  left fault = record { reply = Refused fault (bare_tail asked.args); set = s }

  abbrev written_by : List Op → Turned
  written_by ops = record { reply = finish (replay s) (replay (appended a.own One now s ops)) a.view asked.caller asked.args ops; set = appended a.own One now s ops }

  abbrev turned_by : Bool → Turned
  turned_by b = cond b (by_plan a s asked now (plan (replay s) a.view asked.caller asked.args now a.own (own_seq a.own s + 1))) (record { reply = answer (replay s) a.view asked.caller asked.args; set = s })

  plan_fits : (p : Plan) → plan (replay s) a.view asked.caller asked.args now a.own (own_seq a.own s + 1) ≡ p → is_changing asked.args ≡ true → HasReplyTo asked.args p
      → TreeFits (replay (by_plan a s asked now p).set) → IsFittingReply asked.args (by_plan a s asked now p).reply
  plan_fits (Refuse reply) is changes fits after = fits
  plan_fits (Nothing reply) is changes fits after = fits
  plan_fits (Operations ops) is changes fits after = by (a.leaves == 0 || nat_lt most_records (own_seq a.own s + length ops)) a.has_failed after
    where
      by : (full failed : Bool) → TreeFits (replay (cond full (left RoFs) (cond failed (left ServerFault) (written_by ops))).set) → IsFittingReply asked.args (cond full (left RoFs) (cond failed (left ServerFault) (written_by ops))).reply
      by true failed t = bare_fits asked.args RoFs changes
      by false true t = bare_fits asked.args ServerFault changes
      by false false t = finishes_are (replay s) (replay (appended a.own One now s ops)) a.view asked.caller asked.args now a.own (own_seq a.own s + 1) ops tree t is

  turn_fits : TreeFits (replay (turn_on a s asked now).set) → IsFittingReply asked.args (turn_on a s asked now).reply
  turn_fits after = by (is_changing asked.args) refl after
    where
      by : (b : Bool) → is_changing asked.args ≡ b → TreeFits (replay (turned_by b).set) → IsFittingReply asked.args (turned_by b).reply
      by true changes t =
          plan_fits (plan (replay s) a.view asked.caller asked.args now a.own (own_seq a.own s + 1)) refl changes (plans_are (replay s) a.view asked.caller asked.args now a.own (own_seq a.own s + 1) tree changes) t
      by false reads t = answers_are (replay s) a.view asked.caller asked.args tree is_nfs reads

-- ---- a turn of an agent

behind_or_answered : (reply : Reply) (applied : ℕ) → Behind ≡ Answered reply applied → ⊥
behind_or_answered reply applied e = cc e

below_or_answered : (reply : Reply) (applied : ℕ) → BelowTide ≡ Answered reply applied → ⊥
below_or_answered reply applied e = cc e

same_answer : (reply other : Reply) (applied count : ℕ) → Answered reply applied ≡ Answered other count → (reply ≡ other) × (applied ≡ count)
same_answer reply other applied count e = (cc e, cc e)

-- the own log has begun
some_records : (stamp : Option Stamp) (log : List Record) → 1 ≤ reach stamp → EndsAt stamp log → log ≢ []
some_records None log some ends none = absurd (omega (arith, some))
some_records (Some t) log some ends none = no_last ends.0 ends.1 (sym none ∙ ends.2)
  where
    no_last : (before : List Record) (last : Record) → [] ≡ before ++ last ∷ [] → ⊥
    no_last [] last e = cc e
    no_last (r ∷ before) last e = cc e

module _ (answers_are : AnswersAreReplies) (plans_are : PlansAreReplies) (finishes_are : FinishesAreReplies) (sets_make : SetsMakeTrees) {S : Type 0} (signs : Signing S) (IsWhole : S → Type 0) (given : Refresh) (a : Agent S) (view : View) (fails : Bool) (asked : Asked) (now : Moment)
    (kept : IsKept signs IsWhole (kept_of a)) (in_view : IsView view × Contains view.members (own signs a)) (caller : IsIdentity asked.caller) (args : ArgumentsFit asked.args) (moment : IsMoment now)
    (alone : alone_answer view asked.args ≡ None) where
  -- the reply by the definition is one of the procedure's
  module _ (reply read : Reply) (fits : IsFittingReply asked.args read) (same : bytes_of read ≡ bytes_of reply) where
    as_read : {h : Holding} {written : List Record} → IsByDefinition signs given (record { agent = a; view = view; now = now; fails = fails }) asked h written reply → IsByDefinition signs given (record { agent = a; view = view; now = now; fails = fails }) asked h written read
    as_read by grounds known apart knows may =
        let t = by grounds known apart knows may in
        let begun = some_records (stamp_at a.floor (head_key_of (own signs a))) (log_of (own signs a) known) kept.some (knows.by_floor.ends (own signs a) in_view.1) in
        let closed = turn_set_is_closed (inputs signs a view fails) known t.is_turn.candidates asked now t.turned in_view.0 in_view.1 knows.closed begun caller args moment
        (record { taken = t.taken; largest = t.is_turn.largest; by_set = t.is_turn.by_set }) in
        let its = subst (λ (x : Turned). IsFittingReply asked.args x.reply) (sym t.is_turn.by_set)
        (turn_fits answers_are plans_are finishes_are (inputs signs a view fails) t.taken asked now (nfs_alone view asked.args alone) (sets_make view t.taken in_view.0 t.is_turn.largest.closed)
        (subst (λ (x : Turned). TreeFits (replay x.set)) t.is_turn.by_set (sets_make view t.turned.set in_view.0 closed))) in
        record {
          taken = t.taken;
          turned = t.turned;
          is_turn = t.is_turn;
          replies = one_reply asked.args read t.turned.reply fits.form its.form fits.fits its.fits (same ∙ ap bytes_of t.replies);
          writes = t.writes;
          holds = t.holds;
        }

    pub reply_of : {end : TurnEnd} {after : Agent S} {saving : Option (Kept S)} (applied : ℕ) → end ≡ Answered reply applied → Turns signs given (record { agent = a; view = view; now = now; fails = fails }) asked end after saving
        → Turns signs given (record { agent = a; view = view; now = now; fails = fails }) asked (Answered read applied) after saving
    reply_of applied e (behind is) = absurd (behind_or_answered reply applied e)
    reply_of applied e (below near is) = absurd (below_or_answered reply applied e)
    reply_of applied e (answers h written other after saving near over basis takes becomes by) =
        let both = same_answer other reply _ applied e in
        subst (λ (n : ℕ). Turns signs given (record { agent = a; view = view; now = now; fails = fails }) asked (Answered read n) after saving) both.1
        (answers h written read after saving near over basis takes becomes (as_read (subst (IsByDefinition signs given (record { agent = a; view = view; now = now; fails = fails }) asked h written) both.0 by)))
