-- In calm and tidy scripts the turn of a whole call takes all that was written, while no session is open.
use Rattle.std.proofs.Common.{◌≡◌, inl, inr, ⊎_elim, ℕ, ◌≤◌, Bool, true, false, List, [], ◌∷◌, ◌++◌, length, length-append, Option, Some, refl, sym, ap, ◌∙◌, subst, arith, nat_lt, Contains}
use Rattle.std.specs.Prelude.{◌↔◌, MatchBool, sum_by}
use Rattle.std.specs.List.{AllByRecursion}
use Rattle.std.proofs.lemmas.Bool.{ltb-false}
use Rattle.dhash_model.specs.Signed.{hss_judged}
use Rattle.ivy_base.specs.Naming.{head_key_of}
use Rattle.log_model.specs.Record.{Record}
use Rattle.script_driver.specs.Run.{Exceeds, Goes}
use Rattle.script_model.specs.Lines.{command_of}
use Rattle.script_model.specs.declared.command.Command.{Command}
use Rattle.script_model.specs.declared.command.Command.TheVariants as command
use Rattle.script_model.specs.declared.command.Piece.{Piece}
use Rattle.session_model.specs.Brought.{brought_in}
use Rattle.session_model.specs.Executions.Begins.{alone as begins_alone, refreshes as begins_refreshing}
use Rattle.session_model.specs.Sessions.{Session}
use Rattle.world_model.specs.Agents.{own_hss_key}
use Rattle.world_model.specs.Calls.{AsLine, BeginsWith, Sending, sending_of}
use Rattle.world_model.specs.Calls.AsLine.{calls}
use Rattle.world_model.specs.Logs.{Played}
use Rattle.world_model.specs.Step.{Does, MayDo, MayDoFirst, most_bytes}
use Rattle.world_model.specs.Steps.{RunsOut, Configuration}
use Rattle.world_model.specs.GhostState.{HadTurn, beginning, having_begun}
use Rattle.world_model.specs.World.{Participant, participant}
use Rattle.calm_laws.specs.Calm.{IsCalmAt, Stopped}
use Rattle.world_laws.specs.Headline.{IsOnReplay}
use Rattle.world_laws.specs.Invariant.{Invariant}
use Rattle.world_laws.specs.Laws.{LinesKeep}
use Rattle.world_laws.proofs.AllLines.{does_line}
use Rattle.world_laws.proofs.Bringing.{found_named}
use Rattle.calm_laws.proofs.CalmHeld.{calmly_keeps}
use Rattle.world_laws.proofs.HeadKeys.{one_own_key}
use Rattle.world_laws.proofs.OneSteps.{GoesWell}
use Rattle.calm_laws.specs.Completeness.{HaveEntered, HaveHeads, IsWritten}
use Rattle.calm_laws.specs.Takes.{CallsTakeAll, HaveNewest, IsLeftBy, NewestArePut, ReceivedHeadsLeft}
use Rattle.calm_laws.proofs.CallLines.{IsSentBy, begun_well, sent_by}
use Rattle.calm_laws.proofs.CallSteps.{IsInCall, begins_on, past_told}
use Rattle.calm_laws.proofs.GotHeads.{AreHeardOf}
use Rattle.calm_laws.proofs.KeysStay.{same_stay}
use Rattle.calm_laws.proofs.OwnLogs.{IsHonestIn}
use Rattle.calm_laws.proofs.Standing.{IsCalmWorld, calm_world}
use Rattle.calm_laws.proofs.TakesRuns.{Either, HadAt, HadOne, InRun, PartNewest, runs_had, takes_at}
use Rattle.calm_laws.proofs.Whole.{world_backed}
use Rattle.calm_laws.proofs.BackedWorlds.{IsBackedWorld}

-- ---- lists of turns

no_more : {X : Type 0} (xs : List X) (x : X) → xs ≡ xs ++ x ∷ [] → ⊥
no_more xs x e = let size = ap length e in let one = length-append xs (x ∷ []) in omega (arith, size, one)

same_last : {X : Type 0} (xs : List X) (x y : X) → xs ++ x ∷ [] ≡ xs ++ y ∷ [] → x ≡ y
same_last [] x y e = cc e
same_last (z ∷ xs) x y e = same_last xs x y (cc e)

-- ---- a line that goes on is within the limit

within : (w next : Played) (output name : List ℕ) (pieces : List Piece) → MayDoFirst w (Some (command.As name pieces)) (Goes next output) → sum_by (λ b. length b) w.0.met ≤ most_bytes
within w next output name pieces h = by (nat_lt most_bytes (sum_by (λ b. length b) w.0.met)) refl h
  where
    by : (b : Bool) → nat_lt most_bytes (sum_by (λ b. length b) w.0.met) ≡ b → MatchBool b (Goes next output ≡ Exceeds) (MayDo w (Some (command.As name pieces)) (Goes next output)) → sum_by (λ b. length b) w.0.met ≤ most_bytes
    by true e over = cc over
    by false e may = ltb-false most_bytes (sum_by (λ b. length b) w.0.met) e

some_heads : (w : Played) → HaveNewest w → HaveHeads w
some_heads w newest q among = let put = newest q among in (put.0, put.2, put.3, put.4)

-- ---- the line

module _ (r : ℕ) (w : Played) (keeps : Invariant w) (world : IsCalmWorld r w) (backed : IsBackedWorld w.0 w.1) (count : ℕ) (lines : List (List ℕ)) (calm : IsCalmAt r w (Stopped count) lines) (newest : HaveNewest w) (honest : IsHonestIn w) (log : List ℕ) (entered : HaveEntered w.0 log) (pieces : List Piece) where
  took : (k : ℕ) → k ≡ r → (s : Sending) → sending_of w.0 log pieces ≡ Some s → (t : Session) (end : Configuration) → BeginsWith w.0 s t
      → RunsOut hss_judged k s.by.name (record { world = w.0; ghost_state = having_begun w.1; session = t; began = beginning w.1 s.by.name }) end
      → (h : HadTurn) (turn : IsOnReplay h) (one : Record) → end.ghost_state.turns ≡ w.1.turns ++ h ∷ [] → Contains turn.taken one ↔ IsWritten w h.view one
  took k same s sends t end begins runs h turn one is =
      ⊎_elim (λ on. by_run (runs_had r w world backed calm.apart calm.no_key (some_heads w newest) newest s.by.name s.view mine (in_run on)))
      (λ past. absurd (no_more w.1.turns h (sym (past_told r mine past) ∙ is)))
      (begins_on r w world backed calm.apart calm.no_key (some_heads w newest) keeps s t start well by_name sent.1 begins refl)
    where
      start : Configuration
      start = record { world = w.0; ghost_state = having_begun w.1; session = t; began = beginning w.1 s.by.name }

      sent : IsSentBy w.0 log s
      sent = sent_by w.0 log pieces s sends

      named : s.by.name ≡ log
      named = (found_named w.0.participants log s.by sent.0).1

      by_name : participant w.0 s.by.name ≡ Some s.by
      by_name = ap (participant w.0) named ∙ sent.0

      mine : RunsOut hss_judged r s.by.name start end
      mine = subst (λ x. RunsOut hss_judged x s.by.name start end) same runs

      well : GoesWell r start
      well = begun_well w keeps backed r world.state.still.replicas log pieces s sends t begins

      bare : (u : Session) → BeginsWith w.0 s u → (u.parts ≡ []) × (u.by ≡ s.by.name) × (u.standing.view ≡ s.view) × AreHeardOf (Either r w world backed calm.apart calm.no_key (some_heads w newest) newest) u
      bare _ (begins_alone given by) = (refl, refl, refl, tt)
      bare _ (begins_refreshing xid asked asks) = (refl, refl, refl, tt)

      in_run : IsInCall r w world backed calm.apart calm.no_key (some_heads w newest) start → InRun r w world backed calm.apart calm.no_key (some_heads w newest) newest s.by.name s.view start
      in_run call = record {
        call = call;
        known = λ n. refl;
        turns = refl;
        meets = λ b m. m;
        keys = same_stay w.0.participants;
        heard = (bare t begins).3;
        parts = subst (λ ps. AllByRecursion (PartNewest r w world backed calm.apart calm.no_key (some_heads w newest) newest) (brought_in ps)) (sym (bare t begins).0) tt;
        of = ((bare t begins).1, (bare t begins).2);
      }

      by_run : HadOne r w world backed calm.apart calm.no_key (some_heads w newest) newest s.by.name s.view end → Contains turn.taken one ↔ IsWritten w h.view one
      by_run (inl none) = absurd (no_more w.1.turns h (sym none ∙ is))
      by_run (inr (g, had, also)) =
          let one_turn : g ≡ h = same_last w.1.turns g h (sym also ∙ is) in
          takes_at r w world backed calm.apart calm.no_key (some_heads w newest) newest s.by.name s.view keeps honest s.by by_name sent.1 (λ q q_in member. entered s.by q s.view sent.0 sent.1 q_in member) h (subst (HadAt r w world backed calm.apart calm.no_key (some_heads w newest) newest s.by.name s.view) one_turn had) turn one

  pub as_took : (o : Option Sending) → sending_of w.0 log pieces ≡ o → (next : Played) (output : List ℕ) → AsLine hss_judged w o (Goes next output) → (h : HadTurn) (turn : IsOnReplay h) (one : Record) → next.1.turns ≡ w.1.turns ++ h ∷ [] → Contains turn.taken one ↔ IsWritten w h.view one
  as_took _ sends _ _ (calls s k t end said also begins runs over) h turn one is = took k (one_number k r (sym also ∙ world.state.still.replicas)) s sends t end begins runs h turn one is
    where
      one_number : (a b : ℕ) → Some a ≡ Some b → a ≡ b
      one_number a b e = cc e

-- where of each log a put of the newest head was acknowledged
pub calls_take_all : LinesKeep → NewestArePut → ReceivedHeadsLeft → CallsTakeAll
calls_take_all lines_keep newest left r w next count lines line name output pieces calm tidy own_keys entered none is step h turn one had =
    let done = does_line w next output (command_of line) step in
    let keeps = calmly_keeps lines_keep r w (Stopped count) lines calm in
    let does : Does hss_judged w (command.As name pieces) (Goes next output) = subst (λ (d : Command). Does hss_judged w d (Goes next output)) (one_command done.0 (command.As name pieces) (sym done.1 ∙ is)) done.2 in
    as_took r w keeps (calm_world r w count lines calm) (world_backed lines_keep r w (Stopped count) lines calm) count lines calm
    (newest r w count lines calm tidy none (within w next output name pieces (subst (λ o. MayDoFirst w o (Goes next output)) is step))) honest name entered pieces (sending_of w.0 name pieces) refl next output does h turn one had
  where
    own_key : (p q : Participant) → Contains w.0.participants p → Contains w.0.participants q → head_key_of (own_hss_key p.agent) ≡ head_key_of (own_hss_key q.agent) → own_hss_key p.agent ≡ own_hss_key q.agent
    own_key p q p_in q_in keys = one_own_key w (calmly_keeps lines_keep r w (Stopped count) lines calm) calm.apart p q p_in q_in keys

    honest : IsHonestIn w
    honest = record {
      own_keys = λ p q p_in q_in keys. own_keys p q p_in q_in (own_key p q p_in q_in keys);
      left = λ by e q c q_in of_log. let one = left r w count lines by e q calm c q_in of_log in subst (λ (x : Participant). IsLeftBy x e) (own_keys one.0 q one.1 q_in one.2) one.3;
    }

    one_command : (c d : Command) → Some c ≡ Some d → c ≡ d
    one_command c d e = cc e
