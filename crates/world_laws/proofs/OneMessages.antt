-- A message has one reply by itself, or asks one thing of a turn; so a session begins with it in one way.
use Rattle.std.proofs.Common.{◌≡◌, ◌≢◌, ◌⊎◌, inl, inr, ℕ, ◌<◌, ◌≤◌, List, Option, Some, None, refl, sym, ap, ◌∙◌, subst, arith}
use Rattle.wire_model.specs.Rpc.{CallMessage, IsCall, IsOtherVersion, IsCaller, Identity, Success, ProgramUnavailable, ProgramMismatch, ProcedureUnavailable, GarbageArguments, RpcMismatch, BadCredential, reply}
use Rattle.wire_model.proofs.OneReading.{one_call, no_other_version, one_other_version}
use Rattle.nfs_model.specs.declared.arguments.Args.{Args}
use Rattle.nfs_model.specs.declared.replies.Reply.{Reply}
use Rattle.nfs_model.specs.Arguments.{AreArguments}
use Rattle.nfs_model.specs.Results.{result}
use Rattle.nfs_model.proofs.OneArguments.{one_arguments}
use Rattle.log_model.specs.View.{View}
use Rattle.turn_model.specs.Turn.{Asked}
use Rattle.dht_ids.specs.declared.peer.Peer.{Peer}
use Rattle.agent_model.specs.Standing.{Standing}
use Rattle.session_model.specs.Executions.{Begins, fresh_session}
use Rattle.session_model.specs.Executions.Begins.{alone as begins_alone, refreshes}
use Rattle.session_model.specs.Replies.{Asks, IsByMessage, IsServed, alone_answer, procedures_of, said_bare, no_call, other_version, no_program, no_version, no_procedure, no_caller, no_arguments, alone}
use Rattle.session_model.specs.Sessions.{Over, Session}

-- of a call: what it asks, a reply by itself or a turn
data Verdict : Type 0 where
  Says : Option (List ℕ) → Verdict
  Turns : Verdict

says_same : (a b : Option (List ℕ)) → Says a ≡ Says b → a ≡ b
says_same a b e = cc e

says_or_turns : (a : Option (List ℕ)) → Says a ≡ Turns → ⊥
says_or_turns a e = cc e

some_count : (o : Option ℕ) (a b : ℕ) → o ≡ Some a → o ≡ Some b → a ≡ b
some_count o a b e f = cc (sym e ∙ f)

no_count : (o : Option ℕ) (a : ℕ) → o ≡ None → o ≡ Some a → ⊥
no_count o a e f = cc (sym e ∙ f)

some_reply : (o : Option Reply) (a b : Reply) → o ≡ Some a → o ≡ Some b → a ≡ b
some_reply o a b e f = cc (sym e ∙ f)

no_reply : (o : Option Reply) (a : Reply) → o ≡ None → o ≡ Some a → ⊥
no_reply o a e f = cc (sym e ∙ f)

module _ (view : View) (c : CallMessage) where
  abbrev HasArguments : Args → Type 0
  HasArguments args = AreArguments c.program c.procedure c.arguments args

  -- the cases of a call, each where none before it holds
  abbrev OfAlone : Args → Verdict → Type 0
  OfAlone args v = ((r : Reply) × (alone_answer view args ≡ Some r) × (v ≡ Says (Some (reply c.xid (Success (result r)))))) ⊎ ((alone_answer view args ≡ None) × (v ≡ Turns))

  abbrev OfArguments : Verdict → Type 0
  OfArguments v = (((args : Args) → HasArguments args → ⊥) × (v ≡ Says (Some (reply c.xid GarbageArguments)))) ⊎ ((args : Args) × HasArguments args × OfAlone args v)

  abbrev OfCaller : Verdict → Type 0
  OfCaller v = (((who : Identity) → IsCaller c.credential who → ⊥) × (v ≡ Says (Some (reply c.xid BadCredential)))) ⊎ ((who : Identity) × IsCaller c.credential who × OfArguments v)

  abbrev OfProcedure : ℕ → Verdict → Type 0
  OfProcedure count v = ((count ≤ c.procedure) × (v ≡ Says (Some (reply c.xid ProcedureUnavailable)))) ⊎ ((c.procedure < count) × OfCaller v)

  abbrev OfVersion : ℕ → Verdict → Type 0
  OfVersion count v = ((c.version ≢ 3) × (v ≡ Says (Some (reply c.xid (ProgramMismatch 3 3))))) ⊎ ((c.version ≡ 3) × OfProcedure count v)

  abbrev OfProgram : Verdict → Type 0
  OfProgram v = ((procedures_of c.program ≡ None) × (v ≡ Says (Some (reply c.xid ProgramUnavailable)))) ⊎ ((count : ℕ) × (procedures_of c.program ≡ Some count) × OfVersion count v)

  served : (v : Verdict) → IsServed c → OfCaller v → OfProgram v
  served v is rest = inr (is.count, is.program, inr (is.version, inr (is.procedure, rest)))

  -- ---- a call has one verdict

  one_of_alone : (args : Args) (u v : Verdict) → OfAlone args u → OfAlone args v → u ≡ v
  one_of_alone args u v (inl a) (inl b) = a.2 ∙ ap (λ (r : Reply). Says (Some (reply c.xid (Success (result r))))) (some_reply (alone_answer view args) a.0 b.0 a.1 b.1) ∙ sym b.2
  one_of_alone args u v (inl a) (inr b) = absurd (no_reply (alone_answer view args) a.0 b.0 a.1)
  one_of_alone args u v (inr a) (inl b) = absurd (no_reply (alone_answer view args) b.0 a.0 b.1)
  one_of_alone args u v (inr a) (inr b) = a.1 ∙ sym b.1

  one_of_arguments : (u v : Verdict) → OfArguments u → OfArguments v → u ≡ v
  one_of_arguments u v (inl a) (inl b) = a.1 ∙ sym b.1
  one_of_arguments u v (inl a) (inr b) = absurd (a.0 b.0 b.1)
  one_of_arguments u v (inr a) (inl b) = absurd (b.0 a.0 a.1)
  one_of_arguments u v (inr a) (inr b) =
      let same : b.0 ≡ a.0 = one_arguments c.program c.procedure c.arguments b.0 a.0 b.1 a.1 in
      one_of_alone a.0 u v a.2 (subst (λ (args : Args). OfAlone args v) same b.2)

  one_of_caller : (u v : Verdict) → OfCaller u → OfCaller v → u ≡ v
  one_of_caller u v (inl a) (inl b) = a.1 ∙ sym b.1
  one_of_caller u v (inl a) (inr b) = absurd (a.0 b.0 b.1)
  one_of_caller u v (inr a) (inl b) = absurd (b.0 a.0 a.1)
  one_of_caller u v (inr a) (inr b) = one_of_arguments u v a.2 b.2

  one_of_procedure : (count : ℕ) (u v : Verdict) → OfProcedure count u → OfProcedure count v → u ≡ v
  one_of_procedure count u v (inl a) (inl b) = a.1 ∙ sym b.1
  one_of_procedure count u v (inl a) (inr b) = let many = a.0 in let few = b.0 in absurd (omega (arith, many, few))
  one_of_procedure count u v (inr a) (inl b) = let few = a.0 in let many = b.0 in absurd (omega (arith, many, few))
  one_of_procedure count u v (inr a) (inr b) = one_of_caller u v a.1 b.1

  one_of_version : (count : ℕ) (u v : Verdict) → OfVersion count u → OfVersion count v → u ≡ v
  one_of_version count u v (inl a) (inl b) = a.1 ∙ sym b.1
  one_of_version count u v (inl a) (inr b) = absurd (a.0 b.0)
  one_of_version count u v (inr a) (inl b) = absurd (b.0 a.0)
  one_of_version count u v (inr a) (inr b) = one_of_procedure count u v a.1 b.1

  one_of_program : (u v : Verdict) → OfProgram u → OfProgram v → u ≡ v
  one_of_program u v (inl a) (inl b) = a.1 ∙ sym b.1
  one_of_program u v (inl a) (inr b) = absurd (no_count (procedures_of c.program) b.0 a.0 b.1)
  one_of_program u v (inr a) (inl b) = absurd (no_count (procedures_of c.program) a.0 b.0 a.1)
  one_of_program u v (inr a) (inr b) = one_of_version b.0 u v (subst (λ (n : ℕ). OfVersion n u) (some_count (procedures_of c.program) a.0 b.0 a.1 b.1) a.2) b.2

-- ---- and what is replied to it, or asked of a turn, is its verdict

module _ (view : View) (m : List ℕ) (c : CallMessage) (is_c : IsCall m c) where
  -- what holds of a call of the message holds of this one
  of_this : (d : CallMessage) (v : Verdict) → IsCall m d → OfProgram view d v → OfProgram view c v
  of_this d v is_d of = subst (λ (e : CallMessage). OfProgram view e v) (one_call m d c is_d is_c) of

  of_message : (given : Option (List ℕ)) → IsByMessage view m given → OfProgram view c (Says given)
  of_message _ (no_call none other) = absurd (none c is_c)
  of_message _ (other_version xid other) = absurd (no_other_version m c xid is_c other)
  of_message _ (no_program d is_d other) = of_this d _ is_d (inl (other, refl))
  of_message _ (no_version d count is_d program other) = of_this d _ is_d (inr (count, program, inl (other, refl)))
  of_message _ (no_procedure d count is_d program version many) = of_this d _ is_d (inr (count, program, inr (version, inl (many, refl))))
  of_message _ (no_caller d is_d is none) = of_this d _ is_d (served view d _ is (inl (none, refl)))
  of_message _ (no_arguments d who is_d is caller none) = of_this d _ is_d (served view d _ is (inr (who, caller, inl (none, refl))))
  of_message _ (alone d who args r is_d is caller has by) = of_this d _ is_d (served view d _ is (inr (who, caller, inr (args, has, inl (r, by, refl)))))

  of_turn : (xid : ℕ) (asked : Asked) → Asks view m xid asked → OfProgram view c Turns
  of_turn xid asked a = of_this a.call _ a.is_call (served view a.call _ a.served (inr (asked.caller, a.caller, inr (asked.args, a.arguments, inr (a.not_alone, refl)))))

  one_reply_to : (given other : Option (List ℕ)) → IsByMessage view m given → IsByMessage view m other → given ≡ other
  one_reply_to given other a b = says_same given other (one_of_program view c (Says given) (Says other) (of_message given a) (of_message other b))

-- ---- the message may be no call

module _ (view : View) (m : List ℕ) where
  -- the reply to a call, to a call of another version, or to neither
  data Kind : Option (List ℕ) → Type 0 where
    to_call : {given : Option (List ℕ)} (c : CallMessage) → IsCall m c → Kind given
    to_version : {given : Option (List ℕ)} (xid : ℕ) → IsOtherVersion m xid → given ≡ Some (reply xid RpcMismatch) → Kind given
    to_neither : {given : Option (List ℕ)} → ((xid : ℕ) → IsOtherVersion m xid → ⊥) → given ≡ None → Kind given

  kind_of : {given : Option (List ℕ)} → IsByMessage view m given → Kind given
  kind_of (no_call none other) = to_neither other refl
  kind_of (other_version xid other) = to_version xid other refl
  kind_of (no_program d is_d other) = to_call d is_d
  kind_of (no_version d count is_d program other) = to_call d is_d
  kind_of (no_procedure d count is_d program version many) = to_call d is_d
  kind_of (no_caller d is_d is none) = to_call d is_d
  kind_of (no_arguments d who is_d is caller none) = to_call d is_d
  kind_of (alone d who args r is_d is caller has by) = to_call d is_d

  one_of_kinds : (given other : Option (List ℕ)) → IsByMessage view m given → IsByMessage view m other → Kind given → Kind other → given ≡ other
  one_of_kinds given other a b (to_call c is_c) kind = one_reply_to view m c is_c given other a b
  one_of_kinds given other a b (to_version x is_x e) (to_call c is_c) = one_reply_to view m c is_c given other a b
  one_of_kinds given other a b (to_version x is_x e) (to_version y is_y f) = e ∙ ap (λ (n : ℕ). Some (reply n RpcMismatch)) (one_other_version m x y is_x is_y) ∙ sym f
  one_of_kinds given other a b (to_version x is_x e) (to_neither none f) = absurd (none x is_x)
  one_of_kinds given other a b (to_neither none e) (to_call c is_c) = one_reply_to view m c is_c given other a b
  one_of_kinds given other a b (to_neither none e) (to_version y is_y f) = absurd (none y is_y)
  one_of_kinds given other a b (to_neither none e) (to_neither none_either f) = e ∙ sym f

  pub one_reply : (given other : Option (List ℕ)) → IsByMessage view m given → IsByMessage view m other → given ≡ other
  one_reply given other a b = one_of_kinds given other a b (kind_of a) (kind_of b)

  pub reply_or_turn : (given : Option (List ℕ)) (xid : ℕ) (asked : Asked) → IsByMessage view m given → Asks view m xid asked → ⊥
  reply_or_turn given xid asked a b = says_or_turns given
      (one_of_program view b.call (Says given) Turns (of_message view m b.call b.is_call given a) (of_turn view m b.call b.is_call xid asked b))

pub one_beginning : (by message : List ℕ) (entries : List Peer) (standing : Standing) (t u : Session) → Begins by message entries standing t → Begins by message entries standing u → t ≡ u
one_beginning by message entries standing _ _ (begins_alone given is) (begins_alone other also) =
    ap (λ (o : Option (List ℕ)). fresh_session by message entries standing (Over (Some (said_bare o)))) (one_reply standing.view message given other is also)
one_beginning by message entries standing _ _ (begins_alone given is) (refreshes xid asked asks) = absurd (reply_or_turn standing.view message given xid asked is asks)
one_beginning by message entries standing _ _ (refreshes xid asked asks) (begins_alone given is) = absurd (reply_or_turn standing.view message given xid asked is asks)
one_beginning by message entries standing _ _ (refreshes xid asked asks) (refreshes number ask asking) = refl
