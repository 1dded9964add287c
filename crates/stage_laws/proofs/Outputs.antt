-- What a line shows tells the status of the reply, and a status that no tree gives has its cause.
use Rattle.std.proofs.Common.{◌≡◌, ◌≢◌, ◌⊎◌, inl, inr, ⊎_elim, ℕ, zero, suc, ◌≤◌, ◌<◌, Bool, true, false, cond, List, [], ◌∷◌, ◌++◌, take, drop, Option, Some, None, Result, Ok, refl, sym, ap, ◌∙◌, subst, arith, Contains}
use Rattle.std.specs.Prelude.{◌==◌, ◌^◌, nat_lt, if◌then◌else◌, flat_map}
use Rattle.std.specs.List.{list_all}
use Rattle.std.proofs.lemmas.Bool.{ltb-true}
use Rattle.std.proofs.lemmas.List.{append_assoc}
use Rattle.std.proofs.lemmas.List.Elements.{Contains-append_cases}
use Rattle.hex.specs.Hex.{IsBytes, decode_of, encode_lower, encode_with}
use Rattle.hex.specs.declared.error.FromHexError.{FromHexError}
use Rattle.hex.proofs.HexLemmas.{decode_of-encode_lower}
use Rattle.ivy_base.specs.Naming.{root_number}
use Rattle.tree_model.proofs.Sound.{both_true}
use Rattle.turn_laws.proofs.Octets.{a_word}
use Rattle.wire_model.specs.Rpc.{CallOutcome as RpcOutcome, Success, ProgramUnavailable, ProgramMismatch, ProcedureUnavailable, GarbageArguments, SystemError, RpcMismatch, BadCredential, reply as rpc_reply}
use Rattle.wire_model.specs.Xdr.{word}
use Rattle.wire_model.proofs.OneReading.{one_word}
use Rattle.log_model.specs.View.{View}
use Rattle.log_model.proofs.Lists.{each}
use Rattle.nfs_model.specs.Arguments.{mount_program, program_of}
use Rattle.nfs_model.specs.Checks.{same_bytes}
use Rattle.nfs_model.specs.Objects.{handle_of}
use Rattle.nfs_model.specs.Reading.{mount_answer}
use Rattle.nfs_model.specs.Results.{result, status_number}
use Rattle.nfs_model.specs.declared.arguments.Args.{Args}
use Rattle.nfs_model.specs.declared.arguments.Args.TheVariants as call
use Rattle.nfs_model.specs.declared.replies.NfsStatus.{NfsStatus}
use Rattle.nfs_model.specs.declared.replies.NfsStatus.TheVariants as status
use Rattle.nfs_model.specs.declared.replies.Reply.{Reply}
use Rattle.nfs_model.specs.declared.replies.Reply.TheVariants as reply
use Rattle.nfs_model.specs.declared.replies.Tail.{Tail}
use Rattle.turn_model.specs.Turn.{Turned, bare_tail, turn_on}
use Rattle.session_model.specs.Replies.{IsByMessage, alone_answer, missed_reply, missed_status, said_of}
use Rattle.session_model.specs.Replies.IsByMessage.{no_call, other_version, no_program, no_version, no_procedure, no_caller, no_arguments, alone as by_itself}
use Rattle.session_model.specs.Sessions.{Said, Session}
use Rattle.script_driver.specs.Run.{Outcome}
use Rattle.script_model.specs.declared.command.Command.{Command}
use Rattle.script_model.specs.declared.command.Command.TheVariants as command
use Rattle.script_model.specs.declared.command.Piece.{Piece}
use Rattle.world_model.specs.Agents.{hss_inputs}
use Rattle.world_model.specs.Calls.{reply_line, shown_end, shown_message, shown_miss, shown_note}
use Rattle.world_model.specs.Keepers.{fails_next}
use Rattle.world_model.specs.Logs.{Played}
use Rattle.world_model.specs.Steps.{Configuration}
use Rattle.world_model.specs.GhostState.{HadTurn}
use Rattle.world_laws.specs.Causes.{HasCause}
use Rattle.world_laws.specs.Causes.HasCause.{alone, missed as has_missed, turned, no_memory}
use Rattle.world_laws.specs.Headline.{Headline, HoldsOf, IsOnReplay}
use Rattle.world_laws.specs.Invariant.{Invariant}
use Rattle.calm_laws.specs.CalmLines.{IsServedWhereCalm}
use Rattle.calm_laws.specs.Completeness.{IsLineServed}
use Rattle.stage_laws.specs.Outputs.{RefusesItself, ShowsStatus, StatusHasCause, StatusesAreCaused, StatusesAreTold}
use Rattle.stage_laws.specs.Outputs.RefusesItself.{by_key, by_keeper}
use Rattle.stage_laws.specs.Outputs.StatusHasCause.{missed, refused}
use Rattle.stage_laws.specs.Statuses.{TurnRefuses, is_by_tree, is_of_tree}
use Rattle.stage_laws.specs.Statuses.TurnRefuses.{by_tree as of_tree, by_key as of_key, by_keeper as of_keeper}
use Rattle.stage_laws.proofs.Statuses.{turns_refuse_so}

-- ---- numbers of statuses

of_number : ℕ → NfsStatus
of_number n =
    if n == 1 then status.Perm else if n == 2 then status.NoEnt else if n == 5 then status.Io else if n == 13 then status.Acces
    else if n == 17 then status.Exist else if n == 20 then status.NotDir else if n == 21 then status.IsDir else if n == 22 then status.Inval
    else if n == 27 then status.FBig else if n == 30 then status.RoFs else if n == 31 then status.MLink else if n == 63 then status.NameTooLong
    else if n == 66 then status.NotEmpty else if n == 70 then status.Stale else if n == 10001 then status.BadHandle
    else if n == 10002 then status.NotSync else if n == 10003 then status.BadCookie else if n == 10004 then status.NotSupp
    else if n == 10005 then status.TooSmall else if n == 10006 then status.ServerFault else status.Jukebox

record IsNumbered (s : NfsStatus) : Type 0 where
  back : of_number (status_number s) ≡ s
  small : status_number s < 2 ^ 32

numbered : (s : NfsStatus) → IsNumbered s
unfolding of_number
numbered status.Perm = record { back = refl; small = omega arith }
numbered status.NoEnt = record { back = refl; small = omega arith }
numbered status.Io = record { back = refl; small = omega arith }
numbered status.Acces = record { back = refl; small = omega arith }
numbered status.Exist = record { back = refl; small = omega arith }
numbered status.NotDir = record { back = refl; small = omega arith }
numbered status.IsDir = record { back = refl; small = omega arith }
numbered status.Inval = record { back = refl; small = omega arith }
numbered status.FBig = record { back = refl; small = omega arith }
numbered status.RoFs = record { back = refl; small = omega arith }
numbered status.MLink = record { back = refl; small = omega arith }
numbered status.NameTooLong = record { back = refl; small = omega arith }
numbered status.NotEmpty = record { back = refl; small = omega arith }
numbered status.Stale = record { back = refl; small = omega arith }
numbered status.BadHandle = record { back = refl; small = omega arith }
numbered status.NotSync = record { back = refl; small = omega arith }
numbered status.BadCookie = record { back = refl; small = omega arith }
numbered status.NotSupp = record { back = refl; small = omega arith }
numbered status.TooSmall = record { back = refl; small = omega arith }
numbered status.ServerFault = record { back = refl; small = omega arith }
numbered status.Jukebox = record { back = refl; small = omega arith }

one_status : (a b : NfsStatus) → status_number a ≡ status_number b → a ≡ b
one_status a b same = sym (numbered a).back ∙ ap of_number same ∙ (numbered b).back

-- the four that no tree gives
data IsOwn : NfsStatus → Type 0 where
  io : IsOwn status.Io
  rofs : IsOwn status.RoFs
  server_fault : IsOwn status.ServerFault
  jukebox : IsOwn status.Jukebox

own_of : (s : NfsStatus) → is_of_tree s ≡ false → IsOwn s
own_of status.Io h = io
own_of status.RoFs h = rofs
own_of status.ServerFault h = server_fault
own_of status.Jukebox h = jukebox
own_of _ h = cc h

great : (s : NfsStatus) → IsOwn s → 5 ≤ status_number s
great _ io = omega arith
great _ rofs = omega arith
great _ server_fault = omega arith
great _ jukebox = omega arith

-- ---- what the text tells

byte_at : ℕ → List ℕ → ℕ
byte_at n [] = 0
byte_at zero (b ∷ bs) = b
byte_at (suc n) (b ∷ bs) = byte_at n bs

below : (bytes : List ℕ) → list_all (λ b. nat_lt b 256) bytes ≡ true → IsBytes bytes
below [] h i = omega arith
below (b ∷ bytes) h zero = ltb-true b 256 (both_true (nat_lt b 256) (list_all (λ c. nat_lt c 256) bytes) h).0
below (b ∷ bytes) h (suc i) = below bytes (both_true (nat_lt b 256) (list_all (λ c. nat_lt c 256) bytes) h).1 i

ok_is : (x : Result (List ℕ) FromHexError) (a b : List ℕ) → x ≡ Ok a → x ≡ Ok b → a ≡ b
ok_is x a b e f = cc (sym e ∙ f)

abbrev line_with : ℕ → ℕ → List ℕ → List ℕ
line_with xid n results = reply_line (rpc_reply xid (Success (word n ++ results)))

number_told : (k n x y : ℕ) (more after results rest : List ℕ) → k < 2 ^ 32 → n < 2 ^ 32 → line_with x k more ++ after ≡ line_with y n results ++ rest → k ≡ n
unfolding encode_with
number_told k n x y more after results rest f g e =
    let same : encode_lower (word k) ≡ encode_lower (word n) = ap (λ (l : List ℕ). take 8 (drop 54 l)) e in
    let words : word k ≡ word n = ok_is (decode_of (encode_lower (word k))) (word k) (word n) (decode_of-encode_lower (word k) (below (word k) (a_word k).each))
    (ap decode_of same ∙ decode_of-encode_lower (word n) (below (word n) (a_word n).each)) in
    (one_word.one k n [] [] f g (ap (λ (w : List ℕ). w ++ []) words)).0

-- a reply without results ends before its status
nothing_told : (s : NfsStatus) (x y : ℕ) (after results rest : List ℕ) → IsOwn s → reply_line (rpc_reply x (Success [])) ++ after ≡ line_with y (status_number s) results ++ rest → ⊥
unfolding encode_with byte_at
nothing_told _ x y after results rest io e = (let at : 10 ≡ 48 = ap (byte_at 54) e in omega (arith, at))
nothing_told _ x y after results rest rofs e = (let at : 10 ≡ 48 = ap (byte_at 54) e in omega (arith, at))
nothing_told _ x y after results rest server_fault e = (let at : 10 ≡ 48 = ap (byte_at 54) e in omega (arith, at))
nothing_told _ x y after results rest jukebox e = (let at : 10 ≡ 48 = ap (byte_at 54) e in omega (arith, at))

-- what results begin with
data Leads (r : Reply) : Type 0 where
  with_none : result r ≡ [] → Leads r
  with_small : (k : ℕ) (more : List ℕ) → k ≤ 2 → result r ≡ word k ++ more → Leads r
  with_status : (s : NfsStatus) (t : Tail) (more : List ℕ) → r ≡ reply.Refused s t → result r ≡ word (status_number s) ++ more → Leads r

leads : (r : Reply) → Leads r
leads reply.Nothing = with_none refl
leads (reply.Refused s t) = with_status s t _ refl refl
leads reply.NoSuchPath = with_small 2 [] (omega arith) refl
leads reply.NoMounts = with_small 0 [] (omega arith) refl
leads reply.Exports = with_small 1 _ (omega arith) refl
leads _ = with_small 0 _ (omega arith) refl

module _ (s : NfsStatus) (own : IsOwn s) (x y : ℕ) (after results rest : List ℕ) where
  status_told : (r : Reply) → reply_line (rpc_reply x (Success (result r))) ++ after ≡ line_with y (status_number s) results ++ rest → (t : Tail) × (r ≡ reply.Refused s t)
  status_told r e = by (leads r)
    where
      with_results : (bytes : List ℕ) → result r ≡ bytes → reply_line (rpc_reply x (Success bytes)) ++ after ≡ line_with y (status_number s) results ++ rest
      with_results bytes is = subst (λ (b : List ℕ). reply_line (rpc_reply x (Success b)) ++ after ≡ line_with y (status_number s) results ++ rest) is e

      by : Leads r → (t : Tail) × (r ≡ reply.Refused s t)
      by (with_none is) = absurd (nothing_told s x y after results rest own (with_results [] is))
      by (with_small k more least is) =
          let same = number_told k (status_number s) x y more after results rest (omega (arith, least)) (numbered s).small (with_results (word k ++ more) is) in
          let most = great s own in
          absurd (omega (arith, same, most, least))
      by (with_status other t more is first) =
          let same = number_told (status_number other) (status_number s) x y more after results rest (numbered other).small (numbered s).small (with_results (word (status_number other) ++ more) first) in
          (t, is ∙ ap (λ (z : NfsStatus). reply.Refused z t) (one_status other s same))

  abbrev Shows : Option (List ℕ) → Type 0
  Shows message = shown_message message ++ after ≡ line_with y (status_number s) results ++ rest

  none_told : Shows None → ⊥
  unfolding byte_at
  none_told e = (let first : 110 ≡ 114 = ap (byte_at 0) e in omega (arith, first))

  -- a call that wasn't served shows no status
  abbrev IsUnserved : RpcOutcome → Type 0
  IsUnserved (Success bytes) = ⊥
  IsUnserved _ = Unit {0}

  unserved_told : (o : RpcOutcome) → IsUnserved o → Shows (Some (rpc_reply x o)) → ⊥
  unfolding encode_with byte_at
  unserved_told (Success bytes) is e = is
  unserved_told ProgramUnavailable is e = (let at : 49 ≡ 48 = ap (byte_at 53) e in omega (arith, at))
  unserved_told (ProgramMismatch low high) is e = (let at : 50 ≡ 48 = ap (byte_at 53) e in omega (arith, at))
  unserved_told ProcedureUnavailable is e = (let at : 51 ≡ 48 = ap (byte_at 53) e in omega (arith, at))
  unserved_told GarbageArguments is e = (let at : 52 ≡ 48 = ap (byte_at 53) e in omega (arith, at))
  unserved_told SystemError is e = (let at : 53 ≡ 48 = ap (byte_at 53) e in omega (arith, at))
  unserved_told RpcMismatch is e = (let at : 49 ≡ 48 = ap (byte_at 29) e in omega (arith, at))
  unserved_told BadCredential is e = (let at : 49 ≡ 48 = ap (byte_at 29) e in omega (arith, at))

-- ---- by the message alone

mount_plain : (view : View) (args : Args) → is_by_tree (mount_answer view args) ≡ true
mount_plain view (call.Mnt path) = by (same_bytes path (47 ∷ []))
  where
    by : (b : Bool) → is_by_tree (cond b (reply.Mounted (handle_of view root_number)) reply.NoSuchPath) ≡ true
    by true = refl
    by false = refl
mount_plain view _ = refl

alone_plain : (view : View) (args : Args) (r : Reply) → alone_answer view args ≡ Some r → is_by_tree r ≡ true
alone_plain view call.Null r e = (let same : reply.Nothing ≡ r = cc e in ap is_by_tree (sym same))
alone_plain view args r e = by (program_of args == mount_program) e
  where
    by : (b : Bool) → cond b (Some (mount_answer view args)) None ≡ Some r → is_by_tree r ≡ true
    by true is = (let same : mount_answer view args ≡ r = cc is in ap is_by_tree (sym same) ∙ mount_plain view args)
    by false is = cc is

not_plain : (r : Reply) (s : NfsStatus) (t : Tail) → is_of_tree s ≡ false → r ≡ reply.Refused s t → is_by_tree r ≡ true → ⊥
not_plain r s t own is plain = cc (sym plain ∙ ap is_by_tree is ∙ own)

-- ---- causes

refusal_is : (s other : NfsStatus) (t u : Tail) → reply.Refused s t ≡ reply.Refused other u → s ≡ other
refusal_is s other t u e = cc e

module _ (h : HadTurn) (on : IsOnReplay h) where
  pub refuses : (s : NfsStatus) (t : Tail) → is_of_tree s ≡ false → h.turned.reply ≡ reply.Refused s t → RefusesItself h on s
  refuses s t own is = by (turns_refuse_so (hss_inputs h.by.agent h.view (fails_next h.by.keeper)) on.taken on.asked h.now)
    where
      answered : (turn_on (hss_inputs h.by.agent h.view (fails_next h.by.keeper)) on.taken on.asked h.now).reply ≡ reply.Refused s t
      answered = ap (λ (x : Turned). x.reply) (sym on.is_answer) ∙ is

      by : TurnRefuses (hss_inputs h.by.agent h.view (fails_next h.by.keeper)) on.taken on.asked h.now (turn_on (hss_inputs h.by.agent h.view (fails_next h.by.keeper)) on.taken on.asked h.now).reply → RefusesItself h on s
      by (of_tree plain) = absurd (not_plain _ s t own answered plain)
      by (of_key ops at spent r) = subst (RefusesItself h on) (refusal_is status.RoFs s (bare_tail on.asked.args) t (sym r ∙ answered)) (by_key ops at spent)
      by (of_keeper r failed) = subst (RefusesItself h on) (refusal_is status.ServerFault s (bare_tail on.asked.args) t (sym r ∙ answered)) (by_keeper failed)

  -- so it is neither JUKEBOX nor IO
  pub own_refusal : (s : NfsStatus) → RefusesItself h on s → (s ≡ status.RoFs) ⊎ (s ≡ status.ServerFault)
  own_refusal _ (by_key ops at spent) = inl refl
  own_refusal _ (by_keeper failed) = inr refl

  -- what is shown of it tells so
  pub turn_told : (x : ℕ) (session : Session) (s : NfsStatus) → is_of_tree s ≡ false → ShowsStatus (shown_end session (said_of x h.turned.reply)) s → RefusesItself h on s
  turn_told x session s own shows =
      let misses = shown_miss session.missed in
      let notes = flat_map shown_note session.notes in
      let told = status_told s (own_of s own) x shows.xid (misses ++ notes) shows.results shows.rest h.turned.reply (sym (append_assoc (reply_line (rpc_reply x (Success (result h.turned.reply)))) misses notes) ∙ shows.is) in
      refuses s told.0 own told.1

module _ (s : NfsStatus) (own : is_of_tree s ≡ false) (y : ℕ) (after results rest : List ℕ) where
  -- what a message alone is answered has no such status
  by_message_told : (view : View) (message : List ℕ) (given : Option (List ℕ)) → IsByMessage view message given → shown_message given ++ after ≡ line_with y (status_number s) results ++ rest → ⊥
  by_message_told view message _ (no_call none neither) e = none_told s (own_of s own) 0 y after results rest e
  by_message_told view message _ (other_version xid is) e = unserved_told s (own_of s own) xid y after results rest RpcMismatch tt e
  by_message_told view message _ (no_program c is none) e = unserved_told s (own_of s own) c.xid y after results rest ProgramUnavailable tt e
  by_message_told view message _ (no_version c count is program other) e = unserved_told s (own_of s own) c.xid y after results rest (ProgramMismatch 3 3) tt e
  by_message_told view message _ (no_procedure c count is program version many) e = unserved_told s (own_of s own) c.xid y after results rest ProcedureUnavailable tt e
  by_message_told view message _ (no_caller c is served none) e = unserved_told s (own_of s own) c.xid y after results rest BadCredential tt e
  by_message_told view message _ (no_arguments c who is served caller garbage) e = unserved_told s (own_of s own) c.xid y after results rest GarbageArguments tt e
  by_message_told view message _ (by_itself c who args r is served caller are answers) e =
      let told = status_told s (own_of s own) c.xid y after results rest r e in
      not_plain r s told.0 own told.1 (alone_plain view args r answers)

  cause_told : (next : Played) (end : Configuration) (said : Said) → HasCause next.1 end.began.number end.session said → shown_message said.message ++ after ≡ line_with y (status_number s) results ++ rest → StatusHasCause next end s
  cause_told next end _ (alone given is) e = absurd (by_message_told end.session.standing.view end.session.message given is e)
  cause_told next end _ (has_missed xid asked given miss asks refreshed is) e =
      let told = status_told s (own_of s own) xid y after results rest (missed_reply asked miss) e in
      missed miss is (sym (refusal_is (missed_status miss) s (bare_tail asked.args) told.0 told.1))
  cause_told next end _ (turned h xid asked given among of asks refreshed) e =
      let told = status_told s (own_of s own) xid y after results rest h.turned.reply e in
      refused h told.0 among of told.1 (λ on. refuses h on s told.0 own told.1)
  cause_told next end _ (no_memory xid asked asks) e = absurd (unserved_told s (own_of s own) xid y after results rest SystemError tt e)

-- ---- the laws

statuses_are_caused : (w : Played) (c : Command) (next : Played) (output : List ℕ) → StatusesAreCaused w c next output
statuses_are_caused w c next output caused s own shows =
    let notes = flat_map shown_note caused.end.session.notes in
    let misses = shown_miss caused.end.session.missed in
    cause_told s own shows.xid (misses ++ notes) shows.results shows.rest next caused.end caused.said caused.cause
    (sym (append_assoc (shown_message caused.said.message) misses notes) ∙ sym caused.shown ∙ shows.is)

-- a whole call that misses nothing, and before whose turn no names of what was met collide
module _ (w : Played) (keeps : Invariant w) (name : List ℕ) (pieces : List Piece) (next : Played) (output : List ℕ) (holds : HoldsOf w (command.As name pieces) next output) (served : IsLineServed w (command.As name pieces) next output) where
  not_old : (h : HadTurn) → h.began.number ≡ served.caused.end.began.number → Contains w.1.turns h → ⊥
  not_old h same earlier =
      let before = each (λ (x : HadTurn). x.began.number < w.1.begun) w.1.turns h keeps.numbers.turns earlier in
      let now = served.caused.asked_by.0 in
      omega (arith, before, same, now)

  on_replay : (h : HadTurn) → h.began.number ≡ served.caused.end.began.number → Contains next.1.turns h → IsOnReplay h
  on_replay h same among = ⊎_elim
      (λ earlier. absurd (not_old h same earlier))
      (λ new. ⊎_elim (λ earlier. absurd (not_old h same earlier)) (λ apart. holds.turns h new apart) (served.apart h among))
      (Contains-append_cases w.1.turns holds.more h (subst (λ (l : List HadTurn). Contains l h) holds.new among))

  not_missed : (s : NfsStatus) → is_of_tree s ≡ false → (s ≢ status.RoFs) → (s ≢ status.ServerFault) → ShowsStatus output s → ⊥
  not_missed s own no_rofs no_fault shows = by (statuses_are_caused w (command.As name pieces) next output served.caused s own shows)
    where
      by : StatusHasCause next served.caused.end s → ⊥
      by (missed miss is same) = cc (sym served.missed_nothing ∙ is)
      by (refused h tail among of is refuses_so) =
          let on = on_replay h of.number_is among in
          ⊎_elim (λ rofs. no_rofs rofs) (λ fault. no_fault fault) (own_refusal h on s (refuses_so on))

pub statuses_are_told : (w : Played) (line : List ℕ) (outcome : Outcome Played) → Invariant w → Headline w line outcome → IsServedWhereCalm w line outcome → StatusesAreTold w line outcome
statuses_are_told w line outcome keeps headline calm = record {
  causes = λ c next output is goes. statuses_are_caused w c next output;
  calm = λ r count lines name pieces next output reached is goes.
      let holds = headline (command.As name pieces) next output is goes in
      let served = (calm.served r count lines reached).served name pieces next output is goes in (
        not_missed w keeps name pieces next output holds served status.Jukebox refl (λ e. cc e) (λ e. cc e),
        not_missed w keeps name pieces next output holds served status.Io refl (λ e. cc e) (λ e. cc e),
      );
}
