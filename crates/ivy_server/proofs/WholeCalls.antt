-- Whole calls end a link with Done, where nothing fails.
use Rattle.std.proofs.Common.{◌≡◌, ◌⊎◌, ⊎_elim, inl, inr, ℕ, false, List, [], ◌∷◌, ◌++◌, map, Option, Some, None, refl, sym, ap, ◌∙◌, subst}
use Rattle.std.specs.List.{AllByRecursion, flat_map}
use Rattle.std.proofs.lemmas.List.{append_assoc, append-nil}
use Rattle.ivy_io.specs.Causes.{Rose}
use Rattle.ivy_io.specs.Known.{IsAtEnd, onto}
use Rattle.rpc_wire.proofs.FrameLemmas.{not_both, one_marked, one_split}
use Rattle.rpc_wire.proofs.FrameRuns.{whole_are_split}
use Rattle.rpc_wire.specs.Frames.{Fits, Framed, IsOver, IsSplit, IsTooLong, fragment, header, marked, message as bytes_in}
use Rattle.agent_model.specs.Standing.{Standing}
use Rattle.dht_ids.specs.declared.peer.Peer.{Peer}
use Rattle.session_model.specs.Executions.{Begins as BeginsSession}
use Rattle.session_model.specs.Executions.Begins.{alone, refreshes}
use Rattle.session_model.specs.Replies.{IsByMessage, said_bare, said_no_memory, said_of}
use Rattle.session_model.specs.Replies.IsByMessage.{no_call, other_version, no_program, no_version, no_procedure, no_caller, no_arguments, alone as answered_alone}
use Rattle.session_model.specs.Sessions.{Said, Session}
use Rattle.log_model.specs.View.{View}
use Rattle.server_model.specs.Acts.{Act}
use Rattle.server_model.specs.Links.{Execution, HasRead, Link}
use Rattle.server_model.specs.Links.Link.{done, cut, too_long, not_a_call, read_fault, write_fault, unwritten, was_cut, stopped}
use Rattle.server_model.specs.Serving.{Answer, Between, Serves}
use Rattle.server_model.specs.Serving.Serves.{serves}
use Rattle.server_model.specs.Takers.{Ring, Taker}
use Rattle.server_model.specs.declared.ended.Ended.{Ended}
use Rattle.server_model.specs.declared.ended.Ended.TheVariants as ended
use Rattle.ivy_server.specs.Laws.{IsAnyCall, WholeCallsAreDone}
use Rattle.ivy_server.specs.Served.{HasEndCause, Surroundings}
use Rattle.ivy_server.proofs.Messages.{Says, went_says}
use Rattle.ivy_server.proofs.Streams.{not_empty}

-- ---- what is no call has no reply, and nothing else

-- it has a message, or is said of what is no call
abbrev IsFor : List ℕ → Option Said → Type 0
IsFor message o = (said : Said) × (o ≡ Some said) × (said.message ≡ None → IsAnyCall message → ⊥)

some_message : (m : List ℕ) → Some m ≡ None → ⊥
some_message m e = cc e

by_message_for : (view : View) (message : List ℕ) (given : Option (List ℕ)) → IsByMessage view message given → given ≡ None → IsAnyCall message → ⊥
by_message_for view message _ (no_call none other) e call = ⊎_elim (λ c. none c.0 c.1) (λ o. other o.0 o.1) call
by_message_for view message _ (other_version xid is) e call = cc e
by_message_for view message _ (no_program c is none) e call = cc e
by_message_for view message _ (no_version c count is program not) e call = cc e
by_message_for view message _ (no_procedure c count is program version few) e call = cc e
by_message_for view message _ (no_caller c is served none) e call = cc e
by_message_for view message _ (no_arguments c who is served caller none) e call = cc e
by_message_for view message _ (answered_alone c who args r is served caller fits given) e call = cc e

begins_for : (message : List ℕ) (entries : List Peer) (standing : Standing) (s : Session) → BeginsSession [] message entries standing s → Says (IsFor message) s.stage
begins_for message entries standing _ (alone given by_message) = (said_bare given, refl, by_message_for standing.view message given by_message)
begins_for message entries standing _ (refreshes xid asked is_asked) = tt

same_said : (a b : Said) → Some a ≡ Some b → a ≡ b
same_said a b e = cc e

module _ {P : Type 0} (taker : Taker P) (ring : Ring) where
  no_reply_no_call : (before after : Between P) (message : List ℕ) (acts : List Act) (answer : Answer) → Serves taker ring before message acts answer after → answer.reply ≡ None → IsAnyCall message → ⊥
  no_reply_no_call before _ message _ _ (serves standing began after s last acts said stands begins way over follows) none call =
      let h : IsFor message (Some said) = subst (Says (IsFor message)) over
      (went_says (IsFor message) (λ xid reply. (said_of xid reply, refl, λ e. absurd (some_message _ e))) (λ xid. (said_no_memory xid, refl, λ e. absurd (some_message _ e))) ring way
      (begins_for message ring.entries standing s begins)) in
      h.2 (ap (λ (x : Said). x.message) (sym (same_said said h.0 h.1)) ∙ none) call

-- ---- bytes of whole messages

-- the messages with which they begin are of them
among : (Q : List ℕ → Type 0) (framed front : List Framed) (rest : List ℕ) → AllByRecursion Fits framed → AllByRecursion Fits front → flat_map marked framed ≡ flat_map marked front ++ rest → AllByRecursion (λ f. Q (bytes_in f)) framed
    → AllByRecursion (λ f. Q (bytes_in f)) front
among Q framed [] rest fit fits same all = tt
among Q [] (f ∷ front) rest fit fits same all = absurd (not_empty f (flat_map marked front) rest (sym same))
among Q (g ∷ framed) (f ∷ front) rest fit fits same all =
    let one = one_marked.one g f (flat_map marked framed) (flat_map marked front ++ rest) fit.0 fits.0 (same ∙ append_assoc (marked f) (flat_map marked front) rest) in
    (subst (λ (x : Framed). Q (bytes_in x)) one.0 all.0, among Q framed front rest fit.1 fits.1 one.1 all.1)

last_of : (Q : List ℕ → Type 0) (front : List Framed) (messages : List (List ℕ)) (message : List ℕ) → messages ++ message ∷ [] ≡ map bytes_in front → AllByRecursion (λ f. Q (bytes_in f)) front → Q message
last_of Q [] [] message e all = cc e
last_of Q [] (m ∷ messages) message e all = cc e
last_of Q (f ∷ front) [] message e all = subst Q (sym (head_is message (bytes_in f) [] (map bytes_in front) e)) all.0
  where
    head_is : (a b : List ℕ) (x y : List (List ℕ)) → a ∷ x ≡ b ∷ y → a ≡ b
    head_is a b x y e = cc e
last_of Q (f ∷ front) (m ∷ messages) message e all = last_of Q front messages message (tail_is m (bytes_in f) (messages ++ message ∷ []) (map bytes_in front) e) all.1
  where
    tail_is : (a b : List ℕ) (x y : List (List ℕ)) → a ∷ x ≡ b ∷ y → x ≡ y
    tail_is a b x y e = cc e

-- ---- more bytes after

longer_over : (bytes more : List ℕ) → IsOver bytes → IsOver (bytes ++ more)
longer_over bytes more o = record {
  earlier = o.earlier;
  last = o.last;
  size = o.size;
  more = o.more ++ more;
  short = o.short;
  word_fits = o.word_fits;
  over = o.over;
  spelled = ap (λ l. l ++ more) o.spelled ∙ append_assoc (flat_map (fragment false) o.earlier) (header o.last o.size ++ o.more) more
      ∙ ap (λ l. flat_map (fragment false) o.earlier ++ l) (append_assoc (header o.last o.size) o.more more);
}

longer_too_long : (bytes more : List ℕ) (messages : List (List ℕ)) → IsTooLong bytes messages → IsTooLong (bytes ++ more) messages
longer_too_long bytes more messages t = record {
  rest = t.rest ++ more;
  begins = record { framed = t.begins.framed; fit = t.begins.fit; are = t.begins.are; spelled = ap (λ l. l ++ more) t.begins.spelled ∙ append_assoc (flat_map marked t.begins.framed) t.rest more };
  over = longer_over t.rest more t.over;
}

-- of what was known, this is left
left_known : (all read : List ℕ) (left : Option (List ℕ)) → Some all ≡ onto read left → (more : List ℕ) × (all ≡ read ++ more) × (left ≡ Some more)
left_known all read None e = cc e
left_known all read (Some more) e = (more, same all (read ++ more) e, refl)
  where
    same : (a b : List ℕ) → Some a ≡ Some b → a ≡ b
    same a b e = cc e

none_left : (more : List ℕ) (left : Option (List ℕ)) → left ≡ Some more → IsAtEnd left → more ≡ []
none_left more left is at_end = subst IsAtEnd is at_end

-- ---- the law

module _ {P C : Type 0} (taker : Taker P) (ring : Ring) (framed : List Framed) (fit : AllByRecursion Fits framed) (calls : AllByRecursion (λ f. IsAnyCall (bytes_in f)) framed) (p : P) (before after : Surroundings P C)
    (known : before.left ≡ Some (flat_map marked framed)) (no_reads : Rose before.reads after.reads → ⊥) (no_writes : Rose before.writes after.writes → ⊥) where
  abbrev all : List ℕ
  all = flat_map marked framed

  whole : IsSplit all (map bytes_in framed) []
  whole = whole_are_split framed fit

  is_call : (read more : List ℕ) (messages : List (List ℕ)) (message : List ℕ) → all ≡ read ++ more → HasRead read (messages ++ message ∷ []) → IsAnyCall message
  is_call read more messages message is h =
      last_of IsAnyCall h.1.framed messages message h.1.are
      (among IsAnyCall framed h.1.framed (h.0 ++ more) fit h.1.fit (is ∙ ap (λ l. l ++ more) h.1.spelled ∙ append_assoc (flat_map marked h.1.framed) h.0 more) calls)

  by_link : {execution : Execution} {how : Ended} {q : P} → Link taker ring p execution how q → before.left ≡ onto execution.read after.left → HasEndCause how before after → (how ≡ ended.Done) ⊎ (how ≡ ended.Memory)
  by_link (done split served) left cause = inl refl
  by_link (cut {read = read} {messages = messages} rest some split served) left cause =
      let k = left_known all read after.left (sym known ∙ left) in
      let is : all ≡ read = k.1 ∙ ap (λ l. read ++ l) (none_left k.0 after.left k.2 cause) ∙ append-nil read in
      absurd (some (one_split all messages (map bytes_in framed) rest [] (subst (λ (l : List ℕ). IsSplit l messages rest) (sym is) split) whole).1)
  by_link (too_long {read = read} {messages = messages} over served) left cause =
      let k = left_known all read after.left (sym known ∙ left) in
      absurd (not_both all (map bytes_in framed) messages [] whole (subst (λ (l : List ℕ). IsTooLong l messages) (sym k.1) (longer_too_long read k.0 messages over)))
  by_link (not_a_call {read = read} is_cut next) left cause =
      let k = left_known all read after.left (sym known ∙ left) in
      absurd (no_reply_no_call taker ring next.before next.after next.message next.next _ next.serves refl (is_call read k.0 next.messages next.message k.1 next.in_order))
  by_link (read_fault rest split served) left cause = absurd (no_reads cause)
  by_link (write_fault reply is_cut count next less) left cause = absurd (no_writes cause)
  by_link (unwritten reply is_cut count next less) left cause = inr refl
  by_link (was_cut reply next) left cause = inr refl
  by_link (stopped rest more begins served looked) left cause = inr refl

pub whole_calls_are_done : {P C : Type 0} (taker : Taker P) (gives : C → ℕ × ℕ → C → Type 0) → WholeCallsAreDone taker gives
whole_calls_are_done taker gives ring framed before after how fit calls known served no_reads no_writes =
    by_link taker ring framed fit calls before.pass before after known no_reads no_writes served.link served.left served.cause
