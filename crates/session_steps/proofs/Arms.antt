-- Each arm of a step: whichever configuration was represented, it is a step of it, and less is left.
use Rattle.std.proofs.Common.{◌≡◌, ◌<◌, ◌≤◌, ◌+◌, ℕ, List, Option, Some, None, Result, Ok, Err, refl, ap, ◌∙◌, arith}
use Rattle.std.specs.Prelude.{OnOk, is_some, if◌then◌else◌}
use Rattle.dht_ids.specs.declared.ask.Ask.{Ask}
use Rattle.dht_ids.specs.declared.peer.Peer.{Peer}
use Rattle.dht_ids.specs.declared.post.Ack.{Ack}
use Rattle.agent_model.specs.Others.{settled}
use Rattle.log_fetch.specs.declared.refresh.Refresh.{Refresh}
use Rattle.ivy_session.specs.declared.served.Served.{Served}
use Rattle.ivy_session.specs.declared.session.Next.TheVariants as next
use Rattle.ivy_session.specs.Left.{session_left}
use Rattle.ring_nodes.specs.NodesState.{NodesState}
use Rattle.session_steps.specs.MetState.{MetState}
use Rattle.script_participants.specs.ParticipantState.{ParticipantState}
use Rattle.session_steps.specs.Representing.{CallState, Shown, shown}
use Rattle.session_steps.specs.Within.{HasAskedOf, HasNext, HasTurned, IsArm, Laws, left_to}
use Rattle.session_steps.proofs.Asks.{asks_step}
use Rattle.session_steps.proofs.Turns.{turns_step}
use Rattle.session_steps.proofs.Ends.{done_step, settles_step}

-- ---- what is left

fewer : (a b x y : ℕ) → a ≡ 1 + x → b ≡ 1 + y → x < y → a < b
fewer a b x y e f less = omega (arith, e, f, less)

none_left : (a b y : ℕ) → a ≡ 0 → b ≡ 1 + y → a < b
none_left a b y e f = omega (arith, e, f)

below : (a b c : ℕ) → a < b → b ≤ c → a < c
below a b c less most = omega (arith, less, most)

left_untold : (call : CallState) → call.told ≡ None → left_to call ≡ 1 + session_left call.session
left_untold call none = ap (λ (o : Option Served). if is_some o then 0 else 1 + session_left call.session) none

falls : (old new : CallState) → old.told ≡ None → new.told ≡ None → session_left new.session < session_left old.session → left_to new < left_to old
falls old new before later less = fewer (left_to new) (left_to old) (session_left new.session) (session_left old.session) (left_untold new later) (left_untold old before) less

-- ---- the arms

module _ (laws : Laws) (old : Shown) (none : old.call.told ≡ None) (mid : CallState) (between : ParticipantState) where
  told_none : mid ≡ record old.call { session = mid.session } → mid.told ≡ None
  told_none same = ap (λ (call : CallState). call.told) same ∙ none

  pub asks_arm : (node : Peer) (question : Ask) (new : CallState) (later : NodesState) (after : ParticipantState) → HasNext old.call mid old.who between (next.Ask node question) → HasAskedOf node question mid new old.nodes later between after
      → IsArm old (shown new later after old.met old.now)
  asks_arm node question new later after h asked = record {
    steps = λ whole c r way shows. asks_step c r old way shows none mid between laws new after later node question h asked whole;
    less = falls old.call new none (ap (λ (call : CallState). call.told) asked.heard.call ∙ told_none h.call)
        (below (session_left new.session) (session_left mid.session) (session_left old.call.session) asked.heard.less h.left);
  }

  pub turns_arm : (refresh : Refresh) (new : CallState) (after : ParticipantState) (later : MetState) → HasNext old.call mid old.who between (next.Turn refresh) → HasTurned refresh old.now mid new between after old.met later
      → IsArm old (shown new old.nodes after later old.now)
  turns_arm refresh new after later h turned = record {
    steps = λ whole c r way shows. turns_step c r old way shows none mid between laws refresh h new after later turned whole;
    less = falls old.call new none (turned.is_told.told ∙ told_none h.call)
        (below (session_left new.session) (session_left mid.session) (session_left old.call.session) turned.is_told.less h.left);
  }

  pub settles_arm : (acks : List Ack) (after : ParticipantState) → HasNext old.call mid old.who between (next.Settle acks) → after ≡ record between { agent = settled between.agent acks } → IsArm old (shown mid old.nodes after old.met old.now)
  settles_arm acks after h dropped = record {
    steps = λ whole c r way shows. settles_step c r old way shows none mid between laws acks after h dropped whole;
    less = falls old.call mid none (told_none h.call) h.left;
  }

  pub done_arm : (told : Served) → HasNext old.call mid old.who between (next.Done told) → IsArm old (shown (record mid { told = Some told }) old.nodes between old.met old.now)
  done_arm told h = record {
    steps = λ whole c r way shows. done_step c r old way shows none mid between laws told h whole;
    less = none_left (left_to (record mid { told = Some told })) (left_to old.call) (session_left old.call.session) refl (left_untold old.call none);
  }

pub on_ok : {T E A B : Type 0} (r : Result T E) → (A → B) → OnOk r A → OnOk r B
on_ok (Ok value) f given = f given
on_ok (Err fault) f given = tt
