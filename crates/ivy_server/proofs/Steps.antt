-- Whatever a session in code wants next, what its call may ask for, and that it is a step.
use Rattle.std.proofs.Common.{◌≡◌, false, List, Option, None, refl, sym, ◌∙◌}
use Rattle.dht_ids.specs.Asked.{IsForData}
use Rattle.dht_ids.specs.declared.ask.Ask.{Ask}
use Rattle.dht_ids.specs.declared.ask.Heard.{Heard}
use Rattle.dht_ids.specs.declared.peer.Peer.{Peer}
use Rattle.dht_ids.specs.declared.post.Ack.{Ack}
use Rattle.log_fetch.specs.declared.refresh.Refresh.{Refresh}
use Rattle.ivy_session.specs.declared.served.Served.{Served}
use Rattle.ivy_session.specs.declared.session.Next.{Next}
use Rattle.ivy_session.specs.declared.session.Next.TheVariants as next
use Rattle.ivy_session.specs.Cutting.{IsCutAsWanted}
use Rattle.ivy_session.specs.States.{is_turning, session_awaited}
use Rattle.ivy_session.specs.Stepping.{IsNext}
use Rattle.ivy_session.proofs.Hearing.{asks_for_data}
use Rattle.server_model.specs.Driving.{Driven}
use Rattle.ivy_server.specs.Passes.{GivesSettling}
use Rattle.ivy_server.specs.Sessions.{GoesOn, HasHadTurn, HasHeardOf, Held, IsDriven, IsOver, IsInProgress, MayTurn, Place, Setting, Touched, judges}
use Rattle.ivy_server.proofs.Asks.{Asks, ask_goes, asks_then, wants}
use Rattle.ivy_server.proofs.Ends.{done_is_over, settle_goes}
use Rattle.ivy_server.proofs.Turns.{may_turn, turn_goes, turns_then}
use Rattle.ivy_server.proofs.Whole.{more_is_whole}

-- what is wanted next by the code
abbrev pub Wants : Held → Held → Next → Type 0
Wants old mid wanted = IsNext judges old.session mid.session old.cache mid.cache wanted

module _ (place : Place) (old : Held) (in_progress : IsInProgress place old) (mid : Held) where
  asking : (node : Peer) (question : Ask) → Wants old mid (next.Ask node question) → Asks place in_progress.0 old in_progress.1 mid node question
  asking node question wanted = asks_then place in_progress.0 old in_progress.1 mid node question (wants place in_progress.0 old in_progress.1 mid (next.Ask node question) wanted)

  pub ask_is_awaited : (node : Peer) (question : Ask) → Wants old mid (next.Ask node question) → session_awaited mid.session ≡ None → ⊥
  ask_is_awaited node question wanted nobody = cc (sym (asking node question wanted).awaited ∙ nobody)

  pub ask_is_for_data : (node : Peer) (question : Ask) → Wants old mid (next.Ask node question) → IsForData question
  ask_is_for_data node question wanted = asks_for_data (asking node question wanted).asks

  pub turn_may_be : (refresh : Refresh) → Wants old mid (next.Turn refresh) → MayTurn place.view refresh mid.session
  turn_may_be refresh wanted = may_turn place in_progress.0 old in_progress.1 mid refresh (turns_then place in_progress.0 old in_progress.1 mid refresh (wants place in_progress.0 old in_progress.1 mid (next.Turn refresh) wanted))

module _ {P K S C : Type 0} (setting : Setting P K S C) (old mid new : Held) where
  pub ask_steps : (before : Touched P C) (later : Option (List Heard)) (node : Peer) (question : Ask) → Wants old mid (next.Ask node question) → IsCutAsWanted old.session mid.session (next.Ask node question) → HasHeardOf (node, question) mid new before.marks.trail later → is_turning new.session.stage ≡ false
      → (here : Driven) → IsDriven setting.place here old → GoesOn setting here new before (record before { marks = record before.marks { trail = later } })
  ask_steps before later node question wanted cut heard past here is =
      ask_goes setting here old mid new is node question wanted.0 (more_is_whole old.session mid.session (next.Ask node question) cut refl ∙ is.cut) (asks_then setting.place here old is mid node question (wants setting.place here old is mid (next.Ask node question) wanted)) heard.heard.0 past before later heard

  pub turn_steps : (before after : Touched P C) (refresh : Refresh) → Wants old mid (next.Turn refresh) → IsCutAsWanted old.session mid.session (next.Turn refresh) → new.cache ≡ mid.cache → HasHadTurn setting refresh mid.session new.session before after → is_turning new.session.stage ≡ false
      → (here : Driven) → IsDriven setting.place here old → GoesOn setting here new before after
  turn_steps before after refresh wanted cut stays had past here is =
      turn_goes setting here old mid new is refresh wanted.0 (more_is_whole old.session mid.session (next.Turn refresh) cut refl ∙ is.cut) (turns_then setting.place here old is mid refresh (wants setting.place here old is mid (next.Turn refresh) wanted)) stays before after had past

  pub settle_steps : (before after : Touched P C) (acks : List Ack) → Wants old new (next.Settle acks) → IsCutAsWanted old.session new.session (next.Settle acks) → GivesSettling setting.by before.pass acks after.pass → after.marks ≡ before.marks
      → (here : Driven) → IsDriven setting.place here old → GoesOn setting here new before after
  settle_steps before after acks wanted cut gives marks here is = settle_goes setting here old is acks new before after wanted.0 cut (wants setting.place here old is new (next.Settle acks) wanted) gives marks

  pub done_steps : (before : Touched P C) (served : Served) → Wants old new (next.Done served) → IsCutAsWanted old.session new.session (next.Done served) → (here : Driven) → IsDriven setting.place here old → IsOver setting here new served × (before ≡ before)
  done_steps before served wanted cut here is = (done_is_over setting here old is served new cut (wants setting.place here old is new (next.Done served) wanted), refl)
