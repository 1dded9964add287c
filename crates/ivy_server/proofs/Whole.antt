-- Where a session in code isn't cut: its flag stays but at the steps that cut it.
use Rattle.std.proofs.Common.{◌≡◌, ◌⊎◌, ⊎_elim, inl, inr, ℕ, Bool, true, false, List, ◌∷◌, Option, Result, refl, sym, ap, ◌∙◌}
use Rattle.std.proofs.lemmas.Bool.{and_left, and_right}
use Rattle.std.specs.Prelude.{◌||◌, is_ok}
use Rattle.ivy_base.specs.declared.key.Key.{Key}
use Rattle.dht_ids.specs.declared.ask.Answer.{Answer}
use Rattle.dht_ids.specs.declared.ask.Ask.{Ask}
use Rattle.dht_ids.specs.declared.judge.Judged.{Judged}
use Rattle.dht_ids.specs.declared.peer.Peer.{Peer}
use Rattle.dht_ids.specs.declared.post.Ack.{Ack}
use Rattle.dht_ids.specs.declared.post.Post.{Post}
use Rattle.dhash_client.specs.GetHead.{Judges}
use Rattle.session_model.specs.Executions.{Fails, LacksMemory}
use Rattle.session_model.specs.Executions.Fails.{fails, goes_on}
use Rattle.session_model.specs.Executions.LacksMemory.{lacks}
use Rattle.session_model.specs.Sessions.{Cache, Hears, Over, Publishing, Refreshing, Said, Session, Stage, acknowledged, after_put}
use Rattle.session_model.specs.Sessions.Hears.{gets_on, got, puts_on, puts}
use Rattle.log_fetch.specs.declared.turned.Turned.{Turned}
use Rattle.log_fetch.specs.declared.turned.TurnFault.{TurnFault}
use Rattle.ivy_session.specs.Cutting.{IsCutAsHeard, IsCutAsTurned, IsCutAsWanted, is_done, is_over}
use Rattle.ivy_session.specs.InPlace.{is_publishing}
use Rattle.ivy_session.specs.States.{IsAt, IsSession, SessionState}
use Rattle.ivy_session.specs.declared.session.Next.{Next}
use Rattle.ivy_session.specs.declared.session.Stage.{Stage as CodeStage}
use Rattle.ivy_session.specs.declared.session.Stage.TheVariants as stage

-- ---- flags

flag_stays : (before after flag : Bool) → after ≡ (before || flag) → flag ≡ false → after ≡ before
flag_stays before after flag is down = is ∙ ap (λ (b : Bool). before || b) down ∙ nothing before
  where
    nothing : (a : Bool) → (a || false) ≡ a
    nothing true = refl
    nothing false = refl

-- ---- stages

publishing_or_refreshing : (said : Option Said) (posts : List Post) (acks : List Ack) → Publishing said posts acks ≡ Refreshing → ⊥
publishing_or_refreshing said posts acks e = cc e

publishing_or_over : (first said : Option Said) (posts : List Post) (acks : List Ack) → Publishing first posts acks ≡ Over said → ⊥
publishing_or_over first said posts acks e = cc e

-- it publishes
abbrev pub Publishes : Stage → Type 0
Publishes at = (said : Option Said) × (posts : List Post) × (acks : List Ack) × (at ≡ Publishing said posts acks)

module _ {J : Type 0} (judges : Judges J) (s : Session) (st : SessionState J) where
  refreshing_at : s.stage ≡ Refreshing → (at : CodeStage J) → IsAt judges s st at → is_publishing at ≡ false
  refreshing_at is (stage.Refreshing c f) h = refl
  refreshing_at is (stage.Turning c) h = refl
  refreshing_at is (stage.Publishing told p) h = absurd (publishing_or_refreshing _ _ _ (sym h.stage ∙ is))
  refreshing_at is (stage.Over told) h = refl
  refreshing_at is stage.Told h = refl

  over_at : (said : Option Said) → s.stage ≡ Over said → (at : CodeStage J) → IsAt judges s st at → is_publishing at ≡ false
  over_at said is (stage.Refreshing c f) h = refl
  over_at said is (stage.Turning c) h = refl
  over_at said is (stage.Publishing told p) h = absurd (publishing_or_over _ said _ _ (sym h.stage ∙ is))
  over_at said is (stage.Over told) h = refl
  over_at said is stage.Told h = refl

  publishing_at : Publishes s.stage → (at : CodeStage J) → IsAt judges s st at → is_over at ≡ false
  publishing_at is (stage.Refreshing c f) h = refl
  publishing_at is (stage.Turning c) h = refl
  publishing_at is (stage.Publishing told p) h = refl
  publishing_at is (stage.Over told) h = absurd (publishing_or_over is.0 h.said is.1 is.2 (sym is.3 ∙ h.stage))
  publishing_at is stage.Told h = refl

-- ---- what is wanted

module _ {J : Type 0} (old new : SessionState J) (wanted : Next) (cut : IsCutAsWanted old new wanted) where
  -- more is wanted
  pub more_is_whole : is_done wanted ≡ false → new.is_cut ≡ old.is_cut
  more_is_whole more = flag_stays old.is_cut new.is_cut _ cut (and_right (is_publishing old.stage) (is_done wanted) more)

  -- it was over
  pub over_is_whole : (judges : Judges J) (s : Session) (said : Option Said) → IsSession judges s old → s.stage ≡ Over said → new.is_cut ≡ old.is_cut
  over_is_whole judges s said session is = flag_stays old.is_cut new.is_cut _ cut (and_left (is_publishing old.stage) (is_done wanted) (over_at judges s old said is old.stage session.at))

  -- it refreshed
  pub refreshing_is_whole : (judges : Judges J) (s : Session) → IsSession judges s old → s.stage ≡ Refreshing → new.is_cut ≡ old.is_cut
  refreshing_is_whole judges s session is = flag_stays old.is_cut new.is_cut _ cut (and_left (is_publishing old.stage) (is_done wanted) (refreshing_at judges s old is old.stage session.at))

-- memory ran out in a refresh
pub lacking_refreshed : {s t : Session} → LacksMemory s t → s.stage ≡ Refreshing
lacking_refreshed (lacks notes shown given end xid asked at refreshed asks rest front) = at

-- ---- what is heard

put_publishes : (said : Option Said) (p : Post) (posts : List Post) (acks : List Ack) (held : Bool) → Publishes (after_put said p posts acks held)
put_publishes said p posts acks true = (said, _, _, refl)
put_publishes said p posts acks false = (said, _, _, refl)

-- a session that hears refreshed, or publishes still
hearing_at : {judged : Key → List ℕ → Option Judged} {r : ℕ} {s heard : Session} {cache after : Cache} {node : Peer} {question : Ask} {given : Answer} → Hears judged r s cache node question given heard after
    → (s.stage ≡ Refreshing) ⊎ Publishes heard.stage
hearing_at (gets_on want wants next part) = inl wants.0
hearing_at (got want brought wants next whole) = inl wants.0
hearing_at (puts_on said p posts acks at next part) = inr (said, p ∷ posts, acks, at)
hearing_at (puts said p posts acks came at next whole) = inr (put_publishes said p posts acks (acknowledged came))

publishes_on : {heard t : Session} → Fails heard t → Publishes heard.stage → Publishes t.stage
publishes_on (fails notes given miss xid asked is refreshes asks) at = absurd (publishing_or_refreshing at.0 at.1 at.2 (sym at.3 ∙ is))
publishes_on (goes_on not) at = at

module _ {J : Type 0} (judges : Judges J) (s : Session) (old new : SessionState J) (session : IsSession judges s old) (cut : IsCutAsHeard old new) where
  get_is_whole : s.stage ≡ Refreshing → new.is_cut ≡ old.is_cut
  get_is_whole is = flag_stays old.is_cut new.is_cut _ cut (and_left (is_publishing old.stage) (is_over new.stage) (refreshing_at judges s old is old.stage session.at))

  put_is_whole : (t : Session) → IsSession judges t new → Publishes t.stage → new.is_cut ≡ old.is_cut
  put_is_whole t is at = flag_stays old.is_cut new.is_cut _ cut (and_right (is_publishing old.stage) (is_over new.stage) (publishing_at judges t new at new.stage is.at))

  -- it has heard the answer
  pub heard_is_whole : {judged : Key → List ℕ → Option Judged} {r : ℕ} {heard : Session} {cache after : Cache} {node : Peer} {question : Ask} {given : Answer} → Hears judged r s cache node question given heard after
      → (t : Session) → Fails heard t → IsSession judges t new → new.is_cut ≡ old.is_cut
  heard_is_whole hearing t goes is = ⊎_elim (λ at. get_is_whole at) (λ at. put_is_whole t is (publishes_on goes at)) (hearing_at hearing)

  -- memory ran out for it in a refresh
  pub lacking_is_whole : {t : Session} → LacksMemory s t → new.is_cut ≡ old.is_cut
  lacking_is_whole lacking = get_is_whole (lacking_refreshed lacking)

-- ---- what came of its turn

module _ {J : Type 0} (old new : SessionState J) (turned : Result Turned TurnFault) (cut : IsCutAsTurned old new turned) where
  -- it publishes
  pub answered_is_whole : (judges : Judges J) (t : Session) → IsSession judges t new → Publishes t.stage → new.is_cut ≡ old.is_cut
  answered_is_whole judges t is at = flag_stays old.is_cut new.is_cut _ cut (and_right (is_ok turned) (is_over new.stage) (publishing_at judges t new at new.stage is.at))

  -- it was refused, or memory ran out
  pub refused_is_whole : is_ok turned ≡ false → new.is_cut ≡ old.is_cut
  refused_is_whole refused = flag_stays old.is_cut new.is_cut _ cut (and_left (is_ok turned) (is_over new.stage) refused)
