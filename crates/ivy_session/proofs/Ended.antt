-- Sessions in code that are over: they wait for nobody, ask for nothing, and which of the definitions they are.
use Rattle.std.proofs.Common.{◌≡◌, false, List, Option, Some, None, refl, sym, ap, ◌∙◌}
use Rattle.dht_ids.specs.declared.post.Ack.{Ack}
use Rattle.dht_ids.specs.declared.post.Post.{Post}
use Rattle.dhash_model.specs.declared.miss.Miss.{Miss}
use Rattle.dhash_client.specs.GetHead.{Judges}
use Rattle.log_fetch.specs.Standings.{notes_of}
use Rattle.session_model.specs.Executions.{LacksMemory}
use Rattle.session_model.specs.Executions.LacksMemory.{lacks}
use Rattle.session_model.specs.Refreshing.{Note}
use Rattle.session_model.specs.Replies.{said_no_memory}
use Rattle.session_model.specs.Sessions.{Over, Publishing, Refreshing, Said, Session}
use Rattle.ivy_session.specs.declared.session.Stage.{Stage}
use Rattle.ivy_session.specs.declared.session.Stage.TheVariants as stage
use Rattle.ivy_session.specs.States.{HasAsked, IsAt, IsSession, SessionState, asked_at, awaited_at, is_told, is_turning, served_of, session_awaited}

refreshing_or_over : (said : Option Said) → Refreshing ≡ Over said → ⊥
refreshing_or_over said e = cc e

publishing_or_over : (first said : Option Said) (posts : List Post) (acks : List Ack) → Publishing first posts acks ≡ Over said → ⊥
publishing_or_over first said posts acks e = cc e

pub same_over : (first second : Option Said) → Over first ≡ Over second → first ≡ second
same_over first second e = cc e

module _ {J : Type 0} (judges : Judges J) (t : Session) (st : SessionState J) where
  told_or_not : (at : Stage J) → IsAt judges t st at → is_told at ≡ false
  told_or_not (stage.Refreshing c f) h = refl
  told_or_not (stage.Turning c) h = refl
  told_or_not (stage.Publishing told p) h = refl
  told_or_not (stage.Over told) h = refl
  told_or_not stage.Told h = absurd h

  -- one on its way isn't told to be over yet
  pub not_told : IsSession judges t st → is_told st.stage ≡ false
  not_told h = told_or_not st.stage h.at

  module _ (said : Option Said) (over : t.stage ≡ Over said) where
    at_its_end : (at : Stage J) → IsAt judges t st at → awaited_at at ≡ None
    at_its_end (stage.Refreshing c f) h = absurd (refreshing_or_over said (sym h.refreshing.stage ∙ over))
    at_its_end (stage.Turning c) h = refl
    at_its_end (stage.Publishing told p) h = absurd (publishing_or_over _ said _ _ (sym h.stage ∙ over))
    at_its_end (stage.Over told) h = refl
    at_its_end stage.Told h = refl

    past_its_turn : (at : Stage J) → IsAt judges t st at → (is_turning at ≡ false) × (asked_at at ≡ None)
    past_its_turn (stage.Refreshing c f) h = absurd (refreshing_or_over said (sym h.refreshing.stage ∙ over))
    past_its_turn (stage.Turning c) h = absurd (refreshing_or_over said (sym h.refreshed.0 ∙ over))
    past_its_turn (stage.Publishing told p) h = (refl, refl)
    past_its_turn (stage.Over told) h = (refl, refl)
    past_its_turn stage.Told h = (refl, refl)

    -- one that is over waits for nobody
    pub over_waits_for_none : IsSession judges t st → session_awaited st ≡ None
    over_waits_for_none h = at_its_end st.stage h.at

    pub over_has_asked : IsSession judges t st → HasAsked st t
    over_has_asked h waits = absurd (waits (over_waits_for_none h))

    -- and for no turn
    pub over_is_past : IsSession judges t st → is_turning st.stage ≡ false
    over_is_past h = (past_its_turn st.stage h.at).0

    -- it asks for nothing
    pub over_asks_nothing : IsSession judges t st → asked_at st.stage ≡ None
    over_asks_nothing h = (past_its_turn st.stage h.at).1

    -- so is any other that is over so
    module _ (u : Session) (also : u.stage ≡ Over said) (entries : u.entries ≡ t.entries) (starts : u.starts ≡ t.starts) (notes : u.notes ≡ t.notes) (missed : u.missed ≡ t.missed) where
      other_at : (at : Stage J) → IsAt judges t st at → IsAt judges u st at
      other_at (stage.Refreshing c f) h = absurd (refreshing_or_over said (sym h.refreshing.stage ∙ over))
      other_at (stage.Turning c) h = absurd (refreshing_or_over said (sym h.refreshed.0 ∙ over))
      other_at (stage.Publishing told p) h = absurd (publishing_or_over _ said _ _ (sym h.stage ∙ over))
      other_at (stage.Over told) h = record {
        said = said;
        is_told = h.is_told ∙ ap (λ (s : Option Said). served_of s) (same_over h.said said (sym h.stage ∙ over));
        stage = also;
        noted = h.noted ∙ ap (λ (n : List Note). notes_of n t.missed) (sym notes) ∙ ap (λ (m : Option Miss). notes_of u.notes m) (sym missed);
      }
      other_at stage.Told h = h

      pub over_alike : IsSession judges t st → IsSession judges u st
      over_alike h = record { entries = h.entries ∙ sym entries; starts = h.starts ∙ sym starts; at = other_at st.stage h.at }

-- one after which memory ran out is over
pub lacking_is_over : {s t : Session} → LacksMemory s t → (said : Option Said) × (t.stage ≡ Over said)
lacking_is_over (lacks notes shown given end xid asked at refreshed asks rest front) = (Some (said_no_memory xid), refl)
