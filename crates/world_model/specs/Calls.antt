-- Lines of calls: a whole call, or a session that is begun, goes some steps, and is brought to its end; and what is shown of it.
use Rattle.std.specs.Prelude.{◌≡◌, ℕ, ◌+◌, nat_lt, nat_le, Bool, true, false, ◌&&◌, List, [], ◌∷◌, ◌++◌, codes, Option, Some, None, is_some}
use Rattle.std.specs.Prelude.{if◌then◌else◌}
use Rattle.std.specs.List.{flat_map}
use Rattle.hex.specs.Hex.{encode_lower}
use Rattle.ivy_base.specs.declared.key.Key.{Key}
use Rattle.log_model.specs.View.{View}
use Rattle.dht_ids.specs.declared.judge.Judged.{Judged}
use Rattle.dhash_model.specs.declared.miss.Miss.TheVariants as miss
use Rattle.dhash_model.specs.declared.miss.Miss.{Miss}
use Rattle.session_model.specs.Refreshing.{Note}
use Rattle.session_model.specs.Sessions.{Session, Said, Over}
use Rattle.session_model.specs.Executions.{Begins}
use Rattle.script_driver.specs.Run.{Outcome, Goes, Refuses}
use Rattle.script_model.specs.declared.command.Piece.{Piece}
use Rattle.script_model.specs.Messages.{message_of}
use Rattle.script_model.specs.Words.{◌>>=◌}
use Rattle.world_model.specs.Agents.{hss_standing_in}
use Rattle.world_model.specs.World.{World, Participant, participant, session_named, with_session, without_session, entries}
use Rattle.world_model.specs.GhostState.{Began, began_of, beginning, having_begun, with_began, without_began}
use Rattle.world_model.specs.Steps.{Configuration, StepsOn, RunsOut}
use Rattle.world_model.specs.Logs.{Played}

-- ---- what is sent

-- a participant, the view that it entered, and the message that it sends
pub record Sending : Type 0 where
  pub by : Participant
  pub view : View
  pub message : List ℕ

-- what the line sends, where the participant entered a view and the pieces are a message
abbrev pub sending_of : World → List ℕ → List Piece → Option Sending
sending_of w name pieces = do
  p ← participant w name
  view ← p.agent.view
  message ← message_of w.replies view pieces
  Some (record { by = p; view = view; message = message })

-- a session begins with what is sent
abbrev pub BeginsWith : World → Sending → Session → Type 0
BeginsWith w s t = Begins s.by.name s.message (entries w) (hss_standing_in s.by.agent s.view) t

-- ---- what is shown

abbrev pub key_line : List ℕ → Key → List ℕ
key_line word key = word ++ 32 ∷ encode_lower key.0 ++ 10 ∷ []

abbrev pub reply_line : List ℕ → List ℕ
reply_line message = codes "reply " ++ encode_lower message ++ 10 ∷ []

abbrev pub shown_message : Option (List ℕ) → List ℕ
shown_message None = codes "none" ++ 10 ∷ []
shown_message (Some message) = reply_line message

-- why the refresh failed, where it did
abbrev pub shown_miss : Option Miss → List ℕ
shown_miss None = []
shown_miss (Some (miss.NoRoute key)) = key_line (codes "noroute") key
shown_miss (Some (miss.Missing key asked)) = key_line (codes "missing") key
shown_miss (Some (miss.Damaged key node)) = key_line (codes "damaged") key

abbrev pub shown_note : Note → List ℕ
shown_note n = key_line (if n.is_fork then codes "fork" else codes "bad") n.log

-- the reply, and then the notes
abbrev pub shown_end : Session → Said → List ℕ
shown_end s said = shown_message said.message ++ shown_miss s.missed ++ flat_map shown_note s.notes

-- a reply line counts for later lines
abbrev pub replied : World → Said → World
replied w said = if is_some said.message then record w {
  replies = w.replies
      ++ record { handle = said.handle; verifier = said.verifier } ∷ [];
} else w

-- ---- lines

-- a session that is open goes on in a world with its ghost state, by its name in the script
abbrev pub configuration_of : Played → Session → Began → Configuration
configuration_of w s b = record { world = w.0; ghost_state = w.1; session = s; began = b }

abbrev pub is_step_count : ℕ → Bool
is_step_count count = nat_lt 0 count && nat_le count 1000000

module _ (judged : Key → List ℕ → Option Judged) (w : Played) where
  -- one whole call
  pub data AsLine : Option Sending → Outcome Played → Type 0 where
    sends_nothing : AsLine None Refuses
    calls : (s : Sending) (r : ℕ) (t : Session) (end : Configuration) (said : Said) → w.0.replicas ≡ Some r → BeginsWith w.0 s t
        → RunsOut judged r s.by.name (record { world = w.0; ghost_state = having_begun w.1; session = t; began = beginning w.1 s.by.name })
        end
        → end.session.stage ≡ Over (Some said)
        → AsLine (Some s) (Goes (replied end.world said, end.ghost_state) (shown_end end.session said))

  pub data OpenLine (name : List ℕ) : Option Sending → Outcome Played → Type 0 where
    sends_nothing : OpenLine name None Refuses
    is_open : (s : Sending) → is_some (session_named w.0 name) ≡ true → OpenLine name (Some s) Refuses
    opens : (s : Sending) (t : Session) → is_some (session_named w.0 name) ≡ false → BeginsWith w.0 s t
        → OpenLine name (Some s) (Goes (
          record w.0 { sessions = w.0.sessions ++ record { name = name; session = t } ∷ [] },
          record
              (having_begun w.1) { sessions = w.1.sessions ++ (name, beginning w.1 s.by.name) ∷ [] },
        ) [])

  -- 1 to 1,000,000 steps
  pub data StepLine (name : List ℕ) (count : ℕ) : Option Session → Outcome Played → Type 0 where
    not_open : StepLine name count None Refuses
    out_of_range : (s : Session) → is_step_count count ≡ false → StepLine name count (Some s) Refuses
    steps : (s : Session) (r : ℕ) (end : Configuration) → is_step_count count ≡ true → w.0.replicas ≡ Some r
        → StepsOn judged r s.by count (configuration_of w s (began_of w.1 name)) end
        → StepLine name count (Some s) (Goes (with_session end.world name end.session, with_began end.ghost_state name end.began) [])

  pub data FinishLine (name : List ℕ) : Option Session → Outcome Played → Type 0 where
    not_open : FinishLine name None Refuses
    ends : (s : Session) (r : ℕ) (end : Configuration) (said : Said) → w.0.replicas ≡ Some r
        → RunsOut judged r s.by (configuration_of w s (began_of w.1 name)) end → end.session.stage ≡ Over (Some said)
        → FinishLine name (Some s) (Goes (replied (without_session end.world name) said, without_began end.ghost_state name)
        (shown_end end.session said))
