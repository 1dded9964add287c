-- The world's agents: those that sign with hierarchical signatures, and what they are and do.
use Rattle.std.specs.Prelude.{ℕ, Bool, List, Option}
use Rattle.ivy_base.specs.declared.key.PubKey.{PubKey}
use Rattle.ivy_base.specs.declared.operation.Moment.{Moment}
use Rattle.hash_signature_model.specs.Saved.{IsSigner, hss as signing}
use Rattle.hash_signature_model.specs.Signer.{Signer}
use Rattle.log_model.specs.Record.{Record}
use Rattle.log_model.specs.Signing.{Signing}
use Rattle.log_model.specs.Vector.{Stamp}
use Rattle.log_model.specs.View.{View}
use Rattle.turn_model.specs.Turn.{Inputs, Turned}
use Rattle.agent_model.specs.Agent as any
use Rattle.agent_model.specs.SavedBytes as bytes
use Rattle.agent_model.specs.Standing as stand
use Rattle.agent_model.specs.Turning as turn
use Rattle.agent_model.specs.Views as view
use Rattle.session_model.specs.Executions as execution
use Rattle.session_model.specs.Sessions.{Session}

abbrev pub hss_signing : Signing Signer
hss_signing = signing

abbrev pub HssAgent : Type 0
HssAgent = any.Agent Signer

abbrev pub HssKept : Type 0
HssKept = any.Kept Signer

-- its public key, and how far its floor goes in its own log
abbrev pub own_hss_key : HssAgent → PubKey
own_hss_key a = any.own hss_signing a

abbrev pub own_reach : HssAgent → ℕ
own_reach a = any.own_reach hss_signing a

-- the head over a log's newest record
abbrev pub hss_sealed : Signer → Stamp → List ℕ
hss_sealed signer newest = any.sealed hss_signing signer newest

-- what may be saved, and its bytes
abbrev pub IsHssKept : HssKept → Type 0
IsHssKept k = bytes.IsKept hss_signing IsSigner k

abbrev pub hss_kept_bytes : HssKept → List ℕ
hss_kept_bytes k = bytes.kept_bytes hss_signing k

abbrev pub hss_opened : Signer → Moment → HssAgent
hss_opened signer now = any.opened hss_signing signer now

abbrev pub HssEntering : Type 0
HssEntering = view.Entering Signer

abbrev pub hss_entering : HssAgent → View → Bool → HssEntering × Option HssKept
hss_entering a v fails = view.entering hss_signing a v fails

abbrev pub hss_standing_in : HssAgent → View → stand.Standing
hss_standing_in a v = stand.standing_in hss_signing a v

-- what a turn goes by
abbrev pub hss_inputs : HssAgent → View → Bool → Inputs
hss_inputs a v fails = turn.inputs hss_signing a v fails

abbrev pub HssTurning : Type 0
HssTurning = turn.Turning Signer

abbrev pub TakesHssTurn : HssTurning → Session → turn.TurnEnd → HssAgent → Option HssKept → Session → Type 0
TakesHssTurn turning s end after saving t = execution.TakesTurn hss_signing turning s end after saving t

abbrev pub IsHssTurnIn : List (List ℕ) → HssTurning → Session → List Record → List Record → Turned → Type 0
IsHssTurnIn met turning s knew known turned = execution.IsTurnIn hss_signing met turning s knew known turned
