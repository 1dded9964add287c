-- What comes of writing operations on what a turn took.
use Rattle.std.specs.Prelude.{◌≡◌, ◌≢◌, ◌+◌, ℕ, length, Bool, List, [], if◌then◌else◌}
use Rattle.ivy_base.specs.declared.operation.Moment.{Moment}
use Rattle.ivy_base.specs.declared.operation.Op.{Op}
use Rattle.log_model.specs.Record.{Record}
use Rattle.log_model.specs.Vector.{Vector}
use Rattle.log_model.specs.View.{View}
use Rattle.log_records.specs.Records.{records_of}
use Rattle.nfs_model.specs.declared.replies.NfsStatus.TheVariants.{ServerFault}
use Rattle.nfs_model.specs.declared.replies.Reply.{Reply}
use Rattle.nfs_model.specs.declared.replies.Reply.TheVariants.{Refused}
use Rattle.nfs_model.specs.Changing.{finish}
use Rattle.turn_model.specs.Basis.{Holding, kept_tree}
use Rattle.turn_model.specs.Turn.{Asked, bare_tail}
use Rattle.replay_engine.specs.Engines.{Engine, holding, undone}
use Rattle.log_model.specs.Signing.{Signing}
use Rattle.agent_model.specs.SavedBytes.{kept_bytes}
use Rattle.agent_model.specs.Turning.{with_held}
use Rattle.ivy_agent.specs.Saves.{saved_of}
use Rattle.ivy_agent.specs.Drafts.{IsDraft, kept_with}
use Rattle.ivy_agent.specs.Outcomes.{Gives, kept_to}
use Rattle.ivy_agent.specs.declared.saving.Kept.{Kept}
use Rattle.ivy_agent.specs.declared.drafts.Draft.{Draft}
use Rattle.ivy_agent.specs.declared.writing.Done.{Done}

-- it holds what the other does, and held the same before the last call
pub record StandsAs (e f : Engine) : Type 0 where
  pub now : holding f ≡ holding e
  pub before : holding (undone f) ≡ holding (undone e)
  pub some : f.before ≢ []

-- what is said of a call whose records weren't saved
abbrev pub lost_reply : Asked → Reply
lost_reply asked = Refused ServerFault (bare_tail asked.args)

-- what is said of one whose records are held above what was held
abbrev pub written_reply : View → Asked → List Op → Holding → List Record → Reply
written_reply view asked ops h written = finish (kept_tree h) (kept_tree (with_held h written)) view asked.caller asked.args ops

module _ {K S : Type 0} (signs : Signing S) (IsWhole : S → Type 0) (saves : K → List ℕ → Bool → K → Type 0) where
  -- the keeper was asked to save the draft's records, with a key that can be, and by how that ended they are kept and held, or what is held
  -- goes into the floor alone
  pub record HasWritten (view : View) (asked : Asked) (ops : List Op) (k : Kept S) (h : Holding) (front : Vector) (keeper : K) (applied : ℕ)
      (d : Draft S) (k_after : Kept S) (h_after : Holding) (keeper_after : K) (done : Done) : Type 0 where
    pub whole : IsWhole d.next.signer
    pub saved : saves keeper (kept_bytes signs (saved_of (kept_with k d.next))) done.has_failed keeper_after
    pub kept : k_after ≡ (if done.has_failed then kept_to k front else kept_with k d.next)
    pub held : h_after ≡ (if done.has_failed then h else with_held h (records_of d.records.items))
    pub its_front : done.front ≡ (if done.has_failed then front else d.front)
    pub given : Gives (if done.has_failed then lost_reply asked else written_reply view asked ops h (records_of d.records.items)) k_after
        done.front applied done.turned

  -- the operations were drafted so, and written, or their save failed
  pub record WritesDraft (view : View) (asked : Asked) (now : Moment) (ops : List Op) (k : Kept S) (h : Holding) (front : Vector)
      (keeper : K) (applied : ℕ) (k_after : Kept S) (h_after : Holding) (keeper_after : K) (done : Done) : Type 0 where
    pub draft : Draft S
    pub is_draft : IsDraft signs k front now ops draft
    pub written : HasWritten view asked ops k h front keeper
        (applied + length (records_of draft.records.items)) draft k_after h_after keeper_after done
