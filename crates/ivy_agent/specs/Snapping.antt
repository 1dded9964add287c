-- How making a snapshot ends.
use Rattle.std.specs.Prelude.{◌≡◌, ℕ, Bool, true, false, not, List, ◌++◌, map, filter, Option, Some, option_map, IfSome, Result, Ok, Err}
use Rattle.ivy_base.specs.declared.key.Key.{Key}
use Rattle.log_model.specs.View.{View}
use Rattle.turn_model.specs.Basis.{Basis}
use Rattle.dht_ids.specs.declared.post.Post.{Post}
use Rattle.snapshot_model.specs.Spelling.{root_name, snapshot_blocks}
use Rattle.log_model.specs.Signing.{Signing}
use Rattle.agent_model.specs.Agent.{Agent, Kept as Saving}
use Rattle.agent_model.specs.Others.{basis_of, block_post, is_pending_block, snapping}
use Rattle.agent_model.specs.SavedBytes.{ArePostsSpelled, IsKept, kept_bytes}
use Rattle.ivy_agent.specs.Holders.{Holder}
use Rattle.ivy_agent.specs.Saves.{Saves}
use Rattle.ivy_agent.specs.declared.saving.Kept.{Kept}
use Rattle.ivy_agent.specs.declared.snapping.Snapshot.{Snapshot}
use Rattle.ivy_agent.specs.declared.fault.SnapFault.{SnapFault}
use Rattle.ivy_agent.specs.declared.fault.SnapFault.TheVariants as fault

-- the posts of these blocks but of those that are pending already
abbrev pub posts_of_new : List Post → List (List ℕ) → List Post
posts_of_new pending blocks = map block_post (filter (λ b. not (is_pending_block pending b)) blocks)

module _ {K S : Type 0} (signs : Signing S) (IsWhole : S → Type 0) (saves : K → List ℕ → Bool → K → Type 0) (view : View)
    (before : Holder K S) where
  -- the root's name
  abbrev pub root_of : Key
  root_of = root_name view (basis_of before.agent.holding)

  -- of all that it holds
  abbrev pub snapping_by : Bool → (Agent S × Bool) × Option (Saving S)
  snapping_by fails = snapping before.agent root_of (snapshot_blocks view (basis_of before.agent.holding)) fails

  -- by whether the save fails: whether there is a new snapshot, the agent, and the keeper; and what is saved may be
  pub record SnapsAs (fails made : Bool) (after : Holder K S) : Type 0 where
    pub told : made ≡ (snapping_by fails).0.1
    pub agent : after.agent ≡ (snapping_by fails).0.0
    pub keeper : Saves saves before.keeper (option_map (kept_bytes signs) (snapping_by fails).1) fails after.keeper
    pub kept : IfSome (snapping_by fails).1 (IsKept signs IsWhole)

  -- The root is returned, or that there is no new snapshot. Where memory runs out nothing changes.
  abbrev pub Snaps : Result Key SnapFault → Holder K S → Type 0
  Snaps (Ok root) after = (root ≡ root_of) × (fails : Bool) × SnapsAs fails true after
  Snaps (Err fault.Keeper) after = (fails : Bool) × SnapsAs fails false after
  Snaps (Err fault.Memory) after = after ≡ before

-- ---- the steps

-- the snapshot of that basis, by its root's name and by what is pending then, which has a spelling where what was pending has
pub record IsSnapshot (view : View) (b : Basis) (pending : List Post) (s : Snapshot) : Type 0 where
  pub root : s.root ≡ root_name view b
  pub posts : s.posts ≡ pending ++ posts_of_new pending (snapshot_blocks view b)
  pub spelled : ArePostsSpelled pending → ArePostsSpelled s.posts

-- what is kept, with that snapshot
abbrev pub kept_snapped : {S : Type 0} → Snapshot → Kept S → Kept S
kept_snapped s k = record k { pending = s.posts; snapshot = Some s.root }
