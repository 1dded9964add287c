-- What a crowd came to.
use Rattle.std.specs.Prelude.{◌≡◌, ℕ, Bool, List, length, Option, Ok, Some, option_map}
use Rattle.ivy_base.specs.Naming.{head_key_of, root_number}
use Rattle.ivy_base.specs.declared.key.Key.{Key}
use Rattle.ivy_base.specs.declared.operation.Moment.{Moment}
use Rattle.ivy_io.specs.Keepers.{KeeperState, after_save, next_save_fails, fresh_keeper_state}
use Rattle.hash_signature_model.specs.Saved.{IsSigner, hss}
use Rattle.hash_signature_model.specs.Signer.{Signer}
use Rattle.tree_model.specs.Tree.{listing}
use Rattle.log_model.specs.Vector.{stamp_at}
use Rattle.turn_model.specs.Basis.{kept_tree}
use Rattle.agent_model.specs.Agent.{own, own_key}
use Rattle.ivy_agent.specs.Entering.{Enters}
use Rattle.ivy_agent.specs.Holders.{Holder}
use Rattle.ivy_agent.specs.Making.{Makes}
use Rattle.agent_gate.specs.Taking.{kind_of}
use Rattle.ring_run.specs.Live.{new_ring}
use Rattle.ivy_server.specs.Served.{moment_of}
use Rattle.ivy_crowd.specs.declared.tally.Tally.{Tally}
use Rattle.ivy_crowd.specs.Requests.{IsKey, alone}
use Rattle.ivy_crowd.specs.Sessions.{Asking, HaveRun, MemberGate, Serving, Session, asking_in, serving_by, threads_of}

-- how a keeper in memory may save
abbrev pub saves_in_memory : KeeperState → List ℕ → Bool → KeeperState → Type 0
saves_in_memory keeper bytes fails after = (fails ≡ next_save_fails keeper) × (after ≡ after_save keeper bytes)

-- the participant's agent with its keeper
abbrev pub Member : Type 0
Member = Holder KeeperState Signer

-- An agent with a key of the script's line was created at that moment over a keeper that kept nothing, and entered the view of its log
-- alone.
pub record IsOpening (signer : Signer) (moment : Moment) (opening : Member) : Type 0 where
  pub its_key : IsKey signer
  pub created : Member
  pub makes : Makes hss IsSigner saves_in_memory fresh_keeper_state signer moment (Ok created)
  pub enters : Enters hss IsSigner saves_in_memory (alone (own_key hss signer)) created (Ok tt) opening

-- the name of the agent's newest own record, which is its log's entry in its floor
abbrev pub newest_own : Member → Option Key
newest_own member = option_map (λ stamp. stamp.name) (stamp_at member.agent.floor (head_key_of (own hss member.agent)))

-- How many names the root has in this agent's tree, and the name of the agent's newest own record.
pub record Counts (closed : Member) (tally : Tally) : Type 0 where
  pub files : tally.files ≡ length (listing (kept_tree closed.agent.holding) root_number)
  pub last : newest_own closed ≡ Some tally.last

-- What is asked of a crowd: so many threads with so many calls each, how clocks go, and its clock before and once it gave the first
-- moment.
pub record Asked (C : Type 0) : Type 1 where
  pub threads : ℕ
  pub calls : ℕ
  pub gives : C → ℕ × ℕ → C → Type 0
  pub moment : C → Option (ℕ × ℕ)
  pub before : C
  pub after : C

-- how its threads serve: over a new ring of 5 nodes, of which 3 own a key
abbrev pub serving_of : {C : Type 0} → Asked C → MemberGate KeeperState Signer → Serving KeeperState Signer C
serving_of asked gate = serving_by (kind_of hss IsSigner saves_in_memory) gate (new_ring 5 3) asked.gives

-- and what they ask, in the view of the signer's log alone
abbrev pub asking_of : {C : Type 0} → Asked C → Signer → Asking C
asking_of asked signer = asking_in (alone (own_key hss signer)) asked.calls asked.moment asked.after

-- The agent was opened at a moment that the clock gave, the threads ran, and the counts are of the agent after their turns.
pub record HasCome {C : Type 0} (asked : Asked C) (tally : Tally) : Type 0 where
  pub moment : ℕ × ℕ
  pub gave : asked.gives asked.before moment asked.after
  pub signer : Signer
  pub gate : MemberGate KeeperState Signer
  pub opens : IsOpening signer (moment_of moment) gate.opening
  pub closed : Member
  pub run : HaveRun (serving_of asked gate) (Session (serving_of asked gate) (asking_of asked signer)) (threads_of asked.threads) closed
      tally.turns
  pub counts : Counts closed tally
