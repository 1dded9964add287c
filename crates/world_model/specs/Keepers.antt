-- The keepers of the world: those in memory.
use Rattle.std.specs.Prelude.{ℕ, Bool, List, Option, Some, None}
use Rattle.ivy_io.specs.Keepers as memory
use Rattle.world_model.specs.Agents.{HssKept, hss_kept_bytes}

-- what a keeper keeps, how many saves it was asked for, and which of them fail
abbrev pub Keeper : Type 0
Keeper = memory.KeeperState

abbrev pub fresh_keeper : Keeper
fresh_keeper = memory.fresh_keeper_state

-- the next save fails
abbrev pub fails_next : Keeper → Bool
fails_next k = memory.next_save_fails k

-- the keeper once it was asked to save that, where it was
abbrev pub asked_to_save : Keeper → Option HssKept → Keeper
asked_to_save k None = k
asked_to_save k (Some saving) = memory.after_save k (hss_kept_bytes saving)

-- from now on, the save of that number is to fail, and leaves the new bytes or not
abbrev pub with_fault : Keeper → ℕ → Bool → Keeper
with_fault k count new = memory.with_plan k count new
