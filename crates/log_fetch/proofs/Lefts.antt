-- How much may still be wanted: it falls.
use Rattle.std.proofs.Common.{◌≡◌, ℕ, zero, suc, ◌+◌, ◌-◌, ◌*◌, ◌^◌, ◌<◌, ◌≤◌, Option, None, Result, Ok, Err, IfOk, refl, arith}
use Rattle.std.specs.Prelude.{◌≢◌}
use Rattle.ivy_base.specs.declared.key.Key.{Key}
use Rattle.ivy_base.specs.declared.memory.Memory.{Memory}
use Rattle.log_model.specs.View.{most_members}
use Rattle.log_fetch.specs.declared.trial.Settled.{Settled}
use Rattle.log_fetch.specs.declared.trial.Settled.TheVariants as settled
use Rattle.log_fetch.specs.Concluding.{LeavesNoMore}
use Rattle.log_fetch.specs.Walking.{wanted_at}
use Rattle.log_fetch.specs.Trying.{Trying, trial_left}
use Rattle.log_fetch.specs.declared.gather.Stage.{Stage}
use Rattle.log_fetch.specs.declared.gather.Stage.TheVariants as stage
use Rattle.log_fetch.specs.Gathering.{Gathering, heads_wanted, block_wanted, stage_left, gets_in, waits_left}
use Rattle.log_fetch.specs.Logs.{settled_left}

-- ---- something is left where something is wanted

some_heads : (at : Stage) → heads_wanted at ≢ None → 0 < stage_left at
some_heads (stage.Heads owner) some = omega arith
some_heads (stage.Log t) some = absurd (some refl)
some_heads stage.Through some = absurd (some refl)

some_walk : (left : ℕ) (next : Key) → wanted_at left next ≢ None → 0 < left
some_walk zero next some = absurd (some refl)
some_walk (suc left) next some = omega arith

some_block : (at : Stage) → block_wanted at ≢ None → 0 < stage_left at
some_block (stage.Heads owner) some = absurd (some refl)
some_block (stage.Log t) some = let walk = some_walk t.walk.left t.walk.next some in omega (arith, walk)
some_block stage.Through some = absurd (some refl)

pub heads_left : (g : Gathering) → heads_wanted g.stage ≢ None → 0 < gets_in g
heads_left g some = let these = some_heads g.stage some in omega (arith, these)

pub block_left : (g : Gathering) → block_wanted g.stage ≢ None → 0 < gets_in g
block_left g some = let these = some_block g.stage some in omega (arith, these)

-- ---- of one log

pub settled_within : (t : Trying) (bound : ℕ) → trial_left t < bound → (r : Result Settled Memory) → IfOk r (LeavesNoMore t) → IfOk r (λ s. settled_left s < bound)
settled_within t bound less (Ok (settled.Waits next)) leaves = let no_more = leaves.0 in omega (arith, no_more, less)
settled_within t bound less (Ok (settled.Over fault)) leaves = omega (arith, less)
settled_within t bound less (Err e) leaves = tt

pub waits_within : (s : Settled) (bound : ℕ) → settled_left s < bound → (r : Result (Option Trying) Memory) → IfOk r (λ waits. waits_left waits ≡ settled_left s) → IfOk r (λ waits. waits_left waits < bound)
waits_within s bound less (Ok waits) same = omega (arith, less, same)
waits_within s bound less (Err e) same = tt

-- ---- of all members

-- heads of one are wanted, to which it went from an earlier one
pub heads_behind : (members before now : ℕ) → before ≤ now → now < members → 1 + 2 ^ 96 + (2 + 2 ^ 96) * (members - (now + 1)) ≤ (2 + 2 ^ 96) * (members - before)
heads_behind members before now up less = omega (arith, up, less)

-- or a block of one
pub blocks_behind : (members before now left : ℕ) → before ≤ now → now < members → left < 2 ^ 96 → left + (2 + 2 ^ 96) * (members - (now + 1)) ≤ (2 + 2 ^ 96) * (members - before)
blocks_behind members before now left up less few = omega (arith, up, less, few)

-- or nothing
pub none_behind : (members before now : ℕ) → members ≤ now → 0 + (2 + 2 ^ 96) * (members - (now + 1)) ≤ (2 + 2 ^ 96) * (members - before)
none_behind members before now over = omega (arith, over)

-- of few members there are so many
pub few_members : (members left : ℕ) → members ≤ most_members → left ≤ (2 + 2 ^ 96) * (members - 0) → left < (most_members + 1) * (2 + 2 ^ 96)
few_members members left few most = omega (arith, few, most)

-- those of the member in progress fell, or went on to the members after it
pub one_fewer : (members now then_now left then_left : ℕ) → then_now ≡ now → then_left < left → then_left + (2 + 2 ^ 96) * (members - (then_now + 1)) < left + (2 + 2 ^ 96) * (members - (now + 1))
one_fewer members now then_now left then_left same less = omega (arith, same, less)

pub went_behind : (members now mid left most : ℕ) → mid ≡ now + 1 → 0 < left → most ≤ (2 + 2 ^ 96) * (members - mid) → most < left + (2 + 2 ^ 96) * (members - (now + 1))
went_behind members now mid left most next some less = omega (arith, next, some, less)
