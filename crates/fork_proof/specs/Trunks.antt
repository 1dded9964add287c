-- The numbers below which all heads lead to one name of each number.
use Rattle.std.specs.Prelude.{◌≡◌, ◌⊎◌, ℕ, ◌-◌, ◌≤◌, Bool, nat_le, List, Some, option_map}
use Rattle.std.specs.Map.{lookup}
use Rattle.std.specs.Ordering.{eq_by_cmp, nat_cmp}
use Rattle.ivy_base.specs.declared.key.Key.{Key}
use Rattle.fork_model.specs.Bytes.{most_blocks}
use Rattle.fork_model.specs.Before.{Before, TellsRecords}
use Rattle.fork_model.specs.Finding as model
use Rattle.fork_proof.specs.declared.tips.Tip.{Tip}
use Rattle.fork_proof.specs.declared.trunk.Trunk.{Trunk}
use Rattle.fork_proof.specs.Found.{tip_seen}

-- the name is the one that stands at the number, or the number isn't below the trunk's end
abbrev pub HasName : Trunk → ℕ → Key → Type 0
HasName t seq name = (lookup (eq_by_cmp nat_cmp seq) t.names.entries ≡ Some name) ⊎ (t.ends ≤ seq)

-- what the one has, the other has
abbrev pub Keeps : Trunk → Trunk → Type 0
Keeps old new = (seq : ℕ) (name : Key) → HasName old seq name → HasName new seq name

-- the names to which the head leads, as far as a proof goes, are among the trunk's
abbrev pub LeadsAlong : List (List ℕ) → Trunk → Tip → Type 0
LeadsAlong blocks t tip = (before : Before) → TellsRecords before → (n : ℕ) → n ≤ most_blocks → (name : Key)
    → Some name ≡ option_map (λ way. way.last) (model.way_down before blocks (tip_seen tip) n) → HasName t (tip.seq - n) name

-- the head's number isn't below the trunk's end
abbrev pub is_beyond : Trunk → Tip → Bool
is_beyond t tip = nat_le t.ends tip.seq
