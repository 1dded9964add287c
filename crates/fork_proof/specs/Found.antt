-- Heads, and ways down a log, as they are kept while a fork is sought.
use Rattle.std.specs.Prelude.{◌≡◌, ℕ, ◌≤◌, Bool, false, not, List, map, Option, Some, None, option_map}
use Rattle.std.specs.List.{slice_get}
use Rattle.std.specs.Ordering.{eq_by_cmp}
use Rattle.ivy_base.specs.declared.key.Key.{Key}
use Rattle.ivy_base.specs.declared.key.PubKey.{PubKey}
use Rattle.ivy_base.specs.Naming.{key_cmp}
use Rattle.log_model.specs.Heads.{stamp}
use Rattle.fork_model.specs.Bytes.{most_blocks}
use Rattle.fork_model.specs.Before.{Before, TellsRecords}
use Rattle.fork_model.specs.Finding as model
use Rattle.fork_proof.specs.declared.tips.Tip.{Tip}
use Rattle.fork_proof.specs.declared.ways.Step.{Step}
use Rattle.fork_proof.specs.declared.ways.Way.{Way}
use Rattle.fork_proof.specs.declared.walked.Walk.{Walk}

abbrev pub tip_seen : Tip → model.Tip
tip_seen t = record { bytes = t.bytes.now; owner = t.owner; newest = stamp t.seq t.name }

-- the head is of that record of the owner's
pub record Begins (owner : PubKey) (seq : ℕ) (name : Key) (t : Tip) : Type 0 where
  pub owner_is : t.owner ≡ owner
  pub seq_is : t.seq ≡ seq
  pub name_is : t.name ≡ name

abbrev pub step_seen : Step → List ℕ × Key
step_seen s = (s.block.now, s.prev)

abbrev pub way_seen : Way → model.Way
way_seen w = record { blocks = map (λ b. b.now) w.blocks.items; last = w.last }

-- ---- walks

-- the names are those to which the head leads: of its own number, and of each number below, as far as a proof goes
abbrev pub AreNames : List (List ℕ) → model.Tip → List Key → Type 0
AreNames blocks tip names = (before : Before) → TellsRecords before → (n : ℕ) → n ≤ most_blocks
    → slice_get names n ≡ option_map (λ way. way.last) (model.way_down before blocks tip n)

abbrev pub walk_seen : Walk → model.Tip
walk_seen w = tip_seen w.tip

abbrev pub HasNames : List (List ℕ) → Walk → Type 0
HasNames blocks w = AreNames blocks (walk_seen w) w.names.items

-- there is a name, and it is another one
abbrev pub is_other : Key → Option Key → Bool
is_other k None = false
is_other k (Some n) = not (eq_by_cmp key_cmp n k)
