-- What is held, as the code has it, and what a turn takes.
use Rattle.std.specs.Prelude.{◌≡◌, ◌≤◌, true, false, IsTrue, None}
use Rattle.std.specs.List.{AllByRecursion}
use Rattle.ivy_base.specs.declared.key.PubKey.{PubKey}
use Rattle.ivy_base.specs.Naming.{head_key_of}
use Rattle.log_model.specs.View.{View, is_named}
use Rattle.log_model.specs.Vector.{Vector, seq_of}
use Rattle.log_records.specs.Batches.{Batch}
use Rattle.log_records.specs.Records.{records_of}
use Rattle.turn_model.specs.Basis.{Holding}
use Rattle.agent_model.specs.Agent.{joined}
use Rattle.agent_model.specs.Turning.{is_behind, is_below_tide}
use Rattle.turn_laws.specs.Taking.{TakesNew, refresh_with, with_new}
use Rattle.turn_taking.specs.declared.taking.Held.{Held}
use Rattle.turn_taking.specs.declared.taking.Taken.{Taken}
use Rattle.turn_taking.specs.declared.taking.Taken.TheVariants as taken

-- it is what is held, whatever the basis's tree and tide are
pub record IsHeld (held : Held) (h : Holding) : Type 0 where
  pub base : h.basis.front ≡ held.base.now
  pub records : h.held ≡ records_of held.records.now

-- the vector names logs of the view alone, and of the own log it goes no further than the floor
pub record IsWithin (view : View) (own : PubKey) (floor v : Vector) : Type 0 where
  pub named : AllByRecursion (λ e. IsTrue (is_named view e.0)) v
  pub own_log : seq_of v (head_key_of own) ≤ seq_of floor (head_key_of own)

-- a turn that goes on from that takes this of the batch: it is behind, or below the basis's tide, or these are the new records, with the
-- front then
abbrev pub Takes : View → PubKey → Vector → Batch → Holding → Taken → Type 0
Takes view own floor b h taken.Behind = is_behind view own floor h (refresh_with b None) ≡ true
Takes view own floor b h taken.BelowTide =
    (is_behind view own floor h (refresh_with b None) ≡ false) × (is_below_tide own floor h (refresh_with b None) ≡ true)
Takes view own floor b h (taken.New records front) =
    TakesNew view own floor h (refresh_with b None) (records_of records.items) × (front ≡ joined (with_new h (records_of records.items)))
    × IsWithin view own floor front
