-- What a turn takes of what a refresh brought, by what is held alone: whatever the agent knows, and whether or not names collide.
use Rattle.std.specs.Prelude.{◌≡◌, false, List, ◌++◌, filter, map, nat_le, Option, if◌then◌else◌}
use Rattle.std.specs.Ordering.{eq_by_cmp}
use Rattle.ivy_base.specs.declared.key.PubKey.{PubKey}
use Rattle.ivy_base.specs.Naming.{head_key_of, owner_cmp}
use Rattle.log_model.specs.View.{View}
use Rattle.log_model.specs.Vector.{Vector, seq_of}
use Rattle.log_model.specs.Record.{Record}
use Rattle.log_model.specs.Replay.{in_order}
use Rattle.log_records.specs.Batches.{Batch}
use Rattle.causal_order.specs.Available.{IsNewPart}
use Rattle.turn_model.specs.Basis.{Basis, Holding}
use Rattle.agent_model.specs.Standing.{Chain, Refresh, chain_of}
use Rattle.agent_model.specs.Turning.{is_behind, is_below_tide}

-- what a batch and a basis are to a turn
abbrev pub refresh_with : Batch → Option Basis → Refresh
refresh_with b basis = record { started = b.held; chains = map chain_of b.chains; basis = basis }

-- the chain's records; of the own log those that the floor names
abbrev pub within : PubKey → Vector → Chain → List Record
within own floor c = if eq_by_cmp owner_cmp own c.owner then filter
    (λ r. nat_le r.seq (seq_of floor (head_key_of c.owner))) c.records else c.records

-- The turn isn't refused, and these are the new records: over the basis's front, those of the largest closed part of what is held and of
-- the chains that go on from it.
pub record TakesNew (view : View) (own : PubKey) (floor : Vector) (h : Holding) (brought : Refresh) (new : List Record) : Type 0 where
  pub caught_up : is_behind view own floor h brought ≡ false
  pub above : is_below_tide own floor h brought ≡ false
  pub part : IsNewPart view h.basis.front h.held (map (within own floor) brought.chains) new

-- what is held with them
abbrev pub with_new : Holding → List Record → Holding
with_new h new = record h { held = in_order (h.held ++ new) }
