-- An agent with its keeper, as callers see both, and what holds of it.
use Rattle.std.specs.Prelude.{◌≡◌, Bool, Option, Some, None}
use Rattle.ivy_base.specs.declared.key.Key.{Key}
use Rattle.ivy_base.specs.Naming.{head_key_of}
use Rattle.wire_model.specs.Xdr.{IsAny}
use Rattle.log_model.specs.View.{View}
use Rattle.log_model.specs.Vector.{Vector}
use Rattle.causal_order.specs.Over.{IsClosed}
use Rattle.turn_model.specs.Basis.{nothing_held}
use Rattle.turn_taking.specs.Taking.{IsWithin}
use Rattle.replay_engine.specs.Engines.{Engine, holding}
use Rattle.log_model.specs.Signing.{Signing}
use Rattle.agent_model.specs.Agent.{Agent, joined, kept_of, own}
use Rattle.agent_model.specs.SavedBytes.{IsKept}
use Rattle.ivy_agent.specs.Bounds.{HasBounds}
use Rattle.ivy_agent.specs.declared.saving.Kept.{Kept}

-- an agent, and what keeps it
pub record Holder (K S : Type 0) : Type 0 where
  pub agent : Agent S
  pub keeper : K

-- the agent of these parts
abbrev pub agent_of : {S : Type 0} → Kept S → Engine → Option Key → Bool → Agent S
agent_of k engine to_load has_failed = record {
  signer = k.signer;
  view = k.view;
  floor = k.floor;
  holding = holding engine;
  to_load = to_load;
  snapshot = k.snapshot;
  pending = k.pending;
  has_failed = has_failed;
}

-- In a view the held records are closed over the basis, whose tree has its bounds, and what is covered and held is within the floor.
pub record StandsIn {S : Type 0} (signs : Signing S) (a : Agent S) (view : View) : Type 0 where
  pub closed : IsClosed view a.holding.basis.front a.holding.held
  pub bounds : HasBounds a.holding.basis.tree
  pub base : IsWithin view (own signs a) a.floor a.holding.basis.front
  pub front : IsWithin view (own signs a) a.floor (joined a.holding)

-- before a view nothing is held
pub record StandsOutside {S : Type 0} (a : Agent S) : Type 0 where
  pub nothing : a.holding ≡ nothing_held

abbrev pub Stands : {S : Type 0} → Signing S → Agent S → Option View → Type 0
Stands signs a None = StandsOutside a
Stands signs a (Some view) = StandsIn signs a view

-- What holds of an agent, whatever the names of blocks, where its log and the front of what it holds are these. What would be saved of it
-- may be saved, as far as that isn't the signer's own matter.
pub record IsSound {S : Type 0} (signs : Signing S) (a : Agent S) (log : Key) (front : Vector) : Type 0 where
  pub its_log : log ≡ head_key_of (own signs a)
  pub its_front : front ≡ joined a.holding
  pub kept : IsKept signs IsAny (kept_of a)
  pub stands : Stands signs a a.view
