-- What follows for a link that one agent serves, and for whole calls.
use Rattle.std.specs.Prelude.{◌≡◌, ◌⊎◌, ℕ, Bool, List, Some}
use Rattle.std.specs.List.{AllByRecursion, flat_map}
use Rattle.ivy_io.specs.Causes.{Rose}
use Rattle.rpc_wire.specs.Frames.{Fits, Framed, marked, message}
use Rattle.wire_model.specs.Rpc.{CallMessage, IsCall, IsOtherVersion}
use Rattle.log_model.specs.Signing.{Signing}
use Rattle.ivy_agent.specs.Holders.{Holder}
use Rattle.server_model.specs.Alone.{Owner, one_agent}
use Rattle.server_model.specs.Links.{Execution, Link}
use Rattle.server_model.specs.Takers.{Ring, Taker}
use Rattle.server_model.specs.declared.ended.Ended.{Ended}
use Rattle.server_model.specs.declared.ended.Ended.TheVariants as ended
use Rattle.ivy_server.specs.Passes.{Passes, by_passes}
use Rattle.ivy_server.specs.Served.{IsServed, Surroundings}

-- ---- one agent

-- the agent and its keeper, as the definitions have them
abbrev pub owner_of : {K S : Type 0} → Holder K S → Owner K S
owner_of h = record { agent = h.agent; keeper = h.keeper }

-- as `Single` says it: the pass is the agent, with its keeper
abbrev pub itself : {K S : Type 0} → Signing S → (S → Type 0) → (K → List ℕ → Bool → K → Type 0) → Passes (Holder K S) K S
itself signs is_whole saves = record {
  signs = signs;
  is_whole = is_whole;
  saves = saves;
  comes = λ pass found. found ≡ pass;
  leaves = λ pass left. left ≡ pass;
}

-- Over `Single` a link is that of one agent, whose turns follow one another by the definitions.
abbrev pub AloneIsOneAgent : {K S : Type 0} → Signing S → (S → Type 0) → (K → List ℕ → Bool → K → Type 0) → Type 0
AloneIsOneAgent {K = K} {S = S} signs is_whole saves = (ring : Ring) (p q : Holder K S) (execution : Execution) (how : Ended)
    → Link (by_passes (itself signs is_whole saves)) ring p execution how q
    → Link (one_agent signs saves) ring (owner_of p) execution how (owner_of q)

-- ---- whole calls

-- the message is a call, of whichever version (RFC 5531, section 9)
abbrev pub IsAnyCall : List ℕ → Type 0
IsAnyCall bytes = ((call : CallMessage) × IsCall bytes call) ⊎ ((xid : ℕ) × IsOtherVersion bytes xid)

-- Over a source of whole messages within the limit, each of them a call, and a sink, neither of which fails, a link ends with Done, or
-- because memory ran out.
abbrev pub WholeCallsAreDone : {P C : Type 0} → Taker P → (C → ℕ × ℕ → C → Type 0) → Type 0
WholeCallsAreDone {P = P} {C = C} taker gives = (ring : Ring) (framed : List Framed) (before after : Surroundings P C) (how : Ended)
    → AllByRecursion Fits framed → AllByRecursion (λ f. IsAnyCall (message f)) framed → before.left ≡ Some (flat_map marked framed)
    → IsServed (record { taker = taker; ring = ring; gives = gives }) before after how
    → (Rose before.reads after.reads → ⊥) → (Rose before.writes after.writes → ⊥) → (how ≡ ended.Done) ⊎ (how ≡ ended.Memory)
