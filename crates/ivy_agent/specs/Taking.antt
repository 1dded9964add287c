-- What a turn on what is held comes to.
use Rattle.std.specs.Prelude.{◌≡◌, ◌≤◌, ℕ, length, Bool, true, false, List, Contains, Option, None, Result, Ok, Err}
use Rattle.std.specs.List.{AllByRecursion}
use Rattle.ivy_base.specs.declared.key.Key.{Key}
use Rattle.ivy_base.specs.declared.key.PubKey.{PubKey}
use Rattle.ivy_base.specs.declared.operation.Moment.{Moment}
use Rattle.ivy_base.specs.Naming.{head_key_of}
use Rattle.log_model.specs.Record.{Record}
use Rattle.log_model.specs.Spelling.{most_records}
use Rattle.log_model.specs.Vector.{Vector, seq_of}
use Rattle.log_model.specs.View.{View}
use Rattle.log_records.specs.Batches.{Batch, AreUnder}
use Rattle.causal_order.specs.Over.{IsClosed}
use Rattle.turn_model.specs.Basis.{Holding}
use Rattle.turn_model.specs.Turn.{Asked}
use Rattle.turn_model.specs.Work.{applied_between}
use Rattle.log_model.specs.Signing.{Signing}
use Rattle.log_model.specs.Fetched.{Edge, owner_of}
use Rattle.agent_model.specs.Agent.{joined, own_key}
use Rattle.turn_laws.specs.Taking.{TakesNew, refresh_with, with_new}
use Rattle.agent_model.specs.Turning.{is_behind, is_below_tide}
use Rattle.turn_taking.specs.Taking.{IsWithin}
use Rattle.version_vectors.specs.Vectors.{IsVector}
use Rattle.ivy_agent.specs.Bounds.{HasBounds}
use Rattle.ivy_agent.specs.Answering.{Answers}
use Rattle.ivy_agent.specs.declared.saving.Kept.{Kept}
use Rattle.ivy_agent.specs.declared.writing.Done.{Done}
use Rattle.ivy_agent.specs.declared.taking.Refusal.{Refusal}
use Rattle.ivy_agent.specs.declared.taking.Refusal.TheVariants as refusal
use Rattle.nfs_model.specs.Results.{longest_result}

-- a turn of the view's member may go on from that, with the batch: it was fetched under the view, of its members
pub record MayTakeFrom (view : View) (own : PubKey) (floor : Vector) (h : Holding) (b : Batch) : Type 0 where
  pub member : Contains view.members own
  pub begun : 1 ≤ seq_of floor (head_key_of own)
  pub few : seq_of floor (head_key_of own) ≤ most_records
  pub bounds : HasBounds h.basis.tree
  pub closed : IsClosed view h.basis.front h.held
  pub base : IsWithin view own floor h.basis.front
  pub inside : IsWithin view own floor (joined h)
  pub under : (edges : Key → Option Edge) × AreUnder view edges b
  pub members : AllByRecursion (λ c. Contains view.members (owner_of c.1)) b.chains

module _ {K S : Type 0} (signs : Signing S) (IsWhole : S → Type 0) (saves : K → List ℕ → Bool → K → Type 0) (view : View) (b : Batch)
    (asked : Asked) (now : Moment) (k : Kept S) (has_failed : Bool) (h : Holding) (keeper : K) where
  -- the new records were taken, and the call is answered on them
  pub record TakesAndAnswers (k_after : Kept S) (h_after : Holding) (keeper_after : K) (done : Done) : Type 0 where
    pub new : List Record
    pub takes : TakesNew view (own_key signs k.signer) k.floor h (refresh_with b None) new
    pub inside : IsWithin view (own_key signs k.signer) k.floor (joined (with_new h new))
    pub base : IsVector h.basis.front
    pub front : IsVector (joined (with_new h new))
    pub short : length done.turned.reply ≤ longest_result
    pub answers : Answers signs IsWhole saves view asked now k has_failed (with_new h new) (joined (with_new h new)) keeper
        (applied_between h.held (with_new h new).held) k_after h_after keeper_after done

  abbrev pub TurnsOn : Result Done Refusal → Kept S → Holding → K → Type 0
  TurnsOn (Ok done) k_after h_after keeper_after = TakesAndAnswers k_after h_after keeper_after done
  TurnsOn (Err refusal.Behind) k_after h_after keeper_after = is_behind view (own_key signs k.signer) k.floor h (refresh_with b None) ≡ true
  TurnsOn (Err refusal.BelowTide) k_after h_after keeper_after =
      (is_behind view (own_key signs k.signer) k.floor h (refresh_with b None) ≡ false)
      × (is_below_tide (own_key signs k.signer) k.floor h (refresh_with b None) ≡ true)
  TurnsOn (Err refusal.Memory) k_after h_after keeper_after = Unit {0}
