-- How a call is answered on what a turn took.
use Rattle.std.specs.Prelude.{◌≡◌, ◌≤◌, ℕ, Bool, List, IsTrue}
use Rattle.std.specs.List.{AllByRecursion}
use Rattle.ivy_base.specs.Naming.{head_key_of}
use Rattle.ivy_base.specs.declared.key.PubKey.{PubKey}
use Rattle.ivy_base.specs.declared.operation.Moment.{Moment}
use Rattle.ivy_base.specs.declared.operation.Op.{Op}
use Rattle.log_model.specs.Spelling.{IsMoment}
use Rattle.log_model.specs.Vector.{Vector, seq_of}
use Rattle.log_model.specs.View.{View, IsView, is_named}
use Rattle.wire_model.specs.Rpc.{IsIdentity}
use Rattle.nfs_model.specs.Arguments.{ArgumentsFit}
use Rattle.nfs_model.specs.declared.replies.Reply.{Reply}
use Rattle.turn_model.specs.Basis.{Holding, kept_tree}
use Rattle.turn_model.specs.Turn.{Inputs, Asked}
use Rattle.ivy_agent.specs.Serving.{Served, Replies, Writes as IsToWrite, serve_on}
use Rattle.log_model.specs.Signing.{Signing}
use Rattle.agent_model.specs.Agent.{own_key}
use Rattle.ivy_agent.specs.Bounds.{HasBounds}
use Rattle.ivy_agent.specs.Outcomes.{Gives, kept_to}
use Rattle.ivy_agent.specs.Writing.{WritesDraft}
use Rattle.ivy_agent.specs.declared.saving.Kept.{Kept}
use Rattle.ivy_agent.specs.declared.writing.Done.{Done}

-- the call is one that a reader of calls gives, at a moment that can be
pub record IsCall (asked : Asked) (now : Moment) : Type 0 where
  pub caller : IsIdentity asked.caller
  pub args : ArgumentsFit asked.args
  pub moment : IsMoment now

-- The front may be cited in the view, the own log is begun in the floor, and there is no further than a log goes; and the tree has its
-- bounds.
pub record MayGoOn (view : View) (own : PubKey) (floor front : Vector) (h : Holding) : Type 0 where
  pub well : IsView view
  pub named : AllByRecursion (λ e. IsTrue (is_named view e.0)) front
  pub begun : 1 ≤ seq_of floor (head_key_of own)
  pub bounds : HasBounds (kept_tree h)

module _ {S : Type 0} (signs : Signing S) where
  -- what a call is served by
  abbrev pub goes_by : View → Kept S → Bool → Inputs
  goes_by view k has_failed = record {
    view = view;
    own = own_key signs k.signer;
    leaves = signs.remaining k.signer;
    has_failed = has_failed;
  }

  -- what is served on what is held
  abbrev pub served_on : View → Kept S → Bool → Holding → Vector → Asked → Moment → Served
  served_on view k has_failed h front asked now = serve_on (goes_by view k has_failed) (kept_tree h) (seq_of front k.log) asked now

module _ {K S : Type 0} (signs : Signing S) (IsWhole : S → Type 0) where
  -- A reply, and what is held goes into the floor; or operations, where the front goes as far in the own log as the floor does, and they
  -- are written, or their save fails.
  pub data Answers (saves : K → List ℕ → Bool → K → Type 0) (view : View) (asked : Asked) (now : Moment) (k : Kept S) (has_failed : Bool)
      (h : Holding) (front : Vector) (keeper : K) (applied : ℕ)
      (k_after : Kept S) (h_after : Holding) (keeper_after : K) (done : Done) : Type 0 where
    replies : (reply : Reply) → served_on signs view k has_failed h front asked now ≡ Replies reply → k_after ≡ kept_to k front
        → h_after ≡ h → keeper_after ≡ keeper
        → done.front ≡ front → done.has_failed ≡ has_failed → Gives reply k_after front applied done.turned
        → Answers saves view asked now k has_failed h front keeper applied k_after h_after keeper_after done
    writes : (ops : List Op) → served_on signs view k has_failed h front asked now ≡ IsToWrite ops
        → seq_of front k.log ≡ seq_of k.floor k.log
        → WritesDraft signs IsWhole saves view asked now ops k h front keeper applied k_after h_after keeper_after done
        → Answers saves view asked now k has_failed h front keeper applied k_after h_after keeper_after done
