-- What is held over a basis goes beyond it in its log, and the front of both as far.
use Rattle.std.proofs.Common.{◌≡◌, ◌+◌, ◌<◌, ◌≤◌, Bool, cond, List, [], ◌∷◌, map, fold, refl, ap, ◌∙◌, arith, Contains}
use Rattle.std.specs.List.{AllByRecursion}
use Rattle.std.specs.Ordering.{eq_by_cmp}
use Rattle.ivy_base.specs.declared.key.Key.{Key}
use Rattle.ivy_base.specs.Naming.{head_key_of, key_cmp}
use Rattle.tree_model.proofs.Keys.{same_key_itself}
use Rattle.log_model.specs.Closed.{log_of}
use Rattle.log_model.specs.Rank.{full_vector}
use Rattle.log_model.specs.Record.{Record}
use Rattle.log_model.specs.Vector.{Vector, Dominates, seq_of, stamp_at, join}
use Rattle.log_model.specs.View.{View}
use Rattle.log_model.proofs.Later.{seq_with}
use Rattle.log_model.proofs.Lists.{each, each_from}
use Rattle.log_model.proofs.Part.{numbers_from}
use Rattle.log_model.proofs.Weights.{joins_reach}
use Rattle.causal_order.specs.Over.{IsClosed}
use Rattle.causal_order.proofs.Logs.{numbers_over}
use Rattle.causal_order.proofs.Passes.{in_log}
use Rattle.ivy_agent.specs.Edges.{IsBeyond, KnowsOthers}

all_reached : (f : Vector) (s : List Record) → AllByRecursion (λ w. Dominates f w) (map full_vector s) → AllByRecursion (λ q. Dominates f (full_vector q)) s
all_reached f [] h = tt
all_reached f (q ∷ s) h = (h.0, all_reached f s h.1)

module _ (view : View) (base : Vector) (held : List Record) (closed : IsClosed view base held) (others : AllByRecursion KnowsOthers held) where
  abbrev front : Vector
  front = fold join base (map full_vector held)

  beyond : (r : Record) → Contains held r → IsBeyond base front r
  beyond r c =
      let log = head_key_of r.owner in
      let low : seq_of base log + 1 ≤ r.seq = each (λ q. seq_of base log + 1 ≤ q.seq) (log_of r.owner held) r
      (numbers_from (seq_of base log + 1) (log_of r.owner held) (numbers_over view r.owner (stamp_at base log) (log_of r.owner held) (closed.chains r.owner)) (seq_of base log + 1) (omega arith))
      (in_log r.owner held r c refl) in
      let here : seq_of (full_vector r) log ≡ r.seq = seq_with r.vector r log (each KnowsOthers held r others c) ∙ ap (λ (b : Bool). cond b r.seq (seq_of r.vector log)) (same_key_itself log) in
      let far : seq_of (full_vector r) log ≤ seq_of front log = each (λ q. Dominates front (full_vector q)) held r (all_reached front held (joins_reach (map full_vector held) base)) c log in
      omega (arith, low, here, far)

  pub all_beyond : AllByRecursion (IsBeyond base front) held
  all_beyond = each_from (IsBeyond base front) held beyond
