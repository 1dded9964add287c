use Rattle.std.proofs.Common.{◌<◌, ℕ, List, length, sym, subst}
use Rattle.std.specs.List.{All}
use Rattle.std.proofs.lemmas.List.Elements.{All-from_recursion}
use Rattle.log_model.specs.Closed.{log_of}
use Rattle.log_records.specs.Records.{records_of}
use Rattle.causal_order.proofs.Starts.{places_within}
use Rattle.causal_order.proofs.start.held_log.Goals as goal

pub tip_of-requires : goal.tip_of-requires
tip_of-requires c =
    let held = c.args.base.now.held.now in
    subst (λ (ps : List ℕ). All (λ place. place < length held) ps) (sym c.as_slice.ensures.value)
    (All-from_recursion (λ place. place < length held) c.in_ok-places.places.items (places_within held c.in_ok-places.places.items (log_of c.args.owner.now (records_of held)) c.in_ok-places.ensures))
