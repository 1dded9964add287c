use Rattle.std.proofs.Common.{◌≡◌, ◌+◌, ◌≤◌, List, ℕ, [], ◌∷◌, ◌++◌, map, Some, None, Option, Bor, ap, ◌∙◌, sym, arith}
use Rattle.std.proofs.lemmas.List.{map-append}
use Rattle.fork_model.specs.Finding as model
use Rattle.fork_proof.specs.Found.{tip_seen, step_seen}
use Rattle.fork_proof.proofs.WaysDown.{way_on, way_ends}
use Rattle.fork_proof.proofs.ways.way_down.Goals as goal

pub returns-in-None : goal.returns-in-None
returns-in-None c = λ before tells.
    let seen : model.Way = record { blocks = map (λ (b : Bor (List ℕ)). b.now) c.records.passed.items; last = c.records.last } in
    way_ends before c.args.blocks.now (tip_seen c.args.tip.now) c.args.count (c.records.above + 1) (omega (arith, c.records-test.true))
    (way_on before c.args.blocks.now (tip_seen c.args.tip.now) c.records.above c.saturating_sub-seq.result seen None c.saturating_sub-seq.ensures (c.records.invariant before tells) ((rw c.in-None.is at c.in_ok-step.ensures) before tells))

pub records-preserved : goal.records-preserved
records-preserved c = λ before tells.
    let seen : model.Way = record { blocks = map (λ (b : Bor (List ℕ)). b.now) c.records.passed.items; last = c.records.last } in
    ap (λ (l : List (List ℕ)). Some (record { blocks = l; last = c.in-Some.step.prev }))
    (ap (map (λ (b : Bor (List ℕ)). b.now)) c.in_ok-push-in-Some.ensures.items ∙ map-append (λ (b : Bor (List ℕ)). b.now) c.records.passed.items (c.in-Some.step.block ∷ []))
    ∙ way_on before c.args.blocks.now (tip_seen c.args.tip.now) c.records.above c.saturating_sub-seq.result seen (Some (step_seen c.in-Some.step)) c.saturating_sub-seq.ensures (c.records.invariant before tells)
    ((rw c.in-Some.is at c.in_ok-step.ensures) before tells)
