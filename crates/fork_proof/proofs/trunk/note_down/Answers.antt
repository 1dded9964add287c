use Rattle.std.proofs.Common.{sym, ◌∙◌, arith}
use Rattle.fork_proof.specs.Found.{step_seen}
use Rattle.fork_proof.proofs.TrunkLemmas.{at_next, leads_more, leads_all, leads_stop, leads_found}
use Rattle.fork_proof.proofs.trunk.note_down.Goals as goal

pub returns-then-is_some-clause-leads : goal.returns-then-is_some-clause-leads
returns-then-is_some-clause-leads c =
    leads_found c.args.blocks.now c.args.trunk.now c.records.trunk c.args.tip.now c.args.earlier.now c.records.above c.saturating_sub-seq.result c.records.last c.tip_from.result (sym c.is_some.ensures ∙ c.if-is_some.true)
    c.tip_from.ensures.begins c.tip_from.ensures.leads c.saturating_sub-seq.ensures c.records.invariant.known c.records.invariant.at c.requires c.records.invariant.keeps

pub returns-in-None-clause-leads : goal.returns-in-None-clause-leads
returns-in-None-clause-leads c =
    leads_stop c.args.blocks.now c.note.new.trunk c.args.tip.now c.records.above c.saturating_sub-seq.result c.records.last c.saturating_sub-seq.ensures
    (leads_more c.args.blocks.now c.records.trunk c.note.new.trunk c.args.tip.now c.records.above c.saturating_sub-seq.result c.records.last c.saturating_sub-seq.ensures c.records.invariant.known c.records.invariant.at
    c.in_ok-note.ensures.has c.in_ok-note.ensures.keeps)
    c.records.invariant.at (rw c.in-None.is at c.in_ok-step.ensures)

pub returns-in-None-clause-keeps : goal.returns-in-None-clause-keeps
returns-in-None-clause-keeps c = λ seq name had. c.in_ok-note.ensures.keeps seq name (c.records.invariant.keeps seq name had)

pub records-preserved : goal.records-preserved
records-preserved c = record {
  at = at_next c.args.blocks.now c.args.tip.now c.records.above c.saturating_sub-seq.result c.records.last (step_seen c.in-Some.step) c.saturating_sub-seq.ensures c.records.invariant.at (rw c.in-Some.is at c.in_ok-step.ensures);
  known = leads_more c.args.blocks.now c.records.trunk c.note.new.trunk c.args.tip.now c.records.above c.saturating_sub-seq.result c.records.last c.saturating_sub-seq.ensures c.records.invariant.known c.records.invariant.at
      c.in_ok-note.ensures.has c.in_ok-note.ensures.keeps;
  keeps = λ seq name had. c.in_ok-note.ensures.keeps seq name (c.records.invariant.keeps seq name had);
}

pub returns-clause-leads : goal.returns-clause-leads
returns-clause-leads c = leads_all c.args.blocks.now c.records.trunk c.args.tip.now c.records.above (omega (arith, c.records-test.false)) c.records.invariant.known
