use Rattle.std.proofs.Common.{◌∙◌, ap, ◌++◌, ◌∷◌, []}
use Rattle.ivy_service.proofs.Ways.{over_new_ring}
use Rattle.ivy_service.proofs.service.serve_behind_gate.Goals as goal

pub returns-clause-served : goal.returns-clause-served
returns-clause-served g c = (
  record { why = c.serve_links-passes.result.why; lacked = c.serve_links-passes.result.lacked_memory },
  c.status_served.ensures,
  record {
    gate = c.in-Ok-make.gate;
    opens = c.in-Ok-make.ensures.pass.1;
    pass = c.in-Ok-make.pass;
    of = c.in-Ok-make.ensures.pass.0;
    unseen = c.in-Ok-make.ensures.new.1;
    passes = c.serve_links-passes.result.passes.items;
    serves = over_new_ring _ _ _ _ _ _ _ _ _ _ _ c.requires.ring (c.push_reserved.ensures.items ∙ ap (λ items. items ++ c.in-Ok-make.pass ∷ []) c.in-Ok.ensures.items)
        c.serve_links-passes.ensures.served;
    counts = c.serve_links-passes.ensures.counts;
    turns = c.in-Ok-close.field-0.turns;
    whole = c.in-Ok-close.ensures.closed.1;
  },
)
