use Rattle.ivy_cli.proofs.GeneratorLemmas.{no_draws, no_calls, three_draws, one_more, all_calls}
use Rattle.std.proofs.Common.{◌∙◌, sym, arith}
use Rattle.ivy_cli.proofs.script.generate.Goals as goal

pub calls-init : goal.calls-init
calls-init c = record {
  draws = c.of-draws.ensures ∙ sym (no_draws _);
  script = no_calls _ _ _ _ c.new-script.ensures.items c.as_slice.ensures c.in_ok-extend_from_slice.ensures.items;
}

pub calls-preserved : goal.calls-preserved
calls-preserved c = record {
  draws = three_draws _ _ _ _ c.calls.invariant.draws c.put_call.ensures.moved;
  script = one_more _ _ _ _ _ _ c.calls.invariant.draws c.calls.invariant.script c.from.ensures c.in_ok-put_call.ensures.put;
}

pub returns : goal.returns
returns c = c.of.ensures ∙ all_calls _ _ _ _ _ _ c.calls.invariant.script (omega arith) c.as_slice-2.ensures c.in_ok-extend_from_slice-2.ensures.items
