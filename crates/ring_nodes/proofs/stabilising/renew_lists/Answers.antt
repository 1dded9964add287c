use Rattle.std.proofs.Common.{◌∙◌, ◌*◌, sym, subst, rules}
use Rattle.world_model.specs.Rounds.{EachDoes, Stabilises}
use Rattle.ring_nodes.specs.NodesState.{AreAllAmong}
use Rattle.ring_nodes.proofs.Parts.{passed_all, passed_more, passed_none}
use Rattle.ring_nodes.proofs.stabilising.renew_lists.Goals as goal

pub passes-init : goal.passes-init
passes-init g c = passed_none (EachDoes (λ v p. Stabilises (g.J.Judge.judges c.args.judge.now) p v)) c.args.nodes.now c.args.live.now

pub pass-requires : goal.pass-requires
pass-requires g c = subst (λ made. AreAllAmong made c.args.live.now) (sym c.passes.invariant.made) c.requires.made

pub returns-in_err-pass-clause-made : goal.returns-in_err-pass-clause-made
returns-in_err-pass-clause-made g c = c.pass.ensures.made ∙ c.passes.invariant.made

pub passes-preserved : goal.passes-preserved
passes-preserved g c = passed_more (EachDoes (λ v p. Stabilises (g.J.Judge.judges c.args.judge.now) p v)) c.args.nodes.now c.passes.nodes c.pass.new.nodes c.args.live.now c.passes.counter c.passes.invariant c.in_ok-pass.ensures.passes c.pass.ensures.made

pub returns-clause-passes : goal.returns-clause-passes
returns-clause-passes g c = passed_all (EachDoes (λ v p. Stabilises (g.J.Judge.judges c.args.judge.now) p v)) c.args.nodes.now c.passes.nodes c.args.live.now c.passes.counter (2 * c.args.replicas) c.passes.invariant (search rules)

pub returns-clause-made : goal.returns-clause-made
returns-clause-made g c = c.passes.invariant.made
