use Rattle.std.proofs.Common.{◌<◌, ◌≤◌, ◌∙◌, List, length, ap, subst, sym}
use Rattle.hash_signature_model.specs.declared.set.Set.{Set}
use Rattle.world_model.specs.Logs.{fresh_signer}
use Rattle.ivy_cli.proofs.RunLemmas.{goes_as, goes_nowhere}
use Rattle.ivy_cli.proofs.serving.serve_participant.Goals as goal

pub grow-requires-clause-some : goal.grow-requires-clause-some
grow-requires-clause-some g c = subst (λ (s : List Set). 0 < length s) (sym c.as_slice.ensures) c.requires.some

pub grow-requires-clause-few : goal.grow-requires-clause-few
grow-requires-clause-few g c = subst (λ (s : List Set). length s ≤ 3) (sym c.as_slice.ensures) c.requires.few

pub returns-in_default : goal.returns-in_default
returns-in_default g c = goes_nowhere _ _ _ _ _

pub returns : goal.returns
returns g c = goes_as _ _ _ _ _ _ _ _ _ c.as_slice-2.ensures
    (c.in-Ok.ensures ∙ ap (λ (s : List Set). fresh_signer c.args.participant.now.id c.args.participant.now.seed s) c.as_slice.ensures) c.serve.ensures
