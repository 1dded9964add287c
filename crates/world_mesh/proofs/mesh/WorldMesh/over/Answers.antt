use Rattle.std.proofs.Common.{[], List, sym, subst}
use Rattle.dht_ids.specs.declared.ask.Heard.{Heard}
use Rattle.dhash_model.specs.Signed.{hss_judged}
use Rattle.world_mesh.specs.Trails.{LeadsTo}
use Rattle.world_mesh.specs.Trails.LeadsTo.{none}
use Rattle.world_mesh.proofs.Entries.{some_entries}
use Rattle.world_mesh.proofs.mesh.WorldMesh.over.Goals as goal

pub invariant_of-result : goal.invariant_of-result
invariant_of-result g c = record {
  some = c.requires.few.0;
  few = c.requires.few.1;
  leads =
      subst (λ (l : List Heard). LeadsTo hss_judged g.B.Begun.nodes l c.args.nodes) (sym c.new.ensures.items)
      (subst (λ s. LeadsTo hss_judged g.B.Begun.nodes [] s) (sym c.requires.begun) none);
}

pub returns-clause-some : goal.returns-clause-some
returns-clause-some g c = some_entries c.args.nodes
