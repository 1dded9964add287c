use Rattle.std.proofs.Common.{ap}
use Rattle.world_mesh.specs.Trails.{MeshState}
use Rattle.world_mesh.proofs.Entries.{entries_are, all_ascend_in}
use Rattle.world_mesh.proofs.mesh.WorldMeshMesh.entries.Goals as goal

pub returns-clause-made : goal.returns-clause-made
returns-clause-made g c = entries_are c.self.inside.nodes c.args.self.now.nodes c.entries.result (ap (λ (m : MeshState). m.nodes) c.self.view_is) c.entries.ensures

pub returns-clause-ascending : goal.returns-clause-ascending
returns-clause-ascending g c = all_ascend_in c.self.inside.nodes c.entries.result c.are_sound.ensures c.entries.ensures
