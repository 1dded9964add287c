use Rattle.std.proofs.Common.{sym}
use Rattle.script_world.proofs.Published.{publishing_shown}
use Rattle.script_world.proofs.parts.Parts.publishing_of.Goals as goal

pub returns : goal.returns
returns c = publishing_shown _ c.args.self.now c.self.view_is c.args.name.now c.in-Some-named.one.now c.in-Some.replicas c.publish.result (sym c.in-Some-named.ensures.found) c.in-Some.is c.publish.ensures.replicas c.publish.ensures.begun
