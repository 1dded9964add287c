use Rattle.std.proofs.Common.{rules, ◌≡◌, [], ◌∷◌, ◌++◌}
use Rattle.dhash_model.specs.Signed.{hss_judged}
use Rattle.world_mesh.proofs.Fates.{leads_more, leads_untold}
use Rattle.world_mesh.proofs.mesh.WorldMeshMesh.ask.Goals as goal

pub invariant_of-self-in_err-got : goal.invariant_of-self-in_err-got
invariant_of-self-in_err-got g c = record {
  some = c.self.invariant.some;
  few = c.self.invariant.few;
  leads =
      leads_untold hss_judged g.B.Begun.nodes c.self.inside.nodes c.given_by.new.nodes c.self.inside.trail.items c.reserve.new.self.items
      c.args.node.now c.args.ask.now c.in_ok-answer.answer c.self.invariant.leads c.are_sound.ensures c.requires c.in_err-got.ensures.reads
      c.in_ok-answer.ensures.becomes c.reserve.ensures.items;
}

pub invariant_of-self-in-Silent : goal.invariant_of-self-in-Silent
invariant_of-self-in-Silent g c =
    let pushed : c.push.new.self.items ≡ c.reserve.new.self.items ++ c.entry_of.result ∷ [] = search rules in
    record {
      some = c.self.invariant.some;
      few = c.self.invariant.few;
      leads =
          leads_more hss_judged g.B.Begun.nodes c.self.inside.nodes c.given_by.new.nodes c.self.inside.trail.items c.reserve.new.self.items
          c.push.new.self.items c.args.node.now c.args.ask.now c.in_ok-answer.answer c.in_ok-got.got c.entry_of.result c.self.invariant.leads c.requires
          c.in_ok-answer.ensures.becomes c.reserve.ensures.items pushed c.entry_of.ensures c.in_ok-got.ensures.copy;
    }

pub invariant_of-self-in_default : goal.invariant_of-self-in_default
invariant_of-self-in_default g c =
    let pushed : c.push.new.self.items ≡ c.reserve.new.self.items ++ c.entry_of.result ∷ [] = search rules in
    record {
      some = c.self.invariant.some;
      few = c.self.invariant.few;
      leads =
          leads_more hss_judged g.B.Begun.nodes c.self.inside.nodes c.given_by.new.nodes c.self.inside.trail.items c.reserve.new.self.items
          c.push.new.self.items c.args.node.now c.args.ask.now c.in_ok-answer.answer c.in_ok-got.got c.entry_of.result c.self.invariant.leads c.requires
          c.in_ok-answer.ensures.becomes c.reserve.ensures.items pushed c.entry_of.ensures c.in_ok-got.ensures.copy;
    }
