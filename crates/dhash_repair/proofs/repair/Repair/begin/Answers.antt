use Rattle.std.proofs.Common.{Some, sym, ap, ◌∙◌}
use Rattle.dhash_repair.specs.Putting.{Putting, putting}
use Rattle.dhash_repair.specs.Repairing.{RepairState}
use Rattle.dhash_repair.proofs.Repairing.{begun_by}
use Rattle.dhash_repair.proofs.repair.Repair.begin.Goals as goal

pub returns-in_ok-start-in-Some : goal.returns-in_ok-start-in-Some
returns-in_ok-start-in-Some c =
    begun_by c.args.self.now _ c.in-Some.post c.pop_front.new.self.items c.requires (sym (ap (λ (s : RepairState). s.left) c.self.view_is) ∙ c.in-Some.ensures.items)
    (ap (λ (p : Putting). record { node = c.self.inside.node; replicas = c.self.inside.replicas; put = Some p; left = c.pop_front.new.self.items; dropped = c.self.inside.dropped.items }) c.in_ok-start-in-Some.ensures
    ∙ ap (λ (s : RepairState). record s { put = Some (putting s.node c.in-Some.post s.replicas); left = c.pop_front.new.self.items }) c.self.view_is)
