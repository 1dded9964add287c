use Rattle.std.proofs.Common.{◌≡◌, IfOk, Option, Some, None, sym, ap, ◌∙◌, subst}
use Rattle.dhash_repair.specs.Putting.{Putting, PuttingHasHeard}
use Rattle.dhash_repair.specs.Repairing.{RepairState, awaited_in}
use Rattle.dhash_repair.proofs.Repairing.{heard_by}
use Rattle.dhash_repair.proofs.repair.Repair.heard.Goals as goal
use Rattle.dhash_repair.proofs.repair.Repair.heard.Goals.{in-Some, in-None+in-Route-1, in-None+in-Near-1, in-None+in-Found-1, in-None+in-Nothing-1}

pub returns-clause-heard : goal.returns-clause-heard
returns-clause-heard c =
    let put_is : c.self.inside.put ≡ c.args.self.now.put = ap (λ (s : RepairState). s.put) c.self.view_is in
    let nobody : c.self.inside.put ≡ None → ⊥ = λ none. c.requires (ap (λ (o : Option Putting). awaited_in o) (sym put_is ∙ none)) in
    elim c.match-self.branch [
      | in-Some w ↦
          heard_by c.args.self.now _ w.in-Some.put w.heard.new.self c.args.answer (sym put_is ∙ w.in-Some.is)
          ((λ i. record {
            node = (w.self-inside-is i).node;
            replicas = (w.self-inside-is i).replicas;
            put = (w.self-inside-is i).put;
            left = (w.self-inside-is i).left.items;
            dropped = (w.self-inside-is i).dropped.items;
          }) ∙ ap (λ (s : RepairState). record s { put = Some w.heard.new.self }) c.self.view_is)
          c.match-self.result (subst (λ r. IfOk r (λ _. PuttingHasHeard w.in-Some.put w.heard.new.self c.args.answer)) (sym w.result-is) w.heard.ensures.heard)
      | in-None+in-Route-1 w ↦ absurd (nobody w.in-None.is)
      | in-None+in-Near-1 w ↦ absurd (nobody w.in-None.is)
      | in-None+in-Found-1 w ↦ absurd (nobody w.in-None.is)
      | in-None+in-Nothing-1 w ↦ absurd (nobody w.in-None.is)
    ]
