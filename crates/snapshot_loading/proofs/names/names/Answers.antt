use Rattle.std.proofs.Common.{IfErr, sym, subst}
use Rattle.snapshot_loading.specs.declared.role.Role.{Role}
use Rattle.snapshot_loading.specs.Roles.{part_of, RefusesPart}
use Rattle.snapshot_loading.proofs.names.names.Goals as goal

pub returns-in-Root-clause-err : goal.returns-in-Root-clause-err
returns-in-Root-clause-err c = subst (λ (r : Role). IfErr c.in_root.result (RefusesPart (part_of r) c.args.block.now)) (sym c.in-Root.is) c.in_root.ensures.err

pub returns-in-List-clause-err : goal.returns-in-List-clause-err
returns-in-List-clause-err c = subst (λ (r : Role). IfErr c.in_list.result (RefusesPart (part_of r) c.args.block.now)) (sym c.in-List.is) c.in_list.ensures.err
