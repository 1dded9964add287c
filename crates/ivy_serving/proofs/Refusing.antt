-- Why ports gave no link.
use Rattle.std.proofs.Common.{◌≡◌, ◌≤◌, sym, subst}
use Rattle.ivy_io.specs.Causes.{Rose}
use Rattle.ivy_serving.specs.declared.fault.ServeFault.TheVariants as fault
use Rattle.ivy_serving.specs.Serving.{PortsKind, RefusesLink, failed, memory}

module _ {P Q W : Type 0} (ports : PortsKind P Q W) where
  pub refuses_failed : (p q r : P) → p ≡ q → Rose (ports.faults q) (ports.faults r) → ports.faults q ≤ ports.faults r → ports.ends r ≡ ports.ends q → ports.links r ≡ ports.links q
      → RefusesLink ports p fault.Failed r
  refuses_failed p q r same rose later ends links = subst (λ x. RefusesLink ports x fault.Failed r) (sym same) (failed rose later ends links)

  pub refuses_memory : (p q r : P) → p ≡ q → r ≡ q → RefusesLink ports p fault.Memory r
  refuses_memory p q r same is = subst (λ x. RefusesLink ports x fault.Memory r) (sym same) (subst (λ x. RefusesLink ports q fault.Memory x) (sym is) memory)
