use Rattle.std.proofs.Common.{List, [], subst, sym}
use Rattle.std.proofs.lemmas.List.{take_all}
use Rattle.log_records.specs.declared.batch.Chain.{Chain}
use Rattle.turn_taking.specs.Chains.{chains_in}
use Rattle.turn_taking.specs.Naming.{AllNamesOf}
use Rattle.turn_taking.specs.declared.names.Names.{Names}
use Rattle.turn_taking.proofs.NameLemmas.{kept_more}
use Rattle.turn_taking.proofs.names.all_names.Goals as goal

pub chains-init : goal.chains-init
chains-init c = subst (λ (all : List Names). AllNamesOf all []) (sym c.in_ok-all.ensures.items) tt

pub chains-preserved : goal.chains-preserved
chains-preserved c = kept_more c.args.chains.now c.chains.chain-index c.chain-item.result c.chains.all.items c.push.new.self.items c.in_ok-names_in.field-0 c.chains-test.true c.chain-item.is c.in_ok-push.ensures.items c.chains.invariant c.in_ok-names_in.ensures

pub returns : goal.returns
returns c = subst (λ (chains : List Chain). AllNamesOf c.chains.all.items (chains_in chains)) (take_all c.chains.chain-index c.args.chains.now c.chains-test.false) c.chains.invariant
