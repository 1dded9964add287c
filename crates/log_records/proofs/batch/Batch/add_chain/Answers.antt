use Rattle.std.proofs.Common.{refl, sym, ap, subst, Contains}
use Rattle.std.proofs.lemmas.Result.{err_from_is_err_and}
use Rattle.log_model.specs.Heads.{stamp}
use Rattle.log_model.specs.Fetched.{owner_of}
use Rattle.log_records.specs.Records.{records_of}
use Rattle.log_records.specs.Kept.{chains_of}
use Rattle.log_records.specs.Batches.{Batch, owners_in}
use Rattle.log_records.proofs.Batches.{extends, kept_push}
use Rattle.log_records.proofs.batch.Batch.add_chain.Goals as goal

pub returns-in_err-test_chain-clause-fault : goal.returns-in_err-test_chain-clause-fault
returns-in_err-test_chain-clause-fault c =
    let p = err_from_is_err_and c.from_residual.result c.from_residual.ensures.1 in
    rw (← c.self.view_is, p.1, p.2) (rw c.deref.ensures.value at c.in_err-test_chain.ensures.fault)

pub invariant_of-self : goal.invariant_of-self
invariant_of-self c =
    let held = c.self.inside.held in
    let floor = c.self.inside.floor in
    let kept = c.self.inside.chains.items in
    let chain = records_of c.args.chain.items in
    kept_push (record { held = held; floor = floor; chains = chains_of kept }) kept c.push.new.self.items (record { head = c.args.head; records = c.of-records.result }) chain
    refl c.in-Ok.ensures.items (ap records_of c.of-records.ensures) c.self.invariant
    (extends c.args.view.now held floor c.args.edge (stamp c.args.head.seq c.args.head.name) chain (rw c.deref.ensures.value at c.in_ok-test_chain.ensures.sound) (rw c.deref.ensures.value at c.in_ok-test_chain.ensures.onward))
    (subst (λ (b : Batch). Contains (owners_in b.chains) (owner_of chain) → ⊥) (sym c.self.view_is) c.requires.new_log)
