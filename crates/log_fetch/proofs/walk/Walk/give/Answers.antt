use Rattle.std.proofs.Common.{◌-◌, List, Option, None, sym, ap, subst}
use Rattle.ivy_base.specs.declared.key.PubKey.{PubKey}
use Rattle.log_model.specs.Record.{Record}
use Rattle.log_records.specs.Records.{record_of}
use Rattle.log_fetch.specs.declared.reading.Reading.{Reading}
use Rattle.log_fetch.specs.Reading.{Says}
use Rattle.log_fetch.specs.Walking.{Walking, HasBeenGiven, AreOwned, kept_of}
use Rattle.log_fetch.proofs.Further.{given_good, given_misnumbered, given_garbled}
use Rattle.log_fetch.proofs.Lists.{is_suc}
use Rattle.log_fetch.proofs.walk.Walk.give.Goals as goal

pub returns-in_ok-keep-in-Good-clause-given : goal.returns-in_ok-keep-in-Good-clause-given
returns-in_ok-keep-in-Good-clause-given c =
    let old = c.self.inside in
    let says = subst (λ (x : Reading). Says old.owner c.args.bytes.now x) c.in-Good.is c.in_ok-good.ensures in
    subst (λ (s : Walking). HasBeenGiven s (record { owner = old.owner; left = old.left - 1; next = c.in-Good.good.prev; found = kept_of c.keep.new.found }) c.args.bytes.now) c.self.view_is (
    subst (λ (f : Option (List Record)). HasBeenGiven (record { owner = old.owner; left = old.left; next = old.next; found = kept_of old.found }) (record { owner = old.owner; left = old.left - 1; next = c.in-Good.good.prev; found = f }) c.args.bytes.now) (sym c.in_ok-keep-in-Good.ensures.kept)
    (given_good old.owner old.next (kept_of old.found) c.args.bytes.now old.left (old.left - 1) (is_suc old.left c.args.self.now.left (ap (λ (w : Walking). w.left) c.self.view_is) c.requires) (record_of c.in-Good.good) says)
    )

pub returns-in-Misnumbered-clause-given : goal.returns-in-Misnumbered-clause-given
returns-in-Misnumbered-clause-given c =
    let old = c.self.inside in
    let says = subst (λ (x : Reading). Says old.owner c.args.bytes.now x) c.in-Misnumbered.is c.in_ok-good.ensures in
    subst (λ (s : Walking). HasBeenGiven s (record { owner = old.owner; left = old.left - 1; next = c.in-Misnumbered.before; found = None }) c.args.bytes.now) c.self.view_is
    (given_misnumbered old.owner old.next (kept_of old.found) c.args.bytes.now old.left (old.left - 1) (is_suc old.left c.args.self.now.left (ap (λ (w : Walking). w.left) c.self.view_is) c.requires) c.in-Misnumbered.before says)

pub returns-in-Garbled-clause-given : goal.returns-in-Garbled-clause-given
returns-in-Garbled-clause-given c =
    let old = c.self.inside in
    let says = subst (λ (x : Reading). Says old.owner c.args.bytes.now x) c.in-Garbled.is c.in_ok-good.ensures in
    subst (λ (s : Walking). HasBeenGiven s (record { owner = old.owner; left = 0; next = old.next; found = None }) c.args.bytes.now) c.self.view_is
    (given_garbled old.owner old.next (kept_of old.found) c.args.bytes.now old.left (old.left - 1) (is_suc old.left c.args.self.now.left (ap (λ (w : Walking). w.left) c.self.view_is) c.requires) old.next says)

pub invariant_of-self : goal.invariant_of-self
invariant_of-self c =
    let says = subst (λ (x : Reading). Says c.self.inside.owner c.args.bytes.now x) c.in-Good.is c.in_ok-good.ensures in
    let same = says.owned in
    subst (λ (o : PubKey). AreOwned o (kept_of c.keep.new.found)) same (c.keep.ensures.owned (subst (λ (o : PubKey). AreOwned o (kept_of c.self.inside.found)) (sym same) c.self.invariant))

pub invariant_of-self-in-Good : goal.invariant_of-self-in-Good
invariant_of-self-in-Good c =
    let says = subst (λ (x : Reading). Says c.self.inside.owner c.args.bytes.now x) c.in-Good.is c.in_ok-good.ensures in
    let same = says.owned in
    subst (λ (o : PubKey). AreOwned o (kept_of c.keep.new.found)) same (c.keep.ensures.owned (subst (λ (o : PubKey). AreOwned o (kept_of c.self.inside.found)) (sym same) c.self.invariant))
