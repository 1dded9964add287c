use Rattle.std.proofs.Common.{sym, ◌∙◌}
use Rattle.ivy_io.proofs.PlaceLemmas.{kept_at, kept_nowhere, given_at, given_nowhere}
use Rattle.ivy_io.proofs.mem_keepers.lend.Goals as goal
use Rattle.ivy_io.proofs.mem_keepers.lend.Goals.{in-Some-keeper+in_ok-lent-in-Some-keeper, in-None}

pub returns-in_default-clause-ok : goal.returns-in_default-clause-ok
returns-in_default-clause-ok c = rw (kept_nowhere c.args.name.now c.args.places.now.items (rw (c.as_slice.ensures.value) at (sym c.place_of.ensures ∙ c.in_default.is))) c.fresh.ensures

pub returns-in_default-clause-given : goal.returns-in_default-clause-given
returns-in_default-clause-given c = c.in_ok-push.ensures.items ∙ (rw (c.in_ok-name.ensures) (sym (given_nowhere c.args.name.now c.args.places.now.items (rw (c.as_slice.ensures.value) at (sym c.place_of.ensures ∙ c.in_default.is)))))

pub returns-clause-ok : goal.returns-clause-ok
returns-clause-ok c =
    rw (kept_at c.args.name.now c.args.places.now.items c.in-Some.at c.index.result.now (rw (c.as_slice.ensures.value) at (sym c.place_of.ensures ∙ c.in-Some.is)) c.index.ensures)
    (elim c.match-index.branch [ in-Some-keeper+in_ok-lent-in-Some-keeper w ↦ rw w.in-Some-keeper.is (w.lent-is ∙ w.in_ok-lent-in-Some-keeper.ensures) | in-None w ↦ rw w.in-None.is (w.lent-is ∙ w.fresh-lent.ensures) ])

pub returns-clause-given : goal.returns-clause-given
returns-clause-given c = given_at c.args.name.now c.args.places.now.items c.in-Some.at c.index_mut.result.now (rw (c.as_slice.ensures.value) at (sym c.place_of.ensures ∙ c.in-Some.is)) c.index_mut.ensures.value
