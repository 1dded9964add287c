use Rattle.std.proofs.Common.{Some, sym, ◌∙◌}
use Rattle.ivy_io.proofs.PlaceLemmas.{laid_at, laid_nowhere, found_none}
use Rattle.ivy_io.specs.Names.{is_at}
use Rattle.ivy_io.proofs.mem_keepers.lay.Goals as goal

pub returns-in-Some : goal.returns-in-Some
returns-in-Some c = laid_at c.args.name.now (Some c.args.keeper) c.args.places.now.items c.in-Some.at c.index_mut.result.now (rw (c.as_slice.ensures.value) at (sym c.place_of.ensures ∙ c.in-Some.is)) c.index_mut.ensures.value

pub returns-in_default : goal.returns-in_default
returns-in_default c = sym (laid_nowhere c.args.name.now (Some c.args.keeper) c.args.places.now.items (found_none (is_at c.args.name.now) c.args.places.now.items (rw (c.as_slice.ensures.value) at (sym c.place_of.ensures ∙ c.in_default.is))))
