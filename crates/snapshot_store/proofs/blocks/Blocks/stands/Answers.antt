use Rattle.std.proofs.Common.{◌≡◌, true, sym, ap, ◌∙◌, arith}
use Rattle.std.specs.Str.{bytes_eq}
use Rattle.ivy_base.specs.Naming.{name}
use Rattle.snapshot_store.proofs.Places.{place_within, among_at}
use Rattle.snapshot_store.proofs.blocks.Blocks.stands.Goals as goal

pub index-requires : goal.index-requires
index-requires c = omega (arith, place_within (name c.args.block.now) c.self.inside.blocks.items c.args.place (rw (← c.self.view_is) at c.requires))

pub returns-then-eq : goal.returns-then-eq
returns-then-eq c =
    let within = place_within (name c.args.block.now) c.self.inside.blocks.items c.args.place (rw (← c.self.view_is) at c.requires) in
    let same : bytes_eq c.as_slice.result.now c.args.block.now ≡ true = sym c.eq.ensures ∙ c.if-eq.true in
    rw (← c.self.view_is)
    (c.if-eq.true ∙ sym (among_at c.args.block.now c.self.inside.blocks.items c.args.place c.index.result.now within (ap (λ b. bytes_eq b c.args.block.now) (sym (c.as_slice.ensures ∙ c.index.ensures)) ∙ same)))
