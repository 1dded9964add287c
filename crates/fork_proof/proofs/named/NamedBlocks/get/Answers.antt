use Rattle.std.proofs.Common.{◌≡◌, ◌<◌, ℕ, List, [], length, Some, None, Option, option_map, get_or, sym, ap, ◌∙◌, arith}
use Rattle.fork_proof.specs.Places.{place_of}
use Rattle.fork_proof.proofs.PlaceLemmas.{place_within, named_at}
use Rattle.fork_proof.proofs.named.NamedBlocks.get.Goals as goal

pub returns-in_err-place : goal.returns-in_err-place
returns-in_err-place c =
    let none : None ≡ place_of c.args.name.now c.self.inside.blocks.now = c.in_err-place.ensures ∙ c.get.ensures.value ∙ c.self.invariant c.args.name.now in
    rw (c.from_residual.ensures, ← c.self.view_is)
    (ap (option_map (λ (i : ℕ). get_or c.self.inside.blocks.now i [])) none ∙ sym (named_at c.args.name.now c.self.inside.blocks.now []))

pub returns-in_err-block : goal.returns-in_err-block
returns-in_err-block c =
    let there : Some c.in_ok-place.place ≡ place_of c.args.name.now c.self.inside.blocks.now = c.in_ok-place.ensures ∙ c.get.ensures.value ∙ c.self.invariant c.args.name.now in
    let within : c.in_ok-place.place < length c.self.inside.blocks.now = place_within c.args.name.now c.self.inside.blocks.now c.in_ok-place.place (sym there) in
    absurd (omega (arith, within, c.in_err-block.ensures.lookup.3))

pub returns : goal.returns
returns c =
    let there : Some c.in_ok-place.place ≡ place_of c.args.name.now c.self.inside.blocks.now = c.in_ok-place.ensures ∙ c.get.ensures.value ∙ c.self.invariant c.args.name.now in
    rw (← c.self.view_is)
    (ap Some (c.as_slice.ensures ∙ c.in_ok-block.ensures.lookup.1)
    ∙ ap (option_map (λ (i : ℕ). get_or c.self.inside.blocks.now i c.in_ok-block.block.now)) there
    ∙ sym (named_at c.args.name.now c.self.inside.blocks.now c.in_ok-block.block.now))
