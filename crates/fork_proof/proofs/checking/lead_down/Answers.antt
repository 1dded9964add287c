use Rattle.std.proofs.Common.{◌≡◌, ◌≤◌, length, map, refl, arith}
use Rattle.std.proofs.lemmas.List.{length-map}
use Rattle.fork_proof.specs.Forms.{here}
use Rattle.fork_proof.specs.Reading.{proof_of}
use Rattle.fork_proof.proofs.Walks.{breaks_in, leads_in, leads_all}
use Rattle.fork_proof.proofs.checking.lead_down.Goals as goal

pub blocks-2-init : goal.blocks-2-init
blocks-2-init c = record { place = refl; seq = omega arith; leads = here }

pub returns-in-None-clause-err : goal.returns-in-None-clause-err
returns-in-None-clause-err c =
    breaks_in (λ b. b.now) (proof_of c.args.proof.now) c.args.proof.now.blocks.items c.deref-block-items.result.now c.blocks-2.block-index c.blocks-2.place c.blocks-2.seq c.blocks-2.name _ refl
    c.deref-block-items.ensures.value c.blocks-2-test.true c.blocks-2.invariant.place c.blocks-2.invariant.leads c.blocks-2.invariant.seq (rw c.in-None.is at c.in_ok-prev.ensures)

pub blocks-2-preserved : goal.blocks-2-preserved
blocks-2-preserved c =
    let size : length (map (λ b. b.now) c.args.proof.now.blocks.items) ≡ length c.args.proof.now.blocks.items = length-map c.args.proof.now.blocks.items (λ b. b.now) in
    let some : 1 ≤ c.blocks-2.seq = omega (arith, size, c.requires.count, c.requires.low.some, c.blocks-2.invariant.seq, c.deref-block-items.ensures.len) in
    record {
      place = omega (arith, c.blocks-2.invariant.place);
      seq = omega (arith, some, c.blocks-2.invariant.seq);
      leads = leads_in c.args.proof.now.low.head.owner (λ b. b.now) c.args.proof.now.blocks.items c.deref-block-items.result.now c.blocks-2.block-index c.blocks-2.seq c.args.proof.now.high.head.seq
          c.args.proof.now.high.head.name c.blocks-2.name c.in-Some.prev _ c.deref-block-items.ensures.value c.blocks-2-test.true some c.blocks-2.invariant.seq c.blocks-2.invariant.leads (rw c.in-Some.is at c.in_ok-prev.ensures);
    }

pub returns-clause-ok : goal.returns-clause-ok
returns-clause-ok c =
    let size : length (map (λ b. b.now) c.args.proof.now.blocks.items) ≡ length c.args.proof.now.blocks.items = length-map c.args.proof.now.blocks.items (λ b. b.now) in
    leads_all c.args.proof.now.low.head.owner c.args.proof.now.high.head.seq c.blocks-2.block-index c.args.proof.now.high.head.name c.blocks-2.name (map (λ b. b.now) c.args.proof.now.blocks.items)
    (omega (arith, size, c.deref-block-items.ensures.len)) c.blocks-2.invariant.leads
