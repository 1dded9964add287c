use Rattle.std.proofs.Common.{◌≡◌, length, map, arith}
use Rattle.std.proofs.lemmas.List.{length-map}
use Rattle.fork_proof.proofs.Reading.{is_proof, no_proof, no_heads, as_many}
use Rattle.fork_proof.proofs.form.read_proof.Goals as goal

pub returns-then-not-are_read-clause-err : goal.returns-then-not-are_read-clause-err
returns-then-not-are_read-clause-err c = no_proof c.of-parts.ensures c.read_front.ensures c.in_ok-blocks.ensures.ok (c.are_read.ensures.more c.if-not-are_read.true)

pub returns-in-Some-clause-ok : goal.returns-in-Some-clause-ok
returns-in-Some-clause-ok c =
    let size : c.len.result ≡ length (map (λ b. b.now) c.in_ok-blocks.blocks.items) = omega (arith, length-map c.in_ok-blocks.blocks.items (λ b. b.now)) in
    is_proof c.of-parts.ensures c.read_front.ensures c.in_ok-blocks.ensures.ok (c.are_read.ensures.all c.if-not-are_read.false) _ _ _ (as_many _ _ size c.in-Some.ensures.some)

pub returns-clause-err : goal.returns-clause-err
returns-clause-err c =
    let size : length (map (λ b. b.now) c.in_ok-blocks.blocks.items) ≡ c.len.result = omega (arith, length-map c.in_ok-blocks.blocks.items (λ b. b.now)) in
    no_heads c.of-parts.ensures c.read_front.ensures c.in_ok-blocks.ensures.ok (c.are_read.ensures.all c.if-not-are_read.false)
    (λ owner one other h. c.in-None.ensures.none owner one other (as_many _ _ size h))
