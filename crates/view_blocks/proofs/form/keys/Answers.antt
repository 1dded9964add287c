use Rattle.std.proofs.Common.{rules}
use Rattle.std.specs.List.{flat_map}
use Rattle.wire_model.specs.Xdr.{word, IsWord, AreSoMany}
use Rattle.wire_model.specs.OneReading.{IsFront, HasNoFront}
use Rattle.log_model.specs.Spelling.{IsBlock}
use Rattle.block_parts.specs.Parts.{as_it_stands}
use Rattle.view_blocks.proofs.KeyLists.{front_of_keys, no_keys}
use Rattle.view_blocks.proofs.form.keys.Goals as goal

pub returns-in_err-keys-clause-none : goal.returns-in_err-keys-clause-none
returns-in_err-keys-clause-none c =
    let front : IsFront IsWord word c.args.bytes.now c.in_ok-count.count c.u32.new.self = search rules in
    let absent : HasNoFront (AreSoMany (IsBlock 60) c.in_ok-count.count) (flat_map as_it_stands) c.u32.new.self = search rules in
    rw c.from_residual-in_err-keys.ensures (no_keys front absent)

pub returns-clause-some : goal.returns-clause-some
returns-clause-some c =
    let front : IsFront IsWord word c.args.bytes.now c.in_ok-count.count c.u32.new.self = search rules in
    let after : IsFront (AreSoMany (IsBlock 60) c.in_ok-count.count) (flat_map as_it_stands) c.u32.new.self c.in_ok-keys.keys.now c.rest.result.now = search rules in
    front_of_keys front after
