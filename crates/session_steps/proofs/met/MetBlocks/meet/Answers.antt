use Rattle.std.proofs.Common.{rules}
use Rattle.session_steps.proofs.Meeting.{found_met, put_met}
use Rattle.session_steps.proofs.met.MetBlocks.meet.Goals as goal

pub returns-then-contains_key-clause-met : goal.returns-then-contains_key-clause-met
returns-then-contains_key-clause-met c = found_met (λ v. v.items) c.self.inside.places.entries c.self.inside.bytes c.args.block.now c.args.self.now c.self.view_is c.contains_key.result c.contains_key.ensures c.if-contains_key.true

pub returns-clause-met : goal.returns-clause-met
returns-clause-met c = put_met (λ v. v.items) c.self.inside.places.entries c.self.inside.bytes c.args.block.now c.args.self.now c.self.view_is c.contains_key.result c.contains_key.ensures c.if-contains_key.false
    c.in_ok-to_vec.field-0 (search rules) c.len-place.result c.len-place.ensures.len c.insert.new.self.entries c.in_ok-insert.ensures.entries c.in-Some.bytes (search rules)
