use Rattle.session_steps.proofs.Parts.{next_so}
use Rattle.session_steps.proofs.open.OpenCall.next.Goals as goal

pub returns : goal.returns
returns c = next_so (record { session = c.self.inside.session; given = c.self.inside.given; told = c.self.inside.told }) c.args.self.now c.next.new.self c.args.who.now c.cache.result.now c.next.new.cache c.self.view_is c.cache.ensures.value
    c.next.result c.next.ensures.wanted c.next.ensures.left
