use Rattle.session_steps.proofs.Parts.{heard_so}
use Rattle.session_steps.proofs.open.OpenCall.hear.Goals as goal

pub returns : goal.returns
returns c = heard_so (record { session = c.self.inside.session; given = c.self.inside.given; told = c.self.inside.told }) c.args.self.now c.heard.new.self c.args.who.now c.cache.result.now c.heard.new.cache c.self.view_is c.cache.ensures.value
    c.args.answer c.heard.ensures.heard c.heard.ensures.turning c.heard.ensures.left
