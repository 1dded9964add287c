use Rattle.std.proofs.Common.{refl}
use Rattle.log_model.specs.Chain.{opening}
use Rattle.log_model.specs.Spelling.{record_block}
use Rattle.agent_model.specs.Agent.{sealed}
use Rattle.ivy_agent.proofs.Opened.{first_stamp, opened_with}
use Rattle.ivy_agent.proofs.opening.begin.Goals as goal

pub returns : goal.returns
returns g c = opened_with
    g.S.Signs.signing c.args.signer.now c.args.now _ (record_block (opening c.owner-own.result c.args.now))
    (sealed g.S.Signs.signing c.args.signer.now (first_stamp c.in_ok-name.name))
    c.owner-own.result c.head_key-log.result c.in_ok-name.name
    c.owner-own.ensures c.head_key-log.ensures refl c.in_ok-name.ensures.name
    refl c.in_ok-name.ensures.block c.in_ok-name.ensures.head c.in_ok-name.ensures.next c.first_posts.ensures.key
    refl refl c.in_ok-floor.ensures c.in_ok-name.ensures.posts refl c.in_ok-engine.ensures c.empty.ensures
