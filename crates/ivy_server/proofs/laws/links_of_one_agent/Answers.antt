use Rattle.ivy_server.proofs.OneAgent.{alone_is_one_agent}
use Rattle.ivy_server.proofs.laws.links_of_one_agent.Goals as goal

pub returns : goal.returns
returns g c = alone_is_one_agent g.S.Signs.signing g.S.Signs.is_whole g.K.Keeper.saves
