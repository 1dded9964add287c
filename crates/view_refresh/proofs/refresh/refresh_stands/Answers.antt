use Rattle.view_refresh.proofs.Laws.{refresh_stands}
use Rattle.view_refresh.proofs.refresh.refresh_stands.Goals as goal

pub returns : goal.returns
returns g c = refresh_stands g.J.Judge.judges
