use Rattle.view_refresh.proofs.Wants.{refresh_wants}
use Rattle.view_refresh.proofs.refresh.refresh_wants.Goals as goal

pub returns : goal.returns
returns g c = refresh_wants g.J.Judge.judges
