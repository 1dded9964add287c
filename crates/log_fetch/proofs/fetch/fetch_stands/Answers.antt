use Rattle.log_fetch.proofs.Fetching.{fetch_stands}
use Rattle.log_fetch.proofs.fetch.fetch_stands.Goals as goal

pub returns : goal.returns
returns g c = fetch_stands g.J.Judge.judges
