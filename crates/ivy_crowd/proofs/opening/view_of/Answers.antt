use Rattle.ivy_crowd.proofs.Wanting.{view_is_made}
use Rattle.ivy_crowd.proofs.opening.view_of.Goals as goal

pub view_lacks-requires : goal.view_lacks-requires
view_lacks-requires c = view_is_made c.args.member c.in-Err.why c.in-Err.ensures.err
