use Rattle.std.proofs.Common.{sym, ap, ◌∙◌}
use Rattle.ivy_agent.specs.Holders.{Holder}
use Rattle.ivy_agent.proofs.Told.{told_named}
use Rattle.ivy_agent.proofs.agent.Agent.with_names.Goals as goal

pub know-requires : goal.know-requires
know-requires g c = told_named c.self.inside.kept.pending (c.requires ∙ sym (ap (λ (h : Holder g.row.K.Denot g.row.S.Denot). h.agent.pending) c.self.view_is)) c.self.invariant.kept.posts
