use Rattle.std.proofs.Common.{not, filter, sym, ap, ◌∙◌, subst}
use Rattle.std.specs.List.{list_any}
use Rattle.agent_model.specs.Others.{is_of}
use Rattle.agent_model.specs.SavedBytes.{ArePostsSpelled}
use Rattle.ivy_agent.proofs.Settled.{some_spelled, with_posts_sound}
use Rattle.ivy_agent.proofs.Told.{told_named}
use Rattle.ivy_agent.proofs.agent.Agent.settle.Goals as goal

pub keep_unsettled-requires : goal.keep_unsettled-requires
keep_unsettled-requires g c = told_named c.self.inside.kept.pending (c.into_vec-posts.ensures ∙ c.replace-posts.ensures.value) c.self.invariant.kept.posts

pub invariant_of-self : goal.invariant_of-self
invariant_of-self g c = with_posts_sound
    g.S.Signs.signing c.self.inside.kept c.of-2.result c.self.inside.engine c.self.inside.to_load c.self.inside.has_failed
    c.self.inside.kept.log c.self.inside.front c.self.invariant
    (subst ArePostsSpelled
    (sym (c.of-2.ensures ∙ c.keep_unsettled.ensures ∙ ap (filter (λ p. not (list_any (λ ack. is_of ack p) c.as_slice.result.now))) (c.into_vec-posts.ensures ∙ c.replace-posts.ensures.value)))
    (some_spelled (λ p. not (list_any (λ ack. is_of ack p) c.as_slice.result.now)) c.self.inside.kept.pending c.self.invariant.kept.posts))
