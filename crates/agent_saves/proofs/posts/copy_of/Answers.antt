use Rattle.agent_saves.proofs.posts.copy_of.Goals as goal

pub returns-clause-each : goal.returns-clause-each
returns-clause-each c = c.check_bytes.ensures.each
