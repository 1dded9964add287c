use Rattle.ivy_agent.proofs.Entered.{saved_in}
use Rattle.ivy_agent.proofs.entering.save_in.Goals as goal

pub returns-clause-saved : goal.returns-clause-saved
returns-clause-saved g c = saved_in
    g.S.Signs.signing g.S.Signs.is_whole g.K.Keeper.saves c.args.view c.args.kept.now _ _ c.args.keeper.now c.save-saved.new.keeper c.save-saved.result
    c.replace-before.ensures.after c.take-snapshot.ensures.after c.save-saved.ensures.saved
