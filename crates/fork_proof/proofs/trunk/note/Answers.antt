use Rattle.std.proofs.Common.{refl, sym, ◌∙◌}
use Rattle.fork_proof.proofs.TrunkLemmas.{first_keeps}
use Rattle.fork_proof.proofs.trunk.note.Goals as goal

pub returns-in_ok-insert-in-None-clause-keeps : goal.returns-in_ok-insert-in-None-clause-keeps
returns-in_ok-insert-in-None-clause-keeps c =
    first_keeps c.args.trunk.now (record { names = c.insert.new.self; ends = c.args.trunk.now.ends }) c.args.seq c.args.name.now (sym (c.in-None.ensures ∙ c.get.ensures.value)) refl c.in_ok-insert-in-None.ensures.updates.0
