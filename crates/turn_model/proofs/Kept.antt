-- The kept tree of an agent that holds all is the replay of what it knows.
use Rattle.std.proofs.Common.{List, sym, ap, ◌∙◌, subst, map}
use Rattle.tree_model.specs.Tree.{Tree}
use Rattle.tree_model.specs.Apply.{apply_all}
use Rattle.log_model.specs.Record.{Record}
use Rattle.log_model.specs.Closed.{IsAscending}
use Rattle.log_model.specs.Replay.{replay, effect}
use Rattle.log_model.proofs.Later.{replay_more}
use Rattle.turn_model.specs.Basis.{KeptTreeIsReplay}

pub kept_tree_is_replay : KeptTreeIsReplay
kept_tree_is_replay view known h closed all =
    ap (λ (t : Tree). apply_all t (map effect h.held)) all.stands.tree
    ∙ sym (replay_more all.below h.held all.stands.closed.ascending (subst (λ (l : List Record). IsAscending l) all.whole closed.ascending))
    ∙ ap replay (sym all.whole)
