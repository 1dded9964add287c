use Rattle.std.proofs.Common.{refl, ◌∙◌}
use Rattle.view_refresh.proofs.refresh.start_over.Goals as goal

pub returns : goal.returns
returns g c =
    record {
      fetch = c.in_ok-fetch.fetch;
      state_is = refl;
      judge_is = c.in_ok-fetch.ensures.by.0;
      replicas_are = c.in_ok-fetch.ensures.by.1;
      entries_are = c.in_ok-fetch.ensures.by.2 ∙ c.in_ok-entries.ensures;
      started = c.in_ok-fetch.ensures.started;
      free = c.in_ok-fetch.ensures.free;
      left = c.in_ok-fetch.ensures.left;
    }
