use Rattle.session_steps.proofs.stepping.laws.Goals as goal

pub returns : goal.returns
returns c = record {
  one_call = c.configurations_go_on.ensures.call;
  made = c.asked_nodes_are_made.ensures.next;
  asks = c.asks_are_steps.ensures;
  may_turn = c.turns_may_be.ensures.turn;
  turns = c.turns_are_steps.ensures;
  read = c.replies_are_read.ensures;
  settlings = c.settlings_are_steps.ensures;
  done = c.done_is_over.ensures;
  keep = c.headline_holds.ensures.steps;
  publishing = c.publishing_keeps.ensures.step;
}
