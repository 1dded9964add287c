use Rattle.ivy_cli.proofs.running.play_script.Goals as goal

pub returns : goal.returns
returns g c = record {
  statuses = c.play.ensures.statuses;
  ended = c.play.ensures.ended;
  refused = c.play.ensures.refused;
  limited = c.play.ensures.limited;
  read_fault = c.play.ensures.read_fault;
  write_fault = c.play.ensures.write_fault;
  front = c.play.ensures.front;
  less = c.play.ensures.less;
  waits = c.play.ensures.waits;
  alike = c.play.ensures.alike;
  fully = c.play.ensures.fully;
  complete = c.play.ensures.complete;
  reads = c.play.ensures.reads;
  writes = c.play.ensures.writes;
}
