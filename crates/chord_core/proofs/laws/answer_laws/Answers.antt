use Rattle.dht_ids.specs.Asked.{routes}
use Rattle.dht_ids.specs.Peers.{place}
use Rattle.ring_model.specs.Circle.{number}
use Rattle.ring_model.proofs.Lookups.{lookup_finds}
use Rattle.ring_model.proofs.Hops.{few_answers}
use Rattle.chord_core.specs.Laws.{links_of}
use Rattle.chord_core.proofs.Answered.{answers_are_fates}
use Rattle.chord_core.proofs.laws.answer_laws.Goals as goal

pub returns : goal.returns
returns c = record {
  fates = answers_are_fates;
  finds = λ r live lives nodes key entries names looks found are covered named answered.
      lookup_finds place r live lives (links_of nodes) (number key) entries names (routes looks) found covered named (answers_are_fates r lives nodes key looks are answered);
  short = λ r live lives nodes key entries looks found are settled answered.
      few_answers place r 160 live lives (links_of nodes) (number key) entries (routes looks) found settled (answers_are_fates r lives nodes key looks are answered);
}
