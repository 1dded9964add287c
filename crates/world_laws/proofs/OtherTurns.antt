-- Turns that agree on the members' logs are the same turn.
use Rattle.std.proofs.Common.{◌≡◌, ◌||◌, List, sym, ap, ◌∙◌, subst}
use Rattle.ivy_base.specs.Naming.{IsCollisionFree}
use Rattle.log_model.specs.Closed.{IsClosedPart}
use Rattle.log_model.specs.Record.{Record}
use Rattle.log_model.specs.Vector.{Vector}
use Rattle.log_model.specs.View.{View}
use Rattle.log_model.proofs.ClosedPart.{same_part}
use Rattle.log_model.proofs.Sets.{same_list}
use Rattle.turn_model.specs.Turn.{Candidate, IsAvailable, Turned, turn_on}
use Rattle.agent_model.specs.Candidates.{AreCandidatesOf, Grounds}
use Rattle.session_model.specs.Brought.{brought_in, heads_at}
use Rattle.session_model.specs.Executions.{grounds_of}
use Rattle.world_model.specs.GhostState.{HadTurn}
use Rattle.world_laws.specs.Headline.{IsOnReplay}
use Rattle.world_laws.specs.Laws.{AgreeOnMembers}
use Rattle.world_laws.specs.LeavingOut.{GoBySame, OtherLogsChangeNoTurn}
use Rattle.world_laws.proofs.Noninterference.{other_logs}
use Rattle.world_laws.proofs.TurnsTaken.{one_candidates}

module _ (g h : HadTurn) (one : IsOnReplay g) (other : IsOnReplay h) (apart : IsCollisionFree h.met) (same : GoBySame g h one other)
    (agree : AgreeOnMembers g.view (heads_at (brought_in g.session.parts)) (heads_at (brought_in h.session.parts)) g.met h.met) where
  -- the candidates of one, by what the other goes by
  abbrev Told : Type 0
  Told = Grounds × (View × Vector)

  there : AreCandidatesOf (grounds_of h.met h.session h.began.knew) h.view other.given.started one.candidates
  there = subst (λ (x : Told). AreCandidatesOf x.0 x.1.0 x.1.1 one.candidates)
      (λ i. (record { heads = heads_at (brought_in h.session.parts); met = h.met; standing = same.standing i; knew = same.knew i }, (same.view i, same.started i)))
      (other_logs g.view (grounds_of g.met g.session g.began.knew) (heads_at (brought_in h.session.parts)) h.met one.given.started one.candidates agree one.of_heads)

  candidates_same : one.candidates ≡ other.candidates
  candidates_same = one_candidates (grounds_of h.met h.session h.began.knew) h.view other.given.started apart one.candidates other.candidates there other.of_heads

  abbrev Available : Type 0
  Available = View × (List Record × List Candidate)

  part : IsClosedPart h.view (IsAvailable h.knowing.known other.candidates) one.taken
  part = subst (λ (x : Available). IsClosedPart x.0 (IsAvailable x.1.0 x.1.1) one.taken) (λ i. (same.view i, (same.known i, candidates_same i))) one.taken_is_largest

  taken_same : one.taken ≡ other.taken
  taken_same = same_list one.taken other.taken part.closed.ascending other.taken_is_largest.closed.ascending
      (same_part h.view (IsAvailable h.knowing.known other.candidates) one.taken other.taken part other.taken_is_largest)
      (same_part h.view (IsAvailable h.knowing.known other.candidates) other.taken one.taken other.taken_is_largest part)

  turned_same : g.turned ≡ h.turned
  turned_same = one.is_answer
      ∙ (λ i. turn_on (record { view = same.view i; own = same.own_key i; leaves = same.left i; has_failed = same.has_failed i || same.fails i }) (taken_same i) (same.asked i) (same.now i))
      ∙ sym other.is_answer

pub other_turns : OtherLogsChangeNoTurn
other_turns g h one other apart same agree = (taken_same g h one other apart same agree, turned_same g h one other apart same agree)
