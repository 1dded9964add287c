-- A turn on what is held is the definition's turn.
use Rattle.std.proofs.Common.{◌≡◌, Bool, true, false, List, [], ◌++◌, map, fold, Option, refl, sym, ap, ◌∙◌}
use Rattle.std.proofs.lemmas.List.{append-nil, map-append}
use Rattle.std.proofs.lemmas.List.Sums.{fold-append}
use Rattle.nfs_model.specs.Changing.{finish}
use Rattle.ivy_base.specs.declared.key.Key.{Key}
use Rattle.ivy_base.specs.declared.format.Format.TheVariants.{One}
use Rattle.ivy_base.specs.declared.operation.Moment.{Moment}
use Rattle.ivy_base.specs.declared.operation.Op.{Op}
use Rattle.ivy_base.specs.Naming.{IsCollisionFree, head_key_of}
use Rattle.log_model.specs.View.{View, IsView}
use Rattle.log_model.specs.Vector.{Vector, join, seq_of}
use Rattle.log_model.specs.Record.{Record}
use Rattle.log_model.specs.Rank.{front, full_vector}
use Rattle.log_model.specs.Closed.{IsClosed}
use Rattle.log_model.specs.Replay.{replay}
use Rattle.log_model.specs.Fetched.{Edge}
use Rattle.log_records.specs.Batches.{Batch, AreUnder}
use Rattle.nfs_model.specs.declared.replies.Reply.{Reply}
use Rattle.turn_model.specs.Basis.{Basis, Holding, HoldsAll, Knows, kept_tree}
use Rattle.turn_model.specs.Turn.{Inputs, Asked, Turned, appended, own_seq, turn_on}
use Rattle.turn_model.proofs.Kept.{kept_tree_is_replay}
use Rattle.ivy_agent.specs.Appended.{written_over}
use Rattle.ivy_agent.specs.Laws.{with_save}
use Rattle.ivy_agent.specs.Serving.{Served, Replies, Writes, serve_on, turned_by}
use Rattle.ivy_agent.proofs.Records.{written_is_appended}
use Rattle.ivy_agent.proofs.ServedTurns.{inputs_with_save, replies_whatever_is_saved, writes_are_saved}
use Rattle.log_model.specs.Signing.{Signing}
use Rattle.agent_model.specs.Agent.{Agent, joined, own}
use Rattle.agent_model.specs.Candidates.{Grounds, MayTurn}
use Rattle.agent_model.specs.Standing.{going_on}
use Rattle.turn_laws.specs.Taking.{TakesNew, refresh_with, with_new}
use Rattle.agent_model.specs.Turning.{IsByDefinition, IsTurnBy, IsTurnOf, inputs_before, with_held}
use Rattle.turn_laws.specs.Laws.{IsTakenBy}
use Rattle.turn_laws.proofs.Taken.{going_is_gone_on, taken_is_by_definition}
use Rattle.ivy_agent.specs.Writing.{lost_reply, written_reply}

-- where all of a set is held, its front is what is held's
front_held : (view : View) (s : List Record) (h : Holding) → HoldsAll view s h → front s ≡ joined h
front_held view s h holds =
    ap front holds.whole
    ∙ ap (λ (vs : List Vector). fold join [] vs) (map-append full_vector holds.below h.held)
    ∙ fold-append join [] (map full_vector holds.below) (map full_vector h.held)
    ∙ ap (λ (v : Vector). fold join v (map full_vector h.held)) (sym holds.stands.front)

module _ {S : Type 0} (signs : Signing S) (a : Agent S) (view : View) (batch : Batch) (basis : Option Basis) (edges : Key → Option Edge) (new : List Record) (asked : Asked) (now : Moment)
    (well : IsView view) (under : AreUnder view edges batch) (takes : TakesNew view (own signs a) a.floor (going_on a basis) (refresh_with batch basis) new) where
  abbrev held : Holding
  held = with_new (going_on a basis) new

  abbrev by : Inputs
  by = inputs_before signs a view

  abbrev served : Served
  served = serve_on by (kept_tree held) (seq_of (joined held) (head_key_of (own signs a))) asked now

  module _ (grounds : Grounds) (known : List Record) (apart : IsCollisionFree grounds.met) (knows : Knows view a.floor a.holding known) (may : MayTurn grounds view (own signs a) known (refresh_with batch basis)) where
    its : (taken : List Record) × IsTakenBy (record { grounds = grounds; started = batch.held }) view known held taken
    its = taken_is_by_definition grounds view (own signs a) a.floor a.holding (going_on a basis) known batch basis edges new apart well knows (going_is_gone_on a basis) may under takes

    abbrev taken : List Record
    taken = its.0

    closed : IsClosed view taken
    closed = its.1.largest.closed

    tree_is : kept_tree held ≡ replay taken
    tree_is = kept_tree_is_replay view taken held closed its.1.holds

    front_is : front taken ≡ joined held
    front_is = front_held view taken held its.1.holds

    seq_is : own_seq (own signs a) taken ≡ seq_of (joined held) (head_key_of (own signs a))
    seq_is = ap (λ (f : Vector). seq_of f (head_key_of (own signs a))) front_is

    served_is : serve_on by (replay taken) (own_seq (own signs a) taken) asked now ≡ served
    served_is = (λ i. serve_on by (sym tree_is i) (seq_is i) asked now)

    turn_by : (fails : Bool) (turned : Turned) → turned ≡ turn_on (with_save by fails) taken asked now → IsTurnBy signs (record { grounds = grounds; started = batch.held }) (record { agent = a; view = view; now = now; fails = fails }) known asked taken turned
    turn_by fails turned is = record {
      candidates = its.1.candidates;
      of_heads = its.1.of_heads;
      largest = its.1.largest;
      by_set = is ∙ ap (λ (i : Inputs). turn_on i taken asked now) (inputs_with_save signs a view fails);
    }

    module _ (fails : Bool) (reply : Reply) (is : served ≡ Replies reply) where
      of_replies : IsTurnOf signs (record { grounds = grounds; started = batch.held }) (record { agent = a; view = view; now = now; fails = fails }) known asked held [] reply
      of_replies =
          let law = replies_whatever_is_saved by taken asked now reply (served_is ∙ is) in
          let turned : Turned = record { reply = reply; set = taken } in
          record {
            taken = taken;
            turned = turned;
            is_turn = turn_by fails turned (sym (law.1 fails));
            replies = refl;
            writes = append-nil taken ∙ ap (λ (t : Turned). t.set) (sym law.0);
            holds = its.1.holds;
          }

    module _ (ops : List Op) (is : served ≡ Writes ops) where
      law : (turn_on by taken asked now ≡ turned_by by taken asked now (Writes ops)) × (turn_on (with_save by false) taken asked now ≡ turned_by by taken asked now (Writes ops)) × (turn_on (with_save by true) taken asked now ≡ record { reply = lost_reply asked; set = taken })
      law = writes_are_saved by taken asked now ops (served_is ∙ is)

      abbrev written : List Record
      written = written_over (own signs a) now (joined held) ops

      same : (taken ++ written ≡ appended (own signs a) One now taken ops) × (kept_tree (with_held held written) ≡ replay (appended (own signs a) One now taken ops))
      same = written_is_appended view (own signs a) now taken held ops closed its.1.holds front_is

      of_saved : IsTurnOf signs (record { grounds = grounds; started = batch.held }) (record { agent = a; view = view; now = now; fails = false }) known asked held written (written_reply view asked ops held written)
      of_saved = record {
        taken = taken;
        turned = turned_by by taken asked now (Writes ops);
        is_turn = turn_by false (turned_by by taken asked now (Writes ops)) (sym law.1);
        replies = (λ i. finish (tree_is i) (same.1 i) view asked.caller asked.args ops);
        writes = same.0 ∙ ap (λ (t : Turned). t.set) (sym law.0);
        holds = its.1.holds;
      }

      of_lost : IsTurnOf signs (record { grounds = grounds; started = batch.held }) (record { agent = a; view = view; now = now; fails = true }) known asked held written (lost_reply asked)
      of_lost = record {
        taken = taken;
        turned = record { reply = lost_reply asked; set = taken };
        is_turn = turn_by true (record { reply = lost_reply asked; set = taken }) (sym law.2);
        replies = refl;
        writes = same.0 ∙ ap (λ (t : Turned). t.set) (sym law.0);
        holds = its.1.holds;
      }

  -- where it replies, whatever would become of a save
  pub replies_by_definition : (fails : Bool) (reply : Reply) → served ≡ Replies reply → IsByDefinition signs (refresh_with batch basis) (record { agent = a; view = view; now = now; fails = fails }) asked held [] reply
  replies_by_definition fails reply is grounds known apart knows may = of_replies grounds known apart knows may fails reply is

  -- where it writes and saves
  pub saved_by_definition : (ops : List Op) → served ≡ Writes ops → IsByDefinition signs (refresh_with batch basis) (record { agent = a; view = view; now = now; fails = false }) asked held (written_over (own signs a) now (joined held) ops) (written_reply view asked ops held (written_over (own signs a) now (joined held) ops))
  saved_by_definition ops is grounds known apart knows may = of_saved grounds known apart knows may ops is

  -- where the save fails
  pub lost_by_definition : (ops : List Op) → served ≡ Writes ops → IsByDefinition signs (refresh_with batch basis) (record { agent = a; view = view; now = now; fails = true }) asked held (written_over (own signs a) now (joined held) ops) (lost_reply asked)
  lost_by_definition ops is grounds known apart knows may = of_lost grounds known apart knows may ops is
