-- The turns that an agent took are a legal history, where no names collide and each refresh is grounded.
use Rattle.std.proofs.Common.{◌≡◌, ℕ, ◌≤◌, Bool, List, [], ◌∷◌, ◌++◌, map, Option, Some, None, Ok, Err, refl, sym, ap, ◌∙◌, subst, append_assoc, inl, Contains}
use Rattle.ivy_base.specs.declared.key.PubKey.{PubKey}
use Rattle.ivy_base.specs.Naming.{IsCollisionFree, head_key_of}
use Rattle.log_model.specs.Record.{Record}
use Rattle.log_model.specs.Signing.{Signing}
use Rattle.log_model.specs.Vector.{reach, stamp_at}
use Rattle.log_model.specs.View.{View, IsView}
use Rattle.nfs_model.specs.declared.replies.Reply.{Reply}
use Rattle.nfs_model.specs.Results.{result as bytes_of}
use Rattle.turn_model.specs.Basis.{Holding, HoldsAll, Knows, fresh_basis}
use Rattle.turn_model.specs.Turn.{Asked, tries_save}
use Rattle.agent_model.specs.Agent.{Agent, Kept, own, own_reach}
use Rattle.agent_model.specs.Others.{settled}
use Rattle.agent_model.specs.Standing.{Refresh}
use Rattle.agent_model.specs.Turning.{Answered, Becomes, BelowTide, Behind, IsByDefinition, TurnEnd, Turning, Turns, inputs_before}
use Rattle.agent_model.specs.Turning.Turns.{behind, below, answers}
use Rattle.log_fetch.specs.declared.turned.TurnFault.{TurnFault}
use Rattle.log_fetch.specs.declared.turned.TurnFault.TheVariants as fault
use Rattle.log_fetch.specs.Standings.{asked_of, refresh_of}
use Rattle.ivy_agent.specs.Answering.{IsCall}
use Rattle.ivy_agent.specs.Holders.{Holder}
use Rattle.ivy_agent.specs.Turns.{IsAnswered, dropping}
use Rattle.agent_gate.specs.declared.request.TurnRequest.{TurnRequest}
use Rattle.agent_gate.specs.Folding.{AreGrounded, Execution, FoldsTo, HistoriesFold, HoldsFromFirst, HoldsWhatIsKnown, IsFolded, IsGrounded, IsStep, Point, StandsAt, grounds_at, point_behind, start_of}
use Rattle.agent_gate.specs.Folding.FoldsTo.{none, more}
use Rattle.agent_gate.specs.Taking.{AgentEntry, AgentKind, Became, HasTaken, SignsOn, Taken, TakesEntry, TurnsInView}
use Rattle.agent_gate.specs.Taking.Became.{opens, takes, refuses, settles}
use Rattle.agent_gate.proofs.Behind.{number_at, stands_behind}
use Rattle.agent_gate.proofs.Held.{holds_then, refused_holds, still_holds}
use Rattle.agent_gate.proofs.Histories.{entry_of}
use Rattle.agent_gate.proofs.Left.{IsLeft, left_key, took_left}

-- ---- how a turn ended

-- it answered, by what it takes and writes
record HasAnswered {S : Type 0} (signs : Signing S) (brought : Refresh) (turning : Turning S) (asked : Asked) (after : Agent S) (saving : Option (Kept S)) (reply : Reply) : Type 0 where
  h : Holding
  written : List Record
  becomes : Becomes signs turning.view turning.agent h turning.fails written after saving
  by_definition : IsByDefinition signs brought turning asked h written reply

module _ {S : Type 0} (signs : Signing S) (brought : Refresh) (turning : Turning S) (asked : Asked) where
  answered : (end : TurnEnd) (after : Agent S) (saving : Option (Kept S)) → Turns signs brought turning asked end after saving → (reply : Reply) (n : ℕ) → end ≡ Answered reply n
      → HasAnswered signs brought turning asked after saving reply
  answered _ _ _ (behind is) reply n e = absurd (cc e)
  answered _ _ _ (below caught_up is) reply n e = absurd (cc e)
  answered _ _ _ (answers h written other after saving caught_up above base may becomes by) reply n e =
      let same : other ≡ reply = cc e in
      subst (HasAnswered signs brought turning asked after saving) same (record { h = h; written = written; becomes = becomes; by_definition = by })

  was_behind : (end : TurnEnd) (after : Agent S) (saving : Option (Kept S)) → Turns signs brought turning asked end after saving → end ≡ Behind → after ≡ turning.agent
  was_behind _ _ _ (behind is) e = refl
  was_behind _ _ _ (below caught_up is) e = absurd (cc e)
  was_behind _ _ _ (answers h written other after saving caught_up above base may becomes by) e = absurd (cc e)

  was_below : (end : TurnEnd) (after : Agent S) (saving : Option (Kept S)) → Turns signs brought turning asked end after saving → end ≡ BelowTide → after ≡ dropping turning.agent
  was_below _ _ _ (behind is) e = absurd (cc e)
  was_below _ _ _ (below caught_up is) e = refl
  was_below _ _ _ (answers h written other after saving caught_up above base may becomes by) e = absurd (cc e)

module _ {K S : Type 0} (kind : AgentKind K S) where
  abbrev signs : Signing S
  signs = kind.signs

  -- ---- a turn that was refused, and a settling

  drops : (c : Execution) (g : Point) (a : Holder K S) → StandsAt signs c g a → (b : Agent S) → b ≡ dropping a.agent → (keeper : K) → StandsAt signs c g (record { agent = b; keeper = keeper })
  drops c g a stands b is keeper = subst (λ (x : Agent S). StandsAt signs c g (record { agent = x; keeper = keeper })) (sym is) (record {
    in_view = stands.in_view;
    own_is = stands.own_is;
    knows = record { by_floor = stands.knows.by_floor; closed = stands.knows.closed; holds = inl refl };
    leaves = stands.leaves;
    failed = stands.failed;
    begun = stands.begun;
  })

  same_agent : (c : Execution) (g : Point) (a : Holder K S) → StandsAt signs c g a → (b : Agent S) → b ≡ a.agent → (keeper : K) → StandsAt signs c g (record { agent = b; keeper = keeper })
  same_agent c g a stands b is keeper = subst (λ (x : Agent S). StandsAt signs c g (record { agent = x; keeper = keeper })) (sym is) (record {
    in_view = stands.in_view;
    own_is = stands.own_is;
    knows = stands.knows;
    leaves = stands.leaves;
    failed = stands.failed;
    begun = stands.begun;
  })

  refused_stands : (c : Execution) (g : Point) (before after : Holder K S) (asked : TurnRequest) (fault : TurnFault) → TurnsInView kind before asked (Err fault) after → StandsAt signs c g before → StandsAt signs c g after
  refused_stands c g before after asked (fault.Behind standing) is stands =
      same_agent c g before stands after.agent (was_behind signs _ _ _ _ after.agent _ is.turn.turns.turns refl) after.keeper
  refused_stands c g before after asked (fault.BelowTide standing) is stands =
      drops c g before stands after.agent (was_below signs _ _ _ _ after.agent _ is.turn.turns.turns refl) after.keeper
  refused_stands c g before after asked fault.Memory is stands = subst (StandsAt signs c g) (sym is.turn) stands

  -- ---- a turn that was answered

  -- the point after it, and the agent there
  record Steps (c : Execution) (g : Point) (t : Taken) (after : Holder K S) : Type 0 where
    behind_it : Point
    step : IsStep c g t behind_it
    stands : StandsAt signs c behind_it after
    holds : HoldsAll c.view behind_it.known after.agent.holding

  -- what an agent of that known set stands at
  abbrev point_of : Holder K S → List Record → Point
  point_of a known = start_of signs a known

  abbrev execution_of : Execution → PubKey → Execution
  execution_of c own = record c { own = own }

  module _ (on : SignsOn signs) (c : Execution) (apart : IsCollisionFree c.met) (well : IsView c.view) where
    -- by the agent's own key, leaves and fault
    module _ (before after : Holder K S) (e : AgentEntry) (known : List Record) (member : Contains c.view.members (own signs before.agent)) (in_view : before.agent.view ≡ Some c.view)
        (knows : Knows c.view before.agent.floor before.agent.holding known) (begun : 1 ≤ own_reach signs before.agent) (left : IsLeft signs before.agent after.agent)
        (may : IsGrounded (execution_of c (own signs before.agent)) (point_of before known) e) (is_call : IsCall (asked_of e.turn.0.asked) e.turn.0.now) where
      step_here : (turn : IsAnswered signs kind.IsWhole kind.saves c.view (refresh_of e.turn.0.refresh) (asked_of e.turn.0.asked) e.turn.0.now before e.turn.1 after)
          → Steps (execution_of c (own signs before.agent)) (point_of before known) (record { entry = e; fails = turn.fails }) after
      step_here turn =
          let turning : Turning S = record { agent = before.agent; view = c.view; now = e.turn.0.now; fails = turn.fails } in
          let its = answered signs (refresh_of e.turn.0.refresh) turning (asked_of e.turn.0.asked) _ after.agent turn.turns.saving turn.turns.turns turn.reply e.turn.1.applied refl in
          let of = its.by_definition (grounds_at c e) known apart knows may in
          let stands = stands_behind signs on c.view well before.agent member known knows begun (asked_of e.turn.0.asked) e.turn.0.now is_call turn.fails of.is_turn.candidates of.taken of.turned
          of.is_turn.largest of.is_turn.by_set its.h of.holds its.written after.agent turn.turns.saving of.writes its.becomes in
          record {
            behind_it = point_behind (point_of before known) of.turned.set (tries_save (inputs_before signs before.agent c.view) of.taken (asked_of e.turn.0.asked) e.turn.0.now) turn.fails;
            step = record {
              candidates = of.is_turn.candidates;
              of_heads = of.is_turn.of_heads;
              turned = of.turned;
              turn = record { taken = of.taken; largest = of.is_turn.largest; by_set = of.is_turn.by_set };
              replies = turn.gives.bytes ∙ ap bytes_of of.replies;
              its_front = turn.gives.front ∙ stands.front;
              behind = refl;
            };
            stands = record {
              in_view = left.view ∙ in_view;
              own_is = λ i. record { 0 = left_key signs before.agent after.agent on left i };
              knows = stands.knows;
              leaves = stands.leaves;
              failed = stands.failed;
              begun = stands.begun;
            };
            holds = stands.holds;
          }

    one_view : (v w : View) (o : Option View) → o ≡ Some v → o ≡ Some w → v ≡ w
    one_view v w o is also = let both : Some v ≡ Some w = sym is ∙ also in cc both

    module _ (member : Contains c.view.members c.own) where
      step_on : (g : Point) (before after : Holder K S) (t : Taken) → StandsAt signs c g before → TakesEntry kind before t after → IsGrounded c g t.entry → Steps c g t after
      step_on g before after t stands took may =
          let e : AgentEntry = t.entry in
          let here : Execution = execution_of c (own signs before.agent) in
          let point : Point = point_of before g.known in
          let left = took_left kind before e.turn.0 (Ok e.turn.1) after took.took in
          let its_own : Contains c.view.members (own signs before.agent) = subst (Contains c.view.members) (sym stands.own_is) member in
          let its_may : IsGrounded here point e = subst (λ (o : PubKey). IsGrounded (execution_of c o) point e) (sym stands.own_is) may in
          let P : View → Type 0 = λ v. (turn : IsAnswered signs kind.IsWhole kind.saves v (refresh_of e.turn.0.refresh) (asked_of e.turn.0.asked) e.turn.0.now before e.turn.1 after) (fails : Bool)
          → fails ≡ turn.fails → Steps here point (record { entry = e; fails = fails }) after in
          let at : P c.view = λ turn fails is. subst (λ (b : Bool). Steps here point (record { entry = e; fails = b }) after) (sym is)
          (step_here before after e g.known its_own stands.in_view stands.knows stands.begun left its_may took.call turn) in
          let view_is : c.view ≡ took.took.view = one_view c.view took.took.view before.agent.view stands.in_view took.took.in_view in
          let step : Steps here point t after = subst P view_is at took.took.turn t.fails took.saved in
          subst (λ (x : Point). Steps c x t after) (λ i. record { known = g.known; leaves = stands.leaves i; has_failed = stands.failed i })
          (subst (λ (o : PubKey). Steps (execution_of c o) point t after) stands.own_is step)

      -- ---- all of them

      module _ (opening : Holder K S) (known : List Record) (first : StandsAt signs c (start_of signs opening known) opening) where
        abbrev start : Point
        start = start_of signs opening known

        record Folds (taken : List Taken) (value : Holder K S) : Type 0 where
          point : Point
          folds : FoldsTo c start taken point
          stands : StandsAt signs c point value
          held : opening.agent.to_load ≡ None → opening.agent.holding.basis ≡ fresh_basis → HoldsFromFirst c point opening value (map entry_of taken)

        grounded_before : (taken : List Taken) (t : Taken) → AreGrounded c start (taken ++ t ∷ []) → AreGrounded c start taken
        grounded_before taken t grounded before rest u g is folds =
            grounded before (rest ++ t ∷ []) u g (ap (λ (l : List Taken). l ++ t ∷ []) is ∙ append_assoc before (u ∷ rest) (t ∷ [])) folds

        all_fold : (taken : List Taken) (value : Holder K S) → Became kind opening taken value → AreGrounded c start taken → Folds taken value
        all_fold _ _ opens grounded = record { point = start; folds = none; stands = first; held = λ unloaded fresh. refl }
        all_fold _ _ (takes {taken = xs} {before = b} {after = a} t was took) grounded =
            let so_far = all_fold xs b was (grounded_before xs t grounded) in
            let step = step_on so_far.point b a t so_far.stands took (grounded xs [] t so_far.point refl so_far.folds) in
            record {
              point = step.behind_it;
              folds = more t so_far.folds step.step;
              stands = step.stands;
              held = λ unloaded fresh. holds_then c step.behind_it opening a xs t step.holds;
            }
        all_fold _ _ (refuses {taken = xs} {before = b} {after = a} asked fault was refused) grounded =
            let so_far = all_fold xs b was grounded in
            record {
              point = so_far.point;
              folds = so_far.folds;
              stands = refused_stands c so_far.point b a asked fault refused so_far.stands;
              held = λ unloaded fresh.
                  still_holds c so_far.point opening b a (map entry_of xs) (refused_holds kind opening xs b a asked fault unloaded fresh was refused) (so_far.held unloaded fresh);
            }
        all_fold _ _ (settles {taken = xs} {before = b} acks was) grounded =
            let so_far = all_fold xs b was grounded in
            let stands = so_far.stands in
            record {
              point = so_far.point;
              folds = so_far.folds;
              stands = record { in_view = stands.in_view; own_is = stands.own_is; knows = stands.knows; leaves = stands.leaves; failed = stands.failed; begun = stands.begun };
              held = λ unloaded fresh. still_holds c so_far.point opening b (record b { agent = settled b.agent acks }) (map entry_of xs) refl (so_far.held unloaded fresh);
            }

  -- The law of histories, and what is held then.
  folded_and_held : (c : Execution) (opening value : Holder K S) (known : List Record) (history : List AgentEntry) → SignsOn signs → IsCollisionFree c.met → IsView c.view → Contains c.view.members c.own
      → StandsAt signs c (start_of signs opening known) opening → (has : HasTaken kind opening history value) → AreGrounded c (start_of signs opening known) has.taken
      → (folded : IsFolded signs c (start_of signs opening known) has.taken value)
      × (opening.agent.to_load ≡ None → opening.agent.holding.basis ≡ fresh_basis → HoldsFromFirst c folded.point opening value history)
  folded_and_held c opening value known history on apart well member first has grounded =
      let folds = all_fold on c apart well member opening known first has.taken value has.became grounded in
      let stands = folds.stands in
      let floor = value.agent.floor in
      let begun : 1 ≤ reach (stamp_at floor (head_key_of c.own)) = subst (λ (o : PubKey). 1 ≤ reach (stamp_at floor (head_key_of o))) stands.own_is stands.begun in (
        record {
          point = folds.point;
          folds = folds.folds;
          stands = stands;
          number = ap (λ (o : PubKey). reach (stamp_at floor (head_key_of o))) stands.own_is
              ∙ number_at c.view folds.point.known c.own well stands.knows.closed member (stamp_at floor (head_key_of c.own)) (stands.knows.by_floor.ends c.own member) begun;
        },
        λ unloaded fresh. subst (HoldsFromFirst c folds.point opening value) has.entries (folds.held unloaded fresh),
      )

  pub histories_fold : HistoriesFold kind
  histories_fold c opening value known history on apart well member first has grounded =
      (folded_and_held c opening value known history on apart well member first has grounded).0

  pub holds_what_is_known : HoldsWhatIsKnown kind
  holds_what_is_known c opening value known history on apart well member first unloaded fresh has grounded =
      let both = folded_and_held c opening value known history on apart well member first has grounded in
      (both.0, both.1 unloaded fresh)
