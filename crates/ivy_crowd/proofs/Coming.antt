-- An agent that was opened, and what a crowd came to.
use Rattle.std.proofs.Common.{◌≡◌, ℕ, length, Option, Some, Result, Ok, refl, sym, ap, ◌∙◌, subst}
use Rattle.std.specs.Prelude.{IsSomeAnd}
use Rattle.ivy_base.specs.Naming.{root_number}
use Rattle.ivy_base.specs.declared.operation.Moment.{Moment}
use Rattle.ivy_io.specs.Keepers.{KeeperState, fresh_keeper_state}
use Rattle.hash_signature_model.specs.Saved.{IsSigner, hss}
use Rattle.hash_signature_model.specs.Signer.{Signer}
use Rattle.tree_model.specs.Tree.{listing}
use Rattle.log_model.specs.View.{View}
use Rattle.turn_model.specs.Basis.{kept_tree}
use Rattle.agent_model.specs.Agent.{Agent, own, own_key}
use Rattle.ivy_agent.specs.Entering.{Enters}
use Rattle.ivy_agent.specs.Holders.{Holder}
use Rattle.ivy_agent.specs.Making.{Makes}
use Rattle.agent_gate.specs.Taking.{AgentKind, kind_of}
use Rattle.agent_gate.specs.declared.gate.Closed.{Closed}
use Rattle.ring_run.specs.Live.{LiveState, new_ring}
use Rattle.ivy_server.specs.Served.{moment_of}
use Rattle.ivy_crowd.specs.Crowds.{Asked, Counts, HasCome, IsOpening, Member, asking_of, newest_own, saves_in_memory, serving_of}
use Rattle.ivy_crowd.specs.Jobs.{HasRun, IsOpened, Over, over_gate, over_ring}
use Rattle.ivy_crowd.specs.Requests.{IsKey, alone}
use Rattle.ivy_crowd.specs.Sessions.{Asking, HaveRun, Session, asking_in, threads_of}
use Rattle.ivy_crowd.specs.declared.opening.Opened.{Opened}
use Rattle.ivy_crowd.specs.declared.tally.Tally.{Tally}
use Rattle.ivy_crowd.proofs.Served.{still_in_view}
use Rattle.ivy_crowd.proofs.Views.{entered_view}

some_view : (o : Option View) (view : View) → o ≡ Some view → IsSomeAnd o (λ view. Unit {0})
some_view o view is = rw is tt

-- the agent was created with this key at that moment
abbrev IsMade : Signer → Moment → Member → Type 0
IsMade signer moment created = Makes hss IsSigner saves_in_memory fresh_keeper_state signer moment (Ok created)

-- it entered this view
abbrev HasEntered : View → Member → Member → Type 0
HasEntered view created opening = Enters hss IsSigner saves_in_memory view created (Ok tt) opening

-- an agent that opened its log has the key that it was made with
made_key : (signer : Signer) (moment : Moment) (created : Member) → IsMade signer moment created
    → own hss created.agent ≡ own_key hss signer
made_key signer moment created makes = ap (λ (a : Agent Signer). own hss a) makes.0

-- it was created so, and entered the view of its log
pub is_opened : (moment : Moment) (signer : Signer) (created opening : Member) (view entered : View) → IsKey signer
    → IsMade signer moment created → view ≡ alone (own hss created.agent) → entered ≡ view → HasEntered entered created opening
    → IsOpened moment (record { agent = opening; view = view })
is_opened moment signer created opening view entered key makes is copy enters =
    let its_view : view ≡ alone (own_key hss signer) = is ∙ ap alone (made_key signer moment created makes) in
    let there : HasEntered view created opening = subst (λ (v : View). HasEntered v created opening) copy enters in
    record {
      signer = signer;
      opens = record {
        its_key = key;
        created = created;
        makes = makes;
        enters = subst (λ (v : View). HasEntered v created opening) its_view there;
      };
      its_view = its_view;
      in_view = entered_view hss IsSigner saves_in_memory view created opening there;
    }

pub opened_in_view : (moment : Moment) (opened : Opened) → IsOpened moment opened
    → IsSomeAnd opened.agent.agent.view (λ view. Unit {0})
opened_in_view moment opened is = some_view opened.agent.agent.view opened.view is.in_view

-- the agent is in its view still once the threads ran
pub run_in_view : {K S C : Type 0} (over : Over K S C) (asking : Asking C) (threads : ℕ) (opening : Holder K S) (closed : Closed K S)
    → HasRun over asking threads opening closed → IsSomeAnd opening.agent.view (λ view. Unit {0})
    → IsSomeAnd closed.agent.agent.view (λ view. Unit {0})
run_in_view over asking threads opening closed run some =
    still_in_view over.kind run.gate.opening closed.agent run.run.history run.run.has_taken
    (subst (λ h. IsSomeAnd h.agent.view (λ view. Unit {0})) (sym run.its_opening) some)

-- members over this ring
abbrev pub members_over : {C : Type 0} → LiveState → Asked C → Over KeeperState Signer C
members_over ring asked = over_ring (kind_of hss IsSigner saves_in_memory) ring asked.gives

abbrev pub asking_at : {C : Type 0} → View → Asked C → Asking C
asking_at view asked = asking_in view asked.calls asked.moment asked.after

-- all together
pub has_come : {C : Type 0} (asked : Asked C) (moment : ℕ × ℕ) (at : Moment) (opened : Opened) (ring : LiveState)
    (closed : Closed KeeperState Signer) (tally : Tally) → at ≡ moment_of moment → asked.gives asked.before moment asked.after
    → IsOpened at opened → ring ≡ new_ring 5 3
    → HasRun (members_over ring asked) (asking_at opened.view asked) asked.threads opened.agent closed
    → tally.turns ≡ closed.turns → tally.files ≡ length (listing (kept_tree closed.agent.agent.holding) root_number)
    → newest_own closed.agent ≡ Some tally.last → HasCome asked tally
has_come {C} asked moment at opened ring closed tally is gave opens ring_is run turns files last =
    let Run : LiveState × View → Type 0 = λ t. HaveRun (over_gate (members_over t.0 asked) run.gate)
    (Session (over_gate (members_over t.0 asked) run.gate) (asking_at t.1 asked)) (threads_of asked.threads) closed.agent closed.turns in
    let ran : Run (new_ring 5 3, alone (own_key hss opens.signer)) = subst Run (λ i. (ring_is i, opens.its_view i)) run.run in
    record {
      moment = moment;
      gave = gave;
      signer = opens.signer;
      gate = run.gate;
      opens = subst (λ (t : Moment × Member). IsOpening opens.signer t.0 t.1) (λ i. (is i, sym run.its_opening i)) opens.opens;
      closed = closed.agent;
      run = subst (λ (n : ℕ). HaveRun (serving_of asked run.gate) (Session (serving_of asked run.gate) (asking_of asked opens.signer))
          (threads_of asked.threads) closed.agent n) (sym turns) ran;
      counts = record { files = files; last = last };
    }
