-- What a turn that takes something answers and writes, by the definition.
use Rattle.std.proofs.Common.{◌≡◌, ◌≢◌, ℕ, ◌+◌, ◌≤◌, suc, Bool, true, false, ◌||◌, List, [], ◌∷◌, ◌++◌, length, map, refl, sym, ap, ◌∙◌, subst, arith, Contains}
use Rattle.std.specs.List.{AllByRecursion}
use Rattle.std.specs.Option.{option_map_or}
use Rattle.std.proofs.lemmas.List.{append-nil, map-append}
use Rattle.std.proofs.lemmas.List.Elements.{Contains-append_right}
use Rattle.ivy_base.specs.declared.format.Format.TheVariants.{One}
use Rattle.ivy_base.specs.declared.key.Key.{Key}
use Rattle.ivy_base.specs.declared.key.PubKey.{PubKey}
use Rattle.ivy_base.specs.declared.operation.Moment.{Moment}
use Rattle.ivy_base.specs.declared.operation.Op.{Op}
use Rattle.ivy_base.specs.Naming.{IsCollisionFree, head_key_of}
use Rattle.tree_model.specs.Apply.{apply_all}
use Rattle.tree_model.specs.Tree.{Tree}
use Rattle.wire_model.specs.Rpc.{IsIdentity}
use Rattle.log_model.specs.Chain.{AllMayBeWritten, IsGood}
use Rattle.log_model.specs.Closed.{IsClosed, log_of}
use Rattle.log_model.specs.Laws.{NumbersAreKeys}
use Rattle.log_model.specs.Rank.{front}
use Rattle.log_model.specs.Record.{Heading, Record}
use Rattle.log_model.specs.Replay.{effect, replay}
use Rattle.log_model.specs.Spelling.{IsMoment, new_record, no_name}
use Rattle.log_model.specs.Vector.{Vector, reach, seq_of, stamp_at}
use Rattle.log_model.specs.View.{View, IsView}
use Rattle.log_model.proofs.Later.{EndsWith, apply_more, good_of, replay_more}
use Rattle.log_model.proofs.Lists.{each_from, each}
use Rattle.nfs_model.specs.Arguments.{ArgumentsFit}
use Rattle.nfs_model.specs.Changing.{finish}
use Rattle.nfs_model.specs.declared.replies.NfsStatus.TheVariants.{ServerFault}
use Rattle.nfs_model.specs.declared.replies.Reply.{Reply}
use Rattle.nfs_model.specs.declared.replies.Reply.TheVariants.{Refused}
use Rattle.turn_model.specs.Basis.{Holding, Knows, kept_tree}
use Rattle.turn_model.specs.Turn.{Inputs, Asked, Turned, appended, bare_tail, heading_over, linked, turn_on}
use Rattle.turn_model.proofs.Kept.{kept_tree_is_replay}
use Rattle.turn_model.proofs.Plans.{plan_may_be_written}
use Rattle.turn_laws.proofs.Starts.{ends_with, own_stamp}
use Rattle.turn_laws.proofs.Turns.{appended_closed, closed_makes_keys}
use Rattle.log_model.specs.Signing.{Signing}
use Rattle.agent_model.specs.Agent.{Agent, joined, own, own_reach}
use Rattle.agent_model.specs.Candidates.{Grounds, MayTurn}
use Rattle.agent_model.specs.Standing.{Refresh, going_on}
use Rattle.turn_laws.specs.Taking.{TakesNew, with_new}
use Rattle.agent_model.specs.Turning.{AreNext, IsByDefinition, IsTurnBy, IsTurnOf, inputs, inputs_before, with_held}
use Rattle.turn_laws.specs.Laws.{IsTakenBy}
use Rattle.turn_laws.proofs.Fronts.{front_is_joined, reach_of_log}
use Rattle.turn_laws.proofs.Served.{IsOn, MayAppend, by_failing, kept, more}
use Rattle.turn_laws.proofs.Taken.{going_is_gone_on, is_taken, own_ends}
use Rattle.turn_laws.proofs.Octets.{HasOctets}

or_left : (b c : Bool) → b ≡ true → (b || c) ≡ true
or_left true c h = refl
or_left false c h = cc

-- more records that are held make of the tree what they do
held_more : (h : Holding) (records : List Record) → kept_tree (with_held h records) ≡ apply_all (kept_tree h) (map effect records)
held_more h records = ap (λ (l : List (Moment × Op)). apply_all h.basis.tree l) (map-append effect h.held records) ∙ apply_more h.basis.tree (map effect h.held) (map effect records)

-- ---- the records of some operations

module _ (heading : Heading) where
  all_next : (n : ℕ) (prev : Key) (ops : List Op) → AreNext n (linked heading (n + 1) prev ops)
  all_next n prev [] = tt
  all_next n prev (op ∷ ops) = (refl, all_next (n + 1) (new_record heading (n + 1) prev op).name ops)

  as_many : (n : ℕ) (prev : Key) (ops : List Op) → length (linked heading n prev ops) ≡ length ops
  as_many n prev [] = refl
  as_many n prev (op ∷ ops) = ap (λ (k : ℕ). suc k) (as_many (n + 1) (new_record heading n prev op).name ops)

  all_owned : (n : ℕ) (prev : Key) (ops : List Op) → AllByRecursion (λ r. r.owner ≡ heading.owner) (linked heading n prev ops)
  all_owned n prev [] = tt
  all_owned n prev (op ∷ ops) = (refl, all_owned (n + 1) (new_record heading n prev op).name ops)

  all_octets : (n : ℕ) (prev : Key) (ops : List Op) → AllByRecursion HasOctets ops → AllByRecursion (λ r. HasOctets r.op) (linked heading n prev ops)
  all_octets n prev [] h = tt
  all_octets n prev (op ∷ ops) h = (h.0, all_octets (n + 1) (new_record heading n prev op).name ops h.1)

module _ {S : Type 0} (signs : Signing S) (a : Agent S) (view : View) (brought : Refresh) (new : List Record) (asked : Asked) (now : Moment) (well : IsView view) (member : Contains view.members (own signs a))
    (takes : TakesNew view (own signs a) a.floor (going_on a brought.basis) brought new) where
  abbrev mine : PubKey
  mine = own signs a

  abbrev pub held : Holding
  held = with_new (going_on a brought.basis) new

  abbrev far : ℕ
  far = seq_of (joined held) (head_key_of mine)

  -- what was taken stands for the tree that is held, and the own log ends in it where it does in what is held
  abbrev On : List Record → Type 0
  On s = IsOn view mine (signs.remaining a.signer) a.has_failed (kept_tree held) far asked now s

  abbrev failing_by : Bool → Inputs
  failing_by failing = by_failing view mine (signs.remaining a.signer) a.has_failed (kept_tree held) far asked now failing

  abbrev Appends : List Op → Type 0
  Appends ops = MayAppend view mine (signs.remaining a.signer) a.has_failed (kept_tree held) far asked now ops

  abbrev still : Reply → List Record → Turned
  still reply s = kept view mine (signs.remaining a.signer) a.has_failed (kept_tree held) far asked now reply s

  abbrev with_more : List Op → List Record → Turned
  with_more ops s = more view mine (signs.remaining a.signer) a.has_failed (kept_tree held) far asked now ops s

  -- one record for each operation, over what is held
  abbrev over : Vector → List Op → List Record
  over f ops = linked (heading_over mine One now f) (seq_of f (head_key_of mine) + 1) (option_map_or (λ t. t.name) (stamp_at f (head_key_of mine)) no_name) ops

  abbrev pub written : List Op → List Record
  written ops = over (joined held) ops

  pub next_written : (ops : List Op) → AreNext far (written ops)
  next_written ops = all_next (heading_over mine One now (joined held)) far (option_map_or (λ t. t.name) (stamp_at (joined held) (head_key_of mine)) no_name) ops

  pub count_written : (ops : List Op) → length (written ops) ≡ length ops
  count_written ops = as_many (heading_over mine One now (joined held)) (far + 1) (option_map_or (λ t. t.name) (stamp_at (joined held) (head_key_of mine)) no_name) ops

  pub octets_written : (ops : List Op) → AllByRecursion HasOctets ops → AllByRecursion (λ r. HasOctets r.op) (written ops)
  octets_written ops h = all_octets (heading_over mine One now (joined held)) (far + 1) (option_map_or (λ t. t.name) (stamp_at (joined held) (head_key_of mine)) no_name) ops h

  owned_written : (ops : List Op) → AllByRecursion (λ r. r.owner ≡ mine) (written ops)
  owned_written ops = all_owned (heading_over mine One now (joined held)) (far + 1) (option_map_or (λ t. t.name) (stamp_at (joined held) (head_key_of mine)) no_name) ops

  abbrev pub written_reply : List Op → Reply
  written_reply ops = finish (kept_tree held) (kept_tree (with_held held (written ops))) view asked.caller asked.args ops

  abbrev pub lost_reply : Reply
  lost_reply = Refused ServerFault (bare_tail asked.args)

  -- ---- whatever the agent may know

  module _ (grounds : Grounds) (known : List Record) (apart : IsCollisionFree grounds.met) (knows : Knows view a.floor a.holding known) (may : MayTurn grounds view mine known brought) where
    pub its : (taken : List Record) × IsTakenBy (record { grounds = grounds; started = brought.started }) view known held taken
    its = (_, is_taken grounds view mine a.floor a.holding (going_on a brought.basis) known brought apart well knows (going_is_gone_on a brought.basis) may takes.caught_up takes.above new takes.part)

    abbrev taken : List Record
    taken = its.0

    pub closed : IsClosed view taken
    closed = its.1.largest.closed

    tree_is : kept_tree held ≡ replay taken
    tree_is = kept_tree_is_replay view taken held closed its.1.holds

    pub front_is : front taken ≡ joined held
    front_is = front_is_joined view taken held its.1.holds

    on : On taken
    on = (sym tree_is, ap (λ (f : Vector). seq_of f (head_key_of mine)) front_is)

    pub far_is : far ≡ own_reach signs a
    far_is = ap reach (own_ends grounds view mine a.floor a.holding (going_on a brought.basis) known brought apart well knows (going_is_gone_on a brought.basis) may takes.caught_up takes.above new takes.part member)

    turn_by : (fails : Bool) (turned : Turned) → turned ≡ turn_on (inputs signs a view fails) taken asked now → IsTurnBy signs (record { grounds = grounds; started = brought.started }) (record { agent = a; view = view; now = now; fails = fails }) known asked taken turned
    turn_by fails turned is = record { candidates = its.1.candidates; of_heads = its.1.of_heads; largest = its.1.largest; by_set = is }

    of_replies : (reply : Reply) → ((failing : Bool) → (a.has_failed ≡ true → failing ≡ true) → (t : List Record) → On t → turn_on (failing_by failing) t asked now ≡ still reply t)
        → (fails : Bool) → IsTurnOf signs (record { grounds = grounds; started = brought.started }) (record { agent = a; view = view; now = now; fails = fails }) known asked held [] reply
    of_replies reply law fails = record {
      taken = taken;
      turned = still reply taken;
      is_turn = turn_by fails (still reply taken) (sym (law (a.has_failed || fails) (or_left a.has_failed fails) taken on));
      replies = refl;
      writes = append-nil taken ∙ ap (λ (t : Turned). t.set) (sym (law a.has_failed (λ e. e) taken on));
      holds = its.1.holds;
    }

    -- ---- with records

    module _ (begun : 1 ≤ own_reach signs a) (caller : IsIdentity asked.caller) (fits : ArgumentsFit asked.args) (moment : IsMoment now) (ops : List Op) (appends : Appends ops) where
      some_log : log_of mine taken ≢ []
      some_log none =
          let number : seq_of (front taken) (head_key_of mine) ≡ length (log_of mine taken) = reach_of_log view taken mine well closed member in
          let zero : length (log_of mine taken) ≡ 0 = ap length none in
          let same : seq_of (front taken) (head_key_of mine) ≡ far = on.1 in
          absurd (omega (arith, number, zero, same, far_is, begun))

      last : (p : Record) × EndsWith taken mine p
      last = ends_with taken mine some_log

      last_is : last.0.seq ≡ far
      last_is = sym (ap reach (own_stamp view taken mine last.0 well closed member last.1)) ∙ on.1

      keys : NumbersAreKeys (kept_tree held)
      keys = subst NumbersAreKeys (sym tree_is) (closed_makes_keys view taken closed)

      may_stand : AllMayBeWritten mine (far + 1) ops
      may_stand = plan_may_be_written (kept_tree held) view asked.caller asked.args now mine (far + 1) ops keys caller fits moment appends.planned (let few = appends.few in omega (arith, few))

      appended_is : appended mine One now taken ops ≡ taken ++ written ops
      appended_is = ap (λ (f : Vector). taken ++ over f ops) front_is

      all_closed : IsClosed view (taken ++ written ops)
      all_closed = subst (IsClosed view) appended_is
          (appended_closed (failing_by false) taken asked now last.0 well member closed last.1 caller fits moment One ops (subst (λ (n : ℕ). AllMayBeWritten mine (n + 1) ops) (sym last_is) may_stand))

      pub good_written : AllByRecursion (IsGood view mine) (written ops)
      good_written = each_from (IsGood view mine) (written ops) (λ r c.
          subst (λ (o : PubKey). IsGood view o r) (each_of r c) (good_of view (taken ++ written ops) r all_closed (Contains-append_right taken (written ops) r c)))
        where
          each_of : (r : Record) → Contains (written ops) r → r.owner ≡ mine
          each_of r c = each (λ (x : Record). x.owner ≡ mine) (written ops) r (owned_written ops) c

      tree_then : kept_tree (with_held held (written ops)) ≡ replay (appended mine One now taken ops)
      tree_then =
          held_more held (written ops)
          ∙ ap (λ (t : Tree). apply_all t (map effect (written ops))) tree_is
          ∙ sym (replay_more taken (written ops) closed.ascending all_closed.ascending)
          ∙ ap replay (sym appended_is)

      module _ (saved : (t : List Record) → On t → turn_on (failing_by false) t asked now ≡ with_more ops t) (lost : (t : List Record) → On t → turn_on (failing_by true) t asked now ≡ still lost_reply t) where
        before_is : turn_on (inputs_before signs a view) taken asked now ≡ with_more ops taken
        before_is = ap (λ (b : Bool). turn_on (failing_by b) taken asked now) appends.unfailed ∙ saved taken on

        writes_so : taken ++ written ops ≡ (turn_on (inputs_before signs a view) taken asked now).set
        writes_so = sym appended_is ∙ ap (λ (t : Turned). t.set) (sym before_is)

        of_saved : IsTurnOf signs (record { grounds = grounds; started = brought.started }) (record { agent = a; view = view; now = now; fails = false }) known asked held (written ops) (written_reply ops)
        of_saved = record {
          taken = taken;
          turned = with_more ops taken;
          is_turn = turn_by false (with_more ops taken) (sym (ap (λ (b : Bool). turn_on (failing_by (b || false)) taken asked now) appends.unfailed ∙ saved taken on));
          replies = (λ i. finish (tree_is i) (tree_then i) view asked.caller asked.args ops);
          writes = writes_so;
          holds = its.1.holds;
        }

        of_lost : IsTurnOf signs (record { grounds = grounds; started = brought.started }) (record { agent = a; view = view; now = now; fails = true }) known asked held (written ops) lost_reply
        of_lost = record {
          taken = taken;
          turned = still lost_reply taken;
          is_turn = turn_by true (still lost_reply taken) (sym (ap (λ (b : Bool). turn_on (failing_by (b || true)) taken asked now) appends.unfailed ∙ lost taken on));
          replies = refl;
          writes = writes_so;
          holds = its.1.holds;
        }

  -- ---- by the definition

  pub replies_so : (reply : Reply) → ((failing : Bool) → (a.has_failed ≡ true → failing ≡ true) → (t : List Record) → On t → turn_on (failing_by failing) t asked now ≡ still reply t)
      → (fails : Bool) → IsByDefinition signs brought (record { agent = a; view = view; now = now; fails = fails }) asked held [] reply
  replies_so reply law fails grounds known apart knows may = of_replies grounds known apart knows may reply law fails

  module _ (begun : 1 ≤ own_reach signs a) (caller : IsIdentity asked.caller) (fits : ArgumentsFit asked.args) (moment : IsMoment now) (ops : List Op) (appends : Appends ops)
      (saved : (t : List Record) → On t → turn_on (failing_by false) t asked now ≡ with_more ops t) (lost : (t : List Record) → On t → turn_on (failing_by true) t asked now ≡ still lost_reply t) where
    pub saved_so : IsByDefinition signs brought (record { agent = a; view = view; now = now; fails = false }) asked held (written ops) (written_reply ops)
    saved_so grounds known apart knows may = of_saved grounds known apart knows may begun caller fits moment ops appends saved lost

    pub lost_so : IsByDefinition signs brought (record { agent = a; view = view; now = now; fails = true }) asked held (written ops) lost_reply
    lost_so grounds known apart knows may = of_lost grounds known apart knows may begun caller fits moment ops appends saved lost
