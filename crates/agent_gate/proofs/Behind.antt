-- What an agent knows and holds after a turn that was answered by the definitions.
use Rattle.std.proofs.Common.{◌≡◌, ◌≢◌, ◌⊎◌, inl, inr, ℕ, ◌+◌, ◌-◌, ◌≤◌, Bool, true, false, cond, ◌||◌, ◌&&◌, not, List, [], ◌∷◌, ◌++◌, Option, Some, None, refl, sym, ap, ◌∙◌, subst, arith, Contains}
use Rattle.std.proofs.lemmas.List.{same_from_push}
use Rattle.std.proofs.lemmas.List.Elements.{Contains-append_left}
use Rattle.ivy_base.specs.declared.key.Key.{Key}
use Rattle.ivy_base.specs.declared.key.PubKey.{PubKey}
use Rattle.ivy_base.specs.declared.operation.Moment.{Moment}
use Rattle.ivy_base.specs.declared.operation.Op.{Op}
use Rattle.ivy_base.specs.Naming.{head_key_of}
use Rattle.log_model.specs.Closed.{IsClosed, IsClosedPart, log_of}
use Rattle.log_model.specs.Rank.{front, own_entry}
use Rattle.log_model.specs.Record.{Heading, Record}
use Rattle.log_model.specs.Signing.{Signing}
use Rattle.log_model.specs.Vector.{Stamp, Vector, join, reach, seq_of, stamp_at}
use Rattle.log_model.specs.View.{View, IsView}
use Rattle.log_model.proofs.Chains.{last_after}
use Rattle.log_model.proofs.Weights.{sorted_front}
use Rattle.turn_model.specs.Basis.{Holding, HoldsAll, Knows}
use Rattle.turn_model.specs.Known.{EndsAt, IsKnown}
use Rattle.turn_model.specs.Turn.{Asked, Candidate, Inputs, IsAvailable, Turned, linked, own_seq, tries_save, turn_on}
use Rattle.turn_laws.proofs.Fronts.{front_is_joined}
use Rattle.turn_laws.proofs.Starts.{ends_with, own_stamp}
use Rattle.turn_laws.proofs.Turns.{turn_set_is_closed}
use Rattle.agent_laws.specs.Laws.{IsToSave}
use Rattle.agent_laws.proofs.Floors.{joined_first, joined_known, split_last}
use Rattle.agent_laws.proofs.Plans.{is_to_save}
use Rattle.agent_laws.proofs.Sets.{holds_written, lost_set, read_set, same_behind, saved_set}
use Rattle.agent_model.specs.Agent.{Agent, Kept, failed, joined, own, own_reach}
use Rattle.agent_model.specs.Turning.{Becomes, inputs, inputs_before, taking, with_held, written_by}
use Rattle.agent_model.specs.Turning.Becomes.{reads, saves, loses}
use Rattle.ivy_agent.specs.Answering.{IsCall}
use Rattle.agent_gate.specs.Taking.{SignsOn}

nothing_there : (before : List Record) (last : Record) → before ++ last ∷ [] ≡ [] → ⊥
nothing_there [] last e = cc e
nothing_there (r ∷ before) last e = cc e

ended_begun : (o : Option Stamp) (log : List Record) → EndsAt o log → 1 ≤ reach o → log ≢ []
ended_begun None log ends some none = absurd (omega (arith, some))
ended_begun (Some t) log ends some none = nothing_there ends.0 ends.1 (sym ends.2 ∙ none)

-- ---- the own number

module _ (view : View) (known : List Record) (own : PubKey) (well : IsView view) (closed : IsClosed view known) (member : Contains view.members own) where
  pub number_at : (o : Option Stamp) → EndsAt o (log_of own known) → 1 ≤ reach o → reach o ≡ own_seq own known
  number_at None ends some = absurd (omega (arith, some))
  number_at (Some t) ends some =
      let its = ends_with known own (ended_begun (Some t) (log_of own known) ends some) in
      let parts = split_last its.1.first its.1.rest in
      let same : ends.1 ≡ its.0 = (same_from_push ends.0 parts.0 ends.1 (last_after its.1.first its.1.rest) (sym ends.2 ∙ its.1.log ∙ parts.1)).1 ∙ its.1.last in
      let at : stamp_at (front known) (head_key_of own) ≡ Some (own_entry its.0).1 = own_stamp view known own its.0 well closed member its.1 in
      ap (λ (x : Stamp). x.seq) (sym ends.3) ∙ ap (λ (r : Record). r.seq) same ∙ sym (ap reach at)

-- ---- after the turn

-- the agent knows and holds that set, and its leaves and its fault go by whether it tried to save and whether that failed
pub record StandsBehind {S : Type 0} (signs : Signing S) (view : View) (a after : Agent S) (set : List Record) (tries fails : Bool) : Type 0 where
  pub knows : Knows view after.floor after.holding set
  pub holds : HoldsAll view set after.holding
  pub front : joined after.holding ≡ front set
  pub leaves : signs.remaining after.signer ≡ cond (tries && not fails) (signs.remaining a.signer - 1) (signs.remaining a.signer)
  pub failed : after.has_failed ≡ (a.has_failed || (tries && fails))
  pub begun : 1 ≤ own_reach signs after

or_false : (b c : Bool) → c ≡ false → b ≡ (b || c)
or_false true c e = refl
or_false false true e = cc e
or_false false false e = refl

or_true : (b c : Bool) → c ≡ true → true ≡ (b || c)
or_true true c e = refl
or_true false true e = refl
or_true false false e = cc e

not_tried : (tries fails : Bool) → tries ≡ false → (tries && fails) ≡ false
not_tried true fails e = cc e
not_tried false fails e = refl

both_true : (tries fails : Bool) → tries ≡ true → fails ≡ true → (tries && fails) ≡ true
both_true true true e f = refl
both_true true false e f = cc f
both_true false fails e f = cc e

not_failed : (tries fails : Bool) → fails ≡ false → (tries && fails) ≡ false
not_failed true true e = cc e
not_failed true false e = refl
not_failed false fails e = refl

one_fewer : (tries fails : Bool) (n m : ℕ) → tries ≡ true → fails ≡ false → m + 1 ≡ n → m ≡ cond (tries && not fails) (n - 1) n
one_fewer true true n m e f h = cc f
one_fewer true false n m e f h = omega (arith, h)
one_fewer false fails n m e f h = cc e

none_fewer : (tries fails : Bool) (n : ℕ) → (tries ≡ false) ⊎ (fails ≡ true) → n ≡ cond (tries && not fails) (n - 1) n
none_fewer true true n h = refl
none_fewer true false n (inl e) = cc e
none_fewer true false n (inr e) = cc e
none_fewer false fails n h = refl

longer_not : (s written : List Record) (r : Record) → s ++ (written ++ r ∷ []) ≡ s → ⊥
longer_not [] written r e = nothing_there written r e
longer_not (q ∷ s) written r e = longer_not s written r (cc e)

linked_some : (h : Heading) (seq : ℕ) (prev : Key) (o : Op) (ops : List Op) → linked h seq prev (o ∷ ops) ≡ [] → ⊥
linked_some h seq prev o ops e = cc e

module _ {S : Type 0} (signs : Signing S) (on : SignsOn signs) (view : View) (well : IsView view) (a : Agent S) (member : Contains view.members (own signs a))
    (known : List Record) (knows : Knows view a.floor a.holding known) (begun : 1 ≤ own_reach signs a) (asked : Asked) (now : Moment) (is_call : IsCall asked now) where
  abbrev x : Inputs
  x = inputs_before signs a view

  log_begun : log_of (own signs a) known ≢ []
  log_begun = ended_begun (stamp_at a.floor (head_key_of (own signs a))) (log_of (own signs a) known) (knows.by_floor.ends (own signs a) member) begun

  -- with that joined into its floor
  module _ (set : List Record) (g : Holding) (more : (r : Record) → Contains known r → Contains set r) (closed : IsClosed view set) (holds : HoldsAll view set g) where
    front_is : joined g ≡ front set
    front_is = sym (front_is_joined view set g holds)

    knows_then : Knows view (join a.floor (joined g)) g set
    knows_then = record {
      by_floor = subst (λ (v : Vector). IsKnown view (join a.floor v) set) (sym front_is) (joined_known view well a.floor known set knows.by_floor more closed);
      closed = closed;
      holds = inr holds;
    }

    begun_then : 1 ≤ seq_of (join a.floor (joined g)) (head_key_of (own signs a))
    begun_then =
        let first = joined_first (head_key_of (own signs a)) a.floor (front set) (sorted_front set) in
        let same : seq_of (join a.floor (front set)) (head_key_of (own signs a)) ≡ seq_of (join a.floor (joined g)) (head_key_of (own signs a)) = ap (λ (v : Vector). seq_of (join a.floor v) (head_key_of (own signs a))) (sym front_is) in
        omega (arith, begun, first, same)

  -- the turn by the definitions, from these candidates
  module _ (fails : Bool) (candidates : List Candidate) (taken : List Record) (turned : Turned) (largest : IsClosedPart view (IsAvailable known candidates) taken)
      (by_set : turned ≡ turn_on (inputs signs a view fails) taken asked now) (h : Holding) (holds : HoldsAll view taken h) where
    abbrev tries : Bool
    tries = tries_save x taken asked now

    has_known : (r : Record) → Contains known r → Contains taken r
    has_known r c = largest.largest known (λ q d. inl d) knows.closed r c

    closed_then : IsClosed view turned.set
    closed_then = turn_set_is_closed (inputs signs a view fails) known candidates asked now turned well member knows.closed log_begun is_call.caller is_call.args is_call.moment
        (record { taken = taken; largest = largest; by_set = by_set })

    tried : IsToSave x taken now tries (turn_on x taken asked now)
    tried = is_to_save x taken asked now

    -- with nothing written it didn't try; with records written it did
    reads_only : taken ++ [] ≡ (turn_on x taken asked now).set → tries ≡ false
    reads_only e = by tried
      where
        by : IsToSave x taken now tries (turn_on x taken asked now) → tries ≡ false
        by (inl (did, unfailed, o, ops, set)) = absurd (linked_some _ _ _ o ops (sym (same_behind taken [] _ (e ∙ set))))
        by (inr (not_tried, set)) = not_tried

    wrote : (before : List Record) (last : Record) → taken ++ (before ++ last ∷ []) ≡ (turn_on x taken asked now).set → tries ≡ true
    wrote before last e = by tried
      where
        by : IsToSave x taken now tries (turn_on x taken asked now) → tries ≡ true
        by (inl (did, unfailed, o, ops, set)) = did
        by (inr (not_tried, set)) = absurd (longer_not taken before last (e ∙ set))

    taken_stands : (after : Agent S) → after.floor ≡ join a.floor (joined h) → after.holding ≡ h → own_reach signs after ≡ seq_of (join a.floor (joined h)) (head_key_of (own signs a))
        → signs.remaining after.signer ≡ cond (tries && not fails) (signs.remaining a.signer - 1) (signs.remaining a.signer) → after.has_failed ≡ (a.has_failed || (tries && fails))
        → turned.set ≡ taken → StandsBehind signs view a after turned.set tries fails
    taken_stands after floor holding reach leaves failed set =
        subst (λ (s : List Record). StandsBehind signs view a after s tries fails) (sym set) (record {
          knows = subst (λ (v : Vector). Knows view v after.holding taken) (sym floor)
              (subst (λ (g : Holding). Knows view (join a.floor (joined h)) g taken) (sym holding) (knows_then taken h has_known largest.closed holds));
          holds = subst (HoldsAll view taken) (sym holding) holds;
          front = ap joined holding ∙ front_is taken h has_known largest.closed holds;
          leaves = leaves;
          failed = failed;
          begun = let begun = begun_then taken h has_known largest.closed holds in omega (arith, begun, reach);
        })

    -- what becomes of the agent
    pub stands_behind : (written : List Record) (after : Agent S) (saving : Option (Kept S)) → taken ++ written ≡ (turn_on x taken asked now).set → Becomes signs view a h fails written after saving
        → StandsBehind signs view a after turned.set tries fails
    stands_behind _ _ _ writes reads =
        let still = reads_only writes in
        taken_stands (taking signs a h) refl refl refl (none_fewer tries fails (signs.remaining a.signer) (inl still)) (or_false a.has_failed (tries && fails) (not_tried tries fails still)) (ap (λ (t : Turned). t.set) by_set ∙ read_set signs a view taken asked now fails writes)
    stands_behind _ _ _ writes (loses before last may failing) =
        let did = wrote before last writes in
        taken_stands (failed (taking signs a h)) refl refl refl (none_fewer tries fails (signs.remaining a.signer) (inr failing)) (or_true a.has_failed (tries && fails) (both_true tries fails did failing))
        (ap (λ (t : Turned). t.set) by_set ∙ lost_set signs a view taken asked now fails failing)
    stands_behind _ _ _ writes (saves before last may works) =
        let did = wrote before last writes in
        let set : turned.set ≡ taken ++ (before ++ last ∷ []) = ap (λ (t : Turned). t.set) by_set ∙ saved_set signs a view taken asked now fails works ∙ sym writes in
        let closed = subst (IsClosed view) set closed_then in
        let more : (r : Record) → Contains known r → Contains (taken ++ (before ++ last ∷ [])) r = λ r c. Contains-append_left taken (before ++ last ∷ []) r (has_known r c) in
        let all = holds_written view (own signs a) taken h holds x refl asked now (before ++ last ∷ []) writes in
        let g : Holding = with_held h (before ++ last ∷ []) in
        let after : Agent S = written_by signs a h before last in
        let reach : own_reach signs after ≡ seq_of (join a.floor (joined g)) (head_key_of (own signs a)) = ap (λ (k : List ℕ). seq_of (join a.floor (joined g)) (head_key_of (record { 0 = k }))) (on.key a.signer may.is_left) in
        subst (λ (s : List Record). StandsBehind signs view a after s tries fails) (sym set) (record {
          knows = knows_then (taken ++ (before ++ last ∷ [])) g more closed all;
          holds = all;
          front = front_is (taken ++ (before ++ last ∷ [])) g more closed all;
          leaves = one_fewer tries fails (signs.remaining a.signer) (signs.remaining after.signer) did works (on.left a.signer may.is_left);
          failed = or_false a.has_failed (tries && fails) (not_failed tries fails works);
          begun = let begun = begun_then (taken ++ (before ++ last ∷ [])) g more closed all in omega (arith, begun, reach);
        })
