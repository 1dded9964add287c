-- A line leads to one world and shows one thing, where memory was there and no names of what was met collide; so a script has one run at
-- most in which that is so.
use Rattle.std.proofs.Common.{◌≡◌, ℕ, Bool, true, false, List, [], ◌++◌, map, Option, Some, None, refl, sym, ap, ◌∙◌, subst}
use Rattle.std.specs.Prelude.{MatchBool, is_some, length, nat_lt, sum_by}
use Rattle.std.proofs.lemmas.List.Elements.{Contains-append_left}
use Rattle.ivy_base.specs.declared.key.PubKey.{PubKey}
use Rattle.ivy_base.specs.Naming.{IsCollisionFree}
use Rattle.hash_signature_model.specs.declared.set.Set.{Set}
use Rattle.dhash_model.specs.Signed.{hss_judged}
use Rattle.log_model.proofs.Lists.{each}
use Rattle.log_model.specs.View.{View, view_block, view_name}
use Rattle.dht_ids.specs.declared.ask.Ask.TheVariants as ask
use Rattle.dhash_client.specs.declared.put.PutKind.TheVariants as put
use Rattle.script_driver.specs.Run.{Ends, Exceeds, Goes, Outcome, Refuses, WithLaw}
use Rattle.script_driver.proofs.RunLaws.{single_run_kept}
use Rattle.script_model.specs.declared.command.Command.{Command}
use Rattle.script_model.specs.declared.command.Command.TheVariants as command
use Rattle.script_model.specs.Lines.{command_of}
use Rattle.snapshot_model.specs.Spelling.{root_name}
use Rattle.agent_model.specs.Others.{basis_of}
use Rattle.world_model.specs.Agents.{HssKept, hss_kept_bytes, own_hss_key}
use Rattle.world_model.specs.Fates.{Puts}
use Rattle.world_model.specs.World.{Participant, World, named_bytes, participant, session_named, with_participant}
use Rattle.world_model.specs.Faults.{damage_line, lose_line, node_named}
use Rattle.fork_model.specs.Before.{Before}
use Rattle.script_model.specs.declared.command.Shown.{Shown}
use Rattle.world_laws.proofs.RecordsTold.{told_alike}
use Rattle.world_model.specs.Shows.{Shows, show_line}
use Rattle.world_model.specs.Ring.{JoinLine, RingLine, stop_line}
use Rattle.world_model.specs.Rounds.{RoundLine}
use Rattle.world_model.specs.Rounds.RoundLine.{goes as round_goes}
use Rattle.world_model.specs.Logs.{IsKnownAgain, LogLine, Played, Publishes, RestartLine, SnapLine, ViewLine, acked_view, afresh_told, at_line, beside, having_snapped, having_tried, keep_line, keys_of, restarted, snap_text, snapping_in, use_line, with_new_participant, with_view}
use Rattle.world_model.specs.Logs.LogLine.{begins as log_begins}
use Rattle.world_model.specs.Logs.ViewLine.{makes as view_makes}
use Rattle.world_model.specs.Logs.RestartLine.{starts as restart_starts}
use Rattle.world_model.specs.Logs.SnapLine.{cannot as snap_cannot, fails as snap_fails, makes as snap_makes}
use Rattle.world_model.specs.Calls.{sending_of}
use Rattle.world_model.specs.Step.{Does, IvyStep, MayDoFirst, Untold, WithinLimit, most_bytes}
use Rattle.world_model.specs.Steps.{met_by}
use Rattle.world_laws.specs.Invariant.{IsKeptSo, IsSavedWell, Invariant}
use Rattle.world_laws.specs.Kinds.{Ending, Going, Limited, Refused, kind}
use Rattle.world_laws.specs.Laws.{FullRunsAreUnique, HadMemory, HasMemoryIn, StepsAreDeterministic}
use Rattle.world_laws.proofs.AllLines.{goes_within}
use Rattle.world_laws.proofs.Bringing.{found_named}
use Rattle.world_laws.proofs.EachLine.{each_line_keeps}
use Rattle.world_laws.proofs.Frames.{nodes_of_ring}
use Rattle.world_laws.proofs.KeptBytes.{kept_once}
use Rattle.world_laws.proofs.LineKinds.{line_has_one_kind}
use Rattle.world_laws.proofs.OneAsks.{puts_one}
use Rattle.world_laws.proofs.OneCalls.{AreSame, as_one, finish_one, open_one, step_line_one}
use Rattle.world_laws.proofs.OneKnown.{known_is_unique}
use Rattle.world_laws.proofs.OneRing.{join_one, ring_one, round_one}
use Rattle.world_laws.proofs.OneSteps.{publishing_is_deterministic}
use Rattle.world_laws.proofs.SecondTurns.{one_view}
use Rattle.world_laws.proofs.SignedHeads.{so_of}
use Rattle.world_laws.proofs.SpelledPosts.{made_spelled, not_both, unspelled_in}

-- ---- outcomes

world_of : (one other : Played) (text words : List ℕ) → Goes one text ≡ Goes other words → one ≡ other
world_of one other text words e = cc e

text_of : (one other : Played) (text words : List ℕ) → Goes one text ≡ Goes other words → text ≡ words
text_of one other text words e = cc e

goes_or_ends : (one : Played) (text : List ℕ) → Goes one text ≡ Ends → ⊥
goes_or_ends one text e = cc e

goes_or_refuses : (one : Played) (text : List ℕ) → Goes one text ≡ Refuses → ⊥
goes_or_refuses one text e = cc e

goes_or_exceeds : (one : Played) (text : List ℕ) → Goes one text ≡ Exceeds → ⊥
goes_or_exceeds one text e = cc e

same_goes : (one other : Played) (text words : List ℕ) → Goes one text ≡ Goes other words → AreSame one text other words
same_goes one other text words e = (world_of one other text words e, text_of one other text words e)

-- what is a function of the world
by_function : (o : Outcome Played) (one other : Played) (text words : List ℕ) → Goes one text ≡ o → Goes other words ≡ o → AreSame one text other words
by_function o one other text words f g = same_goes one other text words (f ∙ sym g)

-- what the ghost state doesn't tell of
module _ (w : Played) (Line : Outcome World → Type 0) (line_one : (one other : World) (text words : List ℕ) → Line (Goes one text) → Line (Goes other words) → (one ≡ other) × (text ≡ words)) where
  by_outcomes : (o p : Outcome World) → Line o → Line p → (one other : Played) (text words : List ℕ) → Goes one text ≡ beside w.1 o → Goes other words ≡ beside w.1 p → AreSame one text other words
  by_outcomes (Goes n t) (Goes m u) f g one other text words is also =
      let same = line_one n m t u f g in
      same_goes one other text words (is ∙ (λ i. Goes (same.0 i, w.1) (same.1 i)) ∙ sym also)
  by_outcomes (Goes n t) Ends f g one other text words is also = absurd (goes_or_ends other words also)
  by_outcomes (Goes n t) Refuses f g one other text words is also = absurd (goes_or_refuses other words also)
  by_outcomes (Goes n t) Exceeds f g one other text words is also = absurd (goes_or_exceeds other words also)
  by_outcomes Ends p f g one other text words is also = absurd (goes_or_ends one text is)
  by_outcomes Refuses p f g one other text words is also = absurd (goes_or_refuses one text is)
  by_outcomes Exceeds p f g one other text words is also = absurd (goes_or_exceeds one text is)

  untold_one : (one other : Played) (text words : List ℕ) → Untold w Line (Goes one text) → Untold w Line (Goes other words) → AreSame one text other words
  untold_one one other text words f g = by_outcomes f.0 g.0 f.1 g.1 one other text words f.2 g.2

some_number : (a b : ℕ) → Some a ≡ Some b → a ≡ b
some_number a b e = cc e

some_bytes : (a b : List ℕ) → Some a ≡ Some b → a ≡ b
some_bytes a b e = cc e

-- ---- rounds

round_line_one : (w : Played) → Invariant w → (o : Option ℕ) → w.0.replicas ≡ o → (one other : World) (text words : List ℕ) → RoundLine hss_judged w.0 o (Goes one text) → RoundLine hss_judged w.0 o (Goes other words) → (one ≡ other) × (text ≡ words)
round_line_one w keeps _ ringed _ _ _ _ (round_goes r next round) (round_goes s after going) = (round_one hss_judged r w.0 (nodes_of_ring w r keeps ringed) next after round going, refl)

-- ---- a log that begins

log_one : (w : Played) (name id seed : List ℕ) (sets : List Set) (one other : Played) (text words : List ℕ) → LogLine hss_judged w name id seed sets (Goes one text) → LogLine hss_judged w name id seed sets (Goes other words) → AreSame one text other words
log_one w name id seed sets _ _ _ _ (log_begins r p next ringed new is published) (log_begins s q after ringing newer also publishing) =
    let ring : s ≡ r = some_number s r (sym ringing ∙ ringed) in
    let whose : q ≡ p = also ∙ sym is in (
      publishing_is_deterministic r (with_new_participant w p) p next after published
          (subst (λ (x : Participant). Publishes hss_judged r (with_new_participant w x) x after) whose (subst (λ (k : ℕ). Publishes hss_judged k (with_new_participant w q) q after) ring publishing)),
      refl,
    )

-- ---- a view that is made

view_one : (w : Played) (name : List ℕ) (members former : Option (List PubKey)) (one other : Played) (text words : List ℕ) → ViewLine hss_judged w name members former (Goes one text) → ViewLine hss_judged w name members former (Goes other words)
    → AreSame one text other words
view_one w name _ _ _ _ _ _ (view_makes members former r view next new heads small ringed is f) (view_makes them gone s look after newer own_hss_key little ringing also g) =
    let pair : (view, r) ≡ (look, s) = (λ i. ((is ∙ sym also) i, some_number r s (sym ringed ∙ ringing) i)) in
    let same = subst (λ (x : View × ℕ). (h : Puts hss_judged (with_view w.0 name x.0) x.1 (view_name x.0) (ask.PutBlock (view_name x.0) (view_block x.0)) after) → (next ≡ after) × (acked_view view f.came ≡ acked_view x.0 h.came)) pair
    (λ h. let two = puts_one hss_judged put.Block (view_block view) (view_name view) r (with_view w.0 name view) next after f h in (two.1, ap (acked_view view) two.0)) g in
    ((λ i. (same.0 i, record w.1 { acked = w.1.acked ++ same.1 i })), refl)

-- ---- a participant that starts again

some_of : (o : Option View) → is_some o ≡ true → (v : View) × (o ≡ Some v)
some_of None e = cc e
some_of (Some v) e = (v, refl)

restart_one : (w : Played) → Invariant w → (log : List ℕ) (o : Option Participant) → participant w.0 log ≡ o → (one other : Played) (text words : List ℕ) → IsCollisionFree (named_bytes one.0) → RestartLine w o (Goes one text) → RestartLine w o (Goes other words)
    → AreSame one text other words
restart_one w keeps log _ is _ _ _ _ apart (restart_starts p view k set in_view whole held known) (restart_starts q look l other within well holding knowing) =
    ((λ i. (restarted w.0 p (same i), afresh_told w p.name (sets i))), refl)
  where
    same : k ≡ l
    same = kept_once k l whole well (some_bytes (hss_kept_bytes k) (hss_kept_bytes l) (sym held ∙ holding))

    again : IsKnownAgain (restarted w.0 p k) k other
    again = subst (λ (x : HssKept). IsKnownAgain (restarted w.0 p x) x other) (sym same) knowing

    saved : IsSavedWell p k
    saved = so_of IsSavedWell p k (each (IsKeptSo IsSavedWell) w.0.participants p keeps.saved (found_named w.0.participants log p is).0) whole held

    its : (v : View) × (k.view ≡ Some v)
    its = some_of k.view (saved.entered (ap is_some in_view))

    met_apart : IsCollisionFree (restarted w.0 p k).met
    met_apart a b in_a in_b names = apart a b (Contains-append_left (restarted w.0 p k).met (map (λ (o : Participant). (own_hss_key o.agent).0) (restarted w.0 p k).participants) a in_a)
        (Contains-append_left (restarted w.0 p k).met (map (λ (o : Participant). (own_hss_key o.agent).0) (restarted w.0 p k).participants) b in_b) names

    sets : set ≡ other
    sets = let f = known its.0 its.1 apart in let g = again its.0 its.1 apart in known_is_unique (restarted w.0 p k).met its.0 k.floor set other met_apart f.0 g.0 f.1 g.1

-- ---- a snapshot

true_or_false : (b : Bool) → b ≡ true → b ≡ false → ⊥
true_or_false b f g = cc (sym f ∙ g)

snap_one : (w : Played) (o : Option Participant) (one other : Played) (text words : List ℕ) → SnapLine hss_judged w o (Goes one text) → SnapLine hss_judged w o (Goes other words) → AreSame one text other words
snap_one w _ _ _ _ _ (snap_fails p view in_view tried spelled) (snap_fails q look within trying spelling) =
    ((λ i. (with_participant w.0 (having_tried p (one_view view look (sym in_view ∙ within) i)), w.1)), refl)
snap_one w _ _ _ _ _ (snap_fails p view in_view tried spelled) (snap_makes q made look r next within trying ringed is spelling published) =
    absurd (true_or_false (snapping_in p look).0.1 trying (ap (λ (v : View). (snapping_in p v).0.1) (one_view look view (sym within ∙ in_view)) ∙ tried))
snap_one w _ _ _ _ _ (snap_makes p made view r next in_view tried ringed is spelled published) (snap_fails q look within trying spelling) =
    absurd (true_or_false (snapping_in p view).0.1 tried (ap (λ (v : View). (snapping_in p v).0.1) (one_view view look (sym in_view ∙ within)) ∙ trying))
snap_one w _ _ _ _ _ (snap_makes p made view r next in_view tried ringed is spelled published) (snap_makes q also look s after within trying ringing such spelling publishing) =
    let same : view ≡ look = one_view view look (sym in_view ∙ within) in
    let whose : also ≡ made = such ∙ ap (having_snapped p) (sym same) ∙ sym is in
    let ring : s ≡ r = some_number s r (sym ringing ∙ ringed) in (
      publishing_is_deterministic r (record (with_participant w.0 made) { met = met_by w.0.met made.agent.pending }, w.1) made next after published
          (subst (λ (x : Participant). Publishes hss_judged r (record (with_participant w.0 x) { met = met_by w.0.met x.agent.pending }, w.1) x after) whose
          (subst (λ (n : ℕ). Publishes hss_judged n (record (with_participant w.0 also) { met = met_by w.0.met also.agent.pending }, w.1) also after) ring publishing)),
      (λ i. snap_text p.name (root_name (same i) (basis_of p.agent.holding))),
    )
snap_one w _ _ _ _ _ (snap_cannot p view in_view unspelled) (snap_cannot q look within unspelling) = (refl, refl)
snap_one w _ _ _ _ _ (snap_cannot p view in_view unspelled) (snap_fails q look within trying spelling) = absurd (not_both (snapping_in p look).1 spelling (unspelled_in p view look in_view within unspelled))
snap_one w _ _ _ _ _ (snap_cannot p view in_view unspelled) (snap_makes q made look r next within trying ringed is spelling published) =
    absurd (made_spelled p made look trying is spelling (unspelled_in p view look in_view within unspelled))
snap_one w _ _ _ _ _ (snap_fails p view in_view tried spelled) (snap_cannot q look within unspelling) = absurd (not_both (snapping_in p view).1 spelled (unspelled_in p look view within in_view unspelling))
snap_one w _ _ _ _ _ (snap_makes p made view r next in_view tried ringed is spelled published) (snap_cannot q look within unspelling) =
    absurd (made_spelled p made view tried is spelled (unspelled_in p look view within in_view unspelling))

-- ---- what is shown

same_world : (one other : World) (text words : List ℕ) → Goes one text ≡ Goes other words → (one ≡ other) × (text ≡ words)
same_world one other text words e = (cc e, cc e)

show_one : (w : World) (s : Shown) (one other : World) (text words : List ℕ) → Shows w s (Goes one text) → Shows w s (Goes other words) → (one ≡ other) × (text ≡ words)
show_one w s one other text words f g = same_world one other text words (f.2 ∙ ap (λ (before : Before). show_line before w s) (told_alike f.0 g.0 f.1 g.1) ∙ sym g.2)

-- ---- commands

within_limit : (b : Bool) (may : Type 0) (one : Played) (text : List ℕ) → MatchBool b (Goes one text ≡ Exceeds) may → may
within_limit true may one text h = absurd (goes_or_exceeds one text h)
within_limit false may one text h = h

module _ (w : Played) where
  does_it : (c : Command) (one : Played) (text : List ℕ) → WithinLimit w (Some c) (Goes one text) → Does hss_judged w c (Goes one text)
  does_it c one text h = within_limit (nat_lt most_bytes (sum_by (λ b. length b) w.0.met)) (Does hss_judged w c (Goes one text)) one text h

  obeyed : (c : Command) (one : Played) (text : List ℕ) → MayDoFirst w (Some c) (Goes one text) → Does hss_judged w c (Goes one text)
  obeyed c one text h = does_it c one text (goes_within w one text (Some c) h)

  none_obeyed : (one : Played) (text : List ℕ) → MayDoFirst w None (Goes one text) → ⊥
  none_obeyed one text h = goes_or_refuses one text (within_limit (nat_lt most_bytes (sum_by (λ b. length b) w.0.met)) (Goes one text ≡ Refuses) one text h)

module _ (w : Played) (keeps : Invariant w) (line : List ℕ) (one other : Played) (text words : List ℕ) (apart : IsCollisionFree (named_bytes one.0))
    (m : HasMemoryIn w.0 one.0 line text) (n : HasMemoryIn w.0 other.0 line words) where
  command_one : (c : Command) → command_of line ≡ Some c → Does hss_judged w c (Goes one text) → Does hss_judged w c (Goes other words) → AreSame one text other words
  command_one (command.Ring nodes replicas) is does doing = untold_one w (RingLine w.0 nodes replicas) (λ a b t u f g. ring_one w.0 nodes replicas a b t u f g) one other text words does doing
  command_one (command.Log log id seed sets) is does doing = log_one w log id seed sets one other text words does doing
  command_one (command.View view members former) is does doing = view_one w view (keys_of w.0 members) (keys_of w.0 former) one other text words does doing
  command_one (command.Use log view) is does doing = by_function (use_line w log view) one other text words does doing
  command_one (command.At sec nsec) is does doing = by_function (beside w.1 (at_line w.0 sec nsec)) one other text words does doing
  command_one (command.As log pieces) is does doing = as_one w keeps line log pieces is (sending_of w.0 log pieces) refl one other text words does doing apart m n
  command_one (command.Open session log pieces) is does doing = open_one w session (sending_of w.0 log pieces) one other text words does doing
  command_one (command.Step session count) is does doing = step_line_one w keeps line session count (session_named w.0 session) refl one other text words does doing apart m n
  command_one (command.Finish session) is does doing = finish_one w keeps line session is (session_named w.0 session) refl one other text words does doing apart m n
  command_one (command.Join node) is does doing = untold_one w (JoinLine hss_judged w.0 node w.0.replicas) (λ a b t u f g. join_one hss_judged w.0 node w.0.replicas a b t u f g) one other text words does doing
  command_one (command.Stop node) is does doing = by_function (beside w.1 (stop_line w.0 (node_named w.0 node))) one other text words does doing
  command_one command.Round is does doing = untold_one w (RoundLine hss_judged w.0 w.0.replicas) (λ a b t u f g. round_line_one w keeps w.0.replicas refl a b t u f g) one other text words does doing
  command_one (command.Lose count) is does doing = by_function (beside w.1 (lose_line w.0 count)) one other text words does doing
  command_one (command.Damage node key offset byte) is does doing = by_function (beside w.1 (damage_line w.0 node key offset byte)) one other text words does doing
  command_one (command.Snap log) is does doing = snap_one w (participant w.0 log) one other text words does doing
  command_one (command.Restart log) is does doing = restart_one w keeps log (participant w.0 log) refl one other text words apart does doing
  command_one (command.Keep log count new) is does doing = by_function (beside w.1 (keep_line w.0 log count new)) one other text words does doing
  command_one (command.Show shown) is does doing = untold_one w (Shows w.0 shown) (λ a b t u f g. show_one w.0 shown a b t u f g) one other text words does doing
  command_one command.Nothing is does doing = by_function (Goes w []) one other text words does doing
  command_one command.End is does doing = absurd (goes_or_ends one text does)

  line_one : (o : Option Command) → command_of line ≡ o → MayDoFirst w o (Goes one text) → MayDoFirst w o (Goes other words) → AreSame one text other words
  line_one None is does doing = absurd (none_obeyed w one text does)
  line_one (Some c) is does doing = command_one c is (obeyed w c one text does) (obeyed w c other words doing)

pub steps_are_deterministic : StepsAreDeterministic
steps_are_deterministic w one other line text words keeps apart apart_too does doing m n = line_one w keeps line one other text words apart m n (command_of line) refl does doing

-- ---- runs

going_or_ending : Going ≡ Ending → ⊥
going_or_ending e = cc e

going_or_refused : Going ≡ Refused → ⊥
going_or_refused e = cc e

going_or_limited : Going ≡ Limited → ⊥
going_or_limited e = cc e

ending_or_refused : Ending ≡ Refused → ⊥
ending_or_refused e = cc e

ending_or_limited : Ending ≡ Limited → ⊥
ending_or_limited e = cc e

refused_or_limited : Refused ≡ Limited → ⊥
refused_or_limited e = cc e

module _ (w : Played) (line : List ℕ) (keeps : Invariant w) where
  outcomes_alike : (first second : Outcome Played) → kind first ≡ kind second → IvyStep w line first → IvyStep w line second → HadMemory w line first → HadMemory w line second → first ≡ second
  outcomes_alike (Goes one text) (Goes other words) same does doing m n =
      let both = steps_are_deterministic w one other line text words keeps m.1 n.1 does doing m.0 n.0 in λ i. Goes (both.0 i) (both.1 i)
  outcomes_alike (Goes one text) Ends same does doing m n = absurd (going_or_ending same)
  outcomes_alike (Goes one text) Refuses same does doing m n = absurd (going_or_refused same)
  outcomes_alike (Goes one text) Exceeds same does doing m n = absurd (going_or_limited same)
  outcomes_alike Ends (Goes other words) same does doing m n = absurd (going_or_ending (sym same))
  outcomes_alike Ends Ends same does doing m n = refl
  outcomes_alike Ends Refuses same does doing m n = absurd (ending_or_refused same)
  outcomes_alike Ends Exceeds same does doing m n = absurd (ending_or_limited same)
  outcomes_alike Refuses (Goes other words) same does doing m n = absurd (going_or_refused (sym same))
  outcomes_alike Refuses Ends same does doing m n = absurd (ending_or_refused (sym same))
  outcomes_alike Refuses Refuses same does doing m n = refl
  outcomes_alike Refuses Exceeds same does doing m n = absurd (refused_or_limited same)
  outcomes_alike Exceeds (Goes other words) same does doing m n = absurd (going_or_limited (sym same))
  outcomes_alike Exceeds Ends same does doing m n = absurd (ending_or_limited (sym same))
  outcomes_alike Exceeds Refuses same does doing m n = absurd (refused_or_limited (sym same))
  outcomes_alike Exceeds Exceeds same does doing m n = refl

-- the outcomes of a line in which memory was there are one
pub lines_alike : (w : Played) (line : List ℕ) → Invariant w → (first second : Outcome Played) → IvyStep w line first → IvyStep w line second → HadMemory w line first → HadMemory w line second → first ≡ second
lines_alike w line keeps first second a b = outcomes_alike w line keeps first second (line_has_one_kind w line first a ∙ sym (line_has_one_kind w line second b)) a b

pub full_runs_are_unique : FullRunsAreUnique
full_runs_are_unique = single_run_kept Invariant (WithLaw IvyStep HadMemory) (λ w next line output keeps step. each_line_keeps w next line output keeps step.0)
    (λ w line first second keeps a b. lines_alike w line keeps first second a.0 b.0 a.1 b.1)
