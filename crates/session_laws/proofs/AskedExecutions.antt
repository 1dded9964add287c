-- Executions as plans: a look-up, and then the asks of the owners that it found.
use Rattle.std.proofs.Common.{◌≡◌, ◌≢◌, ◌⊎◌, ℕ, ◌<◌, Bool, true, List, [], ◌∷◌, ◌++◌, length, Option, Some, None, IfSome, Result, Ok, Err, refl, sym, ap, ◌∙◌, subst, arith, inl, inr}
use Rattle.std.specs.Option.{option_map}
use Rattle.std.proofs.lemmas.List.{append_assoc, append-nil}
use Rattle.ivy_base.specs.declared.key.Key.{Key}
use Rattle.dht_ids.specs.declared.ask.Answer.{Answer}
use Rattle.dht_ids.specs.declared.ask.Answer.TheVariants as answer
use Rattle.dht_ids.specs.declared.ask.Ask.{Ask}
use Rattle.dht_ids.specs.declared.ask.Ask.TheVariants as ask
use Rattle.dht_ids.specs.declared.ask.Heard.{Heard}
use Rattle.dht_ids.specs.declared.peer.Peer.{Peer}
use Rattle.ring_model.specs.Members.{IsAmong, first}
use Rattle.ring_model.specs.Gets.{AreAsks, AreFirsts, answered_in}
use Rattle.ring_model.specs.Lookup.{IsLookup}
use Rattle.ring_model.proofs.Lists.{nil_cons, none_some, some_same}
use Rattle.dht_ids.specs.Asked.{routes, told}
use Rattle.dhash_client.specs.Machine.{State, FollowsAfter, fresh}
use Rattle.dhash_client.specs.Execution.{Asking, ExecutionState, HasAsked, IsStage, awaited_at, next_owner}
use Rattle.dhash_model.specs.declared.miss.Miss.TheVariants as miss
use Rattle.dhash_model.specs.Execution.{outcome, Told, IsExecution, told_all}
use Rattle.dhash_model.specs.Execution.IsExecution.{no_route, of_owners}
use Rattle.dhash_model.specs.declared.miss.Miss.{Miss}
use Rattle.dhash_client.proofs.Executions.{owner_first}
use Rattle.session_model.specs.Asking.{AsksNext}
use Rattle.session_laws.proofs.AskedPlans.{Plan, ended, Entries, entry, Follows, IsPlanned, IsToldBy, some_follows, told_between}
use Rattle.session_laws.proofs.AskedOwners.{AreAsked, entries_of, told_owners, from_asks, to_asks, owners_plan, owners_fit, owners_back, owners_go_on}
use Rattle.session_laws.proofs.AskedLookups.{firsts, firsts_are, firsts_same, look_plan, look_fits, look_back, asks_some, look_goes_on}

ok_err : (owners : List Peer) (m : Miss) → Ok owners ≡ Err m → ⊥
ok_err owners m h = cc

ok_same : (owners others : List Peer) → ◌≡◌ {A = Result (List Peer) Miss} (Ok owners) (Ok others) → owners ≡ others
ok_same owners others h = cc

asked_node : (question : Ask) (waits : Option Peer) (node : Peer) (q : Ask) → option_map {U = Peer × Ask} (λ p. (p, question)) waits ≡ Some (node, q) → (waits ≡ Some node) × (question ≡ q)
asked_node question None node q h = absurd (none_some (node, q) h)
asked_node question (Some p) node q h = (ap (λ s. Some s.0) (some_same (p, question) (node, q) h), ap (λ s. s.1) (some_same (p, question) (node, q) h))

first_is : (ps : List Peer) (node : Peer) → first ps ≡ Some node → (rest : List Peer) × (ps ≡ node ∷ rest)
first_is [] node h = absurd (none_some node h)
first_is (p ∷ ps) node h = (ps, ap (λ (x : Peer). x ∷ ps) (some_same p node h))

module _ {T : Type 0} (e : Entries) (question : Ask) (told_by : IsToldBy e question) (IsEnough : Told → Type 0) (decided : (t : Told) → IsEnough t ⊎ (IsEnough t → ⊥)) (Ends : List Peer → Told → Result T Miss → Type 0)
    (asks_of : (owners : List Peer) (asks : Told) (result : Result T Miss) → Ends owners asks result → AreAsks owners IsEnough asks)
    (end_of : (owners : List Peer) (asks : Told) → AreAsks owners IsEnough asks → (result : Result T Miss) × Ends owners asks result) (entries : List Peer) where
  -- what comes after the look-up
  abbrev pub after_plan : Option (List Peer) → Plan
  after_plan None = ended
  after_plan (Some []) = ended
  after_plan (Some (p ∷ ps)) = owners_plan e IsEnough decided (firsts [] (p ∷ ps)) []

  abbrev pub IsWhole : List Heard → Type 0
  IsWhole trail = (result : Result T Miss) × IsExecution e.key question entries Ends trail result

  none_after : (found : Option (List Peer)) → outcome e.key found ≡ Err (miss.NoRoute e.key) → Follows e (after_plan found) []
  none_after None h = refl
  none_after (Some []) h = refl
  none_after (Some (p ∷ ps)) h = absurd (ok_err (p ∷ ps) (miss.NoRoute e.key) h)

  owners_after : (found : Option (List Peer)) (owners : List Peer) (asks : Told) → outcome e.key found ≡ Ok owners → AreAsks owners IsEnough asks → Follows e (after_plan found) (entries_of e asks)
  owners_after None owners asks h a = absurd (ok_err owners (miss.NoRoute e.key) (sym h))
  owners_after (Some []) owners asks h a = absurd (ok_err owners (miss.NoRoute e.key) (sym h))
  owners_after (Some (p ∷ ps)) owners asks h a =
      let b : AreAsks (p ∷ ps) IsEnough asks = subst (λ (l : List Peer). AreAsks l IsEnough asks) (sym (ok_same (p ∷ ps) owners h)) a in
      owners_fit e IsEnough decided (firsts [] (p ∷ ps)) [] asks (subst (λ (l : List Peer). AreAsked IsEnough l [] asks) (firsts_same b.firsts) (from_asks IsEnough (p ∷ ps) asks b))

  pub execution_fits : (n : ℕ) → n ≡ 512 → (trail : List Heard) → IsWhole trail → Follows e (look_plan e after_plan n [] None entries) trail
  execution_fits n s trail w = by w.1
    where
      by : IsExecution e.key question entries Ends trail w.0 → Follows e (look_plan e after_plan n [] None entries) trail
      by (no_route looks found is looked nobody result_is) =
          subst (Follows e (look_plan e after_plan n [] None entries)) (append-nil (told_all (ask.Route e.key) looks) ∙ sym is) (look_fits e after_plan looked n (omega (arith, s)) looks refl [] (none_after found nobody))
      by (of_owners looks asks found owners is looked some ends) =
          subst (Follows e (look_plan e after_plan n [] None entries)) (ap (λ (t : List Heard). told_all (ask.Route e.key) looks ++ t) (sym (told_owners e question told_by asks)) ∙ sym is)
          (look_fits e after_plan looked n (omega (arith, s)) looks refl (entries_of e asks) (owners_after found owners asks some (asks_of owners asks w.0 ends)))

  execution_from : (trail : List Heard) (looks : Told) (found : Option (List Peer)) (rest : List Heard) → trail ≡ told_all (ask.Route e.key) looks ++ rest → IsLookup [] None entries (routes looks) found → Follows e (after_plan found) rest → IsWhole trail
  execution_from trail looks None rest is looked f =
      (Err (miss.NoRoute e.key), no_route looks None (is ∙ ap (λ (t : List Heard). told_all (ask.Route e.key) looks ++ t) f ∙ append-nil (told_all (ask.Route e.key) looks)) looked refl refl)
  execution_from trail looks (Some []) rest is looked f =
      (Err (miss.NoRoute e.key), no_route looks (Some []) (is ∙ ap (λ (t : List Heard). told_all (ask.Route e.key) looks ++ t) f ∙ append-nil (told_all (ask.Route e.key) looks)) looked refl refl)
  execution_from trail looks (Some (p ∷ ps)) rest is looked f =
      let b = owners_back e IsEnough decided (firsts [] (p ∷ ps)) [] rest f in
      let r = end_of (p ∷ ps) b.0 (to_asks IsEnough (p ∷ ps) (firsts [] (p ∷ ps)) (firsts_are [] (p ∷ ps)) b.0 b.1) in
      (r.0, of_owners looks b.0 (Some (p ∷ ps)) (p ∷ ps) (is ∙ ap (λ (t : List Heard). told_all (ask.Route e.key) looks ++ t) (b.2 ∙ sym (told_owners e question told_by b.0))) looked refl r.1)

  pub execution_back : (n : ℕ) → n ≡ 512 → (trail : List Heard) → Follows e (look_plan e after_plan n [] None entries) trail → IsWhole trail
  execution_back n s trail f = let h = look_back e after_plan n [] None entries trail (omega (arith, s)) f in execution_from trail h.looks h.found h.rest h.is h.looked h.after

  planned_from : (n : ℕ) → n ≡ 512 → IsPlanned e IsWhole
  planned_from n s = record { plan = look_plan e after_plan n [] None entries; fits = execution_fits n s; back = execution_back n s }

  pub planned : IsPlanned e IsWhole
  planned = planned_from 512 refl

  -- nothing asked is whole only where nobody may be asked
  nothing_asked : (looks : Told) (rest : List Heard) (found : Option (List Peer)) → [] ≡ told_all (ask.Route e.key) looks ++ rest → IsLookup [] None entries (routes looks) found → entries ≢ [] → ⊥
  nothing_asked [] rest found is looked some = asks_some entries found looked some
  nothing_asked (l ∷ looks) rest found is looked some = nil_cons (entry e true l.0 l.1) (told_all (ask.Route e.key) looks ++ rest) is

  pub not_whole : entries ≢ [] → IsWhole [] → ⊥
  not_whole some w = by w.1
    where
      by : IsExecution e.key question entries Ends [] w.0 → ⊥
      by (no_route looks found is looked nobody result_is) = nothing_asked looks [] found (is ∙ sym (append-nil (told_all (ask.Route e.key) looks))) looked some
      by (of_owners looks asks found owners is looked nodes ends) = nothing_asked looks (told_all question asks) found is looked some

  -- ---- what is next

  -- after a look-up on its way that is the node that it waits for
  route_is_next : (trail : List Heard) (looks : Told) (look : State) (node : Peer) → trail ≡ told_all (ask.Route e.key) looks → FollowsAfter (routes looks) (fresh e.key entries) look → look.waiting ≡ Some node → length look.asked < 512
      → (IsAmong node look.asked → ⊥) → AsksNext e.key question IsWhole trail node (ask.Route e.key)
  route_is_next trail looks look node is follows waits few not_yet =
      let n = look_goes_on e.key entries looks look node follows waits few not_yet in
      let after = some_follows e (after_plan look.last) in
      let said : List Heard = trail ++ told node (ask.Route e.key) answer.Silent in
      record {
        is_of = inl refl;
        answer = answer.Silent;
        more = told_all (ask.Route e.key) n.0 ++ after.0;
        whole = execution_from (said ++ (told_all (ask.Route e.key) n.0 ++ after.0)) (looks ++ (node, answer.Silent) ∷ n.0) look.last after.0
            (sym (append_assoc said (told_all (ask.Route e.key) n.0) after.0) ∙ ap (λ (l : List Heard). l ++ after.0) (told_between (ask.Route e.key) trail [] looks node answer.Silent n.0 is)) n.1 after.1;
      }

  -- after the asks of some owners that is the first of the rest
  owner_is_next : (answers : Answer → Bool) (trail : List Heard) (looks asks : Told) (a : Asking) (node : Peer) (ps : List Peer) → trail ≡ told_all (ask.Route e.key) looks ++ told_all question asks
      → HasAsked answers IsEnough e.key entries looks asks a → a.rest ≡ node ∷ ps → (IsEnough asks → ⊥) → AsksNext e.key question IsWhole trail node question
  owner_is_next answers trail looks asks a node ps is h rest not_yet =
      let n = owners_go_on e IsEnough decided h.owners a.asked ps node asks (subst (λ (l : List Peer). AreFirsts [] h.owners (a.asked ++ l)) rest h.firsts) h.asked h.needed not_yet in
      let end = end_of h.owners (asks ++ (node, answer.Silent) ∷ n.0) n.1 in
      record {
        is_of = inr refl;
        answer = answer.Silent;
        more = told_all question n.0;
        whole = (end.0, of_owners looks (asks ++ (node, answer.Silent) ∷ n.0) h.found h.owners (told_between question trail (told_all (ask.Route e.key) looks) asks node answer.Silent n.0 is) h.looked h.some end.1);
      }

  -- of a machine of an execution, whether it looks for owners or asks them
  pub awaited_is_next : (answers : Answer → Bool) (c : ExecutionState) (trail : List Heard) (looks asks : Told) (stage : Option Asking) (node : Peer) (q : Ask) → c.look.key ≡ e.key → trail ≡ told_all (ask.Route e.key) looks ++ told_all question asks
      → IsStage answers IsEnough e.key entries looks asks c.look stage
      → (answered_in answers asks < c.replicas → IsEnough asks → ⊥) → awaited_at question c stage ≡ Some (node, q) → AsksNext e.key question IsWhole trail node q
  awaited_is_next answers c trail looks asks None node q same is behind not_yet waits =
      let at = asked_node (ask.Route c.look.key) c.look.waiting node q waits in
      let new : (length c.look.asked < 512) × (IsAmong node c.look.asked → ⊥) = subst (λ (w : Option Peer). IfSome w (λ p. (length c.look.asked < 512) × (IsAmong p c.look.asked → ⊥))) at.0 behind.2 in
      subst (AsksNext e.key question IsWhole trail node) (ap (λ (k : Key). ask.Route k) (sym same) ∙ at.1)
      (route_is_next trail looks c.look node (is ∙ ap (λ (l : Told). told_all (ask.Route e.key) looks ++ told_all question l) behind.0 ∙ append-nil (told_all (ask.Route e.key) looks)) behind.1 at.0 new.0 new.1)
  awaited_is_next answers c trail looks asks (Some a) node q same is behind not_yet waits =
      let at = asked_node question (next_owner c.replicas a) node q waits in
      let turn = owner_first c.replicas a node at.0 in
      let rest = first_is a.rest node turn.1 in
      subst (AsksNext e.key question IsWhole trail node) at.1 (owner_is_next answers trail looks asks a node rest.0 is behind rest.1 (not_yet (subst (λ (n : ℕ). n < c.replicas) behind.answered turn.0)))
