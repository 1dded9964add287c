-- A look-up among the nodes, by the asks so far.
use Rattle.std.proofs.Common.{◌≡◌, ℕ, ◌<◌, List, [], ◌∷◌, ◌++◌, length, refl, sym, ap, ◌∙◌, subst, Option, Some, None, Result, IfOk, IfSome}
use Rattle.std.specs.List.{AllByRecursion}
use Rattle.std.proofs.lemmas.List.{map-append}
use Rattle.ivy_base.specs.declared.key.Key.{Key}
use Rattle.ring_model.specs.Lookup.{IsLookup}
use Rattle.ring_model.specs.Lookup.IsLookup.{over, spent, known, silent, answered}
use Rattle.ring_model.specs.Members.{IsAmong}
use Rattle.ring_model.specs.Route.{Route}
use Rattle.ring_model.proofs.Lists.{all-both, cons_head, cons_tail, nil_cons}
use Rattle.dht_ids.specs.Asked.{route_in, routes}
use Rattle.dht_ids.specs.declared.ask.Answer.{Answer}
use Rattle.dht_ids.specs.declared.ask.Answer.TheVariants as answer
use Rattle.dht_ids.specs.declared.ask.Ask.{Ask}
use Rattle.dht_ids.specs.declared.ask.Ask.TheVariants as ask
use Rattle.dht_ids.specs.declared.ask.Want.TheVariants as want
use Rattle.dht_ids.specs.declared.judge.Judged.{Judged}
use Rattle.dht_ids.specs.declared.peer.Peer.{Peer}
use Rattle.dhash_model.specs.Execution.{Told, outcome}
use Rattle.dhash_model.specs.declared.miss.Miss.{Miss}
use Rattle.dhash_client.specs.Machine.{FollowsAfter, IsWanted, State, Trail, fresh}
use Rattle.dhash_client.proofs.Driven.{follows_both, is_look_up}
use Rattle.session_laws.proofs.AskedLookups.{look_goes_on}
use Rattle.world_model.specs.Fates.{FateOf, Fates, asking}
use Rattle.world_model.specs.Fates.Fates.{none as no_asks, more as one_ask}
use Rattle.world_model.specs.World.{World}
use Rattle.ring_nodes.specs.NodesState.{AreAllAmong, IsNodesOf, NamesOnly, NodesState, made_peers, with_nodes}
use Rattle.ring_nodes.specs.Joining.{Finds}
use Rattle.ring_nodes.specs.Looking.{Steps}
use Rattle.ring_nodes.proofs.Reaching.{same_world}

-- ---- who is asked, and who is found

abbrev pub Step : Type 0
Step = Peer × Option (Route Peer)

module _ (made : List Peer) where
  -- whose answers name made peers alone
  abbrev pub AllNamed : Told → Type 0
  AllNamed looks = AllByRecursion (λ s. NamesOnly made s.1) looks

  route_named : (given : Answer) → NamesOnly made given → IfSome (route_in given) (λ route. AreAllAmong made route.nearer × AreAllAmong made route.owners)
  route_named (answer.Route nearer owners) h = h
  route_named (answer.Near before list) h = tt
  route_named (answer.Found bytes) h = tt
  route_named answer.Nothing h = tt
  route_named answer.Stored h = tt
  route_named (answer.Refused fault) h = tt
  route_named answer.Noted h = tt
  route_named answer.Silent h = tt

  -- whoever is asked after answers that name made peers alone was made
  pub next_made : {asked : List Peer} {last : Option (List Peer)} {ps : List Peer} {trail : Trail} {found : Option (List Peer)} → IsLookup asked last ps trail found
      → (looks : Told) (node : Peer) (route : Option (Route Peer)) (more : Trail) → trail ≡ routes looks ++ (node, route) ∷ more → AreAllAmong made ps → AllNamed looks → IsAmong node made
  next_made over [] node route more e all named = absurd (nil_cons {X = Step} (node, route) more e)
  next_made over (s ∷ looks) node route more e all named = absurd (nil_cons {X = Step} (s.0, route_in s.1) (routes looks ++ (node, route) ∷ more) e)
  next_made (spent many) [] node route more e all named = absurd (nil_cons {X = Step} (node, route) more e)
  next_made (spent many) (s ∷ looks) node route more e all named = absurd (nil_cons {X = Step} (s.0, route_in s.1) (routes looks ++ (node, route) ∷ more) e)
  next_made (known i later) looks node route more e all named = next_made later looks node route more e all.1 named
  next_made (silent {p = p} {trail = trail} few not_yet later) [] node route more e all named =
      subst (λ q. IsAmong q made) (ap (λ (t : Step). t.0) (cons_head {X = Step} (p, None) trail (node, route) more e)) all.0
  next_made (silent {p = p} {trail = trail} few not_yet later) (s ∷ looks) node route more e all named =
      next_made later looks node route more (cons_tail {X = Step} (p, None) trail (s.0, route_in s.1) (routes looks ++ (node, route) ∷ more) e) all.1 named.1
  next_made (answered {p = p} {route = given} {trail = trail} few not_yet later) [] node route more e all named =
      subst (λ q. IsAmong q made) (ap (λ (t : Step). t.0) (cons_head {X = Step} (p, Some given) trail (node, route) more e)) all.0
  next_made (answered {p = p} {route = given} {trail = trail} few not_yet later) (s ∷ looks) node route more e all named =
      let is : Some given ≡ route_in s.1 = ap (λ (t : Step). t.1) (cons_head {X = Step} (p, Some given) trail (s.0, route_in s.1) (routes looks ++ (node, route) ∷ more) e) in
      let names : AreAllAmong made given.nearer × AreAllAmong made given.owners = subst (λ o. IfSome o (λ r. AreAllAmong made r.nearer × AreAllAmong made r.owners)) (sym is) (route_named s.1 named.0) in
      next_made later looks node route more (cons_tail {X = Step} (p, Some given) trail (s.0, route_in s.1) (routes looks ++ (node, route) ∷ more) e) names.0 named.1

  -- and so was whoever is found
  pub found_made : {asked : List Peer} {last : Option (List Peer)} {ps : List Peer} {trail : Trail} {found : Option (List Peer)} → IsLookup asked last ps trail found
      → (looks : Told) → trail ≡ routes looks → IfSome last (AreAllAmong made) → AllNamed looks → IfSome found (AreAllAmong made)
  found_made over looks e before named = before
  found_made (spent many) looks e before named = before
  found_made (known i later) looks e before named = found_made later looks e before named
  found_made (silent {p = p} {trail = trail} few not_yet later) [] e before named = absurd (nil_cons {X = Step} (p, None) trail (sym e))
  found_made (silent {p = p} {trail = trail} few not_yet later) (s ∷ looks) e before named = found_made later looks (cons_tail {X = Step} (p, None) trail (s.0, route_in s.1) (routes looks) e) before named.1
  found_made (answered {p = p} {route = given} {trail = trail} few not_yet later) [] e before named = absurd (nil_cons {X = Step} (p, Some given) trail (sym e))
  found_made (answered {p = p} {route = given} {trail = trail} few not_yet later) (s ∷ looks) e before named =
      let is : Some given ≡ route_in s.1 = ap (λ (t : Step). t.1) (cons_head {X = Step} (p, Some given) trail (s.0, route_in s.1) (routes looks) e) in
      let names : AreAllAmong made given.nearer × AreAllAmong made given.owners = subst (λ o. IfSome o (λ r. AreAllAmong made r.nearer × AreAllAmong made r.owners)) (sym is) (route_named s.1 named.0) in
      found_made later looks (cons_tail {X = Step} (p, Some given) trail (s.0, route_in s.1) (routes looks) e) names.1 named.1

  outcome_made : (key : Key) (found : Option (List Peer)) → IfSome found (AreAllAmong made) → IfOk (outcome key found) (AreAllAmong made)
  outcome_made key None h = tt
  outcome_made key (Some []) h = tt
  outcome_made key (Some (p ∷ ps)) h = h

-- ---- the asks so far

pub one_more_fate : {judged : Key → List ℕ → Option Judged} {w mid : World} {asks : List (Peer × (Ask × Answer))} → Fates judged w asks mid → (next : World) (to : Peer) (question : Ask) (given : Answer) → FateOf judged mid to question given next
    → Fates judged w (asks ++ (to, (question, given)) ∷ []) next
one_more_fate no_asks next to question given fate = one_ask to question given fate no_asks
one_more_fate (one_ask t q a first rest) next to question given fate = one_ask t q a first (one_more_fate rest next to question given fate)

module _ (judged : Key → List ℕ → Option Judged) (start : NodesState) (key : Key) (through : Peer) where
  -- from the nodes at the start these asks were made, and the look-up may go on as from its beginning
  pub record IsLooking (now : NodesState) (look : State) : Type 0 where
    pub looks : Told
    pub fates : (w : World) → IsNodesOf w start → Fates judged w (asking (ask.Route key) looks) (with_nodes w now)
    pub follows : FollowsAfter (routes looks) (fresh key (through ∷ [])) look
    pub named : AllNamed (made_peers start) looks
    pub key_is : look.key ≡ key
    pub made : made_peers now ≡ made_peers start

  pub looks_first : (look : State) → look ≡ fresh key (through ∷ []) → IsLooking start look
  looks_first look e = subst (IsLooking start) (sym e) (record {
    looks = [];
    fates = λ w is. subst (λ v. Fates judged w [] v) (same_world w start is) no_asks;
    follows = λ trail found h. h;
    named = tt;
    key_is = refl;
    made = refl;
  })

  pub looks_on : (now : NodesState) (old new : State) → IsLooking now old → new.key ≡ old.key → FollowsAfter [] old new → IsLooking now new
  looks_on now old new l same follows = record {
    looks = l.looks;
    fates = l.fates;
    follows = λ trail found h. l.follows trail found (follows trail found h);
    named = l.named;
    key_is = same ∙ l.key_is;
    made = l.made;
  }

  -- who is asked next was made
  pub asks_made : (now : NodesState) (old new : State) (node : Peer) (question : Ask) → IsAmong through (made_peers start) → IsLooking now new → new.asked ≡ old.asked → IsWanted old new (want.Ask node question) → IsAmong node (made_peers now)
  asks_made now old new node question first l same wanted =
      let few : length new.asked < 512 = subst (λ (a : List Peer). length a < 512) (sym same) wanted.2 in
      let not_yet : IsAmong node new.asked → ⊥ = subst (λ (a : List Peer). IsAmong node a → ⊥) (sym same) wanted.3 in
      let on = look_goes_on key (through ∷ []) l.looks new node l.follows wanted.1 few not_yet in
      subst (IsAmong node) (sym l.made)
      (next_made (made_peers start) on.1 l.looks node None (routes on.0) (map-append (λ (x : Peer × Answer). (x.0, route_in x.1)) l.looks ((node, answer.Silent) ∷ on.0)) (first, tt) l.named)

  -- one ask more
  pub looks_more : (now next : NodesState) (old new : State) (node : Peer) (question : Ask) → IsLooking now old → old.waiting ≡ Some node → question ≡ ask.Route key → Steps judged node question now next old new → made_peers next ≡ made_peers now → IsLooking next new
  looks_more now next old new node question l waits asked step same = record {
    looks = l.looks ++ (node, step.given) ∷ [];
    fates = λ w is. subst (λ t. Fates judged w t (with_nodes w next)) (sym (map-append (λ (s : Peer × Answer). (s.0, (ask.Route key, s.1))) l.looks ((node, step.given) ∷ [])))
        (one_more_fate (l.fates w is) (with_nodes w next) node (ask.Route key) step.given (subst (λ q. FateOf judged (with_nodes w now) node q step.given (with_nodes w next)) asked (step.fate (with_nodes w now) (refl, refl, refl))));
    follows = subst (λ t. FollowsAfter t (fresh key (through ∷ [])) new) (sym (map-append (λ (s : Peer × Answer). (s.0, route_in s.1)) l.looks ((node, step.given) ∷ [])))
        (follows_both (routes l.looks) ((node, route_in step.given) ∷ []) (fresh key (through ∷ [])) old new l.follows (step.heard.follows node waits));
    named = all-both (λ (s : Peer × Answer). NamesOnly (made_peers start) s.1) l.looks ((node, step.given) ∷ []) l.named (subst (λ m. NamesOnly m step.given) l.made step.named, tt);
    key_is = step.heard.key ∙ l.key_is;
    made = same ∙ l.made;
  }

  -- the end
  pub looks_ended : (now : NodesState) (old new : State) (result : Result (List Peer) Miss) → IsLooking now old → IsWanted old new (want.Done result) → (w : World) → IsNodesOf w start → Finds judged w key through result (with_nodes w now)
  looks_ended now old new result l wanted w is = (
    wanted.1,
    ap (λ k. outcome k wanted.1) (sym l.key_is) ∙ sym wanted.3,
    record { looks = l.looks; fates = l.fates w is; lookup = is_look_up key (through ∷ []) (routes l.looks) wanted.1 old l.follows wanted.2 },
  )

  pub ended_made : (now : NodesState) (old new : State) (result : Result (List Peer) Miss) → IsAmong through (made_peers start) → IsLooking now old → IsWanted old new (want.Done result) → IfOk result (AreAllAmong (made_peers start))
  ended_made now old new result first l wanted =
      subst (λ r. IfOk r (AreAllAmong (made_peers start))) (sym wanted.3)
      (outcome_made (made_peers start) old.key wanted.1 (found_made (made_peers start) (is_look_up key (through ∷ []) (routes l.looks) wanted.1 old l.follows wanted.2) l.looks refl tt l.named))
