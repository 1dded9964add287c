-- Whom a repair asks: nodes that were made, where answers name such nodes alone.
use Rattle.std.proofs.Common.{◌≡◌, ℕ, ◌<◌, Bool, true, false, cond, not, List, [], ◌∷◌, ◌++◌, length, refl, sym, ap, subst, Option, Some, None, Ok, IfOk, IfSome, nat_lt}
use Rattle.std.specs.List.{AllByRecursion}
use Rattle.std.specs.Option.{option_map}
use Rattle.std.proofs.lemmas.List.{map-append}
use Rattle.ivy_base.specs.declared.key.Key.{Key}
use Rattle.ring_model.specs.Gets.{AreFirsts}
use Rattle.ring_model.specs.Gets.AreFirsts.{none as no_firsts, again as first_again, new as first_new}
use Rattle.ring_model.specs.Members.{IsAmong, first}
use Rattle.ring_model.proofs.Lists.{all-both, all-left, all-right, none_some, some_same}
use Rattle.dht_ids.specs.Asked.{route_in, routes, told}
use Rattle.dht_ids.specs.declared.ask.Answer.{Answer}
use Rattle.dht_ids.specs.declared.ask.Answer.TheVariants as answer
use Rattle.dht_ids.specs.declared.ask.Ask.{Ask}
use Rattle.dht_ids.specs.declared.ask.Ask.TheVariants as ask
use Rattle.dht_ids.specs.declared.ask.Heard.{Heard}
use Rattle.dht_ids.specs.declared.peer.Peer.{Peer}
use Rattle.dht_ids.specs.declared.post.Post.{Post}
use Rattle.dhash_model.specs.Execution.{Told, told_all, outcome}
use Rattle.dhash_model.specs.Puts.{is_of_put}
use Rattle.dhash_client.specs.Execution.{Asking, ExecutionState, IsStage, awaited_at, next_owner}
use Rattle.dhash_client.specs.Puts.{IsEnoughPut, put_awaited, question_of}
use Rattle.session_laws.proofs.AskedLookups.{look_goes_on}
use Rattle.dhash_repair.specs.Putting.{Putting, PuttingIsAfter, is_own_of, made_of, told_of}
use Rattle.dhash_repair.specs.Repairing.{PutIsBehind, RepairIsAfter, RepairState, awaited_in, repair_awaited}
use Rattle.dhash_repair.specs.Repairs.{Asked}
use Rattle.ring_nodes.specs.NodesState.{AreAllAmong, NamesOnly}
use Rattle.ring_nodes.proofs.Looking.{AllNamed, found_made, next_made}

-- ---- owners

-- nodes that stand once are of the list
pub firsts_all : (P : Peer → Type 0) {seen ps qs : List Peer} → AreFirsts seen ps qs → AllByRecursion P ps → AllByRecursion P qs
firsts_all P no_firsts all = tt
firsts_all P (first_again i rest) all = firsts_all P rest all.1
firsts_all P (first_new d rest) all = (all.0, firsts_all P rest all.1)

first_all : (P : Peer → Type 0) (qs : List Peer) (p : Peer) → first qs ≡ Some p → AllByRecursion P qs → P p
first_all P [] p e all = absurd (none_some p e)
first_all P (q ∷ qs) p e all = subst P (some_same q p e) all.0

module _ (made : List Peer) where
  pub owners_made : (key : Key) (found : Option (List Peer)) (owners : List Peer) → outcome key found ≡ Ok owners → IfSome found (AreAllAmong made) → AreAllAmong made owners
  owners_made key None owners e h = absurd cc
  owners_made key (Some []) owners e h = absurd cc
  owners_made key (Some (p ∷ ps)) owners e h = subst (λ o. IfOk o (AreAllAmong made)) e h

  -- ---- answers

  -- the answers of these asks name made nodes alone
  abbrev pub AreNaming : List Asked → Type 0
  AreNaming asks = AllByRecursion (λ a. NamesOnly made a.1.1) asks

  stored_names : (given : Answer) → given ≡ answer.Stored → NamesOnly made given
  stored_names given e = subst (NamesOnly made) (sym e) tt

  -- with the node's own
  all_naming : (node : Peer) (asks : List Asked) → AllByRecursion (λ a. is_own_of node a ≡ true → a.1.1 ≡ answer.Stored) asks → AreNaming (made_of node asks) → AreNaming asks
  all_naming node [] own named = tt
  all_naming node (a ∷ asks) own named = by (is_own_of node a) refl (λ rest. all_naming node asks own.1 rest) named
    where
      by : (t : Bool) → is_own_of node a ≡ t → (AreNaming (made_of node asks) → AreNaming asks) → AreNaming (cond (not t) (a ∷ made_of node asks) (made_of node asks)) → AreNaming (a ∷ asks)
      by true e later rest = (stored_names a.1.1 (own.0 e), later rest)
      by false e later rest = (rest.0, later rest.1)

  told_naming : (node : Peer) (question : Ask) (given : Answer) → NamesOnly made given → AllByRecursion (λ h. NamesOnly made h.got) (told node question given)
  told_naming node (ask.Route key) given h = (h, tt)
  told_naming node ask.Near given h = tt
  told_naming node (ask.Notify peer) given h = tt
  told_naming node (ask.Get key) given h = (h, tt)
  told_naming node (ask.PutBlock key bytes) given h = (h, tt)
  told_naming node (ask.PutHead key bytes) given h = (h, tt)

  heard_naming : (asks : List Asked) → AreNaming asks → AllByRecursion (λ h. NamesOnly made h.got) (told_of asks)
  heard_naming [] named = tt
  heard_naming (a ∷ asks) named = all-both (λ h. NamesOnly made h.got) (told a.0 a.1.0 a.1.1) (told_of asks) (told_naming a.0 a.1.0 a.1.1 named.0) (heard_naming asks named.1)

  looks_naming : (key : Key) (looks : Told) → AllByRecursion (λ h. NamesOnly made h.got) (told_all (ask.Route key) looks) → AllNamed made looks
  looks_naming key [] named = tt
  looks_naming key (s ∷ looks) named = (named.0, looks_naming key looks named.1)

  -- ---- who is asked

  module _ (entries : List Peer) (all_made : AreAllAmong made entries) (own : Ask) (c : ExecutionState) (looks asks : Told) (named : AllNamed made looks) where
    asks_made : (o : Option Asking) (node : Peer) (question : Ask) → IsStage is_of_put (IsEnoughPut c.look.key c.replicas) c.look.key entries looks asks c.look o → awaited_at own c o ≡ Some (node, question) → IsAmong node made
    asks_made None node question stage waits = by c.look.waiting refl waits
      where
        by : (o : Option Peer) → c.look.waiting ≡ o → option_map {U = Peer × Ask} (λ p. (p, ask.Route c.look.key)) o ≡ Some (node, question) → IsAmong node made
        by None e w = absurd (none_some (node, question) w)
        by (Some p) e w =
            let once : (length c.look.asked < 512) × (IsAmong p c.look.asked → ⊥) = subst (λ (o : Option Peer). IfSome o (λ n. (length c.look.asked < 512) × (IsAmong n c.look.asked → ⊥))) e stage.2 in
            let on = look_goes_on c.look.key entries looks c.look p stage.1 e once.0 once.1 in
            let asked = next_made made on.1 looks p None (routes on.0) (map-append (λ (x : Peer × Answer). (x.0, route_in x.1)) looks ((p, answer.Silent) ∷ on.0)) all_made named in
            subst (λ n. IsAmong n made) (ap (λ (s : Peer × Ask). s.0) (some_same (p, ask.Route c.look.key) (node, question) w)) asked
    asks_made (Some a) node question stage waits = by (next_owner c.replicas a) refl waits
      where
        all : AreAllAmong made (a.asked ++ a.rest)
        all = firsts_all (λ n. IsAmong n made) stage.firsts (owners_made c.look.key stage.found stage.owners stage.some (found_made made stage.looked looks refl tt named))

        next_is : (t : Bool) (p : Peer) → cond t (first a.rest) None ≡ Some p → first a.rest ≡ Some p
        next_is true p e = e
        next_is false p e = absurd (none_some p e)

        by : (o : Option Peer) → next_owner c.replicas a ≡ o → option_map {U = Peer × Ask} (λ p. (p, own)) o ≡ Some (node, question) → IsAmong node made
        by None e w = absurd (none_some (node, question) w)
        by (Some p) e w =
            subst (λ n. IsAmong n made) (ap (λ (s : Peer × Ask). s.0) (some_same (p, own) (node, question) w))
            (first_all (λ n. IsAmong n made) a.rest p (next_is (nat_lt a.answered c.replicas) p e) (all-right (λ n. IsAmong n made) a.asked a.rest all))

  put_made : (r : ℕ) (trail : List Asked) (s : Putting) (node : Peer) (question : Ask) → IsAmong s.node made → AreNaming trail → PuttingIsAfter r trail s → put_awaited s.put ≡ Some (node, question) → IsAmong node made
  put_made r trail s node question is_made named behind waits =
      let heard : AllByRecursion (λ h. NamesOnly made h.got) (told_of behind.asks) = heard_naming behind.asks (all_naming s.node behind.asks behind.own (subst AreNaming behind.made named)) in
      let after = behind.after in
      let key : Key = s.put.execution.look.key in
      let looked : AllNamed made after.looks =
      looks_naming key after.looks
      (all-left (λ h. NamesOnly made h.got) (told_all (ask.Route key) after.looks) (told_all (question_of s.put.what s.put.bytes key) after.asks) (subst (λ (l : List Heard). AllByRecursion (λ h. NamesOnly made h.got) l) after.told heard)) in
      asks_made (s.node ∷ []) (is_made, tt) (question_of s.put.what s.put.bytes key) s.put.execution after.looks after.asks looked s.put.execution.asking node question after.stage waits

  -- who is asked next was made
  pub repair_made : (posts : List Post) (trail : List Asked) (s : RepairState) (node : Peer) (question : Ask) → IsAmong s.node made → AreNaming trail → RepairIsAfter posts trail s → repair_awaited s ≡ Some (node, question) → IsAmong node made
  repair_made posts trail s node question is_made named after waits =
      by s.put after.behind waits
    where
      on_way : AreNaming after.on_way
      on_way = all-right (λ a. NamesOnly made a.1.1) after.made after.on_way (subst AreNaming after.trail_is named)

      by : (put : Option Putting) → PutIsBehind s.node s.replicas after.on_way put → awaited_in put ≡ Some (node, question) → IsAmong node made
      by None behind w = absurd (none_some (node, question) w)
      by (Some p) behind w = put_made s.replicas after.on_way p node question (subst (λ n. IsAmong n made) (sym behind.0) is_made) on_way behind.1 w
