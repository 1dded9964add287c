-- A put among the nodes, by the asks so far.
use Rattle.std.proofs.Common.{◌≡◌, ◌⊎◌, inl, inr, ⊎_elim, ℕ, ◌<◌, Bool, true, false, cond, List, [], ◌∷◌, ◌++◌, length, map, fold, refl, sym, ap, ◌∙◌, subst, Option, Some, None, Result, Ok, IfSome, IfOk, nat_lt}
use Rattle.std.specs.List.{AllByRecursion, flat_map}
use Rattle.std.specs.Option.{option_map}
use Rattle.std.proofs.lemmas.Grind.{flat_map-append}
use Rattle.std.proofs.lemmas.List.{append-nil, map-append}
use Rattle.ivy_base.specs.Naming.{name}
use Rattle.ivy_base.specs.declared.key.Key.{Key}
use Rattle.ring_model.specs.Gets.{AreFirsts}
use Rattle.ring_model.specs.Gets.AreFirsts.{none as no_firsts, again as first_again, new as first_new}
use Rattle.ring_model.specs.Members.{IsAmong, first}
use Rattle.ring_model.proofs.Lists.{all-both, all-right, cons_head, cons_tail, nil_cons, none_some, some_same}
use Rattle.dht_ids.specs.Asked.{route_in, routes, told}
use Rattle.dht_ids.specs.declared.ask.Answer.{Answer}
use Rattle.dht_ids.specs.declared.ask.Answer.TheVariants as answer
use Rattle.dht_ids.specs.declared.ask.Ask.{Ask}
use Rattle.dht_ids.specs.declared.ask.Ask.TheVariants as ask
use Rattle.dht_ids.specs.declared.ask.AskKind.TheVariants as kind
use Rattle.dht_ids.specs.declared.ask.Heard.{Heard}
use Rattle.dht_ids.specs.declared.ask.Want.TheVariants as want
use Rattle.dht_ids.specs.declared.judge.Judged.{Judged}
use Rattle.dht_ids.specs.declared.peer.Peer.{Peer}
use Rattle.dhash_model.specs.Execution.{IsExecution, Told, told_all, outcome}
use Rattle.dhash_model.specs.Puts.{EndsPut, is_of_put}
use Rattle.dhash_model.specs.declared.miss.Miss.{Miss}
use Rattle.dhash_client.specs.Execution.{Asking, ExecutionState, IsStage, awaited_at, next_owner}
use Rattle.dhash_client.specs.Puts.{IsEnoughPut, IsSamePut, PutIsAfter, PutIsWanted, PutState, put_awaited, put_begun, question_of}
use Rattle.dhash_client.specs.declared.put.PutKind.TheVariants as what
use Rattle.dhash_client.proofs.DrivenGets.{put_begins}
use Rattle.session_laws.proofs.AskedLookups.{look_goes_on}
use Rattle.world_model.specs.Fates.{Fates, asking}
use Rattle.world_model.specs.Fates.Fates.{none as no_asks}
use Rattle.world_model.specs.World.{World, peer_of, with_numbered}
use Rattle.ring_nodes.specs.NodesState.{AreAllAmong, IsNodesOf, NamesOnly, NodesState, made_peers, with_nodes}
use Rattle.ring_nodes.specs.Looking.{PutSteps, PutsSo}
use Rattle.ring_nodes.proofs.Looking.{AllNamed, found_made, next_made, one_more_fate}
use Rattle.ring_nodes.proofs.Reaching.{same_world}

-- ---- the nodes that a put begins with

abbrev pub entries_of : NodesState → List Peer
entries_of s = fold with_numbered [] (made_peers s)

all_numbered : (P : Peer → Type 0) (qs : List Peer) (p : Peer) → AllByRecursion P qs → P p → AllByRecursion P (with_numbered qs p)
all_numbered P [] p all h = (h, tt)
all_numbered P (q ∷ qs) p all h = by (nat_lt p.number q.number) (all_numbered P qs p all.1 h)
  where
    by : (t : Bool) → AllByRecursion P (with_numbered qs p) → AllByRecursion P (cond t (p ∷ q ∷ qs) (q ∷ with_numbered qs p))
    by true rest = (h, all)
    by false rest = (all.0, rest)

all_entries : (P : Peer → Type 0) (qs ps : List Peer) → AllByRecursion P qs → AllByRecursion P ps → AllByRecursion P (fold with_numbered qs ps)
all_entries P qs [] all more = all
all_entries P qs (p ∷ ps) all more = all_entries P (with_numbered qs p) ps (all_numbered P qs p all more.0) more.1

all_itself : (ps : List Peer) → AreAllAmong ps ps
all_itself [] = tt
all_itself (p ∷ ps) = (inl refl, wider ps (all_itself ps))
  where
    wider : (qs : List Peer) → AreAllAmong ps qs → AreAllAmong (p ∷ ps) qs
    wider [] h = tt
    wider (q ∷ qs) h = (inr h.0, wider qs h.1)

pub entries_made : (s : NodesState) → AreAllAmong (made_peers s) (entries_of s)
entries_made s = all_entries (λ q. IsAmong q (made_peers s)) [] (made_peers s) tt (all_itself (made_peers s))

-- ---- asks of one execution

abbrev pub Asks : Type 0
Asks = List (Peer × (Ask × Answer))

abbrev pub told_of : Asks → List Heard
told_of asks = flat_map (λ s. told s.0 s.1.0 s.1.1) asks

told_more : (asks : Asks) (node : Peer) (question : Ask) (given : Answer) → told_of (asks ++ (node, (question, given)) ∷ []) ≡ told_of asks ++ told node question given
told_more asks node question given = flat_map-append (λ s. told s.0 s.1.0 s.1.1) asks ((node, (question, given)) ∷ []) ∙ ap (λ l. told_of asks ++ l) (append-nil (told node question given))

module _ (key : Key) (bytes : List ℕ) where
  -- each is of the look-up or of an owner
  abbrev pub AreOfPut : Asks → Type 0
  AreOfPut asks = AllByRecursion (λ s. (s.1.0 ≡ ask.Route key) ⊎ (s.1.0 ≡ ask.PutBlock key bytes)) asks

  -- what was heard of such asks tells them
  told_apart : (asks : Asks) (looks owners : Told) → AreOfPut asks → told_of asks ≡ told_all (ask.Route key) looks ++ told_all (ask.PutBlock key bytes) owners → asks ≡ asking (ask.Route key) looks ++ asking (ask.PutBlock key bytes) owners
  told_apart [] [] [] are e = refl
  told_apart [] [] (o ∷ owners) are e = absurd (nil_cons {X = Heard} _ _ e)
  told_apart [] (l ∷ looks) owners are e = absurd (nil_cons {X = Heard} _ _ e)
  told_apart ((node, (question, given)) ∷ asks) looks owners are e =
      ⊎_elim
      (λ q. by_route (λ l o f. told_apart asks l o are.1 f) looks (subst (λ (x : Ask). told node x given ++ told_of asks ≡ told_all (ask.Route key) looks ++ told_all (ask.PutBlock key bytes) owners) q e) q)
      (λ q. by_put (λ l o f. told_apart asks l o are.1 f) looks owners (subst (λ (x : Ask). told node x given ++ told_of asks ≡ told_all (ask.Route key) looks ++ told_all (ask.PutBlock key bytes) owners) q e) q)
      are.0
    where
      looked : Heard
      looked = record { node = node; kind = kind.Route; key = key; put = None; got = given }

      asked : Heard
      asked = record { node = node; kind = kind.PutBlock; key = key; put = Some (name bytes); got = given }

      by_route : ((looks owners : Told) → told_of asks ≡ told_all (ask.Route key) looks ++ told_all (ask.PutBlock key bytes) owners → asks ≡ asking (ask.Route key) looks ++ asking (ask.PutBlock key bytes) owners)
          → (looks : Told) → looked ∷ told_of asks ≡ told_all (ask.Route key) looks ++ told_all (ask.PutBlock key bytes) owners → question ≡ ask.Route key
          → (node, (question, given)) ∷ asks ≡ asking (ask.Route key) looks ++ asking (ask.PutBlock key bytes) owners
      by_route further (l ∷ looks) e q =
          let rest = told_all (ask.Route key) looks ++ told_all (ask.PutBlock key bytes) owners in
          let same = cons_head looked (told_of asks) (record { node = l.0; kind = kind.Route; key = key; put = None; got = l.1 }) rest e in
          let later = further looks owners (cons_tail looked (told_of asks) (record { node = l.0; kind = kind.Route; key = key; put = None; got = l.1 }) rest e) in
          λ i. ((same i).node, (q i, (same i).got)) ∷ later i
      by_route further [] e q = none owners e
        where
          none : (owners : Told) → looked ∷ told_of asks ≡ told_all (ask.PutBlock key bytes) owners → (node, (question, given)) ∷ asks ≡ asking (ask.PutBlock key bytes) owners
          none [] e = absurd (nil_cons looked (told_of asks) (sym e))
          none (o ∷ owners) e =
              let same = ap (λ (h : Heard). h.kind) (cons_head looked (told_of asks) (record { node = o.0; kind = kind.PutBlock; key = key; put = Some (name bytes); got = o.1 }) (told_all (ask.PutBlock key bytes) owners) e) in
              absurd cc

      by_put : ((looks owners : Told) → told_of asks ≡ told_all (ask.Route key) looks ++ told_all (ask.PutBlock key bytes) owners → asks ≡ asking (ask.Route key) looks ++ asking (ask.PutBlock key bytes) owners)
          → (looks owners : Told) → asked ∷ told_of asks ≡ told_all (ask.Route key) looks ++ told_all (ask.PutBlock key bytes) owners → question ≡ ask.PutBlock key bytes
          → (node, (question, given)) ∷ asks ≡ asking (ask.Route key) looks ++ asking (ask.PutBlock key bytes) owners
      by_put further (l ∷ looks) owners e q =
          let same = ap (λ (h : Heard). h.kind) (cons_head asked (told_of asks) (record { node = l.0; kind = kind.Route; key = key; put = None; got = l.1 }) (told_all (ask.Route key) looks ++ told_all (ask.PutBlock key bytes) owners) e) in
          absurd cc
      by_put further [] [] e q = absurd (nil_cons asked (told_of asks) (sym e))
      by_put further [] (o ∷ owners) e q =
          let same = cons_head asked (told_of asks) (record { node = o.0; kind = kind.PutBlock; key = key; put = Some (name bytes); got = o.1 }) (told_all (ask.PutBlock key bytes) owners) e in
          let later = further [] owners (cons_tail asked (told_of asks) (record { node = o.0; kind = kind.PutBlock; key = key; put = Some (name bytes); got = o.1 }) (told_all (ask.PutBlock key bytes) owners) e) in
          λ i. ((same i).node, (q i, (same i).got)) ∷ later i

-- ---- owners

-- nodes that stand once are of the list
firsts_all : (P : Peer → Type 0) {seen ps qs : List Peer} → AreFirsts seen ps qs → AllByRecursion P ps → AllByRecursion P qs
firsts_all P no_firsts all = tt
firsts_all P (first_again i rest) all = firsts_all P rest all.1
firsts_all P (first_new d rest) all = (all.0, firsts_all P rest all.1)

owners_made : (made : List Peer) (key : Key) (found : Option (List Peer)) (owners : List Peer) → outcome key found ≡ Ok owners → IfSome found (AreAllAmong made) → AreAllAmong made owners
owners_made made key None owners e h = absurd cc
owners_made made key (Some []) owners e h = absurd cc
owners_made made key (Some (p ∷ ps)) owners e h = subst (λ o. IfOk o (AreAllAmong made)) e h

first_all : (P : Peer → Type 0) (qs : List Peer) (p : Peer) → first qs ≡ Some p → AllByRecursion P qs → P p
first_all P [] p e all = absurd (none_some p e)
first_all P (q ∷ qs) p e all = subst P (some_same q p e) all.0

-- ---- the asks so far

module _ (judged : Key → List ℕ → Option Judged) (start : NodesState) (key : Key) (bytes : List ℕ) (r : ℕ) where
  -- from the nodes at the start these asks were made, and the put may be in its state after what was heard of them
  pub record IsPutting (now : NodesState) (put : PutState) : Type 0 where
    pub asks : Asks
    pub fates : (w : World) → IsNodesOf w start → Fates judged w asks (with_nodes w now)
    pub are : AreOfPut key bytes asks
    pub named : AllByRecursion (λ s. NamesOnly (made_peers start) s.1.1) asks
    pub after : PutIsAfter (entries_of start) (told_of asks) put
    pub same : IsSamePut (put_begun what.Block bytes key r (entries_of start)) put
    pub made : made_peers now ≡ made_peers start

  pub puts_first : (put : PutState) → put ≡ put_begun what.Block bytes key r (entries_of start) → IsPutting start put
  puts_first put e = subst (IsPutting start) (sym e) (record {
    asks = [];
    fates = λ w is. subst (λ v. Fates judged w [] v) (same_world w start is) no_asks;
    are = tt;
    named = tt;
    after = put_begins what.Block bytes key r (entries_of start);
    same = ((refl, refl), refl, refl);
    made = refl;
  })

  pub puts_on : (now : NodesState) (old new : PutState) (node : Peer) (question : Ask) → IsPutting now old → PutIsWanted old new (want.Ask node question) → IsPutting now new
  puts_on now old new node question l wanted = record {
    asks = l.asks;
    fates = l.fates;
    are = l.are;
    named = l.named;
    after = wanted.2 (entries_of start) (told_of l.asks) l.after;
    same = ((wanted.0.0.0 ∙ l.same.0.0, wanted.0.0.1 ∙ l.same.0.1), wanted.0.1 ∙ l.same.1, wanted.0.2 ∙ l.same.2);
    made = l.made;
  }

  -- the asks are those of the machine
  same_told : (now : NodesState) (put : PutState) → (l : IsPutting now put) → told_of l.asks ≡ told_all (ask.Route key) l.after.looks ++ told_all (ask.PutBlock key bytes) l.after.asks
  same_told now put l =
      l.after.told ∙ ap (λ k. told_all (ask.Route k) l.after.looks ++ told_all (question_of put.what put.bytes k) l.after.asks) l.same.0.0
      ∙ ap (λ k. told_all (ask.Route key) l.after.looks ++ told_all (question_of k put.bytes key) l.after.asks) l.same.1
      ∙ ap (λ b. told_all (ask.Route key) l.after.looks ++ told_all (ask.PutBlock key b) l.after.asks) l.same.2

  same_asks : (now : NodesState) (put : PutState) → (l : IsPutting now put) → l.asks ≡ asking (ask.Route key) l.after.looks ++ asking (ask.PutBlock key bytes) l.after.asks
  same_asks now put l = told_apart key bytes l.asks l.after.looks l.after.asks l.are (same_told now put l)

  record IsRight (node : Peer) (question : Ask) : Type 0 where
    made : IsAmong node (made_peers start)
    is : (question ≡ ask.Route key) ⊎ (question ≡ ask.PutBlock key bytes)

  all_looks : (looks owners : Told) → AllByRecursion (λ s. NamesOnly (made_peers start) s.1.1) (asking (ask.Route key) looks ++ asking (ask.PutBlock key bytes) owners) → AllNamed (made_peers start) looks
  all_looks [] owners all = tt
  all_looks (s ∷ looks) owners all = (all.0, all_looks looks owners all.1)

  -- who is asked next was made, and is asked for the route or as an owner
  is_right : (c : ExecutionState) (looks asks : Told) (o : Option Asking) (node : Peer) (q : Ask) → c.look.key ≡ key → AllNamed (made_peers start) looks
      → IsStage is_of_put (IsEnoughPut key c.replicas) key (entries_of start) looks asks c.look o → awaited_at (ask.PutBlock key bytes) c o ≡ Some (node, q) → IsRight node q
  is_right c looks asks None node q same named stage waits = by c.look.waiting refl waits
    where
      by : (o : Option Peer) → c.look.waiting ≡ o → option_map {U = Peer × Ask} (λ p. (p, ask.Route c.look.key)) o ≡ Some (node, q) → IsRight node q
      by None e w = absurd (none_some (node, q) w)
      by (Some p) e w =
          let is = some_same (p, ask.Route c.look.key) (node, q) w in
          let once : (length c.look.asked < 512) × (IsAmong p c.look.asked → ⊥) = subst (λ (o : Option Peer). IfSome o (λ n. (length c.look.asked < 512) × (IsAmong n c.look.asked → ⊥))) e stage.2 in
          let on = look_goes_on key (entries_of start) looks c.look p stage.1 e once.0 once.1 in
          let made = next_made (made_peers start) on.1 looks p None (routes on.0) (map-append (λ (x : Peer × Answer). (x.0, route_in x.1)) looks ((p, answer.Silent) ∷ on.0)) (entries_made start) named in
          record {
            made = subst (λ n. IsAmong n (made_peers start)) (ap (λ s. s.0) is) made;
            is = inl (sym (ap (λ s. s.1) is) ∙ ap (λ k. ask.Route k) same);
          }
  is_right c looks asks (Some a) node q same named stage waits = by (next_owner c.replicas a) refl waits
    where
      found : IfSome stage.found (AreAllAmong (made_peers start))
      found = found_made (made_peers start) stage.looked looks refl tt named

      all : AreAllAmong (made_peers start) (a.asked ++ a.rest)
      all = firsts_all (λ n. IsAmong n (made_peers start)) stage.firsts (owners_made (made_peers start) key stage.found stage.owners stage.some found)

      next_is : (t : Bool) (p : Peer) → cond t (first a.rest) None ≡ Some p → first a.rest ≡ Some p
      next_is true p e = e
      next_is false p e = absurd (none_some p e)

      by : (o : Option Peer) → next_owner c.replicas a ≡ o → option_map {U = Peer × Ask} (λ p. (p, ask.PutBlock key bytes)) o ≡ Some (node, q) → IsRight node q
      by None e w = absurd (none_some (node, q) w)
      by (Some p) e w =
          let is = some_same (p, ask.PutBlock key bytes) (node, q) w in
          let made = first_all (λ n. IsAmong n (made_peers start)) a.rest p (next_is (nat_lt a.answered c.replicas) p e) (all-right (λ n. IsAmong n (made_peers start)) a.asked a.rest all) in
          record {
            made = subst (λ n. IsAmong n (made_peers start)) (ap (λ s. s.0) is) made;
            is = inr (sym (ap (λ s. s.1) is));
          }

  right_at : (now : NodesState) (put : PutState) (node : Peer) (q : Ask) → IsPutting now put → put_awaited put ≡ Some (node, q) → IsRight node q
  right_at now put node q l waits =
      is_right put.execution l.after.looks l.after.asks put.execution.asking node q l.same.0.0
      (all_looks l.after.looks l.after.asks (subst (λ s. AllByRecursion (λ x. NamesOnly (made_peers start) x.1.1) s) (same_asks now put l) l.named))
      (subst (λ k. IsStage is_of_put (IsEnoughPut k put.execution.replicas) k (entries_of start) l.after.looks l.after.asks put.execution.look put.execution.asking) l.same.0.0 l.after.stage)
      (subst (λ b. awaited_at (ask.PutBlock key b) put.execution put.execution.asking ≡ Some (node, q)) l.same.2
      (subst (λ k. awaited_at (question_of k put.bytes key) put.execution put.execution.asking ≡ Some (node, q)) l.same.1
      (subst (λ k. awaited_at (question_of put.what put.bytes k) put.execution put.execution.asking ≡ Some (node, q)) l.same.0.0 waits)))

  pub put_made : (now : NodesState) (put : PutState) (node : Peer) (q : Ask) → IsPutting now put → put_awaited put ≡ Some (node, q) → IsAmong node (made_peers now)
  put_made now put node q l waits = subst (IsAmong node) (sym l.made) (right_at now put node q l waits).made

  -- one ask more
  pub puts_more : (now next : NodesState) (old new : PutState) (node : Peer) (q : Ask) → IsPutting now old → put_awaited old ≡ Some (node, q) → PutSteps judged node q now next old new → made_peers next ≡ made_peers now → IsPutting next new
  puts_more now next old new node q l waits step still =
      let same = step.heard.0 in record {
        asks = l.asks ++ (node, (q, step.given)) ∷ [];
        fates = λ w is. one_more_fate (l.fates w is) (with_nodes w next) node q step.given (step.fate (with_nodes w now) (refl, refl, refl));
        are = all-both (λ s. (s.1.0 ≡ ask.Route key) ⊎ (s.1.0 ≡ ask.PutBlock key bytes)) l.asks ((node, (q, step.given)) ∷ []) l.are ((right_at now old node q l waits).is, tt);
        named = all-both (λ s. NamesOnly (made_peers start) s.1.1) l.asks ((node, (q, step.given)) ∷ []) l.named (subst (λ m. NamesOnly m step.given) l.made step.named, tt);
        after = subst (λ t. PutIsAfter (entries_of start) t new) (sym (told_more l.asks node q step.given)) (step.heard.1 (entries_of start) (told_of l.asks) node q waits l.after);
        same = ((same.0.0 ∙ l.same.0.0, same.0.1 ∙ l.same.0.1), same.1 ∙ l.same.1, same.2 ∙ l.same.2);
        made = still ∙ l.made;
      }

  -- the end
  pub puts_ended : (now : NodesState) (old new : PutState) (came : Result Bool Miss) → IsPutting now old → PutIsWanted old new (want.Done came) → (w : World) → IsNodesOf w start → PutsSo judged w r key (ask.PutBlock key bytes) came (with_nodes w now)
  puts_ended now old new came l wanted w is = let trail = told_all (ask.Route key) l.after.looks ++ told_all (ask.PutBlock key bytes) l.after.asks in (
    record {
      looks = l.after.looks;
      asks = l.after.asks;
      came = came;
      fates = subst (λ s. Fates judged w s (with_nodes w now)) (same_asks now old l) (l.fates w is);
      whole = subst (λ ps. IsExecution key (ask.PutBlock key bytes) ps (EndsPut r) trail came) (ap (λ ns. fold with_numbered [] (map peer_of ns)) (sym is.0))
          (subst (λ t. IsExecution key (ask.PutBlock key bytes) (entries_of start) (EndsPut r) t came) (same_told now old l)
          (subst (λ n. IsExecution key (ask.PutBlock key bytes) (entries_of start) (EndsPut n) (told_of l.asks) came) l.same.0.1
          (subst (λ k. IsExecution k (ask.PutBlock k bytes) (entries_of start) (EndsPut old.execution.replicas) (told_of l.asks) came) l.same.0.0
          (subst (λ b. IsExecution old.execution.look.key (ask.PutBlock old.execution.look.key b) (entries_of start) (EndsPut old.execution.replicas) (told_of l.asks) came) l.same.2
          (subst (λ k. IsExecution old.execution.look.key (question_of k old.bytes old.execution.look.key) (entries_of start) (EndsPut old.execution.replicas) (told_of l.asks) came) l.same.1
          (wanted (entries_of start) (told_of l.asks) l.after))))));
    },
    refl,
  )
