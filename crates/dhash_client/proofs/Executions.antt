-- How an execution goes on after a trail, whatever it asks of owners and keeps of their answers.
use Rattle.std.proofs.Common.{◌≡◌, ℕ, ◌+◌, ◌<◌, ◌≤◌, nat_lt, Bool, true, false, if◌then◌else◌, List, [], ◌∷◌, ◌++◌, length, take, Option, Some, None, IfSome, Result, Err, refl, ap, sym, ◌∙◌, subst, inl, inr, ⊎_elim, ◌⊎◌, arith}
use Rattle.std.specs.Option.{option_map}
use Rattle.std.proofs.lemmas.List.{append_assoc, append-nil, map-append, length-map, take_at, take-append-le, length-append}
use Rattle.std.proofs.lemmas.Grind.{flat_map-append}
use Rattle.std.proofs.lemmas.Bool.{ltb-true, ltb-false, cases_lt}
use Rattle.ivy_base.specs.declared.key.Key.{Key}
use Rattle.dht_ids.specs.Asked.{told, routes, route_in}
use Rattle.dht_ids.specs.declared.ask.Answer.{Answer}
use Rattle.dht_ids.specs.declared.ask.Ask.{Ask}
use Rattle.dht_ids.specs.declared.ask.Ask.TheVariants as ask
use Rattle.dht_ids.specs.declared.ask.Heard.{Heard}
use Rattle.dht_ids.specs.declared.peer.Peer.{Peer}
use Rattle.ring_model.specs.Members.{IsAmong, first}
use Rattle.ring_model.specs.Gets.{AreFirsts, AreAsks, nodes, answered_in}
use Rattle.ring_model.proofs.Gets.{answered_more}
use Rattle.ring_model.proofs.Lists.{some_same, none_some}
use Rattle.dhash_client.specs.Machine.{State, Follow, FollowsAfter, HasHeard, fresh}
use Rattle.dhash_client.specs.Execution.{IsAskedOnce, Asking, ExecutionState, next_owner, awaited, awaited_at, HasAsked, IsBehind, IsOnExecution, IsAskingOf, Reaches, Looks, HearsOwner, Hears, Goes, begun}
use Rattle.dhash_client.specs.declared.execution.Step.TheVariants as step
use Rattle.dhash_model.specs.declared.miss.Miss.TheVariants as miss
use Rattle.dhash_model.specs.Execution.{outcome, Told, told_all, IsExecution}
use Rattle.dhash_model.specs.Execution.IsExecution.{no_route, of_owners}
use Rattle.dhash_model.specs.declared.miss.Miss.{Miss}
use Rattle.dhash_client.proofs.Driven.{follows_both, is_look_up}

none_below : (k : ℕ) → k < 0 → ⊥
none_below k h = absurd (omega (arith, h))

none_waits : (look : State) → look.waiting ≡ None → IsAskedOnce look
none_waits look e = subst (λ (w : Option Peer). IfSome w (λ node. (length look.asked < 512) × (IsAmong node look.asked → ⊥))) (sym e) tt

-- one more ask of a trail
told_more : (question : Ask) (asks : Told) (node : Peer) (given : Answer) → told_all question (asks ++ (node, given) ∷ []) ≡ told_all question asks ++ told node question given
told_more question asks node given = flat_map-append (λ s. told s.0 question s.1) asks ((node, given) ∷ []) ∙ ap (λ l. told_all question asks ++ l) (append-nil (told node question given))

-- an owner is to be asked: fewer than r answered, and it is the first of the rest
pub owner_first : (r : ℕ) (a : Asking) (node : Peer) → next_owner r a ≡ Some node → (a.answered < r) × (first a.rest ≡ Some node)
owner_first r a node e = by_test (nat_lt a.answered r) refl e
  where
    by_test : (b : Bool) → nat_lt a.answered r ≡ b → (if b then first a.rest else None) ≡ Some node → (a.answered < r) × (first a.rest ≡ Some node)
    by_test true h e = (ltb-true a.answered r h, e)
    by_test false h e = absurd (none_some node e)

-- no owner is to be asked: r answered, or none is left
pub owners_over : (r : ℕ) (a : Asking) → next_owner r a ≡ None → (r ≤ a.answered) ⊎ (a.rest ≡ [])
owners_over r a e = by_test (nat_lt a.answered r) refl e
  where
    by_rest : (l : List Peer) → first l ≡ None → l ≡ []
    by_rest [] e = refl
    by_rest (p ∷ l) e = absurd (none_some p (sym e))

    by_test : (b : Bool) → nat_lt a.answered r ≡ b → (if b then first a.rest else None) ≡ None → (r ≤ a.answered) ⊎ (a.rest ≡ [])
    by_test true h e = inr (by_rest a.rest e)
    by_test false h e = inl (ltb-false a.answered r h)

-- one more ask was needed
needed_more : {X : Type 0} (IsEnough : List X → Type 0) (asks : List X) (x : X) → ((k : ℕ) → k < length asks → IsEnough (take k asks) → ⊥) → (IsEnough asks → ⊥) → (k : ℕ) → k < length (asks ++ x ∷ []) → IsEnough (take k (asks ++ x ∷ [])) → ⊥
needed_more {X = X} IsEnough asks x before now k below e = by_place (cases_lt k (length asks))
  where
    by_place : (k < length asks) ⊎ (length asks ≤ k) → ⊥
    by_place (inl h) = before k h (subst IsEnough (take-append-le k asks (x ∷ []) (omega (arith, h))) e)
    by_place (inr h) = now (subst IsEnough (take_at asks (x ∷ []) k (omega (arith, length-append asks (x ∷ []), below, h))) e)

module _ (question : Key → Ask) (answers : Answer → Bool) (IsEnough : Key → ℕ → Told → Type 0) (Sums : Key → Told → Type 0) (entries : List Peer) where
  moved_any : (Sums : Key → Told → Type 0) (trail : List Heard) (key key2 : Key) (r r2 : ℕ) (look : State) (asking asking2 : Option Asking) → key2 ≡ key → r2 ≡ r → asking2 ≡ asking
      → IsBehind question answers IsEnough Sums entries trail key r look asking → IsBehind question answers IsEnough Sums entries trail key2 r2 look asking2
  moved_any Sums trail key key2 r r2 look asking asking2 k e a h =
      subst (λ x. IsBehind question answers IsEnough Sums entries trail x r2 look asking2) (sym k)
      (subst (λ x. IsBehind question answers IsEnough Sums entries trail key x look asking2) (sym e)
      (subst (λ x. IsBehind question answers IsEnough Sums entries trail key r look x) (sym a) h))

  pub moved : (trail : List Heard) (key key2 : Key) (r r2 : ℕ) (look : State) (asking asking2 : Option Asking) → key2 ≡ key → r2 ≡ r → asking2 ≡ asking
      → IsBehind question answers IsEnough Sums entries trail key r look asking → IsBehind question answers IsEnough Sums entries trail key2 r2 look asking2
  moved = moved_any Sums

  pub begins : (key : Key) (r : ℕ) → Sums key [] → IsOnExecution question answers IsEnough Sums entries [] (begun key r entries)
  begins key r s = record { looks = []; asks = []; told = refl; stage = (refl, λ trail found h. h, tt); sums = s }

  looks_at : (trail : List Heard) (key : Key) (r : ℕ) (look look2 : State) → FollowsAfter [] look look2 → IsAskedOnce look2
      → IsBehind question answers IsEnough Sums entries trail key r look None → IsBehind question answers IsEnough Sums entries trail key r look2 None
  looks_at trail key r look look2 f once h = record { looks = h.looks; asks = h.asks; told = h.told; stage = (h.stage.0, λ t found x. h.stage.1 t found (f t found x), once); sums = h.sums }

  pub looks_on : (trail : List Heard) (old new : ExecutionState) (node : Peer) → Looks old new node → IsOnExecution question answers IsEnough Sums entries trail old → IsOnExecution question answers IsEnough Sums entries trail new
  looks_on trail old new node l h =
      moved trail old.look.key new.look.key old.replicas new.replicas new.look None new.asking l.key l.replicas l.after
      (looks_at trail old.look.key old.replicas old.look new.look l.follows l.once (moved trail old.look.key old.look.key old.replicas old.replicas old.look old.asking None refl refl (sym l.before) h))

  asks_at : (trail : List Heard) (r : ℕ) (look look2 : State) (asking : Option Asking) (a : Asking) → IsAskingOf look asking a
      → IsBehind question answers IsEnough Sums entries trail look.key r look asking → IsBehind question answers IsEnough Sums entries trail look.key r look2 (Some a)
  asks_at trail r look look2 None a f h =
      record {
        looks = h.looks;
        asks = [];
        told = subst (λ l. trail ≡ told_all (ask.Route look.key) h.looks ++ told_all (question look.key) l) h.stage.0 h.told;
        stage = record {
          found = f.0;
          owners = f.1;
          looked = is_look_up look.key entries (routes h.looks) f.0 look h.stage.1 f.2;
          some = f.3;
          firsts = subst (λ l. AreFirsts [] f.1 (l ++ a.rest)) (sym f.5) f.4;
          asked = f.5;
          answered = f.6;
          needed = λ k below e. none_below k below;
        };
        sums = subst (Sums look.key) h.stage.0 h.sums;
      }
  asks_at trail r look look2 (Some b) a f h = record { looks = h.looks; asks = h.asks; told = h.told; stage = subst (λ x. HasAsked answers (IsEnough look.key r) look.key entries h.looks h.asks x) (sym f) h.stage; sums = h.sums }

  pub asks_on : (trail : List Heard) (old new : ExecutionState) (a : Asking) → Reaches old new a → IsOnExecution question answers IsEnough Sums entries trail old → IsBehind question answers IsEnough Sums entries trail new.look.key new.replicas new.look (Some a)
  asks_on trail old new a g h =
      moved trail old.look.key new.look.key old.replicas new.replicas new.look (Some a) (Some a) g.key g.replicas refl
      (asks_at trail old.replicas old.look new.look old.asking a g.from h)

  hears_at : (trail : List Heard) (r : ℕ) (look look2 : State) (node : Peer) (given : Answer) → HasHeard look look2 given → look.waiting ≡ Some node
      → IsBehind question answers IsEnough Sums entries trail look.key r look None → IsBehind question answers IsEnough Sums entries (trail ++ told node (ask.Route look.key) given) look.key r look2 None
  hears_at trail r look look2 node given heard w h =
      record {
        looks = h.looks ++ (node, given) ∷ [];
        asks = [];
        told = ap (λ l. l ++ told node (ask.Route look.key) given) (subst (λ l. trail ≡ told_all (ask.Route look.key) h.looks ++ told_all (question look.key) l) h.stage.0 h.told ∙ append-nil (told_all (ask.Route look.key) h.looks))
            ∙ sym (told_more (ask.Route look.key) h.looks node given) ∙ sym (append-nil (told_all (ask.Route look.key) (h.looks ++ (node, given) ∷ [])));
        stage = (
          refl,
          subst (λ l. FollowsAfter l (fresh look.key entries) look2) (sym (map-append (λ s. (s.0, route_in s.1)) h.looks ((node, given) ∷ [])))
              (follows_both (routes h.looks) ((node, route_in given) ∷ []) (fresh look.key entries) look look2 h.stage.1 (heard.follows node w)),
          none_waits look2 heard.waiting,
        );
        sums = subst (Sums look.key) h.stage.0 h.sums;
      }

  awaited_route : (key : Key) (waiting : Option Peer) (node : Peer) (q : Ask) → option_map {U = Peer × Ask} (λ p. (p, ask.Route key)) waiting ≡ Some (node, q) → (waiting ≡ Some node) × (ask.Route key ≡ q)
  awaited_route key None node q e = absurd (none_some (node, q) e)
  awaited_route key (Some p) node q e = (ap (λ s. Some s.0) (some_same (p, ask.Route key) (node, q) e), ap (λ s. s.1) (some_same (p, ask.Route key) (node, q) e))

  awaited_owner : (question : Ask) (owner : Option Peer) (node : Peer) (q : Ask) → option_map {U = Peer × Ask} (λ p. (p, question)) owner ≡ Some (node, q) → (owner ≡ Some node) × (question ≡ q)
  awaited_owner question None node q e = absurd (none_some (node, q) e)
  awaited_owner question (Some p) node q e = (ap (λ s. Some s.0) (some_same (p, question) (node, q) e), ap (λ s. s.1) (some_same (p, question) (node, q) e))

  pub hears_route : (trail : List Heard) (old new : ExecutionState) (node : Peer) (q : Ask) (given : Answer) (counts : Bool) → Hears old new given counts None → awaited (question old.look.key) old ≡ Some (node, q)
      → IsOnExecution question answers IsEnough Sums entries trail old → IsOnExecution question answers IsEnough Sums entries (trail ++ told node q given) new
  hears_route trail old new node q given counts l w h =
      let at : (old.look.waiting ≡ Some node) × (ask.Route old.look.key ≡ q) = awaited_route old.look.key old.look.waiting node q (subst (λ x. awaited_at (question old.look.key) old x ≡ Some (node, q)) l.0 w) in
      subst (λ x. IsBehind question answers IsEnough Sums entries (trail ++ told node x given) new.look.key new.replicas new.look new.asking) at.1
      (moved (trail ++ told node (ask.Route old.look.key) given) old.look.key new.look.key old.replicas new.replicas new.look None new.asking l.3.key l.2 l.1
      (hears_at trail old.replicas old.look new.look node given l.3 at.0
      (moved trail old.look.key old.look.key old.replicas old.replicas old.look old.asking None refl refl (sym l.0) h)))

  hears_owner_at : (Sums2 : Key → Told → Type 0) (trail : List Heard) (r : ℕ) (look look2 : State) (a b : Asking) (node : Peer) (given : Answer) → a.rest ≡ node ∷ b.rest → b.asked ≡ a.asked ++ node ∷ []
      → b.answered ≡ a.answered + (if answers given then 1 else 0) → a.answered < r
      → ((asks : Told) → answered_in answers asks < r → Sums look.key asks → IsEnough look.key r asks → ⊥) → ((asks : Told) → Sums look.key asks → Sums2 look.key (asks ++ (node, given) ∷ []))
      → IsBehind question answers IsEnough Sums entries trail look.key r look (Some a)
      → IsBehind question answers IsEnough Sums2 entries (trail ++ told node (question look.key) given) look.key r look2 (Some b)
  hears_owner_at Sums2 trail r look look2 a b node given turn asked answered few goes_on sums h =
      record {
        looks = h.looks;
        asks = h.asks ++ (node, given) ∷ [];
        told = ap (λ l. l ++ told node (question look.key) given) h.told ∙ append_assoc (told_all (ask.Route look.key) h.looks) (told_all (question look.key) h.asks) (told node (question look.key) given)
            ∙ ap (λ l. told_all (ask.Route look.key) h.looks ++ l) (sym (told_more (question look.key) h.asks node given));
        stage = record {
          found = h.stage.found;
          owners = h.stage.owners;
          looked = h.stage.looked;
          some = h.stage.some;
          firsts = subst (λ l. AreFirsts [] h.stage.owners l) (ap (λ l. a.asked ++ l) turn ∙ sym (append_assoc a.asked (node ∷ []) b.rest) ∙ ap (λ l. l ++ b.rest) (sym asked)) h.stage.firsts;
          asked = asked ∙ ap (λ l. l ++ node ∷ []) h.stage.asked ∙ sym (map-append (λ s. s.0) h.asks ((node, given) ∷ []));
          answered = answered ∙ ap (λ n. n + (if answers given then 1 else 0)) h.stage.answered ∙ sym (answered_more answers h.asks node given);
          needed = needed_more (IsEnough look.key r) h.asks (node, given) h.stage.needed (goes_on h.asks (subst (λ n. n < r) h.stage.answered few) h.sums);
        };
        sums = sums h.asks h.sums;
      }

  pub hears_owner : (Sums2 : Key → Told → Type 0) (trail : List Heard) (old new : ExecutionState) (node owner : Peer) (q : Ask) (given : Answer) (counts : Bool) → HearsOwner old new owner counts → awaited (question old.look.key) old ≡ Some (node, q)
      → counts ≡ answers given
      → ((asks : Told) → answered_in answers asks < old.replicas → Sums old.look.key asks → IsEnough old.look.key old.replicas asks → ⊥) → ((asks : Told) → Sums old.look.key asks → Sums2 old.look.key (asks ++ (owner, given) ∷ []))
      → IsOnExecution question answers IsEnough Sums entries trail old → IsOnExecution question answers IsEnough Sums2 entries (trail ++ told node q given) new
  hears_owner Sums2 trail old new node owner q given counts l w count goes_on sums h =
      let at : (next_owner old.replicas l.before ≡ Some node) × (question old.look.key ≡ q) = awaited_owner (question old.look.key) (next_owner old.replicas l.before) node q (subst (λ x. awaited_at (question old.look.key) old x ≡ Some (node, q)) l.was w) in
      let turn : (l.before.answered < old.replicas) × (first l.before.rest ≡ Some node) = owner_first old.replicas l.before node at.0 in
      let same : owner ≡ node = some_same owner node (ap (λ x. first x) (sym l.turn) ∙ turn.1) in
      subst (λ x. IsBehind question answers IsEnough Sums2 entries (trail ++ told node x given) new.look.key new.replicas new.look new.asking) at.1
      (subst (λ x. IsBehind question answers IsEnough Sums2 entries (trail ++ told x (question old.look.key) given) new.look.key new.replicas new.look new.asking) same
      (moved_any Sums2 (trail ++ told owner (question old.look.key) given) old.look.key new.look.key old.replicas new.replicas new.look (Some l.after) new.asking (ap (λ s. s.key) l.look) l.replicas l.is
      (hears_owner_at Sums2 trail old.replicas old.look new.look l.before l.after owner given l.turn l.asked (l.answered ∙ ap (λ b. l.before.answered + (if b then 1 else 0)) count) turn.0 goes_on sums
      (moved trail old.look.key old.look.key old.replicas old.replicas old.look old.asking (Some l.before) refl refl (sym l.was) h))))

  -- no owner was found
  pub no_route_at : {T : Type 0} (Ends : List Peer → Told → Result T Miss → Type 0) (trail : List Heard) (c : ExecutionState) (found : Option (List Peer)) → c.asking ≡ None → Follow c.look [] found → outcome c.look.key found ≡ Err (miss.NoRoute c.look.key)
      → IsOnExecution question answers IsEnough Sums entries trail c → IsExecution c.look.key (question c.look.key) entries Ends trail (Err (miss.NoRoute c.look.key))
  no_route_at Ends trail c found none follows e h = by_stage (moved trail c.look.key c.look.key c.replicas c.replicas c.look c.asking None refl refl (sym none) h)
    where
      by_stage : IsBehind question answers IsEnough Sums entries trail c.look.key c.replicas c.look None → IsExecution c.look.key (question c.look.key) entries Ends trail (Err (miss.NoRoute c.look.key))
      by_stage h =
          no_route h.looks found (subst (λ l. trail ≡ told_all (ask.Route c.look.key) h.looks ++ told_all (question c.look.key) l) h.stage.0 h.told ∙ append-nil (told_all (ask.Route c.look.key) h.looks))
          (is_look_up c.look.key entries (routes h.looks) found c.look h.stage.1 follows) e refl

  -- what is to be heard after a step
  pub route_awaited : (old new : ExecutionState) (node : Peer) (key : Key) → key ≡ new.look.key → Looks old new node → awaited (question new.look.key) new ≡ Some (node, ask.Route key)
  route_awaited old new node key k l =
      subst (λ o. awaited_at (question new.look.key) new o ≡ Some (node, ask.Route key)) (sym l.after)
      (ap (λ w. option_map {U = Peer × Ask} (λ p. (p, ask.Route new.look.key)) w) l.waiting ∙ ap (λ k. Some (node, ask.Route k)) (sym k))

  pub owner_awaited : (old new : ExecutionState) (node : Peer) (key : Key) → key ≡ new.look.key → Goes old new (step.Owner node) → awaited (question new.look.key) new ≡ Some (node, question key)
  owner_awaited old new node key k g =
      subst (λ o. awaited_at (question new.look.key) new o ≡ Some (node, question key)) (sym g.1.asking)
      (ap (λ w. option_map {U = Peer × Ask} (λ p. (p, question new.look.key)) w) (ap (λ r. next_owner r g.0) g.1.replicas ∙ g.2) ∙ ap (λ k. Some (node, question k)) (sym k))

  pub owner_on : (trail : List Heard) (old new : ExecutionState) (node : Peer) → Goes old new (step.Owner node) → IsOnExecution question answers IsEnough Sums entries trail old → IsOnExecution question answers IsEnough Sums entries trail new
  owner_on trail old new node g h = moved trail new.look.key new.look.key new.replicas new.replicas new.look (Some g.0) new.asking refl refl g.1.asking (asks_on trail old new g.0 g.1 h)

  -- the asks of owners, where nobody else is asked
  pub asks_made : (key : Key) (r : ℕ) (looks asks : Told) (a : Asking) (h : HasAsked answers (IsEnough key r) key entries looks asks a) → IsEnough key r asks ⊎ (a.rest ≡ [])
      → (made : AreAsks h.owners (IsEnough key r) asks) × (made.once ≡ a.asked ++ a.rest)
  asks_made key r looks asks a h over = (
    record {
      once = a.asked ++ a.rest;
      firsts = h.firsts;
      order = sym h.asked ∙ sym (take_at a.asked a.rest (length asks) (ap (λ l. length l) h.asked ∙ length-map asks (λ s. s.0)));
      needed = h.needed;
      over = ⊎_elim (λ e. inl e) (λ e. inr (sym h.asked ∙ sym (ap (λ l. a.asked ++ l) e ∙ append-nil a.asked))) over;
    },
    refl,
  )

  -- nobody else is asked
  pub over_ends : {T : Type 0} (Ends : List Peer → Told → Result T Miss → Type 0) (trail : List Heard) (old new : ExecutionState) (result : Result T Miss) → Goes old new step.Over
      → ((asks : Told) → old.replicas ≤ answered_in answers asks → IsEnough old.look.key old.replicas asks)
      → ((a : Asking) (owners : List Peer) (asks : Told) (made : AreAsks owners (IsEnough old.look.key old.replicas) asks) → new.asking ≡ Some a → made.once ≡ a.asked ++ a.rest → a.asked ≡ nodes asks → Sums old.look.key asks → Ends owners asks result)
      → IsOnExecution question answers IsEnough Sums entries trail old → IsExecution old.look.key (question old.look.key) entries Ends trail result
  over_ends Ends trail old new result g enough make h =
      by_asks g.0 g.1.asking (owners_over old.replicas g.0 g.2)
      (moved trail new.look.key old.look.key new.replicas old.replicas new.look (Some g.0) (Some g.0) (sym g.1.key) (sym g.1.replicas) refl (asks_on trail old new g.0 g.1 h))
    where
      by_asks : (a : Asking) → new.asking ≡ Some a → (old.replicas ≤ a.answered) ⊎ (a.rest ≡ []) → IsBehind question answers IsEnough Sums entries trail old.look.key old.replicas new.look (Some a) → IsExecution old.look.key (question old.look.key) entries Ends trail result
      by_asks a is over h =
          let made : (m : AreAsks h.stage.owners (IsEnough old.look.key old.replicas) h.asks) × (m.once ≡ a.asked ++ a.rest) =
          asks_made old.look.key old.replicas h.looks h.asks a h.stage (⊎_elim (λ e. inl (enough h.asks (subst (λ n. old.replicas ≤ n) h.stage.answered e))) (λ e. inr e) over) in
          of_owners h.looks h.asks h.stage.found h.stage.owners h.told h.stage.looked h.stage.some (make a h.stage.owners h.asks made.0 is made.1 h.stage.asked h.sums)
