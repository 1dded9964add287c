-- The steps of a get of a content block.
use Rattle.std.proofs.Common.{◌≡◌, ℕ, ◌<◌, Bool, List, [], ◌∷◌, ◌++◌, Option, Some, None, Ok, Err, refl, ap, sym, ◌∙◌, subst, inl, inr, ◌⊎◌, arith}
use Rattle.std.proofs.lemmas.List.{map-append}
use Rattle.ivy_base.specs.declared.key.Key.{Key}
use Rattle.ivy_base.specs.Naming.{name}
use Rattle.dht_ids.specs.Asked.{told}
use Rattle.dht_ids.specs.declared.ask.Answer.{Answer}
use Rattle.dht_ids.specs.declared.ask.Ask.{Ask}
use Rattle.dht_ids.specs.declared.ask.Ask.TheVariants as ask
use Rattle.dht_ids.specs.declared.ask.Heard.{Heard}
use Rattle.dht_ids.specs.declared.ask.Want.TheVariants as want
use Rattle.dht_ids.specs.declared.peer.Peer.{Peer}
use Rattle.ring_model.specs.Members.{IsAmong, first}
use Rattle.ring_model.specs.Gets.{Got, Right, Damaged, Missing, nodes, answered_in, given, first_giver, HasBlock, IsGiven, AreAsks, IsBlockGet}
use Rattle.ring_model.proofs.Gets.{given_none, given_some, first_none, first_some}
use Rattle.ring_model.proofs.Lists.{among-right, among-cases, none_some}
use Rattle.dhash_client.specs.Execution.{Asking, ExecutionState, awaited, asked_of, miss_of, IsBehind, Hears, Goes}
use Rattle.dhash_client.specs.GetBlock.{BlockState, IsEnoughBlock, SumsBlock, block_awaited_at, BlockIsAfter, BlockIsWanted, BlockHasHeard, BlockTakes, or_node}
use Rattle.dhash_client.specs.declared.execution.Step.TheVariants as step
use Rattle.dhash_model.specs.declared.miss.Miss.TheVariants as miss
use Rattle.dhash_model.specs.Execution.{Told, result_of}
use Rattle.dhash_model.specs.Execution.IsExecution.{of_owners}
use Rattle.dhash_model.specs.GetBlock.{is_of_get, block_in, EndsGet, IsGetOfBlock}
use Rattle.dhash_model.specs.declared.miss.Miss.{Miss}
use Rattle.dhash_client.proofs.Executions.{looks_on, hears_route, hears_owner, asks_made, no_route_at, route_awaited, owner_awaited, owner_on, over_ends}

-- nothing was found where a node is to be heard
not_found : (found : Option (List ℕ)) (c : ExecutionState) (x : Peer × Ask) → block_awaited_at found c ≡ Some x → (found ≡ None) × (awaited (ask.Get c.look.key) c ≡ Some x)
not_found None c x e = (refl, e)
not_found (Some bytes) c x e = absurd (none_some x e)

-- a get goes on while fewer than r answered and no owner gave the block
goes_on : (key : Key) (r : ℕ) (found : Option (List ℕ)) (wrong : Option Peer) → found ≡ None → (asks : Told) → answered_in is_of_get asks < r → SumsBlock key found wrong asks → IsEnoughBlock key r asks → ⊥
goes_on key r found wrong none asks few sums (inl e) = absurd (omega (arith, few, e))
goes_on key r found wrong none asks few sums (inr h) = (subst (λ f. SumsBlock key f wrong asks) none sums).0 h

-- an owner gave nothing
gave_nothing : (key : Key) (found : Option (List ℕ)) (wrong : Option Peer) (node : Peer) (heard : Answer) → found ≡ None → block_in heard ≡ None → (asks : Told) → SumsBlock key found wrong asks → SumsBlock key found wrong (asks ++ (node, heard) ∷ [])
gave_nothing key found wrong node heard none e asks sums =
    let now : SumsBlock key None wrong asks = subst (λ f. SumsBlock key f wrong asks) none sums in
    let same : given block_in (asks ++ (node, heard) ∷ []) ≡ given block_in asks = given_none block_in asks node heard e in
    subst (λ f. SumsBlock key f wrong (asks ++ (node, heard) ∷ [])) (sym none)
    ((λ h. now.0 (h.0, (h.1.0, subst (λ l. IsAmong {X = Peer × List ℕ} (h.1.0, h.0) l) same h.1.1, h.1.2))), now.1 ∙ ap (λ l. first (nodes l)) (sym same))

-- an owner gave the block
gave_right : (key : Key) (wrong : Option Peer) (node : Peer) (heard : Answer) (bytes : List ℕ) → block_in heard ≡ Some bytes → name bytes ≡ key → (asks : Told) → SumsBlock key (Some bytes) wrong (asks ++ (node, heard) ∷ [])
gave_right key wrong node heard bytes e right asks =
    (node, subst (λ l. IsAmong {X = Peer × List ℕ} (node, bytes) l) (sym (given_some block_in asks node heard bytes e)) (among-right (node, bytes) (given block_in asks) ((node, bytes) ∷ []) (inl refl)), right)

-- the first node that gave something, after one more
pub giver_more : (l : List (Peer × List ℕ)) (w : Option Peer) (node : Peer) (bytes : List ℕ) → w ≡ first (nodes l) → or_node w node ≡ first (nodes (l ++ (node, bytes) ∷ []))
giver_more l None node bytes e = sym (first_none (nodes l) node (sym e)) ∙ ap (λ m. first m) (sym (map-append (λ s. s.0) l ((node, bytes) ∷ [])))
giver_more l (Some before) node bytes e = sym (first_some (nodes l) node before (sym e)) ∙ ap (λ m. first m) (sym (map-append (λ s. s.0) l ((node, bytes) ∷ [])))

-- an owner gave other bytes
gave_wrong : (key : Key) (found : Option (List ℕ)) (wrong : Option Peer) (node : Peer) (heard : Answer) (bytes : List ℕ) → found ≡ None → block_in heard ≡ Some bytes → (name bytes ≡ key → ⊥) → (asks : Told)
    → SumsBlock key found wrong asks → SumsBlock key found (or_node wrong node) (asks ++ (node, heard) ∷ [])
gave_wrong key found wrong node heard bytes none e bad asks sums =
    let now : SumsBlock key None wrong asks = subst (λ f. SumsBlock key f wrong asks) none sums in
    let more : given block_in (asks ++ (node, heard) ∷ []) ≡ given block_in asks ++ (node, bytes) ∷ [] = given_some block_in asks node heard bytes e in
    subst (λ f. SumsBlock key f (or_node wrong node) (asks ++ (node, heard) ∷ [])) (sym none) (
      (λ h. by_place now.0 h.0 h.1.0 (among-cases (h.1.0, h.0) (given block_in asks) ((node, bytes) ∷ []) (subst (λ l. IsAmong {X = Peer × List ℕ} (h.1.0, h.0) l) more h.1.1)) h.1.2),
      giver_more (given block_in asks) wrong node bytes now.1 ∙ ap (λ l. first (nodes l)) (sym more),
    )
  where
    by_place : (HasBlock block_in key asks → ⊥) → (b : List ℕ) (p : Peer) → IsAmong {X = Peer × List ℕ} (p, b) (given block_in asks) ⊎ IsAmong {X = Peer × List ℕ} (p, b) ((node, bytes) ∷ []) → name b ≡ key → ⊥
    by_place before b p (inl h) right = before (b, (p, h, right))
    by_place before b p (inr (inl same)) right = bad (ap (λ s. name s.1) same ∙ right)
    by_place before b p (inr (inr h)) right = h

pub block_heard_route : (old new : ExecutionState) (found : Option (List ℕ)) (wrong : Option Peer) (heard : Answer) (counts : Bool) → Hears old new heard counts None
    → BlockHasHeard (record { execution = old; found = found; wrong = wrong }) (record { execution = new; found = found; wrong = wrong }) heard
block_heard_route old new found wrong heard counts hears = (
  (hears.3.key, hears.2),
  λ entries trail node q w h.
      hears_route (λ key. ask.Get key) is_of_get IsEnoughBlock (λ key. SumsBlock key found wrong) entries trail old new node q heard counts hears (not_found found old (node, q) w).1 h,
)

takes_sums : (key : Key) (old new : BlockState) (owner : Peer) (heard : Answer) → old.found ≡ None → (given : Option (List ℕ)) → block_in heard ≡ given → BlockTakes key old new owner given → (asks : Told)
    → SumsBlock key old.found old.wrong asks → SumsBlock key new.found new.wrong (asks ++ (owner, heard) ∷ [])
takes_sums key old new owner heard none None e t asks sums =
    subst (λ f. SumsBlock key f new.wrong (asks ++ (owner, heard) ∷ [])) (sym t.0) (subst (λ p. SumsBlock key old.found p (asks ++ (owner, heard) ∷ [])) (sym t.1)
    (gave_nothing key old.found old.wrong owner heard none e asks sums))
takes_sums key old new owner heard none (Some bytes) e (inl right) asks sums = subst (λ f. SumsBlock key f new.wrong (asks ++ (owner, heard) ∷ [])) (sym right.1) (gave_right key new.wrong owner heard bytes e right.0 asks)
takes_sums key old new owner heard none (Some bytes) e (inr bad) asks sums =
    subst (λ f. SumsBlock key f new.wrong (asks ++ (owner, heard) ∷ [])) (sym bad.1) (subst (λ p. SumsBlock key old.found p (asks ++ (owner, heard) ∷ [])) (sym bad.2)
    (gave_wrong key old.found old.wrong owner heard bytes none e bad.0 asks sums))

pub block_heard_owner : (old new : ExecutionState) (found : Option (List ℕ)) (wrong : Option Peer) (last : BlockState) (owner : Peer) (heard answer : Answer) (counts : Bool) → Hears old new heard counts (Some (owner, answer)) → counts ≡ is_of_get heard
    → last.execution ≡ new → BlockTakes new.look.key (record { execution = new; found = found; wrong = wrong }) last owner (block_in answer)
    → BlockHasHeard (record { execution = old; found = found; wrong = wrong }) last heard
block_heard_owner old new found wrong last owner heard answer counts hears count same takes = (
  (ap (λ c. c.look.key) same ∙ ap (λ s. s.key) hears.1.look, ap (λ c. c.replicas) same ∙ hears.1.replicas),
  λ entries trail node q w h.
      let none : (found ≡ None) × (awaited (ask.Get old.look.key) old ≡ Some (node, q)) = not_found found old (node, q) w in
      let before : BlockState = record { execution = new; found = found; wrong = wrong } in
      let takes : BlockTakes old.look.key before last owner (block_in heard) =
      subst (λ k. BlockTakes k before last owner (block_in heard)) (ap (λ s. s.key) hears.1.look) (subst (λ a. BlockTakes new.look.key before last owner (block_in a)) hears.0 takes) in
      subst (λ c. IsBehind (λ key. ask.Get key) is_of_get IsEnoughBlock (λ key. SumsBlock key last.found last.wrong) entries (trail ++ told node q heard) c.look.key c.replicas c.look c.asking) (sym same)
      (hears_owner (λ key. ask.Get key) is_of_get IsEnoughBlock (λ key. SumsBlock key found wrong) entries (λ key. SumsBlock key last.found last.wrong) trail old new node owner q heard counts hears.1 none.1 count
      (goes_on old.look.key old.replicas found wrong none.0) (takes_sums old.look.key before last owner heard none.0 (block_in heard) refl takes) h),
)

-- the block was given, and is the result
pub block_right : (c : ExecutionState) (bytes : List ℕ) (wrong : Option Peer) (entries : List Peer) (trail : List Heard) → BlockIsAfter entries trail (record { execution = c; found = Some bytes; wrong = wrong }) → IsGetOfBlock c.look.key c.replicas entries trail (Ok bytes)
block_right c bytes wrong entries trail h = by_stage c.asking h
  where
    by_stage : (asking : Option Asking) → IsBehind (λ key. ask.Get key) is_of_get IsEnoughBlock (λ key. SumsBlock key (Some bytes) wrong) entries trail c.look.key c.replicas c.look asking → IsGetOfBlock c.look.key c.replicas entries trail (Ok bytes)
    by_stage None h = absurd (subst (λ l. IsGiven block_in c.look.key l bytes) h.stage.0 h.sums).1
    by_stage (Some a) h =
        of_owners h.looks h.asks h.stage.found h.stage.owners h.told h.stage.looked h.stage.some
        (Right bytes, record { asks = (asks_made (λ key. ask.Get key) is_of_get IsEnoughBlock (λ key. SumsBlock key (Some bytes) wrong) entries c.look.key c.replicas h.looks h.asks a h.stage (inl (inr (bytes, h.sums)))).0; ends = h.sums }, refl)

lost : (key : Key) (r : ℕ) (owners : List Peer) (asks : Told) (asked : List Peer) → asked ≡ nodes asks → (HasBlock block_in key asks → ⊥) → (wrong : Option Peer) → wrong ≡ first_giver block_in asks → AreAsks owners (IsEnoughBlock key r) asks
    → (got : Got Peer (List ℕ)) × IsBlockGet is_of_get block_in key r owners asks got × (Err (miss_of key asked wrong) ≡ result_of {B = List ℕ} key got)
lost key r owners asks asked e none None w made = (Missing asked, record { asks = made; ends = (none, sym w, e) }, refl)
lost key r owners asks asked e none (Some node) w made = (Damaged node, record { asks = made; ends = (none, sym w) }, refl)

pub wants_route : (old new : ExecutionState) (found found2 : Option (List ℕ)) (wrong : Option Peer) (node : Peer) (key : Key) → found ≡ None → found2 ≡ None → key ≡ new.look.key → Goes old new (step.Route node)
    → BlockIsWanted (record { execution = old; found = found; wrong = wrong }) (record { execution = new; found = found2; wrong = wrong }) (want.Ask node (ask.Route key))
wants_route old new found found2 wrong node key e e2 k l = (
  (l.key, l.replicas),
  subst (λ f. block_awaited_at f new ≡ Some (node, ask.Route key)) (sym e2) (route_awaited (λ key. ask.Get key) is_of_get IsEnoughBlock (λ key. SumsBlock key found wrong) [] old new node key k l),
  λ entries trail h. subst (λ f. BlockIsAfter entries trail (record { execution = new; found = f; wrong = wrong })) (e ∙ sym e2)
      (looks_on (λ key. ask.Get key) is_of_get IsEnoughBlock (λ key. SumsBlock key found wrong) entries trail old new node l h),
)

pub wants_owner : (old new : ExecutionState) (found found2 : Option (List ℕ)) (wrong : Option Peer) (node : Peer) (key : Key) → found ≡ None → found2 ≡ None → key ≡ new.look.key → Goes old new (step.Owner node)
    → BlockIsWanted (record { execution = old; found = found; wrong = wrong }) (record { execution = new; found = found2; wrong = wrong }) (want.Ask node (ask.Get key))
wants_owner old new found found2 wrong node key e e2 k g = (
  (g.1.key, g.1.replicas),
  subst (λ f. block_awaited_at f new ≡ Some (node, ask.Get key)) (sym e2) (owner_awaited (λ key. ask.Get key) is_of_get IsEnoughBlock (λ key. SumsBlock key found wrong) [] old new node key k g),
  λ entries trail h. subst (λ f. BlockIsAfter entries trail (record { execution = new; found = f; wrong = wrong })) (e ∙ sym e2)
      (owner_on (λ key. ask.Get key) is_of_get IsEnoughBlock (λ key. SumsBlock key found wrong) entries trail old new node g h),
)

pub wants_nothing : (old new : ExecutionState) (found : Option (List ℕ)) (wrong : Option Peer) (last : BlockState) (key : Key) → key ≡ new.look.key → Goes old new step.NoRoute
    → BlockIsWanted (record { execution = old; found = found; wrong = wrong }) last (want.Done (Err (miss.NoRoute key)))
wants_nothing old new found wrong last key k g = λ entries trail h.
    subst (λ k. IsGetOfBlock old.look.key old.replicas entries trail (Err (miss.NoRoute k))) (sym (k ∙ g.4))
    (no_route_at (λ key. ask.Get key) is_of_get IsEnoughBlock (λ key. SumsBlock key found wrong) entries (EndsGet old.look.key old.replicas) trail old g.1 g.0 g.2 g.3 h)

pub wants_over : (old new : ExecutionState) (found : Option (List ℕ)) (wrong : Option Peer) (last : BlockState) (given : Miss) → found ≡ None → given ≡ miss_of new.look.key (asked_of new.asking) wrong → Goes old new step.Over
    → BlockIsWanted (record { execution = old; found = found; wrong = wrong }) last (want.Done (Err given))
wants_over old new found wrong last given e m g = λ entries trail h.
    subst (λ m. IsGetOfBlock old.look.key old.replicas entries trail (Err m)) (sym m)
    (subst (λ key. IsGetOfBlock old.look.key old.replicas entries trail (Err (miss_of key (asked_of new.asking) wrong))) (sym g.1.key)
    (over_ends (λ key. ask.Get key) is_of_get IsEnoughBlock (λ key. SumsBlock key None wrong) entries (EndsGet old.look.key old.replicas) trail old new (Err (miss_of old.look.key (asked_of new.asking) wrong)) g (λ asks few. inl few)
    (λ a owners asks made is once asked sums. lost old.look.key old.replicas owners asks (asked_of new.asking) (ap (λ o. asked_of o) is ∙ asked) sums.0 wrong sums.1 made)
    (subst (λ f. BlockIsAfter entries trail (record { execution = old; found = f; wrong = wrong })) e h)))

pub wants_bytes : (old : ExecutionState) (found : Option (List ℕ)) (wrong : Option Peer) (last : BlockState) (bytes : List ℕ) → found ≡ Some bytes → BlockIsWanted (record { execution = old; found = found; wrong = wrong }) last (want.Done (Ok bytes))
wants_bytes old found wrong last bytes e = λ entries trail h. block_right old bytes wrong entries trail (subst (λ f. BlockIsAfter entries trail (record { execution = old; found = f; wrong = wrong })) e h)
