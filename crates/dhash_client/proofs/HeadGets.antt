-- The steps of a get of a log's head.
use Rattle.std.proofs.Common.{◌≡◌, ℕ, Bool, List, [], ◌∷◌, ◌++◌, filter_map, Option, Some, None, Result, Err, refl, ap, sym, ◌∙◌, subst, arith}
use Rattle.std.specs.List.{cons_option}
use Rattle.std.proofs.lemmas.List.{append-nil}
use Rattle.std.proofs.lemmas.List.Elements.{filter_map-append}
use Rattle.ivy_base.specs.declared.key.Key.{Key}
use Rattle.dht_ids.specs.Asked.{told}
use Rattle.dht_ids.specs.declared.ask.Answer.{Answer}
use Rattle.dht_ids.specs.declared.ask.Ask.TheVariants as ask
use Rattle.dht_ids.specs.declared.ask.Want.TheVariants as want
use Rattle.dht_ids.specs.declared.judge.Judged.{Judged}
use Rattle.dht_ids.specs.declared.peer.Peer.{Peer}
use Rattle.ring_model.specs.Members.{first}
use Rattle.ring_model.specs.Gets.{Right, Damaged, Missing, AreAsks, nodes, given, judged}
use Rattle.ring_model.proofs.Gets.{given_none, given_some}
use Rattle.ring_model.proofs.Lists.{nil_cons}
use Rattle.dhash_client.specs.Execution.{ExecutionState, asked_of, IsBehind, Hears, Goes}
use Rattle.dhash_client.specs.GetHead.{Judges, HeadState, IsEnoughHead, SumsHead, HeadIsWanted, HeadHasHeard, TakesJudged, HeadTakes, heads_result}
use Rattle.dhash_client.specs.declared.execution.Step.TheVariants as step
use Rattle.dhash_model.specs.declared.miss.Miss.TheVariants as miss
use Rattle.dhash_model.specs.Execution.{Told}
use Rattle.dhash_model.specs.GetBlock.{is_of_get, block_in}
use Rattle.dhash_model.specs.GetHead.{EndsHeadGet, IsGetOfHead}
use Rattle.dhash_model.specs.declared.miss.Miss.{Miss}
use Rattle.dhash_client.proofs.BlockGets.{giver_more}
use Rattle.dhash_client.proofs.Executions.{looks_on, hears_route, hears_owner, no_route_at, route_awaited, owner_awaited, owner_on, over_ends}

-- what the judge says after one more block
judged_more : (judge : List ℕ → Option Judged) (asks : Told) (node : Peer) (heard : Answer) (bytes : List ℕ) → block_in heard ≡ Some bytes
    → judged block_in judge (asks ++ (node, heard) ∷ []) ≡ judged block_in judge asks ++ cons_option (judge bytes) []
judged_more judge asks node heard bytes e = ap (λ l. filter_map (λ b. judge b.1) l) (given_some block_in asks node heard bytes e) ∙ filter_map-append (λ b. judge b.1) (given block_in asks) ((node, bytes) ∷ [])

not_empty : (heads : List Judged) (head : Judged) → heads ++ head ∷ [] ≡ [] → ⊥
not_empty [] head e = nil_cons head [] (sym e)
not_empty (h ∷ heads) head e = nil_cons h (heads ++ head ∷ []) (sym e)

takes_judged : {J : Type 0} (judges : Judges J) (key : Key) (old new : HeadState J) (owner : Peer) (heard : Answer) (bytes : List ℕ) → block_in heard ≡ Some bytes → (said : Option Judged) → judges old.judge key bytes ≡ said
    → TakesJudged old new owner said → (asks : Told) → SumsHead (judges old.judge key) old.heads old.wrong asks → SumsHead (judges old.judge key) new.heads new.wrong (asks ++ (owner, heard) ∷ [])
takes_judged judges key old new owner heard bytes e None said t asks sums = (
  t.0 ∙ sums.0 ∙ sym (judged_more (judges old.judge key) asks owner heard bytes e ∙ ap (λ o. judged block_in (judges old.judge key) asks ++ cons_option o []) said ∙ append-nil (judged block_in (judges old.judge key) asks)),
  λ none. t.1 ∙ giver_more (given block_in asks) old.wrong owner bytes (sums.1 (sym t.0 ∙ none)) ∙ ap (λ l. first (nodes l)) (sym (given_some block_in asks owner heard bytes e)),
)
takes_judged judges key old new owner heard bytes e (Some head) said t asks sums = (
  t ∙ ap (λ l. l ++ head ∷ []) sums.0 ∙ sym (judged_more (judges old.judge key) asks owner heard bytes e ∙ ap (λ o. judged block_in (judges old.judge key) asks ++ cons_option o []) said),
  λ none. absurd (not_empty old.heads head (sym t ∙ none)),
)

takes_sums : {J : Type 0} (judges : Judges J) (key : Key) (old new : HeadState J) (owner : Peer) (heard : Answer) (gave : Option (List ℕ)) → block_in heard ≡ gave → HeadTakes judges key old new owner gave
    → (asks : Told) → SumsHead (judges old.judge key) old.heads old.wrong asks → SumsHead (judges old.judge key) new.heads new.wrong (asks ++ (owner, heard) ∷ [])
takes_sums judges key old new owner heard None e t asks sums =
    let same : given block_in (asks ++ (owner, heard) ∷ []) ≡ given block_in asks = given_none block_in asks owner heard e in
    (t.0 ∙ sums.0 ∙ ap (λ l. filter_map (λ b. judges old.judge key b.1) l) (sym same), λ none. t.1 ∙ sums.1 (sym t.0 ∙ none) ∙ ap (λ l. first (nodes l)) (sym same))
takes_sums judges key old new owner heard (Some bytes) e t asks sums = takes_judged judges key old new owner heard bytes e (judges old.judge key bytes) refl t asks sums

pub head_heard_route : {J : Type 0} (judges : Judges J) (old new : ExecutionState) (judge : J) (heads : List Judged) (wrong : Option Peer) (heard : Answer) (counts : Bool) → Hears old new heard counts None
    → HeadHasHeard judges (record { execution = old; judge = judge; heads = heads; wrong = wrong }) (record { execution = new; judge = judge; heads = heads; wrong = wrong }) heard
head_heard_route judges old new judge heads wrong heard counts hears = (
  ((hears.3.key, hears.2), refl),
  λ entries trail node q w h.
      hears_route (λ key. ask.Get key) is_of_get IsEnoughHead (λ key. SumsHead (judges judge key) heads wrong) entries trail old new node q heard counts hears w h,
)

pub head_heard_owner : {J : Type 0} (judges : Judges J) (old new : ExecutionState) (judge : J) (heads : List Judged) (wrong : Option Peer) (last : HeadState J) (owner : Peer) (heard answer : Answer) (counts : Bool)
    → Hears old new heard counts (Some (owner, answer)) → counts ≡ is_of_get heard → last.execution ≡ new → last.judge ≡ judge → HeadTakes judges new.look.key (record { execution = new; judge = judge; heads = heads; wrong = wrong }) last owner (block_in answer)
    → HeadHasHeard judges (record { execution = old; judge = judge; heads = heads; wrong = wrong }) last heard
head_heard_owner {J = J} judges old new judge heads wrong last owner heard answer counts hears count same same_judge takes = (
  ((ap (λ c. c.look.key) same ∙ ap (λ s. s.key) hears.1.look, ap (λ c. c.replicas) same ∙ hears.1.replicas), same_judge),
  λ entries trail node q w h.
      let before : HeadState J = record { execution = new; judge = judge; heads = heads; wrong = wrong } in
      let takes : HeadTakes judges old.look.key before last owner (block_in heard) =
      subst (λ k. HeadTakes judges k before last owner (block_in heard)) (ap (λ s. s.key) hears.1.look) (subst (λ a. HeadTakes judges new.look.key before last owner (block_in a)) hears.0 takes) in
      subst (λ c. IsBehind (λ key. ask.Get key) is_of_get IsEnoughHead (λ key. SumsHead (judges last.judge key) last.heads last.wrong) entries (trail ++ told node q heard) c.look.key c.replicas c.look c.asking) (sym same)
      (subst (λ j. IsBehind (λ key. ask.Get key) is_of_get IsEnoughHead (λ key. SumsHead (judges j key) last.heads last.wrong) entries (trail ++ told node q heard) new.look.key new.replicas new.look new.asking) (sym same_judge)
      (hears_owner (λ key. ask.Get key) is_of_get IsEnoughHead (λ key. SumsHead (judges judge key) heads wrong) entries (λ key. SumsHead (judges judge key) last.heads last.wrong) trail old new node owner q heard counts hears.1 w count
      (λ asks few sums e. absurd (omega (arith, few, e))) (takes_sums judges old.look.key before last owner heard (block_in heard) refl takes) h)),
)

pub head_wants_route : {J : Type 0} (judges : Judges J) (old new : ExecutionState) (judge : J) (heads : List Judged) (wrong : Option Peer) (node : Peer) (key : Key) → key ≡ new.look.key → Goes old new (step.Route node)
    → HeadIsWanted judges (record { execution = old; judge = judge; heads = heads; wrong = wrong }) (record { execution = new; judge = judge; heads = heads; wrong = wrong }) (want.Ask node (ask.Route key))
head_wants_route judges old new judge heads wrong node key k l = (
  ((l.key, l.replicas), refl),
  route_awaited (λ key. ask.Get key) is_of_get IsEnoughHead (λ key. SumsHead (judges judge key) heads wrong) [] old new node key k l,
  λ entries trail h. looks_on (λ key. ask.Get key) is_of_get IsEnoughHead (λ key. SumsHead (judges judge key) heads wrong) entries trail old new node l h,
)

pub head_wants_owner : {J : Type 0} (judges : Judges J) (old new : ExecutionState) (judge : J) (heads : List Judged) (wrong : Option Peer) (node : Peer) (key : Key) → key ≡ new.look.key → Goes old new (step.Owner node)
    → HeadIsWanted judges (record { execution = old; judge = judge; heads = heads; wrong = wrong }) (record { execution = new; judge = judge; heads = heads; wrong = wrong }) (want.Ask node (ask.Get key))
head_wants_owner judges old new judge heads wrong node key k g = (
  ((g.1.key, g.1.replicas), refl),
  owner_awaited (λ key. ask.Get key) is_of_get IsEnoughHead (λ key. SumsHead (judges judge key) heads wrong) [] old new node key k g,
  λ entries trail h. owner_on (λ key. ask.Get key) is_of_get IsEnoughHead (λ key. SumsHead (judges judge key) heads wrong) entries trail old new node g h,
)

pub head_wants_nothing : {J : Type 0} (judges : Judges J) (old new : ExecutionState) (judge : J) (heads : List Judged) (wrong : Option Peer) (last : HeadState J) (key : Key) → key ≡ new.look.key → Goes old new step.NoRoute
    → HeadIsWanted judges (record { execution = old; judge = judge; heads = heads; wrong = wrong }) last (want.Done (Err (miss.NoRoute key)))
head_wants_nothing judges old new judge heads wrong last key k g = λ entries trail h.
    subst (λ k. IsGetOfHead (judges judge old.look.key) old.look.key old.replicas entries trail (Err (miss.NoRoute k))) (sym (k ∙ g.4))
    (no_route_at (λ key. ask.Get key) is_of_get IsEnoughHead (λ key. SumsHead (judges judge key) heads wrong) entries (EndsHeadGet (judges judge old.look.key) old.look.key old.replicas) trail old g.1 g.0 g.2 g.3 h)

heads_end : (judge : List ℕ → Option Judged) (key : Key) (r : ℕ) (owners : List Peer) (asks : Told) (asked : List Peer) (heads : List Judged) (wrong : Option Peer) → asked ≡ nodes asks → SumsHead judge heads wrong asks → AreAsks owners (IsEnoughHead key r) asks
    → EndsHeadGet judge key r owners asks (heads_result key asked heads wrong)
heads_end judge key r owners asks asked [] None e sums made = (Missing asked, record { asks = made; ends = (sym sums.0, sym (sums.1 refl), e) }, refl)
heads_end judge key r owners asks asked [] (Some node) e sums made = (Damaged node, record { asks = made; ends = (sym sums.0, sym (sums.1 refl)) }, refl)
heads_end judge key r owners asks asked (head ∷ heads) wrong e sums made = (Right (head ∷ heads), record { asks = made; ends = ((λ none. nil_cons head heads (sym none)), sums.0) }, refl)

pub head_wants_over : {J : Type 0} (judges : Judges J) (old new : ExecutionState) (judge : J) (heads : List Judged) (wrong : Option Peer) (last : HeadState J) (given : Result (List Judged) Miss) → given ≡ heads_result new.look.key (asked_of new.asking) heads wrong
    → Goes old new step.Over → HeadIsWanted judges (record { execution = old; judge = judge; heads = heads; wrong = wrong }) last (want.Done given)
head_wants_over judges old new judge heads wrong last given m g = λ entries trail h.
    subst (λ m. IsGetOfHead (judges judge old.look.key) old.look.key old.replicas entries trail m) (sym m)
    (subst (λ key. IsGetOfHead (judges judge old.look.key) old.look.key old.replicas entries trail (heads_result key (asked_of new.asking) heads wrong)) (sym g.1.key)
    (over_ends (λ key. ask.Get key) is_of_get IsEnoughHead (λ key. SumsHead (judges judge key) heads wrong) entries (EndsHeadGet (judges judge old.look.key) old.look.key old.replicas) trail old new (heads_result old.look.key (asked_of new.asking) heads wrong) g (λ asks few. few)
    (λ a owners asks made is once asked sums. heads_end (judges judge old.look.key) old.look.key old.replicas owners asks (asked_of new.asking) heads wrong (ap (λ o. asked_of o) is ∙ asked) sums made) h))
