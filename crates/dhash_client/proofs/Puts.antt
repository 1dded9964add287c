-- The steps of a put.
use Rattle.std.proofs.Common.{◌≡◌, ℕ, ◌+◌, ◌-◌, ◌^◌, ◌<◌, ◌≤◌, min, Bool, true, false, if◌then◌else◌, MatchBool, List, [], ◌∷◌, ◌++◌, length, Some, None, Ok, Err, refl, ap, sym, ◌∙◌, subst, inl, inr, ◌⊎◌, arith, length-append}
use Rattle.std.proofs.lemmas.List.{append-nil}
use Rattle.ivy_base.specs.declared.key.Key.{Key}
use Rattle.dht_ids.specs.Asked.{told}
use Rattle.dht_ids.specs.declared.ask.Answer.{Answer}
use Rattle.dht_ids.specs.declared.ask.Ask.{Ask}
use Rattle.dht_ids.specs.declared.ask.Ask.TheVariants as ask
use Rattle.dht_ids.specs.declared.ask.Want.TheVariants as want
use Rattle.dht_ids.specs.declared.peer.Peer.{Peer}
use Rattle.ring_model.specs.Gets.{AreAsks, IsAcknowledged, nodes, answered_in}
use Rattle.ring_model.proofs.Gets.{answered_more}
use Rattle.dhash_client.specs.Execution.{Asking, ExecutionState, IsBehind, Hears, Goes, IsThrough, AreHolders}
use Rattle.dhash_client.specs.Puts.{question_of, IsPutOf, PutState, IsEnoughPut, SumsPut, PutIsWanted, PutHasHeard, one_more}
use Rattle.dhash_client.specs.declared.put.PutKind.{PutKind}
use Rattle.dhash_client.specs.declared.execution.Step.TheVariants as step
use Rattle.dhash_model.specs.declared.miss.Miss.TheVariants as miss
use Rattle.dhash_model.specs.Execution.{Told}
use Rattle.dhash_model.specs.Puts.{is_of_put, holds, EndsPut}
use Rattle.dhash_client.proofs.Executions.{looks_on, hears_route, hears_owner, no_route_at, route_awaited, owner_awaited, owner_on, over_ends}

takes_sums : (holders holders2 : ℕ) (owner : Peer) (heard : Answer) → holders2 ≡ one_more (holds heard) holders → (asks : Told) → SumsPut holders asks → SumsPut holders2 (asks ++ (owner, heard) ∷ [])
takes_sums holders holders2 owner heard e asks sums = e ∙ by_test (holds heard) ∙ ap (λ n. min n (2 ^ 32 - 1)) (sym (answered_more holds asks owner heard))
  where
    by_test : (b : Bool) → one_more b holders ≡ min (answered_in holds asks + (if b then 1 else 0)) (2 ^ 32 - 1)
    by_test true = omega (arith, sums)
    by_test false = omega (arith, sums)

pub put_heard_route : (old new : ExecutionState) (what : PutKind) (bytes : List ℕ) (holders : ℕ) (heard : Answer) (counts : Bool) → Hears old new heard counts None
    → PutHasHeard (record { what = what; execution = old; bytes = bytes; holders = holders }) (record { what = what; execution = new; bytes = bytes; holders = holders }) heard
put_heard_route old new what bytes holders heard counts hears = (
  ((hears.3.key, hears.2), refl, refl),
  λ entries trail node q w h.
      hears_route (question_of what bytes) is_of_put IsEnoughPut (λ key. SumsPut holders) entries trail old new node q heard counts hears w h,
)

pub put_heard_owner : (old new : ExecutionState) (what : PutKind) (bytes : List ℕ) (holders : ℕ) (last : PutState) (owner : Peer) (heard answer : Answer) (counts : Bool) → Hears old new heard counts (Some (owner, answer)) → counts ≡ is_of_put heard
    → last.execution ≡ new → last.what ≡ what → last.bytes ≡ bytes → last.holders ≡ one_more (holds answer) holders
    → PutHasHeard (record { what = what; execution = old; bytes = bytes; holders = holders }) last heard
put_heard_owner old new what bytes holders last owner heard answer counts hears count same same_what same_bytes takes = (
  ((ap (λ c. c.look.key) same ∙ ap (λ s. s.key) hears.1.look, ap (λ c. c.replicas) same ∙ hears.1.replicas), same_what, same_bytes),
  λ entries trail node q w h.
      subst (λ c. IsBehind (question_of last.what last.bytes) is_of_put IsEnoughPut (λ key. SumsPut last.holders) entries (trail ++ told node q heard) c.look.key c.replicas c.look c.asking) (sym same)
      (subst (λ k. IsBehind (question_of k last.bytes) is_of_put IsEnoughPut (λ key. SumsPut last.holders) entries (trail ++ told node q heard) new.look.key new.replicas new.look new.asking) (sym same_what)
      (subst (λ b. IsBehind (question_of what b) is_of_put IsEnoughPut (λ key. SumsPut last.holders) entries (trail ++ told node q heard) new.look.key new.replicas new.look new.asking) (sym same_bytes)
      (hears_owner (question_of what bytes) is_of_put IsEnoughPut (λ key. SumsPut holders) entries (λ key. SumsPut last.holders) trail old new node owner q heard counts hears.1 w count
      (λ asks few sums e. absurd (omega (arith, few, e))) (takes_sums holders last.holders owner heard (takes ∙ ap (λ a. one_more (holds a) holders) hears.0)) h))),
)

pub put_wants_route : (old new : ExecutionState) (what : PutKind) (bytes : List ℕ) (holders : ℕ) (node : Peer) (key : Key) → key ≡ new.look.key → Goes old new (step.Route node)
    → PutIsWanted (record { what = what; execution = old; bytes = bytes; holders = holders }) (record { what = what; execution = new; bytes = bytes; holders = holders }) (want.Ask node (ask.Route key))
put_wants_route old new what bytes holders node key k l = (
  ((l.key, l.replicas), refl, refl),
  route_awaited (question_of what bytes) is_of_put IsEnoughPut (λ key. SumsPut holders) [] old new node key k l,
  λ entries trail h. looks_on (question_of what bytes) is_of_put IsEnoughPut (λ key. SumsPut holders) entries trail old new node l h,
)

pub put_wants_owner : (old new : ExecutionState) (what : PutKind) (bytes : List ℕ) (holders : ℕ) (node : Peer) (key : Key) (asked : Ask) → key ≡ new.look.key → asked ≡ question_of what bytes key → Goes old new (step.Owner node)
    → PutIsWanted (record { what = what; execution = old; bytes = bytes; holders = holders }) (record { what = what; execution = new; bytes = bytes; holders = holders }) (want.Ask node asked)
put_wants_owner old new what bytes holders node key asked k q g = (
  ((g.1.key, g.1.replicas), refl, refl),
  owner_awaited (question_of what bytes) is_of_put IsEnoughPut (λ key. SumsPut holders) [] old new node key k g ∙ ap (λ a. Some (node, a)) (sym q),
  λ entries trail h. owner_on (question_of what bytes) is_of_put IsEnoughPut (λ key. SumsPut holders) entries trail old new node g h,
)

pub put_wants_nothing : (old new : ExecutionState) (what : PutKind) (bytes : List ℕ) (holders : ℕ) (last : PutState) (key : Key) → key ≡ new.look.key → Goes old new step.NoRoute
    → PutIsWanted (record { what = what; execution = old; bytes = bytes; holders = holders }) last (want.Done (Err (miss.NoRoute key)))
put_wants_nothing old new what bytes holders last key k g = λ entries trail h.
    subst (λ k. IsPutOf what bytes old.look.key old.replicas entries trail (Err (miss.NoRoute k))) (sym (k ∙ g.4))
    (no_route_at (question_of what bytes) is_of_put IsEnoughPut (λ key. SumsPut holders) entries (EndsPut old.replicas) trail old g.1 g.0 g.2 g.3 h)

nothing_more : (l m : List Peer) → l ≡ l ++ m → m ≡ []
nothing_more l [] e = refl
nothing_more l (p ∷ m) e = absurd (omega (arith, ap (λ x. length x) e, length-append l (p ∷ m)))

-- what the machine counted decides as the definition does
put_end : (r : ℕ) (owners : List Peer) (asks : Told) (a : Asking) (holders : ℕ) (b : Bool) → r < 2 ^ 32 → (made : AreAsks owners (λ t. r ≤ answered_in is_of_put t) asks) → made.once ≡ a.asked ++ a.rest → a.asked ≡ nodes asks → SumsPut holders asks
    → MatchBool b ((r ≤ holders) ⊎ ((1 ≤ holders) × (a.rest ≡ []))) ((r ≤ holders) ⊎ ((1 ≤ holders) × (a.rest ≡ [])) → ⊥) → EndsPut r owners asks (Ok b)
put_end r owners asks a holders b word made once asked sums acks = (b, record { asks = made; ends = by_test b acks }, refl)
  where
    given : (r ≤ holders) ⊎ ((1 ≤ holders) × (a.rest ≡ [])) → IsAcknowledged holds r made.once asks
    given (inl h) = inl (omega (arith, h, sums))
    given (inr h) = inr (sym asked ∙ sym (once ∙ ap (λ l. a.asked ++ l) h.1 ∙ append-nil a.asked), omega (arith, h.0, sums))

    taken : IsAcknowledged holds r made.once asks → (r ≤ holders) ⊎ ((1 ≤ holders) × (a.rest ≡ []))
    taken (inl h) = inl (omega (arith, h, sums, word))
    taken (inr h) = inr (omega (arith, h.1, sums), nothing_more a.asked a.rest (asked ∙ h.0 ∙ once))

    by_test : (b : Bool) → MatchBool b ((r ≤ holders) ⊎ ((1 ≤ holders) × (a.rest ≡ []))) ((r ≤ holders) ⊎ ((1 ≤ holders) × (a.rest ≡ [])) → ⊥) → MatchBool b (IsAcknowledged holds r made.once asks) (IsAcknowledged holds r made.once asks → ⊥)
    by_test true h = given h
    by_test false h = λ t. h (taken t)

pub put_wants_over : (old new : ExecutionState) (what : PutKind) (bytes : List ℕ) (holders : ℕ) (last : PutState) (b : Bool) → new.replicas < 2 ^ 32 → MatchBool b (AreHolders new holders) (AreHolders new holders → ⊥) → Goes old new step.Over
    → PutIsWanted (record { what = what; execution = old; bytes = bytes; holders = holders }) last (want.Done (Ok b))
put_wants_over old new what bytes holders last b word acks g = λ entries trail h.
    over_ends (question_of what bytes) is_of_put IsEnoughPut (λ key. SumsPut holders) entries (EndsPut old.replicas) trail old new (Ok b) g (λ asks few. few)
    (λ a owners asks made is once asked sums. put_end old.replicas owners asks a holders b (subst (λ r. r < 2 ^ 32) g.1.replicas word) made once asked sums
    (subst (λ r. MatchBool b ((r ≤ holders) ⊎ ((1 ≤ holders) × (a.rest ≡ []))) ((r ≤ holders) ⊎ ((1 ≤ holders) × (a.rest ≡ [])) → ⊥)) g.1.replicas
    (subst (λ o. MatchBool b ((new.replicas ≤ holders) ⊎ ((1 ≤ holders) × IsThrough o)) ((new.replicas ≤ holders) ⊎ ((1 ≤ holders) × IsThrough o) → ⊥)) is acks))) h
