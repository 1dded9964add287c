-- A get that is over is a whole one; and how it goes from one ask to the next.
use Rattle.std.proofs.Common.{◌≡◌, ℕ, ◌<◌, ◌≤◌, List, [], ◌++◌, Option, Some, None, Result, Ok, Err, IfOk, refl, sym, ap, ◌∙◌, subst, arith}
use Rattle.std.specs.Option.{option_map}
use Rattle.ivy_base.specs.declared.key.Key.{Key}
use Rattle.ivy_base.specs.declared.key.PubKey.{PubKey}
use Rattle.ivy_base.specs.declared.memory.Memory.{Memory}
use Rattle.ivy_base.specs.Naming.{head_key_of}
use Rattle.ring_model.proofs.Lists.{some_same, none_some}
use Rattle.dht_ids.specs.Asked.{told}
use Rattle.dht_ids.specs.declared.ask.Answer.{Answer}
use Rattle.dht_ids.specs.declared.ask.Ask.{Ask}
use Rattle.dht_ids.specs.declared.ask.Ask.TheVariants as ask
use Rattle.dht_ids.specs.declared.ask.Heard.{Heard}
use Rattle.dht_ids.specs.declared.ask.Want.{Want}
use Rattle.dht_ids.specs.declared.ask.Want.TheVariants as want
use Rattle.dht_ids.specs.declared.judge.Judged.{Judged}
use Rattle.dht_ids.specs.declared.peer.Peer.{Peer}
use Rattle.dhash_model.specs.declared.miss.Miss.{Miss}
use Rattle.dhash_model.specs.GetHead.{IsGetOfHead}
use Rattle.dhash_client.specs.Execution.{Asking, ExecutionState, next_owner, awaited_at}
use Rattle.dhash_client.specs.GetBlock.{BlockState, BlockIsWanted, block_begun, block_awaited_at}
use Rattle.dhash_client.specs.GetHead.{HeadState, Judges, HeadIsWanted, head_begun}
use Rattle.dhash_client.proofs.DrivenGets.{block_begins, head_begins}
use Rattle.session_model.specs.Brought.{HeadsOf, BlockOf, Heads, Content}
use Rattle.session_model.specs.Sessions.{Gets}
use Rattle.session_model.specs.Sessions.Gets.{heads as of_heads, content as of_content}
use Rattle.log_fetch.specs.declared.get.Came.{Came}
use Rattle.log_fetch.specs.declared.get.Came.TheVariants as came
use Rattle.log_fetch.specs.declared.get.Get.{Get}
use Rattle.log_fetch.specs.declared.get.Get.TheVariants as get
use Rattle.log_fetch.specs.declared.get.Progress.{Progress}
use Rattle.log_fetch.specs.declared.get.Progress.TheVariants as progress
use Rattle.log_fetch.specs.Gets.{GetIsAfter, GetIsWanted, GetHasHeard, HasCame, IsSameGet, IsOfKind, IsOfGet, GoesTo, HearsTo, get_awaited, gets_left}

module _ {J : Type 0} (judges : Judges J) where
  pub heads_came : (old : Get J) (owner : PubKey) (s t : HeadState J) (w : Want (Result (List Judged) Miss)) (given : Result (List Judged) Miss) → old ≡ get.Heads owner s → HeadIsWanted judges s t w → w ≡ want.Done given
      → (entries : List Peer) (trail : List Heard) → GetIsAfter judges entries trail old → HasCame judges entries trail old (came.Heads given)
  heads_came old owner s t w given old_is wanted w_is entries trail after =
      let now : GetIsAfter judges entries trail (get.Heads owner s) = subst (GetIsAfter judges entries trail) old_is after in
      let over : HeadIsWanted judges s t (want.Done given) = subst (HeadIsWanted judges s t) w_is wanted in
      subst (λ (o : Get J). HasCame judges entries trail o (came.Heads given)) (sym old_is)
      (of_heads given (subst (λ (k : Key). IsGetOfHead (judges s.judge k) k s.execution.replicas entries trail given) now.1 (over entries trail now.0)))

  pub block_came : (old : Get J) (s t : BlockState) (w : Want (Result (List ℕ) Miss)) (given : Result (List ℕ) Miss) → old ≡ get.Block s → BlockIsWanted s t w → w ≡ want.Done given
      → (entries : List Peer) (trail : List Heard) → GetIsAfter judges entries trail old → HasCame judges entries trail old (came.Block given)
  block_came old s t w given old_is wanted w_is entries trail after =
      let now : GetIsAfter judges entries trail (get.Block s) = subst (GetIsAfter judges entries trail) old_is after in
      let over : BlockIsWanted s t (want.Done given) = subst (BlockIsWanted s t) w_is wanted in
      subst (λ (o : Get J). HasCame judges entries trail o (came.Block given)) (sym old_is) (λ judged. of_content given (over entries trail now))

  -- after no ask it begins
  pub heads_begin : (owner : PubKey) (judge : J) (replicas : ℕ) (entries : List Peer) → GetIsAfter judges entries [] (get.Heads owner (head_begun judge (head_key_of owner) replicas entries))
  heads_begin owner judge replicas entries = (head_begins judges judge (head_key_of owner) replicas entries, refl)

  pub block_begin : (key : Key) (replicas : ℕ) (entries : List Peer) → GetIsAfter judges entries [] (get.Block (block_begun key replicas entries))
  block_begin key replicas entries = block_begins key replicas entries

-- ---- what it asks

of_get_at : (key : Key) (c : ExecutionState) (asking : Option Asking) (node : Peer) (question : Ask) → awaited_at (ask.Get key) c asking ≡ Some (node, question) → IsOfGet question
of_get_at key c None node question e = by c.look.waiting e
  where
    by : (waiting : Option Peer) → option_map {U = Peer × Ask} (λ p. (p, ask.Route c.look.key)) waiting ≡ Some (node, question) → IsOfGet question
    by None e = absurd (none_some (node, question) e)
    by (Some p) e = subst IsOfGet (ap (λ s. s.1) (some_same (p, ask.Route c.look.key) (node, question) e)) tt
of_get_at key c (Some a) node question e = by (next_owner c.replicas a) e
  where
    by : (owner : Option Peer) → option_map {U = Peer × Ask} (λ p. (p, ask.Get key)) owner ≡ Some (node, question) → IsOfGet question
    by None e = absurd (none_some (node, question) e)
    by (Some p) e = subst IsOfGet (ap (λ s. s.1) (some_same (p, ask.Get key) (node, question) e)) tt

block_asks : (found : Option (List ℕ)) (c : ExecutionState) (node : Peer) (question : Ask) → block_awaited_at found c ≡ Some (node, question) → IsOfGet question
block_asks None c node question e = of_get_at c.look.key c c.asking node question e
block_asks (Some bytes) c node question e = absurd (none_some (node, question) e)

pub asks_of_get : {J : Type 0} (x : Get J) (node : Peer) (question : Ask) → get_awaited x ≡ Some (node, question) → IsOfGet question
asks_of_get (get.Heads owner s) node question e = of_get_at s.execution.look.key s.execution s.execution.asking node question e
asks_of_get (get.Block s) node question e = block_asks s.found s.execution node question e

-- ---- from one ask to the next

lower : (a b c : ℕ) → a ≤ b → b < c → a < c
lower a b c h k = omega (arith, h, k)

above : (a b : ℕ) → a < b → 0 < b
above a b h = omega (arith, h)

module _ {J : Type 0} (judges : Judges J) where
  same_get : (x y z : Get J) → IsSameGet x y → IsSameGet y z → IsSameGet x z
  same_get (get.Heads o s) (get.Heads p t) (get.Heads q u) a b = (b.0 ∙ a.0, ((b.1.0.0 ∙ a.1.0.0, b.1.0.1 ∙ a.1.0.1), b.1.1 ∙ a.1.1))
  same_get (get.Heads o s) (get.Heads p t) (get.Block u) a b = absurd b
  same_get (get.Heads o s) (get.Block t) z a b = absurd a
  same_get (get.Block s) (get.Heads p t) z a b = absurd a
  same_get (get.Block s) (get.Block t) (get.Heads q u) a b = absurd b
  same_get (get.Block s) (get.Block t) (get.Block u) a b = (b.0 ∙ a.0, b.1 ∙ a.1)

  same_kind : (x y : Get J) (given : Came) → IsSameGet x y → IsOfKind y (want.Done given) → IsOfKind x (want.Done given)
  same_kind (get.Heads o s) (get.Heads p t) (came.Heads heads) same kind = tt
  same_kind (get.Heads o s) (get.Heads p t) (came.Block block) same kind = absurd kind
  same_kind (get.Heads o s) (get.Block t) given same kind = absurd same
  same_kind (get.Block s) (get.Heads p t) given same kind = absurd same
  same_kind (get.Block s) (get.Block t) (came.Heads heads) same kind = absurd kind
  same_kind (get.Block s) (get.Block t) (came.Block block) same kind = tt

  same_came : (entries : List Peer) (trail : List Heard) (x y : Get J) (given : Came) → IsSameGet x y → HasCame judges entries trail y given → HasCame judges entries trail x given
  same_came entries trail (get.Heads o s) (get.Heads p t) (came.Heads heads) same h =
      subst (λ (w : PubKey). Gets (judges s.judge) s.execution.replicas entries (Heads w) trail (HeadsOf w heads)) same.0
      (subst (λ (n : ℕ). Gets (judges s.judge) n entries (Heads p) trail (HeadsOf p heads)) same.1.0.1 (subst (λ (j : J). Gets (judges j) t.execution.replicas entries (Heads p) trail (HeadsOf p heads)) same.1.1 h))
  same_came entries trail (get.Heads o s) (get.Heads p t) (came.Block block) same h = absurd h
  same_came entries trail (get.Heads o s) (get.Block t) given same h = absurd same
  same_came entries trail (get.Block s) (get.Heads p t) given same h = absurd same
  same_came entries trail (get.Block s) (get.Block t) (came.Heads heads) same h = absurd h
  same_came entries trail (get.Block s) (get.Block t) (came.Block block) same h = λ judged.
      subst (λ (k : Key). Gets judged s.execution.replicas entries (Content k) trail (BlockOf k block)) same.0
      (subst (λ (n : ℕ). Gets judged n entries (Content t.execution.look.key) trail (BlockOf t.execution.look.key block)) same.1 (h judged))

  pub waits : (old new : Get J) (w : Want Came) (node : Peer) (question : Ask) → GetIsWanted judges old new w → w ≡ want.Ask node question → gets_left new ≤ gets_left old
      → GoesTo judges old (progress.Waits (record { get = new; node = node; question = question }))
  waits old new w node question wanted is left = let a = subst (GetIsWanted judges old new) is wanted in (a.0, a.1, left, a.2)

  pub comes : (old new : Get J) (w : Want Came) (given : Came) → GetIsWanted judges old new w → IsOfKind old w → w ≡ want.Done given → GoesTo judges old (progress.Comes given)
  comes old new w given wanted kind is = (subst (IsOfKind old) is kind, subst (GetIsWanted judges old new) is wanted)

  hears_to : (x y : Get J) (answer : Answer) → GetHasHeard judges x y answer → gets_left y < gets_left x → (p : Progress J) → GoesTo judges y p → HearsTo judges x answer p
  hears_to x y answer heard less (progress.Waits z) to = (
    (same_get x y z.get heard.0 to.0, λ entries trail node question e h. to.3 entries (trail ++ told node question answer) (heard.1 entries trail node question e h)),
    to.1,
    lower (gets_left z.get) (gets_left y) (gets_left x) to.2 less,
  )
  hears_to x y answer heard less (progress.Comes given) to = (
    same_kind x y given heard.0 to.0,
    above (gets_left y) (gets_left x) less,
    λ entries trail node question e h. same_came entries (trail ++ told node question answer) x y given heard.0 (to.1 entries (trail ++ told node question answer) (heard.1 entries trail node question e h)),
  )

  pub hears_ok : (x y : Get J) (answer : Answer) → GetHasHeard judges x y answer → gets_left y < gets_left x → (r : Result (Progress J) Memory) → IfOk r (GoesTo judges y) → IfOk r (HearsTo judges x answer)
  hears_ok x y answer heard less (Ok p) to = hears_to x y answer heard less p to
  hears_ok x y answer heard less (Err e) to = tt
