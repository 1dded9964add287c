-- The put of one block by a node that holds it.
use Rattle.std.proofs.Common.{◌≡◌, ◌⊎◌, ℕ, ◌≤◌, Bool, true, false, cond, not, ◌&&◌, ◌||◌, List, [], ◌∷◌, ◌++◌, Option, Some, None, Result, Ok, Err, IfOk, refl, sym, ap, ◌∙◌, subst, arith}
use Rattle.std.specs.List.{AllByRecursion, list_any}
use Rattle.std.proofs.lemmas.List.{append-nil}
use Rattle.std.proofs.lemmas.List.Elements.{filter-append}
use Rattle.std.proofs.lemmas.List.Folds.{list_any-append}
use Rattle.ivy_base.specs.declared.key.Key.{Key}
use Rattle.ivy_base.specs.declared.memory.Memory.{Memory}
use Rattle.ring_model.proofs.Lists.{all-both, all-right}
use Rattle.dht_ids.specs.declared.ask.Answer.{Answer}
use Rattle.dht_ids.specs.declared.ask.Answer.TheVariants as answer
use Rattle.dht_ids.specs.declared.ask.Ask.{Ask}
use Rattle.dht_ids.specs.declared.ask.Ask.TheVariants as ask
use Rattle.dht_ids.specs.declared.ask.Heard.{Heard}
use Rattle.dht_ids.specs.declared.ask.Want.{Want}
use Rattle.dht_ids.specs.declared.ask.Want.TheVariants as want
use Rattle.dht_ids.specs.declared.peer.Peer.{Peer}
use Rattle.dht_ids.specs.declared.post.Post.{Post}
use Rattle.dhash_model.specs.Execution.{IsExecution, told_all}
use Rattle.dhash_model.specs.Execution.IsExecution.{no_route as nobody_found, of_owners as owners_found}
use Rattle.dhash_model.specs.Puts.{EndsPut}
use Rattle.dhash_model.specs.declared.miss.Miss.{Miss}
use Rattle.dhash_client.specs.Puts.{IsPutOf, PutHasHeard, PutIsAfter, PutIsWanted, put_awaited, put_kind}
use Rattle.dhash_client.specs.declared.put.PutKind.{PutKind}
use Rattle.dhash_client.proofs.DrivenGets.{post_asks, put_begins}
use Rattle.dhash_repair.specs.Putting.{Putting, IsSamePutting, PuttingAsks, PuttingCounts, PuttingGoesOn, PuttingHasHeard, PuttingIsAfter, PuttingIsWanted, PuttingSteps, acknowledged, is_own, is_own_of, left_of, made_of, post_of, putting, told_of}
use Rattle.dhash_repair.specs.Repairs.{Asked, IsPutFrom, ack_of, asking, put_question}
use Rattle.dhash_repair.specs.Repairs.IsPutFrom.{no_route, of_owners}
use Rattle.dhash_repair.proofs.Asks.{IsOurs, any_puts, any_routes, made_puts, made_routes, own_puts, told_apart, told_more}

-- after no ask it begins
pub putting_begins : (node : Peer) (p : Post) (r : ℕ) → PuttingIsAfter r [] (putting node p r)
putting_begins node p r = record {
  what = refl;
  named = refl;
  replicas = refl;
  asks = [];
  made = refl;
  own = tt;
  ours = tt;
  counts = refl;
  after = put_begins (put_kind p.kind) p.bytes p.key r (node ∷ []);
}

pub same_post : (old new : Putting) → IsSamePutting old new → post_of new ≡ post_of old
same_post old new same = λ i. record { key = same.3.0.0 i; bytes = same.3.2 i; kind = same.1 i }

-- ---- steps

module _ (r : ℕ) (trail longer : List Asked) (old new : Putting) (same : IsSamePutting old new) (behind : PuttingIsAfter r trail old) where
  -- after these asks, its own among them
  renewed : (asks : List Asked) → longer ≡ made_of old.node asks → AllByRecursion (λ a. is_own_of old.node a ≡ true → a.1.1 ≡ answer.Stored) asks → AllByRecursion (IsOurs (post_of old)) asks
      → new.counts ≡ list_any (is_own_of old.node) asks → PutIsAfter (old.node ∷ []) (told_of asks) new.put → PuttingIsAfter r longer new
  renewed asks made own ours counts after = record {
    what = same.3.1 ∙ behind.what ∙ ap put_kind (sym same.1);
    named = same.2 ∙ behind.named ∙ ap (λ (p : Post). ack_of p) (sym (same_post old new same));
    replicas = same.3.0.1 ∙ behind.replicas;
    asks = asks;
    made = made ∙ ap (λ (n : Peer). made_of n asks) (sym same.0);
    own = subst (λ (n : Peer). AllByRecursion (λ a. is_own_of n a ≡ true → a.1.1 ≡ answer.Stored) asks) (sym same.0) own;
    ours = subst (λ (p : Post). AllByRecursion (IsOurs p) asks) (sym (same_post old new same)) ours;
    counts = counts ∙ ap (λ (n : Peer). list_any (is_own_of n) asks) (sym same.0);
    after = subst (λ (n : Peer). PutIsAfter (n ∷ []) (told_of asks) new.put) (sym same.0) after;
  }

-- a step without an ask
stays_behind : (r : ℕ) (trail : List Asked) (old new : Putting) → IsSamePutting old new → new.counts ≡ old.counts → ((entries : List Peer) (heard : List Heard) → PutIsAfter entries heard old.put → PutIsAfter entries heard new.put)
    → PuttingIsAfter r trail old → PuttingIsAfter r trail new
stays_behind r trail old new same counts keeps behind =
    renewed r trail trail old new same behind behind.asks behind.made behind.own behind.ours (counts ∙ behind.counts) (keeps (old.node ∷ []) (told_of behind.asks) behind.after)

-- who is asked next is asked for the route, or as an owner
pub asked_for_post : (s : Putting) (node : Peer) (question : Ask) → s.put.what ≡ put_kind s.kind → put_awaited s.put ≡ Some (node, question) → (question ≡ ask.Route (post_of s).key) ⊎ (question ≡ put_question (post_of s))
asked_for_post s = post_asks s.kind s.put

-- a step with one, by the node that was asked
asks_on : (r : ℕ) (trail longer : List Asked) (old new : Putting) → IsSamePutting old new → (node : Peer) (question : Ask) (given : Answer) → put_awaited old.put ≡ Some (node, question) → PutHasHeard old.put new.put given
    → longer ≡ trail ++ made_of old.node ((node, (question, given)) ∷ []) → new.counts ≡ (old.counts || is_own old.node node question) → (is_own old.node node question ≡ true → given ≡ answer.Stored)
    → PuttingIsAfter r trail old → PuttingIsAfter r longer new
asks_on r trail longer old new same node question given awaited heard made counts own behind =
    let a : Asked = (node, (question, given)) in
    renewed r trail longer old new same behind (behind.asks ++ a ∷ [])
    (made ∙ ap (λ (t : List Asked). t ++ made_of old.node (a ∷ [])) behind.made ∙ sym (filter-append (λ b. not (is_own_of old.node b)) behind.asks (a ∷ [])))
    (all-both (λ b. is_own_of old.node b ≡ true → b.1.1 ≡ answer.Stored) behind.asks (a ∷ []) behind.own (own, tt))
    (all-both (IsOurs (post_of old)) behind.asks (a ∷ []) behind.ours (asked_for_post old node question behind.what awaited, tt))
    (counts ∙ ap (λ (b : Bool). b || is_own old.node node question) behind.counts ∙ sym (any_one (list_any (is_own_of old.node) behind.asks) (is_own old.node node question)) ∙ sym (list_any-append (is_own_of old.node) behind.asks (a ∷ [])))
    (subst (λ (t : List Heard). PutIsAfter (old.node ∷ []) t new.put) (sym (told_more behind.asks node question given)) (heard.1 (old.node ∷ []) (told_of behind.asks) node question awaited behind.after))
  where
    any_one : (b c : Bool) → (b || (c || false)) ≡ (b || c)
    any_one true c = refl
    any_one false true = refl
    any_one false false = refl

made_own : (node : Peer) (a : Asked) → is_own_of node a ≡ true → made_of node (a ∷ []) ≡ []
made_own node a e = ap (λ (b : Bool). cond (not b) (a ∷ []) []) e

made_other : (node : Peer) (a : Asked) → is_own_of node a ≡ false → made_of node (a ∷ []) ≡ a ∷ []
made_other node a e = ap (λ (b : Bool). cond (not b) (a ∷ []) []) e

-- the node counts
counts_on : (old new : Putting) (node : Peer) (question : Ask) → put_awaited old.put ≡ Some (node, question) → is_own old.node node question ≡ true → PuttingCounts old new → PuttingGoesOn old new
counts_on old new node question awaited own c =
    let same : IsSamePutting old new = (c.0, c.1, c.2, c.4.0) in (
      same,
      λ r trail behind.
          asks_on r trail trail old new same node question answer.Stored awaited c.4 (sym (append-nil trail) ∙ ap (λ (t : List Asked). trail ++ t) (sym (made_own old.node (node, (question, answer.Stored)) own)))
          (c.3 ∙ sym (ap (λ (b : Bool). old.counts || b) own ∙ any_true old.counts)) (λ e. refl) behind,
    )
  where
    any_true : (b : Bool) → (b || true) ≡ true
    any_true true = refl
    any_true false = refl

-- another node is heard
pub putting_hears : (old new : Putting) (given : Answer) (result : Result (Unit {0}) Memory) → new.node ≡ old.node → new.kind ≡ old.kind → new.ack ≡ old.ack → new.counts ≡ old.counts → IfOk result (λ _. PutHasHeard old.put new.put given)
    → IfOk result (λ _. PuttingHasHeard old new given)
putting_hears old new given (Err e) node_is kind_is ack_is counts h = tt
putting_hears old new given (Ok u) node_is kind_is ack_is counts h =
    let same : IsSamePutting old new = (node_is, kind_is, ack_is, h.0) in (
      same,
      λ r trail node question awaited other behind.
          asks_on r trail (trail ++ (node, (question, given)) ∷ []) old new same node question given awaited h (ap (λ (t : List Asked). trail ++ t) (sym (made_other old.node (node, (question, given)) other)))
          (counts ∙ sym (ap (λ (b : Bool). old.counts || b) other ∙ any_false old.counts)) (λ e. absurd cc) behind,
    )
  where
    any_false : (b : Bool) → (b || false) ≡ b
    any_false true = refl
    any_false false = refl

-- ---- the end

whole_of_post : (r : ℕ) (trail : List Asked) (s : Putting) (came : Result Bool Miss) → (behind : PuttingIsAfter r trail s) → IsPutOf s.put.what s.put.bytes s.put.execution.look.key s.put.execution.replicas (s.node ∷ []) (told_of behind.asks) came
    → IsExecution (post_of s).key (put_question (post_of s)) (s.node ∷ []) (EndsPut r) (told_of behind.asks) came
whole_of_post r trail s came behind whole =
    let key : Key = s.put.execution.look.key in
    subst (λ (k : PutKind). IsPutOf k s.put.bytes key r (s.node ∷ []) (told_of behind.asks) came) behind.what
    (subst (λ (n : ℕ). IsPutOf s.put.what s.put.bytes key n (s.node ∷ []) (told_of behind.asks) came) behind.replicas whole)

-- the asks are a whole put
pub put_ends : (r : ℕ) (trail : List Asked) (s : Putting) (came : Result Bool Miss) → (behind : PuttingIsAfter r trail s) → IsPutOf s.put.what s.put.bytes s.put.execution.look.key s.put.execution.replicas (s.node ∷ []) (told_of behind.asks) came
    → (goes : Bool) → goes ≡ (acknowledged came && not s.counts) → IsPutFrom s.node r (post_of s) trail goes
put_ends r trail s came behind whole goes goes_is = by (whole_of_post r trail s came behind whole)
  where
    by : IsExecution (post_of s).key (put_question (post_of s)) (s.node ∷ []) (EndsPut r) (told_of behind.asks) came → IsPutFrom s.node r (post_of s) trail goes
    by (nobody_found looks found told_is looked nobody came_is) =
        let key : Key = (post_of s).key in
        let are : behind.asks ≡ asking (ask.Route key) looks ++ [] = told_apart (post_of s) behind.asks looks [] behind.ours (told_is ∙ sym (append-nil (told_all (ask.Route key) looks))) in
        no_route looks found
        (behind.made ∙ ap (λ (l : List Asked). made_of s.node l) (are ∙ append-nil (asking (ask.Route key) looks)) ∙ made_routes s.node (post_of s) key looks)
        looked nobody (goes_is ∙ ap (λ (c : Result Bool Miss). acknowledged c && not s.counts) came_is)
    by (owners_found looks asks found owners told_is looked nodes ends) =
        let key : Key = (post_of s).key in
        let question : Ask = put_question (post_of s) in
        let are : behind.asks ≡ asking (ask.Route key) looks ++ asking question asks = told_apart (post_of s) behind.asks looks asks behind.ours told_is in
        of_owners looks asks found owners ends.0
        (behind.made ∙ ap (λ (l : List Asked). made_of s.node l) are ∙ filter-append (λ a. not (is_own_of s.node a)) (asking (ask.Route key) looks) (asking question asks)
        ∙ (λ i. made_routes s.node (post_of s) key looks i ++ made_puts s.node (post_of s) asks i))
        looked nodes ends.1
        (own_puts s.node (post_of s) asks
        (all-right (λ a. is_own_of s.node a ≡ true → a.1.1 ≡ answer.Stored) (asking (ask.Route key) looks) (asking question asks) (subst (λ (l : List Asked). AllByRecursion (λ a. is_own_of s.node a ≡ true → a.1.1 ≡ answer.Stored) l) are behind.own)))
        (goes_is ∙ ap (λ (c : Result Bool Miss). acknowledged c && not s.counts) ends.2
        ∙ ap (λ (b : Bool). ends.0 && not b)
        (behind.counts ∙ ap (λ (l : List Asked). list_any (is_own_of s.node) l) are ∙ list_any-append (is_own_of s.node) (asking (ask.Route key) looks) (asking question asks)
        ∙ (λ i. any_routes s.node (post_of s) key looks i || any_puts s.node (post_of s) asks i)))

-- ---- one step

-- no step was made
pub putting_goes : (s : Putting) → PuttingGoesOn s s
putting_goes s = ((refl, refl, refl, ((refl, refl), refl, refl)), λ r trail behind. behind)

pub putting_on : (old mid new : Putting) → PuttingGoesOn old mid → PuttingGoesOn mid new → PuttingGoesOn old new
putting_on old mid new f s = (
  (s.0.0 ∙ f.0.0, s.0.1 ∙ f.0.1, s.0.2 ∙ f.0.2, ((s.0.3.0.0 ∙ f.0.3.0.0, s.0.3.0.1 ∙ f.0.3.0.1), s.0.3.1 ∙ f.0.3.1, s.0.3.2 ∙ f.0.3.2)),
  λ r trail behind. s.1 r trail (f.1 r trail behind),
)

module _ (old mid new : Putting) (node_is : mid.node ≡ old.node) (kind_is : mid.kind ≡ old.kind) (ack_is : mid.ack ≡ old.ack) (counts_is : mid.counts ≡ old.counts) (less : left_of mid ≤ left_of old) where
  goes_on : (node : Peer) (question : Ask) → PutIsWanted old.put mid.put (want.Ask node question) → PuttingGoesOn old mid
  goes_on node question w =
      let same : IsSamePutting old mid = (node_is, kind_is, ack_is, w.0) in
      (same, λ r trail behind. stays_behind r trail old mid same counts_is w.2 behind)

  -- an ask, which is made or counts
  steps_asking : (node : Peer) (question : Ask) (wanted : Option (Want Bool)) → PutIsWanted old.put mid.put (want.Ask node question) → PuttingAsks mid new node question wanted → PuttingSteps old new wanted
  steps_asking node question None w a =
      let fewer = a.1.5 in
      (putting_on old mid new (goes_on node question w) (counts_on mid new node question w.1 a.0 a.1), omega (arith, less, fewer))
  steps_asking node question (Some wanted) w a =
      subst (λ (x : Want Bool). PuttingIsWanted old new x × (left_of new ≤ left_of old)) (sym a.0)
      (subst (λ (s : Putting). PuttingIsWanted old s (want.Ask node question) × (left_of s ≤ left_of old)) (sym a.2)
      ((goes_on node question w, w.1, ap (λ (n : Peer). is_own n node question) (sym node_is) ∙ a.1), less))

  pub asks_or_fails : (node : Peer) (question : Ask) (result : Result (Option (Want Bool)) Memory) → PutIsWanted old.put mid.put (want.Ask node question) → IfOk result (λ w. PuttingAsks mid new node question w)
      → IfOk result (λ w. PuttingSteps old new w)
  asks_or_fails node question (Ok wanted) w a = steps_asking node question wanted w a
  asks_or_fails node question (Err e) w a = tt

  -- the end
  pub steps_over : (came : Result Bool Miss) (goes : Bool) → PutIsWanted old.put mid.put (want.Done came) → goes ≡ (acknowledged came && not old.counts) → PuttingSteps old mid (Some (want.Done goes))
  steps_over came goes w goes_is = (λ r trail behind. put_ends r trail old came behind (w (old.node ∷ []) (told_of behind.asks) behind.after) goes goes_is, less)

-- and then something is wanted
pub putting_wants : (old mid new : Putting) → PuttingGoesOn old mid → (wanted : Want Bool) → PuttingIsWanted mid new wanted → PuttingIsWanted old new wanted
putting_wants old mid new f (want.Ask node question) w = (putting_on old mid new f w.0, w.1, ap (λ (n : Peer). is_own n node question) (sym f.0.0) ∙ w.2)
putting_wants old mid new f (want.Done goes) w =
    λ r trail behind.
    subst (λ (p : Post). IsPutFrom old.node r p trail goes) (same_post old mid f.0) (subst (λ (n : Peer). IsPutFrom n r (post_of mid) trail goes) f.0.0 (w r trail (f.1 r trail behind)))
