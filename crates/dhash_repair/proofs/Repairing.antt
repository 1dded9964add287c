-- Blocks that are put one after the other.
use Rattle.std.proofs.Common.{◌≡◌, ℕ, ◌≤◌, Bool, true, false, List, [], ◌∷◌, ◌++◌, Some, None, Result, Ok, Err, IfOk, refl, sym, ap, ◌∙◌, subst, arith}
use Rattle.std.proofs.lemmas.List.{append_assoc, append-nil}
use Rattle.ivy_base.specs.declared.memory.Memory.{Memory}
use Rattle.dht_ids.specs.declared.ask.Answer.{Answer}
use Rattle.dht_ids.specs.declared.ask.Ask.{Ask}
use Rattle.dht_ids.specs.declared.ask.Want.{Want}
use Rattle.dht_ids.specs.declared.ask.Want.TheVariants as want
use Rattle.dht_ids.specs.declared.peer.Peer.{Peer}
use Rattle.dht_ids.specs.declared.post.Ack.{Ack}
use Rattle.dht_ids.specs.declared.post.Post.{Post}
use Rattle.dhash_repair.specs.Putting.{Putting, PuttingGoesOn, PuttingHasHeard, PuttingIsAfter, PuttingIsWanted, is_own, left_of, post_of, putting}
use Rattle.dhash_repair.specs.Repairing.{RepairState, RepairGoesOn, RepairHasHeard, RepairIsAfter, RepairIsWanted, RepairSteps, concluded, repair_begun, repair_left}
use Rattle.dhash_repair.specs.Repairs.{Asked, IsPutFrom, IsRepair, ack_of}
use Rattle.dhash_repair.specs.Repairs.IsRepair.{none as all_put, keeps as keeps_one, drops as drops_one}
use Rattle.dhash_repair.proofs.Putting.{putting_begins, same_post}

-- one block more
repair_more : {node : Peer} {r : ℕ} {posts : List Post} {trail : List Asked} {acks : List Ack} → IsRepair node r posts trail acks → (p : Post) (asks : List Asked) (goes : Bool) → IsPutFrom node r p asks goes
    → IsRepair node r (posts ++ p ∷ []) (trail ++ asks) (concluded (ack_of p) goes acks)
repair_more {node = node} {r = r} all_put p asks true one = subst (λ (t : List Asked). IsRepair node r (p ∷ []) t (ack_of p ∷ [])) (append-nil asks) (drops_one one all_put)
repair_more {node = node} {r = r} all_put p asks false one = subst (λ (t : List Asked). IsRepair node r (p ∷ []) t []) (append-nil asks) (keeps_one one all_put)
repair_more {node = node} {r = r} (keeps_one {p = q} {posts = posts} {asks = first} {trail = trail} {acks = acks} f later) p asks goes one =
    subst (λ (t : List Asked). IsRepair node r (q ∷ posts ++ p ∷ []) t (concluded (ack_of p) goes acks)) (sym (append_assoc first trail asks)) (keeps_one f (repair_more later p asks goes one))
repair_more {node = node} {r = r} (drops_one {p = q} {posts = posts} {asks = first} {trail = trail} {acks = acks} f later) p asks goes one =
    subst (λ (a : List Ack). IsRepair node r (q ∷ posts ++ p ∷ []) ((first ++ trail) ++ asks) a) (by goes)
    (subst (λ (t : List Asked). IsRepair node r (q ∷ posts ++ p ∷ []) t (ack_of q ∷ concluded (ack_of p) goes acks)) (sym (append_assoc first trail asks)) (drops_one f (repair_more later p asks goes one)))
  where
    by : (b : Bool) → ack_of q ∷ concluded (ack_of p) b acks ≡ concluded (ack_of p) b (ack_of q ∷ acks)
    by true = refl
    by false = refl

-- after no ask it begins
repair_begins : (node : Peer) (held : List Post) (r : ℕ) → RepairIsAfter held [] (repair_begun node held r)
repair_begins node held r = record { before = []; made = []; on_way = []; posts_are = refl; trail_is = refl; repaired = all_put; behind = refl }

pub begun_behind : (node : Peer) (held : List Post) (r : ℕ) (s : RepairState) → s ≡ repair_begun node held r → RepairIsAfter held [] s
begun_behind node held r s is = subst (RepairIsAfter held []) (sym is) (repair_begins node held r)

-- no step was made
pub repair_goes : (s : RepairState) → RepairGoesOn s s
repair_goes s = ((refl, refl), λ posts trail behind. behind)

pub repair_on : (old mid new : RepairState) → RepairGoesOn old mid → RepairGoesOn mid new → RepairGoesOn old new
repair_on old mid new f s = ((s.0.0 ∙ f.0.0, s.0.1 ∙ f.0.1), λ posts trail behind. s.1 posts trail (f.1 posts trail behind))

-- and then something is wanted
pub repair_wants : (old mid new : RepairState) → RepairGoesOn old mid → (wanted : Want (List Ack)) → RepairIsWanted mid new wanted → RepairIsWanted old new wanted
repair_wants old mid new f (want.Ask node question) w = (repair_on old mid new f w.0, w.1, λ posts trail behind. ap (λ (n : Peer). is_own n node question) (sym f.0.0) ∙ w.2 posts trail (f.1 posts trail behind))
repair_wants old mid new f (want.Done acks) w =
    λ posts trail behind. subst (λ (n : Peer). IsRepair n old.replicas posts trail acks) f.0.0 (subst (λ (r : ℕ). IsRepair mid.node r posts trail acks) f.0.1 (w posts trail (f.1 posts trail behind)))

-- ---- steps

module _ (node : Peer) (r : ℕ) (left : List Post) (dropped : List Ack) where
  -- no put is on its way, or that one
  abbrev pub free : RepairState
  free = record { node = node; replicas = r; put = None; left = left; dropped = dropped }

  abbrev pub on_way : Putting → RepairState
  on_way p = record { node = node; replicas = r; put = Some p; left = left; dropped = dropped }

  -- the put goes on
  put_goes : (p q : Putting) → PuttingGoesOn p q → RepairGoesOn (on_way p) (on_way q)
  put_goes p q g = (
    (refl, refl),
    λ posts trail behind. record {
      before = behind.before;
      made = behind.made;
      on_way = behind.on_way;
      posts_are = behind.posts_are ∙ ap (λ (x : Post). behind.before ++ x ∷ left) (sym (same_post p q g.0));
      trail_is = behind.trail_is;
      repaired = behind.repaired;
      behind = (g.0.0 ∙ behind.behind.0, g.1 r behind.on_way behind.behind.1);
    },
  )

  -- the put is over
  put_over : (p : Putting) (goes : Bool) → ((s : ℕ) (trail : List Asked) → PuttingIsAfter s trail p → IsPutFrom p.node s (post_of p) trail goes) → RepairGoesOn (on_way p) (record free { dropped = concluded p.ack goes dropped })
  put_over p goes whole = (
    (refl, refl),
    λ posts trail behind.
        let one : IsPutFrom node r (post_of p) behind.on_way goes = subst (λ (n : Peer). IsPutFrom n r (post_of p) behind.on_way goes) behind.behind.0 (whole r behind.on_way behind.behind.1) in
        record {
          before = behind.before ++ post_of p ∷ [];
          made = behind.made ++ behind.on_way;
          on_way = [];
          posts_are = behind.posts_are ∙ sym (append_assoc behind.before (post_of p ∷ []) left);
          trail_is = behind.trail_is ∙ sym (append-nil (behind.made ++ behind.on_way));
          repaired = subst (λ (a : Ack). IsRepair node r (behind.before ++ post_of p ∷ []) (behind.made ++ behind.on_way) (concluded a goes dropped)) (sym behind.behind.1.named) (repair_more behind.repaired (post_of p) behind.on_way goes one);
          behind = refl;
        },
  )

  -- a put begins
  put_first : (p : Post) → RepairGoesOn (record free { left = p ∷ left }) (on_way (putting node p r))
  put_first p = (
    (refl, refl),
    λ posts trail behind. record {
      before = behind.before;
      made = behind.made;
      on_way = [];
      posts_are = behind.posts_are;
      trail_is = behind.trail_is ∙ ap (λ (t : List Asked). behind.made ++ t) behind.behind;
      repaired = behind.repaired;
      behind = (refl, putting_begins node p r);
    },
  )

  -- a node is heard
  put_heard : (p q : Putting) (given : Answer) → PuttingHasHeard p q given → RepairHasHeard (on_way p) (on_way q) given
  put_heard p q given h = (
    (refl, refl),
    λ posts trail asked question awaited other behind. record {
      before = behind.before;
      made = behind.made;
      on_way = behind.on_way ++ (asked, (question, given)) ∷ [];
      posts_are = behind.posts_are ∙ ap (λ (x : Post). behind.before ++ x ∷ left) (sym (same_post p q h.0));
      trail_is = ap (λ (t : List Asked). t ++ (asked, (question, given)) ∷ []) behind.trail_is ∙ append_assoc behind.made behind.on_way ((asked, (question, given)) ∷ []);
      repaired = behind.repaired;
      behind = (h.0.0 ∙ behind.behind.0, h.1 r behind.on_way asked question awaited (ap (λ (n : Peer). is_own n asked question) behind.behind.0 ∙ other) behind.behind.1);
    },
  )

  repair_hears : (p q : Putting) (given : Answer) (result : Result (Unit {0}) Memory) → IfOk result (λ _. PuttingHasHeard p q given) → IfOk result (λ _. RepairHasHeard (on_way p) (on_way q) given)
  repair_hears p q given (Ok u) h = put_heard p q given h
  repair_hears p q given (Err e) h = tt

  -- the put that was taken out goes on and asks a node
  goes_asking : (p q : Putting) (asked : Peer) (question : Ask) → PuttingIsWanted p q (want.Ask asked question) → left_of q ≤ left_of p → RepairSteps (on_way p) (on_way q) (Some (want.Ask asked question))
  goes_asking p q asked question w fewer = ((put_goes p q w.0, w.1, λ posts trail behind. ap (λ (n : Peer). is_own n asked question) (sym behind.behind.0) ∙ w.2), omega (arith, fewer))

  -- or is over
  goes_over : (p q : Putting) (goes : Bool) → PuttingIsWanted p q (want.Done goes) → (ack : Ack) → ack ≡ p.ack → (now : RepairState) → now ≡ record free { dropped = concluded ack goes dropped } → RepairSteps (on_way p) now None
  goes_over p q goes w ack ack_is now now_is =
      subst (λ (s : RepairState). RepairSteps (on_way p) s None) (sym (now_is ∙ ap (λ (a : Ack). record free { dropped = concluded a goes dropped }) ack_is)) (put_over p goes w, omega arith)

  -- a put begins, which fewer asks are left after
  begins_put : (p : Post) → RepairSteps (record free { left = p ∷ left }) (on_way (putting node p r)) None
  begins_put p = (put_first p, omega arith)

-- ---- the same of states by what they have

module _ (old now : RepairState) where
  pub heard_by : (p q : Putting) (given : Answer) → old.put ≡ Some p → now ≡ record old { put = Some q } → (result : Result (Unit {0}) Memory) → IfOk result (λ _. PuttingHasHeard p q given) → IfOk result (λ _. RepairHasHeard old now given)
  heard_by p q given is now_is result h =
      let was : record old { put = Some p } ≡ old = λ i. record old { put = sym is i } in
      subst (λ (s : RepairState). IfOk result (λ _. RepairHasHeard s now given)) was
      (subst (λ (s : RepairState). IfOk result (λ _. RepairHasHeard (record old { put = Some p }) s given)) (sym now_is) (repair_hears old.node old.replicas old.left old.dropped p q given result h))

  pub over_by : (p q : Putting) (goes : Bool) (ack : Ack) → old.put ≡ None → PuttingIsWanted p q (want.Done goes) → ack ≡ p.ack → now ≡ record old { dropped = concluded ack goes old.dropped } → RepairSteps (record old { put = Some p }) now None
  over_by p q goes ack none w ack_is now_is =
      goes_over old.node old.replicas old.left old.dropped p q goes w ack ack_is now (now_is ∙ (λ i. record old { put = none i; dropped = concluded ack goes old.dropped }))

  pub asks_by : (p q : Putting) (asked : Peer) (question : Ask) → PuttingIsWanted p q (want.Ask asked question) → left_of q ≤ left_of p → now ≡ record old { put = Some q } → RepairSteps (record old { put = Some p }) now (Some (want.Ask asked question))
  asks_by p q asked question w fewer now_is =
      subst (λ (s : RepairState). RepairSteps (record old { put = Some p }) s (Some (want.Ask asked question))) (sym now_is) (goes_asking old.node old.replicas old.left old.dropped p q asked question w fewer)

  pub begun_by : (p : Post) (rest : List Post) → old.put ≡ None → old.left ≡ p ∷ rest → now ≡ record old { put = Some (putting old.node p old.replicas); left = rest } → RepairSteps old now None
  begun_by p rest none left now_is =
      let was : record old { put = None; left = p ∷ rest } ≡ old = λ i. record old { put = sym none i; left = sym left i } in
      subst (λ (s : RepairState). RepairSteps s now None) was
      (subst (λ (s : RepairState). RepairSteps (record old { put = None; left = p ∷ rest }) s None) (sym now_is) (begins_put old.node old.replicas rest old.dropped p))

-- no block is left
pub ends : (node : Peer) (r : ℕ) (dropped acks : List Ack) (now : RepairState) → acks ≡ dropped → repair_left now ≤ 0 → RepairSteps (free node r [] dropped) now (Some (want.Done acks))
ends node r dropped acks now acks_are less = (
  λ posts trail behind.
      subst (λ (a : List Ack). IsRepair node r posts trail a) (sym acks_are)
      (subst (λ (t : List Asked). IsRepair node r posts t dropped) (sym (behind.trail_is ∙ ap (λ (t : List Asked). behind.made ++ t) behind.behind ∙ append-nil behind.made))
      (subst (λ (l : List Post). IsRepair node r l behind.made dropped) (sym (behind.posts_are ∙ append-nil behind.before)) behind.repaired)),
  less,
)
