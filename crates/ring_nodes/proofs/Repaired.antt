-- The repair of a node among nodes in memory: what its asks come to in the world.
use Rattle.std.proofs.Common.{◌≡◌, ℕ, zero, suc, Bool, true, false, not, ◌&&◌, ◌||◌, List, [], ◌∷◌, ◌++◌, length, map, take, refl, sym, ap, ◌∙◌, subst, Option, Some, None, Ok, inl, inr}
use Rattle.std.specs.List.{AllByRecursion, list_any}
use Rattle.ivy_base.specs.declared.key.Key.{Key}
use Rattle.ring_model.specs.Circle.{number}
use Rattle.ring_model.specs.Gets.{IsPutTrail, nodes}
use Rattle.ring_model.specs.Lookup.{IsLookup}
use Rattle.ring_model.specs.Members.{IsAmong}
use Rattle.ring_model.proofs.Lists.{all-among, all-both, all-left, all-right, cons_head, cons_tail, nil_cons}
use Rattle.dht_ids.specs.Asked.{routes}
use Rattle.dht_ids.specs.declared.ask.Answer.{Answer}
use Rattle.dht_ids.specs.declared.ask.Answer.TheVariants as answer
use Rattle.dht_ids.specs.declared.ask.Ask.{Ask}
use Rattle.dht_ids.specs.declared.ask.Ask.TheVariants as ask
use Rattle.dht_ids.specs.declared.ask.Want.TheVariants as want
use Rattle.dht_ids.specs.declared.judge.Judged.{Judged}
use Rattle.dht_ids.specs.declared.peer.Peer.{Peer}
use Rattle.dht_ids.specs.declared.post.Ack.{Ack}
use Rattle.dht_ids.specs.declared.post.Post.{Post}
use Rattle.dhash_model.specs.declared.miss.Miss.TheVariants as miss
use Rattle.dhash_model.specs.Execution.{Told, outcome}
use Rattle.dhash_model.specs.Puts.{holds, is_of_put}
use Rattle.dhash_model.specs.Stores.{Block, Blocks}
use Rattle.dhash_model.specs.declared.kind.BlockKind.{BlockKind}
use Rattle.dhash_model.specs.declared.kind.BlockKind.TheVariants.{Content, Head}
use Rattle.dhash_repair.specs.Putting.{is_own}
use Rattle.dhash_repair.specs.Repairing.{RepairGoesOn, RepairHasHeard, RepairIsAfter, RepairIsWanted, RepairState, IsSameRepair, repair_begun}
use Rattle.dhash_repair.specs.Repairs.{Asked, IsPutFrom, IsRepair, is_node, may_go, of_others, put_question}
use Rattle.dhash_repair.specs.Repairs.IsPutFrom.{no_route as nobody_put, of_owners as owners_put}
use Rattle.dhash_repair.specs.Repairs.IsRepair.{none as none_held, keeps as keeps_one, drops as drops_one}
use Rattle.node_store.specs.Stores.{post_of}
use Rattle.world_model.specs.Fates.{FateOf, Fates, asking}
use Rattle.world_model.specs.Fates.Fates.{none as no_asks, more as one_ask}
use Rattle.world_model.specs.Rounds.{IsDropped, PutsAll, PutsAround, Repairs, asks_of_others, question_as}
use Rattle.world_model.specs.Rounds.PutsAround.{no_route, puts}
use Rattle.world_model.specs.Rounds.PutsAll.{done as all_put, keeps as keeps_block, drops as drops_block}
use Rattle.world_model.specs.World.{World}
use Rattle.round_laws.specs.RingOf.{AreApart}
use Rattle.round_laws.proofs.Fixing.{one_at_place}
use Rattle.round_laws.proofs.Nodes.{id_itself, same_id, ties}
use Rattle.ring_nodes.specs.Looking.{IsHeard}
use Rattle.ring_nodes.specs.NodesState.{AreAllAmong, AreSound, IsNodesOf, NamesOnly, NodesState, made_peers, with_nodes}
use Rattle.ring_nodes.specs.Upkeep.{Changes, HasNode, without_blocks}
use Rattle.ring_nodes.proofs.Joins.{nobody_found}
use Rattle.ring_nodes.proofs.Looking.{AllNamed, found_made, one_more_fate}
use Rattle.ring_nodes.proofs.Reaching.{same_world}
use Rattle.ring_nodes.proofs.Asked.{AreNaming, firsts_all, owners_made, repair_made}

-- ---- asks in two parts

record First (judged : Key → List ℕ → Option Judged) (w : World) (a : Asked) (rest : List Asked) (next : World) : Type 0 where
  mid : World
  fate : FateOf judged w a.0 a.1.0 a.1.1 mid
  others : Fates judged mid rest next

module _ (judged : Key → List ℕ → Option Judged) where
  fates_first : {w next : World} {asks : List Asked} → Fates judged w asks next → (a : Asked) (rest : List Asked) → asks ≡ a ∷ rest → First judged w a rest next
  fates_first no_asks a rest e = absurd (nil_cons a rest e)
  fates_first {w = w} {next = next} (one_ask {mid = mid} {rest = more} to question given fate later) a rest e =
      let same : (to, (question, given)) ≡ a = cons_head {X = Asked} (to, (question, given)) more a rest e in
      record {
        mid = mid;
        fate = subst (λ (x : Asked). FateOf judged w x.0 x.1.0 x.1.1 mid) same fate;
        others = subst (λ (l : List Asked). Fates judged mid l next) (cons_tail {X = Asked} (to, (question, given)) more a rest e) later;
      }

  fates_split : (asks more : List Asked) (w next : World) → Fates judged w (asks ++ more) next → (mid : World) × Fates judged w asks mid × Fates judged mid more next
  fates_split [] more w next fates = (w, no_asks, fates)
  fates_split (a ∷ asks) more w next fates =
      let one = fates_first fates a (asks ++ more) refl in
      let later = fates_split asks more one.mid next one.others in
      (later.0, one_ask a.0 a.1.0 a.1.1 one.fate later.1, later.2)

  nobody_asked : {w next : World} {asks : List Asked} → Fates judged w asks next → asks ≡ [] → w ≡ next
  nobody_asked no_asks e = refl
  nobody_asked (one_ask {rest = rest} to question given fate later) e = absurd (nil_cons {X = Asked} (to, (question, given)) rest (sym e))

-- ---- one block

-- the owners that a look-up found are some
record Somebody (found : Option (List Peer)) (owners : List Peer) : Type 0 where
  first : Peer
  rest : List Peer
  are : owners ≡ first ∷ rest
  found_is : found ≡ Some (first ∷ rest)

somebody : (key : Key) (found : Option (List Peer)) (owners : List Peer) → outcome key found ≡ Ok owners → Somebody found owners
somebody key None owners e = absurd cc
somebody key (Some []) owners e = absurd cc
somebody key (Some (p ∷ ps)) owners e = record { first = p; rest = ps; are = cc; found_is = refl }

asks_block : (key : Key) (block : Block) → put_question (post_of (key, block)) ≡ question_as block.kind key block.bytes
asks_block key block = by block.kind
  where
    by : (k : BlockKind) → put_question (post_of (key, record { kind = k; bytes = block.bytes })) ≡ question_as k key block.bytes
    by Content = refl
    by Head = refl

all_taken : (P : Peer → Type 0) (k : ℕ) (ps : List Peer) → AllByRecursion P ps → AllByRecursion P (take k ps)
all_taken P zero ps all = tt
all_taken P (suc k) [] all = tt
all_taken P (suc k) (p ∷ ps) all = (all.0, all_taken P k ps all.1)

module _ (made : List Peer) (apart : AreApart made) (p : Peer) (is_made : IsAmong p made) where
  -- a node that was made is known by its identifier
  stands : (asks : Told) → AreAllAmong made (nodes asks) → list_any (λ s. is_node p s.0) asks ≡ true → IsAmong p (nodes asks)
  stands [] all e = absurd cc
  stands (s ∷ asks) all e = by (is_node p s.0) refl (λ later. stands asks all.1 later) e
    where
      by : (t : Bool) → is_node p s.0 ≡ t → (list_any (λ x. is_node p x.0) asks ≡ true → IsAmong p (nodes asks)) → (t || list_any (λ x. is_node p x.0) asks) ≡ true → IsAmong p (s.0 ∷ nodes asks)
      by true here further e = inl (sym (one_at_place made p s.0 apart is_made all.0 (ap (λ (k : Key). number k) (same_id p.id s.0.id here))))
      by false here further e = inr (further e)

  stands_not : (asks : Told) → list_any (λ s. is_node p s.0) asks ≡ false → IsAmong p (nodes asks) → ⊥
  stands_not [] e i = elim i [ ]
  stands_not (s ∷ asks) e (inl same) = by (is_node p s.0) (ties p.id s.0.id (sym (ap (λ (q : Peer). q.id) same))) e
    where
      by : (t : Bool) → t ≡ true → (t || list_any (λ x. is_node p x.0) asks) ≡ false → ⊥
      by true here e = cc
      by false here e = cc
  stands_not (s ∷ asks) e (inr i) = by (is_node p s.0) (λ later. stands_not asks later i) e
    where
      by : (t : Bool) → (list_any (λ x. is_node p x.0) asks ≡ false → ⊥) → (t || list_any (λ x. is_node p x.0) asks) ≡ false → ⊥
      by true further e = cc
      by false further e = further e

  goes_so : (asks : Told) (acknowledged : Bool) → AreAllAmong made (nodes asks) → IsDropped p asks acknowledged (may_go p asks acknowledged)
  goes_so asks acknowledged all = by acknowledged (list_any (λ s. is_node p s.0) asks) refl
    where
      by : (a b : Bool) → list_any (λ s. is_node p s.0) asks ≡ b → IsDropped p asks a (a && not b)
      by true true e = λ h. stands asks all e
      by true false e = (refl, stands_not asks e)
      by false b e = λ h. absurd cc

  looks_named : (key : Key) (looks : Told) (rest : List Asked) → AreNaming made (asking (ask.Route key) looks ++ rest) → AllNamed made looks
  looks_named key [] rest named = tt
  looks_named key (s ∷ looks) rest named = (named.0, looks_named key looks rest named.1)

  module _ (judged : Key → List ℕ → Option Judged) (r : ℕ) where
    puts_around : (key : Key) (block : Block) (trail : List Asked) (goes : Bool) (w next : World) → IsPutFrom p r (post_of (key, block)) trail goes → Fates judged w trail next → AreNaming made trail → PutsAround judged p r key block w goes next
    puts_around key block trail goes w next (nobody_put looks found trail_is looked nobody goes_is) fates named =
        subst (λ (g : Bool). PutsAround judged p r key block w g next) (sym goes_is)
        (no_route found next (record { looks = looks; fates = subst (λ (t : List Asked). Fates judged w t next) trail_is fates; lookup = looked }) (nobody_found key found (miss.NoRoute key) nobody))
    puts_around key block trail goes w next (owners_put looks asks found owners acknowledged trail_is looked some put own goes_is) fates named =
        let question : Ask = put_question (post_of (key, block)) in
        let split = fates_split judged (asking (ask.Route key) looks) (asking question (of_others p asks)) w next (subst (λ (t : List Asked). Fates judged w t next) trail_is fates) in
        let someone = somebody key found owners some in
        let all_looks : AllNamed made looks = looks_named key looks (asking question (of_others p asks)) (subst (AreNaming made) trail_is named) in
        let all_owners : AreAllAmong made owners = owners_made made key found owners some (found_made made looked looks refl tt all_looks) in
        let all_asked : AreAllAmong made (nodes asks) =
        subst (AreAllAmong made) (sym put.asks.order) (all_taken (λ q. IsAmong q made) (length asks) put.asks.once (firsts_all (λ q. IsAmong q made) put.asks.firsts all_owners)) in
        subst (λ (g : Bool). PutsAround judged p r key block w g next) (sym goes_is)
        (puts someone.first someone.rest asks split.0 next acknowledged (may_go p asks acknowledged)
        (record { looks = looks; fates = split.1; lookup = subst (λ (f : Option (List Peer)). IsLookup [] None (p ∷ []) (routes looks) f) someone.found_is looked })
        (subst (λ (l : List Peer). IsPutTrail is_of_put holds r l asks acknowledged) someone.are put)
        (λ given i. all-among {X = Peer × Answer} (λ s. is_node p s.0 ≡ true → s.1 ≡ answer.Stored) (p, given) asks own i (id_itself p.id))
        (subst (λ (q : Ask). Fates judged split.0 (asks_of_others judged p q asks) next) (asks_block key block) split.2)
        (goes_so asks acknowledged all_asked))

    -- ---- all blocks

    puts_all : {posts : List Post} {trail : List Asked} {acks : List Ack} → IsRepair p r posts trail acks → (blocks : Blocks) → posts ≡ map post_of blocks → (w next : World) → Fates judged w trail next → AreNaming made trail
        → PutsAll judged p r blocks w (map (λ a. a.key) acks) next
    puts_all none_held [] e w next fates named = subst (λ (v : World). PutsAll judged p r [] w [] v) (nobody_asked judged fates refl) all_put
    puts_all none_held (b ∷ blocks) e w next fates named = absurd (nil_cons (post_of b) (map post_of blocks) e)
    puts_all (keeps_one {p = q} {posts = posts} first later) [] e w next fates named = absurd (nil_cons q posts (sym e))
    puts_all (keeps_one {p = q} {posts = posts} {asks = asks} {trail = trail} {acks = acks} first later) (b ∷ blocks) e w next fates named =
        let split = fates_split judged asks trail w next fates in
        let same : q ≡ post_of b = cons_head q posts (post_of b) (map post_of blocks) e in
        keeps_block
        (puts_around b.0 b.1 asks false w split.0 (subst (λ (x : Post). IsPutFrom p r x asks false) same first) split.1 (all-left (λ a. NamesOnly made a.1.1) asks trail named))
        (puts_all later blocks (cons_tail q posts (post_of b) (map post_of blocks) e) split.0 next split.2 (all-right (λ a. NamesOnly made a.1.1) asks trail named))
    puts_all (drops_one {p = q} {posts = posts} first later) [] e w next fates named = absurd (nil_cons q posts (sym e))
    puts_all (drops_one {p = q} {posts = posts} {asks = asks} {trail = trail} {acks = acks} first later) (b ∷ blocks) e w next fates named =
        let split = fates_split judged asks trail w next fates in
        let same : q ≡ post_of b = cons_head q posts (post_of b) (map post_of blocks) e in
        subst (λ (k : Key). PutsAll judged p r (b ∷ blocks) w (k ∷ map (λ a. a.key) acks) next) (sym (ap (λ (x : Post). x.key) same))
        (drops_block
        (puts_around b.0 b.1 asks true w split.0 (subst (λ (x : Post). IsPutFrom p r x asks true) same first) split.1 (all-left (λ a. NamesOnly made a.1.1) asks trail named))
        (puts_all later blocks (cons_tail q posts (post_of b) (map post_of blocks) e) split.0 next split.2 (all-right (λ a. NamesOnly made a.1.1) asks trail named)))

-- ---- the asks so far

module _ (judged : Key → List ℕ → Option Judged) (start : NodesState) (p : Peer) (r : ℕ) (held : List Post) where
  -- from the nodes at the start these asks were made, and the repair may be in its state after them
  pub record IsRepairing (now : NodesState) (state : RepairState) : Type 0 where
    pub asks : List Asked
    pub fates : (w : World) → IsNodesOf w start → Fates judged w asks (with_nodes w now)
    pub named : AreNaming (made_peers start) asks
    pub after : RepairIsAfter held asks state
    pub same : IsSameRepair (repair_begun p held r) state
    pub made : made_peers now ≡ made_peers start

  pub repair_first : (state : RepairState) → RepairIsAfter held [] state → state ≡ repair_begun p held r → IsRepairing start state
  repair_first state after is = record {
    asks = [];
    fates = λ w of. subst (λ (v : World). Fates judged w [] v) (same_world w start of) no_asks;
    named = tt;
    after = after;
    same = (ap (λ (s : RepairState). s.node) is, ap (λ (s : RepairState). s.replicas) is);
    made = refl;
  }

  abbrev goes_on : (now : NodesState) (old new : RepairState) → IsRepairing now old → RepairGoesOn old new → IsRepairing now new
  goes_on now old new l g = record {
    asks = l.asks;
    fates = l.fates;
    named = l.named;
    after = g.1 held l.asks l.after;
    same = (g.0.0 ∙ l.same.0, g.0.1 ∙ l.same.1);
    made = l.made;
  }

  -- who is asked next was made
  pub asked_made : (now : NodesState) (old new : RepairState) (node : Peer) (question : Ask) → IsAmong p (made_peers start) → IsRepairing now old → RepairIsWanted old new (want.Ask node question) → IsAmong node (made_peers now)
  asked_made now old new node question is_made l wanted =
      let on = goes_on now old new l wanted.0 in
      subst (IsAmong node) (sym l.made)
      (repair_made (made_peers start) held on.asks new node question (subst (λ (q : Peer). IsAmong q (made_peers start)) (sym on.same.0) is_made) on.named on.after wanted.1)

  -- one ask more
  pub asks_on : (now next : NodesState) (old mid new : RepairState) (node : Peer) (question : Ask) → IsRepairing now old → RepairIsWanted old mid (want.Ask node question) → IsHeard RepairHasHeard judged node question now next mid new
      → made_peers next ≡ made_peers now → IsRepairing next new
  asks_on now next old mid new node question l wanted step still =
      let on = goes_on now old mid l wanted.0 in
      let other : is_own mid.node node question ≡ false = ap (λ (n : Peer). is_own n node question) wanted.0.0.0 ∙ wanted.2 held l.asks l.after in
      record {
        asks = l.asks ++ (node, (question, step.given)) ∷ [];
        fates = λ w of. one_more_fate (l.fates w of) (with_nodes w next) node question step.given (step.fate (with_nodes w now) (refl, refl, refl));
        named = all-both (λ a. NamesOnly (made_peers start) a.1.1) l.asks ((node, (question, step.given)) ∷ []) l.named (subst (λ (m : List Peer). NamesOnly m step.given) l.made step.named, tt);
        after = step.heard.1 held l.asks node question wanted.1 other on.after;
        same = (step.heard.0.0 ∙ on.same.0, step.heard.0.1 ∙ on.same.1);
        made = still ∙ l.made;
      }

  -- the end
  pub repair_ended : (now : NodesState) (old new : RepairState) (acks : List Ack) → AreSound start.nodes → IsAmong p (made_peers start) → IsRepairing now old → RepairIsWanted old new (want.Done acks)
      → (blocks : Blocks) → held ≡ map post_of blocks → (w : World) → IsNodesOf w start → PutsAll judged p r blocks w (map (λ a. a.key) acks) (with_nodes w now)
  repair_ended now old new acks sound is_made l wanted blocks are w of =
      let whole : IsRepair p r held l.asks acks =
      subst (λ (n : Peer). IsRepair n r held l.asks acks) l.same.0 (subst (λ (k : ℕ). IsRepair old.node k held l.asks acks) l.same.1 (wanted held l.asks l.after)) in
      puts_all (made_peers start) sound.apart p is_made judged r whole blocks are w (with_nodes w now) (l.fates w of) l.named

-- ---- the whole of one node

pub repairs : (judged : Key → List ℕ → Option Judged) (p : Peer) (r : ℕ) (s mid next : NodesState) (posts : List Post) (dropped : List Key) → HasNode (λ n. posts ≡ map post_of n.blocks) s p.id
    → ((blocks : Blocks) → posts ≡ map post_of blocks → (w : World) → IsNodesOf w s → PutsAll judged p r blocks w dropped (with_nodes w mid)) → Changes (without_blocks dropped) p.id mid next
    → (w : World) → IsNodesOf w s → Repairs judged r w p (with_nodes w next)
repairs judged p r s mid next posts dropped h each c w is =
    subst (λ v. Repairs judged r v p (with_nodes w next)) (sym (same_world w s is)) (record {
      before = h.0;
      after = c.node;
      dropped = dropped;
      mid = with_nodes w mid;
      is_before = h.1;
      puts = each h.0.blocks h.2 (with_nodes w s) (refl, refl, refl);
      is_after = c.at;
      drops = c.is (with_nodes w mid) (refl, refl, refl);
    })
