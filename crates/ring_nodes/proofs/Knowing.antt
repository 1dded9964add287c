-- Nodes know of made peers alone, and their answers name no others.
use Rattle.std.proofs.Common.{◌≡◌, ℕ, ◌*◌, Bool, true, false, cond, not, List, [], ◌∷◌, filter, length, sym, subst, Option, Some, None, Result, Ok, Err, IfOk}
use Rattle.std.specs.Prelude.{OnErr, OnOk, nat_eq, nat_lt}
use Rattle.std.specs.List.{AllByRecursion}
use Rattle.std.specs.Option.{option_map_or}
use Rattle.ivy_base.specs.declared.key.Key.{Key}
use Rattle.ivy_base.specs.declared.memory.Memory.{Memory}
use Rattle.ring_model.specs.Arc.{is_strictly_between}
use Rattle.ring_model.specs.Circle.{number}
use Rattle.ring_model.specs.Members.{IsAmong}
use Rattle.ring_model.specs.Route.{nearer_with, owners_part, with_nearer}
use Rattle.ring_model.proofs.Lists.{all-both, all_weaker, filter_gives}
use Rattle.dht_ids.specs.Peers.{place}
use Rattle.dht_ids.specs.declared.ask.Answer.{Answer}
use Rattle.dht_ids.specs.declared.ask.Answer.TheVariants as answer
use Rattle.dht_ids.specs.declared.ask.Ask.{Ask}
use Rattle.dht_ids.specs.declared.ask.Ask.TheVariants as ask
use Rattle.dht_ids.specs.declared.ask.StoreFault.{StoreFault}
use Rattle.dht_ids.specs.declared.judge.Judged.{Judged}
use Rattle.dht_ids.specs.declared.peer.Peer.{Peer}
use Rattle.dhash_model.specs.Stores.{Block, bytes_at, content, content_fault, head, head_fault}
use Rattle.world_model.specs.Nodes.{Node, answered, stored}
use Rattle.world_model.specs.World.{peer_of}
use Rattle.round_laws.specs.RingOf.{KnowsOnly}
use Rattle.round_laws.proofs.Renewing.{all_some, some_nearest}
use Rattle.ring_nodes.specs.NodesState.{BringsOnly, NamesOnly}

-- ---- what a route names

module _ (P : Peer → Type 0) where
  all_nearer : (key : ℕ) (x : Peer) (ys : List Peer) → P x → AllByRecursion P ys → AllByRecursion P (with_nearer place key x ys)
  all_nearer key x [] h a = (h, tt)
  all_nearer key x (y ∷ ys) h a = by (nat_eq (place x) (place y)) (is_strictly_between (place y) (place x) key) (all_nearer key x ys h a.1)
    where
      by : (s t : Bool) → AllByRecursion P (with_nearer place key x ys) → AllByRecursion P (cond s (y ∷ ys) (cond t (x ∷ y ∷ ys) (y ∷ with_nearer place key x ys)))
      by true t rest = a
      by false true rest = (h, a)
      by false false rest = (a.0, rest)

  all_nearer_with : (n : Peer) (key : ℕ) (xs found : List Peer) → AllByRecursion P xs → AllByRecursion P found → AllByRecursion P (nearer_with place n key xs found)
  all_nearer_with n key [] found a f = f
  all_nearer_with n key (x ∷ xs) found a f = all_nearer_with n key xs (cond (is_strictly_between (place n) (place x) key) (with_nearer place key x found) found) a.1 (by (is_strictly_between (place n) (place x) key))
    where
      by : (t : Bool) → AllByRecursion P (cond t (with_nearer place key x found) found)
      by true = all_nearer key x found a.0 f
      by false = f

  all_owners : (r : ℕ) (n : Peer) (list : List Peer) (key : ℕ) → P n → AllByRecursion P list → AllByRecursion P (owners_part place r n list key)
  all_owners r n list key h a =
      all-both P (filter (λ m. not (is_strictly_between (place n) (place m) key)) list) (cond (nat_lt (length list) (2 * r)) (n ∷ []) [])
      (filter_gives (λ m. not (is_strictly_between (place n) (place m) key)) P list (all_weaker P (λ q. not (is_strictly_between (place n) (place q) key) ≡ true → P q) list (λ q i t. i) a))
      (by (nat_lt (length list) (2 * r)))
    where
      by : (t : Bool) → AllByRecursion P (cond t (n ∷ []) [])
      by true = (h, tt)
      by false = tt

-- ---- answers

module _ (judged : Key → List ℕ → Option Judged) (made : List Peer) where
  stored_names : (n : Node) (key : Key) (block : Block) (fault : Option StoreFault) → NamesOnly made (stored n key block fault).0
  stored_names n key block (Some fault) = tt
  stored_names n key block None = tt

  found_names : (o : Option (List ℕ)) → NamesOnly made (option_map_or (λ bytes. answer.Found bytes) o answer.Nothing)
  found_names (Some bytes) = tt
  found_names None = tt

  pub answer_names : (n : Node) (question : Ask) → KnowsOnly made n → IsAmong (peer_of n) made → NamesOnly made (answered judged n question).0
  answer_names n (ask.Route key) h me = (
    all_nearer_with (λ q. IsAmong q made) n.ring.me (number key) n.ring.links.fingers (nearer_with place n.ring.me (number key) n.ring.links.list []) h.fingers (all_nearer_with (λ q. IsAmong q made) n.ring.me (number key) n.ring.links.list [] h.list tt),
    all_owners (λ q. IsAmong q made) n.ring.replicas n.ring.me n.ring.links.list (number key) me h.list,
  )
  answer_names n ask.Near h me = (h.before, h.list)
  answer_names n (ask.Notify peer) h me = tt
  answer_names n (ask.Get key) h me = found_names (bytes_at key n.blocks)
  answer_names n (ask.PutBlock key bytes) h me = stored_names n key (content bytes) (content_fault key bytes n.blocks)
  answer_names n (ask.PutHead key bytes) h me = stored_names n key (head bytes) (head_fault judged key bytes n.blocks)

  stored_knows : (n : Node) (key : Key) (block : Block) (fault : Option StoreFault) → KnowsOnly made n → KnowsOnly made (stored n key block fault).1
  stored_knows n key block (Some fault) h = h
  stored_knows n key block None h = record { list = h.list; fingers = h.fingers; before = h.before }

  pub answer_knows : (n : Node) (question : Ask) → KnowsOnly made n → BringsOnly made question → KnowsOnly made (answered judged n question).1
  answer_knows n (ask.Route key) h b = h
  answer_knows n ask.Near h b = h
  answer_knows n (ask.Notify peer) h b = record {
    list = all_some (λ q. IsAmong q made) n.ring.links.list peer h.list b;
    fingers = h.fingers;
    before = some_nearest (λ q. IsAmong q made) n.ring.me n.ring.links.before peer h.before b;
  }
  answer_knows n (ask.Get key) h b = h
  answer_knows n (ask.PutBlock key bytes) h b = stored_knows n key (content bytes) (content_fault key bytes n.blocks) h
  answer_knows n (ask.PutHead key bytes) h b = stored_knows n key (head bytes) (head_fault judged key bytes n.blocks) h

  -- the same by what a call gives
  pub call_names : (old : Node) (question : Ask) (result : Result Answer Memory) → KnowsOnly made old → IsAmong (peer_of old) made → IfOk result (λ given. given ≡ (answered judged old question).0) → IfOk result (NamesOnly made)
  call_names old question (Ok given) h me is = subst (NamesOnly made) (sym is) (answer_names old question h me)
  call_names old question (Err e) h me is = tt

  pub call_knows : (old new : Node) (question : Ask) (result : Result Answer Memory) → KnowsOnly made old → BringsOnly made question → OnOk result (new ≡ (answered judged old question).1) → OnErr result (new ≡ old) → KnowsOnly made new
  call_knows old new question (Ok given) h b after kept = subst (KnowsOnly made) (sym after) (answer_knows old question h b)
  call_knows old new question (Err e) h b after kept = subst (KnowsOnly made) (sym kept) h
