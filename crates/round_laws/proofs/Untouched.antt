-- The first three parts of a round touch no block.
use Rattle.std.proofs.Common.{◌≡◌, ⊎_elim, ℕ, zero, suc, Bool, true, false, cond, List, [], ◌∷◌, refl, sym, ap, ◌∙◌, subst, Option, Some, None, T, nat_eq, option_map, option_and_then}
use Rattle.std.specs.FinMap.Entries.{find as value_at, is_sorted}
use Rattle.ivy_base.specs.declared.key.Key.{Key}
use Rattle.ivy_base.specs.Naming.{key_cmp}
use Rattle.dht_ids.specs.declared.ask.Answer.{Answer}
use Rattle.dht_ids.specs.declared.ask.Answer.TheVariants as answer
use Rattle.dht_ids.specs.declared.ask.Ask.{Ask}
use Rattle.dht_ids.specs.declared.ask.Ask.TheVariants as ask
use Rattle.dht_ids.specs.declared.judge.Judged.{Judged}
use Rattle.dht_ids.specs.declared.peer.Peer.{Peer}
use Rattle.dhash_model.specs.Execution.{Told}
use Rattle.ring_model.specs.Round.{with_finger}
use Rattle.ring_model.proofs.Lists.{none_some, some_same}
use Rattle.dhash_model.specs.State.{stabilised, with_links}
use Rattle.dhash_model.specs.Stores.{Block, Blocks}
use Rattle.world_model.specs.Nodes.{Node, answered}
use Rattle.world_model.specs.World.{World, node_at, peer_of, with_node}
use Rattle.world_model.specs.Fates.{FateOf, Fates, asking, ask_counted}
use Rattle.world_model.specs.Fates.FateOf.{lost as was_lost, stopped as was_stopped, answers as was_answered}
use Rattle.world_model.specs.Rounds.{EachDoes, FixesFinger, FixesFrom, Forgets, IsRoundOf, ManyDo, Notifies, Stabilises, listing_now}
use Rattle.world_model.specs.Rounds.EachDoes.{done, next as then_does}
use Rattle.world_model.specs.Rounds.ManyDo.{none as not_once, again as once_more}
use Rattle.world_model.specs.Rounds.Forgets.{has_none, keeps, forgets}
use Rattle.world_model.specs.Rounds.Notifies.{nobody, notifies}
use Rattle.world_model.specs.Rounds.Stabilises.{alone, drops, hears}
use Rattle.world_model.specs.Rounds.FixesFrom.{done as no_more, next as then_fixes}
use Rattle.world_model.specs.RingOf.{own_node}
use Rattle.world_model.specs.Holding.{held_in}
use Rattle.round_laws.proofs.Nodes.{at, at_id, at_other, at_same, replaced, same_or_not}
use Rattle.round_laws.proofs.Fixing.{fates_first, fates_none}

-- the node, and what it holds
abbrev pub store : Node → Peer × Blocks
store n = (peer_of n, n.blocks)

abbrev pub Untouched : World → World → Type 0
Untouched w next = (id : Key) → option_map store (node_at next id) ≡ option_map store (node_at w id)

both : (w mid next : World) → Untouched w mid → Untouched mid next → Untouched w next
both w mid next f g id = g id ∙ f id

of_node : (w : World) (id : Key) (old n : Node) → node_at w id ≡ Some old → store n ≡ store old → Untouched w (with_node w n)
of_node w id old n e s other =
    let here : at w.nodes (peer_of n).id ≡ Some old = subst (λ k. at w.nodes k ≡ Some old) (sym (at_id w.nodes id old e) ∙ ap (λ (x : Peer × Blocks). x.0.id) (sym s)) e in
    ⊎_elim
    (λ same. subst (λ k. option_map store (at (replaced n w.nodes) k) ≡ option_map store (at w.nodes k)) same (ap (option_map store) (at_same w.nodes n old here) ∙ ap (λ x. Some x) s ∙ sym (ap (option_map store) here)))
    (λ d. ap (option_map store) (at_other w.nodes n other d))
    (same_or_not (peer_of n).id other)

module _ (judged : Key → List ℕ → Option Judged) where
  of_fate : (w next : World) (to : Peer) (question : Ask) (given : Answer) → ((n : Node) → store (answered judged n question).1 ≡ store n) → FateOf judged w to question given next → Untouched w next
  of_fate w next to question given s (was_lost l) id = refl
  of_fate w next to question given s (was_stopped n l e f) id = refl
  of_fate w next to question given s (was_answered n l e f) id = of_node (ask_counted w) to.id n (answered judged n question).1 e (s n) id

  of_routes : (key : Key) (told : Told) (asks : List (Peer × (Ask × Answer))) (w next : World) → asks ≡ asking (ask.Route key) told → Fates judged w asks next → Untouched w next
  of_routes key [] asks w next e fates = λ id. ap (λ (v : World). option_map store (node_at v id)) (sym (fates_none judged w next asks e fates))
  of_routes key (s ∷ told) asks w next e fates =
      let one = fates_first judged w next asks s.0 (ask.Route key) s.1 (asking (ask.Route key) told) e fates in
      both w one.mid next (of_fate w one.mid s.0 (ask.Route key) s.1 (λ n. refl) one.fate) (of_routes key told (asking (ask.Route key) told) one.mid next refl one.others)

  of_forgets : (w next : World) (p : Peer) → Forgets judged w p next → Untouched w next
  of_forgets w next p (has_none n e none) = λ id. refl
  of_forgets w next p (keeps n f given mid e is fate d) = of_fate w mid f ask.Near given (λ n. refl) fate
  of_forgets w next p (forgets n m f mid e is fate e2) = both w mid next (of_fate w mid f ask.Near answer.Silent (λ n. refl) fate) (of_node mid p.id m (record m { ring = with_links m.ring (record m.ring.links { before = None }) }) e2 refl)

  of_notifies : (p : Peer) (w next : World) (list : List Peer) → Notifies judged p w list next → Untouched w next
  of_notifies p w next list nobody = λ id. refl
  of_notifies p w next list (notifies f rest given last fate) = of_fate w last f (ask.Notify p) given (λ n. refl) fate

  of_stabilises : (p : Peer) (w next : World) → Stabilises judged p w next → Untouched w next
  of_stabilises p w next (alone n e none) = λ id. refl
  of_stabilises p w next (drops n m f rest mid e l fate e2 later) =
      let now : World = with_node mid (listing_now m rest) in
      both w mid next (of_fate w mid f ask.Near answer.Silent (λ n. refl) fate) (both mid now next (of_node mid p.id m (listing_now m rest) e2 refl) (of_stabilises p now next later))
  of_stabilises p w next (hears n m f rest given mid e l fate d e2 notice) =
      let list : List Peer = stabilised m.ring (f ∷ rest) given in
      let now : World = with_node mid (listing_now m list) in
      both w mid next (of_fate w mid f ask.Near given (λ n. refl) fate) (both mid now next (of_node mid p.id m (listing_now m list) e2 refl) (of_notifies p now next list notice))

  of_finger : (p : Peer) (k : ℕ) (w next : World) → FixesFinger judged p k w next → Untouched w next
  of_finger p k w next x =
      let now : Node = record x.node { ring = with_links x.node.ring (with_finger k x.found x.node.ring.links) } in
      both w x.mid next (of_routes x.key x.looks.looks (asking (ask.Route x.key) x.looks.looks) w x.mid refl x.looks.fates)
      (subst (Untouched x.mid) (sym x.fixed) (of_node x.mid p.id x.node now x.is_node refl))

  of_fingers : (p : Peer) (k count : ℕ) (w next : World) → FixesFrom judged p k count w next → Untouched w next
  of_fingers p k zero w next no_more = λ id. refl
  of_fingers p k (suc count) w next (then_fixes {mid = mid} first rest) = both w mid next (of_finger p k w mid first) (of_fingers p (suc k) count mid next rest)

  of_each : (Does : World → Peer → World → Type 0) → ((w next : World) (p : Peer) → Does w p next → Untouched w next) → (w next : World) (ps : List Peer) → EachDoes Does w ps next → Untouched w next
  of_each Does g w next [] done = λ id. refl
  of_each Does g w next (p ∷ ps) (then_does {mid = mid} first rest) = both w mid next (g w mid p first) (of_each Does g mid next ps rest)

  of_many : (Does : World → List Peer → World → Type 0) (ps : List Peer) → ((w next : World) → Does w ps next → Untouched w next) → (k : ℕ) (w next : World) → ManyDo Does ps k w next → Untouched w next
  of_many Does ps g zero w next not_once = λ id. refl
  of_many Does ps g (suc k) w next (once_more {mid = mid} first rest) = both w mid next (g w mid first) (of_many Does ps g k mid next rest)

  pub parts_untouched : (r : ℕ) (w next : World) (x : IsRoundOf judged r w next) → Untouched w x.three
  parts_untouched r w next x =
      both w x.one x.three (of_each (Forgets judged) (λ v u p f. of_forgets v u p f) w x.one _ x.forgets)
      (both x.one x.two x.three (of_many (EachDoes (λ v p. Stabilises judged p v)) _ (λ v u d. of_each (λ v p. Stabilises judged p v) (λ a c p f. of_stabilises p a c f) v u _ d) _ x.one x.two x.passes)
      (of_each (λ v p. FixesFrom judged p 0 160 v) (λ v u p f. of_fingers p 0 160 v u f) x.two x.three _ x.fingers))

-- ---- what is held

abbrev held_by : Key → Peer → Option (Peer × Blocks) → Option Block
held_by key p None = None
held_by key p (Some s) = cond (nat_eq s.0.number p.number) (value_at key_cmp key s.1) None

held_store : (w : World) (key : Key) (p : Peer) → held_in w key p ≡ held_by key p (option_map store (node_at w p.id))
held_store w key p = by (node_at w p.id)
  where
    test : (n : Node) (t : Bool) → option_and_then (λ (n : Node). value_at key_cmp key n.blocks) (cond t (Some n) None) ≡ cond t (value_at key_cmp key n.blocks) None
    test n true = refl
    test n false = refl

    by : (o : Option Node) → option_and_then (λ (n : Node). value_at key_cmp key n.blocks) (own_node p o) ≡ held_by key p (option_map store o)
    by None = refl
    by (Some n) = test n (nat_eq (peer_of n).number p.number)

pub held_untouched : (w next : World) → Untouched w next → (key : Key) (p : Peer) → held_in next key p ≡ held_in w key p
held_untouched w next u key p = held_store next key p ∙ ap (held_by key p) (u p.id) ∙ sym (held_store w key p)

pub sorted_untouched : (w next : World) → Untouched w next → ((id : Key) (n : Node) → node_at w id ≡ Some n → T (is_sorted key_cmp n.blocks)) → (id : Key) (n : Node) → node_at next id ≡ Some n → T (is_sorted key_cmp n.blocks)
sorted_untouched w next u h id n e = by (node_at w id) refl (sym (ap (option_map store) e) ∙ u id)
  where
    by : (o : Option Node) → node_at w id ≡ o → Some (store n) ≡ option_map store (node_at w id) → T (is_sorted key_cmp n.blocks)
    by None f s = absurd (none_some (store n) (sym (s ∙ ap (option_map store) f)))
    by (Some m) f s = let same : store n ≡ store m = some_same (store n) (store m) (s ∙ ap (option_map store) f) in subst (λ (x : Peer × Blocks). T (is_sorted key_cmp x.1)) (sym same) (h id m f)
