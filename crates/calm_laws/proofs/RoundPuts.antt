-- A round of maintenance leaves what nodes hold so, whatever is so of each kind, key and bytes that they held before: nothing else is put.
use Rattle.std.proofs.Common.{◌≡◌, ℕ, Bool, true, false, cond, not, List, [], ◌∷◌, filter, fold, Option, Some, None, refl, sym, ap, subst}
use Rattle.std.specs.List.{AllByRecursion}
use Rattle.std.specs.Ordering.{is_eq, eq_by_cmp}
use Rattle.std.specs.declared.cmp.Ordering.{Ordering}
use Rattle.std.specs.declared.cmp.Ordering.TheVariants.{Less, Equal, Greater}
use Rattle.std.specs.FinMap.Entries.{by_order, find as value_at, put}
use Rattle.ivy_base.specs.declared.key.Key.{Key}
use Rattle.ivy_base.specs.Naming.{key_cmp}
use Rattle.ring_model.proofs.Lists.{all-among, all_weaker, filter_gives, some_same}
use Rattle.dhash_model.specs.Signed.{hss_judged}
use Rattle.dhash_model.specs.Execution.{Told}
use Rattle.dhash_model.specs.Stores.{Block, Blocks, content, content_fault, head, head_fault, without}
use Rattle.dhash_model.specs.declared.kind.BlockKind.{BlockKind}
use Rattle.dhash_model.specs.declared.kind.BlockKind.TheVariants.{Content, Head}
use Rattle.dht_ids.specs.declared.ask.Answer.{Answer}
use Rattle.dht_ids.specs.declared.ask.Ask.{Ask}
use Rattle.dht_ids.specs.declared.ask.Ask.TheVariants as ask
use Rattle.dht_ids.specs.declared.ask.StoreFault.{StoreFault}
use Rattle.dht_ids.specs.declared.peer.Peer.{Peer}
use Rattle.world_model.specs.Nodes.{Node, answered, stored}
use Rattle.world_model.specs.World.{World, node_at, with_node}
use Rattle.world_model.specs.Fates.{FateOf, Fates, asking}
use Rattle.world_model.specs.Fates.FateOf.{answers, lost, stopped}
use Rattle.world_model.specs.Fates.Fates.{none as fates_none, more as fates_more}
use Rattle.world_model.specs.Rounds.{EachDoes, ManyDo, Forgets, Notifies, Stabilises, FixesFrom, PutsAround, PutsAll, Repairs, IsRoundOf, is_other_peer, question_as}
use Rattle.world_model.specs.Rounds.EachDoes.{done as each_done, next as each_next}
use Rattle.world_model.specs.Rounds.ManyDo.{none as many_none, again as many_again}
use Rattle.world_model.specs.Rounds.Forgets.{has_none, keeps, forgets}
use Rattle.world_model.specs.Rounds.Notifies.{nobody as notifies_nobody, notifies}
use Rattle.world_model.specs.Rounds.Stabilises.{alone as stabilises_alone, drops as stabilises_drops, hears as stabilises_hears}
use Rattle.world_model.specs.Rounds.FixesFrom.{done as fixes_done, next as fixes_next}
use Rattle.world_model.specs.Rounds.PutsAround.{no_route, puts as puts_around}
use Rattle.world_model.specs.Rounds.PutsAll.{done as all_done, keeps as all_keeps, drops as all_drops}
use Rattle.round_laws.proofs.Nodes.{at_among, same_id}
use Rattle.world_laws.proofs.NodeFates.{each_replaced}

module _ (P : BlockKind → Key → List ℕ → Type 0) where
  -- so is each block of a store, and of each node
  abbrev pub AreSo : Blocks → Type 0
  AreSo blocks = AllByRecursion (λ e. P e.1.kind e.0 e.1.bytes) blocks

  abbrev pub AllAreSo : World → Type 0
  AllAreSo w = AllByRecursion (λ n. AreSo n.blocks) w.nodes

  pub found_so : (key : Key) (blocks : Blocks) (c : Block) → AreSo blocks → value_at key_cmp key blocks ≡ Some c → P c.kind key c.bytes
  found_so key [] c h f = cc f
  found_so key (e ∷ es) c h f = by (eq_by_cmp key_cmp key e.0) refl f (found_so key es c h.1)
    where
      by : (b : Bool) → eq_by_cmp key_cmp key e.0 ≡ b → cond b (Some e.1) (value_at key_cmp key es) ≡ Some c → (value_at key_cmp key es ≡ Some c → P c.kind key c.bytes) → P c.kind key c.bytes
      by true same g later = subst (λ (x : Block). P x.kind key x.bytes) (some_same e.1 c g) (subst (λ k. P e.1.kind k e.1.bytes) (sym (same_id key e.0 same)) h.0)
      by false differ g later = later g

  -- ---- asks

  abbrev IsPutSo : Ask → Type 0
  IsPutSo (ask.PutBlock key bytes) = P Content key bytes
  IsPutSo (ask.PutHead key bytes) = P Head key bytes
  IsPutSo _ = Unit {0}

  put_so : (key : Key) (block : Block) (blocks : Blocks) → P block.kind key block.bytes → AreSo blocks → AreSo (put key_cmp key block blocks)
  put_so key block [] new h = (new, tt)
  put_so key block (e ∷ es) new h = by (key_cmp key e.0) refl (put_so key block es new h.1)
    where
      by : (o : Ordering) → key_cmp key e.0 ≡ o → AreSo (put key_cmp key block es) → AreSo (by_order o ((key, block) ∷ e ∷ es) ((e.0, block) ∷ es) (e ∷ put key_cmp key block es))
      by Less is later = (new, h)
      by Equal is later = (subst (λ k. P block.kind k block.bytes) (same_id key e.0 (ap is_eq is)) new, h.1)
      by Greater is later = (h.0, later)

  stored_so : (n : Node) (key : Key) (block : Block) (fault : Option StoreFault) → P block.kind key block.bytes → AreSo n.blocks → AreSo (stored n key block fault).1.blocks
  stored_so n key block (Some fault) new h = h
  stored_so n key block None new h = put_so key block n.blocks new h

  answered_so : (n : Node) (question : Ask) → IsPutSo question → AreSo n.blocks → AreSo (answered hss_judged n question).1.blocks
  answered_so n (ask.Route key) new h = h
  answered_so n ask.Near new h = h
  answered_so n (ask.Notify peer) new h = h
  answered_so n (ask.Get key) new h = h
  answered_so n (ask.PutBlock key bytes) new h = stored_so n key (content bytes) (content_fault key bytes n.blocks) new h
  answered_so n (ask.PutHead key bytes) new h = stored_so n key (head bytes) (head_fault hss_judged key bytes n.blocks) new h

  -- a node in place of one, that holds the same or what is so
  placed_so : (w : World) (id : Key) (n now : Node) → node_at w id ≡ Some n → (AreSo n.blocks → AreSo now.blocks) → AllAreSo w → AllAreSo (with_node w now)
  placed_so w id n now is then_so h = each_replaced (λ (m : Node). AreSo m.blocks) now w.nodes (then_so (all-among (λ (m : Node). AreSo m.blocks) n w.nodes h (at_among w.nodes id n is))) h

  fate_so : {w next : World} {to : Peer} {question : Ask} {given : Answer} → FateOf hss_judged w to question given next → IsPutSo question → AllAreSo w → AllAreSo next
  fate_so (lost l) new h = h
  fate_so (stopped n l is dead) new h = h
  fate_so {w = w} {to = to} {question = question} (answers n l is live) new h = placed_so w to.id n (answered hss_judged n question).1 is (answered_so n question new) h

  fates_so : {w next : World} {asks : List (Peer × (Ask × Answer))} → Fates hss_judged w asks next → AllByRecursion (λ s. IsPutSo s.1.0) asks → AllAreSo w → AllAreSo next
  fates_so fates_none puts h = h
  fates_so (fates_more to question answer fate others) puts h = fates_so others puts.1 (fate_so fate puts.0 h)

  asked_each : (question : Ask) → IsPutSo question → (told : Told) → AllByRecursion (λ s. IsPutSo s.1.0) (asking question told)
  asked_each question h [] = tt
  asked_each question h (s ∷ told) = (h, asked_each question h told)

  pub routes_so : {w next : World} (key : Key) (told : Told) → Fates hss_judged w (asking (ask.Route key) told) next → AllAreSo w → AllAreSo next
  routes_so key told fates h = fates_so fates (asked_each (ask.Route key) tt told) h

  of_kind : (kind : BlockKind) (key : Key) (bytes : List ℕ) → P kind key bytes → IsPutSo (question_as kind key bytes)
  of_kind Content key bytes h = h
  of_kind Head key bytes h = h

  -- ---- the parts of a round

  each_so : {Does : World → Peer → World → Type 0} → ((w next : World) (p : Peer) → Does w p next → AllAreSo w → AllAreSo next) → {w next : World} {ps : List Peer} → EachDoes Does w ps next → AllAreSo w → AllAreSo next
  each_so part each_done h = h
  each_so part (each_next {w} {mid} {after} {p} does rest) h = each_so part rest (part w mid p does h)

  many_so : {Does : World → List Peer → World → Type 0} {ps : List Peer} → ((w next : World) → Does w ps next → AllAreSo w → AllAreSo next) → {k : ℕ} {w next : World} → ManyDo Does ps k w next → AllAreSo w → AllAreSo next
  many_so part many_none h = h
  many_so part (many_again {k} {w} {mid} {after} does rest) h = many_so part rest (part w mid does h)

  forgets_so : (w next : World) (p : Peer) → Forgets hss_judged w p next → AllAreSo w → AllAreSo next
  forgets_so w _ p (has_none n is none) h = h
  forgets_so w _ p (keeps n b given mid is some fate live) h = fate_so fate tt h
  forgets_so w _ p (forgets n m b mid is some fate after) h = placed_so mid p.id m _ after (λ so. so) (fate_so fate tt h)

  notifies_so : {p : Peer} {w next : World} {ps : List Peer} → Notifies hss_judged p w ps next → AllAreSo w → AllAreSo next
  notifies_so notifies_nobody h = h
  notifies_so (notifies f rest given next fate) h = fate_so fate tt h

  stabilises_so : {p : Peer} {w next : World} → Stabilises hss_judged p w next → AllAreSo w → AllAreSo next
  stabilises_so (stabilises_alone n is none) h = h
  stabilises_so {p = p} (stabilises_drops n m f rest mid is lists fate after more) h = stabilises_so more (placed_so mid p.id m _ after (λ so. so) (fate_so fate tt h))
  stabilises_so {p = p} (stabilises_hears n m f rest given mid is lists fate live after tells) h = notifies_so tells (placed_so mid p.id m _ after (λ so. so) (fate_so fate tt h))

  fixes_so : {p : Peer} {k count : ℕ} {w next : World} → FixesFrom hss_judged p k count w next → AllAreSo w → AllAreSo next
  fixes_so fixes_done h = h
  fixes_so {p = p} (fixes_next fixes rest) h =
      fixes_so rest (subst AllAreSo (sym fixes.fixed) (placed_so fixes.mid p.id fixes.node _ fixes.is_node (λ so. so) (routes_so fixes.key fixes.looks.looks fixes.looks.fates h)))

  around_so : {p : Peer} {r : ℕ} {key : Key} {block : Block} {w next : World} {dropped : Bool} → P block.kind key block.bytes → PutsAround hss_judged p r key block w dropped next → AllAreSo w → AllAreSo next
  around_so {key = key} so (no_route found next looks nobody) h = routes_so key looks.looks looks.fates h
  around_so {p = p} {key = key} {block = block} so (puts_around q qs asks mid next acknowledged dropped looks put own fates drop) h =
      fates_so fates (asked_each (question_as block.kind key block.bytes) (of_kind block.kind key block.bytes so) (filter (λ s. is_other_peer hss_judged p s.0) asks)) (routes_so key looks.looks looks.fates h)

  all_so : {p : Peer} {r : ℕ} {blocks : Blocks} {w next : World} {dropped : List Key} → AreSo blocks → PutsAll hss_judged p r blocks w dropped next → AllAreSo w → AllAreSo next
  all_so so all_done h = h
  all_so so (all_keeps around rest) h = all_so so.1 rest (around_so so.0 around h)
  all_so so (all_drops around rest) h = all_so so.1 rest (around_so so.0 around h)

  left_so : (keys : List Key) (blocks : Blocks) → AreSo blocks → AreSo (fold (λ left key. without key left) blocks keys)
  left_so [] blocks h = h
  left_so (key ∷ keys) blocks h = left_so keys (without key blocks) (filter_gives (λ e. not (eq_by_cmp key_cmp key e.0)) (λ e. P e.1.kind e.0 e.1.bytes) blocks (all_weaker _ _ blocks (λ e m pass. m) h))

  repairs_so : (r : ℕ) (w next : World) (p : Peer) → Repairs hss_judged r w p next → AllAreSo w → AllAreSo next
  repairs_so r w next p x h =
      let own = all-among (λ (m : Node). AreSo m.blocks) x.before w.nodes h (at_among w.nodes p.id x.before x.is_before) in
      subst AllAreSo (sym x.drops) (placed_so x.mid p.id x.after _ x.is_after (left_so x.dropped x.after.blocks) (all_so own x.puts h))

  pub round_so : {r : ℕ} {w next : World} → IsRoundOf hss_judged r w next → AllAreSo w → AllAreSo next
  round_so {r = r} x h =
      each_so (repairs_so r) x.repairs
      (each_so (λ v u p does. fixes_so does) x.fingers (many_so (λ v u does. each_so (λ a b p step. stabilises_so step) does) x.passes (each_so forgets_so x.forgets h)))
