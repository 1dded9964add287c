-- In a round of maintenance each node goes on to hold blocks that were met: what is put was held before.
use Rattle.std.proofs.Common.{◌≡◌, ℕ, ◌+◌, ◌≤◌, Bool, true, false, cond, not, List, [], ◌∷◌, length, filter, fold, Option, Some, refl, sym, subst, arith, Contains}
use Rattle.std.specs.List.{AllByRecursion}
use Rattle.std.specs.Map.{values_of}
use Rattle.std.proofs.lemmas.List.Sums.{sum_by-cons}
use Rattle.std.specs.FinMap.Entries.{is_sorted-where_key}
use Rattle.std.specs.Ordering.{eq_by_cmp}
use Rattle.ivy_base.specs.declared.key.Key.{Key}
use Rattle.ivy_base.specs.Naming.{key_cmp}
use Rattle.ring_model.proofs.Lists.{all-among, all_weaker, filter_gives}
use Rattle.dht_ids.specs.declared.ask.Answer.{Answer}
use Rattle.dht_ids.specs.declared.ask.Ask.{Ask}
use Rattle.dht_ids.specs.declared.ask.Ask.TheVariants as ask
use Rattle.dht_ids.specs.declared.judge.Judged.{Judged}
use Rattle.dht_ids.specs.declared.peer.Peer.{Peer}
use Rattle.dhash_model.specs.Execution.{Told}
use Rattle.dhash_model.specs.Stores.{Block, Blocks, bytes_held, without}
use Rattle.dhash_model.specs.declared.kind.BlockKind.{BlockKind}
use Rattle.dhash_model.specs.declared.kind.BlockKind.TheVariants.{Content, Head}
use Rattle.node_store.specs.Stores.{IsStore}
use Rattle.world_model.specs.Nodes.{Node}
use Rattle.world_model.specs.World.{World, node_at, with_node}
use Rattle.world_model.specs.Fates.{FateOf, Fates, asking}
use Rattle.world_model.specs.Fates.Fates.{none as fates_none, more as fates_more}
use Rattle.world_model.specs.Rounds.{EachDoes, ManyDo, Forgets, Notifies, Stabilises, FixesFrom, PutsAround, PutsAll, Repairs, IsRoundOf, is_other_peer, question_as}
use Rattle.world_model.specs.Rounds.EachDoes.{done as each_done, next as each_next}
use Rattle.world_model.specs.Rounds.ManyDo.{none as many_none, again as many_again}
use Rattle.world_model.specs.Rounds.Forgets.{has_none, keeps, forgets}
use Rattle.world_model.specs.Rounds.Notifies.{nobody as notifies_nobody, notifies}
use Rattle.world_model.specs.Rounds.Stabilises.{alone as stabilises_alone, drops as stabilises_drops, hears as stabilises_hears}
use Rattle.world_model.specs.Rounds.FixesFrom.{done as fixes_done, next as fixes_next}
use Rattle.world_model.specs.Rounds.PutsAround.{no_route, puts as puts_around}
use Rattle.world_model.specs.Rounds.PutsAll.{done as all_done, keeps as all_keeps, drops as all_drops}
use Rattle.round_laws.proofs.Nodes.{at_among}
use Rattle.world_laws.proofs.NodeFates.{HoldsMet, PutsMet, each_replaced, fate_met}
use Rattle.world_laws.proofs.StoredBlocks.{from_sorted, to_sorted}

-- ---- blocks that are dropped

one_held : (e : Key × Block) (es : Blocks) → bytes_held (e ∷ es) ≡ length e.1.bytes + bytes_held es
one_held e es = sum_by-cons (λ (b : Block). length b.bytes) e.1 (values_of es)

fewer_bytes : (test : Key → Bool) (blocks : Blocks) → bytes_held (filter (λ e. test e.0) blocks) ≤ bytes_held blocks
fewer_bytes test [] = omega arith
fewer_bytes test (e ∷ es) = by (test e.0) (fewer_bytes test es)
  where
    by : (b : Bool) → bytes_held (filter (λ f. test f.0) es) ≤ bytes_held es → bytes_held (cond b (e ∷ filter (λ f. test f.0) es) (filter (λ f. test f.0) es)) ≤ bytes_held (e ∷ es)
    by true h = let both : bytes_held (e ∷ filter (λ f. test f.0) es) ≤ bytes_held (e ∷ es) = omega (arith, h, one_held e es, one_held e (filter (λ f. test f.0) es)) in both
    by false h = let less : bytes_held (filter (λ f. test f.0) es) ≤ bytes_held (e ∷ es) = omega (arith, h, one_held e es) in less

module _ (met : List (List ℕ)) where
  abbrev MetBlocks : Blocks → Type 0
  MetBlocks blocks = IsStore blocks × AllByRecursion (λ e. Contains met e.1.bytes) blocks

  without_met : (key : Key) (blocks : Blocks) → MetBlocks blocks → MetBlocks (without key blocks)
  without_met key blocks h = (
    record {
      ascending = from_sorted (without key blocks) (is_sorted-where_key key_cmp (λ k. not (eq_by_cmp key_cmp key k)) blocks (to_sorted blocks h.0.ascending));
      within = omega (arith, fewer_bytes (λ k. not (eq_by_cmp key_cmp key k)) blocks, h.0.within);
    },
    filter_gives (λ e. not (eq_by_cmp key_cmp key e.0)) (λ e. Contains met e.1.bytes) blocks (all_weaker _ _ blocks (λ e m pass. m) h.1),
  )

  pub all_without : (keys : List Key) (blocks : Blocks) → MetBlocks blocks → MetBlocks (fold (λ left key. without key left) blocks keys)
  all_without [] blocks h = h
  all_without (key ∷ keys) blocks h = all_without keys (without key blocks) (without_met key blocks h)

  -- ---- asks

  abbrev pub AllHold : World → Type 0
  AllHold w = AllByRecursion (HoldsMet met) w.nodes

  abbrev Asks : Type 0
  Asks = List (Peer × (Ask × Answer))

  pub placed_hold : (w : World) (id : Key) (n now : Node) → node_at w id ≡ Some n → now.blocks ≡ n.blocks → AllHold w → AllHold (with_node w now)
  placed_hold w id n now is same h = each_replaced (HoldsMet met) now w.nodes (subst MetBlocks (sym same) (all-among (HoldsMet met) n w.nodes h (at_among w.nodes id n is))) h

  asked_each : (question : Ask) → PutsMet met question → (told : Told) → AllByRecursion (λ s. PutsMet met s.1.0) (asking question told)
  asked_each question h [] = tt
  asked_each question h (s ∷ told) = (h, asked_each question h told)

  pub of_kind : (kind : BlockKind) (key : Key) (bytes : List ℕ) → Contains met bytes → PutsMet met (question_as kind key bytes)
  of_kind Content key bytes h = h
  of_kind Head key bytes h = h

  each_hold : {Does : World → Peer → World → Type 0} → ((w next : World) (p : Peer) → Does w p next → AllHold w → AllHold next) → {w next : World} {ps : List Peer} → EachDoes Does w ps next → AllHold w → AllHold next
  each_hold part each_done h = h
  each_hold part (each_next {w} {mid} {after} {p} does rest) h = each_hold part rest (part w mid p does h)

  many_hold : {Does : World → List Peer → World → Type 0} {ps : List Peer} → ((w next : World) → Does w ps next → AllHold w → AllHold next) → {k : ℕ} {w next : World} → ManyDo Does ps k w next → AllHold w → AllHold next
  many_hold part many_none h = h
  many_hold part (many_again {k} {w} {mid} {after} does rest) h = many_hold part rest (part w mid does h)

  module _ {judged : Key → List ℕ → Option Judged} where
    pub fates_hold : {w next : World} {asks : Asks} → Fates judged w asks next → AllByRecursion (λ s. PutsMet met s.1.0) asks → AllHold w → AllHold next
    fates_hold fates_none puts h = h
    fates_hold (fates_more {w} {mid} {next} {rest} to question answer fate others) puts h = fates_hold others puts.1 (fate_met judged met w mid to question answer puts.0 h fate)

    one_hold : {w next : World} {to : Peer} {question : Ask} {answer : Answer} → FateOf judged w to question answer next → PutsMet met question → AllHold w → AllHold next
    one_hold {w} {next} {to} {question} {answer} fate puts h = fate_met judged met w next to question answer puts h fate

    pub routes_hold : {w next : World} (key : Key) (told : Told) → Fates judged w (asking (ask.Route key) told) next → AllHold w → AllHold next
    routes_hold key told fates h = fates_hold fates (asked_each (ask.Route key) tt told) h

    -- ---- the parts

    forgets_hold : (w next : World) (p : Peer) → Forgets judged w p next → AllHold w → AllHold next
    forgets_hold w _ p (has_none n is none) h = h
    forgets_hold w _ p (keeps n b given mid is some fate live) h = one_hold fate tt h
    forgets_hold w _ p (forgets n m b mid is some fate after) h = placed_hold mid p.id m _ after refl (one_hold fate tt h)

    notifies_hold : {p : Peer} {w next : World} {ps : List Peer} → Notifies judged p w ps next → AllHold w → AllHold next
    notifies_hold notifies_nobody h = h
    notifies_hold (notifies f rest given next fate) h = one_hold fate tt h

    stabilises_hold : {p : Peer} {w next : World} → Stabilises judged p w next → AllHold w → AllHold next
    stabilises_hold (stabilises_alone n is none) h = h
    stabilises_hold {p = p} (stabilises_drops n m f rest mid is lists fate after more) h = stabilises_hold more (placed_hold mid p.id m _ after refl (one_hold fate tt h))
    stabilises_hold {p = p} (stabilises_hears n m f rest given mid is lists fate live after tells) h = notifies_hold tells (placed_hold mid p.id m _ after refl (one_hold fate tt h))

    fixes_hold : {p : Peer} {k count : ℕ} {w next : World} → FixesFrom judged p k count w next → AllHold w → AllHold next
    fixes_hold fixes_done h = h
    fixes_hold {p = p} (fixes_next fixes rest) h =
        fixes_hold rest (subst AllHold (sym fixes.fixed) (placed_hold fixes.mid p.id fixes.node _ fixes.is_node refl (routes_hold fixes.key fixes.looks.looks fixes.looks.fates h)))

    around_hold : {p : Peer} {r : ℕ} {key : Key} {block : Block} {w next : World} {dropped : Bool} → Contains met block.bytes → PutsAround judged p r key block w dropped next → AllHold w → AllHold next
    around_hold {key = key} block_met (no_route found next looks nobody) h = routes_hold key looks.looks looks.fates h
    around_hold {p = p} {key = key} {block = block} block_met (puts_around q qs asks mid next acknowledged dropped looks put own fates drop) h =
        fates_hold fates (asked_each (question_as block.kind key block.bytes) (of_kind block.kind key block.bytes block_met) (filter (λ s. is_other_peer judged p s.0) asks)) (routes_hold key looks.looks looks.fates h)

    all_hold : {p : Peer} {r : ℕ} {blocks : Blocks} {w next : World} {dropped : List Key} → AllByRecursion (λ e. Contains met e.1.bytes) blocks → PutsAll judged p r blocks w dropped next → AllHold w → AllHold next
    all_hold blocks_met all_done h = h
    all_hold blocks_met (all_keeps around rest) h = all_hold blocks_met.1 rest (around_hold blocks_met.0 around h)
    all_hold blocks_met (all_drops around rest) h = all_hold blocks_met.1 rest (around_hold blocks_met.0 around h)

    repairs_hold : (r : ℕ) (w next : World) (p : Peer) → Repairs judged r w p next → AllHold w → AllHold next
    repairs_hold r w next p x h =
        let own = all-among (HoldsMet met) x.before w.nodes h (at_among w.nodes p.id x.before x.is_before) in
        let mid = all_hold own.1 x.puts h in
        let after = all-among (HoldsMet met) x.after x.mid.nodes mid (at_among x.mid.nodes p.id x.after x.is_after) in
        subst AllHold (sym x.drops) (each_replaced (HoldsMet met) (record x.after { blocks = fold (λ left key. without key left) x.after.blocks x.dropped }) x.mid.nodes (all_without x.dropped x.after.blocks after) mid)

    pub round_hold : {r : ℕ} {w next : World} → IsRoundOf judged r w next → AllHold w → AllHold next
    round_hold {r = r} x h =
        each_hold (repairs_hold r) x.repairs
        (each_hold (λ v u p does. fixes_hold does) x.fingers (many_hold (λ v u does. each_hold (λ a b p step. stabilises_hold step) does) x.passes (each_hold forgets_hold x.forgets h)))
