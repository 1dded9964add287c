-- A round changes nothing but the nodes and the count of asks, which grows.
use Rattle.std.proofs.Common.{◌≡◌, ℕ, zero, suc, ◌≤◌, Bool, List, [], ◌∷◌, refl, sym, ap, ◌∙◌, Option, arith, le_refl}
use Rattle.ivy_base.specs.declared.key.Key.{Key}
use Rattle.dht_ids.specs.declared.ask.Answer.{Answer}
use Rattle.dht_ids.specs.declared.ask.Answer.TheVariants as answer
use Rattle.dht_ids.specs.declared.ask.Ask.{Ask}
use Rattle.dht_ids.specs.declared.ask.Ask.TheVariants as ask
use Rattle.dht_ids.specs.declared.judge.Judged.{Judged}
use Rattle.dht_ids.specs.declared.peer.Peer.{Peer}
use Rattle.dhash_model.specs.Stores.{Block, Blocks}
use Rattle.dhash_model.specs.State.{stabilised}
use Rattle.world_model.specs.World.{World, with_node}
use Rattle.world_model.specs.Fates.{FateOf, Fates}
use Rattle.world_model.specs.Fates.FateOf.{lost as was_lost, stopped as was_stopped, answers as was_answered}
use Rattle.world_model.specs.Fates.Fates.{none as no_asks, more as one_ask}
use Rattle.world_model.specs.Rounds.{EachDoes, FixesFinger, FixesFrom, Forgets, IsRoundOf, ManyDo, Notifies, PutsAll, PutsAround, Repairs, Stabilises, listing_now}
use Rattle.world_model.specs.Rounds.EachDoes.{done, next as then_does}
use Rattle.world_model.specs.Rounds.ManyDo.{none as not_once, again as once_more}
use Rattle.world_model.specs.Rounds.Forgets.{has_none, keeps, forgets}
use Rattle.world_model.specs.Rounds.Notifies.{nobody, notifies}
use Rattle.world_model.specs.Rounds.Stabilises.{alone, drops, hears}
use Rattle.world_model.specs.Rounds.FixesFrom.{done as no_more, next as then_fixes}
use Rattle.world_model.specs.Rounds.PutsAround.{no_route, puts}
use Rattle.world_model.specs.Rounds.PutsAll.{done as all_put, keeps as keeps_one, drops as drops_one}

abbrev pub Grows : World → World → Type 0
Grows w next = (next ≡ record w { nodes = next.nodes; asked = next.asked }) × (w.asked ≤ next.asked)

grows_none : (w : World) → Grows w w
grows_none w = (refl, le_refl w.asked)

grows_both : (w mid next : World) → Grows w mid → Grows mid next → Grows w next
grows_both w mid next f g = (g.0 ∙ ap (λ (v : World). record v { nodes = next.nodes; asked = next.asked }) f.0, omega (arith, f.1, g.1))

-- where only nodes differ from one that grew
grows_at : (w mid next : World) → Grows w mid → next ≡ record mid { nodes = next.nodes } → Grows w next
grows_at w mid next f e = let asked : next.asked ≡ mid.asked = ap (λ (v : World). v.asked) e in (
  e ∙ ap (λ (v : World). record v { nodes = next.nodes }) f.0 ∙ ap (λ k. record w { nodes = next.nodes; asked = k }) (sym asked),
  omega (arith, f.1, asked),
)

module _ (judged : Key → List ℕ → Option Judged) where
  of_fate : (w next : World) (to : Peer) (question : Ask) (given : Answer) → FateOf judged w to question given next → Grows w next
  of_fate w next to question given (was_lost l) = (refl, omega arith)
  of_fate w next to question given (was_stopped n l e s) = (refl, omega arith)
  of_fate w next to question given (was_answered n l e s) = (refl, omega arith)

  pub of_fates : (w next : World) (asks : List (Peer × (Ask × Answer))) → Fates judged w asks next → Grows w next
  of_fates w next asks no_asks = grows_none w
  of_fates w next asks (one_ask {mid = mid} {rest = rest} to question given fate later) = grows_both w mid next (of_fate w mid to question given fate) (of_fates mid next rest later)

  of_forgets : (w next : World) (p : Peer) → Forgets judged w p next → Grows w next
  of_forgets w next p (has_none n e none) = grows_none w
  of_forgets w next p (keeps n f given mid e is fate d) = of_fate w mid f ask.Near given fate
  of_forgets w next p (forgets n m f mid e is fate e2) = grows_at w mid next (of_fate w mid f ask.Near answer.Silent fate) refl

  of_notifies : (p : Peer) (w next : World) (list : List Peer) → Notifies judged p w list next → Grows w next
  of_notifies p w next list nobody = grows_none w
  of_notifies p w next list (notifies f rest given last fate) = of_fate w last f (ask.Notify p) given fate

  of_stabilises : (p : Peer) (w next : World) → Stabilises judged p w next → Grows w next
  of_stabilises p w next (alone n e none) = grows_none w
  of_stabilises p w next (drops n m f rest mid e l fate e2 later) =
      let now : World = with_node mid (listing_now m rest) in
      grows_both w now next (grows_at w mid now (of_fate w mid f ask.Near answer.Silent fate) refl) (of_stabilises p now next later)
  of_stabilises p w next (hears n m f rest given mid e l fate d e2 notice) =
      let list : List Peer = stabilised m.ring (f ∷ rest) given in
      let now : World = with_node mid (listing_now m list) in
      grows_both w now next (grows_at w mid now (of_fate w mid f ask.Near given fate) refl) (of_notifies p now next list notice)

  of_finger : (p : Peer) (k : ℕ) (w next : World) → FixesFinger judged p k w next → Grows w next
  of_finger p k w next x = grows_at w x.mid next (of_fates w x.mid _ x.looks.fates) (x.fixed ∙ ap (λ (v : World). record x.mid { nodes = v.nodes }) (sym x.fixed))

  of_fingers : (p : Peer) (k count : ℕ) (w next : World) → FixesFrom judged p k count w next → Grows w next
  of_fingers p k zero w next no_more = grows_none w
  of_fingers p k (suc count) w next (then_fixes {mid = mid} first rest) = grows_both w mid next (of_finger p k w mid first) (of_fingers p (suc k) count mid next rest)

  of_put : (p : Peer) (r : ℕ) (key : Key) (block : Block) (w next : World) (dropped : Bool) → PutsAround judged p r key block w dropped next → Grows w next
  of_put p r key block w next dropped (no_route found last looks none) = of_fates w last _ looks.fates
  of_put p r key block w next dropped (puts q qs asks mid last acknowledged dropping looks is_put own fates goes) = grows_both w mid last (of_fates w mid _ looks.fates) (of_fates mid last _ fates)

  pub of_puts : (p : Peer) (r : ℕ) (blocks : Blocks) (w next : World) (dropped : List Key) → PutsAll judged p r blocks w dropped next → Grows w next
  of_puts p r [] w next dropped all_put = grows_none w
  of_puts p r (e ∷ blocks) w next dropped (keeps_one {key = key} {block = block} {mid = mid} one rest) = grows_both w mid next (of_put p r key block w mid _ one) (of_puts p r blocks mid next dropped rest)
  of_puts p r (e ∷ blocks) w next dropped (drops_one {key = key} {block = block} {mid = mid} {dropped = others} one rest) = grows_both w mid next (of_put p r key block w mid _ one) (of_puts p r blocks mid next others rest)

  pub of_repairs : (r : ℕ) (w next : World) (p : Peer) → Repairs judged r w p next → Grows w next
  of_repairs r w next p x = grows_at w x.mid next (of_puts p r x.before.blocks w x.mid x.dropped x.puts) (x.drops ∙ ap (λ (v : World). record x.mid { nodes = v.nodes }) (sym x.drops))

  pub of_each : (Does : World → Peer → World → Type 0) → ((w next : World) (p : Peer) → Does w p next → Grows w next) → (w next : World) (ps : List Peer) → EachDoes Does w ps next → Grows w next
  of_each Does g w next [] done = grows_none w
  of_each Does g w next (p ∷ ps) (then_does {mid = mid} first rest) = grows_both w mid next (g w mid p first) (of_each Does g mid next ps rest)

  of_many : (Does : World → List Peer → World → Type 0) (ps : List Peer) → ((w next : World) → Does w ps next → Grows w next) → (k : ℕ) (w next : World) → ManyDo Does ps k w next → Grows w next
  of_many Does ps g zero w next not_once = grows_none w
  of_many Does ps g (suc k) w next (once_more {mid = mid} first rest) = grows_both w mid next (g w mid first) (of_many Does ps g k mid next rest)

  pub round_grows : (r : ℕ) (w next : World) → IsRoundOf judged r w next → Grows w next
  round_grows r w next x =
      grows_both w x.one next (of_each (Forgets judged) (λ v u p f. of_forgets v u p f) w x.one _ x.forgets)
      (grows_both x.one x.two next (of_many (EachDoes (λ v p. Stabilises judged p v)) _ (λ v u d. of_each (λ v p. Stabilises judged p v) (λ a c p f. of_stabilises p a c f) v u _ d) _ x.one x.two x.passes)
      (grows_both x.two x.three next (of_each (λ v p. FixesFrom judged p 0 160 v) (λ v u p f. of_fingers p 0 160 v u f) x.two x.three _ x.fingers)
      (of_each (Repairs judged r) (λ v u p f. of_repairs r v u p f) x.three next _ x.repairs)))
