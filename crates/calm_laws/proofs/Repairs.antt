-- In the fourth part of a round in a settled ring each put is taken, where there is room: what is put was held, so it may stand there, and owners live.
use Rattle.std.proofs.Common.{◌≡◌, inl, inr, ⊎_elim, ℕ, zero, suc, ◌*◌, ◌<◌, ◌≤◌, Bool, true, false, cond, not, List, [], ◌∷◌, ◌++◌, length, take, filter, refl, sym, ap, ◌∙◌, subst, Option, Some, arith, nat_le, nat_lt}
use Rattle.std.specs.List.{AllByRecursion}
use Rattle.std.specs.Ordering.{eq_by_cmp}
use Rattle.std.proofs.lemmas.Bool.{cases_lt, le-leb, lt-ltb}
use Rattle.ivy_base.specs.declared.key.Key.{Key}
use Rattle.ivy_base.specs.Naming.{key_cmp}
use Rattle.ring_model.specs.Circle.{number}
use Rattle.ring_model.specs.Lookup.{AreNames}
use Rattle.ring_model.specs.Members.{IsAmong, from_place}
use Rattle.ring_model.specs.Ring.{Links, IsSettledRing}
use Rattle.ring_model.proofs.Lists.{all-among, all-both, all_from, among-left, among-right, among_filter, among_take, some_same}
use Rattle.ring_model.proofs.Members.{from_place_live}
use Rattle.ring_model.proofs.Rounds.{lookup_right}
use Rattle.dht_ids.specs.Asked.{IsForData, routes}
use Rattle.dht_ids.specs.Peers.{place}
use Rattle.dht_ids.specs.declared.ask.Answer.{Answer}
use Rattle.dht_ids.specs.declared.ask.Ask.{Ask}
use Rattle.dht_ids.specs.declared.ask.Ask.TheVariants as ask
use Rattle.dht_ids.specs.declared.peer.Peer.{Peer}
use Rattle.dhash_model.specs.Execution.{Told}
use Rattle.dhash_model.specs.Puts.{holds}
use Rattle.dhash_model.specs.Signed.{hss_judged}
use Rattle.dhash_model.specs.Stores.{Block, Blocks}
use Rattle.dhash_model.specs.declared.kind.BlockKind.{BlockKind}
use Rattle.dhash_model.specs.declared.kind.BlockKind.TheVariants.{Content, Head}
use Rattle.world_model.specs.Nodes.{Node}
use Rattle.world_model.specs.World.{World, node_at, peer_of}
use Rattle.world_model.specs.Fates.{Fates, asking}
use Rattle.world_model.specs.Ring.{FindsNobody, LooksUp}
use Rattle.world_model.specs.Rounds.{EachDoes, PutsAll, PutsAround, Repairs, is_other_peer, question_as}
use Rattle.world_model.specs.Rounds.EachDoes.{done, next as then_does}
use Rattle.world_model.specs.Rounds.PutsAround.{no_route, puts}
use Rattle.world_model.specs.Rounds.PutsAll.{done as all_put, keeps, drops}
use Rattle.round_laws.specs.RingOf.{links_in}
use Rattle.round_laws.specs.Holding.{AllTaken, EachTaken, IsTaken}
use Rattle.round_laws.proofs.Nodes.{Shape, at, at_id, lives_by, made_by, order_by, same_id, same_place}
use Rattle.round_laws.proofs.Order.{lives_made, lives_order}
use Rattle.round_laws.proofs.Standing.{Fated, IsBase, IsWithin, fated, node_made, stands, still_asked}
use Rattle.round_laws.proofs.Standing.Fated.{silence, heard}
use Rattle.round_laws.proofs.Fixing.{fates_first, fates_none, look_up, one_at_place}
use Rattle.round_laws.proofs.Repairing.{kept_look_up, kept_repairs, put_keeps}
use Rattle.round_laws.proofs.Growing.{of_each, of_fates, of_puts, of_repairs}
use Rattle.round_laws.proofs.Holding.{dropped_from, left_held, routes_same, sorted_left}
use Rattle.calm_laws.proofs.BlockKinds.{AreApart, FitsIn, IsOf}
use Rattle.calm_laws.specs.Laws.{IsWithinLimit}
use Rattle.calm_laws.proofs.Rooms.{each_found}
use Rattle.calm_laws.proofs.Holding.{AreOrderly, asked_holds, orderly_with, put_held}
use Rattle.calm_laws.proofs.Asking.{asked_found}

-- a member is among those from a place on
pub from_all : (live : List Peer) (key : ℕ) (z : Peer) → IsAmong z live → IsAmong z (from_place place live key)
from_all live key z i = ⊎_elim
    (λ h. among-right z (filter (λ m. nat_le key (place m)) live) (filter (λ m. nat_lt (place m) key) live) (among_filter (λ m. nat_lt (place m) key) z live i (lt-ltb (place z) key h)))
    (λ h. among-left z (filter (λ m. nat_le key (place m)) live) (filter (λ m. nat_lt (place m) key) live) (among_filter (λ m. nat_le key (place m)) z live i (le-leb key (place z) h)))
    (cases_lt (place z) key)

finds_some : (k : ℕ) (z : Peer) (l : List Peer) → 0 < k → IsAmong z l → FindsNobody (Some (take k l)) → ⊥
finds_some zero z l pos i f = absurd (omega (arith, pos))
finds_some (suc k) z [] pos i f = i
finds_some (suc k) z (x ∷ l) pos i f = f

fits_so : (end : World) (kind : BlockKind) (key : Key) (bytes : List ℕ) → IsOf end key kind bytes → FitsIn end (question_as kind key bytes)
fits_so end Content key bytes of = λ is. of
fits_so end Head key bytes of = λ is. of

for_data : (kind : BlockKind) (key : Key) (bytes : List ℕ) → IsForData (question_as kind key bytes)
for_data Content key bytes = tt
for_data Head key bytes = tt

module _ (r : ℕ) (base : List Shape) (planned : List ℕ) (start last : ℕ) (b : IsBase r base planned start last) (links : Peer → Links Peer)
    (settled : IsSettledRing place r 160 (order_by base) (lives_by base) links) (few : length (made_by base) ≤ 512) (end : World) (apart : AreApart end) (room : IsWithinLimit end) where
  -- the worlds within the fourth part
  pub record IsRepairing (w : World) : Type 0 where
    pub within : IsWithin base planned start w
    pub linked : links_in w ≡ links
    pub orderly : AreOrderly end w

  abbrev all_from_key : Key → List Peer
  all_from_key key = from_place place (order_by base) (number key)

  -- a look-up finds the next 2r members
  found_is : (key : Key) (p : Peer) (found : Option (List Peer)) (w mid : World) → IsRepairing w → lives_by base p ≡ true → LooksUp hss_judged w key (p ∷ []) found mid → mid.asked ≤ last → found ≡ Some (take (2 * r) (all_from_key key))
  found_is key p found w mid h lives l q =
      let looked = look_up hss_judged r base planned start last b key p found w mid h.within (lives_made base p lives) l in
      lookup_right place r settled.positive (lives_by base) (order_by base) (links_in w) (number key) (p ∷ []) (made_by base) (routes l.looks) found settled.ascending settled.living settled.lives_all
      (λ m i. (λ j. (h.linked j m).list) ∙ settled.lists m i) names (looked.fates q) p lives (inl refl) l.lookup
    where
      names : AreNames (order_by base) (links_in w) (p ∷ []) (made_by base)
      names = record {
        few = few;
        first = λ m i. ⊎_elim (λ e. subst (λ x. IsAmong x (made_by base)) e (lives_made base p lives)) (λ n. absurd n) i;
        linked = λ n m i j.
            let made = lives_made base n (settled.lives_all n i) in
            let node = node_made hss_judged r base planned start last b w n h.within made in
            let s = stands hss_judged r base planned start last b w n node.0 h.within made node.1 in
            let k = h.within.known n.id node.0 node.1 in
            all-among (λ x. IsAmong x (made_by base)) m ((links_in w n).list ++ (links_in w n).fingers)
            (subst (λ (x : Links Peer). AllByRecursion (λ y. IsAmong y (made_by base)) (x.list ++ x.fingers)) (sym s.links) (all-both (λ x. IsAmong x (made_by base)) node.0.ring.links.list node.0.ring.links.fingers k.list k.fingers)) j;
      }

  -- ---- the same put at several that live

  each_taken : (kind : BlockKind) (key : Key) (bytes : List ℕ) → IsOf end key kind bytes → (told : Told) (asks : List (Peer × (Ask × Answer))) (w next : World) → IsRepairing w → AllByRecursion (λ s. lives_by base s.0 ≡ true) told
      → asks ≡ asking (question_as kind key bytes) told → Fates hss_judged w asks next → next.asked ≤ last → AllByRecursion (λ s. holds s.1 ≡ true) told × IsRepairing next
  each_taken kind key bytes of [] asks w next h live e fates quiet = (tt, subst IsRepairing (fates_none hss_judged w next asks e fates) h)
  each_taken kind key bytes of (s ∷ told) asks w next h live e fates quiet =
      let one = fates_first hss_judged w next asks s.0 (question_as kind key bytes) s.1 (asking (question_as kind key bytes) told) e fates in
      let grown = of_fates hss_judged one.mid next (asking (question_as kind key bytes) told) one.others in
      let fate = fated hss_judged r base planned start last b w one.mid s.0 (question_as kind key bytes) s.1 h.within one.fate in
      let a = still_asked hss_judged r base planned start last b w one.mid s.0 (question_as kind key bytes) s.1 h.within (put_keeps hss_judged kind key bytes) fate in
      let on = asked_holds end apart (for_data kind key bytes) (fits_so end kind key bytes of) h.orderly one.fate in
      let rest = each_taken kind key bytes of told (asking (question_as kind key bytes) told) one.mid next (record { within = a.within; linked = a.links ∙ h.linked; orderly = on.0 }) live.1 refl one.others quiet in
      ((held one.mid (omega (arith, quiet, grown.1)) fate, rest.0), rest.1)
    where
      held : (mid : World) → mid.asked ≤ last → Fated hss_judged r base planned start last b w s.0 (question_as kind key bytes) s.1 mid → holds s.1 ≡ true
      held mid q (silence g m l) = let no : false ≡ true = sym (l q) ∙ live.0 in absurd cc
      held mid q (heard n is t g m) = ap holds g ∙ put_held end room kind key bytes n (h.orderly s.0.id n is) of

  -- ---- one block

  around : (key : Key) (block : Block) (p : Peer) (w next : World) (dropped : Bool) → IsRepairing w → lives_by base p ≡ true → IsOf end key block.kind block.bytes → (x : PutsAround hss_judged p r key block w dropped next) → next.asked ≤ last
      → IsTaken x × IsRepairing next
  around key block p w next dropped h lives of (no_route found last_world looks none) quiet =
      let pos = settled.positive in
      absurd (finds_some (2 * r) p (all_from_key key) (omega (arith, pos)) (from_all (order_by base) (number key) p (lives_order base p lives)) (subst FindsNobody (found_is key p found w next h lives looks quiet) none))
  around key block p w next dropped h lives of (puts q qs asks mid last_world acknowledged dropping looks put own fates goes) quiet =
      (all_from (λ (s : Peer × Answer). holds s.1 ≡ true) asks (λ s i. by_peer s i (is_other_peer hss_judged p s.0) refl), taken.1)
    where
      told : Told
      told = filter (λ s. is_other_peer hss_judged p s.0) asks

      question : Ask
      question = question_as block.kind key block.bytes

      grown : mid.asked ≤ next.asked
      grown = (of_fates hss_judged mid next (asking question told) fates).1

      within_look : mid.asked ≤ last
      within_look = let g = grown in omega (arith, g, quiet)

      found : q ∷ qs ≡ take (2 * r) (all_from_key key)
      found = some_same (q ∷ qs) (take (2 * r) (all_from_key key)) (found_is key p (Some (q ∷ qs)) w mid h lives looks within_look)

      kept : IsRepairing mid
      kept =
          let look = kept_look_up hss_judged r base planned start last b key (p ∷ []) (Some (q ∷ qs)) w mid h.within looks in
          record {
            within = look.within;
            linked = look.links ∙ h.linked;
            orderly = λ id n e. h.orderly id n (sym (routes_same hss_judged r base planned start last b key looks.looks (asking (ask.Route key) looks.looks) w mid h.within refl looks.fates id) ∙ e);
          }

      asked_lives : (s : Peer × Answer) → IsAmong s asks → lives_by base s.0 ≡ true
      asked_lives s i =
          let in_found = asked_found (q ∷ qs) asks put.asks.once put.asks.firsts put.asks.order s i in
          settled.lives_all s.0 (from_place_live place (order_by base) (number key) s.0 (among_take (2 * r) s.0 (all_from_key key) (subst (IsAmong s.0) found in_found)))

      told_lives : AllByRecursion (λ s. lives_by base s.0 ≡ true) told
      told_lives = all_from (λ (s : Peer × Answer). lives_by base s.0 ≡ true) told (λ s i. asked_lives s (from_told asks s i))
        where
          from_told : (l : Told) (s : Peer × Answer) → IsAmong s (filter (λ s. is_other_peer hss_judged p s.0) l) → IsAmong s l
          from_told [] s i = absurd i
          from_told (x ∷ l) s i = test (is_other_peer hss_judged p x.0) i (from_told l s)
            where
              test : (t : Bool) → IsAmong s (cond t (x ∷ filter (λ s. is_other_peer hss_judged p s.0) l) (filter (λ s. is_other_peer hss_judged p s.0) l)) → (IsAmong s (filter (λ s. is_other_peer hss_judged p s.0) l) → IsAmong s l) → IsAmong s (x ∷ l)
              test true (inl e) later = inl e
              test true (inr j) later = inr (later j)
              test false j later = inr (later j)

      taken : AllByRecursion (λ s. holds s.1 ≡ true) told × IsRepairing next
      taken = each_taken block.kind key block.bytes of told (asking question told) mid next kept told_lives refl fates quiet

      by_peer : (s : Peer × Answer) → IsAmong s asks → (t : Bool) → is_other_peer hss_judged p s.0 ≡ t → holds s.1 ≡ true
      by_peer s i true e = all-among (λ (x : Peer × Answer). holds x.1 ≡ true) s told taken.0 (among_filter (λ (x : Peer × Answer). is_other_peer hss_judged p x.0) s asks i e)
      by_peer s i false e =
          let same : p ≡ s.0 = one_at_place (made_by base) p s.0 b.apart (lives_made base p lives) (lives_made base s.0 (asked_lives s i)) (same_place p s.0 (same_id p.id s.0.id (tied (eq_by_cmp key_cmp p.id s.0.id) e))) in
          ap holds (own s.1 (subst (λ x. IsAmong (x, s.1) asks) (sym same) i))
        where
          tied : (t : Bool) → not t ≡ false → t ≡ true
          tied true f = refl
          tied false f = cc

  -- ---- all blocks of a node

  through : (p : Peer) (blocks : Blocks) (w next : World) (dropped : List Key) → IsRepairing w → lives_by base p ≡ true → ((f : Key × Block) → IsAmong f blocks → IsOf end f.0 f.1.kind f.1.bytes) → (x : PutsAll hss_judged p r blocks w dropped next)
      → next.asked ≤ last → AllTaken x × IsRepairing next
  through p [] w next dropped h lives are all_put quiet = (tt, h)
  through p (e ∷ blocks) w next dropped h lives are (keeps {key = key} {block = block} {mid = mid} one rest) quiet =
      let grown = of_puts hss_judged p r blocks mid next dropped rest in
      let f = around key block p w mid false h lives (are (key, block) (inl refl)) one (omega (arith, quiet, grown.1)) in
      let g = through p blocks mid next dropped f.1 lives (λ x i. are x (inr i)) rest quiet in
      ((f.0, g.0), g.1)
  through p (e ∷ blocks) w next dropped h lives are (drops {key = key} {block = block} {mid = mid} {dropped = others} one rest) quiet =
      let grown = of_puts hss_judged p r blocks mid next others rest in
      let f = around key block p w mid true h lives (are (key, block) (inl refl)) one (omega (arith, quiet, grown.1)) in
      let g = through p blocks mid next others f.1 lives (λ x i. are x (inr i)) rest quiet in
      ((f.0, g.0), g.1)

  -- ---- a node's part, and all nodes

  pub repaired : (p : Peer) (w next : World) → IsRepairing w → lives_by base p ≡ true → (x : Repairs hss_judged r w p next) → next.asked ≤ last → AllTaken x.puts × IsRepairing next
  repaired p w next h lives x quiet =
      let asked : next.asked ≡ x.mid.asked = ap (λ (v : World). v.asked) x.drops in
      let before = h.orderly p.id x.before x.is_before in
      let t = through p x.before.blocks w x.mid x.dropped h lives (λ f i. before.kinds f.0 f.1 (each_found x.before.blocks before.sorted f i)) x.puts (omega (arith, quiet, asked)) in
      let kept = kept_repairs hss_judged r base planned start last b w next p h.within x in
      let after = t.1.orderly p.id x.after x.is_after in
      let now : Node = record x.after { blocks = dropped_from x.after.blocks x.dropped } in
      let here : node_at x.mid (peer_of now).id ≡ Some x.after = subst (λ k. at x.mid.nodes k ≡ Some x.after) (sym (at_id x.mid.nodes p.id x.after x.is_after)) x.is_after in (
        t.0,
        record {
          within = kept.within;
          linked = kept.links ∙ h.linked;
          orderly = subst (AreOrderly end) (sym x.drops) (orderly_with end x.mid x.after now here t.1.orderly
              (record { kinds = λ k c e. after.kinds k c (left_held k x.after.blocks x.dropped c e); sorted = sorted_left x.after.blocks x.dropped after.sorted }));
        },
      )

  pub all_repaired : (w next : World) (ps : List Peer) → IsRepairing w → ((p : Peer) → IsAmong p ps → lives_by base p ≡ true) → (x : EachDoes (Repairs hss_judged r) w ps next) → next.asked ≤ last → EachTaken x × IsRepairing next
  all_repaired w next [] h lives done quiet = (tt, h)
  all_repaired w next (p ∷ ps) h lives (then_does {mid = mid} first rest) quiet =
      let grown = of_each hss_judged (Repairs hss_judged r) (λ v u q f. of_repairs hss_judged r v u q f) mid next ps rest in
      let f = repaired p w mid h (lives p (inl refl)) first (omega (arith, quiet, grown.1)) in
      let g = all_repaired mid next ps f.1 (λ q i. lives q (inr i)) rest quiet in
      ((f.0, g.0), g.1)

  -- the whole part
  pub each_put_taken : (w next : World) (ps : List Peer) → IsWithin base planned start w → links_in w ≡ links → AreOrderly end w → ((p : Peer) → IsAmong p ps → lives_by base p ≡ true) → (x : EachDoes (Repairs hss_judged r) w ps next) → next.asked ≤ last
      → EachTaken x × AreOrderly end next
  each_put_taken w next ps within linked orderly lives x quiet =
      let done = all_repaired w next ps (record { within = within; linked = linked; orderly = orderly }) lives x quiet in
      (done.0, done.1.orderly)
