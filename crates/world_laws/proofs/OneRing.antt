-- Lines of the ring lead to one world: a ring is made in one way, a node joins in one way, and a round of maintenance is one, whatever is lost.
use Rattle.std.proofs.Common.{◌≡◌, ⊎_elim, inl, inr, ℕ, zero, suc, ◌+◌, ◌*◌, ◌<◌, ◌≤◌, Bool, true, false, List, [], ◌∷◌, length, fold, not, Option, Some, None, refl, sym, ap, ◌∙◌, subst, arith, Contains}
use Rattle.std.specs.Prelude.{get_or, nat_lt, ◌^◌, ◌&&◌}
use Rattle.std.proofs.lemmas.Bool.{cases_lt, ltb-true}
use Rattle.std.proofs.Math.Nat.{add-mul, mul-le-mul_right}
use Rattle.std.specs.List.{AllByRecursion, list_all}
use Rattle.std.specs.Ordering.{eq_by_cmp}
use Rattle.ivy_base.specs.Naming.{key_cmp}
use Rattle.ring_model.proofs.Lists.{among_take, cons_head, cons_tail, nil_cons}
use Rattle.ring_model.specs.Gets.{AreAsks, AreFirsts, IsPutTrail, answered_in, nodes}
use Rattle.ring_model.specs.Gets.AreFirsts.{none as firsts_none, again as firsts_again, new as firsts_new}
use Rattle.dhash_model.specs.Puts.{holds, is_of_put}
use Rattle.round_laws.specs.RingOf.{AreNodes}
use Rattle.round_laws.proofs.Fixing.{look_up, one_at_place}
use Rattle.round_laws.proofs.Nodes.{Shape, made_by, order_shape, same_id, same_place}
use Rattle.round_laws.proofs.Order.{lives_made, order_lives}
use Rattle.round_laws.proofs.Repairing.{kept_put, kept_repairs}
use Rattle.round_laws.proofs.Rounding.{base_of, rounded_from, shapes_of}
use Rattle.round_laws.proofs.Standing.{IsBase, IsWithin}
use Rattle.ivy_base.specs.declared.key.Key.{Key}
use Rattle.log_model.specs.Spelling.{IsKey}
use Rattle.ring_model.specs.Circle.{be_number, number}
use Rattle.ring_model.specs.Members.{IsAmong}
use Rattle.ring_model.specs.Round.{with_finger}
use Rattle.dht_ids.proofs.Numbers.{AreBytes, be_number_below}
use Rattle.dht_ids.specs.declared.ask.Answer.{Answer}
use Rattle.dht_ids.specs.declared.ask.Answer.TheVariants as answer
use Rattle.dht_ids.specs.declared.ask.Ask.{Ask}
use Rattle.dht_ids.specs.declared.judge.Judged.{Judged}
use Rattle.dht_ids.specs.declared.peer.Peer.{Peer}
use Rattle.dhash_model.specs.Execution.{Told}
use Rattle.dhash_model.specs.Settled.{IsSettledNode}
use Rattle.dhash_model.specs.State.{State, stabilised, with_links}
use Rattle.dhash_model.specs.Stores.{Block, Blocks, without}
use Rattle.script_driver.specs.Run.{Goes}
use Rattle.world_model.specs.Fates.{FateOf, Fates}
use Rattle.world_model.specs.Nodes.{Node}
use Rattle.world_model.specs.Ring.{AreSettled, FindsNobody, JoinLine, LooksUp, RingLine, empty_node, joined_node, live_in_order, peer_numbered, with_new_node}
use Rattle.world_model.specs.Ring.AreSettled.{none as none_settled, more as more_settled}
use Rattle.world_model.specs.Ring.JoinLine.{alone as joins_alone, joins, fails}
use Rattle.world_model.specs.Ring.RingLine.{makes}
use Rattle.world_model.specs.Rounds.{EachDoes, FixesFinger, FixesFrom, Forgets, IsDropped, IsRoundOf, ManyDo, Notifies, PutsAll, PutsAround, Repairs, Stabilises, asks_of_others, is_other_peer, listing_now, question_as}
use Rattle.world_model.specs.Rounds.EachDoes.{done as each_done, next as each_next}
use Rattle.world_model.specs.Rounds.ManyDo.{none as many_none, again as many_again}
use Rattle.world_model.specs.Rounds.Forgets.{has_none, keeps, forgets}
use Rattle.world_model.specs.Rounds.Notifies.{nobody as notifies_nobody, notifies}
use Rattle.world_model.specs.Rounds.Stabilises.{alone as stabilises_alone, drops as stabilises_drops, hears as stabilises_hears}
use Rattle.world_model.specs.Rounds.FixesFrom.{done as fixes_done, next as fixes_next}
use Rattle.world_model.specs.Rounds.PutsAround.{no_route, puts as puts_around}
use Rattle.world_model.specs.Rounds.PutsAll.{done as all_done, keeps as all_keeps, drops as all_drops}
use Rattle.world_model.specs.World.{World, node_at, with_node}
use Rattle.world_laws.proofs.OneAsks.{looks_one, owners_one}
use Rattle.world_laws.proofs.OneExecution.{one_acknowledged}
use Rattle.world_laws.proofs.OneHeard.{one_fate, one_node}

-- ---- numbers of keys

and_left : (a b : Bool) → (a && b) ≡ true → a ≡ true
and_left true b e = refl
and_left false b e = cc e

and_right : (a b : Bool) → (a && b) ≡ true → b ≡ true
and_right true b e = e
and_right false b e = cc e

byte_at : (xs : List ℕ) → list_all (λ b. nat_lt b 256) xs ≡ true → AreBytes xs
byte_at [] h i = omega arith
byte_at (x ∷ xs) h zero = ltb-true x 256 (and_left (nat_lt x 256) (list_all (λ b. nat_lt b 256) xs) h)
byte_at (x ∷ xs) h (suc i) = byte_at xs (and_right (nat_lt x 256) (list_all (λ b. nat_lt b 256) xs) h) i

one_more : (a p : ℕ) → (a + 1) * p ≡ a * p + p
one_more a p = omega (arith, add-mul a 1 p)

digit_less : (a b p m n : ℕ) → a < b → m < p → a * p + m ≡ b * p + n → ⊥
digit_less a b p m n less small same =
    let far : (a + 1) * p ≤ b * p = mul-le-mul_right p (omega (arith, less)) in
    let one : (a + 1) * p ≡ a * p + p = one_more a p in
    omega (arith, far, one, small, same)

same_digit : (a b p m n : ℕ) → m < p → n < p → a * p + m ≡ b * p + n → a ≡ b
same_digit a b p m n small little same = ⊎_elim
    (λ less. absurd (digit_less a b p m n less small same))
    (λ most. ⊎_elim (λ less. absurd (digit_less b a p n m less little (sym same))) (λ least. omega (arith, most, least)) (cases_lt b a))
    (cases_lt a b)

add_cancel : (a b m n : ℕ) → a ≡ b → a + m ≡ b + n → m ≡ n
add_cancel a b m n same both = omega (arith, same, both)

one_number : (xs ys : List ℕ) → length xs ≡ length ys → list_all (λ b. nat_lt b 256) xs ≡ true → list_all (λ b. nat_lt b 256) ys ≡ true → be_number xs ≡ be_number ys → xs ≡ ys
one_number [] [] size f g same = refl
one_number [] (y ∷ ys) size f g same = absurd (omega (arith, size))
one_number (x ∷ xs) [] size f g same = absurd (omega (arith, size))
one_number (x ∷ xs) (y ∷ ys) size f g same =
    let sizes : length xs ≡ length ys = omega (arith, size) in
    let f_rest : list_all (λ b. nat_lt b 256) xs ≡ true = and_right (nat_lt x 256) (list_all (λ b. nat_lt b 256) xs) f in
    let g_rest : list_all (λ b. nat_lt b 256) ys ≡ true = and_right (nat_lt y 256) (list_all (λ b. nat_lt b 256) ys) g in
    let small : be_number xs < 256 ^ length xs = be_number_below xs (byte_at xs f_rest) in
    let little : be_number ys < 256 ^ length xs = subst (λ (n : ℕ). be_number ys < 256 ^ n) (sym sizes) (be_number_below ys (byte_at ys g_rest)) in
    let both : x * 256 ^ length xs + be_number xs ≡ y * 256 ^ length xs + be_number ys = same ∙ ap (λ (n : ℕ). y * 256 ^ n + be_number ys) (sym sizes) in
    let first : x ≡ y = same_digit x y (256 ^ length xs) (be_number xs) (be_number ys) small little both in
    let rest : xs ≡ ys = one_number xs ys sizes f_rest g_rest (add_cancel (x * 256 ^ length xs) (y * 256 ^ length xs) (be_number xs) (be_number ys) (ap (λ (a : ℕ). a * 256 ^ length xs) first) both) in
    λ i. first i ∷ rest i

one_key : (a b : Key) → IsKey a → IsKey b → number a ≡ number b → a ≡ b
one_key a b f g same = let bytes : a.0 ≡ b.0 = one_number a.0 b.0 (f.size ∙ sym g.size) f.each g.each same in λ i. record { 0 = bytes i }

-- ---- a ring that is made

some_peer : (a b : Peer) → Some a ≡ Some b → a ≡ b
some_peer a b e = cc e

one_list : (xs ys : List Peer) (d : Peer) → length xs ≡ length ys → ((k : ℕ) → k < length xs → get_or xs k d ≡ get_or ys k d) → xs ≡ ys
one_list [] [] d size each = refl
one_list [] (y ∷ ys) d size each = absurd (omega (arith, size))
one_list (x ∷ xs) [] d size each = absurd (omega (arith, size))
one_list (x ∷ xs) (y ∷ ys) d size each =
    let first : x ≡ y = each zero (omega arith) in
    let rest : xs ≡ ys = one_list xs ys d (omega (arith, size)) (λ k less. each (suc k) (omega (arith, less))) in
    λ i. first i ∷ rest i

one_state : (live : List Peer) (me : Peer) (r : ℕ) (a b : State) → IsSettledNode live me r a → IsSettledNode live me r b → a ≡ b
one_state live me r a b f g = λ i. record { me = its i; replicas = owners i; links = record { list = list i; before = before i; fingers = fingers i } }
  where
    its : a.me ≡ b.me
    its = f.itself ∙ sym g.itself

    owners : a.replicas ≡ b.replicas
    owners = f.replicas ∙ sym g.replicas

    list : a.links.list ≡ b.links.list
    list = f.list ∙ sym g.list

    before : a.links.before ≡ b.links.before
    before = f.before ∙ sym g.before

    fingers : a.links.fingers ≡ b.links.fingers
    fingers = one_list a.links.fingers b.links.fingers me (f.fingers.sized ∙ sym g.fingers.sized)
        (λ k less. let few : k < 160 = subst (λ (n : ℕ). k < n) f.fingers.sized less in some_peer (get_or a.links.fingers k me) (get_or b.links.fingers k me) (f.fingers.right k few ∙ sym (g.fingers.right k few)))

one_ring : {live : List Peer} {r : ℕ} {peers : List Peer} {a b : List Node} → AreSettled live r peers a → AreSettled live r peers b → a ≡ b
one_ring none_settled none_settled = refl
one_ring {live} {r} (more_settled {p = p} state is rest) (more_settled other also others) =
    let same : state ≡ other = one_state live p r state other is also in
    let later = one_ring rest others in
    λ i. empty_node (same i) ∷ later i

true_or_false : (b : Bool) → b ≡ true → b ≡ false → ⊥
true_or_false b f g = cc (sym f ∙ g)

pub ring_one : (w : World) (count r : ℕ) (one other : World) (text words : List ℕ) → RingLine w count r (Goes one text) → RingLine w count r (Goes other words) → (one ≡ other) × (text ≡ words)
ring_one w count r _ _ _ _ (makes nodes allowed few settled) (makes others again little settling) =
    let same = one_ring settled settling in ((λ i. record w { replicas = Some r; nodes = same i }), refl)

-- ---- a node that joins

module _ (judged : Key → List ℕ → Option Judged) where
  nobody_or_some : (o : Option (List Peer)) (p : Peer) (ps : List Peer) → FindsNobody o → o ≡ Some (p ∷ ps) → ⊥
  nobody_or_some o p ps nobody is = subst FindsNobody is nobody

  first_found : (p q : Peer) (ps qs : List Peer) → Some (p ∷ ps) ≡ Some (q ∷ qs) → p ∷ ps ≡ q ∷ qs
  first_found p q ps qs e = cc e

  none_or_some : (o : Option Peer) (p : Peer) → o ≡ None → o ≡ Some p → ⊥
  none_or_some o p e f = cc (sym e ∙ f)

  pub join_one : (w : World) (node : ℕ) (o : Option ℕ) (one other : World) (text words : List ℕ) → JoinLine judged w node o (Goes one text) → JoinLine judged w node o (Goes other words) → (one ≡ other) × (text ≡ words)
  join_one w node _ _ _ _ _ (joins_alone r new few none) (joins_alone s newer fewer nobody) = (refl, refl)
  join_one w node _ _ _ _ _ (joins_alone r new few none) (joins s through p ps next newer fewer least looks) = absurd (none_or_some _ through none least)
  join_one w node _ _ _ _ _ (joins_alone r new few none) (fails s through found next newer fewer least looks nobody) = absurd (none_or_some _ through none least)
  join_one w node _ _ _ _ _ (joins r through p ps next new few least looks) (joins_alone s newer fewer none) = absurd (none_or_some _ through none least)
  join_one w node _ _ _ _ _ (joins r through p ps next new few least looks) (joins s via q qs after newer fewer lowest looking) =
      let same : through ≡ via = some_peer through via (sym least ∙ lowest) in
      let both = looks_one judged w (peer_numbered node).id (through ∷ []) (Some (p ∷ ps)) (Some (q ∷ qs)) next after looks (subst (λ (x : Peer). LooksUp judged w (peer_numbered node).id (x ∷ []) (Some (q ∷ qs)) after) (sym same) looking) in
      let list = first_found p q ps qs both.0 in
      ((λ i. with_new_node (both.1 i) (joined_node (peer_numbered node) r (list i))), refl)
  join_one w node _ _ _ _ _ (joins r through p ps next new few least looks) (fails s via found after newer fewer lowest looking nobody) =
      let same : through ≡ via = some_peer through via (sym least ∙ lowest) in
      let both = looks_one judged w (peer_numbered node).id (through ∷ []) (Some (p ∷ ps)) found next after looks (subst (λ (x : Peer). LooksUp judged w (peer_numbered node).id (x ∷ []) found after) (sym same) looking) in
      absurd (nobody_or_some found p ps nobody (sym both.0))
  join_one w node _ _ _ _ _ (fails r through found next new few least looks nobody) (joins_alone s newer fewer none) = absurd (none_or_some _ through none least)
  join_one w node _ _ _ _ _ (fails r through found next new few least looks nobody) (joins s via q qs after newer fewer lowest looking) =
      let same : through ≡ via = some_peer through via (sym least ∙ lowest) in
      let both = looks_one judged w (peer_numbered node).id (through ∷ []) found (Some (q ∷ qs)) next after looks (subst (λ (x : Peer). LooksUp judged w (peer_numbered node).id (x ∷ []) (Some (q ∷ qs)) after) (sym same) looking) in
      absurd (nobody_or_some found q qs nobody both.0)
  join_one w node _ _ _ _ _ (fails r through found next new few least looks nobody) (fails s via other after newer fewer lowest looking nobody_too) =
      let same : through ≡ via = some_peer through via (sym least ∙ lowest) in
      let both = looks_one judged w (peer_numbered node).id (through ∷ []) found other next after looks (subst (λ (x : Peer). LooksUp judged w (peer_numbered node).id (x ∷ []) other after) (sym same) looking) in
      (both.1, refl)

  -- ---- rounds: one part after the other

  each_one : {Does : World → Peer → World → Type 0} → ((w u v : World) (p : Peer) → Does w p u → Does w p v → u ≡ v) → {w u v : World} {ps : List Peer} → EachDoes Does w ps u → EachDoes Does w ps v → u ≡ v
  each_one one each_done each_done = refl
  each_one {Does} one {v = v} (each_next {w} {mid} {after} {p} {ps} does rest) (each_next {mid = between} also others) =
      each_one one rest (subst (λ (m : World). EachDoes Does m ps v) (sym (one w mid between p does also)) others)

  many_one : {Does : World → List Peer → World → Type 0} {ps : List Peer} → ((w u v : World) → Does w ps u → Does w ps v → u ≡ v) → {k : ℕ} {w u v : World} → ManyDo Does ps k w u → ManyDo Does ps k w v → u ≡ v
  many_one one many_none many_none = refl
  many_one {Does} {ps} one {v = v} (many_again {k} {w} {mid} {after} does rest) (many_again {mid = between} also others) =
      many_one one rest (subst (λ (m : World). ManyDo Does ps k m v) (sym (one w mid between does also)) others)

  -- ---- 1

  node_before : (n m : Node) (b : Peer) → n ≡ m → n.ring.links.before ≡ None → m.ring.links.before ≡ Some b → ⊥
  node_before n m b same none some = cc (sym none ∙ ap (λ (x : Node). x.ring.links.before) same ∙ some)

  same_before : (n m : Node) (b c : Peer) → n ≡ m → n.ring.links.before ≡ Some b → m.ring.links.before ≡ Some c → b ≡ c
  same_before n m b c same f g = some_peer b c (sym f ∙ ap (λ (x : Node). x.ring.links.before) same ∙ g)

  at_peer : {w x : World} {b c : Peer} {question : Ask} {given : Answer} → b ≡ c → FateOf judged w c question given x → FateOf judged w b question given x
  at_peer {w} {x} {question = question} {given = given} same fate = subst (λ (n : Peer). FateOf judged w n question given x) (sym same) fate

  forgets_one : (w u v : World) (p : Peer) → Forgets judged w p u → Forgets judged w p v → u ≡ v
  forgets_one w _ _ p (has_none n is none) (has_none m also nothing) = refl
  forgets_one w _ _ p (has_none n is none) (keeps m c got between also someone fated living) = absurd (node_before n m c (one_node n m (sym is ∙ also)) none someone)
  forgets_one w _ _ p (has_none n is none) (forgets m k c between also someone fated then_it) = absurd (node_before n m c (one_node n m (sym is ∙ also)) none someone)
  forgets_one w _ _ p (keeps n b given mid is some fate live) (has_none m also nothing) = absurd (node_before m n b (one_node m n (sym also ∙ is)) nothing some)
  forgets_one w _ _ p (keeps n b given mid is some fate live) (keeps m c got between also someone fated living) = (one_fate fate (at_peer (same_before n m b c (one_node n m (sym is ∙ also)) some someone) fated)).1
  forgets_one w _ _ p (keeps n b given mid is some fate live) (forgets m k c between also someone fated then_it) =
      absurd (live (one_fate fate (at_peer (same_before n m b c (one_node n m (sym is ∙ also)) some someone) fated)).0)
  forgets_one w _ _ p (forgets n k b mid is some fate after) (has_none m also nothing) = absurd (node_before m n b (one_node m n (sym also ∙ is)) nothing some)
  forgets_one w _ _ p (forgets n k b mid is some fate after) (keeps m c got between also someone fated living) =
      absurd (living (sym (one_fate fate (at_peer (same_before n m b c (one_node n m (sym is ∙ also)) some someone) fated)).0))
  forgets_one w _ _ p (forgets n k b mid is some fate after) (forgets m l c between also someone fated then_it) =
      let one : mid ≡ between = (one_fate fate (at_peer (same_before n m b c (one_node n m (sym is ∙ also)) some someone) fated)).1 in
      let node : k ≡ l = one_node k l (sym after ∙ ap (λ (x : World). node_at x p.id) one ∙ then_it) in
      λ i. with_node (one i) (record (node i) { ring = with_links (node i).ring (record (node i).ring.links { before = None }) })

  -- ---- 2

  notifies_one : {p : Peer} {w u v : World} {ps : List Peer} → Notifies judged p w ps u → Notifies judged p w ps v → u ≡ v
  notifies_one notifies_nobody notifies_nobody = refl
  notifies_one (notifies f rest given next fate) (notifies g others got after fated) = (one_fate fate fated).1

  empty_or_first : (n m : Node) (f : Peer) (rest : List Peer) → n ≡ m → n.ring.links.list ≡ [] → m.ring.links.list ≡ f ∷ rest → ⊥
  empty_or_first n m f rest same none some = nil_cons f rest (sym none ∙ ap (λ (x : Node). x.ring.links.list) same ∙ some)

  same_listed : (n m : Node) (xs ys : List Peer) → n ≡ m → n.ring.links.list ≡ xs → m.ring.links.list ≡ ys → xs ≡ ys
  same_listed n m xs ys same f g = sym f ∙ ap (λ (x : Node). x.ring.links.list) same ∙ g

  stabilises_one : {p : Peer} {w u v : World} → Stabilises judged p w u → Stabilises judged p w v → u ≡ v
  stabilises_one (stabilises_alone n is none) (stabilises_alone m also nothing) = refl
  stabilises_one (stabilises_alone n is none) (stabilises_drops m k f rest mid also lists fate after more) = absurd (empty_or_first n m f rest (one_node n m (sym is ∙ also)) none lists)
  stabilises_one (stabilises_alone n is none) (stabilises_hears m k f rest given mid also lists fate live after tells) = absurd (empty_or_first n m f rest (one_node n m (sym is ∙ also)) none lists)
  stabilises_one (stabilises_drops m k f rest mid also lists fate after more) (stabilises_alone n is none) = absurd (empty_or_first n m f rest (one_node n m (sym is ∙ also)) none lists)
  stabilises_one (stabilises_hears m k f rest given mid also lists fate live after tells) (stabilises_alone n is none) = absurd (empty_or_first n m f rest (one_node n m (sym is ∙ also)) none lists)
  stabilises_one {p} {v = v} (stabilises_drops n k f rest mid is lists fate after more) (stabilises_drops m l g others between also listing fated then_it later) =
      let list = same_listed n m (f ∷ rest) (g ∷ others) (one_node n m (sym is ∙ also)) lists listing in
      let one : mid ≡ between = (one_fate fate (at_peer (cons_head f rest g others list) fated)).1 in
      let node : k ≡ l = one_node k l (sym after ∙ ap (λ (x : World). node_at x p.id) one ∙ then_it) in
      let next : with_node mid (listing_now k rest) ≡ with_node between (listing_now l others) = (λ i. with_node (one i) (listing_now (node i) (cons_tail f rest g others list i))) in
      stabilises_one more (subst (λ (x : World). Stabilises judged p x v) (sym next) later)
  stabilises_one (stabilises_drops n k f rest mid is lists fate after more) (stabilises_hears m l g others given between also listing fated live then_it tells) =
      let list = same_listed n m (f ∷ rest) (g ∷ others) (one_node n m (sym is ∙ also)) lists listing in
      absurd (live (sym (one_fate fate (at_peer (cons_head f rest g others list) fated)).0))
  stabilises_one (stabilises_hears n k f rest given mid is lists fate live after tells) (stabilises_drops m l g others between also listing fated then_it later) =
      let list = same_listed n m (f ∷ rest) (g ∷ others) (one_node n m (sym is ∙ also)) lists listing in
      absurd (live (one_fate fate (at_peer (cons_head f rest g others list) fated)).0)
  stabilises_one {p} {v = v} (stabilises_hears n k f rest given mid is lists fate live after tells) (stabilises_hears m l g others got between also listing fated living then_it telling) =
      let list = same_listed n m (f ∷ rest) (g ∷ others) (one_node n m (sym is ∙ also)) lists listing in
      let both = one_fate fate (at_peer (cons_head f rest g others list) fated) in
      let node : k ≡ l = one_node k l (sym after ∙ ap (λ (x : World). node_at x p.id) both.1 ∙ then_it) in
      let new : stabilised k.ring (f ∷ rest) given ≡ stabilised l.ring (g ∷ others) got = (λ i. stabilised (node i).ring (list i) (both.0 i)) in
      notifies_one tells (subst (λ (x : World × List Peer). Notifies judged p x.0 x.1 v) (sym (λ i. (with_node (both.1 i) (listing_now (node i) (new i)), new i))) telling)

  -- ---- 3

  fixes_finger_one : {p : Peer} {k : ℕ} {w u v : World} → FixesFinger judged p k w u → FixesFinger judged p k w v → u ≡ v
  fixes_finger_one {p} {k} {w} f g =
      let key : f.key ≡ g.key = one_key f.key g.key f.is_key g.is_key (f.starts ∙ sym g.starts) in
      let both = looks_one judged w f.key (p ∷ []) f.found g.found f.mid g.mid f.looks (subst (λ (x : Key). LooksUp judged w x (p ∷ []) g.found g.mid) (sym key) g.looks) in
      let node : f.node ≡ g.node = one_node f.node g.node (sym f.is_node ∙ ap (λ (x : World). node_at x p.id) both.1 ∙ g.is_node) in
      f.fixed ∙ (λ i. with_node (both.1 i) (record (node i) { ring = with_links (node i).ring (with_finger k (both.0 i) (node i).ring.links) })) ∙ sym g.fixed

  fixes_one : {p : Peer} {k count : ℕ} {w u v : World} → FixesFrom judged p k count w u → FixesFrom judged p k count w v → u ≡ v
  fixes_one fixes_done fixes_done = refl
  fixes_one {p} {v = v} (fixes_next {k} {count} {w} {mid} {after} fixes rest) (fixes_next {mid = between} also others) =
      fixes_one rest (subst (λ (m : World). FixesFrom judged p (suc k) count m v) (sym (fixes_finger_one fixes also)) others)

  -- ---- 4

  dropped_one : (p : Peer) (asks : Told) (acknowledged a b : Bool) → IsDropped p asks acknowledged a → IsDropped p asks acknowledged b → a ≡ b
  dropped_one p asks acknowledged true true f g = refl
  dropped_one p asks acknowledged true false f g = absurd (f.1 (g f.0))
  dropped_one p asks acknowledged false true f g = absurd (g.1 (f g.0))
  dropped_one p asks acknowledged false false f g = refl

-- ---- who is asked in a put around a node

among_nodes : (asks : Told) (y : Peer × Answer) → IsAmong y asks → IsAmong y.0 (nodes asks)
among_nodes [] y h = h
among_nodes (x ∷ asks) y h = ⊎_elim (λ same. inl (ap (λ (z : Peer × Answer). z.0) same)) (λ later. inr (among_nodes asks y later)) h

among_firsts : {seen ps qs : List Peer} (x : Peer) → AreFirsts seen ps qs → IsAmong x qs → IsAmong x ps
among_firsts x firsts_none h = h
among_firsts x (firsts_again seen_it rest) h = inr (among_firsts x rest h)
among_firsts x (firsts_new not_seen rest) h = ⊎_elim (λ same. inl same) (λ later. inr (among_firsts x rest later)) h

asked_owner : (owners : List Peer) (IsEnough : Told → Type 0) (asks : Told) (a : AreAsks owners IsEnough asks) (y : Peer × Answer) → IsAmong y asks → IsAmong y.0 owners
asked_owner owners IsEnough asks a y h = among_firsts y.0 a.firsts (among_take (length asks) y.0 a.once (subst (IsAmong y.0) a.order (among_nodes asks y h)))

not_other : (t : Bool) → not t ≡ false → t ≡ true
not_other true e = refl
not_other false e = cc e

each_made : (made ps : List Peer) → AllByRecursion (λ q. IsAmong q made) ps → (x : Peer) → IsAmong x ps → IsAmong x made
each_made made [] all x h = absurd h
each_made made (p ∷ ps) all x h = ⊎_elim (λ same. subst (λ (y : Peer). IsAmong y made) same all.0) (λ later. each_made made ps all.1 x later) h

module _ (judged : Key → List ℕ → Option Judged) (r : ℕ) (base : List Shape) (planned : List ℕ) (began end : ℕ) (b : IsBase r base planned began end) where
  abbrev Within : World → Type 0
  Within w = IsWithin base planned began w

  -- who counts at its own place is the node itself
  own_given : (p : Peer) → IsAmong p (made_by base) → (q : Peer) (qs : List Peer) (asks : Told) → AllByRecursion (λ x. IsAmong x (made_by base)) (q ∷ qs) → AreAsks (q ∷ qs) (λ t. r ≤ answered_in is_of_put t) asks
      → ((given : Answer) → IsAmong (p, given) asks → given ≡ answer.Stored) → (y : Peer × Answer) → IsAmong y asks → is_other_peer judged p y.0 ≡ false → y.1 ≡ answer.Stored
  own_given p made q qs asks all a own y among not_it =
      let id : p.id ≡ y.0.id = same_id p.id y.0.id (not_other (eq_by_cmp key_cmp p.id y.0.id) not_it) in
      let there : IsAmong y.0 (made_by base) = each_made (made_by base) (q ∷ qs) all y.0 (asked_owner (q ∷ qs) (λ t. r ≤ answered_in is_of_put t) asks a y among) in
      let same : y.0 ≡ p = one_at_place (made_by base) y.0 p b.apart there made (same_place y.0 p (sym id)) in
      own y.1 (subst (λ (x : Peer). IsAmong (x, y.1) asks) same among)

  around_one : (p : Peer) → IsAmong p (made_by base) → (key : Key) (block : Block) (w u v : World) (one other : Bool) → Within w → PutsAround judged p r key block w one u → PutsAround judged p r key block w other v → (one ≡ other) × (u ≡ v)
  around_one p made key block w _ _ _ _ h (no_route found next looks nobody) (no_route also after looking nobody_too) = (refl, (looks_one judged w key (p ∷ []) found also next after looks looking).1)
  around_one p made key block w _ _ _ _ h (no_route found next looks nobody) (puts_around q qs asks mid after acknowledged drops looking put own fates drop) =
      absurd (nobody_or_some judged found q qs nobody (looks_one judged w key (p ∷ []) found (Some (q ∷ qs)) next mid looks looking).0)
  around_one p made key block w _ _ _ _ h (puts_around q qs asks mid after acknowledged drops looking put own fates drop) (no_route found next looks nobody) =
      absurd (nobody_or_some judged found q qs nobody (looks_one judged w key (p ∷ []) found (Some (q ∷ qs)) next mid looks looking).0)
  around_one p made key block w _ _ _ _ h (puts_around q qs asks mid after acknowledged drops looks put own fates drop) (puts_around o os others between then_it held dropping looking putting owned fated dropped) =
      let both = looks_one judged w key (p ∷ []) (Some (q ∷ qs)) (Some (o ∷ os)) mid between looks looking in
      let list : o ∷ os ≡ q ∷ qs = sym (first_found judged q o qs os both.0) in
      let found : AllByRecursion (λ x. IsAmong x (made_by base)) (q ∷ qs) = (look_up judged r base planned began end b key p (Some (q ∷ qs)) w mid h made looks).made in
      let second : IsPutTrail is_of_put holds r (q ∷ qs) others held = subst (λ (l : List Peer). IsPutTrail is_of_put holds r l others held) list putting in
      let left = owners_one judged (question_as block.kind key block.bytes) (is_other_peer judged p) answer.Stored (λ t. r ≤ answered_in is_of_put t) (q ∷ qs) asks others mid after then_it put.asks second.asks
      (own_given p made q qs asks found put.asks own) (own_given p made q qs others found second.asks owned) fates
      (subst (λ (m : World). Fates judged m (asks_of_others judged p (question_as block.kind key block.bytes) others) then_it) (sym both.1) fated) in
      let acked : acknowledged ≡ held = one_acknowledged r (q ∷ qs) others acknowledged held (subst (λ (t : Told). IsPutTrail is_of_put holds r (q ∷ qs) t acknowledged) left.0 put) second in
      (dropped_one judged p others held drops dropping (subst (λ (t : Told). IsDropped p t held drops) left.0 (subst (λ (k : Bool). IsDropped p asks k drops) acked drop)) dropped, left.1)

  all_one : (p : Peer) → IsAmong p (made_by base) → (blocks : Blocks) (w u v : World) (ds es : List Key) → Within w → PutsAll judged p r blocks w ds u → PutsAll judged p r blocks w es v → (ds ≡ es) × (u ≡ v)
  all_one p made [] w _ _ _ _ h all_done all_done = (refl, refl)
  all_one p made (e ∷ blocks) w u v ds es h (all_keeps {key = key} {block = block} {mid = mid} around rest) (all_keeps {mid = between} also others) =
      let same = around_one p made key block w mid between false false h around also in
      all_one p made blocks mid u v ds es (kept_put judged r base planned began end b p key block w mid false h around).within rest (subst (λ (m : World). PutsAll judged p r blocks m es v) (sym same.1) others)
  all_one p made (e ∷ blocks) w u v ds _ h (all_keeps {key = key} {block = block} {mid = mid} around rest) (all_drops {mid = between} {dropped = es} also others) =
      absurd (true_or_false false (around_one p made key block w mid between false true h around also).0 refl)
  all_one p made (e ∷ blocks) w u v _ es h (all_drops {key = key} {block = block} {mid = mid} {dropped = ds} around rest) (all_keeps {mid = between} also others) =
      absurd (true_or_false false (sym (around_one p made key block w mid between true false h around also).0) refl)
  all_one p made (e ∷ blocks) w u v _ _ h (all_drops {key = key} {block = block} {mid = mid} {dropped = ds} around rest) (all_drops {mid = between} {dropped = es} also others) =
      let same = around_one p made key block w mid between true true h around also in
      let later = all_one p made blocks mid u v ds es (kept_put judged r base planned began end b p key block w mid true h around).within rest (subst (λ (m : World). PutsAll judged p r blocks m es v) (sym same.1) others) in
      (ap (λ (l : List Key). key ∷ l) later.0, later.1)

  repairs_one : (p : Peer) → IsAmong p (made_by base) → (w u v : World) → Within w → Repairs judged r w p u → Repairs judged r w p v → u ≡ v
  repairs_one p made w u v h f g =
      let node : f.before ≡ g.before = one_node f.before g.before (sym f.is_before ∙ g.is_before) in
      let left = all_one p made f.before.blocks w f.mid g.mid f.dropped g.dropped h f.puts (subst (λ (n : Node). PutsAll judged p r n.blocks w g.dropped g.mid) (sym node) g.puts) in
      let after : f.after ≡ g.after = one_node f.after g.after (sym f.is_after ∙ ap (λ (x : World). node_at x p.id) left.1 ∙ g.is_after) in
      f.drops ∙ (λ i. with_node (left.1 i) (record (after i) { blocks = fold (λ blocks key. without key blocks) (after i).blocks (left.0 i) })) ∙ sym g.drops

  all_repairs_one : (ps : List Peer) → AllByRecursion (λ p. IsAmong p (made_by base)) ps → (w u v : World) → Within w → EachDoes (Repairs judged r) w ps u → EachDoes (Repairs judged r) w ps v → u ≡ v
  all_repairs_one [] made w _ _ h each_done each_done = refl
  all_repairs_one (p ∷ ps) made w u v h (each_next {mid = mid} does rest) (each_next {mid = between} also others) =
      all_repairs_one ps made.1 mid u v (kept_repairs judged r base planned began end b w mid p h does).within rest
      (subst (λ (m : World). EachDoes (Repairs judged r) m ps v) (sym (repairs_one p made.0 w mid between h does also)) others)

-- ---- the whole

module _ (judged : Key → List ℕ → Option Judged) (r : ℕ) (w : World) (ring : AreNodes r w) where
  none_planned : (k : ℕ) → w.asked < k → k ≤ w.asked → Contains w.lost k → ⊥
  none_planned k above most lost = omega (arith, above, most)

  base : IsBase r (shapes_of w) w.lost w.asked w.asked
  base = base_of r w w.asked ring none_planned

  made_all : (ps : List Peer) → ((p : Peer) → IsAmong p ps → IsAmong p (live_in_order w)) → AllByRecursion (λ p. IsAmong p (made_by (shapes_of w))) ps
  made_all [] all = tt
  made_all (p ∷ ps) all = (lives_made (shapes_of w) p (order_lives (shapes_of w) p base.apart (subst (IsAmong p) (order_shape w) (all p (inl refl)))), made_all ps (λ q h. all q (inr h)))

  pub round_one : (next after : World) → IsRoundOf judged r w next → IsRoundOf judged r w after → next ≡ after
  round_one next after x y = all_repairs_one judged r (shapes_of w) w.lost w.asked w.asked base (live_in_order w) (made_all (live_in_order w) (λ p h. h)) x.three next after
      (rounded_from judged r w next w.asked ring none_planned x).within_three x.repairs (subst (λ (m : World). EachDoes (Repairs judged r) m (live_in_order w) after) (sym three) y.repairs)
    where
      one : x.one ≡ y.one
      one = each_one judged (forgets_one judged) x.forgets y.forgets

      two : x.two ≡ y.two
      two = many_one judged {Does = EachDoes (λ v p. Stabilises judged p v)} (λ a u v f g. each_one judged {Does = λ z p. Stabilises judged p z} (λ z m n p h k. stabilises_one judged h k) f g) x.passes
          (subst (λ (m : World). ManyDo (EachDoes (λ v p. Stabilises judged p v)) (live_in_order w) (suc (2 * r)) m y.two) (sym one) y.passes)

      three : x.three ≡ y.three
      three = each_one judged {Does = λ v p. FixesFrom judged p 0 160 v} (λ a u v p f g. fixes_one judged f g) x.fingers
          (subst (λ (m : World). EachDoes (λ v p. FixesFrom judged p 0 160 v) m (live_in_order w) y.three) (sym two) y.fingers)
