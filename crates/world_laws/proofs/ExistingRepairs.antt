-- The fourth part of a round can be done in each ring, and so a whole round: each block is put at its owners, of whom the node itself isn't asked.
use Rattle.std.proofs.Common.{◌≡◌, ◌⊎◌, inl, inr, ⊎_elim, ℕ, suc, ◌*◌, ◌≤◌, Bool, true, false, cond, not, List, [], ◌∷◌, ◌++◌, filter, Option, Some, None, refl, sym, ap, ◌∙◌, subst, arith, Contains}
use Rattle.std.specs.Prelude.{IfSome, fold}
use Rattle.std.specs.List.{AllByRecursion}
use Rattle.std.specs.Ordering.{eq_by_cmp}
use Rattle.ivy_base.specs.declared.key.Key.{Key}
use Rattle.ivy_base.specs.Naming.{key_cmp}
use Rattle.dhash_model.specs.Signed.{hss_judged}
use Rattle.ring_model.specs.Gets.{answered_in, nodes}
use Rattle.ring_model.specs.Members.{IsAmong}
use Rattle.ring_model.proofs.Lists.{all-among, all_from}
use Rattle.dht_ids.specs.declared.ask.Answer.{Answer}
use Rattle.dht_ids.specs.declared.ask.Answer.TheVariants as answer
use Rattle.dht_ids.specs.declared.ask.Ask.{Ask}
use Rattle.dht_ids.specs.declared.peer.Peer.{Peer}
use Rattle.dhash_model.specs.Execution.{Told}
use Rattle.dhash_model.specs.Puts.{is_of_put}
use Rattle.dhash_model.specs.Stores.{Block, Blocks, without}
use Rattle.script_driver.specs.Run.{Outcome, Goes, Refuses}
use Rattle.world_model.specs.Fates.{Fates, asking}
use Rattle.world_model.specs.Fates.Fates.{none as fates_none, more as fates_more}
use Rattle.world_model.specs.Ring.{FindsNobody, LooksUp, live_in_order}
use Rattle.world_model.specs.Rounds.{EachDoes, FixesFrom, Forgets, IsDropped, IsRoundOf, PutsAll, PutsAround, Repairs, RoundLine, Stabilises, asks_of_others, is_other_peer, question_as}
use Rattle.world_model.specs.Rounds.PutsAll.{done as all_put, keeps as put_kept, drops as put_dropped}
use Rattle.world_model.specs.Rounds.PutsAround.{no_route, puts}
use Rattle.world_model.specs.Rounds.RoundLine.{before_ring, goes}
use Rattle.world_model.specs.GhostState.{GhostState}
use Rattle.world_model.specs.World.{World, live_peers, with_node}
use Rattle.session_laws.proofs.AskedGets.{at_most_or_not}
use Rattle.session_laws.proofs.AskedLookups.{among_or_not, firsts, firsts_are}
use Rattle.session_laws.proofs.AskedOwners.{AreAsked, to_asks}
use Rattle.session_laws.proofs.AskedPuts.{put_end}
use Rattle.round_laws.proofs.Fixing.{look_up}
use Rattle.round_laws.proofs.Nodes.{Shape, at_among, id_itself, made_by, made_shape}
use Rattle.round_laws.proofs.Order.{fold_among}
use Rattle.round_laws.proofs.Repairing.{kept_repairs, put_keeps}
use Rattle.round_laws.proofs.Rounding.{base_of, shapes_of, within_of}
use Rattle.round_laws.proofs.Standing.{IsBase}
use Rattle.world_laws.specs.Invariant.{Invariant}
use Rattle.world_laws.proofs.ExistingAsks.{HasFound, looks_up}
use Rattle.world_laws.proofs.ExistingPlans.{firsts_only}
use Rattle.world_laws.proofs.ExistingRounds.{Fine, IsMade, MayDoAt, ask_in, by_each, fixes_all, forgets_some, looked_fine, many_times, own, serves_in, stabilises_some}
use Rattle.world_laws.proofs.Frames.{nodes_of_ring}
use Rattle.world_laws.proofs.RingLines.{peers_of_live}
use Rattle.world_laws.proofs.RoundBlocks.{all_without, of_kind}
use Rattle.world_laws.proofs.NodeFates.{HoldsMet, each_replaced, from_among}

module _ (r : ℕ) (base : List Shape) (planned : List ℕ) (start end : ℕ) (b : IsBase r base planned start end) (met : List (List ℕ)) where
  abbrev Good : World → Type 0
  Good w = Fine r base planned start end b met w

  abbrev Made : Peer → Type 0
  Made p = IsMade r base planned start end b met p

  module _ (p : Peer) (made : Made p) (key : Key) (block : Block) (block_met : Contains met block.bytes) where
    abbrev IsEnough : Told → Type 0
    IsEnough t = r ≤ answered_in is_of_put t

    abbrev question : Ask
    question = question_as block.kind key block.bytes

    -- owners are asked, but for the node itself
    record OwnersAsked (ps : List Peer) (before : Told) (w : World) : Type 0 where
      asks : Told
      next : World
      asked : AreAsked IsEnough ps before asks
      fates : Fates hss_judged w (asks_of_others hss_judged p question asks) next
      itself : (given : Answer) → IsAmong (p, given) asks → given ≡ answer.Stored
      fine : Good next

    nobody_asked : (ps : List Peer) (before : Told) (w : World) → Good w → AreAsked IsEnough ps before [] → OwnersAsked ps before w
    nobody_asked ps before w fine asked = record { asks = []; next = w; asked = asked; fates = fates_none; itself = λ given h. absurd h; fine = fine }

    owners_asked : (ps : List Peer) → AllByRecursion Made ps → (before : Told) (w : World) → Good w → OwnersAsked ps before w
    owners_asked [] all before w fine = nobody_asked [] before w fine (inr refl)
    owners_asked (q ∷ qs) all before w fine =
        by_enough (at_most_or_not r (answered_in is_of_put before)) (is_other_peer hss_judged p q) refl (λ given v fine_v. owners_asked qs all.1 (before ++ (q, given) ∷ []) v fine_v)
      where
        same_itself : (given : Answer) (x : Answer) → ◌≡◌ {A = Peer × Answer} (q, x) (p, given) → is_other_peer hss_judged p q ≡ true → ⊥
        same_itself given x e other = cc (sym other ∙ ap (λ (n : Peer). not (eq_by_cmp key_cmp p.id n.id)) (ap (λ (s : Peer × Answer). s.0) e) ∙ ap not (id_itself p.id))

        by_enough : IsEnough before ⊎ (IsEnough before → ⊥) → (t : Bool) → is_other_peer hss_judged p q ≡ t → ((given : Answer) (v : World) → Good v → OwnersAsked qs (before ++ (q, given) ∷ []) v) → OwnersAsked (q ∷ qs) before w
        by_enough (inl enough) t is later = nobody_asked (q ∷ qs) before w fine (inl enough)
        by_enough (inr not_yet) true other later =
            let a = ask_in r base planned start end b met w fine q all.0 question (put_keeps hss_judged block.kind key block.bytes) (of_kind met block.kind key block.bytes block_met) in
            let rest = later a.given a.next a.fine in
            record {
              asks = (q, a.given) ∷ rest.asks;
              next = rest.next;
              asked = (not_yet, qs, refl, rest.asked);
              fates = subst (λ (t : Bool). Fates hss_judged w (asking question (cond t ((q, a.given) ∷ filter (λ s. is_other_peer hss_judged p s.0) rest.asks) (filter (λ s. is_other_peer hss_judged p s.0) rest.asks))) rest.next)
                  (sym other) (fates_more q question a.given a.fate rest.fates);
              itself = λ given h. ⊎_elim (λ e. absurd (same_itself given a.given e other)) (λ i. rest.itself given i) h;
              fine = rest.fine;
            }
        by_enough (inr not_yet) false is_own later =
            let rest = later answer.Stored w fine in
            record {
              asks = (q, answer.Stored) ∷ rest.asks;
              next = rest.next;
              asked = (not_yet, qs, refl, rest.asked);
              fates = subst (λ (t : Bool). Fates hss_judged w (asking question (cond t ((q, answer.Stored) ∷ filter (λ s. is_other_peer hss_judged p s.0) rest.asks) (filter (λ s. is_other_peer hss_judged p s.0) rest.asks))) rest.next)
                  (sym is_own) rest.fates;
              itself = λ given h. ⊎_elim (λ e. sym (ap (λ (s : Peer × Answer). s.1) e)) (λ i. rest.itself given i) h;
              fine = rest.fine;
            }

    record IsPutAround (w : World) : Type 0 where
      dropped : Bool
      next : World
      puts_it : PutsAround hss_judged p r key block w dropped next
      fine : Good next

    drops_or_not : (asks : Told) (acknowledged : Bool) → (dropped : Bool) × IsDropped p asks acknowledged dropped
    drops_or_not asks true = ⊎_elim (λ among. (false, λ e. among)) (λ none. (true, (refl, none))) (among_or_not p (nodes asks))
    drops_or_not asks false = (false, λ e. cc e)

    put_by : (w : World) → (q : Peer) (qs : List Peer) (mid : World) → Good mid → LooksUp hss_judged w key (p ∷ []) (Some (q ∷ qs)) mid → AllByRecursion Made (q ∷ qs) → IsPutAround w
    put_by w q qs mid fine looks all =
        let o = owners_asked (firsts [] (q ∷ qs)) (firsts_only Made [] (q ∷ qs) all) [] mid fine in
        let end_is = put_end r (q ∷ qs) o.asks (to_asks IsEnough (q ∷ qs) (firsts [] (q ∷ qs)) (firsts_are [] (q ∷ qs)) o.asks o.asked) in
        let drop = drops_or_not o.asks end_is.1.0 in
        record { dropped = drop.0; next = o.next; puts_it = puts q qs o.asks mid o.next end_is.1.0 drop.0 looks end_is.1.1 o.itself o.fates drop.1; fine = o.fine }

    put_around : (w : World) → Good w → IsPutAround w
    put_around w fine = by_found (looks_up r (made_by base) met w (serves_in r base planned start end b met w fine) key (p ∷ []) (from_among p (made_by base) made, tt))
      where
        by_owners : (h : HasFound r (made_by base) met w key (p ∷ [])) → Good h.next → (found : Option (List Peer)) → h.found ≡ found → IfSome found (AllByRecursion Made) → IsPutAround w
        by_owners h good None e all = record { dropped = false; next = h.next; puts_it = no_route h.found h.next h.looks (subst FindsNobody (sym e) tt); fine = good }
        by_owners h good (Some []) e all = record { dropped = false; next = h.next; puts_it = no_route h.found h.next h.looks (subst FindsNobody (sym e) tt); fine = good }
        by_owners h good (Some (q ∷ qs)) e all = put_by w q qs h.next good (subst (λ (o : Option (List Peer)). LooksUp hss_judged w key (p ∷ []) o h.next) e h.looks) all

        by_found : HasFound r (made_by base) met w key (p ∷ []) → IsPutAround w
        by_found h = by_owners h (looked_fine r base planned start end b met w fine key p h) h.found refl (look_up hss_judged r base planned start end b key p h.found w h.next fine.within made h.looks).made

  record ArePut (p : Peer) (blocks : Blocks) (w : World) : Type 0 where
    dropped : List Key
    next : World
    puts_all : PutsAll hss_judged p r blocks w dropped next
    fine : Good next

  puts_each : (p : Peer) → Made p → (blocks : Blocks) → AllByRecursion (λ e. Contains met e.1.bytes) blocks → (w : World) → Good w → ArePut p blocks w
  puts_each p made [] all w fine = record { dropped = []; next = w; puts_all = all_put; fine = fine }
  puts_each p made (e ∷ blocks) all w fine = (let one = put_around p made e.0 e.1 all.0 w fine in by_drop one (puts_each p made blocks all.1 one.next one.fine) one.dropped refl)
    where
      by_drop : (one : IsPutAround p made e.0 e.1 all.0 w) → ArePut p blocks one.next → (d : Bool) → one.dropped ≡ d → ArePut p (e ∷ blocks) w
      by_drop one rest true is =
          record { dropped = e.0 ∷ rest.dropped; next = rest.next; puts_all = put_dropped (subst (λ (d : Bool). PutsAround hss_judged p r e.0 e.1 w d one.next) is one.puts_it) rest.puts_all; fine = rest.fine }
      by_drop one rest false is =
          record { dropped = rest.dropped; next = rest.next; puts_all = put_kept (subst (λ (d : Bool). PutsAround hss_judged p r e.0 e.1 w d one.next) is one.puts_it) rest.puts_all; fine = rest.fine }

  repairs_some : MayDoAt r base planned start end b met (Repairs hss_judged r)
  repairs_some w fine p made =
      let before = own r base planned start end b met w fine p made in
      let all = puts_each p made before.0.blocks (all-among (HoldsMet met) before.0 w.nodes fine.holds (at_among w.nodes p.id before.0 before.1)).1 w fine in
      let after = own r base planned start end b met all.next all.fine p made in
      let next : World = with_node all.next (record after.0 { blocks = fold (λ left key. without key left) after.0.blocks all.dropped }) in
      let repairs : Repairs hss_judged r w p next = record { before = before.0; after = after.0; dropped = all.dropped; mid = all.next; is_before = before.1; puts = all.puts_all; is_after = after.1; drops = refl } in (
        next,
        repairs,
        record {
          within = (kept_repairs hss_judged r base planned start end b w next p fine.within repairs).within;
          holds = each_replaced (HoldsMet met) (record after.0 { blocks = fold (λ left key. without key left) after.0.blocks all.dropped }) all.next.nodes
              (all_without met all.dropped after.0.blocks (all-among (HoldsMet met) after.0 all.next.nodes all.fine.holds (at_among all.next.nodes p.id after.0 after.1))) all.fine.holds;
          same_met = all.fine.same_met;
        },
      )

  -- ---- the whole

  a_round : (w : World) → Good w → AllByRecursion Made (live_in_order w) → (next : World) × IsRoundOf hss_judged r w next
  a_round w fine made =
      let one = by_each r base planned start end b met (Forgets hss_judged) (forgets_some r base planned start end b met) (live_in_order w) made w fine in
      let two = many_times r base planned start end b met (EachDoes (λ v p. Stabilises hss_judged p v)) (live_in_order w)
      (by_each r base planned start end b met (λ v p. Stabilises hss_judged p v) (stabilises_some r base planned start end b met) (live_in_order w) made) (suc (2 * r)) one.0 one.2 in
      let three = by_each r base planned start end b met (λ v p. FixesFrom hss_judged p 0 160 v) (fixes_all r base planned start end b met) (live_in_order w) made two.0 two.2 in
      let four = by_each r base planned start end b met (Repairs hss_judged r) repairs_some (live_in_order w) made three.0 three.2 in
      (four.0, record { one = one.0; two = two.0; three = three.0; forgets = one.1; passes = two.1; fingers = three.1; repairs = four.1 })

pub round_line : (w : World) (st : GhostState) → Invariant (w, st) → (o : Option ℕ) → w.replicas ≡ o → (out : Outcome World) × RoundLine hss_judged w o out
round_line w st keeps None is = (Refuses, before_ring)
round_line w st keeps (Some r) is =
    let ring = nodes_of_ring (w, st) r keeps is in
    let base = base_of r w w.asked ring (λ k above most. absurd (omega (arith, above, most))) in
    let fine : Fine r (shapes_of w) w.lost w.asked w.asked base w.met w = record { within = within_of r w ring; holds = keeps.met.held; same_met = refl } in
    let round = a_round r (shapes_of w) w.lost w.asked w.asked base w.met w fine (all_from (λ p. IsAmong p (made_by (shapes_of w))) (live_in_order w) (live_in w)) in
    (Goes round.0 [], goes r round.0 round.1)
  where
    live_in : (w : World) (p : Peer) → IsAmong p (live_in_order w) → IsAmong p (made_by (shapes_of w))
    live_in w p among = subst (IsAmong p) (made_shape w.nodes) (peers_of_live w.nodes p (⊎_elim (λ none. absurd none) (λ live. live) (fold_among p [] (live_peers w) among)))
