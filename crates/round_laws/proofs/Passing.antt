-- The second part of a round: the passes.
use Rattle.std.proofs.Common.{◌≡◌, ◌⊎◌, inl, inr, ⊎_elim, ℕ, zero, suc, ◌≤◌, Bool, true, false, List, [], ◌∷◌, refl, sym, ap, ◌∙◌, subst, Option, Some, IfSome, arith, le_refl, find}
use Rattle.std.specs.List.{AllByRecursion}
use Rattle.std.proofs.lemmas.Bool.{cond-true}
use Rattle.ivy_base.specs.declared.key.Key.{Key}
use Rattle.ring_model.specs.Members.{IsAmong, first}
use Rattle.ring_model.specs.Ring.{Links}
use Rattle.ring_model.specs.Pass.{IsPass, ArePasses, IsStabilised, heard, list_after, notified, renewed}
use Rattle.ring_model.specs.Pass.IsPass.{done as no_parts, more as part}
use Rattle.ring_model.specs.Pass.ArePasses.{none as no_passes, again as pass}
use Rattle.ring_model.proofs.Lists.{none_some, some_same}
use Rattle.dht_ids.specs.declared.ask.Answer.{Answer}
use Rattle.dht_ids.specs.declared.ask.Answer.TheVariants as answer
use Rattle.dht_ids.specs.declared.ask.Ask.TheVariants as ask
use Rattle.dht_ids.specs.declared.judge.Judged.{Judged}
use Rattle.dht_ids.specs.declared.peer.Peer.{Peer}
use Rattle.dht_ids.specs.Peers.{place}
use Rattle.dhash_model.specs.State.{State, stabilised}
use Rattle.world_model.specs.Nodes.{Node}
use Rattle.world_model.specs.World.{World, node_at, with_node}
use Rattle.world_model.specs.Fates.{ask_counted}
use Rattle.world_model.specs.Rounds.{EachDoes, ManyDo, Notifies, Stabilises, listing_now}
use Rattle.world_model.specs.Rounds.EachDoes.{done, next as then_does}
use Rattle.world_model.specs.Rounds.ManyDo.{none as not_once, again as once_more}
use Rattle.world_model.specs.Rounds.Notifies.{nobody, notifies}
use Rattle.world_model.specs.Rounds.Stabilises.{alone, drops, hears}
use Rattle.round_laws.specs.RingOf.{links_in}
use Rattle.round_laws.proofs.Nodes.{Shape, lives_by, made_by}
use Rattle.round_laws.proofs.Order.{lives_made}
use Rattle.round_laws.proofs.Standing.{AfterAsk, Fated, IsBase, IsWithin, Relinks, counted_within, fate_grows, fated, relinked, stands, still_asked}
use Rattle.round_laws.proofs.Standing.Fated.{silence, heard as was_heard}
use Rattle.round_laws.proofs.Forgetting.{asked_lives, each, near_keeps, near_silent}
use Rattle.round_laws.proofs.Renewing.{Living, all_renewed, all_some, first_renewed, living_kept, some_nearest, stabilised_dropped}

module _ (judged : Key → List ℕ → Option Judged) (r : ℕ) (base : List Shape) (planned : List ℕ) (start end : ℕ) (b : IsBase r base planned start end) where
  -- ---- the first of the new list is notified

  -- what is known after a notice of p to the first of a list
  pub record Noticed (p : Peer) (list : List Peer) (w next : World) : Type 0 where
    pub within : IsWithin base planned start next
    pub grows : w.asked ≤ next.asked
    pub told : next.asked ≤ end → (f : Peer) → first list ≡ Some f → lives_by base f ≡ true → links_in next f ≡ notified place f (links_in w f) p
    pub others : (q : Peer) → (first list ≡ Some q → ⊥) → links_in next q ≡ links_in w q

  told_by : (w next : World) (p f : Peer) (rest : List Peer) (given : Answer) → IsWithin base planned start w → IsAmong p (made_by base) → IsAmong f (made_by base) → Fated judged r base planned start end b w f (ask.Notify p) given next
      → w.asked ≤ next.asked → Noticed p (f ∷ rest) w next
  told_by w next p f rest given h made made_f (silence g m l) grows = record {
    within = subst (IsWithin base planned start) (sym m) (counted_within judged r base planned start end b w h);
    grows = grows;
    told = λ q x e lives. absurd (not_both (lives_by base f) (l q) (subst (λ y. lives_by base y ≡ true) (sym (some_same f x e)) lives));
    others = λ q d. ap (λ (v : World). links_in v q) m;
  }
    where
      not_both : (t : Bool) → t ≡ false → t ≡ true → ⊥
      not_both t e f = cc
  told_by w next p f rest given h made made_f (was_heard n e s g m) grows =
      let s = stands judged r base planned start end b w f n h made_f e in
      let k = h.known f.id n e in
      let c = relinked judged r base planned start end b (ask_counted w) f n (notified place n.ring.me n.ring.links p) (counted_within judged r base planned start end b w h) made_f e (
        all_some (λ q. IsAmong q (made_by base)) n.ring.links.list p k.list made,
        k.fingers,
        some_nearest (λ q. IsAmong q (made_by base)) n.ring.me n.ring.links.before p k.before made,
      ) in
      record {
        within = subst (IsWithin base planned start) (sym m) c.within;
        grows = grows;
        told = λ q x i lives. subst (λ y. links_in next y ≡ notified place y (links_in w y) p) (some_same f x i)
            (ap (λ (v : World). links_in v f) m ∙ c.at ∙ ap (λ (x : Peer). notified place x n.ring.links p) s.me ∙ ap (λ (x : Links Peer). notified place f x p) (sym s.links));
        others = λ q d. ap (λ (v : World). links_in v q) m ∙ c.others q (λ i. d (ap (λ (x : Peer). Some x) (sym i)));
      }

  pub noticed : (w next : World) (p : Peer) (list : List Peer) → IsWithin base planned start w → IsAmong p (made_by base) → AllByRecursion (λ q. IsAmong q (made_by base)) list → Notifies judged p w list next → Noticed p list w next
  noticed w next p [] h made all nobody = record { within = h; grows = le_refl w.asked; told = λ q f e. absurd (none_some f e); others = λ q d. refl }
  noticed w next p (f ∷ rest) h made all (notifies g others given last fate) =
      told_by w next p f rest given h made all.0 (fated judged r base planned start end b w next f (ask.Notify p) given h fate) (fate_grows judged w next f (ask.Notify p) given fate)

  -- ---- one node's part

  pub record Stabilised (p : Peer) (w next : World) : Type 0 where
    pub within : IsWithin base planned start next
    pub grows : w.asked ≤ next.asked
    pub is : next.asked ≤ end → Living (lives_by base) (links_in w) → IsStabilised place r (lives_by base) p (links_in w) (links_in next)

  -- it has no entries
  part_alone : (w : World) (p : Peer) → (links_in w p).list ≡ [] → IsStabilised place r (lives_by base) p (links_in w) (links_in w)
  part_alone w p e =
      let nothing : list_after place r (lives_by base) (links_in w) p ≡ [] = ap (λ l. heard place r p (links_in w) (find (lives_by base) l)) e in
      record { list = e ∙ sym nothing; before = refl; fingers = refl; told = λ f g. absurd (none_some f (sym (ap first nothing) ∙ g)); others = λ m n d. refl }

  -- it heard its first entry, made that list of it, and the first of the list was notified
  part_hears : (w now next : World) (p f : Peer) (rest list : List Peer) → (links_in w p).list ≡ f ∷ rest → lives_by base f ≡ true → list ≡ renewed place r p f (links_in w f).before (links_in w f).list → Relinks judged r base planned start end b p (record (links_in w p) { list = list }) w now
      → Noticed p list now next → next.asked ≤ end → Living (lives_by base) (links_in w) → IsStabilised place r (lives_by base) p (links_in w) (links_in next)
  part_hears w now next p f rest list e l is c t q living =
      let after : list_after place r (lives_by base) (links_in w) p ≡ list = ap (λ x. heard place r p (links_in w) (find (lives_by base) x)) e ∙ ap (heard place r p (links_in w)) (cond-true (lives_by base f) (Some f) (find (lives_by base) rest) l) ∙ sym is in
      let whom : (g : Peer) → first list ≡ Some g → ((f ≡ g) ⊎ ((links_in w f).before ≡ Some g)) × (place g ≡ place p → ⊥) = λ g i. first_renewed r p f (links_in w f).before (links_in w f).list g (sym (ap first is) ∙ i) in
      let mine : links_in next p ≡ record (links_in w p) { list = list } = t.others p (λ i. (whom p i).1 refl) ∙ c.at in
      record {
        list = (λ i. (mine i).list) ∙ sym after;
        before = λ i. (mine i).before;
        fingers = λ i. (mine i).fingers;
        told = λ g i.
            let at : first list ≡ Some g = sym (ap first after) ∙ i in
            t.told q g at (⊎_elim (λ s. subst (λ x. lives_by base x ≡ true) s l) (λ s. living f g l s) (whom g at).0)
            ∙ ap (λ (x : Links Peer). notified place g x p) (c.others g (λ s. (whom g at).1 (ap place s)));
        others = λ m n d. t.others m (λ i. d (ap first after ∙ i)) ∙ c.others m n;
      }

  -- what a live node answers of its predecessor and its list
  record NearOf (w : World) (to : Peer) (given : Answer) : Type 0 where
    is : given ≡ answer.Near (links_in w to).before (links_in w to).list
    list : AllByRecursion (λ q. IsAmong q (made_by base)) (links_in w to).list
    before : IfSome (links_in w to).before (λ q. IsAmong q (made_by base))

  near_of : (w mid : World) (to : Peer) (given : Answer) → IsWithin base planned start w → IsAmong to (made_by base) → (given ≡ answer.Silent → ⊥) → Fated judged r base planned start end b w to ask.Near given mid → NearOf w to given
  near_of w mid to given h made d (silence g m l) = absurd (d g)
  near_of w mid to given h made d (was_heard n e s g m) =
      let t = stands judged r base planned start end b w to n h made e in
      let k = h.known to.id n e in
      record {
        is = g ∙ ap (λ (l : Links Peer). answer.Near l.before l.list) (sym t.links);
        list = subst (λ (l : Links Peer). AllByRecursion (λ q. IsAmong q (made_by base)) l.list) (sym t.links) k.list;
        before = subst (λ (l : Links Peer). IfSome l.before (λ q. IsAmong q (made_by base))) (sym t.links) k.before;
      }

  -- p's list is another one after an ask
  relisted : (w mid : World) (p : Peer) (m : Node) (list : List Peer) → AfterAsk judged r base planned start end b w mid → IsAmong p (made_by base) → node_at mid p.id ≡ Some m → AllByRecursion (λ q. IsAmong q (made_by base)) list
      → Relinks judged r base planned start end b p (record (links_in w p) { list = list }) w (with_node mid (listing_now m list))
  relisted w mid p m list a made e all =
      let s = stands judged r base planned start end b mid p m a.within made e in
      let k = a.within.known p.id m e in
      let c = relinked judged r base planned start end b mid p m (record m.ring.links { list = list }) a.within made e (all, k.fingers, k.before) in
      record {
        within = c.within;
        at = c.at ∙ ap (λ (l : Links Peer). record l { list = list }) (sym s.links ∙ (λ i. a.links i p));
        others = λ q d. c.others q d ∙ (λ i. a.links i q);
      }

  -- the list that p makes of an answer
  list_is : (w : World) (p f : Peer) (rest : List Peer) (ring : State) (given : Answer) → ring.replicas ≡ r → ring.me ≡ p → given ≡ answer.Near (links_in w f).before (links_in w f).list
      → stabilised ring (f ∷ rest) given ≡ renewed place r p f (links_in w f).before (links_in w f).list
  list_is w p f rest ring given s m g =
      ap (stabilised ring (f ∷ rest)) g
      ∙ ap (λ k. renewed place k ring.me f (links_in w f).before (links_in w f).list) s
      ∙ ap (λ (x : Peer). renewed place r x f (links_in w f).before (links_in w f).list) m

  pub stabilise : (p : Peer) (w next : World) → IsWithin base planned start w → IsAmong p (made_by base) → Stabilises judged p w next → Stabilised p w next
  stabilise p w next h made (alone n e none) =
      let s = stands judged r base planned start end b w p n h made e in
      record { within = h; grows = le_refl w.asked; is = λ q living. part_alone w p (ap (λ (l : Links Peer). l.list) s.links ∙ none) }
  stabilise p w next h made (drops n m f rest mid e l fate e2 later) =
      let s = stands judged r base planned start end b w p n h made e in
      let t = fated judged r base planned start end b w mid f ask.Near answer.Silent h fate in
      let a = still_asked judged r base planned start end b w mid f ask.Near answer.Silent h (near_keeps judged) t in
      let all : AllByRecursion (λ q. IsAmong q (made_by base)) (f ∷ rest) = subst (AllByRecursion (λ q. IsAmong q (made_by base))) l (h.known p.id n e).list in
      let c = relisted w mid p m rest a made e2 all.1 in
      let step = stabilise p (with_node mid (listing_now m rest)) next c.within made later in
      let fate_first = fate_grows judged w mid f ask.Near answer.Silent fate in
      let same : (q : Peer) → (links_in (with_node mid (listing_now m rest)) q).before ≡ (links_in w q).before =
      each (λ q. (links_in (with_node mid (listing_now m rest)) q).before ≡ (links_in w q).before) p (λ i. (c.at i).before) (λ q d i. (c.others q d i).before) in
      record {
        within = step.within;
        grows = omega (arith, fate_first, step.grows);
        is = λ q living. stabilised_dropped r (lives_by base) p f rest (links_in w) (links_in (with_node mid (listing_now m rest))) (links_in next)
            (record {
              listed = ap (λ (x : Links Peer). x.list) s.links ∙ l;
              silent = near_silent judged r base planned start end b w mid f answer.Silent refl t (omega (arith, q, step.grows));
              list = λ i. (c.at i).list;
              before = same;
              fingers = λ i. (c.at i).fingers;
              others = c.others;
            })
            (step.is q (λ x y lx k. living x y lx (sym (same x) ∙ k)));
      }
  stabilise p w next h made (hears n m f rest given mid e l fate d e2 notice) =
      let s = stands judged r base planned start end b w p n h made e in
      let t = fated judged r base planned start end b w mid f ask.Near given h fate in
      let a = still_asked judged r base planned start end b w mid f ask.Near given h (near_keeps judged) t in
      let s2 = stands judged r base planned start end b mid p m a.within made e2 in
      let all : AllByRecursion (λ q. IsAmong q (made_by base)) (f ∷ rest) = subst (AllByRecursion (λ q. IsAmong q (made_by base))) l (h.known p.id n e).list in
      let lives = asked_lives judged r base planned start end b w mid f ask.Near given h all.0 d t in
      let near = near_of w mid f given h all.0 d t in
      let is = list_is w p f rest m.ring given s2.replicas s2.me near.is in
      let made_list : AllByRecursion (λ q. IsAmong q (made_by base)) (stabilised m.ring (f ∷ rest) given) =
      subst (AllByRecursion (λ q. IsAmong q (made_by base))) (sym is) (all_renewed (λ q. IsAmong q (made_by base)) r p f (links_in w f).before (links_in w f).list all.0 near.before near.list) in
      let c = relisted w mid p m (stabilised m.ring (f ∷ rest) given) a made e2 made_list in
      let told = noticed (with_node mid (listing_now m (stabilised m.ring (f ∷ rest) given))) next p (stabilised m.ring (f ∷ rest) given) c.within made made_list notice in
      let fate_first = fate_grows judged w mid f ask.Near given fate in
      record {
        within = told.within;
        grows = omega (arith, fate_first, told.grows);
        is = λ q living. part_hears w (with_node mid (listing_now m (stabilised m.ring (f ∷ rest) given))) next p f rest (stabilised m.ring (f ∷ rest) given) (ap (λ (x : Links Peer). x.list) s.links ∙ l) lives is c told q living;
      }

  -- ---- a pass, and many

  pub record Passed (ps : List Peer) (w next : World) : Type 0 where
    pub within : IsWithin base planned start next
    pub grows : w.asked ≤ next.asked
    pub is : next.asked ≤ end → Living (lives_by base) (links_in w) → IsPass place r (lives_by base) ps (links_in w) (links_in next) × Living (lives_by base) (links_in next)

  pub passed : (w next : World) (ps : List Peer) → IsWithin base planned start w → ((p : Peer) → IsAmong p ps → lives_by base p ≡ true) → EachDoes (λ v p. Stabilises judged p v) w ps next → Passed ps w next
  passed w next [] h lives done = record { within = h; grows = le_refl w.asked; is = λ q living. (no_parts, living) }
  passed w next (p ∷ ps) h lives (then_does {mid = mid} first rest) =
      let f = stabilise p w mid h (lives_made base p (lives p (inl refl))) first in
      let g = passed mid next ps f.within (λ q i. lives q (inr i)) rest in
      record {
        within = g.within;
        grows = omega (arith, f.grows, g.grows);
        is = λ q living.
            let one = f.is (omega (arith, q, g.grows)) living in
            let others = g.is q (living_kept r (lives_by base) p (links_in w) (links_in mid) (lives p (inl refl)) one living) in
            (part one others.0, others.1);
      }

  pub record ManyPassed (ps : List Peer) (k : ℕ) (w next : World) : Type 0 where
    pub within : IsWithin base planned start next
    pub grows : w.asked ≤ next.asked
    pub is : next.asked ≤ end → Living (lives_by base) (links_in w) → ArePasses place r (lives_by base) ps k (links_in w) (links_in next)

  pub many_passed : (w next : World) (ps : List Peer) (k : ℕ) → IsWithin base planned start w → ((p : Peer) → IsAmong p ps → lives_by base p ≡ true) → ManyDo (EachDoes (λ v p. Stabilises judged p v)) ps k w next → ManyPassed ps k w next
  many_passed w next ps zero h lives not_once = record { within = h; grows = le_refl w.asked; is = λ q living. no_passes }
  many_passed w next ps (suc k) h lives (once_more {mid = mid} first rest) =
      let f = passed w mid ps h lives first in
      let g = many_passed mid next ps k f.within lives rest in
      record {
        within = g.within;
        grows = omega (arith, f.grows, g.grows);
        is = λ q living. let one = f.is (omega (arith, q, g.grows)) living in pass one.0 (g.is q one.1);
      }
