-- The first part of a round: silent predecessors are forgotten.
use Rattle.std.proofs.Common.{◌≡◌, ◌⊎◌, inl, inr, ⊎_elim, ℕ, ◌≤◌, Bool, true, false, List, [], ◌∷◌, refl, sym, ap, ◌∙◌, subst, Option, Some, None, IfSome, arith, le_refl}
use Rattle.std.proofs.lemmas.Bool.{cond-true, cond-false, cases_Bool}
use Rattle.ivy_base.specs.declared.key.Key.{Key}
use Rattle.ring_model.specs.Members.{IsAmong}
use Rattle.ring_model.specs.Ring.{Links}
use Rattle.ring_model.specs.Round.{IsForgotten, living_before}
use Rattle.dht_ids.specs.declared.ask.Answer.{Answer}
use Rattle.dht_ids.specs.declared.ask.Answer.TheVariants.{Silent, Near as near_answer}
use Rattle.dht_ids.specs.declared.ask.Ask.{Ask}
use Rattle.dht_ids.specs.declared.ask.Ask.TheVariants as ask
use Rattle.dht_ids.specs.declared.judge.Judged.{Judged}
use Rattle.dht_ids.specs.declared.peer.Peer.{Peer}
use Rattle.world_model.specs.World.{World}
use Rattle.world_model.specs.Rounds.{EachDoes, Forgets}
use Rattle.world_model.specs.Rounds.EachDoes.{done, next as then_does}
use Rattle.world_model.specs.Rounds.Forgets.{has_none, keeps, forgets}
use Rattle.round_laws.specs.RingOf.{links_in}
use Rattle.round_laws.proofs.Nodes.{Shape, lives_by, made_by}
use Rattle.round_laws.proofs.Standing.{Fated, IsBase, IsWithin, KeepsRing, fate_grows, fated, peer_or_not, relinked, stands, still_asked}
use Rattle.round_laws.proofs.Standing.Fated.{silence, heard}

pub near_keeps : (judged : Key → List ℕ → Option Judged) → KeepsRing judged ask.Near
near_keeps judged n = (refl, refl)

-- a fact of each peer, by the one whose links changed and the others
pub each : (P : Peer → Type 0) (p : Peer) → P p → ((q : Peer) → (q ≡ p → ⊥) → P q) → (q : Peer) → P q
each P p here others q = ⊎_elim (λ s. subst P (sym s) here) (others q) (peer_or_not q p)

twice_living : (lives : Peer → Bool) (o : Option Peer) → living_before lives (living_before lives o) ≡ living_before lives o
twice_living lives None = refl
twice_living lives (Some b) = ⊎_elim
    (λ t. ap (living_before lives) (cond-true (lives b) (Some b) None t))
    (λ f. ap (living_before lives) (cond-false (lives b) (Some b) None f) ∙ sym (cond-false (lives b) (Some b) None f))
    (cases_Bool (lives b))

module _ (judged : Key → List ℕ → Option Judged) (r : ℕ) (base : List Shape) (planned : List ℕ) (start end : ℕ) (b : IsBase r base planned start end) where
  -- who answered lives
  pub asked_lives : (w mid : World) (to : Peer) (question : Ask) (given : Answer) → IsWithin base planned start w → IsAmong to (made_by base) → (given ≡ Silent → ⊥) → Fated judged r base planned start end b w to question given mid
      → lives_by base to ≡ true
  asked_lives w mid to question given h made d (silence g m l) = absurd (d g)
  asked_lives w mid to question given h made d (heard n e s g m) = (stands judged r base planned start end b w to n h made e).live ∙ s

  -- who was silent doesn't
  pub near_silent : (w mid : World) (to : Peer) (given : Answer) → given ≡ Silent → Fated judged r base planned start end b w to ask.Near given mid → mid.asked ≤ end → lives_by base to ≡ false
  near_silent w mid to given g (silence e m l) = l
  near_silent w mid to given g (heard n e s f m) = λ q. absurd (never (sym g ∙ f))
    where
      never : Silent ≡ near_answer n.ring.links.before n.ring.links.list → ⊥
      never e = cc

  -- p's part
  pub record Forgot (p : Peer) (w next : World) : Type 0 where
    pub within : IsWithin base planned start next
    pub grows : w.asked ≤ next.asked
    pub list : (m : Peer) → (links_in next m).list ≡ (links_in w m).list
    pub fingers : (m : Peer) → (links_in next m).fingers ≡ (links_in w m).fingers
    pub others : (m : Peer) → (m ≡ p → ⊥) → (links_in next m).before ≡ (links_in w m).before
    pub before : next.asked ≤ end → (links_in next p).before ≡ living_before (lives_by base) (links_in w p).before

  by_none : (links : Links Peer) → links.before ≡ None → links.before ≡ living_before (lives_by base) links.before
  by_none links e = e ∙ sym (ap (living_before (lives_by base)) e)

  by_living : (links : Links Peer) (f : Peer) → links.before ≡ Some f → lives_by base f ≡ true → links.before ≡ living_before (lives_by base) links.before
  by_living links f e l = e ∙ sym (ap (living_before (lives_by base)) e ∙ cond-true (lives_by base f) (Some f) None l)

  by_silent : (links : Links Peer) (f : Peer) → links.before ≡ Some f → lives_by base f ≡ false → None ≡ living_before (lives_by base) links.before
  by_silent links f e l = sym (ap (living_before (lives_by base)) e ∙ cond-false (lives_by base f) (Some f) None l)

  pub forgot : (w next : World) (p : Peer) → IsWithin base planned start w → IsAmong p (made_by base) → Forgets judged w p next → Forgot p w next
  forgot w next p h made (has_none n e none) =
      let s = stands judged r base planned start end b w p n h made e in
      record { within = h; grows = le_refl w.asked; list = λ m. refl; fingers = λ m. refl; others = λ m d. refl; before = λ q. by_none (links_in w p) (ap (λ (l : Links Peer). l.before) s.links ∙ none) }
  forgot w next p h made (keeps n f given mid e is fate d) =
      let s = stands judged r base planned start end b w p n h made e in
      let t = fated judged r base planned start end b w mid f ask.Near given h fate in
      let a = still_asked judged r base planned start end b w mid f ask.Near given h (near_keeps judged) t in
      let member : IsAmong f (made_by base) = subst (λ (o : Option Peer). IfSome o (λ q. IsAmong q (made_by base))) is (h.known p.id n e).before in
      let lives = asked_lives w mid f ask.Near given h member d t in
      record {
        within = a.within;
        grows = fate_grows judged w mid f ask.Near given fate;
        list = λ m i. (a.links i m).list;
        fingers = λ m i. (a.links i m).fingers;
        others = λ m d i. (a.links i m).before;
        before = λ q. (λ i. (a.links i p).before) ∙ by_living (links_in w p) f (ap (λ (l : Links Peer). l.before) s.links ∙ is) lives;
      }
  forgot w next p h made (forgets n m f mid e is fate e2) =
      let s = stands judged r base planned start end b w p n h made e in
      let t = fated judged r base planned start end b w mid f ask.Near Silent h fate in
      let a = still_asked judged r base planned start end b w mid f ask.Near Silent h (near_keeps judged) t in
      let s2 = stands judged r base planned start end b mid p m a.within made e2 in
      let k = a.within.known p.id m e2 in
      let c = relinked judged r base planned start end b mid p m (record m.ring.links { before = None }) a.within made e2 (k.list, k.fingers, tt) in
      let same : m.ring.links ≡ links_in w p = sym s2.links ∙ (λ i. a.links i p) in
      record {
        within = c.within;
        grows = fate_grows judged w mid f ask.Near Silent fate;
        list = each (λ x. (links_in next x).list ≡ (links_in w x).list) p (λ i. ((λ j. (c.at j).list) ∙ (λ j. (same j).list)) i) (λ q d. (λ j. (c.others q d j).list) ∙ (λ j. (a.links j q).list));
        fingers = each (λ x. (links_in next x).fingers ≡ (links_in w x).fingers) p ((λ j. (c.at j).fingers) ∙ (λ j. (same j).fingers)) (λ q d. (λ j. (c.others q d j).fingers) ∙ (λ j. (a.links j q).fingers));
        others = λ q d. (λ j. (c.others q d j).before) ∙ (λ j. (a.links j q).before);
        before = λ q. (λ j. (c.at j).before) ∙ by_silent (links_in w p) f (ap (λ (l : Links Peer). l.before) s.links ∙ is) (near_silent w mid f Silent refl t q);
      }

  -- the parts of several
  pub record AllForgot (ps : List Peer) (w next : World) : Type 0 where
    pub within : IsWithin base planned start next
    pub grows : w.asked ≤ next.asked
    pub list : (m : Peer) → (links_in next m).list ≡ (links_in w m).list
    pub fingers : (m : Peer) → (links_in next m).fingers ≡ (links_in w m).fingers
    pub others : (m : Peer) → (IsAmong m ps → ⊥) → (links_in next m).before ≡ (links_in w m).before
    pub either : next.asked ≤ end → (m : Peer) → ((links_in next m).before ≡ (links_in w m).before) ⊎ ((links_in next m).before ≡ living_before (lives_by base) (links_in w m).before)
    pub before : next.asked ≤ end → (m : Peer) → IsAmong m ps → (links_in next m).before ≡ living_before (lives_by base) (links_in w m).before

  -- what lived on twice did so once
  living_on : (one mid last : Option Peer) → mid ≡ living_before (lives_by base) one → (last ≡ mid) ⊎ (last ≡ living_before (lives_by base) mid) → last ≡ living_before (lives_by base) one
  living_on one mid last e (inl s) = s ∙ e
  living_on one mid last e (inr s) = s ∙ ap (living_before (lives_by base)) e ∙ twice_living (lives_by base) one

  pub all_forgot : (w next : World) (ps : List Peer) → IsWithin base planned start w → ((p : Peer) → IsAmong p ps → IsAmong p (made_by base)) → EachDoes (Forgets judged) w ps next → AllForgot ps w next
  all_forgot w next [] h made done =
      record { within = h; grows = le_refl w.asked; list = λ m. refl; fingers = λ m. refl; others = λ m d. refl; either = λ q m. inl refl; before = λ q m i. elim i [ ] }
  all_forgot w next (p ∷ ps) h made (then_does {mid = mid} first rest) =
      let f = forgot w mid p h (made p (inl refl)) first in
      let g = all_forgot mid next ps f.within (λ q i. made q (inr i)) rest in
      record {
        within = g.within;
        grows = omega (arith, f.grows, g.grows);
        list = λ m. g.list m ∙ f.list m;
        fingers = λ m. g.fingers m ∙ f.fingers m;
        others = λ m d. g.others m (λ i. d (inr i)) ∙ f.others m (λ s. d (inl (sym s)));
        either = λ q. each (λ m. ((links_in next m).before ≡ (links_in w m).before) ⊎ ((links_in next m).before ≡ living_before (lives_by base) (links_in w m).before)) p
            (inr (living_on (links_in w p).before (links_in mid p).before (links_in next p).before (f.before (omega (arith, q, g.grows))) (g.either q p)))
            (λ m d. ⊎_elim (λ s. inl (s ∙ f.others m d)) (λ s. inr (s ∙ ap (living_before (lives_by base)) (f.others m d))) (g.either q m));
        before = λ q. each (λ m. IsAmong m (p ∷ ps) → (links_in next m).before ≡ living_before (lives_by base) (links_in w m).before) p
            (λ i. living_on (links_in w p).before (links_in mid p).before (links_in next p).before (f.before (omega (arith, q, g.grows))) (g.either q p))
            (λ m d i. ⊎_elim (λ s. absurd (d (sym s))) (λ j. g.before q m j ∙ ap (living_before (lives_by base)) (f.others m d)) i);
      }

  -- where they are all that live, it is the first part of a round
  pub is_forgotten : (w next : World) (ps : List Peer) → AllForgot ps w next → next.asked ≤ end → ((p : Peer) → lives_by base p ≡ true → IsAmong p ps) → ((p : Peer) → IsAmong p ps → lives_by base p ≡ true)
      → IsForgotten (lives_by base) (links_in w) (links_in next)
  is_forgotten w next ps a q all only = record {
    list = a.list;
    fingers = a.fingers;
    before = λ m l. a.before q m (all m l);
    stopped = λ m l. a.others m (λ i. let t = only m i in cc);
  }
