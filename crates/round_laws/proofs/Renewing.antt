-- A part in a pass, on the links alone: what a renewed list hangs on, and what it does to predecessors.
use Rattle.std.proofs.Common.{◌≡◌, ◌⊎◌, inl, inr, ⊎_elim, ℕ, zero, suc, ◌*◌, Bool, true, false, cond, List, [], ◌∷◌, ◌++◌, take, refl, sym, ap, ◌∙◌, subst, Option, Some, None, IfSome, nat_eq, find}
use Rattle.std.specs.List.{AllByRecursion}
use Rattle.std.proofs.lemmas.Bool.{cond-true, cond-false, eq-eqb}
use Rattle.ring_model.specs.Arc.{is_strictly_between}
use Rattle.ring_model.specs.Members.{first}
use Rattle.ring_model.specs.Ring.{Links}
use Rattle.ring_model.specs.Pass.{IsStabilised, between_them, heard, list_after, nearest_before, notified, renewed, some_list, until}
use Rattle.ring_model.proofs.Lists.{all-both, none_some, some_same}
use Rattle.dht_ids.specs.declared.peer.Peer.{Peer}
use Rattle.dht_ids.specs.Peers.{place}
use Rattle.round_laws.proofs.Standing.{peer_or_not}

-- ---- what holds of all

pub all_take : (P : Peer → Type 0) (k : ℕ) (xs : List Peer) → AllByRecursion P xs → AllByRecursion P (take k xs)
all_take P zero xs a = tt
all_take P (suc k) [] a = tt
all_take P (suc k) (x ∷ xs) a = (a.0, all_take P k xs a.1)

all_until : (P : Peer → Type 0) (n : Peer) (xs : List Peer) → AllByRecursion P xs → AllByRecursion P (until place n xs)
all_until P n [] a = tt
all_until P n (x ∷ xs) a = by (nat_eq (place x) (place n)) (all_until P n xs a.1)
  where
    by : (b : Bool) → AllByRecursion P (until place n xs) → AllByRecursion P (cond b [] (x ∷ until place n xs))
    by true rest = tt
    by false rest = (a.0, rest)

all_between : (P : Peer → Type 0) (n a : Peer) (before : Option Peer) → IfSome before P → AllByRecursion P (between_them place n a before)
all_between P n a None h = tt
all_between P n a (Some b) h = by (is_strictly_between (place n) (place b) (place a))
  where
    by : (t : Bool) → AllByRecursion P (cond t (b ∷ []) [])
    by true = (h, tt)
    by false = tt

pub all_renewed : (P : Peer → Type 0) (r : ℕ) (n a : Peer) (before : Option Peer) (list : List Peer) → P a → IfSome before P → AllByRecursion P list → AllByRecursion P (renewed place r n a before list)
all_renewed P r n a before list here h all =
    all_take P (2 * r) (until place n (between_them place n a before ++ a ∷ list)) (all_until P n (between_them place n a before ++ a ∷ list) (all-both P (between_them place n a before) (a ∷ list) (all_between P n a before h) (here, all)))

pub all_some : (P : Peer → Type 0) (list : List Peer) (p : Peer) → AllByRecursion P list → P p → AllByRecursion P (some_list list p)
all_some P [] p all h = (h, tt)
all_some P (x ∷ xs) p all h = all

pub some_nearest : (P : Peer → Type 0) (n : Peer) (before : Option Peer) (p : Peer) → IfSome before P → P p → IfSome (nearest_before place n before p) P
some_nearest P n None p h here = here
some_nearest P n (Some b) p h here = by (is_strictly_between (place b) (place p) (place n))
  where
    by : (t : Bool) → IfSome (cond t (Some p) (Some b)) P
    by true = here
    by false = h

-- ---- the first entry

first_take : (k : ℕ) (xs : List Peer) (g : Peer) → first (take k xs) ≡ Some g → first xs ≡ Some g
first_take zero xs g e = absurd (none_some g e)
first_take (suc k) [] g e = e
first_take (suc k) (x ∷ xs) g e = e

first_until : (n : Peer) (xs : List Peer) (g : Peer) → first (until place n xs) ≡ Some g → (first xs ≡ Some g) × (place g ≡ place n → ⊥)
first_until n [] g e = absurd (none_some g e)
first_until n (x ∷ xs) g e = by (nat_eq (place x) (place n)) refl e
  where
    by : (b : Bool) → nat_eq (place x) (place n) ≡ b → first (cond b [] (x ∷ until place n xs)) ≡ Some g → (Some x ≡ Some g) × (place g ≡ place n → ⊥)
    by true t f = absurd (none_some g f)
    by false t f = (f, λ s. let u = eq-eqb (place x) (place n) (ap place (some_same x g f) ∙ s) in cc)

first_between : (n a : Peer) (before : Option Peer) (list : List Peer) (g : Peer) → first (between_them place n a before ++ a ∷ list) ≡ Some g → (a ≡ g) ⊎ (before ≡ Some g)
first_between n a None list g e = inl (some_same a g e)
first_between n a (Some b) list g e = by (is_strictly_between (place n) (place b) (place a)) e
  where
    by : (t : Bool) → first (cond t (b ∷ []) [] ++ a ∷ list) ≡ Some g → (a ≡ g) ⊎ (Some b ≡ Some g)
    by true f = inr f
    by false f = inl (some_same a g f)

-- it is the one that was asked or its predecessor, and never the node itself
pub first_renewed : (r : ℕ) (n a : Peer) (before : Option Peer) (list : List Peer) (g : Peer) → first (renewed place r n a before list) ≡ Some g → ((a ≡ g) ⊎ (before ≡ Some g)) × (place g ≡ place n → ⊥)
first_renewed r n a before list g e =
    let u = first_until n (between_them place n a before ++ a ∷ list) g (first_take (2 * r) (until place n (between_them place n a before ++ a ∷ list)) g e) in
    (first_between n a before list g u.0, u.1)

first_heard : (r : ℕ) (n : Peer) (ring : Peer → Links Peer) (o : Option Peer) (g : Peer) → first (heard place r n ring o) ≡ Some g → place g ≡ place n → ⊥
first_heard r n ring None g e = absurd (none_some g e)
first_heard r n ring (Some a) g e = (first_renewed r n a (ring a).before (ring a).list g e).1

-- ---- a list is cut before the node's own entry

until_cut : (n a : Peer) (one other xs : List Peer) → nat_eq (place a) (place n) ≡ true → until place n (xs ++ a ∷ one) ≡ until place n (xs ++ a ∷ other)
until_cut n a one other [] e = cond-true (nat_eq (place a) (place n)) [] (a ∷ until place n one) e ∙ sym (cond-true (nat_eq (place a) (place n)) [] (a ∷ until place n other) e)
until_cut n a one other (x ∷ xs) e = ap (λ (l : List Peer). cond (nat_eq (place x) (place n)) [] (x ∷ l)) (until_cut n a one other xs e)

-- so what is heard hangs on no list of one that stands at its place
heard_same : (r : ℕ) (n : Peer) (one other : Peer → Links Peer) → ((q : Peer) → (one q).before ≡ (other q).before) → ((q : Peer) → (q ≡ n → ⊥) → (one q).list ≡ (other q).list) → (o : Option Peer)
    → heard place r n one o ≡ heard place r n other o
heard_same r n one other b l None = refl
heard_same r n one other b l (Some a) =
    ap (λ (before : Option Peer). renewed place r n a before (one a).list) (b a) ∙ by (nat_eq (place a) (place n)) refl
  where
    by : (t : Bool) → nat_eq (place a) (place n) ≡ t → renewed place r n a (other a).before (one a).list ≡ renewed place r n a (other a).before (other a).list
    by true e = ap (λ (x : List Peer). take (2 * r) x) (until_cut n a (one a).list (other a).list (between_them place n a (other a).before) e)
    by false e = ap (λ (x : List Peer). renewed place r n a (other a).before x) (l a (λ s. let t = eq-eqb (place a) (place n) (ap place s) in cc))

-- ---- a first entry that is silent is dropped

pub record DropsFirst (lives : Peer → Bool) (p f : Peer) (rest : List Peer) (old now : Peer → Links Peer) : Type 0 where
  pub listed : (old p).list ≡ f ∷ rest
  pub silent : lives f ≡ false
  pub list : (now p).list ≡ rest
  pub before : (q : Peer) → (now q).before ≡ (old q).before
  pub fingers : (now p).fingers ≡ (old p).fingers
  pub others : (q : Peer) → (q ≡ p → ⊥) → now q ≡ old q

list_dropped : (r : ℕ) (lives : Peer → Bool) (p f : Peer) (rest : List Peer) (old now : Peer → Links Peer) → DropsFirst lives p f rest old now → list_after place r lives now p ≡ list_after place r lives old p
list_dropped r lives p f rest old now d =
    heard_same r p now old d.before (λ q n i. (d.others q n i).list) (find lives (now p).list)
    ∙ ap (heard place r p old) (ap (find lives) d.list ∙ sym (ap (find lives) d.listed ∙ cond-false (lives f) (Some f) (find lives rest) d.silent))

pub stabilised_dropped : (r : ℕ) (lives : Peer → Bool) (p f : Peer) (rest : List Peer) (old now new : Peer → Links Peer) → DropsFirst lives p f rest old now → IsStabilised place r lives p now new → IsStabilised place r lives p old new
stabilised_dropped r lives p f rest old now new d s =
    let same = list_dropped r lives p f rest old now d in
    record {
      list = s.list ∙ same;
      before = s.before ∙ d.before p;
      fingers = s.fingers ∙ d.fingers;
      told = λ g e. s.told g (ap first same ∙ e) ∙ ap (λ (l : Links Peer). notified place g l p) (d.others g (λ i. first_heard r p old (find lives (old p).list) g e (ap place i)));
      others = λ m n e. s.others m n (λ g. e (sym (ap first same) ∙ g)) ∙ d.others m n;
    }

-- ---- predecessors live on

-- the predecessors that live nodes know live
abbrev pub Living : (Peer → Bool) → (Peer → Links Peer) → Type 0
Living lives ring = (p b : Peer) → lives p ≡ true → (ring p).before ≡ Some b → lives b ≡ true

nearest_is : (n : Peer) (before : Option Peer) (p b : Peer) → nearest_before place n before p ≡ Some b → (p ≡ b) ⊎ (before ≡ Some b)
nearest_is n None p b e = inl (some_same p b e)
nearest_is n (Some c) p b e = by (is_strictly_between (place c) (place p) (place n)) e
  where
    by : (t : Bool) → cond t (Some p) (Some c) ≡ Some b → (p ≡ b) ⊎ (Some c ≡ Some b)
    by true f = inl (some_same p b f)
    by false f = inr f

pub living_kept : (r : ℕ) (lives : Peer → Bool) (p : Peer) (old new : Peer → Links Peer) → lives p ≡ true → IsStabilised place r lives p old new → Living lives old → Living lives new
living_kept r lives p old new l s h q b lq e = by (first (list_after place r lives old p)) refl
  where
    of_told : (f : Peer) → new f ≡ notified place f (old f) p → lives f ≡ true → (new f).before ≡ Some b → lives b ≡ true
    of_told f t lf g = ⊎_elim (λ i. subst (λ x. lives x ≡ true) i l) (λ i. h f b lf i) (nearest_is f (old f).before p b (sym (λ i. (t i).before) ∙ g))

    other : (first (list_after place r lives old p) ≡ Some q → ⊥) → lives b ≡ true
    other d = ⊎_elim (λ i. h p b l (sym s.before ∙ subst (λ x. (new x).before ≡ Some b) i e)) (λ n. h q b lq (sym (λ i. (s.others q n d i).before) ∙ e)) (peer_or_not q p)

    by : (o : Option Peer) → first (list_after place r lives old p) ≡ o → lives b ≡ true
    by None f = other (λ g. none_some q (sym f ∙ g))
    by (Some f) g = ⊎_elim
        (λ i. of_told q (s.told q (g ∙ ap (λ (x : Peer). Some x) (sym i))) lq e)
        (λ n. other (λ k. n (some_same q f (sym k ∙ g))))
        (peer_or_not q f)
