-- The passes of a round make the lists of a ring right.
use Rattle.std.proofs.Common.{◌≡◌, ℕ, zero, suc, ◌+◌, ◌-◌, ◌*◌, ◌<◌, ◌≤◌, Bool, true, List, [], ◌∷◌, ◌++◌, length, take, Option, Some, None, refl, sym, ap, ◌∙◌, subst, arith, inl, inr, ⊎_elim, ◌⊎◌, append_assoc, length-take, eqb, add-zero}
use Rattle.std.specs.List.{find}
use Rattle.std.proofs.lemmas.Bool.{true≢false, cases_eq, cases_Bool, cond-true, cond-false, ne_eqb, eq-eqb}
use Rattle.std.proofs.lemmas.List.{take_all, take-take}
use Rattle.ring_model.specs.Arc.{is_strictly_between}
use Rattle.ring_model.specs.Members.{IsAmong, first, HasAscendingPlaces, following}
use Rattle.ring_model.specs.Ring.{Links}
use Rattle.ring_model.specs.Pass.{some_list, until, between_them, renewed, nearest_before, notified, heard, list_after, IsStabilised, IsPass, ArePasses}
use Rattle.ring_model.specs.Pass.IsPass.{done, more}
use Rattle.ring_model.specs.Pass.ArePasses.{none, again}
use Rattle.ring_model.proofs.Lists.{cons_head, cons_tail, nil_cons, some_same, none_some, take_first}
use Rattle.ring_model.proofs.Arcs.{is_inside-at, is_inside-turned, is_inside-first}
use Rattle.ring_model.proofs.Members.{following-next, among-following, among_live, nobody_between, same_member}
use Rattle.ring_model.proofs.Owners.{apart_from_next}

module _ {A : Type 0} (place : A → ℕ) where
  pub until-other : (n x : A) (xs : List A) → (place x ≡ place n → ⊥) → until place n (x ∷ xs) ≡ x ∷ until place n xs
  until-other n x xs d = cond-false (eqb (place x) (place n)) [] (x ∷ until place n xs) (ne_eqb (place x) (place n) d)

  pub until-own : (n : A) (xs : List A) → until place n (n ∷ xs) ≡ []
  until-own n xs = cond-true (eqb (place n) (place n)) [] (n ∷ until place n xs) (eq-eqb (place n) (place n) refl)

  -- the first k entries before n's own, where the first k entries are known up to n
  pub until_take : (k : ℕ) (n : A) (rest behind xs : List A) → ((z : A) → IsAmong z rest → place z ≡ place n → ⊥) → take k xs ≡ take k (rest ++ n ∷ behind) → take k (until place n xs) ≡ take k rest
  until_take zero n rest behind xs d e = refl
  until_take (suc k) n rest behind [] d e = absurd (not_nil rest e)
    where
      not_nil : (rest : List A) → [] ≡ take (suc k) (rest ++ n ∷ behind) → ⊥
      not_nil [] e = nil_cons n (take k behind) e
      not_nil (z ∷ zs) e = nil_cons z (take k (zs ++ n ∷ behind)) e
  until_take (suc k) n [] behind (y ∷ ys) d e =
      let y_is : y ≡ n = cons_head y (take k ys) n (take k behind) e in
      ap (take (suc k)) (ap (λ w. until place n (w ∷ ys)) y_is ∙ until-own n ys)
  until_take (suc k) n (z ∷ zs) behind (y ∷ ys) d e =
      let y_is : y ≡ z = cons_head y (take k ys) z (take k (zs ++ n ∷ behind)) e in
      let tail : take k ys ≡ take k (zs ++ n ∷ behind) = cons_tail y (take k ys) z (take k (zs ++ n ∷ behind)) e in
      ap (λ w. take (suc k) (until place n (w ∷ ys))) y_is
      ∙ ap (take (suc k)) (until-other n z ys (d z (inl refl)))
      ∙ ap (λ l. z ∷ l) (until_take k n zs behind ys (λ w i. d w (inr i)) tail)

  -- a new list that begins with the answering node
  pub renewed-plain : (r : ℕ) (n a : A) (b : Option A) (la : List A) → (place a ≡ place n → ⊥) → between_them place n a b ≡ [] → renewed place r n a b la ≡ take (2 * r) (a ∷ until place n la)
  renewed-plain r n a b la d e = ap (take (2 * r)) (ap (λ l. until place n (l ++ a ∷ la)) e ∙ until-other n a la d)

  -- a new list that begins with the predecessor that the answering node names
  pub renewed-between : (r : ℕ) (n a p : A) (la : List A) → (place a ≡ place n → ⊥) → (place p ≡ place n → ⊥) → is_strictly_between (place n) (place p) (place a) ≡ true → renewed place r n a (Some p) la ≡ take (2 * r) (p ∷ a ∷ until place n la)
  renewed-between r n a p la d q t =
      ap (take (2 * r)) (ap (λ l. until place n (l ++ a ∷ la)) (cond-true (is_strictly_between (place n) (place p) (place a)) (p ∷ []) [] t) ∙ until-other n p (a ∷ la) q ∙ ap (λ l. p ∷ l) (until-other n a la d))

  pub between-cases : (n a : A) (b : Option A) → (between_them place n a b ≡ []) ⊎ ((p : A) × (b ≡ Some p) × (is_strictly_between (place n) (place p) (place a) ≡ true))
  between-cases n a None = inl refl
  between-cases n a (Some p) =
      ⊎_elim (λ t. inr (p, refl, t)) (λ f. inl (cond-false (is_strictly_between (place n) (place p) (place a)) (p ∷ []) [] f)) (cases_Bool (is_strictly_between (place n) (place p) (place a)))

module _ {A : Type 0} (place : A → ℕ) (r : ℕ) (pos : 1 ≤ r) (live : List A) (lives : A → Bool) (asc : HasAscendingPlaces place live) (lives_all : (m : A) → IsAmong m live → lives m ≡ true) (x : A) (lx : IsAmong x live) where
  -- v is the next member after m, or, where that is x, the one after x
  abbrev pub IsReadyAt : A → Option A → Type 0
  IsReadyAt m v = (v ≡ first (following place live m)) ⊎ ((rest : List A) × (following place live m ≡ x ∷ rest) × (v ≡ first rest))

  -- predecessors live, and each list's first live entry is the next member, or the one after x where the next member is x
  pub record IsSound (ring : A → Links A) : Type 0 where
    pub befores : (m b : A) → IsAmong m live → (ring m).before ≡ Some b → IsAmong b live
    pub firsts : (m : A) → IsAmong m live → IsReadyAt m (find lives (ring m).list)
    pub lone : (m : A) → IsAmong m live → following place live m ≡ x ∷ [] → find lives (ring m).list ≡ None → (ring m).list ≡ []

  -- the next member after y knows of y
  pub record IsKnown (y : A) (ring : A → Links A) : Type 0 where
    pub before : (s : A) (rest : List A) → following place live y ≡ s ∷ rest → (ring s).before ≡ Some y
    pub some : (s : A) (rest : List A) → following place live y ≡ s ∷ rest → (ring s).list ≡ [] → ⊥

  pub find_first : (f : A) (tail : List A) → IsAmong f live → find lives (f ∷ tail) ≡ Some f
  find_first f tail h = cond-true (lives f) (Some f) (find lives tail) (lives_all f h)

  pub two_some : 0 < 2 * r
  two_some = omega arith

  -- what the new list begins with
  pub record BeginsWith (n : A) (new : List A) (f : A) : Type 0 where
    pub tail : List A
    pub whole : new ≡ f ∷ tail
    pub living : IsAmong f live
    pub apart : place f ≡ place n → ⊥
    pub ready : IsReadyAt n (Some f)

  pub among_first : (n f : A) → IsAmong n live → IsReadyAt n (Some f) → IsAmong f (following place live n)
  among_first n f h (inl e) = head_among (following place live n) e
    where
      head_among : (l : List A) → Some f ≡ first l → IsAmong f l
      head_among [] e = absurd (none_some f (sym e))
      head_among (z ∷ zs) e = inl (some_same z f (sym e))
  among_first n f h (inr (rest, e, g)) = subst (IsAmong f) (sym e) (inr (head_among rest g))
    where
      head_among : (l : List A) → Some f ≡ first l → IsAmong f l
      head_among [] e = absurd (none_some f (sym e))
      head_among (z ∷ zs) e = inl (some_same z f (sym e))

  pub first_cons : (l : List A) (f : A) → Some f ≡ first l → (rest : List A) × (l ≡ f ∷ rest)
  first_cons [] f e = absurd (none_some f (sym e))
  first_cons (z ∷ zs) f e = (zs, ap (λ w. w ∷ zs) (some_same z f (sym e)))

  pub new_list : (ring : A → Links A) (n : A) → IsSound ring → IsAmong n live
      → ((list_after place r lives ring n ≡ []) × (find lives (ring n).list ≡ None) × IsReadyAt n None) ⊎ ((f : A) × BeginsWith n (list_after place r lives ring n) f)
  new_list ring n s h = by (find lives (ring n).list) refl (s.firsts n h)
    where
      by : (v : Option A) → find lives (ring n).list ≡ v → IsReadyAt n v → ((heard place r n ring v ≡ []) × (v ≡ None) × IsReadyAt n None) ⊎ ((f : A) × BeginsWith n (heard place r n ring v) f)
      by None fe ready = inl (refl, refl, ready)
      by (Some a) fe ready =
          let in_f : IsAmong a (following place live n) = among_first n a h ready in
          let la : IsAmong a live = among_live place live n a in_f in
          let d : place a ≡ place n → ⊥ = apart_from_next place live n a in_f in
          ⊎_elim
          (λ plain. inr (a, record { tail = take (2 * r - 1) (until place n (ring a).list); whole = renewed-plain place r n a (ring a).before (ring a).list d plain ∙ take_first (2 * r) a (until place n (ring a).list) two_some; living = la; apart = d; ready = ready }))
          (λ named. inr (between named.0 named.1 named.2 a la d ready))
          (between-cases place n a (ring a).before)
        where
          between : (p : A) → (ring a).before ≡ Some p → is_strictly_between (place n) (place p) (place a) ≡ true → (b : A) → IsAmong a live → (place a ≡ place n → ⊥) → IsReadyAt n (Some a) → (f : A) × BeginsWith n (renewed place r n a (ring a).before (ring a).list) f
          between p e t b la d (inl g) =
              let q = first_cons (following place live n) a g in
              absurd (true≢false (sym t ∙ nobody_between place live n a p q.0 asc h q.1 (s.befores a p la e)))
          between p e t b la d (inr (rest, f, g)) =
              let q = first_cons rest a g in
              let both : following place live n ≡ x ∷ a ∷ q.0 = f ∙ ap (λ l. x ∷ l) q.1 in
              let lp : IsAmong p live = s.befores a p la e in
              let next : following place live x ≡ a ∷ (q.0 ++ n ∷ []) = following-next place live n x (a ∷ q.0) asc h both in
              let x_in : IsAmong x (following place live n) = subst (IsAmong x) (sym both) (inl refl) in
              let a_in : IsAmong a (following place live x) = subst (IsAmong a) (sym next) (inl refl) in
              let xn : place x ≡ place n → ⊥ = apart_from_next place live n x x_in in
              let ax : place a ≡ place x → ⊥ = apart_from_next place live x a a_in in
              let inside_x = is_inside-first (place n) (place x) (place a) (nobody_between place live n x a (a ∷ q.0) asc h both la) ax xn in
              let at = is_inside-at (place n) (place x) (place a) (place p) t inside_x (nobody_between place live n x p (a ∷ q.0) asc h both lp) (nobody_between place live x a p (q.0 ++ n ∷ []) asc lx next lp) in
              let p_is : p ≡ x = same_member place live p x asc lp lx at in
              let pn : place p ≡ place n → ⊥ = λ i. xn (sym at ∙ i) in (
                p,
                record {
                  tail = take (2 * r - 1) (a ∷ until place n (ring a).list);
                  whole = ap (λ o. renewed place r n a o (ring a).list) e ∙ renewed-between place r n a p (ring a).list d pn t ∙ take_first (2 * r) p (a ∷ until place n (ring a).list) two_some;
                  living = lp;
                  apart = pn;
                  ready = inl (ap (λ z. Some z) p_is ∙ sym (ap first both));
                },
              )

  -- a node that is notified while it has no list has the notifying one alone for company
  pub alone_with : (ring : A → Links A) (f n : A) → IsSound ring → IsAmong f live → IsAmong n live → (f ≡ n → ⊥) → (ring f).list ≡ [] → following place live f ≡ n ∷ []
  alone_with ring f n s lf ln d e =
      let in_f : IsAmong n (following place live f) = ⊎_elim (λ i. absurd (d i)) (λ i. i) (among-following place live f n asc lf ln) in
      by (subst (λ l. IsReadyAt f (find lives l)) e (s.firsts f lf)) in_f
    where
      nothing : (l : List A) → None ≡ first l → l ≡ []
      nothing [] g = refl
      nothing (z ∷ zs) g = absurd (none_some z g)

      by : IsReadyAt f None → IsAmong n (following place live f) → following place live f ≡ n ∷ []
      by (inl g) i = absurd (elim_nil (subst (IsAmong n) (nothing (following place live f) g) i))
        where
          elim_nil : IsAmong n [] → ⊥
          elim_nil h = elim h [ ]
      by (inr (rest, g, k)) i =
          let whole : following place live f ≡ x ∷ [] = g ∙ ap (λ l. x ∷ l) (nothing rest k) in
          let n_is : x ≡ n = only (subst (IsAmong n) whole i) in
          whole ∙ ap (λ z. z ∷ []) n_is
        where
          only : IsAmong n (x ∷ []) → x ≡ n
          only (inl q) = q
          only (inr q) = elim q [ ]

  pub told_list : (ring : A → Links A) (f n : A) → IsSound ring → IsAmong f live → IsAmong n live → (f ≡ n → ⊥) → (some_list (ring f).list n ≡ (ring f).list) ⊎ ((some_list (ring f).list n ≡ n ∷ []) × (following place live f ≡ n ∷ []))
  told_list ring f n s lf ln d = by (ring f).list refl
    where
      by : (l : List A) → (ring f).list ≡ l → (some_list l n ≡ l) ⊎ ((some_list l n ≡ n ∷ []) × (following place live f ≡ n ∷ []))
      by [] e = inr (refl, alone_with ring f n s lf ln d e)
      by (z ∷ zs) e = inl refl

  -- how a step meets m: it is m's own, or m is notified, or m stays as it was
  pub data Meets (n : A) (old new : A → Links A) (m : A) : Type 0 where
    own : m ≡ n → Meets n old new m
    told : (m ≡ n → ⊥) → new m ≡ notified place m (old m) n → Meets n old new m
    stays : (m ≡ n → ⊥) → new m ≡ old m → Meets n old new m

  pub meets : (n m : A) (old new : A → Links A) → IsSound old → IsAmong n live → IsStabilised place r lives n old new → IsAmong m live → Meets n old new m
  meets n m old new s ln st lm =
      ⊎_elim
      (λ e. own (same_member place live m n asc lm ln e))
      (λ d. other (λ q. d (ap place q)) (new_list old n s ln))
      (cases_eq (place m) (place n))
    where
      other : (m ≡ n → ⊥) → ((list_after place r lives old n ≡ []) × (find lives (old n).list ≡ None) × IsReadyAt n None) ⊎ ((f : A) × BeginsWith n (list_after place r lives old n) f) → Meets n old new m
      other ne (inl (e, fe, ready)) = stays ne (st.others m ne (λ q. none_some m (sym (ap first e) ∙ q)))
      other ne (inr (f, b)) =
          let head : first (list_after place r lives old n) ≡ Some f = ap first b.whole in
          ⊎_elim
          (λ e. let q : m ≡ f = same_member place live m f asc lm b.living e in told ne (subst (λ z. new z ≡ notified place z (old z) n) (sym q) (st.told f head)))
          (λ d. stays ne (st.others m ne (λ q. d (ap place (some_same m f (sym q ∙ head))))))
          (cases_eq (place m) (place f))

  pub nearest_cases : (n f : A) (o : Option A) (b : A) → nearest_before place f o n ≡ Some b → (b ≡ n) ⊎ (o ≡ Some b)
  nearest_cases n f None b e = inl (some_same b n (sym e))
  nearest_cases n f (Some c) b e =
      ⊎_elim
      (λ t. inl (some_same b n (sym e ∙ cond-true (is_strictly_between (place c) (place n) (place f)) (Some n) (Some c) t)))
      (λ g. inr (sym (cond-false (is_strictly_between (place c) (place n) (place f)) (Some n) (Some c) g) ∙ e))
      (cases_Bool (is_strictly_between (place c) (place n) (place f)))

  -- the list of another node after a step
  pub other_list : (n m : A) (old new : A → Links A) → IsSound old → IsAmong n live → IsAmong m live → (m ≡ n → ⊥) → new m ≡ notified place m (old m) n
      → ((new m).list ≡ (old m).list) ⊎ (((new m).list ≡ n ∷ []) × (following place live m ≡ n ∷ []))
  other_list n m old new s ln lm ne e =
      let l : (new m).list ≡ some_list (old m).list n = ap (λ z. z.list) e in
      ⊎_elim (λ q. inl (l ∙ q)) (λ q. inr (l ∙ q.0, q.1)) (told_list old m n s lm ln ne)

  pub sound_after : (n : A) (old new : A → Links A) → IsSound old → IsAmong n live → IsStabilised place r lives n old new → IsSound new
  sound_after n old new s ln st = record { befores = befores; firsts = firsts; lone = lone }
    where
      befores : (m b : A) → IsAmong m live → (new m).before ≡ Some b → IsAmong b live
      befores m b lm e = by (meets n m old new s ln st lm)
        where
          by : Meets n old new m → IsAmong b live
          by (own q) = s.befores m b lm (subst (λ z. (old z).before ≡ Some b) (sym q) (sym st.before ∙ subst (λ z. (new z).before ≡ Some b) q e))
          by (told ne q) = ⊎_elim (λ k. subst (λ z. IsAmong z live) (sym k) ln) (λ k. s.befores m b lm k) (nearest_cases n m (old m).before b (sym (ap (λ z. z.before) q) ∙ e))
          by (stays ne q) = s.befores m b lm (sym (ap (λ z. z.before) q) ∙ e)

      own_first : ((list_after place r lives old n ≡ []) × (find lives (old n).list ≡ None) × IsReadyAt n None) ⊎ ((f : A) × BeginsWith n (list_after place r lives old n) f) → IsReadyAt n (find lives (new n).list)
      own_first (inl (e, fe, ready)) = subst (λ l. IsReadyAt n (find lives l)) (sym (st.list ∙ e)) ready
      own_first (inr (f, b)) = subst (λ l. IsReadyAt n (find lives l)) (sym (st.list ∙ b.whole)) (subst (IsReadyAt n) (sym (find_first f b.tail b.living)) b.ready)

      alone_first : (m : A) → following place live m ≡ n ∷ [] → (l : List A) → l ≡ n ∷ [] → IsReadyAt m (find lives l)
      alone_first m g l e = subst (λ k. IsReadyAt m (find lives k)) (sym e) (inl (find_first n [] ln ∙ sym (ap first g)))

      firsts : (m : A) → IsAmong m live → IsReadyAt m (find lives (new m).list)
      firsts m lm = by (meets n m old new s ln st lm)
        where
          by : Meets n old new m → IsReadyAt m (find lives (new m).list)
          by (own q) = subst (λ z. IsReadyAt z (find lives (new z).list)) (sym q) (own_first (new_list old n s ln))
          by (told ne q) = ⊎_elim (λ k. subst (λ l. IsReadyAt m (find lives l)) (sym k) (s.firsts m lm)) (λ k. alone_first m k.1 (new m).list k.0) (other_list n m old new s ln lm ne q)
          by (stays ne q) = subst (λ z. IsReadyAt m (find lives z.list)) (sym q) (s.firsts m lm)

      own_lone : ((list_after place r lives old n ≡ []) × (find lives (old n).list ≡ None) × IsReadyAt n None) ⊎ ((f : A) × BeginsWith n (list_after place r lives old n) f) → find lives (new n).list ≡ None → (new n).list ≡ []
      own_lone (inl (e, fe, ready)) v = st.list ∙ e
      own_lone (inr (f, b)) v = absurd (none_some f (sym v ∙ ap (find lives) (st.list ∙ b.whole) ∙ find_first f b.tail b.living))

      lone : (m : A) → IsAmong m live → following place live m ≡ x ∷ [] → find lives (new m).list ≡ None → (new m).list ≡ []
      lone m lm e v = by (meets n m old new s ln st lm)
        where
          by : Meets n old new m → (new m).list ≡ []
          by (own q) = subst (λ z. (new z).list ≡ []) (sym q) (own_lone (new_list old n s ln) (subst (λ z. find lives (new z).list ≡ None) q v))
          by (told ne q) =
              ⊎_elim
              (λ k. k ∙ s.lone m lm e (sym (ap (find lives) k) ∙ v))
              (λ k. absurd (none_some n (sym v ∙ ap (find lives) k.0 ∙ find_first n [] ln)))
              (other_list n m old new s ln lm ne q)
          by (stays ne q) = ap (λ z. z.list) q ∙ s.lone m lm e (sym (ap (λ z. find lives z.list) q) ∙ v)

  pub nothing_first : (l : List A) → None ≡ first l → l ≡ []
  nothing_first [] g = refl
  nothing_first (z ∷ zs) g = absurd (none_some z g)

  pub nobody_among : (z : A) (l : List A) → l ≡ [] → IsAmong z l → ⊥
  nobody_among z l e h = elim (subst (IsAmong z) e h) [ ]

  pub some_list_some : (l : List A) (n : A) → some_list l n ≡ [] → ⊥
  some_list_some [] n e = nil_cons n [] (sym e)
  some_list_some (z ∷ zs) n e = nil_cons z zs (sym e)

  -- what the next node knows stays
  pub known_after : (y n : A) (old new : A → Links A) → IsSound old → IsAmong y live → IsKnown y old → IsAmong n live → IsStabilised place r lives n old new → IsKnown y new
  known_after y n old new s ly k ln st = record { before = before; some = some }
    where
      next_lives : (t : A) (rest : List A) → following place live y ≡ t ∷ rest → IsAmong t live
      next_lives t rest e = among_live place live y t (subst (IsAmong t) (sym e) (inl refl))

      before : (t : A) (rest : List A) → following place live y ≡ t ∷ rest → (new t).before ≡ Some y
      before t rest e = by (meets n t old new s ln st (next_lives t rest e))
        where
          by : Meets n old new t → (new t).before ≡ Some y
          by (own q) = subst (λ z. (new z).before ≡ Some y) (sym q) (st.before ∙ subst (λ z. (old z).before ≡ Some y) q (k.before t rest e))
          by (told ne q) =
              ap (λ z. z.before) q ∙ ap (λ o. nearest_before place t o n) (k.before t rest e)
              ∙ cond-false (is_strictly_between (place y) (place n) (place t)) (Some n) (Some y) (nobody_between place live y t n rest asc ly e ln)
          by (stays ne q) = ap (λ z. z.before) q ∙ k.before t rest e

      own_some : (t : A) (rest : List A) → following place live y ≡ t ∷ rest → t ≡ n → ((list_after place r lives old n ≡ []) × (find lives (old n).list ≡ None) × IsReadyAt n None) ⊎ ((f : A) × BeginsWith n (list_after place r lives old n) f) → (new n).list ≡ [] → ⊥
      own_some t rest e q (inr (f, b)) z = nil_cons f b.tail (sym z ∙ st.list ∙ b.whole)
      own_some t rest e q (inl (l, fe, ready)) z =
          let lt : IsAmong t live = next_lives t rest e in
          let apart : place t ≡ place y → ⊥ = apart_from_next place live y t (subst (IsAmong t) (sym e) (inl refl)) in
          let y_in : IsAmong y (following place live n) = ⊎_elim (λ i. absurd (apart (ap place (q ∙ i)))) (λ i. i) (among-following place live n y asc ln ly) in
          by y_in ready
        where
          by : IsAmong y (following place live n) → IsReadyAt n None → ⊥
          by i (inl g) = nobody_among y (following place live n) (nothing_first (following place live n) g) i
          by i (inr (rest2, g, h)) =
              let whole : following place live n ≡ x ∷ [] = g ∙ ap (λ w. x ∷ w) (nothing_first rest2 h) in
              k.some t rest e (subst (λ w. (old w).list ≡ []) (sym q) (s.lone n ln whole fe))

      some : (t : A) (rest : List A) → following place live y ≡ t ∷ rest → (new t).list ≡ [] → ⊥
      some t rest e z = by (meets n t old new s ln st (next_lives t rest e))
        where
          by : Meets n old new t → ⊥
          by (own q) = own_some t rest e q (new_list old n s ln) (subst (λ w. (new w).list ≡ []) q z)
          by (told ne q) = some_list_some (old t).list n (sym (ap (λ w. w.list) q) ∙ z)
          by (stays ne q) = k.some t rest e (sym (ap (λ w. w.list) q) ∙ z)

  -- x's own step makes it known
  pub known_by_step : (old new : A → Links A) → IsSound old → IsStabilised place r lives x old new → IsKnown x new
  known_by_step old new s st = record { before = before; some = some }
    where
      told_next : (t : A) (rest : List A) → following place live x ≡ t ∷ rest → new t ≡ notified place t (old t) x
      told_next t rest e = st.told t (head (new_list old x s lx))
        where
          not_itself : (rest2 : List A) → following place live x ≡ x ∷ rest2 → ⊥
          not_itself rest2 g = apart_from_next place live x x (subst (IsAmong x) (sym g) (inl refl)) refl

          head : ((list_after place r lives old x ≡ []) × (find lives (old x).list ≡ None) × IsReadyAt x None) ⊎ ((f : A) × BeginsWith x (list_after place r lives old x) f) → first (list_after place r lives old x) ≡ Some t
          head (inl (l, fe, inl g)) = absurd (none_some t (g ∙ ap first e))
          head (inl (l, fe, inr (rest2, g, h))) = absurd (not_itself rest2 g)
          head (inr (f, b)) = ⊎_elim (λ g. ap first b.whole ∙ g ∙ ap first e) (λ g. absurd (not_itself g.0 g.1)) b.ready

      before : (t : A) (rest : List A) → following place live x ≡ t ∷ rest → (new t).before ≡ Some x
      before t rest e = ap (λ z. z.before) (told_next t rest e) ∙ by (old t).before refl
        where
          t_in : IsAmong t (following place live x)
          t_in = subst (IsAmong t) (sym e) (inl refl)

          by : (o : Option A) → (old t).before ≡ o → nearest_before place t o x ≡ Some x
          by None q = refl
          by (Some b) q =
              let lb : IsAmong b live = s.befores t b (among_live place live x t t_in) q in
              ⊎_elim
              (λ i. cond-true (is_strictly_between (place b) (place x) (place t)) (Some x) (Some b) i)
              (λ i. ⊎_elim
              (λ j. cond-false (is_strictly_between (place b) (place x) (place t)) (Some x) (Some b) i ∙ ap (λ z. Some z) (same_member place live b x asc lb lx j))
              (λ j. absurd (true≢false (sym (is_inside-turned (place x) (place b) (place t) (nobody_between place live x t b rest asc lx e lb) j (λ w. apart_from_next place live x t t_in (sym w))) ∙ i)))
              (cases_eq (place b) (place x)))
              (cases_Bool (is_strictly_between (place b) (place x) (place t)))

      some : (t : A) (rest : List A) → following place live x ≡ t ∷ rest → (new t).list ≡ [] → ⊥
      some t rest e z = some_list_some (old t).list x (sym (ap (λ w. w.list) (told_next t rest e)) ∙ z)

  -- the first k entries of m's list are the next members, all where there are fewer, and it has at most 2r entries
  pub record IsRight (k : ℕ) (ring : A → Links A) (m : A) : Type 0 where
    pub next : take k (ring m).list ≡ take k (following place live m)
    pub short : length (ring m).list ≤ 2 * r

  -- a step changes no other list for the worse
  pub right_kept : (k : ℕ) (n m : A) (old new : A → Links A) → IsSound old → IsAmong n live → IsStabilised place r lives n old new → IsAmong m live → (m ≡ n → ⊥) → IsRight k old m → IsRight k new m
  right_kept k n m old new s ln st lm ne h = by (meets n m old new s ln st lm)
    where
      by : Meets n old new m → IsRight k new m
      by (own q) = absurd (ne q)
      by (told d q) =
          ⊎_elim
          (λ e. record { next = ap (take k) e ∙ h.next; short = subst (λ l. length l ≤ 2 * r) (sym e) h.short })
          (λ e. record { next = ap (take k) e.0 ∙ sym (ap (take k) e.1); short = subst (λ l. length l ≤ 2 * r) (sym e.0) one })
          (other_list n m old new s ln lm ne q)
        where
          one : length (n ∷ []) ≤ 2 * r
          one = omega arith
      by (stays d q) = record { next = ap (λ z. take k z.list) q ∙ h.next; short = subst (λ z. length z.list ≤ 2 * r) (sym q) h.short }

  pub heard_short : (ring : A → Links A) (n : A) (v : Option A) → length (heard place r n ring v) ≤ 2 * r
  heard_short ring n None = omega arith
  heard_short ring n (Some a) = short (until place n (between_them place n a (ring a).before ++ a ∷ (ring a).list))
    where
      short : (l : List A) → length (take (2 * r) l) ≤ 2 * r
      short l = omega (arith, length-take (2 * r) l)

  -- a step makes one more entry of its own list right
  pub right_gained : (k : ℕ) (n : A) (old new : A → Links A) → IsSound old → IsKnown x old → IsAmong n live → IsStabilised place r lives n old new
      → ((m : A) → IsAmong m live → IsRight k old m) → k < 2 * r → IsRight (suc k) new n
  right_gained k n old new s known ln st all few =
      record {
        next = ap (take (suc k)) st.list ∙ by (find lives (old n).list) refl (s.firsts n ln);
        short = subst (λ l. length l ≤ 2 * r) (sym st.list) (heard_short old n (find lives (old n).list));
      }
    where
      not_own : (rest : List A) → ((z : A) → IsAmong z rest → IsAmong z (following place live n)) → (z : A) → IsAmong z rest → place z ≡ place n → ⊥
      not_own rest f z i = apart_from_next place live n z (f z i)

      -- the list begins with the answering node
      plain : (a : A) (rest : List A) → following place live n ≡ a ∷ rest → between_them place n a (old a).before ≡ [] → take (suc k) (heard place r n old (Some a)) ≡ take (suc k) (following place live n)
      plain a rest e b =
          let a_in : IsAmong a (following place live n) = subst (IsAmong a) (sym e) (inl refl) in
          let la : IsAmong a live = among_live place live n a a_in in
          let next : following place live a ≡ rest ++ n ∷ [] = following-next place live n a rest asc ln e in
          let right : take k (old a).list ≡ take k (rest ++ n ∷ []) = (all a la).next ∙ ap (take k) next in
          let cut : take k (until place n (old a).list) ≡ take k rest = until_take place k n rest [] (old a).list (not_own rest (λ z i. subst (IsAmong z) (sym e) (inr i))) right in
          ap (take (suc k)) (renewed-plain place r n a (old a).before (old a).list (apart_from_next place live n a a_in) b)
          ∙ take-take (suc k) (2 * r) (a ∷ until place n (old a).list) few
          ∙ ap (λ l. a ∷ l) cut
          ∙ sym (ap (take (suc k)) e)

      -- the list begins with x, which the answering node names
      named : (a : A) (rest : List A) → following place live n ≡ x ∷ a ∷ rest → take (suc k) (heard place r n old (Some a)) ≡ take (suc k) (following place live n)
      named a rest e =
          let x_in : IsAmong x (following place live n) = subst (IsAmong x) (sym e) (inl refl) in
          let a_in : IsAmong a (following place live n) = subst (IsAmong a) (sym e) (inr (inl refl)) in
          let la : IsAmong a live = among_live place live n a a_in in
          let after_x : following place live x ≡ a ∷ (rest ++ n ∷ []) = following-next place live n x (a ∷ rest) asc ln e in
          let a_in_x : IsAmong a (following place live x) = subst (IsAmong a) (sym after_x) (inl refl) in
          let after_a : following place live a ≡ (rest ++ n ∷ []) ++ x ∷ [] = following-next place live x a (rest ++ n ∷ []) asc lx after_x in
          let xn : place x ≡ place n → ⊥ = apart_from_next place live n x x_in in
          let an : place a ≡ place n → ⊥ = apart_from_next place live n a a_in in
          let inside_x = is_inside-first (place n) (place x) (place a) (nobody_between place live n x a (a ∷ rest) asc ln e la) (apart_from_next place live x a a_in_x) xn in
          let right : take k (old a).list ≡ take k (rest ++ n ∷ x ∷ []) = (all a la).next ∙ ap (take k) (after_a ∙ append_assoc rest (n ∷ []) (x ∷ [])) in
          ap (take (suc k)) (ap (λ o. renewed place r n a o (old a).list) (known.before a (rest ++ n ∷ []) after_x) ∙ renewed-between place r n a x (old a).list an xn inside_x)
          ∙ take-take (suc k) (2 * r) (x ∷ a ∷ until place n (old a).list) few
          ∙ ap (λ l. x ∷ l) (second k right)
          ∙ sym (ap (take (suc k)) e)
        where
          second : (j : ℕ) → take j (old a).list ≡ take j (rest ++ n ∷ x ∷ []) → take j (a ∷ until place n (old a).list) ≡ take j (a ∷ rest)
          second zero g = refl
          second (suc j) g =
              let less : take j (old a).list ≡ take j (rest ++ n ∷ x ∷ []) = sym (take-take j (suc j) (old a).list (omega arith)) ∙ ap (take j) g ∙ take-take j (suc j) (rest ++ n ∷ x ∷ []) (omega arith) in
              ap (λ l. a ∷ l) (until_take place j n rest (x ∷ []) (old a).list (not_own rest (λ z i. subst (IsAmong z) (sym e) (inr (inr i)))) less)

      by : (v : Option A) → find lives (old n).list ≡ v → IsReadyAt n v → take (suc k) (heard place r n old v) ≡ take (suc k) (following place live n)
      by None fe (inl g) = ap (take (suc k)) (sym (nothing_first (following place live n) g))
      by None fe (inr (rest, g, h)) =
          let whole : following place live n ≡ x ∷ [] = g ∙ ap (λ w. x ∷ w) (nothing_first rest h) in
          absurd (known.some n [] (following-next place live n x [] asc ln whole) (s.lone n ln whole fe))
      by (Some a) fe (inl g) =
          let q = first_cons (following place live n) a g in
          ⊎_elim
          (λ b. plain a q.0 q.1 b)
          (λ p. absurd (true≢false (sym p.2 ∙ nobody_between place live n a p.0 q.0 asc ln q.1 (s.befores a p.0 (among_live place live n a (subst (IsAmong a) (sym q.1) (inl refl))) p.1))))
          (between-cases place n a (old a).before)
      by (Some a) fe (inr (rest, g, h)) =
          let q = first_cons rest a h in
          named a q.0 (g ∙ ap (λ l. x ∷ l) q.1)

  -- ---- passes

  pub record IsReady (ring : A → Links A) : Type 0 where
    pub sound : IsSound ring
    pub known : IsKnown x ring

  pub ready_after : (n : A) (old new : A → Links A) → IsReady old → IsAmong n live → IsStabilised place r lives n old new → IsReady new
  ready_after n old new s ln st = record { sound = sound_after n old new s.sound ln st; known = known_after x n old new s.sound lx s.known ln st }

  -- after a pass in which x has its part, x is known
  pub first_pass : {ns : List A} {old new : A → Links A} → IsPass place r lives ns old new → ((m : A) → IsAmong m ns → IsAmong m live) → IsSound old → (IsKnown x old ⊎ IsAmong x ns) → IsReady new
  first_pass done f s (inl k) = record { sound = s; known = k }
  first_pass done f s (inr i) = elim i [ ]
  first_pass (more {n = n} {old = old} {mid = mid} st rest) f s (inl k) =
      let ln = f n (inl refl) in
      first_pass rest (λ m i. f m (inr i)) (sound_after n old mid s ln st) (inl (known_after x n old mid s lx k ln st))
  first_pass (more {n = n} {old = old} {mid = mid} st rest) f s (inr (inl q)) =
      first_pass rest (λ m i. f m (inr i)) (sound_after n old mid s (f n (inl refl)) st) (inl (known_by_step old mid s (subst (λ z. IsStabilised place r lives z old mid) q st)))
  first_pass (more {n = n} {old = old} {mid = mid} st rest) f s (inr (inr i)) =
      first_pass rest (λ m j. f m (inr j)) (sound_after n old mid s (f n (inl refl)) st) (inr i)

  -- a pass makes one more entry of each list right
  pub next_pass : {ns : List A} {old new : A → Links A} (k : ℕ) → IsPass place r lives ns old new → ((m : A) → IsAmong m ns → IsAmong m live) → k < 2 * r → IsReady old
      → ((m : A) → IsAmong m live → IsRight k old m) → ((m : A) → IsAmong m live → IsRight (suc k) old m ⊎ IsAmong m ns) → IsReady new × ((m : A) → IsAmong m live → IsRight (suc k) new m)
  next_pass k done f few s all g = (s, λ m lm. ⊎_elim (λ h. h) (λ i. elim i [ ]) (g m lm))
  next_pass k (more {n = n} {ns = ns} {old = old} {mid = mid} st rest) f few s all g =
      let ln = f n (inl refl) in
      let gained : IsRight (suc k) mid n = right_gained k n old mid s.sound s.known ln st all few in
      next_pass k rest (λ m i. f m (inr i)) few (ready_after n old mid s ln st)
      (λ m lm. ⊎_elim (λ e. subst (IsRight k mid) (sym (same_member place live m n asc lm ln e)) (less k mid n gained)) (λ d. right_kept k n m old mid s.sound ln st lm (λ q. d (ap place q)) (all m lm)) (cases_eq (place m) (place n)))
      (λ m lm. ⊎_elim
      (λ e. inl (subst (IsRight (suc k) mid) (sym (same_member place live m n asc lm ln e)) gained))
      (λ d. ⊎_elim (λ h. inl (right_kept (suc k) n m old mid s.sound ln st lm (λ q. d (ap place q)) h)) (λ i. ⊎_elim (λ q. absurd (d (ap place (sym q)))) (λ j. inr j) i) (g m lm))
      (cases_eq (place m) (place n)))
    where
      less : (k : ℕ) (ring : A → Links A) (m : A) → IsRight (suc k) ring m → IsRight k ring m
      less k ring m h = record { next = sym (take-take k (suc k) (ring m).list (omega arith)) ∙ ap (take k) h.next ∙ take-take k (suc k) (following place live m) (omega arith); short = h.short }

  pub next_passes : {ns : List A} {count : ℕ} {old new : A → Links A} (k : ℕ) → ArePasses place r lives ns count old new → ((m : A) → IsAmong m ns → IsAmong m live) → ((m : A) → IsAmong m live → IsAmong m ns) → k + count ≤ 2 * r → IsReady old
      → ((m : A) → IsAmong m live → IsRight k old m) → IsReady new × ((m : A) → IsAmong m live → IsRight (k + count) new m)
  next_passes k (none {ring = ring}) f g few s all = (s, λ m lm. subst (λ j. IsRight j ring m) (sym (add-zero k)) (all m lm))
  next_passes k (again {k = count} {new = new} pass rest) f g few s all =
      let here = next_pass k pass f (omega arith) s all (λ m lm. inr (g m lm)) in
      let e : suc k + count ≡ k + suc count = omega arith in
      let there = next_passes (suc k) rest f g (omega arith) here.0 here.1 in
      (there.0, λ m lm. subst (λ j. IsRight j new m) e (there.1 m lm))

  -- lists stay short in any pass
  pub short_pass : {ns : List A} {old new : A → Links A} → IsPass place r lives ns old new → ((m : A) → IsAmong m ns → IsAmong m live) → IsSound old
      → ((m : A) → IsAmong m live → IsRight 0 old m) → (m : A) → IsAmong m live → IsRight 0 new m
  short_pass done f s all = all
  short_pass (more {n = n} {old = old} {mid = mid} st rest) f s all =
      let ln = f n (inl refl) in
      let own : IsRight 0 mid n = record { next = refl; short = subst (λ l. length l ≤ 2 * r) (sym st.list) (heard_short old n (find lives (old n).list)) } in
      short_pass rest (λ m i. f m (inr i)) (sound_after n old mid s ln st) (λ m lm.
      ⊎_elim
      (λ e. subst (IsRight 0 mid) (sym (same_member place live m n asc lm ln e)) own)
      (λ d. right_kept 0 n m old mid s ln st lm (λ q. d (ap place q)) (all m lm))
      (cases_eq (place m) (place n)))

  pub passes_right : {ns : List A} {old new : A → Links A} {count : ℕ} → ArePasses place r lives ns (suc count) old new → count ≡ 2 * r → ((m : A) → IsAmong m ns → IsAmong m live) → ((m : A) → IsAmong m live → IsAmong m ns) → IsSound old
      → ((m : A) → IsAmong m live → length (old m).list ≤ 2 * r) → IsReady new × ((m : A) → IsAmong m live → IsRight (0 + count) new m)
  passes_right (again {k = count} {mid = mid} pass rest) e f g s short =
      let ready : IsReady mid = first_pass pass f s (inr (g x lx)) in
      let all : (m : A) → IsAmong m live → IsRight 0 mid m = short_pass pass f s (λ m lm. record { next = refl; short = short m lm }) in
      next_passes 0 rest f g (omega arith) ready all

  -- 2r + 1 passes over all live nodes make each list the next 2r members, all where there are fewer
  pub passes_make_right : (ns : List A) (old new : A → Links A) → ArePasses place r lives ns (suc (2 * r)) old new → ((m : A) → IsAmong m ns → IsAmong m live) → ((m : A) → IsAmong m live → IsAmong m ns) → IsSound old
      → ((m : A) → IsAmong m live → length (old m).list ≤ 2 * r) → (m : A) → IsAmong m live → (new m).list ≡ take (2 * r) (following place live m)
  passes_make_right ns old new passes f g s short m lm =
      let e : 0 + 2 * r ≡ 2 * r = omega arith in
      let h : IsRight (2 * r) new m = subst (λ j. IsRight j new m) e ((passes_right passes refl f g s short).1 m lm) in
      sym (take_all (2 * r) (new m).list h.short) ∙ h.next

  -- a step changes no finger
  fingers_by_step : (n m : A) (old new : A → Links A) → IsSound old → IsAmong n live → IsStabilised place r lives n old new → IsAmong m live → (new m).fingers ≡ (old m).fingers
  fingers_by_step n m old new s ln st lm = by (meets n m old new s ln st lm)
    where
      by : Meets n old new m → (new m).fingers ≡ (old m).fingers
      by (own e) = subst (λ z. (new z).fingers ≡ (old z).fingers) (sym e) st.fingers
      by (told d e) = ap (λ l. l.fingers) e
      by (stays d e) = ap (λ l. l.fingers) e

  fingers_by_pass : {ns : List A} {old new : A → Links A} → IsPass place r lives ns old new → ((m : A) → IsAmong m ns → IsAmong m live) → IsSound old → IsSound new × ((m : A) → IsAmong m live → (new m).fingers ≡ (old m).fingers)
  fingers_by_pass done f s = (s, λ m lm. refl)
  fingers_by_pass (more {n = n} {old = old} {mid = mid} st rest) f s =
      let ln = f n (inl refl) in
      let after = fingers_by_pass rest (λ m i. f m (inr i)) (sound_after n old mid s ln st) in
      (after.0, λ m lm. after.1 m lm ∙ fingers_by_step n m old mid s ln st lm)

  -- passes change no finger
  pub fingers_kept : {ns : List A} {count : ℕ} {old new : A → Links A} → ArePasses place r lives ns count old new → ((m : A) → IsAmong m ns → IsAmong m live) → IsSound old → (m : A) → IsAmong m live → (new m).fingers ≡ (old m).fingers
  fingers_kept none f s m lm = refl
  fingers_kept (again pass rest) f s m lm =
      let first_one = fingers_by_pass pass f s in
      fingers_kept rest f first_one.0 m lm ∙ first_one.1 m lm
