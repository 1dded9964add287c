-- One record more is taken, or is left out with all that follows it in its log.
use Rattle.std.proofs.Common.{◌≡◌, ◌⊎◌, inl, inr, ⊎_elim, Bool, true, false, List, [], ◌∷◌, ◌++◌, refl, sym, ap, ◌∙◌, subst, append_assoc, Contains}
use Rattle.std.specs.List.{AllByRecursion}
use Rattle.std.specs.Ordering.{eq_by_cmp}
use Rattle.std.proofs.lemmas.List.{append-nil}
use Rattle.std.proofs.lemmas.List.Elements.{Contains-append_left, Contains-append_right, Contains-append_cases, Contains-push, Contains-push_cases}
use Rattle.ivy_base.specs.declared.key.PubKey.{PubKey}
use Rattle.ivy_base.specs.Naming.{owner_cmp}
use Rattle.log_model.specs.View.{View}
use Rattle.log_model.specs.Vector.{Vector}
use Rattle.log_model.specs.Record.{Record}
use Rattle.log_model.specs.Closed.{log_of, IsAscending}
use Rattle.log_model.proofs.Lists.{here, there, in_cons, in_nothing, each_from, each, each_append}
use Rattle.log_model.proofs.Opening.{same_owner}
use Rattle.log_model.proofs.Part.{log_push}
use Rattle.causal_order.specs.Over.{HasCauses, IsChainOver, IsClosed}
use Rattle.causal_order.proofs.Logs.{front_over, ascends_over}
use Rattle.causal_order.specs.Passing.{Queue, AreApart, IsLeft, IsSeen, IsLeast, IsTaken, IsShortened, IsBefore}
use Rattle.causal_order.proofs.Passes.{start, chain_of, is_mine, causes_weaken, r_good, left_owned, going, member_has_causes, first_in}

-- a queue with less of its chain stands in its place
shorter : Queue → List Record → Queue
shorter k rest = record { owner = k.owner; left = rest }

pub apart_left : (a : List Queue) (k : Queue) (b : List Queue) → AreApart (a ++ k ∷ b) → (l : Queue) → Contains a l → l.owner ≡ k.owner → ⊥
apart_left [] k b h l c e = absurd (in_nothing l c)
apart_left (x ∷ a) k b h l c e = ⊎_elim
    (λ is_l. each (λ y. x.owner ≡ y.owner → ⊥) (a ++ k ∷ b) k h.0 (Contains-append_right a (k ∷ b) k (here k b)) (ap (λ (y : Queue). y.owner) is_l ∙ e))
    (λ d. apart_left a k b h.1 l d e) (in_cons x a l c)

pub apart_right : (a : List Queue) (k : Queue) (b : List Queue) → AreApart (a ++ k ∷ b) → (l : Queue) → Contains b l → l.owner ≡ k.owner → ⊥
apart_right [] k b h l c e = each (λ y. k.owner ≡ y.owner → ⊥) b l h.0 c (sym e)
apart_right (x ∷ a) k b h l c e = apart_right a k b h.1 l c e

-- owners alone decide
apart_again : (a : List Queue) (k m : Queue) (b : List Queue) → m.owner ≡ k.owner → AreApart (a ++ k ∷ b) → AreApart (a ++ m ∷ b)
apart_again [] k m b e h = (each_from (λ y. m.owner ≡ y.owner → ⊥) b (λ l c d. each (λ y. k.owner ≡ y.owner → ⊥) b l h.0 c (sym e ∙ d)), h.1)
apart_again (x ∷ a) k m b e h = (each_from (λ y. x.owner ≡ y.owner → ⊥) (a ++ m ∷ b) (λ l c d. by l d (Contains-append_cases a (m ∷ b) l c)), apart_again a k m b e h.1)
  where
    by : (l : Queue) → x.owner ≡ l.owner → Contains a l ⊎ Contains (m ∷ b) l → ⊥
    by l d (inl c) = each (λ y. x.owner ≡ y.owner → ⊥) (a ++ k ∷ b) l h.0 (Contains-append_left a (k ∷ b) l c) d
    by l d (inr c) = ⊎_elim
        (λ is_l. each (λ y. x.owner ≡ y.owner → ⊥) (a ++ k ∷ b) k h.0 (Contains-append_right a (k ∷ b) k (here k b)) (d ∙ sym (ap (λ (y : Queue). y.owner) is_l) ∙ e))
        (λ c2. each (λ y. x.owner ≡ y.owner → ⊥) (a ++ k ∷ b) l h.0 (Contains-append_right a (k ∷ b) l (there k b l c2)) d) (in_cons m b l c)

pub ascends_right : (xs ys : List Record) → IsAscending (xs ++ ys) → IsAscending ys
ascends_right [] ys h = h
ascends_right (x ∷ xs) ys h = ascends_right xs ys h.1

ascends_push : (xs : List Record) (r : Record) → IsAscending xs → ((q : Record) → Contains xs q → IsBefore q r) → IsAscending (xs ++ r ∷ [])
ascends_push [] r h before = (tt, tt)
ascends_push (x ∷ xs) r h before =
    (each_append (IsBefore x) xs (r ∷ []) h.0 (before x (here x xs), tt), ascends_push xs r h.1 (λ q c. before q (there x xs q c)))

module _ (view : View) (front : Vector) (Available : Record → Type 0) where
  module _ (queues after : List Queue) (k : Queue) (rest : List Record) (apart : AreApart queues) (h : IsShortened queues after k rest) where
    new_queue : Queue
    new_queue = record { owner = k.owner; left = rest }

    apart_old : AreApart (h.first ++ k ∷ h.last)
    apart_old = subst AreApart h.old apart

    -- a queue of these is the shortened one, or an old one of another owner
    from_after : (l : Queue) → Contains after l → (l ≡ record { owner = k.owner; left = rest }) ⊎ (Contains queues l × (l.owner ≡ k.owner → ⊥))
    from_after l c = by (Contains-append_cases h.first (record { owner = k.owner; left = rest } ∷ h.last) l (subst (λ (qs : List Queue). Contains qs l) h.new c))
      where
        old : (m : Queue) → Contains (h.first ++ k ∷ h.last) m → Contains queues m
        old m d = subst (λ (qs : List Queue). Contains qs m) (sym h.old) d

        by : Contains h.first l ⊎ Contains (record { owner = k.owner; left = rest } ∷ h.last) l → (l ≡ record { owner = k.owner; left = rest }) ⊎ (Contains queues l × (l.owner ≡ k.owner → ⊥))
        by (inl d) = inr (old l (Contains-append_left h.first (k ∷ h.last) l d), apart_left h.first k h.last apart_old l d)
        by (inr d) = ⊎_elim (λ e. inl (sym e))
            (λ g. inr (old l (Contains-append_right h.first (k ∷ h.last) l (there k h.last l g)), apart_right h.first k h.last apart_old l g))
            (in_cons (record { owner = k.owner; left = rest }) h.last l d)

    -- each old queue but the shortened one still stands there
    to_after : (l : Queue) → Contains queues l → (l ≡ k) ⊎ Contains after l
    to_after l c = by (Contains-append_cases h.first (k ∷ h.last) l (subst (λ (qs : List Queue). Contains qs l) h.old c))
      where
        stays : Contains (h.first ++ record { owner = k.owner; left = rest } ∷ h.last) l → Contains after l
        stays d = subst (λ (qs : List Queue). Contains qs l) (sym h.new) d

        by : Contains h.first l ⊎ Contains (k ∷ h.last) l → (l ≡ k) ⊎ Contains after l
        by (inl d) = inr (stays (Contains-append_left h.first (record { owner = k.owner; left = rest } ∷ h.last) l d))
        by (inr d) = ⊎_elim (λ e. inl (sym e))
            (λ g. inr (stays (Contains-append_right h.first (record { owner = k.owner; left = rest } ∷ h.last) l (there (record { owner = k.owner; left = rest }) h.last l g))))
            (in_cons k h.last l d)

    shortened_stands : Contains after (record { owner = k.owner; left = rest })
    shortened_stands = subst (λ (qs : List Queue). Contains qs (record { owner = k.owner; left = rest })) (sym h.new)
        (Contains-append_right h.first (record { owner = k.owner; left = rest } ∷ h.last) (record { owner = k.owner; left = rest }) (here (record { owner = k.owner; left = rest }) h.last))

    apart_after : AreApart after
    apart_after = subst AreApart (sym h.new) (apart_again h.first k (record { owner = k.owner; left = rest }) h.last refl apart_old)

    k_stands : Contains queues k
    k_stands = subst (λ (qs : List Queue). Contains qs k) (sym h.old) (Contains-append_right h.first (k ∷ h.last) k (here k h.last))

    owners_after : AllByRecursion (λ l. Contains view.members l.owner) queues → AllByRecursion (λ l. Contains view.members l.owner) after
    owners_after owned = each_from (λ l. Contains view.members l.owner) after (λ l c. ⊎_elim
        (λ e. subst (λ (o : PubKey). Contains view.members o) (sym (ap (λ (y : Queue). y.owner) e)) (each (λ m. Contains view.members m.owner) queues k owned k_stands))
        (λ g. each (λ m. Contains view.members m.owner) queues l owned g.0) (from_after l c))

  -- ---- the least record is taken

  module _ (known out : List Record) (queues after : List Queue) (k : Queue) (r : Record) (rest : List Record)
      (p : IsTaken view front Available known out queues) (f : IsLeast queues k r rest) (h : IsShortened queues after k rest) where
    apart : AreApart queues
    apart = p.passed.apart

    good_owner : r.owner ≡ k.owner
    good_owner = (r_good view front known queues p.passed k r rest f).owned

    -- the logs after it
    other_log : (owner : PubKey) → (owner ≡ k.owner → ⊥) → log_of owner (known ++ r ∷ []) ≡ log_of owner known
    other_log owner other = by (eq_by_cmp owner_cmp owner r.owner) refl
      where
        by : (b : Bool) → eq_by_cmp owner_cmp owner r.owner ≡ b → log_of owner (known ++ r ∷ []) ≡ log_of owner known
        by true e = absurd (other (sym (same_owner owner r.owner e) ∙ good_owner))
        by false e = log_push owner known r false e ∙ append-nil (log_of owner known)

    own_log : log_of k.owner (known ++ r ∷ []) ≡ log_of k.owner known ++ r ∷ []
    own_log = log_push k.owner known r true (is_mine k.owner r good_owner)

    logs_after : (owner : PubKey) → IsChainOver view front owner (log_of owner (known ++ r ∷ []))
    logs_after owner = by (eq_by_cmp owner_cmp owner r.owner) refl
      where
        own : chain_of view front k.owner (log_of k.owner known ++ r ∷ [])
        own = front_over view k.owner (start view front k.owner) (log_of k.owner known ++ r ∷ []) rest
            (subst (λ (l : List Record). chain_of view front k.owner l) (sym (append_assoc (log_of k.owner known) (r ∷ []) rest)) (going view front known queues p.passed k r rest f))

        by : (b : Bool) → eq_by_cmp owner_cmp owner r.owner ≡ b → IsChainOver view front owner (log_of owner (known ++ r ∷ []))
        by true e = subst (λ (o : PubKey). IsChainOver view front o (log_of o (known ++ r ∷ []))) (sym good_owner ∙ same_owner owner r.owner e)
            (subst (λ (l : List Record). chain_of view front k.owner l) (sym own_log) own)
        by false e = subst (λ (l : List Record). chain_of view front owner l) (sym (log_push owner known r false e ∙ append-nil (log_of owner known))) (p.passed.logs owner)

    going_after : (l : Queue) → Contains after l → IsChainOver view front l.owner (log_of l.owner (known ++ r ∷ []) ++ l.left)
    going_after l c = ⊎_elim
        (λ e. subst (λ (m : Queue). chain_of view front m.owner (log_of m.owner (known ++ r ∷ []) ++ m.left)) (sym e)
        (subst (λ (xs : List Record). chain_of view front k.owner (xs ++ rest)) (sym own_log)
        (subst (λ (xs : List Record). chain_of view front k.owner xs) (sym (append_assoc (log_of k.owner known) (r ∷ []) rest)) (going view front known queues p.passed k r rest f))))
        (λ g. subst (λ (xs : List Record). chain_of view front l.owner (xs ++ l.left)) (sym (other_log l.owner g.1)) (p.passed.going l g.0))
        (from_after queues after k rest apart h l c)

    -- what was seen is still seen
    keeps : (q : Record) → Contains known q ⊎ IsLeft queues q → Contains (known ++ r ∷ []) q ⊎ IsLeft after q
    keeps q (inl c) = inl (Contains-append_left known (r ∷ []) q c)
    keeps q (inr l) = ⊎_elim
        (λ e. ⊎_elim (λ is_q. inl (subst (λ (x : Record). Contains (known ++ r ∷ []) x) is_q (Contains-push known r)))
        (λ c. inr (record { queue = record { owner = k.owner; left = rest }; stands = shortened_stands queues after k rest apart h; left = c }))
        (in_cons r rest q (subst (λ (xs : List Record). Contains xs q) f.first (subst (λ (m : Queue). Contains m.left q) e l.left))))
        (λ c. inr (record { queue = l.queue; stands = c; left = l.left }))
        (to_after queues after k rest apart h l.queue l.stands)

    -- what is left was left before, and isn't the one that was taken
    was_left : (q : Record) → IsLeft after q → IsLeft queues q
    was_left q l = ⊎_elim
        (λ e. record { queue = k; stands = f.stands; left = subst (λ (xs : List Record). Contains xs q) (sym f.first) (there r rest q (subst (λ (m : Queue). Contains m.left q) e l.left)) })
        (λ g. record { queue = l.queue; stands = g.0; left = l.left })
        (from_after queues after k rest apart h l.queue l.stands)

    -- r is before all that is left after it
    below_left : (q : Record) → IsLeft after q → IsBefore r q
    below_left q l = ⊎_elim
        (λ e. each (IsBefore r) rest q (ascends_after) (subst (λ (m : Queue). Contains m.left q) e l.left))
        (λ g. ⊎_elim (λ is_q. absurd (g.1 (sym (left_owned view front known queues p.passed l.queue g.0 q l.left).owned ∙ sym (ap (λ (x : Record). x.owner) is_q) ∙ good_owner))) (λ b. b)
        (f.least q (record { queue = l.queue; stands = g.0; left = l.left })))
        (from_after queues after k rest apart h l.queue l.stands)
      where
        ascends_after : AllByRecursion (IsBefore r) rest
        ascends_after = (ascends_right (log_of k.owner known) (r ∷ rest) (ascends_over view k.owner (start view front k.owner) (log_of k.owner known ++ r ∷ rest) (going view front known queues p.passed k r rest f))).0

    pub taken : HasCauses view front known r → IsTaken view front Available (known ++ r ∷ []) (out ++ r ∷ []) after
    taken causes = record {
      passed = record {
        logs = logs_after;
        going = going_after;
        apart = apart_after queues after k rest apart h;
        owners = owners_after queues after k rest apart h p.passed.owners;
        members = each_append (λ q. Contains view.members q.owner) known (r ∷ []) p.passed.members (subst (λ (o : PubKey). Contains view.members o) (sym good_owner) (each (λ l. Contains view.members l.owner) queues k p.passed.owners f.stands), tt);
        causes = each_append (HasCauses view front (known ++ r ∷ [])) known (r ∷ [])
            (each_from (HasCauses view front (known ++ r ∷ [])) known (λ q c. causes_weaken view front known (known ++ r ∷ []) q (λ x d. Contains-append_left known (r ∷ []) x d) (each (HasCauses view front known) known q p.passed.causes c)))
            (causes_weaken view front known (known ++ r ∷ []) r (λ x d. Contains-append_left known (r ∷ []) x d) causes, tt);
      };
      hand = λ q c. ⊎_elim (λ d. p.hand q d) (λ e. subst Available e (p.left_hand r (record { queue = k; stands = f.stands; left = subst (λ (xs : List Record). Contains xs r) (sym f.first) (here r rest) }))) (Contains-push_cases known r q c);
      left_hand = λ q l. p.left_hand q (was_left q l);
      seen = λ t closed within q c. keeps q (p.seen t closed within q c);
      ascending = ascends_push out r p.ascending (λ q c. p.below q r c (record { queue = k; stands = f.stands; left = subst (λ (xs : List Record). Contains xs r) (sym f.first) (here r rest) }));
      below = λ q x c l. ⊎_elim (λ d. p.below q x d (was_left x l)) (λ e. subst (λ (y : Record). IsBefore y x) e (below_left x l)) (Contains-push_cases out r q c);
    }

  -- ---- the least record is left out, with its log

  module _ (known out : List Record) (queues after : List Queue) (k : Queue) (r : Record) (rest : List Record)
      (p : IsTaken view front Available known out queues) (f : IsLeast queues k r rest) (h : IsShortened queues after k []) where
    fewer_left : (q : Record) → IsLeft after q → IsLeft queues q
    fewer_left q l = ⊎_elim
        (λ e. absurd (in_nothing q (subst (λ (m : Queue). Contains m.left q) e l.left)))
        (λ g. record { queue = l.queue; stands = g.0; left = l.left })
        (from_after queues after k [] p.passed.apart h l.queue l.stands)

    still_going : (l : Queue) → Contains after l → IsChainOver view front l.owner (log_of l.owner known ++ l.left)
    still_going l c = ⊎_elim
        (λ e. subst (λ (m : Queue). chain_of view front m.owner (log_of m.owner known ++ m.left)) (sym e)
        (subst (λ (xs : List Record). chain_of view front k.owner xs) (sym (append-nil (log_of k.owner known))) (p.passed.logs k.owner)))
        (λ g. p.passed.going l g.0)
        (from_after queues after k [] p.passed.apart h l c)

    still_seen : (HasCauses view front known r → ⊥) → (t : List Record) → IsClosed view front t → ((q : Record) → Contains t q → Available q) → IsSeen known after t
    still_seen missing t closed within q c = by (p.seen t closed within q c)
      where
        never : Contains t r → ⊥
        never d = missing (member_has_causes view front known queues p.passed k r rest f t closed (p.seen t closed within) d)

        by : Contains known q ⊎ IsLeft queues q → Contains known q ⊎ IsLeft after q
        by (inl d) = inl d
        by (inr l) = ⊎_elim
            (λ e. ⊎_elim (λ is_q. absurd (never (subst (λ (x : Record). Contains t x) (sym is_q) c)))
            (λ in_rest. absurd (never (first_in view front known queues p.passed k r rest f t closed (p.seen t closed within) q c in_rest)))
            (in_cons r rest q (subst (λ (xs : List Record). Contains xs q) f.first (subst (λ (m : Queue). Contains m.left q) e l.left))))
            (λ d. inr (record { queue = l.queue; stands = d; left = l.left }))
            (to_after queues after k [] p.passed.apart h l.queue l.stands)

    pub left_out : (HasCauses view front known r → ⊥) → IsTaken view front Available known out after
    left_out missing = record {
      passed = record {
        logs = p.passed.logs;
        going = still_going;
        apart = apart_after queues after k [] p.passed.apart h;
        owners = owners_after queues after k [] p.passed.apart h p.passed.owners;
        members = p.passed.members;
        causes = p.passed.causes;
      };
      hand = p.hand;
      left_hand = λ q l. p.left_hand q (fewer_left q l);
      seen = still_seen missing;
      ascending = p.ascending;
      below = λ q x c l. p.below q x c (fewer_left x l);
    }
