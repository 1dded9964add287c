-- A new gate, a new pass, splitting, joining, and the end.
use Rattle.std.proofs.Common.{◌≡◌, ◌≢◌, ◌⊎◌, ℕ, zero, suc, ◌-◌, ◌*◌, ◌≤◌, true, false, List, [], ◌∷◌, ◌++◌, length, set, sum_by, Option, Some, None, sym, refl, ap, ◌∙◌, subst, inl, inr, ⊎_elim, arith, length-set, length-append}
use mathlib.Core.List.{IsPrefix}
use mathlib.Core.Logic.{dite}
use mathlib.Core.Option.{some, none, some-injective, some-ne-none}
use native.Mathlib.Decide.{ℕ_discrete}
use lib.ListN.{get_elem?}
use Rattle.atomic_table.specs.Table.{State, Enters, Splits, Joins, Final, Seen, opening, step}
use Rattle.atomic_table.proofs.Lists.{at_set, at_longer, set_else}
use Rattle.value_gate.specs.declared.history.Entry.{Entry}
use Rattle.value_gate.specs.declared.knows.Gone.{Gone}
use Rattle.value_gate.specs.declared.knows.Knows.{Knows}
use Rattle.value_gate.specs.Histories.{calls_by, longer, IsLegal}
use Rattle.value_gate.specs.Rules.{all_parts, Fits, IsFull, IsEmpty, IsGate, IsGone, AreGone}
use Rattle.value_gate.specs.Passes.{IsPass}
use Rattle.value_gate.specs.Steps.{Sat, Made, ended, first_pass, newcomer, note, less, joined}
use Rattle.value_gate.proofs.Beginnings.{prefix_shorter, prefix_whole, calls_between, longer_length, longer_begins}
use Rattle.value_gate.proofs.Views.{set_at, same_at, at_end, below_length, total_set, total_end, two_of_total, calls_set, calls_end, calls_of_all, told, joined_tells, joined_idle, each_set, all_gone, gone_append, gone_set, gone_each, gone_same, gone_end}

module _ {A T : Type 0} (stands : A → List (Entry T) → A → Type 0) (key : A) where
  -- the slot with other views, where whoever is inside was inside before and still is
  same_slot : (s : State (Option A) (Knows A T)) (h : List (Entry T)) (vs : List (Knows A T))
      → ((j : ℕ) (u : Knows A T) → get_elem? vs j ≡ some u → u.inside ≡ true → get_elem? s.views j ≡ some u)
      → ((j : ℕ) (u : Knows A T) → get_elem? s.views j ≡ some u → u.inside ≡ true → get_elem? vs j ≡ some u)
      → IsFull stands key s h ⊎ IsEmpty stands key s h
      → IsFull stands key (record { words = s.words; homes = s.homes; views = vs }) h ⊎ IsEmpty stands key (record { words = s.words; homes = s.homes; views = vs }) h
  same_slot s h vs before still slot = ⊎_elim
      (λ (f : IsFull stands key s h). inl (record {
        value = f.value;
        slot = f.slot;
        word = f.word;
        nobody = λ j u there. Rattle.value_gate.proofs.Views.not_true u.inside (λ is. absurd (cc (f.nobody j u (before j u there is), is)));
        value_stands = f.value_stands;
      }))
      (λ (e : IsEmpty stands key s h). inr (record {
        slot = e.slot;
        word = e.word;
        room = e.room;
        place = e.place;
        view = e.view;
        there = still e.place e.view e.there e.is_inside;
        is_inside = e.is_inside;
        has_seen = e.has_seen;
        has_part = e.has_part;
        alone = λ j u there is. e.alone j u (before j u there is) is;
      }))
      slot

  -- a view that was set outside is not inside
  set_inside : (l : List (Knows A T)) (id : ℕ) (w : Knows A T) → w.inside ≡ false
      → (j : ℕ) (u : Knows A T) → get_elem? (set l id w) j ≡ some u → u.inside ≡ true → get_elem? l j ≡ some u
  set_inside l id w out j u there is = ⊎_elim
      (λ (t : (j ≡ id) × (w ≡ u)). absurd (cc (out, is, ap (λ (x : Knows A T). x.inside) t.1)))
      (λ (t : (j ≢ id) × (get_elem? l j ≡ some u)). t.1)
      (at_set l id j w u there)

  -- whoever is inside stays where another view is set
  inside_still : (l : List (Knows A T)) (id : ℕ) (v w : Knows A T) → get_elem? l id ≡ some v → v.inside ≡ false
      → (j : ℕ) (u : Knows A T) → get_elem? l j ≡ some u → u.inside ≡ true → get_elem? (set l id w) j ≡ some u
  inside_still l id v w at out j u there is =
      set_else l id j w (λ same. absurd (cc (out, is, ap (λ (x : Knows A T). x.inside) (same_at l id v u at (subst (λ (k : ℕ). get_elem? l k ≡ some u) same there))))) ∙ there

  fits_note : (h : List (Entry T)) (place parts : ℕ) (seen : List (Entry T)) → IsPrefix seen h → Fits key h place (note parts seen)
  fits_note h place parts seen p = record {
    seen = p;
    own = (seen, refl);
    met = (seen, refl);
    owner = λ o is. absurd (cc is);
    calls = λ o is. absurd (cc is);
    note = λ is. refl;
    idle = λ none. (refl, refl);
  }

  -- a pass that has a part keeps one
  pub splits : (id : ℕ) (v : Knows A T) (parts : ℕ) → v.inside ≡ false → parts ≤ v.parts → (v.parts - parts ≡ 0 → v.parts ≡ 0) → Splits (IsGate stands key) id v (less parts v) (note parts v.seen)
  splits id v parts out enough keeps_one s r at =
      let w : Knows A T = less parts v in
      let n : Knows A T = note parts v.seen in
      let vs : List (Knows A T) = set s.views id w in
      let fit = r.each id v at in record {
        history = r.history;
        slot = same_slot s r.history (vs ++ n ∷ [])
            (λ j u there is. ⊎_elim
            (λ (t : get_elem? vs j ≡ some u). set_inside s.views id w out j u t is)
            (λ (t : (j ≡ length vs) × (n ≡ u)). absurd (cc (is, ap (λ (x : Knows A T). x.inside) t.1)))
            (at_end vs n u j there))
            (λ j u there is. at_longer vs (n ∷ []) j u (inside_still s.views id v w at out j u there is))
            r.slot;
        legal = r.legal;
        each = λ j u there. ⊎_elim
            (λ (t : get_elem? vs j ≡ some u). each_set key s.views id w r.history r.history r.each (λ k y other f. f)
            (record { seen = fit.seen; own = fit.own; met = fit.met; owner = fit.owner; calls = fit.calls; note = fit.note; idle = λ none. fit.idle (keeps_one none) }) j u t)
            (λ (t : (j ≡ length vs) × (n ≡ u)). subst (λ (y : Knows A T). Fits key r.history j y) t.1 (fits_note r.history j parts v.seen fit.seen))
            (at_end vs n u j there);
        gone = gone_end vs r.history n refl (gone_same s.views r.history id v w at refl refl r.gone);
        longest = let l = r.longest in dite (ℕ_discrete l.0 id)
            (λ here. (
              id,
              w,
              at_longer vs (n ∷ []) id w (set_at s.views id v w at),
              ap (λ (y : Knows A T). y.seen) (same_at s.views id v l.1 at (subst (λ (k : ℕ). get_elem? s.views k ≡ some l.1) here l.2)) ∙ l.3,
            ))
            (λ away. (l.0, l.1, at_longer vs (n ∷ []) l.0 l.1 (set_else s.views id l.0 w away ∙ l.2), l.3));
        no_others = λ f. omega (arith, r.no_others f, calls_end f vs n, calls_set f s.views id v w at);
        unmade = λ place far. r.unmade place (omega (arith, far, length-append vs (n ∷ []), length-set s.views id w));
        whole = omega (arith, total_end vs n, total_set s.views id v w at, r.whole, enough);
      }

  joined_fits : (h : List (Entry T)) (id other : ℕ) (v w : Knows A T) → Fits key h id v → Fits key h other w → Fits key h id (joined v w)
  joined_fits h id other v w f g =
      let both : List (Entry T) = longer v.seen w.seen in
      let len = longer_length v.seen w.seen in
      let begins : IsPrefix both h = longer_begins v.seen w.seen h f.seen g.seen in
      let own : IsPrefix v.seen both = prefix_shorter v.seen both h f.seen begins len.0 in record {
        seen = begins;
        own = own;
        met = prefix_shorter w.seen both h g.seen begins len.1;
        owner = f.owner;
        calls = λ o is. let c = f.calls o is in (calls_between id v.seen both h own begins (c.0 ∙ sym c.1) ∙ c.1, c.1);
        note = f.note;
        idle = joined_idle v w g.note f.idle g.idle;
      }

  -- what ends is gone
  ends_gone : (l : List (Knows A T)) (h : List (Entry T)) (other : ℕ) (spent : Knows A T) → get_elem? l other ≡ some spent → spent.opening ≡ None
      → (x : Option A) (number : ℕ) (calls : List (Entry T)) → ((o : A) → x ≡ Some o → number ≡ other) → ((o : A) → x ≡ Some o → calls_by other h ≡ calls) → AreGone l h (ended x number calls)
  ends_gone l h other spent at none_there (Some o) number calls place all =
      ((ap (λ (k : ℕ). calls_by k h) (place o refl) ∙ all o refl, spent, subst (λ (k : ℕ). get_elem? l k ≡ some spent) (sym (place o refl)) at, none_there), tt)
  ends_gone l h other spent at none_there None number calls place all = tt

  joined_gone : (l : List (Knows A T)) (h : List (Entry T)) (id other : ℕ) (v w : Knows A T) → get_elem? l id ≡ some v → other ≢ id → get_elem? l other ≡ some w
      → ((o : A) → w.opening ≡ Some o → w.number ≡ other) → ((o : A) → w.opening ≡ Some o → calls_by other h ≡ w.calls)
      → ((place : ℕ) (u : Knows A T) → get_elem? l place ≡ some u → AreGone l h u.gone)
      → (place : ℕ) (u : Knows A T) → get_elem? (set (set l id (joined v w)) other (note 0 [])) place ≡ some u → AreGone (set (set l id (joined v w)) other (note 0 [])) h u.gone
  joined_gone l h id other v w at apart there number calls all j u here =
      let both : Knows A T = joined v w in
      let spent : Knows A T = note 0 [] in
      let vs : List (Knows A T) = set l id both in
      let us : List (Knows A T) = set vs other spent in
      let there' : get_elem? vs other ≡ some w = set_else l id other both apart ∙ there in
      let still : (g : Gone T) → IsGone l h g → IsGone us h g = λ g is. gone_set vs h other w spent there' (λ _. refl) g (gone_set l h id v both at (λ is. is) g is) in
      let kept : (gs : List (Gone T)) → AreGone l h gs → AreGone us h gs = λ gs. all_gone l us h h still gs in
      ⊎_elim
      (λ (t : (j ≡ other) × (spent ≡ u)). subst (λ gs. AreGone us h gs) (ap (λ (y : Knows A T). y.gone) t.1) tt)
      (λ (t : (j ≢ other) × (get_elem? vs j ≡ some u)). ⊎_elim
      (λ (q : (j ≡ id) × (both ≡ u)). subst (λ gs. AreGone us h gs) (ap (λ (y : Knows A T). y.gone) q.1)
      (gone_append us h v.gone (w.gone ++ ended w.opening w.number w.calls) (kept v.gone (all id v at))
      (gone_append us h w.gone (ended w.opening w.number w.calls) (kept w.gone (all other w there))
      (ends_gone us h other spent (set_at vs other w spent there') refl w.opening w.number w.calls number calls))))
      (λ (q : (j ≢ id) × (get_elem? l j ≡ some u)). kept u.gone (all j u q.1))
      (at_set l id j both u t.1))
      (at_set vs other j spent u here)

  -- of two beginnings one of which is all, the longer is all
  longer_all : (xs ys h : List (Entry T)) → IsPrefix xs h → IsPrefix ys h → (xs ≡ h) ⊎ (ys ≡ h) → longer xs ys ≡ h
  longer_all xs ys h p q one =
      let len = longer_length xs ys in
      prefix_whole (longer xs ys) h (longer_begins xs ys h p q)
      (⊎_elim (λ (e : xs ≡ h). omega (arith, len.0, ap length e)) (λ (e : ys ≡ h). omega (arith, len.1, ap length e)) one)

  pub joins : (id : ℕ) (v : Knows A T) (other : ℕ) (w : Knows A T) → v.inside ≡ false → w.inside ≡ false
      → Joins (IsGate stands key) id v other w (joined v w) (note 0 [])
  joins id v other w out out' s r at apart there' =
      let both : Knows A T = joined v w in
      let spent : Knows A T = note 0 [] in
      let vs : List (Knows A T) = set s.views id both in
      let there : get_elem? s.views other ≡ some w = sym (set_else s.views id other both apart) ∙ there' in
      let fit = r.each id v at in
      let fit' = r.each other w there in record {
        history = r.history;
        slot = same_slot s r.history (set vs other spent)
            (λ j u here is. set_inside s.views id both refl j u (set_inside vs other spent refl j u here is) is)
            (λ j u here is. inside_still vs other w spent there' out' j u (inside_still s.views id v both at out j u here is) is)
            r.slot;
        legal = r.legal;
        each = each_set key vs other spent r.history r.history
            (each_set key s.views id both r.history r.history r.each (λ k y else_where f. f) (joined_fits r.history id other v w fit fit'))
            (λ k y else_where f. f)
            (fits_note r.history other 0 [] (r.history, refl));
        gone = joined_gone s.views r.history id other v w at apart there (λ o is. (fit'.owner o is).1) (λ o is. (fit'.calls o is).1) r.gone;
        longest = let l = r.longest in
            let all : (v.seen ≡ r.history) ⊎ (w.seen ≡ r.history) → (place : ℕ) × (y : Knows A T) × (get_elem? (set vs other spent) place ≡ some y) × (y.seen ≡ r.history) =
            λ one. (id, both, set_else vs other id spent (λ same. apart (sym same)) ∙ set_at s.views id v both at, longer_all v.seen w.seen r.history fit.seen fit'.seen one) in
            dite (ℕ_discrete l.0 id)
            (λ here. all (inl (ap (λ (y : Knows A T). y.seen) (same_at s.views id v l.1 at (subst (λ (k : ℕ). get_elem? s.views k ≡ some l.1) here l.2)) ∙ l.3)))
            (λ away. dite (ℕ_discrete l.0 other)
            (λ here. all (inr (ap (λ (y : Knows A T). y.seen) (same_at s.views other w l.1 there (subst (λ (k : ℕ). get_elem? s.views k ≡ some l.1) here l.2)) ∙ l.3)))
            (λ away'. (l.0, l.1, set_else vs other l.0 spent away' ∙ (set_else s.views id l.0 both away ∙ l.2), l.3)));
        no_others = λ f. omega (arith, r.no_others f, calls_set f vs other w spent there', calls_set f s.views id v both at, joined_tells f v w fit'.note);
        unmade = λ place far. r.unmade place (omega (arith, far, length-set vs other spent, length-set s.views id both));
        whole = omega (arith, total_set vs other w spent there', total_set s.views id v both at, r.whole);
      }

  -- a new pass has the next number
  pub makes : (slots : ℕ) → Enters (IsGate stands key) slots 0 (λ n w. Made stands (step slots 0 0 0 none) (first_pass key, []) n (w, []))
  makes slots s r wide small =
      let k : ℕ = length s.views in
      let n : Knows A T = newcomer (Some key) k in (
        n,
        record {
          history = r.history;
          slot = same_slot s r.history (s.views ++ n ∷ [])
              (λ j u there is. ⊎_elim
              (λ (t : get_elem? s.views j ≡ some u). t)
              (λ (t : (j ≡ k) × (n ≡ u)). absurd (cc (is, ap (λ (x : Knows A T). x.inside) t.1)))
              (at_end s.views n u j there))
              (λ j u there is. at_longer s.views (n ∷ []) j u there)
              r.slot;
          legal = r.legal;
          each = λ j u there. ⊎_elim
              (λ (t : get_elem? s.views j ≡ some u). r.each j u t)
              (λ (t : (j ≡ k) × (n ≡ u)). subst (λ (y : Knows A T). Fits key r.history j y) t.1 (record {
                seen = (r.history, refl);
                own = ([], refl);
                met = ([], refl);
                owner = λ o is. (cc is, sym t.0);
                calls = λ o is. (refl, r.unmade j (omega (arith, t.0)));
                note = λ is. refl;
                idle = λ none. (refl, refl);
              }))
              (at_end s.views n u j there);
          gone = gone_end s.views r.history n refl r.gone;
          longest = let l = r.longest in (l.0, l.1, at_longer s.views (n ∷ []) l.0 l.1 l.2, l.3);
          no_others = λ f. omega (arith, r.no_others f, calls_end f s.views n);
          unmade = λ place far. r.unmade place (omega (arith, far, length-append s.views (n ∷ [])));
          whole = omega (arith, total_end s.views n, r.whole);
        },
        (k, refl),
      )

  -- the history with no entry is legal
  legal_start : stands key [] key → IsLegal stands key []
  legal_start now = record { numbered = λ n. tt; reached = λ before p. (key, subst (λ l. stands key l key) (sym (prefix_whole before [] p (omega arith))) now) }

  pub first_is_pass : (m : Sat A T) → m ≡ (first_pass key, []) → stands key [] key → IsPass stands 0 4294967296 m
  first_is_pass m is now = subst (λ (x : Sat A T). IsPass stands 0 4294967296 x) (sym is)
      (record { outside = refl; empty = refl; turns_are = refl; parts_are = refl; part = omega arith; sees = (legal_start now, refl); none_gone = refl })

  alone_there : (j : ℕ) (v : Knows A T) → get_elem? (first_pass key ∷ []) j ≡ some v → (j ≡ 0) × (first_pass key ≡ v)
  alone_there zero v at = (refl, some-injective (first_pass key) v at)
  alone_there (suc j) v at = absurd (some-ne-none v (sym at))

  -- the gate at the start
  pub opens : (xs : List (Option A)) → xs ≡ Some key ∷ [] → stands key [] key → IsGate stands key (opening (0 ∷ []) xs (first_pass key))
  opens xs is now = subst (λ (l : List (Option A)). IsGate stands key (opening (0 ∷ []) l (first_pass key))) (sym is) (record {
    history = [];
    slot = inl (record {
      value = key;
      slot = refl;
      word = refl;
      nobody = λ j v at. ap (λ (k : Knows A T). k.inside) (sym (alone_there j v at).1);
      value_stands = now;
    });
    legal = legal_start now;
    each = λ j v at. let t = alone_there j v at in subst (λ (y : Knows A T). Fits key [] j y) t.1 (record {
      seen = ([], refl);
      own = ([], refl);
      met = ([], refl);
      owner = λ o some_o. (cc some_o, sym t.0);
      calls = λ o some_o. (refl, refl);
      note = λ is. refl;
      idle = λ none. (refl, refl);
    });
    gone = λ j v at. subst (λ gs. AreGone (first_pass key ∷ []) [] gs) (ap (λ (k : Knows A T). k.gone) (alone_there j v at).1) tt;
    longest = (0, first_pass key, refl, refl);
    no_others = λ f. refl;
    unmade = λ place far. refl;
    whole = omega arith;
  })

  -- whoever has all parts knows that the slot is full
  all_full : (s : State (Option A) (Knows A T)) (r : IsGate stands key s) (id : ℕ) (v : Knows A T) → get_elem? s.views id ≡ some v → v.inside ≡ false → v.parts ≡ all_parts → IsFull stands key s r.history
  all_full s r id v at out all = ⊎_elim
      (λ (f : IsFull stands key s r.history). f)
      (λ (e : IsEmpty stands key s r.history).
      let away : e.place ≢ id = λ same. absurd (cc (out, e.is_inside, ap (λ (x : Knows A T). x.inside) (same_at s.views id v e.view at (subst (λ (k : ℕ). get_elem? s.views k ≡ some e.view) same e.there)))) in
      absurd (omega (arith, two_of_total s.views id e.place v e.view away at e.there, r.whole, all, e.has_part)))
      r.slot

  pub gone_calls : (l : List (Knows A T)) (h : List (Entry T)) (gs before after : List (Gone T)) (g : Gone T) → gs ≡ before ++ g ∷ after → AreGone l h gs → calls_by g.number h ≡ g.calls
  gone_calls l h gs before after g is all = found before (subst (λ (x : List (Gone T)). AreGone l h x) is all) where
    found : (xs : List (Gone T)) → AreGone l h (xs ++ g ∷ after) → calls_by g.number h ≡ g.calls
    found [] all = all.0.0
    found (x ∷ xs) all = found xs all.1

  -- what is known at the end of the last words and values by whoever has all parts
  pub record IsEnd (v : Knows A T) (ws : List ℕ) (xs : List (Option A)) : Type 0 where
    pub history : List (Entry T)
    pub value : A
    pub value_stands : stands key history value
    pub legal : IsLegal stands key history
    pub begins : IsPrefix v.seen history
    pub own : (o : A) → v.opening ≡ Some o → calls_by v.number history ≡ v.calls
    pub gone : (before after : List (Gone T)) (g : Gone T) → v.gone ≡ before ++ g ∷ after → calls_by g.number history ≡ g.calls
    pub tells : (f : Entry T → ℕ) → sum_by f history ≡ told f v
    pub slot : get_elem? xs 0 ≡ some (Some value)
    pub word : get_elem? ws 0 ≡ some (2 * length history)

  pub closes : (ws : List ℕ) (xs : List (Option A)) (id : ℕ) (v : Knows A T) → v.inside ≡ false → v.parts ≡ all_parts → Final (Seen (IsGate stands key) id v) ws xs → IsEnd v ws xs
  closes ws xs id v out all f =
      let s = f.0 in let r = f.1.0 in let at = f.1.1 in
      let full = all_full s r id v at out all in record {
        history = r.history;
        value = full.value;
        value_stands = full.value_stands;
        legal = r.legal;
        begins = (r.each id v at).seen;
        own = λ o is. ap (λ (k : ℕ). calls_by k r.history) ((r.each id v at).owner o is).1 ∙ ((r.each id v at).calls o is).1;
        gone = λ before after g is. gone_calls s.views r.history v.gone before after g is (r.gone id v at);
        tells = λ w. r.no_others w ∙ calls_of_all w s.views id v (λ j u there. (r.each j u there).idle) at (all ∙ sym r.whole);
        slot = f.4 0 (Some full.value) (ap (λ l. get_elem? l 0) full.slot);
        word = ap (λ (l : List ℕ). get_elem? l 0) (sym f.2 ∙ full.word);
      }
