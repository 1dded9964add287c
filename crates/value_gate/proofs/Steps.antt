-- Each step on the word keeps the rule.
use Rattle.std.proofs.Common.{◌≡◌, ◌≢◌, ℕ, ◌+◌, ◌*◌, ◌%◌, ◌<◌, ◌≤◌, eqb, true, false, List, [], ◌∷◌, ◌++◌, length, get_or, set, Option, Some, None, MatchBool, sym, refl, ap, ◌∙◌, subst, inl, inr, ⊎_elim, arith, length-set, length-append, eq-eqb, ne_eqb}
use Rattle.std.proofs.lemmas.List.Sums.{sum_by_push}
use mathlib.Core.List.{IsPrefix}
use mathlib.Core.Logic.{dite}
use mathlib.Core.Option.{some, none}
use native.Mathlib.Decide.{ℕ_discrete}
use lib.ListN.{get_elem?}
use lib.Seq.{set-get_or}
use prog.Atomic.{either}
use Rattle.atomic_table.specs.Table.{State, step, keeps, takes, gives, rest, Allows, stepped}
use Rattle.atomic_table.proofs.Lists.{at_set, set_again}
use Rattle.value_gate.specs.declared.history.Entry.{Entry}
use Rattle.value_gate.specs.declared.knows.Knows.{Knows}
use Rattle.value_gate.specs.Histories.{calls_by, IsLegal}
use Rattle.value_gate.specs.Rules.{most_turns, IsFull, IsEmpty, IsGate}
use Rattle.value_gate.specs.Steps.{Sat, Sees, Looked, IsInside, Entered, Left, Backed, entered, left, backed}
use Rattle.value_gate.proofs.Beginnings.{prefix_self, prefix_trans, prefix_length, calls_mine, legal_on, legal_beginning}
use Rattle.value_gate.proofs.Views.{if_some, not_true, set_at, same_at, below_length, total_set, calls_set, each_set, fits_on, all_gone, gone_on, gone_same}

set_one : (ws : List ℕ) (a b : ℕ) → ws ≡ a ∷ [] → set ws 0 b ≡ b ∷ []
set_one ws a b e = ap (λ w. set w 0 b) e

module _ {A T : Type 0} (stands : A → List (Entry T) → A → Type 0) (key : A) where
  -- the view of the pass that is inside, and what is known while it is
  abbrev Inside : State (Option A) (Knows A T) → List (Entry T) → ℕ → Knows A T → Type 0
  Inside s h id v = (v.seen ≡ h) × (s.homes ≡ none ∷ []) × (s.words ≡ (2 * length h + 1) ∷ []) × (length h < most_turns)
      × ((j : ℕ) (u : Knows A T) → get_elem? s.views j ≡ some u → u.inside ≡ true → j ≡ id) × (0 < v.parts)

  pub inside_is : (s : State (Option A) (Knows A T)) (r : IsGate stands key s) (id : ℕ) (v : Knows A T) → get_elem? s.views id ≡ some v → v.inside ≡ true → Inside s r.history id v
  inside_is s r id v at inside = ⊎_elim
      (λ (f : IsFull stands key s r.history). absurd (cc (f.nobody id v at, inside)))
      (λ (e : IsEmpty stands key s r.history).
      let here : id ≡ e.place = e.alone id v at inside in
      let same : v ≡ e.view = same_at s.views id v e.view at (subst (λ (k : ℕ). get_elem? s.views k ≡ some e.view) (sym here) e.there) in
      (ap (λ (k : Knows A T). k.seen) same ∙ e.has_seen, e.slot, e.word, e.room, (λ j u there is. e.alone j u there is ∙ sym here), omega (arith, e.has_part, ap (λ (k : Knows A T). k.parts) same)))
      r.slot

  -- the pass that was inside is outside, and nobody else is inside
  nobody : (s : State (Option A) (Knows A T)) (h : List (Entry T)) (id : ℕ) (v w : Knows A T) → Inside s h id v → w.inside ≡ false
      → (j : ℕ) (u : Knows A T) → get_elem? (set s.views id w) j ≡ some u → u.inside ≡ false
  nobody s h id v w i out j u there = ⊎_elim
      (λ (t : (j ≡ id) × (w ≡ u)). ap (λ (k : Knows A T). k.inside) (sym t.1) ∙ out)
      (λ (t : (j ≢ id) × (get_elem? s.views j ≡ some u)). not_true u.inside (λ is. absurd (t.0 (i.4 j u t.1 is))))
      (at_set s.views id j w u there)

  -- the slot is full again once the value is back
  full_again : (s : State (Option A) (Knows A T)) (h h' : List (Entry T)) (id : ℕ) (v w : Knows A T) (value : A) (n : ℕ) → Inside s h id v → w.inside ≡ false
      → n ≡ 2 * length h' → stands key h' value → IsFull stands key (stepped s 0 n id ((0, Some value) ∷ []) w gives) h'
  full_again s h h' id v w value n i out count now = record {
    value = value;
    slot = ap (λ l. set l 0 (some (Some value))) i.1;
    word = set_one s.words _ n i.2 ∙ ap (λ k. k ∷ []) count;
    nobody = nobody s h id v w i out;
    value_stands = now;
  }

  leaves_at : (k id : ℕ) (v : Knows A T) (e : Entry T) (value : A) (n : ℕ) → v.inside ≡ true → v.opening ≡ Some key → n ≡ 2 * length v.seen
      → e.pass ≡ v.number → e.call ≡ length v.calls + 1 → stands key (v.seen ++ e ∷ []) value
      → Allows (IsGate stands key) k id (v, (0, Some value) ∷ []) 0 (λ _. n + 2) (λ _ (m : Sat A T). Left stands (e ∷ []) (step k 0 (n + 2) 0 none) (v, (0, Some value) ∷ []) (n + 2) m)
  leaves_at k id v e value n inside owner count pass call now s r wide at small =
      let i = inside_is s r id v at inside in
      let w : Knows A T = left v (e ∷ []) in
      let whole : v.seen ≡ r.history = i.0 in
      let fit = r.each id v at in
      let mine : e.pass ≡ id = pass ∙ (fit.owner key owner).1 in
      let all : calls_by id r.history ≡ v.calls = (fit.calls key owner).1 in
      let grown : v.seen ++ e ∷ [] ≡ r.history ++ e ∷ [] = ap (λ l. l ++ e ∷ []) whole in
      let calls' : calls_by id (r.history ++ e ∷ []) ≡ v.calls ++ e ∷ [] = calls_mine id r.history e mine ∙ ap (λ l. l ++ e ∷ []) all in
      let now' : stands key (r.history ++ e ∷ []) value = subst (λ l. stands key l value) grown now in
      let legal' : IsLegal stands key (r.history ++ e ∷ []) = legal_on stands key r.history e value r.legal
      (omega (arith, call, ap length all, ap (λ (k : ℕ). length (calls_by k r.history)) mine)) now' in
      let begins : IsPrefix v.seen (v.seen ++ e ∷ []) = (e ∷ [], refl) in (
        w,
        gives,
        tt,
        record {
          history = r.history ++ e ∷ [];
          slot = inl (full_again s r.history (r.history ++ e ∷ []) id v w value (n + 2) i refl (omega (arith, count, ap length whole, length-append r.history (e ∷ []))) now');
          legal = legal';
          each = each_set key s.views id w r.history (r.history ++ e ∷ []) r.each (λ j u other f. fits_on key r.history e j u (λ same. other (same ∙ mine)) f) (record {
            seen = subst (λ l. IsPrefix (v.seen ++ e ∷ []) l) grown (prefix_self (v.seen ++ e ∷ []));
            own = prefix_trans v.own v.seen (v.seen ++ e ∷ []) fit.own begins;
            met = prefix_trans v.met v.seen (v.seen ++ e ∷ []) fit.met begins;
            owner = fit.owner;
            calls = λ o is. (subst (λ l. calls_by id l ≡ v.calls ++ e ∷ []) (sym grown) calls', calls');
            note = λ is. absurd (cc (owner, is));
            idle = λ none. absurd (omega (arith, none, i.5));
          });
          gone = λ place u there. all_gone (set s.views id w) (set s.views id w) r.history (r.history ++ e ∷ [])
              (gone_on (set s.views id w) r.history e w key (subst (λ (k : ℕ). get_elem? (set s.views id w) k ≡ some w) (sym mine) (set_at s.views id v w at)) owner) u.gone
              (gone_same s.views r.history id v w at refl refl r.gone place u there);
          longest = (id, w, set_at s.views id v w at, grown);
          no_others = λ f. omega (arith, r.no_others f, calls_set f s.views id v w at, sum_by_push f r.history e, sum_by_push f v.calls e);
          unmade = λ place far.
              let past : length s.views ≤ place = omega (arith, far, length-set s.views id w) in
              let here = below_length s.views id v at in
              Rattle.value_gate.proofs.Beginnings.calls_others place r.history e (λ same. absurd (omega (arith, past, here, same ∙ mine))) ∙ r.unmade place past;
          whole = omega (arith, total_set s.views id v w at, r.whole);
        },
        (
          refl,
          if_some (λ o. IsLegal stands o (v.seen ++ e ∷ []) × (calls_by v.number (v.seen ++ e ∷ []) ≡ v.calls ++ e ∷ [])) v.opening (λ o is.
              let o_is : o ≡ key = (fit.owner o is).0 in
              let number : v.number ≡ id = (fit.owner o is).1 in (
                subst (λ (x : A). IsLegal stands x (v.seen ++ e ∷ [])) (sym o_is) (subst (IsLegal stands key) (sym grown) legal'),
                subst (λ (k : ℕ). calls_by k (v.seen ++ e ∷ []) ≡ v.calls ++ e ∷ []) (sym number) (subst (λ l. calls_by id l ≡ v.calls ++ e ∷ []) (sym grown) calls'),
              )),
        ),
      )

  backs_at : (k id : ℕ) (v : Knows A T) (value : A) (n : ℕ) → v.inside ≡ true → n ≡ 2 * length v.seen → stands key v.seen value
      → Allows (IsGate stands key) k id (v, (0, Some value) ∷ []) 0 (λ _. n) (λ _ (m : Sat A T). m ≡ (backed v, []))
  backs_at k id v value n inside count now s r wide at small =
      let i = inside_is s r id v at inside in
      let w : Knows A T = backed v in
      let whole : v.seen ≡ r.history = i.0 in
      let fit = r.each id v at in (
        w,
        gives,
        tt,
        record {
          history = r.history;
          slot = inl (full_again s r.history r.history id v w value n i refl (omega (arith, count, ap length whole)) (subst (λ l. stands key l value) whole now));
          legal = r.legal;
          each = each_set key s.views id w r.history r.history r.each (λ j u other f. f) (record { seen = fit.seen; own = fit.own; met = fit.met; owner = fit.owner; calls = fit.calls; note = fit.note; idle = fit.idle });
          gone = gone_same s.views r.history id v w at refl refl r.gone;
          longest = (id, w, set_at s.views id v w at, whole);
          no_others = λ f. omega (arith, r.no_others f, calls_set f s.views id v w at);
          unmade = λ place far. r.unmade place (omega (arith, far, length-set s.views id w));
          whole = omega (arith, total_set s.views id v w at, r.whole);
        },
        refl,
      )

  -- what a look tells
  looks : (s : State (Option A) (Knows A T)) (r : IsGate stands key s) (id : ℕ) (v : Knows A T) → get_elem? s.views id ≡ some v
      → (2 * length v.seen ≤ get_or s.words 0 0) × IsPrefix v.own v.seen × IsPrefix v.met v.seen × Sees stands v
  looks s r id v at =
      let fit = r.each id v at in
      let short : length v.seen ≤ length r.history = prefix_length v.seen r.history fit.seen in (
        ⊎_elim
            (λ (f : IsFull stands key s r.history). omega (arith, short, ap (λ w. get_or w 0 0) f.word))
            (λ (e : IsEmpty stands key s r.history). omega (arith, short, ap (λ w. get_or w 0 0) e.word))
            r.slot,
        fit.own,
        fit.met,
        if_some (λ o. IsLegal stands o v.seen × (calls_by v.number v.seen ≡ v.calls)) v.opening (λ o is. (
          subst (λ (x : A). IsLegal stands x v.seen) (sym (fit.owner o is).0) (legal_beginning stands key v.seen r.history fit.seen r.legal),
          subst (λ (k : ℕ). calls_by k v.seen ≡ v.calls) (sym (fit.owner o is).1) (fit.calls o is).0,
        )),
      )

  same_state : (s : State (Option A) (Knows A T)) (ws : List ℕ) (vs : List (Knows A T)) → IsGate stands key s → s.words ≡ ws → s.views ≡ vs → IsGate stands key (record { words = ws; homes = s.homes; views = vs })
  same_state s ws vs r same same' = subst (λ ws. IsGate stands key (record { words = ws; homes = s.homes; views = vs })) same
      (subst (λ vs. IsGate stands key (record { words = s.words; homes = s.homes; views = vs })) same' r)

  pub looks_at : (k id : ℕ) (m : Sat A T) → Allows (IsGate stands key) k id m 0 (λ n. n) (λ n w. Looked stands (step k 0 0 0 none) m n w)
  looks_at k id m s r wide at small = (
    m.0,
    keeps,
    tt,
    same_state s (set s.words 0 (get_or s.words 0 0)) (set s.views id m.0) r (sym (set-get_or s.words 0 0)) (sym (set_again s.views id m.0 at)),
    (let l = looks s r id m.0 at in (refl, l.0, l.1, l.2, l.3)),
  )

  enters_full : (id : ℕ) (v : Knows A T) (n : ℕ) (s : State (Option A) (Knows A T)) (r : IsGate stands key s) (f : IsFull stands key s r.history)
      → get_elem? s.views id ≡ some v → n < 18446744073709551614 → 0 < v.parts → n ≡ 2 * length r.history
      → IsGate stands key (stepped s 0 (n + 1) id [] (entered v r.history) (takes 0 (Some f.value)))
  enters_full id v n s r f at room part count =
      let w : Knows A T = entered v r.history in
      let fit = r.each id v at in record {
        history = r.history;
        slot = inr (record {
          slot = ap (λ l. set l 0 none) f.slot;
          word = set_one s.words _ (n + 1) f.word ∙ ap (λ k. (k + 1) ∷ []) count;
          room = omega (arith, room, count);
          place = id;
          view = w;
          there = set_at s.views id v w at;
          is_inside = refl;
          has_seen = refl;
          has_part = part;
          alone = λ j u there is. ⊎_elim
              (λ (t : (j ≡ id) × (w ≡ u)). t.0)
              (λ (t : (j ≢ id) × (get_elem? s.views j ≡ some u)). absurd (cc (f.nobody j u t.1, is)))
              (at_set s.views id j w u there);
        });
        legal = r.legal;
        each = each_set key s.views id w r.history r.history r.each (λ j u other g. g) (record {
          seen = prefix_self r.history;
          own = prefix_trans v.own v.seen r.history fit.own fit.seen;
          met = prefix_trans v.met v.seen r.history fit.met fit.seen;
          owner = fit.owner;
          calls = λ o is. ((fit.calls o is).1, (fit.calls o is).1);
          note = fit.note;
          idle = fit.idle;
        });
        gone = gone_same s.views r.history id v w at refl refl r.gone;
        longest = (id, w, set_at s.views id v w at, refl);
        no_others = λ f. omega (arith, r.no_others f, calls_set f s.views id v w at);
        unmade = λ place far. r.unmade place (omega (arith, far, length-set s.views id w));
        whole = omega (arith, total_set s.views id v w at, r.whole);
      }

  enters_at : (k id : ℕ) (v : Knows A T) (n : ℕ) → n % 2 ≡ 0 → n < 18446744073709551614 → 0 < v.parts
      → Allows (IsGate stands key) k id (v, []) 0 (λ x. either (eqb x n) (n + 1) x) (λ x w. Entered stands (step k 0 n (n + 1) none) (v, []) x w)
  enters_at k id v n even room part s r wide at small =
      let x : ℕ = get_or s.words 0 0 in
      dite (ℕ_discrete x n)
      (λ hit. ⊎_elim
      (λ (f : IsFull stands key s r.history).
      let fit = r.each id v at in
      let w : Knows A T = entered v r.history in
      let count : n ≡ 2 * length r.history = omega (arith, hit, ap (λ l. get_or l 0 0) f.word) in
      let up : either (eqb x n) (n + 1) x ≡ n + 1 = ap (λ b. either b (n + 1) x) (eq-eqb x n hit) in
      let found : IsInside stands (v, []) (w, (0, Some f.value) ∷ []) x = record {
        value = f.value;
        me = refl;
        older = fit.seen;
        count = hit ∙ count;
        sees = if_some (λ o. IsLegal stands o r.history × (calls_by v.number r.history ≡ v.calls)) v.opening (λ o is. (
          subst (λ (y : A). IsLegal stands y r.history) (sym (fit.owner o is).0) r.legal,
          subst (λ (k : ℕ). calls_by k r.history ≡ v.calls) (sym (fit.owner o is).1) (fit.calls o is).1,
        ));
        value_stands = if_some (λ o. stands o r.history f.value) v.opening (λ o is. subst (λ (y : A). stands y r.history f.value) (sym (fit.owner o is).0) f.value_stands);
      } in (
        w,
        takes 0 (Some f.value),
        ap (λ l. get_elem? l 0) f.slot,
        subst (λ k. IsGate stands key (stepped s 0 k id [] w (takes 0 (Some f.value)))) (sym up) (enters_full id v n s r f at room part count),
        subst (λ b. MatchBool b (IsInside stands (v, []) (w, (0, Some f.value) ∷ []) x) (Looked stands (step k 0 n (n + 1) none) (v, []) x (w, (0, Some f.value) ∷ []))) (sym (eq-eqb x n hit)) found,
      ))
      (λ (e : IsEmpty stands key s r.history). absurd (omega (arith, hit, even, ap (λ l. get_or l 0 0) e.word)))
      r.slot)
      (λ miss.
      let same : set s.words 0 (either (eqb x n) (n + 1) x) ≡ s.words = ap (λ b. set s.words 0 (either b (n + 1) x)) (ne_eqb x n miss) ∙ set-get_or s.words 0 0 in (
        v,
        keeps,
        tt,
        same_state s (set s.words 0 (either (eqb x n) (n + 1) x)) (set s.views id v) r (sym same) (sym (set_again s.views id v at)),
        subst (λ b. MatchBool b (IsInside stands (v, []) (v, []) x) (Looked stands (step k 0 n (n + 1) none) (v, []) x (v, []))) (sym (ne_eqb x n miss)) (let l = looks s r id v at in (refl, l.0, l.1, l.2, l.3)),
      ))

  -- what the seat holds once a value was put into the slot that it has
  put_in : (m old : Sat A T) (value : A) → m ≡ (old.0, (0, Some value) ∷ rest old.1) → old.1 ≡ (0, None) ∷ [] → m ≡ (old.0, (0, Some value) ∷ [])
  put_in m old value is held = is ∙ ap (λ (l : List (ℕ × Option A)). (old.0, (0, Some value) ∷ rest l)) held

  pub leaves : (k id : ℕ) (m old : Sat A T) (e : Entry T) (new : List (Entry T)) (value : A) (n : ℕ) → m ≡ (old.0, (0, Some value) ∷ rest old.1) → old.1 ≡ (0, None) ∷ []
      → old.0.inside ≡ true → old.0.opening ≡ Some key → n ≡ 2 * length old.0.seen → new ≡ e ∷ [] → e.pass ≡ old.0.number → e.call ≡ length old.0.calls + 1 → stands key (old.0.seen ++ new) value
      → Allows (IsGate stands key) k id m 0 (λ _. n + 2) (λ _ w. Left stands new (step k 0 (n + 2) 0 none) m (n + 2) w)
  leaves k id m old e new value n is held inside owner count one pass call now =
      subst (λ (x : Sat A T). Allows (IsGate stands key) k id x 0 (λ _. n + 2) (λ _ w. Left stands new (step k 0 (n + 2) 0 none) x (n + 2) w)) (sym (put_in m old value is held))
      (subst (λ (es : List (Entry T)). Allows (IsGate stands key) k id (old.0, (0, Some value) ∷ []) 0 (λ _. n + 2) (λ _ w. Left stands es (step k 0 (n + 2) 0 none) (old.0, (0, Some value) ∷ []) (n + 2) w)) (sym one)
      (leaves_at k id old.0 e value n inside owner count pass call (subst (λ (es : List (Entry T)). stands key (old.0.seen ++ es) value) one now)))

  pub backs : (k id : ℕ) (m old : Sat A T) (value : A) (n : ℕ) → m ≡ (old.0, (0, Some value) ∷ rest old.1) → old.1 ≡ (0, None) ∷ []
      → old.0.inside ≡ true → n ≡ 2 * length old.0.seen → stands key old.0.seen value
      → Allows (IsGate stands key) k id m 0 (λ _. n) (λ _ w. Backed stands (step k 0 n 0 none) m n w)
  backs k id m old value n is held inside count now =
      subst (λ (x : Sat A T). Allows (IsGate stands key) k id x 0 (λ _. n) (λ _ w. Backed stands (step k 0 n 0 none) x n w)) (sym (put_in m old value is held))
      (backs_at k id old.0 value n inside count now)

  pub enters : (k id : ℕ) (m : Sat A T) (n : ℕ) → m.1 ≡ [] → n % 2 ≡ 0 → n < 18446744073709551614 → 0 < m.0.parts
      → Allows (IsGate stands key) k id m 0 (λ x. either (eqb x n) (n + 1) x) (λ x w. Entered stands (step k 0 n (n + 1) none) m x w)
  enters k id m n empty even room part =
      subst (λ (l : List (ℕ × Option A)). Allows (IsGate stands key) k id (m.0, l) 0 (λ x. either (eqb x n) (n + 1) x) (λ x w. Entered stands (step k 0 n (n + 1) none) (m.0, l) x w)) (sym empty)
      (enters_at k id m.0 n even room part)

  -- an exchange that found what it expected has taken the value out
  pub won : (k n found : ℕ) (m w : Sat A T) → Entered stands (step k 0 n (n + 1) none) m found w → found ≡ n → IsInside stands m w found
  won k n found m w h e = subst (λ b. MatchBool b (IsInside stands m w found) (Looked stands (step k 0 n (n + 1) none) m found w)) (eq-eqb found n e) h

  -- an exchange that found something else has changed nothing
  pub lost : (k n found : ℕ) (m w : Sat A T) → Entered stands (step k 0 n (n + 1) none) m found w → found ≢ n → w ≡ m
  lost k n found m w h e = (subst (λ b. MatchBool b (IsInside stands m w found) (Looked stands (step k 0 n (n + 1) none) m found w)) (ne_eqb found n e) h).0

  pub holds_slot : (m w : Sat A T) (n : ℕ) → (i : IsInside stands m w n) → (x : Option A) × (w.1 ≡ (0, x) ∷ rest w.1)
  holds_slot m w n i = (Some i.value, ap (λ (x : Sat A T). x.1) i.me ∙ ap (λ (x : Sat A T). (0, Some i.value) ∷ rest x.1) (sym i.me))
