-- All passes are joined to the first, and the gate ends.
use Rattle.std.proofs.Common.{◌≡◌, ℕ, zero, suc, ◌+◌, ◌*◌, ◌/◌, ◌<◌, false, List, [], ◌∷◌, ◌++◌, length, take, get_or, sum_by, Option, Some, IsSome, All, refl, sym, ap, ◌∙◌, subst, arith, append_assoc}
use Rattle.std.proofs.lemmas.List.{append-nil}
use Rattle.std.proofs.lemmas.List.Elements.{All-nil, All-cons, All-append, All-weaker}
use Rattle.std.proofs.lemmas.List.Sums.{sum_by-append}
use mathlib.Core.List.{IsPrefix}
use mathlib.Core.Option.{some, some-injective}
use lib.ListN.{get_elem?}
use Rattle.atomic_table.specs.Seated.{TableId}
use Rattle.atomic_table.specs.Table.{Final, Seen}
use Rattle.value_gate.specs.declared.history.Entry.{Entry}
use Rattle.value_gate.specs.declared.knows.Gone.{Gone}
use Rattle.value_gate.specs.declared.knows.Knows.{Knows}
use Rattle.value_gate.specs.Histories.{calls_by}
use Rattle.value_gate.specs.Rules.{all_parts, calls_of_gone, IsGate}
use Rattle.value_gate.specs.Steps.{Sat, joined, ended}
use Rattle.value_gate.specs.Passes.{PassView, pass_view, parts_of, calls_of, IsAmong, HasGathered, IsWhole}
use Rattle.value_gate.proofs.Beginnings.{prefix_self, prefix_trans}
use Rattle.value_gate.proofs.Views.{joined_calls}
use Rattle.value_gate.proofs.Ends.{IsEnd, closes}

module _ {A T : Type 0} where
  pub parts_take : (ps : List (PassView A T)) (i : ℕ) (d : PassView A T) → i < length ps → parts_of (take (suc i) ps) ≡ parts_of (take i ps) + (get_or ps i d).parts
  parts_take [] i d h = absurd (omega arith)
  parts_take (p ∷ ps) zero d h = omega arith
  parts_take (p ∷ ps) (suc i) d h = omega (arith, parts_take ps i d (omega arith))

  pub gathers_none : (opening : A) (z : TableId) (v : Knows A T) (first : PassView A T) → pass_view z v ≡ first → v.inside ≡ false → first.opening ≡ Some opening → v.gone ≡ [] → HasGathered opening first [] v
  gathers_none opening z v first is out owner none_gone = subst (λ p. HasGathered opening p [] v) is (record {
    outside = out;
    owner = ap (λ (p : PassView A T). p.opening) is ∙ owner;
    itself = (refl, refl, prefix_self v.seen);
    parts = omega arith;
    gone = λ f. ap (λ gs. sum_by f (calls_of_gone gs)) none_gone;
    each = All-nil _;
  })

  pub gathers_on : (opening : A) (first x : PassView A T) (others : List (PassView A T)) (z : TableId) (v w : Knows A T) → HasGathered opening first others v
      → pass_view z w ≡ x → x.opening ≡ Some opening → w.gone ≡ [] → IsPrefix v.seen (joined v w).seen → IsPrefix w.seen (joined v w).seen → HasGathered opening first (x ∷ others) (joined v w)
  gathers_on opening first x others z v w g is owner none_gone old new =
      let P : PassView A T → Type 0 = λ p. IsPrefix p.history v.seen × IsAmong (record { number = p.number; calls = p.calls }) v.gone in
      let Q : PassView A T → Type 0 = λ p. IsPrefix p.history (joined v w).seen × IsAmong (record { number = p.number; calls = p.calls }) (joined v w).gone in
      let w_owner : w.opening ≡ Some opening = ap (λ (p : PassView A T). p.opening) is ∙ owner in
      let last : Gone T = record { number = w.number; calls = w.calls } in
      let ends : ended w.opening w.number w.calls ≡ last ∷ [] = ap (λ (o : Option A). ended o w.number w.calls) w_owner in
      let head : Q (pass_view z w) = (new, (v.gone ++ w.gone, [], ap (λ l. v.gone ++ (w.gone ++ l)) ends ∙ sym (append_assoc v.gone w.gone (last ∷ [])))) in
      let more : (p : PassView A T) → P p → Q p = λ p h. (
        prefix_trans p.history v.seen (joined v w).seen h.0 old,
        (
          h.1.0,
          h.1.1 ++ (w.gone ++ ended w.opening w.number w.calls),
          ap (λ l. l ++ (w.gone ++ ended w.opening w.number w.calls)) h.1.2 ∙ append_assoc h.1.0 (record { number = p.number; calls = p.calls } ∷ h.1.1) (w.gone ++ ended w.opening w.number w.calls),
        ),
      ) in
      record {
        outside = refl;
        owner = g.owner;
        itself = (g.itself.0, g.itself.1, prefix_trans first.history v.seen (joined v w).seen g.itself.2 old);
        parts = omega (arith, g.parts, ap (λ (p : PassView A T). p.parts) is);
        gone = λ f. omega (
          arith,
          ap (λ l. sum_by f l) (joined_calls v w (λ none. absurd (cc (w_owner, none)))),
          sum_by-append f (calls_of_gone v.gone) (calls_of_gone w.gone ++ w.calls),
          sum_by-append f (calls_of_gone w.gone) w.calls,
          ap (λ gs. sum_by f (calls_of_gone gs)) none_gone,
          g.gone f,
          sum_by-append f x.calls (calls_of others),
          ap (λ (p : PassView A T). sum_by f p.calls) is,
        );
        each = All-cons Q x others (subst Q is head) (All-weaker P Q more others g.each);
      }

  -- the same, of a view that is what a join made
  pub gathers : (opening : A) (first x : PassView A T) (others : List (PassView A T)) (z : TableId) (v w : Knows A T) (m : Sat A T) → HasGathered opening first others v
      → pass_view z w ≡ x → x.opening ≡ Some opening → w.gone ≡ [] → m ≡ (joined v w, []) → IsPrefix v.seen m.0.seen × IsPrefix w.seen m.0.seen → HasGathered opening first (x ∷ others) m.0
  gathers opening first x others z v w m g is owner none_gone joined_is begins =
      let here : m.0 ≡ joined v w = ap (λ (n : Sat A T). n.0) joined_is in
      subst (λ (k : Knows A T). HasGathered opening first (x ∷ others) k) (sym here)
      (gathers_on opening first x others z v w g is owner none_gone (subst (λ (k : Knows A T). IsPrefix v.seen k.seen) here begins.0) (subst (λ (k : Knows A T). IsPrefix w.seen k.seen) here begins.1))

  parts_end : (ps : List (PassView A T)) (p : PassView A T) → parts_of (ps ++ p ∷ []) ≡ parts_of ps + p.parts
  parts_end [] p = omega arith
  parts_end (q ∷ ps) p = omega (arith, parts_end ps p)

  calls_end : (f : Entry T → ℕ) (ps : List (PassView A T)) (p : PassView A T) → sum_by f (calls_of (ps ++ p ∷ [])) ≡ sum_by f (calls_of ps) + sum_by f p.calls
  calls_end f [] p = omega (arith, ap (λ l. sum_by f l) (append-nil p.calls))
  calls_end f (q ∷ ps) p = omega (arith, calls_end f ps p, sum_by-append f q.calls (calls_of (ps ++ p ∷ [])), sum_by-append f q.calls (calls_of ps))

  -- the list of those that were taken, when one more is
  pub taken_on : (all old new : List (PassView A T)) (x : PassView A T) (taken : List (PassView A T)) → all ≡ old ++ taken → old ≡ new ++ x ∷ [] → all ≡ new ++ x ∷ taken
  taken_on all old new x taken so_far one = so_far ∙ (ap (λ l. l ++ taken) one ∙ append_assoc new (x ∷ []) taken)

  pub taken_all : (all old taken : List (PassView A T)) → all ≡ old ++ taken → old ≡ [] → all ≡ taken
  taken_all all old taken so_far none_left = so_far ∙ ap (λ l. l ++ taken) none_left

  -- the value in the slot, at the end
  pub is_there : (stands : A → List (Entry T) → A → Type 0) (opening : A) (v : Knows A T) (ws : List ℕ) (xs : List (Option A)) (x : Option A) → IsEnd stands opening v ws xs → get_elem? xs 0 ≡ some x → IsSome x
  is_there stands opening v ws xs x e slot = subst (λ (y : Option A). IsSome y) (some-injective (Some e.value) x (sym e.slot ∙ slot)) refl

  -- the passes of which the last is taken, and the others gathered with it
  module _ (passes others : List (PassView A T)) (first : PassView A T) (all_are : passes ≡ others ++ first ∷ []) where
    all_gathered : (opening : A) (v : Knows A T) → HasGathered opening first others v → v.parts ≡ parts_of passes
    all_gathered opening v g = omega (arith, g.parts, parts_end others first, ap (λ l. parts_of l) all_are)

    pub ends : (stands : A → List (Entry T) → A → Type 0) (opening key : A) (id : ℕ) (v : Knows A T) (ws : List ℕ) (xs : List (Option A)) → HasGathered opening first others v
        → parts_of passes ≡ all_parts → key ≡ opening → Final (Seen (IsGate stands key) id v) ws xs → IsEnd stands opening v ws xs
    ends stands opening key id v ws xs g whole same end =
        closes stands opening ws xs id v g.outside (all_gathered opening v g ∙ whole) (subst (λ (k : A). Final (Seen (IsGate stands k) id v) ws xs) same end)

    pub is_whole : (stands : A → List (Entry T) → A → Type 0) (opening : A) (v : Knows A T) (ws : List ℕ) (xs : List (Option A)) → HasGathered opening first others v
        → (e : IsEnd stands opening v ws xs) → (value : A) (word : ℕ) → get_elem? xs 0 ≡ some (Some value) → get_elem? ws 0 ≡ some word → IsWhole stands opening passes value (word / 2)
    is_whole stands opening v ws xs g e value word slot word_is =
        let P : PassView A T → Type 0 = λ p. IsPrefix p.history e.history × (calls_by p.number e.history ≡ p.calls) in
        let same : e.value ≡ value = cc (some-injective (Some e.value) (Some value) (sym e.slot ∙ slot)) in
        let count : 2 * length e.history ≡ word = some-injective (2 * length e.history) word (sym e.word ∙ word_is) in
        let last : P first = (
          prefix_trans first.history v.seen e.history g.itself.2 e.begins,
          ap (λ (n : ℕ). calls_by n e.history) (sym g.itself.0) ∙ (e.own opening g.owner ∙ g.itself.1),
        ) in
        let each : All P others = All-weaker (λ p. IsPrefix p.history v.seen × IsAmong (record { number = p.number; calls = p.calls }) v.gone) P
        (λ p h. (prefix_trans p.history v.seen e.history h.0 e.begins, e.gone h.1.0 h.1.1 (record { number = p.number; calls = p.calls }) h.1.2)) others g.each in
        record {
          history = e.history;
          value_stands = subst (λ x. stands opening e.history x) same e.value_stands;
          legal = e.legal;
          count = omega (arith, count);
          begins = subst (λ l. All P l) (sym all_are) (All-append P others (first ∷ []) each (All-cons P first [] last (All-nil P)));
          no_others = λ f. omega (arith, e.tells f, g.gone f, ap (λ l. sum_by f l) g.itself.1, calls_end f others first, ap (λ l. sum_by f (calls_of l)) all_are);
        }
