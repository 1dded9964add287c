-- What passes are after a turn, and after a meeting.
use Rattle.std.proofs.Common.{◌≡◌, ◌⊎◌, ℕ, ◌+◌, ◌-◌, List, [], ◌∷◌, length, Option, sym, ap, ◌∙◌, subst, ⊎_elim, arith}
use mathlib.Core.List.{IsPrefix}
use Rattle.atomic_table.specs.Seated.{TableId}
use Rattle.value_gate.specs.declared.history.Entry.{Entry}
use Rattle.value_gate.specs.declared.knows.Knows.{Knows}
use Rattle.value_gate.specs.Histories.{entry, longer}
use Rattle.value_gate.specs.Steps.{Sat, less, note, joined, entered, left, backed}
use Rattle.value_gate.specs.Passes.{PassView, pass_view, with_history, Met, TookTurn, SawOn}
use Rattle.value_gate.proofs.Beginnings.{prefix_whole, prefix_length, longer_one}

one_begins : {T : Type 0} (a b xs ys : List (Entry T)) → IsPrefix xs b → IsPrefix ys b → (a ≡ xs) ⊎ (a ≡ ys) → IsPrefix a b
one_begins a b xs ys p q one = ⊎_elim (λ (e : a ≡ xs). subst (λ l. IsPrefix l b) (sym e) p) (λ (e : a ≡ ys). subst (λ l. IsPrefix l b) (sym e) q) one

module _ {A T : Type 0} where
  -- a pass that heard a note of no part
  heard_view : (z z' : TableId) (v : Knows A T) (seen : List (Entry T)) → z' ≡ z
      → pass_view z' (joined (less 0 v) (note 0 seen)) ≡ with_history (pass_view z v) (longer v.seen seen) v.calls
  heard_view z z' v seen same =
      let parts : (v.parts - 0) + 0 ≡ v.parts = omega arith in
      λ i. record { gate = same i; opening = v.opening; number = v.number; parts = parts i; history = longer v.seen seen; calls = v.calls }

  met_views : (z w z' w' : TableId) (v u v' u' : Knows A T) → z' ≡ z → w' ≡ w
      → v' ≡ joined (less 0 v) (note 0 u.seen) → u' ≡ joined (less 0 u) (note 0 v.seen)
      → IsPrefix v.seen v'.seen → IsPrefix u.seen v'.seen → IsPrefix u.seen u'.seen → IsPrefix v.seen u'.seen
      → Met (pass_view z v) (pass_view w u) (pass_view z' v') (pass_view w' u')
  met_views z w z' w' v u v' u' same same' v'_is u'_is vv uv uu vu =
      let a : List (Entry T) = v'.seen in
      let b : List (Entry T) = u'.seen in
      let a_is : a ≡ longer v.seen u.seen = ap (λ (k : Knows A T). k.seen) v'_is in
      let b_is : b ≡ longer u.seen v.seen = ap (λ (k : Knows A T). k.seen) u'_is in
      let one : (a ≡ v.seen) ⊎ (a ≡ u.seen) = subst (λ l. (l ≡ v.seen) ⊎ (l ≡ u.seen)) (sym a_is) (longer_one v.seen u.seen) in
      let other : (b ≡ u.seen) ⊎ (b ≡ v.seen) = subst (λ l. (l ≡ u.seen) ⊎ (l ≡ v.seen)) (sym b_is) (longer_one u.seen v.seen) in
      let ab = one_begins a b v.seen u.seen vu uu one in
      let ba = one_begins b a u.seen v.seen uv vv other in record {
        longer_one = one;
        same = prefix_whole b a ba (prefix_length a b ab);
        begins = (vv, uv);
        first = ap (λ (k : Knows A T). pass_view z' k) v'_is ∙ (heard_view z z' v u.seen same ∙ ap (λ l. with_history (pass_view z v) l v.calls) (sym a_is));
        second = ap (λ (k : Knows A T). pass_view w' k) u'_is ∙ (heard_view w w' u v.seen same' ∙ ap (λ l. with_history (pass_view w u) l u.calls) (sym b_is));
      }

  heard_is : (m ours theirs : Sat A T) (v : Knows A T) (seen : List (Entry T)) (c : List (ℕ × Option A)) → m ≡ (joined ours.0 theirs.0, []) → ours ≡ (less 0 v, c) → theirs ≡ (note 0 seen, [])
      → m.0 ≡ joined (less 0 v) (note 0 seen)
  heard_is m ours theirs v seen c is ours_is theirs_is = ap (λ (x : Sat A T). x.0) is
      ∙ (ap (λ (x : Sat A T). joined x.0 theirs.0) ours_is ∙ ap (λ (x : Sat A T). joined (less 0 v) x.0) theirs_is)

  -- two passes, the same after the notes were split from them, the notes, and the passes after they heard them
  pub met : (z w z' w' : TableId) (mine their mine' their' note_of_mine note_of_their me you : Sat A T) (p q : PassView A T)
      → pass_view z mine.0 ≡ p → pass_view w their.0 ≡ q → z' ≡ z → w' ≡ w
      → mine' ≡ (less 0 mine.0, mine.1) → note_of_mine ≡ (note 0 mine.0.seen, []) → their' ≡ (less 0 their.0, their.1) → note_of_their ≡ (note 0 their.0.seen, [])
      → me ≡ (joined mine'.0 note_of_their.0, []) → you ≡ (joined their'.0 note_of_mine.0, [])
      → IsPrefix mine'.0.seen me.0.seen × IsPrefix note_of_their.0.seen me.0.seen → IsPrefix their'.0.seen you.0.seen × IsPrefix note_of_mine.0.seen you.0.seen
      → Met p q (pass_view z' me.0) (pass_view w' you.0)
  met z w z' w' mine their mine' their' note_of_mine note_of_their me you p q p_is q_is same same' mine'_is note_is their'_is their_note_is me_is you_is mb yb =
      subst (λ x. Met x q (pass_view z' me.0) (pass_view w' you.0)) p_is (subst (λ x. Met (pass_view z mine.0) x (pass_view z' me.0) (pass_view w' you.0)) q_is
      (met_views z w z' w' mine.0 their.0 me.0 you.0 same same'
      (heard_is me mine' note_of_their mine.0 their.0.seen mine.1 me_is mine'_is their_note_is)
      (heard_is you their' note_of_mine their.0 mine.0.seen their.1 you_is their'_is note_is)
      (subst (λ (x : Sat A T). IsPrefix x.0.seen me.0.seen) mine'_is mb.0)
      (subst (λ (x : Sat A T). IsPrefix x.0.seen me.0.seen) their_note_is mb.1)
      (subst (λ (x : Sat A T). IsPrefix x.0.seen you.0.seen) their'_is yb.0)
      (subst (λ (x : Sat A T). IsPrefix x.0.seen you.0.seen) note_is yb.1)))

  -- a pass, the same inside, and after it left with an entry
  pub took : (z z' : TableId) (old inside after : Sat A T) (c : List (ℕ × Option A)) (p : PassView A T) (turn : T) → pass_view z old.0 ≡ p → z' ≡ z
      → inside ≡ (entered old.0 inside.0.seen, c) → IsPrefix old.0.seen inside.0.seen
      → after ≡ (left inside.0 (entry inside.0.number (length inside.0.calls + 1) turn ∷ []), [])
      → TookTurn p turn (pass_view z' after.0)
  took z z' old inside after c p turn p_is same inside_is begins after_is =
      let h : List (Entry T) = inside.0.seen in
      let leave : Knows A T → Knows A T = λ (k : Knows A T). left k (entry k.number (length k.calls + 1) turn ∷ []) in
      let after' : after.0 ≡ leave (entered old.0 h) = ap (λ (x : Sat A T). x.0) after_is ∙ ap (λ (x : Sat A T). leave x.0) inside_is in
      subst (λ x. TookTurn x turn (pass_view z' after.0)) p_is
      (h, begins, ap (λ (k : Knows A T). pass_view z' k) after' ∙ ap (λ (y : TableId). pass_view y (leave (entered old.0 h))) same)

  -- a pass, the same inside, and after it went back
  pub saw_on : (z z' : TableId) (old inside after : Sat A T) (c : List (ℕ × Option A)) (p : PassView A T) → pass_view z old.0 ≡ p → z' ≡ z
      → inside ≡ (entered old.0 inside.0.seen, c) → IsPrefix old.0.seen inside.0.seen → after ≡ (backed inside.0, []) → SawOn p (pass_view z' after.0)
  saw_on z z' old inside after c p p_is same inside_is begins after_is =
      let h : List (Entry T) = inside.0.seen in
      let after' : after.0 ≡ backed (entered old.0 h) = ap (λ (x : Sat A T). x.0) after_is ∙ ap (λ (x : Sat A T). backed x.0) inside_is in
      let seen : after.0.seen ≡ h = ap (λ (k : Knows A T). k.seen) after' in
      subst (λ x. SawOn x (pass_view z' after.0)) p_is (
        subst (λ l. IsPrefix old.0.seen l) (sym seen) begins,
        ap (λ (k : Knows A T). pass_view z' k) after' ∙ (ap (λ (y : TableId). pass_view y (backed (entered old.0 h))) same
            ∙ ap (λ l. with_history (pass_view z old.0) l old.0.calls) (sym seen)),
      )
