-- Ways down a log, record by record.
use Rattle.std.proofs.Common.{◌≡◌, ℕ, zero, suc, ◌+◌, ◌-◌, ◌≤◌, ◌<◌, List, [], ◌∷◌, Option, Some, None, option_map, inl, inr, refl, sym, ap, ◌∙◌, subst, arith}
use Rattle.std.specs.Prelude.{MatchOption, Result, Ok, Err, IfOk}
use Rattle.std.proofs.lemmas.Bool.{cases_eq}
use Rattle.ivy_base.specs.declared.key.Key.{Key}
use Rattle.ivy_base.specs.declared.key.PubKey.{PubKey}
use Rattle.log_model.specs.Record.{Record}
use Rattle.log_records.specs.Records.{IsRead}
use Rattle.fork_model.specs.Before.{Before, TellsRecords, IsNumbered}
use Rattle.fork_model.specs.Finding.{Tip, Way, ◌>>=◌, block_named, step_down, goes_on, way_down}
use Rattle.fork_proof.proofs.Walks.{one_read}

pub read_of : {owner : PubKey} {seq : ℕ} {block : List ℕ} {r : Record} → IsNumbered owner seq block r → IsRead owner block r
read_of f = record { spelled = f.spelled; number = f.made }

-- what was read of a block is what such a function tells
pub told : (before : Before) → TellsRecords before → (owner : PubKey) (seq : ℕ) (block : List ℕ) (found : Option Key)
    → MatchOption found ((r : Record) → IsRead owner block r → r.seq ≡ seq → ⊥) (λ prev. (r : Record) × IsRead owner block r × (r.seq ≡ seq) × (prev ≡ r.prev)) → found ≡ before owner seq block
told before tells owner seq block found h = by found (before owner seq block) h (tells owner seq block)
  where
    by : (o p : Option Key) → MatchOption o ((r : Record) → IsRead owner block r → r.seq ≡ seq → ⊥) (λ prev. (r : Record) × IsRead owner block r × (r.seq ≡ seq) × (prev ≡ r.prev))
        → MatchOption p ((r : Record) → IsNumbered owner seq block r → ⊥) (λ prev. (r : Record) × IsNumbered owner seq block r × (prev ≡ r.prev)) → o ≡ p
    by None None f g = refl
    by None (Some q) f g = absurd (f g.0 (read_of g.1) g.1.number)
    by (Some q) None f g = absurd (g f.0 (record { spelled = f.1.spelled; made = f.1.number; number = f.2 }))
    by (Some q) (Some p) f g = ap Some (f.3 ∙ ap (λ (r : Record). r.prev) (one_read owner block f.0 g.0 f.1 (read_of g.1)) ∙ sym g.2)

-- what is told of all that a call may give
pub ok_more : {A E : Type 0} {P Q : A → Type 0} → ((x : A) → P x → Q x) → (r : Result A E) → IfOk r P → IfOk r Q
ok_more more (Ok x) h = more x h
ok_more more (Err e) h = tt

pub step_found : (before : Before) (blocks : List (List ℕ)) (owner : PubKey) (seq : ℕ) (k : Key) (block : List ℕ) → Some block ≡ block_named blocks k
    → option_map (λ prev. (block, prev)) (before owner seq block) ≡ step_down before blocks owner seq k
step_found before blocks owner seq k block e = ap (λ (o : Option (List ℕ)). o >>= (λ b. option_map (λ (prev : Key). (b, prev)) (before owner seq b))) e

module _ (before : Before) (blocks : List (List ℕ)) (tip : Tip) where
  -- one record more
  pub way_on : (n seq : ℕ) (w : Way) (o : Option (List ℕ × Key)) → seq ≡ tip.newest.seq - n → Some w ≡ way_down before blocks tip n → o ≡ step_down before blocks tip.owner seq w.last
      → option_map (goes_on w) o ≡ way_down before blocks tip (n + 1)
  way_on n seq w o number leads e =
      let one : suc n ≡ n + 1 = omega arith in
      ap (option_map (goes_on w)) e ∙ ap (λ (m : ℕ). option_map (goes_on w) (step_down before blocks tip.owner m w.last)) number
      ∙ ap (λ (p : Option Way). p >>= (λ v. option_map (goes_on v) (step_down before blocks tip.owner (tip.newest.seq - n) v.last))) leads
      ∙ ap (λ (m : ℕ). way_down before blocks tip m) one

  -- one name more
  pub name_on : (n seq : ℕ) (k : Key) (o : Option (List ℕ × Key)) → seq ≡ tip.newest.seq - n → Some k ≡ option_map (λ (w : Way). w.last) (way_down before blocks tip n) → o ≡ step_down before blocks tip.owner seq k
      → option_map (λ s. s.1) o ≡ option_map (λ (w : Way). w.last) (way_down before blocks tip (n + 1))
  name_on n seq k o number leads e = by (way_down before blocks tip n) refl leads
    where
      last_of : (w : Way) (p : Option (List ℕ × Key)) → option_map (λ s. s.1) p ≡ option_map (λ (v : Way). v.last) (option_map (goes_on w) p)
      last_of w None = refl
      last_of w (Some s) = refl

      by : (p : Option Way) → way_down before blocks tip n ≡ p → Some k ≡ option_map (λ (w : Way). w.last) p → option_map (λ s. s.1) o ≡ option_map (λ (w : Way). w.last) (way_down before blocks tip (n + 1))
      by None is named = absurd (cc named)
      by (Some w) is named =
          let same : k ≡ w.last = cc in
          let here : o ≡ step_down before blocks tip.owner seq w.last = e ∙ ap (step_down before blocks tip.owner seq) same in
          last_of w o ∙ ap (option_map (λ (v : Way). v.last)) (way_on n seq w o number (sym is) here)

  -- by the name before it
  pub name_next : (n : ℕ) → option_map (λ (w : Way). w.last) (way_down before blocks tip (suc n))
      ≡ (option_map (λ (w : Way). w.last) (way_down before blocks tip n) >>= (λ k. option_map (λ s. s.1) (step_down before blocks tip.owner (tip.newest.seq - n) k)))
  name_next n = by (way_down before blocks tip n)
    where
      last_of : (w : Way) (p : Option (List ℕ × Key)) → option_map (λ (v : Way). v.last) (option_map (goes_on w) p) ≡ option_map (λ s. s.1) p
      last_of w None = refl
      last_of w (Some s) = refl

      by : (p : Option Way) → option_map (λ (w : Way). w.last) (p >>= (λ v. option_map (goes_on v) (step_down before blocks tip.owner (tip.newest.seq - n) v.last)))
          ≡ (option_map (λ (w : Way). w.last) p >>= (λ k. option_map (λ s. s.1) (step_down before blocks tip.owner (tip.newest.seq - n) k)))
      by None = refl
      by (Some w) = last_of w (step_down before blocks tip.owner (tip.newest.seq - n) w.last)

  -- where it ends, it goes no further
  pub way_ends : (k n : ℕ) → n ≤ k → None ≡ way_down before blocks tip n → None ≡ way_down before blocks tip k
  way_ends zero n h e = let same : n ≡ zero = omega (arith, h) in subst (λ (m : ℕ). None ≡ way_down before blocks tip m) same e
  way_ends (suc k) n h e = elim (cases_eq n (suc k)) [
    | inl same ↦ subst (λ (m : ℕ). None ≡ way_down before blocks tip m) same e
    | inr other ↦ ap (λ (p : Option Way). p >>= (λ v. option_map (goes_on v) (step_down before blocks tip.owner (tip.newest.seq - k) v.last))) (way_ends k n (omega (arith, h, other)) e)
  ]

  pub names_end : (k n : ℕ) → n ≤ k → None ≡ option_map (λ (w : Way). w.last) (way_down before blocks tip n) → None ≡ option_map (λ (w : Way). w.last) (way_down before blocks tip k)
  names_end k n h e = ap (option_map (λ (w : Way). w.last)) (way_ends k n h (by (way_down before blocks tip n) e))
    where
      by : (p : Option Way) → None ≡ option_map (λ (w : Way). w.last) p → None ≡ p
      by None f = refl
      by (Some w) f = absurd (cc f)

-- ---- from a record on at which another head stands

module _ (before : Before) (blocks : List (List ℕ)) (tip other : Tip) (above : ℕ) (owner : other.owner ≡ tip.owner) (seq : other.newest.seq ≡ tip.newest.seq - above)
    (name : Some other.newest.name ≡ option_map (λ (w : Way). w.last) (way_down before blocks tip above)) where
  pub same_names : (m n : ℕ) → n ≡ above + m → option_map (λ (w : Way). w.last) (way_down before blocks tip n) ≡ option_map (λ (w : Way). w.last) (way_down before blocks other m)
  same_names zero n e = let same : n ≡ above = omega (arith, e) in ap (λ (k : ℕ). option_map (λ (w : Way). w.last) (way_down before blocks tip k)) same ∙ sym name
  same_names (suc m) zero e = absurd (omega (arith, e))
  same_names (suc m) (suc n) e =
      let number : tip.newest.seq - n ≡ other.newest.seq - m = omega (arith, e, seq) in
      name_next before blocks tip n
      ∙ ap (λ (p : Option Key). p >>= (λ k. option_map (λ s. s.1) (step_down before blocks tip.owner (tip.newest.seq - n) k))) (same_names m n (omega (arith, e)))
      ∙ ap (λ (s : ℕ). option_map (λ (w : Way). w.last) (way_down before blocks other m) >>= (λ k. option_map (λ s. s.1) (step_down before blocks tip.owner s k))) number
      ∙ ap (λ (o : PubKey). option_map (λ (w : Way). w.last) (way_down before blocks other m) >>= (λ k. option_map (λ s. s.1) (step_down before blocks o (other.newest.seq - m) k))) (sym owner)
      ∙ sym (name_next before blocks other m)
