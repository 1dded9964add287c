-- What a call leaves of an engine's state is sound.
use Rattle.std.proofs.Common.{◌≡◌, ℕ, zero, suc, ◌+◌, ◌*◌, ◌/◌, ◌≤◌, List, [], ◌∷◌, ◌++◌, length, get_or, take, drop, map, refl, sym, ap, ◌∙◌, subst, arith}
use Rattle.std.proofs.lemmas.List.{take-append-drop, map-append, length-map}
use Rattle.std.proofs.Math.Seq.{take-append_seam}
use Rattle.ivy_base.specs.declared.operation.Moment.{Moment}
use Rattle.ivy_base.specs.declared.operation.Op.{Op}
use Rattle.tree_model.specs.Tree.{Tree}
use Rattle.tree_model.specs.Apply.{apply_all}
use Rattle.log_model.specs.Record.{Record}
use Rattle.log_model.specs.Replay.{effect}
use Rattle.log_model.proofs.Later.{apply_more}
use Rattle.replay_engine.specs.Rows.{IsRow}
use Rattle.replay_engine.specs.Replays.{passed}
use Rattle.replay_engine.specs.States.{State, IsSound}
use Rattle.replay_engine.proofs.Passes.{passed_then, count_passed, checkpoint_at}

module _ {X : Type 0} where
  pub length_take : (n : ℕ) (xs : List X) → n ≤ length xs → length (take n xs) ≡ n
  length_take zero xs h = refl
  length_take (suc n) [] h = absurd (omega arith)
  length_take (suc n) (x ∷ xs) h = ap suc (length_take n xs (omega arith))

  pub take_seam : (n : ℕ) (xs ys : List X) → length xs ≡ n → take n (xs ++ ys) ≡ xs
  take_seam n xs ys e = ap (λ k. take k (xs ++ ys)) (sym e) ∙ take-append_seam xs ys

-- the checkpoints up to a place are those of the records before it
pub checkpoints_before : (base : Tree) (os : List (Moment × Op)) (p : ℕ) → p ≤ length os → take (p / 64 + 1) (base ∷ passed 0 base os) ≡ base ∷ passed 0 base (take p os)
checkpoints_before base os p within =
    let all : passed 0 base os ≡ passed 0 base (take p os) ++ passed (length (take p os)) (apply_all base (take p os)) (drop p os)
    = ap (λ l. passed 0 base l) (sym (take-append-drop p os)) ∙ passed_then base (take p os) (drop p os) in
    ap (λ k. take k (base ∷ passed 0 base os)) (plus_one (p / 64))
    ∙ ap (λ l. base ∷ take (p / 64) l) all
    ∙ ap (λ l. base ∷ l) (take_seam (p / 64) (passed 0 base (take p os)) (passed (length (take p os)) (apply_all base (take p os)) (drop p os)) (count_passed base (take p os) p (length_take p os within)))
  where
    plus_one : (k : ℕ) → k + 1 ≡ suc k
    plus_one k = omega arith

effects_take : (n : ℕ) (rs : List Record) → take n (map effect rs) ≡ map effect (take n rs)
effects_take zero rs = refl
effects_take (suc n) [] = refl
effects_take (suc n) (r ∷ rs) = ap (λ l. effect r ∷ l) (effects_take n rs)

-- going on from a place
pub on_from : (base : Tree) (held : List Record) (k p : ℕ) → k ≤ p → apply_all (apply_all base (map effect (take k held))) (map effect (drop k (take p held))) ≡ apply_all base (map effect (take p held))
on_from base held k p le =
    sym (apply_more base (map effect (take k held)) (map effect (drop k (take p held))))
    ∙ ap (λ l. apply_all base l) (sym (map-append effect (take k held) (drop k (take p held))))
    ∙ ap (λ l. apply_all base (map effect l)) (ap (λ l. l ++ drop k (take p held)) (sym (take_take k p held le)) ∙ take-append-drop k (take p held))
  where
    take_take : (k p : ℕ) (rs : List Record) → k ≤ p → take k (take p rs) ≡ take k rs
    take_take zero p rs le = refl
    take_take (suc k) zero rs le = absurd (omega arith)
    take_take (suc k) (suc p) [] le = refl
    take_take (suc k) (suc p) (r ∷ rs) le = ap (λ l. r ∷ l) (take_take k p rs (omega arith))

module _ (base : Tree) (s : State) (sound : IsSound base s) where
  -- the tree at a place
  abbrev pub tree_after : ℕ → Tree
  tree_after p = apply_all base (map effect (take p s.held))

  pub checkpoint_is : (q : ℕ) (d : Tree) → 64 * q ≤ length s.held → get_or s.checkpoints q d ≡ tree_after (64 * q)
  checkpoint_is q d within =
      ap (λ l. get_or l q d) sound.checkpoints ∙ checkpoint_at base (map effect s.held) q d (subst (λ k. 64 * q ≤ k) (sym (length-map s.held effect)) within)
      ∙ ap (λ l. apply_all base l) (effects_take (64 * q) s.held)

  pub checkpoints_count : length s.checkpoints ≡ length s.held / 64 + 1
  checkpoints_count =
      let d = count_passed base (map effect s.held) (length s.held) (length-map s.held effect) in
      ap length sound.checkpoints ∙ ap suc d ∙ sym (plus_one (length s.held / 64))
    where
      plus_one : (k : ℕ) → k + 1 ≡ suc k
      plus_one k = omega arith

  pub end_is : s.tree ≡ tree_after (length s.held)
  end_is = sound.tree ∙ ap (λ l. apply_all base (map effect l)) (sym (take_all s.held))
    where
      take_all : (rs : List Record) → take (length rs) rs ≡ rs
      take_all [] = refl
      take_all (r ∷ rs) = ap (λ l. r ∷ l) (take_all rs)

  pub sound_with : (p : ℕ) (tail : List Record) (new : State) → p ≤ length s.held → IsRow (take p s.held ++ tail) → new.held ≡ take p s.held ++ tail
      → new.tree ≡ apply_all (tree_after p) (map effect tail) → new.checkpoints ≡ take (p / 64 + 1) s.checkpoints ++ passed p (tree_after p) (map effect tail) → IsSound base new
  sound_with p tail new within row held tree checkpoints = record {
    row = subst IsRow (sym held) row;
    tree = tree ∙ sym (apply_more base (map effect (take p s.held)) (map effect tail)) ∙ ap (λ l. apply_all base l) effects;
    checkpoints =
        checkpoints
        ∙ ap (λ l. take (p / 64 + 1) l ++ passed p (tree_after p) (map effect tail)) sound.checkpoints
        ∙ ap (λ l. l ++ passed p (tree_after p) (map effect tail)) (checkpoints_before base (map effect s.held) p (subst (λ k. p ≤ k) (sym (length-map s.held effect)) within))
        ∙ ap (λ l. base ∷ passed 0 base l ++ passed p (tree_after p) (map effect tail)) (effects_take p s.held)
        ∙ ap (λ k. base ∷ passed 0 base (map effect (take p s.held)) ++ passed k (tree_after p) (map effect tail)) (sym (length-map (take p s.held) effect ∙ length_take p s.held within))
        ∙ ap (λ l. base ∷ l) (sym (passed_then base (map effect (take p s.held)) (map effect tail)))
        ∙ ap (λ l. base ∷ passed 0 base l) effects;
  }
    where
      effects : map effect (take p s.held) ++ map effect tail ≡ map effect new.held
      effects = sym (map-append effect (take p s.held) tail) ∙ ap (λ l. map effect l) (sym held)
