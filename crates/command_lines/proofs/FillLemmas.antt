-- Filling zeros in on the left.
use Rattle.std.proofs.Common.{◌≡◌, ℕ, ◌-◌, ◌≤◌, List, ◌++◌, length, drop, replicate, refl, arith}
use Rattle.std.proofs.lemmas.List.{take-replicate, length-drop, drop_all, append-nil}
use borrow.Rule.Slice.PartMut.{put_mid}

-- so many zeros
abbrev pub zeros : ℕ → List ℕ
zeros count = replicate count 48

-- a word written over the last of so many zeros
pub zeros_before : (count : ℕ) (word written : List ℕ) → length word ≤ count → written ≡ word
    → put_mid (count - length word) (length (zeros count) - (count - length word)) (zeros count) written ≡ zeros (count - length word) ++ word
zeros_before count word written le same =
    let start = count - length word in
    rw (same, take-replicate {X = ℕ} start count 48 (omega arith), drop_all (length (zeros count) - start) (drop start (zeros count)) (omega (arith, length-drop start (zeros count))), append-nil) refl
