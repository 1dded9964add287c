-- What was appended part by part was appended as one.
use Rattle.std.proofs.Common.{◌≡◌, ℕ, List, ◌++◌, append_assoc}

six_parts : (s a b c d e f : List ℕ) → s ++ a ++ b ++ c ++ d ++ e ++ f ≡ s ++ (a ++ b ++ c ++ d ++ e ++ f)
six_parts s a b c d e f = simp append_assoc

pub six_steps : (s a b c d e f : List ℕ) {t u v w x y : List ℕ} → t ≡ s ++ a → u ≡ t ++ b → v ≡ u ++ c → w ≡ v ++ d → x ≡ w ++ e → y ≡ x ++ f → y ≡ s ++ (a ++ b ++ c ++ d ++ e ++ f)
six_steps s a b c d e f p q g h i j = rw (j, i, h, g, q, p) (six_parts s a b c d e f)
