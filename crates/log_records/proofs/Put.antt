-- What is written in two steps.
use Rattle.std.proofs.Common.{◌≡◌, ℕ, List, ◌++◌, sym, ap, ◌∙◌, append_assoc}

pub put_two : (before x y : List ℕ) {middle after whole : List ℕ} → middle ≡ before ++ x → after ≡ middle ++ y → whole ≡ x ++ y → after ≡ before ++ whole
put_two before x y first second parts =
    second ∙ ap (λ (s : List ℕ). s ++ y) first ∙ append_assoc before x y ∙ ap (λ (s : List ℕ). before ++ s) (sym parts)
