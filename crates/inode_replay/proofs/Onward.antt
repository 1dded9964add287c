-- What is made of a list piece by piece.
use Rattle.std.proofs.Common.{◌≡◌, ℕ, ◌+◌, ◌-◌, ◌<◌, ◌≤◌, List, ◌++◌, length, take, drop, replicate, sym, ap, ◌∙◌, arith, length-append, length-take}
use Rattle.std.proofs.lemmas.List.{append_assoc, take_at, drop-drop, take-take, length-take-le, length-replicate}
use Rattle.std.proofs.Math.Seq.{take-add, drop-append-add}
use Rattle.inode_replay.specs.Pieces.{resized, overwritten}

length-resized : (size : ℕ) (xs : List ℕ) → length (resized size xs) ≡ size
length-resized size xs = simp (length-append, length-take, length-replicate) (omega arith)

-- a part written, and then more after it
pub overwritten_more : (old bytes : List ℕ) (offset done n : ℕ) (changed new : List ℕ) → done + n ≤ length bytes → changed ≡ overwritten old offset (take done bytes) → new ≡ take (offset + done) changed ++ take n (drop done bytes) ++ drop (offset + done + n) changed → new ≡ overwritten old offset (take (done + n) bytes)
overwritten_more old bytes offset done n changed new fits so_far next =
    let a = take done bytes in
    let b = take n (drop done bytes) in
    let front = resized offset old in
    let rest = drop (offset + length a) old in
    let a_long : length a ≡ done = length-take-le done bytes (omega arith) in
    let all_long : length (take (done + n) bytes) ≡ done + n = length-take-le (done + n) bytes fits in
    let start : length (front ++ a) ≡ offset + done = omega (arith, length-append front a, length-resized offset old) in
    let start_is : take (offset + done) changed ≡ front ++ a = ap (take (offset + done)) so_far ∙ take_at (front ++ a) rest (offset + done) start in
    let after : offset + done + n ≡ length (front ++ a) + n = omega arith in
    let end : offset + length a + n ≡ offset + length (take (done + n) bytes) = omega arith in
    let end_is : drop (offset + done + n) changed ≡ drop (offset + length (take (done + n) bytes)) old =
    ap (drop (offset + done + n)) so_far
    ∙ ap (λ i. drop i (front ++ a ++ rest)) after
    ∙ drop-append-add (front ++ a) rest n
    ∙ drop-drop n (offset + length a) old
    ∙ ap (λ i. drop i old) end in
    next
    ∙ ap (λ l. l ++ b ++ drop (offset + done + n) changed) start_is
    ∙ ap (λ l. front ++ a ++ b ++ l) end_is
    ∙ ap (λ l. l ++ drop (offset + length (take (done + n) bytes)) old) (append_assoc front a b ∙ ap (λ l. front ++ l) (sym (take-add done n bytes)))

-- what is cut off after the size doesn't matter
pub resized_cut : (xs : List ℕ) (size n : ℕ) → size ≤ n → n < length xs → resized size (take n xs) ≡ resized size xs
resized_cut xs size n h within =
    let long : length (take n xs) ≡ n = length-take-le n xs (omega arith) in
    let none : size - length (take n xs) ≡ size - length xs = omega arith in
    ap (λ l. l ++ replicate (size - length (take n xs)) 0) (take-take size n xs h) ∙ ap (λ k. take size xs ++ replicate k 0) none
