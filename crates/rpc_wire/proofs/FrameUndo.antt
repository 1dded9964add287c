-- What was read since a moment can be taken back: it stands after what was there.
use Rattle.std.proofs.Common.{◌≡◌, ℕ, suc, ◌+◌, ◌<◌, ◌≤◌, List, [], ◌∷◌, ◌++◌, length, take, refl, sym, ap, ◌∙◌, arith, append_assoc, append-nil, length-append}
use Rattle.std.proofs.Math.Seq.{take-append_seam}
use Rattle.rpc_wire.specs.declared.stream.Stream.{Stream}
use Rattle.rpc_wire.specs.Streams.{Grows, IsGrown}

-- the messages and the open one
abbrev pub row : Stream → List (List ℕ)
row s = s.whole.items ++ s.body.items ∷ []

pub grown_same : (old new : Stream) → new.whole.items ≡ old.whole.items → new.body.items ≡ old.body.items → IsGrown old new
grown_same old new w b = record {
  more = [];
  later = [];
  all = rw (w, b) (ap (λ (x : List ℕ). old.whole.items ++ x ∷ []) (sym (append-nil old.body.items)));
}

pub grown_body : (old new : Stream) (front : List ℕ) → new.whole.items ≡ old.whole.items → new.body.items ≡ old.body.items ++ front → IsGrown old new
grown_body old new front w b = record { more = front; later = []; all = rw (w, b) refl }

pub grown_whole : (old new : Stream) → new.whole.items ≡ old.whole.items ++ old.body.items ∷ [] → new.body.items ≡ [] → IsGrown old new
grown_whole old new w b = record {
  more = [];
  later = [] ∷ [];
  all = rw (w, b) (append_assoc old.whole.items (old.body.items ∷ []) ([] ∷ []) ∙ ap (λ (x : List ℕ). old.whole.items ++ x ∷ [] ∷ []) (sym (append-nil old.body.items)));
}

record Further (now : List (List ℕ)) (w : List (List ℕ)) (x : List ℕ) : Type 0 where
  more : List ℕ
  later : List (List ℕ)
  all : now ≡ w ++ (x ++ more) ∷ later

one_further : {now w : List (List ℕ)} {x : List ℕ} {y z : List ℕ} → y ≡ z → Further now w x → Further (y ∷ now) (z ∷ w) x
one_further e f = record { more = f.more; later = f.later; all = rw (e, f.all) refl }

further : (w m : List (List ℕ)) (x b more : List ℕ) (later others : List (List ℕ)) → m ++ b ∷ [] ≡ w ++ x ∷ others → Further (m ++ (b ++ more) ∷ later) w x
further [] [] x b more later others e =
    let same : b ≡ x = cc in
    record { more = more; later = later; all = rw same refl }
further [] (y ∷ m) x b more later others e =
    let same : y ≡ x = cc in
    record { more = []; later = m ++ (b ++ more) ∷ later; all = ap (λ (l : List ℕ). l ∷ (m ++ (b ++ more) ∷ later)) (same ∙ sym (append-nil x)) }
further (z ∷ w) [] x b more later others e = absurd (omega (arith, ap length e, length-append w (x ∷ others)))
further (z ∷ w) (y ∷ m) x b more later others e =
    let rest : m ++ b ∷ [] ≡ w ++ x ∷ others = cc in
    let head : y ≡ z = cc in
    one_further head (further w m x b more later others rest)

pub grows_on : {w : List (List ℕ)} {b : List ℕ} (middle new : Stream) → Grows w b middle → IsGrown middle new → Grows w b new
grows_on {w} {b} middle new f g =
    let h = further w middle.whole.items (b ++ f.more) middle.body.items g.more g.later f.later f.all in
    record { more = f.more ++ h.more; later = h.later; all = g.all ∙ h.all ∙ ap (λ (x : List ℕ). w ++ x ∷ h.later) (append_assoc b f.more h.more) }

pub grown_then : (old middle new : Stream) → IsGrown old middle → IsGrown middle new → IsGrown old new
grown_then old middle new f g = grows_on middle new f g

-- where no message was whole meanwhile
pub same_row : (w m : List (List ℕ)) (x b : List ℕ) (later : List (List ℕ)) → m ++ b ∷ [] ≡ w ++ x ∷ later → length m ≤ length w → (m ≡ w) × (b ≡ x)
same_row [] [] x b later e l = let same : b ≡ x = cc in (refl, same)
same_row [] (y ∷ m) x b later e l = absurd (omega (arith, l))
same_row (z ∷ w) [] x b later e l = absurd (omega (arith, ap length e, length-append w (x ∷ later)))
same_row (z ∷ w) (y ∷ m) x b later e l =
    let rest : m ++ b ∷ [] ≡ w ++ x ∷ later = cc in
    let head : y ≡ z = cc in
    let p = same_row w m x b later rest (omega (arith, l)) in
    (rw (head, p.0) refl, p.1)

-- where one was, and its place is the last of those that are kept
cut_after : (w m : List (List ℕ)) (x b : List ℕ) (later : List (List ℕ)) → m ++ b ∷ [] ≡ w ++ x ∷ later → length w < length m → take (suc (length w)) m ≡ w ++ x ∷ []
cut_after [] [] x b later e l = absurd (omega (arith, l))
cut_after [] (y ∷ m) x b later e l = let same : y ≡ x = cc in rw same refl
cut_after (z ∷ w) [] x b later e l = absurd (omega (arith, l))
cut_after (z ∷ w) (y ∷ m) x b later e l =
    let rest : m ++ b ∷ [] ≡ w ++ x ∷ later = cc in
    let head : y ≡ z = cc in
    let cut : take (suc (length w)) m ≡ w ++ x ∷ [] = cut_after w m x b later rest (omega (arith, l)) in
    rw (head, cut) refl

pub cut_row : (w m : List (List ℕ)) (x b : List ℕ) (later : List (List ℕ)) → m ++ b ∷ [] ≡ w ++ x ∷ later → length w < length m → take (length w + 1) m ≡ w ++ x ∷ []
cut_row w m x b later e l = let n : length w + 1 ≡ suc (length w) = omega arith in ap (λ (n : ℕ). take n m) n ∙ cut_after w m x b later e l

pub last_of_row : (w v : List (List ℕ)) (x y : List ℕ) → v ++ y ∷ [] ≡ w ++ x ∷ [] → (v ≡ w) × (y ≡ x)
last_of_row w v x y e =
    same_row w v x y [] e (omega (arith, ap length e, length-append v (y ∷ []), length-append w (x ∷ [])))

pub front_of : (b more : List ℕ) (n : ℕ) → length b ≡ n → take n (b ++ more) ≡ b
front_of b more n e = ap (λ (k : ℕ). take k (b ++ more)) (sym e) ∙ take-append_seam b more

-- ---- taking back

pub undone_cut : (s : Stream) (w : List (List ℕ)) (b : List ℕ) (at size : ℕ) (kept cut : List (List ℕ)) (m final : List ℕ) → length w ≡ at → length b ≡ size → Grows w b s → at < length s.whole.items
    → cut ≡ take (at + 1) s.whole.items → cut ≡ kept ++ m ∷ [] → final ≡ take size m → (kept ≡ w) × (final ≡ b)
undone_cut s w b at size kept cut m final l n g before t k f =
    let there : take (at + 1) s.whole.items ≡ w ++ (b ++ g.more) ∷ [] = ap (λ (n : ℕ). take (n + 1) s.whole.items) (sym l) ∙ cut_row w s.whole.items (b ++ g.more) s.body.items g.later g.all (omega (arith, l, before)) in
    let p = last_of_row w kept (b ++ g.more) m (sym k ∙ t ∙ there) in
    (p.0, f ∙ ap (take size) p.1 ∙ front_of b g.more size n)

pub undone_same : (s : Stream) (w : List (List ℕ)) (b : List ℕ) (at size : ℕ) (final : List ℕ) → length w ≡ at → length b ≡ size → Grows w b s → length s.whole.items ≤ at
    → final ≡ take size s.body.items → (s.whole.items ≡ w) × (final ≡ b)
undone_same s w b at size final l n g before f =
    let p = same_row w s.whole.items (b ++ g.more) s.body.items g.later g.all (omega (arith, l, before)) in
    (p.0, f ∙ ap (take size) p.1 ∙ front_of b g.more size n)
