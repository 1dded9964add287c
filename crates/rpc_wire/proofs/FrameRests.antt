-- Every stream of bytes is split, or has a message that is too long; and a rest is the beginning of a message.
use Rattle.std.proofs.Common.{◌≡◌, ◌≢◌, ℕ, zero, suc, ◌+◌, ◌-◌, ◌^◌, ◌<◌, ◌≤◌, Bool, true, false, List, [], ◌∷◌, ◌++◌, length, get_or, ◌⊎◌, inl, inr, refl, sym, ap, subst, ◌∙◌, arith, append_assoc, append-nil, length-append, zero-add}
use Rattle.std.specs.Prelude.{replicate}
use Rattle.std.specs.List.{AllByRecursion}
use Rattle.std.specs.Int.{w32, from_be_bytes}
use Rattle.std.proofs.lemmas.List.{length-replicate}
use Rattle.std.proofs.lemmas.Nat.{be_bytes_4}
use Rattle.std.proofs.lemmas.Bool.{cases_lt}
use Rattle.rpc_wire.specs.Frames.{header, fragment, Framed, marked, IsSplit, longest_message}
use Rattle.rpc_wire.specs.FrameReading.{Part, Header, Inside, Exceeded, Frames, IsInside, Stands, IsAfter}
use Rattle.rpc_wire.specs.Streams.{nothing, standing}
use Rattle.rpc_wire.specs.FrameLaws.{IsByte, IsBeginning, EachHasMessages, RestsAreBeginnings}
use Rattle.rpc_wire.proofs.FrameLemmas.{whole, one_split, not_both}
use Rattle.rpc_wire.proofs.FrameRuns.{of_part}
use Rattle.rpc_wire.proofs.FrameSteps.{header_more, inside_ended, inside_more, header_done, header_over, exceeded_stays, after_nothing, more_fragments}

-- ---- four bytes are a header

pub record IsHeader (bytes : List ℕ) : Type 0 where
  pub last : Bool
  pub size : ℕ
  pub fits : size < 2 ^ 31
  pub spelled : bytes ≡ header last size

of_word : (bytes : List ℕ) (n : ℕ) → n < 2 ^ 32 → header false n ≡ bytes → (n < 2 ^ 31) ⊎ (2 ^ 31 ≤ n) → IsHeader bytes
of_word bytes n l e (inl s) = record { last = false; size = n; fits = s; spelled = sym e }
of_word bytes n l e (inr s) =
    let back : 2 ^ 31 + (n - 2 ^ 31) ≡ n = omega (arith, s) in
    record { last = true; size = n - 2 ^ 31; fits = omega (arith, l, s); spelled = sym e ∙ ap (header false) (sym back) }

each : (a b c d : ℕ) → a < 256 → b < 256 → c < 256 → d < 256 → (i : ℕ) → get_or (a ∷ b ∷ c ∷ d ∷ []) i 0 < 256
each a b c d f g h k zero = f
each a b c d f g h k (suc zero) = g
each a b c d f g h k (suc (suc zero)) = h
each a b c d f g h k (suc (suc (suc zero))) = k
each a b c d f g h k (suc (suc (suc (suc i)))) = omega arith

pub four_bytes : (a b c d : ℕ) → a < 256 → b < 256 → c < 256 → d < 256 → IsHeader (a ∷ b ∷ c ∷ d ∷ [])
four_bytes a b c d f g h k =
    let n = from_be_bytes w32 (a ∷ b ∷ c ∷ d ∷ []) in
    let below : n < 2 ^ 32 = omega arith in
    of_word (a ∷ b ∷ c ∷ d ∷ []) n below (be_bytes_4 (a ∷ b ∷ c ∷ d ∷ []) n refl (each a b c d f g h k) refl) (cases_lt n (2 ^ 31))

-- ---- every stream

-- what is held of a header are bytes
abbrev HoldsBytes : Part → Type 0
HoldsBytes (Header body begun) = AllByRecursion IsByte begun
HoldsBytes (Inside body last left) = Unit {0}
HoldsBytes Exceeded = Unit {0}

standing_holds : (w : List (List ℕ)) (body : List ℕ) (last : Bool) (left : ℕ) → HoldsBytes (standing w body last left).part
standing_holds w body true zero = tt
standing_holds w body true (suc left) = tt
standing_holds w body false left = tt

record Reached (fed : List ℕ) (taken : List (List ℕ)) : Type 0 where
  reader : Frames
  after : IsAfter fed taken reader
  holds : HoldsBytes reader.part

whole_header : (w : List (List ℕ)) (body fed : List ℕ) (taken : List (List ℕ)) (a b c byte : ℕ) → IsHeader (a ∷ b ∷ c ∷ byte ∷ []) → IsAfter fed taken (record { waiting = w; part = Header body (a ∷ b ∷ c ∷ []) }) → Reached (fed ++ byte ∷ []) taken
whole_header w body fed taken a b c byte h after =
    either (cases_lt longest_message (length body + h.size))
  where
    either : (longest_message < length body + h.size) ⊎ (length body + h.size ≤ longest_message) → Reached (fed ++ byte ∷ []) taken
    either (inl over) = record {
      reader = record { waiting = w; part = Exceeded };
      after = header_over w body (a ∷ b ∷ c ∷ []) (byte ∷ []) h.last h.size h.spelled h.fits over fed taken after;
      holds = tt;
    }
    either (inr within) = record {
      reader = standing w body h.last h.size;
      after = header_done w body (a ∷ b ∷ c ∷ []) (byte ∷ []) h.last h.size h.spelled within fed taken after;
      holds = standing_holds w body h.last h.size;
    }

next_byte : (w : List (List ℕ)) (p : Part) (fed : List ℕ) (taken : List (List ℕ)) (byte : ℕ) → IsByte byte → HoldsBytes p → IsAfter fed taken (record { waiting = w; part = p }) → Reached (fed ++ byte ∷ []) taken
next_byte w (Header body []) fed taken byte f g after = record {
  reader = record { waiting = w; part = Header body (byte ∷ []) };
  after = header_more w body [] byte (omega arith) fed taken after;
  holds = (f, tt);
}
next_byte w (Header body (a ∷ [])) fed taken byte f g after = record {
  reader = record { waiting = w; part = Header body (a ∷ byte ∷ []) };
  after = header_more w body (a ∷ []) byte (omega arith) fed taken after;
  holds = (g.0, (f, tt));
}
next_byte w (Header body (a ∷ b ∷ [])) fed taken byte f g after = record {
  reader = record { waiting = w; part = Header body (a ∷ b ∷ byte ∷ []) };
  after = header_more w body (a ∷ b ∷ []) byte (omega arith) fed taken after;
  holds = (g.0, (g.1.0, (f, tt)));
}
next_byte w (Header body (a ∷ b ∷ c ∷ [])) fed taken byte f g after = whole_header w body fed taken a b c byte (four_bytes a b c byte g.0 g.1.0 g.1.1.0 f) after
next_byte w (Header body (a ∷ b ∷ c ∷ d ∷ more)) fed taken byte f g after = absurd (omega (arith, after.2.cut))
next_byte w (Inside body last zero) fed taken byte f g after = record {
  reader = record { waiting = w; part = Header body (byte ∷ []) };
  after = inside_ended w body last byte fed taken after;
  holds = (f, tt);
}
next_byte w (Inside body last (suc left)) fed taken byte f g after = record {
  reader = standing w (body ++ byte ∷ []) last (suc left - 1);
  after = inside_more w body (byte ∷ []) last (suc left) (omega arith) fed taken after;
  holds = standing_holds w (body ++ byte ∷ []) last (suc left - 1);
}
next_byte w Exceeded fed taken byte f g after = record {
  reader = record { waiting = w; part = Exceeded };
  after = exceeded_stays w (byte ∷ []) fed taken after;
  holds = tt;
}

all_bytes : (bytes fed : List ℕ) (taken : List (List ℕ)) → AllByRecursion IsByte bytes → Reached fed taken → Reached (fed ++ bytes) taken
all_bytes [] fed taken f r = let At : List ℕ → Type 0 = λ x. Reached x taken in subst At (sym (append-nil fed)) r
all_bytes (byte ∷ bytes) fed taken f r =
    let At : List ℕ → Type 0 = λ x. Reached x taken in
    subst At (append_assoc fed (byte ∷ []) bytes) (all_bytes bytes (fed ++ byte ∷ []) taken f.1 (next_byte r.reader.waiting r.reader.part fed taken byte f.0 r.holds r.after))

reached : (bytes : List ℕ) → AllByRecursion IsByte bytes → Reached bytes []
reached bytes f = all_bytes bytes [] [] f (record { reader = nothing; after = after_nothing; holds = tt })

pub each_has_messages : EachHasMessages
each_has_messages bytes f = let r = reached bytes f in (r.reader.waiting, of_part r.reader.part bytes r.reader.waiting r.after)

-- ---- rests

-- more bytes after a fragment that was begun make a whole message
record Completes (front : List ℕ) (last : Bool) (left : ℕ) : Type 0 where
  framed : Framed
  more : List ℕ
  whole_is : front ++ more ≡ marked framed
  size : left ≤ length more
  some : last ≡ false → 0 < length more

filled : (bytes : List ℕ) (left : ℕ) → length bytes + left ≡ length (bytes ++ replicate left 0)
filled bytes left = omega (arith, length-append bytes (replicate left 0), length-replicate {A = ℕ} left 0)

fill : (earlier : List (List ℕ)) (last : Bool) (bytes : List ℕ) (left : ℕ)
    → (whole earlier ++ (header last (length bytes + left) ++ bytes)) ++ replicate left 0 ≡ whole earlier ++ fragment last (bytes ++ replicate left 0)
fill earlier last bytes left =
    append_assoc (whole earlier) (header last (length bytes + left) ++ bytes) (replicate left 0)
    ∙ ap (λ (s : List ℕ). whole earlier ++ s) (append_assoc (header last (length bytes + left)) bytes (replicate left 0) ∙ ap (λ (n : ℕ). header last n ++ (bytes ++ replicate left 0)) (filled bytes left))

completes : (earlier : List (List ℕ)) (last : Bool) (bytes : List ℕ) (left : ℕ) → Completes (whole earlier ++ (header last (length bytes + left) ++ bytes)) last left
completes earlier true bytes left = record {
  framed = record { earlier = earlier; last = bytes ++ replicate left 0 };
  more = replicate left 0;
  whole_is = fill earlier true bytes left;
  size = omega (arith, length-replicate {A = ℕ} left 0);
  some = λ (e : true ≡ false). cc e;
}
completes earlier false bytes left =
    let zeros : List ℕ = replicate left 0 in
    let front = whole earlier ++ (header false (length bytes + left) ++ bytes) in
    record {
      framed = record { earlier = earlier ++ (bytes ++ zeros) ∷ []; last = [] };
      more = zeros ++ fragment true [];
      whole_is = sym (append_assoc front zeros (fragment true [])) ∙ ap (λ (s : List ℕ). s ++ fragment true []) (fill earlier false bytes left ∙ more_fragments earlier (bytes ++ zeros));
      size = omega (arith, length-replicate {A = ℕ} left 0, length-append zeros (fragment true []));
      some = λ e. omega (arith, length-append zeros (fragment true []));
    }

not_empty : (more : List ℕ) → 0 < length more → more ≢ []
not_empty more h e = omega (arith, h, ap length e)

inside_begins : {rest body : List ℕ} (last : Bool) (left : ℕ) → IsInside rest body last left → IsBeginning rest
inside_begins {rest} true left a =
    let c = completes a.earlier true a.bytes left in
    (c.framed, c.more, ap (λ (s : List ℕ). s ++ c.more) a.spelled ∙ c.whole_is, not_empty c.more (omega (arith, c.size, a.more refl)))
inside_begins {rest} false left a =
    let c = completes a.earlier false a.bytes left in
    (c.framed, c.more, ap (λ (s : List ℕ). s ++ c.more) a.spelled ∙ c.whole_is, not_empty c.more (c.some refl))

-- the header, and then its bytes
header_completes : (earlier : List (List ℕ)) (begun zeros : List ℕ) → 0 < length zeros → IsHeader (begun ++ zeros) → IsBeginning (whole earlier ++ begun)
header_completes earlier begun zeros l h =
    let c = completes earlier h.last [] h.size in
    let e : begun ++ zeros ≡ header h.last (length {A = ℕ} [] + h.size) ++ [] = h.spelled ∙ ap (header h.last) (sym (zero-add h.size)) ∙ sym (append-nil (header h.last (length {A = ℕ} [] + h.size))) in (
      c.framed,
      zeros ++ c.more,
      sym (append_assoc (whole earlier ++ begun) zeros c.more) ∙ ap (λ (s : List ℕ). s ++ c.more) (append_assoc (whole earlier) begun zeros ∙ ap (λ (s : List ℕ). whole earlier ++ s) e) ∙ c.whole_is,
      not_empty (zeros ++ c.more) (omega (arith, l, length-append zeros c.more)),
    )

header_begins : (earlier : List (List ℕ)) (begun : List ℕ) → AllByRecursion IsByte begun → length begun < 4 → IsBeginning (whole earlier ++ begun)
header_begins earlier [] f l = header_completes earlier [] (0 ∷ 0 ∷ 0 ∷ 0 ∷ []) (omega arith) (four_bytes 0 0 0 0 (omega arith) (omega arith) (omega arith) (omega arith))
header_begins earlier (a ∷ []) f l = header_completes earlier (a ∷ []) (0 ∷ 0 ∷ 0 ∷ []) (omega arith) (four_bytes a 0 0 0 f.0 (omega arith) (omega arith) (omega arith))
header_begins earlier (a ∷ b ∷ []) f l = header_completes earlier (a ∷ b ∷ []) (0 ∷ 0 ∷ []) (omega arith) (four_bytes a b 0 0 f.0 f.1.0 (omega arith) (omega arith))
header_begins earlier (a ∷ b ∷ c ∷ []) f l = header_completes earlier (a ∷ b ∷ c ∷ []) (0 ∷ []) (omega arith) (four_bytes a b c 0 f.0 f.1.0 f.1.1.0 (omega arith))
header_begins earlier (a ∷ b ∷ c ∷ d ∷ more) f l = absurd (omega (arith, l))

part_begins : (p : Part) (bytes : List ℕ) (m n : List (List ℕ)) (rest : List ℕ) → HoldsBytes p → Stands bytes m p → IsSplit bytes n rest → IsBeginning rest
part_begins (Header body begun) bytes m n rest f h s =
    let same : h.0 ≡ rest = (one_split bytes m n h.0 rest h.1 s).1 in
    let Begins : List ℕ → Type 0 = λ r. IsBeginning r in
    subst Begins (sym h.2.spelled ∙ same) (header_begins h.2.earlier begun f h.2.cut)
part_begins (Inside body last left) bytes m n rest f h s =
    let same : h.0 ≡ rest = (one_split bytes m n h.0 rest h.1 s).1 in
    let Begins : List ℕ → Type 0 = λ r. IsBeginning r in
    subst Begins same (inside_begins last left h.2)
part_begins Exceeded bytes m n rest f h s = absurd (not_both bytes n m rest s h)

pub rests_are_beginnings : RestsAreBeginnings
rests_are_beginnings bytes messages rest f s =
    let r = reached bytes f in
    part_begins r.reader.part bytes r.reader.waiting messages rest r.holds r.after s
