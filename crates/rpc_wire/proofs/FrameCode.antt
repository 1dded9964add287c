-- The steps of the code, over what it holds.
use Rattle.std.proofs.Common.{◌≡◌, ℕ, ◌+◌, ◌-◌, ◌<◌, ◌≤◌, Bool, false, List, [], ◌∷◌, ◌++◌, length, take, drop, get_or, ◌⊎◌, inl, inr, refl, sym, ap, subst, ◌∙◌, arith, length-append, append-nil}
use Rattle.std.proofs.lemmas.List.{take-append-drop, length-take-le, length-drop}
use Rattle.std.specs.List.{flat_map}
use Rattle.rpc_wire.specs.Frames.{header, fragment, IsSplit, IsTooLong}
use Rattle.rpc_wire.specs.FrameReading.{Part, Header, Inside, Exceeded, Frames, IsAtHeader, IsInside, Stands, Feeds}
use Rattle.rpc_wire.specs.Streams.{part_of, frames_of, standing, AfterHeader, FeedsSome}
use Rattle.rpc_wire.specs.declared.stream.Place.{Place}
use Rattle.rpc_wire.specs.declared.stream.Place.TheVariants as place
use Rattle.rpc_wire.specs.declared.stream.Stream.{Stream}
use Rattle.rpc_wire.proofs.FrameLemmas.{header_length, one_split, not_both}
use Rattle.rpc_wire.proofs.FrameSteps.{header_more, inside_ended, inside_more, after_header, exceeded_stays}

pub from_place : (s : Stream) (p : Place) (front : List ℕ) (new : Frames) → s.place ≡ p
    → Feeds front (record { waiting = s.whole.items; part = part_of s.body.items p }) new → Feeds front (frames_of s) new
from_place s p front new e f =
    let Old : Place → Type 0 = λ q. Feeds front (record { waiting = s.whole.items; part = part_of s.body.items q }) new in
    subst Old (sym e) f

abbrev pub HeaderOf : Stream → List ℕ → Frames
HeaderOf s begun = record { waiting = s.whole.items; part = Header s.body.items begun }

pub first_byte : (s : Stream) (byte : ℕ) → (s.place ≡ place.Between) ⊎ ((last : Bool) × (left : ℕ) × (s.place ≡ place.Inside last left))
    → ((last : Bool) (left : ℕ) → s.place ≡ place.Inside last left → left ≡ 0) → Feeds (byte ∷ []) (frames_of s) (HeaderOf s (byte ∷ []))
first_byte s byte (inl e) none = from_place s place.Between (byte ∷ []) (HeaderOf s (byte ∷ [])) e (header_more s.whole.items s.body.items [] byte (omega arith))
first_byte s byte (inr e) none =
    let ended : s.place ≡ place.Inside e.0 0 = e.2 ∙ ap (place.Inside e.0) (none e.0 e.1 e.2) in
    from_place s (place.Inside e.0 0) (byte ∷ []) (HeaderOf s (byte ∷ [])) ended (inside_ended s.whole.items s.body.items e.0 byte)

pub second_byte : (s : Stream) (a byte : ℕ) → s.place ≡ place.One a → Feeds (byte ∷ []) (frames_of s) (HeaderOf s (a ∷ byte ∷ []))
second_byte s a byte e = from_place s (place.One a) (byte ∷ []) (HeaderOf s (a ∷ byte ∷ [])) e (header_more s.whole.items s.body.items (a ∷ []) byte (omega arith))

pub third_byte : (s : Stream) (a b byte : ℕ) → s.place ≡ place.Two a b → Feeds (byte ∷ []) (frames_of s) (HeaderOf s (a ∷ b ∷ byte ∷ []))
third_byte s a b byte e = from_place s (place.Two a b) (byte ∷ []) (HeaderOf s (a ∷ b ∷ byte ∷ [])) e (header_more s.whole.items s.body.items (a ∷ b ∷ []) byte (omega arith))

pub fourth_byte : (s : Stream) (a b c byte : ℕ) (new : Frames) → s.place ≡ place.Three a b c → AfterHeader s.whole.items s.body.items (a ∷ b ∷ c ∷ byte ∷ []) new → Feeds (byte ∷ []) (frames_of s) new
fourth_byte s a b c byte new e f = from_place s (place.Three a b c) (byte ∷ []) new e (after_header s.whole.items s.body.items (a ∷ b ∷ c ∷ []) (byte ∷ []) new f)

pub too_long_stays : (s : Stream) (front : List ℕ) → s.place ≡ place.TooLong → Feeds front (frames_of s) (frames_of s)
too_long_stays s front e =
    let Both : Place → Type 0 = λ q. Feeds front (record { waiting = s.whole.items; part = part_of s.body.items q }) (record { waiting = s.whole.items; part = part_of s.body.items q }) in
    subst Both (sym e) (exceeded_stays s.whole.items front)

pub some_bytes : (s : Stream) (last : Bool) (left count : ℕ) (piece body rest : List ℕ) (new : Frames) → s.place ≡ place.Inside last left → 0 < count → count ≤ left → count ≤ length piece
    → body ≡ s.body.items ++ take count piece → rest ≡ drop count piece → new ≡ standing s.whole.items body last (left - count) → FeedsSome piece rest (frames_of s) new
some_bytes s last left count piece body rest new e p l m b r n =
    let front = take count piece in
    let size : length front ≡ count = length-take-le count piece m in
    let feeds = inside_more s.whole.items s.body.items front last left (omega (arith, size)) in
    let same : standing s.whole.items (s.body.items ++ front) last (left - length front) ≡ new = ap (λ (k : ℕ). standing s.whole.items (s.body.items ++ front) last (left - k)) size ∙ ap (λ (x : List ℕ). standing s.whole.items x last (left - count)) (sym b) ∙ sym n in
    let New : Frames → Type 0 = λ x. Feeds front (record { waiting = s.whole.items; part = Inside s.body.items last left }) x in
    record {
      front = front;
      whole = sym (take-append-drop count piece) ∙ ap (λ (x : List ℕ). front ++ x) (sym r);
      shorter = omega (arith, ap length r, length-drop count piece);
      feeds = from_place s (place.Inside last left) front new e (subst New same feeds);
    }

pub one_byte : (old new : Frames) (piece rest : List ℕ) (byte : ℕ) → 0 < length piece → byte ≡ get_or piece 0 0 → rest ≡ drop 1 piece → Feeds (byte ∷ []) old new → FeedsSome piece rest old new
one_byte old new [] rest byte l b r f = absurd (omega (arith, l))
one_byte old new (x ∷ xs) rest byte l b r f =
    let same : rest ≡ xs = r in
    let first : byte ≡ x = b in
    record { front = byte ∷ []; whole = rw (same, first) refl; shorter = omega (arith, ap length same); feeds = f }

-- ---- the end

nothing_of : (l : List ℕ) → length l ≡ 0 → l ≡ []
nothing_of [] e = refl
nothing_of (x ∷ l) e = absurd (omega (arith, e))

-- where a place isn't between two messages, some bytes of a message are held
at_header_cut : {fed rest body begun : List ℕ} {ms : List (List ℕ)} → ((begun ≡ []) → ⊥) → IsSplit fed ms rest → IsAtHeader rest body begun → IsSplit fed ms [] → ⊥
at_header_cut {fed} {rest} {begun} {ms} some s a t =
    let none : rest ≡ [] = (one_split fed ms ms rest [] s t).1 in
    let size : length rest ≡ 0 = ap length none in
    some (nothing_of begun (omega (arith, size, ap length a.spelled, length-append (flat_map (fragment false) a.earlier) begun)))

inside_cut : {fed rest body : List ℕ} {ms : List (List ℕ)} {last : Bool} {left : ℕ} → IsSplit fed ms rest → IsInside rest body last left → IsSplit fed ms [] → ⊥
inside_cut {fed} {rest} {ms} {last} {left} s a t =
    let none : rest ≡ [] = (one_split fed ms ms rest [] s t).1 in
    let size : length rest ≡ 0 = ap length none in
    omega (arith, size, ap length a.spelled, length-append (flat_map (fragment false) a.earlier) (header last (length a.bytes + left) ++ a.bytes), length-append (header last (length a.bytes + left)) a.bytes, header_length last (length a.bytes + left))

pub cut_at : (p : Place) (body fed : List ℕ) (ms : List (List ℕ)) → (p ≡ place.Between → ⊥) → Stands fed ms (part_of body p) → IsSplit fed ms [] → ⊥
cut_at place.Between body fed ms n h t = n refl
cut_at (place.One a) body fed ms n h t = at_header_cut (λ (e : a ∷ [] ≡ []). cc e) h.1 h.2 t
cut_at (place.Two a b) body fed ms n h t = at_header_cut (λ (e : a ∷ b ∷ [] ≡ []). cc e) h.1 h.2 t
cut_at (place.Three a b c) body fed ms n h t = at_header_cut (λ (e : a ∷ b ∷ c ∷ [] ≡ []). cc e) h.1 h.2 t
cut_at (place.Inside last left) body fed ms n h t = inside_cut h.1 h.2 t
cut_at place.TooLong body fed ms n h t = not_both fed ms ms [] t h

-- where it is, none are
pub whole_at : (p : Place) (body fed : List ℕ) (ms : List (List ℕ)) → p ≡ place.Between → Stands fed ms (part_of body p) → IsSplit fed ms []
whole_at p body fed ms e h =
    let At : Place → Type 0 = λ q. Stands fed ms (part_of body q) in
    between (subst At e h)
  where
    between : Stands fed ms (part_of body place.Between) → IsSplit fed ms []
    between h =
        let a = h.2 in
        let none : h.0 ≡ [] = a.spelled ∙ ap (λ (l : List (List ℕ)). flat_map (fragment false) l ++ []) (a.begins refl) in
        let Split : List ℕ → Type 0 = λ rest. IsSplit fed ms rest in
        subst Split none h.1

pub split_at : (p : Part) (fed : List ℕ) (ms : List (List ℕ)) → (p ≡ Exceeded → ⊥) → Stands fed ms p → (rest : List ℕ) × IsSplit fed ms rest
split_at (Header body begun) fed ms n h = (h.0, h.1)
split_at (Inside body last left) fed ms n h = (h.0, h.1)
split_at Exceeded fed ms n h = absurd (n refl)

pub too_long_at : (p : Part) (fed : List ℕ) (ms : List (List ℕ)) → p ≡ Exceeded → Stands fed ms p → IsTooLong fed ms
too_long_at p fed ms e h = let At : Part → Type 0 = λ q. Stands fed ms q in subst At e h

-- where nothing is left of the piece, all of it was fed
pub fed_all : (front rest piece : List ℕ) (old new : Frames) → piece ≡ front ++ rest → length rest ≡ 0 → Feeds front old new → Feeds piece old new
fed_all front rest piece old new w e f =
    let none : rest ≡ [] = nothing_of rest e in
    let Fed : List ℕ → Type 0 = λ x. Feeds x old new in
    subst Fed (sym (w ∙ ap (λ (x : List ℕ). front ++ x) none ∙ append-nil front)) f
