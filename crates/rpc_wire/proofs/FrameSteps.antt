-- What a reader's steps make of a stream of frames.
use Rattle.std.proofs.Common.{◌≡◌, ℕ, zero, suc, ◌+◌, ◌-◌, ◌^◌, ◌<◌, ◌≤◌, Bool, true, false, List, [], ◌∷◌, ◌++◌, length, ◌⊎◌, inl, inr, refl, sym, ap, subst, ◌∙◌, arith, append_assoc, append-nil, length-append, zero-add}
use Rattle.std.specs.Prelude.{map}
use Rattle.std.specs.List.{flat_map, concat, AllByRecursion}
use Rattle.std.proofs.lemmas.List.Concat.{flat_map-append}
use Rattle.wire_model.specs.OneReading.{HasNoFront}
use Rattle.rpc_wire.specs.Frames.{header, fragment, Framed, message, marked, Fits, Begins, IsOver, longest_message}
use Rattle.rpc_wire.specs.FrameReading.{Header, Inside, Exceeded, Frames, IsAtHeader, IsInside, Stands, IsAfter, Feeds}
use Rattle.rpc_wire.specs.Streams.{nothing, standing, AfterHeader}
use Rattle.rpc_wire.proofs.FrameLemmas.{whole, concat-append, AmongThem, BehindThem, compare, no_header, same_header, marked_parts, Sizes, sizes, joined_size}

-- ---- rests

pub record IsRest (rest : List ℕ) : Type 0 where
  pub no_message : HasNoFront Fits marked rest
  pub no_over : IsOver rest → ⊥

no_message_begun : (a b : List (List ℕ)) (begun more : List ℕ) (n : ℕ) → length begun < 4 → AmongThem a b true n ⊎ BehindThem a b begun true n more → ⊥
no_message_begun a b begun more n f (inl x) = let apart : true ≡ false = x.earlier in absurd (cc apart)
no_message_begun a b begun more n f (inr x) = no_header x.between begun true n more f x.spelled

no_over_begun : (a b : List (List ℕ)) (begun more : List ℕ) (last : Bool) (n : ℕ) → length begun < 4 → length (concat a) ≤ longest_message → longest_message < length (concat b) + n
    → AmongThem a b last n ⊎ BehindThem a b begun last n more → ⊥
no_over_begun a b begun more last n f s o (inl x) = omega (arith, x.short, s, o)
no_over_begun a b begun more last n f s o (inr x) = no_header x.between begun last n more f x.spelled

pub header_rest : {rest body begun : List ℕ} → IsAtHeader rest body begun → IsRest rest
header_rest {rest} {body} {begun} a =
    let s : length (concat a.earlier) ≤ longest_message = omega (arith, a.short, ap length a.bytes) in
    record {
      no_message = record {
        none = λ f r g.
            let h = sizes f g.fits in
            no_message_begun a.earlier f.earlier begun (f.last ++ r) (length f.last) a.cut
            (compare a.earlier f.earlier begun true (length f.last) (f.last ++ r) (omega (arith, s)) (omega (arith, h.whole_size)) (omega (arith, h.whole_size)) (sym a.spelled ∙ g.spelled ∙ marked_parts f r));
      };
      no_over = λ o. no_over_begun a.earlier o.earlier begun o.more o.last o.size a.cut s o.over
          (compare a.earlier o.earlier begun o.last o.size o.more (omega (arith, s)) (omega (arith, o.short)) o.word_fits (sym a.spelled ∙ o.spelled));
    }

no_message_inside : (a : List (List ℕ)) (f : Framed) (bytes r : List ℕ) (last : Bool) (left : ℕ) → Sizes f → length (concat a) + (length bytes + left) ≤ longest_message → (last ≡ true → 0 < left)
    → AmongThem a f.earlier true (length f.last) ⊎ BehindThem a f.earlier (header last (length bytes + left) ++ bytes) true (length f.last) (f.last ++ r) → ⊥
no_message_inside a f bytes r last left h s m (inl x) = let apart : true ≡ false = x.earlier in absurd (cc apart)
no_message_inside a f bytes r last left h s m (inr x) =
    let p = same_header x.between bytes last true (length bytes + left) (length f.last) (f.last ++ r) (omega arith) (omega (arith, joined_size a f.earlier x.between x.joined, h.whole_size)) (omega (arith, s)) (omega (arith, h.whole_size)) x.spelled in
    omega (arith, m p.1.last, p.1.size, ap length p.1.rest, length-append f.last r)

no_over_inside : (a b : List (List ℕ)) (bytes more : List ℕ) (l last : Bool) (left n : ℕ) → length (concat a) + (length bytes + left) ≤ longest_message → length (concat b) ≤ longest_message → n < 2 ^ 31 → longest_message < length (concat b) + n
    → AmongThem a b last n ⊎ BehindThem a b (header l (length bytes + left) ++ bytes) last n more → ⊥
no_over_inside a b bytes more l last left n s t w o (inl x) = omega (arith, x.short, s, o)
no_over_inside a b bytes more l last left n s t w o (inr x) =
    let p = same_header x.between bytes l last (length bytes + left) n more (omega arith) (omega (arith, joined_size a b x.between x.joined, t)) (omega (arith, s)) w x.spelled in
    let none : length (concat x.between) ≡ 0 = ap (λ (l : List (List ℕ)). length (concat l)) p.0 in
    omega (arith, joined_size a b x.between x.joined, none, p.1.size, s, o)

pub inside_rest : {rest body : List ℕ} {last : Bool} {left : ℕ} → IsInside rest body last left → IsRest rest
inside_rest {rest} {body} {last} {left} a =
    let s : length (concat a.earlier) + (length a.bytes + left) ≤ longest_message = omega (arith, a.short, ap length a.body_is, length-append (concat a.earlier) a.bytes) in
    let tail = header last (length a.bytes + left) ++ a.bytes in
    record {
      no_message = record {
        none = λ f r g.
            let h = sizes f g.fits in
            no_message_inside a.earlier f a.bytes r last left h s a.more
            (compare a.earlier f.earlier tail true (length f.last) (f.last ++ r) (omega (arith, s)) (omega (arith, h.whole_size)) (omega (arith, h.whole_size)) (sym a.spelled ∙ g.spelled ∙ marked_parts f r));
      };
      no_over = λ o. no_over_inside a.earlier o.earlier a.bytes o.more last o.last left o.size s o.short o.word_fits o.over
          (compare a.earlier o.earlier tail o.last o.size o.more (omega (arith, s)) (omega (arith, o.short)) o.word_fits (sym a.spelled ∙ o.spelled));
    }

-- ---- whole messages, and more bytes

all_more : (fs : List Framed) (f : Framed) → AllByRecursion Fits fs → Fits f → AllByRecursion Fits (fs ++ f ∷ [])
all_more [] f g h = (h, tt)
all_more (x ∷ fs) f g h = (g.0, all_more fs f g.1 h)

messages_more : (fs : List Framed) (f : Framed) → map message (fs ++ f ∷ []) ≡ map message fs ++ message f ∷ []
messages_more [] f = refl
messages_more (x ∷ fs) f = ap (λ (ms : List (List ℕ)). message x ∷ ms) (messages_more fs f)

pub begins_whole : {bytes rest : List ℕ} {ms : List (List ℕ)} (f : Framed) → Fits f → rest ≡ marked f → Begins bytes ms rest → Begins bytes (ms ++ message f ∷ []) []
begins_whole {bytes} {rest} {ms} f h e b = record {
  framed = b.framed ++ f ∷ [];
  fit = all_more b.framed f b.fit h;
  are = ap (λ (l : List (List ℕ)). l ++ message f ∷ []) b.are ∙ sym (messages_more b.framed f);
  spelled = b.spelled ∙ ap (λ (s : List ℕ). flat_map marked b.framed ++ s) (e ∙ sym (append-nil (marked f))) ∙ sym (flat_map-append marked b.framed (f ∷ [])) ∙ sym (append-nil (flat_map marked (b.framed ++ f ∷ [])));
}

pub begins_on : {bytes rest : List ℕ} {ms : List (List ℕ)} (front : List ℕ) → Begins bytes ms rest → Begins (bytes ++ front) ms (rest ++ front)
begins_on {rest} front b = record {
  framed = b.framed;
  fit = b.fit;
  are = b.are;
  spelled = ap (λ (s : List ℕ). s ++ front) b.spelled ∙ append_assoc (flat_map marked b.framed) rest front;
}

-- ---- where a reader stands

at_header : {fed rest body begun : List ℕ} {ms : List (List ℕ)} → Begins fed ms rest → IsAtHeader rest body begun → Stands fed ms (Header body begun)
at_header {rest} b a = let r = header_rest a in (rest, record { begins = b; no_message = r.no_message; no_over = r.no_over }, a)

inside : {fed rest body : List ℕ} {ms : List (List ℕ)} {last : Bool} {left : ℕ} → Begins fed ms rest → IsInside rest body last left → Stands fed ms (Inside body last left)
inside {rest} b a = let r = inside_rest a in (rest, record { begins = b; no_message = r.no_message; no_over = r.no_over }, a)

pub begun_nothing : IsAtHeader [] [] []
begun_nothing = record { earlier = []; spelled = refl; bytes = refl; short = omega arith; cut = omega arith; begins = λ e. refl }

pub after_nothing : IsAfter [] [] nothing
after_nothing = at_header {fed = []} {ms = []} (record { framed = []; fit = tt; are = refl; spelled = refl }) begun_nothing

-- in a fragment, of which maybe nothing is to come
record Reaches (rest body : List ℕ) (last : Bool) (left : ℕ) : Type 0 where
  earlier : List (List ℕ)
  bytes : List ℕ
  spelled : rest ≡ flat_map (fragment false) earlier ++ (header last (length bytes + left) ++ bytes)
  body_is : body ≡ concat earlier ++ bytes
  short : length body + left ≤ longest_message

message_done : {fed rest body : List ℕ} (taken w : List (List ℕ)) → Begins fed (taken ++ w) rest → Reaches rest body true 0 → Stands fed (taken ++ (w ++ body ∷ [])) (Header [] [])
message_done {fed} {rest} {body} taken w b a =
    let f : Framed = record { earlier = a.earlier; last = a.bytes } in
    let fits : Fits f = omega (arith, a.short, ap length a.body_is) in
    let e : rest ≡ marked f = a.spelled ∙ ap (λ (n : ℕ). flat_map (fragment false) a.earlier ++ (header true n ++ a.bytes)) (omega arith) in
    let same : (taken ++ w) ++ message f ∷ [] ≡ taken ++ (w ++ body ∷ []) = append_assoc taken w (message f ∷ []) ∙ ap (λ (x : List ℕ). taken ++ (w ++ x ∷ [])) (sym a.body_is) in
    let Ends : List (List ℕ) → Type 0 = λ ms. Begins fed ms [] in
    at_header (subst Ends same (begins_whole f fits e b)) begun_nothing

goes_on : {fed rest body : List ℕ} {ms : List (List ℕ)} {last : Bool} {left : ℕ} → Begins fed ms rest → Reaches rest body last left → (last ≡ true → 0 < left) → Stands fed ms (Inside body last left)
goes_on b a m = inside b (record { earlier = a.earlier; bytes = a.bytes; spelled = a.spelled; body_is = a.body_is; short = a.short; more = m })

settled : {fed rest body : List ℕ} (taken w : List (List ℕ)) (last : Bool) (left : ℕ) → Begins fed (taken ++ w) rest → Reaches rest body last left → IsAfter fed taken (standing w body last left)
settled taken w true zero b a = message_done taken w b a
settled taken w true (suc left) b a = goes_on b a (λ e. omega arith)
settled taken w false left b a = goes_on b a (λ (e : false ≡ true). cc e)

-- ---- the steps

pub header_more : (w : List (List ℕ)) (body begun : List ℕ) (byte : ℕ) → length begun < 3
    → Feeds (byte ∷ []) (record { waiting = w; part = Header body begun }) (record { waiting = w; part = Header body (begun ++ byte ∷ []) })
header_more w body begun byte l fed taken h =
    let a = h.2 in
    at_header (begins_on (byte ∷ []) h.1.begins) (record {
      earlier = a.earlier;
      spelled = ap (λ (s : List ℕ). s ++ byte ∷ []) a.spelled ∙ append_assoc (flat_map (fragment false) a.earlier) begun (byte ∷ []);
      bytes = a.bytes;
      short = a.short;
      cut = omega (arith, length-append begun (byte ∷ []));
      begins = λ e. absurd (omega (arith, ap length e, length-append begun (byte ∷ [])));
    })

pub more_fragments : (earlier : List (List ℕ)) (bytes : List ℕ) → whole earlier ++ fragment false bytes ≡ whole (earlier ++ bytes ∷ [])
more_fragments earlier bytes = ap (λ (s : List ℕ). whole earlier ++ s) (sym (append-nil (fragment false bytes))) ∙ sym (flat_map-append (fragment false) earlier (bytes ∷ []))

ended : {fed rest body : List ℕ} {ms : List (List ℕ)} (last : Bool) (byte : ℕ) → Begins fed ms rest → IsInside rest body last 0 → Stands (fed ++ byte ∷ []) ms (Header body (byte ∷ []))
ended true byte b a = absurd (omega (arith, a.more refl))
ended {rest} {body} false byte b a =
    let e : rest ≡ whole (a.earlier ++ a.bytes ∷ []) = a.spelled ∙ ap (λ (n : ℕ). whole a.earlier ++ (header false n ++ a.bytes)) (omega arith) ∙ more_fragments a.earlier a.bytes in
    at_header (begins_on (byte ∷ []) b) (record {
      earlier = a.earlier ++ a.bytes ∷ [];
      spelled = ap (λ (s : List ℕ). s ++ byte ∷ []) e;
      bytes = a.body_is ∙ ap (λ (s : List ℕ). concat a.earlier ++ s) (sym (append-nil a.bytes)) ∙ sym (concat-append a.earlier (a.bytes ∷ []));
      short = omega (arith, a.short);
      cut = omega arith;
      begins = λ (e : byte ∷ [] ≡ []). cc e;
    })

pub inside_ended : (w : List (List ℕ)) (body : List ℕ) (last : Bool) (byte : ℕ)
    → Feeds (byte ∷ []) (record { waiting = w; part = Inside body last 0 }) (record { waiting = w; part = Header body (byte ∷ []) })
inside_ended w body last byte fed taken h = ended last byte h.1.begins h.2

pub header_done : (w : List (List ℕ)) (body begun front : List ℕ) (last : Bool) (n : ℕ) → begun ++ front ≡ header last n → length body + n ≤ longest_message
    → Feeds front (record { waiting = w; part = Header body begun }) (standing w body last n)
header_done w body begun front last n e l fed taken h =
    let a = h.2 in
    settled taken w last n (begins_on front h.1.begins) (record {
      earlier = a.earlier;
      bytes = [];
      spelled = ap (λ (s : List ℕ). s ++ front) a.spelled ∙ append_assoc (whole a.earlier) begun front ∙ ap (λ (s : List ℕ). whole a.earlier ++ s) (e ∙ ap (header last) (sym (zero-add n)) ∙ sym (append-nil (header last (0 + n))));
      body_is = a.bytes ∙ sym (append-nil (concat a.earlier));
      short = l;
    })

pub header_over : (w : List (List ℕ)) (body begun front : List ℕ) (last : Bool) (n : ℕ) → begun ++ front ≡ header last n → n < 2 ^ 31 → longest_message < length body + n
    → Feeds front (record { waiting = w; part = Header body begun }) (record { waiting = w; part = Exceeded })
header_over w body begun front last n e f l fed taken h =
    let a = h.2 in
    record {
      rest = h.0 ++ front;
      begins = begins_on front h.1.begins;
      over = record {
        earlier = a.earlier;
        last = last;
        size = n;
        more = [];
        short = omega (arith, a.short, ap length a.bytes);
        word_fits = f;
        over = omega (arith, l, ap length a.bytes);
        spelled = ap (λ (s : List ℕ). s ++ front) a.spelled ∙ append_assoc (whole a.earlier) begun front ∙ ap (λ (s : List ℕ). whole a.earlier ++ s) (e ∙ sym (append-nil (header last n)));
      };
    }

after_either : (w : List (List ℕ)) (body begun front : List ℕ) (last : Bool) (n : ℕ) (new : Frames) → begun ++ front ≡ header last n → n < 2 ^ 31
    → ((length body + n ≤ longest_message) × (new ≡ standing w body last n)) ⊎ ((longest_message < length body + n) × (new ≡ record { waiting = w; part = Exceeded }))
    → Feeds front (record { waiting = w; part = Header body begun }) new
after_either w body begun front last n new e f (inl x) = rw x.1 (header_done w body begun front last n e x.0)
after_either w body begun front last n new e f (inr x) = rw x.1 (header_over w body begun front last n e f x.0)

pub after_header : (w : List (List ℕ)) (body begun front : List ℕ) (new : Frames) → AfterHeader w body (begun ++ front) new
    → Feeds front (record { waiting = w; part = Header body begun }) new
after_header w body begun front new h = after_either w body begun front h.0 h.1 new h.3 h.2 h.4

pub inside_more : (w : List (List ℕ)) (body front : List ℕ) (last : Bool) (left : ℕ) → length front ≤ left
    → Feeds front (record { waiting = w; part = Inside body last left }) (standing w (body ++ front) last (left - length front))
inside_more w body front last left l fed taken h =
    let a = h.2 in
    let size : length a.bytes + left ≡ length (a.bytes ++ front) + (left - length front) = omega (arith, length-append a.bytes front) in
    let joined : (header last (length a.bytes + left) ++ a.bytes) ++ front ≡ header last (length (a.bytes ++ front) + (left - length front)) ++ (a.bytes ++ front)
    = append_assoc (header last (length a.bytes + left)) a.bytes front ∙ ap (λ (n : ℕ). header last n ++ (a.bytes ++ front)) size in
    settled taken w last (left - length front) (begins_on front h.1.begins) (record {
      earlier = a.earlier;
      bytes = a.bytes ++ front;
      spelled = ap (λ (s : List ℕ). s ++ front) a.spelled ∙ append_assoc (whole a.earlier) (header last (length a.bytes + left) ++ a.bytes) front ∙ ap (λ (s : List ℕ). whole a.earlier ++ s) joined;
      body_is = ap (λ (s : List ℕ). s ++ front) a.body_is ∙ append_assoc (concat a.earlier) a.bytes front;
      short = omega (arith, a.short, length-append body front);
    })

pub exceeded_stays : (w : List (List ℕ)) (front : List ℕ) → Feeds front (record { waiting = w; part = Exceeded }) (record { waiting = w; part = Exceeded })
exceeded_stays w front fed taken h = record {
  rest = h.rest ++ front;
  begins = begins_on front h.begins;
  over = record {
    earlier = h.over.earlier;
    last = h.over.last;
    size = h.over.size;
    more = h.over.more ++ front;
    short = h.over.short;
    word_fits = h.over.word_fits;
    over = h.over.over;
    spelled = ap (λ (s : List ℕ). s ++ front) h.over.spelled ∙ append_assoc (whole h.over.earlier) (header h.over.last h.over.size ++ h.over.more) front
        ∙ ap (λ (s : List ℕ). whole h.over.earlier ++ s) (append_assoc (header h.over.last h.over.size) h.over.more front);
  };
}

pub feeds_nothing : (old : Frames) → Feeds [] old old
feeds_nothing old fed taken h =
    let After : List ℕ → Type 0 = λ bytes. IsAfter bytes taken old in
    subst After (sym (append-nil fed)) h

pub feeds_then : (a b : List ℕ) (old middle new : Frames) → Feeds a old middle → Feeds b middle new → Feeds (a ++ b) old new
feeds_then a b old middle new f g fed taken h =
    let After : List ℕ → Type 0 = λ bytes. IsAfter bytes taken new in
    subst After (append_assoc fed a b) (g (fed ++ a) taken (f fed taken h))
