-- Laws of frames, proved.
use Rattle.std.proofs.Common.{◌≡◌, ◌≢◌, ℕ, List, [], ◌∷◌, ◌++◌, inl, inr, Result, Ok, Err, refl, sym, ap, subst, ◌∙◌, append_assoc, append-nil}
use Rattle.std.specs.List.{flat_map}
use Rattle.rpc_wire.specs.Frames.{message, marked}
use Rattle.rpc_wire.specs.FrameReading.{Part, Header, Inside, Exceeded, Frames, Stands, IsAfter, HasFed}
use Rattle.rpc_wire.specs.FrameLaws.{WholeAreSplit, Act, Feed, Take, Nothing, DoEach, fed_in, taken_in, AreOf, AllAreGotten, CuttingIsFree}
use Rattle.rpc_wire.specs.declared.frames.FrameFault.{FrameFault}
use Rattle.rpc_wire.specs.declared.frames.FrameFault.TheVariants as fault
use Rattle.rpc_wire.proofs.FrameLemmas.{one_split, one_too_long, not_both}
use Rattle.rpc_wire.proofs.FrameSteps.{header_rest, begun_nothing}

pub whole_are_split : WholeAreSplit
whole_are_split framed fit =
    let r = header_rest begun_nothing in
    record { begins = record { framed = framed; fit = fit; are = refl; spelled = sym (append-nil (flat_map marked framed)) }; no_message = r.no_message; no_over = r.no_over }

pub of_part : (p : Part) (fed : List ℕ) (ms : List (List ℕ)) → Stands fed ms p → AreOf fed ms
of_part (Header body begun) fed ms h = inl (h.0, h.1)
of_part (Inside body last left) fed ms h = inl (h.0, h.1)
of_part Exceeded fed ms h = inr h

one_row : (fed : List ℕ) (m n : List (List ℕ)) → AreOf fed m → AreOf fed n → m ≡ n
one_row fed m n (inl f) (inl g) = (one_split fed m n f.0 g.0 f.1 g.1).0
one_row fed m n (inl f) (inr g) = absurd (not_both fed m n f.0 f.1 g)
one_row fed m n (inr f) (inl g) = absurd (not_both fed n m g.0 g.1 f)
one_row fed m n (inr f) (inr g) = one_too_long fed m n f g

has_fed : (result : Result (Unit {0}) FrameFault) (fed : List ℕ) (taken : List (List ℕ)) (new : Frames) → (result ≢ Err fault.Memory) → HasFed result fed taken new → IsAfter fed taken new
has_fed (Ok u) fed taken new n h = h.0
has_fed (Err fault.TooLong) fed taken new n h = h.0
has_fed (Err fault.Memory) fed taken new n h = absurd (n refl)

takes : (old new : Frames) (message fed : List ℕ) (taken : List (List ℕ)) → old.waiting ≡ message ∷ new.waiting → new.part ≡ old.part → IsAfter fed taken old → IsAfter fed (taken ++ message ∷ []) new
takes old new message fed taken w p h =
    let row : taken ++ old.waiting ≡ (taken ++ message ∷ []) ++ new.waiting = ap (λ (l : List (List ℕ)). taken ++ l) w ∙ sym (append_assoc taken (message ∷ []) new.waiting) in
    let Row : List (List ℕ) → Type 0 = λ l. Stands fed l old.part in
    let At : Part → Type 0 = λ q. Stands fed ((taken ++ message ∷ []) ++ new.waiting) q in
    subst At (sym p) (subst Row row h)

run : (acts : List Act) (start reader : Frames) (fed : List ℕ) (taken : List (List ℕ)) → IsAfter fed taken start → DoEach acts start reader → IsAfter (fed ++ fed_in acts) (taken ++ taken_in acts) reader
run [] start reader fed taken h d =
    let After : Frames → Type 0 = λ r. IsAfter fed taken r in
    let Fed : List ℕ → Type 0 = λ bytes. IsAfter bytes taken reader in
    let Taken : List (List ℕ) → Type 0 = λ l. IsAfter (fed ++ []) l reader in
    subst Taken (sym (append-nil taken)) (subst Fed (sym (append-nil fed)) (subst After (sym d) h))
run (Feed piece ∷ acts) start reader fed taken h d =
    let Fed : List ℕ → Type 0 = λ bytes. IsAfter bytes (taken ++ taken_in acts) reader in
    let next : IsAfter (fed ++ piece) taken d.0 = has_fed d.1.0 (fed ++ piece) taken d.0 d.1.1 (d.1.2 fed taken h) in
    subst Fed (append_assoc fed piece (fed_in acts)) (run acts d.0 reader (fed ++ piece) taken next d.2)
run (Take message ∷ acts) start reader fed taken h d =
    let Taken : List (List ℕ) → Type 0 = λ l. IsAfter (fed ++ fed_in acts) l reader in
    let next : IsAfter fed (taken ++ message ∷ []) d.0 = takes start d.0 message fed taken d.1.0 d.1.1 h in
    subst Taken (append_assoc taken (message ∷ []) (taken_in acts)) (run acts d.0 reader fed (taken ++ message ∷ []) next d.2)
run (Nothing ∷ acts) start reader fed taken h d =
    let After : Frames → Type 0 = λ r. IsAfter fed taken r in
    run acts d.0 reader fed taken (subst After (sym d.1) h) d.2

pub all_are_gotten : AllAreGotten
all_are_gotten acts start reader h d =
    let after : IsAfter (fed_in acts) (taken_in acts) reader = run acts start reader [] [] h d in
    (after, of_part reader.part (fed_in acts) (taken_in acts ++ reader.waiting) after)

pub cutting_is_free : CuttingIsFree
cutting_is_free acts others start reader second other h d k f e =
    let a = (all_are_gotten acts start reader h d).1 in
    let b = (all_are_gotten others second other k f).1 in
    let Of : List ℕ → Type 0 = λ bytes. AreOf bytes (taken_in acts ++ reader.waiting) in
    one_row (fed_in others) (taken_in acts ++ reader.waiting) (taken_in others ++ other.waiting) (subst Of e a) b
