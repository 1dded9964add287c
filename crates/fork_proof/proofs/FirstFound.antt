-- Where no names collide, the proof is found of the first two heads that are shown as forked.
use Rattle.std.proofs.Common.{◌≡◌, ◌⊎◌, ℕ, zero, suc, ◌+◌, ◌-◌, ◌<◌, ◌≤◌, Bool, true, false, cond, ◌&&◌, List, [], ◌∷◌, ◌++◌, length, Option, Some, None, option_map, inl, inr, refl, sym, ap, ◌∙◌, subst, arith, append_assoc, Contains}
use Rattle.std.specs.Prelude.{MatchOption, IsTrue, nat_lt, nat_le}
use Rattle.std.specs.List.{AllByRecursion, slice_get}
use Rattle.std.specs.Ordering.{eq_by_cmp}
use Rattle.std.proofs.lemmas.Bool.{le-leb, lt-ltb, ltb-true}
use Rattle.std.proofs.lemmas.List.{append-nil}
use Rattle.ivy_base.specs.declared.key.Key.{Key}
use Rattle.ivy_base.specs.declared.key.PubKey.{PubKey}
use Rattle.ivy_base.specs.Naming.{name, head_key_of, owner_cmp, IsCollisionFree}
use Rattle.tree_model.specs.Tree.{same_key}
use Rattle.tree_model.proofs.Keys.{same_key_is, same_key_itself}
use Rattle.log_model.proofs.Lists.{here as first_in, there, in_cons, in_nothing}
use Rattle.log_model.specs.Heads.{owner_in}
use Rattle.log_model.specs.Vector.{Stamp}
use Rattle.log_model.specs.Record.{Record}
use Rattle.dht_ids.specs.declared.judge.Judged.{Judged}
use Rattle.dhash_model.specs.Signed.{are_bytes, hss_judged}
use Rattle.log_heads.proofs.SignedHeads.{signed_heads}
use Rattle.fork_model.specs.Bytes.{fork_bytes, most_blocks}
use Rattle.fork_model.specs.Before.{Before, TellsRecords}
use Rattle.fork_model.specs.Finding.{Tip, Way, ◌>>=◌, tip_with, tip_of, same_owner, block_named, step_down, way_down, proof_by, are_near, proof_of_fork, fork_of, first_pair, find_fork}
use Rattle.fork_proof.specs.Forms.{ForkProof, Head, IsHead, IsSigned, IsProof, IsLink, LeadsDown, here, down, bytes_of_head, proof_bytes}
use Rattle.fork_proof.specs.Checks.{IsShown}
use Rattle.fork_proof.specs.Firsts.{Pair, IsEarlier, AreHeadsAt, in_order as as_they_stand, turned, IsShownAt, IsFirst}
use Rattle.fork_proof.specs.Laws.{FoundIsFirst}
use Rattle.fork_proof.proofs.SignedTips.{tip_said}
use Rattle.fork_proof.proofs.WaysDown.{told, step_found, way_on}
use Rattle.fork_proof.proofs.FirstPairs.{IsFirstPair, IsNoPair, first_two, of_made, pair_made}
use Rattle.fork_proof.proofs.FoundProofs.{some_same, none_some, named_is, IsTip, IsProofBy, IsOfPair, as_given, swapped, tip_from, in_order}

-- ---- blocks

some_named : (k : Key) (blocks : List (List ℕ)) (b : List ℕ) → Contains blocks b → name b ≡ k → (c : List ℕ) × Contains blocks c × (block_named blocks k ≡ Some c)
some_named k [] b within e = absurd (in_nothing b within)
some_named k (x ∷ xs) b within e = by (same_key (name x) k) refl (λ later. some_named k xs b later e)
  where
    by : (t : Bool) → same_key (name x) k ≡ t → (Contains xs b → (c : List ℕ) × Contains xs c × (block_named xs k ≡ Some c)) → (c : List ℕ) × Contains (x ∷ xs) c × (cond t (Some x) (block_named xs k) ≡ Some c)
    by true s rest = (x, first_in x xs, refl)
    by false s rest = elim (in_cons x xs b within) [
      | inl same ↦
          let yes : same_key (name x) k ≡ true = ap (λ (q : Key). same_key q k) (ap name same ∙ e) ∙ same_key_itself k in
          absurd (cc)
      | inr later ↦ let w = rest later in (w.0, there x xs w.0 w.1, w.2)
    ]

module _ (before : Before) (tells : TellsRecords before) (blocks : List (List ℕ)) (apart : IsCollisionFree blocks) where
  -- ---- the way down

  stepped : (owner : PubKey) (seq : ℕ) (k : Key) (block : List ℕ) (r : Record) → Contains blocks block → IsLink owner seq k block r → Some (block, r.prev) ≡ step_down before blocks owner seq k
  stepped owner seq k block r within link =
      let named : name block ≡ k = ap name link.read.spelled.spelled ∙ sym link.read.spelled.fits.named ∙ link.name_is in
      let w = some_named k blocks block within named in
      let same : block ≡ w.0 = apart block w.0 within w.1 (named ∙ sym (named_is blocks k w.0 w.2)) in
      ap (option_map (λ (prev : Key). (block, prev))) (told before tells owner seq block (Some r.prev) (r, link.read, link.seq_is, refl))
      ∙ step_found before blocks owner seq k block (ap Some same ∙ sym w.2)

  module _ (tip : Tip) where
    abbrev way_of : List (List ℕ) → Key → Way
    way_of passed last = record { blocks = passed; last = last }

    way_found : {seq : ℕ} {k last : Key} {more : List (List ℕ)} → LeadsDown tip.owner seq k more last → (n : ℕ) (passed : List (List ℕ)) → seq + n ≡ tip.newest.seq → AllByRecursion (Contains blocks) more
        → Some (way_of passed k) ≡ way_down before blocks tip n → Some (way_of (passed ++ more) last) ≡ way_down before blocks tip (n + length more)
    way_found (here {seq} {name = k}) n passed number all leads =
        let same : n ≡ n + 0 = omega arith in
        ap (λ (l : List (List ℕ)). Some (way_of l k)) (append-nil passed) ∙ leads ∙ ap (way_down before blocks tip) same
    way_found (down {seq} {name = k} {last} {block} {blocks = more} r link rest) n passed number all leads =
        let at : suc seq ≡ tip.newest.seq - n = omega (arith, number) in
        let same : n + 1 + length more ≡ n + suc (length more) = omega arith in
        let next : Some (way_of (passed ++ block ∷ []) r.prev) ≡ way_down before blocks tip (n + 1) =
        way_on before blocks tip n (suc seq) (way_of passed k) (Some (block, r.prev)) at leads (stepped tip.owner (suc seq) k block r all.0 link) in
        ap (λ (l : List (List ℕ)). Some (way_of l last)) (sym (append_assoc passed (block ∷ []) more))
        ∙ way_found rest (n + 1) (passed ++ block ∷ []) (omega (arith, number)) all.1 next
        ∙ ap (way_down before blocks tip) same

  -- ---- two heads

  abbrev tip_for : ForkProof → Head → Tip
  tip_for p h = record { bytes = bytes_of_head p.owner h; owner = p.owner; newest = h.newest }

  owner_itself : (o : PubKey) → eq_by_cmp owner_cmp o o ≡ true
  owner_itself o = same_key_itself (record { 0 = o.0 })

  shown_found : (p : ForkProof) → IsProof p → IsShown p → AllByRecursion (Contains blocks) p.blocks → proof_of_fork before blocks (tip_for p p.low) (tip_for p p.high) ≡ Some (proof_bytes p)
  shown_found p fits shown among = by (same_owner (tip_for p p.low) (tip_for p p.high)) (nat_le (p.high.newest.seq - p.low.newest.seq) most_blocks) (owner_itself p.owner) few
    where
      count : 0 + length p.blocks ≡ p.high.newest.seq - p.low.newest.seq
      count = omega (arith, fits.count)

      few : nat_le (p.high.newest.seq - p.low.newest.seq) most_blocks ≡ true
      few = le-leb (p.high.newest.seq - p.low.newest.seq) most_blocks (omega (arith, fits.few, count))

      way : Some (way_of (tip_for p p.high) p.blocks shown.last) ≡ way_down before blocks (tip_for p p.high) (p.high.newest.seq - p.low.newest.seq)
      way = way_found (tip_for p p.high) shown.leads 0 [] (omega arith) among refl ∙ ap (way_down before blocks (tip_for p p.high)) count

      elsewhere : (t : Bool) → same_key shown.last p.low.newest.name ≡ t → cond t None (Some (proof_bytes p)) ≡ Some (proof_bytes p)
      elsewhere true same = absurd (shown.other (same_key_is shown.last p.low.newest.name same))
      elsewhere false same = refl

      by : (a b : Bool) → a ≡ true → b ≡ true
          → cond (a && b) (way_down before blocks (tip_for p p.high) (p.high.newest.seq - p.low.newest.seq) >>= proof_by (tip_for p p.low) (tip_for p p.high)) None ≡ Some (proof_bytes p)
      by true true e f = ap (λ (o : Option Way). o >>= proof_by (tip_for p p.low) (tip_for p p.high)) (sym way) ∙ elsewhere (same_key shown.last p.low.newest.name) refl
      by true false e f = absurd (cc f)
      by false b e f = absurd (cc e)

  fork_found : (p : ForkProof) → IsProof p → IsShown p → AllByRecursion (Contains blocks) p.blocks → fork_of before blocks (tip_for p p.low) (tip_for p p.high) ≡ Some (proof_bytes p)
  fork_found p fits shown among = by (nat_lt p.high.newest.seq p.low.newest.seq) refl
    where
      by : (t : Bool) → nat_lt p.high.newest.seq p.low.newest.seq ≡ t
          → cond t (proof_of_fork before blocks (tip_for p p.high) (tip_for p p.low)) (proof_of_fork before blocks (tip_for p p.low) (tip_for p p.high)) ≡ Some (proof_bytes p)
      by true less = absurd (let below = ltb-true p.high.newest.seq p.low.newest.seq less in omega (arith, below, fits.count))
      by false less = shown_found p fits shown among

  turned_found : (p : ForkProof) → p.low.newest.seq < p.high.newest.seq → IsProof p → IsShown p → AllByRecursion (Contains blocks) p.blocks
      → fork_of before blocks (tip_for p p.high) (tip_for p p.low) ≡ Some (proof_bytes p)
  turned_found p less fits shown among = by (nat_lt p.low.newest.seq p.high.newest.seq) (lt-ltb p.low.newest.seq p.high.newest.seq less)
    where
      by : (t : Bool) → t ≡ true → cond t (proof_of_fork before blocks (tip_for p p.low) (tip_for p p.high)) (proof_of_fork before blocks (tip_for p p.high) (tip_for p p.low)) ≡ Some (proof_bytes p)
      by true e = shown_found p fits shown among
      by false e = absurd (cc e)

  -- ---- heads

  tip_known : (p : ForkProof) (h : Head) → IsHead p.owner h → IsSigned p.owner h → IsTrue (are_bytes (bytes_of_head p.owner h)) → tip_of (bytes_of_head p.owner h) ≡ Some (tip_for p h)
  tip_known p h is signed octets =
      let said : Judged = record { seq = h.newest.seq; name = h.newest.name } in
      let judged : hss_judged (head_key_of p.owner) (bytes_of_head p.owner h) ≡ Some said =
      (signed_heads (head_key_of p.owner) (bytes_of_head p.owner h) said).1 (record { owner = p.owner; signature = h.signature; octets = octets; head = is; key_is = refl; accepted = signed }) in
      sym (tip_said (bytes_of_head p.owner h) p.owner h.newest h.signature is (Some said) (sym judged))

  -- of two heads by their bytes
  abbrev of_bytes : List ℕ → List ℕ → Option (List ℕ)
  of_bytes = of_made tip_of (fork_of before blocks)

  of_known : (a b : List ℕ) (x y : Tip) (o : Option (List ℕ)) → tip_of a ≡ Some x → tip_of b ≡ Some y → fork_of before blocks x y ≡ o → of_bytes a b ≡ o
  of_known a b x y o f g e =
      ap (λ (t : Option Tip). t >>= (λ z. tip_of b >>= fork_of before blocks z)) f ∙ ap (λ (t : Option Tip). t >>= fork_of before blocks x) g ∙ e

  module _ (heads : List (List ℕ)) (octets : (h : List ℕ) → Contains heads h → IsTrue (are_bytes h)) where
    in_heads : (xs : List (List ℕ)) (k : ℕ) (h : List ℕ) → slice_get xs k ≡ Some h → Contains xs h
    in_heads [] k h e = absurd (none_some e)
    in_heads (x ∷ xs) zero h e = subst (λ (z : List ℕ). Contains (x ∷ xs) z) (some_same e) (first_in x xs)
    in_heads (x ∷ xs) (suc k) h e = there x xs h (in_heads xs k h e)

    -- what is shown of two heads is found of them
    abbrev low_of : ForkProof → List ℕ
    low_of p = bytes_of_head p.owner p.low

    abbrev high_of : ForkProof → List ℕ
    high_of p = bytes_of_head p.owner p.high

    abbrev AreFound : Pair → List ℕ → Type 0
    AreFound at bytes = (x : List ℕ) × (y : List ℕ) × (slice_get heads at.first ≡ Some x) × (slice_get heads at.second ≡ Some y) × (of_bytes x y ≡ Some bytes)

    finds : (at : Pair) (p : ForkProof) → IsShownAt heads blocks at p → AreFound at (proof_bytes p)
    finds at p s = by s.heads_are
      where
        low_known : Contains heads (low_of p) → tip_of (low_of p) ≡ Some (tip_for p p.low)
        low_known within = tip_known p p.low s.fits.low s.shown.signed.low (octets (low_of p) within)

        high_known : Contains heads (high_of p) → tip_of (high_of p) ≡ Some (tip_for p p.high)
        high_known within = tip_known p p.high s.fits.high s.shown.signed.high (octets (high_of p) within)

        by : AreHeadsAt heads at p → AreFound at (proof_bytes p)
        by (as_they_stand f g) = (
          low_of p,
          high_of p,
          f,
          g,
          of_known (low_of p) (high_of p) (tip_for p p.low) (tip_for p p.high) (Some (proof_bytes p)) (low_known (in_heads heads at.first (low_of p) f)) (high_known (in_heads heads at.second (high_of p) g))
              (fork_found p s.fits s.shown s.among),
        )
        by (turned less f g) = (
          high_of p,
          low_of p,
          f,
          g,
          of_known (high_of p) (low_of p) (tip_for p p.high) (tip_for p p.low) (Some (proof_bytes p)) (high_known (in_heads heads at.first (high_of p) f)) (low_known (in_heads heads at.second (low_of p) g))
              (turned_found p less s.fits s.shown s.among),
        )

    -- and what is found of two heads is shown of them
    abbrev IsProofAt : Pair → List ℕ → Type 0
    IsProofAt at bytes = (p : ForkProof) × IsShownAt heads blocks at p × (bytes ≡ proof_bytes p)

    by_tips : (at : Pair) (x y bytes : List ℕ) (a b : Tip) → at.first < at.second → slice_get heads at.first ≡ Some x → slice_get heads at.second ≡ Some y → a.bytes ≡ x → b.bytes ≡ y → IsTip a → IsTip b
        → fork_of before blocks a b ≡ Some bytes → IsProofAt at bytes
    by_tips at x y bytes a b two f g one other is_a is_b e = by (in_order before tells blocks bytes a b is_a is_b e)
      where
        with_heads : {low high : List ℕ} {m n : Stamp} (p : ForkProof) → IsProofBy blocks low high m n bytes p → AreHeadsAt heads at p → IsProofAt at bytes
        with_heads p w heads_are = (p, record { two = two; heads_are = heads_are; fits = w.fits; shown = w.shown; among = w.among }, w.spelled)

        by : IsOfPair blocks bytes a b → IsProofAt at bytes
        by (as_given w) = with_heads w.0 w.1 (as_they_stand (f ∙ ap Some (sym one ∙ w.1.low_is)) (g ∙ ap Some (sym other ∙ w.1.high_is)))
        by (swapped less w) =
            let below : w.0.low.newest.seq < w.0.high.newest.seq = omega (arith, less, ap (λ (s : Stamp). s.seq) w.1.low_newest, ap (λ (s : Stamp). s.seq) w.1.high_newest) in
            with_heads w.0 w.1 (turned below (f ∙ ap Some (sym one ∙ w.1.high_is)) (g ∙ ap Some (sym other ∙ w.1.low_is)))

    is_shown : (at : Pair) (x y bytes : List ℕ) → at.first < at.second → slice_get heads at.first ≡ Some x → slice_get heads at.second ≡ Some y → of_bytes x y ≡ Some bytes → IsProofAt at bytes
    is_shown at x y bytes two f g e = by (hss_judged (head_key_of (owner_in x)) x) refl (hss_judged (head_key_of (owner_in y)) y) refl e
      where
        by : (o : Option Judged) → hss_judged (head_key_of (owner_in x)) x ≡ o → (p : Option Judged) → hss_judged (head_key_of (owner_in y)) y ≡ p
            → (option_map (tip_with x (owner_in x)) o >>= (λ a. option_map (tip_with y (owner_in y)) p >>= fork_of before blocks a)) ≡ Some bytes → IsProofAt at bytes
        by None h p k e = absurd (none_some e)
        by (Some said) h None k e = absurd (none_some e)
        by (Some said) h (Some other) k e =
            by_tips at x y bytes (tip_with x (owner_in x) said) (tip_with y (owner_in y) other) two f g refl refl (tip_from x said h) (tip_from y other k) e

    first_shown : IsFirst heads blocks (find_fork before heads blocks)
    first_shown = subst (IsFirst heads blocks) (sym (pair_made tip_of (fork_of before blocks) heads)) (by (first_pair of_bytes heads) (first_two of_bytes heads))
      where
        none : IsNoPair of_bytes heads → (at : Pair) (p : ForkProof) → IsShownAt heads blocks at p → ⊥
        none no_pair at p s = let w = finds at p s in none_some (sym (no_pair at.first at.second w.0 w.1 s.two w.2 w.3) ∙ w.4)

        by : (o : Option (List ℕ)) → MatchOption o (IsNoPair of_bytes heads) (IsFirstPair of_bytes heads) → IsFirst heads blocks o
        by None no_pair = none no_pair
        by (Some bytes) first =
            let at : Pair = record { first = first.first; second = first.second } in
            let is = is_shown at first.one first.other bytes first.two first.at_first first.at_second first.found in (
              at,
              is.0,
              is.1,
              is.2,
              λ other q s sooner. (let w = finds other q s in none_some (sym (first.earlier other.first other.second w.0 w.1 s.two w.2 w.3 sooner) ∙ w.4)),
            )

pub found_is_first : FoundIsFirst
found_is_first before heads blocks tells octets apart = first_shown before tells blocks apart heads octets
