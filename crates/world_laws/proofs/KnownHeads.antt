-- The heads that left an agent are over records that it knows.
use Rattle.std.proofs.Common.{◌≡◌, ⊎_elim, ℕ, ◌+◌, ◌<◌, ◌≤◌, ◌^◌, List, [], ◌∷◌, ◌++◌, length, Option, Some, None, refl, sym, ap, ◌∙◌, subst, arith, Contains, append_assoc}
use Rattle.std.specs.List.{AllByRecursion}
use Rattle.std.proofs.lemmas.List.Elements.{Contains-append_right}
use Rattle.ivy_base.specs.declared.key.PubKey.{PubKey}
use Rattle.wire_model.specs.Xdr.{opaque, word}
use Rattle.wire_model.proofs.OneReading.{◌▷◌, always, one_raw, one_word}
use Rattle.log_model.proofs.Lists.{each, each_from, here, in_cons, there}
use Rattle.log_model.proofs.Part.{Numbered, numbered, numbers_below, numbers_from}
use Rattle.log_model.specs.Chain.{IsChain}
use Rattle.log_model.specs.Rank.{own_entry}
use Rattle.log_model.specs.Record.{Record}
use Rattle.log_model.specs.Spelling.{head_block, head_tag}
use Rattle.log_model.specs.Vector.{Stamp, reach}
use Rattle.log_model.specs.View.{View}
use Rattle.hash_signature_model.specs.Signer.{Signer}
use Rattle.turn_model.specs.Known.{EndsAt}
use Rattle.world_model.specs.Agents.{hss_signing}
use Rattle.world_laws.specs.Invariant.{AreSignedOnce, NamesOneOf, sealed_with}
use Rattle.world_laws.proofs.SignedHeads.{from_map}
use Rattle.agent_model.specs.Agent.{own_key}

-- a head tells the number of the record that it is over
seq_told : (owner : PubKey) (s t : Stamp) (a b : List ℕ) → length owner.0 ≡ 60 → s.seq < 2 ^ 32 → t.seq < 2 ^ 32 → head_block owner s a ≡ head_block owner t b → s.seq ≡ t.seq
seq_told owner s t a b size small small_too same = ap (λ (x : (Unit {0} × List ℕ) × ℕ). x.1) read.0
  where
    front : ℕ → List ℕ
    front n = (head_tag ++ owner.0) ++ word n

    read : ◌≡◌ {A = (Unit {0} × List ℕ) × ℕ} ((tt, owner.0), s.seq) ((tt, owner.0), t.seq) × (s.name.0 ++ opaque a ≡ t.name.0 ++ opaque b)
    read = (always head_tag ▷ one_raw 60 ▷ one_word).one ((tt, owner.0), s.seq) ((tt, owner.0), t.seq) (s.name.0 ++ opaque a) (t.name.0 ++ opaque b)
        ((tt, size), small) ((tt, size), small_too)
        (sym (append_assoc (front s.seq) s.name.0 (opaque a)) ∙ same ∙ append_assoc (front t.seq) t.name.0 (opaque b))

-- the first of numbered records are those of low numbers
low_is_first : (n : ℕ) (xs ys : List Record) → Numbered n (xs ++ ys) → (r : Record) → Contains (xs ++ ys) r → r.seq < n + length xs → Contains xs r
low_is_first n [] ys h r c low = let high = each (λ (q : Record). n ≤ q.seq) ys r (numbers_from n ys h n (omega arith)) c in absurd (omega (arith, high, low))
low_is_first n (x ∷ xs) ys h r c low = ⊎_elim
    (λ e. subst (Contains (x ∷ xs)) e (here x xs))
    (λ later. there x xs r (low_is_first (n + 1) xs ys h.1 r later (omega (arith, low))))
    (in_cons x (xs ++ ys) r c)

numbered_first : (n : ℕ) (xs ys : List Record) → Numbered n (xs ++ ys) → Numbered n xs
numbered_first n [] ys h = tt
numbered_first n (x ∷ xs) ys h = (h.0, numbered_first (n + 1) xs ys h.1)

-- a log goes no further than its records
reach_short : (o : Option Stamp) (log : List Record) → EndsAt o log → Numbered 1 log → reach o < 1 + length log
reach_short None log none h = omega arith
reach_short (Some t) log ends h =
    let low = each (λ (q : Record). q.seq < 1 + length log) log ends.1 (numbers_below 1 (1 + length log) log refl h) (subst (λ l. Contains l ends.1) (sym ends.2) (Contains-append_right ends.0 (ends.1 ∷ []) ends.1 (here ends.1 []))) in
    let at : ends.1.seq ≡ t.seq = ap (λ (s : Stamp). s.seq) ends.3 in
    omega (arith, low, at)

-- Heads over records of a chain, up to so far, are over those that it begins with up to there.
pub heads_low : (signer : Signer) (made far : ℕ) (heads : List (List ℕ)) (view : View) (owner : PubKey) (o : Option Stamp) (log rest : List Record) → length (own_key hss_signing signer).0 ≡ 60 → far < 2 ^ 32 → AreSignedOnce signer made far heads
    → IsChain view owner (log ++ rest) → AllByRecursion (λ r. r.seq < 2 ^ 32) (log ++ rest) → EndsAt o log → far ≤ reach o → AllByRecursion (NamesOneOf signer (log ++ rest)) heads → AllByRecursion (NamesOneOf signer log) heads
heads_low signer made far heads view owner o log rest size small signed chain short ends is_far named = each_from (NamesOneOf signer log) heads (λ b c.
    let over = each (NamesOneOf signer (log ++ rest)) heads b named c in
    let found = from_map (sealed_with signer) signed.signed b (subst (λ (l : List (List ℕ)). Contains l b) signed.spelled c) in
    let low = (each (λ (h : ℕ × Stamp). (h.0 < made) × (h.1.seq ≤ far)) signed.signed found.0 signed.below found.1).1 in
    let same : over.1.seq ≡ found.0.1.seq = seq_told (own_key hss_signing signer) (own_entry over.1).1 found.0.1 _ _ size (each (λ (r : Record). r.seq < 2 ^ 32) (log ++ rest) over.1 short over.2) (omega (arith, low, small)) (sym over.3 ∙ found.2) in
    let end = reach_short o log ends (numbered_first 1 log rest (numbered view owner (log ++ rest) chain)) in
    (over.0, over.1, low_is_first 1 log rest (numbered view owner (log ++ rest) chain) over.1 over.2 (omega (arith, same, low, is_far, end)), over.3))
