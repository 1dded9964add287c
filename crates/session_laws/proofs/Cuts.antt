-- A chain through the floor's record, cut at the held record: what is above goes on from there, and by log_records is sound and onward.
use Rattle.std.proofs.Common.{◌≡◌, inl, inr, ℕ, ◌+◌, ◌<◌, List, [], ◌∷◌, ◌++◌, length, Option, Some, None, refl, sym, ap, ◌∙◌, subst, arith, append_assoc, Contains}
use Rattle.std.specs.Prelude.{IfSome}
use Rattle.std.proofs.lemmas.List.{length-append}
use Rattle.std.proofs.lemmas.List.Elements.{Contains-append_cases}
use Rattle.ivy_base.specs.declared.key.Key.{Key}
use Rattle.ivy_base.specs.declared.key.PubKey.{PubKey}
use Rattle.ivy_base.specs.Naming.{IsCollisionFree, head_key_of}
use Rattle.log_model.specs.View.{View}
use Rattle.log_model.specs.Vector.{Stamp, reach, Dominates, with_entry}
use Rattle.log_model.specs.Record.{Record}
use Rattle.log_model.specs.Rank.{own_entry, full_vector}
use Rattle.log_model.specs.Spelling.{no_name}
use Rattle.log_model.specs.Chain.{IsGood, GoesOn, IsChain, LinkedFrom}
use Rattle.log_model.specs.Standing.{StandsAmong, Stand}
use Rattle.log_model.proofs.Lists.{each, each_left, each_right}
use Rattle.log_model.proofs.Part.{Numbered, numbered, numbers_below, chain_front}
use Rattle.log_model.specs.Fetched.{Edge, EndsAtStamp, as_edge, GoesOnFrom, KnowsEdge, HasRecord, OldestNames, PassesFloor}
use Rattle.log_records.proofs.Batches.{has_passed}
use Rattle.causal_order.specs.Available.{above}
use Rattle.causal_order.proofs.Starts.{above_from, above_less}
use Rattle.turn_model.specs.Known as known
use Rattle.turn_model.specs.Candidates.{PassesThrough}
use Rattle.turn_laws.proofs.LinkedLogs.{divided, last_seq, linked_left}
use Rattle.turn_laws.proofs.OneChain.{one_chain}
use Rattle.session_laws.proofs.ReadBack.{newest_of, linked_right, long}

-- ---- lists of records

-- those of numbers above the lower ones
above_low : (b n : ℕ) (low high : List Record) → Numbered n (low ++ high) → n + length low ≡ b + 1 → above b (low ++ high) ≡ high
above_low b n [] high h size = above_from b n high h (omega (arith, size))
above_low b n (x ∷ low) high h size = above_less b x (low ++ high) (let first = h.0 in omega (arith, first, size)) ∙ above_low b (n + 1) low high h.1 (omega (arith, size))

numbered_left : (n : ℕ) (xs ys : List Record) → Numbered n (xs ++ ys) → Numbered n xs
numbered_left n [] ys h = tt
numbered_left n (x ∷ xs) ys h = (h.0, numbered_left (n + 1) xs ys h.1)

-- what ends at a stamp ends there without some in front
ends_later : (t : Stamp) (low high : List Record) → EndsAtStamp t (low ++ high) → (high ≡ [] → ⊥) → EndsAtStamp t high
ends_later t [] high ends some = ends
ends_later t (x ∷ []) [] ends some = absurd (some refl)
ends_later t (x ∷ y ∷ low) [] ends some = absurd (some refl)
ends_later t (x ∷ low) (r ∷ rs) ends some = ends_later t low (r ∷ rs) (by (low ++ r ∷ rs) ends.0 ends.1 ends.2 ends.3 (no_end low)) some
  where
    no_end : (xs : List Record) → xs ++ r ∷ rs ≡ [] → ⊥
    no_end [] e = cc e
    no_end (y ∷ xs) e = cc e

    by : (rest before : List Record) (last : Record) → x ∷ rest ≡ before ++ last ∷ [] → (own_entry last).1 ≡ t → (rest ≡ [] → ⊥) → EndsAtStamp t rest
    by rest [] last e same more = absurd (more (cc e))
    by rest (b ∷ before) last e same more = (before, last, cc e, same)

-- ---- chains

pub linked_chain : (view : View) (owner : PubKey) (chain : List Record) → IsChain view owner chain → LinkedFrom owner 1 no_name chain
linked_chain view owner [] c = tt
linked_chain view owner (r ∷ rs) c =
    (c.0.owned, c.0.spelled, c.1.seq, c.1.prev, subst (λ (n : ℕ). LinkedFrom owner (n + 1) r.name rs) c.1.seq (linked_after r rs c.2))
  where
    linked_after : (p : Record) (more : List Record) → GoesOn view owner p more → LinkedFrom owner (p.seq + 1) p.name more
    linked_after p [] g = tt
    linked_after p (q ∷ more) g =
        (g.0.owned, g.0.spelled, g.1.seq, g.1.prev, subst (λ (n : ℕ). LinkedFrom owner (n + 1) q.name more) g.1.seq (linked_after q more g.2))

-- what is after a record of a chain goes on from it
goes_behind : (view : View) (owner : PubKey) (before : List Record) (p : Record) (rs : List Record) → IsChain view owner (before ++ p ∷ rs) → IsGood view owner p × GoesOn view owner p rs
goes_behind view owner [] p rs c = (c.0, c.2)
goes_behind view owner (x ∷ before) p rs c = after x before c.2
  where
    after : (q : Record) (xs : List Record) → GoesOn view owner q (xs ++ p ∷ rs) → IsGood view owner p × GoesOn view owner p rs
    after q [] g = (g.0, g.2)
    after q (y ∷ xs) g = after y xs g.2

-- ---- where the fetch of a log starts

-- one of the known records is the held one, and what is known of that is its own edge
abbrev pub StartsIn : Option Stamp → Option Edge → List Record → Type 0
StartsIn None edge knew = Unit {0}
StartsIn (Some t) edge knew = (r : Record) × Contains knew r × ((own_entry r).1 ≡ t) × IfSome edge (λ e. e ≡ as_edge r)

module _ (view : View) (owner : PubKey) where
  knows_edge : (t : Stamp) (edge : Option Edge) (p r : Record) → p.owner ≡ r.owner → (own_entry p).1 ≡ t → IfSome edge (λ e. e ≡ as_edge p) → Dominates (full_vector r) (full_vector p) → KnowsEdge (Some t) edge r
  knows_edge t None p r owned at knows grows = tt
  knows_edge t (Some e) p r owned at knows grows =
      subst (λ (x : Edge). Dominates (full_vector r) (with_entry x.vector (head_key_of r.owner, t))) (sym knows)
      (subst (λ (s : Stamp). Dominates (full_vector r) (with_entry p.vector (head_key_of r.owner, s))) at
      (subst (λ (o : PubKey). Dominates (full_vector r) (with_entry p.vector (head_key_of o, (own_entry p).1))) owned grows))

  goes_from : (t : Stamp) (edge : Option Edge) (p : Record) (xs : List Record) → p.owner ≡ owner → (own_entry p).1 ≡ t → IfSome edge (λ e. e ≡ as_edge p) → GoesOn view owner p xs
      → GoesOnFrom view (Some t) edge xs × OldestNames (Some t) xs
  goes_from t edge p [] owned at knows g = (tt, tt)
  goes_from t edge p (r ∷ rs) owned at knows g =
      let mine : owner ≡ r.owner = sym g.0.owned in (
        (
          subst (λ (o : PubKey). IsGood view o r) mine g.0,
          g.1.seq ∙ ap (λ (s : Stamp). s.seq + 1) at,
          knows_edge t edge p r (owned ∙ mine) at knows g.1.grows,
          subst (λ (o : PubKey). GoesOn view o r rs) mine g.2,
        ),
        g.1.prev ∙ ap (λ (s : Stamp). s.name) at,
      )

  begins : (edge : Option Edge) (xs : List Record) → IsChain view owner xs → GoesOnFrom view None edge xs × OldestNames None xs
  begins edge [] c = (tt, tt)
  begins edge (r ∷ rs) c = (
    (subst (λ (o : PubKey). IsGood view o r) (sym c.0.owned) c.0, c.1, tt, subst (λ (o : PubKey). GoesOn view o r rs) (sym c.0.owned) c.2),
    tt,
  )

  -- a chain in two: up to the held record, and what goes on from it
  pub record IsCut (held : Option Stamp) (edge : Option Edge) (chain : List Record) : Type 0 where
    pub low : List Record
    pub high : List Record
    pub is : chain ≡ low ++ high
    pub size : length low ≡ reach held
    pub goes_on : GoesOnFrom view held edge high
    pub names : OldestNames held high

  pub cut_at : (held : Option Stamp) (edge : Option Edge) (knew chain rest : List Record) → chain ≡ knew ++ rest → IsChain view owner chain → StartsIn held edge knew → IsCut held edge chain
  cut_at None edge knew chain rest e c from =
      let on = begins edge chain c in record { low = []; high = chain; is = refl; size = refl; goes_on = on.0; names = on.1 }
  cut_at (Some t) edge knew chain rest e c from =
      let w = divided knew from.0 from.1 in
      let whole : chain ≡ w.0 ++ from.0 ∷ (w.1 ++ rest) = e ∙ ap (λ (l : List Record). l ++ rest) w.2 ∙ append_assoc w.0 (from.0 ∷ w.1) rest in
      let parts : chain ≡ (w.0 ++ from.0 ∷ []) ++ (w.1 ++ rest) = whole ∙ sym (append_assoc w.0 (from.0 ∷ []) (w.1 ++ rest)) in
      let behind = goes_behind view owner w.0 from.0 (w.1 ++ rest) (subst (IsChain view owner) whole c) in
      let on = goes_from t edge from.0 (w.1 ++ rest) behind.0.owned from.2 from.3 behind.1 in
      let number = last_seq owner 1 no_name w.0 from.0 (linked_left owner 1 no_name (w.0 ++ from.0 ∷ []) (w.1 ++ rest) (subst (LinkedFrom owner 1 no_name) parts (linked_chain view owner chain c))) in
      let same : from.0.seq ≡ t.seq = ap (λ (s : Stamp). s.seq) from.2 in
      let one_more = length-append w.0 (from.0 ∷ []) in
      record { low = w.0 ++ from.0 ∷ []; high = w.1 ++ rest; is = parts; size = omega (arith, number, same, one_more); goes_on = on.0; names = on.1 }

-- ---- the floor's record

-- what lies above passes through it, where it is above
floor_above : (fl : Option Stamp) (b : ℕ) (low high : List Record) → Numbered 1 (low ++ high) → length low ≡ b → PassesThrough fl (low ++ high) → PassesFloor fl b high
floor_above None b low high h size passes = tt
floor_above (Some f) b low high h size passes = λ far.
    let found = subst (HasRecord f) (sym passes.2) (has_passed f passes.0 passes.1 passes.3) in
    elim (Contains-append_cases low high found.0 found.1) [
      | inl under ↦ (
          let below = each (λ (q : Record). q.seq < 1 + length low) low found.0 (numbers_below 1 (1 + length low) low refl (numbered_left 1 low high h)) under in
          let same : found.0.seq ≡ f.seq = ap (λ (s : Stamp). s.seq) found.2 in
          absurd (omega (arith, below, same, size, far))
          )
      | inr over ↦ (found.0, over, found.2)
    ]

-- a chain through the floor's record begins with what the floor names
known_first : (met : List (List ℕ)) → IsCollisionFree met → (view : View) (owner : PubKey) (fl : Option Stamp) (knew : List Record) → IsChain view owner knew → Stand met knew → known.EndsAt fl knew
    → (chain : List Record) → IsChain view owner chain → Stand met chain → PassesThrough fl chain → (rest : List Record) × (chain ≡ knew ++ rest)
known_first met apart view owner None knew of_knew stand_knew ends chain of_chain stand passes = (chain, sym (ap (λ (l : List Record). l ++ chain) ends))
known_first met apart view owner (Some f) knew of_knew stand_knew ends chain of_chain stand passes =
    let same : passes.0 ≡ knew = one_chain (record { blocks = met; view = view; floor = [] }) apart owner f passes.0 knew (record {
      chain_of_log = chain_front view owner passes.0 passes.1 (subst (IsChain view owner) passes.2 of_chain);
      stand = each_left (StandsAmong met) passes.0 passes.1 (subst (Stand met) passes.2 stand);
      ends = passes.3;
      passes = tt;
    }) (record { chain_of_log = of_knew; stand = stand_knew; ends = ends; passes = tt }) in
    (passes.1, passes.2 ∙ ap (λ (l : List Record). l ++ passes.1) same)

-- ---- what is above of a chain to a head

-- what is known of the log: the chain that the floor names, among the blocks
pub record IsLogKnown (met : List (List ℕ)) (view : View) (owner : PubKey) (fl : Option Stamp) (knew : List Record) : Type 0 where
  pub chain : IsChain view owner knew
  pub stand : Stand met knew
  pub ends : known.EndsAt fl knew

module _ (met : List (List ℕ)) (apart : IsCollisionFree met) (view : View) (owner : PubKey) (held fl : Option Stamp) (knew : List Record) (k : IsLogKnown met view owner fl knew) where
  pub record IsAbove (edge : Option Edge) (head : Stamp) (chain : List Record) : Type 0 where
    pub high : List Record
    pub is : above (reach held) chain ≡ high
    pub prev : Key
    pub linked : LinkedFrom owner (reach held + 1) prev high
    pub stand : Stand met high
    pub ends : EndsAtStamp head high
    pub goes_on : GoesOnFrom view held edge high
    pub names : OldestNames held high
    pub passes : PassesFloor fl (reach held) high

  pub above_held : (edge : Option Edge) (head : Stamp) (chain : List Record) → StartsIn held edge knew → IsChain view owner chain → Stand met chain → EndsAtStamp head chain → PassesThrough fl chain → reach held < head.seq → IsAbove edge head chain
  above_held edge head chain from of_chain stand ends passes far =
      let first = known_first met apart view owner fl knew k.chain k.stand k.ends chain of_chain stand passes in
      let cut = cut_at view owner held edge knew chain first.0 first.1 of_chain from in
      let linked = linked_chain view owner chain of_chain in
      let size = long owner 1 no_name chain head linked ends in
      let both : length chain ≡ length cut.low + length cut.high = ap length cut.is ∙ length-append cut.low cut.high in
      let low_size = cut.size in
      let numbers : Numbered 1 (cut.low ++ cut.high) = subst (Numbered 1) cut.is (numbered view owner chain of_chain) in
      record {
        high = cut.high;
        is = ap (above (reach held)) cut.is ∙ above_low (reach held) 1 cut.low cut.high numbers (omega (arith, low_size));
        prev = newest_of no_name cut.low;
        linked = subst (λ (n : ℕ). LinkedFrom owner n (newest_of no_name cut.low) cut.high) (omega (arith, low_size)) (linked_right owner 1 no_name cut.low cut.high (subst (LinkedFrom owner 1 no_name) cut.is linked));
        stand = each_right (StandsAmong met) cut.low cut.high (subst (Stand met) cut.is stand);
        ends = ends_later head cut.low cut.high (subst (EndsAtStamp head) cut.is ends) (λ e. let none : length cut.high ≡ 0 = ap length e in omega (arith, size, both, low_size, none, far));
        goes_on = cut.goes_on;
        names = cut.names;
        passes = floor_above fl (reach held) cut.low cut.high numbers low_size (subst (PassesThrough fl) cut.is passes);
      }
