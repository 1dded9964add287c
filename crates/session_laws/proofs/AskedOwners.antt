-- The asks of owners as a plan: a further one is asked as long as what was heard isn't enough.
use Rattle.std.proofs.Common.{◌≡◌, ◌⊎◌, ℕ, zero, suc, ◌<◌, false, List, [], ◌∷◌, ◌++◌, length, take, map, refl, sym, ap, ◌∙◌, subst, arith, inl, inr, ⊎_elim}
use Rattle.std.proofs.lemmas.List.{append_assoc, append-nil}
use Rattle.dht_ids.specs.declared.ask.Answer.{Answer}
use Rattle.dht_ids.specs.declared.ask.Answer.TheVariants as answer
use Rattle.dht_ids.specs.declared.ask.Ask.{Ask}
use Rattle.dht_ids.specs.declared.ask.Heard.{Heard}
use Rattle.dht_ids.specs.declared.peer.Peer.{Peer}
use Rattle.ring_model.specs.Gets.{AreFirsts, AreAsks, nodes}
use Rattle.ring_model.proofs.Lists.{cons_head, cons_tail, nil_cons}
use Rattle.dhash_model.specs.Execution.{Told, told_all}
use Rattle.session_laws.proofs.AskedPlans.{Plan, ended, asking, Entries, entry, Follows, IsToldBy, some_follows}

-- where something is decided, one thing or the other
abbrev pub choose : {P X : Type 0} → P ⊎ (P → ⊥) → X → X → X
choose (inl h) one other = one
choose (inr h) one other = other

-- the entries that tell of the owners' asks
abbrev pub entries_of : Entries → Told → List Heard
entries_of e asks = map (λ s. entry e false s.0 s.1) asks

pub told_owners : (e : Entries) (question : Ask) → IsToldBy e question → (asks : Told) → told_all question asks ≡ entries_of e asks
told_owners e question t [] = refl
told_owners e question t (s ∷ asks) = ap (λ (l : List Heard). l ++ told_all question asks) (t s.0 s.1) ∙ ap (λ (l : List Heard). entry e false s.0 s.1 ∷ l) (told_owners e question t asks)

module _ (IsEnough : Told → Type 0) where
  -- after what was told of some owners these are asked of the rest
  abbrev pub AreAsked : List Peer → Told → Told → Type 0
  AreAsked rest before [] = IsEnough before ⊎ (rest ≡ [])
  AreAsked rest before (s ∷ more) = (IsEnough before → ⊥) × (others : List Peer) × (rest ≡ s.0 ∷ others) × AreAsked others (before ++ s ∷ []) more

  are_asked : (once : List Peer) (before trail : Told) → nodes trail ≡ take (length trail) once → ((k : ℕ) → k < length trail → IsEnough (before ++ take k trail) → ⊥) → IsEnough (before ++ trail) ⊎ (nodes trail ≡ once)
      → AreAsked once before trail
  are_asked once before [] order needed (inl h) = inl (subst IsEnough (append-nil before) h)
  are_asked once before [] order needed (inr h) = inr (sym h)
  are_asked [] before (s ∷ trail) order needed over = absurd (nil_cons s.0 (nodes trail) (sym order))
  are_asked (p ∷ ps) before (s ∷ trail) order needed over = (
    λ h. needed 0 (omega arith) (subst IsEnough (sym (append-nil before)) h),
    ps,
    ap (λ (x : Peer). x ∷ ps) (sym (cons_head s.0 (nodes trail) p (take (length trail) ps) order)),
    are_asked ps (before ++ s ∷ []) trail (cons_tail s.0 (nodes trail) p (take (length trail) ps) order) (λ k l h. needed (suc k) (omega (arith, l)) (subst IsEnough (append_assoc before (s ∷ []) (take k trail)) h))
        (⊎_elim (λ h. inl (subst IsEnough (sym (append_assoc before (s ∷ []) trail)) h)) (λ h. inr (cons_tail s.0 (nodes trail) p ps h)) over),
  )

  pub from_asks : (owners : List Peer) (trail : Told) (a : AreAsks owners IsEnough trail) → AreAsked a.once [] trail
  from_asks owners trail a = are_asked a.once [] trail a.order a.needed a.over

  -- the nodes stand in their order
  in_order : (once : List Peer) (before trail : Told) → AreAsked once before trail → nodes trail ≡ take (length trail) once
  in_order once before [] h = refl
  in_order once before (s ∷ trail) h =
      ap (λ (l : List Peer). s.0 ∷ l) (in_order h.1 (before ++ s ∷ []) trail h.3) ∙ ap (λ (l : List Peer). take (suc (length trail)) l) (sym h.2)

  all_needed : (once : List Peer) (before trail : Told) → AreAsked once before trail → (k : ℕ) → k < length trail → IsEnough (before ++ take k trail) → ⊥
  all_needed once before [] h k l enough = absurd (omega (arith, l))
  all_needed once before (s ∷ trail) h zero l enough = h.0 (subst IsEnough (append-nil before) enough)
  all_needed once before (s ∷ trail) h (suc k) l enough = all_needed h.1 (before ++ s ∷ []) trail h.3 k (omega (arith, l)) (subst IsEnough (sym (append_assoc before (s ∷ []) (take k trail))) enough)

  at_end : (once : List Peer) (before trail : Told) → AreAsked once before trail → IsEnough (before ++ trail) ⊎ (nodes trail ≡ once)
  at_end once before [] (inl h) = inl (subst IsEnough (sym (append-nil before)) h)
  at_end once before [] (inr h) = inr (sym h)
  at_end once before (s ∷ trail) h =
      ⊎_elim (λ g. inl (subst IsEnough (append_assoc before (s ∷ []) trail) g)) (λ g. inr (ap (λ (l : List Peer). s.0 ∷ l) g ∙ sym h.2)) (at_end h.1 (before ++ s ∷ []) trail h.3)

  pub to_asks : (owners once : List Peer) → AreFirsts [] owners once → (trail : Told) → AreAsked once [] trail → AreAsks owners IsEnough trail
  to_asks owners once firsts trail h = record { once = once; firsts = firsts; order = in_order once [] trail h; needed = all_needed once [] trail h; over = at_end once [] trail h }

  -- owners of whom nothing was enough, and then the rest
  pub joined : (rest : List Peer) (before asks more : Told) → ((k : ℕ) → k < length asks → IsEnough (before ++ take k asks) → ⊥) → AreAsked rest (before ++ asks) more → AreAsked (nodes asks ++ rest) before (asks ++ more)
  joined rest before [] more needed h = subst (λ (t : Told). AreAsked rest t more) (append-nil before) h
  joined rest before (s ∷ asks) more needed h = (
    λ g. needed 0 (omega arith) (subst IsEnough (sym (append-nil before)) g),
    nodes asks ++ rest,
    refl,
    joined rest (before ++ s ∷ []) asks more (λ k l g. needed (suc k) (omega (arith, l)) (subst IsEnough (append_assoc before (s ∷ []) (take k asks)) g))
        (subst (λ (t : Told). AreAsked rest t more) (sym (append_assoc before (s ∷ []) asks)) h),
  )

module _ (e : Entries) (IsEnough : Told → Type 0) (decided : (t : Told) → IsEnough t ⊎ (IsEnough t → ⊥)) where
  -- the plan of the asks of the rest
  abbrev pub owners_plan : List Peer → Told → Plan
  owners_plan [] before = ended
  owners_plan (p ∷ ps) before = choose (decided before) ended (asking p false (λ given. owners_plan ps (before ++ (p, given) ∷ [])))

  pub owners_fit : (ps : List Peer) (before trail : Told) → AreAsked IsEnough ps before trail → Follows e (owners_plan ps before) (entries_of e trail)
  owners_fit [] before [] h = refl
  owners_fit [] before (s ∷ trail) h = absurd (nil_cons s.0 h.1 h.2)
  owners_fit (p ∷ ps) before [] h = by (decided before)
    where
      by : (d : IsEnough before ⊎ (IsEnough before → ⊥)) → Follows e (choose d ended (asking p false (λ given. owners_plan ps (before ++ (p, given) ∷ [])))) []
      by (inl enough) = refl
      by (inr not_yet) = ⊎_elim (λ enough. absurd (not_yet enough)) (λ none. absurd (nil_cons p ps (sym none))) h
  owners_fit (p ∷ ps) before ((q, given) ∷ trail) h =
      let same : q ≡ p = sym (cons_head p ps q h.1 h.2) in
      let rest : AreAsked IsEnough ps (before ++ (p, given) ∷ []) trail =
      subst (λ (x : Peer). AreAsked IsEnough ps (before ++ (x, given) ∷ []) trail) same (subst (λ (l : List Peer). AreAsked IsEnough l (before ++ (q, given) ∷ []) trail) (sym (cons_tail p ps q h.1 h.2)) h.3) in
      by (decided before) same (owners_fit ps (before ++ (p, given) ∷ []) trail rest)
    where
      by : (d : IsEnough before ⊎ (IsEnough before → ⊥)) → q ≡ p → Follows e (owners_plan ps (before ++ (p, given) ∷ [])) (entries_of e trail)
          → Follows e (choose d ended (asking p false (λ given. owners_plan ps (before ++ (p, given) ∷ [])))) (entry e false q given ∷ entries_of e trail)
      by (inl enough) same later = absurd (h.0 enough)
      by (inr not_yet) same later = (given, entries_of e trail, ap (λ (x : Peer). entry e false x given ∷ entries_of e trail) same, later)

  pub owners_back : (ps : List Peer) (before : Told) (trail : List Heard) → Follows e (owners_plan ps before) trail → (asks : Told) × AreAsked IsEnough ps before asks × (trail ≡ entries_of e asks)
  owners_back [] before trail f = ([], inr refl, f)
  owners_back (p ∷ ps) before trail f = by (decided before) f (λ given rest g. owners_back ps (before ++ (p, given) ∷ []) rest g)
    where
      by : (d : IsEnough before ⊎ (IsEnough before → ⊥)) → Follows e (choose d ended (asking p false (λ given. owners_plan ps (before ++ (p, given) ∷ [])))) trail
          → ((given : Answer) (rest : List Heard) → Follows e (owners_plan ps (before ++ (p, given) ∷ [])) rest → (asks : Told) × AreAsked IsEnough ps (before ++ (p, given) ∷ []) asks × (rest ≡ entries_of e asks))
          → (asks : Told) × AreAsked IsEnough (p ∷ ps) before asks × (trail ≡ entries_of e asks)
      by (inl enough) g later = ([], inl enough, g)
      by (inr not_yet) g later = let r = later g.0 g.1 g.3 in ((p, g.0) ∷ r.0, (not_yet, ps, refl, r.1), g.2 ∙ ap (λ (l : List Heard). entry e false p g.0 ∷ l) r.2)

  -- where what was heard isn't enough the next owner is asked, and then others or none
  pub owners_go_on : (owners gone ps : List Peer) (node : Peer) (asks : Told) → AreFirsts [] owners (gone ++ node ∷ ps) → gone ≡ nodes asks → ((k : ℕ) → k < length asks → IsEnough (take k asks) → ⊥) → (IsEnough asks → ⊥)
      → (more : Told) × AreAsks owners IsEnough (asks ++ (node, answer.Silent) ∷ more)
  owners_go_on owners gone ps node asks firsts is needed not_yet =
      let some = some_follows e (owners_plan ps (asks ++ (node, answer.Silent) ∷ [])) in
      let rest = owners_back ps (asks ++ (node, answer.Silent) ∷ []) some.0 some.1 in (
        rest.0,
        to_asks IsEnough owners (nodes asks ++ node ∷ ps) (subst (λ (l : List Peer). AreFirsts [] owners (l ++ node ∷ ps)) is firsts) (asks ++ (node, answer.Silent) ∷ rest.0)
            (joined IsEnough (node ∷ ps) [] asks ((node, answer.Silent) ∷ rest.0) needed (not_yet, ps, refl, rest.1)),
      )
