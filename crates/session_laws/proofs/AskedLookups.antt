-- A look-up as a plan, and what comes after it as another.
use Rattle.std.proofs.Common.{◌≡◌, ◌≢◌, ◌⊎◌, ℕ, zero, suc, ◌+◌, ◌<◌, ◌≤◌, Bool, true, false, List, [], ◌∷◌, ◌++◌, length, reverse, Option, Some, None, refl, sym, ap, ◌∙◌, subst, arith, inl, inr, MatchBool}
use Rattle.std.specs.List.{list_any}
use Rattle.std.proofs.lemmas.Bool.{cases_lt}
use Rattle.std.proofs.lemmas.List.{map-append, reverse-reverse}
use Rattle.ivy_base.specs.declared.key.Key.{Key}
use Rattle.dht_ids.specs.declared.ask.Answer.{Answer}
use Rattle.dht_ids.specs.declared.ask.Answer.TheVariants as answer
use Rattle.dht_ids.specs.declared.ask.Ask.TheVariants as ask
use Rattle.dht_ids.specs.declared.ask.Heard.{Heard}
use Rattle.dht_ids.specs.declared.peer.Peer.{Peer}
use Rattle.ring_model.specs.Members.{IsAmong}
use Rattle.ring_model.specs.Route.{Route}
use Rattle.ring_model.specs.Gets.{AreFirsts}
use Rattle.ring_model.specs.Gets.AreFirsts.{none, again, new}
use Rattle.ring_model.specs.Lookup.{IsLookup}
use Rattle.ring_model.specs.Lookup.IsLookup.{over, spent, known, silent, answered}
use Rattle.ring_model.proofs.Lists.{cons_head, cons_tail, nil_cons}
use Rattle.dht_ids.specs.Asked.{route_in, routes}
use Rattle.dhash_client.specs.Machine.{State, Trail, FollowsAfter, fresh, to_ask}
use Rattle.dhash_model.specs.Execution.{Told, told_all}
use Rattle.dhash_client.proofs.Asks.{is_peer, asked_any}
use Rattle.session_laws.proofs.AskedPlans.{Plan, asking, Entries, entry, Follows}
use Rattle.session_laws.proofs.AskedOwners.{choose}

-- whether a node is among others is decided
pub among_or_not : (p : Peer) (xs : List Peer) → IsAmong p xs ⊎ (IsAmong p xs → ⊥)
among_or_not p xs = by (list_any (λ y. is_peer y p) (reverse xs)) (asked_any p (reverse xs) (list_any (λ y. is_peer y p) (reverse xs)) refl)
  where
    by : (b : Bool) → MatchBool b (IsAmong p (reverse (reverse xs))) (IsAmong p (reverse (reverse xs)) → ⊥) → IsAmong p xs ⊎ (IsAmong p xs → ⊥)
    by true h = inl (subst (IsAmong p) (reverse-reverse xs) h)
    by false h = inr (λ i. h (subst (IsAmong p) (sym (reverse-reverse xs)) i))

-- ---- the owners, each once

abbrev pub firsts : List Peer → List Peer → List Peer
firsts seen [] = []
firsts seen (p ∷ ps) = choose (among_or_not p seen) (firsts seen ps) (p ∷ firsts (p ∷ seen) ps)

pub firsts_are : (seen ps : List Peer) → AreFirsts seen ps (firsts seen ps)
firsts_are seen [] = none
firsts_are seen (p ∷ ps) = by (among_or_not p seen) (firsts_are seen ps) (firsts_are (p ∷ seen) ps)
  where
    by : (d : IsAmong p seen ⊎ (IsAmong p seen → ⊥)) → AreFirsts seen ps (firsts seen ps) → AreFirsts (p ∷ seen) ps (firsts (p ∷ seen) ps) → AreFirsts seen (p ∷ ps) (choose d (firsts seen ps) (p ∷ firsts (p ∷ seen) ps))
    by (inl h) a b = again h a
    by (inr h) a b = new h b

pub firsts_same : {seen ps qs : List Peer} → AreFirsts seen ps qs → qs ≡ firsts seen ps
firsts_same none = refl
firsts_same (again {seen = seen} {p = p} {ps = ps} {qs = qs} h f) = by (among_or_not p seen) (firsts_same f)
  where
    by : (d : IsAmong p seen ⊎ (IsAmong p seen → ⊥)) → qs ≡ firsts seen ps → qs ≡ choose d (firsts seen ps) (p ∷ firsts (p ∷ seen) ps)
    by (inl i) same = same
    by (inr i) same = absurd (i h)
firsts_same (new {seen = seen} {p = p} {ps = ps} {qs = qs} h f) = by (among_or_not p seen) (firsts_same f)
  where
    by : (d : IsAmong p seen ⊎ (IsAmong p seen → ⊥)) → qs ≡ firsts (p ∷ seen) ps → p ∷ qs ≡ choose d (firsts seen ps) (p ∷ firsts (p ∷ seen) ps)
    by (inl i) same = absurd (h i)
    by (inr i) same = ap (λ (l : List Peer). p ∷ l) same

-- ---- look-ups

-- the owners that the last answer named, and the nodes still to ask, after an answer
abbrev pub last_after : Option (List Peer) → Option (Route Peer) → Option (List Peer)
last_after last None = last
last_after last (Some route) = Some route.owners

abbrev pub rest_after : List Peer → Option (Route Peer) → List Peer
rest_after rest None = rest
rest_after rest (Some route) = route.nearer

one_more : (asked : List Peer) (last : Option (List Peer)) (p : Peer) (ps : List Peer) (trail : Trail) (found : Option (List Peer)) (route : Option (Route Peer)) → length asked < 512 → (IsAmong p asked → ⊥)
    → IsLookup (p ∷ asked) (last_after last route) (rest_after ps route) trail found → IsLookup asked last (p ∷ ps) ((p, route) ∷ trail) found
one_more asked last p ps trail found None few not_yet more = silent few not_yet more
one_more asked last p ps trail found (Some route) few not_yet more = answered few not_yet more

-- the first ask and its route
same_first : (l : Peer × Answer) (looks : Told) (p : Peer) (route : Option (Route Peer)) (trail : Trail) → routes (l ∷ looks) ≡ (p, route) ∷ trail → (l.0 ≡ p) × (route_in l.1 ≡ route) × (routes looks ≡ trail)
same_first l looks p route trail r =
    let x : Peer × Option (Route Peer) = (l.0, route_in l.1) in
    let y : Peer × Option (Route Peer) = (p, route) in
    let h : x ≡ y = cons_head x (routes looks) y trail r in
    (ap (λ (z : Peer × Option (Route Peer)). z.0) h, ap (λ (z : Peer × Option (Route Peer)). z.1) h, cons_tail x (routes looks) y trail r)

no_first : (l : Peer × Answer) (looks : Told) → routes (l ∷ looks) ≡ [] → ⊥
no_first l looks r = nil_cons {X = Peer × Option (Route Peer)} (l.0, route_in l.1) (routes looks) (sym r)

-- a look-up from a node on asks that node
empty_trail : {asked : List Peer} {last : Option (List Peer)} {ps : List Peer} {trail : Trail} {found : Option (List Peer)} → IsLookup asked last ps trail found → asked ≡ [] → trail ≡ [] → ps ≢ [] → ⊥
empty_trail over a t n = n refl
empty_trail (spent many) a t n = let size = ap (λ (l : List Peer). length l) a in absurd (omega (arith, many, size))
empty_trail (known {p = p} h more) a t n = subst (IsAmong p) a h
empty_trail (silent {p = p} {trail = trail} few not_yet more) a t n = nil_cons {X = Peer × Option (Route Peer)} (p, None) trail (sym t)
empty_trail (answered {p = p} {route = route} {trail = trail} few not_yet more) a t n = nil_cons {X = Peer × Option (Route Peer)} (p, Some route) trail (sym t)

pub asks_some : (entries : List Peer) (found : Option (List Peer)) → IsLookup [] None entries [] found → entries ≢ [] → ⊥
asks_some entries found l some = empty_trail l refl refl some

-- from anywhere some look-up follows, where nobody answers
all_silent : (ps asked : List Peer) (last : Option (List Peer)) → (looks : Told) × IsLookup asked last ps (routes looks) last
all_silent [] asked last = ([], over)
all_silent (p ∷ ps) asked last = by (among_or_not p asked) (cases_lt (length asked) 512) (all_silent ps asked last) (all_silent ps (p ∷ asked) last)
  where
    by : IsAmong p asked ⊎ (IsAmong p asked → ⊥) → (length asked < 512) ⊎ (512 ≤ length asked) → (looks : Told) × IsLookup asked last ps (routes looks) last → (looks : Told) × IsLookup (p ∷ asked) last ps (routes looks) last
        → (looks : Told) × IsLookup asked last (p ∷ ps) (routes looks) last
    by (inl h) few same next = (same.0, known h same.1)
    by (inr h) (inl few) same next = ((p, answer.Silent) ∷ next.0, silent few h next.1)
    by (inr h) (inr many) same next = ([], spent many)

-- a look-up that waits for a new node goes on with its ask
pub look_goes_on : (key : Key) (entries : List Peer) (looks : Told) (look : State) (node : Peer) → FollowsAfter (routes looks) (fresh key entries) look → look.waiting ≡ Some node → length look.asked < 512 → (IsAmong node look.asked → ⊥)
    → (more : Told) × IsLookup [] None entries (routes (looks ++ (node, answer.Silent) ∷ more)) look.last
look_goes_on key entries looks look node follows waits few not_yet =
    let s = all_silent look.rest (node ∷ look.asked) look.last in
    let next : IsLookup look.asked look.last (to_ask look.waiting look.rest) (routes ((node, answer.Silent) ∷ s.0)) look.last =
    subst (λ (x : Option Peer). IsLookup look.asked look.last (to_ask x look.rest) (routes ((node, answer.Silent) ∷ s.0)) look.last) (sym waits) (silent few not_yet s.1) in (
      s.0,
      subst (λ (t : Trail). IsLookup [] None entries t look.last) (sym (map-append (λ (x : Peer × Answer). (x.0, route_in x.1)) looks ((node, answer.Silent) ∷ s.0)))
          (follows (routes ((node, answer.Silent) ∷ s.0)) look.last next),
    )

module _ (e : Entries) (After : Option (List Peer) → Plan) where
  abbrev pub round_plan : (List Peer → Option (List Peer) → List Peer → Plan) → List Peer → Option (List Peer) → List Peer → Plan
  round_plan next asked last [] = After last
  round_plan next asked last (p ∷ ps) = choose (among_or_not p asked) (round_plan next asked last ps) (asking p true (λ given. next (p ∷ asked) (last_after last (route_in given)) (rest_after ps (route_in given))))

  -- with so many asks left
  abbrev pub look_plan : ℕ → List Peer → Option (List Peer) → List Peer → Plan
  look_plan zero asked last ps = After last
  look_plan (suc n) asked last ps = round_plan (look_plan n) asked last ps

  one_look : (n : ℕ) (asked : List Peer) (last : Option (List Peer)) (p : Peer) (ps : List Peer) (l : Peer × Answer) (rest : List Heard) (route : Option (Route Peer)) → (IsAmong p asked → ⊥) → l.0 ≡ p → route_in l.1 ≡ route
      → Follows e (look_plan n (p ∷ asked) (last_after last route) (rest_after ps route)) rest → Follows e (look_plan (suc n) asked last (p ∷ ps)) (entry e true l.0 l.1 ∷ rest)
  one_look n asked last p ps l rest route not_yet node_is route_is f = by (among_or_not p asked)
    where
      by : (d : IsAmong p asked ⊎ (IsAmong p asked → ⊥))
          → Follows e (choose d (round_plan (look_plan n) asked last ps) (asking p true (λ given. look_plan n (p ∷ asked) (last_after last (route_in given)) (rest_after ps (route_in given))))) (entry e true l.0 l.1 ∷ rest)
      by (inl h) = absurd (not_yet h)
      by (inr h) = (
        l.1,
        rest,
        ap (λ (x : Peer). entry e true x l.1 ∷ rest) node_is,
        subst (λ (r : Option (Route Peer)). Follows e (look_plan n (p ∷ asked) (last_after last r) (rest_after ps r)) rest) (sym route_is) f,
      )

  pub look_fits : {asked : List Peer} {last : Option (List Peer)} {ps : List Peer} {trail : Trail} {found : Option (List Peer)} → IsLookup asked last ps trail found → (n : ℕ) → n + length asked ≡ 512 → (looks : Told) → routes looks ≡ trail
      → (rest : List Heard) → Follows e (After found) rest → Follows e (look_plan n asked last ps) (told_all (ask.Route e.key) looks ++ rest)
  look_fits over zero s [] r rest f = f
  look_fits over (suc n) s [] r rest f = f
  look_fits over n s (l ∷ looks) r rest f = absurd (no_first l looks r)
  look_fits (spent many) zero s [] r rest f = f
  look_fits (spent many) zero s (l ∷ looks) r rest f = absurd (no_first l looks r)
  look_fits (spent many) (suc n) s looks r rest f = absurd (omega (arith, s, many))
  look_fits (known h more) zero s looks r rest f = look_fits more zero s looks r rest f
  look_fits (known {asked = asked} {last = last} {p = p} {ps = ps} h more) (suc n) s looks r rest f = by (among_or_not p asked) (look_fits more (suc n) s looks r rest f)
    where
      by : (d : IsAmong p asked ⊎ (IsAmong p asked → ⊥)) → Follows e (look_plan (suc n) asked last ps) (told_all (ask.Route e.key) looks ++ rest)
          → Follows e (choose d (round_plan (look_plan n) asked last ps) (asking p true (λ given. look_plan n (p ∷ asked) (last_after last (route_in given)) (rest_after ps (route_in given))))) (told_all (ask.Route e.key) looks ++ rest)
      by (inl i) g = g
      by (inr i) g = absurd (i h)
  look_fits (silent few not_yet more) zero s looks r rest f = absurd (omega (arith, few, s))
  look_fits (silent {p = p} {trail = trail} few not_yet more) (suc n) s [] r rest f = absurd (nil_cons {X = Peer × Option (Route Peer)} (p, None) trail r)
  look_fits (silent {asked = asked} {last = last} {p = p} {ps = ps} {trail = trail} few not_yet more) (suc n) s (l ∷ looks) r rest f =
      let a = same_first l looks p None trail r in
      one_look n asked last p ps l (told_all (ask.Route e.key) looks ++ rest) None not_yet a.0 a.1 (look_fits more n (omega (arith, s)) looks a.2 rest f)
  look_fits (answered few not_yet more) zero s looks r rest f = absurd (omega (arith, few, s))
  look_fits (answered {p = p} {route = route} {trail = trail} few not_yet more) (suc n) s [] r rest f = absurd (nil_cons {X = Peer × Option (Route Peer)} (p, Some route) trail r)
  look_fits (answered {asked = asked} {last = last} {p = p} {ps = ps} {route = route} {trail = trail} few not_yet more) (suc n) s (l ∷ looks) r rest f =
      let a = same_first l looks p (Some route) trail r in
      one_look n asked last p ps l (told_all (ask.Route e.key) looks ++ rest) (Some route) not_yet a.0 a.1 (look_fits more n (omega (arith, s)) looks a.2 rest f)

  -- a trail is the asks of a look-up, and then what comes after it
  pub record HasLooked (asked : List Peer) (last : Option (List Peer)) (ps : List Peer) (trail : List Heard) : Type 0 where
    pub looks : Told
    pub found : Option (List Peer)
    pub rest : List Heard
    pub is : trail ≡ told_all (ask.Route e.key) looks ++ rest
    pub looked : IsLookup asked last ps (routes looks) found
    pub after : Follows e (After found) rest

  round_back : (n : ℕ) (asked : List Peer) (last : Option (List Peer)) → length asked < 512
      → ((p : Peer) (last : Option (List Peer)) (ps : List Peer) (trail : List Heard) → Follows e (look_plan n (p ∷ asked) last ps) trail → HasLooked (p ∷ asked) last ps trail)
      → (ps : List Peer) (trail : List Heard) → Follows e (round_plan (look_plan n) asked last ps) trail → HasLooked asked last ps trail
  round_back n asked last few next [] trail f = record { looks = []; found = last; rest = trail; is = refl; looked = over; after = f }
  round_back n asked last few next (p ∷ ps) trail f = by (among_or_not p asked) f (λ g. round_back n asked last few next ps trail g)
    where
      by : (d : IsAmong p asked ⊎ (IsAmong p asked → ⊥))
          → Follows e (choose d (round_plan (look_plan n) asked last ps) (asking p true (λ given. look_plan n (p ∷ asked) (last_after last (route_in given)) (rest_after ps (route_in given))))) trail
          → (Follows e (round_plan (look_plan n) asked last ps) trail → HasLooked asked last ps trail) → HasLooked asked last (p ∷ ps) trail
      by (inl h) g later = let l = later g in record { looks = l.looks; found = l.found; rest = l.rest; is = l.is; looked = known h l.looked; after = l.after }
      by (inr h) g later =
          let l = next p (last_after last (route_in g.0)) (rest_after ps (route_in g.0)) g.1 g.3 in
          record {
            looks = (p, g.0) ∷ l.looks;
            found = l.found;
            rest = l.rest;
            is = g.2 ∙ ap (λ (t : List Heard). entry e true p g.0 ∷ t) l.is;
            looked = one_more asked last p ps (routes l.looks) l.found (route_in g.0) few h l.looked;
            after = l.after;
          }

  pub look_back : (n : ℕ) (asked : List Peer) (last : Option (List Peer)) (ps : List Peer) (trail : List Heard) → n + length asked ≡ 512 → Follows e (look_plan n asked last ps) trail → HasLooked asked last ps trail
  look_back zero asked last ps trail s f = record { looks = []; found = last; rest = trail; is = refl; looked = spent (omega (arith, s)); after = f }
  look_back (suc n) asked last ps trail s f =
      round_back n asked last (omega (arith, s)) (λ p last2 ps2 trail2 g. look_back n (p ∷ asked) last2 ps2 trail2 (omega (arith, s)) g) ps trail f
