-- Asks one after the other: look-ups and puts that go by what the world's nodes answer are one.
use Rattle.std.proofs.Common.{◌≡◌, ◌⊎◌, ⊎_elim, inl, inr, ℕ, ◌≤◌, Bool, true, false, cond, List, [], ◌∷◌, ◌++◌, filter, Option, Some, None, Result, Ok, Err, refl, sym, ap, ◌∙◌, subst, arith}
use Rattle.std.proofs.lemmas.List.{append-nil}
use Rattle.ring_model.proofs.Lists.{cons_head, cons_tail, nil_cons}
use Rattle.ring_model.specs.Gets.{AreAsks, answered_in}
use Rattle.ring_model.specs.Lookup.{IsLookup}
use Rattle.ring_model.specs.Lookup.IsLookup.{over, spent, known, silent, answered}
use Rattle.ring_model.specs.Members.{IsAmong}
use Rattle.ring_model.specs.Route.{Route}
use Rattle.ivy_base.specs.declared.key.Key.{Key}
use Rattle.dht_ids.specs.Asked.{route_in, routes}
use Rattle.dht_ids.specs.declared.ask.Answer.{Answer}
use Rattle.dht_ids.specs.declared.ask.Answer.TheVariants as answer
use Rattle.dht_ids.specs.declared.ask.Ask.{Ask}
use Rattle.dht_ids.specs.declared.ask.Ask.TheVariants as ask
use Rattle.dht_ids.specs.declared.ask.Heard.{Heard}
use Rattle.dht_ids.specs.declared.judge.Judged.{Judged}
use Rattle.dht_ids.specs.declared.peer.Peer.{Peer}
use Rattle.dhash_client.specs.Puts.{question_of}
use Rattle.dhash_model.specs.declared.miss.Miss.TheVariants as miss
use Rattle.dhash_model.specs.Execution.{IsExecution, Told, told_all, outcome}
use Rattle.dhash_model.specs.Execution.IsExecution.{no_route, of_owners}
use Rattle.dhash_model.specs.Puts.{EndsPut, is_of_put}
use Rattle.dhash_model.specs.declared.miss.Miss.{Miss}
use Rattle.dhash_client.specs.declared.put.PutKind.{PutKind}
use Rattle.session_laws.proofs.AskedLookups.{firsts_same}
use Rattle.session_laws.proofs.AskedOwners.{AreAsked, entries_of, from_asks, told_owners}
use Rattle.session_laws.proofs.AskedPuts.{put_entries, told_put}
use Rattle.world_model.specs.Fates.{Fates, Puts, asking}
use Rattle.world_model.specs.Fates.Fates.{none as fates_none, more as fates_more}
use Rattle.world_model.specs.Ring.{LooksUp}
use Rattle.world_model.specs.World.{World, entries}
use Rattle.world_laws.proofs.OneExecution.{one_lookup, one_put_of, one_split}
use Rattle.world_laws.proofs.OneHeard.{one_fate}

abbrev Asks : Type 0
Asks = List (Peer × (Ask × Answer))

module _ (judged : Key → List ℕ → Option Judged) where
  pub no_asks : {w v : World} → Fates judged w [] v → v ≡ w
  no_asks fates_none = refl

  -- ---- the first of the asks

  record FirstAsk (given got : Answer) (rest others : Asks) (v x : World) : Type 0 where
    same : given ≡ got
    mid : World
    first : Fates judged mid rest v
    second : Fates judged mid others x

  first_ask : {w v x : World} {question : Ask} {rest others : Asks} (to : Peer) (given got : Answer) → Fates judged w ((to, (question, given)) ∷ rest) v → Fates judged w ((to, (question, got)) ∷ others) x → FirstAsk given got rest others v x
  first_ask {x = x} {others = others} to given got (fates_more {mid = mid} whom what said fate following) (fates_more {mid = between} who that told other later) =
      let one = one_fate fate other in
      record { same = one.0; mid = mid; first = following; second = subst (λ (m : World). Fates judged m others x) (sym one.1) later }

  -- ---- look-ups

  abbrev Looked : Type 0
  Looked = List (Peer × Option (Route Peer))

  -- both asked the same, and what is asked then begins in one world
  record InStep (l m : Told) (rest others : Asks) (v x : World) : Type 0 where
    same : l ≡ m
    mid : World
    first : Fates judged mid rest v
    second : Fates judged mid others x

  of_routes : (a : Peer × Answer) (l : Told) (p : Peer) (o : Option (Route Peer)) (t : Looked) → routes (a ∷ l) ≡ (p, o) ∷ t → (a.0 ≡ p) × (route_in a.1 ≡ o) × (routes l ≡ t)
  of_routes a l p o t e =
      let first : (a.0, route_in a.1) ≡ (p, o) = cons_head (a.0, route_in a.1) (routes l) (p, o) t e in
      (ap (λ (y : Peer × Option (Route Peer)). y.0) first, ap (λ (y : Peer × Option (Route Peer)). y.1) first, cons_tail (a.0, route_in a.1) (routes l) (p, o) t e)

  some_route : (a b : Route Peer) → Some a ≡ Some b → a ≡ b
  some_route a b e = cc e

  none_or_route : (a : Route Peer) → None ≡ Some a → ⊥
  none_or_route a e = cc e

  module _ (q : Ask) (rest others : Asks) (v x : World) where
    none_asked : (w : World) (l m : Told) → routes l ≡ [] → routes m ≡ [] → Fates judged w (asking q l ++ rest) v → Fates judged w (asking q m ++ others) x → InStep l m rest others v x
    none_asked w [] [] e f g h = record { same = refl; mid = w; first = g; second = h }
    none_asked w [] (b ∷ m) e f g h = absurd (nil_cons (b.0, route_in b.1) (routes m) (sym f))
    none_asked w (a ∷ l) m e f g h = absurd (nil_cons (a.0, route_in a.1) (routes l) (sym e))

    -- the first ask of both goes to one node, and gives one answer
    record OneMore (a b : Peer × Answer) (l m : Told) : Type 0 where
      same : a ≡ b
      mid : World
      first : Fates judged mid (asking q l ++ rest) v
      second : Fates judged mid (asking q m ++ others) x

    one_more : (w : World) (a b : Peer × Answer) (l m : Told) → a.0 ≡ b.0 → Fates judged w (asking q (a ∷ l) ++ rest) v → Fates judged w (asking q (b ∷ m) ++ others) x → OneMore a b l m
    one_more w a b l m same g h =
        let one = first_ask {w = w} {v = v} {x = x} {question = q} {rest = asking q l ++ rest} {others = asking q m ++ others} a.0 a.1 b.1 g
        (subst (λ (n : Peer). Fates judged w ((n, (q, b.1)) ∷ (asking q m ++ others)) x) (sym same) h) in
        record { same = λ i. (same i, one.same i); mid = one.mid; first = one.first; second = one.second }

    with_one : (a b : Peer × Answer) (l m : Told) → a ≡ b → InStep l m rest others v x → InStep (a ∷ l) (b ∷ m) rest others v x
    with_one a b l m same s = record { same = λ i. same i ∷ s.same i; mid = s.mid; first = s.first; second = s.second }

    look_step : {asked : List Peer} {last : Option (List Peer)} {ps : List Peer} {t u : Looked} {found other : Option (List Peer)} → IsLookup asked last ps t found → IsLookup asked last ps u other → (w : World) (l m : Told)
        → routes l ≡ t → routes m ≡ u → Fates judged w (asking q l ++ rest) v → Fates judged w (asking q m ++ others) x → InStep l m rest others v x
    look_step over over w l m e f g h = none_asked w l m e f g h
    look_step over (spent many) w l m e f g h = none_asked w l m e f g h
    look_step (spent many) over w l m e f g h = none_asked w l m e f g h
    look_step (spent many) (spent more) w l m e f g h = none_asked w l m e f g h
    look_step (spent many) (known at other) w l m e f g h = look_step (spent many) other w l m e f g h
    look_step (spent many) (silent few not_yet other) w l m e f g h = absurd (omega (arith, many, few))
    look_step (spent many) (answered few not_yet other) w l m e f g h = absurd (omega (arith, many, few))
    look_step (known at more) (spent many) w l m e f g h = look_step more (spent many) w l m e f g h
    look_step (known at more) (known also other) w l m e f g h = look_step more other w l m e f g h
    look_step (known at more) (silent few not_yet other) w l m e f g h = absurd (not_yet at)
    look_step (known at more) (answered few not_yet other) w l m e f g h = absurd (not_yet at)
    look_step (silent few not_yet more) (spent many) w l m e f g h = absurd (omega (arith, many, few))
    look_step (silent few not_yet more) (known at other) w l m e f g h = absurd (not_yet at)
    look_step (silent {p = p} {trail = t} few not_yet more) (silent {trail = u} little nor_yet other) w [] m e f g h = absurd (nil_cons {X = Peer × Option (Route Peer)} (p, None) t e)
    look_step (silent {p = p} {trail = t} few not_yet more) (silent {trail = u} little nor_yet other) w (a ∷ l) [] e f g h = absurd (nil_cons {X = Peer × Option (Route Peer)} (p, None) u f)
    look_step (silent {p = p} {trail = t} few not_yet more) (silent {trail = u} little nor_yet other) w (a ∷ l) (b ∷ m) e f g h =
        let one = of_routes a l p None t e in
        let two = of_routes b m p None u f in
        let first = one_more w a b l m (one.0 ∙ sym two.0) g h in
        with_one a b l m first.same (look_step more other first.mid l m one.2 two.2 first.first first.second)
    look_step (silent {p = p} {trail = t} few not_yet more) (answered {route = route} {trail = u} little nor_yet other) w [] m e f g h = absurd (nil_cons {X = Peer × Option (Route Peer)} (p, None) t e)
    look_step (silent {p = p} {trail = t} few not_yet more) (answered {route = route} {trail = u} little nor_yet other) w (a ∷ l) [] e f g h = absurd (nil_cons {X = Peer × Option (Route Peer)} (p, Some route) u f)
    look_step (silent {p = p} {trail = t} few not_yet more) (answered {route = route} {trail = u} little nor_yet other) w (a ∷ l) (b ∷ m) e f g h =
        let one = of_routes a l p None t e in
        let two = of_routes b m p (Some route) u f in
        let first = one_more w a b l m (one.0 ∙ sym two.0) g h in
        absurd (none_or_route route (sym one.1 ∙ ap (λ (y : Peer × Answer). route_in y.1) first.same ∙ two.1))
    look_step (answered few not_yet more) (spent many) w l m e f g h = absurd (omega (arith, many, few))
    look_step (answered few not_yet more) (known at other) w l m e f g h = absurd (not_yet at)
    look_step (answered {p = p} {route = route} {trail = t} few not_yet more) (silent {trail = u} little nor_yet other) w [] m e f g h = absurd (nil_cons {X = Peer × Option (Route Peer)} (p, Some route) t e)
    look_step (answered {p = p} {route = route} {trail = t} few not_yet more) (silent {trail = u} little nor_yet other) w (a ∷ l) [] e f g h = absurd (nil_cons {X = Peer × Option (Route Peer)} (p, None) u f)
    look_step (answered {p = p} {route = route} {trail = t} few not_yet more) (silent {trail = u} little nor_yet other) w (a ∷ l) (b ∷ m) e f g h =
        let one = of_routes a l p (Some route) t e in
        let two = of_routes b m p None u f in
        let first = one_more w a b l m (one.0 ∙ sym two.0) g h in
        absurd (none_or_route route (sym two.1 ∙ ap (λ (y : Peer × Answer). route_in y.1) (sym first.same) ∙ one.1))
    look_step (answered {p = p} {route = route} {trail = t} few not_yet more) (answered {route = way} {trail = u} little nor_yet other) w [] m e f g h = absurd (nil_cons {X = Peer × Option (Route Peer)} (p, Some route) t e)
    look_step (answered {p = p} {route = route} {trail = t} few not_yet more) (answered {route = way} {trail = u} little nor_yet other) w (a ∷ l) [] e f g h = absurd (nil_cons {X = Peer × Option (Route Peer)} (p, Some way) u f)
    look_step (answered {asked = asked} {p = p} {route = route} {trail = t} few not_yet more) (answered {route = way} {trail = u} {found = found} little nor_yet other) w (a ∷ l) (b ∷ m) e f g h =
        let one = of_routes a l p (Some route) t e in
        let two = of_routes b m p (Some way) u f in
        let first = one_more w a b l m (one.0 ∙ sym two.0) g h in
        let same : route ≡ way = some_route route way (sym one.1 ∙ ap (λ (y : Peer × Answer). route_in y.1) first.same ∙ two.1) in
        with_one a b l m first.same
        (look_step more (subst (λ (z : Route Peer). IsLookup (p ∷ asked) (Some z.owners) z.nearer u found) (sym same) other) first.mid l m one.2 two.2 first.first first.second)

  -- the same is found, and the same world is left
  pub looks_one : (w : World) (key : Key) (from : List Peer) (found other : Option (List Peer)) (next after : World) → LooksUp judged w key from found next → LooksUp judged w key from other after → (found ≡ other) × (next ≡ after)
  looks_one w key from found other next after f g =
      let s = look_step (ask.Route key) [] [] next after f.lookup g.lookup w f.looks g.looks refl refl
      (subst (λ (l : Asks). Fates judged w l next) (sym (append-nil (asking (ask.Route key) f.looks))) f.fates)
      (subst (λ (l : Asks). Fates judged w l after) (sym (append-nil (asking (ask.Route key) g.looks))) g.fates) in
      (one_lookup f.lookup (subst (λ (l : Told). IsLookup [] None from (routes l) other) (sym s.same) g.lookup), no_asks s.first ∙ sym (no_asks s.second))

  -- ---- owners

  -- all whom the test doesn't leave out are asked, and the others count as having given this
  module _ (question : Ask) (test : Peer → Bool) (own : Answer) (IsEnough : Told → Type 0) where
    abbrev asked_of : Told → Asks
    asked_of l = asking question (filter (λ s. test s.0) l)

    abbrev OwnGiven : Told → Type 0
    OwnGiven l = (s : Peer × Answer) → IsAmong s l → test s.0 ≡ false → s.1 ≡ own

    owners_step : (left : List Peer) (before l m : Told) (w v x : World) → AreAsked IsEnough left before l → AreAsked IsEnough left before m → OwnGiven l → OwnGiven m → Fates judged w (asked_of l) v → Fates judged w (asked_of m) x → (l ≡ m) × (v ≡ x)
    owners_step left before [] [] w v x a b own_l own_m f g = (refl, no_asks f ∙ sym (no_asks g))
    owners_step left before [] (y ∷ m) w v x a b own_l own_m f g = absurd (⊎_elim (λ enough. b.0 enough) (λ none. nil_cons y.0 b.1 (sym none ∙ b.2)) a)
    owners_step left before (y ∷ l) [] w v x a b own_l own_m f g = absurd (⊎_elim (λ enough. a.0 enough) (λ none. nil_cons y.0 a.1 (sym none ∙ a.2)) b)
    owners_step left before (y ∷ l) (z ∷ m) w v x a b own_l own_m f g =
        by (λ begun then_asked h k. owners_step a.1 (before ++ y ∷ []) l m begun v x a.3 then_asked (λ s among. own_l s (inr among)) (λ s among. own_m s (inr among)) h k)
        (test y.0) refl f (subst (λ (n : Peer). Fates judged w (asking question (cond (test n) (z ∷ filter (λ s. test s.0) m) (filter (λ s. test s.0) m))) x) (sym node) g)
      where
        node : y.0 ≡ z.0
        node = cons_head y.0 a.1 z.0 b.1 (sym a.2 ∙ b.2)

        later : a.1 ≡ b.1
        later = cons_tail y.0 a.1 z.0 b.1 (sym a.2 ∙ b.2)

        with_first : y ≡ z → AreAsked IsEnough a.1 (before ++ y ∷ []) m
        with_first same = subst (λ (n : Peer × Answer). AreAsked IsEnough a.1 (before ++ n ∷ []) m) (sym same) (subst (λ (ps : List Peer). AreAsked IsEnough ps (before ++ z ∷ []) m) (sym later) b.3)

        joined : y ≡ z → (l ≡ m) × (v ≡ x) → (y ∷ l ≡ z ∷ m) × (v ≡ x)
        joined same rest = (λ i. same i ∷ rest.0 i, rest.1)

        by : ((begun : World) → AreAsked IsEnough a.1 (before ++ y ∷ []) m → Fates judged begun (asked_of l) v → Fates judged begun (asked_of m) x → (l ≡ m) × (v ≡ x))
            → (t : Bool) → test y.0 ≡ t → Fates judged w (asking question (cond t (y ∷ filter (λ s. test s.0) l) (filter (λ s. test s.0) l))) v
            → Fates judged w (asking question (cond t (z ∷ filter (λ s. test s.0) m) (filter (λ s. test s.0) m))) x → (y ∷ l ≡ z ∷ m) × (v ≡ x)
        by again true is h k =
            let one = first_ask {w = w} {v = v} {x = x} {question = question} {rest = asked_of l} {others = asked_of m} y.0 y.1 z.1 h
            (subst (λ (n : Peer). Fates judged w ((n, (question, z.1)) ∷ asked_of m) x) (sym node) k) in
            let same : y ≡ z = (λ i. (node i, one.same i)) in
            joined same (again one.mid (with_first same) one.first one.second)
        by again false is h k =
            let given : y.1 ≡ z.1 = own_l y (inl refl) is ∙ sym (own_m z (inl refl) (ap test (sym node) ∙ is)) in
            let same : y ≡ z = (λ i. (node i, given i)) in
            joined same (again w (with_first same) h k)

    pub owners_one : (owners : List Peer) (l m : Told) (w v x : World) → AreAsks owners IsEnough l → AreAsks owners IsEnough m → OwnGiven l → OwnGiven m → Fates judged w (asked_of l) v → Fates judged w (asked_of m) x → (l ≡ m) × (v ≡ x)
    owners_one owners l m w v x a b own_l own_m f g =
        owners_step a.once [] l m w v x (from_asks IsEnough owners l a) (subst (λ (ps : List Peer). AreAsked IsEnough ps [] m) (firsts_same b.firsts ∙ sym (firsts_same a.firsts)) (from_asks IsEnough owners m b)) own_l own_m f g

  -- ---- whole puts

  all_left : (l : Told) → filter (λ s. true) l ≡ l
  all_left [] = refl
  all_left (y ∷ l) = ap (λ (t : Told). y ∷ t) (all_left l)

  ok_same : (came : Result (List Peer) Miss) (a b : List Peer) → came ≡ Ok a → came ≡ Ok b → a ≡ b
  ok_same came a b e f = cc (sym e ∙ f)

  ok_or_err : (came : Result (List Peer) Miss) (a : List Peer) (m : Miss) → came ≡ Err m → came ≡ Ok a → ⊥
  ok_or_err came a m e f = cc (sym e ∙ f)

  true_or_false : true ≡ false → ⊥
  true_or_false e = cc e

  module _ (what : PutKind) (bytes : List ℕ) (key : Key) (r : ℕ) where
    -- what the asks of a whole put are
    record IsWholeOf (from : List Peer) (looks asks : Told) (came : Result Bool Miss) : Type 0 where
      found : Option (List Peer)
      lookup : IsLookup [] None from (routes looks) found
      asked : ((asks ≡ []) × (outcome key found ≡ Err (miss.NoRoute key))) ⊎ ((owners : List Peer) × (outcome key found ≡ Ok owners) × EndsPut r owners asks came)

    whole_of : (from : List Peer) (looks asks : Told) (came : Result Bool Miss) → IsExecution key (question_of what bytes key) from (EndsPut r) (told_all (ask.Route key) looks ++ told_all (question_of what bytes key) asks) came → IsWholeOf from looks asks came
    whole_of from looks asks came (no_route l found is looked nobody result_is) =
        let same = one_split (put_entries what bytes key) looks l asks [] (sym (owners_told looks asks) ∙ is ∙ sym (append-nil (told_all (ask.Route key) l))) in
        record { found = found; lookup = subst (λ (t : Told). IsLookup [] None from (routes t) found) (sym same.0) looked; asked = inl (same.1, nobody) }
      where
        owners_told : (t a : Told) → told_all (ask.Route key) t ++ told_all (question_of what bytes key) a ≡ told_all (ask.Route key) t ++ entries_of (put_entries what bytes key) a
        owners_told t a = ap (λ (z : List Heard). told_all (ask.Route key) t ++ z) (told_owners (put_entries what bytes key) (question_of what bytes key) (told_put what bytes key) a)
    whole_of from looks asks came (of_owners l a found owners is looked some ends) =
        let same = one_split (put_entries what bytes key) looks l asks a (sym (owners_told looks asks) ∙ is ∙ owners_told l a) in
        record {
          found = found;
          lookup = subst (λ (t : Told). IsLookup [] None from (routes t) found) (sym same.0) looked;
          asked = inr (owners, some, subst (λ (t : Told). EndsPut r owners t came) (sym same.1) ends);
        }
      where
        owners_told : (t b : Told) → told_all (ask.Route key) t ++ told_all (question_of what bytes key) b ≡ told_all (ask.Route key) t ++ entries_of (put_entries what bytes key) b
        owners_told t b = ap (λ (z : List Heard). told_all (ask.Route key) t ++ z) (told_owners (put_entries what bytes key) (question_of what bytes key) (told_put what bytes key) b)

    -- one world is left, and one thing comes of it
    pub puts_one : (w next after : World) (f : Puts judged w r key (question_of what bytes key) next) (g : Puts judged w r key (question_of what bytes key) after) → (f.came ≡ g.came) × (next ≡ after)
    puts_one w next after f g = (came, left.1)
      where
        question : Ask
        question = question_of what bytes key

        one : IsWholeOf (entries w) f.looks f.asks f.came
        one = whole_of (entries w) f.looks f.asks f.came f.whole

        two : IsWholeOf (entries w) g.looks g.asks g.came
        two = whole_of (entries w) g.looks g.asks g.came g.whole

        s : InStep f.looks g.looks (asking question f.asks) (asking question g.asks) next after
        s = look_step (ask.Route key) (asking question f.asks) (asking question g.asks) next after one.lookup two.lookup w f.looks g.looks refl refl f.fates g.fates

        found : one.found ≡ two.found
        found = one_lookup one.lookup (subst (λ (l : Told). IsLookup [] None (entries w) (routes l) two.found) (sym s.same) two.lookup)

        asks_and_world : ((f.asks ≡ []) × (outcome key one.found ≡ Err (miss.NoRoute key))) ⊎ ((owners : List Peer) × (outcome key one.found ≡ Ok owners) × EndsPut r owners f.asks f.came)
            → ((g.asks ≡ []) × (outcome key two.found ≡ Err (miss.NoRoute key))) ⊎ ((owners : List Peer) × (outcome key two.found ≡ Ok owners) × EndsPut r owners g.asks g.came) → (f.asks ≡ g.asks) × (next ≡ after)
        asks_and_world (inl a) (inl b) = (
          a.0 ∙ sym b.0,
          no_asks (subst (λ (l : Told). Fates judged s.mid (asking question l) next) a.0 s.first) ∙ sym (no_asks (subst (λ (l : Told). Fates judged s.mid (asking question l) after) b.0 s.second)),
        )
        asks_and_world (inl a) (inr b) = absurd (ok_or_err (outcome key one.found) b.0 (miss.NoRoute key) a.1 (ap (outcome key) found ∙ b.1))
        asks_and_world (inr a) (inl b) = absurd (ok_or_err (outcome key two.found) a.0 (miss.NoRoute key) b.1 (ap (outcome key) (sym found) ∙ a.1))
        asks_and_world (inr a) (inr b) =
            let whose : b.0 ≡ a.0 = ok_same (outcome key two.found) b.0 a.0 b.1 (ap (outcome key) (sym found) ∙ a.1) in
            owners_one question (λ p. true) answer.Silent (λ t. r ≤ answered_in is_of_put t) a.0 f.asks g.asks s.mid next after a.2.1.asks
            (subst (λ (o : List Peer). AreAsks o (λ t. r ≤ answered_in is_of_put t) g.asks) whose b.2.1.asks) (λ y among none. absurd (true_or_false none)) (λ y among none. absurd (true_or_false none))
            (subst (λ (l : Told). Fates judged s.mid (asking question l) next) (sym (all_left f.asks)) s.first)
            (subst (λ (l : Told). Fates judged s.mid (asking question l) after) (sym (all_left g.asks)) s.second)

        left : (f.asks ≡ g.asks) × (next ≡ after)
        left = asks_and_world one.asked two.asked

        came : f.came ≡ g.came
        came = one_put_of what bytes key r (entries w) (told_all (ask.Route key) f.looks ++ told_all question f.asks) f.came g.came f.whole
            (subst (λ (l : Told). IsExecution key question (entries w) (EndsPut r) (told_all (ask.Route key) l ++ told_all question f.asks) g.came) (sym s.same)
            (subst (λ (l : Told). IsExecution key question (entries w) (EndsPut r) (told_all (ask.Route key) g.looks ++ told_all question l) g.came) (sym left.0) g.whole))
