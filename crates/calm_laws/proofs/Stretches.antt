-- A stretch of a script in which the ring stays, some of whose nodes have stopped: what is heard in it is true, and where a put is acknowledged live owners hold its post.
use Rattle.std.proofs.Common.{◌≡◌, inl, inr, ⊎_elim, ℕ, ◌≤◌, Bool, true, false, cond, not, List, [], ◌∷◌, ◌++◌, length, take, filter, Option, Some, None, Result, Ok, refl, sym, ap, ◌∙◌, subst, arith, le_refl, nat_lt, Contains}
use Rattle.std.specs.Prelude.{IfSome, ◌*◌}
use Rattle.std.specs.List.{AllByRecursion}
use Rattle.std.proofs.lemmas.List.Sums.{length-filter}
use Rattle.ivy_base.specs.declared.key.Key.{Key}
use Rattle.ring_model.specs.Arc.{is_strictly_between}
use Rattle.ring_model.specs.Circle.{number}
use Rattle.ring_model.specs.Gets.{IsPutTrail, answered_in}
use Rattle.ring_model.specs.Lookup.{AreNames, IsFate, IsLookup}
use Rattle.ring_model.specs.Lookup.IsLookup.{over, spent, known as asked_before, silent as was_silent, answered as has_answered}
use Rattle.ring_model.specs.Members.{IsAmong, HasAscendingPlaces, from_place, owners}
use Rattle.ring_model.specs.Ring.{IsCoveredRing, Links}
use Rattle.ring_model.specs.Route.{Route, owners_part}
use Rattle.ring_model.proofs.Lists.{all-among, all-both, all-left, all-right, all_from, among-cases, among-left, among_filtered, among_take, cons_head, cons_tail, filter_none, nil_cons, some_same}
use Rattle.ring_model.proofs.Lookups.{HasFound, lookup_ends}
use Rattle.ring_model.proofs.Members.{from_place_live}
use Rattle.ring_model.proofs.Owners.{owners_are}
use Rattle.dhash_model.specs.Signed.{hss_judged}
use Rattle.dhash_model.specs.Execution.{Told, told_all, outcome}
use Rattle.dhash_model.specs.Execution.IsExecution.{no_route, of_owners}
use Rattle.dhash_model.specs.Puts.{holds, is_of_put}
use Rattle.dhash_model.specs.declared.miss.Miss.{Miss}
use Rattle.dht_ids.specs.Asked.{route_in, routes}
use Rattle.dht_ids.specs.Peers.{place}
use Rattle.dht_ids.specs.declared.ask.Answer.{Answer}
use Rattle.dht_ids.specs.declared.ask.Answer.TheVariants as answer
use Rattle.dht_ids.specs.declared.ask.Ask.{Ask}
use Rattle.dht_ids.specs.declared.ask.Ask.TheVariants as ask
use Rattle.dht_ids.specs.declared.ask.AskKind.{AskKind}
use Rattle.dht_ids.specs.declared.ask.AskKind.TheVariants as kind
use Rattle.dht_ids.specs.declared.ask.Heard.{Heard}
use Rattle.dht_ids.specs.declared.peer.Peer.{Peer}
use Rattle.dht_ids.specs.declared.post.Post.{Post}
use Rattle.agent_model.specs.Agent.{is_head}
use Rattle.session_model.specs.Sessions.{IsPutOfPost, acknowledged, put_question}
use Rattle.world_model.specs.Nodes.{Node, answered}
use Rattle.world_model.specs.World.{World, node_at, peer_of, with_node}
use Rattle.world_model.specs.Fates.{FateOf, ask_counted}
use Rattle.round_laws.specs.RingOf.{AreApart as StandApart}
use Rattle.round_laws.proofs.Nodes.{Shape, lives_by, made_by, order_by}
use Rattle.round_laws.proofs.Order.{lives_made}
use Rattle.round_laws.proofs.Owning.{AreDistinct, distinct_from_place, distinct_take, holder_answers}
use Rattle.round_laws.proofs.Standing.{Fated, fated, node_made, stands}
use Rattle.round_laws.proofs.Standing.Fated.{silence, heard}
use Rattle.round_laws.proofs.Fixing.{routed}
use Rattle.calm_laws.proofs.CalmNodes.{AreKnown, HeldStays, IsRing, base_from}
use Rattle.calm_laws.proofs.CalmPuts.{IsHeldFor, entries_by, entry_made, held_for, kind_of, made_entry}
use Rattle.calm_laws.proofs.BlockKinds.{AreApart, IsFit}
use Rattle.calm_laws.specs.Laws.{IsWithinLimit}
use Rattle.calm_laws.proofs.Asking.{among_asks, asked_found, asked_own, owner_asked}

-- the shapes of a ring that is covered, in which somebody lives
pub record IsStandingRing (r : ℕ) (base : List Shape) (links : Peer → Links Peer) : Type 0 where
  pub apart : StandApart (made_by base)
  pub owned : AllByRecursion (λ s. s.2 ≡ r) base
  pub covered : IsCoveredRing place r (order_by base) (lives_by base) links
  pub few : length (made_by base) ≤ 512
  pub someone : Peer
  pub lives : lives_by base someone ≡ true

-- The ring, how many nodes stopped since it was settled, and the world at the stretch's end, in which no key is that of content and of heads.
pub record Stretch : Type 0 where
  pub r : ℕ
  pub base : List Shape
  pub links : Peer → Links Peer
  pub start : ℕ
  pub stops : ℕ
  pub stands : IsStandingRing r base links
  pub end : World
  pub apart : AreApart end

-- ---- lists

holders : (s : Peer × Answer) (xs : Told) → IsAmong s (filter (λ (s : Peer × Answer). holds s.1) xs) → IsAmong s xs × (holds s.1 ≡ true)
holders s [] i = absurd i
holders s (x ∷ xs) i = test (holds x.1) refl i (λ j. holders s xs j)
  where
    test : (b : Bool) → holds x.1 ≡ b → IsAmong s (cond b (x ∷ filter (λ (s : Peer × Answer). holds s.1) xs) (filter (λ (s : Peer × Answer). holds s.1) xs))
        → (IsAmong s (filter (λ (s : Peer × Answer). holds s.1) xs) → IsAmong s xs × (holds s.1 ≡ true)) → IsAmong s (x ∷ xs) × (holds s.1 ≡ true)
    test true e (inl same) later = (inl same, subst (λ (y : Peer × Answer). holds y.1 ≡ true) same e)
    test true e (inr j) later = (inr (later j).0, (later j).1)
    test false e j later = (inr (later j).0, (later j).1)

some_holds : (asks : Told) → 1 ≤ answered_in holds asks → (s : Peer × Answer) × IsAmong s asks × (holds s.1 ≡ true)
some_holds asks some = by (filter (λ (s : Peer × Answer). holds s.1) asks) refl
  where
    count : answered_in holds asks ≡ length (filter (λ (s : Peer × Answer). holds s.1) asks)
    count = sym (length-filter (λ (s : Peer × Answer). holds s.1) asks)

    by : (l : Told) → filter (λ (s : Peer × Answer). holds s.1) asks ≡ l → (s : Peer × Answer) × IsAmong s asks × (holds s.1 ≡ true)
    by [] e = let none : answered_in holds asks ≡ 0 = count ∙ ap length e in absurd (omega (arith, some, none))
    by (s ∷ l) e = (let one = holders s asks (subst (IsAmong s) (sym e) (inl refl)) in (s, one.0, one.1))

pub owned_is : (key : Key) (o : Option (List Peer)) (owned xs : List Peer) → o ≡ Some xs → outcome key o ≡ Ok owned → owned ≡ xs
owned_is key None owned xs e g = absurd cc
owned_is key (Some []) owned xs e g = absurd (cc g)
owned_is key (Some (p ∷ ps)) owned xs e g = let same : p ∷ ps ≡ xs = some_same (p ∷ ps) xs e in let that : p ∷ ps ≡ owned = cc g in sym that ∙ same

module _ (ring : Stretch) where
  pub known : AreKnown ring.r ring.base
  known = record { apart = ring.stands.apart; owned = ring.stands.owned }

  -- a world of that ring, of which no ask is to be lost
  abbrev pub IsRingOf : World → Type 0
  IsRingOf w = IsRing ring.r ring.base ring.links ring.start w

  abbrev pub lives : Peer → Bool
  lives p = lives_by ring.base p

  abbrev pub IsMade : Peer → Type 0
  IsMade p = IsAmong p (made_by ring.base)

  abbrev pub AllMade : List Peer → Type 0
  AllMade ps = AllByRecursion IsMade ps

  -- who owns a key
  abbrev pub own : Key → List Peer
  own key = owners place ring.r (order_by ring.base) (number key)

  pub owner_lives : (key : Key) (m : Peer) → IsAmong m (own key) → lives m ≡ true
  owner_lives key m i = ring.stands.covered.lives_all m (from_place_live place (order_by ring.base) (number key) m (among_take ring.r m (from_place place (order_by ring.base) (number key)) i))

  pub own_distinct : (key : Key) → AreDistinct (own key)
  own_distinct key = distinct_take ring.r (from_place place (order_by ring.base) (number key)) (distinct_from_place (order_by ring.base) (number key) ring.stands.covered.ascending)

  -- ---- the fate of an ask

  -- a node that was made is silent where it has stopped, and else answers
  pub data Answers (w : World) (to : Peer) (question : Ask) (given : Answer) (next : World) : Type 0 where
    is_silent : given ≡ answer.Silent → lives to ≡ false → Answers w to question given next
    gives : (n : Node) → node_at w to.id ≡ Some n → peer_of n ≡ to → lives to ≡ true → given ≡ (answered hss_judged n question).0 → next ≡ with_node (ask_counted w) (answered hss_judged n question).1 → Answers w to question given next

  pub who_answers : (w next : World) (to : Peer) (question : Ask) (given : Answer) → IsRingOf w → IsMade to → FateOf hss_judged w to question given next → Answers w to question given next
  who_answers w next to question given h made fate = by (fated hss_judged ring.r ring.base [] ring.start next.asked (base_from ring.r ring.base ring.start next.asked known) w next to question given h.within fate)
    where
      by : Fated hss_judged ring.r ring.base [] ring.start next.asked (base_from ring.r ring.base ring.start next.asked known) w to question given next → Answers w to question given next
      by (silence s m l) = is_silent s (l (le_refl next.asked))
      by (heard n e t s m) =
          let at = stands hss_judged ring.r ring.base [] ring.start next.asked (base_from ring.r ring.base ring.start next.asked known) w to n h.within made e in
          gives n e at.me (at.live ∙ t) s m

  abbrev pub IsRouted : Key → Peer → Answer → Type 0
  IsRouted key node given = IsFate place ring.r lives ring.links (number key) (node, route_in given) × IfSome (route_in given) (λ route. AllMade route.nearer × AllMade route.owners)

  pub is_routed : (w next : World) (to : Peer) (key : Key) (given : Answer) → IsRingOf w → FateOf hss_judged w to (ask.Route key) given next → IsMade to → IsRouted key to given
  is_routed w next to key given h fate made =
      let one = routed hss_judged ring.r ring.base [] ring.start next.asked (base_from ring.r ring.base ring.start next.asked known) key (to, given) w next h.within made fate in
      (subst (λ (l : Peer → Links Peer). IsFate place ring.r lives l (number key) (to, route_in given)) h.linked (one.fate (le_refl next.asked)), one.made)

  -- ---- what is heard

  -- of a put: a live node answers; what was taken is held; and what is fit is taken where there is room
  pub record IsPutTrue (w : World) (p : Post) (node : Peer) (got : Answer) : Type 0 where
    pub answers : is_of_put got ≡ lives node
    pub held : holds got ≡ true → IsHeldFor w p node × IsFit (kind_of p) p.key p.bytes
    pub takes : IsWithinLimit ring.end → IsFit (kind_of p) p.key p.bytes → lives node ≡ true → holds got ≡ true

  abbrev pub IsPutTrueAt : World → Option Post → Heard → Type 0
  IsPutTrueAt w None h = ⊥
  IsPutTrueAt w (Some p) h = IsMade h.node → IsPutTrue w p h.node h.got

  -- an answer to a route is the ring's, and one to a put of a post is so
  abbrev pub IsTrueAt : World → Option Post → AskKind → Heard → Type 0
  IsTrueAt w post kind.Route h = IsMade h.node → IsRouted h.key h.node h.got
  IsTrueAt w post kind.Get h = Unit {0}
  IsTrueAt w post kind.PutBlock h = IsPutTrueAt w post h
  IsTrueAt w post kind.PutHead h = IsPutTrueAt w post h

  abbrev pub AreTrue : World → Option Post → List Heard → Type 0
  AreTrue w post trail = AllByRecursion (λ h. IsTrueAt w post h.kind h) trail

  -- ---- look-ups

  abbrev AreRouted : Key → Told → Type 0
  AreRouted key looks = AllByRecursion (λ s. IsMade s.0 → IsRouted key s.0 s.1) looks

  pub looks_true : (w : World) (post : Option Post) (key : Key) (looks : Told) → AreTrue w post (told_all (ask.Route key) looks) → AreRouted key looks
  looks_true w post key [] h = tt
  looks_true w post key (s ∷ looks) h = (h.0, looks_true w post key looks h.1)

  abbrev AreFates : Key → List (Peer × Option (Route Peer)) → Type 0
  AreFates key trail = AllByRecursion (IsFate place ring.r lives ring.links (number key)) trail

  looked : (key : Key) {asked : List Peer} {last : Option (List Peer)} {ps : List Peer} {trail : List (Peer × Option (Route Peer))} {found : Option (List Peer)} → IsLookup asked last ps trail found
      → (looks : Told) → trail ≡ routes looks → AllMade ps → AreRouted key looks → AreFates key trail
  looked key over looks e made h = tt
  looked key (spent many) looks e made h = tt
  looked key (asked_before i more) looks e made h = looked key more looks e made.1 h
  looked key (was_silent {p = p} {trail = trail} few not_yet more) [] e made h = absurd (nil_cons {X = Peer × Option (Route Peer)} (p, None) trail (sym e))
  looked key (was_silent {p = p} {trail = trail} few not_yet more) (s ∷ looks) e made h =
      let same = cons_head {X = Peer × Option (Route Peer)} (p, None) trail (s.0, route_in s.1) (routes looks) e in
      let one = h.0 (subst IsMade (ap (λ (t : Peer × Option (Route Peer)). t.0) same) made.0) in
      (subst (IsFate place ring.r lives ring.links (number key)) (sym same) one.0, looked key more looks (cons_tail {X = Peer × Option (Route Peer)} (p, None) trail (s.0, route_in s.1) (routes looks) e) made.1 h.1)
  looked key (has_answered {p = p} {route = route} {trail = trail} few not_yet more) [] e made h = absurd (nil_cons {X = Peer × Option (Route Peer)} (p, Some route) trail (sym e))
  looked key (has_answered {p = p} {route = route} {trail = trail} few not_yet more) (s ∷ looks) e made h =
      let same = cons_head {X = Peer × Option (Route Peer)} (p, Some route) trail (s.0, route_in s.1) (routes looks) e in
      let one = h.0 (subst IsMade (ap (λ (t : Peer × Option (Route Peer)). t.0) same) made.0) in
      let next = subst (λ (o : Option (Route Peer)). IfSome o (λ x. AllMade x.nearer × AllMade x.owners)) (sym (ap (λ (t : Peer × Option (Route Peer)). t.1) same)) one.1 in
      (subst (IsFate place ring.r lives ring.links (number key)) (sym same) one.0, looked key more looks (cons_tail {X = Peer × Option (Route Peer)} (p, Some route) trail (s.0, route_in s.1) (routes looks) e) next.0 h.1)

  -- what a look-up finds: nodes that were made, of which the first r that live are the key's owners
  pub record Finds (key : Key) (found : Option (List Peer)) : Type 0 where
    pub list : List Peer
    pub found_is : found ≡ Some list
    pub owners_are : take ring.r (filter (λ m. lives m) list) ≡ own key
    pub made : (m : Peer) → IsAmong m list → IsMade m

  abbrev names_of : World → Type 0
  names_of w = AreNames (order_by ring.base) ring.links (entries_by ring.base) (made_by ring.base)

  names : (w : World) → IsRingOf w → names_of w
  names w h = record {
    few = ring.stands.few;
    first = entry_made ring.base;
    linked = λ n m i j.
        let made = lives_made ring.base n (ring.stands.covered.lives_all n i) in
        let node = node_made hss_judged ring.r ring.base [] ring.start ring.start (base_from ring.r ring.base ring.start ring.start known) w n h.within made in
        let s = stands hss_judged ring.r ring.base [] ring.start ring.start (base_from ring.r ring.base ring.start ring.start known) w n node.0 h.within made node.1 in
        let k = h.within.known n.id node.0 node.1 in
        let same : node.0.ring.links ≡ ring.links n = sym s.links ∙ (λ t. h.linked t n) in
        all-among IsMade m ((ring.links n).list ++ (ring.links n).fingers)
        (subst (λ (x : Links Peer). AllMade (x.list ++ x.fingers)) same (all-both IsMade node.0.ring.links.list node.0.ring.links.fingers k.list k.fingers)) j;
  }

  pub finds : (w : World) (key : Key) (looks : Told) (found : Option (List Peer)) → IsRingOf w → AreRouted key looks → IsLookup [] None (entries_by ring.base) (routes looks) found → Finds key found
  finds w key looks found h are l =
      record {
        list = owners_part place ring.r ends.node (ring.links ends.node).list (number key);
        found_is = ends.found_is;
        owners_are = owners_are place ring.r (order_by ring.base) (λ m. lives m) ends.node (ring.links ends.node).list (number key) ring.stands.covered.positive ring.stands.covered.ascending ends.here (ring.stands.covered.lives_all ends.node ends.here)
            (ring.stands.covered.covered ends.node ends.here) ends.quiet;
        made = λ m i. ⊎_elim
            (λ j. of_list m (among_filtered (λ x. not (is_strictly_between (place ends.node) (place x) (number key))) m (ring.links ends.node).list j))
            (λ j. itself m (nat_lt (length (ring.links ends.node).list) (2 * ring.r)) j)
            (among-cases m (filter (λ x. not (is_strictly_between (place ends.node) (place x) (number key))) (ring.links ends.node).list) (cond (nat_lt (length (ring.links ends.node).list) (2 * ring.r)) (ends.node ∷ []) []) i);
      }
    where
      all : names_of w
      all = names w h

      entry : IsAmong ring.stands.someone (entries_by ring.base)
      entry = made_entry ring.base ring.stands.someone (lives_made ring.base ring.stands.someone ring.stands.lives)

      ends : HasFound place ring.r (order_by ring.base) (λ m. lives m) ring.links (number key) ring.stands.covered (made_by ring.base) all.few all.linked found
      ends = lookup_ends place ring.r (order_by ring.base) (λ m. lives m) ring.links (number key) (entries_by ring.base) (made_by ring.base) (routes looks) found ring.stands.covered all
          (looked key l looks refl (all_from IsMade (entries_by ring.base) (entry_made ring.base)) are) ring.stands.someone ring.stands.lives entry l

      of_list : (m : Peer) → IsAmong m (ring.links ends.node).list → IsMade m
      of_list m i = all.linked ends.node m ends.here (among-left m (ring.links ends.node).list (ring.links ends.node).fingers i)

      itself : (m : Peer) (b : Bool) → IsAmong m (cond b (ends.node ∷ []) []) → IsMade m
      itself m true (inl e) = subst IsMade e (lives_made ring.base ends.node (ring.stands.covered.lives_all ends.node ends.here))
      itself m true (inr i) = absurd i
      itself m false i = absurd i

  -- ---- puts

  -- who owned its key at an earlier moment since the ring was settled and lives holds the post, or something newer; and few of those that lived then have stopped
  pub record IsHeldSince (w : World) (p : Post) : Type 0 where
    pub before : List Peer
    pub ascending : HasAscendingPlaces place before
    pub members : (m : Peer) → lives m ≡ true → IsAmong m before
    pub few : length (filter (λ m. not (lives m)) before) ≤ ring.stops
    pub held : (m : Peer) → IsAmong m (owners place ring.r before (number p.key)) → lives m ≡ true → IsHeldFor w p m

  -- an owner holds the post, or something newer; and where there is room all that owned its key and live
  pub record IsAckHeld (w : World) (p : Post) : Type 0 where
    pub owner : Peer
    pub owns : IsAmong owner (own p.key)
    pub holds : IsHeldFor w p owner
    pub all : IsWithinLimit ring.end → IsHeldSince w p

  -- where all owners hold it now
  pub since_now : (w : World) (p : Post) → ((m : Peer) → IsAmong m (own p.key) → IsHeldFor w p m) → IsHeldSince w p
  since_now w p all = record {
    before = order_by ring.base;
    ascending = ring.stands.covered.ascending;
    members = ring.stands.covered.living;
    few = let none = ap length (filter_none (λ m. not (lives m)) (order_by ring.base) (all_from (λ m. not (lives m) ≡ false) (order_by ring.base) (λ m i. ap not (ring.stands.covered.lives_all m i)))) in omega (arith, none);
    held = λ m i l. all m i;
  }

  puts_true : (w : World) (p : Post) (asks : Told) → AreTrue w (Some p) (told_all (put_question p) asks) → AllByRecursion (λ s. IsMade s.0 → IsPutTrue w p s.0 s.1) asks
  puts_true w p asks h = by (is_head p.kind) asks h
    where
      by : (b : Bool) (asks : Told) → AreTrue w (Some p) (told_all (cond b (ask.PutHead p.key p.bytes) (ask.PutBlock p.key p.bytes)) asks) → AllByRecursion (λ s. IsMade s.0 → IsPutTrue w p s.0 s.1) asks
      by b [] h = tt
      by true (s ∷ asks) h = (h.0, by true asks h.1)
      by false (s ∷ asks) h = (h.0, by false asks h.1)

  acked_held : (w : World) (p : Post) (found : List Peer) (asks : Told) → take ring.r (filter (λ m. lives m) found) ≡ own p.key → ((m : Peer) → IsAmong m found → IsMade m) → AllByRecursion (λ s. IsMade s.0 → IsPutTrue w p s.0 s.1) asks
      → IsPutTrail is_of_put holds ring.r found asks true → IsAckHeld w p
  acked_held w p found asks is made h put = record {
    owner = one.0.0;
    owns = asked_own (λ m. lives m) is_of_put ring.r ring.stands.covered.positive found (own p.key) is (own_distinct p.key) asks answers (λ t. ring.r ≤ answered_in is_of_put t) (λ t e. e) put.asks one.0 one.1 holder_lives;
    holds = taken.0;
    all = λ room. since_now w p (λ m i.
        let asked = owner_asked (λ m. lives m) is_of_put ring.r ring.stands.covered.positive found (own p.key) is (own_distinct p.key) asks answers (λ t. ring.r ≤ answered_in is_of_put t) (λ e. e) put.asks m i in
        let s = among_asks m asks asked in
        let truth = true_of s.0 s.1 in
        subst (λ x. IsHeldFor w p x) s.2 (truth.held (truth.takes room taken.1 (subst (λ x. lives x ≡ true) (sym s.2) (owner_lives p.key m i)))).0);
  }
    where
      made_of : (s : Peer × Answer) → IsAmong s asks → IsMade s.0
      made_of s i = made s.0 (asked_found found asks put.asks.once put.asks.firsts put.asks.order s i)

      true_of : (s : Peer × Answer) → IsAmong s asks → IsPutTrue w p s.0 s.1
      true_of s i = all-among (λ (x : Peer × Answer). IsMade x.0 → IsPutTrue w p x.0 x.1) s asks h i (made_of s i)

      answers : AllByRecursion (λ s. is_of_put s.1 ≡ lives s.0) asks
      answers = all_from (λ (s : Peer × Answer). is_of_put s.1 ≡ lives s.0) asks (λ s i. (true_of s i).answers)

      some : 1 ≤ answered_in holds asks
      some = ⊎_elim (λ many. let pos = ring.stands.covered.positive in omega (arith, many, pos)) (λ few. few.1) put.ends

      one : (s : Peer × Answer) × IsAmong s asks × (holds s.1 ≡ true)
      one = some_holds asks some

      holder_lives : lives one.0.0 ≡ true
      holder_lives = sym (true_of one.0 one.1).answers ∙ holder_answers one.0.1 one.2

      taken : IsHeldFor w p one.0.0 × IsFit (kind_of p) p.key p.bytes
      taken = (true_of one.0 one.1).held one.2

  pub put_ends : (w : World) (p : Post) (trail : List Heard) (came : Result Bool Miss) → IsRingOf w → AreTrue w (Some p) trail → IsPutOfPost ring.r (entries_by ring.base) p trail came → acknowledged came ≡ true → IsAckHeld w p
  put_ends w p trail came h all (no_route looks found is l nobody result_is) acked = let no = ap acknowledged result_is in absurd cc
  put_ends w p trail came h all (of_owners looks asks found owned is l some ends) acked =
      let parts : AreTrue w (Some p) (told_all (ask.Route p.key) looks ++ told_all (put_question p) asks) = subst (AreTrue w (Some p)) is all in
      let found_so = finds w p.key looks found h (looks_true w (Some p) p.key looks (all-left (λ (x : Heard). IsTrueAt w (Some p) x.kind x) (told_all (ask.Route p.key) looks) (told_all (put_question p) asks) parts)) l in
      let same = owned_is p.key found owned found_so.list found_so.found_is some in
      acked_held w p owned asks (ap (λ (x : List Peer). take ring.r (filter (λ m. lives m) x)) same ∙ found_so.owners_are) (λ m i. found_so.made m (subst (IsAmong m) same i))
      (puts_true w p asks (all-right (λ (x : Heard). IsTrueAt w (Some p) x.kind x) (told_all (ask.Route p.key) looks) (told_all (put_question p) asks) parts))
      (subst (IsPutTrail is_of_put holds ring.r owned asks) (sym (ap acknowledged ends.2) ∙ acked) ends.1)

  pub ack_later : (w v : World) (p : Post) → ((b : List ℕ) → Contains w.met b → Contains v.met b) → HeldStays w v → IsAckHeld w p → IsAckHeld v p
  ack_later w v p grows held h = record {
    owner = h.owner;
    owns = h.owns;
    holds = held_for w v p h.owner grows held h.holds;
    all = λ room.
        let a = h.all room in
        record { before = a.before; ascending = a.ascending; members = a.members; few = a.few; held = λ m i l. held_for w v p m grows held (a.held m i l) };
  }
