-- The fetch with its gets: how it goes on, and what it gives.
use Rattle.std.specs.Prelude.{cond}
use Rattle.std.proofs.Common.{◌≡◌, inl, inr, Bool, true, false, if◌then◌else◌, ℕ, ◌+◌, ◌-◌, ◌*◌, ◌<◌, ◌≤◌, List, [], ◌∷◌, ◌++◌, map, Option, Some, None, Result, Ok, Err, IfOk, refl, sym, ap, ◌∙◌, subst, arith}
use Rattle.std.proofs.lemmas.List.{map-append}
use Rattle.std.proofs.lemmas.List.Sums.{sum_by_push}
use Rattle.ivy_base.specs.declared.key.Key.{Key}
use Rattle.ivy_base.specs.declared.key.PubKey.{PubKey}
use Rattle.ivy_base.specs.declared.memory.Memory.{Memory}
use Rattle.ivy_base.specs.Naming.{head_key_of}
use Rattle.log_model.specs.Vector.{Vector}
use Rattle.ring_model.proofs.Lists.{none_some}
use Rattle.dht_ids.specs.Asked.{told}
use Rattle.dht_ids.specs.declared.ask.Answer.{Answer}
use Rattle.dht_ids.specs.declared.ask.Ask.{Ask}
use Rattle.dht_ids.specs.declared.ask.Ask.TheVariants as ask
use Rattle.dht_ids.specs.declared.ask.Heard.{Heard}
use Rattle.dht_ids.specs.declared.ask.Want.TheVariants as next
use Rattle.dht_ids.specs.declared.peer.Peer.{Peer}
use Rattle.dhash_model.specs.declared.miss.Miss.{Miss}
use Rattle.dhash_client.specs.GetBlock.{block_begun}
use Rattle.dhash_client.specs.GetHead.{Judges, head_begun}
use Rattle.agent_model.specs.Standing as agent
use Rattle.session_model.specs.Brought.{Brought, HeadsOf, BlockOf, Part, WantedOfRing, Heads, Content, brought_in}
use Rattle.session_model.specs.Refreshing as session
use Rattle.session_model.specs.Refreshing.{RefreshEnd, Needs, FailsBy, Done, Fetches, FetchesAll}
use Rattle.session_model.specs.Refreshing.Fetches.{wants_heads, no_heads, of_heads, of_own as own_log}
use Rattle.session_model.specs.Refreshing.FetchesAll.{all as all_done, stays, goes_on as one_more}
use Rattle.session_model.specs.Sessions.{Gets}
use Rattle.session_model.specs.Walks.{LogEnd}
use Rattle.log_fetch.specs.declared.fetch.Fetched.{Fetched}
use Rattle.log_fetch.specs.declared.fetch.State.{State}
use Rattle.log_fetch.specs.declared.fetch.State.TheVariants as state
use Rattle.log_fetch.specs.declared.gather.Known.{Known}
use Rattle.log_fetch.specs.declared.gather.Stage.{Stage}
use Rattle.log_fetch.specs.declared.gather.Stage.TheVariants as stage
use Rattle.log_fetch.specs.declared.get.Came.{Came}
use Rattle.log_fetch.specs.declared.get.Came.TheVariants as came
use Rattle.log_fetch.specs.declared.get.Get.{Get}
use Rattle.log_fetch.specs.declared.get.Get.TheVariants as get
use Rattle.log_fetch.specs.declared.get.Progress.{Progress}
use Rattle.log_fetch.specs.declared.get.Progress.TheVariants as progress
use Rattle.log_fetch.specs.declared.get.Waiting.{Waiting}
use Rattle.log_fetch.specs.Fetching.{Fetching, FetchIsAfter, FetchIsWanted, FetchHasHeard, FetchWasGiven, GetIsOver, HasFailed, FetchStands, AreParts, HasBegun, HasFewGets, IsNeeded, IsSeen, IsSound, IsFor, IsGiven, Ends, EndsAs, aim, aim_in, begins_in, counted, failed_in, left_in, most_asks, in_progress, with_next}
use Rattle.log_fetch.specs.Fetching.AreParts.{no_parts, was_got, was_given}
use Rattle.log_fetch.specs.Counting.{came_of_get, gets_of, to_come}
use Rattle.log_fetch.specs.Gathering.{Gathering, Gathers, BlockGathered, heads_wanted, block_wanted, gets_in, is_wanting, seen}
use Rattle.log_fetch.specs.Gets.{GetIsAfter, GoesTo, HearsTo, HasCame, IsKept, IsOfGet, IsOfKind, IsSameGet, gets_left}
use Rattle.log_fetch.specs.Stepping.{BeginsFor, BroughtNothing, CameAs, FailsWith, Finishes, GetsFor, HearsNext, IsMiss, IsWantedKind, LeavesNoMore, StandsBehind, WantsNext}
use Rattle.log_fetch.proofs.Falling.{first_asks, begins as get_begins, goes_on as get_goes_on, is_over as get_is_over}
use Rattle.log_fetch.proofs.Counting.{gets_are_few}
use Rattle.log_fetch.proofs.Getting.{asks_of_get, heads_begin, block_begin}
use Rattle.log_fetch.proofs.Lefts.{heads_left, block_left}
use Rattle.log_fetch.proofs.Nothing.{asks_nobody, brings_nothing}
use Rattle.log_fetch.proofs.Stepping.{fails_by, free_goes_on, heads_needed, block_needed}

no_more : (n : ℕ) → n ≤ n
no_more n = omega arith

at_least : (n : ℕ) → 0 ≤ n
at_least n = omega arith

below : (a b c : ℕ) → a ≤ b → b < c → a < c
below a b c h k = omega (arith, h, k)

-- ---- what is known of a standing is enough

module _ (s : agent.Standing) (start : Vector) where
  abbrev little : agent.Standing
  little = record s { held = []; to_load = None; pending = [] }

  log_widens : {owner : PubKey} {brought : List Brought} {notes : List session.Note} {end : LogEnd} → Fetches (record { standing = little; start = start }) owner brought notes end → Fetches (record { standing = s; start = start }) owner brought notes end
  log_widens (wants_heads other) = wants_heads other
  log_widens (no_heads miss other) = no_heads miss other
  log_widens (of_heads heads tried brought faults end other are tries) = of_heads heads tried brought faults end other are tries
  log_widens (own_log brought faults end own tries) = own_log brought faults end own tries

  widens : {owners : List PubKey} {brought : List Brought} {notes : List session.Note} {chains : List agent.Chain} {end : RefreshEnd} → FetchesAll (record { standing = little; start = start }) owners brought notes chains end → FetchesAll (record { standing = s; start = start }) owners brought notes chains end
  widens all_done = all_done
  widens (stays log e) = stays (log_widens log) e
  widens (one_more log e rest) = one_more (log_widens log) e (widens rest)

  given_widens : (given : Fetched) (notes : List session.Note) (chains : List agent.Chain) (end : RefreshEnd) → IsGiven little start given notes chains end → IsGiven s start given notes chains end
  given_widens given notes chains (Needs want) h = h
  given_widens given notes chains (FailsBy miss) h = h
  given_widens given notes chains Done h = h

  module _ (k : Known) (is : IsSeen s k) where
    pub fetches_as : {brought : List Brought} {notes : List session.Note} {chains : List agent.Chain} {end : RefreshEnd} → FetchesAll (record { standing = seen k; start = start }) k.view.members brought notes chains end → FetchesAll (record { standing = s; start = start }) s.view.members brought notes chains end
    fetches_as {brought} {notes} {chains} {end} fetches = widens (subst (λ (x : agent.Standing). FetchesAll (record { standing = x; start = start }) x.view.members brought notes chains end) is fetches)

    pub given_as : (given : Fetched) (notes : List session.Note) (chains : List agent.Chain) (end : RefreshEnd) → IsGiven (seen k) start given notes chains end → IsGiven s start given notes chains end
    given_as given notes chains end h = given_widens given notes chains end (subst (λ (x : agent.Standing). IsGiven x start given notes chains end) is h)

    pub ends_as : (brought : List Brought) (given : Fetched) (end : RefreshEnd) → EndsAs (seen k) start brought given end → EndsAs s start brought given end
    ends_as brought given end e = (e.0, e.1, fetches_as e.2, given_as given e.0 e.1 end e.3)

-- ---- parts

brought_more : (parts : List Part) (p : Part) → brought_in (parts ++ p ∷ []) ≡ brought_in parts ++ p.brought ∷ []
brought_more parts p = map-append (λ (x : Part). x.brought) parts (p ∷ [])

-- ---- how many of them were got

gets_more : (parts : List Part) (p : Part) → gets_of (parts ++ p ∷ []) ≡ gets_of parts + cond (came_of_get p.brought p.asks) 1 0
gets_more parts p = sum_by_push (λ (x : Part). cond (came_of_get x.brought x.asks) 1 0) parts p

-- what came of a get that was in progress
counts_part : (gets : ℕ) (parts : List Part) (p : Part) → gets ≡ counted (gets_of parts + 1) → came_of_get p.brought p.asks ≡ true → gets ≡ counted (gets_of (parts ++ p ∷ []) + 0)
counts_part gets parts p h got =
    let more : gets_of (parts ++ p ∷ []) ≡ gets_of parts + 1 = gets_more parts p ∙ ap (λ (b : Bool). gets_of parts + cond b 1 0) got in
    h ∙ ap (λ (n : ℕ). counted n) (omega (arith, more))

-- a block that was available
given_is_none : (gets : ℕ) (parts : List Part) (p : Part) → gets ≡ counted (gets_of parts + 0) → came_of_get p.brought p.asks ≡ false → gets ≡ counted (gets_of (parts ++ p ∷ []) + 0)
given_is_none gets parts p h none =
    let same : gets_of (parts ++ p ∷ []) ≡ gets_of parts + 0 = gets_more parts p ∙ ap (λ (b : Bool). gets_of parts + cond b 1 0) none in
    h ∙ ap (λ (n : ℕ). counted n) (omega (arith, same))

-- by some ask
some_asks_got : (what : Brought) (heard : Heard) (asks : List Heard) → came_of_get what (heard ∷ asks) ≡ true
some_asks_got (HeadsOf owner came) heard asks = refl
some_asks_got (BlockOf key (Ok bytes)) heard asks = refl
some_asks_got (BlockOf key (Err miss)) heard asks = refl

asked_is_got : (what : Brought) (current : List Heard) (node : Peer) (question : Ask) (answer : Answer) → IsOfGet question → came_of_get what (current ++ told node question answer) ≡ true
asked_is_got what [] node (ask.Route key) answer of_get = some_asks_got what _ _
asked_is_got what [] node ask.Near answer of_get = absurd of_get
asked_is_got what [] node (ask.Notify peer) answer of_get = absurd of_get
asked_is_got what [] node (ask.Get key) answer of_get = some_asks_got what _ _
asked_is_got what [] node (ask.PutBlock key bytes) answer of_get = absurd of_get
asked_is_got what [] node (ask.PutHead key bytes) answer of_get = absurd of_get
asked_is_got what (heard ∷ asks) node question answer of_get = some_asks_got what heard _

-- by none, since nobody could be asked
nothing_is_got : (at : Stage) (given : Came) (what : Brought) → BroughtNothing given → CameAs at given what → came_of_get what [] ≡ true
nothing_is_got at (came.Heads given) what nothing is = ap (λ (b : Brought). came_of_get b []) is.2
nothing_is_got at (came.Block (Ok bytes)) what nothing is = absurd nothing
nothing_is_got at (came.Block (Err miss)) what nothing is = ap (λ (b : Brought). came_of_get b []) is.2

-- ---- the fetch

module _ {J : Type 0} (judges : Judges J) (judge : J) (replicas : ℕ) (entries : List Peer) where
  abbrev At : State J → ℕ → Fetching J
  At st gets = record { judge = judge; replicas = replicas; entries = entries; state = st; gets = gets }

  -- the next state, with the get that begins
  abbrev Next : State J → ℕ → State J → Fetching J
  Next old gets st = At st (with_next gets old)

  -- a get is for something that is wanted
  begins_one : (at : Stage) (x : Get J) → IsFor judge replicas at x → is_wanting at ≡ true
  begins_one (stage.Heads owner) x fits = refl
  begins_one (stage.Log t) x fits = refl
  begins_one stage.Through (get.Heads owner t) fits = cc fits.0
  begins_one stage.Through (get.Block t) fits = cc fits.0

  counts_one : (b : Bool) (gets n : ℕ) → b ≡ true → gets ≡ counted (n + 0) → (if b then counted (gets + 1) else gets) ≡ counted (n + 1)
  counts_one true gets n is h = omega (arith, h)
  counts_one false gets n is h = cc is

  counts_none : (b : Bool) (gets n : ℕ) → b ≡ false → gets ≡ counted n → (if b then counted (gets + 1) else gets) ≡ counted n
  counts_none true gets n is h = cc is
  counts_none false gets n is h = h

  -- what the get is for is wanted
  module _ (s : agent.Standing) (start : Vector) (parts : List Part) (g : Gathering) (is : IsSeen s g.known) (h : Gathers start (brought_in parts) g) where
    pub key_needed : (key : Key) → block_wanted g.stage ≡ Some key → IsNeeded (judges judge) replicas entries s start parts (Content key)
    key_needed key e = let w = block_needed start (brought_in parts) g h key e in (w.0, map agent.chain_of g.passed.batch.chains ++ [], fetches_as s start g.known is w.1)

    pub is_needed : (x : Get J) → IsFor judge replicas g.stage x → IsNeeded (judges judge) replicas entries s start parts (aim x)
    is_needed (get.Heads owner t) fits = (h.passed.noted ++ [], map agent.chain_of g.passed.batch.chains ++ [], fetches_as s start g.known is (heads_needed start (brought_in parts) g h owner fits.0))
    is_needed (get.Block t) fits = key_needed t.execution.look.key fits.0

  pub for_same : (at : Stage) (x y : Get J) → IsSameGet x y → IsFor judge replicas at x → IsFor judge replicas at y
  for_same at (get.Heads owner t) (get.Heads other u) same fits = (fits.0 ∙ ap (λ (o : PubKey). Some o) (sym same.0), same.1.1 ∙ fits.1, same.1.0.1 ∙ fits.2)
  for_same at (get.Heads owner t) (get.Block u) same fits = absurd same
  for_same at (get.Block t) (get.Heads other u) same fits = absurd same
  for_same at (get.Block t) (get.Block u) same fits = (fits.0 ∙ ap (λ (key : Key). Some key) (sym same.0), same.1 ∙ fits.1)

  aim_same : (x y : Get J) → IsSameGet x y → aim y ≡ aim x
  aim_same (get.Heads owner t) (get.Heads other u) same = ap (λ (o : PubKey). Heads o) same.0
  aim_same (get.Heads owner t) (get.Block u) same = absurd same
  aim_same (get.Block t) (get.Heads other u) same = absurd same
  aim_same (get.Block t) (get.Block u) same = ap (λ (key : Key). Content key) same.0

  -- ---- it wants something

  -- the ask that is to be heard, again
  pub asks_again : (g : Gathering) (x : Waiting J) (gets : ℕ) → IsFor judge replicas g.stage x.get → IsKept x
      → FetchIsWanted judges (At (state.Asking g x) gets) (Next (state.Asking g x) gets (state.Asking g x)) (next.Ask x.node x.question)
  asks_again g x gets fits kept = ((refl, refl, refl), kept, λ s start parts current h. (h, aim x.get, refl, is_needed s start parts g h.asking.0 h.asking.1 x.get fits))

  -- the first ask of a get
  pub asks_first : (g : Gathering) (x : Waiting J) (gets : ℕ) → BeginsFor judges judge replicas entries g.stage (Some (progress.Waits x))
      → FetchIsWanted judges (At (state.Free g) gets) (Next (state.Free g) gets (state.Asking g x)) (next.Ask x.node x.question)
  asks_first g x gets begins = (
    (refl, refl, refl),
    begins.2,
    λ s start parts current h. (
      record {
        whole = h.whole;
        asking = (h.asking.0, h.asking.1, subst (λ (l : List Heard). GetIsAfter judges entries l x.get) (sym h.asking.2) begins.1);
        sound = (begins.0, begins.2);
        begun = counts_one (is_wanting g.stage) gets (gets_of parts) (begins_one g.stage x.get begins.0) h.begun;
      },
      aim x.get,
      refl,
      is_needed s start parts g h.asking.0 h.asking.1 x.get begins.0,
    ),
  )

  -- its end, which waited to be told
  pub tells : (fetched : Fetched) (gets : ℕ) → Ends judges (At (state.Ended fetched) gets) (Next (state.Ended fetched) gets state.Over) fetched
  tells fetched gets = λ s start parts current h. (h.asking.0, parts, inl refl, h.whole, FailsBy h.asking.1, h.asking.2, h.begun)

  -- its end, where all members are through
  pub through : (g : Gathering) (fetched : Fetched) (gets : ℕ) → g.stage ≡ stage.Through → Finishes g fetched → Ends judges (At (state.Free g) gets) (Next (state.Free g) gets state.Over) fetched
  through g fetched gets all finishes = λ s start parts current h. (
    h.asking.2,
    parts,
    inl refl,
    h.whole,
    Done,
    ends_as s start g.known h.asking.0 (brought_in parts) fetched Done (finishes start (brought_in parts) h.asking.1),
    counts_none (is_wanting g.stage) gets (gets_of parts + 0) (ap is_wanting all) h.begun,
  )

  -- ---- a get brought something

  record Comes (g : Gathering) (x : Get J) (given : Came) (asks : List Heard) : Type 0 where
    pub what : Brought
    pub came_as : CameAs g.stage given what
    pub gets : Gets (judges judge) replicas entries (aim x) asks what

  comes : (g : Gathering) (x : Get J) (given : Came) (asks : List Heard) → IsFor judge replicas g.stage x → HasCame judges entries asks x given → Comes g x given asks
  comes g (get.Heads owner t) (came.Heads heads) asks fits h = record {
    what = HeadsOf owner heads;
    came_as = (owner, fits.0, refl);
    gets = subst (λ (n : ℕ). Gets (judges judge) n entries (Heads owner) asks (HeadsOf owner heads)) fits.2 (subst (λ (j : J). Gets (judges j) t.execution.replicas entries (Heads owner) asks (HeadsOf owner heads)) fits.1 h);
  }
  comes g (get.Heads owner t) (came.Block block) asks fits h = absurd h
  comes g (get.Block t) (came.Heads heads) asks fits h = absurd h
  comes g (get.Block t) (came.Block block) asks fits h = record {
    what = BlockOf t.execution.look.key block;
    came_as = (t.execution.look.key, fits.0, refl);
    gets = subst (λ (n : ℕ). Gets (judges judge) n entries (Content t.execution.look.key) asks (BlockOf t.execution.look.key block)) fits.1 (h (judges judge));
  }

  module _ (g : Gathering) (x : Get J) (fits : IsFor judge replicas g.stage x) (given : Came) where
    -- by no ask: it couldn't be had, since nobody may be asked
    pub fails_first : HasCame judges entries [] x given → BroughtNothing given → (miss : Miss) → IsMiss given miss → (fetched : Fetched) (gets : ℕ) → FailsWith g miss fetched → Ends judges (At (state.Free g) gets) (Next (state.Free g) gets state.Over) fetched
    fails_first come nothing miss none fetched gets fails = λ s start parts current h.
        let c : Comes g x given [] = comes g x given [] fits come in
        let p : Part = record { brought = c.what; asks = [] } in
        let needed = is_needed s start parts g h.asking.0 h.asking.1 x fits in (
          h.asking.2,
          parts ++ p ∷ [],
          inr (asks_nobody judges entries x given come, aim x, needed, c.what, c.gets, refl),
          was_got parts (aim x) [] c.what h.whole needed c.gets,
          FailsBy miss,
          subst (λ (b : List Brought). EndsAs s start b fetched (FailsBy miss)) (sym (brought_more parts p))
              (ends_as s start g.known h.asking.0 (brought_in parts ++ c.what ∷ []) fetched (FailsBy miss) (fails_by g miss fetched fails given none start (brought_in parts) c.what c.came_as h.asking.1)),
          counts_part _ parts p (counts_one (is_wanting g.stage) gets (gets_of parts) (begins_one g.stage x fits) h.begun) (nothing_is_got g.stage given c.what nothing c.came_as),
        )

    -- by these asks
    module _ (s : agent.Standing) (start : Vector) (parts : List Part) (is : IsSeen s g.known) (h : Gathers start (brought_in parts) g) (whole : AreParts (judges judge) replicas entries s start parts) (asks : List Heard) (c : Comes g x given asks) (got : came_of_get c.what asks ≡ true) (gets : ℕ) (begun : gets ≡ counted (gets_of parts + 1)) where
      abbrev part : Part
      part = record { brought = c.what; asks = asks }

      parts_now : AreParts (judges judge) replicas entries s start (parts ++ part ∷ [])
      parts_now = was_got parts (aim x) asks c.what whole (is_needed s start parts g is h x fits) c.gets

      is_over : (st : State J) (back : Option (Key × List ℕ)) → StandsBehind g given (st, back) → GetIsOver judges s start parts asks (aim x) (At st gets) (At st gets) back
      is_over (state.Free after) back stands =
          let w = stands.1 start (brought_in parts) c.what c.came_as h in (
            c.what,
            c.gets,
            refl,
            record {
              whole = parts_now;
              asking = (subst (IsSeen s) (sym stands.0) is, subst (λ (b : List Brought). Gathers start b after) (sym (brought_more parts part)) w.0, refl);
              sound = tt;
              begun = counts_part gets parts part begun got;
            },
            w.1,
          )
      is_over (state.Asking after y) back stands = absurd stands
      is_over (state.Ended fetched) back stands =
          let w = stands start (brought_in parts) c.what c.came_as h in (
            c.what,
            c.gets,
            refl,
            record {
              whole = parts_now;
              asking = (
                refl,
                w.0,
                subst (λ (b : List Brought). EndsAs s start b fetched (FailsBy w.0)) (sym (brought_more parts part)) (ends_as s start g.known is (brought_in parts ++ c.what ∷ []) fetched (FailsBy w.0) w.1),
              );
              sound = tt;
              begun = counts_part gets parts part begun got;
            },
            w.2,
          )
      is_over state.Over back stands = absurd stands

  -- ---- it hears

  -- the get goes on
  pub hears_on : (g : Gathering) (x y : Waiting J) (answer : Answer) (gets : ℕ) → IsFor judge replicas g.stage x.get → HearsTo judges x.get answer (progress.Waits y)
      → FetchHasHeard judges (At (state.Asking g x) gets) (At (state.Asking g y) gets) answer None
  hears_on g x y answer gets fits hears = (
    (refl, refl, refl),
    λ s start parts current node question e h. (
      aim x.get,
      refl,
      is_needed s start parts g h.asking.0 h.asking.1 x.get fits,
      inl (
        ap (λ (w : WantedOfRing). Some w) (aim_same x.get y.get hears.0.0),
        λ none. cc (sym none ∙ hears.1),
        record { whole = h.whole; asking = (h.asking.0, h.asking.1, hears.0.1 entries current node question e h.asking.2); sound = (for_same g.stage x.get y.get hears.0.0 fits, hears.1); begun = h.begun },
        refl,
      ),
    ),
  )

  -- it is over
  pub hears_over : (g : Gathering) (x : Waiting J) (answer : Answer) (gets : ℕ) (given : Came) (st : State J) (back : Option (Key × List ℕ)) → IsFor judge replicas g.stage x.get → HearsTo judges x.get answer (progress.Comes given) → StandsBehind g given (st, back)
      → FetchHasHeard judges (At (state.Asking g x) gets) (At st gets) answer back
  hears_over g x answer gets given st back fits hears stands = (
    (refl, refl, refl),
    λ s start parts current node question e h.
        let asks : List Heard = current ++ told node question answer in (
          aim x.get,
          refl,
          is_needed s start parts g h.asking.0 h.asking.1 x.get fits,
          inr
              (is_over g x.get fits given s start parts h.asking.0 h.asking.1 h.whole asks (comes g x.get given asks fits (hears.2 entries current node question e h.asking.2))
              (asked_is_got _ current node question answer (asks_of_get x.get node question e)) gets h.begun st back stands),
        ),
  )

  -- what always holds still does
  pub sound_on : (g : Gathering) (x y : Waiting J) (answer : Answer) → IsFor judge replicas g.stage x.get → HearsTo judges x.get answer (progress.Waits y) → IsSound judge replicas (state.Asking g y)
  sound_on g x y answer fits hears = (for_same g.stage x.get y.get hears.0.0 fits, hears.1)

  pub sound_over : (g : Gathering) (given : Came) (st : State J) (back : Option (Key × List ℕ)) → StandsBehind g given (st, back) → IsSound judge replicas st
  sound_over g given (state.Free after) back stands = tt
  sound_over g given (state.Asking after y) back stands = absurd stands
  sound_over g given (state.Ended fetched) back stands = tt
  sound_over g given state.Over back stands = tt

  -- ---- a block was available

  pub was_taken : (g after : Gathering) (bytes : List ℕ) (gets : ℕ) → after.known ≡ g.known → BlockGathered g bytes after → FetchWasGiven judges (At (state.Free g) gets) (At (state.Free after) gets) bytes
  was_taken g after bytes gets known gathered = (
    (refl, refl, refl),
    λ s start parts current key want h.
        let needed = key_needed s start parts g h.asking.0 h.asking.1 key want in
        let p : Part = record { brought = BlockOf key (Ok bytes); asks = [] } in (
          h.asking.2,
          needed,
          record {
            whole = was_given parts key bytes h.whole needed;
            asking = (subst (IsSeen s) (sym known) h.asking.0, subst (λ (b : List Brought). Gathers start b after) (sym (brought_more parts p)) (gathered start (brought_in parts) key want h.asking.1), refl);
            sound = tt;
            begun = given_is_none gets parts p h.begun refl;
          },
        ),
  )

  -- ---- it starts

  pub first_state : (s : agent.Standing) (start : Vector) (g : Gathering) → IsSeen s g.known → Gathers start [] g → FetchIsAfter judges s start [] [] (At (state.Free g) 0)
  first_state s start g is h = record { whole = no_parts; asking = (is, h, refl); sound = tt; begun = omega arith }

  -- ---- the get of what is wanted

  pub for_heads : (at : Stage) (owner : PubKey) (x : Get J) → heads_wanted at ≡ Some owner → x ≡ get.Heads owner (head_begun judge (head_key_of owner) replicas entries) → GetsFor judges judge replicas entries at (Some x)
  for_heads at owner x want is = subst (λ (y : Get J). GetsFor judges judge replicas entries at (Some y)) (sym is) ((want, refl, refl), heads_begin judges owner judge replicas entries, first_asks)

  pub for_block : (at : Stage) (key : Key) (x : Get J) → block_wanted at ≡ Some key → x ≡ get.Block (block_begun key replicas entries) → GetsFor judges judge replicas entries at (Some x)
  for_block at key x want is = subst (λ (y : Get J). GetsFor judges judge replicas entries at (Some y)) (sym is) ((want, refl), block_begin judges key replicas entries, first_asks)

  -- its first ask
  module _ (at : Stage) (x : Get J) (gets : GetsFor judges judge replicas entries at (Some x)) where
    pub begins : (p : Progress J) → GoesTo judges x p → BeginsFor judges judge replicas entries at (Some p)
    begins (progress.Waits y) to = (for_same at x y.get to.0 gets.0, to.3 entries [] gets.1, to.1, below (gets_left y.get) (gets_left x) most_asks to.2 gets.2)
    begins (progress.Comes given) to = (brings_nothing judges entries x given (to.1 entries [] gets.1), x, gets.0, to.1 entries [] gets.1)

  -- something may still be wanted
  pub some_left : (g : Gathering) (x : Get J) → IsFor judge replicas g.stage x → 0 < gets_in g
  some_left g (get.Heads owner t) fits = heads_left g (λ none. cc (sym none ∙ fits.0))
  some_left g (get.Block t) fits = block_left g (λ none. cc (sym none ∙ fits.0))

  -- ---- without a get on its way

  pub has_failed : (st : State J) (gets : ℕ) → IsSound judge replicas st → HasFailed judges (At st gets) (failed_in st)
  has_failed (state.Free g) gets sound = λ s start parts current h none.
      let w = free_goes_on start (brought_in parts) g h.asking.1 in
      (h.asking.2, w.notes, w.chains, w.end, fetches_as s start g.known h.asking.0 w.fetches, w.no_miss)
  has_failed (state.Asking g x) gets sound = λ s start parts current h none. absurd (none_some (x.node, x.question) (sym none ∙ sound.1))
  has_failed (state.Ended fetched) gets sound = λ s start parts current h none. (h.asking.0, h.asking.2.0, h.asking.2.1, FailsBy h.asking.1, h.asking.2.2, refl)
  has_failed state.Over gets sound = λ s start parts current h none. absurd h.asking

  pub not_failed : (st : State J) → ((given : Fetched) → st ≡ state.Ended given → ⊥) → failed_in st ≡ false
  not_failed (state.Free g) other = refl
  not_failed (state.Asking g x) other = refl
  not_failed (state.Ended fetched) other = absurd (other fetched refl)
  not_failed state.Over other = refl

  -- ---- from one state to the next

  pub wants_again : (g : Gathering) (x : Waiting J) (gets : ℕ) → IsSound judge replicas (state.Asking g x) → WantsNext judges (At state.Over gets) (state.Asking g x) (state.Asking g x, next.Ask x.node x.question)
  wants_again g x gets sound = (asks_again g x gets sound.0 sound.1, sound, no_more (gets_left x.get + most_asks * (gets_in g - 1)))

  pub wants_first : (g : Gathering) (x : Waiting J) (gets : ℕ) → BeginsFor judges judge replicas entries g.stage (Some (progress.Waits x)) → WantsNext judges (At state.Over gets) (state.Free g) (state.Asking g x, next.Ask x.node x.question)
  wants_first g x gets begins = (asks_first g x gets begins, (begins.0, begins.2), get_begins most_asks (gets_in g) (gets_left x.get) (some_left g x.get begins.0) begins.3)

  pub wants_nothing : (g : Gathering) (given : Came) (miss : Miss) (fetched : Fetched) (gets : ℕ) → BeginsFor judges judge replicas entries g.stage (Some (progress.Comes given)) → IsMiss given miss → FailsWith g miss fetched
      → WantsNext judges (At state.Over gets) (state.Free g) (state.Over, next.Done fetched)
  wants_nothing g given miss fetched gets begins none fails = (fails_first g begins.1 begins.2 given begins.3 begins.0 miss none fetched gets fails, tt, at_least (most_asks * gets_in g))

  pub wants_end : (g : Gathering) (fetched : Fetched) (gets : ℕ) → g.stage ≡ stage.Through → Finishes g fetched → WantsNext judges (At state.Over gets) (state.Free g) (state.Over, next.Done fetched)
  wants_end g fetched gets all finishes = (through g fetched gets all finishes, tt, at_least (most_asks * gets_in g))

  pub wants_told : (fetched : Fetched) (gets : ℕ) → WantsNext judges (At state.Over gets) (state.Ended fetched) (state.Over, next.Done fetched)
  wants_told fetched gets = (tells fetched gets, tt, no_more 0)

  pub hears_waits : (g : Gathering) (x y : Waiting J) (answer : Answer) (gets : ℕ) → IsSound judge replicas (state.Asking g x) → HearsTo judges x.get answer (progress.Waits y)
      → HearsNext judges (At state.Over gets) (state.Asking g x) answer (state.Asking g y, None)
  hears_waits g x y answer gets sound to = (hears_on g x y answer gets sound.0 to, sound_on g x y answer sound.0 to, get_goes_on most_asks (gets_in g - 1) (gets_left y.get) (gets_left x.get) to.2)

  pub hears_comes : (g : Gathering) (x : Waiting J) (answer : Answer) (gets : ℕ) (given : Came) → IsSound judge replicas (state.Asking g x) → HearsTo judges x.get answer (progress.Comes given) → (r : Result (State J × Option (Key × List ℕ)) Memory)
      → IfOk r (StandsBehind g given) → IfOk r (λ (w : State J × Option (Key × List ℕ)). LeavesNoMore g w.0) → IfOk r (HearsNext judges (At state.Over gets) (state.Asking g x) answer)
  hears_comes g x answer gets given sound to (Ok (st, back)) stands left =
      (hears_over g x answer gets given st back sound.0 to stands, sound_over g given st back stands, get_is_over most_asks (gets_in g - 1) (left_in st) (gets_left x.get) left to.1)
  hears_comes g x answer gets given sound to (Err e) stands left = tt

  -- ---- what was brought comes to some end

  pub stands_at : (st : State J) (gets : ℕ) (s : agent.Standing) (start : Vector) (parts : List Part) (current : List Heard) → FetchIsAfter judges s start parts current (At st gets)
      → (notes : List session.Note) × (chains : List agent.Chain) × (end : RefreshEnd) × FetchesAll (record { standing = s; start = start }) s.view.members (brought_in parts) notes chains end × ((want : WantedOfRing) → aim_in st ≡ Some want → end ≡ Needs want)
  stands_at (state.Free g) gets s start parts current h =
      let w = free_goes_on start (brought_in parts) g h.asking.1 in (w.notes, w.chains, w.end, fetches_as s start g.known h.asking.0 w.fetches, λ want e. cc e)
  stands_at (state.Asking g x) gets s start parts current h =
      let n = is_needed s start parts g h.asking.0 h.asking.1 x.get h.sound.0 in (n.0, n.1, Needs (aim x.get), n.2, λ want e. cc e)
  stands_at (state.Ended fetched) gets s start parts current h = (h.asking.2.0, h.asking.2.1, FailsBy h.asking.1, h.asking.2.2, λ want e. cc e)
  stands_at state.Over gets s start parts current h = absurd h.asking

-- what comes is of the kind that is wanted
pub kind_wanted : {J : Type 0} (judge : J) (replicas : ℕ) (at : Stage) (x : Get J) (given : Came) → IsFor judge replicas at x → IsOfKind x (next.Done given) → IsWantedKind at given
kind_wanted judge replicas at (get.Heads owner t) (came.Heads heads) fits kind = λ none. cc (sym none ∙ fits.0)
kind_wanted judge replicas at (get.Heads owner t) (came.Block block) fits kind = absurd kind
kind_wanted judge replicas at (get.Block t) (came.Heads heads) fits kind = absurd kind
kind_wanted judge replicas at (get.Block t) (came.Block block) fits kind = λ none. cc (sym none ∙ fits.0)

-- ---- how many gets it began

pub few_gets : {J : Type 0} (f : Fetching J) → HasFewGets f f.gets
few_gets {J} f = by f.state f.gets
  where
    by : (st : State J) (gets : ℕ) → HasFewGets (record { judge = f.judge; replicas = f.replicas; entries = f.entries; state = st; gets = gets }) gets
    by (state.Free g) gets = λ s start parts begun notes chains end fetches wanted. let few = gets_are_few _ s.view.members parts notes chains end fetches in omega (arith, few, begun)
    by (state.Asking g x) gets = λ s start parts begun notes chains end fetches wanted.
        let few = gets_are_few _ s.view.members parts notes chains end fetches in
        let one : to_come end ≡ 1 = ap to_come (wanted (aim x.get) refl) in omega (arith, few, begun, one)
    by (state.Ended fetched) gets = λ s start parts begun notes chains end fetches wanted. let few = gets_are_few _ s.view.members parts notes chains end fetches in omega (arith, few, begun)
    by state.Over gets = λ s start parts begun notes chains end fetches wanted. let few = gets_are_few _ s.view.members parts notes chains end fetches in omega (arith, few, begun)

pub fetch_stands : {J : Type 0} (judges : Judges J) → FetchStands judges
fetch_stands judges f s start parts current h = stands_at judges f.judge f.replicas f.entries f.state f.gets s start parts current h
