-- A refresh of which each head and record was given right ends in its turn.
use Rattle.std.proofs.Common.{◌≡◌, ◌≢◌, ◌⊎◌, inl, inr, ⊎_elim, ℕ, List, [], ◌∷◌, ◌++◌, map, Option, Some, None, Result, Ok, Err, refl, sym, ap, ◌∙◌, subst, Contains}
use Rattle.std.specs.Prelude.{false, filter_map, option_map}
use Rattle.std.specs.List.{cons_option}
use Rattle.std.proofs.lemmas.List.Elements.{Contains-append_cases, Contains-append_right}
use Rattle.ivy_base.specs.declared.key.Key.{Key}
use Rattle.ivy_base.specs.declared.key.PubKey.{PubKey}
use Rattle.ivy_base.specs.Naming.{head_key_of, name}
use Rattle.log_model.specs.Record.{Record}
use Rattle.log_model.specs.declared.chain_fault.ChainFault.{ChainFault}
use Rattle.log_model.specs.Vector.{Stamp}
use Rattle.log_model.proofs.Lists.{each, here, in_cons, in_nothing}
use Rattle.ring_model.specs.Gets.{Damaged, EndsBlock, EndsHeads, Got, HasBlock, Missing, Right, given, judged}
use Rattle.ring_model.specs.Members.{IsAmong}
use Rattle.dht_ids.specs.declared.ask.Answer.{Answer}
use Rattle.dht_ids.specs.declared.ask.Answer.TheVariants as answer
use Rattle.dht_ids.specs.declared.ask.Ask.TheVariants as ask
use Rattle.dht_ids.specs.declared.ask.AskKind.TheVariants as kind
use Rattle.dht_ids.specs.declared.ask.Heard.{Heard}
use Rattle.dht_ids.specs.declared.judge.Judged.{Judged}
use Rattle.dht_ids.specs.declared.peer.Peer.{Peer}
use Rattle.dhash_model.specs.Execution.{Told, result_of, told_all}
use Rattle.dhash_model.specs.Execution.IsExecution.{no_route, of_owners}
use Rattle.dhash_model.specs.GetBlock.{IsGetOfBlock, block_in}
use Rattle.dhash_model.specs.GetHead.{IsGetOfHead}
use Rattle.dhash_model.specs.Signed.{hss_judged}
use Rattle.dhash_model.specs.declared.miss.Miss.{Miss}
use Rattle.nfs_model.specs.declared.replies.NfsStatus.{NfsStatus}
use Rattle.nfs_model.specs.declared.replies.NfsStatus.TheVariants as status
use Rattle.turn_model.specs.Turn.{Asked}
use Rattle.agent_model.specs.Standing.{Chain, Refresh}
use Rattle.session_model.specs.Brought.{BlockOf, Brought, HeadsOf, Part, WantedOfRing, brought_in}
use Rattle.session_model.specs.Refreshing.{FailsBy, FetchBase, Fetches, FetchesAll, Loaded, LoadsFor, Note, RefreshEnd, Refreshes, end_of_log}
use Rattle.session_model.specs.Refreshing.Fetches.{wants_heads, no_heads, of_heads, of_own}
use Rattle.session_model.specs.Refreshing.FetchesAll.{all, stays, goes_on as all_go_on}
use Rattle.session_model.specs.Refreshing.Refreshes.{loading, fetching}
use Rattle.session_model.specs.Walks.{Gives, GivesNone, Lacks, LogEnd, Misses, Stops, Trial, Tries, WalkEnd, Walks}
use Rattle.session_model.specs.Walks.Walks.{came as all_came, wants as next_wanted, misses as one_misses, garbled as one_garbled, back as one_back}
use Rattle.session_model.specs.Walks.Tries.{none as none_tried, wants as trial_wants, misses as trial_misses, gives as trial_gives, passes as trial_passes, garbled as trial_garbled}
use Rattle.session_model.specs.Replies.{Asks, said_of}
use Rattle.session_model.specs.Sessions.{Gets, Said, Session}
use Rattle.session_model.specs.Sessions.Gets.{content as got_content, heads as got_heads}
use Rattle.session_laws.specs.Going.{IsMissed}
use Rattle.script_driver.specs.Run.{Goes, Outcome}
use Rattle.script_model.specs.declared.command.Command.{Command}
use Rattle.script_model.specs.declared.command.Command.TheVariants as command
use Rattle.world_model.specs.Calls.{shown_end}
use Rattle.world_model.specs.Logs.{Played}
use Rattle.world_model.specs.Steps.{Configuration}
use Rattle.world_model.specs.GhostState.{HadTurn}
use Rattle.world_laws.specs.Causes.{HasCause}
use Rattle.world_laws.specs.Causes.HasCause.{alone, missed as has_missed, no_memory, turned}
use Rattle.world_laws.specs.Headline.{IsOnReplay, StepsBeginAt, TurnHolds}
use Rattle.world_laws.proofs.OneMessages.{reply_or_turn}
use Rattle.world_laws.proofs.SignedHeads.{from_map}
use Rattle.stage_laws.specs.Given.{EndsInTurn, IsGivenAll, IsGivenRight, RefreshesAreComplete, SaysNoMemory, WasGiven}
use Rattle.stage_laws.specs.Outputs.{ShowsStatus}
use Rattle.stage_laws.specs.Statuses.{is_of_tree}
use Rattle.stage_laws.specs.Told.{CameIn, IsTold, PartsCameIn}
use Rattle.stage_laws.specs.Told.CameIn.{available, by_get}
use Rattle.stage_laws.proofs.Outputs.{own_refusal, refuses, turn_told}
use Rattle.stage_laws.proofs.Told.{AllCameIn, begins_in, session_in, steps_came}

-- ---- what a get brings

-- a route is no get
routes_only : (key : Key) (looks : Told) (h : Heard) → Contains (told_all (ask.Route key) looks) h → h.kind ≡ kind.Get → ⊥
routes_only key [] h among is = in_nothing h among
routes_only key (s ∷ looks) h among is = ⊎_elim (λ e. no_route_gets (ap (λ (x : Heard). x.kind) e ∙ is)) (λ later. routes_only key looks h later is)
    (in_cons (record { node = s.0; kind = kind.Route; key = key; put = None; got = s.1 }) (told_all (ask.Route key) looks) h among)
  where
    no_route_gets : kind.Route ≡ kind.Get → ⊥
    no_route_gets e = cc e

-- what a node gave stands among what was given
told_given : (key : Key) (asks : Told) (h : Heard) (bytes : List ℕ) → Contains (told_all (ask.Get key) asks) h → h.got ≡ answer.Found bytes → IsAmong (h.node, bytes) (given block_in asks)
told_given key [] h bytes among is = absurd (in_nothing h among)
told_given key (s ∷ asks) h bytes among is = ⊎_elim
    (λ e. first s (ap (λ (x : Heard). x.node) e) (ap (λ (x : Heard). x.got) e ∙ is))
    (λ later. behind s (told_given key asks h bytes later is))
    (in_cons (record { node = s.0; kind = kind.Get; key = key; put = None; got = s.1 }) (told_all (ask.Get key) asks) h among)
  where
    first : (s : Peer × Answer) → s.0 ≡ h.node → s.1 ≡ answer.Found bytes → IsAmong (h.node, bytes) (given block_in (s ∷ asks))
    first s at gave = subst (λ (o : Option (Peer × List ℕ)). IsAmong (h.node, bytes) (cons_option o (given block_in asks)))
        (sym (ap (λ (a : Answer). option_map (λ (b : List ℕ). (s.0, b)) (block_in a)) gave)) (inl (ap (λ (n : Peer). (n, bytes)) at))

    behind : (s : Peer × Answer) → IsAmong (h.node, bytes) (given block_in asks) → IsAmong (h.node, bytes) (given block_in (s ∷ asks))
    behind s later = by (option_map (λ (b : List ℕ). (s.0, b)) (block_in s.1))
      where
        by : (o : Option (Peer × List ℕ)) → IsAmong (h.node, bytes) (cons_option o (given block_in asks))
        by None = later
        by (Some b) = inr later

-- of what was given some is judged
some_judged : (judge : List ℕ → Option Judged) (bs : List (Peer × List ℕ)) (b : Peer × List ℕ) (j : Judged) → IsAmong b bs → judge b.1 ≡ Some j → filter_map (λ (x : Peer × List ℕ). judge x.1) bs ≢ []
some_judged judge [] b j among is none = among
some_judged judge (x ∷ bs) b j among is none = by (judge x.1) refl among none (λ later. some_judged judge bs b j later is)
  where
    by : (o : Option Judged) → judge x.1 ≡ o → (x ≡ b) ⊎ IsAmong b bs → cons_option o (filter_map (λ (y : Peer × List ℕ). judge y.1) bs) ≡ [] → (IsAmong b bs → filter_map (λ (y : Peer × List ℕ). judge y.1) bs ≢ []) → ⊥
    by None says (inl e) empty rest = cc (sym says ∙ ap (λ (y : Peer × List ℕ). judge y.1) e ∙ is)
    by None says (inr later) empty rest = rest later empty
    by (Some k) says one empty rest = cc empty

module _ (r : ℕ) (entries : List Peer) (miss : Miss) where
  head_right : (owner : PubKey) (trail : List Heard) (came : Result (List Judged) Miss) → IsGetOfHead (hss_judged (head_key_of owner)) (head_key_of owner) r entries trail came
      → IsGivenRight (HeadsOf owner came) trail → IsMissed miss (HeadsOf owner came) → ⊥
  head_right owner trail came (no_route looks found is look out ends) (bytes, head, (h, among, is_get, gave), judges) lost = routes_only (head_key_of owner) looks h (subst (λ (l : List Heard). Contains l h) is among) is_get
  head_right owner trail came (of_owners looks asks found owners is look out ends) (bytes, head, (h, among, is_get, gave), judges) lost = ⊎_elim
      (λ looked. routes_only (head_key_of owner) looks h looked is_get)
      (λ asked. by ends.0 ends.1.ends ends.2 (some_judged (hss_judged (head_key_of owner)) (given block_in asks) (h.node, bytes) head (told_given (head_key_of owner) asks h bytes asked gave) judges))
      (Contains-append_cases (told_all (ask.Route (head_key_of owner)) looks) (told_all (ask.Get (head_key_of owner)) asks) h (subst (λ (l : List Heard). Contains l h) is among))
    where
      by : (got : Got Peer (List Judged)) → EndsHeads block_in (hss_judged (head_key_of owner)) asks got → came ≡ result_of (head_key_of owner) got → judged block_in (hss_judged (head_key_of owner)) asks ≢ [] → ⊥
      by (Right found) e ended some = subst (λ (c : Result (List Judged) Miss). IsMissed miss (HeadsOf owner c)) ended lost
      by (Damaged node) e ended some = some e.0
      by (Missing asked) e ended some = some e.0

  block_right : (key : Key) (trail : List Heard) (came : Result (List ℕ) Miss) → IsGetOfBlock key r entries trail came → (bytes : List ℕ) → WasGiven trail bytes → name bytes ≡ key → IsMissed miss (BlockOf key came) → ⊥
  block_right key trail came (no_route looks found is look out ends) bytes (h, among, is_get, gave) named lost = routes_only key looks h (subst (λ (l : List Heard). Contains l h) is among) is_get
  block_right key trail came (of_owners looks asks found owners is look out ends) bytes (h, among, is_get, gave) named lost = ⊎_elim
      (λ looked. routes_only key looks h looked is_get)
      (λ asked. by ends.0 ends.1.ends ends.2 (bytes, (h.node, told_given key asks h bytes asked gave, named)))
      (Contains-append_cases (told_all (ask.Route key) looks) (told_all (ask.Get key) asks) h (subst (λ (l : List Heard). Contains l h) is among))
    where
      by : (got : Got Peer (List ℕ)) → EndsBlock block_in key asks got → came ≡ result_of key got → HasBlock block_in key asks → ⊥
      by (Right found) e ended some = subst (λ (c : Result (List ℕ) Miss). IsMissed miss (BlockOf key c)) ended lost
      by (Damaged node) e ended some = e.0 some
      by (Missing asked) e ended some = e.0 some

  got_right : {want : WantedOfRing} {asks : List Heard} {brought : Brought} → Gets hss_judged r entries want asks brought → asks ≢ [] → IsGivenRight brought asks → IsMissed miss brought → ⊥
  got_right (got_heads {owner = owner} {asks = asks} came gets) some right lost = head_right owner asks came gets right lost
  got_right (got_content {key = key} {asks = asks} came gets) some right lost = ⊎_elim (λ none. some none) (λ was. block_right key asks came gets was.0 was.1 was.2 lost) right

  -- what came in and was given right isn't missed
  not_missed : (p : Part) → CameIn r entries p → IsGivenRight p.brought p.asks → IsMissed miss p.brought → ⊥
  not_missed _ (available key bytes) right lost = lost
  not_missed _ (by_get want brought asks some gets) right lost = got_right gets some right lost

-- ---- what a fetch fails by

module _ (miss : Miss) where
  -- among what was brought something is missed
  abbrev Lost : List Brought → Type 0
  Lost brought = (b : Brought) × Contains brought b × IsMissed miss b

  behind : (front more : List Brought) → Lost more → Lost (front ++ more)
  behind front more lost = (lost.0, Contains-append_right front more lost.0 lost.1, lost.2)

  walk_lost : {owner : PubKey} {n : ℕ} {key : Key} {brought : List Brought} {records : List Record} {end : WalkEnd} → Walks owner n key brought records end → end ≡ Misses miss → Lost brought
  walk_lost all_came is = absurd (cc is)
  walk_lost next_wanted is = absurd (cc is)
  walk_lost (one_misses {key = key} other) is = (BlockOf key (Err other), here (BlockOf key (Err other)) [], cc is)
  walk_lost (one_garbled bytes none) is = absurd (cc is)
  walk_lost (one_back {key = key} {more = more} bytes r is_record walk) is = behind (BlockOf key (Ok bytes) ∷ []) more (walk_lost walk is)

  same_stops : (a b : Miss) → Stops a ≡ Stops b → a ≡ b
  same_stops a b e = cc e

  tries_lost : {trial : Trial} {ts : List Stamp} {brought : List Brought} {faults : List ChainFault} {end : LogEnd} → Tries trial ts brought faults end → end ≡ Stops miss → Lost brought
  tries_lost none_tried is = absurd (cc is)
  tries_lost (trial_wants walk) is = absurd (cc is)
  tries_lost (trial_misses {miss = other} walk) is = walk_lost walk (ap Misses (same_stops other miss is))
  tries_lost (trial_gives walk sound onward) is = absurd (cc is)
  tries_lost (trial_passes {brought = brought} {more = more} walk some why tries) is = behind brought more (tries_lost tries is)
  tries_lost (trial_garbled {brought = brought} {more = more} walk tries) is = behind brought more (tries_lost tries is)

  fetch_lost : {over : FetchBase} {owner : PubKey} {brought : List Brought} {notes : List Note} {end : LogEnd} → Fetches over owner brought notes end → end ≡ Stops miss → Lost brought
  fetch_lost (wants_heads other) is = absurd (cc is)
  fetch_lost {owner = owner} (no_heads lost other) is = (HeadsOf owner (Err lost), here (HeadsOf owner (Err lost)) [], same_stops lost miss is)
  fetch_lost {owner = owner} (of_heads heads tried brought faults end other are tries) is = behind (HeadsOf owner (Ok heads) ∷ []) brought (tries_lost tries is)
  fetch_lost (of_own brought faults end own tries) is = tries_lost tries is

  stops_so : (log : LogEnd) → end_of_log log ≡ Some (FailsBy miss) → log ≡ Stops miss
  stops_so (Lacks want) e = cc e
  stops_so (Stops other) e = ap Stops (cc e)
  stops_so (Gives records) e = cc e
  stops_so GivesNone e = cc e

  all_lost : {over : FetchBase} {owners : List PubKey} {brought : List Brought} {notes : List Note} {chains : List Chain} {end : RefreshEnd} → FetchesAll over owners brought notes chains end → end ≡ FailsBy miss → Lost brought
  all_lost all is = absurd (cc is)
  all_lost (stays {log = log} fetch ends) is = fetch_lost fetch (stops_so log (ends ∙ ap Some is))
  all_lost (all_go_on {brought = brought} {more = more} fetch goes rest) is = behind brought more (all_lost rest is)

-- ---- a refresh

-- a mapped list in two parts
record IsSplit {A B : Type 0} (f : A → B) (xs : List A) (front rest : List B) : Type 0 where
  before : List A
  after : List A
  whole : xs ≡ before ++ after
  fronts : map f before ≡ front
  rests : map f after ≡ rest

split_map : {A B : Type 0} (f : A → B) (xs : List A) (front rest : List B) → map f xs ≡ front ++ rest → IsSplit f xs front rest
split_map f xs [] rest e = record { before = []; after = xs; whole = refl; fronts = refl; rests = e }
split_map f [] (b ∷ front) rest e = cc e
split_map {A = A} f (x ∷ xs) (b ∷ front) rest e =
    let first : f x ≡ b = cc e in
    let later = split_map f xs front rest (cc e) in
    record { before = x ∷ later.before; after = later.after; whole = ap (λ (l : List A). x ∷ l) later.whole; fronts = λ i. first i ∷ later.fronts i; rests = later.rests }

module _ (r : ℕ) (s : Session) (came : AllCameIn r s) (given_all : IsGivenAll s) (miss : Miss) where
  never_fails : {brought : List Brought} {notes : List Note} {refresh : Refresh} {end : RefreshEnd} → Refreshes s.standing brought notes refresh end → end ≡ FailsBy miss → brought_in s.parts ≡ brought → ⊥
  never_fails (loading loads) is same = cc is
  never_fails (fetching {loaded = loaded} {brought = brought} basis loads fetches) is same =
      let parts = split_map (λ (p : Part). p.brought) s.parts loaded brought same in
      let right = given_all parts.after (record { before = parts.before; basis = basis; loads = subst (λ (l : List Brought). LoadsFor s.standing.to_load l (Loaded basis)) (sym parts.fronts) loads; parts = parts.whole }) in
      let lost = all_lost miss fetches is in
      let part = from_map (λ (p : Part). p.brought) parts.after lost.0 (subst (λ (l : List Brought). Contains l lost.0) (sym parts.rests) lost.1) in
      let among = subst (λ (l : List Part). Contains l part.0) (sym parts.whole) (Contains-append_right parts.before parts.after part.0 part.1) in
      not_missed r s.entries miss part.0 (each (CameIn r s.entries) s.parts part.0 came among) (each (λ (p : Part). IsGivenRight p.brought p.asks) parts.after part.0 right part.1)
      (subst (IsMissed miss) part.2 lost.2)

-- ---- the law

module _ (next : Played) (end : Configuration) (r : ℕ) (came : AllCameIn r end.session) (turns : (h : HadTurn) → Contains next.1.turns h → TurnHolds h) (output : List ℕ) (xid : ℕ) (asked : Asked)
    (asks : Asks end.session.standing.view end.session.message xid asked) (given_all : IsGivenAll end.session) where
  shows_none : (h : HadTurn) (on : IsOnReplay h) (x : ℕ) → output ≡ shown_end end.session (said_of x h.turned.reply) → (s : NfsStatus) → is_of_tree s ≡ false → s ≢ status.RoFs → s ≢ status.ServerFault → ShowsStatus output s → ⊥
  shows_none h on x shown s own no_rofs no_fault shows = ⊎_elim no_rofs no_fault (own_refusal h on s (turn_told h on x end.session s own (record { xid = shows.xid; results = shows.results; rest = shows.rest; is = sym shown ∙ shows.is })))

  comes_of : (said : Said) → HasCause next.1 end.began.number end.session said → output ≡ shown_end end.session said → EndsInTurn next end said output ⊎ SaysNoMemory said
  comes_of _ (alone given is) shown = absurd (reply_or_turn end.session.standing.view end.session.message given xid asked is asks)
  comes_of _ (has_missed number also given miss asking refreshed is) shown = absurd (never_fails r end.session came given_all miss refreshed refl refl)
  comes_of _ (turned h number also given among of asking refreshed) shown = inl (record {
    turn = h;
    had = among;
    its = of;
    xid = number;
    says = refl;
    holds = turns h among;
    itself = λ on s t own is. refuses h on s t own is;
    shows = λ apart. (
      shows_none h (turns h among apart) number shown status.Jukebox refl (λ e. cc e) (λ e. cc e),
      shows_none h (turns h among apart) number shown status.Io refl (λ e. cc e) (λ e. cc e),
    );
  })
  comes_of _ (no_memory number also asking) shown = inr (number, refl)

-- all that the line's session was brought came in
start_came : (w : Played) → PartsCameIn w → (c : Command) (start : Configuration) (r : ℕ) → w.0.replicas ≡ Some r → StepsBeginAt w c start → AllCameIn r start.session
start_came w came (command.As log pieces) start r ringed (s, t, sends, begins, is) = subst (λ (x : Configuration). AllCameIn r x.session) (sym is) (begins_in r w.0 s t begins)
start_came w came (command.Finish name) start r ringed (s, named, is) =
    let found = session_in w.0.sessions name s named in
    subst (λ (x : Configuration). AllCameIn r x.session) (sym is) (subst (AllCameIn r) found.2 (came r found.0 ringed found.1))
start_came w came _ start r ringed begins = absurd begins

pub refreshes_are_complete : (w : Played) (line : List ℕ) (outcome : Outcome Played) → IsTold w → ((next : Played) (output : List ℕ) → outcome ≡ Goes next output → IsTold next) → RefreshesAreComplete w line outcome
refreshes_are_complete w line outcome told then c next output is goes caused xid asked asks given_all =
    let ends = caused.ends in
    let came = steps_came ends.replicas ends.runs (start_came w told.parts c ends.start ends.replicas ends.ringed ends.begins) in
    comes_of next caused.end ends.replicas came (then next output goes).turns output xid asked asks given_all caused.said caused.cause caused.shown
