-- A get in a world of a stretch, some of whose nodes have stopped, gives what an owner holds.
use Rattle.std.proofs.Common.{◌≡◌, ◌⊎◌, inl, inr, ⊎_elim, ℕ, zero, suc, ◌≤◌, true, false, filter, List, [], ◌∷◌, ◌++◌, take, Option, Some, None, Result, Ok, Err, refl, sym, ap, ◌∙◌, subst, arith, Contains, is_some, option_map}
use Rattle.std.specs.Prelude.{filter_map}
use Rattle.std.specs.List.{AllByRecursion, cons_option}
use Rattle.std.specs.Option.{option_map_or}
use Rattle.ivy_base.specs.declared.key.Key.{Key}
use Rattle.ring_model.specs.Gets.{AreAsks, Damaged, Got, HasBlock, IsBlockGet, IsHeadGet, Missing, Right, answered_in, given, judged}
use Rattle.ring_model.specs.Members.{IsAmong}
use Rattle.ring_model.proofs.Lists.{all-among, all-left, all-right, all_from, some_same}
use Rattle.dhash_model.specs.Signed.{hss_judged}
use Rattle.log_model.proofs.Lists.{each_append}
use Rattle.dht_ids.specs.Asked.{IsForData, told}
use Rattle.dht_ids.specs.declared.ask.Answer.{Answer}
use Rattle.dht_ids.specs.declared.ask.Answer.TheVariants as answer
use Rattle.dht_ids.specs.declared.ask.Ask.{Ask}
use Rattle.dht_ids.specs.declared.ask.Ask.TheVariants as ask
use Rattle.dht_ids.specs.declared.ask.AskKind.{AskKind}
use Rattle.dht_ids.specs.declared.ask.AskKind.TheVariants as kind
use Rattle.dht_ids.specs.declared.ask.Heard.{Heard}
use Rattle.dht_ids.specs.declared.judge.Judged.{Judged}
use Rattle.dht_ids.specs.declared.peer.Peer.{Peer}
use Rattle.dhash_model.specs.declared.miss.Miss.TheVariants as miss
use Rattle.dhash_model.specs.Execution.{IsExecution, Told, result_of, told_all, outcome}
use Rattle.dhash_model.specs.Execution.IsExecution.{no_route, of_owners}
use Rattle.dhash_model.specs.GetBlock.{IsGetOfBlock, block_in, is_of_get}
use Rattle.dhash_model.specs.GetHead.{IsGetOfHead}
use Rattle.dhash_model.specs.declared.miss.Miss.{Miss}
use Rattle.dhash_model.specs.Stores.{Block, bytes_at}
use Rattle.dhash_model.specs.declared.kind.BlockKind.{BlockKind}
use Rattle.dhash_model.specs.declared.kind.BlockKind.TheVariants.{Content, Head}
use Rattle.world_model.specs.World.{World}
use Rattle.world_model.specs.Fates.{FateOf, Fates, asking}
use Rattle.world_model.specs.Holding.{held_in, block_rank}
use Rattle.round_laws.proofs.Fixing.{fates_first, fates_none}
use Rattle.round_laws.proofs.Holding.{held_at, node_is}
use Rattle.round_laws.proofs.Storing.{under}
use Rattle.calm_laws.proofs.CalmNodes.{HeldStays, IsHeld}
use Rattle.calm_laws.proofs.CalmPuts.{entries_by}
use Rattle.calm_laws.proofs.BlockKinds.{FitsIn, IsOf, OfContent}
use Rattle.calm_laws.proofs.Asking.{among_asks, asked_found, owner_asked}
use Rattle.calm_laws.proofs.Holding.{AreOrderly}
use Rattle.calm_laws.proofs.Stretches.{Answers, IsMade, IsRingOf, IsRouted, Stretch, finds, is_routed, lives, own, own_distinct, owned_is, owner_lives, who_answers}
use Rattle.calm_laws.proofs.Stretches.Answers.{gives as has_answered, is_silent}
use Rattle.calm_laws.proofs.States.{ask_goes}

-- ---- lists

into_filtered : {A B : Type 0} (f : A → Option B) (xs : List A) (x : A) (y : B) → IsAmong x xs → f x ≡ Some y → IsAmong y (filter_map f xs)
into_filtered f [] x y i e = absurd i
into_filtered f (z ∷ xs) x y (inl s) e = subst (λ o. IsAmong y (cons_option o (filter_map f xs))) (sym (ap f s ∙ e)) (inl refl)
into_filtered {B = B} f (z ∷ xs) x y (inr i) e = by (f z) (into_filtered f xs x y i e)
  where
    by : (o : Option B) → IsAmong y (filter_map f xs) → IsAmong y (cons_option o (filter_map f xs))
    by None j = j
    by (Some b) j = inr j

from_filtered : {A B : Type 0} (f : A → Option B) (xs : List A) (y : B) → IsAmong y (filter_map f xs) → (x : A) × IsAmong x xs × (f x ≡ Some y)
from_filtered f [] y i = absurd i
from_filtered {A = A} {B = B} f (z ∷ xs) y i = by (f z) refl i (λ j. from_filtered f xs y j)
  where
    by : (o : Option B) → f z ≡ o → IsAmong y (cons_option o (filter_map f xs)) → (IsAmong y (filter_map f xs) → (x : A) × IsAmong x xs × (f x ≡ Some y)) → (x : A) × IsAmong x (z ∷ xs) × (f x ≡ Some y)
    by None e j later = let l = later j in (l.0, inr l.1, l.2)
    by (Some b) e (inl s) later = (z, inl refl, e ∙ ap (λ x. Some x) s)
    by (Some b) e (inr j) later = let l = later j in (l.0, inr l.1, l.2)

into_given : (asks : Told) (s : Peer × Answer) (bytes : List ℕ) → IsAmong s asks → block_in s.1 ≡ Some bytes → IsAmong (s.0, bytes) (given block_in asks)
into_given asks s bytes i e = into_filtered {B = Peer × List ℕ} (λ (x : Peer × Answer). option_map (λ b. (x.0, b)) (block_in x.1)) asks s (s.0, bytes) i (ap (option_map {U = Peer × List ℕ} (λ b. (s.0, b))) e)

from_given : (asks : Told) (node : Peer) (bytes : List ℕ) → IsAmong (node, bytes) (given block_in asks) → (s : Peer × Answer) × IsAmong s asks × (block_in s.1 ≡ Some bytes)
from_given asks node bytes i =
    let found = from_filtered {B = Peer × List ℕ} (λ (x : Peer × Answer). option_map (λ b. (x.0, b)) (block_in x.1)) asks (node, bytes) i in
    (found.0, found.1, by found.0.0 (block_in found.0.1) found.2)
  where
    by : (p : Peer) (o : Option (List ℕ)) → option_map {U = Peer × List ℕ} (λ b. (p, b)) o ≡ Some (node, bytes) → o ≡ Some bytes
    by p None e = cc e
    by p (Some b) e = ap (λ (x : Peer × List ℕ). Some x.1) (some_same (p, b) (node, bytes) e)

among_in : {X : Type 0} (x : X) (xs : List X) → IsAmong x xs → Contains xs x
among_in x [] i = absurd i
among_in x (y ∷ ys) (inl e) = subst (Contains (y ∷ ys)) e (0, omega arith, refl)
among_in x (y ∷ ys) (inr i) = let later = among_in x ys i in (suc later.0, omega (arith, later.1), later.2)

gives_bytes : (o : Option (List ℕ)) → is_of_get (option_map_or (λ bytes. answer.Found bytes) o answer.Nothing) ≡ true
gives_bytes None = refl
gives_bytes (Some b) = refl

block_told : (o : Option (List ℕ)) → block_in (option_map_or (λ bytes. answer.Found bytes) o answer.Nothing) ≡ o
block_told None = refl
block_told (Some b) = refl

some_block : (o : Option Block) (bytes : List ℕ) → option_map (λ (b : Block). b.bytes) o ≡ Some bytes → (c : Block) × (o ≡ Some c) × (c.bytes ≡ bytes)
some_block None bytes e = cc e
some_block (Some c) bytes e = (c, refl, cc e)

judged_head : (key : Key) (bytes : List ℕ) (least : ℕ) → is_some (hss_judged key bytes) ≡ true → least ≤ block_rank hss_judged key (record { kind = Head; bytes = bytes }) → (j : Judged) × (hss_judged key bytes ≡ Some j) × (least ≤ j.seq)
judged_head key bytes least some l = by (hss_judged key bytes) some l
  where
    by : (o : Option Judged) → is_some o ≡ true → least ≤ option_map_or (λ (seq : ℕ). seq) (option_map (λ (j : Judged). j.seq) o) 0 → (j : Judged) × (o ≡ Some j) × (least ≤ j.seq)
    by None e l = absurd cc
    by (Some j) e l = (j, refl, l)

module _ (ring : Stretch) where
  -- ---- answers

  -- a block of that kind and rank was given, or a greater one
  pub record IsGivenAs (key : Key) (kind : BlockKind) (least : ℕ) (got : Answer) : Type 0 where
    pub bytes : List ℕ
    pub gives : block_in got ≡ Some bytes
    pub of_kind : IsOf ring.end key kind bytes
    pub ranked : least ≤ block_rank hss_judged key (record { kind = kind; bytes = bytes })

  -- a live node answers a get, by what it holds
  pub record IsGot (w : World) (key : Key) (node : Peer) (got : Answer) : Type 0 where
    pub answers : is_of_get got ≡ lives ring node
    pub each_kind : (bytes : List ℕ) → block_in got ≡ Some bytes → (kind : BlockKind) × IsOf ring.end key kind bytes
    pub holder : lives ring node ≡ true → (kind : BlockKind) (least : ℕ) → IsHeld w key kind least node → IsGivenAs key kind least got

  abbrev IsGotAt : World → AskKind → Heard → Type 0
  IsGotAt w kind.Route h = IsMade ring h.node → IsRouted ring h.key h.node h.got
  IsGotAt w kind.Get h = IsMade ring h.node → IsGot w h.key h.node h.got
  IsGotAt w kind.PutBlock h = Unit {0}
  IsGotAt w kind.PutHead h = Unit {0}

  abbrev pub AreGot : World → List Heard → Type 0
  AreGot w trail = AllByRecursion (λ h. IsGotAt w h.kind h) trail

  got_so : (w v next : World) (to : Peer) (key : Key) (got : Answer) → IsRingOf ring v → AreOrderly ring.end v → HeldStays w v → FateOf hss_judged v to (ask.Get key) got next → IsMade ring to → IsGot w key to got
  got_so w v next to key got h orderly held fate made = by (who_answers ring v next to (ask.Get key) got h made fate)
    where
      by : Answers ring v to (ask.Get key) got next → IsGot w key to got
      by (is_silent s l) = record {
        answers = ap is_of_get s ∙ sym l;
        each_kind = λ bytes e. let no : None ≡ Some bytes = sym (ap block_in s) ∙ e in absurd cc;
        holder = λ live kind least i. let no : false ≡ true = sym l ∙ live in absurd cc;
      }
      by (has_answered n is me l same next_is) =
          let told_block : option_map (λ (b : Block). b.bytes) (under key n) ≡ block_in got = sym (ap block_in same ∙ block_told (bytes_at key n.blocks)) in
          record {
            answers = ap is_of_get same ∙ gives_bytes (bytes_at key n.blocks) ∙ sym l;
            each_kind = λ bytes e.
                let found = some_block (under key n) bytes (told_block ∙ e) in
                (found.0.kind, subst (IsOf ring.end key found.0.kind) found.2 ((orderly to.id n is).kinds key found.0 found.1));
            holder = λ live k least i.
                let j = held key k least to i in
                let was : held_in v key to ≡ under key n = ap (held_at key) (node_is v to n is me) in
                let here : under key n ≡ Some j.0 = sym was ∙ j.1 in
                record {
                  bytes = j.0.bytes;
                  gives = sym told_block ∙ ap (option_map (λ (b : Block). b.bytes)) here;
                  of_kind = subst (λ x. IsOf ring.end key x j.0.bytes) j.2 ((orderly to.id n is).kinds key j.0 here);
                  ranked = subst (λ x. least ≤ block_rank hss_judged key (record { kind = x; bytes = j.0.bytes })) j.2 j.3;
                };
          }

  pub record AfterGets (w next : World) (more : List Heard) : Type 0 where
    pub still : IsRingOf ring next
    pub orderly : AreOrderly ring.end next
    pub held : HeldStays w next
    pub got : AreGot w more

  pub gets_go : (question : Ask) (key : Key) → (question ≡ ask.Route key) ⊎ (question ≡ ask.Get key) → (looks : Told) (asks : List (Peer × (Ask × Answer))) (w v next : World) → asks ≡ asking question looks → Fates hss_judged v asks next → IsRingOf ring v
      → AreOrderly ring.end v → HeldStays w v → AfterGets w next (told_all question looks)
  gets_go question key is_of [] asks w v next e fates h orderly held = subst (λ x. AfterGets w x []) (fates_none hss_judged v next asks e fates) (record { still = h; orderly = orderly; held = held; got = tt })
  gets_go question key is_of (s ∷ looks) asks w v next e fates h orderly held =
      let one = fates_first hss_judged v next asks s.0 question s.1 (asking question looks) e fates in
      let a = ask_goes ring v one.mid s.0 question s.1 (⊎_elim (λ g. subst IsForData (sym g) tt) (λ g. subst IsForData (sym g) tt) is_of)
      (⊎_elim (λ g. subst (FitsIn ring.end) (sym g) tt) (λ g. subst (FitsIn ring.end) (sym g) tt) is_of) h orderly one.fate in
      let rest = gets_go question key is_of looks (asking question looks) w one.mid next refl one.others a.still a.orderly (λ k kind least m i. a.held k kind least m (held k kind least m i)) in
      record {
        still = rest.still;
        orderly = rest.orderly;
        held = rest.held;
        got = each_append (λ (x : Heard). IsGotAt w x.kind x) (told s.0 question s.1) (told_all question looks)
            (⊎_elim
            (λ g. subst (λ q. AreGot w (told s.0 q s.1)) (sym g) (λ made. is_routed ring v one.mid s.0 key s.1 h (subst (λ q. FateOf hss_judged v s.0 q s.1 one.mid) g one.fate) made, tt))
            (λ g. subst (λ q. AreGot w (told s.0 q s.1)) (sym g) (λ made. got_so w v one.mid s.0 key s.1 h orderly held (subst (λ q. FateOf hss_judged v s.0 q s.1 one.mid) g one.fate) made, tt))
            is_of) rest.got;
      }

  -- ---- a whole get

  looks_got : (w : World) (key : Key) (looks : Told) → AreGot w (told_all (ask.Route key) looks) → AllByRecursion (λ s. IsMade ring s.0 → IsRouted ring key s.0 s.1) looks
  looks_got w key [] h = tt
  looks_got w key (s ∷ looks) h = (h.0, looks_got w key looks h.1)

  abbrev AskGot : World → Key → Peer × Answer → Type 0
  AskGot w key s = IsMade ring s.0 → IsGot w key s.0 s.1

  asks_got : (w : World) (key : Key) (asks : Told) → AreGot w (told_all (ask.Get key) asks) → AllByRecursion (AskGot w key) asks
  asks_got w key [] h = tt
  asks_got w key (s ∷ asks) h = (h.0, asks_got w key asks h.1)

  -- an owner that holds something under the key
  pub record IsOwnedAs (w : World) (key : Key) (kind : BlockKind) (least : ℕ) : Type 0 where
    pub owner : Peer
    pub owns : IsAmong owner (own ring key)
    pub holds : IsHeld w key kind least owner

  -- by what owners answer
  record HasAsked (w : World) (key : Key) (T : Type 0) (Ends : List Peer → Told → Result T Miss → Type 0) (came : Result T Miss) : Type 0 where
    found : List Peer
    asks : Told
    owners_are : take ring.r (filter (λ m. lives ring m) found) ≡ own ring key
    made : (m : Peer) → IsAmong m found → IsMade ring m
    got : AllByRecursion (AskGot w key) asks
    ends : Ends found asks came

  has_asked : {T : Type 0} (w v : World) (key : Key) (owner : Peer) (Ends : List Peer → Told → Result T Miss → Type 0) (trail : List Heard) (came : Result T Miss) → IsAmong owner (own ring key) → IsRingOf ring v → AreGot w trail
      → IsExecution key (ask.Get key) (entries_by ring.base) Ends trail came → HasAsked w key T Ends came
  has_asked w v key owner Ends trail came o h got (no_route looks found is l nobody result_is) =
      let so = finds ring v key looks found h (looks_got w key looks (subst (AreGot w) is got)) l in
      absurd (never so.list (subst (λ f. outcome key f ≡ Err (miss.NoRoute key)) so.found_is nobody) (subst (IsAmong owner) (sym so.owners_are) o))
    where
      failed : {xs : List Peer} → ◌≡◌ {A = Result (List Peer) Miss} (Ok xs) (Err (miss.NoRoute key)) → ⊥
      failed e = cc e

      in_none : (k : ℕ) → IsAmong owner (take k []) → ⊥
      in_none zero i = i
      in_none (suc k) i = i

      never : (xs : List Peer) → outcome key (Some xs) ≡ Err (miss.NoRoute key) → IsAmong owner (take ring.r (filter (λ m. lives ring m) xs)) → ⊥
      never [] e i = in_none ring.r i
      never (x ∷ xs) e i = failed e
  has_asked w v key owner Ends trail came o h got (of_owners looks asks found owned is l some ends) =
      let parts : AreGot w (told_all (ask.Route key) looks ++ told_all (ask.Get key) asks) = subst (AreGot w) is got in
      let so = finds ring v key looks found h (looks_got w key looks (all-left (λ (x : Heard). IsGotAt w x.kind x) (told_all (ask.Route key) looks) (told_all (ask.Get key) asks) parts)) l in
      let same = owned_is key found owned so.list so.found_is some in
      record {
        found = owned;
        asks = asks;
        owners_are = ap (λ (x : List Peer). take ring.r (filter (λ m. lives ring m) x)) same ∙ so.owners_are;
        made = λ m i. so.made m (subst (IsAmong m) same i);
        got = asks_got w key asks (all-right (λ (x : Heard). IsGotAt w x.kind x) (told_all (ask.Route key) looks) (told_all (ask.Get key) asks) parts);
        ends = ends;
      }

  module _ (w : World) (key : Key) (found : List Peer) (asks : Told) (are : take ring.r (filter (λ m. lives ring m) found) ≡ own ring key) (made : (m : Peer) → IsAmong m found → IsMade ring m) (got : AllByRecursion (AskGot w key) asks) where
    got_of : {IsEnough : Told → Type 0} → AreAsks found IsEnough asks → (s : Peer × Answer) → IsAmong s asks → IsGot w key s.0 s.1
    got_of a s i = all-among (AskGot w key) s asks got i (made s.0 (asked_found found asks a.once a.firsts a.order s i))

    -- an owner is asked, where too few have answered before, and gives what it holds
    holder_gives : (kind : BlockKind) (least : ℕ) (o : IsOwnedAs w key kind least) (IsEnough : Told → Type 0) → (IsEnough asks → ring.r ≤ answered_in is_of_get asks) → AreAsks found IsEnough asks → (s : Peer × Answer) × IsAmong s asks × IsGivenAs key kind least s.1
    holder_gives kind least o IsEnough only a =
        let i = owner_asked (λ m. lives ring m) is_of_get ring.r ring.stands.covered.positive found (own ring key) are (own_distinct ring key) asks (all_from (λ (s : Peer × Answer). is_of_get s.1 ≡ lives ring s.0) asks (λ s i. (got_of a s i).answers))
        IsEnough only a o.owner o.owns in
        let s = among_asks o.owner asks i in
        (s.0, s.1, (got_of a s.0 s.1).holder (subst (λ x. lives ring x ≡ true) (sym s.2) (owner_lives ring key o.owner o.owns)) kind least (subst (IsHeld w key kind least) (sym s.2) o.holds))

  pub block_given : (w v : World) (key : Key) (least : ℕ) (bytes : List ℕ) (trail : List Heard) (came : Result (List ℕ) Miss) → IsOwnedAs w key Content least → IsRingOf ring v → AreGot w trail
      → OfContent ring.end key bytes → ((b : List ℕ) → OfContent ring.end key b → b ≡ bytes) → IsGetOfBlock key ring.r (entries_by ring.base) trail came → came ≡ Ok bytes
  block_given w v key least bytes trail came o h got content one get =
      let asked = has_asked w v key o.owner _ trail came o.owns h got get in
      asked.ends.2 ∙ by asked.found asked.asks asked.owners_are asked.made asked.got asked.ends.0 asked.ends.1
    where
      kind_so : (k : BlockKind) (b : List ℕ) → IsOf ring.end key k b → b ≡ bytes
      kind_so Content b h = one b h
      kind_so Head b h = absurd (ring.apart key bytes b content h)

      gives : (found : List Peer) (asks : Told) → take ring.r (filter (λ m. lives ring m) found) ≡ own ring key → ((m : Peer) → IsAmong m found → IsMade ring m) → AllByRecursion (AskGot w key) asks → (HasBlock block_in key asks → ⊥)
          → AreAsks found (λ t. (ring.r ≤ answered_in is_of_get t) ⊎ HasBlock block_in key t) asks → ⊥
      gives found asks are made got none a =
          let gave = holder_gives w key found asks are made got Content least o (λ t. (ring.r ≤ answered_in is_of_get t) ⊎ HasBlock block_in key t) (λ e. ⊎_elim (λ many. many) (λ has. absurd (none has)) e) a in
          none (gave.2.bytes, (gave.0.0, into_given asks gave.0 gave.2.bytes gave.1 gave.2.gives, gave.2.of_kind.1))

      by : (found : List Peer) (asks : Told) → take ring.r (filter (λ m. lives ring m) found) ≡ own ring key → ((m : Peer) → IsAmong m found → IsMade ring m) → AllByRecursion (AskGot w key) asks → (got : Got Peer (List ℕ))
          → IsBlockGet is_of_get block_in key ring.r found asks got → result_of key got ≡ Ok bytes
      by found asks are made got (Right b) g =
          let from = from_given asks g.ends.0 b g.ends.1 in
          let of = (got_of w key found asks are made got g.asks from.0 from.1).each_kind b from.2 in
          ap (λ x. Ok x) (kind_so of.0 b of.1)
      by found asks are made got (Damaged node) g = absurd (gives found asks are made got g.ends.0 g.asks)
      by found asks are made got (Missing all) g = absurd (gives found asks are made got g.ends.0 g.asks)

  -- the heads that were given, one of that number or a greater one among them
  pub record IsGivenHead (key : Key) (least : ℕ) (came : Result (List Judged) Miss) : Type 0 where
    pub heads : List Judged
    pub one : Judged
    pub came_is : came ≡ Ok heads
    pub among : Contains heads one
    pub newer : least ≤ one.seq

  pub head_given : (w v : World) (key : Key) (least : ℕ) (trail : List Heard) (came : Result (List Judged) Miss) → IsOwnedAs w key Head least → IsRingOf ring v → AreGot w trail
      → IsGetOfHead (hss_judged key) key ring.r (entries_by ring.base) trail came → IsGivenHead key least came
  head_given w v key least trail came o h got get =
      let asked = has_asked w v key o.owner _ trail came o.owns h got get in
      by asked.found asked.asks asked.owners_are asked.made asked.got asked.ends.0 asked.ends.1 asked.ends.2
    where
      found_in : (found : List Peer) (asks : Told) → take ring.r (filter (λ m. lives ring m) found) ≡ own ring key → ((m : Peer) → IsAmong m found → IsMade ring m) → AllByRecursion (AskGot w key) asks → AreAsks found (λ t. ring.r ≤ answered_in is_of_get t) asks
          → (j : Judged) × IsAmong j (judged block_in (hss_judged key) asks) × (least ≤ j.seq)
      found_in found asks are made got a =
          let gave = holder_gives w key found asks are made got Head least o (λ t. ring.r ≤ answered_in is_of_get t) (λ e. e) a in
          let j = judged_head key gave.2.bytes least gave.2.of_kind.2 gave.2.ranked in
          (j.0, into_filtered {B = Judged} (λ (b : Peer × List ℕ). hss_judged key b.1) (given block_in asks) (gave.0.0, gave.2.bytes) j.0 (into_given asks gave.0 gave.2.bytes gave.1 gave.2.gives) j.1, j.2)

      none_among : {heads : List Judged} → (j : Judged) × IsAmong j heads × (least ≤ j.seq) → heads ≡ [] → ⊥
      none_among f e = absurd (subst (IsAmong f.0) e f.1)

      by : (found : List Peer) (asks : Told) → take ring.r (filter (λ m. lives ring m) found) ≡ own ring key → ((m : Peer) → IsAmong m found → IsMade ring m) → AllByRecursion (AskGot w key) asks → (got : Got Peer (List Judged))
          → IsHeadGet is_of_get block_in (hss_judged key) ring.r found asks got → came ≡ result_of key got → IsGivenHead key least came
      by found asks are made got (Right heads) g e =
          let f = found_in found asks are made got g.asks in
          record { heads = heads; one = f.0; came_is = e; among = subst (λ l. Contains l f.0) (sym g.ends.1) (among_in f.0 (judged block_in (hss_judged key) asks) f.1); newer = f.2 }
      by found asks are made got (Damaged node) g e = absurd (none_among (found_in found asks are made got g.asks) g.ends.0)
      by found asks are made got (Missing all) g e = absurd (none_among (found_in found asks are made got g.asks) g.ends.0)
