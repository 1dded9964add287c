-- What a get brings was met, where what was answered was.
use Rattle.std.proofs.Common.{◌≡◌, ℕ, zero, suc, List, [], ◌∷◌, map, Option, Some, None, Result, Ok, Err, refl, sym, ◌∙◌, subst, Contains, not}
use Rattle.std.specs.Prelude.{filter_map, option_map, take}
use Rattle.std.specs.List.{AllByRecursion, cons_option}
use Rattle.ring_model.proofs.Lists.{all-among, all_weaker, filter_gives}
use Rattle.ring_model.specs.Gets.{Got, Right, Damaged, Missing, IsHeadGet, IsBlockGet, given}
use Rattle.ivy_base.specs.declared.key.Key.{Key}
use Rattle.ivy_base.specs.Naming.{head_key_of}
use Rattle.dhash_model.specs.Signed.{hss_judged}
use Rattle.log_model.proofs.Lists.{each_right}
use Rattle.dht_ids.specs.declared.ask.Answer.{Answer}
use Rattle.dht_ids.specs.declared.ask.Answer.TheVariants as answer
use Rattle.dht_ids.specs.declared.ask.Ask.TheVariants as ask
use Rattle.dht_ids.specs.declared.ask.Heard.{Heard}
use Rattle.dht_ids.specs.declared.judge.Judged.{Judged}
use Rattle.dht_ids.specs.declared.peer.Peer.{Peer}
use Rattle.dhash_model.specs.declared.miss.Miss.{Miss}
use Rattle.dhash_model.specs.Execution.{Told, result_of, told_all}
use Rattle.dhash_model.specs.Execution.IsExecution.{no_route, of_owners}
use Rattle.dhash_model.specs.GetBlock.{IsGetOfBlock, block_in, is_of_get}
use Rattle.dhash_model.specs.GetHead.{IsGetOfHead}
use Rattle.dhash_model.specs.Cache.{others, keys_equal as same_cached}
use Rattle.block_cache.proofs.Pairs.{kept_valid}
use Rattle.session_model.specs.Brought.{Brought, HeadsOf, BlockOf, WantedOfRing, heads_of, stamp_of}
use Rattle.session_model.specs.Sessions.{Cache, Gets, keeping}
use Rattle.session_model.specs.Sessions.Gets.{heads as got_heads, content as got_content}
use Rattle.session_laws.specs.Going.{IsOfWant}
use Rattle.world_model.specs.World.{World}
use Rattle.world_laws.specs.Invariant.{IsAnswerIn, IsMetHead}
use Rattle.world_laws.proofs.Taking.{IsMetBlock, IsMetCache}

-- what f makes of them
each_made : {A B : Type 0} (P : A → Type 0) (Q : B → Type 0) (f : A → Option B) → ((a : A) (b : B) → P a → f a ≡ Some b → Q b) → (xs : List A) → AllByRecursion P xs → AllByRecursion Q (filter_map f xs)
each_made P Q f makes [] h = tt
each_made {B = B} P Q f makes (x ∷ xs) h = by (f x) refl (each_made P Q f makes xs h.1)
  where
    by : (o : Option B) → f x ≡ o → AllByRecursion Q (filter_map f xs) → AllByRecursion Q (cons_option o (filter_map f xs))
    by None is later = later
    by (Some b) is later = (makes x b h.0 is, later)

each_taken : {A : Type 0} (P : A → Type 0) (n : ℕ) (xs : List A) → AllByRecursion P xs → AllByRecursion P (take n xs)
each_taken P zero xs h = tt
each_taken P (suc n) [] h = tt
each_taken P (suc n) (x ∷ xs) h = (h.0, each_taken P n xs h.1)

module _ (w : World) where
  abbrev IsHeardIn : Peer × Answer → Type 0
  IsHeardIn a = IsAnswerIn w a.1

  told_in : (key : Key) (asks : Told) → AllByRecursion (λ (h : Heard). IsAnswerIn w h.got) (told_all (ask.Get key) asks) → AllByRecursion IsHeardIn asks
  told_in key [] h = tt
  told_in key (a ∷ asks) h = (h.0, told_in key asks h.1)

  block_met : (a : Answer) (node : Peer) (b : Peer × List ℕ) → IsAnswerIn w a → option_map (λ (bytes : List ℕ). (node, bytes)) (block_in a) ≡ Some b → Contains w.met b.1
  block_met (answer.Route nearer owners) node b h is = cc is
  block_met (answer.Near before list) node b h is = cc is
  block_met (answer.Found bytes) node b h is = let same : (node, bytes) ≡ b = cc is in subst (λ (x : Peer × List ℕ). Contains w.met x.1) same h
  block_met answer.Nothing node b h is = cc is
  block_met answer.Stored node b h is = cc is
  block_met (answer.Refused fault) node b h is = cc is
  block_met answer.Noted node b h is = cc is
  block_met answer.Silent node b h is = cc is

  given_met : (asks : Told) → AllByRecursion IsHeardIn asks → AllByRecursion (λ (b : Peer × List ℕ). Contains w.met b.1) (given block_in asks)
  given_met asks h = each_made IsHeardIn (λ b. Contains w.met b.1) (λ (s : Peer × Answer). option_map (λ (bytes : List ℕ). (s.0, bytes)) (block_in s.1)) (λ a b g is. block_met a.1 a.0 b g is) asks h

  -- ---- heads

  abbrev IsMetJudged : Key → Judged → Type 0
  IsMetJudged key j = (bytes : List ℕ) × Contains w.met bytes × (hss_judged key bytes ≡ Some j)

  judged_met : (key : Key) (r : ℕ) (owners : List Peer) (asks : Told) (heads : List Judged) (got : Got Peer (List Judged)) → IsHeadGet is_of_get block_in (hss_judged key) r owners asks got → Ok heads ≡ result_of key got
      → AllByRecursion IsHeardIn asks → AllByRecursion (IsMetJudged key) heads
  judged_met key r owners asks heads (Right found) gets is h =
      let same : heads ≡ found = cc is in
      subst (AllByRecursion (IsMetJudged key)) (sym (same ∙ gets.ends.1))
      (each_made (λ (b : Peer × List ℕ). Contains w.met b.1) (IsMetJudged key) (λ (b : Peer × List ℕ). hss_judged key b.1) (λ b j g e. (b.1, g, e)) (given block_in asks) (given_met asks h))
  judged_met key r owners asks heads (Damaged node) gets is h = absurd (cc is)
  judged_met key r owners asks heads (Missing asked) gets is h = absurd (cc is)

  heads_met : (key : Key) (r : ℕ) (entries : List Peer) (trail : List Heard) (heads : List Judged) (result : Result (List Judged) Miss) → IsGetOfHead (hss_judged key) key r entries trail result → result ≡ Ok heads
      → AllByRecursion (λ (h : Heard). IsAnswerIn w h.got) trail → AllByRecursion (IsMetJudged key) heads
  heads_met key r entries trail heads result (no_route looks found is look out ends) e h = absurd (cc (sym e ∙ ends))
  heads_met key r entries trail heads result (of_owners looks asks found owners is look out ends) e h =
      judged_met key r owners asks heads ends.0 ends.1 (sym e ∙ ends.2)
      (told_in key asks (each_right (λ (a : Heard). IsAnswerIn w a.got) (told_all (ask.Route key) looks) (told_all (ask.Get key) asks) (subst (AllByRecursion (λ (a : Heard). IsAnswerIn w a.got)) is h)))

  -- ---- blocks

  right_met : (key : Key) (r : ℕ) (owners : List Peer) (asks : Told) (bytes : List ℕ) (got : Got Peer (List ℕ)) → IsBlockGet is_of_get block_in key r owners asks got → Ok bytes ≡ result_of key got
      → AllByRecursion IsHeardIn asks → IsMetBlock w.met key bytes
  right_met key r owners asks bytes (Right found) gets is h =
      let same : bytes ≡ found = cc is in
      subst (IsMetBlock w.met key) (sym same) (gets.ends.2, all-among (λ (b : Peer × List ℕ). Contains w.met b.1) (gets.ends.0, found) (given block_in asks) (given_met asks h) gets.ends.1)
  right_met key r owners asks bytes (Damaged node) gets is h = absurd (cc is)
  right_met key r owners asks bytes (Missing asked) gets is h = absurd (cc is)

  got_met : (key : Key) (r : ℕ) (entries : List Peer) (trail : List Heard) (bytes : List ℕ) (result : Result (List ℕ) Miss) → IsGetOfBlock key r entries trail result → result ≡ Ok bytes
      → AllByRecursion (λ (h : Heard). IsAnswerIn w h.got) trail → IsMetBlock w.met key bytes
  got_met key r entries trail bytes result (no_route looks found is look out ends) e h = absurd (cc (sym e ∙ ends))
  got_met key r entries trail bytes result (of_owners looks asks found owners is look out ends) e h =
      right_met key r owners asks bytes ends.0 ends.1 (sym e ∙ ends.2)
      (told_in key asks (each_right (λ (a : Heard). IsAnswerIn w a.got) (told_all (ask.Route key) looks) (told_all (ask.Get key) asks) (subst (AllByRecursion (λ (a : Heard). IsAnswerIn w a.got)) is h)))

  -- ---- what is brought

  pub record BringsMet (want : WantedOfRing) (b : Brought) : Type 0 where
    pub of : IsOfWant want b
    pub heads : AllByRecursion (IsMetHead w.met) (heads_of b)
    pub blocks : (key : Key) (bytes : List ℕ) → b ≡ BlockOf key (Ok bytes) → IsMetBlock w.met key bytes

  entries_met : (key : Key) (heads : List Judged) → AllByRecursion (IsMetJudged key) heads → AllByRecursion (IsMetHead w.met) (map (λ (j : Judged). (key, stamp_of j)) heads)
  entries_met key [] h = tt
  entries_met key (j ∷ heads) h = ((h.0.0, j, h.0.1, h.0.2, refl), entries_met key heads h.1)

  pub brings_met : {r : ℕ} {entries : List Peer} {want : WantedOfRing} {asks : List Heard} {b : Brought} → Gets hss_judged r entries want asks b → AllByRecursion (λ (h : Heard). IsAnswerIn w h.got) asks → BringsMet want b
  brings_met {r} {entries} (got_heads {owner = owner} {asks = asks} came gets) h = record { of = refl; heads = by came gets; blocks = λ key bytes e. cc e }
    where
      by : (got : Result (List Judged) Miss) → IsGetOfHead (hss_judged (head_key_of owner)) (head_key_of owner) r entries asks got → AllByRecursion (IsMetHead w.met) (heads_of (HeadsOf owner got))
      by (Ok heads) g = entries_met (head_key_of owner) heads (heads_met (head_key_of owner) r entries asks heads (Ok heads) g refl h)
      by (Err miss) g = tt
  brings_met {r} {entries} (got_content {key = key} {asks = asks} came gets) h = record {
    of = refl;
    heads = tt;
    blocks = λ k bytes e.
        let keys : key ≡ k = cc e in
        let same : came ≡ Ok bytes = cc e in
        subst (λ (x : Key). IsMetBlock w.met x bytes) keys (got_met key r entries asks bytes came gets same h);
  }

  -- the cache that keeps it
  pub keeping_met : (r : ℕ) (b : Brought) (cache : Cache) → ((key : Key) (bytes : List ℕ) → b ≡ BlockOf key (Ok bytes) → IsMetBlock w.met key bytes) → IsMetCache w.met cache → IsMetCache w.met (keeping hss_judged r b cache)
  keeping_met r (BlockOf key (Ok bytes)) cache blocks h =
      let is_met = blocks key bytes refl in (
        kept_valid key bytes cache (sym is_met.0) h.0,
        each_taken (λ (e : Key × List ℕ). Contains w.met e.1) 256 ((key, bytes) ∷ others key cache) (is_met.1, filter_gives (λ e. not (same_cached key e.0)) (λ e. Contains w.met e.1) cache (all_weaker _ _ cache (λ e m pass. m) h.1)),
      )
  keeping_met r (BlockOf key (Err miss)) cache blocks h = h
  keeping_met r (HeadsOf owner came) cache blocks h = h
