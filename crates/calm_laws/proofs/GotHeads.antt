-- What is heard of gets is as what nodes hold, whatever that is; so are the heads that a session is brought, and that a participant receives.
use Rattle.std.proofs.Common.{◌≡◌, List, [], ◌∷◌, ◌++◌, length, Option, Some, None, refl, sym, ap, ◌∙◌, subst}
use Rattle.std.specs.Prelude.{ℕ, Err, Ok, Result, drop, filter_map, map, option_map}
use Rattle.std.specs.List.{AllByRecursion, cons_option}
use Rattle.std.specs.Option.{option_map_or}
use Rattle.std.specs.FinMap.Entries.{find as value_at}
use Rattle.std.proofs.lemmas.List.{append-nil}
use Rattle.ivy_base.specs.declared.key.Key.{Key}
use Rattle.ivy_base.specs.Naming.{head_key_of, key_cmp}
use Rattle.dhash_model.specs.Signed.{hss_judged}
use Rattle.log_model.specs.Vector.{Entry}
use Rattle.log_model.proofs.Lists.{each_append, each_right}
use Rattle.ring_model.specs.Gets.{Damaged, Got, IsHeadGet, Missing, Right, given}
use Rattle.dht_ids.specs.Asked.{told}
use Rattle.dht_ids.specs.declared.ask.Answer.{Answer}
use Rattle.dht_ids.specs.declared.ask.Answer.TheVariants as answer
use Rattle.dht_ids.specs.declared.ask.Ask.{Ask}
use Rattle.dht_ids.specs.declared.ask.Ask.TheVariants as ask
use Rattle.dht_ids.specs.declared.ask.Heard.{Heard}
use Rattle.dht_ids.specs.declared.ask.StoreFault.{StoreFault}
use Rattle.dht_ids.specs.declared.judge.Judged.{Judged}
use Rattle.dht_ids.specs.declared.peer.Peer.{Peer}
use Rattle.dhash_model.specs.Execution.{Told, result_of, told_all}
use Rattle.dhash_model.specs.Execution.IsExecution.{no_route, of_owners}
use Rattle.dhash_model.specs.GetBlock.{block_in, is_of_get}
use Rattle.dhash_model.specs.GetHead.{IsGetOfHead}
use Rattle.dhash_model.specs.declared.miss.Miss.{Miss}
use Rattle.dhash_model.specs.Stores.{Block, Blocks, bytes_at, content, content_fault, head, head_fault}
use Rattle.session_model.specs.Brought.{Brought, HeadsOf, Part, WantedOfRing, all_heads, brought_in, heads_of, stamp_of}
use Rattle.session_model.specs.Executions.{Fails, LacksMemory}
use Rattle.session_model.specs.Executions.Fails.{fails, goes_on}
use Rattle.session_model.specs.Executions.LacksMemory.{lacks}
use Rattle.session_model.specs.Sessions.{Cache, Gets, Hears, Session, Takes, TakesAll}
use Rattle.session_model.specs.Sessions.Gets.{content as got_content, heads as got_heads}
use Rattle.session_model.specs.Sessions.Hears.{gets_on, got, puts_on, puts}
use Rattle.session_model.specs.Sessions.Takes.{posted, cached}
use Rattle.session_model.specs.Sessions.TakesAll.{none as takes_none, more as takes_more}
use Rattle.world_model.specs.Nodes.{Node, answered, stored}
use Rattle.world_model.specs.World.{World, node_at}
use Rattle.world_model.specs.Fates.{FateOf}
use Rattle.world_model.specs.Fates.FateOf.{answers, lost, stopped}

module _ (Of : Key → List ℕ → Type 0) where
  -- what was given is so under its key
  abbrev pub IsHeardOf : Heard → Type 0
  IsHeardOf h = (bytes : List ℕ) → block_in h.got ≡ Some bytes → Of h.key bytes

  abbrev pub AreHeardOf : Session → Type 0
  AreHeardOf s = AllByRecursion IsHeardOf s.current

  -- a head whose bytes are so
  abbrev pub EntryOf : Entry → Type 0
  EntryOf e = (bytes : List ℕ) × (j : Judged) × Of e.0 bytes × (hss_judged e.0 bytes ≡ Some j) × (e.1 ≡ stamp_of j)

  -- ---- asks

  abbrev pub HoldsOf : Blocks → Type 0
  HoldsOf blocks = (key : Key) (block : Block) → value_at key_cmp key blocks ≡ Some block → Of key block.bytes

  -- so is each block that a node holds
  abbrev pub AllHoldOf : World → Type 0
  AllHoldOf w = (id : Key) (n : Node) → node_at w id ≡ Some n → HoldsOf n.blocks

  found_so : (key : Key) (blocks : Blocks) → HoldsOf blocks → (bytes : List ℕ) → block_in (option_map_or (λ b. answer.Found b) (bytes_at key blocks) answer.Nothing) ≡ Some bytes → Of key bytes
  found_so key blocks h bytes is = by (value_at key_cmp key blocks) refl is
    where
      by : (o : Option Block) → value_at key_cmp key blocks ≡ o → block_in (option_map_or (λ b. answer.Found b) (option_map (λ (b : Block). b.bytes) o) answer.Nothing) ≡ Some bytes → Of key bytes
      by None found e = cc e
      by (Some c) found e = let same : c.bytes ≡ bytes = cc e in subst (Of key) same (h key c found)

  no_block : (n : Node) (key : Key) (block : Block) (fault : Option StoreFault) (bytes : List ℕ) → block_in (stored n key block fault).0 ≡ Some bytes → ⊥
  no_block n key block (Some fault) bytes e = cc e
  no_block n key block None bytes e = cc e

  given_so : (n : Node) (to : Peer) (question : Ask) → HoldsOf n.blocks → AllByRecursion IsHeardOf (told to question (answered hss_judged n question).0)
  given_so n to (ask.Route key) h = (λ bytes e. cc e, tt)
  given_so n to ask.Near h = tt
  given_so n to (ask.Notify peer) h = tt
  given_so n to (ask.Get key) h = (found_so key n.blocks h, tt)
  given_so n to (ask.PutBlock key bytes) h = (λ b e. absurd (no_block n key (content bytes) (content_fault key bytes n.blocks) b e), tt)
  given_so n to (ask.PutHead key bytes) h = (λ b e. absurd (no_block n key (head bytes) (head_fault hss_judged key bytes n.blocks) b e), tt)

  silent_so : (to : Peer) (question : Ask) → AllByRecursion IsHeardOf (told to question answer.Silent)
  silent_so to (ask.Route key) = (λ bytes e. cc e, tt)
  silent_so to ask.Near = tt
  silent_so to (ask.Notify peer) = tt
  silent_so to (ask.Get key) = (λ bytes e. cc e, tt)
  silent_so to (ask.PutBlock key bytes) = (λ b e. cc e, tt)
  silent_so to (ask.PutHead key bytes) = (λ b e. cc e, tt)

  pub fate_told : {w next : World} {to : Peer} {question : Ask} {given : Answer} → FateOf hss_judged w to question given next → AllHoldOf w → AllByRecursion IsHeardOf (told to question given)
  fate_told {to = to} {question = question} (lost l) h = silent_so to question
  fate_told {to = to} {question = question} (stopped n l is dead) h = silent_so to question
  fate_told {to = to} {question = question} (answers n l is live) h = given_so n to question (h to.id n is)

  -- ---- what a session was answered

  heard_on : {r : ℕ} {s heard : Session} {cache after : Cache} {node : Peer} {question : Ask} {given : Answer} → Hears hss_judged r s cache node question given heard after → AreHeardOf s → AllByRecursion IsHeardOf (told node question given) → AreHeardOf heard
  heard_on {s = s} {node = node} {question = question} {given = given} (gets_on want wants next part) h new = each_append IsHeardOf s.current (told node question given) h new
  heard_on (got want brought wants next whole) h new = tt
  heard_on {s = s} {node = node} {question = question} {given = given} (puts_on said p posts acks at next part) h new = each_append IsHeardOf s.current (told node question given) h new
  heard_on (puts said p posts acks came at next whole) h new = tt

  fails_heard : {heard t : Session} → Fails heard t → AreHeardOf heard → AreHeardOf t
  fails_heard (fails notes gives miss xid asked at refreshed asks_it) h = tt
  fails_heard (goes_on none) h = h

  pub then_heard : {r : ℕ} {s heard t : Session} {cache after : Cache} {node : Peer} {question : Ask} {given : Answer} → Hears hss_judged r s cache node question given heard after → Fails heard t → AreHeardOf s → AllByRecursion IsHeardOf (told node question given) → AreHeardOf t
  then_heard hears goes h new = fails_heard goes (heard_on hears h new)

  pub lacking_heard : {s t : Session} → LacksMemory s t → AreHeardOf t
  lacking_heard (lacks notes shown given end xid asked at refreshed asks_it rest front) = tt

  takes_heard : {r : ℕ} {s t : Session} {cache after : Cache} → Takes hss_judged r s cache t after → AreHeardOf s → AreHeardOf t
  takes_heard (posted key bytes wants none is) h = tt
  takes_heard (cached key bytes wants none missing is) h = tt

  pub takes_all_heard : {r : ℕ} {s t : Session} {cache after : Cache} → TakesAll hss_judged r s cache t after → AreHeardOf s → AreHeardOf t
  takes_all_heard (takes_none none) h = h
  takes_all_heard (takes_more first rest) h = takes_all_heard rest (takes_heard first h)

  -- ---- the heads that it is brought

  told_of : (key : Key) (asks : Told) → AllByRecursion IsHeardOf (told_all (ask.Get key) asks) → AllByRecursion (λ (a : Peer × Answer). (bytes : List ℕ) → block_in a.1 ≡ Some bytes → Of key bytes) asks
  told_of key [] h = tt
  told_of key (a ∷ asks) h = (h.0, told_of key asks h.1)

  each_made : {A B : Type 0} (P : A → Type 0) (Q : B → Type 0) (f : A → Option B) → ((a : A) (b : B) → P a → f a ≡ Some b → Q b) → (xs : List A) → AllByRecursion P xs → AllByRecursion Q (filter_map f xs)
  each_made P Q f makes [] h = tt
  each_made {B = B} P Q f makes (x ∷ xs) h = by (f x) refl (each_made P Q f makes xs h.1)
    where
      by : (o : Option B) → f x ≡ o → AllByRecursion Q (filter_map f xs) → AllByRecursion Q (cons_option o (filter_map f xs))
      by None is later = later
      by (Some b) is later = (makes x b h.0 is, later)

  pair_of : (node : Peer) (o : Option (List ℕ)) (b : Peer × List ℕ) → option_map {U = Peer × List ℕ} (λ (bytes : List ℕ). (node, bytes)) o ≡ Some b → o ≡ Some b.1
  pair_of node None b e = cc e
  pair_of node (Some x) b e = let same : (node, x) ≡ b = cc e in ap (λ (y : Peer × List ℕ). Some y.1) same

  given_of : (key : Key) (asks : Told) → AllByRecursion IsHeardOf (told_all (ask.Get key) asks) → AllByRecursion (λ (b : Peer × List ℕ). Of key b.1) (given block_in asks)
  given_of key asks h = each_made (λ (a : Peer × Answer). (bytes : List ℕ) → block_in a.1 ≡ Some bytes → Of key bytes) (λ (b : Peer × List ℕ). Of key b.1) (λ (s : Peer × Answer). option_map (λ (bytes : List ℕ). (s.0, bytes)) (block_in s.1))
      (λ a b g is. g b.1 (pair_of a.0 (block_in a.1) b is)) asks (told_of key asks h)

  judged_of : (key : Key) (r : ℕ) (owners : List Peer) (asks : Told) (heads : List Judged) (got : Got Peer (List Judged)) → IsHeadGet is_of_get block_in (hss_judged key) r owners asks got → Ok heads ≡ result_of key got
      → AllByRecursion IsHeardOf (told_all (ask.Get key) asks) → AllByRecursion (λ j. EntryOf (key, stamp_of j)) heads
  judged_of key r owners asks heads (Right found) gets is h =
      let same : heads ≡ found = cc is in
      subst (AllByRecursion (λ j. EntryOf (key, stamp_of j))) (sym (same ∙ gets.ends.1))
      (each_made (λ (b : Peer × List ℕ). Of key b.1) (λ j. EntryOf (key, stamp_of j)) (λ (b : Peer × List ℕ). hss_judged key b.1) (λ b j g e. (b.1, j, g, e, refl)) (given block_in asks) (given_of key asks h))
  judged_of key r owners asks heads (Damaged node) gets is h = absurd (cc is)
  judged_of key r owners asks heads (Missing all) gets is h = absurd (cc is)

  pub heads_so : (key : Key) (r : ℕ) (entries : List Peer) (trail : List Heard) (heads : List Judged) (result : Result (List Judged) Miss) → IsGetOfHead (hss_judged key) key r entries trail result → result ≡ Ok heads
      → AllByRecursion IsHeardOf trail → AllByRecursion (λ j. EntryOf (key, stamp_of j)) heads
  heads_so key r entries trail heads result (no_route looks found is look out ends) e h = absurd (cc (sym e ∙ ends))
  heads_so key r entries trail heads result (of_owners looks asks found owners is look out ends) e h =
      judged_of key r owners asks heads ends.0 ends.1 (sym e ∙ ends.2)
      (each_right IsHeardOf (told_all (ask.Route key) looks) (told_all (ask.Get key) asks) (subst (AllByRecursion IsHeardOf) is h))

  of_heads : (key : Key) (heads : List Judged) → AllByRecursion (λ j. EntryOf (key, stamp_of j)) heads → AllByRecursion EntryOf (map (λ (j : Judged). (key, stamp_of j)) heads)
  of_heads key [] h = tt
  of_heads key (j ∷ heads) h = (h.0, of_heads key heads h.1)

  pub brings_so : {r : ℕ} {entries : List Peer} {want : WantedOfRing} {asks : List Heard} {b : Brought} → Gets hss_judged r entries want asks b → AllByRecursion IsHeardOf asks → AllByRecursion EntryOf (heads_of b)
  brings_so {r} {entries} (got_heads {owner = owner} {asks = asks} came gets) h = by came gets
    where
      by : (came : Result (List Judged) Miss) → IsGetOfHead (hss_judged (head_key_of owner)) (head_key_of owner) r entries asks came → AllByRecursion EntryOf (heads_of (HeadsOf owner came))
      by (Ok heads) g = of_heads (head_key_of owner) heads (heads_so (head_key_of owner) r entries asks heads (Ok heads) g refl h)
      by (Err miss) g = tt
  brings_so (got_content came gets) h = tt

  new_parts : (parts more : List Part) → drop (length parts) (parts ++ more) ≡ more
  new_parts [] more = refl
  new_parts (p ∷ parts) more = new_parts parts more

  pub none_new : (s t : Session) → t.parts ≡ s.parts → AllByRecursion EntryOf (all_heads (brought_in (drop (length s.parts) t.parts)))
  none_new s t same = subst (λ ps. AllByRecursion EntryOf (all_heads (brought_in ps))) (sym (ap (drop (length s.parts)) (same ∙ sym (append-nil s.parts)) ∙ new_parts s.parts [])) tt

  pub parts_fail : {heard t : Session} → Fails heard t → t.parts ≡ heard.parts
  parts_fail (fails notes gives miss xid asked at refreshed asks_it) = refl
  parts_fail (goes_on none) = refl

  -- by an ask
  pub brought_so : {r : ℕ} {s heard t : Session} {cache after : Cache} {node : Peer} {question : Ask} {given : Answer} → Hears hss_judged r s cache node question given heard after → Fails heard t → AreHeardOf s
      → AllByRecursion IsHeardOf (told node question given) → AllByRecursion EntryOf (all_heads (brought_in (drop (length s.parts) t.parts)))
  brought_so {s = s} {t = t} (gets_on want wants next part) goes h new = none_new s t (parts_fail goes)
  brought_so {s = s} {t = t} {node = node} {question = question} {given = given} (got want brought wants next whole) goes h new =
      subst (λ ps. AllByRecursion EntryOf (all_heads (brought_in ps))) (sym (ap (drop (length s.parts)) (parts_fail goes) ∙ new_parts s.parts _))
      (each_append EntryOf (heads_of brought) [] (brings_so whole (each_append IsHeardOf s.current (told node question given) h new)) tt)
  brought_so {s = s} {t = t} (puts_on said p posts acks at next part) goes h new = none_new s t (parts_fail goes)
  brought_so {s = s} {t = t} (puts said p posts acks came at next whole) goes h new = none_new s t (parts_fail goes)
