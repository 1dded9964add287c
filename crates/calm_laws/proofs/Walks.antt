-- A refresh misses nothing, where of each record up to a head that it is brought, and up to the floor's, the block was put or is available,
-- and what is missed wasn't put.
use Rattle.std.proofs.Common.{◌≡◌, inl, inr, ℕ, zero, suc, ◌+◌, ◌-◌, ◌≤◌, Bool, true, false, cond, List, [], ◌∷◌, ◌++◌, length, Option, Some, None, Ok, Err, refl, sym, ap, ◌∙◌, subst, arith, Contains, nat_lt, length-append}
use Rattle.std.specs.List.{AllByRecursion}
use Rattle.ivy_base.specs.declared.key.Key.{Key}
use Rattle.ivy_base.specs.declared.key.PubKey.{PubKey}
use Rattle.ivy_base.specs.Naming.{IsCollisionFree, head_key_of, name}
use Rattle.log_model.specs.Chain.{LinkedFrom}
use Rattle.log_model.specs.Record.{Record}
use Rattle.log_model.specs.Spelling.{HasSpelling, body, no_name, record_block, record_kind, record_tag, vector_entry}
use Rattle.wire_model.specs.Xdr.{array, moment, word}
use Rattle.log_model.specs.Vector.{Stamp, Vector, seq_of, stamp_at}
use Rattle.log_model.specs.View.{View}
use Rattle.log_model.proofs.Lists.{each, each_append, each_from, each_right}
use Rattle.log_records.proofs.OneRecord.{one_record}
use Rattle.log_model.specs.declared.chain_fault.ChainFault.{ChainFault}
use Rattle.log_model.specs.Fetched.{Edge}
use Rattle.ring_model.proofs.Lists.{all_weaker}
use Rattle.dht_ids.specs.declared.judge.Judged.{Judged}
use Rattle.dht_ids.specs.declared.post.Post.{Post}
use Rattle.dhash_model.specs.declared.miss.Miss.{Miss}
use Rattle.agent_model.specs.Agent.{record_post}
use Rattle.agent_model.specs.Standing.{Chain, Refresh, Standing, edge_at}
use Rattle.session_model.specs.Brought.{BlockOf, Brought, HeadsOf, stamp_of}
use Rattle.session_model.specs.Refreshing.{FailsBy, Fetches, FetchesAll, Needs, Note, RefreshEnd, Refreshes, end_of_log, floors_own}
use Rattle.session_model.specs.Refreshing.Fetches.{no_heads, of_heads, of_own, wants_heads}
use Rattle.session_model.specs.Refreshing.FetchesAll.{all as fetches_all, goes_on as fetches_on, stays as fetches_stay}
use Rattle.session_model.specs.Refreshing.Refreshes.{fetching, loading}
use Rattle.session_model.specs.Walks.{Gives, GivesNone, Lacks, LogEnd, Misses, Stops, Tries, WalkEnd, Walks}
use Rattle.session_model.specs.Walks.Tries.{garbled as tries_garbled, gives, misses as tries_miss, none as tries_none, passes, wants as tries_want}
use Rattle.session_model.specs.Walks.Walks.{back, came, garbled, misses, wants}
use Rattle.world_laws.proofs.SignedHeads.{from_map}
use Rattle.calm_laws.specs.Put.{AllUpTo, IsPutOr}
use Rattle.turn_laws.proofs.LinkedLogs.{last_seq}
use Rattle.calm_laws.proofs.Stages.{IsMet}

-- two records of logs with one head key whose blocks are one name the same record before them
pub same_prev : (a b : Record) → HasSpelling a → HasSpelling b → head_key_of a.owner ≡ head_key_of b.owner → record_block a ≡ record_block b → a.prev ≡ b.prev
same_prev a b f g key same = ap (λ (x : Record). x.prev) read
  where
    blocks_of : (b : Record) (o : PubKey) → head_key_of o ≡ head_key_of b.owner → record_block (record b { owner = o }) ≡ record_block b
    blocks_of b o e = ap (λ (k : Key). record_tag b.format ++ word (record_kind b.op) ++ k.0 ++ b.prev.0 ++ word b.seq ++ moment b.moment ++ array vector_entry b.vector ++ body b.op) e

    c : Record
    c = record b { owner = a.owner }

    block : record_block c ≡ record_block b
    block = blocks_of b a.owner key

    spelled : HasSpelling c
    spelled = record {
      some = g.some;
      few = g.few;
      prev = g.prev;
      moment = g.moment;
      entries = g.entries;
      in_order = g.in_order;
      short = g.short;
      of_others = ap (stamp_at b.vector) key ∙ g.of_others;
      operation = g.operation;
      ends_first = g.ends_first;
      first_alone = g.first_alone;
      first_plain = g.first_plain;
      named = g.named ∙ ap name (sym block);
    }

    read : a ≡ c
    read = ((one_record a.owner).one a c [] [] (refl, f) (refl, spelled) (ap (λ l. l ++ []) (same ∙ sym block))).0

-- the name of the newest of them
abbrev pub newest : Key → List Record → Key
newest prev [] = prev
newest prev (r ∷ rs) = newest r.name rs

newest_last : (prev : Key) (before : List Record) (last : Record) (rs : List Record) → rs ≡ before ++ last ∷ [] → newest prev rs ≡ last.name
newest_last prev before last rs e = ap (newest prev) e ∙ by prev before
  where
    by : (prev : Key) (before : List Record) → newest prev (before ++ last ∷ []) ≡ last.name
    by prev [] = refl
    by prev (b ∷ before) = by b.name before

module _ (acked pending : List Post) (log : Key) where
  -- back by names from there stand so many records, of each of which the block is there
  pub data IsBack : ℕ → Key → Type 0 where
    first : {key : Key} → IsBack zero key
    more : {n : ℕ} {key : Key} (one : Record) → key ≡ one.name → log ≡ head_key_of one.owner → HasSpelling one → IsPutOr acked pending one → IsBack n one.prev → IsBack (suc n) key

  -- ---- such are linked records, of each of which it is

  back_on : (m : ℕ) (prev : Key) (owner : PubKey) (rs : List Record) (key : Key) → log ≡ head_key_of owner → LinkedFrom owner (m + 1) prev rs → AllByRecursion (IsPutOr acked pending) rs → IsBack m prev → newest prev rs ≡ key → IsBack (m + length rs) key
  back_on m prev owner [] key of_log linked there so at = subst (λ k. IsBack k key) (omega arith) (subst (IsBack m) at so)
  back_on m prev owner (r ∷ rs) key of_log linked there so at =
      subst (λ k. IsBack k key) (omega arith)
      (back_on (m + 1) r.name owner rs key of_log linked.4 there.1
      (subst (λ k. IsBack k r.name) (omega arith) (more r refl (of_log ∙ ap head_key_of (sym linked.0)) linked.1 there.0 (subst (IsBack m) (sym linked.3) so))) at)

  pub back_of : (owner : PubKey) (t : Stamp) → log ≡ head_key_of owner → AllUpTo (IsPutOr acked pending) owner t → IsBack t.seq t.name
  back_of owner t of_log h =
      let far = back_on 0 no_name owner h.log t.name of_log h.linked h.each first (newest_last no_name h.ends.0 h.ends.1 h.log h.ends.2 ∙ ap (λ (s : Stamp). s.name) h.ends.3) in
      let last = last_seq owner 1 no_name h.ends.0 h.ends.1 (subst (LinkedFrom owner 1 no_name) h.ends.2 h.linked) in
      let same : h.ends.1.seq ≡ t.seq = ap (λ (s : Stamp). s.seq) h.ends.3 in
      let size : length h.log ≡ length (h.ends.0 ++ h.ends.1 ∷ []) = ap length h.ends.2 in
      let one_more = length-append h.ends.0 (h.ends.1 ∷ []) in
      subst (λ k. IsBack k t.name) (omega (arith, last, same, size, one_more)) far

  fewer : (n m : ℕ) (key : Key) → m ≤ n → IsBack n key → IsBack m key
  fewer n zero key l h = first
  fewer zero (suc m) key l h = absurd (omega (arith, l))
  fewer (suc n) (suc m) key l (more one is of_log spelled there h) = more one is of_log spelled there (fewer n m one.prev (omega (arith, l)) h)

-- ---- what was brought

-- heads lead back so; a block has its name; and what was missed isn't there
abbrev pub PartSo : List Post → List Post → List (List ℕ) → Key → Brought → Type 0
PartSo acked pending met log (HeadsOf owner (Ok heads)) = log ≡ head_key_of owner → AllByRecursion (λ j. IsBack acked pending log j.seq j.name) heads
PartSo acked pending met log (HeadsOf owner (Err miss)) = log ≡ head_key_of owner → ⊥
PartSo acked pending met log (BlockOf key (Ok bytes)) = (name bytes ≡ key) × Contains met bytes
PartSo acked pending met log (BlockOf key (Err miss)) = (one : Record) → key ≡ one.name → HasSpelling one → IsPutOr acked pending one → ⊥

pub there_met : (acked pending : List Post) (met : List (List ℕ)) → ((p : Post) → Contains acked p → Contains met p.bytes) → AllByRecursion (IsMet met) pending → (one : Record) → IsPutOr acked pending one → Contains met (record_block one)
there_met acked pending met put_met pending_met one (inl put) = subst (Contains met) put.3 (put_met put.0 put.1)
there_met acked pending met put_met pending_met one (inr c) = each (IsMet met) pending (record_post one) pending_met c

module _ (acked pending : List Post) (met : List (List ℕ)) (apart : IsCollisionFree met) (put_met : (p : Post) → Contains acked p → Contains met p.bytes) (pending_met : AllByRecursion (IsMet met) pending) (log : Key) where
  walks_on : (owner : PubKey) → log ≡ head_key_of owner → {n : ℕ} {key : Key} {brought : List Brought} {records : List Record} {end : WalkEnd} → Walks owner n key brought records end → IsBack acked pending log n key → AllByRecursion (PartSo acked pending met log) brought → (miss : Miss) → end ≡ Misses miss → ⊥
  walks_on owner of_log came h parts miss e = cc e
  walks_on owner of_log wants h parts miss e = cc e
  walks_on owner of_log (misses missed) (more one is same spelled there h) parts miss e = parts.0 one is spelled there
  walks_on owner of_log (garbled bytes none) h parts miss e = cc e
  walks_on owner of_log (back bytes r reads rest) (more one is same spelled there h) parts miss e =
      let block : record_block r ≡ record_block one = sym reads.spelled ∙ apart bytes (record_block one) parts.0.1 (there_met acked pending met put_met pending_met one there) (parts.0.0 ∙ is ∙ spelled.named) in
      let prev : r.prev ≡ one.prev = same_prev r one reads.fits spelled (ap head_key_of reads.owned ∙ sym of_log ∙ same) block in
      walks_on owner of_log rest (subst (IsBack acked pending log _) (sym prev) h) parts.1 miss e

  tries_on : (view : View) (owner : PubKey) (start floor : Vector) (edge : Option Edge) → log ≡ head_key_of owner → {ts : List Stamp} {brought : List Brought} {faults : List ChainFault} {end : LogEnd} → Tries (record { view = view; owner = owner; start = start; floor = floor; edge = edge }) ts brought faults end
      → AllByRecursion (λ t. IsBack acked pending log t.seq t.name) ts → AllByRecursion (PartSo acked pending met log) brought → (miss : Miss) → end ≡ Stops miss → ⊥
  tries_on view owner start floor edge of_log tries_none h parts miss e = cc e
  tries_on view owner start floor edge of_log (tries_want walk) h parts miss e = cc e
  tries_on view owner start floor edge of_log (tries_miss {t = t} {miss = missed} walk) h parts miss e = walks_on owner of_log walk (fewer acked pending log t.seq (t.seq - seq_of start (head_key_of owner)) t.name (omega arith) h.0) parts missed refl
  tries_on view owner start floor edge of_log (gives walk sound onward) h parts miss e = cc e
  tries_on view owner start floor edge of_log (passes {brought = brought} {more = later} walk ample fault rest) h parts miss e = tries_on view owner start floor edge of_log rest h.1 (each_right (PartSo acked pending met log) brought later parts) miss e
  tries_on view owner start floor edge of_log (tries_garbled {brought = brought} {more = later} walk rest) h parts miss e = tries_on view owner start floor edge of_log rest h.1 (each_right (PartSo acked pending met log) brought later parts) miss e

  -- the log's part of a refresh
  log_on : (s : Standing) (start : Vector) (owner : PubKey) → log ≡ head_key_of owner → ((t : Stamp) → stamp_at s.floor (head_key_of owner) ≡ Some t → IsBack acked pending log t.seq t.name) → {brought : List Brought} {notes : List Note} {end : LogEnd} → Fetches (record { standing = s; start = start }) owner brought notes end → AllByRecursion (PartSo acked pending met log) brought
      → (miss : Miss) → end ≡ Stops miss → ⊥
  log_on s start owner of_log known (wants_heads other) parts miss e = cc e
  log_on s start owner of_log known (no_heads missed other) parts miss e = parts.0 of_log
  log_on s start owner of_log known (of_heads heads tried brought faults end other tried_are tries) parts miss e =
      tries_on s.view owner start s.floor (edge_at s (head_key_of owner)) of_log tries
      (each_append (λ t. IsBack acked pending log t.seq t.name) tried (floors_own (stamp_at s.floor (head_key_of owner)) (seq_of start (head_key_of owner)))
      (each_from (λ t. IsBack acked pending log t.seq t.name) tried (λ t c.
      let found = from_map stamp_of heads t ((tried_are.each t).0 c).0 in
      subst (λ (x : Stamp). IsBack acked pending log x.seq x.name) (sym found.2) (each (λ (j : Judged). IsBack acked pending log j.seq j.name) heads found.0 (parts.0 of_log) found.1)))
      (floor_on (stamp_at s.floor (head_key_of owner)) (seq_of start (head_key_of owner)) known))
      parts.1 miss e
    where
      floor_on : (o : Option Stamp) (held : ℕ) → ((t : Stamp) → o ≡ Some t → IsBack acked pending log t.seq t.name) → AllByRecursion (λ t. IsBack acked pending log t.seq t.name) (floors_own o held)
      floor_on None held h = tt
      floor_on (Some t) held h = by (nat_lt held t.seq)
        where
          by : (b : Bool) → AllByRecursion (λ x. IsBack acked pending log x.seq x.name) (cond b (t ∷ []) [])
          by true = (h t refl, tt)
          by false = tt
  log_on s start owner of_log known (of_own brought faults end mine tries) parts miss e =
      tries_on s.view owner start s.floor (edge_at s (head_key_of owner)) of_log tries (floor_on (stamp_at s.floor (head_key_of owner)) (seq_of start (head_key_of owner)) known) parts miss e
    where
      floor_on : (o : Option Stamp) (held : ℕ) → ((t : Stamp) → o ≡ Some t → IsBack acked pending log t.seq t.name) → AllByRecursion (λ t. IsBack acked pending log t.seq t.name) (floors_own o held)
      floor_on None held h = tt
      floor_on (Some t) held h = by (nat_lt held t.seq)
        where
          by : (b : Bool) → AllByRecursion (λ x. IsBack acked pending log x.seq x.name) (cond b (t ∷ []) [])
          by true = (h t refl, tt)
          by false = tt

-- ---- the whole

-- so for each log
abbrev pub BroughtSo : List Post → List Post → List (List ℕ) → Brought → Type 0
BroughtSo acked pending met b = (log : Key) → PartSo acked pending met log b

-- the floor's record of each member's log leads back so
abbrev pub FloorSo : List Post → List Post → Standing → List PubKey → Type 0
FloorSo acked pending s owners = AllByRecursion (λ owner. (t : Stamp) → stamp_at s.floor (head_key_of owner) ≡ Some t → IsBack acked pending (head_key_of owner) t.seq t.name) owners

module _ (acked pending : List Post) (met : List (List ℕ)) (apart : IsCollisionFree met) (put_met : (p : Post) → Contains acked p → Contains met p.bytes) (pending_met : AllByRecursion (IsMet met) pending) (s : Standing) where
  for_log : (log : Key) (brought : List Brought) → AllByRecursion (BroughtSo acked pending met) brought → AllByRecursion (PartSo acked pending met log) brought
  for_log log brought h = all_weaker (BroughtSo acked pending met) (PartSo acked pending met log) brought (λ b f. f log) h

  failed_by : (log : LogEnd) (end : RefreshEnd) (miss : Miss) → end_of_log log ≡ Some end → end ≡ FailsBy miss → log ≡ Stops miss
  failed_by (Lacks want) end miss e f = let same : Needs want ≡ end = cc e in absurd (never (same ∙ f))
    where
      never : Needs want ≡ FailsBy miss → ⊥
      never x = cc x
  failed_by (Stops missed) end miss e f = let same : FailsBy missed ≡ end = cc e in let one : missed ≡ miss = cc (same ∙ f) in ap (λ m. Stops m) one
  failed_by (Gives records) end miss e f = cc e
  failed_by GivesNone end miss e f = cc e

  fetches_right : (start : Vector) {owners : List PubKey} {brought : List Brought} {notes : List Note} {chains : List Chain} {end : RefreshEnd} → FetchesAll (record { standing = s; start = start }) owners brought notes chains end → FloorSo acked pending s owners → AllByRecursion (BroughtSo acked pending met) brought → (miss : Miss) → end ≡ FailsBy miss → ⊥
  fetches_right start fetches_all floor parts miss e = cc e
  fetches_right start (fetches_stay {owner = owner} {brought = brought} {log = log} {end = end} part is) floor parts miss e =
      log_on acked pending met apart put_met pending_met (head_key_of owner) s start owner refl floor.0 part (for_log (head_key_of owner) brought parts) miss (failed_by log end miss is e)
  fetches_right start (fetches_on {brought = brought} {more = later} part is rest) floor parts miss e = fetches_right start rest floor.1 (each_right (BroughtSo acked pending met) brought later parts) miss e

  pub never_fails : {brought : List Brought} {notes : List Note} {given : Refresh} {end : RefreshEnd} → Refreshes s brought notes given end → FloorSo acked pending s s.view.members → AllByRecursion (BroughtSo acked pending met) brought → (miss : Miss) → end ≡ FailsBy miss → ⊥
  never_fails (loading loads) floor parts miss e = cc e
  never_fails (fetching {loaded = loaded} {brought = brought} basis loads fetch) floor parts miss e = fetches_right _ fetch floor (each_right (BroughtSo acked pending met) loaded brought parts) miss e
