-- The records that a turn writes over a front: good ones, the next ones of the own log, after all that the front knows.
use Rattle.std.proofs.Common.{◌≡◌, inr, ⊎_elim, ℕ, ◌+◌, ◌<◌, ◌≤◌, ◌^◌, suc, cond, not, List, [], ◌∷◌, ◌++◌, length, map, Option, None, refl, sym, ap, ◌∙◌, subst, arith}
use Rattle.std.specs.Prelude.{IsTrue}
use Rattle.std.specs.List.{AllByRecursion}
use Rattle.std.specs.Option.{option_map_or}
use Rattle.std.proofs.lemmas.List.{map-append}
use Rattle.ivy_base.specs.declared.key.Key.{Key}
use Rattle.ivy_base.specs.declared.key.PubKey.{PubKey}
use Rattle.ivy_base.specs.declared.operation.Moment.{Moment}
use Rattle.ivy_base.specs.declared.operation.Op.{Op}
use Rattle.ivy_base.specs.Naming.{head_key_of}
use Rattle.ivy_base.proofs.NameLemmas.{length-name, bytes-name}
use Rattle.tree_model.specs.Tree.{Tree}
use Rattle.tree_model.specs.Apply.{apply_all}
use Rattle.tree_model.proofs.Keys.{same_key_itself}
use Rattle.log_model.specs.Chain.{IsGood, MayBeWritten, AllMayBeWritten}
use Rattle.log_model.specs.Closed.{IsAscending, IsClosed}
use Rattle.log_model.specs.Rank.{own_entry, full_vector, front, weight}
use Rattle.log_model.specs.Record.{Record}
use Rattle.log_model.specs.Replay.{effect}
use Rattle.log_model.specs.Spelling.{new_record, record_block, no_name, HasSpelling, IsKey, IsMoment}
use Rattle.log_model.specs.Vector.{Entry, Stamp, Vector, reach, seq_of, stamp_at, weight_of, without_log, Dominates}
use Rattle.log_model.specs.View.{View, IsView, is_named, most_cited}
use Rattle.log_model.proofs.Lists.{each, each_append, each_from}
use Rattle.log_model.proofs.Later.{apply_more, good_of, name_is_key, replay_more}
use Rattle.log_model.proofs.Part.{found_stamp}
use Rattle.log_model.proofs.Sets.{IsBefore, lighter_is_before}
use Rattle.log_model.proofs.Weights.{Sorted, joins_reach, sorted_front, sorted_with_entry, weight-full_vector, weight-mono, weight_by_log, no_heavier_than_front}
use Rattle.log_records.proofs.Sizes.{short_records}
use Rattle.turn_laws.proofs.Entries.{each_without_log}
use Rattle.turn_laws.proofs.Heads.{short_named}
use Rattle.turn_laws.proofs.Starts.{stamp_at-without_log, sorted_without_log}
use Rattle.turn_model.specs.Basis.{Holding, kept_tree}
use Rattle.turn_model.specs.Turn.{linked}
use Rattle.turn_model.proofs.Kept.{kept_tree_is_replay}
use Rattle.turn_model.proofs.Plans.{plan_may_be_written}
use Rattle.agent_model.specs.Agent.{joined}
use Rattle.agent_model.specs.Turning.{AreNext, with_held}
use Rattle.ivy_agent.specs.Appended.{heading, MayBeCited, PostsAreNamed, WrittenAreGood, WrittenAreNext, WrittenGoBehind, WrittenIsAppended, WritesMayStand, written_over}
use Rattle.ivy_agent.proofs.ServedTurns.{writes_are_planned}

pub writes_may_stand : WritesMayStand
writes_may_stand a t seq asked now ops keys caller fits moment e =
    let p = writes_are_planned a t seq asked now ops e in
    let few = p.few in
    plan_may_be_written t a.view asked.caller asked.args now a.own (seq + 1) ops keys caller fits moment p.planned (omega (arith, few))

-- ---- good records

-- a name is a key, by the digest alone
pub name_of_new : (own : PubKey) (n : ℕ) (prev : Key) (v : Vector) (now : Moment) (op : Op) → IsKey (new_record (heading own v now) n prev op).name
name_of_new own n prev v now op =
    let r : Record = new_record (heading own v now) n prev op in
    record { size = length-name (record_block r); each = bytes-name (record_block r) }

abbrev pub IsSpelled : Entry → Type 0
IsSpelled e = IsKey e.0 × (1 ≤ e.1.seq) × (e.1.seq < 2 ^ 32) × IsKey e.1.name

-- what a good record of the own log may cite
pub record MayCite (view : View) (own : PubKey) (v : Vector) : Type 0 where
  pub in_order : Sorted v
  pub of_others : stamp_at v (head_key_of own) ≡ None
  pub entries : AllByRecursion IsSpelled v
  pub short : length v ≤ most_cited
  pub named : AllByRecursion (λ e. IsTrue (is_named view e.0)) v

pub new_is_good : (view : View) (own : PubKey) (n : ℕ) (prev : Key) (v : Vector) (now : Moment) (op : Op) → MayCite view own v → IsMoment now → 2 ≤ n → IsKey prev → MayBeWritten own n op → IsGood view own (new_record (heading own v now) n prev op)
new_is_good view own n prev v now op cites moment later key may = record {
  owned = refl;
  spelled = record {
    some = omega (arith, later);
    few = may.few;
    prev = key;
    moment = moment;
    entries = cites.entries;
    in_order = cites.in_order;
    short = cites.short;
    of_others = cites.of_others;
    operation = may.fits;
    ends_first = (λ e. absurd (omega (arith, later, e)), λ e. absurd (may.no_end e));
    first_plain = λ e. refl;
    first_alone = λ e. absurd (omega (arith, later, e));
    named = refl;
  };
  number = may.number;
  named = cites.named;
}

all_good : (view : View) (own : PubKey) (v : Vector) (now : Moment) → MayCite view own v → IsMoment now → (n : ℕ) (prev : Key) (ops : List Op) → 2 ≤ n → IsKey prev → AllMayBeWritten own n ops
    → AllByRecursion (IsGood view own) (linked (heading own v now) n prev ops)
all_good view own v now cites moment n prev [] later key may = tt
all_good view own v now cites moment n prev (op ∷ ops) later key may = (
  new_is_good view own n prev v now op cites moment later key may.0,
  all_good view own v now cites moment (n + 1) (new_record (heading own v now) n prev op).name ops (omega (arith, later)) (name_of_new own n prev v now op) may.1,
)

-- the own log's newest record in a front has a key as its name
newest_is_key : (f : Vector) (log : Key) → AllByRecursion IsSpelled f → 1 ≤ seq_of f log → IsKey (option_map_or (λ t. t.name) (stamp_at f log) no_name)
newest_is_key f log spelled begun = ⊎_elim
    (λ none. let zero : seq_of f log ≡ 0 = ap reach none in absurd (omega (arith, zero, begun)))
    (λ found. subst (λ (o : Option Stamp). IsKey (option_map_or (λ t. t.name) o no_name)) (sym found.3) ((each IsSpelled f found.0 spelled found.1).3))
    (found_stamp f log)

-- a front without the own log may be cited
pub may_cite : (view : View) (own : PubKey) (f : Vector) → IsView view → MayBeCited view f → MayCite view own (without_log (head_key_of own) f)
may_cite view own f well cited =
    let log : Key = head_key_of own in
    let sorted : Sorted (without_log log f) = sorted_without_log log f cited.whole.in_order in
    let named = each_without_log (λ e. IsTrue (is_named view e.0)) log f cited.named in
    record {
      in_order = sorted;
      of_others = stamp_at-without_log f log log ∙ ap (λ b. cond (not b) (stamp_at f log) None) (same_key_itself log);
      entries = each_without_log IsSpelled log f cited.whole.entries;
      short = short_named view (without_log log f) well sorted named;
      named = named;
    }

pub written_are_good : WrittenAreGood
written_are_good view own now f ops well cited moment begun may =
    let log : Key = head_key_of own in
    all_good view own (without_log log f) now (may_cite view own f well cited) moment (seq_of f log + 1) (option_map_or (λ t. t.name) (stamp_at f log) no_name) ops
    (omega (arith, begun)) (newest_is_key f log cited.whole.entries begun) may

-- ---- the next records

all_next : (own : PubKey) (v : Vector) (now : Moment) (n : ℕ) (prev : Key) (ops : List Op) → AreNext n (linked (heading own v now) (n + 1) prev ops)
all_next own v now n prev [] = tt
all_next own v now n prev (op ∷ ops) = (refl, all_next own v now (n + 1) (new_record (heading own v now) (n + 1) prev op).name ops)

as_many : (own : PubKey) (v : Vector) (now : Moment) (n : ℕ) (prev : Key) (ops : List Op) → length (linked (heading own v now) n prev ops) ≡ length ops
as_many own v now n prev [] = refl
as_many own v now n prev (op ∷ ops) = ap (λ (k : ℕ). suc k) (as_many own v now (n + 1) (new_record (heading own v now) n prev op).name ops)

pub written_are_next : WrittenAreNext
written_are_next own now f ops =
    let log : Key = head_key_of own in
    let prev : Key = option_map_or (λ t. t.name) (stamp_at f log) no_name in
    (all_next own (without_log log f) now (seq_of f log) prev ops, as_many own (without_log log f) now (seq_of f log + 1) prev ops)

-- ---- ranks

module _ (own : PubKey) (v : Vector) (now : Moment) where
  -- a record that is lighter than the first of them is before all
  before_all : (x : Record) (n : ℕ) (prev : Key) (ops : List Op) → weight x < n + weight_of v → AllByRecursion (λ r. IsBefore x r) (linked (heading own v now) n prev ops)
  before_all x n prev [] light = tt
  before_all x n prev (op ∷ ops) light =
      let r : Record = new_record (heading own v now) n prev op in
      (lighter_is_before x r light, before_all x (n + 1) r.name ops (omega (arith, light)))

  all_ascend : (n : ℕ) (prev : Key) (ops : List Op) → IsAscending (linked (heading own v now) n prev ops)
  all_ascend n prev [] = tt
  all_ascend n prev (op ∷ ops) =
      let r : Record = new_record (heading own v now) n prev op in
      (before_all r (n + 1) r.name ops (omega arith), all_ascend (n + 1) r.name ops)

  -- lighter records are before each of them
  behind_each : (held : List Record) (n : ℕ) (prev : Key) (ops : List Op) → AllByRecursion (λ q. weight q < n + weight_of v) held → AllByRecursion (λ r. AllByRecursion (λ q. IsBefore q r) held) (linked (heading own v now) n prev ops)
  behind_each held n prev [] light = tt
  behind_each held n prev (op ∷ ops) light =
      let r : Record = new_record (heading own v now) n prev op in (
        each_from (λ q. IsBefore q r) held (λ q c. lighter_is_before q r (each (λ x. weight x < n + weight_of v) held q light c)),
        behind_each held (n + 1) r.name ops (each_from (λ x. weight x < n + 1 + weight_of v) held (λ q c. let less = each (λ x. weight x < n + weight_of v) held q light c in omega (arith, less))),
      )

  -- and ascend with them, where they do
  pub ascend_with : (s : List Record) (n : ℕ) (prev : Key) (ops : List Op) → IsAscending s → AllByRecursion (λ q. weight q < n + weight_of v) s → IsAscending (s ++ linked (heading own v now) n prev ops)
  ascend_with [] n prev ops up light = all_ascend n prev ops
  ascend_with (x ∷ s) n prev ops up light =
      (each_append (IsBefore x) s (linked (heading own v now) n prev ops) up.0 (before_all x n prev ops light.0), ascend_with s n prev ops up.1 light.1)

-- none of these records weighs more than a vector that goes as far as each
pub none_heavier : (s : List Record) (f : Vector) → Sorted f → AllByRecursion HasSpelling s → AllByRecursion (λ w. Dominates f w) (map full_vector s) → AllByRecursion (λ q. weight q ≤ weight_of f) s
none_heavier [] f sorted spelled far = tt
none_heavier (q ∷ s) f sorted spelled far =
    let same = weight-full_vector q spelled.0 in
    let in_order : Sorted (full_vector q) = sorted_with_entry q.vector (own_entry q) spelled.0.in_order in
    let light = weight-mono (full_vector q) f sorted in_order far.0 in
    (omega arith, none_heavier s f sorted spelled.1 far.1)

-- so each is lighter than the next record over that vector
pub all_lighter : (own : PubKey) (s : List Record) (f : Vector) → Sorted f → AllByRecursion (λ q. weight q ≤ weight_of f) s → AllByRecursion (λ q. weight q < seq_of f (head_key_of own) + 1 + weight_of (without_log (head_key_of own) f)) s
all_lighter own s f sorted light =
    let parts = weight_by_log (head_key_of own) f sorted in
    each_from (λ q. weight q < seq_of f (head_key_of own) + 1 + weight_of (without_log (head_key_of own) f)) s
    (λ q c. let less = each (λ x. weight x ≤ weight_of f) s q light c in omega (arith, parts, less))

pub written_go_behind : WrittenGoBehind
written_go_behind own now h ops sorted spelled =
    let log : Key = head_key_of own in
    let f : Vector = joined h in
    let prev : Key = option_map_or (λ t. t.name) (stamp_at f log) no_name in
    let light = all_lighter own h.held f sorted (none_heavier h.held f sorted spelled (joins_reach (map full_vector h.held) h.basis.front)) in
    (all_ascend own (without_log log f) now (seq_of f log + 1) prev ops, behind_each own (without_log log f) now h.held (seq_of f log + 1) prev ops light)

-- ---- the set

all_spelled : (view : View) (s : List Record) → IsClosed view s → AllByRecursion HasSpelling s
all_spelled view s closed = each_from HasSpelling s (λ r c. (good_of view s r closed c).spelled)

appended_ascends : (view : View) (own : PubKey) (now : Moment) (s : List Record) (ops : List Op) → IsClosed view s → IsAscending (s ++ written_over own now (front s) ops)
appended_ascends view own now s ops closed =
    let log : Key = head_key_of own in
    ascend_with own (without_log log (front s)) now s (seq_of (front s) log + 1) (option_map_or (λ t. t.name) (stamp_at (front s) log) no_name) ops closed.ascending
    (all_lighter own s (front s) (sorted_front s) (no_heavier_than_front s (all_spelled view s closed)))

-- more records that are held make of the tree what they do
held_more : (h : Holding) (more : List Record) → kept_tree (with_held h more) ≡ apply_all (kept_tree h) (map effect more)
held_more h more = ap (λ (l : List (Moment × Op)). apply_all h.basis.tree l) (map-append effect h.held more) ∙ apply_more h.basis.tree (map effect h.held) (map effect more)

pub written_is_appended : WrittenIsAppended
written_is_appended view own now s h ops closed holds same = (
  ap (λ (f : Vector). s ++ written_over own now f ops) (sym same),
  ap (λ (f : Vector). kept_tree (with_held h (written_over own now f ops))) (sym same)
      ∙ held_more h (written_over own now (front s) ops)
      ∙ ap (λ (t : Tree). apply_all t (map effect (written_over own now (front s) ops))) (kept_tree_is_replay view s h closed holds)
      ∙ sym (replay_more s (written_over own now (front s) ops) closed.ascending (appended_ascends view own now s ops closed)),
)

-- ---- posts

pub posts_are_named : PostsAreNamed
posts_are_named [] spelled = tt
posts_are_named (r ∷ rs) spelled = ((name_is_key r spelled.0, inr spelled.0.named, short_records r spelled.0), posts_are_named rs spelled.1)
