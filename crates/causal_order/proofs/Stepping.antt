-- The next record of a log, as it is kept, is one of its chain.
use Rattle.std.proofs.Common.{◌≡◌, ℕ, zero, suc, ◌+◌, ◌<◌, ◌≤◌, ◌^◌, Bool, true, false, List, [], ◌∷◌, ◌++◌, length, get_or, set, map, refl, sym, ap, ◌∙◌, subst, arith, Some, Contains, append_assoc}
use Rattle.std.specs.Prelude.{option_map}
use Rattle.std.specs.List.{AllByRecursion}
use Rattle.std.proofs.lemmas.List.Elements.{All-contains}
use Rattle.ivy_base.specs.declared.key.PubKey.{PubKey}
use Rattle.ivy_base.specs.Naming.{head_key_of}
use Rattle.log_model.specs.View.{View}
use Rattle.log_model.specs.Vector.{Vector}
use Rattle.log_model.specs.Record.{Record}
use Rattle.log_model.specs.Spelling.{HasSpelling}
use Rattle.log_model.specs.Chain.{IsGood}
use Rattle.log_model.proofs.Lists.{here, each_from}
use Rattle.version_vectors.specs.declared.rank.Rank as kept_rank
use Rattle.version_vectors.specs.Ranks.{rank_of}
use Rattle.log_records.specs.declared.record.Record as kept
use Rattle.log_records.specs.Records.{record_of}
use Rattle.log_records.specs.Records.{records_of}
use Rattle.causal_order.specs.Passing.{Queue, IsShortened}
use Rattle.causal_order.specs.declared.base.Base.{Base}
use Rattle.causal_order.specs.declared.log.Log.{Log}
use Rattle.causal_order.specs.Kept.{IsKept, AreKept, IsInFront, IsNext, IsCleared, IsAdvanced, IsDecided, IsLeftAt, IsTakenAt, known_of, queue_of, first_rank}
use Rattle.causal_order.proofs.Passes.{left_owned}
use Rattle.causal_order.proofs.Meeting.{to_map}

module _ (view : View) (front : Vector) (known : List Record) (logs : List Log) (k : AreKept view front known logs) (l : Log) (stands : Contains logs l) where
  queued : (r : Record) → Contains (records_of l.queue.items) r → IsGood view l.owner r
  queued r within = left_owned view front known (map queue_of logs) k.passed (queue_of l) (to_map queue_of logs l stands) r within

  in_front : (r : kept.Record) → IsInFront r l.queue.items → Contains (records_of l.queue.items) (record_of r)
  in_front r f = subst (λ (q : List kept.Record). Contains (records_of q) (record_of r)) (sym f.1) (here (record_of r) (records_of f.0))

  pub front_key : (r : kept.Record) → IsInFront r l.queue.items → l.key ≡ head_key_of r.owner
  front_key r f = (All-contains (IsKept front known) logs l k.kept stands).key ∙ ap head_key_of (sym (queued (record_of r) (in_front r f)).owned)

  pub front_spelled : (r : kept.Record) → IsInFront r l.queue.items → HasSpelling (record_of r)
  front_spelled r f = (queued (record_of r) (in_front r f)).spelled

  pub short_vectors : AllByRecursion (λ r. length r.vector ≤ 2 ^ 31) l.queue.items
  short_vectors = each_from (λ (r : kept.Record). length r.vector ≤ 2 ^ 31) l.queue.items (λ r c. let s = (queued (record_of r) (to_map record_of l.queue.items r c)).spelled.short in omega (arith, s))

  pub some_front : (rank : kept_rank.Rank) → l.next ≡ Some rank → (r : kept.Record) × IsInFront r l.queue.items
  some_front rank e = by l.queue.items (sym (ap (option_map rank_of) e) ∙ (All-contains (IsKept front known) logs l k.kept stands).next)
    where
      by : (q : List kept.Record) → Some (rank_of rank) ≡ first_rank (records_of q) → (r : kept.Record) × IsInFront r q
      by [] h = cc
      by (r ∷ rest) h = (r, (rest, refl))

pub index_itself : (logs : List Log) (i : ℕ) (x : Log) → x ≡ get_or logs i x → get_or logs i x ≡ x
index_itself logs i x e = sym e

pub next_stands : (logs : List Log) (i : ℕ) (x : Log) → IsNext logs i → x ≡ get_or logs i x → Contains logs x
next_stands logs i x n e = let w = n.1.0.within in (i, w, sym e)

pub next_is : (logs : List Log) (i : ℕ) (x : Log) (n : IsNext logs i) → x ≡ get_or logs i x → x.next ≡ Some n.0
next_is logs i x n e = ap (λ (l : Log). l.next) (e ∙ same logs i n.1.0.within ∙ n.1.0.stands) ∙ n.1.0.has
  where
    same : (ls : List Log) (j : ℕ) → j < length ls → get_or ls j x ≡ get_or ls j n.1.0.log
    same [] j h = absurd (omega (arith, h))
    same (y ∷ ls) zero h = refl
    same (y ∷ ls) (suc j) h = same ls j (omega (arith, h))

pub one_index : (logs : List Log) (i : ℕ) (a x : Log) → i < length logs → a ≡ get_or logs i a → x ≡ get_or logs i x → a ≡ x
one_index logs i a x within e f = e ∙ same logs i within ∙ sym f
  where
    same : (ls : List Log) (j : ℕ) → j < length ls → get_or ls j a ≡ get_or ls j x
    same [] j h = absurd (omega (arith, h))
    same (y ∷ ls) zero h = refl
    same (y ∷ ls) (suc j) h = same ls j (omega (arith, h))

module _ (base : Base) (taken : List kept.Record) (logs : List Log) (i : ℕ) (a x new : Log) (b : Bool) (within : i < length logs) (at_a : a ≡ get_or logs i a) (at_x : x ≡ get_or logs i x) (decided : IsDecided base taken a b) where
  here_is : get_or logs i x ≡ a
  here_is = sym at_x ∙ sym (one_index logs i a x within at_a at_x)

  pub left_at : IsCleared (get_or logs i x) new → (r : kept.Record) → IsInFront r a.queue.items → b ≡ false → IsLeftAt base logs taken (set logs i new) taken i
  left_at cleared r f no_more = record {
    old = a;
    stands = sym at_a;
    new = new;
    set = refl;
    cleared = subst (λ (l : Log). IsCleared l new) here_is cleared;
    first = r;
    queue = f;
    kept_taken = refl;
    missing = λ causes. let holds = (decided r f).1 causes in absurd (let e = sym holds ∙ no_more in cc);
  }

  pub taken_at : (place : ℕ) (r : kept.Record) (more : List kept.Record) → IsAdvanced (get_or logs i x) new place r → place ≡ length base.held.now + length taken → more ≡ taken ++ r ∷ [] → b ≡ true → IsTakenAt base logs taken (set logs i new) more i
  taken_at place r more advanced size pushed holds =
      let here = subst (λ (l : Log). IsAdvanced l new place r) here_is advanced in
      record {
        old = a;
        stands = sym at_a;
        new = new;
        set = refl;
        next = r;
        advanced = subst (λ (n : ℕ). IsAdvanced a new n r) size here;
        pushed = pushed;
        causes = (decided r (new.queue.items, here.queue)).0 holds;
      }

-- ---- a step of the pass

-- records as they are kept, one more
pub records_push : (taken : List kept.Record) (r : kept.Record) → records_of (taken ++ r ∷ []) ≡ records_of taken ++ record_of r ∷ []
records_push [] r = refl
records_push (x ∷ taken) r = ap (λ l. record_of x ∷ l) (records_push taken r)

pub known_push : (base : Base) (taken : List kept.Record) (r : kept.Record) → known_of base (taken ++ r ∷ []) ≡ known_of base taken ++ record_of r ∷ []
known_push base taken r = ap (λ l. records_of base.held.now ++ l) (records_push taken r) ∙ sym (append_assoc (records_of base.held.now) (records_of taken) (record_of r ∷ []))

-- a log in another one's place
pub set_parts : (logs : List Log) (i : ℕ) (old new : Log) → i < length logs → get_or logs i old ≡ old → (first : List Log) × (last : List Log) × (logs ≡ first ++ old ∷ last) × (set logs i new ≡ first ++ new ∷ last)
set_parts [] i old new h e = absurd (omega (arith, h))
set_parts (x ∷ logs) zero old new h e = ([], logs, ap (λ (y : Log). y ∷ logs) e, refl)
set_parts (x ∷ logs) (suc i) old new h e =
    let w = set_parts logs i old new (omega (arith, h)) e in
    (x ∷ w.0, w.1, ap (λ l. x ∷ l) w.2, ap (λ l. x ∷ l) w.3)

pub queues_append : (first : List Log) (l : Log) (last : List Log) → map queue_of (first ++ l ∷ last) ≡ map queue_of first ++ queue_of l ∷ map queue_of last
queues_append [] l last = refl
queues_append (x ∷ first) l last = ap (λ q. queue_of x ∷ q) (queues_append first l last)

queue_made : (a b : PubKey) (p q : List Record) → a ≡ b → p ≡ q → (let k : Queue = record { owner = a; left = p } in k) ≡ (let l : Queue = record { owner = b; left = q } in l)
queue_made a b p q e f = cc

pub shortened : (logs : List Log) (i : ℕ) (old new : Log) (rest : List Record) → i < length logs → get_or logs i old ≡ old → new.owner ≡ old.owner → records_of new.queue.items ≡ rest
    → IsShortened (map queue_of logs) (map queue_of (set logs i new)) (queue_of old) rest
shortened logs i old new rest h e owner left =
    let w = set_parts logs i old new h e in
    record {
      first = map queue_of w.0;
      last = map queue_of w.1;
      old = ap (map queue_of) w.2 ∙ queues_append w.0 old w.1;
      new = ap (map queue_of) w.3 ∙ queues_append w.0 new w.1 ∙ ap (λ (k : Queue). map queue_of w.0 ++ k ∷ map queue_of w.1) (queue_made new.owner old.owner (records_of new.queue.items) rest owner left);
    }

pub owners_stay : (logs : List Log) (i : ℕ) (old new : Log) → i < length logs → get_or logs i old ≡ old → new.owner ≡ old.owner → map (λ (l : Log). l.owner) (set logs i new) ≡ map (λ (l : Log). l.owner) logs
owners_stay [] i old new h e owner = absurd (omega (arith, h))
owners_stay (x ∷ logs) zero old new h e owner = ap (λ (o : PubKey). o ∷ map (λ (l : Log). l.owner) logs) (owner ∙ sym (ap (λ (l : Log). l.owner) e))
owners_stay (x ∷ logs) (suc i) old new h e owner = ap (λ os. x.owner ∷ os) (owners_stay logs i old new (omega (arith, h)) e owner)
