-- What a draft is made of.
use Rattle.std.proofs.Common.{◌≡◌, ◌+◌, ◌≤◌, List, [], ◌∷◌, ◌++◌, length, map, Option, Some, None, sym, ap, ◌∙◌, subst, arith}
use Rattle.std.specs.Prelude.{IfSome, IsSomeAnd, option_map}
use Rattle.ivy_base.specs.declared.key.Key.{Key}
use Rattle.ivy_base.specs.declared.key.PubKey.{PubKey}
use Rattle.ivy_base.specs.declared.operation.Moment.{Moment}
use Rattle.ivy_base.specs.declared.operation.Op.{Op}
use Rattle.ivy_base.specs.Naming.{head_key_of}
use Rattle.log_model.specs.Record.{Record}
use Rattle.log_model.specs.Spelling.{most_records}
use Rattle.log_model.specs.Vector.{Stamp, Vector, join, seq_of}
use Rattle.std.proofs.lemmas.List.{length-map}
use Rattle.log_records.specs.Records.{record_of, records_of}
use Rattle.dht_ids.specs.declared.post.Post.{Post}
use Rattle.ivy_agent.specs.Appended.{written_over}
use Rattle.ivy_agent.specs.Newest.{newest_stamp, stamp_of, with_newest}
use Rattle.ivy_agent.specs.declared.written.Before.{Before}
use Rattle.ivy_agent.proofs.Fronts.{newest_is_last, newest_is_reached}
use Rattle.ivy_agent.proofs.Records.{written_are_next}
use Rattle.log_model.specs.Signing.{Signing}
use Rattle.agent_model.specs.Agent.{own_key, record_post}
use Rattle.ivy_agent.specs.Drafts.{IsDraft, IsSigned}
use Rattle.ivy_agent.specs.declared.saving.Kept.{Kept}
use Rattle.ivy_agent.specs.declared.drafts.Draft.{Draft}

abbrev pub owner_is : {S : Type 0} (signs : Signing S) (signer : S) (own : PubKey) → own.0 ≡ signs.key signer → own ≡ own_key signs signer
owner_is signs signer own told = λ i. record { 0 = told i }

-- the newest record has a number
pub newest_fits : (own : PubKey) (log : Key) (now : Moment) (f : Vector) (ops : List Op) (written : List Record) (o : Option Before) → written ≡ written_over own now f ops → option_map stamp_of o ≡ newest_stamp written
    → log ≡ head_key_of own → seq_of f log + length ops ≤ most_records → IfSome o (λ b. (1 ≤ b.seq) × (b.seq ≤ most_records))
newest_fits own log now f ops written None is told log_is few = tt
newest_fits own log now f ops written (Some b) is told log_is few =
    let r = newest_is_reached own now f ops (stamp_of b) (ap newest_stamp (sym is) ∙ sym told) in
    let at : b.seq ≡ seq_of f (head_key_of own) + length ops = r.0 in
    let some : 1 ≤ length ops = r.1 in
    let same : seq_of f log ≡ seq_of f (head_key_of own) = ap (λ (k : Key). seq_of f k) log_is in
    (omega (arith, at, some), omega (arith, at, same, few))

first_of : (o : Option Before) → IfSome o (λ b. (1 ≤ b.seq) × (b.seq ≤ most_records)) → IfSome o (λ b. 1 ≤ b.seq)
first_of None h = tt
first_of (Some b) h = h.0

second_of : (o : Option Before) → IfSome o (λ b. (1 ≤ b.seq) × (b.seq ≤ most_records)) → IfSome o (λ b. b.seq ≤ most_records)
second_of None h = tt
second_of (Some b) h = h.1

module _ {S : Type 0} (signs : Signing S) (k : Kept S) (own : PubKey) (now : Moment) (f : Vector) (ops : List Op) (written : List Record) (o : Option Before) (key : own.0 ≡ signs.key k.signer)
    (is : written ≡ written_over own now f ops) (told : option_map stamp_of o ≡ newest_stamp written) (log : k.log ≡ head_key_of (own_key signs k.signer)) (few : seq_of f k.log + length ops ≤ most_records) where
  fits : IfSome o (λ b. (1 ≤ b.seq) × (b.seq ≤ most_records))
  fits = newest_fits own k.log now f ops written o is told (log ∙ ap head_key_of (sym (owner_is signs k.signer own key))) few

  pub newest_some : IfSome o (λ b. 1 ≤ b.seq)
  newest_some = first_of o fits

  pub newest_few : IfSome o (λ b. b.seq ≤ most_records)
  newest_few = second_of o fits

module _ {S : Type 0} (signs : Signing S) (k : Kept S) (front : Vector) (now : Moment) (ops : List Op) (d : Draft S) where
  pub is_draft : (own : PubKey) (posts : List Post) (b : Before) → own.0 ≡ signs.key k.signer → records_of d.records.items ≡ written_over own now front ops → posts ≡ map record_post (records_of d.records.items)
      → Some (stamp_of b) ≡ newest_stamp (records_of d.records.items) → ((written : List Record) → posts ≡ map record_post written → IsSigned signs k written (stamp_of b) d.next.signer d.next.pending)
      → d.front ≡ with_newest own (Some (stamp_of b)) front → d.next.floor ≡ join k.floor d.front → IsDraft signs k front now ops d
  is_draft own posts b key records posted newest signed front_is floor =
      let rs : List Record = records_of d.records.items in
      let same = owner_is signs k.signer own key in
      let mine : rs ≡ written_over (own_key signs k.signer) now front ops = records ∙ ap (λ (o : PubKey). written_over o now front ops) same in
      let last = newest_is_last rs (stamp_of b) (sym newest) in
      record {
        start = last.0;
        last = last.1;
        written = sym mine ∙ last.2;
        records = last.2;
        signed = subst (λ (t : Stamp). IsSigned signs k (last.0 ++ last.1 ∷ []) t d.next.signer d.next.pending) (sym last.3) (signed (last.0 ++ last.1 ∷ []) (posted ∙ ap (map record_post) last.2));
        its_front = front_is
            ∙ ap (λ (o : PubKey). with_newest o (Some (stamp_of b)) front) same
            ∙ ap (λ (t : Option Stamp). with_newest (own_key signs k.signer) t front) (newest ∙ ap newest_stamp mine);
        floor = floor;
      }

  pub is_draft_of : (own : PubKey) (posts : List Post) (o : Option Before) → IsSomeAnd o (λ b. Unit {0}) → own.0 ≡ signs.key k.signer → records_of d.records.items ≡ written_over own now front ops → posts ≡ map record_post (records_of d.records.items)
      → option_map stamp_of o ≡ newest_stamp (records_of d.records.items) → IfSome o (λ b. (written : List Record) → posts ≡ map record_post written → IsSigned signs k written (stamp_of b) d.next.signer d.next.pending)
      → d.front ≡ with_newest own (option_map stamp_of o) front → d.next.floor ≡ join k.floor d.front → IsDraft signs k front now ops d
  is_draft_of own posts None some key records posted newest signed front_is floor = absurd some
  is_draft_of own posts (Some b) some key records posted newest signed front_is floor = is_draft own posts b key records posted newest signed front_is floor

-- there is a record for each operation
pub as_many : {S : Type 0} (signs : Signing S) (k : Kept S) (front : Vector) (now : Moment) (ops : List Op) (d : Draft S) → IsDraft signs k front now ops d → length d.records.items ≡ length ops
as_many signs k front now ops d is =
    sym (length-map d.records.items record_of) ∙ ap (λ (l : List Record). length l) (is.records ∙ sym is.written) ∙ (written_are_next (own_key signs k.signer) now front ops).1
