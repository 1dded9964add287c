-- Puts are executions, of content blocks, of heads and of posts.
use Rattle.std.proofs.Common.{◌≡◌, ◌⊎◌, ℕ, ◌<◌, ◌≤◌, Bool, true, false, if◌then◌else◌, List, length, take, Some, Result, Ok, refl, ap, ◌∙◌, subst, arith, inl, inr, ⊎_elim}
use Rattle.std.proofs.lemmas.Bool.{cases_lt}
use Rattle.std.proofs.lemmas.List.{length-map, take_all}
use Rattle.ivy_base.specs.declared.key.Key.{Key}
use Rattle.ivy_base.specs.Naming.{name}
use Rattle.dht_ids.specs.declared.ask.Ask.{Ask}
use Rattle.dht_ids.specs.declared.ask.Ask.TheVariants as ask
use Rattle.dht_ids.specs.declared.ask.AskKind.{AskKind}
use Rattle.dht_ids.specs.declared.ask.AskKind.TheVariants as kind
use Rattle.dht_ids.specs.declared.peer.Peer.{Peer}
use Rattle.dht_ids.specs.declared.post.Post.{Post}
use Rattle.dht_ids.specs.Asked.{IsForData}
use Rattle.ring_model.specs.Gets.{AreAsks, nodes, answered_in, IsAcknowledged}
use Rattle.dhash_model.specs.Execution.{Told, IsExecution}
use Rattle.dhash_model.specs.Puts.{is_of_put, holds, EndsPut}
use Rattle.dhash_model.specs.declared.miss.Miss.{Miss}
use Rattle.dhash_client.specs.Puts.{question_of}
use Rattle.dhash_client.specs.declared.put.PutKind.{PutKind}
use Rattle.dhash_client.specs.declared.put.PutKind.TheVariants as put
use Rattle.agent_model.specs.Agent.{is_head}
use Rattle.session_model.specs.Sessions.{put_question}
use Rattle.session_laws.specs.Laws.{PutsAreDeterministic, IsWholePutOf, NextIsNotWhole, PutNextIsNotWhole, PostNextIsNotWhole, NoneIsWhole, NoneIsWholePut, NoneIsWholePost}
use Rattle.session_laws.proofs.AskedPlans.{Entries, IsPlanned, IsToldBy, AreDeterministic, begins_none, are_deterministic, next_is_not_whole}
use Rattle.session_laws.proofs.AskedExecutions.{planned, not_whole}
use Rattle.session_laws.proofs.AskedGets.{at_most_or_not}

-- whether all owners were asked is decided
all_or_not : (once : List Peer) (asks : Told) → nodes asks ≡ take (length asks) once → (nodes asks ≡ once) ⊎ (nodes asks ≡ once → ⊥)
all_or_not once asks order = ⊎_elim (λ h. inr (λ same. too_few h same)) (λ h. inl (order ∙ take_all (length asks) once h)) (cases_lt (length asks) (length once))
  where
    too_few : length asks < length once → nodes asks ≡ once → ⊥
    too_few h same =
        let size : length (nodes asks) ≡ length asks = length-map asks (λ s. s.0) in
        let both : length (nodes asks) ≡ length once = ap (λ (l : List Peer). length l) same in
        absurd (omega (arith, h, size, both))

acknowledged_or_not : (r : ℕ) (once : List Peer) (asks : Told) → nodes asks ≡ take (length asks) once → IsAcknowledged holds r once asks ⊎ (IsAcknowledged holds r once asks → ⊥)
acknowledged_or_not r once asks order = by (at_most_or_not r (answered_in holds asks)) (all_or_not once asks order) (at_most_or_not 1 (answered_in holds asks))
  where
    by : (r ≤ answered_in holds asks) ⊎ (r ≤ answered_in holds asks → ⊥) → (nodes asks ≡ once) ⊎ (nodes asks ≡ once → ⊥) → (1 ≤ answered_in holds asks) ⊎ (1 ≤ answered_in holds asks → ⊥)
        → IsAcknowledged holds r once asks ⊎ (IsAcknowledged holds r once asks → ⊥)
    by (inl h) a o = inl (inl h)
    by (inr h) (inl a) (inl o) = inl (inr (a, o))
    by (inr h) (inl a) (inr o) = inr (λ g. ⊎_elim (λ i. h i) (λ i. o i.1) g)
    by (inr h) (inr a) o = inr (λ g. ⊎_elim (λ i. h i) (λ i. a i.0) g)

pub put_end : (r : ℕ) (owners : List Peer) (asks : Told) → AreAsks owners (λ (t : Told). r ≤ answered_in is_of_put t) asks → (result : Result Bool Miss) × EndsPut r owners asks result
put_end r owners asks a = by (acknowledged_or_not r a.once asks a.order)
  where
    by : IsAcknowledged holds r a.once asks ⊎ (IsAcknowledged holds r a.once asks → ⊥) → (result : Result Bool Miss) × EndsPut r owners asks result
    by (inl h) = (Ok true, (true, record { asks = a; ends = h }, refl))
    by (inr h) = (Ok false, (false, record { asks = a; ends = h }, refl))

abbrev pub put_kind : PutKind → AskKind
put_kind put.Block = kind.PutBlock
put_kind put.Head = kind.PutHead

pub put_other : (what : PutKind) → put_kind what ≡ kind.Route → ⊥
put_other put.Block h = cc
put_other put.Head h = cc

abbrev pub put_entries : PutKind → List ℕ → Key → Entries
put_entries what bytes key = record { key = key; what = put_kind what; put = Some (name bytes); other = put_other what }

pub told_put : (what : PutKind) (bytes : List ℕ) (key : Key) → IsToldBy (put_entries what bytes key) (question_of what bytes key)
told_put put.Block bytes key node given = refl
told_put put.Head bytes key node given = refl

for_data : (what : PutKind) (bytes : List ℕ) (key : Key) → IsForData (question_of what bytes key)
for_data put.Block bytes key = tt
for_data put.Head bytes key = tt

puts_planned : (what : PutKind) (bytes : List ℕ) (key : Key) (r : ℕ) (entries : List Peer) → IsPlanned (put_entries what bytes key) (IsWholePutOf what bytes key r entries)
puts_planned what bytes key r entries =
    planned (put_entries what bytes key) (question_of what bytes key) (told_put what bytes key) (λ t. r ≤ answered_in is_of_put t) (λ t. at_most_or_not r (answered_in is_of_put t)) (EndsPut r) (λ owners asks result h. h.1.asks) (put_end r) entries

pub none_is_whole_put : NoneIsWholePut
none_is_whole_put what bytes key r entries =
    not_whole (put_entries what bytes key) (question_of what bytes key) (told_put what bytes key) (λ t. r ≤ answered_in is_of_put t) (λ t. at_most_or_not r (answered_in is_of_put t)) (EndsPut r) (λ owners asks result h. h.1.asks) (put_end r) entries

pub put_next_is_not_whole : PutNextIsNotWhole
put_next_is_not_whole what bytes key r entries =
    next_is_not_whole key (question_of what bytes key) (IsWholePutOf what bytes key r entries) (for_data what bytes key)
    (begins_none (put_entries what bytes key) (IsWholePutOf what bytes key r entries) (puts_planned what bytes key r entries))

-- a put of a post is a put of its kind
abbrev pub kind_of_post : Bool → PutKind
kind_of_post of_head = if of_head then put.Head else put.Block

question_is : (of_head : Bool) (bytes : List ℕ) (key : Key) → question_of (kind_of_post of_head) bytes key ≡ (if of_head then ask.PutHead key bytes else ask.PutBlock key bytes)
question_is true bytes key = refl
question_is false bytes key = refl

-- what holds of the put of that kind, by what it asks owners, holds of the post's
pub of_post : (P : Ask → Type 0) (p : Post) → P (question_of (kind_of_post (is_head p.kind)) p.bytes p.key) → P (put_question p)
of_post P p h = subst P (question_is (is_head p.kind) p.bytes p.key) h

pub none_is_whole_post : NoneIsWholePost
none_is_whole_post r entries p =
    of_post (λ q. NoneIsWhole entries (λ asks. (came : Result Bool Miss) × IsExecution p.key q entries (EndsPut r) asks came)) p (none_is_whole_put (kind_of_post (is_head p.kind)) p.bytes p.key r entries)

pub post_next_is_not_whole : PostNextIsNotWhole
post_next_is_not_whole r entries p =
    of_post (λ q. NextIsNotWhole p.key q (λ asks. (came : Result Bool Miss) × IsExecution p.key q entries (EndsPut r) asks came)) p (put_next_is_not_whole (kind_of_post (is_head p.kind)) p.bytes p.key r entries)

pub puts_are_deterministic : PutsAreDeterministic
puts_are_deterministic judged r s p =
    of_post (λ q. AreDeterministic p.key q s.entries (λ asks. (came : Result Bool Miss) × IsExecution p.key q s.entries (EndsPut r) asks came)) p
    (are_deterministic (put_entries (kind_of_post (is_head p.kind)) p.bytes p.key) (question_of (kind_of_post (is_head p.kind)) p.bytes p.key) s.entries (IsWholePutOf (kind_of_post (is_head p.kind)) p.bytes p.key r s.entries)
    (told_put (kind_of_post (is_head p.kind)) p.bytes p.key) (puts_planned (kind_of_post (is_head p.kind)) p.bytes p.key r s.entries) (none_is_whole_put (kind_of_post (is_head p.kind)) p.bytes p.key r s.entries))
