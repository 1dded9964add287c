-- What a turn takes and what it has to publish then can be saved.
use Rattle.std.proofs.Common.{inl, inr, ◌+◌, ◌≤◌, ◌<◌, ◌^◌, Bool, true, false, cond, not, filter, List, [], ◌∷◌, ◌++◌, length, length-append, map, refl, arith, Contains}
use Rattle.std.specs.Prelude.{IsTrue}
use Rattle.std.specs.List.{AllByRecursion}
use Rattle.std.proofs.lemmas.List.{length-map}
use Rattle.ivy_base.proofs.NameLemmas.{bytes-digest, length-digest}
use Rattle.ivy_base.specs.declared.key.PubKey.{PubKey}
use Rattle.ivy_base.specs.Naming.{head_key_of}
use Rattle.log_model.specs.Closed.{IsClosed}
use Rattle.log_model.specs.Rank.{front, full_vector, own_entry}
use Rattle.log_model.specs.Record.{Record}
use Rattle.log_model.specs.Spelling.{HasSpelling, IsKey}
use Rattle.log_model.specs.Vector.{Entry, Stamp}
use Rattle.log_model.specs.View.{View, IsView, is_named}
use Rattle.log_model.proofs.Later.{good_of, name_is_key}
use Rattle.log_model.proofs.Lists.{each, each_append, each_from}
use Rattle.log_model.proofs.Weights.{sorted_front}
use Rattle.log_records.proofs.Sizes.{short_records}
use Rattle.turn_laws.proofs.Entries.{each_front, each_with_entry}
use Rattle.turn_laws.proofs.Heads.{member_named, short_named}
use Rattle.snapshot_model.specs.Blocks.{IsStamped, IsVectorSpelled}
use Rattle.dht_ids.specs.declared.post.Post.{Post}
use Rattle.log_model.specs.Signing.{Signing}
use Rattle.agent_model.specs.Agent.{head_post, is_head, own_key, record_post, with_posts}
use Rattle.agent_model.specs.SavedBytes.{AreOpaque, ArePostsSpelled, HasItsName}
use Rattle.turn_laws.proofs.Octets.{HasOctets, block_octets}

head_is_key : (owner : PubKey) → IsKey (head_key_of owner)
head_is_key owner = record { size = length-digest owner.0; each = bytes-digest owner.0 }

-- ---- the front of a closed set

module _ (view : View) (s : List Record) (well : IsView view) (closed : IsClosed view s) where
  abbrev Fits : Entry → Type 0
  Fits e = IsStamped e × IsTrue (is_named view e.0)

  full_fits : (r : Record) → Contains s r → AllByRecursion Fits (full_vector r)
  full_fits r c =
      let good = good_of view s r closed c in
      let spelled = good.spelled in
      each_with_entry Fits r.vector (own_entry r)
      (each_from Fits r.vector (λ e d. (each _ r.vector e spelled.entries d, each (λ x. IsTrue (is_named view x.0)) r.vector e good.named d))) (
        (head_is_key r.owner, spelled.some, (let few = spelled.few in omega (arith, few)), name_is_key r spelled),
        member_named view r.owner (each (λ q. Contains view.members q.owner) s r closed.members c),
      )

  front_fits : AllByRecursion Fits (front s)
  front_fits = each_front Fits s (each_from (λ r. AllByRecursion Fits (full_vector r)) s full_fits)

  pub front_named : AllByRecursion (λ e. IsTrue (is_named view e.0)) (front s)
  front_named = each_from (λ e. IsTrue (is_named view e.0)) (front s) (λ e c. (each Fits (front s) e front_fits c).1)

  pub front_spelled : IsVectorSpelled (front s)
  front_spelled = record {
    each = each_from IsStamped (front s) (λ e c. (each Fits (front s) e front_fits c).0);
    in_order = sorted_front s;
    short = let short = short_named view (front s) well (sorted_front s) front_named in omega (arith, short);
  }

-- ---- posts

abbrev IsPost : Post → Type 0
IsPost p = IsKey p.key × HasItsName p × AreOpaque p.bytes

module _ (test : Post → Bool) where
  shorter : (b : Bool) (x : Post) (kept xs : List Post) → length kept ≤ length xs → length (cond b (x ∷ kept) kept) ≤ length (x ∷ xs)
  shorter true x kept xs h = omega (arith, h)
  shorter false x kept xs h = omega (arith, h)

  no_more : (xs : List Post) → length (filter test xs) ≤ length xs
  no_more [] = omega arith
  no_more (x ∷ xs) = shorter (test x) x (filter test xs) xs (no_more xs)

  either : (b : Bool) (x : Post) (kept : List Post) → IsPost x → AllByRecursion IsPost kept → AllByRecursion IsPost (cond b (x ∷ kept) kept)
  either true x kept h all = (h, all)
  either false x kept h all = all

  each_kept : (xs : List Post) → AllByRecursion IsPost xs → AllByRecursion IsPost (filter test xs)
  each_kept [] h = tt
  each_kept (x ∷ xs) h = either (test x) x (filter test xs) h.0 (each_kept xs h.1)

each_record : (written : List Record) → AllByRecursion HasSpelling written → AllByRecursion (λ r. HasOctets r.op) written → AllByRecursion IsPost (map record_post written)
each_record [] spelled octets = tt
each_record (r ∷ written) spelled octets = (
  (name_is_key r spelled.0, inr spelled.0.named, ((let short = short_records r spelled.0 in omega (arith, short)), (block_octets r spelled.0 octets.0).each)),
  each_record written spelled.1 octets.1,
)

-- those that were pending, those of records, and a head's, where they are few
pub posts_spelled : {S : Type 0} (signs : Signing S) (signer : S) (newest : Stamp) (pending : List Post) (written : List Record) → ArePostsSpelled pending → AllByRecursion HasSpelling written
    → AllByRecursion (λ r. HasOctets r.op) written → AreOpaque (head_post signs signer newest).bytes → length pending + length written + 1 < 2 ^ 32 → ArePostsSpelled (with_posts pending written (head_post signs signer newest))
posts_spelled signs signer newest pending written before spelled octets head few =
    let kept : List Post = filter (λ p. not (is_head p.kind)) pending in
    let most = no_more (λ p. not (is_head p.kind)) pending in
    let sizes = length-append (kept ++ map record_post written) (head_post signs signer newest ∷ []) in
    let sizes_before = length-append kept (map record_post written) in
    let size = length-map written record_post in
    record {
      few = omega (arith, few, most, sizes, sizes_before, size);
      each = each_append IsPost (kept ++ map record_post written) (head_post signs signer newest ∷ [])
          (each_append IsPost kept (map record_post written) (each_kept (λ p. not (is_head p.kind)) pending before.each) (each_record written spelled octets))
          ((head_is_key (own_key signs signer), inl refl, head), tt);
    }
