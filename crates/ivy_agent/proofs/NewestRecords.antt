-- The newest of the records that a turn wrote, by the last record and its post.
use Rattle.std.proofs.Common.{◌≡◌, ℕ, ◌-◌, List, [], ◌∷◌, length, map, Option, Some, None, refl, sym, ap, ◌∙◌, arith}
use Rattle.std.specs.Prelude.{slice_get, option_map}
use Rattle.std.specs.List.{last_or}
use Rattle.std.proofs.lemmas.List.{length-map}
use Rattle.std.proofs.lemmas.Option.{slice_get-map}
use Rattle.log_model.specs.Rank.{own_entry}
use Rattle.log_model.specs.Record as log
use Rattle.log_model.specs.Vector.{Stamp}
use Rattle.log_records.specs.declared.record.Record.{Record}
use Rattle.log_records.specs.Records.{record_of, records_of}
use Rattle.dht_ids.specs.declared.post.Post.{Post}
use Rattle.agent_model.specs.Agent.{record_post}
use Rattle.ivy_agent.specs.Newest.{newest_stamp}

-- the stamp and the post of a record as it is kept
abbrev stamp_seen : Record → Stamp
stamp_seen r = (own_entry (record_of r)).1

abbrev post_seen : Record → Post
post_seen r = record_post (record_of r)

-- the last of a list is at its end
last_at : {A : Type 0} (x : A) (xs : List A) → last_or (Some x) xs ≡ slice_get (x ∷ xs) (length xs)
last_at x [] = refl
last_at x (y ∷ xs) = last_at y xs

-- what the records' functions give of the last one
last_of : {B : Type 0} (f : log.Record → B) (g : Record → B) → ((r : Record) → f (record_of r) ≡ g r) → (rs : List Record)
    → slice_get (map f (records_of rs)) (length (map f (records_of rs)) - 1) ≡ option_map g (slice_get rs (length rs - 1))
last_of f g same rs =
    ap (λ k. slice_get (map f (records_of rs)) (k - 1)) (length-map (records_of rs) f ∙ length-map rs record_of)
    ∙ slice_get-map f (records_of rs) (length rs - 1)
    ∙ ap (λ p. option_map f p) (slice_get-map record_of rs (length rs - 1))
    ∙ twice (slice_get rs (length rs - 1))
  where
    twice : (p : Option Record) → option_map f (option_map record_of p) ≡ option_map g p
    twice None = refl
    twice (Some r) = ap (λ x. Some x) (same r)

newest_last : (rs : List Record) → newest_stamp (records_of rs) ≡ option_map stamp_seen (slice_get rs (length rs - 1))
newest_last [] = refl
newest_last (r ∷ rs) =
    let stamps : List Stamp = map (λ x. (own_entry x).1) (records_of rs) in
    let e : length (stamp_seen r ∷ stamps) - 1 ≡ length stamps = omega arith in
    last_at (stamp_seen r) stamps
    ∙ sym (ap (λ (k : ℕ). slice_get (stamp_seen r ∷ stamps) k) e)
    ∙ last_of (λ x. (own_entry x).1) stamp_seen (λ x. refl) (r ∷ rs)

same_post : (a b : Post) → Some a ≡ Some b → a ≡ b
same_post a b e = cc

-- the last post has the name of the last record
last_named : (rs : List Record) (ps : List Post) (r : Record) (p : Post) → Some r ≡ slice_get rs (length rs - 1) → Some p ≡ slice_get ps (length ps - 1)
    → ps ≡ map record_post (records_of rs) → p ≡ post_seen r
last_named rs ps r p e d posts =
    same_post p (post_seen r) (d ∙ ap (λ (l : List Post). slice_get l (length l - 1)) posts ∙ last_of record_post post_seen (λ x. refl) rs ∙ sym (ap (λ o. option_map post_seen o) e))

pub newest_seen : (rs : List Record) (ps : List Post) (r : Record) (p : Post) → Some r ≡ slice_get rs (length rs - 1) → Some p ≡ slice_get ps (length ps - 1)
    → ps ≡ map record_post (records_of rs) → Some (let t : Stamp = record { seq = r.seq; name = p.key } in t) ≡ newest_stamp (records_of rs)
newest_seen rs ps r p e d posts =
    ap (λ (x : Post). Some (let t : Stamp = record { seq = r.seq; name = x.key } in t)) (last_named rs ps r p e d posts)
    ∙ ap (λ o. option_map stamp_seen o) e ∙ sym (newest_last rs)
