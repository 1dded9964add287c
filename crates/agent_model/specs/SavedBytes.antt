-- The bytes that are saved of an agent (this project's own form; numbers and opaque data as in XDR, RFC 4506).
use Rattle.std.specs.Prelude.{◌≡◌, ◌⊎◌, ◌<◌, ◌≤◌, ◌^◌, ℕ, List, [], ◌∷◌, ◌++◌, length, Option, Some, None, IsTrue, IfSome, Contains}
use Rattle.std.specs.List.{AllByRecursion, list_all}
use Rattle.std.specs.Prelude.{nat_lt}
use Rattle.wire_model.specs.Xdr.{word, opaque, array, optional}
use Rattle.ivy_base.specs.Naming.{head_key_of, name}
use Rattle.log_model.specs.View.{View, IsView, is_named, view_block}
use Rattle.log_model.specs.Vector.{seq_of}
use Rattle.log_model.specs.Spelling.{IsKey, most_records, vector_entry}
use Rattle.snapshot_model.specs.Blocks.{IsVectorSpelled}
use Rattle.dht_ids.specs.declared.post.Post.{Post}
use Rattle.dht_ids.specs.declared.post.PostKind.{PostKind}
use Rattle.dht_ids.specs.declared.post.PostKind.TheVariants as kind
use Rattle.log_model.specs.Signing.{Signing}
use Rattle.log_model.specs.ViewKeys.{HasKeys}
use Rattle.agent_model.specs.Agent.{Kept, is_head, own_key}

abbrev pub post_kind_number : PostKind → ℕ
post_kind_number kind.Block = 0
post_kind_number kind.Log = 1
post_kind_number kind.Head = 2

abbrev pub post_bytes : Post → List ℕ
post_bytes p = word (post_kind_number p.kind) ++ p.key.0 ++ opaque p.bytes

-- the view's block, or nothing before a view
abbrev pub view_bytes : Option View → List ℕ
view_bytes None = []
view_bytes (Some view) = view_block view

-- "IVK1", which saved bytes begin with
abbrev pub saved_tag : List ℕ
saved_tag = 73 ∷ 86 ∷ 75 ∷ 49 ∷ []

-- the tag, the signer by its own saved bytes, the view, how far the own log goes, the floor, the pending posts, and the newest snapshot's
-- name
abbrev pub kept_bytes : {S : Type 0} → Signing S → Kept S → List ℕ
kept_bytes signs k =
    saved_tag ++ opaque (signs.saved k.signer) ++ opaque (view_bytes k.view) ++ word (seq_of k.floor (head_key_of (own_key signs k.signer)))
    ++ array vector_entry k.floor ++ array post_bytes k.pending ++ optional (λ name. name.0) k.snapshot

-- what isn't a head has its bytes' name
abbrev pub HasItsName : Post → Type 0
HasItsName p = IsTrue (is_head p.kind) ⊎ (p.key ≡ name p.bytes)

-- bytes, so many that a word counts them
abbrev pub AreOpaque : List ℕ → Type 0
AreOpaque bytes = (length bytes < 2 ^ 32) × IsTrue (list_all (λ b. nat_lt b 256) bytes)

-- the posts have a spelling, by which they are read again
pub record ArePostsSpelled (posts : List Post) : Type 0 where
  pub few : length posts < 2 ^ 32
  pub each : AllByRecursion (λ p. IsKey p.key × HasItsName p × AreOpaque p.bytes) posts

-- What may be saved, of a signer that may be: these bytes are read again as this alone.
pub record IsKept {S : Type 0} (signs : Signing S) (IsWhole : S → Type 0) (k : Kept S) : Type 0 where
  pub signer : IsWhole k.signer
  pub some : 1 ≤ seq_of k.floor (head_key_of (own_key signs k.signer))
  pub few : seq_of k.floor (head_key_of (own_key signs k.signer)) ≤ most_records
  pub floor : IsVectorSpelled k.floor
  pub view : IfSome k.view (λ v. IsView v × HasKeys v × Contains v.members (own_key signs k.signer)
      × AllByRecursion (λ e. IsTrue (is_named v e.0)) k.floor)
  pub posts : ArePostsSpelled k.pending
  pub snapshot : IfSome k.snapshot IsKey
