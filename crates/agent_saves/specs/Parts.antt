-- The saved bytes of an agent part by part, before the signer is read.
use Rattle.std.specs.Prelude.{◌≡◌, ℕ, ◌≤◌, List, [], ◌∷◌, ◌++◌, length, Option, IfSome, Contains, IsTrue}
use Rattle.std.specs.List.{AllByRecursion}
use Rattle.ivy_base.specs.declared.key.Key.{Key}
use Rattle.ivy_base.specs.declared.key.PubKey.{PubKey}
use Rattle.ivy_base.specs.Naming.{head_key_of}
use Rattle.wire_model.specs.Xdr.{word, opaque, array, optional, IsAny, IsWord, IsUpTo}
use Rattle.log_model.specs.Spelling.{IsKey, most_records, vector_entry}
use Rattle.log_model.specs.Vector.{Vector, seq_of}
use Rattle.log_model.specs.View.{View, IsView, is_named}
use Rattle.log_model.specs.ViewKeys.{HasKeys}
use Rattle.block_parts.specs.Parts.{constant_bytes, key_bytes, IsOptional}
use Rattle.version_vectors.specs.Vectors.{VectorFits}
use Rattle.dht_ids.specs.declared.post.Post.{Post}
use Rattle.dht_ids.specs.declared.post.PostKind.{PostKind}
use Rattle.agent_model.specs.SavedBytes.{AreOpaque, HasItsName, post_kind_number, post_bytes, view_bytes, saved_tag}
use Rattle.agent_saves.specs.declared.parts.Parts as read

-- what a word can count
abbrev pub most_counted : ℕ
most_counted = 4294967295

-- ---- posts

abbrev pub kind_bytes : PostKind → List ℕ
kind_bytes kind = word (post_kind_number kind)

abbrev pub IsPost : Post → Type 0
IsPost p = IsKey p.key × HasItsName p × AreOpaque p.bytes

abbrev pub ArePosts : List Post → Type 0
ArePosts posts = (length posts ≤ most_counted) × AllByRecursion IsPost posts

-- ---- views

abbrev pub IsLegal : View → Type 0
IsLegal v = IsView v × HasKeys v

-- the view's block after its length, or nothing
abbrev pub view_part : Option View → List ℕ
view_part view = opaque (view_bytes view)

-- ---- the whole

-- the tag, the signer's bytes, the view, how far the own log goes, the floor, the posts, and the newest snapshot's name
abbrev pub Told : Type 0
Told = (((((Unit {0} × List ℕ) × Option View) × ℕ) × Vector) × List Post) × Option Key

abbrev pub told_bytes : Told → List ℕ
told_bytes p =
    constant_bytes saved_tag p.0.0.0.0.0.0 ++ opaque p.0.0.0.0.0.1 ++ view_part p.0.0.0.0.1 ++ word p.0.0.0.1 ++ array vector_entry p.0.0.1
    ++ array post_bytes p.0.1 ++ optional key_bytes p.1

abbrev pub IsTold : Told → Type 0
IsTold p =
    (((((IsAny p.0.0.0.0.0.0 × IsUpTo most_counted p.0.0.0.0.0.1) × IsOptional IsLegal p.0.0.0.0.1) × IsWord p.0.0.0.1)
    × VectorFits most_counted p.0.0.1) × ArePosts p.0.1) × IsOptional IsKey p.1

abbrev pub told : read.Parts → Told
told p = ((((((tt, p.signer.now), p.view), p.reach), p.floor), p.pending), p.snapshot)

-- what the parts have to be where the public key is that one
pub record AreOf (owner : PubKey) (reach : ℕ) (floor : Vector) (view : Option View) : Type 0 where
  pub some : 1 ≤ reach
  pub few : reach ≤ most_records
  pub counted : reach ≡ seq_of floor (head_key_of owner)
  pub stands : IfSome view (λ v. Contains v.members owner × AllByRecursion (λ e. IsTrue (is_named v e.0)) floor)
