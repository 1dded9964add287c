-- What is stored where no place is written.
use Rattle.std.proofs.Common.{◌≡◌, ℕ, zero, suc, Bool, false, length, filter, replicate, refl}
use Rattle.inode_replay.specs.Bodies.{is_file_body, places_of}
use Rattle.inode_replay.specs.declared.body.Body.{Body}
use Rattle.inode_replay.specs.declared.body.Body.TheVariants as kept

pub none_stored : (n : ℕ) → 0 ≡ length (filter (λ m. m) (replicate n false))
none_stored zero = refl
none_stored (suc n) = none_stored n

-- of an inode that is no regular file
pub others_store_none : (body : Body) → is_file_body body ≡ false → 0 ≡ length (filter (λ m. m) (places_of body))
others_store_none (kept.File file) other = cc
others_store_none (kept.Text text) other = none_stored (length text.value.items)
others_store_none kept.Nothing other = refl
