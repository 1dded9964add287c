-- How many bytes are held after a change.
use Rattle.std.proofs.Common.{◌≡◌, ℕ, ◌+◌, ◌-◌, ◌≤◌, length, Option, option_map, unwrap_or, sym, ap, ◌∙◌, arith}
use Rattle.std.specs.List.Sorted.{IsStrictlySortedBy}
use Rattle.std.specs.Ordering.{eq_by_cmp}
use Rattle.std.specs.FinMap.Entries.{put}
use Rattle.std.specs.Map.{lookup, keys_of, remove_entry}
use Rattle.std.proofs.lemmas.Map.Entries.{sum_by-insert_entry, sum_by-remove_entry}
use Rattle.ivy_base.specs.declared.key.Key.{Key}
use Rattle.ivy_base.specs.Naming.{key_cmp}
use Rattle.dhash_model.specs.Stores.{Block, Blocks, bytes_held}
use Rattle.node_store.proofs.Maps.{keys_total, put-insert_entry}

abbrev pub size : Block → ℕ
size block = length block.bytes

-- how many bytes the key holds
abbrev pub size_of : Option Block → ℕ
size_of held = unwrap_or (option_map size held) 0

module _ (key : Key) (blocks : Blocks) where
  abbrev held : Option Block
  held = lookup (λ k. eq_by_cmp key_cmp key k) blocks

  pub held_after_put : (block : Block) → IsStrictlySortedBy key_cmp (keys_of blocks) → bytes_held (put key_cmp key block blocks) + size_of held ≡ bytes_held blocks + size block
  held_after_put block sorted = ap (λ l. bytes_held l + size_of held) (sym (put-insert_entry key block blocks)) ∙ sum_by-insert_entry size keys_total blocks key block sorted

  pub held_after_removal : bytes_held (remove_entry (λ k. eq_by_cmp key_cmp key k) blocks) + size_of held ≡ bytes_held blocks
  held_after_removal = sum_by-remove_entry size (λ k. eq_by_cmp key_cmp key k) blocks

  -- what one block has is no more than what all have
  pub one_fits : size_of held ≤ bytes_held blocks
  one_fits = omega (arith, held_after_removal)

  -- bytes in place of what the key holds
  pub exchanged : (total replaced : ℕ) (block : Block) → total ≡ bytes_held blocks → replaced ≡ size_of held → IsStrictlySortedBy key_cmp (keys_of blocks) → (total - replaced) + size block ≡ bytes_held (put key_cmp key block blocks)
  exchanged total replaced block counted is sorted = omega (arith, held_after_put block sorted, one_fits, counted, is)
