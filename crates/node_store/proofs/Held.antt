-- For callers: what is held after a put, and that a store of no blocks is one.
use Rattle.std.proofs.Common.{◌≡◌, false, cond, [], Some, option_map, ap, ◌∙◌, arith}
use Rattle.std.specs.Cmp.{tied_itself}
use Rattle.std.specs.List.Sorted.{IsStrictlySortedBy}
use Rattle.std.specs.Ordering.{eq_by_cmp, is_eq}
use Rattle.std.specs.FinMap.Entries.{find as value_at, put, find-put}
use Rattle.ivy_base.specs.declared.key.Key.{Key}
use Rattle.ivy_base.specs.Naming.{key_cmp}
use Rattle.dhash_model.specs.Stores.{Block, Blocks, bytes_at}
use Rattle.node_store.specs.Stores.{IsStore}
use Rattle.node_store.proofs.Maps.{keys_total}

module _ (key : Key) (block : Block) (blocks : Blocks) where
  -- the key holds the bytes that were put
  pub put_is_held : bytes_at key (put key_cmp key block blocks) ≡ Some block.bytes
  put_is_held =
      ap (option_map (λ (b : Block). b.bytes)) (find-put key_cmp keys_total key key block blocks ∙ ap (λ r. cond (is_eq r) (Some block) (value_at key_cmp key blocks)) (tied_itself keys_total key))

  -- each other key holds what it held
  pub others_stay : (other : Key) → eq_by_cmp key_cmp other key ≡ false → bytes_at other (put key_cmp key block blocks) ≡ bytes_at other blocks
  others_stay other differs =
      ap (option_map (λ (b : Block). b.bytes)) (find-put key_cmp keys_total other key block blocks ∙ ap (λ t. cond t (Some block) (value_at key_cmp other blocks)) differs)

pub empty_valid : IsStore []
unfolding IsStrictlySortedBy
empty_valid = record { ascending = tt; within = omega arith }
