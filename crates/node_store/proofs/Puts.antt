-- Stores after a put, a removal or damage, and what puts tell of.
use Rattle.std.proofs.Common.{◌≡◌, ℕ, ◌+◌, ◌-◌, ◌<◌, ◌≤◌, Bool, true, false, length, Option, Some, None, option_and_then, Result, MatchBool, not, nat_lt, refl, sym, ap, subst, ◌∙◌, arith, if◌then◌else◌}
use Rattle.std.specs.List.Sorted.{IsStrictlySortedBy}
use Rattle.std.specs.Option.{option_or}
use Rattle.std.specs.Ordering.{eq_by_cmp}
use Rattle.std.specs.Str.{bytes_eq}
use Rattle.std.specs.FinMap.Entries.{put}
use Rattle.std.specs.Map.{lookup, keys_of, set_value, remove_entry}
use Rattle.std.proofs.lemmas.Bool.{lt-ltb, le-ltb}
use Rattle.std.proofs.lemmas.Map.{keys-set_value}
use Rattle.std.proofs.lemmas.Map.Entries.{sum_by-set_value}
use Rattle.std.proofs.lemmas.Map.Steps.{set_value_same}
use Rattle.std.proofs.lemmas.Map.Text.{is_eq-slice_cmp}
use Rattle.std.proofs.lemmas.Slice.Eq.{bytes_eq-Decides}
use Rattle.std.proofs.Math.ListN.{length-set}
use Rattle.ivy_base.specs.declared.key.Key.{Key}
use Rattle.ivy_base.specs.Naming.{key_cmp}
use Rattle.dht_ids.specs.declared.ask.StoreFault.{StoreFault}
use Rattle.dht_ids.specs.declared.ask.StoreFault.TheVariants.{WrongName}
use Rattle.node_store.specs.declared.fault.PutFault.{PutFault}
use Rattle.dhash_model.specs.Stores.{Block, Blocks, bytes_held, store_capacity, spoiled, with_byte, without}
use Rattle.node_store.specs.Stores.{IsStore, Tells}
use Rattle.node_store.proofs.Maps.{is_key, find-lookup, put-set_value, without-remove_entry}
use Rattle.node_store.proofs.Sums.{size, size_of, held_after_removal}

-- ---- puts

twice_not : (b : Bool) → not (not b) ≡ b
twice_not true = refl
twice_not false = refl

-- what the code's test says
pub compared : (key found named : Key) (differs : Bool) → differs ≡ not (bytes_eq key.0 found.0) → found ≡ named → eq_by_cmp key_cmp key named ≡ not differs
compared key found named differs is same =
    ap (eq_by_cmp key_cmp key) (sym same) ∙ is_eq-slice_cmp key.0 found.0 ∙ sym (twice_not (bytes_eq key.0 found.0)) ∙ ap not (sym is)

-- what it says of the name itself
pub named_so : (key named : Key) → key ≡ named → eq_by_cmp key_cmp key named ≡ true
named_so key named same = ap (eq_by_cmp key_cmp key) (sym same) ∙ is_eq-slice_cmp key.0 key.0 ∙ (bytes_eq-Decides key.0 key.0).1 refl

-- with the right name the fault is that of the other tests
pub rightly_named : (b : Bool) (found : Option StoreFault) (result : Result Unit PutFault) → b ≡ true → Tells found result → Tells (option_or (if b then None else Some WrongName) found) result
rightly_named true found result is tells = tells
rightly_named false found result is tells = cc

pub wrongly_named : (b : Bool) (found : Option StoreFault) → b ≡ false → option_or (if b then None else Some WrongName) found ≡ Some WrongName
wrongly_named true found is = cc
wrongly_named false found is = refl

pub stored_valid : (key : Key) (block : Block) (old new : Blocks) (total : ℕ) → new ≡ put key_cmp key block old → total ≡ bytes_held (put key_cmp key block old) → total ≤ store_capacity → IsStrictlySortedBy key_cmp (keys_of new) → (total ≡ bytes_held new) × IsStore new
stored_valid key block old new total is counted fits sorted =
    let same : total ≡ bytes_held new = counted ∙ ap bytes_held (sym is) in
    (same, record { ascending = sorted; within = subst (λ n. n ≤ store_capacity) same fits })

-- ---- removals

module _ (key : Key) (old new : Blocks) (valid : IsStore old) (removed : new ≡ remove_entry (is_key key) old) where
  pub dropped : new ≡ without key old
  dropped = removed ∙ without-remove_entry key old valid.ascending

  pub dropped_valid : (total less : ℕ) → total ≡ bytes_held old → less ≡ size_of (lookup (is_key key) old) → IsStrictlySortedBy key_cmp (keys_of new) → (total - less ≡ bytes_held new) × IsStore new
  dropped_valid total less counted is sorted =
      let left : bytes_held new + size_of (lookup (is_key key) old) ≡ bytes_held old = ap (λ l. bytes_held l + size_of (lookup (is_key key) old)) removed ∙ held_after_removal key old in
      (omega arith, record { ascending = sorted; within = omega (arith, valid.within) })

-- ---- damage

module _ (key : Key) (offset byte : ℕ) (old new : Blocks) (valid : IsStore old) where
  abbrev IsCorrupted : Bool → Type 0
  IsCorrupted done = MatchBool done (with_byte key offset byte old ≡ Some new) ((with_byte key offset byte old ≡ None) × (new ≡ old))

  abbrev With : Block → Option Blocks
  With block = if nat_lt offset (length block.bytes) then Some (put key_cmp key (spoiled offset byte block) old) else None

  module _ (block after : Block) (there : lookup (is_key key) old ≡ Some block) (written : new ≡ set_value (is_key key) old after) where
    abbrev IsWritten : Bool → Type 0
    IsWritten done = MatchBool done ((offset < length block.bytes) × (after ≡ spoiled offset byte block)) ((length block.bytes ≤ offset) × (after ≡ block))

    found : with_byte key offset byte old ≡ With block
    found = ap (option_and_then With) (find-lookup key old ∙ there)

    pub corrupted : (done : Bool) → IsWritten done → IsCorrupted done
    corrupted true h =
        found ∙ ap (λ b. if b then Some (put key_cmp key (spoiled offset byte block) old) else None) (lt-ltb offset (length block.bytes) h.0)
        ∙ ap Some (sym (written ∙ put-set_value key block after old valid.ascending there ∙ ap (λ a. put key_cmp key a old) h.1))
    corrupted false h = (
      found ∙ ap (λ b. if b then Some (put key_cmp key (spoiled offset byte block) old) else None) (le-ltb offset (length block.bytes) h.0),
      written ∙ ap (set_value (is_key key) old) h.1 ∙ set_value_same (is_key key) old block there,
    )

    same_size : (done : Bool) → IsWritten done → size after ≡ size block
    same_size true h = ap size h.1 ∙ length-set block.bytes offset byte
    same_size false h = ap size h.1

    pub corrupted_valid : (total : ℕ) (done : Bool) → total ≡ bytes_held old → IsWritten done → (total ≡ bytes_held new) × IsStore new
    corrupted_valid total done counted h =
        let same : bytes_held new ≡ bytes_held old = omega (arith, same_size done h, sum_by-set_value size (is_key key) old block after there, ap bytes_held written) in (
          counted ∙ sym same,
          record {
            ascending = subst (IsStrictlySortedBy key_cmp) (sym (ap keys_of written ∙ keys-set_value (is_key key) old after)) valid.ascending;
            within = omega (arith, valid.within);
          },
        )

  pub not_corrupted : lookup (is_key key) old ≡ None → new ≡ old → IsCorrupted false
  not_corrupted missing same = (ap (option_and_then With) (find-lookup key old ∙ missing), same)
