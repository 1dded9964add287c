-- Stores of blocks after puts.
use Rattle.std.proofs.Common.{◌≡◌, ℕ, ◌≤◌, Bool, true, false, cond, ◌&&◌, List, [], ◌∷◌, Option, Some, None, refl, sym, subst, T, nat_lt}
use Rattle.std.specs.List.{AllByRecursion}
use Rattle.std.specs.List.Sorted.{IsStrictlySortedBy}
use Rattle.std.specs.Map.{keys_of}
use Rattle.std.specs.Option.{option_or}
use Rattle.std.specs.Ordering.{is_lt}
use Rattle.std.specs.declared.cmp.Ordering.{Ordering}
use Rattle.std.specs.declared.cmp.Ordering.TheVariants.{Less, Equal, Greater}
use Rattle.std.specs.FinMap.Entries.{by_order, put, below_all, is_sorted, is_sorted-put}
use Rattle.std.proofs.lemmas.Bool.{ltb-false}
use Rattle.ivy_base.specs.declared.key.Key.{Key}
use Rattle.ivy_base.specs.Naming.{key_cmp}
use Rattle.dht_ids.specs.declared.ask.StoreFault.{StoreFault}
use Rattle.dht_ids.specs.declared.ask.StoreFault.TheVariants.{Full}
use Rattle.dht_ids.specs.declared.judge.Judged.{Judged}
use Rattle.dhash_model.specs.Stores.{Block, Blocks, bytes_held, store_capacity, content, content_fault, full, head, head_fault, not_judged, number_at, older, wrong_name}
use Rattle.node_store.specs.Stores.{IsStore}
use Rattle.node_store.proofs.Maps.{keys_total}

-- ---- ascending keys

both : (a b : Bool) → T a → T b → T (a && b)
both true b h g = g
both false b h g = absurd h

first : (a b : Bool) → T (a && b) → T a
first true b h = tt
first false b h = h

second : (a b : Bool) → T (a && b) → T b
second true b h = h
second false b h = absurd h

is_less : (o : Ordering) → T (is_lt o) → o ≡ Less
is_less Less h = refl
is_less Equal h = absurd h
is_less Greater h = absurd h

to_below : (k : Key) (es : Blocks) → AllByRecursion (λ l. key_cmp k l ≡ Less) (keys_of es) → T (below_all key_cmp k es)
to_below k [] h = tt
to_below k (e ∷ es) h = both (is_lt (key_cmp k e.0)) (below_all key_cmp k es) (subst (λ o. T (is_lt o)) (sym h.0) tt) (to_below k es h.1)

from_below : (k : Key) (es : Blocks) → T (below_all key_cmp k es) → AllByRecursion (λ l. key_cmp k l ≡ Less) (keys_of es)
from_below k [] h = tt
from_below k (e ∷ es) h = (is_less (key_cmp k e.0) (first (is_lt (key_cmp k e.0)) (below_all key_cmp k es) h), from_below k es (second (is_lt (key_cmp k e.0)) (below_all key_cmp k es) h))

pub to_sorted : (es : Blocks) → IsStrictlySortedBy key_cmp (keys_of es) → T (is_sorted key_cmp es)
unfolding IsStrictlySortedBy
to_sorted [] h = tt
to_sorted (e ∷ es) h = both (below_all key_cmp e.0 es) (is_sorted key_cmp es) (to_below e.0 es h.0) (to_sorted es h.1)

pub from_sorted : (es : Blocks) → T (is_sorted key_cmp es) → IsStrictlySortedBy key_cmp (keys_of es)
unfolding IsStrictlySortedBy
from_sorted [] h = tt
from_sorted (e ∷ es) h = (from_below e.0 es (first (below_all key_cmp e.0 es) (is_sorted key_cmp es) h), from_sorted es (second (below_all key_cmp e.0 es) (is_sorted key_cmp es) h))

-- ---- puts

-- where there is room, a store with a block more is a store
pub put_store : (key : Key) (block : Block) (blocks : Blocks) → IsStore blocks → bytes_held (put key_cmp key block blocks) ≤ store_capacity → IsStore (put key_cmp key block blocks)
put_store key block blocks store fits = record {
  ascending = from_sorted (put key_cmp key block blocks) (is_sorted-put key_cmp keys_total key block blocks (to_sorted blocks store.ascending));
  within = fits;
}

-- what holds of each block, and of the new one, holds of each then
pub put_each : (P : Block → Type 0) (key : Key) (block : Block) (blocks : Blocks) → P block → AllByRecursion (λ e. P e.1) blocks → AllByRecursion (λ e. P e.1) (put key_cmp key block blocks)
put_each P key block [] new h = (new, tt)
put_each P key block (e ∷ es) new h = by (key_cmp key e.0) (put_each P key block es new h.1)
  where
    by : (o : Ordering) → AllByRecursion (λ (f : Key × Block). P f.1) (put key_cmp key block es) → AllByRecursion (λ (f : Key × Block). P f.1) (by_order o ((key, block) ∷ e ∷ es) ((e.0, block) ∷ es) (e ∷ put key_cmp key block es))
    by Less later = (new, h)
    by Equal later = (new, h.1)
    by Greater later = (h.0, later)

-- ---- faults

room_by : (key : Key) (block : Block) (blocks : Blocks) → full key block blocks ≡ None → bytes_held (put key_cmp key block blocks) ≤ store_capacity
room_by key block blocks none = by (nat_lt store_capacity (bytes_held (put key_cmp key block blocks))) refl none
  where
    by : (b : Bool) → nat_lt store_capacity (bytes_held (put key_cmp key block blocks)) ≡ b → cond b (Some Full) None ≡ None → bytes_held (put key_cmp key block blocks) ≤ store_capacity
    by true is e = cc e
    by false is e = ltb-false store_capacity (bytes_held (put key_cmp key block blocks)) is

second_none : (a b : Option StoreFault) → option_or a b ≡ None → b ≡ None
second_none None b e = e
second_none (Some f) b e = cc e

pub room_for_content : (key : Key) (bytes : List ℕ) (blocks : Blocks) → content_fault key bytes blocks ≡ None → bytes_held (put key_cmp key (content bytes) blocks) ≤ store_capacity
room_for_content key bytes blocks none = room_by key (content bytes) blocks (second_none (wrong_name key bytes) (full key (content bytes) blocks) none)

pub room_for_head : (judged : Key → List ℕ → Option Judged) (key : Key) (bytes : List ℕ) (blocks : Blocks) → head_fault judged key bytes blocks ≡ None → bytes_held (put key_cmp key (head bytes) blocks) ≤ store_capacity
room_for_head judged key bytes blocks none =
    room_by key (head bytes) blocks (second_none (older (number_at judged key blocks) (judged key bytes)) (full key (head bytes) blocks)
    (second_none (not_judged (judged key bytes)) (option_or (older (number_at judged key blocks) (judged key bytes)) (full key (head bytes) blocks)) none))
