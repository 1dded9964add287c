-- The last of some records' blocks has the name of the last record.
use Rattle.std.proofs.Common.{◌≡◌, ℕ, ◌-◌, List, length, Option, Some, None, refl, sym, ap, ◌∙◌}
use Rattle.std.specs.Prelude.{slice_get, option_map}
use Rattle.std.proofs.lemmas.List.{length-map}
use Rattle.std.proofs.lemmas.Option.{slice_get-map}
use Rattle.ivy_base.specs.Naming.{name}
use Rattle.log_model.specs.Spelling.{record_block}
use Rattle.log_model.specs.Standing.{blocks_of}
use Rattle.log_records.specs.declared.record.Record.{Record}
use Rattle.log_records.specs.Records.{record_of, records_of}

-- the block of a kept record
abbrev pub block_seen : Record → List ℕ
block_seen r = record_block (record_of r)

last_block : (rs : List Record) (bs : List (List ℕ)) → bs ≡ blocks_of (records_of rs) → slice_get bs (length bs - 1) ≡ option_map block_seen (slice_get rs (length rs - 1))
last_block rs bs e =
    ap (λ (l : List (List ℕ)). slice_get l (length l - 1)) e
    ∙ ap (λ k. slice_get (blocks_of (records_of rs)) (k - 1)) (length-map (records_of rs) record_block)
    ∙ slice_get-map record_block (records_of rs) (length (records_of rs) - 1)
    ∙ ap (λ k. option_map record_block (slice_get (records_of rs) (k - 1))) (length-map rs record_of)
    ∙ ap (λ p. option_map record_block p) (slice_get-map record_of rs (length rs - 1))
    ∙ twice (slice_get rs (length rs - 1))
  where
    twice : (p : Option Record) → option_map record_block (option_map record_of p) ≡ option_map block_seen p
    twice None = refl
    twice (Some r) = refl

same_block : (a b : List ℕ) → Some a ≡ Some b → a ≡ b
same_block a b e = cc

pub last_named : (rs : List Record) (bs : List (List ℕ)) (r : Record) (b : List ℕ) → Some r ≡ slice_get rs (length rs - 1) → Some b ≡ slice_get bs (length bs - 1)
    → bs ≡ blocks_of (records_of rs) → name b ≡ (record_of r).name
last_named rs bs r b e d blocks =
    ap name (same_block b (block_seen r) (d ∙ last_block rs bs blocks ∙ sym (ap (λ p. option_map block_seen p) e)))
