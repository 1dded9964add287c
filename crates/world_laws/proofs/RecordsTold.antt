-- There is one function that tells which blocks are records, and no other.
use Rattle.std.proofs.Common.{◌≡◌, inl, inr, ℕ, List, Option, Some, None, refl, sym, ap, ◌∙◌, subst}
use Rattle.std.specs.Prelude.{MatchOption}
use Rattle.ivy_base.specs.declared.key.Key.{Key}
use Rattle.ivy_base.specs.declared.key.PubKey.{PubKey}
use Rattle.ivy_base.specs.declared.operation.Op.{Op}
use Rattle.ivy_base.specs.declared.operation.Op.TheVariants as op
use Rattle.ivy_base.specs.Naming.{inode_number}
use Rattle.wire_model.proofs.OneReading.{whole}
use Rattle.log_model.specs.Record.{Record}
use Rattle.log_model.specs.Spelling.{IsRecordOf}
use Rattle.log_model.specs.Chain.{HasMadeNumber}
use Rattle.log_records.proofs.OneRecord.{one_record}
use Rattle.fork_model.specs.Before.{Before, TellsRecords, IsNumbered}
use Rattle.turn_laws.proofs.RecordReading.{Known, both_known, key_known, number_known, record_or_not}

-- the block is one record of the owner's
one_of : (owner : PubKey) (block : List ℕ) (p q : Record) → IsRecordOf owner block p → IsRecordOf owner block q → p ≡ q
one_of owner block p q f g = whole (one_record owner) p q (f.owned, f.fits) (g.owned, g.fits) (sym f.spelled ∙ g.spelled)

made_known : (owner : PubKey) (seq : ℕ) (o : Op) → Known (HasMadeNumber owner seq o)
made_known owner seq (op.Inode number kind mode uid gid target) = key_known number (inode_number owner seq)
made_known owner seq (op.Write number offset bytes) = inl tt
made_known owner seq (op.Link dir name number) = inl tt
made_known owner seq (op.Unlink dir name) = inl tt
made_known owner seq (op.Rename dir name to_dir to_name) = inl tt
made_known owner seq (op.Prepare dir name verifier) = inl tt
made_known owner seq (op.Cancel number) = inl tt
made_known owner seq (op.SetAttrs number change) = inl tt
made_known owner seq op.End = inl tt

abbrev IsSome : PubKey → ℕ → List ℕ → Type 0
IsSome owner seq block = (r : Record) × IsNumbered owner seq block r

record_known : (owner : PubKey) (seq : ℕ) (block : List ℕ) → Known (IsSome owner seq block)
record_known owner seq block = elim (record_or_not owner block) [
  | inr none ↦ inr (λ z. none z.0 z.1.spelled)
  | inl x ↦ elim (both_known (made_known owner x.0.seq x.0.op) (number_known x.0.seq seq)) [
    | inl y ↦ inl (x.0, record { spelled = x.1; made = y.0; number = y.1 })
    | inr none ↦ inr (λ z. none (subst (λ (r : Record). HasMadeNumber owner r.seq r.op × (r.seq ≡ seq)) (one_of owner block z.0 x.0 z.1.spelled x.1) (z.1.made, z.1.number)))
  ]
]

abbrev prev_in : (owner : PubKey) (seq : ℕ) (block : List ℕ) → Known (IsSome owner seq block) → Option Key
prev_in owner seq block (inl x) = Some x.0.prev
prev_in owner seq block (inr none) = None

told : (owner : PubKey) (seq : ℕ) (block : List ℕ) (k : Known (IsSome owner seq block))
    → MatchOption (prev_in owner seq block k) ((r : Record) → IsNumbered owner seq block r → ⊥) (λ prev. (r : Record) × IsNumbered owner seq block r × (prev ≡ r.prev))
told owner seq block (inl x) = (x.0, x.1, refl)
told owner seq block (inr none) = λ r is. none (r, is)

pub records_told : (before : Before) × TellsRecords before
records_told = (λ owner seq block. prev_in owner seq block (record_known owner seq block), λ owner seq block. told owner seq block (record_known owner seq block))

agree : (owner : PubKey) (seq : ℕ) (block : List ℕ) (o p : Option Key) → MatchOption o ((r : Record) → IsNumbered owner seq block r → ⊥) (λ prev. (r : Record) × IsNumbered owner seq block r × (prev ≡ r.prev))
    → MatchOption p ((r : Record) → IsNumbered owner seq block r → ⊥) (λ prev. (r : Record) × IsNumbered owner seq block r × (prev ≡ r.prev)) → o ≡ p
agree owner seq block None None f g = refl
agree owner seq block None (Some q) f g = absurd (f g.0 g.1)
agree owner seq block (Some q) None f g = absurd (g f.0 f.1)
agree owner seq block (Some q) (Some p) f g = ap Some (f.2 ∙ ap (λ (r : Record). r.prev) (one_of owner block f.0 g.0 f.1.spelled g.1.spelled) ∙ sym g.2)

pub told_alike : (before other : Before) → TellsRecords before → TellsRecords other → before ≡ other
told_alike before other f g = λ i owner seq block. agree owner seq block (before owner seq block) (other owner seq block) (f owner seq block) (g owner seq block) i
