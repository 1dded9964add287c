-- Of records it is known whether they keep the rules of a log, one by one and one after another.
use Rattle.std.proofs.Common.{◌≡◌, inl, inr, ℕ, ◌+◌, [], ◌∷◌, refl, ap}
use Rattle.std.specs.Prelude.{IsTrue}
use Rattle.std.specs.List.{AllByRecursion}
use Rattle.ivy_base.specs.declared.key.PubKey.{PubKey}
use Rattle.ivy_base.specs.declared.operation.Op.{Op}
use Rattle.ivy_base.specs.declared.operation.Op.TheVariants as op
use Rattle.ivy_base.specs.Naming.{inode_number}
use Rattle.log_model.specs.View.{View, is_named}
use Rattle.log_model.specs.Vector.{Stamp, Vector, Dominates}
use Rattle.log_model.specs.Record.{Record}
use Rattle.log_model.specs.Rank.{full_vector}
use Rattle.log_model.specs.Spelling.{no_name}
use Rattle.log_model.specs.Chain.{HasMadeNumber, IsFirst, Follows}
use Rattle.log_model.specs.Part.{goes_as_far}
use Rattle.log_model.proofs.Part.{far_dominates, dominates_far}
use Rattle.turn_laws.proofs.RecordReading.{Known, both_known, key_known, number_known, truth_known}

pub made_known : (owner : PubKey) (seq : ℕ) (o : Op) → Known (HasMadeNumber owner seq o)
made_known owner seq (op.Inode number kind mode uid gid target) = key_known number (inode_number owner seq)
made_known owner seq (op.Write number offset bytes) = inl tt
made_known owner seq (op.Link dir name number) = inl tt
made_known owner seq (op.Unlink dir name) = inl tt
made_known owner seq (op.Rename dir name to_dir to_name) = inl tt
made_known owner seq (op.Prepare dir name verifier) = inl tt
made_known owner seq (op.Cancel number) = inl tt
made_known owner seq (op.SetAttrs number change) = inl tt
made_known owner seq op.End = inl tt

pub named_known : (view : View) (v : Vector) → Known (AllByRecursion (λ e. IsTrue (is_named view e.0)) v)
named_known view [] = inl tt
named_known view (e ∷ v) = both_known (truth_known (is_named view e.0)) (named_known view v)

pub end_known : (o : Op) → Known (o ≡ op.End)
end_known (op.Inode number kind mode uid gid target) = inr (λ e. cc e)
end_known (op.Write number offset bytes) = inr (λ e. cc e)
end_known (op.Link dir name number) = inr (λ e. cc e)
end_known (op.Unlink dir name) = inr (λ e. cc e)
end_known (op.Rename dir name to_dir to_name) = inr (λ e. cc e)
end_known (op.Prepare dir name verifier) = inr (λ e. cc e)
end_known (op.Cancel number) = inr (λ e. cc e)
end_known (op.SetAttrs number change) = inr (λ e. cc e)
end_known op.End = inl refl

pub empty_known : (v : Vector) → Known (v ≡ [])
empty_known [] = inl refl
empty_known (e ∷ v) = inr (λ same. cc same)

pub first_known : (r : Record) → Known (IsFirst r)
first_known r = elim (both_known (both_known (number_known r.seq 1) (end_known r.op)) (both_known (key_known r.prev no_name) (empty_known r.vector))) [
  | inl f ↦ inl (record { seq = f.0.0; ends = f.0.1; prev = f.1.0; vector = f.1.1 })
  | inr none ↦ inr (λ f. none ((f.seq, f.ends), (f.prev, f.vector)))
]

pub further_known : (v w : Vector) → Known (Dominates v w)
further_known v w = elim (truth_known (goes_as_far v w)) [
  | inl far ↦ inl (far_dominates v w far)
  | inr short ↦ inr (λ d. short (dominates_far v w d))
]

pub follows_known : (p r : Record) → Known (Follows p r)
follows_known p r = elim (both_known (both_known (number_known r.seq (p.seq + 1)) (key_known r.prev p.name)) (further_known (full_vector r) (full_vector p))) [
  | inl f ↦ inl (record { seq = f.0.0; prev = f.0.1; grows = f.1 })
  | inr none ↦ inr (λ f. none ((f.seq, f.prev), f.grows))
]

pub stamp_known : (s t : Stamp) → Known (s ≡ t)
stamp_known s t = elim (both_known (number_known s.seq t.seq) (key_known s.name t.name)) [
  | inl e ↦ inl (λ i. record { seq = e.0 i; name = e.1 i })
  | inr none ↦ inr (λ e. none (ap (λ (x : Stamp). x.seq) e, ap (λ (x : Stamp). x.name) e))
]
