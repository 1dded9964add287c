-- Of any bytes it is known whether they are a part of a snapshot, and of any blocks whether they are a whole one.
use Rattle.std.proofs.Common.{◌⊎◌, inl, inr, List}
use Rattle.ivy_base.specs.declared.key.Key.{Key}
use Rattle.turn_model.specs.Basis.{Basis}
use Rattle.snapshot_model.specs.Reading.{AreOf, NamesParts, SnapshotPart}
use Rattle.snapshot_model.proofs.DecidedParts.{dec_part}
use Rattle.snapshot_model.proofs.DecidedWhole.{dec_whole}
use Rattle.session_laws.specs.Going.{SnapshotsAreDecided}

either : {A : Type 0} {P : A → Type 0} → Dec ((x : A) × P x) → ((x : A) × P x) ⊎ ((x : A) → P x → ⊥)
either (yes w) = inl w
either (no none) = inr (λ x h. none (x, h))

pub snapshots_are_decided : SnapshotsAreDecided
snapshots_are_decided = record {
  parts = λ part block. either {A = List (SnapshotPart × Key)} {P = λ named. NamesParts part block named} (dec_part part block);
  wholes = λ blocks. either {A = Basis} {P = λ b. AreOf blocks b} (dec_whole blocks);
}
