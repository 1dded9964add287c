-- A record's block in two: what stands in front of each operation, and the operation.
use Rattle.std.specs.Prelude.{◌≡◌, ℕ, List, [], ◌++◌, None, ◌↔◌}
use Rattle.ivy_base.specs.declared.key.Key.{Key}
use Rattle.ivy_base.specs.declared.format.Format.TheVariants.{One}
use Rattle.ivy_base.specs.declared.operation.Op.{Op}
use Rattle.wire_model.specs.Xdr.{word, array, moment, IsWord}
use Rattle.log_model.specs.Vector.{Vector, stamp_at}
use Rattle.log_model.specs.Spelling.{IsKey, IsMoment, record_tag, vector_entry, body, no_name, IsEndOp}
use Rattle.log_model.specs.View.{most_cited}
use Rattle.version_vectors.specs.Vectors.{VectorFits}
use Rattle.log_records.specs.Parts.{IsOfKind}
use Rattle.log_records.specs.Heads.{IsNumber}
use Rattle.log_records.specs.declared.frame.Frame.{Frame}

-- what a record of that log may cite
abbrev pub IsCited : Key → Vector → Type 0
IsCited log v = VectorFits most_cited v × (stamp_at v log ≡ None)

pub record IsFrame (log : Key) (f : Frame) : Type 0 where
  pub kind_is : IsWord f.kind
  pub prev_is : IsKey f.prev
  pub seq_is : IsNumber f.seq
  pub moment_is : IsMoment f.moment
  pub cited : IsCited log f.vector

abbrev pub frame_block : Key → Frame → List ℕ
frame_block log f = record_tag f.format ++ word f.kind ++ log.0 ++ f.prev.0 ++ word f.seq ++ moment f.moment ++ array vector_entry f.vector

-- a frame, and an operation of its kind
abbrev pub AreParts : Key → Frame × Op → Type 0
AreParts log p = IsFrame log p.0 × IsOfKind p.0.kind p.1

abbrev pub parts_block : Key → Frame × Op → List ℕ
parts_block log p = frame_block log p.0 ++ body p.1

-- a log begins with End, which stands nowhere else, and its first record cites nothing and has format 1
pub record IsWellPlaced (f : Frame) (op : Op) : Type 0 where
  pub ends_first : (f.seq ≡ 1) ↔ IsEndOp op
  pub first_alone : f.seq ≡ 1 → (f.prev ≡ no_name) × (f.vector ≡ [])
  pub first_plain : f.seq ≡ 1 → f.format ≡ One
