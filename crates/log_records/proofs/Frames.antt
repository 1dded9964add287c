-- Frames: each has one spelling, and where none can be read.
use Rattle.std.proofs.Common.{◌≡◌, ℕ, List, ◌++◌, Option, Some, None, refl, arith}
use Rattle.ivy_base.specs.declared.key.Key.{Key}
use Rattle.ivy_base.specs.declared.format.Format.{Format}
use Rattle.ivy_base.specs.declared.operation.Moment.{Moment}
use Rattle.wire_model.specs.Xdr.{word, array, moment, IsAny, IsWord, IsWordMoment}
use Rattle.wire_model.specs.OneReading.{ReadsOne, IsFront, HasNoFront}
use Rattle.wire_model.proofs.OneReading.{◌▷◌, of_fewer, one_word, one_moment}
use Rattle.wire_model.proofs.Fronts.{both, no_first, no_second}
use Rattle.wire_model.specs.Parts.{Reads}
use Rattle.wire_model.proofs.Made.{Made, made_front, none_made, one_made}
use Rattle.wire_model.proofs.PartByPart.{◌▸◌, part}
use Rattle.log_model.specs.Vector.{Vector}
use Rattle.log_model.specs.Spelling.{record_tag, vector_entry}
use Rattle.log_model.specs.View.{most_cited}
use Rattle.version_vectors.specs.Vectors.{VectorFits}
use Rattle.version_vectors.specs.Reading.{ReadFault}
use Rattle.block_parts.specs.declared.fault.BlockFault.{BlockFault}
use Rattle.block_parts.specs.declared.fault.BlockFault.TheVariants as block
use Rattle.version_vectors.proofs.OneVector.{one_vector}
use Rattle.log_records.specs.declared.frame.Frame.{Frame}
use Rattle.block_parts.specs.Parts.{constant_bytes, key_bytes}
use Rattle.block_parts.proofs.Constants.{one_constant}
use Rattle.log_records.specs.Frames.{IsFrame, frame_block}
use Rattle.log_records.specs.Shapes.{IsKeyLong, IsFrameShape}
use Rattle.log_records.specs.Reading.{Refuses}
use Rattle.log_records.proofs.ReadParts.{one_long_key, one_tag, is_there, is_missed}

-- ---- what stands in front of the vector

abbrev Lead : Type 0
Lead = ((((Format × ℕ) × Unit {0}) × Key) × ℕ) × Moment

abbrev IsLead : Lead → Type 0
IsLead p = ((((IsAny p.0.0.0.0.0 × IsWord p.0.0.0.0.1) × IsAny p.0.0.0.1) × IsKeyLong p.0.0.1) × IsWord p.0.1) × IsWordMoment p.1

abbrev lead : Key → Lead → List ℕ
lead log p = ((((record_tag p.0.0.0.0.0 ++ word p.0.0.0.0.1) ++ constant_bytes log.0 p.0.0.0.1) ++ key_bytes p.0.0.1) ++ word p.0.1) ++ moment p.1

one_lead : (log : Key) → ReadsOne IsLead (lead log)
one_lead log = one_tag ▷ one_word ▷ one_constant log.0 ▷ one_long_key ▷ one_word ▷ one_moment

cited : ReadsOne (VectorFits most_cited) (array vector_entry)
cited = one_vector most_cited (omega arith)

-- ---- frames

abbrev frame_in : Lead × Vector → Frame
frame_in p = record { format = p.0.0.0.0.0.0; kind = p.0.0.0.0.0.1; prev = p.0.0.0.1; seq = p.0.0.1; moment = p.0.1; vector = p.1 }

abbrev AreLedParts : Lead × Vector → Type 0
AreLedParts p = IsLead p.0 × VectorFits most_cited p.1

made_frame : (log : Key) → Made AreLedParts (λ p. lead log p.0 ++ array vector_entry p.1) IsFrameShape (frame_block log) frame_in
made_frame log = record {
  whole = λ p f. record { kind_is = f.0.0.0.0.0.1; prev_is = f.0.0.0.1; seq_is = f.0.0.1; moment_is = f.0.1; cited = f.1 };
  spelled = λ p. refl;
  parts = λ f g. record {
    part = ((((((f.format, f.kind), tt), f.prev), f.seq), f.moment), f.vector);
    fits = ((((((tt, g.kind_is), tt), g.prev_is), g.seq_is), g.moment_is), g.cited);
    same = refl;
  };
}

pub one_frame_shape : (log : Key) → ReadsOne IsFrameShape (frame_block log)
one_frame_shape log = one_made (made_frame log) (one_lead log ▷ cited)

pub frame_shape : (log : Key) (f : Frame) → IsFrame log f → IsFrameShape f
frame_shape log f g = record {
  kind_is = g.kind_is;
  prev_is = g.prev_is.size;
  seq_is = omega (arith, g.seq_is.1);
  moment_is = (g.moment_is.sec, omega (arith, g.moment_is.nsec));
  cited = g.cited.0;
}

pub one_frame : (log : Key) → ReadsOne (IsFrame log) (frame_block log)
one_frame log = of_fewer (frame_shape log) (one_frame_shape log)

-- ---- reading

module _ (log : Key) {bytes : List ℕ} {a b c d e f g : Option (List ℕ)} {format : Format} {kind seq : ℕ} {prev : Key} {m : Moment}
    (all : a ≡ Some bytes)
    (tag_read : Reads IsAny record_tag a format b) (kind_read : Reads IsWord word b kind c) (log_read : Reads IsAny (constant_bytes log.0) c tt d)
    (prev_read : Reads IsKeyLong key_bytes d prev e) (seq_read : Reads IsWord word e seq f) (moment_read : Reads IsWordMoment moment f m g) where
  lead_read : Reads IsLead (lead log) a (((((format, kind), tt), prev), seq), m) g
  lead_read = (part one_tag tag_read ▸ part one_word kind_read ▸ part (one_constant log.0) log_read ▸ part one_long_key prev_read ▸ part one_word seq_read ▸ part one_moment moment_read).reads

  pub no_frame_lead : g ≡ None → HasNoFront IsFrameShape (frame_block log) bytes
  no_frame_lead gone = none_made (made_frame log) (no_first (VectorFits most_cited) (array vector_entry) (is_missed all lead_read gone))

  pub no_frame_vector : {rest : List ℕ} (fault : BlockFault) → g ≡ Some rest → ReadFault most_cited rest fault → Refuses IsFrameShape (frame_block log) bytes fault
  no_frame_vector block.Malformed left absent = none_made (made_frame log) (no_second (one_lead log) (is_there all lead_read left) absent)
  no_frame_vector block.Memory left absent = tt

  pub frame_front : {rest behind : List ℕ} {v : Vector} → g ≡ Some rest → IsFront (VectorFits most_cited) (array vector_entry) rest v behind
      → IsFront IsFrameShape (frame_block log) bytes (record { format = format; kind = kind; prev = prev; seq = seq; moment = m; vector = v }) behind
  frame_front left v = made_front (made_frame log) (both (is_there all lead_read left) v)
