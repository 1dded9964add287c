-- How long an entry is by each of the measures.
use Rattle.std.specs.Prelude.{ℕ, List}
use Rattle.nfs_model.specs.Pages.{entry_length, plain_length, long_length}
use Rattle.nfs3_reads.specs.declared.measure.Measure.{Measure}
use Rattle.nfs3_reads.specs.declared.measure.Measure.TheVariants.{Entry, Plain, Long}

abbrev pub length_by : Measure → List ℕ → ℕ
length_by Entry = entry_length
length_by Plain = plain_length
length_by Long = long_length
