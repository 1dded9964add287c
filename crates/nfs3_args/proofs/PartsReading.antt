-- Parts that several procedures share are read.
use Rattle.std.proofs.Common.{ℕ, List, ◌++◌, Option, Some, None, refl, arith}
use Rattle.wire_model.specs.Xdr.{word, opaque, optional, moment, IsWordMoment, IsWord, IsUpTo}
use Rattle.wire_model.specs.OneReading.{ReadsOne}
use Rattle.wire_model.specs.Parts.{Told, Reads, IsOptional}
use Rattle.wire_model.proofs.OneReading.{◌▷◌, of_fewer, one_word, one_moment, one_opaque, one_optional}
use Rattle.wire_model.proofs.Fronts.{none_of_fewer}
use Rattle.wire_model.proofs.Made.{Made}
use Rattle.wire_model.proofs.PartByPart.{Read}
use Rattle.nfs_model.proofs.OneArguments.{one_handle, one_text}
use Rattle.nfs3_args.specs.Parts.{IsData, IsStable, place, IsPlace}

pub one_guard : ReadsOne (IsOptional IsWordMoment) (optional moment)
one_guard = one_optional one_moment

pub one_place : ReadsOne IsPlace place
one_place = one_handle ▷ one_text

pub made_moment : Made {A = ℕ × ℕ} (λ p. IsWord p.0 × IsWord p.1) (λ p. word p.0 ++ word p.1) IsWordMoment moment (λ p. record { sec = p.0; nsec = p.1 })
made_moment = record { whole = λ p f. f; spelled = λ p. refl; parts = λ m f. record { part = (m.sec, m.nsec); fits = f; same = refl } }

-- ---- bytes that are to be written

pub data_read : {a b : Option (List ℕ)} {bytes : List ℕ} → Reads (IsUpTo 4294967295) opaque a bytes b → Read IsData opaque a bytes b
data_read {a} {b} {bytes} f = record { one = one_opaque; reads = record { told = cases a b f.told } }
  where
    cases : (a b : Option (List ℕ)) → Told (IsUpTo 4294967295) opaque a bytes b → Told IsData opaque a bytes b
    cases None b p = p
    cases (Some a) None p = none_of_fewer {Fewer = IsData} (λ bytes f. omega arith) p
    cases (Some a) (Some b) p = record { fits = omega (arith, p.fits); spelled = p.spelled }

-- ---- how safely they are

pub one_stable : ReadsOne IsStable word
one_stable = of_fewer {Fewer = IsStable} (λ n f. omega arith) one_word
