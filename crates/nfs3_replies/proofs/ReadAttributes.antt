-- Attributes and cache data are made of their parts.
use Rattle.std.proofs.Common.{◌≡◌, ℕ, ◌<◌, ◌^◌, List, [], ◌∷◌, ◌++◌, Option, refl, arith}
use Rattle.ivy_base.specs.declared.operation.Kind.{Kind}
use Rattle.ivy_base.specs.declared.operation.Kind.TheVariants.{Reg, Dir, Lnk}
use Rattle.ivy_base.specs.declared.operation.Moment.{Moment}
use Rattle.log_model.specs.Spelling.{kind_number}
use Rattle.wire_model.specs.Xdr.{word, double_word, optional, moment, IsWordMoment, IsWord, IsDoubleWord, IsAny}
use Rattle.nfs_model.specs.declared.replies.Fattr.{Fattr}
use Rattle.nfs_model.specs.declared.replies.WccBefore.{WccBefore}
use Rattle.nfs_model.specs.Results.{fattr, before, wcc}
use Rattle.nfs_model.specs.Replies.{IsFattr, IsBefore, IsWcc}
use Rattle.wire_model.specs.Parts.{IsOptional}
use Rattle.nfs3_replies.specs.ReadParts.{constant, kind_word}
use Rattle.wire_model.proofs.Made.{Made}

pub kind_below : (k : Kind) → kind_number k < 2 ^ 32
kind_below Reg = omega arith
kind_below Dir = omega arith
kind_below Lnk = omega arith

pub kind_spelled : (k : Kind) → kind_word k ≡ word (kind_number k)
kind_spelled k = refl

pub made_moment : Made {A = ℕ × ℕ} (λ p. IsWord p.0 × IsWord p.1) (λ p. word p.0 ++ word p.1) IsWordMoment moment (λ p. record { sec = p.0; nsec = p.1 })
made_moment = record { whole = λ p f. f; spelled = λ p. refl; parts = λ m f. record { part = (m.sec, m.nsec); fits = f; same = refl } }

-- ---- attributes

abbrev Parts : Type 0
Parts = ((((((((((((Kind × ℕ) × ℕ) × ℕ) × ℕ) × ℕ) × ℕ) × Unit {0}) × ℕ) × ℕ) × Moment) × Moment) × Moment)

abbrev AreParts : Parts → Type 0
AreParts p =
    (((((((((((IsAny p.0.0.0.0.0.0.0.0.0.0.0.0 × IsWord p.0.0.0.0.0.0.0.0.0.0.0.1) × IsWord p.0.0.0.0.0.0.0.0.0.0.1) × IsWord p.0.0.0.0.0.0.0.0.0.1) × IsWord p.0.0.0.0.0.0.0.0.1)
    × IsDoubleWord p.0.0.0.0.0.0.0.1) × IsDoubleWord p.0.0.0.0.0.0.1) × IsAny p.0.0.0.0.0.1) × IsDoubleWord p.0.0.0.0.1) × IsDoubleWord p.0.0.0.1)
    × IsWordMoment p.0.0.1) × IsWordMoment p.0.1) × IsWordMoment p.1

abbrev parts : Parts → List ℕ
parts p =
    kind_word p.0.0.0.0.0.0.0.0.0.0.0.0 ++ word p.0.0.0.0.0.0.0.0.0.0.0.1 ++ word p.0.0.0.0.0.0.0.0.0.0.1 ++ word p.0.0.0.0.0.0.0.0.0.1 ++ word p.0.0.0.0.0.0.0.0.1
    ++ double_word p.0.0.0.0.0.0.0.1 ++ double_word p.0.0.0.0.0.0.1 ++ constant (0 ∷ 0 ∷ []) p.0.0.0.0.0.1 ++ double_word p.0.0.0.0.1 ++ double_word p.0.0.0.1
    ++ moment p.0.0.1 ++ moment p.0.1 ++ moment p.1

abbrev with_parts : Parts → Fattr
with_parts p = record {
  kind = p.0.0.0.0.0.0.0.0.0.0.0.0;
  mode = p.0.0.0.0.0.0.0.0.0.0.0.1;
  nlink = p.0.0.0.0.0.0.0.0.0.0.1;
  uid = p.0.0.0.0.0.0.0.0.0.1;
  gid = p.0.0.0.0.0.0.0.0.1;
  size = p.0.0.0.0.0.0.0.1;
  used = p.0.0.0.0.0.0.1;
  fsid = p.0.0.0.0.1;
  fileid = p.0.0.0.1;
  atime = p.0.0.1;
  mtime = p.0.1;
  ctime = p.1;
}

pub made_fattr : Made AreParts parts IsFattr fattr with_parts
made_fattr = record {
  whole = λ p f. record {
    mode = f.0.0.0.0.0.0.0.0.0.0.0.1;
    nlink = f.0.0.0.0.0.0.0.0.0.0.1;
    uid = f.0.0.0.0.0.0.0.0.0.1;
    gid = f.0.0.0.0.0.0.0.0.1;
    size = f.0.0.0.0.0.0.0.1;
    used = f.0.0.0.0.0.0.1;
    fsid = f.0.0.0.0.1;
    fileid = f.0.0.0.1;
    atime = f.0.0.1;
    mtime = f.0.1;
    ctime = f.1;
  };
  spelled = λ p. refl;
  parts = λ a f. record {
    part = ((((((((((((a.kind, a.mode), a.nlink), a.uid), a.gid), a.size), a.used), tt), a.fsid), a.fileid), a.atime), a.mtime), a.ctime);
    fits = ((((((((((((tt, f.mode), f.nlink), f.uid), f.gid), f.size), f.used), tt), f.fsid), f.fileid), f.atime), f.mtime), f.ctime);
    same = refl;
  };
}

-- ---- cache data

pub made_before : Made {A = (ℕ × Moment) × Moment} (λ p. (IsDoubleWord p.0.0 × IsWordMoment p.0.1) × IsWordMoment p.1) (λ p. double_word p.0.0 ++ moment p.0.1 ++ moment p.1) IsBefore before (λ p. record { size = p.0.0; mtime = p.0.1; ctime = p.1 })
made_before = record {
  whole = λ p f. record { size = f.0.0; mtime = f.0.1; ctime = f.1 };
  spelled = λ p. refl;
  parts = λ b f. record { part = ((b.size, b.mtime), b.ctime); fits = ((f.size, f.mtime), f.ctime); same = refl };
}

pub made_wcc : Made {A = Option WccBefore × Option Fattr} (λ p. IsOptional IsBefore p.0 × IsOptional IsFattr p.1) (λ p. optional before p.0 ++ optional fattr p.1) IsWcc wcc (λ p. record { before = p.0; after = p.1 })
made_wcc = record {
  whole = λ p f. record { before = f.0; after = f.1 };
  spelled = λ p. refl;
  parts = λ w f. record { part = (w.before, w.after); fits = (f.before, f.after); same = refl };
}
