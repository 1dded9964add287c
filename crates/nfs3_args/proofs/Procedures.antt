-- The arguments of each procedure are made of their parts.
use Rattle.std.proofs.Common.{◌≡◌, ℕ, List, ◌++◌, Option, refl, sym, subst, arith, append_assoc}
use Rattle.ivy_base.specs.declared.operation.Moment.{Moment}
use Rattle.wire_model.specs.Xdr.{word, double_word, opaque, optional, moment, IsWordMoment, IsWord, IsDoubleWord}
use Rattle.wire_model.specs.Parts.{Reads, IsOptional, as_it_stands}
use Rattle.wire_model.proofs.Made.{MadeOf, Made}
use Rattle.nfs_model.specs.declared.arguments.Args.{Args}
use Rattle.nfs_model.specs.declared.arguments.Args.TheVariants as call
use Rattle.nfs_model.specs.declared.arguments.SetWhat.{SetWhat}
use Rattle.nfs_model.specs.declared.arguments.How.{How}
use Rattle.nfs_model.specs.declared.arguments.SpecialNode.{SpecialNode}
use Rattle.nfs_model.specs.Arguments.{arguments, set_what, create_how, special_node, IsHandle, IsShortText, IsSetWhat, IsVerifier, IsHow, IsNode}
use Rattle.nfs_model.specs.Laws.{AreOf}
use Rattle.nfs3_args.specs.Parts.{IsData, IsPath, IsStable, place, IsPlace}
use Rattle.nfs3_args.specs.Reading.{AreNfs, AreMount}

-- by the number of the procedure
pub numbered : {program p n : ℕ} {a b : Option (List ℕ)} {args : Args} → p ≡ n → Reads (AreOf program n) arguments a args b → Reads (AreOf program p) arguments a args b
numbered {program} {p} {n} {a} {b} {args} e f = subst (λ k. Reads (AreOf program k) arguments a args b) (sym e) f

-- ---- GETATTR

getattr_of : (a : Args) → AreNfs 1 a → MadeOf {A = List ℕ} IsHandle call.GetAttr a
getattr_of (call.GetAttr object) f = record { part = object; fits = f.fit; same = refl }
getattr_of a f = absurd (omega (arith, f.program_is, f.procedure_is))

pub made_getattr : Made {A = List ℕ} IsHandle opaque (AreNfs 1) arguments call.GetAttr
made_getattr = record { whole = λ p f. record { program_is = refl; procedure_is = refl; fit = f }; spelled = λ p. refl; parts = getattr_of }

-- ---- SETATTR

abbrev setattr_with : (List ℕ × SetWhat) × Option Moment → Args
setattr_with p = call.SetAttr p.0.0 p.0.1 p.1

setattr_of : (a : Args) → AreNfs 2 a → MadeOf {A = (List ℕ × SetWhat) × Option Moment} (λ p. (IsHandle p.0.0 × IsSetWhat p.0.1) × IsOptional IsWordMoment p.1) setattr_with a
setattr_of (call.SetAttr object what guard) f = record { part = ((object, what), guard); fits = ((f.fit.0, f.fit.1), f.fit.2); same = refl }
setattr_of a f = absurd (omega (arith, f.program_is, f.procedure_is))

pub made_setattr : Made {A = (List ℕ × SetWhat) × Option Moment} (λ p. (IsHandle p.0.0 × IsSetWhat p.0.1) × IsOptional IsWordMoment p.1) (λ p. opaque p.0.0 ++ set_what p.0.1 ++ optional moment p.1) (AreNfs 2) arguments setattr_with
made_setattr = record { whole = λ p f. record { program_is = refl; procedure_is = refl; fit = (f.0.0, f.0.1, f.1) }; spelled = λ p. refl; parts = setattr_of }

-- ---- LOOKUP

abbrev lookup_with : List ℕ × List ℕ → Args
lookup_with p = call.Lookup p.0 p.1

lookup_of : (a : Args) → AreNfs 3 a → MadeOf {A = List ℕ × List ℕ} IsPlace lookup_with a
lookup_of (call.Lookup dir name) f = record { part = (dir, name); fits = (f.fit.0, f.fit.1); same = refl }
lookup_of a f = absurd (omega (arith, f.program_is, f.procedure_is))

pub made_lookup : Made {A = List ℕ × List ℕ} IsPlace place (AreNfs 3) arguments lookup_with
made_lookup = record { whole = λ p f. record { program_is = refl; procedure_is = refl; fit = (f.0, f.1) }; spelled = λ p. refl; parts = lookup_of }

-- ---- ACCESS

abbrev access_with : List ℕ × ℕ → Args
access_with p = call.Access p.0 p.1

access_of : (a : Args) → AreNfs 4 a → MadeOf {A = List ℕ × ℕ} (λ p. IsHandle p.0 × IsWord p.1) access_with a
access_of (call.Access object bits) f = record { part = (object, bits); fits = (f.fit.0, f.fit.1); same = refl }
access_of a f = absurd (omega (arith, f.program_is, f.procedure_is))

pub made_access : Made {A = List ℕ × ℕ} (λ p. IsHandle p.0 × IsWord p.1) (λ p. opaque p.0 ++ word p.1) (AreNfs 4) arguments access_with
made_access = record { whole = λ p f. record { program_is = refl; procedure_is = refl; fit = (f.0, f.1) }; spelled = λ p. refl; parts = access_of }

-- ---- READLINK

readlink_of : (a : Args) → AreNfs 5 a → MadeOf {A = List ℕ} IsHandle call.ReadLink a
readlink_of (call.ReadLink link) f = record { part = link; fits = f.fit; same = refl }
readlink_of a f = absurd (omega (arith, f.program_is, f.procedure_is))

pub made_readlink : Made {A = List ℕ} IsHandle opaque (AreNfs 5) arguments call.ReadLink
made_readlink = record { whole = λ p f. record { program_is = refl; procedure_is = refl; fit = f }; spelled = λ p. refl; parts = readlink_of }

-- ---- READ

abbrev read_with : (List ℕ × ℕ) × ℕ → Args
read_with p = call.Read p.0.0 p.0.1 p.1

read_of : (a : Args) → AreNfs 6 a → MadeOf {A = (List ℕ × ℕ) × ℕ} (λ p. (IsHandle p.0.0 × IsDoubleWord p.0.1) × IsWord p.1) read_with a
read_of (call.Read file offset count) f = record { part = ((file, offset), count); fits = ((f.fit.0, f.fit.1), f.fit.2); same = refl }
read_of a f = absurd (omega (arith, f.program_is, f.procedure_is))

pub made_reading : Made {A = (List ℕ × ℕ) × ℕ} (λ p. (IsHandle p.0.0 × IsDoubleWord p.0.1) × IsWord p.1) (λ p. opaque p.0.0 ++ double_word p.0.1 ++ word p.1) (AreNfs 6) arguments read_with
made_reading = record { whole = λ p f. record { program_is = refl; procedure_is = refl; fit = (f.0.0, f.0.1, f.1) }; spelled = λ p. refl; parts = read_of }

-- ---- WRITE

abbrev write_with : (((List ℕ × ℕ) × ℕ) × ℕ) × List ℕ → Args
write_with p = call.Write p.0.0.0.0 p.0.0.0.1 p.0.0.1 p.0.1 p.1

write_of : (a : Args) → AreNfs 7 a → MadeOf {A = (((List ℕ × ℕ) × ℕ) × ℕ) × List ℕ} (λ p. (((IsHandle p.0.0.0.0 × IsDoubleWord p.0.0.0.1) × IsWord p.0.0.1) × IsStable p.0.1) × IsData p.1) write_with a
write_of (call.Write file offset count stable bytes) f = record { part = ((((file, offset), count), stable), bytes); fits = ((((f.fit.0, f.fit.1), f.fit.2), f.fit.3), f.fit.4); same = refl }
write_of a f = absurd (omega (arith, f.program_is, f.procedure_is))

pub made_write : Made {A = (((List ℕ × ℕ) × ℕ) × ℕ) × List ℕ} (λ p. (((IsHandle p.0.0.0.0 × IsDoubleWord p.0.0.0.1) × IsWord p.0.0.1) × IsStable p.0.1) × IsData p.1) (λ p. opaque p.0.0.0.0 ++ double_word p.0.0.0.1 ++ word p.0.0.1 ++ word p.0.1 ++ opaque p.1) (AreNfs 7) arguments write_with
made_write = record { whole = λ p f. record { program_is = refl; procedure_is = refl; fit = (f.0.0.0.0, f.0.0.0.1, f.0.0.1, f.0.1, f.1) }; spelled = λ p. refl; parts = write_of }

-- ---- CREATE

abbrev create_with : (List ℕ × List ℕ) × How → Args
create_with p = call.Create p.0.0 p.0.1 p.1

create_of : (a : Args) → AreNfs 8 a → MadeOf {A = (List ℕ × List ℕ) × How} (λ p. IsPlace p.0 × IsHow p.1) create_with a
create_of (call.Create dir name how) f = record { part = ((dir, name), how); fits = ((f.fit.0, f.fit.1), f.fit.2); same = refl }
create_of a f = absurd (omega (arith, f.program_is, f.procedure_is))

pub made_create : Made {A = (List ℕ × List ℕ) × How} (λ p. IsPlace p.0 × IsHow p.1) (λ p. place p.0 ++ create_how p.1) (AreNfs 8) arguments create_with
made_create = record { whole = λ p f. record { program_is = refl; procedure_is = refl; fit = (f.0.0, f.0.1, f.1) }; spelled = λ p. refl; parts = create_of }

-- ---- MKDIR

abbrev mkdir_with : (List ℕ × List ℕ) × SetWhat → Args
mkdir_with p = call.MkDir p.0.0 p.0.1 p.1

mkdir_of : (a : Args) → AreNfs 9 a → MadeOf {A = (List ℕ × List ℕ) × SetWhat} (λ p. IsPlace p.0 × IsSetWhat p.1) mkdir_with a
mkdir_of (call.MkDir dir name what) f = record { part = ((dir, name), what); fits = ((f.fit.0, f.fit.1), f.fit.2); same = refl }
mkdir_of a f = absurd (omega (arith, f.program_is, f.procedure_is))

pub made_mkdir : Made {A = (List ℕ × List ℕ) × SetWhat} (λ p. IsPlace p.0 × IsSetWhat p.1) (λ p. place p.0 ++ set_what p.1) (AreNfs 9) arguments mkdir_with
made_mkdir = record { whole = λ p f. record { program_is = refl; procedure_is = refl; fit = (f.0.0, f.0.1, f.1) }; spelled = λ p. refl; parts = mkdir_of }

-- ---- SYMLINK

abbrev symlink_with : ((List ℕ × List ℕ) × SetWhat) × List ℕ → Args
symlink_with p = call.SymLink p.0.0.0 p.0.0.1 p.0.1 p.1

symlink_of : (a : Args) → AreNfs 10 a → MadeOf {A = ((List ℕ × List ℕ) × SetWhat) × List ℕ} (λ p. (IsPlace p.0.0 × IsSetWhat p.0.1) × IsShortText p.1) symlink_with a
symlink_of (call.SymLink dir name what text) f = record { part = (((dir, name), what), text); fits = (((f.fit.0, f.fit.1), f.fit.2), f.fit.3); same = refl }
symlink_of a f = absurd (omega (arith, f.program_is, f.procedure_is))

pub made_symlink : Made {A = ((List ℕ × List ℕ) × SetWhat) × List ℕ} (λ p. (IsPlace p.0.0 × IsSetWhat p.0.1) × IsShortText p.1) (λ p. place p.0.0 ++ set_what p.0.1 ++ opaque p.1) (AreNfs 10) arguments symlink_with
made_symlink = record { whole = λ p f. record { program_is = refl; procedure_is = refl; fit = (f.0.0.0, f.0.0.1, f.0.1, f.1) }; spelled = λ p. refl; parts = symlink_of }

-- ---- MKNOD

abbrev mknod_with : (List ℕ × List ℕ) × SpecialNode → Args
mknod_with p = call.MkNod p.0.0 p.0.1 p.1

mknod_of : (a : Args) → AreNfs 11 a → MadeOf {A = (List ℕ × List ℕ) × SpecialNode} (λ p. IsPlace p.0 × IsNode p.1) mknod_with a
mknod_of (call.MkNod dir name node) f = record { part = ((dir, name), node); fits = ((f.fit.0, f.fit.1), f.fit.2); same = refl }
mknod_of a f = absurd (omega (arith, f.program_is, f.procedure_is))

pub made_mknod : Made {A = (List ℕ × List ℕ) × SpecialNode} (λ p. IsPlace p.0 × IsNode p.1) (λ p. place p.0 ++ special_node p.1) (AreNfs 11) arguments mknod_with
made_mknod = record { whole = λ p f. record { program_is = refl; procedure_is = refl; fit = (f.0.0, f.0.1, f.1) }; spelled = λ p. refl; parts = mknod_of }

-- ---- REMOVE

abbrev remove_with : List ℕ × List ℕ → Args
remove_with p = call.Remove p.0 p.1

remove_of : (a : Args) → AreNfs 12 a → MadeOf {A = List ℕ × List ℕ} IsPlace remove_with a
remove_of (call.Remove dir name) f = record { part = (dir, name); fits = (f.fit.0, f.fit.1); same = refl }
remove_of a f = absurd (omega (arith, f.program_is, f.procedure_is))

pub made_remove : Made {A = List ℕ × List ℕ} IsPlace place (AreNfs 12) arguments remove_with
made_remove = record { whole = λ p f. record { program_is = refl; procedure_is = refl; fit = (f.0, f.1) }; spelled = λ p. refl; parts = remove_of }

-- ---- RMDIR

abbrev rmdir_with : List ℕ × List ℕ → Args
rmdir_with p = call.RmDir p.0 p.1

rmdir_of : (a : Args) → AreNfs 13 a → MadeOf {A = List ℕ × List ℕ} IsPlace rmdir_with a
rmdir_of (call.RmDir dir name) f = record { part = (dir, name); fits = (f.fit.0, f.fit.1); same = refl }
rmdir_of a f = absurd (omega (arith, f.program_is, f.procedure_is))

pub made_rmdir : Made {A = List ℕ × List ℕ} IsPlace place (AreNfs 13) arguments rmdir_with
made_rmdir = record { whole = λ p f. record { program_is = refl; procedure_is = refl; fit = (f.0, f.1) }; spelled = λ p. refl; parts = rmdir_of }

-- ---- RENAME

abbrev rename_with : (List ℕ × List ℕ) × (List ℕ × List ℕ) → Args
rename_with p = call.Rename p.0.0 p.0.1 p.1.0 p.1.1

rename_of : (a : Args) → AreNfs 14 a → MadeOf {A = (List ℕ × List ℕ) × (List ℕ × List ℕ)} (λ p. IsPlace p.0 × IsPlace p.1) rename_with a
rename_of (call.Rename dir name to_dir to_name) f = record { part = ((dir, name), (to_dir, to_name)); fits = ((f.fit.0, f.fit.1), (f.fit.2, f.fit.3)); same = refl }
rename_of a f = absurd (omega (arith, f.program_is, f.procedure_is))

pub made_rename : Made {A = (List ℕ × List ℕ) × (List ℕ × List ℕ)} (λ p. IsPlace p.0 × IsPlace p.1) (λ p. place p.0 ++ place p.1) (AreNfs 14) arguments rename_with
made_rename = record { whole = λ p f. record { program_is = refl; procedure_is = refl; fit = (f.0.0, f.0.1, f.1.0, f.1.1) }; spelled = λ p. append_assoc (opaque p.0.0 ++ opaque p.0.1) (opaque p.1.0) (opaque p.1.1); parts = rename_of }

-- ---- LINK

abbrev link_with : List ℕ × (List ℕ × List ℕ) → Args
link_with p = call.Link p.0 p.1.0 p.1.1

link_of : (a : Args) → AreNfs 15 a → MadeOf {A = List ℕ × (List ℕ × List ℕ)} (λ p. IsHandle p.0 × IsPlace p.1) link_with a
link_of (call.Link file dir name) f = record { part = (file, (dir, name)); fits = (f.fit.0, (f.fit.1, f.fit.2)); same = refl }
link_of a f = absurd (omega (arith, f.program_is, f.procedure_is))

pub made_link : Made {A = List ℕ × (List ℕ × List ℕ)} (λ p. IsHandle p.0 × IsPlace p.1) (λ p. opaque p.0 ++ place p.1) (AreNfs 15) arguments link_with
made_link = record { whole = λ p f. record { program_is = refl; procedure_is = refl; fit = (f.0, f.1.0, f.1.1) }; spelled = λ p. append_assoc (opaque p.0) (opaque p.1.0) (opaque p.1.1); parts = link_of }

-- ---- READDIR

abbrev readdir_with : ((List ℕ × ℕ) × List ℕ) × ℕ → Args
readdir_with p = call.ReadDir p.0.0.0 p.0.0.1 p.0.1 p.1

readdir_of : (a : Args) → AreNfs 16 a → MadeOf {A = ((List ℕ × ℕ) × List ℕ) × ℕ} (λ p. ((IsHandle p.0.0.0 × IsDoubleWord p.0.0.1) × IsVerifier p.0.1) × IsWord p.1) readdir_with a
readdir_of (call.ReadDir dir cookie verifier count) f = record { part = (((dir, cookie), verifier), count); fits = (((f.fit.0, f.fit.1), f.fit.2), f.fit.3); same = refl }
readdir_of a f = absurd (omega (arith, f.program_is, f.procedure_is))

pub made_readdir : Made {A = ((List ℕ × ℕ) × List ℕ) × ℕ} (λ p. ((IsHandle p.0.0.0 × IsDoubleWord p.0.0.1) × IsVerifier p.0.1) × IsWord p.1) (λ p. opaque p.0.0.0 ++ double_word p.0.0.1 ++ as_it_stands p.0.1 ++ word p.1) (AreNfs 16) arguments readdir_with
made_readdir = record { whole = λ p f. record { program_is = refl; procedure_is = refl; fit = (f.0.0.0, f.0.0.1, f.0.1, f.1) }; spelled = λ p. refl; parts = readdir_of }

-- ---- READDIRPLUS

abbrev readdirplus_with : (((List ℕ × ℕ) × List ℕ) × ℕ) × ℕ → Args
readdirplus_with p = call.ReadDirPlus p.0.0.0.0 p.0.0.0.1 p.0.0.1 p.0.1 p.1

readdirplus_of : (a : Args) → AreNfs 17 a → MadeOf {A = (((List ℕ × ℕ) × List ℕ) × ℕ) × ℕ} (λ p. (((IsHandle p.0.0.0.0 × IsDoubleWord p.0.0.0.1) × IsVerifier p.0.0.1) × IsWord p.0.1) × IsWord p.1) readdirplus_with a
readdirplus_of (call.ReadDirPlus dir cookie verifier dircount maxcount) f = record { part = ((((dir, cookie), verifier), dircount), maxcount); fits = ((((f.fit.0, f.fit.1), f.fit.2), f.fit.3), f.fit.4); same = refl }
readdirplus_of a f = absurd (omega (arith, f.program_is, f.procedure_is))

pub made_readdirplus : Made {A = (((List ℕ × ℕ) × List ℕ) × ℕ) × ℕ} (λ p. (((IsHandle p.0.0.0.0 × IsDoubleWord p.0.0.0.1) × IsVerifier p.0.0.1) × IsWord p.0.1) × IsWord p.1) (λ p. opaque p.0.0.0.0 ++ double_word p.0.0.0.1 ++ as_it_stands p.0.0.1 ++ word p.0.1 ++ word p.1) (AreNfs 17) arguments readdirplus_with
made_readdirplus = record { whole = λ p f. record { program_is = refl; procedure_is = refl; fit = (f.0.0.0.0, f.0.0.0.1, f.0.0.1, f.0.1, f.1) }; spelled = λ p. refl; parts = readdirplus_of }

-- ---- FSSTAT

fsstat_of : (a : Args) → AreNfs 18 a → MadeOf {A = List ℕ} IsHandle call.FsStat a
fsstat_of (call.FsStat object) f = record { part = object; fits = f.fit; same = refl }
fsstat_of a f = absurd (omega (arith, f.program_is, f.procedure_is))

pub made_fsstat : Made {A = List ℕ} IsHandle opaque (AreNfs 18) arguments call.FsStat
made_fsstat = record { whole = λ p f. record { program_is = refl; procedure_is = refl; fit = f }; spelled = λ p. refl; parts = fsstat_of }

-- ---- FSINFO

fsinfo_of : (a : Args) → AreNfs 19 a → MadeOf {A = List ℕ} IsHandle call.FsInfo a
fsinfo_of (call.FsInfo object) f = record { part = object; fits = f.fit; same = refl }
fsinfo_of a f = absurd (omega (arith, f.program_is, f.procedure_is))

pub made_fsinfo : Made {A = List ℕ} IsHandle opaque (AreNfs 19) arguments call.FsInfo
made_fsinfo = record { whole = λ p f. record { program_is = refl; procedure_is = refl; fit = f }; spelled = λ p. refl; parts = fsinfo_of }

-- ---- PATHCONF

pathconf_of : (a : Args) → AreNfs 20 a → MadeOf {A = List ℕ} IsHandle call.PathConf a
pathconf_of (call.PathConf object) f = record { part = object; fits = f.fit; same = refl }
pathconf_of a f = absurd (omega (arith, f.program_is, f.procedure_is))

pub made_pathconf : Made {A = List ℕ} IsHandle opaque (AreNfs 20) arguments call.PathConf
made_pathconf = record { whole = λ p f. record { program_is = refl; procedure_is = refl; fit = f }; spelled = λ p. refl; parts = pathconf_of }

-- ---- COMMIT

abbrev commit_with : (List ℕ × ℕ) × ℕ → Args
commit_with p = call.Commit p.0.0 p.0.1 p.1

commit_of : (a : Args) → AreNfs 21 a → MadeOf {A = (List ℕ × ℕ) × ℕ} (λ p. (IsHandle p.0.0 × IsDoubleWord p.0.1) × IsWord p.1) commit_with a
commit_of (call.Commit file offset count) f = record { part = ((file, offset), count); fits = ((f.fit.0, f.fit.1), f.fit.2); same = refl }
commit_of a f = absurd (omega (arith, f.program_is, f.procedure_is))

pub made_commit : Made {A = (List ℕ × ℕ) × ℕ} (λ p. (IsHandle p.0.0 × IsDoubleWord p.0.1) × IsWord p.1) (λ p. opaque p.0.0 ++ double_word p.0.1 ++ word p.1) (AreNfs 21) arguments commit_with
made_commit = record { whole = λ p f. record { program_is = refl; procedure_is = refl; fit = (f.0.0, f.0.1, f.1) }; spelled = λ p. refl; parts = commit_of }

-- ---- MNT

mnt_of : (a : Args) → AreMount 1 a → MadeOf {A = List ℕ} IsPath call.Mnt a
mnt_of (call.Mnt path) f = record { part = path; fits = f.fit; same = refl }
mnt_of a f = absurd (omega (arith, f.program_is, f.procedure_is))

pub made_mnt : Made {A = List ℕ} IsPath opaque (AreMount 1) arguments call.Mnt
made_mnt = record { whole = λ p f. record { program_is = refl; procedure_is = refl; fit = f }; spelled = λ p. refl; parts = mnt_of }

-- ---- UMNT

umnt_of : (a : Args) → AreMount 3 a → MadeOf {A = List ℕ} IsPath call.Umnt a
umnt_of (call.Umnt path) f = record { part = path; fits = f.fit; same = refl }
umnt_of a f = absurd (omega (arith, f.program_is, f.procedure_is))

pub made_umnt : Made {A = List ℕ} IsPath opaque (AreMount 3) arguments call.Umnt
made_umnt = record { whole = λ p f. record { program_is = refl; procedure_is = refl; fit = f }; spelled = λ p. refl; parts = umnt_of }
