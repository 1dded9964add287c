-- The arguments of each procedure can be read in one way only.
use Rattle.std.proofs.Common.{◌≡◌, ℕ, ◌^◌, ◌<◌, ◌≤◌, List, ◌++◌, length, Option, refl, sym, ap, ◌∙◌, arith}
use Rattle.std.proofs.lemmas.List.{append_cancel_left}
use Rattle.ivy_base.specs.declared.operation.Moment.{Moment}
use Rattle.wire_model.specs.Xdr.{word, opaque}
use Rattle.wire_model.specs.OneReading.{ReadsOne}
use Rattle.wire_model.proofs.OneReading.{◌▷◌, always, whole, of_fewer, of_parts, one_word, one_double_word, one_moment, one_raw, one_short_opaque, one_opaque, one_optional}
use Rattle.nfs_model.specs.declared.arguments.Args.{Args}
use Rattle.nfs_model.specs.declared.arguments.Args.TheVariants as call
use Rattle.nfs_model.specs.declared.arguments.SetTime.{SetTime}
use Rattle.nfs_model.specs.declared.arguments.SetTime.TheVariants.{Keep, Server, Client}
use Rattle.nfs_model.specs.declared.arguments.SetWhat.{SetWhat}
use Rattle.nfs_model.specs.declared.arguments.How.{How}
use Rattle.nfs_model.specs.declared.arguments.How.TheVariants.{Unchecked, Guarded, Exclusive}
use Rattle.nfs_model.specs.declared.arguments.SpecialNode.{SpecialNode}
use Rattle.nfs_model.specs.declared.arguments.SpecialNode.TheVariants.{Plain, Device, Other}
use Rattle.nfs_model.specs.Arguments.{program_of, procedure_of, arguments, set_time, set_what, create_how, special_node, IsHandle, IsShortText, IsTime, IsSetWhat, IsVerifier, IsHow, IsPlainKind, IsDeviceKind, IsOtherKind, IsNode, ArgumentsFit}
use Rattle.nfs_model.specs.Laws.{ArgumentsReadOne, ArgumentsAreUnambiguous}

-- ---- parts

pub one_handle : ReadsOne IsHandle opaque
one_handle = one_short_opaque 64 (omega arith)

pub one_text : ReadsOne IsShortText opaque
one_text = one_short_opaque 4096 (omega arith)

pub one_path : ReadsOne (λ (path : List ℕ). length path ≤ 1024) opaque
one_path = one_short_opaque 1024 (omega arith)

pub one_verifier : ReadsOne IsVerifier (λ bytes. bytes)
one_verifier = one_raw 8

pub one_set_time : ReadsOne IsTime set_time
one_set_time = record { one = times }
  where
    times : (x y : SetTime) (r s : List ℕ) → IsTime x → IsTime y → set_time x ++ r ≡ set_time y ++ s → (x ≡ y) × (r ≡ s)
    times Keep Keep r s f g e = (refl, append_cancel_left (word 0) r s e)
    times Keep Server r s f g e = cc
    times Keep (Client n) r s f g e = cc
    times Server Keep r s f g e = cc
    times Server Server r s f g e = (refl, append_cancel_left (word 1) r s e)
    times Server (Client n) r s f g e = cc
    times (Client m) Keep r s f g e = cc
    times (Client m) Server r s f g e = cc
    times (Client m) (Client n) r s f g e = let p = (always (word 2) ▷ one_moment).one (tt, m) (tt, n) r s (tt, f) (tt, g) e in
        (ap (λ (p : Unit {0} × Moment). Client p.1) p.0, p.1)

abbrev Whats : Type 0
Whats = ((((Option ℕ × Option ℕ) × Option ℕ) × Option ℕ) × SetTime) × SetTime

abbrev what_of : SetWhat → Whats
what_of s = (((((s.mode, s.uid), s.gid), s.size), s.atime), s.mtime)

abbrev with_whats : Whats → SetWhat
with_whats p = record { mode = p.0.0.0.0.0; uid = p.0.0.0.0.1; gid = p.0.0.0.1; size = p.0.0.1; atime = p.0.1; mtime = p.1 }

pub one_set_what : ReadsOne IsSetWhat set_what
one_set_what = of_parts what_of (λ s f. (((((f.mode, f.uid), f.gid), f.size), f.atime), f.mtime)) (λ s. refl) (λ s t e. ap with_whats e)
    (one_optional one_word ▷ one_optional one_word ▷ one_optional one_word ▷ one_optional one_double_word ▷ one_set_time ▷ one_set_time)

pub one_how : ReadsOne IsHow create_how
one_how = record { one = hows }
  where
    hows : (x y : How) (r s : List ℕ) → IsHow x → IsHow y → create_how x ++ r ≡ create_how y ++ s → (x ≡ y) × (r ≡ s)
    hows (Unchecked v) (Unchecked w) r s f g e = let p = (always (word 0) ▷ one_set_what).one (tt, v) (tt, w) r s (tt, f) (tt, g) e in
        (ap (λ (p : Unit {0} × SetWhat). Unchecked p.1) p.0, p.1)
    hows (Unchecked v) (Guarded w) r s f g e = cc
    hows (Unchecked v) (Exclusive w) r s f g e = cc
    hows (Guarded v) (Unchecked w) r s f g e = cc
    hows (Guarded v) (Guarded w) r s f g e = let p = (always (word 1) ▷ one_set_what).one (tt, v) (tt, w) r s (tt, f) (tt, g) e in
        (ap (λ (p : Unit {0} × SetWhat). Guarded p.1) p.0, p.1)
    hows (Guarded v) (Exclusive w) r s f g e = cc
    hows (Exclusive v) (Unchecked w) r s f g e = cc
    hows (Exclusive v) (Guarded w) r s f g e = cc
    hows (Exclusive v) (Exclusive w) r s f g e = let p = (always (word 2) ▷ one_verifier).one (tt, v) (tt, w) r s (tt, f) (tt, g) e in
        (ap (λ (p : Unit {0} × List ℕ). Exclusive p.1) p.0, p.1)

-- a type's number is a word, and tells what is given with it
plain_fits : (k : ℕ) → IsPlainKind k → k < 2 ^ 32
plain_fits k f = grind arith

device_fits : (k : ℕ) → IsDeviceKind k → k < 2 ^ 32
device_fits k f = grind arith

other_fits : (k : ℕ) → IsOtherKind k → k < 2 ^ 32
other_fits k f = grind arith

plain_or_device : (j k : ℕ) → IsPlainKind j → IsDeviceKind k → j ≡ k → ⊥
plain_or_device j k f g e = grind arith

plain_or_other : (j k : ℕ) → IsPlainKind j → IsOtherKind k → j ≡ k → ⊥
plain_or_other j k f g e = grind arith

device_or_other : (j k : ℕ) → IsDeviceKind j → IsOtherKind k → j ≡ k → ⊥
device_or_other j k f g e = grind arith

abbrev device_after : SetWhat → ℕ → ℕ → List ℕ → List ℕ
device_after what major minor rest = set_what what ++ word major ++ word minor ++ rest

pub one_node : ReadsOne IsNode special_node
one_node = record { one = nodes }
  where
    nodes : (x y : SpecialNode) (r s : List ℕ) → IsNode x → IsNode y → special_node x ++ r ≡ special_node y ++ s → (x ≡ y) × (r ≡ s)
    nodes (Plain j) (Plain k) r s f g e = let p = one_word.one j k r s (plain_fits j f) (plain_fits k g) e in (ap Plain p.0, p.1)
    nodes (Plain j) (Device k what major minor) r s f g e =
        absurd (plain_or_device j k f g.0 (one_word.one j k r (device_after what major minor s) (plain_fits j f) (device_fits k g.0) e).0)
    nodes (Plain j) (Other k what) r s f g e =
        absurd (plain_or_other j k f g.0 (one_word.one j k r (set_what what ++ s) (plain_fits j f) (other_fits k g.0) e).0)
    nodes (Device j what major minor) (Plain k) r s f g e =
        absurd (plain_or_device k j g f.0 (sym (one_word.one j k (device_after what major minor r) s (device_fits j f.0) (plain_fits k g) e).0))
    nodes (Device j v m n) (Device k w a b) r s f g e =
        let p = (one_word ▷ one_set_what ▷ one_word ▷ one_word).one (((j, v), m), n) (((k, w), a), b) r s
        (((device_fits j f.0, f.1), f.2), f.3) (((device_fits k g.0, g.1), g.2), g.3) e in
        (ap (λ (p : ((ℕ × SetWhat) × ℕ) × ℕ). Device p.0.0.0 p.0.0.1 p.0.1 p.1) p.0, p.1)
    nodes (Device j v m n) (Other k what) r s f g e =
        absurd (device_or_other j k f.0 g.0 (one_word.one j k (device_after v m n r) (set_what what ++ s) (device_fits j f.0) (other_fits k g.0) e).0)
    nodes (Other j what) (Plain k) r s f g e =
        absurd (plain_or_other k j g f.0 (sym (one_word.one j k (set_what what ++ r) s (other_fits j f.0) (plain_fits k g) e).0))
    nodes (Other j what) (Device k w a b) r s f g e =
        absurd (device_or_other k j g.0 f.0 (sym (one_word.one j k (set_what what ++ r) (device_after w a b s) (other_fits j f.0) (device_fits k g.0) e).0))
    nodes (Other j v) (Other k w) r s f g e =
        let p = (one_word ▷ one_set_what).one (j, v) (k, w) r s (other_fits j f.0, f.1) (other_fits k g.0, g.1) e in
        (ap (λ (p : ℕ × SetWhat). Other p.0 p.1) p.0, p.1)

one_stable : ReadsOne (λ stable. stable ≤ 2) word
one_stable = of_fewer (λ n f. omega arith) one_word

-- ---- arguments

-- what is made of one value is one, whatever follows
pub same_made : {A B : Type 0} {x y : A} {r s : List ℕ} (make : A → B) → (x ≡ y) × (r ≡ s) → (make x ≡ make y) × (r ≡ s)
same_made make p = (ap make p.0, p.1)

-- of one procedure
same_arguments : (args other : Args) (r s : List ℕ) → program_of args ≡ program_of other → procedure_of args ≡ procedure_of other
    → ArgumentsFit args → ArgumentsFit other → arguments args ++ r ≡ arguments other ++ s → (args ≡ other) × (r ≡ s)
same_arguments call.Null call.Null r s p q f g e = (refl, e)
same_arguments (call.GetAttr object) (call.GetAttr object2) r s p q f g e = same_made call.GetAttr (one_handle.one object object2 r s f g e)
same_arguments (call.SetAttr object what guard) (call.SetAttr object2 what2 guard2) r s p q f g e =
    same_made (λ (p : (List ℕ × SetWhat) × Option Moment). call.SetAttr p.0.0 p.0.1 p.1)
    ((one_handle ▷ one_set_what ▷ one_optional one_moment).one ((object, what), guard) ((object2, what2), guard2) r s ((f.0, f.1), f.2) ((g.0, g.1), g.2) e)
same_arguments (call.Lookup dir name) (call.Lookup dir2 name2) r s p q f g e =
    same_made (λ (p : List ℕ × List ℕ). call.Lookup p.0 p.1)
    ((one_handle ▷ one_text).one (dir, name) (dir2, name2) r s (f.0, f.1) (g.0, g.1) e)
same_arguments (call.Access object bits) (call.Access object2 bits2) r s p q f g e =
    same_made (λ (p : List ℕ × ℕ). call.Access p.0 p.1)
    ((one_handle ▷ one_word).one (object, bits) (object2, bits2) r s (f.0, f.1) (g.0, g.1) e)
same_arguments (call.ReadLink link) (call.ReadLink link2) r s p q f g e = same_made call.ReadLink (one_handle.one link link2 r s f g e)
same_arguments (call.Read file offset count) (call.Read file2 offset2 count2) r s p q f g e =
    same_made (λ (p : (List ℕ × ℕ) × ℕ). call.Read p.0.0 p.0.1 p.1)
    ((one_handle ▷ one_double_word ▷ one_word).one ((file, offset), count) ((file2, offset2), count2) r s ((f.0, f.1), f.2) ((g.0, g.1), g.2) e)
same_arguments (call.Write file offset count stable bytes) (call.Write file2 offset2 count2 stable2 bytes2) r s p q f g e =
    same_made (λ (p : (((List ℕ × ℕ) × ℕ) × ℕ) × List ℕ). call.Write p.0.0.0.0 p.0.0.0.1 p.0.0.1 p.0.1 p.1)
    ((one_handle ▷ one_double_word ▷ one_word ▷ one_stable ▷ one_opaque).one ((((file, offset), count), stable), bytes) ((((file2, offset2), count2), stable2), bytes2) r s ((((f.0, f.1), f.2), f.3), f.4) ((((g.0, g.1), g.2), g.3), g.4) e)
same_arguments (call.Create dir name how) (call.Create dir2 name2 how2) r s p q f g e =
    same_made (λ (p : (List ℕ × List ℕ) × How). call.Create p.0.0 p.0.1 p.1)
    ((one_handle ▷ one_text ▷ one_how).one ((dir, name), how) ((dir2, name2), how2) r s ((f.0, f.1), f.2) ((g.0, g.1), g.2) e)
same_arguments (call.MkDir dir name what) (call.MkDir dir2 name2 what2) r s p q f g e =
    same_made (λ (p : (List ℕ × List ℕ) × SetWhat). call.MkDir p.0.0 p.0.1 p.1)
    ((one_handle ▷ one_text ▷ one_set_what).one ((dir, name), what) ((dir2, name2), what2) r s ((f.0, f.1), f.2) ((g.0, g.1), g.2) e)
same_arguments (call.SymLink dir name what text) (call.SymLink dir2 name2 what2 text2) r s p q f g e =
    same_made (λ (p : ((List ℕ × List ℕ) × SetWhat) × List ℕ). call.SymLink p.0.0.0 p.0.0.1 p.0.1 p.1)
    ((one_handle ▷ one_text ▷ one_set_what ▷ one_text).one (((dir, name), what), text) (((dir2, name2), what2), text2) r s (((f.0, f.1), f.2), f.3) (((g.0, g.1), g.2), g.3) e)
same_arguments (call.MkNod dir name node) (call.MkNod dir2 name2 node2) r s p q f g e =
    same_made (λ (p : (List ℕ × List ℕ) × SpecialNode). call.MkNod p.0.0 p.0.1 p.1)
    ((one_handle ▷ one_text ▷ one_node).one ((dir, name), node) ((dir2, name2), node2) r s ((f.0, f.1), f.2) ((g.0, g.1), g.2) e)
same_arguments (call.Remove dir name) (call.Remove dir2 name2) r s p q f g e =
    same_made (λ (p : List ℕ × List ℕ). call.Remove p.0 p.1)
    ((one_handle ▷ one_text).one (dir, name) (dir2, name2) r s (f.0, f.1) (g.0, g.1) e)
same_arguments (call.RmDir dir name) (call.RmDir dir2 name2) r s p q f g e =
    same_made (λ (p : List ℕ × List ℕ). call.RmDir p.0 p.1)
    ((one_handle ▷ one_text).one (dir, name) (dir2, name2) r s (f.0, f.1) (g.0, g.1) e)
same_arguments (call.Rename dir name to_dir to_name) (call.Rename dir2 name2 to_dir2 to_name2) r s p q f g e =
    same_made (λ (p : ((List ℕ × List ℕ) × List ℕ) × List ℕ). call.Rename p.0.0.0 p.0.0.1 p.0.1 p.1)
    ((one_handle ▷ one_text ▷ one_handle ▷ one_text).one (((dir, name), to_dir), to_name) (((dir2, name2), to_dir2), to_name2) r s (((f.0, f.1), f.2), f.3) (((g.0, g.1), g.2), g.3) e)
same_arguments (call.Link file dir name) (call.Link file2 dir2 name2) r s p q f g e =
    same_made (λ (p : (List ℕ × List ℕ) × List ℕ). call.Link p.0.0 p.0.1 p.1)
    ((one_handle ▷ one_handle ▷ one_text).one ((file, dir), name) ((file2, dir2), name2) r s ((f.0, f.1), f.2) ((g.0, g.1), g.2) e)
same_arguments (call.ReadDir dir cookie verifier count) (call.ReadDir dir2 cookie2 verifier2 count2) r s p q f g e =
    same_made (λ (p : ((List ℕ × ℕ) × List ℕ) × ℕ). call.ReadDir p.0.0.0 p.0.0.1 p.0.1 p.1)
    ((one_handle ▷ one_double_word ▷ one_verifier ▷ one_word).one (((dir, cookie), verifier), count) (((dir2, cookie2), verifier2), count2) r s (((f.0, f.1), f.2), f.3) (((g.0, g.1), g.2), g.3) e)
same_arguments (call.ReadDirPlus dir cookie verifier dircount maxcount) (call.ReadDirPlus dir2 cookie2 verifier2 dircount2 maxcount2) r s p q f g e =
    same_made (λ (p : (((List ℕ × ℕ) × List ℕ) × ℕ) × ℕ). call.ReadDirPlus p.0.0.0.0 p.0.0.0.1 p.0.0.1 p.0.1 p.1)
    ((one_handle ▷ one_double_word ▷ one_verifier ▷ one_word ▷ one_word).one ((((dir, cookie), verifier), dircount), maxcount) ((((dir2, cookie2), verifier2), dircount2), maxcount2) r s ((((f.0, f.1), f.2), f.3), f.4) ((((g.0, g.1), g.2), g.3), g.4) e)
same_arguments (call.FsStat object) (call.FsStat object2) r s p q f g e = same_made call.FsStat (one_handle.one object object2 r s f g e)
same_arguments (call.FsInfo object) (call.FsInfo object2) r s p q f g e = same_made call.FsInfo (one_handle.one object object2 r s f g e)
same_arguments (call.PathConf object) (call.PathConf object2) r s p q f g e = same_made call.PathConf (one_handle.one object object2 r s f g e)
same_arguments (call.Commit file offset count) (call.Commit file2 offset2 count2) r s p q f g e =
    same_made (λ (p : (List ℕ × ℕ) × ℕ). call.Commit p.0.0 p.0.1 p.1)
    ((one_handle ▷ one_double_word ▷ one_word).one ((file, offset), count) ((file2, offset2), count2) r s ((f.0, f.1), f.2) ((g.0, g.1), g.2) e)
same_arguments call.MountNull call.MountNull r s p q f g e = (refl, e)
same_arguments (call.Mnt path) (call.Mnt path2) r s p q f g e = same_made call.Mnt (one_path.one path path2 r s f g e)
same_arguments call.Dump call.Dump r s p q f g e = (refl, e)
same_arguments (call.Umnt path) (call.Umnt path2) r s p q f g e = same_made call.Umnt (one_path.one path path2 r s f g e)
same_arguments call.UmntAll call.UmntAll r s p q f g e = (refl, e)
same_arguments call.Export call.Export r s p q f g e = (refl, e)
same_arguments args other r s p q f g e = absurd (omega (arith, p, q))

-- the bytes begin with the arguments of one value alone
pub read_one : ArgumentsReadOne
read_one program procedure = record {
  one = λ args other r s f g e. same_arguments args other r s (sym f.program_is ∙ g.program_is) (sym f.procedure_is ∙ g.procedure_is) f.fit g.fit e;
}

pub one_arguments : ArgumentsAreUnambiguous
one_arguments program procedure bytes args other f g =
    whole (read_one program procedure) args other
    (record { program_is = f.program_is; procedure_is = f.procedure_is; fit = f.fit })
    (record { program_is = g.program_is; procedure_is = g.procedure_is; fit = g.fit })
    (sym f.spelled ∙ g.spelled)
