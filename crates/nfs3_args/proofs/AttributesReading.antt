-- Attributes, and how files and nodes are to be made, are read.
use Rattle.std.proofs.Common.{◌≡◌, ℕ, ◌<◌, ◌≤◌, ◌^◌, List, [], ◌++◌, Option, None, ◌⊎◌, refl, arith}
use Rattle.std.specs.Prelude.{⊤}
use Rattle.ivy_base.specs.declared.operation.Moment.{Moment}
use Rattle.wire_model.specs.Xdr.{word, double_word, optional, moment, IsWordMoment, IsWord, IsDoubleWord}
use Rattle.wire_model.specs.OneReading.{ReadsOne}
use Rattle.wire_model.specs.Parts.{Reads, IsOptional, as_it_stands}
use Rattle.wire_model.proofs.OneReading.{one_word, one_optional}
use Rattle.wire_model.proofs.Dependent.{PartsOf}
use Rattle.wire_model.proofs.Made.{Made}
use Rattle.nfs_model.specs.declared.arguments.SetTime.{SetTime}
use Rattle.nfs_model.specs.declared.arguments.SetTime.TheVariants.{Keep, Server, Client}
use Rattle.nfs_model.specs.declared.arguments.SetWhat.{SetWhat}
use Rattle.nfs_model.specs.declared.arguments.How.{How}
use Rattle.nfs_model.specs.declared.arguments.How.TheVariants.{Unchecked, Guarded, Exclusive}
use Rattle.nfs_model.specs.declared.arguments.SpecialNode.{SpecialNode}
use Rattle.nfs_model.specs.declared.arguments.SpecialNode.TheVariants.{Plain, Device, Other}
use Rattle.nfs_model.specs.Arguments.{set_time, set_what, create_how, special_node, IsTime, IsSetWhat, IsVerifier, IsHow, IsPlainKind, IsDeviceKind, IsOtherKind, IsNode}
use Rattle.nfs3_args.proofs.Tags.{Tagged, Form, form_read, form_missed, nothing_there}

-- ---- times

abbrev time_tag : SetTime → ℕ
time_tag Keep = 0
time_tag Server = 1
time_tag (Client m) = 2

abbrev time_after : SetTime → List ℕ
time_after Keep = []
time_after Server = []
time_after (Client m) = moment m

abbrev tagged_time : Tagged IsTime set_time
tagged_time = record { tag = time_tag; after = time_after; small = small; spelled = spelled }
  where
    small : (x : SetTime) → IsTime x → time_tag x < 2 ^ 32
    small Keep f = omega arith
    small Server f = omega arith
    small (Client m) f = omega arith

    spelled : (x : SetTime) → set_time x ≡ word (time_tag x) ++ time_after x
    spelled Keep = refl
    spelled Server = refl
    spelled (Client m) = refl

nothing_after : (n : ℕ) → n ≤ 1 → (x : SetTime) → IsTime x → n ≡ time_tag x → PartsOf {A = Unit {0}} (λ u. ⊤) (λ u. []) (time_after x)
nothing_after n h Keep f e = record { part = tt; fits = tt; spelled = refl }
nothing_after n h Server f e = record { part = tt; fits = tt; spelled = refl }
nothing_after n h (Client m) f e = absurd (omega (arith, h, e))

client_parts : (x : SetTime) → IsTime x → 2 ≡ time_tag x → PartsOf IsWordMoment moment (time_after x)
client_parts Keep f e = absurd (omega (arith, e))
client_parts Server f e = absurd (omega (arith, e))
client_parts (Client m) f e = record { part = m; fits = f; spelled = refl }

keep_form : Form tagged_time {B = Unit {0}} (λ u. ⊤) (λ u. []) 0 (λ u. Keep)
keep_form = record { whole = λ u f. tt; written = λ u. refl; parts = nothing_after 0 (omega arith) }

server_form : Form tagged_time {B = Unit {0}} (λ u. ⊤) (λ u. []) 1 (λ u. Server)
server_form = record { whole = λ u f. tt; written = λ u. refl; parts = nothing_after 1 (omega arith) }

client_form : Form tagged_time IsWordMoment moment 2 Client
client_form = record { whole = λ m f. f; written = λ m. refl; parts = client_parts }

pub keep_read : {a b : Option (List ℕ)} {n : ℕ} → Reads IsWord word a n b → n ≡ 0 → Reads IsTime set_time a Keep b
keep_read {b} f e = form_read tagged_time keep_form (rw e at f) (nothing_there b)

pub server_read : {a b : Option (List ℕ)} {n : ℕ} → Reads IsWord word a n b → n ≡ 1 → Reads IsTime set_time a Server b
server_read {b} f e = form_read tagged_time server_form (rw e at f) (nothing_there b)

pub client_read : {a b c : Option (List ℕ)} {n : ℕ} {m : Moment} → Reads IsWord word a n b → n ≡ 2 → Reads IsWordMoment moment b m c → Reads IsTime set_time a (Client m) c
client_read f e g = form_read tagged_time client_form (rw e at f) g

pub no_such_time : {a b c : Option (List ℕ)} {n : ℕ} {x : SetTime} → Reads IsWord word a n b → 2 < n → c ≡ None → Reads IsTime set_time a x c
no_such_time {n = n} f h gone = form_missed tagged_time f others gone
  where
    others : (y : SetTime) → IsTime y → n ≡ time_tag y → ⊥
    others Keep f e = omega (arith, e, h)
    others Server f e = omega (arith, e, h)
    others (Client m) f e = omega (arith, e, h)

-- ---- attributes

abbrev Six : Type 0
Six = ((((Option ℕ × Option ℕ) × Option ℕ) × Option ℕ) × SetTime) × SetTime

abbrev AreSix : Six → Type 0
AreSix p = ((((IsOptional IsWord p.0.0.0.0.0 × IsOptional IsWord p.0.0.0.0.1) × IsOptional IsWord p.0.0.0.1) × IsOptional IsDoubleWord p.0.0.1) × IsTime p.0.1) × IsTime p.1

abbrev six : Six → List ℕ
six p = optional word p.0.0.0.0.0 ++ optional word p.0.0.0.0.1 ++ optional word p.0.0.0.1 ++ optional double_word p.0.0.1 ++ set_time p.0.1 ++ set_time p.1

abbrev with_six : Six → SetWhat
with_six p = record { mode = p.0.0.0.0.0; uid = p.0.0.0.0.1; gid = p.0.0.0.1; size = p.0.0.1; atime = p.0.1; mtime = p.1 }

pub made_set_what : Made AreSix six IsSetWhat set_what with_six
made_set_what = record {
  whole = λ p f. record { mode = f.0.0.0.0.0; uid = f.0.0.0.0.1; gid = f.0.0.0.1; size = f.0.0.1; atime = f.0.1; mtime = f.1 };
  spelled = λ p. refl;
  parts = λ s f. record {
    part = (((((s.mode, s.uid), s.gid), s.size), s.atime), s.mtime);
    fits = (((((f.mode, f.uid), f.gid), f.size), f.atime), f.mtime);
    same = refl;
  };
}

pub one_id : ReadsOne (IsOptional IsWord) (optional word)
one_id = one_optional one_word

-- ---- how files are created

abbrev how_tag : How → ℕ
how_tag (Unchecked s) = 0
how_tag (Guarded s) = 1
how_tag (Exclusive verifier) = 2

abbrev how_after : How → List ℕ
how_after (Unchecked s) = set_what s
how_after (Guarded s) = set_what s
how_after (Exclusive verifier) = verifier

abbrev tagged_how : Tagged IsHow create_how
tagged_how = record { tag = how_tag; after = how_after; small = small; spelled = spelled }
  where
    small : (x : How) → IsHow x → how_tag x < 2 ^ 32
    small (Unchecked s) f = omega arith
    small (Guarded s) f = omega arith
    small (Exclusive verifier) f = omega arith

    spelled : (x : How) → create_how x ≡ word (how_tag x) ++ how_after x
    spelled (Unchecked s) = refl
    spelled (Guarded s) = refl
    spelled (Exclusive verifier) = refl

attributes_parts : (n : ℕ) → n ≤ 1 → (x : How) → IsHow x → n ≡ how_tag x → PartsOf IsSetWhat set_what (how_after x)
attributes_parts n h (Unchecked s) f e = record { part = s; fits = f; spelled = refl }
attributes_parts n h (Guarded s) f e = record { part = s; fits = f; spelled = refl }
attributes_parts n h (Exclusive verifier) f e = absurd (omega (arith, h, e))

verifier_parts : (x : How) → IsHow x → 2 ≡ how_tag x → PartsOf IsVerifier as_it_stands (how_after x)
verifier_parts (Unchecked s) f e = absurd (omega (arith, e))
verifier_parts (Guarded s) f e = absurd (omega (arith, e))
verifier_parts (Exclusive verifier) f e = record { part = verifier; fits = f; spelled = refl }

unchecked_form : Form tagged_how IsSetWhat set_what 0 Unchecked
unchecked_form = record { whole = λ s f. f; written = λ s. refl; parts = attributes_parts 0 (omega arith) }

guarded_form : Form tagged_how IsSetWhat set_what 1 Guarded
guarded_form = record { whole = λ s f. f; written = λ s. refl; parts = attributes_parts 1 (omega arith) }

exclusive_form : Form tagged_how IsVerifier as_it_stands 2 Exclusive
exclusive_form = record { whole = λ v f. f; written = λ v. refl; parts = verifier_parts }

pub unchecked_read : {a b c : Option (List ℕ)} {n : ℕ} {s : SetWhat} → Reads IsWord word a n b → n ≡ 0 → Reads IsSetWhat set_what b s c → Reads IsHow create_how a (Unchecked s) c
unchecked_read f e g = form_read tagged_how unchecked_form (rw e at f) g

pub guarded_read : {a b c : Option (List ℕ)} {n : ℕ} {s : SetWhat} → Reads IsWord word a n b → n ≡ 1 → Reads IsSetWhat set_what b s c → Reads IsHow create_how a (Guarded s) c
guarded_read f e g = form_read tagged_how guarded_form (rw e at f) g

pub exclusive_read : {a b c : Option (List ℕ)} {n : ℕ} {v : List ℕ} → Reads IsWord word a n b → n ≡ 2 → Reads IsVerifier as_it_stands b v c → Reads IsHow create_how a (Exclusive v) c
exclusive_read f e g = form_read tagged_how exclusive_form (rw e at f) g

pub no_such_how : {a b c : Option (List ℕ)} {n : ℕ} {x : How} → Reads IsWord word a n b → 2 < n → c ≡ None → Reads IsHow create_how a x c
no_such_how {n = n} f h gone = form_missed tagged_how f others gone
  where
    others : (y : How) → IsHow y → n ≡ how_tag y → ⊥
    others (Unchecked s) f e = omega (arith, e, h)
    others (Guarded s) f e = omega (arith, e, h)
    others (Exclusive verifier) f e = omega (arith, e, h)

-- ---- special nodes

abbrev node_tag : SpecialNode → ℕ
node_tag (Plain kind) = kind
node_tag (Device kind what major minor) = kind
node_tag (Other kind what) = kind

abbrev Numbered : Type 0
Numbered = (SetWhat × ℕ) × ℕ

abbrev IsNumbered : Numbered → Type 0
IsNumbered d = (IsSetWhat d.0.0 × IsWord d.0.1) × IsWord d.1

-- a device's attributes and its two numbers (specdata3)
abbrev numbered : Numbered → List ℕ
numbered d = set_what d.0.0 ++ word d.0.1 ++ word d.1

abbrev node_after : SpecialNode → List ℕ
node_after (Plain kind) = []
node_after (Device kind what major minor) = numbered ((what, major), minor)
node_after (Other kind what) = set_what what

node_range : (x : SpecialNode) → IsNode x → (1 ≤ node_tag x) × (node_tag x ≤ 7)
node_range (Plain kind) f = grind arith
node_range (Device kind what major minor) f = let k = f.0 in grind arith
node_range (Other kind what) f = let k = f.0 in grind arith

abbrev tagged_node : Tagged IsNode special_node
tagged_node = record { tag = node_tag; after = node_after; small = small; spelled = spelled }
  where
    small : (x : SpecialNode) → IsNode x → node_tag x < 2 ^ 32
    small x f = omega (arith, (node_range x f).1)

    spelled : (x : SpecialNode) → special_node x ≡ word (node_tag x) ++ node_after x
    spelled (Plain kind) = refl
    spelled (Device kind what major minor) = refl
    spelled (Other kind what) = refl

plain_parts : (n : ℕ) → IsPlainKind n → (x : SpecialNode) → IsNode x → n ≡ node_tag x → PartsOf {A = Unit {0}} (λ u. ⊤) (λ u. []) (node_after x)
plain_parts n h (Plain kind) f e = record { part = tt; fits = tt; spelled = refl }
plain_parts n h (Device kind what major minor) f e = let k = f.0 in absurd (grind (arith, h, k, e))
plain_parts n h (Other kind what) f e = let k = f.0 in absurd (grind (arith, h, k, e))

device_parts : (n : ℕ) → IsDeviceKind n → (x : SpecialNode) → IsNode x → n ≡ node_tag x → PartsOf IsNumbered numbered (node_after x)
device_parts n h (Plain kind) f e = absurd (grind (arith, h, f, e))
device_parts n h (Device kind what major minor) f e = record { part = ((what, major), minor); fits = ((f.1, f.2), f.3); spelled = refl }
device_parts n h (Other kind what) f e = let k = f.0 in absurd (grind (arith, h, k, e))

other_parts : (n : ℕ) → IsOtherKind n → (x : SpecialNode) → IsNode x → n ≡ node_tag x → PartsOf IsSetWhat set_what (node_after x)
other_parts n h (Plain kind) f e = absurd (grind (arith, h, f, e))
other_parts n h (Device kind what major minor) f e = let k = f.0 in absurd (grind (arith, h, k, e))
other_parts n h (Other kind what) f e = record { part = what; fits = f.1; spelled = refl }

plain_form : (n : ℕ) → IsPlainKind n → Form tagged_node {B = Unit {0}} (λ u. ⊤) (λ u. []) n (λ u. Plain n)
plain_form n h = record { whole = λ u f. h; written = λ u. refl; parts = plain_parts n h }

device_form : (n : ℕ) → IsDeviceKind n → Form tagged_node IsNumbered numbered n (λ d. Device n d.0.0 d.0.1 d.1)
device_form n h = record { whole = λ d f. (h, f.0.0, f.0.1, f.1); written = λ d. refl; parts = device_parts n h }

other_form : (n : ℕ) → IsOtherKind n → Form tagged_node IsSetWhat set_what n (λ s. Other n s)
other_form n h = record { whole = λ s f. (h, f); written = λ s. refl; parts = other_parts n h }

pub plain_12 : {n : ℕ} → 1 ≤ n → n < 3 → IsPlainKind n
plain_12 some few = grind (arith, some, few)

pub plain_5 : {n : ℕ} → n ≡ 5 → IsPlainKind n
plain_5 e = grind (arith, e)

pub device_34 : {n : ℕ} → 3 ≤ n → n < 5 → IsDeviceKind n
device_34 some few = grind (arith, some, few)

pub other_67 : {n : ℕ} → 6 ≤ n → n < 8 → IsOtherKind n
other_67 some few = grind (arith, some, few)

pub plain_read : {a b : Option (List ℕ)} {n : ℕ} → Reads IsWord word a n b → IsPlainKind n → Reads IsNode special_node a (Plain n) b
plain_read {b} {n} f h = form_read tagged_node (plain_form n h) f (nothing_there b)

pub device_read : {a b c : Option (List ℕ)} {n major minor : ℕ} {s : SetWhat} → Reads IsWord word a n b → IsDeviceKind n → Reads IsNumbered numbered b ((s, major), minor) c
    → Reads IsNode special_node a (Device n s major minor) c
device_read {n} f h g = form_read tagged_node (device_form n h) f g

pub other_read : {a b c : Option (List ℕ)} {n : ℕ} {s : SetWhat} → Reads IsWord word a n b → IsOtherKind n → Reads IsSetWhat set_what b s c → Reads IsNode special_node a (Other n s) c
other_read {n} f h g = form_read tagged_node (other_form n h) f g

pub no_such_node : {a b c : Option (List ℕ)} {n : ℕ} {x : SpecialNode} → Reads IsWord word a n b → (n < 1) ⊎ (7 < n) → c ≡ None → Reads IsNode special_node a x c
no_such_node f h gone = form_missed tagged_node f (λ y g e. let k = node_range y g in grind (arith, h, k, e)) gone
