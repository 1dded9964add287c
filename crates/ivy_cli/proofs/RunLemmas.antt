-- What the program does, from what its calls give.
use Rattle.std.proofs.Common.{◌≡◌, ◌≢◌, ◌⊎◌, ℕ, ◌<◌, ◌≤◌, Bool, true, false, List, length, take, Option, Some, None, Result, Ok, Err, refl, sym, subst, ap, ◌∙◌, inl, inr, arith}
use Rattle.std.specs.Prelude.{IfOk}
use Rattle.std.proofs.Math.Seq.{take-length}
use Rattle.hash_signature_model.specs.Signer.{Signer}
use Rattle.ivy_base.specs.declared.memory.Memory.{Memory}
use Rattle.ivy_io.specs.Causes.{Rose}
use Rattle.ivy_io.specs.Faults.{Refuses}
use Rattle.ivy_io.specs.Known.{then}
use Rattle.ivy_io.specs.declared.open_fault.OpenFault.{OpenFault}
use Rattle.ivy_io.specs.declared.open_fault.OpenFault.TheVariants as refusal
use Rattle.ivy_io.specs.declared.fault.SinkFault.{SinkFault}
use Rattle.ivy_io.specs.declared.fault.SinkFault.TheVariants as sink
use Rattle.ivy_agent.specs.Holders.{Holder}
use Rattle.ivy_serving.specs.declared.fault.ServeFault.{ServeFault}
use Rattle.ivy_serving.specs.declared.fault.ServeFault.TheVariants as fault
use Rattle.ivy_serving.specs.Jobs.{ServingKind}
use Rattle.ivy_serving.specs.Serving.{FailsAfter, PortsKind}
use Rattle.ivy_service.specs.Service.{Around, Goes, Serves, ServiceAsked, ServiceKind, status_refused, status_served, status_untold}
use Rattle.ivy_service.specs.Service.{idle, unheard, untold, ungated, served, no_keeper, unopened, given_back, lost}
use Rattle.ivy_service.specs.Service as service
use Rattle.ivy_crowd.specs.Crowds.{HasCome}
use Rattle.ivy_crowd.specs.Crowds as crowd
use Rattle.ivy_crowd.specs.declared.tally.Tally.{Tally}
use Rattle.ivy_cli.specs.declared.words.Asked.{Asked}
use Rattle.ivy_cli.specs.declared.words.Asked.TheVariants as asked
use Rattle.ivy_cli.specs.declared.words.Participant.{Participant}
use Rattle.ivy_cli.specs.Crowds.{IsCrowd, IsTold, tally_text}
use Rattle.ivy_cli.specs.Loads.{IsLoad}
use Rattle.ivy_cli.specs.Forks.{IsFork}
use Rattle.ivy_cli.specs.Streams.{Streams}
use Rattle.ivy_cli.specs.Runs.{Does, EndsWell, IsPlay, IsUsage, Outside, crowd_asked, serves_over, service_asked}
use Rattle.ivy_cli.specs.Words.{AskService, asked_of}
use Rattle.ivy_cli.proofs.LoadLemmas.{nothing_more}
use Rattle.ivy_cli.proofs.WordLemmas.{IsOfService, of_service}

-- ---- the usage line

pub whole_line : (line bytes : List ℕ) (held holds : Option (List ℕ)) → bytes ≡ line → holds ≡ then held bytes → (k : ℕ) × (k ≤ length line) × (holds ≡ then held (take k line))
whole_line line bytes held holds same whole = (length line, omega arith, whole ∙ ap (then held) (same ∙ sym (take-length line)))

pub part_of_line : (line bytes : List ℕ) (held holds : Option (List ℕ)) → bytes ≡ line → (k : ℕ) × (k < length bytes) × (holds ≡ then held (take k bytes))
    → (k : ℕ) × (k ≤ length line) × (holds ≡ then held (take k line))
part_of_line line bytes held holds same part = (part.0, omega (arith, part.1, ap length same), part.2 ∙ ap (λ (b : List ℕ). then held (take part.0 b)) same)

-- memory ran out before anything was reported
untold_usage : (streams : Streams) → IsUsage 6 streams streams
untold_usage streams = record {
  ends = inr refl;
  told = λ two. absurd (omega (arith, two));
  front = (0, omega arith, nothing_more streams.held);
  writes = omega arith;
}

-- ---- a crowd

pub is_told : {C : Type 0} (wanted : crowd.Asked C) (r : Result (List ℕ) Memory) (tally : Tally) → HasCome wanted tally → IfOk r (λ text. text ≡ tally_text tally) → IfOk r (IsTold wanted)
is_told wanted (Ok text) tally come is = record { tally = tally; has_come = come; lines = is }
is_told wanted (Err e) tally come is = tt

pub told_crowd : {C : Type 0} (wanted : crowd.Asked C) (text bytes : List ℕ) (status : ℕ) (held holds : Option (List ℕ)) (wrote writes : ℕ) → IsTold wanted text → bytes ≡ text
    → (status ≡ 0) ⊎ (status ≡ 5) ⊎ (status ≡ 6)
    → (status ≡ 0 → holds ≡ then held bytes)
    → (status ≢ 0 → (k : ℕ) × (k < length bytes) × (holds ≡ then held (take k bytes)))
    → (status ≡ 5 → Rose wrote writes) → wrote ≤ writes → IsCrowd wanted status held holds wrote writes
told_crowd wanted text bytes status held holds wrote writes told same statuses whole part failed later = record {
  statuses = statuses;
  ended = λ zero. (text, told, whole zero ∙ ap (then held) same);
  write_fault = failed;
  less = λ other. (let p = part other in
      inr (text, told, p.0, subst (λ (b : List ℕ). p.0 < length b) same p.1, p.2 ∙ ap (λ (b : List ℕ). then held (take p.0 b)) same));
  later = later;
}

pub untold_crowd : {C : Type 0} (wanted : crowd.Asked C) (held : Option (List ℕ)) (faults : ℕ) → IsCrowd wanted 6 held held faults faults
untold_crowd wanted held faults = record {
  statuses = inr (inr refl);
  ended = λ zero. absurd (omega (arith, zero));
  write_fault = λ five. absurd (omega (arith, five));
  less = λ other. inl refl;
  later = omega arith;
}

-- ---- a service

pub goes_as : {P Ks K Q W C : Type 0} (kind : ServiceKind P Ks K Q W C) (port : ℕ) (name own : List ℕ) (grown signer : Signer) (before : service.Outside P Ks C) (status : ℕ)
    (after : service.Outside P Ks C) → name ≡ own → grown ≡ signer → Goes kind (record { port = port; name = name; signer = grown }) before status after
    → Goes kind (record { port = port; name = own; signer = signer }) before status after
goes_as kind port name own grown signer before status after named is goes =
    subst (λ (s : Signer). Goes kind (record { port = port; name = own; signer = s }) before status after) is
    (subst (λ (n : List ℕ). Goes kind (record { port = port; name = n; signer = grown }) before status after) named goes)

-- memory ran out, and nothing was touched
pub goes_nowhere : {P Ks K Q W C : Type 0} (kind : ServiceKind P Ks K Q W C) (wanted : ServiceAsked) (around : Around P) (keepers : Ks) (clock : C)
    → Goes kind wanted (record { around = around; keepers = keepers; clock = clock }) 6 (record { around = around; keepers = keepers; clock = clock })
goes_nowhere kind wanted around keepers clock = no_keeper refusal.Memory refl

-- a status is none of other words, and where nothing failed it is 0 or 6
abbrev IsOther : ℕ → Type 0
IsOther status = status ≡ 2 → ⊥

abbrev IsWell : ℕ → Type 0
IsWell status = (status ≡ 0) ⊎ (status ≡ 6)

refused_other : (why : OpenFault) → IsOther (status_refused why)
refused_other refusal.Failed e = omega (arith, e)
refused_other refusal.Memory e = omega (arith, e)

untold_other : (why : SinkFault) → IsOther (status_untold why)
untold_other sink.Failed e = omega (arith, e)
untold_other sink.Memory e = omega (arith, e)

served_other : (why : Result Unit ServeFault) (lacked : Bool) → IsOther (status_served why lacked)
served_other (Ok done) false e = omega (arith, e)
served_other (Ok done) true e = omega (arith, e)
served_other (Err fault.Failed) lacked e = omega (arith, e)
served_other (Err fault.Memory) lacked e = omega (arith, e)
served_other (Err fault.NoPart) lacked e = omega (arith, e)

refused_well : (why : OpenFault) → (why ≡ refusal.Failed → ⊥) → IsWell (status_refused why)
refused_well refusal.Failed never = absurd (never refl)
refused_well refusal.Memory never = inr refl

untold_well : (why : SinkFault) → (why ≡ sink.Failed → ⊥) → IsWell (status_untold why)
untold_well sink.Failed never = absurd (never refl)
untold_well sink.Memory never = inr refl

served_well : (why : Result Unit ServeFault) (lacked : Bool) (before listening now : ℕ) → before ≤ listening → FailsAfter why listening now → ¬ Rose before now
    → IsWell (status_served why lacked)
served_well (Ok done) false before listening now later fails quiet = inl refl
served_well (Ok done) true before listening now later fails quiet = inr refl
served_well (Err fault.Failed) lacked before listening now later fails quiet = absurd (quiet (omega (arith, later, fails)))
served_well (Err fault.Memory) lacked before listening now later fails quiet = inr refl
served_well (Err fault.NoPart) lacked before listening now later fails quiet = inr refl

-- a refusal that failed raised the count
refusal_rose : {S : Type 0} (faults : S → ℕ) (old new : S) (why : OpenFault) → Refuses faults old new why → why ≡ refusal.Failed → Rose (faults old) (faults new)
refusal_rose faults old new why refuses failed = subst (Refuses faults old new) failed refuses

module _ {P K Q W C : Type 0} (ports : PortsKind P Q W) (serving : ServingKind K Signer Q W C) (moment : C → Option (ℕ × ℕ)) (port : ℕ) (clock : C) (opening : Holder K Signer)
    (before : Around P) where
  serves_other : (last : Option (Holder K Signer)) (status : ℕ) (after : Around P) → Serves ports serving moment port clock opening before last status after → IsOther status
  serves_other _ _ _ idle e = omega (arith, e)
  serves_other _ _ _ (unheard why refuses) e = refused_other why e
  serves_other _ _ _ (untold why heard told) e = untold_other why e
  serves_other _ _ _ (ungated heard told) e = omega (arith, e)
  serves_other _ _ _ (served outcome heard told has) e = served_other outcome.why outcome.lacked e

  serves_well : (last : Option (Holder K Signer)) (status : ℕ) (after : Around P) → Serves ports serving moment port clock opening before last status after
      → ¬ Rose before.writes after.writes → ¬ Rose (ports.faults before.ports) (ports.faults after.ports) → IsWell status
  serves_well _ _ _ idle wrote quiet = inr refl
  serves_well _ _ _ (unheard {now = now} why refuses) wrote quiet =
      refused_well why (λ failed. quiet (refusal_rose ports.faults before.ports now why refuses.cause failed))
  serves_well _ _ _ (untold why heard told) wrote quiet = untold_well why (λ failed. wrote (told.cause failed))
  serves_well _ _ _ (ungated heard told) wrote quiet = inr refl
  serves_well _ _ _ (served {listening = listening} {after = after} outcome heard told has) wrote quiet =
      served_well outcome.why outcome.lacked (ports.faults before.ports) (ports.faults listening) (ports.faults after.ports) heard.faults has.counts.failed quiet

module _ {P Ks K Q W C : Type 0} (kind : ServiceKind P Ks K Q W C) (wanted : ServiceAsked) (before : service.Outside P Ks C) where
  goes_other : (status : ℕ) (after : service.Outside P Ks C) → Goes kind wanted before status after → IsOther status
  goes_other _ _ (no_keeper why refuses) e = refused_other why e
  goes_other _ _ (unopened why has takes rose) e = refused_other why e
  goes_other status _ (given_back has opened serves takes) e = serves_other _ _ _ _ _ _ _ _ _ _ serves e
  goes_other status _ (lost has opened serves) e = serves_other _ _ _ _ _ _ _ _ _ _ serves e

  goes_well : (status : ℕ) (after : service.Outside P Ks C) → Goes kind wanted before status after
      → ¬ Rose before.around.writes after.around.writes → ¬ Rose (kind.ports.faults before.around.ports) (kind.ports.faults after.around.ports)
      → ¬ Rose (kind.keepers.faults before.keepers) (kind.keepers.faults after.keepers) → IsWell status
  goes_well _ _ (no_keeper {now = now} why refuses) wrote quiet kept =
      refused_well why (λ failed. kept (refusal_rose kind.keepers.faults before.keepers now why refuses failed))
  goes_well _ _ (unopened why has takes rose) wrote quiet kept = refused_well why (λ failed. kept (rose failed))
  goes_well status _ (given_back has opened serves takes) wrote quiet kept = serves_well _ _ _ _ _ _ _ _ _ _ serves wrote quiet
  goes_well status _ (lost has opened serves) wrote quiet kept = serves_well _ _ _ _ _ _ _ _ _ _ serves wrote quiet

-- ---- all forms

module _ {P Ks K Q W C : Type 0} (kind : ServiceKind P Ks K Q W C) (words found : Option Asked) (status : ℕ) (before after : Outside P Ks C) (read : found ≡ words) where
  module _ (form : Asked) (is : found ≡ Some form) where
    by_form : (a : Asked) → form ≡ a → Does kind (Some a) status before after → Does kind words status before after
    by_form a e does = subst (λ (o : Option Asked). Does kind o status before after) (ap Some (sym e) ∙ sym is ∙ read) does

    pub does_play : form ≡ asked.Play → IsPlay status before.streams after.streams
        → after.clock ≡ before.clock → after.ports ≡ before.ports → after.keepers ≡ before.keepers → Does kind words status before after
    unfolding Does
    does_play e played clock ports keepers = by_form asked.Play e (played, record { clock = clock; others = record { ports = ports; keepers = keepers } })

    pub does_load : (seed calls : ℕ) → form ≡ asked.Load seed calls
        → IsLoad seed calls status before.streams.held after.streams.held before.streams.writes after.streams.writes
        → after.streams.left ≡ before.streams.left → after.streams.reads ≡ before.streams.reads
        → after.clock ≡ before.clock → after.ports ≡ before.ports → after.keepers ≡ before.keepers → Does kind words status before after
    unfolding Does
    does_load seed calls e loaded left reads clock ports keepers = by_form (asked.Load seed calls) e
        (record { left = left; reads = reads }, loaded, record { clock = clock; others = record { ports = ports; keepers = keepers } })

    pub does_crowd : (threads calls : ℕ) → form ≡ asked.Crowd threads calls
        → IsCrowd (crowd_asked kind threads calls before.clock after.clock) status before.streams.held after.streams.held before.streams.writes after.streams.writes
        → after.streams.left ≡ before.streams.left → after.streams.reads ≡ before.streams.reads
        → after.ports ≡ before.ports → after.keepers ≡ before.keepers → Does kind words status before after
    unfolding Does
    does_crowd threads calls e come left reads ports keepers = by_form (asked.Crowd threads calls) e
        (record { left = left; reads = reads }, come, record { ports = ports; keepers = keepers })

    pub does_serve : (port : ℕ) (participant : Participant) → form ≡ asked.Serve port participant
        → Goes kind (service_asked port participant) (serves_over kind before) status (serves_over kind after)
        → after.streams.left ≡ before.streams.left → after.streams.reads ≡ before.streams.reads → Does kind words status before after
    unfolding Does
    does_serve port participant e goes left reads = by_form (asked.Serve port participant) e (record { left = left; reads = reads }, goes)

    pub does_fork : form ≡ asked.Fork → IsFork status before.streams after.streams
        → after.clock ≡ before.clock → after.ports ≡ before.ports → after.keepers ≡ before.keepers → Does kind words status before after
    unfolding Does
    does_fork e checked clock ports keepers = by_form asked.Fork e (checked, record { clock = clock; others = record { ports = ports; keepers = keepers } })

  pub does_usage : found ≡ None → IsUsage status before.streams after.streams
      → after.streams.left ≡ before.streams.left → after.streams.reads ≡ before.streams.reads
      → after.clock ≡ before.clock → after.ports ≡ before.ports → after.keepers ≡ before.keepers → Does kind words status before after
  unfolding Does
  does_usage none usage left reads clock ports keepers = subst (λ (o : Option Asked). Does kind o status before after) (sym none ∙ read)
      (record { left = left; reads = reads }, usage, record { clock = clock; others = record { ports = ports; keepers = keepers } })

-- memory ran out for the words
lacks : {P Ks K Q W C : Type 0} (kind : ServiceKind P Ks K Q W C) (found : Option Asked) (outside : Outside P Ks C) → IsOfService found → Does kind found 6 outside outside
unfolding Does
lacks kind (Some asked.Play) outside is = absurd is
lacks kind (Some (asked.Load seed calls)) outside is = absurd is
lacks kind (Some (asked.Crowd threads calls)) outside is = absurd is
lacks kind (Some (asked.Serve port participant)) outside is =
    (record { left = refl; reads = refl }, goes_nowhere kind (service_asked port participant) (serves_over kind outside).around outside.keepers outside.clock)
lacks kind (Some asked.Fork) outside is = absurd is
lacks kind None outside is =
    (record { left = refl; reads = refl }, untold_usage outside.streams, record { clock = refl; others = record { ports = refl; keepers = refl } })

pub does_lack : {P Ks K Q W C : Type 0} (kind : ServiceKind P Ks K Q W C) (words : List (List ℕ)) (outside : Outside P Ks C) → AskService words → Does kind (asked_of words) 6 outside outside
does_lack kind words outside is = lacks kind (asked_of words) outside (of_service words is)

-- ---- statuses

play_other : {status : ℕ} {before after : Streams} → IsPlay status before after → IsOther status
play_other played e = elim played.statuses [
  | inl x ↦ omega (arith, x, e)
  | inr a ↦ elim a [
    | inl x ↦ omega (arith, x, e)
    | inr b ↦ elim b [
      | inl x ↦ omega (arith, x, e)
      | inr d ↦ elim d [ inl x ↦ omega (arith, x, e) | inr f ↦ elim f [ inl x ↦ omega (arith, x, e) | inr x ↦ omega (arith, x, e) ] ]
    ]
  ]
]

load_other : {seed calls status : ℕ} {held holds : Option (List ℕ)} {wrote writes : ℕ} → IsLoad seed calls status held holds wrote writes → IsOther status
load_other loaded e = elim loaded.statuses [
  | inl x ↦ omega (arith, x, e)
  | inr a ↦ elim a [
    | inl x ↦ omega (arith, x, e)
    | inr b ↦ elim b [ inl x ↦ omega (arith, x, e) | inr d ↦ elim d [ inl x ↦ omega (arith, x, e) | inr x ↦ omega (arith, x, e) ] ]
  ]
]

fork_other : {status : ℕ} {before after : Streams} → IsFork status before after → IsOther status
fork_other checked e = elim checked.statuses [
  | inl x ↦ omega (arith, x, e)
  | inr a ↦ elim a [
    | inl x ↦ omega (arith, x, e)
    | inr b ↦ elim b [ inl x ↦ omega (arith, x, e) | inr d ↦ elim d [ inl x ↦ omega (arith, x, e) | inr x ↦ omega (arith, x, e) ] ]
  ]
]

module _ {C : Type 0} (wanted : crowd.Asked C) {status : ℕ} {held holds : Option (List ℕ)} {wrote writes : ℕ} (come : IsCrowd wanted status held holds wrote writes) where
  crowd_other : IsOther status
  crowd_other e = elim come.statuses [ inl x ↦ omega (arith, x, e) | inr a ↦ elim a [ inl x ↦ omega (arith, x, e) | inr x ↦ omega (arith, x, e) ] ]

  crowd_well : ¬ Rose wrote writes → IsWell status
  crowd_well quiet = elim come.statuses [ inl x ↦ inl x | inr a ↦ elim a [ inl x ↦ absurd (quiet (come.write_fault x)) | inr x ↦ inr x ] ]

module _ {P Ks K Q W C : Type 0} (kind : ServiceKind P Ks K Q W C) (status : ℕ) (before after : Outside P Ks C) where
  -- what was done isn't what other words ask for, unless there was no form
  pub none_asked : (words : Option Asked) → Does kind words status before after → status ≡ 2 → words ≡ None
  unfolding Does
  none_asked (Some asked.Play) does e = absurd (play_other does.0 e)
  none_asked (Some (asked.Load seed calls)) does e = absurd (load_other does.1 e)
  none_asked (Some (asked.Crowd threads calls)) does e = absurd (crowd_other (crowd_asked kind threads calls before.clock after.clock) does.1 e)
  none_asked (Some (asked.Serve port participant)) does e =
      absurd (goes_other kind (service_asked port participant) (serves_over kind before) status (serves_over kind after) does.1 e)
  none_asked (Some asked.Fork) does e = absurd (fork_other does.0 e)
  none_asked None does e = refl

  -- and where no count rose, it ended as it should, but for memory
  pub ends_well : (words : Option Asked) → Does kind words status before after → ¬ Rose before.streams.writes after.streams.writes
      → ¬ Rose (kind.ports.faults before.ports) (kind.ports.faults after.ports) → ¬ Rose (kind.keepers.faults before.keepers) (kind.keepers.faults after.keepers)
      → EndsWell words status
  unfolding Does
  ends_well (Some asked.Play) does wrote quiet kept = tt
  ends_well (Some (asked.Load seed calls)) does wrote quiet kept = tt
  ends_well (Some (asked.Crowd threads calls)) does wrote quiet kept = crowd_well (crowd_asked kind threads calls before.clock after.clock) does.1 wrote
  ends_well (Some (asked.Serve port participant)) does wrote quiet kept =
      goes_well kind (service_asked port participant) (serves_over kind before) status (serves_over kind after) does.1 wrote quiet kept
  ends_well (Some asked.Fork) does wrote quiet kept = tt
  ends_well None does wrote quiet kept = tt
