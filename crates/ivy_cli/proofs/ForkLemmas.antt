-- The line of a fork proof, and what is told of it.
use Rattle.std.proofs.Common.{◌≡◌, ◌≢◌, ◌⊎◌, ℕ, ◌-◌, ◌<◌, ◌≤◌, Bool, true, false, cond, List, [], ◌++◌, codes, length, take, drop, Option, Some, None, Result, Ok, Err, refl, sym, ap, subst, ◌∙◌, inl, inr, arith, length-append, length-drop, take-append-drop}
use Rattle.std.specs.Fmt.{digits}
use Rattle.std.specs.Prelude.{IfOk}
use Rattle.std.proofs.lemmas.Bool.{cases_eq, cases_lt, lt-leb}
use Rattle.std.proofs.lemmas.List.{append-nil, length-take}
use Rattle.std.proofs.Math.Seq.{take-length}
use Rattle.ivy_base.specs.declared.memory.Memory.{Memory}
use Rattle.ivy_io.specs.Causes.{Rose}
use Rattle.ivy_io.specs.Known.{onto, then}
use Rattle.ivy_io.proofs.KnownLemmas.{onto-onto}
use Rattle.script_driver.specs.Run.{Ran, Ending, Ended, RefusedAt, refused, refused_text}
use Rattle.script_driver.specs.Told.{ran_of, TellsFront, TellsLess}
use Rattle.fork_proof.specs.declared.checking.Forked.{Forked}
use Rattle.fork_proof.specs.declared.fault.ProofFault.{ProofFault}
use Rattle.fork_proof.specs.declared.fault.ProofFault.TheVariants.{Memory as Lacks}
use Rattle.fork_proof.specs.Checks.{ShowsFork, ShowsNone}
use Rattle.fork_proof.proofs.Accepted.{shown_is_not_refused}
use Rattle.ivy_cli.specs.Forks.{fork_runs, forked_text, IsFork, Judges, Tells}
use Rattle.ivy_cli.specs.ProofLines.{are_digits, bytes_of, digits_of, most_digits, most_read, IsInput, TakesUpTo}
use Rattle.ivy_cli.specs.Streams.{Streams}
use Rattle.ivy_cli.proofs.LoadLemmas.{none_of}

pub takes_more : (most n : ℕ) (read : List ℕ) (before between left : Option (List ℕ)) → n ≡ length read → n ≤ most → before ≡ onto read between
    → TakesUpTo (most - n) between left → TakesUpTo most before left
takes_more most n read before between left size few is more =
    (read ++ more.0, omega (arith, size, few, more.1, length-append read more.0), is ∙ ap (onto read) more.2 ∙ onto-onto read more.0 left)

-- a line of too many digits is none
no_digits : (digits : List ℕ) → most_digits < length digits → are_digits digits ≡ false
no_digits digits long = rw (lt-leb (length digits) most_digits long) refl

long_digits : (ends : Bool) (input : List ℕ) → most_read ≤ length input → most_digits < length (cond ends (take (length input - 1) input) input)
long_digits true input long = omega (arith, long, length-take (length input - 1) input)
long_digits false input long = omega (arith, long)

too_long : (input : List ℕ) → most_read ≤ length input → bytes_of input ≡ None
too_long input long = rw (no_digits (digits_of input) (long_digits _ input long)) refl

-- what was read is as good as all that was left
pub reads_alike : (input rest : List ℕ) → (length input < most_read → rest ≡ []) → bytes_of (input ++ rest) ≡ bytes_of input
reads_alike input rest ends = elim (cases_lt (length input) most_read) [
  | inl short ↦ ap bytes_of (ap (λ (l : List ℕ). input ++ l) (ends short) ∙ append-nil input)
  | inr long ↦ too_long (input ++ rest) (omega (arith, long, length-append input rest)) ∙ sym (too_long input long)
]

-- what was read of a source is judged as all that it had left
pub all_read : (input : List ℕ) (before left : Option (List ℕ)) (ran : Ran) → IsInput input before left → Judges (bytes_of input) ran → fork_runs before ran
all_read input before None ran is judged = subst (λ (o : Option (List ℕ)). fork_runs o ran) (sym is.taken) tt
all_read input before (Some rest) ran is judged =
    subst (λ (o : Option (List ℕ)). fork_runs o ran) (sym is.taken)
    (subst (λ (o : Option (List ℕ)). Judges o ran) (sym (reads_alike input rest is.ends)) judged)

-- ---- what bytes show

-- bytes that fail a test show no fork
pub shows_none : (bytes : List ℕ) (fault : ProofFault) → ShowsNone bytes fault → (fault ≡ Lacks → ⊥) → (forked : Forked) → ShowsFork bytes forked → ⊥
shows_none bytes fault none other forked shows =
    other (shown_is_not_refused shows.proof fault shows.is.fits shows.shown (subst (λ (b : List ℕ). ShowsNone b fault) shows.is.spelled none))

pub fork_told : (bytes : List ℕ) (forked : Forked) (r : Result (List ℕ) Memory) → ShowsFork bytes forked → IfOk r (λ text. text ≡ forked_text forked) → IfOk r (Tells bytes)
fork_told bytes forked (Ok text) shows is = inl (forked, shows, is)
fork_told bytes forked (Err e) shows is = tt

pub none_told : (bytes said : List ℕ) (fault : ProofFault) (r : Result (List ℕ) Memory) → ShowsNone bytes fault → (fault ≡ Lacks → ⊥) → said ≡ codes "no proof\n"
    → IfOk r (λ text. text ≡ said) → IfOk r (Tells bytes)
none_told bytes said fault (Ok text) none other same is = inr (shows_none bytes fault none other, is ∙ same)
none_told bytes said fault (Err e) none other same is = tt

-- an input that is these bytes is judged by what is told of them
pub judged : (input slice bytes text : List ℕ) (found : Option (List ℕ)) → found ≡ bytes_of input → found ≡ Some bytes → slice ≡ bytes → Tells slice text
    → Judges (bytes_of input) (ran_of text Ended)
judged input slice bytes text found of is same tells =
    subst (λ (o : Option (List ℕ)). Judges o (ran_of text Ended)) (sym is ∙ of) (subst (λ (b : List ℕ). Tells b text) same tells, refl)

-- ---- a refusal

refused_one : refused_text 1 ≡ codes "refused 1\n"
unfolding digits
refused_one = refl

pub whole_refusal : (bytes : List ℕ) (held holds : Option (List ℕ)) → bytes ≡ codes "refused 1\n" → holds ≡ then held bytes → holds ≡ then held (refused_text 1)
whole_refusal bytes held holds same whole = whole ∙ ap (then held) (same ∙ sym refused_one)

pub part_of_refusal : (bytes : List ℕ) (held holds : Option (List ℕ)) → bytes ≡ codes "refused 1\n" → (k : ℕ) × (k < length bytes) × (holds ≡ then held (take k bytes))
    → (k : ℕ) × (k < length (refused_text 1)) × (holds ≡ then held (take k (refused_text 1)))
part_of_refusal bytes held holds same part =
    let is : bytes ≡ refused_text 1 = same ∙ sym refused_one in
    (part.0, subst (λ (b : List ℕ). part.0 < length b) is part.1, part.2 ∙ ap (λ (b : List ℕ). then held (take part.0 b)) is)

-- ---- what the sink was told

module _ (runs : Ran → Type 0) (text : List ℕ) (ending : Ending) (run : runs (ran_of text ending)) (held holds : Option (List ℕ)) where
  abbrev front_told : (k : ℕ) → holds ≡ then held (take k text) → TellsFront runs held holds
  front_told k sink = record {
    told = take k text;
    untold = drop k text;
    ending = ending;
    run = subst (λ (s : List ℕ). runs (ran_of s ending)) (sym (take-append-drop k text)) run;
    sink = sink;
  }

  less_told : (k : ℕ) → k < length text → holds ≡ then held (take k text) → TellsLess runs held holds
  less_told k short sink = record { front = front_told k sink; less = omega (arith, short, length-drop k text) }

  whole_told : holds ≡ then held text → TellsFront runs held holds
  whole_told sink = front_told (length text) (sink ∙ ap (then held) (sym (take-length text)))

module _ (status : ℕ) (before after : Streams) (takes : TakesUpTo most_read before.left after.left) (reads : before.reads ≤ after.reads) where
  -- what an input shows was told
  pub shown_told : (text : List ℕ) → fork_runs before.left (ran_of text Ended)
      → (status ≡ 0) ⊎ (status ≡ 5) ⊎ (status ≡ 6)
      → (status ≡ 0 → after.held ≡ then before.held text)
      → (status ≢ 0 → (k : ℕ) × (k < length text) × (after.held ≡ then before.held (take k text)))
      → (status ≡ 5 → Rose before.writes after.writes) → before.writes ≤ after.writes → IsFork status before after
  shown_told text run statuses whole part failed later = record {
    statuses = elim statuses [ inl zero ↦ inl zero | inr more ↦ inr (inr (inr more)) ];
    ended = λ zero. record { told = text; run = run; sink = whole zero };
    refused = λ three. absurd (none_of statuses three (λ e. omega (arith, e)) (λ e. omega (arith, e)) (λ e. omega (arith, e)));
    read_fault = λ four. absurd (none_of statuses four (λ e. omega (arith, e)) (λ e. omega (arith, e)) (λ e. omega (arith, e)));
    untold = λ four. absurd (none_of statuses four (λ e. omega (arith, e)) (λ e. omega (arith, e)) (λ e. omega (arith, e)));
    write_fault = failed;
    less = λ five. (let p = part (λ zero. omega (arith, five, zero)) in less_told (fork_runs before.left) text Ended run before.held after.held p.0 p.1 p.2);
    front = elim (cases_eq status 0) [ inl zero ↦ inr (whole_told (fork_runs before.left) text Ended run before.held after.held (whole zero)) | inr other ↦ (let p = part other in inr (front_told (fork_runs before.left) text Ended run before.held after.held p.0 p.2)) ];
    complete = λ read wrote. elim statuses [
      | inl zero ↦ inl (ran_of text Ended, run, zero, whole zero)
      | inr more ↦ elim more [ inl five ↦ absurd (wrote (failed five)) | inr six ↦ inr six ]
    ];
    takes = takes;
    reads = reads;
    writes = later;
  }

  -- that an input is refused was told
  pub refusal_told : fork_runs before.left (refused 1)
      → (status ≡ 3) ⊎ (status ≡ 5) ⊎ (status ≡ 6)
      → (status ≡ 3 → after.held ≡ then before.held (refused_text 1))
      → (status ≢ 3 → (k : ℕ) × (k < length (refused_text 1)) × (after.held ≡ then before.held (take k (refused_text 1))))
      → (status ≡ 5 → Rose before.writes after.writes) → before.writes ≤ after.writes → IsFork status before after
  refusal_told run statuses whole part failed later = record {
    statuses = elim statuses [ inl three ↦ inr (inl three) | inr more ↦ inr (inr (inr more)) ];
    ended = λ zero. absurd (none_of statuses zero (λ e. omega (arith, e)) (λ e. omega (arith, e)) (λ e. omega (arith, e)));
    refused = λ three. record { told = refused_text 1; run = run; sink = whole three };
    read_fault = λ four. absurd (none_of statuses four (λ e. omega (arith, e)) (λ e. omega (arith, e)) (λ e. omega (arith, e)));
    untold = λ four. absurd (none_of statuses four (λ e. omega (arith, e)) (λ e. omega (arith, e)) (λ e. omega (arith, e)));
    write_fault = failed;
    less = λ five. (let p = part (λ three. omega (arith, five, three)) in less_told (fork_runs before.left) (refused_text 1) (RefusedAt 1) run before.held after.held p.0 p.1 p.2);
    front = elim (cases_eq status 3) [ inl three ↦ inr (whole_told (fork_runs before.left) (refused_text 1) (RefusedAt 1) run before.held after.held (whole three)) | inr other ↦ (let p = part other in inr (front_told (fork_runs before.left) (refused_text 1) (RefusedAt 1) run before.held after.held p.0 p.2)) ];
    complete = λ read wrote. elim statuses [
      | inl three ↦ inl (refused 1, run, three, whole three)
      | inr more ↦ elim more [ inl five ↦ absurd (wrote (failed five)) | inr six ↦ inr six ]
    ];
    takes = takes;
    reads = reads;
    writes = later;
  }

  -- a read failed
  pub unread : status ≡ 4 → Rose before.reads after.reads → after.held ≡ before.held → after.writes ≡ before.writes → IsFork status before after
  unread four rose held writes = record {
    statuses = inr (inr (inl four));
    ended = λ zero. absurd (omega (arith, four, zero));
    refused = λ three. absurd (omega (arith, four, three));
    read_fault = λ _. rose;
    untold = λ _. held;
    write_fault = λ five. absurd (omega (arith, four, five));
    less = λ five. absurd (omega (arith, four, five));
    front = inl held;
    complete = λ read wrote. absurd (read rose);
    takes = takes;
    reads = reads;
    writes = omega (arith, writes);
  }

  -- memory ran out before anything was reported
  pub lacked : status ≡ 6 → after.held ≡ before.held → after.writes ≡ before.writes → IsFork status before after
  lacked six held writes = record {
    statuses = inr (inr (inr (inr six)));
    ended = λ zero. absurd (omega (arith, six, zero));
    refused = λ three. absurd (omega (arith, six, three));
    read_fault = λ four. absurd (omega (arith, six, four));
    untold = λ _. held;
    write_fault = λ five. absurd (omega (arith, six, five));
    less = λ five. absurd (omega (arith, six, five));
    front = inl held;
    complete = λ read wrote. inr six;
    takes = takes;
    reads = reads;
    writes = omega (arith, writes);
  }
