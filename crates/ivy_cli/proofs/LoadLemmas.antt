-- What a load tells, from what its play gave and from what the sink took.
use Rattle.std.proofs.Common.{◌≡◌, ◌≢◌, ◌⊎◌, ℕ, ◌<◌, ◌≤◌, List, [], ◌++◌, length, take, drop, Option, Some, None, length-drop, refl, sym, subst, ap, ◌∙◌, inl, inr, arith}
use Rattle.std.proofs.lemmas.List.{append-nil, take-append-drop}
use Rattle.std.proofs.lemmas.Bool.{cases_eq}
use Rattle.std.proofs.Math.Seq.{take-length}
use Rattle.ivy_io.specs.Causes.{Rose}
use Rattle.ivy_io.specs.Known.{then}
use Rattle.script_driver.specs.Run.{Ending, Ended, RefusedAt, LimitAt}
use Rattle.script_driver.specs.Told.{ran_of, TellsAll, TellsFront, TellsLess}
use Rattle.ivy_play.specs.Playing.{ivy_runs, IsFullOrTells, IsPlayed}
use Rattle.ivy_play.specs.Status.{status_of}
use Rattle.ivy_cli.specs.Generator.{script_of}
use Rattle.ivy_cli.specs.Summary.{summary_text}
use Rattle.ivy_cli.specs.Loads.{told_of, load_runs, IsLoaded, GivesSummary, GivesNone, IsLoad}

-- ---- bytes and statuses

pub nothing_more : (held : Option (List ℕ)) → held ≡ then held []
nothing_more None = refl
nothing_more (Some bytes) = ap Some (sym (append-nil bytes))

zero_is_ended : (ending : Ending) → 0 ≡ status_of ending → ending ≡ Ended
zero_is_ended Ended e = refl
zero_is_ended (RefusedAt n) e = absurd (omega (arith, e))
zero_is_ended (LimitAt n) e = absurd (omega (arith, e))

-- a status is none but these
pub none_of : {a b c x status : ℕ} → (status ≡ a) ⊎ (status ≡ b) ⊎ (status ≡ c) → status ≡ x → (x ≡ a → ⊥) → (x ≡ b → ⊥) → (x ≡ c → ⊥) → ⊥
none_of statuses is not_a not_b not_c = elim statuses [
  | inl a ↦ not_a (sym is ∙ a)
  | inr more ↦ elim more [ inl b ↦ not_b (sym is ∙ b) | inr c ↦ not_c (sym is ∙ c) ]
]

-- what ended otherwise tells nothing
none_told : (calls : ℕ) (text : List ℕ) (ending : Ending) → (0 ≡ status_of ending → ⊥) → told_of calls text ending ≡ []
none_told calls text Ended other = absurd (other refl)
none_told calls text (RefusedAt n) other = refl
none_told calls text (LimitAt n) other = refl

-- ---- a summary is told

module _ {seed calls : ℕ} {summary : List ℕ} (given : GivesSummary seed calls summary) where
  summary_run : load_runs seed calls (ran_of summary Ended)
  summary_run = (ran_of given.text Ended, given.run, ap (λ s. ran_of s Ended) given.is)

  abbrev summary_front : (k : ℕ) (held holds : Option (List ℕ)) → holds ≡ then held (take k summary) → TellsFront (load_runs seed calls) held holds
  summary_front k held holds sink = record {
    told = take k summary;
    untold = drop k summary;
    ending = Ended;
    run = subst (λ (s : List ℕ). load_runs seed calls (ran_of s Ended)) (sym (take-append-drop k summary)) summary_run;
    sink = sink;
  }

  summary_full : (status : ℕ) (held holds : Option (List ℕ)) → status ≡ 0 → holds ≡ then held summary → IsLoaded seed calls status held holds
  summary_full status held holds zero whole =
      let full = given.full in
      inl (full.0, full.1, zero ∙ sym (ap status_of full.2), whole ∙ ap (then held) (full.3 ∙ sym (ap (told_of calls full.0.text) full.2)))

  summary_less : (k : ℕ) (held holds : Option (List ℕ)) → k < length summary → holds ≡ then held (take k summary) → TellsLess (load_runs seed calls) held holds
  summary_less k held holds short sink = record { front = summary_front k held holds sink; less = omega (arith, short, length-drop k summary) }

  summary_told : (status : ℕ) (held holds : Option (List ℕ)) (wrote writes : ℕ)
      → (status ≡ 0) ⊎ (status ≡ 5) ⊎ (status ≡ 6)
      → (status ≡ 0 → holds ≡ then held summary)
      → (status ≢ 0 → (k : ℕ) × (k < length summary) × (holds ≡ then held (take k summary)))
      → (status ≡ 5 → Rose wrote writes) → wrote ≤ writes → IsLoad seed calls status held holds wrote writes
  summary_told status held holds wrote writes statuses whole part failed later = record {
    statuses = elim statuses [ inl zero ↦ inl zero | inr more ↦ inr (inr (elim more [ inl five ↦ inl five | inr six ↦ inr (inl six) ])) ];
    ended = λ zero. record { told = summary; run = summary_run; sink = whole zero };
    refused = λ three. absurd (none_of statuses three (λ e. omega (arith, e)) (λ e. omega (arith, e)) (λ e. omega (arith, e)));
    limited = λ seven. absurd (none_of statuses seven (λ e. omega (arith, e)) (λ e. omega (arith, e)) (λ e. omega (arith, e)));
    write_fault = failed;
    less = λ five. (let p = part (λ zero. omega (arith, five, zero)) in summary_less p.0 held holds p.1 p.2);
    front = elim (cases_eq status 0) [
      | inl zero ↦ inr (summary_front (length summary) held holds (whole zero ∙ ap (then held) (sym (take-length summary))))
      | inr other ↦ (let p = part other in inr (summary_front p.0 held holds p.2))
    ];
    complete = λ quiet. elim statuses [
      | inl zero ↦ summary_full status held holds zero (whole zero)
      | inr more ↦ elim more [ inl five ↦ absurd (quiet (failed five)) | inr six ↦ inr six ]
    ];
    later = later;
  }

  pub bytes_told : (bytes : List ℕ) (status : ℕ) (held holds : Option (List ℕ)) (wrote writes : ℕ) → bytes ≡ summary
      → (status ≡ 0) ⊎ (status ≡ 5) ⊎ (status ≡ 6)
      → (status ≡ 0 → holds ≡ then held bytes)
      → (status ≢ 0 → (k : ℕ) × (k < length bytes) × (holds ≡ then held (take k bytes)))
      → (status ≡ 5 → Rose wrote writes) → wrote ≤ writes → IsLoad seed calls status held holds wrote writes
  bytes_told bytes status held holds wrote writes same statuses whole part failed later =
      summary_told status held holds wrote writes statuses
      (λ zero. whole zero ∙ ap (then held) same)
      (λ other. (let p = part other in (p.0, subst (λ (b : List ℕ). p.0 < length b) same p.1, p.2 ∙ ap (λ (b : List ℕ). then held (take p.0 b)) same)))
      failed
      later

-- ---- nothing is reported

pub nothing_told : {seed calls status : ℕ} (held : Option (List ℕ)) (faults : ℕ) → GivesNone seed calls status → IsLoad seed calls status held held faults faults
nothing_told {seed} {calls} {status} held faults given = record {
  statuses = elim given.statuses [ inl three ↦ inr (inl three) | inr more ↦ inr (inr (inr more)) ];
  ended = λ zero. absurd (none_of given.statuses zero (λ e. omega (arith, e)) (λ e. omega (arith, e)) (λ e. omega (arith, e)));
  refused = λ three. (let r = given.refused three in (r.0, record { told = []; run = (ran_of r.1 (RefusedAt r.0), r.2, refl); sink = nothing_more held }));
  limited = λ seven. (let r = given.limited seven in (r.0, record { told = []; run = (ran_of r.1 (LimitAt r.0), r.2, refl); sink = nothing_more held }));
  write_fault = λ five. absurd (none_of given.statuses five (λ e. omega (arith, e)) (λ e. omega (arith, e)) (λ e. omega (arith, e)));
  less = λ five. absurd (none_of given.statuses five (λ e. omega (arith, e)) (λ e. omega (arith, e)) (λ e. omega (arith, e)));
  front = inl refl;
  complete = λ quiet. elim given.full [
    | inl full ↦ inl (
      full.0,
      full.1,
      full.2,
      nothing_more held ∙ ap (then held) (sym (none_told calls full.0.text full.0.ending
          (λ ended. none_of given.statuses (full.2 ∙ sym ended) (λ e. omega (arith, e)) (λ e. omega (arith, e)) (λ e. omega (arith, e))))),
    )
    | inr six ↦ inr six
  ];
  later = omega arith;
}

-- ---- what play gives, over a source and a sink whose counts never rise

never : Rose 0 0 → ⊥
never rose = omega (arith, rose)

some_is : {a b : List ℕ} → Some a ≡ Some b → a ≡ b
some_is e = cc e

-- what was reported after nothing is all that is held
all_held : (before text told : List ℕ) → before ≡ [] → Some text ≡ then (Some before) told → text ≡ told
all_held before text told empty sink = some_is sink ∙ ap (λ b. b ++ told) empty

run_told : (seed calls : ℕ) (source before text : List ℕ) (ending : Ending) → source ≡ script_of seed calls → before ≡ []
    → TellsAll ending (ivy_runs (Some source)) (Some before) (Some text) → ivy_runs (Some (script_of seed calls)) (ran_of text ending)
run_told seed calls source before text ending is empty t =
    subst (λ (script : List ℕ). ivy_runs (Some script) (ran_of text ending)) is
    (subst (λ (told : List ℕ). ivy_runs (Some source) (ran_of told ending)) (sym (all_held before text t.told empty t.sink)) t.run)

pub gives_summary : (seed calls status : ℕ) (source before text summary : List ℕ) → source ≡ script_of seed calls → before ≡ [] → status ≡ 0
    → TellsAll Ended (ivy_runs (Some source)) (Some before) (Some text)
    → (¬ Rose 0 0 → ¬ Rose 0 0 → IsPlayed source status (Some before) (Some text))
    → summary ≡ summary_text calls text → GivesSummary seed calls summary
gives_summary seed calls status source before text summary is empty zero ended complete sums = record {
  text = text;
  run = run_told seed calls source before text Ended is empty ended;
  is = sums;
  full = elim (complete never never) [
    | inl played ↦ (
      played.0,
      subst (λ (script : List ℕ). IsFullOrTells script played.0) is played.1,
      zero_is_ended played.0.ending (sym zero ∙ played.2),
      sums ∙ ap (summary_text calls) (all_held before text played.0.text empty played.3),
    )
    | inr six ↦ absurd (omega (arith, zero, six))
  ];
}

pub gives_none : (seed calls status : ℕ) (source before text : List ℕ) → source ≡ script_of seed calls → before ≡ [] → (status ≡ 0 → ⊥)
    → (status ≡ 0) ⊎ (status ≡ 3) ⊎ (status ≡ 4) ⊎ (status ≡ 5) ⊎ (status ≡ 6) ⊎ (status ≡ 7)
    → (status ≡ 3 → (n : ℕ) × TellsAll (RefusedAt n) (ivy_runs (Some source)) (Some before) (Some text))
    → (status ≡ 7 → (n : ℕ) × TellsAll (LimitAt n) (ivy_runs (Some source)) (Some before) (Some text))
    → (status ≡ 4 → Rose 0 0) → (status ≡ 5 → Rose 0 0)
    → (¬ Rose 0 0 → ¬ Rose 0 0 → IsPlayed source status (Some before) (Some text))
    → GivesNone seed calls status
gives_none seed calls status source before text is empty other statuses refused limited read write complete = record {
  statuses = elim statuses [
    | inl zero ↦ absurd (other zero)
    | inr a ↦ elim a [
      | inl three ↦ inl three
      | inr b ↦ elim b [
        | inl four ↦ absurd (never (read four))
        | inr c ↦ elim c [ inl five ↦ absurd (never (write five)) | inr d ↦ inr d ]
      ]
    ]
  ];
  refused = λ three. (let r = refused three in (r.0, text, run_told seed calls source before text (RefusedAt r.0) is empty r.1));
  limited = λ seven. (let r = limited seven in (r.0, text, run_told seed calls source before text (LimitAt r.0) is empty r.1));
  full = elim (complete never never) [
    | inl played ↦ inl (played.0, subst (λ (script : List ℕ). IsFullOrTells script played.0) is played.1, played.2)
    | inr six ↦ inr six
  ];
}

pub out_of_memory : (seed calls status : ℕ) → status ≡ 6 → GivesNone seed calls status
out_of_memory seed calls status six = record {
  statuses = inr (inl six);
  refused = λ three. absurd (omega (arith, six, three));
  limited = λ seven. absurd (omega (arith, six, seven));
  full = inr six;
}
