-- The ways of a service, from what its calls give.
use Rattle.std.proofs.Common.{◌≡◌, true, false, ℕ, ◌+◌, ◌-◌, ◌^◌, ◌<◌, ◌≤◌, Bool, List, [], ◌∷◌, length, take, Option, Some, None, sym, subst, ap, ◌∙◌, arith, refl}
use Rattle.std.proofs.Math.Nat.{le-min, min-le_left, min-le_right}
use Rattle.std.specs.Prelude.{◌==◌, Err, IsErrOf, cond}
use Rattle.hash_signature_model.specs.Signer.{Signer}
use Rattle.ivy_base.specs.declared.operation.Moment.{Moment}
use Rattle.std.proofs.lemmas.Bool.{eqb-true}
use Rattle.ivy_io.specs.Causes.{Rose, counted}
use Rattle.ivy_io.specs.Faults.{Refuses, after_return}
use Rattle.ivy_io.specs.Known.{then}
use Rattle.ivy_io.specs.declared.open_fault.OpenFault.{OpenFault}
use Rattle.ivy_io.specs.declared.open_fault.OpenFault.TheVariants as refusal
use Rattle.ivy_io.specs.declared.fault.SinkFault.{SinkFault}
use Rattle.ivy_io.specs.declared.fault.SinkFault.TheVariants as sink
use Rattle.ivy_agent.specs.Holders.{Holder}
use Rattle.ivy_server.specs.Served.{moment_of}
use Rattle.ring_run.specs.Live.{LiveState, new_ring}
use Rattle.ivy_serving.specs.Jobs.{Gate, Pass, ServingKind}
use Rattle.ivy_serving.specs.Serving.{Outcome, PortsKind, ServesLinks, Stand, at_ports}
use Rattle.ivy_service.specs.Opening.{IsOpened}
use Rattle.ivy_service.specs.Service.{Around, AskedToListen, Goes, HasKeeper, HasServed, Outside, RefusesToListen, Serves, ServiceAsked, ServiceKind, TellsLine, TellsPart, serving_line, status_refused, status_served, status_untold}
use Rattle.ivy_service.specs.Service.{unheard, untold, ungated, served, no_keeper, unopened, given_back, lost}

-- the line that was written is that of the port
pub part_of_line : {P : Type 0} (port : ℕ) (before after : Around P) (line : List ℕ) (why : SinkFault) → line ≡ serving_line port
    → ((k : ℕ) × (k < length line) × (after.held ≡ then before.held (take k line)))
    → (IsErrOf {T = Unit {0}} (Err why) sink.Failed → Rose before.writes after.writes) → before.writes ≤ after.writes → TellsPart port why before after
part_of_line port before after line why is part cause later = record {
  count = part.0;
  less = subst (λ (l : List ℕ). part.0 < length l) is part.1;
  told = subst (λ (l : List ℕ). after.held ≡ then before.held (take part.0 l)) is part.2;
  cause = λ e. cause (ap (λ (w : SinkFault). Err w) e);
  writes = later;
}

pub whole_line : {P : Type 0} (port : ℕ) (before after : Around P) (line : List ℕ) → line ≡ serving_line port → after.held ≡ then before.held line
    → before.writes ≤ after.writes → TellsLine port before after
whole_line port before after line is told later = record { told = told ∙ ap (then before.held) is; writes = later }

module _ {P K Q W C : Type 0} (ports : PortsKind P Q W) (serving : ServingKind K Signer Q W C) (moment : C → Option (ℕ × ℕ)) where
  -- links that were served from one pass, over a new ring
  pub over_new_ring : (gate : Gate K Signer) (ring : LiveState) (m : Option (ℕ × ℕ)) (pass : Pass K Signer) (items : List (Pass K Signer)) (before : P)
      (now : Stand P K Signer) (outcome : Outcome) → ring ≡ new_ring 5 3 → items ≡ pass ∷ []
      → ServesLinks (at_ports ports serving moment (record { gate = gate; ring = ring; moment = m })) (record { ports = before; passes = items }) now outcome
      → ServesLinks (at_ports ports serving moment (record { gate = gate; ring = new_ring 5 3; moment = m })) (record { ports = before; passes = pass ∷ [] }) now outcome
  over_new_ring gate ring m pass items before now outcome new one serves =
      subst (λ (r : LiveState). ServesLinks (at_ports ports serving moment (record { gate = gate; ring = r; moment = m })) (record { ports = before; passes = pass ∷ [] }) now outcome) new
      (subst (λ (ps : List (Pass K Signer)). ServesLinks (at_ports ports serving moment (record { gate = gate; ring = ring; moment = m })) (record { ports = before; passes = ps }) now outcome) one serves)

  module _ (port : ℕ) (clock : C) (opening : Holder K Signer) (before : Around P) where
    abbrev pub Way : Option (Holder K Signer) → ℕ → Around P → Type 0
    Way = Serves ports serving moment port clock opening before

    pub way_unheard : (now : P) (why : OpenFault) (status : ℕ) → status ≡ status_refused why → RefusesToListen ports why before.ports now
        → Way (Some opening) status (record before { ports = now })
    way_unheard now why status e refuses = subst (λ (s : ℕ). Way (Some opening) s (record before { ports = now })) (sym e) (unheard why refuses)

    pub way_untold : (after : Around P) (why : SinkFault) (status : ℕ) → status ≡ status_untold why → AskedToListen ports before.ports after.ports
        → TellsPart port why before after → Way (Some opening) status after
    way_untold after why status e asked told = subst (λ (s : ℕ). Way (Some opening) s after) (sym e) (untold why asked told)

    pub way_ungated : (after : Around P) (listening : P) → after.ports ≡ listening → AskedToListen ports before.ports listening → TellsLine port before after
        → Way None 6 after
    way_ungated after listening e asked told = ungated (subst (λ (p : P). AskedToListen ports before.ports p) (sym e) asked) told

    pub way_served : (listening : P) (closed : Holder K Signer) (after : Around P) (status : ℕ)
        → ((outcome : Outcome) × (status ≡ status_served outcome.why outcome.lacked) × HasServed ports serving moment clock opening closed listening after.ports outcome)
        → AskedToListen ports before.ports listening → TellsLine port before after → Way (Some closed) status after
    way_served listening closed after status s asked told =
        subst (λ (n : ℕ). Way (Some closed) n after) (sym s.1) (served s.0 asked told s.2)

-- ---- the whole

-- the moment that the clock gave is that of the opening
pub opened_at : {K : Type 0} {saves : K → List ℕ → Bool → K → Type 0} {keeper : K} {signer : Signer} {opening : Holder K Signer} (given : ℕ × ℕ) (moment : Moment)
    → moment ≡ moment_of given → IsOpened saves keeper signer moment opening → IsOpened saves keeper signer (moment_of given) opening
opened_at {saves = saves} {keeper} {signer} {opening} given moment e opened = subst (λ (m : Moment). IsOpened saves keeper signer m opening) e opened

-- a keeper that failed raises the count when it is given back
pub rose_back : (failed before lent now : ℕ) → 1 ≤ failed → before ≤ lent → now ≡ after_return failed lent → Rose before now
rose_back failed before lent now some later back = by (failed == 0) refl back
  where
    by : (b : Bool) → (failed == 0) ≡ b → now ≡ cond b lent (counted lent) → Rose before now
    by true e is = let none = eqb-true failed 0 e in absurd (omega (arith, none, some))
    by false e is = subst (λ (m : ℕ). Rose before m) (sym is)
        (le-min {a = lent + 1} {b = 2 ^ 64 - 1} (let b = min-le_left (before + 1) (2 ^ 64 - 1) in omega (arith, b, later)) (min-le_right (before + 1) (2 ^ 64 - 1)))

module _ {P Ks K Q W C : Type 0} (kind : ServiceKind P Ks K Q W C) (asked : ServiceAsked) (before : Outside P Ks C) where
  pub goes_unlent : (now : Ks) (why : OpenFault) (status : ℕ) → status ≡ status_refused why → Refuses kind.keepers.faults before.keepers now why
      → Goes kind asked before status (record before { keepers = now })
  goes_unlent now why status e refuses = subst (λ (s : ℕ). Goes kind asked before s (record before { keepers = now })) (sym e) (no_keeper why refuses)

  pub goes_unopened : (keeper left : K) (lent now : Ks) (moment : ℕ × ℕ) (clock : C) (why : OpenFault) (status : ℕ) → status ≡ status_refused why
      → HasKeeper kind asked before keeper lent moment clock → kind.keepers.takes lent asked.name left now
      → (why ≡ refusal.Failed → Rose (kind.keepers.faults before.keepers) (kind.keepers.faults now))
      → Goes kind asked before status (record { around = before.around; keepers = now; clock = clock })
  goes_unopened keeper left lent now moment clock why status e has back cause =
      subst (λ (s : ℕ). Goes kind asked before s (record { around = before.around; keepers = now; clock = clock })) (sym e) (unopened why has back cause)

  abbrev pub WayOf : C → Holder K Signer → Option (Holder K Signer) → ℕ → Around P → Type 0
  WayOf clock opening last status after = Serves kind.ports kind.serving kind.moment asked.port clock opening before.around last status after

  pub goes_back : (keeper : K) (lent now : Ks) (moment : ℕ × ℕ) (clock : C) (opening closed : Holder K Signer) (last : Option (Holder K Signer)) (status : ℕ)
      (after : Around P) → HasKeeper kind asked before keeper lent moment clock
      → IsOpened kind.serving.agents.saves keeper asked.signer (moment_of moment) opening → last ≡ Some closed → WayOf clock opening last status after
      → (left : K) → left ≡ closed.keeper → kind.keepers.takes lent asked.name left now
      → Goes kind asked before status (record { around = after; keepers = now; clock = clock })
  goes_back keeper lent now moment clock opening closed last status after has opened e way left same back =
      given_back has opened (subst (λ (l : Option (Holder K Signer)). WayOf clock opening l status after) e way)
      (subst (λ (k : K). kind.keepers.takes lent asked.name k now) same back)

  pub goes_lost : (keeper : K) (lent : Ks) (moment : ℕ × ℕ) (clock : C) (opening : Holder K Signer) (last : Option (Holder K Signer)) (status : ℕ)
      (after : Around P) → HasKeeper kind asked before keeper lent moment clock
      → IsOpened kind.serving.agents.saves keeper asked.signer (moment_of moment) opening → last ≡ None → WayOf clock opening last status after
      → Goes kind asked before status (record { around = after; keepers = lent; clock = clock })
  goes_lost keeper lent moment clock opening last status after has opened e way =
      lost has opened (subst (λ (l : Option (Holder K Signer)). WayOf clock opening l status after) e way)
