-- What the counts of ports tell, call by call.
use Rattle.std.proofs.Common.{◌≡◌, ℕ, ◌≤◌, arith, List, [], ◌∷◌, ◌++◌, Option, ap, ◌∙◌, refl}
use Rattle.std.specs.Prelude.{Result, Ok, Err}
use Rattle.ivy_io.specs.Causes.{Rose, counted}
use Rattle.job_desk.specs.Chains.{CameBack, Execution, Stops, Went, begun, gave, stopped, took}
use Rattle.ivy_serving.specs.declared.fault.ServeFault.{ServeFault}
use Rattle.ivy_serving.specs.declared.fault.ServeFault.TheVariants as fault
use Rattle.ivy_serving.specs.Jobs.{Done, Job, Pass, ServingKind}
use Rattle.ivy_serving.specs.Serving.{Base, Counts, EndsAfter, FailsAfter, PortsKind, at_ports, failed, memory, no_part}

-- what the counts of ends tell, where the ports stopped once at most
abbrev pub EndsBy : List (Result Unit ServeFault) → ℕ → ℕ → Type 0
EndsBy [] old new = new ≡ old
EndsBy (why ∷ []) old new = EndsAfter why old new
EndsBy (why ∷ (more ∷ whys)) old new = Unit {0}

abbrev pub FailsBy : List (Result Unit ServeFault) → ℕ → ℕ → Type 0
FailsBy [] old new = Unit {0}
FailsBy (why ∷ []) old new = FailsAfter why old new
FailsBy (why ∷ (more ∷ whys)) old new = Unit {0}

ends-same : (stops : List (Result Unit ServeFault)) (a b c : ℕ) → EndsBy stops a b → c ≡ b → EndsBy stops a c
ends-same [] a b c h e = e ∙ h
ends-same (Ok _ ∷ []) a b c h e = e ∙ h
ends-same (Err _ ∷ []) a b c h e = e ∙ h
ends-same (why ∷ (more ∷ whys)) a b c h e = tt

ends-stop : (stops : List (Result Unit ServeFault)) (why : Result Unit ServeFault) (a b c : ℕ) → EndsBy stops a b → EndsAfter why b c → EndsBy (stops ++ why ∷ []) a c
ends-stop [] (Ok _) a b c h e = e ∙ ap counted h
ends-stop [] (Err _) a b c h e = e ∙ h
ends-stop (x ∷ []) why a b c h e = tt
ends-stop (x ∷ (y ∷ ys)) why a b c h e = tt

rose-later : (a b c : ℕ) → Rose a b → b ≤ c → Rose a c
rose-later a b c h e = omega (arith, h, e)

rose-from : (a b c : ℕ) → a ≤ b → Rose b c → Rose a c
rose-from a b c h e = omega (arith, h, e)

fails-later : (stops : List (Result Unit ServeFault)) (a b c : ℕ) → FailsBy stops a b → b ≤ c → FailsBy stops a c
fails-later [] a b c h e = tt
fails-later (Ok _ ∷ []) a b c h e = tt
fails-later (Err fault.Failed ∷ []) a b c h e = rose-later a b c h e
fails-later (Err fault.Memory ∷ []) a b c h e = tt
fails-later (Err fault.NoPart ∷ []) a b c h e = tt
fails-later (why ∷ (more ∷ whys)) a b c h e = tt

fails-stop : (stops : List (Result Unit ServeFault)) (why : Result Unit ServeFault) (a b c : ℕ) → a ≤ b → FailsAfter why b c → FailsBy (stops ++ why ∷ []) a c
fails-stop [] (Ok _) a b c h e = tt
fails-stop [] (Err fault.Failed) a b c h e = rose-from a b c h e
fails-stop [] (Err fault.Memory) a b c h e = tt
fails-stop [] (Err fault.NoPart) a b c h e = tt
fails-stop (x ∷ []) why a b c h e = tt
fails-stop (x ∷ (y ∷ ys)) why a b c h e = tt

module _ {P K S Q W C : Type 0} (ports : PortsKind P Q W) (serving : ServingKind K S Q W C) (moment : C → Option (ℕ × ℕ)) (base : Base K S) (first : Pass K S) where
  pub record Counted (p : P) (stops : List (Result Unit ServeFault)) (q : P) : Type 0 where
    pub ends : EndsBy stops (ports.ends p) (ports.ends q)
    pub fails : FailsBy stops (ports.faults p) (ports.faults q)
    pub never_falls : ports.faults p ≤ ports.faults q

  -- what a stop tells
  stop-counted : (p : P) (why : Result Unit ServeFault) (q : P) → Stops (at_ports ports serving moment base first) p why q
      → EndsAfter why (ports.ends p) (ports.ends q) × FailsAfter why (ports.faults p) (ports.faults q) × (ports.faults p ≤ ports.faults q)
  stop-counted p (Ok _) q h = (h.ends, tt, h.faults)
  stop-counted p (Err _) q (failed rose later ends links) = (ends, rose, later)
  stop-counted p (Err _) _ memory = (refl, tt, omega arith)
  stop-counted p (Err _) _ no_part = (refl, tt, omega arith)

  pub counted-by : (p q : P) (c : Execution (Job K S Q W C) (Done K S Q W C) ServeFault) → Went (at_ports ports serving moment base first) p c q → Counted p c.stops q
  counted-by p _ _ begun = record { ends = refl; fails = tt; never_falls = omega arith }
  counted-by p _ _ (gave {c = c} {d = d} {e = e} j h is) =
      let s = counted-by p d c h in record {
        ends = ends-same c.stops (ports.ends p) (ports.ends d) (ports.ends e) s.ends is.0.ends;
        fails = fails-later c.stops (ports.faults p) (ports.faults d) (ports.faults e) s.fails is.0.faults;
        never_falls = omega (arith, s.never_falls, is.0.faults);
      }
  counted-by p _ _ (took {c = c} {d = d} {e = e} r h is) =
      let s = counted-by p d c h in record {
        ends = ends-same c.stops (ports.ends p) (ports.ends d) (ports.ends e) s.ends is.ends;
        fails = fails-later c.stops (ports.faults p) (ports.faults d) (ports.faults e) s.fails is.faults;
        never_falls = omega (arith, s.never_falls, is.faults);
      }
  counted-by p _ _ (stopped {c = c} {d = d} {e = e} why h is) =
      let s = counted-by p d c h in
      let t = stop-counted d why e is in record {
        ends = ends-stop c.stops why (ports.ends p) (ports.ends d) (ports.ends e) s.ends t.0;
        fails = fails-stop c.stops why (ports.faults p) (ports.faults d) (ports.faults e) s.never_falls t.1;
        never_falls = omega (arith, s.never_falls, t.2);
      }

  pub counts : (p q : P) (why : Result Unit ServeFault) → CameBack (at_ports ports serving moment base first) p q [] (why ∷ []) → Counts ports why p q
  counts p q why back =
      let s = counted-by p q (record { given = back.jobs; taken = back.done; stops = why ∷ [] }) back.went in
      record { ends = s.ends; failed = s.fails; never_falls = s.never_falls }
