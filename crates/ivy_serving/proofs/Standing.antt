-- Where a desk of links stands after some calls.
use Rattle.std.proofs.Common.{◌≡◌, ℕ, ◌+◌, Bool, ◌||◌, true, false, arith, length, List, [], ◌∷◌, ◌++◌, Option, Some, map, ap, ◌∙◌, sym, subst, refl}
use Rattle.std.specs.Prelude.{IsPermutation, Result, Ok, Err, All}
use Rattle.std.specs.List.{AllZip, list_any}
use Rattle.std.proofs.lemmas.List.{append-nil, append_assoc, length-append, length-map, map-append}
use Rattle.std.proofs.lemmas.List.Elements.{All-append, All-cons, All-head, All-nil, All-pop, All-push, All-tail}
use Rattle.std.proofs.lemmas.List.Folds.{list_any-append}
use Rattle.std.proofs.lemmas.List.Sorted.{All-permutation, length_permutation}
use Rattle.value_gate.specs.Passes.{IsPassOf, parts_of, with_parts}
use Rattle.job_desk.specs.Chains.{CameBack, Execution, Stops, Went, begun, gave, stopped, took}
use Rattle.ivy_serving.specs.declared.fault.ServeFault.{ServeFault}
use Rattle.ivy_serving.specs.Jobs.{Done, IsServedLink, Job, Pass, ServingKind}
use Rattle.ivy_serving.specs.Serving.{Base, Counts, IsFresh, Outcome, PortsKind, ServesLinks, Stand, at_ports, lacked_memory}
use Rattle.ivy_serving.specs.Desks.{DeskState, link_desk}
use Rattle.ivy_serving.proofs.Counting.{counts}

abbrev pub passes_of : {K S Q W C : Type 0} → List (Done K S Q W C) → List (Pass K S)
passes_of done = map (λ d. d.link.pass) done

abbrev pub any_lacked : {K S Q W C : Type 0} → List (Done K S Q W C) → Bool
any_lacked done = list_any (λ d. lacked_memory d.how) done

or-none : (a : Bool) → a ≡ (a || false)
or-none true = refl
or-none false = refl

or-more : (a b c : Bool) → ((a || b) || c) ≡ (a || (b || (c || false)))
or-more true b c = refl
or-more false true c = refl
or-more false false true = refl
or-more false false false = refl

-- ---- one call after the other

module _ {P K S Q W C : Type 0} (ports : PortsKind P Q W) (serving : ServingKind K S Q W C) (moment : C → Option (ℕ × ℕ)) where
  -- where the desk stands after these calls
  pub record Stood (b : DeskState P K S) (c : Execution (Job K S Q W C) (Done K S Q W C) ServeFault) (d : DeskState P K S) : Type 0 where
    pub base : d.base ≡ b.base
    pub first : d.first ≡ with_parts b.first d.first.parts
    pub parts : d.first.parts + length c.given ≡ b.first.parts
    pub passes : d.passes ≡ b.passes ++ passes_of c.taken
    pub lacked : d.lacked ≡ (b.lacked || any_lacked c.taken)
    pub went : Went (at_ports ports serving moment b.base b.first) b.ports c d.ports

  fresh-of-first : (a b : Base K S) (p q : Pass K S) (j : Job K S Q W C) → a ≡ b → p.history ≡ q.history → IsFresh moment a p j → IsFresh moment b q j
  fresh-of-first a b p q j same history f = record {
    gate = f.gate ∙ ap (λ x. x.gate) same;
    ring = f.ring ∙ ap (λ x. x.ring) same;
    clock = f.clock ∙ ap (λ x. x.moment) same;
    of = subst (λ x. IsPassOf x.gate j.link.pass) same f.of;
    part = f.part;
    seen = f.seen ∙ history;
    no_call = f.no_call;
  }

  stops-at : (b d e : DeskState P K S) (why : Result Unit ServeFault) → Stops (link_desk ports serving moment) d why e
      → Stops (at_ports ports serving moment b.base b.first) d.ports why e.ports × (e ≡ record d { ports = e.ports })
  stops-at b d e (Ok _) s = s
  stops-at b d e (Err f) s = s

  pub stood : (b d : DeskState P K S) (c : Execution (Job K S Q W C) (Done K S Q W C) ServeFault) → Went (link_desk ports serving moment) b c d → Stood b c d
  stood b _ _ begun = record { base = refl; first = refl; parts = omega arith; passes = sym (append-nil b.passes); lacked = or-none b.lacked; went = begun }
  stood b _ _ (gave {c = c} {d = d} {e = e} j h p) =
      let s = stood b d c h in
      let of_first : d.first.history ≡ b.first.history = ap (λ x. x.history) s.first in
      let first : e.first ≡ with_parts d.first e.first.parts = ap (λ x. x.first) p.2 in
      let length' = length-append c.given (j ∷ []) in
      record {
        base = ap (λ x. x.base) p.2 ∙ s.base;
        first = first ∙ ap (λ x. with_parts x e.first.parts) s.first;
        parts = omega (arith, p.1, s.parts, length');
        passes = ap (λ x. x.passes) p.2 ∙ s.passes;
        lacked = ap (λ x. x.lacked) p.2 ∙ s.lacked;
        went = gave j s.went (p.0.0, fresh-of-first d.base b.base d.first b.first j s.base of_first p.0.1);
      }
  stood b _ _ (took {c = c} {d = d} {e = e} r h p) =
      let s = stood b d c h in
      record {
        base = ap (λ x. x.base) p.2 ∙ s.base;
        first = ap (λ x. x.first) p.2 ∙ (s.first ∙ ap (λ x. with_parts b.first x.first.parts) (sym p.2));
        parts = ap (λ x. x.first.parts + length c.given) p.2 ∙ s.parts;
        passes = ap (λ x. x.passes) p.2 ∙ (ap (λ l. l ++ r.link.pass ∷ []) s.passes
            ∙ (append_assoc b.passes (passes_of c.taken) (r.link.pass ∷ []) ∙ ap (λ l. b.passes ++ l) (sym (map-append (λ d. d.link.pass) c.taken (r ∷ [])))));
        lacked = ap (λ x. x.lacked) p.2 ∙ (ap (λ x. x || lacked_memory r.how) s.lacked
            ∙ (or-more b.lacked (any_lacked c.taken) (lacked_memory r.how) ∙ ap (λ x. b.lacked || x) (sym (list_any-append (λ d. lacked_memory d.how) c.taken (r ∷ [])))));
        went = took r s.went p.0;
      }
  stood b _ _ (stopped {c = c} {d = d} {e = e} why h p) =
      let s = stood b d c h in
      let at = stops-at b d e why p in
      record {
        base = ap (λ x. x.base) at.1 ∙ s.base;
        first = ap (λ x. x.first) at.1 ∙ (s.first ∙ ap (λ x. with_parts b.first x.first.parts) (sym at.1));
        parts = ap (λ x. x.first.parts + length c.given) at.1 ∙ s.parts;
        passes = ap (λ x. x.passes) at.1 ∙ s.passes;
        lacked = ap (λ x. x.lacked) at.1 ∙ s.lacked;
        went = stopped why s.went at.0;
      }

-- ---- the passes of links

-- all links that were given are fresh
module _ {P K S Q W C : Type 0} (ports : PortsKind P Q W) (serving : ServingKind K S Q W C) (moment : C → Option (ℕ × ℕ)) (base : Base K S) (first : Pass K S) where
  pub all-fresh : (p q : P) (c : Execution (Job K S Q W C) (Done K S Q W C) ServeFault) → Went (at_ports ports serving moment base first) p c q
      → All (IsFresh moment base first) c.given
  all-fresh p _ _ begun = All-nil (IsFresh moment base first)
  all-fresh p _ _ (gave {c = c} {d = d} j h is) = All-push (IsFresh moment base first) c.given j (all-fresh p d c h) is.1
  all-fresh p _ _ (took {c = c} {d = d} r h is) = all-fresh p d c h
  all-fresh p _ _ (stopped {c = c} {d = d} why h is) = all-fresh p d c h

  -- a pass that came back is of the gate, and has one part
  pub of-links : (came : List (Job K S Q W C)) (done : List (Done K S Q W C)) → All (IsFresh moment base first) came → AllZip (IsServedLink serving) came done
      → All (λ p. IsPassOf base.gate p) (passes_of done) × (parts_of (passes_of done) ≡ length came)
  of-links [] [] h z = (All-nil (λ p. IsPassOf base.gate p), refl)
  of-links [] (d ∷ ds) h z = absurd z
  of-links (j ∷ js) [] h z = absurd z
  of-links (j ∷ js) (d ∷ ds) h z =
      let fresh = All-head (IsFresh moment base first) j js h in
      let rest = of-links js ds (All-tail (IsFresh moment base first) j js h) z.1 in
      let part : d.link.pass.parts ≡ 1 = z.0.pass.parts ∙ fresh.part in (
        All-cons (λ p. IsPassOf base.gate p) d.link.pass (passes_of ds) (subst (λ g. IsPassOf g d.link.pass) fresh.gate z.0.pass.of) rest.0,
        omega (arith, part, rest.1),
      )

  pub as-many : (came : List (Job K S Q W C)) (done : List (Done K S Q W C)) → AllZip (IsServedLink serving) came done → length done ≡ length came
  as-many [] [] z = refl
  as-many [] (d ∷ ds) z = absurd z
  as-many (j ∷ js) [] z = absurd z
  as-many (j ∷ js) (d ∷ ds) z = let rest = as-many js ds z.1 in omega (arith, rest)

-- the parts of all
pub parts-append : {K S : Type 0} (xs ys : List (Pass K S)) → parts_of (xs ++ ys) ≡ parts_of xs + parts_of ys
parts-append [] ys = omega arith
parts-append (x ∷ xs) ys = let rest = parts-append xs ys in omega (arith, rest)

-- ---- after the end

module _ {P K S Q W C : Type 0} (ports : PortsKind P Q W) (serving : ServingKind K S Q W C) (moment : C → Option (ℕ × ℕ)) where
  -- what serve_links says
  pub record Served (base : Base K S) (before now : Stand P K S) (outcome : Outcome) : Type 0 where
    pub serves : ServesLinks (at_ports ports serving moment base) before now outcome
    pub of : All (λ p. IsPassOf base.gate p) now.passes
    pub parts : parts_of now.passes ≡ parts_of before.passes
    pub counts : Counts ports outcome.why before.ports now.ports

  pub served : (b d : DeskState P K S) (before now : List (Pass K S)) (why : Result Unit ServeFault)
      → CameBack (link_desk ports serving moment) b d [] (why ∷ []) → b.lacked ≡ false
      → before ≡ b.passes ++ b.first ∷ [] → now ≡ d.passes ++ d.first ∷ []
      → All (λ p. IsPassOf b.base.gate p) before
      → Served b.base (record { ports = b.ports; passes = before }) (record { ports = d.ports; passes = now }) (record { why = why; lacked = d.lacked })
  served b d before now why back none were are of =
      let s = stood ports serving moment b d (record { given = back.jobs; taken = back.done; stops = why ∷ [] }) back.went in
      let fresh = all-fresh ports serving moment b.base b.first b.ports d.ports (record { given = back.jobs; taken = back.done; stops = why ∷ [] }) s.went in
      let once : IsPermutation back.jobs back.came = subst (λ l. IsPermutation back.jobs l) (append-nil back.came) back.each_once in
      let links = of-links ports serving moment b.base b.first back.came back.done (All-permutation (IsFresh moment b.base b.first) back.jobs back.came once fresh) back.served in
      let many = as-many ports serving moment b.base b.first back.came back.done back.served in
      let same_length = length_permutation back.jobs back.came once in
      let first : d.first ≡ with_parts b.first d.first.parts = s.first in
      let is : now ≡ (b.passes ++ passes_of back.done) ++ with_parts b.first d.first.parts ∷ [] = are ∙ (ap (λ l. l ++ d.first ∷ []) s.passes ∙ ap (λ x. (b.passes ++ passes_of back.done) ++ x ∷ []) first) in
      let split : d.first.parts + length (passes_of back.done) ≡ b.first.parts = omega (arith, s.parts, many, same_length, length-map back.done (λ x. x.link.pass)) in
      let both = All-pop (λ p. IsPassOf b.base.gate p) before b.passes (Some b.first) were of in
      let last = with_parts b.first d.first.parts in
      record {
        serves = record {
          first = b.first;
          back = record { jobs = back.jobs; came = back.came; done = back.done; went = s.went; each_once = back.each_once; served = back.served };
          kept = record { others = b.passes; parts = d.first.parts; were = were; split = split; are = is };
          lacked = s.lacked ∙ ap (λ x. x || any_lacked back.done) none;
        };
        of = subst (λ l. All (λ p. IsPassOf b.base.gate p) l) (sym is) (All-append (λ p. IsPassOf b.base.gate p) (b.passes ++ passes_of back.done) (last ∷ [])
            (All-append (λ p. IsPassOf b.base.gate p) b.passes (passes_of back.done) both.0 links.0) (All-cons (λ p. IsPassOf b.base.gate p) last [] both.1 (All-nil (λ p. IsPassOf b.base.gate p))));
        parts = omega (arith, ap (λ l. parts_of l) is, ap (λ l. parts_of l) were, parts-append (b.passes ++ passes_of back.done) (last ∷ []), parts-append b.passes (passes_of back.done), parts-append b.passes (b.first ∷ []), links.1, s.parts, same_length);
        counts = counts ports serving moment b.base b.first b.ports d.ports why (record { jobs = back.jobs; came = back.came; done = back.done; went = s.went; each_once = back.each_once; served = back.served });
      }

  -- so it is of ports and of an answer that are the same
  pub served_at : (b d : DeskState P K S) (q : P) (lacked : Bool) (before now : List (Pass K S)) (why : Result Unit ServeFault)
      → CameBack (link_desk ports serving moment) b d [] (why ∷ []) → b.lacked ≡ false
      → before ≡ b.passes ++ b.first ∷ [] → now ≡ d.passes ++ d.first ∷ []
      → All (λ p. IsPassOf b.base.gate p) before → d.ports ≡ q → d.lacked ≡ lacked
      → Served b.base (record { ports = b.ports; passes = before }) (record { ports = q; passes = now }) (record { why = why; lacked = lacked })
  served_at b d q lacked before now why back none were are of same answer =
      subst (λ a. Served b.base (record { ports = b.ports; passes = before }) (record { ports = q; passes = now }) (record { why = why; lacked = a })) answer
      (subst (λ x. Served b.base (record { ports = b.ports; passes = before }) (record { ports = x; passes = now }) (record { why = why; lacked = d.lacked })) same
      (served b d before now why back none were are of))
