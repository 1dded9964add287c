-- Of each message it is known whether it is a call, and of each credential whose it is.
use Rattle.std.proofs.Common.{◌≡◌, ◌⊎◌, inl, inr, ℕ, List, ◌++◌, sym, ap, ◌∙◌, arith, append_assoc}
use Rattle.std.proofs.lemmas.Bool.{cases_lt}
use Rattle.wire_model.specs.Xdr.{word, opaque}
use Rattle.wire_model.specs.Rpc.{CallMessage, IsCall, IsOtherVersion}
use Rattle.turn_laws.specs.Reading.{EachMessageIsKnown}
use Rattle.turn_laws.proofs.Deciding.{◌then◌, a_word, a_front, a_data}

regrouped : (front a b c d rest : List ℕ) → ((((front ++ a) ++ b) ++ c) ++ d) ++ rest ≡ ((front ++ (a ++ b)) ++ (c ++ d)) ++ rest
regrouped front a b c d rest = simp append_assoc

-- the front of a call, up to the number of its procedure
abbrev front_of : CallMessage → List ℕ
front_of c = word c.xid ++ word 0 ++ word 2 ++ word c.program ++ word c.version ++ word c.procedure

pub call_or_not : (message : List ℕ) → ((c : CallMessage) × IsCall message c) ⊎ ((c : CallMessage) → IsCall message c → ⊥)
call_or_not message =
    let all = a_word then a_front (word 0) then a_front (word 2) then a_word then a_word then a_word then a_word then (a_data 400 (omega arith)) then a_word then (a_data 400 (omega arith)) in
    elim (all.1 message) [
      | inl x ↦ inl (
        record {
          xid = x.value.0.0.0.0.0.0.0.0.0;
          program = x.value.0.0.0.0.0.0.1;
          version = x.value.0.0.0.0.0.1;
          procedure = x.value.0.0.0.0.1;
          credential = record { flavour = x.value.0.0.0.1; body = x.value.0.0.1 };
          verifier = record { flavour = x.value.0.1; body = x.value.1 };
          arguments = x.rest;
        },
        (
          record {
            xid = x.fits.0.0.0.0.0.0.0.0.0;
            program = x.fits.0.0.0.0.0.0.1;
            version = x.fits.0.0.0.0.0.1;
            procedure = x.fits.0.0.0.0.1;
            credential = record { flavour = x.fits.0.0.0.1; body = x.fits.0.0.1 };
            verifier = record { flavour = x.fits.0.1; body = x.fits.1 };
          },
          x.spelled ∙ regrouped (word x.value.0.0.0.0.0.0.0.0.0 ++ word 0 ++ word 2 ++ word x.value.0.0.0.0.0.0.1 ++ word x.value.0.0.0.0.0.1 ++ word x.value.0.0.0.0.1)
              (word x.value.0.0.0.1) (opaque x.value.0.0.1) (word x.value.0.1) (opaque x.value.1) x.rest,
        ),
      )
      | inr none ↦ inr (λ c is. none (record {
        value = (((((((((c.xid, tt), tt), c.program), c.version), c.procedure), c.credential.flavour), c.credential.body), c.verifier.flavour), c.verifier.body);
        rest = c.arguments;
        fits = (((((((((is.0.xid, tt), tt), is.0.program), is.0.version), is.0.procedure), is.0.credential.flavour), is.0.credential.body), is.0.verifier.flavour), is.0.verifier.body);
        spelled = is.1 ∙ sym (regrouped (front_of c) (word c.credential.flavour) (opaque c.credential.body) (word c.verifier.flavour) (opaque c.verifier.body) c.arguments);
      }))
    ]

pub other_or_not : (message : List ℕ) → ((xid : ℕ) × IsOtherVersion message xid) ⊎ ((xid : ℕ) → IsOtherVersion message xid → ⊥)
other_or_not message =
    let all = a_word then a_front (word 0) then a_word in
    elim (all.1 message) [
      | inl x ↦ elim (cases_lt x.value.1 2) [
        | inl less ↦ inl (x.value.0.0, (x.value.1, x.rest, x.fits.0.0, x.fits.1, (λ two. omega (arith, less, two)), x.spelled))
        | inr least ↦ elim (cases_lt 2 x.value.1) [
          | inl more ↦ inl (x.value.0.0, (x.value.1, x.rest, x.fits.0.0, x.fits.1, (λ two. omega (arith, more, two)), x.spelled))
          | inr most ↦ inr (λ xid is.
              let same = (all.0.one x.value ((xid, tt), is.0) x.rest is.1 x.fits ((is.2, tt), is.3) (sym x.spelled ∙ is.5)).0 in
              let version : x.value.1 ≡ is.0 = ap (λ (p : (ℕ × Unit {0}) × ℕ). p.1) same in
              is.4 (omega (arith, version, least, most)))
        ]
      ]
      | inr none ↦ inr (λ xid is. none (record { value = ((xid, tt), is.0); rest = is.1; fits = ((is.2, tt), is.3); spelled = is.5 }))
    ]

pub known_message : EachMessageIsKnown
known_message message = elim (call_or_not message) [
  | inl is ↦ inl is
  | inr none ↦ elim (other_or_not message) [
    | inl other ↦ inr (inl other)
    | inr neither ↦ inr (inr (none, neither))
  ]
]
