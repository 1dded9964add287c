-- Of each credential it is known whose it is.
use Rattle.std.proofs.Common.{◌⊎◌, inl, inr, ℕ, List, sym, subst, arith}
use Rattle.std.proofs.lemmas.Bool.{cases_eq}
use Rattle.wire_model.specs.Rpc.{Auth, Identity, nobody, IsCaller, none, system}
use Rattle.wire_model.proofs.OneReading.{caller_cases}
use Rattle.turn_laws.proofs.Deciding.{◌then◌, a_word, a_data, an_array, whole_or_not}

abbrev HasCaller : Auth → Type 0
HasCaller a = (who : Identity) × IsCaller a who

no_body : (body : List ℕ) → HasCaller (record { flavour = 0; body = body })
no_body body = (nobody, none)

by_system : (body : List ℕ) → HasCaller (record { flavour = 1; body = body }) ⊎ (HasCaller (record { flavour = 1; body = body }) → ⊥)
by_system body = elim (whole_or_not (a_word then a_data 255 (omega arith) then a_word then a_word then an_array a_word 16 (omega arith)) body) [
  | inl x ↦
      let p = x.0 in
      let who : Identity = record { uid = p.0.0.1; gid = p.0.1; groups = p.1 } in
      inl (
        who,
        subst (λ (b : List ℕ). IsCaller (record { flavour = 1; body = b }) who) (sym x.2)
            (system p.0.0.0.0 p.0.0.0.1 x.1.0.0.0.0 x.1.0.0.0.1 (record { uid = x.1.0.0.1; gid = x.1.0.1; few = x.1.1.0; groups = x.1.1.1 })),
      )
  | inr not_one ↦ inr (λ z. elim (caller_cases z.1) [
    | inl e ↦ absurd (omega (arith, e.0))
    | inr s ↦ not_one (((((s.stamp, s.machine), z.0.uid), z.0.gid), z.0.groups), ((((s.stamp_fits, s.machine_fits), s.who_fits.uid), s.who_fits.gid), (s.who_fits.few, s.who_fits.groups)), s.body)
  ])
]

of_flavour : (flavour : ℕ) (body : List ℕ) → HasCaller (record { flavour = flavour; body = body }) ⊎ (HasCaller (record { flavour = flavour; body = body }) → ⊥)
of_flavour flavour body = elim (cases_eq flavour 0) [
  | inl e ↦ subst (λ (f : ℕ). HasCaller (record { flavour = f; body = body }) ⊎ (HasCaller (record { flavour = f; body = body }) → ⊥)) (sym e) (inl (no_body body))
  | inr some ↦ elim (cases_eq flavour 1) [
    | inl e ↦ subst (λ (f : ℕ). HasCaller (record { flavour = f; body = body }) ⊎ (HasCaller (record { flavour = f; body = body }) → ⊥)) (sym e) (by_system body)
    | inr other ↦ inr (λ z. elim (caller_cases z.1) [
      | inl e ↦ some e.0
      | inr s ↦ other s.flavour
    ])
  ]
]

pub caller_or_not : (a : Auth) → ((who : Identity) × IsCaller a who) ⊎ ((who : Identity) → IsCaller a who → ⊥)
caller_or_not a = elim (of_flavour a.flavour a.body) [
  | inl is ↦ inl is
  | inr none_is ↦ inr (λ who is. none_is (who, is))
]
