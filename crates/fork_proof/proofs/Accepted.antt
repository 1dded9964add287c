-- A proof of what is shown is refused only because memory ran out.
use Rattle.std.proofs.Common.{◌≡◌, ℕ, suc, ◌+◌, List, [], ◌∷◌, ◌++◌, length, refl, sym, ap, ◌∙◌, subst, arith}
use Rattle.ivy_base.specs.declared.key.Key.{Key}
use Rattle.ivy_base.specs.declared.key.PubKey.{PubKey}
use Rattle.log_model.specs.Record.{Record}
use Rattle.log_records.proofs.OneRecord.{one_record}
use Rattle.fork_proof.specs.declared.fault.ProofFault.{ProofFault}
use Rattle.fork_proof.specs.declared.fault.ProofFault.TheVariants.{Malformed, HeadWrong, Unlinked, NoFork, Memory}
use Rattle.fork_proof.specs.Forms.{IsLink, IsProof, IsProofOf, LeadsDown, here as at_end, down, ForkProof, proof_bytes}
use Rattle.fork_proof.specs.Checks.{AreSigned, BreaksAt, FailsAt, low, high, IsShown, Fails}
use Rattle.fork_proof.specs.Laws.{ShownIsNotRefused}
use Rattle.fork_proof.proofs.OneProof.{proofs_are_unambiguous}

module _ (owner : PubKey) where
  -- one block is one record
  one_link : (n m : ℕ) (k l : Key) (block : List ℕ) (r s : Record) → IsLink owner n k block r → IsLink owner m l block s → r ≡ s
  one_link n m k l block r s f g = ((one_record owner).one r s [] [] (f.read.spelled.owned, f.read.spelled.fits) (g.read.spelled.owned, g.read.spelled.fits)
      (ap (λ (b : List ℕ). b ++ []) (sym f.read.spelled.spelled ∙ g.read.spelled.spelled))).0

  leads_one : {n : ℕ} {at last other : Key} {blocks : List (List ℕ)} → LeadsDown owner n at blocks last → LeadsDown owner n at blocks other → last ≡ other
  leads_one at_end at_end = refl
  leads_one {other} (down {seq} {name = at} {last} {block} {blocks} r link more) (down s also rest) =
      leads_one more (subst (λ (k : Key). LeadsDown owner seq k blocks other) (sym (ap (λ (z : Record). z.prev) (one_link (suc seq) (suc seq) at at block r s link also))) rest)

  goes_through : (before : List (List ℕ)) (block : List ℕ) (after : List (List ℕ)) {n : ℕ} {at last mid : Key} → LeadsDown owner n at (before ++ block ∷ after) last → LeadsDown owner n at before mid
      → (seq : ℕ) × (r : Record) × (seq + length before ≡ n) × IsLink owner seq mid block r
  goes_through [] block after (down {seq} r link more) at_end = (suc seq, r, omega arith, link)
  goes_through (x ∷ before) block after {mid} (down {seq} {name = at} r link more) (down s also rest) =
      let w = goes_through before block after more (subst (λ (k : Key). LeadsDown owner seq k before mid) (sym (ap (λ (z : Record). z.prev) (one_link (suc seq) (suc seq) at at x r s link also))) rest) in
      (w.0, w.1, omega (arith, w.2), w.3)

never_fails : (p : ForkProof) (place : ℕ) → AreSigned p → FailsAt p place → ⊥
never_fails p place signed (low bad) = bad signed.low
never_fails p place signed (high good bad) = bad signed.high

itself : (p : ForkProof) → IsProof p → IsProofOf (proof_bytes p) p
itself p fits = record { fits = fits; spelled = refl }

is_that : (p q : ForkProof) → IsProof p → IsProofOf (proof_bytes p) q → q ≡ p
is_that p q fits is = proofs_are_unambiguous (proof_bytes p) q p is (itself p fits)

never_breaks : (p : ForkProof) (place : ℕ) → IsShown p → BreaksAt p place → ⊥
never_breaks p place shown b =
    let w = goes_through p.owner b.before b.block b.after (subst (λ (l : List (List ℕ)). LeadsDown p.owner p.high.newest.seq p.high.newest.name l shown.last) b.are shown.leads) b.leads in
    b.breaks w.0 w.1 w.2 w.3

-- what is shown fails no test
never : (p : ForkProof) (fault : ProofFault) → IsShown p → Fails p fault → fault ≡ Memory
never p Malformed shown h = absurd h
never p (HeadWrong place) shown h = absurd (never_fails p place shown.signed h)
never p (Unlinked place) shown h = absurd (never_breaks p place shown h.1)
never p NoFork shown h = absurd (shown.other (leads_one p.owner shown.leads h.1))
never p Memory shown h = refl

refused : (p q : ForkProof) (fault : ProofFault) → IsProof p → IsShown p → IsProofOf (proof_bytes p) q → Fails q fault → fault ≡ Memory
refused p q fault fits shown is h = never p fault shown (subst (λ (r : ForkProof). Fails r fault) (is_that p q fits is) h)

pub shown_is_not_refused : ShownIsNotRefused
shown_is_not_refused p Malformed fits shown h = absurd (h p (itself p fits))
shown_is_not_refused p (HeadWrong place) fits shown h = refused p h.0 (HeadWrong place) fits shown h.1 h.2
shown_is_not_refused p (Unlinked place) fits shown h = refused p h.0 (Unlinked place) fits shown h.1 h.2
shown_is_not_refused p NoFork fits shown h = refused p h.0 NoFork fits shown h.1 h.2
shown_is_not_refused p Memory fits shown h = refl
