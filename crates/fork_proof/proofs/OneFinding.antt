-- One thing is found, by whatever function that tells which records blocks are.
use Rattle.std.proofs.Common.{◌≡◌, ℕ, List, Option, Some, None, refl, sym, ap, ◌∙◌}
use Rattle.std.specs.Prelude.{MatchOption}
use Rattle.ivy_base.specs.declared.key.Key.{Key}
use Rattle.ivy_base.specs.declared.key.PubKey.{PubKey}
use Rattle.log_model.specs.Record.{Record}
use Rattle.fork_model.specs.Before.{Before, TellsRecords, IsNumbered}
use Rattle.fork_model.specs.Finding.{find_fork}
use Rattle.fork_proof.specs.Laws.{FoundIsUnique}
use Rattle.fork_proof.proofs.Walks.{one_read}
use Rattle.fork_proof.proofs.WaysDown.{read_of}

agree : (owner : PubKey) (seq : ℕ) (block : List ℕ) (o p : Option Key) → MatchOption o ((r : Record) → IsNumbered owner seq block r → ⊥) (λ prev. (r : Record) × IsNumbered owner seq block r × (prev ≡ r.prev))
    → MatchOption p ((r : Record) → IsNumbered owner seq block r → ⊥) (λ prev. (r : Record) × IsNumbered owner seq block r × (prev ≡ r.prev)) → o ≡ p
agree owner seq block None None f g = refl
agree owner seq block None (Some q) f g = absurd (f g.0 g.1)
agree owner seq block (Some q) None f g = absurd (g f.0 f.1)
agree owner seq block (Some q) (Some p) f g = ap Some (f.2 ∙ ap (λ (r : Record). r.prev) (one_read owner block f.0 g.0 (read_of f.1) (read_of g.1)) ∙ sym g.2)

one_before : (before other : Before) → TellsRecords before → TellsRecords other → before ≡ other
one_before before other f g = λ i owner seq block. agree owner seq block (before owner seq block) (other owner seq block) (f owner seq block) (g owner seq block) i

pub found_is_unique : FoundIsUnique
found_is_unique before other heads blocks f g = ap (λ (b : Before). find_fork b heads blocks) (one_before before other f g)
