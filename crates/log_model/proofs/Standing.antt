-- Records among blocks: more blocks leave them standing, and a name leads to one block.
use Rattle.std.proofs.Common.{◌≡◌, ℕ, List, Contains, sym, ◌∙◌}
use Rattle.ivy_base.specs.Naming.{name, IsCollisionFree}
use Rattle.log_model.specs.Record.{Record}
use Rattle.log_model.specs.Spelling.{record_block, HasSpelling}
use Rattle.log_model.specs.Standing.{StandsAmong}

-- among more blocks it stands too
pub stands_among_more : (blocks more : List (List ℕ)) (r : Record) → ((block : List ℕ) → Contains blocks block → Contains more block) → StandsAmong blocks r → StandsAmong more r
stands_among_more blocks more r within stands = within (record_block r) stands

-- where no names collide, two records of one name that stand there have one block
pub one_block : (blocks : List (List ℕ)) → IsCollisionFree blocks → (p q : Record) → HasSpelling p → HasSpelling q → StandsAmong blocks p → StandsAmong blocks q → p.name ≡ q.name → record_block p ≡ record_block q
one_block blocks apart p q of_p of_q stands_p stands_q same = apart (record_block p) (record_block q) stands_p stands_q (sym of_p.named ∙ same ∙ of_q.named)

-- what stands among the blocks is met there under its name
pub met_by_name : (blocks : List (List ℕ)) (r : Record) → HasSpelling r → StandsAmong blocks r → (block : List ℕ) × Contains blocks block × (name block ≡ r.name)
met_by_name blocks r fits stands = (record_block r, stands, sym fits.named)
