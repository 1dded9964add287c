-- What a log's owner signs with.
use Rattle.std.specs.Prelude.{ℕ, List}

-- A kind of signers: of each the public key, how many messages it still signs, its next signature of a message, what it is after that, and
-- its saved bytes.
pub record Signing (S : Type 0) : Type 0 where
  pub key : S → List ℕ
  pub remaining : S → ℕ
  pub signature : S → List ℕ → List ℕ
  pub next : S → S
  pub saved : S → List ℕ
