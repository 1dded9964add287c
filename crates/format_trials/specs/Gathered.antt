-- Batches over nothing.
use Rattle.std.specs.Prelude.{◌≡◌, List, []}
use Rattle.std.specs.List.{AllByRecursion}
use Rattle.ivy_base.specs.declared.key.PubKey.{PubKey}
use Rattle.log_model.specs.View.{View}
use Rattle.log_records.specs.Batches.{Batch, owners_in}
use Rattle.causal_order.specs.Available.{IsFetched}

-- the batch is over nothing, its chains are of these owners, and a closed part may be taken of them under the view
pub record IsGathered (view : View) (owners : List PubKey) (b : Batch) : Type 0 where
  pub held : b.held ≡ []
  pub of_these : owners_in b.chains ≡ owners
  pub fetched : AllByRecursion (λ c. IsFetched view [] [] c.1) b.chains
