-- What the check of the levels gives.
use Rattle.std.specs.Prelude.{ℕ, Bool, List, Result, Ok}
use Rattle.std.specs.List.{list_all}
use Rattle.hash_signature_model.specs.declared.set.LmsFault.{LmsFault}
use Rattle.hash_signature_model.specs.declared.keys.PublicKey.{PublicKey}
use Rattle.hash_signature_model.specs.Reading.{◌>>=◌}
use Rattle.hash_signature_model.specs.Levels.{is_right, whole_levels}

-- whether each level gives its root, where all of them could be read
unfoldable pub right_levels : ℕ → PublicKey → List ℕ → List ℕ → Result Bool LmsFault
right_levels between key message bytes = do
  levels ← whole_levels between key message bytes
  Ok (list_all is_right levels)
