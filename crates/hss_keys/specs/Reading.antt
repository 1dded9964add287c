-- The leaves that stand in a signature of several levels (RFC 8554, section 6.3).
use Rattle.std.specs.Prelude.{ℕ, List, map, Result, Ok}
use Rattle.hash_signature_model.specs.declared.set.LmsFault.{LmsFault}
use Rattle.hash_signature_model.specs.Reading.{◌>>=◌}
use Rattle.hash_signature_model.specs.Levels.{whole_hss_key, whole_hss_signature}

-- the leaves that a signature names under a public key, from the top level down: where each is of its tree, and all can be read
unfoldable pub leaves_named : List ℕ → List ℕ → List ℕ → Result (List ℕ) LmsFault
leaves_named public message bytes = do
  k ← whole_hss_key public
  levels ← whole_hss_signature k.0 k.1 message bytes
  Ok (map (λ level. level.signature.leaf) levels)
