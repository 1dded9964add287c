-- What a node holds, as it is shown.
use Rattle.std.specs.Prelude.{ℕ, List, [], ◌∷◌, ◌++◌}
use Rattle.std.specs.List.{flat_map}
use Rattle.hex.specs.Hex.{encode_lower}
use Rattle.dht_ids.specs.declared.post.Post.{Post}

-- a line for each block's key
abbrev pub key_lines : List Post → List ℕ
key_lines held = flat_map (λ p. encode_lower p.key.0 ++ 10 ∷ []) held
