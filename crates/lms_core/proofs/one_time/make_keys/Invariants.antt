use Rattle.std.proofs.Common.{[], ◌∷◌, ◌++◌, ◌+◌}
use Rattle.sha2.specs.Hashers.{Holds256}
use Rattle.hash_signature_model.specs.OneTime.{u32_string, joined_values, chain_end}
use Rattle.lms_core.proofs.one_time.make_keys.Given as goal

abbrev pub invariant-chains : goal.invariant-chains
invariant-chains l = record {
  hasher0 : Holds256 l.hasher0 (l.key.id ++ u32_string (l.first + 0) ++ 0x80 ∷ 0x80 ∷ [] ++ joined_values (chain_end l.key.set.w l.key.id l.key.seed (l.first + 0)) l.i);
  hasher1 : Holds256 l.hasher1 (l.key.id ++ u32_string (l.first + 1) ++ 0x80 ∷ 0x80 ∷ [] ++ joined_values (chain_end l.key.set.w l.key.id l.key.seed (l.first + 1)) l.i);
  hasher2 : Holds256 l.hasher2 (l.key.id ++ u32_string (l.first + 2) ++ 0x80 ∷ 0x80 ∷ [] ++ joined_values (chain_end l.key.set.w l.key.id l.key.seed (l.first + 2)) l.i);
  hasher3 : Holds256 l.hasher3 (l.key.id ++ u32_string (l.first + 3) ++ 0x80 ∷ 0x80 ∷ [] ++ joined_values (chain_end l.key.set.w l.key.id l.key.seed (l.first + 3)) l.i);
}
