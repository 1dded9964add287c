use Rattle.std.proofs.Common.{◌≡◌, take, length}
use Rattle.std.specs.List.{AllByRecursion, flat_map}
use Rattle.wire_model.specs.Xdr.{IsAny}
use Rattle.wire_model.specs.OneReading.{IsFront}
use Rattle.hash_signature_model.specs.Saved.{set_bytes}
use Rattle.hss_keys.proofs.save.read_each_set.Given as goal

abbrev pub invariant-sets : goal.invariant-sets
invariant-sets l = record {
  front : IsFront (AllByRecursion IsAny) (flat_map set_bytes) l.initial.reader (take l.i l.sets) l.reader;
  size : length l.sets ≡ 3;
}
