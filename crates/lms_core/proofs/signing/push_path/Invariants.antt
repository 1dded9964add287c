use Rattle.std.proofs.Common.{◌≡◌, ◌++◌, ◌+◌, ◌*◌, ◌<◌}
use Rattle.hash_signature_model.specs.Parameters.{leaves}
use Rattle.hash_signature_model.specs.OneTime.{joined_values}
use Rattle.hash_signature_model.specs.Nodes.{above}
use Rattle.lms_core.specs.Kept.{path_in}
use Rattle.lms_core.proofs.signing.push_path.Given as goal

abbrev pub invariant-levels : goal.invariant-levels
invariant-levels l = record {
  r_is : l.r ≡ above (leaves l.fn.h + l.fn.leaf) l._n;
  small : l.r < 4096;
  inside : l.r < 2 * leaves l.fn.h;
  out_is : l.out.items ≡ l.initial.out.items ++ joined_values (path_in l.nodes l.fn.h l.fn.leaf) l._n;
}
