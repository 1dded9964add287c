use Rattle.std.proofs.Common.{◌≡◌, ℕ, List, Some, sym, ap, ◌∙◌, arith, drop}
use Rattle.std.proofs.lemmas.List.{take_rest, length-take}
use Rattle.ivy_io.proofs.KnownLemmas.{copied_front}
use Rattle.ivy_cli.proofs.memory.ScriptSource.read.Goals as goal

pub returns-clause-bytes : goal.returns-clause-bytes
returns-clause-bytes c =
    let left : c.args.self.now ≡ drop c.self.inside.at c.self.inside.bytes = sym c.self.view_is in
    let copied = copied_front c.self.inside.bytes c.args.into.now c.copy_from_slice.new.self c.self.inside.at c.min-count.result (rw (take_rest, c.as_slice-bytes.ensures) at c.copy_from_slice.ensures.after) (omega (arith, c.copy_from_slice.ensures.len, length-take c.min-count.result c.args.into.now)) in
    (ap (λ (l : List ℕ). Some l) (left ∙ copied), λ zero room. absurd (omega (arith, zero, room)))
