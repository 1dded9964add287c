use Rattle.std.proofs.Common.{ap, ◌∙◌, take}
use Rattle.std.proofs.lemmas.List.{take_min}
use Rattle.nfs3_writes.proofs.setting.taken_part.Goals as goal

pub returns-clause-taken : goal.returns-clause-taken
returns-clause-taken c = ap (λ n. take n c.args.bytes.now) c.min.ensures ∙ take_min 8192 c.args.bytes.now
