use Rattle.std.proofs.Common.{sym, ◌∙◌}
use Rattle.xdr_codec.proofs.Zeros.{front_of_zeros, no_zeros}
use Rattle.xdr_codec.proofs.read.behind_zeros.Goals as goal

pub returns-then-eq : goal.returns-then-eq
returns-then-eq c = front_of_zeros c.args.bytes.now c.split_at.result.0.now c.split_at.result.1.now c.args.zeros c.requires.few c.split_at.ensures.front c.split_at.ensures.back (sym c.eq.ensures ∙ c.if-eq.true)

pub returns-else-eq : goal.returns-else-eq
returns-else-eq c = no_zeros c.args.bytes.now c.split_at.result.0.now c.args.zeros c.requires.few c.split_at.ensures.front (sym c.eq.ensures ∙ c.if-eq.false)
