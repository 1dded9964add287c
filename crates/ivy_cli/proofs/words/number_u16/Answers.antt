use Rattle.std.proofs.Common.{◌∙◌, sym}
use Rattle.ivy_cli.proofs.NumberLemmas.{parsed}
use Rattle.ivy_cli.proofs.words.number_u16.Goals as goal

pub returns : goal.returns
returns c = parsed 16 c.args.word.now _ _ (sym c.is_decimal.ensures ∙ c.if-not-is_decimal.false) c.parse.ensures.value.0 c.ok.ensures.value
