use Rattle.std.proofs.Common.{arith}
use Rattle.nfs3_replies.proofs.ReadConstants.{the_word, missed_word, all_words}
use Rattle.nfs3_replies.proofs.attributes_reading.read_constant.Goals as goal

pub returns-then-u32-word : goal.returns-then-u32-word
returns-then-u32-word c = missed_word c.args.words.now c.words.word-index c.words-test.true (omega (arith, c.type_inv.words c.words.word-index)) c.words.invariant c.u32.ensures c.if-u32-word.true c.miss.ensures

pub words-preserved : goal.words-preserved
words-preserved c = the_word c.args.words.now c.words.word-index c.words-test.true (omega (arith, c.type_inv.words c.words.word-index)) c.words.invariant c.u32.ensures c.if-u32-word.false

pub returns : goal.returns
returns c = all_words c.args.words.now c.words.word-index c.words-test.false c.words.invariant
