use Rattle.nfs3_replies.proofs.ReadConstants.{SoFar}
use Rattle.nfs3_replies.proofs.attributes_reading.read_constant.Given as goal

abbrev pub invariant-words : goal.invariant-words
invariant-words l = SoFar l.words l.word-index l.initial.parts l.parts
