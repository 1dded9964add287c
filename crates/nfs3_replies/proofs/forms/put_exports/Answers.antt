use Rattle.nfs3_replies.proofs.forms.put_exports.Goals as goal

pub returns : goal.returns
returns c = c.put_words.ensures.written
