use Rattle.nfs3_replies.proofs.ReadPages.{plain_directory_read, plus_directory_read}
use Rattle.nfs3_replies.proofs.pages_reading.read_directory.Goals as goal

pub returns-then-plus : goal.returns-then-plus
returns-then-plus c =
    plus_directory_read c.args.plus c.if-plus.true c.read_optional_fattr-dir.ensures c.eight-verifier.ensures c.in_ok-page.ensures c.boolean-eof.ensures.reads

pub returns-else-plus : goal.returns-else-plus
returns-else-plus c =
    plain_directory_read c.args.plus c.if-plus.false c.read_optional_fattr-dir.ensures c.eight-verifier.ensures c.in_ok-page.ensures c.boolean-eof.ensures.reads
