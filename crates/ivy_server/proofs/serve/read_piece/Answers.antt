use Rattle.std.proofs.Common.{rules}
use Rattle.ivy_server.proofs.Waiting.{cut_off, ended_source, gave_some}
use Rattle.ivy_server.proofs.serve.read_piece.Goals as goal

pub returns-in-Err-finish-clause-read : goal.returns-in-Err-finish-clause-read
returns-in-Err-finish-clause-read g c = λ read taken between.
    let at_end = ended_source (g.Q.Source.left c.args.source.now) (g.Q.Source.left c.read.new.self) c.read.new.into c.in-Ok-eq0.field-0 (search rules) (search rules) c.in-Ok-eq0.ensures.bytes in
    (at_end.0, at_end.1, cut_off read taken c.args.frames.now between (c.in-Err-finish.ensures read taken between.after))

pub returns-in-Ok-feed-clause-read : goal.returns-in-Ok-feed-clause-read
returns-in-Ok-feed-clause-read g c = λ read taken between.
    let fed = c.in-Ok-feed.ensures.fed read taken between.after in
    (_, c.in-Ok.ensures.bytes.0, fed.0, fed.1)

pub returns-in-Err-TooLong-clause-read : goal.returns-in-Err-TooLong-clause-read
returns-in-Err-TooLong-clause-read g c = λ read taken between.
    let fed = (rw c.in-Err-TooLong.field-0-is at c.in-Err-TooLong.ensures.fed) read taken between.after in
    (_, c.in-Ok.ensures.bytes.0, fed.0, fed.1)

pub returns-in-Err-Memory-clause-read : goal.returns-in-Err-Memory-clause-read
returns-in-Err-Memory-clause-read g c = λ read taken between.
    (_, c.in-Ok.ensures.bytes.0, gave_some c.read.new.into c.in-Ok.count (search rules) (search rules))
