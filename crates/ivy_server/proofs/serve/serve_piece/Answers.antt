use Rattle.std.proofs.Common.{refl}
use Rattle.ivy_server.proofs.Waiting.{piece_ends, waiting_ended, waiting_served}
use Rattle.ivy_server.proofs.serve.serve_piece.Goals as goal

pub returns-in-Some-clause-served : goal.returns-in-Some-clause-served
returns-in-Some-clause-served g c = λ start on.
    piece_ends _ start _ c.args.cache.now c.args.frames.now on (g.Q.Source.left c.read_piece-read.new.source) (g.Q.Source.faults c.read_piece-read.new.source) c.read_piece-read.ensures.later c.read_piece-read.new.frames
    c.read_piece-read.result (c.read_piece-read.ensures.read on.read on.taken on.between) c.in-Some.how c.end_of.result c.end_of.ensures c.in-Some.is

pub returns-in-Some-ended-clause-served : goal.returns-in-Some-ended-clause-served
returns-in-Some-ended-clause-served g c = λ start on.
    waiting_ended _ start _ c.args.cache.now c.args.frames.now on (g.Q.Source.left c.read_piece-read.new.source) (g.Q.Source.faults c.read_piece-read.new.source) c.read_piece-read.ensures.later c.read_piece-read.new.frames
    c.read_piece-read.result (c.read_piece-read.ensures.read on.read on.taken on.between) c.end_of.result c.end_of.ensures c.in_default.is _ c.in-Some-ended.how
    (c.in-Some-ended.ensures.served start (g.Q.Source.left c.read_piece-read.new.source) (g.Q.Source.faults c.read_piece-read.new.source))

pub returns-clause-served : goal.returns-clause-served
returns-clause-served g c = λ start on.
    waiting_served _ start _ c.args.cache.now c.args.frames.now on (g.Q.Source.left c.read_piece-read.new.source) (g.Q.Source.faults c.read_piece-read.new.source) c.read_piece-read.ensures.later c.read_piece-read.new.frames
    c.read_piece-read.result (c.read_piece-read.ensures.read on.read on.taken on.between) c.end_of.result c.end_of.ensures c.in_default.is _ c.serve_waiting-ended.new.cache c.serve_waiting-ended.new.frames
    (c.in_default-ended.ensures.waiting refl)
    (c.in_default-ended.ensures.served start (g.Q.Source.left c.read_piece-read.new.source) (g.Q.Source.faults c.read_piece-read.new.source)) c.end_behind.result c.end_behind.ensures
