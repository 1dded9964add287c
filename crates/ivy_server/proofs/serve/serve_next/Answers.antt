use Rattle.ivy_server.proofs.Streams.{ends_before, ends_not_a_call, reply_served}
use Rattle.ivy_server.proofs.serve.serve_next.Goals as goal

pub returns-in-Reply-clause-served : goal.returns-in-Reply-clause-served
returns-in-Reply-clause-served g c = λ start left reads read taken serving in_order.
    reply_served _ start _ c.args.cache.now read taken serving c.args.message.now in_order c.serve_message.new.pass _ c.serve_message.new.cache c.in-Reply.reply c.in-Reply.is_cut c.in-Reply.ensures.came c.as_slice.result.now c.as_slice.ensures
    (g.W.Sink.contents c.send.new.sink) (g.W.Sink.faults c.send.new.sink) c.send.result c.send.ensures c.end_by.result c.end_by.ensures

pub returns-in-NotACall-clause-served : goal.returns-in-NotACall-clause-served
returns-in-NotACall-clause-served g c = λ start left reads read taken serving in_order.
    ends_not_a_call _ start _ c.args.cache.now read taken serving c.args.message.now in_order c.serve_message.new.pass _ c.serve_message.new.cache c.in-NotACall.ensures.came

pub returns-in-Memory-clause-served : goal.returns-in-Memory-clause-served
returns-in-Memory-clause-served g c = λ start left reads read taken serving in_order.
    ends_before _ start _ c.args.cache.now read taken serving c.args.message.now in_order c.serve_message.new.pass _ c.in-Memory.ensures.came.0 c.in-Memory.ensures.came.1
