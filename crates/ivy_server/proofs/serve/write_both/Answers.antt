use Rattle.ivy_server.proofs.Sending.{sent_first, sent_second}
use Rattle.ivy_server.proofs.serve.write_both.Goals as goal

pub returns-in-Ok : goal.returns-in-Ok
returns-in-Ok g c = sent_second c.args.reply.now c.args.front.now c.requires (record { held = g.W.Sink.contents c.args.sink.now; faults = g.W.Sink.faults c.args.sink.now })
    (record { held = g.W.Sink.contents c.write_all.new.sink; faults = g.W.Sink.faults c.write_all.new.sink })
    (record { held = g.W.Sink.contents c.write_all-in-Ok.new.sink; faults = g.W.Sink.faults c.write_all-in-Ok.new.sink }) c.in-Ok.field-0
    (record { ok = c.in-Ok.ensures.ok; front = c.in-Ok.ensures.front; failed = c.in-Ok.ensures.failed; later = c.in-Ok.ensures.later }) c.write_all-in-Ok.result
    (record { ok = c.write_all-in-Ok.ensures.ok; front = c.write_all-in-Ok.ensures.front; failed = c.write_all-in-Ok.ensures.failed; later = c.write_all-in-Ok.ensures.later })

pub returns-in-Err : goal.returns-in-Err
returns-in-Err g c = sent_first c.args.reply.now c.args.front.now c.requires (record { held = g.W.Sink.contents c.args.sink.now; faults = g.W.Sink.faults c.args.sink.now })
    (record { held = g.W.Sink.contents c.write_all.new.sink; faults = g.W.Sink.faults c.write_all.new.sink }) c.in-Err.fault
    (record { ok = c.in-Err.ensures.ok; front = c.in-Err.ensures.front; failed = c.in-Err.ensures.failed; later = c.in-Err.ensures.later })
