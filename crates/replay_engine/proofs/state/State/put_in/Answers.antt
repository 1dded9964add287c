use Rattle.std.proofs.Common.{◌≡◌, ◌++◌, ◌+◌, ◌/◌, ap, ◌∙◌, take, drop, arith}
use Rattle.log_records.specs.Records.{records_of}
use Rattle.replay_engine.proofs.Kept.{seen_put, seen_drop, whole_again, seen_within}
use Rattle.replay_engine.proofs.state.State.put_in.Goals as goal

pub returns-clause-records : goal.returns-clause-records
returns-clause-records c =
    seen_put c.args.place c.args.self.now.records.items c.args.tail.items c.put_behind-2.new.list.items
    (c.put_behind-2.ensures.items ∙ ap (λ l. l ++ c.args.tail.items) (c.in-Ok.ensures.items ∙ ap (λ l. take c.args.place l) c.in_ok-reserve.ensures.items))

pub returns-clause-old : goal.returns-clause-old
returns-clause-old c =
    let rs = c.args.self.now.records in
    let rows = seen_put c.args.place rs.items c.args.tail.items c.put_behind-2.new.list.items
    (c.put_behind-2.ensures.items ∙ ap (λ l. l ++ c.args.tail.items) (c.in-Ok.ensures.items ∙ ap (λ l. take c.args.place l) c.in_ok-reserve.ensures.items)) in
    let tail : records_of c.in-Ok.tail.items ≡ drop c.args.place (records_of rs.items) = ap records_of (c.in-Ok.ensures.tail ∙ ap (λ l. drop c.args.place l) c.in_ok-reserve.ensures.items) ∙ seen_drop c.args.place rs.items in
    let trees = c.put_behind-3.ensures.items ∙ ap (λ l. l ++ c.args.replayed.passed.items) (c.in_ok-old_checkpoints.ensures.items ∙ ap (λ l. take (c.args.place / 64 + 1) l) c.in_ok-reserve-2.ensures.items) in
    let after = c.in_ok-old_checkpoints.ensures.tail ∙ ap (λ l. drop (c.args.place / 64 + 1) l) c.in_ok-reserve-2.ensures.items in
    let held = whole_again c.args.place (records_of rs.items) (records_of c.args.tail.items) (records_of c.put_behind-2.new.list.items) (records_of c.in-Ok.tail.items) (seen_within c.args.place rs.items (omega (arith, c.requires.place, rs.ok.0))) rows tail in
    let checkpoints = whole_again (c.args.place / 64 + 1) c.args.self.now.checkpoints.items c.args.replayed.passed.items c.put_behind-3.new.list.items c.in_ok-old_checkpoints.old_checkpoints.items (omega (arith, c.requires.checkpoints, c.args.self.now.checkpoints.ok.0)) trees after in
    λ i. record { held = held i; tree = c.replace.ensures.value i; checkpoints = checkpoints i }
