use Rattle.std.proofs.Common.{◌≡◌, ◌<◌, ◌≤◌, length, take, ap, ◌∙◌, arith}
use Rattle.rpc_wire.specs.declared.stream.Stream.{Stream}
use Rattle.rpc_wire.proofs.FrameUndo.{undone_cut, undone_same}
use Rattle.rpc_wire.proofs.stream.Stream.undo.Goals as goal
use Rattle.rpc_wire.proofs.stream.Stream.undo.Goals.{then-whole-len+in-Some, then-whole-len+in_default, else-whole-len}

pub returns-clause-messages : goal.returns-clause-messages
returns-clause-messages c messages bytes l m g =
    elim c.if-whole-len.branch [
      | then-whole-len+in-Some w ↦
          let before : c.args.whole < length c.args.self.now.whole.items = omega arith in
          let final : c.truncate-2.new.self.items ≡ take c.args.body w.in-Some.message = c.truncate-2.ensures.items ∙ ap (λ (s : Stream). take c.args.body s.body.items) w.self-is ∙ ap (take c.args.body) w.into_vec.ensures in
          let p = undone_cut c.args.self.now messages bytes c.args.whole c.args.body w.pop_back.new.self.items w.truncate.new.self.items w.in-Some.message c.truncate-2.new.self.items l m g before w.truncate.ensures.items w.in-Some.ensures.items final in
          (ap (λ (s : Stream). s.whole.items) w.self-is ∙ p.0, p.1)
      | then-whole-len+in_default w ↦ absurd (omega (arith, w.in_default.ensures.cases.0, w.truncate.ensures.len))
      | else-whole-len w ↦
          let before : length c.args.self.now.whole.items ≤ c.args.whole = omega arith in
          let final : c.truncate-2.new.self.items ≡ take c.args.body c.args.self.now.body.items = c.truncate-2.ensures.items ∙ ap (λ (s : Stream). take c.args.body s.body.items) w.self-is in
          let p = undone_same c.args.self.now messages bytes c.args.whole c.args.body c.truncate-2.new.self.items l m g before final in
          (ap (λ (s : Stream). s.whole.items) w.self-is ∙ p.0, p.1)
    ]
