use Rattle.std.proofs.Common.{ap, sym, ◌∙◌, ◌||◌}
use Rattle.std.specs.List.{list_any}
use Rattle.dir_replay.specs.Inside.{stands_inside}
use Rattle.dir_replay.proofs.Inside.{tested_inside, named_inside}
use Rattle.dir_replay.proofs.names.Names.inside.Goals as goal

pub returns-then-is_directory-clause-inside : goal.returns-then-is_directory-clause-inside
returns-then-is_directory-clause-inside c =
    tested_inside c.args.self.now c.laws.ensures.sound c.args.x.now c.args.dir.now c.is_inside.result (sym c.if-is_directory.ensures) c.is_inside.ensures

pub returns-then-same-clause-inside : goal.returns-then-same-clause-inside
returns-then-same-clause-inside c =
    named_inside c.args.self.now c.laws.ensures.sound c.args.x.now c.args.dir.now c.same.result
    (c.if-same.true ∙ ap (λ b. b || list_any (stands_inside c.args.self.now c.args.x.now c.args.dir.now) c.args.self.now.names) c.if-same.ensures)

pub returns-else-same-clause-inside : goal.returns-else-same-clause-inside
returns-else-same-clause-inside c =
    named_inside c.args.self.now c.laws.ensures.sound c.args.x.now c.args.dir.now c.has_name_inside.result
    (c.has_name_inside.ensures ∙ ap (λ b. b || list_any (stands_inside c.args.self.now c.args.x.now c.args.dir.now) c.args.self.now.names) c.if-same.ensures)
