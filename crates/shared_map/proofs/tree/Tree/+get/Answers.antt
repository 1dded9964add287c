use Rattle.std.proofs.Common.{rules, sym, ◌∙◌}
use Rattle.shared_map.proofs.Forks.{shorter, sorted_sides, found_left, found_here, found_right}
use Rattle.shared_map.proofs.tree.Tree.+get.Goals as goal

pub get-requires : goal.get-requires
get-requires g t c =
    let short = shorter c.in-Some.at.now c.args.self.now c.in-Some.ensures.top in
    let sorted = sorted_sides c.in-Some.at.now c.args.self.now c.in-Some.ensures.top g.K.MapKey.order g.met.K.MapKey.total c.requires in
    λ κs h. (search rules, (h.0, (h.1.0, (h.1.1, sorted.0))))

pub get-requires-in-Greater : goal.get-requires-in-Greater
get-requires-in-Greater g t c =
    let short = shorter c.in-Some.at.now c.args.self.now c.in-Some.ensures.top in
    let sorted = sorted_sides c.in-Some.at.now c.args.self.now c.in-Some.ensures.top g.K.MapKey.order g.met.K.MapKey.total c.requires in
    λ κs h. (search rules, (h.0, (h.1.0, (h.1.1, sorted.1))))

pub returns-in-Less : goal.returns-in-Less
returns-in-Less g t c =
    let lt = sym c.in-Less.ensures in
    c.get.ensures ∙ found_left c.in-Some.at.now c.args.self.now c.in-Some.ensures.top g.K.MapKey.order g.met.K.MapKey.total c.requires (g.Q.Sought.key c.args.key.now) lt

pub returns-in-Equal : goal.returns-in-Equal
returns-in-Equal g t c =
    let eq = sym c.in-Equal.ensures in
    found_here c.in-Some.at.now c.args.self.now c.in-Some.ensures.top g.K.MapKey.order g.met.K.MapKey.total c.requires (g.Q.Sought.key c.args.key.now) eq

pub returns-in-Greater : goal.returns-in-Greater
returns-in-Greater g t c =
    let gt = sym c.in-Greater.ensures in
    c.get-in-Greater.ensures ∙ found_right c.in-Some.at.now c.args.self.now c.in-Some.ensures.top g.K.MapKey.order g.met.K.MapKey.total c.requires (g.Q.Sought.key c.args.key.now) gt
