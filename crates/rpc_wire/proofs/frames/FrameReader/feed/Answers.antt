use Rattle.std.proofs.Common.{◌≡◌, ◌++◌, true, false, refl, sym, subst}
use Rattle.rpc_wire.specs.FrameReading.{Exceeded, Frames, IsAfter}
use Rattle.rpc_wire.specs.Streams.{frames_of}
use Rattle.rpc_wire.proofs.FrameCode.{split_at, too_long_at}
use Rattle.rpc_wire.proofs.frames.FrameReader.feed.Goals as goal
use Rattle.rpc_wire.proofs.frames.FrameReader.feed.Goals.{in-Err, in-Ok, in-Ok-2}

pub returns-clause-fed : goal.returns-clause-fed
returns-clause-fed c fed taken after =
    let After : Frames → Type 0 = λ r. IsAfter fed taken r in
    let before : IsAfter fed taken (frames_of c.self.inside.stream) = subst After (sym c.self.view_is) after in
    let now = frames_of c.read_whole.new.self in
    elim c.match-read_whole.branch [
      | in-Err w ↦ rw w.result-is tt
      | in-Ok w ↦
          let stands : IsAfter (fed ++ c.args.piece.now) taken now = w.in-Ok.ensures.ok fed taken before in
          let over : now.part ≡ Exceeded = w.if-is_too_long.ensures.0 refl in
          rw w.result-is (stands, too_long_at now.part (fed ++ c.args.piece.now) (taken ++ now.waiting) over stands, over)
      | in-Ok-2 w ↦
          let stands : IsAfter (fed ++ c.args.piece.now) taken now = w.in-Ok.ensures.ok fed taken before in
          rw w.result-is (stands, split_at now.part (fed ++ c.args.piece.now) (taken ++ now.waiting) (λ (e : now.part ≡ Exceeded). let no : false ≡ true = w.if-is_too_long.ensures.1 e in cc no) stands)
    ]
