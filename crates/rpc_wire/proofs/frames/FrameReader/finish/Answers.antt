use Rattle.std.proofs.Common.{◌≡◌, ◌++◌, [], true, false, sym, subst}
use Rattle.rpc_wire.specs.Frames.{IsSplit}
use Rattle.rpc_wire.specs.FrameReading.{Frames, IsAfter}
use Rattle.rpc_wire.specs.declared.stream.Place.TheVariants as place
use Rattle.rpc_wire.proofs.FrameCode.{cut_at}
use Rattle.rpc_wire.proofs.frames.FrameReader.finish.Goals as goal

pub returns-else-is_between : goal.returns-else-is_between
returns-else-is_between c fed taken after split =
    let stream = c.self.inside.stream in
    let After : Frames → Type 0 = λ r. IsAfter fed taken r in
    let Split : Frames → Type 0 = λ r. IsSplit fed (taken ++ r.waiting) [] in
    cut_at stream.place stream.body.items fed (taken ++ stream.whole.items) (λ (e : stream.place ≡ place.Between). let no : false ≡ true = c.if-is_between.ensures.1 e in cc no)
    (subst After (sym c.self.view_is) after) (subst Split (sym c.self.view_is) split)
