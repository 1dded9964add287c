use Rattle.std.proofs.Common.{◌≡◌, ℕ, List, [], ◌++◌, refl, sym, ap, ◌∙◌, length, append_assoc}
use Rattle.std.proofs.lemmas.Bool.{eqb-true}
use Rattle.rpc_wire.specs.Streams.{frames_of}
use Rattle.rpc_wire.specs.declared.stream.Place.TheVariants as place
use Rattle.rpc_wire.proofs.FrameSteps.{feeds_nothing, feeds_then}
use Rattle.rpc_wire.proofs.FrameUndo.{grown_same, grown_then}
use Rattle.rpc_wire.proofs.FrameCode.{fed_all}
use Rattle.rpc_wire.proofs.stream.Stream.read.Goals as goal

pub steps-init : goal.steps-init
steps-init c = record {
  fed = ([], refl, feeds_nothing (frames_of c.args.self.now));
  grown = grown_same c.args.self.now c.args.self.now refl refl;
  same = λ e. refl;
}

pub returns-in_err-rest-clause-grown : goal.returns-in_err-rest-clause-grown
returns-in_err-rest-clause-grown c = grown_then c.args.self.now _ _ c.steps.invariant.grown c.in_err-rest.ensures.grown

pub steps-preserved : goal.steps-preserved
steps-preserved c =
    let f = c.steps.invariant.fed in
    let s = c.in_ok-rest.ensures.ok in
    record {
      fed = (
        f.0 ++ s.front,
        f.1 ∙ ap (λ (x : List ℕ). f.0 ++ x) s.whole ∙ sym (append_assoc f.0 s.front c.in_ok-rest.rest.now),
        feeds_then f.0 s.front (frames_of c.args.self.now) (frames_of c.steps.self) (frames_of c.step.new.self) f.2 s.feeds,
      );
      grown = grown_then c.args.self.now c.steps.self c.step.new.self c.steps.invariant.grown c.in_ok-rest.ensures.grown;
      same = λ e.
          let was = c.steps.invariant.same e in
          let still : c.steps.self.place ≡ place.TooLong = rw was e in
          (c.in_ok-rest.ensures.for_good still).1 ∙ was;
    }

pub returns-clause-ok : goal.returns-clause-ok
returns-clause-ok c =
    let f = c.steps.invariant.fed in
    let none : length c.steps.rest.now ≡ 0 = eqb-true (length c.steps.rest.now) 0 (sym c.steps-test.ensures) in
    fed_all f.0 c.steps.rest.now c.args.piece.now _ _ f.1 none f.2
