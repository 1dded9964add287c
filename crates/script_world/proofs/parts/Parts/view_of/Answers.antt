use Rattle.std.proofs.Common.{true, false, refl, sym, subst}
use Rattle.script_world.specs.PartsState.{HasParts}
use Rattle.world_model.specs.Logs.ViewLine.{known}
use Rattle.script_world.proofs.Making.{keys_in, made_of, no_keys_in, no_such_former, no_such_member, some_keys, viewed}
use Rattle.script_world.proofs.parts.Parts.view_of.Goals as goal

pub returns-then-is_some : goal.returns-then-is_some
returns-then-is_some c = λ w has judged. known (viewed _ c.view_named.result c.args.self.now c.args.name.now c.args.name.now true refl c.view_named.ensures c.if-is_some.ensures w.0 has)

pub returns-in_default : goal.returns-in_default
returns-in_default c = λ w has judged.
    let from : HasParts w.0 _ = subst (HasParts w.0) (sym c.self.view_is) has in
    no_such_member judged w _ from c.args.name.now c.args.members.now c.args.former.now
    (no_keys_in _ c.in_ok-members.field-0 c.self.inside.participants c.args.members.now c.in_ok-members.ensures w.0 from.participants c.in_default.is)

pub returns-in_default-2 : goal.returns-in_default-2
returns-in_default-2 c = λ w has judged.
    let from : HasParts w.0 _ = subst (HasParts w.0) (sym c.self.view_is) has in
    no_such_former judged w _ from c.args.name.now c.args.members.now c.args.former.now
    (no_keys_in _ c.in_ok-former.field-0 c.self.inside.participants c.args.former.now c.in_ok-former.ensures w.0 from.participants c.in_default-2.is)

pub make_view-requires : goal.make_view-requires
make_view-requires c = some_keys _ c.in_ok-members.field-0 c.self.inside.participants c.args.members.now c.in_ok-members.ensures c.in-Some.members c.in-Some.is c.requires

pub returns : goal.returns
returns c =
    made_of c.args.self.now c.args.name.now c.args.members.now c.args.former.now c.in-Some.members.items c.in-Some-2.former.items c.make_view.result
    (λ w has.
    let from : HasParts w _ = subst (HasParts w) (sym c.self.view_is) has in
    keys_in _ c.in_ok-members.field-0 c.self.inside.participants c.args.members.now c.in_ok-members.ensures w from.participants c.in-Some.members c.in-Some.is)
    (λ w has.
    let from : HasParts w _ = subst (HasParts w) (sym c.self.view_is) has in
    keys_in _ c.in_ok-former.field-0 c.self.inside.participants c.args.former.now c.in_ok-former.ensures w from.participants c.in-Some-2.former c.in-Some-2.is)
    (viewed _ c.view_named.result c.args.self.now c.args.name.now c.args.name.now false refl c.view_named.ensures c.if-is_some.ensures) c.make_view.ensures
