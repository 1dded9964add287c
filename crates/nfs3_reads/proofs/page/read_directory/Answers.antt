use Rattle.std.proofs.Common.{◌≡◌, ◌∙◌, sym, ap, List, ℕ, Some, None, drop}
use Rattle.ivy_base.specs.declared.key.Key.{Key}
use Rattle.nfs_model.specs.declared.replies.Fattr.{Fattr}
use Rattle.nfs_model.specs.declared.replies.Tail.TheVariants as tails
use Rattle.nfs_model.specs.declared.replies.Reply.TheVariants as reply
use Rattle.rpc_wire.specs.Callers.{identity_of}
use Rattle.nfs_model.specs.Pages.{placed, fitting, plain_length}
use Rattle.nfs3_objects.specs.Seen.{seen}
use Rattle.nfs3_reads.specs.Places.{places}
use Rattle.nfs3_reads.proofs.Replies.{reading_fails, start_decides, refused_page, given_page}
use Rattle.nfs3_reads.proofs.page.read_directory.Goals as goal

pub returns-in-Some : goal.returns-in-Some
returns-in-Some c =
    let t = c.args.tree.now in
    let view = c.args.view.now in
    let who = identity_of c.args.caller.now in
    let o = seen c.in-Ok.dir in
    c.refused-in-Some.ensures
    ∙ ap (λ (a : Fattr). reply.Refused c.in-Some.fault (tails.Attributes (Some a))) c.attributes.ensures
    ∙ refused_page t view who c.args.handle.now c.args.start.cookie c.args.start.verifier o c.args.count c.in-Some.fault c.in-Ok.ensures.ok
    (reading_fails t who o c.args.start.cookie c.args.start.verifier plain_length c.args.count c.in-Some.fault (sym c.reading_fault.ensures ∙ c.in-Some.is))

pub returns-in-Some-start_fault : goal.returns-in-Some-start_fault
returns-in-Some-start_fault c =
    let t = c.args.tree.now in
    let view = c.args.view.now in
    let who = identity_of c.args.caller.now in
    let o = seen c.in-Ok.dir in
    let readable : c.reading_fault.result ≡ None = c.in_default.is in
    c.refused-in-Some-start_fault.ensures
    ∙ ap (λ (a : Fattr). reply.Refused c.in-Some-start_fault.fault (tails.Attributes (Some a))) c.attributes.ensures
    ∙ refused_page t view who c.args.handle.now c.args.start.cookie c.args.start.verifier o c.args.count c.in-Some-start_fault.fault c.in-Ok.ensures.ok
    (start_decides t who o c.args.start.cookie c.args.start.verifier plain_length c.args.count c.in_ok-whole.whole.verifier (places c.behind-left.result)
    (sym c.reading_fault.ensures ∙ readable) c.in_ok-whole.ensures.verifier
    (c.behind-left.ensures ∙ ap (λ (all : List (List ℕ × Key)). drop c.args.start.cookie (placed 0 all)) (c.as_slice.ensures.value ∙ c.in_ok-whole.ensures.entries))
    ∙ sym c.start_fault.ensures ∙ c.in-Some-start_fault.is)

pub returns : goal.returns
returns c =
    let t = c.args.tree.now in
    let view = c.args.view.now in
    let who = identity_of c.args.caller.now in
    let o = seen c.in-Ok.dir in
    let left = c.behind-left.result in
    let page = c.fitting-page.result in
    let readable : c.reading_fault.result ≡ None = c.in_default.is in
    let begins : c.start_fault.result ≡ None = c.in_default-start_fault.is in
    let behind = c.behind-left.ensures ∙ ap (λ (all : List (List ℕ × Key)). drop c.args.start.cookie (placed 0 all)) (c.as_slice.ensures.value ∙ c.in_ok-whole.ensures.entries) in
    ap (λ (a : Fattr). reply.Directory (Some a) c.in_ok-whole.whole.verifier c.in_ok-plain_page.field-0 c.is_last.result) c.attributes.ensures
    ∙ given_page t view who c.args.handle.now c.args.start.cookie c.args.start.verifier o c.args.count c.in_ok-whole.whole.verifier (places left) (places page) c.in_ok-plain_page.field-0 c.is_last.result
    c.in-Ok.ensures.ok
    (start_decides t who o c.args.start.cookie c.args.start.verifier plain_length c.args.count c.in_ok-whole.whole.verifier (places left) (sym c.reading_fault.ensures ∙ readable) c.in_ok-whole.ensures.verifier behind ∙ sym c.start_fault.ensures ∙ begins)
    c.in_ok-whole.ensures.verifier
    behind
    (c.fitting-page.ensures ∙ ap (λ (room : ℕ). fitting plain_length room (places left)) c.room_for_entries.ensures)
    c.in_ok-plain_page.ensures
    c.is_last.ensures
