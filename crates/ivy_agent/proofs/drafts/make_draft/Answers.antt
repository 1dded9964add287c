use Rattle.std.proofs.Common.{List, ap, ◌∙◌}
use Rattle.log_records.specs.declared.record.Record.{Record}
use Rattle.log_records.specs.Records.{records_of}
use Rattle.ivy_agent.specs.Newest.{newest_stamp}
use Rattle.ivy_agent.proofs.Drafting.{is_draft_of, newest_some, newest_few}
use Rattle.ivy_agent.proofs.drafts.make_draft.Goals as goal

pub follow-requires-clause-some : goal.follow-requires-clause-some
follow-requires-clause-some g c = newest_some g.S.Signs.signing c.args.kept.now c.owner-own.result c.args.now c.args.front.now c.args.ops.items _ c.newest_of-newest.result
    c.owner-own.ensures (ap records_of c.as_slice.ensures.value ∙ c.in_ok-written.ensures.records) c.newest_of-newest.ensures c.requires.log c.requires.few

pub follow-requires-clause-few : goal.follow-requires-clause-few
follow-requires-clause-few g c = newest_few g.S.Signs.signing c.args.kept.now c.owner-own.result c.args.now c.args.front.now c.args.ops.items _ c.newest_of-newest.result
    c.owner-own.ensures (ap records_of c.as_slice.ensures.value ∙ c.in_ok-written.ensures.records) c.newest_of-newest.ensures c.requires.log c.requires.few

pub returns-in-Ok : goal.returns-in-Ok
returns-in-Ok g c = is_draft_of g.S.Signs.signing c.args.kept.now c.args.front.now c.args.now c.args.ops.items _
    c.owner-own.result c.in_ok-written.written.posts.items c.newest_of-newest.result c.in-Ok.ensures.newest c.owner-own.ensures c.in_ok-written.ensures.records c.in_ok-written.ensures.posts
    (c.newest_of-newest.ensures ∙ ap (λ (l : List Record). newest_stamp (records_of l)) c.as_slice.ensures.value) c.in-Ok.ensures.signed c.in-Ok.ensures.front c.in-Ok.ensures.floor
