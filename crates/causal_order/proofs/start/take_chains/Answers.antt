use Rattle.std.proofs.Common.{◌≡◌, map, sym, ◌∙◌, subst}
use Rattle.log_records.specs.Records.{records_of}
use Rattle.causal_order.proofs.StartLogs.{AllApart, members_apart, same_owners, more_whole, empty_yet, chain_queued}
use Rattle.causal_order.proofs.start.take_chains.Goals as goal

pub take_in-requires-clause-empty : goal.take_in-requires-clause-empty
take_in-requires-clause-empty c =
    empty_yet c.args.base.now.view.now c.args.base.now.front.now (records_of c.args.base.now.held.now) c.args.chains.items c.chains.yielded c.chains.chain-iterator.rest.items c.next.new.self.rest.items c.in-Some.chain
    c.chains.invariant.whole c.in-Some.ensures.steps.0 c.requires.fetched c.requires.apart c.chains.logs c.chains.invariant.queued

pub chains-preserved : goal.chains-preserved
chains-preserved c =
    let view = c.args.base.now.view.now in
    let front = c.args.base.now.front.now in
    let held = records_of c.args.base.now.held.now in
    let members : map (λ l. l.owner) c.chains.logs ≡ c.args.base.now.view.now.members = c.chains.invariant.owners ∙ c.requires.owners in
    record {
      whole = more_whole view front held c.args.chains.items c.chains.yielded c.chains.chain-iterator.rest.items c.next.new.self.rest.items c.in-Some.chain c.chains.invariant.whole c.in-Some.ensures.steps.0;
      owners = same_owners view front held (records_of c.in-Some.chain.records) c.chains.logs c.take_in.new.logs c.take_in.ensures ∙ c.chains.invariant.owners;
      queued = chain_queued view front held c.args.chains.items c.chains.yielded c.chains.chain-iterator.rest.items c.next.new.self.rest.items c.in-Some.chain
          c.chains.invariant.whole c.in-Some.ensures.steps.0 c.requires.fetched c.requires.apart c.chains.logs c.take_in.new.logs
          (subst AllApart (sym members) (members_apart c.args.base.now.view.now.members c.requires.view.members_ascend)) c.chains.invariant.queued c.take_in.ensures;
    }
