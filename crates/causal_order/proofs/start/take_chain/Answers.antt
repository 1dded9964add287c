use Rattle.std.proofs.Common.{refl, sym, ◌∙◌, arith}
use Rattle.log_records.specs.Records.{records_of}
use Rattle.causal_order.proofs.StartChains.{fronts, front_news, front_owner, front_extends, front_joins, front_newest, front_rank, stays, takes}
use Rattle.causal_order.proofs.start.take_chain.Goals as goal

pub joins-requires-clause-owned : goal.joins-requires-clause-owned
joins-requires-clause-owned c =
    let held = records_of c.args.base.now.held.now in
    let log = c.args.log.now in
    front_owner c.args.base.now.view.now c.args.base.now.front.now held (records_of c.args.chain.records) log c.requires.kept c.requires.owned (c.requires.held.chains log.owner) c.requires.fetched
    c.news-queue.result.items (rw c.into_vec.ensures at c.news-queue.ensures) c.in-Some.first.now (fronts c.news-queue.result.items c.in-Some.first.now c.in-Some.ensures.item.3.0 c.in-Some.ensures.lookup)

pub joins-requires-clause-spelled : goal.joins-requires-clause-spelled
joins-requires-clause-spelled c =
    let held = records_of c.args.base.now.held.now in
    let log = c.args.log.now in
    (front_news c.args.base.now.view.now c.args.base.now.front.now held (records_of c.args.chain.records) log c.requires.kept c.requires.owned (c.requires.held.chains log.owner) c.requires.fetched
    c.news-queue.result.items (rw c.into_vec.ensures at c.news-queue.ensures) c.in-Some.first.now (fronts c.news-queue.result.items c.in-Some.first.now c.in-Some.ensures.item.3.0 c.in-Some.ensures.lookup)).good.spelled

pub returns-then-not-joins-clause-queued : goal.returns-then-not-joins-clause-queued
returns-then-not-joins-clause-queued c =
    let held = records_of c.args.base.now.held.now in
    let log = c.args.log.now in
    stays c.args.base.now.view.now c.args.base.now.front.now held (records_of c.args.chain.records) log c.requires.kept c.requires.owned (c.requires.held.chains log.owner) c.requires.fetched c.requires.empty
    (λ q extends d.
    let yes = c.joins.ensures.1 (front_joins c.args.base.now.view.now c.args.base.now.front.now held (records_of c.args.chain.records) log c.requires.kept c.requires.owned (c.requires.held.chains log.owner) c.requires.fetched
    c.news-queue.result.items (rw c.into_vec.ensures at c.news-queue.ensures) c.in-Some.first.now (fronts c.news-queue.result.items c.in-Some.first.now c.in-Some.ensures.item.3.0 c.in-Some.ensures.lookup) extends) in
    absurd (let no = sym yes ∙ c.if-not-joins.true in cc))

pub rank-requires : goal.rank-requires
rank-requires c =
    let held = records_of c.args.base.now.held.now in
    let log = c.args.log.now in
    let short = (front_news c.args.base.now.view.now c.args.base.now.front.now held (records_of c.args.chain.records) log c.requires.kept c.requires.owned (c.requires.held.chains log.owner) c.requires.fetched
    c.news-queue.result.items (rw c.into_vec.ensures at c.news-queue.ensures) c.in-Some.first.now (fronts c.news-queue.result.items c.in-Some.first.now c.in-Some.ensures.item.3.0 c.in-Some.ensures.lookup)).good.spelled.short in
    omega (arith, short)

pub returns-clause-queued : goal.returns-clause-queued
returns-clause-queued c =
    let view = c.args.base.now.view.now in
    let front = c.args.base.now.front.now in
    let held = records_of c.args.base.now.held.now in
    let log = c.args.log.now in
    let chain = records_of c.args.chain.records in
    let items = c.news-queue.result.items in
    let first = c.in-Some.first.now in
    let f = fronts c.news-queue.result.items c.in-Some.first.now c.in-Some.ensures.item.3.0 c.in-Some.ensures.lookup in
    takes view front held chain log c.requires.kept c.requires.owned (c.requires.held.chains log.owner) c.requires.fetched _ refl
    record {
      key = c.requires.kept.key;
      base = c.requires.kept.base;
      places = c.requires.kept.places;
      tip = c.requires.kept.tip;
      last = front_newest view front held chain log c.requires.kept c.requires.owned (c.requires.held.chains log.owner) c.requires.fetched items (rw c.into_vec.ensures at c.news-queue.ensures) first f c.args.chain.head.name c.requires.named;
      next = front_rank view front held chain log c.requires.kept c.requires.owned (c.requires.held.chains log.owner) c.requires.fetched items (rw c.into_vec.ensures at c.news-queue.ensures) first f c.rank.result c.rank.ensures;
    }
    (rw c.into_vec.ensures at c.news-queue.ensures)
    (front_extends view front held chain log c.requires.kept c.requires.owned (c.requires.held.chains log.owner) c.requires.fetched items (rw c.into_vec.ensures at c.news-queue.ensures) first f (c.joins.ensures.0 c.if-not-joins.false))
