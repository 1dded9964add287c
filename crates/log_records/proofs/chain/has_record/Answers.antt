use Rattle.std.proofs.Common.{◌≡◌, ℕ, refl, ap, ◌∙◌, below_more}
use Rattle.log_model.specs.Record.{Record}
use Rattle.log_model.specs.Rank.{own_entry}
use Rattle.log_model.specs.Heads.{stamp}
use Rattle.log_records.specs.Records.{record_of, records_of}
use Rattle.log_records.proofs.Walks.{HasAt, found_at, same_at}
use Rattle.log_records.proofs.KeptChains.{kept_at, kept_within}
use Rattle.log_records.proofs.chain.has_record.Goals as goal

pub returns-then-is_stamped : goal.returns-then-is_stamped
returns-then-is_stamped c =
    let chain = c.args.chain.now in
    let x = c.index-chain-i.result in (
      λ t. found_at (records_of chain) c.loop-i.i (record_of x) (stamp c.args.entry.now.seq c.args.entry.now.name) (kept_within chain c.loop-i.i c.loop-i-test.true) (kept_at chain c.loop-i.i x c.index-chain-i.is)
          (c.is_stamped.ensures.0 c.if-is_stamped.true),
      λ h. refl,
    )

pub loop-i-preserved : goal.loop-i-preserved
loop-i-preserved c =
    let chain = c.args.chain.now in
    let y = c.index-chain-i.result in
    below_more (λ (k : ℕ). (x : Record) → HasAt (records_of chain) k x → (own_entry x).1 ≡ stamp c.args.entry.now.seq c.args.entry.now.name → ⊥) c.loop-i.i c.loop-i.invariant
    (λ x at e.
    let same = same_at (records_of chain) c.loop-i.i (record_of y) x (kept_within chain c.loop-i.i c.loop-i-test.true) (kept_at chain c.loop-i.i y c.index-chain-i.is) at in
    let t = c.is_stamped.ensures.1 (ap (λ (z : Record). (own_entry z).1) same ∙ e) in
    absurd (cc (t, c.if-is_stamped.false)))
