use Rattle.std.proofs.Common.{◌≡◌, true, false, ◌∙◌, subst, rules, MatchBool}
use Rattle.std.specs.Prelude.{◌≢◌}
use Rattle.dht_ids.specs.declared.ask.Answer.TheVariants as answer
use Rattle.ring_nodes.proofs.Renewing.{answer_near, drops_left, drops_one, ends_alone, ends_call, less_suc, stabilises_first}
use Rattle.ring_nodes.proofs.stabilising.stabilise.Goals as goal

pub silent-init : goal.silent-init
silent-init g c = stabilises_first (g.J.Judge.judges c.args.judge.now) c.args.peer.now c.args.nodes.now

pub renew-requires-clause-near : goal.renew-requires-clause-near
renew-requires-clause-near g c = answer_near (g.J.Judge.judges c.args.judge.now) c.silent.nodes c.ask.new.self c.in-Some.first c.in_ok-heard.heard c.in_ok-heard.ensures.fate

pub returns-then-not-is_silent-clause-stabilises : goal.returns-then-not-is_silent-clause-stabilises
returns-then-not-is_silent-clause-stabilises g c =
    let speaks : c.is_silent.result ≡ false = search rules in
    ends_call (g.J.Judge.judges c.args.judge.now) c.args.peer.now c.args.nodes.now c.silent.nodes c.silent.invariant c.first.result c.first.ensures.first c.in-Some.first c.in-Some.is c.are_sound.ensures.apart c.ask.new.self c.renew.new.self c.in_ok-heard.heard c.in_ok-heard.ensures.fate c.in_ok-renew.ensures.changes c.notify_first.new.nodes c.notify_first.result
    (subst (λ b. MatchBool b (c.in_ok-heard.heard ≡ answer.Silent) (c.in_ok-heard.heard ≢ answer.Silent)) speaks c.is_silent.ensures) c.notify_first.ensures.notifies

pub silent-smaller : goal.silent-smaller
silent-smaller g c =
    let silent : c.is_silent.result ≡ true = search rules in
    less_suc _ _ (drops_left (g.J.Judge.judges c.args.judge.now) c.args.peer.now c.args.nodes.now c.silent.nodes c.silent.invariant c.first.result c.first.ensures.first c.in-Some.first c.in-Some.is c.are_sound.ensures.apart c.ask.new.self c.renew.new.self c.in_ok-heard.heard c.in_ok-heard.ensures.fate c.in_ok-renew.ensures.changes
    (subst (λ b. MatchBool b (c.in_ok-heard.heard ≡ answer.Silent) (c.in_ok-heard.heard ≢ answer.Silent)) silent c.is_silent.ensures))

pub silent-preserved : goal.silent-preserved
silent-preserved g c =
    let silent : c.is_silent.result ≡ true = search rules in
    drops_one (g.J.Judge.judges c.args.judge.now) c.args.peer.now c.args.nodes.now c.silent.nodes c.silent.invariant c.first.result c.first.ensures.first c.in-Some.first c.in-Some.is c.are_sound.ensures.apart c.ask.new.self c.renew.new.self c.in_ok-heard.heard c.in_ok-heard.ensures.fate c.in_ok-renew.ensures.changes (c.renew.ensures.made ∙ c.ask.ensures.made)
    (subst (λ b. MatchBool b (c.in_ok-heard.heard ≡ answer.Silent) (c.in_ok-heard.heard ≢ answer.Silent)) silent c.is_silent.ensures)

pub returns-clause-stabilises : goal.returns-clause-stabilises
returns-clause-stabilises g c = ends_alone (g.J.Judge.judges c.args.judge.now) c.args.peer.now c.args.nodes.now c.silent.nodes c.silent.invariant c.first.result c.first.ensures.first c.in_default.is
