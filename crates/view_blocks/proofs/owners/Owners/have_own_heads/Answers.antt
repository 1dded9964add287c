use Rattle.std.proofs.Common.{◌≡◌, ◌∙◌, ◌+◌, ap, sym, Bool, ◌&&◌, drop}
use Rattle.std.specs.Prelude.{not}
use Rattle.log_model.specs.View.{have_own_head_keys}
use Rattle.view_blocks.proofs.Heads.{own_heads_step}
use Rattle.view_blocks.proofs.owners.Owners.have_own_heads.Goals as goal

pub returns-then-contains : goal.returns-then-contains
returns-then-contains c =
    let keys = c.self.inside.keys.items in
    let step : have_own_head_keys (drop c.loop-i.i keys) ≡ (not c.contains.result && have_own_head_keys (drop (c.loop-i.i + 1) keys)) =
    own_heads_step keys c.deref-head-items.result.now c.deref.result.now c.loop-i.i _ c.contains.result (c.deref-head-items.ensures.value ∙ c.self.invariant.heads_are) (c.deref.ensures.value ∙ c.self.invariant.heads_are) c.loop-i-test.true c.contains.ensures.value in
    let e = c.loop-i.invariant ∙ step ∙ ap (λ (b : Bool). not b && have_own_head_keys (drop (c.loop-i.i + 1) keys)) c.if-contains.true in
    sym e ∙ ap have_own_head_keys c.self.view_is

pub loop-i-preserved : goal.loop-i-preserved
loop-i-preserved c =
    let keys = c.self.inside.keys.items in
    let step : have_own_head_keys (drop c.loop-i.i keys) ≡ (not c.contains.result && have_own_head_keys (drop (c.loop-i.i + 1) keys)) =
    own_heads_step keys c.deref-head-items.result.now c.deref.result.now c.loop-i.i _ c.contains.result (c.deref-head-items.ensures.value ∙ c.self.invariant.heads_are) (c.deref.ensures.value ∙ c.self.invariant.heads_are) c.loop-i-test.true c.contains.ensures.value in
    c.loop-i.invariant ∙ step ∙ ap (λ (b : Bool). not b && have_own_head_keys (drop (c.loop-i.i + 1) keys)) c.if-contains.false
