use Rattle.std.proofs.Common.{◌≡◌, ℕ, List, ap, ◌∙◌, arith, length, slice_index}
use Rattle.std.proofs.lemmas.List.{length-map}
use Rattle.sha2.specs.Sha256.{add_state, compress, initial_hash_256, rounds}
use Rattle.sha2.proofs.Schedule256.{IsWindow_first}
use Rattle.sha256_lanes.specs.Lanes.{lane}
use Rattle.sha256_lanes.proofs.block.compress.Goals as goal

pub returns : goal.returns
unfolding compress rounds
returns c j below = λ b words.
    let h = initial_hash_256 in
    let w = lane j c.args.words.now in
    let long : length w ≡ 16 = omega (arith, length-map c.args.words.now (λ (v : List ℕ). slice_index v j)) in
    let window = IsWindow_first b w long words in
    let s1 = c.four_first-v.ensures j below b h window (c.start.ensures j below) in
    let s2 = c.four_first-v-2.ensures j below b h window s1 in
    let s3 = c.four_first-v-3.ensures j below b h window s2 in
    let s4 = c.four_first-v-4.ensures j below b h window s3 in
    let t1 = c.turn_steps-v.ensures j below b h (window, s4) in
    let t2 = c.turn_steps-v-2.ensures j below b h t1 in
    let t3 = c.turn_steps.ensures j below b h t2 in
    c.add_start.ensures j below ∙ ap (add_state h) t3.1
