use Rattle.std.proofs.Common.{◌≡◌, ◌+◌, ◌-◌, ◌≤◌, ◌++◌, length, take, drop, ap, ◌∙◌, arith, length-drop}
use Rattle.std.proofs.lemmas.List.{take_rest}
use Rattle.inode_replay.proofs.Onward.{overwritten_more}
use Rattle.inode_replay.proofs.bytes.SharedBytes.overwrite.Goals as goal

pub pieces-preserved : goal.pieces-preserved
pieces-preserved c =
    let bytes = c.args.bytes.now in
    let done = c.pieces.written in
    let n = c.in_ok-written.field-0 in
    let changed = c.pieces.changed in
    let rest : take (length bytes - done) (drop done bytes) ≡ drop done bytes = take_rest bytes done in
    let long : length (take (length bytes - done) (drop done bytes)) ≡ length bytes - done = ap length rest ∙ length-drop done bytes in
    let most : n ≤ length (take (length bytes - done) (drop done bytes)) = c.in_ok-written.ensures.count.1 in
    let before : done ≤ length bytes = c.pieces.invariant.within in
    let within : done + n ≤ length bytes = omega arith in
    let next = c.in_ok-written.ensures.written ∙ ap (λ l. take (c.args.offset + done) changed ++ take n l ++ drop (c.args.offset + done + n) changed) rest in
    record {
      within = within;
      so_far = overwritten_more c.args.self.now bytes c.args.offset done n changed c.write_within.new.self within c.pieces.invariant.so_far next;
    }
