use Rattle.std.proofs.Common.{◌≡◌, false, ap, inl, inr}
use Rattle.inode_replay.specs.Bodies.{is_file_body}
use Rattle.inode_replay.proofs.Places.{others_store_none}
use Rattle.inode_replay.proofs.body.Body.stored.Goals as goal

pub returns-in-Text-clause-count : goal.returns-in-Text-clause-count
returns-in-Text-clause-count c =
    let other : is_file_body c.args.self.now ≡ false = elim c.in-Text.is [ inl e ↦ ap is_file_body e.1 | inr e ↦ ap is_file_body e ] in
    others_store_none c.args.self.now other
