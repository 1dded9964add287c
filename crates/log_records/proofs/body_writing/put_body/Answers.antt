use Rattle.std.proofs.Common.{ap, ◌∙◌, append_assoc, ◌++◌}
use Rattle.wire_model.specs.Xdr.{opaque}
use Rattle.log_model.specs.Spelling.{body}
use Rattle.log_records.proofs.Operations.{set_spelled}
use Rattle.log_records.proofs.Put.{put_two}
use Rattle.log_records.proofs.body_writing.put_body.Goals as goal

pub returns-in-Link-clause-written : goal.returns-in-Link-clause-written
returns-in-Link-clause-written c = put_two _ _ _ c.put_place.ensures.written c.put_key.ensures.written (ap body c.in-Link.is)

pub returns-in-Rename-clause-written : goal.returns-in-Rename-clause-written
returns-in-Rename-clause-written c = put_two _ _ _ c.put_place-in-Rename.ensures.written c.put_place-in-Rename-2.ensures.written
    (ap body c.in-Rename.is ∙ append_assoc (c.in-Rename.dir.0 ++ opaque c.in-Rename.name) c.in-Rename.to_dir.0 (opaque c.in-Rename.to_name))

pub returns-in-Prepare-clause-written : goal.returns-in-Prepare-clause-written
returns-in-Prepare-clause-written c = put_two _ _ _ c.put_place-in-Prepare.ensures.written c.put_verifier.ensures.written (ap body c.in-Prepare.is)

pub returns-in-SetAttrs-clause-written : goal.returns-in-SetAttrs-clause-written
returns-in-SetAttrs-clause-written c = put_two _ _ _ c.put_key-in-SetAttrs.ensures.written c.put_change.ensures.written (ap body c.in-SetAttrs.is ∙ set_spelled c.in-SetAttrs.ino c.in-SetAttrs.change)
