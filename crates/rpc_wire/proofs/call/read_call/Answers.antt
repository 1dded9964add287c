use Rattle.std.proofs.Common.{refl}
use Rattle.rpc_wire.specs.Parts.{auth_of}
use Rattle.rpc_wire.proofs.Calls.{there, not_there, nothing_opens, other_kind, other_version, no_body, message_of, good_call}
use Rattle.rpc_wire.proofs.call.read_call.Goals as goal

pub returns-in_default-clause-heading : goal.returns-in_default-clause-heading
returns-in_default-clause-heading c = nothing_opens (not_there c.read_words-xid.ensures c.of-parts.ensures c.in_default.ensures)

pub returns-then-kind-ne-CALL-clause-heading : goal.returns-then-kind-ne-CALL-clause-heading
returns-then-kind-ne-CALL-clause-heading c = other_kind (there c.read_words-xid.ensures c.of-parts.ensures c.in-Some.ensures) c.if-kind-ne-CALL.true

pub returns-then-version-ne-RPC_VERSION-clause-heading : goal.returns-then-version-ne-RPC_VERSION-clause-heading
returns-then-version-ne-RPC_VERSION-clause-heading c =
    other_version (there c.read_words-xid.ensures c.of-parts.ensures c.in-Some.ensures) c.if-kind-ne-CALL.false c.if-version-ne-RPC_VERSION.true

pub returns-in-Some-rest-clause-heading : goal.returns-in-Some-rest-clause-heading
returns-in-Some-rest-clause-heading c = record {
  call = message_of c.read_words-xid.result.0 ((((c.read_body-program.result.0, c.read_body-program.result.1), c.read_body-program.result.2), auth_of c.read_body-program.result.3), c.read_body-program.ensures.0) c.in-Some-rest.args.now;
  is_call = good_call (there c.read_words-xid.ensures c.of-parts.ensures c.in-Some.ensures) c.if-kind-ne-CALL.false c.if-version-ne-RPC_VERSION.false
      (there c.read_body-program.ensures.1 c.in-Some.ensures c.in-Some-rest.ensures);
  xid = refl;
  program = refl;
  version = refl;
  procedure = refl;
  caller = c.caller_of.ensures.caller;
  arguments = refl;
}

pub returns-in-None-clause-heading : goal.returns-in-None-clause-heading
returns-in-None-clause-heading c =
    no_body (there c.read_words-xid.ensures c.of-parts.ensures c.in-Some.ensures) c.if-version-ne-RPC_VERSION.false
    (not_there c.read_body-program.ensures.1 c.in-Some.ensures c.in-None.ensures)
