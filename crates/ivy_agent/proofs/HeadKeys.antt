-- Where the head of a log lies is a key.
use Rattle.ivy_base.specs.declared.key.PubKey.{PubKey}
use Rattle.ivy_base.specs.Naming.{head_key_of}
use Rattle.ivy_base.proofs.NameLemmas.{length-digest, bytes-digest}
use Rattle.log_model.specs.Spelling.{IsKey}

pub head_is_key : (owner : PubKey) → IsKey (head_key_of owner)
head_is_key owner = record { size = length-digest owner.0; each = bytes-digest owner.0 }
