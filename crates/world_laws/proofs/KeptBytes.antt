-- What may be saved is determined by its bytes.
use Rattle.hash_signature_model.specs.Saved.{IsSigner}
use Rattle.hss_keys.specs.ToldApart.{signers_told_apart}
use Rattle.agent_saves.proofs.Agents.{told_apart_by_bytes}
use Rattle.agent_saves.proofs.HssSaves.{counted}
use Rattle.world_model.specs.Agents.{hss_signing}
use Rattle.world_laws.specs.Laws.{KeptOnce}

pub kept_once : KeptOnce
kept_once k l f g e = told_apart_by_bytes hss_signing IsSigner signers_told_apart k l (counted k f) (counted l g) e
