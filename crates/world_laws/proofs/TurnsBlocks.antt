-- A record's block is no public key: what stands among the blocks and the keys stands among the blocks.
use Rattle.std.proofs.Common.{◌≡◌, ⊎_elim, ℕ, ◌≤◌, List, ◌++◌, length, map, ap, ◌∙◌, arith, length-append, Contains}
use Rattle.std.specs.Prelude.{flat_map}
use Rattle.ivy_base.proofs.NameLemmas.{length-digest}
use Rattle.ivy_base.specs.declared.key.PubKey.{PubKey}
use Rattle.ivy_base.specs.Naming.{head_key_of}
use Rattle.wire_model.specs.Xdr.{array, moment, word}
use Rattle.log_model.specs.Chain.{IsChain, IsGood}
use Rattle.log_model.specs.Record.{Record}
use Rattle.log_model.specs.Spelling.{IsKey, body, record_block, record_kind, record_tag, vector_entry}
use Rattle.log_model.specs.Standing.{Stand, StandsAmong}
use Rattle.log_records.proofs.Standing.{block_is_met, stands_in_either}
use Rattle.log_model.specs.View.{View}
use Rattle.log_model.proofs.Lists.{each, each_from}
use Rattle.log_model.proofs.Part.{chain_good}
use Rattle.world_model.specs.Agents.{own_hss_key}
use Rattle.world_model.specs.World.{Participant, named_bytes}
use Rattle.world_model.specs.Logs.{Played}
use Rattle.world_laws.specs.Invariant.{IsKeptSo, IsSavedWell, Invariant}
use Rattle.world_laws.proofs.PublicKeys.{owner_is_key, word_octets}
use Rattle.world_laws.proofs.SignedHeads.{from_map}

word_size : (n : ℕ) → length (word n) ≡ 4
word_size n = (word_octets n).size

record_long : (r : Record) → IsKey r.prev → 64 ≤ length (record_block r)
record_long r key =
    let tagged : List ℕ = record_tag r.format ++ word (record_kind r.op) in
    let headed : List ℕ = tagged ++ (head_key_of r.owner).0 in
    let named : List ℕ = headed ++ r.prev.0 in
    let numbered : List ℕ = named ++ word r.seq in
    let timed : List ℕ = numbered ++ moment r.moment in
    let cited : List ℕ = array vector_entry r.vector in
    omega (
      arith,
      length-append (timed ++ cited) (body r.op),
      length-append timed cited,
      length-append (word (length r.vector)) (flat_map vector_entry r.vector),
      length-append numbered (moment r.moment),
      length-append (word r.moment.sec) (word r.moment.nsec),
      length-append named (word r.seq),
      length-append headed r.prev.0,
      length-append tagged (head_key_of r.owner).0,
      length-append (record_tag r.format) (word (record_kind r.op)),
      word_size (length r.vector),
      word_size r.moment.sec,
      word_size r.moment.nsec,
      word_size r.seq,
      word_size (record_kind r.op),
      length-digest r.owner.0,
      key.size,
    )

pub stand_apart : (met keys : List (List ℕ)) → ((k : List ℕ) → Contains keys k → length k ≡ 60) → (view : View) (owner : PubKey) (chain : List Record) → IsChain view owner chain → Stand (met ++ keys) chain → Stand met chain
stand_apart met keys size view owner chain is_chain stand = each_from (StandsAmong met) chain (λ r c. ⊎_elim
    (λ among. among)
    (λ key.
    let long = record_long r (each (IsGood view owner) chain r (chain_good view owner chain is_chain) c).spelled.prev in
    let short = size (record_block r) (block_is_met keys r key) in
    absurd (omega (arith, long, short)))
    (stands_in_either met keys r (each (StandsAmong (met ++ keys)) chain r stand c)))

-- the participants' public keys have 60 bytes
pub keys_short : (w : Played) → Invariant w → (k : List ℕ) → Contains (map (λ (p : Participant). (own_hss_key p.agent).0) w.0.participants) k → length k ≡ 60
keys_short w keeps k c =
    let found = from_map (λ (p : Participant). (own_hss_key p.agent).0) w.0.participants k c in
    let saved = each (IsKeptSo IsSavedWell) w.0.participants found.0 keeps.saved found.1 in
    ap length found.2 ∙ (owner_is_key found.0.agent.signer saved.3.agent.signer).size

pub stand_met : (w : Played) → Invariant w → (view : View) (owner : PubKey) (chain : List Record) → IsChain view owner chain → Stand (named_bytes w.0) chain → Stand w.0.met chain
stand_met w keeps view owner chain is_chain stand = stand_apart w.0.met (map (λ (p : Participant). (own_hss_key p.agent).0) w.0.participants) (keys_short w keeps) view owner chain is_chain stand
