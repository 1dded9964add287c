-- Chains as they are kept, whose records the definitions see one by one.
use Rattle.std.proofs.Common.{◌≡◌, ℕ, ◌+◌, ◌-◌, ◌<◌, Bool, List, [], ◌∷◌, length, get_or, Option, Some, None, refl, sym, ap, ◌∙◌, subst, arith}
use Rattle.std.specs.Prelude.{◌↔◌, IsTrue, IfSome, option_map}
use Rattle.std.proofs.Math.ListN.{get_or-map}
use Rattle.std.proofs.lemmas.List.{length-map}
use Rattle.ivy_base.specs.declared.key.Key.{Key}
use Rattle.ivy_base.specs.Naming.{head_key_of}
use Rattle.log_model.specs.Vector.{Stamp, stamp_at, Dominates}
use Rattle.log_model.specs.Record.{Record}
use Rattle.log_model.specs.Spelling.{HasSpelling}
use Rattle.log_model.specs.Chain.{Follows}
use Rattle.log_model.specs.Fetched.{Edge, owner_of, MayBeNext, KnowsEdge}
use Rattle.version_vectors.specs.declared.entry.Entry.{Entry}
use Rattle.version_vectors.specs.Entries.{entry_of}
use Rattle.log_records.specs.declared.record.Record as kept
use Rattle.log_records.specs.Records.{record_of, records_of}
use Rattle.log_records.specs.Batches.{AreOfOneOwner}
use Rattle.log_records.proofs.Walks.{HasAt, owned_at}
use Rattle.log_records.proofs.Knowing.{knows, knows_before}

pub kept_at : (xs : List kept.Record) (i : ℕ) (x : kept.Record) → x ≡ get_or xs i x → HasAt (records_of xs) i (record_of x)
kept_at xs i x at = get_or-map record_of xs i x ∙ ap record_of (sym at)

pub kept_within : (xs : List kept.Record) (i : ℕ) → i < length xs → i < length (records_of xs)
kept_within xs i lt = omega (arith, length-map xs record_of)

pub kept_owner : (xs : List kept.Record) (i : ℕ) (x : kept.Record) → AreOfOneOwner (records_of xs) → i < length xs → x ≡ get_or xs i x → x.owner ≡ owner_of (records_of xs)
kept_owner xs i x one lt at = owned_at (records_of xs) i (record_of x) one (kept_within xs i lt) (kept_at xs i x at)

pub kept_size : (xs : List kept.Record) → AreOfOneOwner (records_of xs) → length (records_of xs) ≡ length xs - 1 + 1
kept_size [] one = absurd (one.some refl)
kept_size (x ∷ xs) one = omega (arith, length-map (x ∷ xs) record_of)

pub edge_known : (log : Key) (held : Option Stamp) (got : Option Entry) (e : Entry) (edge : Option Edge) (v : Edge) (r : Record) (b : Bool)
    → HasSpelling r → log ≡ head_key_of r.owner → MayBeNext held r → IfSome edge (λ w. stamp_at w.vector log ≡ None) → got ≡ option_map (entry_of log) held → got ≡ Some e → edge ≡ Some v
    → IsTrue b ↔ Dominates r.vector v.vector → IsTrue b ↔ KnowsEdge held edge r
edge_known log None got e edge v r b spelled is next none made some given dom = absurd (cc (made, some))
edge_known log (Some t) got e None v r b spelled is next none made some given dom = absurd (cc given)
edge_known log (Some t) got e (Some w) v r b spelled is next none made some given dom =
    let same : w ≡ v = cc given in
    let k = knows r w.vector t spelled (subst (λ (k : Key). stamp_at w.vector k ≡ None) is none) (omega arith) in
    let by_vector : IsTrue b ↔ Dominates r.vector w.vector = subst (λ (x : Edge). IsTrue b ↔ Dominates r.vector x.vector) (sym same) dom in
    (λ h. k.0 (by_vector.0 h), λ h. by_vector.1 (k.1 h))

pub follows_by : (p r : Record) (b : Bool) → HasSpelling p → HasSpelling r → p.owner ≡ r.owner → (r.seq ≡ p.seq + 1) × (r.prev ≡ p.name) → IsTrue b ↔ Dominates r.vector p.vector → IsTrue b ↔ Follows p r
follows_by p r b spelled_p spelled_r same linked dom =
    let k = knows_before p r spelled_p spelled_r same linked.0 in
    (λ t. record { seq = linked.0; prev = linked.1; grows = k.0 (dom.0 t) }, λ f. dom.1 (k.1 f.grows))
