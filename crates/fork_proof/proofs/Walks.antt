-- Blocks that lead down, one after the other.
use Rattle.std.proofs.Common.{◌≡◌, ℕ, zero, suc, ◌+◌, ◌≤◌, ◌<◌, List, [], ◌∷◌, ◌++◌, length, take, drop, get_or, map, Option, Some, None, refl, sym, ap, ◌∙◌, subst, arith}
use Rattle.std.specs.Prelude.{MatchOption, Result, Ok, Err, IfOk, OnOk}
use Rattle.std.proofs.Math.Seq.{drop-cons, take-suc}
use Rattle.std.proofs.Math.ListN.{get_or-map}
use Rattle.std.proofs.lemmas.List.{take-append-drop, take_all, length-map, length-take-le}
use Rattle.ivy_base.specs.declared.key.Key.{Key}
use Rattle.ivy_base.specs.declared.key.PubKey.{PubKey}
use Rattle.ivy_base.specs.declared.memory.Memory.{Memory as OutOfMemory}
use Rattle.wire_model.proofs.OneReading.{whole}
use Rattle.log_model.specs.Record.{Record}
use Rattle.log_model.specs.Chain.{HasMadeNumber}
use Rattle.log_records.specs.declared.fault.RecordFault.{RecordFault}
use Rattle.log_records.specs.declared.fault.RecordFault.TheVariants as record_fault
use Rattle.log_records.specs.Records.{IsRead, ReadFault}
use Rattle.log_records.proofs.OneRecord.{one_record}
use Rattle.log_records.proofs.Sizes.{short_records}
use Rattle.hss_keys.specs.Hss.{HssAccepts}
use Rattle.fork_proof.specs.declared.fault.ProofFault.{ProofFault}
use Rattle.fork_proof.specs.declared.fault.ProofFault.TheVariants.{Malformed, HeadWrong, Unlinked, NoFork, Memory}
use Rattle.fork_proof.specs.Forms.{ForkProof, IsProofOf, IsLink, LeadsDown, here, down}
use Rattle.fork_proof.specs.Checks.{AreSigned, BreaksAt, Fails, ShowsNone}
use Rattle.fork_proof.specs.Reading.{FailsSigning, BreaksIn, IsNoProof}

module _ (owner : PubKey) where
  -- a block more
  leads_on : {n : ℕ} {name mid : Key} {blocks : List (List ℕ)} → LeadsDown owner n name blocks mid → (seq : ℕ) (block : List ℕ) (r : Record) → suc seq + length blocks ≡ n → IsLink owner (suc seq) mid block r
      → LeadsDown owner n name (blocks ++ block ∷ []) r.prev
  leads_on (here {seq = n} {name = name}) seq block r e link = let same : suc seq ≡ n = omega (arith, e) in subst (λ (k : ℕ). LeadsDown owner k name (block ∷ []) r.prev) same (down r link here)
  leads_on (down s also more) seq block r e link = down s also (leads_on more seq block r (omega (arith, e)) link)

  pub leads_more : {n : ℕ} {name mid : Key} {blocks : List (List ℕ)} → LeadsDown owner n name blocks mid → (seq : ℕ) (block : List ℕ) (r : Record) → 1 ≤ seq → seq + length blocks ≡ n → IsLink owner seq mid block r
      → LeadsDown owner n name (blocks ++ block ∷ []) r.prev
  leads_more leads zero block r some e link = absurd (omega (arith, some))
  leads_more leads (suc seq) block r some e link = leads_on leads seq block r e link

  -- by the next item, whose bytes are a block
  pub leads_in : {A : Type 0} (f : A → List ℕ) (xs ys : List A) (i seq n : ℕ) (name mid prev : Key) (d : A) → ys ≡ xs → i < length ys → 1 ≤ seq → seq + i ≡ n → LeadsDown owner n name (take i (map f xs)) mid
      → (r : Record) × IsLink owner seq mid (f (get_or ys i d)) r × (prev ≡ r.prev) → LeadsDown owner n name (take (i + 1) (map f xs)) prev
  leads_in f xs ys i seq n name mid prev d same within some e leads h =
      let short : i < length (map f xs) = omega (arith, length-map xs f, ap (λ l. length l) same, within) in
      let size : length (take i (map f xs)) ≡ i = length-take-le i (map f xs) (omega (arith, short)) in
      let item : get_or (map f xs) i (f d) ≡ f (get_or ys i d) = get_or-map f xs i d ∙ ap (λ l. f (get_or l i d)) (sym same) in
      let more : LeadsDown owner n name (take i (map f xs) ++ f (get_or ys i d) ∷ []) h.0.prev = leads_more leads seq (f (get_or ys i d)) h.0 some (omega (arith, e, size)) h.1 in
      let front : take (suc i) (map f xs) ≡ take i (map f xs) ++ f (get_or ys i d) ∷ [] = take-suc (map f xs) i (f d) short ∙ ap (λ b. take i (map f xs) ++ b ∷ []) item in
      let next : suc i ≡ i + 1 = omega arith in
      subst (λ (k : Key). LeadsDown owner n name (take (i + 1) (map f xs)) k) (sym h.2)
      (subst (λ (j : ℕ). LeadsDown owner n name (take j (map f xs)) h.0.prev) next (subst (λ (l : List (List ℕ)). LeadsDown owner n name l h.0.prev) (sym front) more))

  -- all of them
  pub leads_all : (n i : ℕ) (name last : Key) (blocks : List (List ℕ)) → length blocks ≤ i → LeadsDown owner n name (take i blocks) last → LeadsDown owner n name blocks last
  leads_all n i name last blocks all leads = subst (λ (l : List (List ℕ)). LeadsDown owner n name l last) (take_all i blocks all) leads

split_at : (blocks : List (List ℕ)) (i : ℕ) (d : List ℕ) → i < length blocks → blocks ≡ take i blocks ++ get_or blocks i d ∷ drop (suc i) blocks
split_at blocks i d within = sym (take-append-drop i blocks) ∙ ap (λ (l : List (List ℕ)). take i blocks ++ l) (drop-cons blocks i d within)

-- the block of that place isn't the record
pub breaks_in : {A : Type 0} (f : A → List ℕ) (p : ForkProof) (xs ys : List A) (i place seq : ℕ) (name : Key) (d : A) → p.blocks ≡ map f xs → ys ≡ xs → i < length ys → place ≡ i
    → LeadsDown p.owner p.high.newest.seq p.high.newest.name (take i (map f xs)) name → seq + i ≡ p.high.newest.seq → ((r : Record) → IsLink p.owner seq name (f (get_or ys i d)) r → ⊥) → BreaksAt p (place + 1)
breaks_in f p xs ys i place seq name d blocks same within at leads e none =
    let short : i < length (map f xs) = omega (arith, length-map xs f, ap (λ l. length l) same, within) in
    let size : length (take i (map f xs)) ≡ i = length-take-le i (map f xs) (omega (arith, short)) in
    let item : get_or (map f xs) i (f d) ≡ f (get_or ys i d) = get_or-map f xs i d ∙ ap (λ l. f (get_or l i d)) (sym same) in
    record {
      before = take i (map f xs);
      block = f (get_or ys i d);
      after = drop (suc i) (map f xs);
      are = blocks ∙ split_at (map f xs) i (f d) short ∙ ap (λ b. take i (map f xs) ++ b ∷ drop (suc i) (map f xs)) item;
      place_is = omega (arith, size, at);
      name = name;
      leads = leads;
      breaks = λ n r number link. (let is : n ≡ seq = omega (arith, number, e, size) in none r (subst (λ (k : ℕ). IsLink p.owner k name (f (get_or ys i d)) r) is link));
    }

-- ---- signatures

-- what is signed under one key is under the same one
pub signed_as : {owner other : PubKey} {message said signature : List ℕ} → other ≡ owner → message ≡ said → HssAccepts other.0 message signature → HssAccepts owner.0 said signature
signed_as {owner} {other} {message} {said} {signature} e f h = subst (λ (o : PubKey). HssAccepts o.0 said signature) e (subst (λ (m : List ℕ). HssAccepts other.0 m signature) f h)

-- ---- records

-- one block is one record
pub one_read : (owner : PubKey) (block : List ℕ) (r s : Record) → IsRead owner block r → IsRead owner block s → r ≡ s
one_read owner block r s f g = whole (one_record owner) r s (f.spelled.owned, f.spelled.fits) (g.spelled.owned, g.spelled.fits) (sym f.spelled.spelled ∙ g.spelled.spelled)

pub prev_found : (owner : PubKey) (block : List ℕ) (seq : ℕ) (r : Record) (found : Option Key) → IsRead owner block r → MatchOption found (r.seq ≡ seq → ⊥) (λ prev. (r.seq ≡ seq) × (prev ≡ r.prev))
    → MatchOption found ((s : Record) → IsRead owner block s → s.seq ≡ seq → ⊥) (λ prev. (s : Record) × IsRead owner block s × (s.seq ≡ seq) × (prev ≡ s.prev))
prev_found owner block seq r None f h = λ s g e. h (ap (λ (x : Record). x.seq) (one_read owner block r s f g) ∙ e)
prev_found owner block seq r (Some prev) f h = (r, f, h.0, h.1)

pub never_read : (owner : PubKey) (block : List ℕ) (fault : RecordFault) → (fault ≡ record_fault.Memory → ⊥) → ReadFault owner block fault → (r : Record) → IsRead owner block r → ⊥
never_read owner block record_fault.TooLong other h r f = omega (arith, h, ap (λ (l : List ℕ). length l) f.spelled.spelled, short_records r f.spelled.fits)
never_read owner block record_fault.Malformed other h r f = h.1 r f.spelled
never_read owner block record_fault.BadNumber other h r f =
    let same : h.1 ≡ r = whole (one_record owner) h.1 r (h.2.owned, h.2.fits) (f.spelled.owned, f.spelled.fits) (sym h.2.spelled ∙ f.spelled.spelled) in
    h.3 (subst (λ (s : Record). HasMadeNumber owner s.seq s.op) (sym same) f.number)
never_read owner block record_fault.Memory other h r f = other refl

pub never_found : (owner : PubKey) (block : List ℕ) (seq : ℕ) (fault : RecordFault) (result : Result (Option Key) OutOfMemory) → ReadFault owner block fault → IfOk result (λ found. found ≡ None) → OnOk result (fault ≡ record_fault.Memory → ⊥)
    → IfOk result (λ found. MatchOption found ((s : Record) → IsRead owner block s → s.seq ≡ seq → ⊥) (λ prev. (s : Record) × IsRead owner block s × (s.seq ≡ seq) × (prev ≡ s.prev)))
never_found owner block seq fault (Err e) unread none other = tt
never_found owner block seq fault (Ok None) unread none other = λ s f e. never_read owner block fault other unread s f
never_found owner block seq fault (Ok (Some prev)) unread none other = absurd (cc none)

-- ---- faults

pub signing_fails : (p : ForkProof) (fault : ProofFault) → FailsSigning p fault → Fails p fault
signing_fails p Malformed f = absurd f
signing_fails p (HeadWrong place) f = f
signing_fails p (Unlinked place) f = absurd f
signing_fails p NoFork f = absurd f
signing_fails p Memory f = absurd f

pub leading_fails : (p : ForkProof) (fault : ProofFault) → AreSigned p → BreaksIn p fault → Fails p fault
leading_fails p Malformed signed f = absurd f
leading_fails p (HeadWrong place) signed f = absurd f
leading_fails p (Unlinked place) signed f = (signed, f)
leading_fails p NoFork signed f = absurd f
leading_fails p Memory signed f = tt

pub shows_none : (bytes : List ℕ) (p : ForkProof) (fault : ProofFault) → IsProofOf bytes p → Fails p fault → ShowsNone bytes fault
shows_none bytes p Malformed is f = absurd f
shows_none bytes p (HeadWrong place) is f = (p, is, f)
shows_none bytes p (Unlinked place) is f = (p, is, f)
shows_none bytes p NoFork is f = (p, is, f)
shows_none bytes p Memory is f = tt

pub no_proof_shows : (bytes : List ℕ) (fault : ProofFault) → IsNoProof bytes fault → ShowsNone bytes fault
no_proof_shows bytes Malformed f = f
no_proof_shows bytes (HeadWrong place) f = absurd f
no_proof_shows bytes (Unlinked place) f = absurd f
no_proof_shows bytes NoFork f = absurd f
no_proof_shows bytes Memory f = tt
