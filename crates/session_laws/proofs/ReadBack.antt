-- What a walk back by names reads: where no names collide, the records that stand there, are linked and end at the name.
use Rattle.std.proofs.Common.{◌≡◌, ℕ, ◌+◌, ◌-◌, List, [], ◌∷◌, ◌++◌, length, reverse, Ok, refl, sym, ap, ◌∙◌, subst, arith, append_assoc, Contains}
use Rattle.std.specs.List.{AllByRecursion}
use Rattle.std.proofs.lemmas.List.{append-nil, reverse-append, reverse-reverse, length-reverse, length-append}
use Rattle.ivy_base.specs.declared.key.Key.{Key}
use Rattle.ivy_base.specs.declared.key.PubKey.{PubKey}
use Rattle.ivy_base.specs.Naming.{IsCollisionFree, name}
use Rattle.wire_model.proofs.OneReading.{whole}
use Rattle.log_model.specs.Vector.{Stamp}
use Rattle.log_model.specs.Record.{Record}
use Rattle.log_model.specs.Spelling.{HasSpelling, IsRecordOf}
use Rattle.log_model.specs.Chain.{LinkedFrom}
use Rattle.log_model.specs.Standing.{StandsAmong, Stand}
use Rattle.log_model.proofs.Lists.{here, there, each_append}
use Rattle.log_model.specs.Fetched.{EndsAtStamp, owner_of}
use Rattle.log_records.proofs.OneRecord.{one_record, block_among}
use Rattle.session_model.specs.Brought.{Brought, BlockOf}
use Rattle.session_model.specs.Walks.{Walks, WalkEnd, Came, Garbled}
use Rattle.session_model.specs.Walks.Walks.{came as all_came, wants as next_wanted, misses as one_misses, garbled as one_garbled, back as one_back}
use Rattle.turn_laws.proofs.LinkedLogs.{last_seq}
use Rattle.session_laws.specs.Bringing.{AreMet}

pub each_reverse : {X : Type 0} (P : X → Type 0) (xs : List X) → AllByRecursion P xs → AllByRecursion P (reverse xs)
each_reverse P [] h = tt
each_reverse P (x ∷ xs) h = subst (AllByRecursion P) (sym (reverse-append (x ∷ []) xs)) (each_append P (reverse xs) (x ∷ []) (each_reverse P xs h.1) (h.0, tt))

-- ---- linked records

pub nothing_ends : (t : Stamp) → EndsAtStamp t [] → ⊥
nothing_ends t ([], last, is, same) = cc
nothing_ends t (b ∷ before, last, is, same) = cc

-- the name of the last of them, or that before them
abbrev pub newest_of : Key → List Record → Key
newest_of prev [] = prev
newest_of prev (r ∷ rs) = newest_of r.name rs

newest_is : (prev : Key) (before : List Record) (last : Record) → newest_of prev (before ++ last ∷ []) ≡ last.name
newest_is prev [] last = refl
newest_is prev (b ∷ before) last = newest_is b.name before last

module _ (owner : PubKey) where
  pub linked_right : (n : ℕ) (prev : Key) (xs ys : List Record) → LinkedFrom owner n prev (xs ++ ys) → LinkedFrom owner (n + length xs) (newest_of prev xs) ys
  linked_right n prev [] ys h = subst (λ (k : ℕ). LinkedFrom owner k prev ys) (omega arith) h
  linked_right n prev (x ∷ xs) ys h = subst (λ (k : ℕ). LinkedFrom owner k (newest_of x.name xs) ys) (omega arith) (linked_right (n + 1) x.name xs ys h.4)

  -- how many they are, up to the stamp
  pub long : (n : ℕ) (prev : Key) (xs : List Record) (t : Stamp) → LinkedFrom owner n prev xs → EndsAtStamp t xs → n + length xs ≡ t.seq + 1
  long n prev xs t h ends =
      let last = last_seq owner n prev ends.0 ends.1 (subst (LinkedFrom owner n prev) ends.2 h) in
      let same : ends.1.seq ≡ t.seq = ap (λ (s : Stamp). s.seq) ends.3 in
      let size : length xs ≡ length (ends.0 ++ ends.1 ∷ []) = ap length ends.2 in
      let one_more = length-append ends.0 (ends.1 ∷ []) in
      omega (arith, last, same, size, one_more)

  pub linked_owner : (n : ℕ) (prev : Key) (xs : List Record) (t : Stamp) → LinkedFrom owner n prev xs → EndsAtStamp t xs → owner_of xs ≡ owner
  linked_owner n prev [] t h ends = absurd (nothing_ends t ends)
  linked_owner n prev (r ∷ rs) t h ends = h.0

-- ---- back by names

module _ (met : List (List ℕ)) (apart : IsCollisionFree met) (owner : PubKey) where
  -- the owner's records among the blocks from that name back, the newest first
  abbrev pub LeadBack : Key → List Record → Type 0
  LeadBack key [] = Unit {0}
  LeadBack key (r ∷ rs) = (r.owner ≡ owner) × HasSpelling r × StandsAmong met r × (r.name ≡ key) × LeadBack r.prev rs

  lead_on : (n : ℕ) (prev : Key) (xs acc : List Record) → LinkedFrom owner n prev xs → Stand met xs → LeadBack prev acc → LeadBack (newest_of prev xs) (reverse xs ++ acc)
  lead_on n prev [] acc h stand lead = lead
  lead_on n prev (x ∷ xs) acc h stand lead =
      let turned : reverse (x ∷ xs) ++ acc ≡ reverse xs ++ x ∷ acc = ap (λ (l : List Record). l ++ acc) (reverse-append (x ∷ []) xs) ∙ append_assoc (reverse xs) (x ∷ []) acc in
      subst (LeadBack (newest_of x.name xs)) (sym turned)
      (lead_on (n + 1) x.name xs (x ∷ acc) h.4 stand.1 (h.0, h.1, stand.0, refl, subst (λ (k : Key). LeadBack k acc) (sym h.3) lead))

  leads : (n : ℕ) (prev : Key) (xs : List Record) (t : Stamp) → LinkedFrom owner n prev xs → Stand met xs → EndsAtStamp t xs → LeadBack t.name (reverse xs)
  leads n prev xs t h stand ends =
      subst (λ (k : Key). LeadBack k (reverse xs)) (ap (newest_of prev) ends.2 ∙ newest_is prev ends.0 ends.1 ∙ ap (λ (s : Stamp). s.name) ends.3)
      (subst (LeadBack (newest_of prev xs)) (append-nil (reverse xs)) (lead_on n prev xs [] h stand tt))

  -- the block of a name is the record's
  is_of : (key : Key) (bytes : List ℕ) (q : Record) (rs : List Record) → Contains met bytes × (name bytes ≡ key) → LeadBack key (q ∷ rs) → IsRecordOf owner bytes q
  is_of key bytes q rs found lead = block_among owner met apart bytes found.0 q lead.0 lead.1 lead.2 (found.1 ∙ sym lead.3)

  one_of : (bytes : List ℕ) (r q : Record) → IsRecordOf owner bytes r → IsRecordOf owner bytes q → r ≡ q
  one_of bytes r q f g = whole (one_record owner) r q (f.owned, f.fits) (g.owned, g.fits) (sym f.spelled ∙ g.spelled)

  reads : {n : ℕ} {key : Key} {brought : List Brought} {records : List Record} → Walks owner n key brought records Came → AreMet met brought → (rs : List Record) → n ≡ length rs → LeadBack key rs → records ≡ rs
  reads all_came are [] size lead = refl
  reads all_came are (q ∷ rs) size lead = absurd (omega (arith, size))
  reads (one_back bytes r is more) are [] size lead = absurd (omega (arith, size))
  reads (one_back {key = key} {more = brought} bytes r is walk) are (q ∷ rs) size lead =
      let same : r ≡ q = one_of bytes r q is (is_of key bytes q rs (are key bytes (here (BlockOf key (Ok bytes)) brought)) lead) in
      let rest = reads walk (λ k b c. are k b (there (BlockOf key (Ok bytes)) brought (BlockOf k (Ok b)) c)) rs (omega (arith, size)) (subst (λ (x : Record). LeadBack x.prev rs) (sym same) lead.4) in
      ap (λ (l : List Record). r ∷ l) rest ∙ ap (λ (x : Record). x ∷ rs) same

  never_garbled : {n : ℕ} {key : Key} {brought : List Brought} {records : List Record} → Walks owner n key brought records Garbled → AreMet met brought → (rs : List Record) → n ≡ length rs → LeadBack key rs → ⊥
  never_garbled (one_garbled bytes none) are [] size lead = omega (arith, size)
  never_garbled (one_garbled {key = key} bytes none) are (q ∷ rs) size lead = none q (is_of key bytes q rs (are key bytes (here (BlockOf key (Ok bytes)) [])) lead)
  never_garbled (one_back bytes r is more) are [] size lead = omega (arith, size)
  never_garbled (one_back {key = key} {more = brought} bytes r is walk) are (q ∷ rs) size lead =
      let same : r ≡ q = one_of bytes r q is (is_of key bytes q rs (are key bytes (here (BlockOf key (Ok bytes)) brought)) lead) in
      never_garbled walk (λ k b c. are k b (there (BlockOf key (Ok bytes)) brought (BlockOf k (Ok b)) c)) rs (omega (arith, size)) (subst (λ (x : Record). LeadBack x.prev rs) (sym same) lead.4)

  -- ---- from a stamp back to a number

  module _ (b : ℕ) (prev : Key) (high : List Record) (t : Stamp) (linked : LinkedFrom owner (b + 1) prev high) (stand : Stand met high) (ends : EndsAtStamp t high) where
    sized : t.seq - b ≡ length (reverse high)
    sized = let size = long owner (b + 1) prev high t linked ends in let same = length-reverse high in omega (arith, size, same)

    -- what was read are the linked records
    pub read_is : {brought : List Brought} {records : List Record} → AreMet met brought → Walks owner (t.seq - b) t.name brought records Came → reverse records ≡ high
    read_is are walk = ap reverse (reads walk are (reverse high) sized (leads (b + 1) prev high t linked stand ends)) ∙ reverse-reverse high

    pub is_read : {brought : List Brought} {records : List Record} → AreMet met brought → Walks owner (t.seq - b) t.name brought records Garbled → ⊥
    is_read are walk = never_garbled walk are (reverse high) sized (leads (b + 1) prev high t linked stand ends)

  -- ---- what was read is the owner's and stands among the blocks

  read_each : {n : ℕ} {key : Key} {brought : List Brought} {records : List Record} {end : WalkEnd} → Walks owner n key brought records end → AreMet met brought → AllByRecursion (λ r. r.owner ≡ owner) records × Stand met records
  read_each all_came are = (tt, tt)
  read_each next_wanted are = (tt, tt)
  read_each (one_misses miss) are = (tt, tt)
  read_each (one_garbled bytes none) are = (tt, tt)
  read_each (one_back {key = key} {more = brought} bytes r is walk) are =
      let rest = read_each walk (λ k b c. are k b (there (BlockOf key (Ok bytes)) brought (BlockOf k (Ok b)) c)) in
      ((is.owned, rest.0), (subst (λ (block : List ℕ). Contains met block) is.spelled (are key bytes (here (BlockOf key (Ok bytes)) brought)).0, rest.1))

  pub read_owned : {n : ℕ} {key : Key} {brought : List Brought} {records : List Record} {end : WalkEnd} → Walks owner n key brought records end → AreMet met brought → AllByRecursion (λ r. r.owner ≡ owner) (reverse records)
  read_owned {records = records} walk are = each_reverse (λ (r : Record). r.owner ≡ owner) records (read_each walk are).0

  pub read_stands : {n : ℕ} {key : Key} {brought : List Brought} {records : List Record} {end : WalkEnd} → Walks owner n key brought records end → AreMet met brought → Stand met (reverse records)
  read_stands {records = records} walk are = each_reverse (StandsAmong met) records (read_each walk are).1
