-- What is found is a proof that shows a fork.
use Rattle.std.proofs.Common.{◌≡◌, ℕ, zero, suc, ◌+◌, ◌-◌, ◌<◌, ◌≤◌, ◌^◌, Bool, true, false, cond, ◌&&◌, List, [], ◌∷◌, ◌++◌, length, Option, Some, None, option_map, inl, inr, refl, sym, ap, ◌∙◌, subst, arith, length-append, Contains}
use Rattle.std.specs.Prelude.{MatchOption, nat_lt, nat_le}
use Rattle.std.specs.Option.{option_or}
use Rattle.std.specs.List.{AllByRecursion, filter_map, cons_option}
use Rattle.std.specs.Cmp.{Equal-is}
use Rattle.std.specs.Ordering.{eq_by_cmp}
use Rattle.std.proofs.lemmas.Bool.{leb-true, ltb-true, lt-ltb, cases_lt}
use Rattle.std.proofs.lemmas.Map.Lookups.{exact_bytes}
use Rattle.ivy_base.specs.declared.key.Key.{Key}
use Rattle.ivy_base.specs.declared.key.PubKey.{PubKey}
use Rattle.ivy_base.specs.Naming.{name, head_key_of, key_cmp, owner_cmp}
use Rattle.tree_model.specs.Tree.{same_key}
use Rattle.tree_model.proofs.Keys.{same_key_is, same_key_itself}
use Rattle.log_model.proofs.Lists.{here as first_in, there}
use Rattle.log_model.specs.Vector.{Stamp}
use Rattle.log_model.specs.Record.{Record}
use Rattle.log_model.specs.Spelling.{IsHeadOf, head_message, most_records}
use Rattle.log_model.specs.Heads.{stamp, owner_in}
use Rattle.log_records.proofs.Sizes.{short_records}
use Rattle.dht_ids.specs.declared.judge.Judged.{Judged}
use Rattle.dhash_model.specs.Signed.{hss_judged}
use Rattle.log_heads.proofs.SignedHeads.{signed_heads}
use Rattle.hss_keys.specs.Hss.{HssAccepts}
use Rattle.fork_model.specs.Bytes.{fork_bytes, most_blocks}
use Rattle.fork_model.specs.Before.{Before, TellsRecords, IsNumbered}
use Rattle.fork_model.specs.Finding.{Tip, Way, ◌>>=◌, tip_with, tip_of, same_owner, block_named, step_down, goes_on, way_down, proof_by, are_near, proof_of_fork, fork_of, first_with, first_pair, find_fork}
use Rattle.fork_proof.specs.declared.checking.Forked.{Forked}
use Rattle.fork_proof.specs.declared.fault.ProofFault.{ProofFault}
use Rattle.fork_proof.specs.declared.fault.ProofFault.TheVariants.{Memory}
use Rattle.fork_proof.specs.Forms.{ForkProof, IsHead, IsProof, IsShort, IsLink, LeadsDown, here, bytes_of_head, proof_bytes}
use Rattle.fork_proof.specs.Checks.{IsShown, ShowsFork, ShowsNone, forked_of}
use Rattle.fork_proof.specs.Laws.{FoundIsShown, FoundIsNotRefused}
use Rattle.fork_proof.proofs.Accepted.{shown_is_not_refused}
use Rattle.fork_proof.proofs.SignedTips.{owner_read}
use Rattle.fork_proof.proofs.Walks.{leads_more}
use Rattle.fork_proof.proofs.WaysDown.{read_of}

pub some_same : {A : Type 0} {x y : A} → Some x ≡ Some y → x ≡ y
some_same e = cc

pub none_some : {A : Type 0} {y : A} → None ≡ Some y → ⊥
none_some e = cc

-- ---- signed heads

pub record IsTip (t : Tip) : Type 0 where
  pub signature : List ℕ
  pub head : IsHeadOf t.owner t.bytes t.newest signature
  pub accepted : HssAccepts t.owner.0 (head_message t.owner t.newest) signature

pub tip_from : (bytes : List ℕ) (said : Judged) → hss_judged (head_key_of (owner_in bytes)) bytes ≡ Some said → IsTip (tip_with bytes (owner_in bytes) said)
tip_from bytes said e =
    let g = (signed_heads (head_key_of (owner_in bytes)) bytes said).0 e in
    let as_said : IsTip (tip_with bytes g.owner said) = record { signature = g.signature; head = g.head; accepted = g.accepted } in
    subst (λ (o : PubKey). IsTip (tip_with bytes o said)) (sym (owner_read bytes g.owner (stamp said.seq said.name) g.signature g.head)) as_said

tips_are : (heads : List (List ℕ)) → AllByRecursion IsTip (filter_map tip_of heads)
tips_are [] = tt
tips_are (h ∷ hs) = by (hss_judged (head_key_of (owner_in h)) h) refl (tips_are hs)
  where
    by : (o : Option Judged) → hss_judged (head_key_of (owner_in h)) h ≡ o → AllByRecursion IsTip (filter_map tip_of hs) → AllByRecursion IsTip (cons_option (option_map (tip_with h (owner_in h)) o) (filter_map tip_of hs))
    by None e rest = rest
    by (Some said) e rest = (tip_from h said e, rest)

-- ---- blocks

pub named_is : (blocks : List (List ℕ)) (k : Key) (b : List ℕ) → block_named blocks k ≡ Some b → name b ≡ k
named_is [] k b e = absurd (none_some e)
named_is (x ∷ xs) k b e = by (same_key (name x) k) refl (named_is xs k b) e
  where
    by : (t : Bool) → same_key (name x) k ≡ t → (block_named xs k ≡ Some b → name b ≡ k) → cond t (Some x) (block_named xs k) ≡ Some b → name b ≡ k
    by true s rest e = ap name (sym (some_same e)) ∙ same_key_is (name x) k s
    by false s rest e = rest e

named_in : (blocks : List (List ℕ)) (k : Key) (b : List ℕ) → block_named blocks k ≡ Some b → Contains blocks b
named_in [] k b e = absurd (none_some e)
named_in (x ∷ xs) k b e = by (same_key (name x) k) (named_in xs k b) e
  where
    by : (t : Bool) → (block_named xs k ≡ Some b → Contains xs b) → cond t (Some x) (block_named xs k) ≡ Some b → Contains (x ∷ xs) b
    by true rest e = subst (λ (c : List ℕ). Contains (x ∷ xs) c) (some_same e) (first_in x xs)
    by false rest e = there x xs b (rest e)

all_and : {A : Type 0} (P : A → Type 0) (xs : List A) (x : A) → AllByRecursion P xs → P x → AllByRecursion P (xs ++ x ∷ [])
all_and P [] x f g = (g, tt)
all_and P (y ∷ xs) x f g = (f.0, all_and P xs x f.1 g)

short_block : {owner : PubKey} {seq : ℕ} {k : Key} {block : List ℕ} {r : Record} → IsLink owner seq k block r → IsShort block
short_block {r = r} f = omega (arith, short_records r f.read.spelled.fits, ap (λ (l : List ℕ). length l) f.read.spelled.spelled)

module _ (before : Before) (tells : TellsRecords before) (blocks : List (List ℕ)) where
  -- a step leads from a record to the one before it
  step_is : (owner : PubKey) (seq : ℕ) (k : Key) (s : List ℕ × Key) → step_down before blocks owner seq k ≡ Some s → (r : Record) × IsLink owner seq k s.0 r × (s.1 ≡ r.prev)
  step_is owner seq k s e = by (block_named blocks k) refl e
    where
      read : (b : List ℕ) → name b ≡ k → (o : Option Key) → MatchOption o ((r : Record) → IsNumbered owner seq b r → ⊥) (λ prev. (r : Record) × IsNumbered owner seq b r × (prev ≡ r.prev))
          → option_map {T = Key} {U = List ℕ × Key} (λ prev. (b, prev)) o ≡ Some s → (r : Record) × IsLink owner seq k s.0 r × (s.1 ≡ r.prev)
      read b n None told e = absurd (none_some e)
      read b n (Some prev) told e =
          let same : (b, prev) ≡ s = some_same e in
          let named : told.0.name ≡ k = told.1.spelled.fits.named ∙ ap name (sym told.1.spelled.spelled) ∙ n in
          subst (λ (z : List ℕ × Key). (r : Record) × IsLink owner seq k z.0 r × (z.1 ≡ r.prev)) same
          (told.0, record { read = read_of told.1; seq_is = told.1.number; name_is = named }, told.2)

      by : (o : Option (List ℕ)) → block_named blocks k ≡ o → (o >>= (λ b. option_map (λ (prev : Key). (b, prev)) (before owner seq b))) ≡ Some s → (r : Record) × IsLink owner seq k s.0 r × (s.1 ≡ r.prev)
      by None n e = absurd (none_some e)
      by (Some b) n e = read b (named_is blocks k b n) (before owner seq b) (tells owner seq b) e

  step_among : (owner : PubKey) (seq : ℕ) (k : Key) (s : List ℕ × Key) → step_down before blocks owner seq k ≡ Some s → Contains blocks s.0
  step_among owner seq k s e = by (block_named blocks k) refl e
    where
      of_block : (b : List ℕ) → Contains blocks b → (o : Option Key) → option_map {T = Key} {U = List ℕ × Key} (λ prev. (b, prev)) o ≡ Some s → Contains blocks s.0
      of_block b within None e = absurd (none_some e)
      of_block b within (Some prev) e = subst (λ (z : List ℕ × Key). Contains blocks z.0) (some_same e) within

      by : (o : Option (List ℕ)) → block_named blocks k ≡ o → (o >>= (λ b. option_map (λ (prev : Key). (b, prev)) (before owner seq b))) ≡ Some s → Contains blocks s.0
      by None n e = absurd (none_some e)
      by (Some b) n e = of_block b (named_in blocks k b n) (before owner seq b) e

  module _ (tip : Tip) where
    record Leads (n : ℕ) (w : Way) : Type 0 where
      pub leads : LeadsDown tip.owner tip.newest.seq tip.newest.name w.blocks w.last
      pub size : length w.blocks ≡ n
      pub short : AllByRecursion IsShort w.blocks
      pub among : AllByRecursion (Contains blocks) w.blocks

    longer : (n : ℕ) (v : Way) (s : List ℕ × Key) → suc n ≤ tip.newest.seq → Leads n v → step_down before blocks tip.owner (tip.newest.seq - n) v.last ≡ Some s → Leads (suc n) (goes_on v s)
    longer n v s within l e =
        let f = step_is tip.owner (tip.newest.seq - n) v.last s e in
        record {
          leads = subst (λ (k : Key). LeadsDown tip.owner tip.newest.seq tip.newest.name (v.blocks ++ s.0 ∷ []) k) (sym f.2)
              (leads_more tip.owner l.leads (tip.newest.seq - n) s.0 f.0 (omega (arith, within)) (omega (arith, within, l.size)) f.1);
          size = omega (arith, l.size, length-append v.blocks (s.0 ∷ []));
          short = all_and IsShort v.blocks s.0 l.short (short_block f.1);
          among = all_and (Contains blocks) v.blocks s.0 l.among (step_among tip.owner (tip.newest.seq - n) v.last s e);
        }

    way_leads : (n : ℕ) (w : Way) → n ≤ tip.newest.seq → way_down before blocks tip n ≡ Some w → Leads n w
    way_leads zero w within e = subst (Leads 0) (some_same e) (record { leads = here; size = refl; short = tt; among = tt })
    way_leads (suc n) w within e = by (way_down before blocks tip n) (λ v. way_leads n v (omega (arith, within))) e
      where
        more : (v : Way) → Leads n v → (s : Option (List ℕ × Key)) → step_down before blocks tip.owner (tip.newest.seq - n) v.last ≡ s → option_map (goes_on v) s ≡ Some w → Leads (suc n) w
        more v l None d e = absurd (none_some e)
        more v l (Some s) d e = subst (Leads (suc n)) (some_same e) (longer n v s within l d)

        by : (o : Option Way) → ((v : Way) → o ≡ Some v → Leads n v) → (o >>= (λ v. option_map (goes_on v) (step_down before blocks tip.owner (tip.newest.seq - n) v.last))) ≡ Some w → Leads (suc n) w
        by None f e = absurd (none_some e)
        by (Some v) f e = more v (f v refl) (step_down before blocks tip.owner (tip.newest.seq - n) v.last) refl e

-- ---- two heads

is_head : {owner : PubKey} {bytes : List ℕ} {newest : Stamp} {signature : List ℕ} → IsHeadOf owner bytes newest signature → IsHead owner (record { newest = newest; signature = signature })
is_head f = record { owner_is_key = f.owner_is_key; some = f.some; few = f.few; name = f.name; short = f.short; spelled = refl }

-- the bytes are the proof of a lower head and a higher one, whose records are among the blocks
pub record IsProofBy (blocks : List (List ℕ)) (low high : List ℕ) (m n : Stamp) (bytes : List ℕ) (p : ForkProof) : Type 0 where
  pub fits : IsProof p
  pub shown : IsShown p
  pub spelled : bytes ≡ proof_bytes p
  pub low_is : low ≡ bytes_of_head p.owner p.low
  pub high_is : high ≡ bytes_of_head p.owner p.high
  pub low_newest : p.low.newest ≡ m
  pub high_newest : p.high.newest ≡ n
  pub among : AllByRecursion (Contains blocks) p.blocks

-- of one owner
shows : (blocks : List (List ℕ)) (owner : PubKey) (low high : List ℕ) (m n : Stamp) (a b : List ℕ) (w : Way) → IsHeadOf owner low m a → HssAccepts owner.0 (head_message owner m) a → IsHeadOf owner high n b → HssAccepts owner.0 (head_message owner n) b
    → LeadsDown owner n.seq n.name w.blocks w.last → m.seq + length w.blocks ≡ n.seq → length w.blocks ≤ most_blocks → AllByRecursion IsShort w.blocks → AllByRecursion (Contains blocks) w.blocks → (w.last ≡ m.name → ⊥)
    → (p : ForkProof) × IsProofBy blocks low high m n (fork_bytes low high w.blocks) p
shows blocks owner low high m n a b w of_low signed_low of_high signed_high leads count few short among other =
    let p : ForkProof = record { owner = owner; low = record { newest = m; signature = a }; high = record { newest = n; signature = b }; blocks = w.blocks } in (
      p,
      record {
        fits = record { low = is_head of_low; high = is_head of_high; count = count; few = few; short = short };
        shown = record { signed = record { low = signed_low; high = signed_high }; last = w.last; leads = leads; other = other };
        spelled = (λ i. fork_bytes (of_low.spelled i) (of_high.spelled i) w.blocks);
        low_is = of_low.spelled;
        high_is = of_high.spelled;
        low_newest = refl;
        high_newest = refl;
        among = among;
      },
    )

first_true : (a b : Bool) → (a && b) ≡ true → a ≡ true
first_true true b h = refl
first_true false b h = cc

second_true : (a b : Bool) → (a && b) ≡ true → b ≡ true
second_true true b h = h
second_true false b h = cc

owner_is : (a b : PubKey) → eq_by_cmp owner_cmp a b ≡ true → a ≡ b
owner_is a b h = ap (λ (bytes : List ℕ). record { 0 = bytes }) (exact_bytes a.0 b.0 ((Equal-is (owner_cmp a b)).0 h))

-- of two heads
abbrev pub IsOfTwo : List (List ℕ) → Tip → Tip → List ℕ → Type 0
IsOfTwo blocks low high bytes = (p : ForkProof) × IsProofBy blocks low.bytes high.bytes low.newest high.newest bytes p

-- of two heads in their order: the one of the smaller number stands first in the proof, and of equal numbers the earlier head
pub data IsOfPair (blocks : List (List ℕ)) (bytes : List ℕ) (one other : Tip) : Type 0 where
  as_given : IsOfTwo blocks one other bytes → IsOfPair blocks bytes one other
  swapped : other.newest.seq < one.newest.seq → IsOfTwo blocks other one bytes → IsOfPair blocks bytes one other

module _ (before : Before) (tells : TellsRecords before) (blocks : List (List ℕ)) (bytes : List ℕ) where
  by_way : (low high : Tip) (w : Way) → IsTip low → IsTip high → low.newest.seq ≤ high.newest.seq → are_near low high ≡ true → way_down before blocks high (high.newest.seq - low.newest.seq) ≡ Some w
      → proof_by low high w ≡ Some bytes → IsOfTwo blocks low high bytes
  by_way low high w f g least near way e = by (same_key w.last low.newest.name) refl e
    where
      same : high.owner ≡ low.owner
      same = sym (owner_is low.owner high.owner (first_true _ _ near))

      l : Leads before tells blocks high (high.newest.seq - low.newest.seq) w
      l = way_leads before tells blocks high (high.newest.seq - low.newest.seq) w (omega arith) way

      few : high.newest.seq - low.newest.seq ≤ most_blocks
      few = leb-true (high.newest.seq - low.newest.seq) most_blocks (second_true (same_owner low high) _ near)

      by : (t : Bool) → same_key w.last low.newest.name ≡ t → cond t None (Some (fork_bytes low.bytes high.bytes w.blocks)) ≡ Some bytes → IsOfTwo blocks low high bytes
      by true s e = absurd (none_some e)
      by false s e =
          subst (IsOfTwo blocks low high) (some_same e)
          (shows blocks low.owner low.bytes high.bytes low.newest high.newest f.signature g.signature w f.head f.accepted
          (subst (λ (o : PubKey). IsHeadOf o high.bytes high.newest g.signature) same g.head)
          (subst (λ (o : PubKey). HssAccepts o.0 (head_message o high.newest) g.signature) same g.accepted)
          (subst (λ (o : PubKey). LeadsDown o high.newest.seq high.newest.name w.blocks w.last) same l.leads)
          (omega (arith, least, l.size)) (omega (arith, few, l.size)) l.short l.among
          (λ at. let yes : same_key w.last low.newest.name ≡ true = ap (λ (k : Key). same_key k low.newest.name) at ∙ same_key_itself low.newest.name in cc))

  of_two : (low high : Tip) → IsTip low → IsTip high → low.newest.seq ≤ high.newest.seq → proof_of_fork before blocks low high ≡ Some bytes → IsOfTwo blocks low high bytes
  of_two low high f g least e = by (are_near low high) refl e
    where
      along : are_near low high ≡ true → (o : Option Way) → way_down before blocks high (high.newest.seq - low.newest.seq) ≡ o → (o >>= proof_by low high) ≡ Some bytes → IsOfTwo blocks low high bytes
      along near None way e = absurd (none_some e)
      along near (Some w) way e = by_way low high w f g least near way e

      by : (t : Bool) → are_near low high ≡ t → cond t (way_down before blocks high (high.newest.seq - low.newest.seq) >>= proof_by low high) None ≡ Some bytes → IsOfTwo blocks low high bytes
      by false near e = absurd (none_some e)
      by true near e = along near (way_down before blocks high (high.newest.seq - low.newest.seq)) refl e

  pub in_order : (one other : Tip) → IsTip one → IsTip other → fork_of before blocks one other ≡ Some bytes → IsOfPair blocks bytes one other
  in_order one other f g e = by (nat_lt other.newest.seq one.newest.seq) refl e
    where
      by : (t : Bool) → nat_lt other.newest.seq one.newest.seq ≡ t → cond t (proof_of_fork before blocks other one) (proof_of_fork before blocks one other) ≡ Some bytes → IsOfPair blocks bytes one other
      by true less e = let below = ltb-true other.newest.seq one.newest.seq less in swapped below (of_two other one g f (omega (arith, below)) e)
      by false less e = as_given (of_two one other f g (not_less other.newest.seq one.newest.seq less) e)
        where
          not_less : (m n : ℕ) → nat_lt m n ≡ false → n ≤ m
          not_less m n h = elim (cases_lt m n) [
            | inl below ↦ absurd (let yes : nat_lt m n ≡ true = lt-ltb m n below in cc)
            | inr least ↦ least
          ]

shows_fork : {blocks : List (List ℕ)} {low high : List ℕ} {m n : Stamp} {bytes : List ℕ} → (p : ForkProof) × IsProofBy blocks low high m n bytes p → (f : Forked) × ShowsFork bytes f
shows_fork w = (forked_of w.0, record { proof = w.0; is = record { fits = w.1.fits; spelled = w.1.spelled }; shown = w.1.shown; fork = refl })

-- ---- of all heads

module _ {A B : Type 0} {P : A → Type 0} (b : B) where
  with_one : (f : A → Option B) (xs : List A) → AllByRecursion P xs → first_with f xs ≡ Some b → (y : A) × P y × (f y ≡ Some b)
  with_one f [] all e = absurd (none_some e)
  with_one f (x ∷ xs) all e = by (f x) refl (with_one f xs all.1) e
    where
      by : (o : Option B) → f x ≡ o → (first_with f xs ≡ Some b → (y : A) × P y × (f y ≡ Some b)) → option_or o (first_with f xs) ≡ Some b → (y : A) × P y × (f y ≡ Some b)
      by None is rest e = rest e
      by (Some c) is rest e = (x, all.0, is ∙ e)

  of_pair : (f : A → A → Option B) (xs : List A) → AllByRecursion P xs → first_pair f xs ≡ Some b → (x : A) × (y : A) × P x × P y × (f x y ≡ Some b)
  of_pair f [] all e = absurd (none_some e)
  of_pair f (x ∷ xs) all e = by (first_with (f x) xs) refl (of_pair f xs all.1) e
    where
      by : (o : Option B) → first_with (f x) xs ≡ o → (first_pair f xs ≡ Some b → (x : A) × (y : A) × P x × P y × (f x y ≡ Some b)) → option_or o (first_pair f xs) ≡ Some b
          → (x : A) × (y : A) × P x × P y × (f x y ≡ Some b)
      by None is rest e = rest e
      by (Some c) is rest e = let w = with_one (f x) xs all.1 (is ∙ e) in (x, w.0, all.0, w.1, w.2)

pub found_is_shown : FoundIsShown
found_is_shown before heads blocks bytes tells e =
    let w = of_pair {P = IsTip} bytes (fork_of before blocks) (filter_map tip_of heads) (tips_are heads) e in
    of_either (in_order before tells blocks bytes w.0 w.1 w.2 w.3 w.4)
  where
    of_either : {one other : Tip} → IsOfPair blocks bytes one other → (f : Forked) × ShowsFork bytes f
    of_either (as_given of) = shows_fork of
    of_either (swapped less of) = shows_fork of

pub found_is_not_refused : FoundIsNotRefused
found_is_not_refused before heads blocks bytes fault tells e none =
    let w = (found_is_shown before heads blocks bytes tells e).1 in
    shown_is_not_refused w.proof fault w.is.fits w.shown (subst (λ (z : List ℕ). ShowsNone z fault) w.is.spelled none)
