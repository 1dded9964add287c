-- Whole results are read: a status, and what stands after it.
use Rattle.std.proofs.Common.{◌≡◌, ◌≢◌, ℕ, ◌<◌, ◌≤◌, ◌^◌, Bool, true, false, List, [], ◌∷◌, ◌++◌, length, get_or, zero, suc, ◌+◌, Option, Some, None, ◌⊎◌, inl, inr, refl, sym, ap, ◌∙◌, subst, arith, append_assoc}
use Rattle.std.specs.Prelude.{nat_eq, nat_le, ◌&&◌, ◌-◌}
use Rattle.std.proofs.lemmas.List.{append-nil}
use Rattle.wire_model.specs.Xdr.{word, optional, IsWord, IsAny}
use Rattle.wire_model.specs.OneReading.{ReadsOne, IsFront, HasNoFront}
use Rattle.wire_model.proofs.OneReading.{of_parts, one_word}
use Rattle.nfs_model.specs.declared.arguments.Args.{Args}
use Rattle.nfs_model.specs.declared.arguments.Args.TheVariants as call
use Rattle.nfs_model.specs.declared.arguments.How.TheVariants.{Exclusive}
use Rattle.nfs_model.specs.declared.arguments.SpecialNode.TheVariants.{Plain}
use Rattle.nfs_model.specs.declared.replies.NfsStatus.{NfsStatus}
use Rattle.nfs_model.specs.declared.replies.Fattr.{Fattr}
use Rattle.nfs_model.specs.declared.replies.Wcc.{Wcc}
use Rattle.nfs_model.specs.declared.replies.Tail.{Tail}
use Rattle.nfs_model.specs.declared.replies.Tail.TheVariants as tails
use Rattle.nfs_model.specs.declared.replies.Reply.{Reply}
use Rattle.nfs_model.specs.declared.replies.Reply.TheVariants as reply
use Rattle.nfs_model.specs.Arguments.{nfs_program, mount_program, program_of, procedure_of, only_mode}
use Rattle.nfs_model.specs.Results.{status_number, fattr, wcc, tail, result}
use Rattle.nfs_model.specs.Replies.{IsFattr, IsWcc, IsTail, IsReplyTo, tail_form, result_form, tail_form_of, result_form_of}
use Rattle.nfs_model.proofs.OneReplies.{status_fits, is_no_ok, statuses_apart, begins_zero, one_fattr, one_wcc, one_post_attributes}
use Rattle.std.proofs.lemmas.Bool.{eqb-true, leb-true}
use Rattle.nfs3_replies.specs.Reading.{IsProcedure, IsReply}
use Rattle.wire_model.specs.Parts.{Told, Reads, IsOptional}
use Rattle.nfs3_replies.specs.ReadParts.{AreTwoCaches, two_caches, AreAttributesAndCache, attributes_and_cache, status_or_ok, IsDone, after_status, IsTailOf, IsOfForms, IsAnswer, tail_form_at, result_form_at, tail_form_for, result_form_for}
use Rattle.wire_model.proofs.Made.{MadeOf, Made, one_made}
use Rattle.wire_model.proofs.PartByPart.{◌▸◌, part, made_read, number_read, number_missed}
use Rattle.nfs3_replies.proofs.ReadForms.{one_attributes_and_cache, one_two_caches, one_found, one_allowed, one_link_text, one_content, one_written, one_committed, one_made_object, one_numbered, made_attributes, made_changed, made_found, made_allowed, made_text, made_content, made_written, made_object, made_renamed, made_linked, space_words, made_space, limits_words, made_limits, paths_words, made_paths, made_committed}
use Rattle.nfs3_replies.proofs.ReadPages.{one_directory, made_directory, made_directory_plus}
use Rattle.nfs3_replies.proofs.ReadMounts.{nothing_read, one_nothing, one_of_mount}

-- ---- statuses

abbrev pub number_of : Option NfsStatus → ℕ
number_of None = 0
number_of (Some s) = status_number s

number_fits : (o : Option NfsStatus) → IsAny o → number_of o < 2 ^ 32
number_fits None f = omega arith
number_fits (Some s) f = status_fits s

number_spelled : (o : Option NfsStatus) → status_or_ok o ≡ word (number_of o)
number_spelled None = refl
number_spelled (Some s) = refl

numbers_apart : (o p : Option NfsStatus) → number_of o ≡ number_of p → o ≡ p
numbers_apart None None e = refl
numbers_apart None (Some t) e = absurd (is_no_ok t (sym e))
numbers_apart (Some s) None e = absurd (is_no_ok s e)
numbers_apart (Some s) (Some t) e = ap Some (statuses_apart s t e)

one_status_or_ok : ReadsOne IsAny status_or_ok
one_status_or_ok = of_parts number_of number_fits number_spelled numbers_apart one_word

pub status_read : {a b : Option (List ℕ)} {n : ℕ} {o : Option NfsStatus} → Reads IsWord word a n b → number_of o ≡ n → Reads IsAny status_or_ok a o b
status_read f is = number_read number_of (λ o. number_fits o tt) number_spelled f is

pub status_missed : {a b c : Option (List ℕ)} {n : ℕ} {o : Option NfsStatus} → Reads IsWord word a n b → n ≢ 0 → ((s : NfsStatus) → status_number s ≢ n) → c ≡ None → Reads IsAny status_or_ok a o c
status_missed {n = n} f other no_status gone = number_missed number_of (λ o. number_fits o tt) number_spelled f none gone
  where
    none : (o : Option NfsStatus) → number_of o ≢ n
    none None e = other (sym e)
    none (Some s) e = no_status s e

-- ---- what stands after a refusal

two_caches_of : (t : Tail) → IsTailOf 3 t → MadeOf AreTwoCaches (λ p. tails.TwoCaches p.0 p.1) t
two_caches_of (tails.TwoCaches v w) f = record { part = (v, w); fits = f.1; same = refl }
two_caches_of t f = absurd (omega (arith, f.0))

made_two_caches : Made AreTwoCaches two_caches (IsTailOf 3) tail (λ p. tails.TwoCaches p.0 p.1)
made_two_caches = record { whole = λ p f. (refl, f); spelled = λ p. refl; parts = two_caches_of }

attributes_and_cache_of : (t : Tail) → IsTailOf 4 t → MadeOf AreAttributesAndCache (λ p. tails.AttributesAndCache p.0 p.1) t
attributes_and_cache_of (tails.AttributesAndCache a w) f = record { part = (a, w); fits = f.1; same = refl }
attributes_and_cache_of t f = absurd (omega (arith, f.0))

made_attributes_and_cache : Made AreAttributesAndCache attributes_and_cache (IsTailOf 4) tail (λ p. tails.AttributesAndCache p.0 p.1)
made_attributes_and_cache = record { whole = λ p f. (refl, f); spelled = λ p. refl; parts = attributes_and_cache_of }

one_tail_of : (form : ℕ) → ReadsOne (IsTailOf form) tail
one_tail_of form = record { one = λ t u r s f g e. same t u r s f.1 g.1 (f.0 ∙ sym g.0) e }
  where
    same : (t u : Tail) (r s : List ℕ) → IsTail t → IsTail u → tail_form t ≡ tail_form u → tail t ++ r ≡ tail u ++ s → (t ≡ u) × (r ≡ s)
    same tails.Empty tails.Empty r s f g k e = (refl, e)
    same (tails.Attributes a) (tails.Attributes b) r s f g k e = let p = one_post_attributes.one a b r s f g e in (ap tails.Attributes p.0, p.1)
    same (tails.Cache v) (tails.Cache w) r s f g k e = let p = one_wcc.one v w r s f g e in (ap tails.Cache p.0, p.1)
    same (tails.TwoCaches a b) (tails.TwoCaches c d) r s f g k e =
        let p = one_two_caches.one (a, b) (c, d) r s f g e in (ap (λ (p : Wcc × Wcc). tails.TwoCaches p.0 p.1) p.0, p.1)
    same (tails.AttributesAndCache a b) (tails.AttributesAndCache c d) r s f g k e =
        let p = one_attributes_and_cache.one (a, b) (c, d) r s f g e in (ap (λ (p : Option Fattr × Wcc). tails.AttributesAndCache p.0 p.1) p.0, p.1)
    same t u r s f g k e = absurd (omega (arith, k))

-- ---- what stands after status 0

one_done : (r : Reply) → 1 ≤ result_form r → result_form r ≤ 100 → ReadsOne (IsDone (result_form r)) after_status
one_done (reply.Attributes object) f g = one_made made_attributes one_fattr
one_done (reply.Changed cache) f g = one_made made_changed one_wcc
one_done (reply.Found handle object dir) f g = one_made made_found one_found
one_done (reply.Allowed object bits) f g = one_made made_allowed one_allowed
one_done (reply.Text link text) f g = one_made made_text one_link_text
one_done (reply.Bytes file count eof bytes) f g = one_made made_content one_content
one_done (reply.Written cache count) f g = one_made made_written one_written
one_done (reply.Made handle object cache) f g = one_made made_object one_made_object
one_done (reply.Renamed from to) f g = one_made made_renamed one_two_caches
one_done (reply.Linked file cache) f g = one_made made_linked one_attributes_and_cache
one_done (reply.Committed cache) f g = one_made made_committed one_committed
one_done (reply.Directory dir verifier page eof) f g = one_made made_directory (one_directory false)
one_done (reply.DirectoryPlus dir verifier page eof) f g = one_made made_directory_plus (one_directory true)
one_done (reply.Space object) f g = one_made made_space (one_numbered space_words)
one_done (reply.Limits object) f g = one_made made_limits (one_numbered limits_words)
one_done (reply.Paths object) f g = one_made made_paths (one_numbered paths_words)
one_done r f g = absurd (omega (arith, f, g))

-- MKNOD has none
never_done : {bytes : List ℕ} → HasNoFront (IsDone 11) after_status bytes
never_done {bytes} = record { none = λ r rest f. no_such r f.fits.0 }
  where
    no_such : (r : Reply) → result_form r ≡ 11 → ⊥
    no_such (reply.Attributes object) e = absurd (omega (arith, e))
    no_such r e = absurd (omega (arith, e))

pub never_done_at : {a b : Option (List ℕ)} {r : Reply} (p : ℕ) → p ≡ 11 → b ≡ None → Reads (IsDone (result_form_at p)) after_status a r b
never_done_at {a} {b} {r} p e gone = subst (λ n. Reads (IsDone (result_form_at n)) after_status a r b) (sym e) (record { told = cases a b gone })
  where
    cases : (a b : Option (List ℕ)) → b ≡ None → Told (IsDone 11) after_status a r b
    cases a (Some b) gone = absurd (cc gone)
    cases None None gone = refl
    cases (Some a) None gone = never_done

-- by the number of the procedure
pub done_at : {a b : Option (List ℕ)} {r : Reply} {p n : ℕ} → p ≡ n → Reads (IsDone (result_form_at n)) after_status a r b → Reads (IsDone (result_form_at p)) after_status a r b
done_at {a} {b} {r} e f = subst (λ k. Reads (IsDone (result_form_at k)) after_status a r b) (sym e) f

-- ---- refusals and results

record IsRefusal (form : ℕ) (r : Reply) : Type 0 where
  status : NfsStatus
  after : Tail
  fits : IsTailOf form after
  same : r ≡ reply.Refused status after

cases : (a b : ℕ) (r : Reply) → IsAnswer a b r → IsRefusal a r ⊎ IsDone b r
cases a b (reply.Refused s t) f = inl (record { status = s; after = t; fits = (f.0, f.1); same = refl })
cases a b r f = inr f

answers_done : (a b : ℕ) (r : Reply) → b ≤ 100 → IsDone b r → IsAnswer a b r
answers_done a b (reply.Refused s t) few f = absurd (omega (arith, few, f.0))
answers_done a b r few f = f

module _ (a b : ℕ) (some : 1 ≤ b) (few : b ≤ 100) where
  begins : (r : Reply) → IsDone b r → result r ≡ word 0 ++ after_status r
  begins r f = begins_zero r (omega (arith, some, f.0)) (omega (arith, few, f.0))

  behind_ok : {bytes : List ℕ} (rest : List ℕ) (r : Reply) → IsDone b r → bytes ≡ result r ++ rest → IsFront IsAny status_or_ok bytes None (after_status r ++ rest)
  behind_ok rest r f e = record { fits = tt; spelled = e ∙ ap (λ (s : List ℕ). s ++ rest) (begins r f) ∙ append_assoc (word 0) (after_status r) rest }

  behind_status : {bytes : List ℕ} (rest : List ℕ) (r : Reply) → (f : IsRefusal a r) → bytes ≡ result r ++ rest → IsFront IsAny status_or_ok bytes (Some f.status) (tail f.after ++ rest)
  behind_status rest r f e = record {
    fits = tt;
    spelled = e ∙ ap (λ (r : Reply). result r ++ rest) f.same ∙ append_assoc (word (status_number f.status)) (tail f.after) rest;
  }

  done_front : {bytes middle rest : List ℕ} {r : Reply} → IsFront IsAny status_or_ok bytes None middle → IsFront (IsDone b) after_status middle r rest
      → IsFront (IsAnswer a b) result bytes r rest
  done_front {rest = rest} {r = r} f g = record {
    fits = answers_done a b r few g.fits;
    spelled =
        f.spelled ∙ ap (λ (s : List ℕ). word 0 ++ s) g.spelled ∙ sym (append_assoc (word 0) (after_status r) rest)
        ∙ ap (λ (s : List ℕ). s ++ rest) (sym (begins r g.fits));
  }

  no_status : {bytes : List ℕ} → HasNoFront IsAny status_or_ok bytes → HasNoFront (IsAnswer a b) result bytes
  no_status {bytes} absent = record { none = λ r rest f. either r rest f.spelled (cases a b r f.fits) }
    where
      either : (r : Reply) (rest : List ℕ) → bytes ≡ result r ++ rest → IsRefusal a r ⊎ IsDone b r → ⊥
      either r rest e (inl f) = let g = behind_status rest r f e in absent.none (Some f.status) (tail f.after ++ rest) g
      either r rest e (inr f) = let g = behind_ok rest r f e in absent.none None (after_status r ++ rest) g

  not_done : {bytes middle : List ℕ} → IsFront IsAny status_or_ok bytes None middle → HasNoFront (IsDone b) after_status middle → HasNoFront (IsAnswer a b) result bytes
  not_done {bytes} {middle} status absent = record { none = λ r rest f. either r rest f.spelled (cases a b r f.fits) }
    where
      either : (r : Reply) (rest : List ℕ) → bytes ≡ result r ++ rest → IsRefusal a r ⊎ IsDone b r → ⊥
      either r rest e (inl f) =
          let g = behind_status rest r f e in
          let p = (one_status_or_ok.one None (Some f.status) middle (tail f.after ++ rest) tt tt (sym status.spelled ∙ g.spelled)).0 in
          absurd (cc p)
      either r rest e (inr f) =
          let g = behind_ok rest r f e in
          let p = one_status_or_ok.one None None middle (after_status r ++ rest) tt tt (sym status.spelled ∙ g.spelled) in
          absent.none r rest (record { fits = f; spelled = p.1 })

  refused_front : {bytes middle rest : List ℕ} {s : NfsStatus} {t : Tail} → IsFront IsAny status_or_ok bytes (Some s) middle → IsFront (IsTailOf a) tail middle t rest
      → IsFront (IsAnswer a b) result bytes (reply.Refused s t) rest
  refused_front {rest = rest} {s = s} {t = t} f g = record {
    fits = g.fits;
    spelled = f.spelled ∙ ap (λ (bytes : List ℕ). status_or_ok (Some s) ++ bytes) g.spelled ∙ sym (append_assoc (word (status_number s)) (tail t) rest);
  }

  not_refused : {bytes middle : List ℕ} {s : NfsStatus} → IsFront IsAny status_or_ok bytes (Some s) middle → HasNoFront (IsTailOf a) tail middle → HasNoFront (IsAnswer a b) result bytes
  not_refused {bytes} {middle} {s} status absent = record { none = λ r rest f. either r rest f.spelled (cases a b r f.fits) }
    where
      either : (r : Reply) (rest : List ℕ) → bytes ≡ result r ++ rest → IsRefusal a r ⊎ IsDone b r → ⊥
      either r rest e (inl f) =
          let g = behind_status rest r f e in
          let p = one_status_or_ok.one (Some s) (Some f.status) middle (tail f.after ++ rest) tt tt (sym status.spelled ∙ g.spelled) in
          absent.none f.after rest (record { fits = f.fits; spelled = p.1 })
      either r rest e (inr f) =
          let g = behind_ok rest r f e in
          let p = (one_status_or_ok.one (Some s) None middle (after_status r ++ rest) tt tt (sym status.spelled ∙ g.spelled)).0 in
          absurd (cc p)

  pub done_read : {x y z : Option (List ℕ)} {s : Option NfsStatus} {r : Reply} → Reads IsAny status_or_ok x s y → s ≡ None → Reads (IsDone b) after_status y r z → Reads (IsAnswer a b) result x r z
  done_read {x} {y} {z} {s} {r} f ok g = record { told = told x y z s ok f.told g.told }
    where
      told : (x y z : Option (List ℕ)) (s : Option NfsStatus) → s ≡ None → Told IsAny status_or_ok x s y → Told (IsDone b) after_status y r z → Told (IsAnswer a b) result x r z
      told x y z (Some s) ok p q = absurd (cc ok)
      told None None z None ok p q = q
      told None (Some y) z None ok p q = absurd (cc p)
      told (Some x) None None None ok p q = no_status p
      told (Some x) None (Some z) None ok p q = absurd (cc q)
      told (Some x) (Some y) None None ok p q = not_done p q
      told (Some x) (Some y) (Some z) None ok p q = done_front p q

  pub refusal_read : {x y z : Option (List ℕ)} {o : Option NfsStatus} {s : NfsStatus} {t : Tail} → Reads IsAny status_or_ok x o y → o ≡ Some s → Reads (IsTailOf a) tail y t z
      → Reads (IsAnswer a b) result x (reply.Refused s t) z
  refusal_read {x} {y} {z} {o} {s} {t} f given g = record { told = told x y z (subst (λ (o : Option NfsStatus). Told IsAny status_or_ok x o y) given f.told) g.told }
    where
      told : (x y z : Option (List ℕ)) → Told IsAny status_or_ok x (Some s) y → Told (IsTailOf a) tail y t z → Told (IsAnswer a b) result x (reply.Refused s t) z
      told None None z p q = q
      told None (Some y) z p q = absurd (cc p)
      told (Some x) None None p q = no_status p
      told (Some x) None (Some z) p q = absurd (cc q)
      told (Some x) (Some y) None p q = not_refused p q
      told (Some x) (Some y) (Some z) p q = refused_front p q

  one_answer : ReadsOne (IsAnswer a b) result
  one_answer = record { one = λ x y r s f g e. either x y r s (cases a b x f) (cases a b y g) e }
    where
      refused : (x y : Reply) (s t : NfsStatus) (v w : Tail) → x ≡ reply.Refused s v → y ≡ reply.Refused t w → Some s ≡ Some t → v ≡ w → x ≡ y
      refused x y s t v w p q same tails = cc

      either : (x y : Reply) (r s : List ℕ) → IsRefusal a x ⊎ IsDone b x → IsRefusal a y ⊎ IsDone b y → result x ++ r ≡ result y ++ s → (x ≡ y) × (r ≡ s)
      either x y r s (inl f) (inl g) e =
          let h = behind_status r x f refl in
          let k = behind_status s y g e in
          let p = one_status_or_ok.one (Some f.status) (Some g.status) (tail f.after ++ r) (tail g.after ++ s) tt tt (sym h.spelled ∙ k.spelled) in
          let q = (one_tail_of a).one f.after g.after r s f.fits g.fits p.1 in
          (refused x y f.status g.status f.after g.after f.same g.same p.0 q.0, q.1)
      either x y r s (inl f) (inr g) e =
          let h = behind_status r x f refl in
          let k = behind_ok s y g e in
          let p = (one_status_or_ok.one (Some f.status) None (tail f.after ++ r) (after_status y ++ s) tt tt (sym h.spelled ∙ k.spelled)).0 in
          absurd (cc p)
      either x y r s (inr f) (inl g) e =
          let h = behind_ok r x f refl in
          let k = behind_status s y g e in
          let p = (one_status_or_ok.one None (Some g.status) (after_status x ++ r) (tail g.after ++ s) tt tt (sym h.spelled ∙ k.spelled)).0 in
          absurd (cc p)
      either x y r s (inr f) (inr g) e =
          let h = behind_ok r x f refl in
          let k = behind_ok s y g e in
          let p = one_status_or_ok.one None None (after_status x ++ r) (after_status y ++ s) tt tt (sym h.spelled ∙ k.spelled) in
          (one_done x (omega (arith, some, f.0)) (omega (arith, few, f.0))).one x y r s (refl, f.1) (g.0 ∙ sym f.0, g.1) p.1

-- ---- by the numbers of procedures

-- whether each item passes, with its number
abbrev pass : {A : Type 0} → (ℕ → A → Bool) → ℕ → List A → Bool
pass test k [] = true
pass test k (x ∷ xs) = test k x && pass test (suc k) xs

passed : (a b : Bool) → (a && b) ≡ true → (a ≡ true) × (b ≡ true)
passed true b e = (refl, e)
passed false b e = cc

passes_from : {A : Type 0} (test : ℕ → A → Bool) (k : ℕ) (xs : List A) (i : ℕ) (default : A) → pass test k xs ≡ true → i < length xs → test (k + i) (get_or xs i default) ≡ true
passes_from test k [] i default h inside = absurd (omega (arith, inside))
passes_from test k (x ∷ xs) zero default h inside = subst (λ n. test n x ≡ true) same (passed (test k x) (pass test (suc k) xs) h).0
  where
    same : k ≡ k + 0
    same = omega arith
passes_from test k (x ∷ xs) (suc i) default h inside =
    subst (λ n. test n (get_or xs i default) ≡ true) same (passes_from test (suc k) xs i default (passed (test k x) (pass test (suc k) xs) h).1 (omega (arith, inside)))
  where
    same : suc k + i ≡ k + suc i
    same = omega arith

passes : {A : Type 0} (test : ℕ → A → Bool) (xs : List A) (i : ℕ) (default : A) → pass test 0 xs ≡ true → i < length xs → test i (get_or xs i default) ≡ true
passes test xs i default h inside = subst (λ n. test n (get_or xs i default) ≡ true) same (passes_from test 0 xs i default h inside)
  where
    same : 0 + i ≡ i
    same = omega arith

-- a result's form of another procedure than NULL
abbrev is_bounded : ℕ → ℕ → Bool
is_bounded k form = nat_le 1 form && nat_le form 100

pub bounded : (p : ℕ) → 1 ≤ p → p < 22 → (1 ≤ result_form_at p) × (result_form_at p ≤ 100)
bounded zero some few = absurd (omega (arith, some))
bounded (suc p) some few =
    let form = result_form_at (suc p) in
    let h = passed (nat_le 1 form) (nat_le form 100)
    (passes is_bounded (1 ∷ 2 ∷ 3 ∷ 4 ∷ 5 ∷ 6 ∷ 7 ∷ 8 ∷ 8 ∷ 8 ∷ 11 ∷ 2 ∷ 2 ∷ 14 ∷ 15 ∷ 16 ∷ 17 ∷ 18 ∷ 19 ∷ 20 ∷ 21 ∷ []) p 200 refl (omega (arith, few))) in
    (leb-true 1 form h.0, leb-true form 100 h.1)

abbrev Answers : ℕ → ℕ → Reply → Type 0
Answers program procedure r = IsAnswer (tail_form_for program procedure) (result_form_for program procedure) r

one_for : (program procedure : ℕ) → IsProcedure program procedure → ReadsOne (Answers program procedure) result
one_for program zero (inl h) = subst (λ (n : ℕ). ReadsOne (Answers n 0) result) (sym h.0) one_nothing
one_for program (suc p) (inl h) =
    let b = bounded (suc p) (omega arith) h.1 in
    subst (λ (n : ℕ). ReadsOne (Answers n (suc p)) result) (sym h.0) (one_answer (tail_form_at (suc p)) (result_form_at (suc p)) b.0 b.1)
one_for program procedure (inr h) = subst (λ (n : ℕ). ReadsOne (Answers n procedure) result) (sym h.0) (one_of_mount procedure h.1)

-- ---- by the arguments of procedures

pub forms_of : (args : Args) → (tail_form_for (program_of args) (procedure_of args) ≡ tail_form_of args) × (result_form_for (program_of args) (procedure_of args) ≡ result_form_of args)
forms_of call.Null = (refl, refl)
forms_of (call.GetAttr object) = (refl, refl)
forms_of (call.SetAttr object what guard) = (refl, refl)
forms_of (call.Lookup dir name) = (refl, refl)
forms_of (call.Access object bits) = (refl, refl)
forms_of (call.ReadLink link) = (refl, refl)
forms_of (call.Read file offset count) = (refl, refl)
forms_of (call.Write file offset count stable bytes) = (refl, refl)
forms_of (call.Create dir name how) = (refl, refl)
forms_of (call.MkDir dir name what) = (refl, refl)
forms_of (call.SymLink dir name what text) = (refl, refl)
forms_of (call.MkNod dir name node) = (refl, refl)
forms_of (call.Remove dir name) = (refl, refl)
forms_of (call.RmDir dir name) = (refl, refl)
forms_of (call.Rename dir name to_dir to_name) = (refl, refl)
forms_of (call.Link file dir name) = (refl, refl)
forms_of (call.ReadDir dir cookie verifier count) = (refl, refl)
forms_of (call.ReadDirPlus dir cookie verifier dircount maxcount) = (refl, refl)
forms_of (call.FsStat object) = (refl, refl)
forms_of (call.FsInfo object) = (refl, refl)
forms_of (call.PathConf object) = (refl, refl)
forms_of (call.Commit file offset count) = (refl, refl)
forms_of call.MountNull = (refl, refl)
forms_of (call.Mnt path) = (refl, refl)
forms_of call.Dump = (refl, refl)
forms_of (call.Umnt path) = (refl, refl)
forms_of call.UmntAll = (refl, refl)
forms_of call.Export = (refl, refl)

to_forms : (args : Args) (r : Reply) → IsReplyTo args r → IsOfForms (tail_form_of args) (result_form_of args) r
to_forms args (reply.Refused s t) h = h
to_forms args r h = h

from_forms : (args : Args) (r : Reply) → IsOfForms (tail_form_of args) (result_form_of args) r → IsReplyTo args r
from_forms args (reply.Refused s t) h = h
from_forms args r h = h

same_forms : (a b c d : ℕ) (r : Reply) → a ≡ c → b ≡ d → IsOfForms a b r → IsOfForms c d r
same_forms a b c d r p q h = subst (λ (n : ℕ). IsOfForms n d r) p (subst (λ (n : ℕ). IsOfForms a n r) q h)

-- some arguments of the procedure
record ArgsOf (program procedure : ℕ) : Type 0 where
  args : Args
  program_is : program_of args ≡ program
  procedure_is : procedure_of args ≡ procedure

abbrev is_call_of : ℕ → ℕ → Args → Bool
is_call_of program k args = nat_eq (program_of args) program && nat_eq (procedure_of args) k

abbrev nfs_calls : List Args
nfs_calls =
    call.Null
    ∷ (call.GetAttr [])
    ∷ (call.SetAttr [] (only_mode 0) None)
    ∷ (call.Lookup [] [])
    ∷ (call.Access [] 0)
    ∷ (call.ReadLink [])
    ∷ (call.Read [] 0 0)
    ∷ (call.Write [] 0 0 0 [])
    ∷ (call.Create [] [] (Exclusive []))
    ∷ (call.MkDir [] [] (only_mode 0))
    ∷ (call.SymLink [] [] (only_mode 0) [])
    ∷ (call.MkNod [] [] (Plain 1))
    ∷ (call.Remove [] [])
    ∷ (call.RmDir [] [])
    ∷ (call.Rename [] [] [] [])
    ∷ (call.Link [] [] [])
    ∷ (call.ReadDir [] 0 [] 0)
    ∷ (call.ReadDirPlus [] 0 [] 0 0)
    ∷ (call.FsStat [])
    ∷ (call.FsInfo [])
    ∷ (call.PathConf [])
    ∷ (call.Commit [] 0 0)
    ∷ []

abbrev mount_calls : List Args
mount_calls = call.MountNull ∷ (call.Mnt []) ∷ call.Dump ∷ (call.Umnt []) ∷ call.UmntAll ∷ call.Export ∷ []

of_call : (program procedure : ℕ) (args : Args) → is_call_of program procedure args ≡ true → ArgsOf program procedure
of_call program procedure args e =
    let h = passed (nat_eq (program_of args) program) (nat_eq (procedure_of args) procedure) e in
    record { args = args; program_is = eqb-true (program_of args) program h.0; procedure_is = eqb-true (procedure_of args) procedure h.1 }

some_args : (program procedure : ℕ) → IsProcedure program procedure → ArgsOf program procedure
some_args program procedure (inl h) =
    subst (λ n. ArgsOf n procedure) (sym h.0) (of_call nfs_program procedure (get_or nfs_calls procedure call.Null) (passes (is_call_of nfs_program) nfs_calls procedure call.Null refl h.1))
some_args program procedure (inr h) =
    subst (λ n. ArgsOf n procedure) (sym h.0)
    (of_call mount_program procedure (get_or mount_calls procedure call.MountNull) (passes (is_call_of mount_program) mount_calls procedure call.MountNull refl h.1))

forms_at : (program procedure : ℕ) (args : Args) → program_of args ≡ program → procedure_of args ≡ procedure
    → (tail_form_for program procedure ≡ tail_form_of args) × (result_form_for program procedure ≡ result_form_of args)
forms_at program procedure args p q = (
  sym (λ i. tail_form_for (p i) (q i)) ∙ (forms_of args).0,
  sym (λ i. result_form_for (p i) (q i)) ∙ (forms_of args).1,
)

module _ (program procedure : ℕ) {bytes : List ℕ} where
  pub is_reply : {rest : List ℕ} {r : Reply} → IsProcedure program procedure → IsFront (Answers program procedure) result bytes r rest → rest ≡ [] → IsReply program procedure bytes r
  is_reply {r = r} exists f ends =
      let a = some_args program procedure exists in
      let e = forms_at program procedure a.args a.program_is a.procedure_is in
      record {
        args = a.args;
        program_is = sym a.program_is;
        procedure_is = sym a.procedure_is;
        answers = from_forms a.args r (same_forms _ _ _ _ r e.0 e.1 f.fits.0);
        fits = f.fits.1;
        spelled = f.spelled ∙ ap (λ (s : List ℕ). result r ++ s) ends ∙ append-nil (result r);
      }

  front_of : {r : Reply} → IsReply program procedure bytes r → IsFront (Answers program procedure) result bytes r []
  front_of {r} i =
      let e = forms_at program procedure i.args (sym i.program_is) (sym i.procedure_is) in
      record { fits = (same_forms _ _ _ _ r (sym e.0) (sym e.1) (to_forms i.args r i.answers), i.fits); spelled = i.spelled ∙ sym (append-nil (result r)) }

  pub no_reply : HasNoFront (Answers program procedure) result bytes → (r : Reply) → IsReply program procedure bytes r → ⊥
  no_reply absent r i = absent.none r [] (front_of i)

  pub more_than_a_reply : {rest : List ℕ} {r : Reply} → IsProcedure program procedure → IsFront (Answers program procedure) result bytes r rest → rest ≢ []
      → (other : Reply) → IsReply program procedure bytes other → ⊥
  more_than_a_reply {rest} {r} exists f more other i =
      let g = front_of i in
      more ((one_for program procedure exists).one r other rest [] f.fits g.fits (sym f.spelled ∙ g.spelled)).1

-- ---- the whole

module _ (program procedure : ℕ) {bytes : List ℕ} {now : Option (List ℕ)} {r : Reply} (exists : IsProcedure program procedure) (read : Reads (Answers program procedure) result (Some bytes) r now) where
  pub whole_reply : now ≡ Some [] → IsReply program procedure bytes r
  whole_reply ends = cases now ends read.told
    where
      cases : (now : Option (List ℕ)) → now ≡ Some [] → Told (Answers program procedure) result (Some bytes) r now → IsReply program procedure bytes r
      cases None ends p = absurd (cc ends)
      cases (Some []) ends p = is_reply program procedure exists p refl
      cases (Some (x ∷ rest)) ends p = absurd (cc ends)

  pub no_whole_reply : now ≢ Some [] → (other : Reply) → IsReply program procedure bytes other → ⊥
  no_whole_reply more = cases now more read.told
    where
      cases : (now : Option (List ℕ)) → now ≢ Some [] → Told (Answers program procedure) result (Some bytes) r now → (other : Reply) → IsReply program procedure bytes other → ⊥
      cases None more p = no_reply program procedure p
      cases (Some []) more p = absurd (more refl)
      cases (Some (x ∷ rest)) more p = more_than_a_reply program procedure exists p (λ e. absurd (cc e))

-- NULL has one reply
pub null_read : (program procedure : ℕ) (a : Option (List ℕ)) → program ≡ nfs_program → procedure ≡ 0 → Reads (Answers program procedure) result a reply.Nothing a
null_read program procedure a p q = subst (λ n. Reads (Answers n procedure) result a reply.Nothing a) (sym p) (subst (λ n. Reads (Answers nfs_program n) result a reply.Nothing a) (sym q) (nothing_read a))

-- ---- what stands after a refusal

pub two_caches_read : {a b c : Option (List ℕ)} {v w : Wcc} → Reads IsWcc wcc a v b → Reads IsWcc wcc b w c → Reads (IsTailOf 3) tail a (tails.TwoCaches v w) c
two_caches_read f g = (made_read made_two_caches (part one_wcc f ▸ part one_wcc g)).reads

pub attributes_and_cache_read : {a b c : Option (List ℕ)} {o : Option Fattr} {w : Wcc} → Reads (IsOptional IsFattr) (optional fattr) a o b → Reads IsWcc wcc b w c
    → Reads (IsTailOf 4) tail a (tails.AttributesAndCache o w) c
attributes_and_cache_read f g = (made_read made_attributes_and_cache (part one_post_attributes f ▸ part one_wcc g)).reads

cache_of : (t : Tail) → IsTailOf 2 t → MadeOf IsWcc tails.Cache t
cache_of (tails.Cache w) f = record { part = w; fits = f.1; same = refl }
cache_of t f = absurd (omega (arith, f.0))

made_cache : Made IsWcc wcc (IsTailOf 2) tail tails.Cache
made_cache = record { whole = λ w f. (refl, f); spelled = λ w. refl; parts = cache_of }

pub cache_read : {a b : Option (List ℕ)} {w : Wcc} (p : ℕ) → tail_form_at p ≡ 2 → Reads IsWcc wcc a w b → Reads (IsTailOf (tail_form_at p)) tail a (tails.Cache w) b
cache_read {a} {b} {w} p e f = subst (λ n. Reads (IsTailOf n) tail a (tails.Cache w) b) (sym e) (made_read made_cache (part one_wcc f)).reads

-- the procedures whose refusals have a cache
pub cache_form_2 : (p : ℕ) → p ≡ 2 → tail_form_at p ≡ 2
cache_form_2 p e = ap tail_form_at e

pub cache_form_7 : (p : ℕ) → 7 ≤ p → p < 14 → tail_form_at p ≡ 2
cache_form_7 p some few = ap tail_form_at split ∙ behind (p - 7) (omega (arith, some, few))
  where
    split : p ≡ 7 + (p - 7)
    split = omega (arith, some)

    behind : (k : ℕ) → k < 7 → tail_form_at (7 + k) ≡ 2
    behind zero h = refl
    behind (suc zero) h = refl
    behind (suc (suc zero)) h = refl
    behind (suc (suc (suc zero))) h = refl
    behind (suc (suc (suc (suc zero)))) h = refl
    behind (suc (suc (suc (suc (suc zero))))) h = refl
    behind (suc (suc (suc (suc (suc (suc zero)))))) h = refl
    behind (suc (suc (suc (suc (suc (suc (suc k))))))) h = absurd (omega (arith, h))

pub cache_form_21 : (p : ℕ) → p ≡ 21 → tail_form_at p ≡ 2
cache_form_21 p e = ap tail_form_at e
