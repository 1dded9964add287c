-- The results of each procedure can be read in one way only.
use Rattle.std.proofs.Common.{◌≡◌, ℕ, ◌^◌, ◌<◌, ◌≤◌, Bool, List, [], ◌∷◌, ◌++◌, drop, Option, Some, None, ◌⊎◌, inl, inr, refl, sym, ap, ◌∙◌, arith, append_assoc}
use Rattle.std.specs.Prelude.{IfSome, IsSomeAnd, ⊤}
use Rattle.std.specs.List.{flat_map, AllByRecursion}
use Rattle.std.proofs.lemmas.List.{append_cancel_left}
use Rattle.ivy_base.specs.declared.operation.Kind.{Kind}
use Rattle.ivy_base.specs.declared.operation.Kind.TheVariants.{Reg, Dir, Lnk}
use Rattle.ivy_base.specs.declared.operation.Moment.{Moment}
use Rattle.log_model.specs.Spelling.{kind_number}
use Rattle.wire_model.specs.Xdr.{word, double_word, opaque, optional, boolean}
use Rattle.wire_model.specs.OneReading.{ReadsOne}
use Rattle.wire_model.proofs.OneReading.{◌▷◌, regrouped, always, whole, of_parts, one_word, one_double_word, one_boolean, one_moment, one_opaque, one_optional}
use Rattle.nfs_model.specs.declared.arguments.Args.{Args}
use Rattle.nfs_model.specs.declared.arguments.Args.TheVariants as call
use Rattle.nfs_model.specs.declared.replies.NfsStatus.{NfsStatus}
use Rattle.nfs_model.specs.declared.replies.NfsStatus.TheVariants as status
use Rattle.nfs_model.specs.declared.replies.Fattr.{Fattr}
use Rattle.nfs_model.specs.declared.replies.Wcc.{Wcc}
use Rattle.nfs_model.specs.declared.replies.WccBefore.{WccBefore}
use Rattle.nfs_model.specs.declared.replies.Listed.{Listed}
use Rattle.nfs_model.specs.declared.replies.Tail.{Tail}
use Rattle.nfs_model.specs.declared.replies.Tail.TheVariants as tails
use Rattle.nfs_model.specs.declared.replies.Reply.{Reply}
use Rattle.nfs_model.specs.declared.replies.Reply.TheVariants as reply
use Rattle.nfs_model.specs.Arguments.{IsHandle, IsVerifier}
use Rattle.nfs_model.specs.Results.{status_number, fattr, before, wcc, tail, write_verifier, many, result}
use Rattle.nfs_model.specs.Replies.{IsFattr, IsBefore, IsWcc, IsTail, IsText, IsPlainEntry, IsPlusEntry, ReplyFits, tail_form, tail_form_of, result_form, result_form_of, IsReplyTo}
use Rattle.nfs_model.specs.Laws.{RepliesReadOne, RepliesAreUnambiguous}
use Rattle.nfs_model.proofs.OneArguments.{one_handle, one_verifier, same_made}
use Rattle.tree_model.specs.Tree.{longest_file}

-- ---- parts

kind_fits : (k : Kind) → kind_number k < 2 ^ 32
kind_fits Reg = omega arith
kind_fits Dir = omega arith
kind_fits Lnk = omega arith

kinds_apart : (k l : Kind) → kind_number k ≡ kind_number l → k ≡ l
kinds_apart Reg Reg e = refl
kinds_apart Dir Dir e = refl
kinds_apart Lnk Lnk e = refl
kinds_apart k l e = absurd (omega (arith, e))

pub one_kind : ReadsOne (λ (k : Kind). ⊤) (λ k. word (kind_number k))
one_kind = of_parts kind_number (λ k f. kind_fits k) (λ k. refl) kinds_apart one_word

abbrev Times : Type 0
Times = (Moment × Moment) × Moment

abbrev Attributes : Type 0
Attributes = (((((((((((((Kind × ℕ) × ℕ) × ℕ) × ℕ) × ℕ) × ℕ) × Unit {0}) × Unit {0}) × ℕ) × ℕ) × Moment) × Moment) × Moment)

abbrev attributes_of : Fattr → Attributes
attributes_of a = (((((((((((((a.kind, a.mode), a.nlink), a.uid), a.gid), a.size), a.used), tt), tt), a.fsid), a.fileid), a.atime), a.mtime), a.ctime)

abbrev with_attributes : Attributes → Fattr
with_attributes p = record {
  kind = p.0.0.0.0.0.0.0.0.0.0.0.0.0;
  mode = p.0.0.0.0.0.0.0.0.0.0.0.0.1;
  nlink = p.0.0.0.0.0.0.0.0.0.0.0.1;
  uid = p.0.0.0.0.0.0.0.0.0.0.1;
  gid = p.0.0.0.0.0.0.0.0.0.1;
  size = p.0.0.0.0.0.0.0.0.1;
  used = p.0.0.0.0.0.0.0.1;
  fsid = p.0.0.0.0.1;
  fileid = p.0.0.0.1;
  atime = p.0.0.1;
  mtime = p.0.1;
  ctime = p.1;
}

pub one_fattr : ReadsOne IsFattr fattr
one_fattr = of_parts attributes_of
    (λ a f. (((((((((((((tt, f.mode), f.nlink), f.uid), f.gid), f.size), f.used), tt), tt), f.fsid), f.fileid), f.atime), f.mtime), f.ctime))
    (λ a. refl) (λ a b e. ap with_attributes e)
    (one_kind ▷ one_word ▷ one_word ▷ one_word ▷ one_word ▷ one_double_word ▷ one_double_word ▷ always (word 0) ▷ always (word 0)
    ▷ one_double_word ▷ one_double_word ▷ one_moment ▷ one_moment ▷ one_moment)

pub one_before : ReadsOne IsBefore before
one_before = of_parts (λ (b : WccBefore). ((b.size, b.mtime), b.ctime)) (λ b f. ((f.size, f.mtime), f.ctime)) (λ b. refl)
    (λ a b e. ap (λ (p : (ℕ × Moment) × Moment). record { size = p.0.0; mtime = p.0.1; ctime = p.1 }) e)
    (one_double_word ▷ one_moment ▷ one_moment)

pub one_wcc : ReadsOne IsWcc wcc
one_wcc = of_parts (λ (w : Wcc). (w.before, w.after)) (λ w f. (f.before, f.after)) (λ w. refl)
    (λ a b e. ap (λ (p : Option WccBefore × Option Fattr). record { before = p.0; after = p.1 }) e)
    (one_optional one_before ▷ one_optional one_fattr)

pub one_post_attributes : ReadsOne (λ a. IfSome a IsFattr) (optional fattr)
one_post_attributes = one_optional one_fattr

pub one_text : ReadsOne IsText opaque
one_text = one_opaque

-- ---- statuses and what stands after them

pub status_fits : (s : NfsStatus) → status_number s < 2 ^ 32
status_fits status.Perm = omega arith
status_fits status.NoEnt = omega arith
status_fits status.Io = omega arith
status_fits status.Acces = omega arith
status_fits status.Exist = omega arith
status_fits status.NotDir = omega arith
status_fits status.IsDir = omega arith
status_fits status.Inval = omega arith
status_fits status.FBig = omega arith
status_fits status.RoFs = omega arith
status_fits status.MLink = omega arith
status_fits status.NameTooLong = omega arith
status_fits status.NotEmpty = omega arith
status_fits status.Stale = omega arith
status_fits status.BadHandle = omega arith
status_fits status.NotSync = omega arith
status_fits status.BadCookie = omega arith
status_fits status.NotSupp = omega arith
status_fits status.TooSmall = omega arith
status_fits status.ServerFault = omega arith
status_fits status.Jukebox = omega arith

pub is_no_ok : (s : NfsStatus) → status_number s ≡ 0 → ⊥
is_no_ok status.Perm e = absurd (omega (arith, e))
is_no_ok status.NoEnt e = absurd (omega (arith, e))
is_no_ok status.Io e = absurd (omega (arith, e))
is_no_ok status.Acces e = absurd (omega (arith, e))
is_no_ok status.Exist e = absurd (omega (arith, e))
is_no_ok status.NotDir e = absurd (omega (arith, e))
is_no_ok status.IsDir e = absurd (omega (arith, e))
is_no_ok status.Inval e = absurd (omega (arith, e))
is_no_ok status.FBig e = absurd (omega (arith, e))
is_no_ok status.RoFs e = absurd (omega (arith, e))
is_no_ok status.MLink e = absurd (omega (arith, e))
is_no_ok status.NameTooLong e = absurd (omega (arith, e))
is_no_ok status.NotEmpty e = absurd (omega (arith, e))
is_no_ok status.Stale e = absurd (omega (arith, e))
is_no_ok status.BadHandle e = absurd (omega (arith, e))
is_no_ok status.NotSync e = absurd (omega (arith, e))
is_no_ok status.BadCookie e = absurd (omega (arith, e))
is_no_ok status.NotSupp e = absurd (omega (arith, e))
is_no_ok status.TooSmall e = absurd (omega (arith, e))
is_no_ok status.ServerFault e = absurd (omega (arith, e))
is_no_ok status.Jukebox e = absurd (omega (arith, e))

pub statuses_apart : (s t : NfsStatus) → status_number s ≡ status_number t → s ≡ t
statuses_apart status.Perm status.Perm e = refl
statuses_apart status.NoEnt status.NoEnt e = refl
statuses_apart status.Io status.Io e = refl
statuses_apart status.Acces status.Acces e = refl
statuses_apart status.Exist status.Exist e = refl
statuses_apart status.NotDir status.NotDir e = refl
statuses_apart status.IsDir status.IsDir e = refl
statuses_apart status.Inval status.Inval e = refl
statuses_apart status.FBig status.FBig e = refl
statuses_apart status.RoFs status.RoFs e = refl
statuses_apart status.MLink status.MLink e = refl
statuses_apart status.NameTooLong status.NameTooLong e = refl
statuses_apart status.NotEmpty status.NotEmpty e = refl
statuses_apart status.Stale status.Stale e = refl
statuses_apart status.BadHandle status.BadHandle e = refl
statuses_apart status.NotSync status.NotSync e = refl
statuses_apart status.BadCookie status.BadCookie e = refl
statuses_apart status.NotSupp status.NotSupp e = refl
statuses_apart status.TooSmall status.TooSmall e = refl
statuses_apart status.ServerFault status.ServerFault e = refl
statuses_apart status.Jukebox status.Jukebox e = refl
statuses_apart s t e = absurd (omega (arith, e))

pub one_status : ReadsOne (λ (s : NfsStatus). ⊤) (λ s. word (status_number s))
one_status = of_parts status_number (λ s f. status_fits s) (λ s. refl) statuses_apart one_word

one_tail : (t u : Tail) (r s : List ℕ) → tail_form t ≡ tail_form u → IsTail t → IsTail u → tail t ++ r ≡ tail u ++ s → (t ≡ u) × (r ≡ s)
one_tail tails.Empty tails.Empty r s p f g e = (refl, e)
one_tail (tails.Attributes a) (tails.Attributes b) r s p f g e = same_made tails.Attributes (one_post_attributes.one a b r s f g e)
one_tail (tails.Cache a) (tails.Cache b) r s p f g e = same_made tails.Cache (one_wcc.one a b r s f g e)
one_tail (tails.TwoCaches a b) (tails.TwoCaches c d) r s p f g e =
    same_made (λ (p : Wcc × Wcc). tails.TwoCaches p.0 p.1) ((one_wcc ▷ one_wcc).one (a, b) (c, d) r s f g e)
one_tail (tails.AttributesAndCache a b) (tails.AttributesAndCache c d) r s p f g e =
    same_made (λ (p : Option Fattr × Wcc). tails.AttributesAndCache p.0 p.1) ((one_post_attributes ▷ one_wcc).one (a, b) (c, d) r s f g e)
one_tail t u r s p f g e = absurd (omega (arith, p))

both : (s s2 : NfsStatus) (t t2 : Tail) → s ≡ s2 → t ≡ t2 → reply.Refused s t ≡ reply.Refused s2 t2
both s s2 t t2 p q = rw (p, q) refl

one_refusal : (s s2 : NfsStatus) (t t2 : Tail) (rest rest2 : List ℕ) → tail_form t ≡ tail_form t2 → IsTail t → IsTail t2
    → (word (status_number s) ++ tail t) ++ rest ≡ (word (status_number s2) ++ tail t2) ++ rest2 → (reply.Refused s t ≡ reply.Refused s2 t2) × (rest ≡ rest2)
one_refusal s s2 t t2 rest rest2 p f g e =
    let q = one_status.one s s2 (tail t ++ rest) (tail t2 ++ rest2) tt tt (regrouped (word (status_number s)) (tail t) (word (status_number s2)) (tail t2) rest rest2 e) in
    let u = one_tail t t2 rest rest2 p f g q.1 in
    (both s s2 t t2 q.0 u.0, u.1)

-- ---- pages

-- entries, each after a one, and a zero at their end
abbrev pub flagged : (Listed → List ℕ) → Listed → List ℕ
flagged body e = word 1 ++ body e

abbrev pub entries : (Listed → List ℕ) → List Listed → List ℕ
entries body es = flat_map (flagged body) es ++ word 0

module _ (Fits : Listed → Type 0) (body : Listed → List ℕ) (reads : ReadsOne Fits body) where
  entries_from : (es fs : List Listed) (r s : List ℕ) → AllByRecursion Fits es → AllByRecursion Fits fs → entries body es ++ r ≡ entries body fs ++ s → (es ≡ fs) × (r ≡ s)
  entries_from [] [] r s f g e = (refl, append_cancel_left (word 0) r s e)
  entries_from [] (y ∷ ys) r s f g e = cc
  entries_from (x ∷ xs) [] r s f g e = cc
  entries_from (x ∷ xs) (y ∷ ys) r s f g e =
      let p = (always (word 1) ▷ reads).one (tt, x) (tt, y) (entries body xs ++ r) (entries body ys ++ s) (tt, f.0) (tt, g.0)
      (sym (in_parts x xs r) ∙ e ∙ in_parts y ys s) in
      let q = entries_from xs ys r s f.1 g.1 p.1 in
      (joined x y xs ys (ap (λ (p : Unit {0} × Listed). p.1) p.0) q.0, q.1)
    where
      in_parts : (x : Listed) (xs : List Listed) (r : List ℕ) → entries body (x ∷ xs) ++ r ≡ flagged body x ++ (entries body xs ++ r)
      in_parts x xs r = ap (λ (bytes : List ℕ). bytes ++ r) (append_assoc (flagged body x) (flat_map (flagged body) xs) (word 0)) ∙ append_assoc (flagged body x) (entries body xs) r

      joined : (x y : Listed) (xs ys : List Listed) → x ≡ y → xs ≡ ys → x ∷ xs ≡ y ∷ ys
      joined x y xs ys p q = rw (p, q) refl

  pub one_page : ReadsOne (AllByRecursion Fits) (entries body)
  one_page = record { one = entries_from }

abbrev pub plain_body : Listed → List ℕ
plain_body e = double_word e.fileid ++ opaque e.name ++ double_word e.cookie

abbrev Plain : Type 0
Plain = (ℕ × List ℕ) × ℕ

abbrev plain_of : Listed → Plain
plain_of e = ((e.fileid, e.name), e.cookie)

abbrev with_plain : Plain → Listed
with_plain p = record { fileid = p.0.0; name = p.0.1; cookie = p.1; attributes = None; handle = None }

is_plain : (e : Listed) → IsPlainEntry e → e ≡ with_plain (plain_of e)
is_plain e f =
    ap (λ (a : Option Fattr). record { fileid = e.fileid; name = e.name; cookie = e.cookie; attributes = a; handle = e.handle }) f.no_attributes
    ∙ ap (λ (h : Option (List ℕ)). record { fileid = e.fileid; name = e.name; cookie = e.cookie; attributes = None; handle = h }) f.no_handle

pub one_plain : ReadsOne IsPlainEntry plain_body
one_plain = record {
  one = λ x y r s f g e.
      let p = (one_double_word ▷ one_text ▷ one_double_word).one (plain_of x) (plain_of y) r s ((f.fileid, f.name), f.cookie) ((g.fileid, g.name), g.cookie) e in
      (is_plain x f ∙ ap with_plain p.0 ∙ sym (is_plain y g), p.1);
}

abbrev pub plus_body : Listed → List ℕ
plus_body e = plain_body e ++ optional fattr e.attributes ++ optional opaque e.handle

handle_fits : (o : Option (List ℕ)) → IsSomeAnd o IsHandle → IfSome o IsHandle
handle_fits None f = absurd f
handle_fits (Some handle) f = f

abbrev Plus : Type 0
Plus = (Plain × Option Fattr) × Option (List ℕ)

abbrev with_plus : Plus → Listed
with_plus p = record { fileid = p.0.0.0.0; name = p.0.0.0.1; cookie = p.0.0.1; attributes = p.0.1; handle = p.1 }

pub one_plus : ReadsOne IsPlusEntry plus_body
one_plus = of_parts (λ (e : Listed). ((plain_of e, e.attributes), e.handle))
    (λ e f. ((((f.fileid, f.name), f.cookie), f.attributes), handle_fits e.handle f.handle)) (λ e. refl) (λ d e p. ap with_plus p)
    (one_double_word ▷ one_text ▷ one_double_word ▷ one_post_attributes ▷ one_optional one_handle)

-- a page with what stands before and after it
abbrev Listing : Type 0
Listing = (((Unit {0} × Option Fattr) × List ℕ) × List Listed) × Bool

abbrev listing : (Listed → List ℕ) → Option Fattr → List ℕ → List Listed → Bool → List ℕ
listing body dir verifier page eof = word 0 ++ optional fattr dir ++ verifier ++ flat_map (flagged body) page ++ word 0 ++ boolean eof

module _ (Fits : Listed → Type 0) (body : Listed → List ℕ) (reads : ReadsOne Fits body) where
  one_listing : (dir dir2 : Option Fattr) (verifier verifier2 : List ℕ) (page page2 : List Listed) (eof eof2 : Bool) (r s : List ℕ)
      → IfSome dir IsFattr → IfSome dir2 IsFattr → IsVerifier verifier → IsVerifier verifier2 → AllByRecursion Fits page → AllByRecursion Fits page2
      → listing body dir verifier page eof ++ r ≡ listing body dir2 verifier2 page2 eof2 ++ s
      → ◌≡◌ {A = Listing} ((((tt, dir), verifier), page), eof) ((((tt, dir2), verifier2), page2), eof2) × (r ≡ s)
  one_listing dir dir2 verifier verifier2 page page2 eof eof2 r s f f2 g g2 h h2 e =
      (always (word 0) ▷ one_post_attributes ▷ one_verifier ▷ one_page Fits body reads ▷ one_boolean).one
      ((((tt, dir), verifier), page), eof) ((((tt, dir2), verifier2), page2), eof2) r s
      ((((tt, f), g), h), tt) ((((tt, f2), g2), h2), tt)
      (sym (ap (λ (bytes : List ℕ). bytes ++ r) (in_parts dir verifier page eof)) ∙ e ∙ ap (λ (bytes : List ℕ). bytes ++ s) (in_parts dir2 verifier2 page2 eof2))
    where
      in_parts : (dir : Option Fattr) (verifier : List ℕ) (page : List Listed) (eof : Bool)
          → listing body dir verifier page eof ≡ ((word 0 ++ optional fattr dir) ++ verifier) ++ entries body page ++ boolean eof
      in_parts dir verifier page eof = ap (λ (bytes : List ℕ). bytes ++ boolean eof) (append_assoc (word 0 ++ optional fattr dir ++ verifier) (flat_map (flagged body) page) (word 0))

-- ---- results

-- a result that is no refusal begins with a zero
pub begins_zero : (r : Reply) → 1 ≤ result_form r → result_form r ≤ 100 → result r ≡ word 0 ++ drop 4 (result r)
begins_zero (reply.Attributes object) f g = refl
begins_zero (reply.Changed cache) f g = refl
begins_zero (reply.Found handle object dir) f g = refl
begins_zero (reply.Allowed object bits) f g = refl
begins_zero (reply.Text link text) f g = refl
begins_zero (reply.Bytes file count eof bytes) f g = refl
begins_zero (reply.Written cache count) f g = refl
begins_zero (reply.Made handle object cache) f g = refl
begins_zero (reply.Renamed from to) f g = refl
begins_zero (reply.Linked file cache) f g = refl
begins_zero (reply.Committed cache) f g = refl
begins_zero (reply.Space object) f g = refl
begins_zero (reply.Limits object) f g = refl
begins_zero (reply.Paths object) f g = refl
begins_zero (reply.Directory dir verifier page eof) f g = refl
begins_zero (reply.DirectoryPlus dir verifier page eof) f g = refl
begins_zero r f g = absurd (omega (arith, f, g))

no_refusal : (s : NfsStatus) (t : Tail) (r : Reply) (rest rest2 : List ℕ) → result_form r ≤ 100 → 1 ≤ result_form r
    → (word (status_number s) ++ tail t) ++ rest ≡ result r ++ rest2 → ⊥
no_refusal s t r rest rest2 f g e =
    let begun : (word (status_number s) ++ tail t) ++ rest ≡ (word 0 ++ drop 4 (result r)) ++ rest2 = e ∙ ap (λ (bytes : List ℕ). bytes ++ rest2) (begins_zero r g f) in
    is_no_ok s (one_word.one (status_number s) 0 (tail t ++ rest) (drop 4 (result r) ++ rest2) (status_fits s) (omega arith)
    (regrouped (word (status_number s)) (tail t) (word 0) (drop 4 (result r)) rest rest2 begun)).0

-- replies of one form: those to NULL and of MOUNT are no refusals
abbrev IsOfForms : ℕ → ℕ → Reply → Type 0
IsOfForms a b (reply.Refused s t) = tail_form t ≡ a
IsOfForms a b r = result_form r ≡ b

pub tail_below : (t : Tail) → tail_form t < 5
tail_below tails.Empty = omega arith
tail_below (tails.Attributes a) = omega arith
tail_below (tails.Cache w) = omega arith
tail_below (tails.TwoCaches v w) = omega arith
tail_below (tails.AttributesAndCache a w) = omega arith

refused_or_done : (a b : ℕ) → (5 ≤ a) ⊎ ((1 ≤ b) × (b ≤ 100)) → (s : NfsStatus) (t : Tail) (r : Reply) (rest rest2 : List ℕ) → tail_form t ≡ a → result_form r ≡ b
    → (word (status_number s) ++ tail t) ++ rest ≡ result r ++ rest2 → ⊥
refused_or_done a b (inl h) s t r rest rest2 p q e = absurd (omega (arith, h, p, tail_below t))
refused_or_done a b (inr h) s t r rest rest2 p q e = no_refusal s t r rest rest2 (omega (arith, h.1, q)) (omega (arith, h.0, q)) e

same_reply : (a b : ℕ) → (5 ≤ a) ⊎ ((1 ≤ b) × (b ≤ 100)) → (reply other : Reply) (r s : List ℕ) → IsOfForms a b reply → IsOfForms a b other → ReplyFits reply → ReplyFits other
    → result reply ++ r ≡ result other ++ s → (reply ≡ other) × (r ≡ s)
same_reply a b h reply.Nothing reply.Nothing r s p q f g e = (refl, e)
same_reply a b h (reply.Refused fault with) (reply.Refused fault2 with2) r s p q f g e = one_refusal fault fault2 with with2 r s (p ∙ sym q) f g e
same_reply a b h (reply.Attributes object) (reply.Attributes object2) r s p q f g e =
    same_made (λ (p : Unit {0} × Fattr). reply.Attributes p.1)
    ((always (word 0) ▷ one_fattr).one (tt, object) (tt, object2) r s
    (tt, f) (tt, g) e)
same_reply a b h (reply.Changed cache) (reply.Changed cache2) r s p q f g e =
    same_made (λ (p : Unit {0} × Wcc). reply.Changed p.1)
    ((always (word 0) ▷ one_wcc).one (tt, cache) (tt, cache2) r s
    (tt, f) (tt, g) e)
same_reply a b h (reply.Found handle object dir) (reply.Found handle2 object2 dir2) r s p q f g e =
    same_made (λ (p : ((Unit {0} × List ℕ) × Option Fattr) × Option Fattr). reply.Found p.0.0.1 p.0.1 p.1)
    ((always (word 0) ▷ one_handle ▷ one_post_attributes ▷ one_post_attributes).one (((tt, handle), object), dir) (((tt, handle2), object2), dir2) r s
    (((tt, f.0), f.1), f.2) (((tt, g.0), g.1), g.2) e)
same_reply a b h (reply.Allowed object bits) (reply.Allowed object2 bits2) r s p q f g e =
    same_made (λ (p : (Unit {0} × Option Fattr) × ℕ). reply.Allowed p.0.1 p.1)
    ((always (word 0) ▷ one_post_attributes ▷ one_word).one ((tt, object), bits) ((tt, object2), bits2) r s
    ((tt, f.0), f.1) ((tt, g.0), g.1) e)
same_reply a b h (reply.Text link text) (reply.Text link2 text2) r s p q f g e =
    same_made (λ (p : (Unit {0} × Option Fattr) × List ℕ). reply.Text p.0.1 p.1)
    ((always (word 0) ▷ one_post_attributes ▷ one_text).one ((tt, link), text) ((tt, link2), text2) r s
    ((tt, f.0), f.1) ((tt, g.0), g.1) e)
same_reply a b h (reply.Bytes file count eof bytes) (reply.Bytes file2 count2 eof2 bytes2) r s p q f g e =
    same_made (λ (p : (((Unit {0} × Option Fattr) × ℕ) × Bool) × List ℕ). reply.Bytes p.0.0.0.1 p.0.0.1 p.0.1 p.1)
    ((always (word 0) ▷ one_post_attributes ▷ one_word ▷ one_boolean ▷ one_text).one ((((tt, file), count), eof), bytes) ((((tt, file2), count2), eof2), bytes2) r s
    ((((tt, f.0), f.1), tt), f.2) ((((tt, g.0), g.1), tt), g.2) e)
same_reply a b h (reply.Written cache count) (reply.Written cache2 count2) r s p q f g e =
    same_made (λ (p : (((Unit {0} × Wcc) × ℕ) × Unit {0}) × Unit {0}). reply.Written p.0.0.0.1 p.0.0.1)
    ((always (word 0) ▷ one_wcc ▷ one_word ▷ always (word 2) ▷ always write_verifier).one ((((tt, cache), count), tt), tt) ((((tt, cache2), count2), tt), tt) r s
    ((((tt, f.0), f.1), tt), tt) ((((tt, g.0), g.1), tt), tt) e)
same_reply a b h (reply.Made handle object cache) (reply.Made handle2 object2 cache2) r s p q f g e =
    same_made (λ (p : (((Unit {0} × Unit {0}) × List ℕ) × Option Fattr) × Wcc). reply.Made p.0.0.1 p.0.1 p.1)
    ((always (word 0) ▷ always (word 1) ▷ one_handle ▷ one_post_attributes ▷ one_wcc).one ((((tt, tt), handle), object), cache) ((((tt, tt), handle2), object2), cache2) r s
    ((((tt, tt), f.0), f.1), f.2) ((((tt, tt), g.0), g.1), g.2) e)
same_reply a b h (reply.Renamed from to) (reply.Renamed from2 to2) r s p q f g e =
    same_made (λ (p : (Unit {0} × Wcc) × Wcc). reply.Renamed p.0.1 p.1)
    ((always (word 0) ▷ one_wcc ▷ one_wcc).one ((tt, from), to) ((tt, from2), to2) r s
    ((tt, f.0), f.1) ((tt, g.0), g.1) e)
same_reply a b h (reply.Linked file cache) (reply.Linked file2 cache2) r s p q f g e =
    same_made (λ (p : (Unit {0} × Option Fattr) × Wcc). reply.Linked p.0.1 p.1)
    ((always (word 0) ▷ one_post_attributes ▷ one_wcc).one ((tt, file), cache) ((tt, file2), cache2) r s
    ((tt, f.0), f.1) ((tt, g.0), g.1) e)
same_reply a b h (reply.Committed cache) (reply.Committed cache2) r s p q f g e =
    same_made (λ (p : (Unit {0} × Wcc) × Unit {0}). reply.Committed p.0.1)
    ((always (word 0) ▷ one_wcc ▷ always write_verifier).one ((tt, cache), tt) ((tt, cache2), tt) r s
    ((tt, f), tt) ((tt, g), tt) e)
same_reply a b h (reply.Space object) (reply.Space object2) r s p q f g e =
    same_made (λ (p : ((Unit {0} × Option Fattr) × Unit {0}) × Unit {0}). reply.Space p.0.0.1)
    ((always (word 0) ▷ one_post_attributes ▷ always (many double_word (2 ^ 40 ∷ 2 ^ 40 ∷ 2 ^ 40 ∷ 2 ^ 32 ∷ 2 ^ 32 ∷ 2 ^ 32 ∷ [])) ▷ always (word 0)).one (((tt, object), tt), tt) (((tt, object2), tt), tt) r s
    (((tt, f), tt), tt) (((tt, g), tt), tt) e)
same_reply a b h (reply.Limits object) (reply.Limits object2) r s p q f g e =
    same_made (λ (p : (((Unit {0} × Option Fattr) × Unit {0}) × Unit {0}) × Unit {0}). reply.Limits p.0.0.0.1)
    ((always (word 0) ▷ one_post_attributes ▷ always (many word (8192 ∷ 8192 ∷ 512 ∷ 8192 ∷ 8192 ∷ 512 ∷ 8192 ∷ [])) ▷ always (double_word longest_file) ▷ always (many word (0 ∷ 1 ∷ 27 ∷ []))).one ((((tt, object), tt), tt), tt) ((((tt, object2), tt), tt), tt) r s
    ((((tt, f), tt), tt), tt) ((((tt, g), tt), tt), tt) e)
same_reply a b h (reply.Paths object) (reply.Paths object2) r s p q f g e =
    same_made (λ (p : (Unit {0} × Option Fattr) × Unit {0}). reply.Paths p.0.1)
    ((always (word 0) ▷ one_post_attributes ▷ always (many word (1000 ∷ 255 ∷ 1 ∷ 1 ∷ 0 ∷ 1 ∷ []))).one ((tt, object), tt) ((tt, object2), tt) r s
    ((tt, f), tt) ((tt, g), tt) e)
same_reply a b h (reply.Mounted handle) (reply.Mounted handle2) r s p q f g e =
    same_made (λ (p : (Unit {0} × List ℕ) × Unit {0}). reply.Mounted p.0.1)
    ((always (word 0) ▷ one_handle ▷ always (many word (1 ∷ 1 ∷ []))).one ((tt, handle), tt) ((tt, handle2), tt) r s
    ((tt, f), tt) ((tt, g), tt) e)
same_reply a b h (reply.Directory dir verifier page eof) (reply.Directory dir2 verifier2 page2 eof2) r s p q f g e =
    same_made (λ (p : Listing). reply.Directory p.0.0.0.1 p.0.0.1 p.0.1 p.1)
    (one_listing IsPlainEntry plain_body one_plain dir dir2 verifier verifier2 page page2 eof eof2 r s f.0 g.0 f.1 g.1 f.2 g.2 e)
same_reply a b h (reply.DirectoryPlus dir verifier page eof) (reply.DirectoryPlus dir2 verifier2 page2 eof2) r s p q f g e =
    same_made (λ (p : Listing). reply.DirectoryPlus p.0.0.0.1 p.0.0.1 p.0.1 p.1)
    (one_listing IsPlusEntry plus_body one_plus dir dir2 verifier verifier2 page page2 eof eof2 r s f.0 g.0 f.1 g.1 f.2 g.2 e)
same_reply a b h reply.NoSuchPath reply.NoSuchPath r s p q f g e = (refl, append_cancel_left (result reply.NoSuchPath) r s e)
same_reply a b h reply.NoMounts reply.NoMounts r s p q f g e = (refl, append_cancel_left (result reply.NoMounts) r s e)
same_reply a b h reply.Exports reply.Exports r s p q f g e = (refl, append_cancel_left (result reply.Exports) r s e)
same_reply a b h (reply.Mounted handle) reply.NoSuchPath r s p q f g e = cc
same_reply a b h reply.NoSuchPath (reply.Mounted handle) r s p q f g e = cc
same_reply a b h (reply.Refused fault with) reply.Nothing r s p q f g e = absurd (refused_or_done a b h fault with reply.Nothing r s p q e)
same_reply a b h (reply.Refused fault with) (reply.Attributes object) r s p q f g e = absurd (refused_or_done a b h fault with (reply.Attributes object) r s p q e)
same_reply a b h (reply.Refused fault with) (reply.Changed cache) r s p q f g e = absurd (refused_or_done a b h fault with (reply.Changed cache) r s p q e)
same_reply a b h (reply.Refused fault with) (reply.Found handle object dir) r s p q f g e = absurd (refused_or_done a b h fault with (reply.Found handle object dir) r s p q e)
same_reply a b h (reply.Refused fault with) (reply.Allowed object bits) r s p q f g e = absurd (refused_or_done a b h fault with (reply.Allowed object bits) r s p q e)
same_reply a b h (reply.Refused fault with) (reply.Text link text) r s p q f g e = absurd (refused_or_done a b h fault with (reply.Text link text) r s p q e)
same_reply a b h (reply.Refused fault with) (reply.Bytes file count eof bytes) r s p q f g e = absurd (refused_or_done a b h fault with (reply.Bytes file count eof bytes) r s p q e)
same_reply a b h (reply.Refused fault with) (reply.Written cache count) r s p q f g e = absurd (refused_or_done a b h fault with (reply.Written cache count) r s p q e)
same_reply a b h (reply.Refused fault with) (reply.Made handle object cache) r s p q f g e = absurd (refused_or_done a b h fault with (reply.Made handle object cache) r s p q e)
same_reply a b h (reply.Refused fault with) (reply.Renamed from to) r s p q f g e = absurd (refused_or_done a b h fault with (reply.Renamed from to) r s p q e)
same_reply a b h (reply.Refused fault with) (reply.Linked file cache) r s p q f g e = absurd (refused_or_done a b h fault with (reply.Linked file cache) r s p q e)
same_reply a b h (reply.Refused fault with) (reply.Committed cache) r s p q f g e = absurd (refused_or_done a b h fault with (reply.Committed cache) r s p q e)
same_reply a b h (reply.Refused fault with) (reply.Space object) r s p q f g e = absurd (refused_or_done a b h fault with (reply.Space object) r s p q e)
same_reply a b h (reply.Refused fault with) (reply.Limits object) r s p q f g e = absurd (refused_or_done a b h fault with (reply.Limits object) r s p q e)
same_reply a b h (reply.Refused fault with) (reply.Paths object) r s p q f g e = absurd (refused_or_done a b h fault with (reply.Paths object) r s p q e)
same_reply a b h (reply.Refused fault with) (reply.Mounted handle) r s p q f g e = absurd (refused_or_done a b h fault with (reply.Mounted handle) r s p q e)
same_reply a b h (reply.Refused fault with) (reply.Directory dir verifier page eof) r s p q f g e = absurd (refused_or_done a b h fault with (reply.Directory dir verifier page eof) r s p q e)
same_reply a b h (reply.Refused fault with) (reply.DirectoryPlus dir verifier page eof) r s p q f g e = absurd (refused_or_done a b h fault with (reply.DirectoryPlus dir verifier page eof) r s p q e)
same_reply a b h (reply.Refused fault with) reply.NoSuchPath r s p q f g e = absurd (refused_or_done a b h fault with reply.NoSuchPath r s p q e)
same_reply a b h (reply.Refused fault with) reply.NoMounts r s p q f g e = absurd (refused_or_done a b h fault with reply.NoMounts r s p q e)
same_reply a b h (reply.Refused fault with) reply.Exports r s p q f g e = absurd (refused_or_done a b h fault with reply.Exports r s p q e)
same_reply a b h reply.Nothing (reply.Refused fault with) r s p q f g e = absurd (refused_or_done a b h fault with reply.Nothing s r q p (sym e))
same_reply a b h (reply.Attributes object) (reply.Refused fault with) r s p q f g e = absurd (refused_or_done a b h fault with (reply.Attributes object) s r q p (sym e))
same_reply a b h (reply.Changed cache) (reply.Refused fault with) r s p q f g e = absurd (refused_or_done a b h fault with (reply.Changed cache) s r q p (sym e))
same_reply a b h (reply.Found handle object dir) (reply.Refused fault with) r s p q f g e = absurd (refused_or_done a b h fault with (reply.Found handle object dir) s r q p (sym e))
same_reply a b h (reply.Allowed object bits) (reply.Refused fault with) r s p q f g e = absurd (refused_or_done a b h fault with (reply.Allowed object bits) s r q p (sym e))
same_reply a b h (reply.Text link text) (reply.Refused fault with) r s p q f g e = absurd (refused_or_done a b h fault with (reply.Text link text) s r q p (sym e))
same_reply a b h (reply.Bytes file count eof bytes) (reply.Refused fault with) r s p q f g e = absurd (refused_or_done a b h fault with (reply.Bytes file count eof bytes) s r q p (sym e))
same_reply a b h (reply.Written cache count) (reply.Refused fault with) r s p q f g e = absurd (refused_or_done a b h fault with (reply.Written cache count) s r q p (sym e))
same_reply a b h (reply.Made handle object cache) (reply.Refused fault with) r s p q f g e = absurd (refused_or_done a b h fault with (reply.Made handle object cache) s r q p (sym e))
same_reply a b h (reply.Renamed from to) (reply.Refused fault with) r s p q f g e = absurd (refused_or_done a b h fault with (reply.Renamed from to) s r q p (sym e))
same_reply a b h (reply.Linked file cache) (reply.Refused fault with) r s p q f g e = absurd (refused_or_done a b h fault with (reply.Linked file cache) s r q p (sym e))
same_reply a b h (reply.Committed cache) (reply.Refused fault with) r s p q f g e = absurd (refused_or_done a b h fault with (reply.Committed cache) s r q p (sym e))
same_reply a b h (reply.Space object) (reply.Refused fault with) r s p q f g e = absurd (refused_or_done a b h fault with (reply.Space object) s r q p (sym e))
same_reply a b h (reply.Limits object) (reply.Refused fault with) r s p q f g e = absurd (refused_or_done a b h fault with (reply.Limits object) s r q p (sym e))
same_reply a b h (reply.Paths object) (reply.Refused fault with) r s p q f g e = absurd (refused_or_done a b h fault with (reply.Paths object) s r q p (sym e))
same_reply a b h (reply.Mounted handle) (reply.Refused fault with) r s p q f g e = absurd (refused_or_done a b h fault with (reply.Mounted handle) s r q p (sym e))
same_reply a b h (reply.Directory dir verifier page eof) (reply.Refused fault with) r s p q f g e = absurd (refused_or_done a b h fault with (reply.Directory dir verifier page eof) s r q p (sym e))
same_reply a b h (reply.DirectoryPlus dir verifier page eof) (reply.Refused fault with) r s p q f g e = absurd (refused_or_done a b h fault with (reply.DirectoryPlus dir verifier page eof) s r q p (sym e))
same_reply a b h reply.NoSuchPath (reply.Refused fault with) r s p q f g e = absurd (refused_or_done a b h fault with reply.NoSuchPath s r q p (sym e))
same_reply a b h reply.NoMounts (reply.Refused fault with) r s p q f g e = absurd (refused_or_done a b h fault with reply.NoMounts s r q p (sym e))
same_reply a b h reply.Exports (reply.Refused fault with) r s p q f g e = absurd (refused_or_done a b h fault with reply.Exports s r q p (sym e))
same_reply a b h reply other r s p q f g e = absurd (omega (arith, p, q))

forms_of : (args : Args) → (5 ≤ tail_form_of args) ⊎ ((1 ≤ result_form_of args) × (result_form_of args ≤ 100))
forms_of call.Null = inl (omega arith)
forms_of call.MountNull = inl (omega arith)
forms_of (call.Mnt path) = inl (omega arith)
forms_of call.Dump = inl (omega arith)
forms_of (call.Umnt path) = inl (omega arith)
forms_of call.UmntAll = inl (omega arith)
forms_of call.Export = inl (omega arith)
forms_of args = inr (omega arith, omega arith)

to_forms : (args : Args) (r : Reply) → IsReplyTo args r → IsOfForms (tail_form_of args) (result_form_of args) r
to_forms args (reply.Refused s t) h = h
to_forms args r h = h

-- the bytes begin with one reply alone
pub read_one : RepliesReadOne
read_one args = record {
  one = λ reply other r s f g e.
      same_reply (tail_form_of args) (result_form_of args) (forms_of args) reply other r s (to_forms args reply f.form) (to_forms args other g.form) f.fits g.fits e;
}

pub one_reply : RepliesAreUnambiguous
one_reply args reply other p q f g e = whole (read_one args) reply other (record { form = p; fits = f }) (record { form = q; fits = g }) e
