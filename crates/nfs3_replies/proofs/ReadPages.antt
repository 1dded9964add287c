-- Pages are read entry by entry.
use Rattle.std.proofs.Common.{◌≡◌, ℕ, Bool, true, false, List, [], ◌∷◌, ◌++◌, length, ◌<◌, Option, Some, None, refl, sym, ap, ◌∙◌, arith, append_assoc}
use Rattle.std.specs.Prelude.{◌≢◌}
use Rattle.std.specs.List.{flat_map, AllByRecursion}
use Rattle.std.proofs.lemmas.List.{append-nil, length-append}
use Rattle.wire_model.specs.Xdr.{word, boolean, optional, fixed, IsAny, IsOfLength}
use Rattle.wire_model.specs.OneReading.{ReadsOne, IsFront, HasNoFront}
use Rattle.wire_model.proofs.OneReading.{◌▷◌, always, regrouped, one_boolean}
use Rattle.wire_model.proofs.Arrays.{more_items}
use Rattle.nfs_model.specs.declared.replies.Fattr.{Fattr}
use Rattle.nfs_model.specs.declared.replies.Listed.{Listed}
use Rattle.nfs_model.specs.declared.replies.Reply.{Reply}
use Rattle.nfs_model.specs.declared.replies.Reply.TheVariants as reply
use Rattle.nfs_model.specs.Arguments.{IsHandle, IsVerifier}
use Rattle.nfs_model.specs.Results.{fattr}
use Rattle.nfs_model.specs.Replies.{IsFattr, IsPlainEntry, IsPlusEntry}
use Rattle.nfs_model.proofs.OneArguments.{one_verifier}
use Rattle.nfs_model.proofs.OneReplies.{one_post_attributes, one_plain, one_plus, one_page}
use Rattle.wire_model.specs.Parts.{Told, Reads, IsOptional, as_it_stands}
use Rattle.nfs3_replies.specs.ReadParts.{given_handle, EntryParts, AreEntryParts, entry_parts, IsEntry, entry_body, flagged_entry, ArePage, page_bytes, directory_form, IsPageHead, page_head, IsDone, after_status}
use Rattle.wire_model.proofs.Made.{MadeOf, Made}
use Rattle.wire_model.proofs.PartByPart.{◌▸◌, part, made_read}

-- ---- verifiers

-- eight bytes need no zeros
fixed_verifier : (bytes : List ℕ) → length bytes ≡ 8 → fixed bytes ≡ bytes
fixed_verifier bytes size = ap (λ n. bytes ++ Rattle.wire_model.specs.Xdr.padding n) size ∙ append-nil bytes

pub verifier_front : (bytes item rest : List ℕ) → IsFront (IsOfLength 8) fixed bytes item rest → IsFront IsVerifier as_it_stands bytes item rest
verifier_front bytes item rest f = record { fits = f.fits; spelled = f.spelled ∙ ap (λ (s : List ℕ). s ++ rest) (fixed_verifier item f.fits) }

pub no_verifier : (bytes : List ℕ) → HasNoFront (IsOfLength 8) fixed bytes → HasNoFront IsVerifier as_it_stands bytes
no_verifier bytes absent = record {
  none = λ x rest f. absent.none x rest (record { fits = f.fits; spelled = f.spelled ∙ ap (λ (s : List ℕ). s ++ rest) (sym (fixed_verifier x f.fits)) });
}

one_page_head : ReadsOne IsPageHead page_head
one_page_head = one_post_attributes ▷ one_verifier

-- ---- entries

abbrev plain_with : EntryParts → Listed
plain_with p = record { fileid = p.0.0; name = p.0.1; cookie = p.1; attributes = None; handle = None }

plain_same : (e : Listed) → IsPlainEntry e → e ≡ plain_with ((e.fileid, e.name), e.cookie)
plain_same e f =
    ap (λ (a : Option Fattr). record { fileid = e.fileid; name = e.name; cookie = e.cookie; attributes = a; handle = e.handle }) f.no_attributes
    ∙ ap (λ (h : Option (List ℕ)). record { fileid = e.fileid; name = e.name; cookie = e.cookie; attributes = None; handle = h }) f.no_handle

pub made_plain : Made AreEntryParts entry_parts (IsEntry false) (entry_body false) plain_with
made_plain = record {
  whole = λ p f. record { fileid = f.0.0; name = f.0.1; cookie = f.1; no_attributes = refl; no_handle = refl };
  spelled = λ p. refl;
  parts = λ e f. record { part = ((e.fileid, e.name), e.cookie); fits = ((f.fileid, f.name), f.cookie); same = plain_same e f };
}

abbrev PlusEntry : Type 0
PlusEntry = (EntryParts × Option Fattr) × List ℕ

abbrev IsPlusOf : PlusEntry → Type 0
IsPlusOf p = (AreEntryParts p.0.0 × IsOptional IsFattr p.0.1) × IsHandle p.1

abbrev plus_entry : PlusEntry → List ℕ
plus_entry p = (entry_parts p.0.0 ++ optional fattr p.0.1) ++ given_handle p.1

abbrev plus_with : PlusEntry → Listed
plus_with p = record { fileid = p.0.0.0.0; name = p.0.0.0.1; cookie = p.0.0.1; attributes = p.0.1; handle = Some p.1 }

plus_of : (e : Listed) → IsPlusEntry e → MadeOf IsPlusOf plus_with e
plus_of e f = handled e.handle refl f.handle
  where
    handled : (h : Option (List ℕ)) → e.handle ≡ h → Rattle.std.specs.Prelude.IsSomeAnd h IsHandle → MadeOf IsPlusOf plus_with e
    handled None is g = absurd g
    handled (Some handle) is g = record {
      part = ((((e.fileid, e.name), e.cookie), e.attributes), handle);
      fits = ((((f.fileid, f.name), f.cookie), f.attributes), g);
      same = ap (λ (h : Option (List ℕ)). record { fileid = e.fileid; name = e.name; cookie = e.cookie; attributes = e.attributes; handle = h }) is;
    }

pub made_plus : Made IsPlusOf plus_entry (IsEntry true) (entry_body true) plus_with
made_plus = record {
  whole = λ p f. record { fileid = f.0.0.0.0; name = f.0.0.0.1; cookie = f.0.0.1; attributes = f.0.1; handle = f.1 };
  spelled = λ p. refl;
  parts = plus_of;
}

pub one_entry : (plus : Bool) → ReadsOne (IsEntry plus) (entry_body plus)
one_entry false = one_plain
one_entry true = one_plus

-- ---- pages

abbrev Flagged : Bool → Type 0
Flagged plus = ReadsOne (IsEntry plus) (flagged_entry plus)

one_flagged : (plus : Bool) → Flagged plus
one_flagged plus = record {
  one = λ x y r s f g e.
      let p = (always (word 1) ▷ one_entry plus).one (tt, x) (tt, y) r s (tt, f) (tt, g) e in
      (ap (λ (p : Unit {0} × Listed). p.1) p.0, p.1);
}

pub one_of_page : (plus : Bool) → ReadsOne (ArePage plus) (page_bytes plus)
one_of_page plus = one_page (IsEntry plus) (entry_body plus) (one_entry plus)

-- entries that are read so far
abbrev pub AreRead : Bool → List ℕ → List Listed → List ℕ → Type 0
AreRead plus start done left = IsFront (AllByRecursion (IsEntry plus)) (flat_map (flagged_entry plus)) start done left

-- after the first entries of a page stand the others, as a page
record Others (plus : Bool) (left rest : List ℕ) : Type 0 where
  others : List Listed
  fits : ArePage plus others
  spelled : left ≡ page_bytes plus others ++ rest

others_of : (plus : Bool) (done page : List Listed) (left rest : List ℕ) → ArePage plus done → ArePage plus page
    → flat_map (flagged_entry plus) done ++ left ≡ page_bytes plus page ++ rest → Others plus left rest
others_of plus [] page left rest f g e = record { others = page; fits = g; spelled = e }
others_of plus (d ∷ done) [] left rest f g e = cc
others_of plus (d ∷ done) (x ∷ page) left rest f g e =
    let whole = flat_map (flagged_entry plus) page ++ word 0 in
    let grouped : (flagged_entry plus x ++ flat_map (flagged_entry plus) page ++ word 0) ++ rest ≡ (flagged_entry plus x ++ (flat_map (flagged_entry plus) page ++ word 0)) ++ rest =
    ap (λ (s : List ℕ). s ++ rest) (append_assoc (flagged_entry plus x) (flat_map (flagged_entry plus) page) (word 0)) in
    let p = (one_flagged plus).one d x (flat_map (flagged_entry plus) done ++ left) (page_bytes plus page ++ rest) f.0 g.0
    (regrouped (flagged_entry plus d) (flat_map (flagged_entry plus) done) (flagged_entry plus x) (page_bytes plus page) left rest (e ∙ grouped)) in
    others_of plus done page left rest f.1 g.1 p.1

module _ (plus : Bool) {start left : List ℕ} {done : List Listed} (so_far : AreRead plus start done left) where
  pub no_mark : HasNoFront IsAny boolean left → HasNoFront (ArePage plus) (page_bytes plus) start
  no_mark absent = record {
    none = λ page rest g.
        let o = others_of plus done page left rest so_far.fits g.fits (sym so_far.spelled ∙ g.spelled) in
        marked o.others rest o.spelled;
  }
    where
      marked : (others : List Listed) (rest : List ℕ) → left ≡ page_bytes plus others ++ rest → ⊥
      marked [] rest e = absent.none false rest (record { fits = tt; spelled = e })
      marked (x ∷ others) rest e = absent.none true _ (record { fits = tt; spelled = e })

  pub no_entry : {middle : List ℕ} → IsFront IsAny boolean left true middle → HasNoFront (IsEntry plus) (entry_body plus) middle → HasNoFront (ArePage plus) (page_bytes plus) start
  no_entry {middle} flag absent = record {
    none = λ page rest g.
        let o = others_of plus done page left rest so_far.fits g.fits (sym so_far.spelled ∙ g.spelled) in
        entered o.others rest o.fits o.spelled;
  }
    where
      entered : (others : List Listed) (rest : List ℕ) → ArePage plus others → left ≡ page_bytes plus others ++ rest → ⊥
      entered [] rest f e = let p = (one_boolean.one true false middle rest tt tt (sym flag.spelled ∙ e)).0 in absurd (cc p)
      entered (x ∷ others) rest f e =
          let behind = page_bytes plus others ++ rest in
          absent.none x behind (record { fits = f.0; spelled = (one_boolean.one true true middle (entry_body plus x ++ behind) tt tt (sym flag.spelled ∙ e ∙ grouped)).1 })
        where
          grouped : page_bytes plus (x ∷ others) ++ rest ≡ boolean true ++ (entry_body plus x ++ (page_bytes plus others ++ rest))
          grouped = simp append_assoc

-- ---- the entries so far

abbrev ToldSoFar : Bool → Option (List ℕ) → List Listed → Option (List ℕ) → Type 0
ToldSoFar plus None done now = now ≡ None
ToldSoFar plus (Some bytes) done None = HasNoFront (ArePage plus) (page_bytes plus) bytes
ToldSoFar plus (Some bytes) done (Some left) = AreRead plus bytes done left

pub record EntriesSoFar (plus : Bool) (start : Option (List ℕ)) (done : List Listed) (now : Option (List ℕ)) : Type 0 where
  pub told : ToldSoFar plus start done now

pub no_entries : (plus : Bool) (start : Option (List ℕ)) → EntriesSoFar plus start [] start
no_entries plus start = record { told = cases start }
  where
    cases : (start : Option (List ℕ)) → ToldSoFar plus start [] start
    cases None = refl
    cases (Some bytes) = record { fits = tt; spelled = refl }

pub entry_more : (plus : Bool) {start now middle after : Option (List ℕ)} {done : List Listed} {flag : Bool} {entry : Listed} → EntriesSoFar plus start done now
    → Reads IsAny boolean now flag middle → flag ≡ true → Reads (IsEntry plus) (entry_body plus) middle entry after → EntriesSoFar plus start (done ++ entry ∷ []) after
entry_more plus {start} {now} {middle} {after} {done} {flag} {entry} so_far mark set next = record { told = cases start now middle after flag set so_far.told mark.told next.told }
  where
    cases : (start now middle after : Option (List ℕ)) (flag : Bool) → flag ≡ true → ToldSoFar plus start done now → Told IsAny boolean now flag middle → Told (IsEntry plus) (entry_body plus) middle entry after
        → ToldSoFar plus start (done ++ entry ∷ []) after
    cases start now middle after false set p q r = absurd (cc set)
    cases None None None after true set p q r = r
    cases None None (Some m) after true set p q r = absurd (cc q)
    cases None (Some left) middle after true set p q r = absurd (cc p)
    cases (Some bytes) None None None true set p q r = p
    cases (Some bytes) None None (Some rest) true set p q r = absurd (cc r)
    cases (Some bytes) None (Some m) after true set p q r = absurd (cc q)
    cases (Some bytes) (Some left) None None true set p q r = no_mark plus p q
    cases (Some bytes) (Some left) None (Some rest) true set p q r = absurd (cc r)
    cases (Some bytes) (Some left) (Some m) None true set p q r = no_entry plus p q r
    cases (Some bytes) (Some left) (Some m) (Some rest) true set p q r =
        more_items (one_flagged plus) p (record { fits = r.fits; spelled = q.spelled ∙ ap (λ (s : List ℕ). word 1 ++ s) r.spelled ∙ sym (append_assoc (word 1) (entry_body plus entry) rest) })

pub entries_end : (plus : Bool) {start now after : Option (List ℕ)} {done : List Listed} {flag : Bool} → EntriesSoFar plus start done now
    → Reads IsAny boolean now flag after → flag ≡ false → Reads (ArePage plus) (page_bytes plus) start done after
entries_end plus {start} {now} {after} {done} {flag} so_far mark unset = record { told = cases start now after flag unset so_far.told mark.told }
  where
    cases : (start now after : Option (List ℕ)) (flag : Bool) → flag ≡ false → ToldSoFar plus start done now → Told IsAny boolean now flag after → Told (ArePage plus) (page_bytes plus) start done after
    cases start now after true unset p q = absurd (cc unset)
    cases None None after false unset p q = q
    cases None (Some left) after false unset p q = absurd (cc p)
    cases (Some bytes) None None false unset p q = p
    cases (Some bytes) None (Some rest) false unset p q = absurd (cc q)
    cases (Some bytes) (Some left) None false unset p q = no_mark plus p q
    cases (Some bytes) (Some left) (Some rest) false unset p q = record {
      fits = p.fits;
      spelled = p.spelled ∙ ap (λ (s : List ℕ). flat_map (flagged_entry plus) done ++ s) q.spelled ∙ sym (append_assoc (flat_map (flagged_entry plus) done) (word 0) rest);
    }

-- how many bytes are left
abbrev pub left_length : Option (List ℕ) → ℕ
left_length None = 0
left_length (Some left) = length left

pub fewer_left : (plus : Bool) {now middle after : Option (List ℕ)} {flag : Bool} {entry : Listed} → Reads IsAny boolean now flag middle → flag ≡ true → middle ≢ None
    → Reads (IsEntry plus) (entry_body plus) middle entry after → left_length after < left_length now
fewer_left plus {now} {middle} {after} {flag} {entry} mark set there next = cases now middle after flag set there mark.told next.told
  where
    cases : (now middle after : Option (List ℕ)) (flag : Bool) → flag ≡ true → middle ≢ None → Told IsAny boolean now flag middle → Told (IsEntry plus) (entry_body plus) middle entry after
        → left_length after < left_length now
    cases now middle after false set there p q = absurd (cc set)
    cases now None after true set there p q = absurd (there refl)
    cases None (Some m) after true set there p q = absurd (cc p)
    cases (Some left) (Some m) None true set there p q = omega (arith, ap length p.spelled, length-append (word 1) m)
    cases (Some left) (Some m) (Some rest) true set there p q = omega (arith, ap length p.spelled, length-append (word 1) m, ap length q.spelled, length-append (entry_body plus entry) rest)

-- ---- the results

abbrev DirectoryParts : Type 0
DirectoryParts = ((Option Fattr × List ℕ) × List Listed) × Bool

abbrev IsDirectory : Bool → DirectoryParts → Type 0
IsDirectory plus p = (IsPageHead p.0.0 × ArePage plus p.0.1) × IsAny p.1

abbrev directory : Bool → DirectoryParts → List ℕ
directory plus p = (page_head p.0.0 ++ page_bytes plus p.0.1) ++ boolean p.1

pub one_directory : (plus : Bool) → ReadsOne (IsDirectory plus) (directory plus)
one_directory plus = one_page_head ▷ one_of_page plus ▷ one_boolean

abbrev plain_directory : DirectoryParts → Reply
plain_directory p = reply.Directory p.0.0.0 p.0.0.1 p.0.1 p.1

plain_directory_parts : (r : Reply) → IsDone 16 r → MadeOf (IsDirectory false) plain_directory r
plain_directory_parts (reply.Directory dir verifier page eof) f = record { part = (((dir, verifier), page), eof); fits = (((f.1.0, f.1.1), f.1.2), tt); same = refl }
plain_directory_parts r f = absurd (omega (arith, f.0))

pub made_directory : Made (IsDirectory false) (directory false) (IsDone 16) after_status plain_directory
made_directory = record {
  whole = λ p f. (refl, (f.0.0.0, f.0.0.1, f.0.1));
  spelled = λ p. ap (λ (s : List ℕ). s ++ boolean p.1) (append_assoc (page_head p.0.0) (flat_map (flagged_entry false) p.0.1) (word 0));
  parts = plain_directory_parts;
}

abbrev plus_directory : DirectoryParts → Reply
plus_directory p = reply.DirectoryPlus p.0.0.0 p.0.0.1 p.0.1 p.1

plus_directory_parts : (r : Reply) → IsDone 17 r → MadeOf (IsDirectory true) plus_directory r
plus_directory_parts (reply.DirectoryPlus dir verifier page eof) f = record { part = (((dir, verifier), page), eof); fits = (((f.1.0, f.1.1), f.1.2), tt); same = refl }
plus_directory_parts r f = absurd (omega (arith, f.0))

pub made_directory_plus : Made (IsDirectory true) (directory true) (IsDone 17) after_status plus_directory
made_directory_plus = record {
  whole = λ p f. (refl, (f.0.0.0, f.0.0.1, f.0.1));
  spelled = λ p. ap (λ (s : List ℕ). s ++ boolean p.1) (append_assoc (page_head p.0.0) (flat_map (flagged_entry true) p.0.1) (word 0));
  parts = plus_directory_parts;
}

pub plus_directory_read : {a b c d e : Option (List ℕ)} {o : Option Fattr} {verifier : List ℕ} {page : List Listed} {eof : Bool} (plus : Bool) → plus ≡ true
    → Reads (IsOptional IsFattr) (optional fattr) a o b → Reads IsVerifier as_it_stands b verifier c → Reads (ArePage plus) (page_bytes plus) c page d → Reads IsAny boolean d eof e
    → Reads (IsDone (directory_form plus)) after_status a (reply.DirectoryPlus o verifier page eof) e
plus_directory_read true is f g h k = (made_read made_directory_plus (part one_post_attributes f ▸ part one_verifier g ▸ part (one_of_page true) h ▸ part one_boolean k)).reads
plus_directory_read false is f g h k = absurd (cc is)

pub plain_directory_read : {a b c d e : Option (List ℕ)} {o : Option Fattr} {verifier : List ℕ} {page : List Listed} {eof : Bool} (plus : Bool) → plus ≡ false
    → Reads (IsOptional IsFattr) (optional fattr) a o b → Reads IsVerifier as_it_stands b verifier c → Reads (ArePage plus) (page_bytes plus) c page d → Reads IsAny boolean d eof e
    → Reads (IsDone (directory_form plus)) after_status a (reply.Directory o verifier page eof) e
plain_directory_read false is f g h k = (made_read made_directory (part one_post_attributes f ▸ part one_verifier g ▸ part (one_of_page false) h ▸ part one_boolean k)).reads
plain_directory_read true is f g h k = absurd (cc is)
