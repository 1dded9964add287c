-- What stands in a message is what its parts say.
use Rattle.std.proofs.Common.{◌≡◌, ◌≢◌, ℕ, ◌<◌, ◌≤◌, List, [], ◌∷◌, ◌++◌, ◌+◌, length, take, set, Option, Some, None, refl, sym, ap, ◌∙◌, subst, inl, inr, arith, append_assoc}
use Rattle.std.specs.List.{AllByRecursion, flat_map}
use Rattle.std.proofs.lemmas.List.{append-nil, length-take-le, take_more_set}
use Rattle.wire_model.specs.Xdr.{word, opaque, array, IsWord, IsUpTo, AreSoMany}
use Rattle.wire_model.specs.Parts.{Told, Reads}
use Rattle.wire_model.specs.OneReading.{ReadsOne, IsFront, HasNoFront}
use Rattle.wire_model.specs.Rpc.{Auth, auth, CallMessage, IsCall, IsOtherVersion, IsCaller, Identity, IsIdentity, nobody, none, system as of_system, system_body}
use Rattle.wire_model.proofs.OneReading.{◌▷◌, one_word, one_short_opaque, one_array, of_fewer, caller_cases}
use Rattle.wire_model.proofs.Arrays.{no_items, more_items, no_next, counted, no_count, too_many, no_counted}
use Rattle.rpc_wire.specs.declared.call.Caller.{Caller}
use Rattle.rpc_wire.specs.Parts.{Words, AreWords, words, Body, BodyFits, body, UserFits, user, AreGroups, System, SystemFits, system}
use Rattle.rpc_wire.specs.Callers.{identity_of, IsCallerOf, IsSystemCallerOf, IsNoCall}

-- ---- each part can be read in one way only

pub one_words : ReadsOne AreWords words
one_words = one_word ▷ one_word ▷ one_word

pub one_name : ReadsOne (IsUpTo 255) opaque
one_name = one_short_opaque 255 (omega arith)

pub one_user : ReadsOne UserFits user
one_user = one_word ▷ one_name ▷ one_word ▷ one_word

pub one_groups : ReadsOne AreGroups (array word)
one_groups = of_fewer (λ groups f. (omega (arith, f.0), f.1)) (one_array one_word)

one_system : ReadsOne SystemFits system
one_system = one_user ▷ one_groups

-- ---- what was left before a part, and is left now

pub there : {A : Type 0} {Fits : A → Type 0} {spell : A → List ℕ} {before now : Option (List ℕ)} {bytes rest : List ℕ} {x : A}
    → Reads Fits spell before x now → before ≡ Some bytes → now ≡ Some rest → IsFront Fits spell bytes x rest
there {Fits = Fits} {spell = spell} {before = before} {now = now} {bytes = bytes} {rest = rest} {x = x} f was is = cases before now f.told was is
  where
    cases : (before now : Option (List ℕ)) → Told Fits spell before x now → before ≡ Some bytes → now ≡ Some rest → IsFront Fits spell bytes x rest
    cases None now p was is = absurd (cc was)
    cases (Some b) None p was is = absurd (cc is)
    cases (Some b) (Some r) p was is = record { fits = p.fits; spelled = sym (cc was) ∙ p.spelled ∙ ap (λ (s : List ℕ). spell x ++ s) (cc is) }

pub not_there : {A : Type 0} {Fits : A → Type 0} {spell : A → List ℕ} {before now : Option (List ℕ)} {bytes : List ℕ} {x : A}
    → Reads Fits spell before x now → before ≡ Some bytes → now ≡ None → HasNoFront Fits spell bytes
not_there {Fits = Fits} {spell = spell} {before = before} {now = now} {bytes = bytes} {x = x} f was gone = cases before now f.told was gone
  where
    cases : (before now : Option (List ℕ)) → Told Fits spell before x now → before ≡ Some bytes → now ≡ None → HasNoFront Fits spell bytes
    cases None now p was gone = absurd (cc was)
    cases (Some b) (Some r) p was gone = absurd (cc gone)
    cases (Some b) None p was gone = record { none = λ y r g. p.none y r (record { fits = g.fits; spelled = cc was ∙ g.spelled }) }

-- ---- groups, read one by one

-- how far so many groups are read, by what was left before them and what is left now: those so far, or not all are there
abbrev SoFar : ℕ → Option (List ℕ) → List ℕ → Option (List ℕ) → Type 0
SoFar count None groups now = now ≡ None
SoFar count (Some bytes) groups None = HasNoFront (AreSoMany IsWord count) (flat_map word) bytes
SoFar count (Some bytes) groups (Some rest) = IsFront (AllByRecursion IsWord) (flat_map word) bytes groups rest

pub record GroupsSoFar (count : ℕ) (before : Option (List ℕ)) (groups : List ℕ) (now : Option (List ℕ)) : Type 0 where
  so_far : SoFar count before groups now

pub no_groups_yet : (count : ℕ) (start : Option (List ℕ)) → GroupsSoFar count start [] start
no_groups_yet count start = record { so_far = cases start }
  where
    cases : (start : Option (List ℕ)) → SoFar count start [] start
    cases None = refl
    cases (Some bytes) = no_items one_word bytes

group_more : {count group : ℕ} {groups : List ℕ} {a b c : Option (List ℕ)} → GroupsSoFar count a groups b → length groups < count → Reads IsWord word b group c
    → GroupsSoFar count a (groups ++ group ∷ []) c
group_more {count} {group} {groups} {a} {b} {c} f short g = record { so_far = cases a b c f.so_far g.told }
  where
    cases : (a b c : Option (List ℕ)) → SoFar count a groups b → Told IsWord word b group c → SoFar count a (groups ++ group ∷ []) c
    cases None None c p q = q
    cases None (Some b) c p q = absurd (cc p)
    cases (Some a) None None p q = p
    cases (Some a) None (Some c) p q = absurd (cc q)
    cases (Some a) (Some b) None p q = no_next one_word p short q
    cases (Some a) (Some b) (Some c) p q = more_items one_word p q

these_groups : {count : ℕ} {groups : List ℕ} {a b : Option (List ℕ)} → GroupsSoFar count a groups b → length groups ≡ count → Reads (AreSoMany IsWord count) (flat_map word) a groups b
these_groups {count} {groups} {a} {b} f size = record { told = cases a b f.so_far }
  where
    cases : (a b : Option (List ℕ)) → SoFar count a groups b → Told (AreSoMany IsWord count) (flat_map word) a groups b
    cases None b p = p
    cases (Some a) None p = p
    cases (Some a) (Some b) p = record { fits = record { each = p.fits; size = size }; spelled = p.spelled }

-- one more is read, at its place
pub next_group : {count i group : ℕ} (gids : List ℕ) {a b c : Option (List ℕ)} → GroupsSoFar count a (take i gids) b → length gids ≡ 16 → i < count → count ≤ 16 → Reads IsWord word b group c
    → GroupsSoFar count a (take (i + 1) (set gids i group)) c
next_group {count} {i} {group} gids {a} {b} {c} f size short few g =
    subst (λ groups. GroupsSoFar count a groups c) (sym (take_more_set gids i group (omega (arith, size, short, few))))
    (group_more f (omega (arith, length-take-le i gids (omega (arith, size, short, few)), short)) g)

pub all_groups : {count i : ℕ} (gids : List ℕ) {a b : Option (List ℕ)} → GroupsSoFar count a (take i gids) b → i ≡ count → count ≤ 16 → length gids ≡ 16
    → Reads (AreSoMany IsWord count) (flat_map word) a (take count gids) b
all_groups {count} {i} gids {a} {b} f whole few size =
    these_groups (subst (λ n. GroupsSoFar count a (take n gids) b) whole f) (length-take-le count gids (omega (arith, few, size)))

-- the count, and as many groups
pub counted_groups : {count : ℕ} {groups : List ℕ} {a b c : Option (List ℕ)} → Reads IsWord word a count b → count ≤ 16 → Reads (AreSoMany IsWord count) (flat_map word) b groups c
    → Reads AreGroups (array word) a groups c
counted_groups {count} {groups} {a} {b} {c} f few g = record { told = cases a b c f.told g.told }
  where
    cases : (a b c : Option (List ℕ)) → Told IsWord word a count b → Told (AreSoMany IsWord count) (flat_map word) b groups c → Told AreGroups (array word) a groups c
    cases None None c p q = q
    cases None (Some b) c p q = absurd (cc p)
    cases (Some a) None None p q = no_count one_word 16 (omega arith) p
    cases (Some a) None (Some c) p q = absurd (cc q)
    cases (Some a) (Some b) None p q = no_counted one_word 16 (omega arith) p q
    cases (Some a) (Some b) (Some c) p q = counted one_word p few (record { fits = q.fits.each; spelled = q.spelled }) q.fits.size

pub too_many_groups : {count : ℕ} {groups : List ℕ} {a b c : Option (List ℕ)} → Reads IsWord word a count b → 16 < count → c ≡ None → Reads AreGroups (array word) a groups c
too_many_groups {count} {groups} {a} {b} {c} f many gone = record { told = cases a b c f.told gone }
  where
    cases : (a b c : Option (List ℕ)) → Told IsWord word a count b → c ≡ None → Told AreGroups (array word) a groups c
    cases a b (Some c) p gone = absurd (cc gone)
    cases None b None p gone = refl
    cases (Some a) None None p gone = no_count one_word 16 (omega arith) p
    cases (Some a) (Some b) None p gone = too_many one_word 16 (omega arith) p many

-- ---- the body of AUTH_SYS, with nothing after it

pub whole_system : {bytes : List ℕ} {s : System} {now : Option (List ℕ)} → Reads SystemFits system (Some bytes) s now → now ≡ Some [] → SystemFits s × (bytes ≡ system s)
whole_system {bytes} {s} {now} f all = cases now f.told all
  where
    cases : (now : Option (List ℕ)) → Told SystemFits system (Some bytes) s now → now ≡ Some [] → SystemFits s × (bytes ≡ system s)
    cases None p all = absurd (cc all)
    cases (Some rest) p all = (p.fits, p.spelled ∙ ap (λ (r : List ℕ). system s ++ r) (cc all) ∙ append-nil (system s))

pub no_whole_system : {bytes : List ℕ} {s : System} {now : Option (List ℕ)} → Reads SystemFits system (Some bytes) s now → now ≢ Some [] → (other : System) → SystemFits other → bytes ≢ system other
no_whole_system {bytes} {s} {now} f more other fits same = cases now f.told more
  where
    cases : (now : Option (List ℕ)) → Told SystemFits system (Some bytes) s now → now ≢ Some [] → ⊥
    cases None p more = p.none other [] (record { fits = fits; spelled = same ∙ sym (append-nil (system other)) })
    cases (Some rest) p more =
        let nothing : rest ≡ [] = (one_system.one s other rest [] p.fits fits (sym p.spelled ∙ same ∙ sym (append-nil (system other)))).1 in
        more (ap (λ (r : List ℕ). Some r) nothing)

-- ---- callers

pub is_nobody : (a : Auth) → a.flavour ≡ 0 → IsCaller a nobody
is_nobody a e = subst (λ (f : ℕ). IsCaller (record { flavour = f; body = a.body }) nobody) (sym e) none

pub by_system : (a : Auth) (caller : Option Caller) → a.flavour ≡ 1 → IsSystemCallerOf a.body caller → IsCallerOf a caller
by_system a None e absent = λ who is. elim (caller_cases is) [
  | inl n ↦ absurd (omega (arith, e, n.0))
  | inr s ↦ absent ((((s.stamp, s.machine), who.uid), who.gid), who.groups)
      ((((s.stamp_fits, s.machine_fits), s.who_fits.uid), s.who_fits.gid), (s.who_fits.few, s.who_fits.groups)) s.body
]
by_system a (Some c) e s =
    let who : Identity = identity_of c in
    let fits = s.2 in
    let identity : IsIdentity who = record { uid = fits.0.0.1; gid = fits.0.1; few = fits.1.0; groups = fits.1.1 } in
    let spelled : IsCaller (record { flavour = 1; body = system_body s.0 s.1 who }) who = of_system s.0 s.1 fits.0.0.0.0 fits.0.0.0.1 identity in
    subst (λ (f : ℕ). IsCaller (record { flavour = f; body = a.body }) who) (sym e)
    (subst (λ (b : List ℕ). IsCaller (record { flavour = 1; body = b }) who) (sym s.3) spelled)

-- ---- messages

regrouped : (a b d e f g h i r : List ℕ) → a ++ b ++ d ++ e ++ f ++ g ++ h ++ i ++ r ≡ (a ++ b ++ d) ++ ((e ++ f ++ g ++ h ++ i) ++ r)
regrouped a b d e f g h i r = simp append_assoc

abbrev body_of : CallMessage → Body
body_of c = ((((c.program, c.version), c.procedure), c.credential), c.verifier)

call_opens : {m : List ℕ} {c : CallMessage} → IsCall m c → IsFront AreWords words m ((c.xid, 0), 2) (body (body_of c) ++ c.arguments)
call_opens {c = c} is = record {
  fits = ((is.0.xid, omega arith), omega arith);
  spelled = is.1 ∙ regrouped (word c.xid) (word 0) (word 2) (word c.program) (word c.version) (word c.procedure) (auth c.credential) (auth c.verifier) c.arguments;
}

other_opens : {m : List ℕ} {xid : ℕ} → (is : IsOtherVersion m xid) → IsFront AreWords words m ((xid, 0), is.0) is.1
other_opens is = record { fits = ((is.2, omega arith), is.3); spelled = is.5 }

pub nothing_opens : {m : List ℕ} → HasNoFront AreWords words m → IsNoCall m
nothing_opens absent = record {
  none = λ c is. absent.none ((c.xid, 0), 2) (body (body_of c) ++ c.arguments) (call_opens is);
  no_other = λ xid is. absent.none ((xid, 0), is.0) is.1 (other_opens is);
}

pub other_kind : {m rest : List ℕ} {xid kind version : ℕ} → IsFront AreWords words m ((xid, kind), version) rest → kind ≢ 0 → IsNoCall m
other_kind {rest} {xid} {kind} {version} f other = record {
  none = λ c is.
      let g = call_opens is in
      let p = one_words.one ((xid, kind), version) ((c.xid, 0), 2) rest (body (body_of c) ++ c.arguments) f.fits g.fits (sym f.spelled ∙ g.spelled) in
      other (ap (λ (w : Words). w.0.1) p.0);
  no_other = λ x is.
      let g = other_opens is in
      let p = one_words.one ((xid, kind), version) ((x, 0), is.0) rest is.1 f.fits g.fits (sym f.spelled ∙ g.spelled) in
      other (ap (λ (w : Words). w.0.1) p.0);
}

pub other_version : {m rest : List ℕ} {xid kind version : ℕ} → IsFront AreWords words m ((xid, kind), version) rest → kind ≡ 0 → version ≢ 2 → IsOtherVersion m xid
other_version {m} {rest} {xid} {kind} {version} f is_call differs =
    (version, rest, f.fits.0.0, f.fits.1, differs, subst (λ (k : ℕ). m ≡ words ((xid, k), version) ++ rest) is_call f.spelled)

pub no_body : {m rest : List ℕ} {xid kind version : ℕ} → IsFront AreWords words m ((xid, kind), version) rest → version ≡ 2 → HasNoFront BodyFits body rest → IsNoCall m
no_body {m} {rest} {xid} {kind} {version} f two absent = record {
  none = λ c is.
      let g = call_opens is in
      let p = one_words.one ((xid, kind), version) ((c.xid, 0), 2) rest (body (body_of c) ++ c.arguments) f.fits g.fits (sym f.spelled ∙ g.spelled) in
      absent.none (body_of c) c.arguments (record {
        fits = ((((is.0.program, is.0.version), is.0.procedure), is.0.credential), is.0.verifier);
        spelled = p.1;
      });
  no_other = λ x is.
      let g = other_opens is in
      let p = one_words.one ((xid, kind), version) ((x, 0), is.0) rest is.1 f.fits g.fits (sym f.spelled ∙ g.spelled) in
      is.4 (sym (ap (λ (w : Words). w.1) p.0) ∙ two);
}

abbrev pub message_of : ℕ → Body → List ℕ → CallMessage
message_of xid b arguments = record {
  xid = xid;
  program = b.0.0.0.0;
  version = b.0.0.0.1;
  procedure = b.0.0.1;
  credential = b.0.1;
  verifier = b.1;
  arguments = arguments;
}

pub good_call : {m middle rest : List ℕ} {xid kind version : ℕ} {b : Body} → IsFront AreWords words m ((xid, kind), version) middle → kind ≡ 0 → version ≡ 2
    → IsFront BodyFits body middle b rest → IsCall m (message_of xid b rest)
good_call {m} {middle} {rest} {xid} {kind} {version} {b} f is_call two g = (
  record {
    xid = f.fits.0.0;
    program = g.fits.0.0.0.0;
    version = g.fits.0.0.0.1;
    procedure = g.fits.0.0.1;
    credential = g.fits.0.1;
    verifier = g.fits.1;
  },
  f.spelled ∙ (λ i. words ((xid, is_call i), two i) ++ g.spelled i)
      ∙ sym (regrouped (word xid) (word 0) (word 2) (word b.0.0.0.0) (word b.0.0.0.1) (word b.0.0.1) (auth b.0.1) (auth b.1) rest),
)
