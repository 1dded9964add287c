-- Results of MOUNT are read.
use Rattle.std.proofs.Common.{◌≡◌, ℕ, zero, suc, ◌<◌, List, [], ◌∷◌, ◌++◌, Option, Some, None, refl, sym, ap, ◌∙◌, arith, append_assoc}
use Rattle.std.specs.Prelude.{◌≢◌}
use Rattle.wire_model.specs.Xdr.{word, IsWord, IsAny}
use Rattle.wire_model.specs.OneReading.{ReadsOne, IsFront, HasNoFront}
use Rattle.wire_model.proofs.OneReading.{◌▷◌, one_word, always}
use Rattle.nfs_model.specs.declared.replies.Reply.{Reply}
use Rattle.nfs_model.specs.declared.replies.Reply.TheVariants as reply
use Rattle.nfs_model.specs.Results.{result}
use Rattle.nfs_model.proofs.OneArguments.{one_handle}
use Rattle.nfs_model.proofs.OneReplies.{tail_below}
use Rattle.wire_model.specs.Parts.{Told, Reads}
use Rattle.nfs3_replies.specs.ReadParts.{constant, IsMountedParts, mounted_parts, IsAnswer, mount_form_at}
use Rattle.wire_model.proofs.Made.{MadeOf, Made, one_made}
use Rattle.nfs3_replies.proofs.ReadConstants.{one_constant}

pub one_mounted : ReadsOne IsMountedParts mounted_parts
one_mounted = one_handle ▷ one_constant (1 ∷ 1 ∷ [])

no_status : {bytes : List ℕ} → HasNoFront IsWord word bytes → (r : Reply) (rest : List ℕ) → IsFront (IsAnswer 5 101) result bytes r rest → ⊥
no_status absent (reply.Mounted other) rest g = absent.none 0 (mounted_parts (other, tt) ++ rest) (record { fits = omega arith; spelled = g.spelled })
no_status absent reply.NoSuchPath rest g = absent.none 2 rest (record { fits = omega arith; spelled = g.spelled })
no_status absent (reply.Refused s t) rest g = absurd (omega (arith, g.fits.0, tail_below t))
no_status absent r rest g = absurd (omega (arith, g.fits.0))

module _ {a b : Option (List ℕ)} {n : ℕ} (status : Reads IsWord word a n b) where
  pub mount_read : {c : Option (List ℕ)} {handle : List ℕ} → n ≡ 0 → Reads IsMountedParts mounted_parts b (handle, tt) c → Reads (IsAnswer 5 101) result a (reply.Mounted handle) c
  mount_read {c} {handle} zero_is f = record { told = cases a b c status.told f.told }
    where
      absent_part : {bytes middle : List ℕ} → IsFront IsWord word bytes n middle → HasNoFront IsMountedParts mounted_parts middle → (r : Reply) (rest : List ℕ) → IsFront (IsAnswer 5 101) result bytes r rest → ⊥
      absent_part {middle = middle} front absent (reply.Mounted other) rest g =
          let p = one_word.one n 0 middle (mounted_parts (other, tt) ++ rest) front.fits (omega arith) (sym front.spelled ∙ g.spelled) in
          absent.none (other, tt) rest (record { fits = (g.fits.1, tt); spelled = p.1 })
      absent_part {middle = middle} front absent reply.NoSuchPath rest g =
          let p = one_word.one n 2 middle rest front.fits (omega arith) (sym front.spelled ∙ g.spelled) in
          absurd (omega (arith, p.0, zero_is))
      absent_part front absent (reply.Refused s t) rest g = absurd (omega (arith, g.fits.0, tail_below t))
      absent_part front absent r rest g = absurd (omega (arith, g.fits.0))

      cases : (a b c : Option (List ℕ)) → Told IsWord word a n b → Told IsMountedParts mounted_parts b (handle, tt) c → Told (IsAnswer 5 101) result a (reply.Mounted handle) c
      cases None None c p q = q
      cases None (Some b) c p q = absurd (cc p)
      cases (Some a) None None p q = record { none = no_status p }
      cases (Some a) None (Some c) p q = absurd (cc q)
      cases (Some a) (Some b) None p q = record { none = absent_part p q }
      cases (Some a) (Some b) (Some c) p q = record {
        fits = (refl, q.fits.0);
        spelled =
            p.spelled ∙ ap (λ (k : ℕ). word k ++ b) zero_is ∙ ap (λ (s : List ℕ). word 0 ++ s) q.spelled ∙ sym (append_assoc (word 0) (mounted_parts (handle, tt)) c);
      }

  pub no_path_read : n ≡ 2 → Reads (IsAnswer 5 101) result a reply.NoSuchPath b
  no_path_read two = record { told = cases a b status.told }
    where
      cases : (a b : Option (List ℕ)) → Told IsWord word a n b → Told (IsAnswer 5 101) result a reply.NoSuchPath b
      cases None b p = p
      cases (Some a) None p = record { none = no_status p }
      cases (Some a) (Some b) p = record { fits = (refl, tt); spelled = p.spelled ∙ ap (λ (k : ℕ). word k ++ b) two }

  pub other_status : {c : Option (List ℕ)} → n ≢ 0 → n ≢ 2 → c ≡ None → Reads (IsAnswer 5 101) result a reply.NoSuchPath c
  other_status {c} no_zero no_two gone = record { told = cases a b c gone status.told }
    where
      neither : {bytes middle : List ℕ} → IsFront IsWord word bytes n middle → (r : Reply) (rest : List ℕ) → IsFront (IsAnswer 5 101) result bytes r rest → ⊥
      neither {middle = middle} front (reply.Mounted other) rest g =
          no_zero (one_word.one n 0 middle (mounted_parts (other, tt) ++ rest) front.fits (omega arith) (sym front.spelled ∙ g.spelled)).0
      neither {middle = middle} front reply.NoSuchPath rest g = no_two (one_word.one n 2 middle rest front.fits (omega arith) (sym front.spelled ∙ g.spelled)).0
      neither front (reply.Refused s t) rest g = absurd (omega (arith, g.fits.0, tail_below t))
      neither front r rest g = absurd (omega (arith, g.fits.0))

      cases : (a b c : Option (List ℕ)) → c ≡ None → Told IsWord word a n b → Told (IsAnswer 5 101) result a reply.NoSuchPath c
      cases a b (Some c) gone p = absurd (cc gone)
      cases None b None gone p = refl
      cases (Some a) None None gone p = record { none = no_status p }
      cases (Some a) (Some b) None gone p = record { none = neither p }

no_mounts_of : (r : Reply) → IsAnswer 5 102 r → MadeOf (IsAny {A = Unit {0}}) (λ u. reply.NoMounts) r
no_mounts_of reply.NoMounts f = record { part = tt; fits = tt; same = refl }
no_mounts_of (reply.Refused s t) f = absurd (omega (arith, f.0, tail_below t))
no_mounts_of r f = absurd (omega (arith, f.0))

pub made_no_mounts : Made IsAny (constant (0 ∷ [])) (IsAnswer 5 102) result (λ u. reply.NoMounts)
made_no_mounts = record { whole = λ u f. (refl, tt); spelled = λ u. refl; parts = no_mounts_of }

exports_of : (r : Reply) → IsAnswer 5 105 r → MadeOf (IsAny {A = Unit {0}}) (λ u. reply.Exports) r
exports_of reply.Exports f = record { part = tt; fits = tt; same = refl }
exports_of (reply.Refused s t) f = absurd (omega (arith, f.0, tail_below t))
exports_of r f = absurd (omega (arith, f.0))

pub made_exports : Made IsAny (constant (1 ∷ 1 ∷ 788529152 ∷ 0 ∷ 0 ∷ [])) (IsAnswer 5 105) result (λ u. reply.Exports)
made_exports = record { whole = λ u f. (refl, tt); spelled = λ u. refl; parts = exports_of }

nothing_of : (r : Reply) → IsAnswer 5 0 r → MadeOf (IsAny {A = Unit {0}}) (λ u. reply.Nothing) r
nothing_of reply.Nothing f = record { part = tt; fits = tt; same = refl }
nothing_of (reply.Refused s t) f = absurd (omega (arith, f.0, tail_below t))
nothing_of r f = absurd (omega (arith, f.0))

pub made_nothing : Made IsAny (constant []) (IsAnswer 5 0) result (λ u. reply.Nothing)
made_nothing = record { whole = λ u f. (refl, tt); spelled = λ u. refl; parts = nothing_of }

pub nothing_read : (a : Option (List ℕ)) → Reads (IsAnswer 5 0) result a reply.Nothing a
nothing_read a = record { told = cases a }
  where
    cases : (a : Option (List ℕ)) → Told (IsAnswer 5 0) result a reply.Nothing a
    cases None = refl
    cases (Some bytes) = record { fits = (refl, tt); spelled = refl }

-- ---- each is of one reply

pub one_nothing : ReadsOne (IsAnswer 5 0) result
one_nothing = one_made made_nothing (one_constant [])

pub one_mount : ReadsOne (IsAnswer 5 101) result
one_mount = record { one = replies }
  where
    replies : (x y : Reply) (r s : List ℕ) → IsAnswer 5 101 x → IsAnswer 5 101 y → result x ++ r ≡ result y ++ s → (x ≡ y) × (r ≡ s)
    replies (reply.Mounted h) (reply.Mounted k) r s f g e =
        let p = (always (word 0) ▷ one_mounted).one (tt, (h, tt)) (tt, (k, tt)) r s (tt, (f.1, tt)) (tt, (g.1, tt)) e in
        (ap (λ (p : Unit {0} × (List ℕ × Unit {0})). reply.Mounted p.1.0) p.0, p.1)
    replies (reply.Mounted h) reply.NoSuchPath r s f g e = cc
    replies reply.NoSuchPath (reply.Mounted k) r s f g e = cc
    replies reply.NoSuchPath reply.NoSuchPath r s f g e = (refl, ((always (word 2)).one tt tt r s tt tt e).1)
    replies (reply.Refused s t) y r s2 f g e = absurd (omega (arith, f.0, tail_below t))
    replies x (reply.Refused s t) r s2 f g e = absurd (omega (arith, g.0, tail_below t))
    replies x y r s f g e = absurd (omega (arith, f.0, g.0))

pub one_of_mount : (p : ℕ) → p < 6 → ReadsOne (IsAnswer 5 (mount_form_at p)) result
one_of_mount zero few = one_nothing
one_of_mount (suc zero) few = one_mount
one_of_mount (suc (suc zero)) few = one_made made_no_mounts (one_constant (0 ∷ []))
one_of_mount (suc (suc (suc zero))) few = one_nothing
one_of_mount (suc (suc (suc (suc zero)))) few = one_nothing
one_of_mount (suc (suc (suc (suc (suc zero))))) few = one_made made_exports (one_constant (1 ∷ 1 ∷ 788529152 ∷ 0 ∷ 0 ∷ []))
one_of_mount (suc (suc (suc (suc (suc (suc p)))))) few = absurd (omega (arith, few))
