-- Whole calls: procedures without arguments, and such as aren't there, and what stands after arguments.
use Rattle.std.proofs.Common.{◌≡◌, ℕ, ◌<◌, ◌≤◌, List, [], ◌∷◌, ◌++◌, Option, Some, None, refl, sym, ap, ◌∙◌, arith}
use Rattle.std.specs.Prelude.{◌≢◌}
use Rattle.std.proofs.lemmas.List.{append-nil}
use Rattle.wire_model.specs.OneReading.{IsFront}
use Rattle.wire_model.specs.Parts.{Told, Reads}
use Rattle.nfs_model.specs.declared.arguments.Args.{Args}
use Rattle.nfs_model.specs.declared.arguments.Args.TheVariants as call
use Rattle.nfs_model.specs.Arguments.{nfs_program, mount_program, program_of, procedure_of, arguments, AreArguments}
use Rattle.nfs_model.specs.Laws.{AreOf}
use Rattle.nfs_model.proofs.OneArguments.{read_one}
use Rattle.nfs3_args.specs.Reading.{AreNfs, AreMount, AreNoArguments}

-- ---- procedures without arguments

pub empty_read : {program procedure : ℕ} {args : Args} (a : Option (List ℕ)) → AreOf program procedure args → arguments args ≡ [] → Reads (AreOf program procedure) arguments a args a
empty_read {program} {procedure} {args} a f none = record { told = cases a }
  where
    cases : (a : Option (List ℕ)) → Told (AreOf program procedure) arguments a args a
    cases None = refl
    cases (Some bytes) = record { fits = f; spelled = ap (λ (s : List ℕ). s ++ bytes) (sym none) }

-- ---- procedures that aren't there

nfs_bound : (a : Args) → program_of a ≡ nfs_program → procedure_of a ≤ 21
nfs_bound call.Null e = omega arith
nfs_bound a e = omega arith

mount_bound : (a : Args) → program_of a ≡ mount_program → procedure_of a ≤ 5
mount_bound call.Null e = absurd (omega (arith, e))
mount_bound a e = omega (arith, e)

program_cases : (a : Args) → (program_of a ≢ nfs_program) → program_of a ≢ mount_program → ⊥
program_cases call.MountNull f g = g refl
program_cases (call.Mnt path) f g = g refl
program_cases call.Dump f g = g refl
program_cases (call.Umnt path) f g = g refl
program_cases call.UmntAll f g = g refl
program_cases call.Export f g = g refl
program_cases a f g = f refl

missed : {program procedure : ℕ} {a b : Option (List ℕ)} {args : Args} → ((other : Args) → AreOf program procedure other → ⊥) → b ≡ None → Reads (AreOf program procedure) arguments a args b
missed {program} {procedure} {a} {b} {args} none gone = record { told = cases a b gone }
  where
    cases : (a b : Option (List ℕ)) → b ≡ None → Told (AreOf program procedure) arguments a args b
    cases a (Some b) gone = absurd (cc gone)
    cases None None gone = refl
    cases (Some a) None gone = record { none = λ x rest f. none x f.fits }

pub no_such_nfs : {procedure : ℕ} {a b : Option (List ℕ)} {args : Args} → 21 < procedure → b ≡ None → Reads (AreNfs procedure) arguments a args b
no_such_nfs h gone = missed (λ x f. let e = f.procedure_is in let b = nfs_bound x (sym f.program_is) in omega (arith, h, e, b)) gone

pub no_such_mount : {procedure : ℕ} {a b : Option (List ℕ)} {args : Args} → 5 < procedure → b ≡ None → Reads (AreMount procedure) arguments a args b
no_such_mount h gone = missed (λ x f. let e = f.procedure_is in let b = mount_bound x (sym f.program_is) in omega (arith, h, e, b)) gone

pub no_such_program : {program procedure : ℕ} {a b : Option (List ℕ)} {args : Args} → program ≢ nfs_program → program ≢ mount_program → b ≡ None
    → Reads (AreOf program procedure) arguments a args b
no_such_program f g gone = missed (λ x h. program_cases x (λ e. f (h.program_is ∙ e)) (λ e. g (h.program_is ∙ e))) gone

-- ---- the whole

front_of : {program procedure : ℕ} {bytes : List ℕ} {args : Args} → AreArguments program procedure bytes args → IsFront (AreOf program procedure) arguments bytes args []
front_of {args = args} f = record {
  fits = record { program_is = f.program_is; procedure_is = f.procedure_is; fit = f.fit };
  spelled = f.spelled ∙ sym (append-nil (arguments args));
}

module _ {program procedure : ℕ} {bytes : List ℕ} {now : Option (List ℕ)} {args : Args} (read : Reads (AreOf program procedure) arguments (Some bytes) args now) where
  pub all_read : now ≡ Some [] → AreArguments program procedure bytes args
  all_read ends = cases now ends read.told
    where
      cases : (now : Option (List ℕ)) → now ≡ Some [] → Told (AreOf program procedure) arguments (Some bytes) args now → AreArguments program procedure bytes args
      cases None ends p = absurd (cc ends)
      cases (Some []) ends p = record {
        program_is = p.fits.program_is;
        procedure_is = p.fits.procedure_is;
        fit = p.fits.fit;
        spelled = p.spelled ∙ append-nil (arguments args);
      }
      cases (Some (x ∷ rest)) ends p = absurd (cc ends)

  pub not_all_read : now ≢ Some [] → AreNoArguments program procedure bytes
  not_all_read more = record { none = cases now more read.told }
    where
      cases : (now : Option (List ℕ)) → now ≢ Some [] → Told (AreOf program procedure) arguments (Some bytes) args now → (other : Args) → AreArguments program procedure bytes other → ⊥
      cases None more p other g = p.none other [] (front_of g)
      cases (Some []) more p other g = more refl
      cases (Some (x ∷ rest)) more p other g =
          let h = front_of g in
          let e : (x ∷ rest) ≡ [] = ((read_one program procedure).one args other (x ∷ rest) [] p.fits h.fits (sym p.spelled ∙ h.spelled)).1 in
          absurd (cc e)
