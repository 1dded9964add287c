-- The key of a service, and what comes of the word `serve`.
use Rattle.std.proofs.Common.{◌≡◌, ℕ, List, [], ◌∷◌, codes, Option, Some, None, sym, subst, ap, ◌∙◌}
use Rattle.std.proofs.lemmas.Slice.Eq.{bytes_eq-Decides}
use Rattle.hash_signature_model.specs.Saved.{AreLevels}
use Rattle.world_laws.proofs.LineFits.{command_fits}
use Rattle.world_laws.proofs.LineFits as line
use Rattle.script_model.specs.declared.command.Command.{Command}
use Rattle.script_model.specs.declared.command.Command.TheVariants as command
use Rattle.script_model.specs.Lines.{command_of}
use Rattle.script_model.specs.Words.{◌>>=◌}
use Rattle.ivy_cli.specs.declared.words.Asked.{Asked}
use Rattle.ivy_cli.specs.declared.words.Asked.TheVariants as asked
use Rattle.ivy_cli.specs.declared.words.Participant.{Participant}
use Rattle.ivy_cli.specs.Words.{AskService, Fits, asked_of, log_line, participant_of, port_of, serve_of}

-- ---- the key of a service

begun_fits : (port : ℕ) (c : Command) → line.Fits c → Fits (participant_of c >>= λ participant. Some (asked.Serve port participant))
begun_fits port (command.Ring n r) fits = tt
begun_fits port (command.Log log id seed sets) fits = fits.sets
begun_fits port (command.View view members former) fits = tt
begun_fits port (command.Use log view) fits = tt
begun_fits port (command.At sec nsec) fits = tt
begun_fits port (command.As log pieces) fits = tt
begun_fits port (command.Open session log pieces) fits = tt
begun_fits port (command.Step session count) fits = tt
begun_fits port (command.Finish session) fits = tt
begun_fits port (command.Join node) fits = tt
begun_fits port (command.Stop node) fits = tt
begun_fits port command.Round fits = tt
begun_fits port (command.Lose count) fits = tt
begun_fits port (command.Damage node key offset byte) fits = tt
begun_fits port (command.Snap log) fits = tt
begun_fits port (command.Restart log) fits = tt
begun_fits port (command.Keep log count new) fits = tt
begun_fits port (command.Show shown) fits = tt
begun_fits port command.Nothing fits = tt
begun_fits port command.End fits = tt

-- the sets of a participant whose log a line begins
pub service_levels : (text : List ℕ) (read : Option Command) (c : Command) (found : Option Participant) (p : Participant)
    → read ≡ command_of text → read ≡ Some c → found ≡ participant_of c → found ≡ Some p → AreLevels p.sets
service_levels text read c found p of is named some = subst Fits (ap (λ (o : Option Participant). o >>= λ participant. Some (asked.Serve 1 participant)) (sym named ∙ some)) (begun_fits 1 c (command_fits text c (sym of ∙ is)))

-- ---- the word `serve`

-- what may come of the word `serve`: a service, or no form
abbrev pub IsOfService : Option Asked → Type 0
IsOfService (Some (asked.Serve port participant)) = Unit {0}
IsOfService None = Unit {0}
IsOfService _ = ⊥

serve_is : (words : List (List ℕ)) → IsOfService (serve_of words)
serve_is [] = tt
serve_is (p ∷ []) = tt
serve_is (p ∷ n ∷ []) = tt
serve_is (p ∷ n ∷ i ∷ []) = tt
serve_is (p ∷ n ∷ i ∷ s ∷ []) = tt
serve_is (p ∷ n ∷ i ∷ s ∷ w ∷ []) = by (port_of p) (command_of (log_line n i s w))
  where
    named : (port : ℕ) (o : Option Participant) → IsOfService (o >>= λ participant. Some (asked.Serve port participant))
    named port None = tt
    named port (Some participant) = tt

    by : (o : Option ℕ) (read : Option Command) → IsOfService (o >>= λ port. read >>= λ begins. participant_of begins >>= λ participant. Some (asked.Serve port participant))
    by None read = tt
    by (Some port) None = tt
    by (Some port) (Some c) = named port (participant_of c)
serve_is (p ∷ n ∷ i ∷ s ∷ w ∷ v ∷ words) = tt

pub of_service : (words : List (List ℕ)) → AskService words → IsOfService (asked_of words)
of_service [] is = absurd is
of_service (word ∷ words) is = subst (λ (w : List ℕ). IsOfService (asked_of (w ∷ words))) (sym ((bytes_eq-Decides word (codes "serve")).0 is)) (serve_is words)
