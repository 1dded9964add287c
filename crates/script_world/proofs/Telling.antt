-- Lines that show something do so by whatever tells which blocks are records.
use Rattle.std.proofs.Common.{◌≡◌, ℕ, suc, ◌+◌, ◌<◌, Bool, true, false, cond, List, [], ◌∷◌, ◌++◌, length, take, get_or, refl, sym, ap, ◌∙◌, Option, Some, None, option_map, append-nil, arith}
use Rattle.std.specs.Prelude.{codes, filter, IfOk}
use Rattle.std.specs.Ordering.{eq_by_cmp}
use Rattle.std.specs.declared.result.Result.{Result}
use Rattle.std.specs.declared.result.Result.TheVariants.{Ok, Err}
use Rattle.std.proofs.Math.Seq.{take-suc}
use Rattle.std.proofs.lemmas.List.Elements.{filter-append}
use Rattle.ivy_base.specs.declared.key.PubKey.{PubKey}
use Rattle.ivy_base.specs.Naming.{owner_cmp}
use Rattle.log_model.specs.Heads.{owner_in}
use Rattle.fork_model.specs.Before.{Before, TellsRecords}
use Rattle.fork_model.specs.Finding.{find_fork}
use Rattle.ring_model.proofs.Lists.{none_some, some_same}
use Rattle.script_driver.specs.Run.{Goes}
use Rattle.script_driver.specs.declared.machine.Taken.{Taken}
use Rattle.script_driver.specs.declared.machine.Taken.TheVariants as taken
use Rattle.script_model.specs.declared.command.Shown.{Shown}
use Rattle.world_model.specs.Agents.{own_hss_key}
use Rattle.world_model.specs.Shows.{Shows, of_known, proof_shown, proof_text, show_line, shown_as}
use Rattle.world_model.specs.World.{World, Participant}
use Rattle.world_laws.proofs.RecordsTold.{records_told}
use Rattle.script_participants.specs.ParticipantState.{ParticipantState, state_of}
use Rattle.script_world.specs.PartsState.{DoesIn, GoesOn, HasParts, PartsState}

module _ (s : Shown) (now : PartsState) where
  told_so : (how : Taken) → DoesIn (λ w outcome. outcome ≡ show_line records_told.0 w s) now how now → DoesIn (λ w outcome. Shows w s outcome) now how now
  told_so (taken.Went output) does = λ w has. (let d = does w has in (d.0, (records_told.0, records_told.1, d.1), d.2))
  told_so taken.Ended does = λ w has. (records_told.0, records_told.1, does w has)
  told_so taken.Refused does = λ w has. (records_told.0, records_told.1, does w has)
  told_so taken.Exceeded does = λ w has. (records_told.0, records_told.1, does w has)

  pub shows_told : {E : Type 0} (result : Result Taken E) → ((before : Before) → TellsRecords before → IfOk result (λ how. DoesIn (λ w outcome. outcome ≡ show_line before w s) now how now))
      → IfOk result (λ how. DoesIn (λ w outcome. Shows w s outcome) now how now)
  shows_told (Ok how) does = told_so how (does records_told.0 records_told.1)
  shows_told (Err e) does = tt

-- a proof, or that there is none
module _ (before : Before) (w : World) (s : PartsState) (has : HasParts w s) where
  pub shows_found : (named : Option Participant) (one : ParticipantState) → Some one ≡ option_map state_of named → (owner : PubKey) → owner ≡ own_hss_key one.agent → (blocks : List (List ℕ)) → blocks ≡ w.met
      → (heads : List (List ℕ)) → heads ≡ filter (λ b. eq_by_cmp owner_cmp (owner_in b) owner) blocks → (found : Option (List ℕ)) → found ≡ find_fork before heads blocks
      → (output : List ℕ) → output ≡ codes "proof" ++ 32 ∷ proof_text found → (next : World) × (Goes next output ≡ shown_as w (codes "proof") (of_known (proof_shown before w) named)) × GoesOn w s next
  shows_found None one is owner owner_is blocks blocks_are heads heads_are found found_is output text = absurd (none_some one (sym is))
  shows_found (Some p) one is owner owner_is blocks blocks_are heads heads_are found found_is output text = (w, ap (λ (o : List ℕ). Goes w o) (text ∙ ap (λ (f : Option (List ℕ)). codes "proof" ++ 32 ∷ proof_text f) all), (has, refl))
    where
      same : owner ≡ own_hss_key p.agent
      same = owner_is ∙ ap (λ (q : ParticipantState). own_hss_key q.agent) (some_same one (state_of p) is)

      all : found ≡ find_fork before (filter (λ b. eq_by_cmp owner_cmp (owner_in b) (own_hss_key p.agent)) w.met) w.met
      all = found_is ∙ ap (λ (h : List (List ℕ)). find_fork before h blocks) heads_are ∙ (λ i. find_fork before (filter (λ b. eq_by_cmp owner_cmp (owner_in b) (same i)) (blocks_are i)) (blocks_are i))

-- ---- the blocks that pass a test

module _ (test : List ℕ → Bool) (blocks : List (List ℕ)) (i : ℕ) (d : List ℕ) (olds : List (List ℕ)) (within : i < length blocks) (held : olds ≡ filter test (take i blocks)) where
  more : filter test (take (i + 1) blocks) ≡ olds ++ filter test (get_or blocks i d ∷ [])
  more = let one : i + 1 ≡ suc i = omega arith in
      ap (λ (n : ℕ). filter test (take n blocks)) one ∙ ap (filter test) (take-suc blocks i d within) ∙ filter-append test (take i blocks) (get_or blocks i d ∷ []) ∙ ap (λ l. l ++ filter test (get_or blocks i d ∷ [])) (sym held)

  pub one_more : (news : List (List ℕ)) (b : List ℕ) → b ≡ get_or blocks i d → news ≡ olds ++ b ∷ [] → test (get_or blocks i d) ≡ true → news ≡ filter test (take (i + 1) blocks)
  one_more news b copied pushed passes = pushed ∙ ap (λ (x : List ℕ). olds ++ x ∷ []) copied ∙ ap (λ t. olds ++ cond t (get_or blocks i d ∷ []) []) (sym passes) ∙ sym more

  pub none_more : test (get_or blocks i d) ≡ false → olds ≡ filter test (take (i + 1) blocks)
  none_more fails = sym (append-nil olds) ∙ ap (λ t. olds ++ cond t (get_or blocks i d ∷ []) []) (sym fails) ∙ sym more
