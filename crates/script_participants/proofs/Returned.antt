-- A participant that starts again.
use Rattle.std.proofs.Common.{◌≡◌, ℕ, List, Option, Some, None, Result, Ok, Err, sym, subst, ◌∙◌}
use Rattle.std.specs.Prelude.{IfOk}
use Rattle.ivy_base.specs.declared.memory.Memory.{Memory}
use Rattle.hash_signature_model.specs.Saved.{IsSigner}
use Rattle.hash_signature_model.specs.Signer.{Signer}
use Rattle.agent_saves.proofs.HssSaves.{counted}
use Rattle.ivy_agent.specs.Holders.{Holder}
use Rattle.ivy_agent.specs.Restarting.{AreNobodys, StartsAgain}
use Rattle.ivy_agent.specs.declared.fault.RestartFault.{RestartFault}
use Rattle.ivy_agent.specs.declared.fault.RestartFault.TheVariants as fault
use Rattle.world_model.specs.Agents.{IsHssKept, HssKept, hss_signing, hss_kept_bytes as kept_bytes}
use Rattle.world_model.specs.Keepers.{Keeper}
use Rattle.script_participants.specs.declared.end.RestartEnd.{RestartEnd}
use Rattle.script_participants.specs.declared.end.RestartEnd.TheVariants as end
use Rattle.script_participants.specs.ParticipantState.{ParticipantState}
use Rattle.script_participants.specs.Restarting.{HasReturned, HoldsNobody, IsLostFor}
use Rattle.script_participants.proofs.Turned.{holder}

some_bytes : (a b : List ℕ) → Some a ≡ Some b → a ≡ b
some_bytes a b e = cc e

holds_none : (kept : Option (List ℕ)) → kept ≡ None → HoldsNobody kept
holds_none kept none k whole held = let e : None ≡ Some (kept_bytes k) = sym none ∙ held in cc e

holds_nobodys : (kept : Option (List ℕ)) (bytes : List ℕ) → kept ≡ Some bytes → AreNobodys hss_signing IsSigner bytes → HoldsNobody kept
holds_nobodys kept bytes some nobodys k whole held = nobodys k (counted k whole) (some_bytes bytes (kept_bytes k) (sym some ∙ held))

module _ (p : ParticipantState) (after : Holder Keeper Signer) where
  abbrev kept_so : ParticipantState
  kept_so = record p { agent = after.agent; keeper = after.keeper }

  lost_as : (result : Result RestartEnd Memory) → HoldsNobody p.keeper.kept → after ≡ holder p → (e : RestartEnd) → e ≡ end.Lost → HasReturned p e kept_so
  lost_as result nobody same e is = subst (λ (x : RestartEnd). HasReturned p x kept_so) (sym is) (nobody, λ i. record p { agent = (same i).agent; keeper = (same i).keeper })

  lost : (why : RestartFault) (result : Result RestartEnd Memory) → StartsAgain hss_signing IsSigner (holder p) (Err why) after → IsLostFor why result → IfOk result (λ e. HasReturned p e kept_so)
  lost fault.Nothing (Ok e) s told = lost_as (Ok e) (holds_none p.keeper.kept s.0) s.1 e told
  lost fault.Malformed (Ok e) s told = lost_as (Ok e) (holds_nobodys p.keeper.kept s.0 s.1 s.2) s.3 e told
  lost fault.Keeper (Ok e) s told = absurd s
  lost fault.Memory (Ok e) s told = absurd (cc told)
  lost why (Err m) s told = tt

  pub lost_so : (q : ParticipantState) → p ≡ q → (why : RestartFault) (result : Result RestartEnd Memory) → StartsAgain hss_signing IsSigner (holder p) (Err why) after → IsLostFor why result → IfOk result (λ e. HasReturned q e kept_so)
  lost_so q is why result s told = subst (λ (r : ParticipantState). IfOk result (λ e. HasReturned r e kept_so)) is (lost why result s told)
