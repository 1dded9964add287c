-- Where the participant's agent is opened, memory alone may run out.
use Rattle.std.proofs.Common.{◌≡◌, ◌⊎◌, ⊎_elim, ℕ, ◌-◌, ◌<◌, Bool, true, false, ◌||◌, ◌&&◌, not, cond, List, [], ◌∷◌, ◌++◌, codes}
use Rattle.std.proofs.Common.{Option, Some, None, Result, Ok, Err, refl, sym, ap, ◌∙◌, subst, arith}
use Rattle.std.specs.Prelude.{option_map}
use Rattle.ivy_base.specs.Naming.{head_key_of}
use Rattle.ivy_base.specs.declared.key.Key.{Key}
use Rattle.ivy_base.specs.declared.key.PubKey.{PubKey}
use Rattle.ivy_base.specs.declared.operation.Moment.{Moment}
use Rattle.ivy_io.specs.Keepers.{KeeperState, after_save, next_save_fails as fails_next, fresh_keeper_state}
use Rattle.hash_signature_model.specs.Parameters.{leaves}
use Rattle.hash_signature_model.specs.Saved.{IsSigner, hss}
use Rattle.hash_signature_model.specs.Signer.{Signer, capacity}
use Rattle.hash_signature_model.specs.declared.set.Height.TheVariants.{H10}
use Rattle.hash_signature_model.specs.declared.set.Set.{Set}
use Rattle.hash_signature_model.specs.declared.set.Width.TheVariants.{W4}
use Rattle.log_model.proofs.Owners.{owner_itself}
use Rattle.log_model.specs.Chain.{opening}
use Rattle.log_model.specs.Rank.{own_entry}
use Rattle.log_model.specs.Vector.{Entry}
use Rattle.log_model.specs.View.{View}
use Rattle.script_model.specs.declared.command.Command.TheVariants as command
use Rattle.tree_model.proofs.Keys.{same_key_itself}
use Rattle.tree_model.specs.Tree.{same_key}
use Rattle.view_blocks.specs.Faults.{FailsAs}
use Rattle.view_blocks.specs.declared.fault.ViewFault.{ViewFault}
use Rattle.view_blocks.specs.declared.fault.ViewFault.TheVariants as view
use Rattle.agent_model.specs.Agent.{Agent, Kept, entered, failed, kept_of, opened, own, own_key}
use Rattle.agent_model.specs.Views.{Entering, entering, entering_with, is_own_member, is_refused_in, not_named}
use Rattle.agent_model.specs.Views.Entering.{Entered, NotMember, KeeperFailed}
use Rattle.agent_model.specs.SavedBytes.{kept_bytes}
use Rattle.ivy_agent.specs.Entering.{Enters, EntersAs, answer_of}
use Rattle.ivy_agent.specs.Making.{Makes}
use Rattle.ivy_agent.specs.Saves.{Saves}
use Rattle.ivy_agent.specs.declared.fault.EnterFault.{EnterFault}
use Rattle.ivy_agent.specs.declared.fault.EnterFault.TheVariants as enter
use Rattle.ivy_agent.specs.declared.fault.MakeFault.{MakeFault}
use Rattle.ivy_agent.specs.declared.fault.MakeFault.TheVariants as make
use Rattle.ivy_crowd.specs.Crowds.{Member, saves_in_memory}
use Rattle.ivy_crowd.specs.Requests.{IsKey, alone}
use Rattle.ivy_crowd.proofs.Asked.{line}

-- ---- the view

-- a view of one member isn't refused for its keys
pub view_is_made : (member : PubKey) (why : ViewFault) → FailsAs (alone member) why → why ≡ view.Memory
view_is_made member view.Malformed fails = absurd fails
view_is_made member view.NoMember fails = cc fails
view_is_made member view.TooMany fails = ⊎_elim (λ more. absurd (omega (arith, more))) (λ more. absurd (omega (arith, more))) fails.1
view_is_made member view.Order fails = absurd (fails.1 (record { members = refl; former = refl }))
view_is_made member view.Overlap fails = cc fails.2
view_is_made member view.Memory fails = refl

-- ---- the key

same_sets : {name other id ids seed seeds : List ℕ} (sets more : List Set)
    → Some (command.Log name id seed sets) ≡ Some (command.Log other ids seeds more) → sets ≡ more
same_sets sets more e = cc e

-- the key of the line makes 1,024 signatures
its_capacity : (signer : Signer) → IsKey signer → capacity signer.sets ≡ 1024
unfolding capacity
its_capacity signer key =
    let one : List Set = record { w = W4; h = H10 } ∷ [] in
    ap capacity (same_sets signer.sets one (sym key.line ∙ line))

is_not_spent : (signer : Signer) → IsKey signer → hss.remaining signer ≡ 0 → ⊥
is_not_spent signer key none =
    let left : capacity signer.sets - signer.made ≡ 0 = none in
    absurd (omega (arith, left, its_capacity signer key, key.unused))

-- ---- the agent

-- no agent is refused that key and a fresh keeper
pub agent_is_made : (signer : Signer) (moment : Moment) (after : KeeperState) (why : MakeFault) → IsKey signer
    → Makes hss IsSigner saves_in_memory fresh_keeper_state signer moment (Err (after, why)) → why ≡ make.Memory
agent_is_made signer moment after make.Spent key h = absurd (is_not_spent signer key h.0)
agent_is_made signer moment after make.Keeper key h = cc h.saved.0
agent_is_made signer moment after make.Memory key h = refl

-- ---- the entry

-- the view of one member takes in its log
takes_in : (owner : PubKey) → is_refused_in None (alone owner) (head_key_of owner) ≡ false
takes_in owner =
    ap (λ (b : Bool). not ((b || false) || false) || ((b || false) && false)) (same_key_itself (head_key_of owner))

module _ (signer : Signer) (moment : Moment) where
  abbrev its : Agent Signer
  its = opened hss signer moment

  abbrev in_its : View
  in_its = alone (own hss its)

  is_member : is_own_member hss its in_its ≡ true
  is_member = ap (λ (b : Bool). b || false) (owner_itself (own hss its))

  all_named : not_named its in_its ≡ None
  all_named =
      let first : Entry = own_entry (opening (own_key hss signer) moment) in
      ap (λ (b : Bool). option_map (λ (e : Entry). e.0) (cond b (Some first) None)) (takes_in (own hss its))

  -- the save of it is what remains to be done
  goes_in : (fails : Bool) → entering hss its in_its fails
      ≡ (cond fails (KeeperFailed (failed its)) (Entered (entered its in_its)), Some (kept_of (entered its in_its)))
  goes_in fails =
      ap (λ (m : Bool). cond m (entering_with its in_its fails (not_named its in_its)) (NotMember, None)) is_member
      ∙ ap (λ (o : Option Key). entering_with its in_its fails o) all_named

  no_error : (fails : Bool) (why : EnterFault) → fails ≡ false
      → Err why ≡ answer_of (cond fails (KeeperFailed (failed its)) (Entered (entered its in_its))) → ⊥
  no_error true why e answered = cc e
  no_error false why e answered = cc answered

  not_so : (keeper : KeeperState) (after : Member) (why : EnterFault) (fails : Bool) → fails_next keeper ≡ false
      → EntersAs hss IsSigner saves_in_memory in_its (record { agent = its; keeper = keeper }) fails (Err why) after → ⊥
  not_so keeper after why fails sound enters =
      let bytes : Option (Kept Signer) → Type 0 =
      λ k. Saves saves_in_memory keeper (option_map (kept_bytes hss) k) fails after.keeper in
      let saved : bytes (Some (kept_of (entered its in_its))) = subst bytes (ap (λ e. e.1) (goes_in fails)) enters.keeper in
      no_error fails why (saved.0 ∙ sound) (enters.answered ∙ ap (λ e. answer_of e.0) (goes_in fails))

  entry_so : (keeper : KeeperState) (after : Member) (why : EnterFault) → fails_next keeper ≡ false
      → Enters hss IsSigner saves_in_memory in_its (record { agent = its; keeper = keeper }) (Err why) after → why ≡ enter.Memory
  entry_so keeper after enter.NotMember sound h = absurd (not_so keeper after enter.NotMember h.0 sound h.1)
  entry_so keeper after (enter.NotNamed log) sound h = absurd (not_so keeper after (enter.NotNamed log) h.0 sound h.1)
  entry_so keeper after enter.Keeper sound h = absurd (not_so keeper after enter.Keeper h.0 sound h.1)
  entry_so keeper after enter.Memory sound h = refl

-- the agent that was created so isn't refused the view of its log
pub view_is_entered : (signer : Signer) (moment : Moment) (created after : Member) (view : View) (why : EnterFault)
    → Makes hss IsSigner saves_in_memory fresh_keeper_state signer moment (Ok created) → view ≡ alone (own hss created.agent)
    → Enters hss IsSigner saves_in_memory view created (Err why) after → why ≡ enter.Memory
view_is_entered signer moment created after view why makes is h =
    let same : created.agent ≡ its signer moment = makes.0 in
    let sound : fails_next created.keeper ≡ false = ap fails_next makes.1.saved.1 in
    let its_view : view ≡ in_its signer moment = is ∙ ap (λ (a : Agent Signer). alone (own hss a)) same in
    let there : Enters hss IsSigner saves_in_memory (in_its signer moment) (record { agent = its signer moment; keeper = created.keeper })
    (Err why) after = subst (λ (t : View × Agent Signer). Enters hss IsSigner saves_in_memory t.0
    (record { agent = t.1; keeper = created.keeper }) (Err why) after) (λ i. (its_view i, same i)) h in
    entry_so signer moment created.keeper after why sound there
