-- What holds of an agent that opened its log, and what is saved of it.
use Rattle.std.proofs.Common.{◌≡◌, ℕ, Bool, true, false, cond, List, [], ◌∷◌, Some, None, Result, Ok, Err, refl, sym, ap, ◌∙◌, subst, arith}
use Rattle.ivy_base.specs.declared.key.Key.{Key}
use Rattle.ivy_base.specs.declared.operation.Moment.{Moment}
use Rattle.ivy_base.specs.Naming.{head_key_of}
use Rattle.tree_model.proofs.Keys.{same_key_itself}
use Rattle.log_model.specs.Chain.{opening}
use Rattle.log_model.specs.Vector.{Stamp, Vector, reach, seq_of}
use Rattle.log_model.specs.Spelling.{IsKey, record_block}
use Rattle.snapshot_model.proofs.MadeLists.{is_key}
use Rattle.turn_model.specs.Basis.{nothing_held}
use Rattle.replay_engine.specs.Engines.{Engine, holding}
use Rattle.snapshot_model.specs.Blocks.{IsVectorSpelled}
use Rattle.agent_model.specs.Agent as model
use Rattle.wire_model.specs.Xdr.{IsAny}
use Rattle.log_model.specs.Signing.{Signing}
use Rattle.agent_model.specs.Agent.{Agent, joined, kept_of, opened, own_key}
use Rattle.agent_model.specs.SavedBytes.{ArePostsSpelled, IsKept, kept_bytes}
use Rattle.ivy_agent.specs.Holders.{Holder, IsSound, Stands, agent_of}
use Rattle.ivy_agent.specs.Saves.{saved_of, HasSaved, IsWholeAfter}
use Rattle.ivy_agent.specs.Making.{IsOpening, IsFirstSave}
use Rattle.ivy_agent.specs.declared.saving.SaveFault.{SaveFault}
use Rattle.ivy_agent.specs.declared.saving.SaveFault.TheVariants as fault
use Rattle.ivy_agent.specs.declared.saving.Kept.{Kept}
use Rattle.ivy_agent.specs.declared.opening.Opened.{Opened}
use Rattle.ivy_agent.proofs.HeadKeys.{head_is_key}
use Rattle.ivy_agent.proofs.Opened.{first_stamp}

-- with the signer's own word
pub whole_kept : {S : Type 0} (signs : Signing S) (IsWhole : S → Type 0) (k : model.Kept S) → IsKept signs IsAny k → IsWhole k.signer → IsKept signs IsWhole k
whole_kept signs IsWhole k h whole = record { signer = whole; some = h.some; few = h.few; floor = h.floor; view = h.view; posts = h.posts; snapshot = h.snapshot }

module _ {S : Type 0} (signs : Signing S) where
  reaches : (log : Key) (t : Stamp) → seq_of ((log, t) ∷ []) log ≡ t.seq
  reaches log t = ap (λ (b : Bool). reach (cond b (Some t) None)) (same_key_itself log)

  first_sound : (k : Kept S) (log n : Key) (engine : Engine) → log ≡ head_key_of (own_key signs k.signer) → IsKey log → IsKey n → k.view ≡ None → k.floor ≡ (log, first_stamp n) ∷ [] → ArePostsSpelled k.pending → k.snapshot ≡ None
      → holding engine ≡ nothing_held → IsSound signs (agent_of k engine None false) log []
  first_sound k log n engine log_is log_key name_key outside floor_is spelled no_snapshot nothing =
      let own_log = head_key_of (own_key signs k.signer) in
      let one : seq_of k.floor own_log ≡ 1 = ap (λ (v : Vector). seq_of v own_log) floor_is ∙ ap (λ (l : Key). seq_of ((log, first_stamp n) ∷ []) l) (sym log_is) ∙ reaches log (first_stamp n) in
      let floor : IsVectorSpelled ((log, first_stamp n) ∷ []) = record { each = ((log_key, omega arith, omega arith, name_key), tt); in_order = refl; short = omega arith } in
      record {
        its_log = log_is;
        its_front = sym (ap joined nothing);
        kept = record {
          signer = tt;
          some = omega (arith, one);
          few = omega (arith, one);
          floor = subst IsVectorSpelled (sym floor_is) floor;
          view = rw outside tt;
          posts = spelled;
          snapshot = rw no_snapshot tt;
        };
        stands = subst (Stands signs (agent_of k engine None false)) (sym outside) (record { nothing = nothing });
      }

  module _ (before : S) (now : Moment) (o : Opened S) (is : IsOpening signs before now o) where
    pub opened_sound : IsSound signs (agent_of o.kept o.engine None false) o.kept.log o.front
    opened_sound =
        let own = own_key signs before in
        let first = opening own now in
        let log_is : head_key_of own ≡ head_key_of (own_key signs o.kept.signer) = (λ i. head_key_of (record { 0 = sym is.its_key i })) in
        let sound : IsSound signs (agent_of o.kept o.engine None false) (head_key_of own) [] =
        first_sound o.kept (head_key_of own) first.name o.engine log_is (head_is_key own) (is_key (record_block first)) is.outside is.its_floor is.spelled is.no_snapshot is.nothing in
        subst (λ (t : Key × Vector). IsSound signs (agent_of o.kept o.engine None false) t.0 t.1) (λ i. (sym is.its_log i, sym is.its_front i)) sound

    -- it is the agent of the definition
    pub is_opened : agent_of o.kept o.engine None false ≡ opened signs before now
    is_opened = λ i. record {
      signer = is.next i;
      view = is.outside i;
      floor = is.its_floor i;
      holding = is.nothing i;
      to_load = None;
      snapshot = is.no_snapshot i;
      pending = is.posts i;
      has_failed = false;
    }

    bytes_are : kept_bytes signs (saved_of o.kept) ≡ kept_bytes signs (kept_of (opened signs before now))
    bytes_are = ap (λ (a : Agent S). kept_bytes signs (kept_of a)) is_opened

    pub first_kept : (IsWhole : S → Type 0) → IsWhole o.kept.signer → IsKept signs IsWhole (kept_of (opened signs before now))
    first_kept IsWhole whole = subst (λ (a : Agent S). IsKept signs IsWhole (kept_of a)) is_opened (whole_kept signs IsWhole (saved_of o.kept) opened_sound.kept whole)

    module _ {K : Type 0} (IsWhole : S → Type 0) (saves : K → List ℕ → Bool → K → Type 0) (keeper left : K) (some : signs.remaining before ≡ 0 → ⊥) (result : Result Unit SaveFault)
        (told : HasSaved saves keeper (kept_bytes signs (saved_of o.kept)) result left) (whole : IsWholeAfter (IsWhole o.kept.signer) result) where
      -- what the save left
      pub save_failed : result ≡ Err fault.Keeper → IsFirstSave signs IsWhole saves keeper before now true left
      save_failed failed = record {
        left = some;
        kept = first_kept IsWhole (subst (λ (r : Result Unit SaveFault). IsWholeAfter (IsWhole o.kept.signer) r) failed whole);
        saved = subst (λ (b : List ℕ). saves keeper b true left) bytes_are (subst (λ (r : Result Unit SaveFault). HasSaved saves keeper (kept_bytes signs (saved_of o.kept)) r left) failed told);
      }

      was_saved : (done : Unit {0}) → result ≡ Ok done → IsFirstSave signs IsWhole saves keeper before now false left
      was_saved done is_done = record {
        left = some;
        kept = first_kept IsWhole (subst (λ (r : Result Unit SaveFault). IsWholeAfter (IsWhole o.kept.signer) r) is_done whole);
        saved = subst (λ (b : List ℕ). saves keeper b false left) bytes_are (subst (λ (r : Result Unit SaveFault). HasSaved saves keeper (kept_bytes signs (saved_of o.kept)) r left) is_done told);
      }

      pub made : (done : Unit {0}) → result ≡ Ok done → (h : Holder K S) → h ≡ record { agent = agent_of o.kept o.engine None false; keeper = left } → (h.agent ≡ opened signs before now) × IsFirstSave signs IsWhole saves keeper before now false h.keeper
      made done is_done h h_is = (ap (λ (x : Holder K S). x.agent) h_is ∙ is_opened, subst (λ (x : Holder K S). IsFirstSave signs IsWhole saves keeper before now false x.keeper) (sym h_is) (was_saved done is_done))
