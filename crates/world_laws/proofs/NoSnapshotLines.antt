-- A line that makes no snapshot leaves a world without one so.
use Rattle.std.proofs.Common.{◌≡◌, inr, ℕ, Bool, not, List, [], ◌∷◌, filter, Some, None, refl, sym, ◌∙◌, subst, arith}
use Rattle.std.specs.List.{AllByRecursion, list_any}
use Rattle.log_model.proofs.Lists.{each, each_from, from_filter}
use Rattle.turn_model.specs.Basis.{fresh_basis}
use Rattle.dht_ids.specs.declared.post.Post.{Post}
use Rattle.agent_model.specs.Agent.{entered, kept_of}
use Rattle.agent_model.specs.Others.{is_of}
use Rattle.agent_model.specs.SavedBytes.{ArePostsSpelled}
use Rattle.session_model.specs.Executions.{Settles}
use Rattle.session_model.specs.Executions.Settles.{settles as settles_all}
use Rattle.session_model.specs.Sessions.{Session}
use Rattle.world_model.specs.Agents.{HssAgent, HssKept, hss_opened, hss_kept_bytes}
use Rattle.world_model.specs.Keepers.{Keeper}
use Rattle.world_model.specs.Logs.{Played}
use Rattle.world_model.specs.World.{Participant}
use Rattle.world_laws.specs.Invariant.{HasNoSnapshot, IsKeptSo, IsSavedWell, Invariant}
use Rattle.world_laws.specs.Laws.{NoSnapshotComes}
use Rattle.world_laws.proofs.KeptBytes.{kept_once}
use Rattle.world_laws.proofs.LastingLines.{AllLast, IsLasting, lines_last}
use Rattle.world_laws.proofs.NoSnapshotTurns.{IsBare, saved_none, taking_bare}
use Rattle.world_laws.proofs.Publishing.{short_filter}

-- ---- settling

pub fewer_spelled : (test : Post → Bool) (posts : List Post) → ArePostsSpelled posts → ArePostsSpelled (filter test posts)
fewer_spelled test posts h = record {
  few = let short = short_filter test posts in omega (arith, short, h.few);
  each = each_from _ (filter test posts) (λ p c. each _ posts p h.each (from_filter test posts p c).0);
}

settled_bare : (a after : HssAgent) (y : Keeper) (s t : Session) → IsBare a y → Settles a s after t → IsBare after y
settled_bare a _ y s _ bare (settles_all said acks at) = record {
  whole = record {
    signer = bare.whole.signer;
    some = bare.whole.some;
    few = bare.whole.few;
    floor = bare.whole.floor;
    view = bare.whole.view;
    posts = fewer_spelled (λ (p : Post). not (list_any (λ ack. is_of ack p) acks)) a.pending bare.whole.posts;
    snapshot = bare.whole.snapshot;
  };
  kept = bare.kept;
  snapshot = bare.snapshot;
  to_load = bare.to_load;
  basis = bare.basis;
}

-- ---- entering, and starting again

some_bytes : (a b : List ℕ) → Some a ≡ Some b → a ≡ b
some_bytes a b e = cc e

pub bare_lasts : IsLasting IsBare
bare_lasts = record {
  turns = taking_bare;
  settles = settled_bare;
  keeper = λ a y z same bare. record { whole = bare.whole; kept = (bare.kept.0, bare.kept.1, same ∙ bare.kept.2, bare.kept.3); snapshot = bare.snapshot; to_load = bare.to_load; basis = bare.basis };
  restarts = λ a y k bare whole held.
      let same : bare.kept.0 ≡ k = kept_once bare.kept.0 k bare.kept.1 whole (some_bytes (hss_kept_bytes bare.kept.0) (hss_kept_bytes k) (sym bare.kept.2 ∙ held)) in
      let none : k.snapshot ≡ None = subst (λ (l : HssKept). l.snapshot ≡ None) same bare.kept.3 in
      record { whole = whole; kept = bare.kept; snapshot = none; to_load = none; basis = refl };
  enters = λ a y view bare may.
      let saved = saved_none y (Some (kept_of (entered a view))) bare.kept (may, refl) in (
        record { whole = may; kept = saved; snapshot = refl; to_load = refl; basis = refl },
        record { whole = bare.whole; kept = saved; snapshot = bare.snapshot; to_load = bare.to_load; basis = bare.basis },
      );
  opens = λ signer now may. record { whole = may; kept = (kept_of (hss_opened signer now), may, refl, refl); snapshot = refl; to_load = refl; basis = refl };
}

-- ---- worlds

bare_before : (w : Played) → Invariant w → HasNoSnapshot w.0 → AllLast IsBare bare_lasts w.0.participants
bare_before w keeps none = each_from (λ (p : Participant). IsBare p.agent p.keeper) w.0.participants (λ p among.
    let so = each (IsKeptSo (λ q k. k.snapshot ≡ None)) w.0.participants p none.kept among in
    let agent = each (λ (q : Participant). (q.agent.snapshot ≡ None) × (q.agent.to_load ≡ None) × (q.agent.holding.basis ≡ fresh_basis)) w.0.participants p none.agents among in
    let saved = each (IsKeptSo IsSavedWell) w.0.participants p keeps.saved among in
    record { whole = saved.3.agent; kept = so; snapshot = agent.0; to_load = agent.1; basis = agent.2 })

none_kept : (ps : List Participant) → AllLast IsBare bare_lasts ps → AllByRecursion (IsKeptSo (λ p k. k.snapshot ≡ None)) ps
none_kept [] all = tt
none_kept (p ∷ ps) all = (all.0.kept, none_kept ps all.1)

none_held : (ps : List Participant) → AllLast IsBare bare_lasts ps → AllByRecursion (λ p. (p.agent.snapshot ≡ None) × (p.agent.to_load ≡ None) × (p.agent.holding.basis ≡ fresh_basis)) ps
none_held [] all = tt
none_held (p ∷ ps) all = ((all.0.snapshot, all.0.to_load, all.0.basis), none_held ps all.1)

pub no_snapshot_comes : NoSnapshotComes
no_snapshot_comes w next line output keeps none within_frame step =
    let after = lines_last IsBare bare_lasts w next line output keeps (bare_before w keeps none) (inr within_frame) step in
    record { kept = none_kept next.0.participants after; agents = none_held next.0.participants after }
