-- All is so in each world of a calm script.
use Rattle.std.proofs.Common.{◌≡◌, ◌⊎◌, ℕ, List, [], find, Option, Some, None, refl, sym, ap, ◌∙◌, subst, Contains}
use Rattle.std.specs.List.{AllByRecursion}
use Rattle.std.specs.FinMap.Entries.{find as value_at}
use Rattle.std.specs.Str.{bytes_eq}
use Rattle.ivy_base.specs.declared.key.Key.{Key}
use Rattle.ivy_base.specs.Naming.{key_cmp}
use Rattle.log_model.proofs.Lists.{each, in_nothing}
use Rattle.log_model.specs.View.{View}
use Rattle.agent_model.specs.Agent.{record_post}
use Rattle.dhash_model.specs.Stores.{Block, Blocks}
use Rattle.world_model.specs.Agents.{own_hss_key}
use Rattle.script_driver.specs.Run.{Goes}
use Rattle.world_model.specs.Nodes.{Node}
use Rattle.world_model.specs.World.{Participant, World, empty_world, participant}
use Rattle.world_model.specs.GhostState.{empty_ghost_state}
use Rattle.world_model.specs.Logs.{Played}
use Rattle.world_model.specs.Ring.{RingLine}
use Rattle.calm_laws.specs.Calm.{Calmly, IsCalmAt, Since, Stopped}
use Rattle.world_laws.specs.Invariant.{Invariant}
use Rattle.world_laws.specs.Laws.{LinesKeep}
use Rattle.calm_laws.proofs.CalmHeld.{calmly_keeps, moment_keeps}
use Rattle.calm_laws.proofs.CalmRuns.{IsFirst, first_of}
use Rattle.world_laws.proofs.RingLines.{ring_lines_keep}
use Rattle.calm_laws.specs.Put.{HeadsNameWhatWasPut, KnownIsPutOrPending, WasPut}
use Rattle.calm_laws.proofs.HeldHeads.{IsPutAs}
use Rattle.calm_laws.proofs.KeysStay.{found_itself}
use Rattle.calm_laws.proofs.Known.{known_put, outside_put}
use Rattle.calm_laws.proofs.BackedLines.{runs_backed}
use Rattle.calm_laws.proofs.BackedWorlds.{IsBackedWorld}

-- the world that the line of the ring leaves
pub first_backed : (r : ℕ) (w made : World) → w.participants ≡ [] → w.sessions ≡ [] → IsFirst r w made → IsBackedWorld made empty_ghost_state
first_backed r w made nobody none first = record {
  nodes = λ n among key block found. absurd (nothing_under key block n.blocks (each (λ (m : Node). m.blocks ≡ []) made.nodes n first.empty among) found);
  agents = λ n p is. absurd (not_there n p (ap (λ (v : World). v.participants) first.rest ∙ nobody) is);
  sessions = subst (AllByRecursion _) (sym (ap (λ (v : World). v.sessions) first.rest ∙ none)) tt;
  put_met = λ p c. absurd (in_nothing p c);
  received = λ n. tt;
}
  where
    nothing_under : (key : Key) (c : Block) (blocks : Blocks) → blocks ≡ [] → value_at key_cmp key blocks ≡ Some c → ⊥
    nothing_under key c blocks e f = let g : value_at key_cmp key [] ≡ Some c = subst (λ (bs : Blocks). value_at key_cmp key bs ≡ Some c) e f in cc g

    not_there : (n : List ℕ) (p : Participant) → made.participants ≡ [] → participant made n ≡ Some p → ⊥
    not_there n p e f = let g : find (λ (x : Participant). bytes_eq x.name n) [] ≡ Some p = subst (λ ps. find (λ (x : Participant). bytes_eq x.name n) ps ≡ Some p) e f in cc g

pub world_backed : LinesKeep → (r : ℕ) (w : Played) (since : Since) (lines : List (List ℕ)) → IsCalmAt r w since lines → IsBackedWorld w.0 w.1
world_backed lines_keep r w since lines calm =
    let before : Played = (record empty_world { now = calm.fresh.0 }, empty_ghost_state) in
    let rings : RingLine before.0 calm.count r (Goes calm.made []) = subst (λ (v : Played). RingLine v.0 calm.count r (Goes calm.made [])) calm.fresh.2 calm.rings in
    let calmly : Calmly r (calm.made, empty_ghost_state) (Stopped 0) lines w since = subst (λ (v : Played). Calmly r (calm.made, v.1) (Stopped 0) lines w since) calm.fresh.2 calm.calmly in
    let keeps : Invariant (calm.made, empty_ghost_state) = ring_lines_keep calm.count r before (calm.made, empty_ghost_state) [] (moment_keeps calm.fresh.0 calm.fresh.1) (Goes calm.made [], rings, refl) in
    runs_backed lines_keep calmly keeps calm.apart (first_backed r before.0 calm.made refl refl (first_of before.0 calm.made calm.count r rings))

pub heads_name_what_was_put : LinesKeep → HeadsNameWhatWasPut
heads_name_what_was_put lines_keep r w count lines n key block head calm among found kind judged =
    (subst (λ k. IsPutAs w.0.met w.1.acked k key block.bytes) kind ((world_backed lines_keep r w (Stopped count) lines calm).nodes n among key block found)) head judged

pub known_is_put_or_pending : LinesKeep → KnownIsPutOrPending
known_is_put_or_pending lines_keep r w count lines p one calm among known = by p.agent.view refl
  where
    keeps : Invariant w
    keeps = calmly_keeps lines_keep r w (Stopped count) lines calm

    found : participant w.0 p.name ≡ Some p
    found = found_itself w keeps p among

    backed : IsBackedWorld w.0 w.1
    backed = world_backed lines_keep r w (Stopped count) lines calm

    by : (o : Option View) → p.agent.view ≡ o → WasPut w.1.acked one ⊎ ((one.owner ≡ own_hss_key p.agent) × Contains p.agent.pending (record_post one))
    by None outside = outside_put w keeps calm.apart backed p found outside one known
    by (Some view) in_view = known_put w keeps calm.apart calm.no_key backed p p.name found view in_view one known
