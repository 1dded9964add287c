-- Lines that set a world up.
use Rattle.std.proofs.Common.{◌≡◌, ℕ, Bool, true, false, List, [], refl, sym, ap, ◌∙◌, subst, Option, Some}
use Rattle.std.specs.Prelude.{◌==◌, nat_le, nat_lt, ◌&&◌, ◌||◌, is_some, not}
use Rattle.std.proofs.lemmas.Bool.{cond-true}
use Rattle.ivy_base.specs.declared.operation.Moment.{Moment}
use Rattle.script_driver.specs.Run.{Goes, Refuses}
use Rattle.world_model.specs.Logs.{at_line}
use Rattle.world_model.specs.Ring.{AreSettled, RingLine, first_peers, in_ring_order, is_refused_ring}
use Rattle.world_model.specs.Ring.RingLine.{makes}
use Rattle.world_model.specs.World.{World}
use Rattle.ring_nodes.specs.NodesState.{NodesState}
use Rattle.script_world.specs.PartsState.{GoesOn, HasParts, PartsState}

-- whether a ring of such counts is refused
abbrev refuses : Option ℕ → ℕ → ℕ → Bool
refuses before count r = is_some before || not (nat_le 1 r && nat_le r 8) || count == 0

module _ (w : World) (s : PartsState) (has : HasParts w s) where
  pub refused_in : (count r : ℕ) (b : Bool) → refuses s.replicas count r ≡ b → is_refused_ring w count r ≡ b
  refused_in count r b is = ap (λ (o : Option ℕ). refuses o count r) has.replicas ∙ is

  -- a ring is made
  pub rings : (count r : ℕ) (nodes : NodesState) (output : List ℕ) → is_refused_ring w count r ≡ false → nat_le count 256 ≡ true → AreSettled (in_ring_order (first_peers count)) r (first_peers count) nodes.nodes
      → nodes.asked ≡ s.nodes.asked → nodes.lost ≡ s.nodes.lost → output ≡ []
      → (next : World) × RingLine w count r (Goes next output) × GoesOn w (record s { replicas = Some r; nodes = nodes }) next
  rings count r nodes output taken few settled asked lost nothing =
      let next : World = record w { replicas = Some r; nodes = nodes.nodes } in (
        next,
        subst (λ (o : List ℕ). RingLine w count r (Goes next o)) (sym nothing) (makes nodes.nodes taken few settled),
        (
          record {
            replicas = refl;
            nodes = (refl, has.nodes.1 ∙ sym asked, has.nodes.2 ∙ sym lost);
            participants = has.participants;
            views = has.views;
            replies = has.replies;
            moment = has.moment;
            met = has.met;
          },
          refl,
        ),
      )

  -- the moment is set
  pub sets : (sec nsec : ℕ) (now : Moment) (output : List ℕ) → nat_lt sec 4294967296 ≡ true → nat_lt nsec 1000000000 ≡ true → now.sec ≡ sec → now.nsec ≡ nsec → output ≡ []
      → (next : World) × (Goes next output ≡ at_line w sec nsec) × GoesOn w (record s { moment = now }) next
  sets sec nsec now output low small sec_is nsec_is nothing =
      let next : World = record w { now = record { sec = sec; nsec = nsec } } in (
        next,
        ap (λ (o : List ℕ). Goes next o) nothing ∙ sym (cond-true (nat_lt sec 4294967296 && nat_lt nsec 1000000000) (Goes next []) Refuses (λ i. low i && small i)),
        (
          record {
            replicas = has.replicas;
            nodes = has.nodes;
            participants = has.participants;
            views = has.views;
            replies = has.replies;
            moment = λ i. record { sec = sym sec_is i; nsec = sym nsec_is i };
            met = has.met;
          },
          refl,
        ),
      )
