-- What was acknowledged to a round's own puts: the node that puts it held it, so all owners hold it after the round, and a get gives it.
use Rattle.std.proofs.Common.{◌≡◌, inl, inr, ℕ, ◌≤◌, Bool, true, false, cond, List, [], ◌∷◌, length, Option, Some, refl, sym, ap, ◌∙◌, subst, arith, le_refl, option_map}
use Rattle.ivy_base.specs.declared.key.Key.{Key}
use Rattle.ring_model.specs.Blocks.{AreMoved, IsAtLeast}
use Rattle.ring_model.specs.Circle.{number}
use Rattle.ring_model.specs.Members.{IsAmong, owners}
use Rattle.ring_model.specs.Ring.{Links, IsSettledRing}
use Rattle.ring_model.proofs.Blocks.{owners_hold}
use Rattle.dht_ids.specs.Peers.{place}
use Rattle.dht_ids.specs.declared.peer.Peer.{Peer}
use Rattle.dht_ids.specs.declared.post.Post.{Post}
use Rattle.dhash_model.specs.Signed.{hss_judged}
use Rattle.dhash_model.specs.Stores.{Block, Blocks}
use Rattle.dhash_model.specs.declared.kind.BlockKind.{BlockKind}
use Rattle.dhash_model.specs.declared.kind.BlockKind.TheVariants.{Content, Head}
use Rattle.agent_model.specs.Agent.{is_head}
use Rattle.session_model.specs.Sessions.{put_question}
use Rattle.world_model.specs.Logs.{Played}
use Rattle.world_model.specs.World.{World}
use Rattle.world_model.specs.Ring.{live_in_order}
use Rattle.world_model.specs.Rounds.{EachDoes, IsRoundOf, PutsAll, PutsAround, Repairs, question_as}
use Rattle.world_model.specs.Rounds.EachDoes.{done, next as then_does}
use Rattle.world_model.specs.Rounds.PutsAll.{done as all_put, keeps, drops}
use Rattle.world_model.specs.Rounds.PutsAround.{no_route, puts}
use Rattle.world_model.specs.Holding.{block_rank, held_in}
use Rattle.round_laws.specs.RingOf.{AreNodes, IsSettledIn, LosesNone, links_in}
use Rattle.round_laws.proofs.Growing.{of_each, of_repairs}
use Rattle.round_laws.proofs.Holding.{held_at, node_is}
use Rattle.round_laws.proofs.Moving.{all_moved}
use Rattle.round_laws.proofs.Nodes.{Shape, lives_by, made_by, order_by, order_shape}
use Rattle.round_laws.proofs.Order.{lives_made, order_lives}
use Rattle.round_laws.proofs.Rounding.{base_of, leaves_who_lives, rounded_from, shapes_of, within_of}
use Rattle.round_laws.proofs.Settling.{length_made, settled_by}
use Rattle.round_laws.proofs.Standing.{IsBase, lives_are, peer_or_not, stands}
use Rattle.round_laws.proofs.Untouched.{parts_untouched}
use Rattle.calm_laws.specs.Calm.{IsCalmAt, Since, Stopped, held_rank}
use Rattle.calm_laws.specs.Laws.{IsWithinLimit}
use Rattle.calm_laws.specs.Readable.{IsAckedAmong, IsAckedPut, IsAckedInPart, PutInRoundsIsReadable}
use Rattle.calm_laws.proofs.CalmHeld.{post_rank_is}
use Rattle.calm_laws.proofs.CalmPuts.{IsHeldFor, block_of, kind_of, question_is}
use Rattle.calm_laws.proofs.CalmRounds.{loses_none}
use Rattle.calm_laws.proofs.BlockKinds.{AreApart, IsOf, OfContent, is_met, one_kind}
use Rattle.calm_laws.proofs.Rooms.{each_found}
use Rattle.calm_laws.proofs.Holding.{AreOrderly, orderly_untouched}
use Rattle.calm_laws.proofs.Repairs.{IsRepairing, all_repaired, repaired}
use Rattle.calm_laws.proofs.Moved.{AfterRound, held_of, is_in, is_in_tells}
use Rattle.calm_laws.proofs.Facts.{HasFacts, ring_in, standing}
use Rattle.calm_laws.proofs.Worlds.{HoldsAll, state_holds, stretch}
use Rattle.calm_laws.proofs.Changes.{held_as, owner_then, round_more, rounded, then_facts}
use Rattle.calm_laws.proofs.Given.{block_is_given, head_is_given, one_of_name}
use Rattle.calm_laws.proofs.Runs.{apart_at, facts_at, state_at}
use Rattle.calm_laws.proofs.Stretches.{IsRingOf, Stretch, own}

-- ---- what is put is of the node's blocks

same_question : (a b : BlockKind) (j k : Key) (x y : List ℕ) → question_as a j x ≡ question_as b k y → (a ≡ b) × (j ≡ k) × (x ≡ y)
same_question Content Content j k x y e = (refl, cc e, cc e)
same_question Content Head j k x y e = absurd cc
same_question Head Content j k x y e = absurd cc
same_question Head Head j k x y e = (refl, cc e, cc e)

-- the block under its key is that of the post
abbrev IsPut : Post → Key × Block → Type 0
IsPut p f = question_as f.1.kind f.0 f.1.bytes ≡ put_question p

module _ {r : ℕ} (p : Post) where
  is_put : {from : Peer} {key : Key} {block : Block} {w after : World} {dropped : Bool} (x : PutsAround hss_judged from r key block w dropped after) → IsAckedPut p x → IsPut p (key, block)
  is_put (no_route found last looks nobody) h = absurd h
  is_put (puts q qs asks mid last acknowledged dropping looks put own fates goes) h = h.0

  among_blocks : {from : Peer} {blocks : Blocks} {w after : World} {dropped : List Key} (x : PutsAll hss_judged from r blocks w dropped after) → IsAckedAmong p x → (f : Key × Block) × IsAmong f blocks × IsPut p f
  among_blocks all_put h = absurd h
  among_blocks (keeps {key = key} {block = block} one rest) (inl h) = ((key, block), inl refl, is_put one h)
  among_blocks (keeps one rest) (inr h) = let later = among_blocks rest h in (later.0, inr later.1, later.2)
  among_blocks (drops {key = key} {block = block} one rest) (inl h) = ((key, block), inl refl, is_put one h)
  among_blocks (drops one rest) (inr h) = let later = among_blocks rest h in (later.0, inr later.1, later.2)

-- ---- owners hold it after the round

-- the post may stand under its key, and each owner holds it, or a newer head
record IsLeft (end next : World) (order : List Peer) (r : ℕ) (p : Post) : Type 0 where
  of : IsOf end p.key (kind_of p) p.bytes
  held : (m : Peer) → IsAmong m (owners place r order (number p.key)) → IsAtLeast (block_rank hss_judged p.key (block_of p)) (held_rank next p.key m)

least_some : (key : Key) (o : Option Block) (c : Block) (v : ℕ) → o ≡ Some c → v ≤ block_rank hss_judged key c → IsAtLeast v (option_map (block_rank hss_judged key) o)
least_some key o c v e l = subst (λ x. IsAtLeast v (option_map (block_rank hss_judged key) x)) (sym e) l

module _ (r : ℕ) (base : List Shape) (planned : List ℕ) (start last : ℕ) (b : IsBase r base planned start last) (links : Peer → Links Peer)
    (settled : IsSettledRing place r 160 (order_by base) (lives_by base) links) (few : length (made_by base) ≤ 512) (end : World) (apart : AreApart end) (room : IsWithinLimit end) where
  abbrev IsRepaired : World → Type 0
  IsRepaired w = IsRepairing r base planned start last b links settled few end apart room w

  put_is_left : (w next : World) (ps : List Peer) → IsRepaired w → ((q : Peer) → IsAmong q ps → lives_by base q ≡ true) → (x : EachDoes (Repairs hss_judged r) w ps next) → next.asked ≤ last → (p : Post) → IsAckedInPart p x → IsLeft end next (order_by base) r p
  put_is_left w next [] h lives done quiet p acked = absurd acked
  put_is_left w next (q ∷ ps) h lives (then_does {mid = mid} first rest) quiet p (inr acked) =
      let grown = of_each hss_judged (Repairs hss_judged r) (λ v u z f. of_repairs hss_judged r v u z f) mid next ps rest in
      let f = repaired r base planned start last b links settled few end apart room q w mid h (lives q (inl refl)) first (omega (arith, quiet, grown.1)) in
      put_is_left mid next ps f.1 (λ z i. lives z (inr i)) rest quiet p acked
  put_is_left w next (q ∷ ps) h lives (then_does {mid = mid} first rest) quiet p (inl acked) = record {
    of = is.1;
    held = λ m i. owners_hold (is_in own_now) peer_or_not v moved (inr (q, inl refl, least_some p.key (held_in w p.key q) block v is.0 (le_refl v))) m ((is_in_tells own_now m).1 i);
  }
    where
      own_now : List Peer
      own_now = owners place r (order_by base) (number p.key)

      block : Block
      block = block_of p

      v : ℕ
      v = block_rank hss_judged p.key block

      is : (held_in w p.key q ≡ Some block) × IsOf end p.key (kind_of p) p.bytes
      is =
          let found = among_blocks p first.puts acked in
          let same = same_question found.0.1.kind (kind_of p) found.0.0 p.key found.0.1.bytes p.bytes (found.2 ∙ question_is p) in
          let before = h.orderly q.id first.before first.is_before in
          let me = (stands hss_judged r base planned start last b w q first.before h.within (lives_made base q (lives q (inl refl))) first.is_before).me in
          let same_block : found.0.1 ≡ block = λ i. record { kind = same.0 i; bytes = same.2 i } in
          let is_held : held_in w found.0.0 q ≡ Some found.0.1 = ap (held_at found.0.0) (node_is w q first.before first.is_before me) ∙ each_found first.before.blocks before.sorted found.0 found.1 in
          let held_here : held_in w p.key q ≡ Some block = subst (λ k. held_in w k q ≡ Some block) same.1 (is_held ∙ ap (λ x. Some x) same_block) in
          (held_here, held_of end w p.key q block h.orderly held_here)

      moved : AreMoved (is_in own_now) (q ∷ ps) (held_rank w p.key) (held_rank next p.key)
      moved = all_moved hss_judged r base planned start last b links settled few p.key (is_in own_now) (is_in_tells own_now) w next (q ∷ ps)
          (record {
            within = h.within;
            linked = h.linked;
            kinds = λ k x y c d e f. one_kind end apart k c.kind d.kind c.bytes d.bytes (held_of end w k x c h.orderly e) (held_of end w k y d h.orderly f);
            sorted = λ id n e. (h.orderly id n e).sorted;
          }) lives (then_does {mid = mid} first rest) (all_repaired r base planned start last b links settled few end apart room w next (q ∷ ps) h lives (then_does {mid = mid} first rest) quiet).0 quiet

put_left : (r : ℕ) (end w next : World) → AreNodes r w → length w.nodes ≤ 512 → IsSettledIn next r → AreApart end → IsWithinLimit end → AreOrderly end w → LosesNone w next → (x : IsRoundOf hss_judged r w next) → (p : Post) → IsAckedInPart p x.repairs
    → IsLeft end next (order_by (shapes_of w)) r p
put_left r end w next h few settled apart room orderly quiet x p acked =
    let base = base_of r w next.asked h quiet in
    let round = rounded_from hss_judged r w next next.asked h quiet x in
    let stays = leaves_who_lives hss_judged r w next h x in
    let lives = stays.1 ∙ lives_are hss_judged r (shapes_of w) w.lost w.asked next.asked base w (within_of r w h) in
    let ring = settled_by r next (order_by (shapes_of w)) (lives_by (shapes_of w)) (links_in x.three) (stays.2 ∙ order_shape w) lives round.linked settled in
    let size = length_made w.nodes in
    put_is_left r (shapes_of w) w.lost w.asked next.asked base (links_in x.three) ring (omega (arith, few, size)) end apart room x.three next (live_in_order w)
    (record { within = round.within_three; linked = refl; orderly = orderly_untouched end w x.three (parts_untouched hss_judged r w next x) orderly })
    (λ q i. order_lives (shapes_of w) q base.apart (subst (IsAmong q) (order_shape w) i)) x.repairs (le_refl next.asked) p acked

-- ---- and it can be read

named_so : (end : World) (p : Post) → IsOf end p.key (kind_of p) p.bytes → is_head p.kind ≡ false → OfContent end p.key p.bytes
named_so end p of content = subst (λ k. IsOf end p.key k p.bytes) (ap (λ b. cond b Head Content) content) of

pub puts_in_rounds_are_readable : (r : ℕ) (w : Played) (since : Since) (lines : List (List ℕ)) (next : World) → IsCalmAt r w since lines → IsWithinLimit w.0 → PutInRoundsIsReadable r w.0 next
puts_in_rounds_are_readable r w since lines next calm room x p acked = record {
  held = (
    owner.0,
    subst (λ l. IsAmong owner.0 (owners place r l (number p.key))) (sym (order_shape next)) owner.1,
    subst (λ v. IsAtLeast v (held_rank next p.key owner.0)) (sym (post_rank_is p)) (least owner.0 owner.1),
  );
  block = λ content. block_is_given on next still after.orderly p owner.0 owner.1 holds (named_so w.0 p left.of content) (one_of_name w.0 calm.apart p.key p.bytes (named_so w.0 p left.of content)) content;
  head = λ head. head_is_given on next still after.orderly p owner.0 owner.1 holds head;
}
  where
    facts : HasFacts r w.0 since
    facts = facts_at r w since lines calm

    apart : AreApart w.0
    apart = apart_at r w since lines calm

    before : HoldsAll w.0 w.1
    before = state_holds r w.0 w.1 since (state_at r w since lines calm)

    then : HasFacts r next (Stopped 0)
    then = then_facts r w.0 next w.1 since facts x

    after : AfterRound r w.0 w.0 next
    after = rounded r w.0 next w.1 since facts x apart room before.orderly

    on : Stretch
    on = stretch r (shapes_of next) (links_in next) next.asked 0 (standing r 0 next then) w.0 apart

    still : IsRingOf on next
    still = ring_in r next then.has

    left : IsLeft w.0 next (order_by (shapes_of w.0)) r p
    left = let few = facts.has.few in put_left r w.0 w.0 next facts.has.nodes (omega (arith, few)) (then.is_since.now refl) apart room before.orderly (loses_none w.0 next facts.has.none_lost) x p acked

    owner : (m : Peer) × IsAmong m (own on p.key)
    owner = owner_then r w.0 next w.1 since facts x p.key

    same_order : order_by (shapes_of next) ≡ order_by (shapes_of w.0)
    same_order = sym (order_shape next) ∙ (leaves_who_lives hss_judged r w.0 next facts.has.nodes x).2 ∙ order_shape w.0

    least : (m : Peer) → IsAmong m (own on p.key) → IsAtLeast (block_rank hss_judged p.key (block_of p)) (held_rank next p.key m)
    least m i = left.held m (subst (λ l. IsAmong m (owners place r l (number p.key))) same_order i)

    holds : IsHeldFor next p owner.0
    holds = record {
      held = held_as r w.0 next w.1 since facts x apart after.orderly p.key (kind_of p) p.bytes left.of (block_rank hss_judged p.key (block_of p)) owner.0 (least owner.0 owner.1);
      met = (round_more r w.0 next w.1 since facts x).met p.bytes (is_met w.0 p.key (kind_of p) p.bytes left.of);
      named = λ content. (named_so w.0 p left.of content).1;
    }
