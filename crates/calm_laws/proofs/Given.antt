-- A get gives what an owner holds; so in calm scripts it gives what was acknowledged.
use Rattle.std.proofs.Common.{◌≡◌, inl, inr, ℕ, true, false, List, cond, ◌++◌, refl, sym, ap, ◌∙◌, subst, Contains}
use Rattle.std.proofs.lemmas.List.Elements.{Contains-append_left}
use Rattle.ivy_base.specs.declared.key.Key.{Key}
use Rattle.ivy_base.specs.Naming.{IsCollisionFree}
use Rattle.ring_model.specs.Members.{IsAmong}
use Rattle.ring_model.proofs.Lists.{all-both}
use Rattle.dhash_model.specs.Signed.{hss_judged}
use Rattle.dhash_model.specs.Execution.{Told, told_all}
use Rattle.dhash_model.specs.GetBlock.{IsGetOfBlock}
use Rattle.dhash_model.specs.GetHead.{IsGetOfHead}
use Rattle.dhash_model.specs.declared.kind.BlockKind.{BlockKind}
use Rattle.dhash_model.specs.declared.kind.BlockKind.TheVariants.{Content, Head}
use Rattle.dht_ids.specs.declared.ask.Ask.TheVariants as ask
use Rattle.dht_ids.specs.declared.peer.Peer.{Peer}
use Rattle.dht_ids.specs.declared.post.Post.{Post}
use Rattle.agent_model.specs.Agent.{is_head}
use Rattle.world_model.specs.World.{World, named_bytes}
use Rattle.world_model.specs.Fates.{Fates, asking}
use Rattle.world_model.specs.Logs.{Played}
use Rattle.world_model.specs.Holding.{block_rank}
use Rattle.calm_laws.specs.Calm.{IsCalmAt, Stopped, post_rank}
use Rattle.calm_laws.specs.Readable.{GetsGiveBlock, GetsGiveHead}
use Rattle.calm_laws.proofs.CalmHeld.{post_rank_is}
use Rattle.calm_laws.proofs.CalmNodes.{IsHeld}
use Rattle.calm_laws.proofs.CalmPuts.{IsHeldFor, block_of, kind_of}
use Rattle.calm_laws.proofs.BlockKinds.{OfContent}
use Rattle.calm_laws.proofs.Holding.{AreOrderly}
use Rattle.calm_laws.proofs.Stretches.{IsAckHeld, IsRingOf, Stretch, own}
use Rattle.calm_laws.proofs.Lines.{entries_are}
use Rattle.calm_laws.proofs.Commands.{fates_split}
use Rattle.calm_laws.proofs.Gets.{AreGot, IsOwnedAs, block_given, gets_go, head_given}
use Rattle.calm_laws.proofs.Worlds.{IsStanding, acked_on, on}
use Rattle.calm_laws.proofs.Runs.{state_at}

-- ---- what an owner holds is given

module _ (ring : Stretch) (w : World) (still : IsRingOf ring w) (orderly : AreOrderly ring.end w) (p : Post) (owner : Peer) (owns : IsAmong owner (own ring p.key)) (holds : IsHeldFor w p owner) where
  owned : (kind : BlockKind) → kind_of p ≡ kind → IsOwnedAs ring w p.key kind (post_rank p)
  owned kind e = record {
    owner = owner;
    owns = owns;
    holds = subst (λ v. IsHeld w p.key kind v owner) (sym (post_rank_is p)) (subst (λ k. IsHeld w p.key k (block_rank hss_judged p.key (block_of p)) owner) e holds.held);
  }

  got : (next : World) (looks asks : Told) → Fates hss_judged w (asking (ask.Route p.key) looks ++ asking (ask.Get p.key) asks) next → AreGot ring w (told_all (ask.Route p.key) looks ++ told_all (ask.Get p.key) asks)
  got next looks asks fates =
      let parts = fates_split ring (ask.Route p.key) looks (asking (ask.Get p.key) asks) (asking (ask.Route p.key) looks ++ asking (ask.Get p.key) asks) w next refl fates in
      let one = gets_go ring (ask.Route p.key) p.key (inl refl) looks (asking (ask.Route p.key) looks) w w parts.0 refl parts.1 still orderly (λ key kind least m i. i) in
      let other = gets_go ring (ask.Get p.key) p.key (inr refl) asks (asking (ask.Get p.key) asks) w parts.0 next refl parts.2 one.still one.orderly one.held in
      all-both _ (told_all (ask.Route p.key) looks) (told_all (ask.Get p.key) asks) one.got other.got

  pub block_is_given : OfContent ring.end p.key p.bytes → ((b : List ℕ) → OfContent ring.end p.key b → b ≡ p.bytes) → is_head p.kind ≡ false → GetsGiveBlock ring.r w p
  block_is_given of one content next looks asks came fates get =
      block_given ring w w p.key (post_rank p) p.bytes (told_all (ask.Route p.key) looks ++ told_all (ask.Get p.key) asks) came
      (owned Content (ap (λ b. cond b Head Content) content)) still (got next looks asks fates) of one
      (subst (λ es. IsGetOfBlock p.key ring.r es (told_all (ask.Route p.key) looks ++ told_all (ask.Get p.key) asks) came) (entries_are ring w still) get)

  pub head_is_given : is_head p.kind ≡ true → GetsGiveHead ring.r w p
  head_is_given head next looks asks came fates get =
      let given = head_given ring w w p.key (post_rank p) (told_all (ask.Route p.key) looks ++ told_all (ask.Get p.key) asks) came
      (owned Head (ap (λ b. cond b Head Content) head)) still (got next looks asks fates)
      (subst (λ es. IsGetOfHead (hss_judged p.key) p.key ring.r es (told_all (ask.Route p.key) looks ++ told_all (ask.Get p.key) asks) came) (entries_are ring w still) get) in
      (given.heads, given.one, given.came_is, given.among, given.newer)

-- ---- what was acknowledged is given

held : (r count : ℕ) (w : Played) (s : IsStanding r count w.0 w.1) (p : Post) → Contains w.1.acked p → IsAckHeld (on r count w s) w.0 p
held r count w s p acked = acked_on r count w s p acked

-- where no names collide, one block that was met has the name
pub one_of_name : (w : World) → IsCollisionFree (named_bytes w) → (key : Key) (x : List ℕ) → OfContent w key x → (b : List ℕ) → OfContent w key b → b ≡ x
one_of_name w apart key x of b other = apart b x (Contains-append_left w.met _ b other.0) (Contains-append_left w.met _ x of.0) (other.1 ∙ sym of.1)

pub blocks_are_given : (r : ℕ) (w : Played) (count : ℕ) (lines : List (List ℕ)) (p : Post) → IsCalmAt r w (Stopped count) lines → Contains w.1.acked p → is_head p.kind ≡ false → GetsGiveBlock r w.0 p
blocks_are_given r w count lines p calm acked content =
    let s = state_at r w (Stopped count) lines calm in
    let a = held r count w s p acked in
    let of : OfContent w.0 p.key p.bytes = (a.holds.met, a.holds.named content) in
    block_is_given (on r count w s) w.0 s.still s.good.orderly p a.owner a.owns a.holds of (one_of_name w.0 calm.apart p.key p.bytes of) content

pub heads_are_given : (r : ℕ) (w : Played) (count : ℕ) (lines : List (List ℕ)) (p : Post) → IsCalmAt r w (Stopped count) lines → Contains w.1.acked p → is_head p.kind ≡ true → GetsGiveHead r w.0 p
heads_are_given r w count lines p calm acked head =
    let s = state_at r w (Stopped count) lines calm in
    let a = held r count w s p acked in
    head_is_given (on r count w s) w.0 s.still s.good.orderly p a.owner a.owns a.holds head
