-- A node that is asked to hold a post that was met, and that fits its key, holds it then, or a head that is newer.
use Rattle.std.proofs.Common.{◌≡◌, ℕ, ◌+◌, ◌≤◌, Bool, true, false, cond, List, [], Option, Some, None, refl, sym, ap, ◌∙◌, subst, nat_le, length, Contains}
use Rattle.std.specs.Prelude.{is_some, sum_by}
use Rattle.std.specs.Option.{option_or}
use Rattle.ivy_base.specs.declared.key.Key.{Key}
use Rattle.ivy_base.specs.Naming.{name}
use Rattle.round_laws.proofs.Nodes.{ties}
use Rattle.ring_model.proofs.Lists.{some_same}
use Rattle.dhash_model.specs.Signed.{hss_judged}
use Rattle.log_model.proofs.Lists.{in_nothing}
use Rattle.dht_ids.specs.declared.ask.Answer.{Answer}
use Rattle.dht_ids.specs.declared.ask.Ask.{Ask}
use Rattle.dht_ids.specs.declared.ask.Ask.TheVariants as ask
use Rattle.dht_ids.specs.declared.ask.StoreFault.{StoreFault}
use Rattle.dht_ids.specs.declared.ask.StoreFault.TheVariants.{Older, WrongName}
use Rattle.dht_ids.specs.declared.judge.Judged.{Judged}
use Rattle.dht_ids.specs.declared.peer.Peer.{Peer}
use Rattle.dht_ids.specs.declared.post.Post.{Post}
use Rattle.dhash_model.specs.Puts.{holds}
use Rattle.dhash_model.specs.Stores.{content, content_fault, full, head, not_judged, number_at, older}
use Rattle.agent_model.specs.Agent.{is_head}
use Rattle.session_model.specs.Sessions.{put_question}
use Rattle.world_model.specs.Nodes.{Node, answered, stored}
use Rattle.world_model.specs.Fates.{FateOf}
use Rattle.world_model.specs.Fates.FateOf.{answers, lost, stopped}
use Rattle.world_model.specs.Logs.{Played}
use Rattle.world_model.specs.Step.{most_bytes}
use Rattle.world_model.specs.World.{World, node_at}
use Rattle.calm_laws.specs.Completeness.{FitsItsKey, LivePutsAreTaken}
use Rattle.calm_laws.proofs.Standing.{IsCalmWorld, calm_world}
use Rattle.calm_laws.proofs.StoreRoom.{room_at}

module _ (n : Node) (key : Key) (bytes : List ℕ) where
  pub content_taken : name bytes ≡ key → full key (content bytes) n.blocks ≡ None → holds (answered hss_judged n (ask.PutBlock key bytes)).0 ≡ true
  content_taken named room = ap (λ f. holds (stored n key (content bytes) f).0) fault
    where
      fault : content_fault key bytes n.blocks ≡ None
      fault = ap (λ b. option_or (cond b None (Some WrongName)) (full key (content bytes) n.blocks)) (ties key (name bytes) (sym named)) ∙ room

  pub head_taken : is_some (hss_judged key bytes) ≡ true → full key (head bytes) n.blocks ≡ None → holds (answered hss_judged n (ask.PutHead key bytes)).0 ≡ true
  head_taken judged room = by (hss_judged key bytes) (number_at hss_judged key n.blocks) judged
    where
      stored_so : (f : Option StoreFault) → f ≡ None → holds (stored n key (head bytes) f).0 ≡ true
      stored_so f e = ap (λ (g : Option StoreFault). holds (stored n key (head bytes) g).0) e

      newer : (b : Bool) (seq : ℕ) → holds (stored n key (head bytes) (option_or (cond b (Some (Older seq)) None) (full key (head bytes) n.blocks))).0 ≡ true
      newer true seq = refl
      newer false seq = stored_so (full key (head bytes) n.blocks) room

      by : (o : Option Judged) (m : Option ℕ) → is_some o ≡ true → holds (stored n key (head bytes) (option_or (not_judged o) (option_or (older m o) (full key (head bytes) n.blocks)))).0 ≡ true
      by None m e = cc e
      by (Some j) None e = stored_so (full key (head bytes) n.blocks) room
      by (Some j) (Some seq) e = newer (nat_le j.seq seq) seq

pub post_taken : (n : Node) (p : Post) → FitsItsKey p → full p.key (content p.bytes) n.blocks ≡ None → full p.key (head p.bytes) n.blocks ≡ None → holds (answered hss_judged n (put_question p)).0 ≡ true
post_taken n p fits content_room head_room = by (is_head p.kind) refl
  where
    by : (b : Bool) → is_head p.kind ≡ b → holds (answered hss_judged n (cond b (ask.PutHead p.key p.bytes) (ask.PutBlock p.key p.bytes))).0 ≡ true
    by true e = head_taken n p.key p.bytes (fits.head e) head_room
    by false e = content_taken n p.key p.bytes (fits.content e) content_room

-- a node that lives answers
who_lives : {w next : World} {to : Peer} {question : Ask} {given : Answer} → FateOf hss_judged w to question given next → w.lost ≡ [] → (n : Node) → node_at w to.id ≡ Some n → n.is_live ≡ true → given ≡ (answered hss_judged n question).0
who_lives {w = w} (lost l) none n at live = absurd (in_nothing (w.asked + 1) (subst (λ ks. Contains ks (w.asked + 1)) none l))
who_lives (stopped m l e dead) none n at live = let no : true ≡ false = sym live ∙ ap (λ (x : Node). x.is_live) (some_same n m (sym at ∙ e)) ∙ dead in absurd cc
who_lives {question = question} (answers m l e alive) none n at live = ap (λ (x : Node). (answered hss_judged x question).0) (some_same m n (sym e ∙ at))

module _ (r : ℕ) (w : Played) (world : IsCalmWorld r w) (p : Post) (fits : sum_by (λ b. length b) w.0.met ≤ most_bytes) (met : Contains w.0.met p.bytes) (good : FitsItsKey p) where
  taken_at : (id : Key) (n : Node) (given : Answer) → node_at w.0 id ≡ Some n → given ≡ (answered hss_judged n (put_question p)).0 → holds given ≡ true
  taken_at id n given at is = ap holds is ∙ post_taken n p good (room_at w world.keeps world.state.good.orderly id n p.key (content p.bytes) fits at met) (room_at w world.keeps world.state.good.orderly id n p.key (head p.bytes) fits at met)

pub live_puts_are_taken : LivePutsAreTaken
live_puts_are_taken r w next count lines p to n given calm fits met good at live fate =
    let world = calm_world r w count lines calm in
    taken_at r w world p fits met good to.id n given at (who_lives fate world.state.still.within.losses n at live)
