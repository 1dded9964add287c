-- The blocks met are bytes, and a line leaves that so.
use Rattle.std.proofs.Common.{◌≡◌, inl, ℕ, zero, suc, ◌+◌, Bool, true, false, cond, List, [], ◌∷◌, ◌++◌, length, map, fold, Option, Some, None, refl, sym, ap, subst, arith, Contains}
use Rattle.std.specs.Prelude.{IsTrue, flat_map, is_some, nat_lt, option_and_then, slice_set}
use Rattle.std.specs.List.{AllByRecursion, list_all, list_any}
use Rattle.std.specs.Str.{bytes_eq}
use Rattle.std.specs.FinMap.Entries.{find as value_at, put}
use Rattle.std.specs.Ordering.{eq_by_cmp}
use Rattle.ivy_base.specs.declared.key.Key.{Key}
use Rattle.ivy_base.specs.declared.key.PubKey.{PubKey}
use Rattle.ivy_base.specs.Naming.{key_cmp}
use Rattle.wire_model.specs.Xdr.{array, word}
use Rattle.tree_model.proofs.Sound.{both_true}
use Rattle.ring_model.proofs.Lists.{all-among}
use Rattle.round_laws.proofs.Rounding.{leaves_the_rest}
use Rattle.log_model.proofs.Lists.{both, each, each_append, each_from}
use Rattle.log_model.specs.Record.{Record}
use Rattle.log_model.specs.View.{View, view_block, view_tag}
use Rattle.log_model.specs.ViewKeys.{IsPubKey}
use Rattle.turn_laws.proofs.Octets.{AreOctets, a_word, joined, no_octets}
use Rattle.dht_ids.specs.declared.post.Post.{Post}
use Rattle.dhash_model.specs.Signed.{hss_judged}
use Rattle.dhash_model.specs.Stores.{Block, Blocks, bytes_at, spoiled, with_byte}
use Rattle.node_store.proofs.Held.{put_is_held}
use Rattle.agent_model.specs.SavedBytes.{ArePostsSpelled}
use Rattle.session_model.specs.Sessions.{Said}
use Rattle.script_driver.specs.Run.{Ends, Exceeds, Goes, Outcome, Refuses}
use Rattle.script_model.specs.declared.command.Command.{Command}
use Rattle.script_model.specs.declared.command.Command.TheVariants as command
use Rattle.script_model.specs.declared.command.KeyWord.{KeyWord}
use Rattle.script_model.specs.declared.command.NodeWord.{NodeWord}
use Rattle.script_model.specs.Lines.{command_of}
use Rattle.world_model.specs.Agents.{hss_opened}
use Rattle.world_model.specs.Calls.{replied}
use Rattle.world_model.specs.Faults.{damage_by, damage_line, damaged_to, key_named, meets_some, node_named}
use Rattle.world_model.specs.Keepers.{fails_next}
use Rattle.world_model.specs.Logs.{Played, beside, fresh_signer, in_key_order, with_view}
use Rattle.world_model.specs.Nodes.{Node}
use Rattle.world_model.specs.Ring.{JoinLine, RingLine, stop_line}
use Rattle.world_model.specs.Ring.JoinLine.{alone as join_alone, before_ring as join_before_ring, exceeds as join_exceeds, fails as join_fails, joins as join_joins, known as join_known}
use Rattle.world_model.specs.Ring.RingLine.{exceeds as ring_exceeds, makes as ring_makes, refused as ring_refused}
use Rattle.world_model.specs.Rounds.{RoundLine}
use Rattle.world_model.specs.Rounds.RoundLine.{before_ring as round_before_ring, goes as round_goes}
use Rattle.world_model.specs.Step.{Does}
use Rattle.world_model.specs.Steps.{Configuration}
use Rattle.world_model.specs.World.{Participant, World, meets, with_node}
use Rattle.world_laws.specs.Effects.{Effect, IsRingCommand, LaterEffect, Plays, Renews, Touches}
use Rattle.world_laws.specs.Effects.Effect.{comes, loses, makes_view, of_nodes, opens, plays, renews, shows, times, touches}
use Rattle.world_laws.specs.Effects.LaterEffect.{publishes, replies}
use Rattle.world_laws.specs.Effects.Plays.{calls, ends, steps}
use Rattle.world_laws.specs.Effects.Renews.{enters, starts_again}
use Rattle.world_laws.specs.Effects.Touches.{fails, plans, snaps, unable}
use Rattle.world_laws.specs.FullRuns.{HasFewPosts, PublishFew}
use Rattle.world_laws.specs.FullTurns.{AreBytes}
use Rattle.world_laws.specs.Invariant.{IsKeptSo, IsSavedWell, Invariant}
use Rattle.world_laws.specs.Moves.{Move}
use Rattle.world_laws.specs.Moves.Move.{asks, hears, lacks, settles, takes, turns}
use Rattle.world_laws.specs.SnapRoom.{EmptyMetBytes, MetBytes, MetBytesCome}
use Rattle.world_laws.proofs.AllLines.{does_line}
use Rattle.world_laws.proofs.Effects.{by_effects, lines_have_effects, played_moves}
use Rattle.world_laws.proofs.LastingLines.{AllLast, effect_lasts, found_lasting, later_lasts, move_lasting}
use Rattle.world_laws.proofs.LineFits.{Fits, FitsWholly, command_fits, command_fits_wholly}
use Rattle.world_laws.proofs.Lines.{named_among}
use Rattle.world_laws.proofs.LogLines.{kept_whole}
use Rattle.world_laws.proofs.MadeViews.{each_in_order}
use Rattle.world_laws.proofs.Moves.{all_moves, runs_move}
use Rattle.world_laws.proofs.NodeFates.{HoldsMet, fate_rest}
use Rattle.world_laws.proofs.RingLines.{fates_rest}
use Rattle.world_laws.proofs.Rooms.{HasSpace, space_lasts, space_snaps}
use Rattle.world_laws.proofs.ViewLines.{own_keys}
use Rattle.agent_model.specs.Agent.{kept_of}

abbrev AllBytes : List (List ℕ) → Type 0
AllBytes bs = AllByRecursion AreBytes bs

-- ---- one more

one_more : (met : List (List ℕ)) (b : List ℕ) → AllBytes met → AreBytes b → AllBytes (meets met b)
one_more met b h one = by (list_any (bytes_eq b) met)
  where
    by : (t : Bool) → AllBytes (cond t met (met ++ b ∷ []))
    by true = h
    by false = each_append AreBytes met (b ∷ []) h (one, tt)

some_more : (met bs : List (List ℕ)) → AllBytes met → AllBytes bs → AllBytes (fold meets met bs)
some_more met [] h more = h
some_more met (b ∷ bs) h more = some_more (meets met b) bs (one_more met b h more.0) more.1

abbrev their_bytes : List Post → List (List ℕ)
their_bytes posts = map (λ (p : Post). p.bytes) posts

spelled_bytes : (posts : List Post) → ArePostsSpelled posts → AllBytes (their_bytes posts)
spelled_bytes [] h = tt
spelled_bytes (p ∷ posts) h = (h.each.0.2.1, spelled_bytes posts (record { few = let few = h.few in omega (arith, few); each = h.each.1 }))

same_met : (w next : World) → next.met ≡ w.met → MetBytes w → MetBytes next
same_met w next same h = subst AllBytes (sym same) h

-- ---- sessions

module _ (r : ℕ) (name : List ℕ) where
  abbrev Fine : Configuration → Type 0
  Fine c = MetBytes c.world × AllLast HasSpace space_lasts c.world.participants

  met_moved : (c next : Configuration) → Move hss_judged r name c next → Fine c → MetBytes next.world
  met_moved c _ (takes p taken cache is taking) h = h.0
  met_moved c _ (asks node question answer next fate) h = same_met c.world next (ap (λ (v : World). v.met) (fate_rest fate)) h.0
  met_moved c _ (hears p node question answer next heard t cache is fate hearing goes) h = same_met c.world next (ap (λ (v : World). v.met) (fate_rest fate)) h.0
  met_moved c _ (lacks t lacking) h = h.0
  met_moved c _ (turns p view end after saving t work ghost_state began is in_view taking told) h =
      let space : HasSpace p.agent p.keeper = found_lasting HasSpace space_lasts c.world name p is h.1 in
      let then_so = space_lasts.turns c.world.now p.agent p.keeper view (fails_next p.keeper) c.session end after saving t in_view space taking in
      some_more c.world.met (their_bytes after.pending) h.0 (spelled_bytes after.pending then_so.whole.posts)
  met_moved c _ (settles p after t is settling) h = h.0

  fine_moved : (c next : Configuration) → Move hss_judged r name c next → Fine c → Fine next
  fine_moved c next move h = (met_moved c next move h, move_lasting HasSpace space_lasts r name c next move h.1)

-- ---- views

keys_octets : (keys : List PubKey) → AllByRecursion IsPubKey keys → AreOctets (flat_map (λ (k : PubKey). k.0) keys)
keys_octets [] h = no_octets
keys_octets (k ∷ keys) h = joined {a = k.0} {b = flat_map (λ (x : PubKey). x.0) keys} (record { each = h.0.each }) (keys_octets keys h.1)

keys_array : (keys : List PubKey) → AllByRecursion IsPubKey keys → AreOctets (array (λ (k : PubKey). k.0) keys)
keys_array keys h = joined {a = word (length keys)} {b = flat_map (λ (k : PubKey). k.0) keys} (a_word (length keys)) (keys_octets keys h)

view_octets : (view : View) → AllByRecursion IsPubKey view.members → AllByRecursion IsPubKey view.former → AreBytes (view_block view)
view_octets view members former =
    (joined {a = view_tag ++ array (λ (k : PubKey). k.0) view.members} {b = array (λ (k : PubKey). k.0) view.former}
    (joined {a = view_tag} {b = array (λ (k : PubKey). k.0) view.members} (record { each = refl }) (keys_array view.members members)) (keys_array view.former former)).each

-- ---- lines of the ring

abbrev Met : Outcome World → Type 0
Met (Goes next output) = MetBytes next
Met Ends = Unit {0}
Met Refuses = Unit {0}
Met Exceeds = Unit {0}

abbrev MetThen : Outcome Played → Type 0
MetThen (Goes next output) = MetBytes next.0
MetThen Ends = Unit {0}
MetThen Refuses = Unit {0}
MetThen Exceeds = Unit {0}

by_function : (w : Played) (o : Outcome World) (outcome : Outcome Played) → outcome ≡ beside w.1 o → Met o → MetThen outcome
by_function w o outcome does h = subst MetThen (sym does) (by o h)
  where
    by : (o : Outcome World) → Met o → MetThen (beside w.1 o)
    by (Goes next output) h = h
    by Ends h = tt
    by Refuses h = tt
    by Exceeds h = tt

set_each : (test : ℕ → Bool) (bytes : List ℕ) (offset byte : ℕ) → list_all test bytes ≡ true → test byte ≡ true → list_all test (slice_set bytes offset byte) ≡ true
set_each test [] offset byte h one = refl
set_each test (b ∷ bytes) zero byte h one = both (test byte) (list_all test bytes) one (both_true (test b) (list_all test bytes) h).1
set_each test (b ∷ bytes) (suc offset) byte h one = let parts = both_true (test b) (list_all test bytes) h in both (test b) (list_all test (slice_set bytes offset byte)) parts.0 (set_each test bytes offset byte parts.1 one)

found_block : (P : Block → Type 0) (key : Key) (blocks : Blocks) (block : Block) → AllByRecursion (λ e. P e.1) blocks → value_at key_cmp key blocks ≡ Some block → P block
found_block P key [] block all is = absurd cc
found_block P key (e ∷ blocks) block all is = by (eq_by_cmp key_cmp key e.0) (λ later. found_block P key blocks block all.1 later) is
  where
    by : (b : Bool) → (value_at key_cmp key blocks ≡ Some block → P block) → cond b (Some e.1) (value_at key_cmp key blocks) ≡ Some block → P block
    by true rest h = let same : e.1 ≡ block = cc in subst P same all.0
    by false rest h = rest h

module _ (w : World) (h : MetBytes w) where
  met_ring : (count r : ℕ) (o : Outcome World) → RingLine w count r o → Met o
  met_ring count r _ (ring_refused wrong) = tt
  met_ring count r _ (ring_exceeds right more) = tt
  met_ring count r _ (ring_makes nodes right more settled) = h

  met_join : (node : ℕ) (replicas : Option ℕ) (o : Outcome World) → JoinLine hss_judged w node replicas o → Met o
  met_join node _ _ join_before_ring = tt
  met_join node _ _ (join_known r is) = tt
  met_join node _ _ (join_exceeds r is more) = tt
  met_join node _ _ (join_alone r is more nobody) = h
  met_join node _ _ (join_joins r through p ps next is more least looks) = same_met w next (ap (λ (v : World). v.met) (fates_rest looks.fates)) h
  met_join node _ _ (join_fails r through found next is more least looks nobody) = same_met w next (ap (λ (v : World). v.met) (fates_rest looks.fates)) h

  met_round : (replicas : Option ℕ) (o : Outcome World) → RoundLine hss_judged w replicas o → Met o
  met_round _ _ round_before_ring = tt
  met_round _ _ (round_goes r next is) = same_met w next (ap (λ (v : World). v.met) (leaves_the_rest hss_judged r w next is).0) h

  met_stop : (n : Option Node) → Met (stop_line w n)
  met_stop None = tt
  met_stop (Some n) = by n.is_live
    where
      by : (t : Bool) → Met (cond t (Goes (with_node w (record n { is_live = false })) []) Refuses)
      by true = h
      by false = tt

  module _ (n : Node) (holds : HoldsMet w.met n) (key : Key) (offset byte : ℕ) (octet : IsTrue (nat_lt byte 256)) where
    met_spoiled : (block : Block) → value_at key_cmp key n.blocks ≡ Some block → AllBytes (meets_some w.met (bytes_at key (put key_cmp key (spoiled offset byte block) n.blocks)))
    met_spoiled block is =
        let held = found_block (λ (b : Block). Contains w.met b.bytes) key n.blocks block holds.1 is in
        subst (λ (o : Option (List ℕ)). AllBytes (meets_some w.met o)) (sym (put_is_held key (spoiled offset byte block) n.blocks))
        (one_more w.met (spoiled offset byte block).bytes h (set_each (λ b. nat_lt b 256) block.bytes offset byte (each AreBytes w.met block.bytes h held) octet))

    met_damaged : Met (damaged_to w n key (with_byte key offset byte n.blocks))
    met_damaged = by (value_at key_cmp key n.blocks) refl
      where
        in_range : (block : Block) → value_at key_cmp key n.blocks ≡ Some block → (t : Bool) → Met (damaged_to w n key (cond t (Some (put key_cmp key (spoiled offset byte block) n.blocks)) None))
        in_range block is true = met_spoiled block is
        in_range block is false = tt

        by : (o : Option Block) → value_at key_cmp key n.blocks ≡ o
            → Met (damaged_to w n key (option_and_then (λ block. cond (nat_lt offset (length block.bytes)) (Some (put key_cmp key (spoiled offset byte block) n.blocks)) None) o))
        by None is = tt
        by (Some block) is = in_range block is (nat_lt offset (length block.bytes))

met_damage : (w : Played) → Invariant w → MetBytes w.0 → (o : Option Node) → ((n : Node) → o ≡ Some n → HoldsMet w.0.met n) → (key : Option Key) (offset byte : ℕ) → IsTrue (nat_lt byte 256) → Met (damage_by w.0 o key offset byte)
met_damage w keeps h None holds key offset byte octet = tt
met_damage w keeps h (Some n) holds None offset byte octet = tt
met_damage w keeps h (Some n) holds (Some key) offset byte octet = met_damaged w.0 h n (holds n refl) key offset byte octet

-- ---- all lines

module _ (w : Played) (keeps : Invariant w) (h : MetBytes w.0) (all : AllLast HasSpace space_lasts w.0.participants) where
  met_touched : (name : List ℕ) (p q : Participant) {k : Command} {posts : List Post} → Touches w.0 p name k q posts → AllBytes (their_bytes posts)
  met_touched name p _ (plans count new) = tt
  met_touched name p _ (unable k saves was) = tt
  met_touched name p _ (fails k saving was now attempt) = tt
  met_touched name p _ {posts = posts} (snaps view was now in_view spelled) = spelled_bytes posts spelled

  met_renewed : (name : List ℕ) (p q : Participant) {k : Command} {posts : List Post} {set : List Record} → Renews w p name k q posts set → AllBytes (their_bytes posts)
  met_renewed name p _ (enters called view is_view member named was now) = tt
  met_renewed name p _ (starts_again view k set in_view is_kept held again) = spelled_bytes k.pending is_kept.posts

  met_left : {k : Command} {r : ℕ} {name : List ℕ} {c end : Configuration} {next : Played} → Plays hss_judged w r k name c end next → ((c.world.met ≡ w.0.met) × (c.world.participants ≡ w.0.participants) → MetBytes end.world) → MetBytes next.0
  met_left (calls log pieces s t end sends begins runs over) on = on (refl, refl)
  met_left (steps name count s end is going) on = on (refl, refl)
  met_left (ends name s end is runs over) on = on (refl, refl)

  met_changed : {k : Command} → Fits k → (IsRingCommand k → ⊥) → (next : Played) → Effect hss_judged w k next → MetBytes next.0
  met_changed fits other _ (shows _ is) = h
  met_changed fits other _ (times sec nsec) = h
  met_changed fits other _ (loses count) = h
  met_changed fits other _ (of_nodes _ ring next is) = absurd (other ring)
  met_changed fits other _ (makes_view name names others members former r view next are also new own_keys_are small ringed is put) =
      same_met (with_view w.0 name view) next (ap (λ (v : World). v.met) (fates_rest put.fates)) (one_more w.0.met (view_block view) h
      (subst (λ (v : View). AreBytes (view_block v)) (sym is)
      (view_octets (record { members = in_key_order members; former = in_key_order former }) (each_in_order IsPubKey members (own_keys w keeps names members are).each_is_key) (each_in_order IsPubKey former (own_keys w keeps others former also).each_is_key))))
  met_changed fits other _ (comes name id seed sets new) =
      let pending : List Post = (hss_opened (fresh_signer id seed sets) w.0.now).pending in
      some_more w.0.met (their_bytes pending) h (spelled_bytes pending (kept_whole (fresh_signer id seed sets) fits refl w.0.now keeps.moment).posts)
  met_changed fits other _ (touches k name p q posts is_p is) = some_more w.0.met (their_bytes posts) h (met_touched name p q is)
  met_changed fits other _ (renews k name p q posts set is_p is) = some_more w.0.met (their_bytes posts) h (met_renewed name p q is)
  met_changed fits other _ (opens name log pieces s t new sends begins) = h
  met_changed fits other next (plays _ r name c end _ ringed is) =
      met_left is (λ same. (all_moves (Fine r name) (fine_moved r name) (played_moves is) (same_met w.0 c.world same.0 h, subst (AllLast HasSpace space_lasts) (sym same.1) all)).0)

met_replied : (w : World) (said : Said) → MetBytes w → MetBytes (replied w said)
met_replied w said h = by (is_some said.message)
  where
    by : (t : Bool) → MetBytes (cond t (record w { replies = w.replies ++ record { handle = said.handle; verifier = said.verifier } ∷ [] }) w)
    by true = h
    by false = h

abbrev FineIn : Played → Type 0
FineIn w = MetBytes w.0 × AllLast HasSpace space_lasts w.0.participants

met_later : {k : Command} (w next : Played) → LaterEffect hss_judged w k next → FineIn w → FineIn next
met_later w next effect h = (by effect, later_lasts HasSpace space_lasts w next effect h.1)
  where
    by : {k : Command} {next : Played} → LaterEffect hss_judged w k next → MetBytes next.0
    by (publishes k alone r p end ringed is over on) = (all_moves (Fine r p.name) (fine_moved r p.name) (runs_move on) h).0
    by (replies k whole said) = met_replied w.0 said h.0

-- ---- the whole

pub empty_met_bytes : EmptyMetBytes
empty_met_bytes = tt

-- each agent, and its keeper, has space
pub all_space : (w : Played) → Invariant w → PublishFew w.0 → AllLast HasSpace space_lasts w.0.participants
all_space w keeps few = each_from (λ (p : Participant). HasSpace p.agent p.keeper) w.0.participants (λ p among.
    let saved = each (IsKeptSo IsSavedWell) w.0.participants p keeps.saved among in
    record {
      whole = saved.3.agent;
      few = each (λ (q : Participant). HasFewPosts (kept_of q.agent)) w.0.participants p few.agents among;
      kept = each (IsKeptSo (λ q k. HasFewPosts k)) w.0.participants p few.kept among;
    })

-- which command of the ring it is, or that it is another one
data IsWhich : Command → Type 0 where
  ring_command : (nodes replicas : ℕ) → IsWhich (command.Ring nodes replicas)
  join_command : (node : ℕ) → IsWhich (command.Join node)
  stop_command : (node : NodeWord) → IsWhich (command.Stop node)
  round_command : IsWhich command.Round
  damage_command : (node : NodeWord) (key : KeyWord) (offset byte : ℕ) → IsWhich (command.Damage node key offset byte)
  another : {c : Command} → (IsRingCommand c → ⊥) → IsWhich c

which : (c : Command) → IsWhich c
which (command.Ring nodes replicas) = ring_command nodes replicas
which (command.Join node) = join_command node
which (command.Stop node) = stop_command node
which command.Round = round_command
which (command.Damage node key offset byte) = damage_command node key offset byte
which _ = another (λ none. none)

module _ (w : Played) (keeps : Invariant w) (few : PublishFew w.0) (h : MetBytes w.0) where
  met_then : (next : Played) (output : List ℕ) (c : Command) → IsWhich c → FitsWholly c → Fits c → Does hss_judged w c (Goes next output) → MetBytes next.0
  met_then next output _ (ring_command nodes replicas) wholly fits does = by_function w does.0 (Goes next output) does.2 (met_ring w.0 h nodes replicas does.0 does.1)
  met_then next output _ (join_command node) wholly fits does = by_function w does.0 (Goes next output) does.2 (met_join w.0 h node w.0.replicas does.0 does.1)
  met_then next output _ (stop_command node) wholly fits does = by_function w (stop_line w.0 (node_named w.0 node)) (Goes next output) does (met_stop w.0 h (node_named w.0 node))
  met_then next output _ round_command wholly fits does = by_function w does.0 (Goes next output) does.2 (met_round w.0 h w.0.replicas does.0 does.1)
  met_then next output _ (damage_command node key offset byte) wholly fits does =
      by_function w (damage_line w.0 node key offset byte) (Goes next output) does
      (met_damage w keeps h (node_named w.0 node) (λ n is. all-among (HoldsMet w.0.met) n w.0.nodes keeps.met.held (named_among w.0 node n is)) (key_named w.0 key) offset byte wholly)
  met_then next output c (another other) wholly fits does =
      let all = all_space w keeps few in
      (by_effects FineIn (λ v effect. (met_changed w keeps h all fits other v effect, effect_lasts HasSpace space_lasts w keeps all fits (inl space_snaps) v effect)) met_later (lines_have_effects w next c output does)).0

pub met_bytes_come : MetBytesCome
met_bytes_come w next line output keeps few h step =
    let done = does_line w next output (command_of line) step in
    met_then w keeps few h next output done.0 (which done.0) (command_fits_wholly line done.0 done.1) (command_fits line done.0 done.1) done.2
