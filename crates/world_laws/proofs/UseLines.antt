-- A participant that enters a view, or tries to, leaves a world in which the invariant holds.
use Rattle.std.proofs.Common.{◌≡◌, inl, ⊎_elim, ℕ, ◌<◌, ◌≤◌, ◌^◌, Bool, true, false, cond, ◌&&◌, ◌||◌, not, List, [], ◌∷◌, ◌++◌, length, map, Option, Some, None, refl, sym, ap, ◌∙◌, subst, arith, Contains}
use Rattle.std.specs.Prelude.{IfSome, IsTrue, is_some, option_map}
use Rattle.std.specs.List.{AllByRecursion, find}
use Rattle.std.specs.Ordering.{eq_by_cmp}
use Rattle.std.specs.Str.{bytes_eq}
use Rattle.std.proofs.lemmas.List.{append-nil}
use Rattle.std.proofs.lemmas.List.Elements.{Contains-append_left, Contains-append_cases}
use Rattle.ivy_base.specs.declared.key.Key.{Key}
use Rattle.ivy_base.specs.declared.key.PubKey.{PubKey}
use Rattle.ivy_base.specs.Naming.{IsCollisionFree, head_key_of, owner_cmp}
use Rattle.ivy_io.specs.Keepers as memory
use Rattle.block_cache.proofs.Pairs.{empty_valid}
use Rattle.round_laws.proofs.Nodes.{ties}
use Rattle.log_model.proofs.Later.{good_of}
use Rattle.log_model.proofs.Lists.{each, each_from, each_left, from_filter, here, in_cons, in_nothing, who_passes}
use Rattle.log_model.proofs.Owners.{owner_itself}
use Rattle.log_model.proofs.Opening.{same_owner}
use Rattle.log_model.specs.Chain.{IsChain}
use Rattle.log_model.specs.Closed.{IsCause, IsClosed, log_of}
use Rattle.log_model.specs.Rank.{front, own_entry}
use Rattle.log_model.specs.Record.{Record}
use Rattle.log_model.specs.Standing.{Stand}
use Rattle.log_model.specs.Vector.{Dominates, Entry, Stamp, Vector, join, reach, seq_of, stamp_at, with_entry}
use Rattle.log_model.specs.View.{View, IsView, is_former, is_member, is_named}
use Rattle.turn_laws.proofs.Heads.{member_is, one_member}
use Rattle.turn_model.specs.Basis.{Holding, Knows, nothing_held}
use Rattle.turn_model.specs.Known.{EndsAt, IsKnown, IsVerified}
use Rattle.log_model.specs.ViewKeys.{HasKeys}
use Rattle.dht_ids.specs.declared.post.Post.{Post}
use Rattle.agent_model.specs.Agent.{entered, failed, kept_of, own_key}
use Rattle.agent_model.specs.Views.{Entered, NotMember, KeeperFailed, entering_with, is_own_member, is_refused_in, not_named, was_former}
use Rattle.session_model.specs.Sessions.{Cache}
use Rattle.script_driver.specs.Run.{Outcome}
use Rattle.world_model.specs.Agents.{HssAgent, HssEntering, IsHssKept, HssKept, hss_signing, hss_kept_bytes, own_hss_key as own, own_reach, hss_sealed}
use Rattle.world_model.specs.Keepers.{Keeper, asked_to_save, fails_next}
use Rattle.world_model.specs.World.{NamedView, World, Participant, named_bytes, participant, view_named, with_participant}
use Rattle.world_model.specs.GhostState.{Knowing, knowing_of, known_of}
use Rattle.world_model.specs.Steps.{heads_by}
use Rattle.world_model.specs.Logs.{Played, afresh_told, after_entering, of_members, use_by}
use Rattle.world_laws.specs.Invariant.{AreParticipants, AreSignedOnce, AreSound, EntersOwned, IsKeptSo, IsSavedWell, IsSoundIn, IsSoundKeptIn, Invariant, NamesOneOf, SignsOnce}
use Rattle.world_laws.specs.Frames.{UseLinesKeep, unchanged}
use Rattle.world_laws.proofs.Afresh.{IsFit, afresh_world, apart_before, keeps_afresh, knowing_afresh}
use Rattle.world_laws.proofs.Bringing.{found_named}
use Rattle.world_laws.proofs.EnteredViews.{TakesIn, covered_in, knows_in, own_log, stands_in, verified_in}
use Rattle.world_laws.proofs.Frames.{participant_keeps, placed_itself}
use Rattle.world_laws.proofs.HeadKeys.{one_own_key}
use Rattle.world_laws.proofs.KnownHeads.{heads_low}
use Rattle.world_laws.proofs.Lines.{ToSuch}
use Rattle.world_laws.proofs.MoreMet.{more_verified, more_stand}
use Rattle.world_laws.proofs.OtherBytes.{other_bytes_keep}
use Rattle.world_laws.proofs.Placed.{found_among}
use Rattle.world_laws.proofs.PublicKeys.{owner_is_key}
use Rattle.world_laws.proofs.SignedAmong.{fewer_signed_once}
use Rattle.world_laws.proofs.SignedHeads.{from_map, so_of}

-- ---- of a view before

-- who opened its log alone knows its opening as the one member of a view would
abbrev alone : PubKey → View
alone own = record { members = own ∷ []; former = [] }

module _ (own : PubKey) (r : Record) (chain : IsChain (alone own) own (r ∷ [])) where
  abbrev floor : Vector
  floor = own_entry r ∷ []

  owned : r.owner ≡ own
  owned = chain.0.owned

  only_chain : (owner : PubKey) → IsChain (alone own) owner (log_of owner (r ∷ []))
  only_chain owner = by (eq_by_cmp owner_cmp owner r.owner) refl
    where
      by : (b : Bool) → eq_by_cmp owner_cmp owner r.owner ≡ b → IsChain (alone own) owner (cond b (r ∷ []) [])
      by true is = subst (λ o. IsChain (alone own) o (r ∷ [])) (sym owned ∙ same_owner owner r.owner is) chain
      by false is = tt

  own_record : log_of own (r ∷ []) ≡ r ∷ []
  own_record = ap (λ b. cond b (r ∷ []) []) (subst (λ o. eq_by_cmp owner_cmp own o ≡ true) (sym owned) (owner_itself own))

  own_stamp : stamp_at floor (head_key_of own) ≡ Some (own_entry r).1
  own_stamp = ap (λ b. cond b (Some (own_entry r).1) None) (ties (head_key_of own) (head_key_of r.owner) (ap head_key_of (sym owned)))

  ends_own : EndsAt (stamp_at floor (head_key_of own)) (log_of own (r ∷ []))
  ends_own = subst (λ o. EndsAt o (log_of own (r ∷ []))) (sym own_stamp) ([], r, own_record, refl)

  pub alone_known : IsKnown (alone own) floor (r ∷ [])
  alone_known = record {
    ascending = (tt, tt);
    members = (subst (Contains (own ∷ [])) (sym owned) (here own []), tt);
    chains = only_chain;
    ends = λ owner member. ⊎_elim (λ e. subst (λ o. EndsAt (stamp_at floor (head_key_of o)) (log_of o (r ∷ []))) e ends_own) (λ none. absurd (in_nothing owner none)) (in_cons own [] owner member);
  }

  pub alone_closed : IsClosed (alone own) (r ∷ [])
  alone_closed = record {
    ascending = (tt, tt);
    members = alone_known.members;
    chains = only_chain;
    causes = (subst (λ (v : Vector). AllByRecursion (λ e. IsTrue (is_member (alone own) e.0) → (c : Record) × Contains (r ∷ []) c × IsCause c e r) v) (sym chain.1.vector) tt, tt);
  }

  pub alone_covered : Dominates floor (front (r ∷ []))
  alone_covered log = subst (λ (v : Vector). seq_of (join [] (with_entry v (own_entry r))) log ≤ seq_of floor log) (sym chain.1.vector) (omega arith)

  pub alone_verified : (met : List (List ℕ)) (heads : List Entry) → IsVerified met (alone own) own floor heads (r ∷ [])
  alone_verified met heads = record { chains = only_chain; backed = (inl (owned, within), tt) }
    where
      within : r.seq ≤ seq_of floor (head_key_of own)
      within = let at : seq_of floor (head_key_of own) ≡ r.seq = ap reach own_stamp in omega (arith, at)

-- ---- what isn't refused

none_found : (test : Entry → Bool) (v : Vector) → option_map (λ (e : Entry). e.0) (find test v) ≡ None → (e : Entry) → Contains v e → test e ≡ false
none_found test [] none e c = absurd (in_nothing e c)
none_found test (d ∷ v) none e c = by (test d) refl none (λ later h. none_found test v h e later)
  where
    by : (b : Bool) → test d ≡ b → option_map (λ (x : Entry). x.0) (cond b (Some d) (find test v)) ≡ None → (Contains v e → option_map (λ (x : Entry). x.0) (find test v) ≡ None → test e ≡ false) → test e ≡ false
    by true is h again = cc h
    by false is h again = ⊎_elim (λ same. subst (λ x. test x ≡ false) same is) (λ later. again later h) (in_cons d v e c)

named_there : (a b c : Bool) → (not a || (b && c)) ≡ false → a ≡ true
named_there true b c e = refl
named_there false b c e = cc e

not_both : (a b c : Bool) → (not a || (b && c)) ≡ false → b ≡ true → c ≡ false
not_both true true true e is = cc e
not_both true true false e is = refl
not_both true false c e is = cc is
not_both false b c e is = cc e

one_of : (a b : Bool) → (a || b) ≡ true → b ≡ false → a ≡ true
one_of true b e none = refl
one_of false b e none = cc (sym e ∙ none)

module _ (w : Played) (keeps : Invariant w) (apart : IsCollisionFree (named_bytes w.0)) (old view : View) (theirs : AreParticipants w.0 old) (ours : AreParticipants w.0 view) where
  whose : (v : View) → AreParticipants w.0 v → (a : PubKey) → Contains v.members a → (p : Participant) × Contains w.0.participants p × (a ≡ own p.agent)
  whose v h a c = from_map (λ (p : Participant). own p.agent) w.0.participants a (each (Contains (map (λ (p : Participant). own p.agent) w.0.participants)) v.members a h c)

  one_key : (a b : PubKey) → Contains old.members a → Contains view.members b → head_key_of a ≡ head_key_of b → a ≡ b
  one_key a b a_in b_in same =
      let p = whose old theirs a a_in in
      let q = whose view ours b b_in in
      p.2 ∙ one_own_key w keeps apart p.0 q.0 p.1 q.1 (ap head_key_of (sym p.2) ∙ same ∙ ap head_key_of q.2) ∙ sym q.2

-- ---- a participant with another agent

module _ (w : Played) (keeps : Invariant w) (p : Participant) (is_p : participant w.0 p.name ≡ Some p) (view : View) (legal : IsView view) (keys : HasKeys view) (ours : AreParticipants w.0 view)
    (member : is_own_member hss_signing p.agent view ≡ true) (accepted : not_named p.agent view ≡ None) where
  abbrev a : HssAgent
  a = p.agent

  -- what is to be saved
  abbrev l : HssKept
  l = kept_of (entered a view)

  abbrev q : Option View → Holding → Option Key → Option Key → Bool → Keeper → Cache → Participant
  q v h t s f y z = record p { agent = record a { view = v; holding = h; to_load = t; snapshot = s; has_failed = f }; keeper = y; cache = z }

  abbrev known : List Record
  known = known_of w.1 p.name

  abbrev left : List Record
  left = of_members view known

  among : Contains w.0.participants p
  among = (found_named w.0.participants p.name p is_p).0

  own_in : Contains view.members (own a)
  own_in = let found = who_passes (eq_by_cmp owner_cmp (own a)) view.members member in subst (Contains view.members) (same_owner (own a) found.0 found.2) found.1

  not_refused : (e : Entry) → Contains a.floor e → is_refused_in a.view view e.0 ≡ false
  not_refused = none_found (λ (e : Entry). is_refused_in a.view view e.0) a.floor accepted

  all_named : (e : Entry) → Contains a.floor e → is_named view e.0 ≡ true
  all_named e c = named_there (is_named view e.0) (is_member view e.0) (was_former a.view e.0) (not_refused e c)

  so : IsKeptSo SignsOnce p
  so = each (IsKeptSo SignsOnce) w.0.participants p keeps.signs among

  abbrev k : HssKept
  k = so.0

  saved : IsSavedWell p k
  saved = so_of IsSavedWell p k (each (IsKeptSo IsSavedWell) w.0.participants p keeps.saved among) so.1 so.2

  pub whole : IsHssKept l
  whole = record {
    signer = saved.agent.signer;
    some = saved.agent.some;
    few = saved.agent.few;
    floor = saved.agent.floor;
    view = (legal, keys, own_in, each_from _ a.floor all_named);
    posts = saved.agent.posts;
    snapshot = tt;
  }

  -- ---- heads

  left_once : AreSignedOnce a.signer a.signer.made (own_reach a) p.left
  left_once = record {
    signed = so.3.left.signed;
    spelled = so.3.left.spelled ∙ (λ i. map (λ (h : ℕ × Stamp). hss_sealed (record { id = so.3.same.0 i; seed = so.3.same.1 i; sets = so.3.same.2 i; made = h.0 }) h.1) so.3.left.signed);
    below = so.3.left.below;
    one_each = so.3.left.one_each;
  }

  all_left : (b : List ℕ) → Contains (p.left ++ heads_by a.pending) b → Contains p.left b
  all_left b h = ⊎_elim (λ c. c) (λ c. each (Contains p.left) (heads_by a.pending) b so.3.pending c) (Contains-append_cases p.left (heads_by a.pending) b h)

  signs_then : (v : Option View) (h : Holding) (t s : Option Key) (f : Bool) (y : Keeper) (z : Cache) → SignsOnce (q v h t s f y z) l
  signs_then v h t s f y z = record {
    same = (refl, refl, refl);
    saved = omega arith;
    reaches = omega arith;
    left = left_once;
    kept = fewer_signed_once a.signer a.signer.made (own_reach a) p.left left_once (p.left ++ heads_by a.pending) all_left;
    pending = so.3.pending;
  }

  -- ---- what is known in the view

  record KnowsThen (met : List (List ℕ)) : Type 0 where
    knows : Knows view a.floor nothing_held left
    stand : Stand met left
    verified : IsVerified met view (own a) a.floor (knowing_of w.1 p.name).received left
    covers : Dominates a.floor (front left)
    same_log : log_of (own a) left ≡ log_of (own a) known
    heads : AllByRecursion (NamesOneOf a.signer (log_of (own a) left)) (p.left ++ heads_by a.pending)

  module _ (apart : IsCollisionFree (named_bytes w.0)) where
    old : AreSound w.0 w.1
    old = keeps.sound apart

    agent_owned : IfSome a.view (AreParticipants w.0)
    agent_owned = (each (EntersOwned w.0) w.0.participants p keeps.entered among).agent

    same_view : (x y : View) → Some x ≡ Some y → x ≡ y
    same_view x y e = cc e

    -- from a view, or from none
    record KnewIn (o : Option View) : Type 0 where
      before : View
      takes : TakesIn before view a.floor
      by_floor : IsKnown before a.floor known
      closed : IsClosed before known
      covers : Dominates a.floor (front known)
      stand : Stand w.0.met known
      verified : IsVerified w.0.met before (own a) a.floor (knowing_of w.1 p.name).received known
      own_before : Contains before.members (own a)

    knew : (o : Option View) → a.view ≡ o → KnewIn o
    knew None is = record {
      before = alone (own a);
      takes = record {
        named = all_named;
        members = λ e c _. ⊎_elim (λ same. subst (λ (x : Entry). is_member (alone (own a)) x.0 ≡ true) same (subst (λ o. is_member (alone (own a)) (head_key_of o) ≡ true) (sym h.4.0.owned) (member_is (alone (own a)) (own a) (here (own a) [])))) (λ none. absurd (in_nothing e none))
            (in_cons (own_entry h.0) [] e (subst (λ v. Contains v e) h.2 c));
        one_key = λ x y x_in y_in same. ⊎_elim (λ e. sym e ∙ one_member view (own a) y legal own_in y_in (ap head_key_of e ∙ same)) (λ none. absurd (in_nothing x none)) (in_cons (own a) [] x x_in);
      };
      by_floor = subst (λ v. IsKnown (alone (own a)) v known) (sym h.2) (subst (IsKnown (alone (own a)) (own_entry h.0 ∷ [])) (sym h.1) (alone_known (own a) h.0 h.4));
      closed = subst (IsClosed (alone (own a))) (sym h.1) (alone_closed (own a) h.0 h.4);
      covers = subst (λ v. Dominates v (front known)) (sym h.2) (subst (λ s. Dominates (own_entry h.0 ∷ []) (front s)) (sym h.1) (alone_covered (own a) h.0 h.4));
      stand = subst (Stand w.0.met) (sym h.1) (h.3, tt);
      verified = subst (λ v. IsVerified w.0.met (alone (own a)) (own a) v (knowing_of w.1 p.name).received known) (sym h.2)
          (subst (IsVerified w.0.met (alone (own a)) (own a) (own_entry h.0 ∷ []) (knowing_of w.1 p.name).received) (sym h.1) (alone_verified (own a) h.0 h.4 w.0.met (knowing_of w.1 p.name).received));
      own_before = here (own a) [];
    }
      where
        h : IsSoundIn w.0.met p (knowing_of w.1 p.name) None
        h = subst (IsSoundIn w.0.met p (knowing_of w.1 p.name)) is (each (λ (x : Participant). IsSoundIn w.0.met x (knowing_of w.1 x.name) x.agent.view) w.0.participants p old.agents among)
    knew (Some v) is = record {
      before = v;
      takes = record {
        named = all_named;
        members = λ e c now. one_of (is_member v e.0) (is_former v e.0) (each _ a.floor e floor_named c)
            (subst (λ o. was_former o e.0 ≡ false) is (not_both (is_named view e.0) (is_member view e.0) (was_former a.view e.0) (not_refused e c) now));
        one_key = one_key w keeps apart v view (subst (λ o. IfSome o (AreParticipants w.0)) is agent_owned) ours;
      };
      by_floor = h.knows.by_floor;
      closed = h.knows.closed;
      covers = h.covers;
      stand = h.stand;
      verified = h.verified;
      own_before = kept_view.2;
    }
      where
        h : IsSoundIn w.0.met p (knowing_of w.1 p.name) (Some v)
        h = subst (IsSoundIn w.0.met p (knowing_of w.1 p.name)) is (each (λ (x : Participant). IsSoundIn w.0.met x (knowing_of w.1 x.name) x.agent.view) w.0.participants p old.agents among)

        kept_view : IsView v × HasKeys v × Contains v.members (own a) × AllByRecursion (λ e. IsTrue (is_named v e.0)) a.floor
        kept_view = subst (λ o. IfSome o (λ x. IsView x × HasKeys x × Contains x.members (own a) × AllByRecursion (λ e. IsTrue (is_named x e.0)) a.floor)) is saved.agent.view

        floor_named : AllByRecursion (λ (e : Entry). IsTrue (is_named v e.0)) a.floor
        floor_named = kept_view.3

    from : KnewIn a.view
    from = knew a.view refl

    -- the heads that left are over what is known
    kept_sound : IsSoundKeptIn w.0.met p (knowing_of w.1 p.name) k k.view
    kept_sound = so_of (λ x y. IsSoundKeptIn w.0.met x (knowing_of w.1 x.name) y y.view) p k (each (IsKeptSo (λ x y. IsSoundKeptIn w.0.met x (knowing_of w.1 x.name) y y.view)) w.0.participants p old.keepers among) so.1 so.2

    signer_then : (log : List Record) (b : List ℕ) → NamesOneOf k.signer log b → NamesOneOf a.signer log b
    signer_then log b h = (h.0, h.1, h.2, h.3 ∙ (λ i. hss_sealed (record { id = so.3.same.0 i; seed = so.3.same.1 i; sets = so.3.same.2 i; made = h.0 }) (own_entry h.1).1))

    own_size : length (own_key hss_signing k.signer).0 ≡ 60
    own_size = (owner_is_key k.signer so.1.signer).size

    heads_of : (o : Option View) → IsSoundKeptIn w.0.met p (knowing_of w.1 p.name) k o → AllByRecursion (NamesOneOf k.signer (log_of (own a) known)) p.left
    heads_of None h = subst (λ s. AllByRecursion (NamesOneOf k.signer (log_of (own a) s)) p.left) (sym h.5)
        (subst (λ s. AllByRecursion (NamesOneOf k.signer s) p.left) (sym (own_record (own a) h.0 h.3)) (each_left (NamesOneOf k.signer (h.0 ∷ [])) p.left (heads_by k.pending) h.4))
    heads_of (Some v) h = heads_low k.signer a.signer.made (own_reach a) p.left v (own a) (stamp_at a.floor (head_key_of (own a))) (log_of (own a) known) h.goes_on.0 own_size (omega (arith, saved.agent.few)) so.3.left
        (subst (IsChain v (own a)) h.goes_on.1 (h.closed.chains (own a)))
        (subst (AllByRecursion (λ (r : Record). r.seq < 2 ^ 32)) h.goes_on.1 (each_from (λ (r : Record). r.seq < 2 ^ 32) (log_of (own a) h.known) (λ r c.
        let few = (good_of v h.known r h.closed (from_filter (λ (x : Record). eq_by_cmp owner_cmp (own a) x.owner) h.known r c).0).spelled.few in omega (arith, few))))
        (from.by_floor.ends (own a) from.own_before) (omega arith)
        (subst (λ s. AllByRecursion (NamesOneOf k.signer s) p.left) h.goes_on.1 (each_left (NamesOneOf k.signer (log_of (own a) h.known)) p.left (heads_by k.pending) h.heads))

    same_log : log_of (own a) left ≡ log_of (own a) known
    same_log = own_log from.before view a.floor known from.takes from.by_floor from.closed from.covers (own a) own_in

    knows_then : KnowsThen w.0.met
    knows_then = record {
      knows = knows_in from.before view a.floor known from.takes from.by_floor from.closed from.covers;
      stand = stands_in from.before view a.floor known from.takes from.by_floor from.closed from.covers w.0.met from.stand;
      verified = verified_in from.before view a.floor known from.takes from.by_floor from.closed from.covers w.0.met (own a) (knowing_of w.1 p.name).received from.verified;
      covers = covered_in from.before view a.floor known from.takes from.by_floor from.closed from.covers;
      same_log = same_log;
      heads = each_from _ (p.left ++ heads_by a.pending) (λ b c. signer_then (log_of (own a) left) b
          (subst (λ s. NamesOneOf k.signer s b) (sym same_log) (each (NamesOneOf k.signer (log_of (own a) known)) p.left b (heads_of k.view kept_sound) (all_left b c))));
    }

    -- what the new bytes say, of an agent that knows the rest or what it knew
    keeps_bytes : (v : Option View) (h : Holding) (t s : Option Key) (f : Bool) (y : Keeper) (z : Cache) (now : Knowing) → now.received ≡ (knowing_of w.1 p.name).received → log_of (own a) now.known ≡ log_of (own a) left
        → IsSoundKeptIn w.0.met (q v h t s f y z) now l (Some view)
    keeps_bytes v h t s f y z now received same = record {
      known = left;
      by_floor = knows_then.knows.by_floor;
      closed = knows_then.knows.closed;
      stand = more_stand w.0.met _ (λ b c. Contains-append_left w.0.met (map (λ (x : Post). x.bytes) a.pending) b c) left knows_then.stand;
      verified = more_verified w.0.met _ (λ b c. Contains-append_left w.0.met (map (λ (x : Post). x.bytes) a.pending) b c) view (own a) a.floor now.received left
          (subst (λ heads. IsVerified w.0.met view (own a) a.floor heads left) (sym received) knows_then.verified);
      covers = knows_then.covers;
      snapshot = tt;
      goes_on = ([], sym (append-nil (log_of (own a) now.known) ∙ same));
      heads = knows_then.heads;
    }

  -- ---- it is entered

  -- the agent in the view, and its keeper
  abbrev entering_it : Keeper → Participant
  entering_it y = q (Some view) nothing_held None None a.has_failed y []

  module _ (y : Keeper) (held : y.kept ≡ Some (hss_kept_bytes l)) where
    before : IsCollisionFree (named_bytes (afresh_world w.0 p (entering_it y) w.0.met)) → IsCollisionFree (named_bytes w.0)
    before apart = apart_before w keeps p is_p (entering_it y) refl refl w.0.met (λ b h. h) left apart

    fit : IsFit w p (entering_it y) w.0.met left
    fit = record {
      named = refl;
      owned = refl;
      pending = each _ w.0.participants p keeps.met.pending among;
      cached = (empty_valid, tt);
      signs = (l, whole, held, signs_then (Some view) nothing_held None None a.has_failed y []);
      saved = (l, whole, held, record { agent = whole; entered = λ h. h });
      entered = record { agent = ours; keeper = (l, whole, held, ours) };
      agent = λ apart. let then_so = knows_then (before apart) in record { knows = then_so.knows; stand = then_so.stand; verified = then_so.verified; covers = then_so.covers };
      keeper = λ apart. (l, whole, held, keeps_bytes (before apart) (Some view) nothing_held None None a.has_failed y [] (knowing_afresh w p left) refl refl);
      to_load = λ apart. tt;
      snapshots = λ apart. tt;
    }

    entered_keeps : Invariant (afresh_world w.0 p (entering_it y) w.0.met, afresh_told w p.name left)
    entered_keeps = keeps_afresh w keeps p is_p (entering_it y) refl refl w.0.met (λ b h. h) left fit

  -- ---- its save fails

  -- the agent as it was, which saves no more
  abbrev failing_it : Keeper → Participant
  failing_it y = q a.view a.holding a.to_load a.snapshot true y p.cache

  -- and the old bytes are kept
  old_bytes_keep : (y : Keeper) → y.kept ≡ p.keeper.kept → Invariant (with_participant w.0 (failing_it y), w.1)
  old_bytes_keep y held = participant_keeps w p.name p (record (unchanged p) { has_failed = true; keeper = y }) keeps is_p (record {
    kept = held;
    pending = λ post c. c;
    fewer = omega arith;
    cached = each _ w.0.participants p keeps.met.cached among;
  })

  -- or the new bytes are
  new_bytes_keep : (y : Keeper) → y.kept ≡ Some (hss_kept_bytes l) → Invariant (with_participant w.0 (failing_it y), w.1)
  new_bytes_keep y held = other_bytes_keep w keeps p is_p (record (unchanged p) { has_failed = true; keeper = y }) refl (record {
    cached = each _ w.0.participants p keeps.met.cached among;
    signs = (l, whole, held, signs_then a.view a.holding a.to_load a.snapshot true y p.cache);
    saved = (l, whole, held, record { agent = saved.agent; entered = λ h. refl });
    entered = (l, whole, held, ours);
    sound = λ apart. (l, whole, held, keeps_bytes apart a.view a.holding a.to_load a.snapshot true y p.cache (knowing_of w.1 p.name) refl (sym (same_log apart)));
  })

  -- ---- what comes of it

  saved_now : (o : Option Bool) → memory.planned_next p.keeper ≡ o → (asked_to_save p.keeper (Some l)).kept ≡ (memory.after_planned o p.keeper (hss_kept_bytes l)).kept
  saved_now o planned = ap (λ x. (memory.after_planned x p.keeper (hss_kept_bytes l)).kept) planned

  by_plan : (o : Option Bool) → memory.planned_next p.keeper ≡ o
      → ToSuch Invariant (after_entering w p view (cond (is_some o) (KeeperFailed (failed a)) (Entered (entered a view))) (Some l))
  by_plan None planned = entered_keeps (asked_to_save p.keeper (Some l)) (saved_now None planned)
  by_plan (Some true) planned = new_bytes_keep (asked_to_save p.keeper (Some l)) (saved_now (Some true) planned)
  by_plan (Some false) planned = old_bytes_keep (asked_to_save p.keeper (Some l)) (saved_now (Some false) planned)

  by_failure : (b : Bool) → ToSuch Invariant (let came = cond {A = HssEntering × Option HssKept} b (KeeperFailed a, None) (cond (fails_next p.keeper) (KeeperFailed (failed a)) (Entered (entered a view)), Some l) in after_entering w p view came.0 came.1)
  by_failure true = subst (λ (v : World). Invariant (v, w.1)) (sym (placed_itself w.0 keeps.apart p.name p is_p)) keeps
  by_failure false = by_plan (memory.planned_next p.keeper) refl

-- ---- the line

pub view_in : (vs : List NamedView) (name : List ℕ) (view : View) → option_map (λ (v : NamedView). v.view) (find (λ (v : NamedView). bytes_eq v.name name) vs) ≡ Some view → (v : NamedView) × Contains vs v × (v.view ≡ view)
view_in vs name view is = by (find (λ (v : NamedView). bytes_eq v.name name) vs) refl is
  where
    same : (x y : View) → Some x ≡ Some y → x ≡ y
    same x y e = cc e

    by : (o : Option NamedView) → find (λ (v : NamedView). bytes_eq v.name name) vs ≡ o → option_map (λ (v : NamedView). v.view) o ≡ Some view → (v : NamedView) × Contains vs v × (v.view ≡ view)
    by None found e = cc e
    by (Some v) found e = (v, (found_among (λ (x : NamedView). x.name) vs name v found).0, same v.view view e)

use_so : (w : Played) → Invariant w → (p : Participant) → participant w.0 p.name ≡ Some p → (view : View) → IsView view × HasKeys view × AreParticipants w.0 view → ToSuch Invariant (use_by w (Some p) (Some view))
use_so w keeps p is_p view fits = by (is_own_member hss_signing p.agent view) refl (not_named p.agent view) refl
  where
    by : (m : Bool) → is_own_member hss_signing p.agent view ≡ m → (n : Option Key) → not_named p.agent view ≡ n
        → ToSuch Invariant (let came = cond {A = HssEntering × Option HssKept} m (entering_with p.agent view (fails_next p.keeper) n) (NotMember, None) in after_entering w p view came.0 came.1)
    by false stranger n names = tt
    by true member (Some log) names = tt
    by true member None names = by_failure w keeps p is_p view fits.0 fits.1 fits.2 member names p.agent.has_failed

use_keeps : (w : Played) → Invariant w → (log name : List ℕ) (o : Option Participant) → participant w.0 log ≡ o → (v : Option View) → view_named w.0 name ≡ v → ToSuch Invariant (use_by w o v)
use_keeps w keeps log name None is v named = tt
use_keeps w keeps log name (Some p) is None named = tt
use_keeps w keeps log name (Some p) is (Some view) named =
    use_so w keeps p (ap (participant w.0) (found_named w.0.participants log p is).1 ∙ is) view
    (let found = view_in w.0.views name view named in
    subst (λ x. IsView x × HasKeys x × AreParticipants w.0 x) found.2 (each (λ (x : NamedView). IsView x.view × HasKeys x.view × AreParticipants w.0 x.view) w.0.views found.0 keeps.met.views found.1))

pub use_lines_keep : UseLinesKeep
use_lines_keep log name w next output keeps does = subst (λ (o : Outcome Played). ToSuch Invariant o) (sym does) (use_keeps w keeps log name (participant w.0 log) refl (view_named w.0 name) refl)
