-- One head of a log, by what was read back from it: no records that end there are sound and onward, so no chain leads to it; or they were taken, and are what its chain
-- has above the held record, or nothing is known of that record and they make no chain.
use Rattle.std.proofs.Common.{◌≡◌, ◌⊎◌, inl, inr, ℕ, ◌+◌, ◌-◌, ◌<◌, ◌≤◌, Bool, true, false, List, [], ◌∷◌, ◌++◌, length, reverse, Option, Some, None, refl, sym, ap, ◌∙◌, subst, arith, append_assoc, eq-eqb, Contains}
use Rattle.std.specs.Prelude.{◌≢◌, ◌==◌}
use Rattle.std.specs.List.{AllByRecursion}
use Rattle.std.proofs.lemmas.Bool.{cases_lt}
use Rattle.std.proofs.lemmas.List.{length-append, nil_from_length}
use Rattle.std.proofs.lemmas.List.Elements.{Contains-append_right}
use Rattle.ivy_base.specs.declared.key.Key.{Key}
use Rattle.ivy_base.specs.declared.key.PubKey.{PubKey}
use Rattle.ivy_base.specs.Naming.{IsCollisionFree, head_key_of}
use Rattle.log_model.specs.View.{View}
use Rattle.log_model.specs.Vector.{Stamp, Vector, stamp_at, reach, with_entry}
use Rattle.log_model.specs.Record.{Record}
use Rattle.log_model.specs.Rank.{own_entry, full_vector}
use Rattle.log_model.specs.Part.{goes_as_far}
use Rattle.log_model.specs.Spelling.{no_name}
use Rattle.log_model.specs.Chain.{IsChain, LinkedFrom}
use Rattle.log_model.specs.Standing.{StandsAmong, Stand}
use Rattle.log_model.proofs.Lists.{both, there, each, each_append, each_left, each_right}
use Rattle.log_model.proofs.Part.{far_dominates, dominates_far, Numbered, chain_front, numbered, numbers_below}
use Rattle.log_model.specs.Fetched.{Edge, owner_of, stamp_in, as_edge, EndsAtStamp, GoesOnFrom, IsOnward, IsSound, ChainFails, OldestNames, PassesFloor}
use Rattle.log_model.specs.declared.chain_fault.ChainFault.{ChainFault}
use Rattle.log_model.specs.declared.chain_fault.ChainFault.TheVariants.{Bad, Fork, Memory}
use Rattle.log_records.specs.Batches.{name_or_none}
use Rattle.log_records.proofs.Batches.{linked, extends, chains_begin, chains_go_on, passes_through}
use Rattle.causal_order.specs.Available.{above}
use Rattle.causal_order.proofs.Starts.{above_from}
use Rattle.agent_model.specs.Standing.{go_on_from}
use Rattle.tree_model.specs.Tree.{same_key}
use Rattle.tree_model.proofs.Keys.{same_key_itself}
use Rattle.turn_model.specs.Known as known
use Rattle.turn_model.specs.Candidates.{PassesThrough, MakeChain, IsPassedOver, Reading}
use Rattle.agent_model.specs.Candidates.{AreTaken}
use Rattle.session_model.specs.Brought.{Brought}
use Rattle.session_model.specs.Walks.{Walks, Came, Garbled}
use Rattle.session_laws.specs.Bringing.{AreMet}
use Rattle.turn_laws.proofs.LinkedLogs.{divided, last_seq, linked_left}
use Rattle.session_laws.proofs.ReadBack.{linked_owner, long, nothing_ends, read_is, is_read, read_owned, read_stands}
use Rattle.session_laws.proofs.Cuts.{linked_chain, StartsIn, IsLogKnown, IsAbove, above_held}

-- ---- plain facts

owned_owner : (owner : PubKey) (xs : List Record) (t : Stamp) → AllByRecursion (λ r. r.owner ≡ owner) xs → EndsAtStamp t xs → owner_of xs ≡ owner
owned_owner owner [] t all ends = absurd (nothing_ends t ends)
owned_owner owner (r ∷ rs) t all ends = all.0

fails_so : (view : View) (start floor : Vector) (edge : Option Edge) (head : Stamp) (chain : List Record) (fault : ChainFault) → ChainFails view start floor head edge chain fault → fault ≢ Memory
    → IsSound view start edge head chain → IsOnward start floor chain → ⊥
fails_so view start floor edge head chain Bad fails some sound onward = fails sound
fails_so view start floor edge head chain Fork fails some sound onward = fails.1 onward
fails_so view start floor edge head chain Memory fails some sound onward = some refl

-- nothing need be known of the held record
without : (held : Option Stamp) (edge : Option Edge) (knew : List Record) → StartsIn held edge knew → StartsIn held None knew
without None edge knew from = tt
without (Some t) edge knew from = (from.0, from.1, from.2, tt)

-- whether records that go on know all that the held record does
edge_or_not : (view : View) (t : Stamp) (e : Edge) (xs : List Record) → GoesOnFrom view (Some t) None xs → GoesOnFrom view (Some t) (Some e) xs ⊎ (GoesOnFrom view (Some t) (Some e) xs → ⊥)
edge_or_not view t e [] g = inl tt
edge_or_not view t e (r ∷ rs) g = by (goes_as_far (full_vector r) (with_entry e.vector (head_key_of r.owner, t))) refl
  where
    by : (b : Bool) → goes_as_far (full_vector r) (with_entry e.vector (head_key_of r.owner, t)) ≡ b → GoesOnFrom view (Some t) (Some e) (r ∷ rs) ⊎ (GoesOnFrom view (Some t) (Some e) (r ∷ rs) → ⊥)
    by true far = inl (g.0, g.1, far_dominates (full_vector r) (with_entry e.vector (head_key_of r.owner, t)) far, g.3)
    by false short = inr (λ h. let far = dominates_far (full_vector r) (with_entry e.vector (head_key_of r.owner, t)) h.2 in cc (far, short))

-- records that go on, by the test
go_on : (view : View) (held : Option Stamp) (edge : Option Edge) (t : Stamp) (xs : List Record) → EndsAtStamp t xs → GoesOnFrom view held edge xs → OldestNames held xs → go_on_from held xs ≡ true
go_on view held edge t [] ends g names = absurd (nothing_ends t ends)
go_on view None edge t (r ∷ rs) ends g names = eq-eqb r.seq 1 g.1.seq
go_on view (Some h) edge t (r ∷ rs) ends g names =
    both (r.seq == h.seq + 1) (same_key r.prev h.name) (eq-eqb r.seq (h.seq + 1) g.1) (subst (λ (k : Key). same_key r.prev k ≡ true) names (same_key_itself r.prev))

linked_numbered : (owner : PubKey) (n : ℕ) (prev : Key) (xs : List Record) → LinkedFrom owner n prev xs → Numbered n xs
linked_numbered owner n prev [] h = tt
linked_numbered owner n prev (x ∷ xs) h = (h.2, linked_numbered owner (n + 1) x.name xs h.4)

-- ---- through the floor's record

module _ (view : View) (owner : PubKey) where
  -- what is known goes as far as the floor
  known_size : (f : Stamp) (knew : List Record) → IsChain view owner knew → EndsAtStamp f knew → length knew ≡ f.seq
  known_size f knew of_knew ends = let size = long owner 1 no_name knew f (linked_chain view owner knew of_knew) ends in omega (arith, size)

  -- so the held record isn't above the floor
  pub starts_below : (held fl : Option Stamp) (edge : Option Edge) (knew : List Record) → IsChain view owner knew → known.EndsAt fl knew → StartsIn held edge knew → reach held ≤ reach fl
  starts_below None fl edge knew of_knew ends from = omega arith
  starts_below (Some t) None edge knew of_knew ends from = absurd (in_none knew from.0 ends from.1)
    where
      in_none : (xs : List Record) (r : Record) → xs ≡ [] → Contains xs r → ⊥
      in_none [] r e c = let lt = c.1 in omega (arith, lt)
      in_none (x ∷ xs) r e c = cc e
  starts_below (Some t) (Some f) edge knew of_knew ends from =
      let size = known_size f knew of_knew ends in
      let below = each (λ (q : Record). q.seq < 1 + length knew) knew from.0 (numbers_below 1 (1 + length knew) knew refl (numbered view owner knew of_knew)) from.1 in
      let same : from.0.seq ≡ t.seq = ap (λ (s : Stamp). s.seq) from.2 in
      omega (arith, size, below, same)

  begins_through : (fl : Option Stamp) (knew records : List Record) → IsChain view owner knew → known.EndsAt fl knew → PassesFloor fl 0 records → PassesThrough fl records
  begins_through None knew records of_knew ends passes = tt
  begins_through (Some f) knew records of_knew ends passes =
      let size = known_size f knew of_knew ends in
      let some : length knew ≡ length ends.0 + 1 = ap length ends.2 ∙ length-append ends.0 (ends.1 ∷ []) in
      passes_through f records (passes (omega (arith, size, some)))

  goes_through : (fl : Option Stamp) (b : ℕ) (knew before mid records : List Record) (r : Record) → IsChain view owner knew → known.EndsAt fl knew → knew ≡ before ++ r ∷ mid → r.seq ≡ b → PassesFloor fl b records
      → PassesThrough fl (before ++ r ∷ records)
  goes_through None b knew before mid records r of_knew ends e seq passes = tt
  goes_through (Some f) b knew before mid records r of_knew ends e seq passes = elim (cases_lt b f.seq) [
    | inl far ↦ (let h = passes far in passes_through f (before ++ r ∷ records) (h.0, Contains-append_right before (r ∷ records) h.0 (there r records h.0 h.1), h.2))
    | inr near ↦ (
        let size = known_size f knew of_knew ends in
        let parts : knew ≡ (before ++ r ∷ []) ++ mid = e ∙ sym (append_assoc before (r ∷ []) mid) in
        let number = last_seq owner 1 no_name before r (linked_left owner 1 no_name (before ++ r ∷ []) mid (subst (LinkedFrom owner 1 no_name) parts (linked_chain view owner knew of_knew))) in
        let long_both : length knew ≡ length (before ++ r ∷ []) + length mid = ap length parts ∙ length-append (before ++ r ∷ []) mid in
        let one_more = length-append before (r ∷ []) in
        let none : mid ≡ [] = nil_from_length mid (omega (arith, near, size, number, long_both, one_more, seq)) in
        let same : knew ≡ before ++ r ∷ [] = e ∙ ap (λ (l : List Record). before ++ r ∷ l) none in
        (before ++ r ∷ [], records, sym (append_assoc before (r ∷ []) records), subst (EndsAtStamp f) same ends)
        )
  ]

-- ---- one head

module _ (met : List (List ℕ)) (apart : IsCollisionFree met) (view : View) (owner : PubKey) (start floor : Vector) (knew : List Record) (k : IsLogKnown met view owner (stamp_at floor (head_key_of owner)) knew) where
  abbrev held : Option Stamp
  held = stamp_at start (head_key_of owner)

  abbrev read : Reading
  read = record { blocks = met; view = view; floor = floor }

  sound_of : (edge : Option Edge) (head : Stamp) (prev : Key) (high : List Record) → LinkedFrom owner (reach held + 1) prev high → EndsAtStamp head high → GoesOnFrom view held edge high → IsSound view start edge head high
  sound_of edge head prev high linked_high ends goes =
      let mine : owner ≡ owner_of high = sym (linked_owner owner (reach held + 1) prev high head linked_high ends) in
      record { goes_on = subst (λ (o : PubKey). GoesOnFrom view (stamp_at start (head_key_of o)) edge high) mine goes; ends = ends }

  onward_of : (head : Stamp) (prev : Key) (high : List Record) → LinkedFrom owner (reach held + 1) prev high → EndsAtStamp head high → OldestNames held high → PassesFloor (stamp_at floor (head_key_of owner)) (reach held) high → IsOnward start floor high
  onward_of head prev high linked_high ends names passes =
      let mine : owner ≡ owner_of high = sym (linked_owner owner (reach held + 1) prev high head linked_high ends) in
      record {
        names = subst (λ (o : PubKey). OldestNames (stamp_at start (head_key_of o)) high) mine names;
        passes = subst (λ (o : PubKey). PassesFloor (stamp_at floor (head_key_of o)) (reach (stamp_at start (head_key_of o))) high) mine passes;
      }

  -- no records that stand there and end at the head are sound and onward
  abbrev pub IsRefused : Option Edge → Stamp → Type 0
  IsRefused edge head = (prev : Key) (high : List Record) → LinkedFrom owner (reach held + 1) prev high → Stand met high → EndsAtStamp head high → IsSound view start edge head high → IsOnward start floor high → ⊥

  pub refused_came : (edge : Option Edge) (head : Stamp) {brought : List Brought} {records : List Record} → Walks owner (head.seq - reach held) head.name brought records Came → AreMet met brought
      → (fault : ChainFault) → fault ≢ Memory → ChainFails view start floor head edge (reverse records) fault → IsRefused edge head
  refused_came edge head {records = records} walk are fault some fails = λ prev high linked_high stand ends sound onward.
      let same : reverse records ≡ high = read_is met apart owner (reach held) prev high head linked_high stand ends are walk in
      fails_so view start floor edge head (reverse records) fault fails some (subst (IsSound view start edge head) (sym same) sound) (subst (IsOnward start floor) (sym same) onward)

  pub refused_garbled : (edge : Option Edge) (head : Stamp) {brought : List Brought} {records : List Record} → Walks owner (head.seq - reach held) head.name brought records Garbled → AreMet met brought → IsRefused edge head
  refused_garbled edge head walk are = λ prev high linked_high stand ends sound onward. is_read met apart owner (reach held) prev high head linked_high stand ends are walk

  of_chain : (edge : Option Edge) (head : Stamp) (chain : List Record) → StartsIn held edge knew → reach held < head.seq → MakeChain read owner head chain
      → IsAbove met apart view owner held (stamp_at floor (head_key_of owner)) knew k edge head chain
  of_chain edge head chain from far makes =
      above_held met apart view owner held (stamp_at floor (head_key_of owner)) knew k edge head chain from makes.chain_of_log makes.stand makes.ends makes.passes far

  -- so there is no chain to it
  pub passed_over : (edge : Option Edge) (head : Stamp) → StartsIn held edge knew → reach held < head.seq → IsRefused edge head → IsPassedOver read owner head
  passed_over edge head from far refused = λ chain makes.
      let a = of_chain edge head chain from far makes in
      refused a.prev a.high a.linked a.stand a.ends (sound_of edge head a.prev a.high a.linked a.ends a.goes_on) (onward_of head a.prev a.high a.linked a.ends a.names a.passes)

  -- and where nothing is known of the held record, none are taken
  pub not_taken : (head : Stamp) (records : List Record) → IsRefused None head → AreTaken read owner start head records → ⊥
  not_taken head records refused taken =
      let mine : owner_of records ≡ owner = owned_owner owner records head taken.owned taken.sound.ends in
      refused (name_or_none held) records
      (subst (λ (o : PubKey). LinkedFrom o (reach (stamp_at start (head_key_of o)) + 1) (name_or_none (stamp_at start (head_key_of o))) records) mine
      (linked view (stamp_in start records) None records taken.sound.goes_on taken.onward.names))
      taken.stand taken.sound.ends taken.sound taken.onward

  -- ---- records that were taken

  -- they are all that stand there and end at the head
  pub record IsGiven (edge : Option Edge) (head : Stamp) (records : List Record) : Type 0 where
    pub owned : AllByRecursion (λ r. r.owner ≡ owner) records
    pub stand : Stand met records
    pub sound : IsSound view start edge head records
    pub onward : IsOnward start floor records
    pub only : (prev : Key) (high : List Record) → LinkedFrom owner (reach held + 1) prev high → Stand met high → EndsAtStamp head high → records ≡ high

  pub given_came : (edge : Option Edge) (head : Stamp) {brought : List Brought} {records : List Record} → Walks owner (head.seq - reach held) head.name brought records Came → AreMet met brought
      → IsSound view start edge head (reverse records) → IsOnward start floor (reverse records) → IsGiven edge head (reverse records)
  given_came edge head walk are sound onward = record {
    owned = read_owned met apart owner walk are;
    stand = read_stands met apart owner walk are;
    sound = sound;
    onward = onward;
    only = λ prev high linked_high stand ends. read_is met apart owner (reach held) prev high head linked_high stand ends are walk;
  }

  -- of a chain to the head they are what is above
  pub given_above : (edge : Option Edge) (head : Stamp) (records chain : List Record) → StartsIn held edge knew → reach held < head.seq → IsGiven edge head records → MakeChain read owner head chain
      → records ≡ above (reach held) chain
  given_above edge head records chain from far given makes =
      let a = of_chain edge head chain from far makes in
      given.only a.prev a.high a.linked a.stand a.ends ∙ sym a.is

  abbrev HasChain : Stamp → Type 0
  HasChain head = (chain : List Record) × MakeChain read owner head chain

  module _ (edge : Option Edge) (head : Stamp) (records : List Record) (given : IsGiven edge head records) where
    mine : owner_of records ≡ owner
    mine = owned_owner owner records head given.owned given.sound.ends

    goes : GoesOnFrom view held edge records
    goes = subst (λ (o : PubKey). GoesOnFrom view (stamp_at start (head_key_of o)) edge records) mine given.sound.goes_on

    pub floor_passes : PassesFloor (stamp_at floor (head_key_of owner)) (reach held) records
    floor_passes = subst (λ (o : PubKey). PassesFloor (stamp_at floor (head_key_of o)) (reach (stamp_at start (head_key_of o))) records) mine given.onward.passes

    -- they are all above the held record, and go on from it
    pub all_above : above (reach held) records ≡ records
    all_above =
        above_from (reach held) (reach held + 1) records (linked_numbered owner (reach held + 1) (name_or_none held) records
        (subst (λ (o : PubKey). LinkedFrom o (reach (stamp_at start (head_key_of o)) + 1) (name_or_none (stamp_at start (head_key_of o))) records) mine
        (linked view (stamp_in start records) edge records given.sound.goes_on given.onward.names))) (omega arith)

    pub go_on_held : go_on_from held records ≡ true
    go_on_held = go_on view held edge head records given.sound.ends goes (subst (λ (o : PubKey). OldestNames (stamp_at start (head_key_of o)) records) mine given.onward.names)

    -- they begin the log
    chain_begins : held ≡ None → HasChain head
    chain_begins none =
        let none_held : stamp_in start records ≡ None = ap (λ (o : PubKey). stamp_at start (head_key_of o)) mine ∙ none in
        let whole = chains_begin view start floor edge head records none_held (extends view start floor edge head records given.sound given.onward) given.sound.goes_on in (
          records,
          record {
            chain_of_log = subst (λ (o : PubKey). IsChain view o records) mine whole.0;
            stand = given.stand;
            ends = whole.1;
            passes = begins_through view owner (stamp_at floor (head_key_of owner)) knew records k.chain k.ends (subst (λ (s : Option Stamp). PassesFloor (stamp_at floor (head_key_of owner)) (reach s) records) none floor_passes);
          },
        )

    -- or go on from the held record, where they know all that it does
    chain_goes_on : (t : Stamp) → held ≡ Some t → (r : Record) → Contains knew r → (own_entry r).1 ≡ t → GoesOnFrom view held (Some (as_edge r)) records → HasChain head
    chain_goes_on t some r within at on =
        let w = divided knew r within in
        let parts : knew ≡ (w.0 ++ r ∷ []) ++ w.1 = w.2 ∙ sym (append_assoc w.0 (r ∷ []) w.1) in
        let front : IsChain view owner (w.0 ++ r ∷ []) = chain_front view owner (w.0 ++ r ∷ []) w.1 (subst (IsChain view owner) parts k.chain) in
        let held_is : stamp_in start records ≡ Some (own_entry r).1 = ap (λ (o : PubKey). stamp_at start (head_key_of o)) mine ∙ some ∙ ap (λ (s : Stamp). Some s) (sym at) in
        let whole = chains_go_on view start floor head w.0 r records (subst (λ (o : PubKey). IsChain view o (w.0 ++ r ∷ [])) (sym mine) front) held_is
        (extends view start floor edge head records given.sound given.onward)
        (subst (λ (o : PubKey). GoesOnFrom view (stamp_at start (head_key_of o)) (Some (as_edge r)) records) (sym mine) on) in
        let stand_parts : Stand met (w.0 ++ r ∷ w.1) = subst (Stand met) w.2 k.stand in (
          w.0 ++ r ∷ records,
          record {
            chain_of_log = subst (λ (o : PubKey). IsChain view o (w.0 ++ r ∷ records)) mine whole.0;
            stand = each_append (StandsAmong met) w.0 (r ∷ records) (each_left (StandsAmong met) w.0 (r ∷ w.1) stand_parts) ((each_right (StandsAmong met) w.0 (r ∷ w.1) stand_parts).0, given.stand);
            ends = whole.1;
            passes = goes_through view owner (stamp_at floor (head_key_of owner)) t.seq knew w.0 w.1 records r k.chain k.ends w.2 (ap (λ (s : Stamp). s.seq) at) (subst (λ (s : Option Stamp). PassesFloor (stamp_at floor (head_key_of owner)) (reach s) records) some floor_passes);
          },
        )

    -- nothing is known of the held record, and there is no chain to the head
    abbrev pub Misleads : Type 0
    Misleads = (t : Stamp) × (held ≡ Some t) × (edge ≡ None) × IsPassedOver read owner head

    ends_in : (h : Option Stamp) → held ≡ h → (e : Option Edge) → edge ≡ e → StartsIn h e knew → reach held < head.seq → HasChain head ⊎ Misleads
    ends_in None is e at from far = inl (chain_begins is)
    ends_in (Some t) is (Some e) at from far =
        inl (chain_goes_on t is from.0 from.1 from.2 (subst (λ (x : Option Edge). GoesOnFrom view held x records) (at ∙ ap (λ (x : Edge). Some x) from.3) goes))
    ends_in (Some t) is None at from far =
        elim (edge_or_not view t (as_edge from.0) records (subst (λ (s : Option Stamp). GoesOnFrom view s None records) is (subst (λ (x : Option Edge). GoesOnFrom view held x records) at goes))) [
          | inl on ↦ inl (chain_goes_on t is from.0 from.1 from.2 (subst (λ (s : Option Stamp). GoesOnFrom view s (Some (as_edge from.0)) records) (sym is) on))
          | inr off ↦ inr (
            t,
            is,
            at,
            λ chain makes.
                let known_edge : StartsIn held (Some (as_edge from.0)) knew = subst (λ (s : Option Stamp). StartsIn s (Some (as_edge from.0)) knew) (sym is) (from.0, from.1, from.2, refl) in
                let a = of_chain (Some (as_edge from.0)) head chain known_edge far makes in
                off (subst (λ (s : Option Stamp). GoesOnFrom view s (Some (as_edge from.0)) records) is
                (subst (λ (l : List Record). GoesOnFrom view held (Some (as_edge from.0)) l) (sym (given.only a.prev a.high a.linked a.stand a.ends)) a.goes_on)),
          )
        ]

    pub head_ends : StartsIn held edge knew → reach held < head.seq → HasChain head ⊎ Misleads
    head_ends from far = ends_in held refl edge refl from far
