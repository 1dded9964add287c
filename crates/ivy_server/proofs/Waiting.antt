-- The messages that wait are served one by one, and a link goes on piece by piece.
use Rattle.std.proofs.Common.{◌≡◌, ◌≢◌, ◌⊎◌, inl, inr, ℕ, zero, suc, ◌<◌, ◌≤◌, List, [], ◌∷◌, ◌++◌, length, take, Option, Some, None, refl, sym, ap, ◌∙◌, subst, arith}
use Rattle.std.proofs.lemmas.List.{append_assoc, append-nil}
use Rattle.ivy_io.proofs.KnownLemmas.{onto-nil, onto-onto}
use Rattle.ivy_io.specs.Known.{IsAtEnd, onto}
use Rattle.rpc_wire.proofs.FrameLemmas.{not_both, one_split}
use Rattle.rpc_wire.proofs.FrameRuns.{whole_are_split}
use Rattle.rpc_wire.specs.Frames.{IsSplit, IsTooLong}
use Rattle.rpc_wire.specs.FrameReading.{Exceeded, Frames, Header, Inside, IsAfter, Part, Stands}
use Rattle.session_model.specs.Sessions.{Cache}
use Rattle.server_model.specs.Links.{HasRead}
use Rattle.server_model.specs.Links.Link.{done, cut, too_long, read_fault, stopped}
use Rattle.server_model.specs.declared.ended.Ended.{Ended}
use Rattle.server_model.specs.declared.ended.Ended.TheVariants as ended
use Rattle.ivy_server.specs.Passes.{Passes}
use Rattle.ivy_server.specs.Served.{IsServed, Marks, Surroundings}
use Rattle.ivy_server.specs.Sessions.{Place, Setting, server_of}
use Rattle.ivy_server.specs.Streams.{HasReadPiece, HasServedOne, HasServedPiece, IsBetween, IsOnAfter, IsServing, SourceState, piece_end, piece_last}
use Rattle.ivy_server.specs.declared.serve.Piece.{Piece}
use Rattle.ivy_server.specs.declared.serve.Piece.TheVariants as piece
use Rattle.ivy_server.proofs.Streams.{begins_on, reads_first, rose_since, serving_first}

-- what serving a message touches
pub record Near (P C : Type 0) : Type 0 where
  pub held : Option (List ℕ)
  pub writes : ℕ
  pub pass : P
  pub marks : Marks C

-- with what is left of the source, and its count of faults
abbrev pub with_source : {P C : Type 0} → Option (List ℕ) → ℕ → Near P C → Surroundings P C
with_source left reads near = record { left = left; held = near.held; reads = reads; writes = near.writes; pass = near.pass; marks = near.marks }

-- ---- the messages that wait

module _ {P K S C : Type 0} (by : Passes P K S) (gives : C → ℕ × ℕ → C → Type 0) where
  -- whatever was served before: these messages more were served, of all that waited
  abbrev pub ServesMore : Place → List (List ℕ) → Near P C → Near P C → Cache → Cache → List (List ℕ) → Option Ended → Type 0
  ServesMore place all old new cache later gone how = (start : Surroundings P C) (left : Option (List ℕ)) (reads : ℕ) (read : List ℕ) (taken : List (List ℕ))
      → IsServing (record { by = by; gives = gives; place = place }) start (with_source left reads old) cache read taken → HasRead read (taken ++ all)
      → HasServedOne (record { by = by; gives = gives; place = place }) start (with_source left reads new) later read (taken ++ gone) how

  -- how far the waiting messages are served
  pub record IsAmidst (place : Place) (all rest : List (List ℕ)) (old new : Near P C) (cache later : Cache) : Type 0 where
    pub gone : List (List ℕ)
    pub are : all ≡ gone ++ rest
    pub serves : ServesMore place all old new cache later gone None

  pub amidst_first : (place : Place) (all : List (List ℕ)) (near : Near P C) (cache : Cache) → IsAmidst place all all near near cache cache
  amidst_first place all near cache = record {
    gone = [];
    are = refl;
    serves = λ start left reads read taken serving in_order. subst (IsServing (record { by = by; gives = gives; place = place }) start (with_source left reads near) cache read) (sym (append-nil taken)) serving;
  }

  module _ (place now : Place) (same : now ≡ place) (all rest : List (List ℕ)) (old mid new : Near P C) (cache between later : Cache) (amidst : IsAmidst place all rest old mid cache between) where
    -- none is left
    pub amidst_last : rest ≡ [] → ServesMore place all old mid cache between all None
    amidst_last none = subst (λ (l : List (List ℕ)). ServesMore place all old mid cache between l None) (sym (amidst.are ∙ ap (λ l. amidst.gone ++ l) none ∙ append-nil amidst.gone)) amidst.serves

    module _ (message : List ℕ) (behind : List (List ℕ)) (first : rest ≡ message ∷ behind) where
      are_now : all ≡ (amidst.gone ++ message ∷ []) ++ behind
      are_now = amidst.are ∙ ap (λ l. amidst.gone ++ l) first ∙ sym (append_assoc amidst.gone (message ∷ []) behind)

      next_in_order : (read : List ℕ) (taken : List (List ℕ)) → HasRead read (taken ++ all) → HasRead read ((taken ++ amidst.gone) ++ message ∷ [])
      next_in_order read taken in_order =
          subst (HasRead read) (sym (append_assoc taken amidst.gone (message ∷ [])))
          (reads_first read (taken ++ (amidst.gone ++ message ∷ [])) behind
          (subst (HasRead read) (ap (λ l. taken ++ l) are_now ∙ sym (append_assoc taken (amidst.gone ++ message ∷ []) behind)) in_order))

      abbrev One : Option Ended → Place → Type 0
      One how p = (start : Surroundings P C) (left : Option (List ℕ)) (reads : ℕ) (read : List ℕ) (taken : List (List ℕ))
          → IsServing (record { by = by; gives = gives; place = p }) start (with_source left reads mid) between read taken → HasRead read (taken ++ message ∷ [])
          → HasServedOne (record { by = by; gives = gives; place = p }) start (with_source left reads new) later read (taken ++ message ∷ []) how

      -- one more was served
      pub amidst_next : One None now → IsAmidst place all behind old new cache later
      amidst_next one = record {
        gone = amidst.gone ++ message ∷ [];
        are = are_now;
        serves = λ start left reads read taken serving in_order.
            subst (IsServing (record { by = by; gives = gives; place = place }) start (with_source left reads new) later read) (append_assoc taken amidst.gone (message ∷ []))
            (subst (One None) same one start left reads read (taken ++ amidst.gone) (amidst.serves start left reads read taken serving in_order) (next_in_order read taken in_order));
      }

      -- or the link has ended
      pub amidst_ends : (how : Ended) → One (Some how) now → ServesMore place all old new cache later all (Some how)
      amidst_ends how one start left reads read taken serving in_order =
          subst (One (Some how)) same one start left reads read (taken ++ amidst.gone) (amidst.serves start left reads read taken serving in_order) (next_in_order read taken in_order)

-- ---- frames

split_now : (p : Part) (fed : List ℕ) (ms : List (List ℕ)) → Stands fed ms p → ((rest : List ℕ) × IsSplit fed ms rest) ⊎ IsTooLong fed ms
split_now (Header body begun) fed ms h = inl (h.0, h.1)
split_now (Inside body last left) fed ms h = inl (h.0, h.1)
split_now Exceeded fed ms h = inr h

-- nothing waits in a reader that was fed nothing
pub first_between : (frames : Frames) → IsAfter [] [] frames → IsBetween [] [] frames
first_between frames after = by (split_now frames.part [] frames.waiting after)
  where
    empty : IsSplit [] [] []
    empty = whole_are_split [] tt

    by : ((rest : List ℕ) × IsSplit [] frames.waiting rest) ⊎ IsTooLong [] frames.waiting → IsBetween [] [] frames
    by (inl s) = record { after = after; none = (one_split [] frames.waiting [] s.0 [] s.1 empty).0; split = ([], empty) }
    by (inr t) = absurd (not_both [] [] frames.waiting [] empty t)

-- the reader once all that waited was taken
taken_all : (read : List ℕ) (taken : List (List ℕ)) (old new : Frames) → new.waiting ≡ [] → new.part ≡ old.part → IsAfter read taken old → IsAfter read (taken ++ old.waiting) new
taken_all read taken old new none part after =
    subst (λ (w : List (List ℕ)). Stands read ((taken ++ old.waiting) ++ w) new.part) (sym none)
    (subst (λ (l : List (List ℕ)). Stands read l new.part) (sym (append-nil (taken ++ old.waiting))) (subst (Stands read (taken ++ old.waiting)) (sym part) after))

reading_or_not : (how : Ended) → None ≡ Some how → ⊥
reading_or_not how e = cc e

same_end : (a b : Ended) → Some a ≡ Some b → a ≡ b
same_end a b e = cc e

at_most : (a b c : ℕ) → a ≤ b → b ≤ c → a ≤ c
at_most a b c first second = omega (arith, first, second)

some_more : (rest piece : List ℕ) → piece ≢ [] → rest ++ piece ≢ []
some_more [] piece some e = some e
some_more (byte ∷ rest) piece some e = cc e

-- ---- a link, piece by piece

module _ {P K S C : Type 0} (setting : Setting P K S C) (start : Surroundings P C) where
  pub on_first : (frames : Frames) → IsAfter [] [] frames → IsOnAfter setting start start [] frames
  on_first frames after = record { read = []; taken = []; serving = serving_first setting start (sym (onto-nil start.left)); between = first_between frames after }

  -- there was no memory to begin
  pub ends_at_once : IsServed (server_of setting) start start ended.Memory
  ends_at_once =
      let serving = serving_first setting start (sym (onto-nil start.left)) in
      record {
        execution = record { read = []; acts = serving.acts; written = _ };
        link = stopped [] (inl refl) (record { framed = []; fit = tt; are = refl; spelled = refl }) serving.served (inl refl);
        left = serving.left;
        held = serving.held;
        marks = serving.marks;
        cause = tt;
        reads = serving.reads;
        writes = serving.writes;
      }

  module _ (before : Surroundings P C) (cache : Cache) (old : Frames) (on : IsOnAfter setting start before cache old) (left : Option (List ℕ)) (reads : ℕ) (later : before.reads ≤ reads) where
    abbrev now : Surroundings P C
    now = record before { left = left; reads = reads }

    abbrev old_source : SourceState
    old_source = record { left = before.left; faults = before.reads }

    abbrev new_source : SourceState
    new_source = record { left = left; faults = reads }

    -- as far as the bytes read are these
    left_so : (bytes : List ℕ) → before.left ≡ onto bytes left → start.left ≡ onto (on.read ++ bytes) left
    left_so bytes is = on.serving.left ∙ ap (λ k. onto on.read k) is ∙ onto-onto on.read bytes left

    left_same : left ≡ before.left → start.left ≡ onto on.read left
    left_same is = on.serving.left ∙ ap (λ k. onto on.read k) (sym is)

    reads_so : start.reads ≤ reads
    reads_so = at_most start.reads before.reads reads on.serving.reads later

    -- a piece more was read
    pub serving_piece : (bytes : List ℕ) → before.left ≡ onto bytes left → IsServing setting start now cache (on.read ++ bytes) on.taken
    serving_piece bytes is = record {
      replies = on.serving.replies;
      acts = on.serving.acts;
      served = on.serving.served;
      left = left_so bytes is;
      held = on.serving.held;
      marks = on.serving.marks;
      reads = reads_so;
      writes = on.serving.writes;
    }

    -- no message more can be served
    module _ (frames : Frames) where
      ends_by : (p : Piece) → HasReadPiece old_source new_source on.read on.taken frames p → (how : Ended) → piece_end p ≡ Some how → IsServed (server_of setting) start now how
      ends_by piece.Fed h how e = absurd (reading_or_not how e)
      ends_by piece.TooLong h how e = absurd (reading_or_not how e)
      ends_by piece.End h how e = subst (IsServed (server_of setting) start now) (same_end ended.Done how e) (record {
        execution = record { read = on.read; acts = on.serving.acts; written = _ };
        link = done h.2 on.serving.served;
        left = left_same h.0;
        held = on.serving.held;
        marks = on.serving.marks;
        cause = h.1;
        reads = reads_so;
        writes = on.serving.writes;
      })
      ends_by piece.CutOff h how e = subst (IsServed (server_of setting) start now) (same_end ended.Cut how e) (record {
        execution = record { read = on.read; acts = on.serving.acts; written = _ };
        link = cut h.2.0 h.2.1 h.2.2 on.serving.served;
        left = left_same h.0;
        held = on.serving.held;
        marks = on.serving.marks;
        cause = h.1;
        reads = reads_so;
        writes = on.serving.writes;
      })
      ends_by piece.Fault h how e = subst (IsServed (server_of setting) start now) (same_end ended.ReadFault how e) (record {
        execution = record { read = on.read; acts = on.serving.acts; written = _ };
        link = read_fault on.between.split.0 on.between.split.1 on.serving.served;
        left = left_same h.0;
        held = on.serving.held;
        marks = on.serving.marks;
        cause = rose_since start.reads before.reads reads on.serving.reads h.1;
        reads = reads_so;
        writes = on.serving.writes;
      })
      ends_by piece.Memory h how e = subst (IsServed (server_of setting) start now) (same_end ended.Memory how e) (record {
        execution = record { read = on.read ++ h.0; acts = on.serving.acts; written = _ };
        link = stopped (on.between.split.0 ++ h.0) (inr (some_more on.between.split.0 h.0 h.2)) (begins_on on.read h.0 on.between.split.0 on.taken on.between.split.1.begins) on.serving.served (inl refl);
        left = left_so h.0 h.1;
        held = on.serving.held;
        marks = on.serving.marks;
        cause = tt;
        reads = reads_so;
        writes = on.serving.writes;
      })

      pub piece_ends : (p : Piece) → HasReadPiece old_source new_source on.read on.taken frames p → (how : Ended) → (out : Option Ended) → out ≡ piece_end p → out ≡ Some how → IsServed (server_of setting) start now how
      piece_ends p h how out is e = ends_by p h how (sym is ∙ e)

      -- some may be served
      pub record BringsMessages : Type 0 where
        pub bytes : List ℕ
        pub left_is : before.left ≡ onto bytes left
        pub after : IsAfter (on.read ++ bytes) on.taken frames
        pub in_order : HasRead (on.read ++ bytes) (on.taken ++ frames.waiting)

      brings_by : (p : Piece) → HasReadPiece old_source new_source on.read on.taken frames p → piece_end p ≡ None → BringsMessages
      brings_by piece.Fed h e = record { bytes = h.0; left_is = h.1; after = h.2; in_order = (h.3.0, h.3.1.begins) }
      brings_by piece.TooLong h e = record { bytes = h.0; left_is = h.1; after = h.2; in_order = (h.3.rest, h.3.begins) }
      brings_by piece.End h e = cc e
      brings_by piece.CutOff h e = cc e
      brings_by piece.Fault h e = cc e
      brings_by piece.Memory h e = cc e

      pub brings : (p : Piece) → HasReadPiece old_source new_source on.read on.taken frames p → (out : Option Ended) → out ≡ piece_end p → out ≡ None → BringsMessages
      brings p h out is e = brings_by p h (sym is ∙ e)

      -- all that waited were served
      module _ (after : Surroundings P C) (then : Cache) (left_frames : Frames) (none : left_frames.waiting ≡ []) (part : left_frames.part ≡ frames.part) where
        pub on_next : (h : HasReadPiece old_source new_source on.read on.taken frames piece.Fed) → IsServing setting start after then (on.read ++ h.0) (on.taken ++ frames.waiting) → IsOnAfter setting start after then left_frames
        on_next h serving = record {
          read = on.read ++ h.0;
          taken = on.taken ++ frames.waiting;
          serving = serving;
          between = record { after = taken_all (on.read ++ h.0) on.taken frames left_frames none part h.2; none = none; split = h.3 };
        }

        pub ends_too_long : (h : HasReadPiece old_source new_source on.read on.taken frames piece.TooLong) → IsServing setting start after then (on.read ++ h.0) (on.taken ++ frames.waiting) → IsServed (server_of setting) start after ended.TooLong
        ends_too_long h serving = record {
          execution = record { read = on.read ++ h.0; acts = serving.acts; written = _ };
          link = too_long h.3 serving.served;
          left = serving.left;
          held = serving.held;
          marks = serving.marks;
          cause = tt;
          reads = serving.reads;
          writes = serving.writes;
        }

      -- all that wait are served, or the link has ended
      module _ (p : Piece) (h : HasReadPiece old_source new_source on.read on.taken frames p) (out : Option Ended) (is : out ≡ piece_end p) (goes : out ≡ None) (after : Surroundings P C) where
        pub waiting_ended : (how : Ended) → ((read : List ℕ) (taken : List (List ℕ)) → IsServing setting start now cache read taken → HasRead read (taken ++ frames.waiting) → IsServed (server_of setting) start after how)
            → IsServed (server_of setting) start after how
        waiting_ended how serves = let b = brings p h out is goes in serves (on.read ++ b.bytes) on.taken (serving_piece b.bytes b.left_is) b.in_order

      waited : (after : Surroundings P C) (then : Cache) (left_frames : Frames) → left_frames.waiting ≡ [] → left_frames.part ≡ frames.part
          → ((read : List ℕ) (taken : List (List ℕ)) → IsServing setting start now cache read taken → HasRead read (taken ++ frames.waiting) → IsServing setting start after then read (taken ++ frames.waiting))
          → (p : Piece) → HasReadPiece old_source new_source on.read on.taken frames p → piece_end p ≡ None → HasServedPiece setting start after then left_frames (piece_last p)
      waited after then left_frames none part serves piece.Fed h e =
          on_next after then left_frames none part h (serves (on.read ++ h.0) on.taken (serving_piece h.0 h.1) (h.3.0, h.3.1.begins))
      waited after then left_frames none part serves piece.TooLong h e =
          ends_too_long after then left_frames none part h (serves (on.read ++ h.0) on.taken (serving_piece h.0 h.1) (h.3.rest, h.3.begins))
      waited after then left_frames none part serves piece.End h e = cc e
      waited after then left_frames none part serves piece.CutOff h e = cc e
      waited after then left_frames none part serves piece.Fault h e = cc e
      waited after then left_frames none part serves piece.Memory h e = cc e

      pub waiting_served : (p : Piece) → HasReadPiece old_source new_source on.read on.taken frames p → (out : Option Ended) → out ≡ piece_end p → out ≡ None → (after : Surroundings P C) (then : Cache) (left_frames : Frames)
          → (left_frames.waiting ≡ []) × (left_frames.part ≡ frames.part)
          → ((read : List ℕ) (taken : List (List ℕ)) → IsServing setting start now cache read taken → HasRead read (taken ++ frames.waiting) → IsServing setting start after then read (taken ++ frames.waiting))
          → (last : Option Ended) → last ≡ piece_last p → HasServedPiece setting start after then left_frames last
      waiting_served p h out is goes after then left_frames stays serves last last_is =
          subst (HasServedPiece setting start after then left_frames) (sym last_is) (waited after then left_frames stays.0 stays.1 serves p h (sym is ∙ goes))

-- ---- the end of a source inside a message

pub cut_off : (read : List ℕ) (taken : List (List ℕ)) (frames : Frames) → IsBetween read taken frames → (IsSplit read (taken ++ frames.waiting) [] → ⊥) → (rest : List ℕ) × (rest ≢ []) × IsSplit read taken rest
cut_off read taken frames between not_whole =
    (between.split.0, λ empty. not_whole (subst (λ (l : List (List ℕ)). IsSplit read l []) (sym (append-nil taken) ∙ ap (λ l. taken ++ l) (sym between.none)) (subst (IsSplit read taken) empty between.split.1)), between.split.1)

-- a source that gave something
pub gave_some : (into : List ℕ) (n : ℕ) → (n ≡ 0 → ⊥) → n ≤ length into → take n into ≢ []
gave_some into zero some few e = absurd (some refl)
gave_some [] (suc n) some few e = absurd (omega (arith, few))
gave_some (byte ∷ into) (suc n) some few e = cc e

-- a source that gave nothing into some room is at its end
pub ended_source : (old new : Option (List ℕ)) (into : List ℕ) (n : ℕ) → n ≡ 0 → 0 < length into → (old ≡ onto (take n into) new) × (n ≡ 0 → 0 < length into → IsAtEnd new) → (new ≡ old) × IsAtEnd new
ended_source old new into n none room bytes = (sym (bytes.0 ∙ ap (λ k. onto (take k into) new) none ∙ onto-nil new), bytes.1 none room)

-- in a place that stayed
module _ {P K S C : Type 0} (by : Passes P K S) (gives : C → ℕ × ℕ → C → Type 0) (place later : Place) (same : later ≡ place) (start old now : Surroundings P C) (cache then : Cache) (frames next : Frames) (how : Option Ended) where
  abbrev ServesPiece : Place → Type 0
  ServesPiece p = (s : Surroundings P C) → IsOnAfter (record { by = by; gives = gives; place = p }) s old cache frames → HasServedPiece (record { by = by; gives = gives; place = p }) s now then next how

  pub still_served : IsOnAfter (record { by = by; gives = gives; place = place }) start old cache frames → ServesPiece later → HasServedPiece (record { by = by; gives = gives; place = place }) start now then next how
  still_served on serves = subst ServesPiece same serves start on

-- with an empty cache
pub on_first_of : {P K S C : Type 0} (setting : Setting P K S C) (start : Surroundings P C) (cache : Cache) → cache ≡ [] → (frames : Frames) → IsAfter [] [] frames → IsOnAfter setting start start cache frames
on_first_of setting start cache empty frames after = subst (λ (c : Cache). IsOnAfter setting start start c frames) (sym empty) (on_first setting start frames after)
