-- A link on its way: a message more, and each way in which it may end.
use Rattle.std.proofs.Common.{◌≡◌, ◌≢◌, inr, ℕ, ◌+◌, ◌≤◌, Bool, true, false, List, [], ◌∷◌, ◌++◌, length, take, map, Option, Some, None, Result, Ok, Err, refl, sym, ap, ◌∙◌, subst, arith, length-append}
use Rattle.std.specs.List.{AllByRecursion, flat_map}
use Rattle.std.proofs.lemmas.List.{append_assoc, append-nil}
use Rattle.std.proofs.lemmas.List.Concat.{flat_map-append}
use Rattle.ivy_io.proofs.KnownLemmas.{then-nil, then-then}
use Rattle.ivy_io.specs.Causes.{Rose}
use Rattle.ivy_io.specs.Known.{onto, then}
use Rattle.ivy_io.specs.declared.fault.SinkFault.{SinkFault}
use Rattle.ivy_io.specs.declared.fault.SinkFault.TheVariants as fault
use Rattle.rpc_wire.proofs.FrameLemmas.{header_length}
use Rattle.rpc_wire.specs.Frames.{Begins, Fits, Framed, fragment, header, marked, message as bytes_in}
use Rattle.session_model.specs.Sessions.{Cache}
use Rattle.server_model.specs.Acts.{Act}
use Rattle.server_model.specs.Links.{HasRead, HasServedNext, Link, sent}
use Rattle.server_model.specs.Links.Link.{not_a_call, write_fault, unwritten, was_cut, stopped}
use Rattle.server_model.specs.Serving.{Answer, Serves}
use Rattle.server_model.specs.Serving.ServesEach.{none as each_none, more as each_more}
use Rattle.server_model.specs.Takers.{MayHaveLooked}
use Rattle.server_model.specs.declared.ended.Ended.{Ended}
use Rattle.server_model.specs.declared.ended.Ended.TheVariants as ended
use Rattle.ivy_server.specs.Passes.{by_passes}
use Rattle.ivy_server.specs.Served.{HasEndCause, IsServed, Leave, Marks, Surroundings}
use Rattle.ivy_server.specs.Sessions.{Setting, Touched, WasServed, ring_in, server_of}
use Rattle.ivy_server.specs.Streams.{HasSent, HasServedOne, IsServing, SinkState, end_for}
use Rattle.ivy_server.proofs.Marks.{leave_none, leave_then}

-- ---- bytes that begin with messages

no_sum : (a h l r m t : ℕ) → t ≡ ((a + (h + l)) + r) + m → t ≡ 0 → h ≡ 4 → ⊥
no_sum a h l r m t is none four = absurd (four_or_none (a + h + l + r + m) h (omega (arith, is, none)) four)
  where
    four_or_none : (all part : ℕ) → part ≡ 0 → part ≡ 4 → ⊥
    four_or_none all part none four = cc (sym none ∙ four)

pub not_empty : (f : Framed) (rest more : List ℕ) → (marked f ++ rest) ++ more ≡ [] → ⊥
not_empty f rest more e = no_sum (length (flat_map (fragment false) f.earlier)) (length (header true (length f.last))) (length f.last) (length rest) (length more) (length ((marked f ++ rest) ++ more))
    (length-append (marked f ++ rest) more ∙ ap (λ n. n + length more) (length-append (marked f) rest ∙ ap (λ n. n + length rest)
    (length-append (flat_map (fragment false) f.earlier) (fragment true f.last) ∙ ap (λ n. length (flat_map (fragment false) f.earlier) + n) (length-append (header true (length f.last)) f.last))))
    (ap (λ (l : List ℕ). length l) e) (header_length true (length f.last))

-- they begin with the first of these
split_map : (first second : List (List ℕ)) (framed : List Framed) → AllByRecursion Fits framed → first ++ second ≡ map bytes_in framed
    → (front : List Framed) × (back : List Framed) × AllByRecursion Fits front × (first ≡ map bytes_in front) × (second ≡ map bytes_in back) × (flat_map marked framed ≡ flat_map marked front ++ flat_map marked back)
split_map [] second framed fit are = ([], framed, tt, refl, are, refl)
split_map (m ∷ first) second [] fit are = cc are
split_map (m ∷ first) second (f ∷ framed) fit are =
    let rest = split_map first second framed fit.1 (tail_same m (bytes_in f) (first ++ second) (map bytes_in framed) are) in (
      f ∷ rest.0,
      rest.1,
      (fit.0, rest.2),
      head_same m (bytes_in f) (first ++ second) (map bytes_in framed) first (map bytes_in rest.0) are rest.3,
      rest.4,
      ap (λ l. marked f ++ l) rest.5 ∙ sym (append_assoc (marked f) (flat_map marked rest.0) (flat_map marked rest.1)),
    )
  where
    tail_same : (a b : List ℕ) (x y : List (List ℕ)) → a ∷ x ≡ b ∷ y → x ≡ y
    tail_same a b x y e = cc e

    head_same : (a b : List ℕ) (x y u v : List (List ℕ)) → a ∷ x ≡ b ∷ y → u ≡ v → a ∷ u ≡ b ∷ v
    head_same a b x y u v e same = cc (e, same)

-- and what stands after the first
pub begins_first : (bytes : List ℕ) (first second : List (List ℕ)) (rest : List ℕ) → Begins bytes (first ++ second) rest → (back : List Framed) × (second ≡ map bytes_in back) × Begins bytes first (flat_map marked back ++ rest)
begins_first bytes first second rest h =
    let s = split_map first second h.framed h.fit h.are in (
      s.1,
      s.4,
      record { framed = s.0; fit = s.2; are = s.3; spelled = h.spelled ∙ ap (λ l. l ++ rest) s.5 ∙ append_assoc (flat_map marked s.0) (flat_map marked s.1) rest },
    )

pub reads_first : (bytes : List ℕ) (first second : List (List ℕ)) → HasRead bytes (first ++ second) → HasRead bytes first
reads_first bytes first second h = let b = begins_first bytes first second h.0 h.1 in (flat_map marked b.0 ++ h.0, b.2)

-- where another message follows, something is after the first
some_behind : (message rest : List ℕ) (back : List Framed) → message ∷ [] ≡ map bytes_in back → flat_map marked back ++ rest ≡ [] → ⊥
some_behind message rest [] are e = cc are
some_behind message rest (f ∷ back) are e = not_empty f (flat_map marked back) rest e

pub begins_before : (bytes : List ℕ) (first : List (List ℕ)) (message : List ℕ) → HasRead bytes (first ++ message ∷ []) → (rest : List ℕ) × (rest ≢ []) × Begins bytes first rest
begins_before bytes first message h =
    let b = begins_first bytes first (message ∷ []) h.0 h.1 in (flat_map marked b.0 ++ h.0, some_behind message h.0 b.0 b.1, b.2)

-- with more bytes
pub begins_on : (bytes piece rest : List ℕ) (messages : List (List ℕ)) → Begins bytes messages rest → Begins (bytes ++ piece) messages (rest ++ piece)
begins_on bytes piece rest messages h =
    record { framed = h.framed; fit = h.fit; are = h.are; spelled = ap (λ l. l ++ piece) h.spelled ∙ append_assoc (flat_map marked h.framed) rest piece }

-- ---- counts

pub rose_since : (first before now : ℕ) → first ≤ before → Rose before now → Rose first now
rose_since first before now later rose = omega (arith, later, rose)

at_most : (a b c : ℕ) → a ≤ b → b ≤ c → a ≤ c
at_most a b c first second = omega (arith, first, second)

-- ---- what is sent

sent_one_more : (replies : List (List ℕ)) (reply : List ℕ) → sent (replies ++ reply ∷ []) ≡ sent replies ++ fragment true reply
sent_one_more replies reply = flat_map-append (fragment true) replies (reply ∷ []) ∙ ap (λ l. sent replies ++ l) (append-nil (fragment true reply))

module _ {P K S C : Type 0} (setting : Setting P K S C) (start : Surroundings P C) where
  -- ---- the first message is still to come

  pub serving_first : start.left ≡ onto [] start.left → IsServing setting start start [] [] []
  serving_first same = record {
    replies = [];
    acts = [];
    served = each_none;
    left = same;
    held = sym (then-nil start.held);
    marks = leave_none start.marks;
    reads = omega (arith);
    writes = omega (arith);
  }

  -- ---- a message

  module _ (before : Surroundings P C) (cache : Cache) (read : List ℕ) (taken : List (List ℕ)) (serving : IsServing setting start before cache read taken) (message : List ℕ) (in_order : HasRead read (taken ++ message ∷ [])) where
    abbrev touched : Touched P C
    touched = record { pass = before.pass; marks = before.marks }

    -- no session could begin
    pub ends_before : (p : P) (marks : Marks C) → MayHaveLooked (by_passes setting.by) before.pass p → marks ≡ before.marks → IsServed (server_of setting) start (record before { pass = p; marks = marks }) ended.Memory
    ends_before p marks looked same = let b = begins_before read taken message in_order in record {
      execution = record { read = read; acts = serving.acts; written = sent serving.replies };
      link = stopped b.0 (inr b.1) b.2 serving.served looked;
      left = serving.left;
      held = serving.held;
      marks = subst (Leave setting.gives start.marks serving.acts) (sym same) serving.marks;
      cause = tt;
      reads = serving.reads;
      writes = serving.writes;
    }

    module _ (p : P) (marks : Marks C) (new : Cache) where
      marks_then : (next : List Act) → Leave setting.gives before.marks next marks → Leave setting.gives start.marks (serving.acts ++ next) marks
      marks_then next leave = leave_then start.marks before.marks marks serving.acts next serving.marks leave

      abbrev ServedSo : List Act → Answer → Type 0
      ServedSo next answer = Serves (by_passes setting.by) (ring_in setting.place) (record { taker = before.pass; cache = cache }) message next answer (record { taker = p; cache = new })

      next_so : (next : List Act) (answer : Answer) → ServedSo next answer → HasServedNext (by_passes setting.by) (ring_in setting.place) start.pass read (serving.acts ++ next) serving.replies answer p
      next_so next answer is = record {
        messages = taken;
        message = message;
        earlier = serving.acts;
        next = next;
        before = record { taker = before.pass; cache = cache };
        after = record { taker = p; cache = new };
        are = refl;
        served = serving.served;
        in_order = in_order;
        serves = is;
        taker_is = refl;
      }

      -- it is no call
      pub ends_not_a_call : (is_cut : Bool) × WasServed setting message cache new touched (record { pass = p; marks = marks }) (record { reply = None; is_cut = is_cut })
          → IsServed (server_of setting) start (record before { pass = p; marks = marks }) ended.NotACall
      ends_not_a_call was = record {
        execution = record { read = read; acts = serving.acts ++ was.1.acts; written = sent serving.replies };
        link = not_a_call was.0 (next_so was.1.acts _ was.1.serves);
        left = serving.left;
        held = serving.held;
        marks = marks_then was.1.acts was.1.leave;
        cause = tt;
        reads = serving.reads;
        writes = serving.writes;
      }

      -- ---- its reply

      module _ (reply : List ℕ) (is_cut : Bool) (was : WasServed setting message cache new touched (record { pass = p; marks = marks }) (record { reply = Some reply; is_cut = is_cut })) (held : Option (List ℕ)) (writes : ℕ) where
        abbrev after : Surroundings P C
        after = record before { pass = p; marks = marks; held = held; writes = writes }

        abbrev old_sink : SinkState
        old_sink = record { held = before.held; faults = before.writes }

        abbrev new_sink : SinkState
        new_sink = record { held = held; faults = writes }

        whole_now : held ≡ then before.held (fragment true reply) → held ≡ then start.held (sent (serving.replies ++ reply ∷ []))
        whole_now is = is ∙ ap (λ k. then k (fragment true reply)) serving.held ∙ then-then start.held (sent serving.replies) (fragment true reply) ∙ ap (λ l. then start.held l) (sym (sent_one_more serving.replies reply))

        part_now : (count : ℕ) → held ≡ then before.held (take count (fragment true reply)) → held ≡ then start.held (sent serving.replies ++ take count (fragment true reply))
        part_now count is = is ∙ ap (λ k. then k (take count (fragment true reply))) serving.held ∙ then-then start.held (sent serving.replies) (take count (fragment true reply))

        -- the session wasn't cut, and the link goes on
        goes_on : is_cut ≡ false → held ≡ then before.held (fragment true reply) → before.writes ≤ writes → IsServing setting start after new read (taken ++ message ∷ [])
        goes_on uncut is later = record {
          replies = serving.replies ++ reply ∷ [];
          acts = serving.acts ++ was.acts;
          served = each_more message reply serving.served (subst (λ (b : Bool). ServedSo was.acts (record { reply = Some reply; is_cut = b })) uncut was.serves);
          left = serving.left;
          held = whole_now is;
          marks = marks_then was.acts was.leave;
          reads = serving.reads;
          writes = at_most start.writes before.writes writes serving.writes later;
        }

        -- it was cut
        ends_cut : is_cut ≡ true → held ≡ then before.held (fragment true reply) → before.writes ≤ writes → IsServed (server_of setting) start after ended.Memory
        ends_cut cut_now is later = record {
          execution = record { read = read; acts = serving.acts ++ was.acts; written = sent (serving.replies ++ reply ∷ []) };
          link = was_cut reply (next_so was.acts _ (subst (λ (b : Bool). ServedSo was.acts (record { reply = Some reply; is_cut = b })) cut_now was.serves));
          left = serving.left;
          held = whole_now is;
          marks = marks_then was.acts was.leave;
          cause = tt;
          reads = serving.reads;
          writes = at_most start.writes before.writes writes serving.writes later;
        }

        ends_in_part : (how : Ended) (count : ℕ) → held ≡ then before.held (take count (fragment true reply)) → before.writes ≤ writes
            → Link (by_passes setting.by) (ring_in setting.place) start.pass (record { read = read; acts = serving.acts ++ was.acts; written = sent serving.replies ++ take count (fragment true reply) }) how p
            → HasEndCause how start after → IsServed (server_of setting) start after how
        ends_in_part how count is later link cause = record {
          execution = record { read = read; acts = serving.acts ++ was.acts; written = sent serving.replies ++ take count (fragment true reply) };
          link = link;
          left = serving.left;
          held = part_now count is;
          marks = marks_then was.acts was.leave;
          cause = cause;
          reads = serving.reads;
          writes = at_most start.writes before.writes writes serving.writes later;
        }

        by_sending : (result : Result (Unit {0}) SinkFault) → HasSent reply result old_sink new_sink → (flag : Bool) → is_cut ≡ flag → HasServedOne setting start after new read (taken ++ message ∷ []) (end_for result flag)
        by_sending (Ok unit) s true is = ends_cut is s.ok s.later
        by_sending (Ok unit) s false is = goes_on is s.ok s.later
        by_sending (Err fault.Failed) s flag is =
            ends_in_part ended.WriteFault s.front.0 s.front.2 s.later (write_fault reply is_cut s.front.0 (next_so was.acts _ was.serves) s.front.1) (rose_since start.writes before.writes writes serving.writes (s.failed refl))
        by_sending (Err fault.Memory) s flag is =
            ends_in_part ended.Memory s.front.0 s.front.2 s.later (unwritten reply is_cut s.front.0 (next_so was.acts _ was.serves) s.front.1) tt

        pub sent_so : (result : Result (Unit {0}) SinkFault) → HasSent reply result old_sink new_sink → HasServedOne setting start after new read (taken ++ message ∷ []) (end_for result is_cut)
        sent_so result s = by_sending result s is_cut refl

-- ---- as the code has it

module _ {P K S C : Type 0} (setting : Setting P K S C) (start before : Surroundings P C) (cache : Cache) (read : List ℕ) (taken : List (List ℕ)) (serving : IsServing setting start before cache read taken) (message : List ℕ)
    (in_order : HasRead read (taken ++ message ∷ [])) (p : P) (marks : Marks C) (new : Cache) where
  pub reply_served : (reply : List ℕ) (flag : Bool)
      → WasServed setting message cache new (record { pass = before.pass; marks = before.marks }) (record { pass = p; marks = marks }) (record { reply = Some reply; is_cut = flag })
      → (bytes : List ℕ) → bytes ≡ reply → (held : Option (List ℕ)) (writes : ℕ) (result : Result (Unit {0}) SinkFault)
      → HasSent bytes result (record { held = before.held; faults = before.writes }) (record { held = held; faults = writes })
      → (out : Option Ended) → out ≡ end_for result flag → HasServedOne setting start (record before { pass = p; marks = marks; held = held; writes = writes }) new read (taken ++ message ∷ []) out
  reply_served reply flag was bytes is held writes result has_sent out out_is =
      subst (HasServedOne setting start (record before { pass = p; marks = marks; held = held; writes = writes }) new read (taken ++ message ∷ [])) (sym out_is)
      (sent_so setting start before cache read taken serving message in_order p marks new reply flag was held writes result
      (subst (λ (b : List ℕ). HasSent b result (record { held = before.held; faults = before.writes }) (record { held = held; faults = writes })) is has_sent))
