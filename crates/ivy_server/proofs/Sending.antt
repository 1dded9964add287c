-- A reply that is written in two writes is sent as one fragment.
use Rattle.std.proofs.Common.{◌≡◌, ℕ, ◌+◌, ◌<◌, ◌≤◌, true, List, ◌++◌, length, take, Result, Ok, Err, sym, ap, ◌∙◌, subst, arith, length-append}
use Rattle.std.specs.Prelude.{IsErrOf, OnErr, OnOk}
use Rattle.std.proofs.lemmas.List.{take-append-le}
use Rattle.std.proofs.Math.Seq.{take-append-add}
use Rattle.ivy_io.proofs.KnownLemmas.{then-then}
use Rattle.ivy_io.specs.Causes.{Rose}
use Rattle.ivy_io.specs.Known.{then}
use Rattle.ivy_io.specs.declared.fault.SinkFault.{SinkFault}
use Rattle.ivy_io.specs.declared.fault.SinkFault.TheVariants as fault
use Rattle.rpc_wire.specs.Frames.{fragment, header}
use Rattle.ivy_server.specs.Streams.{HasSent, SinkState}
use Rattle.ivy_server.proofs.Streams.{rose_since}

-- what a write says
pub record Wrote (bytes : List ℕ) (result : Result (Unit {0}) SinkFault) (old new : SinkState) : Type 0 where
  pub ok : OnOk result (new.held ≡ then old.held bytes)
  pub front : OnErr result ((count : ℕ) × (count < length bytes) × (new.held ≡ then old.held (take count bytes)))
  pub failed : IsErrOf result fault.Failed → Rose old.faults new.faults
  pub later : old.faults ≤ new.faults

before_all : (a b : List ℕ) (count : ℕ) → count < length a → count < length (a ++ b)
before_all a b count less = omega (arith, length-append a b, less)

behind : (a b : List ℕ) (count : ℕ) → count < length b → length a + count < length (a ++ b)
behind a b count less = omega (arith, length-append a b, less)

at_most : (a b c : ℕ) → a ≤ b → b ≤ c → a ≤ c
at_most a b c first second = omega (arith, first, second)

module _ (reply bytes : List ℕ) (is : bytes ≡ header true (length reply)) (old mid : SinkState) where
  abbrev whole : List ℕ
  whole = bytes ++ reply

  whole_is : whole ≡ fragment true reply
  whole_is = ap (λ h. h ++ reply) is

  abbrev Front : SinkState → List ℕ → Type 0
  Front new l = (count : ℕ) × (count < length l) × (new.held ≡ then old.held (take count l))

  -- the header was written in part
  pub sent_first : (why : SinkFault) → Wrote bytes (Err why) old mid → HasSent reply (Err why) old mid
  sent_first why w = record {
    ok = tt;
    front = subst (Front mid) whole_is
        (w.front.0, before_all bytes reply w.front.0 w.front.1, w.front.2 ∙ ap (λ l. then old.held l) (sym (take-append-le w.front.0 bytes reply (omega (arith, w.front.1)))));
    failed = w.failed;
    later = w.later;
  }

  -- it was written, and then the bytes, or a part of them
  pub sent_second : (new : SinkState) (done : Unit {0}) → Wrote bytes (Ok done) old mid → (result : Result (Unit {0}) SinkFault) → Wrote reply result mid new → HasSent reply result old new
  sent_second new done w (Ok unit) v = record {
    ok = v.ok ∙ ap (λ k. then k reply) w.ok ∙ then-then old.held bytes reply ∙ ap (λ l. then old.held l) whole_is;
    front = tt;
    failed = λ e. cc e;
    later = at_most old.faults mid.faults new.faults w.later v.later;
  }
  sent_second new done w (Err why) v = record {
    ok = tt;
    front = subst (Front new) whole_is (
      length bytes + v.front.0,
      behind bytes reply v.front.0 v.front.1,
      v.front.2 ∙ ap (λ k. then k (take v.front.0 reply)) w.ok ∙ then-then old.held bytes (take v.front.0 reply) ∙ ap (λ l. then old.held l) (sym (take-append-add bytes reply v.front.0)),
    );
    failed = λ e. rose_since old.faults mid.faults new.faults w.later (v.failed e);
    later = at_most old.faults mid.faults new.faults w.later v.later;
  }
