-- The calls of a thread are whole calls within the limit.
use Rattle.std.proofs.Common.{◌≡◌, ℕ, zero, suc, ◌+◌, ◌≤◌, nat_le, Bool, true, false, List, [], ◌∷◌, ◌++◌, length, Option, Some, None}
use Rattle.std.proofs.Common.{refl, sym, ap, ◌∙◌, subst, inl, arith, append_assoc, append-nil, if◌then◌else◌}
use Rattle.std.proofs.Common.{length-append, codes, ◌<◌, ◌^◌}
use Rattle.std.specs.Fmt.{decimal}
use Rattle.std.proofs.lemmas.Fmt.{length-decimal-le}
use Rattle.std.proofs.lemmas.List.{length-replicate}
use Rattle.std.proofs.lemmas.Bool.{le-leb, leb-true}
use Rattle.std.proofs.lemmas.List.Concat.{flat_map-append}
use Rattle.std.specs.List.{AllByRecursion, flat_map}
use Rattle.wire_model.specs.Xdr.{word, fixed, opaque, padding}
use Rattle.wire_model.specs.Rpc.{CallFits, CallMessage, Identity, auth, call, system_body}
use Rattle.ivy_base.proofs.NameLemmas.{length-name}
use Rattle.ivy_base.specs.Naming.{root_number}
use Rattle.log_model.specs.View.{View, view_block, view_name}
use Rattle.nfs_model.specs.Objects.{handle_of}
use Rattle.rpc_wire.specs.Frames.{Fits, Framed, fragment, longest_message, marked, message}
use Rattle.script_model.specs.Messages.{message_of, program_number}
use Rattle.script_model.specs.Words.{◌>>=◌}
use Rattle.ivy_server.specs.Laws.{IsAnyCall}
use Rattle.ivy_crowd.specs.Jobs.{AreCalls}
use Rattle.ivy_crowd.specs.Requests.{file_name, pieces, stream}

-- ---- a call with more arguments

call_more : (c : CallMessage) (rest : List ℕ) → call c ++ rest ≡ call (record c { arguments = c.arguments ++ rest })
call_more c rest =
    append_assoc (word c.xid ++ word 0 ++ word 2 ++ word c.program ++ word c.version ++ word c.procedure ++ auth c.credential
    ++ auth c.verifier) c.arguments rest

-- ---- the message of a call

abbrev nobody_else : Identity
nobody_else = record { uid = 0; gid = 0; groups = [] }

-- the head of CREATE, with these arguments
abbrev creating : List ℕ → CallMessage
creating arguments = record {
  xid = 1;
  program = program_number false;
  version = 3;
  procedure = 8;
  credential = record { flavour = 1; body = system_body 0 [] nobody_else };
  verifier = record { flavour = 0; body = [] };
  arguments = arguments;
}

creating_fits : (arguments : List ℕ) → CallFits (creating arguments)
creating_fits arguments =
    let size : length (system_body 0 [] nobody_else) ≡ 20 = refl in
    record {
      xid = omega arith;
      program = omega arith;
      version = omega arith;
      procedure = omega arith;
      credential = record { flavour = omega arith; body = omega (arith, size) };
      verifier = record { flavour = omega arith; body = omega arith };
    }

-- the attributes of a new file: a mode alone
abbrev mode : List ℕ
mode = word 1 ++ word 420 ++ word 0 ++ word 0 ++ word 0 ++ word 0 ++ word 0

abbrev arguments_of : View → ℕ → ℕ → List ℕ
arguments_of view thread number =
    opaque (handle_of view root_number) ++ (opaque (file_name thread number) ++ (word 0 ++ (mode ++ [])))

abbrev message_bytes : View → ℕ → ℕ → List ℕ
message_bytes view thread number = call (creating []) ++ arguments_of view thread number

some_is : (a b : List ℕ) → Some a ≡ Some b → a ≡ b
some_is a b e = cc e

within : (bytes m : List ℕ) → (if nat_le (length bytes) longest_message then Some bytes else None) ≡ Some m
    → (bytes ≡ m) × (length bytes ≤ longest_message)
within bytes m e = by (nat_le (length bytes) longest_message) refl e
  where
    by : (t : Bool) → nat_le (length bytes) longest_message ≡ t → (if t then Some bytes else None) ≡ Some m
        → (bytes ≡ m) × (length bytes ≤ longest_message)
    by true is e = (some_is bytes m e, leb-true (length bytes) longest_message is)
    by false is e = cc e

-- a thread's call is a call, within the limit
pub request_is_call : (view : View) (thread number : ℕ) (m : List ℕ) → message_of [] view (pieces thread number) ≡ Some m
    → IsAnyCall m × (length m ≤ longest_message)
request_is_call view thread number m e =
    let h = within (message_bytes view thread number) m e in
    let arguments = arguments_of view thread number in
    let is : IsAnyCall (message_bytes view thread number) =
    inl (creating arguments, (creating_fits arguments, call_more (creating []) arguments)) in
    (subst IsAnyCall h.0 is, subst (λ (l : List ℕ). length l ≤ longest_message) h.0 h.1)

-- ---- its length

padded : (bytes : List ℕ) → length (opaque bytes) ≤ length bytes + 8
padded bytes =
    omega (
      arith,
      length-append (word (length bytes)) (fixed bytes),
      length-append bytes (padding (length bytes)),
      length-replicate {A = ℕ},
    )

handle_length : (view : View) → length (handle_of view root_number) ≡ 44
handle_length view = omega (arith, length-name (view_block view), length-append (view_name view).0 root_number.0)

name_length : (thread number : ℕ) → thread < 2 ^ 32 → number < 2 ^ 32 → length (file_name thread number) ≤ 22
name_length thread number small few =
    let first = length-decimal-le 10 thread (omega arith) (omega (arith, small)) (omega (arith, small)) in
    let second = length-decimal-le 10 number (omega arith) (omega (arith, few)) (omega (arith, few)) in
    let front = codes "t" ++ decimal thread in
    omega (
      arith,
      first,
      second,
      length-append (codes "t") (decimal thread),
      length-append front (codes "-"),
      length-append (front ++ codes "-") (decimal number),
    )

message_is_short : (view : View) (thread number : ℕ) → thread < 2 ^ 32 → number < 2 ^ 32
    → length (message_bytes view thread number) ≤ longest_message
message_is_short view thread number small few =
    let head : length (call (creating [])) ≡ 60 = refl in
    let last : length (word 0 ++ (mode ++ [])) ≡ 32 = refl in
    let name = opaque (file_name thread number) in
    let rest = name ++ (word 0 ++ (mode ++ [])) in
    omega (
      arith,
      head,
      last,
      length-append (call (creating [])) (arguments_of view thread number),
      length-append (opaque (handle_of view root_number)) rest,
      length-append name (word 0 ++ (mode ++ [])),
      padded (handle_of view root_number),
      padded (file_name thread number),
      handle_length view,
      name_length thread number small few,
    )

-- so the message is there
there : (bytes : List ℕ) (t : Bool) → t ≡ true → (if t then Some bytes else None) ≡ None → ⊥
there bytes true is e = cc e
there bytes false is e = cc is

pub request_is_made : (view : View) (thread number : ℕ) → thread < 2 ^ 32 → number < 2 ^ 32
    → message_of [] view (pieces thread number) ≡ None → ⊥
request_is_made view thread number small few none =
    let bytes = message_bytes view thread number in
    let fits = le-leb (length bytes) longest_message (message_is_short view thread number small few) in
    there bytes (nat_le (length bytes) longest_message) fits none

-- ---- a stream of them

-- a message in one fragment
abbrev whole : List ℕ → Framed
whole m = record { earlier = []; last = m }

all_push : {X : Type 0} (P : X → Type 0) (xs : List X) (x : X) → AllByRecursion P xs → P x → AllByRecursion P (xs ++ x ∷ [])
all_push P [] x all one = (one, tt)
all_push P (y ∷ ys) x all one = (all.0, all_push P ys x all.1 one)

no_calls : AreCalls []
no_calls = record { framed = []; fit = tt; calls = tt; spelled = refl }

one_call_more : (front m : List ℕ) → AreCalls front → IsAnyCall m → length m ≤ longest_message → AreCalls (front ++ fragment true m)
one_call_more front m are call fits = record {
  framed = are.framed ++ whole m ∷ [];
  fit = all_push Fits are.framed (whole m) are.fit fits;
  calls = all_push (λ f. IsAnyCall (message f)) are.framed (whole m) are.calls call;
  spelled = ap (λ (l : List ℕ). l ++ fragment true m) are.spelled
      ∙ ap (λ (l : List ℕ). flat_map marked are.framed ++ l) (sym (append-nil (fragment true m)))
      ∙ sym (flat_map-append marked are.framed (whole m ∷ []));
}

joined : (o p : Option (List ℕ)) (bytes : List ℕ) → (o >>= λ front. p >>= λ m. Some (front ++ fragment true m)) ≡ Some bytes
    → (front : List ℕ) × (m : List ℕ) × (o ≡ Some front) × (p ≡ Some m) × (front ++ fragment true m ≡ bytes)
joined (Some front) (Some m) bytes e = (front, m, refl, refl, some_is (front ++ fragment true m) bytes e)
joined (Some front) None bytes e = cc e
joined None p bytes e = cc e

pub stream_is_calls : (view : View) (thread n : ℕ) (bytes : List ℕ) → stream view thread n ≡ Some bytes → AreCalls bytes
stream_is_calls view thread zero bytes e = subst AreCalls (some_is [] bytes e) no_calls
stream_is_calls view thread (suc n) bytes e =
    let h = joined (stream view thread n) (message_of [] view (pieces thread (n + 1))) bytes e in
    let call = request_is_call view thread (n + 1) h.1 h.3 in
    subst AreCalls h.4 (one_call_more h.0 h.1 (stream_is_calls view thread n h.0 h.2) call.0 call.1)
