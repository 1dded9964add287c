-- The statuses that the lines of RPC's replies show.
use Rattle.std.proofs.Common.{◌≡◌, ℕ, zero, suc, ◌*◌, ◌/◌, ◌%◌, ◌<◌, List, [], ◌∷◌, ◌++◌, length, take, codes, Some, None, refl, sym, ap, ◌∙◌, arith}
use Rattle.std.specs.List.{AllByRecursion}
use Rattle.std.specs.Option.{option_and_then}
use Rattle.std.specs.Result.{result_ok}
use Rattle.std.proofs.lemmas.List.{take-append-le, take_all}
use Rattle.std.proofs.lemmas.Nat.{from_be_bytes-to_be_bytes_4}
use Rattle.std.proofs.Math.Seq.{take-length}
use Rattle.hex.specs.Hex.{decode_sized, encode_lower, encode_with, lower_digits, IsBytes}
use Rattle.hex.proofs.HexLemmas.{length-encode_with, decode_sized-encode_lower, decode_sized-other}
use Rattle.wire_model.specs.Xdr.{word}
use Rattle.wire_model.specs.Rpc.{ProgramUnavailable, ProgramMismatch, ProcedureUnavailable, GarbageArguments, SystemError, RpcMismatch, BadCredential, reply}
use Rattle.ivy_cli.specs.Summary.{front_of, status_of, status_in}
use Rattle.ivy_cli.specs.Laws.{reply_line, ServedCallsShowStatus, RefusedCallsShowNone}

-- ---- bytes

abbrev AllBytes : List ℕ → Type 0
AllBytes bytes = AllByRecursion (λ b. b < 256) bytes

is_bytes : (bytes : List ℕ) → AllBytes bytes → IsBytes bytes
is_bytes [] all i = omega arith
is_bytes (b ∷ bytes) all zero = all.0
is_bytes (b ∷ bytes) all (suc i) = is_bytes bytes all.1 i

low_byte : (n : ℕ) → n % 256 < 256
low_byte n = omega arith

-- the bytes of a word, in front of others
four : {P : Type 0} (n : ℕ) → P → (n / 16777216 % 256 < 256) × ((n / 65536 % 256 < 256) × ((n / 256 % 256 < 256) × ((n % 256 < 256) × P)))
four n rest = (low_byte (n / 16777216), (low_byte (n / 65536), (low_byte (n / 256), (low_byte n, rest))))

-- the head of an accepted reply, with a status of RPC and one more word
abbrev head : ℕ → ℕ → ℕ → List ℕ
head xid status more = word xid ++ word 1 ++ word 0 ++ word 0 ++ word 0 ++ word status ++ word more

head_bytes : (xid status more : ℕ) → AllBytes (head xid status more)
head_bytes xid status more = four xid (four 1 (four 0 (four 0 (four 0 (four status (four more tt))))))

-- ---- digits

digits_append : (a b : List ℕ) → encode_lower (a ++ b) ≡ encode_lower a ++ encode_lower b
unfolding encode_with
digits_append [] b = refl
digits_append (x ∷ a) b = ap (λ ds. encode_lower (x ∷ []) ++ ds) (digits_append a b)

-- the first 28 bytes of a message are read from its digits
front_read : (front rest : List ℕ) → length front ≡ 28 → IsBytes front → front_of (codes "reply " ++ encode_lower (front ++ rest)) ≡ Some front
front_read front rest long bytes =
    let digits : length (encode_lower front) ≡ 56 = omega (arith, length-encode_with lower_digits front, long) in
    ap (λ ds. result_ok (decode_sized (take 56 ds) 28)) (digits_append front rest)
    ∙ ap (λ ds. result_ok (decode_sized ds 28)) (take-append-le 56 (encode_lower front) (encode_lower rest) (omega (arith, digits)) ∙ ap (λ n. take n (encode_lower front)) (sym digits) ∙ take-length (encode_lower front))
    ∙ ap result_ok (decode_sized-encode_lower front 28 long bytes)

-- a shorter message has none
front_missing : (message : List ℕ) → length message < 28 → front_of (codes "reply " ++ encode_lower message) ≡ None
front_missing message short =
    let digits : length (encode_lower message) ≡ 2 * length message = length-encode_with lower_digits message in
    ap (λ ds. result_ok (decode_sized ds 28)) (take_all 56 (encode_lower message) (omega (arith, digits, short)))
    ∙ ap result_ok (decode_sized-other (encode_lower message) 28 (omega (arith, digits)) (λ e. omega (arith, digits, short, e)))

-- ---- replies

pub served : ServedCallsShowStatus
unfolding status_in
served xid status rest fits =
    ap (option_and_then status_of) (front_read (head xid 0 status) rest refl (is_bytes (head xid 0 status) (head_bytes xid 0 status)))
    ∙ ap Some (from_be_bytes-to_be_bytes_4 status fits)

missing : (message : List ℕ) → length message < 28 → status_in (codes "reply " ++ encode_lower message) ≡ None
unfolding status_in
missing message short = ap (option_and_then status_of) (front_missing message short)

mismatch : (xid low high : ℕ) → status_in (reply_line xid (ProgramMismatch low high)) ≡ None
unfolding status_in
mismatch xid low high = ap (option_and_then status_of) (front_read (head xid 2 low) (word high) refl (is_bytes (head xid 2 low) (head_bytes xid 2 low)))

pub refused : RefusedCallsShowNone
refused xid = (
  missing (reply xid ProgramUnavailable) (omega arith),
  missing (reply xid ProcedureUnavailable) (omega arith),
  missing (reply xid GarbageArguments) (omega arith),
  missing (reply xid SystemError) (omega arith),
  missing (reply xid RpcMismatch) (omega arith),
  missing (reply xid BadCredential) (omega arith),
  mismatch xid,
)
