-- The summary of what a generated script showed: how many calls it had, the statuses of their replies, and the digest of all of it.
use Rattle.std.specs.Prelude.{ℕ, ◌==◌, nat_lt, nat_eq, List, [], ◌∷◌, ◌++◌, codes, count_by, take, drop, Option, Some, None}
use Rattle.std.specs.Prelude.{option_and_then, if◌then◌else◌}
use Rattle.std.specs.Int.{w32, from_be_bytes}
use Rattle.std.specs.List.{flat_map, filter_map, slice_split, starts_with}
use Rattle.std.specs.Str.{bytes_eq}
use Rattle.std.specs.Result.{result_ok}
use Rattle.std.specs.Fmt.{decimal}
use Rattle.hex.specs.Hex.{decode_sized, encode_lower}
use Rattle.sha1.specs.Sha1.{sha1}
use Rattle.wire_model.specs.Xdr.{word}

-- ---- the status of a reply

-- The reply to a call that was served has 24 bytes in front of the results: the call's number, and these (RFC 5531,
-- section 9): a reply, which is accepted, a verifier of flavour 0 without a body, and success.
abbrev pub success : List ℕ
success = word 1 ++ word 0 ++ word 0 ++ word 0 ++ word 0

-- the first 28 bytes of the message that a line shows: `reply ` and the message's bytes as hexadecimal digits
abbrev pub front_of : List ℕ → Option (List ℕ)
front_of line = if starts_with nat_eq line (codes "reply ") then result_ok (decode_sized (take 56 (drop 6 line)) 28) else None

-- the status after the head: the results of NFS begin with it (RFC 1813, section 2.6)
abbrev pub status_of : List ℕ → Option ℕ
status_of front = if bytes_eq (take 20 (drop 4 front)) success then Some (from_be_bytes w32 (drop 24 front)) else None

unfoldable pub status_in : List ℕ → Option ℕ
status_in line = option_and_then status_of (front_of line)

-- the statuses that a text's lines show; SYSTEM_ERR is a refusal and no result, so it has none
abbrev pub statuses : List ℕ → List ℕ
statuses text = filter_map status_in (slice_split (λ b. b == 10) text)

-- ---- in ascending order

abbrev pub put_in_order : ℕ → List ℕ → List ℕ
put_in_order n [] = n ∷ []
put_in_order n (m ∷ ms) = if nat_lt n m then n ∷ m ∷ ms else if n == m then m ∷ ms else m ∷ put_in_order n ms

-- the numbers of a list, ascending, each once
abbrev pub ascending : List ℕ → List ℕ
ascending [] = []
ascending (n ∷ ns) = put_in_order n (ascending ns)

-- ---- the summary

abbrev pub status_line : List ℕ → ℕ → List ℕ
status_line all status = codes "status " ++ decimal status ++ codes " " ++ decimal (count_by (λ s. s == status) all) ++ 10 ∷ []

-- a line for each status that occurred
abbrev pub status_lines : List ℕ → List ℕ
status_lines all = flat_map (status_line all) (ascending all)

abbrev pub summary_text : ℕ → List ℕ → List ℕ
summary_text calls text =
    codes "calls " ++ decimal calls ++ 10 ∷ [] ++ status_lines (statuses text)
    ++ codes "sha1 " ++ encode_lower (sha1 text) ++ 10 ∷ []
