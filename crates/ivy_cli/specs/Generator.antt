-- The script of a generated load, of a seed and of how many calls it has: three participants of one view, and calls on
-- 64 names in its root that the seed's draws choose.
use Rattle.std.specs.Prelude.{ℕ, zero, suc, ◌+◌, ◌*◌, ◌/◌, ◌%◌, ◌^◌, ◌==◌, List, [], ◌∷◌, ◌++◌, codes, if◌then◌else◌}
use Rattle.std.specs.List.{flat_map}
use Rattle.std.specs.Fmt.{decimal}

-- ---- draws

-- Knuth's linear congruence modulo 2^64 (MMIX)
abbrev pub next : ℕ → ℕ
next x = (x * 6364136223846793005 + 1442695040888963407) % 2 ^ 64

-- where so many draws from the seed lead
unfoldable pub state : ℕ → ℕ → ℕ
state seed zero = seed
state seed (suc n) = next (state seed n)

-- the number that is drawn there: the upper 31 bits
abbrev pub drawn : ℕ → ℕ
drawn x = x / 2 ^ 33

-- the n-th draw, from 1
abbrev pub draw : ℕ → ℕ → ℕ
draw seed n = drawn (state seed n)

-- ---- lines

unfoldable pub opening : List (List ℕ)
opening =
    codes "ring 5 3"
    ∷ codes "log a 1 1 w4h10" ∷ codes "log b 2 2 w4h10" ∷ codes "log c 3 3 w4h10"
    ∷ codes "view v a,b,c"
    ∷ codes "use a v" ∷ codes "use b v" ∷ codes "use c v"
    ∷ []

abbrev pub participant : ℕ → List ℕ
participant d = if d % 3 == 0 then codes "a" else if d % 3 == 1 then codes "b" else codes "c"

abbrev pub file_name : ℕ → List ℕ
file_name d = codes "f" ++ decimal (d % 64)

-- the message's pieces: the file of that name is made (CREATE), removed (REMOVE) or looked up (LOOKUP), or the root is read
-- from its first entry on (READDIR); RFC 1813, sections 3.3.8, 3.3.12, 3.3.3 and 3.3.16
abbrev pub message : ℕ → List ℕ → List ℕ
message d name =
    if d % 4 == 0 then codes "nfs:8:0:0 root s:" ++ name ++ codes " u:0 sa:420"
    else if d % 4 == 1 then codes "nfs:12:0:0 root s:" ++ name
    else if d % 4 == 2 then codes "nfs:3:0:0 root s:" ++ name
    else codes "nfs:16:0:0 root w:0 w:0 u:8192"

-- the line of a call, which three draws choose: who calls, what for, and by which name
abbrev pub call_line : ℕ → ℕ → ℕ → List ℕ
call_line who kind name = codes "as " ++ participant who ++ codes " " ++ message kind (file_name name)

abbrev pub moment_line : ℕ → List ℕ
moment_line i = codes "at " ++ decimal i ++ codes " 0"

-- The lines of the first calls: the i-th, from 1, is made at the moment i, and the next three draws choose it.
unfoldable pub call_lines : ℕ → ℕ → List (List ℕ)
call_lines seed zero = []
call_lines seed (suc i) = call_lines seed i
    ++ moment_line (i + 1) ∷ call_line (draw seed (3 * i + 1)) (draw seed (3 * i + 2)) (draw seed (3 * i + 3)) ∷ []

-- ---- the script

abbrev pub script_lines : ℕ → ℕ → List (List ℕ)
script_lines seed calls = opening ++ call_lines seed calls ++ codes "end" ∷ []

-- its bytes: each line with a newline
abbrev pub script_of : ℕ → ℕ → List ℕ
script_of seed calls = flat_map (λ line. line ++ 10 ∷ []) (script_lines seed calls)
