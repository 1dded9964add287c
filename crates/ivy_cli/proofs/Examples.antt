-- Scripts and summaries, computed from the definitions.
use Rattle.std.proofs.Common.{◌≡◌, ◌-◌, ◌^◌, [], ◌∷◌, codes, Some, None, refl}
use Rattle.std.specs.Fmt.{digits}
use Rattle.hex.specs.Hex.{encode_with}
use Rattle.hex.proofs.OnLiterals.{hex_on_literals}
use Rattle.sha1.specs.Sha1.{first_words, schedule, rounds, compress, hash_after, digest_bytes, sha1}
use Rattle.ivy_cli.specs.Generator.{state, draw, opening, call_lines, script_of}
use Rattle.ivy_cli.specs.Summary.{status_in, statuses, ascending, status_lines, summary_text}

-- ---- the generator, of numbers that another program computed

first_draw : draw 7 1 ≡ 1059165278
unfolding state
first_draw = refl

third_draw_of_the_last_seed : draw (2 ^ 64 - 1) 3 ≡ 1207502677
unfolding state
third_draw_of_the_last_seed = refl

no_calls : script_of 7 0 ≡ codes "ring 5 3\nlog a 1 1 w4h10\nlog b 2 2 w4h10\nlog c 3 3 w4h10\nview v a,b,c\nuse a v\nuse b v\nuse c v\nend\n"
unfolding opening call_lines
no_calls = refl

three_calls : call_lines 7 3
    ≡ codes "at 1 0" ∷ codes "as c nfs:16:0:0 root w:0 w:0 u:8192"
    ∷ codes "at 2 0" ∷ codes "as c nfs:12:0:0 root s:f3"
    ∷ codes "at 3 0" ∷ codes "as b nfs:8:0:0 root s:f27 u:0 sa:420"
    ∷ []
unfolding state call_lines digits
three_calls = refl

-- ---- the summary

nothing_played : summary_text 0 [] ≡ codes "calls 0\nsha1 da39a3ee5e6b4b0d3255bfef95601890afd80709\n"
unfolding encode_with digits status_in first_words schedule rounds compress hash_after digest_bytes sha1
nothing_played = refl

no_entry : status_in (codes "reply 00000001000000010000000000000000000000000000000000000002000000") ≡ Some 2
unfolding status_in hex_on_literals
no_entry = refl

system_error : status_in (codes "reply 000000010000000100000000000000000000000000000005") ≡ None
unfolding status_in hex_on_literals
system_error = refl

-- a denied call: RPC_MISMATCH
denied : status_in (codes "reply 000000010000000100000001000000000000000200000002") ≡ None
unfolding status_in hex_on_literals
denied = refl

-- PROG_MISMATCH has two words after it, and no results
other_version : status_in (codes "reply 0000000100000001000000000000000000000000000000020000000300000003") ≡ None
unfolding status_in hex_on_literals
other_version = refl

some_lines : statuses (codes "reply 00000001000000010000000000000000000000000000000000000002\nnone\nreply 000000010000000100000000000000000000000000000005\nreply 0000000100000001000000000000000000000000000000000000000000\n")
    ≡ 2 ∷ 0 ∷ []
unfolding status_in hex_on_literals
some_lines = refl

in_order : ascending (2 ∷ 0 ∷ 10008 ∷ 2 ∷ 17 ∷ 0 ∷ 2 ∷ []) ≡ 0 ∷ 2 ∷ 17 ∷ 10008 ∷ []
in_order = refl

counted : status_lines (2 ∷ 0 ∷ 2 ∷ []) ≡ codes "status 0 1\nstatus 2 2\n"
unfolding digits
counted = refl
