-- Which replies show that memory ran out: none but that one.
use Rattle.std.proofs.Common.{◌≡◌, ◌≢◌, ◌⊎◌, inl, inr, ℕ, zero, suc, true, take, drop, nat_lt, Result, Ok, List, [], ◌∷◌, ◌++◌, Option, Some, None, refl, sym, ap, ◌∙◌, arith}
use Rattle.std.proofs.lemmas.List.{append-nil}
use Rattle.std.specs.List.{list_all}
use Rattle.std.proofs.lemmas.Bool.{ltb-true}
use Rattle.hex.specs.Hex.{IsBytes, decode_of, encode_lower, encode_with}
use Rattle.hex.specs.declared.error.FromHexError.{FromHexError}
use Rattle.hex.proofs.HexLemmas.{decode_of-encode_lower}
use Rattle.tree_model.proofs.Sound.{both_true}
use Rattle.turn_laws.proofs.Octets.{a_word, joined}
use Rattle.wire_model.specs.Rpc.{CallOutcome, Success, ProgramUnavailable, ProgramMismatch, ProcedureUnavailable, GarbageArguments, SystemError, RpcMismatch, BadCredential, reply}
use Rattle.log_model.specs.View.{View}
use Rattle.nfs_model.specs.declared.replies.Reply.{Reply}
use Rattle.session_model.specs.Replies.{IsByMessage, missed_reply, said_bare, said_no_memory, said_of}
use Rattle.session_model.specs.Replies.IsByMessage.{no_call, other_version, no_program, no_version, no_procedure, no_caller, no_arguments, alone as by_itself}
use Rattle.session_model.specs.Sessions.{Said, Session}
use Rattle.world_model.specs.Calls.{reply_line, shown_message}
use Rattle.world_model.specs.GhostState.{GhostState}
use Rattle.world_laws.specs.Causes.{HasCause}
use Rattle.world_laws.specs.Causes.HasCause.{alone, missed, turned, no_memory}

abbrev pub byte_at : ℕ → List ℕ → ℕ
byte_at n [] = 0
byte_at zero (b ∷ bs) = b
byte_at (suc n) (b ∷ bs) = byte_at n bs

-- the call was served, or refused for another reason
abbrev pub IsOther : CallOutcome → Type 0
IsOther SystemError = ⊥
IsOther _ = Unit {0}

-- what is shown of the message doesn't begin with that reply
abbrev pub ShowsOther : Option (List ℕ) → Type 0
ShowsOther message = (xid : ℕ) (misses notes rest : List ℕ) → (shown_message message ++ misses) ++ notes ≡ reply_line (reply xid SystemError) ++ rest → ⊥

shows_none : ShowsOther None
shows_none xid misses notes rest e = (let first : 110 ≡ 114 = ap (byte_at 0) e in omega (arith, first))

pub shows_other : (x : ℕ) (o : CallOutcome) → IsOther o → ShowsOther (Some (reply x o))
unfolding encode_with
shows_other x (Success result) other xid misses notes rest e = (let at : 48 ≡ 53 = ap (byte_at 53) e in omega (arith, at))
shows_other x ProgramUnavailable other xid misses notes rest e = (let at : 49 ≡ 53 = ap (byte_at 53) e in omega (arith, at))
shows_other x (ProgramMismatch low high) other xid misses notes rest e = (let at : 50 ≡ 53 = ap (byte_at 53) e in omega (arith, at))
shows_other x ProcedureUnavailable other xid misses notes rest e = (let at : 51 ≡ 53 = ap (byte_at 53) e in omega (arith, at))
shows_other x GarbageArguments other xid misses notes rest e = (let at : 52 ≡ 53 = ap (byte_at 53) e in omega (arith, at))
shows_other x SystemError other xid misses notes rest e = other
shows_other x RpcMismatch other xid misses notes rest e = (let at : 49 ≡ 48 = ap (byte_at 29) e in omega (arith, at))
shows_other x BadCredential other xid misses notes rest e = (let at : 49 ≡ 48 = ap (byte_at 29) e in omega (arith, at))

-- so it isn't said because memory ran out
pub said_other : (said : Said) → ShowsOther said.message → (xid : ℕ) → said ≢ said_no_memory xid
said_other said shows xid is = shows xid [] [] [] (append-nil (shown_message said.message ++ []) ∙ ap (λ (m : Said). shown_message m.message ++ []) is)

pub by_message_other : (view : View) (message : List ℕ) (given : Option (List ℕ)) → IsByMessage view message given → ShowsOther given
by_message_other view message _ (no_call none neither) = shows_none
by_message_other view message _ (other_version xid is) = shows_other xid RpcMismatch tt
by_message_other view message _ (no_program c is none) = shows_other c.xid ProgramUnavailable tt
by_message_other view message _ (no_version c count is program other) = shows_other c.xid (ProgramMismatch 3 3) tt
by_message_other view message _ (no_procedure c count is program version many) = shows_other c.xid ProcedureUnavailable tt
by_message_other view message _ (no_caller c is served none) = shows_other c.xid BadCredential tt
by_message_other view message _ (no_arguments c who is served caller garbage) = shows_other c.xid GarbageArguments tt
by_message_other view message _ (by_itself c who args r is served caller are answers) = shows_other c.xid (Success _) tt

pub said_of_other : (xid : ℕ) (r : Reply) → ShowsOther (said_of xid r).message
said_of_other xid r = shows_other xid (Success _) tt

-- What has a cause is said because memory ran out, or shows no such reply.
pub cause_shows : {st : GhostState} {number : ℕ} {s : Session} {said : Said} → HasCause st number s said → ((xid : ℕ) × (said ≡ said_no_memory xid)) ⊎ ShowsOther said.message
cause_shows {s = s} (alone given is) = inr (by_message_other s.standing.view s.message given is)
cause_shows (missed xid asked given miss asks refreshed is) = inr (said_of_other xid (missed_reply asked miss))
cause_shows (turned h xid asked given among of asks refreshed) = inr (said_of_other xid h.turned.reply)
cause_shows (no_memory xid asked asks) = inl (xid, refl)

-- ---- the reply when out of memory

below : (bytes : List ℕ) → list_all (λ b. nat_lt b 256) bytes ≡ true → IsBytes bytes
below [] h i = omega arith
below (b ∷ bytes) h zero = ltb-true b 256 (both_true (nat_lt b 256) (list_all (λ c. nat_lt c 256) bytes) h).0
below (b ∷ bytes) h (suc i) = below bytes (both_true (nat_lt b 256) (list_all (λ c. nat_lt c 256) bytes) h).1 i

lack_bytes : (xid : ℕ) → IsBytes (reply xid SystemError)
lack_bytes xid = below (reply xid SystemError) (joined (joined (joined (joined (joined (a_word xid) (a_word 1)) (a_word 0)) (a_word 0)) (a_word 0)) (a_word 5)).each

ok_is : (x : Result (List ℕ) FromHexError) (a b : List ℕ) → x ≡ Ok a → x ≡ Ok b → a ≡ b
ok_is x a b e f = cc (sym e ∙ f)

-- what is shown of it tells it
pub lack_shown : (x y : ℕ) (more rest : List ℕ) → reply_line (reply x SystemError) ++ more ≡ reply_line (reply y SystemError) ++ rest → said_no_memory x ≡ said_no_memory y
unfolding encode_with
lack_shown x y more rest e =
    let same : encode_lower (reply x SystemError) ≡ encode_lower (reply y SystemError) = ap (λ (l : List ℕ). take 48 (drop 6 l)) e in
    ap (λ (m : List ℕ). said_bare (Some m)) (ok_is (decode_of (encode_lower (reply x SystemError))) (reply x SystemError) (reply y SystemError) (decode_of-encode_lower (reply x SystemError) (lack_bytes x)) (ap decode_of same ∙ decode_of-encode_lower (reply y SystemError) (lack_bytes y)))
