-- What a line sends is bytes, where what replies gave is.
use Rattle.std.proofs.Common.{◌≡◌, ℕ, zero, suc, ◌+◌, ◌^◌, ◌%◌, Bool, true, false, cond, ◌&&◌, List, [], ◌∷◌, ◌++◌, length, drop, fold, Option, Some, None, refl, subst, arith, nat_lt, nat_le}
use Rattle.std.specs.Prelude.{◌==◌, ◌*◌, ◌≤◌, IfSome, IsTrue, nat_eq, flat_map, option_map, slice_get, codes, replicate}
use Rattle.std.specs.List.{AllByRecursion, list_all, starts_with}
use Rattle.std.specs.Str.{bytes_eq}
use Rattle.std.proofs.lemmas.Bool.{eqb-true, leb-true, lt-ltb}
use Rattle.hex.specs.Hex.{decode_of}
use Rattle.hex.proofs.HexLemmas.{decode_of-ok}
use Rattle.ivy_base.proofs.NameLemmas.{bytes-name}
use Rattle.ivy_base.specs.declared.key.Key.{Key}
use Rattle.ivy_base.specs.Naming.{root_number}
use Rattle.tree_model.proofs.Sound.{both_true}
use Rattle.wire_model.specs.Rpc.{Identity, system_body}
use Rattle.wire_model.specs.Xdr.{opaque, word}
use Rattle.log_model.proofs.Lists.{both}
use Rattle.log_model.specs.View.{View, view_block, view_name}
use Rattle.nfs_model.specs.Objects.{handle_of}
use Rattle.turn_laws.proofs.Octets.{AreOctets, a_double_word, a_word, an_opaque, is_octet, joined, no_octets}
use Rattle.script_model.specs.declared.command.Piece.{Piece}
use Rattle.script_model.specs.declared.command.Piece.TheVariants as piece
use Rattle.script_model.specs.Messages.{Given, bytes_of_pieces, call_head, given_by, message_of, numbers_behind, piece_bytes}
use Rattle.script_model.specs.Words.{◌>>=◌, byte_of, call_of, each_of, is_lower_hex, is_printable, number_below, of_number, of_raw, ok_value, opaque_of, parts_at, piece_of, raw_of, text_of}
use Rattle.world_laws.specs.FullTurns.{AreBytes}
use Rattle.world_laws.specs.FullRuns.{GivesBytes}
use Rattle.world_laws.proofs.LineKeys.{all_bytes, is_value}
use Rattle.rpc_wire.specs.Frames.{longest_message}

-- ---- pieces of a line

-- what the piece has of bytes is bytes
abbrev pub IsOfBytes : Piece → Type 0
IsOfBytes (piece.Raw bytes) = AreBytes bytes
IsOfBytes (piece.Text text) = AreBytes text
IsOfBytes (piece.Opaque count byte) = IsTrue (nat_lt byte 256)
IsOfBytes _ = Unit {0}

abbrev SomeOfBytes : Option Piece → Type 0
SomeOfBytes o = IfSome o IsOfBytes

some_is : {A : Type 0} (x y : A) → Some x ≡ Some y → x ≡ y
some_is x y e = cc e

decoded : (text bytes : List ℕ) → ok_value (decode_of text) ≡ Some bytes → AreBytes bytes
decoded text bytes e = all_bytes bytes (decode_of-ok text bytes (is_value (decode_of text) bytes e)).3

raw_bytes : (word bytes : List ℕ) → raw_of word ≡ Some bytes → AreBytes bytes
raw_bytes word bytes e = by (nat_le 2 (length word) && length word % 2 == 0 && list_all is_lower_hex word) e
  where
    by : (t : Bool) → cond t (ok_value (decode_of word)) None ≡ Some bytes → AreBytes bytes
    by true h = decoded word bytes h
    by false h = cc h

of_raw_bytes : (word : List ℕ) → SomeOfBytes (of_raw word)
of_raw_bytes word = by (raw_of word) refl
  where
    by : (o : Option (List ℕ)) → raw_of word ≡ o → SomeOfBytes (o >>= λ bytes. Some (piece.Raw bytes))
    by None e = tt
    by (Some bytes) e = raw_bytes word bytes e

one_value : (bytes : List ℕ) → length bytes ≡ 1 → AreBytes bytes → IsTrue (nat_lt (fold (λ n b. n * 256 + b) 0 bytes) 256)
one_value [] one h = absurd (omega (arith, one))
one_value (b ∷ []) one h = (let same : b ≡ 0 * 256 + b = omega arith in subst (λ (n : ℕ). IsTrue (nat_lt n 256)) same (both_true (nat_lt b 256) true h).0)
one_value (b ∷ c ∷ bytes) one h = absurd (omega (arith, one))

pub byte_is : (word : List ℕ) (byte : ℕ) → byte_of word ≡ Some byte → IsTrue (nat_lt byte 256)
byte_is word byte e = by (length word == 2 && list_all is_lower_hex word) refl e
  where
    of_bytes : (o : Option (List ℕ)) → ((bytes : List ℕ) → o ≡ Some bytes → (length bytes ≡ 1) × AreBytes bytes) → (o >>= λ bytes. Some (fold (λ n b. n * 256 + b) 0 bytes)) ≡ Some byte → IsTrue (nat_lt byte 256)
    of_bytes None each h = cc h
    of_bytes (Some bytes) each h = let its = each bytes refl in subst (λ (n : ℕ). IsTrue (nat_lt n 256)) (some_is (fold (λ n b. n * 256 + b) 0 bytes) byte h) (one_value bytes its.0 its.1)

    by : (t : Bool) → (length word == 2 && list_all is_lower_hex word) ≡ t → (cond t (ok_value (decode_of word)) None >>= λ bytes. Some (fold (λ n b. n * 256 + b) 0 bytes)) ≡ Some byte → IsTrue (nat_lt byte 256)
    by true two h = of_bytes (ok_value (decode_of word)) (λ bytes is.
        let read = decode_of-ok word bytes (is_value (decode_of word) bytes is) in
        let size : length word ≡ 2 = eqb-true (length word) 2 (both_true (length word == 2) (list_all is_lower_hex word) two).0 in
        (omega (arith, size, read.2), all_bytes bytes read.3)) h
    by false two h = cc h

opaque_bytes : (ws : List (List ℕ)) → SomeOfBytes (opaque_of ws)
opaque_bytes [] = tt
opaque_bytes (n ∷ []) = tt
opaque_bytes (n ∷ b ∷ []) = by (number_below (2 ^ 64) n) (byte_of b) refl
  where
    by : (o p : Option ℕ) → byte_of b ≡ p → SomeOfBytes (o >>= λ count. p >>= λ byte. Some (piece.Opaque count byte))
    by None p e = tt
    by (Some count) None e = tt
    by (Some count) (Some byte) e = byte_is b byte e
opaque_bytes (n ∷ b ∷ w ∷ ws) = tt

printable_octet : (b : ℕ) → is_printable b ≡ true → is_octet b ≡ true
printable_octet b h = (let most : b ≤ 126 = leb-true b 126 (both_true (nat_le 33 b) (nat_le b 126) h).1 in lt-ltb b 256 (omega (arith, most)))

printable_bytes : (text : List ℕ) → list_all is_printable text ≡ true → AreBytes text
printable_bytes [] h = refl
printable_bytes (b ∷ text) h = (let parts = both_true (is_printable b) (list_all is_printable text) h in both (is_octet b) (list_all is_octet text) (printable_octet b parts.0) (printable_bytes text parts.1))

text_bytes : (text : List ℕ) → SomeOfBytes (text_of text)
text_bytes text = by (list_all is_printable text) refl
  where
    by : (t : Bool) → list_all is_printable text ≡ t → SomeOfBytes (cond t (Some (piece.Text text)) None)
    by true h = printable_bytes text h
    by false h = tt

number_bytes : (limit : ℕ) (make : ℕ → Piece) (word : List ℕ) → ((n : ℕ) → IsOfBytes (make n)) → SomeOfBytes (of_number limit make word)
number_bytes limit make word each = by (number_below limit word)
  where
    by : (o : Option ℕ) → SomeOfBytes (o >>= λ n. Some (make n))
    by None = tt
    by (Some n) = each n

call_bytes : (mount : Bool) (ws : List (List ℕ)) → SomeOfBytes (call_of mount ws)
call_bytes mount [] = tt
call_bytes mount (p ∷ []) = tt
call_bytes mount (p ∷ u ∷ []) = tt
call_bytes mount (p ∷ u ∷ g ∷ []) = by (number_below (2 ^ 32) p) (number_below (2 ^ 32) u) (number_below (2 ^ 32) g)
  where
    by : (o q r : Option ℕ) → SomeOfBytes (o >>= λ procedure. q >>= λ uid. r >>= λ gid. Some (piece.Call mount procedure uid gid 0))
    by None q r = tt
    by (Some x) None r = tt
    by (Some x) (Some y) None = tt
    by (Some x) (Some y) (Some z) = tt
call_bytes mount (p ∷ u ∷ g ∷ k ∷ []) = by (number_below (2 ^ 32) p) (number_below (2 ^ 32) u) (number_below (2 ^ 32) g) (number_below (2 ^ 64) k)
  where
    in_range : (t : Bool) (x y z v : ℕ) → SomeOfBytes (cond t (Some (piece.Call mount x y z v)) None)
    in_range true x y z v = tt
    in_range false x y z v = tt

    by : (o q r s : Option ℕ) → SomeOfBytes (o >>= λ procedure. q >>= λ uid. r >>= λ gid. s >>= λ groups. cond (nat_lt (gid + groups) (2 ^ 32)) (Some (piece.Call mount procedure uid gid groups)) None)
    by None q r s = tt
    by (Some x) None r s = tt
    by (Some x) (Some y) None s = tt
    by (Some x) (Some y) (Some z) None = tt
    by (Some x) (Some y) (Some z) (Some v) = in_range (nat_lt (z + v) (2 ^ 32)) x y z v
call_bytes mount (p ∷ u ∷ g ∷ k ∷ w ∷ ws) = tt

-- the first whose test holds
abbrev choose : List (Bool × Option Piece) → Option Piece → Option Piece
choose [] other = other
choose (c ∷ cs) other = cond c.0 c.1 (choose cs other)

choose_bytes : (cs : List (Bool × Option Piece)) (other : Option Piece) → AllByRecursion (λ c. SomeOfBytes c.1) cs → SomeOfBytes other → SomeOfBytes (choose cs other)
choose_bytes [] other h g = g
choose_bytes (c ∷ cs) other h g = by c.0 (choose_bytes cs other h.1 g)
  where
    by : (b : Bool) → SomeOfBytes (choose cs other) → SomeOfBytes (cond b c.1 (choose cs other))
    by true later = h.0
    by false later = later

piece_is : (word : List ℕ) → SomeOfBytes (piece_of word)
piece_is word = choose_bytes
    ((bytes_eq word (codes "root"), Some piece.Root) ∷ (starts_with nat_eq word (codes "nfs:"), call_of false (parts_at 58 (drop 4 word))) ∷ (starts_with nat_eq word (codes "mnt:"), call_of true (parts_at 58 (drop 4 word)))
    ∷ (starts_with nat_eq word (codes "u:"), of_number (2 ^ 32) piece.Word (drop 2 word)) ∷ (starts_with nat_eq word (codes "w:"), of_number (2 ^ 64) piece.DoubleWord (drop 2 word))
    ∷ (starts_with nat_eq word (codes "s:"), text_of (drop 2 word)) ∷ (starts_with nat_eq word (codes "o:"), opaque_of (parts_at 58 (drop 2 word))) ∷ (starts_with nat_eq word (codes "sa:"), of_number (2 ^ 32) piece.Mode (drop 3 word))
    ∷ (starts_with nat_eq word (codes "h:"), of_number (2 ^ 64) piece.HandleOf (drop 2 word)) ∷ (starts_with nat_eq word (codes "v:"), of_number (2 ^ 64) piece.VerifierOf (drop 2 word)) ∷ [])
    (of_raw word) (
      tt,
      (
        call_bytes false (parts_at 58 (drop 4 word)),
        (
          call_bytes true (parts_at 58 (drop 4 word)),
          (
            number_bytes (2 ^ 32) piece.Word (drop 2 word) (λ n. tt),
            (
              number_bytes (2 ^ 64) piece.DoubleWord (drop 2 word) (λ n. tt),
              (text_bytes (drop 2 word), (opaque_bytes (parts_at 58 (drop 2 word)), (number_bytes (2 ^ 32) piece.Mode (drop 3 word) (λ n. tt), (number_bytes (2 ^ 64) piece.HandleOf (drop 2 word) (λ n. tt), (number_bytes (2 ^ 64) piece.VerifierOf (drop 2 word) (λ n. tt), tt))))),
            ),
          ),
        ),
      ),
    )
    (of_raw_bytes word)

pub pieces_are : (words : List (List ℕ)) (pieces : List Piece) → each_of piece_of words ≡ Some pieces → AllByRecursion IsOfBytes pieces
pieces_are [] pieces e = subst (AllByRecursion IsOfBytes) (some_is [] pieces e) tt
pieces_are (word ∷ words) pieces e = by (piece_of word) (each_of piece_of words) (piece_is word) (λ ps is. pieces_are words ps is) e
  where
    by : (o : Option Piece) (q : Option (List Piece)) → SomeOfBytes o → ((ps : List Piece) → q ≡ Some ps → AllByRecursion IsOfBytes ps) → (o >>= λ x. q >>= λ xs. Some (x ∷ xs)) ≡ Some pieces → AllByRecursion IsOfBytes pieces
    by None q one later h = cc h
    by (Some x) None one later h = cc h
    by (Some x) (Some xs) one later h = subst (AllByRecursion IsOfBytes) (some_is (x ∷ xs) pieces h) (one, later xs refl)

-- ---- messages

abbrev SomeBytes : Option (List ℕ) → Type 0
SomeBytes o = IfSome o AreBytes

as_octets : (bytes : List ℕ) → AreBytes bytes → AreOctets bytes
as_octets bytes h = record { each = h }

pub handle_bytes : (view : View) (number : Key) → AreBytes number.0 → AreBytes (handle_of view number)
handle_bytes view number h = (joined {a = (view_name view).0} {b = number.0} (record { each = bytes-name (view_block view) }) (as_octets number.0 h)).each

many_bytes : (count byte : ℕ) → IsTrue (nat_lt byte 256) → AreBytes (replicate count byte)
many_bytes zero byte h = refl
many_bytes (suc count) byte h = both (is_octet byte) (list_all is_octet (replicate count byte)) h (many_bytes count byte h)

words_octets : (ns : List ℕ) → AreOctets (flat_map word ns)
words_octets [] = no_octets
words_octets (n ∷ ns) = joined {a = word n} {b = flat_map word ns} (a_word n) (words_octets ns)

body_octets : (who : Identity) → AreOctets (system_body 0 [] who)
body_octets who = joined (joined (joined (joined (a_word 0) (an_opaque [] no_octets)) (a_word who.uid)) (a_word who.gid)) (joined {a = word (length who.groups)} (a_word (length who.groups)) (words_octets who.groups))

head_octets : (mount : Bool) (procedure : ℕ) (who : Identity) → AreOctets (call_head mount procedure who)
head_octets mount procedure who =
    joined (joined (joined (joined (joined (joined (joined (joined (a_word 1) (a_word 0)) (a_word 2)) (a_word _)) (a_word 3)) (a_word procedure))
    (joined {a = word 1} (a_word 1) (an_opaque (system_body 0 [] who) (body_octets who)))) (joined {a = word 0} (a_word 0) (an_opaque [] no_octets))) no_octets

mode_octets : (mode : ℕ) → AreOctets (word 1 ++ word mode ++ word 0 ++ word 0 ++ word 0 ++ word 0 ++ word 0)
mode_octets mode = joined (joined (joined (joined (joined (joined (a_word 1) (a_word mode)) (a_word 0)) (a_word 0)) (a_word 0)) (a_word 0)) (a_word 0)

module _ (replies : List Given) (given : AllByRecursion GivesBytes replies) (view : View) where
  none_given : GivesBytes (record { handle = None; verifier = None })
  none_given = (tt, tt)

  given_at : (gs : List Given) → AllByRecursion GivesBytes gs → (n : ℕ) → IfSome (slice_get gs n) GivesBytes
  given_at [] h n = tt
  given_at (g ∷ gs) h zero = h.0
  given_at (g ∷ gs) h (suc n) = given_at gs h.1 n

  of_handle : (o : Option Given) → IfSome o GivesBytes → SomeBytes (option_map opaque (o >>= λ g. g.handle))
  of_handle None h = tt
  of_handle (Some g) h = by g.handle h.0
    where
      by : (o : Option (List ℕ)) → SomeBytes o → SomeBytes (option_map opaque o)
      by None f = tt
      by (Some bytes) f = (an_opaque bytes (as_octets bytes f)).each

  of_verifier : (o : Option Given) → IfSome o GivesBytes → SomeBytes (o >>= λ g. g.verifier)
  of_verifier None h = tt
  of_verifier (Some g) h = h.1

  one_piece : (p : Piece) → IsOfBytes p → SomeBytes (piece_bytes replies view p)
  one_piece (piece.Raw bytes) h = h
  one_piece (piece.Word n) h = (a_word n).each
  one_piece (piece.DoubleWord n) h = (a_double_word n).each
  one_piece (piece.Text text) h = (an_opaque text (as_octets text h)).each
  one_piece (piece.Opaque count byte) h = (an_opaque (replicate count byte) (as_octets (replicate count byte) (many_bytes count byte h))).each
  one_piece (piece.Mode mode) h = (mode_octets mode).each
  one_piece piece.Root h = (an_opaque (handle_of view root_number) (as_octets (handle_of view root_number) (handle_bytes view root_number refl))).each
  one_piece (piece.HandleOf reply) h = of_handle (given_by replies reply) (given_at (record { handle = None; verifier = None } ∷ replies) (none_given, given) reply)
  one_piece (piece.VerifierOf reply) h = of_verifier (given_by replies reply) (given_at (record { handle = None; verifier = None } ∷ replies) (none_given, given) reply)
  one_piece (piece.Call mount procedure uid gid groups) h = (head_octets mount procedure (record { uid = uid; gid = gid; groups = numbers_behind gid groups })).each

  all_pieces : (ps : List Piece) → AllByRecursion IsOfBytes ps → SomeBytes (bytes_of_pieces replies view ps)
  all_pieces [] h = refl
  all_pieces (p ∷ ps) h = by (piece_bytes replies view p) (bytes_of_pieces replies view ps) (one_piece p h.0) (all_pieces ps h.1)
    where
      by : (o q : Option (List ℕ)) → SomeBytes o → SomeBytes q → SomeBytes (o >>= λ bytes. q >>= λ rest. Some (bytes ++ rest))
      by None q f g = tt
      by (Some bytes) None f g = tt
      by (Some bytes) (Some rest) f g = (joined {a = bytes} {b = rest} (as_octets bytes f) (as_octets rest g)).each

  pub message_bytes : (ps : List Piece) (message : List ℕ) → AllByRecursion IsOfBytes ps → message_of replies view ps ≡ Some message → AreBytes message
  message_bytes ps message h is = by (bytes_of_pieces replies view ps) (all_pieces ps h) is
    where
      in_size : (t : Bool) (bytes : List ℕ) → AreBytes bytes → cond t (Some bytes) None ≡ Some message → AreBytes message
      in_size true bytes f e = subst AreBytes (some_is bytes message e) f
      in_size false bytes f e = cc e

      by : (o : Option (List ℕ)) → SomeBytes o → (o >>= λ bytes. cond (nat_le (length bytes) longest_message) (Some bytes) None) ≡ Some message → AreBytes message
      by None f e = cc e
      by (Some bytes) f e = in_size (nat_le (length bytes) longest_message) bytes f e
