-- The head of a call by a caller of several groups.
use Rattle.std.proofs.Common.{◌≡◌, ℕ, zero, suc, ◌+◌, ◌*◌, ◌-◌, ◌%◌, ◌<◌, Bool, List, [], ◌∷◌, ◌++◌, length, refl, sym, ap, ◌∙◌, arith, length-append, append_assoc, append-nil}
use Rattle.std.specs.Prelude.{replicate}
use Rattle.std.specs.List.{flat_map}
use Rattle.std.proofs.lemmas.List.{length-replicate}
use Rattle.wire_model.specs.Xdr.{word, fixed, opaque, padding}
use Rattle.wire_model.specs.Rpc.{Identity, auth, system_body}
use Rattle.ivy_base.specs.Naming.{root_number}
use Rattle.ivy_base.proofs.NameLemmas.{length-name}
use Rattle.log_model.specs.View.{View, view_block, view_name}
use Rattle.nfs_model.specs.Objects.{handle_of}
use Rattle.script_model.specs.Messages.{call_head, numbers_behind, program_number}
use Rattle.command_messages.specs.Lengths.{padded}

-- the next of so many numbers
next_number : (n count i : ℕ) → i < count → numbers_behind (n + i) (count - i) ≡ (n + i + 1) ∷ numbers_behind (n + (i + 1)) (count - (i + 1))
next_number n count i inside =
    let more : count - i ≡ suc (count - (i + 1)) = omega (arith, inside) in
    let on : n + i + 1 ≡ n + (i + 1) = omega arith in
    ap (λ (m : ℕ). numbers_behind (n + i) m) more ∙ (λ j. (n + i + 1) ∷ numbers_behind (on j) (count - (i + 1)))

length-numbers_behind : (n count : ℕ) → length (numbers_behind n count) ≡ count
length-numbers_behind n zero = refl
length-numbers_behind n (suc count) = ap suc (length-numbers_behind (n + 1) count)

length-words : (ns : List ℕ) → length (flat_map word ns) ≡ 4 * length ns
length-words [] = refl
length-words (n ∷ ns) = omega (arith, length-append (word n) (flat_map word ns), length-words ns)

-- ---- lengths

-- so many bytes
pub record Has (bytes : List ℕ) (n : ℕ) : Type 0 where
  pub size : length bytes ≡ n

infixl 60 ◌▷◌
◌▷◌ : {a b : ℕ} {xs ys : List ℕ} → Has xs a → Has ys b → Has (xs ++ ys) (a + b)
◌▷◌ {xs} {ys} p q = record { size = omega (arith, p.size, q.size, length-append xs ys) }

a_word : (n : ℕ) → Has (word n) 4
a_word n = record { size = refl }

nothing : Has [] 0
nothing = record { size = refl }

pub data_has : (bytes : List ℕ) (n : ℕ) → length bytes ≡ n → Has (opaque bytes) (4 + padded n)
data_has bytes n is = record {
  size = omega (arith, is, length-append (word (length bytes)) (fixed bytes), length-append bytes (padding (length bytes)), length-replicate {A = ℕ});
}

-- a caller by user and group, and by so many groups after it
abbrev pub caller : ℕ → ℕ → ℕ → Identity
caller uid gid count = record { uid = uid; gid = gid; groups = numbers_behind gid count }

groups_have : (gid count : ℕ) → Has (flat_map word (numbers_behind gid count)) (4 * count)
groups_have gid count = record { size = omega (arith, length-words (numbers_behind gid count), length-numbers_behind gid count) }

body_has : (uid gid count : ℕ) → Has (system_body 0 [] (caller uid gid count)) (20 + 4 * count)
body_has uid gid count =
    let all = a_word 0 ▷ a_word 0 ▷ a_word uid ▷ a_word gid ▷ a_word (length (numbers_behind gid count)) ▷ groups_have gid count in
    record { size = omega (arith, all.size) }

credential_has : (uid gid count : ℕ) → Has (auth (record { flavour = 1; body = system_body 0 [] (caller uid gid count) })) (28 + 4 * count)
credential_has uid gid count =
    let all = a_word 1 ▷ data_has (system_body 0 [] (caller uid gid count)) (20 + 4 * count) (body_has uid gid count).size in
    record { size = omega (arith, all.size) }

pub head_has : (mount : Bool) (procedure uid gid count : ℕ) → Has (call_head mount procedure (caller uid gid count)) (60 + 4 * count)
head_has mount procedure uid gid count =
    let all = a_word 1 ▷ a_word 0 ▷ a_word 2 ▷ a_word (program_number mount) ▷ a_word 3 ▷ a_word procedure ▷ credential_has uid gid count ▷ (a_word 0 ▷ a_word 0) ▷ nothing in
    record { size = omega (arith, all.size) }

-- the handle of the root
pub root_has : (view : View) → Has (opaque (handle_of view root_number)) 48
root_has view = data_has (handle_of view root_number) 44 (omega (arith, length-name (view_block view), length-append (view_name view).0 root_number.0))

-- ---- bytes

-- the body has no zeros after it
no_padding : (n count : ℕ) → n ≡ 20 + 4 * count → padding n ≡ []
no_padding n count is =
    let none : (4 - n % 4) % 4 ≡ 0 = omega (arith, is) in
    ap (λ (k : ℕ). replicate {A = ℕ} k 0) none

-- a credential is seven words and the groups
credential_is : (uid gid count : ℕ) → auth (record { flavour = 1; body = system_body 0 [] (caller uid gid count) })
    ≡ flat_map word (1 ∷ (20 + 4 * count) ∷ 0 ∷ 0 ∷ uid ∷ gid ∷ count ∷ []) ++ flat_map word (numbers_behind gid count)
credential_is uid gid count =
    let body = system_body 0 [] (caller uid gid count) in
    let groups = flat_map word (numbers_behind gid count) in
    let size : length body ≡ 20 + 4 * count = (body_has uid gid count).size in
    ap (λ (p : List ℕ). word 1 ++ (word (length body) ++ (body ++ p))) (no_padding (length body) count size)
    ∙ ap (λ (b : List ℕ). word 1 ++ (word (length body) ++ b)) (append-nil body)
    ∙ ap (λ (n : ℕ). word 1 ++ (word n ++ body)) size
    ∙ ap (λ (n : ℕ). word 1 ++ (word (20 + 4 * count) ++ ((word 0 ++ word 0 ++ word uid ++ word gid) ++ (word n ++ groups)))) (length-numbers_behind gid count)

-- a head is six words, a credential and two words
head_is : (mount : Bool) (procedure : ℕ) (who : Identity) → call_head mount procedure who
    ≡ flat_map word (1 ∷ 0 ∷ 2 ∷ program_number mount ∷ 3 ∷ procedure ∷ []) ++ (auth (record { flavour = 1; body = system_body 0 [] who }) ++ flat_map word (0 ∷ 0 ∷ []))
head_is mount procedure who =
    append-nil _ ∙ append_assoc (flat_map word (1 ∷ 0 ∷ 2 ∷ program_number mount ∷ 3 ∷ procedure ∷ [])) (auth (record { flavour = 1; body = system_body 0 [] who })) (flat_map word (0 ∷ 0 ∷ []))

-- ---- what is appended one after the other

-- one number more after n
pub number_more : (before after : List ℕ) (n count i first place : ℕ) → i < count → first ≡ n → place ≡ i → after ≡ before ++ word (first + place + 1)
    → before ++ flat_map word (numbers_behind (n + i) (count - i)) ≡ after ++ flat_map word (numbers_behind (n + (i + 1)) (count - (i + 1)))
number_more before after n count i first place inside is_first is_place put =
    let rest = flat_map word (numbers_behind (n + (i + 1)) (count - (i + 1))) in
    ap (λ (ns : List ℕ). before ++ flat_map word ns) (next_number n count i inside)
    ∙ sym (append_assoc before (word (n + i + 1)) rest)
    ∙ (λ j. (before ++ word (sym is_first j + sym is_place j + 1)) ++ rest) ∙ ap (λ (bytes : List ℕ). bytes ++ rest) (sym put)

pub credential_put : (before words after : List ℕ) (uid gid count u g k : ℕ) → u ≡ uid → g ≡ gid → k ≡ count
    → words ≡ before ++ flat_map word (1 ∷ (20 + 4 * k) ∷ 0 ∷ 0 ∷ u ∷ g ∷ k ∷ []) → after ≡ words ++ flat_map word (numbers_behind gid count)
    → after ≡ before ++ auth (record { flavour = 1; body = system_body 0 [] (caller uid gid count) })
credential_put before words after uid gid count u g k is_u is_g is_k first second =
    let front = flat_map word (1 ∷ (20 + 4 * count) ∷ 0 ∷ 0 ∷ uid ∷ gid ∷ count ∷ []) in
    let groups = flat_map word (numbers_behind gid count) in
    second ∙ ap (λ (b : List ℕ). b ++ groups) first
    ∙ (λ i. (before ++ flat_map word (1 ∷ (20 + 4 * is_k i) ∷ 0 ∷ 0 ∷ is_u i ∷ is_g i ∷ is_k i ∷ [])) ++ groups)
    ∙ append_assoc before front groups ∙ ap (λ (b : List ℕ). before ++ b) (sym (credential_is uid gid count))

pub head_put : (before words credential after : List ℕ) (mount : Bool) (program procedure p : ℕ) (who : Identity) → program ≡ program_number mount → p ≡ procedure
    → words ≡ before ++ flat_map word (1 ∷ 0 ∷ 2 ∷ program ∷ 3 ∷ p ∷ []) → credential ≡ words ++ auth (record { flavour = 1; body = system_body 0 [] who })
    → after ≡ credential ++ flat_map word (0 ∷ 0 ∷ []) → after ≡ before ++ call_head mount procedure who
head_put before words credential after mount program procedure p who is_program is_p first second third =
    let front = flat_map word (1 ∷ 0 ∷ 2 ∷ program_number mount ∷ 3 ∷ procedure ∷ []) in
    let middle = auth (record { flavour = 1; body = system_body 0 [] who }) in
    let verifier = flat_map word (0 ∷ 0 ∷ []) in
    third ∙ ap (λ (b : List ℕ). b ++ verifier) (second ∙ ap (λ (b : List ℕ). b ++ middle) first)
    ∙ (λ i. ((before ++ flat_map word (1 ∷ 0 ∷ 2 ∷ is_program i ∷ 3 ∷ is_p i ∷ [])) ++ middle) ++ verifier)
    ∙ append_assoc (before ++ front) middle verifier ∙ append_assoc before front (middle ++ verifier)
    ∙ ap (λ (b : List ℕ). before ++ b) (sym (head_is mount procedure who))
