-- What is written is written piece by piece.
use Rattle.std.proofs.Common.{◌≡◌, ℕ, ◌^◌, List, [], ◌∷◌, ◌++◌, Option, sym, ap, ◌∙◌, append_assoc}
use Rattle.wire_model.specs.Xdr.{word, double_word, optional}
use Rattle.nfs_model.specs.declared.replies.Fattr.{Fattr}
use Rattle.nfs_model.specs.declared.replies.Wcc.{Wcc}
use Rattle.nfs_model.specs.declared.replies.Reply.TheVariants as reply
use Rattle.nfs_model.specs.Results.{fattr, wcc, write_verifier, many, result}
use Rattle.nfs3_replies.proofs.ReadForms.{space_words, limits_words}
use Rattle.tree_model.specs.Tree.{longest_file}

-- these bytes were put after the first ones
pub record Puts (start done now : List ℕ) : Type 0 where
  pub is : now ≡ start ++ done

pub put : (start piece : List ℕ) {now : List ℕ} → now ≡ start ++ piece → Puts start piece now
put start piece e = record { is = e }

-- and one piece more
pub more : {start done now : List ℕ} (piece : List ℕ) {after : List ℕ} → Puts start done now → after ≡ now ++ piece → Puts start (done ++ piece) after
more {start} {done} piece so_far e = record { is = e ∙ ap (λ (s : List ℕ). s ++ piece) so_far.is ∙ append_assoc start done piece }

-- ---- words that are always the same

pub space_written : (old : List ℕ) (o : Option Fattr) {new : List ℕ} → new ≡ old ++ ((word 0 ++ optional fattr o) ++ many word space_words) → new ≡ old ++ result (reply.Space o)
space_written old o put =
    put ∙ ap (λ (s : List ℕ). old ++ s) (sym (append_assoc (word 0 ++ optional fattr o) (many double_word (2 ^ 40 ∷ 2 ^ 40 ∷ 2 ^ 40 ∷ 2 ^ 32 ∷ 2 ^ 32 ∷ 2 ^ 32 ∷ [])) (word 0)))

abbrev sizes : List ℕ
sizes = many word (8192 ∷ 8192 ∷ 512 ∷ 8192 ∷ 8192 ∷ 512 ∷ 8192 ∷ [])

abbrev properties : List ℕ
properties = many word (0 ∷ 1 ∷ 27 ∷ [])

pub limits_written : (old : List ℕ) (o : Option Fattr) {new : List ℕ} → new ≡ old ++ ((word 0 ++ optional fattr o) ++ many word limits_words) → new ≡ old ++ result (reply.Limits o)
limits_written old o put =
    let start = word 0 ++ optional fattr o in
    put ∙ ap (λ (s : List ℕ). old ++ s) (sym (append_assoc (start ++ sizes) (double_word longest_file) properties ∙ append_assoc start sizes (double_word longest_file ++ properties)))

pub written_written : (old : List ℕ) (w : Wcc) (count : ℕ) {new : List ℕ} → new ≡ old ++ (((word 0 ++ wcc w) ++ word count) ++ many word (2 ∷ 1230395734 ∷ 1163019825 ∷ []))
    → new ≡ old ++ result (reply.Written w count)
written_written old w count put = put ∙ ap (λ (s : List ℕ). old ++ s) (sym (append_assoc ((word 0 ++ wcc w) ++ word count) (word 2) write_verifier))
