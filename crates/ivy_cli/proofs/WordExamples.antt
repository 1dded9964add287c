-- What some words ask for, computed from the definitions.
use Rattle.std.proofs.Common.{◌≡◌, List, ℕ, [], ◌∷◌, ◌++◌, replicate, codes, Some, None, refl}
use Rattle.hex.proofs.OnLiterals.{hex_on_literals}
use Rattle.hash_signature_model.specs.declared.set.Width.TheVariants.{W4}
use Rattle.hash_signature_model.specs.declared.set.Height.TheVariants.{H5, H10}
use Rattle.script_model.specs.Lines.{command_of}
use Rattle.ivy_cli.specs.declared.words.Asked.TheVariants as asked
use Rattle.ivy_cli.specs.Words.{asked_of}

-- ---- crowds

two_threads : asked_of (codes "crowd" ∷ codes "2" ∷ codes "5" ∷ []) ≡ Some (asked.Crowd 2 5)
two_threads = refl

idle_threads : asked_of (codes "crowd" ∷ codes "16" ∷ codes "0" ∷ []) ≡ Some (asked.Crowd 16 0)
idle_threads = refl

all_calls : asked_of (codes "crowd" ∷ codes "1" ∷ codes "1000" ∷ []) ≡ Some (asked.Crowd 1 1000)
all_calls = refl

too_many_threads : asked_of (codes "crowd" ∷ codes "17" ∷ codes "1" ∷ []) ≡ None
too_many_threads = refl

no_threads : asked_of (codes "crowd" ∷ codes "0" ∷ codes "1" ∷ []) ≡ None
no_threads = refl

too_many_calls : asked_of (codes "crowd" ∷ codes "16" ∷ codes "63" ∷ []) ≡ None
too_many_calls = refl

-- ---- services

abbrev serve : List ℕ → List ℕ → List ℕ → List ℕ → List ℕ → List (List ℕ)
serve port name id seed sets = codes "serve" ∷ port ∷ name ∷ id ∷ seed ∷ sets ∷ []

two_levels : asked_of (serve (codes "2049") (codes "ann") (codes "1") (codes "aa") (codes "w4h10,w4h5"))
    ≡ Some (asked.Serve 2049 (record { name = codes "ann"; id = replicate 15 0 ++ 1 ∷ []; seed = replicate 31 0 ++ 170 ∷ []; sets = record { w = W4; h = H10 } ∷ record { w = W4; h = H5 } ∷ [] }))
unfolding command_of hex_on_literals
two_levels = refl

no_port : asked_of (serve (codes "0") (codes "a") (codes "1") (codes "aa") (codes "w4h5")) ≡ None
no_port = refl

too_great_a_port : asked_of (serve (codes "65536") (codes "a") (codes "1") (codes "aa") (codes "w4h5")) ≡ None
too_great_a_port = refl

-- a word with a blank is no name
two_names : asked_of (serve (codes "1") (codes "a b") (codes "1") (codes "aa") (codes "w4h5")) ≡ None
unfolding command_of
two_names = refl

no_sets : asked_of (serve (codes "1") (codes "a") (codes "1") (codes "aa") (codes "w4h6")) ≡ None
unfolding command_of hex_on_literals
no_sets = refl

-- ---- fork proofs

fork_alone : asked_of (codes "fork" ∷ []) ≡ Some asked.Fork
fork_alone = refl

fork_of_a_file : asked_of (codes "fork" ∷ codes "a" ∷ []) ≡ None
fork_of_a_file = refl
