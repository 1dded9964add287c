-- Parts that the arguments of several procedures share (RFC 1813, section 3.3), with their bounds.
use Rattle.std.specs.Prelude.{ℕ, ◌<◌, ◌≤◌, ◌^◌, List, ◌++◌, length}
use Rattle.wire_model.specs.Xdr.{word, double_word, opaque}
use Rattle.wire_model.specs.Parts.{as_it_stands}
use Rattle.nfs_model.specs.Arguments.{IsHandle, IsShortText}

-- the path of a directory to be mounted
abbrev pub IsPath : List ℕ → Type 0
IsPath path = length path ≤ 1024

-- the bytes that are to be written: a word holds their count
abbrev pub IsData : List ℕ → Type 0
IsData bytes = length bytes < 2 ^ 32

-- how safely bytes are to be written (stable_how)
abbrev pub IsStable : ℕ → Type 0
IsStable stable = stable ≤ 2

-- a name in a directory (diropargs3)
abbrev pub place : List ℕ × List ℕ → List ℕ
place p = opaque p.0 ++ opaque p.1

abbrev pub IsPlace : List ℕ × List ℕ → Type 0
IsPlace p = IsHandle p.0 × IsShortText p.1

-- so many bytes of a file from an offset on
abbrev pub range : (List ℕ × ℕ) × ℕ → List ℕ
range p = opaque p.0.0 ++ double_word p.0.1 ++ word p.1

-- the entries of a directory after a cookie, with the verifier that came with it
abbrev pub page : (List ℕ × ℕ) × List ℕ → List ℕ
page p = opaque p.0.0 ++ double_word p.0.1 ++ as_it_stands p.1
