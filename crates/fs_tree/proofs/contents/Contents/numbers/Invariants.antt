use Rattle.std.proofs.Common.{◌≡◌, ◌++◌, map}
use Rattle.fs_tree.proofs.Numbered.{numbers_of}
use Rattle.fs_tree.proofs.contents.Contents.numbers.Given as goal

-- what was listed and what is left are the numbers of all inodes
abbrev pub invariant-inodes : goal.invariant-inodes
invariant-inodes l = l.numbers.items ++ numbers_of l.ino-iterator.rest.items ≡ map (λ e. e.0) l.self
