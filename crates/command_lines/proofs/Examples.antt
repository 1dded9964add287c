-- Lines and what they are, computed from the definition.
use Rattle.std.proofs.Common.{◌≡◌, true, false, [], ◌∷◌, ◌++◌, replicate, codes, Some, None, refl}
use Rattle.hex.proofs.OnLiterals.{hex_on_literals}
use Rattle.hash_signature_model.specs.declared.set.Width.TheVariants.{W4, W8}
use Rattle.hash_signature_model.specs.declared.set.Height.TheVariants.{H5, H10}
use Rattle.script_model.specs.Lines.{command_of}
use Rattle.script_model.specs.declared.command.Piece.TheVariants.{Call, Root, HandleOf, VerifierOf, Text, Opaque, Mode, Word, DoubleWord, Raw}
use Rattle.script_model.specs.declared.command.KeyWord.TheVariants.{Itself, HeadOf, RecordOf, ViewOf, SnapshotOf}
use Rattle.script_model.specs.declared.command.NodeWord.TheVariants.{Numbered, OwnerOf}
use Rattle.script_model.specs.declared.command.Command.TheVariants as command
use Rattle.script_model.specs.declared.command.Shown.TheVariants as shown

-- ---- nodes, logs, views and the moment

ring : command_of (codes "ring 6 3") ≡ Some (command.Ring 6 3)
unfolding command_of
ring = refl

log : command_of (codes "log a 1 aa w4h5") ≡ Some (command.Log (codes "a") (replicate 15 0 ++ 1 ∷ []) (replicate 31 0 ++ 170 ∷ []) (record { w = W4; h = H5 } ∷ []))
unfolding command_of hex_on_literals
log = refl

log_of_three : command_of (codes "log a 1 aa w8h10,w4h10,w8h5")
    ≡ Some (command.Log (codes "a") (replicate 15 0 ++ 1 ∷ []) (replicate 31 0 ++ 170 ∷ []) (record { w = W8; h = H10 } ∷ record { w = W4; h = H10 } ∷ record { w = W8; h = H5 } ∷ []))
unfolding command_of hex_on_literals
log_of_three = refl

no_log_of_four : command_of (codes "log a 1 aa w4h5,w4h5,w4h5,w4h5") ≡ None
unfolding command_of hex_on_literals
no_log_of_four = refl

upper_case : command_of (codes "log A 1 aa w4h5") ≡ None
unfolding command_of
upper_case = refl

view_of_three : command_of (codes "view v a,b,c d,e") ≡ Some (command.View (codes "v") (codes "a" ∷ codes "b" ∷ codes "c" ∷ []) (codes "d" ∷ codes "e" ∷ []))
unfolding command_of
view_of_three = refl

empty_name : command_of (codes "view v a,,b") ≡ None
unfolding command_of
empty_name = refl

use_of_a_view : command_of (codes "use a v") ≡ Some (command.Use (codes "a") (codes "v"))
unfolding command_of
use_of_a_view = refl

moment : command_of (codes "at 5 0") ≡ Some (command.At 5 0)
unfolding command_of
moment = refl

leading_zero : command_of (codes "ring 01 1") ≡ None
unfolding command_of
leading_zero = refl

-- ---- calls

call : command_of (codes "as a nfs:9:0:0 root s:a sa:493") ≡ Some (command.As (codes "a") (Call false 9 0 0 0 ∷ Root ∷ Text (codes "a") ∷ Mode 493 ∷ []))
unfolding command_of
call = refl

call_of_groups : command_of (codes "as a nfs:16:1:2:17 h:1 w:0 v:3 u:4096") ≡ Some (command.As (codes "a") (Call false 16 1 2 17 ∷ HandleOf 1 ∷ DoubleWord 0 ∷ VerifierOf 3 ∷ Word 4096 ∷ []))
unfolding command_of
call_of_groups = refl

mount_call : command_of (codes "as a mnt:1:0:0 s:/ivy") ≡ Some (command.As (codes "a") (Call true 1 0 0 0 ∷ Text (codes "/ivy") ∷ []))
unfolding command_of
mount_call = refl

bytes_and_data : command_of (codes "as a 00ff o:18446744073709551615:41") ≡ Some (command.As (codes "a") (Raw (0 ∷ 255 ∷ []) ∷ Opaque 18446744073709551615 65 ∷ []))
unfolding command_of hex_on_literals
bytes_and_data = refl

last_group_too_great : command_of (codes "as a nfs:0:0:1:4294967295") ≡ None
unfolding command_of
last_group_too_great = refl

too_many_bytes : command_of (codes "as a o:18446744073709551616:41") ≡ None
unfolding command_of
too_many_bytes = refl

odd_digits : command_of (codes "as a 00f") ≡ None
unfolding command_of hex_on_literals
odd_digits = refl

empty_word : command_of (codes "as a 00 ") ≡ None
unfolding command_of hex_on_literals
empty_word = refl

no_piece : command_of (codes "as a") ≡ None
unfolding command_of
no_piece = refl

-- ---- sessions

begun : command_of (codes "open s a nfs:0:0:0") ≡ Some (command.Open (codes "s") (codes "a") (Call false 0 0 0 0 ∷ []))
unfolding command_of
begun = refl

steps : command_of (codes "step s 12") ≡ Some (command.Step (codes "s") 12)
unfolding command_of
steps = refl

finish : command_of (codes "end s") ≡ Some (command.Finish (codes "s"))
unfolding command_of
finish = refl

-- ---- nodes

join : command_of (codes "join 7") ≡ Some (command.Join 7)
unfolding command_of
join = refl

stop : command_of (codes "stop 2") ≡ Some (command.Stop (Numbered 2))
unfolding command_of
stop = refl

stop_of_an_owner : command_of (codes "stop own:1:head:a") ≡ Some (command.Stop (OwnerOf 1 (HeadOf (codes "a"))))
unfolding command_of
stop_of_an_owner = refl

owner_without_a_key : command_of (codes "stop own:1") ≡ None
unfolding command_of
owner_without_a_key = refl

round : command_of (codes "round") ≡ Some command.Round
unfolding command_of
round = refl

lose : command_of (codes "lose 1") ≡ Some (command.Lose 1)
unfolding command_of
lose = refl

damage : command_of (codes "damage own:2:rec:a:3 view:v 10 ff") ≡ Some (command.Damage (OwnerOf 2 (RecordOf (codes "a") 3)) (ViewOf (codes "v")) 10 255)
unfolding command_of hex_on_literals
damage = refl

damage_of_a_key : command_of (codes "damage 1 00000000000000000000000000000000000000ff 0 00") ≡ Some (command.Damage (Numbered 1) (Itself (record { 0 = replicate 19 0 ++ 255 ∷ [] })) 0 0)
unfolding command_of hex_on_literals
damage_of_a_key = refl

damage_of_no_byte : command_of (codes "damage 1 view:v 0 f") ≡ None
unfolding command_of hex_on_literals
damage_of_no_byte = refl

holds : command_of (codes "holds own:1:snap:a") ≡ Some (command.Show (shown.Holds (OwnerOf 1 (SnapshotOf (codes "a")))))
unfolding command_of
holds = refl

-- ---- agents

snap : command_of (codes "snap a") ≡ Some (command.Snap (codes "a"))
unfolding command_of
snap = refl

restart : command_of (codes "restart a") ≡ Some (command.Restart (codes "a"))
unfolding command_of
restart = refl

keep_new : command_of (codes "keep a 1 new") ≡ Some (command.Keep (codes "a") 1 true)
unfolding command_of
keep_new = refl

keep_old : command_of (codes "keep a 1 old") ≡ Some (command.Keep (codes "a") 1 false)
unfolding command_of
keep_old = refl

keep_neither : command_of (codes "keep a 1 none") ≡ None
unfolding command_of
keep_neither = refl

order : command_of (codes "order a") ≡ Some (command.Show (shown.Order (codes "a")))
unfolding command_of
order = refl

work : command_of (codes "work a") ≡ Some (command.Show (shown.Work (codes "a")))
unfolding command_of
work = refl

conflicts : command_of (codes "conflicts a") ≡ Some (command.Show (shown.Conflicts (codes "a")))
unfolding command_of
conflicts = refl

proof : command_of (codes "proof a") ≡ Some (command.Show (shown.Proof (codes "a")))
unfolding command_of
proof = refl

-- ---- lines

end : command_of (codes "end") ≡ Some command.End
unfolding command_of
end = refl

two_blanks : command_of (codes "ring  1 1") ≡ None
unfolding command_of
two_blanks = refl

blank_at_the_end : command_of (codes "round ") ≡ None
unfolding command_of
blank_at_the_end = refl

empty : command_of [] ≡ Some command.Nothing
unfolding command_of
empty = refl

comment : command_of (codes "# end") ≡ Some command.Nothing
unfolding command_of
comment = refl

no_comment : command_of (codes " # end") ≡ None
unfolding command_of
no_comment = refl

no_command : command_of (codes "halt") ≡ None
unfolding command_of
no_command = refl
