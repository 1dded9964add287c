-- Small examples, computed; and worked ones, walked through the definitions here. In all of them a refresh asks a route and a get for each thing
-- that it wants (2 asks), members ascend by their keys, and each log begins with one record.
--
-- Three logs b, c, a with one record each, one node. `open s c` MKDIR z: the session begins with c's standing, which holds nothing. Its refresh wants b's head and
-- record, c's own record by its floor, a's head and record: 10 asks, so `step s 10` ends just before the turn. MKDIR x by a and y by b are whole calls between. `end s`: the
-- turn is on b1, c1, a1, so c2 and c3 cite b1 and a1 and weigh 4 and 5; a2 and a3 weigh 4 and 5, b2 and b3, which cite a3 and c1, 6 and 7.
-- Two logs b, c: the refresh of `open s c` has 6 asks; MKDIR d by b comes between them and the turn, both turns are on sets without the other's records, and both replies are of
-- status 0. On the later replay the record of the smaller rank names d.
-- Where b has 101 records the refresh has 2 asks for its head, 202 for its records and 2 for c's own: 206, and the turn comes after them.
-- After c has held b1 to b5: a refresh asks for b's head alone, 2 asks. Its own record then weighs 2 + 5, and b's sixth 6 + 1. Members b,
-- a, c, each held by c: `step s 2` asks for b's head. MKDIR p by b and q by a come then. `end s` gets a's head and a2, a3 (6 asks), but a2
-- cites b3, which isn't among the candidates, so the closed part has neither: the root shows what it did. The next call has both.
-- Five nodes, three replicas: where the first owner's block is corrupted a get goes on to the next owner. Where all three are, the refresh
-- fails by Damaged: status 5, and the note `damaged`. Nine nodes: two owners that stopped are silent and passed over; with the third it
-- fails by Missing: status 10008, and the note `missing`. Members a, b, former c: entering drops what was held and keeps the floor, c's
-- entry being a number then. c's records are in no set, but b2, which cites c3, weighs 2 + 1 + 3. `open s c`, 6 asks, then MKDIR x by b,
-- `snap b`, `restart b`: b's standing names the snapshot, whose basis has the front b3, c1. The look-up of x takes it and applies nothing.
-- After `end s` c2, which cites b1 alone, isn't above it: BelowTide, the agent holds nothing, the session begins again without a snapshot
-- and fetches all six records.
use Rattle.std.specs.Prelude.{◌≡◌, refl, true, false, [], ◌∷◌, codes, Some, None}
use Rattle.dht_ids.specs.declared.post.Post.{Post}
use Rattle.dht_ids.specs.declared.post.PostKind.TheVariants.{Block, Log, Head}
use Rattle.script_model.specs.declared.command.Command.TheVariants as command
use Rattle.script_model.specs.declared.command.KeyWord.TheVariants as key
use Rattle.script_model.specs.declared.command.NodeWord.TheVariants as node
use Rattle.script_model.specs.Lines.{command_of}
use Rattle.session_model.specs.Sessions.{after_put, publishing, Publishing}
use Rattle.world_model.specs.Keepers.{fails_next, fresh_keeper}

-- lines
reads_step : command_of (codes "step s 6") ≡ Some (command.Step (codes "s") 6)
unfolding command_of
reads_step = refl

reads_stop : command_of (codes "stop own:1:rec:a:3") ≡ Some (command.Stop (node.OwnerOf 1 (key.RecordOf (codes "a") 3)))
unfolding command_of
reads_stop = refl

-- a block, a head and two records are put in this order; once the first record isn't acknowledged the head isn't put
abbrev a : Post
a = record { key = record { 0 = [] }; bytes = 1 ∷ []; kind = Block }

abbrev b : Post
b = record { key = record { 0 = [] }; bytes = 2 ∷ []; kind = Head }

abbrev c : Post
c = record { key = record { 0 = [] }; bytes = 3 ∷ []; kind = Log }

abbrev d : Post
d = record { key = record { 0 = [] }; bytes = 4 ∷ []; kind = Log }

in_order : publishing None (a ∷ b ∷ c ∷ d ∷ []) ≡ Publishing None (c ∷ d ∷ a ∷ b ∷ []) []
in_order = refl

head_waits : after_put None c (d ∷ a ∷ b ∷ []) [] false ≡ Publishing None (d ∷ a ∷ []) []
head_waits = refl

-- the second save is planned to fail
second_fails : fails_next (record fresh_keeper { saves = 1; failing = record { number = 2; new = true } ∷ [] }) ≡ true
second_fails = refl
