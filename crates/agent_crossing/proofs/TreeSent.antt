-- A tree may go to another thread.
use denote.Param.Send.{IsSend, IsSync, sendable}
use Rattle.std.proofs.Crossing.{crosses}
use Rattle.shared_map.proofs.tree.Tree.TheLaws.TheKnot as tree
use Rattle.ivy_base.proofs.key.Key.TheSendSync as key
use Rattle.dir_replay.specs.contracts.names.Names as Names
use Rattle.dir_replay.specs.contracts.nodes.Nodes as Nodes
use Rattle.dir_replay.specs.contracts.nodes.Node as Node
use Rattle.dir_replay.specs.contracts.entries.Entries as Entries
use Rattle.dir_replay.proofs.name.Name.TheSendSync as name
use Rattle.inode_replay.specs.contracts.pieces.Pieces as Pieces
use Rattle.inode_replay.specs.contracts.bytes.SharedBytes as SharedBytes
use Rattle.inode_replay.specs.contracts.marks.SharedMarks as SharedMarks
use Rattle.inode_replay.specs.contracts.file_bytes.FileBytes as FileBytes
use Rattle.inode_replay.specs.contracts.body.Body as Body
use Rattle.inode_replay.specs.contracts.content.Content as Content
use Rattle.inode_replay.proofs.attr.Attr.TheSendSync as attr
use Rattle.inode_replay.proofs.number.PieceNumber.TheSendSync as number
use Rattle.inode_replay.proofs.ranges.RangeEnd.TheSendSync as end
use Rattle.fs_tree.specs.contracts.contents.Contents as Contents
use Rattle.fs_tree.specs.contracts.tree.Tree as Tree

-- a map's tree, and keys
ruleset knot = (sendable, crosses, tree.both_send-Tree, tree.both_sync-Tree, key.the_send, key.the_sync)

entries_send : IsSend Entries.the_row
entries_send = search (knot, name.the_send, name.the_sync) depth 30

entries_sync : IsSync Entries.the_row
entries_sync = search (knot, name.the_send, name.the_sync) depth 30

node_send : IsSend Node.the_row
node_send = search (knot, entries_send) depth 30

node_sync : IsSync Node.the_row
node_sync = search (knot, entries_sync) depth 30

nodes_send : IsSend Nodes.the_row
nodes_send = search (knot, node_send, node_sync) depth 30

pub names_send : IsSend Names.the_row
names_send = search (sendable, nodes_send) depth 50

pieces_send : IsSend Pieces.the_field.row
pieces_send = search (knot, number.the_send, number.the_sync) depth 30

pieces_sync : IsSync Pieces.the_field.row
pieces_sync = search (knot, number.the_send, number.the_sync) depth 30

bytes_send : IsSend SharedBytes.the_row
bytes_send = search (knot, pieces_send) depth 30

bytes_sync : IsSync SharedBytes.the_row
bytes_sync = search (knot, number.the_send, number.the_sync) depth 30

marks_send : IsSend SharedMarks.the_row
marks_send = search (knot, end.the_send, end.the_sync) depth 30

marks_sync : IsSync SharedMarks.the_row
marks_sync = search (knot, end.the_send, end.the_sync) depth 30

file_send : IsSend FileBytes.the_field.row
file_send = search (knot, bytes_send, marks_send) depth 30

file_sync : IsSync FileBytes.the_field.row
file_sync = search (knot, bytes_sync, marks_sync) depth 30

body_send : IsSend Body.the_field.row
body_send = search (knot, file_send) depth 30

body_sync : IsSync Body.the_field.row
body_sync = search (knot, file_sync) depth 30

content_send : IsSend Content.the_row
content_send = search (knot, attr.the_field_send, body_send) depth 30

content_sync : IsSync Content.the_row
content_sync = search (knot, attr.the_field_sync, body_sync) depth 30

contents_send : IsSend Contents.the_row
contents_send = search (knot, content_send, content_sync) depth 30

pub tree_send : IsSend Tree.the_row
tree_send = search (sendable, names_send, contents_send) depth 30
