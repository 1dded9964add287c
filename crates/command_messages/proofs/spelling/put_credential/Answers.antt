use Rattle.command_messages.proofs.Groups.{credential_put}
use Rattle.command_messages.proofs.spelling.put_credential.Goals as goal

pub returns : goal.returns
returns c =
    credential_put c.args.out.now.items c.put_words.new.out.items c.put_numbers_behind.new.out.items c.args.uid c.args.gid c.args.groups
    c.from.result c.from-2.result c.from-groups_count.result c.from.ensures c.from-2.ensures c.from-groups_count.ensures c.in_ok-put_words.ensures c.in_ok-put_numbers_behind.ensures
