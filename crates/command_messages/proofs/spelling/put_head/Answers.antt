use Rattle.command_messages.proofs.Groups.{caller, head_put}
use Rattle.command_messages.proofs.spelling.put_head.Goals as goal

pub returns : goal.returns
returns c =
    head_put c.args.out.now.items c.put_words.new.out.items c.put_credential.new.out.items c.put_words-2.new.out.items c.args.mount c.program_number.result c.args.procedure c.from.result (caller c.args.uid c.args.gid c.args.groups)
    c.program_number.ensures c.from.ensures c.in_ok-put_words.ensures c.in_ok-put_credential.ensures c.in_ok-put_words-2.ensures
