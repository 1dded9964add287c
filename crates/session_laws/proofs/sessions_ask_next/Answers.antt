use Rattle.session_laws.proofs.AskedMachines.{heads_are_asked_next, content_is_asked_next, post_is_asked_next}
use Rattle.session_laws.proofs.sessions_ask_next.Goals as goal

pub returns : goal.returns
returns g c = record { heads = heads_are_asked_next; content = content_is_asked_next; posts = post_is_asked_next }
