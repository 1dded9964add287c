use Rattle.std.proofs.Common.{sym, ap, ◌∙◌}
use Rattle.session_model.specs.Sessions.{pending_block}
use Rattle.view_refresh.specs.States.{Refreshing}
use Rattle.view_refresh.proofs.Giving.{may_be_given}
use Rattle.view_refresh.proofs.refresh.ViewRefresh.give_pending.Goals as goal

pub give_to-requires : goal.give_to-requires
give_to-requires g c =
    let found = sym (c.in-Some-posted.ensures ∙ ap (pending_block c.in-Some.key) (c.as_slice.ensures ∙ ap (λ (r : Refreshing g.row.J.Denot). r.pending) c.self.view_is)) in
    record {
      sound = c.requires.sound;
      wanted = λ none. cc (c.in-Some.ensures ∙ none);
      named = may_be_given c.args.state c.args.self.now.pending c.in-Some.key c.in-Some-posted.bytes.now c.requires.named (sym c.in-Some.ensures) found;
    }

pub returns-in_ok-give_to-in-Some-posted : goal.returns-in_ok-give_to-in-Some-posted
returns-in_ok-give_to-in-Some-posted g c =
    let found = sym (c.in-Some-posted.ensures ∙ ap (pending_block c.in-Some.key) (c.as_slice.ensures ∙ ap (λ (r : Refreshing g.row.J.Denot). r.pending) c.self.view_is)) in
    (c.in-Some.key, c.in-Some-posted.bytes.now, sym c.in-Some.ensures, found, c.in_ok-give_to-in-Some-posted.ensures)
