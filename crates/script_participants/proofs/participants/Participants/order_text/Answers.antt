use Rattle.std.proofs.Common.{◌++◌, [], ◌∷◌, length, sym, ◌∙◌}
use Rattle.std.specs.Fmt.{decimal}
use Rattle.std.proofs.lemmas.List.{length-map}
use Rattle.log_records.specs.Records.{record_of, records_of}
use Rattle.script_participants.proofs.Shown.{order_shown}
use Rattle.script_participants.proofs.participants.Participants.order_text.Goals as goal

pub returns : goal.returns
returns c = λ w p has same. order_shown w c.args.self.now has c.args.one.now (length c.order-held.result.now) c.in_ok-text.text.items c.put_records.new.text.items (records_of c.order-held.result.now) c.order-held.ensures.records (sym (length-map c.order-held.result.now record_of))
    (c.in_ok-text.ensures ∙ λ i. c.as_slice.ensures i ++ c.name.ensures i ++ 32 ∷ decimal (length c.order-held.result.now) ++ 10 ∷ []) c.in_ok-put_records.ensures p same
