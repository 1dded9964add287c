use Rattle.std.proofs.Common.{◌∙◌, ap}
use Rattle.std.specs.Option.{is_some}
use Rattle.ivy_service.specs.Service.{idle}
use Rattle.ivy_service.proofs.Ways.{part_of_line, way_served, way_ungated, way_unheard, way_untold, whole_line}
use Rattle.ivy_service.proofs.service.serve_agent.Goals as goal

pub returns-in_default : goal.returns-in_default
returns-in_default g c = idle

pub returns-in-Err : goal.returns-in-Err
returns-in-Err g c = way_unheard _ _ _ _ _ _ _ _ _ _ c.status_refused.ensures (record {
  asked = record { links = c.in-Err.ensures.links; ends = c.in-Err.ensures.ends; faults = c.in-Err.ensures.later };
  cause = c.in-Err.ensures.refused;
})

pub returns-in-Err-write_all : goal.returns-in-Err-write_all
returns-in-Err-write_all g c = way_untold _ _ _ _ _ _ _ _ _ _ c.status_untold.ensures
    (record { links = c.listen.ensures.links; ends = c.listen.ensures.ends; faults = c.listen.ensures.later })
    (part_of_line _ _ _ _ _ (c.as_slice.ensures ∙ c.in-Ok-Ok.ensures') c.in-Err-write_all.ensures.front c.in-Err-write_all.ensures.failed c.write_all.ensures.later)

pub returns-in-Some : goal.returns-in-Some
returns-in-Some g c = way_served _ _ _ _ _ _ _ _ _ _ _ c.in-Some.ensures.served
    (record { links = c.listen.ensures.links; ends = c.listen.ensures.ends; faults = c.listen.ensures.later })
    (whole_line _ _ _ _ (c.as_slice.ensures ∙ c.in-Ok-Ok.ensures') c.in_default-write_all.ensures.ok c.write_all.ensures.later)

pub returns : goal.returns
returns g c = way_ungated _ _ _ _ _ _ _ _ _ (c.serve_behind_gate.ensures.none (ap is_some c.in-None.is))
    (record { links = c.listen.ensures.links; ends = c.listen.ensures.ends; faults = c.listen.ensures.later })
    (whole_line _ _ _ _ (c.as_slice.ensures ∙ c.in-Ok-Ok.ensures') c.in_default-write_all.ensures.ok c.write_all.ensures.later)
