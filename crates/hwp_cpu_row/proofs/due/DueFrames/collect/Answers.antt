use Rattle.std.proofs.Common.{◌-◌, ◌++◌, List, vec_capacity, vec_len, ap, arith, ◌∙◌}
use Rattle.hwp_claim.specs.hwp_geom.declared.Frame.{Frame}
use Rattle.hwp_cpu_row.specs.Dues.{DueValue}
use Rattle.hwp_cpu_row.proofs.DueLaws.{due-same}
use Rattle.hwp_cpu_row.proofs.due.DueFrames.collect.Goals as goal

pub returns-clause-ok : goal.returns-clause-ok
returns-clause-ok c =
    let (more, is, collects) = c.collect.ensures in
    let room = c.in_ok-reserve-2.ensures.ok in (
      more,
      vec_capacity c.reserve-2.new.self - vec_len c.reserve-2.new.self,
      due-same _ _ _ _ _ (is ∙ ap (λ (l : List Frame). l ++ more) (c.reserve.ensures.items ∙ ap (λ (d : DueValue). d.frames) c.self.view_is)) (c.reserve-2.ensures.items ∙ ap (λ (d : DueValue). d.offlined) c.self.view_is),
      omega (arith, room),
      collects,
    )
