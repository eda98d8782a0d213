-- A loss word that is shown keeps the frame rule.
use Rattle.std.proofs.Common.{slice_index}
use Rattle.hwp_page.specs.hwp_geom.declared.FileNo.{FileNo}
use Rattle.hwp_core_rule.specs.Views.{stamp_of}
use Rattle.hwp_core_rule.proofs.Keeps.{Keeps}
use Rattle.hwp_core_rule.proofs.ShownWords.{explained-loss}
use Rattle.hwp_core_rule.proofs.Sights.{keeps-shown}
use Rattle.hwp_core_rule.proofs.WordsByKind.{word-there}
use Rattle.hwp_core_rule.specs.declared.shared_word.SharedWord.TheVariants as places
use Rattle.hwp_core_rule.specs.declared.step.Step.TheVariants as steps

pub keeps-report_lost : (file : FileNo) → Keeps (steps.ReportLost file)
keeps-report_lost file layout w homes views seat v who content given =
    keeps-shown layout w homes views seat v who (places.Loss file) given.me given.past
    (explained-loss layout w homes views (stamp_of who v) file (slice_index w.losses file.0) (word-there w.losses file.0 layout.files given.shaped.losses given.place)) given.rule
