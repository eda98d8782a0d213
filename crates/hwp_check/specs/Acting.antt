-- What a report is judged by: what its processors acted on, and which stores copied.
use Rattle.std.specs.Prelude.{◌≡◌, List, Option}
use Rattle.hwp_check_rules.specs.hwp_geom.declared.VSlot.{VSlot}
use Rattle.hwp_check_rules.specs.hwp_law.Acting.{acting_script, copied_at}
use Rattle.hwp_check_rules.specs.hwp_report_text.declared.Report.{Report}
use Rattle.hwp_check_rules.specs.hwp_script_words.declared.Script.{Script}
use Rattle.hwp_check_rules.specs.hwp_check_event_line.Reading.{copies_in}
use Rattle.hwp_check_rules.specs.hwp_check_event_line.Scripts.{IsDeclared}

pub record IsActedOn (script : Script) (report : Report) (acted : Script) (copies : List (List (Option VSlot))) : Type 0 where
  pub acted_is : acted ≡ acting_script script report
  pub copies_are : copies_in copies ≡ copied_at script report
  pub declared : IsDeclared acted
