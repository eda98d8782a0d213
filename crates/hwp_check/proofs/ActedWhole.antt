-- What a report is judged by: the script itself where it forks no process, or else what its processors acted on.
use Rattle.std.proofs.Common.{◌≡◌, false, List, [], Option, ap, subst, sym, ◌∙◌}
use Rattle.std.proofs.Math.Path.{fun_ext}
use Rattle.hwp_check_rules.specs.hwp_geom.declared.VSlot.{VSlot}
use Rattle.hwp_check_rules.specs.hwp_law.Acting.{acting_script, copied_at}
use Rattle.hwp_check_rules.specs.hwp_law.Commands.{has_fork}
use Rattle.hwp_check_rules.specs.hwp_report_text.declared.Report.{Report}
use Rattle.hwp_check_rules.specs.hwp_script_words.Valid.{IsValid}
use Rattle.hwp_check_rules.specs.hwp_script_words.declared.Script.{Script}
use Rattle.hwp_check_rules.specs.hwp_check_event_line.Reading.{copies_in}
use Rattle.hwp_check_rules.specs.hwp_check_event_line.Scripts.{IsDeclared}
use Rattle.hwp_check_rules.proofs.of_hwp_law.ActingLaws.{acting-script-unforked, copied-at-unforked}
use Rattle.hwp_check_rules.proofs.DeclaredLaws.{acted-declared, valid-declared}
use Rattle.hwp_check.specs.Acting.{IsActedOn}

pub unforked-whole : (script : Script) (report : Report) → IsValid script → has_fork script ≡ false → IsActedOn script report script []
unforked-whole script report valid none = record {
  acted_is = sym (acting-script-unforked script report none);
  copies_are = fun_ext (λ who. sym (copied-at-unforked script report who none));
  declared = valid-declared script valid;
}

pub valid_is_declared : (script : Script) → IsValid script → IsDeclared script
valid_is_declared script valid = valid-declared script valid

pub acted-whole : (script : Script) (report : Report) → IsValid script → (acted : Script) (copies : List (List (Option VSlot))) → acted ≡ acting_script script report → (told : List (List (Option VSlot))) → copies ≡ told
    → copies_in told ≡ copied_at script report → IsActedOn script report acted copies
acted-whole script report valid acted copies acted_is told same copies_are = record {
  acted_is = acted_is;
  copies_are = ap copies_in same ∙ copies_are;
  declared = subst IsDeclared (sym acted_is) (acted-declared script report valid);
}
